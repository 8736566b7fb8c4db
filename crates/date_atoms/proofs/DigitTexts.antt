-- Digits of a number, and what stands at the front of a text.
use Rattle.std.proofs.Common.{◌≡◌, ℕ, zero, suc, ◌+◌, ◌-◌, ◌*◌, ◌/◌, ◌%◌, ◌^◌, ◌<◌, ◌≤◌, Bool, true, false, ◌&&◌, List, [], ◌∷◌, ◌++◌, length, get_or, take, drop, refl, sym, ap, subst, ◌∙◌, arith, append_assoc, length-append}
use Rattle.std.specs.Char.{is_ascii_digit}
use Rattle.std.specs.List.{list_all}
use Rattle.std.proofs.Math.Nat.{pow-succ', pow-le-pow_right}
use Rattle.std.proofs.Math.Seq.{take-append_seam}
use Rattle.std.proofs.lemmas.Bool.Decides.{nat_tests}
use Rattle.std.proofs.lemmas.List.{take_more}
use Rattle.std.proofs.lemmas.List.Folds.{list_all_at, list_all-append}
use Rattle.item_tree.specs.Digits.{last_digits}
use Rattle.item_tree.specs.Dates.{Date, days_in_month}
use Rattle.date_atoms.specs.Texts.{IsDateText, minutes_text}
use Rattle.date_atoms.specs.inside.Fronts.{IsNumber, IsNumberFront, IsTriple}

power : (n : ℕ) → 10 ^ suc n ≡ 10 * 10 ^ n
power n = pow-succ' 10 n

-- a number of eight digits or fewer takes another
pub room : (count n : ℕ) → count ≤ 8 → n < 10 ^ count → n < 10 ^ 8
room count n h k =
    let p : 10 ^ count ≤ 10 ^ 8 = pow-le-pow_right (omega arith) h in
    omega (arith, k, p)

head_same : (a b : ℕ) (r s : List ℕ) → a ∷ r ≡ b ∷ s → a ≡ b
head_same a b r s e = ap (λ l. get_or l 0 0) e

tail_same : (a b : ℕ) (r s : List ℕ) → a ∷ r ≡ b ∷ s → r ≡ s
tail_same a b r s e = ap (λ l. drop 1 l) e

-- digits at the front are those of one number
pub same_front : (count m n : ℕ) (r s : List ℕ) → m < 10 ^ count → n < 10 ^ count → last_digits count m ++ r ≡ last_digits count n ++ s → (m ≡ n) × (r ≡ s)
same_front zero m n r s h k e = (omega arith, e)
same_front (suc count) m n r s h k e =
    let p = power count in
    let f = sym (append_assoc (last_digits count (m / 10)) ((48 + m % 10) ∷ []) r) ∙ e ∙ append_assoc (last_digits count (n / 10)) ((48 + n % 10) ∷ []) s in
    let both = same_front count (m / 10) (n / 10) ((48 + m % 10) ∷ r) ((48 + n % 10) ∷ s) (omega (arith, p, h)) (omega (arith, p, k)) f in
    let d = head_same (48 + m % 10) (48 + n % 10) r s both.1 in
    (omega (arith, both.0, d), tail_same (48 + m % 10) (48 + n % 10) r s both.1)

pub length_digits : (count n : ℕ) → length (last_digits count n) ≡ count
length_digits zero n = refl
length_digits (suc count) n =
    omega (arith, length-append (last_digits count (n / 10)) ((48 + n % 10) ∷ []), length_digits count (n / 10))

digit_made : (n : ℕ) → is_ascii_digit (48 + n % 10) ≡ true
digit_made n = grind (arith, nat_tests)

both_true : (a b : Bool) → a ≡ true → b ≡ true → (a && b) ≡ true
both_true a b e f = λ i. e i && f i

pub all_digits : (count n : ℕ) → list_all is_ascii_digit (last_digits count n) ≡ true
all_digits zero n = refl
all_digits (suc count) n =
    list_all-append is_ascii_digit (last_digits count (n / 10)) ((48 + n % 10) ∷ [])
    ∙ both_true _ _ (all_digits count (n / 10)) (both_true _ _ (digit_made n) refl)

-- where a byte is no digit, no number is spelled
pub no_number : (digits : List ℕ) (i : ℕ) → i < length digits → is_ascii_digit (get_or digits i 0) ≡ false → (n : ℕ) → ¬ IsNumber (length digits) digits n
no_number digits i l e n h =
    let none = list_all_at is_ascii_digit digits i 0 l e in
    let all = ap (list_all is_ascii_digit) h.1 ∙ all_digits (length digits) n in
    cc

-- another digit behind those of a number
pub digit_more : (digits : List ℕ) (i n x : ℕ) → i < length digits → get_or digits i 0 ≡ x → 48 ≤ x → x ≤ 57 → n < 10 ^ i → take i digits ≡ last_digits i n → (n * 10 + (x - 48) < 10 ^ (i + 1)) × (take (i + 1) digits ≡ last_digits (i + 1) (n * 10 + (x - 48)))
digit_more digits i n x l e low high small spelled =
    let p = power i in
    let s : suc i ≡ i + 1 = omega arith in
    let q : (n * 10 + (x - 48)) / 10 ≡ n = omega arith in
    let r : 48 + (n * 10 + (x - 48)) % 10 ≡ x = omega arith in
    let t : take (i + 1) digits ≡ last_digits (suc i) (n * 10 + (x - 48)) =
    take_more digits i 0 l ∙ (λ j. spelled j ++ e j ∷ []) ∙ sym (λ j. last_digits i (q j) ++ r j ∷ []) in
    let u : n * 10 + (x - 48) < 10 ^ suc i = omega (arith, p, small) in
    (subst (λ k. n * 10 + (x - 48) < 10 ^ k) s u, subst (λ k. take (i + 1) digits ≡ last_digits k (n * 10 + (x - 48))) s t)

pub no_shorter : (count : ℕ) (bytes : List ℕ) → length bytes < count → (n : ℕ) (rest : List ℕ) → ¬ IsNumberFront count bytes n rest
no_shorter count bytes l n rest h =
    omega (arith, ap length h.1, length-append (last_digits count n) rest, length_digits count n)

-- the digits at the front are so many bytes
pub front_taken : (count : ℕ) (bytes : List ℕ) (n : ℕ) (rest : List ℕ) → IsNumberFront count bytes n rest → IsNumber count (take count bytes) n
front_taken count bytes n rest h =
    let size = length_digits count n in
    (h.0, ap (take count) h.1 ∙ subst (λ k. take k (last_digits count n ++ rest) ≡ last_digits count n) size (take-append_seam (last_digits count n) rest))

-- what is behind the first of three numbers, and behind the second
abbrev third_behind : ℕ → ℕ → List ℕ → List ℕ
third_behind mark c rest = mark ∷ (last_digits 2 c ++ rest)

abbrev second_behind : ℕ → ℕ → ℕ → List ℕ → List ℕ
second_behind mark b c rest = mark ∷ (last_digits 2 b ++ third_behind mark c rest)

behind_first : (width mark : ℕ) (bytes : List ℕ) (m : ℕ) (behind : List ℕ) (a b c : ℕ) (rest : List ℕ) → IsNumberFront width bytes m behind → IsTriple width mark bytes a b c rest → behind ≡ second_behind mark b c rest
behind_first width mark bytes m behind a b c rest h k =
    (same_front width m a behind (second_behind mark b c rest) h.0 k.0 (sym h.1 ∙ k.3)).1

behind_second : (mark : ℕ) (behind first second : List ℕ) (m b c : ℕ) (rest : List ℕ) → behind ≡ mark ∷ first → IsNumberFront 2 first m second → b < 100 → behind ≡ second_behind mark b c rest → second ≡ third_behind mark c rest
behind_second mark behind first second m b c rest e h l k =
    (same_front 2 m b second (third_behind mark c rest) h.0 l (sym h.1 ∙ tail_same mark mark first (last_digits 2 b ++ third_behind mark c rest) (sym e ∙ k))).1

-- no number stands behind a mark
abbrev IsUnmarked : ℕ → List ℕ → Type 0
IsUnmarked mark bytes = (behind : List ℕ) (n : ℕ) (rest : List ℕ) → bytes ≡ mark ∷ behind → ¬ IsNumberFront 2 behind n rest

-- then there are no three numbers
pub no_second : (width mark : ℕ) (bytes : List ℕ) (m : ℕ) (behind : List ℕ) → IsNumberFront width bytes m behind → IsUnmarked mark behind → (a b c : ℕ) (rest : List ℕ) → ¬ IsTriple width mark bytes a b c rest
no_second width mark bytes m behind h none a b c rest k =
    none (last_digits 2 b ++ third_behind mark c rest) b (third_behind mark c rest) (behind_first width mark bytes m behind a b c rest h k) (k.1, refl)

pub no_third : (width mark : ℕ) (bytes : List ℕ) (m : ℕ) (behind first : List ℕ) (n : ℕ) (second : List ℕ) → IsNumberFront width bytes m behind → behind ≡ mark ∷ first → IsNumberFront 2 first n second → IsUnmarked mark second
    → (a b c : ℕ) (rest : List ℕ) → ¬ IsTriple width mark bytes a b c rest
no_third width mark bytes m behind first n second h e l none a b c rest k =
    none (last_digits 2 c ++ rest) c rest (behind_second mark behind first second n b c rest e l k.1 (behind_first width mark bytes m behind a b c rest h k)) (k.2, refl)

pub digit_bounds : (b : ℕ) → is_ascii_digit b ≡ true → (48 ≤ b) × (b ≤ 57)
digit_bounds b h = grind (arith, nat_tests)

pub front_missed : (count : ℕ) (bytes digits : List ℕ) → digits ≡ take count bytes → ((n : ℕ) → ¬ IsNumber (length digits) digits n) → (n : ℕ) (rest : List ℕ) → ¬ IsNumberFront count bytes n rest
front_missed count bytes digits e none n rest h =
    let k = front_taken count bytes n rest h in
    let same : digits ≡ last_digits count n = e ∙ k.1 in
    let size : length digits ≡ count = ap length same ∙ length_digits count n in
    none n (subst (λ j. IsNumber j digits n) (sym size) (k.0, same))

-- the digits behind a mark, behind two digits
pub no_minutes : (bytes : List ℕ) (n : ℕ) (behind : List ℕ) → IsNumberFront 2 bytes n behind → IsUnmarked 58 behind → (m : ℕ) → m < 1440 → ¬ (bytes ≡ minutes_text m)
no_minutes bytes n behind h none m l e =
    let rest = (same_front 2 n (m / 60) behind (58 ∷ last_digits 2 (m % 60)) h.0 (omega arith) (sym h.1 ∙ e)).1 in
    none (last_digits 2 (m % 60)) (m % 60) [] rest (omega arith, refl)

-- the three numbers of a date
pub date_triple : (bytes : List ℕ) (d : Date) → IsDateText d bytes → IsTriple 4 45 bytes d.year d.month d.day []
date_triple bytes d h =
    let most : days_in_month d.year d.month ≤ 31 = grind arith in
    (omega (arith, h.0.0.1), omega (arith, h.0.1.1), omega (arith, h.0.2.1, most), h.1)

-- three numbers with marks are those of one text
pub triple_same : (width mark : ℕ) (bytes : List ℕ) (a b c x y z : ℕ) (r s : List ℕ) → IsTriple width mark bytes a b c r → IsTriple width mark bytes x y z s → (a ≡ x) × (b ≡ y) × (c ≡ z) × (r ≡ s)
triple_same width mark bytes a b c x y z r s h k =
    let first = same_front width a x (second_behind mark b c r) (second_behind mark y z s) h.0 k.0 (sym h.3 ∙ k.3) in
    let second = same_front 2 b y (third_behind mark c r) (third_behind mark z s) h.1 k.1 (tail_same mark mark (last_digits 2 b ++ third_behind mark c r) (last_digits 2 y ++ third_behind mark z s) first.1) in
    let third = same_front 2 c z r s h.2 k.2 (tail_same mark mark (last_digits 2 c ++ r) (last_digits 2 z ++ s) second.1) in
    (first.0, second.0, third.0, third.1)
