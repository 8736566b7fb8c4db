-- Numbers, taken from the front of a text. For other crates too.
use Rattle.std.specs.Prelude.{◌≡◌, ◌⊎◌, ◌<◌, ℕ, suc, ◌+◌, Bool, true, false, ◌==◌, ◌||◌, nat_lt, List, [], ◌∷◌, ◌++◌, length, take, drop, Option, Some, None, refl}
use Rattle.std.specs.Char.{is_ascii_digit}
use Rattle.std.specs.List.{list_all}
use Rattle.std.proofs.Common.{sym, ◌∙◌, ap, subst, inl, inr, arith, length-append}
use Rattle.std.proofs.lemmas.Bool.{and_parts, or_parts, not-true, cond_both, cond-true, lt-ltb}
use Rattle.std.proofs.lemmas.List.{drop-drop}
use Rattle.std.proofs.Math.Seq.{take-append_seam, drop-append_seam}
use Rattle.num_fixed.specs.Fronts.{minus_len, sign_len, fraction_len, exponent_len, whole_end, fraction_end, has_number, minus_first, sign_first, fraction_of, exponent_of, whole_at, numeral_front, behind_front, IsMinusOrNone, HasDigits}
use Rattle.num_fixed.specs.Numeral.{Sign, none, plus, minus, Numeral, AreDigits, IsSign, IsFrac, IsExp}
use Rattle.num_fixed.specs.Scan.{behind_sign, digits_len}
use Rattle.num_fixed.proofs.FrontLemmas.{front_is, parts}
use Rattle.num_fixed.proofs.Reading.{digit_no_sign}
use Rattle.json_text.specs.Json.{IsInt, IsJsonNumber}
use Rattle.json_text.specs.inside.Scan.{Part, is_int, is_json_front, numeral_at}

-- a byte that a number could go on with
abbrev pub is_of_number : ℕ → Bool
is_of_number b = (is_ascii_digit b || b == 46) || (b == 101 || b == 69)

-- no number goes on with what stands at the front
abbrev pub Stops : List ℕ → Type 0
Stops [] = Unit {0}
Stops (b ∷ l) = is_of_number b ≡ false

abbrev pub digit_first : List ℕ → Bool
digit_first [] = false
digit_first (b ∷ l) = is_ascii_digit b

abbrev pub point_first : List ℕ → Bool
point_first [] = false
point_first (b ∷ l) = b == 46

abbrev pub letter_first : List ℕ → Bool
letter_first [] = false
letter_first (b ∷ l) = b == 101 || b == 69

stops_parts : (r : List ℕ) → Stops r → (digit_first r ≡ false) × (point_first r ≡ false) × (letter_first r ≡ false)
stops_parts [] h = (refl, refl, refl)
stops_parts (b ∷ r) h =
    let halves = or_parts (is_ascii_digit b || b == 46) (b == 101 || b == 69) h in
    let p = or_parts (is_ascii_digit b) (b == 46) halves.0 in (p.0, p.1, halves.1)

-- ---- what is written is taken

first_digit : (d : ℕ) (ds : List ℕ) → AreDigits (d ∷ ds) → (is_ascii_digit d ≡ true) × AreDigits ds
first_digit d ds h = and_parts (is_ascii_digit d) (list_all is_ascii_digit ds) h

digits_counted : (ds r : List ℕ) → AreDigits ds → digit_first r ≡ false → digits_len (ds ++ r) ≡ length ds
digits_counted [] [] h e = refl
digits_counted [] (b ∷ r) h e = rw e refl
digits_counted (d ∷ ds) r h e =
    let f = first_digit d ds h in let n = digits_counted ds r f.1 e in
    cond-true (is_ascii_digit d) (1 + digits_len (ds ++ r)) 0 f.0 ∙ omega arith

-- so many bytes at the front are a part, and the rest is behind it
abbrev IsTaken : {A : Type 0} → (List ℕ → A) → (List ℕ → ℕ) → A → List ℕ → List ℕ → Type 0
IsTaken part len x l r = (part (take (len l) l) ≡ x) × (drop (len l) l ≡ r)

seam_taken : {A : Type 0} (part : List ℕ → A) (len : List ℕ → ℕ) (x : A) (w r : List ℕ) → len (w ++ r) ≡ length w → part w ≡ x → IsTaken part len x (w ++ r) r
seam_taken part len x w r n e = (ap (λ k. part (take k (w ++ r))) n ∙ ap part (take-append_seam w r) ∙ e, ap (λ k. drop k (w ++ r)) n ∙ drop-append_seam w r)

nothing_taken : {A : Type 0} (part : List ℕ → A) (len : List ℕ → ℕ) (x : A) (l r : List ℕ) → l ≡ r → len r ≡ 0 → part [] ≡ x → IsTaken part len x l r
nothing_taken part len x l r q n e = subst (λ z. IsTaken part len x z r) (sym q) (ap (λ k. part (take k r)) n ∙ e, ap (λ k. drop k r) n)

digits_taken : (ds r : List ℕ) → AreDigits ds → digit_first r ≡ false → IsTaken (λ w. w) digits_len ds (ds ++ r) r
digits_taken ds r h e = seam_taken (λ w. w) digits_len ds ds r (digits_counted ds r h e) refl

minus_taken : (s : Sign) (l a ds : List ℕ) → IsMinusOrNone s → IsInt ds → AreDigits ds → IsSign s l (ds ++ a) → (minus_first l ≡ s) × (drop (minus_len l) l ≡ ds ++ a)
minus_taken none l a [] m i h e = absurd i
minus_taken none l a (d ∷ ds) m i h e = let n = digit_no_sign d (first_digit d ds h).0 in rw (e, n.0) (refl, refl)
minus_taken plus l a ds m i h e = absurd m
minus_taken minus l a ds m i h e = rw e (refl, refl)

no_point : (r : List ℕ) → point_first r ≡ false → fraction_len r ≡ 0
unfolding fraction_len
no_point [] e = refl
no_point (b ∷ r) e = rw e refl

point_counted : (ds r : List ℕ) → AreDigits ds → 0 < length ds → digit_first r ≡ false → fraction_len (46 ∷ (ds ++ r)) ≡ suc (length ds)
unfolding fraction_len
point_counted ds r h s e =
    let n = digits_counted ds r h e in
    cond-true (nat_lt 0 (digits_len (ds ++ r))) (1 + digits_len (ds ++ r)) 0 (lt-ltb 0 (digits_len (ds ++ r)) (omega arith)) ∙ omega arith

frac_taken : (f : Option (List ℕ)) (l r : List ℕ) → IsFrac f l r → HasDigits f → digit_first r ≡ false → point_first r ≡ false → IsTaken fraction_of fraction_len f l r
frac_taken None l r h s e p = nothing_taken fraction_of fraction_len None l r h (no_point r p) refl
frac_taken (Some ds) l r h s e p = subst (λ z. IsTaken fraction_of fraction_len (Some ds) z r) (sym h.1) (seam_taken fraction_of fraction_len (Some ds) (46 ∷ ds) r (point_counted ds r h.0 s e) refl)

-- a sign or none, and digits
abbrev signed_len : List ℕ → ℕ
signed_len l = sign_len l + digits_len (drop (sign_len l) l)

abbrev signed_of : List ℕ → Sign × List ℕ
signed_of l = (sign_first l, behind_sign l)

-- some bytes at the front are a sign or none, and a digit or more
record AreSigned (e : Sign × List ℕ) (l r : List ℕ) : Type 0 where
  front : List ℕ
  splits : l ≡ front ++ r
  some : 0 < digits_len (drop (sign_len l) l)
  long : signed_len l ≡ length front
  said : signed_of front ≡ e

unsigned_none : (d : ℕ) (l : List ℕ) → is_ascii_digit d ≡ true → (sign_len (d ∷ l) ≡ 0) × (signed_of (d ∷ l) ≡ (none, d ∷ l))
unsigned_none d l h = let n = digit_no_sign d h in (rw (n.1, n.0) refl, rw (n.1, n.0) refl)

signed_taken : (s : Sign) (l ds r : List ℕ) → IsSign s l (ds ++ r) → AreDigits ds → 0 < length ds → digit_first r ≡ false → AreSigned (s, ds) l r
signed_taken none l [] r q h s e = absurd (omega arith)
signed_taken none l (d ∷ ds) r q h s e =
    let t = (d ∷ ds) ++ r in
    let zero_len : sign_len t ≡ 0 = (unsigned_none d (ds ++ r) (first_digit d ds h).0).0 in
    let n = digits_counted (d ∷ ds) r h e in
    let same : digits_len (drop (sign_len t) t) ≡ digits_len t = ap (λ k. digits_len (drop k t)) zero_len in
    subst (λ z. AreSigned (none, d ∷ ds) z r) (sym q) (record { front = d ∷ ds; splits = refl; some = omega arith; long = omega arith; said = (unsigned_none d ds (first_digit d ds h).0).1 })
signed_taken plus l ds r q h s e =
    let n = digits_counted ds r h e in
    subst (λ z. AreSigned (plus, ds) z r) (sym q) (record { front = 43 ∷ ds; splits = refl; some = omega arith; long = omega arith; said = refl })
signed_taken minus l ds r q h s e =
    let n = digits_counted ds r h e in
    subst (λ z. AreSigned (minus, ds) z r) (sym q) (record { front = 45 ∷ ds; splits = refl; some = omega arith; long = omega arith; said = refl })

no_letter : (r : List ℕ) → letter_first r ≡ false → exponent_len r ≡ 0
unfolding exponent_len
no_letter [] e = refl
no_letter (b ∷ r) e = rw e refl

letter_counted : (c : ℕ) (m : List ℕ) → (c == 101 || c == 69) ≡ true → 0 < digits_len (drop (sign_len m) m) → exponent_len (c ∷ m) ≡ suc (signed_len m)
unfolding exponent_len
letter_counted c m e h = rw (e, lt-ltb 0 (digits_len (drop (sign_len m) m)) h) (omega arith)

letter_taken : (c : ℕ) (x : Sign × List ℕ) (l m r : List ℕ) → (c == 101 || c == 69) ≡ true → l ≡ c ∷ m → AreSigned x m r → IsTaken exponent_of exponent_len (Some x) l r
letter_taken c x l m r e q h =
    let n : exponent_len (c ∷ (h.front ++ r)) ≡ suc (length h.front) = ap (λ z. exponent_len (c ∷ z)) (sym h.splits) ∙ letter_counted c m e h.some ∙ ap suc h.long in
    subst (λ z. IsTaken exponent_of exponent_len (Some x) z r) (sym (q ∙ ap (λ z. c ∷ z) h.splits)) (seam_taken exponent_of exponent_len (Some x) (c ∷ h.front) r n (ap Some h.said))

exp_taken : (x : Option (Sign × List ℕ)) (l r : List ℕ) → IsExp x l r → digit_first r ≡ false → letter_first r ≡ false → IsTaken exponent_of exponent_len x l r
exp_taken None l r h e d = nothing_taken exponent_of exponent_len None l r h (no_letter r d) refl
exp_taken (Some x) l r h e d =
    let s = signed_taken x.0 h.0 x.1 r h.2 h.3 h.4 e in
    elim h.1 [ inl q ↦ letter_taken 101 x l h.0 r refl q s | inr q ↦ letter_taken 69 x l h.0 r refl q s ]

exp_first : (x : Option (Sign × List ℕ)) (l r : List ℕ) → IsExp x l r → Stops r → (digit_first l ≡ false) × (point_first l ≡ false)
exp_first None l r h s = let p = stops_parts r s in rw h (p.0, p.1)
exp_first (Some x) l r h s = elim h.1 [ inl q ↦ rw q (refl, refl) | inr q ↦ rw q (refl, refl) ]

frac_first : (f : Option (List ℕ)) (l r : List ℕ) → IsFrac f l r → digit_first r ≡ false → digit_first l ≡ false
frac_first None l r h e = rw h e
frac_first (Some ds) l r h e = rw h.1 refl

int_is : (ds : List ℕ) → IsInt ds → is_int ds ≡ true
int_is [] h = absurd h
int_is (d ∷ []) h = refl
int_is (d ∷ e ∷ ds) h = rw h refl

-- the parts at the front are those of the numeral
parts_taken : (n : Numeral) (l r : List ℕ) → IsJsonNumber n l r → Stops r → (numeral_front l ≡ n) × (behind_front l ≡ r)
unfolding numeral_front whole_end
parts_taken n l r h s =
    let k = h.front.numeral in
    let p = stops_parts r s in
    let at = parts l in
    let u = drop (minus_len l) l in
    let x = exp_first n.exp k.behind_frac r k.exp s in
    let f = frac_first n.frac k.behind_int k.behind_frac k.frac x.0 in
    let sign = minus_taken n.sign l k.behind_int n.int h.front.sign h.int k.int k.sign in
    let whole = subst (λ z. IsTaken (λ w. w) digits_len n.int z k.behind_int) (sym sign.1) (digits_taken n.int k.behind_int k.int f) in
    let behind_whole : drop (whole_end l) l ≡ k.behind_int = sym (drop-drop (digits_len u) (minus_len l) l) ∙ whole.1 in
    let frac = subst (λ z. IsTaken fraction_of fraction_len n.frac z k.behind_frac) (sym behind_whole) (frac_taken n.frac k.behind_int k.behind_frac k.frac h.front.frac x.0 x.1) in
    let behind_frac : drop (fraction_end l) l ≡ k.behind_frac = sym at.behind_fraction ∙ frac.1 in
    let exp = subst (λ z. IsTaken exponent_of exponent_len n.exp z r) (sym behind_frac) (exp_taken n.exp k.behind_frac r k.exp p.0 p.2) in
    (λ i. record { sign = sign.0 i; int = whole.0 i; frac = frac.0 i; exp = exp.0 i }, sym at.behind_number ∙ exp.1)

whole_of : (l : List ℕ) (n : Numeral) → numeral_front l ≡ n → whole_at l ≡ n.int
unfolding numeral_front
whole_of l n e = ap (λ (m : Numeral). m.int) e

-- a number is taken where nothing follows that it could go on with
pub numeral_taken : (n : Numeral) (l r : List ℕ) → IsJsonNumber n l r → Stops r → numeral_at l ≡ Some (n, r)
unfolding numeral_at
numeral_taken n l r h s =
    let p = parts_taken n l r h s in
    let json : is_json_front l ≡ true = ap is_int (whole_of l n p.0) ∙ int_is n.int h.int in
    cond-true (is_json_front l) (Some (numeral_front l, behind_front l)) None json ∙ (λ i. Some (p.0 i, p.1 i))

-- a number begins with a minus or a digit
pub number_first : (n : Numeral) (l r : List ℕ) → IsJsonNumber n l r → (b : ℕ) × (m : List ℕ) × (l ≡ b ∷ m) × ((b ≡ 45) ⊎ (is_ascii_digit b ≡ true))
number_first n l r h = begins n.sign n.int h.front.sign h.int h.front.numeral.int h.front.numeral.sign
  where
    begins : (s : Sign) (ds : List ℕ) → IsMinusOrNone s → IsInt ds → AreDigits ds → IsSign s l (ds ++ h.front.numeral.behind_int) → (b : ℕ) × (m : List ℕ) × (l ≡ b ∷ m) × ((b ≡ 45) ⊎ (is_ascii_digit b ≡ true))
    begins plus ds k i d e = absurd k
    begins none [] k i d e = absurd i
    begins none (x ∷ ds) k i d e = (x, ds ++ h.front.numeral.behind_int, e, inr (first_digit x ds d).0)
    begins minus ds k i d e = (45, ds ++ h.front.numeral.behind_int, e, inl refl)

-- ---- what is taken is written

abbrev pub PartIs : {A : Type 0} → (A → List ℕ → Type 0) → Part A → Type 0
PartIs P None = Unit {0}
PartIs P (Some p) = P p.0 p.1

is_int_said : (ds : List ℕ) → is_int ds ≡ true → IsInt ds
is_int_said [] e = absurd cc
is_int_said (d ∷ []) e = tt
is_int_said (d ∷ x ∷ ds) e = not-true _ e

pub int_some : (ds es : List ℕ) → IsInt ds → 0 < length (ds ++ es)
int_some [] es h = absurd h
int_some (d ∷ ds) es h = omega arith

-- a number stands where JSON has one
pub number_there : (l : List ℕ) → is_json_front l ≡ true → has_number l ≡ true
unfolding whole_end fraction_end
number_there l e =
    let some = int_some (whole_at l) [] (is_int_said (whole_at l) e) in
    let none_more = length-append (whole_at l) [] in
    let size = (parts l).size in
    lt-ltb (minus_len l) (fraction_end l) (omega arith)

pub numeral_is : (l : List ℕ) → PartIs (λ n r. IsJsonNumber n l r) (numeral_at l)
unfolding numeral_at numeral_front
numeral_is l =
    cond_both (is_json_front l) _ _ (PartIs (λ n r. IsJsonNumber n l r))
    (λ e. record { front = front_is l (number_there l e); int = is_int_said (whole_at l) e }) (λ _. tt)
