-- Texts of at most fourteen bytes, with zeros behind them.
use Rattle.std.proofs.Common.{◌≡◌, ℕ, zero, suc, ◌+◌, ◌-◌, ◌<◌, ◌≤◌, ◌==◌, ◌&&◌, Bool, true, List, [], ◌∷◌, ◌++◌, length, get_or, take, drop, replicate, sym, ap, subst, ◌∙◌, arith, length-take, length-drop, w64}
use Rattle.std.specs.Int.{from_le_bytes, to_le_bytes}
use Rattle.std.specs.Str.{bytes_eq, chars, IsUtf8, IsAscii}
use Rattle.std.proofs.Math.Utf8.{encodes}
use Rattle.std.proofs.lemmas.Bool.Decides.{nat_tests, same_from_decides}
use Rattle.std.proofs.lemmas.List.{take-append-drop, drop-drop, get_or-drop, get_or-take, get_or-replicate, ext_get_or, length-replicate}
use Rattle.std.proofs.lemmas.Nat.{le_bytes_8}
use Rattle.std.proofs.lemmas.Slice.Eq.{bytes_eq-Decides}
use Rattle.std.proofs.lemmas.Str.{encodes-chars, IsUtf8-string_bytes, IsUtf8-from_ascii}
use Rattle.std.specs.Arc.{arc_value}
use Rattle.item_tree.specs.declared.str_bytes.StrBytes.{StrBytes}
use Rattle.item_tree.specs.declared.str_bytes.StrBytes.TheVariants.{Short, Medium, Shared}
use Rattle.item_tree.specs.inside.StrBytes.{IsShort, IsFront, bytes_of, IsHeld}
use Rattle.item_tree.proofs.Members.{both}

-- what two words, of the first eight bytes and of the last eight, tell of the bytes
fourteen : (a b : List ℕ) → take 8 a ≡ take 8 b → drop 6 a ≡ drop 6 b → a ≡ b
fourteen a b front back =
    let last : drop 8 a ≡ drop 8 b = sym (drop-drop 2 6 a) ∙ ap (λ l. drop 2 l) back ∙ drop-drop 2 6 b in
    sym (take-append-drop 8 a) ∙ (λ i. front i ++ last i) ∙ take-append-drop 8 b

-- each number is a byte
abbrev pub AreBytes : List ℕ → Type 0
AreBytes bs = (i : ℕ) → get_or bs i 0 < 256

bytes_behind : (n : ℕ) (bs : List ℕ) → AreBytes bs → AreBytes (drop n bs)
bytes_behind n bs h i = subst (λ x. x < 256) (sym (get_or-drop n bs i 0)) (h (n + i))

bytes_before : (n : ℕ) (bs : List ℕ) → AreBytes bs → AreBytes (take n bs)
bytes_before zero bs h i = omega arith
bytes_before (suc n) [] h i = omega arith
bytes_before (suc n) (b ∷ bs) h zero = h 0
bytes_before (suc n) (b ∷ bs) h (suc i) = bytes_before n bs (λ k. h (suc k)) i

same_number : (x y : ℕ) → (x == y) ≡ true → x ≡ y
same_number x y e = grind (arith, nat_tests)

pub number_same : (x y : ℕ) → x ≡ y → (x == y) ≡ true
number_same x y e = grind (arith, nat_tests)

join : (a b : Bool) → a ≡ true → b ≡ true → (a && b) ≡ true
join a b p q = λ i. p i && q i

-- the words are the same where the bytes are
pub words_decide : (a b : List ℕ) (x y z w : ℕ) → length a ≡ 14 → length b ≡ 14 → AreBytes a → AreBytes b
    → x ≡ from_le_bytes w64 (take 8 a) → y ≡ from_le_bytes w64 (take 8 b) → z ≡ from_le_bytes w64 (drop 6 a) → w ≡ from_le_bytes w64 (drop 6 b)
    → ((x == y) && (z == w)) ≡ bytes_eq a b
words_decide a b x y z w la lb ba bb ex ey ez ew = same_from_decides ((x == y) && (z == w)) (bytes_eq a b) (there, back) (bytes_eq-Decides a b)
  where
    front : x ≡ y → take 8 a ≡ take 8 b
    front e = sym (le_bytes_8 (take 8 a) x (omega (arith, length-take 8 a)) (bytes_before 8 a ba) ex)
        ∙ ap (λ n. to_le_bytes w64 n) e
        ∙ le_bytes_8 (take 8 b) y (omega (arith, length-take 8 b)) (bytes_before 8 b bb) ey

    behind : z ≡ w → drop 6 a ≡ drop 6 b
    behind e = sym (le_bytes_8 (drop 6 a) z (omega (arith, length-drop 6 a)) (bytes_behind 6 a ba) ez)
        ∙ ap (λ n. to_le_bytes w64 n) e
        ∙ le_bytes_8 (drop 6 b) w (omega (arith, length-drop 6 b)) (bytes_behind 6 b bb) ew

    there : ((x == y) && (z == w)) ≡ true → a ≡ b
    there e = let h = both (x == y) (z == w) e in fourteen a b (front (same_number x y h.0)) (behind (same_number z w h.1))

    back : a ≡ b → ((x == y) && (z == w)) ≡ true
    back e = join (x == y) (z == w)
        (number_same x y (ex ∙ ap (λ l. from_le_bytes w64 (take 8 l)) e ∙ sym ey))
        (number_same z w (ez ∙ ap (λ l. from_le_bytes w64 (drop 6 l)) e ∙ sym ew))

-- two short texts are the same where their lengths and all their bytes are
pub short_same : (n m : ℕ) (a b : List ℕ) → IsShort n a → IsShort m b → ((n == m) && bytes_eq a b) ≡ bytes_eq (take n a) (take m b)
short_same n m a b s t = same_from_decides ((n == m) && bytes_eq a b) (bytes_eq (take n a) (take m b)) (there, back) (bytes_eq-Decides (take n a) (take m b))
  where
    there : ((n == m) && bytes_eq a b) ≡ true → take n a ≡ take m b
    there e =
        let h = both (n == m) (bytes_eq a b) e in
        let p = same_number n m h.0 in
        let q = (bytes_eq-Decides a b).0 h.1 in
        λ i. take (p i) (q i)

    back : take n a ≡ take m b → ((n == m) && bytes_eq a b) ≡ true
    back e =
        let k = s.few in
        let l = t.few in
        let p = s.whole in
        let q = t.whole in
        let same : n ≡ m = omega (arith, length-take n a, length-take m b, ap length e) in
        let rest : drop n a ≡ drop m b = s.zeros ∙ ap (λ i. replicate (14 - i) 0) same ∙ sym t.zeros in
        join (n == m) (bytes_eq a b) (number_same n m same)
        ((bytes_eq-Decides a b).1 (sym (take-append-drop n a) ∙ (λ i. e i ++ rest i) ∙ take-append-drop m b))

-- texts are the same where their characters are
pub same_characters : (a b : List ℕ) → IsUtf8 a → IsUtf8 b → bytes_eq a b ≡ bytes_eq (chars a) (chars b)
same_characters a b p q =
    let d = bytes_eq-Decides (chars a) (chars b) in
    same_from_decides (bytes_eq a b) (bytes_eq (chars a) (chars b)) (bytes_eq-Decides a b)
    (λ e. sym (encodes-chars a p) ∙ ap encodes (d.0 e) ∙ encodes-chars b q, λ e. d.1 (ap chars e))

pub is_text : (h : StrBytes) → IsHeld h → IsUtf8 (bytes_of h)
is_text (Short n bytes) s = s.text
is_text (Medium n bytes) s = s.text
is_text (Shared text) s = IsUtf8-string_bytes (arc_value text)

-- a front of ASCII with zeros behind it is held as a short text
pub front_held : (n : ℕ) (bytes front : List ℕ) → n ≤ 14 → 16 ≤ length bytes → length front ≡ 14
    → IsFront n bytes front → IsAscii (take n bytes) → (take n front ≡ take n bytes) × IsShort n front
front_held n bytes front few room len kept ascii =
    (same, record { few = few; whole = len; text = subst IsUtf8 (sym same) (IsUtf8-from_ascii _ ascii); zeros = zeros })
  where
    at : (i : ℕ) → i < n → get_or (take n front) i 0 ≡ get_or (take n bytes) i 0
    at i p = get_or-take n front i 0 p ∙ kept i (omega (arith, p, few, len)) ∙ grind (arith, nat_tests, p, get_or-take n bytes i 0 p)

    same : take n front ≡ take n bytes
    same = ext_get_or 0 (take n front) (take n bytes)
        (omega (arith, length-take n front, length-take n bytes, few, room, len))
        (λ i p. at i (omega (arith, length-take n front, p)))

    behind : (i : ℕ) → i < 14 - n → get_or (drop n front) i 0 ≡ get_or (replicate (14 - n) 0) i 0
    behind i p = get_or-drop n front i 0 ∙ kept (n + i) (omega (arith, p, len)) ∙ grind (arith, nat_tests, p, get_or-replicate (14 - n) i zero zero p)

    zeros : drop n front ≡ replicate (14 - n) 0
    zeros = ext_get_or 0 (drop n front) (replicate (14 - n) 0)
        (omega (arith, length-drop n front, length-replicate (14 - n) zero, len))
        (λ i p. behind i (omega (arith, length-drop n front, p, len)))
