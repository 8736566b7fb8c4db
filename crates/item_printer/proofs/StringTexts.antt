-- The text of a string from its bytes.
use Rattle.std.proofs.Common.{◌≡◌, ℕ, zero, suc, ◌+◌, ◌<◌, ◌≤◌, Bool, true, false, nat_lt, cond, List, [], ◌∷◌, ◌++◌, length, get_or, take, drop, refl, sym, ap, ap₂, ◌∙◌, arith, append_assoc, append-nil, inl, inr, Some, None, not, subst}
use Rattle.std.specs.List.{position, position_or_len}
use Rattle.std.proofs.lemmas.List.{take-append-drop, drop_more}
use Rattle.std.proofs.Math.Seq.{take-length}
use Rattle.std.proofs.lemmas.List.Sums.{prefix_len_passes}
use Rattle.std.proofs.lemmas.List.Quantifiers.{position-Some}
use Rattle.std.proofs.lemmas.Bool.{cases_lt, not-true}
use Rattle.std.proofs.lemmas.Bool.Decides.{nat_tests}
use Rattle.std.proofs.lemmas.Str.{encode_ascii, inside_one}
use Rattle.std.specs.Str.{encode_utf8_all}
use Rattle.std.specs.Char.{encode_utf8}
use Rattle.item_tree.specs.ItemText.{character_text, characters_text}
use Rattle.item_printer.proofs.Cuts.{Partway}
use Rattle.item_printer.specs.StringBytes.{byte_text, bytes_text, is_escaped}

pub bytes_text-append : (xs ys : List ℕ) → bytes_text (xs ++ ys) ≡ bytes_text xs ++ bytes_text ys
bytes_text-append [] ys = refl
bytes_text-append (x ∷ xs) ys = ap (λ l. byte_text x ++ l) (bytes_text-append xs ys) ∙ sym (append_assoc (byte_text x) (bytes_text xs) (bytes_text ys))

high_text : (b : ℕ) → 128 ≤ b → byte_text b ≡ b ∷ []
high_text b h = let e : nat_lt b 128 ≡ false = grind (arith, nat_tests) in rw e refl

low_text : (b : ℕ) → b < 128 → byte_text b ≡ character_text b
low_text b h = let e : nat_lt b 128 ≡ true = grind (arith, nat_tests) in rw e refl

high_bytes : (xs : List ℕ) → ((k : ℕ) → k < length xs → 128 ≤ get_or xs k 0) → bytes_text xs ≡ xs
high_bytes [] h = refl
high_bytes (x ∷ xs) h = ap₂ (λ (a b : List ℕ). a ++ b) (high_text x (h 0 (omega arith))) (high_bytes xs (λ k l. h (suc k) (omega arith)))

-- a character from 128 on stands for itself
high_character : (c : ℕ) → 128 ≤ c → character_text c ≡ encode_utf8 c
unfolding encode_utf8
high_character c h = grind (arith, nat_tests)

one_character : (c : ℕ) → bytes_text (encode_utf8 c) ≡ character_text c
one_character c = elim (cases_lt c 128) [
  | inl low ↦ ap bytes_text (encode_ascii c low) ∙ append-nil (byte_text c) ∙ low_text c low
  | inr big ↦
      let high : (k : ℕ) → k < length (encode_utf8 c) → 128 ≤ get_or (encode_utf8 c) k 0 = λ k below. elim (cases_lt (get_or (encode_utf8 c) k 0) 128) [
        | inl low ↦ absurd (omega (arith, inside_one c [] (encode_utf8 c) k (sym (append-nil _)) below low))
        | inr h ↦ h
      ] in
      high_bytes (encode_utf8 c) high ∙ sym (high_character c big)
]

pub characters_text_of : (cs : List ℕ) → bytes_text (encode_utf8_all cs) ≡ characters_text cs
characters_text_of [] = refl
characters_text_of (c ∷ cs) = bytes_text-append (encode_utf8 c) (encode_utf8_all cs) ∙ ap₂ (λ (a b : List ℕ). a ++ b) (one_character c) (characters_text_of cs)

-- a byte that is not escaped stands for itself
plain_text : (b : ℕ) → is_escaped b ≡ false → byte_text b ≡ b ∷ []
unfolding encode_utf8
plain_text b e = grind (arith, nat_tests)

plain_front : (n : ℕ) (xs : List ℕ) → ((k : ℕ) → k < n → k < length xs → is_escaped (get_or xs k 0) ≡ false) → bytes_text (take n xs) ≡ take n xs
plain_front zero xs h = refl
plain_front (suc n) [] h = refl
plain_front (suc n) (x ∷ xs) h =
    ap₂ (λ (a b : List ℕ). a ++ b) (plain_text x (h 0 (omega arith) (omega arith))) (plain_front n xs (λ k l m. h (suc k) (omega arith) (omega arith)))

-- what stands before the first escape, the escape, and the rest
pub front_then : (xs : List ℕ) (n : ℕ) → position is_escaped xs ≡ Some n → bytes_text xs ≡ take n xs ++ (byte_text (get_or xs n 0) ++ bytes_text (drop (n + 1) xs))
front_then xs n e =
    let p = position-Some is_escaped xs n 0 e in
    ap bytes_text (sym (take-append-drop n xs))
    ∙ bytes_text-append (take n xs) (drop n xs)
    ∙ ap₂ (λ (a b : List ℕ). a ++ b) (plain_front n xs (λ k l m. p.2 k l)) (ap bytes_text (drop_more xs n 0 p.0))

-- where no byte is escaped
pub all_plain : (xs : List ℕ) → position is_escaped xs ≡ None → bytes_text xs ≡ xs
all_plain xs e = ap bytes_text (sym (take-length xs)) ∙ plain_front (length xs) xs (λ k l m. passes k (nat_lt (position_or_len is_escaped xs) (length xs)) refl m) ∙ take-length xs
  where
    passes : (k : ℕ) (b : Bool) → nat_lt (position_or_len is_escaped xs) (length xs) ≡ b → k < length xs → is_escaped (get_or xs k 0) ≡ false
    passes k true t m = absurd (let f : Some (position_or_len is_escaped xs) ≡ None = sym (ap (λ b. cond b (Some (position_or_len is_escaped xs)) None) t) ∙ e in cc)
    passes k false t m =
        let lt : k < position_or_len is_escaped xs = grind (arith, nat_tests) in
        not-true (is_escaped (get_or xs k 0)) (prefix_len_passes (λ x. not (is_escaped x)) xs k 0 lt)

pub at_escape : (text rest : List ℕ) (at : ℕ) (old out : List ℕ) → Partway text (bytes_text rest) old out → position is_escaped rest ≡ Some at
    → Partway text (take at rest ++ (byte_text (get_or rest at 0) ++ bytes_text (drop (at + 1) rest))) old out
at_escape text rest at old out p e = subst (λ t. Partway text t old out) (front_then rest at e) p

pub at_end : (text rest old out : List ℕ) → Partway text (bytes_text rest) old out → position is_escaped rest ≡ None → Partway text rest old out
at_end text rest old out p e = subst (λ t. Partway text t old out) (all_plain rest e) p
