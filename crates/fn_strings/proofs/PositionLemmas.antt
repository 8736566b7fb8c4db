-- Characters by their positions.
use Rattle.std.proofs.Common.{◌≡◌, ℕ, ◌+◌, ◌<◌, ◌≤◌, ℤ, pos, ◌+ℤ◌, ◌<ℤ◌, ◌≤ℤ◌, Bool, true, false, ◌&&◌, List, [], ◌∷◌, ◌++◌, length, drop, get_or, map, refl, sym, ap, ◌∙◌, arith}
use Rattle.std.specs.Prelude.{if◌then◌else◌, int_le, int_lt, encode_utf8}
use Rattle.std.specs.Str.{chars, encode_utf8_all, IsUtf8}
use Rattle.std.specs.Int.{int_max}
use Rattle.std.specs.List.{filter, enumerate_from}
use Rattle.std.proofs.lemmas.Int.{ints, by_lt_z}
use Rattle.std.proofs.lemmas.List.{drop_more, length-append}
use Rattle.value_rules.specs.Sequences.{items_at}
use Rattle.fn_strings.specs.inside.Positions.{at_positions}
use Rattle.fn_strings.proofs.Cuts.{IsCut, cut_is, cut_len}

-- positions are counted from 1
pub items_at_is : (test : ℤ → Bool) (t : List ℕ) → items_at test t ≡ at_positions test (pos 1) t
items_at_is test t = counted 1 t
  where
    one : (b : Bool) (n c : ℕ) (ps : List (ℕ × ℕ)) (more : List ℕ) → map (λ p. p.1) ps ≡ more → map (λ p. p.1) (if b then (n, c) ∷ ps else ps) ≡ (if b then c ∷ more else more)
    one true n c ps more e = ap (λ l. c ∷ l) e
    one false n c ps more e = e

    counted : (n : ℕ) (t : List ℕ) → map (λ p. p.1) (filter (λ p. test (pos p.0)) (enumerate_from n t)) ≡ at_positions test (pos n) t
    counted n [] = refl
    counted n (c ∷ t) = one (test (pos n)) n c (filter (λ p. test (pos p.0)) (enumerate_from (n + 1) t)) (at_positions test (pos n +ℤ pos 1) t) (counted (n + 1) t)

lt_yes : (a b : ℤ) → a <ℤ b → int_lt a b ≡ true
lt_yes a b h = grind (arith, ints)

lt_no : (a b : ℤ) → b ≤ℤ a → int_lt a b ≡ false
lt_no a b h = grind (arith, ints)

le_yes : (a b : ℤ) → a ≤ℤ b → int_le a b ≡ true
le_yes a b h = grind (arith, ints)

le_no : (a b : ℤ) → b <ℤ a → int_le a b ≡ false
le_no a b h = grind (arith, ints)

later : (a p : ℤ) → a ≤ℤ p → a ≤ℤ (p +ℤ pos 1)
later a p h = omega (arith, ints)

next : (a p : ℤ) → p <ℤ a → (p +ℤ pos 1) ≤ℤ a
next a p h = omega (arith, ints)

-- nothing stands before an end that was reached
pub none_before : (end p : ℤ) (t : List ℕ) → end ≤ℤ p → at_positions (λ q. int_lt q end) p t ≡ []
none_before end p [] h = refl
none_before end p (c ∷ t) h = rw (lt_no p end h) (none_before end (p +ℤ pos 1) t (later end p h))

all_behind : (end p : ℤ) (t : List ℕ) → end ≤ℤ p → at_positions (λ q. int_le end q) p t ≡ t
all_behind end p [] h = refl
all_behind end p (c ∷ t) h = rw (le_yes end p h) (ap (λ r. c ∷ r) (all_behind end (p +ℤ pos 1) t (later end p h)))

-- one more character stands before an end
pub one_before : (end p : ℤ) (c : ℕ) (t : List ℕ) → p <ℤ end → at_positions (λ q. int_lt q end) p (c ∷ t) ≡ c ∷ at_positions (λ q. int_lt q end) (p +ℤ pos 1) t
one_before end p c t h = rw (lt_yes p end h) refl

none_behind : (end p : ℤ) (c : ℕ) (t : List ℕ) → p <ℤ end → at_positions (λ q. int_le end q) p (c ∷ t) ≡ at_positions (λ q. int_le end q) (p +ℤ pos 1) t
none_behind end p c t h = rw (le_no end p h) refl

-- what stands before an end, and what does not
pub both_parts : (end p : ℤ) (t : List ℕ) → t ≡ at_positions (λ q. int_lt q end) p t ++ at_positions (λ q. int_le end q) p t
both_parts end p [] = refl
both_parts end p (c ∷ t) = by_lt_z p end
    (λ h. rw (one_before end p c t h, none_behind end p c t h) (ap (λ r. c ∷ r) (both_parts end (p +ℤ pos 1) t)))
    (λ h. rw (none_before end p (c ∷ t) h, all_behind end p (c ∷ t) h) refl)

abbrev within : ℤ → ℤ → ℤ → Bool
within start end q = int_le start q && int_lt q end

-- once the start is reached, only the end matters
from_start : (start end p : ℤ) (t : List ℕ) → start ≤ℤ p → at_positions (within start end) p t ≡ at_positions (λ q. int_lt q end) p t
from_start start end p [] h = refl
from_start start end p (c ∷ t) h = rw (le_yes start p h, from_start start end (p +ℤ pos 1) t (later start p h)) refl

max_same : (a b : ℤ) → b ≤ℤ a → int_max b a ≡ a
max_same a b h = grind (arith, ints)

max_next : (a b : ℤ) → a <ℤ b → int_max b (a +ℤ pos 1) ≡ int_max b a
max_next a b h = grind (arith, ints)

-- what stands between two positions is what stands before the end of what stands from the start on
pub between_is : (start end p : ℤ) (t : List ℕ) → at_positions (within start end) p t ≡ at_positions (λ q. int_lt q end) (int_max start p) (at_positions (λ q. int_le start q) p t)
between_is start end p [] = refl
between_is start end p (c ∷ t) = by_lt_z p start
    (λ h. rw (le_no start p h)
    (between_is start end (p +ℤ pos 1) t
    ∙ ap (λ f. at_positions (λ q. int_lt q end) f (at_positions (λ q. int_le start q) (p +ℤ pos 1) t)) (max_next p start h)))
    (λ h. from_start start end p (c ∷ t) h
    ∙ sym (ap (λ f. at_positions (λ q. int_lt q end) f (at_positions (λ q. int_le start q) p (c ∷ t))) (max_same p start h)
    ∙ ap (at_positions (λ q. int_lt q end) p) (all_behind start p (c ∷ t) h)))

-- ---- how many bytes stand before an end

pub next_is : (cs : List ℕ) (n c : ℕ) → (n < length cs) × (c ≡ get_or cs n c) → drop n cs ≡ c ∷ drop (n + 1) cs
next_is cs n c h = drop_more cs n c h.0 ∙ ap (λ x. x ∷ drop (n + 1) cs) (sym h.1)

pub front_done : (end p : ℤ) (t : List ℕ) → end ≤ℤ p → length (encode_utf8_all (at_positions (λ q. int_lt q end) p t)) ≡ 0
front_done end p t h = ap (λ s. length (encode_utf8_all s)) (none_before end p t h)

pub front_more : (end p : ℤ) (cs : List ℕ) (n c : ℕ) → p <ℤ end → drop n cs ≡ c ∷ drop (n + 1) cs
    → length (encode_utf8_all (at_positions (λ q. int_lt q end) p (drop n cs))) ≡ length (encode_utf8 c) + length (encode_utf8_all (at_positions (λ q. int_lt q end) (p +ℤ pos 1) (drop (n + 1) cs)))
front_more end p cs n c h e =
    ap (λ t. length (encode_utf8_all t)) (ap (at_positions (λ q. int_lt q end) p) e ∙ one_before end p c (drop (n + 1) cs) h)
    ∙ length-append (encode_utf8 c) (encode_utf8_all (at_positions (λ q. int_lt q end) (p +ℤ pos 1) (drop (n + 1) cs)))

pub front_cut : (bs : List ℕ) (end p : ℤ) → IsUtf8 bs → IsCut bs (at_positions (λ q. int_lt q end) p (chars bs)) (at_positions (λ q. int_le end q) p (chars bs))
front_cut bs end p u = cut_is bs _ _ u (both_parts end p (chars bs))

pub front_within : (bs : List ℕ) (end p : ℤ) → IsUtf8 bs → length (encode_utf8_all (at_positions (λ q. int_lt q end) p (chars bs))) ≤ length bs
front_within bs end p u = cut_len bs _ _ (front_cut bs end p u)
