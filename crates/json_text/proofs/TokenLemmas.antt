-- Tokens, taken from the front of a text.
use Rattle.std.specs.Prelude.{◌≡◌, ◌⊎◌, ℕ, Bool, true, false, ◌==◌, List, [], ◌∷◌, ◌++◌, length, take, drop, nat_eq, codes, Some, None, refl}
use Rattle.std.specs.Char.{is_ascii_digit}
use Rattle.std.specs.List.{starts_with}
use Rattle.std.specs.Str.{is_utf8}
use Rattle.std.proofs.Common.{sym, ◌∙◌, ap, subst, inl, inr, arith}
use Rattle.std.proofs.lemmas.Bool.{cond_both, eqb-true}
use Rattle.std.proofs.lemmas.Bool.Decides.{nat_tests}
use Rattle.std.proofs.lemmas.List.{take-append-drop}
use Rattle.std.proofs.lemmas.Slice.Eq.{bytes_eq-Decides}
use Rattle.num_fixed.specs.Numeral.{Numeral}
use Rattle.item_tree.specs.JsonString.{Piece, content, IsString}
use Rattle.json_text.specs.Raw.{raw_null, raw_boolean}
use Rattle.json_text.specs.Json.{is_space, Spaces, IsJsonNumber, Value}
use Rattle.json_text.specs.inside.Scan.{Part, plain, pieces_at, spell, string_at, numeral_at}
use Rattle.json_text.specs.inside.Machine.{Token, open_array, close_array, open_object, close_object, comma, colon, null_word, boolean_word, numeral, characters, end, bad, word_at, numeral_token, string_token, token_from, token_at}
use Rattle.json_text.proofs.NumeralLemmas.{Stops, PartIs, numeral_taken, number_first, numeral_is}
use Rattle.json_text.proofs.StringLemmas.{string_taken, Written, pieces_are, string_is}

pub spaces_none : (l : List ℕ) → Spaces l l
spaces_none [] = refl
spaces_none (b ∷ l) = inl refl

-- ---- what is written is taken

pub token_behind_spaces : (l r : List ℕ) → Spaces l r → token_at l ≡ token_at r
unfolding token_at
token_behind_spaces [] r h = ap token_at (sym h)
token_behind_spaces (b ∷ l) r h = elim h [ inl e ↦ ap token_at (sym e) | inr p ↦ rw p.0 (token_behind_spaces l r p.1) ]

-- a number's first byte begins nothing else
pub record BeginsNumber (b : ℕ) : Type 0 where
  space : is_space b ≡ false
  array : ((b == 91) ≡ false) × ((b == 93) ≡ false)
  object : ((b == 123) ≡ false) × ((b == 125) ≡ false)
  mark : ((b == 44) ≡ false) × ((b == 58) ≡ false)
  quote : (b == 34) ≡ false
  word : ((b == 110) ≡ false) × ((b == 116) ≡ false) × ((b == 102) ≡ false)

digit_begins : (b : ℕ) → is_ascii_digit b ≡ true → BeginsNumber b
digit_begins b h =
    record { space = grind (arith, nat_tests); array = (grind (arith, nat_tests), grind (arith, nat_tests)); object = (grind (arith, nat_tests), grind (arith, nat_tests)); mark = (grind (arith, nat_tests), grind (arith, nat_tests)); quote = grind (arith, nat_tests); word = (grind (arith, nat_tests), grind (arith, nat_tests), grind (arith, nat_tests)) }

minus_begins : (b : ℕ) → b ≡ 45 → BeginsNumber b
minus_begins b h = subst BeginsNumber (sym h) (record { space = refl; array = (refl, refl); object = (refl, refl); mark = (refl, refl); quote = refl; word = (refl, refl, refl) })

begins : (b : ℕ) → (b ≡ 45) ⊎ (is_ascii_digit b ≡ true) → BeginsNumber b
begins b h = elim h [ inl e ↦ minus_begins b e | inr e ↦ digit_begins b e ]

from_number : (b : ℕ) (l : List ℕ) → BeginsNumber b → token_at (b ∷ l) ≡ numeral_token (numeral_at (b ∷ l))
unfolding token_at token_from
from_number b l f = rw (f.space, f.array.0, f.array.1, f.object.0, f.object.1, f.mark.0, f.mark.1, f.quote, f.word.0, f.word.1, f.word.2) refl

pub number_token : (n : Numeral) (l r : List ℕ) → IsJsonNumber n l r → Stops r → token_at l ≡ (numeral n, r)
number_token n l r h s =
    let f = number_first n l r h in
    ap token_at f.2 ∙ from_number f.0 f.1 (begins f.0 f.3) ∙ ap (λ m. numeral_token (numeral_at m)) (sym f.2) ∙ ap numeral_token (numeral_taken n l r h s)

pub string_token_at : (cs l r : List ℕ) → IsString cs l r → token_at l ≡ (characters cs, r)
unfolding token_at token_from
string_token_at cs l r h = let t = string_taken cs l r h in rw (t.opened, t.found, t.utf8, t.characters) refl

pub null_token : (l r : List ℕ) → Value raw_null l r → token_at l ≡ (null_word, r)
unfolding token_at token_from
null_token l r h = rw h refl

pub boolean_token : (b : Bool) (l r : List ℕ) → Value (raw_boolean b) l r → token_at l ≡ (boolean_word b, r)
unfolding token_at token_from
boolean_token true l r h = rw h refl
boolean_token false l r h = rw h refl

-- ---- what is taken is written

abbrev pub IsToken : Token → List ℕ → List ℕ → Type 0
IsToken open_array l r = Spaces l (91 ∷ r)
IsToken close_array l r = Spaces l (93 ∷ r)
IsToken open_object l r = Spaces l (123 ∷ r)
IsToken close_object l r = Spaces l (125 ∷ r)
IsToken comma l r = Spaces l (44 ∷ r)
IsToken colon l r = Spaces l (58 ∷ r)
IsToken null_word l r = (a : List ℕ) × Spaces l a × Value raw_null a r
IsToken (boolean_word b) l r = (a : List ℕ) × Spaces l a × Value (raw_boolean b) a r
IsToken (numeral n) l r = (a : List ℕ) × Spaces l a × IsJsonNumber n a r
IsToken (characters cs) l r = (a : List ℕ) × Spaces l a × IsString cs a r
IsToken end l r = Spaces l []
IsToken bad l r = Unit {0}

abbrev pub IsTokenAt : List ℕ → Token × List ℕ → Type 0
IsTokenAt l p = IsToken p.0 l p.1

behind_space : (b : ℕ) (t : Token) (l r : List ℕ) → is_space b ≡ true → IsToken t l r → IsToken t (b ∷ l) r
behind_space b open_array l r e h = inr (e, h)
behind_space b close_array l r e h = inr (e, h)
behind_space b open_object l r e h = inr (e, h)
behind_space b close_object l r e h = inr (e, h)
behind_space b comma l r e h = inr (e, h)
behind_space b colon l r e h = inr (e, h)
behind_space b null_word l r e h = (h.0, inr (e, h.1), h.2)
behind_space b (boolean_word v) l r e h = (h.0, inr (e, h.1), h.2)
behind_space b (numeral n) l r e h = (h.0, inr (e, h.1), h.2)
behind_space b (characters cs) l r e h = (h.0, inr (e, h.1), h.2)
behind_space b end l r e h = inr (e, h)
behind_space b bad l r e h = tt

-- a list that begins with a word is the word and the rest
starts_as : (l w : List ℕ) → starts_with nat_eq l w ≡ true → l ≡ w ++ drop (length w) l
starts_as l w h = sym (take-append-drop (length w) l) ∙ ap (λ x. x ++ drop (length w) l) (sym ((bytes_eq-Decides w (take (length w) l)).0 h))

word_sound : (b : ℕ) (w : List ℕ) (t : Token) (l : List ℕ) → ((r : List ℕ) → l ≡ w ++ r → IsToken t (b ∷ l) r) → IsTokenAt (b ∷ l) (word_at w t l)
word_sound b w t l h = cond_both (starts_with nat_eq l w) _ _ (IsTokenAt (b ∷ l)) (λ e. h (drop (length w) l) (starts_as l w e)) (λ _. tt)

string_sound : (l : List ℕ) (r : Part (List Piece)) → Written l r → IsTokenAt (34 ∷ l) (string_token (spell r))
string_sound l None h = tt
string_sound l (Some p) h = cond_both (is_utf8 (content p.0)) _ _ (IsTokenAt (34 ∷ l)) (λ u. (34 ∷ l, inl refl, string_is l p.0 p.1 h u)) (λ _. tt)

number_sound : (l : List ℕ) (r : Part Numeral) → PartIs (λ n rest. IsJsonNumber n l rest) r → IsTokenAt l (numeral_token r)
number_sound l None h = tt
number_sound l (Some p) h = (l, spaces_none l, h)

from_word : (b c : ℕ) (w : List ℕ) (t : Token) (l : List ℕ) → ((a r : List ℕ) → a ≡ c ∷ (w ++ r) → IsToken t a r) → (b == c) ≡ true → IsTokenAt (b ∷ l) (word_at w t l)
from_word b c w t l h e = word_sound b w t l (λ r q. h (b ∷ l) r (ap (λ y. y ∷ l) (eqb-true b c e) ∙ ap (λ m. c ∷ m) q))

from_quote : (b : ℕ) (l : List ℕ) → (b == 34) ≡ true → IsTokenAt (b ∷ l) (string_token (string_at l))
from_quote b l e = subst (λ y. IsTokenAt (y ∷ l) (string_token (string_at l))) (sym (eqb-true b 34 e)) (string_sound l (pieces_at plain l) (pieces_are l))

from_sound : (b : ℕ) (l : List ℕ) → IsTokenAt (b ∷ l) (token_from b l)
unfolding token_from
from_sound b l =
    let P : Token × List ℕ → Type 0 = IsTokenAt (b ∷ l) in
    let mark : (c : ℕ) → (b == c) ≡ true → Spaces (b ∷ l) (c ∷ l) = λ c e. inl (ap (λ y. y ∷ l) (sym (eqb-true b c e))) in
    cond_both (b == 91) _ _ P (mark 91) (λ _. cond_both (b == 93) _ _ P (mark 93) (λ _. cond_both (b == 123) _ _ P (mark 123) (λ _. cond_both (b == 125) _ _ P (mark 125) (λ _.
    cond_both (b == 44) _ _ P (mark 44) (λ _. cond_both (b == 58) _ _ P (mark 58) (λ _.
    cond_both (b == 34) _ _ P (from_quote b l) (λ _.
    cond_both (b == 110) _ _ P (from_word b 110 (codes "ull") null_word l (λ a r q. (a, spaces_none a, q))) (λ _.
    cond_both (b == 116) _ _ P (from_word b 116 (codes "rue") (boolean_word true) l (λ a r q. (a, spaces_none a, q))) (λ _.
    cond_both (b == 102) _ _ P (from_word b 102 (codes "alse") (boolean_word false) l (λ a r q. (a, spaces_none a, q))) (λ _.
    number_sound (b ∷ l) (numeral_at (b ∷ l)) (numeral_is (b ∷ l))))))))))))

pub token_sound : (l : List ℕ) → IsTokenAt l (token_at l)
unfolding token_at
token_sound [] = refl
token_sound (b ∷ l) = cond_both (is_space b) _ _ (IsTokenAt (b ∷ l)) (λ e. behind_space b (token_at l).0 l (token_at l).1 e (token_sound l)) (λ _. from_sound b l)
