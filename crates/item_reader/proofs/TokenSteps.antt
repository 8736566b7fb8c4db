-- Steps to the next token.
use Rattle.std.specs.Prelude.{◌≡◌, ◌≤◌, ◌==◌, ◌||◌, ℕ, Bool, true, false, List, [], ◌∷◌, Some, None, refl}
use Rattle.std.proofs.Common.{sym, ◌∙◌, ap, arith}
use Rattle.json_text.specs.Json.{is_space}
use Rattle.std.proofs.lemmas.Bool.{ne_eqb}
use Rattle.json_text.specs.inside.Scan.{string_at, numeral_at}
use Rattle.json_text.specs.inside.Machine.{end, token_from, token_at, string_token, numeral_token}
use Rattle.item_reader.specs.declared.token.Token.TheVariants.{OpenArray, CloseArray, OpenObject, CloseObject, Comma, Colon}
use Rattle.item_reader.specs.Tokens.{IsPart, is_mark, uncons, begins}
use Rattle.item_reader.proofs.Uncons.{cons_of, nil_of}

space_first : (b : ℕ) (l : List ℕ) → is_space b ≡ true → token_at (b ∷ l) ≡ token_at l
unfolding token_at
space_first b l e = rw e refl

pub space_skipped : (l : List ℕ) (b : ℕ) (r : List ℕ) → uncons l ≡ Some (b, r) → is_space b ≡ true → token_at l ≡ token_at r
space_skipped l b r h e = ap token_at (cons_of l b r h) ∙ space_first b r e

pub stops_there : (l : List ℕ) (b : ℕ) (r : List ℕ) → uncons l ≡ Some (b, r) → is_space b ≡ false → begins is_space l ≡ false
stops_there l b r h e = ap (begins is_space) (cons_of l b r h) ∙ e

-- no digit is a space
pub no_space : (b : ℕ) → 48 ≤ b → is_space b ≡ false
no_space b h = rw (ne_eqb b 32 (λ e. absurd (omega arith)), ne_eqb b 9 (λ e. absurd (omega arith)), ne_eqb b 10 (λ e. absurd (omega arith)), ne_eqb b 13 (λ e. absurd (omega arith))) refl

pub stops_at_end : (l : List ℕ) → uncons l ≡ None → begins is_space l ≡ false
stops_at_end l h = ap (begins is_space) (nil_of l h)

none_first : (b : ℕ) (l : List ℕ) → is_space b ≡ false → token_at (b ∷ l) ≡ token_from b l
unfolding token_at
none_first b l e = rw e refl

pub token_there : (l : List ℕ) (b : ℕ) (r : List ℕ) → uncons l ≡ Some (b, r) → begins is_space l ≡ false → token_at l ≡ token_from b r
token_there l b r h e =
    let c = cons_of l b r h in ap token_at c ∙ none_first b r (sym (ap (begins is_space) c) ∙ e)

end_there : token_at [] ≡ (end, [])
unfolding token_at
end_there = refl

pub at_end : (l : List ℕ) → uncons l ≡ None → token_at l ≡ (end, [])
at_end l h = ap token_at (nil_of l h) ∙ end_there

-- ---- marks

pub from_open_array : (b : ℕ) (l : List ℕ) → b ≡ 91 → IsPart OpenArray l (token_from b l)
unfolding token_from
from_open_array b l e = rw e (refl, refl)

pub from_close_array : (b : ℕ) (l : List ℕ) → b ≡ 93 → IsPart CloseArray l (token_from b l)
unfolding token_from
from_close_array b l e = rw e (refl, refl)

pub from_open_object : (b : ℕ) (l : List ℕ) → b ≡ 123 → IsPart OpenObject l (token_from b l)
unfolding token_from
from_open_object b l e = rw e (refl, refl)

pub from_close_object : (b : ℕ) (l : List ℕ) → b ≡ 125 → IsPart CloseObject l (token_from b l)
unfolding token_from
from_close_object b l e = rw e (refl, refl)

pub from_comma : (b : ℕ) (l : List ℕ) → b ≡ 44 → IsPart Comma l (token_from b l)
unfolding token_from
from_comma b l e = rw e (refl, refl)

pub from_colon : (b : ℕ) (l : List ℕ) → b ≡ 58 → IsPart Colon l (token_from b l)
unfolding token_from
from_colon b l e = rw e (refl, refl)

pub from_quote : (b : ℕ) (l : List ℕ) → b ≡ 34 → token_from b l ≡ string_token (string_at l)
unfolding token_from
from_quote b l e = rw e refl

none_of : (a b c d e f : Bool) → (a || b || c || d || e || f) ≡ false → (a ≡ false) × (b ≡ false) × (c ≡ false) × (d ≡ false) × (e ≡ false) × (f ≡ false)
none_of true b c d e f h = absurd cc
none_of false true c d e f h = absurd cc
none_of false false true d e f h = absurd cc
none_of false false false true e f h = absurd cc
none_of false false false false true f h = absurd cc
none_of false false false false false true h = absurd cc
none_of false false false false false false h = (refl, refl, refl, refl, refl, refl)

pub no_mark : (b : ℕ) → (b ≡ 91 → ⊥) → (b ≡ 93 → ⊥) → (b ≡ 123 → ⊥) → (b ≡ 125 → ⊥) → (b ≡ 44 → ⊥) → (b ≡ 58 → ⊥) → is_mark b ≡ false
no_mark b p q r s t u = rw (ne_eqb b 91 p, ne_eqb b 93 q, ne_eqb b 123 r, ne_eqb b 125 s, ne_eqb b 44 t, ne_eqb b 58 u) refl

-- a number begins with no mark, no quote and no letter of a word
pub from_number : (b : ℕ) (l : List ℕ) → is_mark b ≡ false → (b ≡ 34 → ⊥) → (b ≡ 110 → ⊥) → (b ≡ 116 → ⊥) → (b ≡ 102 → ⊥) → token_from b l ≡ numeral_token (numeral_at (b ∷ l))
unfolding token_from
from_number b l h p q r s =
    let n = none_of (b == 91) (b == 93) (b == 123) (b == 125) (b == 44) (b == 58) h in
    rw (n.0, n.1, n.2, n.3, n.4, n.5, ne_eqb b 34 p, ne_eqb b 110 q, ne_eqb b 116 r, ne_eqb b 102 s) refl

pub from_digit : (b : ℕ) (l : List ℕ) → 48 ≤ b → b ≤ 57 → token_from b l ≡ numeral_token (numeral_at (b ∷ l))
from_digit b l h k =
    let mark = no_mark b (λ e. absurd (omega arith)) (λ e. absurd (omega arith)) (λ e. absurd (omega arith)) (λ e. absurd (omega arith)) (λ e. absurd (omega arith)) (λ e. absurd (omega arith)) in
    from_number b l mark (λ e. absurd (omega arith)) (λ e. absurd (omega arith)) (λ e. absurd (omega arith)) (λ e. absurd (omega arith))
