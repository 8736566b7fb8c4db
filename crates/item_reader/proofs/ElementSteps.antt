-- A number at the front of an array's rest, and the mark behind it.
use Rattle.std.specs.Prelude.{◌≡◌, ◌≤◌, ℕ, ℤ, List, ◌∷◌, Some, None}
use Rattle.std.proofs.Common.{sym, ◌∙◌, ap}
use Rattle.num_fixed.specs.Numeral.{Numeral}
use Rattle.item_tree.specs.Datum.{integer}
use Rattle.json_text.specs.inside.Machine as m
use Rattle.json_text.specs.inside.Scan.{Part, numeral_at}
use Rattle.item_reader.specs.Tokens.{IsInteger, uncons}
use Rattle.item_reader.specs.Rows.{IsElement}
use Rattle.item_reader.proofs.Uncons.{cons_of}
use Rattle.item_reader.proofs.TokenSteps.{token_there, from_digit, stops_there, no_space}

-- the token of a text that begins with a digit
digit_token : (l : List ℕ) (b : ℕ) (r : List ℕ) → uncons l ≡ Some (b, r) → 48 ≤ b → b ≤ 57 → m.token_at l ≡ m.numeral_token (numeral_at l)
digit_token l b r e h k =
    token_there l b r e (stops_there l b r e (no_space b h)) ∙ from_digit b r h k ∙ ap (λ z. m.numeral_token (numeral_at z)) (sym (cons_of l b r e))

of_part : (n : ℤ) (mark : ℕ) (l rest behind : List ℕ) (p : Part Numeral) → m.token_at l ≡ m.numeral_token p → IsInteger n rest (m.numeral_token p) → rest ≡ mark ∷ behind → IsElement (integer n) mark l behind
of_part n mark l rest behind None e h q = absurd h.0
of_part n mark l rest behind (Some p) e h q = (p.0, e ∙ ap (λ z. (m.numeral p.0, z)) (sym h.1 ∙ q), h.0)

pub element_there : (mark : ℕ) (n : ℤ) (l : List ℕ) (b : ℕ) (r rest : List ℕ) (c : ℕ) (behind : List ℕ) → uncons l ≡ Some (b, r) → 48 ≤ b → b ≤ 57 → IsInteger n rest (m.numeral_token (numeral_at l)) → uncons rest ≡ Some (c, behind) → c ≡ mark → IsElement (integer n) mark l behind
element_there mark n l b r rest c behind e h k i q same =
    of_part n mark l rest behind (numeral_at l) (digit_token l b r e h k) i (cons_of rest c behind q ∙ ap (λ z. z ∷ behind) same)
