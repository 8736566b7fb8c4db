-- Texts, and their tokens or their refusals.
use Rattle.std.specs.Prelude.{◌≡◌, ◌<◌, ◌≤◌, ℕ, zero, suc, ◌+◌, nat_lt, if◌then◌else◌, List, [], ◌∷◌, ◌++◌, length, drop, codes, map, refl, IfSome}
use Rattle.std.proofs.Common.{subst, arith, length-drop}
use Rattle.std.proofs.lemmas.Bool.{cond_both, ltb-true, ltb-false}
use Rattle.item_tree.specs.JsonString.{code_unit}
use Rattle.item_tree.specs.declared.code.Code.{Code}
use Rattle.item_tree.specs.declared.code.Code.TheVariants.{XPST0003, PJST0004}
use Rattle.num_fixed.specs.Values.{near_natural, near, units_said}
use Rattle.json_text.specs.inside.Scan.{pieces_at}
use Rattle.query_lexer.specs.Bytes.{is_letter, is_name_byte, is_blank, is_mark, is_double_mark}
use Rattle.query_lexer.specs.Comments.{opens, closes}
use Rattle.query_lexer.specs.Lexes.{runs_on, goes, Stands, Tokens, Refused}
use Rattle.query_lexer.specs.Scan.{name_length, var_at, fraction_at, exponent_at, number_at, numeral_of, is_out, string_length, mark_at, token_at, step_at}
use Rattle.num_fixed.specs.Fronts.{fraction_len, exponent_len}
use Rattle.query_lexer.specs.declared.token.TokenKind.{TokenKind}
use Rattle.query_lexer.specs.declared.token.TokenKind.TheVariants as k
use Rattle.query_lexer.specs.declared.token.Token.{Token}
use Rattle.query_lexer.specs.declared.steps.Step.{Step}
use Rattle.query_lexer.specs.declared.steps.Step.TheVariants as step
use Rattle.query_lexer.proofs.StepLemmas.{step_stands}
use Rattle.query_lexer.proofs.PathLemmas.{Done, start_done, skip_done, take_done, end_done, refuse_done, step_forward}

data Outcome : Type 0 where
  listed : List Token → Outcome
  refused : Code → ℕ → Outcome
  stuck : Outcome

abbrev IsOutcome : List ℕ → Outcome → Type 0
IsOutcome text (listed ts) = Tokens text ts
IsOutcome text (refused c place) = Refused text c place
IsOutcome text stuck = Unit {0}

abbrev next : Step → ℕ → List Token → (ℕ → List Token → Outcome) → Outcome
next (step.Skip n) at items go = go (at + n) items
next (step.Take kind n) at items go = go (at + n) (items ++ record { kind = kind; from = at; to = at + n } ∷ [])
next (step.Refuse c) at items go = refused c at

-- at most this many steps, from a place on
abbrev walk : ℕ → List ℕ → ℕ → List Token → Outcome
walk zero text at items = stuck
walk (suc n) text at items = if nat_lt at (length text) then next (step_at (drop at text)) at items (walk n text) else listed items

next_holds : (text : List ℕ) (at : ℕ) (items : List Token) (go : ℕ → List Token → Outcome) → at ≤ length text → Done text at items → ((to : ℕ) (more : List Token) → to ≤ length text → Done text to more → IsOutcome text (go to more)) → (s : Step) → Stands (drop at text) s → IfSome (goes s) (λ m. (0 < m) × (m ≤ length (drop at text))) → IsOutcome text (next s at items go)
next_holds text at items go within done holds (step.Skip m) stands far = holds (at + m) items (omega (arith, far.1, length-drop at text)) (skip_done text at m items done stands)
next_holds text at items go within done holds (step.Take kind m) stands far = holds (at + m) (items ++ record { kind = kind; from = at; to = at + m } ∷ []) (omega (arith, far.1, length-drop at text)) (take_done text at m kind items done stands)
next_holds text at items go within done holds (step.Refuse c) stands far = refuse_done text at c items done within stands

walked : (n : ℕ) (text : List ℕ) (at : ℕ) (items : List Token) → at ≤ length text → Done text at items → IsOutcome text (walk n text at items)
walked zero text at items within done = tt
walked (suc n) text at items within done =
    cond_both (nat_lt at (length text)) _ _ (IsOutcome text)
    (λ e. let stands = step_stands (drop at text) (omega (arith, ltb-true at (length text) e, length-drop at text)) in
    next_holds text at items (walk n text) within done (λ to more in_text read. walked n text to more in_text read) (step_at (drop at text)) stands (step_forward (drop at text) (step_at (drop at text)) stands))
    (λ e. end_done text at items done (ltb-false at (length text) e))

abbrev Row : Type 0
Row = List ℕ × Outcome

abbrev outcome : List ℕ → Outcome
outcome text = walk (suc (length text)) text 0 []

abbrev AllHold : List Row → Type 0
AllHold [] = Unit {0}
AllHold (r ∷ rs) = IsOutcome r.0 r.1 × AllHold rs

all_hold : (rows : List Row) → map (λ r. outcome r.0) rows ≡ map (λ r. r.1) rows → AllHold rows
all_hold [] e = tt
all_hold (r ∷ rs) e =
    let first : outcome r.0 ≡ r.1 = cc in
    let others : map (λ q. outcome q.0) rs ≡ map (λ q. q.1) rs = cc in
    (subst (IsOutcome r.0) first (walked (suc (length r.0)) r.0 0 [] (omega arith) (start_done r.0)), all_hold rs others)

abbrev token : TokenKind → ℕ → ℕ → Token
token kind from to = record { kind = kind; from = from; to = to }

word_rows : List Row
word_rows =
    (codes "$$$x", listed (token k.Context 0 2 ∷ token k.Var 2 4 ∷ []))
    ∷ (codes "a $", refused XPST0003 2)
    ∷ (codes "$err:code", listed (token k.Var 0 9 ∷ []))
    ∷ (codes "$err:codex", listed (token k.Var 0 4 ∷ token k.Mark 4 5 ∷ token k.Name 5 10 ∷ []))
    ∷ (codes "{||}", listed (token k.Mark 0 2 ∷ token k.Mark 2 4 ∷ []))
    ∷ (codes "||}", listed (token k.Mark 0 2 ∷ token k.Mark 2 3 ∷ []))
    ∷ (codes "a%", refused XPST0003 1)
    ∷ []

words_hold : AllHold word_rows
unfolding word_rows step_at token_at name_length var_at fraction_len exponent_len fraction_at exponent_at number_at mark_at is_out runs_on is_letter is_name_byte is_blank is_mark is_double_mark opens closes
words_hold = all_hold word_rows refl

number_rows : List Row
number_rows =
    (codes "1.", listed (token k.Int 0 1 ∷ token k.Mark 1 2 ∷ []))
    ∷ (codes ".5", listed (token k.Dec 0 2 ∷ []))
    ∷ (codes "1..2", listed (token k.Int 0 1 ∷ token k.Mark 1 2 ∷ token k.Dec 2 4 ∷ []))
    ∷ (codes "1.5.2", listed (token k.Dec 0 3 ∷ token k.Dec 3 5 ∷ []))
    ∷ (codes "1e5", listed (token k.Double 0 3 ∷ []))
    ∷ (codes "1e", refused XPST0003 0)
    ∷ (codes "1e5x", refused XPST0003 0)
    ∷ (codes "1_", refused XPST0003 0)
    ∷ (codes "99999999999999999999", listed (token k.Int 0 20 ∷ []))
    ∷ (codes "100000000000000000000", refused PJST0004 0)
    ∷ (codes "100000000000000000000x", refused XPST0003 0)
    ∷ (codes "99999999999999999999.9999994", listed (token k.Dec 0 28 ∷ []))
    ∷ (codes " 99999999999999999999.9999995", refused PJST0004 1)
    ∷ []

numbers_hold : AllHold number_rows
unfolding number_rows step_at token_at name_length fraction_len exponent_len fraction_at exponent_at number_at mark_at numeral_of is_out near_natural near units_said runs_on is_letter is_name_byte is_blank is_mark is_double_mark opens closes
numbers_hold = all_hold number_rows refl

string_rows : List Row
string_rows =
    (codes "(: a (: b :) c :) x", listed (token k.Name 18 19 ∷ []))
    ∷ (codes "(:)", refused XPST0003 0)
    ∷ (codes "a (: b (: c :)", refused XPST0003 2)
    ∷ (codes "\"\\n\\u00e9\" b", listed (token k.Text 0 10 ∷ token k.Name 11 12 ∷ []))
    ∷ (codes "\"a", refused XPST0003 0)
    ∷ (34 ∷ 9 ∷ 34 ∷ [], refused XPST0003 0)
    ∷ (codes "\"\\x\"", refused XPST0003 0)
    ∷ (34 ∷ 195 ∷ 169 ∷ 34 ∷ 32 ∷ 195 ∷ 169 ∷ [], refused XPST0003 5)
    ∷ []

strings_hold : AllHold string_rows
unfolding string_rows step_at token_at name_length fraction_len exponent_len fraction_at exponent_at number_at mark_at string_length pieces_at code_unit is_out runs_on is_letter is_name_byte is_blank is_mark is_double_mark opens closes
strings_hold = all_hold string_rows refl
