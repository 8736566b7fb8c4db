-- What a text that is parsed reads as.
use Rattle.std.proofs.Common.{◌≡◌, ◌<◌, ℕ, List, [], ◌∷◌, length, Option, Some, None, Result, Ok, ap, ◌∙◌, arith}
use Rattle.std.specs.Prelude.{IfSome}
use Rattle.std.specs.Str.{chars, encode_utf8_all, IsUtf8}
use Rattle.std.proofs.lemmas.Str.{encodes-chars}
use Rattle.item_tree.specs.declared.code.Code.{Code}
use Rattle.item_tree.specs.declared.item.Item.{Item}
use Rattle.item_tree.specs.Item.{datums}
use Rattle.json_text.specs.Line.{Reading, fault}
use Rattle.json_text.specs.inside.Build.{reading}
use Rattle.value_rules.specs.Operands.{optional_string}
use Rattle.fn_objects.specs.Faults.{MayFailWith}
use Rattle.fn_table.specs.Texts.{read_as, parse_json}
use Rattle.fn_call.specs.inside.LineFaults.{raised_or_none}

pub parse_is : (xs : List Item) (bs : List ℕ) → 0 < length xs → optional_string (datums xs) ≡ Ok (chars bs) → IsUtf8 bs → parse_json (datums xs) ≡ read_as (reading bs)
parse_is [] bs some e u = absurd (omega (arith, some))
parse_is (x ∷ xs) bs some e u = rw e (ap (λ l. read_as (reading l)) (encodes-chars bs u))

pub raised : {A : Type 0} (p : Result A Code) (r : Reading) (given : Reading → Result A Code) (o : Option Code) → p ≡ given r → ((c : Code) → MayFailWith (given (fault c)) (raised_or_none (Some c))) → IfSome o (λ c. r ≡ fault c) → MayFailWith p (raised_or_none o)
raised p r given None e f h = tt
raised p r given (Some c) e f h = e ∙ ap given h ∙ f c
