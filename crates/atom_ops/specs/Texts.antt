-- The texts of two operands, put together.
use Rattle.std.specs.Prelude.{List, ◌++◌, Result, Ok}
use Rattle.item_tree.specs.declared.code.Code.{Code}
use Rattle.item_tree.specs.Datum.{Datum, text}
use Rattle.value_rules.specs.Operands.{and_then, optional_atomic}
use Rattle.value_rules.specs.Strings.{optional_text}

abbrev pub joined_texts : List Datum → List Datum → Result Datum Code
joined_texts vs ws =
    and_then (optional_atomic vs) (λ x.
    and_then (optional_atomic ws) (λ y. Ok (text (optional_text x ++ optional_text y))))
