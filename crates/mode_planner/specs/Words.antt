-- The words for what a part of a query is and for how it is evaluated.
use Rattle.std.specs.Prelude.{ℕ, List, codes}
use Rattle.item_tree.specs.Functions.{name_of}
use Rattle.mode_planner.specs.declared.plan.Label.{Label}
use Rattle.mode_planner.specs.declared.plan.Label.TheVariants as label
use Rattle.mode_planner.specs.declared.plan.Mode.{Mode}
use Rattle.mode_planner.specs.declared.plan.Mode.TheVariants.{Local, Partitioned, Gathered}

abbrev pub label_word : Label → List ℕ
label_word label.For = codes "for"
label_word label.Let = codes "let"
label_word label.Where = codes "where"
label_word label.Group = codes "group"
label_word label.Order = codes "order"
label_word label.Count = codes "count"
label_word label.Return = codes "return"
label_word label.JsonLines = codes "json-lines"
label_word (label.Call id) = name_of id
label_word label.Flwor = codes "flwor"
label_word label.Expression = codes "expression"

abbrev pub mode_word : Mode → List ℕ
mode_word Local = codes "local"
mode_word Partitioned = codes "partitioned"
mode_word Gathered = codes "gathered"
