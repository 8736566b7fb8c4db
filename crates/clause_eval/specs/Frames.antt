-- The tuples of a FLWOR as the evaluator has them.
use Rattle.std.specs.Prelude.{List, map, Vec, Option}
use Rattle.std.specs.declared.alloc.Global.{Global}
use Rattle.item_tree.specs.declared.item.Item.{Item}
use Rattle.tuple_rows.specs.Keys.{Keyed, key_list}
use Rattle.query_meaning.specs.Environment.{Tuple}
use Rattle.query_meaning.specs.inside.Views.{tuple_of}
use Rattle.clause_eval.specs.declared.tuples.Frame.{Frame}

abbrev pub frame_tuple : Frame → Tuple
frame_tuple f = tuple_of f.slots.items

abbrev pub frame_tuples : List Frame → List Tuple
frame_tuples fs = map frame_tuple fs

abbrev pub tuples_of : Vec Frame Global → List Tuple
tuples_of v = frame_tuples v.items

-- a tuple with its keys
abbrev pub Entry : Type 0
Entry = Vec (Option Item) Global × Frame

abbrev pub keyed_of : Entry → Keyed
keyed_of e = (key_list e.0, frame_tuple e.1)

abbrev pub keyed_list : List Entry → List Keyed
keyed_list es = map keyed_of es

abbrev pub entries_of : Vec Entry Global → List Keyed
entries_of v = keyed_list v.items
