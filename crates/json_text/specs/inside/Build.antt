-- How a reader builds an item from events, and so what it makes of a line. Nothing here is part
-- of what a line reads as: `laws` says that it is the same.
use Rattle.std.specs.Prelude.{ℕ, nat_lt, false, List, [], ◌∷◌, ◌++◌, length, Option, Some, None, option_map, Ok, Err, if◌then◌else◌}
use Rattle.num_fixed.specs.Values.{number_in_bounds, said}
use Rattle.num_fixed.specs.declared.number.Number.{Number}
use Rattle.item_tree.specs.Datum.{Datum, null, boolean, text, array_of_list, object_of_pairs}
use Rattle.item_tree.specs.declared.code.Code.TheVariants.{JNDY0021}
use Rattle.json_text.specs.Meaning.{Trouble, number_out, too_deep, Outcome, put, number_datum}
use Rattle.json_text.specs.Line.{Reading, blank, item, fault, code_of, is_blank}
use Rattle.json_text.specs.inside.Machine.{Event, opens_array, opens_object, closes, keyed, a_null, a_boolean, a_number, a_string, Events, value, run}

-- ---- building

-- a number in bounds, or the trouble that it is out of them
abbrev pub number_outcome : Number → Outcome Datum
number_outcome x = if number_in_bounds x then Ok (number_datum x) else Err number_out

-- an open array and its values so far; an open object, its pairs so far, and the key whose value
-- comes
pub data Frame : Type 0 where
  open_array : List Datum → Frame
  open_object : List (List ℕ × Datum) → Option (List ℕ) → Frame

-- the frames, the innermost first; the item; or the first trouble, which stays
pub data Build : Type 0 where
  building : List Frame → Build
  done : Datum → Build
  troubled : Trouble → Build

-- a value is complete
abbrev pub add : Datum → List Frame → Build
add x [] = done x
add x (open_array xs ∷ fs) = building (open_array (xs ++ x ∷ []) ∷ fs)
add x (open_object ps (Some k) ∷ fs) = building (open_object (put k x ps) None ∷ fs)
add x (open_object ps None ∷ fs) = building (open_object ps None ∷ fs)

abbrev pub settle : Outcome Datum → List Frame → Build
settle (Ok x) fs = add x fs
settle (Err t) fs = troubled t

abbrev pub close : List Frame → Build
close [] = building []
close (open_array xs ∷ fs) = add (array_of_list xs) fs
close (open_object ps k ∷ fs) = add (object_of_pairs ps) fs

abbrev pub set_key : List ℕ → List Frame → Build
set_key k [] = building []
set_key k (open_array xs ∷ fs) = building (open_array xs ∷ fs)
set_key k (open_object ps old ∷ fs) = building (open_object ps (Some k) ∷ fs)

abbrev pub push_frame : Frame → List Frame → Build
push_frame f fs = if nat_lt (length fs) 128 then building (f ∷ fs) else troubled too_deep

-- what an event does to the frames
abbrev pub act : Event → List Frame → Build
act opens_array fs = push_frame (open_array []) fs
act opens_object fs = push_frame (open_object [] None) fs
act closes fs = close fs
act (keyed k) fs = set_key k fs
act a_null fs = add null fs
act (a_boolean b) fs = add (boolean b) fs
act (a_number n) fs = settle (number_outcome (said n)) fs
act (a_string cs) fs = add (text cs) fs

abbrev pub perform : Build → Event → Build
perform (building fs) e = act e fs
perform (done x) e = done x
perform (troubled t) e = troubled t

abbrev pub perform_all : Build → List Event → Build
perform_all b [] = b
perform_all b (e ∷ es) = perform_all (perform b e) es

-- what the rest of a text makes of what is built, if it is the rest of one
abbrev pub outcome : Build → Events → Option Build
outcome b r = option_map (perform_all b) r

abbrev pub start : Build
start = building []

-- ---- a line

-- what a reader makes of the whole of a text, if it is one
abbrev pub made : List ℕ → Option Build
made t = outcome start (run (value false) [] t)

abbrev pub reading_of : Option Build → Reading
reading_of None = fault JNDY0021
reading_of (Some (building fs)) = fault JNDY0021
reading_of (Some (done x)) = item x
reading_of (Some (troubled t)) = fault (code_of t)

-- what a reader makes of a line
unfoldable pub reading : List ℕ → Reading
reading line = if is_blank line then blank else reading_of (made line)
