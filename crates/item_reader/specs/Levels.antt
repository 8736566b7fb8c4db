-- What the code's open containers stand for.
use Rattle.std.specs.Prelude.{◌≡◌, ◌<◌, ℕ, ◌+◌, Bool, true, false, List, [], ◌∷◌, ◌++◌, length, map, reverse, take, Some, None}
use Rattle.item_tree.specs.Datum.{Datum, array_of_list, object_of_pairs}
use Rattle.item_tree.specs.Item.{datums}
use Rattle.json_text.specs.Meaning as j
use Rattle.json_text.specs.inside.Build as b
use Rattle.item_reader.specs.declared.levels.Level.{Level}

-- an array or an object, of which the room for the other is not in use
abbrev pub frame_in : Bool → Level → b.Frame
frame_in true l = b.open_array (datums l.items.items)
frame_in false l = b.open_object l.pairs l.key

abbrev pub frame_of : Level → b.Frame
frame_of l = frame_in l.is_array l

-- the innermost stands last
unfoldable pub frames_of : List Level → List b.Frame
frames_of ls = reverse (map frame_of ls)

-- an array or an object that has just opened
abbrev pub empty_frame : Bool → b.Frame
empty_frame true = b.open_array []
empty_frame false = b.open_object [] None

-- the value of a container that closes
abbrev pub value_of : b.Frame → Datum
value_of (b.open_array xs) = array_of_list xs
value_of (b.open_object ps k) = object_of_pairs ps

-- one more value in a container
abbrev pub add_inside : Datum → b.Frame → b.Frame
add_inside x (b.open_array xs) = b.open_array (xs ++ (x ∷ []))
add_inside x (b.open_object ps (Some k)) = b.open_object (j.put k x ps) None
add_inside x (b.open_object ps None) = b.open_object ps None

-- the key of the value that comes next
abbrev pub key_inside : List ℕ → b.Frame → b.Frame
key_inside k (b.open_array xs) = b.open_array xs
key_inside k (b.open_object ps old) = b.open_object ps (Some k)

abbrev pub with_first : (b.Frame → b.Frame) → List b.Frame → List b.Frame
with_first f [] = []
with_first f (x ∷ xs) = f x ∷ xs

-- there is a level behind so many, which stay
abbrev pub HasRoom : ℕ → List Level → List Level → Type 0
HasRoom depth old new = (depth < length new) × (take depth new ≡ take depth old)

-- this frame opens inside so many
abbrev pub Opens : ℕ → b.Frame → List Level → List Level → Type 0
Opens depth f old new =
    (depth < length new) × (frames_of (take (depth + 1) new) ≡ f ∷ frames_of (take depth old))

-- the frame behind so many changes, and is the innermost
abbrev pub OnLast : ℕ → (b.Frame → b.Frame) → List Level → List Level → Type 0
OnLast last f old new =
    frames_of (take (last + 1) new) ≡ with_first f (frames_of (take (last + 1) old))

-- the innermost frame closes, and this is its value
abbrev pub ClosesTo : Datum → List b.Frame → List b.Frame → Type 0
ClosesTo x old new = (f : b.Frame) × (old ≡ f ∷ new) × (x ≡ value_of f)

-- the frame behind so many is the innermost and closes
abbrev pub Closes : ℕ → Datum → List Level → List Level → Type 0
Closes last x old new =
    ClosesTo x (frames_of (take (last + 1) old)) (frames_of (take last new))
