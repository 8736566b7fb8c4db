-- What the code's state stands for.
use Rattle.std.specs.Prelude.{◌≡◌, Bool, true, false, nat_lt, List, length, reverse, Option, Some, None}
use Rattle.item_tree.specs.Item.{datum}
use Rattle.json_text.specs.Meaning as j
use Rattle.json_text.specs.inside.Machine as m
use Rattle.json_text.specs.inside.Build as b
use Rattle.item_reader.specs.declared.build.Trouble.{Trouble}
use Rattle.item_reader.specs.declared.build.Trouble.TheVariants.{NumberOut, TooDeep}
use Rattle.item_reader.specs.declared.build.Progress.{Progress}
use Rattle.item_reader.specs.declared.build.Progress.TheVariants.{Open, Done, Troubled}
use Rattle.item_reader.specs.declared.build.Build.{Build}
use Rattle.item_reader.specs.declared.turn.Mode.{Mode}
use Rattle.item_reader.specs.declared.turn.Mode.TheVariants.{Value, Key, Name, After}

abbrev pub trouble_of : Trouble → j.Trouble
trouble_of NumberOut = j.number_out
trouble_of TooDeep = j.too_deep

abbrev pub is_open : Progress → Bool
is_open Open = true
is_open (Done x) = false
is_open (Troubled t) = false

abbrev pub progress_of : Progress → List b.Frame → b.Build
progress_of Open fs = b.building fs
progress_of (Done x) fs = b.done (datum x)
progress_of (Troubled t) fs = b.troubled (trouble_of t)

abbrev pub build_of : Build → b.Build
build_of x = progress_of x.progress x.levels

-- what is built of a text, if it is one
abbrev pub built_if : Bool → Build → Option b.Build
built_if true x = Some (build_of x)
built_if false x = None

abbrev pub frames_in : Build → List b.Frame
frames_in x = x.levels

-- one more container may open
abbrev pub may_open : b.Build → Bool
may_open (b.building fs) = nat_lt (length fs) 128
may_open (b.done x) = false
may_open (b.troubled t) = false

abbrev pub mode_of : Mode → m.Mode
mode_of (Value f) = m.value f
mode_of (Key f) = m.key f
mode_of Name = m.name
mode_of After = m.after

-- the innermost stands last
unfoldable pub kinds_of : List Bool → m.Kinds
kinds_of ks = reverse ks

-- an event is for what is open, and changes nothing else
abbrev pub on_frames : (List b.Frame → b.Build) → b.Build → b.Build
on_frames f (b.building fs) = f fs
on_frames f (b.done x) = b.done x
on_frames f (b.troubled t) = b.troubled t

-- the code's state before and behind an event
abbrev pub Does : (List b.Frame → b.Build) → Build → Build → Type 0
Does f old new = build_of new ≡ on_frames f (build_of old)
