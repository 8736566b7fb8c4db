-- The code of lists of open containers, by which a proof tells them apart.
use Rattle.std.specs.Prelude.{◌≡◌, ◌⊎◌, ℕ, List, Option, refl}
use Rattle.std.proofs.Common.{inl, inr}
use Rattle.std.specs.Coded.{Coded, code_by, coded_list, coded_option, coded×, coded⊎, coded_ℕ}
use Rattle.item_tree.specs.Datum.{Datum}
use Rattle.item_tree.specs.DatumCode.{datum_code}
use Rattle.json_text.specs.inside.Build.{Frame, open_array, open_object}

-- the values of an array, or the pairs of an object and the key that waits
abbrev Parts : Type 0
Parts = List Datum ⊎ (List (List ℕ × Datum) × Option (List ℕ))

abbrev parts : Frame → Parts
parts (open_array xs) = inl xs
parts (open_object ps k) = inr (ps, k)

abbrev frame : Parts → Frame
frame (inl xs) = open_array xs
frame (inr p) = open_object p.0 p.1

pub frame-parts : (f : Frame) → frame (parts f) ≡ f
frame-parts (open_array xs) = refl
frame-parts (open_object ps k) = refl

abbrev parts_code : Coded Parts
parts_code =
    coded⊎ (coded_list datum_code)
    (coded× (coded_list (coded× (coded_list coded_ℕ) datum_code))
    (coded_option (coded_list coded_ℕ)))

abbrev pub frames_code : Coded (List Frame)
frames_code = coded_list (code_by Parts parts_code parts frame frame-parts)
