-- A call is looked for among the drivers at its place alone.
use Rattle.std.proofs.Common.{◌≡◌, ◌&&◌, ◌||◌, ◌==◌, Bool, true, false, cond, None, Some, List, [], ◌∷◌, refl, sym, ap, ◌∙◌, ℕ, map}
use Rattle.std.specs.Cmp.Lexicographic.{pointwise}
use Rattle.std.specs.List.{list_any}
use Rattle.std.specs.Str.{bytes_eq}
use Rattle.mode_planner.specs.Beside.{drives, is_driver}
use Rattle.mode_planner.specs.Drivers.{DriverPlan}
use Rattle.mode_planner.specs.inside.Tables.{at_place}

found-more : (p : DriverPlan → Bool) (b q : Bool) (d : DriverPlan) (fs : List DriverPlan) → p d ≡ b && q → list_any p (cond b (d ∷ fs) fs) ≡ (b && q) || list_any p fs
found-more p true q d fs e = ap (λ x. x || list_any p fs) e
found-more p false q d fs e = refl

pub drives-at_place : (call : DriverPlan) (ds : List DriverPlan) → drives (at_place call.place ds) call ≡ drives ds call
drives-at_place call [] = refl
drives-at_place call (d ∷ ds) =
    found-more (is_driver call) (call.place == d.place) (pointwise bytes_eq call.names d.names) d (at_place call.place ds) refl
    ∙ ap (λ x. is_driver call d || x) (drives-at_place call ds)
