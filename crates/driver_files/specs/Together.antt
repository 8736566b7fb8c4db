-- What is left of the counts once the files of a driver were opened, used and closed.
use Rattle.std.specs.Prelude.{◌≡◌, ◌<◌, ℕ, List, Option, IfSome}
use Rattle.outside.specs.Counted.{Rose}
use Rattle.outside.specs.Opens.{InputCounts}
use Rattle.outside.specs.World.{World}
use Rattle.driver_files.specs.Counts.{IsBalanced, NoCountFalls, RoseBy}
use Rattle.driver_files.specs.Seats.{driver_opens}

-- in a told world so many files were opened, and none was missing
pub record OpenedTold (n : ℕ) (before after : InputCounts) : Type 0 where
  pub opened : RoseBy n before.opened after.opened
  pub misses : after.misses ≡ before.misses

-- All files that were opened were closed, and the faults are those of the files.
pub record LeavesDriver (world : Option World) (names : List (List ℕ)) (workers wanted failed : ℕ)
    (before after : InputCounts) : Type 0 where
  pub falls : NoCountFalls before after
  pub balanced : IsBalanced before after
  pub told : IfSome world (λ w.
      OpenedTold (driver_opens w workers wanted names) before after)
  pub clean : failed ≡ 0 → after.faults ≡ before.faults
  pub carried : 0 < failed → Rose before.faults after.faults
