-- Laws of the definitions of what a command line comes to.
use Rattle.std.specs.Prelude.{◌≡◌, ℕ, List, Option}
use Rattle.outside.specs.World.{World}
use Rattle.rumble_run.specs.Front.{Front, IsFront}
use Rattle.rumble_run.specs.Answer.{Answer, IsAnswer}
use Rattle.rumble_run.specs.Opens.{Search, IsSearch}
use Rattle.rumble_run.specs.declared.command.Command.{Command}

-- a query has a front, and no other
pub record HasOneFront (query : List ℕ) : Type 0 where
  pub some : (front : Front) × IsFront query front
  pub only : (front other : Front) → IsFront query front → IsFront query other → front ≡ other

-- a command line has an answer over a world, and no other
pub record HasOneAnswer (words : List (List ℕ)) (world : World) : Type 0 where
  pub some : (answer : Answer) × IsAnswer words world answer
  pub only : (answer other : Answer) → IsAnswer words world answer → IsAnswer words world other
      → answer ≡ other

-- a command looks for some files over a world, and for no others
pub record HasOneSearch (command : Option Command) (world : World) : Type 0 where
  pub some : (search : Search) × IsSearch command world search
  pub only : (search other : Search) → IsSearch command world search
      → IsSearch command world other → search ≡ other
