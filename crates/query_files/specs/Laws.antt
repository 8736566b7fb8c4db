-- Laws of the definitions of what a query comes to.
use Rattle.std.specs.Prelude.{◌≡◌, ℕ, List}
use Rattle.outside.specs.World.{World}
use Rattle.query_files.specs.Files.{Reading, IsReading}
use Rattle.query_files.specs.Found.{Found, IsFoundIn}

-- a file that is read alone comes to something, and to nothing else
pub record HasOneReading (bytes : List ℕ) : Type 0 where
  pub some : (reading : Reading) × IsReading bytes reading
  pub only : (reading other : Reading) → IsReading bytes reading → IsReading bytes other
      → reading ≡ other

-- of the query of this name something is found in a world, and nothing else
pub record FindsOne (world : World) (name : List ℕ) : Type 0 where
  pub some : (found : Found) × IsFoundIn world name found
  pub only : (found other : Found) → IsFoundIn world name found → IsFoundIn world name other
      → found ≡ other
