-- A function value that reads what stands inside a form.
use Rattle.std.specs.Prelude.{◌<◌, ◌-◌, ℕ, Bool, Result}
use Rattle.std.specs.declared.alloc.Global.{Global}
use denote.Ref.{MutBor}
use Rattle.grammar_parts.specs.declared.cursor.Cursor.{Cursor}
use Rattle.grammar_parts.specs.declared.cursor.Stop.{Stop}
use Rattle.grammar_parts.specs.Reads.{ReadsAs}
use Rattle.grammar_parts.specs.Levels.{Step, inside}

-- It may be called with one form less, and then reads the part of that name as it stands inside a
-- form.
pub record Nests {T I A R : Type 0} (step : Step T I A) (view : R → A) (wide : Bool) (depth : ℕ)
    (pre : Global → Bool → ℕ → I → MutBor (Cursor T) → Type 0)
    (post : Global → Bool → ℕ → I → MutBor (Cursor T) → Result R Stop → MutBor (Cursor T) → Type 0)
    : Type 0 where
  pub callable : (alloc : Global) (part : I) (old : MutBor (Cursor T)) → 0 < depth
      → pre alloc wide (depth - 1) part old
  pub reads : (alloc : Global) (part : I) (old new : MutBor (Cursor T)) (answer : Result R Stop)
      → 0 < depth → post alloc wide (depth - 1) part old answer new
      → ReadsAs view ((inside step wide depth part).read old.now.rest.now) answer new.now.rest.now
