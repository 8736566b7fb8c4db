-- The first function of each name and number of arguments.
use Rattle.std.specs.Prelude.{◌≡◌, ℕ, ◌==◌, ◌&&◌, Option, Some, None, List, [], ◌∷◌, Vec, position, if◌then◌else◌}
use Rattle.std.specs.List.{All}
use Rattle.std.specs.Str.{bytes_eq, chars, encode_utf8_all}
use Rattle.std.specs.Borrow.{Bor}
use Rattle.std.specs.BTreeMap.{BTreeMap}
use Rattle.std.specs.declared.alloc.Global.{Global}
use Rattle.name_scopes.specs.declared.stacks.Place.{Place}
use Rattle.name_scopes.specs.declared.functions.Function.{Function}
use Rattle.name_scopes.specs.inside.Stacks.{stack_at}

abbrev pub function_of : Function → List ℕ × ℕ
function_of f = (f.name.now, f.arity)

-- where the first place with this number of arguments is
abbrev pub place_with : List (Place ℕ) → ℕ → Option ℕ
place_with [] arity = None
place_with (p ∷ ps) arity = if p.value == arity then Some p.at else place_with ps arity

-- the names are sound, and the map has the first function of each name and number of arguments
pub record AreFirsts (m : BTreeMap (Bor (List ℕ)) (Vec (Place ℕ) Global))
    (fs : List (List ℕ × ℕ)) : Type 0 where
  pub sound : All (λ f. chars (encode_utf8_all f.0) ≡ f.0) fs
  pub found : (q : List ℕ) (arity : ℕ) → place_with (stack_at m q) arity
      ≡ position (λ f. bytes_eq (encode_utf8_all f.0) q && f.1 == arity) fs
