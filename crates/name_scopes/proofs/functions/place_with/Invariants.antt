use Rattle.std.proofs.Common.{◌≡◌, drop}
use Rattle.name_scopes.specs.inside.Firsts.{place_with}
use Rattle.name_scopes.proofs.functions.place_with.Given as goal

abbrev pub invariant-loop-place : goal.invariant-loop-place
invariant-loop-place l = place_with l.places l.arity ≡ place_with (drop l.place-index l.places) l.arity
