-- The places where a name is bound.
use Rattle.std.specs.Prelude.{◌≡◌, ℕ, Bool, List, [], ◌∷◌, Option, Some, None, Vec, length, map, reverse, if◌then◌else◌}
use Rattle.std.specs.List.{All}
use Rattle.std.specs.Str.{bytes_eq, chars, encode_utf8_all}
use Rattle.std.specs.Borrow.{Bor}
use Rattle.std.specs.BTreeMap.{BTreeMap}
use Rattle.std.specs.declared.alloc.Global.{Global}
use Rattle.name_scopes.specs.declared.stacks.Place.{Place}
use Rattle.name_scopes.specs.declared.scope.Entry.{Entry}
use Rattle.name_scopes.specs.inside.Stacks.{stack_at}

module _ {V : Type 0} where
  abbrev pub binding_of : Entry V → List ℕ × V
  binding_of e = (e.name.now, e.value)

  -- the latest first
  abbrev pub bindings : List (Entry V) → List (List ℕ × V)
  bindings es = map binding_of (reverse es)

  abbrev pub placed : ℕ → V → Place V
  placed n v = record { at = n; value = v }

  -- where a name that passes the test is bound, the latest first
  abbrev pub places : (List ℕ → Bool) → List (List ℕ × V) → List (Place V)
  places test [] = []
  places test (b ∷ bs) =
      if test b.0 then placed (length bs) b.1 ∷ places test bs else places test bs

  abbrev pub first_place : List (Place V) → Option (Place V)
  first_place [] = None
  first_place (p ∷ ps) = Some p

  abbrev pub last_place : List (List ℕ × V) → List ℕ → Option (Place V)
  last_place bs name = first_place (places (λ x. bytes_eq x name) bs)

  -- the names are sound, and the map has their places, the latest last
  pub record AreStacks (m : BTreeMap (Bor (List ℕ)) (Vec (Place V) Global))
      (bs : List (List ℕ × V)) : Type 0 where
    pub sound : All (λ b. chars (encode_utf8_all b.0) ≡ b.0) bs
    pub found : (q : List ℕ)
        → reverse (stack_at m q) ≡ places (λ x. bytes_eq (encode_utf8_all x) q) bs
