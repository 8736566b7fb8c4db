-- How the map of the places of names changes at a name.
use Rattle.std.proofs.Common.{◌≡◌, ℕ, Bool, true, false, cond, List, [], Option, Some, None, Result, Ok, Err, OnErr, Vec, Global, Bor, BTreeMap, refl, sym, ap, ◌∙◌, nat_cmp, drop, get_or, slice_get}
use Rattle.std.specs.Option.{option_map_or}
use Rattle.std.specs.Cmp.Lexicographic.{slice_cmp}
use Rattle.std.specs.Str.{bytes_eq}
use Rattle.std.specs.BTreeMap.{UpdatesBy, get_by}
use Rattle.std.proofs.lemmas.Map.Text.{btree_map_updates_str}
use Rattle.name_scopes.specs.declared.stacks.Place.{Place}
use Rattle.name_scopes.specs.inside.Stacks.{stack_at}
use Rattle.name_scopes.proofs.Bound.{at-bytes}

module _ {V : Type 0} where
  -- the places that a value of the map has
  abbrev pub places_in : Option (Vec (Place V) Global) → List (Place V)
  places_in w = option_map_or (λ v. v.items) w []

  pub changed : (m n : BTreeMap (Bor (List ℕ)) (Vec (Place V) Global)) (name : List ℕ) (w : Option (Vec (Place V) Global)) (f : List (Place V) → List (Place V))
      → UpdatesBy (λ x y. slice_cmp nat_cmp x.now y.now) (λ k. slice_cmp nat_cmp name k.now) m n w → places_in w ≡ f (stack_at m name)
      → (q : List ℕ) → stack_at n q ≡ cond (bytes_eq name q) (f (stack_at m q)) (stack_at m q)
  changed m n name w f u h q =
      ap places_in (btree_map_updates_str name m n w u q) ∙ by (bytes_eq name q)
      ∙ ap (λ x. cond (bytes_eq name q) x (stack_at m q)) h ∙ at-bytes (stack_at m) f name q
    where
      by : (t : Bool) → places_in (cond t w (get_by (λ k. slice_cmp nat_cmp q k.now) m)) ≡ cond t (places_in w) (stack_at m q)
      by true = refl
      by false = refl

  pub unchanged : (b : Bool) (ps : List (Place V)) → cond b ps ps ≡ ps
  unchanged true ps = refl
  unchanged false ps = refl

pub on_err : {T E : Type 0} {P : Type 0} (r : Result T E) → P → OnErr r P
on_err (Ok x) p = tt
on_err (Err e) p = p
