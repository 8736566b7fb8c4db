-- The calls of a tree are the call that it is, and those of the trees that it holds.
use Rattle.std.proofs.Common.{◌≡◌, Option, Some, None, List, [], ◌∷◌, ◌++◌, refl, sym, ap, ◌∙◌}
use Rattle.std.specs.Option.{option_to_list}
use Rattle.std.specs.List.{flat_map, filter_map, cons_option}
use Rattle.query_tree.specs.Plain.{Tree}
use Rattle.query_tree.specs.Subtrees.{children, subtrees}
use Rattle.query_tree.specs.Calls.{own_call, calls}
use Rattle.query_tree.specs.Laws.{CallsStandInOrder, SlotsAreBound}
use Rattle.query_tree.specs.Scopes.{with_slot}
use Rattle.query_tree.proofs.Held.{tree-held}
use Rattle.query_tree.proofs.Slotting.{clauses-entered}

cons-append : {A : Type 0} (x : Option A) (xs : List A) → cons_option x xs ≡ option_to_list x ++ xs
cons-append None xs = refl
cons-append (Some x) xs = refl

cons-joined : {A : Type 0} (x : Option A) (xs ys zs : List A) → xs ≡ ys ++ zs → cons_option x xs ≡ cons_option x ys ++ zs
cons-joined None xs ys zs e = e
cons-joined (Some x) xs ys zs e = ap (λ us. x ∷ us) e

filter_map-append : {A B : Type 0} (f : A → Option B) (xs ys : List A) → filter_map f (xs ++ ys) ≡ filter_map f xs ++ filter_map f ys
filter_map-append f [] ys = refl
filter_map-append f (x ∷ xs) ys = cons-joined (f x) (filter_map f (xs ++ ys)) (filter_map f xs) (filter_map f ys) (filter_map-append f xs ys)

module _ {V F T : Type 0} where
  calls-joined : (ts : List (Tree V F T)) → filter_map own_call (flat_map subtrees ts) ≡ flat_map calls ts
  calls-joined [] = refl
  calls-joined (t ∷ ts) = filter_map-append own_call (subtrees t) (flat_map subtrees ts) ∙ ap (λ cs. calls t ++ cs) (calls-joined ts)

  calls-held : (t : Tree V F T) → calls t ≡ option_to_list (own_call t) ++ flat_map calls (children t)
  calls-held t =
      ap (filter_map own_call) (tree-held t)
      ∙ cons-append (own_call t) (filter_map own_call (flat_map subtrees (children t)))
      ∙ ap (λ cs. option_to_list (own_call t) ++ cs) (calls-joined (children t))

pub in_order : CallsStandInOrder
in_order = record { of_read = calls-held; of_compiled = calls-held }

pub are_bound : SlotsAreBound
are_bound = record { behind_clauses = λ s cs. sym (clauses-entered with_slot s [] cs) }
