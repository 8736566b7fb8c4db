-- Where the expressions of a query stand. For other crates too.
use Rattle.std.proofs.Common.{◌≡◌, ℕ, zero, suc, ◌≤◌, if◌then◌else◌, Bool, true, false, List, [], ◌∷◌, ◌++◌, length, refl, sym, ap, ◌∙◌, subst, arith}
use Rattle.std.specs.Prelude.{nat_lt}
use Rattle.std.specs.List.{AllByRecursion, flat_map}
use Rattle.std.proofs.lemmas.List.{append_assoc, append-nil}
use Rattle.std.proofs.lemmas.List.Concat.{flat_map-append}
use Rattle.std.proofs.lemmas.List.Elements.{All-from_recursion}
use Rattle.seq_types.specs.declared.types.SeqType.{SeqType}
use Rattle.query_tree.specs.declared.bound.Slot.{Slot}
use Rattle.query_tree.specs.declared.bound.Target.{Target}
use Rattle.query_tree.specs.Bound.{BoundTree}
use Rattle.query_tree.specs.Calls.{functions_before, functions_behind, bodies, declared_trees, module_trees}
use Rattle.query_tree.specs.Compiled.{BoundTrees}
use Rattle.query_tree.specs.Modules.{PlainVariable, PlainFunction}
use Rattle.query_tree.specs.Subtrees.{subtrees, children}
use Rattle.query_tree.proofs.Held.{tree-held}
use Rattle.mode_planner.specs.Beside.{expressions}
use Rattle.meaning_laws.specs.Beside.{StandsIn, ExpressionsStand}
use Rattle.meaning_laws.proofs.Alike.{both_parts}
use Rattle.meaning_laws.proofs.Calling.{of_each}

-- ---- what is so of all expressions of declarations

module _ (T : BoundTree → Type 0) where
  abbrev pub InBody : PlainFunction Slot Target SeqType → Type 0
  InBody f = T f.body

  abbrev pub InValue : PlainVariable Slot Target SeqType → Type 0
  InValue x = T x.value

  each_body : (fs : List (PlainFunction Slot Target SeqType)) → AllByRecursion T (bodies fs) → AllByRecursion InBody fs
  each_body [] h = tt
  each_body (f ∷ fs) h = (h.0, each_body fs h.1)

  before_or_behind : (f : PlainFunction Slot Target SeqType) (fs before behind : List (PlainFunction Slot Target SeqType)) → (AllByRecursion InBody before → AllByRecursion InBody behind → AllByRecursion InBody fs) → (b : Bool) → AllByRecursion InBody (if b then f ∷ before else []) → AllByRecursion InBody (if b then behind else f ∷ fs) → InBody f × AllByRecursion InBody fs
  before_or_behind f fs before behind h true p q = (p.0, h p.1 q)
  before_or_behind f fs before behind h false p q = q

  -- the functions before a place, and those behind it, are all of them
  all_functions : (place : ℕ) (fs : List (PlainFunction Slot Target SeqType)) → AllByRecursion InBody (functions_before place fs) → AllByRecursion InBody (functions_behind place fs) → AllByRecursion InBody fs
  all_functions place [] p q = tt
  all_functions place (f ∷ fs) p q =
      before_or_behind f fs (functions_before place fs) (functions_behind place fs) (all_functions place fs) (nat_lt f.function.place place) p q

  pub each_declared : (xs : List (PlainVariable Slot Target SeqType)) (fs : List (PlainFunction Slot Target SeqType)) → AllByRecursion T (declared_trees xs fs) → AllByRecursion InValue xs × AllByRecursion InBody fs
  each_declared [] fs h = (tt, each_body fs h)
  each_declared (x ∷ xs) fs h =
      let before = functions_before x.variable.place fs in
      let behind = functions_behind x.variable.place fs in
      let parts = both_parts T (bodies before) (x.value ∷ declared_trees xs behind) h in
      let rest = each_declared xs behind parts.1.1 in
      ((parts.1.0, rest.0), all_functions x.variable.place fs (each_body before parts.0) rest.1)

-- ---- where expressions stand

-- the expressions in these trees stand somewhere among those of all
record Among (all : List BoundTree) (t : BoundTree) : Type 0 where
  before : List BoundTree
  after : List BoundTree
  parted : all ≡ before ++ subtrees t ++ after

regrouped : {A : Type 0} (front before here after back : List A) → front ++ (before ++ here ++ after) ++ back ≡ (front ++ before) ++ here ++ (after ++ back)
regrouped front before here after back = simp (append_assoc)

regrouped_front : {A : Type 0} (front before here after : List A) → front ++ (before ++ here ++ after) ≡ (front ++ before) ++ here ++ after
regrouped_front front before here after = simp (append_assoc)

-- with trees before and behind
within : (front xs back : List BoundTree) (t : BoundTree) → Among xs t → Among (front ++ xs ++ back) t
within front xs back t a = record {
  before = front ++ a.before;
  after = a.after ++ back;
  parted = ap (λ l. front ++ l ++ back) a.parted ∙ regrouped front a.before (subtrees t) a.after back;
}

in_front : (x : BoundTree) (xs : List BoundTree) (t : BoundTree) → Among xs t → Among (x ∷ xs) t
in_front x xs t a = record { before = x ∷ a.before; after = a.after; parted = ap (λ l. x ∷ l) a.parted }

-- each expression in some trees stands among them
deep : (n : ℕ) (ts : List BoundTree) → length (flat_map subtrees ts) ≤ n → AllByRecursion (Among (flat_map subtrees ts)) (flat_map subtrees ts)
deep n [] l = tt
deep zero (t ∷ ts) l =
    let e = ap (λ us. length (us ++ flat_map subtrees ts)) (tree-held t) in
    absurd (omega (arith, e, l))
deep (suc n) (t ∷ ts) l =
    let inner = flat_map subtrees (children t ++ ts) in
    let joined : flat_map subtrees (t ∷ ts) ≡ t ∷ inner =
    ap (λ us. us ++ flat_map subtrees ts) (tree-held t) ∙ ap (λ us. t ∷ us) (sym (flat_map-append subtrees (children t) ts)) in
    let e = ap length joined in
    let shorter : length inner ≤ n = omega (arith, e, l) in
    let first : Among (flat_map subtrees (t ∷ ts)) t = record { before = []; after = flat_map subtrees ts; parted = refl } in
    subst (λ us. AllByRecursion (Among us) us) (sym joined) (
      subst (λ us. Among us t) joined first,
      of_each (Among inner) (Among (t ∷ inner)) (λ u a. in_front t inner u a) inner (deep n (children t ++ ts) shorter),
    )

inside-all : (t : BoundTree) → AllByRecursion (Among (subtrees t)) (subtrees t)
inside-all t =
    let whole = append-nil (subtrees t) in
    subst (λ us. AllByRecursion (Among us) us) whole (deep (length (flat_map subtrees (t ∷ []))) (t ∷ []) (omega arith))

inside_one : (m : BoundTrees) (t u : BoundTree) → StandsIn m t → Among (subtrees t) u → StandsIn m u
inside_one m t u s a =
    let w = within s.before (subtrees t) s.after u a in
    record { before = w.before; after = w.after; parted = s.parted ∙ w.parted }

-- each of some trees stands among the expressions of all
each_among : (ts : List BoundTree) → AllByRecursion (Among (flat_map subtrees ts)) ts
each_among [] = tt
each_among (t ∷ ts) = (
  record { before = []; after = flat_map subtrees ts; parted = refl },
  of_each (Among (flat_map subtrees ts)) (Among (flat_map subtrees (t ∷ ts))) (λ u a. behind u a) ts (each_among ts),
)
  where
    behind : (u : BoundTree) → Among (flat_map subtrees ts) u → Among (subtrees t ++ flat_map subtrees ts) u
    behind u a = record {
      before = subtrees t ++ a.before;
      after = a.after;
      parted = ap (λ l. subtrees t ++ l) a.parted ∙ regrouped_front (subtrees t) a.before (subtrees u) a.after;
    }

stands_of : (m : BoundTrees) (t : BoundTree) → Among (expressions m) t → StandsIn m t
stands_of m t a = record { before = a.before; after = a.after; parted = a.parted }

pub expressions_stand : (m : BoundTrees) → ExpressionsStand m
expressions_stand m =
    let whole = of_each (Among (expressions m)) (StandsIn m) (stands_of m) (module_trees m) (each_among (module_trees m)) in
    let parts = both_parts (StandsIn m) (declared_trees m.variables m.functions) (m.body ∷ []) whole in
    let declared = each_declared (StandsIn m) m.variables m.functions parts.0 in
    record {
      body = parts.1.0;
      variables = All-from_recursion (λ x. StandsIn m x.value) m.variables declared.0;
      functions = All-from_recursion (λ f. StandsIn m f.body) m.functions declared.1;
      all = All-from_recursion (StandsIn m) (expressions m) (of_each (Among (expressions m)) (StandsIn m) (stands_of m) (expressions m) (deep (length (expressions m)) (module_trees m) (omega arith)));
      inside = λ t s. All-from_recursion (StandsIn m) (subtrees t) (of_each (Among (subtrees t)) (StandsIn m) (λ u a. inside_one m t u s a) (subtrees t) (inside-all t));
    }
