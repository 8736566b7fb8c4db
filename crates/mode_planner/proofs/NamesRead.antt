-- Each input of a query is read by a driver or beside the drivers.
use Rattle.std.proofs.Common.{◌≡◌, ℕ, Bool, true, false, cond, not, ◌&&◌, ◌||◌, ◌==◌, Option, None, Some, List, [], ◌∷◌, ◌++◌, refl, sym, ap, subst, ◌∙◌}
use Rattle.std.specs.Prelude.{filter}
use Rattle.std.specs.Cmp.Lexicographic.{pointwise}
use Rattle.std.specs.List.{flat_map, filter_map, cons_option}
use Rattle.std.specs.Str.{bytes_eq}
use Rattle.std.proofs.lemmas.Bool.{false≢true}
use Rattle.std.proofs.lemmas.List.Concat.{flat_map-append}
use Rattle.std.proofs.lemmas.List.Folds.{list_any-append}
use Rattle.std.proofs.lemmas.Slice.Eq.{bytes_eq-Decides, slice_eq-Decides}
use Rattle.seq_types.specs.declared.types.SeqType.{SeqType}
use Rattle.query_tree.specs.declared.bound.Slot.{Slot}
use Rattle.query_tree.specs.declared.bound.Target.{Target}
use Rattle.query_tree.specs.declared.bound.Target.TheVariants.{Built, Own, Lines}
use Rattle.query_tree.specs.declared.names.Placed.{Placed}
use Rattle.query_tree.specs.Plain as p
use Rattle.query_tree.specs.Bound.{BoundTree}
use Rattle.query_tree.specs.Calls.{own_call, calls, module_trees}
use Rattle.query_tree.specs.Compiled.{BoundTrees}
use Rattle.query_tree.specs.Inputs.{names_read, all_names, first_appearances}
use Rattle.query_tree.specs.Subtrees.{subtrees}
use Rattle.mode_planner.specs.Beside.{drivers, drives, is_driver, calls_beside, input_calls, names_beside}
use Rattle.mode_planner.specs.Drivers.{DriverPlan, call_driver}
use Rattle.mode_planner.specs.Laws.{is_among, one_reads, NamesAreRead}
use Rattle.mode_planner.specs.Plans.{LeafPlan}

abbrev Names : Type 0
Names = List (List ℕ)

-- ---- a name among those that appear first

kept-more : (n m k : List ℕ) → bytes_eq n m ≡ false → (b : Bool) → bytes_eq n k ≡ b → (c : Bool) → bytes_eq k m ≡ c → (ns : Names)
    → is_among (filter (λ j. not (bytes_eq n j)) ns) m ≡ is_among ns m
    → is_among (cond (not b) (k ∷ filter (λ j. not (bytes_eq n j)) ns) (filter (λ j. not (bytes_eq n j)) ns)) m ≡ (c || is_among ns m)
kept-more n m k apart true e true f ns h = absurd (false≢true (sym apart ∙ subst (λ x. bytes_eq n x ≡ true) ((bytes_eq-Decides k m).0 f) e))
kept-more n m k apart true e false f ns h = h
kept-more n m k apart false e c f ns h = ap (λ b. b || is_among (filter (λ j. not (bytes_eq n j)) ns) m) f ∙ ap (λ b. c || b) h

kept : (n m : List ℕ) → bytes_eq n m ≡ false → (ns : Names) → is_among (filter (λ k. not (bytes_eq n k)) ns) m ≡ is_among ns m
kept n m apart [] = refl
kept n m apart (k ∷ ns) = kept-more n m k apart (bytes_eq n k) refl (bytes_eq k m) refl ns (kept n m apart ns)

appears-more : (n m : List ℕ) (b : Bool) → bytes_eq n m ≡ b → (firsts ns : Names) → is_among firsts m ≡ is_among ns m
    → (b || is_among (filter (λ k. not (bytes_eq n k)) firsts) m) ≡ (b || is_among ns m)
appears-more n m true e firsts ns h = refl
appears-more n m false e firsts ns h = kept n m e firsts ∙ h

appears : (ns : Names) (m : List ℕ) → is_among (first_appearances ns) m ≡ is_among ns m
appears [] m = refl
appears (n ∷ ns) m = appears-more n m (bytes_eq n m) refl (first_appearances ns) ns (appears ns m)

-- ---- the names of calls

abbrev names_of : List DriverPlan → Names
names_of cs = flat_map (λ c. c.names) cs

among-calls : (cs : List DriverPlan) (m : List ℕ) → is_among (names_of cs) m ≡ one_reads cs m
among-calls [] m = refl
among-calls (c ∷ cs) m = list_any-append (λ n. bytes_eq n m) c.names (names_of cs) ∙ ap (λ b. is_among c.names m || b) (among-calls cs m)

-- the names that a call reads, seen as a driver
abbrev read_by : Option DriverPlan → Names
read_by None = []
read_by (Some d) = d.names

abbrev told_by : Option (Placed Target) → Names
told_by None = []
told_by (Some c) = names_read c.name

same-target : (place : ℕ) (f : Target) (xs : p.Trees Slot Target SeqType) → names_read f ≡ read_by (call_driver (p.tree_node place (p.call_form f xs)))
same-target place (Built id) xs = refl
same-target place (Own n) xs = refl
same-target place (Lines names) xs = refl

same-node : (t : BoundTree) → told_by (own_call t) ≡ read_by (call_driver t)
same-node (p.tree_node place (p.call_form f xs)) = same-target place f xs
same-node (p.tree_node place _) = refl

driver-more : (o : Option DriverPlan) (cs : List DriverPlan) → names_of (cons_option o cs) ≡ read_by o ++ names_of cs
driver-more None cs = refl
driver-more (Some c) cs = refl

call-more : (o : Option (Placed Target)) (cs : List (Placed Target)) → all_names (cons_option o cs) ≡ told_by o ++ all_names cs
call-more None cs = refl
call-more (Some c) cs = refl

abbrev node_names : BoundTree → Names
node_names t = read_by (call_driver t)

of-drivers : (ts : List BoundTree) → names_of (filter_map call_driver ts) ≡ flat_map node_names ts
of-drivers [] = refl
of-drivers (t ∷ ts) = driver-more (call_driver t) (filter_map call_driver ts) ∙ ap (λ ns. node_names t ++ ns) (of-drivers ts)

of-calls : (ts : List BoundTree) → all_names (filter_map own_call ts) ≡ flat_map node_names ts
of-calls [] = refl
of-calls (t ∷ ts) = call-more (own_call t) (filter_map own_call ts) ∙ (λ i. same-node t i ++ of-calls ts i)

of-trees : (ts : List BoundTree) → all_names (flat_map calls ts) ≡ flat_map node_names (flat_map subtrees ts)
of-trees [] = refl
of-trees (t ∷ ts) =
    flat_map-append (λ c. names_read c.name) (calls t) (flat_map calls ts)
    ∙ (λ i. of-calls (subtrees t) i ++ of-trees ts i)
    ∙ sym (flat_map-append node_names (subtrees t) (flat_map subtrees ts))

same-names : (m : BoundTrees) → all_names (flat_map calls (module_trees m)) ≡ names_of (input_calls m)
same-names m = of-trees (module_trees m) ∙ sym (of-drivers (flat_map subtrees (module_trees m)))

-- ---- each name is read by a driver or beside them

second : (b c : Bool) → (b && c) ≡ true → c ≡ true
second true c h = h
second false c h = absurd (false≢true h)

or-true : (b : Bool) → (b || true) ≡ true
or-true true = refl
or-true false = refl

is-reader : (c d : DriverPlan) (m : List ℕ) → is_driver c d ≡ true → is_among c.names m ≡ true → is_among d.names m ≡ true
is-reader c d m h a =
    let same = (slice_eq-Decides bytes_eq-Decides c.names d.names (pointwise bytes_eq c.names d.names) refl).0 (second (c.place == d.place) (pointwise bytes_eq c.names d.names) h) in
    subst (λ ns. is_among ns m ≡ true) same a

driver-reads-more : (c d : DriverPlan) (m : List ℕ) (b : Bool) → is_driver c d ≡ b → is_among c.names m ≡ true → (rest reads : Bool) → (rest ≡ true → reads ≡ true)
    → (b || rest) ≡ true → (is_among d.names m || reads) ≡ true
driver-reads-more c d m true e a rest reads h both = ap (λ b. b || reads) (is-reader c d m e a)
driver-reads-more c d m false e a rest reads h both = ap (λ b. is_among d.names m || b) (h both) ∙ or-true (is_among d.names m)

driver-reads : (ds : List DriverPlan) (c : DriverPlan) (m : List ℕ) → is_among c.names m ≡ true → drives ds c ≡ true → one_reads ds m ≡ true
driver-reads [] c m a h = absurd (false≢true h)
driver-reads (d ∷ ds) c m a h = driver-reads-more c d m (is_driver c d) refl a (drives ds c) (one_reads ds m) (driver-reads ds c m a) h

covered-more : (ds : List DriverPlan) (c : DriverPlan) (m : List ℕ) (b : Bool) → is_among c.names m ≡ b → (d : Bool) → drives ds c ≡ d → (cs left : List DriverPlan)
    → (one_reads cs m ≡ true → (one_reads ds m || one_reads left m) ≡ true)
    → (b || one_reads cs m) ≡ true → (one_reads ds m || one_reads (cond (not d) (c ∷ left) left) m) ≡ true
covered-more ds c m true e true f cs left h both = ap (λ b. b || one_reads left m) (driver-reads ds c m e f)
covered-more ds c m true e false f cs left h both = ap (λ b. one_reads ds m || (b || one_reads left m)) e ∙ or-true (one_reads ds m)
covered-more ds c m false e true f cs left h both = h both
covered-more ds c m false e false f cs left h both = ap (λ b. one_reads ds m || (b || one_reads left m)) e ∙ h both

covered : (ds cs : List DriverPlan) (m : List ℕ) → one_reads cs m ≡ true → (one_reads ds m || one_reads (calls_beside ds cs) m) ≡ true
covered ds [] m h = absurd (false≢true h)
covered ds (c ∷ cs) m h = covered-more ds c m (is_among c.names m) refl (drives ds c) refl cs (calls_beside ds cs) (covered ds cs m) h

pub are_read : (leaves : List LeafPlan) (m : BoundTrees) → NamesAreRead leaves m
are_read leaves m =
    let ds = drivers leaves in
    let beside : (name : List ℕ) → is_among (names_beside leaves m) name ≡ one_reads (calls_beside ds (input_calls m)) name =
    λ name. appears (names_of (calls_beside ds (input_calls m))) name ∙ among-calls (calls_beside ds (input_calls m)) name in
    record {
      all = λ name h.
          let called : one_reads (input_calls m) name ≡ true =
          sym (appears (all_names (flat_map calls (module_trees m))) name ∙ ap (λ ns. is_among ns name) (same-names m) ∙ among-calls (input_calls m) name) ∙ h in
          ap (λ b. one_reads ds name || b) (beside name) ∙ covered ds (input_calls m) name called;
      beside = beside;
    }
