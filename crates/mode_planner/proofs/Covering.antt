-- What stages cover.
use Rattle.std.proofs.Common.{◌≡◌, ℕ, zero, suc, ◌+◌, ◌-◌, ◌≤◌, Option, Some, None, false, [], ◌∷◌, ◌++◌, map, refl, sym, ap, subst, ◌∙◌, arith}
use Rattle.std.specs.Prelude.{option_map}
use Rattle.std.specs.List.{flat_map, range_with_len}
use Rattle.std.proofs.lemmas.List.{append-nil}
use Rattle.seq_types.specs.declared.types.SeqType.{SeqType}
use Rattle.query_tree.specs.declared.bound.Slot.{Slot}
use Rattle.query_tree.specs.declared.bound.Target.{Target}
use Rattle.query_tree.specs.declared.bound.Target.TheVariants.{Built, Own, Lines}
use Rattle.query_tree.specs.declared.names.Placed.{Placed}
use Rattle.query_tree.specs.Plain as p
use Rattle.query_tree.specs.Plain.{Form, PlainClauses}
use Rattle.query_tree.specs.Bound.{BoundTree}
use Rattle.mode_planner.specs.declared.plan.End.{End}
use Rattle.mode_planner.specs.declared.plan.Stage.{Stage}
use Rattle.mode_planner.specs.Drivers.{DriverPlan, after_lets, call_driver, clauses_driver}
use Rattle.mode_planner.specs.Clauses.{clause_end, ended_stage, next_first, stages_from}
use Rattle.mode_planner.specs.Plans.{Driven, driven_flwor, driven_form}
use Rattle.mode_planner.specs.Laws.{how_many, steps, and_end, ends_from, IsCovered, StagesCoverSteps}

abbrev Clauses : Type 0
Clauses = PlainClauses Slot Target SeqType

abbrev some_or : {A : Type 0} → A → Option A → A
some_or x None = x
some_or x (Some y) = y

abbrev IsNothing : {A : Type 0} → Option A → Type 0
IsNothing None = Unit {0}
IsNothing (Some x) = ⊥

pub nothing : {A : Type 0} (x : A) → None ≡ Some x → ⊥
nothing x h = subst IsNothing h tt

pub some-same : {A : Type 0} (x y : A) → Some x ≡ Some y → x ≡ y
some-same x y h = ap (some_or x) h

-- ---- numbers one behind the other

range-parted : (a b n m k : ℕ) → k ≡ n + m → b ≡ a + n → range_with_len a k ≡ range_with_len a n ++ range_with_len b m
range-parted a b zero m k all next =
    let long : k ≡ m = omega (arith, all) in
    let here : a ≡ b = omega (arith, next) in
    ap (range_with_len a) long ∙ ap (λ i. range_with_len i m) here
range-parted a b (suc n) m zero all next = absurd (omega (arith, all))
range-parted a b (suc n) m (suc k) all next = ap (λ is. a ∷ is) (range-parted (a + 1) b n m k (omega (arith, all)) (omega (arith, next)))

-- ---- the stages of clauses

-- where it holds of the clauses behind, wherever their first stage begins
steps-behind : (first number : ℕ) (end : End) (o : Option End) (cs : Clauses) → first ≤ number
    → ((f : ℕ) → f ≤ number + 1 → flat_map steps (stages_from f (number + 1) end cs) ≡ range_with_len f (number + 1 + how_many cs + 1 - f))
    → flat_map steps (ended_stage first number o ++ stages_from (next_first first number o) (number + 1) end cs) ≡ range_with_len first (number + (how_many cs + 1) + 1 - first)
steps-behind first number end None cs l behind = behind first (omega (arith, l)) ∙ ap (range_with_len first) (omega arith)
steps-behind first number end (Some gathered) cs l behind =
    ap (λ is. range_with_len first (number + 1 - first) ++ is) (behind (number + 1) (omega arith))
    ∙ sym (range-parted first (number + 1) (number + 1 - first) (number + 1 + how_many cs + 1 - (number + 1)) (number + (how_many cs + 1) + 1 - first) (omega (arith, l)) (omega (arith, l)))

steps-from : (first number : ℕ) (end : End) (cs : Clauses) → first ≤ number
    → flat_map steps (stages_from first number end cs) ≡ range_with_len first (number + how_many cs + 1 - first)
steps-from first number end p.no_clauses l = append-nil (range_with_len first (number + 1 - first)) ∙ ap (range_with_len first) (omega arith)
steps-from first number end (p.more_clauses c cs) l = steps-behind first number end (clause_end c) cs l (λ f m. steps-from f (number + 1) end cs m)

abbrev last_and_end : Stage → ℕ × End
last_and_end s = (s.last, s.end)

ends-behind : (first number : ℕ) (end : End) (o : Option End) (cs : Clauses)
    → ((f : ℕ) → map last_and_end (stages_from f (number + 1) end cs) ≡ ends_from (number + 1) cs ++ (number + 1 + how_many cs, end) ∷ [])
    → map last_and_end (ended_stage first number o ++ stages_from (next_first first number o) (number + 1) end cs) ≡ and_end number o (ends_from (number + 1) cs) ++ (number + (how_many cs + 1), end) ∷ []
ends-behind first number end None cs behind = behind first ∙ ap (λ n. ends_from (number + 1) cs ++ (n, end) ∷ []) (omega arith)
ends-behind first number end (Some gathered) cs behind =
    ap (λ es. (number, gathered) ∷ es) (behind (number + 1) ∙ ap (λ n. ends_from (number + 1) cs ++ (n, end) ∷ []) (omega arith))

all-ends : (first number : ℕ) (end : End) (cs : Clauses)
    → map last_and_end (stages_from first number end cs) ≡ ends_from number cs ++ (number + how_many cs, end) ∷ []
all-ends first number end p.no_clauses = ap (λ n. (n, end) ∷ []) (omega arith)
all-ends first number end (p.more_clauses c cs) = ends-behind first number end (clause_end c) cs (λ f. all-ends f (number + 1) end cs)

-- ---- with the `let`s before the driver

abbrev lets_of : Option DriverPlan → ℕ
lets_of None = 0
lets_of (Some d) = d.lets

for-lets : (lets : ℕ) (at : Option (Placed Slot)) (o : Option DriverPlan) (d : DriverPlan) → option_map (after_lets lets at) o ≡ Some d → lets ≡ d.lets
for-lets lets at None d h = absurd (nothing _ h)
for-lets lets at (Some x) d h = ap lets_of h

leading-steps : (lets : ℕ) (end : End) (cs : Clauses) (d : DriverPlan) → clauses_driver lets cs ≡ Some d
    → flat_map steps (stages_from d.lets (lets + 1) end cs) ≡ range_with_len d.lets (lets + 1 + how_many cs + 1 - d.lets)
leading-steps lets end p.no_clauses d h = absurd (nothing _ h)
leading-steps lets end (p.more_clauses (p.let_clause variable t value) cs) d h =
    leading-steps (lets + 1) end cs d h ∙ ap (range_with_len d.lets) (omega arith)
leading-steps lets end (p.more_clauses (p.for_clause variable t false at source) cs) d h =
    let counted = for-lets lets at (call_driver source) d h in
    steps-from d.lets (lets + 1) end (p.more_clauses (p.for_clause variable t false at source) cs) (omega (arith, counted))
leading-steps lets end (p.more_clauses _ cs) d h = absurd (nothing _ h)

-- ---- expressions that have a driver

flwor-covered : (end : End) (place at : ℕ) (cs : Clauses) (result : BoundTree) (o : Option DriverPlan) → clauses_driver 0 cs ≡ o
    → (x : Driven) → option_map (driven_flwor end cs at) o ≡ Some x → IsCovered end (p.tree_node place (p.flwor_form cs at result)) x
flwor-covered end place at cs result None is x h = absurd (nothing _ h)
flwor-covered end place at cs result (Some d) is x h =
    subst (IsCovered end (p.tree_node place (p.flwor_form cs at result))) (some-same (driven_flwor end cs at d) x h) (record {
      covered = leading-steps 0 end cs d is ∙ ap (range_with_len d.lets) (omega arith);
      ends = all-ends d.lets 1 end cs ∙ ap (λ n. ends_from 1 cs ++ (n, end) ∷ []) (omega arith);
    })

form-covered : (end : End) (place : ℕ) (k : Form Slot Target SeqType) (x : Driven) → driven_form end place k ≡ Some x → IsCovered end (p.tree_node place k) x
form-covered end place (p.call_form (Lines names) arguments) x h =
    subst (IsCovered end (p.tree_node place (p.call_form (Lines names) arguments))) (some-same _ x h) (record { covered = refl; ends = refl })
form-covered end place (p.call_form (Built id) arguments) x h = absurd (nothing _ h)
form-covered end place (p.call_form (Own number) arguments) x h = absurd (nothing _ h)
form-covered end place (p.flwor_form cs at result) x h = flwor-covered end place at cs result (clauses_driver 0 cs) refl x h
form-covered end place _ x h = absurd (nothing _ h)

pub stages_cover : StagesCoverSteps
stages_cover end (p.tree_node place kind) x h = form-covered end place kind x h
