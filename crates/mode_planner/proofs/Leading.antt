-- Which FLWORs have a driver.
use Rattle.std.proofs.Common.{◌≡◌, ℕ, ◌+◌, Option, Some, true, false, List, [], ◌∷◌, ◌++◌, length, refl, sym, ap, subst, ◌∙◌, arith}
use Rattle.std.specs.Prelude.{option_map, is_some, if◌then◌else◌}
use Rattle.std.specs.List.{All}
use Rattle.std.proofs.lemmas.List.Elements.{All-nil, All-cons, All-head, All-tail}
use Rattle.seq_types.specs.declared.types.SeqType.{SeqType}
use Rattle.query_tree.specs.declared.bound.Slot.{Slot}
use Rattle.query_tree.specs.declared.bound.Target.{Target}
use Rattle.query_tree.specs.declared.bound.Target.TheVariants.{Built, Own, Lines}
use Rattle.query_tree.specs.declared.names.Placed.{Placed}
use Rattle.query_tree.specs.Plain as p
use Rattle.query_tree.specs.Plain.{Form, PlainClause, PlainClauses, Trees}
use Rattle.query_tree.proofs.Lists.{listed_clauses-back}
use Rattle.mode_planner.specs.Drivers.{DriverPlan, after_lets, form_driver, is_let, clause_driver, clauses_driver}
use Rattle.mode_planner.specs.Laws.{HasDriver, DriversStandFirst}
use Rattle.mode_planner.proofs.Covering.{nothing, some-same}

abbrev IsLet : PlainClause Slot Target SeqType → Type 0
IsLet c = is_let c ≡ true

abbrev Clause : Type 0
Clause = PlainClause Slot Target SeqType

abbrev Clauses : Type 0
Clauses = PlainClauses Slot Target SeqType

abbrev driving : Placed Slot → Option (Placed SeqType) → Option (Placed Slot) → ℕ → List (List ℕ) → Trees Slot Target SeqType → Clause
driving variable t at place names arguments = p.for_clause variable t false at (p.tree_node place (p.call_form (Lines names) arguments))

-- clauses before which so many `let`s stand already
record HasFrom (number : ℕ) (clauses : Clauses) (d : DriverPlan) : Type 0 where
  before : List Clause
  variable : Placed Slot
  type : Option (Placed SeqType)
  at : Option (Placed Slot)
  arguments : Trees Slot Target SeqType
  after : List Clause
  lets : All (λ c. is_let c ≡ true) before
  parted : clauses ≡ p.clauses_of Slot Target SeqType (before ++ driving variable type at d.place d.names arguments ∷ after)
  counted : d.lets ≡ number + length before
  position : d.position ≡ is_some at

source-found : (number : ℕ) (variable : Placed Slot) (t : Option (Placed SeqType)) (at : Option (Placed Slot)) (place : ℕ) (k : Form Slot Target SeqType) (cs : Clauses) (d : DriverPlan)
    → option_map (after_lets number at) (form_driver place k) ≡ Some d
    → HasFrom number (p.more_clauses (p.for_clause variable t false at (p.tree_node place k)) cs) d
source-found number variable t at place (p.call_form (Lines names) arguments) cs d h =
    subst (HasFrom number (p.more_clauses (driving variable t at place names arguments) cs)) (some-same _ d h) (record {
      before = [];
      variable = variable;
      type = t;
      at = at;
      arguments = arguments;
      after = p.listed_clauses Slot Target SeqType cs;
      lets = All-nil IsLet;
      parted = ap (p.more_clauses (driving variable t at place names arguments)) (sym (listed_clauses-back Slot Target SeqType cs));
      counted = omega arith;
      position = refl;
    })
source-found number variable t at place (p.call_form (Built id) arguments) cs d h = absurd (nothing _ h)
source-found number variable t at place (p.call_form (Own n) arguments) cs d h = absurd (nothing _ h)
source-found number variable t at place _ cs d h = absurd (nothing _ h)

found-from : (number : ℕ) (cs : Clauses) (d : DriverPlan) → clauses_driver number cs ≡ Some d → HasFrom number cs d
found-from number p.no_clauses d h = absurd (nothing _ h)
found-from number (p.more_clauses (p.let_clause variable t value) cs) d h =
    let r = found-from (number + 1) cs d h in
    record {
      before = p.let_clause variable t value ∷ r.before;
      variable = r.variable;
      type = r.type;
      at = r.at;
      arguments = r.arguments;
      after = r.after;
      lets = All-cons IsLet (p.let_clause variable t value) r.before refl r.lets;
      parted = ap (p.more_clauses (p.let_clause variable t value)) r.parted;
      counted = omega (arith, r.counted);
      position = r.position;
    }
found-from number (p.more_clauses (p.for_clause variable t false at (p.tree_node place k)) cs) d h = source-found number variable t at place k cs d h
found-from number (p.more_clauses _ cs) d h = absurd (nothing _ h)

has-found : (cs : Clauses) (d : DriverPlan) → clauses_driver 0 cs ≡ Some d → HasDriver cs d
has-found cs d h =
    let r = found-from 0 cs d h in
    record {
      before = r.before;
      variable = r.variable;
      type = r.type;
      at = r.at;
      arguments = r.arguments;
      after = r.after;
      lets = r.lets;
      parted = r.parted;
      counted = omega (arith, r.counted);
      position = r.position;
    }

-- ---- the other way

passes-let : (number : ℕ) (c : Clause) (cs : Clauses) → is_let c ≡ true → clauses_driver number (p.more_clauses c cs) ≡ clauses_driver (number + 1) cs
passes-let number c cs h = ap (λ b. if b then clauses_driver (number + 1) cs else clause_driver number c) h

abbrev with_lets : ℕ → List (List ℕ) → Option (Placed Slot) → ℕ → DriverPlan
with_lets place names at lets = record { place = place; names = names; lets = lets; position = is_some at }

reached : (number place : ℕ) (names : List (List ℕ)) (variable : Placed Slot) (t : Option (Placed SeqType)) (at : Option (Placed Slot)) (arguments : Trees Slot Target SeqType) (before after : List Clause)
    → All (λ c. is_let c ≡ true) before
    → clauses_driver number (p.clauses_of Slot Target SeqType (before ++ driving variable t at place names arguments ∷ after)) ≡ Some (with_lets place names at (number + length before))
reached number place names variable t at arguments [] after h = ap (λ n. Some (with_lets place names at n)) (omega arith)
reached number place names variable t at arguments (c ∷ before) after h =
    passes-let number c (p.clauses_of Slot Target SeqType (before ++ driving variable t at place names arguments ∷ after)) (All-head IsLet c before h)
    ∙ reached (number + 1) place names variable t at arguments before after (All-tail IsLet c before h)
    ∙ ap (λ n. Some (with_lets place names at n)) (omega arith)

all-reached : (cs : Clauses) (d : DriverPlan) → HasDriver cs d → clauses_driver 0 cs ≡ Some d
all-reached cs d r =
    ap (clauses_driver 0) r.parted
    ∙ reached 0 d.place d.names r.variable r.type r.at r.arguments r.before r.after r.lets
    ∙ ap (λ n. Some (with_lets d.place d.names r.at n)) (omega (arith, r.counted))
    ∙ ap (λ b. Some (record { place = d.place; names = d.names; lets = d.lets; position = b })) (sym r.position)

pub stand_first : DriversStandFirst
stand_first = record { found = has-found; all = all-reached }
