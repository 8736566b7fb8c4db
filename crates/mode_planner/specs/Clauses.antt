-- The clauses of a FLWOR that has a driver: their modes, their lines, and the stages.
use Rattle.std.specs.Prelude.{ℕ, ◌+◌, nat_le, if◌then◌else◌, Option, None, Some, List, [], ◌∷◌, ◌++◌}
use Rattle.seq_types.specs.declared.types.SeqType.{SeqType}
use Rattle.query_tree.specs.declared.bound.Slot.{Slot}
use Rattle.query_tree.specs.declared.bound.Target.{Target}
use Rattle.query_tree.specs.Plain as p
use Rattle.query_tree.specs.Plain.{PlainClause, PlainClauses}
use Rattle.mode_planner.specs.declared.plan.End.{End}
use Rattle.mode_planner.specs.declared.plan.End.TheVariants.{Groups, Orders, Numbers}
use Rattle.mode_planner.specs.declared.plan.Label.{Label}
use Rattle.mode_planner.specs.declared.plan.Label.TheVariants as label
use Rattle.mode_planner.specs.declared.plan.Line.{Line}
use Rattle.mode_planner.specs.declared.plan.Mode.{Mode}
use Rattle.mode_planner.specs.declared.plan.Mode.TheVariants.{Local, Partitioned, Gathered}
use Rattle.mode_planner.specs.declared.plan.Stage.{Stage}

abbrev pub line : ℕ → Label → Mode → Line
line place l mode = record { place = place; label = l; mode = mode }

abbrev pub stage : ℕ → ℕ → End → Stage
stage first last end = record { first = first; last = last; end = end }

-- ---- one clause

abbrev pub clause_label : PlainClause Slot Target SeqType → Label
clause_label (p.for_clause variable t allowing_empty at source) = label.For
clause_label (p.let_clause variable t value) = label.Let
clause_label (p.where_clause place test) = label.Where
clause_label (p.group_clause place keys) = label.Group
clause_label (p.order_clause place stable keys) = label.Order
clause_label (p.count_clause place variable) = label.Count

-- the variable of a `for` or a `let`, else the first keyword
abbrev pub clause_place : PlainClause Slot Target SeqType → ℕ
clause_place (p.for_clause variable t allowing_empty at source) = variable.place
clause_place (p.let_clause variable t value) = variable.place
clause_place (p.where_clause place test) = place
clause_place (p.group_clause place keys) = place
clause_place (p.order_clause place stable keys) = place
clause_place (p.count_clause place variable) = place

-- A clause that looks at one tuple at a time runs on each piece by itself, also the driver; one
-- that looks at all tuples is gathered.
abbrev pub clause_mode : PlainClause Slot Target SeqType → Mode
clause_mode (p.for_clause variable t allowing_empty at source) = Partitioned
clause_mode (p.let_clause variable t value) = Partitioned
clause_mode (p.where_clause place test) = Partitioned
clause_mode (p.group_clause place keys) = Gathered
clause_mode (p.order_clause place stable keys) = Gathered
clause_mode (p.count_clause place variable) = Gathered

-- what a gathered clause makes of what the pieces give
abbrev pub clause_end : PlainClause Slot Target SeqType → Option End
clause_end (p.group_clause place keys) = Some Groups
clause_end (p.order_clause place stable keys) = Some Orders
clause_end (p.count_clause place variable) = Some Numbers
clause_end _ = None

-- ---- the lines of clauses from this number on; the `let`s before the driver are evaluated once

abbrev pub mode_of : ℕ → ℕ → PlainClause Slot Target SeqType → Mode
mode_of lets number c = if nat_le number lets then Local else clause_mode c

abbrev pub lines_from : ℕ → ℕ → PlainClauses Slot Target SeqType → List Line
lines_from lets number p.no_clauses = []
lines_from lets number (p.more_clauses c cs) =
    line (clause_place c) (clause_label c) (mode_of lets number c)
    ∷ lines_from lets (number + 1) cs

-- ---- the stages

-- what a clause of this number does to a stage that begins at `first`, if it is gathered: the
-- stage ends with it, and the next one begins after it
abbrev pub ended_stage : ℕ → ℕ → Option End → List Stage
ended_stage first number None = []
ended_stage first number (Some end) = stage first number end ∷ []

abbrev pub next_first : ℕ → ℕ → Option End → ℕ
next_first first number None = first
next_first first number (Some end) = number + 1

-- The stages of clauses from this number on, of which the first one begins at `first`; `return`
-- ends the last one, with this end. No `let` ends a stage, so that of all clauses of a FLWOR those
-- before the driver may stand here too.
abbrev pub stages_from : ℕ → ℕ → End → PlainClauses Slot Target SeqType → List Stage
stages_from first number end p.no_clauses = stage first number end ∷ []
stages_from first number end (p.more_clauses c cs) =
    ended_stage first number (clause_end c)
    ++ stages_from (next_first first number (clause_end c)) (number + 1) end cs
