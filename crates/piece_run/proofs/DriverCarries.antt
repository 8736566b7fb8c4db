-- What a driver gives below a limit, and what is told after it of its tuples, is what is told of
-- the stage.
use Rattle.std.proofs.Common.{◌≡◌, ℕ, ◌+◌, ◌<◌, ◌≤◌, List, [], Ok, Err, refl, sym, ap, ◌∙◌, subst, arith}
use Rattle.item_tree.specs.Datum.{Datum}
use Rattle.item_tree.specs.declared.fault.Fault.{Fault}
use Rattle.item_reader.specs.Lines.{Line}
use Rattle.query_meaning.specs.Outcome.{OrFault}
use Rattle.query_meaning.specs.Environment.{Tuple}
use Rattle.query_meaning.specs.inside.Views.{tuple_of}
use Rattle.stage_laws.specs.Runs.{Met, each_read}
use Rattle.stage_laws.specs.Stages.{Stage, driver}
use Rattle.stage_laws.specs.Pieces as laws
use Rattle.stage_laws.specs.Pieces.{Counted, Follow}
use Rattle.stage_laws.specs.Laws.{Falls, IsCarry}
use Rattle.stage_laws.proofs.Steps.{driver_falls}
use Rattle.clause_stages.specs.Drivers.{numbered_lines, placed_item, item_tuple}
use Rattle.clause_stages.specs.InputLines.{line_read}
use Rattle.clause_stages.specs.Steps.{TupleStage}
use Rattle.piece_outcomes.specs.Counting.{met_of}
use Rattle.piece_outcomes.specs.declared.met.MetFault.{MetFault}
use Rattle.piece_run.specs.Driven.{MayBegin, driven_by}
use Rattle.piece_run.specs.DriverGives.{read_lines, bind_items, GivesBelow}
use Rattle.piece_run.specs.Staged.{last_step}
use Rattle.piece_run.specs.declared.driver.Driven.{Driven}
use Rattle.piece_run.specs.declared.driver.Driven.TheVariants as own
use Rattle.piece_run.specs.declared.stage.DrivenStage.{DrivenStage}
use Rattle.piece_run.proofs.Bridges.{lines_read, line_faults, items_bound, item_faults}
use Rattle.piece_run.proofs.Driving.{held_by, faulted, goes_on}

-- ---- what the driver gives

-- no step is run
pub none_below : {F : Type 0} (s : DrivenStage F) (first limit : ℕ) (q : OrFault (List Datum)) → limit ≤ s.reading → GivesBelow s first limit q own.Clean
none_below s first limit (Ok items) l = omega (arith, l)
none_below s first limit (Err fault) l = l

-- the items that were read
pub read_next : {F : Type 0} (s : DrivenStage F) (first limit : ℕ) (items : List Datum) (q : OrFault (List Datum)) (d : Driven) → q ≡ Ok items → GivesBelow s first limit (Ok items) d → GivesBelow s first limit q d
read_next s first limit items q d e h = subst (λ (r : OrFault (List Datum)). GivesBelow s first limit r d) (sym e) h

-- ---- what is told of the stage

module _ {F B K : Type 0} (s : DrivenStage F) (rest : TupleStage B K) (empty : B) (follow : Follow B K Fault) (falls : Falls (s.reading + 2) (last_step s) empty follow rest)
    (first n limit : ℕ) (begins : MayBegin s.binding.at.now first n) (lines : List Line) (into : ℕ → ℕ) (none : (c : ℕ) → c < s.reading + 2 → into c ≡ 0) where
  abbrev read : ℕ × Line → OrFault (List (ℕ × Datum))
  read = placed_item (line_read s.place)

  abbrev bind : ℕ × Datum → OrFault (List Tuple)
  bind = item_tuple s.binding.variable.now s.binding.of.now s.binding.at.now (tuple_of s.leading.now)

  abbrev items_stage : Stage (ℕ × Datum) B K Fault
  items_stage = driver (s.reading + 1) bind rest

  rest_fall : Falls (s.reading + 1 + 1) (last_step s) empty follow rest
  rest_fall = subst (λ (c : ℕ). Falls c (last_step s) empty follow rest) (omega arith) falls

  items_fall : Falls (s.reading + 1) (last_step s) empty follow items_stage
  items_fall =
      let up : s.reading + 1 ≤ last_step s = omega arith in
      driver_falls (s.reading + 1) (s.reading + 1 + 1) (last_step s) empty follow bind rest rest_fall (omega arith) up

  abbrev Told : laws.Outcome B K Fault → Type 0
  Told o = IsCarry s.reading (last_step s) (driven_by s rest) (numbered_lines n lines) limit (record { outcome = o; into = into })

  -- after lines that are read
  after_read : (items : List Datum) (o : laws.Outcome B K Fault) → read_lines s lines ≡ Ok items
      → IsCarry (s.reading + 1) (last_step s) items_stage (numbered_lines n items) limit (record { outcome = o; into = into }) → Told o
  after_read items o is h =
      goes_on s.reading (last_step s) read items_stage (numbered_lines n lines) limit (numbered_lines n items) (record { outcome = o; into = into })
      (lines_read K s.reading (line_read s.place) n lines items is) h (none s.reading (omega arith))

  pub told_clean : (q : OrFault (List Datum)) → read_lines s lines ≡ q → GivesBelow s first limit q own.Clean → Told laws.clean
  told_clean (Ok items) is h =
      let up : s.reading + 1 ≤ last_step s = omega arith in
      after_read items laws.clean is
      (held_by (s.reading + 1) (last_step s) bind rest (numbered_lines n items) empty follow rest_fall limit into h up (none (s.reading + 1) (omega arith)))
  told_clean (Err fault) is h =
      let up : s.reading ≤ last_step s = omega arith in
      held_by s.reading (last_step s) read items_stage (numbered_lines n lines) empty follow items_fall limit into h up (none s.reading (omega arith))

  abbrev fault_at : ℕ → Fault → Met K Fault
  fault_at step fault = record { step = step; tuple = 1; fault = fault; seen = [] }

  met_is : (m : MetFault) (step : ℕ) (fault : Fault) → m.step ≡ step → m.tuple ≡ 1 → m.fault ≡ fault → fault_at step fault ≡ met_of m
  met_is m step fault a b c =
      let at : ℕ → ℕ → Fault → Met K Fault = λ step tuple fault. record { step = step; tuple = tuple; fault = fault; seen = [] } in
      ap (λ (k : ℕ). at k 1 fault) (sym a) ∙ ap (λ (k : ℕ). at m.step k fault) (sym b) ∙ ap (at m.step m.tuple) (sym c)

  pub told_met : (m : MetFault) (q : OrFault (List Datum)) → read_lines s lines ≡ q → GivesBelow s first limit q (own.Met m) → Told (laws.met (met_of m))
  told_met m (Ok items) is h =
      let l : s.reading + 1 < limit = omega (arith, h.0, h.3) in
      let faults : each_read {K = K} (s.reading + 1) bind (numbered_lines n items) ≡ Err (fault_at (s.reading + 1) m.fault) =
      item_faults K (s.reading + 1) s.binding.variable.now s.binding.of.now (tuple_of s.leading.now) s.binding.at.now first n items m.fault begins h.2 in
      after_read items (laws.met (met_of m)) is
      (faulted (s.reading + 1) (last_step s) bind rest (numbered_lines n items) limit (met_of m) into
      (faults ∙ ap Err (met_is m (s.reading + 1) m.fault h.0 h.1 refl)) l (none (s.reading + 1) (omega arith)))
  told_met m (Err fault) is h =
      let l : s.reading < limit = omega (arith, h.0, h.3) in
      faulted s.reading (last_step s) read items_stage (numbered_lines n lines) limit (met_of m) into
      (line_faults K s.reading (line_read s.place) n lines fault is ∙ ap Err (met_is m s.reading fault h.0 h.1 h.2)) l (none s.reading (omega arith))

  pub told_next : (tuples : List Tuple) (items : List Datum) → read_lines s lines ≡ Ok items → bind_items s first items ≡ Ok tuples
      → (o : laws.Outcome B K Fault) → IsCarry (s.reading + 2) (last_step s) rest tuples limit (record { outcome = o; into = into }) → Told o
  told_next tuples items is bound o h =
      after_read items o is
      (goes_on (s.reading + 1) (last_step s) bind rest (numbered_lines n items) limit tuples (record { outcome = o; into = into })
      (items_bound K (s.reading + 1) s.binding.variable.now s.binding.of.now (tuple_of s.leading.now) s.binding.at.now first n items tuples begins bound)
      (subst (λ (c : ℕ). IsCarry c (last_step s) rest tuples limit (record { outcome = o; into = into })) (omega arith) h) (none (s.reading + 1) (omega arith)))
