-- What is gathered of outcomes is what is meant.
use Rattle.std.proofs.Common.{◌≡◌, ℕ, ◌+◌, List, [], Some, Result, Ok, Err, refl, sym, ap, ◌∙◌}
use Rattle.item_tree.specs.Datum.{Datum}
use Rattle.item_tree.specs.declared.fault.Fault.{Fault}
use Rattle.query_tree.specs.Scoped.{and_slots}
use Rattle.query_meaning.specs.Outcome.{OrFault}
use Rattle.query_meaning.specs.Environment.{Tuple}
use Rattle.stage_laws.specs.Runs.{Met}
use Rattle.stage_laws.specs.Stages.{viewed}
use Rattle.stage_laws.specs.Pieces.{concat}
use Rattle.stage_laws.specs.Ends.{appended, ended_by, stage}
use Rattle.stage_laws.proofs.Ends.{results_are_one}
use Rattle.clause_stages.specs.Steps.{marked, clauses_stage}
use Rattle.clause_stages.specs.Drivers.{driven_stage, driver_marked, lines_stage, unmarked}
use Rattle.clause_stages.specs.Results.{PiecesGiveValues}
use Rattle.clause_stages.proofs.Clauses.{clauses_are_stages}
use Rattle.clause_stages.proofs.Driving.{drivers_are_stages}

kept_same : {B C K : Type 0} (mark : Met K Fault → Fault) (view : List Datum → B) (finish : List Datum → OrFault C) (finish_kept : B → OrFault C) → ((items : List Datum) → finish items ≡ finish_kept (view items))
    → (q : Result (List Datum) (Met K Fault)) → ended_by mark finish q ≡ ended_by mark finish_kept (viewed view q)
kept_same mark view finish finish_kept h (Ok xs) = h xs
kept_same mark view finish finish_kept h (Err e) = refl

pub pieces_give_values : (L B C K : Type 0) → PiecesGiveValues L B C K
pieces_give_values L B C K = record {
  clauses = λ inner number last stream cs env value last_step finish empty follow pieces ds narrow is_end up falls are.
      let law = clauses_are_stages B C K in
      results_are_one Tuple B C K Fault number last empty follow (clauses_stage inner number cs env last_step) marked (finish (and_slots stream cs)) pieces ds
      (law.falls inner number last cs env empty follow last_step up falls) are.within are.carry are.enough
      ∙ ap Some (sym (law.means inner number stream cs env value last_step finish narrow is_end (concat pieces)));
  drivers = λ inner number last stream variable t at source env tuple read lines empty follow rest value finish pieces ds h falls up is whole are.
      let law = drivers_are_stages L B C K in
      results_are_one (ℕ × L) B C K Fault number last empty follow (driven_stage number read variable t at tuple rest) (driver_marked (number + 1)) finish pieces ds
      (law.falls number last variable t at tuple read empty follow rest falls up) are.within are.carry are.enough
      ∙ ap (λ (ls : List (ℕ × L)). Some (stage (driver_marked (number + 1)) finish (driven_stage number read variable t at tuple rest) ls)) whole
      ∙ ap Some (sym (law.means inner number last stream variable t at source env tuple read lines empty follow rest value finish h falls is));
  lines = λ read pieces ds are.
      let law = drivers_are_stages L (List Datum) (List Datum) K in
      results_are_one L (List Datum) (List Datum) K Fault 0 0 [] appended (lines_stage read) unmarked (λ items. Ok items) pieces ds
      (law.lines_fall read) are.within are.carry are.enough
      ∙ ap Some (sym (law.lines read (concat pieces)));
  kept = λ mark s view finish finish_kept h xs. kept_same mark view finish finish_kept h (s.run xs);
}
