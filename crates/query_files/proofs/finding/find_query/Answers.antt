use Rattle.std.proofs.Common.{List, ℕ, Err, sym, subst}
use Rattle.std.specs.Prelude.{IfSome}
use Rattle.query_files.specs.Files.{IsReadText}
use Rattle.module_names.specs.Remaining.{refusal_of}
use Rattle.query_files.specs.Found.{IsFoundIn, unloaded, refusal_place}
use Rattle.query_files.specs.Leaves.{LeavesFound}
use Rattle.query_files.specs.Merged.{where_text}
use Rattle.query_files.specs.declared.finding.Unfound.{Unfound}
use Rattle.query_files.specs.Seen.{reading_of, found_of}
use Rattle.query_files.proofs.Found.{told_from, told_from_two, ok_found, refused_found, none_found, ok_counts, refused_counts}
use Rattle.query_files.proofs.finding.find_query.Goals as goal

pub returns-in-Ok-clause-found : goal.returns-in-Ok-clause-found
returns-in-Ok-clause-found g c =
    told_from (g.I.Inputs.world c.args.inputs.now)
    (λ w told.
    ok_found _ (λ text answer h. subst (λ (t : List ℕ). IfSome (reading_of answer) (λ r. IsReadText t r)) h.shows h.says.met)
    w c.args.name.now c.in-Ok.files (found_of c.args.name.now c.query_of_files.result) told (c.query_of_files.ensures.found c.args.name.now)) c.in-Ok.ensures.told

pub returns-in-Err-Refused-clause-found : goal.returns-in-Err-Refused-clause-found
returns-in-Err-Refused-clause-found g c =
    told_from_two (g.I.Inputs.world c.args.inputs.now)
    (rw c.in-Err-Refused.field-0-is at c.in-Err-Refused.ensures.told) (rw c.in-Err-Refused.field-0-is at c.in-Err-Refused.ensures.held)
    (λ w told held.
    subst (λ (u : Unfound). IfSome (found_of c.args.name.now (Err u)) (λ f. IsFoundIn w c.args.name.now f)) (sym c.refused.ensures)
    (let is : IsFoundIn w c.args.name.now (unloaded c.in-Err-Refused.why.code
    (where_text (refusal_place c.args.name.now (refusal_of c.in-Err-Refused.why) c.in-Err-Refused.contents)) c.in-Err-Refused.why.opened) =
    refused_found _ (λ text answer h. subst (λ (t : List ℕ). IfSome (reading_of answer) (λ r. IsReadText t r)) h.shows h.says.met)
    w c.args.name.now c.in-Err-Refused.why c.in-Err-Refused.contents told held in
    rw c.in-Err-Refused.field-0-is is))

pub returns-in-Err-Refused-clause-counts : goal.returns-in-Err-Refused-clause-counts
returns-in-Err-Refused-clause-counts g c =
    subst (λ (u : Unfound). LeavesFound (Err u) (g.I.Inputs.counts c.args.inputs.now) (g.I.Inputs.counts c.load.new.inputs)) (sym c.refused.ensures)
    (rw c.in-Err-Refused.field-0-is
    (refused_counts _ (λ text answer h. subst (λ (t : List ℕ). IfSome (reading_of answer) (λ r. IsReadText t r)) h.shows h.says.met)
    c.in-Err-Refused.why c.in-Err-Refused.contents (g.I.Inputs.counts c.args.inputs.now) (g.I.Inputs.counts c.load.new.inputs)
    (rw c.in-Err-Refused.field-0-is at c.in-Err-Refused.ensures.counts) (rw c.in-Err-Refused.field-0-is at c.in-Err-Refused.ensures.opened)))

pub returns-in-Ok-clause-counts : goal.returns-in-Ok-clause-counts
returns-in-Ok-clause-counts g c =
    ok_counts _ (λ text answer h. subst (λ (t : List ℕ). IfSome (reading_of answer) (λ r. IsReadText t r)) h.shows h.says.met)
    c.in-Ok.files c.query_of_files.result (g.I.Inputs.counts c.args.inputs.now) (g.I.Inputs.counts c.load.new.inputs) c.query_of_files.ensures.texts
    c.in-Ok.ensures.counts c.in-Ok.ensures.opened

pub returns-in-Err-NoQuery-clause-found : goal.returns-in-Err-NoQuery-clause-found
returns-in-Err-NoQuery-clause-found g c =
    told_from (g.I.Inputs.world c.args.inputs.now)
    (λ w told.
    none_found _ (λ text answer h. subst (λ (t : List ℕ). IfSome (reading_of answer) (λ r. IsReadText t r)) h.shows h.says.met)
    w c.args.name.now told) (rw c.in-Err-NoQuery.field-0-is at c.in-Err-NoQuery.ensures.told)
