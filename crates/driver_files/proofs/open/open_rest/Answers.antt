use Rattle.std.proofs.Common.{◌≡◌, ◌∙◌, ℕ, Vec, Global, ap, sym, length, vec_len, map}
use Rattle.driver_files.specs.Driver.{failures, told_files}
use Rattle.driver_files.proofs.Closing.{no_failures}
use Rattle.driver_files.proofs.Lengths.{as_long}
use Rattle.driver_files.proofs.More.{set_long_as}
use Rattle.driver_files.proofs.Rest.{refilled, set_again, rest_closed}
use Rattle.driver_files.proofs.open.open_rest.Goals as goal

pub open_cut-requires-clause-first : goal.open_cut-requires-clause-first
open_cut-requires-clause-first g c κs within =
    let held = g.I.File.InputFile.held in
    let faults = g.I.File.InputFile.faults in
    set_again held faults (told_files (g.I.Inputs.world c.args.inputs.now) c.args.names.now) c.args.first c.lengths_of.new.files c.requires.first
    (c.in-Ok.ensures.same ∙ ap (map held) c.deref_mut.ensures.value)
    (c.in-Ok.ensures.faults ∙ ap (failures faults) c.deref_mut.ensures.value)

pub returns-in-Err-clause-counts : goal.returns-in-Err-clause-counts
returns-in-Err-clause-counts g c =
    let held = g.I.File.InputFile.held in
    let faults = g.I.File.InputFile.faults in
    let first = c.args.first in
    let files = c.lengths_of.new.files in
    let world = g.I.Inputs.world c.args.inputs.now in
    let start = ap (failures faults) c.deref_mut.ensures.value in
    let long : length files ≡ vec_len first = as_long held files first.items (c.in-Err.ensures.same ∙ ap (map held) c.deref_mut.ensures.value) ∙ sym first.ok.0 in
    let closes = rw (refilled (vec_len first) first.items files long) at c.close_set.ensures.counts in
    rest_closed (Vec ℕ Global) world c.args.names.now c.args.workers c.args.size (vec_len first) (failures faults c.deref_mut.result.now) (failures faults files) c.in-Err.fault
    (g.I.Inputs.counts c.args.inputs.now) (g.I.Inputs.counts c.close_set.new.inputs) c.requires.workers c.requires.there
    (set_long_as held faults world c.args.names.now first c.requires.first) (start ∙ no_failures faults first.items c.requires.first.calm)
    c.in-Err.ensures.faults closes
