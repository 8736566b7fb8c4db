use Rattle.std.proofs.Common.{length, vec_len}
use Rattle.driver_files.specs.Driver.{failures, failures_in}
use Rattle.driver_files.proofs.Closing.{no_failures}
use Rattle.driver_files.proofs.More.{set_long_as, sets_calm}
use Rattle.driver_files.proofs.Rest.{begun_long, count_is, driver_from, few_lengths, opens_known, rest_given, rest_short, rest_stopped, told_from_cut}
use Rattle.driver_files.specs.Driver.{told_files}
use Rattle.driver_files.proofs.open.open_cut.Goals as goal

pub new-cut-requires-clause-few : goal.new-cut-requires-clause-few
new-cut-requires-clause-few g c = few_lengths (g.I.Inputs.world c.args.inputs.now) c.args.names.now c.args.lengths c.requires.lengths c.requires.few

pub returns-in_default-clause-counts : goal.returns-in_default-clause-counts
returns-in_default-clause-counts g c =
    let faults = g.I.File.InputFile.faults in
    let world = g.I.Inputs.world c.args.inputs.now in
    rest_short world c.args.names.now c.args.workers c.args.size (vec_len c.args.first) (failures faults c.args.first.items) (g.I.Inputs.counts c.args.inputs.now)
    (g.I.Inputs.counts c.begin_sets.new.inputs) c.requires.workers c.requires.there
    (set_long_as g.I.File.InputFile.held faults world c.args.names.now c.args.first c.requires.first) (no_failures faults c.args.first.items c.requires.first.calm)
    c.in_default.ensures.closed

pub returns-in-Ok-open_more-clause-files : goal.returns-in-Ok-open_more-clause-files
returns-in-Ok-open_more-clause-files g c =
    let world = g.I.Inputs.world c.args.inputs.now in
    let same = c.in-Ok.ensures.world in
    let more = rw same at c.in-Ok-open_more.ensures.counts in
    let sets = rw same at c.in-Ok-open_more.ensures.sets in
    driver_from g.I.File.InputFile.held g.I.File.InputFile.faults world c.args.names.now c.args.workers c.args.size c.args.lengths.items c.new-cut.result
    c.pieces.result c.seats_of-count.result more.0 c.open_more.new.sets c.new-cut.ensures c.pieces.ensures.value c.seats_of-count.ensures.value c.seats_of-count.ensures.few
    c.requires.lengths sets (begun_long c.in-Ok.sets c.args.first (vec_len c.open_more.new.sets) more.0 c.in-Ok.ensures.sets.0 more.1) more.2.few

pub returns-in-Ok-open_more-clause-told : goal.returns-in-Ok-open_more-clause-told
returns-in-Ok-open_more-clause-told g c =
    let world = g.I.Inputs.world c.args.inputs.now in
    let same = c.in-Ok.ensures.world in
    let more = rw same at c.in-Ok-open_more.ensures.counts in
    told_from_cut world c.args.names.now c.args.workers c.args.size c.args.lengths.items c.new-cut.result
    c.pieces.result c.seats_of-count.result more.0 c.open_more.new.sets tt (g.I.Inputs.counts c.begin_sets.new.inputs) (g.I.Inputs.counts c.open_more.new.inputs)
    c.requires.there c.new-cut.ensures c.pieces.ensures.value c.seats_of-count.ensures.value
    c.requires.lengths (begun_long c.in-Ok.sets c.args.first (vec_len c.open_more.new.sets) more.0 c.in-Ok.ensures.sets.0 more.1) more.2

pub returns-in-Ok-open_more-clause-counts : goal.returns-in-Ok-open_more-clause-counts
returns-in-Ok-open_more-clause-counts g c =
    let world = g.I.Inputs.world c.args.inputs.now in
    let names = c.args.names.now in
    let lengths = c.args.lengths.items in
    let same = c.in-Ok.ensures.world in
    let more = rw same at c.in-Ok-open_more.ensures.counts in
    let sets = rw same at c.in-Ok-open_more.ensures.sets in
    let after = rw c.in-Ok.ensures.sets.2 at more.2 in
    let count = c.seats_of-count.result in
    let is = count_is (length names) c.args.workers c.args.size lengths c.new-cut.result c.pieces.result count c.new-cut.ensures c.pieces.ensures.value c.seats_of-count.ensures.value in
    let long = begun_long c.in-Ok.sets c.args.first (vec_len c.open_more.new.sets) more.0 c.in-Ok.ensures.sets.0 more.1 in
    let opens = opens_known g.I.File.InputFile.held g.I.File.InputFile.faults world names c.args.workers c.args.size lengths count more.0 c.open_more.new.sets
    c.requires.workers c.requires.there c.requires.lengths is long sets in
    rest_given world names c.args.workers c.args.size lengths count more.0 (record { cut = c.new-cut.result; sets = c.open_more.new.sets }) tt
    (g.I.Inputs.counts c.args.inputs.now) (g.I.Inputs.counts c.open_more.new.inputs) opens after

pub returns-in-Err-clause-counts : goal.returns-in-Err-clause-counts
returns-in-Err-clause-counts g c =
    let world = g.I.Inputs.world c.args.inputs.now in
    let held = g.I.File.InputFile.held in
    let faults = g.I.File.InputFile.faults in
    let names = c.args.names.now in
    let lengths = c.args.lengths.items in
    let same = c.in-Ok.ensures.world in
    let more = rw same at c.in-Err.ensures.counts in
    let sets = rw same at c.in-Err.ensures.sets in
    let after = rw c.in-Ok.ensures.sets.2 at more.2 in
    let count = c.seats_of-count.result in
    let is = count_is (length names) c.args.workers c.args.size lengths c.new-cut.result c.pieces.result count c.new-cut.ensures c.pieces.ensures.value c.seats_of-count.ensures.value in
    let long = begun_long c.in-Ok.sets c.args.first (vec_len c.open_more.new.sets) more.0 c.in-Ok.ensures.sets.0 more.1 in
    let opens = opens_known held faults world names c.args.workers c.args.size lengths count more.0 c.open_more.new.sets
    c.requires.workers c.requires.there c.requires.lengths is long sets in
    rest_stopped world names c.args.workers c.args.size lengths count more.0 c.open_more.new.sets.items c.in-Err.fault (failures_in faults c.open_more.new.sets.items)
    (g.I.Inputs.counts c.args.inputs.now) (g.I.Inputs.counts c.open_more.new.inputs) (g.I.Inputs.counts c.close_driver.new.inputs) opens after
    (sets_calm held faults (told_files world names) c.open_more.new.sets.items sets) c.close_driver.ensures.counts
