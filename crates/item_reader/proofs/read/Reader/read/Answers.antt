use Rattle.std.proofs.Common.{sym, ◌∙◌, ap}
use Rattle.item_reader.specs.View.{built_if}
use Rattle.item_reader.specs.declared.build.Progress.TheVariants.{Troubled}
use Rattle.item_reader.specs.declared.build.Trouble.TheVariants.{NumberOut, TooDeep}
use Rattle.item_reader.proofs.ReadingSteps.{reads_as, reads_blank, reads_made, reads_build, never_open}
use Rattle.item_reader.proofs.read.Reader.read.Goals as goal

pub returns-then-is_blank-clause-ok : goal.returns-then-is_blank-clause-ok
returns-then-is_blank-clause-ok c = reads_blank c.args.line.now (sym c.if-is_blank.ensures)

pub unreachable-requires : goal.unreachable-requires
unreachable-requires c =
    let x = c.read_text.new.self.state.build in
    never_open c.args.line.now x (c.in_ok-is_text.ensures ∙ ap (λ t. built_if t x) c.if-not-is_text.false) c.in-Open.ensures

pub returns-then-not-is_text-clause-err : goal.returns-then-not-is_text-clause-err
returns-then-not-is_text-clause-err c =
    reads_made c.args.line.now _ (sym c.if-is_blank.ensures) (c.in_ok-is_text.ensures ∙ ap (λ t. built_if t c.read_text.new.self.state.build) c.if-not-is_text.true)

pub returns-in-Done-clause-ok : goal.returns-in-Done-clause-ok
returns-in-Done-clause-ok c =
    let x = c.read_text.new.self.state.build in
    reads_build c.args.line.now x _ (sym c.if-is_blank.ensures) (c.in_ok-is_text.ensures ∙ ap (λ t. built_if t x) c.if-not-is_text.false) c.in-Done.ensures

pub returns-in-Troubled-NumberOut-clause-err : goal.returns-in-Troubled-NumberOut-clause-err
returns-in-Troubled-NumberOut-clause-err c =
    let x = c.read_text.new.self.state.build in
    reads_build c.args.line.now x (Troubled NumberOut) (sym c.if-is_blank.ensures) (c.in_ok-is_text.ensures ∙ ap (λ t. built_if t x) c.if-not-is_text.false) (ap Troubled (sym c.in-Troubled-NumberOut.field-0-is) ∙ c.in-Troubled-NumberOut.ensures)

pub returns-in-Troubled-TooDeep-clause-err : goal.returns-in-Troubled-TooDeep-clause-err
returns-in-Troubled-TooDeep-clause-err c =
    let x = c.read_text.new.self.state.build in
    reads_build c.args.line.now x (Troubled TooDeep) (sym c.if-is_blank.ensures) (c.in_ok-is_text.ensures ∙ ap (λ t. built_if t x) c.if-not-is_text.false) (ap Troubled (sym c.in-Troubled-TooDeep.field-0-is) ∙ c.in-Troubled-TooDeep.ensures)

pub returns-then-not-is_text-clause-reads : goal.returns-then-not-is_text-clause-reads
returns-then-not-is_text-clause-reads c = reads_as c.args.line.now _ (returns-then-not-is_text-clause-err c)

pub returns-in-Done-clause-reads : goal.returns-in-Done-clause-reads
returns-in-Done-clause-reads c = reads_as c.args.line.now _ (returns-in-Done-clause-ok c)

pub returns-in-Troubled-NumberOut-clause-reads : goal.returns-in-Troubled-NumberOut-clause-reads
returns-in-Troubled-NumberOut-clause-reads c = reads_as c.args.line.now _ (returns-in-Troubled-NumberOut-clause-err c)

pub returns-in-Troubled-TooDeep-clause-reads : goal.returns-in-Troubled-TooDeep-clause-reads
returns-in-Troubled-TooDeep-clause-reads c = reads_as c.args.line.now _ (returns-in-Troubled-TooDeep-clause-err c)
