use Rattle.std.proofs.Common.{◌≡◌, length}
use Rattle.outside.specs.inside.Parts.{AllSpare}
use Rattle.outside.proofs.mem_outputs.spare_sinks.Given as goal

-- so many sinks as turns are made
abbrev pub invariant-loop : goal.invariant-loop
invariant-loop l = record {
  made : length l.spare.items ≡ l.counter;
  spare : AllSpare l.room l.spare.items;
}
