use Rattle.std.proofs.Common.{◌≡◌}
use Rattle.rumble_main.proofs.sink.StdSinkSink.write.Given as goal

abbrev pub invariant-writing : goal.invariant-writing
invariant-writing g l = l.self.faults ≡ l.initial.self.faults
