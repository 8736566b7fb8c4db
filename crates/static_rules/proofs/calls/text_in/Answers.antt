use Rattle.std.proofs.Common.{sym}
use Rattle.static_rules.proofs.TextKinds.{other_kind}
use Rattle.static_rules.proofs.calls.text_in.Goals as goal

pub returns-in_default : goal.returns-in_default
returns-in_default c = sym (other_kind c.args.kind.now c.in_default.not-Text)
