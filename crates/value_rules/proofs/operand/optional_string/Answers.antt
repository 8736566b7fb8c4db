use Rattle.std.proofs.Common.{◌≡◌, [], refl, arith}
use Rattle.std.proofs.lemmas.List.{nil_from_length}
use Rattle.std.proofs.lemmas.Str.{chars-nil}
use Rattle.value_rules.proofs.operand.optional_string.Goals as goal

pub returns-in-empty : goal.returns-in-empty
returns-in-empty c =
    let none : c.args.s.now ≡ [] = nil_from_length c.args.s.now (omega arith) in
    rw (none, chars-nil) refl
