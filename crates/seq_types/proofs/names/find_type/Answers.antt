use Rattle.std.proofs.Common.{◌∙◌, sym}
use Rattle.seq_types.proofs.TypeNames.{type_named-chars}
use Rattle.seq_types.proofs.names.find_type.Goals as goal

pub returns : goal.returns
returns c = c.type_spelled.ensures ∙ sym (type_named-chars c.args.name.now c.args.parens c.utf8.name)
