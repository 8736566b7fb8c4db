use Rattle.byte_lanes.specs.Bytes.{is_newline}
use Rattle.byte_lanes.proofs.LineLemmas.{IsFirstByte_position}
use Rattle.byte_lanes.proofs.lines.first_newline.Goals as goal

pub returns : goal.returns
returns c = IsFirstByte_position is_newline c.args.b.now c.memchr.result c.memchr.ensures
