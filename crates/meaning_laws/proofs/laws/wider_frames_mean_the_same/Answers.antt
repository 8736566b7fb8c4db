use Rattle.meaning_laws.proofs.Widths.{wider_same}
use Rattle.meaning_laws.proofs.laws.wider_frames_mean_the_same.Goals as goal

pub returns : goal.returns
returns c = wider_same
