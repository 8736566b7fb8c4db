use Rattle.json_text.proofs.SoundItems.{items_sound}
use Rattle.json_text.proofs.laws.items_are_sound.Goals as goal

pub returns : goal.returns
returns c = items_sound
