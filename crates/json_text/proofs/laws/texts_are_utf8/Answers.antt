use Rattle.json_text.proofs.Utf8Lemmas.{texts_utf8}
use Rattle.json_text.proofs.laws.texts_are_utf8.Goals as goal

pub returns : goal.returns
returns c = texts_utf8
