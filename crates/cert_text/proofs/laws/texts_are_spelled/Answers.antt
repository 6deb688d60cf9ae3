use Rattle.cert_text.proofs.SoundWholes.{texts_are_spelled}
use Rattle.cert_text.proofs.laws.texts_are_spelled.Goals as goal

pub returns : goal.returns
returns c = texts_are_spelled
