use Rattle.cert_text.proofs.ReadWholes.{spellings_are_one}
use Rattle.cert_text.proofs.laws.spellings_are_one.Goals as goal

pub returns : goal.returns
returns c = spellings_are_one
