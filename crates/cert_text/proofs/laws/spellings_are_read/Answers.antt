use Rattle.cert_text.proofs.ReadWholes.{spellings_are_read}
use Rattle.cert_text.proofs.laws.spellings_are_read.Goals as goal

pub returns : goal.returns
returns c = spellings_are_read
