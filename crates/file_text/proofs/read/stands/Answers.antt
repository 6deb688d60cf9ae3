use Rattle.file_text.proofs.OneKnownFault.{begins_stands}
use Rattle.file_text.proofs.read.stands.Goals as goal

pub returns : goal.returns
returns c = begins_stands c.args.word.now c.args.bytes.now c.args.place c.min.result c.starts_with.result c.min.ensures c.starts_with.ensures.value
