use Rattle.std.proofs.Common.{◌∙◌}
use Rattle.cert_text.proofs.ReadWholes.{spellings_are_read}
use Rattle.cert_text.proofs.writing.write_within.Goals as goal

pub returns-clause-read : goal.returns-clause-read
returns-clause-read c = spellings_are_read c.bytes_of.result c.args.version c.args.certificate.now c.requires.version c.requires.orderly c.requires.spellable (c.in_ok-text.ensures.within c.requires.version) (c.bytes_of.ensures ∙ c.in_ok-text.ensures.text)
