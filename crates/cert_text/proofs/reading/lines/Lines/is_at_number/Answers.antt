use Rattle.std.proofs.Common.{◌∙◌}
use Rattle.cert_text.proofs.RepeatedReadsGoOn.{begins}
use Rattle.cert_text.proofs.reading.lines.Lines.is_at_number.Goals as goal

pub returns : goal.returns
returns c = c.begins_with_digit.ensures ∙ begins c.args.self.now.rest.now
