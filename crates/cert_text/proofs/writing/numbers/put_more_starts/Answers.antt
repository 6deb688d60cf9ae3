use Rattle.sd_base.proofs.ElementsKeepPlaces.{flat_end}
use Rattle.cert_text.specs.NumberLines.{spaced}
use Rattle.cert_text.proofs.writing.numbers.put_more_starts.Goals as goal

pub returns : goal.returns
returns c = flat_end spaced _ _ c.args.starts.now c.loop-start.start-index c.loop-start-test.false c.loop-start.invariant
