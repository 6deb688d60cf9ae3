use Rattle.sd_base.proofs.ElementsKeepPlaces.{flat_end}
use Rattle.cert_text.specs.NumberLines.{spaced}
use Rattle.cert_text.proofs.PiecesMakeTexts.{all-end}
use Rattle.cert_text.proofs.writing.numbers.put_more_counts.Goals as goal
use Rattle.cert_text.specs.Limits.{IsLong}

pub returns-clause-text : goal.returns-clause-text
returns-clause-text c = flat_end spaced _ _ c.args.counts.now c.loop-count.count-index c.loop-count-test.false c.loop-count.invariant.text

pub returns-clause-within : goal.returns-clause-within
returns-clause-within c = all-end IsLong c.args.counts.now c.loop-count.count-index c.loop-count-test.false c.loop-count.invariant.within
