use Rattle.std.proofs.lemmas.List.Elements.{All-more}
use Rattle.sd_base.proofs.ElementsKeepPlaces.{flat_next, flat_end}
use Rattle.cert_text.specs.BufferLines.{buffer_text}
use Rattle.cert_text.proofs.PiecesMakeTexts.{all-end}
use Rattle.cert_text.proofs.writing.buffers.put_each.Goals as goal
use Rattle.cert_text.specs.Limits.{IsBufferWithin}

pub returns-clause-text : goal.returns-clause-text
returns-clause-text c = flat_end buffer_text _ _ c.args.buffers.now c.loop-buffer.buffer-index c.loop-buffer-test.false c.loop-buffer.invariant.text

pub returns-clause-within : goal.returns-clause-within
returns-clause-within c = all-end IsBufferWithin c.args.buffers.now c.loop-buffer.buffer-index c.loop-buffer-test.false c.loop-buffer.invariant.within

pub loop-buffer-preserved : goal.loop-buffer-preserved
loop-buffer-preserved c = record {
  text = flat_next buffer_text _ _ _ c.args.buffers.now c.loop-buffer.buffer-index _ c.loop-buffer-test.true c.loop-buffer.invariant.text c.in_ok-put_buffer.ensures.text;
  within = All-more IsBufferWithin c.args.buffers.now c.loop-buffer.buffer-index _ c.loop-buffer-test.true c.loop-buffer.invariant.within c.put_buffer.ensures.within;
}
