use Rattle.std.proofs.Common.{refl, ap, ◌++◌}
use Rattle.gen_graph.specs.NodeTexts.{escaped, escaped_byte}
use Rattle.gen_graph.proofs.MadeListsGrow.{place_next, place_end}
use Rattle.gen_graph.proofs.nodes.put_escaped.Goals as goal

pub loop-byte-init : goal.loop-byte-init
loop-byte-init c = ap (λ bs. c.args.text.now.items ++ escaped bs) c.as_bytes-byte-items.ensures.value

pub loop-byte-preserved : goal.loop-byte-preserved
loop-byte-preserved c =
    place_next (λ i. escaped) (λ i. escaped_byte) (λ i b bs. refl) c.as_bytes-byte-items.result.now c.loop-byte.byte-index _ 0 c.loop-byte.text.items _ c.put_byte.new.text.items
    c.loop-byte-test.true refl c.loop-byte.invariant c.in_ok-put_byte.ensures

pub returns : goal.returns
returns c = place_end (λ i. escaped) (λ i. refl) c.as_bytes-byte-items.result.now c.loop-byte.byte-index c.loop-byte.text.items _ c.loop-byte-test.false c.loop-byte.invariant
