use Rattle.std.proofs.Common.{refl}
use Rattle.file_text.specs.Node.{nodes}
use Rattle.gen_graph.specs.NodeTexts.{element_text, elements_text}
use Rattle.gen_graph.specs.GraphTrees.{channel_node, channel_nodes}
use Rattle.gen_graph.proofs.MadeListsGrow.{place_next, place_end}
use Rattle.gen_graph.proofs.written.put_channels.Goals as goal

pub loop-i-preserved : goal.loop-i-preserved
loop-i-preserved c =
    let row = c.index-channels-i.result in
    place_next (λ i rows. elements_text (nodes (channel_nodes c.args.actors.now i rows))) (λ i r. element_text (channel_node c.args.actors.now i r)) (λ i r rs. refl)
    c.args.channels.now c.loop-i.i row row c.loop-i.text.items _ c.put_channel.new.text.items c.loop-i-test.true c.index-channels-i.is c.loop-i.invariant c.in_ok-put_channel.ensures

pub returns : goal.returns
returns c = place_end (λ i rows. elements_text (nodes (channel_nodes c.args.actors.now i rows))) (λ i. refl) c.args.channels.now c.loop-i.i c.loop-i.text.items _ c.loop-i-test.false c.loop-i.invariant
