use Rattle.std.proofs.Common.{refl, map}
use Rattle.file_text.specs.Node.{nodes}
use Rattle.gen_graph.specs.NodeTexts.{element_text, elements_text}
use Rattle.gen_graph.specs.GraphTrees.{size_node}
use Rattle.gen_graph.proofs.MadeListsGrow.{place_next, place_end}
use Rattle.gen_graph.proofs.written.put_sizes.Goals as goal

pub loop-channel-preserved : goal.loop-channel-preserved
loop-channel-preserved c =
    let row = c.channel-item.result in
    place_next (λ i rows. elements_text (nodes (map size_node rows))) (λ i r. element_text (size_node r)) (λ i r rs. refl)
    c.args.channels.now c.loop-channel.channel-index row row c.loop-channel.text.items _ c.put_size.new.text.items c.loop-channel-test.true c.channel-item.is c.loop-channel.invariant c.in_ok-put_size.ensures

pub returns : goal.returns
returns c = place_end (λ i rows. elements_text (nodes (map size_node rows))) (λ i. refl) c.args.channels.now c.loop-channel.channel-index c.loop-channel.text.items _ c.loop-channel-test.false c.loop-channel.invariant
