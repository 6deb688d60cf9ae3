use Rattle.std.proofs.Common.{refl}
use Rattle.file_text.specs.Node.{nodes}
use Rattle.gen_graph.specs.NodeTexts.{elements_text}
use Rattle.gen_graph.specs.GraphTrees.{times_of, times_nodes}
use Rattle.gen_graph.proofs.MadeListsGrow.{place_next, place_end, elements_joined}
use Rattle.gen_graph.proofs.written.put_all_times.Goals as goal

pub loop-actor-preserved : goal.loop-actor-preserved
loop-actor-preserved c =
    let row = c.actor-item.result in
    place_next (λ i rows. elements_text (nodes (times_nodes rows))) (λ i r. elements_text (nodes (times_of r.name r.times))) (λ i r rs. elements_joined (times_of r.name r.times) _)
    c.args.actors.now c.loop-actor.actor-index row row c.loop-actor.text.items _ c.put_times.new.text.items c.loop-actor-test.true c.actor-item.is c.loop-actor.invariant c.in_ok-put_times.ensures

pub returns : goal.returns
returns c = place_end (λ i rows. elements_text (nodes (times_nodes rows))) (λ i. refl) c.args.actors.now c.loop-actor.actor-index c.loop-actor.text.items _ c.loop-actor-test.false c.loop-actor.invariant
