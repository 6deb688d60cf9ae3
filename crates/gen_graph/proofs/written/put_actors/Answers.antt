use Rattle.std.proofs.Common.{refl}
use Rattle.file_text.specs.Node.{nodes}
use Rattle.gen_graph.specs.NodeTexts.{element_text, elements_text}
use Rattle.gen_graph.specs.GraphTrees.{actor_node, actor_nodes}
use Rattle.gen_graph.proofs.MadeListsGrow.{place_next, place_end}
use Rattle.gen_graph.proofs.written.put_actors.Goals as goal

pub loop-a-preserved : goal.loop-a-preserved
loop-a-preserved c =
    let row = c.index-actors-a.result in
    place_next (λ i rows. elements_text (nodes (actor_nodes c.args.channels.now i rows))) (λ i r. element_text (actor_node c.args.channels.now i r)) (λ i r rs. refl)
    c.args.actors.now c.loop-a.a row row c.loop-a.text.items _ c.put_actor.new.text.items c.loop-a-test.true c.index-actors-a.is c.loop-a.invariant c.in_ok-put_actor.ensures

pub returns : goal.returns
returns c = place_end (λ i rows. elements_text (nodes (actor_nodes c.args.channels.now i rows))) (λ i. refl) c.args.actors.now c.loop-a.a c.loop-a.text.items _ c.loop-a-test.false c.loop-a.invariant
