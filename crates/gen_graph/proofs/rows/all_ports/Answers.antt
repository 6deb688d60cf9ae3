use Rattle.std.proofs.Common.{refl}
use Rattle.file_text.specs.Node.{nodes}
use Rattle.gen_graph.specs.NodeTexts.{elements_text}
use Rattle.gen_graph.specs.GraphTrees.{ports_on, ports_from}
use Rattle.gen_graph.proofs.MadeListsGrow.{place_next, place_end, elements_joined}
use Rattle.gen_graph.proofs.rows.all_ports.Goals as goal

pub loop-i-preserved : goal.loop-i-preserved
loop-i-preserved c =
    let a = c.args.actor in
    let row = c.index-channels-i.result in
    place_next (λ i cs. elements_text (nodes (ports_from a i cs))) (λ i r. elements_text (nodes (ports_on a i r))) (λ i r rs. elements_joined (ports_on a i r) _)
    c.args.channels.now c.loop-i.i row row c.loop-i.text.items _ c.put_ports.new.text.items c.loop-i-test.true c.index-channels-i.is c.loop-i.invariant c.in_ok-put_ports.ensures

pub returns : goal.returns
returns c =
    let a = c.args.actor in
    place_end (λ i cs. elements_text (nodes (ports_from a i cs))) (λ i. refl) c.args.channels.now c.loop-i.i c.loop-i.text.items _ c.loop-i-test.false c.loop-i.invariant
