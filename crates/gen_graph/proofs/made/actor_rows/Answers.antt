use Rattle.std.proofs.Common.{refl, ap, ◌∙◌, [], ◌∷◌, ◌++◌}
use Rattle.gen_graph.specs.MadeGraphs.{made_actor, made_actors}
use Rattle.gen_graph.proofs.MadeListsGrow.{place_next, place_end}
use Rattle.gen_graph.proofs.made.actor_rows.Goals as goal

pub loop-i-preserved : goal.loop-i-preserved
loop-i-preserved c =
    place_next made_actors (λ i d. made_actor i d ∷ []) (λ i d ds. refl) c.args.drawn.now c.loop-i.i _ (record { weight = 0; time = 0 }) c.loop-i.rows _ c.push.new.self
    c.loop-i-test.true refl c.loop-i.invariant (c.in_ok-push.ensures.ok ∙ ap (λ row. c.loop-i.rows ++ row ∷ []) c.in_ok-actor_row.ensures)

pub returns : goal.returns
returns c = place_end made_actors (λ i. refl) c.args.drawn.now c.loop-i.i c.loop-i.rows _ c.loop-i-test.false c.loop-i.invariant
