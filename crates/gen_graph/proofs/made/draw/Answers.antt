use Rattle.std.proofs.Common.{◌≡◌, ◌-◌, ◌++◌, ap, ◌∙◌, arith}
use Rattle.std.specs.Prelude.{length}
use Rattle.std.proofs.lemmas.List.{length_push}
use Rattle.std.proofs.lemmas.List.Elements.{All-nil, All-push, All-same}
use Rattle.gen_graph.specs.MadeGraphs.{IsDrawn, drawn_for}
use Rattle.gen_graph.proofs.MadeListsGrow.{draw_next, draw_end}
use Rattle.gen_graph.proofs.made.draw.Goals as goal

pub loop-init : goal.loop-init
loop-init c =
    let none = c.new-drawn.ensures in
    let all : c.args.actors - 0 ≡ c.args.actors = omega arith in
    (ap (λ ds. ds ++ drawn_for c.args.seed (c.args.actors - 0)) none ∙ ap (drawn_for c.args.seed) all, c.requires, All-same IsDrawn _ _ none (All-nil IsDrawn), ap length none)

pub loop-preserved : goal.loop-preserved
loop-preserved c =
    let pushed = c.in_ok-push.ensures.ok in
    let kept = c.loop.invariant in (
      draw_next c.loop.state c.draw_one.new.state c.args.seed c.loop.counter c.args.actors c.draw_one.result c.loop.drawn c.push.new.self c.loop-test.true c.draw_one.ensures.value c.draw_one.ensures.next kept.0 pushed,
      c.draw_one.ensures.below,
      All-same IsDrawn _ _ pushed (All-push IsDrawn c.loop.drawn c.draw_one.result kept.2 c.draw_one.ensures.within),
      ap length pushed ∙ (length_push c.loop.drawn c.draw_one.result ∙ omega (arith, kept.3)),
    )

pub returns-clause-drawn : goal.returns-clause-drawn
returns-clause-drawn c = draw_end c.loop.state c.args.seed c.loop.counter c.args.actors c.loop.drawn c.loop-test.false c.loop.invariant.0
