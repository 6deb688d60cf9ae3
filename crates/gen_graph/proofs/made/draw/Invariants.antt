use Rattle.std.proofs.Common.{◌≡◌, ◌-◌, ◌<◌, ◌++◌, length, All}
use Rattle.gen_graph.specs.MadeGraphs.{modulus, IsDrawn, drawn_for}
use Rattle.gen_graph.proofs.made.draw.Given as goal

-- what is drawn and what is still to draw is all; the state is one, and the draws are within their bounds
abbrev pub invariant-loop : goal.invariant-loop
invariant-loop l =
    (l.drawn ++ drawn_for l.state (l.actors - l.counter) ≡ drawn_for l.fn.seed l.actors) × (l.state < modulus) × All IsDrawn l.drawn × (length l.drawn ≡ l.counter)
