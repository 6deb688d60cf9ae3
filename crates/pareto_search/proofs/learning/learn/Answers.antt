use Rattle.std.proofs.Common.{refl, sym, ap, ◌∙◌}
use Rattle.evaluations.specs.Evaluating.{least_loops, most_loops}
use Rattle.pareto_search.specs.inside.Learning.{telling_of}
use Rattle.pareto_search.proofs.KnownMore.{known-more, shown-ran}
use Rattle.pareto_search.proofs.learning.learn.Goals as goal

pub returns-in_ok-keep-in-Ok-clause-learned : goal.returns-in_ok-keep-in-Ok-clause-learned
returns-in_ok-keep-in-Ok-clause-learned g c = record {
  telling = telling_of c.args.answered.capacities.capacities c.in-Ok.rated c.in_ok-keep-in-Ok.ensures.tellings.bounding;
  added = c.in_ok-keep-in-Ok.ensures.tellings.added;
  vector = refl;
  least = shown-ran c.in-Ok.rated.shown ∙ sym (ap least_loops c.in-Ok.is);
  most = shown-ran c.in-Ok.rated.shown ∙ sym (ap most_loops c.in-Ok.is);
}

pub returns-in_ok-keep-in-Ok-clause-known : goal.returns-in_ok-keep-in-Ok-clause-known
returns-in_ok-keep-in-Ok-clause-known g c = λ best answer known.
    let is = rw c.in-Ok.is at answer in
    known-more (g.F.Firing.net c.args.base.now.exploring.now.net.now) c.args.base.now.exploring.now.limits c.args.base.now.corner.now.capacities c.args.base.now.lattice.now best
    c.args.answered.capacities.capacities is.0 c.in-Ok.rated c.args.known.now c.keep.new.known c.requires.new is.1 is.2 c.in_ok-keep-in-Ok.ensures.tellings c.in_ok-keep-in-Ok.ensures.loops known c.requires.few

pub returns-in-Err-clause-refused : goal.returns-in-Err-clause-refused
returns-in-Err-clause-refused g c =
    c.refusal.ensures (g.F.Firing.net c.args.base.now.exploring.now.net.now) c.args.base.now.exploring.now.limits c.requires.new.reachable (rw c.in-Err.is at c.requires.answer.1)

pub keep-requires-clause-evaluated : goal.keep-requires-clause-evaluated
keep-requires-clause-evaluated g c = (c.requires.answer.0, rw c.in-Ok.is at c.requires.answer.1)
