use Rattle.std.proofs.Common.{◌≡◌, ◌+◌, All, drop, length}
use Rattle.sd_base.specs.declared.numbers.Fraction.{Fraction}
use Rattle.evaluations.specs.Evaluating.{IsEvaluation}
use Rattle.pareto_search.specs.inside.Knowledge.{IsKnown}
use Rattle.pareto_search.specs.inside.Learning.{AreLearned, AreNew, answered_of}
use Rattle.pareto_search.proofs.learning.learn_all.Given as goal

abbrev pub invariant-loop-answered : goal.invariant-loop-answered
invariant-loop-answered g l = record {
  learned : AreLearned l.yielded l.initial.known l.known;
  many : length l.known.tellings.items ≡ length l.initial.known.tellings.items + length l.yielded;
  rest : AreNew (g.F.Firing.net l.base.exploring.now.net.now) l.base.exploring.now.limits l.base.corner.now.capacities l.base.lattice.now l.known.tellings.items (answered_of (drop (length l.yielded) l.fn.answers.items));
  known : (best : Fraction) → All (λ a. IsEvaluation (g.F.Firing.net l.base.exploring.now.net.now) l.base.exploring.now.limits.states best a.capacities a.answer) l.fn.answers.items →
      IsKnown (g.F.Firing.net l.base.exploring.now.net.now) l.base.exploring.now.limits l.base.corner.now.capacities l.base.lattice.now best l.initial.known →
      IsKnown (g.F.Firing.net l.base.exploring.now.net.now) l.base.exploring.now.limits l.base.corner.now.capacities l.base.lattice.now best l.known;
}
