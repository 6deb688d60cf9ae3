use Rattle.std.proofs.Common.{◌≡◌, ℕ, length, refl, ap, ◌∙◌, subst, arith}
use Rattle.pareto_search.specs.inside.Turns.{IsAbsorbed}
use Rattle.pareto_search.proofs.LearningKeepsTellings.{onward-on, onward-same}
use Rattle.pareto_search.proofs.searching.Searching.absorb.Goals as goal

pub loop-place-init : goal.loop-place-init
loop-place-init g c = record { absorbed = c.requires.absorbed; onward = onward-same c.args.base.now.lattice.now c.args.total c.args.self.now; known = refl }

pub absorb_one-requires-clause-place : goal.absorb_one-requires-clause-place
absorb_one-requires-clause-place g c = omega (arith, ap (λ k. length k.tellings.items) c.loop-place.invariant.known)

pub loop-place-preserved : goal.loop-place-preserved
loop-place-preserved g c = record {
  absorbed = c.in_ok-absorb_one.ensures.absorbed;
  onward = onward-on c.args.base.now.lattice.now c.args.total c.args.self.now c.loop-place.self c.absorb_one.new.self c.loop-place.invariant.onward c.in_ok-absorb_one.ensures.onward;
  known = c.absorb_one.ensures.known ∙ c.loop-place.invariant.known;
}

pub returns-clause-standing : goal.returns-clause-standing
returns-clause-standing g c =
    let end : c.loop-place.place ≡ length c.loop-place.self.known.tellings.items = omega (arith, ap (λ k. length k.tellings.items) c.loop-place.invariant.known) in
    subst (λ (n : ℕ). IsAbsorbed (g.F.Firing.net c.args.base.now.exploring.now.net.now) c.args.base.now.exploring.now.limits c.args.base.now.corner.now.capacities c.args.base.now.lattice.now c.args.total n c.loop-place.self) end c.loop-place.invariant.absorbed
