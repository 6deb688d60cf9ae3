use Rattle.std.proofs.Common.{◌≡◌, ℕ, List, refl, ap, ◌∙◌, arith}
use Rattle.covers.specs.declared.lattice.Axis.{Axis}
use Rattle.covers.specs.declared.lattice.Lattice.{Lattice}
use Rattle.pareto_search.proofs.EmptySearchesStand.{begun}
use Rattle.pareto_search.proofs.search.begin.Goals as goal

pub returns-clause-standing : goal.returns-clause-standing
returns-clause-standing g c =
    let lattice = c.args.base.now.lattice.now in
    let with_parts : List Axis → ℕ → Lattice = λ axes limit. record { axes = axes; limit = limit } in
    let same : c.in_ok-lattice.lattice ≡ c.args.base.now.lattice.now = ap (λ (axes : List Axis). with_parts axes c.in_ok-lattice.lattice.limit) c.in_ok-lattice.ensures.axes ∙ ap (with_parts lattice.axes) c.in_ok-lattice.ensures.limit in
    begun (g.F.Firing.net c.args.base.now.exploring.now.net.now) c.args.base.now.exploring.now.limits c.args.base.now.corner.now.capacities lattice _ c.in_ok-new.ensures.searched c.in_ok-new.ensures.order (c.in_ok-new.ensures.lattice ∙ same) c.in_ok-new.ensures.bounds c.in_ok-new.ensures.best
    c.new-2.ensures.items c.new-3.ensures.items c.new-4.ensures.items (omega (arith, c.new-5.ensures.same)) refl
