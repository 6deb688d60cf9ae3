use Rattle.std.proofs.Common.{[], ap, ◌∙◌}
use Rattle.pareto_search.proofs.SlowerBounds.{slower-begun}
use Rattle.pareto_search.proofs.first.slower_search.Goals as goal

pub returns : goal.returns
returns g c =
    c.in_ok-add_slower.ensures c.args.base.now.lattice.now []
    (slower-begun c.args.base.now.lattice.now c.args.due c.in_ok-slower.slower c.in_ok-slower.ensures.searched c.in_ok-slower.ensures.order
    (ap (λ l. l.axes) c.in_ok-slower.ensures.lattice ∙ c.in_ok-lattice.ensures.axes) (ap (λ l. l.limit) c.in_ok-slower.ensures.lattice ∙ c.in_ok-lattice.ensures.limit) c.in_ok-slower.ensures.bounds c.in_ok-slower.ensures.best c.requires)
