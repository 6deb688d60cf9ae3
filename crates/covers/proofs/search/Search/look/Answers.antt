use Rattle.std.proofs.Common.{◌≡◌, ◌<◌, ℕ, List, refl, ap, ◌∙◌, subst}
use Rattle.covers.specs.Lattices.{storage_of}
use Rattle.covers.specs.declared.bound.Bound.{Bound}
use Rattle.covers.specs.inside.Surveys.{AllCovered}
use Rattle.covers.proofs.NoVectorIsLost.{closed}
use Rattle.covers.proofs.LookedAt.{begins, beyond, raised-by}
use Rattle.covers.proofs.search.Search.look.Goals as goal

pub returns-in_default-clause-looked : goal.returns-in_default-clause-looked
returns-in_default-clause-looked c =
    closed c.args.self.now _ c.args.node refl c.requires.least
    (beyond c.args.self.now.lattice c.args.self.now.bounds.items c.args.self.now.best c.args.node (subst (λ (xs : List ℕ). c.args.self.now.lattice.limit < storage_of c.args.self.now.lattice.axes xs) c.as_slice.ensures.value c.in_default.ensures))

pub returns-then-rank-node-clause-looked : goal.returns-then-rank-node-clause-looked
returns-then-rank-node-clause-looked c =
    let is : c.in-Some.storage ≡ storage_of c.args.self.now.lattice.axes c.args.node.lo.items = c.in-Some.ensures.0 ∙ ap (storage_of c.args.self.now.lattice.axes) c.as_slice.ensures.value in
    raised-by c.args.self.now c.raise.new.self c.args.node c.in-Some.storage c.rank-rank.result c.in_ok-raise.ensures.opened c.requires.proper c.requires.least c.rank-rank.ensures c.if-rank-node.true
    (begins c.args.self.now.lattice c.args.self.now.bounds.items c.args.self.now.best c.args.node c.in-Some.storage is)

pub returns-in-Closed-clause-looked : goal.returns-in-Closed-clause-looked
returns-in-Closed-clause-looked c =
    let all = rw c.in-Closed.is at c.in_ok-survey_node.ensures in
    closed c.args.self.now _ c.args.node refl c.requires.least (subst (λ (bs : List Bound). AllCovered c.args.self.now.lattice bs c.args.self.now.best c.args.node) c.as_slice-2.ensures.value all)
