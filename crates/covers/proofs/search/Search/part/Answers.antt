use Rattle.std.proofs.Common.{◌≡◌, subst, sym, rules}
use Rattle.std.specs.Prelude.{slice_index_or}
use Rattle.covers.specs.declared.bound.Bound.{Bound}
use Rattle.covers.specs.Bounds.{IsInForce}
use Rattle.covers.proofs.NoVectorIsLost.{parted}
use Rattle.covers.proofs.BoundsNarrowNodes.{covered-here}
use Rattle.covers.proofs.search.Search.part.Goals as goal

pub returns-clause-looked : goal.returns-clause-looked
returns-clause-looked c =
    let is : c.index.result.now ≡ slice_index_or c.args.self.now.bounds.items c.args.place c.index.result.now = search rules in
    let force : IsInForce c.args.self.now.best c.index.result.now = subst (λ (b : Bound). IsInForce c.args.self.now.best b) (sym is) (c.requires.holds c.index.result.now).force in
    parted c.args.self.now c.open_all.new.self c.args.node c.index.result.now c.in_ok-children.children.items c.in_ok-open_all.ensures.opened c.requires.proper c.requires.least c.in_ok-children.ensures
    (λ ks h. covered-here c.args.self.now.bounds.items c.args.self.now.best c.args.place c.index.result.now ks c.requires.place is force h)
