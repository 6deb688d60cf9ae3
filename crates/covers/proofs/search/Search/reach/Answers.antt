use Rattle.std.proofs.Common.{refl, rules}
use Rattle.covers.specs.Bounds.{IsAtMost}
use Rattle.covers.proofs.FewBoundsSuffice.{enough-reached}
use Rattle.covers.proofs.BoundsStayInForce.{covered-reached, searched-more}
use Rattle.covers.proofs.search.Search.reach.Goals as goal

pub returns-then-matches-clause-searched : goal.returns-then-matches-clause-searched
returns-then-matches-clause-searched c =
    let up : IsAtMost c.args.self.now.best c.args.rate = search rules in
    searched-more c.args.self.now _ refl refl refl (λ ks h. covered-reached c.args.self.now.bounds.items c.args.self.now.best c.args.rate ks up h)
    (enough-reached c.args.self.now.bounds.items c.args.self.now.best c.args.rate c.args.self.now.acting.items up c.requires.searched.acting) c.requires.searched
