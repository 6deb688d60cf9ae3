use Rattle.std.proofs.Common.{ap}
use Rattle.covers.proofs.NoVectorIsLost.{narrowed}
use Rattle.covers.proofs.search.Search.narrow.Goals as goal

pub returns-clause-looked : goal.returns-clause-looked
returns-clause-looked c =
    narrowed c.args.self.now _ c.args.node c.go.new.self c.args.way c.in_ok-insert.ensures.keys (record { lo = c.go.ensures.lo; hi = ap (λ v. v.items) c.go.ensures.hi; least = c.go.ensures.least }) c.requires.proper c.requires.least c.requires.way
