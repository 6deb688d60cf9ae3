use Rattle.explore.proofs.CornersBeginSearch.{search-begun}
use Rattle.explore.proofs.search.begin.Goals as goal

pub returns-clause-search : goal.returns-clause-search
returns-clause-search g c =
    let net = g.F.Firing.net c.args.exploring.now.net.now in
    search-begun net c.args.exploring.now.limits c.args.capacities.capacities _ c.requires.corner c.new.ensures.items c.new-2.ensures.points c.in_ok-begin.ensures.bounds
    (c.in_ok-begin.ensures.frontier net.channels (record { known = c.in_ok-steps.ensures; some_size = c.know_laws.ensures.some_size }) c.requires.total) c.in_ok-begin.ensures.hints
