use Rattle.std.proofs.Common.{◌≡◌, sym, subst}
use Rattle.sd_base.specs.Net.{Net}
use Rattle.sd_base.specs.Lawful.{Lawful}
use Rattle.sd_base.specs.Schedules.{Admissible}
use Rattle.ordered.specs.Orders.{KeepsOrders}
use Rattle.ordered.specs.OrderedNets.{ordered}
use Rattle.ordered.specs.inside.Places.{with_places}
use Rattle.ordered.proofs.AdmissibleKeepsOrders.{admissible-both, admissible-ordered}
use Rattle.ordered.proofs.OrderedKeepsLaws.{ordered-lawful}
use Rattle.ordered.proofs.PartsMatchPlainNet.{parts-ordered, turns-of}
use Rattle.ordered.proofs.net.Ordered.new.Goals as goal

pub invariant_of-result : goal.invariant_of-result
invariant_of-result g c =
    let net = g.F.Firing.net c.args.net.now in
    let is = parts-ordered (g.F.Firing.net c.args.net.now) c.know_laws.ensures c.args.orders.now.lists c.requires.orders c.in_ok-phases.phases.items c.in_ok-phases.ensures c.in_ok-places.places.items c.in_ok-places.ensures.over c.in_ok-places.ensures.channels in
    record {
      turns = turns-of (g.F.Firing.net c.args.net.now) c.know_laws.ensures c.args.orders.now.lists c.requires.orders c.in_ok-phases.phases.items c.in_ok-phases.ensures;
      over = c.in_ok-places.ensures.over;
      laws = subst Lawful (sym is) (ordered-lawful (g.F.Firing.net c.args.net.now) c.know_laws.ensures c.requires.can c.args.orders.now.lists c.requires.orders c.requires.few);
    }

pub returns-clause-net : goal.returns-clause-net
returns-clause-net g c =
    parts-ordered (g.F.Firing.net c.args.net.now) c.know_laws.ensures c.args.orders.now.lists c.requires.orders c.in_ok-phases.phases.items c.in_ok-phases.ensures c.in_ok-places.places.items c.in_ok-places.ensures.over c.in_ok-places.ensures.channels

pub returns-clause-kept : goal.returns-clause-kept
returns-clause-kept g c = λ s.
    let is = parts-ordered (g.F.Firing.net c.args.net.now) c.know_laws.ensures c.args.orders.now.lists c.requires.orders c.in_ok-phases.phases.items c.in_ok-phases.ensures c.in_ok-places.places.items c.in_ok-places.ensures.over c.in_ok-places.ensures.channels in (
      λ admissible. admissible-both (g.F.Firing.net c.args.net.now) c.know_laws.ensures c.requires.can c.args.orders.now.lists c.requires.orders s (subst (λ (net : Net). Admissible net s) is admissible),
      λ both. subst (λ (net : Net). Admissible net s) (sym is) (admissible-ordered (g.F.Firing.net c.args.net.now) c.know_laws.ensures c.requires.can c.args.orders.now.lists c.requires.orders s both.0 both.1),
    )
