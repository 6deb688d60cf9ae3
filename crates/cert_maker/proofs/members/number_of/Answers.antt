use Rattle.std.proofs.Common.{OnOk, Result, Ok, Err, All, map, subst, sym, arith}
use Rattle.sd_base.specs.Net.{Net}
use Rattle.storage.specs.BoundedNets.{bound}
use Rattle.storage.proofs.DistributionsShareLaws.{can-hold}
use Rattle.cert_text.specs.Spellable.{HasText}
use Rattle.cert_maker.specs.Links.{HasNoOrders, link_step}
use Rattle.cert_maker.proofs.LinkedCyclesHaveText.{linked-text}
use Rattle.cert_maker.proofs.BoundNetsLackOrders.{bound-orderless}
use Rattle.cert_maker.proofs.members.number_of.Goals as goal

pub new-requires-clause-can : goal.new-requires-clause-can
new-requires-clause-can g c = can-hold (g.F.Firing.net c.args.net.now).channels c.args.capacities.now.capacities c.know_laws.ensures.some_size c.requires.distribution (omega (arith, c.requires.small))

pub linked-requires-clause-unordered : goal.linked-requires-clause-unordered
linked-requires-clause-unordered g c = subst (λ (net : Net). HasNoOrders net) (sym c.in_ok-bounded.ensures) (bound-orderless (g.F.Firing.net c.args.net.now) c.args.capacities.now.capacities c.requires.unordered)

on-ok : {T E : Type 0} (r : Result T E) (P : Type 0) → P → OnOk r P
on-ok (Ok x) P p = p
on-ok (Err e) P p = tt

pub returns-clause-text : goal.returns-clause-text
returns-clause-text g c =
    let net : Net = bound (g.F.Firing.net c.args.net.now) c.args.capacities.now.capacities in
    on-ok c.enter.result (All HasText (map (link_step net) c.args.cycle.now.steps))
    (linked-text net c.args.cycle.now.steps c.requires.channels (bound-orderless (g.F.Firing.net c.args.net.now) c.args.capacities.now.capacities c.requires.unordered))
