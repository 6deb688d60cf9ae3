use Rattle.std.proofs.Common.{List, subst, map}
use Rattle.cert_text.specs.declared.certificates.LinkCycle.{LinkCycle}
use Rattle.cert_maker.specs.inside.Listing.{IsEntered, cycle_of}
use Rattle.cert_maker.proofs.CyclesListedOnce.{distinct-differ, listed-entered, listed-there}
use Rattle.cert_maker.proofs.listing.Cycles.enter.Goals as goal

pub invariant_of-self-2 : goal.invariant_of-self-2
invariant_of-self-2 c = distinct-differ c.insert_full.new.self.keys c.insert_full.ensures.unique

pub returns-clause-there : goal.returns-clause-there
returns-clause-there c =
    let stored = c.in_ok-number.ensures.stored in
    listed-there c.insert_full.new.self.keys c.in_ok-number.number _ stored.0 stored.1 stored.2

pub returns-clause-once : goal.returns-clause-once
returns-clause-once c =
    subst (λ (old : List LinkCycle). IsEntered old c.args.cycle c.in_ok-number.number (map cycle_of c.insert_full.new.self.keys)) c.self.view_is
    (listed-entered c.self.inside.listed.keys c.insert_full.new.self.keys _ c.in_ok-number.number c.in_ok-number.ensures.keys c.in_ok-number.ensures.index c.in_ok-number.ensures.within)
