use Rattle.std.proofs.Common.{◌↔◌, ℕ, IsTrue, subst, sym}
use Rattle.storage.specs.Distributions.{storage_of}
use Rattle.cert_text.specs.declared.certificates.MemberShown.{MemberShown}
use Rattle.cert_checker.specs.inside.BelowPoints.{HasBelow, IsShownBelow}
use Rattle.cert_checker.proofs.FileNets.{within-many}
use Rattle.cert_checker.proofs.points.is_member_below.Goals as goal

pub total-requires-clause-many : goal.total-requires-clause-many
total-requires-clause-many g c = within-many (g.F.Firing.net c.args.net.now) c.args.limit c.args.member.now.capacities.capacities c.requires.within

pub returns-in-Cycle : goal.returns-in-Cycle
returns-in-Cycle g c = λ points best.
    let storage : ℕ = storage_of (g.F.Firing.net c.args.net.now).channels c.args.member.now.capacities.capacities in
    subst (λ (s : MemberShown). IsTrue c.has.result ↔ IsShownBelow points storage s) (sym c.in-Cycle.is) (subst (λ (t : ℕ). IsTrue c.has.result ↔ HasBelow points t c.in-Cycle.rate) c.total.ensures (c.has.ensures points best))
