use Rattle.std.proofs.Common.{ℕ, ◌≤◌, ◌<◌}
use Rattle.storage.specs.Distributions.{storage_of}
use Rattle.storage.specs.StorageOrder.{stepped}
use Rattle.cert_checker.specs.ShownChannels.{IsMember, Shows, capacities_at, member_at}
use Rattle.cert_checker.proofs.members.is_closed_at.Given as goal

abbrev pub invariant-loop-channel : goal.invariant-loop-channel
invariant-loop-channel g l =
    (i : ℕ) → i < l.channel → Shows (g.F.Firing.net l.net) l.certificate.limit l.certificate.cycles (member_at l.certificate.members l.number) i
    → storage_of (g.F.Firing.net l.net).channels (stepped (g.F.Firing.net l.net).channels (capacities_at l.certificate.members l.number) i) ≤ l.certificate.limit
    → IsMember l.certificate.members (stepped (g.F.Firing.net l.net).channels (capacities_at l.certificate.members l.number) i)
