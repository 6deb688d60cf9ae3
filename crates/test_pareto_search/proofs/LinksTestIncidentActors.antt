-- Where each actor but the first one shares a channel with one before it, a channel begins or ends at each actor.
use Rattle.std.proofs.Common.{ℕ, zero, suc, ◌≤◌, length, inl, inr, arith}
use Rattle.sd_base.specs.Net.{Net}
use Rattle.storage.specs.IncidentActors.{AreIncident, IsIncident}
use Rattle.test_nets.specs.Ends.{AreLinkedBack, IsLinkedBack}

first : (net : Net) → IsLinkedBack net 1 → IsIncident net 0
first net (i, place, inl (before, at)) = (i, place, inl (omega (arith, before)))
first net (i, place, inr (before, at)) = (i, place, inr (omega (arith, before)))

later : (net : Net) (a : ℕ) → IsLinkedBack net a → IsIncident net a
later net a (i, place, inl (before, at)) = (i, place, inr at)
later net a (i, place, inr (before, at)) = (i, place, inl at)

pub linked-incident : (net : Net) → 2 ≤ length net.times → AreLinkedBack net → AreIncident net
linked-incident net two linked zero actor = first net (linked 1 (omega arith) (omega (arith, two)))
linked-incident net two linked (suc a) actor = later net (suc a) (linked (suc a) (omega arith) actor)
