use Rattle.std.proofs.Common.{◌≡◌, Some, length}
use Rattle.std.specs.Prelude.{slice_get}
use Rattle.balance.specs.declared.search.Found.{Found}
use Rattle.balance.specs.inside.Lists.{list_at}
use Rattle.balance.proofs.IncidenceListChannels.{IsVisit}
use Rattle.balance.proofs.search.visit.Given as goal

abbrev pub invariant-loop-channel : goal.invariant-loop-channel
invariant-loop-channel l =
    (x : Found) × (slice_get l.search.found.items l.place ≡ Some x) × (x.actor ≡ l.actor)
    × IsVisit l.links (length l.initial.search.seen.items) (list_at l.incidence.rows.items l.actor) l.search.found.items l.search.seen.items l.place l.channel-index
