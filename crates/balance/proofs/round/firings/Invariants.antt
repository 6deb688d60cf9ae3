use Rattle.std.proofs.Common.{◌≡◌, ℕ, ◌<◌, ◌*◌, ◌/◌, length}
use Rattle.std.specs.Prelude.{slice_index}
use Rattle.sd_base.specs.Tables.{phases_of}
use Rattle.balance.specs.inside.Ratios.{ratio_at}
use Rattle.balance.proofs.round.firings.Given as goal

abbrev pub invariant-loop-actor : goal.invariant-loop-actor
invariant-loop-actor l =
    (length l.round.items ≡ l.actor)
    × ((b : ℕ) → b < l.actor → slice_index l.round.items b ≡ (l.cycles / (ratio_at l.ratios b).den) * (ratio_at l.ratios b).num * slice_index (phases_of l.graph) b)
