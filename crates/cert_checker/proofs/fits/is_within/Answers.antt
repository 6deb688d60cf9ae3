use Rattle.std.proofs.Common.{List, Option, ℕ, subst}
use Rattle.storage.specs.Distributions.{IsDistribution}
use Rattle.storage.proofs.EnlargingAddsRoom.{distribution-length}
use Rattle.cert_checker.proofs.fits.is_within.Goals as goal

pub total_within-requires : goal.total_within-requires
total_within-requires g c =
    distribution-length (g.F.Firing.net c.args.net.now).channels c.args.distribution.now.capacities
    (subst (λ (ds : List (Option ℕ)). IsDistribution (g.F.Firing.net c.args.net.now).channels ds) c.as_slice.ensures (c.is_distribution.ensures.0 c.if-is_distribution.true))
