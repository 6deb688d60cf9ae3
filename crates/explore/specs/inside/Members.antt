-- The members that evaluations make, and the best rate of less storage.
use Rattle.std.specs.Prelude.{◌≡◌, ℕ, ◌<◌, ◌⊎◌, List, Contains}
use Rattle.sd_base.specs.declared.numbers.Fraction.{Fraction}
use Rattle.sd_base.specs.Net.{Net}
use Rattle.storage.specs.Distributions.{storage_of}
use Rattle.storage.specs.declared.distribution.Distribution.{Distribution}
use Rattle.pareto_front.specs.declared.point.Point.{Point}
use Rattle.guide.specs.declared.rating.Evaluation.{Evaluation}
use Rattle.evaluations.specs.declared.rated.Rated.{Rated}
use Rattle.evaluations.specs.Rated.{shown_by}
use Rattle.explore.specs.declared.exploration.Member.{Member}

-- the best rate is that of a point, or 0
abbrev pub IsBestOf : List Point → Fraction → Type 0
IsBestOf points best = (best.num ≡ 0) ⊎ ((p : Point) × Contains points p × (p.rate ≡ best))

-- the best rate is that of a member of less storage, or 0
abbrev pub IsBest : Net → Fraction → ℕ → List Member → Type 0
IsBest net best total ms = (best.num ≡ 0) ⊎ ((m : Member) × Contains ms m × (m.rate ≡ best) × (storage_of net.channels m.capacities.capacities < total))

-- the member that an evaluation makes of a distribution, and the one that is made of what is kept
abbrev pub evaluated_member : Distribution → Evaluation → Member
evaluated_member d e = record { capacities = d; rate = e.rate; shown = shown_by e.outcome }

abbrev pub member_of : Distribution → Rated → Member
member_of d r = record { capacities = d; rate = r.rate; shown = r.shown }
