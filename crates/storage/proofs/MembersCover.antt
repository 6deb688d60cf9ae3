-- Each distribution that reaches a pair is above a member of a closed list that bounds its rate.
use Rattle.std.proofs.Common.{◌≡◌, ℕ, suc, ◌*◌, ◌≤◌, Option, List, ⊎_elim, subst, sym, arith}
use Rattle.sd_base.specs.Net.{Channel, Net, channel_at}
use Rattle.sd_base.specs.Lawful.{Lawful}
use Rattle.sd_base.specs.Rates.{Rate}
use Rattle.sd_base.specs.Untimed.{IsLive, Blocks, IsEnd}
use Rattle.sd_base.proofs.FiringOrdersEnd.{live_or_blocked}
use Rattle.storage.specs.Distributions.{IsDistribution, AtMost, storage_of}
use Rattle.storage.specs.BoundedNets.{bound}
use Rattle.storage.specs.Steps.{IsCorner, rounded}
use Rattle.storage.specs.inside.Easing.{Eases}
use Rattle.storage.specs.ParetoPoints.{Rating, ReachesBy, Reaches, rating_of}
use Rattle.storage.specs.ClosedLists.{Entry, entry_at, AgreesOn, IsClosedBy, IsClosed, IsCovered}
use Rattle.storage.proofs.ChannelSteps.{some-step}
use Rattle.storage.proofs.RoundingKeepsNeeds.{bound-eases, rounding-eases}
use Rattle.storage.proofs.EasingKeepsSchedules.{eases-rate}
use Rattle.storage.proofs.CornerStaysBelow.{rounded-dist, rounded-grid, rounded-most, rounded-above}
use Rattle.storage.proofs.BlockingForcesZero.{bound-timed, bound-wired, bound-balanced, blocked-zero}
use Rattle.storage.proofs.StepsReachMembers.{HasSteps, most-trans, storage-le, Meets, climb}

pub covered-by : (cs : List Channel) (rating : Rating) → HasSteps cs → (limit : ℕ) (es : List Entry) → IsClosedBy cs rating limit es → (t p q : ℕ) (ds : List (Option ℕ)) → ReachesBy cs rating limit t p q ds → IsCovered es ds p q
covered-by cs rating steps limit es closed t p q ds reaches = let under : AtMost (rounded cs ds) ds = rounded-most cs ds reaches.distribution in let fits : storage_of cs (rounded cs ds) ≤ storage_of cs ds = storage-le cs (rounded cs ds) ds under in let small : storage_of cs (rounded cs ds) ≤ limit = omega (arith, reaches.total, reaches.within) in let above : AtMost closed.corner (rounded cs ds) = closed.above ds p q reaches.distribution (omega (arith, reaches.total, reaches.within)) reaches.rate reaches.runs in
    let corner : storage_of cs closed.corner ≤ limit = omega (arith, storage-le cs closed.corner (rounded cs ds) above) in let start = closed.start corner in let first : AtMost (entry_at es start.0).capacities (rounded cs ds) = subst (λ (x : List (Option ℕ)). AtMost x (rounded cs ds)) (sym start.2) above in let meets : Meets es (rounded cs ds) = climb cs rating limit es closed steps (rounded cs ds) (rounded-grid cs ds reaches.distribution) small (suc (storage_of cs (rounded cs ds))) start.0 start.1 first (omega arith) in record {
      place = meets.place;
      below = meets.below;
      most = most-trans (entry_at es meets.place).capacities (rounded cs ds) ds meets.most under;
      bounds = closed.bounds meets.place meets.below ds reaches.distribution (omega (arith, reaches.total, reaches.within)) meets.most meets.agrees p q reaches.rate reaches.runs;
    }

pub net-steps : (net : Net) → Lawful net → HasSteps net.channels
net-steps net laws = record { step = λ i below. some-step (channel_at net i) (laws.some_made i below); size = laws.some_size }

pub rounding-rate : (net : Net) → Lawful net → (ds : List (Option ℕ)) (p q : ℕ) → (Rate (bound net ds) p q → Rate (bound net (rounded net.channels ds)) p q) × (Rate (bound net (rounded net.channels ds)) p q → Rate (bound net ds) p q)
rounding-rate net laws ds p q = let pairs = rounding-eases 0 net.channels ds (net-steps net laws).step in let down : Eases (bound net ds) (bound net (rounded net.channels ds)) = bound-eases net ds (rounded net.channels ds) pairs.0 in let up : Eases (bound net (rounded net.channels ds)) (bound net ds) = bound-eases net (rounded net.channels ds) ds pairs.1 in (eases-rate (bound net ds) (bound net (rounded net.channels ds)) down up p q, eases-rate (bound net (rounded net.channels ds)) (bound net ds) up down p q)

pub running-live : (net : Net) → Lawful net → (ds : List (Option ℕ)) (p q : ℕ) → Rate (bound net ds) p q → 1 ≤ p → IsLive (bound net ds)
running-live net laws ds p q rate runs = ⊎_elim (λ (live : IsLive (bound net ds)). live) (λ (blocked : (v : ℕ → ℕ) × IsEnd (bound net ds) v × Blocks (bound net ds) v). absurd (let none : p ≡ 0 = blocked-zero (bound net ds) (bound-timed net laws ds) (bound-wired net laws ds) (bound-balanced net laws ds) blocked.0 blocked.2 p q rate in omega arith)) (live_or_blocked (bound net ds))

-- what has a rate above 0 is, rounded down, at least the corner
pub net-above : (net : Net) → Lawful net → (limit : ℕ) (corner : List (Option ℕ)) → IsCorner net.channels corner →
    (ds : List (Option ℕ)) (p q : ℕ) → IsDistribution net.channels ds → storage_of net.channels ds ≤ limit → Rate (bound net ds) p q → 1 ≤ p → AtMost corner (rounded net.channels ds)
net-above net laws limit corner is_corner ds p q dist within rate runs = rounded-above net laws (net-steps net laws).step ds corner dist (running-live net laws ds p q rate runs) is_corner

-- an entry bounds the rates of all distributions that agree with it on what it shows and have no less room elsewhere
abbrev pub BoundsRoomier : Net → ℕ → Entry → Type 0
BoundsRoomier net limit e =
    (ds : List (Option ℕ)) → IsDistribution net.channels ds → storage_of net.channels ds ≤ limit → AtMost e.capacities ds → AgreesOn e.shown e.capacities ds →
    (p q : ℕ) → Rate (bound net ds) p q → p * e.den ≤ e.num * q

-- and so of all that do when rounded down, which changes no rate
pub net-bounds : (net : Net) → Lawful net → (limit : ℕ) (e : Entry) → BoundsRoomier net limit e →
    (ds : List (Option ℕ)) → IsDistribution net.channels ds → storage_of net.channels ds ≤ limit → AtMost e.capacities (rounded net.channels ds) → AgreesOn e.shown e.capacities (rounded net.channels ds) →
    (p q : ℕ) → Rate (bound net ds) p q → 1 ≤ p → p * e.den ≤ e.num * q
net-bounds net laws limit e bounds ds dist within most agrees p q rate runs =
    let under : storage_of net.channels (rounded net.channels ds) ≤ storage_of net.channels ds = storage-le net.channels (rounded net.channels ds) ds (rounded-most net.channels ds dist) in
    bounds (rounded net.channels ds) (rounded-dist net.channels ds dist) (omega (arith, under, within)) most agrees p q ((rounding-rate net laws ds p q).0 rate)

pub covered : (net : Net) → Lawful net → (limit : ℕ) (es : List Entry) → IsClosed net limit es → (t p q : ℕ) (ds : List (Option ℕ)) → Reaches net limit t p q ds → IsCovered es ds p q
covered net laws limit es closed t p q ds reaches = covered-by net.channels (rating_of net) (net-steps net laws) limit es closed t p q ds reaches
