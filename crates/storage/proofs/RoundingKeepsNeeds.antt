-- More room eases each need, and rounding down changes none.
use Rattle.std.proofs.Common.{◌≡◌, ℕ, suc, ◌+◌, ◌-◌, ◌*◌, ◌/◌, ◌≤◌, ◌<◌, Option, None, Some, List, [], ◌∷◌, length, refl, arith}
use Rattle.std.specs.Prelude.{slice_index_or}
use Rattle.sd_base.specs.Net.{Channel, Net, nowhere, total}
use Rattle.storage.specs.Distributions.{AtMost}
use Rattle.storage.specs.BoundedNets.{space_of, spaces_from, bound}
use Rattle.storage.specs.Steps.{step_of, rounded_at, rounded}
use Rattle.storage.specs.inside.Easing.{EasesChannel, Eases}
use Rattle.storage.proofs.PlacesRelate.{EachPair, pairs-length, pairs-at, pairs-front}
use Rattle.storage.proofs.ChannelSteps.{AreWhole, made-whole, taken-whole}
use Rattle.storage.proofs.SumsStayWhole.{whole-total, floor-less, less-floor}

eases-same : (c : Channel) → EasesChannel c c
eases-same c = record { source = refl; target = refl; needs = λ j m need. need }

pub bound-eases : (net : Net) (ds es : List (Option ℕ)) → EachPair EasesChannel (spaces_from 0 net.channels ds) (spaces_from 0 net.channels es) → Eases (bound net ds) (bound net es)
bound-eases net ds es pairs = let all : EachPair EasesChannel (bound net ds).channels (bound net es).channels = pairs-front EasesChannel eases-same net.channels (spaces_from 0 net.channels ds) (spaces_from 0 net.channels es) pairs in record { times = refl; round = refl; many = pairs-length EasesChannel (bound net ds).channels (bound net es).channels all; channels = pairs-at EasesChannel (bound net ds).channels (bound net es).channels all }

roomier : (i : ℕ) (c : Channel) (k l : ℕ) → k ≤ l → EasesChannel (space_of i c k) (space_of i c l)
roomier i c k l more = record { source = refl; target = refl; needs = λ j m need. omega arith }

pub more-eases : (n : ℕ) (cs : List Channel) (ds es : List (Option ℕ)) → AtMost ds es → EachPair EasesChannel (spaces_from n cs ds) (spaces_from n cs es)
more-eases n [] ds es most = tt
more-eases n (c ∷ cs) [] [] most = tt
more-eases n (c ∷ cs) (None ∷ ds) (None ∷ es) most = more-eases (suc n) cs ds es most
more-eases n (c ∷ cs) (Some k ∷ ds) (Some l ∷ es) most = (roomier n c k l most.0, more-eases (suc n) cs ds es most.1)
more-eases n (c ∷ cs) ds es most = absurd most

space-needs : (s x : ℕ) (made taken : List ℕ) → 1 ≤ s → AreWhole s made → AreWhole s taken → (j m : ℕ) → (x / s * s + total made m < total taken j → x + total made m < total taken j) × (x + total made m < total taken j → x / s * s + total made m < total taken j)
space-needs s x made taken some whole_made whole_taken j m = let a = whole-total s made whole_made m in let b = whole-total s taken whole_taken j in (λ less. (let from : x / s * s + a.0 * s < b.0 * s = omega (arith, a.1, b.1) in let to = floor-less s x a.0 b.0 some from in omega (arith, a.1, b.1)), λ less. (let from : x + a.0 * s < b.0 * s = omega (arith, a.1, b.1) in let to = less-floor s x a.0 b.0 from in omega (arith, a.1, b.1)))

rounded-room : (c : Channel) (k : ℕ) → rounded_at c k - c.tokens ≡ (k - c.tokens) / step_of c * step_of c
unfolding rounded_at
rounded-room c k = omega arith

rounds-down : (i : ℕ) (c : Channel) (k : ℕ) → 1 ≤ step_of c → EasesChannel (space_of i c k) (space_of i c (rounded_at c k))
rounds-down i c k some = record {
  source = refl;
  target = refl;
  needs = λ j m need. let room : rounded_at c k - c.tokens ≡ (k - c.tokens) / step_of c * step_of c = rounded-room c k in (space-needs (step_of c) (k - c.tokens) c.taken c.made some (taken-whole c) (made-whole c) (j + 1) m).0 (omega arith);
}

rounds-up : (i : ℕ) (c : Channel) (k : ℕ) → 1 ≤ step_of c → EasesChannel (space_of i c (rounded_at c k)) (space_of i c k)
rounds-up i c k some = record {
  source = refl;
  target = refl;
  needs = λ j m need. let room : rounded_at c k - c.tokens ≡ (k - c.tokens) / step_of c * step_of c = rounded-room c k in let less = (space-needs (step_of c) (k - c.tokens) c.taken c.made some (taken-whole c) (made-whole c) (j + 1) m).1 need in omega arith;
}

pub rounding-eases : (n : ℕ) (cs : List Channel) (ds : List (Option ℕ)) → ((i : ℕ) → i < length cs → 1 ≤ step_of (slice_index_or cs i nowhere)) → EachPair EasesChannel (spaces_from n cs ds) (spaces_from n cs (rounded cs ds)) × EachPair EasesChannel (spaces_from n cs (rounded cs ds)) (spaces_from n cs ds)
rounding-eases n [] ds steps = (tt, tt)
rounding-eases n (c ∷ cs) [] steps = (tt, tt)
rounding-eases n (c ∷ cs) (None ∷ ds) steps = rounding-eases (suc n) cs ds (λ i below. steps (suc i) (omega arith))
rounding-eases n (c ∷ cs) (Some k ∷ ds) steps = let rest = rounding-eases (suc n) cs ds (λ i below. steps (suc i) (omega arith)) in let some : 1 ≤ step_of c = steps 0 (omega arith) in ((rounds-down n c k some, rest.0), (rounds-up n c k some, rest.1))
