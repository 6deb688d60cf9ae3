-- Members that show a cycle are as many distributions that differ, are reachable and have live bounded nets.
use Rattle.std.proofs.Common.{◌≡◌, ℕ, ◌+◌, Option, List, [], ◌∷◌, length, ⊎_elim, refl, sym, ◌∙◌, subst, arith}
use Rattle.std.specs.Prelude.{All, Contains, slice_index_or}
use Rattle.std.proofs.lemmas.List.Elements.{All-cons, All-contains, All-nil, Contains-get_or}
use Rattle.sd_base.specs.declared.limits.Limits.{Limits}
use Rattle.sd_base.specs.declared.numbers.Fraction.{Fraction}
use Rattle.sd_base.specs.Net.{Channel, Net}
use Rattle.sd_base.specs.Lawful.{Lawful}
use Rattle.sd_base.specs.Rates.{Rate}
use Rattle.sd_base.specs.Untimed.{IsLive}
use Rattle.sd_base.proofs.ContainedHavePlaces.{contains-cases, contains-here, contains-later}
use Rattle.storage.specs.BoundedNets.{bound}
use Rattle.storage.specs.StorageOrder.{AreInOrder, IsBefore}
use Rattle.pareto_front.specs.declared.point.Point.{Point}
use Rattle.evaluations.specs.declared.shown.Shown.{Shown}
use Rattle.evaluations.specs.declared.shown.Shown.TheVariants.{Cycle, Blocked}
use Rattle.evaluations.specs.ShownCycles.{shows_cycle}
use Rattle.explore.specs.declared.exploration.Member.{Member}
use Rattle.explore.specs.Explorations.{CountsLive, IsExploration, IsMember, ShowsRate, capacities_of, cycles_in}
use Rattle.explore.proofs.ChildCountsReached.{looped-live}
use Rattle.explore.proofs.TurnsTakeLevels.{cycles-few}

-- a distribution before others, if it shows a cycle
abbrev with_cycle : Shown → List (Option ℕ) → List (List (Option ℕ)) → List (List (Option ℕ))
with_cycle (Cycle cycle) ds dss = ds ∷ dss
with_cycle (Blocked counts) ds dss = dss

-- the distributions of the members that show a cycle, in their order
abbrev looped : List Member → List (List (Option ℕ))
looped [] = []
looped (m ∷ ms) = with_cycle m.shown m.capacities.capacities (looped ms)

many-one : (shown : Shown) (ds : List (Option ℕ)) (dss : List (List (Option ℕ))) → length (with_cycle shown ds dss) ≡ shows_cycle shown + length dss
many-one (Cycle cycle) ds dss = omega arith
many-one (Blocked counts) ds dss = omega arith

many : (ms : List Member) → length (looped ms) ≡ cycles_in ms
many [] = refl
many (m ∷ ms) = let later = many ms in omega (arith, later, many-one m.shown m.capacities.capacities (looped ms))

among-one : (shown : Shown) (es ds : List (Option ℕ)) (some all : List (List (Option ℕ))) → (Contains some ds → Contains all ds) → Contains (with_cycle shown es some) ds → Contains (es ∷ all) ds
among-one (Cycle cycle) es ds some all rest one =
    ⊎_elim
    (λ (same : es ≡ ds). subst (Contains (es ∷ all)) same (contains-here es all))
    (λ (later : Contains some ds). contains-later es all ds (rest later))
    (contains-cases es some ds one)
among-one (Blocked counts) es ds some all rest one = contains-later es all ds (rest one)

among : (ms : List Member) (ds : List (Option ℕ)) → Contains (looped ms) ds → Contains (capacities_of ms) ds
among [] ds one = one
among (m ∷ ms) ds one = among-one m.shown m.capacities.capacities ds (looped ms) (capacities_of ms) (λ later. among ms ds later) one

order-one : (cs : List Channel) (shown : Shown) (ds : List (Option ℕ)) (dss : List (List (Option ℕ))) → All (IsBefore cs ds) dss → AreInOrder cs dss → AreInOrder cs (with_cycle shown ds dss)
order-one cs (Cycle cycle) ds dss before order = (before, order)
order-one cs (Blocked counts) ds dss before order = order

order : (cs : List Channel) (ms : List Member) → AreInOrder cs (capacities_of ms) → AreInOrder cs (looped ms)
order cs [] is = tt
order cs (m ∷ ms) is = order-one cs m.shown m.capacities.capacities (looped ms) before (order cs ms is.1)
  where
    before : All (IsBefore cs m.capacities.capacities) (looped ms)
    before k d below =
        All-contains (IsBefore cs m.capacities.capacities) (capacities_of ms) (slice_index_or (looped ms) k d) is.0
        (among ms (slice_index_or (looped ms) k d) (Contains-get_or (looped ms) k d below))

module _ (net : Net) (laws : Lawful net) (states : ℕ) where
  abbrev AreLive : List (List (Option ℕ)) → Type 0
  AreLive dss = All (λ (ds : List (Option ℕ)). IsLive (bound net ds)) dss

  live-one : (ds : List (Option ℕ)) (rate : Fraction) (shown : Shown) (dss : List (List (Option ℕ))) → Rate (bound net ds) rate.num rate.den → ShowsRate net ds states rate shown → AreLive dss → AreLive (with_cycle shown ds dss)
  live-one ds rate (Cycle cycle) dss is (table, found, critical, same) later =
      All-cons (λ (es : List (Option ℕ)). IsLive (bound net es)) ds dss (looped-live net laws ds rate table cycle is critical same) later
  live-one ds rate (Blocked counts) dss is shows later = later

  live : (ms : List Member) → ((m : Member) → Contains ms m → IsMember net states m) → AreLive (looped ms)
  live [] all = All-nil (λ (es : List (Option ℕ)). IsLive (bound net es))
  live (m ∷ ms) all =
      let mine = all m (contains-here m ms) in
      live-one m.capacities.capacities m.rate m.shown (looped ms) mine.rate mine.shown (live ms (λ x one. all x (contains-later m ms x one)))

pub counts-live : (net : Net) → Lawful net → (limits : Limits) (members : List Member) (points : List Point) → IsExploration net limits members points → (n : ℕ) → n ≡ cycles_in members → CountsLive net limits n
counts-live net laws limits members points is n same = (
  looped members,
  record { order = order net.channels members is.order; reachable = λ ds one. is.reachable ds (among members ds one) },
  live net laws limits.states members is.evaluated,
  same ∙ sym (many members),
  (let as_many = many members in omega (arith, as_many, cycles-few members, is.few)),
)
