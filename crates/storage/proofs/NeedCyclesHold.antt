-- Need cycles of a bounded net hold with more room elsewhere.
use Rattle.std.proofs.Common.{◌≡◌, ℕ, suc, ◌+◌, ◌-◌, ◌≤◌, ◌<◌, Option, None, Some, List, [], ◌∷◌, length, ⊎_elim, subst, sym, refl, ap, ◌∙◌, arith}
use Rattle.std.specs.Prelude.{slice_index_or}
use Rattle.std.proofs.lemmas.Bool.{cases_lt}
use Rattle.std.proofs.lemmas.List.{get_or-append_right}
use Rattle.sd_base.specs.declared.role.Role.TheVariants.{Space}
use Rattle.sd_base.specs.Net.{Channel, Net, nowhere, channel_at}
use Rattle.sd_base.specs.Schedules.{LastNeed}
use Rattle.critical.specs.declared.cycle.FiringNo.{FiringNo}
use Rattle.critical.specs.declared.cycle.CycleStep.{CycleStep}
use Rattle.critical.specs.declared.cycle.NeedCycle.{NeedCycle}
use Rattle.critical.specs.Cycles.{IsStep, IsChain, HoldsOn}
use Rattle.critical.specs.Spaces.{IsSpaceAt, AreSpaces}
use Rattle.critical.proofs.ListedSpacesRise.{number-place}
use Rattle.storage.specs.Distributions.{capacity_at, AtMost}
use Rattle.storage.specs.BoundedNets.{spaces_from, bound}
use Rattle.storage.specs.ClosedLists.{AgreesOn}
use Rattle.storage.proofs.PlacesRelate.{EachPair, pairs-length, pairs-at}
use Rattle.storage.proofs.SpaceChannels.{SpaceAt, spaces-tell, spaces-there, spaces-one, bound-front, bound-long}

abbrev SameRole : Channel → Channel → Type 0
SameRole x y = x.role ≡ y.role

same-roles : (n : ℕ) (cs : List Channel) (ds es : List (Option ℕ)) → AtMost ds es → EachPair SameRole (spaces_from n cs ds) (spaces_from n cs es)
same-roles n [] ds es most = tt
same-roles n (c ∷ cs) [] [] most = tt
same-roles n (c ∷ cs) (None ∷ ds) (None ∷ es) most = same-roles (suc n) cs ds es most
same-roles n (c ∷ cs) (Some k ∷ ds) (Some l ∷ es) most = (refl, same-roles (suc n) cs ds es most.1)
same-roles n (c ∷ cs) ds es most = absurd most

module _ (net : Net) (ds es : List (Option ℕ)) (most : AtMost ds es) where
  long : length (spaces_from 0 net.channels ds) ≡ length (spaces_from 0 net.channels es)
  long = pairs-length SameRole (spaces_from 0 net.channels ds) (spaces_from 0 net.channels es) (same-roles 0 net.channels ds es most)

  space-stays : (i : ℕ) → i < length (spaces_from 0 net.channels ds) → ((c : ℕ) → (slice_index_or (spaces_from 0 net.channels ds) i nowhere).role ≡ Space c → capacity_at ds c ≡ capacity_at es c) → slice_index_or (spaces_from 0 net.channels ds) i nowhere ≡ slice_index_or (spaces_from 0 net.channels es) i nowhere
  space-stays i below same = let at : SpaceAt 0 net.channels ds (slice_index_or (spaces_from 0 net.channels ds) i nowhere) = spaces-tell 0 net.channels ds i below in let role : (slice_index_or (spaces_from 0 net.channels ds) i nowhere).role ≡ Space (0 + at.place) = ap (λ (c : Channel). c.role) at.is in let e : 0 + at.place ≡ at.place = omega arith in let kept : capacity_at ds at.place ≡ capacity_at es at.place = same at.place (role ∙ ap Space e) in let there = spaces-there 0 net.channels es at.place at.room at.below (sym kept ∙ at.has) in let roles : (slice_index_or (spaces_from 0 net.channels ds) i nowhere).role ≡ (slice_index_or (spaces_from 0 net.channels es) i nowhere).role =
      pairs-at SameRole (spaces_from 0 net.channels ds) (spaces_from 0 net.channels es) (same-roles 0 net.channels ds es most) i (omega (arith, long)) in let found : (slice_index_or (spaces_from 0 net.channels es) there.0 nowhere).role ≡ Space (0 + at.place) = ap (λ (c : Channel). c.role) there.2 in let place : there.0 ≡ i = spaces-one 0 net.channels es there.0 i there.1 (omega (arith, long)) (found ∙ (sym role ∙ roles)) in at.is ∙ (sym there.2 ∙ ap (λ (n : ℕ). slice_index_or (spaces_from 0 net.channels es) n nowhere) place)

  pub channel-stays : (i : ℕ) → i < length (bound net ds).channels → ((c : ℕ) → (channel_at (bound net ds) i).role ≡ Space c → capacity_at ds c ≡ capacity_at es c) → channel_at (bound net ds) i ≡ channel_at (bound net es) i
  channel-stays i below same = ⊎_elim (λ (here : i < length net.channels). bound-front net ds i here ∙ sym (bound-front net es i here)) (λ (later : length net.channels ≤ i). let back : channel_at (bound net ds) i ≡ slice_index_or (spaces_from 0 net.channels ds) (i - length net.channels) nowhere = get_or-append_right net.channels (spaces_from 0 net.channels ds) (length net.channels) i nowhere refl later in let other : channel_at (bound net es) i ≡ slice_index_or (spaces_from 0 net.channels es) (i - length net.channels) nowhere = get_or-append_right net.channels (spaces_from 0 net.channels es) (length net.channels) i nowhere refl later in let stays : slice_index_or (spaces_from 0 net.channels ds) (i - length net.channels) nowhere ≡ slice_index_or (spaces_from 0 net.channels es) (i - length net.channels) nowhere =
      space-stays (i - length net.channels) (omega (arith, bound-long net ds)) (λ c role. same c (ap (λ (x : Channel). x.role) back ∙ role)) in back ∙ (stays ∙ sym other)) (cases_lt i (length net.channels))

  step-stays : (from : FiringNo) (step : CycleStep) → IsStep (bound net ds) from step → ((c : ℕ) → (channel_at (bound net ds) step.channel).role ≡ Space c → capacity_at ds c ≡ capacity_at es c) → IsStep (bound net es) from step
  step-stays from step is same = let stays : channel_at (bound net ds) step.channel ≡ channel_at (bound net es) step.channel = channel-stays step.channel is.place same in record { place = omega (arith, is.place, bound-long net ds, bound-long net es, long); source = subst (λ (c : Channel). c.source ≡ from.actor) stays is.source; target = subst (λ (c : Channel). c.target ≡ step.to.actor) stays is.target; last = subst (λ (c : Channel). LastNeed c step.to.number from.number) stays is.last }

  chain-stays : (from : FiringNo) (steps : List CycleStep) → IsChain (bound net ds) from steps → ((i c : ℕ) → i < length steps → IsSpaceAt (bound net ds) steps i c → capacity_at ds c ≡ capacity_at es c) → IsChain (bound net es) from steps
  chain-stays from [] chain same = tt
  chain-stays from (step ∷ steps) chain same = (
    step-stays from step chain.0 (λ c role. same 0 c (omega arith) role),
    chain-stays step.to steps chain.1 (λ i c below role. same (suc i) c (omega arith) role),
  )

  pub holds-on : (cycle : NeedCycle) → HoldsOn (bound net ds) cycle → ((i c : ℕ) → i < length cycle.steps → IsSpaceAt (bound net ds) cycle.steps i c → capacity_at ds c ≡ capacity_at es c) → HoldsOn (bound net es) cycle
  holds-on cycle holds same = record {
    some_step = holds.some_step;
    some_round = holds.some_round;
    chain = chain-stays cycle.first cycle.steps holds.chain same;
    actor = holds.actor;
    number = holds.number;
    time = holds.time;
  }

  pub holds-still : (cycle : NeedCycle) (spaces : List ℕ) → HoldsOn (bound net ds) cycle → AreSpaces (bound net ds) cycle.steps (length cycle.steps) spaces → AgreesOn spaces ds es → HoldsOn (bound net es) cycle
  holds-still cycle spaces holds are agrees = holds-on cycle holds same
    where
      same : (i c : ℕ) → i < length cycle.steps → IsSpaceAt (bound net ds) cycle.steps i c → capacity_at ds c ≡ capacity_at es c
      same i c below space = let at = number-place spaces c (are.all i c below space) in subst (λ (x : ℕ). capacity_at ds x ≡ capacity_at es x) at.2 (agrees at.0 at.1)
