-- Counts that block a bounded net block it with all capacities that agree on the channels that they show.
use Rattle.std.proofs.Common.{◌≡◌, ℕ, ◌+◌, ◌≤◌, ◌<◌, ◌⊎◌, true, false, Option, List, length, inl, inr, ⊎_elim, subst, sym, ap, ◌∙◌, arith}
use Rattle.std.specs.Prelude.{slice_index}
use Rattle.std.proofs.lemmas.Bool.{cases_lt, cases_Bool}
use Rattle.sd_base.specs.Net.{Channel, Net, channel_at}
use Rattle.sd_base.specs.Schedules.{Needs, Lacks}
use Rattle.sd_base.specs.SelfTimed.{allows}
use Rattle.sd_base.specs.Untimed.{CanFire, Blocks}
use Rattle.sd_base.proofs.EarliestExists.{allows-true, allows-false}
use Rattle.storage.specs.Distributions.{capacity_at}
use Rattle.storage.specs.BoundedNets.{space_of, bound}
use Rattle.storage.specs.ShownSpaces.{ShowsSpace}
use Rattle.storage.proofs.SpaceChannels.{SpaceAt, bound-front, bound-long, bound-space, bound-back}

pub can_or_lacks : (net : Net) (v : ℕ → ℕ) (a : ℕ) → CanFire net v a ⊎ Lacks net v a (v a)
can_or_lacks net v a = ⊎_elim (λ (can : allows net.channels v a (v a) ≡ true). inl (allows-true net.channels v a (v a) can)) (λ (lack : allows net.channels v a (v a) ≡ false). inr (allows-false net.channels v a (v a) lack)) (cases_Bool (allows net.channels v a (v a)))

module _ (net : Net) (ds es : List (Option ℕ)) (v : ℕ → ℕ) (same : (c : ℕ) → ShowsSpace net ds v c → capacity_at es c ≡ capacity_at ds c) where
  lacks-on : (a : ℕ) → Lacks net v a (v a) → Lacks (bound net es) v a (v a)
  lacks-on a lack = let front : channel_at (bound net es) lack.0 ≡ channel_at net lack.0 = bound-front net es lack.0 lack.1 in (lack.0, omega (arith, lack.1, bound-long net es), ap (λ (c : Channel). c.target) front ∙ lack.2, subst (λ (c : Channel). Needs c (v a) (v c.source)) (sym front) lack.3)

  lacks-space : (a : ℕ) → v a < slice_index net.round a → CanFire net v a → Lacks (bound net ds) v a (v a) → Lacks (bound net es) v a (v a)
  lacks-space a short fed lack = ⊎_elim (λ (here : lack.0 < length net.channels). let front : channel_at (bound net ds) lack.0 ≡ channel_at net lack.0 = bound-front net ds lack.0 here in let into : (channel_at net lack.0).target ≡ a = sym (ap (λ (c : Channel). c.target) front) ∙ lack.2 in lacks-on a (lack.0, here, into, subst (λ (c : Channel). Needs c (v a) (v c.source)) front lack.3)) (λ (later : length net.channels ≤ lack.0). let at : SpaceAt 0 net.channels ds (channel_at (bound net ds) lack.0) = bound-back net ds lack.0 later lack.1 in let e : 0 + at.place ≡ at.place = omega arith in let is : channel_at (bound net ds) lack.0 ≡ space_of at.place (channel_at net at.place) at.room = rw e at at.is in let source : (channel_at net at.place).source ≡ a = sym (ap (λ (c : Channel). c.target) is) ∙ lack.2 in
      let need : Needs (space_of at.place (channel_at net at.place) at.room) (v a) (v (channel_at net at.place).target) = subst (λ (c : Channel). Needs c (v a) (v c.source)) is lack.3 in let shows : ShowsSpace net ds v at.place = record { place = at.below; room = at.room; has = at.has; short = rw source short; fed = rw source fed; full = subst (λ (b : ℕ). Needs (space_of at.place (channel_at net at.place) at.room) (v b) (v (channel_at net at.place).target)) (sym source) need } in let there = bound-space net es at.place at.room at.below (same at.place shows ∙ at.has) in (there.0, there.1, ap (λ (c : Channel). c.target) there.2 ∙ source, subst (λ (c : Channel). Needs c (v a) (v c.source)) (sym there.2) need)) (cases_lt lack.0 (length net.channels))

  pub blocks-still : Blocks (bound net ds) v → Blocks (bound net es) v
  blocks-still blocks = record {
    within = blocks.within;
    short = blocks.short;
    closed = λ a actor short. ⊎_elim (λ (can : CanFire net v a). lacks-space a short can (blocks.closed a actor short)) (λ (lack : Lacks net v a (v a)). lacks-on a lack) (can_or_lacks net v a);
  }
