-- Where counts block a net, the first lacking channels of actors below their rounds, from one round to it again, are a circular wait.
use Rattle.std.proofs.Common.{◌≡◌, ℕ, zero, suc, ◌+◌, ◌-◌, ◌≤◌, ◌<◌, Option, None, Some, List, length, All, subst, sym, refl, ap, ◌∙◌, arith}
use Rattle.std.specs.Prelude.{slice_index, slice_index_or, MatchOption}
use Rattle.std.proofs.lemmas.List.Elements.{All-from_get_or}
use Rattle.sd_base.specs.Net.{Net, channel_at}
use Rattle.sd_base.specs.Lawful.{Lawful}
use Rattle.sd_base.specs.Untimed.{Blocks, IsFirstLacking, NamesLacks}
use Rattle.sd_base.proofs.LawfulIsRegular.{wired, balanced}
use Rattle.sd_base.proofs.ClosedCountsBoundRuns.{source-short}
use Rattle.circular_waits.specs.CircularWaits.{waiting_at, awaited_at, IsCircularWait, WaitOnce}
use Rattle.circular_waits.specs.inside.Following.{IsShort, source_of, awaited, after, AreNamedFrom, ComesBack, IsRoundFrom}
use Rattle.circular_waits.proofs.FollowingComesBack.{after-add, comes-back}

module _ (net : Net) (laws : Lawful net) (v : ℕ → ℕ) (blocks : Blocks net v) (lacks : List (Option ℕ)) (names : NamesLacks net v lacks) where
  named-lack : (a : ℕ) → IsShort net v a → (i : ℕ) × (slice_index_or lacks a None ≡ Some i) × IsFirstLacking net v a i
  named-lack a short = pick (slice_index_or lacks a None) refl (names.named a short.0)
    where
      pick : (o : Option ℕ) → slice_index_or lacks a None ≡ o →
          MatchOption o (slice_index net.round a ≤ v a) (λ i. (v a < slice_index net.round a) × IsFirstLacking net v a i) →
          (i : ℕ) × (slice_index_or lacks a None ≡ Some i) × IsFirstLacking net v a i
      pick None e whole = absurd (let less : v a < slice_index net.round a = short.1 in let more : slice_index net.round a ≤ v a = whole in omega arith)
      pick (Some i) e here = (i, e, here.1)

  short-on : (a : ℕ) → IsShort net v a → IsShort net v (awaited net lacks a)
  short-on a short =
      let found = named-lack a short in
      let first = found.2 in
      subst (λ (o : Option ℕ). IsShort net v (source_of net a o)) (sym found.1) (
        laws.sources found.0 first.place,
        source-short net v (wired net laws) (balanced net laws) blocks found.0 first.place a first.into short.1 first.lacks,
      )

  pub short-after : (n a : ℕ) → IsShort net v a → IsShort net v (after net lacks n a)
  short-after zero a short = short
  short-after (suc n) a short = short-on (after net lacks n a) (short-after n a short)

  pub named-from : (a : ℕ) → IsShort net v a → AreNamedFrom net lacks a
  named-from a short = λ n. let found = named-lack (after net lacks n a) (short-after n a short) in (found.0, found.2.place, found.1)

  pub back-from : (a : ℕ) → IsShort net v a → ComesBack net lacks (after net lacks (length net.times) a)
  back-from a short = comes-back net lacks a (λ j. (short-after j a short).0)

  module _ (start : ℕ) (short : IsShort net v start) (channels : List ℕ) (round : IsRoundFrom net lacks start channels) where
    at_first : (j : ℕ) → j < length channels → IsFirstLacking net v (after net lacks j start) (slice_index channels j)
    at_first j below =
        let found = named-lack (after net lacks j start) (short-after j start short) in
        let both : Some found.0 ≡ Some (slice_index channels j) = sym found.1 ∙ round.followed.named j below in
        let same : found.0 ≡ slice_index channels j = cc in
        subst (IsFirstLacking net v (after net lacks j start)) same found.2

    leads : (j : ℕ) → j < length channels → waiting_at net channels j ≡ after net lacks j start
    leads j below = (at_first j below).into

    comes : (j : ℕ) → j < length channels → awaited_at net channels j ≡ after net lacks (suc j) start
    comes j below = sym (ap (source_of net (after net lacks j start)) (round.followed.named j below))

    pub round-first : (j : ℕ) → j < length channels → IsFirstLacking net v (waiting_at net channels j) (slice_index channels j)
    round-first j below = subst (λ (a : ℕ). IsFirstLacking net v a (slice_index channels j)) (sym (leads j below)) (at_first j below)

    pub round-firsts : All (λ (i : ℕ). IsFirstLacking net v (channel_at net i).target i) channels
    round-firsts = All-from_get_or (λ (i : ℕ). IsFirstLacking net v (channel_at net i).target i) channels 0 round-first

    pub round-waits : IsCircularWait net v channels
    round-waits = record {
      some = round.some;
      waits = λ j below.
          let first = round-first j below in
          let here : IsShort net v (waiting_at net channels j) = subst (IsShort net v) (sym (leads j below)) (short-after j start short) in
          record { actor = here.0; short = here.1; place = first.place; into = first.into; lacks = first.lacks };
      next = λ j below.
          let e : suc j ≡ j + 1 = omega arith in
          comes j (omega arith) ∙ (ap (λ (m : ℕ). after net lacks m start) e ∙ sym (leads (j + 1) below));
      closes =
          let some : 0 < length channels = round.some in
          let e : suc (length channels - 1) ≡ length channels = omega arith in
          comes (length channels - 1) (omega arith) ∙ (ap (λ (m : ℕ). after net lacks m start) e ∙ (sym round.followed.reached ∙ sym (leads 0 some)));
    }

    pub round-once : WaitOnce net channels
    round-once j k less below same =
        let n : ℕ = length channels in
        let meet : after net lacks j start ≡ after net lacks k start = sym (leads j (omega arith)) ∙ (same ∙ leads k below) in
        let e : (n - k) + k ≡ n = omega arith in
        let back : after net lacks ((n - k) + j) start ≡ start =
        after-add net lacks (n - k) j start ∙ (ap (after net lacks (n - k)) meet ∙ (sym (after-add net lacks (n - k) k start)
        ∙ (ap (λ (m : ℕ). after net lacks m start) e ∙ sym round.followed.reached))) in
        round.followed.apart ((n - k) + j) (omega arith) (omega arith) back
