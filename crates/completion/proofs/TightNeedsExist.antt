-- A firing that starts after moment 0 has a first tight need.
use Rattle.std.proofs.Common.{◌≡◌, ℕ, ◌+◌, ◌-◌, ◌*◌, ◌≤◌, ◌<◌, List, length, ⊎_elim, subst, sym, refl, ap, ◌∙◌, arith, mul-le-mul}
use Rattle.sd_base.specs.declared.limits.TheConstants.{ROUNDS}
use Rattle.std.specs.Prelude.{slice_index}
use Rattle.std.proofs.lemmas.Bool.{cases_lt}
use Rattle.firing.specs.declared.sums.Port.TheVariants.{Taken}
use Rattle.firing.specs.Wiring.{IsListed}
use Rattle.firing.proofs.PlacesAreListed.{member-place}
use Rattle.completion.specs.declared.timetable.Start.{Start}
use Rattle.completion.specs.declared.timetable.Timetable.{Timetable}
use Rattle.sd_base.specs.Net.{Net, channel_at, total}
use Rattle.sd_base.specs.Schedules.{IsNeed, LastNeed, start_of, time_of}
use Rattle.sd_base.specs.SelfTimed.{earliest}
use Rattle.sd_base.specs.Lawful.{Lawful}
use Rattle.sd_base.proofs.SumsRepeatByTurns.{total-le, one-last-need}
use Rattle.sd_base.proofs.LawfulIsRegular.{regular}
use Rattle.sd_base.proofs.StartsMeetEnds.{TightNeed, tight}
use Rattle.sd_base.proofs.LastNeedsSuffice.{need-is_last}
use Rattle.sd_base.proofs.ElementsKeepPlaces.{entry-le-sum}
use Rattle.completion.specs.Ways.{IsFirstTight, StartsAt, InRounds}
use Rattle.completion.specs.inside.Timetables.{IsStart, IsTimetable, end_at, firing_of, moment_of}
use Rattle.completion.specs.inside.Walks.{IsFirstNeed, IsSlackOn, IsTightNeed, IsTightNeedOn}
use Rattle.completion.proofs.FiringsStartOnce.{one-start}
use Rattle.completion.proofs.NeedsStayInRounds.{need-within}
use Rattle.completion.proofs.TimetablesTellStarts.{moment-starts}

pub few-firings : (net : Net) → Lawful net → (n a : ℕ) → n ≤ ROUNDS → n * slice_index net.round a ≤ 100000000000
few-firings net laws n a few =
    let small : slice_index net.round a ≤ 100000 = omega (arith, entry-le-sum net.round a, laws.small_round) in
    let all : n * slice_index net.round a ≤ 1000000 * 100000 = mul-le-mul few small in
    omega arith

pub starts : (net : Net) (times : Timetable) (is : IsTimetable net times) (x : Start) → IsStart net times x → StartsAt net x.actor x.number x.moment
starts net times is x start = subst (λ (m : ℕ). StartsAt net x.actor x.number m) (sym start.moment) (moment-starts net times is x.actor x.number start.actor)

-- a first tight need is one in self-timed execution
pub first-tight : (net : Net) (times : Timetable) (is : IsTimetable net times) (later earlier : Start) → IsStart net times later → IsStart net times earlier → (f : IsFirstNeed net times later earlier) → IsFirstTight net f.need.channel (firing_of later) (firing_of earlier)
first-tight net times is later earlier start start_earlier f = record {
  tight = record {
    place = f.need.place;
    source = f.need.source;
    target = f.need.target;
    last = f.need.last;
    moment = later.moment;
    starts = starts net times is later start;
    ends = record { start = earlier.moment; starts = starts net times is earlier start_earlier; takes = f.need.just };
  };
  first = λ j other below t.
      let at : t.moment ≡ later.moment = one-start net is.laws is.inputs later.actor later.number t.moment later.moment t.starts (starts net times is later start) in
      let actor : other.actor < length net.times = subst (λ (b : ℕ). b < length net.times) t.source (is.laws.sources j t.place) in
      let from : t.ends.start ≡ moment_of times other.actor other.number = one-start net is.laws is.inputs other.actor other.number t.ends.start (moment_of times other.actor other.number) t.ends.starts (moment-starts net times is other.actor other.number actor) in
      let here : moment_of times other.actor other.number + time_of net other.actor other.number ≡ later.moment = omega (arith, t.ends.takes, at, from) in
      f.first j below t.target other.number t.last (subst (λ (b : ℕ). moment_of times b other.number + time_of net b other.number ≡ later.moment) (sym t.source) here);
}

-- a need on a listed channel that is tight is the first one, where all listed before it are slack
pub need-first : (net : Net) (times : Timetable) (later earlier : Start) (inputs : List ℕ) → IsListed net Taken later.actor inputs → (p : ℕ) → p < length inputs → ((j : ℕ) → j < p → IsSlackOn net times later (slice_index inputs j)) →
    (need : IsTightNeed net later earlier) → need.channel ≡ slice_index inputs p → IsFirstNeed net times later earlier
need-first net times later earlier inputs listed p place slack need is = record {
  need = need;
  first = λ i below into.
      let there = member-place inputs i (listed.all i (omega (arith, below, need.place)) into) in
      let sooner : there.0 < p = ⊎_elim (λ (h : there.0 < p). h) (λ (h : p ≤ there.0). absurd (⊎_elim
      (λ (more : p < there.0). let rise : slice_index inputs p < slice_index inputs there.0 = listed.rising p there.0 more there.1 in omega (arith, rise, there.2, below, is))
      (λ (le : there.0 ≤ p). let same : there.0 ≡ p = omega arith in let e = ap (slice_index inputs) same in omega (arith, e, there.2, below, is))
      (cases_lt p there.0))) (cases_lt there.0 p) in
      subst (IsSlackOn net times later) there.2 (slack there.0 sooner);
}

module _ (net : Net) (times : Timetable) (is : IsTimetable net times) (later : Start) where
  -- a channel on which nothing is needed is slack
  pub slack-none : (i : ℕ) → IsNeed (channel_at net i) later.number 0 → IsSlackOn net times later i
  slack-none i need = λ m last just. absurd (
      let more : total (channel_at net i).made 0 ≤ total (channel_at net i).made m = total-le (channel_at net i).made (omega arith) in
      omega (arith, need.enough, last.needed))

  module _ (within : (n : ℕ) × (n ≤ ROUNDS) × InRounds net n later.actor later.number) (i firings : ℕ) (place : i < length net.channels) (into : (channel_at net i).target ≡ later.actor)
      (need : IsNeed (channel_at net i) later.number firings) (some : firings ≡ 0 → ⊥) where
    is-last : LastNeed (channel_at net i) later.number (firings - 1)
    is-last =
        let positive : 0 < firings = ⊎_elim (λ (h : 0 < firings). h) (λ (none : firings ≤ 0). absurd (some (omega arith))) (cases_lt 0 firings) in
        let one_before : firings ≡ firings - 1 + 1 = omega arith in
        need-is_last (channel_at net i) later.number (firings - 1) (subst (IsNeed (channel_at net i) later.number) one_before need)

    pub needed-within : InRounds net within.0 (channel_at net i).source (firings - 1)
    needed-within = need-within net is.laws within.0 i later.number (firings - 1) place is-last (subst (λ (b : ℕ). InRounds net within.0 b later.number) (sym into) within.2)

    pub needed-few : firings - 1 ≤ 1099511627776
    needed-few = omega (arith, needed-within.1, few-firings net is.laws within.0 (channel_at net i).source within.1)

    pub needed-tight : (needed : Start) (source : ℕ) → source ≡ (channel_at net i).source → needed.actor ≡ source → needed.number ≡ firings - 1 → needed.moment ≡ moment_of times source (firings - 1) →
        end_at net needed ≡ later.moment → IsStart net times needed × IsTightNeedOn net later i needed
    needed-tight needed source from actor number moment just =
        let at : (channel_at net i).source ≡ needed.actor = sym (actor ∙ from) in (
          record {
            actor = subst (λ (b : ℕ). b < length net.times) at (is.laws.sources i place);
            moment = moment ∙ (ap (λ (b : ℕ). moment_of times b (firings - 1)) (sym actor) ∙ ap (moment_of times needed.actor) (sym number));
          },
          (
            record {
              channel = i;
              place = place;
              source = at;
              target = into;
              last = subst (LastNeed (channel_at net i) later.number) (sym number) is-last;
              just = just;
            },
            refl,
          ),
        )

    pub needed-slack : (needed : Start) (source : ℕ) → source ≡ (channel_at net i).source → needed.actor ≡ source → needed.number ≡ firings - 1 → needed.moment ≡ moment_of times source (firings - 1) →
        (end_at net needed ≡ later.moment → ⊥) → IsSlackOn net times later i
    needed-slack needed source from actor number moment differs = λ m last just.
        let same : m ≡ firings - 1 = omega (arith, one-last-need (channel_at net i) later.number m (firings - 1) last is-last, one-last-need (channel_at net i) later.number (firings - 1) m is-last last) in
        let at : needed.actor ≡ (channel_at net i).source = actor ∙ from in
        let starts_then : needed.moment ≡ moment_of times (channel_at net i).source m = moment ∙ (ap (λ (b : ℕ). moment_of times b (firings - 1)) from ∙ ap (moment_of times (channel_at net i).source) (sym same)) in
        let takes : time_of net needed.actor needed.number ≡ time_of net (channel_at net i).source m = ap (λ (b : ℕ). time_of net b needed.number) at ∙ ap (time_of net (channel_at net i).source) (number ∙ sym same) in
        differs (omega arith)

  -- a firing after moment 0 has a tight need on one of the channels into its actor
  pub not-all-slack : IsStart net times later → (later.moment ≡ 0 → ⊥) → (inputs : List ℕ) → IsListed net Taken later.actor inputs → ((j : ℕ) → j < length inputs → IsSlackOn net times later (slice_index inputs j)) → ⊥
  not-all-slack start some inputs listed all =
      let at : StartsAt net later.actor later.number later.moment = starts net times is later start in
      let positive : 0 < later.moment = ⊎_elim (λ (h : 0 < later.moment). h) (λ (none : later.moment ≤ 0). absurd (some (omega arith))) (cases_lt 0 later.moment) in
      let found = tight net (regular net is.laws) is.inputs at.by later.actor later.number at.there (omega (arith, at.at)) in
      let i : ℕ = found.0 in
      let m : ℕ = found.1 in
      let need : TightNeed net (earliest net at.by) later.actor later.number found.0 found.1 = found.2 in
      let there = member-place inputs i (listed.all i need.place need.into) in
      let slack : IsSlackOn net times later i = subst (IsSlackOn net times later) there.2 (all there.0 there.1) in
      let starts_then : start_of (earliest net at.by) (channel_at net i).source m ≡ moment_of times (channel_at net i).source m =
      one-start net is.laws is.inputs (channel_at net i).source m (start_of (earliest net at.by) (channel_at net i).source m) (moment_of times (channel_at net i).source m)
      (record { by = at.by; there = need.there; at = refl }) (moment-starts net times is (channel_at net i).source m (is.laws.sources i need.place)) in
      slack m need.last (omega (arith, need.just, at.at))
