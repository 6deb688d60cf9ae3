-- Tight needs of firings of the second pass, by the loop's table.
use Rattle.std.proofs.Common.{◌≡◌, ℕ, ◌+◌, ◌-◌, ◌*◌, ◌≤◌, ◌<◌, List, length, ⊎_elim, subst, sym, refl, ap, ◌∙◌, arith, mul-le-mul_right}
use Rattle.std.proofs.lemmas.Bool.{cases_lt}
use Rattle.std.specs.Prelude.{slice_index}
use Rattle.firing.specs.declared.table.LoopTable.{LoopTable}
use Rattle.critical.specs.declared.cycle.FiringNo.{FiringNo}
use Rattle.critical.specs.declared.tight.ReadNeed.{ReadNeed}
use Rattle.sd_base.specs.Net.{Channel, Net, channel_at, total}
use Rattle.sd_base.specs.Schedules.{time_of, LastNeed, IsNeed, count_of, start_of, end_of}
use Rattle.sd_base.specs.Lawful.{Lawful}
use Rattle.sd_base.proofs.SumsRepeatByTurns.{total-le, one-last-need, one-total}
use Rattle.sd_base.proofs.LawfulIsRegular.{regular}
use Rattle.sd_base.proofs.EndsDecideCounts.{ended_at}
use Rattle.sd_base.proofs.LastNeedsSuffice.{need-is_last}
use Rattle.sd_base.proofs.StartsMeetEnds.{TightNeed, tight}
use Rattle.firing.specs.declared.sums.Port.TheVariants.{Taken}
use Rattle.firing.specs.Wiring.{IsListed}
use Rattle.firing.proofs.PlacesAreListed.{member-place}
use Rattle.std.specs.Int.{div_ceil}
use Rattle.std.proofs.lemmas.Grind.{div_ceil_times}
use Rattle.critical.specs.CriticalCycles.{pass_of}
use Rattle.critical.specs.inside.Trails.{IsShortLoop, IsSecond, EndsJust, IsReadFrom, IsTightNeed, IsSlackOn, IsSlackBefore, second_of, listed_at}
use Rattle.critical.proofs.PassesRepeat.{up_to, early, runs-past, runs-on, pass-on, agree-at, counts-at, starts-after, time-passes, listed-many, actors-same, Second, second-is, second-from}

-- the last needed firing is the one before the need
pub need-last : (c : Channel) (j n : ℕ) → (n ≡ 0 → ⊥) → IsNeed c j n → LastNeed c j (n - 1)
need-last c j n some need =
    let e : n - 1 + 1 ≡ n = omega arith in
    need-is_last c j (n - 1) (rw e need)

-- ---- where both ends of a channel have one phase

pub single-taken : (xs : List ℕ) (j rate : ℕ) → length xs ≡ 1 → rate ≡ slice_index xs 0 → (j + 1) * rate ≡ total xs (j + 1)
single-taken xs j rate one here = sym (one-total xs (j + 1) rate one here)

-- the tokens that are lacking, in firings of the source
pub single-need : (c : Channel) (j taken tokens rate need : ℕ) → taken ≡ total c.taken (j + 1) → tokens ≡ c.tokens → tokens < taken → length c.made ≡ 1 → rate ≡ slice_index c.made 0 → 0 < rate →
    need ≡ div_ceil (taken - tokens) rate → IsNeed c j need
single-need c j taken tokens rate need at_taken at_tokens short one here some is =
    let lack : ℕ = taken - tokens in
    let bounds = div_ceil_times lack rate some in
    let whole : total c.made need ≡ need * rate = one-total c.made need rate one here in
    let same : need * rate ≡ div_ceil lack rate * rate = ap (λ (x : ℕ). x * rate) is in
    record {
      enough = omega (arith, bounds.0);
      least = λ m below.
          let here_too : total c.made m ≡ m * rate = one-total c.made m rate one here in
          let le : (m + 1) * rate ≤ need * rate = mul-le-mul_right rate (omega arith) in
          omega (arith, bounds.1);
    }

module _ (net : Net) (laws : Lawful net) (table : LoopTable) (loop : IsShortLoop net table) (later : FiringNo) (second : IsSecond table later) where
  read : Second net laws loop.inputs table loop.loop later
  read = second-is net laws loop.inputs table loop.loop later second

  -- a needed firing has started by the end of the second pass
  need-there : (i m : ℕ) → i < length net.channels → (channel_at net i).target ≡ later.actor → LastNeed (channel_at net i) later.number m → m < count_of (up_to net table 2) (channel_at net i).source
  need-there i m place into last =
      let there : later.number < count_of (up_to net table 2) (channel_at net i).target = rw into read.below in
      ((early net laws loop.inputs table loop.loop (table.entry + 2 * table.period + 1)).admissible.fed i later.number m place there last.needed).0

  -- it is read where it has been moved on far enough, and no further
  pub read-from : (i m : ℕ) → i < length net.channels → (channel_at net i).target ≡ later.actor → LastNeed (channel_at net i) later.number m → (passes : ℕ) →
      second_of table (channel_at net i).source ≤ m + passes * count_of table.starts (channel_at net i).source →
      (m < second_of table (channel_at net i).source → m + passes * count_of table.starts (channel_at net i).source < second_of table (channel_at net i).source + count_of table.starts (channel_at net i).source) →
      (second_of table (channel_at net i).source ≤ m → passes ≡ 0) →
      IsReadFrom net table i m (record { channel = i; firing = record { actor = (channel_at net i).source; number = m + passes * count_of table.starts (channel_at net i).source }; passes = passes })
  read-from i m place into last passes reaches least none =
      let b : ℕ = (channel_at net i).source in
      let actor : b < length net.times = laws.sources i place in
      let there : m < count_of (up_to net table 2) b = need-there i m place into last in
      let many : count_of table.starts b ≡ pass_of net table.rounds b = listed-many net laws loop.inputs table loop.loop b actor in
      let past : m < second_of table b + count_of table.starts b = omega (arith, counts-at net laws loop.inputs table loop.loop 2 b, counts-at net laws loop.inputs table loop.loop 1 b, second-from net laws loop.inputs table loop.loop b actor) in
      record {
        channel = refl;
        source = refl;
        second = record {
          actor = omega (arith, actor, actors-same net laws loop.inputs table loop.loop);
          from = reaches;
          below = ⊎_elim (λ (early_one : m < second_of table b). least early_one)
              (λ (h : second_of table b ≤ m). let nothing : passes * count_of table.starts b ≡ 0 * count_of table.starts b = ap (λ (x : ℕ). x * count_of table.starts b) (none h) in omega arith)
              (cases_lt m (second_of table b));
        };
        read = refl;
      }

  pub read-small : (i m : ℕ) → i < length net.channels → (channel_at net i).target ≡ later.actor → LastNeed (channel_at net i) later.number m → (passes : ℕ) →
      second_of table (channel_at net i).source ≤ m + passes * count_of table.starts (channel_at net i).source →
      (m < second_of table (channel_at net i).source → m + passes * count_of table.starts (channel_at net i).source < second_of table (channel_at net i).source + count_of table.starts (channel_at net i).source) →
      (second_of table (channel_at net i).source ≤ m → passes ≡ 0) →
      m + passes * count_of table.starts (channel_at net i).source < 8000000
  read-small i m place into last passes reaches least none =
      let from = read-from i m place into last passes reaches least none in
      let few : second_of table (channel_at net i).source ≤ 4000000 = loop.short.few (channel_at net i).source from.second.actor in
      let below : m + passes * count_of table.starts (channel_at net i).source < second_of table (channel_at net i).source + count_of table.starts (channel_at net i).source = from.second.below in
      omega arith

  -- where the needed firing ends just when the later one starts, this is also so as they are read
  pub just-read : (i m : ℕ) (need : ReadNeed) → i < length net.channels → (channel_at net i).target ≡ later.actor → LastNeed (channel_at net i) later.number m → IsReadFrom net table i m need →
      end_of net (up_to net table 2) (channel_at net i).source m ≡ start_of (up_to net table 2) later.actor later.number →
      listed_at table need.firing + time_of net need.firing.actor need.firing.number ≡ listed_at table later + need.passes * table.period
  just-read i m need place into last from just =
      let b : ℕ = need.firing.actor in
      let there : m < count_of (up_to net table 2) b = rw from.source at (need-there i m place into last) in
      let ends : end_of net (up_to net table 2) b m ≡ start_of (up_to net table 2) later.actor later.number =
      subst (λ (x : ℕ). end_of net (up_to net table 2) x m ≡ start_of (up_to net table 2) later.actor later.number) from.source just in
      let z = second-is net laws loop.inputs table loop.loop need.firing from.second in
      let late : table.entry + 1 * table.period < start_of (up_to net table 2) later.actor later.number = starts-after net laws loop.inputs table loop.loop 1 (table.entry + 2 * table.period + 1) later.actor later.number read.from read.below in
      let many : count_of table.starts b ≡ pass_of net table.rounds b = listed-many net laws loop.inputs table loop.loop b z.actor in
      let place_of : m + need.passes * pass_of net table.rounds b ≡ need.firing.number = ap (λ (x : ℕ). m + need.passes * x) (sym many) ∙ from.read in
      let on : start_of (up_to net table (need.passes + 2)) b (m + need.passes * pass_of net table.rounds b) ≡ start_of (up_to net table 2) b m + need.passes * table.period =
      pass-on net laws loop.inputs table loop.loop need.passes 2 b m there (omega arith) in
      let far : need.firing.number < count_of (up_to net table (need.passes + 2)) b = omega (arith, z.below, counts-at net laws loop.inputs table loop.loop (need.passes + 2) b, counts-at net laws loop.inputs table loop.loop 2 b) in
      let same : start_of (up_to net table (need.passes + 2)) b need.firing.number ≡ start_of (up_to net table 2) b need.firing.number = agree-at net laws loop.inputs table loop.loop (need.passes + 2) 2 b need.firing.number far z.below in
      let here : start_of (up_to net table (need.passes + 2)) b need.firing.number ≡ start_of (up_to net table 2) b m + need.passes * table.period = rw place_of at on in
      let time : time_of net b need.firing.number ≡ time_of net b m = rw place_of at (time-passes net laws loop.inputs table loop.loop need.passes b m z.actor) in
      omega (arith, z.start, read.start)

  -- and back
  pub read-just : (i m : ℕ) (need : ReadNeed) → i < length net.channels → (channel_at net i).target ≡ later.actor → LastNeed (channel_at net i) later.number m → IsReadFrom net table i m need →
      listed_at table need.firing + time_of net need.firing.actor need.firing.number ≡ listed_at table later + need.passes * table.period → EndsJust net table later i m
  read-just i m need place into last from just =
      let b : ℕ = need.firing.actor in
      let there : m < count_of (up_to net table 2) b = rw from.source at (need-there i m place into last) in
      let z = second-is net laws loop.inputs table loop.loop need.firing from.second in
      let late : table.entry + 1 * table.period < start_of (up_to net table 2) later.actor later.number = starts-after net laws loop.inputs table loop.loop 1 (table.entry + 2 * table.period + 1) later.actor later.number read.from read.below in
      let many : count_of table.starts b ≡ pass_of net table.rounds b = listed-many net laws loop.inputs table loop.loop b z.actor in
      let place_of : m + need.passes * pass_of net table.rounds b ≡ need.firing.number = ap (λ (x : ℕ). m + need.passes * x) (sym many) ∙ from.read in
      let past : ended_at net table.entry b + need.passes * pass_of net table.rounds b ≤ need.firing.number = runs-past net laws loop.inputs table loop.loop need.passes 2 b need.firing.number z.below (omega (arith, z.start, read.start)) in
      let runs : table.entry < end_of net (up_to net table 2) b m = runs-on net laws loop.inputs table loop.loop 2 b m there (omega arith) in
      let on : start_of (up_to net table (need.passes + 2)) b (m + need.passes * pass_of net table.rounds b) ≡ start_of (up_to net table 2) b m + need.passes * table.period = pass-on net laws loop.inputs table loop.loop need.passes 2 b m there runs in
      let far : need.firing.number < count_of (up_to net table (need.passes + 2)) b = omega (arith, z.below, counts-at net laws loop.inputs table loop.loop (need.passes + 2) b, counts-at net laws loop.inputs table loop.loop 2 b) in
      let same : start_of (up_to net table (need.passes + 2)) b need.firing.number ≡ start_of (up_to net table 2) b need.firing.number = agree-at net laws loop.inputs table loop.loop (need.passes + 2) 2 b need.firing.number far z.below in
      let here : start_of (up_to net table (need.passes + 2)) b need.firing.number ≡ start_of (up_to net table 2) b m + need.passes * table.period = rw place_of at on in
      let time : time_of net b need.firing.number ≡ time_of net b m = rw place_of at (time-passes net laws loop.inputs table loop.loop need.passes b m z.actor) in
      let ends : end_of net (up_to net table 2) b m ≡ start_of (up_to net table 2) later.actor later.number = omega (arith, z.start, read.start) in
      subst (λ (x : ℕ). end_of net (up_to net table 2) x m ≡ start_of (up_to net table 2) later.actor later.number) (sym from.source) ends

  -- a channel on which nothing is needed is slack
  pub slack-none : (i : ℕ) → IsNeed (channel_at net i) later.number 0 → IsSlackOn net table later i
  slack-none i need = λ m last just. absurd (
      let more : total (channel_at net i).made 0 ≤ total (channel_at net i).made m = total-le (channel_at net i).made (omega arith) in
      omega (arith, need.enough, last.needed))

  -- so is one whose last need doesn't end just then as it is read
  pub slack-read : (i m : ℕ) (need : ReadNeed) → i < length net.channels → (channel_at net i).target ≡ later.actor → LastNeed (channel_at net i) later.number m → IsReadFrom net table i m need →
      ¬ (listed_at table need.firing + time_of net need.firing.actor need.firing.number ≡ listed_at table later + need.passes * table.period) → IsSlackOn net table later i
  slack-read i m need place into last from differs = λ n other just.
      let same : n ≡ m = omega (arith, one-last-need (channel_at net i) later.number m n last other, one-last-need (channel_at net i) later.number n m other last) in
      differs (just-read i m need place into last from (subst (λ (x : ℕ). end_of net (up_to net table 2) (channel_at net i).source x ≡ start_of (up_to net table 2) later.actor later.number) same just))

  -- not all channels into the actor are slack
  not-slack : ¬ ((i : ℕ) → i < length net.channels → (channel_at net i).target ≡ later.actor → IsSlackOn net table later i)
  not-slack all =
      let late : table.entry + 1 * table.period < start_of (up_to net table 2) later.actor later.number = starts-after net laws loop.inputs table loop.loop 1 (table.entry + 2 * table.period + 1) later.actor later.number read.from read.below in
      let found = tight net (regular net laws) loop.inputs (table.entry + 2 * table.period + 1) later.actor later.number read.below (omega arith) in
      let need : TightNeed net (up_to net table 2) later.actor later.number found.0 found.1 = found.2 in
      all found.0 need.place need.into found.1 need.last need.just

  pub not-all-slack : (inputs : List ℕ) → IsListed net Taken later.actor inputs → ¬ ((j : ℕ) → j < length inputs → IsSlackOn net table later (slice_index inputs j))
  not-all-slack inputs listed all = not-slack (λ i place into.
      let found = member-place inputs i (listed.all i place into) in
      subst (IsSlackOn net table later) found.2 (all found.0 found.1))

  -- one that does is a tight need
  pub tight-read : (i m : ℕ) (need : ReadNeed) → i < length net.channels → (channel_at net i).target ≡ later.actor → LastNeed (channel_at net i) later.number m → IsReadFrom net table i m need →
      listed_at table need.firing + time_of net need.firing.actor need.firing.number ≡ listed_at table later + need.passes * table.period → IsTightNeed net table later need
  tight-read i m need place into last from just = record {
    place = subst (λ (x : ℕ). x < length net.channels) (sym from.channel) place;
    target = subst (λ (x : ℕ). (channel_at net x).target ≡ later.actor) (sym from.channel) into;
    number = m;
    read = subst (λ (x : ℕ). IsReadFrom net table x m need) (sym from.channel) from;
    last = subst (λ (x : ℕ). LastNeed (channel_at net x) later.number m) (sym from.channel) last;
    ends = subst (λ (x : ℕ). EndsJust net table later x m) (sym from.channel) (read-just i m need place into last from just);
    just = just;
  }

  -- what stands before the first tight channel in their list is slack
  pub slack-before : (inputs : List ℕ) (n : ℕ) → IsListed net Taken later.actor inputs → n < length inputs → ((j : ℕ) → j < n → IsSlackOn net table later (slice_index inputs j)) →
      IsSlackBefore net table later (slice_index inputs n)
  slack-before inputs n listed place all i less into =
      let found = member-place inputs i (listed.all i (omega (arith, less, listed.place n place)) into) in
      let is : slice_index inputs found.0 ≡ i = found.2 in
      let soon : found.0 < n = ⊎_elim (λ (h : found.0 < n). h)
      (λ (late : n ≤ found.0). absurd (⊎_elim
      (λ (past : n < found.0). let more : slice_index inputs n < slice_index inputs found.0 = listed.rising n found.0 past found.1 in omega arith)
      (λ (le : found.0 ≤ n). let same : slice_index inputs found.0 ≡ slice_index inputs n = ap (slice_index inputs) (omega arith) in omega arith)
      (cases_lt n found.0)))
      (cases_lt found.0 n) in
      subst (IsSlackOn net table later) is (all found.0 soon)
