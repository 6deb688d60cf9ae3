-- A lawful net is timed, wired, balanced and one by one, in the forms that the lemmas take.
use Rattle.std.proofs.Common.{◌≡◌, ℕ, zero, suc, ◌+◌, ◌%◌, ◌≤◌, ◌<◌, ◌⊎◌, true, List, [], ◌∷◌, length, map, sum, inl, inr, ◌∙◌, arith, mod-lt, eqb-true}
use Rattle.std.specs.Prelude.{slice_index, slice_index_or, ◌==◌}
use Rattle.std.specs.List.{list_all}
use Rattle.std.proofs.lemmas.Bool.{and_parts, cases_lt}
use Rattle.std.proofs.lemmas.List.{get_or-map}
use Rattle.sd_base.specs.Net.{Channel, Net, nowhere, channel_at, total}
use Rattle.sd_base.specs.Schedules.{time_of, phases_at, LastNeed}
use Rattle.sd_base.specs.Lawful.{is_own, Lawful}
use Rattle.sd_base.proofs.SumsRepeatByTurns.{total-zero, total-suc}
use Rattle.sd_base.proofs.ElementsKeepPlaces.{any-place}

-- each firing takes at least one time unit
pub record Timed (net : Net) : Type 0 where
  pub some : (a k : ℕ) → a < length net.times → 1 ≤ time_of net a k

-- an own channel of a: on it each firing needs the one before
pub record IsOwn (net : Net) (a i : ℕ) : Type 0 where
  pub place : i < length net.channels
  pub source : (channel_at net i).source ≡ a
  pub target : (channel_at net i).target ≡ a
  pub last : (k : ℕ) → LastNeed (channel_at net i) (k + 1) k

-- an actor has one time, or an own channel
pub record OneByOne (net : Net) : Type 0 where
  pub own : (a : ℕ) → a < length net.times → (phases_at net a ≤ 1) ⊎ ((i : ℕ) × IsOwn net a i)

-- sources and targets are actors, and the lists of a channel have a number for each phase, not all 0
pub record Wired (net : Net) : Type 0 where
  pub sources : (i : ℕ) → i < length net.channels → (channel_at net i).source < length net.times
  pub targets : (i : ℕ) → i < length net.channels → (channel_at net i).target < length net.times
  pub made_phases : (i : ℕ) → i < length net.channels → length (channel_at net i).made ≡ phases_at net (channel_at net i).source
  pub taken_phases : (i : ℕ) → i < length net.channels → length (channel_at net i).taken ≡ phases_at net (channel_at net i).target
  pub some_made : (i : ℕ) → i < length net.channels → 1 ≤ sum (channel_at net i).made
  pub some_taken : (i : ℕ) → i < length net.channels → 1 ≤ sum (channel_at net i).taken

-- the round keeps the tokens of each channel, and is whole turns of at least one firing
pub record Balanced (net : Net) : Type 0 where
  pub actors : length net.round ≡ length net.times
  pub fires : (a : ℕ) → a < length net.times → 1 ≤ slice_index net.round a
  pub cycles : (a : ℕ) → a < length net.times → slice_index net.round a % phases_at net a ≡ 0
  pub kept : (i : ℕ) → i < length net.channels →
      total (channel_at net i).made (slice_index net.round (channel_at net i).source)
      ≡ total (channel_at net i).taken (slice_index net.round (channel_at net i).target)

pub timed : (net : Net) → Lawful net → Timed net
timed net laws = record { some = λ a k below. laws.some_time a (k % phases_at net a) below (mod-lt k (laws.some_phase a below)) }

pub wired : (net : Net) → Lawful net → Wired net
wired net laws = record { sources = laws.sources; targets = laws.targets; made_phases = laws.made_phases; taken_phases = laws.taken_phases; some_made = laws.some_made; some_taken = laws.some_taken }

pub phases-read : (net : Net) (a : ℕ) → a < length net.times → slice_index (map length net.times) a ≡ phases_at net a
phases-read net a below = get_or-map length net.times a [] 0 below

pub balanced : (net : Net) → Lawful net → Balanced net
balanced net laws =
    let many : length (map length net.times) ≡ length net.times = Rattle.std.proofs.lemmas.List.length-map net.times length in
    record {
      actors = laws.repetition.balances.actors ∙ many;
      fires = λ a below. laws.repetition.balances.fires a (omega arith);
      cycles = λ a below.
          let cycle : slice_index net.round a % slice_index (map length net.times) a ≡ 0 = laws.repetition.balances.cycles a (omega arith) in
          rw (phases-read net a below) at cycle;
      kept = λ i below. laws.repetition.balances.kept i below;
    }

-- a list of ones sums to its length
all_one-entry : (xs : List ℕ) (k : ℕ) → list_all (λ r. r == 1) xs ≡ true → k < length xs → slice_index xs k ≡ 1
all_one-entry [] k all below = absurd (omega arith)
all_one-entry (x ∷ xs) zero all below = eqb-true x 1 (and_parts _ _ all).0
all_one-entry (x ∷ xs) (suc k) all below = all_one-entry xs k (and_parts _ _ all).1 (omega arith)

pub all_one-total : (xs : List ℕ) (n : ℕ) → list_all (λ r. r == 1) xs ≡ true → 1 ≤ length xs → total xs n ≡ n
all_one-total xs zero all some = total-zero xs
all_one-total xs (suc n) all some =
    rw total-suc (omega (arith, all_one-total xs n all some, all_one-entry xs (n % length xs) all (mod-lt n some)))

own-last : (c : Channel) (k : ℕ) → c.tokens ≡ 1 → total c.made k ≡ k → total c.made (k + 1) ≡ k + 1 → total c.taken (k + 1 + 1) ≡ k + 1 + 1 → LastNeed c (k + 1) k
own-last c k one made more taken = record { needed = omega arith; enough = omega arith }

-- an own channel makes each firing need the one before
pub own-tells : (net : Net) (laws : Lawful net) (a i : ℕ) → i < length net.channels → is_own a (channel_at net i) ≡ true → IsOwn net a i
own-tells net laws a i place holds =
    let c : Channel = channel_at net i in
    let role = and_parts _ _ holds in
    let source = and_parts _ _ role.1 in
    let target = and_parts _ _ source.1 in
    let tokens = and_parts _ _ target.1 in
    let rates = and_parts _ _ tokens.1 in
    let some_made : 1 ≤ length c.made = rw (laws.made_phases i place) (laws.some_phase c.source (laws.sources i place)) in
    let some_taken : 1 ≤ length c.taken = rw (laws.taken_phases i place) (laws.some_phase c.target (laws.targets i place)) in
    let one_token : c.tokens ≡ 1 = eqb-true c.tokens 1 tokens.0 in
    record {
      place = place;
      source = eqb-true c.source a source.0;
      target = eqb-true c.target a target.0;
      last = λ k. own-last c k one_token (all_one-total c.made k rates.0 some_made) (all_one-total c.made (k + 1) rates.0 some_made) (all_one-total c.taken (k + 1 + 1) rates.1 some_taken);
    }

pub one_by_one : (net : Net) → Lawful net → OneByOne net
one_by_one net laws = record { own = λ a below. each a below (cases_lt (phases_at net a) 2) }
  where
    each : (a : ℕ) → a < length net.times → (phases_at net a < 2) ⊎ (2 ≤ phases_at net a) → (phases_at net a ≤ 1) ⊎ ((i : ℕ) × IsOwn net a i)
    each a below (inl few) = inl (omega arith)
    each a below (inr many) =
        let found : (i : ℕ) × (i < length net.channels) × (is_own a (slice_index_or net.channels i nowhere) ≡ true) =
        any-place (is_own a) nowhere net.channels (laws.one_by_one a below many) in
        inr (found.0, own-tells net laws a found.0 found.1 found.2)

-- what self-timed execution rests on
pub record Regular (net : Net) : Type 0 where
  pub timed : Timed net
  pub own : OneByOne net
  pub wired : Wired net

pub regular : (net : Net) → Lawful net → Regular net
regular net laws = record { timed = timed net laws; own = one_by_one net laws; wired = wired net laws }
