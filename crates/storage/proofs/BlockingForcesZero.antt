-- A net that some counts block has no rate but 0.
use Rattle.std.proofs.Common.{◌≡◌, ℕ, ◌+◌, ◌*◌, ◌≤◌, ◌<◌, Option, List, [], length, sum, ⊎_elim, sym, arith, mul-le-mul_left, mul-le-mul_right}
use Rattle.std.specs.Prelude.{slice_index, slice_index_or}
use Rattle.std.proofs.lemmas.Bool.{cases_lt}
use Rattle.sd_base.specs.Net.{Channel, Net, channel_at, total}
use Rattle.sd_base.specs.Schedules.{count_of}
use Rattle.sd_base.specs.Lawful.{Lawful}
use Rattle.sd_base.specs.Rates.{Rate}
use Rattle.sd_base.specs.Untimed.{Blocks}
use Rattle.sd_base.proofs.LawfulIsRegular.{Timed, Wired, Balanced, timed, balanced}
use Rattle.sd_base.proofs.ClosedCountsBoundRuns.{blocked-bounds}
use Rattle.storage.specs.BoundedNets.{space_of, bound}
use Rattle.storage.proofs.SpaceChannels.{each-bound}

module _ (net : Net) (laws : Lawful net) (ds : List (Option ℕ)) where
  each : (P : Channel → Type 0) → ((i : ℕ) → i < length net.channels → P (channel_at net i)) → ((i k : ℕ) → i < length net.channels → P (space_of i (channel_at net i) k)) → (i : ℕ) → i < length (bound net ds).channels → P (channel_at (bound net ds) i)
  each P front back = each-bound net ds P front (λ i k below has. back i k below)

  pub bound-timed : Timed (bound net ds)
  bound-timed = record { some = (timed net laws).some }

  pub bound-wired : Wired (bound net ds)
  bound-wired = record {
    sources = each (λ (c : Channel). c.source < length net.times) laws.sources (λ i k below. laws.targets i below);
    targets = each (λ (c : Channel). c.target < length net.times) laws.targets (λ i k below. laws.sources i below);
    made_phases = each (λ (c : Channel). length c.made ≡ length (slice_index_or net.times c.source [])) laws.made_phases (λ i k below. laws.taken_phases i below);
    taken_phases = each (λ (c : Channel). length c.taken ≡ length (slice_index_or net.times c.target [])) laws.taken_phases (λ i k below. laws.made_phases i below);
    some_made = each (λ (c : Channel). 1 ≤ sum c.made) laws.some_made (λ i k below. laws.some_taken i below);
    some_taken = each (λ (c : Channel). 1 ≤ sum c.taken) laws.some_taken (λ i k below. laws.some_made i below);
  }

  pub bound-balanced : Balanced (bound net ds)
  bound-balanced = record {
    actors = (balanced net laws).actors;
    fires = (balanced net laws).fires;
    cycles = (balanced net laws).cycles;
    kept = each (λ (c : Channel). total c.made (slice_index net.round c.source) ≡ total c.taken (slice_index net.round c.target)) (balanced net laws).kept (λ i k below. sym ((balanced net laws).kept i below));
  }

level : (x b : ℕ) → ((t : ℕ) → x * t ≤ b) → x ≤ 0
level x b below = ⊎_elim (λ (more : 0 < x). absurd (let far : x * (b + 1) ≤ b = below (b + 1) in let steep : 1 * (b + 1) ≤ x * (b + 1) = mul-le-mul_right (b + 1) (omega arith) in omega arith)) (λ (h : x ≤ 0). h) (cases_lt 0 x)

pub blocked-zero : (net : Net) → Timed net → Wired net → Balanced net → (v : ℕ → ℕ) → Blocks net v → (p q : ℕ) → Rate net p q → p ≡ 0
blocked-zero net long wires bal v blocks p q rate = let fires : 1 ≤ slice_index net.round blocks.short.0 = bal.fires blocks.short.0 blocks.short.1 in let flat : p * slice_index net.round blocks.short.0 ≤ 0 = level (p * slice_index net.round blocks.short.0) (q * v blocks.short.0 + rate.slack) lines in let some : p * 1 ≤ p * slice_index net.round blocks.short.0 = mul-le-mul_left p fires in omega arith
  where
    lines : (t : ℕ) → p * slice_index net.round blocks.short.0 * t ≤ q * v blocks.short.0 + rate.slack
    lines t = let found = rate.bounds.below t in let low : p * slice_index net.round blocks.short.0 * t ≤ q * count_of found.0 blocks.short.0 + rate.slack = found.2 blocks.short.0 blocks.short.1 in let few : count_of found.0 blocks.short.0 ≤ v blocks.short.0 = blocked-bounds net v long wires bal blocks found.0 found.1.admissible blocks.short.0 blocks.short.1 blocks.short.2 in let scaled : q * count_of found.0 blocks.short.0 ≤ q * v blocks.short.0 = mul-le-mul_left q few in omega arith
