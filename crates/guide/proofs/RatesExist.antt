-- Each distribution that can be evaluated has a rate, and a live one a loop.
use Rattle.std.proofs.Common.{◌≡◌, ℕ, suc, ◌*◌, ◌/◌, ◌<◌, Option, List, ⊎_elim, sym, arith}
use Rattle.std.proofs.Math.Nat.{mul-div_cancel'}
use Rattle.sd_base.specs.Net.{Net}
use Rattle.firing.specs.declared.table.LoopTable.{LoopTable}
use Rattle.sd_base.specs.Lawful.{Lawful}
use Rattle.sd_base.specs.Rates.{IsLoop, IsLoopTable, Rate}
use Rattle.sd_base.specs.Connection.{IsConnected}
use Rattle.sd_base.specs.Untimed.{Blocks, IsEnd, IsLive}
use Rattle.sd_base.proofs.LeastMultiplesDivide.{gcd_pos, quotients, some_gcd}
use Rattle.sd_base.proofs.FiringOrdersEnd.{live_or_blocked}
use Rattle.sd_base.proofs.LoopRates.{table-rate}
use Rattle.storage.specs.BoundedNets.{bound}
use Rattle.storage.proofs.BlockedRates.{blocked-rate}
use Rattle.storage.proofs.BoundingKeepsLaws.{bound-lawful}
use Rattle.storage.proofs.SpacesJoinEnds.{bound-strong}
use Rattle.lasso.proofs.LoopsClose.{loop-closes}
use Rattle.guide.specs.Evaluations.{IsEvaluable}
use Rattle.guide.proofs.LiveNetsAreEvaluated.{bound-connected}
use Rattle.guide.proofs.LoopTables.{loop-table, rounds_of, before_of, starts_of}

module _ (net : Net) (laws : Lawful net) (ds : List (Option ℕ)) (fits : IsEvaluable net ds) where
  pub evaluable-lawful : Lawful (bound net ds)
  evaluable-lawful = bound-lawful net laws ds fits.none fits.can fits.few

  pub live-loop : IsLive (bound net ds) → (entry : ℕ) × (period : ℕ) × IsLoop (bound net ds) entry period
  live-loop live = loop-closes (bound net ds) evaluable-lawful fits.inputs (bound-strong net ds fits.distribution fits.connected) live

  pub joined : IsConnected (bound net ds)
  joined = bound-connected net ds fits.connected

  module _ (entry period : ℕ) (loop : IsLoop (bound net ds) entry period) where
    -- the table of its loop
    abbrev pub looped : LoopTable
    looped = record {
      entry = entry;
      period = period;
      rounds = rounds_of (bound net ds) entry period evaluable-lawful fits.inputs joined loop;
      before = before_of (bound net ds) entry;
      starts = starts_of (bound net ds) entry period;
    }

    pub looped-table : IsLoopTable (bound net ds) looped.entry looped.period looped.rounds looped.before looped.starts
    looped-table = loop-table (bound net ds) entry period evaluable-lawful fits.inputs joined loop

    -- the loop's rounds by its period are the rate, but for a common factor
    pub looped-rate : (g : ℕ) × (p : ℕ) × (q : ℕ) × (looped.rounds ≡ g * p) × (period ≡ g * q) × Rate (bound net ds) p q
    looped-rate =
        let common = some_gcd (suc period) looped.rounds period (omega arith) in
        let some : 0 < common.0 = gcd_pos looped.rounds period common.0 (omega (arith, looped-table.turns)) common.1 in
        let turns : looped.rounds ≡ common.0 * (looped.rounds / common.0) = sym (mul-div_cancel' common.0 common.1.0) in
        let time : period ≡ common.0 * (period / common.0) = sym (mul-div_cancel' common.0 common.1.1) in (
          common.0,
          looped.rounds / common.0,
          period / common.0,
          turns,
          time,
          table-rate (bound net ds) evaluable-lawful fits.inputs entry period looped.rounds looped.before looped.starts looped-table (looped.rounds / common.0) (period / common.0) common.0 turns time
              (quotients looped.rounds period common.0 some common.1),
        )

  pub rate-of : (p : ℕ) × (q : ℕ) × Rate (bound net ds) p q
  rate-of = ⊎_elim
      (λ (live : IsLive (bound net ds)).
      let (entry, period, loop) = live-loop live in
      let found = looped-rate entry period loop in
      (found.1, found.2, found.5))
      (λ (blocked : (v : ℕ → ℕ) × IsEnd (bound net ds) v × Blocks (bound net ds) v).
      (0, 1, blocked-rate (bound net ds) evaluable-lawful fits.inputs (bound-strong net ds fits.distribution fits.connected) blocked.0 blocked.2))
      (live_or_blocked (bound net ds))
