use Rattle.std.proofs.Common.{◌≡◌, ◌<◌, ◌≤◌, arith}
use Rattle.std.specs.Prelude.{slice_index}
use Rattle.bounded_scenarios.proofs.ScanStepsHold.{greatest-more}
use Rattle.bounded_scenarios.proofs.merged.greatest_of.Goals as goal
use Rattle.bounded_scenarios.proofs.merged.greatest_of.Goals.{then-greatest-rate, else-greatest-rate}

pub loop-rate-preserved : goal.loop-rate-preserved
loop-rate-preserved c =
    elim c.if-greatest-rate.branch [
      | then-greatest-rate w ↦
          let less : c.loop-rate.greatest < slice_index c.args.rates.now c.loop-rate.rate-index = w.if-greatest-rate.true in
          let is : c.if-greatest-rate.greatest ≡ slice_index c.args.rates.now c.loop-rate.rate-index = w.greatest-is in
          let more = greatest-more c.args.rates.now c.loop-rate.greatest c.if-greatest-rate.greatest c.loop-rate.rate-index (omega (arith, less, is)) (omega (arith, is))
          (λ k old here. omega (arith, is, here)) c.loop-rate.invariant.covers c.loop-rate.invariant.least in
          record { covers = more.0; least = more.1 }
      | else-greatest-rate w ↦
          let most : slice_index c.args.rates.now c.loop-rate.rate-index ≤ c.loop-rate.greatest = w.if-greatest-rate.false in
          let is : c.if-greatest-rate.greatest ≡ c.loop-rate.greatest = w.greatest-is in
          let more = greatest-more c.args.rates.now c.loop-rate.greatest c.if-greatest-rate.greatest c.loop-rate.rate-index (omega (arith, is)) (omega (arith, is, most))
          (λ k old here. omega (arith, is, old)) c.loop-rate.invariant.covers c.loop-rate.invariant.least in
          record { covers = more.0; least = more.1 }
    ]
