use Rattle.std.proofs.Common.{◌≡◌, suc, ◌+◌, map, take, ap, arith}
use Rattle.std.specs.Prelude.{slice_index_or, sum}
use Rattle.cert_checker.specs.StorageLines.{cycle_size}
use Rattle.cert_checker.proofs.StorageFirsts.{sizes-more}
use Rattle.cert_checker.proofs.sizes.cycles_size.Goals as goal

pub loop-cycle-preserved : goal.loop-cycle-preserved
loop-cycle-preserved c =
    let cycles = c.args.cycles.now in
    let i = c.loop-cycle.cycle-index in
    let item = c.cycle-item.result in
    let next : i + 1 ≡ suc i = omega arith in
    let more : sum (map cycle_size (take (i + 1) cycles)) ≡ sum (map cycle_size (take i cycles)) + cycle_size (slice_index_or cycles i item) = rw next (sizes-more cycle_size cycles item i c.loop-cycle-test.true) in
    let here : cycle_size item ≡ cycle_size (slice_index_or cycles i item) = ap cycle_size c.cycle-item.is in
    omega (arith, more, here, c.loop-cycle.invariant, c.saturating_add-size.ensures, c.cycle_size.ensures.size)
