use Rattle.std.proofs.Common.{◌≡◌, true}
use Rattle.storage.specs.CapacityOrder.{no_later}
use Rattle.storage.proofs.CapacityOrder.{no_later-antisym}
use Rattle.storage.proofs.distribution.Distribution.order.Goals as goal

pub returns-else-not-is_no_later-2 : goal.returns-else-not-is_no_later-2
returns-else-not-is_no_later-2 c =
    let one = c.args.self.now.capacities in
    let other = c.args.other.now.capacities in
    let first : no_later one other ≡ true = cc in
    let second : no_later other one ≡ true = cc in
    no_later-antisym one other first second
