use Rattle.std.proofs.Common.{length}
use Rattle.balance.proofs.WaysGetRatios.{IsRating}
use Rattle.balance.proofs.ratio.ratios.Given as goal

abbrev pub invariant-loop-place : goal.invariant-loop-place
invariant-loop-place l = IsRating l.links (length l.search.seen.items) l.search.found.items l.search.seen.items l.ratios.items l.place
