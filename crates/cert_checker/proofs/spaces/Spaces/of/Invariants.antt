use Rattle.std.proofs.Common.{◌↔◌, ◌<◌, ℕ}
use Rattle.cert_text.specs.MemberLines.{cycle_at}
use Rattle.cert_checker.specs.inside.ShownAt.{HasSpaceLink}
use Rattle.cert_checker.specs.inside.Spaces.{HasSpace}
use Rattle.cert_checker.proofs.spaces.Spaces.of.Given as goal

abbrev pub invariant-loop-number : goal.invariant-loop-number
invariant-loop-number l = (k c : ℕ) → HasSpace l.spaces k c ↔ ((k < l.number) × HasSpaceLink (cycle_at l.cycles k).steps c)
