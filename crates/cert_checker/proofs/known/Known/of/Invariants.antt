use Rattle.std.proofs.Common.{ℕ, Option, List}
use Rattle.cert_checker.specs.inside.KnownSets.{IsNumber, number_of}
use Rattle.cert_checker.proofs.known.Known.of.Given as goal

abbrev pub invariant-loop-number : goal.invariant-loop-number
invariant-loop-number l = (ds : List (Option ℕ)) → IsNumber l.members l.number ds (number_of (record { numbers = l.numbers }) ds)
