use Rattle.std.proofs.Common.{◌≡◌, length}
use Rattle.std.specs.String.{string_bytes}
use Rattle.report.specs.WorstTexts.{token_text}
use Rattle.report.proofs.worst_rates.put_token.Given as goal

abbrev pub invariant-loop-left : goal.invariant-loop-left
invariant-loop-left l = record {
  unwritten : string_bytes l.text ≡ string_bytes l.initial.text;
  same : token_text l.left l.number ≡ token_text l.shared l.token;
}

abbrev pub decreases-loop-left : goal.decreases-loop-left
decreases-loop-left l = length l.left
