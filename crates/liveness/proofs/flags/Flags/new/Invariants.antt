use Rattle.std.proofs.Common.{◌≡◌, true, replicate}
use Rattle.std.specs.List.{range_with_len}
use Rattle.liveness.proofs.flags.Flags.new.Given as goal

abbrev pub invariant-loop-actor : goal.invariant-loop-actor
invariant-loop-actor l = record {
  flagged : l.flagged.items ≡ replicate l.actor true;
  stack : l.stack.items ≡ range_with_len 0 l.actor;
}
