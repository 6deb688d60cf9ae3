use Rattle.std.proofs.Common.{sym, arith, true}
use Rattle.std.proofs.lemmas.List.{replicate_more}
use Rattle.sd_base.proofs.ElementsKeepPlaces.{range-more}
use Rattle.liveness.proofs.flags.Flags.new.Goals as goal

pub loop-actor-preserved : goal.loop-actor-preserved
loop-actor-preserved c = record {
  flagged = rw (c.in_ok-push.ensures.items, c.loop-actor.invariant.flagged) (replicate_more c.loop-actor.actor true);
  stack = rw (c.in_ok-push-2.ensures.items, c.loop-actor.invariant.stack) (sym (range-more 0 c.loop-actor.actor c.loop-actor.actor (omega arith)));
}
