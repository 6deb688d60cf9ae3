use Rattle.std.proofs.Common.{◌∷◌, ◌++◌, [], ◌∙◌, sym, ap, ℕ, List, arith}
use Rattle.sd_base.proofs.ElementsKeepPlaces.{range-more}
use Rattle.selftimed.proofs.event_queue.EventQueue.refill.Goals as goal

pub loop-actor-preserved : goal.loop-actor-preserved
loop-actor-preserved c = record {
  ends = c.loop-actor.invariant.ends;
  touched = c.in_ok-push.ensures.items ∙ (ap (λ (xs : List ℕ). xs ++ c.loop-actor.actor ∷ []) c.loop-actor.invariant.touched ∙ sym (range-more 0 c.loop-actor.actor c.loop-actor.actor (omega arith)));
}
