use Rattle.std.proofs.Common.{◌+◌, ◌<◌, length, arith}
use Rattle.need_loops.specs.inside.Needing.{IsFeedInto}
use Rattle.need_loops.proofs.FeedsGoOn.{some-made, small-made, small-taken, few-left, few-firings, advanced-more, feed-at, next-goes-on}
use Rattle.need_loops.proofs.feeds.NextFiring.advance.Given.{Over}
use Rattle.need_loops.proofs.feeds.NextFiring.advance.Goals as goal

within : (g : Over) (c : goal.After-index_mut g) → c.loop-place.place < length c.loop-place.self.feeds.items
within g c = omega (arith, c.loop-place.invariant.steps.long)

here : (g : Over) (c : goal.After-index_mut g) → IsFeedInto (g.F.Firing.net c.args.net.now) c.args.actor (c.args.firing + 1) c.index_mut.result.now
here g c = feed-at (g.F.Firing.net c.args.net.now) c.args.actor c.args.firing c.loop-place.place c.args.self.now c.loop-place.self.feeds.items c.index_mut.result.now c.requires.next c.loop-place.invariant.steps (within g c) c.index_mut.ensures.value

pub advance-requires-clause-some : goal.advance-requires-clause-some
advance-requires-clause-some g c =
    let at = here g c in some-made (g.F.Firing.net c.args.net.now) at.channel (c.args.firing + 1) c.index_mut.result.now c.know_laws.ensures at.place at.feeds_it

pub advance-requires-clause-made : goal.advance-requires-clause-made
advance-requires-clause-made g c =
    let at = here g c in small-made (g.F.Firing.net c.args.net.now) at.channel (c.args.firing + 1) c.index_mut.result.now c.know_laws.ensures at.place at.feeds_it

pub advance-requires-clause-taken : goal.advance-requires-clause-taken
advance-requires-clause-taken g c =
    let at = here g c in small-taken (g.F.Firing.net c.args.net.now) at.channel (c.args.firing + 1) c.index_mut.result.now c.know_laws.ensures at.place at.feeds_it

pub advance-requires-clause-left : goal.advance-requires-clause-left
advance-requires-clause-left g c =
    let at = here g c in few-left (g.F.Firing.net c.args.net.now) at.channel (c.args.firing + 1) c.index_mut.result.now c.know_laws.ensures at.place at.feeds_it

pub advance-requires-clause-few : goal.advance-requires-clause-few
advance-requires-clause-few g c =
    let at = here g c in few-firings (g.F.Firing.net c.args.net.now) at.channel (c.args.firing + 1) c.index_mut.result.now c.know_laws.ensures at.place at.feeds_it (omega arith)

pub loop-place-preserved : goal.loop-place-preserved
loop-place-preserved g c = record {
  pause = c.loop-place.invariant.pause;
  steps = advanced-more c.loop-place.place c.args.self.now.feeds.items c.loop-place.self.feeds.items c.index_mut.result.now c.advance.new.self c.loop-place.invariant.steps
      (omega (arith, c.loop-place.invariant.steps.long)) c.index_mut.ensures.value c.advance.ensures;
}

pub returns : goal.returns
returns g c = next-goes-on (g.F.Firing.net c.args.net.now) c.args.actor c.args.firing c.loop-place.place c.args.self.now c.loop-place.self c.requires.next c.loop-place.invariant.pause c.loop-place.invariant.steps
    (omega (arith, c.loop-place.invariant.steps.long))
