use Rattle.std.proofs.Common.{◌<◌, length, sym, ◌∙◌, arith}
use Rattle.std.specs.Prelude.{slice_index}
use Rattle.liveness.specs.inside.Looks.{flag_of}
use Rattle.liveness.proofs.LooksRunOut.{flags-more, stack-few, targets-more, targets-skip}
use Rattle.liveness.proofs.flags.Flags.flag_targets.Goals.{then-target-actor+in_ok-flag, else-target-actor}
use Rattle.liveness.proofs.flags.Flags.flag_targets.Goals as goal

pub loop-channel-preserved : goal.loop-channel-preserved
loop-channel-preserved g c = elim c.if-target-actor.branch [
  | then-target-actor+in_ok-flag w ↦
      let net = g.F.Firing.net c.args.net.now in
      let actor : c.target-target.result < length (g.F.Firing.net c.args.net.now).times =
      omega (arith, c.target-target.ensures, c.know_laws.ensures.targets (slice_index c.args.channels.now c.loop-channel.channel-index) (c.requires.there c.loop-channel.channel-index c.loop-channel-test.true)) in
      let place : c.target-target.result < length c.loop-channel.self.flagged.items = omega (arith, c.loop-channel.invariant.flags.long) in
      rw (w.self-is, w.in_ok-flag.ensures.flagged) (record {
        flags = flags-more net c.loop-channel.self.flagged.items c.loop-channel.self.stack.items w.flag.new.self.stack.items c.target-target.result actor c.loop-channel.invariant.flags w.in_ok-flag.ensures.stack;
        targets = targets-more net c.args.actor c.args.channels.now c.args.self.now.flagged.items c.loop-channel.self.flagged.items c.loop-channel.channel-index c.target-target.result place c.target-target.ensures c.loop-channel.invariant.targets;
        few = omega (arith, stack-few (flag_of c.loop-channel.self.flagged.items c.target-target.result) c.loop-channel.self.stack.items w.flag.new.self.stack.items c.target-target.result w.in_ok-flag.ensures.stack, c.loop-channel.invariant.few);
      })
  | else-target-actor w ↦
      rw w.self-is (record {
        flags = c.loop-channel.invariant.flags;
        targets = targets-skip (g.F.Firing.net c.args.net.now) c.args.actor c.args.channels.now c.args.self.now.flagged.items c.loop-channel.self.flagged.items c.loop-channel.channel-index (sym c.target-target.ensures ∙ w.if-target-actor.false) c.loop-channel.invariant.targets;
        few = omega (arith, c.loop-channel.invariant.few);
      })
]
