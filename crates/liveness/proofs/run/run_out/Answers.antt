use Rattle.std.proofs.Common.{◌≤◌, length, subst, arith}
use Rattle.std.proofs.lemmas.Bool.{MatchBool-at_true, MatchBool-at_false}
use Rattle.firing.specs.declared.sums.Port.TheVariants.{Made}
use Rattle.liveness.specs.inside.Looks.{LeavesFlags}
use Rattle.liveness.proofs.LooksRunOut.{all-flagged, next-actor, flags-rest, looks-still, looks-fired, listed-few, looks-less, looks-one_less}
use Rattle.liveness.proofs.run.run_out.Goals as goal

pub looks-init : goal.looks-init
looks-init g c = record {
  run = c.requires;
  leaves = all-flagged (g.F.Firing.net c.args.wired.now.net.now) c.args.counts.now c.in_ok-flags.flags.flagged.items c.in_ok-flags.flags.stack.items c.actors.result c.actors.ensures c.in_ok-flags.ensures.flagged c.in_ok-flags.ensures.stack;
}

pub fire_while_able-requires-clause-actor : goal.fire_while_able-requires-clause-actor
fire_while_able-requires-clause-actor g c =
    let net = g.F.Firing.net c.args.wired.now.net.now in
    let leaves = subst (LeavesFlags net c.looks.counts c.looks.flags.flagged.items) c.in-Some.ensures.0 c.looks.invariant.leaves in
    next-actor net c.looks.counts c.looks.flags.flagged.items c.pop.new.self.stack.items c.in-Some.actor leaves

pub outputs_of-requires : goal.outputs_of-requires
outputs_of-requires g c =
    let net = g.F.Firing.net c.args.wired.now.net.now in
    let leaves = subst (LeavesFlags net c.looks.counts c.looks.flags.flagged.items) c.in-Some.ensures.0 c.looks.invariant.leaves in
    next-actor net c.looks.counts c.looks.flags.flagged.items c.pop.new.self.stack.items c.in-Some.actor leaves

pub flag_targets-requires-clause-there : goal.flag_targets-requires-clause-there
flag_targets-requires-clause-there g c = c.outputs_of.ensures.place

pub flag_targets-requires-clause-flags : goal.flag_targets-requires-clause-flags
flag_targets-requires-clause-flags g c =
    let net = g.F.Firing.net c.args.wired.now.net.now in
    let leaves = subst (LeavesFlags net c.looks.counts c.looks.flags.flagged.items) c.in-Some.ensures.0 c.looks.invariant.leaves in
    rw c.in-Some.ensures.1 (flags-rest net c.looks.counts c.looks.flags.flagged.items c.pop.new.self.stack.items c.in-Some.actor leaves)

pub looks-smaller-in-Continue-branch-3 : goal.looks-smaller-in-Continue-branch-3
looks-smaller-in-Continue-branch-3 g c =
    let net = g.F.Firing.net c.args.wired.now.net.now in
    let few : length c.outputs_of.result.now ≤ length net.channels = listed-few net Made c.in-Some.actor c.outputs_of.result.now c.outputs_of.ensures in
    rw c.in-Some.ensures.0 (looks-less net c.looks.counts c.fire_while_able.new.counts c.pop.new.self.stack.items c.flag_targets.new.self.stack.items c.in-Some.actor
    (MatchBool-at_true _ _ c.if-branch.true c.in_ok-fire_while_able.ensures.fired) (omega (arith, few, c.in_ok-flag_targets.ensures.few)))

pub looks-preserved-in-Continue-branch-3 : goal.looks-preserved-in-Continue-branch-3
looks-preserved-in-Continue-branch-3 g c =
    let net = g.F.Firing.net c.args.wired.now.net.now in
    let leaves = subst (LeavesFlags net c.looks.counts c.looks.flags.flagged.items) c.in-Some.ensures.0 c.looks.invariant.leaves in
    record {
      run = c.in_ok-fire_while_able.ensures.run;
      leaves = looks-fired net c.looks.counts c.looks.flags.flagged.items c.pop.new.self.stack.items c.in-Some.actor leaves c.fire_while_able.new.counts c.outputs_of.result.now
          c.flag_targets.new.self.flagged.items c.flag_targets.new.self.stack.items c.outputs_of.ensures c.in_ok-fire_while_able.ensures.stopped c.in_ok-fire_while_able.ensures.others
          c.in_ok-flag_targets.ensures.flags (rw c.in-Some.ensures.1 at c.in_ok-flag_targets.ensures.targets);
    }

pub looks-smaller : goal.looks-smaller
looks-smaller g c =
    rw c.in-Some.ensures.0 (looks-one_less (g.F.Firing.net c.args.wired.now.net.now) c.looks.counts c.fire_while_able.new.counts c.pop.new.self.stack.items c.in-Some.actor
    (MatchBool-at_false _ _ c.if-branch.false c.in_ok-fire_while_able.ensures.fired))

pub looks-preserved : goal.looks-preserved
looks-preserved g c =
    let net = g.F.Firing.net c.args.wired.now.net.now in
    let leaves = subst (LeavesFlags net c.looks.counts c.looks.flags.flagged.items) c.in-Some.ensures.0 c.looks.invariant.leaves in
    record {
      run = c.in_ok-fire_while_able.ensures.run;
      leaves = rw c.in-Some.ensures.1 (looks-still net c.looks.counts c.looks.flags.flagged.items c.pop.new.self.stack.items c.in-Some.actor leaves c.fire_while_able.new.counts
          (MatchBool-at_false _ _ c.if-branch.false c.in_ok-fire_while_able.ensures.fired) c.in_ok-fire_while_able.ensures.stopped);
    }
