use Rattle.std.proofs.Common.{ℕ, ◌+◌, Option, List, sym, subst, take, arith}
use Rattle.std.specs.Prelude.{MatchOption}
use Rattle.std.proofs.lemmas.List.{take_all}
use Rattle.walks.specs.inside.Lacks.{LacksMost, LacksNone}
use Rattle.walks.proofs.MostLacking.{IsFoundAmong, found-all, found-kept, found-new}
use Rattle.walks.proofs.choosing.most_lacking.Goals as goal
use Rattle.walks.proofs.choosing.most_lacking.Goals.{then-lack-most, else-lack-most}

pub loop-channel-preserved : goal.loop-channel-preserved
loop-channel-preserved c =
    let P = λ (most : ℕ) (found : Option ℕ). IsFoundAmong c.args.lattice.now.axes c.args.goal.now c.args.capacities.now (take (c.loop-channel.channel-index + 1) c.args.channels.now) most found in
    elim c.if-lack-most.branch [
      | then-lack-most w ↦ subst (λ (m : ℕ). P m c.if-lack-most.found) (sym w.most-is) (subst (P c.lack_on-lack.result) (sym w.found-is)
          (found-new c.args.lattice.now.axes c.args.goal.now c.args.capacities.now c.args.channels.now c.loop-channel.channel-index c.lack_on-lack.result c.loop-channel.most c.loop-channel.found (omega arith) c.lack_on-lack.ensures w.if-lack-most.true c.loop-channel.invariant))
      | else-lack-most w ↦ subst (λ (m : ℕ). P m c.if-lack-most.found) (sym w.most-is) (subst (P c.loop-channel.most) (sym w.found-is)
          (found-kept c.args.lattice.now.axes c.args.goal.now c.args.capacities.now c.args.channels.now c.loop-channel.channel-index c.lack_on-lack.result c.loop-channel.most c.loop-channel.found (omega arith) c.lack_on-lack.ensures w.if-lack-most.false c.loop-channel.invariant))
    ]

pub returns : goal.returns
returns c =
    subst (λ (cs : List ℕ). MatchOption c.loop-channel.found (LacksNone c.args.lattice.now.axes c.args.goal.now c.args.capacities.now cs) (LacksMost c.args.lattice.now.axes c.args.goal.now c.args.capacities.now cs)) (take_all c.loop-channel.channel-index c.args.channels.now (omega arith))
    (found-all c.args.lattice.now.axes c.args.goal.now c.args.capacities.now (take c.loop-channel.channel-index c.args.channels.now) c.loop-channel.most c.loop-channel.found c.loop-channel.invariant)
