use Rattle.std.proofs.Common.{◌∙◌, arith}
use Rattle.completion.proofs.TimetablesTellStarts.{full}
use Rattle.completion.proofs.WalkSteps.{numbers-order, kept-walk}
use Rattle.completion.proofs.walk.Walk.look_back.Goals as goal

pub segments-requires-clause-full : goal.segments-requires-clause-full
segments-requires-clause-full g c = full (g.F.Firing.net c.args.net.now) c.args.times.now c.requires.times

pub segments-requires-clause-order : goal.segments-requires-clause-order
segments-requires-clause-order g c =
    let walk = c.args.self.now in
    numbers-order (g.F.Firing.net c.args.net.now) c.args.times.now c.requires.times walk.here walk.kept c.requires.walk.here c.requires.walk.kept c.requires.order

pub jump-requires-clause-walk : goal.jump-requires-clause-walk
jump-requires-clause-walk g c = (g.F.Firing.net c.args.net.now, c.requires.times, c.requires.walk)

pub returns-in-Some-clause-walk : goal.returns-in-Some-clause-walk
returns-in-Some-clause-walk g c = c.jump.ensures.walk (g.F.Firing.net c.args.net.now) c.requires.times c.requires.walk

pub returns-else-self-gt1-clause-walk : goal.returns-else-self-gt1-clause-walk
returns-else-self-gt1-clause-walk g c =
    let walk = c.args.self.now in
    kept-walk (g.F.Firing.net c.args.net.now) c.args.times.now c.requires.times walk.last walk.here walk.parts.items c.requires.walk.rounds c.requires.walk.few c.requires.walk.last c.requires.walk.soon c.requires.walk.here c.requires.walk.way
    c.keep.new.self c.keep.ensures.last c.keep.ensures.here c.keep.ensures.parts c.keep.ensures.kept (c.keep.ensures.actors ∙ c.requires.walk.segment.actors) (λ a actor. c.keep.ensures.segment a (omega (arith, actor, c.requires.walk.segment.actors)))
