use Rattle.std.proofs.Common.{◌≡◌, length, ◌∙◌, arith}
use Rattle.std.proofs.lemmas.List.{take_at}
use Rattle.completion.proofs.TimetablesTellStarts.{full}
use Rattle.completion.proofs.WalkSteps.{jump-few, jump-soon, jump-number, jump-moment, jump-start, jump-way, kept-walk}
use Rattle.completion.proofs.walk.Walk.jump.Goals as goal

pub count_segments-requires-clause-few : goal.count_segments-requires-clause-few
count_segments-requires-clause-few c =
    let walk = c.args.self.now in
    rw (c.deref_mut.ensures.value, c.deref.ensures.value) (λ a place.
    let few = jump-few c.requires.walk.0 c.args.times.now c.requires.walk.1 walk c.requires.walk.2 c.args.segments c.requires.fits a (omega (arith, place, c.requires.walk.2.way.counted.actors)) in
    omega (arith, few))

pub count_segments-requires-clause-soon : goal.count_segments-requires-clause-soon
count_segments-requires-clause-soon c =
    let walk = c.args.self.now in
    rw (c.deref_mut.ensures.value, c.deref.ensures.value) (λ a place.
    let soon = jump-soon c.requires.walk.0 c.args.times.now c.requires.walk.1 walk c.requires.walk.2 c.args.segments c.requires.fits a (omega (arith, place, c.requires.walk.2.way.counted.actors)) in
    omega (arith, soon))

pub start-self-requires-clause-full : goal.start-self-requires-clause-full
start-self-requires-clause-full c = full c.requires.walk.0 c.args.times.now c.requires.walk.1

pub start-self-requires-clause-few : goal.start-self-requires-clause-few
start-self-requires-clause-few c =
    let walk = c.args.self.now in
    omega (arith, jump-number c.requires.walk.0 c.args.times.now c.requires.walk.1 walk c.requires.walk.2)

pub returns-clause-walk : goal.returns-clause-walk
returns-clause-walk c = λ net table is.
    let walk = c.args.self.now in
    let start = jump-start net c.args.times.now table walk is c.args.segments c.requires.fits c.start-self.result c.start-self.ensures.actor c.start-self.ensures.number c.start-self.ensures.moment in
    let size : length c.count_segments.new.parts ≡ walk.parts.len = omega (arith, c.count_segments.auto.parts, c.deref_mut.ensures.len) in
    let given : c.keep.new.self.parts.items ≡ c.count_segments.new.parts = c.keep.ensures.parts ∙ take_at c.count_segments.new.parts _ walk.parts.len size in
    let way = jump-way net c.args.times.now table walk is c.args.segments c.requires.fits c.start-self.result c.start-self.ensures.actor c.start-self.ensures.number c.start-self.ensures.moment c.count_segments.new.parts
    (rw c.deref_mut.ensures.value at c.count_segments.ensures.actors)
    (rw (c.deref_mut.ensures.value, c.deref.ensures.value) at c.count_segments.ensures.firings)
    (rw (c.deref_mut.ensures.value, c.deref.ensures.value) at c.count_segments.ensures.time) in
    kept-walk net c.args.times.now table walk.last c.start-self.result c.count_segments.new.parts is.rounds is.few is.last is.soon start way
    c.keep.new.self c.keep.ensures.last c.keep.ensures.here given c.keep.ensures.kept (c.keep.ensures.actors ∙ is.segment.actors) (λ a actor. c.keep.ensures.segment a (omega (arith, actor, is.segment.actors)))

pub returns-clause-back : goal.returns-clause-back
returns-clause-back c =
    let walk = c.args.self.now in
    let back = jump-moment c.requires.walk.0 c.args.times.now c.requires.walk.1 walk c.requires.walk.2 c.args.segments c.requires.fits c.start-self.result c.start-self.ensures.actor c.start-self.ensures.number c.start-self.ensures.moment in
    rw c.keep.ensures.here back
