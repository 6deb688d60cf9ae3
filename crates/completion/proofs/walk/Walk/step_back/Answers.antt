use Rattle.std.proofs.Common.{◌≡◌, ◌≤◌, length, subst, ◌∙◌, sym, arith, set}
use Rattle.sd_base.specs.declared.limits.TheConstants.{TIME}
use Rattle.std.proofs.lemmas.List.{take_at}
use Rattle.completion.specs.Ways.{firing_time}
use Rattle.completion.specs.inside.Timetables.{firing_of}
use Rattle.completion.specs.inside.Walks.{IsSegment, IsWayTo}
use Rattle.completion.proofs.PartsCountFirings.{counted-is, more}
use Rattle.completion.proofs.WalkSteps.{way-within, way-few, way-soon, segment-few, segment-soon, way-more, segment-more, need-sooner, short-time}
use Rattle.completion.proofs.TightNeedsExist.{first-tight}
use Rattle.completion.proofs.walk.Walk.step_back.Goals as goal

pub tight_need-here-requires-clause-within : goal.tight_need-here-requires-clause-within
tight_need-here-requires-clause-within g c =
    let walk = c.args.self.now in
    (c.requires.walk.rounds, c.requires.walk.few, way-within (g.F.Firing.net c.args.wired.now.net.now) c.args.times.now c.requires.times c.requires.walk.rounds c.requires.walk.few walk.last c.requires.walk.last walk.here walk.parts.items c.requires.walk.way)

pub count-requires-clause-few : goal.count-requires-clause-few
count-requires-clause-few g c =
    let walk = c.args.self.now in
    rw c.deref_mut.ensures.value (omega (arith, way-few (g.F.Firing.net c.args.wired.now.net.now) c.args.times.now c.requires.times c.requires.walk.rounds c.requires.walk.few walk.last c.requires.walk.last walk.here walk.parts.items c.requires.walk.here c.requires.walk.way c.tight_need-here.result.actor c.tight_need-here.ensures.start.actor))

pub count-requires-clause-soon : goal.count-requires-clause-soon
count-requires-clause-soon g c =
    let walk = c.args.self.now in
    let net = g.F.Firing.net c.args.wired.now.net.now in
    let soon = way-soon net c.args.times.now c.requires.times c.requires.walk.rounds c.requires.walk.few walk.last c.requires.walk.last walk.here walk.parts.items c.requires.walk.way c.tight_need-here.result.actor c.tight_need-here.ensures.start.actor in
    let short : firing_time net (firing_of walk.last) ≤ TIME = short-time net c.args.times.now c.requires.times (firing_of walk.last) c.requires.walk.last.start.actor in
    rw c.deref_mut.ensures.value (omega (arith, soon, short, c.requires.walk.soon, c.time_at-time.ensures.short))

pub count-requires-2-clause-few : goal.count-requires-2-clause-few
count-requires-2-clause-few g c =
    let walk = c.args.self.now in
    rw c.deref_mut-2.ensures.value (omega (arith, segment-few (g.F.Firing.net c.args.wired.now.net.now) c.args.times.now c.requires.times walk c.requires.walk c.tight_need-here.result.actor c.tight_need-here.ensures.start.actor))

pub count-requires-2-clause-soon : goal.count-requires-2-clause-soon
count-requires-2-clause-soon g c =
    let walk = c.args.self.now in
    rw c.deref_mut-2.ensures.value (omega (arith, segment-soon (g.F.Firing.net c.args.wired.now.net.now) c.args.times.now c.requires.times walk c.requires.walk c.tight_need-here.result.actor c.tight_need-here.ensures.start.actor, c.requires.walk.soon, c.time_at-time.ensures.short))

pub returns-clause-walk : goal.returns-clause-walk
returns-clause-walk g c =
    let net = g.F.Firing.net c.args.wired.now.net.now in
    let walk = c.args.self.now in
    let needed = c.tight_need-here.result in
    let size : length c.count.new.parts ≡ walk.parts.len = omega (arith, c.count.auto.parts, c.deref_mut.ensures.len) in
    let size_segment : length c.count-2.new.parts ≡ walk.segment.len = omega (arith, c.count-2.auto.parts, c.deref_mut-2.ensures.len) in
    let is : c.count.new.parts ≡ set walk.parts.items needed.actor (more net walk.parts.items (firing_of needed)) =
    counted-is net c.deref_mut.result.now c.count.new.parts walk.parts.items (firing_of needed) c.time_at-time.result c.deref_mut.ensures.value c.time_at-time.ensures.time c.count.ensures in
    let is_segment : c.count-2.new.parts ≡ set walk.segment.items needed.actor (more net walk.segment.items (firing_of needed)) =
    counted-is net c.deref_mut-2.result.now c.count-2.new.parts walk.segment.items (firing_of needed) c.time_at-time.result c.deref_mut-2.ensures.value c.time_at-time.ensures.time c.count-2.ensures in
    record {
      rounds = c.requires.walk.rounds;
      few = c.requires.walk.few;
      last = c.requires.walk.last;
      soon = c.requires.walk.soon;
      here = c.tight_need-here.ensures.start;
      kept = c.requires.walk.kept;
      since = c.requires.walk.since;
      way = subst (IsWayTo net walk.last needed) (sym (take_at c.count.new.parts _ walk.parts.len size ∙ is)) (way-more net c.args.times.now c.requires.times walk.here needed c.tight_need-here.ensures.need.need (first-tight net c.args.times.now c.requires.times walk.here needed c.requires.walk.here c.tight_need-here.ensures.start c.tight_need-here.ensures.need) walk.last walk.parts.items c.tight_need-here.ensures.start.actor c.requires.walk.way);
      segment = subst (IsSegment net needed walk.kept) (sym (take_at c.count-2.new.parts _ walk.segment.len size_segment ∙ is_segment)) (segment-more net c.args.times.now c.requires.times walk.here needed c.tight_need-here.ensures.need.need (first-tight net c.args.times.now c.requires.times walk.here needed c.requires.walk.here c.tight_need-here.ensures.start c.tight_need-here.ensures.need) walk.kept walk.segment.items c.tight_need-here.ensures.start.actor c.requires.walk.segment);
    }

pub returns-clause-back : goal.returns-clause-back
returns-clause-back g c =
    need-sooner (g.F.Firing.net c.args.wired.now.net.now) c.args.times.now c.requires.times c.args.self.now.here c.tight_need-here.result c.tight_need-here.ensures.need.need c.tight_need-here.ensures.start.actor

pub returns-clause-order : goal.returns-clause-order
returns-clause-order g c =
    let sooner = need-sooner (g.F.Firing.net c.args.wired.now.net.now) c.args.times.now c.requires.times c.args.self.now.here c.tight_need-here.result c.tight_need-here.ensures.need.need c.tight_need-here.ensures.start.actor in
    omega (arith, sooner, c.requires.walk.segment.time)
