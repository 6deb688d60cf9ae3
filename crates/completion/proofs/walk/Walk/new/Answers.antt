use Rattle.std.proofs.Common.{◌≡◌, length, subst, ap, ◌∙◌, sym, arith, set}
use Rattle.std.proofs.lemmas.List.{get_or-replicate, length-replicate, take_at}
use Rattle.completion.specs.declared.counts.Part.{Part}
use Rattle.completion.specs.Ways.{no_part, part_at}
use Rattle.completion.specs.inside.Timetables.{firing_of}
use Rattle.completion.specs.inside.Walks.{IsWayTo}
use Rattle.completion.proofs.PartsCountFirings.{counted-is, more}
use Rattle.completion.proofs.WalkSteps.{fresh-segment, way-first}
use Rattle.completion.proofs.walk.Walk.new.Goals as goal

pub returns-clause-walk : goal.returns-clause-walk
returns-clause-walk g c =
    let net = g.F.Firing.net c.args.net.now in
    let last = c.args.last in
    let parts = c.in_ok-parts.parts.items in
    let long : length parts ≡ length net.times = ap length c.in_ok-parts.ensures ∙ (length-replicate {A = Part} c.actors.result no_part ∙ c.actors.ensures) in
    let long_segment : length c.in_ok-segment.segment.items ≡ length net.times = ap length c.in_ok-segment.ensures ∙ (length-replicate {A = Part} c.actors-2.result no_part ∙ c.actors-2.ensures) in
    let size : length c.count.new.parts ≡ c.in_ok-parts.parts.len = omega (arith, c.count.auto.parts, c.deref_mut.ensures.len) in
    let is : c.count.new.parts ≡ set parts last.actor (more net parts (firing_of last)) = counted-is net c.deref_mut.result.now c.count.new.parts parts (firing_of last) c.time_at.result c.deref_mut.ensures.value c.time_at.ensures.time c.count.ensures in
    record {
      rounds = c.args.rounds;
      few = c.requires.few;
      last = c.requires.last;
      soon = c.requires.soon;
      here = c.requires.last.start;
      kept = c.requires.last.start;
      since = omega arith;
      way = subst (IsWayTo net last last) (sym (take_at c.count.new.parts _ c.in_ok-parts.parts.len size ∙ is)) (way-first net c.args.times.now c.requires.times last parts (omega (arith, long, c.requires.last.start.actor)) long
          (λ a actor. ap (λ (ps : Rattle.std.proofs.Common.List Part). part_at ps a) c.in_ok-parts.ensures ∙ get_or-replicate c.actors.result a no_part no_part (omega (arith, c.actors.ensures))));
      segment = fresh-segment net c.args.times.now c.requires.times last c.in_ok-segment.segment.items long_segment
          (λ a actor. ap (λ (ps : Rattle.std.proofs.Common.List Part). part_at ps a) c.in_ok-segment.ensures ∙ get_or-replicate c.actors-2.result a no_part no_part (omega (arith, c.actors-2.ensures)));
    }
