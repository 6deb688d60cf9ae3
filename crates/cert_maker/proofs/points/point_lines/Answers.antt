use Rattle.std.proofs.Common.{◌≡◌, ℕ, ◌<◌, [], ◌∷◌, ◌++◌, List, length, take, vec_len, refl, subst, sym, ◌∙◌, rules, arith}
use Rattle.std.specs.Prelude.{slice_index_or}
use Rattle.std.specs.List.{AllZip}
use Rattle.std.proofs.lemmas.Iterator.Adapters.{YieldsList-from_vec}
use Rattle.std.proofs.lemmas.Iterator.Consumers.{YieldsList-turn}
use Rattle.periodic.specs.declared.schedule.Periodic.{Periodic}
use Rattle.pareto_front.specs.declared.point.Point.{Point}
use Rattle.explore.specs.declared.exploration.Member.{Member}
use Rattle.cert_text.specs.declared.certificates.PointLine.{PointLine}
use Rattle.cert_maker.specs.StorageCertificates.{IsPointLine, schedules_of}
use Rattle.cert_maker.proofs.MembersHavePlaces.{here, more-count, more-left, more-lines, more-schedules}
use Rattle.cert_maker.proofs.points.point_lines.Goals as goal

pub loop-schedule-preserved : goal.loop-schedule-preserved
loop-schedule-preserved c =
    let ms : List Member = c.args.members.now in
    let points : List Point = c.args.points.now in
    let done : List Periodic = c.loop-schedule.yielded in
    let lines : List PointLine = c.loop-schedule.lines.items in
    let inv = c.loop-schedule.invariant in
    let gives = c.into_iter-schedule-iterator.ensures.into_iter_gives in
    let long : vec_len c.args.schedules ≡ length c.args.schedules.items = search rules in
    let turn = YieldsList-turn (YieldsList-from_vec c.args.schedules.items gives.0 (gives.1 ∙ long)) done c.loop-schedule.schedule-iterator c.loop-schedule.yielded_by c.next.result c.next.new.self c.in-Some.schedule c.in-Some.is c.next.ensures.steps in
    let below : length done < length points = omega (arith, turn.0, c.requires.many) in
    let count : vec_len c.loop-schedule.lines ≡ length lines = search rules in
    let number : c.len.result ≡ length done = c.len.ensures ∙ count ∙ inv.count in
    let p : Point = c.index-points-len.result in
    let is : p ≡ slice_index_or points (length done) p = subst (λ (k : ℕ). p ≡ slice_index_or points k p) number c.index-points-len.is in
    let line : PointLine = record { total = p.total; rate = (c.num.result, c.den.result); member = c.place_of-place.result; schedule = c.in-Some.schedule } in
    let at = c.place_of-place.ensures (here ms points c.requires.placed done lines p below is line c.in-Some.schedule c.loop-schedule.place inv.left) in
    let pushed = sym c.in_ok-push.ensures.items in record {
      count = subst (λ (ls : List PointLine). length ls ≡ length (done ++ c.in-Some.schedule ∷ [])) pushed (more-count ms points c.requires.placed done lines p below is line c.in-Some.schedule inv.count);
      lines = subst (λ (ls : List PointLine). AllZip (IsPointLine ms) (take (length (done ++ c.in-Some.schedule ∷ [])) points) ls) pushed
          (more-lines ms points c.requires.placed done lines p below is line c.in-Some.schedule inv.lines (record { total = refl; rate = λ i. (c.num.ensures i, c.den.ensures i); member = at }));
      schedules = subst (λ (ls : List PointLine). schedules_of ls ≡ done ++ c.in-Some.schedule ∷ []) pushed
          (more-schedules ms points c.requires.placed done lines p below is line c.in-Some.schedule inv.schedules refl);
      left = more-left ms points c.requires.placed done lines p below is line c.in-Some.schedule c.place_of-place.result at;
    }
