use Rattle.std.proofs.Common.{ℕ, List, [], Bor, refl, ap, ◌∙◌, arith, rules}
use Rattle.std.specs.Prelude.{slice_index, codes}
use Rattle.report.specs.LackTexts.{lack_on}
use Rattle.report.proofs.PiecesAreJoined.{text-start, between-start, text-skip, between-skip, text-more, between-then, lack-here, lacks-end}
use Rattle.report.proofs.lacks.lacks_text.Goals as goal
use Rattle.report.proofs.lacks.lacks_text.Goals.{in-Some+in_ok-push_str+in_ok-put_lack, in_default}

pub loop-actor-init : goal.loop-actor-init
loop-actor-init g c =
    let show = λ (a i : ℕ). lack_on c.args.graph.now (g.F.Firing.net c.args.net.now) a (slice_index c.args.counts.now a) i in
    record {
      utf8 = search rules;
      text = c.new-text.ensures.bytes ∙ text-start (codes ", ") show c.args.lacks.now [];
      between = between-start (codes ", ") show c.args.lacks.now;
    }

pub loop-actor-preserved : goal.loop-actor-preserved
loop-actor-preserved g c =
    let graph = c.args.graph.now in
    let net = g.F.Firing.net c.args.net.now in
    let counts = c.args.counts.now in
    let lacks = c.args.lacks.now in
    let a = c.loop-actor.actor in
    let show = λ (a i : ℕ). lack_on graph net a (slice_index counts a) i in
    let before = c.loop-actor.invariant in
    elim c.match-lacks-actor.branch [
      | in-Some+in_ok-push_str+in_ok-put_lack w ↦ record {
        utf8 = rw w.between-is (search rules);
        text = rw w.text-is (text-more (codes ", ") show lacks a w.in-Some.channel [] _ _ _ _ _ w.in-Some.is
            (lack-here graph net counts a w.in-Some.channel _ _ _ refl w.round.ensures w.role.ensures) before.text before.between w.in_ok-push_str.ensures.bytes w.in_ok-put_lack.ensures);
        between = between-then (codes ", ") show lacks a w.in-Some.channel _ w.in-Some.is (ap (λ (b : Bor (List ℕ)). b.now) w.between-is);
      }
      | in_default w ↦ record {
        utf8 = rw w.between-is before.utf8;
        text = rw w.text-is (text-skip (codes ", ") show lacks a [] _ w.in_default.not-Some before.text);
        between = rw w.between-is (between-skip (codes ", ") show lacks a _ w.in_default.not-Some before.between);
      }
    ]

pub returns : goal.returns
returns g c =
    c.new.ensures ∙ lacks-end c.args.graph.now (g.F.Firing.net c.args.net.now) c.args.counts.now c.args.lacks.now c.loop-actor.actor _
    (omega (arith, c.loop-actor-test.false, c.loop-actor.auto.actor-end, c.actors-actor-end.ensures)) c.loop-actor.invariant.text
