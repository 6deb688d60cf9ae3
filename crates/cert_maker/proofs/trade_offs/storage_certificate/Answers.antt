use Rattle.std.proofs.Common.{List, All, subst, sym}
use Rattle.periodic.specs.declared.schedule.Periodic.{Periodic}
use Rattle.pareto_front.specs.declared.point.Point.{Point}
use Rattle.explore.specs.declared.exploration.Member.{Member}
use Rattle.explore.specs.Explorations.{capacities_of}
use Rattle.cert_text.specs.declared.certificates.LinkCycle.{LinkCycle}
use Rattle.cert_text.specs.declared.certificates.MemberLine.{MemberLine}
use Rattle.cert_text.specs.declared.certificates.PointLine.{PointLine}
use Rattle.cert_text.specs.Spellable.{AreShown, AreStarts, IsCycleText}
use Rattle.cert_maker.specs.inside.Lines.{ArePlaced}
use Rattle.cert_maker.proofs.ExplorationsGiveLines.{explored-lines, explored-placed}
use Rattle.cert_maker.proofs.LinesStayRight.{lines-shown, schedules-spelled}
use Rattle.cert_maker.proofs.trade_offs.storage_certificate.Goals as goal

pub point_lines-requires-clause-placed : goal.point_lines-requires-clause-placed
point_lines-requires-clause-placed g c =
    let ms : List Member = c.args.exploration.members.items in
    let ps : List Point = c.args.exploration.points.items in
    subst (λ (xs : List Member). ArePlaced (capacities_of xs) c.as_slice-2.result.now) (sym c.as_slice.ensures.value)
    (subst (λ (qs : List Point). ArePlaced (capacities_of ms) qs) (sym c.as_slice-2.ensures.value)
    (explored-placed (g.F.Firing.net c.args.net.now) c.requires.net.plain c.args.limits c.requires.total ms ps c.requires.explored))

pub list-requires-clause-members : goal.list-requires-clause-members
list-requires-clause-members g c = explored-lines (g.F.Firing.net c.args.net.now) c.requires.net.plain c.args.limits c.requires.total c.args.exploration.members.items c.args.exploration.points.items c.requires.explored

pub returns-clause-spellable : goal.returns-clause-spellable
returns-clause-spellable g c =
    let net = g.F.Firing.net c.args.net.now in
    let ms : List Member = c.args.exploration.members.items in
    let has = explored-lines net c.requires.net.plain c.args.limits c.requires.total ms c.args.exploration.points.items c.requires.explored in record {
      cycles = subst (λ (cs : List LinkCycle). All IsCycleText cs) (sym c.from_vec.ensures) c.in_ok-cycles.ensures.text;
      members = subst (λ (ls : List MemberLine). All (λ (l : MemberLine). AreShown l.shown) ls) (sym c.from_vec-2.ensures)
          (lines-shown net c.in_ok-cycles.field-0.cycles.items ms c.in_ok-cycles.field-0.lines.items has c.in_ok-cycles.ensures.lines);
      points = subst (λ (ps : List PointLine). All (λ (p : PointLine). All AreStarts p.schedule.starts) ps) (sym c.from_vec-3.ensures)
          (schedules-spelled c.in_ok-points.points.items (subst (λ (ss : List Periodic). All (λ (s : Periodic). All AreStarts s.starts) ss) (sym c.in_ok-points.ensures.schedules) c.requires.starts));
    }
