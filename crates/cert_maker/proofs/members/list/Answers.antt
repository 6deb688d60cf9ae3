use Rattle.std.proofs.Common.{◌≡◌, [], ◌∷◌, ◌++◌, List, Some, All, length, subst, sym}
use Rattle.std.specs.List.{AllZip}
use Rattle.std.proofs.lemmas.List.Elements.{All-nil}
use Rattle.std.proofs.lemmas.Slice.Zip.{all_zipped_more}
use Rattle.explore.specs.declared.exploration.Member.{Member}
use Rattle.cert_text.specs.declared.certificates.LinkCycle.{LinkCycle}
use Rattle.cert_text.specs.declared.certificates.MemberLine.{MemberLine}
use Rattle.cert_text.specs.Orderly.{used_by}
use Rattle.cert_text.specs.Spellable.{IsCycleText}
use Rattle.cert_text.proofs.MembersNameInOrder.{used-end}
use Rattle.cert_maker.specs.StorageCertificates.{IsMemberLine}
use Rattle.cert_maker.proofs.LinesStayRight.{lines-push, text-push, used-none}
use Rattle.cert_maker.proofs.members.list.Goals as goal

pub loop-member-init : goal.loop-member-init
loop-member-init g c = record {
  lines = subst (λ (ls : List MemberLine). AllZip (IsMemberLine (g.F.Firing.net c.args.net.now) c.new-cycles.result) [] ls) (sym c.new-lines.ensures.items) tt;
  used = used-none c.new-lines.result.items c.new-cycles.result c.new-lines.ensures.items c.new-cycles.ensures;
  text = subst (λ (cs : List LinkCycle). All IsCycleText cs) (sym c.new-cycles.ensures) (All-nil IsCycleText);
}

pub loop-member-preserved : goal.loop-member-preserved
loop-member-preserved g c =
    let net = g.F.Firing.net c.args.net.now in
    let line : MemberLine = c.in_ok-line_of.field-0 in
    let lines : List MemberLine = c.loop-member.lines.items in
    let done : List Member = c.loop-member.yielded in
    let next = c.in_ok-line_of.ensures.next in record {
      lines = subst (λ (ls : List MemberLine). AllZip (IsMemberLine net c.line_of.new.cycles) (done ++ c.in-Some.member ∷ []) ls) (sym c.in_ok-push.ensures.items)
          (all_zipped_more (IsMemberLine net c.line_of.new.cycles) done lines c.in-Some.member line
          (lines-push net c.loop-member.cycles c.line_of.new.cycles line.shown next done lines c.loop-member.invariant.lines) c.in_ok-line_of.ensures.line);
      used = subst (λ (ls : List MemberLine). used_by 0 ls ≡ Some (length c.line_of.new.cycles)) (sym c.in_ok-push.ensures.items)
          (used-end lines line 0 (length c.loop-member.cycles) (length c.line_of.new.cycles) c.loop-member.invariant.used next.used);
      text = text-push c.loop-member.cycles c.line_of.new.cycles line.shown next c.loop-member.invariant.text;
    }

pub returns-clause-text : goal.returns-clause-text
returns-clause-text g c = subst (λ (cs : List LinkCycle). All IsCycleText cs) (sym c.in_ok-cycles.ensures.same) c.loop-member.invariant.text
