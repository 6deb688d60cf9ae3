use Rattle.std.proofs.Common.{◌≡◌, ◌<◌, ◌+◌, ℕ, Bool, List, Vec, Global, length, subst, sym, true≢false, ◌∙◌, ap, arith}
use Rattle.std.proofs.Math.ListN.{replicate}
use Rattle.std.specs.Prelude.{false}
use Rattle.cert_text.specs.declared.certificates.MemberLine.{MemberLine}
use Rattle.cert_checker.specs.ShownChannels.{IsWithin, member_at, no_member}
use Rattle.cert_checker.proofs.AnswersJudgeLines.{item-of}
use Rattle.cert_checker.proofs.ChildMarks.{AreFirst, AreMarked, first-more, first-none, first-same}
use Rattle.cert_checker.proofs.children.children_of.Goals as goal
use Rattle.cert_checker.proofs.children.children_of.Goals.{then-is_within+in_ok-mark_children, else-is_within}

pub loop-member-init : goal.loop-member-init
loop-member-init g c =
    first-none (g.F.Firing.net c.args.net.now) c.args.certificate.now c.args.members.now c.in_ok-marks.marks.items (c.in_ok-marks.ensures.items_if_clones_equal (λ y clone. clone) ∙ ap (λ (n : ℕ). replicate n false) c.len.ensures)

pub loop-member-preserved : goal.loop-member-preserved
loop-member-preserved g c =
    let net = g.F.Firing.net c.args.net.now in
    let cert = c.args.certificate.now in
    let n = c.loop-member.member-index in
    let below : n < length cert.members = subst (λ (ms : List MemberLine). n < length ms) c.as_slice-member-items.ensures c.loop-member-test.true in
    let m : c.member-item.result ≡ member_at cert.members n = item-of c.as_slice-member-items.result.now cert.members n c.member-item.result no_member c.as_slice-member-items.ensures below c.member-item.is in
    let P : Vec Bool Global → Type 0 = λ v. AreFirst net cert c.args.members.now (n + 1) v.items in
    elim c.if-is_within.branch [
      | then-is_within+in_ok-mark_children w ↦
          let marked : AreMarked net cert c.args.members.now c.member-item.result c.loop-member.marks.items (length net.channels) w.mark_children.new.marks.items = (w.mark_children.ensures.size, w.in_ok-mark_children.ensures.marked) in
          subst P (sym w.marks-is) (first-more net cert c.args.members.now n c.loop-member.marks.items w.mark_children.new.marks.items c.loop-member.invariant
          (subst (λ (x : MemberLine). AreMarked net cert c.args.members.now x c.loop-member.marks.items (length net.channels) w.mark_children.new.marks.items) m marked))
      | else-is_within w ↦
          subst P (sym w.marks-is) (first-same net cert c.args.members.now n c.loop-member.marks.items
          (λ ds child. true≢false (sym (c.is_within.ensures.1 (subst (λ (x : MemberLine). IsWithin net cert.limit x.capacities.capacities) (sym m) child.shows.within)) ∙ w.if-is_within.false))
          c.loop-member.invariant)
    ]

pub returns : goal.returns
returns g c =
    let net = g.F.Firing.net c.args.net.now in
    let long : length c.as_slice-member-items.result.now ≡ length c.args.certificate.now.members = ap (λ (ms : List MemberLine). length ms) c.as_slice-member-items.ensures in
    let e : c.loop-member.member-index ≡ length c.args.certificate.now.members = omega (arith, c.loop-member-test.false, c.loop-member.auto.member-index-end, long) in
    let all = subst (λ (n : ℕ). AreFirst net c.args.certificate.now c.args.members.now n c.loop-member.marks.items) e c.loop-member.invariant in
    record { size = all.0; exact = all.1 }
