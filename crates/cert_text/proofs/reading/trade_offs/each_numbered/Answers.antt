use Rattle.std.proofs.Common.{◌∙◌, ap, sym, subst, ◌-◌, ◌++◌, All, List, length}
use Rattle.std.specs.List.{flat_map}
use Rattle.std.proofs.lemmas.List.Elements.{All-nil}
use Rattle.sd_base.proofs.ElementsKeepPlaces.{many-more}
use Rattle.cert_text.specs.MemberLines.{member_lines}
use Rattle.cert_text.specs.Spellable.{AreShown}
use Rattle.cert_text.proofs.PiecesMakeTexts.{read-more, all-pushed}
use Rattle.cert_text.proofs.MembersNameInOrder.{none-used, used-pushed}
use Rattle.std.proofs.lemmas.Result.{err_from_is_err_and}
use Rattle.cert_text.specs.declared.certificates.MemberLine.{MemberLine}
use Rattle.cert_text.specs.Reads.{lines_of, handing}
use Rattle.cert_text.specs.Sections.{numbered_from, member_from}
use Rattle.cert_text.proofs.FoundCycles.{with_members, handing-start, handing-more, handing-fails, handing-ends}
use Rattle.cert_text.proofs.reading.trade_offs.each_numbered.Goals as goal

pub loop-place-init : goal.loop-place-init
loop-place-init c = record {
  within = c.requires;
  text = λ cycles. sym (ap (λ (l : List MemberLine). flat_map (member_lines 2 cycles) l ++ c.args.lines.now.rest.now) c.new-members.ensures.items);
  many = ap (λ (l : List MemberLine). length l) c.new-members.ensures.items;
  each = subst (λ (l : List MemberLine). All (λ (x : MemberLine). AreShown x.shown) l) (sym c.new-members.ensures.items) (All-nil (λ (x : MemberLine). AreShown x.shown));
  used = none-used c.args.used.now c.new-members.result.items c.new-members.ensures.items;
  exact = ap (λ (l : List MemberLine). with_members l (handing (member_from (numbered_from c.args.all)) (c.args.count - 0) c.args.used.now (lines_of c.args.lines.now.rest.now))) c.new-members.ensures.items ∙ handing-start (member_from (numbered_from c.args.all)) c.args.count c.args.used.now (lines_of c.args.lines.now.rest.now);
}

pub loop-place-preserved : goal.loop-place-preserved
loop-place-preserved c = record {
  within = c.in_ok-next.ensures.within;
  text = λ cycles. read-more (member_lines 2 cycles) _ _ _ _ _ _ (c.loop-place.invariant.text cycles) (c.in_ok-next.ensures.text.0 cycles) c.in_ok-push.ensures.items;
  many = many-more _ _ _ _ c.loop-place.invariant.many c.in_ok-push.ensures.items;
  each = all-pushed (λ (x : MemberLine). AreShown x.shown) _ _ _ c.loop-place.invariant.each c.in_ok-next.ensures.text.1 c.in_ok-push.ensures.items;
  used = used-pushed _ _ c.args.used.now _ _ _ c.loop-place.invariant.used c.in_ok-next.ensures.text.2 c.in_ok-push.ensures.items;
  exact = handing-more (member_from (numbered_from c.args.all)) _ _ c.args.count c.loop-place.place _ _ _ _ _ _ c.loop-place-test.true c.in_ok-next.ensures.exact c.in_ok-push.ensures.items c.loop-place.invariant.exact;
}

pub returns-in_err-next-clause-exact : goal.returns-in_err-next-clause-exact
returns-in_err-next-clause-exact c =
    let p = err_from_is_err_and c.from_residual.result c.from_residual.ensures.1 in
    rw (p.1, p.2) (handing-fails (member_from (numbered_from c.args.all)) _ c.args.count c.loop-place.place _ _ _ _ _ c.loop-place-test.true c.in_err-next.ensures.exact c.loop-place.invariant.exact)

pub returns-clause-exact : goal.returns-clause-exact
returns-clause-exact c = rw c.from_vec.ensures (handing-ends (member_from (numbered_from c.args.all)) _ c.args.count c.loop-place.place _ _ _ c.loop-place-test.false c.loop-place.invariant.exact)
