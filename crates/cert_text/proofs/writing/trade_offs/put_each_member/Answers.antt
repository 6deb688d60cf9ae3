use Rattle.std.proofs.Common.{◌≡◌, ◌+◌, ◌++◌, take}
use Rattle.std.specs.List.{flat_map}
use Rattle.std.specs.String.{string_bytes}
use Rattle.std.proofs.lemmas.Result.{err_from_is_err_and}
use Rattle.sd_base.proofs.ElementsKeepPlaces.{flat_end}
use Rattle.cert_text.proofs.GivenUp.{up-at, up-in}
use Rattle.cert_text.specs.MemberLines.{member_lines}
use Rattle.cert_text.proofs.PiecesMakeTexts.{all-end, all-item, flat-item}
use Rattle.cert_text.proofs.writing.trade_offs.put_each_member.Goals as goal
use Rattle.cert_text.specs.Limits.{IsMemberWithin, NamesWithin}
use Rattle.cert_text.specs.declared.certificates.MemberLine.{MemberLine}

pub returns-clause-text : goal.returns-clause-text
returns-clause-text c = flat_end (member_lines c.args.version c.args.cycles.now) _ _ c.args.members.now c.loop-member.member-index c.loop-member-test.false c.loop-member.invariant.text

pub returns-clause-within : goal.returns-clause-within
returns-clause-within c = all-end IsMemberWithin c.args.members.now c.loop-member.member-index c.loop-member-test.false c.loop-member.invariant.within

pub returns-clause-named : goal.returns-clause-named
returns-clause-named c = λ first. all-end (λ (m : MemberLine). NamesWithin c.args.cycles.now m.shown) c.args.members.now c.loop-member.member-index c.loop-member-test.false (c.loop-member.invariant.named first)

pub loop-member-preserved : goal.loop-member-preserved
loop-member-preserved c = record {
  text = flat-item (member_lines c.args.version c.args.cycles.now) _ _ _ c.args.members.now c.loop-member.member-index c.member-item.result c.loop-member-test.true c.member-item.is c.loop-member.invariant.text c.in_ok-put_member.ensures.text;
  within = all-item IsMemberWithin c.args.members.now c.loop-member.member-index c.member-item.result c.loop-member-test.true c.member-item.is c.loop-member.invariant.within c.in_ok-put_member.ensures.within;
  named = λ first. all-item (λ (m : MemberLine). NamesWithin c.args.cycles.now m.shown) c.args.members.now c.loop-member.member-index c.member-item.result c.loop-member-test.true c.member-item.is (c.loop-member.invariant.named first) (c.in_ok-put_member.ensures.named first);
}

pub returns-in_err-keep_within-clause-long : goal.returns-in_err-keep_within-clause-long
returns-in_err-keep_within-clause-long c =
    let p = err_from_is_err_and c.from_residual-in_err-keep_within.result c.from_residual-in_err-keep_within.ensures.1 in
    let put : string_bytes c.put_member.new.text ≡ string_bytes c.args.text.now ++ flat_map (member_lines c.args.version c.args.cycles.now) (take (c.loop-member.member-index + 1) c.args.members.now) = flat-item (member_lines c.args.version c.args.cycles.now) _ _ _ c.args.members.now c.loop-member.member-index c.member-item.result c.loop-member-test.true c.member-item.is c.loop-member.invariant.text c.in_ok-put_member.ensures.text in
    rw (p.1, p.2) (up-at (member_lines c.args.version c.args.cycles.now) (string_bytes c.args.text.now) (string_bytes c.put_member.new.text) c.args.members.now (c.loop-member.member-index + 1) c.in_err-keep_within.field-0.0 put c.in_err-keep_within.ensures.long)

pub returns-in_err-put_member-clause-long : goal.returns-in_err-put_member-clause-long
returns-in_err-put_member-clause-long c =
    let p = err_from_is_err_and c.from_residual.result c.from_residual.ensures.1 in
    rw (p.1, p.2) (up-in (member_lines c.args.version c.args.cycles.now) (string_bytes c.args.text.now) (string_bytes c.loop-member.text) c.args.members.now c.loop-member.member-index c.member-item.result c.in_err-put_member.field-0.0 c.loop-member-test.true c.member-item.is c.loop-member.invariant.text c.in_err-put_member.ensures.long)
