use Rattle.std.proofs.Common.{◌≡◌, ◌∙◌, ap, sym, subst, ◌-◌, ◌++◌, [], All, List, Some, length, arith}
use Rattle.std.specs.List.{flat_map}
use Rattle.std.proofs.lemmas.List.{append-nil}
use Rattle.std.proofs.lemmas.List.Elements.{All-nil}
use Rattle.std.proofs.lemmas.Result.{err_from_is_err_and}
use Rattle.sd_base.proofs.ElementsKeepPlaces.{many-more}
use Rattle.cert_text.specs.declared.certificates.LinkCycle.{LinkCycle}
use Rattle.cert_text.specs.declared.certificates.MemberLine.{MemberLine}
use Rattle.cert_text.specs.MemberLines.{member_lines}
use Rattle.cert_text.specs.Orderly.{Differ}
use Rattle.cert_text.specs.Reads.{lines_of, handing}
use Rattle.cert_text.specs.Sections.{listed_from, member_from}
use Rattle.cert_text.specs.Spellable.{AreShown, IsCycleText}
use Rattle.cert_text.proofs.FoundCycles.{with_members, handing-start, handing-more, handing-fails, handing-ends}
use Rattle.cert_text.proofs.ListedCycles.{text-grown}
use Rattle.cert_text.proofs.PiecesMakeTexts.{read-more, all-pushed}
use Rattle.cert_text.proofs.MembersNameInOrder.{none-used, used-pushed}
use Rattle.cert_text.proofs.reading.trade_offs.each_listed.Goals as goal

pub loop-place-init : goal.loop-place-init
loop-place-init c =
    let cycles = c.args.cycles.now.list.items in record {
      texts = c.requires.texts;
      text = λ later. sym (ap (λ (l : List MemberLine). flat_map (member_lines 1 (cycles ++ later)) l ++ c.args.lines.now.rest.now) c.new-members.ensures.items);
      many = ap (λ (l : List MemberLine). length l) c.new-members.ensures.items;
      each = subst (λ (l : List MemberLine). All (λ (x : MemberLine). AreShown x.shown) l) (sym c.new-members.ensures.items) (All-nil (λ (x : MemberLine). AreShown x.shown));
      spelled = subst (λ (l : List LinkCycle). All IsCycleText l) (sym c.requires.none) (All-nil IsCycleText);
      differ = subst Differ (sym c.requires.none) (λ i j less within. absurd (omega (arith, within)));
      used = none-used 0 c.new-members.result.items c.new-members.ensures.items ∙ ap (λ (l : List LinkCycle). Some (length l)) (sym c.requires.none);
      exact = ap (λ (l : List MemberLine). with_members l (handing (member_from listed_from) (c.args.count - 0) cycles (lines_of c.args.lines.now.rest.now))) c.new-members.ensures.items ∙ handing-start (member_from listed_from) c.args.count cycles (lines_of c.args.lines.now.rest.now);
    }

pub loop-place-preserved : goal.loop-place-preserved
loop-place-preserved c =
    let listed = c.in_ok-next.ensures.text.1 in record {
      texts = c.in_ok-next.ensures.texts;
      text = λ later. read-more _ _ _ _ _ _ _ (text-grown _ c.loop-place.lines.rest.now c.loop-place.cycles.list.items _ listed.more later c.loop-place.members.items listed.grown c.loop-place.invariant.text) (c.in_ok-next.ensures.text.0 later) c.in_ok-push.ensures.items;
      many = many-more _ _ _ _ c.loop-place.invariant.many c.in_ok-push.ensures.items;
      each = all-pushed (λ (x : MemberLine). AreShown x.shown) _ _ _ c.loop-place.invariant.each listed.shown c.in_ok-push.ensures.items;
      spelled = listed.texts c.loop-place.invariant.spelled;
      differ = listed.differ c.loop-place.invariant.differ;
      used = used-pushed _ _ 0 _ _ _ c.loop-place.invariant.used listed.used c.in_ok-push.ensures.items;
      exact = handing-more (member_from listed_from) _ _ c.args.count c.loop-place.place _ _ _ _ _ _ c.loop-place-test.true c.in_ok-next.ensures.exact c.in_ok-push.ensures.items c.loop-place.invariant.exact;
    }

pub returns-in_err-next-clause-exact : goal.returns-in_err-next-clause-exact
returns-in_err-next-clause-exact c =
    let p = err_from_is_err_and c.from_residual.result c.from_residual.ensures.1 in
    rw (p.1, p.2) (handing-fails (member_from listed_from) _ c.args.count c.loop-place.place _ _ _ _ _ c.loop-place-test.true c.in_err-next.ensures.exact c.loop-place.invariant.exact)

pub returns-clause-exact : goal.returns-clause-exact
returns-clause-exact c = rw c.from_vec.ensures (handing-ends (member_from listed_from) _ c.args.count c.loop-place.place _ _ _ c.loop-place-test.false c.loop-place.invariant.exact)

pub returns-clause-many : goal.returns-clause-many
returns-clause-many c = rw c.from_vec.ensures (c.loop-place.invariant.many ∙ omega (arith, c.loop-place-test.false, c.loop-place.auto.place-end))

pub returns-clause-text : goal.returns-clause-text
returns-clause-text c = rw c.from_vec.ensures (record {
  spelled = subst (λ (cs : List LinkCycle). c.args.lines.now.rest.now ≡ flat_map (member_lines 1 cs) c.loop-place.members.items ++ c.loop-place.lines.rest.now) (append-nil c.loop-place.cycles.list.items) (c.loop-place.invariant.text []);
  texts = c.loop-place.invariant.spelled;
  differ = c.loop-place.invariant.differ;
  shown = c.loop-place.invariant.each;
  used = c.loop-place.invariant.used;
})
