-- Lines stay right where more cycles are listed and more lines follow.
use Rattle.std.proofs.Common.{◌≡◌, ℕ, zero, suc, ◌<◌, Some, List, [], ◌∷◌, ◌++◌, All, length, get_or, inl, inr, sym, ap, subst, ◌∙◌, append-nil, arith}
use Rattle.std.specs.List.{AllZip}
use Rattle.std.proofs.lemmas.List.{length-append}
use Rattle.std.proofs.lemmas.List.Elements.{All-nil, All-append}
use Rattle.std.proofs.lemmas.Bool.Decides.{nat_tests}
use Rattle.sd_base.specs.Net.{Net}
use Rattle.sd_base.specs.declared.numbers.Fraction.{Fraction}
use Rattle.sd_base.proofs.ElementsKeepPlaces.{get-left}
use Rattle.periodic.specs.declared.schedule.Periodic.{Periodic}
use Rattle.storage.specs.BoundedNets.{bound}
use Rattle.explore.specs.declared.exploration.Member.{Member}
use Rattle.evaluations.specs.declared.shown.Shown.{Shown}
use Rattle.evaluations.specs.declared.shown.Shown.TheVariants as shown
use Rattle.cert_text.specs.declared.certificates.LinkCycle.{LinkCycle}
use Rattle.cert_text.specs.declared.certificates.MemberLine.{MemberLine}
use Rattle.cert_text.specs.declared.certificates.MemberShown.{MemberShown}
use Rattle.cert_text.specs.declared.certificates.MemberShown.TheVariants.{Cycle, Blocked}
use Rattle.cert_text.specs.declared.certificates.PointLine.{PointLine}
use Rattle.cert_text.specs.Orderly.{used_by}
use Rattle.cert_text.specs.Spellable.{AreShown, AreStarts, IsCycleText}
use Rattle.cert_maker.specs.StorageCertificates.{IsMemberLine, IsShownBy, schedules_of}
use Rattle.cert_maker.specs.inside.Lines.{HasLine, HasText, AddsCycles}
use Rattle.cert_maker.specs.inside.Listing.{IsEntered}

-- ---- cycles

shown-left : (net : Net) (cycles more : List LinkCycle) (r : Fraction) (s : Shown) (line : MemberShown) → IsShownBy net cycles r s line → IsShownBy net (cycles ++ more) r s line
shown-left net cycles more r (shown.Cycle cycle) (Cycle rate i) is = (is.0, get-left cycles more i _ is.1)
shown-left net cycles more r (shown.Cycle cycle) (Blocked counts) is = is
shown-left net cycles more r (shown.Blocked counts) (Cycle rate i) is = is
shown-left net cycles more r (shown.Blocked counts) (Blocked listed) is = is

line-left : (net : Net) (cycles more : List LinkCycle) (m : Member) (line : MemberLine) → IsMemberLine net cycles m line → IsMemberLine net (cycles ++ more) m line
line-left net cycles more m line is = record { capacities = is.capacities; shown = shown-left (bound net m.capacities.capacities) cycles more m.rate m.shown line.shown is.shown }

-- lines stay right where more cycles are listed
pub lines-left : (net : Net) (cycles more : List LinkCycle) (ms : List Member) (lines : List MemberLine) → AllZip (IsMemberLine net cycles) ms lines → AllZip (IsMemberLine net (cycles ++ more)) ms lines
lines-left net cycles more [] [] all = tt
lines-left net cycles more [] (l ∷ ls) all = all
lines-left net cycles more (m ∷ ms) [] all = all
lines-left net cycles more (m ∷ ms) (l ∷ ls) all = (line-left net cycles more m l all.0, lines-left net cycles more ms ls all.1)

-- a cycle that is entered makes its line the next
pub entered-next : (old new : List LinkCycle) (cycle : LinkCycle) (rate : ℕ × ℕ) (i : ℕ) → IsEntered old cycle i new → IsCycleText cycle → AddsCycles old new (Cycle rate i)
entered-next old new cycle rate i (inl known) text = record {
  used = (let less = known.0 in let many = ap length known.1 in grind (arith, nat_tests, less, many));
  more = [];
  begins = known.1 ∙ sym (append-nil old);
  text = All-nil IsCycleText;
}
entered-next old new cycle rate i (inr fresh) text = record {
  used = (let last = fresh.0 in let many = ap length fresh.1 ∙ length-append old (cycle ∷ []) in grind (arith, nat_tests, last, many));
  more = cycle ∷ [];
  begins = fresh.1;
  text = λ k d within. one k d within;
}
  where
    one : (k : ℕ) (d : LinkCycle) → k < length (cycle ∷ []) → IsCycleText (get_or (cycle ∷ []) k d)
    one zero d within = text
    one (suc k) d within = absurd (omega arith)

pub used-none : (lines : List MemberLine) (cycles : List LinkCycle) → lines ≡ [] → cycles ≡ [] → used_by 0 lines ≡ Some (length cycles)
unfolding used_by
used-none lines cycles none empty = ap (λ (ls : List MemberLine). used_by 0 ls) none ∙ ap (λ (cs : List LinkCycle). Some (length cs)) (sym empty)

pub text-push : (old new : List LinkCycle) (line : MemberShown) → AddsCycles old new line → All IsCycleText old → All IsCycleText new
text-push old new line next all = subst (λ (cs : List LinkCycle). All IsCycleText cs) (sym next.begins) (All-append IsCycleText old next.more all next.text)

pub lines-push : (net : Net) (old new : List LinkCycle) (s : MemberShown) → AddsCycles old new s → (ms : List Member) (lines : List MemberLine) → AllZip (IsMemberLine net old) ms lines → AllZip (IsMemberLine net new) ms lines
lines-push net old new s next ms lines all = subst (λ (cs : List LinkCycle). AllZip (IsMemberLine net cs) ms lines) (sym next.begins) (lines-left net old next.more ms lines all)

-- ---- texts

line-shown : (net : Net) (cycles : List LinkCycle) (r : Fraction) (s : Shown) (line : MemberShown) → HasText net s → IsShownBy net cycles r s line → AreShown line
line-shown net cycles r (shown.Cycle cycle) (Cycle rate i) text is = tt
line-shown net cycles r (shown.Cycle cycle) (Blocked counts) text is = absurd is
line-shown net cycles r (shown.Blocked counts) (Cycle rate i) text is = absurd is
line-shown net cycles r (shown.Blocked counts) (Blocked listed) text is = subst (λ (ns : List ℕ). 0 < length ns) (sym is) text

-- each line of a member has a text
pub lines-shown : (net : Net) (cycles : List LinkCycle) (ms : List Member) (lines : List MemberLine) → All (HasLine net) ms → AllZip (IsMemberLine net cycles) ms lines → All (λ (l : MemberLine). AreShown l.shown) lines
lines-shown net cycles [] [] has all k d below = absurd (omega arith)
lines-shown net cycles [] (l ∷ ls) has all k d below = absurd all
lines-shown net cycles (m ∷ ms) [] has all k d below = absurd all
lines-shown net cycles (m ∷ ms) (l ∷ ls) has all zero d below = line-shown (bound net m.capacities.capacities) cycles m.rate m.shown l.shown (has 0 m (omega arith)).shown all.0.shown
lines-shown net cycles (m ∷ ms) (l ∷ ls) has all (suc k) d below = lines-shown net cycles ms ls (λ j e within. has (suc j) e (omega arith)) all.1 k d (omega arith)

-- so has each schedule of a point
pub schedules-spelled : (lines : List PointLine) → All (λ (s : Periodic). All AreStarts s.starts) (schedules_of lines) → All (λ (p : PointLine). All AreStarts p.schedule.starts) lines
schedules-spelled [] all k d below = absurd (omega arith)
schedules-spelled (l ∷ ls) all zero d below = all 0 l.schedule (omega arith)
schedules-spelled (l ∷ ls) all (suc k) d below = schedules-spelled ls (λ j e within. all (suc j) e (omega arith)) k d (omega arith)
