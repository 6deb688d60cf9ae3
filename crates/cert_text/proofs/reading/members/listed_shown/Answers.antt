use Rattle.std.proofs.Common.{ℕ, subst, sym}
use Rattle.cert_text.specs.declared.certificates.MemberShown.TheVariants.{Cycle}
use Rattle.cert_text.specs.Found.{IsListed}
use Rattle.cert_text.proofs.ListedCycles.{listed-cycle, listed-text}
use Rattle.cert_text.proofs.reading.members.listed_shown.Goals as goal

pub returns-clause-text : goal.returns-clause-text
returns-clause-text c =
    let found = c.in_ok-cycle.ensures.exact in
    let old = c.args.cycles.now.list.items in
    let new = c.cycle_number.new.cycles.list.items in (
      (λ later. listed-text old new found.0 found.4 later _ _ _ _ _ _ c.in_ok-line.ensures.text.0 c.in_ok-rate.ensures.text found.5 found.2),
      subst (λ (n : ℕ). IsListed old new (Cycle c.in_ok-rate.rate n)) (sym found.2) (listed-cycle old new found.0 found.4 c.in_ok-rate.rate found.6),
    )
