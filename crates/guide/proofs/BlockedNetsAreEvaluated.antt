-- The counts that block a bounded net are what is promised of its distribution.
use Rattle.std.proofs.Common.{◌≡◌, ℕ, ◌*◌, Option, List, subst, sym, refl, ap, arith}
use Rattle.std.specs.Prelude.{◌↔◌, Contains, slice_index}
use Rattle.std.specs.Int.{IsGcd}
use Rattle.std.proofs.lemmas.Nat.Gcd.{IsGcd-from_zero, IsGcd-swap, same_from_IsGcd}
use Rattle.sd_base.specs.declared.numbers.Fraction.{Fraction}
use Rattle.sd_base.specs.Net.{Net}
use Rattle.sd_base.specs.Lawful.{Lawful}
use Rattle.sd_base.specs.Untimed.{Blocks}
use Rattle.sd_base.specs.Rates.{Rate}
use Rattle.sd_base.proofs.LawfulIsRegular.{timed, wired, balanced}
use Rattle.sd_base.specs.Untimed.{IsBlockedBy}
use Rattle.critical.specs.Spaces.{IsRising}
use Rattle.critical.proofs.ListedSpacesRise.{number-place}
use Rattle.storage.specs.Distributions.{capacity_at}
use Rattle.storage.specs.BoundedNets.{bound}
use Rattle.storage.specs.ShownSpaces.{ShowsSpace}
use Rattle.storage.proofs.BlockingStays.{blocks-still}
use Rattle.storage.proofs.BlockingForcesZero.{blocked-zero}
use Rattle.storage.proofs.BoundingKeepsLaws.{bound-lawful}
use Rattle.storage.proofs.SpacesJoinEnds.{bound-strong}
use Rattle.storage.proofs.BlockedRates.{blocked-rate}
use Rattle.guide.specs.declared.rating.Outcome.TheVariants.{Blocked}
use Rattle.guide.specs.Evaluations.{IsEvaluable, IsEvaluated, Bounds}

module _ (net : Net) (laws : Lawful net) (ds : List (Option ℕ)) (states : ℕ) (counts : List ℕ) (lacks : List (Option ℕ)) (rate : Fraction) (enlarge : List ℕ) (fits : IsEvaluable net ds) (is : IsBlockedBy (bound net ds) counts lacks) (none : rate.num ≡ 0) (rising : IsRising enlarge) (shows : (c : ℕ) → Contains enlarge c ↔ ShowsSpace net ds (slice_index counts) c) where
  one : rate.den ≡ 1
  one = same_from_IsGcd 0 rate.den rate.den 1 (IsGcd-swap rate.den 0 rate.den (IsGcd-from_zero rate.den 0 refl)) (subst (λ (x : ℕ). IsGcd x rate.den 1) none rate.lowest)

  bounds : Bounds net ds rate enlarge
  bounds es p q most agrees laws' other =
      let same : (c : ℕ) → ShowsSpace net ds (slice_index counts) c → capacity_at es c ≡ capacity_at ds c = λ c show. let at = number-place enlarge c ((shows c).1 show) in subst (λ (x : ℕ). capacity_at es x ≡ capacity_at ds x) at.2 (sym (agrees at.0 at.1)) in
      let blocks : Blocks (bound net es) (slice_index counts) = blocks-still net ds es (slice_index counts) same is.blocks in
      let zero : p ≡ 0 = blocked-zero (bound net es) (timed (bound net es) laws') (wired (bound net es) laws') (balanced (bound net es) laws') (slice_index counts) blocks p q other in
      let product : p * rate.den ≡ 0 * rate.den = ap (λ (x : ℕ). x * rate.den) zero in
      omega arith

  pub blocked-evaluated : IsEvaluated net ds states (record { rate = rate; enlarge = enlarge; outcome = Blocked counts lacks })
  blocked-evaluated =
      let held : Lawful (bound net ds) = bound-lawful net laws ds fits.none fits.can fits.few in
      let here : Rate (bound net ds) 0 1 = blocked-rate (bound net ds) held fits.inputs (bound-strong net ds fits.distribution fits.connected) (slice_index counts) is.blocks in
      record {
        rate = subst (λ (x : ℕ). Rate (bound net ds) x rate.den) (sym none) (subst (λ (x : ℕ). Rate (bound net ds) 0 x) (sym one) here);
        outcome = record { blocked = is; zero = none; rising = rising; channels = shows };
        bounds = bounds;
      }
