use Rattle.std.proofs.Common.{◌≡◌, ◌⊎◌, false, Option, List, ℕ, inl, inr, ap, sym, subst, ◌∙◌, true≢false}
use Rattle.std.specs.Bool.{IsTrue}
use Rattle.std.specs.Ordering.{MatchOrdering}
use Rattle.std.specs.declared.cmp.Ordering.{Ordering}
use Rattle.std.specs.declared.cmp.Ordering.TheVariants.{Less, Greater}
use Rattle.storage.specs.CapacityOrder.{no_later}
use Rattle.storage.proofs.CapacityOrder.{no_later-refl}
use Rattle.cert_maker.proofs.points.has.Goals as goal

-- capacities of which one comes first differ
first-differs : (ds es : List (Option ℕ)) → no_later es ds ≡ false → ds ≡ es → ⊥
first-differs ds es later same = true≢false (sym (no_later-refl es) ∙ ap (no_later es) (sym same) ∙ later)

differs : (r : Ordering) (ds es : List (Option ℕ)) → MatchOrdering r (no_later es ds ≡ false) (ds ≡ es) (no_later ds es ≡ false) → (r ≡ Less) ⊎ (r ≡ Greater) → (IsTrue false → ds ≡ es) × (ds ≡ es → IsTrue false)
differs r ds es is (inl less) = (
  λ no. absurd (true≢false (sym no)),
  λ same. absurd (first-differs ds es (subst (λ (x : Ordering). MatchOrdering x (no_later es ds ≡ false) (ds ≡ es) (no_later ds es ≡ false)) less is) same),
)
differs r ds es is (inr greater) = (
  λ no. absurd (true≢false (sym no)),
  λ same. absurd (first-differs es ds (subst (λ (x : Ordering). MatchOrdering x (no_later es ds ≡ false) (ds ≡ es) (no_later ds es ≡ false)) greater is) (sym same)),
)

pub returns-in-Less : goal.returns-in-Less
returns-in-Less c = differs c.order.result c.args.member.now.capacities.capacities c.args.capacities.now.capacities c.order.ensures c.in-Less.is
