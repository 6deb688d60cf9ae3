-- Pairs that are reached and cover the members of a closed list are the Pareto points; and orders of fractions.
use Rattle.std.proofs.Common.{◌≡◌, ℕ, suc, ◌*◌, ◌≤◌, ◌<◌, ◌⊎◌, Option, None, Some, List, [], ◌∷◌, length, inl, inr, ⊎_elim, subst, refl, ap, ◌∙◌, arith, mul-le-mul_right}
use Rattle.std.specs.Prelude.{slice_index_or}
use Rattle.std.specs.Int.{IsGcd}
use Rattle.std.proofs.Math.Nat.{le_of_mul-le-mul_right}
use Rattle.std.proofs.lemmas.Bool.{cases_lt, cases_order}
use Rattle.sd_base.specs.Net.{Channel, Net, nowhere}
use Rattle.sd_base.specs.Lawful.{Lawful}
use Rattle.sd_base.proofs.LeastMultiplesDivide.{same_fraction}
use Rattle.storage.specs.Distributions.{IsDistribution, AtMost, storage_of}
use Rattle.storage.specs.ParetoPoints.{Rating, ReachesBy, Pair, IsReachedBy, Beats, IsParetoBy, no_pair, IsFrontBy, rating_of, Reaches, IsPareto, IsFront}
use Rattle.storage.specs.ClosedLists.{Entry, entry_at, HasEntry, IsClosedBy, IsCovered, IsFrontOverBy, IsClosed, IsFrontOver}
use Rattle.storage.proofs.StepsReachMembers.{HasSteps, storage-le}
use Rattle.storage.proofs.MembersCover.{covered-by, net-steps}

pub no_less : (a b c d e f : ℕ) → 1 ≤ d → a * d ≤ c * b → c * f ≤ e * d → a * f ≤ e * b
no_less a b c d e f some one other = let up : a * d * f ≤ c * b * f = mul-le-mul_right f one in let on : c * f * b ≤ e * d * b = mul-le-mul_right b other in let all : a * f * d ≤ e * b * d = omega arith in le_of_mul-le-mul_right all some

pub below_less : (a b c d e f : ℕ) → 1 ≤ b → a * d ≤ c * b → c * f < e * d → a * f < e * b
below_less a b c d e f some one other = ⊎_elim (λ (h : a * f < e * b). h) (λ (back : e * b ≤ a * f). absurd (let le : e * d ≤ c * f = no_less e f a b c d some back one in omega arith)) (cases_lt (a * f) (e * b))

pub less_on : (a b c d e f : ℕ) → 1 ≤ b → 1 ≤ d → 1 ≤ f → a * d < c * b → c * f ≤ e * d → a * f < e * b
less_on a b c d e f some_b some_d some_f one other = ⊎_elim (λ (h : a * f < e * b). h) (λ (back : e * b ≤ a * f). absurd (let le : c * b ≤ a * d = no_less c d e f a b some_f other back in omega arith)) (cases_lt (a * f) (e * b))

abbrev at : List Pair → ℕ → Pair
at pairs i = slice_index_or pairs i no_pair

pub record AreRising (pairs : List Pair) : Type 0 where
  pub storage : (i j : ℕ) → i < j → j < length pairs → (at pairs i).storage < (at pairs j).storage
  pub rate : (i j : ℕ) → i < j → j < length pairs → (at pairs i).num * (at pairs j).den < (at pairs j).num * (at pairs i).den

pub record IsBelow (pairs : List Pair) (p : Pair) : Type 0 where
  pub place : ℕ
  pub below : place < length pairs
  pub storage : (at pairs place).storage ≤ p.storage
  pub rate : p.num * (at pairs place).den ≤ (at pairs place).num * p.den

-- each rate is in lowest terms
abbrev pub AreLowest : Rating → Type 0
AreLowest rating = (ds : List (Option ℕ)) (p q : ℕ) → rating ds p q → (1 ≤ q) × IsGcd p q 1

module _ (cs : List Channel) (rating : Rating) (lowest : AreLowest rating) (limit : ℕ) (pairs : List Pair) (rising : AreRising pairs) (reached : (i : ℕ) → i < length pairs → IsReachedBy cs rating limit (at pairs i)) (all : (p : Pair) → IsReachedBy cs rating limit p → IsBelow pairs p) where
  den-some : (p : Pair) → IsReachedBy cs rating limit p → 1 ≤ p.den
  den-some p is = (lowest is.0 p.num p.den is.1.rate).0

  unbeaten : (i : ℕ) → i < length pairs → (other : Pair) → IsReachedBy cs rating limit other → Beats other (at pairs i) → ⊥
  unbeaten i below other there beats = by beats (all other there)
    where
      mine : 1 ≤ (at pairs i).den
      mine = den-some (at pairs i) (reached i below)

      its : 1 ≤ other.den
      its = den-some other there

      by : Beats other (at pairs i) → IsBelow pairs other → ⊥
      by (inl (less, no_worse)) low = let k : ℕ = low.place in let le : (at pairs i).num * (at pairs low.place).den ≤ (at pairs low.place).num * (at pairs i).den = no_less (at pairs i).num (at pairs i).den other.num other.den (at pairs low.place).num (at pairs low.place).den its no_worse low.rate in ⊎_elim (λ (same : low.place ≡ i). let eq : (at pairs low.place).storage ≡ (at pairs i).storage = ap (λ (n : ℕ). (at pairs n).storage) same in omega (arith, low.storage)) (λ (apart : (low.place < i) ⊎ (i < low.place)). ⊎_elim (λ (before : low.place < i). let rise = rising.rate low.place i before below in omega arith) (λ (after : i < low.place). let rise = rising.storage i low.place after low.below in omega (arith, low.storage)) apart) (cases_order low.place i)
      by (inr (equal, better)) low = let lt : (at pairs i).num * (at pairs low.place).den < (at pairs low.place).num * (at pairs i).den = less_on (at pairs i).num (at pairs i).den other.num other.den (at pairs low.place).num (at pairs low.place).den mine its (den-some (at pairs low.place) (reached low.place low.below)) better low.rate in ⊎_elim (λ (same : low.place ≡ i). let eq : (at pairs i).num * (at pairs i).den < (at pairs i).num * (at pairs i).den = subst (λ (n : ℕ). (at pairs i).num * (at pairs n).den < (at pairs n).num * (at pairs i).den) same lt in omega arith) (λ (apart : (low.place < i) ⊎ (i < low.place)). ⊎_elim (λ (before : low.place < i). let rise = rising.rate low.place i before below in omega arith)
          (λ (after : i < low.place). let rise = rising.storage i low.place after low.below in omega (arith, low.storage)) apart) (cases_order low.place i)

  listed : (p : Pair) → IsParetoBy cs rating limit p → (i : ℕ) × (i < length pairs) × (at pairs i ≡ p)
  listed p pareto = let low = all p pareto.reached in let it : IsReachedBy cs rating limit (at pairs low.place) = reached low.place low.below in let no_less_storage : p.storage ≤ (at pairs low.place).storage = ⊎_elim (λ (less : (at pairs low.place).storage < p.storage). absurd (pareto.best (at pairs low.place) it (inl (less, low.rate)))) (λ (h : p.storage ≤ (at pairs low.place).storage). h) (cases_lt (at pairs low.place).storage p.storage) in let storage : (at pairs low.place).storage ≡ p.storage = omega (arith, low.storage) in let no_more_rate : (at pairs low.place).num * p.den ≤ p.num * (at pairs low.place).den = ⊎_elim (λ (more : p.num * (at pairs low.place).den < (at pairs low.place).num * p.den). absurd (pareto.best (at pairs low.place) it (inr (storage, more))))
      (λ (h : (at pairs low.place).num * p.den ≤ p.num * (at pairs low.place).den). h) (cases_lt (p.num * (at pairs low.place).den) ((at pairs low.place).num * p.den)) in let cross : (at pairs low.place).num * p.den ≡ p.num * (at pairs low.place).den = omega (arith, low.rate) in let parts = same_fraction (at pairs low.place).num (at pairs low.place).den p.num p.den (den-some (at pairs low.place) it) (den-some p pareto.reached) (lowest it.0 (at pairs low.place).num (at pairs low.place).den it.1.rate).1 (lowest pareto.reached.0 p.num p.den pareto.reached.1.rate).1 cross in (low.place, low.below, equal (at pairs low.place) p storage parts.0 parts.1)
    where
      equal : (x y : Pair) → x.storage ≡ y.storage → x.num ≡ y.num → x.den ≡ y.den → x ≡ y
      equal x y a b c = let storages : ℕ → Pair = λ n. record { storage = n; num = x.num; den = x.den } in let nums : ℕ → Pair = λ n. record { storage = y.storage; num = n; den = x.den } in let dens : ℕ → Pair = λ n. record { storage = y.storage; num = y.num; den = n } in ap storages a ∙ (ap nums b ∙ ap dens c)

  pub front-from : IsFrontBy cs rating limit pairs
  front-from = record {
    rising = rising.storage;
    points = λ i below. record { reached = reached i below; best = λ other there beats. unbeaten i below other there beats };
    all = listed;
  }

pub positive-on : (p q x y : ℕ) → 1 ≤ p → 1 ≤ y → p * y ≤ x * q → 1 ≤ x
positive-on p q x y some there le = ⊎_elim (λ (none : x < 1). absurd (let zero_here : x ≡ 0 = omega arith in let nothing : x * q ≡ 0 * q = ap (λ (z : ℕ). z * q) zero_here in let scaled : 1 * y ≤ p * y = mul-le-mul_right y some in omega arith)) (λ (h : 1 ≤ x). h) (cases_lt x 1)

pub front-by : (cs : List Channel) (rating : Rating) (lowest : AreLowest rating) → HasSteps cs → (limit : ℕ) (es : List Entry) (pairs : List Pair) → IsClosedBy cs rating limit es → IsFrontOverBy cs rating limit es pairs → IsFrontBy cs rating limit pairs
front-by cs rating lowest steps limit es pairs closed over = front-from cs rating lowest limit pairs (record { storage = over.storage; rate = over.rate }) over.reached below
  where
    below : (p : Pair) → IsReachedBy cs rating limit p → IsBelow pairs p
    below p is = let cover : IsCovered es is.0 p.num p.den = covered-by cs rating steps limit es closed p.storage p.num p.den is.0 is.1 in let den : 1 ≤ (entry_at es cover.place).den = closed.positive cover.place cover.below in let runs : 1 ≤ (entry_at es cover.place).num = positive-on p.num p.den (entry_at es cover.place).num (entry_at es cover.place).den is.1.runs den cover.bounds in let found = over.covers cover.place cover.below runs in let storage : storage_of cs (entry_at es cover.place).capacities ≤ storage_of cs is.0 = storage-le cs (entry_at es cover.place).capacities is.0 cover.most in record {
      place = found.0;
      below = found.1;
      storage = omega (arith, found.2, is.1.total);
      rate = no_less p.num p.den (entry_at es cover.place).num (entry_at es cover.place).den (at pairs found.0).num (at pairs found.0).den den cover.bounds found.3;
    }

pub same-storage : (cs : List Channel) (ds es : List (Option ℕ)) → ((i : ℕ) → i < length cs → 1 ≤ (slice_index_or cs i nowhere).size) → IsDistribution cs ds → AtMost ds es → storage_of cs es ≤ storage_of cs ds → ds ≡ es
same-storage [] [] [] sizes dist most le = refl
same-storage [] [] es sizes dist most le = absurd most
same-storage [] ds es sizes dist most le = absurd dist
same-storage (c ∷ cs) [] [] sizes dist most le = refl
same-storage (c ∷ cs) (None ∷ ds) (None ∷ es) sizes dist most le = ap (λ (x : List (Option ℕ)). None ∷ x) (same-storage cs ds es (λ i below. sizes (suc i) (omega arith)) dist.2 most le)
same-storage (c ∷ cs) (Some a ∷ ds) (Some b ∷ es) sizes dist most le = let rest : storage_of cs ds ≤ storage_of cs es = storage-le cs ds es most.1 in let head : a * c.size ≤ b * c.size = mul-le-mul_right c.size most.0 in let some : 1 ≤ c.size = sizes 0 (omega arith) in let same : a ≡ b = equal (omega arith) in let tail : ds ≡ es = same-storage cs ds es (λ i below. sizes (suc i) (omega arith)) dist.3 most.1 (omega arith) in ap (λ (k : ℕ). Some k ∷ ds) same ∙ ap (λ (x : List (Option ℕ)). Some b ∷ x) tail
  where
    equal : b * c.size ≤ a * c.size → a ≡ b
    equal back = let down : b ≤ a = le_of_mul-le-mul_right back (sizes 0 (omega arith)) in omega (arith, most.0)
same-storage (c ∷ cs) ds es sizes dist most le = absurd most

-- the members with a bound above 0 have it as their rate
abbrev pub AreExactBy : Rating → List Entry → Type 0
AreExactBy rating es = (i : ℕ) → i < length es → 1 ≤ (entry_at es i).num → rating (entry_at es i).capacities (entry_at es i).num (entry_at es i).den

pub listed-by : (cs : List Channel) (rating : Rating) (lowest : AreLowest rating) → HasSteps cs → (limit : ℕ) (es : List Entry) → IsClosedBy cs rating limit es → AreExactBy rating es → (p : Pair) → IsParetoBy cs rating limit p → (ds : List (Option ℕ)) → ReachesBy cs rating limit p.storage p.num p.den ds → HasEntry es ds
listed-by cs rating lowest steps limit es closed exact p pareto ds reaches = let cover : IsCovered es ds p.num p.den = covered-by cs rating steps limit es closed p.storage p.num p.den ds reaches in let den : 1 ≤ (entry_at es cover.place).den = closed.positive cover.place cover.below in let runs : 1 ≤ (entry_at es cover.place).num = positive-on p.num p.den (entry_at es cover.place).num (entry_at es cover.place).den reaches.runs den cover.bounds in let mine : Pair = record { storage = storage_of cs (entry_at es cover.place).capacities; num = (entry_at es cover.place).num; den = (entry_at es cover.place).den } in let reached : IsReachedBy cs rating limit (record { storage = storage_of cs (entry_at es cover.place).capacities; num = (entry_at es cover.place).num; den = (entry_at es cover.place).den }) = (
  (entry_at es cover.place).capacities,
  record { distribution = closed.distributions cover.place cover.below; total = refl; within = closed.within cover.place cover.below; rate = exact cover.place cover.below runs; runs = runs },
) in let few : storage_of cs (entry_at es cover.place).capacities ≤ storage_of cs ds = storage-le cs (entry_at es cover.place).capacities ds cover.most in let full : storage_of cs ds ≤ storage_of cs (entry_at es cover.place).capacities = ⊎_elim (λ (less : storage_of cs (entry_at es cover.place).capacities < storage_of cs ds). absurd (pareto.best _ reached (inl (omega (arith, reaches.total), cover.bounds))))
    (λ (h : storage_of cs ds ≤ storage_of cs (entry_at es cover.place).capacities). h) (cases_lt (storage_of cs (entry_at es cover.place).capacities) (storage_of cs ds)) in (cover.place, cover.below, same-storage cs (entry_at es cover.place).capacities ds steps.size (closed.distributions cover.place cover.below) cover.most full)

-- so it is by the rates of a net

net-lowest : (net : Net) → AreLowest (rating_of net)
net-lowest net ds p q rate = (rate.positive, rate.lowest)

pub front-over : (net : Net) → Lawful net → (limit : ℕ) (es : List Entry) (pairs : List Pair) → IsClosed net limit es → IsFrontOver net limit es pairs → IsFront net limit pairs
front-over net laws limit es pairs closed over = front-by net.channels (rating_of net) (net-lowest net) (net-steps net laws) limit es pairs closed over

abbrev pub AreExact : Net → List Entry → Type 0
AreExact net es = AreExactBy (rating_of net) es

pub pareto-listed : (net : Net) → Lawful net → (limit : ℕ) (es : List Entry) → IsClosed net limit es → AreExact net es → (p : Pair) → IsPareto net limit p → (ds : List (Option ℕ)) → Reaches net limit p.storage p.num p.den ds → HasEntry es ds
pareto-listed net laws limit es closed exact p pareto ds reaches = listed-by net.channels (rating_of net) (net-lowest net) (net-steps net laws) limit es closed exact p pareto ds reaches
