-- Above each reached pair of storage and rate is one that none of a list beats.
use Rattle.std.proofs.Common.{◌≡◌, ℕ, ◌*◌, ◌≤◌, ◌<◌, ◌⊎◌, List, [], ◌∷◌, inl, inr, ⊎_elim, subst, arith}
use Rattle.std.proofs.lemmas.Bool.{cases_lt, cases_order}
use Rattle.std.specs.Prelude.{Contains}
use Rattle.sd_base.specs.Net.{Net}
use Rattle.storage.specs.ParetoPoints.{Beats, IsReachedPair, Pair}
use Rattle.storage.proofs.FrontsFromMembers.{less_on, no_less, below_less}
use Rattle.sd_base.proofs.ContainedHavePlaces.{contains-here, contains-later, contains-none, contains-cases}

-- no more storage and no less rate
pub record NoWorse (a b : Pair) : Type 0 where
  pub storage : a.storage ≤ b.storage
  pub rate : b.num * a.den ≤ a.num * b.den

-- what beats a pair beats each that is no better
beats-over : (x top cur : Pair) → 1 ≤ top.den → 1 ≤ cur.den → NoWorse top cur → Beats x top → Beats x cur
beats-over x top cur some there over (inl (less, rate)) =
    let storage = over.storage in
    let up : cur.num * x.den ≤ x.num * cur.den = no_less cur.num cur.den top.num top.den x.num x.den some over.rate rate in
    inl (omega (arith, storage, less), up)
beats-over x top cur some there over (inr (same, more)) =
    let storage = over.storage in
    let up : cur.num * x.den < x.num * cur.den = below_less cur.num cur.den top.num top.den x.num x.den there over.rate more in
    ⊎_elim
    (λ (less : x.storage < cur.storage). inl (less, let few : cur.num * x.den ≤ x.num * cur.den = omega (arith, up) in few))
    (λ (past : cur.storage ≤ x.storage). inr (omega (arith, same, storage, past), up))
    (cases_lt x.storage cur.storage)

-- what is no worse than a pair that beats another beats it too
pub beats-under : (x o top : Pair) → 1 ≤ x.den → 1 ≤ o.den → 1 ≤ top.den → NoWorse x o → Beats o top → Beats x top
beats-under x o top mine some there under (inl (less, rate)) =
    let storage = under.storage in
    let up : top.num * x.den ≤ x.num * top.den = no_less top.num top.den o.num o.den x.num x.den some rate under.rate in
    inl (omega (arith, storage, less), up)
beats-under x o top mine some there under (inr (same, more)) =
    let storage = under.storage in
    let up : top.num * x.den < x.num * top.den = less_on top.num top.den o.num o.den x.num x.den there some mine more under.rate in
    ⊎_elim
    (λ (less : x.storage < top.storage). inl (less, let few : top.num * x.den ≤ x.num * top.den = omega (arith, up) in few))
    (λ (past : top.storage ≤ x.storage). inr (omega (arith, same, storage, past), up))
    (cases_lt x.storage top.storage)

beats-worse : (a b : Pair) → Beats a b → NoWorse a b
beats-worse a b (inl (less, rate)) = record { storage = omega (arith, less); rate = rate }
beats-worse a b (inr (same, more)) = record { storage = omega (arith, same); rate = omega (arith, more) }

worse-trans : (a b c : Pair) → 1 ≤ b.den → NoWorse a b → NoWorse b c → NoWorse a c
worse-trans a b c some one other =
    let up = one.storage in
    let on = other.storage in
    record { storage = omega (arith, up, on); rate = no_less c.num c.den b.num b.den a.num a.den some other.rate one.rate }

not-both : (a b : Pair) → NoWorse a b → Beats b a → ⊥
not-both a b over (inl (less, rate)) = let storage = over.storage in omega (arith, storage, less)
not-both a b over (inr (same, more)) = let rate = over.rate in omega (arith, rate, more)

beats-test : (a b : Pair) → Beats a b ⊎ (Beats a b → ⊥)
beats-test a b = ⊎_elim
    (λ (same : a.storage ≡ b.storage). ⊎_elim
    (λ (more : b.num * a.den < a.num * b.den). inl (inr (same, more)))
    (λ (back : a.num * b.den ≤ b.num * a.den). inr (λ beats. level same back beats))
    (cases_lt (b.num * a.den) (a.num * b.den)))
    (λ (apart : (a.storage < b.storage) ⊎ (b.storage < a.storage)). ⊎_elim
    (λ (less : a.storage < b.storage). ⊎_elim
    (λ (slower : a.num * b.den < b.num * a.den). inr (λ beats. later slower beats))
    (λ (rate : b.num * a.den ≤ a.num * b.den). inl (inl (less, rate)))
    (cases_lt (a.num * b.den) (b.num * a.den)))
    (λ (more : b.storage < a.storage). inr (λ beats. higher more beats))
    apart)
    (cases_order a.storage b.storage)
  where
    level : a.storage ≡ b.storage → a.num * b.den ≤ b.num * a.den → Beats a b → ⊥
    level same back (inl (less, rate)) = omega (arith, same, less)
    level same back (inr (equal, more)) = omega (arith, back, more)

    later : a.num * b.den < b.num * a.den → Beats a b → ⊥
    later slower (inl (less, rate)) = omega (arith, slower, rate)
    later slower (inr (equal, more)) = omega (arith, slower, more)

    higher : b.storage < a.storage → Beats a b → ⊥
    higher more (inl (less, rate)) = omega (arith, more, less)
    higher more (inr (equal, rate)) = omega (arith, more, equal)

-- a reached pair, no worse than the one below it, that none of the list with a rate beats
pub record IsSummit (net : Net) (limit : ℕ) (xs : List Pair) (below : Pair) : Type 0 where
  pub top : Pair
  pub reached : IsReachedPair net limit top
  pub over : NoWorse top below
  pub best : (x : Pair) → Contains xs x → 1 ≤ x.num → Beats x top → ⊥

-- one more pair of the list
module _ (net : Net) (limit : ℕ) (x : Pair) (xs : List Pair) (reach : 1 ≤ x.num → IsReachedPair net limit x) (climb-rest : (cur : Pair) → IsReachedPair net limit cur → IsSummit net limit xs cur) (cur : Pair) (is : IsReachedPair net limit cur) where
  stay : (1 ≤ x.num → Beats x cur → ⊥) → IsSummit net limit (x ∷ xs) cur
  stay not =
      let s = climb-rest cur is in
      record {
        top = s.top;
        reached = s.reached;
        over = s.over;
        best = λ y one some beats. ⊎_elim
            (λ (same : x ≡ y). subst (λ (z : Pair). 1 ≤ z.num → Beats z s.top → ⊥) same (λ runs better. not runs (beats-over x s.top cur s.reached.1.rate.positive is.1.rate.positive s.over better)) some beats)
            (λ (later : Contains xs y). s.best y later some beats)
            (contains-cases x xs y one);
      }

  rise : 1 ≤ x.num → Beats x cur → IsSummit net limit (x ∷ xs) cur
  rise some beats =
      let s = climb-rest x (reach some) in
      record {
        top = s.top;
        reached = s.reached;
        over = worse-trans s.top x cur (reach some).1.rate.positive s.over (beats-worse x cur beats);
        best = λ y one runs better. ⊎_elim
            (λ (same : x ≡ y). subst (λ (z : Pair). Beats z s.top → ⊥) same (not-both s.top x s.over) better)
            (λ (later : Contains xs y). s.best y later runs better)
            (contains-cases x xs y one);
      }

  pub summit-more : IsSummit net limit (x ∷ xs) cur
  summit-more = ⊎_elim
      (λ (none : x.num < 1). stay (λ some beats. omega (arith, none, some)))
      (λ (some : 1 ≤ x.num). ⊎_elim (λ (beats : Beats x cur). rise some beats) (λ (not : Beats x cur → ⊥). stay (λ runs beats. not beats)) (beats-test x cur))
      (cases_lt x.num 1)

-- above each reached pair is one
pub climb : (net : Net) (limit : ℕ) (xs : List Pair) → ((x : Pair) → Contains xs x → 1 ≤ x.num → IsReachedPair net limit x) → (cur : Pair) → IsReachedPair net limit cur → IsSummit net limit xs cur
climb net limit [] reach cur is = record { top = cur; reached = is; over = record { storage = omega arith; rate = omega arith }; best = λ x one some beats. contains-none x one }
climb net limit (x ∷ xs) reach cur is = summit-more net limit x xs (λ some. reach x (contains-here x xs) some) (λ low here. climb net limit xs (λ y one some. reach y (contains-later x xs y one) some) low here) cur is
