-- What is needed on the channels that are taken, and elsewhere what a node needs at least: what bounds that are apart ask for adds up.
use Rattle.std.proofs.Common.{◌≡◌, ℕ, zero, suc, ◌+◌, ◌-◌, ◌*◌, ◌≤◌, ◌<◌, ◌⊎◌, inl, inr, ⊎_elim, List, [], ◌∷◌, Bool, true, false, cond, length, replicate, take, get_or, refl, sym, ap, ◌∙◌, subst, arith}
use Rattle.std.specs.Prelude.{All, slice_index, slice_index_or, slice_set}
use Rattle.std.proofs.lemmas.Bool.{cases_lt}
use Rattle.std.proofs.lemmas.List.Elements.{All-cons, All-head, All-more, All-nil, All-tail}
use Rattle.sd_base.specs.declared.numbers.Fraction.{Fraction}
use Rattle.sd_base.proofs.ElementsKeepPlaces.{get-there}
use Rattle.covers.specs.declared.lattice.Axis.{Axis}
use Rattle.covers.specs.declared.lattice.Lattice.{Lattice}
use Rattle.covers.specs.declared.bound.Bound.{Bound}
use Rattle.covers.specs.declared.bound.Cap.{Cap}
use Rattle.covers.specs.declared.node.Node.{Node}
use Rattle.covers.specs.Lattices.{storage_of}
use Rattle.covers.specs.Bounds.{IsCovered, IsWithin}
use Rattle.covers.specs.inside.Ways.{IsInside, IsToll, StaysWithin, rise_of}
use Rattle.covers.specs.inside.Taken.{AreApart, AreTaken}
use Rattle.covers.proofs.StorageRises.{storage-le, storage-rise}

-- the vector on the channels that are taken, and the node's least one elsewhere
abbrev pub mix : List Bool → List ℕ → List ℕ → List ℕ
mix ts ks [] = []
mix [] ks (l ∷ lo) = l ∷ lo
mix (t ∷ ts) [] (l ∷ lo) = cond t 0 l ∷ mix ts [] lo
mix (t ∷ ts) (k ∷ ks) (l ∷ lo) = cond t k l ∷ mix ts ks lo

pub mix-length : (ts : List Bool) (ks lo : List ℕ) → length (mix ts ks lo) ≡ length lo
mix-length ts ks [] = refl
mix-length [] ks (l ∷ lo) = refl
mix-length (t ∷ ts) [] (l ∷ lo) = ap suc (mix-length ts [] lo)
mix-length (t ∷ ts) (k ∷ ks) (l ∷ lo) = ap suc (mix-length ts ks lo)

cond-below : (t : Bool) (k l : ℕ) → l ≤ k → cond t k l ≤ k
cond-below true k l le = omega arith
cond-below false k l le = le

pub mix-below : (ts : List Bool) (ks lo : List ℕ) → ((i : ℕ) → slice_index lo i ≤ slice_index ks i) → (i : ℕ) → slice_index (mix ts ks lo) i ≤ slice_index ks i
mix-below ts ks [] le i = le i
mix-below [] ks (l ∷ lo) le i = le i
mix-below (t ∷ ts) [] (l ∷ lo) le zero = cond-below t 0 l (le 0)
mix-below (t ∷ ts) [] (l ∷ lo) le (suc i) = mix-below ts [] lo (λ j. le (suc j)) i
mix-below (t ∷ ts) (k ∷ ks) (l ∷ lo) le zero = cond-below t k l (le 0)
mix-below (t ∷ ts) (k ∷ ks) (l ∷ lo) le (suc i) = mix-below ts ks lo (λ j. le (suc j)) i

cond-mono : (t u : Bool) (k l : ℕ) → (t ≡ true → u ≡ true) → l ≤ k → cond t k l ≤ cond u k l
cond-mono true true k l kept le = omega arith
cond-mono true false k l kept le = let no : false ≡ true = kept refl in cc
cond-mono false true k l kept le = le
cond-mono false false k l kept le = omega arith

pub mix-above : (ts : List Bool) (ks lo : List ℕ) → ((i : ℕ) → slice_index lo i ≤ slice_index ks i) → (i : ℕ) → slice_index lo i ≤ slice_index (mix ts ks lo) i
mix-above ts ks [] le i = omega arith
mix-above [] ks (l ∷ lo) le i = omega arith
mix-above (t ∷ ts) [] (l ∷ lo) le zero = cond-above t 0 l (le 0)
  where
    cond-above : (t : Bool) (k l : ℕ) → l ≤ k → l ≤ cond t k l
    cond-above true k l le = le
    cond-above false k l le = omega arith
mix-above (t ∷ ts) [] (l ∷ lo) le (suc i) = mix-above ts [] lo (λ j. le (suc j)) i
mix-above (t ∷ ts) (k ∷ ks) (l ∷ lo) le zero = cond-above t k l (le 0)
  where
    cond-above : (t : Bool) (k l : ℕ) → l ≤ k → l ≤ cond t k l
    cond-above true k l le = le
    cond-above false k l le = omega arith
mix-above (t ∷ ts) (k ∷ ks) (l ∷ lo) le (suc i) = mix-above ts ks lo (λ j. le (suc j)) i

none-taken : (u : List Bool) (ks lo : List ℕ) → ((i : ℕ) → slice_index_or u i false ≡ true → false ≡ true) → mix u ks lo ≡ lo
none-taken u ks [] kept = refl
none-taken [] ks (l ∷ lo) kept = refl
none-taken (true ∷ u) ks (l ∷ lo) kept = let no : false ≡ true = kept 0 refl in cc
none-taken (false ∷ u) [] (l ∷ lo) kept = ap (λ xs. l ∷ xs) (none-taken u [] lo (λ i. kept (suc i)))
none-taken (false ∷ u) (k ∷ ks) (l ∷ lo) kept = ap (λ xs. l ∷ xs) (none-taken u ks lo (λ i. kept (suc i)))

pub mix-mono : (ts us : List Bool) (ks lo : List ℕ) → ((c : ℕ) → slice_index_or ts c false ≡ true → slice_index_or us c false ≡ true) → ((i : ℕ) → slice_index lo i ≤ slice_index ks i) → (i : ℕ) → slice_index (mix ts ks lo) i ≤ slice_index (mix us ks lo) i
mix-mono ts us ks [] kept le i = omega arith
mix-mono [] us ks (l ∷ lo) kept le i = mix-above us ks (l ∷ lo) le i
mix-mono (t ∷ ts) [] ks (l ∷ lo) kept le i = subst (λ (xs : List ℕ). slice_index xs i ≤ slice_index (l ∷ lo) i) (sym (none-taken (t ∷ ts) ks (l ∷ lo) kept)) (omega arith)
mix-mono (t ∷ ts) (u ∷ us) [] (l ∷ lo) kept le zero = cond-mono t u 0 l (kept 0) (le 0)
mix-mono (t ∷ ts) (u ∷ us) [] (l ∷ lo) kept le (suc i) = mix-mono ts us [] lo (λ c. kept (suc c)) (λ j. le (suc j)) i
mix-mono (t ∷ ts) (u ∷ us) (k ∷ ks) (l ∷ lo) kept le zero = cond-mono t u k l (kept 0) (le 0)
mix-mono (t ∷ ts) (u ∷ us) (k ∷ ks) (l ∷ lo) kept le (suc i) = mix-mono ts us ks lo (λ c. kept (suc c)) (λ j. le (suc j)) i

pub mix-least : (ts : List Bool) (ks lo : List ℕ) (c : ℕ) → slice_index_or ts c false ≡ false → slice_index (mix ts ks lo) c ≡ slice_index lo c
mix-least ts ks [] c is = refl
mix-least [] ks (l ∷ lo) c is = refl
mix-least (t ∷ ts) [] (l ∷ lo) zero is = ap (λ u. cond u 0 l) is
mix-least (t ∷ ts) [] (l ∷ lo) (suc c) is = mix-least ts [] lo c is
mix-least (t ∷ ts) (k ∷ ks) (l ∷ lo) zero is = ap (λ u. cond u k l) is
mix-least (t ∷ ts) (k ∷ ks) (l ∷ lo) (suc c) is = mix-least ts ks lo c is

pub mix-taken : (ts : List Bool) (ks lo : List ℕ) (c : ℕ) → c < length lo → slice_index_or ts c false ≡ true → slice_index (mix ts ks lo) c ≡ slice_index ks c
mix-taken ts ks [] c below is = absurd (omega arith)
mix-taken [] ks (l ∷ lo) c below is = let no : false ≡ true = is in cc
mix-taken (t ∷ ts) [] (l ∷ lo) zero below is = ap (λ u. cond u 0 l) is
mix-taken (t ∷ ts) [] (l ∷ lo) (suc c) below is = mix-taken ts [] lo c (omega arith) is
mix-taken (t ∷ ts) (k ∷ ks) (l ∷ lo) zero below is = ap (λ u. cond u k l) is
mix-taken (t ∷ ts) (k ∷ ks) (l ∷ lo) (suc c) below is = mix-taken ts ks lo c (omega arith) is

-- what isn't covered needs the sum on the channels that are taken
abbrev pub IsPaid : Lattice → List Bound → Fraction → Node → List Bool → ℕ → Type 0
IsPaid lattice bounds best n taken sum = (ks : List ℕ) → IsInside lattice n ks → IsCovered bounds best ks ⊎ (sum ≤ storage_of lattice.axes (mix taken ks n.lo.items))

replicated : (n i : ℕ) → slice_index_or (replicate n false) i false ≡ true → false ≡ true
replicated zero i is = is
replicated (suc n) zero is = is
replicated (suc n) (suc i) is = replicated n i is

pub paid-first : (lattice : Lattice) (bounds : List Bound) (best : Fraction) (n : Node) (taken : List Bool) (many sum : ℕ) → taken ≡ replicate many false → sum ≡ storage_of lattice.axes n.lo.items → IsPaid lattice bounds best n taken sum
paid-first lattice bounds best n taken many sum none is = λ ks i.
    let same : mix taken ks n.lo.items ≡ n.lo.items = ap (λ (ts : List Bool). mix ts ks n.lo.items) none ∙ none-taken (replicate many false) ks n.lo.items (replicated many) in
    inr (level _ _ (is ∙ ap (storage_of lattice.axes) (sym same)))
  where
    level : (a b : ℕ) → a ≡ b → a ≤ b
    level a b same = omega arith

-- a cap that the vector is above, which is paid for
pub record IsAbove (lattice : Lattice) (n : Node) (ks : List ℕ) (old new : List Bool) (cost : ℕ) (cap : Cap) : Type 0 where
  pub place : cap.channel < length lattice.axes
  pub paid : (a : Axis) → cost ≤ rise_of lattice n ks cap.channel a
  pub free : slice_index_or old cap.channel false ≡ false
  pub taken : slice_index_or new cap.channel false ≡ true

some-length : (ks : List ℕ) (c k : ℕ) → k < slice_index ks c → c < length ks
some-length [] c k more = absurd (omega arith)
some-length (x ∷ ks) zero k more = omega arith
some-length (x ∷ ks) (suc c) k more = omega (arith, some-length ks c k more)

either : (lattice : Lattice) (n : Node) (ks : List ℕ) (old new : List Bool) (cost : ℕ) (cap : Cap) → IsInside lattice n ks → IsToll lattice n cost cap → StaysWithin lattice n cap ⊎ (slice_index_or old cap.channel false ≡ false) → StaysWithin lattice n cap ⊎ (slice_index_or new cap.channel false ≡ true) →
    IsWithin ks cap ⊎ IsAbove lattice n ks old new cost cap
either lattice n ks old new cost cap i toll apart taken =
    ⊎_elim
    (λ (more : cap.capacity < slice_index ks cap.channel).
    ⊎_elim
    (λ (h : IsWithin ks cap). inl h)
    (λ (paid : (a : Axis) → cost ≤ rise_of lattice n ks cap.channel a).
    ⊎_elim
    (λ (h : StaysWithin lattice n cap). inl (h ks i))
    (λ (free : slice_index_or old cap.channel false ≡ false).
    ⊎_elim
    (λ (h : StaysWithin lattice n cap). inl (h ks i))
    (λ (now : slice_index_or new cap.channel false ≡ true).
    inr (record { place = omega (arith, some-length ks cap.channel cap.capacity more, i.among.on.long); paid = paid; free = free; taken = now }))
    taken)
    apart)
    (toll ks i))
    (λ (less : slice_index ks cap.channel ≤ cap.capacity). inl less)
    (cases_lt cap.capacity (slice_index ks cap.channel))

-- all of them, or one that the vector is above
some-cap : (P Q : Cap → Type 0) (caps : List Cap) → All (λ (cap : Cap). P cap ⊎ Q cap) caps → All P caps ⊎ ((cap : Cap) × Q cap)
some-cap P Q [] all = inl (All-nil P)
some-cap P Q (cap ∷ caps) all =
    ⊎_elim
    (λ (p : P cap).
    ⊎_elim
    (λ (rest : All P caps). inl (All-cons P cap caps p rest))
    (λ (q : (c : Cap) × Q c). inr q)
    (some-cap P Q caps (All-tail (λ (c : Cap). P c ⊎ Q c) cap caps all)))
    (λ (q : Q cap). inr (cap, q))
    (All-head (λ (c : Cap). P c ⊎ Q c) cap caps all)

above-pays : (lattice : Lattice) (n : Node) (ks : List ℕ) (old new : List Bool) (sum cost : ℕ) (cap : Cap) → length n.lo.items ≡ length lattice.axes → IsInside lattice n ks → ((c : ℕ) → slice_index_or old c false ≡ true → slice_index_or new c false ≡ true) → IsAbove lattice n ks old new cost cap →
    sum ≤ storage_of lattice.axes (mix old ks n.lo.items) → sum + cost ≤ storage_of lattice.axes (mix new ks n.lo.items)
above-pays lattice n ks old new sum cost cap long i kept above so =
    let a = get-there lattice.axes cap.channel above.place in
    let low : slice_index (mix old ks n.lo.items) cap.channel ≡ slice_index n.lo.items cap.channel = mix-least old ks n.lo.items cap.channel above.free in
    let high : slice_index (mix new ks n.lo.items) cap.channel ≡ slice_index ks cap.channel = mix-taken new ks n.lo.items cap.channel (omega (arith, above.place, long)) above.taken in
    let rise = storage-rise lattice.axes (mix old ks n.lo.items) (mix new ks n.lo.items) cap.channel (slice_index ks cap.channel) a.0 above.place (mix-length new ks n.lo.items ∙ long) (mix-mono old new ks n.lo.items kept i.between.above) (level _ _ (sym high)) in
    let same : (slice_index ks cap.channel - slice_index (mix old ks n.lo.items) cap.channel) * (slice_index_or lattice.axes cap.channel a.0).size ≡ rise_of lattice n ks cap.channel a.0
    = ap (λ (x : ℕ). (slice_index ks cap.channel - x) * (slice_index_or lattice.axes cap.channel a.0).size) low in
    sums _ _ _ _ _ _ so rise same (above.paid a.0)
  where
    level : (a b : ℕ) → a ≡ b → a ≤ b
    level a b same = omega arith

    sums : (sum s t r r' cost : ℕ) → sum ≤ s → s + r ≤ t → r ≡ r' → cost ≤ r' → sum + cost ≤ t
    sums sum s t r r' cost a b c d = omega arith

-- and what bounds that are apart ask for adds up
pub paid-more : (lattice : Lattice) (bounds : List Bound) (best : Fraction) (n : Node) (b : Bound) (old new : List Bool) (sum cost more : ℕ) → length n.lo.items ≡ length lattice.axes → ((ks : List ℕ) → All (IsWithin ks) b.caps → IsCovered bounds best ks) →
    All (IsToll lattice n cost) b.caps → AreApart lattice n old b.caps → AreTaken lattice n b.caps old new → more ≤ sum + cost → IsPaid lattice bounds best n old sum → IsPaid lattice bounds best n new more
paid-more lattice bounds best n b old new sum cost more long covered toll apart taken less paid = λ ks i.
    ⊎_elim
    (λ (c : IsCovered bounds best ks). inl c)
    (λ (so : sum ≤ storage_of lattice.axes (mix old ks n.lo.items)).
    ⊎_elim
    (λ (all : All (IsWithin ks) b.caps). inl (covered ks all))
    (λ (one : (cap : Cap) × IsAbove lattice n ks old new cost cap). inr (along _ _ _ less (above-pays lattice n ks old new sum cost one.0 long i taken.kept one.1 so)))
    (some-cap (IsWithin ks) (IsAbove lattice n ks old new cost) b.caps (λ k d below. either lattice n ks old new cost (slice_index_or b.caps k d) i (toll k d below) (apart k d below) (taken.each k d below))))
    (paid ks i)
  where
    along : (a b c : ℕ) → a ≤ b → b ≤ c → a ≤ c
    along a b c x y = omega arith

-- what is needed on some channels is needed
pub paid-all : (lattice : Lattice) (bounds : List Bound) (best : Fraction) (n : Node) (taken : List Bool) (sum : ℕ) → IsPaid lattice bounds best n taken sum → (ks : List ℕ) → IsInside lattice n ks → IsCovered bounds best ks ⊎ (sum ≤ storage_of lattice.axes ks)
paid-all lattice bounds best n taken sum paid ks i =
    ⊎_elim
    (λ (c : IsCovered bounds best ks). inl c)
    (λ (h : sum ≤ storage_of lattice.axes (mix taken ks n.lo.items)). inr (along _ _ _ h (storage-le lattice.axes (mix taken ks n.lo.items) ks i.among.on.long (mix-below taken ks n.lo.items i.between.above))))
    (paid ks i)
  where
    along : (a b c : ℕ) → a ≤ b → b ≤ c → a ≤ c
    along a b c x y = omega arith

-- channels that are taken, cap by cap

pub apart-more : (lattice : Lattice) (n : Node) (taken : List Bool) (caps : List Cap) (i : ℕ) (d : Cap) → i < length caps → AreApart lattice n taken (take i caps) → StaysWithin lattice n (get_or caps i d) ⊎ (slice_index_or taken (get_or caps i d).channel false ≡ false) → AreApart lattice n taken (take (i + 1) caps)
apart-more lattice n taken caps i d below all here = All-more (λ (cap : Cap). StaysWithin lattice n cap ⊎ (slice_index_or taken cap.channel false ≡ false)) caps i d below all here

pub taken-stays : (lattice : Lattice) (n : Node) (caps : List Cap) (i : ℕ) (d : Cap) (old new : List Bool) → i < length caps → AreTaken lattice n (take i caps) old new → StaysWithin lattice n (get_or caps i d) → AreTaken lattice n (take (i + 1) caps) old new
taken-stays lattice n caps i d old new below are stays = record {
  kept = are.kept;
  each = All-more (λ (cap : Cap). StaysWithin lattice n cap ⊎ (slice_index_or new cap.channel false ≡ true)) caps i d below are.each (inl stays);
}

still-set : (ts : List Bool) (c i : ℕ) → slice_index_or ts i false ≡ true → slice_index_or (slice_set ts c true) i false ≡ true
still-set [] c i is = is
still-set (t ∷ ts) zero zero is = refl
still-set (t ∷ ts) zero (suc i) is = is
still-set (t ∷ ts) (suc c) zero is = is
still-set (t ∷ ts) (suc c) (suc i) is = still-set ts c i is

now-set : (ts : List Bool) (c : ℕ) → c < length ts → slice_index_or (slice_set ts c true) c false ≡ true
now-set [] c below = absurd (omega arith)
now-set (t ∷ ts) zero below = refl
now-set (t ∷ ts) (suc c) below = now-set ts c (omega arith)

pub taken-more : (lattice : Lattice) (n : Node) (caps : List Cap) (i : ℕ) (d : Cap) (old mid new : List Bool) → i < length caps → AreTaken lattice n (take i caps) old mid → new ≡ slice_set mid (get_or caps i d).channel true → (get_or caps i d).channel < length mid → AreTaken lattice n (take (i + 1) caps) old new
taken-more lattice n caps i d old mid new below are is place = subst (λ (ts : List Bool). AreTaken lattice n (take (i + 1) caps) old ts) (sym is) (record {
  kept = λ c h. still-set mid (get_or caps i d).channel c (are.kept c h);
  each = All-more (λ (cap : Cap). StaysWithin lattice n cap ⊎ (slice_index_or (slice_set mid (get_or caps i d).channel true) cap.channel false ≡ true)) caps i d below
      (λ k e under. ⊎_elim (λ (h : StaysWithin lattice n (slice_index_or (take i caps) k e)). inl h) (λ (h : slice_index_or mid (slice_index_or (take i caps) k e).channel false ≡ true). inr (still-set mid (get_or caps i d).channel (slice_index_or (take i caps) k e).channel h)) (are.each k e under))
      (inr (now-set mid (get_or caps i d).channel place));
})
