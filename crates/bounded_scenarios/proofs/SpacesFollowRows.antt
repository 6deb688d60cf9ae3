-- Each free space is that of a shared row with a capacity, and each such row has one.
use Rattle.std.proofs.Common.{◌≡◌, ℕ, zero, suc, ◌-◌, ◌≤◌, ◌<◌, Bool, true, false, Option, None, Some, List, [], ◌∷◌, ⊎_elim, subst, sym, ◌∙◌, refl}
use Rattle.std.specs.Prelude.{slice_get, if◌then◌else◌, nat_lt}
use Rattle.std.proofs.lemmas.Bool.{cases_lt, lt-ltb, le-ltb}
use Rattle.sd_base.specs.declared.tables.ChannelRow.{ChannelRow}
use Rattle.sd_base.specs.declared.tables.SharedRow.{SharedRow}
use Rattle.storage.specs.Distributions.{AtMost}
use Rattle.bounded_scenarios.specs.BoundedFiles.{space_name, space_row, space_rows, space_shares}
use Rattle.bounded_scenarios.specs.SharedChannels.{channel_named}

abbrev pub share_of : SharedRow → ℕ → SharedRow
share_of row k = record { name = space_name row.name; tokens = k - row.tokens }

-- a row with a capacity
abbrev pub HasRow : List SharedRow → List (Option ℕ) → (SharedRow → ℕ → Type 0) → Type 0
HasRow rows ds P = (t : ℕ) × (row : SharedRow) × (k : ℕ) × (slice_get rows t ≡ Some row) × (slice_get ds t ≡ Some (Some k)) × P row k

pub one-more : (r : SharedRow) (d : Option ℕ) (rows : List SharedRow) (ds : List (Option ℕ)) (P : SharedRow → ℕ → Type 0) → HasRow rows ds P → HasRow (r ∷ rows) (d ∷ ds) P
one-more r d rows ds P has = (suc has.0, has.1, has.2, has.3, has.4, has.5)

pub space-at : (cs : List ChannelRow) (rows : List SharedRow) (ds : List (Option ℕ)) (i : ℕ) (c : ChannelRow) → slice_get (space_rows cs rows ds) i ≡ Some c →
    HasRow rows ds (λ row k. c ≡ space_row (channel_named cs row.name) k)
space-at cs [] ds i c at = absurd (cc)
space-at cs (row ∷ rows) [] i c at = absurd (cc)
space-at cs (row ∷ rows) (None ∷ ds) i c at = one-more row None rows ds (λ r k. c ≡ space_row (channel_named cs r.name) k) (space-at cs rows ds i c at)
space-at cs (row ∷ rows) (Some k ∷ ds) zero c at = let e : space_row (channel_named cs row.name) k ≡ c = cc in (0, row, k, refl, refl, sym e)
space-at cs (row ∷ rows) (Some k ∷ ds) (suc i) c at = one-more row (Some k) rows ds (λ r j. c ≡ space_row (channel_named cs r.name) j) (space-at cs rows ds i c at)

pub space-there : (cs : List ChannelRow) (rows : List SharedRow) (ds : List (Option ℕ)) (t : ℕ) (row : SharedRow) (k : ℕ) → slice_get rows t ≡ Some row → slice_get ds t ≡ Some (Some k) →
    (i : ℕ) × (slice_get (space_rows cs rows ds) i ≡ Some (space_row (channel_named cs row.name) k))
space-there cs [] ds t row k at has = absurd (cc)
space-there cs (r ∷ rows) [] t row k at has = absurd (cc)
space-there cs (r ∷ rows) (None ∷ ds) zero row k at has = absurd (cc)
space-there cs (r ∷ rows) (None ∷ ds) (suc t) row k at has = space-there cs rows ds t row k at has
space-there cs (r ∷ rows) (Some j ∷ ds) zero row k at has = let er : r ≡ row = cc in let ek : j ≡ k = cc in (0, cc)
space-there cs (r ∷ rows) (Some j ∷ ds) (suc t) row k at has = let next = space-there cs rows ds t row k at has in (suc next.0, next.1)

pub share-at : (rows : List SharedRow) (ds : List (Option ℕ)) (s : ℕ) (x : SharedRow) → slice_get (space_shares rows ds) s ≡ Some x → HasRow rows ds (λ row k. (row.tokens < k) × (x ≡ share_of row k))
share-at [] ds s x at = absurd (cc)
share-at (row ∷ rows) [] s x at = absurd (cc)
share-at (row ∷ rows) (None ∷ ds) s x at = one-more row None rows ds (λ r k. (r.tokens < k) × (x ≡ share_of r k)) (share-at rows ds s x at)
share-at (row ∷ rows) (Some k ∷ ds) s x at = ⊎_elim
    (λ (lt : row.tokens < k). some lt (λ i there. share-at rows ds i x there) s
    (subst (λ (b : Bool). slice_get (if b then share_of row k ∷ space_shares rows ds else space_shares rows ds) s ≡ Some x) (lt-ltb row.tokens k lt) at))
    (λ (le : k ≤ row.tokens). one-more row (Some k) rows ds (λ r j. (r.tokens < j) × (x ≡ share_of r j))
    (share-at rows ds s x (subst (λ (b : Bool). slice_get (if b then share_of row k ∷ space_shares rows ds else space_shares rows ds) s ≡ Some x) (le-ltb row.tokens k le) at)))
    (cases_lt row.tokens k)
  where
    some : row.tokens < k → ((i : ℕ) → slice_get (space_shares rows ds) i ≡ Some x → HasRow rows ds (λ r j. (r.tokens < j) × (x ≡ share_of r j))) → (i : ℕ) →
        slice_get (share_of row k ∷ space_shares rows ds) i ≡ Some x → HasRow (row ∷ rows) (Some k ∷ ds) (λ r j. (r.tokens < j) × (x ≡ share_of r j))
    some lt next zero there = let e : share_of row k ≡ x = cc in (0, row, k, refl, refl, (lt, sym e))
    some lt next (suc i) there = one-more row (Some k) rows ds (λ r j. (r.tokens < j) × (x ≡ share_of r j)) (next i there)

pub share-there : (rows : List SharedRow) (ds : List (Option ℕ)) (t : ℕ) (row : SharedRow) (k : ℕ) → slice_get rows t ≡ Some row → slice_get ds t ≡ Some (Some k) → row.tokens < k →
    (s : ℕ) × (slice_get (space_shares rows ds) s ≡ Some (share_of row k))
share-there [] ds t row k at has lt = absurd (cc)
share-there (r ∷ rows) [] t row k at has lt = absurd (cc)
share-there (r ∷ rows) (None ∷ ds) zero row k at has lt = absurd (cc)
share-there (r ∷ rows) (None ∷ ds) (suc t) row k at has lt = share-there rows ds t row k at has lt
share-there (r ∷ rows) (Some j ∷ ds) zero row k at has lt =
    let er : r ≡ row = cc in let ek : j ≡ k = cc in
    let less : r.tokens < j = subst (λ (x : SharedRow). x.tokens < j) (sym er) (subst (λ (n : ℕ). row.tokens < n) (sym ek) lt) in
    let yes : nat_lt r.tokens j ≡ true = lt-ltb r.tokens j less in
    rw yes (0, cc)
share-there (r ∷ rows) (Some j ∷ ds) (suc t) row k at has lt = later (share-there rows ds t row k at has lt) (nat_lt r.tokens j)
  where
    later : (s : ℕ) × (slice_get (space_shares rows ds) s ≡ Some (share_of row k)) → (b : Bool) →
        (s : ℕ) × (slice_get (if b then share_of r j ∷ space_shares rows ds else space_shares rows ds) s ≡ Some (share_of row k))
    later next true = (suc next.0, next.1)
    later next false = next

-- ---- the spaces of two distributions that bound the same channels

-- place i has the space of one row in both
pub record SpacePair (cs : List ChannelRow) (rows : List SharedRow) (ds es : List (Option ℕ)) (i : ℕ) (c : ChannelRow) : Type 0 where
  pub place : ℕ
  pub row : SharedRow
  pub at : slice_get rows place ≡ Some row
  pub low : ℕ
  pub high : ℕ
  pub low_at : slice_get ds place ≡ Some (Some low)
  pub high_at : slice_get es place ≡ Some (Some high)
  pub most : low ≤ high
  pub is : c ≡ space_row (channel_named cs row.name) low
  pub other : slice_get (space_rows cs rows es) i ≡ Some (space_row (channel_named cs row.name) high)

next-pair : (cs : List ChannelRow) (r : SharedRow) (rows : List SharedRow) (d e : Option ℕ) (ds es : List (Option ℕ)) (i j : ℕ) (c : ChannelRow) → SpacePair cs rows ds es i c →
    slice_get (space_rows cs (r ∷ rows) (e ∷ es)) j ≡ slice_get (space_rows cs rows es) i → SpacePair cs (r ∷ rows) (d ∷ ds) (e ∷ es) j c
next-pair cs r rows d e ds es i j c one same = record {
  place = suc one.place;
  row = one.row;
  at = one.at;
  low = one.low;
  high = one.high;
  low_at = one.low_at;
  high_at = one.high_at;
  most = one.most;
  is = one.is;
  other = same ∙ one.other;
}

pub space-pair : (cs : List ChannelRow) (rows : List SharedRow) (ds es : List (Option ℕ)) (i : ℕ) (c : ChannelRow) → AtMost ds es → slice_get (space_rows cs rows ds) i ≡ Some c →
    SpacePair cs rows ds es i c
space-pair cs [] ds es i c most at = absurd (cc)
space-pair cs (row ∷ rows) [] [] i c most at = absurd (cc)
space-pair cs (row ∷ rows) (None ∷ ds) (None ∷ es) i c most at = next-pair cs row rows None None ds es i i c (space-pair cs rows ds es i c most at) refl
space-pair cs (row ∷ rows) (Some a ∷ ds) (Some b ∷ es) zero c most at = record {
  place = 0;
  row = row;
  at = refl;
  low = a;
  high = b;
  low_at = refl;
  high_at = refl;
  most = most.0;
  is = (let e : space_row (channel_named cs row.name) a ≡ c = cc in sym e);
  other = refl;
}
space-pair cs (row ∷ rows) (Some a ∷ ds) (Some b ∷ es) (suc i) c most at = next-pair cs row rows (Some a) (Some b) ds es i (suc i) c (space-pair cs rows ds es i c most.1 at) refl
space-pair cs (row ∷ rows) ds es i c most at = absurd most
