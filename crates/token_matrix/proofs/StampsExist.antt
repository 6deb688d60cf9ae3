-- The stamps after a round exist, for all stamps before it, where the round can be completed.
use Rattle.std.proofs.Common.{◌≡◌, ℕ, zero, suc, ◌+◌, ◌≤◌, ◌<◌, List, [], ◌∷◌, length, map, inl, inr, subst, sym, ap, ◌∙◌, refl, arith}
use Rattle.std.specs.Prelude.{slice_index, slice_index_or}
use Rattle.std.specs.List.{range_with_len}
use Rattle.std.proofs.lemmas.List.FromFn.{get_or-map-range_with_len, length-map-range_with_len}
use Rattle.sd_base.specs.Net.{Net, channel_at, total}
use Rattle.sd_base.specs.Lawful.{Lawful}
use Rattle.sd_base.specs.Schedules.{HasInputs, Schedule, count_of, start_of, time_of}
use Rattle.sd_base.specs.Untimed.{none_fired, counts_after, IsRoundOrder}
use Rattle.token_matrix.specs.Stamps.{HasStamp, AreRoundStarts, AreStamps, left_token}
use Rattle.token_matrix.proofs.RoundStarts.{Starts, Stamped, AreStarts, round-starts}

-- f 0, f 1, .. as a list
abbrev listed : {A : Type 0} → (ℕ → A) → ℕ → List A
listed f n = map f (range_with_len 0 n)

get-listed : {A : Type 0} → (f : ℕ → A) (n k : ℕ) (d : A) → k < n → slice_index_or (listed f n) k d ≡ f k
get-listed f n k d below = get_or-map-range_with_len f 0 n k k d below (omega arith)

-- one number for each of finitely many places
choice : (Q : ℕ → ℕ → Type 0) (n : ℕ) → ((k : ℕ) → k < n → (z : ℕ) × Q k z) → (ys : List ℕ) × (length ys ≡ n) × ((k : ℕ) → k < n → Q k (slice_index ys k))
choice Q zero all = ([], refl, λ k below. absurd (let no : ⊥ = omega arith in no))
choice Q (suc n) all =
    let z = all 0 (omega arith) in
    let rest = choice (λ k y. Q (suc k) y) n (λ k below. all (suc k) (omega arith)) in
    (z.0 ∷ rest.0, ap suc rest.1, both z.0 z.1 rest.0 rest.2)
  where
    both : (z : ℕ) → Q 0 z → (ys : List ℕ) → ((k : ℕ) → k < n → Q (suc k) (slice_index ys k)) → (k : ℕ) → k < suc n → Q k (slice_index (z ∷ ys) k)
    both z here ys there zero below = here
    both z here ys there (suc k) below = there k (omega arith)

module _ (net : Net) (laws : Lawful net) (first : ℕ → ℕ) (count : ℕ) (inputs : HasInputs net)
    (moves : (i j : ℕ) → i < length net.channels → total (channel_at net i).taken j < total (channel_at net i).taken (j + 1))
    (covers : (p : ℕ) → p < count → (i : ℕ) × (k : ℕ) × (i < length net.channels) × (k < (channel_at net i).tokens) × (first i + k ≡ p))
    (apart : (i k j l : ℕ) → i < length net.channels → k < (channel_at net i).tokens → j < length net.channels → l < (channel_at net j).tokens → first i + k ≡ first j + l → (i ≡ j) × (k ≡ l))
    (inside : (i k : ℕ) → i < length net.channels → k < (channel_at net i).tokens → first i + k < count)
    (order : List ℕ) (round : IsRoundOrder net order) where
  module _ (x : List ℕ) where
    found : (s : Starts) × AreStarts net laws first x s (counts_after none_fired order)
    found = round-starts net laws first x inputs moves order round.fires

    table : Schedule
    table = listed (λ a. listed (found.0 a) (slice_index net.round a)) (length net.times)

    row-is : (a : ℕ) → a < length net.times → slice_index_or table a [] ≡ listed (found.0 a) (slice_index net.round a)
    unfolding table
    row-is a actor = get-listed (λ b. listed (found.0 b) (slice_index net.round b)) (length net.times) a [] actor

    counted : (a : ℕ) → a < length net.times → count_of table a ≡ slice_index net.round a
    counted a actor = ap (λ (r : List ℕ). length r) (row-is a actor) ∙ length-map-range_with_len (found.0 a) 0 (slice_index net.round a)

    started : (a j : ℕ) → a < length net.times → j < slice_index net.round a → start_of table a j ≡ found.0 a j
    started a j actor below = ap (λ (r : List ℕ). slice_index r j) (row-is a actor) ∙ get-listed (found.0 a) (slice_index net.round a) j 0 below

    whole : (a : ℕ) → a < length net.times → counts_after none_fired order a ≡ slice_index net.round a
    whole a actor = round.whole a actor

    to-stamp : (i m z : ℕ) → i < length net.channels → Stamped net laws first x found.0 (counts_after none_fired order) i m z → HasStamp net first x table i m z
    to-stamp i m z below (inl there) = inl there
    to-stamp i m z below (inr (k, puts, before, is)) =
        let actor : (channel_at net i).source < length net.times = laws.sources i below in
        let early : k < slice_index net.round (channel_at net i).source = subst (λ (n : ℕ). k < n) (whole (channel_at net i).source actor) before in
        inr (
          k,
          puts,
          subst (λ (n : ℕ). k < n) (sym (counted (channel_at net i).source actor)) early,
          is ∙ ap (λ (n : ℕ). n + time_of net (channel_at net i).source k) (sym (started (channel_at net i).source k actor early)),
        )

    from-stamp : (i m z : ℕ) → i < length net.channels → HasStamp net first x table i m z → Stamped net laws first x found.0 (counts_after none_fired order) i m z
    from-stamp i m z below (inl there) = inl there
    from-stamp i m z below (inr (k, puts, before, is)) =
        let actor : (channel_at net i).source < length net.times = laws.sources i below in
        let early : k < slice_index net.round (channel_at net i).source = subst (λ (n : ℕ). k < n) (counted (channel_at net i).source actor) before in
        inr (
          k,
          puts,
          subst (λ (n : ℕ). k < n) (sym (whole (channel_at net i).source actor)) early,
          is ∙ ap (λ (n : ℕ). n + time_of net (channel_at net i).source k) (started (channel_at net i).source k actor early),
        )

    are-starts : AreRoundStarts net first x table
    unfolding table
    are-starts = record {
      actors = length-map-range_with_len (λ a. listed (found.0 a) (slice_index net.round a)) 0 (length net.times);
      whole = counted;
      after = λ i m j z below early takes stamp. (
          let actor : (channel_at net i).target < length net.times = laws.targets i below in
          let here : j < slice_index net.round (channel_at net i).target = subst (λ (n : ℕ). j < n) (counted (channel_at net i).target actor) early in
          let start = found.1.each (channel_at net i).target j actor (subst (λ (n : ℕ). j < n) (sym (whole (channel_at net i).target actor)) here) in
          let low : z ≤ found.0 (channel_at net i).target j = start.after i m z below refl takes (from-stamp i m z below stamp) in
          subst (λ (n : ℕ). z ≤ n) (sym (started (channel_at net i).target j actor here)) low);
      just = λ a j actor early. (
          let here : j < slice_index net.round a = subst (λ (n : ℕ). j < n) (counted a actor) early in
          let start = found.1.each a j actor (subst (λ (n : ℕ). j < n) (sym (whole a actor)) here) in (
            start.just.0,
            start.just.1,
            start.just.2,
            start.just.3,
            start.just.4,
            subst (λ (n : ℕ). HasStamp net first x table start.just.0 start.just.1 n) (sym (started a j actor here)) (to-stamp start.just.0 start.just.1 (found.0 a j) start.just.2 start.just.5),
          ));
    }

    -- what is left has a stamp
    left-there : (i k : ℕ) → i < length net.channels → k < (channel_at net i).tokens → (z : ℕ) × HasStamp net first x table i (left_token net i k) z
    left-there i k below there =
        let kept : total (channel_at net i).made (slice_index net.round (channel_at net i).source) ≡ total (channel_at net i).taken (slice_index net.round (channel_at net i).target) = laws.repetition.balances.kept i below in
        let source : (channel_at net i).source < length net.times = laws.sources i below in
        let fired : counts_after none_fired order (channel_at net i).source ≡ slice_index net.round (channel_at net i).source = whole (channel_at net i).source source in
        let made : total (channel_at net i).made (counts_after none_fired order (channel_at net i).source) ≡ total (channel_at net i).made (slice_index net.round (channel_at net i).source) = ap (λ (n : ℕ). total (channel_at net i).made n) fired in
        let z = Rattle.token_matrix.proofs.RoundStarts.some-stamp net laws first x found.0 (counts_after none_fired order) i (left_token net i k) (omega arith) in
        (z.0, to-stamp i (left_token net i k) z.0 below z.1)

    -- the stamps after the round
    pub stamps : length x ≡ count → (y : List ℕ) × AreStamps net first count x y
    stamps long =
        let ys = choice (λ p z. (i k : ℕ) → i < length net.channels → k < (channel_at net i).tokens → first i + k ≡ p → HasStamp net first x table i (left_token net i k) z) count pick in
        (ys.0, record { before = long; after = ys.1; starts = table; round = are-starts; left = λ i k below there. ys.2 (first i + k) (inside i k below there) i k below there refl })
      where
        pick : (p : ℕ) → p < count → (z : ℕ) × ((i k : ℕ) → i < length net.channels → k < (channel_at net i).tokens → first i + k ≡ p → HasStamp net first x table i (left_token net i k) z)
        pick p below =
            let c = covers p below in
            let z = left-there c.0 c.1 c.2 c.3 in (
              z.0,
              λ i k place there is. (let same = apart i k c.0 c.1 place there c.2 c.3 (is ∙ sym c.4) in
                  subst (λ (j : ℕ). HasStamp net first x table j (left_token net j k) z.0) (sym same.0) (subst (λ (l : ℕ). HasStamp net first x table c.0 (left_token net c.0 l) z.0) (sym same.1) z.1)),
            )
