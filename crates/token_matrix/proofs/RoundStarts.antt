-- The starts of a round exist, where it can be completed.
use Rattle.std.proofs.Common.{◌≡◌, ℕ, ◌+◌, ◌≤◌, ◌<◌, ◌⊎◌, List, [], ◌∷◌, length, inl, inr, ⊎_elim, subst, sym, ap, ◌∙◌, refl, arith, eq-eqb, ne_eqb}
use Rattle.std.specs.Prelude.{Bool, true, false, slice_index, if◌then◌else◌, ◌==◌, ◌&&◌}
use Rattle.std.proofs.lemmas.Bool.{cases_lt, cases_eq}
use Rattle.sd_base.specs.Net.{Net, channel_at, total}
use Rattle.sd_base.specs.Lawful.{Lawful}
use Rattle.sd_base.specs.Schedules.{time_of}
use Rattle.sd_base.specs.Untimed.{none_fired, one_more, CanFire, Fires, counts_after}
use Rattle.sd_base.specs.Schedules.{HasInputs}
use Rattle.sd_base.proofs.SumsRepeatByTurns.{total-le}
use Rattle.sd_base.proofs.ClosedCountsBoundRuns.{bump-more, bump-cases}
use Rattle.token_matrix.specs.Stamps.{IsTakenBy, IsPutBy}
use Rattle.token_matrix.proofs.TokensHaveProducers.{one_producer, producer}
use Rattle.token_matrix.proofs.GreatestExists.{Best, best_of, AreUnique, AreDecided}

-- starts by actor and firing
abbrev pub Starts : Type 0
Starts = ℕ → ℕ → ℕ

module _ (net : Net) (laws : Lawful net) (first : ℕ → ℕ) (x : List ℕ) where
  -- the stamp of token m of channel i, where v firings of each actor have started
  abbrev pub Stamped : Starts → (ℕ → ℕ) → ℕ → ℕ → ℕ → Type 0
  Stamped s v i m z =
      ((m < (channel_at net i).tokens) × (z ≡ slice_index x (first i + m)))
      ⊎ ((k : ℕ) × IsPutBy (channel_at net i) m k × (k < v (channel_at net i).source) × (z ≡ s (channel_at net i).source k + time_of net (channel_at net i).source k))

  one-stamp : (s : Starts) (v : ℕ → ℕ) (i m y z : ℕ) → Stamped s v i m y → Stamped s v i m z → y ≡ z
  one-stamp s v i m y z (inl (there, is)) (inl (there', is')) = is ∙ sym is'
  one-stamp s v i m y z (inl (there, is)) (inr (k, puts, before, is')) = absurd (let low : (channel_at net i).tokens + total (channel_at net i).made k ≤ m = puts.0 in let no : ⊥ = omega (arith, there) in no)
  one-stamp s v i m y z (inr (k, puts, before, is)) (inl (there, is')) = absurd (let low : (channel_at net i).tokens + total (channel_at net i).made k ≤ m = puts.0 in let no : ⊥ = omega (arith, there) in no)
  one-stamp s v i m y z (inr (k, puts, before, is)) (inr (l, puts', before', is')) =
      let same : k ≡ l = one_producer net i m k l puts puts' in
      is ∙ (ap (λ (n : ℕ). s (channel_at net i).source n + time_of net (channel_at net i).source n) same ∙ sym is')

  -- a token that is there has a stamp
  pub some-stamp : (s : Starts) (v : ℕ → ℕ) (i m : ℕ) → m < (channel_at net i).tokens + total (channel_at net i).made (v (channel_at net i).source) → (z : ℕ) × Stamped s v i m z
  some-stamp s v i m below = ⊎_elim
      (λ (there : m < (channel_at net i).tokens). (slice_index x (first i + m), inl (there, refl)))
      (λ (put : (channel_at net i).tokens ≤ m). (let k = producer net i m (v (channel_at net i).source) put below in
      (s (channel_at net i).source k.0 + time_of net (channel_at net i).source k.0, inr (k.0, k.2, k.1, refl))))
      (cases_lt m (channel_at net i).tokens)

  -- firing j of actor a starts as soon as the last of its tokens is there
  pub record IsStart (s : Starts) (v : ℕ → ℕ) (a j z : ℕ) : Type 0 where
    pub after : (i m y : ℕ) → i < length net.channels → (channel_at net i).target ≡ a → IsTakenBy (channel_at net i) m j → Stamped s v i m y → y ≤ z
    pub just : (i : ℕ) × (m : ℕ) × (i < length net.channels) × ((channel_at net i).target ≡ a) × IsTakenBy (channel_at net i) m j × Stamped s v i m z

  -- the stamps of the tokens that firing j takes from channel i
  abbrev Taken : Starts → (ℕ → ℕ) → ℕ → ℕ → ℕ → ℕ → Type 0
  Taken s v i j m z = IsTakenBy (channel_at net i) m j × Stamped s v i m z

  -- the greatest of them
  record Last (s : Starts) (v : ℕ → ℕ) (a j i z : ℕ) : Type 0 where
    into : (channel_at net i).target ≡ a
    token : ℕ
    takes : IsTakenBy (channel_at net i) token j
    stamp : Stamped s v i token z
    top : (m y : ℕ) → IsTakenBy (channel_at net i) m j → Stamped s v i m y → y ≤ z

  one-last : (s : Starts) (v : ℕ → ℕ) (a j : ℕ) → AreUnique (Last s v a j)
  one-last s v a j i y z last other =
      let up : y ≤ z = other.top last.token y last.takes last.stamp in
      let down : z ≤ y = last.top other.token z other.takes other.stamp in omega arith

  module _ (s : Starts) (v : ℕ → ℕ) (a : ℕ) (can : CanFire net v a) (moves : (i : ℕ) → i < length net.channels → (channel_at net i).target ≡ a → total (channel_at net i).taken (v a) < total (channel_at net i).taken (v a + 1)) where
    taken-decided : (i : ℕ) → i < length net.channels → (channel_at net i).target ≡ a → AreDecided (Taken s v i (v a)) (total (channel_at net i).taken (v a + 1))
    taken-decided i below into m high = ⊎_elim
        (λ (early : m < total (channel_at net i).taken (v a)). inr (λ z is. (let low : total (channel_at net i).taken (v a) ≤ m = is.0.0 in let no : ⊥ = omega arith in no)))
        (λ (takes : total (channel_at net i).taken (v a) ≤ m). (let there : total (channel_at net i).taken (v a + 1) ≤ (channel_at net i).tokens + total (channel_at net i).made (v (channel_at net i).source) = can i below into in
        let z = some-stamp s v i m (omega arith) in inl (z.0, ((takes, high), z.1))))
        (cases_lt m (total (channel_at net i).taken (v a)))

    last-on : (i : ℕ) → i < length net.channels → (channel_at net i).target ≡ a → (z : ℕ) × Last s v a (v a) i z
    last-on i below into = found (best_of (Taken s v i (v a)) (λ m y z is other. one-stamp s v i m y z is.1 other.1) (total (channel_at net i).taken (v a + 1)) (taken-decided i below into))
      where
        found : Best (Taken s v i (v a)) (total (channel_at net i).taken (v a + 1)) ⊎ ((m z : ℕ) → m < total (channel_at net i).taken (v a + 1) → Taken s v i (v a) m z → ⊥) → (z : ℕ) × Last s v a (v a) i z
        found (inl best) = (
          best.best,
          record {
            into = into;
            token = best.place;
            takes = best.is.0;
            stamp = best.is.1;
            top = λ m y takes stamp. best.top m y takes.1 (takes, stamp);
          },
        )
        found (inr none) = absurd (
            let some : total (channel_at net i).taken (v a) < total (channel_at net i).taken (v a + 1) = moves i below into in
            let there : total (channel_at net i).taken (v a + 1) ≤ (channel_at net i).tokens + total (channel_at net i).made (v (channel_at net i).source) = can i below into in
            let z = some-stamp s v i (total (channel_at net i).taken (v a)) (omega arith) in
            none (total (channel_at net i).taken (v a)) z.0 some (((let h : total (channel_at net i).taken (v a) ≤ total (channel_at net i).taken (v a) = omega arith in h), some), z.1))

    last-decided : AreDecided (Last s v a (v a)) (length net.channels)
    last-decided i below = ⊎_elim (λ (into : (channel_at net i).target ≡ a). inl (last-on i below into)) (λ (other : (channel_at net i).target ≡ a → ⊥). inr (λ z is. other is.into)) (cases_eq (channel_at net i).target a)

    pub next-start : (i : ℕ) → i < length net.channels → (channel_at net i).target ≡ a → (z : ℕ) × IsStart s v a (v a) z
    next-start i below into = found (best_of (Last s v a (v a)) (one-last s v a (v a)) (length net.channels) last-decided)
      where
        found : Best (Last s v a (v a)) (length net.channels) ⊎ ((k z : ℕ) → k < length net.channels → Last s v a (v a) k z → ⊥) → (z : ℕ) × IsStart s v a (v a) z
        found (inl best) = (
          best.best,
          record {
            after = λ k m y place target takes stamp. (let last = last-on k place target in
                let low : y ≤ last.0 = last.1.top m y takes stamp in
                let high : last.0 ≤ best.best = best.top k last.0 place last.1 in omega arith);
            just = (best.place, best.is.token, best.below, best.is.into, best.is.takes, best.is.stamp);
          },
        )
        found (inr none) = absurd (let last = last-on i below into in none i last.0 below last.1)

  -- ---- firing after firing

  -- the starts of the first v firings of each actor
  pub record AreStarts (s : Starts) (v : ℕ → ℕ) : Type 0 where
    pub fed : (i j : ℕ) → i < length net.channels → j < v (channel_at net i).target → total (channel_at net i).taken (j + 1) ≤ (channel_at net i).tokens + total (channel_at net i).made (v (channel_at net i).source)
    pub each : (a j : ℕ) → a < length net.times → j < v a → IsStart s v a j (s a j)

  -- other starts that are the same for the first v firings
  pub record Extends (s : Starts) (v : ℕ → ℕ) (s' : Starts) (v' : ℕ → ℕ) : Type 0 where
    pub more : (b : ℕ) → v b ≤ v' b
    pub same : (b k : ℕ) → k < v b → s' b k ≡ s b k

  -- a token that the first v firings put keeps its stamp
  stamp-on : (s : Starts) (v : ℕ → ℕ) (s' : Starts) (v' : ℕ → ℕ) → Extends s v s' v' → (i m z : ℕ) → Stamped s v i m z → Stamped s' v' i m z
  stamp-on s v s' v' more i m z (inl there) = inl there
  stamp-on s v s' v' more i m z (inr (k, puts, before, is)) =
      let wide : v (channel_at net i).source ≤ v' (channel_at net i).source = more.more (channel_at net i).source in
      inr (k, puts, omega arith, is ∙ ap (λ (n : ℕ). n + time_of net (channel_at net i).source k) (sym (more.same (channel_at net i).source k before)))

  stamp-back : (s : Starts) (v : ℕ → ℕ) (s' : Starts) (v' : ℕ → ℕ) → Extends s v s' v' → (i m z : ℕ) → m < (channel_at net i).tokens + total (channel_at net i).made (v (channel_at net i).source) →
      Stamped s' v' i m z → Stamped s v i m z
  stamp-back s v s' v' more i m z below stamp = let old = some-stamp s v i m below in
      let same : old.0 ≡ z = one-stamp s' v' i m old.0 z (stamp-on s v s' v' more i m old.0 old.1) stamp in
      subst (λ (n : ℕ). Stamped s v i m n) same old.1

  -- and so does a firing its start
  start-on : (s : Starts) (v : ℕ → ℕ) (s' : Starts) (v' : ℕ → ℕ) → Extends s v s' v' → (a j z : ℕ) →
      ((i : ℕ) → i < length net.channels → (channel_at net i).target ≡ a → total (channel_at net i).taken (j + 1) ≤ (channel_at net i).tokens + total (channel_at net i).made (v (channel_at net i).source)) →
      IsStart s v a j z → IsStart s' v' a j z
  start-on s v s' v' more a j z fed start = record {
    after = λ i m y below into takes stamp. (let high : m < total (channel_at net i).taken (j + 1) = takes.1 in let there : total (channel_at net i).taken (j + 1) ≤ (channel_at net i).tokens + total (channel_at net i).made (v (channel_at net i).source) = fed i below into in
        start.after i m y below into takes (stamp-back s v s' v' more i m y (omega arith) stamp));
    just = (start.just.0, start.just.1, start.just.2, start.just.3, start.just.4, stamp-on s v s' v' more start.just.0 start.just.1 z start.just.5);
  }

  module _ (s : Starts) (v : ℕ → ℕ) (a z : ℕ) (starts : AreStarts s v) (actor : a < length net.times) (can : CanFire net v a) (start : IsStart s v a (v a) z) where
    -- one more start
    pub changed : Starts
    changed b k = if (b == a) && (k == v a) then z else s b k

    changed-here : changed a (v a) ≡ z
    unfolding changed
    changed-here = let one : (a == a) ≡ true = eq-eqb a a refl in let two : (v a == v a) ≡ true = eq-eqb (v a) (v a) refl in rw one (rw two refl)

    changed-there : (b k : ℕ) → k < v b → changed b k ≡ s b k
    unfolding changed
    changed-there b k below = ⊎_elim
        (λ (here : b ≡ a). (let apart : (k == v a) ≡ false = ne_eqb k (v a) (λ same. (let e : v b ≡ v a = ap v here in omega arith)) in rw apart (either (b == a) refl)))
        (λ (there : b ≡ a → ⊥). (let apart : (b == a) ≡ false = ne_eqb b a there in rw apart refl))
        (cases_eq b a)
      where
        either : (t : Bool) → (b == a) ≡ t → (if t && false then z else s b k) ≡ s b k
        either true is = refl
        either false is = refl

    extends : Extends s v changed (one_more v a)
    extends = record { more = bump-more v a; same = changed-there }

    fed-by : (i j : ℕ) → i < length net.channels → j < one_more v a (channel_at net i).target → total (channel_at net i).taken (j + 1) ≤ (channel_at net i).tokens + total (channel_at net i).made (v (channel_at net i).source)
    fed-by i j below early = ⊎_elim
        (λ (old : j < v (channel_at net i).target). starts.fed i j below old)
        (λ (last : ((channel_at net i).target ≡ a) × (j ≡ v a)). (let there = can i below last.0 in subst (λ (n : ℕ). total (channel_at net i).taken (n + 1) ≤ (channel_at net i).tokens + total (channel_at net i).made (v (channel_at net i).source)) (sym last.1) there))
        (bump-cases v a (channel_at net i).target j early)

    pub more-starts : AreStarts changed (one_more v a)
    more-starts = record {
      fed = λ i j below early. (let one = fed-by i j below early in let wide : total (channel_at net i).made (v (channel_at net i).source) ≤ total (channel_at net i).made (one_more v a (channel_at net i).source) = total-le (channel_at net i).made (bump-more v a (channel_at net i).source) in omega arith);
      each = λ b j there early. ⊎_elim
          (λ (old : j < v b). subst (λ (n : ℕ). IsStart changed (one_more v a) b j n) (sym (changed-there b j old))
          (start-on s v changed (one_more v a) extends b j (s b j) (λ i below into. fed-by i j below (subst (λ (c : ℕ). j < one_more v a c) (sym into) early)) (starts.each b j there old)))
          (λ (last : (b ≡ a) × (j ≡ v a)). (let moved : IsStart changed (one_more v a) a (v a) z = start-on s v changed (one_more v a) extends a (v a) z (λ i below into. can i below into) start in
          let named : IsStart changed (one_more v a) a (v a) (changed a (v a)) = subst (λ (n : ℕ). IsStart changed (one_more v a) a (v a) n) (sym changed-here) moved in
          subst (λ (c : ℕ). IsStart changed (one_more v a) c j (changed c j)) (sym last.0) (subst (λ (n : ℕ). IsStart changed (one_more v a) a n (changed a n)) (sym last.1) named)))
          (bump-cases v a b j early);
    }

  module _ (inputs : HasInputs net) (moves : (i j : ℕ) → i < length net.channels → total (channel_at net i).taken j < total (channel_at net i).taken (j + 1)) where
    -- the starts of a list of firings
    pub starts-of : (order : List ℕ) (s : Starts) (v : ℕ → ℕ) → Fires net v order → AreStarts s v → (s' : Starts) × AreStarts s' (counts_after v order)
    starts-of [] s v fires starts = (s, starts)
    starts-of (a ∷ order) s v fires starts =
        let i = inputs a fires.0 in
        let z = next-start s v a fires.2 (λ k below into. moves k (v a) below) i.0 i.1 i.2 in
        starts-of order (changed s v a z.0 starts fires.0 fires.2 z.1) (one_more v a) fires.3 (more-starts s v a z.0 starts fires.0 fires.2 z.1)

    -- those of a round
    pub round-starts : (order : List ℕ) → Fires net none_fired order → (s : Starts) × AreStarts s (counts_after none_fired order)
    round-starts order fires = starts-of order (λ b k. 0) none_fired fires (record { fed = λ i j below early. absurd (omega arith); each = λ a j there early. absurd (omega arith) })
