-- The starts of a round are one, where the round can be completed.
use Rattle.std.proofs.Common.{◌≡◌, ℕ, ◌+◌, ◌≤◌, ◌<◌, List, [], ◌∷◌, length, sym, ap, subst, ◌∙◌, inl, inr, ⊎_elim, arith}
use Rattle.std.specs.Prelude.{slice_index}
use Rattle.std.proofs.lemmas.Bool.{cases_lt, cases_eq}
use Rattle.std.proofs.lemmas.List.{ext_get_or}
use Rattle.sd_base.specs.Net.{Net, channel_at, total}
use Rattle.sd_base.specs.Schedules.{Schedule, count_of, start_of, end_of, time_of}
use Rattle.sd_base.specs.Lawful.{Lawful}
use Rattle.sd_base.specs.Untimed.{none_fired, one_more, Fires, counts_after, IsRoundOrder}
use Rattle.sd_base.proofs.SumsRepeatByTurns.{total-le}
use Rattle.sd_base.proofs.ClosedCountsBoundRuns.{bump-same, bump-other}
use Rattle.token_matrix.proofs.TokensHaveProducers.{one_producer}
use Rattle.token_matrix.specs.Stamps.{HasStamp, AreRoundStarts, AreStamps}

-- each shared token is one of a channel
abbrev pub Covers : Net → (ℕ → ℕ) → ℕ → Type 0
Covers net first count = (p : ℕ) → p < count → (i : ℕ) × (k : ℕ) × (i < length net.channels) × (k < (channel_at net i).tokens) × (first i + k ≡ p)

module _ (net : Net) (laws : Lawful net) (first : ℕ → ℕ) (x : List ℕ) where
  -- up to v firings of each actor the starts agree
  abbrev Agree : Schedule → Schedule → (ℕ → ℕ) → Type 0
  Agree s t v = (b k : ℕ) → b < length net.times → k < v b → start_of s b k ≡ start_of t b k

  -- a token that so many firings have put has one stamp
  moved : (s t : Schedule) (v : ℕ → ℕ) → AreRoundStarts net first x s → AreRoundStarts net first x t → Agree s t v → (i m z : ℕ) → i < length net.channels
      → m < (channel_at net i).tokens + total (channel_at net i).made (v (channel_at net i).source) → HasStamp net first x s i m z → HasStamp net first x t i m z
  moved s t v of_s of_t agree i m z place made (inl is) = inl is
  moved s t v of_s of_t agree i m z place made (inr (k, put, there, is)) =
      let source : (channel_at net i).source < length net.times = laws.sources i place in
      let earlier : k < v (channel_at net i).source = ⊎_elim (λ (h : k < v (channel_at net i).source). h)
      (λ (h : v (channel_at net i).source ≤ k). absurd (let more : total (channel_at net i).made (v (channel_at net i).source) ≤ total (channel_at net i).made k = total-le (channel_at net i).made h in
      let low : (channel_at net i).tokens + total (channel_at net i).made k ≤ m = put.0 in let no : ⊥ = omega arith in no)) (cases_lt k (v (channel_at net i).source)) in
      let same : start_of s (channel_at net i).source k ≡ start_of t (channel_at net i).source k = agree (channel_at net i).source k source earlier in
      let counts : count_of s (channel_at net i).source ≡ count_of t (channel_at net i).source = of_s.whole (channel_at net i).source source ∙ sym (of_t.whole (channel_at net i).source source) in
      inr (k, put, subst (λ (n : ℕ). k < n) counts there, is ∙ ap (λ (n : ℕ). n + time_of net (channel_at net i).source k) same)

  -- the next firing starts no later in the other table
  no_later : (s t : Schedule) (v : ℕ → ℕ) (a : ℕ) → AreRoundStarts net first x s → AreRoundStarts net first x t → Agree s t v → a < length net.times → v a < slice_index net.round a
      → ((i : ℕ) → i < length net.channels → (channel_at net i).target ≡ a →
      total (channel_at net i).taken (v a + 1) ≤ (channel_at net i).tokens + total (channel_at net i).made (v (channel_at net i).source))
      → start_of s a (v a) ≤ start_of t a (v a)
  no_later s t v a of_s of_t agree actor below feeds =
      let j = of_s.just a (v a) actor (subst (λ (n : ℕ). v a < n) (sym (of_s.whole a actor)) below) in
      let fed : total (channel_at net j.0).taken (v a + 1) ≤ (channel_at net j.0).tokens + total (channel_at net j.0).made (v (channel_at net j.0).source) = feeds j.0 j.2 j.3 in
      let takes : j.1 < total (channel_at net j.0).taken (v a + 1) = j.4.1 in
      let stamp : HasStamp net first x t j.0 j.1 (start_of s a (v a)) = moved s t v of_s of_t agree j.0 j.1 (start_of s a (v a)) j.2 (omega arith) j.5 in
      let counted : v a < count_of t (channel_at net j.0).target = subst (λ (b : ℕ). v a < count_of t b) (sym j.3) (subst (λ (n : ℕ). v a < n) (sym (of_t.whole a actor)) below) in
      subst (λ (b : ℕ). start_of s a (v a) ≤ start_of t b (v a)) j.3 (of_t.after j.0 j.1 (v a) (start_of s a (v a)) j.2 counted j.4 stamp)

  more : (s t : Schedule) (v : ℕ → ℕ) (a : ℕ) → Agree s t v → start_of s a (v a) ≡ start_of t a (v a) → Agree s t (one_more v a)
  more s t v a agree same b k actor below = ⊎_elim
      (λ (h : b ≡ a). let c : k < v a + 1 = subst (λ (n : ℕ). k < n) (ap (λ (d : ℕ). one_more v a d) h ∙ bump-same v a) below in
      ⊎_elim (λ (g : k < v a). agree b k actor (subst (λ (d : ℕ). k < v d) (sym h) g))
      (λ (g : v a ≤ k). let e : k ≡ v a = omega arith in
      subst (λ (d : ℕ). start_of s d k ≡ start_of t d k) (sym h) (subst (λ (n : ℕ). start_of s a n ≡ start_of t a n) (sym e) same)) (cases_lt k (v a)))
      (λ (h : b ≡ a → ⊥). agree b k actor (subst (λ (n : ℕ). k < n) (bump-other v a b h) below))
      (cases_eq b a)

  along : (s t : Schedule) → AreRoundStarts net first x s → AreRoundStarts net first x t → (order : List ℕ) (v : ℕ → ℕ) → Fires net v order → Agree s t v → Agree s t (counts_after v order)
  along s t of_s of_t [] v fires agree = agree
  along s t of_s of_t (a ∷ order) v fires agree =
      let up : start_of s a (v a) ≤ start_of t a (v a) = no_later s t v a of_s of_t agree fires.0 fires.1 fires.2 in
      let back : Agree t s v = λ b k h g. sym (agree b k h g) in
      let down : start_of t a (v a) ≤ start_of s a (v a) = no_later t s v a of_t of_s back fires.0 fires.1 fires.2 in
      along s t of_s of_t order (one_more v a) fires.3 (more s t v a agree (let e : start_of s a (v a) ≡ start_of t a (v a) = omega arith in e))

  -- the starts of a round that can be completed are one
  pub one_round : (order : List ℕ) → IsRoundOrder net order → (s t : Schedule) → AreRoundStarts net first x s → AreRoundStarts net first x t
      → (a k : ℕ) → a < length net.times → k < slice_index net.round a → start_of s a k ≡ start_of t a k
  one_round order round s t of_s of_t a k actor below =
      along s t of_s of_t order none_fired round.fires (λ b j h g. absurd (let no : ⊥ = omega arith in no)) a k actor (subst (λ (n : ℕ). k < n) (sym (round.whole a actor)) below)

  one_stamp : (s t : Schedule) (order : List ℕ) → IsRoundOrder net order → AreRoundStarts net first x s → AreRoundStarts net first x t → (i m y z : ℕ) → i < length net.channels
      → HasStamp net first x s i m y → HasStamp net first x t i m z → y ≡ z
  one_stamp s t order round of_s of_t i m y z place (inl (h, is)) (inl (g, also)) = is ∙ sym also
  one_stamp s t order round of_s of_t i m y z place (inl (h, is)) (inr (k, put, there, also)) = absurd (let low : (channel_at net i).tokens + total (channel_at net i).made k ≤ m = put.0 in let no : ⊥ = omega arith in no)
  one_stamp s t order round of_s of_t i m y z place (inr (k, put, there, also)) (inl (h, is)) = absurd (let low : (channel_at net i).tokens + total (channel_at net i).made k ≤ m = put.0 in let no : ⊥ = omega arith in no)
  one_stamp s t order round of_s of_t i m y z place (inr (k, put, there, is)) (inr (l, put', there', also)) =
      let source : (channel_at net i).source < length net.times = laws.sources i place in
      let e : k ≡ l = one_producer net i m k l put put' in
      let below : k < slice_index net.round (channel_at net i).source = subst (λ (n : ℕ). k < n) (of_s.whole (channel_at net i).source source) there in
      is ∙ ap (λ (n : ℕ). n + time_of net (channel_at net i).source k) (one_round order round s t of_s of_t (channel_at net i).source k source below)
      ∙ ap (λ (n : ℕ). end_of net t (channel_at net i).source n) e ∙ sym also

  -- and so are the stamps after it
  pub one_stamps : (count : ℕ) (order : List ℕ) → IsRoundOrder net order → Covers net first count → (y z : List ℕ) → AreStamps net first count x y → AreStamps net first count x z → y ≡ z
  one_stamps count order round covers y z is also = ext_get_or 0 y z (is.after ∙ sym also.after) (λ p below.
      let c = covers p (let e : length y ≡ count = is.after in let g : p < count = omega arith in g) in
      let e : slice_index y (first c.0 + c.1) ≡ slice_index z (first c.0 + c.1) = one_stamp is.starts also.starts order round is.round also.round c.0 _ _ _ c.2 (is.left c.0 c.1 c.2 c.3) (also.left c.0 c.1 c.2 c.3) in
      subst (λ (q : ℕ). slice_index y q ≡ slice_index z q) c.4 e)
