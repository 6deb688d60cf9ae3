-- The latest end of producers gives the links on a channel, and of all channels into an actor.
use Rattle.std.proofs.Common.{◌≡◌, ℕ, ◌+◌, ◌≤◌, ◌<◌, ◌⊎◌, Bool, List, [], length, Option, None, Some, inl, inr, ⊎_elim, subst, sym, ap, ◌∙◌, refl, arith}
use Rattle.std.specs.Prelude.{IsTrue, slice_index, slice_index_or}
use Rattle.std.proofs.lemmas.Bool.{cases_lt}
use Rattle.sd_base.specs.Net.{Net, channel_at, total}
use Rattle.sd_base.specs.Schedules.{time_of}
use Rattle.firing.specs.declared.sums.Port.TheVariants.{Taken}
use Rattle.firing.specs.Wiring.{IsListed}
use Rattle.firing.proofs.PlacesAreListed.{place_of}
use Rattle.token_matrix.specs.Stamps.{IsTakenBy, IsPutBy}
use Rattle.entry_ways.specs.inside.Columns.{AreProducers, IsEndIn, IsFedBy, IsLink, IsLinkInto, IsLinkOf, IsLongest, later, later_by, start_in}
use Rattle.token_matrix.proofs.TokensHaveProducers.{put_earlier}
use Rattle.entry_ways.proofs.LaterIsLongest.{longest-none, longest-one, longest-same, longest-both}

module _ (net : Net) (number : ℕ → ℕ) (p : ℕ) (rows : List (List (Option ℕ))) (i j : ℕ) where
  -- of no firing there is no end
  pub ends-none : (first : ℕ) → IsLongest (IsEndIn net rows i first first) None
  ends-none first = longest-none (IsEndIn net rows i first first) (λ t (k, d, low, high, at, is). (let no : ⊥ = omega arith in no))

  -- the end of one firing
  one-end : (k : ℕ) (o : Option ℕ) → start_in rows (channel_at net i).source k ≡ o →
      IsLongest (λ t. (d : ℕ) × (start_in rows (channel_at net i).source k ≡ Some d) × (t ≡ d + time_of net (channel_at net i).source k)) (later_by (time_of net (channel_at net i).source k) o)
  one-end k None at = longest-none _ (λ t (d, there, is). (let h : ◌≡◌ {A = Option ℕ} None (Some d) = sym at ∙ there in (cc)))
  one-end k (Some x) at = longest-one _ (x + time_of net (channel_at net i).source k) (x, at, refl)
      (λ t (d, there, is). (let h : ◌≡◌ {A = Option ℕ} (Some x) (Some d) = sym at ∙ there in let e : x ≡ d = (cc) in omega (arith, is)))

  -- one more firing
  pub ends-more : (first k : ℕ) (s : Option ℕ) → first ≤ k → IsLongest (IsEndIn net rows i first k) s →
      IsLongest (IsEndIn net rows i first (k + 1)) (later s (later_by (time_of net (channel_at net i).source k) (start_in rows (channel_at net i).source k)))
  ends-more first k s low longest =
      longest-same _ (IsEndIn net rows i first (k + 1)) _
      (λ t has. ⊎_elim
      (λ ((l, d, above, below, at, is) : IsEndIn net rows i first k t). (l, d, above, omega arith, at, is))
      (λ ((d, at, is) : (d : ℕ) × (start_in rows (channel_at net i).source k ≡ Some d) × (t ≡ d + time_of net (channel_at net i).source k)). (k, d, low, omega arith, at, is)) has)
      (λ t (l, d, above, below, at, is). ⊎_elim
      (λ (less : l < k). inl (l, d, above, less, at, is))
      (λ (last : k ≤ l). (let e : l ≡ k = omega arith in inr (
        d,
        ap (λ (n : ℕ). start_in rows (channel_at net i).source n) (sym e) ∙ at,
        is ∙ ap (λ (n : ℕ). d + time_of net (channel_at net i).source n) e,
      )))
      (cases_lt l k))
      (longest-both _ _ s (later_by (time_of net (channel_at net i).source k) (start_in rows (channel_at net i).source k)) longest (one-end k (start_in rows (channel_at net i).source k) refl))

  -- the producers have their starts
  pub producers-there : (has : Bool) (first end : ℕ) → AreProducers net number p i j has first end → IsFedBy net rows i j → (k : ℕ) → first ≤ k → k < end
      → k < length (slice_index_or rows (channel_at net i).source [])
  producers-there has first end producers fed k low high =
      let m = producers.each k low high in
      put_earlier net (λ b. length (slice_index_or rows b [])) i m.0 k (let h : m.0 < total (channel_at net i).taken (j + 1) = m.1.1 in omega (arith, fed)) m.2

  -- a link that isn't the shared token is the end of a producer
  link-end : (has : Bool) (first end : ℕ) → AreProducers net number p i j has first end → (t : ℕ) → IsEndIn net rows i first end t → IsLink net number p rows i j t
  link-end has first end producers t (k, d, low, high, at, is) = let m = producers.each k low high in inr (m.0, k, d, m.1, m.2, at, is)

  end-link : (has : Bool) (first end : ℕ) → AreProducers net number p i j has first end → (t : ℕ) → (m : ℕ) × (k : ℕ) × (d : ℕ) × IsTakenBy (channel_at net i) m j × IsPutBy (channel_at net i) m k
      × (start_in rows (channel_at net i).source k ≡ Some d) × (t ≡ d + time_of net (channel_at net i).source k) → IsEndIn net rows i first end t
  end-link has first end producers t (m, k, d, takes, puts, at, is) = let range = producers.all m k takes puts in (k, d, range.0, range.1, at, is)

  pub token-links : (has : Bool) (first end : ℕ) (s : Option ℕ) → AreProducers net number p i j has first end → IsTrue has → IsLongest (IsEndIn net rows i first end) s
      → IsLongest (IsLink net number p rows i j) (later (Some 0) s)
  token-links has first end s producers held longest =
      longest-same _ (IsLink net number p rows i j) _
      (λ t has_one. ⊎_elim
      (λ (here : t ≡ 0). (let m = producers.token.0 held in inl (m.0, m.1, m.2, m.3, here)))
      (λ (end_is : IsEndIn net rows i first end t). link-end has first end producers t end_is) has_one)
      (λ t link. sides t link)
      (longest-both (λ t. t ≡ 0) (IsEndIn net rows i first end) (Some 0) s (longest-one (λ t. t ≡ 0) 0 refl (λ t is. omega arith)) longest)
    where
      sides : (t : ℕ) → IsLink net number p rows i j t → (t ≡ 0) ⊎ IsEndIn net rows i first end t
      sides t (inl (m, takes, there, at, is)) = inl is
      sides t (inr link) = inr (end-link has first end producers t link)

  pub other-links : (has : Bool) (first end : ℕ) (s : Option ℕ) → AreProducers net number p i j has first end → (IsTrue has → ⊥) → IsLongest (IsEndIn net rows i first end) s
      → IsLongest (IsLink net number p rows i j) s
  other-links has first end s producers free longest =
      longest-same (IsEndIn net rows i first end) (IsLink net number p rows i j) s (λ t end_is. link-end has first end producers t end_is) back longest
    where
      back : (t : ℕ) → IsLink net number p rows i j t → IsEndIn net rows i first end t
      back t (inl (m, takes, there, at, is)) = absurd (free (producers.token.1 (m, takes, there, at)))
      back t (inr link) = end-link has first end producers t link

module _ (net : Net) (number : ℕ → ℕ) (p : ℕ) (rows : List (List (Option ℕ))) (a j : ℕ) (channels : List ℕ) where
  pub links-none : IsLongest (IsLinkOf net number p rows channels 0 j) None
  links-none = longest-none (IsLinkOf net number p rows channels 0 j) (λ t (l, below, is). (let no : ⊥ = omega arith in no))

  pub links-more : (n i : ℕ) (s e : Option ℕ) → slice_index channels n ≡ i → IsLongest (IsLinkOf net number p rows channels n j) s → IsLongest (IsLink net number p rows i j) e →
      IsLongest (IsLinkOf net number p rows channels (n + 1) j) (later s e)
  links-more n i s e here longest one =
      longest-same _ (IsLinkOf net number p rows channels (n + 1) j) _
      (λ t has. ⊎_elim
      (λ ((l, below, is) : IsLinkOf net number p rows channels n j t). (l, omega arith, is))
      (λ (is : IsLink net number p rows i j t). (n, omega arith, subst (λ (c : ℕ). IsLink net number p rows c j t) (sym here) is)) has)
      (λ t (l, below, is). ⊎_elim
      (λ (less : l < n). inl (l, less, is))
      (λ (last : n ≤ l). (let same : l ≡ n = omega arith in inr (subst (λ (c : ℕ). IsLink net number p rows c j t) (ap (λ (k : ℕ). slice_index channels k) same ∙ here) is)))
      (cases_lt l n))
      (longest-both (IsLinkOf net number p rows channels n j) (IsLink net number p rows i j) s e longest one)

  -- of all channels into the actor
  pub links-all : (n : ℕ) (s : Option ℕ) → IsListed net Taken a channels → length channels ≤ n → IsLongest (IsLinkOf net number p rows channels n j) s → ((l : ℕ) → l < n → l < length channels) →
      IsLongest (IsLinkInto net number p rows a j) s
  links-all n s listed whole longest inside =
      longest-same (IsLinkOf net number p rows channels n j) (IsLinkInto net number p rows a j) s
      (λ t (l, below, is). (slice_index channels l, listed.place l (inside l below), listed.there l (inside l below), is))
      (λ t (i, place, into, is). (let l = place_of net Taken a channels listed i place into in (l.0, omega (arith, l.1), subst (λ (c : ℕ). IsLink net number p rows c j t) (sym l.2) is)))
      longest
