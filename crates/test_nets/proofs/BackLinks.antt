-- A net is connected where each actor but the first one shares a channel with one before it.
use Rattle.std.proofs.Common.{ℕ, zero, suc, ◌<◌, ◌≤◌, [], ◌∷◌, ◌++◌, length, inl, inr, refl, arith, below_more}
use Rattle.sd_base.specs.Net.{Net, channel_at}
use Rattle.sd_base.specs.Connection.{Meets, IsConnected, ends_of}
use Rattle.sd_base.proofs.PathsAreWalks.{pair-of, walk-append}
use Rattle.test_nets.specs.Ends.{LinksBack, AreLinkedBack}

module _ (net : Net) where
  -- a walk over such a channel leads to the actor from one before it
  walk-on : (a i : ℕ) → i < length net.channels → LinksBack net a i → (b : ℕ) × (b < a) × Meets (ends_of net) b a
  walk-on a i place (inl (less, last)) =
      ((channel_at net i).source, less, (i ∷ [], (((channel_at net i).source, (channel_at net i).target), pair-of net i place, inl (refl, last))))
  walk-on a i place (inr (less, last)) =
      ((channel_at net i).target, less, (i ∷ [], (((channel_at net i).source, (channel_at net i).target), pair-of net i place, inr (refl, last))))

  -- a walk leads from the first actor to each of the first n
  first-met : AreLinkedBack net → (n : ℕ) → n ≤ length net.times → (a : ℕ) → a < n → Meets (ends_of net) 0 a
  first-met linked zero few = λ a below. absurd (omega (arith, below))
  first-met linked (suc zero) few =
      below_more (Meets (ends_of net) 0) 0 (first-met linked zero (omega arith)) ([], refl)
  first-met linked (suc (suc n)) few = λ a below.
      let met = first-met linked (suc n) (omega (arith, few)) in
      let (i, place, back) = linked (suc n) (omega arith) (omega (arith, few)) in
      let (b, before, (walk, is)) = walk-on (suc n) i place back in
      let (way, leads) = met b before in
      below_more (Meets (ends_of net) 0) (suc n) met (way ++ walk, walk-append (ends_of net) way walk 0 b (suc n) leads is) a (omega (arith, below))

  pub are-connected : AreLinkedBack net → IsConnected net
  are-connected linked = first-met linked (length net.times) (omega arith)
