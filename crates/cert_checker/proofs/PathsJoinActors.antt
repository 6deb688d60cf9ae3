-- Paths over the ends of channels decide whether a net is connected.
use Rattle.std.proofs.Common.{◌≡◌, ℕ, ◌<◌, ◌⊎◌, ⊎_elim, List, length, true, false, true≢false, refl, sym, subst}
use Rattle.std.specs.Prelude.{IsTrue, ◌↔◌}
use Rattle.sd_base.specs.Net.{Net}
use Rattle.sd_base.specs.Connection.{AreStronglyConnected, IsStronglyConnected, ends_of}
use Rattle.balance.specs.ConnectRefusals.{IsFirstUnreached, IsFirstNotReaching}

-- a number of actors and pairs of them that are those of a net
module _ (net : Net) (n : ℕ) (es : List (ℕ × ℕ)) (actors : n ≡ length net.times) (ends : es ≡ ends_of net) where
  pub strongly : AreStronglyConnected n es → IsTrue true ↔ IsStronglyConnected net
  strongly is = ((λ t. subst (λ (m : ℕ). AreStronglyConnected m (ends_of net)) actors (subst (λ (xs : List (ℕ × ℕ)). AreStronglyConnected n xs) ends is)), λ s. refl)

  -- a pair that isn't joined
  pub apart : (from to : ℕ) → 0 < length net.times → ((from ≡ 0) × IsFirstUnreached n es to) ⊎ ((to ≡ 0) × IsFirstNotReaching n es from) → IsTrue false ↔ IsStronglyConnected net
  apart from to some refusal = ((λ t. absurd (true≢false (sym t))), λ strong. absurd (never strong refusal))
    where
      over : IsStronglyConnected net → AreStronglyConnected n es
      over strong = subst (λ (xs : List (ℕ × ℕ)). AreStronglyConnected n xs) (sym ends) (subst (λ (m : ℕ). AreStronglyConnected m (ends_of net)) (sym actors) strong)

      never : IsStronglyConnected net → ((from ≡ 0) × IsFirstUnreached n es to) ⊎ ((to ≡ 0) × IsFirstNotReaching n es from) → ⊥
      never strong r = ⊎_elim
          (λ (x : (from ≡ 0) × IsFirstUnreached n es to). x.1.unreached (over strong 0 to (rw actors some) x.1.actor))
          (λ (x : (to ≡ 0) × IsFirstNotReaching n es from). x.1.not_reaching (over strong from 0 x.1.actor (rw actors some)))
          r
