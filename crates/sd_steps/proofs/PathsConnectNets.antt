-- From paths over the ends of channels to connection and inputs of a net.
use Rattle.std.proofs.Common.{◌≡◌, ℕ, ◌<◌, List, length, ap, sym, subst, ◌∙◌}
use Rattle.std.proofs.lemmas.Option.{slice_get-get_or}
use Rattle.std.specs.Prelude.{slice_get, Some}
use Rattle.sd_base.specs.Net.{Net, channel_at}
use Rattle.sd_base.specs.Schedules.{HasInputs}
use Rattle.sd_base.specs.Connection.{AreStronglyConnected, IsConnected, IsStronglyConnected, ends_of}
use Rattle.sd_base.specs.Lawful.{Lawful}
use Rattle.sd_base.proofs.PathsAreWalks.{IsChannel, channel-of, strongly-connected}
use Rattle.balance.specs.ConnectRefusals.{HasInput}
use Rattle.sd_steps.specs.Nets.{IsFed}

-- where paths lead from each actor to each, walks lead from actor 0 to each
pub joined-connected : (net : Net) → Lawful net → IsStronglyConnected net → IsConnected net
joined-connected net laws joined = strongly-connected (length net.times) (ends_of net) laws.some_actor joined

has-input : (net : Net) (a : ℕ) → HasInput (ends_of net) a → (i : ℕ) × (i < length net.channels) × ((channel_at net i).target ≡ a)
has-input net a (k, e, within, is, into) =
    let here : slice_get (ends_of net) k ≡ Some e = slice_get-get_or (ends_of net) k e within ∙ ap (λ (p : ℕ × ℕ). Some p) is in
    let at : IsChannel net k e = channel-of net k e here in
    (k, at.place, at.target ∙ into)

-- inputs over the ends are inputs of the net
pub fed-inputs : (net : Net) → IsFed net → HasInputs net
fed-inputs net fed a actor = has-input net a (fed a actor)

-- a number of actors and pairs of them that are those of a net
module _ (net : Net) (n : ℕ) (es : List (ℕ × ℕ)) (actors : n ≡ length net.times) (ends : es ≡ ends_of net) where
  pub strongly : AreStronglyConnected n es → AreStronglyConnected (length net.times) (ends_of net)
  strongly is = subst (λ (m : ℕ). AreStronglyConnected m (ends_of net)) actors (subst (λ (xs : List (ℕ × ℕ)). AreStronglyConnected n xs) ends is)

  pub with-inputs : ((a : ℕ) → a < n → HasInput es a) → (a : ℕ) → a < length net.times → HasInput (ends_of net) a
  with-inputs all a below = subst (λ (xs : List (ℕ × ℕ)). HasInput xs a) ends (all a (subst (λ (m : ℕ). a < m) (sym actors) below))
