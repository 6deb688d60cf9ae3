-- A net can hold capacities each of which fits its channel.
use Rattle.std.proofs.Common.{◌≡◌, ℕ, suc, ◌≤◌, ◌<◌, Option, None, Some, List, [], ◌∷◌, length, refl, arith}
use Rattle.std.specs.Prelude.{slice_index_or, ◌≢◌}
use Rattle.sd_base.specs.declared.limits.TheConstants.{NET_TOKENS}
use Rattle.sd_base.specs.Net.{Channel, nowhere}
use Rattle.storage.specs.Distributions.{CanHold}

-- the channel can hold the entry
abbrev pub Fits : Channel → Option ℕ → Type 0
Fits c entry = (k : ℕ) → entry ≡ Some k → (c.source ≢ c.target) × (c.tokens ≤ k) × (k ≤ NET_TOKENS)

pub can-hold : (cs : List Channel) (ds : List (Option ℕ)) → length ds ≤ length cs → ((i : ℕ) → i < length ds → Fits (slice_index_or cs i nowhere) (slice_index_or ds i None)) → CanHold cs ds
can-hold [] [] few all = tt
can-hold [] (d ∷ ds) few all = absurd (omega arith)
can-hold (c ∷ cs) [] few all = tt
can-hold (c ∷ cs) (None ∷ ds) few all = can-hold cs ds (omega arith) (λ i below. all (suc i) (omega arith))
can-hold (c ∷ cs) (Some k ∷ ds) few all =
    let here = all 0 (omega arith) k refl in
    (here.0, here.1, here.2, can-hold cs ds (omega arith) (λ i below. all (suc i) (omega arith)))
