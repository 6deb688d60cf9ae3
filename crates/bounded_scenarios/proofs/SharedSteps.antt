-- The shared channels as channels: their steps, their roles, and the rates of their scenarios.
use Rattle.std.proofs.Common.{◌≡◌, ℕ, zero, suc, ◌+◌, ◌-◌, ◌≤◌, ◌<◌, Some, List, [], ◌∷◌, ◌++◌, length, ⊎_elim, subst, sym, ap, ◌∙◌, refl, arith}
use Rattle.std.specs.Prelude.{flat_map, slice_get, slice_index, slice_index_or}
use Rattle.std.proofs.lemmas.Bool.{cases_lt}
use Rattle.std.proofs.lemmas.List.{get_or_append_left, get_or-append_right, get_or_past}
use Rattle.sd_base.specs.declared.tables.ChannelRow.{ChannelRow}
use Rattle.sd_base.specs.declared.tables.ScenarioFile.{ScenarioFile}
use Rattle.sd_base.specs.declared.tables.ScenarioRow.{ScenarioRow}
use Rattle.sd_base.specs.declared.tables.SharedRow.{SharedRow}
use Rattle.sd_base.specs.Net.{Channel, nowhere}
use Rattle.sd_base.specs.Scenarios.{FileKeepsRules}
use Rattle.sd_base.proofs.ElementsKeepPlaces.{get-there}
use Rattle.storage.specs.Steps.{step_of}
use Rattle.storage.proofs.StepsReachMembers.{HasSteps}
use Rattle.bounded_scenarios.specs.SharedChannels.{channel_named, channels_named, shared_channel, shared_channels, shared_channels_from}
use Rattle.bounded_scenarios.proofs.ChannelsFitShared.{fits}

-- a shared channel past the first ones is one of the rows
pub shared-there : (ss : List ScenarioRow) (p : ℕ) (rows : List SharedRow) (t : ℕ) → t < length (shared_channels_from ss p rows) →
    (row : SharedRow) × (slice_get rows t ≡ Some row) × (slice_index_or (shared_channels_from ss p rows) t nowhere ≡ shared_channel ss (p + t) row)
shared-there ss p [] t below = absurd (omega arith)
shared-there ss p (row ∷ rows) zero below = (row, refl, ap (λ (n : ℕ). shared_channel ss n row) (let e : p ≡ p + 0 = omega arith in e))
shared-there ss p (row ∷ rows) (suc t) below =
    let next = shared-there ss (suc p) rows t (omega arith) in
    (next.0, next.1, next.2 ∙ ap (λ (n : ℕ). shared_channel ss n next.0) (let e : suc p + t ≡ p + suc t = omega arith in e))

-- the steps of the shared channels are at least 1, and so are the sizes of their tokens
pub shared-steps : (file : ScenarioFile) → FileKeepsRules file → HasSteps (shared_channels file)
shared-steps file rules = record { step = step; size = size }
  where
    step : (i : ℕ) → i < length (shared_channels file) → 1 ≤ step_of (slice_index_or (shared_channels file) i nowhere)
    step i below =
        let one = shared-there file.scenarios 0 file.shared i below in
        let first = get-there file.scenarios 0 (let f : 0 < length file.scenarios = omega (arith, rules.some_scenario) in f) in
        let fit = fits file.scenarios 0 first.0 first.1 file.shared (rules.scenarios 0 first.0 first.1) (0 + i) i one.0 one.1 in
        subst (λ (c : Channel). 1 ≤ step_of c) (sym one.2) fit.some

    size : (i : ℕ) → i < length (shared_channels file) → 1 ≤ (slice_index_or (shared_channels file) i nowhere).size
    size i below = let one = shared-there file.scenarios 0 file.shared i below in subst (λ (c : Channel). 1 ≤ c.size) (sym one.2) (let f : 1 ≤ 1 = omega arith in f)

-- ---- what is more than the rates of each scenario is more than those of the shared channel

bound-append : (xs ys : List ℕ) (k : ℕ) → ((p : ℕ) → slice_index xs p ≤ k) → ((p : ℕ) → slice_index ys p ≤ k) → (p : ℕ) → slice_index (xs ++ ys) p ≤ k
bound-append xs ys k first second p = ⊎_elim
    (λ (here : p < length xs). subst (λ (n : ℕ). n ≤ k) (sym (get_or_append_left xs ys 0 p here)) (first p))
    (λ (past : length xs ≤ p). subst (λ (n : ℕ). n ≤ k) (sym (get_or-append_right xs ys (length xs) p 0 refl past)) (second (p - length xs))) (cases_lt p (length xs))

pub bound-named : (f : ChannelRow → List ℕ) (ss : List ScenarioRow) (name : List ℕ) (k : ℕ) →
    ((s : ℕ) (row : ScenarioRow) → slice_get ss s ≡ Some row → (p : ℕ) → slice_index (f (channel_named row.graph.channels name)) p ≤ k) → (p : ℕ) →
    slice_index (flat_map f (channels_named ss name)) p ≤ k
bound-named f [] name k each p = omega arith
bound-named f (s ∷ ss) name k each p =
    bound-append (f (channel_named s.graph.channels name)) (flat_map f (channels_named ss name)) k (each 0 s refl) (bound-named f ss name k (λ t row at. each (suc t) row at)) p

pub bound-single : (xs : List ℕ) (k : ℕ) → length xs ≡ 1 → slice_index xs 0 ≤ k → (p : ℕ) → slice_index xs p ≤ k
bound-single xs k one small zero = small
bound-single xs k one small (suc p) = subst (λ (n : ℕ). n ≤ k) (sym (get_or_past xs (suc p) 0 (omega (arith, one)))) (let f : 0 ≤ k = omega arith in f)
