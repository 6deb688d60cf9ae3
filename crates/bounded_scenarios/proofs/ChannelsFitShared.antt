-- The channel of a scenario fits the shared one: the step divides its rates, and it has the row's tokens.
use Rattle.std.proofs.Common.{◌≡◌, ℕ, zero, suc, ◌+◌, ◌*◌, ◌≤◌, ◌<◌, Some, List, [], ◌∷◌, ◌++◌, length, sum, ⊎_elim, subst, sym, ap, ◌∙◌, arith}
use Rattle.std.specs.Prelude.{slice_index, slice_get, flat_map}
use Rattle.std.proofs.lemmas.Bool.{cases_lt}
use Rattle.std.proofs.lemmas.List.{get_or_append_left, get_or-append-add, get_or_past}
use Rattle.sd_base.specs.declared.tables.ChannelRow.{ChannelRow}
use Rattle.sd_base.specs.declared.tables.ScenarioRow.{ScenarioRow}
use Rattle.sd_base.specs.declared.tables.SharedRow.{SharedRow}
use Rattle.sd_base.specs.Net.{Channel, total}
use Rattle.sd_base.specs.Tables.{ChannelKeepsRules, phases_of}
use Rattle.sd_base.specs.Scenarios.{ScenarioKeepsRules}
use Rattle.sd_base.proofs.SumsRepeatByTurns.{total-turn, total-bound}
use Rattle.sd_base.proofs.ElementsKeepPlaces.{all-get}
use Rattle.storage.specs.Steps.{step_of}
use Rattle.storage.proofs.ChannelSteps.{AreWhole, made-whole, taken-whole}
use Rattle.bounded_scenarios.specs.SharedChannels.{channel_named, channels_named, shared_channel}
use Rattle.bounded_scenarios.proofs.NamedChannels.{shared-named}

-- ---- parts of a list of whole numbers

whole-left : (g : ℕ) (xs ys : List ℕ) → AreWhole g (xs ++ ys) → AreWhole g xs
whole-left g xs ys whole p = ⊎_elim (λ (here : p < length xs). ((whole p).0, sym (get_or_append_left xs ys 0 p here) ∙ (whole p).1))
    (λ (past : length xs ≤ p). (0, get_or_past xs p 0 past ∙ omega arith)) (cases_lt p (length xs))

whole-right : (g : ℕ) (xs ys : List ℕ) → AreWhole g (xs ++ ys) → AreWhole g ys
whole-right g xs ys whole p = ((whole (length xs + p)).0, sym (get_or-append-add xs ys p 0) ∙ (whole (length xs + p)).1)

whole-named : (g : ℕ) (f : ChannelRow → List ℕ) (ss : List ScenarioRow) (name : List ℕ) → AreWhole g (flat_map f (channels_named ss name)) →
    (s : ℕ) (row : ScenarioRow) → slice_get ss s ≡ Some row → AreWhole g (f (channel_named row.graph.channels name))
whole-named g f [] name whole s row at = absurd (cc)
whole-named g f (x ∷ ss) name whole zero row at =
    let is : x ≡ row = cc in
    subst (λ (r : ScenarioRow). AreWhole g (f (channel_named r.graph.channels name))) is (whole-left g (f (channel_named x.graph.channels name)) (flat_map f (channels_named ss name)) whole)
whole-named g f (x ∷ ss) name whole (suc s) row at = whole-named g f ss name (whole-right g (f (channel_named x.graph.channels name)) (flat_map f (channels_named ss name)) whole) s row at

some-whole : (g : ℕ) (xs : List ℕ) → AreWhole g xs → 1 ≤ sum xs → 1 ≤ g
some-whole g xs whole some = ⊎_elim (λ (none : g < 1). absurd
    (let nothing : (p : ℕ) → slice_index xs p ≤ 0 = λ p. zero-here none p in let few : total xs (length xs) ≤ length xs * 0 = total-bound xs 0 (length xs) nothing in
    omega (arith, total-turn xs))) (λ (h : 1 ≤ g). h) (cases_lt g 1)
  where
    zero-here : g < 1 → (p : ℕ) → slice_index xs p ≤ 0
    zero-here none p = let zero_here : g ≡ 0 = omega arith in let product : (whole p).0 * g ≡ (whole p).0 * 0 = ap (λ (n : ℕ). (whole p).0 * n) zero_here in omega (arith, (whole p).1)

-- ---- they fit

-- the step of the shared channel divides the rates, and the tokens are the same
pub record FitsShared (c : ChannelRow) (shared : Channel) : Type 0 where
  pub some : 1 ≤ step_of shared
  pub made : AreWhole (step_of shared) c.made
  pub taken : AreWhole (step_of shared) c.taken
  pub tokens : c.tokens ≡ shared.tokens

-- the channel of a shared row in each scenario of a file fits the shared channel
pub fits : (ss : List ScenarioRow) (s : ℕ) (sc : ScenarioRow) → slice_get ss s ≡ Some sc → (shared : List SharedRow) → ScenarioKeepsRules shared sc → (p t : ℕ) (row : SharedRow) →
    slice_get shared t ≡ Some row →
    FitsShared (channel_named sc.graph.channels row.name) (shared_channel ss p row)
fits ss s sc at shared keeps p t row there =
    let one = shared-named shared sc.graph keeps.shares t row there in
    let rules : ChannelKeepsRules (phases_of sc.graph) (channel_named sc.graph.channels row.name) = all-get (ChannelKeepsRules (phases_of sc.graph)) sc.graph.channels one.0
    (channel_named sc.graph.channels row.name) keeps.rules.channels one.1 in
    let made : AreWhole (step_of (shared_channel ss p row)) (channel_named sc.graph.channels row.name).made = whole-named (step_of (shared_channel ss p row))
    (λ (c : ChannelRow). c.made) ss row.name (made-whole (shared_channel ss p row)) s sc at in
    let taken : AreWhole (step_of (shared_channel ss p row)) (channel_named sc.graph.channels row.name).taken = whole-named (step_of (shared_channel ss p row))
    (λ (c : ChannelRow). c.taken) ss row.name (taken-whole (shared_channel ss p row)) s sc at in
    record { some = some-whole (step_of (shared_channel ss p row)) (channel_named sc.graph.channels row.name).made made rules.made.moves; made = made; taken = taken; tokens = one.2 }
