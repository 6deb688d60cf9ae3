-- What the loops over channels, scenarios and shared rows have found so far holds after one more step.
use Rattle.std.proofs.Common.{◌≡◌, ℕ, zero, suc, ◌+◌, ◌-◌, ◌≤◌, ◌<◌, Bool, true, false, Some, List, [], ◌∷◌, ◌++◌, drop, ⊎_elim, subst, ap, ◌∙◌, refl, arith}
use Rattle.std.specs.Prelude.{flat_map, slice_get, slice_index, if◌then◌else◌}
use Rattle.std.specs.Str.{bytes_eq}
use Rattle.std.proofs.lemmas.Bool.{cases_Bool, cases_lt}
use Rattle.std.proofs.lemmas.List.{at_drop_more}
use Rattle.std.proofs.lemmas.Option.{get_or_from_slice_get, slice_get_within}
use Rattle.std.proofs.lemmas.Slice.Eq.{bytes_eq-Decides}
use Rattle.sd_base.specs.declared.tables.ChannelRow.{ChannelRow}
use Rattle.sd_base.specs.declared.tables.ScenarioRow.{ScenarioRow}
use Rattle.sd_base.specs.declared.tables.SharedRow.{SharedRow}
use Rattle.bounded_scenarios.specs.Boundings.{looped_tokens}
use Rattle.bounded_scenarios.specs.SharedChannels.{channel_named, channels_named, is_looped}
use Rattle.bounded_scenarios.specs.declared.merged.Merged.{Merged}

-- the first channel of a name
pub first-named : (cs : List ChannelRow) (name : List ℕ) (i : ℕ) (c : ChannelRow) → slice_get cs i ≡ Some c → c.name ≡ name →
    ((j : ℕ) (d : ChannelRow) → j < i → slice_get cs j ≡ Some d → d.name ≡ name → ⊥) → channel_named cs name ≡ c
first-named [] name i c at same others = absurd (cc)
first-named (x ∷ cs) name zero c at same others =
    let is : x ≡ c = cc in
    let yes : bytes_eq x.name name ≡ true = (bytes_eq-Decides x.name name).1 (ap (λ (r : ChannelRow). r.name) is ∙ same) in rw yes is
first-named (x ∷ cs) name (suc i) c at same others =
    ⊎_elim (λ (yes : bytes_eq x.name name ≡ true). absurd (others 0 x (omega arith) refl ((bytes_eq-Decides x.name name).0 yes)))
    (λ (off : bytes_eq x.name name ≡ false). (let rest = first-named cs name i c at same (λ j d less there. others (suc j) d (omega arith) there) in rw off rest)) (cases_Bool (bytes_eq x.name name))

-- ---- the rates of the scenarios

-- those of the first scenarios
pub record MergedSoFar (ss : List ScenarioRow) (name : List ℕ) (i : ℕ) (j : Merged) : Type 0 where
  pub made : j.made.items ++ flat_map (λ (c : ChannelRow). c.made) (channels_named (drop i ss) name) ≡ flat_map (λ (c : ChannelRow). c.made) (channels_named ss name)
  pub taken : j.taken.items ++ flat_map (λ (c : ChannelRow). c.taken) (channels_named (drop i ss) name) ≡ flat_map (λ (c : ChannelRow). c.taken) (channels_named ss name)

looped-on : (rows : List SharedRow) (ss : List ScenarioRow) (i : ℕ) (row : SharedRow) → slice_get rows i ≡ Some row →
    looped_tokens ss (drop i rows) ≡ (if is_looped (channels_named ss row.name) then row.tokens else 0) + looped_tokens ss (drop (i + 1) rows)
looped-on rows ss i row there = at_drop_more (λ (l : List SharedRow). looped_tokens ss l) rows i row (slice_get_within rows i row there)
    ∙ ap (λ (r : SharedRow). (if is_looped (channels_named ss r.name) then r.tokens else 0) + looped_tokens ss (drop (i + 1) rows)) (get_or_from_slice_get rows i row row there)

pub looped-row : (rows : List SharedRow) (ss : List ScenarioRow) (i : ℕ) (row : SharedRow) → slice_get rows i ≡ Some row → is_looped (channels_named ss row.name) ≡ true →
    row.tokens ≤ looped_tokens ss (drop i rows)
looped-row rows ss i row there looped =
    let on = looped-on rows ss i row there in
    let tokens : (if is_looped (channels_named ss row.name) then row.tokens else 0) ≡ row.tokens = ap (λ (b : Bool). if b then row.tokens else 0) looped in
    omega (arith, on, tokens)

-- ---- the greatest of rates

pub greatest-more : (xs : List ℕ) (old new i : ℕ) → old ≤ new → slice_index xs i ≤ new → ((k : ℕ) → old ≤ k → slice_index xs i ≤ k → new ≤ k) → ((p : ℕ) → p < i → slice_index xs p ≤ old) →
    ((k : ℕ) → ((p : ℕ) → slice_index xs p ≤ k) → old ≤ k) →
    ((p : ℕ) → p < i + 1 → slice_index xs p ≤ new) × ((k : ℕ) → ((p : ℕ) → slice_index xs p ≤ k) → new ≤ k)
greatest-more xs old new i up here both covers least = (
  λ p below. ⊎_elim (λ (less : p < i). omega (arith, covers p less, up)) (λ (last : i ≤ p). subst (λ (n : ℕ). slice_index xs n ≤ new) (let e : i ≡ p = omega arith in e) here) (cases_lt p i),
  λ k all. both k (least k all) (all i),
)
