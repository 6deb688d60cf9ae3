-- What the rules of a file say of its shared rows, and the steps of the loops over them.
use Rattle.std.proofs.Common.{◌≡◌, ℕ, suc, ◌+◌, ◌*◌, ◌≤◌, ◌<◌, Bool, true, false, Option, None, Some, List, [], ◌∷◌, ◌++◌, length, take, map, sum, ⊎_elim, subst, sym, ap, ◌∙◌, refl, arith}
use Rattle.std.specs.Prelude.{All, MatchOption, ◌≢◌, flat_map, slice_get, slice_index, if◌then◌else◌}
use Rattle.std.specs.Option.{unwrap_or}
use Rattle.std.proofs.Math.Nat.{mul-le-mul_right}
use Rattle.std.proofs.lemmas.Bool.{cases_lt}
use Rattle.std.proofs.lemmas.List.{get_or_past, length-append, take_more}
use Rattle.std.proofs.lemmas.Option.{get_or_from_slice_get, slice_get_within}
use Rattle.std.proofs.lemmas.List.Sums.{sum_by-append}
use Rattle.sd_base.specs.declared.limits.TheConstants.{NODES, RATE, TOKENS}
use Rattle.sd_base.specs.declared.tables.ChannelRow.{ChannelRow}
use Rattle.sd_base.specs.declared.tables.ScenarioFile.{ScenarioFile}
use Rattle.sd_base.specs.declared.tables.ScenarioRow.{ScenarioRow}
use Rattle.sd_base.specs.declared.tables.SharedRow.{SharedRow}
use Rattle.sd_base.specs.Net.{Channel}
use Rattle.sd_base.specs.Scenarios.{FileKeepsRules, shared_count}
use Rattle.sd_base.specs.Tables.{ChannelKeepsRules, phases_of}
use Rattle.sd_base.proofs.ElementsKeepPlaces.{all-get, get-there}
use Rattle.levels.specs.declared.channel.ChannelStep.{ChannelStep}
use Rattle.levels.specs.Frontiers.{channel_step}
use Rattle.storage.specs.Distributions.{IsDistribution, storage_of}
use Rattle.storage.specs.Steps.{CoversRates, IsCorner, IsCornerAt, divisor_of, step_of}
use Rattle.bounded_scenarios.specs.SharedChannels.{channel_named, channels_named, is_looped, shared_channel, shared_channels, shared_channels_from}
use Rattle.bounded_scenarios.specs.inside.MergedRates.{IsMerged, IsLimited, merged_channel}
use Rattle.bounded_scenarios.specs.inside.Naming.{CoverAll, NameAll}
use Rattle.bounded_scenarios.specs.declared.merged.Merged.{Merged}
use Rattle.bounded_scenarios.proofs.StorageCountsTokens.{dist-long, dist-room, rows-few}
use Rattle.bounded_scenarios.proofs.NamedChannels.{shared-named}
use Rattle.bounded_scenarios.proofs.SharedSteps.{bound-named}

-- ---- what the rules say

module _ (file : ScenarioFile) (rules : FileKeepsRules file) where
  pub cover-all : (ds : List (Option ℕ)) → IsDistribution (shared_channels file) ds → CoverAll file.scenarios file.shared ds
  cover-all ds is s sc at = record {
    long = dist-long file.scenarios 0 file.shared ds is;
    named = λ t row there. (let one = (rules.scenarios s sc at).shares.rows t row there in (one.0, one.1, one.2, one.3));
    covered = λ t k row there has. (
        let one = shared-named file.shared sc.graph (rules.scenarios s sc at).shares t row there in
        omega (arith, one.2, (dist-room file.scenarios 0 file.shared ds is t k row there has).0));
  }

  pub name-all : (t : ℕ) (row : SharedRow) → slice_get file.shared t ≡ Some row → NameAll file.scenarios row.name
  name-all t row there s sc at = let one = (rules.scenarios s sc at).shares.rows t row there in (one.0, one.1, one.2, one.3)

  row-rules : (s : ℕ) (sc : ScenarioRow) → slice_get file.scenarios s ≡ Some sc → (t : ℕ) (row : SharedRow) → slice_get file.shared t ≡ Some row →
      ChannelKeepsRules (phases_of sc.graph) (channel_named sc.graph.channels row.name)
  row-rules s sc at t row there =
      let one = shared-named file.shared sc.graph (rules.scenarios s sc at).shares t row there in
      all-get (ChannelKeepsRules (phases_of sc.graph)) sc.graph.channels one.0 (channel_named sc.graph.channels row.name) (rules.scenarios s sc at).rules.channels one.1

  few-rates : (xs : List ℕ) → All (λ r. r ≤ RATE) xs → (p : ℕ) → slice_index xs p ≤ RATE
  few-rates xs all p = ⊎_elim
      (λ (here : p < length xs). all p 0 here)
      (λ (past : length xs ≤ p). subst (λ (n : ℕ). n ≤ RATE) (sym (get_or_past xs p 0 past)) (let f : 0 ≤ RATE = omega arith in f)) (cases_lt p (length xs))

  sum-first : (xs ys : List ℕ) → sum xs ≤ sum (xs ++ ys)
  sum-first xs ys = let parts : sum (xs ++ ys) ≡ sum xs + sum ys = sum_by-append (λ (x : ℕ). x) xs ys in omega (arith, parts)

  some-made : (ss : List ScenarioRow) (name : List ℕ) (sc : ScenarioRow) → slice_get ss 0 ≡ Some sc → 1 ≤ sum (channel_named sc.graph.channels name).made →
      1 ≤ sum (flat_map (λ (c : ChannelRow). c.made) (channels_named ss name))
  some-made [] name sc at some = absurd (cc)
  some-made (s ∷ ss) name sc at some =
      let is : s ≡ sc = cc in
      let first : 1 ≤ sum (channel_named s.graph.channels name).made = subst (λ (x : ScenarioRow). 1 ≤ sum (channel_named x.graph.channels name).made) (sym is) some in
      omega (arith, first, sum-first (channel_named s.graph.channels name).made (flat_map (λ (c : ChannelRow). c.made) (channels_named ss name)))

  pub limited : (t : ℕ) (row : SharedRow) (j : Merged) → slice_get file.shared t ≡ Some row → IsMerged file.scenarios row j → IsLimited j
  limited t row j there is =
      let first = get-there file.scenarios 0 (let f : 0 < length file.scenarios = omega (arith, rules.some_scenario) in f) in
      let one = shared-named file.shared first.0.graph (rules.scenarios 0 first.0 first.1).shares t row there in
      let kept = row-rules 0 first.0 first.1 t row there in
      record {
        made = λ p. subst (λ (xs : List ℕ). slice_index xs p ≤ RATE) (sym is.made)
            (bound-named (λ (c : ChannelRow). c.made) file.scenarios row.name RATE
            (λ s sc at. few-rates (channel_named sc.graph.channels row.name).made (row-rules s sc at t row there).made.limited) p);
        taken = λ p. subst (λ (xs : List ℕ). slice_index xs p ≤ RATE) (sym is.taken)
            (bound-named (λ (c : ChannelRow). c.taken) file.scenarios row.name RATE
            (λ s sc at. few-rates (channel_named sc.graph.channels row.name).taken (row-rules s sc at t row there).taken.limited) p);
        moves = subst (λ (xs : List ℕ). 1 ≤ sum xs) (sym is.made) (some-made file.scenarios row.name first.0 first.1 kept.made.moves);
        tokens = omega (arith, is.tokens, one.2, kept.tokens);
      }

  -- the shared tokens are few, and so are the rows
  pub few-tokens : shared_count file.shared ≤ NODES
  few-tokens =
      let states : 1 * shared_count file.shared ≤ length file.states * shared_count file.shared = mul-le-mul_right (shared_count file.shared) rules.some_state in
      omega (arith, states, rules.few_nodes)

  pub few-shared : length file.shared ≤ NODES
  few-shared =
      let first = get-there file.scenarios 0 (let f : 0 < length file.scenarios = omega (arith, rules.some_scenario) in f) in
      let few = rows-few file.shared (λ t row there. (let one = (rules.scenarios 0 first.0 first.1).shares.rows t row there in one.5)) in
      omega (arith, few, few-tokens)

-- ---- one row after another

take-row : (rows : List SharedRow) (i : ℕ) (row : SharedRow) → slice_get rows i ≡ Some row → take (i + 1) rows ≡ take i rows ++ row ∷ []
take-row rows i row there = take_more rows i row (slice_get_within rows i row there) ∙ ap (λ (r : SharedRow). take i rows ++ r ∷ []) (get_or_from_slice_get rows i row row there)

channels-push : (ss : List ScenarioRow) (p : ℕ) (rows : List SharedRow) (r : SharedRow) →
    shared_channels_from ss p (rows ++ r ∷ []) ≡ shared_channels_from ss p rows ++ shared_channel ss (p + length rows) r ∷ []
channels-push ss p [] r = ap (λ (n : ℕ). shared_channel ss n r ∷ []) (let e : p ≡ p + 0 = omega arith in e)
channels-push ss p (x ∷ rows) r = ap (λ (l : List Channel). shared_channel ss p x ∷ l)
    (channels-push ss (suc p) rows r ∙ ap (λ (n : ℕ). shared_channels_from ss (suc p) rows ++ shared_channel ss n r ∷ []) (let e : suc p + length rows ≡ p + suc (length rows) = omega arith in e))

steps-push : (cs : List Channel) (c : Channel) → map channel_step (cs ++ c ∷ []) ≡ map channel_step cs ++ channel_step c ∷ []
steps-push [] c = refl
steps-push (x ∷ cs) c = ap (λ (l : List ChannelStep). channel_step x ∷ l) (steps-push cs c)

same-step : (c d : Channel) → c.made ≡ d.made → c.taken ≡ d.taken → step_of c ≡ step_of d
unfolding step_of
same-step c d made taken = ap (λ (xs : List ℕ). divisor_of (xs ++ c.taken)) made ∙ ap (λ (xs : List ℕ). divisor_of (d.made ++ xs)) taken

merged-step : (ss : List ScenarioRow) (p : ℕ) (row : SharedRow) (j : Merged) → IsMerged ss row j → step_of (merged_channel j) ≡ step_of (shared_channel ss p row)
merged-step ss p row j is = same-step (merged_channel j) (shared_channel ss p row) is.made is.taken

pub steps-more : (ss : List ScenarioRow) (rows : List SharedRow) (i : ℕ) (row : SharedRow) (j : Merged) (n : ℕ) (old new : List ChannelStep) → slice_get rows i ≡ Some row →
    IsMerged ss row j → n ≡ step_of (merged_channel j) →
    new ≡ old ++ record { size = 1; step = n } ∷ [] → old ≡ map channel_step (shared_channels_from ss 0 (take i rows)) → new ≡ map channel_step (shared_channels_from ss 0 (take (i + 1) rows))
steps-more ss rows i row j n old new there merged step added before =
    let rows_are = take-row rows i row there in
    let last : ◌≡◌ {A = ChannelStep} (record { size = 1; step = n }) (channel_step (shared_channel ss (0 + length (take i rows)) row)) = ap (λ (x : ℕ). record { size = 1; step = x })
    (step ∙ merged-step ss (0 + length (take i rows)) row j merged) in
    added ∙ (ap (λ (l : List ChannelStep). l ++ record { size = 1; step = n } ∷ []) before
    ∙ (ap (λ (x : ChannelStep). map channel_step (shared_channels_from ss 0 (take i rows)) ++ x ∷ []) last
    ∙ (sym (steps-push (shared_channels_from ss 0 (take i rows)) (shared_channel ss (0 + length (take i rows)) row))
    ∙ (ap (λ (l : List Channel). map channel_step l) (sym (channels-push ss 0 (take i rows) row)) ∙ ap (λ (l : List SharedRow). map channel_step (shared_channels_from ss 0 l)) (sym rows_are)))))

-- ---- the corner, row by row

same-corner : (c d : Channel) (k : ℕ) → c.made ≡ d.made → c.taken ≡ d.taken → c.tokens ≡ d.tokens → IsCornerAt c k → IsCornerAt d k
same-corner c d k made taken tokens corner = record {
  step = (corner.step.0, corner.step.1 ∙ room corner.step.0);
  covers = covers k corner.covers;
  least = λ n over. subst (λ (m : ℕ). k ≤ m) (room n) (corner.least n (subst (λ (m : ℕ). CoversRates c m) (sym (room n)) (back (d.tokens + n * step_of d) over)));
}
  where
    step : step_of c ≡ step_of d
    step = same-step c d made taken

    room : (n : ℕ) → c.tokens + n * step_of c ≡ d.tokens + n * step_of d
    room n = ap (λ (t : ℕ). t + n * step_of c) tokens ∙ ap (λ (s : ℕ). d.tokens + n * s) (same-step c d made taken)

    covers : (m : ℕ) → CoversRates c m → CoversRates d m
    covers m over = record { made = λ p. subst (λ (xs : List ℕ). slice_index xs p ≤ m) made (over.made p); taken = λ p. subst (λ (xs : List ℕ). slice_index xs p ≤ m) taken (over.taken p) }

    back : (m : ℕ) → CoversRates d m → CoversRates c m
    back m over = record { made = λ p. subst (λ (xs : List ℕ). slice_index xs p ≤ m) (sym made) (over.made p); taken = λ p. subst (λ (xs : List ℕ). slice_index xs p ≤ m) (sym taken) (over.taken p) }

-- the entry of a shared row in the corner
abbrev pub IsEntryFor : Merged → Option ℕ → Type 0
IsEntryFor j e = MatchOption e (j.looped ≡ true) (λ k. (j.looped ≡ false) × IsCornerAt (merged_channel j) k)

-- its capacity, or 0
abbrev pub room_of : Option ℕ → ℕ
room_of e = unwrap_or e 0

pub room-few : (e : Option ℕ) (most : ℕ) → MatchOption e (Unit {0}) (λ k. k ≤ most) → room_of e ≤ most
room-few None most few = omega arith
room-few (Some k) most few = few

module _ (ss : List ScenarioRow) (row : SharedRow) (j : Merged) (is : IsMerged ss row j) where
  looped-ends : (p : ℕ) → j.looped ≡ true → (shared_channel ss p row).source ≡ (shared_channel ss p row).target
  looped-ends p looped = ap (λ (b : Bool). if b then 0 else 1) (sym looped ∙ is.looped)

  apart-ends : (p : ℕ) → j.looped ≡ false → (shared_channel ss p row).source ≢ (shared_channel ss p row).target
  apart-ends p apart same =
      let one : ◌≡◌ {A = ℕ} 1 (if is_looped (channels_named ss row.name) then 0 else 1) = ap (λ (b : Bool). if b then 0 else 1) (sym apart ∙ is.looped) in
      omega (arith, one, same)

  corner-push : (p : ℕ) (rows : List SharedRow) (ds : List (Option ℕ)) (e : Option ℕ) → IsCorner (shared_channels_from ss p rows) ds → IsEntryFor j e →
      IsCorner (shared_channels_from ss p (rows ++ row ∷ [])) (ds ++ e ∷ [])
  corner-push p [] [] None corner entry = (refl, looped-ends p entry, tt)
  corner-push p [] [] (Some k) corner entry = (refl, apart-ends p entry.0, same-corner (merged_channel j) (shared_channel ss p row) k is.made is.taken is.tokens entry.1, tt)
  corner-push p [] (d ∷ ds) e corner entry = absurd corner
  corner-push p (x ∷ rows) [] e corner entry = absurd (let no : true ≡ false = corner.0 in cc)
  corner-push p (x ∷ rows) (None ∷ ds) e corner entry = (corner.0, corner.1, corner-push (suc p) rows ds e corner.2 entry)
  corner-push p (x ∷ rows) (Some k ∷ ds) e corner entry = (corner.0, corner.1, corner.2, corner-push (suc p) rows ds e corner.3 entry)

storage-push : (ss : List ScenarioRow) (p : ℕ) (rows : List SharedRow) (row : SharedRow) (ds : List (Option ℕ)) (e : Option ℕ) → length ds ≡ length rows →
    storage_of (shared_channels_from ss p (rows ++ row ∷ [])) (ds ++ e ∷ []) ≡ storage_of (shared_channels_from ss p rows) ds + room_of e
storage-push ss p [] row [] None long = refl
storage-push ss p [] row [] (Some k) long = omega arith
storage-push ss p [] row (d ∷ ds) e long = absurd (omega (arith, long))
storage-push ss p (x ∷ rows) row [] e long = absurd (omega (arith, long))
storage-push ss p (x ∷ rows) row (None ∷ ds) e long = storage-push ss (suc p) rows row ds e (omega (arith, long))
storage-push ss p (x ∷ rows) row (Some k ∷ ds) e long = let rest = storage-push ss (suc p) rows row ds e (omega (arith, long)) in omega (arith, rest)

-- the corner of the first rows, and its storage
pub record CornerSoFar (ss : List ScenarioRow) (rows : List SharedRow) (i : ℕ) (capacities : List (Option ℕ)) (stored : ℕ) : Type 0 where
  pub corner : IsCorner (shared_channels_from ss 0 (take i rows)) capacities
  pub long : length capacities ≡ length (take i rows)
  pub total : stored ≡ storage_of (shared_channels_from ss 0 (take i rows)) capacities
  pub small : stored ≤ i * (TOKENS + 2 * RATE)

pub corner-more : (ss : List ScenarioRow) (rows : List SharedRow) (i : ℕ) (row : SharedRow) (j : Merged) (e : Option ℕ) (old new : List (Option ℕ)) (total sum : ℕ) → slice_get rows i ≡ Some row →
    IsMerged ss row j → IsEntryFor j e →
    room_of e ≤ TOKENS + 2 * RATE → new ≡ old ++ e ∷ [] → sum ≡ total + room_of e → CornerSoFar ss rows i old total → CornerSoFar ss rows (i + 1) new sum
corner-more ss rows i row j e old new total sum there merged entry few added more before =
    let rows_are = take-row rows i row there in
    let one : IsCorner (shared_channels_from ss 0 (take i rows ++ row ∷ [])) (old ++ e ∷ []) = corner-push ss row j merged 0 (take i rows) old e before.corner entry in
    let two = storage-push ss 0 (take i rows) row old e before.long in
    record {
      corner = subst (λ (l : List SharedRow). IsCorner (shared_channels_from ss 0 l) new) (sym rows_are)
          (subst (λ (l : List (Option ℕ)). IsCorner (shared_channels_from ss 0 (take i rows ++ row ∷ [])) l) (sym added) one);
      long = ap (λ (l : List (Option ℕ)). length l) added
          ∙ (length-append old (e ∷ []) ∙ (ap (λ (n : ℕ). n + 1) before.long ∙ (sym (length-append (take i rows) (row ∷ [])) ∙ ap (λ (l : List SharedRow). length l) (sym rows_are))));
      total = subst (λ (l : List SharedRow). sum ≡ storage_of (shared_channels_from ss 0 l) new) (sym rows_are)
          (subst (λ (l : List (Option ℕ)). sum ≡ storage_of (shared_channels_from ss 0 (take i rows ++ row ∷ [])) l) (sym added) (omega (arith, two, more, before.total)));
      small = omega (arith, few, more, before.small);
    }
