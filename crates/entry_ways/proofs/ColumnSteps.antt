-- A column with the start of one more firing is a column.
use Rattle.std.proofs.Common.{◌≡◌, ℕ, ◌+◌, ◌≤◌, ◌<◌, List, [], ◌∷◌, ◌++◌, length, Option, None, Some, inl, inr, ⊎_elim, subst, sym, ap, ◌∙◌, refl, arith, length-append, sum, mod-lt, ◌%◌}
use Rattle.std.specs.Prelude.{slice_index, slice_index_or}
use Rattle.std.proofs.lemmas.Bool.{cases_lt, cases_eq}
use Rattle.std.proofs.lemmas.List.{get_or_append_left, get_or_default}
use Rattle.sd_base.specs.Net.{Net, channel_at, total}
use Rattle.sd_base.specs.Lawful.{Lawful}
use Rattle.sd_base.specs.declared.limits.TheConstants.{ROUND, TIME}
use Rattle.sd_base.specs.Schedules.{phases_at, time_of}
use Rattle.sd_base.specs.Untimed.{one_more, CanFire}
use Rattle.sd_base.proofs.LawfulIsRegular.{balanced}
use Rattle.sd_base.proofs.ClosedCountsBoundRuns.{bump-same, bump-other, bump-cases}
use Rattle.sd_base.proofs.ElementsKeepPlaces.{entry-le-sum, some-within}
use Rattle.token_matrix.specs.Stamps.{IsTakenBy}
use Rattle.token_matrix.specs.Ways.{IsChain}
use Rattle.token_matrix.specs.Ways.IsChain.{begins, goes}
use Rattle.entry_ways.specs.inside.Columns.{start_in, AreUpTo, IsColumn, IsFedBy, IsLink, IsLinkInto, IsLongest, HasStart}
use Rattle.token_matrix.proofs.TokensHaveProducers.{put_earlier}

last-at : (xs : List (Option ℕ)) (s : Option ℕ) → slice_index_or (xs ++ s ∷ []) (length xs) None ≡ s
last-at [] s = refl
last-at (x ∷ xs) s = last-at xs s

module _ (net : Net) (laws : Lawful net) (first : ℕ → ℕ) (p : ℕ) (v : ℕ → ℕ) (a : ℕ) (start : Option ℕ) (old new : List (List (Option ℕ))) (column : IsColumn net first p v old)
    (actor : a < length net.times) (early : v a < slice_index net.round a) (can : CanFire net v a) (longest : IsLongest (IsLinkInto net first p old a (v a)) start)
    (more : HasStart a start old new) where
  -- the new start, and the others
  here : start_in new a (v a) ≡ start
  here = let long : length (slice_index_or old a []) ≡ v a = column.whole a actor in
      ap (λ (r : List (Option ℕ)). slice_index_or r (v a) None) more.here
      ∙ (ap (λ (n : ℕ). slice_index_or (slice_index_or old a [] ++ start ∷ []) n None) (sym long) ∙ last-at (slice_index_or old a []) start)

  there : (b j : ℕ) → b < length net.times → j < v b → start_in new b j ≡ start_in old b j
  there b j known before = ⊎_elim
      (λ (same : b ≡ a). (let long : length (slice_index_or old a []) ≡ v a = column.whole a actor in
      let low : j < length (slice_index_or old a []) = (let e : v b ≡ v a = ap v same in omega arith) in
      ap (λ (c : ℕ). start_in new c j) same
      ∙ (ap (λ (r : List (Option ℕ)). slice_index_or r j None) more.here
      ∙ (get_or_append_left (slice_index_or old a []) (start ∷ []) None j low ∙ ap (λ (c : ℕ). start_in old c j) (sym same)))))
      (λ (apart : b ≡ a → ⊥). ap (λ (r : List (Option ℕ)). slice_index_or r j None) (more.others b apart))
      (cases_eq b a)

  -- a link is the last of a chain
  link-chain : (i t : ℕ) → i < length net.channels → (channel_at net i).target ≡ a → IsLink net first p old i (v a) t → (cs : List ℕ) × IsChain net first p a (v a) t cs
  link-chain i t below into (inl (m, takes, known, is, none)) = (i ∷ [], subst (λ (n : ℕ). IsChain net first p a (v a) n (i ∷ [])) (sym none) (begins a (v a) i m below into early takes known is))
  link-chain i t below into (inr (m, k, d, takes, puts, at, is)) =
      let source : (channel_at net i).source < length net.times = laws.sources i below in
      let in_row : k < length (slice_index_or old (channel_at net i).source []) = some-within (slice_index_or old (channel_at net i).source []) k d at in
      let before : k < v (channel_at net i).source = subst (λ (n : ℕ). k < n) (column.whole (channel_at net i).source source) in_row in
      let chain = column.just (channel_at net i).source k d source before at in
      (i ∷ chain.0, subst (λ (n : ℕ). IsChain net first p a (v a) n (i ∷ chain.0)) (sym is) (goes a (v a) i m k d chain.0 below into early takes puts chain.1))

  -- and a chain ends in a link that is no shorter
  chain-link : (b j t : ℕ) (cs : List ℕ) → IsChain net first p b j t cs → b ≡ a → j ≡ v a → (d : ℕ) × IsLinkInto net first p old a (v a) d × (t ≤ d)
  chain-link _ _ _ _ (begins b j i m below into before takes known is) same last =
      (0, (i, below, into ∙ same, inl (m, subst (λ (n : ℕ). IsTakenBy (channel_at net i) m n) last takes, known, is, refl)), omega arith)
  chain-link _ _ _ _ (goes b j i m k t cs below into before takes puts chain) same last =
      let takes' : IsTakenBy (channel_at net i) m (v a) = subst (λ (n : ℕ). IsTakenBy (channel_at net i) m n) last takes in
      let fed : total (channel_at net i).taken (v a + 1) ≤ (channel_at net i).tokens + total (channel_at net i).made (v (channel_at net i).source) = can i below (into ∙ same) in
      let high : m < total (channel_at net i).taken (v a + 1) = takes'.1 in
      let earlier : k < v (channel_at net i).source = put_earlier net v i m k (omega arith) puts in
      let d = column.top (channel_at net i).source k t cs (laws.sources i below) earlier chain in
      (d.0 + time_of net (channel_at net i).source k, (i, below, into ∙ same, inr (m, k, d.0, takes', puts, d.1, refl)), omega (arith, d.2))

  pub column-more : IsColumn net first p (one_more v a) new
  column-more = record {
    actors = more.long ∙ column.actors;
    whole = whole;
    just = λ b j t known below at. ⊎_elim
        (λ (before : j < v b). column.just b j t known before (sym (there b j known before) ∙ at))
        (λ (last : (b ≡ a) × (j ≡ v a)). (
        let at' : start ≡ Some t = sym here ∙ (ap (λ (c : ℕ). start_in new c (v a)) (sym last.0) ∙ (ap (λ (n : ℕ). start_in new b n) (sym last.1) ∙ at)) in
        let link = longest.just t at' in
        let chain = link-chain link.0 t link.1 link.2 link.3 in
        (chain.0, subst (λ (c : ℕ). IsChain net first p c j t chain.0) (sym last.0) (subst (λ (n : ℕ). IsChain net first p a n t chain.0) (sym last.1) chain.1))))
        (bump-cases v a b j below);
    top = λ b j t cs known below chain. ⊎_elim
        (λ (before : j < v b). (let d = column.top b j t cs known before chain in (d.0, there b j known before ∙ d.1, d.2)))
        (λ (last : (b ≡ a) × (j ≡ v a)). (
        let link = chain-link b j t cs chain last.0 last.1 in
        let d = longest.top link.0 link.1 in
        (d.0, ap (λ (c : ℕ). start_in new c j) last.0 ∙ (ap (λ (n : ℕ). start_in new a n) last.1 ∙ (here ∙ d.1)), omega (arith, link.2, d.2))))
        (bump-cases v a b j below);
  }
    where
      whole : (b : ℕ) → b < length net.times → length (slice_index_or new b []) ≡ one_more v a b
      whole b known = ⊎_elim
          (λ (same : b ≡ a). (
          let long : length (slice_index_or old a []) ≡ v a = column.whole a actor in
          let added : length (slice_index_or old a [] ++ start ∷ []) ≡ length (slice_index_or old a []) + 1 = length-append (slice_index_or old a []) (start ∷ []) in
          let e : one_more v a b ≡ v a + 1 = ap (λ (c : ℕ). one_more v a c) same ∙ bump-same v a in
          let f : length (slice_index_or new b []) ≡ length (slice_index_or old a [] ++ start ∷ []) =
          ap (λ (c : ℕ). length (slice_index_or new c [])) same ∙ ap (λ (r : List (Option ℕ)). length r) more.here in
          omega arith))
          (λ (apart : b ≡ a → ⊥). (
          let e : one_more v a b ≡ v b = bump-other v a b apart in
          let f : length (slice_index_or new b []) ≡ length (slice_index_or old b []) = ap (λ (r : List (Option ℕ)). length r) (more.others b apart) in
          f ∙ (column.whole b known ∙ sym e)))
          (cases_eq b a)

-- ---- what one more start asks and gives

-- an actor fires in a round no more often than all do
pub round-small : (net : Net) → Lawful net → (a : ℕ) → a < length net.times → slice_index net.round a ≤ ROUND
round-small net laws a actor =
    let many : length net.round ≡ length net.times = (balanced net laws).actors in
    let part : slice_index net.round a ≤ sum net.round = entry-le-sum net.round a in
    omega (arith, laws.small_round)

-- a row of a column is as long as its actor has fired
pub row-long : (net : Net) (first : ℕ → ℕ) (p : ℕ) (v : ℕ → ℕ) (rows : List (List (Option ℕ))) → IsColumn net first p v rows → (a : ℕ) (row : List (Option ℕ)) → a < length net.times
    → row ≡ slice_index_or rows a row → length row ≡ v a
row-long net first p v rows column a row actor is =
    ap (λ (r : List (Option ℕ)). length r) (is ∙ get_or_default rows a row [] (omega (arith, column.actors))) ∙ column.whole a actor

-- what the next firing takes is put by firings that have starts
pub next-fed : (net : Net) → Lawful net → (first : ℕ → ℕ) (p : ℕ) (v : ℕ → ℕ) (rows : List (List (Option ℕ))) → IsColumn net first p v rows → (a : ℕ) → CanFire net v a
    → (i : ℕ) → i < length net.channels → (channel_at net i).target ≡ a → IsFedBy net rows i (v a)
next-fed net laws first p v rows column a can i below into =
    subst (λ (n : ℕ). total (channel_at net i).taken (v a + 1) ≤ (channel_at net i).tokens + total (channel_at net i).made n)
    (sym (column.whole (channel_at net i).source (laws.sources i below))) (can i below into)

-- no link comes later than the starts and a time
pub link-small : (net : Net) → Lawful net → ((a : ℕ) → a < length net.times → phases_at net a ≡ 1) → (first : ℕ → ℕ) (p : ℕ) (rows : List (List (Option ℕ))) (b a j t : ℕ)
    → AreUpTo b rows → IsLinkInto net first p rows a j t → t ≤ b + TIME
link-small net laws phases first p rows b a j t small (i, below, into, inl (m, takes, there, at, is)) = omega arith
link-small net laws phases first p rows b a j t small (i, below, into, inr (m, k, d, takes, puts, at, is)) =
    let low : d ≤ b = small (channel_at net i).source k d at in
    let source : (channel_at net i).source < length net.times = laws.sources i below in
    let one : phases_at net (channel_at net i).source ≡ 1 = phases (channel_at net i).source source in
    let few : k % phases_at net (channel_at net i).source < phases_at net (channel_at net i).source = mod-lt k (omega arith) in
    let short : time_of net (channel_at net i).source k ≤ TIME = laws.short_times (channel_at net i).source (k % phases_at net (channel_at net i).source) source few in
    omega arith

-- the starts are within a later bound, with the new one
pub starts-small : (a : ℕ) (start : Option ℕ) (old new : List (List (Option ℕ))) (b c : ℕ) → AreUpTo b old → b ≤ c → ((t : ℕ) → start ≡ Some t → t ≤ c) → HasStart a start old new → AreUpTo c new
starts-small a start old new b c small more one has d j t at = ⊎_elim
    (λ (same : d ≡ a). (
    let here : slice_index_or (slice_index_or old a [] ++ start ∷ []) j None ≡ Some t = ap (λ (r : List (Option ℕ)). slice_index_or r j None) (sym has.here) ∙
    (ap (λ (n : ℕ). start_in new n j) (sym same) ∙ at) in
    ⊎_elim
    (λ (before : j < length (slice_index_or old a [])). (let s : t ≤ b = small a j t (sym (get_or_append_left (slice_index_or old a []) (start ∷ []) None j before) ∙ here) in omega arith))
    (λ (past : length (slice_index_or old a []) ≤ j). (
    let in_row : j < length (slice_index_or old a [] ++ start ∷ []) = some-within (slice_index_or old a [] ++ start ∷ []) j t here in
    let long : length (slice_index_or old a [] ++ start ∷ []) ≡ length (slice_index_or old a []) + 1 = length-append (slice_index_or old a []) (start ∷ []) in
    let last : j ≡ length (slice_index_or old a []) = omega arith in
    one t (sym (last-at (slice_index_or old a []) start) ∙ (ap (λ (n : ℕ). slice_index_or (slice_index_or old a [] ++ start ∷ []) n None) (sym last) ∙ here))))
    (cases_lt j (length (slice_index_or old a [])))))
    (λ (apart : d ≡ a → ⊥). (let s : t ≤ b = small d j t (ap (λ (r : List (Option ℕ)). slice_index_or r j None) (sym (has.others d apart)) ∙ at) in omega arith))
    (cases_eq d a)
