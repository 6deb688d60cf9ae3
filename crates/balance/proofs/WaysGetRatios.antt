-- The ratios of the ways, one after another in the order in which they were found.
use Rattle.std.proofs.Common.{◌≡◌, ℕ, ◌+◌, ◌*◌, ◌<◌, ◌≤◌, ◌⊎◌, Bool, true, Option, Some, None, List, [], ◌∷◌, ◌++◌, length, replicate, sym, refl, ap, subst, ◌∙◌, inl, inr, arith}
use Rattle.std.specs.Prelude.{MatchOption, slice_get, slice_set}
use Rattle.std.proofs.lemmas.Bool.{cases_eq, cases_lt}
use Rattle.std.proofs.lemmas.List.{get_or-set_same, get_or-set_other, length-set, length-replicate}
use Rattle.std.proofs.lemmas.Option.{same_Some, slice_get_within}
use Rattle.std.proofs.lemmas.Nat.Gcd.{dvd_refl}
use Rattle.balance.specs.declared.walk.WalkStep.{WalkStep}
use Rattle.balance.specs.declared.walk.Link.{Link}
use Rattle.balance.specs.declared.search.Found.{Found}
use Rattle.balance.specs.declared.search.Reach.{Reach}
use Rattle.balance.specs.declared.ratio.Ratio.{Ratio}
use Rattle.balance.specs.Walks.{IsLinkWalk, IsWay, IsLowest, Precedes, step_from, step_num, step_den, num_at, den_at, walk_num, walk_den}
use Rattle.balance.specs.Repetition.{IsFirstAboveLimit, HasRatioAboveLimit, HasRatioWithinLimit}
use Rattle.balance.specs.inside.Search.{HasSums, Entry, AreEntries, IsTree, IsSearched, IsWayAt, mark_at}
use Rattle.balance.specs.inside.Ratios.{one, ratio_at, IsSmall, IsRatio, AreRated, AreRatios, IsRatedStep}
use Rattle.balance.proofs.WalksJoinAndTurn.{walk_split, same_end, num-append, den-append, parts_pos}
use Rattle.balance.proofs.OneShortestWay.{one_way}
use Rattle.balance.proofs.SearchFindsWays.{entry_of}
use Rattle.balance.proofs.LowestTermsAreOne.{lowest_pos, lowest_times}
use Rattle.balance.proofs.OneAnswer.{within_or_above}

-- the step that led to an entry, from one before it
record IsGrown (ls : List Link) (es : List Entry) (j : ℕ) (x : Entry) (r : Reach) : Type 0 where
  pub entry : Entry
  pub link : Link
  pub before : r.place < j
  pub at : slice_get es r.place ≡ Some entry
  pub over : slice_get ls r.step.channel ≡ Some link
  pub from : entry.actor ≡ step_from link r.step.forward
  pub way : x.way ≡ entry.way ++ r.step ∷ []

grown_at : (ls : List Link) (actors : ℕ) (found : List Found) (es : List Entry) (seen : List Bool) → AreEntries found es → IsTree ls actors es seen
    → (j : ℕ) (y : Found) (x : Entry) (r : Reach) → slice_get found j ≡ Some y → slice_get es j ≡ Some x → y.reach ≡ Some r → IsGrown ls es j x r
grown_at ls actors found es seen read tree j y x r here at some =
    let (lt, d, at', way) = read.reached j y x r here at some in
    let walk : IsLinkWalk ls 0 (d.way ++ r.step ∷ []) x.actor = subst (λ (w : List WalkStep). IsLinkWalk ls 0 w x.actor) way (tree.ways j x at).0 in
    let (v, front, (l, over, from, end)) = walk_split ls d.way (r.step ∷ []) 0 x.actor walk in
    let same : v ≡ d.actor = same_end ls d.way 0 v d.actor front (tree.ways r.place d at').0 in
    record { entry = d; link = l; before = lt; at = at'; over = over; from = sym same ∙ from; way = way }

rated_step : (ls : List Link) (actors : ℕ) (found : List Found) (es : List Entry) (seen : List Bool) (rs : List Ratio) → AreEntries found es → IsTree ls actors es seen
    → (j : ℕ) (y : Found) (x : Entry) (r : Reach) → slice_get found j ≡ Some y → slice_get es j ≡ Some x → y.reach ≡ Some r
    → AreRated ls es rs j → length rs ≡ actors → IsRatedStep ls rs r.step
rated_step ls actors found es seen rs read tree j y x r here at some rated size =
    let g = grown_at ls actors found es seen read tree j y x r here at some in
    let lt : g.entry.actor < length rs = (let e = tree.within r.place g.entry g.at in omega arith) in
    let before = rated r.place g.entry g.before g.at in
    let small : IsSmall (ratio_at rs g.entry.actor) = (before.1, before.2, before.0.2) in
    (g.link, g.over, subst (λ n. n < length rs) g.from lt, subst (λ n. IsSmall (ratio_at rs n)) g.from small)

-- what a step makes of the ratio from which it leads
abbrev pub IsStepped : List Link → List Ratio → WalkStep → Ratio → Type 0
IsStepped ls rs s q = (l : Link) → slice_get ls s.channel ≡ Some l →
    IsLowest q.num q.den ((ratio_at rs (step_from l s.forward)).num * step_num l s.forward) ((ratio_at rs (step_from l s.forward)).den * step_den l s.forward)

-- the ratio that the last step gives is the way's
step_value : (ls : List Link) (actors : ℕ) (found : List Found) (es : List Entry) (seen : List Bool) (rs : List Ratio) → HasSums ls → AreEntries found es → IsTree ls actors es seen
    → (j : ℕ) (y : Found) (x : Entry) (r : Reach) → slice_get found j ≡ Some y → slice_get es j ≡ Some x → y.reach ≡ Some r
    → AreRated ls es rs j → (q : Ratio) → IsStepped ls rs r.step q → IsLowest q.num q.den (walk_num ls x.way) (walk_den ls x.way)
step_value ls actors found es seen rs sums read tree j y x r here at some rated q gives =
    let n = q.num in
    let d = q.den in
    let g = grown_at ls actors found es seen read tree j y x r here at some in
    let old = rated r.place g.entry g.before g.at in
    let f = r.step.forward in
    let before : Ratio = ratio_at rs g.entry.actor in
    let now : IsLowest n d (before.num * step_num g.link f) (before.den * step_den g.link f) =
    subst (λ a. IsLowest n d ((ratio_at rs a).num * step_num g.link f) ((ratio_at rs a).den * step_den g.link f)) (sym g.from) (gives g.link g.over) in
    let low : IsLowest n d (walk_num ls g.entry.way * step_num g.link f) (walk_den ls g.entry.way * step_den g.link f) =
    lowest_times before.num before.den (walk_num ls g.entry.way) (walk_den ls g.entry.way) n d (step_num g.link f) (step_den g.link f) old.0 now
    (lowest_pos before.num before.den (walk_num ls g.entry.way) (walk_den ls g.entry.way) old.0 (parts_pos ls sums g.entry.way).0) in
    let num_one : walk_num ls (r.step ∷ []) ≡ step_num g.link f * 1 = ap (λ o. num_at o f * 1) g.over in
    let den_one : walk_den ls (r.step ∷ []) ≡ step_den g.link f * 1 = ap (λ o. den_at o f * 1) g.over in
    let num_is : walk_num ls g.entry.way * step_num g.link f ≡ walk_num ls x.way =
    (let e : walk_num ls g.entry.way * step_num g.link f ≡ walk_num ls g.entry.way * walk_num ls (r.step ∷ []) = omega (arith, ap (λ t. walk_num ls g.entry.way * t) num_one) in
    e ∙ sym (num-append ls g.entry.way (r.step ∷ [])) ∙ ap (walk_num ls) (sym g.way)) in
    let den_is : walk_den ls g.entry.way * step_den g.link f ≡ walk_den ls x.way =
    (let e : walk_den ls g.entry.way * step_den g.link f ≡ walk_den ls g.entry.way * walk_den ls (r.step ∷ []) = omega (arith, ap (λ t. walk_den ls g.entry.way * t) den_one) in
    e ∙ sym (den-append ls g.entry.way (r.step ∷ [])) ∙ ap (walk_den ls) (sym g.way)) in
    subst (λ t. IsLowest n d (walk_num ls x.way) t) den_is (subst (λ t. IsLowest n d t (walk_den ls g.entry.way * step_den g.link f)) num_is low)

lowest_one : (ls : List Link) → IsLowest 1 1 (walk_num ls []) (walk_den ls [])
lowest_one ls = (refl, (dvd_refl 1, dvd_refl 1, λ d p q. p), omega arith)

value_by : (ls : List Link) (actors : ℕ) (found : List Found) (es : List Entry) (seen : List Bool) (rs : List Ratio) → HasSums ls → AreEntries found es → IsTree ls actors es seen
    → (j : ℕ) (y : Found) (x : Entry) (o : Option Reach) → slice_get found j ≡ Some y → slice_get es j ≡ Some x → y.reach ≡ o
    → AreRated ls es rs j → (q : Ratio) → MatchOption o (q ≡ one) (λ r. IsStepped ls rs r.step q) → IsLowest q.num q.den (walk_num ls x.way) (walk_den ls x.way)
value_by ls actors found es seen rs sums read tree j y x None here at is rated q gives =
    subst (λ (w : List WalkStep). IsLowest q.num q.den (walk_num ls w) (walk_den ls w)) (sym (read.root j y x here at is))
    (subst (λ (t : Ratio). IsLowest t.num t.den (walk_num ls []) (walk_den ls [])) (sym gives) (lowest_one ls))
value_by ls actors found es seen rs sums read tree j y x (Some r) here at is rated q gives =
    step_value ls actors found es seen rs sums read tree j y x r here at is rated q gives

-- the ratio of a found actor's way
way_value : (ls : List Link) (actors : ℕ) (found : List Found) (es : List Entry) (seen : List Bool) (rs : List Ratio) → HasSums ls → AreEntries found es → IsTree ls actors es seen
    → (j : ℕ) (y : Found) (x : Entry) → slice_get found j ≡ Some y → slice_get es j ≡ Some x
    → AreRated ls es rs j → (q : Ratio) → MatchOption y.reach (q ≡ one) (λ r. IsStepped ls rs r.step q) → IsLowest q.num q.den (walk_num ls x.way) (walk_den ls x.way)
way_value ls actors found es seen rs sums read tree j y x here at rated q gives =
    value_by ls actors found es seen rs sums read tree j y x y.reach here at refl rated q gives

rated_more : (ls : List Link) (actors : ℕ) (es : List Entry) (seen : List Bool) (rs : List Ratio) (j : ℕ) (x : Entry) (r : Ratio) → IsTree ls actors es seen
    → AreRated ls es rs j → length rs ≡ actors → slice_get es j ≡ Some x → IsRatio ls x.way r → AreRated ls es (slice_set rs x.actor r) (j + 1)
rated_more ls actors es seen rs j x r tree rated size at is k y lt at' =
    elim (cases_eq k j) [
      | inl e ↦
          let same : y ≡ x = same_Some y x (sym at' ∙ ap (slice_get es) e ∙ at) in
          let in_list : x.actor < length rs = (let w = tree.within j x at in omega arith) in
          let value : ratio_at (slice_set rs x.actor r) x.actor ≡ r = get_or-set_same rs x.actor r one in_list in
          subst (λ (z : Entry). IsRatio ls z.way (ratio_at (slice_set rs x.actor r) z.actor)) (sym same) (subst (λ (t : Ratio). IsRatio ls x.way t) (sym value) is)
      | inr ne ↦
          let below : k < j = omega arith in
          let kept : ratio_at (slice_set rs x.actor r) y.actor ≡ ratio_at rs y.actor = get_or-set_other rs x.actor y.actor r one (λ e. tree.apart k j y x at' at below e) in
          subst (λ (t : Ratio). IsRatio ls y.way t) (sym kept) (rated k y below at')
    ]

rated_all : (ls : List Link) (actors : ℕ) (es : List Entry) (seen : List Bool) (rs : List Ratio) (j : ℕ) → IsTree ls actors es seen
    → AreRated ls es rs j → length rs ≡ actors → length es ≤ j → ((b : ℕ) → b < actors → mark_at seen b ≡ true) → AreRatios ls actors rs
rated_all ls actors es seen rs j tree rated size all connected = record {
  size = size;
  each = λ b lt.
      (let (k, x, at, end) = tree.marked b (connected b lt) in
      let below : k < j = (let in_list = slice_get_within es k x at in omega arith) in
      (x.way, subst (λ a. IsWay ls a x.way) end (tree.ways k x at), subst (λ a. IsRatio ls x.way (ratio_at rs a)) end (rated k x below at)));
}

-- the first entry with a ratio above the limit is the way to refuse
first_above : (ls : List Link) (actors : ℕ) (es : List Entry) (seen : List Bool) (rs : List Ratio) (j : ℕ) (x : Entry) → HasSums ls → IsTree ls actors es seen
    → AreRated ls es rs j → slice_get es j ≡ Some x → HasRatioAboveLimit ls x.way → IsFirstAboveLimit ls x.way
first_above ls actors es seen rs j x sums tree rated at above = record {
  end = x.actor;
  way = tree.ways j x at;
  above = above;
  first = λ b q way over.
      (let (k, z, at', end) = tree.marked b (tree.whole q b way.0) in
      let same : z.way ≡ q = one_way ls b z.way q (subst (λ a. IsWay ls a z.way) end (tree.ways k z at')) way in
      elim (cases_lt k j) [
        | inl lt ↦
            let r = rated k z lt at' in
            let low : HasRatioWithinLimit ls z.way = ((ratio_at rs z.actor).num, (ratio_at rs z.actor).den, r.0, r.1, r.2) in
            absurd (within_or_above ls sums q (subst (λ (p : List WalkStep). HasRatioWithinLimit ls p) same low) over)
        | inr ge ↦ subst (λ (p : List WalkStep). Precedes x.way p) same (tree.rising j k x z at at' ge)
      ]);
}

-- ---- a search whose first k entries have the ratios of their ways
pub record IsRating (ls : List Link) (actors : ℕ) (found : List Found) (seen : List Bool) (rs : List Ratio) (k : ℕ) : Type 0 where
  pub searched : IsSearched ls actors found seen
  pub rated : AreRated ls searched.entries rs k
  pub size : length rs ≡ actors

pub rating_start : (ls : List Link) (actors : ℕ) (found : List Found) (seen : List Bool) → IsSearched ls actors found seen → IsRating ls actors found seen (replicate actors one) 0
rating_start ls actors found seen t =
    record { searched = t; rated = λ j x lt at. absurd (let none : ⊥ = omega arith in none); size = length-replicate actors one }

step_ready : (ls : List Link) (actors : ℕ) (found : List Found) (seen : List Bool) (rs : List Ratio) (j : ℕ) (x : Found) (o : Option Reach) → IsRating ls actors found seen rs j
    → slice_get found j ≡ Some x → x.reach ≡ o → MatchOption o (Unit {0}) (λ r. IsRatedStep ls rs r.step)
step_ready ls actors found seen rs j x None f at is = tt
step_ready ls actors found seen rs j x (Some r) f at is =
    let t = f.searched in
    let (e, here, same) = entry_of found t.entries t.read j x at in
    rated_step ls actors found t.entries seen rs t.read t.tree j x e r at here is f.rated f.size

pub rating_ready : (ls : List Link) (actors : ℕ) (found : List Found) (seen : List Bool) (rs : List Ratio) (j : ℕ) (x : Found) → IsRating ls actors found seen rs j
    → slice_get found j ≡ Some x → MatchOption x.reach (Unit {0}) (λ r. IsRatedStep ls rs r.step)
rating_ready ls actors found seen rs j x f at = step_ready ls actors found seen rs j x x.reach f at refl

pub rating_within : (ls : List Link) (actors : ℕ) (found : List Found) (seen : List Bool) (rs : List Ratio) (j : ℕ) (x : Found) → IsRating ls actors found seen rs j
    → slice_get found j ≡ Some x → x.actor < length rs
rating_within ls actors found seen rs j x f at =
    let t = f.searched in
    let (e, here, same) = entry_of found t.entries t.read j x at in
    let lt = t.tree.within j e here in
    let size = f.size in
    omega arith

pub rating_more : (ls : List Link) (actors : ℕ) (found : List Found) (seen : List Bool) (rs : List Ratio) (j : ℕ) (x : Found) (q : Ratio) → HasSums ls → IsRating ls actors found seen rs j
    → slice_get found j ≡ Some x → MatchOption x.reach (q ≡ one) (λ r. IsStepped ls rs r.step q) → q.num ≤ 100000 → q.den ≤ 100000
    → IsRating ls actors found seen (slice_set rs x.actor q) (j + 1)
rating_more ls actors found seen rs j x q sums f at gives low high =
    let t = f.searched in
    let (e, here, same) = entry_of found t.entries t.read j x at in
    let value = way_value ls actors found t.entries seen rs sums t.read t.tree j x e at here f.rated q gives in
    let next : AreRated ls t.entries (slice_set rs e.actor q) (j + 1) = rated_more ls actors t.entries seen rs j e q t.tree f.rated f.size here (value, low, high) in
    record {
      searched = t;
      rated = subst (λ a. AreRated ls t.entries (slice_set rs a q) (j + 1)) same next;
      size = length-set rs x.actor q ∙ f.size;
    }

pub rating_above : (ls : List Link) (actors : ℕ) (found : List Found) (seen : List Bool) (rs : List Ratio) (j : ℕ) (x : Found) (q : Ratio) (path : List WalkStep) → HasSums ls
    → IsRating ls actors found seen rs j → slice_get found j ≡ Some x → MatchOption x.reach (q ≡ one) (λ r. IsStepped ls rs r.step q) → (100000 < q.num) ⊎ (100000 < q.den)
    → IsWayAt found j path → IsFirstAboveLimit ls path
rating_above ls actors found seen rs j x q path sums f at gives over way =
    let t = f.searched in
    let (e, here, same) = entry_of found t.entries t.read j x at in
    let value = way_value ls actors found t.entries seen rs sums t.read t.tree j x e at here f.rated q gives in
    subst (λ (w : List WalkStep). IsFirstAboveLimit ls w) (sym (way t.entries e t.read here))
    (first_above ls actors t.entries seen rs j e sums t.tree f.rated here (q.num, q.den, value, over))

pub rating_all : (ls : List Link) (actors : ℕ) (found : List Found) (seen : List Bool) (rs : List Ratio) (j : ℕ) → IsRating ls actors found seen rs j → length found ≤ j
    → ((b : ℕ) → b < actors → mark_at seen b ≡ true) → AreRatios ls actors rs
rating_all ls actors found seen rs j f all connected =
    let t = f.searched in
    let size = t.read.size in
    rated_all ls actors t.entries seen rs j t.tree f.rated f.size (omega arith) connected
