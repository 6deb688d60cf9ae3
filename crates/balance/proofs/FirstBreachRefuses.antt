-- The refusal for the first channel that doesn't keep the ratios.
use Rattle.std.proofs.Common.{◌≡◌, ℕ, ◌*◌, ◌<◌, Bool, true, Some, List, ◌∷◌, ◌++◌, length, sym, refl, subst, ◌∙◌, arith}
use Rattle.std.specs.Prelude.{slice_get}
use Rattle.std.proofs.lemmas.Option.{slice_get_within}
use Rattle.sd_base.proofs.ElementsKeepPlaces.{get-there}
use Rattle.balance.specs.declared.walk.WalkStep.{WalkStep}
use Rattle.balance.specs.declared.walk.Link.{Link}
use Rattle.balance.specs.declared.search.Found.{Found}
use Rattle.balance.specs.declared.ratio.Ratio.{Ratio}
use Rattle.balance.specs.declared.refusal.BalanceError.{BalanceError}
use Rattle.balance.specs.declared.refusal.BalanceError.TheVariants.{Apart, RatioTooLarge, Unbalanced, RoundTooLarge, NoMemory}
use Rattle.balance.specs.Walks.{IsWay, IsLinkWalk, IsLowest, walk_num, walk_den, turned}
use Rattle.balance.specs.Repetition.{IsTreePath, IsClosedOver}
use Rattle.balance.specs.inside.Search.{HasSums, HasEnds, IsSearched, IsFound, IsWayTo, IsClosedBetween, mark_at}
use Rattle.balance.specs.inside.Ratios.{ratio_at, IsSummed, AreRatios, Keeps, IsClosedRefusal, IsKeptRefusal}
use Rattle.balance.proofs.OneShortestWay.{one_way}
use Rattle.balance.proofs.SearchFindsWays.{entry_of}
use Rattle.balance.proofs.LeastRounds.{kept_from, keeps_from, num_pos, den_pos}
use Rattle.balance.proofs.TreePathsClose.{closed_walk, closed_ratio, parts_equal}

-- what the call for a channel needs
pub record IsReady (actors : ℕ) (found : List Found) (rs : List Ratio) (l : Link) : Type 0 where
  pub source : IsFound found l.source
  pub target : IsFound found l.target
  pub from : l.source < length rs
  pub to : l.target < length rs
  pub sums : IsSummed l
  pub positive : 0 < (ratio_at rs l.target).num

-- a marked actor was found
found_from : (ls : List Link) (actors : ℕ) (found : List Found) (seen : List Bool) (a : ℕ) → IsSearched ls actors found seen → mark_at seen a ≡ true → IsFound found a
found_from ls actors found seen a t on =
    let (j, e, at, end) = t.tree.marked a on in
    let (x, here) = get-there found j (let lt = slice_get_within t.entries j e at in let s = t.read.size in omega arith) in
    (j, x, here, sym (t.read.actor j x e here at) ∙ end)

-- the way that is read off for an actor is its way
way_from : (ls : List Link) (actors : ℕ) (found : List Found) (seen : List Bool) (a : ℕ) (w : List WalkStep) → IsSearched ls actors found seen → IsWayTo found a w → IsWay ls a w
way_from ls actors found seen a w t (j, x, here, end, read) =
    let (e, at, same) = entry_of found t.entries t.read j x here in
    subst (λ n. IsWay ls n w) (same ∙ end) (subst (λ (p : List WalkStep). IsWay ls e.actor p) (sym (read t.entries e t.read at)) (t.tree.ways j e at))

pub ready : (ls : List Link) (actors : ℕ) (found : List Found) (seen : List Bool) (rs : List Ratio) → HasSums ls → HasEnds actors ls → IsSearched ls actors found seen
    → ((b : ℕ) → b < actors → mark_at seen b ≡ true) → AreRatios ls actors rs → (c : ℕ) (l : Link) → slice_get ls c ≡ Some l → IsReady actors found rs l
ready ls actors found seen rs sums ends tree connected are c l is =
    let size = are.size in
    let low = ends.source c l is in
    let high = ends.target c l is in
    record {
      source = found_from ls actors found seen l.source tree (connected l.source low);
      target = found_from ls actors found seen l.target tree (connected l.target high);
      from = omega arith;
      to = omega arith;
      sums = (sums.made c l is, sums.taken c l is, sums.most_made c l is, sums.most_taken c l is);
      positive = num_pos ls actors rs sums are l.target;
    }

-- the ratio of an actor is that of its way
ratio_of_way : (ls : List Link) (actors : ℕ) (rs : List Ratio) → AreRatios ls actors rs → (b : ℕ) → b < actors → (p : List WalkStep) → IsWay ls b p
    → (ratio_at rs b).num * walk_den ls p ≡ (ratio_at rs b).den * walk_num ls p
ratio_of_way ls actors rs are b lt p way =
    let (q, way', ratio) = are.each b lt in
    subst (λ (t : List WalkStep). (ratio_at rs b).num * walk_den ls t ≡ (ratio_at rs b).den * walk_num ls t) (one_way ls b q p way' way) ratio.0.0

closed_over : (ls : List Link) (actors : ℕ) (found : List Found) (seen : List Bool) (rs : List Ratio) → HasSums ls → HasEnds actors ls → IsSearched ls actors found seen
    → AreRatios ls actors rs → (c : ℕ) (l : Link) → slice_get ls c ≡ Some l → (Keeps rs l → ⊥) → (walk : List WalkStep) (num den : ℕ) → IsClosedBetween found c l walk
    → IsLowest num den ((ratio_at rs l.source).num * l.made * (ratio_at rs l.target).den) ((ratio_at rs l.target).num * l.taken * (ratio_at rs l.source).den)
    → IsClosedOver ls c walk num den
closed_over ls actors found seen rs sums ends tree are c l is fails walk num den (common, back, on, way, way', parted, walk_is) low =
    let path : List WalkStep = turned back ++ on in
    let step : WalkStep = record { channel = c; forward = true } in
    let from : IsWay ls l.target (common ++ back) = way_from ls actors found seen l.target (common ++ back) tree way in
    let to : IsWay ls l.source (common ++ on) = way_from ls actors found seen l.source (common ++ on) tree way' in
    let path_of : IsTreePath ls l.target l.source path = record { common = common; back = back; on = on; from = from; to = to; parted = parted; path_is = refl } in
    let ratio : IsLowest num den (walk_num ls (step ∷ path)) (walk_den ls (step ∷ path)) =
    closed_ratio ls sums c l path is path_of (ratio_at rs l.source).num (ratio_at rs l.source).den (ratio_at rs l.target).num (ratio_at rs l.target).den num den
    (num_pos ls actors rs sums are l.source) (den_pos ls actors rs are l.target)
    (ratio_of_way ls actors rs are l.source (ends.source c l is) (common ++ on) to)
    (ratio_of_way ls actors rs are l.target (ends.target c l is) (common ++ back) from) low in
    record {
      link = l;
      over = is;
      path = path;
      tree = path_of;
      walk_is = walk_is;
      closed = subst (λ (t : List WalkStep). IsLinkWalk ls l.source t l.source) (sym walk_is) (closed_walk ls c l path is path_of);
      ratio = subst (λ (t : List WalkStep). IsLowest num den (walk_num ls t) (walk_den ls t)) (sym walk_is) ratio;
      not_one = λ same. fails (sym (parts_equal num den ((ratio_at rs l.source).num * l.made * (ratio_at rs l.target).den)
          ((ratio_at rs l.target).num * l.taken * (ratio_at rs l.source).den) low same));
    }

pub kept_refusal : (ls : List Link) (actors : ℕ) (found : List Found) (seen : List Bool) (rs : List Ratio) → HasSums ls → HasEnds actors ls → IsSearched ls actors found seen
    → AreRatios ls actors rs → (c : ℕ) (l : Link) → slice_get ls c ≡ Some l → (Keeps rs l → ⊥) → ((k : ℕ) (m : Link) → k < c → slice_get ls k ≡ Some m → Keeps rs m)
    → (e : BalanceError) → IsClosedRefusal found rs c l e → IsKeptRefusal ls e
kept_refusal ls actors found seen rs sums ends tree are c l is fails before (Unbalanced walk num den) (between, low) = (
  c,
  λ kept. fails (keeps_from ls actors rs sums ends are c l is kept),
  λ k lt m p q at w w'. kept_from ls actors rs ends are k m at (before k m lt at) m p q at w w',
  closed_over ls actors found seen rs sums ends tree are c l is fails walk num den between low,
)
kept_refusal ls actors found seen rs sums ends tree are c l is fails before (Apart a b) h = absurd h
kept_refusal ls actors found seen rs sums ends tree are c l is fails before (RatioTooLarge path) h = absurd h
kept_refusal ls actors found seen rs sums ends tree are c l is fails before RoundTooLarge h = absurd h
kept_refusal ls actors found seen rs sums ends tree are c l is fails before NoMemory h = absurd h
