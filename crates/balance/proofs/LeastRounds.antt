-- The round of a graph whose channels keep the ratios: it balances, it is the least, and it sums to at least the common
-- multiple of the denominators.
use Rattle.std.proofs.Common.{◌≡◌, ℕ, zero, suc, ◌+◌, ◌*◌, ◌/◌, ◌<◌, ◌≤◌, Bool, true, false, Some, List, [], ◌∷◌, ◌++◌, length, sum, sym, refl, ap, subst, ◌∙◌, inl, inr, arith}
use Rattle.std.specs.Prelude.{slice_get, slice_index, All}
use Rattle.std.specs.Int.{◌∣◌}
use Rattle.std.proofs.Math.Nat.{eq_of_mul-eq-mul_right, eq_of_mul-eq-mul_left, mul-pos, mul-div_cancel', mul-le-mul_right, mul-le-mul_left, one-dvd, div-le_self}
use Rattle.std.proofs.lemmas.Nat.{mul-le}
use Rattle.std.proofs.lemmas.Nat.Gcd.{dvd_trans, dvd_refl}
use Rattle.std.proofs.lemmas.Bool.{cases_lt, cases_eq}
use Rattle.std.proofs.lemmas.List.{nil_from_length, get_or_default, get_or_past, length-map, length_push, get_or_append_left, get_or_push}
use Rattle.std.proofs.lemmas.List.Sums.{get_or-le-sum_by, sum_by-le}
use Rattle.std.proofs.lemmas.List.Elements.{All-from_get_or}
use Rattle.std.proofs.lemmas.Option.{none-some, same_Some, slice_get_within, slice_get-get_or, get_or_from_slice_get}
use Rattle.sd_base.specs.Numbers.{IsLcm, IsAboveLimit}
use Rattle.sd_base.proofs.LeastMultiplesDivide.{root_divides, quotient_pos, lcm_from_gcd, some_gcd}
use Rattle.sd_base.specs.declared.tables.GraphFile.{GraphFile}
use Rattle.sd_base.specs.declared.tables.ActorRow.{ActorRow}
use Rattle.sd_base.specs.Tables.{KeepsRules, phases_of}
use Rattle.sd_base.specs.Net.{IsRepetitionOf}
use Rattle.balance.specs.declared.walk.WalkStep.{WalkStep}
use Rattle.balance.specs.declared.walk.Link.{Link}
use Rattle.balance.specs.declared.ratio.Ratio.{Ratio}
use Rattle.balance.specs.Walks.{links_of, IsLinkWalk, IsLowest, step_to, walk_num, walk_den}
use Rattle.balance.specs.Repetition.{IsConsistent, IsKept, HasRatioWithinLimit, WaysAreWithinLimit}
use Rattle.balance.specs.inside.Search.{HasEnds}
use Rattle.balance.specs.inside.Ratios.{one, ratio_at, IsSmall, IsRatio, AreRatios, Keeps, DivideAll, IsCommon, IsRoundBy}
use Rattle.balance.proofs.KeysOrderWalks.{no_longer}
use Rattle.balance.specs.inside.Search.{HasSums}
use Rattle.balance.proofs.WalksJoinAndTurn.{parts_pos, Balanced, carried}
use Rattle.balance.proofs.OneShortestWay.{one_way}
use Rattle.balance.proofs.LowestTermsAreOne.{one_lowest, lowest_pos, reduced, kept_by_lowest, lowest_by_kept}
use Rattle.balance.proofs.RulesBoundLinks.{phases_at, has_sums}
use Rattle.balance.proofs.CyclesBalance.{balanced_cycles, balances_firings, cycles_of}

-- ---- common multiples

lcm_exists : (a b : ℕ) → 0 < a → 0 < b → (m : ℕ) × IsLcm a b m
lcm_exists a b sa sb = (let (g, is) = some_gcd (suc b) a b (omega arith) in ((a / g) * b, lcm_from_gcd a b g sa sb is))

pub common_exists : (rs : List Ratio) → ((k : ℕ) (r : Ratio) → slice_get rs k ≡ Some r → 0 < r.den) → (m : ℕ) × IsCommon rs m
common_exists [] pos = (1, record { some = omega arith; all = λ k r is. absurd (none-some r is); least = λ n h. one-dvd n })
common_exists (r ∷ rs) pos =
    let (m, c) = common_exists rs (λ k s is. pos (suc k) s is) in
    let (n, l) = lcm_exists r.den m (pos 0 r refl) c.some in
    (n, record { some = l.0; all = λ k s is. at n m l c k s is; least = λ z h. l.3 z (h 0 r refl) (c.least z (λ k s is. h (suc k) s is)) })
  where
    at : (n m : ℕ) → IsLcm r.den m n → IsCommon rs m → (k : ℕ) (s : Ratio) → slice_get (r ∷ rs) k ≡ Some s → s.den ∣ n
    at n m l c zero s is = subst (λ (t : Ratio). t.den ∣ n) (same_Some r s is) l.1
    at n m l c (suc k) s is = dvd_trans s.den (c.all k s is) l.2

-- the least common multiple of the denominators before place i
pub record IsCommonBelow (rs : List Ratio) (i m : ℕ) : Type 0 where
  pub some : 0 < m
  pub all : (k : ℕ) (r : Ratio) → k < i → slice_get rs k ≡ Some r → r.den ∣ m
  pub least : (n : ℕ) → ((k : ℕ) (r : Ratio) → k < i → slice_get rs k ≡ Some r → r.den ∣ n) → m ∣ n

pub common_start : (rs : List Ratio) → IsCommonBelow rs 0 1
common_start rs = record { some = omega arith; all = λ k r lt is. absurd (let none : ⊥ = omega arith in none); least = λ n h. one-dvd n }

pub common_more : (rs : List Ratio) (i m n : ℕ) (r : Ratio) → slice_get rs i ≡ Some r → IsLcm m r.den n → IsCommonBelow rs i m → IsCommonBelow rs (i + 1) n
common_more rs i m n r at lcm c = record {
  some = lcm.0;
  all = λ k s lt is. elim (cases_eq k i) [
    | inl e ↦ subst (λ (t : Ratio). t.den ∣ n) (same_Some r s (sym at ∙ ap (slice_get rs) (sym e) ∙ is)) lcm.2
    | inr ne ↦ dvd_trans s.den (c.all k s (omega arith) is) lcm.1
  ];
  least = λ z h. lcm.3 z (c.least z (λ k s lt is. h k s (omega arith) is)) (h i r (omega arith) at);
}

pub common_end : (rs : List Ratio) (i m : ℕ) → length rs ≤ i → IsCommonBelow rs i m → IsCommon rs m
common_end rs i m end c = record {
  some = c.some;
  all = λ k r is. c.all k r (let lt = slice_get_within rs k r is in omega arith) is;
  least = λ n h. c.least n (λ k r lt is. h k r is);
}

-- where the next common multiple is above the limit, so is each one of all
pub common_above : (rs : List Ratio) (i m limit : ℕ) (r : Ratio) → slice_get rs i ≡ Some r → IsAboveLimit m r.den limit → IsCommonBelow rs i m
    → (n : ℕ) → 0 < n → DivideAll rs n → limit < n
common_above rs i m limit r at above c n some all = above n some (c.least n (λ k s lt is. all k s is)) (all i r at)

-- ---- the ratios by actor
pub in_range : (rs : List Ratio) (b : ℕ) → b < length rs → slice_get rs b ≡ Some (ratio_at rs b)
in_range rs b lt = slice_get-get_or rs b one lt

at_actor : (ls : List Link) (actors : ℕ) (rs : List Ratio) → AreRatios ls actors rs → (P : Ratio → Type 0) → P one
    → ((b : ℕ) (p : List WalkStep) → IsRatio ls p (ratio_at rs b) → P (ratio_at rs b)) → (b : ℕ) → P (ratio_at rs b)
at_actor ls actors rs are P base each b = elim (cases_lt b actors) [
  | inl lt ↦ (let (p, way, ratio) = are.each b lt in each b p ratio)
  | inr ge ↦ (let e = are.size in subst P (sym (get_or_past rs b one (omega arith))) base)
]

pub den_pos : (ls : List Link) (actors : ℕ) (rs : List Ratio) → AreRatios ls actors rs → (b : ℕ) → 0 < (ratio_at rs b).den
den_pos ls actors rs are b = at_actor ls actors rs are (λ r. 0 < r.den) (omega arith) (λ a p ratio. ratio.0.2) b

pub num_pos : (ls : List Link) (actors : ℕ) (rs : List Ratio) → HasSums ls → AreRatios ls actors rs → (b : ℕ) → 0 < (ratio_at rs b).num
num_pos ls actors rs sums are b =
    at_actor ls actors rs are (λ r. 0 < r.num) (omega arith)
    (λ a p ratio. lowest_pos (ratio_at rs a).num (ratio_at rs a).den (walk_num ls p) (walk_den ls p) ratio.0 (parts_pos ls sums p).0) b

pub small : (ls : List Link) (actors : ℕ) (rs : List Ratio) → AreRatios ls actors rs → (b : ℕ) → ((ratio_at rs b).num ≤ 100000) × ((ratio_at rs b).den ≤ 100000)
small ls actors rs are b =
    at_actor ls actors rs are (λ r. (r.num ≤ 100000) × (r.den ≤ 100000)) (omega arith, omega arith) (λ a p ratio. (ratio.1, ratio.2)) b

pub den_divides_common : (rs : List Ratio) (m : ℕ) → DivideAll rs m → (b : ℕ) → (ratio_at rs b).den ∣ m
den_divides_common rs m all b = elim (cases_lt b (length rs)) [
  | inl lt ↦ all b (ratio_at rs b) (in_range rs b lt)
  | inr ge ↦ subst (λ (r : Ratio). r.den ∣ m) (sym (get_or_past rs b one ge)) (one-dvd m)
]

pub walk_end : (ls : List Link) (actors : ℕ) → HasEnds actors ls → (ss : List WalkStep) (a b : ℕ) → a < actors → IsLinkWalk ls a ss b → b < actors
walk_end ls actors ends [] a b lt h = subst (λ n. n < actors) h lt
walk_end ls actors ends (s ∷ ss) a b lt (l, is, from, rest) = walk_end ls actors ends ss (step_to l s.forward) b (to l s.channel is s.forward) rest
  where
    to : (l : Link) (k : ℕ) → slice_get ls k ≡ Some l → (f : Bool) → step_to l f < actors
    to l k is true = ends.target k l is
    to l k is false = ends.source k l is

pub ways_within : (ls : List Link) (actors : ℕ) (rs : List Ratio) → HasEnds actors ls → 0 < actors → AreRatios ls actors rs → WaysAreWithinLimit ls
ways_within ls actors rs ends some are b p way =
    let lt : b < actors = walk_end ls actors ends p 0 b some way.0 in
    let (q, way', ratio) = are.each b lt in
    subst (λ (t : List WalkStep). HasRatioWithinLimit ls t) (one_way ls b q p way' way)
    ((ratio_at rs b).num, (ratio_at rs b).den, ratio.0, ratio.1, ratio.2)

-- ---- channels that keep the ratios
pub kept_from : (ls : List Link) (actors : ℕ) (rs : List Ratio) → HasEnds actors ls → AreRatios ls actors rs → (c : ℕ) (l : Link) → slice_get ls c ≡ Some l
    → Keeps rs l → IsKept ls c
kept_from ls actors rs ends are c l over keeps k p q is way way' =
    let same : l ≡ k = same_Some l k (sym over ∙ is) in
    let keeps' : Keeps rs k = subst (λ (x : Link). Keeps rs x) same keeps in
    let (p', w, r) = are.each k.source (ends.source c k is) in
    let (q', w', r') = are.each k.target (ends.target c k is) in
    let low : IsLowest (ratio_at rs k.source).num (ratio_at rs k.source).den (walk_num ls p) (walk_den ls p) =
    subst (λ (t : List WalkStep). IsLowest (ratio_at rs k.source).num (ratio_at rs k.source).den (walk_num ls t) (walk_den ls t)) (one_way ls k.source p' p w way) r.0 in
    let low' : IsLowest (ratio_at rs k.target).num (ratio_at rs k.target).den (walk_num ls q) (walk_den ls q) =
    subst (λ (t : List WalkStep). IsLowest (ratio_at rs k.target).num (ratio_at rs k.target).den (walk_num ls t) (walk_den ls t)) (one_way ls k.target q' q w' way') r'.0 in
    kept_by_lowest (ratio_at rs k.source).num (ratio_at rs k.source).den (walk_num ls p) (walk_den ls p)
    (ratio_at rs k.target).num (ratio_at rs k.target).den (walk_num ls q) (walk_den ls q) k.made k.taken low low' keeps'

pub keeps_from : (ls : List Link) (actors : ℕ) (rs : List Ratio) → HasSums ls → HasEnds actors ls → AreRatios ls actors rs → (c : ℕ) (l : Link) → slice_get ls c ≡ Some l
    → IsKept ls c → Keeps rs l
keeps_from ls actors rs sums ends are c l over kept =
    let (p, w, r) = are.each l.source (ends.source c l over) in
    let (q, w', r') = are.each l.target (ends.target c l over) in
    lowest_by_kept (ratio_at rs l.source).num (ratio_at rs l.source).den (walk_num ls p) (walk_den ls p)
    (ratio_at rs l.target).num (ratio_at rs l.target).den (walk_num ls q) (walk_den ls q) l.made l.taken r.0 r'.0
    (parts_pos ls sums p).1 (parts_pos ls sums q).1 (kept l p q over w w')

-- ---- the vector by cycles
abbrev pub quotas : List Ratio → ℕ → ℕ → ℕ
quotas rs m a = (m / (ratio_at rs a).den) * (ratio_at rs a).num

quotas_pos : (ls : List Link) (actors : ℕ) (rs : List Ratio) (m : ℕ) → HasSums ls → AreRatios ls actors rs → IsCommon rs m → (a : ℕ) → 0 < quotas rs m a
quotas_pos ls actors rs m sums are common a =
    mul-pos (quotient_pos m (ratio_at rs a).den common.some (den_divides_common rs m common.all a)) (num_pos ls actors rs sums are a)

even : (m ns ds nt dt x y M T : ℕ) → ds * x ≡ m → dt * y ≡ m → 0 < ds → 0 < dt → ns * M * dt ≡ nt * T * ds → (x * ns) * M ≡ (y * nt) * T
even m ns ds nt dt x y M T ex ey ss st h =
    let cross : (x * ns) * M * (ds * dt) ≡ (y * nt) * T * (ds * dt) =
    omega (arith, ap (λ t. t * (ns * M * dt)) ex, ap (λ t. t * (nt * T * ds)) ey, ap (λ t. t * m) h) in
    eq_of_mul-eq-mul_right (ds * dt) (mul-pos ss st) ((x * ns) * M) ((y * nt) * T) cross

quotas_balanced : (ls : List Link) (actors : ℕ) (rs : List Ratio) (m : ℕ) → AreRatios ls actors rs → IsCommon rs m
    → ((k : ℕ) (l : Link) → slice_get ls k ≡ Some l → Keeps rs l) → Balanced ls (quotas rs m)
quotas_balanced ls actors rs m are common keeps k l is =
    let s = ratio_at rs l.source in
    let t = ratio_at rs l.target in
    even m s.num s.den t.num t.den (m / s.den) (m / t.den) l.made l.taken
    (mul-div_cancel' s.den (den_divides_common rs m common.all l.source))
    (mul-div_cancel' t.den (den_divides_common rs m common.all l.target))
    (den_pos ls actors rs are l.source) (den_pos ls actors rs are l.target) (keeps k l is)

pub dens_pos : (ls : List Link) (actors : ℕ) (rs : List Ratio) → AreRatios ls actors rs → (k : ℕ) (r : Ratio) → slice_get rs k ≡ Some r → 0 < r.den
dens_pos ls actors rs are k r is = subst (λ (t : Ratio). 0 < t.den) (get_or_from_slice_get rs k r one is) (den_pos ls actors rs are k)

-- where all channels keep the ratios, no walk is unbalanced
pub consistent_from : (ls : List Link) (actors : ℕ) (rs : List Ratio) → HasSums ls → AreRatios ls actors rs
    → ((k : ℕ) (l : Link) → slice_get ls k ≡ Some l → Keeps rs l) → IsConsistent ls
consistent_from ls actors rs sums are keeps a ss walk =
    let (m, common) = common_exists rs (dens_pos ls actors rs are) in
    let e : quotas rs m a * walk_den ls ss ≡ quotas rs m a * walk_num ls ss =
    carried ls (quotas rs m) (quotas_balanced ls actors rs m are common keeps) ss a a walk in
    eq_of_mul-eq-mul_left (quotas rs m a) (quotas_pos ls actors rs m sums are common a) (walk_num ls ss) (walk_den ls ss) (sym e)

-- what is a multiple of the common multiple at actor 0 is at least the quota elsewhere
least_at : (n d t m x y : ℕ) → d * t ≡ m → m ∣ x → 0 < x → 0 < d → y * d ≡ x * n → t * n ≤ y
least_at n d t m x y em div some sd h =
    let z : ℕ = x / m in
    let ez : m * (x / m) ≡ x = mul-div_cancel' m div in
    let pos : 0 < x / m = quotient_pos x m some div in
    let cross : y * d ≡ (x / m) * (t * n) * d = omega (arith, h, ap (λ w. w * n) ez, ap (λ w. w * ((x / m) * n)) em) in
    let same : y ≡ (x / m) * (t * n) = eq_of_mul-eq-mul_right d sd y ((x / m) * (t * n)) cross in
    let up : 1 * (t * n) ≤ (x / m) * (t * n) = mul-le-mul_right (t * n) pos in
    omega arith

some_phase : (g : GraphFile) → KeepsRules g → (a : ℕ) → a < length (phases_of g) → 1 ≤ slice_index (phases_of g) a
some_phase g rules a lt = (phases_at g rules a lt).0

cycle_pos : (w f : ℕ) → 1 ≤ w → w ≡ (w / f) * f → 0 < w / f
cycle_pos w f some e = elim (cases_lt 0 (w / f)) [
  | inl h ↦ h
  | inr h ↦
      let z : w / f ≡ 0 = omega arith in
      let e' : (w / f) * f ≡ 0 * f = ap (λ n. n * f) z in
      absurd (omega arith)
]

-- the vector by the least common multiple is the repetition vector
pub round_is : (g : GraphFile) → KeepsRules g → (rs : List Ratio) (m : ℕ) (v : List ℕ) → AreRatios (links_of g) (length g.actors) rs → IsCommon rs m
    → ((k : ℕ) (l : Link) → slice_get (links_of g) k ≡ Some l → Keeps rs l) → IsRoundBy (phases_of g) rs m v → IsRepetitionOf g v
round_is g rules rs m v are common keeps by =
    let ls : List Link = links_of g in
    let actors : ℕ = length g.actors in
    let sums : HasSums ls = has_sums g rules in
    let size : length (phases_of g) ≡ length g.actors = length-map g.actors (λ (x : ActorRow). x.phases) in
    record {
      balances = balances_firings g rules (quotas rs m) v by.size (some_phase g rules) (quotas_pos ls actors rs m sums are common) by.each
          (quotas_balanced ls actors rs m are common keeps);
      least = λ w b a lt.
          (let q : ℕ → ℕ = λ x. slice_index w x / slice_index (phases_of g) x in
          let even' : Balanced ls q = balanced_cycles g rules w b in
          let whole : (x : ℕ) → x < length (phases_of g) → slice_index w x ≡ q x * slice_index (phases_of g) x =
          λ x below. cycles_of (slice_index w x) (slice_index (phases_of g) x) (b.cycles x below) in
          let some : 0 < length (phases_of g) = (let r = rules.some_actor in omega arith) in
          let start : 0 < q 0 = cycle_pos (slice_index w 0) (slice_index (phases_of g) 0) (b.fires 0 some) (whole 0 some) in
          let spread : (x : ℕ) → x < actors → q x * (ratio_at rs x).den ≡ q 0 * (ratio_at rs x).num =
          λ x below. (let (p, way, ratio) = are.each x below in
          reduced (q x) (q 0) (walk_num ls p) (walk_den ls p) (ratio_at rs x).num (ratio_at rs x).den
          (carried ls q even' p 0 x way.0) ratio.0.0 (parts_pos ls sums p).0) in
          let divide : DivideAll rs (q 0) =
          λ k r is.
          (let in_list : k < length rs = slice_get_within rs k r is in
          let below : k < actors = (let e = are.size in omega arith) in
          let same : ratio_at rs k ≡ r = get_or_from_slice_get rs k r one is in
          let (p, way, ratio) = are.each k below in
          subst (λ (t : Ratio). t.den ∣ q 0) same
          (root_divides (ratio_at rs k).num (ratio_at rs k).den (q 0) (q k) ratio.0.1 (spread k below))) in
          let lt' : a < actors = omega arith in
          let le : quotas rs m a ≤ q a =
          least_at (ratio_at rs a).num (ratio_at rs a).den (m / (ratio_at rs a).den) m (q 0) (q a)
          (mul-div_cancel' (ratio_at rs a).den (den_divides_common rs m common.all a)) (common.least (q 0) divide) start
          (den_pos ls actors rs are a) (spread a lt') in
          let up : quotas rs m a * slice_index (phases_of g) a ≤ q a * slice_index (phases_of g) a = mul-le-mul_right (slice_index (phases_of g) a) le in
          omega (arith, up, by.each a lt, whole a lt));
    }

-- the ratio of actor 0 is 1
pub first_is_one : (ls : List Link) (actors : ℕ) (rs : List Ratio) → 0 < actors → AreRatios ls actors rs → ((ratio_at rs 0).num ≡ 1) × ((ratio_at rs 0).den ≡ 1)
first_is_one ls actors rs some are =
    let (p, way, ratio) = are.each 0 some in
    let short : length p ≤ 0 = no_longer p [] (way.1 [] refl) in
    let none : p ≡ [] = nil_from_length p (omega arith) in
    let low : IsLowest (ratio_at rs 0).num (ratio_at rs 0).den 1 1 =
    subst (λ (t : List WalkStep). IsLowest (ratio_at rs 0).num (ratio_at rs 0).den (walk_num ls t) (walk_den ls t)) none ratio.0 in
    one_lowest (ratio_at rs 0).num (ratio_at rs 0).den 1 1 1 1 low (refl, (dvd_refl 1, dvd_refl 1, λ d p q. p), omega arith) (omega arith) (omega arith)

-- a round has at least as many firings as the common multiple
pub round_above : (g : GraphFile) → KeepsRules g → (rs : List Ratio) (m : ℕ) (v : List ℕ) → AreRatios (links_of g) (length g.actors) rs
    → IsRoundBy (phases_of g) rs m v → m ≤ sum v
round_above g rules rs m v are by =
    let size : length (phases_of g) ≡ length g.actors = length-map g.actors (λ (x : ActorRow). x.phases) in
    let some : 0 < length g.actors = rules.some_actor in
    let lt : 0 < length (phases_of g) = omega arith in
    let firsts = first_is_one (links_of g) (length g.actors) rs some are in
    let whole : 1 * (m / 1) ≡ m = mul-div_cancel' 1 (one-dvd m) in
    let e : slice_index v 0 ≡ (m / (ratio_at rs 0).den) * (ratio_at rs 0).num * slice_index (phases_of g) 0 = by.each 0 lt in
    let e' : slice_index v 0 ≡ (m / 1) * 1 * slice_index (phases_of g) 0 =
    e ∙ ap (λ d. (m / d) * (ratio_at rs 0).num * slice_index (phases_of g) 0) firsts.1 ∙ ap (λ n. (m / 1) * n * slice_index (phases_of g) 0) firsts.0 in
    let up : (m / 1) * 1 * 1 ≤ (m / 1) * 1 * slice_index (phases_of g) 0 = mul-le-mul_left ((m / 1) * 1) (some_phase g rules 0 lt) in
    let le : slice_index v 0 ≤ sum v = get_or-le-sum_by (λ (x : ℕ). x) v 0 0 (let s = by.size in omega arith) in
    omega arith

-- a list by its values
pub tabulated : (n : ℕ) (f : ℕ → ℕ) → (v : List ℕ) × (length v ≡ n) × ((a : ℕ) → a < n → slice_index v a ≡ f a)
tabulated zero f = ([], refl, λ a lt. absurd (let none : ⊥ = omega arith in none))
tabulated (suc n) f =
    let (v, size, is) = tabulated n f in (
      v ++ f n ∷ [],
      (let e = length_push v (f n) in omega arith),
      λ a lt. elim (cases_eq a n) [
        | inl e ↦ get_or_push v (f n) 0 a (size ∙ sym e) ∙ ap f (sym e)
        | inr ne ↦ get_or_append_left v (f n ∷ []) 0 a (omega arith) ∙ is a (omega arith)
      ],
    )

pub round_exists : (g : GraphFile) (rs : List Ratio) (m : ℕ) → (v : List ℕ) × IsRoundBy (phases_of g) rs m v
round_exists g rs m =
    let (v, size, is) = tabulated (length (phases_of g)) (λ b. (m / (ratio_at rs b).den) * (ratio_at rs b).num * slice_index (phases_of g) b) in
    (v, record { size = size; each = is })

pub small_at : (ls : List Link) (actors : ℕ) (rs : List Ratio) → AreRatios ls actors rs → (b : ℕ) → IsSmall (ratio_at rs b)
small_at ls actors rs are b = (let s = small ls actors rs are b in (s.0, s.1, den_pos ls actors rs are b))

pub all_small : (ls : List Link) (actors : ℕ) (rs : List Ratio) → AreRatios ls actors rs → All IsSmall rs
all_small ls actors rs are k d lt = subst (λ (r : Ratio). IsSmall r) (get_or_default rs k one d lt) (small_at ls actors rs are k)

-- a round's sum is below 2^64
pub round_fits : (g : GraphFile) → KeepsRules g → (rs : List Ratio) (m : ℕ) (v : List ℕ) → AreRatios (links_of g) (length g.actors) rs → m ≤ 100000
    → IsRoundBy (phases_of g) rs m v → sum v ≤ 128 * 40960000000000
round_fits g rules rs m v are low by =
    let size : length (phases_of g) ≡ length g.actors = length-map g.actors (λ (x : ActorRow). x.phases) in
    let each : (b : ℕ) → b < length v → slice_index v b ≤ 40960000000000 = λ b lt.
    (let lt' : b < length (phases_of g) = (let e = by.size in omega arith) in
    let s = small (links_of g) (length g.actors) rs are b in
    let f = phases_at g rules b lt' in
    let div : m / (ratio_at rs b).den ≤ m = div-le_self m (ratio_at rs b).den in
    let div' : m / (ratio_at rs b).den ≤ 100000 = omega arith in
    let one' : (m / (ratio_at rs b).den) * (ratio_at rs b).num ≤ 100000 * 100000 = mul-le (m / (ratio_at rs b).den) (ratio_at rs b).num 100000 100000 div' s.0 in
    let two : (m / (ratio_at rs b).den) * (ratio_at rs b).num * slice_index (phases_of g) b ≤ 100000 * 100000 * 4096 =
    mul-le ((m / (ratio_at rs b).den) * (ratio_at rs b).num) (slice_index (phases_of g) b) (100000 * 100000) 4096 one' f.1 in
    let e = by.each b lt' in
    omega (arith, two, e)) in
    let all : All (λ x. x ≤ 40960000000000) v = All-from_get_or (λ x. x ≤ 40960000000000) v 0 each in
    let le : sum v ≤ length v * 40960000000000 = sum_by-le (λ (x : ℕ). x) 40960000000000 v all in
    let few = rules.few_actors in
    let e = by.size in
    let up : length v * 40960000000000 ≤ 128 * 40960000000000 = (let short : length v ≤ 128 = omega arith in mul-le-mul_right 40960000000000 short) in
    omega arith
