-- At most one answer fits a graph.
use Rattle.std.proofs.Common.{◌≡◌, ℕ, ◌*◌, true, Ok, Err, List, [], ◌∷◌, ◌++◌, sum, sym, refl, ap, subst, ◌∙◌, inl, inr, arith}
use Rattle.std.specs.Prelude.{slice_get}
use Rattle.std.proofs.Math.Nat.{eq_of_mul-eq-mul_right}
use Rattle.std.proofs.lemmas.Bool.{cases_order}
use Rattle.std.proofs.lemmas.Option.{same_Some}
use Rattle.sd_base.specs.declared.tables.GraphFile.{GraphFile}
use Rattle.sd_base.specs.Tables.{KeepsRules}
use Rattle.sd_base.proofs.RoundsKeepTokens.{one-repetition}
use Rattle.balance.specs.declared.walk.WalkStep.{WalkStep}
use Rattle.balance.specs.declared.walk.Link.{Link}
use Rattle.balance.specs.declared.refusal.BalanceError.TheVariants.{Apart, RatioTooLarge, Unbalanced, RoundTooLarge, NoMemory}
use Rattle.balance.specs.Walks.{links_of, walk_num, walk_den, IsLowest, turned}
use Rattle.balance.specs.Repetition.{IsConnected, HasRatioWithinLimit, HasRatioAboveLimit, WaysAreWithinLimit, IsConsistent, IsRound, IsRoundTooLarge, IsApart, IsRatioTooLarge, IsParted, IsTreePath, IsUnbalanced, HasOneAnswer}
use Rattle.balance.specs.inside.Search.{HasSums}
use Rattle.balance.proofs.WalksJoinAndTurn.{parts_pos}
use Rattle.balance.proofs.OneShortestWay.{same_ways, one_way}
use Rattle.balance.proofs.LowestTermsAreOne.{one_lowest}
use Rattle.balance.proofs.RulesBoundLinks.{has_sums}

-- a walk's ratio isn't within the limit and above it
pub within_or_above : (ls : List Link) → HasSums ls → (p : List WalkStep) → HasRatioWithinLimit ls p → HasRatioAboveLimit ls p → ⊥
within_or_above ls sums p (n, d, low, nle, dle) (n', d', low', over) =
    let pos = parts_pos ls sums p in
    let same = one_lowest n d n' d' (walk_num ls p) (walk_den ls p) low low' pos.0 pos.1 in
    let same0 = same.0 in
    let same1 = same.1 in
    elim over [ inl h ↦ omega arith | inr h ↦ omega arith ]

-- a closed walk of ratio 1 has it in lowest terms too
pub one_in_lowest : (ls : List Link) → HasSums ls → (ss : List WalkStep) (n d : ℕ) → IsLowest n d (walk_num ls ss) (walk_den ls ss) → walk_num ls ss ≡ walk_den ls ss → n ≡ d
one_in_lowest ls sums ss n d low same =
    let pos = parts_pos ls sums ss in
    let e : n * walk_den ls ss ≡ d * walk_num ls ss = low.0 in
    eq_of_mul-eq-mul_right (walk_den ls ss) pos.1 n d (e ∙ ap (λ t. d * t) same)

-- lists that part after a common front do so in one way
one_parting : (c b o c' b' o' : List WalkStep) → c ++ b ≡ c' ++ b' → c ++ o ≡ c' ++ o' → IsParted b o → IsParted b' o' → (b ≡ b') × (o ≡ o')
one_parting [] b o [] b' o' eb eo part part' = (eb, eo)
one_parting [] b o (x ∷ c') b' o' eb eo part part' =
    absurd ((subst (λ (t : List WalkStep). IsParted (x ∷ (c' ++ b')) t) eo (subst (λ (t : List WalkStep). IsParted t o) eb part)) refl)
one_parting (x ∷ c) b o [] b' o' eb eo part part' =
    absurd ((subst (λ (t : List WalkStep). IsParted (x ∷ (c ++ b)) t) (sym eo) (subst (λ (t : List WalkStep). IsParted t o') (sym eb) part')) refl)
one_parting (x ∷ c) b o (y ∷ c') b' o' eb eo part part' =
    let tb : c ++ b ≡ c' ++ b' = cc in
    let to : c ++ o ≡ c' ++ o' = cc in
    one_parting c b o c' b' o' tb to part part'

one_tree_path : (ls : List Link) (a b : ℕ) (p q : List WalkStep) → IsTreePath ls a b p → IsTreePath ls a b q → p ≡ q
one_tree_path ls a b p q h k =
    let from = one_way ls a (h.common ++ h.back) (k.common ++ k.back) h.from k.from in
    let to = one_way ls b (h.common ++ h.on) (k.common ++ k.on) h.to k.to in
    let same = one_parting h.common h.back h.on k.common k.back k.on from to h.parted k.parted in
    let e : turned h.back ++ h.on ≡ turned k.back ++ k.on = ap (λ (t : List WalkStep). turned t ++ h.on) same.0 ∙ ap (λ (t : List WalkStep). turned k.back ++ t) same.1 in
    h.path_is ∙ e ∙ sym k.path_is

one_unbalanced : (g : GraphFile) → KeepsRules g → (w w' : List WalkStep) (n d n' d' : ℕ) → IsUnbalanced g w n d → IsUnbalanced g w' n' d' → (w ≡ w') × (n ≡ n') × (d ≡ d')
one_unbalanced g rules w w' n d n' d' h k =
    let ls : List Link = links_of g in
    let channel : h.channel ≡ k.channel = elim (cases_order h.channel k.channel) [
      | inl e ↦ e
      | inr ne ↦ elim ne [ inl lt ↦ absurd (h.fails (k.first h.channel lt)) | inr gt ↦ absurd (k.fails (h.first k.channel gt)) ]
    ] in
    let x = h.walk_over in
    let y = k.walk_over in
    let link : x.link ≡ y.link = same_Some x.link y.link (sym x.over ∙ ap (slice_get ls) channel ∙ y.over) in
    let tree : IsTreePath ls x.link.target x.link.source y.path =
    subst (λ (l : Link). IsTreePath ls l.target l.source y.path) (sym link) y.tree in
    let path : x.path ≡ y.path = one_tree_path ls x.link.target x.link.source x.path y.path x.tree tree in
    let step : ℕ → WalkStep = λ c. record { channel = c; forward = true } in
    let walk : w ≡ w' = x.walk_is ∙ ap (λ c. step c ∷ x.path) channel ∙ ap (λ (t : List WalkStep). step k.channel ∷ t) path ∙ sym y.walk_is in
    let pos = parts_pos ls (has_sums g rules) w in
    let low' : IsLowest n' d' (walk_num ls w) (walk_den ls w) = subst (λ (t : List WalkStep). IsLowest n' d' (walk_num ls t) (walk_den ls t)) (sym walk) y.ratio in
    let same = one_lowest n d n' d' (walk_num ls w) (walk_den ls w) x.ratio low' pos.0 pos.1 in
    (walk, same.0, same.1)

one_apart : (g : GraphFile) (a b a' b' : ℕ) → IsApart g a b → IsApart g a' b' → (a ≡ a') × (b ≡ b')
one_apart g a b a' b' h k = (
  h.first ∙ sym k.first,
  elim (cases_order b b') [
    | inl e ↦ e
    | inr ne ↦ elim ne [
      | inl lt ↦ absurd (h.apart (k.least b lt))
      | inr gt ↦ absurd (k.apart (h.least b' gt))
    ]
  ],
)

connected_or_apart : (g : GraphFile) (a b : ℕ) → IsConnected g → IsApart g a b → ⊥
connected_or_apart g a b all h = h.apart (all b h.actor)

within_or_first : (g : GraphFile) → KeepsRules g → (p : List WalkStep) → WaysAreWithinLimit (links_of g) → IsRatioTooLarge g p → ⊥
within_or_first g rules p within h = within_or_above (links_of g) (has_sums g rules) p (within h.way.end p h.way.way) h.way.above

consistent_or_not : (g : GraphFile) → KeepsRules g → (w : List WalkStep) (n d : ℕ) → IsConsistent (links_of g) → IsUnbalanced g w n d → ⊥
consistent_or_not g rules w n d even h =
    (let x = h.walk_over in x.not_one (one_in_lowest (links_of g) (has_sums g rules) w n d x.ratio (even x.link.source w x.closed)))

one_first : (g : GraphFile) (p q : List WalkStep) → IsRatioTooLarge g p → IsRatioTooLarge g q → p ≡ q
one_first g p q h k =
    same_ways (links_of g) h.way.end k.way.end p q h.way.way k.way.way (h.way.first k.way.end q k.way.way k.way.above) (k.way.first h.way.end p h.way.way h.way.above)

round_or_too_large : (g : GraphFile) (v : List ℕ) → IsRound g v → IsRoundTooLarge g → ⊥
round_or_too_large g v h k =
    let e : sum v ≡ sum k.round = ap sum (one-repetition g v k.round h.least k.least) in
    let le = h.fits in
    let gt = k.above in
    omega arith

pub has_one_answer : HasOneAnswer
has_one_answer g rules (Ok v) (Ok w) h k free free' = ap (λ (t : List ℕ). Ok t) (one-repetition g v w h.least k.least)
has_one_answer g rules (Ok v) (Err (Apart a b)) h k free free' = absurd (connected_or_apart g a b h.balanced.connected k)
has_one_answer g rules (Ok v) (Err (RatioTooLarge p)) h k free free' = absurd (within_or_first g rules p h.balanced.within k)
has_one_answer g rules (Ok v) (Err (Unbalanced w n d)) h k free free' = absurd (consistent_or_not g rules w n d h.balanced.consistent k)
has_one_answer g rules (Ok v) (Err RoundTooLarge) h k free free' = absurd (round_or_too_large g v h k)
has_one_answer g rules x (Err NoMemory) h k free free' = absurd (free' refl)
has_one_answer g rules (Err NoMemory) y h k free free' = absurd (free refl)
has_one_answer g rules (Err (Apart a b)) (Ok v) h k free free' = absurd (connected_or_apart g a b k.balanced.connected h)
has_one_answer g rules (Err (Apart a b)) (Err (Apart a' b')) h k free free' = (let e = one_apart g a b a' b' h k in ap (λ t. Err (Apart t b)) e.0 ∙ ap (λ t. Err (Apart a' t)) e.1)
has_one_answer g rules (Err (Apart a b)) (Err (RatioTooLarge p)) h k free free' = absurd (connected_or_apart g a b k.connected h)
has_one_answer g rules (Err (Apart a b)) (Err (Unbalanced w n d)) h k free free' = absurd (connected_or_apart g a b k.connected h)
has_one_answer g rules (Err (Apart a b)) (Err RoundTooLarge) h k free free' = absurd (connected_or_apart g a b k.balanced.connected h)
has_one_answer g rules (Err (RatioTooLarge p)) (Ok v) h k free free' = absurd (within_or_first g rules p k.balanced.within h)
has_one_answer g rules (Err (RatioTooLarge p)) (Err (Apart a b)) h k free free' = absurd (connected_or_apart g a b h.connected k)
has_one_answer g rules (Err (RatioTooLarge p)) (Err (RatioTooLarge q)) h k free free' = ap (λ (t : List WalkStep). Err (RatioTooLarge t)) (one_first g p q h k)
has_one_answer g rules (Err (RatioTooLarge p)) (Err (Unbalanced w n d)) h k free free' = absurd (within_or_first g rules p k.within h)
has_one_answer g rules (Err (RatioTooLarge p)) (Err RoundTooLarge) h k free free' = absurd (within_or_first g rules p k.balanced.within h)
has_one_answer g rules (Err (Unbalanced w n d)) (Ok v) h k free free' = absurd (consistent_or_not g rules w n d k.balanced.consistent h)
has_one_answer g rules (Err (Unbalanced w n d)) (Err (Apart a b)) h k free free' = absurd (connected_or_apart g a b h.connected k)
has_one_answer g rules (Err (Unbalanced w n d)) (Err (RatioTooLarge p)) h k free free' = absurd (within_or_first g rules p h.within k)
has_one_answer g rules (Err (Unbalanced w n d)) (Err (Unbalanced w' n' d')) h k free free' =
    (let e = one_unbalanced g rules w w' n d n' d' h k in
    ap (λ (t : List WalkStep). Err (Unbalanced t n d)) e.0 ∙ ap (λ t. Err (Unbalanced w' t d)) e.1 ∙ ap (λ t. Err (Unbalanced w' n' t)) e.2)
has_one_answer g rules (Err (Unbalanced w n d)) (Err RoundTooLarge) h k free free' = absurd (consistent_or_not g rules w n d k.balanced.consistent h)
has_one_answer g rules (Err RoundTooLarge) (Ok v) h k free free' = absurd (round_or_too_large g v k h)
has_one_answer g rules (Err RoundTooLarge) (Err (Apart a b)) h k free free' = absurd (connected_or_apart g a b h.balanced.connected k)
has_one_answer g rules (Err RoundTooLarge) (Err (RatioTooLarge p)) h k free free' = absurd (within_or_first g rules p h.balanced.within k)
has_one_answer g rules (Err RoundTooLarge) (Err (Unbalanced w n d)) h k free free' = absurd (consistent_or_not g rules w n d h.balanced.consistent k)
has_one_answer g rules (Err RoundTooLarge) (Err RoundTooLarge) h k free free' = refl
