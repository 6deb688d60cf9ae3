-- Walks: joined, turned round, their ratios, and the first step out of a set.
use Rattle.std.proofs.Common.{◌≡◌, ℕ, ◌+◌, ◌*◌, ◌<◌, ◌≤◌, Bool, true, false, not, Option, Some, None, List, [], ◌∷◌, ◌++◌, sym, refl, ap, subst, ◌∙◌, inl, inr, arith}
use Rattle.std.specs.Prelude.{slice_get}
use Rattle.std.proofs.Math.Nat.{mul-le-mul_right, mul-pos}
use Rattle.std.proofs.lemmas.Bool.{cases_Bool, false≢true}
use Rattle.std.proofs.lemmas.Option.{same_Some}
use Rattle.balance.specs.declared.walk.WalkStep.{WalkStep}
use Rattle.balance.specs.declared.walk.Link.{Link}
use Rattle.balance.specs.Walks.{IsLinkWalk, step_to, step_from, step_num, step_den, num_at, den_at, walk_num, walk_den, turned}
use Rattle.balance.specs.inside.Search.{key_from, HasSums}
use Rattle.balance.proofs.KeysOrderWalks.{key-append, key_grows}

pub walk-append : (ls : List Link) (xs ys : List WalkStep) (a b c : ℕ) → IsLinkWalk ls a xs b → IsLinkWalk ls b ys c → IsLinkWalk ls a (xs ++ ys) c
walk-append ls [] ys a b c h k = subst (λ n. IsLinkWalk ls n ys c) (sym h) k
walk-append ls (x ∷ xs) ys a b c (l, is, from, rest) k = (l, is, from, walk-append ls xs ys (step_to l x.forward) b c rest k)

-- the actor at which a walk's front ends
pub walk_split : (ls : List Link) (xs ys : List WalkStep) (a c : ℕ) → IsLinkWalk ls a (xs ++ ys) c → (b : ℕ) × IsLinkWalk ls a xs b × IsLinkWalk ls b ys c
walk_split ls [] ys a c h = (a, refl, h)
walk_split ls (x ∷ xs) ys a c (l, is, from, rest) =
    let low = walk_split ls xs ys (step_to l x.forward) c rest in
    (low.0, (l, is, from, low.1), low.2)

-- a walk over given steps has one end
pub same_end : (ls : List Link) (ss : List WalkStep) (a b c : ℕ) → IsLinkWalk ls a ss b → IsLinkWalk ls a ss c → b ≡ c
same_end ls [] a b c h k = sym h ∙ k
same_end ls (s ∷ ss) a b c (l, is, from, rest) (l', is', from', rest') =
    let e : l ≡ l' = same_Some l l' (sym is ∙ is') in
    same_end ls ss (step_to l s.forward) b c rest (subst (λ (x : Link). IsLinkWalk ls (step_to x s.forward) ss c) (sym e) rest')

num_assoc : (a b c : ℕ) → a * (b * c) ≡ a * b * c
num_assoc a b c = omega arith

pub num-append : (ls : List Link) (xs ys : List WalkStep) → walk_num ls (xs ++ ys) ≡ walk_num ls xs * walk_num ls ys
num-append ls [] ys = omega arith
num-append ls (x ∷ xs) ys =
    ap (λ n. num_at (slice_get ls x.channel) x.forward * n) (num-append ls xs ys)
    ∙ num_assoc (num_at (slice_get ls x.channel) x.forward) (walk_num ls xs) (walk_num ls ys)

pub den-append : (ls : List Link) (xs ys : List WalkStep) → walk_den ls (xs ++ ys) ≡ walk_den ls xs * walk_den ls ys
den-append ls [] ys = omega arith
den-append ls (x ∷ xs) ys =
    ap (λ n. den_at (slice_get ls x.channel) x.forward * n) (den-append ls xs ys)
    ∙ num_assoc (den_at (slice_get ls x.channel) x.forward) (walk_den ls xs) (walk_den ls ys)

at_pos : (ls : List Link) → HasSums ls → (k : ℕ) (f : Bool) (o : Option Link) → slice_get ls k ≡ o → (0 < num_at o f) × (0 < den_at o f)
at_pos ls sums k f None is = (omega arith, omega arith)
at_pos ls sums k true (Some l) is = (sums.made k l is, sums.taken k l is)
at_pos ls sums k false (Some l) is = (sums.taken k l is, sums.made k l is)

pub parts_pos : (ls : List Link) → HasSums ls → (ss : List WalkStep) → (0 < walk_num ls ss) × (0 < walk_den ls ss)
parts_pos ls sums [] = (omega arith, omega arith)
parts_pos ls sums (s ∷ ss) =
    let here = at_pos ls sums s.channel s.forward (slice_get ls s.channel) refl in
    let rest = parts_pos ls sums ss in
    (mul-pos here.0 rest.0, mul-pos here.1 rest.1)

-- q fires cycles of phases so that on each channel as many tokens are made as taken
abbrev pub Balanced : List Link → (ℕ → ℕ) → Type 0
Balanced ls q = (k : ℕ) (l : Link) → slice_get ls k ≡ Some l → q l.source * l.made ≡ q l.target * l.taken

one_step : (ls : List Link) (q : ℕ → ℕ) → Balanced ls q → (k : ℕ) (l : Link) → slice_get ls k ≡ Some l → (f : Bool)
    → q (step_to l f) * step_den l f ≡ q (step_from l f) * step_num l f
one_step ls q even k l is true = sym (even k l is)
one_step ls q even k l is false = even k l is

joined : (x y z n d n' d' : ℕ) → y * d ≡ x * n → z * d' ≡ y * n' → z * (d * d') ≡ x * (n * n')
joined x y z n d n' d' h k = omega (arith, ap (λ t. t * n') h, ap (λ t. t * d) k)

pub carried : (ls : List Link) (q : ℕ → ℕ) → Balanced ls q → (ss : List WalkStep) (a b : ℕ) → IsLinkWalk ls a ss b
    → q b * walk_den ls ss ≡ q a * walk_num ls ss
carried ls q even [] a b h = omega (arith, ap q h)
carried ls q even (s ∷ ss) a b (l, is, from, rest) =
    let here : q (step_to l s.forward) * step_den l s.forward ≡ q a * step_num l s.forward =
    one_step ls q even s.channel l is s.forward ∙ ap (λ n. q n * step_num l s.forward) (sym from) in
    let more : q b * walk_den ls ss ≡ q (step_to l s.forward) * walk_num ls ss = carried ls q even ss (step_to l s.forward) b rest in
    rw is (joined (q a) (q (step_to l s.forward)) (q b) (step_num l s.forward) (step_den l s.forward) (walk_num ls ss) (walk_den ls ss) here more)

not_from : (l : Link) (f : Bool) → step_from l (not f) ≡ step_to l f
not_from l true = refl
not_from l false = refl

not_to : (l : Link) (f : Bool) → step_to l (not f) ≡ step_from l f
not_to l true = refl
not_to l false = refl

not_num : (o : Option Link) (f : Bool) → num_at o (not f) ≡ den_at o f
not_num (Some l) true = refl
not_num (Some l) false = refl
not_num None f = refl

not_den : (o : Option Link) (f : Bool) → den_at o (not f) ≡ num_at o f
not_den (Some l) true = refl
not_den (Some l) false = refl
not_den None f = refl

pub walk-turned : (ls : List Link) (ss : List WalkStep) (a b : ℕ) → IsLinkWalk ls a ss b → IsLinkWalk ls b (turned ss) a
walk-turned ls [] a b h = sym h
walk-turned ls (s ∷ ss) a b (l, is, from, rest) =
    walk-append ls (turned ss) (record { channel = s.channel; forward = not s.forward } ∷ []) b (step_to l s.forward) a
    (walk-turned ls ss (step_to l s.forward) b rest)
    (l, is, sym (not_from l s.forward), not_to l s.forward ∙ sym from)

pub num-turned : (ls : List Link) (ss : List WalkStep) → walk_num ls (turned ss) ≡ walk_den ls ss
num-turned ls [] = refl
num-turned ls (s ∷ ss) =
    let last : WalkStep = record { channel = s.channel; forward = not s.forward } in
    let e : walk_num ls (turned ss ++ last ∷ []) ≡ walk_num ls (turned ss) * walk_num ls (last ∷ []) = num-append ls (turned ss) (last ∷ []) in
    let e' = num-turned ls ss in
    let e'' = not_num (slice_get ls s.channel) s.forward in
    omega (arith, e, ap (λ n. n * walk_num ls (last ∷ [])) e', ap (λ n. walk_den ls ss * n) e'')

pub den-turned : (ls : List Link) (ss : List WalkStep) → walk_den ls (turned ss) ≡ walk_num ls ss
den-turned ls [] = refl
den-turned ls (s ∷ ss) =
    let last : WalkStep = record { channel = s.channel; forward = not s.forward } in
    let e : walk_den ls (turned ss ++ last ∷ []) ≡ walk_den ls (turned ss) * walk_den ls (last ∷ []) = den-append ls (turned ss) (last ∷ []) in
    let e' = den-turned ls ss in
    let e'' = not_den (slice_get ls s.channel) s.forward in
    omega (arith, e, ap (λ n. n * walk_den ls (last ∷ [])) e', ap (λ n. walk_num ls ss * n) e'')

-- the first step out of what was seen, where each such step's start has a number that no walk to it undercuts
pub crossing_by : (ls : List Link) (m root : ℕ) (seen : ℕ → Bool) (bound : ℕ) → 0 < m
    → ((s : WalkStep) (l : Link) → slice_get ls s.channel ≡ Some l → seen (step_from l s.forward) ≡ true → seen (step_to l s.forward) ≡ false
    → (w : ℕ) × ((ss : List WalkStep) → IsLinkWalk ls root ss (step_from l s.forward) → w ≤ key_from m 0 ss) × (bound ≤ w * m + s.channel + 1))
    → (ss front : List WalkStep) (v u : ℕ) → IsLinkWalk ls root front v → seen v ≡ true → IsLinkWalk ls v ss u → seen u ≡ false
    → bound ≤ key_from m (key_from m 0 front) ss
crossing_by ls m root seen bound some out [] front v u before was h free = absurd (false≢true (sym free ∙ ap seen (sym h) ∙ was))
crossing_by ls m root seen bound some out (s ∷ ss) front v u before was (l, is, from, rest) free =
    elim (cases_Bool (seen (step_to l s.forward))) [
      | inl on ↦
          let front' : List WalkStep = front ++ s ∷ [] in
          let reach : IsLinkWalk ls root front' (step_to l s.forward) = walk-append ls front (s ∷ []) root v (step_to l s.forward) before (l, is, from, refl) in
          let same : key_from m (key_from m 0 front') ss ≡ key_from m (key_from m 0 front * m + s.channel + 1) ss =
          ap (λ n. key_from m n ss) (key-append m 0 front (s ∷ [])) in
          let back = crossing_by ls m root seen bound some out ss front' (step_to l s.forward) u reach on rest free in
          subst (λ n. bound ≤ n) same back
      | inr off ↦
          let low = out s l is (ap seen (sym from) ∙ was) off in
          let here : low.0 ≤ key_from m 0 front = low.1 front (subst (λ n. IsLinkWalk ls root front n) from before) in
          let up : low.0 * m ≤ key_from m 0 front * m = mul-le-mul_right m here in
          let more : key_from m 0 front * m + s.channel + 1 ≤ key_from m (key_from m 0 front * m + s.channel + 1) ss =
          key_grows m some ss (key_from m 0 front * m + s.channel + 1) in
          let low' : bound ≤ low.0 * m + s.channel + 1 = low.2 in
          omega arith
    ]
