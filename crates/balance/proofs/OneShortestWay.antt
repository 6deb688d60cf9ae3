-- The way to an actor is one: it goes over no self-loop, so its channels say its steps.
use Rattle.std.proofs.Common.{◌≡◌, ℕ, ◌≤◌, Bool, true, false, Some, List, [], ◌∷◌, ◌++◌, length, map, sym, refl, ap, subst, ◌∙◌, arith, length-append, append_assoc}
use Rattle.std.specs.Prelude.{slice_get}
use Rattle.std.proofs.lemmas.Option.{same_Some}
use Rattle.balance.specs.declared.walk.WalkStep.{WalkStep}
use Rattle.balance.specs.declared.walk.Link.{Link}
use Rattle.balance.specs.Walks.{IsLinkWalk, IsWay, Precedes, step_to, step_from}
use Rattle.balance.proofs.KeysOrderWalks.{no_longer, same_channels}
use Rattle.balance.proofs.WalksJoinAndTurn.{walk-append, walk_split}
use Rattle.balance.proofs.SearchFindsWays.{loop_back}

abbrev pub NoLoops : List Link → List WalkStep → Type 0
NoLoops ls [] = Unit {0}
NoLoops ls (s ∷ ss) = ((l : Link) → slice_get ls s.channel ≡ Some l → l.source ≡ l.target → ⊥) × NoLoops ls ss

loops_cut : (ls : List Link) (front rest : List WalkStep) (b : ℕ) → IsLinkWalk ls 0 (front ++ rest) b
    → ((q : List WalkStep) → IsLinkWalk ls 0 q b → length (front ++ rest) ≤ length q) → NoLoops ls rest
loops_cut ls front [] b h short = tt
loops_cut ls front (s ∷ rest) b h short = (
  (λ l is self.
      let (v, before, (l', is', from, after)) = walk_split ls front (s ∷ rest) 0 b h in
      let same : l ≡ l' = same_Some l l' (sym is ∙ is') in
      let loop : l'.source ≡ l'.target = subst (λ (x : Link). x.source ≡ x.target) same self in
      let back : v ≡ step_to l' s.forward = from ∙ sym (loop_back l' s.forward loop) in
      let cut : IsLinkWalk ls 0 (front ++ rest) b = walk-append ls front rest 0 v b before (subst (λ n. IsLinkWalk ls n rest b) (sym back) after) in
      let le : length (front ++ (s ∷ rest)) ≤ length (front ++ rest) = short (front ++ rest) cut in
      absurd (omega (arith, le, length-append front (s ∷ rest), length-append front rest))),
  (let e : (front ++ s ∷ []) ++ rest ≡ front ++ (s ∷ rest) = append_assoc front (s ∷ []) rest in
      loops_cut ls (front ++ s ∷ []) rest b (subst (λ (t : List WalkStep). IsLinkWalk ls 0 t b) (sym e) h)
      (λ q k. subst (λ (t : List WalkStep). length t ≤ length q) (sym e) (short q k))),
)

pub no_loops : (ls : List Link) (b : ℕ) (p : List WalkStep) → IsWay ls b p → NoLoops ls p
no_loops ls b p (walk, first) = loops_cut ls [] p b walk (λ q k. no_longer p q (first q k))

same_direction : (l : Link) (f g : Bool) → (l.source ≡ l.target → ⊥) → step_from l f ≡ step_from l g → f ≡ g
same_direction l true true apart e = refl
same_direction l true false apart e = absurd (apart e)
same_direction l false true apart e = absurd (apart (sym e))
same_direction l false false apart e = refl

same_step : (s t : WalkStep) → s.channel ≡ t.channel → s.forward ≡ t.forward → s ≡ t
same_step s t e f =
    let step : ℕ → Bool → WalkStep = λ c g. record { channel = c; forward = g } in
    ap (λ c. step c s.forward) e ∙ ap (λ g. step t.channel g) f

-- walks from one actor over the same channels are the same
pub same_walk : (ls : List Link) (p q : List WalkStep) (a b c : ℕ) → NoLoops ls p → IsLinkWalk ls a p b → IsLinkWalk ls a q c
    → map (λ (s : WalkStep). s.channel) p ≡ map (λ (s : WalkStep). s.channel) q → p ≡ q
same_walk ls [] [] a b c none h k e = refl
same_walk ls [] (y ∷ q) a b c none h k e = cc
same_walk ls (x ∷ p) [] a b c none h k e = cc
same_walk ls (x ∷ p) (y ∷ q) a b c (here, none) (l, is, from, rest) (l', is', from', rest') e =
    let ch : x.channel ≡ y.channel = cc in
    let more : map (λ (s : WalkStep). s.channel) p ≡ map (λ (s : WalkStep). s.channel) q = cc in
    let link : l' ≡ l = same_Some l' l (sym is' ∙ ap (slice_get ls) (sym ch) ∙ is) in
    let from'' : a ≡ step_from l y.forward = subst (λ (t : Link). a ≡ step_from t y.forward) link from' in
    let fwd : x.forward ≡ y.forward = same_direction l x.forward y.forward (here l is) (sym from ∙ from'') in
    let rest'' : IsLinkWalk ls (step_to l x.forward) q c =
    subst (λ (f : Bool). IsLinkWalk ls (step_to l f) q c) (sym fwd) (subst (λ (t : Link). IsLinkWalk ls (step_to t y.forward) q c) link rest') in
    let tail : p ≡ q = same_walk ls p q (step_to l x.forward) b c none rest rest'' more in
    let head : x ≡ y = same_step x y ch fwd in
    cc

-- ways that precede each other are the same
pub same_ways : (ls : List Link) (a b : ℕ) (p q : List WalkStep) → IsWay ls a p → IsWay ls b q → Precedes p q → Precedes q p → p ≡ q
same_ways ls a b p q h k le ge = same_walk ls p q 0 a b (no_loops ls a p h) h.0 k.0 (same_channels p q le ge)

pub one_way : (ls : List Link) (b : ℕ) (p q : List WalkStep) → IsWay ls b p → IsWay ls b q → p ≡ q
one_way ls b p q h k = same_ways ls b b p q h k (h.1 q k.0) (k.1 p h.0)
