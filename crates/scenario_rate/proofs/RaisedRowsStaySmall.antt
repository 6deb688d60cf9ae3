-- A row is raised over one edge after another, and its scores grow by a bounded amount a level.
use Rattle.std.proofs.Common.{◌≡◌, ◌≢◌, ℕ, ◌+◌, ◌*◌, ◌≤◌, ◌<◌, List, length, Option, Some, None, refl, sym, ap, subst, ◌∙◌, inl, inr, arith}
use Rattle.std.proofs.Math.Nat.{mul-le-mul}
use Rattle.std.specs.Prelude.{slice_get, slice_set}
use Rattle.std.proofs.lemmas.Bool.{cases_lt, cases_eq}
use Rattle.std.proofs.lemmas.List.{get_or-set_same, get_or-set_other}
use Rattle.std.proofs.lemmas.Option.{slice_get_within}
use Rattle.sd_base.proofs.ByteTestsDecide.{some-none}
use Rattle.automaton.specs.declared.graph.Edge.{Edge}
use Rattle.scenario_rate.specs.declared.levels.Cell.{Cell}
use Rattle.automaton.specs.SoundGraphs.{AreInside}
use Rattle.scenario_rate.specs.inside.Levels.{cell_at, edge_in, IsBelow, IsAtLeast, IsBrought, IsRaised, AreHonoured, AreSmall}

same-edge : (es : List Edge) (k n : ℕ) (e f : Edge) → k ≡ n → slice_get es k ≡ Some f → slice_get es n ≡ Some e → e ≡ f
same-edge es k n e f h a b = let c : ◌≡◌ {A = Option Edge} (Some e) (Some f) = sym b ∙ ap (λ (m : ℕ). slice_get es m) (sym h) ∙ a in (cc)

-- one more edge
module _ (es : List Edge) (n l w : ℕ) (d : ℕ → Option Cell) (xs ys : List (Option Cell)) (e : Edge)
    (raised : IsRaised es n l w d (cell_at xs)) (at_n : slice_get es n ≡ Some e) (inside : e.to < length xs) where
  -- nothing changes
  as_it_is : ys ≡ xs → ((c : Cell) → d e.from ≡ Some c → (c' : Cell) × (cell_at xs e.to ≡ Some c') × (c.score + e.weight * l ≤ c'.score)) → IsRaised es (n + 1) l w d (cell_at ys)
  as_it_is same here = subst (λ (zs : List (Option Cell)). IsRaised es (n + 1) l w d (cell_at zs)) (sym same) (record {
    kept = raised.kept;
    over = λ k f c below is at. elim (cases_lt k n) [
      | inl less ↦ raised.over k f c less is at
      | inr more ↦ (let eq : e ≡ f = same-edge es k n e f (omega arith) is at_n in
          subst (λ (g : Edge). (c' : Cell) × (cell_at xs g.to ≡ Some c') × (c.score + g.weight * l ≤ c'.score)) eq (here c (ap (λ (g : Edge). d g.from) eq ∙ at)))
    ];
    stayed = raised.stayed;
    came = raised.came;
    more = raised.more;
  })

  module _ (c : Cell) (from : d e.from ≡ Some c) (below : IsBelow (cell_at xs e.to) (c.score + e.weight * l))
      (set : ys ≡ slice_set xs e.to (Some (record { score = c.score + e.weight * l; edge = Some n }))) where
    at_end : (v : ℕ) → v ≡ e.to → cell_at ys v ≡ Some (record { score = c.score + e.weight * l; edge = Some n })
    at_end v h = ap (λ (m : ℕ). cell_at ys m) h ∙ ap (λ (zs : List (Option Cell)). cell_at zs e.to) set ∙ get_or-set_same xs e.to (Some (record { score = c.score + e.weight * l; edge = Some n })) None inside

    elsewhere : (v : ℕ) → v ≢ e.to → cell_at ys v ≡ cell_at xs v
    elsewhere v h = ap (λ (zs : List (Option Cell)). cell_at zs v) set ∙ get_or-set_other xs e.to v (Some (record { score = c.score + e.weight * l; edge = Some n })) None h

    is_new : (v : ℕ) (c' : Cell) → v ≡ e.to → cell_at ys v ≡ Some c' → (c'.score ≡ c.score + e.weight * l) × (c'.edge ≡ Some n)
    is_new v c' h at = let s : ◌≡◌ {A = Option Cell} (Some (record { score = c.score + e.weight * l; edge = Some n })) (Some c') = sym (at_end v h) ∙ at in
        let q : record { score = c.score + e.weight * l; edge = Some n } ≡ c' = (cc) in (ap (λ (x : Cell). x.score) (sym q), ap (λ (x : Cell). x.edge) (sym q))

    was_below : (v s : ℕ) (c0 : Cell) → v ≡ e.to → cell_at xs v ≡ Some c0 → c0.score < c.score + e.weight * l
    was_below v s c0 h at = subst (λ (o : Option Cell). IsBelow o (c.score + e.weight * l)) (ap (λ (m : ℕ). cell_at xs m) (sym h) ∙ at) below

    higher : (v a : ℕ) (c0 : Cell) → cell_at xs v ≡ Some c0 → a ≤ c0.score → (c' : Cell) × (cell_at ys v ≡ Some c') × (a ≤ c'.score)
    higher v a c0 at low = elim (cases_eq v e.to) [
      | inl h ↦ (let b : c0.score < c.score + e.weight * l = was_below v 0 c0 h at in (record { score = c.score + e.weight * l; edge = Some n }, at_end v h, (let g : a ≤ c.score + e.weight * l = omega arith in g)))
      | inr h ↦ (c0, elsewhere v h ∙ at, low)
    ]

    brought : IsRaised es (n + 1) l w d (cell_at ys)
    brought = record {
      kept = λ v c0 at. (let k = raised.kept v c0 at in higher v (c0.score + w) k.0 k.1 k.2);
      over = λ k f c0 less is at. elim (cases_lt k n) [
        | inl before ↦ (let o = raised.over k f c0 before is at in higher f.to (c0.score + f.weight * l) o.0 o.1 o.2)
        | inr last ↦ (let eq : e ≡ f = same-edge es k n e f (omega arith) is at_n in
            let same : c ≡ c0 = (let s : ◌≡◌ {A = Option Cell} (Some c) (Some c0) = sym from ∙ ap (λ (g : Edge). d g.from) eq ∙ at in (cc)) in (
              record { score = c.score + e.weight * l; edge = Some n },
              at_end f.to (ap (λ (g : Edge). g.to) (sym eq)),
              subst (λ (g : Edge). c0.score + g.weight * l ≤ c.score + e.weight * l) eq
                  (subst (λ (x : Cell). x.score + e.weight * l ≤ c.score + e.weight * l) same (let g : c.score + e.weight * l ≤ c.score + e.weight * l = omega arith in g)),
            ))
      ];
      stayed = λ v c' at none. elim (cases_eq v e.to) [
        | inl h ↦ absurd (some-none c'.edge n (is_new v c' h at).1 none)
        | inr h ↦ raised.stayed v c' (sym (elsewhere v h) ∙ at) none
      ];
      came = λ v c' k at edge. elim (cases_eq v e.to) [
        | inl h ↦ (let i = is_new v c' h at in
            let q : k ≡ n = (let s : ◌≡◌ {A = Option ℕ} (Some k) (Some n) = sym edge ∙ i.1 in (cc)) in
            (e, c, ap (λ (m : ℕ). slice_get es m) q ∙ at_n, sym h, from, i.0))
        | inr h ↦ raised.came v c' k (sym (elsewhere v h) ∙ at) edge
      ];
      more = λ v c' c0 k at edge had. elim (cases_eq v e.to) [
        | inl h ↦ (let i = is_new v c' h at in let o = raised.kept v c0 had in
            let b : o.0.score < c.score + e.weight * l = was_below v 0 o.0 h o.1 in
            let low : c0.score + w ≤ o.0.score = o.2 in
            let up : c'.score ≡ c.score + e.weight * l = i.0 in (let g : c0.score + w < c'.score = omega arith in g))
        | inr h ↦ raised.more v c' c0 k (sym (elsewhere v h) ∙ at) edge had
      ];
    }

  at-least : (o : Option Cell) (s : ℕ) → IsAtLeast o s → (c' : Cell) × (o ≡ Some c') × (s ≤ c'.score)
  at-least None s h = absurd h
  at-least (Some c) s h = (c, refl, h)

  pub raised-more : IsBrought l n e (d e.from) xs ys → IsRaised es (n + 1) l w d (cell_at ys)
  raised-more h = go (d e.from) refl h
    where
      go : (o : Option Cell) → d e.from ≡ o → IsBrought l n e o xs ys → IsRaised es (n + 1) l w d (cell_at ys)
      go None is h = as_it_is h (λ c at. absurd (let no : ◌≡◌ {A = Option Cell} None (Some c) = sym is ∙ at in (cc)))
      go (Some c) is (inl (below, set)) = brought c is below set
      go (Some c) is (inr (least, same)) = as_it_is same (λ c0 at.
          (let q : c ≡ c0 = (let s : ◌≡◌ {A = Option Cell} (Some c) (Some c0) = sym is ∙ at in (cc)) in
          subst (λ (x : Cell). (c' : Cell) × (cell_at xs e.to ≡ Some c') × (x.score + e.weight * l ≤ c'.score)) q (at-least (cell_at xs e.to) (c.score + e.weight * l) least)))

-- a level honours each edge, so what one brings from a cell that it didn't raise is there
pub raised-honoured : (es : List Edge) (l w : ℕ) (d d' : ℕ → Option Cell) → IsRaised es (length es) l w d d' → AreHonoured es l w d'
raised-honoured es l w d d' raised k e c at is none =
    let s = raised.stayed e.from c is none in
    let o = raised.over k e s.0 (slice_get_within es k e at) at s.1 in
    let a : c.score ≡ s.0.score + w = s.2 in
    let b : s.0.score + e.weight * l ≤ o.0.score = o.2 in
    (o.0, o.1, (let g : c.score + e.weight * l ≤ o.0.score + w = omega arith in g))

-- an edge that brings nothing is honoured by a row as it is
pub raised-as_is : (es : List Edge) (n l w : ℕ) (d : ℕ → Option Cell) (xs : List (Option Cell)) (e : Edge) → IsRaised es n l w d (cell_at xs) → slice_get es n ≡ Some e → e.to < length xs
    → AreHonoured es l w d → edge_in (d e.from) ≡ None → IsRaised es (n + 1) l w d (cell_at xs)
raised-as_is es n l w d xs e raised at_n inside honoured none = as_it_is es n l w d xs xs e raised at_n inside refl (λ c at.
    (let t = honoured n e c at_n at (sym (ap edge_in at) ∙ none) in
    let k = raised.kept e.to t.0 t.1 in
    let a : c.score + e.weight * l ≤ t.0.score + w = t.2 in
    let b : t.0.score + w ≤ k.0.score = k.2 in
    (k.0, k.1, (let g : c.score + e.weight * l ≤ k.0.score = omega arith in g))))

-- scores grow by at most 1024 * 10^14 a level
pub raised-small : (es : List Edge) (size l w b : ℕ) (d d' : ℕ → Option Cell) → AreInside es size → l ≤ 1024 → w ≤ 102400000000000000
    → IsRaised es (length es) l w d d' → AreSmall b d → AreSmall (b + 102400000000000000) d'
raised-small es size l w b d d' inside low time raised small v c' at = go c'.edge refl
  where
    go : (o : Option ℕ) → c'.edge ≡ o → c'.score ≤ b + 102400000000000000
    go None none = let s = raised.stayed v c' at none in
        let a : s.0.score ≤ b = small v s.0 s.1 in let e : c'.score ≡ s.0.score + w = s.2 in omega arith
    go (Some k) some = let s = raised.came v c' k at some in
        let light : s.0.weight ≤ 100000000000000 = inside.light k s.0 s.2 in
        let a : s.1.score ≤ b = small s.0.from s.1 s.4 in
        let e : c'.score ≡ s.1.score + s.0.weight * l = s.5 in
        let m : s.0.weight * l ≤ 100000000000000 * 1024 = mul-le-mul light low in omega arith
