-- Weights of edges by the nodes that they join.
use Rattle.std.proofs.Common.{◌≡◌, ℕ, ◌+◌, ◌<◌, Bool, true, false, ◌&&◌, Some, List, [], ◌∷◌, drop, length, suc, Ordering, refl, sym, ap, subst, ◌∙◌, arith}
use Rattle.std.specs.Prelude.{cond, ◌==◌, slice_index_or}
use Rattle.std.specs.BTreeMap.{BTreeMap, get, is_at}
use Rattle.std.specs.List.{find}
use Rattle.std.specs.Option.{option_map}
use Rattle.std.specs.declared.cmp.Ordering.TheVariants.{Less, Equal, Greater}
use Rattle.std.specs.Ordering.{nat_cmp, is_eq, ordering_then}
use Rattle.std.proofs.lemmas.Bool.Decides.{nat_tests}
use Rattle.std.proofs.Math.Seq.{drop-cons, drop-length}
use Rattle.automaton.specs.declared.graph.Edge.{Edge}
use Rattle.cert_checker.specs.ListedNodes.{weight_between}
use Rattle.cert_checker.specs.inside.Spaces.{pair_cmp}

-- what the order of two numbers says of their being equal
number-tied : (m n : ℕ) → is_eq (nat_cmp m n) ≡ (m == n)
number-tied m n = grind (arith, nat_tests)

pair-tied : (m n u v : ℕ) → is_at (pair_cmp (m, n)) (u, v) ≡ ((m == u) && (n == v))
pair-tied m n u v = both (nat_cmp m u) (nat_cmp n v) (m == u) (n == v) (number-tied m u) (number-tied n v)
  where
    both : (o p : Ordering) (a b : Bool) → is_eq o ≡ a → is_eq p ≡ b → is_eq (ordering_then o p) ≡ (a && b)
    both Less p a b e f = ap (λ (x : Bool). x && b) e
    both Equal p a b e f = f ∙ ap (λ (x : Bool). x && b) e
    both Greater p a b e f = ap (λ (x : Bool). x && b) e

-- where none is kept
pub weights-none : (between : BTreeMap (ℕ × ℕ) ℕ) → between.entries ≡ [] → (u v : ℕ) → get pair_cmp between (u, v) ≡ weight_between [] u v
weights-none between empty u v = rw empty refl

-- an edge before the others
pub weights-more : (e : Edge) (es : List Edge) (old new : BTreeMap (ℕ × ℕ) ℕ) → ((q : ℕ × ℕ) → get pair_cmp new q ≡ cond (is_at (pair_cmp (e.from, e.to)) q) (Some e.weight) (get pair_cmp old q))
    → ((u v : ℕ) → get pair_cmp old (u, v) ≡ weight_between es u v) → (u v : ℕ) → get pair_cmp new (u, v) ≡ weight_between (e ∷ es) u v
weights-more e es old new updates before u v = updates (u, v) ∙ split ((e.from == u) && (e.to == v)) (pair-tied e.from e.to u v)
  where
    split : (b : Bool) → is_at (pair_cmp (e.from, e.to)) (u, v) ≡ b
        → cond (is_at (pair_cmp (e.from, e.to)) (u, v)) (Some e.weight) (get pair_cmp old (u, v)) ≡ option_map (λ (x : Edge). x.weight) (cond b (Some e) (find (λ (x : Edge). (x.from == u) && (x.to == v)) es))
    split true is = ap (λ (b : Bool). cond b (Some e.weight) (get pair_cmp old (u, v))) is
    split false is = ap (λ (b : Bool). cond b (Some e.weight) (get pair_cmp old (u, v))) is ∙ before u v

-- the same of the edges from one number on
pub weights-from : (es : List Edge) (n left a b : ℕ) (d : Edge) (old new : BTreeMap (ℕ × ℕ) ℕ) → n ≡ left + 1 → left < length es → a ≡ (slice_index_or es left d).from → b ≡ (slice_index_or es left d).to
    → ((q : ℕ × ℕ) → get pair_cmp new q ≡ cond (is_at (pair_cmp (a, b)) q) (Some (slice_index_or es left d).weight) (get pair_cmp old q))
    → ((u v : ℕ) → get pair_cmp old (u, v) ≡ weight_between (drop n es) u v) → (u v : ℕ) → get pair_cmp new (u, v) ≡ weight_between (drop left es) u v
weights-from es n left a b d old new next below from to updates before u v =
    let e : Edge = slice_index_or es left d in
    let more : drop left es ≡ e ∷ drop n es = drop-cons es left d below ∙ (let k : suc left ≡ n = omega arith in ap (λ (m : ℕ). e ∷ drop m es) k) in
    let P : ℕ → ℕ → Type 0 = λ x y. (q : ℕ × ℕ) → get pair_cmp new q ≡ cond (is_at (pair_cmp (x, y)) q) (Some e.weight) (get pair_cmp old q) in
    let put : P e.from e.to = subst (λ (x : ℕ). P x e.to) from (subst (λ (y : ℕ). P a y) to updates) in
    subst (λ (rest : List Edge). get pair_cmp new (u, v) ≡ weight_between rest u v) (sym more) (weights-more e (drop n es) old new put before u v)

-- past the last edge
pub weights-end : (es : List Edge) (between : BTreeMap (ℕ × ℕ) ℕ) → between.entries ≡ [] → (u v : ℕ) → get pair_cmp between (u, v) ≡ weight_between (drop (length es) es) u v
weights-end es between empty u v = rw drop-length (weights-none between empty u v)
