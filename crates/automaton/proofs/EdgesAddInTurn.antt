-- Edges that are added one after another are all edges.
use Rattle.std.proofs.Common.{◌≡◌, ℕ, zero, suc, ◌+◌, ◌*◌, ◌<◌, List, [], ◌∷◌, ◌++◌, length, take, Option, Some, None, refl, sym, ap, subst, ◌∙◌, arith, append_assoc}
use Rattle.std.specs.Prelude.{slice_get, slice_index_or}
use Rattle.std.proofs.lemmas.Option.{slice_get-get_or}
use Rattle.std.proofs.Math.Numerals.{suc-eq-add-one}
use Rattle.sd_base.specs.declared.tables.StateRow.{StateRow}
use Rattle.automaton.specs.declared.graph.Edge.{Edge}
use Rattle.automaton.specs.TimedGraphs.{edges_into, edges_between, edges_out, edges_from}
use Rattle.automaton.specs.inside.Adding.{one_edge}

-- one more part of what a walk through a list makes
joined : (a b c d e : List Edge) → b ≡ a ++ c → e ≡ b ++ d → e ≡ a ++ (c ++ d)
joined a b c d e h g = g ∙ ap (λ (z : List Edge). z ++ d) h ∙ append_assoc a c d

pub into-take : (from to : ℕ) (row : List (Option ℕ)) (i : ℕ) (x : Option ℕ) → slice_get row i ≡ Some x
    → edges_into from to (take (suc i) row) ≡ edges_into from to (take i row) ++ one_edge (from + i) to x
into-take from to [] i x h = absurd (cc)
into-take from to (None ∷ row) zero x h = let e : None ≡ x = (cc) in ap (one_edge (from + 0) to) e
into-take from to (Some w ∷ row) zero x h = let e : Some w ≡ x = (cc) in
    ap (λ n. record { from = n; to = to; weight = w } ∷ []) (let z : from ≡ from + 0 = omega arith in z) ∙ ap (one_edge (from + 0) to) e
into-take from to (None ∷ row) (suc i) x h = into-take (from + 1) to row i x h
    ∙ ap (λ n. edges_into (from + 1) to (take i row) ++ one_edge n to x) (let z : from + 1 + i ≡ from + suc i = omega arith in z)
into-take from to (Some w ∷ row) (suc i) x h = ap (λ (z : List Edge). record { from = from; to = to; weight = w } ∷ z) (into-take (from + 1) to row i x h
    ∙ ap (λ n. edges_into (from + 1) to (take i row) ++ one_edge n to x) (let z : from + 1 + i ≡ from + suc i = omega arith in z))

pub between-take : (from to : ℕ) (rows : List (List (Option ℕ))) (i : ℕ) (row : List (Option ℕ)) → slice_get rows i ≡ Some row
    → edges_between from to (take (suc i) rows) ≡ edges_between from to (take i rows) ++ edges_into from (to + i) row
between-take from to [] i row h = absurd (cc)
between-take from to (x ∷ rows) zero row h = let e : x ≡ row = (cc) in
    nothing (edges_into from to x) ∙ ap (λ n. edges_into from n x) (let z : to ≡ to + 0 = omega arith in z) ∙ ap (edges_into from (to + 0)) e
  where
    nothing : (l : List Edge) → l ++ [] ≡ l
    nothing [] = refl
    nothing (y ∷ l) = ap (λ (z : List Edge). y ∷ z) (nothing l)
between-take from to (x ∷ rows) (suc i) row h =
    ap (λ (z : List Edge). edges_into from to x ++ z) (between-take from (to + 1) rows i row h
    ∙ ap (λ n. edges_between from (to + 1) (take i rows) ++ edges_into from n row) (let z : to + 1 + i ≡ to + suc i = omega arith in z))
    ∙ sym (append_assoc (edges_into from to x) (edges_between from (to + 1) (take i rows)) (edges_into from (to + suc i) row))

nothing : (l : List Edge) → l ++ [] ≡ l
nothing [] = refl
nothing (y ∷ l) = ap (λ (z : List Edge). y ∷ z) (nothing l)

pub out-take : (n from : ℕ) (rows : List (List (Option ℕ))) (next : List ℕ) (i r : ℕ) → slice_get next i ≡ Some r
    → edges_out n from rows (take (suc i) next) ≡ edges_out n from rows (take i next) ++ edges_between from (r * n) rows
out-take n from rows [] i r h = absurd (cc)
out-take n from rows (x ∷ next) zero r h = let e : x ≡ r = (cc) in nothing (edges_between from (x * n) rows) ∙ ap (λ m. edges_between from (m * n) rows) e
out-take n from rows (x ∷ next) (suc i) r h =
    ap (λ (z : List Edge). edges_between from (x * n) rows ++ z) (out-take n from rows next i r h)
    ∙ sym (append_assoc (edges_between from (x * n) rows) (edges_out n from rows (take i next)) (edges_between from (r * n) rows))

pub from-take : (n q : ℕ) (matrices : List (List (List (Option ℕ)))) (states : List StateRow) (i : ℕ) (s : StateRow) → slice_get states i ≡ Some s
    → edges_from n q matrices (take (suc i) states) ≡ edges_from n q matrices (take i states) ++ edges_out n ((q + i) * n) (slice_index_or matrices s.scenario []) s.next
from-take n q matrices [] i s h = absurd (cc)
from-take n q matrices (x ∷ states) zero s h = let e : x ≡ s = (cc) in
    nothing (edges_out n (q * n) (slice_index_or matrices x.scenario []) x.next)
    ∙ ap (λ m. edges_out n (m * n) (slice_index_or matrices x.scenario []) x.next) (let z : q ≡ q + 0 = omega arith in z)
    ∙ ap (λ (y : StateRow). edges_out n ((q + 0) * n) (slice_index_or matrices y.scenario []) y.next) e
from-take n q matrices (x ∷ states) (suc i) s h =
    ap (λ (z : List Edge). edges_out n (q * n) (slice_index_or matrices x.scenario []) x.next ++ z) (from-take n (q + 1) matrices states i s h
    ∙ ap (λ m. edges_from n (q + 1) matrices (take i states) ++ edges_out n (m * n) (slice_index_or matrices s.scenario []) s.next) (let z : q + 1 + i ≡ q + suc i = omega arith in z))
    ∙ sym (append_assoc (edges_out n (q * n) (slice_index_or matrices x.scenario []) x.next) (edges_from n (q + 1) matrices (take i states))
    (edges_out n ((q + suc i) * n) (slice_index_or matrices s.scenario []) s.next))

-- the same with the next place written as code has it

pub added-entry : (a b e : List Edge) (from to : ℕ) (row : List (Option ℕ)) (i : ℕ) → i < length row → b ≡ a ++ edges_into from to (take i row)
    → e ≡ b ++ one_edge (from + i) to (slice_index_or row i None) → e ≡ a ++ edges_into from to (take (i + 1) row)
added-entry a b e from to row i h is more = subst (λ n. e ≡ a ++ edges_into from to (take n row)) (suc-eq-add-one i)
    (joined a b (edges_into from to (take i row)) (one_edge (from + i) to (slice_index_or row i None)) e is more
    ∙ ap (λ (z : List Edge). a ++ z) (sym (into-take from to row i (slice_index_or row i None) (slice_get-get_or row i None h))))

pub added-row : (a b e : List Edge) (from to : ℕ) (rows : List (List (Option ℕ))) (i : ℕ) (row : List (Option ℕ)) → slice_get rows i ≡ Some row → b ≡ a ++ edges_between from to (take i rows)
    → e ≡ b ++ edges_into from (to + i) row → e ≡ a ++ edges_between from to (take (i + 1) rows)
added-row a b e from to rows i row h is more = subst (λ n. e ≡ a ++ edges_between from to (take n rows)) (suc-eq-add-one i)
    (joined a b (edges_between from to (take i rows)) (edges_into from (to + i) row) e is more ∙ ap (λ (z : List Edge). a ++ z) (sym (between-take from to rows i row h)))

pub added-successor : (a b e : List Edge) (n from : ℕ) (rows : List (List (Option ℕ))) (next_states : List ℕ) (i to : ℕ) → i < length next_states → to ≡ slice_index_or next_states i 0 * n
    → b ≡ a ++ edges_out n from rows (take i next_states) → e ≡ b ++ edges_between from to rows → e ≡ a ++ edges_out n from rows (take (i + 1) next_states)
added-successor a b e n from rows next_states i to h to_is is more = subst (λ m. e ≡ a ++ edges_out n from rows (take m next_states)) (suc-eq-add-one i)
    (joined a b (edges_out n from rows (take i next_states)) (edges_between from (slice_index_or next_states i 0 * n) rows) e is (more ∙ ap (λ m. b ++ edges_between from m rows) to_is)
    ∙ ap (λ (z : List Edge). a ++ z) (sym (out-take n from rows next_states i (slice_index_or next_states i 0) (slice_get-get_or next_states i 0 h))))

pub added-state : (a b e : List Edge) (n : ℕ) (matrices : List (List (List (Option ℕ)))) (states : List StateRow) (i : ℕ) (s : StateRow) → slice_get states i ≡ Some s
    → b ≡ a ++ edges_from n 0 matrices (take i states) → e ≡ b ++ edges_out n (i * n) (slice_index_or matrices s.scenario []) s.next → e ≡ a ++ edges_from n 0 matrices (take (i + 1) states)
added-state a b e n matrices states i s h is more = subst (λ m. e ≡ a ++ edges_from n 0 matrices (take m states)) (suc-eq-add-one i)
    (joined a b (edges_from n 0 matrices (take i states)) (edges_out n ((0 + i) * n) (slice_index_or matrices s.scenario []) s.next) e is
    (more ∙ ap (λ m. b ++ edges_out n (m * n) (slice_index_or matrices s.scenario []) s.next) (let z : i ≡ 0 + i = omega arith in z))
    ∙ ap (λ (z : List Edge). a ++ z) (sym (from-take n 0 matrices states i s h)))
