-- The edges of a timed graph are those that come from entries of matrices.
use Rattle.std.proofs.Common.{◌≡◌, ℕ, zero, suc, ◌+◌, ◌*◌, ◌<◌, ◌⊎◌, List, [], ◌∷◌, ◌++◌, length, Option, Some, None, refl, sym, ap, subst, inl, inr, arith}
use Rattle.std.specs.Prelude.{slice_get, slice_index_or}
use Rattle.sd_base.specs.declared.tables.StateRow.{StateRow}
use Rattle.automaton.specs.declared.graph.Edge.{Edge}
use Rattle.token_matrix.specs.Matrices.{entry_at}
use Rattle.automaton.specs.TimedGraphs.{edges_into, edges_between, edges_out, edges_from}

-- some edge has these ends and this weight
abbrev pub Has : List Edge → ℕ → ℕ → ℕ → Type 0
Has [] f t w = ⊥
Has (e ∷ es) f t w = ((e.from ≡ f) × (e.to ≡ t) × (e.weight ≡ w)) ⊎ Has es f t w

pub has-left : (es fs : List Edge) (f t w : ℕ) → Has es f t w → Has (es ++ fs) f t w
has-left [] fs f t w h = absurd h
has-left (e ∷ es) fs f t w (inl h) = inl h
has-left (e ∷ es) fs f t w (inr h) = inr (has-left es fs f t w h)

pub has-right : (es fs : List Edge) (f t w : ℕ) → Has fs f t w → Has (es ++ fs) f t w
has-right [] fs f t w h = h
has-right (e ∷ es) fs f t w h = inr (has-right es fs f t w h)

pub has-cases : (es fs : List Edge) (f t w : ℕ) → Has (es ++ fs) f t w → Has es f t w ⊎ Has fs f t w
has-cases [] fs f t w h = inr h
has-cases (e ∷ es) fs f t w (inl h) = inl (inl h)
has-cases (e ∷ es) fs f t w (inr h) = elim (has-cases es fs f t w h) [ inl a ↦ inl (inr a) | inr b ↦ inr b ]

pub has-get : (es : List Edge) (f t w : ℕ) → Has es f t w → (k : ℕ) × (e : Edge) × (slice_get es k ≡ Some e) × (e.from ≡ f) × (e.to ≡ t) × (e.weight ≡ w)
has-get [] f t w h = absurd h
has-get (e ∷ es) f t w (inl (a, b, c)) = (0, e, refl, a, b, c)
has-get (e ∷ es) f t w (inr h) = let g = has-get es f t w h in (suc g.0, g.1, g.2, g.3, g.4, g.5)

pub get-has : (es : List Edge) (k : ℕ) (e : Edge) → slice_get es k ≡ Some e → Has es e.from e.to e.weight
get-has [] k e h = absurd (cc)
get-has (x ∷ es) zero e h = let same : x ≡ e = (cc) in inl (ap (λ (y : Edge). y.from) same, ap (λ (y : Edge). y.to) same, ap (λ (y : Edge). y.weight) same)
get-has (x ∷ es) (suc k) e h = inr (get-has es k e h)

moved : (es : List Edge) (f f' t w : ℕ) → f ≡ f' → Has es f t w → Has es f' t w
moved es f f' t w e h = subst (λ n. Has es n t w) e h

turned : (es : List Edge) (f t t' w : ℕ) → t ≡ t' → Has es f t w → Has es f t' w
turned es f t t' w e h = subst (λ n. Has es f n w) e h

pub into-there : (from to : ℕ) (row : List (Option ℕ)) (i w : ℕ) → slice_index_or row i None ≡ Some w → Has (edges_into from to row) (from + i) to w
into-there from to [] i w h = absurd (cc)
into-there from to (None ∷ row) zero w h = absurd (cc)
into-there from to (None ∷ row) (suc i) w h = moved _ _ _ to w (let e : from + 1 + i ≡ from + suc i = omega arith in e) (into-there (from + 1) to row i w h)
into-there from to (Some x ∷ row) zero w h = inl (let e : from ≡ from + 0 = omega arith in e, refl, (cc))
into-there from to (Some x ∷ row) (suc i) w h = inr (moved _ _ _ to w (let e : from + 1 + i ≡ from + suc i = omega arith in e) (into-there (from + 1) to row i w h))

-- where an edge into a node comes from
pub record FromRow (from to : ℕ) (row : List (Option ℕ)) (f t w : ℕ) : Type 0 where
  pub i : ℕ
  pub within : i < length row
  pub start : f ≡ from + i
  pub end : t ≡ to
  pub entry : slice_index_or row i None ≡ Some w

row-more : (from to : ℕ) (x : Option ℕ) (row : List (Option ℕ)) (f t w : ℕ) → FromRow (from + 1) to row f t w → FromRow from to (x ∷ row) f t w
row-more from to x row f t w r = record {
  i = suc r.i;
  within = (let h : r.i < length row = r.within in let g : suc r.i < suc (length row) = omega arith in g);
  start = (let e : f ≡ from + 1 + r.i = r.start in let g : f ≡ from + suc r.i = omega arith in g);
  end = r.end;
  entry = r.entry;
}

pub into-from : (from to : ℕ) (row : List (Option ℕ)) (f t w : ℕ) → Has (edges_into from to row) f t w → FromRow from to row f t w
into-from from to [] f t w h = absurd h
into-from from to (None ∷ row) f t w h = row-more from to None row f t w (into-from (from + 1) to row f t w h)
into-from from to (Some x ∷ row) f t w (inl (a, b, c)) = record {
  i = 0;
  within = (let g : 0 < suc (length row) = omega arith in g);
  start = (let e : from ≡ f = a in let g : f ≡ from + 0 = omega arith in g);
  end = sym b;
  entry = ap (λ n. Some n) c;
}
into-from from to (Some x ∷ row) f t w (inr h) = row-more from to (Some x) row f t w (into-from (from + 1) to row f t w h)

pub between-there : (from to : ℕ) (rows : List (List (Option ℕ))) (j i w : ℕ) → entry_at rows j i ≡ Some w → Has (edges_between from to rows) (from + i) (to + j) w
between-there from to [] j i w h = absurd (cc)
between-there from to (row ∷ rows) zero i w h = has-left (edges_into from to row) (edges_between from (to + 1) rows) (from + i) (to + 0) w
    (turned _ _ _ _ w (let e : to ≡ to + 0 = omega arith in e) (into-there from to row i w h))
between-there from to (row ∷ rows) (suc j) i w h = has-right (edges_into from to row) (edges_between from (to + 1) rows) (from + i) (to + suc j) w
    (turned _ _ _ _ w (let e : to + 1 + j ≡ to + suc j = omega arith in e) (between-there from (to + 1) rows j i w h))

pub record FromRows (from to : ℕ) (rows : List (List (Option ℕ))) (f t w : ℕ) : Type 0 where
  pub i : ℕ
  pub j : ℕ
  pub row : j < length rows
  pub within : i < length (slice_index_or rows j [])
  pub start : f ≡ from + i
  pub end : t ≡ to + j
  pub entry : entry_at rows j i ≡ Some w

pub between-from : (from to : ℕ) (rows : List (List (Option ℕ))) (f t w : ℕ) → Has (edges_between from to rows) f t w → FromRows from to rows f t w
between-from from to [] f t w h = absurd h
between-from from to (row ∷ rows) f t w h = elim (has-cases (edges_into from to row) (edges_between from (to + 1) rows) f t w h) [
  | inl a ↦ let r = into-from from to row f t w a in
      record { i = r.i; j = 0; row = (let g : 0 < suc (length rows) = omega arith in g); within = r.within; start = r.start; end = (let e : t ≡ to = r.end in let g : t ≡ to + 0 = omega arith in g); entry = r.entry }
  | inr b ↦ let r = between-from from (to + 1) rows f t w b in
      record {
        i = r.i;
        j = suc r.j;
        row = (let g : r.j < length rows = r.row in let k : suc r.j < suc (length rows) = omega arith in k);
        within = r.within;
        start = r.start;
        end = (let e : t ≡ to + 1 + r.j = r.end in let g : t ≡ to + suc r.j = omega arith in g);
        entry = r.entry;
      }
]

pub out-there : (n from : ℕ) (rows : List (List (Option ℕ))) (next : List ℕ) (p r j i w : ℕ) → slice_get next p ≡ Some r → entry_at rows j i ≡ Some w
    → Has (edges_out n from rows next) (from + i) (r * n + j) w
out-there n from rows [] p r j i w at h = absurd (cc)
out-there n from rows (x ∷ next) zero r j i w at h =
    let same : x ≡ r = (cc) in
    has-left (edges_between from (x * n) rows) (edges_out n from rows next) (from + i) (r * n + j) w
    (subst (λ y. Has (edges_between from (x * n) rows) (from + i) (y * n + j) w) same (between-there from (x * n) rows j i w h))
out-there n from rows (x ∷ next) (suc p) r j i w at h =
    has-right (edges_between from (x * n) rows) (edges_out n from rows next) (from + i) (r * n + j) w (out-there n from rows next p r j i w at h)

pub record FromState (n from : ℕ) (rows : List (List (Option ℕ))) (next : List ℕ) (f t w : ℕ) : Type 0 where
  pub p : ℕ
  pub r : ℕ
  pub to : slice_get next p ≡ Some r
  pub rows_of : FromRows from (r * n) rows f t w

pub out-from : (n from : ℕ) (rows : List (List (Option ℕ))) (next : List ℕ) (f t w : ℕ) → Has (edges_out n from rows next) f t w → FromState n from rows next f t w
out-from n from rows [] f t w h = absurd h
out-from n from rows (x ∷ next) f t w h = elim (has-cases (edges_between from (x * n) rows) (edges_out n from rows next) f t w h) [
  | inl a ↦ record { p = 0; r = x; to = refl; rows_of = between-from from (x * n) rows f t w a }
  | inr b ↦ let s = out-from n from rows next f t w b in record { p = suc s.p; r = s.r; to = s.to; rows_of = s.rows_of }
]

pub from-there : (n q : ℕ) (matrices : List (List (List (Option ℕ)))) (states : List StateRow) (p : ℕ) (s : StateRow) (k r j i w : ℕ)
    → slice_get states p ≡ Some s → slice_get s.next k ≡ Some r → entry_at (slice_index_or matrices s.scenario []) j i ≡ Some w
    → Has (edges_from n q matrices states) ((q + p) * n + i) (r * n + j) w
from-there n q matrices [] p s k r j i w at to h = absurd (cc)
from-there n q matrices (x ∷ states) zero s k r j i w at to h =
    let same : x ≡ s = (cc) in
    has-left (edges_out n (q * n) (slice_index_or matrices x.scenario []) x.next) (edges_from n (q + 1) matrices states) ((q + 0) * n + i) (r * n + j) w
    (moved _ _ _ (r * n + j) w (let e : q * n + i ≡ (q + 0) * n + i = omega arith in e)
    (subst (λ (y : StateRow). Has (edges_out n (q * n) (slice_index_or matrices y.scenario []) y.next) (q * n + i) (r * n + j) w) (sym same)
    (out-there n (q * n) (slice_index_or matrices s.scenario []) s.next k r j i w to h)))
from-there n q matrices (x ∷ states) (suc p) s k r j i w at to h =
    has-right (edges_out n (q * n) (slice_index_or matrices x.scenario []) x.next) (edges_from n (q + 1) matrices states) ((q + suc p) * n + i) (r * n + j) w
    (moved _ _ _ (r * n + j) w (ap (λ m. m * n + i) (let e : q + 1 + p ≡ q + suc p = omega arith in e)) (from-there n (q + 1) matrices states p s k r j i w at to h))

pub record FromStates (n q : ℕ) (matrices : List (List (List (Option ℕ)))) (states : List StateRow) (f t w : ℕ) : Type 0 where
  pub place : ℕ
  pub state : StateRow
  pub at : slice_get states place ≡ Some state
  pub out : FromState n ((q + place) * n) (slice_index_or matrices state.scenario []) state.next f t w

pub from-from : (n q : ℕ) (matrices : List (List (List (Option ℕ)))) (states : List StateRow) (f t w : ℕ) → Has (edges_from n q matrices states) f t w → FromStates n q matrices states f t w
from-from n q matrices [] f t w h = absurd h
from-from n q matrices (x ∷ states) f t w h =
    elim (has-cases (edges_out n (q * n) (slice_index_or matrices x.scenario []) x.next) (edges_from n (q + 1) matrices states) f t w h) [
      | inl a ↦ record {
        place = 0;
        state = x;
        at = refl;
        out = subst (λ m. FromState n (m * n) (slice_index_or matrices x.scenario []) x.next f t w) (let e : q ≡ q + 0 = omega arith in e) (out-from n (q * n) (slice_index_or matrices x.scenario []) x.next f t w a);
      }
      | inr b ↦ let s = from-from n (q + 1) matrices states f t w b in
          record {
            place = suc s.place;
            state = s.state;
            at = s.at;
            out = subst (λ m. FromState n (m * n) (slice_index_or matrices s.state.scenario []) s.state.next f t w) (let e : q + 1 + s.place ≡ q + suc s.place = omega arith in e) s.out;
          }
    ]
