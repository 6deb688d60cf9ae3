-- The place where bytes leave the grammar.
use Rattle.std.proofs.Common.{◌≡◌, ℕ, ◌+◌, ◌<◌, ◌≤◌, inl, inr, refl, sym, ◌∙◌, ap, subst, Bool, true, false, List, [], ◌∷◌, ◌++◌, append_assoc, length, take, drop, slice_index, Option, Some, None, arith}
use Rattle.std.proofs.lemmas.Bool.{cases_order}
use Rattle.std.proofs.lemmas.List.{take-append-drop, take-take, take_all, take_more}
use Rattle.file_text.specs.Node.{Node}
use Rattle.file_text.specs.Grammar.{Spells, IsLooseText}
use Rattle.file_text.specs.Fault.{IsPrefix, LeavesAt}
use Rattle.file_text.specs.inside.Machine.{State, move, run, start, tree_at}
use Rattle.file_text.proofs.OverTexts.{all_allowed}
use Rattle.file_text.proofs.MachineReadsExactly.{finished, completes, run-append, alive, dead, loose}

-- what begins a beginning is one
pub prefix_left : (t u : List ℕ) → IsPrefix (t ++ u) → IsPrefix t
prefix_left t u (rest, e, (xs, is)) = (u ++ rest, e, (xs, subst (λ (s : List ℕ). Spells xs e s) (append_assoc t u rest) is))

take_in_take : (m n : ℕ) (bytes : List ℕ) → m ≤ n → take m bytes ++ drop m (take n bytes) ≡ take n bytes
take_in_take m n bytes le = ap (λ t. t ++ drop m (take n bytes)) (sym (take-take m n bytes le)) ∙ take-append-drop m (take n bytes)

pub prefix_take : (m n : ℕ) (bytes : List ℕ) → m ≤ n → IsPrefix (take n bytes) → IsPrefix (take m bytes)
prefix_take m n bytes le is = prefix_left (take m bytes) (drop m (take n bytes)) (subst IsPrefix (sym (take_in_take m n bytes le)) is)

not_before : (bytes : List ℕ) (m n : ℕ) → LeavesAt bytes m → LeavesAt bytes n → m < n → ⊥
not_before bytes m n p q lt = p.stops (let within = q.within in omega arith) (prefix_take (m + 1) n bytes (omega arith) q.viable)

-- there is one
pub one_place : (bytes : List ℕ) (m n : ℕ) → LeavesAt bytes m → LeavesAt bytes n → m ≡ n
one_place bytes m n p q = elim (cases_order m n) [
  | inl same ↦ same
  | inr (inl lt) ↦ absurd (not_before bytes m n p q lt)
  | inr (inr gt) ↦ absurd (not_before bytes n m q p gt)
]

-- the bytes of a text leave it nowhere
pub spelled_stays : (bytes : List ℕ) (e : Node) (n : ℕ) → IsLooseText e bytes → LeavesAt bytes n → ⊥
spelled_stays bytes e n (xs, is) p = elim (cases_order n (length bytes)) [
  | inl same ↦ p.ends same e (xs, is)
  | inr (inl lt) ↦ p.stops lt (drop (n + 1) bytes, e, (xs, subst (λ (s : List ℕ). Spells xs e s) (sym (take-append-drop (n + 1) bytes)) is))
  | inr (inr gt) ↦ absurd (let within = p.within in omega arith)
]

pub run_one : (strict : Bool) (o : Option State) → run strict o [] ≡ o
run_one strict None = refl
run_one strict (Some s) = refl

not_finished : (s : State) (e : Node) → tree_at s ≡ None → Some s ≡ Some (finished e) → ⊥
not_finished s e none same =
    let is : s ≡ finished e = cc in
    let some : tree_at s ≡ Some e = ap tree_at is in
    cc

-- one more byte of a run
pub run_more : (strict : Bool) (bytes : List ℕ) (n : ℕ) (s : State) → n < length bytes → run strict (Some start) (take n bytes) ≡ Some s
    → run strict (Some start) (take (n + 1) bytes) ≡ move strict s (slice_index bytes n)
run_more strict bytes n s lt is =
    ap (λ t. run strict (Some start) t) (take_more bytes n 0 lt)
    ∙ run-append strict (Some start) (take n bytes) (slice_index bytes n ∷ [])
    ∙ ap (λ o. run strict o (slice_index bytes n ∷ [])) is
    ∙ run_one strict (move strict s (slice_index bytes n))

-- where the machine stops, the bytes leave the grammar
pub leaves_at : (bytes : List ℕ) (n : ℕ) (s : State) → n ≤ length bytes → run true (Some start) (take n bytes) ≡ Some s
    → (n < length bytes → move false s (slice_index bytes n) ≡ None) → (n ≡ length bytes → tree_at s ≡ None) → LeavesAt bytes n
leaves_at bytes n s within is stops ends = record {
  within = within;
  viable = alive (take n bytes) s (loose (take n bytes) s is);
  stops = λ lt p. dead (take (n + 1) bytes) (run_more false bytes n s lt (loose (take n bytes) s is) ∙ stops lt) p;
  ends = λ whole e is_text.
      let all : take n bytes ≡ bytes = take_all n bytes (omega arith) in
      let read = completes false is_text.0 e bytes is_text.1 (all_allowed is_text.0) in
      let here : run false (Some start) bytes ≡ Some s = rw all at (loose (take n bytes) s is) in
      not_finished s e (ends whole) (sym here ∙ read);
}
