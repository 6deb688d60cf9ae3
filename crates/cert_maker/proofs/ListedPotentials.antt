-- The potentials of the nodes that are reached, listed in order, fit.
use Rattle.std.proofs.Common.{◌≡◌, ℕ, zero, suc, ◌+◌, ◌*◌, ◌/◌, ◌%◌, ◌<◌, Option, None, Some, List, [], ◌∷◌, length, refl, sym, ap, ap₂, subst, ◌∙◌, arith}
use Rattle.std.specs.Prelude.{ℤ, pos, slice_get, slice_index_or}
use Rattle.std.proofs.lemmas.Nat.{div-add-mod'}
use Rattle.std.proofs.lemmas.Option.{get_or_from_slice_get}
use Rattle.sd_base.specs.declared.tables.ScenarioFile.{ScenarioFile}
use Rattle.automaton.specs.declared.graph.TimedGraph.{TimedGraph}
use Rattle.automaton.specs.TimedGraphs.{IsTimedGraph}
use Rattle.automaton.specs.CriticalCycles.{Fit, IsReachedNode}
use Rattle.scenario_rate.specs.Answers.{potential_at}
use Rattle.cert_checker.specs.ListedNodes.{FitsAt, IsNode, ListsNodes, node_at}
use Rattle.cert_checker.proofs.PotentialListsDecide.{listed}
use Rattle.cert_maker.specs.WorstCertificates.{potentials_from}
use Rattle.cert_maker.proofs.PlacedNodes.{reached-placed}
use Rattle.cert_maker.proofs.ListedWalks.{is-node}

-- the entry at a place
abbrev entry : List (ℕ × ℕ × ℤ) → ℕ → ℕ × ℕ × ℤ
entry ps i = slice_index_or ps i (0, 0, pos 0)

abbrev number : ℕ → ℕ × ℕ × ℤ → ℕ
number tokens p = p.0 * tokens + p.1

-- an entry is of a node from v on and its potential
record IsEntry (tokens v : ℕ) (xs : List (Option ℤ)) (p : ℕ × ℕ × ℤ) : Type 0 where
  place : ℕ
  at : slice_get xs place ≡ Some (Some p.2)
  state : p.0 ≡ (v + place) / tokens
  token : p.1 ≡ (v + place) % tokens

later : (tokens v : ℕ) (x : Option ℤ) (xs : List (Option ℤ)) (p : ℕ × ℕ × ℤ) → IsEntry tokens (suc v) xs p → IsEntry tokens v (x ∷ xs) p
later tokens v x xs p is =
    let e : suc v + is.place ≡ v + suc is.place = omega arith in
    record { place = suc is.place; at = is.at; state = is.state ∙ ap (λ n. n / tokens) e; token = is.token ∙ ap (λ n. n % tokens) e }

entry-is : (tokens v : ℕ) (xs : List (Option ℤ)) (i : ℕ) → i < length (potentials_from tokens v xs) → IsEntry tokens v xs (entry (potentials_from tokens v xs) i)
entry-is tokens v [] i below = absurd (omega (arith, below))
entry-is tokens v (None ∷ xs) i below = later tokens v None xs (entry (potentials_from tokens (suc v) xs) i) (entry-is tokens (suc v) xs i below)
entry-is tokens v (Some x ∷ xs) zero below =
    let e : v ≡ v + 0 = omega arith in
    record { place = 0; at = refl; state = ap (λ n. n / tokens) e; token = ap (λ n. n % tokens) e }
entry-is tokens v (Some x ∷ xs) (suc i) below =
    later tokens v (Some x) xs (entry (potentials_from tokens (suc v) xs) i) (entry-is tokens (suc v) xs i (omega arith))

numbered : (tokens v : ℕ) (xs : List (Option ℤ)) (p : ℕ × ℕ × ℤ) (is : IsEntry tokens v xs p) → number tokens p ≡ v + is.place
numbered tokens v xs p is = ap₂ (λ a b. a * tokens + b) is.state is.token ∙ div-add-mod' (v + is.place) tokens

rises : (tokens v : ℕ) (xs : List (Option ℤ)) (i : ℕ) → suc i < length (potentials_from tokens v xs)
    → number tokens (entry (potentials_from tokens v xs) i) < number tokens (entry (potentials_from tokens v xs) (suc i))
rises tokens v [] i below = absurd (omega (arith, below))
rises tokens v (None ∷ xs) i below = rises tokens (suc v) xs i below
rises tokens v (Some x ∷ xs) zero below =
    let first : number tokens (v / tokens, v % tokens, x) ≡ v = div-add-mod' v tokens in
    let is = entry-is tokens (suc v) xs 0 (omega arith) in
    let next : number tokens (entry (potentials_from tokens (suc v) xs) 0) ≡ suc v + is.place = numbered tokens (suc v) xs (entry (potentials_from tokens (suc v) xs) 0) is in
    omega (arith, first, next)
rises tokens v (Some x ∷ xs) (suc i) below = rises tokens (suc v) xs i (omega arith)

has-entry : (tokens v : ℕ) (xs : List (Option ℤ)) (j : ℕ) (x : ℤ) → slice_index_or xs j None ≡ Some x
    → (i : ℕ) × (i < length (potentials_from tokens v xs)) × (number tokens (entry (potentials_from tokens v xs) i) ≡ v + j)
has-entry tokens v [] j x at = absurd (cc)
has-entry tokens v (None ∷ xs) zero x at = absurd (cc)
has-entry tokens v (None ∷ xs) (suc j) x at =
    let r = has-entry tokens (suc v) xs j x at in
    (r.0, r.1, r.2 ∙ (let e : suc v + j ≡ v + suc j = omega arith in e))
has-entry tokens v (Some y ∷ xs) zero x at = (0, omega arith, div-add-mod' v tokens ∙ (let e : v ≡ v + 0 = omega arith in e))
has-entry tokens v (Some y ∷ xs) (suc j) x at =
    let r = has-entry tokens (suc v) xs j x at in
    (suc r.0, (let h = r.1 in omega (arith, h)), r.2 ∙ (let e : suc v + j ≡ v + suc j = omega arith in e))

module _ (file : ScenarioFile) (graph : TimedGraph) (is : IsTimedGraph file graph) (l w : ℕ) (xs : List (Option ℤ)) (fit : Fit graph l w (potential_at xs)) (reached : (v : ℕ) (x : ℤ) → potential_at xs v ≡ Some x → IsReachedNode graph v) where
  abbrev ps : List (ℕ × ℕ × ℤ)
  ps = potentials_from graph.tokens 0 xs

  -- the potential at a place is that of the node
  own : (i : ℕ) → i < length ps → potential_at xs (node_at graph ps i) ≡ Some (entry ps i).2
  own i below =
      let e = entry-is graph.tokens 0 xs i below in
      let here : node_at graph ps i ≡ e.place = numbered graph.tokens 0 xs (entry ps i) e ∙ (let f : 0 + e.place ≡ e.place = omega arith in f) in
      subst (λ v. potential_at xs v ≡ Some (entry ps i).2) (sym here) (get_or_from_slice_get xs e.place (Some (entry ps i).2) None e.at)

  there : (i : ℕ) → i < length ps → IsReachedNode graph (node_at graph ps i)
  there i below = reached (node_at graph ps i) (entry ps i).2 (own i below)

  node-known : (i : ℕ) → i < length ps → IsNode graph ((entry ps i).0, (entry ps i).1)
  node-known i below =
      let e = entry-is graph.tokens 0 xs i below in
      let node : node_at graph ps i ≡ 0 + e.place = numbered graph.tokens 0 xs (entry ps i) e in
      let known = is-node graph (node_at graph ps i) (reached-placed file graph is (node_at graph ps i) (there i below)) in (
        subst (λ q. q < graph.states) (sym (e.state ∙ ap (λ m. m / graph.tokens) (sym node))) known.0,
        subst (λ q. q < graph.tokens) (sym (e.token ∙ ap (λ m. m % graph.tokens) (sym node))) known.1,
      )

  pub lists : ListsNodes graph ps
  lists = record {
    known = node-known;
    reached = there;
    rise = λ i below. subst (λ j. node_at graph ps i < node_at graph ps j) (let e : suc i ≡ i + 1 = omega arith in e) (rises graph.tokens 0 xs i (omega arith));
    all = λ v on.
        let x = fit.there v on in
        let r = has-entry graph.tokens 0 xs v x.0 x.1 in
        (r.0, r.1, r.2 ∙ (let e : 0 + v ≡ v = omega arith in e));
  }

  pub fits : (i : ℕ) → i < length ps → FitsAt graph (l, w) ps i
  fits i below = record {
    start = λ start. fit.starts (node_at graph ps i) (entry ps i).2 start (own i below);
    steps = λ k e x at to before.
        let s = listed graph ps e.from x before in
        let value : potential_at xs e.from ≡ Some x = subst (λ v. potential_at xs v ≡ Some x) s.node (own s.place s.below ∙ ap (λ y. Some y) s.value) in
        fit.steps k e x (entry ps i).2 (reached e.from x value) at value (subst (λ v. potential_at xs v ≡ Some (entry ps i).2) (sym to) (own i below));
  }
