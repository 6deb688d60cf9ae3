-- Steps that are brought back from nodes that wait, until none waits.
use Rattle.std.proofs.Common.{◌≡◌, ℕ, zero, suc, ◌+◌, ◌≤◌, ◌<◌, ◌⊎◌, Bool, true, false, List, [], ◌∷◌, ◌++◌, length, set, replicate, Option, Some, None, refl, sym, ap, subst, ◌∙◌, inl, inr, ⊎_elim, length-append, arith}
use Rattle.std.specs.Prelude.{slice_get}
use Rattle.std.proofs.lemmas.Bool.{cases_lt, cases_eq}
use Rattle.std.proofs.lemmas.List.{length-set, length-replicate, get_or-set_same, get_or-set_other}
use Rattle.std.proofs.lemmas.Option.{slice_get_within}
use Rattle.automaton.specs.declared.graph.Edge.{Edge}
use Rattle.scenario_rate.specs.declared.by_node.End.TheVariants.{To}
use Rattle.scenario_rate.specs.inside.Choosing.{IsAmong, IsWalkAmong, steps_at, IsWithin, AreWalked, AreFew, IsDistance, IsFarther, IsBrought}
use Rattle.scenario_rate.specs.inside.ByNode.{list_at, AreByNode}
use Rattle.scenario_rate.specs.inside.Spreading.{room_of, room, AreBrought, IsSpread}
use Rattle.scenario_rate.proofs.NodesListEdges.{among_pushed, among_old, among_last, among_first, among_none, listed_at, listed_in}

-- ---- one edge

module _ (es : List Edge) (ts : List ℕ) (e : Edge) (now new : List (Option ℕ)) (inside : e.from < length now) where
  set-here : (s : ℕ) → new ≡ set now e.from (Some (s + 1)) → steps_at new e.from ≡ Some (s + 1)
  set-here s is = ap (λ (l : List (Option ℕ)). steps_at l e.from) is ∙ get_or-set_same now e.from (Some (s + 1)) None inside

  set-there : (s v : ℕ) → new ≡ set now e.from (Some (s + 1)) → (v ≡ e.from → ⊥) → steps_at new v ≡ steps_at now v
  set-there s v is apart = ap (λ (l : List (Option ℕ)). steps_at l v) is ∙ get_or-set_other now e.from v (Some (s + 1)) None apart

  brought_kept : (b : Bool) → IsBrought e now new b → (v d : ℕ) → steps_at now v ≡ Some d → IsWithin new v d
  brought_kept true (s, at, few, farther, is) v d here = ⊎_elim
      (λ (same : v ≡ e.from).
      let mine : steps_at now e.from ≡ Some d = subst (λ (n : ℕ). steps_at now n ≡ Some d) same here in
      let less : s + 1 < d = subst (λ (o : Option ℕ). IsFarther o (s + 1)) mine farther in
      (s + 1, ap (λ (n : ℕ). steps_at new n) same ∙ set-here s is, omega arith))
      (λ (apart : v ≡ e.from → ⊥). (d, set-there s v is apart ∙ here, omega arith))
      (cases_eq v e.from)
  brought_kept false (same, enough) v d here = (d, ap (λ (l : List (Option ℕ)). steps_at l v) same ∙ here, omega arith)

  brought_long : (b : Bool) → IsBrought e now new b → length new ≡ length now
  brought_long true (s, at, few, farther, is) = ap (λ (l : List (Option ℕ)). length l) is ∙ length-set now e.from (Some (s + 1))
  brought_long false (same, enough) = ap (λ (l : List (Option ℕ)). length l) same

  brought_few : (b : Bool) (n : ℕ) → n ≡ length now → IsBrought e now new b → AreFew n now → AreFew n new
  brought_few true n whole (s, at, few, farther, is) are v d here = ⊎_elim
      (λ (same : v ≡ e.from). let h : Some (s + 1) ≡ Some d = sym (set-here s is) ∙ sym (ap (λ (n : ℕ). steps_at new n) same) ∙ here in let g : s + 1 ≡ d = cc in omega arith)
      (λ (apart : v ≡ e.from → ⊥). are v d (sym (set-there s v is apart) ∙ here))
      (cases_eq v e.from)
  brought_few false n whole (same, enough) are v d here = are v d (sym (ap (λ (l : List (Option ℕ)). steps_at l v) same) ∙ here)

  brought_walked : (b : Bool) (k root : ℕ) → slice_get es k ≡ Some e → IsAmong ts k → IsBrought e now new b → AreWalked es ts root now → AreWalked es ts root new
  brought_walked true k root at_k among (s, at, few, farther, is) are v d here = ⊎_elim
      (λ (same : v ≡ e.from).
      let h : Some (s + 1) ≡ Some d = sym (set-here s is) ∙ sym (ap (λ (n : ℕ). steps_at new n) same) ∙ here in
      let g : s + 1 ≡ d = cc in
      let w = are e.to s at in
      (k ∷ w.0, (e, at_k, same, among, w.1), omega (arith, w.2)))
      (λ (apart : v ≡ e.from → ⊥). are v d (sym (set-there s v is apart) ∙ here))
      (cases_eq v e.from)
  brought_walked false k root at_k among (same, enough) are v d here = are v d (sym (ap (λ (l : List (Option ℕ)). steps_at l v) same) ∙ here)

-- ---- how much steps can still fall

room_farther : (o : Option ℕ) (n : ℕ) → IsFarther o n → n < 1026 → n < room_of o
room_farther None n farther low = low
room_farther (Some d) n farther low = farther

room_less : (steps : List (Option ℕ)) (v n : ℕ) → v < length steps → n < room_of (steps_at steps v) → room (set steps v (Some n)) + 1 ≤ room steps
room_less [] v n inside less = absurd (omega arith)
room_less (o ∷ os) zero n inside less = omega arith
room_less (o ∷ os) (suc v) n inside less = omega (arith, room_less os v n (omega arith) less)

-- ---- edge by edge

pub brought_none : (es : List Edge) (xs : List ℕ) (steps : List (Option ℕ)) (queue : List ℕ) → AreBrought es xs 0 steps steps queue queue
brought_none es xs steps queue = record {
  long = refl;
  kept = λ v d at. (d, at, omega arith);
  changed = λ v. inl refl;
  waiting = λ v among. among;
  inside = λ v among. inl among;
  over = λ i k d e below. absurd (omega arith);
  walked = λ ts root sub are. are;
  few = λ are. are;
  spent = omega arith;
}

module _ (es : List Edge) (xs : List ℕ) (n k : ℕ) (e : Edge) (old now : List (Option ℕ)) (before queue : List ℕ) (so_far : AreBrought es xs n old now before queue) (at_n : slice_get xs n ≡ Some k) (at_k : slice_get es k ≡ Some e) where
  same_edge : (i j : ℕ) (f : Edge) → i ≡ n → slice_get xs i ≡ Some j → slice_get es j ≡ Some f → f ≡ e
  same_edge i j f same at_i at_j =
      let key : j ≡ k = (let h : Some j ≡ Some k = sym at_i ∙ ap (λ (m : ℕ). slice_get xs m) same ∙ at_n in cc) in
      let h : Some f ≡ Some e = sym at_j ∙ ap (λ (m : ℕ). slice_get es m) key ∙ at_k in cc

  -- an edge that had no need to
  pub brought_still : ((s : ℕ) → steps_at now e.to ≡ Some s → s < length now → IsWithin now e.from (s + 1)) → AreBrought es xs (n + 1) old now before queue
  brought_still enough = record {
    long = so_far.long;
    kept = so_far.kept;
    changed = so_far.changed;
    waiting = so_far.waiting;
    inside = so_far.inside;
    over = λ i j d f below at_i at_j here low. ⊎_elim
        (λ (earlier : i < n). so_far.over i j d f earlier at_i at_j here low)
        (λ (last : n ≤ i).
        let same : f ≡ e = same_edge i j f (omega arith) at_i at_j in
        inl (subst (λ (g : Edge). IsWithin now g.from (d + 1)) (sym same) (enough d (ap (λ (g : Edge). steps_at now g.to) (sym same) ∙ here) (omega (arith, so_far.long)))))
        (cases_lt i n);
    walked = so_far.walked;
    few = so_far.few;
    spent = so_far.spent;
  }

  -- an edge that has brought its start nearer, which waits
  module _ (new : List (Option ℕ)) (s : ℕ) (inside : e.from < length now) (small : length now ≤ 1024) (at : steps_at now e.to ≡ Some s) (low : s < length now) (farther : IsFarther (steps_at now e.from) (s + 1)) (is : new ≡ set now e.from (Some (s + 1))) where
    brought : IsBrought e now new true
    brought = (s, at, low, farther, is)

    there : (v : ℕ) → (v ≡ e.from → ⊥) → steps_at new v ≡ steps_at now v
    there v apart = ap (λ (l : List (Option ℕ)). steps_at l v) is ∙ get_or-set_other now e.from v (Some (s + 1)) None apart

    here : steps_at new e.from ≡ Some (s + 1)
    here = ap (λ (l : List (Option ℕ)). steps_at l e.from) is ∙ get_or-set_same now e.from (Some (s + 1)) None inside

    kept_more : (v d : ℕ) → IsWithin now v d → IsWithin new v d
    kept_more v d m = let w = brought_kept es xs e now new inside true brought v m.0 m.1 in (w.0, w.1, (let h : w.0 ≤ d = omega (arith, w.2, m.2) in h))

    over_more : (i j d : ℕ) (f : Edge) → i < n + 1 → slice_get xs i ≡ Some j → slice_get es j ≡ Some f → steps_at new f.to ≡ Some d → d < length old → IsWithin new f.from (d + 1) ⊎ IsAmong (queue ++ e.from ∷ []) f.to
    over_more i j d f below at_i at_j to few = ⊎_elim
        (λ (same : f.to ≡ e.from). inr (subst (IsAmong (queue ++ e.from ∷ [])) (sym same) (among_last queue e.from)))
        (λ (apart : f.to ≡ e.from → ⊥). ⊎_elim
        (λ (earlier : i < n). elim (so_far.over i j d f earlier at_i at_j (sym (there f.to apart) ∙ to) few) [
          | inl w ↦ inl (kept_more f.from (d + 1) w)
          | inr among ↦ inr (among_old queue e.from f.to among)
        ])
        (λ (last : n ≤ i).
        let same : f ≡ e = same_edge i j f (omega arith) at_i at_j in
        let steps : s ≡ d = (let h : Some s ≡ Some d = sym at ∙ ap (λ (g : Edge). steps_at now g.to) (sym same) ∙ sym (there f.to apart) ∙ to in cc) in
        inl (s + 1, ap (λ (g : Edge). steps_at new g.from) same ∙ here, omega arith))
        (cases_lt i n))
        (cases_eq f.to e.from)

    pub brought_nearer : AreBrought es xs (n + 1) old new before (queue ++ e.from ∷ [])
    brought_nearer = record {
      long = brought_long es xs e now new inside true brought ∙ so_far.long;
      kept = λ v d before_it. kept_more v d (so_far.kept v d before_it);
      changed = λ v. ⊎_elim
          (λ (same : v ≡ e.from). inr (subst (IsAmong (queue ++ e.from ∷ [])) (sym same) (among_last queue e.from)))
          (λ (apart : v ≡ e.from → ⊥). elim (so_far.changed v) [ inl same ↦ inl (there v apart ∙ same) | inr among ↦ inr (among_old queue e.from v among) ])
          (cases_eq v e.from);
      waiting = λ v among. among_old queue e.from v (so_far.waiting v among);
      inside = λ v among. (elim (among_pushed queue e.from v among) [ inl waits ↦ so_far.inside v waits | inr same ↦ inr (let h : v < length old = omega (arith, so_far.long) in h) ]);
      over = over_more;
      walked = λ ts root sub are. brought_walked es ts e now new inside true k root at_k (sub k (n, at_n)) brought (so_far.walked ts root sub are);
      few = λ are. brought_few es xs e now new inside true (length old) (sym so_far.long) brought (so_far.few are);
      spent =
          (let r : room new + 1 ≤ room now = subst (λ (l : List (Option ℕ)). room l + 1 ≤ room now) (sym is) (room_less now e.from (s + 1) inside (room_farther (steps_at now e.from) (s + 1) farther (omega arith))) in
          let l : length (queue ++ e.from ∷ []) ≡ length queue + 1 = length-append queue (e.from ∷ []) in
          omega (arith, so_far.spent));
    }

-- ---- node by node

-- the root alone has steps, and waits
pub spread_none : (es : List Edge) (ts : List ℕ) (nodes root : ℕ) (none steps : List (Option ℕ)) → root < nodes → length none ≡ nodes → ((v : ℕ) → steps_at none v ≡ None) → steps ≡ set none root (Some 0) → IsSpread es ts nodes root steps (root ∷ [])
spread_none es ts nodes root none steps inside long empty is = record {
  long = ap (λ (l : List (Option ℕ)). length l) is ∙ length-set none root (Some 0) ∙ long;
  walked = λ v d at. (let z = at_root v d at in ([], z.0, z.1));
  few = λ v d at. (let z = (at_root v d at).1 in (let h : d ≤ nodes = omega arith in h));
  here = (0, here, omega arith);
  over = λ k d e among at to low. inr (0, ap Some (sym (at_root e.to d to).0));
}
  where
    here : steps_at steps root ≡ Some 0
    here = ap (λ (l : List (Option ℕ)). steps_at l root) is ∙ get_or-set_same none root (Some 0) None (omega arith)

    at_root : (v d : ℕ) → steps_at steps v ≡ Some d → (v ≡ root) × (0 ≡ d)
    at_root v d at = ⊎_elim
        (λ (same : v ≡ root). (same, (let h : Some 0 ≡ Some d = sym here ∙ ap (λ (n : ℕ). steps_at steps n) (sym same) ∙ at in let g : 0 ≡ d = cc in g)))
        (λ (apart : v ≡ root → ⊥). absurd (let h : None ≡ Some d = sym (empty v) ∙ sym (ap (λ (l : List (Option ℕ)). steps_at l v) is ∙ get_or-set_other none root v (Some 0) None apart) ∙ at in cc))
        (cases_eq v root)

-- the edges into the first node that waits have each brought their starts nearer
pub spread_more : (es : List Edge) (ts : List ℕ) (nodes root node : ℕ) (lists : List (List ℕ)) (now new : List (Option ℕ)) (rest after : List ℕ) → AreByNode To es ts nodes lists → IsSpread es ts nodes root now (node ∷ rest)
    → AreBrought es (list_at lists node) (length (list_at lists node)) now new rest after → IsSpread es ts nodes root new after
spread_more es ts nodes root node lists now new rest after listed spread brought = record {
  long = brought.long ∙ spread.long;
  walked = brought.walked ts root (λ k among. listed_in To es ts nodes lists listed node k among) spread.walked;
  few = subst (λ (n : ℕ). AreFew n new) spread.long (brought.few (subst (λ (n : ℕ). AreFew n now) (sym spread.long) spread.few));
  here = kept root 0 spread.here;
  over = λ k d e among at to low. ⊎_elim
      (λ (same : e.to ≡ node).
      let a = listed_at To es ts nodes lists listed node k e among at same in
      brought.over a.0 k d e (slice_get_within (list_at lists node) a.0 k a.1) a.1 at to (omega (arith, spread.long)))
      (λ (apart : e.to ≡ node → ⊥). elim (brought.changed e.to) [
        | inl same ↦ (elim (spread.over k d e among at (sym same ∙ to) low) [
          | inl w ↦ inl (kept e.from (d + 1) w)
          | inr waits ↦ (elim (among_first rest node e.to waits) [ inl first ↦ absurd (apart first) | inr later ↦ inr (brought.waiting e.to later) ])
        ])
        | inr waits ↦ inr waits
      ])
      (cases_eq e.to node);
}
  where
    kept : (v d : ℕ) → IsWithin now v d → IsWithin new v d
    kept v d m = let w = brought.kept v m.0 m.1 in (w.0, w.1, (let h : w.0 ≤ d = omega (arith, w.2, m.2) in h))

-- where no node waits, each walk of at most as many edges as nodes is honoured
pub spread_done : (es : List Edge) (ts : List ℕ) (nodes root : ℕ) (steps : List (Option ℕ)) → IsSpread es ts nodes root steps [] → IsDistance es ts nodes root steps
spread_done es ts nodes root steps spread = record { long = spread.long; walked = spread.walked; few = spread.few; near = go }
  where
    go : (v : ℕ) (ks : List ℕ) → IsWalkAmong es ts v ks root → length ks ≤ nodes → IsWithin steps v (length ks)
    go v [] walk short = subst (λ (n : ℕ). IsWithin steps n 0) (sym walk) spread.here
    go v (x ∷ ks) (e, at, from, among, rest) short =
        let m = go e.to ks rest (omega arith) in
        elim (spread.over x m.0 e among at m.1 (omega (arith, m.2))) [
          | inl w ↦ (w.0, ap (λ (n : ℕ). steps_at steps n) from ∙ w.1, (let h : w.0 ≤ suc (length ks) = omega (arith, w.2, m.2) in h))
          | inr waits ↦ absurd (among_none e.to waits)
        ]

-- ---- the same of the queue and the steps as they are read

module _ (root n : ℕ) (none : List (Option ℕ)) (before queue : List ℕ) (is : none ≡ replicate n None) (below : root < n) (nobody : before ≡ []) (put : queue ≡ before ++ root ∷ []) where
  alone : queue ≡ root ∷ []
  alone = put ∙ ap (λ (l : List ℕ). l ++ root ∷ []) nobody

  none_long : length none ≡ n
  none_long = ap (λ (l : List (Option ℕ)). length l) is ∙ length-replicate n None

  pub start_long : length (set none root (Some 0)) ≡ n
  start_long = length-set none root (Some 0) ∙ none_long

  pub start_inside : (v : ℕ) → IsAmong queue v → v < n
  start_inside v among = elim (among_first [] root v (subst (λ (l : List ℕ). IsAmong l v) alone among)) [
    | inl same ↦ (let h : v < n = omega arith in h)
    | inr other ↦ absurd (among_none v other)
  ]

  pub start_spread : (es : List Edge) (ts : List ℕ) → IsSpread es ts n root (set none root (Some 0)) queue
  start_spread es ts = subst (IsSpread es ts n root (set none root (Some 0))) (sym alone) (spread_none es ts n root none (set none root (Some 0)) below none_long empty refl)
    where
      empty_at : (m v : ℕ) → steps_at (replicate m None) v ≡ None
      empty_at zero v = refl
      empty_at (suc m) zero = refl
      empty_at (suc m) (suc v) = empty_at m v

      empty : (v : ℕ) → steps_at none v ≡ None
      empty v = ap (λ (l : List (Option ℕ)). steps_at l v) is ∙ empty_at n v

pub end_spread : (es : List Edge) (ts : List ℕ) (nodes root : ℕ) (steps : List (Option ℕ)) (queue : List ℕ) → length queue ≡ 0 → IsSpread es ts nodes root steps queue → IsDistance es ts nodes root steps
end_spread es ts nodes root steps [] nobody spread = spread_done es ts nodes root steps spread
end_spread es ts nodes root steps (v ∷ queue) nobody spread = absurd (omega arith)

pub first_inside : (nodes node : ℕ) (queue rest : List ℕ) → queue ≡ node ∷ rest → ((v : ℕ) → IsAmong queue v → v < nodes) → node < nodes
first_inside nodes node queue rest is inside = inside node (subst (λ (l : List ℕ). IsAmong l node) (sym is) (0, refl))

module _ (es : List Edge) (into : List (List ℕ)) (root node : ℕ) (now given new whole : List (Option ℕ)) (queue rest after xs : List ℕ) (given_is : given ≡ now) (whole_is : whole ≡ new) (queue_is : queue ≡ node ∷ rest) (list_is : xs ≡ list_at into node)
    (brought : AreBrought es xs (length xs) given new rest after) (long : length now ≡ length into) (inside : (v : ℕ) → IsAmong queue v → v < length into) where
  moved : AreBrought es (list_at into node) (length (list_at into node)) now whole rest after
  moved = subst (λ (l : List (Option ℕ)). AreBrought es (list_at into node) (length (list_at into node)) now l rest after) (sym whole_is)
      (subst (λ (l : List (Option ℕ)). AreBrought es (list_at into node) (length (list_at into node)) l new rest after) given_is
      (subst (λ (l : List ℕ). AreBrought es l (length l) given new rest after) list_is brought))

  pub next_long : length whole ≡ length into
  next_long = moved.long ∙ long

  pub next_inside : (v : ℕ) → IsAmong after v → v < length into
  next_inside v among = elim (moved.inside v among) [
    | inl waits ↦ inside v (subst (λ (l : List ℕ). IsAmong l v) (sym queue_is) (suc waits.0, waits.1))
    | inr below ↦ (let h : v < length into = omega (arith, long) in h)
  ]

  pub next_spread : ((list : List ℕ) → AreByNode To es list (length into) into → IsSpread es list (length into) root now queue) → (list : List ℕ) → AreByNode To es list (length into) into → IsSpread es list (length into) root whole after
  next_spread spread list listed = spread_more es list (length into) root node into now whole rest after listed (subst (IsSpread es list (length into) root now) queue_is (spread list listed)) moved

  pub next_smaller : room whole + length after < room now + length queue
  next_smaller =
      let l : length queue ≡ suc (length rest) = ap (λ (q : List ℕ). length q) queue_is in
      omega (arith, moved.spent)
