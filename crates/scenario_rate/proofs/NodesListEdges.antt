-- The lists by node hold the numbers of exactly the edges with an end there.
use Rattle.std.proofs.Common.{◌≡◌, ℕ, zero, suc, ◌+◌, ◌<◌, List, [], ◌∷◌, ◌++◌, length, set, take, replicate, Some, refl, sym, ap, subst, ◌∙◌, inl, inr, ⊎_elim, ◌⊎◌, arith}
use Rattle.std.specs.Prelude.{slice_get, slice_index_or}
use Rattle.std.proofs.lemmas.Bool.{cases_eq}
use Rattle.std.proofs.lemmas.List.{length-set, length-replicate, get_or-set_same, get_or-set_other, take_more, get_or_default}
use Rattle.std.proofs.lemmas.Option.{slice_get_within, get_or_from_slice_get}
use Rattle.sd_base.proofs.ElementsKeepPlaces.{replicate-same}
use Rattle.automaton.specs.declared.graph.Edge.{Edge}
use Rattle.scenario_rate.specs.declared.by_node.End.{End}
use Rattle.scenario_rate.specs.declared.by_node.End.TheVariants.{From, To}
use Rattle.automaton.specs.SoundGraphs.{AreInside}
use Rattle.scenario_rate.specs.inside.Choosing.{IsAmong, AreKnown}
use Rattle.scenario_rate.specs.inside.ByNode.{node_at, list_at, AreByNode}

-- ---- numbers among those of a list

pub among_pushed : (xs : List ℕ) (x k : ℕ) → IsAmong (xs ++ x ∷ []) k → IsAmong xs k ⊎ (k ≡ x)
among_pushed xs x k (i, at) = go xs i at
  where
    go : (ys : List ℕ) (i : ℕ) → slice_get (ys ++ x ∷ []) i ≡ Some k → IsAmong ys k ⊎ (k ≡ x)
    go [] zero here = inr (let e : x ≡ k = cc in sym e)
    go [] (suc i) here = absurd (cc)
    go (y ∷ ys) zero here = inl (0, here)
    go (y ∷ ys) (suc i) here = elim (go ys i here) [ inl (j, is) ↦ inl (suc j, is) | inr same ↦ inr same ]

pub among_old : (xs : List ℕ) (x k : ℕ) → IsAmong xs k → IsAmong (xs ++ x ∷ []) k
among_old xs x k (i, at) = (i, go xs i at)
  where
    go : (ys : List ℕ) (i : ℕ) → slice_get ys i ≡ Some k → slice_get (ys ++ x ∷ []) i ≡ Some k
    go [] i here = absurd (cc)
    go (y ∷ ys) zero here = here
    go (y ∷ ys) (suc i) here = go ys i here

pub among_last : (xs : List ℕ) (x : ℕ) → IsAmong (xs ++ x ∷ []) x
among_last xs x = (length xs, go xs)
  where
    go : (ys : List ℕ) → slice_get (ys ++ x ∷ []) (length ys) ≡ Some x
    go [] = refl
    go (y ∷ ys) = go ys

pub among_first : (xs : List ℕ) (x k : ℕ) → IsAmong (x ∷ xs) k → (k ≡ x) ⊎ IsAmong xs k
among_first xs x k (zero, at) = inl (let e : x ≡ k = cc in sym e)
among_first xs x k (suc i, at) = inr (i, at)

pub among_none : (k : ℕ) → IsAmong [] k → ⊥
among_none k (i, at) = cc

-- ---- edges that are listed at a node

module _ (end : End) (es : List Edge) (ts : List ℕ) (nodes : ℕ) (lists : List (List ℕ)) (listed : AreByNode end es ts nodes lists) where
  pub listed_at : (v k : ℕ) (e : Edge) → IsAmong ts k → slice_get es k ≡ Some e → node_at end e ≡ v → IsAmong (list_at lists v) k
  listed_at v k e among at there = subst (λ (n : ℕ). IsAmong (list_at lists n) k) there (listed.all k e among at)

  pub listed_in : (v k : ℕ) → IsAmong (list_at lists v) k → IsAmong ts k
  listed_in v k among = (listed.each v k among).0

  pub listed_from : (v k : ℕ) (e : Edge) → IsAmong (list_at lists v) k → slice_get es k ≡ Some e → node_at end e ≡ v
  listed_from v k e among at =
      let m = (listed.each v k among).1 in
      let same : m.0 ≡ e = (let h : Some m.0 ≡ Some e = sym m.1 ∙ at in cc) in
      ap (node_at end) (sym same) ∙ m.2

  pub known_at : (v : ℕ) (xs : List ℕ) → xs ≡ list_at lists v → AreKnown es xs
  known_at v xs is i k at = let m = (listed.each v k (i, ap (λ (l : List ℕ). slice_get l i) (sym is) ∙ at)).1 in slice_get_within es k m.0 m.1

-- the same of the lists as they are read
pub listed_as : (end : End) (es : List Edge) (ts : List ℕ) (nodes : ℕ) (lists now : List (List ℕ)) → now ≡ lists → AreByNode end es ts nodes lists → AreByNode end es ts (length now) now
listed_as end es ts nodes lists now is listed =
    let whole : nodes ≡ length now = sym (ap (λ (l : List (List ℕ)). length l) is ∙ listed.long) in
    subst (λ (n : ℕ). AreByNode end es ts n now) whole (subst (AreByNode end es ts nodes) (sym is) listed)

pub listed_long : (end : End) (es : List Edge) (ts : List ℕ) (nodes : ℕ) (lists now : List (List ℕ)) → now ≡ lists → AreByNode end es ts nodes lists → length now ≡ nodes
listed_long end es ts nodes lists now is listed = ap (λ (l : List (List ℕ)). length l) is ∙ listed.long

-- ---- number by number

pub listed_none : (end : End) (es : List Edge) (nodes : ℕ) (lists : List (List ℕ)) → lists ≡ replicate nodes [] → AreByNode end es [] nodes lists
listed_none end es nodes lists is = record {
  long = ap (λ (l : List (List ℕ)). length l) is ∙ length-replicate nodes [];
  each = λ v k among. absurd (among_none k (subst (λ (l : List ℕ). IsAmong l k) (ap (λ (l : List (List ℕ)). list_at l v) is ∙ replicate-same {A = List ℕ} nodes v []) among));
  all = λ k e among at. absurd (among_none k among);
}

pub listed_more : (end : End) (es : List Edge) (ts more : List ℕ) (nodes number : ℕ) (e : Edge) (old new : List (List ℕ)) → AreByNode end es ts nodes old → slice_get es number ≡ Some e → node_at end e < nodes
    → more ≡ ts ++ number ∷ [] → new ≡ set old (node_at end e) (list_at old (node_at end e) ++ number ∷ []) → AreByNode end es more nodes new
listed_more end es ts more nodes number e old new so_far is inside pushed put = subst (λ (l : List ℕ). AreByNode end es l nodes new) (sym pushed) (record {
  long = ap (λ (l : List (List ℕ)). length l) put ∙ length-set old (node_at end e) (list_at old (node_at end e) ++ number ∷ []) ∙ so_far.long;
  each = λ v k among. ⊎_elim
      (λ (same : v ≡ node_at end e). elim (among_pushed (list_at old (node_at end e)) number k (subst (λ (l : List ℕ). IsAmong l k) (ap (λ (n : ℕ). list_at new n) same ∙ here) among)) [
        | inl before ↦ (let m = so_far.each (node_at end e) k before in (among_old ts number k m.0, (m.1.0, m.1.1, m.1.2 ∙ sym same)))
        | inr last ↦ (subst (IsAmong (ts ++ number ∷ [])) (sym last) (among_last ts number), (e, ap (λ (n : ℕ). slice_get es n) last ∙ is, sym same))
      ])
      (λ (apart : v ≡ node_at end e → ⊥). let m = so_far.each v k (subst (λ (l : List ℕ). IsAmong l k) (there v apart) among) in (among_old ts number k m.0, m.1))
      (cases_eq v (node_at end e));
  all = λ k f among at. (elim (among_pushed ts number k among) [
    | inl before ↦ kept k (node_at end f) (so_far.all k f before at)
    | inr last ↦ (let same : f ≡ e = (let h : Some f ≡ Some e = sym at ∙ ap (λ (n : ℕ). slice_get es n) last ∙ is in cc) in
        subst (λ (n : ℕ). IsAmong (list_at new n) k) (ap (node_at end) (sym same)) (subst (λ (l : List ℕ). IsAmong l k) (sym here) (subst (IsAmong (list_at old (node_at end e) ++ number ∷ [])) (sym last) (among_last (list_at old (node_at end e)) number))))
  ]);
})
  where
    here : list_at new (node_at end e) ≡ list_at old (node_at end e) ++ number ∷ []
    here = ap (λ (l : List (List ℕ)). list_at l (node_at end e)) put ∙ get_or-set_same old (node_at end e) (list_at old (node_at end e) ++ number ∷ []) [] (omega (arith, so_far.long))

    there : (v : ℕ) → (v ≡ node_at end e → ⊥) → list_at new v ≡ list_at old v
    there v apart = ap (λ (l : List (List ℕ)). list_at l v) put ∙ get_or-set_other old (node_at end e) v (list_at old (node_at end e) ++ number ∷ []) [] apart

    kept : (k v : ℕ) → IsAmong (list_at old v) k → IsAmong (list_at new v) k
    kept k v among = ⊎_elim
        (λ (same : v ≡ node_at end e). subst (λ (l : List ℕ). IsAmong l k) (sym (ap (λ (n : ℕ). list_at new n) same ∙ here)) (among_old (list_at old (node_at end e)) number k (subst (λ (n : ℕ). IsAmong (list_at old n) k) same among)))
        (λ (apart : v ≡ node_at end e → ⊥). subst (λ (l : List ℕ). IsAmong l k) (sym (there v apart)) among)
        (cases_eq v (node_at end e))

-- the same of a list as it is read
pub listed_step : (end : End) (es : List Edge) (xs : List ℕ) (n nodes number node : ℕ) (e : Edge) (old : List (List ℕ)) (got put : List ℕ) → AreByNode end es (take n xs) nodes old → n < length xs → slice_get xs n ≡ Some number → slice_get es number ≡ Some e → node ≡ node_at end e → node < nodes
    → got ≡ slice_index_or old node got → put ≡ got ++ number ∷ [] → AreByNode end es (take (n + 1) xs) nodes (set old node put)
listed_step end es xs n nodes number node e old got put so_far below here is there inside read pushed =
    listed_more end es (take n xs) (take (n + 1) xs) nodes number e old (set old node put) so_far is (omega (arith, there)) (take_more xs n number below ∙ ap (λ (m : ℕ). take n xs ++ m ∷ []) (get_or_from_slice_get xs n number number here))
    (ap (λ (m : ℕ). set old m put) there ∙ ap (λ (l : List ℕ). set old (node_at end e) l) (pushed ∙ ap (λ (l : List ℕ). l ++ number ∷ []) found))
  where
    found : got ≡ list_at old (node_at end e)
    found = read ∙ get_or_default old node got [] (omega (arith, so_far.long)) ∙ ap (λ (m : ℕ). list_at old m) there

-- the node at an end of an edge is one of the nodes
pub inside_at : (end : End) (es : List Edge) (nodes number : ℕ) (e : Edge) (node : ℕ) → AreInside es nodes → slice_get es number ≡ Some e → node ≡ node_at end e → node < nodes
inside_at From es nodes number e node inside is there = omega (arith, inside.from number e is)
inside_at To es nodes number e node inside is there = omega (arith, inside.to number e is)
