-- Those that wait stay in sets by their storage when one more is put in, and are found in the set of theirs.
use Rattle.std.proofs.Common.{◌≡◌, ℕ, ◌≤◌, ◌<◌, ◌||◌, Bool, true, false, cond, if◌then◌else◌, None, Some, List, [], ◌∷◌, ◌++◌, append_assoc, length, refl, sym, ap, ◌∙◌, subst, arith}
use Rattle.std.specs.Prelude.{All, Contains, slice_index_or}
use Rattle.std.specs.BTreeMap.{insert_entry, is_at}
use Rattle.std.specs.List.{IsDistinct, list_any}
use Rattle.std.specs.List.Sorted.{IsPermutation, IsStrictlySortedBy}
use Rattle.std.specs.Map.{lookup, set_value}
use Rattle.std.specs.declared.cmp.Ordering.{Ordering}
use Rattle.std.specs.declared.cmp.Ordering.TheVariants.{Less, Equal, Greater}
use Rattle.std.specs.Ordering.{is_eq, match_ordering, nat_cmp, ordering_then}
use Rattle.std.proofs.lemmas.Cmp.{ranked}
use Rattle.std.proofs.lemmas.List.{length-append}
use Rattle.std.proofs.lemmas.List.Elements.{All-append, All-cons, All-contains, All-nil, All-push, Contains-append_left, Contains-append_right, Contains-get_or}
use Rattle.std.proofs.lemmas.List.Folds.{list_any-append, list_any_none}
use Rattle.std.proofs.lemmas.List.Sorted.{All-permutation, IsPermutation-append_left, IsPermutation-append_right, IsPermutation-middle, IsPermutation-refl, IsPermutation-sym, IsPermutation-trans, length_permutation}
use Rattle.indexmap.specs.IndexSet.{IndexSet, insert_key}
use Rattle.levels.specs.declared.found.Found.{Found}
use Rattle.levels.specs.WaitingOrder.{capacities_cmp}
use Rattle.levels.specs.Frontiers.{IsLevelTaken, found_order}
use Rattle.levels.specs.inside.Sets.{AreSets, IsSet, found_eq, waiting_in}
use Rattle.levels.proofs.DistinctLists.{distinct-append, one-of}

or-false : (b : Bool) → (b || false) ≡ b
or-false true = refl
or-false false = refl

key-is : (t k : ℕ) → true ≡ is_eq (nat_cmp t k) → t ≡ k
key-is t k is = at (nat_cmp t k) refl is
  where
    at : (o : Ordering) → o ≡ nat_cmp t k → true ≡ is_eq o → t ≡ k
    at Less same is = cc
    at Equal same is = ranked t k Equal same
    at Greater same is = cc

key-other : (t k : ℕ) → false ≡ is_eq (nat_cmp t k) → t ≡ k → ⊥
key-other t k is level = at (nat_cmp t k) refl is
  where
    at : (o : Ordering) → o ≡ nat_cmp t k → false ≡ is_eq o → ⊥
    at Less same is = let less : t < k = ranked t k Less same in absurd (omega (arith, less, level))
    at Equal same is = absurd (cc)
    at Greater same is = let more : k < t = ranked t k Greater same in absurd (omega (arith, more, level))

module _ {H : Type 0} where
  -- those of other storage have other distributions
  other-total : (f g : Found H) → (f.total ≡ g.total → ⊥) → found_eq f g ≡ false
  other-total f g apart = at (nat_cmp f.total g.total) refl
    where
      at : (o : Ordering) → o ≡ nat_cmp f.total g.total → is_eq (ordering_then o (capacities_cmp f.capacities.capacities g.capacities.capacities)) ≡ false
      at Less same = refl
      at Equal same = absurd (apart (ranked f.total g.total Equal same))
      at Greater same = refl

  none-alike : (f : Found H) (gs : List (Found H)) → ((g : Found H) → Contains gs g → f.total ≡ g.total → ⊥) → list_any (found_eq f) gs ≡ false
  none-alike f gs apart = list_any_none (found_eq f) gs (λ k d below. other-total f (slice_index_or gs k d) (apart (slice_index_or gs k d) (Contains-get_or gs k d below)))

  later-apart : (f : Found H) (t : ℕ) (gs : List (Found H)) → f.total ≡ t → All (λ (g : Found H). t < g.total) gs → list_any (found_eq f) gs ≡ false
  later-apart f t gs here later = none-alike f gs (λ g one level. let less : t < g.total = All-contains (λ (x : Found H). t < x.total) gs g later one in omega (arith, less, here, level))

  -- one more in front of a list, or in what follows another one
  put-later : (f : Found H) (xs ys zs : List (Found H)) → IsPermutation (f ∷ ys) zs → IsPermutation (f ∷ (xs ++ ys)) (xs ++ zs)
  put-later f xs ys zs put =
      IsPermutation-trans (f ∷ (xs ++ ys)) (xs ++ f ∷ ys) (xs ++ zs) (IsPermutation-sym (xs ++ f ∷ ys) (f ∷ (xs ++ ys)) (IsPermutation-middle xs f ys)) (IsPermutation-append_right xs (f ∷ ys) zs put)

  put-here : (f : Found H) (xs ys : List (Found H)) → IsPermutation (f ∷ (xs ++ ys)) ((xs ++ f ∷ []) ++ ys)
  put-here f xs ys = subst (IsPermutation (f ∷ (xs ++ ys))) (sym (append_assoc xs (f ∷ []) ys)) (IsPermutation-sym (xs ++ f ∷ ys) (f ∷ (xs ++ ys)) (IsPermutation-middle xs f ys))

  later-put : (t : ℕ) (f : Found H) (old new : List (Found H)) → t < f.total → All (λ (g : Found H). t < g.total) old → IsPermutation (f ∷ old) new → All (λ (g : Found H). t < g.total) new
  later-put t f old new less later put = All-permutation (λ (g : Found H). t < g.total) (f ∷ old) new put (All-cons (λ (g : Found H). t < g.total) f old less later)

module _ {H S : Type 0} where
  set-apart : (f : Found H) (e : ℕ × IndexSet (Found H) S) → IsSet e → false ≡ is_eq (nat_cmp f.total e.0) → list_any (found_eq f) e.1.keys ≡ false
  set-apart f e set other = none-alike f e.1.keys (λ g one level. key-other f.total e.0 other (level ∙ All-contains (λ (x : Found H). x.total ≡ e.0) e.1.keys g set.totals one))

  -- one waits if it does so in the set of its storage
  pub any-in-set : (f : Found H) (es : List (ℕ × IndexSet (Found H) S)) (s : IndexSet (Found H) S) → AreSets es → lookup (is_at (nat_cmp f.total)) es ≡ Some s → list_any (found_eq f) (waiting_in es) ≡ list_any (found_eq f) s.keys
  any-in-set f [] s sets found = cc
  any-in-set f (e ∷ es) s sets found = at (is_eq (nat_cmp f.total e.0)) refl found (λ here. any-in-set f es s sets.2 here)
    where
      parts : list_any (found_eq f) (e.1.keys ++ waiting_in es) ≡ (list_any (found_eq f) e.1.keys || list_any (found_eq f) (waiting_in es))
      parts = list_any-append (found_eq f) e.1.keys (waiting_in es)

      at : (b : Bool) → b ≡ is_eq (nat_cmp f.total e.0) → cond b (Some e.1) (lookup (is_at (nat_cmp f.total)) es) ≡ Some s → (lookup (is_at (nat_cmp f.total)) es ≡ Some s → list_any (found_eq f) (waiting_in es) ≡ list_any (found_eq f) s.keys)
          → list_any (found_eq f) (e.1.keys ++ waiting_in es) ≡ list_any (found_eq f) s.keys
      at true is here later =
          let set : e.1 ≡ s = cc in
          let rest = later-apart f e.0 (waiting_in es) (key-is f.total e.0 is) sets.1 in
          parts ∙ (ap (λ (b : Bool). list_any (found_eq f) e.1.keys || b) rest ∙ (or-false (list_any (found_eq f) e.1.keys) ∙ ap (λ (x : IndexSet (Found H) S). list_any (found_eq f) x.keys) set))
      at false is here later = parts ∙ (ap (λ (b : Bool). b || list_any (found_eq f) (waiting_in es)) (set-apart f e sets.0 is) ∙ later here)

  -- it doesn't wait if there is no set of its storage
  pub any-in-none : (f : Found H) (es : List (ℕ × IndexSet (Found H) S)) → AreSets es → lookup (is_at (nat_cmp f.total)) es ≡ None → list_any (found_eq f) (waiting_in es) ≡ false
  any-in-none f [] sets none = refl
  any-in-none f (e ∷ es) sets none = at (is_eq (nat_cmp f.total e.0)) refl none (λ here. any-in-none f es sets.2 here)
    where
      at : (b : Bool) → b ≡ is_eq (nat_cmp f.total e.0) → cond b (Some e.1) (lookup (is_at (nat_cmp f.total)) es) ≡ None → (lookup (is_at (nat_cmp f.total)) es ≡ None → list_any (found_eq f) (waiting_in es) ≡ false) → list_any (found_eq f) (e.1.keys ++ waiting_in es) ≡ false
      at true is here later = cc
      at false is here later =
          list_any-append (found_eq f) e.1.keys (waiting_in es)
          ∙ (ap (λ (b : Bool). b || list_any (found_eq f) (waiting_in es)) (set-apart f e sets.0 is) ∙ later here)

  -- no distribution waits twice
  pub waiting-differ : (es : List (ℕ × IndexSet (Found H) S)) → AreSets es → IsDistinct found_eq (waiting_in es)
  unfolding IsDistinct
  waiting-differ [] sets = tt
  waiting-differ (e ∷ es) sets = distinct-append found_eq e.1.keys (waiting_in es) sets.0.differ (waiting-differ es sets.2)
      (λ f g one other. other-total f g (λ level.
      let here = All-contains (λ (x : Found H). x.total ≡ e.0) e.1.keys f sets.0.totals one in
      let later = All-contains (λ (x : Found H). e.0 < x.total) (waiting_in es) g sets.1 other in
      omega (arith, here, later, level)))

  -- one of the set of some storage
  one-with : (t : ℕ) (es : List (ℕ × IndexSet (Found H) S)) (s : IndexSet (Found H) S) → AreSets es → lookup (is_at (nat_cmp t)) es ≡ Some s → (f : Found H) × Contains (waiting_in es) f × (f.total ≡ t)
  one-with t [] s sets found = cc
  one-with t (e ∷ es) s sets found = at (is_eq (nat_cmp t e.0)) refl found (λ here. one-with t es s sets.2 here)
    where
      at : (b : Bool) → b ≡ is_eq (nat_cmp t e.0) → cond b (Some e.1) (lookup (is_at (nat_cmp t)) es) ≡ Some s → (lookup (is_at (nat_cmp t)) es ≡ Some s → (f : Found H) × Contains (waiting_in es) f × (f.total ≡ t)) → (f : Found H) × Contains (e.1.keys ++ waiting_in es) f × (f.total ≡ t)
      at true is here later =
          let f = one-of e.1.keys sets.0.some in
          (f.0, Contains-append_left e.1.keys (waiting_in es) f.0 f.1, All-contains (λ (x : Found H). x.total ≡ e.0) e.1.keys f.0 sets.0.totals f.1 ∙ sym (key-is t e.0 is))
      at false is here later = let f = later here in (f.0, Contains-append_right e.1.keys (waiting_in es) f.0 f.1, f.2)

  -- one that is put last in the set of its storage
  pub put-in-set : (f : Found H) (es : List (ℕ × IndexSet (Found H) S)) (s w : IndexSet (Found H) S) → AreSets es → lookup (is_at (nat_cmp f.total)) es ≡ Some s → w.keys ≡ s.keys ++ f ∷ [] → IsDistinct found_eq w.keys
      → AreSets (set_value (is_at (nat_cmp f.total)) es w) × IsPermutation (f ∷ waiting_in es) (waiting_in (set_value (is_at (nat_cmp f.total)) es w))
  put-in-set f [] s w sets found keys differ = cc
  put-in-set f (e ∷ es) s w sets found keys differ = at (is_eq (nat_cmp f.total e.0)) refl found (λ here. put-in-set f es s w sets.2 here keys differ)
    where
      at : (b : Bool) → b ≡ is_eq (nat_cmp f.total e.0) → cond b (Some e.1) (lookup (is_at (nat_cmp f.total)) es) ≡ Some s → (lookup (is_at (nat_cmp f.total)) es ≡ Some s → AreSets (set_value (is_at (nat_cmp f.total)) es w) × IsPermutation (f ∷ waiting_in es) (waiting_in (set_value (is_at (nat_cmp f.total)) es w)))
          → AreSets (cond b ((e.0, w) ∷ es) (e ∷ set_value (is_at (nat_cmp f.total)) es w)) × IsPermutation (f ∷ (e.1.keys ++ waiting_in es)) (waiting_in (cond b ((e.0, w) ∷ es) (e ∷ set_value (is_at (nat_cmp f.total)) es w)))
      at true is here later =
          let set : e.1 ≡ s = cc in
          let more : w.keys ≡ e.1.keys ++ f ∷ [] = keys ∙ ap (λ (x : IndexSet (Found H) S). x.keys ++ f ∷ []) (sym set) in
          let long = ap (λ (xs : List (Found H)). length xs) more in (
            (
              record {
                totals = subst (All (λ (x : Found H). x.total ≡ e.0)) (sym more) (All-push (λ (x : Found H). x.total ≡ e.0) e.1.keys f sets.0.totals (key-is f.total e.0 is));
                differ = differ;
                some = omega (arith, long, length-append e.1.keys (f ∷ []));
              },
              sets.1,
              sets.2,
            ),
            subst (λ (xs : List (Found H)). IsPermutation (f ∷ (e.1.keys ++ waiting_in es)) (xs ++ waiting_in es)) (sym more) (put-here f e.1.keys (waiting_in es)),
          )
      at false is here later =
          let rest = later here in
          let g = one-with f.total es s sets.2 here in
          let less : e.0 < g.0.total = All-contains (λ (x : Found H). e.0 < x.total) (waiting_in es) g.0 sets.1 g.1 in (
            (sets.0, later-put e.0 f (waiting_in es) (waiting_in (set_value (is_at (nat_cmp f.total)) es w)) (omega (arith, less, g.2)) sets.1 rest.1, rest.0),
            put-later f e.1.keys (waiting_in es) (waiting_in (set_value (is_at (nat_cmp f.total)) es w)) rest.1,
          )

  -- nothing changes where none is put in
  pub kept-in-set : (t : ℕ) (es : List (ℕ × IndexSet (Found H) S)) (s w : IndexSet (Found H) S) → AreSets es → lookup (is_at (nat_cmp t)) es ≡ Some s → w.keys ≡ s.keys
      → AreSets (set_value (is_at (nat_cmp t)) es w) × (waiting_in (set_value (is_at (nat_cmp t)) es w) ≡ waiting_in es)
  kept-in-set t [] s w sets found keys = cc
  kept-in-set t (e ∷ es) s w sets found keys = at (is_eq (nat_cmp t e.0)) refl found (λ here. kept-in-set t es s w sets.2 here keys)
    where
      at : (b : Bool) → b ≡ is_eq (nat_cmp t e.0) → cond b (Some e.1) (lookup (is_at (nat_cmp t)) es) ≡ Some s → (lookup (is_at (nat_cmp t)) es ≡ Some s → AreSets (set_value (is_at (nat_cmp t)) es w) × (waiting_in (set_value (is_at (nat_cmp t)) es w) ≡ waiting_in es))
          → AreSets (cond b ((e.0, w) ∷ es) (e ∷ set_value (is_at (nat_cmp t)) es w)) × (waiting_in (cond b ((e.0, w) ∷ es) (e ∷ set_value (is_at (nat_cmp t)) es w)) ≡ e.1.keys ++ waiting_in es)
      at true is here later =
          let set : e.1 ≡ s = cc in
          let same : w.keys ≡ e.1.keys = keys ∙ ap (λ (x : IndexSet (Found H) S). x.keys) (sym set) in (
            (
              record {
                totals = subst (All (λ (x : Found H). x.total ≡ e.0)) (sym same) sets.0.totals;
                differ = subst (IsDistinct found_eq) (sym same) sets.0.differ;
                some = subst (λ (xs : List (Found H)). 1 ≤ length xs) (sym same) sets.0.some;
              },
              sets.1,
              sets.2,
            ),
            ap (λ (xs : List (Found H)). xs ++ waiting_in es) same,
          )
      at false is here later =
          let rest = later here in
          ((sets.0, subst (All (λ (x : Found H). e.0 < x.total)) (sym rest.1) sets.1, rest.0), ap (λ (xs : List (Found H)). e.1.keys ++ xs) rest.1)

  -- one that is the first of its storage
  pub put-first : (f : Found H) (es : List (ℕ × IndexSet (Found H) S)) (w : IndexSet (Found H) S) → AreSets es → lookup (is_at (nat_cmp f.total)) es ≡ None → w.keys ≡ f ∷ [] → IsDistinct found_eq w.keys
      → AreSets (insert_entry nat_cmp es f.total w) × IsPermutation (f ∷ waiting_in es) (waiting_in (insert_entry nat_cmp es f.total w))
  put-first f es w sets none keys differ = put es sets none
    where
      set : IsSet (f.total, w)
      set = record {
        totals = subst (All (λ (x : Found H). x.total ≡ f.total)) (sym keys) (All-cons (λ (x : Found H). x.total ≡ f.total) f [] refl (All-nil (λ (x : Found H). x.total ≡ f.total)));
        differ = differ;
        some = subst (λ (xs : List (Found H)). 1 ≤ length xs) (sym keys) (omega arith);
      }

      alone : (xs : List (Found H)) → IsPermutation (f ∷ xs) (w.keys ++ xs)
      alone xs = subst (λ (ks : List (Found H)). IsPermutation (f ∷ xs) (ks ++ xs)) (sym keys) (IsPermutation-refl (f ∷ xs))

      put : (es : List (ℕ × IndexSet (Found H) S)) → AreSets es → lookup (is_at (nat_cmp f.total)) es ≡ None → AreSets (insert_entry nat_cmp es f.total w) × IsPermutation (f ∷ waiting_in es) (waiting_in (insert_entry nat_cmp es f.total w))
      put [] sets none = ((set, All-nil (λ (x : Found H). f.total < x.total), tt), alone [])
      put (e ∷ es) sets none = at (nat_cmp f.total e.0) refl none (put es sets.2)
        where
          at : (o : Ordering) → o ≡ nat_cmp f.total e.0 → cond (is_eq o) (Some e.1) (lookup (is_at (nat_cmp f.total)) es) ≡ None
              → (lookup (is_at (nat_cmp f.total)) es ≡ None → AreSets (insert_entry nat_cmp es f.total w) × IsPermutation (f ∷ waiting_in es) (waiting_in (insert_entry nat_cmp es f.total w)))
              → AreSets (match_ordering o ((f.total, w) ∷ e ∷ es) ((e.0, w) ∷ es) (e ∷ insert_entry nat_cmp es f.total w))
              × IsPermutation (f ∷ (e.1.keys ++ waiting_in es)) (waiting_in (match_ordering o ((f.total, w) ∷ e ∷ es) ((e.0, w) ∷ es) (e ∷ insert_entry nat_cmp es f.total w)))
          at Less is here rest =
              let less : f.total < e.0 = ranked f.total e.0 Less is in (
                (
                  set,
                  All-append (λ (x : Found H). f.total < x.total) e.1.keys (waiting_in es)
                      (λ k d below. let level = sets.0.totals k d below in omega (arith, less, level))
                      (λ k d below. let later = sets.1 k d below in omega (arith, less, later)),
                  sets,
                ),
                alone (e.1.keys ++ waiting_in es),
              )
          at Equal is here rest = cc
          at Greater is here rest =
              let put = rest here in
              let less : e.0 < f.total = ranked f.total e.0 Greater is in (
                (sets.0, later-put e.0 f (waiting_in es) (waiting_in (insert_entry nat_cmp es f.total w)) less sets.1 put.1, put.0),
                put-later f e.1.keys (waiting_in es) (waiting_in (insert_entry nat_cmp es f.total w)) put.1,
              )

  -- what the calls give

  pub set-put : (f : Found H) (es new : List (ℕ × IndexSet (Found H) S)) (s w : IndexSet (Found H) S) → AreSets es → list_any (found_eq f) (waiting_in es) ≡ false → Some s ≡ lookup (is_at (nat_cmp f.total)) es → w.keys ≡ insert_key found_eq s.keys f → IsDistinct found_eq w.keys
      → new ≡ set_value (is_at (nat_cmp f.total)) es w → AreSets new × IsPermutation (f ∷ waiting_in es) (waiting_in new)
  set-put f es new s w sets none found keys differ is =
      let apart : list_any (found_eq f) s.keys ≡ false = sym (any-in-set f es s sets (sym found)) ∙ none in
      let more : w.keys ≡ s.keys ++ f ∷ [] = keys ∙ ap (λ (b : Bool). if b then s.keys else s.keys ++ f ∷ []) apart in
      subst (λ (fs : List (ℕ × IndexSet (Found H) S)). AreSets fs × IsPermutation (f ∷ waiting_in es) (waiting_in fs)) (sym is) (put-in-set f es s w sets (sym found) more differ)

  pub set-kept : (t : ℕ) (es new : List (ℕ × IndexSet (Found H) S)) (s w : IndexSet (Found H) S) → AreSets es → Some s ≡ lookup (is_at (nat_cmp t)) es → w.keys ≡ s.keys → new ≡ set_value (is_at (nat_cmp t)) es w → AreSets new
  set-kept t es new s w sets found keys is = subst AreSets (sym is) (kept-in-set t es s w sets (sym found) keys).0

  pub first-put : (f : Found H) (es new : List (ℕ × IndexSet (Found H) S)) (w : IndexSet (Found H) S) → AreSets es → lookup (is_at (nat_cmp f.total)) es ≡ None → w.keys ≡ f ∷ [] → IsDistinct found_eq w.keys → new ≡ insert_entry nat_cmp es f.total w
      → AreSets new × IsPermutation (f ∷ waiting_in es) (waiting_in new)
  first-put f es new w sets none keys differ is = subst (λ (fs : List (ℕ × IndexSet (Found H) S)). AreSets fs × IsPermutation (f ∷ waiting_in es) (waiting_in fs)) (sym is) (put-first f es w sets none keys differ)

  -- the first set, in order, is a level
  pub level-of-set : (t : ℕ) (s : IndexSet (Found H) S) (es : List (ℕ × IndexSet (Found H) S)) (level : List (Found H)) → AreSets ((t, s) ∷ es) → IsPermutation s.keys level → IsStrictlySortedBy found_order level
      → IsLevelTaken t level (s.keys ++ waiting_in es) (waiting_in es)
  level-of-set t s es level sets same order = record {
    parts = IsPermutation-append_left (waiting_in es) s.keys level same;
    totals = All-permutation (λ (x : Found H). x.total ≡ t) s.keys level same sets.0.totals;
    some = omega (arith, sets.0.some, length_permutation s.keys level same);
    later = sets.1;
    order = order;
  }

  pub popped-level : (t : ℕ) (s : IndexSet (Found H) S) (es rest : List (ℕ × IndexSet (Found H) S)) (old level : List (Found H)) → AreSets es → es ≡ (t, s) ∷ rest → waiting_in es ≡ old → IsPermutation s.keys level → IsStrictlySortedBy found_order level
      → IsLevelTaken t level old (waiting_in rest)
  popped-level t s es rest old level sets popped view same order =
      subst (λ (ws : List (Found H)). IsLevelTaken t level ws (waiting_in rest)) (ap waiting_in (sym popped) ∙ view) (level-of-set t s rest level (subst AreSets popped sets) same order)
