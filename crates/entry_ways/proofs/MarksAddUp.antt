-- The marks of one list of channels and then of another are those of both, and so entry by entry.
use Rattle.std.proofs.Common.{◌≡◌, ℕ, ◌+◌, ◌≤◌, ◌<◌, ◌⊎◌, Bool, true, false, List, [], ◌∷◌, ◌++◌, length, Some, inl, inr, ⊎_elim, sym, ap, subst, ◌∙◌, refl, arith, length-append}
use Rattle.std.specs.Prelude.{slice_get, slice_index_or, Contains}
use Rattle.std.proofs.lemmas.Bool.{cases_lt}
use Rattle.std.proofs.lemmas.List.{get_or_append_left, get_or-append-add}
use Rattle.std.proofs.lemmas.List.Elements.{Contains-append_left, Contains-append_right, Contains-append_cases, Contains-push, Contains-push_cases}
use Rattle.std.proofs.lemmas.Option.{slice_get_within, get_or_from_slice_get, slice_get-get_or}
use Rattle.sd_base.specs.Net.{Net}
use Rattle.entry_ways.specs.declared.marking.EntryPlace.{EntryPlace}
use Rattle.entry_ways.specs.WayMarks.{AreWayMarks, IsLongestWay, IsOnSome}
use Rattle.entry_ways.specs.inside.Traces.{AreMarked}

-- no channel is in an empty list
pub none-marked : (old : List Bool) → AreMarked [] old old
none-marked old = record {
  long = refl;
  marked = λ i below. (
    λ at. inl at,
    λ has. ⊎_elim (λ (at : slice_index_or old i false ≡ true). at)
        (λ ((k, low, at) : Contains [] i). absurd (let no : ⊥ = omega arith in no)) has,
  );
}

-- the marks of one list and then of another
pub more-marked : (cs ds : List ℕ) (old mid new : List Bool) → AreMarked cs old mid → AreMarked ds mid new → AreMarked (cs ++ ds) old new
more-marked cs ds old mid new first second = record {
  long = second.long ∙ first.long;
  marked = λ i below. (let one = first.marked i below in let two = second.marked i (omega (arith, first.long)) in (
    λ at. ⊎_elim
        (λ (was : slice_index_or mid i false ≡ true). ⊎_elim (λ (o : slice_index_or old i false ≡ true). inl o) (λ (h : Contains cs i). inr (Contains-append_left cs ds i h)) (one.0 was))
        (λ (h : Contains ds i). inr (Contains-append_right cs ds i h)) (two.0 at),
    λ has. ⊎_elim
        (λ (o : slice_index_or old i false ≡ true). two.1 (inl (one.1 (inl o))))
        (λ (h : Contains (cs ++ ds) i). ⊎_elim (λ (c : Contains cs i). two.1 (inl (one.1 (inr c)))) (λ (d : Contains ds i). two.1 (inr d)) (Contains-append_cases cs ds i h)) has,
  ));
}

pub snoc-on : (cs : List ℕ) (i : ℕ) (rest : List ℕ) → (cs ++ i ∷ []) ++ rest ≡ cs ++ (i ∷ rest)
snoc-on [] i rest = refl
snoc-on (c ∷ cs) i rest = ap (λ (l : List ℕ). c ∷ l) (snoc-on cs i rest)

module _ (net : Net) (first : ℕ → ℕ) where
  module _ (entries : List EntryPlace) (entry : EntryPlace) (cs : List ℕ) (old mid new : List Bool) (before : AreWayMarks net first entries old mid)
      (way : IsLongestWay net first entry.column entry.row cs) (more : AreMarked cs mid new) where
    -- the ways of the entries before, and that of the last one
    each-longest : (k : ℕ) (e : EntryPlace) → slice_get (entries ++ entry ∷ []) k ≡ Some e → IsLongestWay net first e.column e.row (slice_index_or (before.ways ++ cs ∷ []) k [])
    each-longest k e at = ⊎_elim
        (λ (less : k < length entries). (
        let there : slice_get entries k ≡ Some e = slice_get-get_or entries k e less ∙ ap Some
        (sym (get_or_append_left entries (entry ∷ []) e k less) ∙ get_or_from_slice_get (entries ++ entry ∷ []) k e e at) in
        subst (λ (ds : List ℕ). IsLongestWay net first e.column e.row ds) (sym (get_or_append_left before.ways (cs ∷ []) [] k (omega (arith, before.each)))) (before.longest k e there)))
        (λ (past : length entries ≤ k). (
        let within : k < length (entries ++ entry ∷ []) = slice_get_within (entries ++ entry ∷ []) k e at in
        let last : k ≡ length entries + 0 = omega (arith, length-append entries (entry ∷ [])) in
        let is : entry ≡ e = sym (get_or-append-add entries (entry ∷ []) 0 e) ∙ (ap (λ (n : ℕ). slice_index_or (entries ++ entry ∷ []) n e) (sym last) ∙ get_or_from_slice_get
        (entries ++ entry ∷ []) k e e at) in
        let same : k ≡ length before.ways + 0 = omega (arith, before.each) in
        let here : slice_index_or (before.ways ++ cs ∷ []) k [] ≡ cs = ap (λ (n : ℕ). slice_index_or (before.ways ++ cs ∷ []) n []) same ∙ get_or-append-add before.ways (cs ∷ []) 0 [] in
        subst (λ (ds : List ℕ). IsLongestWay net first e.column e.row ds) (sym here) (subst (λ (f : EntryPlace). IsLongestWay net first f.column f.row cs) is way)))
        (cases_lt k (length entries))

    -- a channel is on the ways before, or on the last one
    on-more : (i : ℕ) → IsOnSome before.ways i ⊎ Contains cs i → IsOnSome (before.ways ++ cs ∷ []) i
    on-more i has = ⊎_elim
        (λ ((ds, way-in, on) : IsOnSome before.ways i). (ds, Contains-append_left before.ways (cs ∷ []) ds way-in, on))
        (λ (on : Contains cs i). (cs, Contains-push before.ways cs, on)) has

    on-less : (i : ℕ) → IsOnSome (before.ways ++ cs ∷ []) i → IsOnSome before.ways i ⊎ Contains cs i
    on-less i (ds, way-in, on) = ⊎_elim
        (λ (old-way : Contains before.ways ds). inl (ds, old-way, on))
        (λ (same : cs ≡ ds). inr (subst (λ (l : List ℕ). Contains l i) (sym same) on))
        (Contains-push_cases before.ways cs ds way-in)

    -- with one entry more
    pub entry-marked : AreWayMarks net first (entries ++ entry ∷ []) old new
    entry-marked = record {
      ways = before.ways ++ cs ∷ [];
      each = omega (arith, before.each, length-append before.ways (cs ∷ []), length-append entries (entry ∷ []));
      longest = each-longest;
      long = more.long ∙ before.long;
      marked = λ i below. (let one = before.marked i below in let two = more.marked i (omega (arith, before.long)) in (
        λ at. ⊎_elim
            (λ (was : slice_index_or mid i false ≡ true). ⊎_elim (λ (o : slice_index_or old i false ≡ true). inl o) (λ (h : IsOnSome before.ways i). inr (on-more i (inl h))) (one.0 was))
            (λ (h : Contains cs i). inr (on-more i (inr h))) (two.0 at),
        λ has. ⊎_elim
            (λ (o : slice_index_or old i false ≡ true). two.1 (inl (one.1 (inl o))))
            (λ (h : IsOnSome (before.ways ++ cs ∷ []) i). ⊎_elim (λ (b : IsOnSome before.ways i). two.1 (inl (one.1 (inr b)))) (λ (c : Contains cs i). two.1 (inr c)) (on-less i h)) has,
      ));
    }
