-- Nodes that are found one after the other.
use Rattle.std.proofs.Common.{◌≡◌, ℕ, ◌≤◌, ◌<◌, List, [], ◌∷◌, ◌++◌, append_assoc, append-nil, length, sym, ap, ◌∙◌, subst, arith}
use Rattle.std.specs.Prelude.{All}
use Rattle.std.proofs.lemmas.List.Elements.{All-nil, All-push}
use Rattle.covers.specs.declared.node.Node.{Node}
use Rattle.covers.specs.declared.search.Search.{Search}
use Rattle.covers.specs.Searches.{IsSame}
use Rattle.covers.specs.inside.Keeping.{IsFound, IsGathered, IsKept, IsNextAt, Known, known}
use Rattle.covers.proofs.NoVectorIsLost.{kept-beside, kept-known, kept-refl, kept-trans, same-known}

-- what was found so far
pub record IsGathering (s : Search) (total : ℕ) (old new : List Node) (t : Search) : Type 0 where
  pub more : List Node
  pub longer : new ≡ old ++ more
  pub kept : IsKept (known s) s.open.keys (more ++ t.open.keys)
  pub found : All (IsFound (known s)) more
  pub within : All (λ (n : Node). n.least ≤ total) more

pub gathering-none : (s : Search) (total : ℕ) (old : List Node) → IsGathering s total old old s
gathering-none s total old = record {
  more = [];
  longer = sym (append-nil old);
  kept = kept-refl (known s) s.open.keys;
  found = All-nil (IsFound (known s));
  within = All-nil (λ (n : Node). n.least ≤ total);
}

moved : (ns : List Node) (n : Node) (ms : List Node) → ns ++ (n ∷ ms) ≡ (ns ++ n ∷ []) ++ ms
moved ns n ms = sym (append_assoc ns (n ∷ []) ms)

pub gathering-more : (s t u : Search) (total : ℕ) (old mid new : List Node) (n : Node) → IsSame s t → IsGathering s total old mid t → IsNextAt t total u n → new ≡ mid ++ n ∷ [] → IsGathering s total old new u
gathering-more s t u total old mid new n same so next is = record {
  more = so.more ++ n ∷ [];
  longer = is ∙ (ap (λ (ns : List Node). ns ++ n ∷ []) so.longer ∙ append_assoc old so.more (n ∷ []));
  kept = subst (IsKept (known s) s.open.keys) (moved so.more n u.open.keys)
      (kept-trans (known s) s.open.keys (so.more ++ t.open.keys) (so.more ++ (n ∷ u.open.keys)) so.kept
      (kept-beside (known s) so.more t.open.keys (n ∷ u.open.keys) (kept-known s t t.open.keys (n ∷ u.open.keys) same next.kept)));
  found = All-push (IsFound (known s)) so.more n so.found (subst (λ (k : Known). IsFound k n) (same-known s t same) next.found);
  within = All-push (λ (m : Node). m.least ≤ total) so.more n so.within next.within;
}

-- none is left
pub gathered-all : (s t u : Search) (total most : ℕ) (old mid : List Node) → IsSame s t → IsGathering s total old mid t → IsKept (known t) t.open.keys u.open.keys → All (λ (n : Node). total < n.least) u.open.keys → IsGathered s total most old mid u
gathered-all s t u total most old mid same so kept past = record {
  more = so.more;
  longer = so.longer;
  kept = kept-trans (known s) s.open.keys (so.more ++ t.open.keys) (so.more ++ u.open.keys) so.kept (kept-beside (known s) so.more t.open.keys u.open.keys (kept-known s t t.open.keys u.open.keys same kept));
  found = so.found;
  within = so.within;
  whole = λ _. past;
}

-- there are as many as were asked for
pub gathered-enough : (s t : Search) (total most : ℕ) (old new : List Node) → IsGathering s total old new t → most ≤ length new → IsGathered s total most old new t
gathered-enough s t total most old new so enough = record {
  more = so.more;
  longer = so.longer;
  kept = so.kept;
  found = so.found;
  within = so.within;
  whole = λ few. absurd (over _ _ few enough);
}
  where
    over : (a b : ℕ) → a < b → b ≤ a → ⊥
    over a b x y = omega arith
