-- The lexicographic order of vectors is that of their distributions.
use Rattle.std.proofs.Common.{◌≡◌, ◌≢◌, ℕ, ◌<◌, true, false, Option, None, Some, List, [], ◌∷◌, refl, sym, ap, ◌∙◌, arith, lt-ltb}
use Rattle.std.specs.Prelude.{nat_lt}
use Rattle.std.specs.declared.cmp.Ordering.{Ordering}
use Rattle.std.specs.declared.cmp.Ordering.TheVariants.{Less, Equal, Greater}
use Rattle.std.specs.Ordering.{nat_cmp, ordering_then}
use Rattle.std.specs.Cmp.Lexicographic.{slice_cmp}
use Rattle.std.proofs.lemmas.Bool.{le-ltb, true≢false}
use Rattle.std.proofs.lemmas.Cmp.{ranked}
use Rattle.std.proofs.lemmas.Map.Lookups.{exact_bytes}
use Rattle.sd_base.specs.Net.{Channel}
use Rattle.storage.specs.CapacityOrder.{no_later}
use Rattle.storage.specs.Distributions.{IsDistribution}
use Rattle.pareto_search.specs.inside.Vectors.{vector_of}

same-goes : (a : ℕ) (ds es : List (Option ℕ)) → no_later (Some a ∷ ds) (Some a ∷ es) ≡ no_later ds es
same-goes a ds es = let e : nat_lt a a ≡ false = le-ltb a a (omega arith) in rw e refl

less-goes : (a b : ℕ) (ds es : List (Option ℕ)) → a < b → no_later (Some a ∷ ds) (Some b ∷ es) ≡ true
less-goes a b ds es less = let e : nat_lt a b ≡ true = lt-ltb a b less in rw e refl

pub not-after-no-later : (cs : List Channel) (ds es : List (Option ℕ)) → IsDistribution cs ds → IsDistribution cs es → slice_cmp nat_cmp (vector_of ds) (vector_of es) ≢ Greater → no_later ds es ≡ true
not-after-no-later [] [] es one other first = refl
not-after-no-later [] (d ∷ ds) es one other first = absurd one
not-after-no-later (c ∷ cs) [] es one other first = refl
not-after-no-later (c ∷ cs) (None ∷ ds) [] one other first = absurd (true≢false (sym one.0 ∙ other.0))
not-after-no-later (c ∷ cs) (Some a ∷ ds) [] one other first = absurd (true≢false (sym one.0 ∙ other.0))
not-after-no-later (c ∷ cs) (None ∷ ds) (None ∷ es) one other first = not-after-no-later cs ds es one.2 other.2 first
not-after-no-later (c ∷ cs) (None ∷ ds) (Some b ∷ es) one other first = refl
not-after-no-later (c ∷ cs) (Some a ∷ ds) (None ∷ es) one other first = absurd (one.1 other.1)
not-after-no-later (c ∷ cs) (Some a ∷ ds) (Some b ∷ es) one other first = at (nat_cmp a b) refl first (not-after-no-later cs ds es one.3 other.3)
  where
    at : (o : Ordering) → o ≡ nat_cmp a b → ordering_then o (slice_cmp nat_cmp (vector_of ds) (vector_of es)) ≢ Greater → (slice_cmp nat_cmp (vector_of ds) (vector_of es) ≢ Greater → no_later ds es ≡ true) → no_later (Some a ∷ ds) (Some b ∷ es) ≡ true
    at Less same first rest = let less : a < b = ranked a b Less same in less-goes a b ds es less
    at Equal same first rest = let level : a ≡ b = ranked a b Equal same in rw level (same-goes b ds es ∙ rest first)
    at Greater same first rest = absurd (first refl)

-- and they are the same where their vectors are
pub same-vectors : (cs : List Channel) (ds es : List (Option ℕ)) → IsDistribution cs ds → IsDistribution cs es → vector_of ds ≡ vector_of es → ds ≡ es
same-vectors [] [] [] one other same = refl
same-vectors [] [] (e ∷ es) one other same = absurd other
same-vectors [] (d ∷ ds) es one other same = absurd one
same-vectors (c ∷ cs) [] [] one other same = refl
same-vectors (c ∷ cs) [] (None ∷ es) one other same = absurd (true≢false (sym other.0 ∙ one.0))
same-vectors (c ∷ cs) [] (Some b ∷ es) one other same = absurd (true≢false (sym other.0 ∙ one.0))
same-vectors (c ∷ cs) (None ∷ ds) [] one other same = absurd (true≢false (sym one.0 ∙ other.0))
same-vectors (c ∷ cs) (Some a ∷ ds) [] one other same = absurd (true≢false (sym one.0 ∙ other.0))
same-vectors (c ∷ cs) (None ∷ ds) (None ∷ es) one other same =
    let rest : vector_of ds ≡ vector_of es = cc in ap (λ (fs : List (Option ℕ)). None ∷ fs) (same-vectors cs ds es one.2 other.2 rest)
same-vectors (c ∷ cs) (None ∷ ds) (Some b ∷ es) one other same = absurd (other.1 one.1)
same-vectors (c ∷ cs) (Some a ∷ ds) (None ∷ es) one other same = absurd (one.1 other.1)
same-vectors (c ∷ cs) (Some a ∷ ds) (Some b ∷ es) one other same =
    let first : a ≡ b = cc in
    let rest : vector_of ds ≡ vector_of es = cc in
    ap (λ (k : ℕ). Some k ∷ ds) first ∙ ap (λ (fs : List (Option ℕ)). Some b ∷ fs) (same-vectors cs ds es one.3 other.3 rest)

pub equal-same : (cs : List Channel) (ds es : List (Option ℕ)) → IsDistribution cs ds → IsDistribution cs es → slice_cmp nat_cmp (vector_of ds) (vector_of es) ≡ Equal → ds ≡ es
equal-same cs ds es one other equal = same-vectors cs ds es one other (exact_bytes (vector_of ds) (vector_of es) equal)
