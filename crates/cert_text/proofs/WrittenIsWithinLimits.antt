-- What is written of a trade-off is within its limits.
use Rattle.std.proofs.Common.{◌≡◌, ◌⊎◌, ℕ, suc, ◌<◌, ◌≤◌, Bool, true, false, List, [], ◌∷◌, Option, Some, None, All, length, Result, Ok, Err, OnOk, refl, subst, arith, inl, inr}
use Rattle.std.specs.Prelude.{◌==◌, if◌then◌else◌, nat_lt}
use Rattle.std.specs.List.{AllByRecursion}
use Rattle.std.proofs.lemmas.Bool.{cases_lt, eqb-true}
use Rattle.std.proofs.lemmas.List.{get_or_default}
use Rattle.std.proofs.lemmas.List.Elements.{recursion_from_All}
use Rattle.std.proofs.lemmas.Option.{same_Some}
use Rattle.cert_text.specs.declared.certificates.LinkCycle.{LinkCycle}
use Rattle.cert_text.specs.declared.certificates.MemberLine.{MemberLine}
use Rattle.cert_text.specs.declared.certificates.MemberShown.{MemberShown}
use Rattle.cert_text.specs.declared.certificates.MemberShown.TheVariants.{Cycle, Blocked}
use Rattle.cert_text.specs.declared.certificates.PointLine.{PointLine}
use Rattle.cert_text.specs.declared.certificates.StorageCertificate.{StorageCertificate}
use Rattle.cert_text.specs.Limits.{IsCycleWithin, IsLong, IsMemberWithin, IsPointWithin, IsStorageWithin, NamesWithin, NameWithin}
use Rattle.cert_text.specs.MemberLines.{cycle_at, no_cycle}
use Rattle.cert_text.specs.Orderly.{IsStorageOrderly, used_by, used_with}
use Rattle.cert_text.proofs.SoundMembers.{used-most}

-- the cycle that a member is the first to name
named-one : (cycles : List LinkCycle) (u v : ℕ) (what : MemberShown) → used_with u what ≡ Some v → NamesWithin cycles what → (k : ℕ) → u ≤ k → k < v → IsCycleWithin (cycle_at cycles k)
named-one cycles u v (Blocked counts) e named k le less = let is = same_Some u v e in absurd (omega (arith, is, le, less))
named-one cycles u v (Cycle rate i) e named k le less = split (nat_lt i u) (i == u) refl e
  where
    split : (low same : Bool) → (i == u) ≡ same → (if low then Some u else if same then Some (suc u) else None) ≡ Some v → IsCycleWithin (cycle_at cycles k)
    split true same test h = let is = same_Some u v h in absurd (omega (arith, is, le, less))
    split false true test h =
        let is = same_Some (suc u) v h in
        let at = eqb-true i u test in
        let this : i ≡ k = omega (arith, is, at, le, less) in
        subst (λ (j : ℕ). IsCycleWithin (cycle_at cycles j)) this named
    split false false test h = absurd cc

-- each cycle is named
named-cycles : (cycles : List LinkCycle) (ms : List MemberLine) (u n : ℕ) → used_by u ms ≡ Some n → AllByRecursion (λ (m : MemberLine). NamesWithin cycles m.shown) ms → (k : ℕ) → u ≤ k → k < n → IsCycleWithin (cycle_at cycles k)
unfolding used_by
named-cycles cycles [] u n e all k le less = let is = same_Some u n e in absurd (omega (arith, is, le, less))
named-cycles cycles (m ∷ ms) u n e all k le less = split (used_with u m.shown) refl e (λ v h low. named-cycles cycles ms v n h all.1 k low less)
  where
    split : (o : Option ℕ) → used_with u m.shown ≡ o → elim o [ Some more ↦ used_by more ms | None ↦ None ] ≡ Some n → ((v : ℕ) → used_by v ms ≡ Some n → v ≤ k → IsCycleWithin (cycle_at cycles k)) → IsCycleWithin (cycle_at cycles k)
    split (Some v) with h others = elim (cases_lt k v) [
      | inl low ↦ named-one cycles u v m.shown with all.0 k le low
      | inr high ↦ others v h high
    ]
    split None with h others = absurd cc

abbrev AreWithin : {X : Type 0} → (X → Type 0) → List X → Type 0
AreWithin P xs = IsLong (length xs) × All P xs

pub storage-within : (version : ℕ) → (version ≡ 1) ⊎ (version ≡ 2) → (c : StorageCertificate) → IsStorageOrderly c → IsLong c.limit → (version ≡ 2 → AreWithin IsCycleWithin c.cycles) → (version ≡ 1 → NameWithin c.cycles c.members)
    → AreWithin IsMemberWithin c.members → AreWithin IsPointWithin c.points → IsStorageWithin c
storage-within version (inl is) c orderly limit listed named members points =
    let n : ℕ = length c.cycles in
    let each = recursion_from_All (λ (m : MemberLine). NamesWithin c.cycles m.shown) c.members (named is) in
    let most = used-most c.members 0 n orderly.used in
    let many = members.0 in
    record {
      limit = limit;
      cycle_count = omega (arith, most, many);
      cycles = λ k d less. subst IsCycleWithin (get_or_default c.cycles k no_cycle d less) (named-cycles c.cycles c.members 0 n orderly.used each k (omega arith) less);
      member_count = members.0;
      members = members.1;
      point_count = points.0;
      points = points.1;
    }
storage-within version (inr is) c orderly limit listed named members points = record {
  limit = limit;
  cycle_count = (listed is).0;
  cycles = (listed is).1;
  member_count = members.0;
  members = members.1;
  point_count = points.0;
  points = points.1;
}

-- of lists that were written
pub lists-within : {A E : Type 0} (r : Result A E) (version : ℕ) (c : StorageCertificate) (cycles : List LinkCycle) (members : List MemberLine) (points : List PointLine) → cycles ≡ c.cycles → members ≡ c.members → points ≡ c.points → IsStorageOrderly c → IsLong c.limit
    → OnOk r (version ≡ 2 → AreWithin IsCycleWithin cycles) → OnOk r (AreWithin IsMemberWithin members) → OnOk r (version ≡ 1 → NameWithin cycles members) → OnOk r (AreWithin IsPointWithin points) → OnOk r ((version ≡ 1) ⊎ (version ≡ 2) → IsStorageWithin c)
lists-within (Err e) version c cycles members points a b d orderly limit listed each named each_point = tt
lists-within (Ok x) version c cycles members points a b d orderly limit listed each named each_point = λ known. storage-within version known c orderly limit
    (subst (λ (xs : List LinkCycle). version ≡ 2 → AreWithin IsCycleWithin xs) a listed)
    (subst (λ (xs : List LinkCycle). version ≡ 1 → NameWithin xs c.members) a (subst (λ (ms : List MemberLine). version ≡ 1 → NameWithin cycles ms) b named))
    (subst (AreWithin IsMemberWithin) b each) (subst (AreWithin IsPointWithin) d each_point)
