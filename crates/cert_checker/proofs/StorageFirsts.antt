-- The first fault of a certificate of a trade-off, from those of its parts.
use Rattle.std.proofs.Common.{◌≡◌, ℕ, zero, suc, ◌+◌, ◌-◌, ◌≤◌, ◌<◌, ◌⊎◌, List, [], ◌∷◌, length, map, take, inl, inr, ⊎_elim, sym, refl, subst, ap, ap₂, ◌∙◌, arith}
use Rattle.std.specs.Prelude.{sum, slice_index_or, ◌==◌, cond, Bool, true, false}
use Rattle.std.proofs.Math.Seq.{take-suc}
use Rattle.std.proofs.lemmas.Bool.{cases_lt}
use Rattle.std.specs.List.{sum_by}
use Rattle.std.proofs.lemmas.List.Sums.{sum-map, sum_by-append}
use Rattle.sd_base.specs.Net.{Net}
use Rattle.cert_text.specs.declared.certificates.LinkCycle.{LinkCycle}
use Rattle.cert_text.specs.declared.certificates.MemberShown.{MemberShown}
use Rattle.cert_text.specs.declared.certificates.MemberShown.TheVariants.{Cycle, Blocked}
use Rattle.cert_text.specs.declared.certificates.StorageCertificate.{StorageCertificate}
use Rattle.cert_text.specs.MemberLines.{cycle_at}
use Rattle.cert_checker.specs.declared.verdict.Reason.{Reason}
use Rattle.cert_checker.specs.Verdicts.{IsFirst, rank_of}
use Rattle.cert_checker.specs.ShownChannels.{member_at, no_member}
use Rattle.cert_checker.specs.StorageLines.{cycle_size, end_line, member_line, member_size, point_line, point_size, shown_size}
use Rattle.cert_checker.specs.StorageCertificates.{IsMemberRight, IsPointRight, no_point, point_at}
use Rattle.cert_checker.specs.StorageFaults.{IsCycleFault, IsMemberFault, IsPointFault, IsShownFault, rate, cycle, counts, member, closure, shown, schedule, starts, point, reaches}
use Rattle.cert_checker.specs.inside.FirstFaults.{IsFaultOfMembers, IsFaultOfPoints, at_member, at_point}
use Rattle.cert_checker.proofs.TradeOffFaults.{no-member, no-point}

-- ---- sums of sizes

module _ {A : Type 0} (f : A → ℕ) (xs : List A) (d : A) where
  pub sizes-more : (i : ℕ) → i < length xs → sum (map f (take (suc i) xs)) ≡ sum (map f (take i xs)) + f (slice_index_or xs i d)
  sizes-more i below =
      let one : sum (map f (slice_index_or xs i d ∷ [])) ≡ f (slice_index_or xs i d) = (let e : 0 + f (slice_index_or xs i d) ≡ f (slice_index_or xs i d) = omega arith in e) in
      sum-map f (take (suc i) xs) ∙ (ap (sum_by f) (take-suc xs i d below) ∙ (sum_by-append f (take i xs) (slice_index_or xs i d ∷ [])
      ∙ ap₂ (λ (a b : ℕ). a + b) (sym (sum-map f (take i xs))) (sym (sum-map f (slice_index_or xs i d ∷ [])) ∙ one)))

  sizes-on : (k i : ℕ) → i + k ≤ length xs → sum (map f (take i xs)) ≤ sum (map f (take (i + k) xs))
  sizes-on zero i below = let e : i + 0 ≡ i = omega arith in rw e (omega arith)
  sizes-on (suc k) i below =
      let e : i + suc k ≡ suc (i + k) = omega arith in
      let first = sizes-on k i (omega arith) in
      let step = sizes-more (i + k) (omega arith) in
      rw e (omega (arith, first, step))

  -- what stands before a later one has an earlier one with all its lines
  pub sizes-before : (i j : ℕ) → i < j → j ≤ length xs → sum (map f (take i xs)) + f (slice_index_or xs i d) ≤ sum (map f (take j xs))
  sizes-before i j less below =
      let step = sizes-more i (omega arith) in
      let on = sizes-on (j - suc i) (suc i) (omega arith) in
      let e : suc i + (j - suc i) ≡ j = omega arith in
      let on_j : sum (map f (take (suc i) xs)) ≤ sum (map f (take j xs)) = subst (λ (n : ℕ). sum (map f (take (suc i) xs)) ≤ sum (map f (take n xs))) e on in
      omega (arith, step, on_j)

-- ---- faults stand within their parts

cycle-place : (net : Net) (version : ℕ) (x : ℕ × ℕ) (links : LinkCycle) (place : ℕ) (reason : Reason) → IsCycleFault net version x links place reason → place ≤ cond (version == 1) (1 + cycle_size links) 1
cycle-place net version x links place reason (rate h il ir) = at (version == 1)
  where
    at : (b : Bool) → place ≤ cond b (1 + cycle_size links) 1
    at true = omega (arith, il)
    at false = omega (arith, il)
cycle-place net version x links place reason (cycle h il ir) = subst (λ (n : ℕ). n ≤ cond (version == 1) (1 + cycle_size links) 1) (sym il) (at (version == 1))
  where
    at : (b : Bool) → cond b 2 1 ≤ cond b (1 + cycle_size links) 1
    at true = omega arith
    at false = omega arith

shown-place : (net : Net) (version : ℕ) (cs : List LinkCycle) (s : MemberShown) (place : ℕ) (reason : Reason) → IsShownFault net version cs s place reason → place ≤ shown_size version cs s
shown-place net version cs (Cycle x k) place reason fault = cycle-place net version x (cycle_at cs k) place reason fault
shown-place net version cs (Blocked xs) place reason (counts h il ir) = omega (arith, il)

pub member-place : (net : Net) (version : ℕ) (c : StorageCertificate) (i place : ℕ) (reason : Reason) → IsMemberFault net version c i place reason → place < member_size version c.cycles (member_at c.members i)
member-place net version c i place reason (member h il ir) = omega (arith, il)
member-place net version c i place reason (closure h il ir) = omega (arith, il)
member-place net version c i place reason (shown fault) = omega (arith, shown-place _ version c.cycles (member_at c.members i).shown place reason fault)

pub point-place : (net : Net) (c : StorageCertificate) (i place : ℕ) (reason : Reason) → IsPointFault net c i place reason → place < point_size (point_at c.points i)
point-place net c i place reason (point h il ir) = omega (arith, il)
point-place net c i place reason (reaches (schedule h il ir)) = omega (arith, il)
point-place net c i place reason (reaches (starts a below h il ir)) = omega (arith, il, below)

-- ---- each part stands behind those before it, and the last line behind them all

module _ (version : ℕ) (c : StorageCertificate) where
  pub member-inside : (i : ℕ) → i < length c.members → member_line version c i + member_size version c.cycles (member_at c.members i) ≤ end_line version c
  member-inside i below = omega (arith, sizes-before (member_size version c.cycles) c.members no_member i (length c.members) below (omega arith))

  pub point-inside : (i : ℕ) → i < length c.points → point_line version c i + point_size (point_at c.points i) ≤ end_line version c
  point-inside i below = omega (arith, sizes-before point_size c.points no_point i (length c.points) below (omega arith))

  pub next-member : (i j : ℕ) → i < j → j ≤ length c.members → member_line version c i + member_size version c.cycles (member_at c.members i) ≤ member_line version c j
  next-member i j less below = omega (arith, sizes-before (member_size version c.cycles) c.members no_member i j less below)

  pub member-more : (i : ℕ) → i < length c.members → member_line version c (i + 1) ≡ member_line version c i + member_size version c.cycles (member_at c.members i)
  member-more i below = let e : i + 1 ≡ suc i = omega arith in rw e (omega (arith, sizes-more (member_size version c.cycles) c.members no_member i below))

  pub next-point : (i j : ℕ) → i < j → j ≤ length c.points → point_line version c i + point_size (point_at c.points i) ≤ point_line version c j
  next-point i j less below = omega (arith, sizes-before point_size c.points no_point i j less below)

  pub point-more : (i : ℕ) → i < length c.points → point_line version c (i + 1) ≡ point_line version c i + point_size (point_at c.points i)
  point-more i below = let e : i + 1 ≡ suc i = omega arith in rw e (omega (arith, sizes-more point_size c.points no_point i below))

-- ---- members

module _ (net : Net) (version : ℕ) (c : StorageCertificate) where
  pub first-member : (i place : ℕ) (reason : Reason) → i < length c.members → ((j : ℕ) → j < i → IsMemberRight net c j) → IsFirst (IsMemberFault net version c i) place reason → IsFirst (IsFaultOfMembers net version c) (member_line version c i + place) reason
  first-member i place reason below right first = record { is = at_member i place below first.is refl; least = least }
    where
      inside : place < member_size version c.cycles (member_at c.members i)
      inside = member-place net version c i place reason first.is

      least : (l : ℕ) (r : Reason) → IsFaultOfMembers net version c l r → (member_line version c i + place < l) ⊎ ((member_line version c i + place ≡ l) × (rank_of reason ≤ rank_of r))
      least l r (at_member j at low fault il) = ⊎_elim
          (λ (less : j < i). absurd (no-member net version c j (right j less) at r fault))
          (λ (no_less : i ≤ j). ⊎_elim
          (λ (more : i < j). inl (omega (arith, il, inside, next-member version c i j more (omega arith))))
          (λ (no_more : j ≤ i).
          let same : j ≡ i = omega (arith, no_less, no_more) in
          let fault_here : IsMemberFault net version c i at r = subst (λ (n : ℕ). IsMemberFault net version c n at r) same fault in
          let line : l ≡ member_line version c i + at = il ∙ ap (λ (n : ℕ). member_line version c n + at) same in
          ⊎_elim
          (λ (after : place < at). inl (omega (arith, line, after)))
          (λ (here : (place ≡ at) × (rank_of reason ≤ rank_of r)). inr (omega (arith, line, here.0), here.1))
          (first.least at r fault_here))
          (cases_lt i j))
          (cases_lt j i)

  pub first-point : (i place : ℕ) (reason : Reason) → i < length c.points → ((j : ℕ) → j < i → IsPointRight net c j) → IsFirst (IsPointFault net c i) place reason → IsFirst (IsFaultOfPoints net version c) (point_line version c i + place) reason
  first-point i place reason below right first = record { is = at_point i place below first.is refl; least = least }
    where
      inside : place < point_size (point_at c.points i)
      inside = point-place net c i place reason first.is

      least : (l : ℕ) (r : Reason) → IsFaultOfPoints net version c l r → (point_line version c i + place < l) ⊎ ((point_line version c i + place ≡ l) × (rank_of reason ≤ rank_of r))
      least l r (at_point j at low fault il) = ⊎_elim
          (λ (less : j < i). absurd (no-point net c j (right j less) at r fault))
          (λ (no_less : i ≤ j). ⊎_elim
          (λ (more : i < j). inl (omega (arith, il, inside, next-point version c i j more (omega arith))))
          (λ (no_more : j ≤ i).
          let same : j ≡ i = omega (arith, no_less, no_more) in
          let fault_here : IsPointFault net c i at r = subst (λ (n : ℕ). IsPointFault net c n at r) same fault in
          let line : l ≡ point_line version c i + at = il ∙ ap (λ (n : ℕ). point_line version c n + at) same in
          ⊎_elim
          (λ (after : place < at). inl (omega (arith, line, after)))
          (λ (here : (place ≡ at) × (rank_of reason ≤ rank_of r)). inr (omega (arith, line, here.0), here.1))
          (first.least at r fault_here))
          (cases_lt i j))
          (cases_lt j i)
