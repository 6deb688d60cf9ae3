-- Sets of channels by the cycles that show them.
use Rattle.std.proofs.Common.{◌≡◌, ℕ, ◌+◌, ◌≤◌, ◌<◌, ◌↔◌, ◌⊎◌, Bool, true, false, List, [], length, Ordering, inl, inr, ⊎_elim, sym, refl, subst, ap, ap₂, ◌∙◌, true≢false, arith}
use Rattle.std.specs.Prelude.{IsTrue, cond, slice_index_or}
use Rattle.std.specs.BTreeMap.{is_at}
use Rattle.std.specs.BTreeSet.{BTreeSet, contains}
use Rattle.std.specs.declared.cmp.Ordering.TheVariants.{Less, Equal, Greater}
use Rattle.std.specs.Ordering.{nat_cmp, is_eq, ordering_then}
use Rattle.std.proofs.lemmas.Bool.{cases_lt}
use Rattle.std.proofs.lemmas.Cmp.{nat_cmp_total, tied_itself}
use Rattle.std.proofs.lemmas.List.{get_or_past, get_or_default}
use Rattle.std.proofs.lemmas.Map.Lookups.{exact_unsigned}
use Rattle.sd_base.specs.declared.role.Role.{Role}
use Rattle.sd_base.specs.declared.role.Role.TheVariants.{Space}
use Rattle.cert_text.specs.declared.certificates.LinkCycle.{LinkCycle}
use Rattle.cert_text.specs.declared.certificates.LinkStep.{LinkStep}
use Rattle.cert_text.specs.MemberLines.{cycle_at, no_cycle}
use Rattle.cert_checker.specs.ShownChannels.{no_link}
use Rattle.cert_checker.specs.inside.ShownAt.{HasSpaceLink}
use Rattle.cert_checker.specs.inside.Spaces.{pair_cmp}
use Rattle.cert_checker.proofs.KnownLists.{is-equal}

-- ---- the order of pairs

pair-equal : (x y : ℕ × ℕ) → pair_cmp x y ≡ Equal → (x.0 ≡ y.0) × (x.1 ≡ y.1)
pair-equal x y h = both (nat_cmp x.0 y.0) refl h
  where
    both : (o : Ordering) → nat_cmp x.0 y.0 ≡ o → ordering_then o (nat_cmp x.1 y.1) ≡ Equal → (x.0 ≡ y.0) × (x.1 ≡ y.1)
    both Less e h = absurd (cc)
    both Equal e h = (exact_unsigned x.0 y.0 e, exact_unsigned x.1 y.1 h)
    both Greater e h = absurd (cc)

pair-same : (n d k c : ℕ) → n ≡ k → d ≡ c → pair_cmp (n, d) (k, c) ≡ Equal
pair-same n d k c e f =
    let one : nat_cmp n k ≡ Equal = subst (λ (x : ℕ). nat_cmp n x ≡ Equal) e (tied_itself nat_cmp_total n) in
    let two : nat_cmp d c ≡ Equal = subst (λ (x : ℕ). nat_cmp d x ≡ Equal) f (tied_itself nat_cmp_total d) in
    ap₂ ordering_then one two

-- ---- one more pair

-- the pair (n, d) was put in
pub space-added : (n d k c : ℕ) (old new : BTreeSet (ℕ × ℕ)) → ((q : ℕ × ℕ) → contains pair_cmp new q ≡ cond (is_at (pair_cmp (n, d)) q) true (contains pair_cmp old q))
    → (r : Role) → r ≡ Space d → IsTrue (contains pair_cmp new (k, c)) ↔ (IsTrue (contains pair_cmp old (k, c)) ⊎ ((n ≡ k) × (r ≡ Space c)))
space-added n d k c old new updates r is = split (is_at (pair_cmp (n, d)) (k, c)) refl
  where
    split : (b : Bool) → is_at (pair_cmp (n, d)) (k, c) ≡ b → IsTrue (contains pair_cmp new (k, c)) ↔ (IsTrue (contains pair_cmp old (k, c)) ⊎ ((n ≡ k) × (r ≡ Space c)))
    split true e =
        let same = pair-equal (n, d) (k, c) (is-equal (pair_cmp (n, d) (k, c)) e) in
        let has : contains pair_cmp new (k, c) ≡ true = updates (k, c) ∙ ap (λ (b : Bool). cond b true (contains pair_cmp old (k, c))) e in
        (λ h. inr (same.0, is ∙ ap Space same.1), λ both. has)
    split false e =
        let stays : contains pair_cmp new (k, c) ≡ contains pair_cmp old (k, c) = updates (k, c) ∙ ap (λ (b : Bool). cond b true (contains pair_cmp old (k, c))) e in (
          λ h. inl (sym stays ∙ h),
          λ both. ⊎_elim
              (λ (h : IsTrue (contains pair_cmp old (k, c))). stays ∙ h)
              (λ (h : (n ≡ k) × (r ≡ Space c)).
              let channel : d ≡ c = let f : Space d ≡ Space c = sym is ∙ h.1 in cc in
              absurd (true≢false (sym (ap is_eq (pair-same n d k c h.0 channel)) ∙ e)))
              both,
        )

-- where none was put in
pub space-none : (k c : ℕ) (links : BTreeSet (ℕ × ℕ)) → links.keys ≡ [] → IsTrue (contains pair_cmp links (k, c)) → ⊥
space-none k c links empty has = true≢false (sym has ∙ rw empty refl)

-- ---- the links of a cycle

-- one of the first n steps is along the free space of channel c
abbrev pub HasSpaceBefore : List LinkStep → ℕ → ℕ → Type 0
HasSpaceBefore steps n c = (i : ℕ) × (i < n) × ((slice_index_or steps i no_link).link ≡ Space c)

-- one more step
pub link-more : (steps : List LinkStep) (n number k c : ℕ) (d : LinkStep) (first old new : Type 0) → n < length steps → old ↔ (first ⊎ ((number ≡ k) × HasSpaceBefore steps n c))
    → new ↔ (old ⊎ ((number ≡ k) × ((slice_index_or steps n d).link ≡ Space c))) → new ↔ (first ⊎ ((number ≡ k) × HasSpaceBefore steps (n + 1) c))
link-more steps n number k c d first old new within before given = (
  λ h. ⊎_elim
      (λ (o : old). ⊎_elim (λ (f : first). inl f) (λ (x : (number ≡ k) × HasSpaceBefore steps n c). inr (x.0, (x.1.0, omega (arith, x.1.1), x.1.2))) (before.0 o))
      (λ (x : (number ≡ k) × ((slice_index_or steps n no_link).link ≡ Space c)). inr (x.0, (n, omega arith, x.1)))
      (added.0 h),
  λ both. added.1 (⊎_elim
      (λ (f : first). inl (before.1 (inl f)))
      (λ (x : (number ≡ k) × HasSpaceBefore steps (n + 1) c). ⊎_elim
      (λ (less : x.1.0 < n). inl (before.1 (inr (x.0, (x.1.0, less, x.1.2)))))
      (λ (past : n ≤ x.1.0). let same : x.1.0 ≡ n = omega (arith, past, x.1.1) in inr (x.0, subst (λ (i : ℕ). (slice_index_or steps i no_link).link ≡ Space c) same x.1.2))
      (cases_lt x.1.0 n))
      both),
)
  where
    added : new ↔ (old ⊎ ((number ≡ k) × ((slice_index_or steps n no_link).link ≡ Space c)))
    added = subst (λ (l : LinkStep). new ↔ (old ⊎ ((number ≡ k) × (l.link ≡ Space c)))) (get_or_default steps n d no_link within) given

-- ---- the cycles

-- one more cycle
pub cycle-more : (cycles : List LinkCycle) (n k c : ℕ) (old new : Type 0) → old ↔ ((k < n) × HasSpaceLink (cycle_at cycles k).steps c)
    → new ↔ (old ⊎ ((n ≡ k) × HasSpaceLink (cycle_at cycles n).steps c)) → new ↔ ((k < n + 1) × HasSpaceLink (cycle_at cycles k).steps c)
cycle-more cycles n k c old new before added = (
  λ h. ⊎_elim
      (λ (o : old). let x = before.0 o in (omega (arith, x.0), x.1))
      (λ (x : (n ≡ k) × HasSpaceLink (cycle_at cycles n).steps c). (omega (arith, x.0), subst (λ (i : ℕ). HasSpaceLink (cycle_at cycles i).steps c) x.0 x.1))
      (added.0 h),
  λ x. added.1 (⊎_elim
      (λ (less : k < n). inl (before.1 (less, x.1)))
      (λ (past : n ≤ k). let same : k ≡ n = omega (arith, past, x.0) in inr (sym same, subst (λ (i : ℕ). HasSpaceLink (cycle_at cycles i).steps c) same x.1))
      (cases_lt k n)),
)

-- past the last cycle there is no step
pub linked-below : (cycles : List LinkCycle) (k c : ℕ) → HasSpaceLink (cycle_at cycles k).steps c → k < length cycles
linked-below cycles k c link = ⊎_elim
    (λ (less : k < length cycles). less)
    (λ (past : length cycles ≤ k). absurd (subst (λ (x : LinkCycle). HasSpaceLink x.steps c → ⊥) (sym (past-last cycles k past)) (λ x. omega (arith, x.1)) link))
    (cases_lt k (length cycles))
  where
    past-last : (cs : List LinkCycle) (k : ℕ) → length cs ≤ k → cycle_at cs k ≡ no_cycle
    past-last cs k past = get_or_past cs k no_cycle past
