-- Members name cycles in order.
use Rattle.std.proofs.Common.{◌≡◌, ℕ, suc, ◌+◌, ◌<◌, ◌≤◌, Bool, true, false, List, [], ◌∷◌, ◌++◌, Option, Some, None, refl, ap, ◌∙◌, arith}
use Rattle.std.specs.Prelude.{nat_lt, ◌==◌, if◌then◌else◌}
use Rattle.std.proofs.lemmas.Bool.{ltb-true, ltb-false, eqb-true, eqb-false}
use Rattle.std.proofs.lemmas.List.Elements.{All-cons}
use Rattle.cert_text.specs.declared.certificates.MemberLine.{MemberLine}
use Rattle.cert_text.specs.declared.certificates.MemberShown.{MemberShown}
use Rattle.cert_text.specs.declared.certificates.MemberShown.TheVariants.{Cycle, Blocked}
use Rattle.cert_text.specs.Orderly.{used_with, used_by, NamesOneOf, NameOnes}

-- after a member, the cycles that are named are as many at least, and the member's is one of them
with-old : (used more cycle : ℕ) (b : Bool) → nat_lt cycle used ≡ b → (if b then Some used else if cycle == used then Some (suc used) else None) ≡ Some more
    → (used ≤ more) × (cycle < more)
with-old used more cycle true lt e = let same : used ≡ more = grind (arith, e) in let less : cycle < used = ltb-true cycle used lt in (omega arith, omega arith)
with-old used more cycle false lt e = grind (arith, e)

used-more : (used more : ℕ) (s : MemberShown) → used_with used s ≡ Some more → (used ≤ more) × NamesOneOf more s
used-more used more (Cycle rate cycle) e = with-old used more cycle (nat_lt cycle used) refl e
used-more used more (Blocked counts) e = let same : used ≡ more = grind (arith, e) in (omega arith, tt)

names-more : (n m : ℕ) (s : MemberShown) → n ≤ m → NamesOneOf n s → NamesOneOf m s
names-more n m (Cycle rate cycle) le named = omega arith
names-more n m (Blocked counts) le named = tt

-- the members name no cycle past those that are named in the end
pub names : (ms : List MemberLine) (used n : ℕ) → used_by used ms ≡ Some n → (used ≤ n) × NameOnes n ms
unfolding used_by
names [] used n e = let same : used ≡ n = grind (arith, e) in (omega arith, λ k d within. absurd (omega arith))
names (m ∷ ms) used n e = after (used_with used m.shown) refl e (λ more. names ms more n)
  where
    after : (o : Option ℕ) → used_with used m.shown ≡ o → elim o [ Some more ↦ used_by more ms | None ↦ None ] ≡ Some n
        → ((more : ℕ) → used_by more ms ≡ Some n → (more ≤ n) × NameOnes n ms) → (used ≤ n) × NameOnes n (m ∷ ms)
    after (Some more) with e others =
        let rest = others more e in
        let here = used-more used more m.shown with in
        (omega arith, All-cons (λ (x : MemberLine). NamesOneOf n x.shown) m ms (names-more more n m.shown rest.0 here.1) rest.1)
    after None with e others = absurd (cc e)

-- the cycle of a member is one of those named or the next one
pub used_next : (used cycle : ℕ) (rate : ℕ × ℕ) → cycle ≤ used → used_with used (Cycle rate cycle) ≡ Some (if cycle == used then used + 1 else used)
used_next used cycle rate le = split (nat_lt cycle used) refl (cycle == used) refl
  where
    split : (less : Bool) → nat_lt cycle used ≡ less → (same : Bool) → (cycle == used) ≡ same → (if less then Some used else if same then Some (suc used) else None) ≡ Some (if same then used + 1 else used)
    split true l true s = let lt = ltb-true cycle used l in let e = eqb-true cycle used s in absurd (omega (arith, lt, e))
    split true l false s = refl
    split false l true s = ap Some (omega arith)
    split false l false s = let ge = ltb-false cycle used l in absurd (eqb-false cycle used s (omega (arith, ge, le)))

-- and so on
pub used-end : (xs : List MemberLine) (m : MemberLine) (u now next : ℕ) → used_by u xs ≡ Some now → used_with now m.shown ≡ Some next → used_by u (xs ++ m ∷ []) ≡ Some next
unfolding used_by
used-end [] m u now next is named = let same : u ≡ now = grind (arith, is) in one (used_with u m.shown) (ap (λ (k : ℕ). used_with k m.shown) same ∙ named)
  where
    one : (o : Option ℕ) → o ≡ Some next → elim o [ Some more ↦ used_by more [] | None ↦ None ] ≡ Some next
    one (Some v) e = e
    one None e = e
used-end (x ∷ xs) m u now next is named = step (used_with u x.shown) is (λ v e. used-end xs m v now next e named)
  where
    step : (o : Option ℕ) → elim o [ Some more ↦ used_by more xs | None ↦ None ] ≡ Some now → ((v : ℕ) → used_by v xs ≡ Some now → used_by v (xs ++ m ∷ []) ≡ Some next)
        → elim o [ Some more ↦ used_by more (xs ++ m ∷ []) | None ↦ None ] ≡ Some next
    step (Some more) e others = others more e
    step None e others = absurd (cc e)

pub used-pushed : (ms all : List MemberLine) (used now next : ℕ) (m : MemberLine) → used_by used ms ≡ Some now → used_with now m.shown ≡ Some next → all ≡ ms ++ m ∷ [] → used_by used all ≡ Some next
used-pushed ms all used now next m before named pushed = ap (λ (l : List MemberLine). used_by used l) pushed ∙ used-end ms m used now next before named

pub none-used : (used : ℕ) (ms : List MemberLine) → ms ≡ [] → used_by used ms ≡ Some used
unfolding used_by
none-used used ms none = rw none refl
