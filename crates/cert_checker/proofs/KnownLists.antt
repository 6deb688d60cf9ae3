-- Members by their distributions.
use Rattle.std.proofs.Common.{◌≡◌, ℕ, ◌+◌, ◌≤◌, ◌<◌, ◌↔◌, Bool, true, false, Option, None, Some, List, [], ◌∷◌, length, Bor, Ordering, ⊎_elim, sym, refl, subst, ap, ap₂, ◌∙◌, true≢false, eq-eqb, arith}
use Rattle.std.specs.Prelude.{cond, nat_eq}
use Rattle.std.specs.Bool.{Decides}
use Rattle.std.specs.BTreeMap.{BTreeMap, get, get_by, is_at}
use Rattle.std.specs.Cmp.Lexicographic.{pointwise, slice_cmp, lists_total, options_total}
use Rattle.std.specs.Option.{option_cmp, option_eq}
use Rattle.std.specs.declared.cmp.Ordering.TheVariants.{Less, Equal, Greater}
use Rattle.std.specs.Ordering.{nat_cmp, is_eq, ordering_then}
use Rattle.std.proofs.lemmas.Bool.{cases_lt, eqb-true}
use Rattle.std.proofs.lemmas.Cmp.{nat_cmp_total, tied_itself}
use Rattle.std.proofs.lemmas.Map.Lookups.{exact_unsigned}
use Rattle.std.proofs.lemmas.Slice.Eq.{slice_eq-Decides}
use Rattle.cert_text.specs.declared.certificates.MemberLine.{MemberLine}
use Rattle.cert_checker.specs.declared.known.Known.{Known}
use Rattle.cert_checker.specs.ShownChannels.{capacities_at}
use Rattle.cert_checker.specs.inside.KnownSets.{AreMembers, IsNumber, IsOfFirst, number_of}

abbrev Caps : Type 0
Caps = List (Option ℕ)

-- ---- the order of distributions

entry-equal : (a b : Option ℕ) → option_cmp nat_cmp a b ≡ Equal → a ≡ b
entry-equal None None h = refl
entry-equal None (Some b) h = absurd (cc)
entry-equal (Some a) None h = absurd (cc)
entry-equal (Some a) (Some b) h = ap Some (exact_unsigned a b h)

pub caps-equal : (xs ys : Caps) → slice_cmp (option_cmp nat_cmp) xs ys ≡ Equal → xs ≡ ys
caps-equal [] [] h = refl
caps-equal [] (y ∷ ys) h = absurd (cc)
caps-equal (x ∷ xs) [] h = absurd (cc)
caps-equal (x ∷ xs) (y ∷ ys) h = both (λ e. caps-equal xs ys e) (option_cmp nat_cmp x y) refl h
  where
    both : (slice_cmp (option_cmp nat_cmp) xs ys ≡ Equal → xs ≡ ys) → (o : Ordering) → option_cmp nat_cmp x y ≡ o → ordering_then o (slice_cmp (option_cmp nat_cmp) xs ys) ≡ Equal → x ∷ xs ≡ y ∷ ys
    both rest Less e h = absurd (cc)
    both rest Equal e h = ap₂ (λ (a : Option ℕ) (others : Caps). a ∷ others) (entry-equal x y e) (rest h)
    both rest Greater e h = absurd (cc)

entry-decides : (a b : Option ℕ) → Decides (option_eq nat_eq a b) (a ≡ b)
entry-decides None None = (λ h. refl, λ e. refl)
entry-decides None (Some b) = (λ h. absurd (true≢false (sym h)), λ e. absurd (cc))
entry-decides (Some a) None = (λ h. absurd (true≢false (sym h)), λ e. absurd (cc))
entry-decides (Some a) (Some b) = (λ h. ap Some (eqb-true a b h), λ e. eq-eqb a b (let same : a ≡ b = cc in same))

pub list-decides : (xs ys : Caps) → Decides (pointwise (option_eq nat_eq) xs ys) (xs ≡ ys)
list-decides xs ys = slice_eq-Decides entry-decides xs ys (pointwise (option_eq nat_eq) xs ys) refl

caps-same : (xs ys : Caps) → xs ≡ ys → slice_cmp (option_cmp nat_cmp) xs ys ≡ Equal
caps-same xs ys e = subst (λ (zs : Caps). slice_cmp (option_cmp nat_cmp) xs zs ≡ Equal) e (tied_itself (lists_total (options_total nat_cmp_total)) xs)

pub is-equal : (o : Ordering) → is_eq o ≡ true → o ≡ Equal
is-equal Less e = absurd (true≢false (sym e))
is-equal Equal e = refl
is-equal Greater e = absurd (true≢false (sym e))

-- ---- the map of the numbers

abbrev by_caps : Bor Caps → Bor Caps → Ordering
by_caps a b = slice_cmp (option_cmp nat_cmp) a.now b.now

-- a look-up by a list
abbrev looked : BTreeMap (Bor Caps) ℕ → Caps → Option ℕ
looked numbers ds = get_by (λ (k : Bor Caps). slice_cmp (option_cmp nat_cmp) ds k.now) numbers

-- where none is kept
pub numbers-none : (members : List MemberLine) (numbers : BTreeMap (Bor Caps) ℕ) → numbers.entries ≡ [] → (ds : Caps) → IsNumber members 0 ds (looked numbers ds)
numbers-none members numbers empty ds = rw empty (λ at. omega (arith, at.1))

-- that of one more member
pub numbers-more : (members : List MemberLine) (n : ℕ) (old new : BTreeMap (Bor Caps) ℕ) (key : Bor Caps) → key.now ≡ capacities_at members n
    → ((q : Bor Caps) → get by_caps new q ≡ cond (is_at (by_caps key) q) (Some n) (get by_caps old q))
    → ((ds : Caps) → IsNumber members n ds (looked old ds)) → (ds : Caps) → IsNumber members (n + 1) ds (looked new ds)
numbers-more members n old new key here updates before ds = split (is_at (by_caps key) q) refl
  where
    q : Bor Caps
    q = record { ref_ptr = (0, 0); now = ds }

    later : is_at (by_caps key) q ≡ false → (o : Option ℕ) → IsNumber members n ds o → IsNumber members (n + 1) ds o
    later apart None none = λ at. ⊎_elim
        (λ (less : at.0 < n). none (at.0, less, at.2))
        (λ (past : n ≤ at.0).
        let same : at.0 ≡ n = omega (arith, at.1, past) in
        let is : key.now ≡ ds = here ∙ (ap (capacities_at members) (sym same) ∙ at.2) in
        true≢false (sym (ap is_eq (caps-same key.now ds is)) ∙ apart))
        (cases_lt at.0 n)
    later apart (Some i) (below, is) = (omega (arith, below), is)

    split : (b : Bool) → is_at (by_caps key) q ≡ b → IsNumber members (n + 1) ds (looked new ds)
    split true e =
        let found : get by_caps new q ≡ Some n = updates q ∙ ap (λ (b : Bool). cond b (Some n) (get by_caps old q)) e in
        subst (IsNumber members (n + 1) ds) (sym found) (omega arith, sym here ∙ caps-equal key.now ds (is-equal (by_caps key q) e))
    split false e =
        let found : get by_caps new q ≡ get by_caps old q = updates q ∙ ap (λ (b : Bool). cond b (Some n) (get by_caps old q)) e in
        subst (IsNumber members (n + 1) ds) (sym found) (later e (get by_caps old q) (before ds))

-- a member's distribution has a number
pub has-number : (members : List MemberLine) (known : Known) (ds : Caps) → AreMembers members known → IsOfFirst members (length members) ds → (i : ℕ) × (number_of known ds ≡ Some i)
has-number members known ds are of_member = at (number_of known ds) refl (are ds)
  where
    at : (o : Option ℕ) → number_of known ds ≡ o → IsNumber members (length members) ds o → (i : ℕ) × (number_of known ds ≡ Some i)
    at None e none = absurd (none of_member)
    at (Some i) e some = (i, e)

-- what has a number is a member
pub number-there : (members : List MemberLine) (known : Known) (ds : Caps) (i : ℕ) → AreMembers members known → number_of known ds ≡ Some i → (i < length members) × (capacities_at members i ≡ ds)
number-there members known ds i are is = subst (IsNumber members (length members) ds) is (are ds)

-- the number tells distributions apart
pub number-tells : (members : List MemberLine) (known : Known) (es ds : Caps) (i : ℕ) → AreMembers members known → number_of known ds ≡ Some i → (number_of known es ≡ Some i) ↔ (es ≡ ds)
number-tells members known es ds i are is = (
  λ other. sym (number-there members known es i are other).1 ∙ (number-there members known ds i are is).1,
  λ same. ap (number_of known) same ∙ is,
)
