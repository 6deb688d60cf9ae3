-- The lists of channels by actor, and a search from one place over such a list.
use Rattle.std.proofs.Common.{◌≡◌, ◌≢◌, ℕ, ◌+◌, ◌<◌, ◌≤◌, ◌⊎◌, Bool, true, false, Some, List, [], ◌∷◌, ◌++◌, length, replicate, sym, refl, ap, subst, ◌∙◌, inl, inr, arith}
use Rattle.std.specs.Prelude.{slice_get}
use Rattle.std.proofs.lemmas.Bool.{cases_eq, cases_lt}
use Rattle.std.proofs.lemmas.List.{get_or-set_same, get_or-set_other, length-set, length-replicate}
use Rattle.std.proofs.lemmas.Option.{same_Some, none-some, slice_get_within}
use Rattle.sd_base.proofs.ElementsKeepPlaces.{get-pushed, get-left, get-last, replicate-same}
use Rattle.balance.specs.declared.walk.Link.{Link}
use Rattle.balance.specs.declared.search.Found.{Found}
use Rattle.balance.specs.inside.Lists.{list_at, appended}
use Rattle.balance.specs.Walks.{step_from}
use Rattle.balance.specs.inside.Search.{HasEnds, IsJoined, IsIncidence, IsLooked, IsSearching}
use Rattle.balance.proofs.SearchFindsWays.{looked_more, looked_past, place_more}

-- ---- lists with one number more
pub appended_here : (rows : List (List ℕ)) (a k : ℕ) → a < length rows → list_at (appended rows a k) a ≡ list_at rows a ++ k ∷ []
appended_here rows a k lt = get_or-set_same rows a (list_at rows a ++ k ∷ []) [] lt

pub appended_other : (rows : List (List ℕ)) (a k b : ℕ) → b ≢ a → list_at (appended rows a k) b ≡ list_at rows b
appended_other rows a k b ne = get_or-set_other rows a b (list_at rows a ++ k ∷ []) [] ne

pub length-appended : (rows : List (List ℕ)) (a k : ℕ) → length (appended rows a k) ≡ length rows
length-appended rows a k = length-set rows a (list_at rows a ++ k ∷ [])

-- ---- one channel more
-- the list of an actor after a channel was put on the lists of its ends
abbrev RowOf : List (List ℕ) → List (List ℕ) → ℕ → Link → ℕ → Type 0
RowOf rows rows' k l b =
    (((b ≡ l.source) ⊎ (b ≡ l.target)) × (list_at rows' b ≡ list_at rows b ++ k ∷ [])) ⊎ ((b ≢ l.source) × (b ≢ l.target) × (list_at rows' b ≡ list_at rows b))

row_of : (rows : List (List ℕ)) (k : ℕ) (l : Link) (b : ℕ) → l.source < length rows → l.target < length rows → l.source ≢ l.target
    → RowOf rows (appended (appended rows l.source k) l.target k) k l b
row_of rows k l b low high apart =
    let one : List (List ℕ) = appended rows l.source k in
    let high' : l.target < length one = (let e = length-appended rows l.source k in omega arith) in
    elim (cases_eq b l.target) [
      | inl e ↦ inl (
        inr e,
        ap (λ n. list_at (appended one l.target k) n) e ∙ appended_here one l.target k high'
            ∙ ap (λ (t : List ℕ). t ++ k ∷ []) (appended_other rows l.source k l.target (λ h. apart (sym h))) ∙ ap (λ n. list_at rows n ++ k ∷ []) (sym e),
      )
      | inr ne ↦ elim (cases_eq b l.source) [
        | inl e ↦ inl (
          inl e,
          appended_other one l.target k b ne ∙ ap (λ n. list_at one n) e ∙ appended_here rows l.source k low ∙ ap (λ n. list_at rows n ++ k ∷ []) (sym e),
        )
        | inr ne' ↦ inr (ne', ne, appended_other one l.target k b ne ∙ appended_other rows l.source k b ne')
      ]
    ]

row_cases : (rows rows' : List (List ℕ)) (n : ℕ) (l : Link) (b p k : ℕ) → RowOf rows rows' n l b → slice_get (list_at rows' b) p ≡ Some k
    → (slice_get (list_at rows b) p ≡ Some k) ⊎ ((p ≡ length (list_at rows b)) × (k ≡ n))
row_cases rows rows' n l b p k row is = elim row [
  | inl more ↦ get-pushed (list_at rows b) n k p (subst (λ (t : List ℕ). slice_get t p ≡ Some k) more.1 is)
  | inr same ↦ inl (subst (λ (t : List ℕ). slice_get t p ≡ Some k) same.2 is)
]

row_old : (rows rows' : List (List ℕ)) (n : ℕ) (l : Link) (b p k : ℕ) → RowOf rows rows' n l b → slice_get (list_at rows b) p ≡ Some k → slice_get (list_at rows' b) p ≡ Some k
row_old rows rows' n l b p k row is = elim row [
  | inl more ↦ subst (λ (t : List ℕ). slice_get t p ≡ Some k) (sym more.1) (get-left (list_at rows b) (n ∷ []) p k is)
  | inr same ↦ subst (λ (t : List ℕ). slice_get t p ≡ Some k) (sym same.2) is
]

neither : (l : Link) (f : Bool) → step_from l f ≢ l.source → step_from l f ≢ l.target → ⊥
neither l true a b = a refl
neither l false a b = b refl

row_new : (rows rows' : List (List ℕ)) (n : ℕ) (l : Link) (f : Bool) → RowOf rows rows' n l (step_from l f)
    → slice_get (list_at rows' (step_from l f)) (length (list_at rows (step_from l f))) ≡ Some n
row_new rows rows' n l f row = elim row [
  | inl more ↦
      let b : ℕ = step_from l f in
      subst (λ (t : List ℕ). slice_get t (length (list_at rows b)) ≡ Some n) (sym more.1) (get-last (list_at rows b) n)
  | inr same ↦ absurd (neither l f same.0 same.1)
]

pub incidence_none : (ls : List Link) (actors : ℕ) → IsIncidence ls 0 actors (replicate actors [])
incidence_none ls actors = record {
  size = length-replicate actors [];
  below = λ a p k is. absurd (none-some k (subst (λ (t : List ℕ). slice_get t p ≡ Some k) (replicate-same {A = List ℕ} actors a []) is));
  rising = λ a p q k k' lt is is'. absurd (none-some k (subst (λ (t : List ℕ). slice_get t p ≡ Some k) (replicate-same {A = List ℕ} actors a []) is));
  whole = λ k l f lt is apart. absurd (let none : ⊥ = omega arith in none);
}

looped : (ls : List Link) (n actors : ℕ) (rows : List (List ℕ)) (l : Link) → slice_get ls n ≡ Some l → l.source ≡ l.target → IsIncidence ls n actors rows
    → IsIncidence ls (n + 1) actors rows
looped ls n actors rows l here loop f = record {
  size = f.size;
  below = λ a p k is. (let lt = f.below a p k is in omega arith);
  rising = f.rising;
  whole = λ k m g lt is apart. elim (cases_eq k n) [
    | inl e ↦ (let same : m ≡ l = same_Some m l (sym is ∙ ap (slice_get ls) e ∙ here) in
        absurd (apart (subst (λ (z : Link). z.source ≡ z.target) (sym same) loop)))
    | inr ne ↦ f.whole k m g (omega arith) is apart
  ];
}

joined : (ls : List Link) (n actors : ℕ) (rows : List (List ℕ)) (l : Link) → slice_get ls n ≡ Some l → l.source < length rows → l.target < length rows → l.source ≢ l.target
    → IsIncidence ls n actors rows → IsIncidence ls (n + 1) actors (appended (appended rows l.source n) l.target n)
joined ls n actors rows l here low high apart f =
    let rows' : List (List ℕ) = appended (appended rows l.source n) l.target n in
    let row : (b : ℕ) → RowOf rows rows' n l b = λ b. row_of rows n l b low high apart in
    record {
      size = length-appended (appended rows l.source n) l.target n ∙ length-appended rows l.source n ∙ f.size;
      below = λ a p k is. elim (row_cases rows rows' n l a p k (row a) is) [
        | inl old ↦ (let lt = f.below a p k old in omega arith)
        | inr new ↦ (let e = new.1 in omega arith)
      ];
      rising = λ a p q k k' lt is is'. elim (row_cases rows rows' n l a q k' (row a) is') [
        | inl old' ↦ elim (row_cases rows rows' n l a p k (row a) is) [
          | inl old ↦ f.rising a p q k k' lt old old'
          | inr new ↦ (let within = slice_get_within (list_at rows a) q k' old' in let e = new.0 in absurd (omega arith))
        ]
        | inr new' ↦ elim (row_cases rows rows' n l a p k (row a) is) [
          | inl old ↦ (let below = f.below a p k old in let e = new'.1 in omega arith)
          | inr new ↦ (let e = new.0 in let e' = new'.0 in absurd (omega arith))
        ]
      ];
      whole = λ k m g lt is off. elim (cases_eq k n) [
        | inl e ↦
            let same : l ≡ m = same_Some l m (sym here ∙ ap (slice_get ls) (sym e) ∙ is) in
            let at : slice_get (list_at rows' (step_from l g)) (length (list_at rows (step_from l g))) ≡ Some k =
            row_new rows rows' n l g (row (step_from l g)) ∙ ap (λ (x : ℕ). Some x) (sym e) in
            (length (list_at rows (step_from l g)), subst (λ (z : Link). slice_get (list_at rows' (step_from z g)) (length (list_at rows (step_from l g))) ≡ Some k) same at)
        | inr ne ↦
            let (p, at) = f.whole k m g (omega arith) is off in
            (p, row_old rows rows' n l (step_from m g) p k (row (step_from m g)) at)
      ];
    }

pub incidence_more : (ls : List Link) (n actors : ℕ) (rows rows' : List (List ℕ)) (l : Link) → slice_get ls n ≡ Some l → l.source < length rows → l.target < length rows
    → IsJoined rows rows' n l → IsIncidence ls n actors rows → IsIncidence ls (n + 1) actors rows'
incidence_more ls n actors rows rows' l here low high put f = elim (cases_eq l.source l.target) [
  | inl loop ↦ subst (λ (t : List (List ℕ)). IsIncidence ls (n + 1) actors t) (sym (put.loop loop)) (looped ls n actors rows l here loop f)
  | inr apart ↦ subst (λ (t : List (List ℕ)). IsIncidence ls (n + 1) actors t) (sym (put.joins apart)) (joined ls n actors rows l here low high apart f)
]

-- ---- a search that has looked from place i at the first p channels of the actor's list
pub record IsVisit (ls : List Link) (actors : ℕ) (ks : List ℕ) (found : List Found) (seen : List Bool) (i p : ℕ) : Type 0 where
  pub c : ℕ
  pub search : IsSearching ls actors found seen i c
  pub within : c ≤ length ls
  pub before : (q k : ℕ) → q < p → slice_get ks q ≡ Some k → k < c
  pub after : (q k : ℕ) → p ≤ q → slice_get ks q ≡ Some k → c ≤ k

pub visit_start : (ls : List Link) (actors : ℕ) (ks : List ℕ) (found : List Found) (seen : List Bool) (i : ℕ) → IsSearching ls actors found seen i 0 → IsVisit ls actors ks found seen i 0
visit_start ls actors ks found seen i f = record {
  c = 0;
  search = f;
  within = omega arith;
  before = λ q k lt is. absurd (let none : ⊥ = omega arith in none);
  after = λ q k le is. omega arith;
}

pub visit_more : (ls : List Link) (actors : ℕ) (rows : List (List ℕ)) (found found' : List Found) (seen seen' : List Bool) (i p k : ℕ) (x : Found) (l : Link)
    → HasEnds actors ls → IsIncidence ls (length ls) actors rows → slice_get found i ≡ Some x → slice_get (list_at rows x.actor) p ≡ Some k → slice_get ls k ≡ Some l
    → IsLooked found seen found' seen' i k l → IsVisit ls actors (list_at rows x.actor) found seen i p → IsVisit ls actors (list_at rows x.actor) found' seen' i (p + 1)
visit_more ls actors rows found found' seen seen' i p k x l ends incidence at here over look f =
    let none : (k' : ℕ) (m : Link) (g : Bool) → f.c ≤ k' → k' < k → slice_get ls k' ≡ Some m → x.actor ≡ step_from m g → (m.source ≡ m.target → ⊥) → ⊥ =
    λ k' m g low lt is end apart.
    let (q, there) = incidence.whole k' m g (slice_get_within ls k' m is) is apart in
    let there' : slice_get (list_at rows x.actor) q ≡ Some k' = subst (λ n. slice_get (list_at rows n) q ≡ Some k') (sym end) there in
    elim (cases_lt q p) [
      | inl early ↦ (let below = f.before q k' early there' in omega arith)
      | inr late ↦ elim (cases_eq q p) [
        | inl e ↦ (let same : k' ≡ k = same_Some k' k (sym there' ∙ ap (slice_get (list_at rows x.actor)) e ∙ here) in omega arith)
        | inr ne ↦ (let up = incidence.rising x.actor p q k k' (omega arith) here there' in omega arith)
      ]
    ] in
    let up : f.c ≤ k = f.after p k (omega arith) here in
    let skip : IsSearching ls actors found seen i k = looked_past ls actors found seen i f.c k x at up none f.search in
    record {
      c = k + 1;
      search = looked_more ls actors found found' seen seen' i k l ends over look skip;
      within = (let lt = slice_get_within ls k l over in omega arith);
      before = λ q k' lt is. elim (cases_eq q p) [
        | inl e ↦ (let same : k' ≡ k = same_Some k' k (sym is ∙ ap (slice_get (list_at rows x.actor)) e ∙ here) in omega arith)
        | inr ne ↦ (let below = f.before q k' (omega arith) is in omega arith)
      ];
      after = λ q k' le is. (let lt = incidence.rising x.actor p q k k' (omega arith) here is in omega arith);
    }

pub visit_end : (ls : List Link) (actors : ℕ) (rows : List (List ℕ)) (found : List Found) (seen : List Bool) (i p : ℕ) (x : Found)
    → IsIncidence ls (length ls) actors rows → slice_get found i ≡ Some x → length (list_at rows x.actor) ≤ p
    → IsVisit ls actors (list_at rows x.actor) found seen i p → IsSearching ls actors found seen (i + 1) 0
visit_end ls actors rows found seen i p x incidence at all f =
    let none : (k' : ℕ) (m : Link) (g : Bool) → f.c ≤ k' → k' < length ls → slice_get ls k' ≡ Some m → x.actor ≡ step_from m g → (m.source ≡ m.target → ⊥) → ⊥ =
    λ k' m g low lt is end apart.
    let (q, there) = incidence.whole k' m g lt is apart in
    let there' : slice_get (list_at rows x.actor) q ≡ Some k' = subst (λ n. slice_get (list_at rows n) q ≡ Some k') (sym end) there in
    let early = slice_get_within (list_at rows x.actor) q k' there' in
    let below = f.before q k' (omega arith) there' in
    omega arith in
    place_more ls actors found seen i (slice_get_within found i x at) (looked_past ls actors found seen i f.c (length ls) x at f.within none f.search)
