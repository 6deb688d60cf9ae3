-- The breadth-first search: what it has found so far, one step of it, and what it has found at its end.
use Rattle.std.proofs.Common.{◌≡◌, ℕ, zero, suc, ◌+◌, ◌*◌, ◌<◌, ◌≤◌, ◌⊎◌, Bool, true, false, Some, None, List, [], ◌∷◌, ◌++◌, length, replicate, sym, refl, ap, subst, ◌∙◌, inl, inr, arith}
use Rattle.std.specs.Prelude.{slice_get, slice_set, slice_index_or}
use Rattle.std.proofs.lemmas.List.{get_or_past, get_or_read, get_or-set_same, get_or-set_other, length-set, length-replicate, length_push}
use Rattle.std.proofs.Math.Nat.{mul-le-mul_right}
use Rattle.std.proofs.lemmas.Bool.{cases_Bool, cases_lt, cases_eq, false≢true}
use Rattle.std.proofs.lemmas.Option.{same_Some, none-some, slice_get_within}
use Rattle.sd_base.proofs.ElementsKeepPlaces.{get-pushed, get-left, get-last, get-there, replicate-same}
use Rattle.balance.specs.declared.walk.WalkStep.{WalkStep}
use Rattle.balance.specs.declared.walk.Link.{Link}
use Rattle.balance.specs.declared.search.Found.{Found}
use Rattle.balance.specs.declared.search.Reach.{Reach}
use Rattle.balance.specs.Walks.{IsLinkWalk, IsWay, step_to, step_from}
use Rattle.balance.specs.inside.Search.{key_from, trues, mark_at, HasEnds, Entry, IsReachedEntry, AreEntries, IsSearch, IsSearching, IsLooked, IsTree, IsSearched}
use Rattle.balance.proofs.KeysOrderWalks.{key-append, walk_below, precedes_from_key}
use Rattle.balance.proofs.WalksJoinAndTurn.{walk-append, crossing_by}

-- no walk to an actor that isn't seen has a lower number than the next step has
next_is_least : (ls : List Link) (m : ℕ) (es : List Entry) (seen : ℕ → Bool) (i c : ℕ) (y : Entry) → IsSearch ls m es seen i c → 0 < m → c < m
    → slice_get es i ≡ Some y → seen 0 ≡ true → (u : ℕ) → seen u ≡ false → (ss : List WalkStep) → IsLinkWalk ls 0 ss u
    → key_from m 0 y.way * m + c + 1 ≤ key_from m 0 ss
next_is_least ls m es seen i c y f some low at root u free ss walk =
    crossing_by ls m 0 seen (key_from m 0 y.way * m + c + 1) some
    (λ s l is on off.
    let (j, x, here, end) = f.marked (step_from l s.forward) on in (
      key_from m 0 x.way,
      (λ ts h. f.least j x ts here (subst (λ n. IsLinkWalk ls 0 ts n) (sym end) h)),
      elim (f.looked s l j x is here end off) [
        | inl later ↦
            let up : key_from m 0 y.way < key_from m 0 x.way = f.rising i j y x at here later in
            let wide : (key_from m 0 y.way + 1) * m ≤ key_from m 0 x.way * m = mul-le-mul_right m (omega arith) in
            omega (arith, wide, low)
        | inr same ↦
            let e : y ≡ x = same_Some y x (sym at ∙ ap (slice_get es) same.0 ∙ here) in
            let e' : key_from m 0 y.way ≡ key_from m 0 x.way = ap (λ (t : Entry). key_from m 0 t.way) e in
            let wide : key_from m 0 y.way * m ≡ key_from m 0 x.way * m = ap (λ n. n * m) e' in
            let le = same.1 in
            omega (arith, wide, le)
      ],
    ))
    ss [] 0 u refl root walk free

same_or_back : (l : Link) (f g : Bool) → (f ≡ g) ⊎ (step_to l g ≡ step_from l f)
same_or_back l true true = inl refl
same_or_back l true false = inr refl
same_or_back l false true = inr refl
same_or_back l false false = inl refl

-- what changes where a step to an actor that was not seen is taken
record Taking (ls : List Link) (es : List Entry) (seen : ℕ → Bool) (es' : List Entry) (seen' : ℕ → Bool) (i : ℕ) (s : WalkStep) (l : Link) (y new : Entry) : Type 0 where
  pub here : slice_get es i ≡ Some y
  pub over : slice_get ls s.channel ≡ Some l
  pub from : y.actor ≡ step_from l s.forward
  pub free : seen (step_to l s.forward) ≡ false
  pub to : new.actor ≡ step_to l s.forward
  pub way : new.way ≡ y.way ++ s ∷ []
  pub list : es' ≡ es ++ new ∷ []
  pub kept : (v : ℕ) → seen v ≡ true → seen' v ≡ true
  pub set : seen' (step_to l s.forward) ≡ true
  pub only : (v : ℕ) → seen' v ≡ true → (v ≡ step_to l s.forward) ⊎ (seen v ≡ true)

was_free : (seen seen' : ℕ → Bool) → ((v : ℕ) → seen v ≡ true → seen' v ≡ true) → (v : ℕ) → seen' v ≡ false → seen v ≡ false
was_free seen seen' kept v off = elim (cases_Bool (seen v)) [ inl on ↦ absurd (false≢true (sym off ∙ kept v on)) | inr free ↦ free ]

-- the search after one more step, over the pushed list
added' : (ls : List Link) (m : ℕ) (es : List Entry) (seen seen' : ℕ → Bool) (i : ℕ) (s : WalkStep) (l : Link) (y new : Entry)
    → 0 < m → s.channel < m → seen 0 ≡ true → Taking ls es seen (es ++ new ∷ []) seen' i s l y new → IsSearch ls m es seen i s.channel
    → IsSearch ls m (es ++ new ∷ []) seen' i (s.channel + 1)
added' ls m es seen seen' i s l y new some low root t f =
    let u : ℕ = step_to l s.forward in
    let number : key_from m 0 new.way ≡ key_from m 0 y.way * m + s.channel + 1 =
    ap (λ (w : List WalkStep). key_from m 0 w) t.way ∙ key-append m 0 y.way (s ∷ []) in
    record {
      marked = λ v on. elim (t.only v on) [
        | inl e ↦ (length es, new, get-last es new, t.to ∙ sym e)
        | inr was ↦ let (j, x, at, end) = f.marked v was in (j, x, get-left es (new ∷ []) j x at, end)
      ];
      listed = λ j x at. elim (get-pushed es new x j at) [
        | inl old ↦ t.kept x.actor (f.listed j x old)
        | inr e ↦ subst (λ (z : Entry). seen' z.actor ≡ true) (sym e.1) (subst (λ n. seen' n ≡ true) (sym t.to) t.set)
      ];
      walks = λ j x at. elim (get-pushed es new x j at) [
        | inl old ↦ f.walks j x old
        | inr e ↦
            let step : IsLinkWalk ls y.actor (s ∷ []) u = (l, t.over, t.from, refl) in
            let long : IsLinkWalk ls 0 (y.way ++ s ∷ []) u = walk-append ls y.way (s ∷ []) 0 y.actor u (f.walks i y t.here) step in
            let here : IsLinkWalk ls 0 new.way new.actor =
            subst (λ n. IsLinkWalk ls 0 new.way n) (sym t.to) (subst (λ (w : List WalkStep). IsLinkWalk ls 0 w u) (sym t.way) long) in
            subst (λ (z : Entry). IsLinkWalk ls 0 z.way z.actor) (sym e.1) here
      ];
      least = λ j x ss at walk. elim (get-pushed es new x j at) [
        | inl old ↦ f.least j x ss old walk
        | inr e ↦
            let walk' : IsLinkWalk ls 0 ss u = subst (λ n. IsLinkWalk ls 0 ss n) (ap (λ (z : Entry). z.actor) e.1 ∙ t.to) walk in
            let bound : key_from m 0 y.way * m + s.channel + 1 ≤ key_from m 0 ss = next_is_least ls m es seen i s.channel y f some low t.here root u t.free ss walk' in
            let e' : key_from m 0 x.way ≡ key_from m 0 new.way = ap (λ (z : Entry). key_from m 0 z.way) e.1 in
            omega arith
      ];
      rising = λ j k x z at at' lt. elim (get-pushed es new z k at') [
        | inl old' ↦ elim (get-pushed es new x j at) [
          | inl old ↦ f.rising j k x z old old' lt
          | inr e ↦ (let in_list : k < length es = slice_get_within es k z old' in let e0 = e.0 in absurd (omega arith))
        ]
        | inr e' ↦ elim (get-pushed es new x j at) [
          | inl old ↦
              let le : key_from m 0 x.way ≤ key_from m 0 y.way * m + s.channel = f.last j x y old t.here in
              let same : key_from m 0 z.way ≡ key_from m 0 new.way = ap (λ (w : Entry). key_from m 0 w.way) e'.1 in
              omega arith
          | inr e ↦ (let e0 = e.0 in let e1 = e'.0 in absurd (omega arith))
        ]
      ];
      last = λ j x z at at'.
          let in_list : i < length es = slice_get_within es i y t.here in
          let same : z ≡ y = elim (get-pushed es new z i at') [
            | inl old ↦ same_Some z y (sym old ∙ t.here)
            | inr e ↦ (let e0 = e.0 in absurd (omega arith))
          ] in
          let e' : key_from m 0 z.way * m ≡ key_from m 0 y.way * m = ap (λ (w : Entry). key_from m 0 w.way * m) same in
          elim (get-pushed es new x j at) [
            | inl old ↦ (let le : key_from m 0 x.way ≤ key_from m 0 y.way * m + s.channel = f.last j x y old t.here in omega arith)
            | inr e ↦ (let e'' : key_from m 0 x.way ≡ key_from m 0 new.way = ap (λ (w : Entry). key_from m 0 w.way) e.1 in omega arith)
          ];
      looked = λ r k j x is at end off.
          let off' : seen (step_to k r.forward) ≡ false = was_free seen seen' t.kept (step_to k r.forward) off in
          elim (get-pushed es new x j at) [
            | inl old ↦ elim (f.looked r k j x is old end off') [
              | inl later ↦ inl later
              | inr same ↦
                  let same0 = same.0 in
                  let same1 = same.1 in
                  elim (cases_eq s.channel r.channel) [
                    | inl e ↦
                        let link : k ≡ l = same_Some k l (sym is ∙ ap (slice_get ls) (sym e) ∙ t.over) in
                        let here : x ≡ y = same_Some x y (sym old ∙ ap (slice_get es) (sym same.0) ∙ t.here) in
                        elim (same_or_back l s.forward r.forward) [
                          | inl fwd ↦
                              let to : step_to k r.forward ≡ u = ap (λ (z : Link). step_to z r.forward) link ∙ ap (λ (g : Bool). step_to l g) (sym fwd) in
                              absurd (false≢true (sym off ∙ ap seen' to ∙ t.set))
                          | inr back ↦
                              let to : step_to k r.forward ≡ y.actor = ap (λ (z : Link). step_to z r.forward) link ∙ back ∙ sym t.from in
                              absurd (false≢true (sym off ∙ ap seen' to ∙ t.kept y.actor (f.listed i y t.here)))
                        ]
                    | inr ne ↦ inr (same.0, omega arith)
                  ]
            ]
            | inr e ↦ (let in_list : i < length es = slice_get_within es i y t.here in let e0 = e.0 in inl (omega arith))
          ];
    }

-- the search after channels with no step to an actor that was not seen
skipped : (ls : List Link) (m : ℕ) (es : List Entry) (seen : ℕ → Bool) (i c c' : ℕ) → c ≤ c'
    → ((k : ℕ) (l : Link) (y : Entry) (f : Bool) → c ≤ k → k < c' → slice_get ls k ≡ Some l → slice_get es i ≡ Some y → y.actor ≡ step_from l f → seen (step_to l f) ≡ true)
    → IsSearch ls m es seen i c → IsSearch ls m es seen i c'
skipped ls m es seen i c c' up none f = record {
  marked = f.marked;
  listed = f.listed;
  walks = f.walks;
  least = f.least;
  rising = f.rising;
  last = λ j x y at at'. (let le = f.last j x y at at' in omega arith);
  looked = λ s k j x is at end off. elim (f.looked s k j x is at end off) [
    | inl later ↦ inl later
    | inr same ↦ elim (cases_lt s.channel c') [
      | inl lt ↦
          let here : slice_get es i ≡ Some x = ap (slice_get es) same.0 ∙ at in
          absurd (false≢true (sym off ∙ none s.channel k x s.forward same.1 lt is here end))
      | inr ge ↦ inr (same.0, ge)
    ]
  ];
}

-- the search after the last channel of a place
next_place : (ls : List Link) (m : ℕ) (es : List Entry) (seen : ℕ → Bool) (i : ℕ) → length ls < m → i < length es
    → IsSearch ls m es seen i (length ls) → IsSearch ls m es seen (i + 1) 0
next_place ls m es seen i low in_list f = record {
  marked = f.marked;
  listed = f.listed;
  walks = f.walks;
  least = f.least;
  rising = f.rising;
  last = λ j x y at at'.
      let (z, here) = get-there es i in_list in
      let le : key_from m 0 x.way ≤ key_from m 0 z.way * m + length ls = f.last j x z at here in
      let up : key_from m 0 z.way < key_from m 0 y.way = f.rising i (i + 1) z y here at' (omega arith) in
      let wide : (key_from m 0 z.way + 1) * m ≤ key_from m 0 y.way * m = mul-le-mul_right m (omega arith) in
      omega (arith, wide, le);
  looked = λ s k j x is at end off. elim (f.looked s k j x is at end off) [
    | inl later ↦ elim (cases_eq (i + 1) j) [ inl e ↦ inr (e, omega arith) | inr ne ↦ inl (omega arith) ]
    | inr same ↦ (let in_links : s.channel < length ls = slice_get_within ls s.channel k is in let same1 = same.1 in absurd (omega arith))
  ];
}

-- past the last place there is nothing to look at
past : (ls : List Link) (m : ℕ) (es : List Entry) (seen : ℕ → Bool) (i c c' : ℕ) → length es ≤ i
    → IsSearch ls m es seen i c → IsSearch ls m es seen (i + 1) c'
past ls m es seen i c c' none f = record {
  marked = f.marked;
  listed = f.listed;
  walks = f.walks;
  least = f.least;
  rising = f.rising;
  last = λ j x y at at'. (let lt : i + 1 < length es = slice_get_within es (i + 1) y at' in absurd (omega arith));
  looked = λ s k j x is at end off.
      let lt : j < length es = slice_get_within es j x at in
      elim (f.looked s k j x is at end off) [
        | inl later ↦ absurd (omega arith)
        | inr same ↦ (let same0 = same.0 in absurd (omega arith))
      ];
}

-- once each place was looked at, no walk leaves what is seen
closed : (ls : List Link) (m : ℕ) (es : List Entry) (seen : ℕ → Bool) (i c : ℕ) → length es ≤ i → IsSearch ls m es seen i c
    → (ss : List WalkStep) (a b : ℕ) → seen a ≡ true → IsLinkWalk ls a ss b → seen b ≡ true
closed ls m es seen i c all f [] a b on h = ap seen (sym h) ∙ on
closed ls m es seen i c all f (s ∷ ss) a b on (l, is, from, rest) =
    elim (cases_Bool (seen (step_to l s.forward))) [
      | inl more ↦ closed ls m es seen i c all f ss (step_to l s.forward) b more rest
      | inr off ↦
          let (j, x, at, end) = f.marked a on in
          let lt : j < length es = slice_get_within es j x at in
          elim (f.looked s l j x is at (end ∙ from) off) [
            | inl later ↦ absurd (omega arith)
            | inr same ↦ (let same0 = same.0 in absurd (omega arith))
          ]
    ]

-- ---- marks
pub trues_le : (bs : List Bool) → trues bs ≤ length bs
trues_le [] = omega arith
trues_le (true ∷ bs) = omega (arith, trues_le bs)
trues_le (false ∷ bs) = omega (arith, trues_le bs)

pub trues-set : (bs : List Bool) (v : ℕ) → v < length bs → mark_at bs v ≡ false → trues (slice_set bs v true) ≡ trues bs + 1
trues-set [] v lt off = absurd (let none : ⊥ = omega arith in none)
trues-set (true ∷ bs) zero lt off = absurd (false≢true (sym off))
trues-set (false ∷ bs) zero lt off = omega arith
trues-set (true ∷ bs) (suc v) lt off = omega (arith, trues-set bs v (omega arith) off)
trues-set (false ∷ bs) (suc v) lt off = omega (arith, trues-set bs v (omega arith) off)

pub trues-replicate : (n : ℕ) → trues (replicate n false) ≡ 0
trues-replicate zero = refl
trues-replicate (suc n) = trues-replicate n

pub mark_within : (bs : List Bool) (v : ℕ) → mark_at bs v ≡ true → v < length bs
mark_within bs v on = elim (cases_lt v (length bs)) [
  | inl lt ↦ lt
  | inr ge ↦ absurd (false≢true (sym (get_or_past bs v false ge) ∙ on))
]

pub mark_set : (bs : List Bool) (u : ℕ) → u < length bs → mark_at (slice_set bs u true) u ≡ true
mark_set bs u lt = get_or-set_same bs u true false lt

pub mark_kept : (bs : List Bool) (u v : ℕ) → mark_at bs v ≡ true → mark_at (slice_set bs u true) v ≡ true
mark_kept bs u v on = elim (cases_eq v u) [
  | inl e ↦ subst (λ n. mark_at (slice_set bs u true) n ≡ true) (sym e) (mark_set bs u (subst (λ n. n < length bs) e (mark_within bs v on)))
  | inr ne ↦ get_or-set_other bs u v true false ne ∙ on
]

pub mark_only : (bs : List Bool) (u v : ℕ) → mark_at (slice_set bs u true) v ≡ true → (v ≡ u) ⊎ (mark_at bs v ≡ true)
mark_only bs u v on = elim (cases_eq v u) [
  | inl e ↦ inl e
  | inr ne ↦ inr (sym (get_or-set_other bs u v true false ne) ∙ on)
]

pub mark_read : (bs : List Bool) (v : ℕ) (b w : Bool) → v < length bs → b ≡ slice_index_or bs v b → b ≡ w → mark_at bs v ≡ w
mark_read bs v b w lt is e = sym (get_or_read bs v b lt is false) ∙ e

-- ---- one channel, one place, and the whole search
-- a step that was taken
pub stepped : (found found' : List Found) (seen seen' : List Bool) (i c : ℕ) (f : Bool) (l : Link) (x : Found) → slice_get found i ≡ Some x → x.actor ≡ step_from l f
    → mark_at seen (step_to l f) ≡ false
    → ((new : Found) × (found' ≡ found ++ new ∷ []) × (new.actor ≡ step_to l f) × (new.reach ≡ Some (record { place = i; step = record { channel = c; forward = f } }))
    × (seen' ≡ slice_set seen (step_to l f) true))
    → IsLooked found seen found' seen' i c l
stepped found found' seen seen' i c f l x here from free (new, list, to, reach, marks) =
    inl (f, record { entry = x; new = new; here = here; from = from; free = free; list = list; to = to; reach = reach; marks = marks })

passing : (l : Link) (f : Bool) (x : Found) (seen : List Bool) → (x.actor ≡ l.source → mark_at seen l.target ≡ true) → (x.actor ≡ l.target → mark_at seen l.source ≡ true)
    → x.actor ≡ step_from l f → mark_at seen (step_to l f) ≡ true
passing l true x seen forward backward e = forward e
passing l false x seen forward backward e = backward e

-- a channel over which no step was taken
pub no_step : (found : List Found) (seen : List Bool) (i c : ℕ) (l : Link) (x : Found) → slice_get found i ≡ Some x → (x.actor ≡ l.source → mark_at seen l.target ≡ true)
    → (x.actor ≡ l.target → mark_at seen l.source ≡ true) → IsLooked found seen found seen i c l
no_step found seen i c l x here forward backward = inr (record {
  same = refl;
  marks = refl;
  none = λ y f at end. passing l f x seen forward backward (ap (λ (z : Found). z.actor) (same_Some x y (sym here ∙ at)) ∙ end);
})

end_within : (ls : List Link) (actors : ℕ) → HasEnds actors ls → (k : ℕ) (l : Link) (f : Bool) → slice_get ls k ≡ Some l → step_to l f < actors
end_within ls actors ends k l true is = ends.target k l is
end_within ls actors ends k l false is = ends.source k l is

-- both lists have one element more
push_both : {A B : Type 0} (xs : List A) (ys : List B) (x a : A) (y b : B) (j : ℕ) → length ys ≡ length xs → slice_get (xs ++ x ∷ []) j ≡ Some a → slice_get (ys ++ y ∷ []) j ≡ Some b
    → ((slice_get xs j ≡ Some a) × (slice_get ys j ≡ Some b)) ⊎ ((j ≡ length xs) × (a ≡ x) × (b ≡ y))
push_both xs ys x a y b j size at at' = elim (get-pushed xs x a j at) [
  | inl old ↦ elim (get-pushed ys y b j at') [
    | inl old' ↦ inl (old, old')
    | inr new' ↦ (let lt = slice_get_within xs j a old in let e = new'.0 in absurd (omega arith))
  ]
  | inr new ↦ elim (get-pushed ys y b j at') [
    | inl old' ↦ (let lt = slice_get_within ys j b old' in let e = new.0 in absurd (omega arith))
    | inr new' ↦ inr (new.0, new.1, new'.1)
  ]
]

-- one actor more was found
read_more : (found : List Found) (es : List Entry) (x : Found) (e d : Entry) (r : Reach) → AreEntries found es → x.reach ≡ Some r → e.actor ≡ x.actor
    → slice_get es r.place ≡ Some d → e.way ≡ d.way ++ r.step ∷ [] → AreEntries (found ++ x ∷ []) (es ++ e ∷ [])
read_more found es x e d r read reach same at way = record {
  size = (let s = read.size in let n = length_push found x in let n' = length_push es e in omega arith);
  actor = λ j y g here here'. elim (push_both found es x y e g j read.size here here') [
    | inl old ↦ read.actor j y g old.0 old.1
    | inr new ↦ ap (λ (z : Entry). z.actor) new.2 ∙ same ∙ sym (ap (λ (z : Found). z.actor) new.1)
  ];
  root = λ j y g here here' none. elim (push_both found es x y e g j read.size here here') [
    | inl old ↦ read.root j y g old.0 old.1 none
    | inr new ↦ absurd (none-some r (sym none ∙ ap (λ (z : Found). z.reach) new.1 ∙ reach))
  ];
  reached = λ j y g q here here' some. elim (push_both found es x y e g j read.size here here') [
    | inl old ↦ (let (lt, d', at', way') = read.reached j y g q old.0 old.1 some in (lt, d', get-left es (e ∷ []) q.place d' at', way'))
    | inr new ↦
        let step : r ≡ q = same_Some r q (sym reach ∙ sym (ap (λ (z : Found). z.reach) new.1) ∙ some) in
        let lt : r.place < j = (let w = slice_get_within es r.place d at in let n = new.0 in let s = read.size in omega arith) in
        let now : IsReachedEntry (es ++ e ∷ []) j g r = (lt, d, get-left es (e ∷ []) r.place d at, ap (λ (z : Entry). z.way) new.2 ∙ way) in
        subst (λ (z : Reach). IsReachedEntry (es ++ e ∷ []) j g z) step now
  ];
}

-- the entry of a found actor
pub entry_of : (found : List Found) (es : List Entry) → AreEntries found es → (j : ℕ) (x : Found) → slice_get found j ≡ Some x
    → (e : Entry) × (slice_get es j ≡ Some e) × (e.actor ≡ x.actor)
entry_of found es read j x at =
    let (e, at') = get-there es j (let lt = slice_get_within found j x at in let s = read.size in omega arith) in
    (e, at', read.actor j x e at at')

-- one more channel was looked at
pub looked_more : (ls : List Link) (actors : ℕ) (found found' : List Found) (seen seen' : List Bool) (i c : ℕ) (l : Link)
    → HasEnds actors ls → slice_get ls c ≡ Some l → IsLooked found seen found' seen' i c l
    → IsSearching ls actors found seen i c → IsSearching ls actors found' seen' i (c + 1)
looked_more ls actors found found' seen seen' i c l ends over look f = elim look [
  | inl step ↦
      let t = step.1 in
      let s : WalkStep = record { channel = c; forward = step.0 } in
      let u : ℕ = step_to l step.0 in
      let lt : u < length seen = (let e = end_within ls actors ends c l step.0 over in let e' = f.size in omega arith) in
      let low : c < length ls = slice_get_within ls c l over in
      let (y, at, same) = entry_of found f.entries f.read i t.entry t.here in
      let new : Entry = record { actor = u; way = y.way ++ s ∷ [] } in
      let taking : Taking ls f.entries (mark_at seen) (f.entries ++ new ∷ []) (mark_at (slice_set seen u true)) i s l y new =
      record {
        here = at;
        over = over;
        from = same ∙ t.from;
        free = t.free;
        to = refl;
        way = refl;
        list = refl;
        kept = λ v on. mark_kept seen u v on;
        set = mark_set seen u lt;
        only = λ v on. mark_only seen u v on;
      } in
      let next : IsSearching ls actors (found ++ t.new ∷ []) (slice_set seen u true) i (c + 1) = record {
        entries = f.entries ++ new ∷ [];
        read = read_more found f.entries t.new new y (record { place = i; step = s }) f.read t.reach (sym t.to) at refl;
        search = added' ls (length ls + 1) f.entries (mark_at seen) (mark_at (slice_set seen u true)) i s l y new (omega arith) (omega arith) f.root taking f.search;
        root = mark_kept seen u 0 f.root;
        size = length-set seen u true ∙ f.size;
        count = (let a = trues-set seen u lt t.free in let b = f.count in let d = length_push found t.new in omega (arith, a, b, d));
      } in
      subst (λ (bs : List Bool). IsSearching ls actors found' bs i (c + 1)) (sym t.marks)
      (subst (λ (xs : List Found). IsSearching ls actors xs (slice_set seen u true) i (c + 1)) (sym t.list) next)
  | inr pass ↦
      let none : (k : ℕ) (m : Link) (y : Entry) (g : Bool) → c ≤ k → k < c + 1 → slice_get ls k ≡ Some m → slice_get f.entries i ≡ Some y
      → y.actor ≡ step_from m g → mark_at seen (step_to m g) ≡ true =
      λ k m y g low up is at end.
      let (x, here) = get-there found i (let lt = slice_get_within f.entries i y at in let s = f.read.size in omega arith) in
      let same : l ≡ m = same_Some l m (sym over ∙ ap (slice_get ls) (let e : c ≡ k = omega arith in e) ∙ is) in
      let from : x.actor ≡ step_from l g = sym (f.read.actor i x y here at) ∙ end ∙ sym (ap (λ (z : Link). step_from z g) same) in
      subst (λ (z : Link). mark_at seen (step_to z g) ≡ true) same (pass.none x g here from) in
      let next : IsSearching ls actors found seen i (c + 1) = record {
        entries = f.entries;
        read = f.read;
        search = skipped ls (length ls + 1) f.entries (mark_at seen) i c (c + 1) (omega arith) none f.search;
        root = f.root;
        size = f.size;
        count = f.count;
      } in
      subst (λ (bs : List Bool). IsSearching ls actors found' bs i (c + 1)) (sym pass.marks)
      (subst (λ (xs : List Found). IsSearching ls actors xs seen i (c + 1)) (sym pass.same) next)
]

pub loop_back : (l : Link) (f : Bool) → l.source ≡ l.target → step_to l f ≡ step_from l f
loop_back l true e = sym e
loop_back l false e = e

-- channels that do not join the actor at place i with another one need no look
pub looked_past : (ls : List Link) (actors : ℕ) (found : List Found) (seen : List Bool) (i c c' : ℕ) (x : Found) → slice_get found i ≡ Some x → c ≤ c'
    → ((k : ℕ) (l : Link) (f : Bool) → c ≤ k → k < c' → slice_get ls k ≡ Some l → x.actor ≡ step_from l f → (l.source ≡ l.target → ⊥) → ⊥)
    → IsSearching ls actors found seen i c → IsSearching ls actors found seen i c'
looked_past ls actors found seen i c c' x at up none f =
    let none' : (k : ℕ) (l : Link) (y : Entry) (g : Bool) → c ≤ k → k < c' → slice_get ls k ≡ Some l → slice_get f.entries i ≡ Some y
    → y.actor ≡ step_from l g → mark_at seen (step_to l g) ≡ true =
    λ k l y g low high is at' end. elim (cases_eq l.source l.target) [
      | inl loop ↦ subst (λ n. mark_at seen n ≡ true) (end ∙ sym (loop_back l g loop)) (f.search.listed i y at')
      | inr apart ↦ absurd (none k l g low high is (sym (f.read.actor i x y at at') ∙ end) apart)
    ] in
    record {
      entries = f.entries;
      read = f.read;
      search = skipped ls (length ls + 1) f.entries (mark_at seen) i c c' up none' f.search;
      root = f.root;
      size = f.size;
      count = f.count;
    }

pub place_more : (ls : List Link) (actors : ℕ) (found : List Found) (seen : List Bool) (i : ℕ) → i < length found
    → IsSearching ls actors found seen i (length ls) → IsSearching ls actors found seen (i + 1) 0
place_more ls actors found seen i lt f = record {
  entries = f.entries;
  read = f.read;
  search = next_place ls (length ls + 1) f.entries (mark_at seen) i (omega arith) (let s = f.read.size in omega arith) f.search;
  root = f.root;
  size = f.size;
  count = f.count;
}

pub place_past : (ls : List Link) (actors : ℕ) (found : List Found) (seen : List Bool) (i : ℕ) → length found ≤ i
    → IsSearching ls actors found seen i 0 → IsSearching ls actors found seen (i + 1) 0
place_past ls actors found seen i none f = record {
  entries = f.entries;
  read = f.read;
  search = past ls (length ls + 1) f.entries (mark_at seen) i 0 0 (let s = f.read.size in omega arith) f.search;
  root = f.root;
  size = f.size;
  count = f.count;
}

single : {A : Type 0} (x y : A) (j : ℕ) → slice_get (x ∷ []) j ≡ Some y → (j ≡ 0) × (y ≡ x)
single x y zero is = (refl, sym (same_Some x y is))
single x y (suc j) is = absurd (none-some y is)

started_by : (ls : List Link) (actors : ℕ) (x : Entry) → 1 ≤ actors → x.actor ≡ 0 → x.way ≡ []
    → IsSearch ls (length ls + 1) (x ∷ []) (mark_at (slice_set (replicate actors false) 0 true)) 0 0
started_by ls actors x some root none =
    let bs : List Bool = replicate actors false in
    let size : length bs ≡ actors = length-replicate actors false in
    let lt : 0 < length bs = omega arith in
    let empty : key_from (length ls + 1) 0 x.way ≡ 0 = ap (λ (w : List WalkStep). key_from (length ls + 1) 0 w) none in
    record {
      marked = λ v on. elim (mark_only bs 0 v on) [
        | inl e ↦ (0, x, refl, root ∙ sym e)
        | inr was ↦ absurd (false≢true (sym (replicate-same actors v false) ∙ was))
      ];
      listed = λ j y at. (let e = single x y j at in
          subst (λ n. mark_at (slice_set bs 0 true) n ≡ true) (sym root ∙ sym (ap (λ (z : Entry). z.actor) e.1)) (mark_set bs 0 lt));
      walks = λ j y at. (let e = single x y j at in
          subst (λ (z : Entry). IsLinkWalk ls 0 z.way z.actor) (sym e.1)
          (subst (λ (w : List WalkStep). IsLinkWalk ls 0 w x.actor) (sym none) (sym root)));
      least = λ j y ss at walk. (let e = single x y j at in
          let same : key_from (length ls + 1) 0 y.way ≡ key_from (length ls + 1) 0 x.way = ap (λ (z : Entry). key_from (length ls + 1) 0 z.way) e.1 in
          omega (arith, same, empty));
      rising = λ j k y z at at' lt'. (let e = single x y j at in let e' = single x z k at' in let a = e.0 in let b = e'.0 in absurd (omega arith));
      last = λ j y z at at'. (let e = single x y j at in
          let same : key_from (length ls + 1) 0 y.way ≡ key_from (length ls + 1) 0 x.way = ap (λ (w : Entry). key_from (length ls + 1) 0 w.way) e.1 in
          omega (arith, same, empty));
      looked = λ s l j y is at end off. (let e = single x y j at in inr (sym e.0, omega arith));
    }

read_one : (x : Found) (e : Entry) → x.reach ≡ None → e.actor ≡ x.actor → e.way ≡ [] → AreEntries (x ∷ []) (e ∷ [])
read_one x e root same none = record {
  size = refl;
  actor = λ j y g at at'. ap (λ (z : Entry). z.actor) (single e g j at').1 ∙ same ∙ sym (ap (λ (z : Found). z.actor) (single x y j at).1);
  root = λ j y g at at' no. ap (λ (z : Entry). z.way) (single e g j at').1 ∙ none;
  reached = λ j y g r at at' some. absurd (none-some r (sym root ∙ sym (ap (λ (z : Found). z.reach) (single x y j at).1) ∙ some));
}

-- the search that has found actor 0 alone
pub started : (ls : List Link) (actors : ℕ) (x : Found) → 1 ≤ actors → x.actor ≡ 0 → x.reach ≡ None
    → IsSearching ls actors (x ∷ []) (slice_set (replicate actors false) 0 true) 0 0
started ls actors x some root none =
    let bs : List Bool = replicate actors false in
    let size : length bs ≡ actors = length-replicate actors false in
    let lt : 0 < length bs = omega arith in
    let e : Entry = record { actor = 0; way = [] } in
    record {
      entries = e ∷ [];
      read = read_one x e none (sym root) refl;
      search = started_by ls actors e some refl refl;
      root = mark_set bs 0 lt;
      size = length-set bs 0 true ∙ size;
      count = (let a = trues-set bs 0 lt (replicate-same actors 0 false) in let b = trues-replicate actors in omega (arith, a, b));
    }

-- at the end of the search
pub finished : (ls : List Link) (actors : ℕ) (found : List Found) (seen : List Bool) (i c : ℕ) → actors ≤ i
    → IsSearching ls actors found seen i c → IsSearched ls actors found seen
finished ls actors found seen i c end f =
    let es : List Entry = f.entries in
    let all : length es ≤ i = (let a = f.count in let b = trues_le seen in let d = f.size in let e = f.read.size in omega (arith, a, b, d, e)) in
    let m : ℕ = length ls + 1 in
    let s = f.search in
    let way : (j : ℕ) (x : Entry) → slice_get es j ≡ Some x → IsWay ls x.actor x.way =
    λ j x at. (s.walks j x at, λ q walk. precedes_from_key m (omega arith) x.way q (walk_below ls m (omega arith) q 0 x.actor walk) (s.least j x q at walk)) in
    let tree : IsTree ls actors es seen = record {
      ways = way;
      rising = λ j k x y at at' le. elim (cases_eq j k) [
        | inl e ↦ (let same : x ≡ y = same_Some x y (sym at ∙ ap (slice_get es) e ∙ at') in
            (way j x at).1 y.way (subst (λ (z : Entry). IsLinkWalk ls 0 y.way z.actor) (sym same) (s.walks k y at')))
        | inr ne ↦ (let lt = s.rising j k x y at at' (omega arith) in
            precedes_from_key m (omega arith) x.way y.way (walk_below ls m (omega arith) y.way 0 y.actor (s.walks k y at')) (omega arith))
      ];
      apart = λ j k x y at at' lt e.
          (let le = s.least k y x.way at' (subst (λ n. IsLinkWalk ls 0 x.way n) e (s.walks j x at)) in
          let up = s.rising j k x y at at' lt in
          omega arith);
      whole = λ ss v walk. closed ls m es (mark_at seen) i c all s ss 0 v f.root walk;
      marked = s.marked;
      within = λ j x at. (let lt = mark_within seen x.actor (s.listed j x at) in let e = f.size in omega arith);
      size = f.size;
    } in
    record { entries = es; read = f.read; tree = tree }

-- looking loses nothing
pub looked_old : (found found' : List Found) (seen seen' : List Bool) (i c : ℕ) (l : Link) → IsLooked found seen found' seen' i c l → (j : ℕ) (x : Found) → slice_get found j ≡ Some x
    → slice_get found' j ≡ Some x
looked_old found found' seen seen' i c l look j x at = elim look [
  | inl step ↦ (let t = step.1 in subst (λ (xs : List Found). slice_get xs j ≡ Some x) (sym t.list) (get-left found (t.new ∷ []) j x at))
  | inr pass ↦ subst (λ (xs : List Found). slice_get xs j ≡ Some x) (sym pass.same) at
]

-- what was found are actors
pub found_within : (ls : List Link) (actors : ℕ) (found : List Found) (seen : List Bool) (i c : ℕ) → IsSearching ls actors found seen i c → (j : ℕ) (x : Found) → slice_get found j ≡ Some x
    → x.actor < actors
found_within ls actors found seen i c f j x at =
    let (e, at', same) = entry_of found f.entries f.read j x at in
    let lt : e.actor < length seen = mark_within seen e.actor (f.search.listed j e at') in
    let size = f.size in
    omega arith
