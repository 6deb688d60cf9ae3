-- Directed paths, and the search that marks what they lead to.
use Rattle.std.proofs.Common.{◌≡◌, ℕ, ◌+◌, ◌<◌, ◌≤◌, Bool, true, false, Some, List, [], ◌∷◌, ◌++◌, length, replicate, sym, refl, ap, subst, ◌∙◌, inl, inr, arith}
use Rattle.std.specs.Prelude.{All, slice_get, slice_set, slice_index_or}
use Rattle.std.proofs.lemmas.Bool.{cases_eq, false≢true}
use Rattle.std.proofs.lemmas.List.{length-set, length-replicate, length_push}
use Rattle.std.proofs.lemmas.Option.{same_Some, none-some, slice_get_within, slice_get-get_or}
use Rattle.balance.specs.declared.connection.Direction.{Direction}
use Rattle.balance.specs.declared.connection.Direction.TheVariants.{Along, Against}
use Rattle.sd_base.specs.Connection.{IsPath, Reaches}
use Rattle.sd_base.proofs.ElementsKeepPlaces.{get-pushed, get-left, get-last, all-get, get-there, replicate-same}
use Rattle.balance.specs.ConnectRefusals.{AreActors}
use Rattle.balance.specs.inside.Search.{mark_at}
use Rattle.balance.specs.inside.Lists.{list_at, appended}
use Rattle.balance.specs.inside.Reaching.{pair_from, pair_to, Leads, AreLed, AreClosed, AreFollowers, IsQueue, IsMarked, AreMarked}
use Rattle.balance.proofs.SearchFindsWays.{trues_le, trues-set, trues-replicate, mark_set, mark_kept, mark_only}
use Rattle.balance.proofs.IncidenceListChannels.{appended_here, appended_other, length-appended}

pub path-append : (ends : List (ℕ × ℕ)) (xs ys : List ℕ) (a b c : ℕ) → IsPath ends a xs b → IsPath ends b ys c → IsPath ends a (xs ++ ys) c
path-append ends [] ys a b c h k = subst (λ n. IsPath ends n ys c) (sym h) k
path-append ends (x ∷ xs) ys a b c (e, is, from, rest) k = (e, is, from, path-append ends xs ys e.1 b c rest k)

pub through : (ends : List (ℕ × ℕ)) (a b c : ℕ) → Reaches ends a b → Reaches ends b c → Reaches ends a c
through ends a b c (xs, h) (ys, k) = (xs ++ ys, path-append ends xs ys a b c h k)

-- one pair more
pub leads_more : (d : Direction) (ends : List (ℕ × ℕ)) (k : ℕ) (e : ℕ × ℕ) → slice_get ends k ≡ Some e → Leads d ends (pair_from d e) → Leads d ends (pair_to d e)
leads_more Along ends k e is h = through ends 0 e.0 e.1 h (k ∷ [], (e, is, refl, refl))
leads_more Against ends k e is h = through ends e.0 e.1 0 (k ∷ [], (e, is, refl, refl)) h

pub leads_none : (d : Direction) (ends : List (ℕ × ℕ)) → Leads d ends 0
leads_none Along ends = ([], refl)
leads_none Against ends = ([], refl)

closed_along : (ends : List (ℕ × ℕ)) (marks : List Bool) → AreClosed Along ends marks → (ks : List ℕ) (a b : ℕ) → IsPath ends a ks b → mark_at marks a ≡ true → mark_at marks b ≡ true
closed_along ends marks closed [] a b h on = subst (λ n. mark_at marks n ≡ true) h on
closed_along ends marks closed (k ∷ ks) a b (e, is, from, rest) on =
    closed_along ends marks closed ks e.1 b rest (closed k e is (subst (λ n. mark_at marks n ≡ true) from on))

closed_against : (ends : List (ℕ × ℕ)) (marks : List Bool) → AreClosed Against ends marks → (ks : List ℕ) (a b : ℕ) → IsPath ends a ks b → mark_at marks b ≡ true → mark_at marks a ≡ true
closed_against ends marks closed [] a b h on = subst (λ n. mark_at marks n ≡ true) (sym h) on
closed_against ends marks closed (k ∷ ks) a b (e, is, from, rest) on =
    subst (λ n. mark_at marks n ≡ true) (sym from) (closed k e is (closed_against ends marks closed ks e.1 b rest on))

-- where no pair leads out of the marks, and actor 0 is marked, all that paths lead to is marked
pub all_marked : (d : Direction) (ends : List (ℕ × ℕ)) (marks : List Bool) → AreClosed d ends marks → mark_at marks 0 ≡ true → (v : ℕ) → Leads d ends v → mark_at marks v ≡ true
all_marked Along ends marks closed root v (ks, path) = closed_along ends marks closed ks 0 v path root
all_marked Against ends marks closed root v (ks, path) = closed_against ends marks closed ks v 0 path root

-- a pair's ends are actors
pub pair_within : (d : Direction) (actors : ℕ) (ends : List (ℕ × ℕ)) (k : ℕ) (e : ℕ × ℕ) → AreActors actors ends → slice_get ends k ≡ Some e
    → (pair_from d e < actors) × (pair_to d e < actors)
pair_within Along actors ends k e are is = all-get (λ (p : ℕ × ℕ). (p.0 < actors) × (p.1 < actors)) ends k e are is
pair_within Against actors ends k e are is = (let h = all-get (λ (p : ℕ × ℕ). (p.0 < actors) × (p.1 < actors)) ends k e are is in (h.1, h.0))

-- ---- where the pairs lead, by actor
pub followers_more : (d : Direction) (ends : List (ℕ × ℕ)) (n actors : ℕ) (rows : List (List ℕ)) (e : ℕ × ℕ) → slice_get ends n ≡ Some e → pair_from d e < length rows
    → AreFollowers d ends n actors rows → AreFollowers d ends (n + 1) actors (appended rows (pair_from d e) (pair_to d e))
followers_more d ends n actors rows e here low f =
    let from : ℕ = pair_from d e in
    let to : ℕ = pair_to d e in
    let rows' : List (List ℕ) = appended rows from to in
    record {
      size = length-appended rows from to ∙ f.size;
      only = λ a p u is. elim (cases_eq a from) [
        | inl same ↦
            let is' : slice_get (list_at rows from ++ to ∷ []) p ≡ Some u =
            subst (λ (t : List ℕ). slice_get t p ≡ Some u) (ap (λ b. list_at rows' b) same ∙ appended_here rows from to low) is in
            elim (get-pushed (list_at rows from) to u p is') [
              | inl old ↦ f.only a p u (subst (λ b. slice_get (list_at rows b) p ≡ Some u) (sym same) old)
              | inr new ↦ (n, e, here, sym same, sym new.1)
            ]
        | inr other ↦ f.only a p u (subst (λ (t : List ℕ). slice_get t p ≡ Some u) (appended_other rows from to a other) is)
      ];
      whole = λ k g lt is. elim (cases_eq k n) [
        | inl same ↦
            let pair : e ≡ g = same_Some e g (sym here ∙ ap (slice_get ends) (sym same) ∙ is) in
            let at : slice_get (list_at rows' from) (length (list_at rows from)) ≡ Some to =
            subst (λ (t : List ℕ). slice_get t (length (list_at rows from)) ≡ Some to) (sym (appended_here rows from to low)) (get-last (list_at rows from) to) in
            (length (list_at rows from), subst (λ (z : ℕ × ℕ). slice_get (list_at rows' (pair_from d z)) (length (list_at rows from)) ≡ Some (pair_to d z)) pair at)
        | inr ne ↦
            let (p, at) = f.whole k g (omega arith) is in
            elim (cases_eq (pair_from d g) from) [
              | inl same ↦
                  let at' : slice_get (list_at rows from) p ≡ Some (pair_to d g) = subst (λ b. slice_get (list_at rows b) p ≡ Some (pair_to d g)) same at in (
                    p,
                    subst (λ (t : List ℕ). slice_get t p ≡ Some (pair_to d g)) (sym (ap (λ b. list_at rows' b) same ∙ appended_here rows from to low))
                        (get-left (list_at rows from) (to ∷ []) p (pair_to d g) at'),
                  )
              | inr other ↦ (p, subst (λ (t : List ℕ). slice_get t p ≡ Some (pair_to d g)) (sym (appended_other rows from to (pair_from d g) other)) at)
            ]
      ];
    }

-- ---- marking
queue_more : (u : ℕ) (queue : List ℕ) (marks : List Bool) → u < length marks → mark_at marks u ≡ false → IsQueue queue marks → IsQueue (queue ++ u ∷ []) (slice_set marks u true)
queue_more u queue marks lt off f = record {
  queued = λ v on. elim (mark_only marks u v on) [
    | inl e ↦ (length queue, get-last queue u ∙ ap (λ (x : ℕ). Some x) (sym e))
    | inr was ↦ (let (j, at) = f.queued v was in (j, get-left queue (u ∷ []) j v at))
  ];
  marked = λ j v at. elim (get-pushed queue u v j at) [
    | inl old ↦ mark_kept marks u v (f.marked j v old)
    | inr new ↦ subst (λ n. mark_at (slice_set marks u true) n ≡ true) (sym new.1) (mark_set marks u lt)
  ];
  count = (let a = trues-set marks u lt off in let b = f.count in let d = length_push queue u in omega (arith, a, b, d));
}

pub queue_start : (actors : ℕ) → 1 ≤ actors → IsQueue (0 ∷ []) (slice_set (replicate actors false) 0 true)
queue_start actors some =
    let bs : List Bool = replicate actors false in
    let size : length bs ≡ actors = length-replicate actors false in
    let lt : 0 < length bs = omega arith in
    let empty : IsQueue [] bs = record {
      queued = λ v on. absurd (false≢true (sym (replicate-same actors v false) ∙ on));
      marked = λ j v at. absurd (none-some v at);
      count = trues-replicate actors;
    } in
    queue_more 0 [] bs lt (replicate-same actors 0 false) empty

-- one actor more was marked
pub marked_more : (next : List ℕ) (n u : ℕ) (queue queue' queue'' : List ℕ) (marks marks' marks'' : List Bool) → slice_get next n ≡ Some u → u < length marks'
    → IsMarked u queue' marks' queue'' marks'' → AreMarked next n queue marks queue' marks' → AreMarked next (n + 1) queue marks queue'' marks''
marked_more next n u queue queue' queue'' marks marks' marks'' here lt step f = elim step [
  | inl new ↦
      let bs : List Bool = slice_set marks' u true in
      let next_is : AreMarked next (n + 1) queue marks (queue' ++ u ∷ []) bs = record {
        is_queue = queue_more u queue' marks' lt new.0 f.is_queue;
        size = length-set marks' u true ∙ f.size;
        kept = λ v on. mark_kept marks' u v (f.kept v on);
        stays = λ j v at. get-left queue' (u ∷ []) j v (f.stays j v at);
        all = λ q v low at. elim (cases_eq q n) [
          | inl e ↦ (let same : v ≡ u = same_Some v u (sym at ∙ ap (slice_get next) e ∙ here) in subst (λ x. mark_at bs x ≡ true) (sym same) (mark_set marks' u lt))
          | inr ne ↦ mark_kept marks' u v (f.all q v (omega arith) at)
        ];
        only = λ v on. elim (mark_only marks' u v on) [
          | inl e ↦ inr (n, here ∙ ap (λ (x : ℕ). Some x) (sym e))
          | inr was ↦ f.only v was
        ];
      } in
      subst (λ (bs' : List Bool). AreMarked next (n + 1) queue marks queue'' bs') (sym new.2)
      (subst (λ (xs : List ℕ). AreMarked next (n + 1) queue marks xs bs) (sym new.1) next_is)
  | inr old ↦
      let next_is : AreMarked next (n + 1) queue marks queue' marks' = record {
        is_queue = f.is_queue;
        size = f.size;
        kept = f.kept;
        stays = f.stays;
        all = λ q v low at. elim (cases_eq q n) [
          | inl e ↦ (let same : v ≡ u = same_Some v u (sym at ∙ ap (slice_get next) e ∙ here) in subst (λ x. mark_at marks' x ≡ true) (sym same) old.0)
          | inr ne ↦ f.all q v (omega arith) at
        ];
        only = f.only;
      } in
      subst (λ (bs : List Bool). AreMarked next (n + 1) queue marks queue'' bs) (sym old.2)
      (subst (λ (xs : List ℕ). AreMarked next (n + 1) queue marks xs marks') (sym old.1) next_is)
]

-- ---- the whole search, where the first i queued actors were left
pub record IsReach (d : Direction) (ends : List (ℕ × ℕ)) (actors : ℕ) (queue : List ℕ) (marks : List Bool) (i : ℕ) : Type 0 where
  pub is_queue : IsQueue queue marks
  pub size : length marks ≡ actors
  pub root : mark_at marks 0 ≡ true
  pub led : AreLed d ends marks
  pub left : (j v k : ℕ) (e : ℕ × ℕ) → j < i → slice_get queue j ≡ Some v → slice_get ends k ≡ Some e → pair_from d e ≡ v → mark_at marks (pair_to d e) ≡ true

pub reach_start : (d : Direction) (ends : List (ℕ × ℕ)) (actors : ℕ) → 1 ≤ actors → IsReach d ends actors (0 ∷ []) (slice_set (replicate actors false) 0 true) 0
reach_start d ends actors some =
    let bs : List Bool = replicate actors false in
    let size : length bs ≡ actors = length-replicate actors false in
    record {
      is_queue = queue_start actors some;
      size = length-set bs 0 true ∙ size;
      root = mark_set bs 0 (omega arith);
      led = λ v on. elim (mark_only bs 0 v on) [
        | inl e ↦ subst (λ n. Leads d ends n) (sym e) (leads_none d ends)
        | inr was ↦ absurd (false≢true (sym (replicate-same actors v false) ∙ was))
      ];
      left = λ j v k e lt at is from. absurd (let none : ⊥ = omega arith in none);
    }

pub reach_more : (d : Direction) (ends : List (ℕ × ℕ)) (actors : ℕ) (rows : List (List ℕ)) (queue queue' : List ℕ) (marks marks' : List Bool) (i v : ℕ)
    → AreFollowers d ends (length ends) actors rows → slice_get queue i ≡ Some v → AreMarked (list_at rows v) (length (list_at rows v)) queue marks queue' marks'
    → IsReach d ends actors queue marks i → IsReach d ends actors queue' marks' (i + 1)
reach_more d ends actors rows queue queue' marks marks' i v next here l f = record {
  is_queue = l.is_queue;
  size = l.size ∙ f.size;
  root = l.kept 0 f.root;
  led = λ u on. elim (l.only u on) [
    | inl was ↦ f.led u was
    | inr new ↦
        let (k, e, is, from, to) = next.only v new.0 u new.1 in
        let led : Leads d ends (pair_from d e) = subst (λ n. Leads d ends n) (sym from) (f.led v (f.is_queue.marked i v here)) in
        subst (λ n. Leads d ends n) to (leads_more d ends k e is led)
  ];
  left = λ j u k e lt at is from. elim (cases_eq j i) [
    | inl same ↦
        let actor : v ≡ u = same_Some v u (sym (l.stays i v here) ∙ ap (slice_get queue') (sym same) ∙ at) in
        let (p, there) = next.whole k e (slice_get_within ends k e is) is in
        let there' : slice_get (list_at rows v) p ≡ Some (pair_to d e) = subst (λ b. slice_get (list_at rows b) p ≡ Some (pair_to d e)) (from ∙ sym actor) there in
        l.all p (pair_to d e) (slice_get_within (list_at rows v) p (pair_to d e) there') there'
    | inr ne ↦
        let in_list : i < length queue = slice_get_within queue i v here in
        let (w, at') = get-there queue j (omega arith) in
        let same : w ≡ u = same_Some w u (sym (l.stays j w at') ∙ at) in
        l.kept (pair_to d e) (f.left j w k e (omega arith) at' is (from ∙ sym same))
  ];
}

pub reach_past : (d : Direction) (ends : List (ℕ × ℕ)) (actors : ℕ) (queue : List ℕ) (marks : List Bool) (i : ℕ) → length queue ≤ i
    → IsReach d ends actors queue marks i → IsReach d ends actors queue marks (i + 1)
reach_past d ends actors queue marks i none f = record {
  is_queue = f.is_queue;
  size = f.size;
  root = f.root;
  led = f.led;
  left = λ j v k e lt at is from. f.left j v k e (let in_list = slice_get_within queue j v at in omega arith) at is from;
}

-- once each was left, no pair leads out of what is marked
pub reach_closed : (d : Direction) (ends : List (ℕ × ℕ)) (actors : ℕ) (queue : List ℕ) (marks : List Bool) (i : ℕ) → actors ≤ i → IsReach d ends actors queue marks i → AreClosed d ends marks
reach_closed d ends actors queue marks i all f k e is on =
    let (j, at) = f.is_queue.queued (pair_from d e) on in
    let lt : j < i = (let in_list = slice_get_within queue j (pair_from d e) at in let n = f.is_queue.count in let le = trues_le marks in let s = f.size in omega arith) in
    f.left j (pair_from d e) k e lt at is refl

-- what follows an actor are actors
pub followers_within : (d : Direction) (ends : List (ℕ × ℕ)) (n actors : ℕ) (rows : List (List ℕ)) (a : ℕ) → AreActors actors ends → AreFollowers d ends n actors rows
    → All (λ v. v < actors) (list_at rows a)
followers_within d ends n actors rows a are f k x lt =
    let (j, e, is, from, to) = f.only a k (slice_index_or (list_at rows a) k x) (slice_get-get_or (list_at rows a) k x lt) in
    subst (λ v. v < actors) to (pair_within d actors ends j e are is).1
