-- How a search spreads: from its start, by a level that is taken off, and by a visit that leads on; and how it ends.
use Rattle.std.proofs.Common.{◌≡◌, ℕ, ◌+◌, ◌≤◌, ◌<◌, ◌⊎◌, Option, None, Some, List, [], ◌∷◌, ◌++◌, length, append_assoc, inl, inr, ⊎_elim, refl, sym, ap, ◌∙◌, subst, arith}
use Rattle.std.specs.Prelude.{All, Contains, MatchOption, slice_index_or}
use Rattle.std.proofs.lemmas.List.{append-nil, length-append, length-map, map-append}
use Rattle.std.proofs.lemmas.List.Elements.{All-append, All-contains, All-nil, All-push, Contains-append_cases, Contains-append_left, Contains-append_right, Contains-get_or, Contains-push, Contains-push_cases}
use Rattle.std.proofs.lemmas.List.Sorted.{Contains-permutation, IsPermutation-sym, length_permutation}
use Rattle.sd_base.specs.Net.{Channel}
use Rattle.storage.specs.Distributions.{storage_of}
use Rattle.storage.specs.StorageOrder.{AreInOrder, IsBefore}
use Rattle.levels.specs.declared.error.LevelsError.{LevelsError}
use Rattle.levels.specs.declared.error.LevelsError.TheVariants.{Spent, NoMemory}
use Rattle.levels.specs.declared.found.Found.{Found}
use Rattle.levels.specs.declared.found.Level.{Level}
use Rattle.levels.specs.declared.levels.Bounds.{Bounds}
use Rattle.levels.specs.declared.levels.Levels.{Levels}
use Rattle.levels.specs.Visits.{AreVisits, IsLedTo, LeadsTo, Visit, visited}
use Rattle.levels.specs.Frontiers.{AreLedOn, AreTooMany, IsFoundBy, IsFrontier, IsLevelTaken, IsOver, IsSame, IsSpent, IsSpread, Rises, StandsIn, Waits, WasFound, distributions_of}
use Rattle.levels.specs.inside.Waiting.{AreTooManyLed, EndsWaiting}
use Rattle.sd_base.proofs.ContainedHavePlaces.{contains-cases, contains-here, contains-later, contains-map, contains-none, contains-unmap}
use Rattle.levels.proofs.DistinctLists.{one-of}
use Rattle.levels.proofs.InsertsKeepOrder.{sorted-order}

-- distributions in order, and others after all of them

order-append : (cs : List Channel) (xs ys : List (List (Option ℕ))) → AreInOrder cs xs → AreInOrder cs ys → ((ds es : List (Option ℕ)) → Contains xs ds → Contains ys es → IsBefore cs ds es) → AreInOrder cs (xs ++ ys)
order-append cs [] ys one other apart = other
order-append cs (x ∷ xs) ys one other apart = (
  All-append (IsBefore cs x) xs ys one.0 (λ k d below. apart x (slice_index_or ys k d) (contains-here x xs) (Contains-get_or ys k d below)),
  order-append cs xs ys one.1 other (λ ds es front back. apart ds es (contains-later x xs ds front) back),
)

-- one visit more

visited-more : (visits : List Visit) (v : Visit) (taken : List (List (Option ℕ))) → visited (visits ++ v ∷ []) ++ taken ≡ visited visits ++ v.capacities ∷ taken
visited-more visits v taken = ap (λ (xs : List (List (Option ℕ))). xs ++ taken) (map-append (λ (x : Visit). x.capacities) visits (v ∷ [])) ∙ append_assoc (visited visits) (v.capacities ∷ []) taken

led-later : (cs : List Channel) (start : List (Option ℕ)) (visits : List Visit) (v : Visit) (ds : List (Option ℕ)) → IsLedTo cs start visits ds → IsLedTo cs start (visits ++ v ∷ []) ds
led-later cs start visits v ds (inl same) = inl same
led-later cs start visits v ds (inr (u, one, leads)) = inr (u, Contains-append_left visits (v ∷ []) u one, leads)

led-here : (cs : List Channel) (start : List (Option ℕ)) (visits : List Visit) (v : Visit) (ds : List (Option ℕ)) → LeadsTo cs v ds → IsLedTo cs start (visits ++ v ∷ []) ds
led-here cs start visits v ds leads = inr (v, Contains-push visits v, leads)

module _ {H : Type 0} where
  -- from the start

  pub spread-one : (cs : List Channel) (start : List (Option ℕ)) (limit : ℕ) (f : Found H) → f.capacities.capacities ≡ start → f.total ≡ storage_of cs start → storage_of cs start ≤ limit → IsSpread cs start limit 0 [] [] (f ∷ [])
  spread-one cs start limit f same total within = record {
    order = tt;
    within = All-nil (λ (ds : List (Option ℕ)). storage_of cs ds ≤ limit);
    low = All-nil (λ (ds : List (Option ℕ)). storage_of cs ds < 0);
    waits = All-push (Waits cs limit 0) [] f (All-nil (Waits cs limit 0)) (record { total = total ∙ ap (storage_of cs) (sym same); above = omega arith; within = omega (arith, total, within) });
    begins = λ fits. inr (f, contains-here f [], same);
    next = λ v ds one leads fits. absurd (contains-none v one);
    rises = λ v one. absurd (contains-none v one);
    led = λ ds found. ⊎_elim
        (λ (none : Contains [] ds). absurd (contains-none ds none))
        (λ (g : StandsIn (f ∷ []) ds). inl (sym g.2 ∙ (⊎_elim (λ (h : f ≡ g.0). sym (ap (λ (x : Found H). x.capacities.capacities) h) ∙ same) (λ (none : Contains [] g.0). absurd (contains-none g.0 none)) (contains-cases f [] g.0 g.1))))
        found;
  }

  pub begun : (cs : List Channel) (start : List (Option ℕ)) (levels : Levels H) (fs : List (Found H)) → IsOver cs levels.channels → IsSpread cs start levels.bounds.total 0 [] [] fs → levels.waiting ≡ fs → levels.found ≡ length fs → length fs ≤ levels.bounds.distributions → IsFrontier cs start 0 [] [] levels
  begun cs start levels fs over spread same found few = record {
    over = over;
    spread = subst (IsSpread cs start levels.bounds.total 0 [] []) (sym same) spread;
    found = (let keys = ap (λ (xs : List (Found H)). length xs) same in omega (arith, found, keys));
    few = omega (arith, found, few);
  }

  pub begun-one : (cs : List Channel) (start : List (Option ℕ)) (levels : Levels H) (f : Found H) → f.capacities.capacities ≡ start → f.total ≡ storage_of cs start → storage_of cs start ≤ levels.bounds.total → IsOver cs levels.channels → levels.waiting ≡ f ∷ [] → levels.found ≡ 1 → 1 ≤ levels.bounds.distributions → IsFrontier cs start 0 [] [] levels
  begun-one cs start levels f same total within over waiting found some = begun cs start levels (f ∷ []) over (spread-one cs start levels.bounds.total f same total within) waiting found some

  found-more : (done more : List (List (Option ℕ))) (old new : List (Found H)) (ds : List (Option ℕ)) → ((es : List (Option ℕ)) → Contains done es → Contains more es) → ((f : Found H) → Contains old f → WasFound more new f.capacities.capacities) → WasFound done old ds → WasFound more new ds
  found-more done more old new ds front back (inl is) = inl (front ds is)
  found-more done more old new ds front back (inr (f, is, same)) = subst (WasFound more new) same (back f is)

  -- a level that is taken off

  -- what is of the level, or waits afterwards, waited before
  pub level-waited : (total : ℕ) (level old new : List (Found H)) → IsLevelTaken total level old new → (f : Found H) → Contains level f → Contains old f
  level-waited total level old new off f one = Contains-permutation (level ++ new) old f (IsPermutation-sym old (level ++ new) off.parts) (Contains-append_left level new f one)

  pub left-waited : (total : ℕ) (level old new : List (Found H)) → IsLevelTaken total level old new → (f : Found H) → Contains new f → Contains old f
  left-waited total level old new off f one = Contains-permutation (level ++ new) old f (IsPermutation-sym old (level ++ new) off.parts) (Contains-append_right level new f one)

  pub level-long : (total : ℕ) (level old new : List (Found H)) → IsLevelTaken total level old new → length old ≡ length level + length new
  level-long total level old new off = omega (arith, length_permutation old (level ++ new) off.parts, length-append level new)

  module _ (cs : List Channel) (start : List (Option ℕ)) (limit floor : ℕ) (visits : List Visit) (total : ℕ) (level old new : List (Found H)) (off : IsLevelTaken total level old new) (s : IsSpread cs start limit floor visits [] old) where
    waits-old : (f : Found H) → Contains old f → Waits cs limit floor f
    waits-old f one = All-contains (Waits cs limit floor) old f s.waits one

    waits-level : (f : Found H) → Contains level f → Waits cs limit floor f
    waits-level f one = waits-old f (level-waited total level old new off f one)

    floor-low : floor ≤ total
    floor-low =
        let f = one-of level off.some in
        let here = All-contains (λ (x : Found H). x.total ≡ total) level f.0 off.totals f.1 in
        omega (arith, (waits-level f.0 f.1).above, here)

    of-level : (ds : List (Option ℕ)) → Contains (distributions_of level) ds → StandsIn level ds
    of-level ds one = contains-unmap (λ (f : Found H). f.capacities.capacities) level ds one

    level-storage : (ds : List (Option ℕ)) → Contains (distributions_of level) ds → (storage_of cs ds ≡ total) × (storage_of cs ds ≤ limit)
    level-storage ds one =
        let f = of-level ds one in
        let waits = waits-level f.0 f.1 in
        let same : storage_of cs f.0.capacities.capacities ≡ storage_of cs ds = ap (storage_of cs) f.2 in
        let here = All-contains (λ (x : Found H). x.total ≡ total) level f.0 off.totals f.1 in (omega (arith, waits.total, here, same), omega (arith, waits.total, waits.within, same))

    level-all : (P : List (Option ℕ) → Type 0) → ((ds : List (Option ℕ)) → Contains (distributions_of level) ds → P ds) → All P (distributions_of level)
    level-all P holds = λ k d below. holds (slice_index_or (distributions_of level) k d) (Contains-get_or (distributions_of level) k d below)

    done-before : visited visits ++ [] ≡ visited visits
    done-before = append-nil (visited visits)

    found-in : (ds : List (Option ℕ)) → WasFound (visited visits ++ []) old ds → WasFound (visited visits ++ distributions_of level) new ds
    found-in ds found = found-more (visited visits ++ []) (visited visits ++ distributions_of level) old new ds
        (λ es one. Contains-append_left (visited visits) (distributions_of level) es (subst (λ (xs : List (List (Option ℕ))). Contains xs es) done-before one))
        (λ f one. ⊎_elim
        (λ (here : Contains level f). inl (Contains-append_right (visited visits) (distributions_of level) f.capacities.capacities (contains-map (λ (x : Found H). x.capacities.capacities) level f here)))
        (λ (later : Contains new f). inr (f, later, refl))
        (Contains-append_cases level new f (Contains-permutation old (level ++ new) f off.parts one)))
        found

    found-back : (ds : List (Option ℕ)) → WasFound (visited visits ++ distributions_of level) new ds → WasFound (visited visits ++ []) old ds
    found-back ds (inr (f, one, same)) = inr (f, left-waited total level old new off f one, same)
    found-back ds (inl one) =
        ⊎_elim
        (λ (h : Contains (visited visits) ds). inl (Contains-append_left (visited visits) [] ds h))
        (λ (h : Contains (distributions_of level) ds). let f = of-level ds h in inr (f.0, level-waited total level old new off f.0 f.1, f.2))
        (Contains-append_cases (visited visits) (distributions_of level) ds one)

    apart : (ds es : List (Option ℕ)) → Contains (visited visits) ds → Contains (distributions_of level) es → IsBefore cs ds es
    apart ds es one other =
        inl (omega (arith, All-contains (λ (x : List (Option ℕ)). storage_of cs x < floor) (visited visits ++ []) ds s.low (Contains-append_left (visited visits) [] ds one), (level-storage es other).0, floor-low))

    pub spread-level : IsSpread cs start limit (total + 1) visits (distributions_of level) new
    spread-level = record {
      order = order-append cs (visited visits) (distributions_of level) (subst (AreInOrder cs) done-before s.order)
          (sorted-order cs level off.order (λ f one. (waits-level f one).total)) apart;
      within = All-append (λ (ds : List (Option ℕ)). storage_of cs ds ≤ limit) (visited visits) (distributions_of level)
          (subst (All (λ (ds : List (Option ℕ)). storage_of cs ds ≤ limit)) done-before s.within) (level-all (λ (ds : List (Option ℕ)). storage_of cs ds ≤ limit) (λ ds one. (level-storage ds one).1));
      low = All-append (λ (ds : List (Option ℕ)). storage_of cs ds < total + 1) (visited visits) (distributions_of level)
          (λ k d below. let before = subst (All (λ (ds : List (Option ℕ)). storage_of cs ds < floor)) done-before s.low k d below in omega (arith, before, floor-low))
          (level-all (λ (ds : List (Option ℕ)). storage_of cs ds < total + 1) (λ ds one. omega (arith, (level-storage ds one).0)));
      waits = λ k d below.
          let it = waits-old (slice_index_or new k d) (left-waited total level old new off (slice_index_or new k d) (Contains-get_or new k d below)) in
          let later = off.later k d below in
          record { total = it.total; within = it.within; above = omega (arith, later) };
      begins = λ small. found-in start (s.begins small);
      next = λ v ds one leads small. found-in ds (s.next v ds one leads small);
      rises = s.rises;
      led = λ ds found. s.led ds (found-back ds found);
    }

  pub frontier-level : (cs : List Channel) (start : List (Option ℕ)) (floor : ℕ) (visits : List Visit) (total : ℕ) (level : List (Found H)) (old new : Levels H) → IsLevelTaken total level old.waiting new.waiting → new.found ≡ old.found → IsSame old new → IsFrontier cs start floor visits [] old → IsFrontier cs start (total + 1) visits (distributions_of level) new
  frontier-level cs start floor visits total level old new off found same f = record {
    over = subst (IsOver cs) (sym same.channels) f.over;
    spread = subst (λ (b : Bounds). IsSpread cs start b.total (total + 1) visits (distributions_of level) new.waiting) (sym same.bounds) (spread-level cs start old.bounds.total floor visits total level old.waiting new.waiting off f.spread);
    found = omega (arith, found, f.found, level-long total level old.waiting new.waiting off, length-map level (λ (x : Found H). x.capacities.capacities));
    few = (let most : new.bounds.distributions ≡ old.bounds.distributions = ap (λ (b : Bounds). b.distributions) same.bounds in omega (arith, found, f.few, most));
  }

  -- a visit that leads on

  module _ (cs : List Channel) (start : List (Option ℕ)) (limit total : ℕ) (visits : List Visit) (taken : List (List (Option ℕ))) (v : Visit) (hint : H) (old : List (Found H)) (is_total : total ≡ storage_of cs v.capacities) (rises : Rises cs v) (s : IsSpread cs start limit (total + 1) visits (v.capacities ∷ taken) old) where
    same-done : visited (visits ++ v ∷ []) ++ taken ≡ visited visits ++ v.capacities ∷ taken
    same-done = visited-more visits v taken

    of-new : (f : Found H) → IsFoundBy cs limit v hint f → Waits cs limit (total + 1) f
    of-new f by = let more = rises f.capacities.capacities by.leads in record { total = by.total; above = omega (arith, by.total, is_total, more); within = by.within }

    waits-of : (fs : List (Found H)) → ((f : Found H) → Contains fs f → Contains old f ⊎ IsFoundBy cs limit v hint f) → (f : Found H) → Contains fs f → Waits cs limit (total + 1) f
    waits-of fs only f one = ⊎_elim (λ (h : Contains old f). All-contains (Waits cs limit (total + 1)) old f s.waits h) (λ (h : IsFoundBy cs limit v hint f). of-new f h) (only f one)

    led-of : (fs : List (Found H)) → ((f : Found H) → Contains fs f → Contains old f ⊎ IsFoundBy cs limit v hint f) → (f : Found H) → Contains fs f → IsLedTo cs start (visits ++ v ∷ []) f.capacities.capacities
    led-of fs only f one =
        ⊎_elim
        (λ (h : Contains old f). led-later cs start visits v f.capacities.capacities (s.led f.capacities.capacities (inr (f, h, refl))))
        (λ (h : IsFoundBy cs limit v hint f). led-here cs start visits v f.capacities.capacities h.leads)
        (only f one)

    done-led : (ds : List (Option ℕ)) → Contains (visited visits ++ v.capacities ∷ taken) ds → IsLedTo cs start (visits ++ v ∷ []) ds
    done-led ds one = led-later cs start visits v ds (s.led ds (inl one))

    module _ (new : List (Found H)) (on : AreLedOn cs limit v hint old new) where
      there : (ds : List (Option ℕ)) → WasFound (visited visits ++ v.capacities ∷ taken) old ds → WasFound (visited (visits ++ v ∷ []) ++ taken) new ds
      there ds found = found-more (visited visits ++ v.capacities ∷ taken) (visited (visits ++ v ∷ []) ++ taken) old new ds
          (λ es one. subst (λ (xs : List (List (Option ℕ))). Contains xs es) (sym same-done) one)
          (λ f one. inr (f, on.kept f one, refl))
          found

      nexts : (u : Visit) (ds : List (Option ℕ)) → Contains visits u ⊎ (v ≡ u) → LeadsTo cs u ds → storage_of cs ds ≤ limit → WasFound (visited (visits ++ v ∷ []) ++ taken) new ds
      nexts u ds (inl one) leads small = there ds (s.next u ds one leads small)
      nexts u ds (inr same) leads small = inr (on.there ds (subst (λ (x : Visit). LeadsTo cs x ds) (sym same) leads) small)

      pub spread-visit : IsSpread cs start limit (total + 1) (visits ++ v ∷ []) taken new
      spread-visit = record {
        order = subst (AreInOrder cs) (sym same-done) s.order;
        within = subst (All (λ (ds : List (Option ℕ)). storage_of cs ds ≤ limit)) (sym same-done) s.within;
        low = subst (All (λ (ds : List (Option ℕ)). storage_of cs ds < total + 1)) (sym same-done) s.low;
        waits = λ k d below. waits-of new on.only (slice_index_or new k d) (Contains-get_or new k d below);
        begins = λ small. there start (s.begins small);
        next = λ u ds one leads small. nexts u ds (Contains-push_cases visits v u one) leads small;
        rises = λ u one. ⊎_elim (λ (h : Contains visits u). s.rises u h) (λ (h : v ≡ u). subst (Rises cs) h rises) (Contains-push_cases visits v u one);
        led = λ ds found. ⊎_elim
            (λ (one : Contains (visited (visits ++ v ∷ []) ++ taken) ds). done-led ds (subst (λ (xs : List (List (Option ℕ))). Contains xs ds) same-done one))
            (λ (f : StandsIn new ds). subst (IsLedTo cs start (visits ++ v ∷ [])) f.2 (led-of new on.only f.0 f.1))
            found;
      }

    -- or more are found than allowed
    pub spread-past : (bounds : Bounds) (found : ℕ) → bounds.total ≡ limit → found ≡ length visits + length (v.capacities ∷ taken) + length old → AreTooManyLed cs bounds v hint found old → AreTooMany cs start bounds (visits ++ v ∷ [])
    spread-past bounds found same count past = record {
      found = (visited visits ++ v.capacities ∷ taken) ++ distributions_of past.all;
      order = order-append cs (visited visits ++ v.capacities ∷ taken) (distributions_of past.all) s.order (sorted-order cs past.all past.sorted (λ f one. (waits-of-all f one).total)) apart-new;
      within = subst (λ (n : ℕ). All (λ (ds : List (Option ℕ)). storage_of cs ds ≤ n) ((visited visits ++ v.capacities ∷ taken) ++ distributions_of past.all)) (sym same)
          (All-append (λ (ds : List (Option ℕ)). storage_of cs ds ≤ limit) (visited visits ++ v.capacities ∷ taken) (distributions_of past.all) s.within
          (λ k d below.
          let f = contains-unmap (λ (x : Found H). x.capacities.capacities) past.all (slice_index_or (distributions_of past.all) k d) (Contains-get_or (distributions_of past.all) k d below) in
          let waits = waits-of-all f.0 f.1 in
          subst (λ (ds : List (Option ℕ)). storage_of cs ds ≤ limit) f.2 (omega (arith, waits.total, waits.within))));
      led = λ ds one. ⊎_elim
          (λ (h : Contains (visited visits ++ v.capacities ∷ taken) ds). done-led ds h)
          (λ (h : Contains (distributions_of past.all) ds). let f = contains-unmap (λ (x : Found H). x.capacities.capacities) past.all ds h in subst (IsLedTo cs start (visits ++ v ∷ [])) f.2 (led-of past.all only f.0 f.1))
          (Contains-append_cases (visited visits ++ v.capacities ∷ taken) (distributions_of past.all) ds one);
      many = (
          let a = length-append (visited visits ++ v.capacities ∷ taken) (distributions_of past.all) in
          let b = length-append (visited visits) (v.capacities ∷ taken) in
          let c = length-map visits (λ (x : Visit). x.capacities) in
          let d = length-map past.all (λ (x : Found H). x.capacities.capacities) in
          omega (arith, a, b, c, d, past.count, count));
    }
      where
        only : (f : Found H) → Contains past.all f → Contains old f ⊎ IsFoundBy cs limit v hint f
        only f one = ⊎_elim (λ (h : Contains old f). inl h) (λ (h : IsFoundBy cs bounds.total v hint f). inr (subst (λ (n : ℕ). IsFoundBy cs n v hint f) same h)) (past.only f one)

        waits-of-all : (f : Found H) → Contains past.all f → Waits cs limit (total + 1) f
        waits-of-all = waits-of past.all only

        apart-new : (ds es : List (Option ℕ)) → Contains (visited visits ++ v.capacities ∷ taken) ds → Contains (distributions_of past.all) es → IsBefore cs ds es
        apart-new ds es one other =
            let f = contains-unmap (λ (x : Found H). x.capacities.capacities) past.all es other in
            let it = waits-of-all f.0 f.1 in
            let low = All-contains (λ (x : List (Option ℕ)). storage_of cs x < total + 1) (visited visits ++ v.capacities ∷ taken) ds s.low one in
            inl (subst (λ (x : List (Option ℕ)). storage_of cs ds < storage_of cs x) f.2 (omega (arith, low, it.above, it.total)))

  pub frontier-visit : (cs : List Channel) (start : List (Option ℕ)) (total : ℕ) (visits : List Visit) (taken : List (List (Option ℕ))) (v : Visit) (hint : H) (old new : Levels H) → total ≡ storage_of cs v.capacities → Rises cs v → IsFrontier cs start (total + 1) visits (v.capacities ∷ taken) old → AreLedOn cs old.bounds.total v hint old.waiting new.waiting → IsSame old new → new.found + length old.waiting ≡ old.found + length new.waiting → new.found ≤ old.bounds.distributions → IsFrontier cs start (total + 1) (visits ++ v ∷ []) taken new
  frontier-visit cs start total visits taken v hint old new is_total rises f on same count few = record {
    over = subst (IsOver cs) (sym same.channels) f.over;
    spread = subst (λ (b : Bounds). IsSpread cs start b.total (total + 1) (visits ++ v ∷ []) taken new.waiting) (sym same.bounds) (spread-visit cs start old.bounds.total total visits taken v hint old.waiting is_total rises f.spread new.waiting on);
    found = omega (arith, count, f.found, length-append visits (v ∷ []));
    few = (let most : new.bounds.distributions ≡ old.bounds.distributions = ap (λ (b : Bounds). b.distributions) same.bounds in omega (arith, few, most));
  }

  pub frontier-past : (cs : List Channel) (start : List (Option ℕ)) (total : ℕ) (visits : List Visit) (taken : List (List (Option ℕ))) (v : Visit) (hint : H) (old : Levels H) (e : LevelsError) → total ≡ storage_of cs v.capacities → Rises cs v → IsFrontier cs start (total + 1) visits (v.capacities ∷ taken) old → EndsWaiting old.channels old.bounds total v hint old.found old.waiting e → IsSpent cs start old.bounds (visits ++ v ∷ []) e
  frontier-past cs start total visits taken v hint old Spent is_total rises f ends =
      spread-past cs start old.bounds.total total visits taken v hint old.waiting is_total rises f.spread old.bounds old.found refl f.found (ends cs f.over is_total rises)
  frontier-past cs start total visits taken v hint old NoMemory is_total rises f ends = tt

  -- where none is needed any more

  pub spread-end : (cs : List Channel) (start : List (Option ℕ)) (limit floor storage : ℕ) (visits : List Visit) (pending : List (Found H)) → storage ≤ limit → (All (λ (ds : List (Option ℕ)). storage_of cs ds ≤ storage) (visited visits)) → ((f : Found H) → Contains pending f → storage < storage_of cs f.capacities.capacities) → IsSpread cs start limit floor visits [] pending → AreVisits cs start storage visits
  spread-end cs start limit floor storage visits pending low within late s = record {
    order = subst (AreInOrder cs) (append-nil (visited visits)) s.order;
    within = within;
    begins = λ small. done start small (s.begins (omega (arith, small, low)));
    next = λ v ds one leads small. done ds small (s.next v ds one leads (omega (arith, small, low)));
    rises = λ v ds one leads. s.rises v one ds leads;
    led = λ ds one. s.led ds (inl (Contains-append_left (visited visits) [] ds one));
  }
    where
      done : (ds : List (Option ℕ)) → storage_of cs ds ≤ storage → WasFound (visited visits ++ []) pending ds → Contains (visited visits) ds
      done ds small (inl one) = subst (λ (xs : List (List (Option ℕ))). Contains xs ds) (append-nil (visited visits)) one
      done ds small (inr (f, one, same)) = let is : storage_of cs f.capacities.capacities ≡ storage_of cs ds = ap (storage_of cs) same in absurd (omega (arith, is, small, late f one))

  pub frontier-end : (cs : List Channel) (start : List (Option ℕ)) (floor : ℕ) (visits : List Visit) (levels : Levels H) → levels.waiting ≡ [] → IsFrontier cs start floor visits [] levels → AreVisits cs start levels.bounds.total visits
  frontier-end cs start floor visits levels none f =
      spread-end cs start levels.bounds.total floor levels.bounds.total visits levels.waiting (omega arith)
      (subst (All (λ (ds : List (Option ℕ)). storage_of cs ds ≤ levels.bounds.total)) (append-nil (visited visits)) f.spread.within)
      (λ g one. absurd (contains-none g (subst (λ (xs : List (Found H)). Contains xs g) none one))) f.spread

  pub frontier-up_to : (cs : List Channel) (start : List (Option ℕ)) (storage : ℕ) (visits : List Visit) (levels : Levels H) → IsFrontier cs start (storage + 1) visits [] levels → storage ≤ levels.bounds.total → AreVisits cs start storage visits
  frontier-up_to cs start storage visits levels f low =
      spread-end cs start levels.bounds.total (storage + 1) storage visits levels.waiting low
      (λ k d below. let less = subst (All (λ (ds : List (Option ℕ)). storage_of cs ds < storage + 1)) (append-nil (visited visits)) f.spread.low k d below in omega (arith, less))
      (λ g one. let waits = All-contains (Waits cs levels.bounds.total (storage + 1)) levels.waiting g f.spread.waits one in omega (arith, waits.above, waits.total)) f.spread

  -- what is taken off is where the search stands next, and it ends where none waits
  pub next-frontier : (old new : Levels H) (found : Option (Level H)) → MatchOption found (old.waiting ≡ []) (λ (level : Level H). IsLevelTaken level.total level.visits.items old.waiting new.waiting) → new.found ≡ old.found → IsSame old new
      → (cs : List Channel) (start : List (Option ℕ)) (floor : ℕ) (visits : List Visit) → IsFrontier cs start floor visits [] old → MatchOption found (AreVisits cs start old.bounds.total visits) (λ (level : Level H). IsFrontier cs start (level.total + 1) visits (distributions_of level.visits.items) new)
  next-frontier old new None none found same cs start floor visits f = frontier-end cs start floor visits old none f
  next-frontier old new (Some level) off found same cs start floor visits f = frontier-level cs start floor visits level.total level.visits.items old new off found same f
