-- Those to which a visit leads, channel by channel.
use Rattle.std.proofs.Common.{◌≡◌, ℕ, ◌+◌, ◌*◌, ◌≤◌, ◌<◌, ◌⊎◌, Option, None, Some, List, [], ◌∷◌, ◌++◌, length, take, drop, inl, inr, ⊎_elim, refl, sym, ap, ◌∙◌, subst, arith}
use Rattle.std.specs.Prelude.{Contains, slice_index_or}
use Rattle.std.proofs.lemmas.List.{get_or-map, length-map, take-append-drop, take_all, take_more}
use Rattle.std.proofs.lemmas.List.Elements.{Contains-append_cases, Contains-append_left, Contains-append_right, Contains-get_or}
use Rattle.sd_base.specs.Net.{Channel, nowhere}
use Rattle.storage.specs.Distributions.{storage_of}
use Rattle.storage.specs.StorageOrder.{stepped}
use Rattle.storage.specs.Steps.{step_of}
use Rattle.levels.specs.declared.channel.ChannelStep.{ChannelStep}
use Rattle.levels.specs.declared.error.LevelsError.{LevelsError}
use Rattle.levels.specs.declared.error.LevelsError.TheVariants.{Spent, NoMemory}
use Rattle.levels.specs.declared.found.Found.{Found}
use Rattle.levels.specs.declared.levels.Bounds.{Bounds}
use Rattle.levels.specs.Visits.{LeadsTo, led_by}
use Rattle.levels.specs.Frontiers.{AreLedOn, IsFoundBy, IsOver, Rises, StandsIn, channel_step}
use Rattle.levels.specs.inside.Waiting.{AreTooManyLed, EndsWaiting, IsAdded, IsCopy, IsOneTooMany}
use Rattle.sd_base.proofs.ContainedHavePlaces.{contains-cases, contains-here, contains-none}
use Rattle.levels.proofs.RoomAddsStorage.{enlarged-at, enlarged-none, enlarged-some, room-storage}

-- by one channel a visit leads to one distribution
pub one-channel : (cs : List Channel) (ds : List (Option ℕ)) (c : ℕ) (es : List (Option ℕ)) → LeadsTo cs (led_by ds (c ∷ [])) es → es ≡ stepped cs ds c
one-channel cs ds c es (x, one, same) =
    ⊎_elim
    (λ (h : c ≡ x). same ∙ ap (λ (y : ℕ). stepped cs ds y) (sym h))
    (λ (none : Contains [] x). absurd (contains-none x none))
    (contains-cases c [] x one)

pub leads-one : (cs : List Channel) (ds : List (Option ℕ)) (c : ℕ) → LeadsTo cs (led_by ds (c ∷ [])) (stepped cs ds c)
leads-one cs ds c = (c, contains-here c [], refl)

pub known-long : (cs : List Channel) (channels : List ChannelStep) → IsOver cs channels → length channels ≡ length cs
known-long cs channels over = ap length over.known ∙ length-map cs channel_step

-- what is known of a channel
pub known-at : (cs : List Channel) (channels : List ChannelStep) (c : ℕ) (d : ChannelStep) → IsOver cs channels → c < length channels → slice_index_or channels c d ≡ channel_step (slice_index_or cs c nowhere)
known-at cs channels c d over below =
    ap (λ (xs : List ChannelStep). slice_index_or xs c d) over.known ∙ get_or-map channel_step cs c nowhere d (omega (arith, below, known-long cs channels over))

-- a channel with no capacity gets no more room, so no visit leads on by it
pub led-unbounded : {H : Type 0} (cs : List Channel) (limit : ℕ) (ds : List (Option ℕ)) (c : ℕ) (hint : H) (old : List (Found H)) → slice_index_or ds c None ≡ None → Rises cs (led_by ds (c ∷ [])) → AreLedOn cs limit (led_by ds (c ∷ [])) hint old old
led-unbounded cs limit ds c hint old none rises = absurd (omega (arith, less))
  where
    less : storage_of cs ds < storage_of cs ds
    less = subst (λ (es : List (Option ℕ)). storage_of cs ds < storage_of cs es) (enlarged-none ds c (step_of (slice_index_or cs c nowhere)) none) (rises (stepped cs ds c) (leads-one cs ds c))

module _ (cs : List Channel) (channels : List ChannelStep) (over : IsOver cs channels) (ds : List (Option ℕ)) (c room : ℕ) (below : c < length channels) (at : slice_index_or ds c None ≡ Some room) (of : ChannelStep) (is : of ≡ channel_step (slice_index_or cs c nowhere)) where
  place : c < length cs
  place = omega (arith, below, known-long cs channels over)

  -- the storage with a step more room
  pub stepped-storage : storage_of cs (stepped cs ds c) ≡ storage_of cs ds + of.step * of.size
  stepped-storage = subst (λ (x : ChannelStep). storage_of cs (stepped cs ds c) ≡ storage_of cs ds + x.step * x.size) (sym is) (enlarged-some cs ds c room (step_of (slice_index_or cs c nowhere)) place at)

  stepped-room : room + of.step ≤ storage_of cs (stepped cs ds c)
  stepped-room =
      subst (λ (x : ChannelStep). room + x.step ≤ storage_of cs (stepped cs ds c)) (sym is)
      (room-storage cs (stepped cs ds c) c (room + step_of (slice_index_or cs c nowhere)) place (over.some_size c place) (enlarged-at ds c room (step_of (slice_index_or cs c nowhere)) at))

  -- beyond the limit nothing is led to
  pub led-beyond : {H : Type 0} (limit total : ℕ) (hint : H) (old : List (Found H)) → total ≡ storage_of cs ds → (limit < total + of.step * of.size) ⊎ (limit < room + of.step) → AreLedOn cs limit (led_by ds (c ∷ [])) hint old old
  led-beyond limit total hint old is_total beyond = record {
    kept = λ f one. one;
    only = λ f one. inl one;
    there = λ es leads within.
        let fits : storage_of cs (stepped cs ds c) ≤ limit = subst (λ (x : List (Option ℕ)). storage_of cs x ≤ limit) (one-channel cs ds c es leads) within in
        absurd (⊎_elim
        (λ (past : limit < total + of.step * of.size). omega (arith, past, fits, is_total, stepped-storage))
        (λ (large : limit < room + of.step). omega (arith, large, fits, stepped-room))
        beyond);
  }

  module _ {H : Type 0} (limit total : ℕ) (hint : H) (child : Found H) (is_total : total ≡ storage_of cs ds) (capacities : child.capacities.capacities ≡ stepped cs ds c) (totals : child.total ≡ total + of.step * of.size) (within : child.total ≤ limit) (hints : child.hint ≡ hint) where
    found-copy : (f : Found H) → IsCopy child f → IsFoundBy cs limit (led_by ds (c ∷ [])) hint f
    found-copy f copy =
        let same : f.capacities.capacities ≡ stepped cs ds c = copy.capacities ∙ capacities in
        let storage : storage_of cs f.capacities.capacities ≡ storage_of cs (stepped cs ds c) = ap (storage_of cs) same in
        record {
          leads = (c, contains-here c [], same);
          total = omega (arith, copy.total, totals, is_total, storage, stepped-storage);
          within = omega (arith, copy.total, within);
          hinted = copy.hint ∙ hints;
        }

    -- the child waits, so that is led to
    pub led-child : (old new : List (Found H)) → IsAdded child old new → AreLedOn cs limit (led_by ds (c ∷ [])) hint old new
    led-child old new added = record {
      kept = added.kept;
      only = λ f one. ⊎_elim (λ (h : Contains old f). inl h) (λ (h : IsCopy child f). inr (found-copy f h)) (added.only f one);
      there = λ es leads fits. (added.there.0, added.there.1, added.there.2 ∙ (capacities ∙ sym (one-channel cs ds c es leads)));
    }

    pub led-past : (bounds : Bounds) (found : ℕ) (old : List (Found H)) → bounds.total ≡ limit → IsOneTooMany child bounds found old → AreTooManyLed cs bounds (led_by ds (c ∷ [])) hint found old
    led-past bounds found old same past = record {
      all = past.all;
      only = λ f one. ⊎_elim (λ (h : Contains old f). inl h) (λ (h : IsCopy child f). inr (subst (λ (n : ℕ). IsFoundBy cs n (led_by ds (c ∷ [])) hint f) (sym same) (found-copy f h))) (past.only f one);
      sorted = past.sorted;
      count = past.count;
    }

-- one channel after another

leads-part : (cs : List Channel) (ds : List (Option ℕ)) (xs ys : List ℕ) → ((c : ℕ) → Contains xs c → Contains ys c) → (es : List (Option ℕ)) → LeadsTo cs (led_by ds xs) es → LeadsTo cs (led_by ds ys) es
leads-part cs ds xs ys all es (c, one, same) = (c, all c one, same)

pub rises-part : (cs : List Channel) (ds : List (Option ℕ)) (xs ys : List ℕ) → ((c : ℕ) → Contains xs c → Contains ys c) → Rises cs (led_by ds ys) → Rises cs (led_by ds xs)
rises-part cs ds xs ys all rises es leads = rises es (leads-part cs ds xs ys all es leads)

found-part : {H : Type 0} (cs : List Channel) (limit : ℕ) (ds : List (Option ℕ)) (xs ys : List ℕ) (hint : H) (f : Found H) → ((c : ℕ) → Contains xs c → Contains ys c) → IsFoundBy cs limit (led_by ds xs) hint f → IsFoundBy cs limit (led_by ds ys) hint f
found-part cs limit ds xs ys hint f all is = record { leads = leads-part cs ds xs ys all f.capacities.capacities is.leads; total = is.total; within = is.within; hinted = is.hinted }

pub led-append : {H : Type 0} (cs : List Channel) (limit : ℕ) (ds : List (Option ℕ)) (xs ys : List ℕ) (hint : H) (old now new : List (Found H)) → AreLedOn cs limit (led_by ds xs) hint old now → AreLedOn cs limit (led_by ds ys) hint now new → AreLedOn cs limit (led_by ds (xs ++ ys)) hint old new
led-append cs limit ds xs ys hint old now new first second = record {
  kept = λ f one. second.kept f (first.kept f one);
  only = λ f one.
      ⊎_elim
      (λ (h : Contains now f).
      ⊎_elim
      (λ (k : Contains old f). inl k)
      (λ (k : IsFoundBy cs limit (led_by ds xs) hint f). inr (found-part cs limit ds xs (xs ++ ys) hint f (λ c has. Contains-append_left xs ys c has) k))
      (first.only f h))
      (λ (h : IsFoundBy cs limit (led_by ds ys) hint f). inr (found-part cs limit ds ys (xs ++ ys) hint f (λ c has. Contains-append_right xs ys c has) h))
      (second.only f one);
  there = λ es leads within. at leads.0 es within leads.2 (Contains-append_cases xs ys leads.0 leads.1);
}
  where
    at : (c : ℕ) (es : List (Option ℕ)) → storage_of cs es ≤ limit → es ≡ stepped cs ds c → Contains xs c ⊎ Contains ys c → StandsIn new es
    at c es within same (inl front) = let found = first.there es (c, front, same) within in (found.0, second.kept found.0 found.1, found.2)
    at c es within same (inr back) = second.there es (c, back, same) within

-- the channels so far
pub part-so-far : (xs : List ℕ) (n : ℕ) (c : ℕ) → n < length xs → Contains (slice_index_or xs n 0 ∷ []) c → Contains xs c
part-so-far xs n c below one =
    ⊎_elim
    (λ (h : slice_index_or xs n 0 ≡ c). subst (Contains xs) h (Contains-get_or xs n 0 below))
    (λ (none : Contains [] c). absurd (contains-none c none))
    (contains-cases (slice_index_or xs n 0) [] c one)

pub led-more : {H : Type 0} (cs : List Channel) (limit : ℕ) (ds : List (Option ℕ)) (xs : List ℕ) (n : ℕ) (hint : H) (old now new : List (Found H)) → n < length xs → AreLedOn cs limit (led_by ds (take n xs)) hint old now → AreLedOn cs limit (led_by ds (slice_index_or xs n 0 ∷ [])) hint now new → AreLedOn cs limit (led_by ds (take (n + 1) xs)) hint old new
led-more cs limit ds xs n hint old now new below first second =
    subst (λ (ys : List ℕ). AreLedOn cs limit (led_by ds ys) hint old new) (sym (take_more xs n 0 below)) (led-append cs limit ds (take n xs) (slice_index_or xs n 0 ∷ []) hint old now new first second)

pub led-all : {H : Type 0} (cs : List Channel) (limit : ℕ) (ds : List (Option ℕ)) (xs : List ℕ) (n : ℕ) (hint : H) (old new : List (Found H)) → length xs ≤ n → AreLedOn cs limit (led_by ds (take n xs)) hint old new → AreLedOn cs limit (led_by ds xs) hint old new
led-all cs limit ds xs n hint old new past led = subst (λ (ys : List ℕ). AreLedOn cs limit (led_by ds ys) hint old new) (take_all n xs past) led

-- what ended one channel ends all
pub past-more : {H : Type 0} (cs : List Channel) (bounds : Bounds) (ds : List (Option ℕ)) (xs : List ℕ) (n : ℕ) (hint : H) (first found : ℕ) (old now : List (Found H)) → n < length xs → AreLedOn cs bounds.total (led_by ds (take n xs)) hint old now → found + length old ≡ first + length now → AreTooManyLed cs bounds (led_by ds (slice_index_or xs n 0 ∷ [])) hint found now → AreTooManyLed cs bounds (led_by ds xs) hint first old
past-more cs bounds ds xs n hint first found old now below led count past = record {
  all = past.all;
  only = λ f one.
      ⊎_elim
      (λ (h : Contains now f).
      ⊎_elim
      (λ (k : Contains old f). inl k)
      (λ (k : IsFoundBy cs bounds.total (led_by ds (take n xs)) hint f). inr (found-part cs bounds.total ds (take n xs) xs hint f (λ c has. from-take c has) k))
      (led.only f h))
      (λ (h : IsFoundBy cs bounds.total (led_by ds (slice_index_or xs n 0 ∷ [])) hint f). inr (found-part cs bounds.total ds (slice_index_or xs n 0 ∷ []) xs hint f (λ c has. part-so-far xs n c below has) h))
      (past.only f one);
  sorted = past.sorted;
  count = omega (arith, past.count, count);
}
  where
    from-take : (c : ℕ) → Contains (take n xs) c → Contains xs c
    from-take c has = subst (λ (ys : List ℕ). Contains ys c) (take-append-drop n xs) (Contains-append_left (take n xs) (drop n xs) c has)

-- the same where each step is from a copy of the distribution

pub led-step : {H : Type 0} (cs : List Channel) (limit other : ℕ) (ds es : List (Option ℕ)) (xs : List ℕ) (n : ℕ) (hint : H) (old now new : List (Found H)) → n < length xs → es ≡ ds → other ≡ limit → AreLedOn cs limit (led_by ds (take n xs)) hint old now → AreLedOn cs other (led_by es (slice_index_or xs n 0 ∷ [])) hint now new → AreLedOn cs limit (led_by ds (take (n + 1) xs)) hint old new
led-step cs limit other ds es xs n hint old now new below same same_limit first second =
    led-more cs limit ds xs n hint old now new below first
    (subst (λ (fs : List (Option ℕ)). AreLedOn cs limit (led_by fs (slice_index_or xs n 0 ∷ [])) hint now new) same (subst (λ (k : ℕ). AreLedOn cs k (led_by es (slice_index_or xs n 0 ∷ [])) hint now new) same_limit second))

pub ends-more : {H : Type 0} (channels others : List ChannelStep) (bounds other : Bounds) (ds es : List (Option ℕ)) (xs : List ℕ) (n total : ℕ) (hint : H) (first found : ℕ) (old now : List (Found H)) (e : LevelsError) → n < length xs → es ≡ ds → others ≡ channels → other ≡ bounds
    → ((cs : List Channel) → IsOver cs channels → total ≡ storage_of cs ds → Rises cs (led_by ds xs) → AreLedOn cs bounds.total (led_by ds (take n xs)) hint old now) → found + length old ≡ first + length now
    → EndsWaiting others other total (led_by es (slice_index_or xs n 0 ∷ [])) hint found now e → EndsWaiting channels bounds total (led_by ds xs) hint first old e
ends-more channels others bounds other ds es xs n total hint first found old now NoMemory below same same_channels same_bounds led count ends = tt
ends-more channels others bounds other ds es xs n total hint first found old now Spent below same same_channels same_bounds led count ends = λ cs over is rises.
    let mine : Rises cs (led_by ds (slice_index_or xs n 0 ∷ [])) = rises-part cs ds (slice_index_or xs n 0 ∷ []) xs (λ c has. part-so-far xs n c below has) rises in
    let past : AreTooManyLed cs other (led_by es (slice_index_or xs n 0 ∷ [])) hint found now =
    ends cs (subst (IsOver cs) (sym same_channels) over) (is ∙ ap (storage_of cs) (sym same)) (subst (λ (fs : List (Option ℕ)). Rises cs (led_by fs (slice_index_or xs n 0 ∷ []))) (sym same) mine) in
    past-more cs bounds ds xs n hint first found old now below (led cs over is rises) count
    (subst (λ (fs : List (Option ℕ)). AreTooManyLed cs bounds (led_by fs (slice_index_or xs n 0 ∷ [])) hint found now) same (subst (λ (b : Bounds). AreTooManyLed cs b (led_by es (slice_index_or xs n 0 ∷ [])) hint found now) same_bounds past))
