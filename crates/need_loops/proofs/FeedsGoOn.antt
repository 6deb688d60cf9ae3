-- What the next firing of an actor needs, as firings are added.
use Rattle.std.proofs.Common.{◌≡◌, ◌≢◌, ℕ, zero, suc, ◌+◌, ◌-◌, ◌*◌, ◌^◌, ◌≤◌, ◌<◌, ◌⊎◌, Some, List, [], ◌∷◌, ◌++◌, length, sum, inl, inr, ⊎_elim, subst, sym, refl, ap, ◌∙◌, arith, set, mul-le-mul_left, mul-le-mul_right}
use Rattle.std.specs.Prelude.{replicate, slice_get, slice_index, slice_index_or}
use Rattle.std.proofs.lemmas.Bool.{cases_lt}
use Rattle.std.proofs.lemmas.List.{get_or-replicate, get_or_push, length_push, get_or_default, length-set, get_or-set_same, get_or-set_other}
use Rattle.std.proofs.lemmas.Option.{slice_get-get_or, get_or_from_slice_get, slice_get_within}
use Rattle.sd_base.specs.declared.limits.TheConstants.{NET_TOKENS, RATE}
use Rattle.sd_base.specs.Net.{Net, channel_at, phase_entry, total}
use Rattle.sd_base.specs.Schedules.{phases_at, count_of}
use Rattle.sd_base.specs.Lawful.{Lawful}
use Rattle.sd_base.proofs.SumsRepeatByTurns.{total-zero, total-suc}
use Rattle.sd_base.proofs.FiringsKeepOrder.{one_time}
use Rattle.sd_base.proofs.ElementsKeepPlaces.{get-pushed, get-left}
use Rattle.firing.specs.declared.sums.Port.TheVariants.{Taken}
use Rattle.firing.specs.Wiring.{IsListed}
use Rattle.firing.proofs.PlacesAreListed.{place_of}
use Rattle.need_loops.specs.declared.feeds.Feed.{Feed}
use Rattle.need_loops.specs.declared.feeds.NextFiring.{NextFiring}
use Rattle.need_loops.specs.inside.Needing.{IsFeedOf, Feeds, Advances, Paces, HasFeed, IsFeedInto, IsNextOf, AreNext}

-- ---- sums of one rate

pub total-one : (r n : ℕ) → total (r ∷ []) n ≡ n * r
total-one r zero = rw total-zero (omega arith)
total-one r (suc n) =
    let rate : phase_entry (r ∷ []) n ≡ r = one_time (r ∷ []) n 0 (omega arith) in
    rw total-suc (omega (arith, rate, total-one r n))

pub all-made : (net : Net) (i n : ℕ) (f : Feed) → IsFeedOf net i f → total (channel_at net i).made n ≡ n * f.made
all-made net i n f of = rw of.made (total-one f.made n)

pub all-taken : (net : Net) (i n : ℕ) (f : Feed) → IsFeedOf net i f → total (channel_at net i).taken n ≡ n * f.taken
all-taken net i n f of = rw of.taken (total-one f.taken n)

-- ---- a feed goes on

of-next : (net : Net) (i : ℕ) (old new : Feed) → IsFeedOf net i old → Advances old new → IsFeedOf net i new
of-next net i old new of goes = record {
  source = goes.source ∙ of.source;
  time = of.time ∙ ap (λ (t : ℕ). t ∷ []) (sym goes.time);
  made = of.made ∙ ap (λ (r : ℕ). r ∷ []) (sym goes.made);
  taken = of.taken ∙ ap (λ (r : ℕ). r ∷ []) (sym goes.taken);
}

pub fed-next : (net : Net) (i n : ℕ) (old new : Feed) → Feeds net i n old → Advances old new → Feeds net i (n + 1) new
fed-next net i n old new fed goes = record { of = of; left = left; least = λ m below. least m below goes.least }
  where
    of : IsFeedOf net i new
    of = of-next net i old new fed.of goes

    before_it : old.left + n * new.taken ≡ (channel_at net i).tokens + old.firings * new.made
    before_it = rw (goes.taken, goes.made, ← all-taken net i n old fed.of, ← all-made net i old.firings old fed.of) fed.left

    after_it : new.left + (n + 1) * new.taken ≡ (channel_at net i).tokens + new.firings * new.made
    after_it =
        let moved : new.left + new.taken + old.firings * new.made ≡ old.left + new.firings * new.made = goes.left in
        omega (arith, before_it)

    left : new.left + total (channel_at net i).taken (n + 1) ≡ (channel_at net i).tokens + total (channel_at net i).made new.firings
    left = rw (all-taken net i (n + 1) new of, all-made net i new.firings new of) after_it

    least : (m : ℕ) → m < new.firings → (new.firings ≡ old.firings) ⊎ (new.left < new.made) → (channel_at net i).tokens + total (channel_at net i).made m < total (channel_at net i).taken (n + 1)
    least m below (inl same) =
        let short : (channel_at net i).tokens + total (channel_at net i).made m < total (channel_at net i).taken n = fed.least m (omega arith) in
        omega (arith, all-taken net i n new of, all-taken net i (n + 1) new of)
    least m below (inr little) =
        let le : (m + 1) * new.made ≤ new.firings * new.made = mul-le-mul_right new.made (omega arith) in
        rw (all-taken net i (n + 1) new of, all-made net i m new of) (omega (arith, after_it))

-- ---- what the numbers of a feed are

pub some-made : (net : Net) (i n : ℕ) (f : Feed) → Lawful net → i < length net.channels → Feeds net i n f → 1 ≤ f.made
some-made net i n f laws place fed =
    let some : 1 ≤ sum (f.made ∷ []) = rw (fed.of.made) at (laws.some_made i place) in omega arith

pub small-made : (net : Net) (i n : ℕ) (f : Feed) → Lawful net → i < length net.channels → Feeds net i n f → f.made ≤ RATE
small-made net i n f laws place fed = rw (fed.of.made) at (laws.small_made i 0 place)

pub small-taken : (net : Net) (i n : ℕ) (f : Feed) → Lawful net → i < length net.channels → Feeds net i n f → f.taken ≤ RATE
small-taken net i n f laws place fed = rw (fed.of.taken) at (laws.small_taken i 0 place)

-- with the last of its firings there are few tokens over
last-needed : (net : Net) (i n : ℕ) (f : Feed) → Feeds net i n f → 1 ≤ f.firings → ((channel_at net i).tokens + (f.firings - 1) * f.made < n * f.taken) × (f.left < f.made)
last-needed net i n f fed some =
    let short : (channel_at net i).tokens + total (channel_at net i).made (f.firings - 1) < total (channel_at net i).taken n = fed.least (f.firings - 1) (omega arith) in
    let needed : (channel_at net i).tokens + (f.firings - 1) * f.made < n * f.taken = rw (all-taken net i n f fed.of, all-made net i (f.firings - 1) f fed.of) at short in
    let even : f.left + n * f.taken ≡ (channel_at net i).tokens + f.firings * f.made = rw (all-taken net i n f fed.of, all-made net i f.firings f fed.of) at fed.left in
    let more : f.firings ≡ (f.firings - 1) + 1 = omega arith in
    let each : f.firings * f.made ≡ ((f.firings - 1) + 1) * f.made = ap (λ (k : ℕ). k * f.made) more in
    (needed, omega arith)

pub few-left : (net : Net) (i n : ℕ) (f : Feed) → Lawful net → i < length net.channels → Feeds net i n f → f.left ≤ NET_TOKENS
few-left net i n f laws place fed = ⊎_elim
    (λ (none : f.firings < 1).
    let zero_of : f.firings ≡ 0 = omega arith in
    let even : f.left + total (channel_at net i).taken n ≡ (channel_at net i).tokens + total (channel_at net i).made 0 = rw zero_of at fed.left in
    omega (arith, total-zero (channel_at net i).made, laws.few_tokens i place))
    (λ (some : 1 ≤ f.firings). omega (arith, last-needed net i n f fed some, small-made net i n f laws place fed))
    (cases_lt f.firings 1)

pub few-firings : (net : Net) (i n : ℕ) (f : Feed) → Lawful net → i < length net.channels → Feeds net i n f → n ≤ 2 ^ 41 → f.firings ≤ 2 ^ 62
few-firings net i n f laws place fed few = ⊎_elim
    (λ (none : f.firings < 1). omega arith)
    (λ (some : 1 ≤ f.firings).
    let taken : n * f.taken ≤ n * RATE = mul-le-mul_left n (small-taken net i n f laws place fed) in
    let made : (f.firings - 1) * 1 ≤ (f.firings - 1) * f.made = mul-le-mul_left (f.firings - 1) (some-made net i n f laws place fed) in
    omega (arith, last-needed net i n f fed some))
    (cases_lt f.firings 1)

-- ---- all feeds of an actor go on

-- those before n have gone on, and the others are as before
pub record AreAdvanced (n : ℕ) (old new : List Feed) : Type 0 where
  pub long : length new ≡ length old
  pub done : (j : ℕ) (d : Feed) → j < n → Advances (slice_index_or old j d) (slice_index_or new j d)
  pub rest : (j : ℕ) (d : Feed) → n ≤ j → slice_index_or new j d ≡ slice_index_or old j d

pub advanced-more : (n : ℕ) (old new : List Feed) (f g : Feed) → AreAdvanced n old new → n < length new → f ≡ slice_index_or new n f → Advances f g → AreAdvanced (n + 1) old (set new n g)
advanced-more n old new f g so_far within read goes = record {
  long = length-set new n g ∙ so_far.long;
  done = λ j d below. ⊎_elim
      (λ (before_it : j < n).
      let ne : j ≢ n = omega arith in
      subst (Advances (slice_index_or old j d)) (sym (get_or-set_other new n j g d ne)) (so_far.done j d before_it))
      (λ (past : n ≤ j).
      let same : n ≡ j = omega arith in
      subst (λ (k : ℕ). Advances (slice_index_or old k d) (slice_index_or (set new n g) k d)) same (here d))
      (cases_lt j n);
  rest = λ j d h. let ne : j ≢ n = omega arith in get_or-set_other new n j g d ne ∙ so_far.rest j d (omega arith);
}
  where
    here : (d : Feed) → Advances (slice_index_or old n d) (slice_index_or (set new n g) n d)
    here d =
        let was : slice_index_or old n d ≡ f = sym (so_far.rest n d (omega arith)) ∙ (get_or_default new n d f within ∙ sym read) in
        rw (was, get_or-set_same new n g d within) goes

-- a feed that hasn't gone on yet
pub feed-at : (net : Net) (a n place : ℕ) (next : NextFiring) (new : List Feed) (f : Feed) → IsNextOf net a n next → AreAdvanced place next.feeds.items new → place < length new → f ≡ slice_index_or new place f → IsFeedInto net a (n + 1) f
feed-at net a n place next new f of so_far within read =
    let was : slice_index_or next.feeds.items place f ≡ f = sym (so_far.rest place f (omega arith)) ∙ sym read in
    let there : slice_get next.feeds.items place ≡ Some (slice_index_or next.feeds.items place f) = slice_get-get_or next.feeds.items place f (omega (arith, so_far.long)) in
    of.each place f (rw was at there)

pub next-goes-on : (net : Net) (a n m : ℕ) (old new : NextFiring) → IsNextOf net a n old → new.pause ≡ old.pause → AreAdvanced m old.feeds.items new.feeds.items → length new.feeds.items ≤ m → IsNextOf net a (n + 1) new
next-goes-on net a n m old new of same steps every = record {
  pause = subst (λ (t : ℕ). (t ≡ 0) ⊎ ((i : ℕ) × Paces net a i t)) (sym same) of.pause;
  each = each;
  all = λ i place into. all i (of.all i place into);
}
  where
    each : (j : ℕ) (f : Feed) → slice_get new.feeds.items j ≡ Some f → IsFeedInto net a (n + 1 + 1) f
    each j f there =
        let within : j < length new.feeds.items = slice_get_within new.feeds.items j f there in
        let read : slice_index_or new.feeds.items j f ≡ f = get_or_from_slice_get new.feeds.items j f f there in
        let goes : Advances (slice_index_or old.feeds.items j f) f = subst (Advances (slice_index_or old.feeds.items j f)) read (steps.done j f (omega arith)) in
        let was : IsFeedInto net a (n + 1) (slice_index_or old.feeds.items j f) = of.each j (slice_index_or old.feeds.items j f) (slice_get-get_or old.feeds.items j f (omega (arith, steps.long))) in
        record {
          channel = was.channel;
          place = was.place;
          into = was.into;
          feeds_it = fed-next net was.channel (n + 1) (slice_index_or old.feeds.items j f) f was.feeds_it goes;
        }

    all : (i : ℕ) → Paces net a i old.pause ⊎ HasFeed net i (n + 1) old.feeds.items → Paces net a i new.pause ⊎ HasFeed net i (n + 1 + 1) new.feeds.items
    all i (inl paces) = inl (subst (Paces net a i) (sym same) paces)
    all i (inr has) =
        let within : has.place < length old.feeds.items = slice_get_within old.feeds.items has.place has.feed has.there in
        let read : slice_index_or old.feeds.items has.place has.feed ≡ has.feed = get_or_from_slice_get old.feeds.items has.place has.feed has.feed has.there in
        let goes : Advances has.feed (slice_index_or new.feeds.items has.place has.feed) =
        subst (λ (f : Feed). Advances f (slice_index_or new.feeds.items has.place has.feed)) read (steps.done has.place has.feed (omega (arith, steps.long))) in
        inr (record {
          feed = slice_index_or new.feeds.items has.place has.feed;
          place = has.place;
          there = slice_get-get_or new.feeds.items has.place has.feed (omega (arith, steps.long));
          feeds_it = fed-next net i (n + 1) has.feed (slice_index_or new.feeds.items has.place has.feed) has.feeds_it goes;
        })

-- ---- the first firing

alone : (xs : List ℕ) (n : ℕ) → length xs ≡ 1 → n ≡ slice_index xs 0 → xs ≡ n ∷ []
alone [] n one is = absurd (omega arith)
alone (x ∷ []) n one is = ap (λ (y : ℕ). y ∷ []) (sym is)
alone (x ∷ y ∷ xs) n one is = absurd (omega arith)

module _ (net : Net) (laws : Lawful net) (single : (a : ℕ) → a < length net.times → phases_at net a ≡ 1) where
  -- each channel has one rate at each end
  one-made : (i n : ℕ) → i < length net.channels → n ≡ slice_index (channel_at net i).made 0 → (channel_at net i).made ≡ n ∷ []
  one-made i n place is = alone (channel_at net i).made n (laws.made_phases i place ∙ single (channel_at net i).source (laws.sources i place)) is

  one-taken : (i n : ℕ) → i < length net.channels → n ≡ slice_index (channel_at net i).taken 0 → (channel_at net i).taken ≡ n ∷ []
  one-taken i n place is = alone (channel_at net i).taken n (laws.taken_phases i place ∙ single (channel_at net i).target (laws.targets i place)) is

  pub some-first : (i n : ℕ) → i < length net.channels → n ≡ slice_index (channel_at net i).made 0 → 1 ≤ n
  some-first i n place is =
      let some : 1 ≤ sum (n ∷ []) = rw (one-made i n place is) at (laws.some_made i place) in omega arith

  -- before any firing a channel needs nothing
  pub first-feed : (i : ℕ) (f : Feed) → i < length net.channels → f.source ≡ (channel_at net i).source →
      f.time ≡ slice_index (slice_index_or net.times (channel_at net i).source []) 0 →
      f.made ≡ slice_index (channel_at net i).made 0 → f.taken ≡ slice_index (channel_at net i).taken 0 →
      f.firings ≡ 0 → f.left ≡ (channel_at net i).tokens → Feeds net i 0 f
  first-feed i f place source time made taken none all = record {
    of = record {
      source = source;
      time = alone (slice_index_or net.times (channel_at net i).source []) f.time (single (channel_at net i).source (laws.sources i place)) time;
      made = one-made i f.made place made;
      taken = one-taken i f.taken place taken;
    };
    left = rw (none, all, total-zero (channel_at net i).taken, total-zero (channel_at net i).made) refl;
    least = λ m below. absurd (omega arith);
  }

  -- a channel from a to a with one token and rates 1
  pub paces-of : (a i time : ℕ) → i < length net.channels → (channel_at net i).source ≡ a → (channel_at net i).target ≡ a → (channel_at net i).tokens ≡ 1 →
      1 ≡ slice_index (channel_at net i).made 0 → 1 ≡ slice_index (channel_at net i).taken 0 →
      time ≡ slice_index (slice_index_or net.times a []) 0 → Paces net a i time
  paces-of a i time place source target tokens made taken is = record {
    place = place;
    source = source;
    target = target;
    tokens = tokens;
    made = one-made i 1 place made;
    taken = one-taken i 1 place taken;
    time = alone (slice_index_or net.times a []) time (single a (rw target at (laws.targets i place))) is;
  }

-- of the channels into a, the first n pace it or have a feed
pub record AreFirst (net : Net) (a : ℕ) (inputs : List ℕ) (n time : ℕ) (feeds : List Feed) : Type 0 where
  pub pause : (time ≡ 0) ⊎ ((i : ℕ) × Paces net a i time)
  pub each : (j : ℕ) (f : Feed) → slice_get feeds j ≡ Some f → IsFeedInto net a 1 f
  pub all : (j : ℕ) → j < n → Paces net a (slice_index inputs j) time ⊎ HasFeed net (slice_index inputs j) 1 feeds

-- whatever paces a is its time
one-pause : (net : Net) (a i j s t : ℕ) → Paces net a i s → Paces net a j t → s ≡ t
one-pause net a i j s t one other = let same : s ∷ [] ≡ t ∷ [] = sym one.time ∙ other.time in cc

pub first-pause : (net : Net) (a : ℕ) (inputs : List ℕ) (n pause time : ℕ) (feeds : List Feed) → IsListed net Taken a inputs → n < length inputs →
    AreFirst net a inputs n pause feeds → Paces net (channel_at net (slice_index inputs n)).target (slice_index inputs n) time → AreFirst net a inputs (n + 1) time feeds
first-pause net a inputs n pause time feeds listed within so_far own = record {
  pause = inr (slice_index inputs n, paces);
  each = so_far.each;
  all = λ j below. ⊎_elim
      (λ (old : j < n). either j (so_far.all j old))
      (λ (new : n ≤ j). let same : n ≡ j = omega arith in inl (subst (λ (k : ℕ). Paces net a (slice_index inputs k) time) same paces))
      (cases_lt j n);
}
  where
    paces : Paces net a (slice_index inputs n) time
    paces = subst (λ (b : ℕ). Paces net b (slice_index inputs n) time) (listed.there n within) own

    either : (j : ℕ) → Paces net a (slice_index inputs j) pause ⊎ HasFeed net (slice_index inputs j) 1 feeds → Paces net a (slice_index inputs j) time ⊎ HasFeed net (slice_index inputs j) 1 feeds
    either j (inl other) = inl (subst (Paces net a (slice_index inputs j)) (one-pause net a (slice_index inputs j) (slice_index inputs n) pause time other paces) other)
    either j (inr has) = inr has

pub first-push : (net : Net) (a : ℕ) (inputs : List ℕ) (n pause : ℕ) (feeds : List Feed) (f : Feed) → IsListed net Taken a inputs → n < length inputs →
    AreFirst net a inputs n pause feeds → Feeds net (slice_index inputs n) 1 f → AreFirst net a inputs (n + 1) pause (feeds ++ f ∷ [])
first-push net a inputs n pause feeds f listed within so_far fed = record {
  pause = so_far.pause;
  each = λ j g there. ⊎_elim (so_far.each j g) (λ (new : (j ≡ length feeds) × (g ≡ f)). subst (IsFeedInto net a 1) (sym new.1) here) (get-pushed feeds f g j there);
  all = λ j below. ⊎_elim
      (λ (old : j < n). either j (so_far.all j old))
      (λ (new : n ≤ j). let same : n ≡ j = omega arith in inr (subst (λ (k : ℕ). HasFeed net (slice_index inputs k) 1 (feeds ++ f ∷ [])) same has))
      (cases_lt j n);
}
  where
    here : IsFeedInto net a 1 f
    here = record { channel = slice_index inputs n; place = listed.place n within; into = listed.there n within; feeds_it = fed }

    has : HasFeed net (slice_index inputs n) 1 (feeds ++ f ∷ [])
    has = record {
      feed = f;
      place = length feeds;
      there = slice_get-get_or (feeds ++ f ∷ []) (length feeds) f (omega (arith, length_push feeds f)) ∙ ap Some (get_or_push feeds f f (length feeds) refl);
      feeds_it = fed;
    }

    either : (j : ℕ) → Paces net a (slice_index inputs j) pause ⊎ HasFeed net (slice_index inputs j) 1 feeds → Paces net a (slice_index inputs j) pause ⊎ HasFeed net (slice_index inputs j) 1 (feeds ++ f ∷ [])
    either j (inl paces) = inl paces
    either j (inr old) = inr (record { feed = old.feed; place = old.place; there = get-left feeds (f ∷ []) old.place old.feed old.there; feeds_it = old.feeds_it })

-- all channels into a are among the first ones
pub first-next : (net : Net) (a : ℕ) (inputs : List ℕ) (n : ℕ) (next : NextFiring) → IsListed net Taken a inputs → length inputs ≤ n → AreFirst net a inputs n next.pause next.feeds.items → IsNextOf net a 0 next
first-next net a inputs n next listed every first = record {
  pause = first.pause;
  each = λ j f there. subst (λ (m : ℕ). IsFeedInto net a m f) one (first.each j f there);
  all = λ i place into.
      let at = place_of net Taken a inputs listed i place into in
      either i (subst (λ (k : ℕ). Paces net a k next.pause ⊎ HasFeed net k 1 next.feeds.items) at.2 (first.all at.0 (omega (arith, at.1))));
}
  where
    one : 1 ≡ 0 + 1
    one = omega arith

    either : (i : ℕ) → Paces net a i next.pause ⊎ HasFeed net i 1 next.feeds.items → Paces net a i next.pause ⊎ HasFeed net i (0 + 1) next.feeds.items
    either i h = subst (λ (m : ℕ). Paces net a i next.pause ⊎ HasFeed net i m next.feeds.items) one h

-- what the first firing of each actor below n needs
pub record AreNextBelow (net : Net) (n : ℕ) (nexts : List NextFiring) : Type 0 where
  pub actors : length nexts ≡ n
  pub each : (a : ℕ) (next : NextFiring) → slice_get nexts a ≡ Some next → IsNextOf net a 0 next

pub next-push : (net : Net) (n : ℕ) (nexts : List NextFiring) (next : NextFiring) → AreNextBelow net n nexts → IsNextOf net n 0 next → AreNextBelow net (n + 1) (nexts ++ next ∷ [])
next-push net n nexts next below here = record {
  actors = omega (arith, length_push nexts next, below.actors);
  each = λ a other there. ⊎_elim
      (λ (old : slice_get nexts a ≡ Some other). below.each a other old)
      (λ (new : (a ≡ length nexts) × (other ≡ next)).
      let place : n ≡ a = sym below.actors ∙ sym new.0 in
      subst (λ (k : ℕ). IsNextOf net k 0 other) place (subst (IsNextOf net n 0) (sym new.1) here))
      (get-pushed nexts next other a there);
}

pub next-all : (net : Net) (n : ℕ) (nexts : List NextFiring) → n ≡ length net.times → AreNextBelow net n nexts → AreNext net (replicate (length net.times) []) nexts
next-all net n nexts every below = record {
  actors = below.actors ∙ every;
  each = λ a next there.
      let within : a < length net.times = omega (arith, slice_get_within nexts a next there, below.actors) in
      let none : 0 ≡ count_of (replicate (length net.times) []) a = sym (ap length (get_or-replicate (length net.times) a [] [] within)) in
      subst (λ (m : ℕ). IsNextOf net a m next) none (below.each a next there);
}
