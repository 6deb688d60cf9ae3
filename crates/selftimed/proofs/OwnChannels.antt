-- The own channel of an actor beside the others.
use Rattle.std.proofs.Common.{◌≡◌, ◌≢◌, ℕ, ◌+◌, ◌-◌, ◌*◌, ◌≤◌, ◌<◌, ◌⊎◌, List, Option, Some, None, length, set, inl, inr, ⊎_elim, subst, sym, refl, ap, ◌∙◌, arith}
use Rattle.std.specs.Prelude.{slice_index, IfSome, MatchOption}
use Rattle.std.proofs.lemmas.Bool.{cases_lt, cases_eq}
use Rattle.std.proofs.lemmas.List.{get_or-set_same, get_or-set_other, length-set}
use Rattle.sd_base.specs.Net.{Net, channel_at, total}
use Rattle.sd_base.specs.Schedules.{phases_at}
use Rattle.sd_base.specs.Lawful.{Lawful}
use Rattle.firing.specs.declared.sums.Port.{Port}
use Rattle.firing.specs.declared.sums.Port.TheVariants.{Made, Taken}
use Rattle.firing.specs.Wiring.{actor_at, IsListed, TakesTokens, PutsTokens}
use Rattle.firing.proofs.PlacesAreListed.{member-place}
use Rattle.firing.proofs.TokenMoves.{Changed, span-one}
use Rattle.selftimed.specs.inside.Ports.{IsOwn, MayOwn, IsOther, IsRising, IsListedBut}
use Rattle.selftimed.specs.inside.Starts.{Feeds}

-- ---- the own channel, or another one

pub own-or-other : (own : Option ℕ) (i : ℕ) → (own ≡ Some i) ⊎ IsOther own i
own-or-other None i = inr tt
own-or-other (Some o) i = ⊎_elim (λ (e : i ≡ o). inl (rw e refl)) (λ (away : i ≢ o). inr away) (cases_eq i o)

-- what holds of the own channel
pub of-own : (P : ℕ → Type 0) (own : Option ℕ) (i : ℕ) → own ≡ Some i → IfSome own P → P i
of-own P own i is holds = subst (λ (o : Option ℕ). IfSome o P) is holds

pub if-own : (P Q : ℕ → Type 0) (own : Option ℕ) → ((i : ℕ) → own ≡ Some i → P i → Q i) → IfSome own P → IfSome own Q
if-own P Q None gives holds = tt
if-own P Q (Some i) gives holds = gives i refl holds

pub not-own : (own : Option ℕ) (i : ℕ) → own ≡ Some i → ¬ IsOther own i
not-own own i is other = of-own (λ o. ¬ (i ≡ o)) own i is other refl

-- an actor of several phases has none
pub own-none : (net : Net) (a : ℕ) (own : Option ℕ) → MayOwn net a own → ¬ (phases_at net a ≡ 1) → own ≡ None
own-none net a None may several = refl
own-none net a (Some i) may several = absurd (several may.single)

-- where there is none all channels are listed
pub listed-whole : (net : Net) (port : Port) (a : ℕ) (own : Option ℕ) (xs : List ℕ) → own ≡ None → IsListedBut net port a own xs → IsListed net port a xs
listed-whole net port a own xs none listed = record {
  rising = listed.rising;
  place = listed.place;
  there = listed.there;
  all = λ i place at. listed.all i place at (subst (λ (o : Option ℕ). IsOther o i) (sym none) tt);
}

-- the place of another channel in the list
pub other-place : (net : Net) (port : Port) (a : ℕ) (own : Option ℕ) (xs : List ℕ) → IsListedBut net port a own xs → (i : ℕ) → i < length net.channels → actor_at port (channel_at net i) ≡ a → IsOther own i → (j : ℕ) × (j < length xs) × (slice_index xs j ≡ i)
other-place net port a own xs listed i place at other = member-place xs i (listed.all i place at other)

-- ---- tokens that are moved channel by channel

-- the channels of an ascending list are apart
apart : (xs : List ℕ) → IsRising xs → (j n : ℕ) → j < n → n < length xs → slice_index xs j ≢ slice_index xs n
apart xs rising j n h below same = let rise : slice_index xs j < slice_index xs n = rising j n h below in omega arith

pub changed-next : (xs old now : List ℕ) (lost gained : ℕ → ℕ) (n x : ℕ) → IsRising xs → n < length xs → slice_index xs n < length now →
    x + lost (slice_index xs n) ≡ slice_index now (slice_index xs n) + gained (slice_index xs n) → Changed xs old now lost gained n → Changed xs old (set now (slice_index xs n) x) lost gained (n + 1)
changed-next xs old now lost gained n x rising below place balance changed = record {
  length_kept = length-set now (slice_index xs n) x ∙ changed.length_kept;
  done = λ j h. ⊎_elim
      (λ (before : j < n). rw (get_or-set_other now (slice_index xs n) (slice_index xs j) x 0 (apart xs rising j n before below)) (changed.done j before))
      (λ (here : n ≤ j).
      let same : j ≡ n = omega arith in
      rw (same, get_or-set_same now (slice_index xs n) x 0 place, ← changed.rest (slice_index xs n) (λ m less. apart xs rising m n less below)) balance)
      (cases_lt j n);
  rest = λ c away. get_or-set_other now (slice_index xs n) c x 0 (λ same. away n (omega arith) (sym same)) ∙ changed.rest c (λ j h. away j (omega arith));
}

-- what the channel of this turn has is what it had
pub same-yet : (xs old now : List ℕ) (lost gained : ℕ → ℕ) (n : ℕ) → IsRising xs → n < length xs → Changed xs old now lost gained n → slice_index now (slice_index xs n) ≡ slice_index old (slice_index xs n)
same-yet xs old now lost gained n rising below changed = changed.rest (slice_index xs n) (λ m less. apart xs rising m n less below)

-- a change of the own channel alone
pub own-others : (f : ℕ → ℕ) (own : Option ℕ) (now new : List ℕ) → MatchOption own (new ≡ now) (λ (i : ℕ). new ≡ set now i (f i)) → (i : ℕ) → IsOther own i → slice_index new i ≡ slice_index now i
own-others f None now new same i other = ap (λ (ys : List ℕ). slice_index ys i) same
own-others f (Some o) now new write i other = ap (λ (ys : List ℕ). slice_index ys i) write ∙ get_or-set_other now o i (f o) 0 other

pub own-mine : (f : ℕ → ℕ) (own : Option ℕ) (now new : List ℕ) → MatchOption own (new ≡ now) (λ (i : ℕ). new ≡ set now i (f i)) → IfSome own (λ (i : ℕ). i < length now) → IfSome own (λ (i : ℕ). slice_index new i ≡ f i)
own-mine f None now new same place = tt
own-mine f (Some o) now new write place = ap (λ (ys : List ℕ). slice_index ys o) write ∙ get_or-set_same now o (f o) 0 place

pub own-long : (f : ℕ → ℕ) (own : Option ℕ) (now new : List ℕ) → MatchOption own (new ≡ now) (λ (i : ℕ). new ≡ set now i (f i)) → length new ≡ length now
own-long f None now new same = ap length same
own-long f (Some o) now new write = ap length write ∙ length-set now o (f o)

own-at : (net : Net) (port : Port) (a i : ℕ) → IsOwn net a i → actor_at port (channel_at net i) ≡ a
own-at net Made a i own = own.source
own-at net Taken a i own = own.target

module _ (net : Net) (port : Port) (a : ℕ) (own : Option ℕ) (may : MayOwn net a own) (xs : List ℕ) (listed : IsListedBut net port a own xs) where
  -- the own channel isn't listed
  own-apart : (i : ℕ) → own ≡ Some i → (j : ℕ) → j < length xs → slice_index xs j ≢ i
  own-apart i is j below same = not-own own i is (subst (IsOther own) same (listed.others j below))

  away-apart : (i : ℕ) → actor_at port (channel_at net i) ≢ a → (j : ℕ) → j < length xs → slice_index xs j ≢ i
  away-apart i away j below same = away (subst (λ (c : ℕ). actor_at port (channel_at net c) ≡ a) same (listed.there j below))

  module _ (old now : List ℕ) (lost gained : ℕ → ℕ) (n : ℕ) (past : length xs ≤ n) (within : n ≤ length xs) (changed : Changed xs old now lost gained n) where
    pub own-yet : (i : ℕ) → own ≡ Some i → slice_index now i ≡ slice_index old i
    own-yet i is = changed.rest i (λ j h. own-apart i is j (omega arith))

    -- the others are moved, and then the own one
    module _ (long : length now ≡ length net.channels) (f : ℕ → ℕ) (new : List ℕ) (write : MatchOption own (new ≡ now) (λ (i : ℕ). new ≡ set now i (f i))) (balance : (i : ℕ) → own ≡ Some i → f i + lost i ≡ slice_index now i + gained i) where
      place : IfSome own (λ (i : ℕ). i < length now)
      place = if-own (IsOwn net a) (λ (i : ℕ). i < length now) own (λ i is mine. rw long mine.place) may

      pub moved-here : (i : ℕ) → i < length net.channels → actor_at port (channel_at net i) ≡ a → slice_index new i + lost i ≡ slice_index old i + gained i
      moved-here i inside here = ⊎_elim
          (λ (is : own ≡ Some i).
          let wrote : slice_index new i ≡ f i = of-own (λ (o : ℕ). slice_index new o ≡ f o) own i is (own-mine f own now new write place) in
          omega (arith, balance i is, own-yet i is))
          (λ (other : IsOther own i).
          let found = other-place net port a own xs listed i inside here other in
          rw (own-others f own now new write i other) (subst (λ (c : ℕ). slice_index now c + lost c ≡ slice_index old c + gained c) found.2 (changed.done found.0 (omega (arith, found.1)))))
          (own-or-other own i)

      pub moved-away : (i : ℕ) → i < length net.channels → actor_at port (channel_at net i) ≢ a → slice_index new i ≡ slice_index old i
      moved-away i inside away = ⊎_elim
          (λ (is : own ≡ Some i). absurd (away (own-at net port a i (of-own (IsOwn net a) own i is may))))
          (λ (other : IsOther own i). own-others f own now new write i other ∙ changed.rest i (λ j h. away-apart i away j (omega arith)))
          (own-or-other own i)

-- ---- taken, and put

one-each : (xs : List ℕ) (k n : ℕ) → length xs ≡ 1 → slice_index xs 0 ≡ 1 → total xs (k + n) ≡ total xs k + n
one-each xs k n one unit =
    let span : total xs k + n * 1 ≡ total xs (k + n) = span-one xs k n 1 1 (sym one) refl (sym unit) in
    omega arith

pub own-takes : (net : Net) (laws : Lawful net) (a i k n : ℕ) → IsOwn net a i → total (channel_at net i).taken (k + n) ≡ total (channel_at net i).taken k + n
own-takes net laws a i k n own = one-each (channel_at net i).taken k n (laws.taken_phases i own.place ∙ (ap (phases_at net) own.target ∙ own.single)) own.taken

pub own-makes : (net : Net) (laws : Lawful net) (a i k n : ℕ) → IsOwn net a i → total (channel_at net i).made (k + n) ≡ total (channel_at net i).made k + n
own-makes net laws a i k n own = one-each (channel_at net i).made k n (laws.made_phases i own.place ∙ (ap (phases_at net) own.source ∙ own.single)) own.made

abbrev pub OthersTaken : Net → ℕ → ℕ → List ℕ → List ℕ → List ℕ → ℕ → Type 0
OthersTaken net k n xs old now done = Changed xs old now (λ i. total (channel_at net i).taken (k + n)) (λ i. total (channel_at net i).taken k) done

abbrev pub OthersPut : Net → ℕ → ℕ → List ℕ → List ℕ → List ℕ → ℕ → Type 0
OthersPut net k n xs old now done = Changed xs old now (λ i. total (channel_at net i).made k) (λ i. total (channel_at net i).made (k + n)) done

module _ (net : Net) (laws : Lawful net) (a : ℕ) (own : Option ℕ) (may : MayOwn net a own) (k n : ℕ) (xs old now : List ℕ) (listed : IsListedBut net Taken a own xs) (long : length now ≡ length net.channels) (enough : Feeds net old a k n) where
  module _ (at all : ℕ) (below : at < length xs) (sum : total (channel_at net (slice_index xs at)).taken k + all ≡ total (channel_at net (slice_index xs at)).taken (k + n)) (so_far : OthersTaken net k n xs old now at) where
    pub take-fits : all ≤ slice_index now (slice_index xs at)
    take-fits =
        let i : ℕ = slice_index xs at in
        let same : slice_index now i ≡ slice_index old i = same-yet xs old now (λ c. total (channel_at net c).taken (k + n)) (λ c. total (channel_at net c).taken k) at listed.rising below so_far in
        let room : total (channel_at net i).taken (k + n) ≤ slice_index old i + total (channel_at net i).taken k = enough i (listed.place at below) (listed.there at below) in
        omega arith

    pub take-next : OthersTaken net k n xs old (set now (slice_index xs at) (slice_index now (slice_index xs at) - all)) (at + 1)
    take-next =
        changed-next xs old now (λ c. total (channel_at net c).taken (k + n)) (λ c. total (channel_at net c).taken k) at (slice_index now (slice_index xs at) - all) listed.rising below
        (rw long (listed.place at below)) (omega (arith, take-fits)) so_far

  module _ (done : ℕ) (past : length xs ≤ done) (within : done ≤ length xs) (so_far : OthersTaken net k n xs old now done) where
    pub own-enough : IfSome own (λ (i : ℕ). n ≤ slice_index now i)
    own-enough = if-own (IsOwn net a) (λ (i : ℕ). n ≤ slice_index now i) own (λ i is mine.
        let same : slice_index now i ≡ slice_index old i = own-yet net Taken a own may xs listed old now (λ c. total (channel_at net c).taken (k + n)) (λ c. total (channel_at net c).taken k) done past within so_far i is in
        let room : total (channel_at net i).taken (k + n) ≤ slice_index old i + total (channel_at net i).taken k = enough i mine.place mine.target in
        omega (arith, own-takes net laws a i k n mine)) may

    pub takes-whole : (new : List ℕ) → MatchOption own (new ≡ now) (λ (i : ℕ). new ≡ set now i (slice_index now i - n)) → TakesTokens net a k n old new
    takes-whole new write = record {
      taken = moved-here net Taken a own may xs listed old now (λ i. total (channel_at net i).taken (k + n)) (λ i. total (channel_at net i).taken k) done past within so_far long (λ i. slice_index now i - n) new write balance;
      others = moved-away net Taken a own may xs listed old now (λ i. total (channel_at net i).taken (k + n)) (λ i. total (channel_at net i).taken k) done past within so_far long (λ i. slice_index now i - n) new write balance;
    }
      where
        balance : (i : ℕ) → own ≡ Some i → slice_index now i - n + total (channel_at net i).taken (k + n) ≡ slice_index now i + total (channel_at net i).taken k
        balance i is =
            let fits : n ≤ slice_index now i = of-own (λ (o : ℕ). n ≤ slice_index now o) own i is own-enough in
            omega (arith, own-takes net laws a i k n (of-own (IsOwn net a) own i is may))

module _ (net : Net) (laws : Lawful net) (a : ℕ) (own : Option ℕ) (may : MayOwn net a own) (k n : ℕ) (xs old now : List ℕ) (listed : IsListedBut net Made a own xs) (long : length now ≡ length net.channels) where
  module _ (at all : ℕ) (below : at < length xs) (so_far : OthersPut net k n xs old now at) where
    pub put-same : slice_index now (slice_index xs at) ≡ slice_index old (slice_index xs at)
    put-same = same-yet xs old now (λ c. total (channel_at net c).made k) (λ c. total (channel_at net c).made (k + n)) at listed.rising below so_far

    pub put-next : total (channel_at net (slice_index xs at)).made k + all ≡ total (channel_at net (slice_index xs at)).made (k + n) → OthersPut net k n xs old (set now (slice_index xs at) (slice_index now (slice_index xs at) + all)) (at + 1)
    put-next sum =
        changed-next xs old now (λ c. total (channel_at net c).made k) (λ c. total (channel_at net c).made (k + n)) at (slice_index now (slice_index xs at) + all) listed.rising below
        (rw long (listed.place at below)) (omega arith) so_far

  module _ (done : ℕ) (past : length xs ≤ done) (within : done ≤ length xs) (so_far : OthersPut net k n xs old now done) where
    pub own-small : (most : ℕ) → ((i : ℕ) → i < length net.channels → slice_index old i ≤ most) → IfSome own (λ (i : ℕ). slice_index now i ≤ most)
    own-small most small = if-own (IsOwn net a) (λ (i : ℕ). slice_index now i ≤ most) own (λ i is mine.
        let same : slice_index now i ≡ slice_index old i = own-yet net Made a own may xs listed old now (λ c. total (channel_at net c).made k) (λ c. total (channel_at net c).made (k + n)) done past within so_far i is in
        omega (arith, small i mine.place)) may

    pub puts-whole : (new : List ℕ) → MatchOption own (new ≡ now) (λ (i : ℕ). new ≡ set now i (slice_index now i + n)) → PutsTokens net a k n old new
    puts-whole new write = record {
      made = moved-here net Made a own may xs listed old now (λ i. total (channel_at net i).made k) (λ i. total (channel_at net i).made (k + n)) done past within so_far long (λ i. slice_index now i + n) new write balance;
      others = moved-away net Made a own may xs listed old now (λ i. total (channel_at net i).made k) (λ i. total (channel_at net i).made (k + n)) done past within so_far long (λ i. slice_index now i + n) new write balance;
    }
      where
        balance : (i : ℕ) → own ≡ Some i → slice_index now i + n + total (channel_at net i).made k ≡ slice_index now i + total (channel_at net i).made (k + n)
        balance i is = omega (arith, own-makes net laws a i k n (of-own (IsOwn net a) own i is may))
