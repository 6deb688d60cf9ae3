-- Firings of one actor that start at one moment.
use Rattle.std.proofs.Common.{◌≡◌, ℕ, ◌+◌, ◌-◌, ◌*◌, ◌%◌, ◌^◌, ◌≤◌, ◌<◌, List, [], ◌++◌, Option, Some, length, replicate, ⊎_elim, subst, sym, refl, ap, ◌∙◌, arith, mul-le-mul_right}
use Rattle.std.specs.Prelude.{slice_index, slice_index_or, IfSome}
use Rattle.std.proofs.lemmas.Bool.{cases_lt}
use Rattle.std.proofs.lemmas.List.{get_or-append-add, get_or-replicate, get_or_append_left, length-append, length-replicate}
use Rattle.sd_base.specs.Net.{Net, channel_at, phase_entry, total}
use Rattle.sd_base.specs.Schedules.{time_of, phases_at}
use Rattle.sd_base.specs.Lawful.{Lawful}
use Rattle.sd_base.proofs.SumsRepeatByTurns.{total-more, one-entry}
use Rattle.firing.specs.declared.sums.Port.TheVariants.{Taken}
use Rattle.firing.specs.Wiring.{SufficesBefore, LacksNow, TakesTokens}
use Rattle.firing.proofs.TokenMoves.{span-one}
use Rattle.selftimed.specs.inside.Ports.{MayOwn, IsOwn, IsOther, IsListedBut}
use Rattle.selftimed.proofs.OwnChannels.{own-or-other, of-own, if-own, other-place, own-takes}
use Rattle.selftimed.specs.inside.Starts.{AddsEnds, Feeds, FeedsNoMore, StartsAll, Overfills}

-- ---- how many start together

pub feeds-one : (net : Net) (tokens : List ℕ) (a k : ℕ) → SufficesBefore net tokens a k (length net.channels) → Feeds net tokens a k 1
feeds-one net tokens a k enough i place into =
    let here : phase_entry (channel_at net i).taken k ≤ slice_index tokens i = enough i place into in
    rw total-more (omega arith)

-- as many as the channels that were looked at feed, of an actor of one phase
pub record BatchSoFar (net : Net) (a : ℕ) (own : Option ℕ) (xs tokens : List ℕ) (most best lacking done : ℕ) : Type 0 where
  pub within : best ≤ most
  pub mine : IfSome own (λ (i : ℕ). best ≤ slice_index tokens i)
  pub fed : (j : ℕ) → j < done → best * slice_index (channel_at net (slice_index xs j)).taken 0 ≤ slice_index tokens (slice_index xs j)
  pub lacks : best < most → FeedsNoMore net tokens a best lacking

-- those that the own channel feeds
pub batch-none : (net : Net) (a : ℕ) (own : Option ℕ) (xs tokens : List ℕ) (most best lacking : ℕ) → best ≤ most → IfSome own (λ (i : ℕ). best ≤ slice_index tokens i) → (best < most → FeedsNoMore net tokens a best lacking) →
    BatchSoFar net a own xs tokens most best lacking 0
batch-none net a own xs tokens most best lacking within mine lacks = record { within = within; mine = mine; fed = λ j h. absurd (omega arith); lacks = lacks }

module _ (net : Net) (laws : Lawful net) (a : ℕ) (own : Option ℕ) (xs tokens : List ℕ) (listed : IsListedBut net Taken a own xs) (one : phases_at net a ≡ 1) where
  pub batch-lower : (most best lacking done feeds : ℕ) → done < length xs → feeds * slice_index (channel_at net (slice_index xs done)).taken 0 ≤ slice_index tokens (slice_index xs done) →
      slice_index tokens (slice_index xs done) < (feeds + 1) * slice_index (channel_at net (slice_index xs done)).taken 0 → slice_index tokens (slice_index xs done) < (best + 1) * slice_index (channel_at net (slice_index xs done)).taken 0 →
      BatchSoFar net a own xs tokens most best lacking done → BatchSoFar net a own xs tokens most feeds (slice_index xs done) (done + 1)
  batch-lower most best lacking done feeds below fits next fewer so_far = record {
    within = omega (arith, so_far.within, less);
    mine = if-own (λ (i : ℕ). best ≤ slice_index tokens i) (λ (i : ℕ). feeds ≤ slice_index tokens i) own (λ i is enough. omega (arith, less)) so_far.mine;
    fed = λ j h. ⊎_elim
        (λ (old : j < done).
        let le : feeds * slice_index (channel_at net (slice_index xs j)).taken 0 ≤ best * slice_index (channel_at net (slice_index xs j)).taken 0 = mul-le-mul_right (slice_index (channel_at net (slice_index xs j)).taken 0) (omega (arith, less)) in
        omega (arith, so_far.fed j old))
        (λ (new : done ≤ j).
        let same : j ≡ done = omega arith in
        rw same fits)
        (cases_lt j done);
    lacks = λ low. (listed.place done below, listed.there done below, next);
  }
    where
      less : feeds < best + 1
      less = ⊎_elim
          (λ (h : feeds < best + 1). h)
          (λ (h : best + 1 ≤ feeds).
          let le : (best + 1) * slice_index (channel_at net (slice_index xs done)).taken 0 ≤ feeds * slice_index (channel_at net (slice_index xs done)).taken 0 = mul-le-mul_right (slice_index (channel_at net (slice_index xs done)).taken 0) h in
          absurd (omega arith))
          (cases_lt feeds (best + 1))

  -- a firing more of a batch takes what fits into a number
  pub batch-fits : (most best done : ℕ) → most ≤ 2 ^ 33 → best ≤ most → done < length xs → (best + 1) * slice_index (channel_at net (slice_index xs done)).taken 0 < 2 ^ 64
  batch-fits most best done few within below =
      let small : slice_index (channel_at net (slice_index xs done)).taken 0 ≤ 1000000 = laws.small_taken (slice_index xs done) 0 (listed.place done below) in
      let le : (best + 1) * slice_index (channel_at net (slice_index xs done)).taken 0 ≤ (2 ^ 33 + 1) * slice_index (channel_at net (slice_index xs done)).taken 0 = mul-le-mul_right (slice_index (channel_at net (slice_index xs done)).taken 0) (omega arith) in
      omega (arith, le, small)

  pub batch-keep : (most best lacking done : ℕ) → (best + 1) * slice_index (channel_at net (slice_index xs done)).taken 0 ≤ slice_index tokens (slice_index xs done) →
      BatchSoFar net a own xs tokens most best lacking done → BatchSoFar net a own xs tokens most best lacking (done + 1)
  batch-keep most best lacking done fits so_far = record {
    within = so_far.within;
    mine = so_far.mine;
    fed = λ j h. ⊎_elim
        (λ (old : j < done). so_far.fed j old)
        (λ (new : done ≤ j). let same : j ≡ done = omega arith in rw same enough)
        (cases_lt j done);
    lacks = so_far.lacks;
  }
    where
      enough : best * slice_index (channel_at net (slice_index xs done)).taken 0 ≤ slice_index tokens (slice_index xs done)
      enough =
          let le : best * slice_index (channel_at net (slice_index xs done)).taken 0 ≤ (best + 1) * slice_index (channel_at net (slice_index xs done)).taken 0 = mul-le-mul_right (slice_index (channel_at net (slice_index xs done)).taken 0) (omega arith) in
          omega (arith, le, fits)

  pub batch-feeds : (most best lacking done : ℕ) → MayOwn net a own → length xs ≤ done → BatchSoFar net a own xs tokens most best lacking done → (k : ℕ) → Feeds net tokens a k best
  batch-feeds most best lacking done may past so_far k i place into = ⊎_elim
      (λ (is : own ≡ Some i).
      let took : total (channel_at net i).taken (k + best) ≡ total (channel_at net i).taken k + best = own-takes net laws a i k best (of-own (IsOwn net a) own i is may) in
      let enough : best ≤ slice_index tokens i = of-own (λ (o : ℕ). best ≤ slice_index tokens o) own i is so_far.mine in
      omega arith)
      (λ (other : IsOther own i).
      let found = other-place net Taken a own xs listed i place into other in
      let j : ℕ = found.0 in
      let len : length (channel_at net i).taken ≡ 1 = laws.taken_phases i place ∙ (ap (phases_at net) into ∙ one) in
      let span : total (channel_at net i).taken k + best * slice_index (channel_at net i).taken 0 ≡ total (channel_at net i).taken (k + best) = span-one (channel_at net i).taken k best 1 (slice_index (channel_at net i).taken 0) (sym len) refl refl in
      let fed : best * slice_index (channel_at net (slice_index xs j)).taken 0 ≤ slice_index tokens (slice_index xs j) = so_far.fed j (omega (arith, found.1)) in
      let here : best * slice_index (channel_at net i).taken 0 ≤ slice_index tokens i = subst (λ (c : ℕ). best * slice_index (channel_at net c).taken 0 ≤ slice_index tokens c) found.2 fed in
      omega arith)
      (own-or-other own i)

-- when they have taken their tokens, a channel that feeds no more lacks
pub lacks-then : (net : Net) (laws : Lawful net) (a k n i : ℕ) (tokens left : List ℕ) → phases_at net a ≡ 1 → FeedsNoMore net tokens a n i → TakesTokens net a k n tokens left → LacksNow net left a (k + n) i
lacks-then net laws a k n i tokens left one (place, into, few) takes =
    let len : length (channel_at net i).taken ≡ 1 = laws.taken_phases i place ∙ (ap (phases_at net) into ∙ one) in
    let span : total (channel_at net i).taken k + n * slice_index (channel_at net i).taken 0 ≡ total (channel_at net i).taken (k + n) = span-one (channel_at net i).taken k n 1 (slice_index (channel_at net i).taken 0) (sym len) refl refl in
    let took : slice_index left i + total (channel_at net i).taken (k + n) ≡ slice_index tokens i + total (channel_at net i).taken k = takes.taken i place into in
    let entry : phase_entry (channel_at net i).taken (k + n) ≡ slice_index (channel_at net i).taken 0 = one-entry (channel_at net i).taken (k + n) len in
    record { place = place; into = into; short = rw entry (omega arith) }

-- ---- their ends

pub adds-none : (net : Net) (a moment k : ℕ) (old : List ℕ) → AddsEnds net a moment k 0 old old
adds-none net a moment k old = record { long = omega arith; kept = λ j h. refl; added = λ j h. absurd (omega arith) }

-- firings that take as long as the first one end together
pub adds-run : (net : Net) (a moment k n : ℕ) (old new : List ℕ) (end : ℕ) → new ≡ old ++ replicate n end → end ≡ moment + time_of net a k → ((j : ℕ) → j < n → time_of net a (k + j) ≡ time_of net a k) → AddsEnds net a moment k n old new
adds-run net a moment k n old new end push at alike = subst (AddsEnds net a moment k n old) (sym push) (record {
  long = length-append old (replicate n end) ∙ ap (λ (x : ℕ). length old + x) (length-replicate n end);
  kept = λ j h. get_or_append_left old (replicate n end) 0 j h;
  added = λ j h. get_or-append-add old (replicate n end) j 0 ∙ (get_or-replicate n j end 0 h ∙ (at ∙ ap (λ (x : ℕ). moment + x) (sym (alike j h))));
})

pub adds-then : (net : Net) (a moment k n m : ℕ) (old now new : List ℕ) → AddsEnds net a moment k n old now → AddsEnds net a moment (k + n) m now new → AddsEnds net a moment k (n + m) old new
adds-then net a moment k n m old now new first second = record {
  long = omega (arith, first.long, second.long);
  kept = λ j h. second.kept j (omega (arith, first.long)) ∙ first.kept j h;
  added = λ j h. ⊎_elim
      (λ (early : j < n). second.kept (length old + j) (omega (arith, first.long)) ∙ first.added j early)
      (λ (late : n ≤ j).
      let e : length old + j ≡ length now + (j - n) = omega (arith, first.long) in
      let f : (k + n) + (j - n) ≡ k + j = omega arith in
      rw e (rw f at (second.added (j - n) (omega arith))))
      (cases_lt j n);
}

-- ---- their tokens

pub takes-none : (net : Net) (a k : ℕ) (old : List ℕ) → TakesTokens net a k 0 old old
takes-none net a k old =
    let e : k + 0 ≡ k = omega arith in
    record { taken = λ i place into. rw e refl; others = λ i place away. refl }

pub takes-then : (net : Net) (a k n m : ℕ) (old now new : List ℕ) → TakesTokens net a k n old now → TakesTokens net a (k + n) m now new → TakesTokens net a k (n + m) old new
takes-then net a k n m old now new first second =
    let e : k + (n + m) ≡ (k + n) + m = omega arith in
    record {
      taken = λ i place into. rw e (second.taken i place into ∙ first.taken i place into);
      others = λ i place away. second.others i place away ∙ first.others i place away;
    }

-- ---- the starts so far

pub record StartSoFar (net : Net) (a moment k room : ℕ) (tokens left runs more : List ℕ) (n : ℕ) : Type 0 where
  pub within : n ≤ room
  pub takes : TakesTokens net a k n tokens left
  pub ends : AddsEnds net a moment k n runs more

pub start-none : (net : Net) (a moment k room : ℕ) (tokens runs : List ℕ) → StartSoFar net a moment k room tokens tokens runs runs 0
start-none net a moment k room tokens runs = record { within = omega arith; takes = takes-none net a k tokens; ends = adds-none net a moment k runs }

pub start-more : (net : Net) (a moment k room : ℕ) (tokens left after runs more most : List ℕ) (n m : ℕ) → StartSoFar net a moment k room tokens left runs more n → m ≤ room - n →
    TakesTokens net a (k + n) m left after → AddsEnds net a moment (k + n) m more most → StartSoFar net a moment k room tokens after runs most (n + m)
start-more net a moment k room tokens left after runs more most n m so_far fits takes ends = record {
  within = omega (arith, so_far.within);
  takes = takes-then net a k n m tokens left after so_far.takes takes;
  ends = adds-then net a moment k n m runs more most so_far.ends ends;
}

pub start-over : (net : Net) (a moment k room : ℕ) (tokens left runs more : List ℕ) (n m : ℕ) → StartSoFar net a moment k room tokens left runs more n → room - n < m → Feeds net left a (k + n) m → Overfills net tokens a k room
start-over net a moment k room tokens left runs more n m so_far much feeds = (
  n + m,
  omega (arith, so_far.within),
  λ i place into.
      let e : k + (n + m) ≡ (k + n) + m = omega arith in
      let here : total (channel_at net i).taken ((k + n) + m) ≤ slice_index left i + total (channel_at net i).taken (k + n) = feeds i place into in
      let was : slice_index left i + total (channel_at net i).taken (k + n) ≡ slice_index tokens i + total (channel_at net i).taken k = so_far.takes.taken i place into in
      rw e (omega arith),
)

pub end-at : (net : Net) (a moment k phases time : ℕ) → phases ≡ phases_at net a → time ≡ slice_index (slice_index_or net.times a []) (k % phases) → moment + time ≡ moment + time_of net a k
end-at net a moment k phases time many here = ap (λ (x : ℕ). moment + x) (rw (← many) here)

-- ---- all together

pub starts-together : (net : Net) (laws : Lawful net) (a moment k n i : ℕ) (tokens left runs more : List ℕ) → phases_at net a ≡ 1 → FeedsNoMore net tokens a n i → TakesTokens net a k n tokens left → AddsEnds net a moment k n runs more →
    StartsAll net a moment k n i tokens left runs more
starts-together net laws a moment k n i tokens left runs more one few takes ends = record { takes = takes; ends = ends; lacks = lacks-then net laws a k n i tokens left one few takes }

pub starts-nothing : (net : Net) (laws : Lawful net) (a moment k n i : ℕ) (tokens runs : List ℕ) → phases_at net a ≡ 1 → n ≡ 0 → FeedsNoMore net tokens a n i → StartsAll net a moment k n i tokens tokens runs runs
starts-nothing net laws a moment k n i tokens runs one none few =
    starts-together net laws a moment k n i tokens tokens runs runs one few (rw none (takes-none net a k tokens)) (rw none (adds-none net a moment k runs))
