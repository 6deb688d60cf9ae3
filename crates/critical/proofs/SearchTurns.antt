-- Which firings a search can go on to, and how far it has come after each turn, firing and actor.
use Rattle.std.proofs.Common.{◌≡◌, ℕ, ◌+◌, ◌-◌, ◌*◌, ◌≤◌, ◌<◌, List, [], ◌∷◌, ◌++◌, Option, Some, None, length, take, ⊎_elim, subst, sym, ap, ◌∙◌, arith, mul-le-mul_left}
use Rattle.std.specs.Prelude.{◌≢◌, Bool, true, false, MatchBool, slice_index, slice_index_or, slice_set}
use Rattle.std.proofs.lemmas.Bool.{cases_lt}
use Rattle.std.proofs.lemmas.Option.{same_Some, none-some}
use Rattle.firing.specs.declared.table.LoopTable.{LoopTable}
use Rattle.firing.specs.declared.sums.Port.TheVariants.{Taken}
use Rattle.firing.specs.Wiring.{IsListed}
use Rattle.firing.proofs.PlacesAreListed.{member-place}
use Rattle.critical.specs.declared.cycle.FiringNo.{FiringNo}
use Rattle.critical.specs.declared.tight.ReadNeed.{ReadNeed}
use Rattle.critical.specs.declared.walk.Met.{Met}
use Rattle.sd_base.specs.declared.role.Role.TheVariants.{Space}
use Rattle.sd_base.specs.Net.{Net, channel_at}
use Rattle.critical.specs.inside.Trails.{IsShortLoop, IsSecond, IsTightNeed, IsSlackOn, Leads, second_of, class_at, met_at}
use Rattle.critical.specs.inside.Searches.{IsNoSpace, HasRanks, IsMarked, IsLeft, IsOpen, IsOpenNeed, HasLeftOn, HasLeftAll, IsSearch, TurnsTo, GoesOn, ComesRound}
use Rattle.critical.proofs.PlacesTellFirings.{firing-same}
use Rattle.critical.proofs.PassesRepeat.{actors-same}
use Rattle.critical.proofs.ReadingsAreOne.{one-need}
use Rattle.critical.proofs.WaysExtend.{Extends, extends-push, extends-pop, IsNext, next-first, next-of}
use Rattle.critical.proofs.SearchGoesOn.{turns-on, marked-on, comes-round, turns-back}

-- ---- whether it can go on to a firing

module _ (net : Net) (table : LoopTable) (met : List Met) (marks : List (Option ℕ)) (so_far : IsSearch net table met marks) (x : FiringNo) where
  pub is-open : slice_index_or marks (class_at table x) None ≡ None → IsOpen table met marks x
  is-open none = λ p mark. absurd (none-some p (sym none ∙ mark))

  stands-open : (p : ℕ) → slice_index_or marks (class_at table x) None ≡ Some p → p < length met → (met_at met p).firing ≡ x → IsOpen table met marks x
  stands-open p mark below is = λ q other.
      let same : p ≡ q = same_Some p q (sym mark ∙ other) in
      (omega arith, ap (λ (k : ℕ). (met_at met k).firing) (sym same) ∙ is)

  is-left : (p : ℕ) → slice_index_or marks (class_at table x) None ≡ Some p → (p < length met → (met_at met p).firing ≡ x → ⊥) → IsLeft table met marks x
  is-left p mark differs = record {
    marked = (p, mark);
    off = λ on.
        let there : slice_index_or marks (class_at table x) None ≡ Some on.0 = ap (λ (y : FiringNo). slice_index_or marks (class_at table y) None) (sym on.2) ∙ so_far.marked on.0 on.1 in
        let same : p ≡ on.0 = same_Some p on.0 (sym mark ∙ there) in
        differs (omega (arith, on.1)) (ap (λ (k : ℕ). (met_at met k).firing) same ∙ on.2);
  }

  -- by whether it stands at its mark
  pub by-mark : (p : ℕ) (b : Bool) → slice_index_or marks (class_at table x) None ≡ Some p → MatchBool b ((p < length met) × ((met_at met p).firing ≡ x)) (p < length met → (met_at met p).firing ≢ x) →
      MatchBool b (IsOpen table met marks x) (IsLeft table met marks x)
  by-mark p true mark is = stands-open p mark is.0 is.1
  by-mark p false mark differs = is-left p mark differs

module _ (net : Net) (table : LoopTable) (loop : IsShortLoop net table) (met : List Met) (marks : List (Option ℕ)) (later : FiringNo) (second : IsSecond table later) (i : ℕ) where
  -- nothing is needed so on a free space
  pub left-space : (c : ℕ) → (channel_at net i).role ≡ Space c → HasLeftOn net table met marks later i
  left-space c role = λ need needs at. absurd (needs.unspaced c (ap (λ (k : ℕ). (channel_at net k).role) at ∙ role))

  -- nor where no need is tight
  pub left-slack : IsSlackOn net table later i → HasLeftOn net table met marks later i
  left-slack slack = λ need needs at. absurd (subst (IsSlackOn net table later) (sym at) slack needs.tight.number needs.tight.last needs.tight.ends)

  -- and the one that is has been left
  pub left-need : (need : ReadNeed) → need.channel ≡ i → IsTightNeed net table later need → IsLeft table met marks need.firing → HasLeftOn net table met marks later i
  left-need need here is left = λ other needs at.
      subst (IsLeft table met marks) (sym (one-need net table loop later second need other is needs.tight (at ∙ sym here))) left

-- what has been left on each channel into its actor is all that it needs
pub left-all : (net : Net) (table : LoopTable) (met : List Met) (marks : List (Option ℕ)) (later : FiringNo) (inputs : List ℕ) → IsListed net Taken later.actor inputs →
    ((j : ℕ) → j < length inputs → HasLeftOn net table met marks later (slice_index inputs j)) → HasLeftAll net table met marks later
left-all net table met marks later inputs listed each = λ need needs.
    let found = member-place inputs need.channel (listed.all need.channel needs.tight.place needs.tight.target) in
    each found.0 found.1 need needs (sym found.2)

-- ---- from firing to firing

pub goes-none : (net : Net) (table : LoopTable) (marks : List (Option ℕ)) → IsSearch net table [] marks → GoesOn net table marks marks
goes-none net table marks so_far = record { so_far = so_far; kept = λ c mark. mark }

pub goes-further : (net : Net) (table : LoopTable) (old marks new : List (Option ℕ)) → GoesOn net table old marks → GoesOn net table marks new → GoesOn net table old new
goes-further net table old marks new one next = record { so_far = next.so_far; kept = λ c mark. next.kept c (one.kept c mark) }

-- where all firings of the second pass have been met and left, they have ranks
pub ranks-all : (net : Net) (table : LoopTable) (marks : List (Option ℕ)) → IsSearch net table [] marks → ((x : FiringNo) → IsSecond table x → IsMarked marks (class_at table x)) → HasRanks net table
ranks-all net table marks so_far all = record {
  rank = so_far.ranked.rank;
  falls = λ x need second needs. so_far.ranked.falls x need second (record { marked = all x second; off = λ on. absurd (omega (arith, on.1)) }) needs;
}

-- ---- at the end of a way

module _ (net : Net) (table : LoopTable) (loop : IsShortLoop net table) (met : List Met) (marks : List (Option ℕ)) (so_far : IsSearch net table met marks) (here : Met)
    (some : 1 ≤ length met) (last : here ≡ met_at met (length met - 1)) where
  pub last-second : IsSecond table here.firing
  last-second = subst (λ (x : Met). IsSecond table x.firing) (sym last) (so_far.way.second (length met - 1) (omega arith))

  pub last-actor : here.firing.actor < length net.times
  last-actor = omega (arith, last-second.actor, actors-same net loop.laws loop.inputs table loop.loop)

  pub way-few : length met ≤ 4000000
  way-few = omega (arith, so_far.few, so_far.long, loop.short.all)

  pub last-near : here.passes ≤ 32000000000000
  last-near =
      let near : here.passes * table.rounds ≤ (length met - 1) * 8000000 = subst (λ (x : Met). x.passes * table.rounds ≤ (length met - 1) * 8000000) (sym last) (so_far.way.near (length met - 1) (omega arith)) in
      let turns : here.passes * 1 ≤ here.passes * table.rounds = mul-le-mul_left here.passes loop.loop.turns in
      omega (arith, way-few)

  pub last-soon : here.time ≤ 4000000000000000
  last-soon =
      let soon : here.time ≤ (length met - 1) * 1000000000 = subst (λ (x : Met). x.time ≤ (length met - 1) * 1000000000) (sym last) (so_far.way.soon (length met - 1) (omega arith)) in
      omega (arith, way-few)

  -- it is left
  pub turns-popped : (lent new : List Met) (n : ℕ) → lent ≡ met → HasLeftAll net table lent marks here.firing → n ≡ length met → new ≡ take (n - 1) met → TurnsTo net table met marks new marks
  turns-popped lent new n same done long rest =
      turns-back net table loop met new marks so_far here (subst (Extends new met) (sym last) (extends-pop met new n long some rest))
      (subst (λ (xs : List Met). HasLeftAll net table xs marks here.firing) same done)

  module _ (lent new : List Met) (need : ReadNeed) (m : Met) (same : lent ≡ met) (opens : IsOpenNeed net table lent marks here.firing need) (leads : Leads net table here m)
      (firing : m.firing ≡ need.firing) (channel : m.channel ≡ need.channel) (pushed : new ≡ met ++ m ∷ []) where
    next-pushed : IsNext net table met m
    next-pushed = next-of net table loop met so_far.way here m some last leads (subst (IsNoSpace net) (sym channel) opens.needs.unspaced)

    -- the way goes on
    pub turns-pushed : (later_marks : List (Option ℕ)) → slice_index_or marks (class_at table m.firing) None ≡ None → later_marks ≡ slice_set marks (class_at table m.firing) (Some (length met)) →
        TurnsTo net table met marks new later_marks
    turns-pushed later_marks none set = subst (TurnsTo net table met marks new) (sym set) (turns-on net table loop met new marks so_far m (extends-push met new m pushed) next-pushed none)

    -- it comes round
    pub round-pushed : (p : ℕ) → slice_index_or marks (class_at table m.firing) None ≡ Some p → ComesRound net table new p
    round-pushed p mark =
        comes-round net table loop met new marks so_far m (extends-push met new m pushed) next-pushed p
        (subst (λ (x : FiringNo). IsOpen table met marks x) (sym firing) (subst (λ (xs : List Met). IsOpen table xs marks need.firing) same opens.is_open)) mark

-- the first firing of a way
pub search-first : (net : Net) (table : LoopTable) (loop : IsShortLoop net table) (marks later_marks : List (Option ℕ)) (m : Met) (new : List Met) → IsSearch net table [] marks → IsSecond table m.firing →
    m.passes ≡ 0 → m.time ≡ 0 → new ≡ [] ++ m ∷ [] → slice_index_or marks (class_at table m.firing) None ≡ None → later_marks ≡ slice_set marks (class_at table m.firing) (Some 0) →
    TurnsTo net table [] marks new later_marks × IsMarked later_marks (class_at table m.firing)
search-first net table loop marks later_marks m new so_far second passes time pushed none set =
    subst (λ (ms : List (Option ℕ)). TurnsTo net table [] marks new ms × IsMarked ms (class_at table m.firing)) (sym set) (
      turns-on net table loop [] new marks so_far m (extends-push [] new m pushed) (next-first net table m second passes time) none,
      marked-on net table loop [] new marks so_far m (extends-push [] new m pushed) (next-first net table m second passes time) none,
    )

-- all firings of an actor up to one more have been met
pub marked-more : (net : Net) (table : LoopTable) (old marks new : List (Option ℕ)) (a behind : ℕ) (first : FiringNo) → first.actor ≡ a → first.number ≡ second_of table a + behind → GoesOn net table old marks → GoesOn net table marks new →
    ((x : FiringNo) → IsSecond table x → x.actor ≡ a → x.number < second_of table a + behind → IsMarked marks (class_at table x)) → IsMarked new (class_at table first) →
    (x : FiringNo) → IsSecond table x → x.actor ≡ a → x.number < second_of table a + (behind + 1) → IsMarked new (class_at table x)
marked-more net table old marks new a behind first actor number goes next marked here x second of below = ⊎_elim
    (λ (early : x.number < second_of table a + behind). next.kept (class_at table x) (marked x second of early))
    (λ (late : second_of table a + behind ≤ x.number).
    let numbers : first.number ≡ x.number = omega arith in
    subst (λ (y : FiringNo). IsMarked new (class_at table y)) (firing-same first x (actor ∙ sym of) numbers) here)
    (cases_lt x.number (second_of table a + behind))

-- all firings of the actors up to one more have been met
pub marked-actor : (net : Net) (table : LoopTable) (marks new : List (Option ℕ)) (a : ℕ) → ((x : FiringNo) → IsSecond table x → x.actor < a → IsMarked marks (class_at table x)) → GoesOn net table marks new →
    ((x : FiringNo) → IsSecond table x → x.actor ≡ a → IsMarked new (class_at table x)) → (x : FiringNo) → IsSecond table x → x.actor < a + 1 → IsMarked new (class_at table x)
marked-actor net table marks new a marked next here x second below = ⊎_elim
    (λ (early : x.actor < a). next.kept (class_at table x) (marked x second early))
    (λ (late : a ≤ x.actor). here x second (omega arith))
    (cases_lt x.actor a)
