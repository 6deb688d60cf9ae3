-- A way back marks the firings met, and one with a mark comes again.
use Rattle.std.proofs.Common.{◌≡◌, ℕ, suc, ◌+◌, ◌-◌, ◌*◌, ◌≤◌, ◌<◌, ◌⊎◌, inl, inr, List, [], ◌∷◌, ◌++◌, Option, Some, None, length, replicate, ⊎_elim, subst, sym, ap, ◌∙◌, arith, mod-lt, mul-le-mul_left}
use Rattle.std.specs.Prelude.{slice_index, slice_index_or, slice_set}
use Rattle.std.proofs.lemmas.Bool.{cases_lt, cases_eq}
use Rattle.std.proofs.lemmas.List.{get_or_append_left, get_or_default, get_or_past, get_or_push, length_push, get_or-set_same, get_or-set_other, get_or-replicate, length-replicate}
use Rattle.std.proofs.lemmas.Option.{same_Some, none-some}
use Rattle.firing.specs.declared.table.LoopTable.{LoopTable}
use Rattle.critical.specs.declared.cycle.FiringNo.{FiringNo}
use Rattle.critical.specs.declared.tight.ReadNeed.{ReadNeed}
use Rattle.critical.specs.declared.walk.Met.{Met}
use Rattle.sd_base.specs.Net.{Net}
use Rattle.sd_base.specs.Schedules.{time_of, count_of}
use Rattle.sd_base.proofs.LawfulIsRegular.{balanced}
use Rattle.critical.specs.CriticalCycles.{pass_of}
use Rattle.critical.specs.inside.Trails.{offset_of, IsShortLoop, IsSecond, IsTightNeed, IsSlackBefore, AreFirst, Leads, IsTrail, none_met, met_at, ComesAgain, first_firing, second_of, class_at}
use Rattle.critical.proofs.TwoNumbersAgree.{Agree, agree}
use Rattle.critical.proofs.PlacesTellFirings.{class-below, class-one}
use Rattle.critical.proofs.PassesRepeat.{actors-same, listed-many}

-- the firings met and the one that stands after them
abbrev pub met_then : List Met → Met → ℕ → Met
met_then met here i = slice_index_or met i here

-- where a firing stands that comes after those met
pub then-last : (met : List Met) (here d : Met) (i : ℕ) → i ≤ length met → slice_index_or (met ++ here ∷ []) i d ≡ met_then met here i
then-last met here d i le = ⊎_elim
    (λ (below : i < length met). get_or_append_left met (here ∷ []) d i below ∙ get_or_default met i d here below)
    (λ (past : length met ≤ i). get_or_push met here d i (omega arith) ∙ sym (get_or_past met i here past))
    (cases_lt i (length met))

-- marks say where on the way each firing was met first
pub record AreMarks (table : LoopTable) (at : ℕ → Met) (n : ℕ) (marks : List (Option ℕ)) : Type 0 where
  pub long : length marks ≡ offset_of table.starts (length table.starts)
  pub marked : (i : ℕ) → i < n → slice_index_or marks (class_at table (at i).firing) None ≡ Some i
  pub true : (c i : ℕ) → slice_index_or marks c None ≡ Some i → (i < n) × (class_at table (at i).firing ≡ c)

abbrev no_mark : Option ℕ
no_mark = None

pub read-none : (n c : ℕ) → slice_index_or (replicate n no_mark) c no_mark ≡ no_mark
read-none n c = ⊎_elim
    (λ (below : c < n). get_or-replicate n c no_mark no_mark below)
    (λ (past : n ≤ c). get_or_past (replicate n no_mark) c no_mark (omega (arith, length-replicate n no_mark)))
    (cases_lt c n)

pub marks-none : (table : LoopTable) (at : ℕ → Met) (marks : List (Option ℕ)) (n : ℕ) → n ≡ offset_of table.starts (length table.starts) → marks ≡ replicate n None → AreMarks table at 0 marks
marks-none table at marks n all is = subst (AreMarks table at 0) (sym is) (record {
  long = length-replicate n no_mark ∙ all;
  marked = λ i below. absurd (omega arith);
  true = λ c i e. absurd (none-some i (sym (read-none n c) ∙ e));
})

module _ (table : LoopTable) (at next : ℕ → Met) (n : ℕ) (marks : List (Option ℕ)) (are : AreMarks table at n marks) (same : (i : ℕ) → i ≤ n → next i ≡ at i)
    (below : class_at table (at n).firing < length marks) (none : slice_index_or marks (class_at table (at n).firing) None ≡ None) where
  here : ℕ
  here = class_at table (at n).firing

  pub marks-more : (new : List (Option ℕ)) → new ≡ slice_set marks (class_at table (at n).firing) (Some n) → AreMarks table next (n + 1) new
  marks-more new is = subst (AreMarks table next (n + 1)) (sym is) (record { long = long; marked = marked; true = true })
    where
      long : length (slice_set marks (class_at table (at n).firing) (Some n)) ≡ offset_of table.starts (length table.starts)
      long = Rattle.std.proofs.lemmas.List.length-set marks (class_at table (at n).firing) (Some n) ∙ are.long

      marked : (i : ℕ) → i < n + 1 → slice_index_or (slice_set marks (class_at table (at n).firing) (Some n)) (class_at table (next i).firing) None ≡ Some i
      marked i less = rw (same i (omega arith)) (⊎_elim
          (λ (old : i < n).
          let kept : slice_index_or marks (class_at table (at i).firing) None ≡ Some i = are.marked i old in
          get_or-set_other marks (class_at table (at n).firing) (class_at table (at i).firing) (Some n) None
          (λ (e : class_at table (at i).firing ≡ class_at table (at n).firing). none-some i (sym none ∙ (ap (λ (c : ℕ). slice_index_or marks c None) (sym e) ∙ kept))) ∙ kept)
          (λ (late : n ≤ i). let last : n ≡ i = omega arith in
          subst (λ (k : ℕ). slice_index_or (slice_set marks (class_at table (at n).firing) (Some n)) (class_at table (at k).firing) None ≡ Some k) last
          (get_or-set_same marks (class_at table (at n).firing) (Some n) None below))
          (cases_lt i n))

      true : (c i : ℕ) → slice_index_or (slice_set marks (class_at table (at n).firing) (Some n)) c None ≡ Some i → (i < n + 1) × (class_at table (next i).firing ≡ c)
      true c i e = ⊎_elim
          (λ (mine : c ≡ class_at table (at n).firing).
          let read : slice_index_or (slice_set marks (class_at table (at n).firing) (Some n)) c None ≡ Some n =
          ap (λ (d : ℕ). slice_index_or (slice_set marks (class_at table (at n).firing) (Some n)) d None) mine ∙ get_or-set_same marks (class_at table (at n).firing) (Some n) None below in
          let last : n ≡ i = same_Some n i (sym read ∙ e) in
          (omega arith, ap (λ (m : Met). class_at table m.firing) (same i (omega arith)) ∙ (ap (λ (k : ℕ). class_at table (at k).firing) (sym last) ∙ sym mine)))
          (λ (other : c ≡ class_at table (at n).firing → ⊥).
          let old = are.true c i (sym (get_or-set_other marks (class_at table (at n).firing) c (Some n) None other) ∙ e) in
          (omega (arith, old.0), ap (λ (m : Met). class_at table m.firing) (same i (omega (arith, old.0))) ∙ old.1))
          (cases_eq c (class_at table (at n).firing))

module _ (net : Net) (table : LoopTable) (loop : IsShortLoop net table) where
  -- a need is read few passes later, and takes little time
  pub need-near : (later : FiringNo) (need : ReadNeed) → IsTightNeed net table later need → need.passes * table.rounds ≤ 8000000
  need-near later need is =
      let b : ℕ = need.firing.actor in
      let actor : b < length net.times = omega (arith, is.read.second.actor, actors-same net loop.laws loop.inputs table loop.loop) in
      let many : count_of table.starts b ≡ pass_of net table.rounds b = listed-many net loop.laws loop.inputs table loop.loop b actor in
      let few : second_of table b ≤ 4000000 = loop.short.few b is.read.second.actor in
      let below : need.firing.number < second_of table b + count_of table.starts b = is.read.second.below in
      let fires : table.rounds * 1 ≤ table.rounds * slice_index net.round b = mul-le-mul_left table.rounds ((balanced net loop.laws).fires b actor) in
      let more : need.passes * table.rounds ≤ need.passes * count_of table.starts b = mul-le-mul_left need.passes (omega arith) in
      omega (arith, is.read.read)

  pub short-time : (x : FiringNo) → IsSecond table x → time_of net x.actor x.number ≤ 1000000000
  short-time x second =
      let actor : x.actor < length net.times = omega (arith, second.actor, actors-same net loop.laws loop.inputs table loop.loop) in
      loop.laws.short_times x.actor _ actor (mod-lt x.number (loop.laws.some_phase x.actor actor))

  pub way-first : (here : Met) → IsSecond table here.firing → here.passes ≡ 0 → here.time ≡ 0 → IsTrail net table (met_then [] here) 0
  way-first here second passes time = record {
    second = λ i le. second;
    leads = λ i less. absurd (omega arith);
    near = λ i le. rw passes (omega arith);
    soon = λ i le. rw time (omega arith);
  }

  module _ (at next : ℕ → Met) (n : ℕ) (way : IsTrail net table at n) (same : (i : ℕ) → i ≤ n → next i ≡ at i) where
    pub way-along : IsTrail net table next n
    way-along = record {
      second = λ i le. subst (λ (m : Met). IsSecond table m.firing) (sym (same i le)) (way.second i le);
      leads = λ i less. subst (λ (m : Met). Leads net table m (next (suc i))) (sym (same i (omega arith))) (subst (λ (m : Met). Leads net table (at i) m) (sym (same (suc i) (omega arith))) (way.leads i less));
      near = λ i le. subst (λ (m : Met). m.passes * table.rounds ≤ i * 8000000) (sym (same i le)) (way.near i le);
      soon = λ i le. subst (λ (m : Met). m.time ≤ i * 1000000000) (sym (same i le)) (way.soon i le);
    }

    pub way-more : Leads net table (at n) (next (suc n)) → IsTrail net table next (n + 1)
    way-more leads = record {
      second = λ i le. ⊎_elim (λ (old : i ≤ n). way-along.second i old) (λ (new : n < i). let last : suc n ≡ i = omega arith in subst (λ (k : ℕ). IsSecond table (next k).firing) last leads.need.read.second) (cases_le i);
      leads = λ i less. ⊎_elim (λ (old : i < n). way-along.leads i old) (λ (late : n ≤ i). let last : n ≡ i = omega arith in
          subst (λ (k : ℕ). Leads net table (next k) (next (suc k))) last (subst (λ (m : Met). Leads net table m (next (suc n))) (sym (same n (omega arith))) leads)) (cases_lt i n);
      near = λ i le. ⊎_elim (λ (old : i ≤ n). way-along.near i old) (λ (new : n < i). let last : suc n ≡ i = omega arith in subst (λ (k : ℕ). (next k).passes * table.rounds ≤ k * 8000000) last near-last) (cases_le i);
      soon = λ i le. ⊎_elim (λ (old : i ≤ n). way-along.soon i old) (λ (new : n < i). let last : suc n ≡ i = omega arith in subst (λ (k : ℕ). (next k).time ≤ k * 1000000000) last soon-last) (cases_le i);
    }
      where
        cases_le : (i : ℕ) → (i ≤ n) ⊎ (n < i)
        cases_le i = ⊎_elim (λ (more : n < i). inr more) (λ (le : i ≤ n). inl le) (cases_lt n i)

        near-last : (next (suc n)).passes * table.rounds ≤ suc n * 8000000
        near-last =
            let sum : (next (suc n)).passes * table.rounds ≡ ((at n).passes + leads.passes) * table.rounds = ap (λ (x : ℕ). x * table.rounds) leads.on in
            omega (arith, way.near n (omega arith), need-near (at n).firing (record { channel = (next (suc n)).channel; firing = (next (suc n)).firing; passes = leads.passes }) leads.need)

        soon-last : (next (suc n)).time ≤ suc n * 1000000000
        soon-last = omega (arith, leads.time, way.soon n (omega arith), short-time (next (suc n)).firing leads.need.read.second)

  -- more firings than a pass has don't all differ
  pub all-met : (at : ℕ → Met) (n : ℕ) (marks : List (Option ℕ)) → IsTrail net table at n → AreMarks table at n marks → n ≡ length marks + 1 → ⊥
  all-met at n marks way are many =
      let pass : ℕ = offset_of table.starts (length table.starts) in
      let found : Agree (λ i. class_at table (at i).firing) pass = agree pass (λ i. class_at table (at i).firing) (λ i below. class-below table (at i).firing (way.second i (omega (arith, are.long)))) in
      let one : slice_index_or marks (class_at table (at found.p).firing) None ≡ Some found.p = are.marked found.p (omega (arith, found.within, are.long)) in
      let other : slice_index_or marks (class_at table (at (found.p + suc found.d)).firing) None ≡ Some (found.p + suc found.d) = are.marked (found.p + suc found.d) (omega (arith, found.within, are.long)) in
      let both : found.p ≡ found.p + suc found.d = same_Some found.p (found.p + suc found.d) (sym one ∙ (ap (λ (c : ℕ). slice_index_or marks c None) found.same ∙ other)) in
      omega arith

  -- the first firing met stays the first one
  pub first-again : (met new : List Met) (here : Met) → (met_then met here 0).firing ≡ first_firing table → new ≡ met ++ here ∷ [] → (met_at new 0).firing ≡ first_firing table
  first-again met new here first pushed = ap (λ (xs : List Met). (met_at xs 0).firing) pushed ∙ (ap (λ (m : Met). m.firing) (then-last met here none_met 0 (omega arith)) ∙ first)

  -- and each one met by a first need stays so
  pub needs-again : (met new : List Met) (here : Met) (n : ℕ) → length met ≡ n → ((i : ℕ) → i < n → IsSlackBefore net table (met_then met here i).firing (met_then met here (suc i)).channel) →
      new ≡ met ++ here ∷ [] → AreFirst net table new
  needs-again met new here n long needs pushed = subst (AreFirst net table) (sym pushed) (λ i below.
      let within : i < n = omega (arith, length_push met here) in
      subst (λ (m : Met). IsSlackBefore net table m.firing (met_at (met ++ here ∷ []) (suc i)).channel) (sym (then-last met here none_met i (omega arith)))
      (subst (λ (m : Met). IsSlackBefore net table (met_then met here i).firing m.channel) (sym (then-last met here none_met (suc i) (omega arith))) (needs i within)))

  -- a firing with a mark comes again
  pub comes-again : (met new : List Met) (here : Met) (n from : ℕ) (marks : List (Option ℕ)) → length met ≡ n → n ≤ 4000000 → IsTrail net table (met_then met here) n → AreMarks table (met_then met here) n marks →
      slice_index_or marks (class_at table here.firing) None ≡ Some from → new ≡ met ++ here ∷ [] → ComesAgain net table new from
  comes-again met new here n from marks long few way are mark pushed = subst (λ (xs : List Met). ComesAgain net table xs from) (sym pushed) (record {
    later = omega (arith, many, mine.0);
    few = omega (arith, many);
    way = rw last (way-along (met_then met here) (met_at (met ++ here ∷ [])) n way same);
    same = class-one table (met_at (met ++ here ∷ []) from).firing (met_at (met ++ here ∷ []) (length (met ++ here ∷ []) - 1)).firing second_from second_last classes;
    apart = apart;
  })
    where
      many : length (met ++ here ∷ []) ≡ n + 1
      many = omega (arith, length_push met here)

      last : length (met ++ here ∷ []) - 1 ≡ n
      last = omega (arith, many)

      same : (i : ℕ) → i ≤ n → met_at (met ++ here ∷ []) i ≡ met_then met here i
      same i le = then-last met here none_met i (omega arith)

      mine : (from < n) × (class_at table (met_then met here from).firing ≡ class_at table here.firing)
      mine = are.true (class_at table here.firing) from mark

      end : met_at (met ++ here ∷ []) (length (met ++ here ∷ []) - 1) ≡ here
      end = get_or_push met here none_met (length (met ++ here ∷ []) - 1) (omega (arith, many))

      second_from : IsSecond table (met_at (met ++ here ∷ []) from).firing
      second_from = subst (λ (m : Met). IsSecond table m.firing) (sym (same from (omega (arith, mine.0)))) (way.second from (omega (arith, mine.0)))

      second_last : IsSecond table (met_at (met ++ here ∷ []) (length (met ++ here ∷ []) - 1)).firing
      second_last = subst (λ (m : Met). IsSecond table m.firing) (sym (same (length (met ++ here ∷ []) - 1) (omega (arith, many)))) (way.second (length (met ++ here ∷ []) - 1) (omega (arith, many)))

      classes : class_at table (met_at (met ++ here ∷ []) from).firing ≡ class_at table (met_at (met ++ here ∷ []) (length (met ++ here ∷ []) - 1)).firing
      classes = ap (λ (m : Met). class_at table m.firing) (same from (omega (arith, mine.0))) ∙ (mine.1 ∙ ap (λ (m : Met). class_at table m.firing) (sym end))

      apart : (i j : ℕ) → i < j → j < length (met ++ here ∷ []) - 1 → ¬ ((met_at (met ++ here ∷ []) i).firing ≡ (met_at (met ++ here ∷ []) j).firing)
      apart i j less below is =
          let one : slice_index_or marks (class_at table (met_then met here i).firing) None ≡ Some i = are.marked i (omega (arith, many)) in
          let other : slice_index_or marks (class_at table (met_then met here j).firing) None ≡ Some j = are.marked j (omega (arith, many)) in
          let both : class_at table (met_then met here i).firing ≡ class_at table (met_then met here j).firing =
          ap (λ (m : Met). class_at table m.firing) (sym (same i (omega (arith, many)))) ∙ (ap (class_at table) is ∙ ap (λ (m : Met). class_at table m.firing) (same j (omega (arith, many)))) in
          let equal : i ≡ j = same_Some i j (sym one ∙ (ap (λ (c : ℕ). slice_index_or marks c None) both ∙ other)) in
          omega arith

  module _ (met : List Met) (here : Met) (n : ℕ) (long : length met ≡ n) (way : IsTrail net table (met_then met here) n) where
    then-here : met_then met here n ≡ here
    then-here = get_or_past met n here (omega arith)

    pub here-second : IsSecond table here.firing
    here-second = subst (λ (m : Met). IsSecond table m.firing) then-here (way.second n (omega arith))

    pub here-near : n ≤ 4000000 → here.passes ≤ 32000000000000
    here-near few =
        let near : here.passes * table.rounds ≤ n * 8000000 = subst (λ (m : Met). m.passes * table.rounds ≤ n * 8000000) then-here (way.near n (omega arith)) in
        let turns : here.passes * 1 ≤ here.passes * table.rounds = mul-le-mul_left here.passes loop.loop.turns in
        omega arith

    pub here-soon : n ≤ 4000000 → here.time ≤ 4000000000000000
    here-soon few =
        let soon : here.time ≤ n * 1000000000 = subst (λ (m : Met). m.time ≤ n * 1000000000) then-here (way.soon n (omega arith)) in
        omega arith

    module _ (new : List Met) (next : Met) (pushed : new ≡ met ++ here ∷ []) where
      kept : (i : ℕ) → i ≤ n → met_then new next i ≡ met_then met here i
      kept i le = ap (λ (xs : List Met). met_then xs next i) pushed ∙ then-last met here next i (omega arith)

      longer : length new ≡ n + 1
      longer = ap length pushed ∙ omega (arith, length_push met here)

      pub first-kept : (x : FiringNo) → (met_then met here 0).firing ≡ x → (met_then new next 0).firing ≡ x
      first-kept x is = ap (λ (m : Met). m.firing) (kept 0 (omega arith)) ∙ is

      pub needs-next : ((i : ℕ) → i < n → IsSlackBefore net table (met_then met here i).firing (met_then met here (suc i)).channel) → IsSlackBefore net table here.firing next.channel →
          (i : ℕ) → i < n + 1 → IsSlackBefore net table (met_then new next i).firing (met_then new next (suc i)).channel
      needs-next needs first i less = ⊎_elim
          (λ (old : i < n). subst (λ (m : Met). IsSlackBefore net table m.firing (met_then new next (suc i)).channel) (sym (kept i (omega arith)))
          (subst (λ (m : Met). IsSlackBefore net table (met_then met here i).firing m.channel) (sym (kept (suc i) (omega arith))) (needs i old)))
          (λ (late : n ≤ i).
          let last : n ≡ i = omega arith in
          subst (λ (k : ℕ). IsSlackBefore net table (met_then new next k).firing (met_then new next (suc k)).channel) last
          (subst (λ (m : Met). IsSlackBefore net table m.firing (met_then new next (suc n)).channel) (sym (kept n (omega arith) ∙ then-here))
          (subst (λ (m : Met). IsSlackBefore net table here.firing m.channel) (sym (get_or_past new (suc n) next (omega (arith, longer)))) first)))
          (cases_lt i n)

      pub way-next : Leads net table here next → IsTrail net table (met_then new next) (n + 1)
      way-next leads = way-more (met_then met here) (met_then new next) n way kept
          (subst (λ (m : Met). Leads net table m (met_then new next (suc n))) (sym then-here) (subst (Leads net table here) (sym (get_or_past new (suc n) next (omega (arith, longer)))) leads))

      pub marks-next : (marks lent changed : List (Option ℕ)) (class : ℕ) (before : Option ℕ) → AreMarks table (met_then met here) n marks → lent ≡ marks → class ≡ class_at table here.firing →
          before ≡ None → before ≡ slice_index_or lent class None → changed ≡ slice_set lent class (Some n) → AreMarks table (met_then new next) (n + 1) changed
      marks-next marks lent changed class before are same place is read set =
          let at_here : class_at table (met_then met here n).firing ≡ class_at table here.firing = ap (λ (m : Met). class_at table m.firing) then-here in
          let below : class_at table (met_then met here n).firing < length marks = omega (arith, class-below table (met_then met here n).firing (way.second n (omega arith)), are.long) in
          marks-more table (met_then met here) (met_then new next) n marks are kept below
          (rw at_here (sym (rw (same, place) at read) ∙ is)) changed (rw at_here (rw (same, place) at set))
