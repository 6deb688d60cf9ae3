-- At most one ending fits a net and a number of shapes, and the loop found is one.
use Rattle.std.proofs.Common.{◌≡◌, ℕ, ◌+◌, ◌≤◌, ◌<◌, List, [], length, ⊎_elim, sym, ap, ◌∙◌, arith}
use Rattle.std.specs.Prelude.{slice_index, slice_index_or}
use Rattle.std.proofs.Math.Nat.{eq_of_mul-eq-mul_right}
use Rattle.std.proofs.lemmas.Bool.{cases_lt}
use Rattle.std.proofs.lemmas.List.{ext_get_or}
use Rattle.sd_base.specs.Net.{Net}
use Rattle.sd_base.specs.Schedules.{HasInputs, count_of, start_of}
use Rattle.sd_base.specs.SelfTimed.{earliest, events_by, shape_at, starts_by}
use Rattle.sd_base.specs.Lawful.{Lawful}
use Rattle.sd_base.specs.Rates.{IsLoop, IsLoopTable}
use Rattle.sd_base.proofs.LawfulIsRegular.{balanced}
use Rattle.firing.specs.declared.table.LoopTable.{LoopTable}
use Rattle.loops.specs.LoopAnswers.{IsFound, IsStatesSpent, IsTooManyStarts}
use Rattle.loops.proofs.RanksRise.{rank-orders, starts-rise}

-- a loop ends no later than another one
ends-first : (net : Net) (e p f q : ℕ) → IsLoop net e p → IsLoop net f q → f + q ≤ e + p
ends-first net e p f q one other = ⊎_elim
    (λ (sooner : e + p < f + q). let passes : 1 ≤ p = one.passes in absurd (other.first e (e + p) one.enters one.repeats (omega arith) sooner one.same))
    (λ (h : f + q ≤ e + p). h) (cases_lt (e + p) (f + q))

ends-one : (net : Net) (e p f q : ℕ) → IsLoop net e p → IsLoop net f q → e + p ≡ f + q
ends-one net e p f q one other = omega (arith, ends-first net e p f q one other, ends-first net f q e p other one)

enters-first : (net : Net) (e p f q : ℕ) → IsLoop net e p → IsLoop net f q → f ≤ e
enters-first net e p f q one other = ⊎_elim
    (λ (sooner : e < f).
    let passes : 1 ≤ q = other.passes in
    let end : e + p ≡ f + q = ends-one net e p f q one other in
    let same : shape_at net e ≡ shape_at net f = one.same ∙ (ap (shape_at net) end ∙ sym other.same) in
    absurd (one.first e f one.enters other.enters sooner (omega arith) same))
    (λ (h : f ≤ e). h) (cases_lt e f)

-- a net has one loop
pub one-loop : (net : Net) (e p f q : ℕ) → IsLoop net e p → IsLoop net f q → (e ≡ f) × (p ≡ q)
one-loop net e p f q one other =
    let entry : e ≡ f = omega (arith, enters-first net e p f q one other, enters-first net f q e p other one) in
    (entry, omega (arith, ends-one net e p f q one other))

-- with one table
one-table : (net : Net) → Lawful net → (e p r s : ℕ) (before after : List ℕ) (starts rows : List (List ℕ)) → IsLoopTable net e p r before starts → IsLoopTable net e p s after rows →
    (r ≡ s) × (before ≡ after) × (starts ≡ rows)
one-table net laws e p r s before after starts rows one other = (rounds, earlier, ext_get_or [] starts rows (one.rows ∙ sym other.rows) each)
  where
    first : (a : ℕ) → a < length net.times → slice_index before a ≡ slice_index after a
    first a actor = one.earlier a actor ∙ sym (other.earlier a actor)

    earlier : before ≡ after
    earlier = ext_get_or 0 before after (one.actors ∙ sym other.actors) (λ a place. first a (omega (arith, one.actors)))

    count : (a : ℕ) → a < length net.times → count_of starts a ≡ count_of rows a
    count a actor = omega (arith, first a actor, one.all a actor, other.all a actor)

    rounds : r ≡ s
    rounds =
        let fires : 0 < slice_index net.round 0 = omega (arith, (balanced net laws).fires 0 laws.some_actor) in
        eq_of_mul-eq-mul_right (slice_index net.round 0) fires r s (sym (one.whole 0 laws.some_actor) ∙ (count 0 laws.some_actor ∙ other.whole 0 laws.some_actor))

    each : (a : ℕ) → a < length starts → slice_index_or starts a [] ≡ slice_index_or rows a []
    each a place =
        let actor : a < length net.times = omega (arith, one.rows) in
        ext_get_or 0 (slice_index_or starts a []) (slice_index_or rows a []) (count a actor) (λ k there.
        one.moments a k actor there ∙ (ap (λ (n : ℕ). start_of (earliest net (e + p + 1)) a (n + k)) (first a actor) ∙ sym (other.moments a k actor (omega (arith, count a actor)))))

module _ (net : Net) (laws : Lawful net) (fed : HasInputs net) where
  pub one-found : (states other_states : ℕ) (table other : LoopTable) → IsFound net states table → IsFound net other_states other → table ≡ other
  one-found states other_states table other one two =
      let loops = one-loop net table.entry table.period other.entry other.period one.loop.loop two.loop.loop in
      let again : IsLoopTable net table.entry table.period other.rounds other.before other.starts = rw loops.0 (rw loops.1 two.loop) in
      let tables = one-table net laws table.entry table.period table.rounds other.rounds table.before other.before table.starts other.starts one.loop again in
      λ i. record { entry = loops.0 i; period = loops.1 i; rounds = tables.0 i; before = tables.1 i; starts = tables.2 i }

  pub loop-or-spent : (states entry period : ℕ) → IsLoop net entry period → events_by net (entry + period) ≤ states → IsStatesSpent net states → ⊥
  loop-or-spent states entry period loop number spent =
      let passes : 1 ≤ period = loop.passes in
      spent.differ entry (entry + period) loop.enters loop.repeats (omega arith) number loop.same

  pub loop-or-many : (states entry period : ℕ) → IsLoop net entry period → starts_by net (entry + period) ≤ 4000000 → IsTooManyStarts net states → ⊥
  loop-or-many states entry period loop few many =
      let passes : 1 ≤ period = loop.passes in
      ⊎_elim
      (λ (sooner : entry + period < many.last). many.differ entry (entry + period) loop.enters loop.repeats (omega arith) sooner loop.same)
      (λ (past : many.last ≤ entry + period).
      let more : 4000000 < starts_by net many.last = many.many in
      absurd (omega (arith, starts-rise net laws fed many.last (entry + period) past)))
      (cases_lt (entry + period) many.last)

  pub found-or-spent : (states : ℕ) (table : LoopTable) → IsFound net states table → IsStatesSpent net states → ⊥
  found-or-spent states table found = loop-or-spent states table.entry table.period found.loop.loop found.number

  pub found-or-many : (states : ℕ) (table : LoopTable) → IsFound net states table → IsTooManyStarts net states → ⊥
  found-or-many states table found = loop-or-many states table.entry table.period found.loop.loop found.few

  pub spent-or-many : (states : ℕ) → IsStatesSpent net states → IsTooManyStarts net states → ⊥
  spent-or-many states spent many =
      let number : events_by net spent.last ≡ states = spent.number in
      let other : events_by net many.last ≤ states = many.number in
      let order : many.last ≤ spent.last = rank-orders net laws fed many.last spent.last many.event (omega arith) in
      let few : starts_by net spent.last ≤ 4000000 = spent.few in
      let more : 4000000 < starts_by net many.last = many.many in
      absurd (omega (arith, starts-rise net laws fed many.last spent.last order))
