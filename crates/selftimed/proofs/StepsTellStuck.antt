-- An engine is stuck, or spent, just where a step finds it so.
use Rattle.std.proofs.Common.{◌≡◌, ℕ, suc, ◌+◌, ◌≤◌, ◌<◌, ◌↔◌, length, map, sum, Result, inl, inr, ⊎_elim, sym, refl, ◌∙◌, arith}
use Rattle.std.specs.Prelude.{IfOk}
use Rattle.std.proofs.lemmas.Bool.{cases_lt}
use Rattle.std.proofs.lemmas.Result.{IfOk-weaker}
use Rattle.sd_base.specs.Net.{Net}
use Rattle.sd_base.specs.Schedules.{Lacks, HasInputs, count_of, end_of}
use Rattle.sd_base.specs.SelfTimed.{earliest, starts_by}
use Rattle.sd_base.specs.Lawful.{Lawful}
use Rattle.sd_base.proofs.LawfulIsRegular.{Regular, regular}
use Rattle.sd_base.proofs.FiringsKeepOrder.{is_actor}
use Rattle.sd_base.proofs.EndsDecideCounts.{Same, Quiet, ended_at, early_at, ended-at-is, quiet-until}
use Rattle.sd_base.proofs.FiringOrdersEnd.{sum_to}
use Rattle.selftimed.specs.declared.engine.Stage.{Stage}
use Rattle.selftimed.specs.declared.engine.Stage.TheVariants.{Fresh, Running, Spent, OutOfMemory}
use Rattle.selftimed.specs.declared.engine.Move.{Move}
use Rattle.selftimed.specs.declared.engine.Move.TheVariants.{Stepped, Stuck}
use Rattle.selftimed.specs.Moves.{IsNextEvent, ComesNext, IsStuck, IsSpent, Overruns, IsMove}
use Rattle.selftimed.proofs.ActorsStartAllTheyCan.{sum_to-same}
use Rattle.selftimed.proofs.MovesReachNextEvent.{starts-sum}
use Rattle.selftimed.proofs.EnginesAnswerSteps.{lacking-inputs, none-counted, sum_to-none}

-- ---- one next event

next-le : (net : Net) (now t u : ℕ) → IsNextEvent net now t → IsNextEvent net now u → t ≤ u
next-le net now t u one other = ⊎_elim
    (λ (past : u < t). absurd (one.quiet u other.later past other.event))
    (λ (h : t ≤ u). h) (cases_lt u t)

next-one : (net : Net) (stage : Stage) (now t u : ℕ) → ComesNext net stage now t → ComesNext net stage now u → t ≡ u
next-one net Fresh now t u one other = one ∙ sym other
next-one net Running now t u one other = omega (arith, next-le net now t u one other, next-le net now u t other one)
next-one net Spent now t u one other = absurd one
next-one net OutOfMemory now t u one other = absurd one

module _ (net : Net) (laws : Lawful net) where
  reg : Regular net
  reg = regular net laws

  -- ---- where nothing can start, no starts pass a bound

  fresh-within : (most : ℕ) → ((a : ℕ) → a < length net.times → Lacks net (λ b. 0) a 0) → Overruns net 0 most → ⊥
  fresh-within most lacks over =
      let fed : HasInputs net = lacking-inputs net lacks in
      let many : most < sum (map length (earliest net 1)) = over (earliest net 1) (early_at net reg fed 1) in
      let none : sum_to (count_of (earliest net 1)) (length net.times) ≡ sum_to (λ a. 0) (length net.times) = sum_to-same (λ a. 0) (count_of (earliest net 1)) (length net.times) (none-counted net laws lacks) in
      omega (arith, many, none, sum_to-none (length net.times), starts-sum (earliest net 1) (length net.times) (early_at net reg fed 1).admissible.actors)

  -- ---- where nothing runs and nothing can start, no event comes

  no-next : (now u : ℕ) → ((a : ℕ) → a < length net.times → ended_at net now a ≡ count_of (earliest net (suc now)) a) → HasInputs net → IsNextEvent net now u → ⊥
  no-next now u over fed next = ⊎_elim
      (λ (zero_at : u ≡ 0). omega (arith, next.later))
      (λ (found : (a : ℕ) × (k : ℕ) × (k < count_of (earliest net u) a) × (end_of net (earliest net u) a k ≡ u)).
      let there : found.1 < count_of (earliest net (suc now)) found.0 = omega (arith, found.2, same.counts found.0) in
      let actor : found.0 < length net.times = actor-of found.0 found.1 there in
      let done : end_of net (earliest net (suc now)) found.0 found.1 ≤ now = (ended-at-is net reg fed now found.0).done found.1 (omega (arith, over found.0 actor)) in
      let at_u : end_of net (earliest net (suc now)) found.0 found.1 ≡ u = rw (same.starts found.0 found.1 there) found.3 in
      omega (arith, next.later))
      next.event
    where
      actor-of : (a k : ℕ) → k < count_of (earliest net (suc now)) a → a < length net.times
      actor-of a k below = is_actor net (earliest net (suc now)) a k (early_at net reg fed (suc now)).admissible below

      quiet : Quiet net now u
      quiet = record { still = λ a k from below. absurd (omega (arith, over a (actor-of a k below))) }

      same : Same (earliest net (suc now)) (earliest net u)
      same = quiet-until net reg fed now u quiet next.later

  stuck-ends : (now u : ℕ) → IsStuck net Running now → IsNextEvent net now u → ⊥
  stuck-ends now u stuck next =
      let e : now + 1 ≡ suc now = omega arith in
      no-next now u (rw e at stuck.0) (λ a actor. let lack : Lacks net (count_of (earliest net (now + 1))) a (count_of (earliest net (now + 1)) a) = stuck.1 a actor in (lack.0, lack.1, lack.2)) next

  -- an engine isn't stuck and spent
  stuck-or-spent : (most : ℕ) (stage : Stage) (now : ℕ) → IsStuck net stage now → IsSpent net most stage now → ⊥
  stuck-or-spent most Fresh now stuck (inl before) = absurd (let clash : Fresh ≡ Stage.Spent = before in cc)
  stuck-or-spent most Fresh now stuck (inr (u, next, over)) = fresh-within most stuck (rw next at over)
  stuck-or-spent most Running now stuck (inl before) = absurd (let clash : Running ≡ Stage.Spent = before in cc)
  stuck-or-spent most Running now stuck (inr (u, next, over)) = stuck-ends now u stuck next
  stuck-or-spent most Spent now stuck spent = stuck
  stuck-or-spent most OutOfMemory now stuck spent = stuck

  -- an engine that went on isn't spent
  step-within : (most : ℕ) (stage : Stage) (now : ℕ) (after : Stage) (t : ℕ) → IsMove net most stage now Stepped after t → IsSpent net most stage now → ⊥
  step-within most stage now after t steps (inl before) = absurd (rw before at steps.next)
  step-within most stage now after t steps (inr (u, next, over)) =
      let same : u ≡ t = next-one net stage now u t next steps.next in
      let many : most < starts_by net u = over (earliest net (u + 1)) (early_at net reg steps.inputs (u + 1)) in
      let few : starts_by net u ≤ most = rw same steps.within in
      omega arith

  stuck-exactly : (most : ℕ) (stage : Stage) (now : ℕ) (move : Move) (after : Stage) (t : ℕ) → IsMove net most stage now move after t → (move ≡ Stuck) ↔ IsStuck net stage now
  stuck-exactly most stage now Stepped after t steps = (λ is. absurd (let clash : Stepped ≡ Stuck = is in cc), λ stuck. absurd (steps.free stuck))
  stuck-exactly most stage now Stuck after t moved = (λ is. moved.2, λ stuck. refl)
  stuck-exactly most stage now Move.Spent after t moved = (λ is. absurd (let clash : Move.Spent ≡ Stuck = is in cc), λ stuck. absurd (stuck-or-spent most stage now stuck moved.1))

  spent-exactly : (most : ℕ) (stage : Stage) (now : ℕ) (move : Move) (after : Stage) (t : ℕ) → IsMove net most stage now move after t → (move ≡ Move.Spent) ↔ IsSpent net most stage now
  spent-exactly most stage now Stepped after t steps = (λ is. absurd (let clash : Stepped ≡ Move.Spent = is in cc), λ spent. absurd (step-within most stage now after t steps spent))
  spent-exactly most stage now Stuck after t moved = (λ is. absurd (let clash : Stuck ≡ Move.Spent = is in cc), λ spent. absurd (stuck-or-spent most stage now moved.2 spent))
  spent-exactly most stage now Move.Spent after t moved = (λ is. moved.1, λ spent. refl)

-- ---- of an answer

module _ {E : Type 0} (net : Net) (laws : Lawful net) (most : ℕ) (stage : Stage) (now : ℕ) (after : Stage) (t : ℕ) (result : Result Move E) (moved : IfOk result (λ move. IsMove net most stage now move after t)) where
  pub answer-stuck : IfOk result (λ move. (move ≡ Stuck) ↔ IsStuck net stage now)
  answer-stuck = IfOk-weaker result (λ move. IsMove net most stage now move after t) (λ move. (move ≡ Stuck) ↔ IsStuck net stage now) (λ move is. stuck-exactly net laws most stage now move after t is) moved

  pub answer-spent : IfOk result (λ move. (move ≡ Move.Spent) ↔ IsSpent net most stage now)
  answer-spent = IfOk-weaker result (λ move. IsMove net most stage now move after t) (λ move. (move ≡ Move.Spent) ↔ IsSpent net most stage now) (λ move is. spent-exactly net laws most stage now move after t is) moved
