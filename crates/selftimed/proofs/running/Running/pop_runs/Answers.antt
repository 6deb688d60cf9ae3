use Rattle.std.proofs.Common.{◌≡◌, suc, ◌≤◌, ◌<◌, ◌∷◌, length, drop, take, sym, ap, ◌∙◌, arith}
use Rattle.std.specs.Prelude.{slice_index}
use Rattle.selftimed.specs.inside.Runs.{ends_of, run_at, AreRuns}
use Rattle.selftimed.proofs.RunsListEnds.{ends-drop, ends-length, ends-parts, popped-next, popped-past, popped-within, runs-drop}
use Rattle.selftimed.proofs.FirstRun.{first-index, first-runs, past-ends, past-kept}
use Rattle.selftimed.proofs.RunningFingerprints.{total-pop}
use Rattle.selftimed.proofs.running.Running.pop_runs.Goals as goal

pub ended_by-ended-requires-clause-first : goal.ended_by-ended-requires-clause-first
ended_by-ended-requires-clause-first c =
    let here : slice_index (ends_of (c.self.inside.first ∷ c.self.inside.later)) 0 ≤ c.args.moment = rw c.self.view_is c.requires.first in
    rw (first-index c.self.inside.first c.self.inside.later c.self.invariant.kept (rw c.self.view_is c.requires.some)) at here

pub overflow_sub-self : goal.overflow_sub-self
overflow_sub-self c =
    let all = c.self.inside.first ∷ c.self.inside.later in
    let is : c.ended_by-ended.result.firings ≡ length (ends_of (take (suc c.ended_by-ended.result.later) all)) = rw c.as_slice.ensures at c.ended_by-ended.ensures.firings in
    omega (arith, c.self.invariant.firings, popped-within all (suc c.ended_by-ended.result.later) c.ended_by-ended.result.firings is)

pub invariant_of-self : goal.invariant_of-self
invariant_of-self c =
    let all = c.self.inside.first ∷ c.self.inside.later in
    let n = suc c.ended_by-ended.result.later in
    let is : c.ended_by-ended.result.firings ≡ length (ends_of (take n all)) = rw c.as_slice.ensures at c.ended_by-ended.ensures.firings in
    let are : AreRuns all = first-runs c.self.inside.first c.self.inside.later c.self.invariant.kept (rw c.self.view_is c.requires.some) in
    let ends : ends_of (c.pop_past-self-inside.result ∷ c.pop_past-self-inside.new.self) ≡ ends_of (drop n all) =
    past-ends c.self.inside.later c.pop_past-self-inside.new.self c.ended_by-ended.result.later c.pop_past-self-inside.result c.pop_past-self-inside.ensures.next c.pop_past-self-inside.ensures.none in
    record {
      kept = past-kept c.self.inside.later c.pop_past-self-inside.new.self c.ended_by-ended.result.later c.pop_past-self-inside.result c.pop_past-self-inside.ensures.next c.pop_past-self-inside.ensures.none (runs-drop all n are);
      firings = omega (arith, is, c.self.invariant.firings, ends-length all n, ap length ends);
      total = rw ends (total-pop (ends_of all) (ends_of (take n all)) (ends_of (drop n all)) c.self.inside.total c.ended_by-ended.result.total (ends-parts all n)
          c.self.invariant.total (rw c.as_slice.ensures at c.ended_by-ended.ensures.total));
    }

pub returns-clause-within : goal.returns-clause-within
returns-clause-within c =
    let all = c.self.inside.first ∷ c.self.inside.later in
    let n = suc c.ended_by-ended.result.later in
    rw (← c.self.view_is) (popped-within all n c.ended_by-ended.result.firings (rw c.as_slice.ensures at c.ended_by-ended.ensures.firings))

pub returns-clause-rest : goal.returns-clause-rest
returns-clause-rest c =
    let all = c.self.inside.first ∷ c.self.inside.later in
    let n = suc c.ended_by-ended.result.later in
    past-ends c.self.inside.later c.pop_past-self-inside.new.self c.ended_by-ended.result.later c.pop_past-self-inside.result c.pop_past-self-inside.ensures.next c.pop_past-self-inside.ensures.none
    ∙ rw (← c.self.view_is) (sym (ends-drop all n c.ended_by-ended.result.firings (rw c.as_slice.ensures at c.ended_by-ended.ensures.firings)))

pub returns-clause-past : goal.returns-clause-past
returns-clause-past c =
    let all = c.self.inside.first ∷ c.self.inside.later in
    let n = suc c.ended_by-ended.result.later in
    rw (← c.self.view_is) (popped-past all n c.ended_by-ended.result.firings (rw c.as_slice.ensures at c.ended_by-ended.ensures.firings) c.args.moment (rw c.as_slice.ensures at c.ended_by-ended.ensures.past))

pub returns-clause-next : goal.returns-clause-next
returns-clause-next c =
    let all = c.self.inside.first ∷ c.self.inside.later in
    let n = suc c.ended_by-ended.result.later in
    let are : AreRuns all = first-runs c.self.inside.first c.self.inside.later c.self.invariant.kept (rw c.self.view_is c.requires.some) in
    let next : c.ended_by-ended.result.later < length c.self.inside.later → c.args.moment < (run_at c.self.inside.later c.ended_by-ended.result.later).end = rw c.as_slice.ensures at c.ended_by-ended.ensures.next in
    rw (← c.self.view_is) (popped-next all n c.ended_by-ended.result.firings (rw c.as_slice.ensures at c.ended_by-ended.ensures.firings) c.args.moment are (λ below. next (omega arith)))
