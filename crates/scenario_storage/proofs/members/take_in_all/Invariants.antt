use Rattle.std.proofs.Common.{◌≡◌, ◌+◌, ℕ, List, Option, drop, length}
use Rattle.scenario_storage.specs.inside.Searches.{IsSearchOf, KeepsEarlier, answered_of, taken_off}
use Rattle.scenario_storage.proofs.members.take_in_all.Given as goal

abbrev pub invariant-loop-answered : goal.invariant-loop-answered
invariant-loop-answered l =
    ((all : List (List (Option ℕ))) → IsSearchOf l.plan.file.now l.plan.limits (l.total + 1) all (answered_of l.fn.answers.items) l.initial.search →
    IsSearchOf l.plan.file.now l.plan.limits (l.total + 1) all (answered_of (drop (length l.yielded) l.fn.answers.items)) l.search)
    × KeepsEarlier l.total l.initial.search.points.items l.search.points.items
    × (taken_off l.search ≡ taken_off l.initial.search)
