use Rattle.std.proofs.Common.{◌≡◌, ◌++◌, ◌+◌, ℕ, Bool, List, drop, take, length, sym, ap, ◌∙◌, subst, arith, rules}
use Rattle.std.specs.Prelude.{◌↔◌, Contains}
use Rattle.sd_base.specs.declared.tables.ScenarioFile.{ScenarioFile}
use Rattle.sd_base.specs.declared.tables.StateRow.{StateRow}
use Rattle.fanout.proofs.TaskLists.{slice-back}
use Rattle.entry_ways.specs.declared.marking.EntryPlace.{EntryPlace}
use Rattle.bounded_scenarios.specs.BoundedFiles.{bounded_file}
use Rattle.scenario_storage.specs.inside.Shown.{AreSpaceMarks, BeginAtStates, HaveWays, IsEntryIn}
use Rattle.scenario_storage.proofs.CycleEdgesAreShown.{graph-tokens, shown-all, ways-ready}
use Rattle.scenario_storage.proofs.SharedChannelsAreFew.{its-shares, shared-few}
use Rattle.scenario_storage.proofs.LongestWaysAreMarked.{AreMarkedTo, begins-at, marked-more}
use Rattle.scenario_storage.proofs.MatricesAreMeasured.{scenario-of}
use Rattle.scenario_storage.proofs.FilesAllowSearch.{can-measure}
use Rattle.scenario_storage.proofs.shown.shown_by_cycle.Goals as goal

pub entries_of-requires-clause-tokens : goal.entries_of-requires-clause-tokens
entries_of-requires-clause-tokens c =
    let file = c.args.plan.now.file.now in
    let ds = c.args.capacities.now.capacities in
    graph-tokens file ds (can-measure file c.args.plan.now.limits.total c.requires.plan.bounded ds c.requires.fits) c.args.graph.now c.requires.graph.timed

pub entries_of-requires-clause-states : goal.entries_of-requires-clause-states
entries_of-requires-clause-states c =
    let file = c.args.plan.now.file.now in
    let ds = c.args.capacities.now.capacities in
    let can = can-measure file c.args.plan.now.limits.total c.requires.plan.bounded ds c.requires.fits in
    let states : c.as_slice.result.now ≡ (bounded_file file ds).states = c.as_slice.ensures ∙ ap (λ (f : ScenarioFile). f.states) c.requires.bounded in
    subst (λ (qs : List StateRow). BeginAtStates qs c.args.graph.now) (sym states)
    (begins-at file c.args.plan.now.gammas.now ds can (its-shares file c.args.plan.now.limits.total c.requires.plan.bounded) c.args.graph.now c.requires.graph.timed)

pub mark_scenario-requires-clause-ways : goal.mark_scenario-requires-clause-ways
mark_scenario-requires-clause-ways c =
    let file = c.args.plan.now.file.now in
    let gammas = c.args.plan.now.gammas.now in
    let ds = c.args.capacities.now.capacities in
    let s = c.loop-scenario.scenario in
    let can = can-measure file c.args.plan.now.limits.total c.requires.plan.bounded ds c.requires.fits in
    let states : c.as_slice.result.now ≡ (bounded_file file ds).states = c.as_slice.ensures ∙ ap (λ (f : ScenarioFile). f.states) c.requires.bounded in
    let listed = subst (λ (qs : List StateRow). (x : EntryPlace) → Contains c.in_ok-entries.entries.items x ↔ IsEntryIn qs c.args.graph.now c.args.cycle.now s x) states c.in_ok-entries.ensures in
    let sc = scenario-of file gammas c.requires.plan.rounds s (omega (arith, c.loop-scenario-test.true, c.len-scenario-end.ensures)) in
    subst (HaveWays file gammas ds s) (sym c.as_slice-in-loop-scenario.ensures.value)
    (ways-ready file gammas ds can (its-shares file c.args.plan.now.limits.total c.requires.plan.bounded) c.args.graph.now c.requires.graph.timed c.requires.runs s sc c.args.cycle.now c.in_ok-entries.entries.items listed)

pub loop-scenario-preserved : goal.loop-scenario-preserved
loop-scenario-preserved c =
    let file = c.args.plan.now.file.now in
    let gammas = c.args.plan.now.gammas.now in
    let ds = c.args.capacities.now.capacities in
    let s = c.loop-scenario.scenario in
    let can = can-measure file c.args.plan.now.limits.total c.requires.plan.bounded ds c.requires.fits in
    let states : c.as_slice.result.now ≡ (bounded_file file ds).states = c.as_slice.ensures ∙ ap (λ (f : ScenarioFile). f.states) c.requires.bounded in
    let listed = subst (λ (qs : List StateRow). (x : EntryPlace) → Contains c.in_ok-entries.entries.items x ↔ IsEntryIn qs c.args.graph.now c.args.cycle.now s x) states c.in_ok-entries.ensures in
    let old : List Bool = c.loop-scenario.marks.items in
    let new : List Bool = c.mark_scenario.new.marks in
    let entries : List EntryPlace = c.in_ok-entries.entries.items in
    let more : AreSpaceMarks c.args.plan.now.file.now c.args.plan.now.gammas.now c.args.capacities.now.capacities c.loop-scenario.scenario c.in_ok-entries.entries.items c.loop-scenario.marks.items c.mark_scenario.new.marks =
    subst (λ (es : List EntryPlace). AreSpaceMarks file gammas ds s es old new) c.as_slice-in-loop-scenario.ensures.value
    (subst (λ (ms : List Bool). AreSpaceMarks file gammas ds s c.as_slice-in-loop-scenario.result.now ms new) c.as_mut_slice.ensures.value c.in_ok-mark_scenario.ensures) in
    let size : c.loop-scenario.marks.len ≡ length c.loop-scenario.marks.items = search rules in
    let back : ◌≡◌ {A = List Bool} (take c.loop-scenario.marks.len (new ++ drop (length new) old)) new = ap (λ (n : ℕ). take n (new ++ drop (length new) old)) size ∙ slice-back new old more.long in
    subst (AreMarkedTo file ds c.args.graph.now c.args.cycle.now (s + 1)) (sym back)
    (marked-more file gammas ds can (its-shares file c.args.plan.now.limits.total c.requires.plan.bounded) c.args.graph.now c.requires.graph.timed s c.args.cycle.now entries listed old new more c.loop-scenario.invariant)

pub listed-requires : goal.listed-requires
listed-requires c =
    let same : length c.as_slice-2.result.now ≡ length c.loop-scenario.marks.items = ap (λ (xs : List Bool). length xs) c.as_slice-2.ensures.value in
    omega (arith, same, c.loop-scenario.invariant.long, shared-few c.args.plan.now.file.now c.args.plan.now.limits.total c.requires.plan.bounded)

pub returns : goal.returns
returns c =
    let file = c.args.plan.now.file.now in
    let ds = c.args.capacities.now.capacities in
    let can = can-measure file c.args.plan.now.limits.total c.requires.plan.bounded ds c.requires.fits in
    shown-all file c.args.plan.now.gammas.now ds can (its-shares file c.args.plan.now.limits.total c.requires.plan.bounded) c.args.graph.now c.requires.graph.timed c.args.cycle.now c.loop-scenario.scenario c.as_slice-2.result.now
    (omega (arith, c.loop-scenario-test.false, c.len-scenario-end.ensures))
    (subst (AreMarkedTo file ds c.args.graph.now c.args.cycle.now c.loop-scenario.scenario) (sym c.as_slice-2.ensures.value) c.loop-scenario.invariant) c.listed.result c.listed.ensures
