use Rattle.std.proofs.Common.{◌≡◌, ℕ, ◌*◌, ◌≤◌, ◌<◌, List, [], Option, Some, length, refl, sym, ap, subst, ◌∙◌, arith}
use Rattle.std.specs.Prelude.{slice_get, slice_index_or}
use Rattle.std.proofs.Math.Nat.{mul-le-mul_right}
use Rattle.std.proofs.lemmas.List.{get_or_default}
use Rattle.std.proofs.lemmas.Option.{slice_get_read}
use Rattle.sd_base.specs.declared.limits.TheConstants.{NODES}
use Rattle.sd_base.specs.declared.tables.ScenarioFile.{ScenarioFile}
use Rattle.sd_base.specs.declared.tables.StateRow.{StateRow}
use Rattle.sd_base.specs.Scenarios.{shared_count, LeadsOn}
use Rattle.automaton.proofs.making.token_count.Goals as goal

-- the initial state, as it is read
first : (file : ScenarioFile) (items : List StateRow) (state : StateRow) → LeadsOn file → items ≡ file.states → state ≡ slice_index_or items file.initial state
    → slice_get file.states file.initial ≡ Some state
first file items state leads same is =
    let below : file.initial < length items = subst (λ (xs : List StateRow). file.initial < length xs) (sym same) leads.initial in
    subst (λ (xs : List StateRow). slice_get xs file.initial ≡ Some state) same (slice_get_read items (length items) file.initial state refl below is)

pub bounds-matrices-initial : goal.bounds-matrices-initial
bounds-matrices-initial c =
    let file = c.args.file.now in
    let state = c.index-as_slice-file.result in
    let below : state.scenario < length file.scenarios =
    c.requires.leads_on.scenarios file.initial state (first file c.as_slice.result.now state c.requires.leads_on c.as_slice.ensures c.index-as_slice-file.is) in
    omega (arith, below, c.requires.all)

pub returns-clause-is : goal.returns-clause-is
returns-clause-is c =
    let file = c.args.file.now in
    let state = c.index-as_slice-file.result in
    let at = first file c.as_slice.result.now state c.requires.leads_on c.as_slice.ensures c.index-as_slice-file.is in
    let below : state.scenario < length file.scenarios = c.requires.leads_on.scenarios file.initial state at in
    let inside : state.scenario < length c.args.matrices.now = omega (arith, below, c.requires.all) in
    c.size.ensures.is
    ∙ ap (λ (m : List (List (Option ℕ))). length m) (c.index-matrices-initial.is ∙ get_or_default c.args.matrices.now state.scenario c.index-matrices-initial.result [] inside)
    ∙ c.requires.sized file.initial state at

pub returns-clause-few : goal.returns-clause-few
returns-clause-few c =
    let some : c.args.file.now.initial < length c.args.file.now.states = c.requires.leads_on.initial in
    let more : 1 * shared_count c.args.file.now.shared ≤ length c.args.file.now.states * shared_count c.args.file.now.shared =
    mul-le-mul_right (shared_count c.args.file.now.shared) (let g : 1 ≤ length c.args.file.now.states = omega arith in g) in
    let few : length c.args.file.now.states * shared_count c.args.file.now.shared ≤ NODES = c.requires.nodes in
    let is = returns-clause-is c in
    omega (arith, is)
