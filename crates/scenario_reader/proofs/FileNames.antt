-- The names of a file of scenarios that is read can be written.
use Rattle.std.proofs.Common.{◌≡◌, Bool, true, false, ◌==◌, List, [], ◌∷◌, Result, Ok, Err, All, sym, subst}
use Rattle.std.specs.Prelude.{IfOk, cond}
use Rattle.std.proofs.lemmas.List.Elements.{All-nil, All-cons, All-head, All-tail, All-same}
use Rattle.std.proofs.lemmas.Result.{IfOk-at_ok}
use Rattle.sd_base.specs.declared.tables.Kind.TheVariants.{Sdf}
use Rattle.sd_base.specs.declared.tables.ChannelRow.{ChannelRow}
use Rattle.sd_base.specs.declared.tables.ScenarioFile.{ScenarioFile}
use Rattle.sd_base.specs.declared.tables.ScenarioRow.{ScenarioRow}
use Rattle.sd_base.specs.declared.tables.SharedRow.{SharedRow}
use Rattle.sd_base.specs.declared.tables.StateRow.{StateRow}
use Rattle.file_text.specs.Node.{Node}
use Rattle.file_text.specs.Grammar.{Each}
use Rattle.file_text.specs.Values.{HasCharacters}
use Rattle.file_text.proofs.ValueTexts.{text-characters}
use Rattle.graph_reader.specs.declared.error.ReadError.{ReadError}
use Rattle.graph_reader.specs.declared.field.Field.TheVariants as field
use Rattle.graph_reader.specs.Field.{word_of}
use Rattle.graph_reader.specs.TreeSteps.{children, Gives}
use Rattle.graph_reader.specs.WritableNames.{IsWritableName, HasWritableNames}
use Rattle.graph_reader.proofs.ReadNames.{all-from_each, each-read, name-writable, only-characters, graph-names}
use Rattle.graph_reader.proofs.ValuesAreCharacters.{children-characters}
use Rattle.scenario_reader.specs.declared.states.State.{State}
use Rattle.scenario_reader.specs.ScenarioFiles.{ReadFileIsWritable}
use Rattle.scenario_reader.specs.ScenarioNames.{FileHasWritableNames}
use Rattle.scenario_reader.specs.ScenarioSections.{rows_of, file_of}
use Rattle.scenario_reader.specs.ScenarioSpelled.{IsScenario, AreShared, IsState, AreRows, IsScenarioFile}
use Rattle.scenario_reader.proofs.ScenarioFound.{file_of as found}

-- the shared rows have names of channels
rows-names : (channels : List ChannelRow) → All (λ (c : ChannelRow). IsWritableName c.name) channels → All (λ (r : SharedRow). IsWritableName r.name) (rows_of channels)
rows-names [] names = All-nil (λ (r : SharedRow). IsWritableName r.name)
rows-names (c ∷ channels) names =
    at (c.tokens == 0) (All-head (λ (d : ChannelRow). IsWritableName d.name) c channels names) (rows-names channels (All-tail (λ (d : ChannelRow). IsWritableName d.name) c channels names))
  where
    at : (b : Bool) → IsWritableName c.name → All (λ (r : SharedRow). IsWritableName r.name) (rows_of channels)
        → All (λ (r : SharedRow). IsWritableName r.name) (cond b (rows_of channels) (record { name = c.name; tokens = c.tokens } ∷ rows_of channels))
    at true name rest = rest
    at false name rest = All-cons (λ (r : SharedRow). IsWritableName r.name) (record { name = c.name; tokens = c.tokens }) (rows_of channels) name rest

shared-names : (scenarios : List ScenarioRow) (shared : List SharedRow) → All (λ (s : ScenarioRow). HasWritableNames s.graph) scenarios → AreShared scenarios shared → All (λ (r : SharedRow). IsWritableName r.name) shared
shared-names [] shared names are = All-same (λ (r : SharedRow). IsWritableName r.name) shared [] are (All-nil (λ (r : SharedRow). IsWritableName r.name))
shared-names (s ∷ rest) shared names are =
    All-same (λ (r : SharedRow). IsWritableName r.name) shared (rows_of s.graph.channels) are.0
    (rows-names s.graph.channels (All-head (λ (t : ScenarioRow). HasWritableNames t.graph) s rest names).channels)

-- the rows of states have their names
states-names : (states rest : List State) (es : List Node) (rows : List StateRow) → Each (λ (s : State). IsWritableName s.name) rest → AreRows states rest es rows → Each (λ (r : StateRow). IsWritableName r.name) rows
states-names states [] [] [] names are = tt
states-names states (s ∷ rest) (e ∷ es) (row ∷ rows) names are = (subst IsWritableName (sym are.0.name) names.0, states-names states rest es rows names.1 are.1)
states-names states rest es rows names are = absurd are

file-names : (e : Node) (f : ScenarioFile) → HasCharacters e → IsScenarioFile e f → FileHasWritableNames f
file-names e f good is = record {
  scenarios = all-from_each (λ (s : ScenarioRow). IsWritableName s.name) f.scenarios
      (each-read IsScenario (λ (s : ScenarioRow). IsWritableName s.name) (λ x s fine read. name-writable x s.name fine read.name) (children (word_of field.Scenario) is.section) f.scenarios scenarios is.are_scenarios.rows);
  graphs = graphs;
  shared = shared-names f.scenarios f.shared graphs is.are_shared;
  states = all-from_each (λ (s : StateRow). IsWritableName s.name) f.states
      (states-names is.states is.states (children (word_of field.State) is.fsm) f.states states is.are_rows);
}
  where
    section : HasCharacters is.section
    section = only-characters (word_of field.Fsmsadf) is.graph is.section (only-characters (word_of field.ApplicationGraph) e is.graph good is.one_graph) is.one_section

    scenarios : Each HasCharacters (children (word_of field.Scenario) is.section)
    scenarios = children-characters (word_of field.Scenario) is.section section

    graphs : All (λ (s : ScenarioRow). HasWritableNames s.graph) f.scenarios
    graphs = all-from_each (λ (s : ScenarioRow). HasWritableNames s.graph) f.scenarios
        (each-read IsScenario (λ (s : ScenarioRow). HasWritableNames s.graph) (λ x s fine read. graph-names Sdf true x s.graph fine read.graph) (children (word_of field.Scenario) is.section) f.scenarios scenarios is.are_scenarios.rows)

    states : Each (λ (s : State). IsWritableName s.name) is.states
    states = each-read (IsState f.scenarios) (λ (s : State). IsWritableName s.name) (λ x s fine read. name-writable x s.name fine read.name) (children (word_of field.State) is.fsm) is.states
        (children-characters (word_of field.State) is.fsm (only-characters (word_of field.Fsm) is.section is.fsm section is.one_fsm)) is.are_states.rows

-- the file that a tree gives has names that can be written
tree_names : (e : Node) (f : ScenarioFile) → HasCharacters e → file_of e ≡ Ok f → FileHasWritableNames f
tree_names e f good gives = file-names e f good (IfOk-at_ok (IsScenarioFile e) gives (found e))

pub given_names : (e : Node) (result : Result ScenarioFile ReadError) → HasCharacters e → Gives (λ f. f) result (file_of e) → IfOk result FileHasWritableNames
given_names e (Ok f) good gives = tree_names e f good gives
given_names e (Err error) good gives = tt

-- and so has a file that is read
pub writable : ReadFileIsWritable
writable bytes f (e, is, gives) = tree_names e f (text-characters e bytes is) gives
