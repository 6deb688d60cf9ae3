-- What the bytes of a file of scenarios give, and the laws of it.
use Rattle.std.specs.Prelude.{◌≡◌, ◌≢◌, ℕ, List}
use Rattle.sd_base.specs.declared.tables.ScenarioFile.{ScenarioFile}
use Rattle.sd_base.specs.Scenarios.{FileKeepsRules}
use Rattle.graph_reader.specs.declared.error.ReadError.{ReadError}
use Rattle.graph_reader.specs.declared.error.ReadError.TheVariants.{NoMemory}
use Rattle.graph_reader.specs.FirstFaults.{IsFirstFaultOf}
use Rattle.graph_reader.specs.Laws.{GivesBy}
use Rattle.scenario_reader.specs.ScenarioNames.{FileHasWritableNames}
use Rattle.scenario_reader.specs.ScenarioSections.{file_of}

-- the bytes spell a tree whose sections give this file
abbrev pub GivesFile : List ℕ → ScenarioFile → Type 0
GivesFile bytes f = GivesBy file_of bytes f

-- the first fault of the bytes: of the text, or else of the tree that it spells; want of memory says nothing of them
abbrev pub IsFirstFileFault : List ℕ → ReadError → Type 0
IsFirstFileFault bytes error = IsFirstFaultOf file_of bytes error

-- bytes have one file
abbrev pub HasOneFile : Type 0
HasOneFile = (bytes : List ℕ) (f g : ScenarioFile) → GivesFile bytes f → GivesFile bytes g → f ≡ g

-- and one first fault
abbrev pub HasOneFileFault : Type 0
HasOneFileFault = (bytes : List ℕ) (x y : ReadError) → x ≢ NoMemory → y ≢ NoMemory → IsFirstFileFault bytes x → IsFirstFileFault bytes y → x ≡ y

-- bytes that have a file have no fault
abbrev pub ReadFileHasNoFault : Type 0
ReadFileHasNoFault = (bytes : List ℕ) (f : ScenarioFile) (x : ReadError) → x ≢ NoMemory → GivesFile bytes f → IsFirstFileFault bytes x → ⊥

-- a file that is read keeps the rules
abbrev pub ReadFileKeepsRules : Type 0
ReadFileKeepsRules = (bytes : List ℕ) (f : ScenarioFile) → GivesFile bytes f → FileKeepsRules f

-- and has names that can be written
abbrev pub ReadFileIsWritable : Type 0
ReadFileIsWritable = (bytes : List ℕ) (f : ScenarioFile) → GivesFile bytes f → FileHasWritableNames f
