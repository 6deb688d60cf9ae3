-- Laws of graph files: the bytes decide their table or their first fault.
use Rattle.std.specs.Prelude.{◌≡◌, ◌≢◌, ℕ, Bool, true, List, Result, Ok}
use Rattle.sd_base.specs.declared.tables.GraphFile.{GraphFile}
use Rattle.sd_base.specs.Tables.{KeepsRules, IsTimed}
use Rattle.file_text.specs.Node.{Node}
use Rattle.file_text.specs.Grammar.{IsText}
use Rattle.graph_reader.specs.declared.error.ReadError.{ReadError}
use Rattle.graph_reader.specs.declared.error.ReadError.TheVariants.{NoMemory}
use Rattle.graph_reader.specs.FirstFaults.{IsFirstFault}
use Rattle.graph_reader.specs.Sections.{table_of}
use Rattle.graph_reader.specs.WritableNames.{HasWritableNames}

-- the bytes spell a tree, and a walk through it gives this
abbrev pub GivesBy : {T : Type 0} → (Node → Result T ReadError) → List ℕ → T → Type 0
GivesBy walk bytes t = (e : Node) × IsText e bytes × (walk e ≡ Ok t)

-- the bytes spell a tree whose sections give this table
abbrev pub Gives : List ℕ → Bool → GraphFile → Type 0
Gives bytes need_times t = GivesBy (table_of need_times) bytes t

-- bytes have one table
abbrev pub HasOneTable : Type 0
HasOneTable = (bytes : List ℕ) (need_times : Bool) (t u : GraphFile) → Gives bytes need_times t → Gives bytes need_times u → t ≡ u

-- and one first fault
abbrev pub HasOneFault : Type 0
HasOneFault = (bytes : List ℕ) (need_times : Bool) (x y : ReadError) → x ≢ NoMemory → y ≢ NoMemory →
    IsFirstFault bytes need_times x → IsFirstFault bytes need_times y → x ≡ y

-- bytes that have a table have no fault
abbrev pub ReadHasNoFault : Type 0
ReadHasNoFault = (bytes : List ℕ) (need_times : Bool) (t : GraphFile) (x : ReadError) → x ≢ NoMemory →
    Gives bytes need_times t → IsFirstFault bytes need_times x → ⊥

-- a table that is read keeps the rules
abbrev pub ReadKeepsRules : Type 0
ReadKeepsRules = (bytes : List ℕ) (need_times : Bool) (t : GraphFile) → Gives bytes need_times t → KeepsRules t

-- and has its times where they are needed
abbrev pub ReadIsTimed : Type 0
ReadIsTimed = (bytes : List ℕ) (t : GraphFile) → Gives bytes true t → IsTimed t

-- and names that can be written
abbrev pub ReadIsWritable : Type 0
ReadIsWritable = (bytes : List ℕ) (need_times : Bool) (t : GraphFile) → Gives bytes need_times t → HasWritableNames t
