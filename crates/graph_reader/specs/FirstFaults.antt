-- The fault that refuses a file.
use Rattle.std.specs.Prelude.{◌≡◌, ℕ, Bool, List, Result, Err}
use Rattle.file_text.specs.declared.error.TextError.TheVariants as text
use Rattle.file_text.specs.Node.{Node}
use Rattle.file_text.specs.Grammar.{IsText}
use Rattle.file_text.specs.Fault.{FirstFault}
use Rattle.graph_reader.specs.declared.error.ReadError.{ReadError}
use Rattle.graph_reader.specs.declared.error.ReadError.TheVariants.{Text, NoMemory}
use Rattle.graph_reader.specs.Sections.{table_of}

-- the bytes spell a tree, and this is the first broken rule that a walk through it answers
abbrev pub BreaksRuleOf : {T : Type 0} → (Node → Result T ReadError) → List ℕ → ReadError → Type 0
BreaksRuleOf walk bytes error = (e : Node) × IsText e bytes × (walk e ≡ Err error)

-- the first fault of the bytes: of the text, or else of the tree that it spells; want of memory says nothing of them
abbrev pub IsFirstFaultOf : {T : Type 0} → (Node → Result T ReadError) → List ℕ → ReadError → Type 0
IsFirstFaultOf walk bytes NoMemory = Unit {0}
IsFirstFaultOf walk bytes (Text text.NoMemory) = ⊥
IsFirstFaultOf walk bytes (Text fault) = FirstFault bytes fault
IsFirstFaultOf walk bytes error = BreaksRuleOf walk bytes error

-- the first fault of a graph file
abbrev pub IsFirstFault : List ℕ → Bool → ReadError → Type 0
IsFirstFault bytes need_times error = IsFirstFaultOf (table_of need_times) bytes error
