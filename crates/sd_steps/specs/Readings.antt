-- Taking and reading a graph file, and the refusal of each of its faults.
use Rattle.std.specs.Prelude.{◌≡◌, ◌≢◌, ℕ, Bool, List, None}
use Rattle.sd_base.specs.declared.tables.GraphFile.{GraphFile}
use Rattle.file_text.specs.declared.error.Construct.{Construct}
use Rattle.file_text.specs.declared.error.Construct.TheVariants as construct
use Rattle.file_text.specs.declared.error.TextError.{TextError}
use Rattle.file_text.specs.declared.error.TextError.TheVariants as text
use Rattle.graph_reader.specs.declared.error.ReadError.{ReadError}
use Rattle.graph_reader.specs.declared.error.ReadError.TheVariants as reading
use Rattle.graph_reader.specs.Field.{word_of}
use Rattle.graph_reader.specs.Laws.{Gives}
use Rattle.graph_reader.specs.FirstFaults.{IsFirstFault}
use Rattle.report.specs.declared.refusal.Refusal.{Refusal}
use Rattle.report.specs.declared.refusal.Refusal.TheVariants.{Text, DocumentType, CdataSection, Instruction, CharReference, Encoding, WrongKind, Missing, Unknown, Twice, BadWord, BadNumber, PhasesDiffer, SharedDiffers, NoSuccessor, Above, UsageWords}
use Rattle.escapes.specs.EscapedNames.{escaped_name}
use Rattle.sd_base.specs.Limits.{greatest_of}
use Rattle.report.specs.QuantityWords.{quantity_text}
use Rattle.sd_base.specs.declared.limits.Quantity.TheVariants as quantity
use Rattle.sd_io.specs.Outside.{Files}
use Rattle.sd_steps.specs.declared.file_kind.FileKind.TheVariants as kinds
use Rattle.sd_steps.specs.Courses.{Step, deciding, through}
use Rattle.sd_steps.specs.Takings.{taking}

abbrev pub construct_refusal : ℕ → Construct → Refusal
construct_refusal place construct.Doctype = DocumentType place
construct_refusal place construct.Cdata = CdataSection place
construct_refusal place construct.Instruction = Instruction place
construct_refusal place construct.Reference = CharReference place
construct_refusal place construct.Encoding = Encoding place

-- the refusal of a fault of the text; want of memory has none
abbrev pub text_refusal : TextError → Refusal
text_refusal (text.Syntax place) = Text place
text_refusal (text.Unsupported place what) = construct_refusal place what
text_refusal (text.TooDeep place) = Above None (quantity_text quantity.Depth) (greatest_of quantity.Depth)
text_refusal text.NoMemory = UsageWords

-- the refusal of the first fault of a file; want of memory has none
abbrev pub reading_refusal : ReadError → Refusal
reading_refusal (reading.Text fault) = text_refusal fault
reading_refusal reading.WrongKind = WrongKind
reading_refusal (reading.Missing what of) = Missing (word_of what) (escaped_name of)
reading_refusal (reading.Unknown what name) = Unknown (word_of what) (escaped_name name)
reading_refusal (reading.Twice what name) = Twice (word_of what) (escaped_name name)
reading_refusal (reading.BadWord what of) = BadWord (word_of what) (escaped_name of)
reading_refusal (reading.BadNumber what of) = BadNumber (word_of what) (escaped_name of)
reading_refusal (reading.PhaseCount actor) = PhasesDiffer (escaped_name actor)
reading_refusal (reading.SharedDiffer channel) = SharedDiffers (escaped_name channel)
reading_refusal (reading.DeadEnd state) = NoSuccessor (escaped_name state)
reading_refusal (reading.Limit what) = Above None (quantity_text what) (greatest_of what)
reading_refusal reading.NoMemory = UsageWords

-- the first fault of the bytes is told of
pub record IsReadingRefusal (bytes : List ℕ) (times : Bool) (refusal : Refusal) : Type 0 where
  pub error : ReadError
  pub some : error ≢ reading.NoMemory
  pub first : IsFirstFault bytes times error
  pub told : refusal ≡ reading_refusal error

-- reading the graph that the bytes spell, with its times where they are needed
abbrev pub reading_graph : List ℕ → Bool → Step GraphFile
reading_graph bytes times = deciding (λ graph. Gives bytes times graph) (λ refusal. IsReadingRefusal bytes times refusal)

-- taking the graph file of a name, and reading it
abbrev pub opening_graph : Files → List ℕ → Bool → Step GraphFile
opening_graph files name times = through (taking files kinds.Graph name) λ bytes. reading_graph bytes times
