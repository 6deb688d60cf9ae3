-- The words of a graph file that a refusal can name.
use Rattle.std.specs.Prelude.{ℕ, List, codes}
use Rattle.graph_reader.specs.declared.field.Field.{Field}
use Rattle.graph_reader.specs.declared.field.Field.TheVariants as field

-- the word of an element or attribute
unfoldable pub word_of : Field → List ℕ
word_of field.Sdf3 = codes "sdf3"
word_of field.TypeWord = codes "type"
word_of field.ApplicationGraph = codes "applicationGraph"
word_of field.Sdf = codes "sdf"
word_of field.Csdf = codes "csdf"
word_of field.Fsmsadf = codes "fsmsadf"
word_of field.Scenario = codes "scenario"
word_of field.Fsm = codes "fsm"
word_of field.State = codes "state"
word_of field.InitialState = codes "initialState"
word_of field.Actor = codes "actor"
word_of field.Name = codes "name"
word_of field.Rate = codes "rate"
word_of field.Channel = codes "channel"
word_of field.SrcActor = codes "srcActor"
word_of field.SrcPort = codes "srcPort"
word_of field.DstActor = codes "dstActor"
word_of field.DstPort = codes "dstPort"
word_of field.InitialTokens = codes "initialTokens"
word_of field.SdfProperties = codes "sdfProperties"
word_of field.CsdfProperties = codes "csdfProperties"
word_of field.ExecutionTime = codes "executionTime"
word_of field.Time = codes "time"
word_of field.Sz = codes "sz"
