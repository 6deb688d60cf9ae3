-- A text's fault as the refusal of a graph file.
use Rattle.file_text.specs.declared.error.TextError.{TextError}
use Rattle.file_text.specs.declared.error.TextError.TheVariants as text
use Rattle.graph_reader.specs.declared.error.ReadError.{ReadError}
use Rattle.graph_reader.specs.declared.error.ReadError.TheVariants.{Text, NoMemory}

-- want of memory stays what it is
abbrev pub text_refusal : TextError → ReadError
text_refusal text.NoMemory = NoMemory
text_refusal fault = Text fault
