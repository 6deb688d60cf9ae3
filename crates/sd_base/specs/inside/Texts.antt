-- The bytes of a text.
use Rattle.std.specs.Prelude.{ℕ, List}
use Rattle.std.specs.String.{string_bytes}
use Rattle.sd_base.specs.declared.text.Form.{Form}
use Rattle.sd_base.specs.declared.text.Form.TheVariants.{Short, Long}

-- those of a short text stand in it, and those of a long one in a string
abbrev pub bytes_of : Form → List ℕ
bytes_of (Short text) = text.bytes
bytes_of (Long text) = string_bytes text
