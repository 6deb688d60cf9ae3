-- The forms of values, and what each makes of a value.
use Rattle.std.specs.Prelude.{ℕ, Bool, List, Option, Some, None, is_some}
use Rattle.std.specs.Option.{option_map}
use Rattle.sd_words.specs.declared.form.Form.{Form}
use Rattle.sd_words.specs.declared.form.Form.TheVariants as form
use Rattle.sd_words.specs.declared.form.Value.{Value}
use Rattle.sd_words.specs.declared.form.Value.TheVariants as value
use Rattle.sd_words.specs.declared.names.OptionName.{OptionName}
use Rattle.sd_words.specs.Values.{number_within}
use Rattle.sd_words.specs.Buffers.{buffers_of}
use Rattle.sd_words.specs.OrderLists.{orders_of}

-- what a form makes of a text; nothing, where the text isn't of the form
unfoldable pub read : Form → List ℕ → Option Value
read form.Text text = Some (value.Text text)
read (form.Output source) text = Some (value.Text text)
read (form.Certificate source) text = Some (value.Text text)
read (form.Number least greatest) text = option_map (λ n. value.Number n) (number_within least greatest text)
read form.Buffers text = option_map (λ buffers. value.Buffers buffers) (buffers_of text)
read form.Orders text = option_map (λ orders. value.Orders orders) (orders_of text)
read form.Flag text = Some value.Flag

-- a text is of a form
abbrev pub fits : Form → List ℕ → Bool
fits form text = is_some (read form text)

-- the option whose file an output is made of: the output has another name
unfoldable pub made_of : Form → Option OptionName
made_of (form.Output source) = Some source
made_of form = None

-- the option whose file a certificate is put for: the certificate has another name
unfoldable pub put_for : Form → Option OptionName
put_for (form.Certificate source) = Some source
put_for form = None
