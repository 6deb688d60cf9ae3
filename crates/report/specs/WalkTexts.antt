-- The steps of a walk, as lines show them.
use Rattle.std.specs.Prelude.{ℕ, Bool, true, false, List, [], ◌∷◌, ◌++◌, slice_index_or, codes}
use Rattle.sd_base.specs.declared.tables.GraphFile.{GraphFile}
use Rattle.sd_base.specs.declared.tables.ChannelRow.{ChannelRow}
use Rattle.balance.specs.declared.walk.WalkStep.{WalkStep}
use Rattle.escapes.specs.EscapedNames.{escaped_name}

-- what stands for a channel past the last one
abbrev pub no_channel : ChannelRow
no_channel = record { name = []; source = 0; target = 0; made = []; taken = []; tokens = 0; size = 0 }

-- a forward step is `+`, a backward one `-`
abbrev pub sign_of : Bool → List ℕ
sign_of true = codes "+"
sign_of false = codes "-"

-- a step is its sign and its channel's name
unfoldable pub step_text : GraphFile → WalkStep → List ℕ
step_text g s = sign_of s.forward ++ escaped_name (slice_index_or g.channels s.channel no_channel).name

-- each step after the first has a space before it
unfoldable pub more_steps : GraphFile → List WalkStep → List ℕ
more_steps g [] = []
more_steps g (s ∷ ss) = codes " " ++ (step_text g s ++ more_steps g ss)

-- the steps of a walk with spaces between them
unfoldable pub steps_text : GraphFile → List WalkStep → List ℕ
steps_text g [] = []
steps_text g (s ∷ ss) = step_text g s ++ more_steps g ss
