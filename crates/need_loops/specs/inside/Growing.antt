-- Rows of starts that grow by needs.
use Rattle.std.specs.Prelude.{◌≡◌, ℕ, length}
use Rattle.sd_base.specs.Net.{Net}
use Rattle.need_loops.specs.declared.growth.Growth.{Growth}
use Rattle.need_loops.specs.inside.Needing.{AreDue, AreNext}

-- by actor starts up to a moment that are due, what the firing after them needs, and a flag
pub record IsGrowth (net : Net) (until : ℕ) (g : Growth) : Type 0 where
  pub due : AreDue net until g.starts.items
  pub next : AreNext net g.starts.items g.firings.items
  pub flags : length g.flags.items ≡ length net.times
