-- What is done with a net goes as a command, where memory lacks before it begins.
use Rattle.std.proofs.Common.{◌≡◌, ◌-◌, ℕ, List, Result, Err, refl, subst, arith}
use Rattle.sd_base.specs.declared.tables.GraphFile.{GraphFile}
use Rattle.sd_base.specs.Net.{Net}
use Rattle.storage.specs.declared.distribution.Distribution.{Distribution}
use Rattle.sd_steps.specs.declared.answer.Answer.{Answer}
use Rattle.sd_steps.specs.declared.stop.Stop.{Stop}
use Rattle.sd_steps.specs.declared.stop.Stop.TheVariants as stop
use Rattle.sd_command.specs.declared.commands.wanted.Wanted.{Wanted}
use Rattle.sd_command.specs.declared.commands.wanted.Wanted.TheVariants as wants
use Rattle.sd_steps.specs.Courses.{Ending, Lacking, lacking}
use Rattle.sd_command.specs.inside.Goings.{Goes}
use Rattle.sd_command.specs.inside.Wants.{on_net}

pub lacks-first : (wanted : Wanted) (graph : GraphFile) (gamma : List ℕ) (distribution : Distribution) (net : Net) (n faults : ℕ) → n ≡ 0
    → Goes (on_net wanted graph gamma distribution net) (Err stop.OutOfMemory) n faults faults
lacks-first (wants.Rate wanted) graph gamma distribution net n faults none = record { ending = Lacking; is = refl; came = lacking refl none; counted = refl }
lacks-first (wants.Ordered lists wanted) graph gamma distribution net n faults none = record { ending = Lacking; is = refl; came = lacking refl none; counted = refl }
lacks-first (wants.Rounds wanted) graph gamma distribution net n faults none = record { ending = Lacking; is = refl; came = lacking refl none; counted = refl }
lacks-first (wants.Expansion output no_overlap) graph gamma distribution net n faults none = record { ending = Lacking; is = refl; came = lacking refl none; counted = refl }

-- a count that stays is no execution
pub nothing-run : (command : Ending → ℕ → Type 0) (result : Result Answer Stop) (count faults : ℕ) → Goes command result 0 faults faults → Goes command result (count - count) faults faults
nothing-run command result count faults goes = let none : 0 ≡ count - count = omega arith in subst (λ (n : ℕ). Goes command result n faults faults) none goes
