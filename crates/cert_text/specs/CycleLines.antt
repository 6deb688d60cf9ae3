-- The lines of a need cycle.
use Rattle.std.specs.Prelude.{ℕ, List, [], ◌∷◌, ◌++◌, codes, length}
use Rattle.std.specs.List.{flat_map}
use Rattle.std.specs.Fmt.{decimal}
use Rattle.sd_base.specs.declared.role.Role.{Role}
use Rattle.sd_base.specs.declared.role.Role.TheVariants.{Token, Own, Space, Order}
use Rattle.critical.specs.declared.cycle.FiringNo.{FiringNo}
use Rattle.cert_text.specs.declared.certificates.LinkStep.{LinkStep}
use Rattle.cert_text.specs.declared.certificates.LinkCycle.{LinkCycle}

-- a firing, and the rest of its line
abbrev pub firing_then : FiringNo → List ℕ → List ℕ
firing_then firing rest = decimal firing.actor ++ (codes " " ++ (decimal firing.number ++ (codes " " ++ rest)))

-- a link: the tokens of a channel, the free space of a channel, or the own channel of an actor; an edge of an order has no text
unfoldable pub link_text : Role → List ℕ
link_text (Token channel) = codes "t" ++ decimal channel
link_text (Space channel) = codes "s" ++ decimal channel
link_text (Own actor) = codes "o" ++ decimal actor
link_text (Order _ _) = []

unfoldable pub step_line : LinkStep → List ℕ
step_line step = firing_then step.to (link_text step.link ++ 10 ∷ [])

-- the time, the rounds, the first firing and the number of steps
unfoldable pub cycle_header : ℕ → ℕ → FiringNo → ℕ → List ℕ
cycle_header time rounds first steps = codes "cycle " ++ (decimal time ++ (codes " " ++ (decimal rounds ++ (codes " " ++ firing_then first (decimal steps ++ 10 ∷ [])))))

unfoldable pub cycle_lines : LinkCycle → List ℕ
cycle_lines cycle = cycle_header cycle.time cycle.rounds cycle.first (length cycle.steps) ++ flat_map step_line cycle.steps
