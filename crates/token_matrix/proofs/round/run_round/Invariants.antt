use Rattle.std.proofs.Common.{ℕ, [], take}
use Rattle.token_matrix.specs.inside.RoundRows.{StandsAfter}
use Rattle.token_matrix.proofs.round.run_round.Given as goal

-- the lines stand where the firings so far lead, however the shared tokens are numbered
abbrev pub invariant-loop-place : goal.invariant-loop-place
invariant-loop-place g l = (first : ℕ → ℕ) → StandsAfter (g.F.Firing.net l.net) first l.size [] l.initial.lines → StandsAfter (g.F.Firing.net l.net) first l.size (take l.place l.order) l.lines
