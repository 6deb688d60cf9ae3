use Rattle.std.proofs.Common.{◌≡◌, ℕ, ◌<◌, ◌⊎◌, true, false}
use Rattle.sd_base.specs.Net.{channel_at}
use Rattle.sd_base.specs.Lawful.{is_token_role, is_space_role}
use Rattle.test_pareto_search.proofs.checks.is_plain.Given as goal

abbrev pub invariant-loop-channel : goal.invariant-loop-channel
invariant-loop-channel g l =
    (i : ℕ) → i < l.channel → (is_token_role (channel_at (g.F.Firing.net l.net) i).role ≡ true)
    ⊎ ((is_space_role (channel_at (g.F.Firing.net l.net) i).role ≡ false) × ((channel_at (g.F.Firing.net l.net) i).source ≡ (channel_at (g.F.Firing.net l.net) i).target))
