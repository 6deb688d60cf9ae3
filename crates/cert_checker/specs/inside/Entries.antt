-- Distributions channel by channel.
use Rattle.std.specs.Prelude.{◌≡◌, ◌≢◌, ℕ, ◌≤◌, true, false, Option, None, Some}
use Rattle.sd_base.specs.Net.{Channel}
use Rattle.sd_base.specs.Lawful.{is_token_role}

-- the entry of a channel is right, or it has none and isn't one of the file
abbrev pub Fits : Channel → Option (Option ℕ) → Type 0
Fits c None = (is_token_role c.role ≡ false) × (c.source ≡ c.target)
Fits c (Some None) = (is_token_role c.role ≡ true) × (c.source ≡ c.target)
Fits c (Some (Some k)) = (is_token_role c.role ≡ true) × (c.source ≢ c.target) × (c.tokens ≤ k)
