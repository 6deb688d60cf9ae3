-- Distributions of a net, told by places.
use Rattle.std.specs.Prelude.{◌≡◌, ◌≢◌, ℕ, ◌≤◌, false, true, Option, None, Some}
use Rattle.sd_base.specs.Net.{Channel}
use Rattle.sd_base.specs.Lawful.{is_token_role}

-- the entry of a channel: none where it isn't of the file, and is a self-loop; no capacity for a self-loop of the file; and for
-- any other channel of the file a capacity that covers the tokens
abbrev pub FitsAt : Channel → Option (Option ℕ) → Type 0
FitsAt c None = (is_token_role c.role ≡ false) × (c.source ≡ c.target)
FitsAt c (Some None) = (is_token_role c.role ≡ true) × (c.source ≡ c.target)
FitsAt c (Some (Some k)) = (is_token_role c.role ≡ true) × (c.source ≢ c.target) × (c.tokens ≤ k)
