-- The plain net of a bounded net's parts.
use Rattle.std.specs.Prelude.{◌<◌, List, ◌++◌, map, length, All}
use Rattle.sd_base.specs.declared.role.Role.TheVariants as roles
use Rattle.sd_base.specs.Net.{Channel, Net, channel_at}
use Rattle.storage.specs.declared.bounded.Space.{Space}

-- the space channel that a space stands for
abbrev pub space_in : Net → Space → Channel
space_in net s = record {
  source = (channel_at net s.channel).target;
  target = (channel_at net s.channel).source;
  made = (channel_at net s.channel).taken;
  taken = (channel_at net s.channel).made;
  tokens = s.tokens;
  size = (channel_at net s.channel).size;
  role = roles.Space s.channel;
}

-- the net with these spaces
unfoldable pub with_spaces : Net → List Space → Net
with_spaces net spaces = record { times = net.times; channels = net.channels ++ map (space_in net) spaces; round = net.round }

-- each space is that of a channel of the net
abbrev pub AreSpacesOf : Net → List Space → Type 0
AreSpacesOf net spaces = All (λ (s : Space). s.channel < length net.channels) spaces
