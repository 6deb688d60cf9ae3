-- Graphs that share the tokens of their first channels.
use Rattle.std.specs.Prelude.{◌≡◌, ◌≢◌, ℕ, ◌≤◌, ◌<◌, List, Some, length, slice_get}
use Rattle.sd_base.specs.declared.tables.ChannelRow.{ChannelRow}
use Rattle.sd_base.specs.declared.tables.SharedRow.{SharedRow}

-- the channel has the name of the row and as many tokens, of which there are some
pub record IsOf (row : SharedRow) (c : ChannelRow) : Type 0 where
  pub name : c.name ≡ row.name
  pub tokens : c.tokens ≡ row.tokens
  pub some : 1 ≤ row.tokens

-- the first channels are the rows in order, and the others have no tokens; no two channels have one name
pub record BeginWith (shared : List SharedRow) (cs : List ChannelRow) : Type 0 where
  pub few : length shared ≤ length cs
  pub same : (s : ℕ) (row : SharedRow) (c : ChannelRow) → slice_get shared s ≡ Some row → slice_get cs s ≡ Some c → IsOf row c
  pub rest : (i : ℕ) (c : ChannelRow) → slice_get cs i ≡ Some c → length shared ≤ i → c.tokens ≡ 0
  pub differ : (j : ℕ) (d : ChannelRow) → slice_get cs j ≡ Some d → (i : ℕ) (c : ChannelRow) → slice_get cs i ≡ Some c → i < j → c.name ≢ d.name
