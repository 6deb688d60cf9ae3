-- The net of a connected graph file is connected, and its channels, counted twice, aren't too many.
use Rattle.std.proofs.Common.{◌≡◌, ℕ, zero, suc, ◌+◌, ◌*◌, ◌≤◌, inl, inr, Bool, List, [], ◌∷◌, ◌++◌, length, map, Some, arith, length-append}
use Rattle.std.specs.Prelude.{slice_get}
use Rattle.std.proofs.lemmas.List.{length-map}
use Rattle.sd_base.specs.declared.limits.TheConstants.{NET_CHANNELS}
use Rattle.sd_base.specs.declared.tables.GraphFile.{GraphFile}
use Rattle.sd_base.specs.declared.tables.ChannelRow.{ChannelRow}
use Rattle.sd_base.specs.Tables.{KeepsRules}
use Rattle.sd_base.specs.Net.{Channel, file_channels, file_channels_from}
use Rattle.sd_base.specs.FileNet.{own_channels_from, net_of}
use Rattle.sd_base.specs.Connection.{AreConnected, IsConnected, IsWalk, ends_of, graph_ends}
use Rattle.sd_base.proofs.FileNets.{file-length, own-few}

abbrev row_ends : ChannelRow → ℕ × ℕ
row_ends c = (c.source, c.target)

abbrev channel_ends : Channel → ℕ × ℕ
channel_ends c = (c.source, c.target)

-- the ends of the rows come first
ends-front : (n : ℕ) (rows : List ChannelRow) (rest : List Channel) (k : ℕ) (e : ℕ × ℕ) → slice_get (map row_ends rows) k ≡ Some e → slice_get (map channel_ends (file_channels_from n rows ++ rest)) k ≡ Some e
ends-front n [] rest k e is = absurd (cc)
ends-front n (r ∷ rows) rest zero e is = is
ends-front n (r ∷ rows) rest (suc k) e is = ends-front (n + 1) rows rest k e is

-- a walk over some pairs is one over more of them
walk-on : (ends more : List (ℕ × ℕ)) → ((k : ℕ) (e : ℕ × ℕ) → slice_get ends k ≡ Some e → slice_get more k ≡ Some e) → (a : ℕ) (ks : List ℕ) (b : ℕ) → IsWalk ends a ks b → IsWalk more a ks b
walk-on ends more front a [] b same = same
walk-on ends more front a (k ∷ ks) b (e, is, inl (at, way)) = (e, front k e is, inl (at, walk-on ends more front e.1 ks b way))
walk-on ends more front a (k ∷ ks) b (e, is, inr (at, way)) = (e, front k e is, inr (at, walk-on ends more front e.0 ks b way))

module _ (g : GraphFile) (gamma : List ℕ) (no_overlap : Bool) where
  pub file-connected : AreConnected (length g.actors) (graph_ends g) → IsConnected (net_of g gamma no_overlap)
  file-connected connected a actor =
      let many : length (net_of g gamma no_overlap).times ≡ length g.actors = length-map g.actors _ in
      let way = connected a (omega (arith, actor, many)) in
      (way.0, walk-on (graph_ends g) (ends_of (net_of g gamma no_overlap)) (ends-front 0 g.channels (own_channels_from no_overlap g.channels 0 g.actors)) 0 way.0 a way.1)

  pub file-few : KeepsRules g → 2 * length (net_of g gamma no_overlap).channels ≤ NET_CHANNELS
  file-few keeps =
      omega (arith, length-append (file_channels g) (own_channels_from no_overlap g.channels 0 g.actors), file-length 0 g.channels, own-few no_overlap g.channels 0 g.actors, keeps.few_actors, keeps.few_channels)
