-- The laws of links, in the words of firings.
use Rattle.std.specs.Prelude.{◌≡◌, ℕ, ◌+◌, ◌*◌, ◌≤◌, ◌<◌, length, slice_index, slice_index_or}
use Rattle.sd_base.specs.Net.{Channel, Net, channel_at, total}
use Rattle.single_rate.specs.declared.links.Link.{Link}
use Rattle.single_rate.specs.Expansions.{first_copy, links_of}

-- firing j of the target takes a token that firing n of the source made
pub record TakesOf (c : Channel) (j n : ℕ) : Type 0 where
  pub takes : total c.taken j < total c.taken (j + 1)
  pub makes : total c.made n < total c.made (n + 1)
  pub not_after : total c.taken j < c.tokens + total c.made (n + 1)
  pub not_before : c.tokens + total c.made n < total c.taken (j + 1)

-- what stands for a link past the last one
abbrev pub no_link : Link
no_link = record { source = 0; target = 0; tokens = 0 }

-- a link stands for copy i of the source of channel x and copy k of its target: by whole rounds, firing k takes a token of
-- firing i as many rounds back as the link has tokens, and of none that is later
pub record IsLink (net : Net) (l : Link) (x k i : ℕ) : Type 0 where
  pub place : x < length net.channels
  pub copy : i < slice_index net.round (channel_at net x).source
  pub firing : k < slice_index net.round (channel_at net x).target
  pub source : l.source ≡ first_copy net (channel_at net x).source + i
  pub target : l.target ≡ first_copy net (channel_at net x).target + k
  pub takes : TakesOf (channel_at net x) (k + l.tokens * slice_index net.round (channel_at net x).target) i
  pub latest : (d : ℕ) → TakesOf (channel_at net x) (k + d * slice_index net.round (channel_at net x).target) i → l.tokens ≤ d

-- each link stands for two copies, and each two copies of which one takes a token of the other have their link
pub record LinkCopies (net : Net) : Type 0 where
  pub are : (n : ℕ) → n < length (links_of net) →
      (x : ℕ) × (k : ℕ) × (i : ℕ) × IsLink net (slice_index_or (links_of net) n no_link) x k i
  pub all : (x k i d : ℕ) → x < length net.channels → i < slice_index net.round (channel_at net x).source →
      k < slice_index net.round (channel_at net x).target → TakesOf (channel_at net x) (k + d * slice_index net.round (channel_at net x).target) i →
      (n : ℕ) × (n < length (links_of net)) × IsLink net (slice_index_or (links_of net) n no_link) x k i
