-- A path is a walk, and what is strongly connected is connected.
use Rattle.std.proofs.Common.{◌≡◌, ℕ, ◌<◌, ◌≤◌, Some, List, [], ◌∷◌, ◌++◌, length, ap, sym, subst, ◌∙◌, inl, inr}
use Rattle.std.specs.Prelude.{slice_get}
use Rattle.std.proofs.lemmas.List.{get_or-map, length-map}
use Rattle.std.proofs.lemmas.Option.{slice_get_within, slice_get-get_or, get_or_from_slice_get}
use Rattle.sd_base.specs.Net.{Channel, Net, channel_at, nowhere}
use Rattle.sd_base.specs.Connection.{IsPath, IsWalk, AreConnected, AreStronglyConnected, ends_of}

-- channel k of the net has these ends
pub record IsChannel (net : Net) (k : ℕ) (e : ℕ × ℕ) : Type 0 where
  pub place : k < length net.channels
  pub source : (channel_at net k).source ≡ e.0
  pub target : (channel_at net k).target ≡ e.1

abbrev pair : Channel → ℕ × ℕ
pair c = (c.source, c.target)

pub channel-of : (net : Net) (k : ℕ) (e : ℕ × ℕ) → slice_get (ends_of net) k ≡ Some e → IsChannel net k e
channel-of net k e is =
    let place : k < length net.channels = subst (λ (n : ℕ). k < n) (length-map net.channels pair) (slice_get_within (ends_of net) k e is) in
    let same : pair (channel_at net k) ≡ e = sym (get_or-map pair net.channels k nowhere e place) ∙ get_or_from_slice_get (ends_of net) k e e is in
    record { place = place; source = ap (λ (p : ℕ × ℕ). p.0) same; target = ap (λ (p : ℕ × ℕ). p.1) same }

pub pair-of : (net : Net) (k : ℕ) → k < length net.channels → slice_get (ends_of net) k ≡ Some ((channel_at net k).source, (channel_at net k).target)
pair-of net k place =
    slice_get-get_or (ends_of net) k (0, 0) (subst (λ (n : ℕ). k < n) (sym (length-map net.channels pair)) place) ∙ ap (λ (p : ℕ × ℕ). Some p) (get_or-map pair net.channels k nowhere (0, 0) place)

pub path-walk : (ends : List (ℕ × ℕ)) (a : ℕ) (ks : List ℕ) (b : ℕ) → IsPath ends a ks b → IsWalk ends a ks b
path-walk ends a [] b same = same
path-walk ends a (k ∷ ks) b (e, is, from, rest) = (e, is, inl (from, path-walk ends e.1 ks b rest))

-- what is strongly connected is connected
pub strongly-connected : (actors : ℕ) (ends : List (ℕ × ℕ)) → 1 ≤ actors → AreStronglyConnected actors ends → AreConnected actors ends
strongly-connected actors ends some strong a below = let way = strong 0 a some below in (way.0, path-walk ends 0 way.0 a way.1)

pub walk-append : (ends : List (ℕ × ℕ)) (first rest : List ℕ) (a b c : ℕ) → IsWalk ends a first b → IsWalk ends b rest c → IsWalk ends a (first ++ rest) c
walk-append ends [] rest a b c same walk = subst (λ (x : ℕ). IsWalk ends x rest c) (sym same) walk
walk-append ends (k ∷ first) rest a b c (e, is, inl (at, way)) walk = (e, is, inl (at, walk-append ends first rest e.1 b c way walk))
walk-append ends (k ∷ first) rest a b c (e, is, inr (at, way)) walk = (e, is, inr (at, walk-append ends first rest e.0 b c way walk))
