-- The ends of a lawful net's channels are actors.
use Rattle.std.proofs.Common.{◌≡◌, ℕ, ◌<◌, List, length, sym, subst, get_or}
use Rattle.std.proofs.lemmas.List.{get_or-map, length-map}
use Rattle.sd_base.specs.Net.{Channel, Net, channel_at, nowhere}
use Rattle.sd_base.specs.Connection.{ends_of}
use Rattle.sd_base.specs.Lawful.{Lawful}
use Rattle.balance.specs.ConnectRefusals.{AreActors}

-- the ends of a channel
abbrev ends_at : Channel → ℕ × ℕ
ends_at c = (c.source, c.target)

ends-at_actors : (net : Net) → Lawful net → AreActors (length net.times) (ends_of net)
ends-at_actors net laws k d within =
    let place : k < length net.channels = subst (λ (n : ℕ). k < n) (length-map net.channels ends_at) within in
    let same : get_or (ends_of net) k d ≡ ends_at (channel_at net k) = get_or-map ends_at net.channels k nowhere d place in
    let source : (channel_at net k).source < length net.times = laws.sources k place in
    let target : (channel_at net k).target < length net.times = laws.targets k place in
    subst (λ (e : ℕ × ℕ). (e.0 < length net.times) × (e.1 < length net.times)) (sym same) (source, target)

-- a number of actors and pairs of them that are those of a net
pub are-actors : (net : Net) (n : ℕ) (es : List (ℕ × ℕ)) → n ≡ length net.times → es ≡ ends_of net → Lawful net → AreActors n es
are-actors net n es actors ends laws = subst (λ (m : ℕ). AreActors m es) (sym actors) (subst (λ (xs : List (ℕ × ℕ)). AreActors (length net.times) xs) (sym ends) (ends-at_actors net laws))
