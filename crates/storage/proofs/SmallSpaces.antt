-- A net of a file bounded by buffers has no more tokens on a channel than a table of channels may have.
use Rattle.std.proofs.Common.{◌≡◌, ℕ, zero, suc, ◌+◌, ◌-◌, ◌≤◌, ◌<◌, Bool, true, false, cond, All, ⊎_elim, Some, List, [], ◌∷◌, length, refl, sym, subst, ◌∙◌, arith}
use Rattle.std.specs.Prelude.{slice_index_or, if◌then◌else◌}
use Rattle.std.specs.List.{find}
use Rattle.std.specs.Option.{option_map}
use Rattle.std.specs.Str.{bytes_eq}
use Rattle.std.proofs.lemmas.Bool.{cases_lt}
use Rattle.std.proofs.lemmas.List.{length-append, get_or_append_left, get_or-append_right}
use Rattle.sd_base.specs.declared.limits.TheConstants.{CAPACITY, TOKENS}
use Rattle.sd_base.specs.declared.tables.GraphFile.{GraphFile}
use Rattle.sd_base.specs.declared.tables.ActorRow.{ActorRow}
use Rattle.sd_base.specs.declared.tables.ChannelRow.{ChannelRow}
use Rattle.sd_base.specs.Tables.{KeepsRules}
use Rattle.sd_base.specs.Net.{Channel, nowhere, channel_at, file_channel, file_channels}
use Rattle.sd_base.specs.FileNet.{own_channel, gets_own, own_channels_from, net_of}
use Rattle.sd_base.proofs.FileNets.{file-at, file-length}
use Rattle.storage.specs.Distributions.{capacity_at}
use Rattle.storage.specs.BoundedNets.{bound}
use Rattle.storage.specs.NamedBuffers.{Buffer, capacities_of, capacity_named}
use Rattle.storage.proofs.SpaceChannels.{each-bound}

abbrev HasFew : Channel → Type 0
HasFew c = c.tokens ≤ TOKENS

-- ---- the capacities that buffers name

pub named-small : (bs : List Buffer) (name : List ℕ) (k : ℕ) → All (λ (b : Buffer). b.1 ≤ CAPACITY) bs → capacity_named bs name ≡ Some k → k ≤ CAPACITY
named-small [] name k small is = absurd (cc)
named-small (b ∷ bs) name k small is = go (bytes_eq b.0 name) is (named-small bs name k (λ j e within. small (suc j) e (omega arith)))
  where
    go : (c : Bool) → option_map (λ (b : Buffer). b.1) (cond c (Some b) (find (λ (b : Buffer). bytes_eq b.0 name) bs)) ≡ Some k → (capacity_named bs name ≡ Some k → k ≤ CAPACITY) → k ≤ CAPACITY
    go true h rest =
        let same : b.1 ≡ k = cc in
        omega (arith, same, small 0 b (omega arith))
    go false h rest = rest h

capacity-small : (rows : List ChannelRow) (bs : List Buffer) (i k : ℕ) → All (λ (b : Buffer). b.1 ≤ CAPACITY) bs → capacity_at (capacities_of rows bs) i ≡ Some k → k ≤ CAPACITY
capacity-small [] bs i k small is = absurd (cc)
capacity-small (r ∷ rows) bs zero k small is = named-small bs r.name k small is
capacity-small (r ∷ rows) bs (suc i) k small is = capacity-small rows bs i k small is

-- ---- the channels of the net

no_row : ChannelRow
no_row = record { name = []; source = 0; target = 0; made = []; taken = []; tokens = 0; size = 0 }

owns-few : (apart : Bool) (channels : List ChannelRow) (a : ℕ) (rows : List ActorRow) (i : ℕ) → i < length (own_channels_from apart channels a rows) → HasFew (slice_index_or (own_channels_from apart channels a rows) i nowhere)
owns-few apart channels a [] i below = absurd (omega arith)
owns-few apart channels a (r ∷ rows) i below = step (gets_own apart channels a r.phases) i below (owns-few apart channels (suc a) rows)
  where
    step : (b : Bool) (i : ℕ) → i < length (if b then own_channel a r.phases ∷ own_channels_from apart channels (suc a) rows else own_channels_from apart channels (suc a) rows)
        → ((k : ℕ) → k < length (own_channels_from apart channels (suc a) rows) → HasFew (slice_index_or (own_channels_from apart channels (suc a) rows) k nowhere))
        → HasFew (slice_index_or (if b then own_channel a r.phases ∷ own_channels_from apart channels (suc a) rows else own_channels_from apart channels (suc a) rows) i nowhere)
    step true zero below rest = omega arith
    step true (suc k) below rest = rest k (omega arith)
    step false i below rest = rest i below

file-few : (g : GraphFile) (gamma : List ℕ) (apart : Bool) → KeepsRules g → (i : ℕ) → i < length (net_of g gamma apart).channels → HasFew (channel_at (net_of g gamma apart) i)
file-few g gamma apart keeps i below = ⊎_elim
    (λ (here : i < length (file_channels g)).
    let there : i < length g.channels = omega (arith, file-length 0 g.channels) in
    let is : slice_index_or (file_channels g) i nowhere ≡ file_channel (0 + i) (slice_index_or g.channels i no_row) = file-at 0 g.channels i no_row there in
    let few : HasFew (file_channel (0 + i) (slice_index_or g.channels i no_row)) = (keeps.channels i no_row there).tokens in
    subst HasFew (sym (get_or_append_left (file_channels g) (own_channels_from apart g.channels 0 g.actors) nowhere i here ∙ is)) few)
    (λ (later : length (file_channels g) ≤ i).
    subst HasFew (sym (get_or-append_right (file_channels g) (own_channels_from apart g.channels 0 g.actors) (length (file_channels g)) i nowhere refl later))
    (owns-few apart g.channels 0 g.actors (i - length (file_channels g)) (omega (arith, length-append (file_channels g) (own_channels_from apart g.channels 0 g.actors)))))
    (cases_lt i (length (file_channels g)))

pub bounded-few_tokens : (g : GraphFile) (gamma : List ℕ) (apart : Bool) (bs : List Buffer) → KeepsRules g → All (λ (b : Buffer). b.1 ≤ CAPACITY) bs
    → (i : ℕ) → i < length (bound (net_of g gamma apart) (capacities_of g.channels bs)).channels → (channel_at (bound (net_of g gamma apart) (capacities_of g.channels bs)) i).tokens ≤ TOKENS
bounded-few_tokens g gamma apart bs keeps small =
    each-bound (net_of g gamma apart) (capacities_of g.channels bs) HasFew (file-few g gamma apart keeps)
    (λ i k below is. let few = capacity-small g.channels bs i k small is in omega arith)
