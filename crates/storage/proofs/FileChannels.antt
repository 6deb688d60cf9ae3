-- The nets of files have no free spaces, and all their channels but the file's are self-loops.
use Rattle.std.proofs.Common.{◌≡◌, ℕ, zero, suc, ◌+◌, ◌-◌, ◌<◌, ◌≤◌, ◌⊎◌, Bool, true, false, List, [], ◌∷◌, length, inl, inr, ⊎_elim, subst, sym, refl, arith}
use Rattle.std.specs.Prelude.{slice_index_or, if◌then◌else◌}
use Rattle.std.proofs.lemmas.Bool.{cases_lt}
use Rattle.std.proofs.lemmas.List.{length-append, get_or_append_left, get_or-append_right}
use Rattle.sd_base.specs.declared.role.Role.{Role}
use Rattle.sd_base.specs.declared.role.Role.TheVariants.{Token, Own, Space, Order}
use Rattle.sd_base.specs.declared.tables.GraphFile.{GraphFile}
use Rattle.sd_base.specs.declared.tables.ActorRow.{ActorRow}
use Rattle.sd_base.specs.declared.tables.ChannelRow.{ChannelRow}
use Rattle.sd_base.specs.Net.{Channel, Net, nowhere, channel_at, file_channels_from, file_channels}
use Rattle.sd_base.specs.FileNet.{own_channel, gets_own, own_channels_from, net_of}
use Rattle.sd_base.specs.Lawful.{is_token_role, is_space_role}
use Rattle.storage.specs.Distributions.{IsPlain}
use Rattle.storage.specs.BoundedNets.{HasNoSpaces}

abbrev IsPlainAt : Channel → Type 0
IsPlainAt c = (is_token_role c.role ≡ true) ⊎ ((is_space_role c.role ≡ false) × (c.source ≡ c.target))

pub plain-no_spaces : (net : Net) → IsPlain net → HasNoSpaces net
plain-no_spaces net plain i below = ⊎_elim (λ (file : is_token_role (channel_at net i).role ≡ true). at (channel_at net i).role file) (λ (own : (is_space_role (channel_at net i).role ≡ false) × ((channel_at net i).source ≡ (channel_at net i).target)). own.0) (plain i below)
  where
    at : (r : Role) → is_token_role r ≡ true → is_space_role r ≡ false
    at (Token c) file = refl
    at (Own a) file = refl
    at (Space c) file = cc
    at (Order x y) file = cc

files-plain : (n : ℕ) (rows : List ChannelRow) (i : ℕ) → i < length (file_channels_from n rows) → IsPlainAt (slice_index_or (file_channels_from n rows) i nowhere)
files-plain n [] i below = absurd (omega arith)
files-plain n (r ∷ rows) zero below = inl refl
files-plain n (r ∷ rows) (suc i) below = files-plain (n + 1) rows i (omega arith)

owns-plain : (apart : Bool) (channels : List ChannelRow) (a : ℕ) (rows : List ActorRow) (i : ℕ) → i < length (own_channels_from apart channels a rows) → IsPlainAt (slice_index_or (own_channels_from apart channels a rows) i nowhere)
owns-plain apart channels a [] i below = absurd (omega arith)
owns-plain apart channels a (r ∷ rows) i below = step (gets_own apart channels a r.phases) i below (owns-plain apart channels (suc a) rows)
  where
    step : (b : Bool) (i : ℕ) → i < length (if b then own_channel a r.phases ∷ own_channels_from apart channels (suc a) rows else own_channels_from apart channels (suc a) rows) → ((k : ℕ) → k < length (own_channels_from apart channels (suc a) rows) → IsPlainAt (slice_index_or (own_channels_from apart channels (suc a) rows) k nowhere)) → IsPlainAt (slice_index_or (if b then own_channel a r.phases ∷ own_channels_from apart channels (suc a) rows else own_channels_from apart channels (suc a) rows) i nowhere)
    step true zero below rest = inr (refl, refl)
    step true (suc k) below rest = rest k (omega arith)
    step false i below rest = rest i below

pub file-plain : (g : GraphFile) (gamma : List ℕ) (apart : Bool) → IsPlain (net_of g gamma apart)
file-plain g gamma apart i below = ⊎_elim (λ (here : i < length (file_channels g)). subst IsPlainAt (sym (get_or_append_left (file_channels g) (own_channels_from apart g.channels 0 g.actors) nowhere i here)) (files-plain 0 g.channels i here)) (λ (later : length (file_channels g) ≤ i). subst IsPlainAt (sym (get_or-append_right (file_channels g) (own_channels_from apart g.channels 0 g.actors) (length (file_channels g)) i nowhere refl later)) (owns-plain apart g.channels 0 g.actors (i - length (file_channels g)) (omega (arith, length-append (file_channels g) (own_channels_from apart g.channels 0 g.actors))))) (cases_lt i (length (file_channels g)))
