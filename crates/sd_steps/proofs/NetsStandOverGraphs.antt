-- The net of a graph file stands over the graph, and so does what blocks it.
use Rattle.std.proofs.Common.{◌≡◌, ℕ, zero, suc, ◌+◌, ◌-◌, ◌≤◌, ◌<◌, ⊎_elim, Bool, true, false, List, [], ◌∷◌, length, Option, Some, None, IfSome, MatchOption, cond, sym, subst, refl, ◌∙◌, arith, length-append}
use Rattle.std.specs.Prelude.{slice_index, slice_index_or}
use Rattle.std.proofs.lemmas.Bool.{cases_lt}
use Rattle.std.proofs.lemmas.List.{length-map, get_or_append_left, get_or-append_right}
use Rattle.sd_base.specs.declared.tables.GraphFile.{GraphFile}
use Rattle.sd_base.specs.declared.tables.ActorRow.{ActorRow}
use Rattle.sd_base.specs.declared.tables.ChannelRow.{ChannelRow}
use Rattle.sd_base.specs.Net.{Channel, Net, channel_at, nowhere, file_channels, file_channel}
use Rattle.sd_base.specs.FileNet.{net_of, own_channels_from, own_channel, gets_own}
use Rattle.sd_base.proofs.FileNets.{file-length, file-at, nothing}
use Rattle.liveness.specs.declared.ending.Ending.{Ending}
use Rattle.liveness.specs.declared.ending.Ending.TheVariants.{Blocked}
use Rattle.sd_base.specs.Untimed.{IsBlockedBy, IsFirstLacking}
use Rattle.sd_base.proofs.ElementsKeepPlaces.{some-within}
use Rattle.liveness.specs.RoundAnswers.{IsEnding}
use Rattle.storage.specs.BoundedNets.{bound}
use Rattle.storage.proofs.SpaceChannels.{bound-front, bound-back}
use Rattle.report.specs.LinkTexts.{IsRoleIn, IsNamed}
use Rattle.report.specs.LackTexts.{HasLacks}

-- the roles of channels speak of the graph
abbrev AreIn : GraphFile → List Channel → Type 0
AreIn g cs = (j : ℕ) → j < length cs → IsRoleIn g (slice_index_or cs j nowhere).role

put-own : (g : GraphFile) (a : ℕ) (row : ActorRow) (rest : List Channel) → a < length g.actors → AreIn g rest → AreIn g (own_channel a row.phases ∷ rest)
put-own g a row rest actor all zero below = actor
put-own g a row rest actor all (suc j) below = all j (omega arith)

one-more : (g : GraphFile) (a : ℕ) (row : ActorRow) (rest : List Channel) → a < length g.actors → AreIn g rest → (b : Bool) → AreIn g (cond b (own_channel a row.phases ∷ rest) rest)
one-more g a row rest actor all true = put-own g a row rest actor all
one-more g a row rest actor all false = all

-- own channels are those of the actors from a on
own-role : (g : GraphFile) (no_overlap : Bool) (cs : List ChannelRow) (a : ℕ) (rows : List ActorRow) → a + length rows ≤ length g.actors
    → AreIn g (own_channels_from no_overlap cs a rows)
own-role g no_overlap cs a [] fits j below = absurd (omega arith)
own-role g no_overlap cs a (row ∷ rows) fits j below =
    one-more g a row (own_channels_from no_overlap cs (suc a) rows) (omega arith) (own-role g no_overlap cs (suc a) rows (omega arith)) (gets_own no_overlap cs a row.phases) j below

-- so do those of free spaces
pub bound-over : (g : GraphFile) (net : Net) (ds : List (Option ℕ)) → length ds ≤ length g.channels → IsNamed g net → IsNamed g (bound net ds)
bound-over g net ds many named = record { actors = named.actors; roles = roles }
  where
    roles : (i : ℕ) → i < length (bound net ds).channels → IsRoleIn g (channel_at (bound net ds) i).role
    roles i below = ⊎_elim
        (λ (own : i < length net.channels). subst (λ (c : Channel). IsRoleIn g c.role) (sym (bound-front net ds i own)) (named.roles i own))
        (λ (space : length net.channels ≤ i).
        let at = bound-back net ds i space below in
        let there = some-within ds at.place at.room at.has in
        subst (λ (c : Channel). IsRoleIn g c.role) (sym at.is) (omega arith))
        (cases_lt i (length net.channels))

pub net-over : (g : GraphFile) (gamma : List ℕ) (no_overlap : Bool) → IsNamed g (net_of g gamma no_overlap)
net-over g gamma no_overlap = record { actors = length-map g.actors (λ (a : ActorRow). a.times); roles = roles }
  where
    roles : (i : ℕ) → i < length (net_of g gamma no_overlap).channels → IsRoleIn g (channel_at (net_of g gamma no_overlap) i).role
    roles i below = ⊎_elim
        (λ (file : i < length g.channels).
        let here : i < length (file_channels g) = omega (arith, file-length 0 g.channels) in
        let e : channel_at (net_of g gamma no_overlap) i ≡ file_channel (0 + i) (slice_index_or g.channels i nothing) =
        get_or_append_left (file_channels g) (own_channels_from no_overlap g.channels 0 g.actors) nowhere i here ∙ file-at 0 g.channels i nothing file in
        subst (λ (c : Channel). IsRoleIn g c.role) (sym e) (omega arith))
        (λ (own : length g.channels ≤ i).
        let past : length (file_channels g) ≤ i = omega (arith, file-length 0 g.channels) in
        let all : length (net_of g gamma no_overlap).channels ≡ length (file_channels g) + length (own_channels_from no_overlap g.channels 0 g.actors) = length-append (file_channels g) (own_channels_from no_overlap g.channels 0 g.actors) in
        let e : channel_at (net_of g gamma no_overlap) i ≡ slice_index_or (own_channels_from no_overlap g.channels 0 g.actors) (i - length (file_channels g)) nowhere =
        get_or-append_right (file_channels g) (own_channels_from no_overlap g.channels 0 g.actors) (length (file_channels g)) i nowhere refl past in
        subst (λ (c : Channel). IsRoleIn g c.role) (sym e) (own-role g no_overlap g.channels 0 g.actors (omega arith) (i - length (file_channels g)) (omega arith)))
        (cases_lt i (length g.channels))

-- what a blocked round names, as other lists of the same numbers
pub blocked-shown : (net : Net) (ending : Ending) (counts shown : List ℕ) (lacks named : List (Option ℕ)) → ending ≡ Blocked counts lacks → shown ≡ counts → named ≡ lacks
    → IsEnding net ending → IsBlockedBy net shown named
blocked-shown net ending counts shown lacks named is p q answer =
    subst (λ (v : List ℕ). IsBlockedBy net v named) (sym p) (subst (λ (l : List (Option ℕ)). IsBlockedBy net counts l) (sym q) (subst (λ (e : Ending). IsEnding net e) is answer))

-- a blocked net names a channel for each actor that lacks
pub blocked-lacks : (net : Net) (counts : List ℕ) (lacks : List (Option ℕ)) → IsBlockedBy net counts lacks → HasLacks net counts lacks
blocked-lacks net counts lacks is = record {
  counted = is.actors;
  actors = is.names.actors;
  places = λ a below. place a (slice_index_or lacks a None) (is.names.named a below);
}
  where
    place : (a : ℕ) (o : Option ℕ) → MatchOption o (slice_index net.round a ≤ slice_index counts a)
        (λ i. (slice_index counts a < slice_index net.round a) × IsFirstLacking net (slice_index counts) a i) → IfSome o (λ i. i < length net.channels)
    place a None full = tt
    place a (Some i) lacking = lacking.1.place
