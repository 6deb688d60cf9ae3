-- The tables of a synchronous net and the net of its graph file.
use Rattle.std.proofs.Common.{◌≡◌, ◌≢◌, ℕ, ◌≤◌, ◌<◌, Bool, List, [], ◌∷◌, ◌++◌, length, map, replicate, get_or, sum, sym, subst, ap, ◌∙◌, arith, zero-add}
use Rattle.std.specs.Prelude.{slice_index, slice_index_or, All}
use Rattle.std.proofs.lemmas.List.{get_or-map, length-map, length-replicate}
use Rattle.sd_base.specs.declared.tables.Kind.TheVariants.{Sdf}
use Rattle.sd_base.specs.declared.tables.GraphFile.{GraphFile}
use Rattle.sd_base.specs.declared.tables.ActorRow.{ActorRow}
use Rattle.sd_base.specs.declared.tables.ChannelRow.{ChannelRow}
use Rattle.sd_base.specs.Tables.{phases_of, KeepsWideRules, IsTimed}
use Rattle.sd_base.specs.Net.{nowhere, file_channels, IsRepetitionOf, total}
use Rattle.sd_base.proofs.SumsRepeatByTurns.{total-zero, total-turn}
use Rattle.sd_base.specs.Lawful.{Lawful}
use Rattle.sd_base.specs.FileNet.{own_channels_from, net_of}
use Rattle.sd_base.proofs.FileNets.{net_of-lawful}
use Rattle.firing.specs.declared.sdf.SdfChannel.{SdfChannel}
use Rattle.firing.specs.Sdf.{plain_channel, plain_net}

-- in a synchronous file each actor has one phase, and each port one rate
pub one_phase : (g : GraphFile) → KeepsWideRules g → g.kind ≡ Sdf → All (λ (a : ActorRow). a.phases ≡ 1) g.actors
one_phase g rules kind k d below = (rules.actors k d below).one_phase kind

phase-read : (g : GraphFile) → KeepsWideRules g → g.kind ≡ Sdf → (a : ℕ) → a < length (phases_of g) → slice_index (phases_of g) a ≡ 1
phase-read g rules kind a below =
    let nobody : ActorRow = record { name = []; phases = 0; times = [] } in
    let there : a < length g.actors = rw length-map at below in
    get_or-map (λ (r : ActorRow). r.phases) g.actors a nobody 0 there ∙ one_phase g rules kind a nobody there

pub one_made : (g : GraphFile) → KeepsWideRules g → g.kind ≡ Sdf → All (λ (c : ChannelRow). length c.made ≡ 1) g.channels
one_made g rules kind k d below =
    let row = rules.channels k d below in row.made.listed ∙ phase-read g rules kind (slice_index_or g.channels k d).source row.source

pub one_taken : (g : GraphFile) → KeepsWideRules g → g.kind ≡ Sdf → All (λ (c : ChannelRow). length c.taken ≡ 1) g.channels
one_taken g rules kind k d below =
    let row = rules.channels k d below in row.taken.listed ∙ phase-read g rules kind (slice_index_or g.channels k d).target row.target

pub one_own : (g : GraphFile) → KeepsWideRules g → g.kind ≡ Sdf → All (λ (a : ActorRow). length {A = ℕ} (replicate a.phases 1) ≡ 1) g.actors
one_own g rules kind k d below = let many : length {A = ℕ} (replicate (slice_index_or g.actors k d).phases 1) ≡ (slice_index_or g.actors k d).phases = length-replicate {A = ℕ} (slice_index_or g.actors k d).phases 1 in
    many ∙ one_phase g rules kind k d below

-- the tables are the net of the file
pub plain-is : (g : GraphFile) (gamma : List ℕ) (apart : Bool) (times rounds : List ℕ) (table : List SdfChannel) →
    map (λ t. t ∷ []) times ≡ map (λ (a : ActorRow). a.times) g.actors → map plain_channel table ≡ file_channels g ++ own_channels_from apart g.channels 0 g.actors → rounds ≡ gamma →
    plain_net times table rounds ≡ net_of g gamma apart
plain-is g gamma apart times rounds table at_times at_channels at_rounds = cc

pub plain-lawful : (g : GraphFile) (gamma : List ℕ) (apart : Bool) (times rounds : List ℕ) (table : List SdfChannel) →
    KeepsWideRules g → IsTimed g → IsRepetitionOf g gamma → sum gamma ≤ 100000 →
    map (λ t. t ∷ []) times ≡ map (λ (a : ActorRow). a.times) g.actors → map plain_channel table ≡ file_channels g ++ own_channels_from apart g.channels 0 g.actors → rounds ≡ gamma →
    Lawful (plain_net times table rounds)
plain-lawful g gamma apart times rounds table rules timed gives small at_times at_channels at_rounds =
    subst Lawful (sym (plain-is g gamma apart times rounds table at_times at_channels at_rounds)) (net_of-lawful g gamma apart rules timed gives small)

-- ---- channels that are read

pub channel-read : (table : List SdfChannel) (i : ℕ) (c : SdfChannel) → i < length (map plain_channel table) → c ≡ get_or table i c →
    slice_index_or (map plain_channel table) i nowhere ≡ plain_channel c
channel-read table i c below here = get_or-map plain_channel table i c nowhere (rw length-map at below) ∙ ap plain_channel (sym here)

pub none-before : (rates : List ℕ) (n : ℕ) → n ≡ 0 → 0 ≡ total rates n
none-before rates n none = rw none (sym (total-zero rates))

pub one-before : (rate n : ℕ) → n ≢ 0 → n ≤ length (rate ∷ []) → rate ≡ total (rate ∷ []) n
one-before rate n some few =
    let one : n ≡ length (rate ∷ []) = omega arith in
    rw (one, total-turn) (sym (zero-add rate))
