-- The numbers of the shared tokens cover the net of a scenario's graph, and rows by firing make its matrix.
use Rattle.std.proofs.Common.{◌≡◌, ℕ, suc, ◌+◌, ◌≤◌, ◌<◌, ◌↔◌, false, List, [], ◌∷◌, length, sum, Option, refl, sym, ap, subst, ◌∙◌, arith, append-nil}
use Rattle.std.specs.Prelude.{slice_index_or, All}
use Rattle.sd_base.specs.declared.tables.Kind.TheVariants.{Sdf}
use Rattle.sd_base.specs.declared.tables.GraphFile.{GraphFile}
use Rattle.sd_base.specs.declared.tables.ActorRow.{ActorRow}
use Rattle.sd_base.specs.declared.tables.ChannelRow.{ChannelRow}
use Rattle.sd_base.specs.Tables.{KeepsWideRules, IsTimed}
use Rattle.sd_base.specs.Net.{Channel, nowhere, channel_at, file_channels, IsRepetitionOf}
use Rattle.sd_base.specs.FileNet.{own_channels_from, net_of}
use Rattle.sd_base.specs.Untimed.{IsRoundOrder}
use Rattle.sd_base.proofs.FileNets.{file-at, file-length, net_of-lawful}
use Rattle.sd_base.specs.declared.tables.SharedRow.{SharedRow}
use Rattle.token_matrix.specs.Stamps.{no_row, first_of, AreStampsOf}
use Rattle.token_matrix.specs.Matrices.{applied}
use Rattle.sd_base.specs.declared.limits.TheConstants.{ROUND}
use Rattle.sd_base.specs.Scenarios.{shared_count, Shares}
use Rattle.token_matrix.specs.inside.RoundRows.{Table}
use Rattle.token_matrix.proofs.OneRound.{Covers}
use Rattle.token_matrix.proofs.NumbersCoverTokens.{number_inside, number_covers}
use Rattle.token_matrix.proofs.RowsGiveStarts.{AreRows}
use Rattle.token_matrix.proofs.RowsCarryStamps.{IsLeft, carries}

pub no_actor : ActorRow
no_actor = record { name = []; phases = 0; times = [] }

-- actors of one phase get no own channels
no_own : (channels : List ChannelRow) (a : ℕ) (rows : List ActorRow) → All (λ (r : ActorRow). r.phases ≡ 1) rows → own_channels_from false channels a rows ≡ []
no_own channels a [] ones = refl
no_own channels a (r ∷ rows) ones =
    let one : r.phases ≡ 1 = ones 0 no_actor (omega arith) in
    let rest : own_channels_from false channels (suc a) rows ≡ [] = no_own channels (suc a) rows (λ k d below. ones (suc k) d (omega arith)) in
    rw (one, rest) refl

module _ (g : GraphFile) (gamma : List ℕ) (rules : KeepsWideRules g) (kind : g.kind ≡ Sdf) where
  pub channels-are : (net_of g gamma false).channels ≡ file_channels g
  channels-are = rw (no_own g.channels 0 g.actors (λ k d below. (rules.actors k d below).one_phase kind)) (append-nil (file_channels g))

  pub channels-many : length (net_of g gamma false).channels ≡ length g.channels
  channels-many = ap (λ (cs : List Channel). length cs) channels-are ∙ file-length 0 g.channels

  pub tokens-are : (i : ℕ) → i < length g.channels → (channel_at (net_of g gamma false) i).tokens ≡ (slice_index_or g.channels i no_row).tokens
  tokens-are i below =
      ap (λ (cs : List Channel). (slice_index_or cs i nowhere).tokens) channels-are
      ∙ ap (λ (c : Channel). c.tokens) (file-at 0 g.channels i no_row below)

  module _ (shared : List SharedRow) (shares : Shares shared g) where
    pub inside : (i m : ℕ) → i < length (net_of g gamma false).channels → m < (channel_at (net_of g gamma false) i).tokens → first_of shared g i + m < shared_count shared
    inside i m place below =
        let here : i < length g.channels = omega (arith, channels-many) in
        number_inside shared g shares i m here (subst (λ (n : ℕ). m < n) (tokens-are i here) below)

    pub covers : Covers (net_of g gamma false) (first_of shared g) (shared_count shared)
    covers p below =
        let c = number_covers shared g shares p below in
        (c.0, c.1, (let h : c.0 < length (net_of g gamma false).channels = omega (arith, channels-many, c.2) in h), subst (λ (n : ℕ). c.1 < n) (sym (tokens-are c.0 c.2)) c.3, c.4)

    -- rows by firing and the rows that are left make the matrix
    pub matrix_carries : IsTimed g → IsRepetitionOf g gamma → sum gamma ≤ ROUND → (order : List ℕ) → IsRoundOrder (net_of g gamma false) order → (rows : Table) (matrix : List (List (Option ℕ)))
        → AreRows (net_of g gamma false) (first_of shared g) (shared_count shared) rows → IsLeft (net_of g gamma false) (first_of shared g) (shared_count shared) rows matrix
        → (x y : List ℕ) → length x ≡ shared_count shared → AreStampsOf shared g gamma x y ↔ (y ≡ applied matrix x)
    matrix_carries timed gives small order round rows matrix are left x y long =
        carries (net_of g gamma false) (net_of-lawful g gamma false rules timed gives small) (first_of shared g) (shared_count shared) rows matrix are left inside order round covers x y long
