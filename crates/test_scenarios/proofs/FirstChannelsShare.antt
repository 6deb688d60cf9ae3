-- A graph whose first channels are the shared ones shares them.
use Rattle.std.proofs.Common.{◌≡◌, ℕ, ◌≤◌, ◌<◌, List, Some, length, [], ⊎_elim, sym, ◌∙◌, arith}
use Rattle.std.specs.Prelude.{slice_get, slice_index_or}
use Rattle.std.proofs.lemmas.Bool.{cases_lt}
use Rattle.std.proofs.lemmas.Option.{slice_get-get_or, slice_get_within}
use Rattle.sd_base.specs.declared.tables.ChannelRow.{ChannelRow}
use Rattle.sd_base.specs.declared.tables.GraphFile.{GraphFile}
use Rattle.sd_base.specs.declared.tables.SharedRow.{SharedRow}
use Rattle.sd_base.specs.Scenarios.{Shares}
use Rattle.test_scenarios.specs.Sharing.{BeginWith}

no_row : SharedRow
no_row = record { name = []; tokens = 0 }

no_channel : ChannelRow
no_channel = record { name = []; source = 0; target = 0; made = []; taken = []; tokens = 0; size = 0 }

module _ (shared : List SharedRow) (g : GraphFile) (begin : BeginWith shared g.channels) where
  channel-there : (s : ℕ) (row : SharedRow) → slice_get shared s ≡ Some row → slice_get g.channels s ≡ Some (slice_index_or g.channels s no_channel)
  channel-there s row get = slice_get-get_or g.channels s no_channel (omega (arith, slice_get_within shared s row get, begin.few))

  one-name : (i j : ℕ) (c d : ChannelRow) → slice_get g.channels i ≡ Some c → slice_get g.channels j ≡ Some d → c.name ≡ d.name → i ≡ j
  one-name i j c d first second name = ⊎_elim
      (λ (less : i < j). absurd (begin.differ j d second i c first less name))
      (λ (past : j ≤ i). ⊎_elim
      (λ (more : j < i). absurd (begin.differ i c first j d second more (sym name)))
      (λ (within : i ≤ j). omega arith)
      (cases_lt j i))
      (cases_lt i j)

  pub begin-shares : Shares shared g
  begin-shares = record {
    rows = λ s row get.
        let c = slice_index_or g.channels s no_channel in
        let there = channel-there s row get in
        let is = begin.same s row c get there in
        (s, c, there, is.name, is.tokens, is.some);
    channels = λ i c get some. ⊎_elim
        (λ (less : i < length shared).
        let row = slice_index_or shared i no_row in
        let there : slice_get shared i ≡ Some row = slice_get-get_or shared i no_row less in
        let is = begin.same i row c there get in
        (i, row, there, sym is.name, sym is.tokens))
        (λ (past : length shared ≤ i). absurd (omega (arith, some, begin.rest i c get past)))
        (cases_lt i (length shared));
    rows_differ = λ s t x y first second name.
        let one = begin.same s x (slice_index_or g.channels s no_channel) first (channel-there s x first) in
        let two = begin.same t y (slice_index_or g.channels t no_channel) second (channel-there t y second) in
        one-name s t (slice_index_or g.channels s no_channel) (slice_index_or g.channels t no_channel) (channel-there s x first) (channel-there t y second) (one.name ∙ name ∙ sym two.name);
    names_differ = λ i j c d first second name. one-name i j c d first second name;
  }
