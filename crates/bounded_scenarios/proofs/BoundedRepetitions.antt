-- The bounded graph has the repetition vector of the graph.
use Rattle.std.proofs.Common.{◌≡◌, ℕ, zero, suc, ◌+◌, ◌-◌, ◌≤◌, ◌<◌, ◌⊎◌, Option, None, Some, List, [], ◌∷◌, ◌++◌, length, inl, inr, subst, sym, ap, ◌∙◌, refl, arith}
use Rattle.std.specs.Prelude.{slice_index, slice_index_or, slice_get}
use Rattle.std.proofs.lemmas.Bool.{cases_lt}
use Rattle.std.proofs.lemmas.List.{get_or_append_left, get_or-append-add, length-append}
use Rattle.std.proofs.lemmas.Option.{slice_get_within, get_or_from_slice_get}
use Rattle.sd_base.specs.declared.tables.GraphFile.{GraphFile}
use Rattle.sd_base.specs.declared.tables.ChannelRow.{ChannelRow}
use Rattle.sd_base.specs.declared.tables.SharedRow.{SharedRow}
use Rattle.sd_base.specs.Net.{Channel, nowhere, total, file_channel, file_channels_from, IsRepetition, IsRepetitionOf}
use Rattle.sd_base.specs.Tables.{phases_of}
use Rattle.sd_base.specs.Scenarios.{Shares}
use Rattle.sd_base.proofs.FileNets.{file-length, file-at}
use Rattle.bounded_scenarios.specs.BoundedFiles.{bounded_graph, space_rows}
use Rattle.bounded_scenarios.specs.SharedChannels.{channel_named}
use Rattle.bounded_scenarios.proofs.NamedChannels.{shared-named}

pub file-append : (n : ℕ) (xs ys : List ChannelRow) → file_channels_from n (xs ++ ys) ≡ file_channels_from n xs ++ file_channels_from (n + length xs) ys
file-append n [] ys = ap (λ (m : ℕ). file_channels_from m ys) (let e : n ≡ n + 0 = omega arith in e)
file-append n (x ∷ xs) ys = ap (λ (l : List Channel). file_channel n x ∷ l)
    (file-append (n + 1) xs ys ∙ ap (λ (m : ℕ). file_channels_from (n + 1) xs ++ file_channels_from m ys) (let e : n + 1 + length xs ≡ n + suc (length xs) = omega arith in e))

abbrev pub IsKept : List ℕ → Channel → Type 0
IsKept v c = total c.made (slice_index v c.source) ≡ total c.taken (slice_index v c.target)

pub more-repetition : (phases : List ℕ) (cs es : List Channel) (v : List ℕ) → IsRepetition phases cs v → ((p : ℕ) → p < length es → IsKept v (slice_index_or es p nowhere)) →
    IsRepetition phases (cs ++ es) v
more-repetition phases cs es v is kept = record {
  balances = record { actors = is.balances.actors; fires = is.balances.fires; cycles = is.balances.cycles; kept = λ i below. both i below (cases_lt i (length cs)) };
  least = λ w other. is.least w (record {
    actors = other.actors;
    fires = other.fires;
    cycles = other.cycles;
    kept = λ i below. subst (IsKept w) (get_or_append_left cs es nowhere i below)
        (other.kept i (let long : length (cs ++ es) ≡ length cs + length es = length-append cs es in omega arith));
  });
}
  where
    both : (i : ℕ) → i < length (cs ++ es) → (i < length cs) ⊎ (length cs ≤ i) → IsKept v (slice_index_or (cs ++ es) i nowhere)
    both i below (inl here) = subst (IsKept v) (sym (get_or_append_left cs es nowhere i here)) (is.balances.kept i here)
    both i below (inr past) =
        let long : length (cs ++ es) ≡ length cs + length es = length-append cs es in
        let place : length cs + (i - length cs) ≡ i = omega arith in
        subst (λ (n : ℕ). IsKept v (slice_index_or (cs ++ es) n nowhere)) place (subst (IsKept v) (sym (get_or-append-add cs es (i - length cs) nowhere)) (kept (i - length cs) (omega arith)))

spaces-kept : (cs : List ChannelRow) (v : List ℕ) (rows : List SharedRow) (ds : List (Option ℕ)) →
    ((t : ℕ) (row : SharedRow) → slice_get rows t ≡ Some row → IsKept v (file_channel 0 (channel_named cs row.name))) →
    (n p : ℕ) → p < length (file_channels_from n (space_rows cs rows ds)) → IsKept v (slice_index_or (file_channels_from n (space_rows cs rows ds)) p nowhere)
spaces-kept cs v [] ds kept n p below = absurd (omega arith)
spaces-kept cs v (row ∷ rows) [] kept n p below = absurd (omega arith)
spaces-kept cs v (row ∷ rows) (None ∷ ds) kept n p below = spaces-kept cs v rows ds (λ t r there. kept (suc t) r there) n p below
spaces-kept cs v (row ∷ rows) (Some k ∷ ds) kept n zero below = sym (kept 0 row refl)
spaces-kept cs v (row ∷ rows) (Some k ∷ ds) kept n (suc p) below = spaces-kept cs v rows ds (λ t r there. kept (suc t) r there) (n + 1) p (omega arith)

pub bounded-repetition : (shared : List SharedRow) (ds : List (Option ℕ)) (g : GraphFile) (gamma : List ℕ) → Shares shared g → IsRepetitionOf g gamma → IsRepetitionOf (bounded_graph shared ds g) gamma
bounded-repetition shared ds g gamma shares is =
    subst (λ (l : List Channel). IsRepetition (phases_of g) l gamma) (sym (file-append 0 g.channels (space_rows g.channels shared ds)))
    (more-repetition (phases_of g) (file_channels_from 0 g.channels) (file_channels_from (0 + length g.channels) (space_rows g.channels shared ds)) gamma is
    (λ p below. spaces-kept g.channels gamma shared ds kept (0 + length g.channels) p below))
  where
    kept : (t : ℕ) (row : SharedRow) → slice_get shared t ≡ Some row → IsKept gamma (file_channel 0 (channel_named g.channels row.name))
    kept t row there =
        let one = shared-named shared g shares t row there in
        let inside : one.0 < length g.channels = slice_get_within g.channels one.0 (channel_named g.channels row.name) one.1 in
        let long : length (file_channels_from 0 g.channels) ≡ length g.channels = file-length 0 g.channels in
        let listed : slice_index_or g.channels one.0 (channel_named g.channels row.name) ≡ channel_named g.channels row.name = get_or_from_slice_get g.channels one.0
        (channel_named g.channels row.name) (channel_named g.channels row.name) one.1 in
        let same : slice_index_or (file_channels_from 0 g.channels) one.0 nowhere ≡ file_channel (0 + one.0) (channel_named g.channels row.name) = file-at 0 g.channels one.0
        (channel_named g.channels row.name) inside ∙ ap (file_channel (0 + one.0)) listed in
        subst (IsKept gamma) same (is.balances.kept one.0 (omega arith))
