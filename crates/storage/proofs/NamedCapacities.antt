-- Buffers without a fault bound the net of their graph.
use Rattle.std.proofs.Common.{◌≡◌, ℕ, zero, suc, ◌+◌, ◌≤◌, ◌<◌, Bool, true, false, not, cond, ◌&&◌, All, ◌⊎◌, inl, inr, Option, None, Some, List, [], ◌∷◌, ◌++◌, length, refl, sym, subst, ◌∙◌, arith}
use Rattle.std.specs.Prelude.{slice_index_or, ◌==◌, ◌≢◌, nat_lt}
use Rattle.std.specs.List.{find, list_any}
use Rattle.std.specs.Option.{option_map, option_or}
use Rattle.std.specs.Str.{bytes_eq}
use Rattle.std.proofs.lemmas.List.{length-append}
use Rattle.std.proofs.lemmas.Bool.{eqb-false, ltb-false, or_parts}
use Rattle.sd_base.specs.declared.limits.TheConstants.{CAPACITY, NET_CHANNELS, NET_TOKENS}
use Rattle.sd_base.specs.declared.tables.GraphFile.{GraphFile}
use Rattle.sd_base.specs.declared.tables.ChannelRow.{ChannelRow}
use Rattle.sd_base.specs.Tables.{KeepsRules}
use Rattle.sd_base.specs.Net.{Channel, file_channel, file_channels, file_channels_from}
use Rattle.sd_base.specs.FileNet.{own_channels_from, net_of}
use Rattle.sd_base.proofs.FileNets.{file-length, own-few}
use Rattle.sd_base.proofs.ByteTestsDecide.{bytes_turned}
use Rattle.storage.specs.declared.buffers.BufferError.{BufferError}
use Rattle.storage.specs.declared.buffers.BufferError.TheVariants.{Unknown, SelfLoop, BelowTokens}
use Rattle.storage.specs.Distributions.{CanHold}
use Rattle.storage.specs.BoundedNets.{bound, spaces_from}
use Rattle.storage.specs.NamedBuffers.{Buffer, capacities_of, capacity_named, fault_of, first_fault, has_named}
use Rattle.storage.proofs.SpaceChannels.{bound-long}

-- what a row of a channel tells of the capacity that its name is given
record Holds (r : ChannelRow) (k : ℕ) : Type 0 where
  apart : r.source ≢ r.target
  covers : r.tokens ≤ k
  small : k ≤ NET_TOKENS

-- ---- one buffer

first-none : (f g : Option BufferError) → option_or f g ≡ None → (f ≡ None) × (g ≡ None)
first-none None g e = (refl, e)
first-none (Some x) g e = absurd (cc)

-- a test that no row passes
none-passes : (test : ChannelRow → Bool) (rows : List ChannelRow) (i : ℕ) (d : ChannelRow) → list_any test rows ≡ false → i < length rows → test (slice_index_or rows i d) ≡ false
none-passes test [] i d none below = absurd (omega arith)
none-passes test (r ∷ rows) zero d none below = (or_parts (test r) (list_any test rows) none).0
none-passes test (r ∷ rows) (suc i) d none below = none-passes test rows i d (or_parts (test r) (list_any test rows) none).1 (omega arith)

-- a name that a row has
and-right : (a b : Bool) → a ≡ true → (a && b) ≡ false → b ≡ false
and-right true b e h = h
and-right false b e h = absurd (cc)

-- a buffer without a fault holds for the row of its name
one-holds : (rows : List ChannelRow) (b : Buffer) (i : ℕ) (d : ChannelRow) → i < length rows → fault_of rows b ≡ None → b.1 ≤ CAPACITY
    → bytes_eq (slice_index_or rows i d).name b.0 ≡ true → Holds (slice_index_or rows i d) b.1
unfolding fault_of
one-holds rows b i d below none small named =
    go (not (list_any (λ (c : ChannelRow). bytes_eq c.name b.0) rows)) (has_named rows b.0 (λ c. c.source == c.target)) (has_named rows b.0 (λ c. nat_lt b.1 c.tokens)) refl refl none
  where
    go : (unknown loop short : Bool) → has_named rows b.0 (λ c. c.source == c.target) ≡ loop → has_named rows b.0 (λ c. nat_lt b.1 c.tokens) ≡ short
        → cond unknown (Some (Unknown b.0)) (cond loop (Some (SelfLoop b.0)) (cond short (Some (BelowTokens b.0)) None)) ≡ None → Holds (slice_index_or rows i d) b.1
    go true loop short p q e = absurd (cc)
    go false true short p q e = absurd (cc)
    go false false true p q e = absurd (cc)
    go false false false p q e =
        let row : ChannelRow = slice_index_or rows i d in
        let loop = none-passes (λ (c : ChannelRow). bytes_eq c.name b.0 && (c.source == c.target)) rows i d p below in
        let short = none-passes (λ (c : ChannelRow). bytes_eq c.name b.0 && nat_lt b.1 c.tokens) rows i d q below in
        let apart = and-right (bytes_eq row.name b.0) (row.source == row.target) named loop in
        let covers = and-right (bytes_eq row.name b.0) (nat_lt b.1 row.tokens) named short in
        record {
          apart = eqb-false row.source row.target apart;
          covers = ltb-false b.1 row.tokens covers;
          small = omega arith;
        }

-- ---- all buffers

-- the first buffer of a name
at-first : (test : Buffer → Bool) (b : Buffer) (bs : List Buffer) (k : ℕ) → option_map (λ (b : Buffer). b.1) (find test (b ∷ bs)) ≡ Some k
    → ((test b ≡ true) × (b.1 ≡ k)) ⊎ (option_map (λ (b : Buffer). b.1) (find test bs) ≡ Some k)
at-first test b bs k is = go (test b) refl is
  where
    go : (c : Bool) → test b ≡ c → option_map (λ (b : Buffer). b.1) (cond c (Some b) (find test bs)) ≡ Some k → ((test b ≡ true) × (b.1 ≡ k)) ⊎ (option_map (λ (b : Buffer). b.1) (find test bs) ≡ Some k)
    go true e h =
        let same : b.1 ≡ k = cc in
        inl (e, same)
    go false e h = inr h

all-hold : (rows : List ChannelRow) (bs : List Buffer) (i : ℕ) (d : ChannelRow) (k : ℕ) → i < length rows → first_fault rows bs ≡ None → All (λ (b : Buffer). b.1 ≤ CAPACITY) bs
    → capacity_named bs (slice_index_or rows i d).name ≡ Some k → Holds (slice_index_or rows i d) k
unfolding first_fault
all-hold rows [] i d k below none small is = absurd (cc)
all-hold rows (b ∷ bs) i d k below none small is =
    let parts = first-none (fault_of rows b) (first_fault rows bs) none in
    elim (at-first (λ (b : Buffer). bytes_eq b.0 (slice_index_or rows i d).name) b bs k is) [
      | inl h ↦ subst (Holds (slice_index_or rows i d)) h.1 (one-holds rows b i d below parts.0 (small 0 b (omega arith)) (sym (bytes_turned b.0 (slice_index_or rows i d).name) ∙ h.0))
      | inr h ↦ all-hold rows bs i d k below parts.1 (λ j e within. small (suc j) e (omega arith)) h
    ]

held : (n : ℕ) (rows : List ChannelRow) (rest : List Channel) (d : ChannelRow) (bs : List Buffer)
    → ((i : ℕ) (k : ℕ) → i < length rows → capacity_named bs (slice_index_or rows i d).name ≡ Some k → Holds (slice_index_or rows i d) k)
    → CanHold (file_channels_from n rows ++ rest) (capacities_of rows bs)
held n [] [] d bs all = tt
held n [] (c ∷ rest) d bs all = tt
held n (r ∷ rows) rest d bs all = go (capacity_named bs r.name) refl (held (n + 1) rows rest d bs (λ i k below is. all (suc i) k (omega arith) is))
  where
    go : (o : Option ℕ) → capacity_named bs r.name ≡ o → CanHold (file_channels_from (n + 1) rows ++ rest) (capacities_of rows bs)
        → CanHold (file_channel n r ∷ (file_channels_from (n + 1) rows ++ rest)) (o ∷ capacities_of rows bs)
    go None is more = more
    go (Some k) is more =
        let one = all 0 k (omega arith) is in
        (one.apart, one.covers, one.small, more)

-- a row that stands for none
no_row : ChannelRow
no_row = record { name = []; source = 0; target = 0; made = []; taken = []; tokens = 0; size = 0 }

pub named-held : (g : GraphFile) (gamma : List ℕ) (no_overlap : Bool) (bs : List Buffer) → first_fault g.channels bs ≡ None → All (λ (b : Buffer). b.1 ≤ CAPACITY) bs
    → CanHold (net_of g gamma no_overlap).channels (capacities_of g.channels bs)
named-held g gamma no_overlap bs none small =
    held 0 g.channels (own_channels_from no_overlap g.channels 0 g.actors) no_row bs (λ i k below is. all-hold g.channels bs i no_row k below none small is)

-- ---- how many channels

pub spaces-few : (n : ℕ) (cs : List Channel) (ds : List (Option ℕ)) → length (spaces_from n cs ds) ≤ length ds
spaces-few n [] ds = omega arith
spaces-few n (c ∷ cs) [] = omega arith
spaces-few n (c ∷ cs) (None ∷ ds) = let rest = spaces-few (suc n) cs ds in omega arith
spaces-few n (c ∷ cs) (Some k ∷ ds) = let rest = spaces-few (suc n) cs ds in omega arith

pub bounded-few : (g : GraphFile) (gamma : List ℕ) (no_overlap : Bool) (ds : List (Option ℕ)) → KeepsRules g → length ds ≤ length g.channels
    → length (bound (net_of g gamma no_overlap) ds).channels ≤ NET_CHANNELS
bounded-few g gamma no_overlap ds keeps many =
    omega (arith, bound-long (net_of g gamma no_overlap) ds, spaces-few 0 (net_of g gamma no_overlap).channels ds, length-append (file_channels g) (own_channels_from no_overlap g.channels 0 g.actors), file-length 0 g.channels, own-few no_overlap g.channels 0 g.actors, keeps.few_actors, keeps.few_channels)
