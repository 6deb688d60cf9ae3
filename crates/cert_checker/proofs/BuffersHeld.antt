-- Buffers of channels are capacities that the net of the graph can hold.
use Rattle.std.proofs.Common.{◌≡◌, ◌≢◌, ℕ, suc, ◌+◌, ◌≤◌, Bool, true, false, cond, Option, None, Some, List, [], ◌∷◌, ◌++◌, length, map, refl, sym, ap, subst, ◌∙◌, arith}
use Rattle.std.specs.Prelude.{slice_get, ◌==◌}
use Rattle.std.specs.List.{find, range_with_len}
use Rattle.std.specs.Option.{option_map}
use Rattle.std.proofs.lemmas.Bool.{eqb-true}
use Rattle.std.proofs.lemmas.List.FromFn.{length-map-range_with_len, map-range_with_len_more}
use Rattle.std.proofs.lemmas.Option.{same_Some}
use Rattle.sd_base.specs.declared.limits.TheConstants.{CAPACITY, NET_CHANNELS}
use Rattle.sd_base.specs.declared.tables.GraphFile.{GraphFile}
use Rattle.sd_base.specs.declared.tables.ChannelRow.{ChannelRow}
use Rattle.sd_base.specs.Tables.{KeepsRules}
use Rattle.sd_base.specs.Net.{Channel, file_channel, file_channels_from}
use Rattle.sd_base.specs.FileNet.{own_channels_from, net_of}
use Rattle.storage.specs.Distributions.{CanHold}
use Rattle.storage.specs.BoundedNets.{bound}
use Rattle.storage.proofs.NamedCapacities.{bounded-few}
use Rattle.cert_checker.specs.NumberedBuffers.{IsBuffer, AreBuffers, capacity_in, capacities_in}

-- what a row tells of its capacity
record Holds (r : ChannelRow) (k : ℕ) : Type 0 where
  apart : r.source ≢ r.target
  covers : r.tokens ≤ k
  small : k ≤ CAPACITY

-- the capacity of a channel is that of a buffer
of-buffer : (channels : List ChannelRow) (bs : List (ℕ × ℕ)) (i k : ℕ) (r : ChannelRow) → AreBuffers channels bs → slice_get channels i ≡ Some r → capacity_in bs i ≡ Some k → Holds r k
of-buffer channels [] i k r all there is = absurd (cc)
of-buffer channels (b ∷ bs) i k r all there is = go (of-buffer channels bs i k r (λ j d within. all (suc j) d (omega arith)) there) (b.0 == i) refl is
  where
    go : (capacity_in bs i ≡ Some k → Holds r k) → (c : Bool) → (b.0 == i) ≡ c → option_map (λ (x : ℕ × ℕ). x.1) (cond c (Some b) (find (λ (x : ℕ × ℕ). x.0 == i) bs)) ≡ Some k → Holds r k
    go later true e h =
        let one : IsBuffer channels b = all 0 b (omega arith) in
        let number : b.0 ≡ i = eqb-true b.0 i e in
        let room : b.1 ≡ k = same_Some b.1 k h in
        let row : one.channel ≡ r = same_Some one.channel r (sym one.there ∙ (ap (slice_get channels) number ∙ there)) in
        subst (λ (x : ChannelRow). Holds x k) row (subst (Holds one.channel) room (record { apart = one.apart; covers = one.covers; small = one.limited }))
    go later false e h = later h

held : (n : ℕ) (rows : List ChannelRow) (rest : List Channel) (bs : List (ℕ × ℕ)) → ((i k : ℕ) (r : ChannelRow) → slice_get rows i ≡ Some r → capacity_in bs (n + i) ≡ Some k → Holds r k)
    → CanHold (file_channels_from n rows ++ rest) (map (capacity_in bs) (range_with_len n (length rows)))
held n [] [] bs all = tt
held n [] (c ∷ rest) bs all = tt
held n (r ∷ rows) rest bs all =
    go (capacity_in bs n) refl (held (n + 1) rows rest bs (λ i k x there is. all (suc i) k x there (let e : n + suc i ≡ n + 1 + i = omega arith in rw e is)))
  where
    go : (o : Option ℕ) → capacity_in bs n ≡ o → CanHold (file_channels_from (n + 1) rows ++ rest) (map (capacity_in bs) (range_with_len (n + 1) (length rows)))
        → CanHold (file_channel n r ∷ (file_channels_from (n + 1) rows ++ rest)) (o ∷ map (capacity_in bs) (range_with_len (n + 1) (length rows)))
    go None is more = more
    go (Some k) is more =
        let e : n + 0 ≡ n = omega arith in
        let one : Holds r k = all 0 k r refl (rw e is) in
        (one.apart, one.covers, omega (arith, one.small), more)

pub buffers-held : (g : GraphFile) (gamma : List ℕ) (no_overlap : Bool) (bs : List (ℕ × ℕ)) → AreBuffers g.channels bs → CanHold (net_of g gamma no_overlap).channels (capacities_in (length g.channels) bs)
buffers-held g gamma no_overlap bs all =
    held 0 g.channels (own_channels_from no_overlap g.channels 0 g.actors) bs (λ i k r there is. of-buffer g.channels bs i k r all there (let e : 0 + i ≡ i = omega arith in rw e at is))

pub buffers-few : (g : GraphFile) (gamma : List ℕ) (no_overlap : Bool) (bs : List (ℕ × ℕ)) → KeepsRules g → length (bound (net_of g gamma no_overlap) (capacities_in (length g.channels) bs)).channels ≤ NET_CHANNELS
buffers-few g gamma no_overlap bs keeps =
    bounded-few g gamma no_overlap (capacities_in (length g.channels) bs) keeps (omega (arith, length-map-range_with_len (capacity_in bs) 0 (length g.channels)))

-- one more channel
pub capacities-more : (bs : List (ℕ × ℕ)) (n : ℕ) (o : Option ℕ) (old new : List (Option ℕ)) → old ≡ capacities_in n bs → o ≡ capacity_in bs n → new ≡ old ++ o ∷ [] → new ≡ capacities_in (n + 1) bs
capacities-more bs n o old new so_far is pushed =
    pushed ∙ (ap (λ (xs : List (Option ℕ)). xs ++ o ∷ []) so_far ∙ (ap (λ (x : Option ℕ). capacities_in n bs ++ x ∷ []) is ∙ sym (map-range_with_len_more (capacity_in bs) 0 n n (omega arith))))
