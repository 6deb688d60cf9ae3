-- The nets of files have no edges of orders.
use Rattle.std.proofs.Common.{ℕ, zero, suc, ◌+◌, ◌-◌, ◌<◌, ◌≤◌, Bool, true, false, List, [], ◌∷◌, length, ⊎_elim, subst, sym, refl, arith}
use Rattle.std.specs.Prelude.{slice_index_or, if◌then◌else◌}
use Rattle.std.proofs.lemmas.Bool.{cases_lt}
use Rattle.std.proofs.lemmas.List.{length-append, get_or_append_left, get_or-append_right}
use Rattle.sd_base.specs.declared.tables.GraphFile.{GraphFile}
use Rattle.sd_base.specs.declared.tables.ActorRow.{ActorRow}
use Rattle.sd_base.specs.declared.tables.ChannelRow.{ChannelRow}
use Rattle.sd_base.specs.Net.{Channel, nowhere, file_channels_from, file_channels}
use Rattle.sd_base.specs.FileNet.{own_channel, gets_own, own_channels_from, net_of}
use Rattle.cert_maker.specs.Links.{HasNoOrders}
use Rattle.cert_maker.proofs.BoundNetsLackOrders.{IsNoOrder}

abbrev AreNoOrders : List Channel → Type 0
AreNoOrders cs = (i : ℕ) → i < length cs → IsNoOrder (slice_index_or cs i nowhere)

file-orderless : (n : ℕ) (rows : List ChannelRow) → AreNoOrders (file_channels_from n rows)
file-orderless n [] i below = absurd (omega arith)
file-orderless n (r ∷ rows) zero below = refl
file-orderless n (r ∷ rows) (suc i) below = file-orderless (n + 1) rows i (omega arith)

own-orderless : (apart : Bool) (channels : List ChannelRow) (a : ℕ) (rows : List ActorRow) → AreNoOrders (own_channels_from apart channels a rows)
own-orderless apart channels a [] i below = absurd (omega arith)
own-orderless apart channels a (r ∷ rows) i below = step (gets_own apart channels a r.phases) i below (own-orderless apart channels (suc a) rows)
  where
    step : (b : Bool) (i : ℕ) → i < length (if b then own_channel a r.phases ∷ own_channels_from apart channels (suc a) rows else own_channels_from apart channels (suc a) rows)
        → AreNoOrders (own_channels_from apart channels (suc a) rows)
        → IsNoOrder (slice_index_or (if b then own_channel a r.phases ∷ own_channels_from apart channels (suc a) rows else own_channels_from apart channels (suc a) rows) i nowhere)
    step true zero below rest = refl
    step true (suc k) below rest = rest k (omega arith)
    step false i below rest = rest i below

pub net-orderless : (g : GraphFile) (gamma : List ℕ) (apart : Bool) → HasNoOrders (net_of g gamma apart)
net-orderless g gamma apart i below = ⊎_elim
    (λ (here : i < length (file_channels g)). subst IsNoOrder (sym (get_or_append_left (file_channels g) (own_channels_from apart g.channels 0 g.actors) nowhere i here)) (file-orderless 0 g.channels i here))
    (λ (later : length (file_channels g) ≤ i).
    subst IsNoOrder (sym (get_or-append_right (file_channels g) (own_channels_from apart g.channels 0 g.actors) (length (file_channels g)) i nowhere refl later))
    (own-orderless apart g.channels 0 g.actors (i - length (file_channels g)) (omega (arith, length-append (file_channels g) (own_channels_from apart g.channels 0 g.actors)))))
    (cases_lt i (length (file_channels g)))
