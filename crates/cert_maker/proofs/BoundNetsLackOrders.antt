-- Bounded nets have no edges of orders either.
use Rattle.std.proofs.Common.{◌≡◌, ℕ, ◌<◌, ◌≤◌, false, List, length, Option, ⊎_elim, subst, sym, refl}
use Rattle.std.proofs.lemmas.Bool.{cases_lt}
use Rattle.sd_base.specs.Net.{Channel, Net}
use Rattle.sd_base.specs.Lawful.{is_order_role}
use Rattle.storage.specs.BoundedNets.{bound}
use Rattle.storage.proofs.SpaceChannels.{bound-front, bound-back}
use Rattle.cert_maker.specs.Links.{HasNoOrders}

abbrev pub IsNoOrder : Channel → Type 0
IsNoOrder c = is_order_role c.role ≡ false

pub bound-orderless : (net : Net) (ds : List (Option ℕ)) → HasNoOrders net → HasNoOrders (bound net ds)
bound-orderless net ds none i below = ⊎_elim
    (λ (own : i < length net.channels). subst IsNoOrder (sym (bound-front net ds i own)) (none i own))
    (λ (space : length net.channels ≤ i). let at = bound-back net ds i space below in subst IsNoOrder (sym at.is) refl)
    (cases_lt i (length net.channels))
