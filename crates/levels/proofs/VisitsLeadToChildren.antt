-- A child whose capacities were set in place is one to which a visit leads.
use Rattle.std.proofs.Common.{◌≡◌, ℕ, ◌+◌, ◌*◌, ◌≤◌, ◌<◌, Option, None, Some, List, [], ◌∷◌, length, ap, ◌∙◌, refl}
use Rattle.std.specs.Prelude.{slice_index_or, slice_set}
use Rattle.sd_base.specs.Net.{Channel, nowhere}
use Rattle.storage.specs.Distributions.{enlarged, storage_of}
use Rattle.storage.specs.StorageOrder.{stepped}
use Rattle.levels.specs.declared.channel.ChannelStep.{ChannelStep}
use Rattle.levels.specs.declared.error.LevelsError.{LevelsError}
use Rattle.levels.specs.declared.error.LevelsError.TheVariants.{Spent, NoMemory}
use Rattle.levels.specs.declared.found.Found.{Found}
use Rattle.levels.specs.declared.levels.Bounds.{Bounds}
use Rattle.levels.specs.Visits.{led_by}
use Rattle.levels.specs.Frontiers.{AreLedOn, IsOver, channel_step}
use Rattle.levels.specs.inside.Waiting.{EndsAdding, EndsWaiting, IsAdded}
use Rattle.levels.proofs.RoomAddsStorage.{set-enlarged}
use Rattle.levels.proofs.VisitsLeadOn.{known-at, led-child, led-past}

module _ {H : Type 0} (channels : List ChannelStep) (bounds : Bounds) (ds : List (Option ℕ)) (c room more : ℕ) (below : c < length channels) (at : slice_index_or ds c None ≡ Some room) (of : ChannelStep) (is : of ≡ slice_index_or channels c of)
    (total : ℕ) (hint : H) (child : Found H) (set : child.capacities.capacities ≡ slice_set ds c (Some more)) (rooms : more ≡ room + of.step) (totals : child.total ≡ total + of.step * of.size) (within : child.total ≤ bounds.total) (hints : child.hint ≡ hint) where
  known : (cs : List Channel) → IsOver cs channels → of ≡ channel_step (slice_index_or cs c nowhere)
  known cs over = is ∙ known-at cs channels c of over below

  raised : (cs : List Channel) → IsOver cs channels → child.capacities.capacities ≡ stepped cs ds c
  raised cs over =
      set
      ∙ (ap (λ (n : ℕ). slice_set ds c (Some n)) rooms
      ∙ (set-enlarged ds c room of.step at
      ∙ ap (λ (x : ChannelStep). enlarged ds c x.step) (known cs over)))

  pub child-led : (old new : List (Found H)) → IsAdded child old new → (cs : List Channel) → IsOver cs channels → total ≡ storage_of cs ds → AreLedOn cs bounds.total (led_by ds (c ∷ [])) hint old new
  child-led old new added cs over is_total = led-child cs channels over ds c room below at of (known cs over) bounds.total total hint child is_total (raised cs over) totals within hints old new added

  pub child-ends : (found : ℕ) (old : List (Found H)) (e : LevelsError) → EndsAdding child bounds found old e → EndsWaiting channels bounds total (led_by ds (c ∷ [])) hint found old e
  child-ends found old NoMemory ends = tt
  child-ends found old Spent ends = λ cs over is_total rises. led-past cs channels over ds c room below at of (known cs over) bounds.total total hint child is_total (raised cs over) totals within hints bounds found old refl ends
