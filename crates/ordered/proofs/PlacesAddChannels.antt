-- Each place that is pushed adds its channel to those before.
use Rattle.std.proofs.Common.{◌≡◌, ℕ, zero, suc, ◌+◌, ◌*◌, ◌%◌, ◌≤◌, ◌<◌, Bool, true, false, List, [], ◌∷◌, ◌++◌, length, map, take, ⊎_elim, subst, sym, refl, ap, ◌∙◌, arith, append-nil}
use Rattle.std.specs.Prelude.{slice_index, slice_index_or, All, if◌then◌else◌, ◌==◌, sum, replicate}
use Rattle.std.proofs.lemmas.Bool.{cases_lt}
use Rattle.std.proofs.lemmas.List.{length-map, length-append, map-append, append_assoc, take_all, take_more, nil_from_length}
use Rattle.std.proofs.lemmas.List.Elements.{All-push}
use Rattle.sd_base.specs.declared.role.Role.{Role}
use Rattle.sd_base.specs.Net.{Channel, Net, nowhere, channel_at}
use Rattle.ordered.specs.declared.places.Place.{Place}
use Rattle.ordered.specs.declared.places.Place.TheVariants.{Kept, New}
use Rattle.ordered.specs.declared.places.NewChannel.{NewChannel}
use Rattle.ordered.specs.declared.places.Sort.{Sort}
use Rattle.ordered.specs.OrderedNets.{rephased, with_role, own_or_new, order_channel, order_channels_from}
use Rattle.ordered.specs.inside.Steps.{pairs_from}
use Rattle.ordered.proofs.PairsAreNeighbours.{channels-of-pairs}
use Rattle.ordered.specs.inside.Places.{Adds, IsPlaceOf, reach, is_sort, new_channel, place_in}

pub adds-none : (net : Net) (old new : List Place) → new ≡ old → Adds net old new (λ phases. [])
adds-none net old new same = record {
  over = λ all. subst (All (IsPlaceOf net)) (sym same) all;
  channels = λ phases. ap (map (place_in net phases)) same ∙ sym (append-nil (map (place_in net phases) old));
}

-- one place more
pub adds-one : (net : Net) (old so new : List Place) (more : (ℕ → ℕ) → List Channel) (p : Place) (c : (ℕ → ℕ) → Channel) → IsPlaceOf net p → ((phases : ℕ → ℕ) → place_in net phases p ≡ c phases) → new ≡ so ++ p ∷ []
    → Adds net old so more → Adds net old new (λ phases. more phases ++ c phases ∷ [])
adds-one net old so new more p c is channel push adds = record {
  over = λ all. subst (All (IsPlaceOf net)) (sym push) (All-push (IsPlaceOf net) so p (adds.over all) is);
  channels = λ phases.
      ap (map (place_in net phases)) push ∙ (map-append (place_in net phases) so (p ∷ []) ∙ (ap (λ (cs : List Channel). cs ++ place_in net phases p ∷ []) (adds.channels phases)
      ∙ (append_assoc (map (place_in net phases) old) (more phases) (place_in net phases p ∷ []) ∙ ap (λ (d : Channel). map (place_in net phases) old ++ (more phases ++ d ∷ [])) (channel phases))));
}

-- the same, said of other channels that are those
pub adds-as : (net : Net) (old new : List Place) (more other : (ℕ → ℕ) → List Channel) → ((phases : ℕ → ℕ) → more phases ≡ other phases) → Adds net old new more → Adds net old new other
adds-as net old new more other same adds = record { over = adds.over; channels = λ phases. adds.channels phases ∙ ap (λ (cs : List Channel). map (place_in net phases) old ++ cs) (same phases) }

-- one channel more among those of a sort
pub role-more : (test : Role → Bool) (cs : List Channel) (i : ℕ) → i < length cs → with_role test (take (i + 1) cs) ≡ with_role test (take i cs) ++ (if test (slice_index_or cs i nowhere).role then slice_index_or cs i nowhere ∷ [] else [])
role-more test [] i below = absurd (omega arith)
role-more test (c ∷ cs) zero below = let e : 0 + 1 ≡ suc 0 = omega arith in at (test c.role)
  where
    at : (b : Bool) → (if b then c ∷ with_role test [] else with_role test []) ≡ [] ++ (if b then c ∷ [] else [])
    at true = refl
    at false = refl
role-more test (c ∷ cs) (suc i) below = let e : suc i + 1 ≡ suc (i + 1) = omega arith in rw e (at (test c.role) (role-more test cs i (omega arith)))
  where
    at : (b : Bool) → with_role test (take (i + 1) cs) ≡ with_role test (take i cs) ++ (if test (slice_index_or cs i nowhere).role then slice_index_or cs i nowhere ∷ [] else [])
        → (if b then c ∷ with_role test (take (i + 1) cs) else with_role test (take (i + 1) cs)) ≡ (if b then c ∷ with_role test (take i cs) else with_role test (take i cs)) ++ (if test (slice_index_or cs i nowhere).role then slice_index_or cs i nowhere ∷ [] else [])
    at true rest = ap (λ (ds : List Channel). c ∷ ds) rest
    at false rest = rest

module _ (net : Net) (sort : Sort) (old : List Place) (i : ℕ) (below : i < length net.channels) where
  pub kept-hit : (so new : List Place) → is_sort sort (channel_at net i).role ≡ true → new ≡ so ++ Kept i ∷ []
      → Adds net old so (λ phases. map (rephased phases) (with_role (is_sort sort) (take i net.channels))) → Adds net old new (λ phases. map (rephased phases) (with_role (is_sort sort) (take (i + 1) net.channels)))
  kept-hit so new hit push adds =
      adds-as net old new (λ phases. map (rephased phases) (with_role (is_sort sort) (take i net.channels)) ++ rephased phases (channel_at net i) ∷ []) (λ phases. map (rephased phases) (with_role (is_sort sort) (take (i + 1) net.channels)))
      (λ phases. sym (ap (map (rephased phases)) (role-more (is_sort sort) net.channels i below ∙ ap (λ (b : Bool). with_role (is_sort sort) (take i net.channels) ++ (if b then channel_at net i ∷ [] else [])) hit)
      ∙ map-append (rephased phases) (with_role (is_sort sort) (take i net.channels)) (channel_at net i ∷ [])))
      (adds-one net old so new (λ phases. map (rephased phases) (with_role (is_sort sort) (take i net.channels))) (Kept i) (λ phases. rephased phases (channel_at net i)) (omega arith) (λ phases. refl) push adds)

  pub kept-miss : (so new : List Place) → is_sort sort (channel_at net i).role ≡ false → new ≡ so
      → Adds net old so (λ phases. map (rephased phases) (with_role (is_sort sort) (take i net.channels))) → Adds net old new (λ phases. map (rephased phases) (with_role (is_sort sort) (take (i + 1) net.channels)))
  kept-miss so new miss same adds =
      subst (λ (ps : List Place). Adds net old ps (λ phases. map (rephased phases) (with_role (is_sort sort) (take (i + 1) net.channels)))) (sym same)
      (adds-as net old so (λ phases. map (rephased phases) (with_role (is_sort sort) (take i net.channels))) (λ phases. map (rephased phases) (with_role (is_sort sort) (take (i + 1) net.channels)))
      (λ phases. sym (ap (map (rephased phases)) (role-more (is_sort sort) net.channels i below ∙ (ap (λ (b : Bool). with_role (is_sort sort) (take i net.channels) ++ (if b then channel_at net i ∷ [] else [])) miss ∙ append-nil (with_role (is_sort sort) (take i net.channels)))))) adds)

-- ---- own channels

-- the places that were added are as many as the channels
pub added-long : (net : Net) (old new : List Place) (more : (ℕ → ℕ) → List Channel) (phases : ℕ → ℕ) → Adds net old new more → length new ≡ length old + length (more phases)
added-long net old new more phases adds =
    let e = ap length (adds.channels phases) in
    omega (arith, e, length-map new (place_in net phases), length-map old (place_in net phases), length-append (map (place_in net phases) old) (more phases))

own-some : (cs : List Channel) (named : Bool) (new : Channel) → 1 ≤ length cs → cs ≡ own_or_new cs named new
own-some [] named new some = absurd (omega arith)
own-some (c ∷ cs) named new some = refl

module _ (net : Net) (old so : List Place) (more : (ℕ → ℕ) → List Channel) (named : Bool) (own : Channel) (adds : Adds net old so more) where
  pub own-there : (length so ≡ length old → ⊥) → Adds net old so (λ phases. own_or_new (more phases) named own)
  own-there some = adds-as net old so more (λ phases. own_or_new (more phases) named own) (λ phases.
      own-some (more phases) named own (⊎_elim (λ (h : length (more phases) < 1). absurd (some (omega (arith, h, added-long net old so more phases adds)))) (λ (h : 1 ≤ length (more phases)). h) (cases_lt (length (more phases)) 1))) adds

  no-own : length so ≡ length old → (phases : ℕ → ℕ) → more phases ≡ []
  no-own same phases = nil_from_length (more phases) (omega (arith, same, added-long net old so more phases adds))

  pub own-none : length so ≡ length old → named ≡ false → Adds net old so (λ phases. own_or_new (more phases) named own)
  own-none same other = adds-as net old so more (λ phases. own_or_new (more phases) named own) (λ phases. rw (no-own same phases, other) refl) adds

  pub own-new : (new : List Place) (c : NewChannel) → length so ≡ length old → named ≡ true → new_channel c ≡ own → new ≡ so ++ New c ∷ [] → Adds net old new (λ phases. own_or_new (more phases) named own)
  own-new new c same is channel push = adds-as net old new (λ phases. more phases ++ own ∷ []) (λ phases. own_or_new (more phases) named own) (λ phases. rw (no-own same phases, is) refl)
      (adds-one net old so new more (New c) (λ phases. own) (omega arith) (λ phases. channel) push adds)

-- ---- order channels

pub step-pushed : (net : Net) (old so new : List Place) (cs : List Channel) (c : NewChannel) (d : Channel) → new_channel c ≡ d → new ≡ so ++ New c ∷ []
    → Adds net old so (λ phases. cs) → Adds net old new (λ phases. cs ++ d ∷ [])
step-pushed net old so new cs c d channel push adds = adds-one net old so new (λ phases. cs) (New c) (λ phases. d) (omega arith) (λ phases. channel) push adds

module _ (net : Net) (order : List ℕ) (old so : List Place) where
  pub pairs-pushed : (new : List Place) (pairs : List (ℕ × ℕ)) (i : ℕ) (c : NewChannel) → i < length pairs
      → new_channel c ≡ order_channel order (slice_index_or pairs i (0, 0)).0 (slice_index_or pairs i (0, 0)).1 → new ≡ so ++ New c ∷ []
      → Adds net old so (λ phases. map (λ (p : ℕ × ℕ). order_channel order p.0 p.1) (take i pairs)) → Adds net old new (λ phases. map (λ (p : ℕ × ℕ). order_channel order p.0 p.1) (take (i + 1) pairs))
  pairs-pushed new pairs i c below channel push adds =
      adds-as net old new (λ phases. map (λ (p : ℕ × ℕ). order_channel order p.0 p.1) (take i pairs) ++ order_channel order (slice_index_or pairs i (0, 0)).0 (slice_index_or pairs i (0, 0)).1 ∷ []) (λ phases. map (λ (p : ℕ × ℕ). order_channel order p.0 p.1) (take (i + 1) pairs))
      (λ phases. sym (ap (map (λ (p : ℕ × ℕ). order_channel order p.0 p.1)) (take_more pairs i (0, 0) below) ∙ map-append (λ (p : ℕ × ℕ). order_channel order p.0 p.1) (take i pairs) (slice_index_or pairs i (0, 0) ∷ [])))
      (step-pushed net old so new (map (λ (p : ℕ × ℕ). order_channel order p.0 p.1) (take i pairs)) c (order_channel order (slice_index_or pairs i (0, 0)).0 (slice_index_or pairs i (0, 0)).1) channel push adds)

  pub pairs-whole : (pairs : List (ℕ × ℕ)) (i : ℕ) → pairs ≡ pairs_from order 0 (length order) → length pairs ≤ i
      → Adds net old so (λ phases. map (λ (p : ℕ × ℕ). order_channel order p.0 p.1) (take i pairs)) → Adds net old so (λ phases. order_channels_from order 0 (length order))
  pairs-whole pairs i all past adds =
      adds-as net old so (λ phases. map (λ (p : ℕ × ℕ). order_channel order p.0 p.1) (take i pairs)) (λ phases. order_channels_from order 0 (length order))
      (λ phases. ap (map (λ (p : ℕ × ℕ). order_channel order p.0 p.1)) (take_all i pairs past ∙ all) ∙ sym (channels-of-pairs order 0 (length order))) adds
