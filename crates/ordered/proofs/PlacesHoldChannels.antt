-- The places that are filled in, sort after sort, hold all channels of an ordered net.
use Rattle.std.proofs.Common.{◌≡◌, ℕ, zero, suc, ◌+◌, ◌≤◌, ◌<◌, Bool, true, false, List, [], ◌∷◌, ◌++◌, length, map, take, subst, sym, refl, ap, ◌∙◌, arith, append-nil}
use Rattle.std.specs.Prelude.{slice_index, slice_index_or, All}
use Rattle.std.proofs.lemmas.List.{append_assoc, take_all}
use Rattle.sd_base.specs.declared.role.Role.{Role}
use Rattle.sd_base.specs.Net.{Channel, Net}
use Rattle.sd_base.specs.FileNet.{own_channel}
use Rattle.sd_base.specs.Lawful.{is_own_role, is_token_role, is_space_role}
use Rattle.ordered.specs.declared.places.Place.{Place}
use Rattle.ordered.specs.OrderedNets.{is_named, order_channels, order_channels_from, ordered, own_or_new, owns_from, phases_in, rephased, with_role}
use Rattle.ordered.specs.inside.Places.{Adds, IsPlaceOf, place_in}

-- the places are those of these channels
pub record Holds (net : Net) (orders : List (List ℕ)) (places : List Place) (cs : List Channel) : Type 0 where
  pub over : All (IsPlaceOf net) places
  pub channels : map (place_in net (phases_in net orders)) places ≡ cs

-- own channels of one actor more
pub owns-more : (net : Net) (orders : List (List ℕ)) (a n : ℕ) →
    owns_from net orders a (n + 1) ≡ owns_from net orders a n ++ own_or_new (map (rephased (phases_in net orders)) (with_role (is_own_role (a + n)) net.channels)) (is_named orders (a + n)) (own_channel (a + n) (slice_index net.round (a + n)))
owns-more net orders a zero =
    let e : a + 0 ≡ a = omega arith in
    rw e (append-nil (own_or_new (map (rephased (phases_in net orders)) (with_role (is_own_role a) net.channels)) (is_named orders a) (own_channel a (slice_index net.round a))))
owns-more net orders a (suc n) =
    let e : a + suc n ≡ suc a + n = omega arith in let f : suc n + 1 ≡ suc (n + 1) = omega arith in
    rw (e, f) (ap (λ (cs : List Channel). own_or_new (map (rephased (phases_in net orders)) (with_role (is_own_role a) net.channels)) (is_named orders a) (own_channel a (slice_index net.round a)) ++ cs) (owns-more net orders (suc a) n)
    ∙ sym (append_assoc (own_or_new (map (rephased (phases_in net orders)) (with_role (is_own_role a) net.channels)) (is_named orders a) (own_channel a (slice_index net.round a))) (owns_from net orders (suc a) n)
    (own_or_new (map (rephased (phases_in net orders)) (with_role (is_own_role (suc a + n)) net.channels)) (is_named orders (suc a + n)) (own_channel (suc a + n) (slice_index net.round (suc a + n))))))

-- order channels of one order more
pub orders-more : (orders : List (List ℕ)) (i : ℕ) → i < length orders →
    order_channels (take (i + 1) orders) ≡ order_channels (take i orders) ++ order_channels_from (slice_index_or orders i []) 0 (length (slice_index_or orders i []))
orders-more [] i below = absurd (omega arith)
orders-more (order ∷ orders) zero below = append-nil (order_channels_from order 0 (length order))
orders-more (order ∷ orders) (suc i) below =
    let f : suc i + 1 ≡ suc (i + 1) = omega arith in
    rw f (ap (λ (cs : List Channel). order_channels_from order 0 (length order) ++ cs) (orders-more orders i (omega arith))
    ∙ sym (append_assoc (order_channels_from order 0 (length order)) (order_channels (take i orders)) (order_channels_from (slice_index_or orders i []) 0 (length (slice_index_or orders i [])))))

module _ (net : Net) (orders : List (List ℕ)) where
  more-places : (old new : List Place) (cs ds : List Channel) (more : (ℕ → ℕ) → List Channel) → cs ++ more (phases_in net orders) ≡ ds → Adds net old new more → Holds net orders old cs → Holds net orders new ds
  more-places old new cs ds more same adds holds = record {
    over = adds.over holds.over;
    channels = adds.channels (phases_in net orders) ∙ (ap (λ (xs : List Channel). xs ++ more (phases_in net orders)) holds.channels ∙ same);
  }

  none : Holds net orders [] []
  none = record { over = λ k d below. absurd (omega arith); channels = refl }

  -- those of the file
  pub files-filled : (old new : List Place) → old ≡ [] → Adds net old new (λ phases. map (rephased phases) (with_role is_token_role net.channels)) →
      Holds net orders new (map (rephased (phases_in net orders)) (with_role is_token_role net.channels) ++ owns_from net orders 0 0)
  files-filled old new empty adds = more-places old new [] (map (rephased (phases_in net orders)) (with_role is_token_role net.channels) ++ []) (λ phases. map (rephased phases) (with_role is_token_role net.channels))
      (sym (append-nil (map (rephased (phases_in net orders)) (with_role is_token_role net.channels)))) adds (subst (λ (ps : List Place). Holds net orders ps []) (sym empty) none)

  -- own channels of one actor more
  pub owns-filled : (old new : List Place) (a : ℕ) → Adds net old new (λ phases. own_or_new (map (rephased phases) (with_role (is_own_role a) net.channels)) (is_named orders a) (own_channel a (slice_index net.round a))) →
      Holds net orders old (map (rephased (phases_in net orders)) (with_role is_token_role net.channels) ++ owns_from net orders 0 a) →
      Holds net orders new (map (rephased (phases_in net orders)) (with_role is_token_role net.channels) ++ owns_from net orders 0 (a + 1))
  owns-filled old new a adds holds =
      let z : 0 + a ≡ a = omega arith in
      let more = rw z at (owns-more net orders 0 a) in
      more-places old new (map (rephased (phases_in net orders)) (with_role is_token_role net.channels) ++ owns_from net orders 0 a) (map (rephased (phases_in net orders)) (with_role is_token_role net.channels) ++ owns_from net orders 0 (a + 1))
      (λ phases. own_or_new (map (rephased phases) (with_role (is_own_role a) net.channels)) (is_named orders a) (own_channel a (slice_index net.round a)))
      (append_assoc (map (rephased (phases_in net orders)) (with_role is_token_role net.channels)) (owns_from net orders 0 a) (own_or_new (map (rephased (phases_in net orders)) (with_role (is_own_role a) net.channels)) (is_named orders a) (own_channel a (slice_index net.round a)))
      ∙ ap (λ (xs : List Channel). map (rephased (phases_in net orders)) (with_role is_token_role net.channels) ++ xs) (sym more)) adds holds

  -- free spaces
  pub spaces-filled : (old new : List Place) (n : ℕ) → n ≡ length net.times → Adds net old new (λ phases. map (rephased phases) (with_role is_space_role net.channels)) →
      Holds net orders old (map (rephased (phases_in net orders)) (with_role is_token_role net.channels) ++ owns_from net orders 0 n) →
      Holds net orders new (map (rephased (phases_in net orders)) (with_role is_token_role net.channels) ++ (owns_from net orders 0 (length net.times) ++ (map (rephased (phases_in net orders)) (with_role is_space_role net.channels) ++ order_channels (take 0 orders))))
  spaces-filled old new n all adds holds =
      more-places old new (map (rephased (phases_in net orders)) (with_role is_token_role net.channels) ++ owns_from net orders 0 n)
      (map (rephased (phases_in net orders)) (with_role is_token_role net.channels) ++ (owns_from net orders 0 (length net.times) ++ (map (rephased (phases_in net orders)) (with_role is_space_role net.channels) ++ [])))
      (λ phases. map (rephased phases) (with_role is_space_role net.channels))
      (append_assoc (map (rephased (phases_in net orders)) (with_role is_token_role net.channels)) (owns_from net orders 0 n) (map (rephased (phases_in net orders)) (with_role is_space_role net.channels))
      ∙ ap (λ (xs : List Channel). map (rephased (phases_in net orders)) (with_role is_token_role net.channels) ++ xs)
      (ap (λ (m : ℕ). owns_from net orders 0 m ++ map (rephased (phases_in net orders)) (with_role is_space_role net.channels)) all
      ∙ ap (λ (xs : List Channel). owns_from net orders 0 (length net.times) ++ xs) (sym (append-nil (map (rephased (phases_in net orders)) (with_role is_space_role net.channels)))))) adds holds

  -- order channels of one order more
  pub steps-filled : (old new : List Place) (i : ℕ) → i < length orders → Adds net old new (λ phases. order_channels_from (slice_index_or orders i []) 0 (length (slice_index_or orders i []))) →
      Holds net orders old (map (rephased (phases_in net orders)) (with_role is_token_role net.channels) ++ (owns_from net orders 0 (length net.times) ++ (map (rephased (phases_in net orders)) (with_role is_space_role net.channels) ++ order_channels (take i orders)))) →
      Holds net orders new (map (rephased (phases_in net orders)) (with_role is_token_role net.channels) ++ (owns_from net orders 0 (length net.times) ++ (map (rephased (phases_in net orders)) (with_role is_space_role net.channels) ++ order_channels (take (i + 1) orders))))
  steps-filled old new i below adds holds =
      let a = map (rephased (phases_in net orders)) (with_role is_token_role net.channels) in
      let b = owns_from net orders 0 (length net.times) in
      let c = map (rephased (phases_in net orders)) (with_role is_space_role net.channels) in
      let d = order_channels (take i orders) in
      let e = order_channels_from (slice_index_or orders i []) 0 (length (slice_index_or orders i [])) in
      more-places old new (a ++ (b ++ (c ++ d))) (a ++ (b ++ (c ++ order_channels (take (i + 1) orders)))) (λ phases. order_channels_from (slice_index_or orders i []) 0 (length (slice_index_or orders i [])))
      (append_assoc a (b ++ (c ++ d)) e ∙ ap (λ (xs : List Channel). a ++ xs) (append_assoc b (c ++ d) e ∙ ap (λ (xs : List Channel). b ++ xs) (append_assoc c d e ∙ ap (λ (xs : List Channel). c ++ xs) (sym (orders-more orders i below))))) adds holds

  -- all of them
  pub all-filled : (places : List Place) (i : ℕ) → length orders ≤ i →
      Holds net orders places (map (rephased (phases_in net orders)) (with_role is_token_role net.channels) ++ (owns_from net orders 0 (length net.times) ++ (map (rephased (phases_in net orders)) (with_role is_space_role net.channels) ++ order_channels (take i orders)))) →
      Holds net orders places (ordered net orders).channels
  all-filled places i past holds = subst (λ (os : List (List ℕ)). Holds net orders places (map (rephased (phases_in net orders)) (with_role is_token_role net.channels) ++ (owns_from net orders 0 (length net.times) ++ (map (rephased (phases_in net orders)) (with_role is_space_role net.channels) ++ order_channels os)))) (take_all i orders past) holds
