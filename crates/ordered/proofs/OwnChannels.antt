-- Each actor of several phases of an ordered net has its own channel.
use Rattle.std.proofs.Common.{◌≡◌, ℕ, zero, suc, ◌+◌, ◌%◌, ◌≤◌, ◌<◌, Bool, true, false, List, [], ◌∷◌, ◌++◌, length, map, ⊎_elim, subst, sym, refl, ap, ◌∙◌, arith}
use Rattle.std.proofs.Math.Nat.{mod-lt}
use Rattle.std.specs.Prelude.{slice_index, slice_index_or, ◌==◌, ◌&&◌, if◌then◌else◌}
use Rattle.std.specs.List.{list_any, list_all, range_with_len}
use Rattle.std.specs.Cmp.{first_so, second_so}
use Rattle.std.proofs.lemmas.Bool.{cases_lt, and_from}
use Rattle.std.proofs.lemmas.List.Folds.{list_any_at, list_all-map}
use Rattle.sd_base.specs.declared.role.Role.{Role}
use Rattle.sd_base.specs.declared.role.Role.TheVariants.{Token, Own, Space, Order}
use Rattle.sd_base.specs.Net.{Channel, Net, nowhere, channel_at, phase_entry}
use Rattle.sd_base.specs.FileNet.{own_channel}
use Rattle.sd_base.specs.Lawful.{is_own, is_own_role, is_token_role, Lawful, is_space_role}
use Rattle.sd_base.specs.Schedules.{phases_at}
use Rattle.sd_base.proofs.FileNets.{own-is}
use Rattle.sd_base.proofs.ElementsKeepPlaces.{any-place}
use Rattle.ordered.specs.Orders.{AreOrders}
use Rattle.ordered.specs.OrderedNets.{CanBeOrdered, is_named, phases_in, unrolled, rephased, with_role, own_or_new, owns_from, order_channels, ordered}
use Rattle.ordered.proofs.ChannelsAreKeptOrNew.{Among, among-head, among-left, among-right, Kept, kept-from, kept-in, owns-here}
use Rattle.ordered.proofs.FiringsHaveEntries.{some-phases, whole-phases}
use Rattle.ordered.proofs.GoodChannels.{phases-here}

-- all entries of a list of ones
one-at : (xs : List ℕ) → list_all (λ r. r == 1) xs ≡ true → (i : ℕ) → i < length xs → (slice_index xs i == 1) ≡ true
one-at [] all i below = absurd (omega arith)
one-at (x ∷ xs) all zero below = first_so (x == 1) (list_all (λ r. r == 1) xs) all
one-at (x ∷ xs) all (suc i) below = one-at xs (second_so (x == 1) (list_all (λ r. r == 1) xs) all) i (omega arith)

all-below : (f : ℕ → ℕ) → ((k : ℕ) → (f k == 1) ≡ true) → (a n : ℕ) → list_all (λ k. f k == 1) (range_with_len a n) ≡ true
all-below f each a zero = refl
all-below f each a (suc n) = and_from (f a == 1) (list_all (λ k. f k == 1) (range_with_len (a + 1) n)) (each a) (all-below f each (a + 1) n)

unrolled-ones : (n : ℕ) (xs : List ℕ) → 1 ≤ length xs → list_all (λ r. r == 1) xs ≡ true → list_all (λ r. r == 1) (unrolled n xs) ≡ true
unrolled-ones n xs some all = list_all-map (λ r. r == 1) (phase_entry xs) (range_with_len 0 n) ∙ all-below (phase_entry xs) (λ k. one-at xs all (k % length xs) (mod-lt k (omega arith))) 0 n

-- an own channel is one with more phases too
pub own-rephased : (phases : ℕ → ℕ) (a : ℕ) (c : Channel) → 1 ≤ length c.made → 1 ≤ length c.taken → is_own a c ≡ true → is_own a (rephased phases c) ≡ true
own-rephased phases a c made taken own =
    let role = first_so (is_own_role a c.role) ((c.source == a) && ((c.target == a) && ((c.tokens == 1) && (list_all (λ r. r == 1) c.made && list_all (λ r. r == 1) c.taken)))) own in
    let rest = second_so (is_own_role a c.role) ((c.source == a) && ((c.target == a) && ((c.tokens == 1) && (list_all (λ r. r == 1) c.made && list_all (λ r. r == 1) c.taken)))) own in
    let source = first_so (c.source == a) ((c.target == a) && ((c.tokens == 1) && (list_all (λ r. r == 1) c.made && list_all (λ r. r == 1) c.taken))) rest in
    let more = second_so (c.source == a) ((c.target == a) && ((c.tokens == 1) && (list_all (λ r. r == 1) c.made && list_all (λ r. r == 1) c.taken))) rest in
    let target = first_so (c.target == a) ((c.tokens == 1) && (list_all (λ r. r == 1) c.made && list_all (λ r. r == 1) c.taken)) more in
    let tail = second_so (c.target == a) ((c.tokens == 1) && (list_all (λ r. r == 1) c.made && list_all (λ r. r == 1) c.taken)) more in
    let token = first_so (c.tokens == 1) (list_all (λ r. r == 1) c.made && list_all (λ r. r == 1) c.taken) tail in
    let rates = second_so (c.tokens == 1) (list_all (λ r. r == 1) c.made && list_all (λ r. r == 1) c.taken) tail in
    let ones = unrolled-ones (phases c.source) c.made made (first_so (list_all (λ r. r == 1) c.made) (list_all (λ r. r == 1) c.taken) rates) in
    let also = unrolled-ones (phases c.target) c.taken taken (second_so (list_all (λ r. r == 1) c.made) (list_all (λ r. r == 1) c.taken) rates) in
    rw (role, source, target, token, ones, also) refl

module _ (net : Net) (laws : Lawful net) (can : CanBeOrdered net) (orders : List (List ℕ)) where
  has : (a : ℕ) (c : Channel) → Among (ordered net orders).channels c → is_own a c ≡ true → list_any (is_own a) (ordered net orders).channels ≡ true
  has a c among own = list_any_at (is_own a) (ordered net orders).channels among.place nowhere among.below (ap (is_own a) among.is ∙ own)

  some-made : (i : ℕ) → i < length net.channels → 1 ≤ length (channel_at net i).made
  some-made i below = rw (laws.made_phases i below) (laws.some_phase (channel_at net i).source (laws.sources i below))

  some-taken : (i : ℕ) → i < length net.channels → 1 ≤ length (channel_at net i).taken
  some-taken i below = rw (laws.taken_phases i below) (laws.some_phase (channel_at net i).target (laws.targets i below))

  -- one that the net has
  old : (a i : ℕ) → i < length net.channels → is_own a (channel_at net i) ≡ true → list_any (is_own a) (ordered net orders).channels ≡ true
  old a i below own = has a (rephased (phases_in net orders) (channel_at net i)) (kept-in net orders can i below)
      (own-rephased (phases_in net orders) a (channel_at net i) (some-made i below) (some-taken i below) own)

  own-role : (a : ℕ) (r : Role) → is_own_role a r ≡ true → r ≡ Own a
  own-role a (Token c) is = absurd (cc)
  own-role a (Own b) is = ap Own (Rattle.std.proofs.Common.eqb-true b a is)
  own-role a (Space c) is = absurd (cc)
  own-role a (Order x y) is = absurd (cc)

  of-named : (a : ℕ) → a < length net.times → is_named orders a ≡ true → list_any (is_own a) (ordered net orders).channels ≡ true
  of-named a below is = at (map (rephased (phases_in net orders)) (with_role (is_own_role a) net.channels)) refl
    where
      there : (c : Channel) → Among (own_or_new (map (rephased (phases_in net orders)) (with_role (is_own_role a) net.channels)) (is_named orders a) (own_channel a (slice_index net.round a))) c → Among (ordered net orders).channels c
      there c one = among-right (map (rephased (phases_in net orders)) (with_role is_token_role net.channels))
          (owns_from net orders 0 (length net.times) ++ (map (rephased (phases_in net orders)) (with_role is_space_role net.channels) ++ order_channels orders)) c
          (among-left (owns_from net orders 0 (length net.times)) (map (rephased (phases_in net orders)) (with_role is_space_role net.channels) ++ order_channels orders) c
          (owns-here net orders 0 (length net.times) a c (omega arith) (omega arith) one))

      at : (xs : List Channel) → map (rephased (phases_in net orders)) (with_role (is_own_role a) net.channels) ≡ xs → list_any (is_own a) (ordered net orders).channels ≡ true
      at [] e =
          let one : Among (own_or_new [] true (own_channel a (slice_index net.round a))) (own_channel a (slice_index net.round a)) = among-head (own_channel a (slice_index net.round a)) [] in
          has a (own_channel a (slice_index net.round a)) (there (own_channel a (slice_index net.round a)) (rw (e, is) one)) (own-is a (slice_index net.round a))
      at (x ∷ xs) e =
          let k : Kept (rephased (phases_in net orders)) (is_own_role a) net.channels x = kept-from (rephased (phases_in net orders)) (is_own_role a) net.channels x (rw e (among-head x xs)) in
          let role : (channel_at net k.among.place).role ≡ Own a = ap (λ (c : Channel). c.role) k.among.is ∙ own-role a k.from.role k.role in
          old a k.among.place k.among.below (can.owns k.among.place a k.among.below role).1

  pub own-for : (a : ℕ) → a < length net.times → 2 ≤ phases_in net orders a → list_any (is_own a) (ordered net orders).channels ≡ true
  own-for a below many = at (is_named orders a) refl
    where
      at : (b : Bool) → is_named orders a ≡ b → list_any (is_own a) (ordered net orders).channels ≡ true
      at true is = of-named a below is
      at false is =
          let same : phases_in net orders a ≡ phases_at net a = ap (λ (b : Bool). if b then slice_index net.round a else phases_at net a) is in
          let p = any-place (is_own a) nowhere net.channels (laws.one_by_one a below (omega arith)) in
          old a p.0 p.1 p.2
