-- The net of a net whose actors keep orders.
use Rattle.std.specs.Prelude.{◌≡◌, ℕ, zero, suc, pred, ◌+◌, ◌<◌, Bool, true, false, ◌&&◌, List, [], ◌∷◌, ◌++◌, length, map, slice_index, slice_index_or, replicate, ◌==◌, if◌then◌else◌}
use Rattle.std.specs.List.{list_any, range_with_len}
use Rattle.sd_base.specs.declared.role.Role.{Role}
use Rattle.sd_base.specs.declared.role.Role.TheVariants.{Token, Own, Space, Order}
use Rattle.sd_base.specs.Net.{Channel, Net, channel_at, phase_entry}
use Rattle.sd_base.specs.Schedules.{phases_at}
use Rattle.sd_base.specs.FileNet.{own_channel}
use Rattle.sd_base.specs.Lawful.{is_token_role, is_own, is_own_role, is_order_role, is_space_role}
use Rattle.ordered.specs.Orders.{entry_at, how_many, one_if}

-- no channel of the net is an order channel, and each own channel keeps the firings of its actor apart
pub record CanBeOrdered (net : Net) : Type 0 where
  pub orderless : (i : ℕ) → i < length net.channels → is_order_role (channel_at net i).role ≡ false
  pub owns : (i a : ℕ) → i < length net.channels → (channel_at net i).role ≡ Own a → (a < length net.times) × (is_own a (channel_at net i) ≡ true)

-- some order has an entry of actor a
abbrev pub is_named : List (List ℕ) → ℕ → Bool
is_named orders a = list_any (λ order. list_any (λ b. b == a) order) orders

-- an actor of an order has a phase for each firing of a round, and each other one as many as before
abbrev pub phases_in : Net → List (List ℕ) → ℕ → ℕ
phases_in net orders a = if is_named orders a then slice_index net.round a else phases_at net a

-- n numbers: those of a list, which is gone through again and again
abbrev pub unrolled : ℕ → List ℕ → List ℕ
unrolled n xs = map (phase_entry xs) (range_with_len 0 n)

-- a channel whose ends have so many phases, by actor
abbrev pub rephased : (ℕ → ℕ) → Channel → Channel
rephased phases c = record {
  source = c.source;
  target = c.target;
  made = unrolled (phases c.source) c.made;
  taken = unrolled (phases c.target) c.taken;
  tokens = c.tokens;
  size = c.size;
  role = c.role;
}

-- the channels whose role passes a test
abbrev pub with_role : (Role → Bool) → List Channel → List Channel
with_role test [] = []
with_role test (c ∷ cs) = if test c.role then c ∷ with_role test cs else with_role test cs

-- of n entries from m on, those of actor a: 1 where the place passes a test, else 0
abbrev pub picked : List ℕ → ℕ → (ℕ → Bool) → ℕ → ℕ → List ℕ
picked order a test m zero = []
picked order a test m (suc n) = if entry_at order m == a then one_if (test m) ∷ picked order a test (suc m) n else picked order a test (suc m) n

-- the entry that comes before entry m, a round later
abbrev pub before : List ℕ → ℕ → ℕ
before order m = m + pred (length order)

-- entry m is of x, and the one after it of y
abbrev pub leads : List ℕ → ℕ → ℕ → ℕ → Bool
leads order x y m = (entry_at order m == x) && (entry_at order (suc m) == y)

-- the order channel from x to y: a firing of x makes a token where the entry after its own is of y, and one of y takes one
-- where the entry before its own is of x; a token is there where the last entry is of x and the first of y
abbrev pub order_channel : List ℕ → ℕ → ℕ → Channel
order_channel order x y = record {
  source = x;
  target = y;
  made = picked order x (λ m. entry_at order (suc m) == y) 0 (length order);
  taken = picked order y (λ m. entry_at order (before order m) == x) 0 (length order);
  tokens = one_if (leads order x y (before order 0));
  size = 1;
  role = Order x y;
}

-- how often y comes after x among the first m entries
abbrev pub led : List ℕ → ℕ → ℕ → ℕ → ℕ
led order x y m = how_many (leads order x y) m

-- of n entries from m on, those whose actor has the one after it for the first time: an order channel each
abbrev pub order_channels_from : List ℕ → ℕ → ℕ → List Channel
order_channels_from order m zero = []
order_channels_from order m (suc n) =
    if led order (entry_at order m) (entry_at order (suc m)) m == 0
    then order_channel order (entry_at order m) (entry_at order (suc m)) ∷ order_channels_from order (suc m) n
    else order_channels_from order (suc m) n

-- the order channels of orders
abbrev pub order_channels : List (List ℕ) → List Channel
order_channels [] = []
order_channels (order ∷ orders) = order_channels_from order 0 (length order) ++ order_channels orders

-- the own channel that an actor has, or one that it gets
abbrev pub own_or_new : List Channel → Bool → Channel → List Channel
own_or_new [] true new = new ∷ []
own_or_new [] false new = []
own_or_new (c ∷ cs) named new = c ∷ cs

-- the own channels of n actors from a on
abbrev pub owns_from : Net → List (List ℕ) → ℕ → ℕ → List Channel
owns_from net orders a zero = []
owns_from net orders a (suc n) =
    own_or_new (map (rephased (phases_in net orders)) (with_role (is_own_role a) net.channels)) (is_named orders a) (own_channel a (slice_index net.round a))
    ++ owns_from net orders (suc a) n

-- the net with an order channel for each pair of neighbours: the channels of the file, own channels by actor, free spaces,
-- and order channels
abbrev pub ordered : Net → List (List ℕ) → Net
ordered net orders = record {
  times = map (λ a. unrolled (phases_in net orders a) (slice_index_or net.times a [])) (range_with_len 0 (length net.times));
  channels = map (rephased (phases_in net orders)) (with_role is_token_role net.channels)
      ++ (owns_from net orders 0 (length net.times)
      ++ (map (rephased (phases_in net orders)) (with_role is_space_role net.channels) ++ order_channels orders));
  round = net.round;
}
