-- How the number of vectors that nodes have room for falls.
use Rattle.std.proofs.Common.{◌≡◌, ℕ, zero, suc, ◌+◌, ◌-◌, ◌*◌, ◌≤◌, ◌<◌, List, [], ◌∷◌, length, min, ap, ◌∙◌, arith}
use Rattle.std.specs.Prelude.{All, slice_index, slice_set}
use Rattle.std.proofs.Math.Nat.{mul-le-mul_right, mul-le-mul_left}
use Rattle.std.proofs.lemmas.List.Elements.{All-head, All-tail}
use Rattle.std.specs.declared.cmp.Ordering.{Ordering}
use Rattle.std.specs.declared.cmp.Ordering.TheVariants.{Less, Equal, Greater}
use Rattle.std.specs.Ordering.{match_ordering}
use Rattle.std.specs.BTreeSet.{insert_key}
use Rattle.covers.specs.declared.node.Node.{Node}
use Rattle.covers.specs.inside.NodeOrder.{node_cmp}
use Rattle.covers.specs.inside.Rooms.{room, room_of, rooms_of, weight, weight_of}
use Rattle.covers.specs.inside.Keeping.{put_all}

pub some-room : (ls hs : List ℕ) → 1 ≤ room ls hs
some-room [] hs = omega arith
some-room (l ∷ ls) [] = omega arith
some-room (l ∷ ls) (h ∷ hs) = omega (arith, mul-le-mul_right (room ls hs) (one (h - l)), some-room ls hs)
  where
    one : (x : ℕ) → 1 ≤ x + 1
    one x = omega arith

-- a node cut in two along a channel: what has at least v there, and what has at most x
pub cut : (ls hs : List ℕ) (c v x : ℕ) → c < length ls → slice_index ls c ≤ x → x < v → v ≤ slice_index hs c → room (slice_set ls c v) hs + room ls (slice_set hs c x) ≤ room ls hs
cut [] hs c v x below low mid high = absurd (omega arith)
cut (l ∷ ls) [] c v x below low mid high = absurd (omega arith)
cut (l ∷ ls) (h ∷ hs) zero v x below low mid high =
    let rest = room ls hs in
    let sum : (h - v + 1) + (x - l + 1) ≤ h - l + 1 = omega arith in
    omega (arith, mul-le-mul_right (room ls hs) sum)
cut (l ∷ ls) (h ∷ hs) (suc c) v x below low mid high =
    let rest : room (slice_set ls c v) hs + room ls (slice_set hs c x) ≤ room ls hs = cut ls hs c v x (omega arith) low mid high in
    omega (arith, mul-le-mul_left (h - l + 1) rest)

-- less room for less above
pub less-room : (ls hs : List ℕ) (c x : ℕ) → room ls (slice_set hs c (min (slice_index hs c) x)) ≤ room ls hs
less-room [] hs c x = omega arith
less-room (l ∷ ls) [] c x = omega arith
less-room (l ∷ ls) (h ∷ hs) zero x =
    let less : min h x - l + 1 ≤ h - l + 1 = omega arith in
    mul-le-mul_right (room ls hs) less
less-room (l ∷ ls) (h ∷ hs) (suc c) x = mul-le-mul_left (h - l + 1) (less-room ls hs c x)

-- and for more below
pub narrower : (ls hs : List ℕ) (c v : ℕ) → c < length ls → slice_index ls c < v → v ≤ slice_index hs c → room (slice_set ls c v) hs < room ls hs
narrower ls hs c v below low high = omega (arith, cut ls hs c v (slice_index ls c) below (omega arith) low high, some-room ls (slice_set hs c (slice_index ls c)))

-- the weight of a node that is put in

pub insert-weight : (limit : ℕ) (ns : List Node) (k : Node) → weight_of limit (insert_key node_cmp ns k) ≤ weight limit k + weight_of limit ns
insert-weight limit [] k = omega arith
insert-weight limit (x ∷ ns) k = at (node_cmp k x) (insert-weight limit ns k)
  where
    at : (o : Ordering) → weight_of limit (insert_key node_cmp ns k) ≤ weight limit k + weight_of limit ns → weight_of limit (match_ordering o (k ∷ x ∷ ns) (x ∷ ns) (x ∷ insert_key node_cmp ns k)) ≤ weight limit k + weight_of limit (x ∷ ns)
    at Less rest = omega arith
    at Equal rest = omega arith
    at Greater rest = omega (arith, rest)

pub put-weight : (limit : ℕ) (nodes ns : List Node) → weight_of limit (put_all nodes ns) ≤ weight_of limit nodes + weight_of limit ns
put-weight limit [] ns = omega arith
put-weight limit (n ∷ nodes) ns = omega (arith, put-weight limit nodes (insert_key node_cmp ns n), insert-weight limit ns n)

-- the room that is lost outweighs all that is known of a least

lighter : (limit a b least : ℕ) → a < b → least ≤ limit → a * (limit + 1) - least < b * (limit + 1) - least
lighter limit a b least less within =
    let more : (a + 1) * (limit + 1) ≤ b * (limit + 1) = mul-le-mul_right (limit + 1) (omega arith) in
    omega (arith, more)

pub raised-weight : (limit : ℕ) (n m : Node) → m.lo ≡ n.lo → m.hi ≡ n.hi → n.least < m.least → n.least ≤ limit → weight limit m < weight limit n
raised-weight limit n m lo hi more within =
    let same : room_of m ≡ room_of n = ap (λ (v : List ℕ). room v m.hi.items) (ap (λ w. w.items) lo) ∙ ap (λ (v : List ℕ). room n.lo.items v) (ap (λ w. w.items) hi) in
    let product : room_of m * (limit + 1) ≡ room_of n * (limit + 1) = ap (λ (r : ℕ). r * (limit + 1)) same in
    let some : 1 * (limit + 1) ≤ room_of n * (limit + 1) = mul-le-mul_right (limit + 1) (some-room n.lo.items n.hi.items) in
    omega (arith, product, some)

pub narrow-weight : (limit : ℕ) (n m : Node) → room_of m < room_of n → m.least ≡ n.least → n.least ≤ limit → weight limit m < weight limit n
narrow-weight limit n m less same within =
    let fall : room_of m * (limit + 1) - n.least < room_of n * (limit + 1) - n.least = lighter limit (room_of m) (room_of n) n.least less within in
    omega (arith, fall, same)

children-weight : (limit least : ℕ) (ns : List Node) → All (λ (n : Node). n.least ≡ least) ns → weight_of limit ns ≤ rooms_of ns * (limit + 1) - least
children-weight limit least [] all = omega arith
children-weight limit least (n ∷ ns) all =
    let first : n.least ≡ least = All-head (λ (m : Node). m.least ≡ least) n ns all in
    let rest : weight_of limit ns ≤ rooms_of ns * (limit + 1) - least = children-weight limit least ns (All-tail (λ (m : Node). m.least ≡ least) n ns all) in
    omega (arith, first, rest)

pub split-weight : (limit : ℕ) (n : Node) (children : List Node) → All (λ (m : Node). m.least ≡ n.least) children → rooms_of children < room_of n → n.least ≤ limit → weight_of limit children < weight limit n
split-weight limit n children all less within =
    omega (arith, children-weight limit n.least children all, lighter limit (rooms_of children) (room_of n) n.least less within)
