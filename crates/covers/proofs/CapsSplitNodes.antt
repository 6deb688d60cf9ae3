-- A node split along a bound, cap by cap.
use Rattle.std.proofs.Common.{◌≡◌, ℕ, ◌+◌, ◌≤◌, ◌<◌, ◌⊎◌, inl, inr, ⊎_elim, List, [], ◌∷◌, ◌++◌, length, take, get_or, min, sym, ap, ◌∙◌, subst, arith}
use Rattle.std.specs.Prelude.{All, slice_index, slice_set}
use Rattle.std.proofs.lemmas.List.Elements.{All-more, All-push, Contains-append_left, Contains-push}
use Rattle.covers.specs.declared.lattice.Lattice.{Lattice}
use Rattle.covers.specs.declared.bound.Cap.{Cap}
use Rattle.covers.specs.declared.node.Node.{Node}
use Rattle.covers.specs.declared.ways.Way.{Way}
use Rattle.covers.specs.Lattices.{IsOnLattice}
use Rattle.covers.specs.Bounds.{IsWithin}
use Rattle.covers.specs.Nodes.{StandsFor}
use Rattle.covers.specs.inside.Ways.{IsInside, IsOpenWay, IsWayOut, StaysWithin}
use Rattle.covers.specs.inside.Rooms.{room, room_of, rooms_of}
use Rattle.covers.specs.inside.Splits.{StandsAmong}
use Rattle.covers.proofs.ChangesKeepOrder.{set-above, set-below, set-on}
use Rattle.covers.proofs.RoomsShrink.{cut, less-room}

-- the node's least vector with the way's capacity
pub record HasGone (old : Node) (w : Way) (new : Node) : Type 0 where
  pub lo : new.lo.items ≡ slice_set old.lo.items w.channel w.capacity
  pub hi : new.hi.items ≡ old.hi.items
  pub least : new.least ≡ old.least

-- the node's greatest vector with at most the cap's capacity
pub record HasStayed (old : Node) (cap : Cap) (new : Node) : Type 0 where
  pub lo : new.lo ≡ old.lo
  pub hi : new.hi.items ≡ slice_set old.hi.items cap.channel (min (slice_index old.hi.items cap.channel) cap.capacity)
  pub least : new.least ≡ old.least

-- what takes the way lies in the node that went it
pub goes : (old new : Node) (w : Way) (ks : List ℕ) → HasGone old w new → StandsFor old ks → w.capacity ≤ slice_index ks w.channel → StandsFor new ks
goes old new w ks gone stands more = record {
  above = subst (λ (xs : List ℕ). (i : ℕ) → slice_index xs i ≤ slice_index ks i) (sym gone.lo) (set-above old.lo.items (λ i. slice_index ks i) w.channel w.capacity stands.above more);
  below = subst (λ (xs : List ℕ). (i : ℕ) → slice_index ks i ≤ slice_index xs i) (sym gone.hi) stands.below;
}

-- and begins on the lattice
pub goes-on : (lattice : Lattice) (old new : Node) (w : Way) → HasGone old w new → IsOpenWay lattice old w → IsOnLattice lattice.axes old.lo.items → IsOnLattice lattice.axes new.lo.items
goes-on lattice old new w gone way on = subst (IsOnLattice lattice.axes) (sym gone.lo) (set-on lattice.axes old.lo.items w.channel w.capacity on way.on)

pub gone-room : (old new : Node) (w : Way) → HasGone old w new → room_of new ≡ room (slice_set old.lo.items w.channel w.capacity) old.hi.items
gone-room old new w gone = ap (λ (xs : List ℕ). room xs new.hi.items) gone.lo ∙ ap (room (slice_set old.lo.items w.channel w.capacity)) gone.hi

-- what of the node keeps to the caps so far lies in the rest, and all else in a child
pub record IsSplitSoFar (lattice : Lattice) (caps : List Cap) (node rest : Node) (children : List Node) : Type 0 where
  pub left : (ks : List ℕ) → IsInside lattice node ks → StandsAmong children ks ⊎ (All (IsWithin ks) caps × StandsFor rest ks)
  pub least : All (λ (n : Node). n.least ≡ node.least) children
  pub on : All (λ (n : Node). IsOnLattice lattice.axes n.lo.items) children
  pub lo : rest.lo ≡ node.lo
  pub same : rest.least ≡ node.least
  pub rooms : rooms_of children + room_of rest ≤ room_of node

stays : (old new : Node) (cap : Cap) (ks : List ℕ) → HasStayed old cap new → StandsFor old ks → IsWithin ks cap → StandsFor new ks
stays old new cap ks stayed stands within = record {
  above = subst (λ (xs : List ℕ). (i : ℕ) → slice_index xs i ≤ slice_index ks i) (sym (ap (λ v. v.items) stayed.lo)) stands.above;
  below = subst (λ (xs : List ℕ). (i : ℕ) → slice_index ks i ≤ slice_index xs i) (sym stayed.hi) (set-below old.hi.items (λ i. slice_index ks i) cap.channel cap.capacity stands.below within);
}

stayed-room : (old new : Node) (cap : Cap) → HasStayed old cap new → room_of new ≡ room old.lo.items (slice_set old.hi.items cap.channel (min (slice_index old.hi.items cap.channel) cap.capacity))
stayed-room old new cap stayed = ap (λ (xs : List ℕ). room xs new.hi.items) (ap (λ v. v.items) stayed.lo) ∙ ap (room old.lo.items) stayed.hi

rooms-push : (ns : List Node) (n : Node) → rooms_of (ns ++ n ∷ []) ≡ rooms_of ns + room_of n
rooms-push [] n = omega arith
rooms-push (m ∷ ns) n = omega (arith, rooms-push ns n)

-- a cap with no way out
pub split-stays : (lattice : Lattice) (caps : List Cap) (i : ℕ) (d : Cap) (node rest new : Node) (children : List Node) → i < length caps → IsSplitSoFar lattice (take i caps) node rest children → StaysWithin lattice rest (get_or caps i d) →
    HasStayed rest (get_or caps i d) new → IsSplitSoFar lattice (take (i + 1) caps) node new children
split-stays lattice caps i d node rest new children below old here stayed = record {
  left = λ ks i'.
      ⊎_elim
      (λ (h : StandsAmong children ks). inl h)
      (λ (h : All (IsWithin ks) (take i caps) × StandsFor rest ks).
      let within : IsWithin ks (get_or caps i d) = here ks (record { among = i'.among; between = h.1 }) in
      inr (All-more (IsWithin ks) caps i d below h.0 within, stays rest new (get_or caps i d) ks stayed h.1 within))
      (old.left ks i');
  least = old.least;
  on = old.on;
  lo = stayed.lo ∙ old.lo;
  same = stayed.least ∙ old.same;
  rooms = omega (arith, old.rooms, stayed-room rest new (get_or caps i d) stayed, less-room rest.lo.items rest.hi.items (get_or caps i d).channel (get_or caps i d).capacity);
}

-- what a child and the rest have room for
parts : (lattice : Lattice) (cap : Cap) (rest child new : Node) (w : Way) → IsOnLattice lattice.axes rest.lo.items → IsWithin rest.lo.items cap → IsWayOut lattice rest cap w → HasGone rest w child → HasStayed rest cap new → room_of child + room_of new ≤ room_of rest
parts lattice cap rest child new w on within out gone stayed =
    let here : new.hi.items ≡ slice_set rest.hi.items w.channel (min (slice_index rest.hi.items w.channel) cap.capacity)
    = subst (λ (c : ℕ). new.hi.items ≡ slice_set rest.hi.items c (min (slice_index rest.hi.items c) cap.capacity)) (sym out.channel) stayed.hi in
    let low : slice_index rest.lo.items w.channel ≤ cap.capacity = subst (λ (c : ℕ). slice_index rest.lo.items c ≤ cap.capacity) (sym out.channel) within in
    let high : w.capacity ≤ slice_index rest.hi.items w.channel = out.room.high in
    let above : cap.capacity < w.capacity = out.above in
    let kept : room_of new ≡ room rest.lo.items (slice_set rest.hi.items w.channel (min (slice_index rest.hi.items w.channel) cap.capacity))
    = ap (λ (xs : List ℕ). room xs new.hi.items) (ap (λ v. v.items) stayed.lo) ∙ ap (room rest.lo.items) here in
    let long : w.channel < length rest.lo.items = omega (arith, on.long, out.room.place) in
    let two = cut rest.lo.items rest.hi.items w.channel w.capacity (min (slice_index rest.hi.items w.channel) cap.capacity) long (least-of _ _ _ low above high) (omega arith) high in
    omega (arith, two, kept, gone-room rest child w gone)
  where
    least-of : (l x h : ℕ) {v : ℕ} → l ≤ x → x < v → v ≤ h → l ≤ min h x
    least-of l x h a b c = omega arith

-- a cap with a way out, which a child goes
pub split-goes : (lattice : Lattice) (caps : List Cap) (i : ℕ) (d : Cap) (node rest child new : Node) (w : Way) (children : List Node) → i < length caps → IsOnLattice lattice.axes node.lo.items → IsWithin node.lo.items (get_or caps i d) →
    IsSplitSoFar lattice (take i caps) node rest children → IsWayOut lattice rest (get_or caps i d) w → HasGone rest w child → HasStayed rest (get_or caps i d) new → IsSplitSoFar lattice (take (i + 1) caps) node new (children ++ child ∷ [])
split-goes lattice caps i d node rest child new w children below on covers old out gone stayed =
    let same : rest.lo.items ≡ node.lo.items = ap (λ v. v.items) old.lo in
    let on' : IsOnLattice lattice.axes rest.lo.items = subst (IsOnLattice lattice.axes) (sym same) on in
    let within : IsWithin rest.lo.items (get_or caps i d) = subst (λ (xs : List ℕ). IsWithin xs (get_or caps i d)) (sym same) covers in
    record {
      left = λ ks i'.
          ⊎_elim
          (λ (h : StandsAmong children ks). inl (h.0, Contains-append_left children (child ∷ []) h.0 h.1, h.2))
          (λ (h : All (IsWithin ks) (take i caps) × StandsFor rest ks).
          ⊎_elim
          (λ (less : IsWithin ks (get_or caps i d)). inr (All-more (IsWithin ks) caps i d below h.0 less, stays rest new (get_or caps i d) ks stayed h.1 less))
          (λ (more : w.capacity ≤ slice_index ks w.channel). inl (child, Contains-push children child, goes rest child w ks gone h.1 more))
          (out.taken ks (record { among = i'.among; between = h.1 })))
          (old.left ks i');
      least = All-push (λ (n : Node). n.least ≡ node.least) children child old.least (gone.least ∙ old.same);
      on = All-push (λ (n : Node). IsOnLattice lattice.axes n.lo.items) children child old.on (goes-on lattice rest child w gone out.room on');
      lo = stayed.lo ∙ old.lo;
      same = stayed.least ∙ old.same;
      rooms = omega (arith, old.rooms, rooms-push children child, parts lattice (get_or caps i d) rest child new w on' within out gone stayed);
    }
