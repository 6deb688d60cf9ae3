use Rattle.std.proofs.Common.{◌≡◌, ◌+◌, inl, inr, ⊎_elim, None, List, sym, ap, ◌∙◌, subst, take, rules, arith}
use Rattle.std.specs.Prelude.{ℕ, All, slice_set}
use Rattle.covers.specs.declared.node.Node.{Node}
use Rattle.covers.specs.Bounds.{IsWithin}
use Rattle.covers.specs.Nodes.{StandsFor}
use Rattle.covers.specs.inside.Splits.{StandsAmong}
use Rattle.covers.proofs.ChangesKeepOrder.{all-done}
use Rattle.covers.proofs.RoomsShrink.{some-room}
use Rattle.covers.proofs.CapsSplitNodes.{HasGone, IsSplitSoFar, split-goes, split-stays}
use Rattle.covers.proofs.split.split.Goals as goal
use Rattle.covers.proofs.split.split.Goals.{in-Some+in_ok-child+in_ok-push, in_default}

pub loop-cap-preserved : goal.loop-cap-preserved
loop-cap-preserved c =
    let lattice = c.args.lattice.now in
    let caps = c.as_slice-cap-items.result.now in
    let i = c.loop-cap.cap-index in
    let P = λ (ns : List Node). IsSplitSoFar c.args.lattice.now (take (c.loop-cap.cap-index + 1) c.as_slice-cap-items.result.now) c.args.node c.stay.new.self ns in
    elim c.match-way_out.branch [
      | in-Some+in_ok-child+in_ok-push w ↦
          (let gone : HasGone c.loop-cap.rest w.in-Some.way w.go.new.self = record {
            lo = w.go.ensures.lo ∙ ap (λ (xs : List ℕ). slice_set xs w.in-Some.way.channel w.in-Some.way.capacity) w.in_ok-child.ensures.lo;
            hi = ap (λ v. v.items) w.go.ensures.hi ∙ w.in_ok-child.ensures.hi;
            least = w.go.ensures.least ∙ w.in_ok-child.ensures.least;
          } in
          subst P (sym (ap (λ v. v.items) w.children-is ∙ w.in_ok-push.ensures.items))
          (split-goes lattice caps i _ c.args.node c.loop-cap.rest w.go.new.self c.stay.new.self w.in-Some.way c.loop-cap.children.items (omega arith) c.requires.on
          (subst (All (IsWithin c.args.node.lo.items)) (sym c.as_slice-cap-items.ensures) c.requires.covers c.loop-cap.cap-index _ (omega arith))
          c.loop-cap.invariant w.in-Some.ensures gone (record { lo = c.stay.ensures.lo; hi = c.stay.ensures.hi; least = c.stay.ensures.least })))
      | in_default w ↦ subst P (sym (ap (λ v. v.items) w.children-is))
          (let gone : c.way_out.result ≡ None = search rules in
          let here = rw gone at c.way_out.ensures in
          split-stays lattice caps i _ c.args.node c.loop-cap.rest c.stay.new.self c.loop-cap.children.items (omega arith) c.loop-cap.invariant here (record { lo = c.stay.ensures.lo; hi = c.stay.ensures.hi; least = c.stay.ensures.least }))
    ]

pub returns : goal.returns
returns c = record {
  left = λ ks i.
      ⊎_elim
      (λ (h : StandsAmong c.loop-cap.children.items ks). inr h)
      (λ (h : All (IsWithin ks) (take c.loop-cap.cap-index c.as_slice-cap-items.result.now) × StandsFor c.loop-cap.rest ks).
      inl (all-done (IsWithin ks) c.as_slice-cap-items.result.now c.args.bound.now.caps c.loop-cap.cap-index c.as_slice-cap-items.ensures (omega arith) h.0))
      (c.loop-cap.invariant.left ks i);
  least = c.loop-cap.invariant.least;
  on = c.loop-cap.invariant.on;
  less = omega (arith, c.loop-cap.invariant.rooms, some-room c.loop-cap.rest.lo.items c.loop-cap.rest.hi.items);
}
