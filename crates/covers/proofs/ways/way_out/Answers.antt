use Rattle.std.proofs.Common.{◌≡◌, ◌-◌, ◌*◌, ◌<◌, ℕ, None, List, refl, ap, ◌∙◌, subst, rules, arith}
use Rattle.std.specs.Prelude.{slice_index}
use Rattle.covers.proofs.WaysLeadOut.{next-taken, on-axis-at, stays-axis, stays-limit, toll-paid}
use Rattle.covers.proofs.ways.way_out.Goals as goal

pub returns-in_default-next : goal.returns-in_default-next
returns-in_default-next c =
    let high : c.capacity_at-high.result ≡ slice_index c.args.node.now.hi.items c.args.cap.channel = c.capacity_at-high.ensures ∙ ap (λ (xs : List ℕ). slice_index xs c.args.cap.channel) c.as_slice.ensures.value in
    let gone : c.next.result ≡ None = search rules in
    let most = rw gone at c.next.ensures in
    stays-axis c.args.lattice.now c.args.node.now c.args.cap c.in-Some.axis c.in-Some.ensures.0 c.in-Some.ensures.1 (λ k on le. most k on (omega (arith, high, le)))

pub returns-in_default-product_within : goal.returns-in_default-product_within
returns-in_default-product_within c =
    let v = c.in-Some-next.capacity in
    let low : c.capacity_at-low.result ≡ slice_index c.args.node.now.lo.items c.args.cap.channel = c.capacity_at-low.ensures ∙ ap (λ (xs : List ℕ). slice_index xs c.args.cap.channel) c.as_slice-2.ensures.value in
    let more : c.saturating_sub-more.result ≡ c.in-Some-next.capacity - slice_index c.args.node.now.lo.items c.args.cap.channel = omega (arith, c.saturating_sub-more.ensures, low) in
    let gone : c.product_within.result ≡ None = search rules in
    let dear = rw gone at c.product_within.ensures in
    stays-limit c.args.lattice.now c.args.node.now c.args.cap c.in-Some.axis v c.args.storage c.in-Some.ensures.0 c.in-Some.ensures.1 c.in-Some-next.ensures.0 c.requires.storage c.requires.within
    (subst (λ (m : ℕ). c.args.lattice.now.limit - c.args.storage < m * c.in-Some.axis.size) more dear)

pub returns : goal.returns
returns c =
    let v = c.in-Some-next.capacity in
    let high : c.capacity_at-high.result ≡ slice_index c.args.node.now.hi.items c.args.cap.channel = c.capacity_at-high.ensures ∙ ap (λ (xs : List ℕ). slice_index xs c.args.cap.channel) c.as_slice.ensures.value in
    let low : c.capacity_at-low.result ≡ slice_index c.args.node.now.lo.items c.args.cap.channel = c.capacity_at-low.ensures ∙ ap (λ (xs : List ℕ). slice_index xs c.args.cap.channel) c.as_slice-2.ensures.value in
    let more : c.saturating_sub-more.result ≡ c.in-Some-next.capacity - slice_index c.args.node.now.lo.items c.args.cap.channel = omega (arith, c.saturating_sub-more.ensures, low) in
    let below = c.in-Some.ensures.0 in
    let is = c.in-Some.ensures.1 in
    let next = c.in-Some-next.ensures.0 in
    record {
      channel = refl;
      above = next.above;
      room = record {
        place = c.in-Some.ensures.0;
        high = omega (arith, high, c.in-Some-next.ensures.1);
        on = λ a. on-axis-at c.args.lattice.now.axes c.args.cap.channel c.in-Some.axis a v c.in-Some.ensures.0 c.in-Some.ensures.1 c.in-Some-next.ensures.0.on;
      };
      taken = next-taken c.args.lattice.now c.args.node.now c.args.cap c.in-Some.axis v c.in-Some.ensures.0 c.in-Some.ensures.1 c.in-Some-next.ensures.0;
      toll = toll-paid c.args.lattice.now c.args.node.now c.args.cap c.in-Some.axis v c.in-Some-product_within.cost c.in-Some.ensures.0 c.in-Some.ensures.1 c.in-Some-next.ensures.0
          (c.in-Some-product_within.ensures.0 ∙ ap (λ (m : ℕ). m * c.in-Some.axis.size) more);
    }
