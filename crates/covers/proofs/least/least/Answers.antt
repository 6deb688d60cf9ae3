use Rattle.std.proofs.Common.{◌≡◌, ◌+◌, ◌≤◌, List, Bool, false, replicate, sym, ap, ◌∙◌, subst, length, rules, arith}
use Rattle.std.specs.Prelude.{All, slice_index_or}
use Rattle.covers.specs.declared.bound.Bound.{Bound}
use Rattle.covers.specs.declared.survey.Toll.{Toll}
use Rattle.covers.specs.Bounds.{IsInForce}
use Rattle.covers.specs.inside.Surveys.{IsTollAt}
use Rattle.covers.specs.inside.Taken.{AreApart}
use Rattle.covers.specs.inside.Ways.{IsToll}
use Rattle.covers.proofs.ApartBoundsAddUp.{IsPaid, paid-all, paid-first, paid-more}
use Rattle.covers.proofs.BoundsNarrowNodes.{covered-here}
use Rattle.covers.proofs.least.least.Goals as goal
use Rattle.covers.proofs.least.least.Goals.{then-is_apart, else-is_apart}

pub loop-toll-init : goal.loop-toll-init
loop-toll-init c =
    let is : c.in_ok-marks.marks.items ≡ replicate c.len.result false = search rules in
    let same : c.as_mut_slice-taken.result.now ≡ c.in_ok-marks.marks.items = c.as_mut_slice-taken.ensures.value in
    record {
      long = search rules;
      paid = paid-first c.args.lattice.now c.args.bounds.now c.args.best.now c.args.node.now c.as_mut_slice-taken.result.now c.len.result c.args.storage (same ∙ is) c.requires.storage;
    }

pub loop-toll-preserved : goal.loop-toll-preserved
loop-toll-preserved c =
    let t : Toll = slice_index_or c.args.tolls.now c.loop-toll.toll-index (record { cost = 0; ways = 0; place = 0 }) in
    let at : IsTollAt c.args.lattice.now c.args.bounds.now c.args.best.now c.args.node.now t = c.requires.tolls c.loop-toll.toll-index (record { cost = 0; ways = 0; place = 0 }) (omega arith) in
    let b : Bound = c.index-bounds-toll.result in
    let is : c.index-bounds-toll.result ≡ slice_index_or c.args.bounds.now t.place c.index-bounds-toll.result = c.index-bounds-toll.is in
    let force : IsInForce c.args.best.now c.index-bounds-toll.result = subst (λ (x : Bound). IsInForce c.args.best.now x) (sym is) (at.holds c.index-bounds-toll.result).force in
    let toll : All (IsToll c.args.lattice.now c.args.node.now t.cost) c.index-bounds-toll.result.caps = subst (λ (x : Bound). All (IsToll c.args.lattice.now c.args.node.now t.cost) x.caps) (sym is) (at.paid c.index-bounds-toll.result) in
    elim c.if-is_apart.branch [
      | then-is_apart w ↦
          (let free : AreApart c.args.lattice.now c.args.node.now c.loop-toll.taken c.index-bounds-toll.result.caps = search rules in
          let less : c.if-is_apart.least ≤ c.loop-toll.least + t.cost = omega (arith, w.least-is, w.saturating_add-least.ensures) in
          record {
            long = ap length w.taken-is ∙ (w.take.auto.taken ∙ c.loop-toll.invariant.long);
            paid = subst (λ (ts : List Bool). IsPaid c.args.lattice.now c.args.bounds.now c.args.best.now c.args.node.now ts c.if-is_apart.least) (sym w.taken-is)
                (paid-more c.args.lattice.now c.args.bounds.now c.args.best.now c.args.node.now c.index-bounds-toll.result c.loop-toll.taken w.take.new.taken c.loop-toll.least t.cost c.if-is_apart.least c.requires.long
                (λ ks h. covered-here c.args.bounds.now c.args.best.now t.place c.index-bounds-toll.result ks at.place is force h) toll free w.take.ensures less c.loop-toll.invariant.paid);
          })
      | else-is_apart w ↦ record { long = search rules; paid = search rules }
    ]

pub returns : goal.returns
returns c = paid-all c.args.lattice.now c.args.bounds.now c.args.best.now c.args.node.now c.loop-toll.taken c.loop-toll.least c.loop-toll.invariant.paid
