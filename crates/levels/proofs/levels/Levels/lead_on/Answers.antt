use Rattle.std.proofs.Common.{◌<◌, ◌∷◌, [], ℕ, List, Option, length, subst, sym, ap, ◌∙◌, arith}
use Rattle.std.specs.Prelude.{slice_index_or}
use Rattle.std.proofs.lemmas.Result.{err_from_is_err_and}
use Rattle.storage.specs.Distributions.{storage_of}
use Rattle.levels.specs.declared.levels.Bounds.{Bounds}
use Rattle.levels.specs.Visits.{led_by}
use Rattle.levels.specs.Frontiers.{IsOver, Rises}
use Rattle.levels.proofs.VisitsLeadOn.{ends-more, led-all, led-step, part-so-far, rises-part}
use Rattle.levels.proofs.SearchesSpread.{frontier-past, frontier-visit}
use Rattle.levels.proofs.levels.Levels.lead_on.Goals as goal

pub loop-channel-preserved : goal.loop-channel-preserved
loop-channel-preserved g c =
    let ds = c.args.from.now.capacities in
    let xs = c.args.enlarge.now in
    let n = c.loop-channel.channel-index in
    let below : c.loop-channel.channel-index < length c.args.enlarge.now = omega arith in
    let same = c.loop-channel.invariant.4 in
    let more = c.lead_by.ensures.same in (
      λ cs over total rises.
          let mine : Rises cs (led_by c.args.from.now.capacities (slice_index_or c.args.enlarge.now c.loop-channel.channel-index 0 ∷ [])) = rises-part cs ds (slice_index_or xs n 0 ∷ []) xs (λ x has. part-so-far xs n x below has) rises in
          led-step cs c.args.self.now.bounds.total c.loop-channel.self.bounds.total ds c.loop-channel.scratch.capacities xs n c.args.hint c.args.self.now.waiting c.loop-channel.self.waiting c.lead_by.new.self.waiting below
          c.loop-channel.invariant.1 (ap (λ (b : Bounds). b.total) same.bounds) (c.loop-channel.invariant.0 cs over total rises)
          (c.in_ok-scratch-2.ensures.led cs (subst (IsOver cs) (sym same.channels) over) (total ∙ ap (storage_of cs) (sym c.loop-channel.invariant.1))
          (subst (λ (es : List (Option ℕ)). Rises cs (led_by es (slice_index_or c.args.enlarge.now c.loop-channel.channel-index 0 ∷ []))) (sym c.loop-channel.invariant.1) mine)),
      c.in_ok-scratch-2.ensures.back ∙ c.loop-channel.invariant.1,
      omega (arith, c.in_ok-scratch-2.ensures.count, c.loop-channel.invariant.2),
      (let most = ap (λ (b : Bounds). b.distributions) same.bounds in omega (arith, c.in_ok-scratch-2.ensures.few, most)),
      record { channels = more.channels ∙ same.channels; bounds = more.bounds ∙ same.bounds },
    )

pub returns-in_err-scratch-2-clause-spent : goal.returns-in_err-scratch-2-clause-spent
returns-in_err-scratch-2-clause-spent g c =
    let p = err_from_is_err_and c.from_residual-in_err-scratch-2.result c.from_residual-in_err-scratch-2.ensures.1 in
    let ds = c.args.from.now.capacities in
    let xs = c.args.enlarge.now in
    let n = c.loop-channel.channel-index in
    let same = c.loop-channel.invariant.4 in
    rw (p.1, p.2) (λ cs start visits taken f total rises.
    frontier-past cs start c.args.total visits taken (led_by ds xs) c.args.hint c.args.self.now c.in_err-scratch-2.field-0.0 total rises f
    (ends-more c.args.self.now.channels c.loop-channel.self.channels c.args.self.now.bounds c.loop-channel.self.bounds ds c.loop-channel.scratch.capacities xs n c.args.total c.args.hint c.args.self.now.found c.loop-channel.self.found
    c.args.self.now.waiting c.loop-channel.self.waiting c.in_err-scratch-2.field-0.0 (omega arith) c.loop-channel.invariant.1 same.channels same.bounds c.loop-channel.invariant.0 c.loop-channel.invariant.2 c.in_err-scratch-2.ensures.ended))

pub returns-clause-frontier : goal.returns-clause-frontier
returns-clause-frontier g c = λ cs start visits taken f total rises.
    frontier-visit cs start c.args.total visits taken (led_by c.args.from.now.capacities c.args.enlarge.now) c.args.hint c.args.self.now c.loop-channel.self total rises f
    (led-all cs c.args.self.now.bounds.total c.args.from.now.capacities c.args.enlarge.now c.loop-channel.channel-index c.args.hint c.args.self.now.waiting c.loop-channel.self.waiting (omega arith) (c.loop-channel.invariant.0 cs f.over total rises))
    c.loop-channel.invariant.4 c.loop-channel.invariant.2 c.loop-channel.invariant.3
