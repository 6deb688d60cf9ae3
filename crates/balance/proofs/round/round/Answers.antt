use Rattle.std.proofs.Common.{◌≡◌, ◌<◌, ◌≤◌, List, ℕ, length, sum, ap, subst, sym, arith}
use Rattle.sd_base.specs.Net.{IsRepetitionOf}
use Rattle.balance.specs.Walks.{links_of}
use Rattle.balance.proofs.LeastRounds.{common_exists, dens_pos, round_exists, round_is, round_above, all_small, round_fits}
use Rattle.balance.proofs.round.round.Goals as goal

pub common_den-requires : goal.common_den-requires
common_den-requires c = all_small (links_of c.args.graph.now) (length c.args.graph.now.actors) c.args.ratios.now c.requires.rated

pub returns-in_default-clause-refusal : goal.returns-in_default-clause-refusal
returns-in_default-clause-refusal c =
    let g = c.args.graph.now in
    let rs = c.args.ratios.now in
    let (m, common) = common_exists rs (dens_pos (links_of g) (length g.actors) rs c.requires.rated) in
    let (v, by) = round_exists g rs m in
    let above : 100000 < m = c.in_default.ensures m common.some common.all in
    let le : m ≤ sum v = round_above g c.requires.rules rs m v c.requires.rated by in
    (v, round_is g c.requires.rules rs m v c.requires.rated common c.requires.kept by, omega arith)

pub firings-requires-clause-small : goal.firings-requires-clause-small
firings-requires-clause-small c = all_small (links_of c.args.graph.now) (length c.args.graph.now.actors) c.args.ratios.now c.requires.rated

pub total-requires : goal.total-requires
total-requires c =
    let fits = round_fits c.args.graph.now c.requires.rules c.args.ratios.now c.in-Some.cycles c.in_ok-round.round.items c.requires.rated c.in-Some.ensures.1 c.in_ok-round.ensures in
    let e : sum c.deref.result.now ≡ sum c.in_ok-round.round.items = ap sum c.deref.ensures.value in
    omega arith

pub returns-then-total-gt-ROUND-clause-refusal : goal.returns-then-total-gt-ROUND-clause-refusal
returns-then-total-gt-ROUND-clause-refusal c =
    let e : sum c.deref.result.now ≡ sum c.in_ok-round.round.items = ap sum c.deref.ensures.value in
    let above = c.if-total-gt-ROUND.true in
    let is = c.total.ensures in (
      c.in_ok-round.round.items,
      round_is c.args.graph.now c.requires.rules c.args.ratios.now c.in-Some.cycles c.in_ok-round.round.items c.requires.rated c.in-Some.ensures.0 c.requires.kept c.in_ok-round.ensures,
      omega arith,
    )

pub returns-clause-ok : goal.returns-clause-ok
returns-clause-ok c =
    let v = c.in_ok-round.round.items in
    let e : sum c.deref.result.now ≡ sum v = ap sum c.deref.ensures.value in
    let low = c.if-total-gt-ROUND.false in
    let is = c.total.ensures in
    let le : sum v ≤ 100000 = omega arith in
    let least : IsRepetitionOf c.args.graph.now v =
    round_is c.args.graph.now c.requires.rules c.args.ratios.now c.in-Some.cycles v c.requires.rated c.in-Some.ensures.0 c.requires.kept c.in_ok-round.ensures in
    subst (λ (t : List ℕ). IsRepetitionOf c.args.graph.now t × (sum t ≤ 100000)) (sym c.from_vec.ensures) (least, le)
