use Rattle.std.proofs.Common.{◌≡◌, ◌<◌, ◌++◌, ℕ, List, [], ◌∷◌, length, Some, ap, sym, subst, ◌∙◌}
use Rattle.std.specs.Prelude.{slice_index}
use Rattle.sd_base.specs.Net.{Channel, Net, channel_at}
use Rattle.token_matrix.specs.Ways.{IsChain}
use Rattle.entry_ways.specs.inside.Columns.{start_in}
use Rattle.entry_ways.specs.inside.Traces.{AreMarked}
use Rattle.entry_ways.proofs.MarksAddUp.{more-marked, snoc-on}
use Rattle.entry_ways.proofs.WaySteps.{chain-from, chain-on, in-round}
use Rattle.entry_ways.proofs.links.mark_chain.Goals as goal

pub returns-in-Begins : goal.returns-in-Begins
returns-in-Begins g c =
    let net : Net = g.F.Firing.net c.args.chains.now.wired.now.net.now in
    let number : ℕ → ℕ = slice_index c.args.chains.now.firsts.now in
    let p : ℕ = c.args.chains.now.token in
    let link = c.in-Begins.ensures in
    let i : ℕ = link.0 in
    let taken = link.3.2 in
    let inv = c.chain.invariant in
    let chain : IsChain net number p c.chain.actor c.chain.firing c.chain.start (i ∷ []) =
    chain-from net c.know_laws.ensures number p c.args.rows.now c.requires.column c.chain.actor c.chain.firing c.chain.start i taken.0 link.1 link.2 inv.1 taken.1 taken.2 taken.3 link.3.1 in
    let marked : AreMarked (i ∷ []) c.chain.marks c.mark.new.marks = subst (λ (j : ℕ). AreMarked (j ∷ []) c.chain.marks c.mark.new.marks) link.3.0 c.mark.ensures in
    (inv.3.0 ++ (i ∷ []), inv.3.2 (i ∷ []) chain, more-marked inv.3.0 (i ∷ []) c.args.marks.now c.chain.marks c.mark.new.marks inv.3.1 marked)

pub chain-preserved : goal.chain-preserved
chain-preserved g c =
    let net : Net = g.F.Firing.net c.args.chains.now.wired.now.net.now in
    let number : ℕ → ℕ = slice_index c.args.chains.now.firsts.now in
    let p : ℕ = c.args.chains.now.token in
    let link = c.in-Goes.ensures in
    let i : ℕ = link.0 in
    let on : Channel = channel_at net i in
    let k : ℕ = c.in-Goes.producer in
    let d : ℕ = c.in-Goes.earlier in
    let taken = link.3.3 in
    let inv = c.chain.invariant in
    let source : c.source-actor.result ≡ on.source = c.source-actor.ensures ∙ ap (λ (j : ℕ). (channel_at net j).source) link.3.0 in
    let actor : on.source < length net.times = c.know_laws.ensures.sources i link.1 in
    let marked : AreMarked (i ∷ []) c.chain.marks c.mark-in-Goes.new.marks = subst (λ (j : ℕ). AreMarked (j ∷ []) c.chain.marks c.mark-in-Goes.new.marks) link.3.0 c.mark-in-Goes.ensures in (
      subst (λ (a : ℕ). a < length net.times) (sym source) actor,
      subst (λ (a : ℕ). k < slice_index net.round a) (sym source) (in-round net c.know_laws.ensures number p c.args.rows.now c.requires.column on.source k d actor link.3.1),
      subst (λ (a : ℕ). start_in c.args.rows.now a k ≡ Some d) (sym source) link.3.1,
      (
        inv.3.0 ++ (i ∷ []),
        more-marked inv.3.0 (i ∷ []) c.args.marks.now c.chain.marks c.mark-in-Goes.new.marks inv.3.1 marked,
        λ rest chain. (
            let here : IsChain net number p on.source k d rest = subst (λ (a : ℕ). IsChain net number p a k d rest) source chain in
            let more : IsChain net number p c.chain.actor c.chain.firing c.chain.start (i ∷ rest) =
            chain-on net c.know_laws.ensures number p c.args.rows.now c.requires.column c.chain.actor c.chain.firing c.chain.start i k d taken.0 rest
            link.1 link.2 inv.1 taken.1 taken.2 link.3.2 here in
            subst (λ (l : List ℕ). IsChain net number p c.args.actor c.args.firing c.args.start l) (sym (snoc-on inv.3.0 i rest)) (inv.3.2 (i ∷ rest) more)),
      ),
    )
