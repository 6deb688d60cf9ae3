use Rattle.std.proofs.Common.{◌≡◌, ℕ, ◌<◌, List, length, sym, subst, rules}
use Rattle.std.specs.Prelude.{Bool, true, Some, slice_get, ◌≤◌, sum}
use Rattle.sd_base.specs.Tables.{KeepsRules}
use Rattle.std.proofs.lemmas.Result.{err_from_is_err_and, IfOk-weaker, IfErr-weaker}
use Rattle.sd_base.specs.Net.{IsRepetitionOf}
use Rattle.sd_base.specs.declared.tables.GraphFile.{GraphFile}
use Rattle.balance.specs.declared.walk.Link.{Link}
use Rattle.balance.specs.declared.search.Found.{Found}
use Rattle.balance.specs.declared.ratio.Ratio.{Ratio}
use Rattle.balance.specs.Walks.{links_of}
use Rattle.balance.specs.inside.Search.{HasSums, HasEnds, IsSearched, mark_at}
use Rattle.balance.specs.inside.Ratios.{IsLimitRefusal, IsKeptRefusal, IsRoundRefusal, AreRatios, Keeps}
use Rattle.balance.specs.Repetition.{IsConnected, IsBalanced, IsRound, IsRefusal}
use Rattle.balance.proofs.RulesBoundLinks.{has_sums, has_ends}
use Rattle.balance.proofs.LeastRounds.{ways_within, consistent_from}
use Rattle.balance.proofs.StepsDecide.{connected_from, by_limit, by_kept, by_round}
use Rattle.balance.proofs.within_limits.Goals as goal

-- the tree of the graph's own links
tree_of : (g : GraphFile) (ls : List Link) (found : List Found) (seen : List Bool) → ls ≡ links_of g → IsSearched ls (length g.actors) found seen → IsSearched (links_of g) (length g.actors) found seen
tree_of g ls found seen e tree = subst (λ (xs : List Link). IsSearched xs (length g.actors) found seen) e tree

ratios_of : (g : GraphFile) (ls : List Link) (actors : ℕ) (rs : List Ratio) → ls ≡ links_of g → actors ≡ length g.actors → AreRatios ls actors rs → AreRatios (links_of g) (length g.actors) rs
ratios_of g ls actors rs e size are = subst (λ n. AreRatios (links_of g) n rs) size (subst (λ (xs : List Link). AreRatios xs actors rs) e are)

-- a graph all of whose channels keep the ratios
balanced : (g : GraphFile) (ls : List Link) (found : List Found) (seen : List Bool) (rs read : List Ratio) → KeepsRules g → ls ≡ links_of g → IsSearched ls (length g.actors) found seen
    → ((b : ℕ) → b < length seen → mark_at seen b ≡ true) → AreRatios ls (length seen) rs → read ≡ rs
    → ((k : ℕ) (l : Link) → slice_get ls k ≡ Some l → Keeps read l) → IsBalanced g
balanced g ls found seen rs read rules e tree marked are same keeps =
    let are' = ratios_of g ls (length seen) rs e tree.tree.size are in
    let keeps' : (k : ℕ) (l : Link) → slice_get (links_of g) k ≡ Some l → Keeps rs l =
    λ k l is. subst (λ (t : List Ratio). Keeps t l) same (keeps k l (subst (λ (xs : List Link). slice_get xs k ≡ Some l) (sym e) is)) in
    record {
      connected = connected_from g found seen (tree_of g ls found seen e tree) marked;
      within = ways_within (links_of g) (length g.actors) rs (has_ends g rules) rules.some_actor are';
      consistent = consistent_from (links_of g) (length g.actors) rs (has_sums g rules) are' keeps';
    }

pub ratios-requires-clause-sums : goal.ratios-requires-clause-sums
ratios-requires-clause-sums c = subst (λ (ls : List Link). HasSums ls) (sym c.requires.links) (has_sums c.args.graph.now c.requires.rules)

pub ratios-requires-clause-ends : goal.ratios-requires-clause-ends
ratios-requires-clause-ends c =
    subst (λ n. HasEnds n c.args.links.now) (sym c.requires.tree.tree.size)
    (subst (λ (ls : List Link). HasEnds (length c.args.graph.now.actors) ls) (sym c.requires.links) (has_ends c.args.graph.now c.requires.rules))

pub returns-in_err-ratios-clause-refusal : goal.returns-in_err-ratios-clause-refusal
returns-in_err-ratios-clause-refusal c =
    let g = c.args.graph.now in
    let s = c.args.search.now in
    let all : IsConnected g = connected_from g s.found.items s.seen.items (tree_of g c.args.links.now s.found.items s.seen.items c.requires.links c.requires.tree) c.requires.connected in
    let p = err_from_is_err_and c.from_residual.result c.from_residual.ensures.1 in
    rw (p.1, p.2) (by_limit g all c.in_err-ratios.field-0.0
    (subst (λ (ls : List Link). IsLimitRefusal ls c.in_err-ratios.field-0.0) c.requires.links c.in_err-ratios.ensures.refusal))

pub all_kept-requires-clause-sums : goal.all_kept-requires-clause-sums
all_kept-requires-clause-sums c = subst (λ (ls : List Link). HasSums ls) (sym c.requires.links) (has_sums c.args.graph.now c.requires.rules)

pub all_kept-requires-clause-ends : goal.all_kept-requires-clause-ends
all_kept-requires-clause-ends c =
    subst (λ n. HasEnds n c.args.links.now) (sym c.requires.tree.tree.size)
    (subst (λ (ls : List Link). HasEnds (length c.args.graph.now.actors) ls) (sym c.requires.links) (has_ends c.args.graph.now c.requires.rules))

pub returns-in_err-all_kept-clause-refusal : goal.returns-in_err-all_kept-clause-refusal
returns-in_err-all_kept-clause-refusal c =
    let g = c.args.graph.now in
    let s = c.args.search.now in
    let all : IsConnected g = connected_from g s.found.items s.seen.items (tree_of g c.args.links.now s.found.items s.seen.items c.requires.links c.requires.tree) c.requires.connected in
    let are = ratios_of g c.args.links.now (length s.seen.items) c.in_ok-ratios.ratios.items c.requires.links c.requires.tree.tree.size c.in_ok-ratios.ensures.ok in
    let p = err_from_is_err_and c.from_residual-in_err-all_kept.result c.from_residual-in_err-all_kept.ensures.1 in
    rw (p.1, p.2) (by_kept g all (ways_within (links_of g) (length g.actors) c.in_ok-ratios.ratios.items (has_ends g c.requires.rules) c.requires.rules.some_actor are) c.in_err-all_kept.field-0.0
    (subst (λ (ls : List Link). IsKeptRefusal ls c.in_err-all_kept.field-0.0) c.requires.links c.in_err-all_kept.ensures.refusal))

pub returns-clause-round : goal.returns-clause-round
returns-clause-round c =
    let g = c.args.graph.now in
    let s = c.args.search.now in
    let even = balanced g c.args.links.now s.found.items s.seen.items c.in_ok-ratios.ratios.items c.deref.result.now c.requires.rules c.requires.links c.requires.tree c.requires.connected
    c.in_ok-ratios.ensures.ok c.deref.ensures.value c.in_ok-all_kept.ensures.kept in
    IfOk-weaker c.round.result (λ v. IsRepetitionOf g v × (sum v ≤ 100000)) (IsRound g) (λ v h. record { balanced = even; least = h.0; fits = h.1 }) c.round.ensures.ok

pub returns-clause-refusal : goal.returns-clause-refusal
returns-clause-refusal c =
    let g = c.args.graph.now in
    let s = c.args.search.now in
    let even = balanced g c.args.links.now s.found.items s.seen.items c.in_ok-ratios.ratios.items c.deref.result.now c.requires.rules c.requires.links c.requires.tree c.requires.connected
    c.in_ok-ratios.ensures.ok c.deref.ensures.value c.in_ok-all_kept.ensures.kept in
    IfErr-weaker c.round.result (IsRoundRefusal g) (IsRefusal g) (λ e h. by_round g even e h) c.round.ensures.refusal
