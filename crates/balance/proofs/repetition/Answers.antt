use Rattle.std.proofs.Common.{◌≡◌, ◌<◌, List, length, sym, subst, ◌∙◌, Bool, true, false}
use Rattle.balance.specs.declared.walk.Link.{Link}
use Rattle.balance.specs.Walks.{links_of}
use Rattle.balance.specs.inside.Search.{HasEnds, IsSearched, mark_at}
use Rattle.balance.proofs.RulesBoundLinks.{has_ends}
use Rattle.balance.proofs.StepsDecide.{apart_from}
use Rattle.balance.proofs.repetition.Goals as goal

pub ways-requires-clause-ends : goal.ways-requires-clause-ends
ways-requires-clause-ends c =
    let e = c.deref.ensures.value ∙ c.in_ok-links.ensures in
    subst (λ n. HasEnds n c.deref.result.now) (sym c.len.ensures) (subst (λ (ls : List Link). HasEnds (length c.args.graph.now.actors) ls) (sym e) (has_ends c.args.graph.now c.requires))

pub returns-in-Some-clause-refusal : goal.returns-in-Some-clause-refusal
returns-in-Some-clause-refusal c =
    let e = c.deref.ensures.value ∙ c.in_ok-links.ensures in
    let s = c.in_ok-search.search in
    let tree : IsSearched (links_of c.args.graph.now) (length c.args.graph.now.actors) s.found.items s.seen.items =
    subst (λ n. IsSearched (links_of c.args.graph.now) n s.found.items s.seen.items) c.len.ensures
    (subst (λ (ls : List Link). IsSearched ls c.len.result s.found.items s.seen.items) e c.in_ok-search.ensures) in
    let (lt, off, before) = c.in-Some.ensures in
    let m = c.deref-2.ensures.value in
    apart_from c.args.graph.now s.found.items s.seen.items c.in-Some.b tree
    (subst (λ (bs : List Bool). c.in-Some.b < length bs) m lt)
    (subst (λ (bs : List Bool). mark_at bs c.in-Some.b ≡ false) m off)
    (λ k below. subst (λ (bs : List Bool). mark_at bs k ≡ true) m (before k below))
