use Rattle.std.proofs.Common.{◌≡◌, List, [], ◌∷◌, ◌++◌, ap, ◌∙◌, map, subst}
use Rattle.std.proofs.lemmas.List.Elements.{All-tail}
use Rattle.covers.specs.declared.node.Node.{Node}
use Rattle.covers.specs.Nodes.{IsProper}
use Rattle.covers.specs.Searches.{IsSame}
use Rattle.covers.specs.inside.Keeping.{IsGathered}
use Rattle.covers.proofs.FoundNodesDecide.{levelled, row, searched-again, searched-kept, settled-past, some-found}
use Rattle.covers.proofs.NoVectorIsLost.{enough-same, proper-same, same-trans}
use Rattle.covers.proofs.search.Search.level.Goals as goal

pub returns-in_default-clause-searched : goal.returns-in_default-clause-searched
returns-in_default-clause-searched c =
    let none = rw c.in_default.is at c.in_ok-first.ensures.next in
    searched-kept c.args.self.now c.next.new.self c.in_ok-first.ensures.same none.0 c.requires.searched

pub returns-in_default-clause-answer : goal.returns-in_default-clause-answer
returns-in_default-clause-answer c =
    let none = rw c.in_default.is at c.in_ok-first.ensures.next in
    settled-past c.args.self.now c.next.new.self c.in_ok-first.ensures.same none.0 none.1 c.requires.searched

pub gather-requires-clause-proper : goal.gather-requires-clause-proper
gather-requires-clause-proper c =
    let next = rw c.in-Some.is at c.in_ok-first.ensures.next in
    proper-same c.args.self.now c.next.new.self c.next.new.self.open.keys c.in_ok-first.ensures.same
    (All-tail (IsProper c.args.self.now.lattice c.args.self.now.order) c.in-Some.first c.next.new.self.open.keys (next.kept.proper c.requires.searched.proper))

pub gather-requires-clause-enough : goal.gather-requires-clause-enough
gather-requires-clause-enough c = enough-same c.args.self.now c.next.new.self c.in_ok-first.ensures.same c.requires.searched.acting

pub returns-clause-searched : goal.returns-clause-searched
returns-clause-searched c =
    let next = rw c.in-Some.is at c.in_ok-first.ensures.next in
    let one : c.push.new.self.items ≡ c.in-Some.first ∷ [] = c.in_ok-push.ensures.items ∙ ap (λ (ns : List Node). ns ++ c.in-Some.first ∷ []) c.new-found.ensures.items in
    let gathered : IsGathered c.next.new.self c.in-Some.first.least c.args.most (c.in-Some.first ∷ []) c.gather.new.found.items c.gather.new.self
    = subst (λ (ns : List Node). IsGathered c.next.new.self c.in-Some.first.least c.args.most ns c.gather.new.found.items c.gather.new.self) one c.in_ok-gather.ensures.gathered in
    let same : IsSame c.args.self.now c.open_all.new.self
    = same-trans c.args.self.now c.next.new.self c.open_all.new.self c.in_ok-first.ensures.same (same-trans c.next.new.self c.gather.new.self c.open_all.new.self c.in_ok-gather.ensures.same c.in_ok-open_all.ensures.same) in
    searched-again c.args.self.now c.next.new.self c.gather.new.self c.open_all.new.self c.args.self.now.lattice.limit c.args.most c.in-Some.first c.gather.new.found.items c.in_ok-first.ensures.same same c.requires.searched next gathered c.in_ok-open_all.ensures.opened

pub returns-clause-answer : goal.returns-clause-answer
returns-clause-answer c =
    let next = rw c.in-Some.is at c.in_ok-first.ensures.next in
    let one : c.push.new.self.items ≡ c.in-Some.first ∷ [] = c.in_ok-push.ensures.items ∙ ap (λ (ns : List Node). ns ++ c.in-Some.first ∷ []) c.new-found.ensures.items in
    let gathered : IsGathered c.next.new.self c.in-Some.first.least c.args.most (c.in-Some.first ∷ []) c.gather.new.found.items c.gather.new.self
    = subst (λ (ns : List Node). IsGathered c.next.new.self c.in-Some.first.least c.args.most ns c.gather.new.found.items c.gather.new.self) one c.in_ok-gather.ensures.gathered in
    let same : IsSame c.args.self.now c.open_all.new.self
    = same-trans c.args.self.now c.next.new.self c.open_all.new.self c.in_ok-first.ensures.same (same-trans c.next.new.self c.gather.new.self c.open_all.new.self c.in_ok-gather.ensures.same c.in_ok-open_all.ensures.same) in
    levelled c.open_all.new.self c.args.most c.gather.new.found.items c.gather.new.self.open.keys _ (same.order ∙ c.requires.by_storage)
    (some-found c.args.self.now c.next.new.self c.gather.new.self c.args.self.now.lattice.limit c.args.most c.in-Some.first c.gather.new.found.items gathered)
    (row c.args.self.now c.next.new.self c.gather.new.self c.open_all.new.self c.args.self.now.lattice.limit c.args.most c.in-Some.first c.gather.new.found.items c.in_ok-first.ensures.same same c.requires.searched next gathered)
    (c.in_ok-vectors.ensures ∙ ap (map (λ (n : Node). n.lo.items)) c.as_slice.ensures.value)
