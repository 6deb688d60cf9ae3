use Rattle.std.proofs.Common.{◌≡◌, None, Some, sym, ◌∙◌}
use Rattle.cert_checker.specs.inside.KnownSets.{number_of}
use Rattle.cert_checker.proofs.KnownLists.{has-number}
use Rattle.cert_checker.proofs.listed.Listed.is_child.Goals as goal

pub returns-in-Some : goal.returns-in-Some
returns-in-Some c = λ net certificate listing of_member.
    let number : number_of c.args.self.now.members c.args.distribution.now.capacities ≡ Some c.in-Some.number = sym c.number_of.ensures ∙ c.in-Some.is in
    let both = listing.children.exact c.args.distribution.now.capacities c.in-Some.number number in
    (λ yes. both.0 (sym c.is_marked.ensures ∙ yes), λ child. c.is_marked.ensures ∙ both.1 child)

pub returns-in-None : goal.returns-in-None
returns-in-None c = λ net certificate listing of_member.
    let has = has-number certificate.members c.args.self.now.members c.args.distribution.now.capacities listing.members of_member in
    let none : number_of c.args.self.now.members c.args.distribution.now.capacities ≡ None = sym c.number_of.ensures ∙ c.in-None.is in
    let no : None ≡ Some has.0 = sym none ∙ has.1 in
    (λ yes. absurd (cc), λ child. absurd (cc))
