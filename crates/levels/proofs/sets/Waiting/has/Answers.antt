use Rattle.std.proofs.Common.{◌≡◌, false, None, Some, List, sym, ap, ◌∙◌, subst, rules}
use Rattle.std.specs.Prelude.{option_copied}
use Rattle.std.specs.BTreeMap.{is_at}
use Rattle.std.specs.List.{IsDistinct, list_any}
use Rattle.std.specs.Map.{lookup}
use Rattle.std.specs.Ordering.{nat_cmp}
use Rattle.levels.specs.declared.found.Found.{Found}
use Rattle.levels.specs.inside.Sets.{found_eq}
use Rattle.levels.proofs.PutsKeepSets.{any-in-none, any-in-set, waiting-differ}
use Rattle.levels.proofs.sets.Waiting.has.Goals as goal

pub returns-in-Some-clause-there : goal.returns-in-Some-clause-there
returns-in-Some-clause-there g c =
    let f = c.args.found.now in
    let found : lookup (is_at (nat_cmp c.args.found.now.total)) c.self.inside.sets.entries ≡ Some c.in-Some.set.now = sym c.get.ensures.value ∙ ap option_copied c.in-Some.is in
    subst (λ (fs : List (Found _)). c.contains.result ≡ list_any (found_eq c.args.found.now) fs) c.self.view_is
    (c.contains.ensures ∙ sym (any-in-set f c.self.inside.sets.entries c.in-Some.set.now c.self.invariant found))

pub returns-in-Some-clause-differ : goal.returns-in-Some-clause-differ
returns-in-Some-clause-differ g c = subst (IsDistinct found_eq) c.self.view_is (waiting-differ c.self.inside.sets.entries c.self.invariant)

pub returns-in-None-clause-there : goal.returns-in-None-clause-there
returns-in-None-clause-there g c =
    let f = c.args.found.now in
    let none : lookup (is_at (nat_cmp c.args.found.now.total)) c.self.inside.sets.entries ≡ None = search (rules, c.get.ensures.value) in
    subst (λ (fs : List (Found _)). false ≡ list_any (found_eq c.args.found.now) fs) c.self.view_is
    (sym (any-in-none f c.self.inside.sets.entries c.self.invariant none))

pub returns-in-None-clause-differ : goal.returns-in-None-clause-differ
returns-in-None-clause-differ g c = subst (IsDistinct found_eq) c.self.view_is (waiting-differ c.self.inside.sets.entries c.self.invariant)
