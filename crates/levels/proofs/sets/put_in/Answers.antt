use Rattle.std.proofs.Common.{◌≡◌, Some, sym, ap, ◌∙◌}
use Rattle.std.specs.Option.{option_copied_mut}
use Rattle.std.specs.BTreeMap.{is_at}
use Rattle.std.specs.Map.{lookup}
use Rattle.std.specs.Ordering.{nat_cmp}
use Rattle.levels.proofs.PutsKeepSets.{set-kept, set-put}
use Rattle.levels.proofs.sets.put_in.Goals as goal

pub returns-in_err-insert-clause-sets : goal.returns-in_err-insert-clause-sets
returns-in_err-insert-clause-sets g c =
    let found : Some c.in-Some.set.now ≡ lookup (is_at (nat_cmp c.args.found.total)) c.args.sets.now.entries = sym (ap option_copied_mut c.in-Some.is) ∙ c.get_mut.ensures.value in
    set-kept c.args.found.total c.args.sets.now.entries _ c.in-Some.set.now c.insert.new.self c.requires.sets found c.in_err-insert.ensures.err (c.get_mut.follows.holds c.insert.new.self).0

pub returns-in-Some-clause-sets : goal.returns-in-Some-clause-sets
returns-in-Some-clause-sets g c =
    let found : Some c.in-Some.set.now ≡ lookup (is_at (nat_cmp c.args.found.total)) c.args.sets.now.entries = sym (ap option_copied_mut c.in-Some.is) ∙ c.get_mut.ensures.value in
    (set-put c.args.found c.args.sets.now.entries _ c.in-Some.set.now c.insert.new.self c.requires.sets c.requires.new found c.in_ok-insert.ensures.keys c.insert.ensures.unique (c.get_mut.follows.holds c.insert.new.self).0).0

pub returns-in-Some-clause-put : goal.returns-in-Some-clause-put
returns-in-Some-clause-put g c =
    let found : Some c.in-Some.set.now ≡ lookup (is_at (nat_cmp c.args.found.total)) c.args.sets.now.entries = sym (ap option_copied_mut c.in-Some.is) ∙ c.get_mut.ensures.value in
    (set-put c.args.found c.args.sets.now.entries _ c.in-Some.set.now c.insert.new.self c.requires.sets c.requires.new found c.in_ok-insert.ensures.keys c.insert.ensures.unique (c.get_mut.follows.holds c.insert.new.self).0).1
