use Rattle.std.proofs.Common.{◌≡◌, ◌∙◌, ap, sym, refl, false, length, rules, vec_len}
use Rattle.std.specs.Prelude.{not}
use Rattle.std.specs.List.{list_any}
use Rattle.sd_base.proofs.ElementsKeepPlaces.{place-none}
use Rattle.cert_text.specs.CycleLines.{cycle_lines}
use Rattle.cert_text.specs.Sections.{same_cycle}
use Rattle.cert_text.proofs.FoundCycles.{found-number, found-none, text-taken, texts-more, with-new, with-old}
use Rattle.cert_text.proofs.reading.found.cycle_number.Goals as goal

pub returns-in-Some-clause-exact : goal.returns-in-Some-clause-exact
returns-in-Some-clause-exact c =
    let cycle = c.in_ok-cycle.cycle in
    let text : c.split_at.result.0.now ≡ cycle_lines cycle = text-taken _ _ _ _ _ c.in_ok-cycle.ensures.text.0 refl c.split_at.ensures.front in
    let found = found-number c.args.cycles.now.list.items c.split_at.result.0.now cycle c.in-Some.number.now text (c.in-Some.ensures.value ∙ c.requires c.split_at.result.0) in (
      cycle,
      c.in_ok-cycle.ensures.exact,
      found.0,
      ap not (sym found.1),
      with-old c.args.cycles.now.list.items cycle found.1,
      c.in_ok-cycle.ensures.text.0,
      c.in_ok-cycle.ensures.text.1,
    )

pub returns-clause-texts : goal.returns-clause-texts
returns-clause-texts c =
    let cycle = c.in_ok-cycle.cycle in
    let text : c.split_at.result.0.now ≡ cycle_lines cycle = text-taken _ _ _ _ _ c.in_ok-cycle.ensures.text.0 refl c.split_at.ensures.front in
    let none : list_any (same_cycle cycle) c.args.cycles.now.list.items ≡ false = found-none c.args.cycles.now.list.items c.split_at.result.0.now cycle text (c.in_default.ensures.value ∙ c.requires c.split_at.result.0) in
    let long : vec_len c.args.cycles.now.list ≡ length c.args.cycles.now.list.items = search rules in
    texts-more c.args.cycles.now.numbers c.insert.new.self c.args.cycles.now.list.items c.push.new.self.items cycle c.split_at.result.0 c.len-number.result text none (c.len-number.ensures ∙ long)
    c.in_ok-insert.ensures.updates.0 c.requires c.in_ok-push.ensures.items

pub returns-clause-exact : goal.returns-clause-exact
returns-clause-exact c =
    let cycle = c.in_ok-cycle.cycle in
    let text : c.split_at.result.0.now ≡ cycle_lines cycle = text-taken _ _ _ _ _ c.in_ok-cycle.ensures.text.0 refl c.split_at.ensures.front in
    let none : list_any (same_cycle cycle) c.args.cycles.now.list.items ≡ false = found-none c.args.cycles.now.list.items c.split_at.result.0.now cycle text (c.in_default.ensures.value ∙ c.requires c.split_at.result.0) in
    let long : vec_len c.args.cycles.now.list ≡ length c.args.cycles.now.list.items = search rules in (
      cycle,
      c.in_ok-cycle.ensures.exact,
      c.len-number.ensures ∙ long ∙ sym (place-none (same_cycle cycle) c.args.cycles.now.list.items none),
      ap not (sym none),
      with-new c.args.cycles.now.list.items c.push.new.self.items cycle none c.in_ok-push.ensures.items,
      c.in_ok-cycle.ensures.text.0,
      c.in_ok-cycle.ensures.text.1,
    )
