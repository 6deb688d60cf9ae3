use Rattle.std.proofs.Common.{◌≡◌, ◌++◌, ◌∙◌, length, drop, take, ap, subst, sym, arith}
use Rattle.std.proofs.lemmas.List.{take_at}
use Rattle.need_loops.specs.inside.Needing.{AreDue, AreNext}
use Rattle.need_loops.proofs.growth.Growth.extend.Goals as goal

pub returns : goal.returns
returns g c =
    let starts_long : length c.extend_all.new.starts ≡ c.args.self.now.starts.len = omega (arith, c.extend_all.auto.starts, c.as_mut_slice-2.ensures.len) in
    let firings_long : length c.extend_all.new.firings ≡ c.args.self.now.firings.len = omega (arith, c.extend_all.auto.firings, c.as_mut_slice.ensures.len) in
    let flags_long : length c.extend_all.new.flags ≡ c.args.self.now.flags.len = omega (arith, c.extend_all.auto.flags, c.as_mut_slice-3.ensures.len) in
    let starts : take c.args.self.now.starts.len (c.extend_all.new.starts ++ drop (length c.extend_all.new.starts) c.args.self.now.starts.items) ≡ c.extend_all.new.starts =
    take_at c.extend_all.new.starts (drop (length c.extend_all.new.starts) c.args.self.now.starts.items) c.args.self.now.starts.len starts_long in
    let firings : take c.args.self.now.firings.len (c.extend_all.new.firings ++ drop (length c.extend_all.new.firings) c.args.self.now.firings.items) ≡ c.extend_all.new.firings =
    take_at c.extend_all.new.firings (drop (length c.extend_all.new.firings) c.args.self.now.firings.items) c.args.self.now.firings.len firings_long in
    let flags : take c.args.self.now.flags.len (c.extend_all.new.flags ++ drop (length c.extend_all.new.flags) c.args.self.now.flags.items) ≡ c.extend_all.new.flags =
    take_at c.extend_all.new.flags (drop (length c.extend_all.new.flags) c.args.self.now.flags.items) c.args.self.now.flags.len flags_long in
    let due : AreDue (g.F.Firing.net c.args.wired.now.net.now) c.args.reach.until c.extend_all.new.starts = c.in_ok-extend_all.ensures.due in
    let next : AreNext (g.F.Firing.net c.args.wired.now.net.now) c.extend_all.new.starts c.extend_all.new.firings = c.in_ok-extend_all.ensures.next in
    record {
      due = subst (AreDue (g.F.Firing.net c.args.wired.now.net.now) c.args.reach.until) (sym starts) due;
      next = subst (λ rows. AreNext (g.F.Firing.net c.args.wired.now.net.now) rows (take c.args.self.now.firings.len (c.extend_all.new.firings ++ drop (length c.extend_all.new.firings) c.args.self.now.firings.items))) (sym starts)
          (subst (λ nexts. AreNext (g.F.Firing.net c.args.wired.now.net.now) c.extend_all.new.starts nexts) (sym firings) next);
      flags = ap length flags ∙ omega (arith, c.extend_all.ensures.flags, ap length c.as_mut_slice-3.ensures.value, c.requires.grown.flags);
    }
