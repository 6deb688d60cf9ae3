use Rattle.std.proofs.Common.{◌≡◌, ℕ, ◌-◌, ◌≤◌, List, Option, length, refl, ap, subst, sym, ◌∙◌, arith}
use Rattle.std.proofs.lemmas.List.{nil_from_length}
use Rattle.critical.specs.declared.walk.Met.{Met}
use Rattle.critical.specs.inside.Trails.{class_at, met_at, none_met}
use Rattle.critical.specs.inside.Searches.{IsMarked, IsSearch, GoesOn}
use Rattle.critical.proofs.SearchTurns.{goes-none, search-first}
use Rattle.critical.proofs.unspaced.Pass.way_from.Goals as goal

pub returns-in-Some : goal.returns-in-Some
returns-in-Some g c =
    subst (λ (ms : List (Option ℕ)). GoesOn (g.F.Firing.net c.args.self.now.wired.now.net.now) c.args.self.now.table.now c.args.marks.now ms × IsMarked ms (class_at c.args.self.now.table.now c.args.first)) (sym c.in-Some.ensures.after) (
      goes-none (g.F.Firing.net c.args.self.now.wired.now.net.now) c.args.self.now.table.now c.args.marks.now c.requires.marks,
      (c.in-Some._place, sym (rw c.class_of.ensures.class at c.in-Some.ensures.before)),
    )

pub turns-init : goal.turns-init
turns-init g c =
    let begun = search-first (g.F.Firing.net c.args.self.now.wired.now.net.now) c.args.self.now.table.now c.requires.pass.short c.args.marks.now c.mark-before.new.marks
    (record { firing = c.args.first; passes = 0; time = 0; channel = 0 }) c.push.new.self.items c.requires.marks c.requires.first refl refl
    (rw c.new-met.ensures.items at c.in_ok-push.ensures.items) (sym (rw c.class_of.ensures.class at c.mark-before.ensures.before) ∙ c.in_default.is) (rw c.class_of.ensures.class at c.in_default.ensures.after) in
    record { so_far = begun.0.so_far; kept = begun.0.kept; first = begun.1 }

pub turn-requires-clause-some : goal.turn-requires-clause-some
turn-requires-clause-some g c = subst (λ (xs : List Met). 1 ≤ length xs) c.as_slice.ensures.value c.in-Some-last.ensures.item.3.0

pub turn-requires-clause-here : goal.turn-requires-clause-here
turn-requires-clause-here g c = subst (λ (xs : List Met). c.in-Some-last.last.now ≡ met_at xs (length xs - 1)) c.as_slice.ensures.value (c.in-Some-last.ensures.item.3.1 none_met)

pub turns-preserved : goal.turns-preserved
turns-preserved g c = let next = rw c.in_default-2.is at c.in_ok-from.ensures in record {
  so_far = next.so_far;
  kept = λ k mark. next.kept k (c.turns.invariant.kept k mark);
  first = next.kept (class_at c.args.self.now.table.now c.args.first) c.turns.invariant.first;
}

pub turns-smaller : goal.turns-smaller
turns-smaller g c = let next = rw c.in_default-2.is at c.in_ok-from.ensures in next.less

pub returns : goal.returns
returns g c = (
  record {
    so_far = subst (λ (xs : List Met). IsSearch (g.F.Firing.net c.args.self.now.wired.now.net.now) c.args.self.now.table.now xs c.turns.marks)
        (nil_from_length c.turns.met.items (omega (arith, c.in_default-last.ensures.item.3, ap length c.as_slice.ensures.value))) c.turns.invariant.so_far;
    kept = c.turns.invariant.kept;
  },
  c.turns.invariant.first,
)
