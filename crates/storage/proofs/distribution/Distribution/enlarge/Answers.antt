use Rattle.std.proofs.Common.{◌≡◌, ◌≤◌, ◌∙◌, ℕ, Option, List, length, slice_set, ap, sym, arith, rules}
use Rattle.storage.specs.Distributions.{enlarged}
use Rattle.storage.proofs.EntriesAddStorage.{enlarged-at, enlarged-past}
use Rattle.storage.proofs.distribution.Distribution.enlarge.Goals as goal
use Rattle.storage.proofs.distribution.Distribution.enlarge.Goals.{then-place-len, else-place-len}

pub returns : goal.returns
returns c = elim c.if-place-len.branch [
  | then-place-len w ↦
      let same : c.in_ok-entries.entries.items ≡ c.args.self.now.capacities = search rules in
      let set : c.from_vec.result ≡ slice_set c.in_ok-entries.entries.items c.args.channel w.enlarged_entry-entry.result = search rules in
      set ∙ (sym (enlarged-at c.in_ok-entries.entries.items c.args.channel c.args.by w.index.result.now w.enlarged_entry-entry.result (omega arith) w.index.ensures w.enlarged_entry-entry.ensures)
      ∙ ap (λ (ds : List (Option ℕ)). enlarged ds c.args.channel c.args.by) same)
  | else-place-len w ↦
      let same : c.from_vec.result ≡ c.args.self.now.capacities = search rules in
      let kept : c.in_ok-entries.entries.items ≡ c.args.self.now.capacities = search rules in
      let past : length c.args.self.now.capacities ≤ c.args.channel = omega (arith, ap length kept) in
      same ∙ sym (enlarged-past c.args.self.now.capacities c.args.channel c.args.by past)
]
