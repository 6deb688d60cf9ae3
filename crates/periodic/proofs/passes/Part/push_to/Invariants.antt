use Rattle.std.proofs.Common.{◌≡◌, ℕ, ◌+◌, ◌-◌, ◌^◌, ◌≤◌, ◌++◌, map, take, vec_capacity, vec_len}
use Rattle.std.specs.Prelude.{slice_index}
use Rattle.periodic.proofs.passes.Part.push_to.Given as goal

abbrev pub invariant-loop-start : goal.invariant-loop-start
invariant-loop-start l = record {
  row : l.row.items ≡ l.initial.row.items ++ map (λ s. s + l.self.up - l.down) (take l.start-index l.self.starts.now);
  len : vec_len l.row ≡ vec_len l.initial.row + l.start-index;
  capacity : vec_capacity l.row ≡ vec_capacity l.initial.row;
  small : ((k : ℕ) → slice_index l.initial.row.items k ≤ 2 ^ 100) → (k : ℕ) → slice_index l.row.items k ≤ 2 ^ 100;
}
