use Rattle.std.proofs.Common.{◌≡◌, ◌⊎◌, ℕ, zero, suc, ◌*◌, ◌<◌, ◌≤◌, Bool, cond, min, Result, Ok, Err, subst, sym, ap, ◌∙◌, inl, inr, arith, lt-ltb}
use Rattle.std.proofs.Math.Nat.{mul-le-mul_right}
use Rattle.std.proofs.lemmas.Bool.{cases_lt}
use Rattle.sd_base.specs.declared.limits.Quantity.{Quantity}
use Rattle.sd_base.specs.declared.limits.Quantity.TheVariants.{Nodes}
use Rattle.sd_base.specs.Scenarios.{shared_count}
use Rattle.graph_reader.specs.declared.error.ReadError.{ReadError}
use Rattle.graph_reader.specs.declared.error.ReadError.TheVariants.{Limit}
use Rattle.graph_reader.specs.TreeSteps.{Gives}
use Rattle.graph_reader.specs.NumberTexts.{within}
use Rattle.scenario_reader.proofs.file.few_nodes.Goals as goal

-- two numbers that are the same, or both above a limit
within-both : (quantity : Quantity) (limit m n : ℕ) → (m ≡ n) ⊎ ((limit < m) × (limit < n)) → within quantity limit m ≡ within quantity limit n
unfolding within
within-both quantity limit m n (inl same) = ap (λ k. within quantity limit k) same
within-both quantity limit m n (inr (above, also)) =
    let choose : ℕ → Bool → Result ℕ ReadError = λ k b. cond b (Err (Limit quantity)) (Ok k) in
    ap (choose m) (lt-ltb limit m above) ∙ sym (ap (choose n) (lt-ltb limit n also))

large : (s c m : ℕ) → 1024 < c → 1024 < m → (s * m ≡ s * c) ⊎ ((1024 < s * m) × (1024 < s * c))
large zero c m above also = inl (omega arith)
large (suc s) c m above also =
    let one : 1 ≤ suc s = omega arith in
    let first : 1 * m ≤ suc s * m = mul-le-mul_right m one in
    let second : 1 * c ≤ suc s * c = mul-le-mul_right c one in
    inr (omega arith, omega arith)

-- a count that is held above the limit says as much
capped : (s c m : ℕ) → m ≡ min c 1025 → (s * m ≡ s * c) ⊎ ((1024 < s * m) × (1024 < s * c))
capped s c m is = elim (cases_lt 1024 c) [
  | inl above ↦ large s c m above (omega arith)
  | inr below ↦
      let same : m ≡ c = omega arith in
      inl (ap (λ k. s * k) same)
]

pub returns : goal.returns
returns c =
    let count : ℕ = shared_count c.args.shared.now in
    subst (λ read. Gives (λ n. n) c.within.result read) (within-both Nodes 1024 (c.args.states * c.count_shared.result) (c.args.states * count) (capped c.args.states count c.count_shared.result c.count_shared.ensures)) c.within.ensures.gives
