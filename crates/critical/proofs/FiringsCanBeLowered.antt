-- By how many rounds the firings on the way back can be lowered, and the steps between them.
use Rattle.std.proofs.Common.{◌≡◌, ℕ, suc, ◌+◌, ◌-◌, ◌*◌, ◌/◌, ◌%◌, ◌≤◌, ◌<◌, List, [], ◌∷◌, ◌++◌, length, min, ⊎_elim, subst, ap, ◌∙◌, arith, mod-lt, div-add-mod', mul-le-mul_right, append_assoc}
use Rattle.std.specs.Prelude.{slice_index}
use Rattle.std.proofs.lemmas.Bool.{cases_lt}
use Rattle.firing.specs.declared.table.LoopTable.{LoopTable}
use Rattle.critical.specs.declared.cycle.FiringNo.{FiringNo}
use Rattle.critical.specs.declared.cycle.CycleStep.{CycleStep}
use Rattle.critical.specs.declared.walk.Met.{Met}
use Rattle.sd_base.specs.Net.{Net}
use Rattle.critical.specs.inside.Trails.{met_at, raised_number, IsLeastRounds, steps_of}

-- what can be taken off so far: off the firings from a place on before i, and off the last one
pub record LeastBelow (net : Net) (table : LoopTable) (met : List Met) (from passes rounds i : ℕ) : Type 0 where
  pub all : (k : ℕ) → from ≤ k → k < i → rounds * slice_index net.round (met_at met k).firing.actor ≤ raised_number net table passes (met_at met k)
  pub last : rounds * slice_index net.round (met_at met (length met - 1)).firing.actor ≤ raised_number net table passes (met_at met (length met - 1))
  pub some : (k : ℕ) × (from ≤ k) × (k < length met)
      × (raised_number net table passes (met_at met k) < rounds * slice_index net.round (met_at met k).firing.actor + slice_index net.round (met_at met k).firing.actor)

-- what has been met last isn't raised
pub raised-last : (net : Net) (table : LoopTable) (met : Met) → raised_number net table met.passes met ≡ met.firing.number
raised-last net table met =
    let nothing : (met.passes - met.passes) * table.rounds * slice_index net.round met.firing.actor ≡ 0 * table.rounds * slice_index net.round met.firing.actor =
    ap (λ (x : ℕ). x * table.rounds * slice_index net.round met.firing.actor) (omega arith) in
    omega arith

module _ (net : Net) (table : LoopTable) (met : List Met) (from passes : ℕ) where
  pub least-first : (rounds : ℕ) → from + 1 < length met → passes ≡ (met_at met (length met - 1)).passes → 0 < slice_index net.round (met_at met (length met - 1)).firing.actor →
      rounds ≡ (met_at met (length met - 1)).firing.number / slice_index net.round (met_at met (length met - 1)).firing.actor → LeastBelow net table met from passes rounds from
  least-first rounds later at some is =
      let end : Met = met_at met (length met - 1) in
      let g : ℕ = slice_index net.round end.firing.actor in
      let number : raised_number net table passes end ≡ end.firing.number = ap (λ (p : ℕ). raised_number net table p end) at ∙ raised-last net table end in
      let split : end.firing.number / g * g + end.firing.number % g ≡ end.firing.number = div-add-mod' end.firing.number g in
      let rest : end.firing.number % g < g = mod-lt end.firing.number some in
      let product : rounds * g ≡ end.firing.number / g * g = ap (λ (x : ℕ). x * g) is in
      record {
        all = λ k late below. absurd (omega arith);
        last = omega arith;
        some = (length met - 1, omega arith, omega arith, omega arith);
      }

  pub least-next : (rounds more least i : ℕ) → LeastBelow net table met from passes rounds i → from ≤ i → i < length met → 0 < slice_index net.round (met_at met i).firing.actor →
      more ≡ raised_number net table passes (met_at met i) / slice_index net.round (met_at met i).firing.actor → least ≡ min rounds more → LeastBelow net table met from passes least (i + 1)
  least-next rounds more least i so_far late within some is best =
      let x : ℕ = raised_number net table passes (met_at met i) in
      let g : ℕ = slice_index net.round (met_at met i).firing.actor in
      let split : x / g * g + x % g ≡ x = div-add-mod' x g in
      let rest : x % g < g = mod-lt x some in
      let product : more * g ≡ x / g * g = ap (λ (y : ℕ). y * g) is in
      let no_more : least ≤ rounds = omega arith in
      let nor_this : least * g ≤ more * g = mul-le-mul_right g (omega arith) in
      record {
        all = λ k from_there below. ⊎_elim
            (λ (old : k < i). let less : least * slice_index net.round (met_at met k).firing.actor ≤ rounds * slice_index net.round (met_at met k).firing.actor = mul-le-mul_right (slice_index net.round (met_at met k).firing.actor) no_more in omega (arith, so_far.all k from_there old))
            (λ (new : i ≤ k). let same : i ≡ k = omega arith in
            subst (λ (j : ℕ). least * slice_index net.round (met_at met j).firing.actor ≤ raised_number net table passes (met_at met j)) same (omega arith))
            (cases_lt k i);
        last =
            let less : least * slice_index net.round (met_at met (length met - 1)).firing.actor ≤ rounds * slice_index net.round (met_at met (length met - 1)).firing.actor = mul-le-mul_right (slice_index net.round (met_at met (length met - 1)).firing.actor) no_more in
            omega (arith, so_far.last);
        some = ⊎_elim
            (λ (this : more < rounds). let same : least ≡ more = omega arith in (i, late, within, rw same (omega arith)))
            (λ (old : rounds ≤ more). let same : least ≡ rounds = omega arith in (so_far.some.0, so_far.some.1, so_far.some.2, rw same so_far.some.3))
            (cases_lt more rounds);
      }

  pub least-all : (rounds i : ℕ) → LeastBelow net table met from passes rounds i → length met ≤ i + 1 → IsLeastRounds net table met from passes rounds
  least-all rounds i below whole = record {
    all = λ k late within. ⊎_elim
        (λ (old : k < i). below.all k late old)
        (λ (last : i ≤ k). let same : length met - 1 ≡ k = omega arith in
        subst (λ (j : ℕ). rounds * slice_index net.round (met_at met j).firing.actor ≤ raised_number net table passes (met_at met j)) same below.last)
        (cases_lt k i);
    some = below.some;
  }

-- the steps that are there, and those that are still to come
pub steps-next : (at : ℕ → FiringNo) (channel : ℕ → ℕ) (from j : ℕ) (old new all : List CycleStep) → from < j → old ++ steps_of at channel from (j - from) ≡ all →
    new ≡ old ++ record { channel = channel (j - 1); to = at (j - 1) } ∷ [] → new ++ steps_of at channel from (j - 1 - from) ≡ all
steps-next at channel from j old new all late so_far pushed =
    let e : j - from ≡ suc (j - 1 - from) = omega arith in
    let f : from + (j - 1 - from) ≡ j - 1 = omega arith in
    let split : old ++ (record { channel = channel (from + (j - 1 - from)); to = at (from + (j - 1 - from)) } ∷ steps_of at channel from (j - 1 - from)) ≡ all = rw e at so_far in
    let here : old ++ (record { channel = channel (j - 1); to = at (j - 1) } ∷ steps_of at channel from (j - 1 - from)) ≡ all =
    subst (λ (k : ℕ). old ++ (record { channel = channel k; to = at k } ∷ steps_of at channel from (j - 1 - from)) ≡ all) f split in
    rw (pushed, append_assoc) here
