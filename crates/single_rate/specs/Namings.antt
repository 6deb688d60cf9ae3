-- Schedules of a net and of its expansion, by the firings' names: firing m of copy k of an actor is firing `k + m * round` of it.
use Rattle.std.specs.Prelude.{ℕ, ◌+◌, ◌-◌, ◌*◌, ◌/◌, ◌↔◌, nat_le, if◌then◌else◌, List, [], ◌∷◌, map, sum, length, replicate, slice_index, slice_index_or, false}
use Rattle.std.specs.List.{flat_map, range_with_len}
use Rattle.sd_base.specs.declared.tables.GraphFile.{GraphFile}
use Rattle.sd_base.specs.Net.{Net}
use Rattle.sd_base.specs.FileNet.{net_of}
use Rattle.sd_base.specs.Schedules.{Schedule, Admissible, Earliest, HasInputs}
use Rattle.sd_base.specs.Rates.{Rate}
use Rattle.single_rate.specs.Expansions.{by_copies, expansion, first_copy}

-- a round of an expansion: each copy fires once
abbrev pub one_each : Net → List ℕ
one_each net = replicate (sum net.round) 1

-- the net of the expansion
abbrev pub expanded : Net → GraphFile → Net
expanded net g = net_of (expansion net g) (one_each net) false

-- how many of the first n firings of an actor with r firings in a round are of copy k
abbrev pub firings_of_copy : ℕ → ℕ → ℕ → ℕ
firings_of_copy n r k = (n + (r - 1) - k) / r

-- the starts of a copy, one a round
abbrev pub copy_starts : List ℕ → ℕ → ℕ → List ℕ
copy_starts row r k = map (λ m. slice_index row (k + m * r)) (range_with_len 0 (firings_of_copy (length row) r k))

-- a schedule of the net as one of its expansion
unfoldable pub split : Net → Schedule → Schedule
split net s = by_copies net (λ a row k. copy_starts row (slice_index net.round a) k) 0 s

-- a start among others that are in order
abbrev pub put_in_order : ℕ → List ℕ → List ℕ
put_in_order t [] = t ∷ []
put_in_order t (u ∷ us) = if nat_le t u then t ∷ u ∷ us else u ∷ put_in_order t us

-- starts in their order
abbrev pub in_order : List ℕ → List ℕ
in_order [] = []
in_order (t ∷ ts) = put_in_order t (in_order ts)

-- the starts of all copies of an actor, in their order
abbrev pub joined_row : Net → Schedule → ℕ → List ℕ
joined_row net u a = in_order (flat_map (λ k. slice_index_or u (first_copy net a + k) []) (range_with_len 0 (slice_index net.round a)))

-- a schedule of the expansion as one of the net
unfoldable pub joined : Net → Schedule → Schedule
joined net u = map (λ a. joined_row net u a) (range_with_len 0 (length net.times))

-- the net and its expansion have the same schedules, self-timed execution and rates
pub record IsSameByNames (net : Net) (g : GraphFile) : Type 0 where
  pub splits : (s : Schedule) → Admissible net s → Admissible (expanded net g) (split net s)
  pub joins : (u : Schedule) → Admissible (expanded net g) u → Admissible net (joined net u)
  pub earliest : (t : ℕ) (s : Schedule) → Earliest net t s → Earliest (expanded net g) t (split net s)
  pub rates : (p q : ℕ) → HasInputs net → Rate net p q ↔ Rate (expanded net g) p q
