-- The bounded file shares as many tokens as the storage and the rows without a capacity.
use Rattle.std.proofs.Common.{◌≡◌, ℕ, zero, suc, ◌+◌, ◌-◌, ◌*◌, ◌≤◌, ◌<◌, Bool, true, false, Option, None, Some, List, [], ◌∷◌, length, ⊎_elim, subst, sym, ap, refl, arith}
use Rattle.std.specs.Prelude.{slice_get, if◌then◌else◌, nat_lt}
use Rattle.std.proofs.lemmas.Bool.{cases_lt, lt-ltb, le-ltb}
use Rattle.sd_base.specs.declared.tables.ScenarioRow.{ScenarioRow}
use Rattle.sd_base.specs.declared.tables.SharedRow.{SharedRow}
use Rattle.sd_base.specs.Scenarios.{shared_count}
use Rattle.sd_base.proofs.ByteTestsDecide.{if-le}
use Rattle.storage.specs.Distributions.{IsDistribution, storage_of}
use Rattle.bounded_scenarios.specs.BoundedFiles.{space_shares}
use Rattle.bounded_scenarios.specs.Boundings.{looped_tokens}
use Rattle.bounded_scenarios.specs.SharedChannels.{channels_named, is_looped, shared_channels_from}
use Rattle.bounded_scenarios.proofs.SpacesFollowRows.{share_of}

pub dist-long : (ss : List ScenarioRow) (p : ℕ) (rows : List SharedRow) (ds : List (Option ℕ)) → IsDistribution (shared_channels_from ss p rows) ds → length ds ≡ length rows
dist-long ss p [] [] is = refl
dist-long ss p [] (d ∷ ds) is = absurd is
dist-long ss p (row ∷ rows) [] is = absurd (let no : true ≡ false = is.0 in cc)
dist-long ss p (row ∷ rows) (None ∷ ds) is = ap suc (dist-long ss (suc p) rows ds is.2)
dist-long ss p (row ∷ rows) (Some k ∷ ds) is = ap suc (dist-long ss (suc p) rows ds is.3)

-- a capacity covers the tokens of its row, and is no more than the storage
pub dist-room : (ss : List ScenarioRow) (p : ℕ) (rows : List SharedRow) (ds : List (Option ℕ)) → IsDistribution (shared_channels_from ss p rows) ds →
    (t k : ℕ) (row : SharedRow) → slice_get rows t ≡ Some row → slice_get ds t ≡ Some (Some k) → (row.tokens ≤ k) × (k ≤ storage_of (shared_channels_from ss p rows) ds)
dist-room ss p [] ds is t k row at has = absurd (cc)
dist-room ss p (r ∷ rows) [] is t k row at has = absurd (cc)
dist-room ss p (r ∷ rows) (None ∷ ds) is zero k row at has = absurd (cc)
dist-room ss p (r ∷ rows) (None ∷ ds) is (suc t) k row at has = dist-room ss (suc p) rows ds is.2 t k row at has
dist-room ss p (r ∷ rows) (Some j ∷ ds) is zero k row at has =
    let rows_same : r ≡ row = cc in
    let same : j ≡ k = cc in
    let tokens : r.tokens ≡ row.tokens = ap (λ (x : SharedRow). x.tokens) rows_same in
    let covers : r.tokens ≤ j = is.2 in
    ((let f : row.tokens ≤ k = omega arith in f), (let f : k ≤ j * 1 + storage_of (shared_channels_from ss (suc p) rows) ds = omega arith in f))
dist-room ss p (r ∷ rows) (Some j ∷ ds) is (suc t) k row at has = let rest = dist-room ss (suc p) rows ds is.3 t k row at has in (rest.0, omega (arith, rest.1))

-- ---- the tokens that the bounded file shares

if-looped : (b : Bool) (n : ℕ) → ◌≡◌ {A = ℕ} 0 (if b then 0 else 1) → ◌≡◌ {A = ℕ} (if b then n else 0) n
if-looped true n same = refl
if-looped false n same = absurd (omega (arith, same))

if-apart : (b : Bool) (n : ℕ) → (◌≡◌ {A = ℕ} 0 (if b then 0 else 1) → ⊥) → ◌≡◌ {A = ℕ} (if b then n else 0) 0
if-apart true n apart = absurd (apart refl)
if-apart false n apart = refl

space-count : (row : SharedRow) (k : ℕ) (rest : List SharedRow) → shared_count (if nat_lt row.tokens k then share_of row k ∷ rest else rest) ≡ (k - row.tokens) + shared_count rest
space-count row k rest = ⊎_elim
    (λ (less : row.tokens < k). subst (λ (b : Bool). shared_count (if b then share_of row k ∷ rest else rest) ≡ (k - row.tokens) + shared_count rest) (sym (lt-ltb row.tokens k less)) refl)
    (λ (more : k ≤ row.tokens). subst (λ (b : Bool). shared_count (if b then share_of row k ∷ rest else rest) ≡ (k - row.tokens) + shared_count rest) (sym (le-ltb row.tokens k more)) (omega arith))
    (cases_lt row.tokens k)

-- those of the rows and of their free spaces are the storage, and the tokens of the rows without a capacity
pub bounded-count : (ss : List ScenarioRow) (p : ℕ) (rows : List SharedRow) (ds : List (Option ℕ)) → IsDistribution (shared_channels_from ss p rows) ds →
    shared_count rows + shared_count (space_shares rows ds) ≡ storage_of (shared_channels_from ss p rows) ds + looped_tokens ss rows
bounded-count ss p [] [] is = refl
bounded-count ss p [] (d ∷ ds) is = absurd is
bounded-count ss p (row ∷ rows) [] is = absurd (let no : true ≡ false = is.0 in cc)
bounded-count ss p (row ∷ rows) (None ∷ ds) is =
    let rest = bounded-count ss (suc p) rows ds is.2 in
    let looped : (if is_looped (channels_named ss row.name) then row.tokens else 0) ≡ row.tokens = if-looped (is_looped (channels_named ss row.name)) row.tokens is.1 in
    omega (arith, rest, looped)
bounded-count ss p (row ∷ rows) (Some k ∷ ds) is =
    let rest = bounded-count ss (suc p) rows ds is.3 in
    let apart : (if is_looped (channels_named ss row.name) then row.tokens else 0) ≡ 0 = if-apart (is_looped (channels_named ss row.name)) row.tokens is.1 in
    let spaces = space-count row k (space_shares rows ds) in
    let covers : row.tokens ≤ k = is.2 in
    omega (arith, rest, apart, spaces, covers)

-- each row has a token, so that rows are no more than tokens
pub rows-few : (rows : List SharedRow) → ((t : ℕ) (row : SharedRow) → slice_get rows t ≡ Some row → 1 ≤ row.tokens) → length rows ≤ shared_count rows
rows-few [] some = omega arith
rows-few (row ∷ rows) some = let rest = rows-few rows (λ t r at. some (suc t) r at) in let first = some 0 row refl in omega (arith, rest, first)

-- the tokens of the rows without a capacity are no more than all
pub looped-few : (ss : List ScenarioRow) (rows : List SharedRow) → looped_tokens ss rows ≤ shared_count rows
looped-few ss [] = omega arith
looped-few ss (row ∷ rows) = let rest = looped-few ss rows in let one = if-le (is_looped (channels_named ss row.name)) row.tokens in omega (arith, rest, one)
