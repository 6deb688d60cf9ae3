-- The rates of channels, one channel after another.
use Rattle.std.proofs.Common.{◌≡◌, ◌≢◌, ℕ, ◌+◌, ◌≤◌, ◌<◌, List, [], ◌∷◌, ◌++◌, length, set, ⊎_elim, arith}
use Rattle.std.specs.Prelude.{slice_index_or}
use Rattle.std.proofs.lemmas.Bool.{cases_lt, cases_eq}
use Rattle.std.proofs.lemmas.List.{get_or_append_left, get_or_push, get_or-set_same, get_or-set_other}
use Rattle.sd_base.specs.Net.{Net, channel_at}
use Rattle.selftimed.specs.declared.rates.Rates.{Rates}
use Rattle.selftimed.specs.inside.PortRates.{no_rates, AreOf}

-- the rates of the first n channels
abbrev pub AreUpTo : Net → List Rates → ℕ → Type 0
AreUpTo net rows n = (i : ℕ) → i < n → AreOf i (channel_at net i) (slice_index_or rows i no_rates)

pub rates-push : (net : Net) (rows : List Rates) (n : ℕ) (r : Rates) → length rows ≡ n → AreUpTo net rows n → AreOf n (channel_at net n) r → AreUpTo net (rows ++ r ∷ []) (n + 1)
rates-push net rows n r long old new i below = ⊎_elim
    (λ (h : i < n). rw (get_or_append_left rows (r ∷ []) no_rates i (omega (arith, long))) (old i h))
    (λ (h : n ≤ i). let e : i ≡ n = omega arith in rw e (rw (get_or_push rows r no_rates n long) new))
    (cases_lt i n)

pub rates-set : (net : Net) (rows : List Rates) (n : ℕ) (r : Rates) → n < length rows → AreUpTo net rows n → AreOf n (channel_at net n) r → AreUpTo net (set rows n r) (n + 1)
rates-set net rows n r place old new i below = ⊎_elim
    (λ (e : i ≡ n). rw e (rw (get_or-set_same rows n r no_rates place) new))
    (λ (away : i ≢ n). rw (get_or-set_other rows n i r no_rates away) (old i (omega arith)))
    (cases_eq i n)
