-- The table of a loop.
use Rattle.std.proofs.Common.{◌≡◌, ℕ, zero, suc, ◌+◌, ◌-◌, ◌*◌, ◌<◌, List, [], ◌∷◌, length, drop, sym, refl, ap, ◌∙◌, arith}
use Rattle.std.specs.Prelude.{slice_index, slice_index_or}
use Rattle.std.proofs.lemmas.List.{get_or-drop, length-drop}
use Rattle.sd_base.specs.Net.{Net}
use Rattle.sd_base.specs.Lawful.{Lawful}
use Rattle.sd_base.specs.Connection.{IsConnected}
use Rattle.sd_base.specs.Schedules.{count_of, start_of, HasInputs}
use Rattle.sd_base.specs.SelfTimed.{earliest}
use Rattle.sd_base.specs.Rates.{IsLoop, IsLoopTable}
use Rattle.sd_base.proofs.LoopsSpanRounds.{loop-whole}

-- what f gives for n numbers from a first one on
pub listed : {A : Type 0} → (ℕ → A) → ℕ → ℕ → List A
listed f from zero = []
listed f from (suc n) = f from ∷ listed f (suc from) n

listed-long : {A : Type 0} (f : ℕ → A) (from n : ℕ) → length (listed f from n) ≡ n
unfolding listed
listed-long f from zero = refl
listed-long f from (suc n) = ap suc (listed-long f (suc from) n)

listed-at : {A : Type 0} (f : ℕ → A) (from n k : ℕ) (d : A) → k < n → slice_index_or (listed f from n) k d ≡ f (from + k)
unfolding listed
listed-at f from zero k d below = absurd (omega arith)
listed-at f from (suc n) zero d below = let e : from ≡ from + 0 = omega arith in ap f e
listed-at f from (suc n) (suc k) d below = let e : suc from + k ≡ from + suc k = omega arith in listed-at f (suc from) n k d (omega arith) ∙ ap f e

-- the starts of an actor round the loop
abbrev row : Net → ℕ → ℕ → ℕ → List ℕ
row net entry period a = drop (count_of (earliest net (entry + 1)) a) (slice_index_or (earliest net (entry + period + 1)) a [])

abbrev pub before_of : Net → ℕ → List ℕ
before_of net entry = listed (λ a. count_of (earliest net (entry + 1)) a) 0 (length net.times)

abbrev pub starts_of : Net → ℕ → ℕ → List (List ℕ)
starts_of net entry period = listed (row net entry period) 0 (length net.times)

module _ (net : Net) (entry period : ℕ) (laws : Lawful net) (inputs : HasInputs net) (connected : IsConnected net) (loop : IsLoop net entry period) where
  abbrev pub rounds_of : ℕ
  rounds_of = (loop-whole net entry period laws inputs connected loop).0

  earlier : (a : ℕ) → a < length net.times → slice_index (before_of net entry) a ≡ count_of (earliest net (entry + 1)) a
  earlier a actor = let e : 0 + a ≡ a = omega arith in listed-at (λ (b : ℕ). count_of (earliest net (entry + 1)) b) 0 (length net.times) a 0 actor ∙ ap (λ (b : ℕ). count_of (earliest net (entry + 1)) b) e

  row-at : (a : ℕ) → a < length net.times → slice_index_or (starts_of net entry period) a [] ≡ row net entry period a
  row-at a actor = let e : 0 + a ≡ a = omega arith in listed-at (row net entry period) 0 (length net.times) a [] actor ∙ ap (row net entry period) e

  whole : (a : ℕ) → a < length net.times → count_of (starts_of net entry period) a ≡ rounds_of * slice_index net.round a
  whole a actor =
      let long : count_of (starts_of net entry period) a ≡ length (row net entry period a) = ap (λ (xs : List ℕ). length xs) (row-at a actor) in
      let left : length (row net entry period a) ≡ count_of (earliest net (entry + period + 1)) a - count_of (earliest net (entry + 1)) a = length-drop (count_of (earliest net (entry + 1)) a) (slice_index_or (earliest net (entry + period + 1)) a []) in
      omega (arith, (loop-whole net entry period laws inputs connected loop).2 a)

  pub loop-table : IsLoopTable net entry period rounds_of (before_of net entry) (starts_of net entry period)
  loop-table = record {
    loop = loop;
    turns = (loop-whole net entry period laws inputs connected loop).1;
    actors = listed-long (λ (b : ℕ). count_of (earliest net (entry + 1)) b) 0 (length net.times);
    rows = listed-long (row net entry period) 0 (length net.times);
    earlier = earlier;
    whole = whole;
    all = λ a actor. omega (arith, (loop-whole net entry period laws inputs connected loop).2 a, whole a actor, earlier a actor);
    moments = λ a k actor below.
        ap (λ (xs : List ℕ). slice_index xs k) (row-at a actor)
        ∙ (get_or-drop (count_of (earliest net (entry + 1)) a) (slice_index_or (earliest net (entry + period + 1)) a []) k 0
        ∙ ap (λ (b : ℕ). start_of (earliest net (entry + period + 1)) a (b + k)) (sym (earlier a actor)));
  }
