-- Counts that are able and full are decided by what has ended; between ends nothing starts.
use Rattle.std.proofs.Common.{◌≡◌, ℕ, zero, suc, ◌+◌, ◌-◌, ◌≤◌, ◌<◌, [], length, ⊎_elim, subst, sym, refl, ap, ◌∙◌, arith, replicate, List}
use Rattle.std.proofs.lemmas.Bool.{cases_lt}
use Rattle.std.proofs.lemmas.List.{get_or_past}
use Rattle.sd_base.specs.Net.{Net, channel_at, total}
use Rattle.sd_base.specs.Schedules.{Needs, Lacks, Schedule, count_of, start_of, end_of, Earliest, HasInputs}
use Rattle.sd_base.specs.SelfTimed.{ended_by, earliest}
use Rattle.sd_base.proofs.SumsRepeatByTurns.{total-le}
use Rattle.sd_base.proofs.LawfulIsRegular.{Timed, Wired, Regular}
use Rattle.sd_base.proofs.FiringsKeepOrder.{no_actor}
use Rattle.sd_base.proofs.NextMomentIsEarliest.{Ended, Able, Full, Extended}
use Rattle.sd_base.proofs.EarliestExists.{ended-is, earliest-is, extended-is}
use Rattle.sd_base.proofs.ElementsKeepPlaces.{replicate-same}

-- counts that are full are at least all that are able
pub decided-le : (net : Net) (e n m : ℕ → ℕ) → Full net e n → Able net e m → (a : ℕ) → a < length net.times → m a ≤ n a
decided-le net e n m full able a actor = ⊎_elim
    (λ (more : n a < m a). absurd (
    let lack : Lacks net e a (n a) = full a actor in
    let enough : total (channel_at net lack.0).taken (m (channel_at net lack.0).target) ≤ (channel_at net lack.0).tokens + total (channel_at net lack.0).made (e (channel_at net lack.0).source) = able.enough lack.0 lack.1 in
    let mine : total (channel_at net lack.0).taken (m a) ≤ (channel_at net lack.0).tokens + total (channel_at net lack.0).made (e (channel_at net lack.0).source) = rw lack.2 at enough in
    let le : total (channel_at net lack.0).taken (n a + 1) ≤ total (channel_at net lack.0).taken (m a) = total-le (channel_at net lack.0).taken (omega arith) in
    let need : Needs (channel_at net lack.0) (n a) (e (channel_at net lack.0).source) = lack.3 in
    omega arith))
    (λ (h : m a ≤ n a). h) (cases_lt (n a) (m a))

pub decided : (net : Net) (e n m : ℕ → ℕ) → Able net e n → Full net e n → Able net e m → Full net e m → (a : ℕ) → a < length net.times → n a ≡ m a
decided net e n m able_n full_n able_m full_m a actor =
    omega (arith, decided-le net e n m full_n able_m a actor, decided-le net e m n full_m able_n a actor)

pub able-along : (net : Net) (e f n m : ℕ → ℕ) → Wired net → ((a : ℕ) → a < length net.times → e a ≡ f a) → ((a : ℕ) → a < length net.times → n a ≡ m a) → Able net e n → Able net f m
able-along net e f n m wired ended counts able = record {
  enough = λ i place.
      rw (← ended (channel_at net i).source (wired.sources i place)) (rw (← counts (channel_at net i).target (wired.targets i place)) (able.enough i place));
}

pub full-along : (net : Net) (e f n m : ℕ → ℕ) → Wired net → ((a : ℕ) → a < length net.times → e a ≡ f a) → ((a : ℕ) → a < length net.times → n a ≡ m a) → Full net e n → Full net f m
full-along net e f n m wired ended counts full a actor =
    let lack : Lacks net e a (n a) = full a actor in
    (lack.0, lack.1, lack.2, rw (← ended (channel_at net lack.0).source (wired.sources lack.0 lack.1)) (rw (← counts a actor) lack.3))

-- at most one number of firings has ended
pub ended-one : (net : Net) (t : ℕ) (s : Schedule) (a e f : ℕ) → Ended net t s a e → Ended net t s a f → e ≤ f
ended-one net t s a e f one other = ⊎_elim
    (λ (more : f < e). absurd (
    let done : end_of net s a f ≤ t = one.done f more in
    let within : e ≤ count_of s a = one.within in
    let going : t < end_of net s a f = other.going f (omega arith) (omega arith) in omega arith))
    (λ (h : e ≤ f). h) (cases_lt f e)

-- what starts at a moment ends later
pub ended-kept : (net : Net) (t : ℕ) (e : ℕ → ℕ) (s u : Schedule) → Timed net → length s ≡ length net.times → Extended net t e s u → (a n : ℕ) → Ended net t s a n → Ended net t u a n
ended-kept net t e s u long many ext a n ended = record {
  within = omega (arith, ended.within, ext.longer a);
  done = λ k below. rw (ext.kept a k (omega (arith, ended.within))) (ended.done k below);
  going = λ k from below. ⊎_elim
      (λ (old : k < count_of s a). rw (ext.kept a k old) (ended.going k from old))
      (λ (new : count_of s a ≤ k).
      let actor : a < length net.times = rw (ext.actors ∙ many) at (no_actor u a k below) in
      omega (arith, ext.added a k new below, long.some a k actor))
      (cases_lt k (count_of s a));
}

-- how many firings have ended by t, with the starts of that moment
abbrev pub ended_at : Net → ℕ → ℕ → ℕ
ended_at net t a = ended_by net t (earliest net (suc t)) a

-- one count and one start for each firing
pub record Same (s u : Schedule) : Type 0 where
  pub counts : (a : ℕ) → count_of s a ≡ count_of u a
  pub starts : (a k : ℕ) → k < count_of s a → start_of s a k ≡ start_of u a k

pub ended-along : (net : Net) (t : ℕ) (s u : Schedule) → Same s u → (a e : ℕ) → Ended net t s a e → Ended net t u a e
ended-along net t s u same a e ended = record {
  within = omega (arith, ended.within, same.counts a);
  done = λ k below. rw (← same.starts a k (omega (arith, ended.within))) (ended.done k below);
  going = λ k from below. let there : k < count_of s a = omega (arith, same.counts a) in rw (← same.starts a k there) (ended.going k from there);
}

-- no firing that has started by t and not ended by then ends before u
pub record Quiet (net : Net) (t u : ℕ) : Type 0 where
  pub still : (a k : ℕ) → ended_at net t a ≤ k → k < count_of (earliest net (suc t)) a → u ≤ end_of net (earliest net (suc t)) a k

module _ (net : Net) (reg : Regular net) (fed : HasInputs net) where
  pub early_at : (t : ℕ) → Earliest net t (earliest net t)
  early_at t = earliest-is net reg fed t

  pub ended-by-is : (t a : ℕ) → Ended net t (earliest net t) a (ended_by net t (earliest net t) a)
  ended-by-is t a = ended-is net t (earliest net t) reg.own (early_at t).admissible a

  pub ended-at-is : (t a : ℕ) → Ended net t (earliest net (suc t)) a (ended_at net t a)
  ended-at-is t a = ended-is net t (earliest net (suc t)) reg.own (early_at (suc t)).admissible a

  pub ended-same : (t a : ℕ) → ended_by net t (earliest net t) a ≡ ended_at net t a
  ended-same t a =
      let kept : Ended net t (earliest net (suc t)) a (ended_by net t (earliest net t) a) =
      ended-kept net t (ended_by net t (earliest net t)) (earliest net t) (earliest net (suc t)) reg.timed (early_at t).admissible.actors (extended-is net reg fed t) a (ended_by net t (earliest net t) a) (ended-by-is t a) in
      let here : Ended net t (earliest net (suc t)) a (ended_at net t a) = ended-at-is t a in
      omega (
        arith,
        ended-one net t (earliest net (suc t)) a (ended_by net t (earliest net t) a) (ended_at net t a) kept here,
        ended-one net t (earliest net (suc t)) a (ended_at net t a) (ended_by net t (earliest net t) a) here kept,
      )

  -- after the starts of a moment nothing more can start with what has ended by then
  pub full-at : (t : ℕ) → Full net (ended_at net t) (count_of (earliest net (suc t)))
  full-at t = full-along net (ended_by net t (earliest net t)) (ended_at net t) (count_of (earliest net (suc t))) (count_of (earliest net (suc t))) reg.wired (λ a actor. ended-same t a) (λ a actor. refl) (extended-is net reg fed t).full

  pub able-at : (t : ℕ) → Able net (ended_at net t) (count_of (earliest net (suc t)))
  able-at t = able-along net (ended_by net t (earliest net t)) (ended_at net t) (count_of (earliest net (suc t))) (count_of (earliest net (suc t))) reg.wired (λ a actor. ended-same t a) (λ a actor. refl) (extended-is net reg fed t).able

  pub past_none : (t a : ℕ) → length net.times ≤ a → count_of (earliest net t) a ≡ 0
  past_none t a past = ap length (get_or_past (earliest net t) a [] (omega (arith, (early_at t).admissible.actors)))

  pub first-ended : (a : ℕ) → ended_at net 0 a ≡ 0
  first-ended a =
      let within : ended_by net 0 (earliest net 0) a ≤ count_of (earliest net 0) a = (ended-by-is 0 a).within in
      let none : (k : ℕ) → k < count_of (earliest net 0) a → ⊥ = λ k below. let before : start_of (earliest net 0) a k < 0 = (early_at 0).before a k below in omega arith in
      let empty : count_of (earliest net 0) a ≡ 0 = ⊎_elim (λ (some : 0 < count_of (earliest net 0) a). absurd (none 0 some)) (λ (h : count_of (earliest net 0) a ≤ 0). omega arith) (cases_lt 0 (count_of (earliest net 0) a)) in
      omega (arith, ended-same 0 a)

  -- one quiet moment adds nothing
  quiet-step : (t u x : ℕ) → Quiet net t u → suc t ≤ x → x < u → Same (earliest net (suc t)) (earliest net x) → Same (earliest net (suc t)) (earliest net (suc x))
  quiet-step t u x quiet from below same =
      let still_ended : (a : ℕ) → Ended net x (earliest net x) a (ended_at net t a) = λ a.
      let base : Ended net t (earliest net (suc t)) a (ended_at net t a) = ended-at-is t a in
      ended-along net x (earliest net (suc t)) (earliest net x) same a (ended_at net t a) (record {
        within = base.within;
        done = λ k at. let done : end_of net (earliest net (suc t)) a k ≤ t = base.done k at in omega arith;
        going = λ k at started. let still : u ≤ end_of net (earliest net (suc t)) a k = quiet.still a k at started in omega arith;
      }) in
      let ended : (a : ℕ) → ended_at net t a ≡ ended_by net x (earliest net x) a = λ a.
      omega (
        arith,
        ended-one net x (earliest net x) a (ended_at net t a) (ended_by net x (earliest net x) a) (still_ended a) (ended-by-is x a),
        ended-one net x (earliest net x) a (ended_by net x (earliest net x) a) (ended_at net t a) (ended-by-is x a) (still_ended a),
      ) in
      let ext : Extended net x (ended_by net x (earliest net x)) (earliest net x) (earliest net (suc x)) = extended-is net reg fed x in
      let full : Full net (ended_by net x (earliest net x)) (count_of (earliest net x)) =
      full-along net (ended_at net t) (ended_by net x (earliest net x)) (count_of (earliest net (suc t))) (count_of (earliest net x)) reg.wired (λ a actor. ended a) (λ a actor. same.counts a) (full-at t) in
      let counts : (a : ℕ) → count_of (earliest net x) a ≡ count_of (earliest net (suc x)) a = λ a. ⊎_elim
      (λ (actor : a < length net.times). omega (
        arith,
        ext.longer a,
        decided-le net (ended_by net x (earliest net x)) (count_of (earliest net x)) (count_of (earliest net (suc x))) full ext.able a actor,
      ))
      (λ (past : length net.times ≤ a). past_none x a past ∙ sym (past_none (suc x) a past))
      (cases_lt a (length net.times)) in
      record {
        counts = λ a. same.counts a ∙ counts a;
        starts = λ a k started. same.starts a k started ∙ sym (ext.kept a k (omega (arith, same.counts a)));
      }

  -- while nothing ends nothing starts
  pub quiet-same : (t u d : ℕ) → Quiet net t u → d + suc t ≤ u → Same (earliest net (suc t)) (earliest net (d + suc t))
  quiet-same t u zero quiet below = let e : 0 + suc t ≡ suc t = omega arith in rw e (record { counts = λ a. refl; starts = λ a k started. refl })
  quiet-same t u (suc d) quiet below =
      let e : suc d + suc t ≡ suc (d + suc t) = omega arith in
      rw e (quiet-step t u (d + suc t) quiet (omega arith) (omega arith) (quiet-same t u d quiet (omega arith)))

  pub quiet-until : (t u : ℕ) → Quiet net t u → t < u → Same (earliest net (suc t)) (earliest net u)
  quiet-until t u quiet later =
      let e : (u - suc t) + suc t ≡ u = omega arith in
      subst (λ (x : ℕ). Same (earliest net (suc t)) (earliest net x)) e (quiet-same t u (u - suc t) quiet (omega arith))

  module _ (t u : ℕ) (quiet : Quiet net t u) (later : t < u) (f : ℕ → ℕ) (ended : (a : ℕ) → a < length net.times → Ended net u (earliest net (suc t)) a (f a)) where
    ended-next : (a : ℕ) → a < length net.times → f a ≡ ended_by net u (earliest net u) a
    ended-next a actor =
        let there : Ended net u (earliest net u) a (f a) = ended-along net u (earliest net (suc t)) (earliest net u) (quiet-until t u quiet later) a (f a) (ended a actor) in
        omega (
          arith,
          ended-one net u (earliest net u) a (f a) (ended_by net u (earliest net u) a) there (ended-by-is u a),
          ended-one net u (earliest net u) a (ended_by net u (earliest net u) a) (f a) (ended-by-is u a) there,
        )

    -- what has ended by the next event, also with the starts of that moment
    pub advance-ended : (a : ℕ) → a < length net.times → f a ≡ ended_at net u a
    advance-ended a actor = ended-next a actor ∙ ended-same u a

    -- the counts after the starts of the next event
    pub advance-counts : (n : ℕ → ℕ) → Able net f n → Full net f n → (a : ℕ) → a < length net.times → n a ≡ count_of (earliest net (suc u)) a
    advance-counts n able full a actor =
        let mine : (b : ℕ) → b < length net.times → ended_at net u b ≡ f b = λ b is. sym (advance-ended b is) in
        let able_there : Able net f (count_of (earliest net (suc u))) = able-along net (ended_at net u) f (count_of (earliest net (suc u))) (count_of (earliest net (suc u))) reg.wired mine (λ b is. refl) (able-at u) in
        let full_there : Full net f (count_of (earliest net (suc u))) = full-along net (ended_at net u) f (count_of (earliest net (suc u))) (count_of (earliest net (suc u))) reg.wired mine (λ b is. refl) (full-at u) in
        decided net f n (count_of (earliest net (suc u))) able full able_there full_there a actor

    -- the starts of the next event
    pub advance-extended : Extended net u (ended_by net u (earliest net u)) (earliest net u) (earliest net (suc u)) × Same (earliest net (suc t)) (earliest net u)
    advance-extended = (extended-is net reg fed u, quiet-until t u quiet later)

  -- the counts after the starts of moment 0
  pub first-counts : (n : ℕ → ℕ) → Able net (λ a. 0) n → Full net (λ a. 0) n → (a : ℕ) → a < length net.times → n a ≡ count_of (earliest net 1) a
  first-counts n able full a actor =
      let none : (b : ℕ) → b < length net.times → ended_at net 0 b ≡ 0 = λ b is. omega (arith, first-ended b) in
      let able_there : Able net (λ b. 0) (count_of (earliest net 1)) = able-along net (ended_at net 0) (λ b. 0) (count_of (earliest net 1)) (count_of (earliest net 1)) reg.wired none (λ b is. refl) (able-at 0) in
      let full_there : Full net (λ b. 0) (count_of (earliest net 1)) = full-along net (ended_at net 0) (λ b. 0) (count_of (earliest net 1)) (count_of (earliest net 1)) reg.wired none (λ b is. refl) (full-at 0) in
      decided net (λ b. 0) n (count_of (earliest net 1)) able full able_there full_there a actor

-- rows without starts
pub empty-rows : (n a : ℕ) → count_of (replicate n []) a ≡ 0
empty-rows n a = ap length (replicate-same {A = List ℕ} n a [])
