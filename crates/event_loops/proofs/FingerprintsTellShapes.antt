-- What the fingerprints of an execution tell of its shapes.
use Rattle.std.proofs.Common.{◌≡◌, ◌≢◌, ℕ, ◌+◌, ◌-◌, ◌≤◌, ◌<◌, List, [], ◌∷◌, ◌++◌, length, ⊎_elim, subst, sym, refl, ap, ◌∙◌, arith}
use Rattle.std.specs.Prelude.{slice_index}
use Rattle.std.proofs.lemmas.Bool.{cases_lt}
use Rattle.std.proofs.lemmas.List.{get_or_append_left, get_or_push, length_push}
use Rattle.sd_base.specs.Net.{Net}
use Rattle.sd_base.specs.Schedules.{HasInputs}
use Rattle.sd_base.specs.SelfTimed.{IsEvent, shape_at, starts_by}
use Rattle.sd_base.specs.Lawful.{Lawful}
use Rattle.selftimed.specs.Moves.{IsNextEvent}
use Rattle.loops.specs.declared.error.RunError.{RunError}
use Rattle.loops.specs.declared.error.RunError.TheVariants.{StatesSpent, TooManyStarts}
use Rattle.loops.specs.LoopAnswers.{IsRunRefusal, IsStatesSpent, IsTooManyStarts}
use Rattle.event_loops.specs.inside.Searching.{IsLast}
use Rattle.event_loops.specs.inside.Fingerprinting.{IsNew, AreFingerprints, upper_fingerprint}
use Rattle.loops.proofs.RanksRise.{rank-orders}
use Rattle.loops.proofs.ShapesRecur.{again-shape, again-back}

-- before the first event there are none
pub first-fingerprints : (net : Net) (t : ℕ) (fingerprints : List ℕ) → t ≡ 0 → AreFingerprints net t fingerprints
first-fingerprints net t fingerprints first u event before = absurd (omega arith)

-- with the fingerprint of an event they are those up to the next one
pub more-fingerprints : (net : Net) (now t p : ℕ) (fingerprints : List ℕ) → p ≡ upper_fingerprint (shape_at net now) → IsNextEvent net now t → AreFingerprints net now fingerprints → AreFingerprints net t (fingerprints ++ p ∷ [])
more-fingerprints net now t p fingerprints is next have u event before = ⊎_elim
    (λ (past : now < u). absurd (next.quiet u past before event))
    (λ (upto : u ≤ now). ⊎_elim (λ (old : u < now). among old) (λ (here : now ≤ u). itself (omega arith)) (cases_lt u now))
    (cases_lt now u)
  where
    among : u < now → (i : ℕ) × (i < length (fingerprints ++ p ∷ [])) × (slice_index (fingerprints ++ p ∷ []) i ≡ upper_fingerprint (shape_at net u))
    among old = let found = have u event old in (found.0, omega (arith, length_push fingerprints p, found.1), get_or_append_left fingerprints (p ∷ []) 0 found.0 found.1 ∙ found.2)

    itself : now ≡ u → (i : ℕ) × (i < length (fingerprints ++ p ∷ [])) × (slice_index (fingerprints ++ p ∷ []) i ≡ upper_fingerprint (shape_at net u))
    itself same = (
      length fingerprints,
      omega (arith, length_push fingerprints p),
      get_or_push fingerprints p 0 (length fingerprints) refl ∙ (is ∙ ap (λ (x : ℕ). upper_fingerprint (shape_at net x)) same),
    )

module _ (net : Net) (laws : Lawful net) (fed : HasInputs net) where
  -- if two shapes up to an event are equal, then its own came before
  came-before : (t u last : ℕ) → IsEvent net t → IsEvent net last → t < u → u ≤ last → shape_at net t ≡ shape_at net u → (x : ℕ) × (x < last) × IsEvent net x × (shape_at net x ≡ shape_at net last)
  came-before t u last one event less upto same =
      let back : last - (u - t) + (u - t) ≡ last = omega arith in (
        last - (u - t),
        omega arith,
        ⊎_elim
            (λ (h : u < last). again-back net laws fed t u less same (last - (u - t)) (omega arith) (subst (IsEvent net) (sym back) event))
            (λ (h : last ≤ u). let e : t ≡ last - (u - t) = omega arith in subst (IsEvent net) e one)
            (cases_lt u last),
        sym (subst (λ (y : ℕ). shape_at net y ≡ shape_at net (last - (u - t))) back (again-shape net laws fed t u less same (last - (u - t)) (omega arith))),
      )

  -- so a new fingerprint at an event shows that all shapes up to there differ
  new-tells : (last : ℕ) (fingerprints : List ℕ) → IsEvent net last → AreFingerprints net last fingerprints → IsNew (upper_fingerprint (shape_at net last)) fingerprints → (t u : ℕ) → IsEvent net t → t < u → u ≤ last → shape_at net t ≢ shape_at net u
  new-tells last fingerprints event have new t u one less upto same =
      let (x, before, there, again) = came-before t u last one event less upto same in
      let (i, place, fingerprint) = have x there before in
      new i place (fingerprint ∙ ap upper_fingerprint again)

  -- as many shapes as were allowed differ
  pub spent-fingerprints : (states last : ℕ) (fingerprints : List ℕ) → IsLast net states last → AreFingerprints net last fingerprints → IsNew (upper_fingerprint (shape_at net last)) fingerprints → starts_by net last ≤ 4000000 → IsStatesSpent net states
  spent-fingerprints states last fingerprints is have new few = record {
    last = last;
    event = is.event;
    number = is.whole few;
    differ = λ t u one other less number. new-tells last fingerprints is.event have new t u one less (rank-orders net laws fed u last other (omega (arith, is.whole few)));
    few = few;
  }

  -- more starts than were allowed come at the last one
  pub many-fingerprints : (states last : ℕ) (fingerprints : List ℕ) → IsLast net states last → AreFingerprints net last fingerprints → IsNew (upper_fingerprint (shape_at net last)) fingerprints → 4000000 < starts_by net last → IsTooManyStarts net states
  many-fingerprints states last fingerprints is have new many = record {
    last = last;
    event = is.event;
    number = is.number;
    differ = λ t u one other less before. new-tells last fingerprints is.event have new t u one less (omega arith);
    many = many;
  }

-- what comes of the last shape that is allowed, by its starts
pub refusal-is : (net : Net) (states starts : ℕ) (refusal : RunError) → (starts ≤ 4000000 → IsStatesSpent net states) → (4000000 < starts → IsTooManyStarts net states) →
    (starts ≤ 4000000 → refusal ≡ StatesSpent) → (4000000 < starts → refusal ≡ TooManyStarts) → IsRunRefusal net states refusal
refusal-is net states starts refusal spent many one other = ⊎_elim
    (λ (past : 4000000 < starts). let e : refusal ≡ TooManyStarts = other past in rw e (many past))
    (λ (within : starts ≤ 4000000). let e : refusal ≡ StatesSpent = one within in rw e (spent within))
    (cases_lt 4000000 starts)
