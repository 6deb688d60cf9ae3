-- Of the firings of some rounds one is the last to end.
use Rattle.std.proofs.Common.{◌≡◌, ℕ, ◌+◌, ◌*◌, ◌≤◌, ◌<◌, ⊎_elim, ap, ◌∙◌, arith}
use Rattle.std.specs.Prelude.{slice_index}
use Rattle.std.proofs.lemmas.Bool.{cases_lt}
use Rattle.completion.specs.declared.timetable.Start.{Start}
use Rattle.completion.specs.declared.timetable.Timetable.{Timetable}
use Rattle.sd_base.specs.Net.{Net}
use Rattle.sd_base.specs.Schedules.{time_of}
use Rattle.completion.specs.inside.Timetables.{IsLastOf, end_at, moment_of}

module _ (net : Net) (times : Timetable) (n : ℕ) where
  -- an actor has one last firing
  pub one-last : (x y : Start) → IsLastOf net times n x → IsLastOf net times n y → x.actor ≡ y.actor → end_at net x ≡ end_at net y
  one-last x y one other same =
      let rounds : n * slice_index net.round x.actor ≡ n * slice_index net.round y.actor = ap (λ (a : ℕ). n * slice_index net.round a) same in
      let number : x.number ≡ y.number = omega (arith, one.number, other.number) in
      let starts : moment_of times x.actor x.number ≡ moment_of times y.actor y.number = ap (λ (a : ℕ). moment_of times a x.number) same ∙ ap (moment_of times y.actor) number in
      let takes : time_of net x.actor x.number ≡ time_of net y.actor y.number = ap (λ (a : ℕ). time_of net a x.number) same ∙ ap (time_of net y.actor) number in
      omega (arith, one.start.moment, other.start.moment)

  -- none of the first actors ends later
  abbrev pub LatestBelow : ℕ → Start → Type 0
  LatestBelow b x = (y : Start) → IsLastOf net times n y → y.actor < b → end_at net y ≤ end_at net x

  pub latest-first : (x : Start) → IsLastOf net times n x → x.actor ≡ 0 → LatestBelow 1 x
  latest-first x is first y other below =
      let same : y.actor ≡ x.actor = omega arith in
      let ends : end_at net y ≡ end_at net x = one-last y x other is same in
      omega arith

  pub latest-turns : (x z : Start) (b : ℕ) → LatestBelow b x → IsLastOf net times n z → z.actor ≡ b → end_at net x < end_at net z → LatestBelow (b + 1) z
  latest-turns x z b latest is at later y other below = ⊎_elim
      (λ (old : y.actor < b). let less : end_at net y ≤ end_at net x = latest y other old in omega arith)
      (λ (new : b ≤ y.actor). let same : y.actor ≡ z.actor = omega arith in let ends : end_at net y ≡ end_at net z = one-last y z other is same in omega arith)
      (cases_lt y.actor b)

  pub latest-keeps : (x z : Start) (b : ℕ) → LatestBelow b x → IsLastOf net times n z → z.actor ≡ b → end_at net z ≤ end_at net x → LatestBelow (b + 1) x
  latest-keeps x z b latest is at later y other below = ⊎_elim
      (λ (old : y.actor < b). latest y other old)
      (λ (new : b ≤ y.actor). let same : y.actor ≡ z.actor = omega arith in let ends : end_at net y ≡ end_at net z = one-last y z other is same in omega arith)
      (cases_lt y.actor b)

  -- and none of them that ends then is of a lesser actor
  abbrev pub LeastBelow : ℕ → Start → Type 0
  LeastBelow b x = (x.actor < b) × ((y : Start) → IsLastOf net times n y → y.actor < b → end_at net y ≡ end_at net x → x.actor ≤ y.actor)

  pub least-first : (x : Start) → x.actor ≡ 0 → LeastBelow 1 x
  least-first x first = (omega arith, λ y other below ends. omega arith)

  pub least-turns : (x z : Start) (b : ℕ) → LatestBelow b x → z.actor ≡ b → end_at net x < end_at net z → LeastBelow (b + 1) z
  least-turns x z b latest at later = (
    omega arith,
    λ y other below ends. ⊎_elim
        (λ (old : y.actor < b). absurd (let less : end_at net y ≤ end_at net x = latest y other old in omega arith))
        (λ (new : b ≤ y.actor). omega arith)
        (cases_lt y.actor b),
  )

  pub least-keeps : (x : Start) (b : ℕ) → LeastBelow b x → LeastBelow (b + 1) x
  least-keeps x b least = (
    omega (arith, least.0),
    λ y other below ends. ⊎_elim
        (λ (old : y.actor < b). least.1 y other old ends)
        (λ (new : b ≤ y.actor). omega (arith, least.0))
        (cases_lt y.actor b),
  )
