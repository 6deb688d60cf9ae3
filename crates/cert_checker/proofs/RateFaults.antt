-- The first fault of a certificate of a rate.
use Rattle.std.proofs.Common.{◌≡◌, ℕ, ◌+◌, ◌≤◌, ◌<◌, ◌⊎◌, List, length, inl, inr, sym, refl, subst, ⊎_elim, arith}
use Rattle.std.proofs.lemmas.Bool.{cases_lt}
use Rattle.std.specs.Prelude.{Result, Ok, Err, IfOk}
use Rattle.sd_base.specs.declared.memory.NoMemory.{NoMemory}
use Rattle.sd_base.specs.Net.{Net}
use Rattle.sd_base.specs.declared.tables.GraphFile.{GraphFile}
use Rattle.periodic.specs.ScheduleLines.{LineHolds}
use Rattle.cert_text.specs.declared.certificates.RateCertificate.{RateCertificate}
use Rattle.cert_checker.specs.declared.verdict.Reason.{Reason}
use Rattle.cert_checker.specs.declared.verdict.Reason.TheVariants as reasons
use Rattle.cert_checker.specs.declared.verdict.Verdict.{Verdict}
use Rattle.cert_checker.specs.declared.verdict.Verdict.TheVariants.{Accepted, Rejected}
use Rattle.cert_checker.specs.Verdicts.{IsFirst, IsVerdict, rank_of}
use Rattle.cert_checker.specs.NumberedBuffers.{AreBuffers}
use Rattle.cert_checker.specs.LinkCycles.{IsCycleLine}
use Rattle.cert_checker.specs.Schedules.{IsRateLine, IsScheduleLine, IsFirstFaulty}
use Rattle.cert_checker.specs.RateCertificates.{IsJoined, IsLineFault, joined, rate, schedule, starts, cycle, IsRateFault, buffers, of_line, IsRateClaim, net_by}

-- no earlier than itself
abbrev pub NotBefore : ℕ → Reason → ℕ → Reason → Type 0
NotBefore line reason l r = (line < l) ⊎ ((line ≡ l) × (rank_of reason ≤ rank_of r))

pub same : (line l : ℕ) (reason r : Reason) → l ≡ line → r ≡ reason → NotBefore line reason l r
same line l reason r il ir = inr (sym il, subst (λ (x : Reason). rank_of reason ≤ rank_of x) (sym ir) (omega arith))

module _ (net : Net) (c : RateCertificate) (is_joined : IsJoined net) (is_rate : IsRateLine c.rate) (is_schedule : IsScheduleLine net c.rate c.schedule) where
  pub first-starts : (a : ℕ) → IsFirstFaulty net c.schedule a → IsFirst (IsLineFault net c) (7 + a) reasons.Schedule
  first-starts a faulty = record { is = starts a (omega (arith, faulty.actor, is_schedule.actors)) faulty.wrong refl refl; least = least }
    where
      least : (l : ℕ) (r : Reason) → IsLineFault net c l r → NotBefore (7 + a) reasons.Schedule l r
      least l r (joined h il ir) = absurd (h is_joined)
      least l r (rate h il ir) = absurd (h is_rate)
      least l r (schedule h il ir) = absurd (h is_schedule)
      least l r (starts b within h il ir) = ⊎_elim
          (λ (less : b < a). absurd (h (faulty.earlier b less)))
          (λ (more : a ≤ b). ⊎_elim
          (λ (less : a < b). inl (omega arith))
          (λ (no_more : b ≤ a). let here : l ≡ 7 + a = omega arith in same (7 + a) l reasons.Schedule r here ir)
          (cases_lt a b))
          (cases_lt b a)
      least l r (cycle h il ir) = inl (omega (arith, faulty.actor, is_schedule.actors))

  module _ (lines : (a : ℕ) → a < length net.times → LineHolds net c.schedule.period c.schedule.rounds c.schedule.starts a) where
    all-lines : (a : ℕ) → a < length c.schedule.starts → LineHolds net c.schedule.period c.schedule.rounds c.schedule.starts a
    all-lines a below = lines a (omega (arith, is_schedule.actors))

    pub no-fault : IsCycleLine net c.rate c.cycle → (l : ℕ) (r : Reason) → IsLineFault net c l r → ⊥
    no-fault is_cycle l r (joined h il ir) = h is_joined
    no-fault is_cycle l r (rate h il ir) = h is_rate
    no-fault is_cycle l r (schedule h il ir) = h is_schedule
    no-fault is_cycle l r (starts b within h il ir) = h (all-lines b within)
    no-fault is_cycle l r (cycle h il ir) = h is_cycle

-- ---- with the buffers

module _ (graph : GraphFile) (gamma : List ℕ) (c : RateCertificate) where
  pub of-lines : AreBuffers graph.channels c.buffers → (v : Verdict) → IsVerdict (IsLineFault (net_by graph gamma c) c) (IsRateClaim (net_by graph gamma c) c) v
      → IsVerdict (IsRateFault graph gamma c) (IsRateClaim (net_by graph gamma c) c) v
  of-lines right (Accepted claim) is = (λ l r fault. none l r fault, is.1)
    where
      none : (l : ℕ) (r : Reason) → IsRateFault graph gamma c l r → ⊥
      none l r (buffers h il ir) = h right
      none l r (of_line y h) = is.0 l r h
  of-lines right (Rejected line reason) is = record { is = of_line right is.is; least = least }
    where
      least : (l : ℕ) (r : Reason) → IsRateFault graph gamma c l r → NotBefore line reason l r
      least l r (buffers h il ir) = absurd (h right)
      least l r (of_line y h) = is.least l r h

  -- so it is with the net that the code makes
  pub verdict-of : (net : Net) → net ≡ net_by graph gamma c → AreBuffers graph.channels c.buffers → (r : Result Verdict NoMemory)
      → IfOk r (IsVerdict (IsLineFault net c) (IsRateClaim net c)) → IfOk r (IsVerdict (IsRateFault graph gamma c) (IsRateClaim (net_by graph gamma c) c))
  verdict-of net same_net right (Ok v) is = of-lines right v (subst (λ (n : Net). IsVerdict (IsLineFault n c) (IsRateClaim n c) v) same_net is)
  verdict-of net same_net right (Err e) is = tt
