-- A closed walk of ways bounds the worst rate.
use Rattle.std.proofs.Common.{◌≡◌, ℕ, zero, suc, ◌+◌, ◌*◌, ◌≤◌, List, [], ◌∷◌, ◌++◌, length, Option, Some, subst, sym, ap, ◌∙◌, refl, arith, length-append, mul-le-mul_left}
use Rattle.std.specs.Prelude.{false, slice_get, slice_index}
use Rattle.std.proofs.lemmas.List.{length-replicate}
use Rattle.sd_base.specs.declared.tables.ScenarioFile.{ScenarioFile}
use Rattle.sd_base.specs.declared.tables.ScenarioRow.{ScenarioRow}
use Rattle.sd_base.specs.declared.tables.StateRow.{StateRow}
use Rattle.sd_base.specs.Net.{IsRepetitionOf}
use Rattle.sd_base.specs.FileNet.{net_of}
use Rattle.sd_base.specs.Lawful.{Lawful}
use Rattle.sd_base.specs.Scenarios.{shared_count}
use Rattle.sd_base.proofs.LoopRates.{slopes}
use Rattle.sd_base.proofs.RoundsKeepTokens.{one-repetition}
use Rattle.token_matrix.specs.Stamps.{first_of}
use Rattle.token_matrix.specs.Matrices.{greatest}
use Rattle.automaton.specs.WorstRates.{IsSuccessor, Follow, IsStatePath, Carries, RunsTo, zeros, IsWorst}
use Rattle.automaton.proofs.WalksJoinAndRepeat.{laps, length-laps}
use Rattle.token_matrix.specs.Ways.{IsWay}
use Rattle.bounded_scenarios.proofs.TourLists.{IsLeg, IsTour, LeadTo, run_from, HaveStamps}
use Rattle.token_matrix.proofs.EntriesGiveStamps.{greatest-least}
use Rattle.token_matrix.proofs.WayStamps.{way_stamp}

-- ---- tours one after another

pub tour-append : (P : ℕ → List ℕ → Type 0) (file : ScenarioFile) (rs ts : List ℕ) (q p r s u v w x : ℕ) → IsTour P file q p rs r s w → IsTour P file r s ts u v x →
    IsTour P file q p (rs ++ ts) u v (w + x)
tour-append P file [] ts q p r s u v w x (same, also, none) rest =
    subst (λ (n : ℕ). IsTour P file q p ts u v n) (let e : x ≡ w + x = omega (arith, none) in e)
    (subst (λ (n : ℕ). IsTour P file n p ts u v x) (sym same) (subst (λ (n : ℕ). IsTour P file r n ts u v x) (sym also) rest))
tour-append P file (next ∷ rs) ts q p r s u v w x (m, e, z, goes, leg, more, is) rest =
    (m, e, z + x, goes, leg, tour-append P file rs ts next m r s u v z x more rest, omega (arith, is))

pub lead-append : (file : ScenarioFile) (rs ts : List ℕ) (q r u : ℕ) → LeadTo file q rs r → LeadTo file r ts u → LeadTo file q (rs ++ ts) u
lead-append file [] ts q r u same rest = subst (λ (n : ℕ). LeadTo file n ts u) (sym same) rest
lead-append file (next ∷ rs) ts q r u (goes, more) rest = (goes, lead-append file rs ts next r u more rest)

pub tour-leads : (P : ℕ → List ℕ → Type 0) (file : ScenarioFile) (rs : List ℕ) (q p r s w : ℕ) → IsTour P file q p rs r s w → LeadTo file q rs r
tour-leads P file [] q p r s w (same, also, none) = same
tour-leads P file (next ∷ rs) q p r s w (m, e, z, goes, leg, more, is) = (goes, tour-leads P file rs next m r s z more)

pub run-append : (rs ts : List ℕ) (q r : ℕ) (file : ScenarioFile) → LeadTo file q rs r → run_from q (rs ++ ts) ≡ run_from q rs ++ run_from r ts
run-append [] ts q r file same = ap (λ (n : ℕ). run_from n ts) same
run-append (next ∷ rs) ts q r file (goes, more) = ap (λ (l : List ℕ). q ∷ l) (run-append rs ts next r file more)

pub length-run : (rs : List ℕ) (q : ℕ) → length (run_from q rs) ≡ length rs
length-run [] q = refl
length-run (next ∷ rs) q = ap (λ (n : ℕ). suc n) (length-run rs next)

-- a closed tour n times
pub tour-laps : (P : ℕ → List ℕ → Type 0) (file : ScenarioFile) (rs : List ℕ) (q p w : ℕ) → IsTour P file q p rs q p w → (n : ℕ) → IsTour P file q p (laps n rs) q p (n * w)
unfolding laps
tour-laps P file rs q p w tour zero = (refl, refl, omega arith)
tour-laps P file rs q p w tour (suc n) = subst (λ (x : ℕ). IsTour P file q p (rs ++ laps n rs) q p x) (let e : w + n * w ≡ suc n * w = omega arith in e)
    (tour-append P file rs (laps n rs) q p q p q p w (n * w) tour (tour-laps P file rs q p w tour n))

-- ---- stamps along them

runs-long : (file : ScenarioFile) (q : ℕ) (x y : List ℕ) → Carries file q x y → length y ≡ shared_count file.shared
runs-long file q x y (s, at, row, runs, gamma, gives, stamps) = stamps.after

module _ (file : ScenarioFile) (lawful : (k : ℕ) (row : ScenarioRow) (gamma : List ℕ) → slice_get file.scenarios k ≡ Some row → IsRepetitionOf row.graph gamma →
    Lawful (net_of row.graph gamma false)) where
  -- a round carries the stamps at least as far as a way
  pub leg-stamp : (P : ℕ → List ℕ → Type 0) (q p s e : ℕ) (x y : List ℕ) → IsLeg P file q p s e → Carries file q x y → slice_index x p + e ≤ slice_index y s
  leg-stamp P q p s e x y leg (state, at, row, runs, gamma, gives, stamps) =
      let same_state : leg.state ≡ state = (let h : ◌≡◌ {A = Option StateRow} (Some leg.state) (Some state) = sym leg.at ∙ at in (cc)) in
      let runs' : slice_get file.scenarios leg.state.scenario ≡ Some row = ap (λ (t : StateRow). slice_get file.scenarios t.scenario) same_state ∙ runs in
      let same_row : leg.row ≡ row = (let h : ◌≡◌ {A = Option ScenarioRow} (Some leg.row) (Some row) = sym leg.runs ∙ runs' in (cc)) in
      let gives' : IsRepetitionOf row.graph leg.gamma = subst (λ (t : ScenarioRow). IsRepetitionOf t.graph leg.gamma) same_row leg.gives in
      let same_gamma : leg.gamma ≡ gamma = one-repetition row.graph leg.gamma gamma gives' gives in
      let way : IsWay (net_of row.graph leg.gamma false) (first_of file.shared row.graph) p s e leg.channels =
      subst (λ (t : ScenarioRow). IsWay (net_of t.graph leg.gamma false) (first_of file.shared t.graph) p s e leg.channels) same_row leg.way in
      let way' : IsWay (net_of row.graph gamma false) (first_of file.shared row.graph) p s e leg.channels =
      subst (λ (g : List ℕ). IsWay (net_of row.graph g false) (first_of file.shared row.graph) p s e leg.channels) same_gamma way in
      way_stamp (net_of row.graph gamma false) (lawful state.scenario row gamma runs gives) (first_of file.shared row.graph) (shared_count file.shared) x y stamps p s e leg.channels way'

  pub tour-stamp : (P : ℕ → List ℕ → Type 0) (rs : List ℕ) (q p r s w : ℕ) (x y : List ℕ) → IsTour P file q p rs r s w → RunsTo file x (run_from q rs) y → slice_index x p + w ≤ slice_index y s
  tour-stamp P [] q p r s w x y (same, also, none) is =
      let a : slice_index y s ≡ slice_index x p = ap (λ (l : List ℕ). slice_index l s) is ∙ ap (λ (n : ℕ). slice_index x n) (sym also) in omega (arith, none)
  tour-stamp P (next ∷ rs) q p r s w x y (m, e, v, goes, leg, more, is) (z, carries, rest) =
      let one : slice_index x p + e ≤ slice_index z m = leg-stamp P q p m e x z leg carries in
      let two : slice_index z m + v ≤ slice_index y s = tour-stamp P rs next m r s v z y more rest in
      omega (arith, is)

  module _ (have : HaveStamps file) where
    -- each path of states has stamps
    pub runs : (qs : List ℕ) (x : List ℕ) → ((q : ℕ) (i : ℕ) → slice_get qs i ≡ Some q → (s : StateRow) × (slice_get file.states q ≡ Some s)) → length x ≡ shared_count file.shared →
        (y : List ℕ) × RunsTo file x qs y
    runs [] x known long = (x, refl)
    runs (q ∷ qs) x known long =
        let s = known q 0 refl in
        let row = have.row_of q s.0 s.1 in
        let st = have.stamps s.0.scenario row.0 row.1 in
        let y = st.2 x long in
        let carries : Carries file q x y.0 = (s.0, s.1, row.0, row.1, st.0, st.1, y.1) in
        let rest = runs qs y.0 (λ r i at. known r (suc i) at) (runs-long file q x y.0 carries) in
        (rest.0, (y.0, carries, rest.1))

    known-run : (rs : List ℕ) (q r : ℕ) → LeadTo file q rs r → (t i : ℕ) → slice_get (run_from q rs) i ≡ Some t → (s : StateRow) × (slice_get file.states t ≡ Some s)
    known-run [] q r leads t i at = absurd (cc)
    known-run (next ∷ rs) q r (goes, more) t zero at = let same : q ≡ t = (cc) in (goes.0, subst (λ (n : ℕ). slice_get file.states n ≡ Some goes.0) same goes.1)
    known-run (next ∷ rs) q r (goes, more) t (suc i) at = known-run rs next r more t i at

    follow-run : (rs : List ℕ) (q r : ℕ) → LeadTo file q rs r → (t : ℕ) → IsSuccessor file.states t q → Follow file.states t (run_from q rs)
    follow-run [] q r leads t before = tt
    follow-run (next ∷ rs) q r (goes, more) t before = (before, follow-run rs next r more q goes)

    path-run : (rs : List ℕ) (q r : ℕ) → LeadTo file q rs r → q ≡ file.initial → IsStatePath file (run_from q rs)
    path-run [] q r leads same = tt
    path-run (next ∷ rs) q r (goes, more) same = (same, follow-run rs next r more q goes)

    -- the closed walk of ways takes no longer than the worst rate allows
    pub tour-bounds : (P : ℕ → List ℕ → Type 0) (l w : ℕ) → IsWorst file l w → (front rs : List ℕ) (q p v : ℕ) → LeadTo file file.initial front q → IsTour P file q p rs q p v → l * v ≤ w * length rs
    tour-bounds P l w worst front rs q p v leads tour = slopes (l * v) (w * length rs) (w * length front + worst.slack) line
      where
        line : (n : ℕ) → l * v * n ≤ w * length rs * n + (w * length front + worst.slack)
        line n =
            let round : IsTour P file q p (laps n rs) q p (n * v) = tour-laps P file rs q p v tour n in
            let all : LeadTo file file.initial (front ++ laps n rs) q = lead-append file front (laps n rs) file.initial q q leads (tour-leads P file (laps n rs) q p q p (n * v) round) in
            let x : List ℕ = zeros file in
            let first = runs (run_from file.initial front) (zeros file) (λ t i at. known-run front file.initial q leads t i at) (length-replicate (shared_count file.shared) 0) in
            let long : length first.0 ≡ shared_count file.shared = after front file.initial (zeros file) first.0 (length-replicate (shared_count file.shared) 0) first.1 in
            let second = runs (run_from q (laps n rs)) first.0 (λ t i at. known-run (laps n rs) q q (tour-leads P file (laps n rs) q p q p (n * v) round) t i at) long in
            let low : slice_index first.0 p + n * v ≤ slice_index second.0 p = tour-stamp P (laps n rs) q p q p (n * v) first.0 second.0 round second.1 in
            let top : slice_index second.0 p ≤ greatest second.0 = greatest-least second.0 p in
            let split : run_from file.initial (front ++ laps n rs) ≡ run_from file.initial front ++ run_from q (laps n rs) = run-append front (laps n rs) file.initial q file leads in
            let whole : RunsTo file (zeros file) (run_from file.initial (front ++ laps n rs)) second.0 =
            subst (λ (qs : List ℕ). RunsTo file (zeros file) qs second.0) (sym split) (joined (run_from file.initial front) (run_from q (laps n rs)) (zeros file) first.0 second.0 first.1 second.1) in
            let path : IsStatePath file (run_from file.initial (front ++ laps n rs)) = path-run (front ++ laps n rs) file.initial q all refl in
            let above : l * greatest second.0 ≤ w * length (run_from file.initial (front ++ laps n rs)) + worst.slack = worst.bounds.above
            (run_from file.initial (front ++ laps n rs)) second.0 path whole in
            let size : length (run_from file.initial (front ++ laps n rs)) ≡ length front + n * length rs =
            length-run (front ++ laps n rs) file.initial ∙ (length-append front (laps n rs) ∙ ap (λ (m : ℕ). length front + m) (length-laps n rs)) in
            let scaled : l * (n * v) ≤ l * greatest second.0 = mul-le-mul_left l (let f : n * v ≤ greatest second.0 = omega arith in f) in
            let sized : w * length (run_from file.initial (front ++ laps n rs)) ≡ w * (length front + n * length rs) = ap (λ (m : ℕ). w * m) size in
            finish l v n w (length rs) (length front) worst.slack (l * greatest second.0) (w * length (run_from file.initial (front ++ laps n rs))) scaled above sized
          where
            finish : (l v n w c f b g h : ℕ) → l * (n * v) ≤ g → g ≤ h + b → h ≡ w * (f + n * c) → l * v * n ≤ w * c * n + (w * f + b)
            finish l v n w c f b g h one two three = omega (arith, one, two, three)

            joined : (qs rs : List ℕ) (x y z : List ℕ) → RunsTo file x qs y → RunsTo file y rs z → RunsTo file x (qs ++ rs) z
            joined [] rs x y z same rest = subst (λ (u : List ℕ). RunsTo file u rs z) same rest
            joined (t ∷ qs) rs x y z (u, carries, more) rest = (u, carries, joined qs rs u y z more rest)

            after : (rs : List ℕ) (t : ℕ) (x y : List ℕ) → length x ≡ shared_count file.shared → RunsTo file x (run_from t rs) y → length y ≡ shared_count file.shared
            after [] t x y long same = ap (λ (u : List ℕ). length u) same ∙ long
            after (next ∷ rs) t x y long (u, carries, more) = after rs next u y (runs-long file t x u carries) more
