-- Steps along links: they are one list, and are found one after another.
use Rattle.std.proofs.Common.{◌≡◌, ◌≢◌, ℕ, zero, suc, ◌+◌, ◌<◌, ◌↔◌, List, [], ◌∷◌, ◌++◌, length, take, refl, sym, ap₂, subst, ◌∙◌, arith}
use Rattle.std.specs.Prelude.{Bool, IsTrue, slice_index_or}
use Rattle.std.proofs.Math.Seq.{take-suc}
use Rattle.sd_base.specs.Net.{Net, channel_at}
use Rattle.sd_base.specs.Lawful.{Lawful}
use Rattle.critical.specs.declared.cycle.CycleStep.{CycleStep}
use Rattle.critical.specs.declared.cycle.NeedCycle.{NeedCycle}
use Rattle.critical.specs.declared.cycle.FiringNo.{FiringNo}
use Rattle.cert_text.specs.declared.certificates.LinkCycle.{LinkCycle}
use Rattle.cert_text.specs.declared.certificates.LinkStep.{LinkStep}
use Rattle.cert_checker.specs.LinkCycles.{IsAlong, AreAlong, IsSpelledBy, IsCycleOf, IsCycleLine}

push : (net : Net) (ls : List LinkStep) (ss : List CycleStep) (l : LinkStep) (s : CycleStep) → AreAlong net ls ss → IsAlong net l s → AreAlong net (ls ++ l ∷ []) (ss ++ s ∷ [])
push net [] [] l s all one = (one, tt)
push net [] (x ∷ ss) l s all one = absurd all
push net (y ∷ ls) [] l s all one = absurd all
push net (y ∷ ls) (x ∷ ss) l s all one = (all.0, push net ls ss l s all.1 one)

-- one more step
pub along-more : (net : Net) (ls : List LinkStep) (ss : List CycleStep) (k : ℕ) (d : LinkStep) (channel : ℕ) → k < length ls → AreAlong net (take k ls) ss
    → (channel < length net.channels) × ((channel_at net channel).role ≡ (slice_index_or ls k d).link) → AreAlong net (take (suc k) ls) (ss ++ record { channel = channel; to = (slice_index_or ls k d).to } ∷ [])
along-more net ls ss k d channel below so_far found =
    let l : LinkStep = slice_index_or ls k d in
    subst (λ (xs : List LinkStep). AreAlong net xs (ss ++ record { channel = channel; to = l.to } ∷ [])) (sym (take-suc ls k d below))
    (push net (take k ls) ss l (record { channel = channel; to = l.to }) so_far (record { place = found.0; role = found.1; to = refl }))

-- each link has a step
pub along-at : (net : Net) (ls : List LinkStep) (ss : List CycleStep) (k : ℕ) (d : LinkStep) → AreAlong net ls ss → k < length ls → (s : CycleStep) × IsAlong net (slice_index_or ls k d) s
along-at net [] ss k d all below = absurd (omega arith)
along-at net (l ∷ ls) [] k d all below = absurd all
along-at net (l ∷ ls) (s ∷ ss) zero d all below = (s, all.0)
along-at net (l ∷ ls) (s ∷ ss) (suc k) d all below = along-at net ls ss k d all.1 (omega arith)

-- so where no channel stands for a link there are no steps
pub none-along : (net : Net) (ls : List LinkStep) (k : ℕ) (d : LinkStep) → k < length ls → ((i : ℕ) → i < length net.channels → (channel_at net i).role ≢ (slice_index_or ls k d).link)
    → (ss : List CycleStep) → AreAlong net ls ss → ⊥
none-along net ls k d below none ss all =
    let one = along-at net ls ss k d all below in
    none one.0.channel one.1.place one.1.role

step-one : (net : Net) → Lawful net → (l : LinkStep) (s t : CycleStep) → IsAlong net l s → IsAlong net l t → s ≡ t
step-one net laws l s t a b =
    let channel : s.channel ≡ t.channel = laws.roles_differ s.channel t.channel a.place b.place (a.role ∙ sym b.role) in
    let to : s.to ≡ t.to = a.to ∙ sym b.to in
    ap₂ (λ (c : ℕ) (f : FiringNo). record { channel = c; to = f }) channel to

-- and where there are some, they are these
pub along-one : (net : Net) → Lawful net → (ls : List LinkStep) (ss ts : List CycleStep) → AreAlong net ls ss → AreAlong net ls ts → ss ≡ ts
along-one net laws [] [] [] a b = refl
along-one net laws [] (s ∷ ss) ts a b = absurd a
along-one net laws [] [] (t ∷ ts) a b = absurd b
along-one net laws (l ∷ ls) [] ts a b = absurd a
along-one net laws (l ∷ ls) (s ∷ ss) [] a b = absurd b
along-one net laws (l ∷ ls) (s ∷ ss) (t ∷ ts) a b = ap₂ (λ (x : CycleStep) (xs : List CycleStep). x ∷ xs) (step-one net laws l s t a.0 b.0) (along-one net laws ls ss ts a.1 b.1)

-- the cycle of a line
cycle-one : (net : Net) → Lawful net → (links : LinkCycle) (c d : NeedCycle) → IsSpelledBy net links c → IsSpelledBy net links d → c ≡ d
cycle-one net laws links c d a b =
    let steps : c.steps ≡ d.steps = along-one net laws links.steps c.steps d.steps a.steps b.steps in
    let time : c.time ≡ d.time = a.time ∙ sym b.time in
    let rounds : c.rounds ≡ d.rounds = a.rounds ∙ sym b.rounds in
    let first : c.first ≡ d.first = a.first ∙ sym b.first in
    ap₂ (λ (x y : ℕ). record { time = x; rounds = y; first = c.first; steps = c.steps }) time rounds
    ∙ ap₂ (λ (f : FiringNo) (ss : List CycleStep). record { time = d.time; rounds = d.rounds; first = f; steps = ss }) first steps

-- the same, of what was pushed
pub pushed-along : (net : Net) (ls : List LinkStep) (ss ts : List CycleStep) (k : ℕ) (d : LinkStep) (channel : ℕ) → k < length ls → AreAlong net (take k ls) ss
    → (channel < length net.channels) × ((channel_at net channel).role ≡ (slice_index_or ls k d).link) → ts ≡ ss ++ record { channel = channel; to = (slice_index_or ls k d).to } ∷ [] → AreAlong net (take (k + 1) ls) ts
pushed-along net ls ss ts k d channel below so_far found pushed =
    let e : k + 1 ≡ suc k = omega arith in
    rw (e, pushed) (along-more net ls ss k d channel below so_far found)

-- a line is right exactly where the cycle of its steps is
pub line-of : (net : Net) → Lawful net → (rate : ℕ × ℕ) (links : LinkCycle) (cycle : NeedCycle) → IsSpelledBy net links cycle → IsCycleOf net rate cycle ↔ IsCycleLine net rate links
line-of net laws rate links cycle spelled = (
  (λ is. record { cycle = cycle; spelled = spelled; is = is }),
  (λ line. subst (IsCycleOf net rate) (cycle-one net laws links line.cycle cycle line.spelled spelled) line.is),
)

pub line-decides : (net : Net) → Lawful net → (rate : ℕ × ℕ) (links : LinkCycle) (steps : List CycleStep) → AreAlong net links.steps steps → (b : Bool)
    → IsTrue b ↔ IsCycleOf net rate (record { time = links.time; rounds = links.rounds; first = links.first; steps = steps }) → IsTrue b ↔ IsCycleLine net rate links
line-decides net laws rate links steps along b tests =
    let both = line-of net laws rate links (record { time = links.time; rounds = links.rounds; first = links.first; steps = steps }) (record { time = refl; rounds = refl; first = refl; steps = along }) in
    (λ true_is. both.0 (tests.0 true_is), λ line. tests.1 (both.1 line))
