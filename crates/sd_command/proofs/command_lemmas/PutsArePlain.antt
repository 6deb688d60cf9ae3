-- The certificates that are made of answers are plain.
use Rattle.std.proofs.Common.{◌≡◌, ℕ, Bool, List, [], ◌∷◌, Option, Some, None, All, refl, ap, sym, subst, ◌∙◌}
use Rattle.std.specs.Prelude.{Contains, slice_get}
use Rattle.std.specs.List.{AllZip}
use Rattle.std.proofs.lemmas.List.Elements.{All-cons, All-nil}
use Rattle.sd_base.specs.declared.limits.Limits.{Limits}
use Rattle.sd_base.specs.declared.numbers.Fraction.{Fraction}
use Rattle.sd_base.specs.Net.{Net}
use Rattle.sd_base.specs.Untimed.{IsBlockedBy}
use Rattle.sd_base.proofs.ContainedHavePlaces.{contains-here, contains-later}
use Rattle.periodic.specs.declared.schedule.Periodic.{Periodic}
use Rattle.periodic.specs.LoopSchedules.{IsScheduleOf}
use Rattle.critical.specs.declared.cycle.NeedCycle.{NeedCycle}
use Rattle.storage.specs.declared.distribution.Distribution.{Distribution}
use Rattle.storage.specs.BoundedNets.{bound}
use Rattle.storage.specs.StorageOrder.{AreInOrder}
use Rattle.pareto_front.specs.declared.point.Point.{Point}
use Rattle.evaluations.specs.declared.shown.Shown.{Shown}
use Rattle.evaluations.specs.declared.shown.Shown.TheVariants as shown
use Rattle.explore.specs.declared.exploration.Member.{Member}
use Rattle.explore.specs.Explorations.{IsExploration, IsMember, IsPoint, ShowsRate, capacities_of}
use Rattle.explore.specs.Reachable.{IsReachable}
use Rattle.automaton.specs.declared.graph.TimedGraph.{TimedGraph}
use Rattle.automaton.specs.CriticalCycles.{AreLeast, Fit}
use Rattle.scenario_rate.specs.declared.answer.Worst.{Worst}
use Rattle.scenario_rate.specs.Answers.{IsApart, potential_at}
use Rattle.cert_text.specs.declared.certificates.Certificate.{Certificate}
use Rattle.cert_text.specs.declared.certificates.LinkCycle.{LinkCycle}
use Rattle.cert_text.specs.declared.certificates.MemberLine.{MemberLine}
use Rattle.cert_text.specs.declared.certificates.MemberShown.{MemberShown}
use Rattle.cert_text.specs.declared.certificates.MemberShown.TheVariants.{Cycle, Blocked}
use Rattle.cert_text.specs.declared.certificates.PointLine.{PointLine}
use Rattle.cert_text.specs.declared.certificates.StorageCertificate.{StorageCertificate}
use Rattle.cert_maker.specs.Links.{link_cycle}
use Rattle.cert_maker.specs.StorageCertificates.{IsMemberLine, IsPointLine, IsShownBy, IsStorageCertificate, schedules_of}
use Rattle.report.specs.declared.refusal.Refusal.{Refusal}
use Rattle.sd_steps.specs.declared.answer.Put.{Put}
use Rattle.sd_steps.specs.Certifyings.{Certifies, IsTooLong}
use Rattle.sd_command.specs.declared.commands.wanted.WantedRate.{WantedRate}
use Rattle.sd_command.specs.PlainCertificates.{IsPlainlyShown, IsPlainMember, IsPlainPoint, IsPlainTradeOff, distributions_in}
use Rattle.sd_command.specs.commands.Points.{IsPointSchedule}
use Rattle.sd_command.specs.commands.Rates.{IsOfRate, IsRateShown}
use Rattle.sd_command.specs.commands.WorstRates.{IsOfWorst}
use Rattle.sd_command.specs.inside.MadeCertificates.{IsMadeOfRate, IsMadeOfWorst}

-- ---- from what a certificate is made of to what an answer asks of it

module _ (shows plain : Certificate → Type 0) (more : (c : Certificate) → shows c → plain c) where
  pub certifies-plain : (name : Option (List ℕ)) (put : Option Put) → Certifies name shows put → Certifies name plain put
  certifies-plain None put is = is
  certifies-plain (Some name) put (c, is, rest) = (c, more c is, rest)

  pub long-plain : (name : Option (List ℕ)) (refusal : Refusal) → IsTooLong name shows refusal → IsTooLong name plain refusal
  long-plain None refusal is = is
  long-plain (Some name) refusal (c, is, rest) = (c, more c is, rest)

-- ---- rates

pub rate-plain : (net : Net) (ds : List (Option ℕ)) (wanted : WantedRate) (schedule : Periodic) (cycle : NeedCycle) → IsRateShown net wanted.states schedule cycle
    → (c : Certificate) → IsMadeOfRate net ds wanted schedule cycle c → IsOfRate net ds wanted schedule cycle c
rate-plain net ds wanted schedule cycle is c (r, same, made) = (
  r,
  same,
  made,
  record {
    table = is.table;
    found = is.found;
    schedule = subst (λ (s : Periodic). IsScheduleOf net is.table s) (sym made.keeps) is.of_loop;
    cycle = (cycle, is.critical, made.bounds);
  },
)

-- ---- worst rates

pub worst-plain : (graph : TimedGraph) (worst : Worst) → IsApart graph.edges worst.cycle → Fit graph worst.rate.num worst.rate.den (potential_at worst.potentials)
    → AreLeast graph worst.rate.num worst.rate.den (potential_at worst.potentials) → (c : Certificate) → IsMadeOfWorst graph worst c → IsOfWorst graph worst c
worst-plain graph worst once fit least c (s, same, made) = (s, same, made, record { worst = worst; listed = made; once = once; fit = fit; least = least })

-- ---- trade-offs

-- lines list the distributions of their members
same-distributions : (net : Net) (cycles : List LinkCycle) (ms : List Member) (lines : List MemberLine) → AllZip (IsMemberLine net cycles) ms lines → distributions_in lines ≡ capacities_of ms
same-distributions net cycles [] [] all = refl
same-distributions net cycles [] (l ∷ lines) all = absurd all
same-distributions net cycles (m ∷ ms) [] all = absurd all
same-distributions net cycles (m ∷ ms) (l ∷ lines) all =
    ap (λ (d : Distribution). d.capacities ∷ distributions_in lines) all.0.capacities ∙ ap (λ (dss : List (List (Option ℕ))). m.capacities.capacities ∷ dss) (same-distributions net cycles ms lines all.1)

-- what a line shows of a member's rate
line-shows : (net : Net) (ds : List (Option ℕ)) (states : ℕ) (cycles : List LinkCycle) (rate : Fraction) (s : Shown) (line : MemberShown) → ShowsRate net ds states rate s → IsShownBy (bound net ds) cycles rate s line
    → IsPlainlyShown (bound net ds) states cycles line
line-shows net ds states cycles rate (shown.Cycle cycle) (Cycle r i) is by = (link_cycle (bound net ds) cycle, by.1, (is.0, is.1, (cycle, is.2, refl)))
line-shows net ds states cycles rate (shown.Cycle cycle) (Blocked counts) is by = absurd by
line-shows net ds states cycles rate (shown.Blocked counts) (Cycle r i) is by = absurd by
line-shows net ds states cycles rate (shown.Blocked counts) (Blocked listed) is by = (is.0, subst (λ (v : List ℕ). IsBlockedBy (bound net ds) v is.0) (sym by) is.1)

module _ (net : Net) (states : ℕ) (c : StorageCertificate) where
  member-plain : (m : Member) (line : MemberLine) → IsMember net states m → IsReachable net c.limit m.capacities.capacities → IsMemberLine net c.cycles m line → IsPlainMember net states c line
  member-plain m line is reachable listed =
      let at = line-shows net m.capacities.capacities states c.cycles m.rate m.shown line.shown is.shown listed.shown in record {
        reachable = subst (λ (d : Distribution). IsReachable net c.limit d.capacities) (sym listed.capacities) reachable;
        shown = subst (λ (d : Distribution). IsPlainlyShown (bound net d.capacities) states c.cycles line.shown) (sym listed.capacities) at;
      }

  members-plain : (ms : List Member) (lines : List MemberLine) → ((m : Member) → Contains ms m → IsMember net states m) → ((ds : List (Option ℕ)) → Contains (capacities_of ms) ds → IsReachable net c.limit ds)
      → AllZip (IsMemberLine net c.cycles) ms lines → All (IsPlainMember net states c) lines
  members-plain [] [] is reachable all = All-nil (IsPlainMember net states c)
  members-plain [] (l ∷ lines) is reachable all = absurd all
  members-plain (m ∷ ms) [] is reachable all = absurd all
  members-plain (m ∷ ms) (l ∷ lines) is reachable all =
      All-cons (IsPlainMember net states c) l lines
      (member-plain m l (is m (contains-here m ms)) (reachable m.capacities.capacities (contains-here m.capacities.capacities (capacities_of ms))) all.0)
      (members-plain ms lines (λ n one. is n (contains-later m ms n one)) (λ ds one. reachable ds (contains-later m.capacities.capacities (capacities_of ms) ds one)) all.1)

module _ (net : Net) (limits : Limits) (members : List Member) (lines : List MemberLine) (same : distributions_in lines ≡ capacities_of members) where
  points-plain : (ps : List Point) (rows : List PointLine) → ((p : Point) → Contains ps p → IsPoint net limits p) → AllZip (IsPointLine members) ps rows → AllZip (IsPointSchedule net) ps (schedules_of rows)
      → All (IsPlainPoint net limits.states lines) rows
  points-plain [] [] is all reached = All-nil (IsPlainPoint net limits.states lines)
  points-plain [] (row ∷ rows) is all reached = absurd all
  points-plain (p ∷ ps) [] is all reached = absurd all
  points-plain (p ∷ ps) (row ∷ rows) is all reached =
      All-cons (IsPlainPoint net limits.states lines) row rows
      (record {
        distribution = p.capacities.capacities;
        at = subst (λ (dss : List (List (Option ℕ))). slice_get dss row.member ≡ Some p.capacities.capacities) (sym same) all.0.member;
        table = p.table;
        found = (is p (contains-here p ps)).found;
        schedule = reached.0.of_loop;
      })
      (points-plain ps rows (λ q one. is q (contains-later p ps q one)) all.1 reached.1)

pub trade_off-plain : (net : Net) (no_overlap : Bool) (limits : Limits) (members : List Member) (points : List Point) (schedules : List Periodic) (c : StorageCertificate) → IsExploration net limits members points
    → AllZip (IsPointSchedule net) points schedules → IsStorageCertificate net no_overlap limits.total members points schedules c → IsPlainTradeOff net limits.states c
trade_off-plain net no_overlap limits members points schedules c is reached made =
    let same = same-distributions net c.cycles members c.members made.listed in record {
      members = members-plain net limits.states c members c.members is.evaluated (subst (λ (k : ℕ). (ds : List (Option ℕ)) → Contains (capacities_of members) ds → IsReachable net k ds) (sym made.within) is.reachable) made.listed;
      order = subst (λ (dss : List (List (Option ℕ))). AreInOrder net.channels dss) (sym same) is.order;
      points = points-plain net limits members c.members same points c.points is.reached made.reached (subst (λ (ss : List Periodic). AllZip (IsPointSchedule net) points ss) (sym made.keep) reached);
    }
