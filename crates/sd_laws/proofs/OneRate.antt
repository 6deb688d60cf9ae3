-- A net decides the steps that test it, and its execution.
use Rattle.std.proofs.Common.{◌≡◌, ℕ, ◌+◌, ◌≤◌, ◌<◌, ⊎_elim, List, length, Option, Some, None, MatchOption, refl, sym, ap, subst, ◌∙◌, inl, inr, arith}
use Rattle.std.specs.Prelude.{slice_index, slice_index_or}
use Rattle.std.proofs.lemmas.Bool.{cases_lt}
use Rattle.std.proofs.lemmas.List.{ext_get_or}
use Rattle.sd_base.specs.declared.tables.GraphFile.{GraphFile}
use Rattle.sd_base.specs.Net.{Net}
use Rattle.sd_base.specs.Lawful.{Lawful}
use Rattle.sd_base.specs.declared.limits.TheConstants.{STARTS}
use Rattle.sd_base.specs.SelfTimed.{events_by, starts_by}
use Rattle.sd_base.specs.Rates.{IsLoop}
use Rattle.sd_base.specs.Schedules.{HasInputs}
use Rattle.sd_base.specs.Untimed.{IsLive, IsEnd, Blocks}
use Rattle.balance.specs.ConnectRefusals.{HasInput, IsConnectRefusal, IsFirstWithoutInput}
use Rattle.sd_base.specs.Connection.{AreStronglyConnected, ends_of}
use Rattle.balance.specs.declared.connection.ConnectError.TheVariants as connecting
use Rattle.firing.specs.declared.table.LoopTable.{LoopTable}
use Rattle.sd_base.specs.Untimed.{IsBlockedBy, IsFirstLacking, NamesLacks}
use Rattle.lasso.specs.LoopAnswers.{IsFound, IsStatesSpent, IsTooManyStarts}
use Rattle.report.specs.declared.refusal.Refusal.{Refusal}
use Rattle.report.specs.declared.refusal.Refusal.TheVariants.{OneWay, NoInput, Deadlock}
use Rattle.sd_command.specs.declared.commands.wanted.WantedRate.{WantedRate}
use Rattle.sd_command.specs.declared.commands.wanted.WantedRounds.{WantedRounds}
use Rattle.sd_command.specs.commands.LeastTimes.{completion}
use Rattle.sd_steps.specs.ActorNames.{actor_shown}
use Rattle.report.specs.LackTexts.{lacks_list}
use Rattle.sd_steps.specs.Courses.{Analysis, through}
use Rattle.sd_steps.specs.Nets.{IsFed, joining, feeding, completing, on_live, testing}
use Rattle.sd_steps.specs.Findings.{IsRunRefusal, states_spent, too_many_starts}
use Rattle.sd_command.specs.commands.Rates.{execution}
use Rattle.sd_laws.specs.Endings.{Repeats}
use Rattle.sd_steps.proofs.PathsConnectNets.{fed-inputs}
use Rattle.sd_laws.proofs.CommandsDecide.{Determines, Decides, DecidesLast, after_decides, last_decides, through_determines}

-- what is known of nets: ending counts are one, no counts block a live net, and an execution has one ending
pub record NetLaws : Type 0 where
  pub ends : (net : Net) (v w : ℕ → ℕ) → Lawful net → IsEnd net v → IsEnd net w → (a : ℕ) → a < length net.times → v a ≡ w a
  pub live : (net : Net) (v : ℕ → ℕ) → Lawful net → IsLive net → ¬ Blocks net v
  pub spent : (net : Net) (states : ℕ) → Lawful net → HasInputs net → IsStatesSpent net states → IsTooManyStarts net states → ⊥
  pub found_spent : (net : Net) (states : ℕ) (table : LoopTable) → Lawful net → HasInputs net → IsFound net states table → IsStatesSpent net states → ⊥
  pub not_spent : (net : Net) (states entry period : ℕ) → Lawful net → HasInputs net → IsLoop net entry period → events_by net (entry + period) ≤ states → IsStatesSpent net states → ⊥
  pub not_many : (net : Net) (states entry period : ℕ) → Lawful net → HasInputs net → IsLoop net entry period → starts_by net (entry + period) ≤ STARTS → IsTooManyStarts net states → ⊥
  pub found_many : (net : Net) (states : ℕ) (table : LoopTable) → Lawful net → HasInputs net → IsFound net states table → IsTooManyStarts net states → ⊥

-- the least numbers with a property agree
pub one-least : (P : ℕ → Type 0) (x y : ℕ) → (P x → ⊥) → (P y → ⊥) → ((c : ℕ) → c < x → P c) → ((c : ℕ) → c < y → P c) → x ≡ y
one-least P x y not-x not-y below-x below-y =
    ⊎_elim (λ (h : x < y). absurd (not-x (below-y x h)))
    (λ (h : y ≤ x). ⊎_elim (λ (k : y < x). absurd (not-y (below-x y k))) (λ (k : x ≤ y). omega arith) (cases_lt y x))
    (cases_lt x y)

module _ (n : ℕ) (ends : List (ℕ × ℕ)) (some : 0 < n) where
  -- a pair that no path joins in one direction
  unjoined : (x y : ℕ) → IsConnectRefusal n ends (connecting.OneWay x y) → AreStronglyConnected n ends → ⊥
  unjoined x y (inl (zero, first)) strong = first.unreached (strong 0 y some first.actor)
  unjoined x y (inr (zero, first)) strong = first.not_reaching (strong x 0 first.actor some)

  one-pair : (x y u v : ℕ) → IsConnectRefusal n ends (connecting.OneWay x y) → IsConnectRefusal n ends (connecting.OneWay u v) → (x ≡ u) × (y ≡ v)
  one-pair x y u v (inl (p, first)) (inl (q, other)) =
      (p ∙ sym q, one-least _ y v first.unreached other.unreached first.least other.least)
  one-pair x y u v (inl (p, first)) (inr (q, other)) = absurd (first.unreached (other.reached y first.actor))
  one-pair x y u v (inr (p, first)) (inl (q, other)) = absurd (other.unreached (first.reached v other.actor))
  one-pair x y u v (inr (p, first)) (inr (q, other)) =
      (one-least _ x u first.not_reaching other.not_reaching first.least other.least, p ∙ sym q)

  one-without : (a b : ℕ) → IsFirstWithoutInput n ends a → IsFirstWithoutInput n ends b → a ≡ b
  one-without a b first other = one-least (HasInput ends) a b first.none other.none first.least other.least

-- what is named of one actor
abbrev Named : Net → (ℕ → ℕ) → ℕ → Option ℕ → Type 0
Named net v a o = MatchOption o (slice_index net.round a ≤ v a) (λ i. (v a < slice_index net.round a) × IsFirstLacking net v a i)

module _ (net : Net) (v : ℕ → ℕ) (a : ℕ) where
  -- the first lacking channel is one
  one-lacking : (i j : ℕ) → IsFirstLacking net v a i → IsFirstLacking net v a j → i ≡ j
  one-lacking i j first other =
      ⊎_elim (λ (h : i < j). absurd (other.first i h first.into first.lacks))
      (λ (h : j ≤ i). ⊎_elim (λ (k : j < i). absurd (first.first j k other.into other.lacks)) (λ (k : i ≤ j). omega arith) (cases_lt j i))
      (cases_lt i j)

  one-name : (o p : Option ℕ) → Named net v a o → Named net v a p → o ≡ p
  one-name None None full also = refl
  one-name None (Some j) full other = absurd (let less : v a < slice_index net.round a = other.0 in omega arith)
  one-name (Some i) None first full = absurd (let less : v a < slice_index net.round a = first.0 in omega arith)
  one-name (Some i) (Some j) first other = ap (λ (k : ℕ). Some k) (one-lacking i j first.1 other.1)

one-lacks : (net : Net) (v : ℕ → ℕ) (lacks more : List (Option ℕ)) → NamesLacks net v lacks → NamesLacks net v more → lacks ≡ more
one-lacks net v lacks more names also = ext_get_or None lacks more (names.actors ∙ sym also.actors) (λ a below.
    let actor : a < length net.times = omega (arith, names.actors) in
    one-name net v a (slice_index_or lacks a None) (slice_index_or more a None) (names.named a actor) (also.named a actor))

module _ (facts : NetLaws) (net : Net) (laws : Lawful net) where
  one-counts : (v w : List ℕ) (lacks more : List (Option ℕ)) → IsBlockedBy net v lacks → IsBlockedBy net w more → v ≡ w
  one-counts v w lacks more is also = ext_get_or 0 v w (is.actors ∙ sym also.actors) (λ a below.
      facts.ends net (slice_index v) (slice_index w) laws is.ends also.ends a (omega (arith, is.actors)))

  one-block : (graph : GraphFile) (v w : List ℕ) (lacks more : List (Option ℕ)) → IsBlockedBy net v lacks → IsBlockedBy net w more
      → lacks_list graph net v lacks ≡ lacks_list graph net w more
  one-block graph v w lacks more is also =
      let e : v ≡ w = one-counts v w lacks more is also in
      let names : NamesLacks net (slice_index w) lacks = subst (λ (u : List ℕ). NamesLacks net (slice_index u) lacks) e is.names in
      let f : lacks ≡ more = one-lacks net (slice_index w) lacks more names also.names in
      (cc)

  module _ (graph : GraphFile) where
    pub joining_determines : Determines (joining graph net)
    joining_determines = record {
      one = λ a b is also. refl;
      refusal = λ r s is also.
          let e = one-pair (length net.times) (ends_of net) laws.some_actor is.from is.to also.from also.to is.is also.is in
          let f : is.from ≡ also.from = e.0 in
          let g : is.to ≡ also.to = e.1 in
          is.told ∙ (ap (λ (x : ℕ). OneWay (actor_shown graph x) (actor_shown graph is.to)) f ∙ ap (λ (y : ℕ). OneWay (actor_shown graph also.from) (actor_shown graph y)) g) ∙ sym also.told;
      never = λ r a is strong. unjoined (length net.times) (ends_of net) laws.some_actor is.from is.to is.is strong;
    }

    pub feeding_determines : Determines (feeding graph net)
    feeding_determines = record {
      one = λ a b is also. refl;
      refusal = λ r s is also.
          is.told ∙ ap (λ (x : ℕ). NoInput None (actor_shown graph x)) (one-without (length net.times) (ends_of net) laws.some_actor is.actor also.actor is.is also.is) ∙ sym also.told;
      never = λ r a is fed. is.is.none (fed is.actor is.is.actor);
    }

    pub completing_determines : Determines (completing graph net)
    completing_determines = record {
      one = λ a b is also. refl;
      refusal = λ r s is also.
          is.told ∙ ap (λ (list : List ℕ). Deadlock None list) (one-block graph is.counts also.counts is.lacks also.lacks is.is also.is) ∙ sym also.told;
      never = λ r a is live. facts.live net (slice_index is.counts) laws live is.is.blocks;
    }

    module _ (states : ℕ) (fed : IsFed net) where
      one-run : (r s : Refusal) → IsRunRefusal net states r → IsRunRefusal net states s → s ≡ r
      one-run r s (states_spent is p) (states_spent also q) = q ∙ sym p
      one-run r s (states_spent is p) (too_many_starts also q) = absurd (facts.spent net states laws (fed-inputs net fed) is also)
      one-run r s (too_many_starts is p) (states_spent also q) = absurd (facts.spent net states laws (fed-inputs net fed) also is)
      one-run r s (too_many_starts is p) (too_many_starts also q) = q ∙ sym p

      no-run : (r : Refusal) (table : LoopTable) → IsRunRefusal net states r → IsFound net states table → ⊥
      no-run r table (states_spent is p) found = facts.found_spent net states table laws (fed-inputs net fed) found is
      no-run r table (too_many_starts is p) found = facts.found_many net states table laws (fed-inputs net fed) found is

    execution_decides : (ds : List (Option ℕ)) (wanted : WantedRate) → IsFed net → DecidesLast (execution graph net ds wanted)
    execution_decides ds wanted fed = record {
      one = λ r s n m is also. (one-run wanted.states fed r s is.1 also.1, also.0 ∙ sym is.0);
      no_answer = λ r answer n m is also. no-run wanted.states fed r also.1.shown.table is.1 also.1.shown.found;
      no_end = λ r s n m is also. no-run wanted.states fed r also.1.shown.table is.1 also.1.shown.found;
    }

    pub testing_determines : Determines (testing graph net)
    testing_determines =
        through_determines (joining graph net) (λ a. through (feeding graph net) (λ b. completing graph net)) joining_determines (λ a joined.
        through_determines (feeding graph net) (λ b. completing graph net) feeding_determines (λ b fed.
        completing_determines))

    -- an analysis that decides where the net has inputs
    pub live_decides : (analysis : Analysis) → (IsFed net → DecidesLast analysis) → Decides (on_live graph net analysis)
    live_decides analysis rest = after_decides (testing graph net) _ testing_determines (λ a tested. last_decides analysis (rest tested.2.1))

    pub rate_decides : (ds : List (Option ℕ)) (wanted : WantedRate) → Decides (on_live graph net (execution graph net ds wanted))
    rate_decides ds wanted = live_decides (execution graph net ds wanted) (execution_decides ds wanted)

    rounds_decide : (wanted : WantedRounds) → IsFed net → DecidesLast (completion graph net wanted)
    rounds_decide wanted fed = record {
      one = λ r s n m is also. (one-run wanted.states fed r s is.1 also.1, also.0 ∙ sym is.0);
      no_answer = λ r answer n m is also. no-run wanted.states fed r also.1.found.0 is.1 also.1.found.1;
      no_end = λ r s n m is also. also;
    }

    pub time_decides : (wanted : WantedRounds) → Decides (on_live graph net (completion graph net wanted))
    time_decides wanted = live_decides (completion graph net wanted) (rounds_decide wanted)

  -- where a shape is repeated in time, no execution is refused
  pub unrefused : (states : ℕ) → IsFed net → Repeats net states → (r : Refusal) → IsRunRefusal net states r → ⊥
  unrefused states fed (entry, period, loop, shapes, starts) r (states_spent is p) = facts.not_spent net states entry period laws (fed-inputs net fed) loop shapes is
  unrefused states fed (entry, period, loop, shapes, starts) r (too_many_starts is p) = facts.not_many net states entry period laws (fed-inputs net fed) loop starts is
