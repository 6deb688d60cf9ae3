-- How far self-timed execution lets the actors of a strongly connected net come apart: by rounds, and so by firings and tokens.
use Rattle.std.proofs.Common.{◌≡◌, ℕ, zero, suc, ◌+◌, ◌*◌, ◌/◌, ◌%◌, ◌≤◌, ◌<◌, List, [], ◌∷◌, length, ⊎_elim, sym, subst, ◌∙◌, arith, mul-le-mul_left, mul-le-mul_right, div-add-mod', mod-lt}
use Rattle.std.specs.Prelude.{slice_index}
use Rattle.std.proofs.lemmas.Bool.{cases_lt}
use Rattle.sd_base.specs.declared.limits.TheConstants.{NET_TOKENS, RATE, ROUND}
use Rattle.sd_base.specs.Net.{Net, channel_at, total}
use Rattle.sd_base.specs.Schedules.{HasInputs, count_of}
use Rattle.sd_base.specs.SelfTimed.{earliest, tokens_of}
use Rattle.sd_base.specs.Lawful.{Lawful}
use Rattle.sd_base.specs.Connection.{IsPath, IsStronglyConnected, ends_of}
use Rattle.sd_base.proofs.PathsAreWalks.{IsChannel, channel-of}
use Rattle.sd_base.proofs.EndsDecideCounts.{ended_at, ended-at-is, able-at}
use Rattle.sd_base.proofs.ElementsKeepPlaces.{entry-le-sum}
use Rattle.sd_base.proofs.LawfulIsRegular.{regular, wired, balanced}
use Rattle.sd_base.proofs.RoundsKeepTokens.{whole-round}
use Rattle.sd_base.proofs.SumsRepeatByTurns.{total-le, total-times, total-bound, total-grows}

-- what holds of each of some numbers with a bound of its own, and with each greater one, holds of all with one bound
pub one-bound : (P : ℕ → ℕ → Type 0) → ((a x y : ℕ) → x ≤ y → P a x → P a y) → (n : ℕ) → ((a : ℕ) → a < n → (k : ℕ) × P a k) → (k : ℕ) × ((a : ℕ) → a < n → P a k)
one-bound P rises zero each = (0, λ a below. absurd (omega arith))
one-bound P rises (suc n) each = joined (one-bound P rises n (λ a below. each a (omega (arith, below)))) (each n (omega arith))
  where
    joined : (k : ℕ) × ((a : ℕ) → a < n → P a k) → (k : ℕ) × P n k → (k : ℕ) × ((a : ℕ) → a < suc n → P a k)
    joined (x, before) (y, last) = (
      x + y,
      λ a below. ⊎_elim
          (λ (less : a < n). rises a x (x + y) (omega arith) (before a less))
          (λ (no_less : n ≤ a). let is : a ≡ n = omega (arith, no_less, below) in rw is (rises n y (x + y) (omega arith) last))
          (cases_lt a n),
    )

some-factor : (n q size : ℕ) → n ≡ q * size → 1 ≤ n → 1 ≤ q
some-factor n q size same some = ⊎_elim
    (λ (more : 0 < q). omega (arith, more))
    (λ (none : q ≤ 0). let zero : q ≡ 0 = omega (arith, none) in let no : n ≡ 0 * size = subst (λ (k : ℕ). n ≡ k * size) zero same in absurd (omega (arith, no, some)))
    (cases_lt 0 q)

-- whole rounds, each of so many tokens, that are fed by so many tokens and begun rounds
few-rounds : (q p d turn : ℕ) → 1 ≤ turn → q * turn ≤ d + (p + 1) * turn → q ≤ p + 1 + d
few-rounds q p d turn some fed = ⊎_elim
    (λ (more : p + 1 + d < q). absurd (
    let scaled : (p + 1 + (d + 1)) * turn ≤ q * turn = mul-le-mul_right turn (omega (arith, more)) in
    let each : (d + 1) * 1 ≤ (d + 1) * turn = mul-le-mul_left (d + 1) some in
    omega (arith, scaled, each, fed)))
    (λ (few : q ≤ p + 1 + d). few)
    (cases_lt (p + 1 + d) q)

-- of n firings, so many whole rounds; one more round is more than they are
pub some-rounds : (n round : ℕ) → 1 ≤ round → (n / round * round ≤ n) × (n < (n / round + 1) * round)
some-rounds n round some =
    let parts : n % round + n / round * round ≡ n = omega (arith, div-add-mod' n round) in
    let rest : n % round < round = mod-lt n some in
    (omega (arith, parts), omega (arith, parts, rest))

pub rounds-rise : (m n round : ℕ) → 1 ≤ round → m ≤ n → m / round ≤ n / round
rounds-rise m n round some less = ⊎_elim
    (λ (more : n / round < m / round). absurd (
    let scaled : (n / round + 1) * round ≤ m / round * round = mul-le-mul_right round (omega (arith, more)) in
    omega (arith, scaled, (some-rounds m round some).0, (some-rounds n round some).1, less)))
    (λ (few : m / round ≤ n / round). few)
    (cases_lt (n / round) (m / round))

module _ (net : Net) (laws : Lawful net) (fed : HasInputs net) where
  -- the whole rounds that an actor has started up to and with t, and that it has ended
  pub started_rounds : ℕ → ℕ → ℕ
  started_rounds t a = count_of (earliest net (suc t)) a / slice_index net.round a

  pub ended_rounds : ℕ → ℕ → ℕ
  ended_rounds t a = ended_at net t a / slice_index net.round a

  round-some : (a : ℕ) → a < length net.times → 1 ≤ slice_index net.round a
  round-some a actor = (balanced net laws).fires a actor

  -- the tokens of a round on a channel
  turn_of : ℕ → ℕ
  turn_of i = total (channel_at net i).made (slice_index net.round (channel_at net i).source)

  made-turns : (i n : ℕ) → i < length net.channels → total (channel_at net i).made (n * slice_index net.round (channel_at net i).source) ≡ n * turn_of i
  unfolding turn_of
  made-turns i n place =
      let whole = (whole-round net (wired net laws) (balanced net laws)).made i place in
      total-times (channel_at net i).made (slice_index net.round (channel_at net i).source) whole.0 n whole.1

  taken-turns : (i n : ℕ) → i < length net.channels → total (channel_at net i).taken (n * slice_index net.round (channel_at net i).target) ≡ n * turn_of i
  unfolding turn_of
  taken-turns i n place =
      let round = whole-round net (wired net laws) (balanced net laws) in
      let whole = round.taken i place in
      let many : total (channel_at net i).taken (n * slice_index net.round (channel_at net i).target) ≡ n * total (channel_at net i).taken (slice_index net.round (channel_at net i).target) =
      total-times (channel_at net i).taken (slice_index net.round (channel_at net i).target) whole.0 n whole.1 in
      rw (round.kept i place) many

  turn-some : (i : ℕ) → i < length net.channels → 1 ≤ turn_of i
  unfolding turn_of
  turn-some i place =
      let s : ℕ = (channel_at net i).source in
      let whole = (whole-round net (wired net laws) (balanced net laws)).made i place in
      let grows : whole.0 ≤ total (channel_at net i).made (whole.0 * length (channel_at net i).made) = total-grows (channel_at net i).made whole.0 (laws.some_made i place) in
      let turn : whole.0 ≤ total (channel_at net i).made (slice_index net.round s) = subst (λ (n : ℕ). whole.0 ≤ total (channel_at net i).made n) (sym whole.1) grows in
      omega (arith, some-factor (slice_index net.round s) whole.0 (length (channel_at net i).made) whole.1 (round-some s (laws.sources i place)), turn)

  -- the target has started few more rounds than the source has ended
  pub along-channel : (t i : ℕ) → i < length net.channels → started_rounds t (channel_at net i).target ≤ ended_rounds t (channel_at net i).source + 1 + (channel_at net i).tokens
  unfolding started_rounds ended_rounds
  along-channel t i place = few-rounds (count_of (earliest net (suc t)) g / slice_index net.round g) (ended_at net t s / slice_index net.round s) (channel_at net i).tokens (turn_of i) some full
    where
      s : ℕ
      s = (channel_at net i).source

      g : ℕ
      g = (channel_at net i).target

      some : 1 ≤ turn_of i
      some = turn-some i place

      full : count_of (earliest net (suc t)) g / slice_index net.round g * turn_of i ≤ (channel_at net i).tokens + (ended_at net t s / slice_index net.round s + 1) * turn_of i
      full =
          let own = some-rounds (count_of (earliest net (suc t)) g) (slice_index net.round g) (round-some g (laws.targets i place)) in
          let theirs = some-rounds (ended_at net t s) (slice_index net.round s) (round-some s (laws.sources i place)) in
          let enough = (able-at net (regular net laws) fed t).enough i place in
          let started : total (channel_at net i).taken (count_of (earliest net (suc t)) g / slice_index net.round g * slice_index net.round g) ≤ total (channel_at net i).taken (count_of (earliest net (suc t)) g) = total-le (channel_at net i).taken own.0 in
          let ended : total (channel_at net i).made (ended_at net t s) ≤ total (channel_at net i).made ((ended_at net t s / slice_index net.round s + 1) * slice_index net.round s) = total-le (channel_at net i).made (omega (arith, theirs.1)) in
          omega (
            arith,
            started,
            ended,
            enough,
            taken-turns i (count_of (earliest net (suc t)) g / slice_index net.round g) place,
            made-turns i (ended_at net t s / slice_index net.round s + 1) place,
          )

  ended-few : (t a : ℕ) → a < length net.times → ended_rounds t a ≤ started_rounds t a
  unfolding started_rounds ended_rounds
  ended-few t a actor = rounds-rise (ended_at net t a) (count_of (earliest net (suc t)) a) (slice_index net.round a) (round-some a actor) (ended-at-is net (regular net laws) fed t a).within

  -- actor b has never started more than so many rounds more than a
  pub IsAhead : ℕ → ℕ → ℕ → Type 0
  IsAhead a b most = (t : ℕ) → started_rounds t b ≤ started_rounds t a + most

  along-path : (path : List ℕ) (a b : ℕ) → IsPath (ends_of net) a path b → (most : ℕ) × IsAhead a b most
  unfolding IsAhead
  along-path [] a b same = (0, λ t. rw same (omega arith))
  along-path (i ∷ path) a b (e, is, from, rest) = joined (channel-of net i e is) (along-path path e.1 b rest)
    where
      joined : IsChannel net i e → (most : ℕ) × ((t : ℕ) → started_rounds t b ≤ started_rounds t e.1 + most) → (most : ℕ) × ((t : ℕ) → started_rounds t b ≤ started_rounds t a + most)
      joined channel (most, later) = (
        most + 1 + (channel_at net i).tokens,
        λ t.
            let source : (channel_at net i).source ≡ a = channel.source ∙ sym from in
            let one : started_rounds t e.1 ≤ ended_rounds t a + 1 + (channel_at net i).tokens = rw (← channel.target) (rw (← source) (along-channel t i channel.place)) in
            let actor : a < length net.times = subst (λ (x : ℕ). x < length net.times) source (laws.sources i channel.place) in
            omega (arith, one, later t, ended-few t a actor),
      )

  ahead-more : (a b x y : ℕ) → x ≤ y → IsAhead a b x → IsAhead a b y
  unfolding IsAhead
  ahead-more a b x y less ahead = λ t. omega (arith, less, ahead t)

  module _ (strong : IsStronglyConnected net) where
    -- no actor is ever more than so many rounds ahead of another
    pub lead : (most : ℕ) × ((a : ℕ) → a < length net.times → (b : ℕ) → b < length net.times → IsAhead a b most)
    lead = one-bound
        (λ a most. (b : ℕ) → b < length net.times → IsAhead a b most)
        (λ a x y less ahead b actor. ahead-more a b x y less (ahead b actor))
        (length net.times)
        (λ a actor. one-bound (IsAhead a) (ahead-more a) (length net.times) (λ b other. let way = strong a b actor other in along-path way.0 a b way.1))

    -- a channel begins at each actor
    record HasOutput (a : ℕ) : Type 0 where
      channel : ℕ
      place : channel < length net.channels
      source : (channel_at net channel).source ≡ a

    output : (a : ℕ) → a < length net.times → HasOutput a
    output a actor = at (fed a actor)
      where
        at : (i : ℕ) × (i < length net.channels) × ((channel_at net i).target ≡ a) → HasOutput a
        at (i, place, target) = first (strong a (channel_at net i).source actor (laws.sources i place))
          where
            first : (path : List ℕ) × IsPath (ends_of net) a path (channel_at net i).source → HasOutput a
            first ([], same) = record { channel = i; place = place; source = sym same }
            first (k ∷ path, step) = let c = channel-of net k step.0 step.1 in record { channel = k; place = c.place; source = c.source ∙ sym step.2 }

    -- of each actor few firings run at a time
    pub running : (t a : ℕ) → a < length net.times → count_of (earliest net (suc t)) a ≤ ended_at net t a + (2 + NET_TOKENS + lead.0) * ROUND
    unfolding started_rounds ended_rounds IsAhead
    running t a actor =
        let out = output a actor in
        let i : ℕ = out.channel in
        let g : ℕ = (channel_at net out.channel).target in
        let round : ℕ = slice_index net.round a in
        let along : started_rounds t g ≤ ended_rounds t a + 1 + (channel_at net out.channel).tokens = subst (λ (s : ℕ). started_rounds t g ≤ ended_rounds t s + 1 + (channel_at net out.channel).tokens) out.source (along-channel t out.channel out.place) in
        let back : started_rounds t a ≤ started_rounds t g + lead.0 = lead.1 g (laws.targets out.channel out.place) a actor t in
        let few : started_rounds t a + 1 ≤ ended_rounds t a + (2 + NET_TOKENS + lead.0) = omega (arith, along, back, laws.few_tokens out.channel out.place) in
        let scaled : (started_rounds t a + 1) * round ≤ (ended_rounds t a + (2 + NET_TOKENS + lead.0)) * round = mul-le-mul_right round few in
        let small : round ≤ ROUND = omega (arith, entry-le-sum net.round a, laws.small_round) in
        let most : (2 + NET_TOKENS + lead.0) * round ≤ (2 + NET_TOKENS + lead.0) * ROUND = mul-le-mul_left (2 + NET_TOKENS + lead.0) small in
        omega (arith, scaled, most, (some-rounds (count_of (earliest net (suc t)) a) round (round-some a actor)).1, (some-rounds (ended_at net t a) round (round-some a actor)).0)

    -- and on each channel stand few tokens
    pub standing : (t i : ℕ) → i < length net.channels → tokens_of net t (earliest net (suc t)) (channel_at net i) ≤ NET_TOKENS + (lead.0 + 1) * (ROUND * RATE)
    unfolding started_rounds IsAhead turn_of
    standing t i place =
        let s : ℕ = (channel_at net i).source in
        let g : ℕ = (channel_at net i).target in
        let ahead : started_rounds t s ≤ started_rounds t g + lead.0 = lead.1 g (laws.targets i place) s (laws.sources i place) t in
        let theirs = some-rounds (count_of (earliest net (suc t)) s) (slice_index net.round s) (round-some s (laws.sources i place)) in
        let own = some-rounds (count_of (earliest net (suc t)) g) (slice_index net.round g) (round-some g (laws.targets i place)) in
        let within = (ended-at-is net (regular net laws) fed t s).within in
        let made : total (channel_at net i).made (ended_at net t s) ≤ total (channel_at net i).made ((started_rounds t s + 1) * slice_index net.round s) = total-le (channel_at net i).made (omega (arith, theirs.1, within)) in
        let taken : total (channel_at net i).taken (started_rounds t g * slice_index net.round g) ≤ total (channel_at net i).taken (count_of (earliest net (suc t)) g) = total-le (channel_at net i).taken own.0 in
        let scaled : (started_rounds t s + 1) * turn_of i ≤ (started_rounds t g + lead.0 + 1) * turn_of i = mul-le-mul_right (turn_of i) (omega (arith, ahead)) in
        let turn : turn_of i ≤ slice_index net.round s * RATE = total-bound (channel_at net i).made RATE (slice_index net.round s) (λ p. laws.small_made i p place) in
        let round : slice_index net.round s ≤ ROUND = omega (arith, entry-le-sum net.round s, laws.small_round) in
        let small : slice_index net.round s * RATE ≤ ROUND * RATE = mul-le-mul_right RATE round in
        let most : (lead.0 + 1) * turn_of i ≤ (lead.0 + 1) * (ROUND * RATE) = mul-le-mul_left (lead.0 + 1) (omega (arith, turn, small)) in
        omega (
          arith,
          made,
          taken,
          scaled,
          most,
          made-turns i (started_rounds t s + 1) place,
          taken-turns i (started_rounds t g) place,
          laws.few_tokens i place,
        )
