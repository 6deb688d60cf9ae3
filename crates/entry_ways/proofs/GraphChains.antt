-- Chains and ways of the net of a scenario's graph, by the numbers of the first shared tokens of its channels.
use Rattle.std.proofs.Common.{◌≡◌, ℕ, ◌-◌, ◌*◌, ◌≤◌, ◌<◌, false, List, [], length, sum, sym, ap, subst, ◌∙◌, arith, mul-le-mul_right}
use Rattle.std.specs.Prelude.{slice_index, slice_index_or}
use Rattle.std.proofs.lemmas.List.{get_or-map, length-map}
use Rattle.sd_base.specs.declared.limits.TheConstants.{STAMPS}
use Rattle.sd_base.specs.declared.tables.Kind.TheVariants.{Sdf}
use Rattle.sd_base.specs.declared.tables.GraphFile.{GraphFile}
use Rattle.sd_base.specs.declared.tables.ActorRow.{ActorRow}
use Rattle.sd_base.specs.declared.tables.SharedRow.{SharedRow}
use Rattle.sd_base.specs.Tables.{KeepsWideRules, IsTimed, phases_of}
use Rattle.sd_base.specs.Net.{Net, channel_at, IsRepetitionOf}
use Rattle.sd_base.specs.Schedules.{phases_at}
use Rattle.sd_base.specs.FileNet.{net_of}
use Rattle.sd_base.specs.Scenarios.{Shares, shared_count}
use Rattle.sd_base.proofs.ElementsKeepPlaces.{entry-le-sum}
use Rattle.token_matrix.specs.Stamps.{first_of, no_row}
use Rattle.token_matrix.specs.Ways.{IsWay}
use Rattle.token_matrix.proofs.GraphMatricesCarry.{no_actor, channels-many, tokens-are}
use Rattle.entry_ways.specs.declared.marking.EntryPlace.{EntryPlace}
use Rattle.entry_ways.specs.WayMarks.{HasWay, IsLongestWay}
use Rattle.entry_ways.specs.inside.Columns.{IsTraceable}
use Rattle.entry_ways.specs.inside.Firsts.{AreFirsts}
use Rattle.entry_ways.specs.inside.Traces.{AreApart}
use Rattle.entry_ways.proofs.SharedTokensAreApart.{channels-apart}
use Rattle.entry_ways.proofs.SameNumbers.{same-way, same-longest}

-- shared tokens have numbers below their limit, since some actor fires in a round
pub few-shared : (shared : List SharedRow) (g : GraphFile) (gamma : List ℕ) → KeepsWideRules g → IsRepetitionOf g gamma → sum gamma * shared_count shared ≤ STAMPS → shared_count shared ≤ STAMPS
few-shared shared g gamma rules gives within =
    let first : 1 ≤ slice_index gamma 0 = gives.balances.fires 0 (let f : 0 < length (phases_of g) = omega (arith, rules.some_actor, length-map g.actors (λ (r : ActorRow). r.phases)) in f) in
    let part : slice_index gamma 0 ≤ sum gamma = entry-le-sum gamma 0 in
    let up : 1 * shared_count shared ≤ sum gamma * shared_count shared = mul-le-mul_right (shared_count shared) (let f : 1 ≤ sum gamma = omega arith in f) in
    omega arith

module _ (shared : List SharedRow) (g : GraphFile) (gamma : List ℕ) (rules : KeepsWideRules g) (kind : g.kind ≡ Sdf) (firsts : List ℕ) (are : AreFirsts shared g firsts) (net : Net)
    (is : net ≡ net_of g gamma false) where
  many : length net.channels ≡ length g.channels
  many = subst (λ (n : Net). length n.channels ≡ length g.channels) (sym is) (channels-many g gamma rules kind)

  numbers : (i : ℕ) → i < length net.channels → slice_index firsts i ≡ first_of shared g i
  numbers i below = are.each i (omega (arith, many))

  -- as many marks as channels
  pub enough : (n : ℕ) → n ≡ length g.channels → length net.channels ≤ n
  enough n long = omega (arith, many)

  one-phase : IsTimed g → (a : ℕ) → a < length (net_of g gamma false).times → phases_at (net_of g gamma false) a ≡ 1
  one-phase timed a actor =
      let here : a < length g.actors = omega (arith, length-map g.actors (λ (r : ActorRow). r.times)) in
      ap (λ (t : List ℕ). length t) (get_or-map (λ (r : ActorRow). r.times) g.actors a no_actor [] here) ∙ timed a no_actor here ∙ (rules.actors a no_actor here).one_phase kind

  pub traceable : IsTimed g → IsTraceable net firsts
  traceable timed = record {
    phases = subst (λ (n : Net). (a : ℕ) → a < length n.times → phases_at n a ≡ 1) (sym is) (one-phase timed);
    long = are.long ∙ sym many;
  }

  tokens : (i : ℕ) → i < length net.channels → (channel_at net i).tokens ≡ (slice_index_or g.channels i no_row).tokens
  tokens i below = subst (λ (n : Net). (channel_at n i).tokens ≡ (slice_index_or g.channels i no_row).tokens) (sym is) (tokens-are g gamma rules kind i (omega (arith, many)))

  pub apart : Shares shared g → AreApart net (slice_index firsts)
  apart shares p i j on also = channels-apart shared g shares i j (p - slice_index firsts i) (p - slice_index firsts j) (omega (arith, many, on.place)) (omega (arith, many, also.place))
      (omega (arith, tokens i on.place, on.past, on.there)) (omega (arith, tokens j also.place, also.past, also.there))
      (omega (arith, numbers i on.place, numbers j also.place, on.past, also.past))

  -- an entry has a way by these numbers
  pub way-by : (entry : EntryPlace) → HasWay (net_of g gamma false) (first_of shared g) entry → (e : ℕ) × (cs : List ℕ) × IsWay net (slice_index firsts) entry.column entry.row e cs
  way-by entry (e, cs, way) = (
    e,
    cs,
    same-way net (first_of shared g) (slice_index firsts) (λ i below. sym (numbers i below)) entry.column entry.row e cs
        (subst (λ (n : Net). IsWay n (first_of shared g) entry.column entry.row e cs) (sym is) way),
  )

  -- and a longest way by them is one
  pub longest-by : (p q : ℕ) (cs : List ℕ) → IsLongestWay net (slice_index firsts) p q cs → IsLongestWay (net_of g gamma false) (first_of shared g) p q cs
  longest-by p q cs way = subst (λ (n : Net). IsLongestWay n (first_of shared g) p q cs) is (same-longest net (slice_index firsts) (first_of shared g) numbers p q cs way)
