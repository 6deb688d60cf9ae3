-- A schedule is admissible on the ordered net just where it is on the net and keeps the orders.
use Rattle.std.proofs.Common.{◌≡◌, ℕ, zero, suc, ◌+◌, ◌%◌, ◌≤◌, ◌<◌, Bool, true, false, List, [], length, ⊎_elim, subst, sym, refl, ap, ◌∙◌, arith}
use Rattle.std.proofs.Math.Nat.{mod-lt}
use Rattle.std.specs.Prelude.{slice_index, slice_index_or}
use Rattle.sd_base.specs.Net.{Channel, Net, nowhere, channel_at, phase_entry, total}
use Rattle.sd_base.specs.FileNet.{own_channel}
use Rattle.sd_base.specs.Lawful.{Lawful}
use Rattle.sd_base.specs.Schedules.{Schedule, Admissible, Needs, count_of, start_of, end_of, phases_at}
use Rattle.ordered.specs.Orders.{entry_at, fired, firing_at, Follows, KeepsOrder, KeepsOrders, AreOrders}
use Rattle.ordered.specs.OrderedNets.{CanBeOrdered, is_named, phases_in, rephased, order_channel, ordered}
use Rattle.ordered.proofs.CountsRepeatByTurns.{many-before, many-zero}
use Rattle.ordered.proofs.RatesCountEntries.{is_of}
use Rattle.ordered.proofs.OrderSteps.{needs-earlier, needs-last}
use Rattle.ordered.proofs.EarlierEntriesEndFirst.{Leads, chain}
use Rattle.ordered.proofs.ChannelsAreKeptOrNew.{Among, at-place, OrderAt, order-from, order-there, OrderIn, Origin, kept, new, step, origin, kept-in, step-in}
use Rattle.ordered.proofs.FiringsHaveEntries.{Named, named, entry-here, Entry, entry-of, entry-round, ones-total, some-phases, times-many, same-time, same-made, same-taken}

-- each firing of the target of a channel has what it needs
abbrev Fed : Net → Schedule → Channel → Type 0
Fed net s c = (j m : ℕ) → j < count_of s c.target → Needs c j m → (m < count_of s c.source) × (end_of net s c.source m ≤ start_of s c.target j)

module _ (net : Net) (laws : Lawful net) (can : CanBeOrdered net) (orders : List (List ℕ)) (are : AreOrders net orders) (s : Schedule) where
  end-same : (a k : ℕ) → a < length net.times → end_of (ordered net orders) s a k ≡ end_of net s a k
  end-same a k below = ap (λ (t : ℕ). start_of s a k + t) (same-time net laws orders a k below)

  fed-all : Admissible (ordered net orders) s → (c : Channel) → Among (ordered net orders).channels c → Fed (ordered net orders) s c
  fed-all admissible c among = subst (Fed (ordered net orders) s) among.is (λ j m there need. admissible.fed among.place j m among.below there need)

  needs-kept : (i j m : ℕ) → i < length net.channels → Needs (channel_at net i) j m → Needs (rephased (phases_in net orders) (channel_at net i)) j m
  needs-kept i j m below need = omega (arith, need, same-made net laws orders i m below, same-taken net laws orders i (j + 1) below)

  needs-back : (i j m : ℕ) → i < length net.channels → Needs (rephased (phases_in net orders) (channel_at net i)) j m → Needs (channel_at net i) j m
  needs-back i j m below need = omega (arith, need, same-made net laws orders i m below, same-taken net laws orders i (j + 1) below)

  entry-actor : (l m : ℕ) → l < length orders → 1 ≤ length (slice_index_or orders l []) → entry_at (slice_index_or orders l []) m < length net.times
  entry-actor l m below some = are.actors l (m % length (slice_index_or orders l [])) below (mod-lt m (omega arith))

  -- ---- what is admissible on the ordered net is so on the net, and keeps the orders

  admissible-net : Admissible (ordered net orders) s → Admissible net s
  admissible-net admissible = record {
    actors = admissible.actors ∙ times-many net laws orders;
    rising = admissible.rising;
    fed = λ i j m below there need.
        let f = fed-all admissible (rephased (phases_in net orders) (channel_at net i)) (kept-in net orders can i below) j m there (needs-kept i j m below need) in
        (f.0, rw (end-same (channel_at net i).source m (laws.sources i below)) at f.1);
  }

  keeps-orders : Admissible (ordered net orders) s → KeepsOrders net orders s
  keeps-orders admissible l below m some there =
      let round = entry-round (slice_index_or orders l []) m some in
      let small : m % length (slice_index_or orders l []) < length (slice_index_or orders l []) = mod-lt m (omega arith) in
      let e : 0 + m % length (slice_index_or orders l []) ≡ m % length (slice_index_or orders l []) = omega arith in
      let among = order-there (slice_index_or orders l []) (entry_at (slice_index_or orders l []) m) (entry_at (slice_index_or orders l []) (suc m)) 0 (length (slice_index_or orders l [])) (m % length (slice_index_or orders l []))
      (many-zero (Rattle.ordered.specs.OrderedNets.leads (slice_index_or orders l []) (entry_at (slice_index_or orders l []) m) (entry_at (slice_index_or orders l []) (suc m)))) small (rw e round.0) (rw e round.1) in
      let f = fed-all admissible (order_channel (slice_index_or orders l []) (entry_at (slice_index_or orders l []) m) (entry_at (slice_index_or orders l []) (suc m)))
      (step-in net orders l (order_channel (slice_index_or orders l []) (entry_at (slice_index_or orders l []) m) (entry_at (slice_index_or orders l []) (suc m))) below among)
      (firing_at (slice_index_or orders l []) (suc m)) (firing_at (slice_index_or orders l []) m) there
      (needs-last (slice_index_or orders l []) some (entry_at (slice_index_or orders l []) m) (entry_at (slice_index_or orders l []) (suc m)) m refl refl) in
      record { there = f.0; ends = rw (end-same (entry_at (slice_index_or orders l []) m) (firing_at (slice_index_or orders l []) m) (entry-actor l m below some)) at f.1 }

  -- ---- and the other way round

  module _ (admissible : Admissible net s) (keeps : KeepsOrders net orders s) where
    -- of two entries the firing of the earlier one ends before that of the later one starts
    ends-first : (l x y k j : ℕ) → l < length orders → (e : Entry (slice_index_or orders l []) x k) (f : Entry (slice_index_or orders l []) y j) → e.place < f.place
        → 1 ≤ length (slice_index_or orders l []) → j < count_of s y → (k < count_of s x) × (end_of net s x k ≤ start_of s y j)
    ends-first l x y k j below e f less some there =
        let number : firing_at (slice_index_or orders l []) e.place ≡ k = ap (λ (a : ℕ). fired (slice_index_or orders l []) a e.place) e.actor ∙ e.number in
        let other : firing_at (slice_index_or orders l []) f.place ≡ j = ap (λ (a : ℕ). fired (slice_index_or orders l []) a f.place) f.actor ∙ f.number in
        let have : firing_at (slice_index_or orders l []) f.place < count_of s (entry_at (slice_index_or orders l []) f.place) = rw (other, f.actor) there in
        let leads : Leads net (slice_index_or orders l []) s e.place f.place = chain net (slice_index_or orders l []) s some (keeps l below) e.place f.place less have in
        (rw (number, e.actor) at leads.there, rw (number, other, e.actor, f.actor) at leads.ends)

    fed-kept : (d : Channel) → Among net.channels d → Fed (ordered net orders) s (rephased (phases_in net orders) d)
    fed-kept d among = subst (λ (c : Channel). Fed (ordered net orders) s (rephased (phases_in net orders) c)) among.is (λ j m there need.
        let f = admissible.fed among.place j m among.below there (needs-back among.place j m among.below need) in
        (f.0, rw (end-same (channel_at net among.place).source m (laws.sources among.place among.below)) f.1))

    fed-new : (a : ℕ) → a < length net.times → is_named orders a ≡ true → Fed (ordered net orders) s (own_channel a (slice_index net.round a))
    fed-new a below is j m there need =
        let n : Named orders a = named orders a is in
        let some : 1 ≤ length (slice_index_or orders n.order []) = omega (arith, n.below) in
        let here : entry_at (slice_index_or orders n.order []) n.place ≡ a = entry-here (slice_index_or orders n.order []) n.place n.below ∙ n.is in
        let fires : 1 ≤ slice_index net.round a = laws.repetition.balances.fires a (rw (Rattle.std.proofs.lemmas.List.length-map net.times length) below) in
        let less : m < j = omega (arith, need, ones-total (slice_index net.round a) m fires, ones-total (slice_index net.round a) (j + 1) fires) in
        let e : Entry (slice_index_or orders n.order []) a m = entry-of (slice_index_or orders n.order []) a n.place m n.below here in
        let f : Entry (slice_index_or orders n.order []) a j = entry-of (slice_index_or orders n.order []) a n.place j n.below here in
        let first : e.place < f.place = many-before (is_of (slice_index_or orders n.order []) a) e.place f.place (rw (e.number, f.number) less) in
        let got = ends-first n.order a a m j n.listed e f first some there in
        (got.0, rw (end-same a m below) got.1)

    fed-step : (c : Channel) → OrderIn orders c → Fed (ordered net orders) s c
    fed-step c o = at (order-from (slice_index_or orders o.order []) 0 (length (slice_index_or orders o.order [])) c o.among)
      where
        order : List ℕ
        order = slice_index_or orders o.order []

        at : OrderAt (slice_index_or orders o.order []) 0 (length (slice_index_or orders o.order [])) c → Fed (ordered net orders) s c
        at p = subst (Fed (ordered net orders) s) (sym p.is) fed
          where
            some : 1 ≤ length (slice_index_or orders o.order [])
            some = omega (arith, p.below)

            small : p.place < length (slice_index_or orders o.order [])
            small = omega (arith, p.below)

            next : entry_at (slice_index_or orders o.order []) (suc p.place % length (slice_index_or orders o.order [])) ≡ entry_at (slice_index_or orders o.order []) (suc p.place)
            next = (entry-round (slice_index_or orders o.order []) (suc p.place) some).0

            fed : Fed (ordered net orders) s (order_channel (slice_index_or orders o.order []) (entry_at (slice_index_or orders o.order []) p.place) (entry_at (slice_index_or orders o.order []) (suc p.place)))
            fed j m there need =
                let e : Entry (slice_index_or orders o.order []) (entry_at (slice_index_or orders o.order []) p.place) m = entry-of (slice_index_or orders o.order []) (entry_at (slice_index_or orders o.order []) p.place) p.place m small refl in
                let f : Entry (slice_index_or orders o.order []) (entry_at (slice_index_or orders o.order []) (suc p.place)) j
                = entry-of (slice_index_or orders o.order []) (entry_at (slice_index_or orders o.order []) (suc p.place)) (suc p.place % length (slice_index_or orders o.order [])) j (mod-lt (suc p.place) (omega arith)) next in
                let first : e.place < f.place = needs-earlier (slice_index_or orders o.order []) some (entry_at (slice_index_or orders o.order []) p.place) (entry_at (slice_index_or orders o.order []) (suc p.place)) e.place f.place f.actor (rw (e.number, f.number) need) in
                let got = ends-first o.order (entry_at (slice_index_or orders o.order []) p.place) (entry_at (slice_index_or orders o.order []) (suc p.place)) m j o.listed e f first some there in
                (got.0, rw (end-same (entry_at (slice_index_or orders o.order []) p.place) m (entry-actor o.order p.place o.listed some)) got.1)

    fed-any : (c : Channel) → Origin net orders c → Fed (ordered net orders) s c
    fed-any c (kept d among e) = subst (Fed (ordered net orders) s) (sym e) (fed-kept d among)
    fed-any c (new a below is e) = subst (Fed (ordered net orders) s) (sym e) (fed-new a below is)
    fed-any c (step o) = fed-step c o

    pub admissible-ordered : Admissible (ordered net orders) s
    admissible-ordered = record {
      actors = admissible.actors ∙ sym (times-many net laws orders);
      rising = admissible.rising;
      fed = λ i j m below there need. fed-any (channel_at (ordered net orders) i) (origin net orders (channel_at (ordered net orders) i) (at-place (ordered net orders).channels i below)) j m there need;
    }

  pub admissible-both : Admissible (ordered net orders) s → Admissible net s × KeepsOrders net orders s
  admissible-both admissible = (admissible-net admissible, keeps-orders admissible)
