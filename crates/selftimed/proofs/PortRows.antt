-- Rows of channels, made actor by actor.
use Rattle.std.proofs.Common.{◌≡◌, ◌≢◌, ℕ, ◌+◌, ◌-◌, ◌≤◌, ◌<◌, List, [], ◌∷◌, ◌++◌, Option, None, length, take, drop, ⊎_elim, subst, sym, refl, ap, ◌∙◌, arith, eq-eqb}
use Rattle.std.specs.Prelude.{slice_index, slice_index_or, slice_range, ◌==◌}
use Rattle.std.proofs.Props.{props}
use Rattle.std.proofs.Math.Logic.{∥∥₁_elim}
use Rattle.std.proofs.lemmas.Bool.{cases_lt}
use Rattle.std.proofs.lemmas.List.{get_or_default, get_or_append_left, get_or_push, length_push, length-append, length-drop, take-append-le, drop-append-le, drop_at, take_all}
use Rattle.std.proofs.lemmas.List.Folds.{list_any_at}
use Rattle.sd_base.specs.Net.{Net, channel_at}
use Rattle.firing.specs.declared.sums.Port.{Port}
use Rattle.firing.specs.declared.sums.Port.TheVariants.{Made, Taken}
use Rattle.firing.specs.inside.Cuts.{AreCuts}
use Rattle.firing.specs.Wiring.{actor_at, IsListed}
use Rattle.firing.proofs.PlacesAreListed.{place_of, front, last}
use Rattle.selftimed.specs.declared.engine.Stage.{Stage}
use Rattle.selftimed.specs.declared.engine.Stage.TheVariants.{Fresh, Running, OutOfMemory}
use Rattle.selftimed.specs.declared.ports.ChannelRows.{ChannelRows}
use Rattle.selftimed.specs.declared.ports.Ports.{Ports}
use Rattle.selftimed.specs.inside.Ports.{IsOther, MayOwn, IsRising, IsListedBut, AreOthers, AreNone, Adds, row_at, own_at, AreRows, ArePortsBelow, ArePorts, StillPorts}

-- ---- the channels of a row but for the own one

pub others-none : (own : Option ℕ) (row : List ℕ) → AreOthers own row 0 []
others-none own row = record {
  rising = λ j k h below. absurd (omega arith);
  from = λ j h. absurd (omega arith);
  others = λ j h. absurd (omega arith);
  all = λ p h is. absurd (omega arith);
}

-- the next one of the row is another one
pub others-push : (own : Option ℕ) (row xs : List ℕ) (n : ℕ) → IsRising row → n < length row → IsOther own (slice_index row n) → AreOthers own row n xs → AreOthers own row (n + 1) (xs ++ slice_index row n ∷ [])
others-push own row xs n rising below other so_far = record {
  rising = λ j k h within. ⊎_elim
      (λ (old : k < length xs). rw (front xs x k old, front xs x j (omega arith)) (so_far.rising j k h old))
      (λ (new : length xs ≤ k).
      let end : k ≡ length xs = omega (arith, length_push xs x) in
      let found = so_far.from j (omega arith) in
      let less : slice_index row found.0 < slice_index row n = rising found.0 n found.1 below in
      rw (last xs x k end, front xs x j (omega arith)) (omega (arith, found.2)))
      (cases_lt k (length xs));
  from = λ j h. ⊎_elim
      (λ (old : j < length xs). let found = so_far.from j old in (found.0, omega (arith, found.1), found.2 ∙ sym (front xs x j old)))
      (λ (new : length xs ≤ j). let end : j ≡ length xs = omega (arith, length_push xs x) in (n, omega arith, sym (last xs x j end)))
      (cases_lt j (length xs));
  others = λ j h. ⊎_elim
      (λ (old : j < length xs). subst (IsOther own) (sym (front xs x j old)) (so_far.others j old))
      (λ (new : length xs ≤ j). let end : j ≡ length xs = omega (arith, length_push xs x) in subst (IsOther own) (sym (last xs x j end)) other)
      (cases_lt j (length xs));
  all = λ p h is. ⊎_elim
      (λ (old : p < n). let found = so_far.all p old is in (found.0, omega (arith, length_push xs x, found.1), front xs x found.0 found.1 ∙ found.2))
      (λ (new : n ≤ p). let same : p ≡ n = omega arith in (length xs, omega (arith, length_push xs x), last xs x (length xs) refl ∙ ap (slice_index row) (sym same)))
      (cases_lt p n);
}
  where
    x : ℕ
    x = slice_index row n

-- the next one is the own one
pub others-pass : (own : Option ℕ) (row xs : List ℕ) (n : ℕ) → ¬ IsOther own (slice_index row n) → AreOthers own row n xs → AreOthers own row (n + 1) xs
others-pass own row xs n mine so_far = record {
  rising = so_far.rising;
  from = λ j h. let found = so_far.from j h in (found.0, omega (arith, found.1), found.2);
  others = so_far.others;
  all = λ p h is. ⊎_elim
      (λ (old : p < n). so_far.all p old is)
      (λ (new : n ≤ p). let same : p ≡ n = omega arith in absurd (mine (subst (λ (q : ℕ). IsOther own (slice_index row q)) same is)))
      (cases_lt p n);
}

-- of all channels with an end at an actor they are the others
pub others-listed : (net : Net) (port : Port) (a : ℕ) (own : Option ℕ) (row xs : List ℕ) → IsListed net port a row → AreOthers own row (length row) xs → IsListedBut net port a own xs
others-listed net port a own row xs listed others = record {
  rising = others.rising;
  place = λ j h. let found = others.from j h in subst (λ (i : ℕ). i < length net.channels) found.2 (listed.place found.0 found.1);
  there = λ j h. let found = others.from j h in subst (λ (i : ℕ). actor_at port (channel_at net i) ≡ a) found.2 (listed.there found.0 found.1);
  others = others.others;
  all = λ i place at is.
      let at_row = place_of net port a row listed i place at in
      let found = others.all at_row.0 at_row.1 (subst (IsOther own) (sym at_row.2) is) in
      list_any_at (λ (x : ℕ). x == i) xs found.0 0 found.1 (eq-eqb (slice_index xs found.0) i (found.2 ∙ at_row.2));
}

-- ---- rows

pub rows-none : (net : Net) (port : Port) (owns : List (Option ℕ)) (rows : ChannelRows) → AreNone rows → AreRows net port owns rows 0
rows-none net port owns rows none = record {
  cuts = rw (none.starts, none.channels) (record {
    some = omega arith;
    up = λ a h. absurd (omega arith);
    within = λ a h. let e : a ≡ 0 = omega arith in rw e (omega arith);
  });
  long = ap length none.starts;
  end = rw (none.starts, none.channels) refl;
  each = λ a h. absurd (omega arith);
}

-- a row before the last cut stays
row-kept : (starts channels xs : List ℕ) (s e : ℕ) → s ≤ e → e ≤ length channels → slice_range (channels ++ xs) s e ≡ slice_range channels s e
row-kept starts channels xs s e up within =
    ap (take (e - s)) (drop-append-le s channels xs (omega arith)) ∙ take-append-le (e - s) (drop s channels) xs (omega (arith, length-drop s channels))

row-new : (channels xs : List ℕ) (s e : ℕ) → s ≡ length channels → e ≡ length channels + length xs → slice_range (channels ++ xs) s e ≡ xs
row-new channels xs s e from to =
    ap (take (e - s)) (drop_at channels xs s (sym from)) ∙ take_all (e - s) xs (omega arith)

module _ (net : Net) (port : Port) (owns : List (Option ℕ)) (own : Option ℕ) (old new : ChannelRows) (n : ℕ) (xs : List ℕ) (many : length owns ≡ n) (rows : AreRows net port owns old n) (adds : Adds xs old new) (listed : IsListedBut net port n own xs) where
  longer : length new.channels.items ≡ length old.channels.items + length xs
  longer = ap length adds.channels ∙ length-append old.channels.items xs

  kept : (a : ℕ) → a < n + 1 → slice_index new.starts.items a ≡ slice_index old.starts.items a
  kept a h = ap (λ (ys : List ℕ). slice_index ys a) adds.starts ∙ get_or_append_left old.starts.items (length new.channels.items ∷ []) 0 a (omega (arith, rows.long))

  added : slice_index new.starts.items (n + 1) ≡ length new.channels.items
  added = ap (λ (ys : List ℕ). slice_index ys (n + 1)) adds.starts ∙ get_or_push old.starts.items (length new.channels.items) 0 (n + 1) rows.long

  size : length new.starts.items ≡ n + 1 + 1
  size = ap length adds.starts ∙ (length_push old.starts.items (length new.channels.items) ∙ ap (λ (x : ℕ). x + 1) rows.long)

  cuts : AreCuts new.starts.items (length new.channels.items)
  cuts = record {
    some = omega (arith, size);
    up = λ a h. ⊎_elim
        (λ (before : a < n). rw (kept a (omega arith), kept (a + 1) (omega arith)) (rows.cuts.up a (omega (arith, rows.long))))
        (λ (after : n ≤ a).
        let e : a ≡ n = omega (arith, size) in
        rw e (omega (arith, kept n (omega arith), added, rows.end, longer)))
        (cases_lt a n);
    within = λ a h. ⊎_elim
        (λ (before : a < n + 1). rw (kept a before) (omega (arith, rows.cuts.within a (omega (arith, rows.long)), longer)))
        (λ (after : n + 1 ≤ a).
        let e : a ≡ n + 1 = omega (arith, size) in
        rw e (omega (arith, added)))
        (cases_lt a (n + 1));
  }

  row-old : (a : ℕ) → a < n → row_at new a ≡ row_at old a
  row-old a h =
      rw (adds.channels, kept a (omega arith), kept (a + 1) (omega arith))
      (row-kept old.starts.items old.channels.items xs (slice_index old.starts.items a) (slice_index old.starts.items (a + 1)) (rows.cuts.up a (omega (arith, rows.long))) (rows.cuts.within (a + 1) (omega (arith, rows.long))))

  row-last : row_at new n ≡ xs
  row-last =
      ap (λ (ys : List ℕ). slice_range ys (slice_index new.starts.items n) (slice_index new.starts.items (n + 1))) adds.channels
      ∙ row-new old.channels.items xs (slice_index new.starts.items n) (slice_index new.starts.items (n + 1)) (kept n (omega arith) ∙ rows.end) (added ∙ longer)

  pub rows-push : AreRows net port (owns ++ own ∷ []) new (n + 1)
  rows-push = record {
    cuts = cuts;
    long = size;
    end = added;
    each = λ a h. ⊎_elim
        (λ (before : a < n).
        rw (row-old a before, get_or_append_left owns (own ∷ []) None a (omega (arith, many))) (rows.each a before))
        (λ (after : n ≤ a).
        let e : a ≡ n = omega arith in
        rw (e, row-last, get_or_push owns own None n many) listed)
        (cases_lt a n);
  }

pub owns-push : (net : Net) (owns : List (Option ℕ)) (own : Option ℕ) (n : ℕ) → length owns ≡ n → ((a : ℕ) → a < n → MayOwn net a (own_at owns a)) → MayOwn net n own → (a : ℕ) → a < n + 1 → MayOwn net a (own_at (owns ++ own ∷ []) a)
owns-push net owns own n many old new a h = ⊎_elim
    (λ (before : a < n). rw (get_or_append_left owns (own ∷ []) None a (omega (arith, many))) (old a before))
    (λ (after : n ≤ a). let e : a ≡ n = omega arith in rw (e, get_or_push owns own None n many) new)
    (cases_lt a n)

pub ports-none : (net : Net) (p : Ports) → p.own.items ≡ [] → AreNone p.inputs → AreNone p.outputs → ArePortsBelow net p 0
ports-none net p none inputs outputs = record {
  long = ap length none;
  owns = λ a h. absurd (omega arith);
  inputs = rows-none net Taken p.own.items p.inputs inputs;
  outputs = rows-none net Made p.own.items p.outputs outputs;
}

-- what is added of an actor
abbrev pub Added : Option ℕ → List ℕ → ChannelRows → ChannelRows → Type 0
Added own row old new = (others : List ℕ) × AreOthers own row (length row) others × Adds others old new

-- those of one more actor
pub ports-push : (net : Net) (old new : Ports) (n : ℕ) (own : Option ℕ) (inputs outputs : List ℕ) → new.own.items ≡ old.own.items ++ own ∷ [] → MayOwn net n own → IsListed net Taken n inputs → IsListed net Made n outputs →
    Added own inputs old.inputs new.inputs → Added own outputs old.outputs new.outputs → ArePortsBelow net old n → ArePortsBelow net new (n + 1)
ports-push net old new n own inputs outputs push may into out_of more_inputs more_outputs so_far = record {
  long = ap length push ∙ (length_push old.own.items own ∙ ap (λ (x : ℕ). x + 1) so_far.long);
  owns = rw push (owns-push net old.own.items own n so_far.long so_far.owns may);
  inputs = rw push (rows-push net Taken old.own.items own old.inputs new.inputs n more_inputs.0 so_far.long so_far.inputs more_inputs.2 (others-listed net Taken n own inputs more_inputs.0 into more_inputs.1));
  outputs = rw push (rows-push net Made old.own.items own old.outputs new.outputs n more_outputs.0 so_far.long so_far.outputs more_outputs.2 (others-listed net Made n own outputs more_outputs.0 out_of more_outputs.1));
}

-- what is read of an actor
module _ (net : Net) (p : Ports) (are : ArePorts net p) (a : ℕ) (actor : a < length net.times) where
  pub own-place : a < length p.own.items
  own-place = rw are.long actor

  pub own-read : (o : Option ℕ) → o ≡ slice_index_or p.own.items a o → o ≡ own_at p.own.items a
  own-read o read = read ∙ get_or_default p.own.items a o None own-place

  pub may-read : (o : Option ℕ) → o ≡ slice_index_or p.own.items a o → MayOwn net a o
  may-read o read = rw (own-read o read) (are.owns a actor)

  pub into-read : (o : Option ℕ) (xs : List ℕ) → o ≡ slice_index_or p.own.items a o → xs ≡ row_at p.inputs a → IsListedBut net Taken a o xs
  into-read o xs read row = rw (own-read o read, row) (are.inputs.each a actor)

  pub out-read : (o : Option ℕ) (xs : List ℕ) → o ≡ slice_index_or p.own.items a o → xs ≡ row_at p.outputs a → IsListedBut net Made a o xs
  out-read o xs read row = rw (own-read o read, row) (are.outputs.each a actor)

  pub out-place : a + 1 < length p.outputs.starts.items
  out-place = omega (arith, are.outputs.long)

still-here : (stage : Stage) (net : Net) (p : Ports) → StillPorts stage net p → stage ≢ OutOfMemory → ArePorts net p
still-here stage net p still stays = ∥∥₁_elim (still.here stays) (hlevel props) (λ are. are)

pub fresh-ports : (stage : Stage) (net : Net) (p : Ports) → StillPorts stage net p → stage ≡ Fresh → ArePorts net p
fresh-ports stage net p still fresh = still-here stage net p still (λ lost. absurd (let clash : Fresh ≡ OutOfMemory = sym fresh ∙ lost in cc))

pub running-ports : (stage : Stage) (net : Net) (p : Ports) → StillPorts stage net p → stage ≡ Running → ArePorts net p
running-ports stage net p still running = still-here stage net p still (λ lost. absurd (let clash : Running ≡ OutOfMemory = sym running ∙ lost in cc))
