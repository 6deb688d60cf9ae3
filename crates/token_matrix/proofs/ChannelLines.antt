-- The lines of an actor's channels, channel by channel.
use Rattle.std.proofs.Common.{◌≡◌, ◌≢◌, ℕ, ◌+◌, ◌≤◌, ◌<◌, List, [], ◌++◌, length, set, take, drop, replicate, Option, Some, None, refl, sym, ap, subst, ◌∙◌, inl, inr, ⊎_elim, arith}
use Rattle.std.specs.Prelude.{slice_index, slice_index_or}
use Rattle.std.proofs.lemmas.Bool.{cases_lt}
use Rattle.std.proofs.lemmas.List.{length-set, get_or-set_same, get_or-set_other, get_or-take}
use Rattle.sd_base.specs.Net.{Net, channel_at}
use Rattle.sd_base.proofs.ElementsKeepPlaces.{replicate-same}
use Rattle.sd_base.proofs.ByteTestsDecide.{some-none}
use Rattle.firing.specs.declared.sums.Port.{Port}
use Rattle.firing.specs.declared.sums.Port.TheVariants.{Made, Taken}
use Rattle.firing.specs.Wiring.{actor_at, IsListed}
use Rattle.firing.proofs.PlacesAreListed.{place_of}
use Rattle.firing.proofs.TokenMoves.{apart}
use Rattle.token_matrix.specs.inside.LaterRows.{Reaches, AreWide, IsRaised}
use Rattle.token_matrix.specs.inside.Lines.{line_at, taken_on, made_on, AreReady, AreTaken, IsLatest, ArePut}

abbrev pub Lines : Type 0
Lines = List (List (List (Option ℕ)))

-- a line that is read
pub read_line : (now : Lines) (i : ℕ) (x : List (List (Option ℕ))) → i < length now → slice_index_or now i x ≡ line_at now i
read_line now i x below = Rattle.std.proofs.lemmas.List.get_or_default now i x [] below

-- the lines of the first n channels of a list have changed by `by`, and no others
pub record Changed (channels : ℕ) (xs : List ℕ) (by : ℕ → List (List (Option ℕ)) → List (List (Option ℕ))) (old new : Lines) (n : ℕ) : Type 0 where
  pub long : length new ≡ channels
  pub done : (j : ℕ) → j < n → j < length xs → line_at new (slice_index xs j) ≡ by (slice_index xs j) (line_at old (slice_index xs j))
  pub others : (i : ℕ) → ((j : ℕ) → j < n → slice_index xs j ≢ i) → line_at new i ≡ line_at old i

pub changed_none : (channels : ℕ) (xs : List ℕ) (by : ℕ → List (List (Option ℕ)) → List (List (Option ℕ))) (old : Lines) → length old ≡ channels → Changed channels xs by old old 0
changed_none channels xs by old long = record { long = long; done = λ j h below. absurd (omega arith); others = λ i none. refl }

module _ (net : Net) (port : Port) (a : ℕ) (xs : List ℕ) (listed : IsListed net port a xs) (by : ℕ → List (List (Option ℕ)) → List (List (Option ℕ))) (old now : Lines) (n : ℕ)
    (below : n < length xs) (so_far : Changed (length net.channels) xs by old now n) where
  -- the next channel's line is as it was
  pub untouched : line_at now (slice_index xs n) ≡ line_at old (slice_index xs n)
  untouched = so_far.others (slice_index xs n) (λ j h. apart net port a xs listed j n h below)

  pub changed_more : (line : List (List (Option ℕ))) → line ≡ by (slice_index xs n) (line_at now (slice_index xs n)) → Changed (length net.channels) xs by old (set now (slice_index xs n) line) (n + 1)
  changed_more line is = record {
    long = length-set now (slice_index xs n) line ∙ so_far.long;
    done = λ j h within. ⊎_elim
        (λ (before : j < n). get_or-set_other now (slice_index xs n) (slice_index xs j) line [] (apart net port a xs listed j n before below) ∙ so_far.done j before within)
        (λ (last : n ≤ j). let same : n ≡ j = omega arith in subst (λ (k : ℕ). line_at (set now (slice_index xs n) line) (slice_index xs k) ≡ by (slice_index xs k) (line_at old (slice_index xs k))) same
        (get_or-set_same now (slice_index xs n) line [] (let place : slice_index xs n < length net.channels = listed.place n below in omega (arith, so_far.long)) ∙ is ∙ ap (by (slice_index xs n)) untouched))
        (cases_lt j n);
    others = λ i none. get_or-set_other now (slice_index xs n) i line [] (λ same. none n (omega arith) (sym same)) ∙ so_far.others i (λ j h. none j (omega arith));
  }

-- all have changed
pub changed_all : (net : Net) (port : Port) (a : ℕ) (xs : List ℕ) → IsListed net port a xs → (by : ℕ → List (List (Option ℕ)) → List (List (Option ℕ))) (old new : Lines) (n : ℕ) → n ≡ length xs → Changed (length net.channels) xs by old new n
    → (i : ℕ) → i < length net.channels → actor_at port (channel_at net i) ≡ a → line_at new i ≡ by i (line_at old i)
changed_all net port a xs listed by old new n whole so_far i place there =
    let j = place_of net port a xs listed i place there in
    subst (λ (k : ℕ). line_at new k ≡ by k (line_at old k)) j.2 (so_far.done j.0 (omega (arith, j.1)) j.1)

pub changed_others : (net : Net) (port : Port) (a : ℕ) (xs : List ℕ) → IsListed net port a xs → (by : ℕ → List (List (Option ℕ)) → List (List (Option ℕ))) (old new : Lines) (n : ℕ) → n ≡ length xs → Changed (length net.channels) xs by old new n
    → (i : ℕ) → actor_at port (channel_at net i) ≢ a → line_at new i ≡ line_at old i
changed_others net port a xs listed by old new n whole so_far i away = so_far.others i (λ j h same. away (subst (λ (k : ℕ). actor_at port (channel_at net k) ≡ a) same (listed.there j (omega arith))))

-- ---- tokens that are put

pub record PutSoFar (net : Net) (row : List (Option ℕ)) (xs : List ℕ) (old new : Lines) (n : ℕ) : Type 0 where
  pub lines : Changed (length net.channels) xs (λ i line. line ++ replicate (made_on net i) row) old new n

pub put_none : (net : Net) (row : List (Option ℕ)) (xs : List ℕ) (old : Lines) → length old ≡ length net.channels → PutSoFar net row xs old old 0
put_none net row xs old long = record { lines = changed_none (length net.channels) xs (λ i line. line ++ replicate (made_on net i) row) old long }

pub put_more : (net : Net) (row : List (Option ℕ)) (a : ℕ) (xs : List ℕ) → IsListed net Made a xs → (old now : Lines) (n i : ℕ) → n < length xs → i ≡ slice_index xs n → PutSoFar net row xs old now n
    → (line : List (List (Option ℕ))) → line ≡ line_at now i ++ replicate (made_on net i) row → PutSoFar net row xs old (set now i line) (n + 1)
put_more net row a xs listed old now n i below at so_far line is = record {
  lines = subst (λ (k : ℕ). Changed (length net.channels) xs (λ j l. l ++ replicate (made_on net j) row) old (set now k line) (n + 1)) (sym at)
      (changed_more net Made a xs listed (λ j l. l ++ replicate (made_on net j) row) old now n below so_far.lines line (is ∙ ap (λ (k : ℕ). line_at now k ++ replicate (made_on net k) row) at));
}

pub put_all : (net : Net) (row : List (Option ℕ)) (a : ℕ) (xs : List ℕ) (old new : Lines) (n : ℕ) → IsListed net Made a xs → n ≡ length xs → PutSoFar net row xs old new n → ArePut net a row old new
put_all net row a xs old new n listed whole so_far = record {
  put = λ i place there. changed_all net Made a xs listed (λ j line. line ++ replicate (made_on net j) row) old new n whole so_far.lines i place there;
  others = λ i place away. changed_others net Made a xs listed (λ j line. line ++ replicate (made_on net j) row) old new n whole so_far.lines i away;
}

-- ---- tokens that are taken, with the latest of their rows so far

pub record TakenSoFar (net : Net) (size : ℕ) (xs : List ℕ) (old new : Lines) (row : List (Option ℕ)) (n : ℕ) : Type 0 where
  pub lines : Changed (length net.channels) xs (λ i line. drop (taken_on net i) line) old new n
  pub wide : length row ≡ size
  pub after : (j k p e : ℕ) → j < n → j < length xs → k < taken_on net (slice_index xs j) → slice_index_or (slice_index_or (line_at old (slice_index xs j)) k []) p None ≡ Some e → Reaches row p e
  pub just : (p e : ℕ) → slice_index_or row p None ≡ Some e → (j : ℕ) × (k : ℕ) × (j < n) × (j < length xs) × (k < taken_on net (slice_index xs j))
      × (slice_index_or (slice_index_or (line_at old (slice_index xs j)) k []) p None ≡ Some e)

pub taken_none : (net : Net) (a size : ℕ) (xs : List ℕ) (old : Lines) → AreReady net a size old → TakenSoFar net size xs old old (replicate size None) 0
taken_none net a size xs old ready = record {
  lines = changed_none (length net.channels) xs (λ i line. drop (taken_on net i) line) old ready.long;
  wide = Rattle.std.proofs.lemmas.List.length-replicate size None;
  after = λ j k p e h. absurd (omega arith);
  just = λ p e at. absurd (some-none (slice_index_or (replicate size None) p None) e at (replicate-same size p None));
}

module _ (net : Net) (a size : ℕ) (xs : List ℕ) (listed : IsListed net Taken a xs) (old now : Lines) (n : ℕ) (below : n < length xs) (ready : AreReady net a size old) (row : List (Option ℕ))
    (so_far : TakenSoFar net size xs old now row n) where
  abbrev here : ℕ
  here = slice_index xs n

  kept : line_at now here ≡ line_at old here
  kept = untouched net Taken a xs listed (λ i line. drop (taken_on net i) line) old now n below so_far.lines

  pub next_enough : taken_on net here ≤ length (line_at now here)
  next_enough = subst (λ (line : List (List (Option ℕ))). taken_on net here ≤ length line) (sym kept) (ready.enough here (listed.place n below) (listed.there n below))

  pub next_wide : AreWide (length row) (line_at now here)
  next_wide = subst (λ (m : ℕ). AreWide m (line_at now here)) (sym so_far.wide) (subst (AreWide size) (sym kept) (ready.wide here (listed.place n below)))

  pub taken_on_more : (line : List (List (Option ℕ))) (more : List (Option ℕ)) → line ≡ drop (taken_on net here) (line_at now here) → IsRaised (take (taken_on net here) (line_at now here)) row more
      → TakenSoFar net size xs old (set now here line) more (n + 1)
  taken_on_more line more left raised = record {
    lines = changed_more net Taken a xs listed (λ i l. drop (taken_on net i) l) old now n below so_far.lines line left;
    wide = raised.long ∙ so_far.wide;
    after = λ j k p e h within few at. ⊎_elim
        (λ (before : j < n). (let d = so_far.after j k p e before within few at in let r = raised.kept p d.0 d.1 in (r.0, r.1, (let g : e ≤ r.0 = omega (arith, d.2, r.2) in g))))
        (λ (last : n ≤ j). (let same : j ≡ n = omega arith in
        let few_here : k < taken_on net here = subst (λ (b : ℕ). k < taken_on net (slice_index xs b)) same few in
        raised.raised k p e (within_taken k few_here) (sym (ap (λ (r : List (Option ℕ)). slice_index_or r p None) (row_here k few_here))
        ∙ subst (λ (b : ℕ). slice_index_or (slice_index_or (line_at old (slice_index xs b)) k []) p None ≡ Some e) same at)))
        (cases_lt j n);
    just = λ p e at. (elim (raised.just p e at) [
      | inl before ↦ (let t = so_far.just p e before in (t.0, t.1, (let h : t.0 < n + 1 = omega (arith, t.2) in h), t.3, t.4, t.5))
      | inr (k, within, is) ↦ (let few : k < taken_on net here = omega (arith, Rattle.std.proofs.lemmas.List.length-take-le (taken_on net here) (line_at now here) next_enough) in
          (n, k, omega arith, below, few, sym (ap (λ (r : List (Option ℕ)). slice_index_or r p None) (sym (row_here k few))) ∙ is))
    ]);
  }
    where
      within_taken : (k : ℕ) → k < taken_on net here → k < length (take (taken_on net here) (line_at now here))
      within_taken k few = omega (arith, Rattle.std.proofs.lemmas.List.length-take-le (taken_on net here) (line_at now here) next_enough)

      row_here : (k : ℕ) → k < taken_on net here → slice_index_or (line_at old here) k [] ≡ slice_index_or (take (taken_on net here) (line_at now here)) k []
      row_here k few = sym (get_or-take (taken_on net here) (line_at now here) k [] few ∙ ap (λ (l : List (List (Option ℕ))). slice_index_or l k []) kept)

  -- the same of the line as it is read, and of the row as it is kept
  inside : here < length now
  inside = let place : here < length net.channels = listed.place n below in omega (arith, so_far.lines.long)

  pub enough_at : (t : ℕ) (x : List (List (Option ℕ))) → t ≡ taken_on net here → t ≤ length (slice_index_or now here x)
  enough_at t x is = rw (is, read_line now here x inside) next_enough

  pub wide_at : (m : ℕ) (x : List (List (Option ℕ))) → m ≡ length row → AreWide m (slice_index_or now here x)
  wide_at m x is = subst (λ (b : ℕ). AreWide b (slice_index_or now here x)) (sym is) (subst (AreWide (length row)) (sym (read_line now here x inside)) next_wide)

  pub more_at : (t : ℕ) (x line : List (List (Option ℕ))) (given more whole : List (Option ℕ)) → t ≡ taken_on net here → given ≡ row → whole ≡ more → line ≡ drop t (slice_index_or now here x)
      → IsRaised (take t (slice_index_or now here x)) given more → TakenSoFar net size xs old (set now here line) whole (n + 1)
  more_at t x line given more whole tokens same kept_row left raised =
      let read : slice_index_or now here x ≡ line_at now here = read_line now here x inside in
      subst (λ (r : List (Option ℕ)). TakenSoFar net size xs old (set now here line) r (n + 1)) (sym kept_row)
      (taken_on_more line more
      (left ∙ ap (λ (b : ℕ). drop b (slice_index_or now here x)) tokens ∙ ap (λ (l : List (List (Option ℕ))). drop (taken_on net here) l) read)
      (subst (λ (r : List (Option ℕ)). IsRaised (take (taken_on net here) (line_at now here)) r more) same
      (subst (λ (l : List (List (Option ℕ))). IsRaised (take (taken_on net here) l) given more) read
      (subst (λ (b : ℕ). IsRaised (take b (slice_index_or now here x)) given more) tokens raised))))

pub taken_all : (net : Net) (a size : ℕ) (xs : List ℕ) (old new : Lines) (row : List (Option ℕ)) (n : ℕ) → IsListed net Taken a xs → n ≡ length xs → TakenSoFar net size xs old new row n → AreTaken net a old new × IsLatest net a size old row
taken_all net a size xs old new row n listed whole so_far = (
  record {
    taken = λ i place there. changed_all net Taken a xs listed (λ j line. drop (taken_on net j) line) old new n whole so_far.lines i place there;
    others = λ i place away. changed_others net Taken a xs listed (λ j line. drop (taken_on net j) line) old new n whole so_far.lines i away;
  },
  record {
    long = so_far.wide;
    after = λ i k p e place there few at. (let j = place_of net Taken a xs listed i place there in
        so_far.after j.0 k p e (omega (arith, j.1)) j.1 (subst (λ (b : ℕ). k < taken_on net b) (sym j.2) few)
        (subst (λ (b : ℕ). slice_index_or (slice_index_or (line_at old b) k []) p None ≡ Some e) (sym j.2) at));
    just = λ p e at. (let t = so_far.just p e at in (slice_index xs t.0, t.1, listed.place t.0 t.3, listed.there t.0 t.3, t.4, t.5));
  },
)
