-- The net of an expansion has the copies, their times, and the links as channels.
use Rattle.std.proofs.Common.{◌≡◌, ℕ, zero, suc, ◌+◌, ◌*◌, ◌≤◌, ◌<◌, false, List, [], ◌∷◌, ◌++◌, length, sum, subst, sym, refl, ap, ◌∙◌, arith, map}
use Rattle.std.specs.Prelude.{slice_index, slice_index_or}
use Rattle.std.proofs.lemmas.List.{length-map, get_or-map, append-nil}
use Rattle.sd_base.specs.declared.tables.GraphFile.{GraphFile}
use Rattle.sd_base.specs.declared.tables.ActorRow.{ActorRow}
use Rattle.sd_base.specs.declared.tables.ChannelRow.{ChannelRow}
use Rattle.sd_base.specs.Net.{Channel, Net, channel_at, nowhere, total, phase_entry, file_channel, file_channels, file_channels_from}
use Rattle.sd_base.specs.FileNet.{own_channels_from}
use Rattle.sd_base.specs.Schedules.{time_of, Needs}
use Rattle.sd_base.proofs.FileNets.{file-at, file-length}
use Rattle.sd_base.proofs.LawfulIsRegular.{Wired, Balanced, all_one-total}
use Rattle.sd_base.proofs.RoundsKeepTokens.{whole-rounds, time-shift}
use Rattle.sd_base.proofs.FiringsKeepOrder.{one_time}
use Rattle.single_rate.specs.declared.links.Link.{Link as LinkRow}
use Rattle.single_rate.specs.Expansions.{by_copies, copy_row, copy_rows, expansion, first_copy, link_row, link_rows, links_of}
use Rattle.single_rate.specs.Firings.{TakesOf, IsLink, no_link}
use Rattle.single_rate.specs.Namings.{expanded}
use Rattle.single_rate.proofs.ByCopies.{length-copies, at-copy}
use Rattle.single_rate.proofs.CopyNumbers.{copy-of}
use Rattle.single_rate.proofs.LinkPlaces.{links-sound, links-complete}
use Rattle.single_rate.proofs.LinksOrderCopies.{Joins, Link, Unrolled}

-- link n as a channel of a net
unfoldable pub link_channel : ℕ → LinkRow → Channel
link_channel n l = file_channel n (link_row n l)

pub length-rows : (n : ℕ) (ls : List LinkRow) → length (link_rows n ls) ≡ length ls
length-rows n [] = refl
length-rows n (l ∷ ls) = ap suc (length-rows (n + 1) ls)

-- link i in a table of channels
pub rows-at : (n : ℕ) (ls : List LinkRow) (i : ℕ) (d : ChannelRow) → i < length ls → slice_index_or (link_rows n ls) i d ≡ link_row (n + i) (slice_index_or ls i no_link)
rows-at n [] i d below = absurd (omega arith)
rows-at n (l ∷ ls) zero d below = let e : n + 0 ≡ n = omega arith in rw e refl
rows-at n (l ∷ ls) (suc i) d below = let e : n + suc i ≡ (n + 1) + i = omega arith in rw e (rows-at (n + 1) ls i d (omega arith))

-- what stands for a row past the last one
abbrev pub no_channel : ChannelRow
no_channel = record { name = []; source = 0; target = 0; made = []; taken = []; tokens = 0; size = 0 }

-- the links as channels of a net
channels-at : (ls : List LinkRow) (i : ℕ) → i < length ls → slice_index_or (file_channels_from 0 (link_rows 0 ls)) i nowhere ≡ link_channel i (slice_index_or ls i no_link)
unfolding link_channel
channels-at ls i below =
    let e : 0 + i ≡ i = omega arith in
    rw e at (file-at 0 (link_rows 0 ls) i no_channel (omega (arith, length-rows 0 ls)) ∙ ap (file_channel (0 + i)) (rows-at 0 ls i no_channel below))

-- actors of one phase have no own channels, where firings may overlap
own-none : (channels : List ChannelRow) (a : ℕ) (rows : List ActorRow) → ((y : ℕ) → y < length rows → (slice_index_or rows y (record { name = []; phases = 1; times = [] })).phases ≡ 1) → own_channels_from false channels a rows ≡ []
own-none channels a [] one = refl
own-none channels a (row ∷ rows) one =
    let here : row.phases ≡ 1 = one 0 (omega arith) in
    rw here (own-none channels (suc a) rows (λ y below. one (suc y) (omega arith)))

module _ (net : Net) (wired : Wired net) (bal : Balanced net) (g : GraphFile) (named : length g.actors ≡ length net.times) where
  every : length g.actors ≡ length net.round
  every = named ∙ sym bal.actors

  rows-is : copy_rows net g.actors ≡ by_copies net (λ a (row : ActorRow) k. copy_row net row.name a k) 0 g.actors
  unfolding copy_rows
  rows-is = refl

  actors-is : (expansion net g).actors ≡ copy_rows net g.actors
  unfolding expansion
  actors-is = refl

  channels-is : (expansion net g).channels ≡ link_rows 0 (links_of net)
  unfolding expansion
  channels-is = refl

  pub many-copies : length (copy_rows net g.actors) ≡ sum net.round
  many-copies = ap length rows-is ∙ length-copies net (λ a (row : ActorRow) k. copy_row net row.name a k) g.actors every

  -- copy k of actor a in the table
  pub copy-row-at : (a k : ℕ) (e : ActorRow) → a < length net.times → k < slice_index net.round a →
      slice_index_or (copy_rows net g.actors) (first_copy net a + k) e ≡ copy_row net (slice_index_or g.actors a e).name a k
  copy-row-at a k e actor copy =
      ap (λ (rows : List ActorRow). slice_index_or rows (first_copy net a + k) e) rows-is
      ∙ at-copy net (λ a (row : ActorRow) k. copy_row net row.name a k) g.actors a k e e every (omega arith) copy

  -- each row of the table is that of a copy
  pub row-of : (y : ℕ) → y < length (copy_rows net g.actors) → (e : ActorRow) → (a : ℕ) × (k : ℕ) × (a < length net.times) × (k < slice_index net.round a) × (slice_index_or (copy_rows net g.actors) y e ≡ copy_row net (slice_index_or g.actors a e).name a k)
  row-of y below e =
      let copy = copy-of net y (rw many-copies at below) in
      let actor : copy.0 < length net.times = omega (arith, copy.2, bal.actors) in
      (copy.0, copy.1, actor, copy.3, ap (λ (z : ℕ). slice_index_or (copy_rows net g.actors) z e) copy.4 ∙ copy-row-at copy.0 copy.1 e actor copy.3)

  copy-phases : (name : List ℕ) (a k : ℕ) → (copy_row net name a k).phases ≡ 1
  unfolding copy_row
  copy-phases name a k = refl

  copy-times : (name : List ℕ) (a k : ℕ) → (copy_row net name a k).times ≡ time_of net a k ∷ []
  unfolding copy_row
  copy-times name a k = refl

  abbrev no_row : ActorRow
  no_row = record { name = []; phases = 1; times = [] }

  no-own : own_channels_from false (expansion net g).channels 0 (expansion net g).actors ≡ []
  no-own = subst (λ (rows : List ActorRow). own_channels_from false (expansion net g).channels 0 rows ≡ []) (sym actors-is)
      (own-none (expansion net g).channels 0 (copy_rows net g.actors) (λ y below.
      let row = row-of y below no_row in ap (λ (r : ActorRow). r.phases) row.4 ∙ copy-phases (slice_index_or g.actors row.0 no_row).name row.0 row.1))

  net-channels : (expanded net g).channels ≡ file_channels_from 0 (link_rows 0 (links_of net))
  net-channels =
      ap (λ (own : List Channel). file_channels (expansion net g) ++ own) no-own
      ∙ (append-nil (file_channels (expansion net g)) ∙ ap (λ (cs : List ChannelRow). file_channels_from 0 cs) channels-is)

  pub many-channels : length (expanded net g).channels ≡ length (links_of net)
  many-channels = ap length net-channels ∙ (file-length 0 (link_rows 0 (links_of net)) ∙ length-rows 0 (links_of net))

  pub channel-is : (n : ℕ) → n < length (links_of net) → channel_at (expanded net g) n ≡ link_channel n (slice_index_or (links_of net) n no_link)
  channel-is n below = ap (λ (cs : List Channel). slice_index_or cs n nowhere) net-channels ∙ channels-at (links_of net) n below

  net-times : (expanded net g).times ≡ map (λ (a : ActorRow). a.times) (copy_rows net g.actors)
  net-times = ap (λ (rows : List ActorRow). map (λ (a : ActorRow). a.times) rows) actors-is

  copies : length (expanded net g).times ≡ sum net.round
  copies = ap length net-times ∙ (length-map (copy_rows net g.actors) (λ (a : ActorRow). a.times) ∙ many-copies)

  time-row : (a k : ℕ) → a < length net.times → k < slice_index net.round a → slice_index_or (expanded net g).times (first_copy net a + k) [] ≡ time_of net a k ∷ []
  time-row a k actor copy =
      let below : first_copy net a + k < length (copy_rows net g.actors) = omega (arith, many-copies, Rattle.single_rate.proofs.CopyNumbers.copy-below net a k (let e = bal.actors in omega arith) copy) in
      ap (λ (ts : List (List ℕ)). slice_index_or ts (first_copy net a + k) []) net-times
      ∙ (get_or-map (λ (a : ActorRow). a.times) (copy_rows net g.actors) (first_copy net a + k) no_row [] below
      ∙ (ap (λ (r : ActorRow). r.times) (copy-row-at a k no_row actor copy) ∙ copy-times (slice_index_or g.actors a no_row).name a k))

  times : (a k m : ℕ) → a < length net.times → k < slice_index net.round a → time_of (expanded net g) (first_copy net a + k) m ≡ time_of net a (k + m * slice_index net.round a)
  times a k m actor copy =
      let first : phase_entry (time_of net a k ∷ []) m ≡ phase_entry (time_of net a k ∷ []) 0 = one_time (time_of net a k ∷ []) m 0 (omega arith) in
      let head : phase_entry (time_of net a k ∷ []) 0 ≡ time_of net a k = refl in
      ap (λ (ts : List ℕ). phase_entry ts m) (time-row a k actor copy) ∙ (first ∙ (head ∙ sym (time-shift net (λ b. m * slice_index net.round b) (whole-rounds net m wired bal) a k actor)))

  ones : (y : ℕ) → y < length (expanded net g).times → slice_index (expanded net g).round y ≡ 1
  ones y below = Rattle.std.proofs.lemmas.List.get_or-replicate (sum net.round) y 1 0 (omega (arith, copies))

  one-total : (m : ℕ) → total (1 ∷ []) m ≡ m
  one-total m = all_one-total (1 ∷ []) m refl (omega arith)

  joins-of : (n : ℕ) → n < length (links_of net) → (x k i : ℕ) → IsLink net (slice_index_or (links_of net) n no_link) x k i → Joins net (expanded net g) n x k i (slice_index_or (links_of net) n no_link).tokens
  unfolding link_channel link_row
  joins-of n below x k i is =
      let c : channel_at (expanded net g) n ≡ link_channel n (slice_index_or (links_of net) n no_link) = channel-is n below in
      let l : LinkRow = slice_index_or (links_of net) n no_link in
      record {
        place = omega (arith, many-channels);
        source = ap (λ (c : Channel). c.source) c ∙ is.source;
        target = ap (λ (c : Channel). c.target) c ∙ is.target;
        needs = λ j m need. (let h : Needs (link_channel n (slice_index_or (links_of net) n no_link)) j m = subst (λ (c : Channel). Needs c j m) c need in omega (arith, one-total m, one-total (j + 1)));
        needed = λ j m le. subst (λ (c : Channel). Needs c j m) (sym c) (let h : Needs (link_channel n (slice_index_or (links_of net) n no_link)) j m = omega (arith, one-total m, one-total (j + 1)) in h);
      }

  are : (n : ℕ) → n < length (expanded net g).channels → Link net (expanded net g) n
  are n below =
      let inside : n < length (links_of net) = omega (arith, many-channels) in
      let found = links-sound net wired bal n inside in
      let is : IsLink net (slice_index_or (links_of net) n no_link) found.0 found.1 found.2 = found.3 in
      record { x = found.0; k = found.1; i = found.2; d = (slice_index_or (links_of net) n no_link).tokens; place = is.place; firing = is.firing; copy = is.copy; joins = joins-of n inside found.0 found.1 found.2 is; takes = is.takes }

  all : (x k i d : ℕ) → x < length net.channels → k < slice_index net.round (channel_at net x).target → i < slice_index net.round (channel_at net x).source →
      TakesOf (channel_at net x) (k + d * slice_index net.round (channel_at net x).target) i → (n : ℕ) × (e : ℕ) × (e ≤ d) × Joins net (expanded net g) n x k i e
  all x k i d place firing copy takes =
      let found = links-complete net wired bal x k i d place copy firing takes in
      let is : IsLink net (slice_index_or (links_of net) found.0 no_link) x k i = found.2 in
      (found.0, (slice_index_or (links_of net) found.0 no_link).tokens, is.latest d takes, joins-of found.0 found.1 x k i is)

  pub expanded-unrolled : Unrolled net (expanded net g)
  expanded-unrolled = record { copies = copies; ones = ones; times = times; are = are; all = all }
