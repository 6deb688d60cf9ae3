-- The net of a graph file that keeps its rules keeps the laws of nets.
use Rattle.std.proofs.Common.{◌≡◌, ℕ, zero, suc, ◌+◌, ◌-◌, ◌≤◌, ◌<◌, ◌⊎◌, Bool, true, false, List, [], ◌∷◌, ◌++◌, length, map, sum, replicate, inl, inr, ⊎_elim, subst, sym, refl, ap, ◌∙◌, arith, eq-eqb, lt-ltb}
use Rattle.std.specs.Prelude.{slice_index, slice_index_or, All, ◌==◌, if◌then◌else◌}
use Rattle.std.specs.List.{list_any}
use Rattle.std.proofs.lemmas.Bool.{cases_lt, or_left, or_right, and_from}
use Rattle.std.proofs.lemmas.List.{get_or-map, length-map, length-append, get_or_append_left, get_or-append_right, get_or_past, length-replicate, ext_get_or, get_or-replicate}
use Rattle.sd_base.specs.declared.role.Role.TheVariants.{Token, Own}
use Rattle.sd_base.specs.declared.tables.GraphFile.{GraphFile}
use Rattle.sd_base.specs.declared.tables.ActorRow.{ActorRow}
use Rattle.sd_base.specs.declared.tables.ChannelRow.{ChannelRow}
use Rattle.sd_base.specs.Tables.{phases_of, ActorKeepsRules, ChannelKeepsRules, KeepsRules, KeepsWideRules, IsTimed}
use Rattle.sd_base.specs.Net.{Channel, nowhere, channel_at, total, Balances, file_channel, file_channels_from, file_channels, IsRepetitionOf}
use Rattle.sd_base.specs.Lawful.{is_file_channel, is_token_role, is_own, Lawful}
use Rattle.sd_base.specs.FileNet.{own_channel, gets_own, own_channels_from, net_of}
use Rattle.sd_base.proofs.SumsRepeatByTurns.{total-turn}
use Rattle.sd_base.proofs.LawfulIsRegular.{all_one-total}
use Rattle.sd_base.proofs.ElementsKeepPlaces.{ones-all}

-- ---- lists of ones

ones-past : (n p : ℕ) → n ≤ p → length {A = ℕ} (replicate n 1) ≤ p
ones-past n p past = rw (length-replicate {A = ℕ} n 1) past

ones-small : (n p : ℕ) → slice_index (replicate n 1) p ≤ 1000000
ones-small n p = ⊎_elim
    (λ (below : p < n). rw (get_or-replicate {A = ℕ} n p 1 0 below) (omega arith))
    (λ (past : n ≤ p). rw (get_or_past {X = ℕ} (replicate n 1) p 0 (ones-past n p past)) (omega arith))
    (cases_lt p n)

ones-sum : (n : ℕ) → 1 ≤ n → sum (replicate n 1) ≡ n
ones-sum n some =
    let many : length (replicate n 1) ≡ n = length-replicate n 1 in
    sym (total-turn (replicate n 1)) ∙ (all_one-total (replicate n 1) (length (replicate n 1)) (ones-all n) (rw many some) ∙ many)

all-small : (xs : List ℕ) (most p : ℕ) → All (λ r. r ≤ most) xs → slice_index xs p ≤ most
all-small xs most p all = ⊎_elim (λ (below : p < length xs). all p 0 below) (λ (past : length xs ≤ p). rw (get_or_past xs p 0 past) (omega arith)) (cases_lt p (length xs))

-- ---- channels, one after another

-- what holds of each channel of two lists holds of each channel of the longer one
each-append : (P : Channel → Type 0) (xs ys : List Channel) → ((i : ℕ) → i < length xs → P (slice_index_or xs i nowhere)) → ((i : ℕ) → i < length ys → P (slice_index_or ys i nowhere)) →
    (i : ℕ) → i < length (xs ++ ys) → P (slice_index_or (xs ++ ys) i nowhere)
each-append P xs ys front back i below = ⊎_elim
    (λ (here : i < length xs). subst P (sym (get_or_append_left xs ys nowhere i here)) (front i here))
    (λ (later : length xs ≤ i). subst P (sym (get_or-append_right xs ys (length xs) i nowhere refl later)) (back (i - length xs) (omega (arith, length-append xs ys))))
    (cases_lt i (length xs))

pub file-length : (n : ℕ) (rows : List ChannelRow) → length (file_channels_from n rows) ≡ length rows
file-length n [] = refl
file-length n (r ∷ rows) = ap suc (file-length (n + 1) rows)

pub file-at : (n : ℕ) (rows : List ChannelRow) (i : ℕ) (d : ChannelRow) → i < length rows → slice_index_or (file_channels_from n rows) i nowhere ≡ file_channel (n + i) (slice_index_or rows i d)
file-at n [] i d below = absurd (omega arith)
file-at n (r ∷ rows) zero d below = let e : n + 0 ≡ n = omega arith in rw e refl
file-at n (r ∷ rows) (suc i) d below = let e : n + suc i ≡ (n + 1) + i = omega arith in rw e (file-at (n + 1) rows i d (omega arith))

-- what is known of an own channel: which actor it is of
record OwnAt (rows : List ActorRow) (a : ℕ) (c : Channel) : Type 0 where
  actor : ℕ
  below : actor < length rows
  is : (d : ActorRow) → c ≡ own_channel (a + actor) (slice_index_or rows actor d).phases

own-head : (rows : List ActorRow) (r : ActorRow) (a : ℕ) → OwnAt (r ∷ rows) a (own_channel a r.phases)
own-head rows r a = record { actor = 0; below = omega arith; is = λ d. let e : a + 0 ≡ a = omega arith in rw e refl }

own-tail : (rows : List ActorRow) (r : ActorRow) (a : ℕ) (c : Channel) → OwnAt rows (suc a) c → OwnAt (r ∷ rows) a c
own-tail rows r a c own = record { actor = suc own.actor; below = omega (arith, own.below); is = λ d. let e : a + suc own.actor ≡ suc a + own.actor = omega arith in rw e (own.is d) }

own-at : (apart : Bool) (channels : List ChannelRow) (a : ℕ) (rows : List ActorRow) (i : ℕ) → i < length (own_channels_from apart channels a rows) →
    OwnAt rows a (slice_index_or (own_channels_from apart channels a rows) i nowhere)
own-at apart channels a [] i below = absurd (omega arith)
own-at apart channels a (r ∷ rows) i below = step (gets_own apart channels a r.phases) refl i below (own-at apart channels (suc a) rows)
  where
    step : (b : Bool) → gets_own apart channels a r.phases ≡ b → (i : ℕ) → i < length (if b then own_channel a r.phases ∷ own_channels_from apart channels (suc a) rows else own_channels_from apart channels (suc a) rows) →
        ((k : ℕ) → k < length (own_channels_from apart channels (suc a) rows) → OwnAt rows (suc a) (slice_index_or (own_channels_from apart channels (suc a) rows) k nowhere)) →
        OwnAt (r ∷ rows) a (slice_index_or (if b then own_channel a r.phases ∷ own_channels_from apart channels (suc a) rows else own_channels_from apart channels (suc a) rows) i nowhere)
    step true test zero below rest = own-head rows r a
    step true test (suc k) below rest = own-tail rows r a (slice_index_or (own_channels_from apart channels (suc a) rows) k nowhere) (rest k (omega arith))
    step false test i below rest = own-tail rows r a (slice_index_or (own_channels_from apart channels (suc a) rows) i nowhere) (rest i below)

pub own-few : (apart : Bool) (channels : List ChannelRow) (a : ℕ) (rows : List ActorRow) → length (own_channels_from apart channels a rows) ≤ length rows
own-few apart channels a [] = omega arith
own-few apart channels a (r ∷ rows) = step (gets_own apart channels a r.phases) (own-few apart channels (suc a) rows)
  where
    step : (b : Bool) → length (own_channels_from apart channels (suc a) rows) ≤ length rows →
        length (if b then own_channel a r.phases ∷ own_channels_from apart channels (suc a) rows else own_channels_from apart channels (suc a) rows) ≤ suc (length rows)
    step true rest = omega arith
    step false rest = omega arith

-- one own channel an actor
own-one : (apart : Bool) (channels : List ChannelRow) (a : ℕ) (rows : List ActorRow) (i j : ℕ) → i < length (own_channels_from apart channels a rows) → j < length (own_channels_from apart channels a rows) →
    (slice_index_or (own_channels_from apart channels a rows) i nowhere).role ≡ (slice_index_or (own_channels_from apart channels a rows) j nowhere).role → i ≡ j
own-one apart channels a [] i j below there same = absurd (omega arith)
own-one apart channels a (r ∷ rows) i j below there same = step (gets_own apart channels a r.phases) i j below there same (own-one apart channels (suc a) rows)
  where
    tail : List Channel
    tail = own_channels_from apart channels (suc a) rows

    later : (k : ℕ) → k < length (own_channels_from apart channels (suc a) rows) → (slice_index_or (own_channels_from apart channels (suc a) rows) k nowhere).role ≡ Own a → ⊥
    later k small role =
        let own : OwnAt rows (suc a) (slice_index_or (own_channels_from apart channels (suc a) rows) k nowhere) = own-at apart channels (suc a) rows k small in
        let is : (slice_index_or (own_channels_from apart channels (suc a) rows) k nowhere).role ≡ Own (suc a + own.actor) = ap (λ (c : Channel). c.role) (own.is (record { name = []; phases = 0; times = [] })) in
        own-differs a (suc a + own.actor) (sym role ∙ is) (omega arith)
      where
        own-differs : (x y : ℕ) → Own x ≡ Own y → x < y → ⊥
        own-differs x y e less = let same : x ≡ y = cc in omega arith

    step : (b : Bool) (i j : ℕ) → i < length (if b then own_channel a r.phases ∷ own_channels_from apart channels (suc a) rows else own_channels_from apart channels (suc a) rows) →
        j < length (if b then own_channel a r.phases ∷ own_channels_from apart channels (suc a) rows else own_channels_from apart channels (suc a) rows) →
        (slice_index_or (if b then own_channel a r.phases ∷ own_channels_from apart channels (suc a) rows else own_channels_from apart channels (suc a) rows) i nowhere).role
        ≡ (slice_index_or (if b then own_channel a r.phases ∷ own_channels_from apart channels (suc a) rows else own_channels_from apart channels (suc a) rows) j nowhere).role →
        ((i j : ℕ) → i < length (own_channels_from apart channels (suc a) rows) → j < length (own_channels_from apart channels (suc a) rows) →
        (slice_index_or (own_channels_from apart channels (suc a) rows) i nowhere).role ≡ (slice_index_or (own_channels_from apart channels (suc a) rows) j nowhere).role → i ≡ j) → i ≡ j
    step true zero zero below there same rest = refl
    step true zero (suc j) below there same rest = absurd (later j (omega arith) (sym same))
    step true (suc i) zero below there same rest = absurd (later i (omega arith) same)
    step true (suc i) (suc j) below there same rest = ap suc (rest i j (omega arith) (omega arith) same)
    step false i j below there same rest = rest i j below there same

pub own-is : (a n : ℕ) → is_own a (own_channel a n) ≡ true
own-is a n =
    let same : (a == a) ≡ true = eq-eqb a a refl in
    and_from _ _ same (and_from _ _ same (and_from _ _ same (and_from _ _ refl (and_from _ _ (ones-all n) (ones-all n)))))

-- an actor of several phases has one
own-has : (apart : Bool) (channels : List ChannelRow) (a : ℕ) (rows : List ActorRow) (b : ℕ) (d : ActorRow) → b < length rows → 2 ≤ (slice_index_or rows b d).phases →
    list_any (is_own (a + b)) (own_channels_from apart channels a rows) ≡ true
own-has apart channels a [] b d below many = absurd (omega arith)
own-has apart channels a (r ∷ rows) zero d below many =
    let e : a + 0 ≡ a = omega arith in
    let gets : gets_own apart channels a r.phases ≡ true = or_left _ _ (lt-ltb 1 r.phases many) in
    rw e (rw gets (or_left _ _ (own-is a r.phases)))
own-has apart channels a (r ∷ rows) (suc b) d below many =
    let e : a + suc b ≡ suc a + b = omega arith in
    rw e (step (gets_own apart channels a r.phases) (own-has apart channels (suc a) rows b d (omega arith) many))
  where
    step : (t : Bool) → list_any (is_own (suc a + b)) (own_channels_from apart channels (suc a) rows) ≡ true →
        list_any (is_own (suc a + b)) (if t then own_channel a r.phases ∷ own_channels_from apart channels (suc a) rows else own_channels_from apart channels (suc a) rows) ≡ true
    step true rest = or_right _ _ rest
    step false rest = rest

list_any-back : (p : Channel → Bool) (xs ys : List Channel) → list_any p ys ≡ true → list_any p (xs ++ ys) ≡ true
list_any-back p [] ys holds = holds
list_any-back p (x ∷ xs) ys holds = or_right _ _ (list_any-back p xs ys holds)

-- ---- the laws

-- the laws of one channel over the times of the actors
record GoodChannel (times : List (List ℕ)) (c : Channel) : Type 0 where
  source : c.source < length times
  target : c.target < length times
  made_phases : length c.made ≡ length (slice_index_or times c.source [])
  taken_phases : length c.taken ≡ length (slice_index_or times c.target [])
  small_made : (p : ℕ) → slice_index c.made p ≤ 1000000
  small_taken : (p : ℕ) → slice_index c.taken p ≤ 1000000
  some_made : 1 ≤ sum c.made
  some_taken : 1 ≤ sum c.taken
  few_tokens : c.tokens ≤ 2000000000
  some_size : 1 ≤ c.size
  small_size : c.size ≤ 1000000

-- a table as it stands is one with free spaces
pub widened : (g : GraphFile) → KeepsRules g → KeepsWideRules g
widened g rules = record { some_actor = rules.some_actor; few_actors = rules.few_actors; few_channels = omega (arith, rules.few_channels); actors = rules.actors; channels = rules.channels }

nobody : ActorRow
nobody = record { name = []; phases = 0; times = [] }

pub nothing : ChannelRow
nothing = record { name = []; source = 0; target = 0; made = []; taken = []; tokens = 0; size = 0 }

module _ (g : GraphFile) (gamma : List ℕ) (apart : Bool) (rules : KeepsWideRules g) (timed : IsTimed g) (gives : IsRepetitionOf g gamma) (small : sum gamma ≤ 100000) where
  files : List Channel
  files = file_channels g

  owns : List Channel
  owns = own_channels_from apart g.channels 0 g.actors

  times : List (List ℕ)
  times = map (λ (a : ActorRow). a.times) g.actors

  actors-many : length times ≡ length g.actors
  unfolding times
  actors-many = length-map g.actors (λ (a : ActorRow). a.times)

  phases-many : length (phases_of g) ≡ length g.actors
  phases-many = length-map g.actors (λ (a : ActorRow). a.phases)

  row-times : (a : ℕ) → a < length g.actors → slice_index_or times a [] ≡ (slice_index_or g.actors a nobody).times
  unfolding times
  row-times a below = get_or-map (λ (r : ActorRow). r.times) g.actors a nobody [] below

  row-phases : (a : ℕ) → a < length g.actors → slice_index (phases_of g) a ≡ (slice_index_or g.actors a nobody).phases
  row-phases a below = get_or-map (λ (r : ActorRow). r.phases) g.actors a nobody 0 below

  row-timed : (a : ℕ) → a < length g.actors → length (slice_index_or times a []) ≡ (slice_index_or g.actors a nobody).phases
  row-timed a below = ap length (row-times a below) ∙ timed a nobody below

  phases-here : (a : ℕ) → a < length g.actors → length (slice_index_or times a []) ≡ slice_index (phases_of g) a
  phases-here a below = row-timed a below ∙ sym (row-phases a below)

  phases-all : map length times ≡ phases_of g
  phases-all = ext_get_or 0 (map length times) (phases_of g) (length-map times length ∙ (actors-many ∙ sym phases-many)) (λ a below.
      let there : a < length times = omega (arith, length-map times length) in
      get_or-map length times a [] 0 there ∙ phases-here a (omega (arith, actors-many)))

  row-rules : (a : ℕ) → a < length g.actors → ActorKeepsRules g.kind (slice_index_or g.actors a nobody)
  row-rules a below = rules.actors a nobody below

  file-good : (i : ℕ) → i < length files → GoodChannel times (slice_index_or files i nowhere)
  unfolding files
  file-good i below = subst (GoodChannel times) (sym (file-at 0 g.channels i nothing there)) good
    where
      there : i < length g.channels
      there = omega (arith, file-length 0 g.channels)

      row : ChannelRow
      row = slice_index_or g.channels i nothing

      keeps : ChannelKeepsRules (phases_of g) (slice_index_or g.channels i nothing)
      keeps = rules.channels i nothing there

      source_there : (slice_index_or g.channels i nothing).source < length g.actors
      source_there = omega (arith, keeps.source, phases-many)

      target_there : (slice_index_or g.channels i nothing).target < length g.actors
      target_there = omega (arith, keeps.target, phases-many)

      good : GoodChannel times (file_channel (0 + i) (slice_index_or g.channels i nothing))
      good = record {
        source = omega (arith, source_there, actors-many);
        target = omega (arith, target_there, actors-many);
        made_phases = keeps.made.listed ∙ sym (phases-here (slice_index_or g.channels i nothing).source source_there);
        taken_phases = keeps.taken.listed ∙ sym (phases-here (slice_index_or g.channels i nothing).target target_there);
        small_made = λ p. all-small (slice_index_or g.channels i nothing).made 1000000 p keeps.made.limited;
        small_taken = λ p. all-small (slice_index_or g.channels i nothing).taken 1000000 p keeps.taken.limited;
        some_made = keeps.made.moves;
        some_taken = keeps.taken.moves;
        few_tokens = omega (arith, keeps.tokens);
        some_size = keeps.some_size;
        small_size = keeps.size;
      }

  own-good : (i : ℕ) → i < length owns → GoodChannel times (slice_index_or owns i nowhere)
  unfolding owns
  own-good i below = subst (GoodChannel times) (sym (own.is nobody)) good
    where
      own : OwnAt g.actors 0 (slice_index_or (own_channels_from apart g.channels 0 g.actors) i nowhere)
      own = own-at apart g.channels 0 g.actors i below

      phases : ℕ
      phases = (slice_index_or g.actors own.actor nobody).phases

      some : 1 ≤ (slice_index_or g.actors own.actor nobody).phases
      some = (row-rules own.actor own.below).some_phase

      mine : length (slice_index_or times (0 + own.actor) []) ≡ (slice_index_or g.actors own.actor nobody).phases
      mine = let e : 0 + own.actor ≡ own.actor = omega arith in rw e (row-timed own.actor own.below)

      good : GoodChannel times (own_channel (0 + own.actor) (slice_index_or g.actors own.actor nobody).phases)
      good = record {
        source = omega (arith, own.below, actors-many);
        target = omega (arith, own.below, actors-many);
        made_phases = length-replicate (slice_index_or g.actors own.actor nobody).phases 1 ∙ sym mine;
        taken_phases = length-replicate (slice_index_or g.actors own.actor nobody).phases 1 ∙ sym mine;
        small_made = λ p. ones-small (slice_index_or g.actors own.actor nobody).phases p;
        small_taken = λ p. ones-small (slice_index_or g.actors own.actor nobody).phases p;
        some_made = rw (ones-sum (slice_index_or g.actors own.actor nobody).phases some) some;
        some_taken = rw (ones-sum (slice_index_or g.actors own.actor nobody).phases some) some;
        few_tokens = omega arith;
        some_size = omega arith;
        small_size = omega arith;
      }

  good : (i : ℕ) → i < length (net_of g gamma apart).channels → GoodChannel times (channel_at (net_of g gamma apart) i)
  unfolding files owns
  good i below = each-append (GoodChannel times) (file_channels g) (own_channels_from apart g.channels 0 g.actors) file-good own-good i below

  -- which channel stands at a place, by its role
  role-file : (i : ℕ) → i < length files → (channel_at (net_of g gamma apart) i).role ≡ Token i
  unfolding files owns
  role-file i below =
      let there : i < length g.channels = omega (arith, file-length 0 g.channels) in
      let front : slice_index_or (file_channels g ++ own_channels_from apart g.channels 0 g.actors) i nowhere ≡ slice_index_or (file_channels g) i nowhere = get_or_append_left (file_channels g) (own_channels_from apart g.channels 0 g.actors) nowhere i below in
      let e : 0 + i ≡ i = omega arith in
      ap (λ (c : Channel). c.role) (front ∙ file-at 0 g.channels i nothing there) ∙ ap Token e

  role-own : (i : ℕ) → length files ≤ i → i < length (net_of g gamma apart).channels → (channel_at (net_of g gamma apart) i).role ≡ (slice_index_or owns (i - length files) nowhere).role
  unfolding files owns
  role-own i later below = ap (λ (c : Channel). c.role) (get_or-append_right (file_channels g) (own_channels_from apart g.channels 0 g.actors) (length (file_channels g)) i nowhere refl later)

  place-own : (i : ℕ) → length files ≤ i → i < length (net_of g gamma apart).channels → i - length files < length owns
  unfolding files owns
  place-own i later below = omega (arith, length-append (file_channels g) (own_channels_from apart g.channels 0 g.actors))

  owner : (i : ℕ) → length files ≤ i → i < length (net_of g gamma apart).channels → (a : ℕ) × ((channel_at (net_of g gamma apart) i).role ≡ Own a)
  unfolding owns
  owner i later below =
      let own : OwnAt g.actors 0 (slice_index_or (own_channels_from apart g.channels 0 g.actors) (i - length files) nowhere) = own-at apart g.channels 0 g.actors (i - length files) (place-own i later below) in
      (0 + own.actor, role-own i later below ∙ ap (λ (c : Channel). c.role) (own.is nobody))

  roles : (i j : ℕ) → i < length (net_of g gamma apart).channels → j < length (net_of g gamma apart).channels → (channel_at (net_of g gamma apart) i).role ≡ (channel_at (net_of g gamma apart) j).role → i ≡ j
  unfolding owns
  roles i j below there same = at (cases_lt i (length files)) (cases_lt j (length files))
    where
      at : (i < length files) ⊎ (length files ≤ i) → (j < length files) ⊎ (length files ≤ j) → i ≡ j
      at (inl one) (inl other) = let e : Token i ≡ Token j = sym (role-file i one) ∙ (same ∙ role-file j other) in cc
      at (inl one) (inr other) = let own = owner j other there in let e : Token i ≡ Own own.0 = sym (role-file i one) ∙ (same ∙ own.1) in cc
      at (inr one) (inl other) = let own = owner i one below in let e : Own own.0 ≡ Token j = sym own.1 ∙ (same ∙ role-file j other) in cc
      at (inr one) (inr other) =
          let e : i - length files ≡ j - length files = own-one apart g.channels 0 g.actors (i - length files) (j - length files) (place-own i one below) (place-own j other there)
          (sym (role-own i one below) ∙ (same ∙ role-own j other there)) in
          omega arith

  files-first : (i j : ℕ) → i ≤ j → j < length (net_of g gamma apart).channels → is_token_role (channel_at (net_of g gamma apart) j).role ≡ true → is_file_channel i (channel_at (net_of g gamma apart) i).role ≡ true
  files-first i j order there token = at (cases_lt j (length files))
    where
      at : (j < length files) ⊎ (length files ≤ j) → is_file_channel i (channel_at (net_of g gamma apart) i).role ≡ true
      at (inl file) = rw (role-file i (omega arith)) (eq-eqb i i refl)
      at (inr own) = let found = owner j own there in let no : false ≡ true = rw found.1 at token in cc

  own-for : (a : ℕ) → a < length times → 2 ≤ length (slice_index_or times a []) → list_any (is_own a) (net_of g gamma apart).channels ≡ true
  own-for a below many =
      let there : a < length g.actors = omega (arith, actors-many) in
      let e : 0 + a ≡ a = omega arith in
      let has : list_any (is_own (0 + a)) (own_channels_from apart g.channels 0 g.actors) ≡ true = own-has apart g.channels 0 g.actors a nobody there (omega (arith, row-timed a there)) in
      list_any-back (is_own a) (file_channels g) (own_channels_from apart g.channels 0 g.actors) (rw e at has)

  -- ---- the round

  balance : (w : List ℕ) → Balances (phases_of g) (file_channels g) w → Balances (map length times) (net_of g gamma apart).channels w
  balance w b = record {
    actors = b.actors ∙ ap length (sym phases-all);
    fires = λ a below. b.fires a (rw (ap length phases-all) at below);
    cycles = λ a below. rw (ap (λ (xs : List ℕ). slice_index xs a) phases-all) (b.cycles a (rw (ap length phases-all) at below));
    kept = each-append (λ (c : Channel). total c.made (slice_index w c.source) ≡ total c.taken (slice_index w c.target)) (file_channels g) (own_channels_from apart g.channels 0 g.actors) b.kept own-kept;
  }
    where
      own-kept : (i : ℕ) → i < length (own_channels_from apart g.channels 0 g.actors) →
          total (slice_index_or (own_channels_from apart g.channels 0 g.actors) i nowhere).made (slice_index w (slice_index_or (own_channels_from apart g.channels 0 g.actors) i nowhere).source)
          ≡ total (slice_index_or (own_channels_from apart g.channels 0 g.actors) i nowhere).taken (slice_index w (slice_index_or (own_channels_from apart g.channels 0 g.actors) i nowhere).target)
      own-kept i below =
          let own : OwnAt g.actors 0 (slice_index_or (own_channels_from apart g.channels 0 g.actors) i nowhere) = own-at apart g.channels 0 g.actors i below in
          subst (λ (c : Channel). total c.made (slice_index w c.source) ≡ total c.taken (slice_index w c.target)) (sym (own.is nobody)) refl

  unbalance : (w : List ℕ) → Balances (map length times) (net_of g gamma apart).channels w → Balances (phases_of g) (file_channels g) w
  unbalance w b = record {
    actors = b.actors ∙ ap length phases-all;
    fires = λ a below. b.fires a (rw (ap length phases-all) below);
    cycles = λ a below. rw (ap (λ (xs : List ℕ). slice_index xs a) phases-all) at (b.cycles a (rw (ap length phases-all) below));
    kept = λ i below.
        let there : i < length (file_channels g ++ own_channels_from apart g.channels 0 g.actors) = omega (arith, length-append (file_channels g) (own_channels_from apart g.channels 0 g.actors)) in
        subst (λ (c : Channel). total c.made (slice_index w c.source) ≡ total c.taken (slice_index w c.target)) (get_or_append_left (file_channels g) (own_channels_from apart g.channels 0 g.actors) nowhere i below) (b.kept i there);
  }

  pub net_of-lawful : Lawful (net_of g gamma apart)
  unfolding times
  net_of-lawful = record {
    some_actor = omega (arith, actors-many, rules.some_actor);
    few_actors = omega (arith, actors-many, rules.few_actors);
    few_channels = omega (arith, length-append (file_channels g) (own_channels_from apart g.channels 0 g.actors), file-length 0 g.channels, own-few apart g.channels 0 g.actors, rules.few_channels, rules.few_actors);
    some_phase = λ a below. let there : a < length g.actors = omega (arith, actors-many) in omega (arith, row-timed a there, (row-rules a there).some_phase);
    some_time = λ a p below phase. (time-rule a p below phase).0;
    short_times = λ a p below phase. (time-rule a p below phase).1;
    sources = λ i below. (good i below).source;
    targets = λ i below. (good i below).target;
    made_phases = λ i below. (good i below).made_phases;
    taken_phases = λ i below. (good i below).taken_phases;
    small_made = λ i p below. (good i below).small_made p;
    small_taken = λ i p below. (good i below).small_taken p;
    some_made = λ i below. (good i below).some_made;
    some_taken = λ i below. (good i below).some_taken;
    few_tokens = λ i below. (good i below).few_tokens;
    some_size = λ i below. (good i below).some_size;
    small_size = λ i below. (good i below).small_size;
    one_by_one = own-for;
    roles_differ = roles;
    files_first = files-first;
    repetition = record { balances = balance gamma gives.balances; least = λ w b a below. gives.least w (unbalance w b) a (rw (ap length phases-all) at below) };
    small_round = small;
  }
    where
      time-rule : (a p : ℕ) → a < length times → p < length (slice_index_or times a []) → (1 ≤ slice_index (slice_index_or times a []) p) × (slice_index (slice_index_or times a []) p ≤ 1000000000)
      time-rule a p below phase =
          let there : a < length g.actors = omega (arith, actors-many) in
          rw (row-times a there) ((row-rules a there).times p 0 (rw (row-times a there) at phase))
