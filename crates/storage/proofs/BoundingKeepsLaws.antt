-- A bounded net keeps the laws of nets.
use Rattle.std.proofs.Common.{◌≡◌, ℕ, ◌+◌, ◌-◌, ◌≤◌, ◌<◌, ◌⊎◌, Bool, true, false, Option, List, [], ◌∷◌, ◌++◌, length, map, sum, inl, inr, ⊎_elim, subst, sym, ap, ◌∙◌, arith}
use Rattle.std.specs.Prelude.{slice_index, slice_index_or}
use Rattle.std.specs.List.{list_any}
use Rattle.std.proofs.lemmas.Bool.{cases_lt, or_left, or_right, or_cases}
use Rattle.sd_base.specs.declared.limits.TheConstants.{NET_CHANNELS, NET_TOKENS, RATE, SIZE}
use Rattle.sd_base.specs.declared.role.Role.TheVariants.{Space}
use Rattle.sd_base.specs.Net.{Channel, Net, channel_at, total, Balances}
use Rattle.sd_base.specs.Lawful.{is_file_channel, is_token_role, is_own, Lawful}
use Rattle.storage.specs.Distributions.{CanHold}
use Rattle.storage.specs.BoundedNets.{space_of, spaces_from, bound, HasNoSpaces}
use Rattle.storage.proofs.SpaceChannels.{holds-at, spaces-one, bound-front, bound-past, bound-long, bound-back, each-bound}

list_any-front : (p : Channel → Bool) (xs ys : List Channel) → list_any p xs ≡ true → list_any p (xs ++ ys) ≡ true
list_any-front p [] ys holds = cc
list_any-front p (x ∷ xs) ys holds = ⊎_elim (λ (here : p x ≡ true). or_left (p x) (list_any p (xs ++ ys)) here) (λ (later : list_any p xs ≡ true). or_right (p x) (list_any p (xs ++ ys)) (list_any-front p xs ys later)) (or_cases (p x) (list_any p xs) holds)

module _ (net : Net) (laws : Lawful net) (ds : List (Option ℕ)) (none : HasNoSpaces net) (can : CanHold net.channels ds) (few : length (bound net ds).channels ≤ NET_CHANNELS) where
  each : (P : Channel → Type 0) → ((i : ℕ) → i < length net.channels → P (channel_at net i)) → ((i k : ℕ) → i < length net.channels → k ≤ NET_TOKENS → P (space_of i (channel_at net i) k)) → (i : ℕ) → i < length (bound net ds).channels → P (channel_at (bound net ds) i)
  each P front back = each-bound net ds P front (λ i k below has. let held = holds-at net.channels ds i k can has in back i k below held.2)

  space-role : (i : ℕ) → length net.channels ≤ i → i < length (bound net ds).channels → (c : ℕ) × ((channel_at (bound net ds) i).role ≡ Space c)
  space-role i later below = let at = bound-back net ds i later below in (0 + at.place, ap (λ (c : Channel). c.role) at.is)

  not-space : (i c : ℕ) → i < length net.channels → (channel_at net i).role ≡ Space c → ⊥
  not-space i c below is = let no : true ≡ false = rw is at (none i below) in cc

  roles : (i j : ℕ) → i < length (bound net ds).channels → j < length (bound net ds).channels → (channel_at (bound net ds) i).role ≡ (channel_at (bound net ds) j).role → i ≡ j
  roles i j below there same = at (cases_lt i (length net.channels)) (cases_lt j (length net.channels))
    where
      role-front : (i : ℕ) → i < length net.channels → (channel_at (bound net ds) i).role ≡ (channel_at net i).role
      role-front i here = ap (λ (c : Channel). c.role) (bound-front net ds i here)

      at : (i < length net.channels) ⊎ (length net.channels ≤ i) → (j < length net.channels) ⊎ (length net.channels ≤ j) → i ≡ j
      at (inl one) (inl other) = laws.roles_differ i j one other (sym (role-front i one) ∙ (same ∙ role-front j other))
      at (inl one) (inr other) = let space = space-role j other there in absurd (not-space i space.0 one (sym (role-front i one) ∙ (same ∙ space.1)))
      at (inr one) (inl other) = let space = space-role i one below in absurd (not-space j space.0 other (sym (role-front j other) ∙ (sym same ∙ space.1)))
      at (inr one) (inr other) = let e : i - length net.channels ≡ j - length net.channels = spaces-one 0 net.channels ds (i - length net.channels) (j - length net.channels) (omega (arith, bound-long net ds)) (omega (arith, bound-long net ds)) (sym (ap (λ (c : Channel). c.role) (bound-past net ds i one)) ∙ (same ∙ ap (λ (c : Channel). c.role) (bound-past net ds j other))) in omega arith

  files-first : (i j : ℕ) → i ≤ j → j < length (bound net ds).channels → is_token_role (channel_at (bound net ds) j).role ≡ true → is_file_channel i (channel_at (bound net ds) i).role ≡ true
  files-first i j order there token = at (cases_lt j (length net.channels))
    where
      at : (j < length net.channels) ⊎ (length net.channels ≤ j) → is_file_channel i (channel_at (bound net ds) i).role ≡ true
      at (inl file) = let known : is_token_role (channel_at net j).role ≡ true = rw (bound-front net ds j file) at token in rw (bound-front net ds i (omega arith)) (laws.files_first i j order file known)
      at (inr past) = let space = space-role j past there in let no : false ≡ true = rw space.1 at token in cc

  own-for : (a : ℕ) → a < length net.times → 2 ≤ length (slice_index_or net.times a []) → list_any (is_own a) (bound net ds).channels ≡ true
  own-for a actor many = list_any-front (is_own a) net.channels (spaces_from 0 net.channels ds) (laws.one_by_one a actor many)

  balances : Balances (map length net.times) (bound net ds).channels net.round
  balances = record {
    actors = laws.repetition.balances.actors;
    fires = laws.repetition.balances.fires;
    cycles = laws.repetition.balances.cycles;
    kept = each (λ (c : Channel). total c.made (slice_index net.round c.source) ≡ total c.taken (slice_index net.round c.target)) laws.repetition.balances.kept (λ i k below small. sym (laws.repetition.balances.kept i below));
  }

  front-balances : (w : List ℕ) → Balances (map length net.times) (bound net ds).channels w → Balances (map length net.times) net.channels w
  front-balances w b = record {
    actors = b.actors;
    fires = b.fires;
    cycles = b.cycles;
    kept = λ i below. let there : i < length (net.channels ++ spaces_from 0 net.channels ds) = omega (arith, bound-long net ds) in subst (λ (c : Channel). total c.made (slice_index w c.source) ≡ total c.taken (slice_index w c.target)) (bound-front net ds i below) (b.kept i there);
  }

  pub bound-lawful : Lawful (bound net ds)
  bound-lawful = record {
    some_actor = laws.some_actor;
    few_actors = laws.few_actors;
    few_channels = few;
    some_phase = laws.some_phase;
    some_time = laws.some_time;
    short_times = laws.short_times;
    sources = each (λ (c : Channel). c.source < length net.times) laws.sources (λ i k below small. laws.targets i below);
    targets = each (λ (c : Channel). c.target < length net.times) laws.targets (λ i k below small. laws.sources i below);
    made_phases = each (λ (c : Channel). length c.made ≡ length (slice_index_or net.times c.source [])) laws.made_phases (λ i k below small. laws.taken_phases i below);
    taken_phases = each (λ (c : Channel). length c.taken ≡ length (slice_index_or net.times c.target [])) laws.taken_phases (λ i k below small. laws.made_phases i below);
    small_made = λ i p. each (λ (c : Channel). slice_index c.made p ≤ RATE) (λ i. laws.small_made i p) (λ i k below small. laws.small_taken i p below) i;
    small_taken = λ i p. each (λ (c : Channel). slice_index c.taken p ≤ RATE) (λ i. laws.small_taken i p) (λ i k below small. laws.small_made i p below) i;
    some_made = each (λ (c : Channel). 1 ≤ sum c.made) laws.some_made (λ i k below small. laws.some_taken i below);
    some_taken = each (λ (c : Channel). 1 ≤ sum c.taken) laws.some_taken (λ i k below small. laws.some_made i below);
    few_tokens = each (λ (c : Channel). c.tokens ≤ NET_TOKENS) laws.few_tokens (λ i k below small. omega arith);
    some_size = each (λ (c : Channel). 1 ≤ c.size) laws.some_size (λ i k below small. laws.some_size i below);
    small_size = each (λ (c : Channel). c.size ≤ SIZE) laws.small_size (λ i k below small. laws.small_size i below);
    one_by_one = own-for;
    roles_differ = roles;
    files_first = files-first;
    repetition = record { balances = balances; least = λ w b a actor. laws.repetition.least w (front-balances w b) a actor };
    small_round = laws.small_round;
  }
