-- A net of which each actor has one phase, from its tables.
use Rattle.std.proofs.Common.{◌≡◌, ℕ, ◌+◌, ◌<◌, List, [], ◌∷◌, ◌++◌, length, map, take, sym, subst, refl, ap, ◌∙◌, arith}
use Rattle.std.specs.Prelude.{slice_index, slice_index_or}
use Rattle.std.proofs.lemmas.List.{map_push, take_more}
use Rattle.sd_base.specs.declared.role.Role.{Role}
use Rattle.sd_base.specs.Net.{Channel, Net}
use Rattle.sd_base.specs.Lawful.{Lawful}
use Rattle.firing.specs.declared.sdf.SdfChannel.{SdfChannel}
use Rattle.firing.specs.Sdf.{plain_channel, plain_net}

-- a list of one number
pub one-number : (xs : List ℕ) → length xs ≡ 1 → slice_index xs 0 ∷ [] ≡ xs
one-number [] one = absurd (omega arith)
one-number (x ∷ []) one = refl
one-number (x ∷ y ∷ xs) one = absurd (omega arith)

pub times-more : (rows : List (List ℕ)) (times new : List ℕ) (a t : ℕ) → a < length rows → length (slice_index_or rows a []) ≡ 1 → t ≡ slice_index (slice_index_or rows a []) 0 → new ≡ times ++ t ∷ [] →
    map (λ x. x ∷ []) times ≡ take a rows → map (λ x. x ∷ []) new ≡ take (a + 1) rows
times-more rows times new a t place one is push so_far =
    let more : take (a + 1) rows ≡ take a rows ++ slice_index_or rows a [] ∷ [] = take_more rows a [] place in
    let row : t ∷ [] ≡ slice_index_or rows a [] = ap (λ (x : ℕ). x ∷ []) is ∙ one-number (slice_index_or rows a []) one in
    let pushed : map (λ x. x ∷ []) (times ++ t ∷ []) ≡ map (λ x. x ∷ []) times ++ (t ∷ []) ∷ [] = map_push (λ (x : ℕ). x ∷ []) times t in
    rw (push, more) (pushed ∙ (ap (λ (xs : List (List ℕ)). xs ++ (t ∷ []) ∷ []) so_far ∙ ap (λ (r : List ℕ). take a rows ++ r ∷ []) row))

pub channel-is : (c : Channel) (source target made taken tokens size : ℕ) (role : Role) → source ≡ c.source → target ≡ c.target → made ≡ slice_index c.made 0 → taken ≡ slice_index c.taken 0 → tokens ≡ c.tokens → size ≡ c.size → role ≡ c.role →
    length c.made ≡ 1 → length c.taken ≡ 1 →
    plain_channel (record { source = source; target = target; made = made; taken = taken; tokens = tokens; size = size; role = role }) ≡ c
channel-is c source target made taken tokens size role s t m k n z r one_made one_taken =
    rw (s, t, n, z, r, m, k, one-number c.made one_made, one-number c.taken one_taken) refl

pub channels-more : (rows : List Channel) (table new : List SdfChannel) (i : ℕ) (one : SdfChannel) (nowhere : Channel) → i < length rows → plain_channel one ≡ slice_index_or rows i nowhere → new ≡ table ++ one ∷ [] →
    map plain_channel table ≡ take i rows → map plain_channel new ≡ take (i + 1) rows
channels-more rows table new i one nowhere place is push so_far =
    let more : take (i + 1) rows ≡ take i rows ++ slice_index_or rows i nowhere ∷ [] = take_more rows i nowhere place in
    let pushed : map plain_channel (table ++ one ∷ []) ≡ map plain_channel table ++ plain_channel one ∷ [] = map_push plain_channel table one in
    rw (push, more) (pushed ∙ (ap (λ (xs : List Channel). xs ++ plain_channel one ∷ []) so_far ∙ ap (λ (c : Channel). take i rows ++ c ∷ []) is))

pub copy-is : (net : Net) (times rounds : List ℕ) (table : List SdfChannel) → map (λ t. t ∷ []) times ≡ net.times → map plain_channel table ≡ net.channels → rounds ≡ net.round → plain_net times table rounds ≡ net
copy-is net times rounds table t c r = rw (t, c, r) refl

pub copy-lawful : (net : Net) (times rounds : List ℕ) (table : List SdfChannel) → Lawful net → map (λ t. t ∷ []) times ≡ net.times → map plain_channel table ≡ net.channels → rounds ≡ net.round → Lawful (plain_net times table rounds)
copy-lawful net times rounds table laws t c r = subst Lawful (sym (copy-is net times rounds table t c r)) laws
