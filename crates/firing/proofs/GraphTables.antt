-- Tables of channels that are seen as plain ones, and the net of a graph file.
use Rattle.std.proofs.Common.{◌≡◌, ℕ, suc, ◌+◌, ◌≤◌, ◌<◌, Bool, true, false, List, [], ◌∷◌, ◌++◌, length, map, take, drop, get_or, sum, sym, ap, ◌∙◌, subst, arith, add-one, append_assoc, cond}
use Rattle.std.specs.Prelude.{All}
use Rattle.std.proofs.lemmas.List.{map_push, take_more, take_all, at_drop_more, get_or-map, length-map}
use Rattle.sd_base.specs.declared.tables.GraphFile.{GraphFile}
use Rattle.sd_base.specs.declared.tables.ActorRow.{ActorRow}
use Rattle.sd_base.specs.declared.tables.ChannelRow.{ChannelRow}
use Rattle.sd_base.specs.Tables.{KeepsRules, KeepsWideRules, IsTimed}
use Rattle.sd_base.specs.Net.{Channel, Net, nowhere, file_channel, file_channels, IsRepetitionOf}
use Rattle.sd_base.specs.Lawful.{Lawful}
use Rattle.sd_base.specs.FileNet.{own_channel, gets_own, own_channels_from, net_of}
use Rattle.sd_base.proofs.FileNets.{file-at, file-length, net_of-lawful}

module _ {C : Type 0} (plain : C → Channel) where
  -- one more channel of the file
  pub file-more : (g : GraphFile) (table pushed : List C) (i : ℕ) (c : C) (row : ChannelRow) →
      map plain table ≡ take i (file_channels g) → pushed ≡ table ++ c ∷ [] → i < length g.channels → row ≡ get_or g.channels i row → plain c ≡ file_channel i row →
      map plain pushed ≡ take (i + 1) (file_channels g)
  file-more g table pushed i c row so_far push below here same =
      let there : i < length (file_channels g) = rw (file-length 0 g.channels) below in
      let e : 0 + i ≡ i = omega arith in
      let at : get_or (file_channels g) i nowhere ≡ file_channel (0 + i) (get_or g.channels i row) = file-at 0 g.channels i row below in
      let more : take (i + 1) (file_channels g) ≡ take i (file_channels g) ++ get_or (file_channels g) i nowhere ∷ [] = take_more (file_channels g) i nowhere there in
      let last : plain c ≡ get_or (file_channels g) i nowhere = rw (at, e, ← here) same in
      rw (push, map_push, more, so_far) (ap (λ (x : Channel). take i (file_channels g) ++ x ∷ []) last)

  -- the own channels from an actor on
  own-next : (apart : Bool) (channels : List ChannelRow) (rows : List ActorRow) (i : ℕ) (row : ActorRow) → i < length rows → row ≡ get_or rows i row → (b : Bool) → gets_own apart channels i row.phases ≡ b →
      own_channels_from apart channels i (drop i rows)
      ≡ cond b (own_channel i row.phases ∷ own_channels_from apart channels (suc i) (drop (i + 1) rows)) (own_channels_from apart channels (suc i) (drop (i + 1) rows))
  own-next apart channels rows i row below here b test =
      let split : own_channels_from apart channels i (drop i rows) ≡ own_channels_from apart channels i (get_or rows i row ∷ drop (i + 1) rows) = at_drop_more (own_channels_from apart channels i) rows i row below in
      let same : own_channels_from apart channels i (get_or rows i row ∷ drop (i + 1) rows) ≡ own_channels_from apart channels i (row ∷ drop (i + 1) rows) =
      ap (λ (r : ActorRow). own_channels_from apart channels i (r ∷ drop (i + 1) rows)) (sym here) in
      split ∙ same ∙ ap (λ (t : Bool). cond t (own_channel i row.phases ∷ own_channels_from apart channels (suc i) (drop (i + 1) rows)) (own_channels_from apart channels (suc i) (drop (i + 1) rows))) test

  pub own-pushed : (apart : Bool) (channels : List ChannelRow) (rows : List ActorRow) (i : ℕ) (row : ActorRow) (table pushed : List C) (c : C) (all : List Channel) →
      i < length rows → row ≡ get_or rows i row → gets_own apart channels i row.phases ≡ true → pushed ≡ table ++ c ∷ [] → plain c ≡ own_channel i row.phases →
      map plain table ++ own_channels_from apart channels i (drop i rows) ≡ all →
      map plain pushed ++ own_channels_from apart channels (i + 1) (drop (i + 1) rows) ≡ all
  own-pushed apart channels rows i row table pushed c all below here test push same so_far =
      let next = own-next apart channels rows i row below here true test in
      let all_is : map plain table ++ (own_channel i row.phases ∷ own_channels_from apart channels (suc i) (drop (i + 1) rows)) ≡ all = ap (λ (xs : List Channel). map plain table ++ xs) (sym next) ∙ so_far in
      rw (push, map_push, add-one, same, append_assoc) (rw add-one at all_is)

  pub own-passed : (apart : Bool) (channels : List ChannelRow) (rows : List ActorRow) (i : ℕ) (row : ActorRow) (table : List C) (all : List Channel) →
      i < length rows → row ≡ get_or rows i row → gets_own apart channels i row.phases ≡ false →
      map plain table ++ own_channels_from apart channels i (drop i rows) ≡ all →
      map plain table ++ own_channels_from apart channels (i + 1) (drop (i + 1) rows) ≡ all
  own-passed apart channels rows i row table all below here test so_far =
      let next = own-next apart channels rows i row below here false test in
      let all_is : map plain table ++ own_channels_from apart channels (suc i) (drop (i + 1) rows) ≡ all = ap (λ (xs : List Channel). map plain table ++ xs) (sym next) ∙ so_far in
      rw add-one (rw add-one at all_is)

pub file-all : (g : GraphFile) (n : ℕ) → length g.channels ≤ n → take n (file_channels g) ≡ file_channels g
file-all g n past = take_all n (file_channels g) (rw (file-length 0 g.channels) past)

-- tables that are the net of a file keep its laws
pub lawful-as : (g : GraphFile) (gamma : List ℕ) (apart : Bool) (net : Net) → KeepsWideRules g → IsTimed g → IsRepetitionOf g gamma → sum gamma ≤ 100000 →
    net ≡ net_of g gamma apart → Lawful net
lawful-as g gamma apart net rules timed gives small is = subst Lawful (sym is) (net_of-lawful g gamma apart rules timed gives small)

-- no actor has more times than it may have phases
pub few_times : (g : GraphFile) → KeepsRules g → IsTimed g → (times : List (List ℕ)) → times ≡ map (λ (a : ActorRow). a.times) g.actors → All (λ t. length t ≤ 4096) times
few_times g rules timed times is k d below =
    let nobody : ActorRow = record { name = []; phases = 0; times = [] } in
    let there : k < length g.actors = omega (arith, ap (λ (ts : List (List ℕ)). length ts) is, length-map g.actors (λ (a : ActorRow). a.times)) in
    let at : get_or times k d ≡ (get_or g.actors k nobody).times = ap (λ (ts : List (List ℕ)). get_or ts k d) is ∙ get_or-map (λ (a : ActorRow). a.times) g.actors k nobody d there in
    let few : (get_or g.actors k nobody).phases ≤ 4096 = (rules.actors k nobody there).few_phases in
    let whole : length (get_or g.actors k nobody).times ≡ (get_or g.actors k nobody).phases = timed k nobody there in
    omega (arith, ap (λ (t : List ℕ). length t) at)
