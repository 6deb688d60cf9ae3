-- The corner channel by channel; it is a distribution on the grid.
use Rattle.std.proofs.Common.{◌≡◌, ℕ, suc, ◌+◌, ◌≤◌, ◌<◌, ◌⊎◌, true, false, Option, None, Some, List, [], ◌∷◌, ◌++◌, length, take, ⊎_elim, sym, refl, ◌∙◌, arith}
use Rattle.std.specs.Prelude.{slice_index_or, MatchOption, ◌≢◌}
use Rattle.std.proofs.lemmas.List.{take_more, get_or-take, length-take-le}
use Rattle.sd_base.specs.declared.role.Role.TheVariants.{Token, Own, Space, Order}
use Rattle.sd_base.specs.Net.{Channel, Net, nowhere, channel_at}
use Rattle.sd_base.specs.Lawful.{is_token_role, is_file_channel, Lawful, is_space_role}
use Rattle.storage.specs.Distributions.{IsDistribution}
use Rattle.storage.specs.Steps.{IsOnGrid, IsCornerAt, IsCorner}

-- the entry of a channel of the file
abbrev pub IsCornerEntry : Channel → Option ℕ → Type 0
IsCornerEntry c e = MatchOption e (c.source ≡ c.target) (λ k. (c.source ≢ c.target) × IsCornerAt c k)

corner-push : (cs : List Channel) (ds : List (Option ℕ)) (c : Channel) (e : Option ℕ) → IsCorner cs ds → ((i : ℕ) → i < length cs → is_token_role (slice_index_or cs i nowhere).role ≡ true) → is_token_role c.role ≡ true → IsCornerEntry c e →
    IsCorner (cs ++ c ∷ []) (ds ++ e ∷ [])
corner-push [] [] c None corner files token entry = (token, entry, tt)
corner-push [] [] c (Some k) corner files token entry = (token, entry.0, entry.1, tt)
corner-push [] (d ∷ ds) c e corner files token entry = absurd corner
corner-push (x ∷ cs) [] c e corner files token entry = absurd (let no : true ≡ false = sym (files 0 (omega arith)) ∙ corner.0 in cc)
corner-push (x ∷ cs) (None ∷ ds) c e corner files token entry = (corner.0, corner.1, corner-push cs ds c e corner.2 (λ i below. files (suc i) (omega arith)) token entry)
corner-push (x ∷ cs) (Some k ∷ ds) c e corner files token entry = (corner.0, corner.1, corner.2, corner-push cs ds c e corner.3 (λ i below. files (suc i) (omega arith)) token entry)

corner-past : (cs : List Channel) (ds : List (Option ℕ)) (c : Channel) → IsCorner cs ds → is_token_role c.role ≡ false → IsCorner (cs ++ c ∷ []) ds
corner-past [] [] c corner other = (other, tt)
corner-past [] (d ∷ ds) c corner other = absurd corner
corner-past (x ∷ cs) [] c corner other = (corner.0, corner-past cs [] c corner.1 other)
corner-past (x ∷ cs) (None ∷ ds) c corner other = (corner.0, corner.1, corner-past cs ds c corner.2 other)
corner-past (x ∷ cs) (Some k ∷ ds) c corner other = (corner.0, corner.1, corner.2, corner-past cs ds c corner.3 other)

-- a file's channel has the role
file-token : (i : ℕ) (net : Net) → is_file_channel i (channel_at net i).role ≡ true → is_token_role (channel_at net i).role ≡ true
file-token i net file = at (channel_at net i).role file
  where
    at : (r : Rattle.sd_base.specs.declared.role.Role.Role) → is_file_channel i r ≡ true → is_token_role r ≡ true
    at (Token c) file = refl
    at (Own a) file = cc
    at (Space c) file = cc
    at (Order x y) file = cc

pub corner-next : (net : Net) → Lawful net → (ds : List (Option ℕ)) (i : ℕ) (e : Option ℕ) → i < length net.channels → IsCorner (take i net.channels) ds → is_token_role (channel_at net i).role ≡ true → IsCornerEntry (channel_at net i) e →
    IsCorner (take (i + 1) net.channels) (ds ++ e ∷ [])
corner-next net laws ds i e below corner token entry = rw (take_more net.channels i nowhere below) (corner-push (take i net.channels) ds (channel_at net i) e corner files token entry)
  where
    files : (k : ℕ) → k < length (take i net.channels) → is_token_role (slice_index_or (take i net.channels) k nowhere).role ≡ true
    files k less =
        let small : k < i = omega (arith, length-take-le i net.channels (omega arith)) in
        rw (get_or-take i net.channels k nowhere small) (file-token k net (laws.files_first k i (omega arith) below token))

pub corner-other : (net : Net) (ds : List (Option ℕ)) (i : ℕ) → i < length net.channels → IsCorner (take i net.channels) ds → is_token_role (channel_at net i).role ≡ false → IsCorner (take (i + 1) net.channels) ds
corner-other net ds i below corner other = rw (take_more net.channels i nowhere below) (corner-past (take i net.channels) ds (channel_at net i) corner other)

-- ---- the corner is a distribution on the grid

pub corner-distribution : (cs : List Channel) (ds : List (Option ℕ)) → ((i : ℕ) → i < length cs → (is_token_role (slice_index_or cs i nowhere).role ≡ true) ⊎ ((is_space_role (slice_index_or cs i nowhere).role ≡ false) × ((slice_index_or cs i nowhere).source ≡ (slice_index_or cs i nowhere).target))) →
    IsCorner cs ds → IsDistribution cs ds
corner-distribution [] [] plain corner = tt
corner-distribution [] (d ∷ ds) plain corner = absurd corner
corner-distribution (c ∷ cs) [] plain corner = (
  corner.0,
  ⊎_elim (λ (file : is_token_role c.role ≡ true). absurd (let no : true ≡ false = sym file ∙ corner.0 in cc)) (λ (own : (is_space_role c.role ≡ false) × (c.source ≡ c.target)). own.1) (plain 0 (omega arith)),
  corner-distribution cs [] (λ i below. plain (suc i) (omega arith)) corner.1,
)
corner-distribution (c ∷ cs) (None ∷ ds) plain corner = (corner.0, corner.1, corner-distribution cs ds (λ i below. plain (suc i) (omega arith)) corner.2)
corner-distribution (c ∷ cs) (Some k ∷ ds) plain corner =
    let covers : c.tokens ≤ k = omega (arith, corner.2.step.1) in (corner.0, corner.1, covers, corner-distribution cs ds (λ i below. plain (suc i) (omega arith)) corner.3)

pub corner-grid : (cs : List Channel) (ds : List (Option ℕ)) → IsCorner cs ds → IsOnGrid cs ds
corner-grid [] [] corner = tt
corner-grid [] (d ∷ ds) corner = absurd corner
corner-grid (c ∷ cs) [] corner = tt
corner-grid (c ∷ cs) (None ∷ ds) corner = corner-grid cs ds corner.2
corner-grid (c ∷ cs) (Some k ∷ ds) corner = (corner.2.step, corner-grid cs ds corner.3)
