-- Copies have names of their own: behind the last dot stands the firing.
use Rattle.std.proofs.Common.{◌≡◌, ◌≢◌, ℕ, ◌+◌, ◌%◌, ◌^◌, ◌≤◌, ◌<◌, ◌⊎◌, inl, inr, Bool, true, false, List, [], ◌∷◌, ◌++◌, length, sum, subst, sym, refl, ap, ◌∙◌, arith, Some, None}
use Rattle.std.specs.Prelude.{slice_index_or, nat_lt, codes, if◌then◌else◌}
use Rattle.std.specs.List.{AllPairs}
use Rattle.std.specs.Fmt.{decimal}
use Rattle.std.proofs.lemmas.Fmt.{decimal_by_steps, decimal_injective}
use Rattle.std.proofs.lemmas.Bool.{cases_order, ltb-false}
use Rattle.sd_base.specs.declared.limits.TheConstants.{ACTORS, CHANNELS}
use Rattle.sd_base.specs.declared.limits.Quantity.TheVariants as quantities
use Rattle.sd_base.specs.declared.tables.GraphFile.{GraphFile}
use Rattle.sd_base.specs.declared.tables.ActorRow.{ActorRow}
use Rattle.sd_base.specs.declared.tables.ChannelRow.{ChannelRow}
use Rattle.sd_base.specs.Net.{Net}
use Rattle.sd_base.specs.Lawful.{Lawful}
use Rattle.sd_base.proofs.LawfulIsRegular.{wired, balanced}
use Rattle.sd_base.proofs.ElementsKeepPlaces.{entry-le-sum}
use Rattle.single_rate.specs.declared.links.Link.{Link}
use Rattle.single_rate.specs.Expansions.{copy_name, copy_row, copy_rows, expansion, first_copy, link_row, link_rows, links_of}
use Rattle.single_rate.specs.Firings.{no_link}
use Rattle.single_rate.specs.Limits.{excess, has_long_name}
use Rattle.single_rate.specs.Names.{ActorsDiffer, ChannelsDiffer}
use Rattle.single_rate.proofs.CopyNumbers.{copy-of}
use Rattle.single_rate.proofs.ExpansionsUnroll.{many-copies, copy-row-at, rows-at, length-rows}

-- a byte doesn't stand in a text, by recursion
abbrev IsFree : ℕ → List ℕ → Type 0
IsFree b [] = Unit {0}
IsFree b (x ∷ xs) = (x ≢ b) × IsFree b xs

free-more : (b : ℕ) (xs : List ℕ) (y : ℕ) → IsFree b xs → y ≢ b → IsFree b (xs ++ y ∷ [])
free-more b [] y free not = (not, tt)
free-more b (x ∷ xs) y free not = (free.0, free-more b xs y free.1 not)

-- a number has no dot
no-dot : (n : ℕ) → n < 2 ^ 64 → IsFree 46 (decimal n)
no-dot n small = decimal_by_steps (λ k ds. IsFree 46 ds) (λ k below. ((λ e. omega arith), tt)) (λ k ds many free. free-more 46 ds (48 + k % 10) free (λ e. omega arith)) n small

free-front : (b : ℕ) (xs ys zs : List ℕ) → IsFree b xs → xs ≡ ys ++ b ∷ zs → ⊥
free-front b [] [] zs free e = cc
free-front b [] (y ∷ ys) zs free e = cc
free-front b (x ∷ xs) [] zs free e = let same : x ≡ b = cc in free.0 same
free-front b (x ∷ xs) (y ∷ ys) zs free e = let rest : xs ≡ ys ++ b ∷ zs = cc in free-front b xs ys zs free.1 rest

-- what stands before the last dot, and behind it
split-dot : (b : ℕ) (us vs xs ys : List ℕ) → IsFree b xs → IsFree b ys → us ++ b ∷ xs ≡ vs ++ b ∷ ys → (us ≡ vs) × (xs ≡ ys)
split-dot b [] [] xs ys free other e = (refl, cc)
split-dot b [] (v ∷ vs) xs ys free other e = absurd (let rest : xs ≡ vs ++ b ∷ ys = cc in free-front b xs vs ys free rest)
split-dot b (u ∷ us) [] xs ys free other e = absurd (let rest : us ++ b ∷ xs ≡ ys = cc in free-front b ys us xs other (sym rest))
split-dot b (u ∷ us) (v ∷ vs) xs ys free other e =
    let first : u ≡ v = cc in
    let rest : us ++ b ∷ xs ≡ vs ++ b ∷ ys = cc in
    let parts = split-dot b us vs xs ys free other rest in
    ((let left : us ≡ vs = parts.0 in cc), parts.1)

pub one-copy : (name other : List ℕ) (k m : ℕ) → k < 2 ^ 64 → m < 2 ^ 64 → copy_name name k ≡ copy_name other m → (name ≡ other) × (k ≡ m)
unfolding copy_name
one-copy name other k m small few e =
    let parts = split-dot 46 name other (decimal k) (decimal m) (no-dot k small) (no-dot m few) e in
    (parts.0, decimal_injective k m small few parts.1)

-- nothing is too large
pub excess-tells : (net : Net) (g : GraphFile) → excess net g ≡ None → (sum net.round ≤ ACTORS) × (length (links_of net) ≤ CHANNELS)
unfolding excess
excess-tells net g e = at (nat_lt ACTORS (sum net.round)) refl (has_long_name net g) (nat_lt CHANNELS (length (links_of net))) refl e
  where
    at : (a : Bool) → nat_lt ACTORS (sum net.round) ≡ a → (b c : Bool) → nat_lt CHANNELS (length (links_of net)) ≡ c → (if a then Some quantities.Actors else if b then Some quantities.NameBytes else if c then Some quantities.Channels else None) ≡ None
        → (sum net.round ≤ ACTORS) × (length (links_of net) ≤ CHANNELS)
    at true is b c also none = absurd (cc)
    at false is true c also none = absurd (cc)
    at false is false true also none = absurd (cc)
    at false is false false also none = (ltb-false ACTORS (sum net.round) is, ltb-false CHANNELS (length (links_of net)) also)

module _ (net : Net) (laws : Lawful net) (g : GraphFile) (named : length g.actors ≡ length net.times) (fits : excess net g ≡ None) where
  name-is : (name : List ℕ) (a k : ℕ) → (copy_row net name a k).name ≡ copy_name name k
  unfolding copy_row
  name-is name a k = refl

  actors-is : (expansion net g).actors ≡ copy_rows net g.actors
  unfolding expansion
  actors-is = refl

  channels-is : (expansion net g).channels ≡ link_rows 0 (links_of net)
  unfolding expansion
  channels-is = refl

  link-name : (n : ℕ) (l : Link) → (link_row n l).name ≡ codes "e" ++ decimal n
  unfolding link_row
  link-name n l = refl

  rows-differ : ActorsDiffer g → AllPairs (λ (a b : ActorRow). a.name ≢ b.name) (copy_rows net g.actors)
  rows-differ apart y z d before within same =
      let many : length (copy_rows net g.actors) ≡ sum net.round = many-copies net (wired net laws) (balanced net laws) g named in
      let rounds : length net.round ≡ length net.times = (balanced net laws).actors in
      let few : sum net.round ≤ ACTORS = (excess-tells net g fits).0 in
      let one = copy-of net y (omega arith) in
      let two = copy-of net z (omega arith) in
      let one_actor : one.0 < length net.times = omega (arith, one.2) in
      let two_actor : two.0 < length net.times = omega (arith, two.2) in
      let one_row : slice_index_or (copy_rows net g.actors) y d ≡ copy_row net (slice_index_or g.actors one.0 d).name one.0 one.1 =
      ap (λ (x : ℕ). slice_index_or (copy_rows net g.actors) x d) one.4 ∙ copy-row-at net (wired net laws) (balanced net laws) g named one.0 one.1 d one_actor one.3 in
      let two_row : slice_index_or (copy_rows net g.actors) z d ≡ copy_row net (slice_index_or g.actors two.0 d).name two.0 two.1 =
      ap (λ (x : ℕ). slice_index_or (copy_rows net g.actors) x d) two.4 ∙ copy-row-at net (wired net laws) (balanced net laws) g named two.0 two.1 d two_actor two.3 in
      let names : copy_name (slice_index_or g.actors one.0 d).name one.1 ≡ copy_name (slice_index_or g.actors two.0 d).name two.1 =
      sym (ap (λ (r : ActorRow). r.name) one_row ∙ name-is (slice_index_or g.actors one.0 d).name one.0 one.1) ∙ (same ∙ (ap (λ (r : ActorRow). r.name) two_row ∙ name-is (slice_index_or g.actors two.0 d).name two.0 two.1)) in
      let parts = one-copy (slice_index_or g.actors one.0 d).name (slice_index_or g.actors two.0 d).name one.1 two.1 (omega (arith, one.3, entry-le-sum net.round one.0)) (omega (arith, two.3, entry-le-sum net.round two.0)) names in
      at one.0 two.0 one_actor two_actor (cases_order one.0 two.0) parts.0 (λ e. let first : first_copy net one.0 ≡ first_copy net two.0 = ap (first_copy net) e in omega (arith, one.4, two.4, parts.1))
    where
      at : (a b : ℕ) → a < length net.times → b < length net.times → (a ≡ b) ⊎ ((a < b) ⊎ (b < a)) → (slice_index_or g.actors a d).name ≡ (slice_index_or g.actors b d).name → (a ≡ b → ⊥) → ⊥
      at a b actor other (inl e) names never = never e
      at a b actor other (inr (inl less)) names never = apart a b d less (omega arith) names
      at a b actor other (inr (inr more)) names never = apart b a d more (omega arith) (sym names)

  pub copies-differ : ActorsDiffer g → ActorsDiffer (expansion net g)
  copies-differ apart = subst (λ (rows : List ActorRow). AllPairs (λ (a b : ActorRow). a.name ≢ b.name) rows) (sym actors-is) (rows-differ apart)

  links-apart : AllPairs (λ (c d : ChannelRow). c.name ≢ d.name) (link_rows 0 (links_of net))
  links-apart n m d before within same =
      let many : length (link_rows 0 (links_of net)) ≡ length (links_of net) = length-rows 0 (links_of net) in
      let few : length (links_of net) ≤ CHANNELS = (excess-tells net g fits).1 in
      let one : slice_index_or (link_rows 0 (links_of net)) n d ≡ link_row (0 + n) (slice_index_or (links_of net) n no_link) = rows-at 0 (links_of net) n d (omega arith) in
      let two : slice_index_or (link_rows 0 (links_of net)) m d ≡ link_row (0 + m) (slice_index_or (links_of net) m no_link) = rows-at 0 (links_of net) m d (omega arith) in
      let names : codes "e" ++ decimal (0 + n) ≡ codes "e" ++ decimal (0 + m) =
      sym (ap (λ (c : ChannelRow). c.name) one ∙ link-name (0 + n) (slice_index_or (links_of net) n no_link)) ∙ (same ∙ (ap (λ (c : ChannelRow). c.name) two ∙ link-name (0 + m) (slice_index_or (links_of net) m no_link))) in
      let numbers : decimal (0 + n) ≡ decimal (0 + m) = cc in
      let e : 0 + n ≡ 0 + m = decimal_injective (0 + n) (0 + m) (omega arith) (omega arith) numbers in
      omega arith

  pub links-differ : ChannelsDiffer (expansion net g)
  links-differ = subst (λ (rows : List ChannelRow). AllPairs (λ (c d : ChannelRow). c.name ≢ d.name) rows) (sym channels-is) links-apart
