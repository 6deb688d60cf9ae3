-- Changes of one entry of a distribution, and the storage of the first entries.
use Rattle.std.proofs.Common.{◌≡◌, ℕ, zero, suc, ◌+◌, ◌≤◌, ◌<◌, Option, None, Some, List, [], ◌∷◌, length, take, slice_set, refl, sym, ap, ◌∙◌, arith}
use Rattle.std.specs.Prelude.{slice_index_or}
use Rattle.sd_base.specs.Net.{Channel, nowhere}
use Rattle.storage.specs.Distributions.{enlarged, more_room, storage_at, storage_of}

pub enlarged-at : (ds : List (Option ℕ)) (c by : ℕ) (v r : Option ℕ) → c < length ds → v ≡ slice_index_or ds c v → r ≡ more_room v by → enlarged ds c by ≡ slice_set ds c r
enlarged-at [] c by v r below read is = absurd (omega arith)
enlarged-at (d ∷ ds) zero by v r below read is = ap (λ (x : Option ℕ). more_room x by ∷ ds) (sym read) ∙ ap (λ (x : Option ℕ). x ∷ ds) (sym is)
enlarged-at (d ∷ ds) (suc c) by v r below read is = ap (λ (es : List (Option ℕ)). d ∷ es) (enlarged-at ds c by v r (omega arith) read is)

pub enlarged-past : (ds : List (Option ℕ)) (c by : ℕ) → length ds ≤ c → enlarged ds c by ≡ ds
enlarged-past [] c by past = refl
enlarged-past (d ∷ ds) zero by past = absurd (omega arith)
enlarged-past (d ∷ ds) (suc c) by past = ap (λ (es : List (Option ℕ)). d ∷ es) (enlarged-past ds c by (omega arith))

storage-no_entry : (cs : List Channel) → storage_of cs [] ≡ 0
storage-no_entry [] = refl
storage-no_entry (c ∷ cs) = refl

storage-cons : (c : Channel) (cs : List Channel) (d : Option ℕ) (ds : List (Option ℕ)) → storage_of (c ∷ cs) (d ∷ ds) ≡ storage_at c d + storage_of cs ds
storage-cons c cs None ds = omega arith
storage-cons c cs (Some k) ds = refl

pub storage-more : (cs : List Channel) (ds : List (Option ℕ)) (i : ℕ) → i < length ds → length ds ≤ length cs → storage_of cs (take (suc i) ds) ≡ storage_of cs (take i ds) + storage_at (slice_index_or cs i nowhere) (slice_index_or ds i None)
storage-more cs [] i below long = absurd (omega arith)
storage-more [] (d ∷ ds) i below long = absurd (omega arith)
storage-more (c ∷ cs) (d ∷ ds) zero below long = storage-cons c cs d [] ∙ (let e = storage-no_entry cs in omega arith)
storage-more (c ∷ cs) (d ∷ ds) (suc i) below long =
    let here = storage-cons c cs d (take (suc i) ds) in
    let there = storage-cons c cs d (take i ds) in
    let later = storage-more cs ds i (omega arith) (omega arith) in
    omega (arith, here, there, later)

pub storage-part : (cs : List Channel) (ds : List (Option ℕ)) (i : ℕ) → storage_of cs (take i ds) ≤ storage_of cs ds
storage-part [] ds i = omega arith
storage-part (c ∷ cs) [] zero = omega arith
storage-part (c ∷ cs) [] (suc i) = omega arith
storage-part (c ∷ cs) (d ∷ ds) zero = omega arith
storage-part (c ∷ cs) (d ∷ ds) (suc i) = let here = storage-cons c cs d (take i ds) in let there = storage-cons c cs d ds in let later = storage-part cs ds i in omega (arith, here, there, later)
