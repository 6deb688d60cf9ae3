-- Names that differ, as settings are added at the end.
use Rattle.std.proofs.Common.{◌≡◌, ℕ, false, List, [], ◌∷◌, ◌++◌, map, refl}
use Rattle.std.specs.List.{IsDistinct, AllByRecursion}
use Rattle.std.specs.Str.{bytes_eq}
use Rattle.std.proofs.lemmas.Bool.{or_parts, or_from}
use Rattle.sd_words.specs.Spelling.{Setting}
use Rattle.sd_words.specs.Reading.{is_taken}

abbrev pub names : List Setting → List (List ℕ)
names settings = map (λ s. s.name) settings

all-more : (P : List ℕ → Type 0) (done : List Setting) (s : Setting) → AllByRecursion P (names done) → P s.name → AllByRecursion P (names (done ++ s ∷ []))
all-more P [] s all here = (here, tt)
all-more P (d ∷ done) s all here = (all.0, all-more P done s all.1 here)

all-middle : (P : List ℕ → Type 0) (done : List Setting) (s : Setting) (ss : List Setting) → AllByRecursion P (names (done ++ s ∷ ss)) → P s.name
all-middle P [] s ss all = all.0
all-middle P (d ∷ done) s ss all = all-middle P done s ss all.1

-- a setting of a new name leaves the names apart
pub apart-more : (done : List Setting) (s : Setting) → is_taken s.name done ≡ false → IsDistinct bytes_eq (names done) → IsDistinct bytes_eq (names (done ++ s ∷ []))
unfolding IsDistinct
apart-more [] s free apart = (tt, tt)
apart-more (d ∷ done) s free apart =
    let p = or_parts (bytes_eq d.name s.name) (is_taken s.name done) free in
    (all-more (λ n. bytes_eq d.name n ≡ false) done s apart.0 p.0, apart-more done s p.1 apart.1)

-- where names are apart, each is new to those before it
pub apart-free : (done : List Setting) (s : Setting) (ss : List Setting) → IsDistinct bytes_eq (names (done ++ s ∷ ss)) → is_taken s.name done ≡ false
unfolding IsDistinct
apart-free [] s ss apart = refl
apart-free (d ∷ done) s ss apart =
    or_from (bytes_eq d.name s.name) (is_taken s.name done) (all-middle (λ n. bytes_eq d.name n ≡ false) done s ss apart.0) (apart-free done s ss apart.1)
