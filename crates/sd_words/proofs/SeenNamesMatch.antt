-- The reader's names are those of the settings.
use Rattle.std.proofs.Common.{◌≡◌, ℕ, true, List, [], ◌∷◌, ◌++◌, map, Bor, Err, sym, ap, ◌∙◌}
use Rattle.std.specs.List.{list_any}
use Rattle.std.specs.Str.{bytes_eq}
use Rattle.std.proofs.lemmas.List.{map-append}
use Rattle.std.proofs.lemmas.Bool.{cond-true}
use Rattle.sd_base.proofs.ElementsKeepPlaces.{any-map}
use Rattle.sd_words.specs.declared.request.UsageCause.TheVariants.{Words}
use Rattle.sd_words.specs.Spelling.{Setting}
use Rattle.sd_words.specs.Reading.{Progress, is_taken, with_setting}
use Rattle.sd_words.proofs.ReadingGivesSettings.{pair}

-- a name is among the reader's exactly where it is taken
pub taken-seen : (names : List (Bor (List ℕ))) (settings : List Setting) (name : List ℕ) → map (λ n. n.now) names ≡ map (λ s. s.name) settings
    → list_any (λ n. bytes_eq n.now name) names ≡ is_taken name settings
taken-seen names settings name same =
    any-map (λ (n : Bor (List ℕ)). n.now) (λ n. bytes_eq n name) names ∙ ap (list_any (λ n. bytes_eq n name)) same
    ∙ sym (any-map (λ (s : Setting). s.name) (λ n. bytes_eq n name) settings)

pub taken-fails : (p : Progress) (n v : List ℕ) → is_taken n p.settings ≡ true → with_setting p n v ≡ Err Words
unfolding with_setting
taken-fails p n v taken = cond-true (is_taken n p.settings) _ _ taken

-- a name more
pub seen-more : (names more : List (Bor (List ℕ))) (settings : List Setting) (name : Bor (List ℕ)) (v : List ℕ) → map (λ n. n.now) names ≡ map (λ s. s.name) settings
    → more ≡ names ++ name ∷ [] → map (λ n. n.now) more ≡ map (λ s. s.name) (settings ++ pair name.now v ∷ [])
seen-more names more settings name v same is =
    ap (map (λ n. n.now)) is ∙ map-append (λ (n : Bor (List ℕ)). n.now) names (name ∷ []) ∙ ap (λ l. l ++ name.now ∷ []) same
    ∙ sym (map-append (λ (s : Setting). s.name) settings (pair name.now v ∷ []))
