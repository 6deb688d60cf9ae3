-- One turn of the loop over the words, and of those over the options.
use Rattle.std.proofs.Common.{◌≡◌, ℕ, ◌+◌, ◌<◌, ◌≤◌, List, [], ◌∷◌, ◌++◌, length, map, get_or, drop, Result, Ok, Err, sym, ap, ◌∙◌, add-one, append_assoc, drop-cons}
use Rattle.std.specs.List.{fold}
use Rattle.std.proofs.lemmas.List.{append-nil, drop_all}
use Rattle.sd_words.specs.declared.names.OptionName.{OptionName}
use Rattle.sd_words.specs.declared.names.Algorithm.{Algorithm}
use Rattle.sd_words.specs.declared.request.UsageCause.{UsageCause}
use Rattle.sd_words.specs.declared.request.WordsError.{WordsError}
use Rattle.sd_words.specs.declared.request.WordsError.TheVariants.{Usage, NoMemory}
use Rattle.sd_words.specs.Reading.{◌>>=◌, Progress, with_word, with_words}
use Rattle.sd_words.specs.Asked.{Fails, Values, checked, all_checked}

-- what ends a part ends the whole
pub fails : {Y Z : Type 0} (e : WordsError) (part : Result Y UsageCause) (whole : Result Z UsageCause)
    → ((cause : UsageCause) → part ≡ Err cause → whole ≡ Err cause) → Fails e part → Fails e whole
fails (Usage cause) part whole f h = f cause h
fails NoMemory part whole f h = tt

-- at a place in the list of words
pub with_words-at : (p : Progress) (ws : List (List ℕ)) (i : ℕ) (w : List ℕ) → i < length ws → w ≡ get_or ws i w
    → with_words p (drop i ws) ≡ (with_word p w >>= λ q. with_words q (drop (i + 1) ws))
unfolding with_words
with_words-at p ws i w lt is =
    let first : drop i ws ≡ get_or ws i w ∷ drop (i + 1) ws = rw add-one (drop-cons ws i w lt) in
    ap (with_words p) (first ∙ ap (λ v. v ∷ drop (i + 1) ws) (sym is))

-- the next word ends the reading, or goes on
pub with_words-fails : (p : Progress) (ws : List (List ℕ)) (i : ℕ) (w : List ℕ) (cause : UsageCause) → i < length ws → w ≡ get_or ws i w
    → with_word p w ≡ Err cause → with_words p (drop i ws) ≡ Err cause
with_words-fails p ws i w cause lt is e = with_words-at p ws i w lt is ∙ ap (λ r. r >>= λ q. with_words q (drop (i + 1) ws)) e

pub with_words-goes : (p q : Progress) (ws : List (List ℕ)) (i : ℕ) (w : List ℕ) → i < length ws → w ≡ get_or ws i w
    → with_word p w ≡ Ok q → with_words q (drop (i + 1) ws) ≡ with_words p (drop i ws)
with_words-goes p q ws i w lt is e = sym (with_words-at p ws i w lt is ∙ ap (λ r. r >>= λ q'. with_words q' (drop (i + 1) ws)) e)

pub with_words-end : (p : Progress) (ws : List (List ℕ)) (i : ℕ) → length ws ≤ i → with_words p (drop i ws) ≡ Ok p
unfolding with_words
with_words-end p ws i past = ap (with_words p) (drop_all i ws past)

pub all_checked-at : (a : Algorithm) (values : Values) (os : List OptionName) (i : ℕ) (d : OptionName)
    → i < length os → all_checked a values (drop i os) ≡ (checked a (get_or os i d) values >>= λ _. all_checked a values (drop (i + 1) os))
unfolding all_checked
all_checked-at a values os i d lt =
    let first : drop i os ≡ get_or os i d ∷ drop (i + 1) os = rw add-one (drop-cons os i d lt) in
    ap (all_checked a values) first

pub all_checked-fails : (a : Algorithm) (values : Values) (os : List OptionName) (i : ℕ) (d : OptionName) (cause : UsageCause)
    → i < length os → checked a (get_or os i d) values ≡ Err cause → all_checked a values (drop i os) ≡ Err cause
all_checked-fails a values os i d cause lt e = all_checked-at a values os i d lt ∙ ap (λ r. r >>= λ _. all_checked a values (drop (i + 1) os)) e

pub all_checked-goes : (a : Algorithm) (values : Values) (os : List OptionName) (i : ℕ) (d : OptionName)
    → i < length os → checked a (get_or os i d) values ≡ Ok tt → all_checked a values (drop (i + 1) os) ≡ all_checked a values (drop i os)
all_checked-goes a values os i d lt e = sym (all_checked-at a values os i d lt ∙ ap (λ r. r >>= λ _. all_checked a values (drop (i + 1) os)) e)

pub all_checked-end : (a : Algorithm) (values : Values) (os : List OptionName) (i : ℕ) → length os ≤ i → all_checked a values (drop i os) ≡ Ok tt
unfolding all_checked
all_checked-end a values os i past = ap (all_checked a values) (drop_all i os past)

-- one turn of a loop that gathers
pub fold-at : {A X : Type 0} (f : A → X → A) (a : A) (xs : List X) (i : ℕ) (d : X) → i < length xs → fold f a (drop i xs) ≡ fold f (f a (get_or xs i d)) (drop (i + 1) xs)
fold-at f a xs i d lt =
    let first : drop i xs ≡ get_or xs i d ∷ drop (i + 1) xs = rw add-one (drop-cons xs i d lt) in
    ap (fold f a) first

-- one turn of a loop that maps
pub map-at : {X Y : Type 0} (f : X → Y) (done : List Y) (xs : List X) (i : ℕ) (d : X) → i < length xs
    → (done ++ f (get_or xs i d) ∷ []) ++ map f (drop (i + 1) xs) ≡ done ++ map f (drop i xs)
map-at f done xs i d lt =
    let first : drop i xs ≡ get_or xs i d ∷ drop (i + 1) xs = rw add-one (drop-cons xs i d lt) in
    append_assoc done (f (get_or xs i d) ∷ []) (map f (drop (i + 1) xs)) ∙ sym (ap (λ l. done ++ map f l) first)

pub map-end : {X Y : Type 0} (f : X → Y) (done : List Y) (xs : List X) (i : ℕ) → length xs ≤ i → done ++ map f (drop i xs) ≡ done
map-end f done xs i past = ap (λ l. done ++ map f l) (drop_all i xs past) ∙ append-nil done
