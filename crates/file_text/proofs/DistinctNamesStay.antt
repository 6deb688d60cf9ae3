-- Names of attributes that differ go on differing with each new one, and tests find whether one is new.
use Rattle.std.proofs.Common.{◌≡◌, ◌≢◌, ℕ, refl, sym, false, List, [], ◌∷◌, ◌++◌, bytes_eq}
use Rattle.std.proofs.lemmas.Bool.{or_from, or_parts}
use Rattle.sd_base.proofs.ByteTestsDecide.{bytes_differ, bytes_other}
use Rattle.file_text.specs.declared.tree.Attribute.{Attribute}
use Rattle.file_text.specs.Grammar.{Each, IsNew, AreDistinct}
use Rattle.file_text.specs.inside.AttributeNames.{has_name}

pub new_name : (name : List ℕ) (as' : List Attribute) → IsNew name as' → has_name name as' ≡ false
new_name name [] h = refl
new_name name (x ∷ xs) h = or_from (bytes_eq x.name name) (has_name name xs) (bytes_differ x.name name h.0) (new_name name xs h.1)

pub name_is_new : (name : List ℕ) (as' : List Attribute) → has_name name as' ≡ false → IsNew name as'
name_is_new name [] h = tt
name_is_new name (x ∷ xs) h =
    let parts = or_parts (bytes_eq x.name name) (has_name name xs) h in
    (bytes_other x.name name parts.0, name_is_new name xs parts.1)

pub each-append : {X : Type 0} (P : X → Type 0) (xs ys : List X) → Each P xs → Each P ys → Each P (xs ++ ys)
each-append P [] ys p q = q
each-append P (x ∷ xs) ys p q = (p.0, each-append P xs ys p.1 q)

pub each_right : {X : Type 0} (P : X → Type 0) (xs ys : List X) → Each P (xs ++ ys) → Each P ys
each_right P [] ys p = p
each_right P (x ∷ xs) ys p = each_right P xs ys p.1

-- of distinct attributes one is new among those before it
pub distinct_new : (done : List Attribute) (a : Attribute) (rest : List Attribute) → AreDistinct (done ++ a ∷ rest) → IsNew a.name done
distinct_new [] a rest h = tt
distinct_new (d ∷ done) a rest h =
    ((λ e. (each_right (λ x. x.name ≢ d.name) done (a ∷ rest) h.0).0 (sym e)), distinct_new done a rest h.1)

-- and an attribute that is new among distinct ones is distinct behind them
pub distinct_one_more : (done : List Attribute) (a : Attribute) → AreDistinct done → IsNew a.name done → AreDistinct (done ++ a ∷ [])
distinct_one_more [] a h new = (tt, tt)
distinct_one_more (d ∷ done) a h new =
    (each-append (λ x. x.name ≢ d.name) done (a ∷ []) h.0 (λ e. new.0 (sym e), tt), distinct_one_more done a h.1 new.1)
