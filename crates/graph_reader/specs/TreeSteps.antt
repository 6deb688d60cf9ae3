-- Going through a tree by rules: the first rule that is broken ends the walk.
use Rattle.std.specs.Prelude.{◌≡◌, ◌≢◌, ℕ, if◌then◌else◌, List, [], ◌∷◌, ◌++◌, Option, Some, None, Result, Ok, Err, MatchResult, filter, codes}
use Rattle.std.specs.Str.{bytes_eq}
use Rattle.file_text.specs.declared.tree.Attribute.{Attribute}
use Rattle.file_text.specs.Node.{Node, name_of, attributes_of, children_of}
use Rattle.graph_reader.specs.declared.field.Field.{Field}
use Rattle.graph_reader.specs.declared.error.ReadError.{ReadError}
use Rattle.graph_reader.specs.declared.error.ReadError.TheVariants.{Missing, Twice, NoMemory}
use Rattle.graph_reader.specs.Field.{word_of}

infixl 10 ◌>>=◌
-- one rule after another
abbrev pub ◌>>=◌ : {A B : Type 0} → Result A ReadError → (A → Result B ReadError) → Result B ReadError
(Ok x) >>= f = f x
(Err e) >>= f = Err e

-- a refusal is the one that reading gives, unless memory ran out
abbrev pub Fails : {Y : Type 0} → ReadError → Result Y ReadError → Type 0
Fails error read = error ≢ NoMemory → read ≡ Err error

-- a result, seen by view, is what reading gives, unless memory ran out
abbrev pub Gives : {X Y : Type 0} → (X → Y) → Result X ReadError → Result Y ReadError → Type 0
Gives view result read = MatchResult result (λ x. read ≡ Ok (view x)) (λ error. Fails error read)

-- what is read where nothing that has a name is
abbrev pub file : List ℕ
file = codes "file"

-- those of the elements that are named so, in order
abbrev pub named : List ℕ → List Node → List Node
named word es = filter (λ e. bytes_eq (name_of e) word) es

-- the value of the first attribute named so
abbrev pub first_value : List ℕ → List Attribute → Option (List ℕ)
first_value word [] = None
first_value word (a ∷ rest) = if bytes_eq a.name word then Some a.value else first_value word rest

-- the elements in an element that are named so, in order
unfoldable pub children : List ℕ → Node → List Node
children word e = named word (children_of e)

-- the first of some elements
abbrev pub first : List Node → Option Node
first [] = None
first (e ∷ es) = Some e

-- the first element in an element that is named so
unfoldable pub first_child : List ℕ → Node → Option Node
first_child word e = first (children word e)

-- the value of an attribute
unfoldable pub attribute : List ℕ → Node → Option (List ℕ)
attribute word e = first_value word (attributes_of e)

-- a value that has to be there
abbrev pub present : Field → List ℕ → Option (List ℕ) → Result (List ℕ) ReadError
present what of None = Err (Missing what of)
present what of (Some value) = Ok value

-- the value of an attribute that has to be there
unfoldable pub required : Field → List ℕ → Node → Result (List ℕ) ReadError
required what of e = present what of (attribute (word_of what) e)

-- at most one element
abbrev pub not_two : Field → List Node → Result (Option Node) ReadError
not_two what [] = Ok None
not_two what (e ∷ []) = Ok (Some e)
not_two what (e ∷ (f ∷ rest)) = Err (Twice what (word_of what))

-- the element that may stand once
unfoldable pub at_most_one : Field → Node → Result (Option Node) ReadError
at_most_one what e = not_two what (children (word_of what) e)

-- an element that has to be there
abbrev pub there : Field → List ℕ → Option Node → Result Node ReadError
there what of None = Err (Missing what of)
there what of (Some e) = Ok e

-- the element that stands once
unfoldable pub one : Field → List ℕ → Node → Result Node ReadError
one what of e = do
  found ← at_most_one what e
  there what of found

-- reads elements one after another; what was read before an element counts for it
abbrev pub each : {A : Type 0} → (List A → Node → Result A ReadError) → List A → List Node → Result (List A) ReadError
each read done [] = Ok done
each read done (e ∷ es) = read done e >>= λ a. each read (done ++ a ∷ []) es
