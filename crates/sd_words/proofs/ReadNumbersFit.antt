-- The numbers that are asked for lie within their ranges.
use Rattle.std.proofs.Common.{◌≡◌, ℕ, ◌≤◌, Bool, true, false, ◌&&◌, List, [], ◌∷◌, ◌++◌, length, Option, Some, None, All, cond, refl, sym, subst, lit≤}
use Rattle.std.specs.List.{list_any, position_or_len, before_first, after_first}
use Rattle.std.specs.Option.{option_map}
use Rattle.std.specs.Str.{bytes_eq}
use Rattle.std.proofs.lemmas.List.Elements.{All-nil, All-push}
use Rattle.std.proofs.lemmas.Bool.{leb-true}
use Rattle.std.specs.Prelude.{◌==◌, nat_le, nat_lt, option_and_then}
use Rattle.sd_base.specs.declared.limits.TheConstants.{ACTORS, CAPACITY, DISTRIBUTIONS, LEAST_DISTRIBUTIONS, LEAST_ROUNDS, LEAST_STATES, ROUNDS, STATES, STORAGE, USUAL_DISTRIBUTIONS, USUAL_STATES}
use Rattle.sd_words.specs.declared.table.TheConstants.{LEAST_ACTORS, USUAL_ACTORS}
use Rattle.sd_words.specs.declared.form.Form.{Form}
use Rattle.sd_words.specs.declared.form.Form.TheVariants as form
use Rattle.sd_words.specs.declared.form.Value.{Value}
use Rattle.sd_words.specs.declared.form.Value.TheVariants as read_value
use Rattle.sd_words.specs.declared.names.OptionName.TheVariants as option
use Rattle.sd_words.specs.declared.names.Algorithm.{Algorithm}
use Rattle.sd_words.specs.declared.names.Algorithm.TheVariants as algorithm
use Rattle.sd_words.specs.Values.{is_decimal, number as value, number_within}
use Rattle.sd_words.specs.Forms.{read}
use Rattle.sd_words.specs.Asked.{AreDistributions, AreLimits, AreMadeActors, AreRead, AreRounds, AreStates, IsWithinLimits, Readings, Values, actors_of, buffers_in, limits_of, number_or, read_as, readings, request_for, standing}
use Rattle.sd_words.specs.Buffers.{Buffer, buffer_of, buffers_of, named_number, with_buffer, with_parts}
use Rattle.escapes.specs.SpelledNames.{unescaped}

module _ (least greatest usual : ℕ) (above : least ≤ usual) (below : usual ≤ greatest) where
  abbrev Within : ℕ → Type 0
  Within n = (least ≤ n) × (n ≤ greatest)

  tested : (n : ℕ) (decimal low high : Bool) → nat_le least n ≡ low → nat_le n greatest ≡ high
      → Within (number_or usual (option_map (λ k. read_value.Number k) (cond (decimal && (low && high)) (Some n) None)))
  tested n true true true p q = (leb-true least n p, leb-true n greatest q)
  tested n true true false p q = (above, below)
  tested n true false high p q = (above, below)
  tested n false low high p q = (above, below)

  given : (text : Option (List ℕ)) → Within (number_or usual (option_and_then (read (form.Number least greatest)) text))
  unfolding read number_within
  given None = (above, below)
  given (Some text) = tested (value text) (is_decimal text) (nat_le least (value text)) (nat_le (value text) greatest) refl refl

-- what is made of a value by a form
abbrev By : Form → Option (List ℕ) → Option Value
By form text = option_and_then (read form) text

states-read : (text : Option (List ℕ)) → AreStates (number_or USUAL_STATES (By (form.Number LEAST_STATES STATES) text))
states-read text = given LEAST_STATES STATES USUAL_STATES (lit≤ tt) (lit≤ tt) text

rounds-read : (text : Option (List ℕ)) → AreRounds (number_or LEAST_ROUNDS (By (form.Number LEAST_ROUNDS ROUNDS) text))
rounds-read text = given LEAST_ROUNDS ROUNDS LEAST_ROUNDS (lit≤ tt) (lit≤ tt) text

limit-read : (text : Option (List ℕ)) → number_or 0 (By (form.Number 0 STORAGE) text) ≤ STORAGE
limit-read text = (given 0 STORAGE 0 (lit≤ tt) (lit≤ tt) text).1

distributions-read : (text : Option (List ℕ)) → AreDistributions (number_or USUAL_DISTRIBUTIONS (By (form.Number LEAST_DISTRIBUTIONS DISTRIBUTIONS) text))
distributions-read text = given LEAST_DISTRIBUTIONS DISTRIBUTIONS USUAL_DISTRIBUTIONS (lit≤ tt) (lit≤ tt) text

made-actors : (text : Option (List ℕ)) → AreMadeActors (number_or USUAL_ACTORS (By (form.Number LEAST_ACTORS ACTORS) text))
made-actors text = given LEAST_ACTORS ACTORS USUAL_ACTORS (lit≤ tt) (lit≤ tt) text

pub actors-read : (r : Readings) → AreRead algorithm.Generate r → AreMadeActors (actors_of r)
unfolding standing read_as
actors-read r h = subst (λ q. AreMadeActors (actors_of q)) (sym h.1) (made-actors (h.0 option.Actors))

limits-read : (values : Values) → AreLimits (limits_of (readings algorithm.Storage values))
unfolding standing read_as
limits-read values = record {
  total = limit-read (values option.Limit);
  states = states-read (values option.States);
  distributions = distributions-read (values option.Distributions);
}

-- ---- buffers

numbered : (name number : List ℕ) (b : Buffer) → named_number name number ≡ Some b → b.1 ≤ CAPACITY
unfolding number_within
numbered name number b is = of (unescaped name) (is_decimal number) (nat_le 0 (value number)) (nat_le (value number) CAPACITY) refl is
  where
    of : (n : Option (List ℕ)) (decimal low high : Bool) → nat_le (value number) CAPACITY ≡ high
        → option_and_then (λ n. option_map (λ k. (n, k)) (cond (decimal && (low && high)) (Some (value number)) None)) n ≡ Some b → b.1 ≤ CAPACITY
    of (Some n) true true true p e =
        let same : value number ≡ b.1 = cc in
        subst (λ k. k ≤ CAPACITY) same (leb-true (value number) CAPACITY p)
    of (Some n) true true false p e = absurd (cc)
    of (Some n) true false high p e = absurd (cc)
    of (Some n) false low high p e = absurd (cc)
    of None decimal low high p e = absurd (cc)

parted : (part : List ℕ) (b : Buffer) → buffer_of part ≡ Some b → b.1 ≤ CAPACITY
unfolding buffer_of
parted part b is = of (nat_lt (position_or_len (λ b. b == 61) part) (length part)) is
  where
    of : (c : Bool) → cond c (named_number (before_first (λ b. b == 61) part) (after_first (λ b. b == 61) part)) None ≡ Some b → b.1 ≤ CAPACITY
    of true e = numbered _ _ b e
    of false e = absurd (cc)

abbrev IsSmall : Buffer → Type 0
IsSmall b = b.1 ≤ CAPACITY

abbrev AreSmall : List Buffer → Type 0
AreSmall bs = All IsSmall bs

none-small : AreSmall []
none-small = All-nil IsSmall

put-small : (bs cs : List Buffer) (b : Buffer) → with_buffer bs b ≡ Some cs → AreSmall bs → b.1 ≤ CAPACITY → AreSmall cs
unfolding with_buffer
put-small bs cs b is small one = of (list_any (λ a. bytes_eq b.0 a.0) bs) is
  where
    of : (c : Bool) → cond c None (Some (bs ++ b ∷ [])) ≡ Some cs → AreSmall cs
    of true e = absurd (cc)
    of false e =
        let same : bs ++ b ∷ [] ≡ cs = cc in
        subst AreSmall same (All-push IsSmall bs b small one)

-- with more buffers the rest of the parts leaves them small
abbrev Rest : List (List ℕ) → List Buffer → Type 0
Rest ps cs = (more : List Buffer) → with_parts more ps ≡ Some cs → AreSmall more → AreSmall cs

all-small : (ps : List (List ℕ)) (bs cs : List Buffer) → with_parts bs ps ≡ Some cs → AreSmall bs → AreSmall cs
unfolding with_parts
all-small [] bs cs is small =
    let same : bs ≡ cs = cc in
    subst AreSmall same small
all-small (p ∷ ps) bs cs is small = of (λ more. all-small ps more cs) (buffer_of p) refl is
  where
    added : Rest ps cs → (b : Buffer) → b.1 ≤ CAPACITY → (m : Option (List Buffer)) → with_buffer bs b ≡ m → option_and_then (λ more. with_parts more ps) m ≡ Some cs → AreSmall cs
    added rest b one (Some more) put e = rest more e (put-small bs more b put small one)
    added rest b one None put e = absurd (cc)

    of : Rest ps cs → (o : Option Buffer) → buffer_of p ≡ o → option_and_then (λ b. option_and_then (λ more. with_parts more ps) (with_buffer bs b)) o ≡ Some cs → AreSmall cs
    of rest (Some b) at e = added rest b (parted p b at) (with_buffer bs b) refl e
    of rest None at e = absurd (cc)

buffers-small : (text : Option (List ℕ)) → AreSmall (buffers_in (By form.Buffers text))
unfolding read buffers_of
buffers-small None = none-small
buffers-small (Some text) = of (buffers_of text) (λ bs is. all-small _ [] bs is none-small)
  where
    of : (o : Option (List Buffer)) → ((bs : List Buffer) → o ≡ Some bs → AreSmall bs) → AreSmall (buffers_in (option_map (λ bs. read_value.Buffers bs) o))
    of (Some bs) small = small bs refl
    of None small = none-small

pub request-within : (a : Algorithm) (values : Values) → IsWithinLimits (request_for a (readings a values))
unfolding request_for standing read_as
request-within algorithm.Repetition values = tt
request-within algorithm.Throughput values = (buffers-small (values option.Buffers), states-read (values option.States))
request-within algorithm.Storage values = limits-read values
request-within algorithm.Scenario values = tt
request-within algorithm.Check values = tt
request-within algorithm.Generate values = (limit-read (values option.Limit), made-actors (values option.Actors))
request-within algorithm.Convert values = tt
request-within algorithm.Expand values = buffers-small (values option.Buffers)
request-within algorithm.Ordered values = (buffers-small (values option.Buffers), states-read (values option.States))
request-within algorithm.Complete values = (buffers-small (values option.Buffers), states-read (values option.States), rounds-read (values option.Rounds))
request-within algorithm.ScenarioStorage values = (limit-read (values option.Limit), distributions-read (values option.Distributions))
