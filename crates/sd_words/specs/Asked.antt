-- What settings ask for, or the first cause why they ask for nothing.
use Rattle.std.specs.Prelude.{All, ◌≡◌, ◌≤◌, ℕ, Bool, true, false, List, [], ◌∷◌, Option, Some, None, Result, Ok, Err, MatchResult, is_some, unwrap_or, option_and_then, if◌then◌else◌}
use Rattle.std.specs.Str.{bytes_eq}
use Rattle.sd_base.specs.declared.limits.TheConstants.{ACTORS, CAPACITY, DISTRIBUTIONS, LEAST_DISTRIBUTIONS, LEAST_ROUNDS, LEAST_STATES, ROUNDS, STATES, STORAGE, USUAL_DISTRIBUTIONS, USUAL_STATES}
use Rattle.sd_base.specs.declared.limits.Limits.{Limits}
use Rattle.sd_words.specs.declared.table.TheConstants.{LEAST_ACTORS, SEED, USUAL_ACTORS}
use Rattle.sd_words.specs.declared.names.OptionName.{OptionName}
use Rattle.sd_words.specs.declared.names.OptionName.TheVariants as option
use Rattle.sd_words.specs.declared.names.Algorithm.{Algorithm}
use Rattle.sd_words.specs.declared.names.Algorithm.TheVariants as algorithm
use Rattle.sd_words.specs.declared.form.Form.{Form}
use Rattle.sd_words.specs.declared.form.Form.TheVariants as form
use Rattle.sd_words.specs.declared.form.Value.{Value}
use Rattle.sd_words.specs.declared.form.Value.TheVariants as value
use Rattle.sd_words.specs.declared.request.Request.{Request}
use Rattle.sd_words.specs.declared.request.Request.TheVariants as request
use Rattle.sd_words.specs.declared.request.UsageCause.{UsageCause}
use Rattle.sd_words.specs.declared.request.UsageCause.TheVariants.{Missing, NotFor, BadValue}
use Rattle.sd_words.specs.declared.request.WordsError.{WordsError}
use Rattle.sd_words.specs.declared.request.WordsError.TheVariants.{Usage, NoMemory}
use Rattle.sd_words.specs.declared.table.Standing.{Standing}
use Rattle.sd_words.specs.declared.table.Standing.TheVariants.{Required, Allowed, Foreign}
use Rattle.sd_words.specs.OptionWords.{option_word, options, algorithm_named}
use Rattle.sd_words.specs.Forms.{fits, made_of, put_for, read}
use Rattle.sd_words.specs.Buffers.{Buffer}
use Rattle.sd_words.specs.Spelling.{Setting}
use Rattle.sd_words.specs.Reading.{◌>>=◌, settings_of}

-- the value of each option, where it is there
abbrev pub Values : Type 0
Values = OptionName → Option (List ℕ)

-- the value of the name, where it is there
abbrev pub value_named : List ℕ → List Setting → Option (List ℕ)
value_named name [] = None
value_named name (s ∷ ss) = if bytes_eq s.name name then Some s.value else value_named name ss

-- the value of an option, where it is there
abbrev pub value_of : OptionName → List Setting → Option (List ℕ)
value_of o settings = value_named (option_word o) settings

abbrev pub values_in : List Setting → Values
values_in settings = λ o. value_of o settings

-- an algorithm that has to be known
abbrev pub known : Option Algorithm → Result Algorithm UsageCause
known None = Err (BadValue option.Algo)
known (Some a) = Ok a

-- the algorithm of a value that has to be there
abbrev pub algorithm_in : Option (List ℕ) → Result Algorithm UsageCause
algorithm_in None = Err (Missing option.Algo)
algorithm_in (Some word) = known (algorithm_named word)

-- the algorithm that is asked for
unfoldable pub algorithm_of : Values → Result Algorithm UsageCause
algorithm_of values = algorithm_in (values option.Algo)

-- the table of the algorithms and their options
unfoldable pub standing : Algorithm → OptionName → Standing
standing a option.Algo = Required form.Text
standing algorithm.Repetition option.Graph = Required form.Text
standing algorithm.Throughput option.Graph = Required form.Text
standing algorithm.Throughput option.Certificate = Allowed (form.Certificate option.Graph)
standing algorithm.Throughput option.Buffers = Allowed form.Buffers
standing algorithm.Throughput option.States = Allowed (form.Number LEAST_STATES STATES)
standing algorithm.Throughput option.NoOverlap = Allowed form.Flag
standing algorithm.Storage option.Graph = Required form.Text
standing algorithm.Storage option.Certificate = Allowed (form.Certificate option.Graph)
standing algorithm.Storage option.States = Allowed (form.Number LEAST_STATES STATES)
standing algorithm.Storage option.Distributions = Allowed (form.Number LEAST_DISTRIBUTIONS DISTRIBUTIONS)
standing algorithm.Storage option.Limit = Required (form.Number 0 STORAGE)
standing algorithm.Storage option.NoOverlap = Allowed form.Flag
standing algorithm.Scenario option.Graph = Required form.Text
standing algorithm.Scenario option.Certificate = Allowed (form.Certificate option.Graph)
standing algorithm.Check option.Graph = Required form.Text
standing algorithm.Check option.Certificate = Required form.Text
standing algorithm.Generate option.Limit = Required (form.Number 0 STORAGE)
standing algorithm.Generate option.Seed = Required (form.Number 0 SEED)
standing algorithm.Generate option.Actors = Allowed (form.Number LEAST_ACTORS ACTORS)
standing algorithm.Convert option.Certificate = Required form.Text
standing algorithm.Convert option.Output = Required (form.Output option.Certificate)
standing algorithm.Expand option.Graph = Required form.Text
standing algorithm.Expand option.Buffers = Allowed form.Buffers
standing algorithm.Expand option.Output = Required (form.Output option.Graph)
standing algorithm.Expand option.NoOverlap = Allowed form.Flag
standing algorithm.Ordered option.Graph = Required form.Text
standing algorithm.Ordered option.Buffers = Allowed form.Buffers
standing algorithm.Ordered option.States = Allowed (form.Number LEAST_STATES STATES)
standing algorithm.Ordered option.Order = Required form.Orders
standing algorithm.Ordered option.NoOverlap = Allowed form.Flag
standing algorithm.Complete option.Graph = Required form.Text
standing algorithm.Complete option.Buffers = Allowed form.Buffers
standing algorithm.Complete option.States = Allowed (form.Number LEAST_STATES STATES)
standing algorithm.Complete option.Rounds = Required (form.Number LEAST_ROUNDS ROUNDS)
standing algorithm.Complete option.NoOverlap = Allowed form.Flag
standing algorithm.ScenarioStorage option.Graph = Required form.Text
standing algorithm.ScenarioStorage option.Distributions = Allowed (form.Number LEAST_DISTRIBUTIONS DISTRIBUTIONS)
standing algorithm.ScenarioStorage option.Limit = Required (form.Number 0 STORAGE)
standing a o = Foreign

-- the form that an algorithm asks of an option that it has
abbrev pub form_of : Standing → Option Form
form_of (Required form) = Some form
form_of (Allowed form) = Some form
form_of Foreign = None

-- a value is of the form that the table asks
abbrev pub is_good : Standing → List ℕ → Bool
is_good (Required form) value = fits form value
is_good (Allowed form) value = fits form value
is_good Foreign value = true

-- a required option is there, one that the algorithm doesn't have isn't, and the value of any other is good
unfoldable pub judged : Standing → Algorithm → OptionName → Option (List ℕ) → Result (Unit {0}) UsageCause
judged (Required form) a o None = Err (Missing o)
judged (Required form) a o (Some value) = if fits form value then Ok tt else Err (BadValue o)
judged (Allowed form) a o None = Ok tt
judged (Allowed form) a o (Some value) = if fits form value then Ok tt else Err (BadValue o)
judged Foreign a o None = Ok tt
judged Foreign a o (Some value) = Err (NotFor o a)

-- both are there, and the same
unfoldable pub are_one : Option (List ℕ) → Option (List ℕ) → Bool
are_one (Some w) (Some v) = bytes_eq w v
are_one w v = false

-- an option has another value than another one
unfoldable pub named_apart : OptionName → OptionName → Values → Result (Unit {0}) UsageCause
named_apart o p values = if are_one (values o) (values p) then Err (BadValue o) else Ok tt

-- an option has another value than the one that it has to differ from, where there is one
unfoldable pub apart_from : Option OptionName → OptionName → Values → Result (Unit {0}) UsageCause
apart_from None o values = Ok tt
apart_from (Some p) o values = named_apart o p values

-- the option whose file an option's output is made of
abbrev pub source_of : Standing → Option OptionName
source_of st = option_and_then made_of (form_of st)

-- an option is as the table asks
unfoldable pub checked : Algorithm → OptionName → Values → Result (Unit {0}) UsageCause
checked a o values = judged (standing a o) a o (values o) >>= λ _. apart_from (source_of (standing a o)) o values

-- the same of each of these options in turn
unfoldable pub all_checked : Algorithm → Values → List OptionName → Result (Unit {0}) UsageCause
all_checked a values [] = Ok tt
all_checked a values (o ∷ os) = checked a o values >>= λ _. all_checked a values os

-- the option whose file the certificate is put for, where one is put
abbrev pub certified : Standing → Option OptionName
certified st = option_and_then put_for (form_of st)

-- a certificate that is put has another name than the file that it is put for
unfoldable pub certificate_apart : Algorithm → Values → Result (Unit {0}) UsageCause
certificate_apart a values = apart_from (certified (standing a option.Certificate)) option.Certificate values

-- the options are as the algorithm asks
unfoldable pub tested : Algorithm → Values → Result (Unit {0}) UsageCause
tested a values = all_checked a values options >>= λ _. certificate_apart a values

-- what is made of the value of each option that the algorithm has
abbrev pub Readings : Type 0
Readings = OptionName → Option Value

-- a value is read by the form that the table asks
unfoldable pub read_as : Standing → Option (List ℕ) → Option Value
read_as (Required form) given = option_and_then (read form) given
read_as (Allowed form) given = option_and_then (read form) given
read_as Foreign given = None

abbrev pub readings : Algorithm → Values → Readings
readings a values = λ o. read_as (standing a o) (values o)

-- these are read of some values, as the algorithm asks
abbrev pub AreRead : Algorithm → Readings → Type 0
AreRead a r = (values : Values) × (r ≡ readings a values)

-- the text, where one is read
abbrev pub text_in : Option Value → Option (List ℕ)
text_in (Some (value.Text text)) = Some text
text_in v = None

-- the number, where one is read
abbrev pub number_in : Option Value → Option ℕ
number_in (Some (value.Number n)) = Some n
number_in v = None

-- the channels that are given a capacity; none, where none are read
abbrev pub buffers_in : Option Value → List Buffer
buffers_in (Some (value.Buffers buffers)) = buffers
buffers_in v = []

-- the actors by processor; none stand for a required option, which is there
abbrev pub orders_in : Option Value → List (List (List ℕ))
orders_in (Some (value.Orders orders)) = orders
orders_in v = []

-- the name of a file; no bytes stand for a required option, which is there
abbrev pub name_in : Option Value → List ℕ
name_in v = unwrap_or (text_in v) []

-- the number that is read, or else the usual one; for a required option, which is there, any is good
abbrev pub number_or : ℕ → Option Value → ℕ
number_or usual v = unwrap_or (number_in v) usual

-- the bound on the states of an execution
abbrev pub states_of : Readings → ℕ
states_of r = number_or USUAL_STATES (r option.States)

-- the greatest total of a distribution, a required option
abbrev pub total_of : Readings → ℕ
total_of r = number_or 0 (r option.Limit)

-- the bound on the distributions of an exploration
abbrev pub distributions_of : Readings → ℕ
distributions_of r = number_or USUAL_DISTRIBUTIONS (r option.Distributions)

-- what an exploration may use
abbrev pub limits_of : Readings → Limits
limits_of r = record {
  total = total_of r;
  states = states_of r;
  distributions = distributions_of r;
}

-- the actors of a graph that is made
abbrev pub actors_of : Readings → ℕ
actors_of r = number_or USUAL_ACTORS (r option.Actors)

-- the request of values that are read
unfoldable pub request_for : Algorithm → Readings → Request
request_for algorithm.Repetition r = request.Repetition (name_in (r option.Graph))
request_for algorithm.Throughput r = request.Throughput (name_in (r option.Graph)) (buffers_in (r option.Buffers)) (is_some (r option.NoOverlap)) (states_of r) (text_in (r option.Certificate))
request_for algorithm.Storage r = request.Storage (name_in (r option.Graph)) (limits_of r) (is_some (r option.NoOverlap)) (text_in (r option.Certificate))
request_for algorithm.Scenario r = request.Scenario (name_in (r option.Graph)) (text_in (r option.Certificate))
request_for algorithm.Check r = request.Check (name_in (r option.Graph)) (name_in (r option.Certificate))
request_for algorithm.Generate r = request.Generate (number_or 0 (r option.Seed)) (total_of r) (actors_of r)
request_for algorithm.Convert r = request.Convert (name_in (r option.Certificate)) (name_in (r option.Output))
request_for algorithm.Expand r = request.Expand (name_in (r option.Graph)) (name_in (r option.Output)) (buffers_in (r option.Buffers)) (is_some (r option.NoOverlap))
request_for algorithm.Ordered r = request.Ordered (name_in (r option.Graph)) (orders_in (r option.Order)) (buffers_in (r option.Buffers)) (is_some (r option.NoOverlap)) (states_of r)
request_for algorithm.Complete r = request.Complete (name_in (r option.Graph)) (number_or LEAST_ROUNDS (r option.Rounds)) (buffers_in (r option.Buffers)) (is_some (r option.NoOverlap)) (states_of r)
request_for algorithm.ScenarioStorage r = request.ScenarioStorage (name_in (r option.Graph)) (total_of r) (distributions_of r)

-- a number of states is within its range
abbrev pub AreStates : ℕ → Type 0
AreStates states = (LEAST_STATES ≤ states) × (states ≤ STATES)

-- a number of distributions is within its range
abbrev pub AreDistributions : ℕ → Type 0
AreDistributions distributions = (LEAST_DISTRIBUTIONS ≤ distributions) × (distributions ≤ DISTRIBUTIONS)

-- the numbers that bound an exploration are within their ranges
pub record AreLimits (limits : Limits) : Type 0 where
  pub total : limits.total ≤ STORAGE
  pub states : AreStates limits.states
  pub distributions : AreDistributions limits.distributions

-- a number of actors of a graph that is made is within its range
abbrev pub AreMadeActors : ℕ → Type 0
AreMadeActors actors = (LEAST_ACTORS ≤ actors) × (actors ≤ ACTORS)

-- a number of rounds is within its range
abbrev pub AreRounds : ℕ → Type 0
AreRounds rounds = (LEAST_ROUNDS ≤ rounds) × (rounds ≤ ROUNDS)

-- the numbers of a request are within their ranges
abbrev pub IsWithinLimits : Request → Type 0
IsWithinLimits (request.Repetition graph) = Unit {0}
IsWithinLimits (request.Throughput graph buffers no_overlap states certificate) = All (λ (b : Buffer). b.1 ≤ CAPACITY) buffers × AreStates states
IsWithinLimits (request.Storage graph limits no_overlap certificate) = AreLimits limits
IsWithinLimits (request.Scenario graph certificate) = Unit {0}
IsWithinLimits (request.Check graph certificate) = Unit {0}
IsWithinLimits (request.Generate seed limit actors) = (limit ≤ STORAGE) × AreMadeActors actors
IsWithinLimits (request.Convert certificate output) = Unit {0}
IsWithinLimits (request.Ordered graph order buffers no_overlap states) = All (λ (b : Buffer). b.1 ≤ CAPACITY) buffers × AreStates states
IsWithinLimits (request.Expand graph output buffers no_overlap) = All (λ (b : Buffer). b.1 ≤ CAPACITY) buffers
IsWithinLimits (request.Complete graph rounds buffers no_overlap states) = All (λ (b : Buffer). b.1 ≤ CAPACITY) buffers × AreStates states × AreRounds rounds
IsWithinLimits (request.ScenarioStorage graph limit distributions) = (limit ≤ STORAGE) × AreDistributions distributions

-- what values ask for
unfoldable pub request_from : Values → Result Request UsageCause
request_from values = do
  a ← algorithm_of values
  _ ← tested a values
  Ok (request_for a (readings a values))

-- what words ask for
unfoldable pub request_of : List (List ℕ) → Result Request UsageCause
request_of words = settings_of words >>= λ settings. request_from (values_in settings)

-- a refusal is the one that is meant, unless memory ran out
abbrev pub Fails : {Y : Type 0} → WordsError → Result Y UsageCause → Type 0
Fails (Usage cause) meant = meant ≡ Err cause
Fails NoMemory meant = Unit {0}

-- an answer, seen by view, is the one that is meant, unless memory ran out
abbrev pub Gives : {X Y : Type 0} → (X → Y) → Result X WordsError → Result Y UsageCause → Type 0
Gives view result meant = MatchResult result (λ x. meant ≡ Ok (view x)) (λ e. Fails e meant)
