-- The words of options and algorithms.
use Rattle.std.specs.Prelude.{ℕ, Bool, true, false, ◌&&◌, List, [], ◌∷◌, Option, codes}
use Rattle.std.specs.List.{find, list_any}
use Rattle.std.specs.Str.{bytes_eq}
use Rattle.sd_words.specs.declared.names.OptionName.{OptionName}
use Rattle.sd_words.specs.declared.names.OptionName.TheVariants as option
use Rattle.sd_words.specs.declared.names.Algorithm.{Algorithm}
use Rattle.sd_words.specs.declared.names.Algorithm.TheVariants as algorithm

-- the word of an option, without its hyphens
unfoldable pub option_word : OptionName → List ℕ
option_word option.Algo = codes "algo"
option_word option.Graph = codes "graph"
option_word option.Certificate = codes "certificate"
option_word option.Buffers = codes "buffers"
option_word option.States = codes "states"
option_word option.Distributions = codes "distributions"
option_word option.Limit = codes "limit"
option_word option.Seed = codes "seed"
option_word option.Actors = codes "actors"
option_word option.Output = codes "output"
option_word option.Order = codes "order"
option_word option.Rounds = codes "rounds"
option_word option.NoOverlap = codes "no-overlap"

-- the options, in the order in which they are tested
abbrev pub options : List OptionName
options = option.Algo ∷ option.Graph ∷ option.Certificate ∷ option.Buffers ∷ option.States ∷ option.Distributions ∷ option.Limit ∷ option.Seed ∷ option.Actors ∷ option.Output ∷ option.Order ∷ option.Rounds ∷ option.NoOverlap ∷ []

-- an option has a value
abbrev pub has_value : OptionName → Bool
has_value option.NoOverlap = false
has_value o = true

-- an option that has a value is named so
unfoldable pub names_value : List ℕ → Bool
names_value name = list_any (λ o. has_value o && bytes_eq (option_word o) name) options

-- the option that has no value is named so
unfoldable pub names_flag : List ℕ → Bool
names_flag name = bytes_eq (option_word option.NoOverlap) name

-- the word of an algorithm
unfoldable pub algorithm_word : Algorithm → List ℕ
algorithm_word algorithm.Repetition = codes "repetition"
algorithm_word algorithm.Throughput = codes "throughput"
algorithm_word algorithm.Storage = codes "storage"
algorithm_word algorithm.Scenario = codes "scenario"
algorithm_word algorithm.Check = codes "check"
algorithm_word algorithm.Generate = codes "generate"
algorithm_word algorithm.Convert = codes "convert"
algorithm_word algorithm.Expand = codes "expand"
algorithm_word algorithm.Ordered = codes "ordered"
algorithm_word algorithm.Complete = codes "complete"
algorithm_word algorithm.ScenarioStorage = codes "scenario-storage"

-- the algorithms
abbrev pub algorithms : List Algorithm
algorithms = algorithm.Repetition ∷ algorithm.Throughput ∷ algorithm.Storage ∷ algorithm.Scenario ∷ algorithm.Check ∷ algorithm.Generate ∷ algorithm.Convert ∷ algorithm.Expand ∷ algorithm.Ordered ∷ algorithm.Complete ∷ algorithm.ScenarioStorage ∷ []

-- the algorithm of a word
unfoldable pub algorithm_named : List ℕ → Option Algorithm
algorithm_named word = find (λ a. bytes_eq (algorithm_word a) word) algorithms
