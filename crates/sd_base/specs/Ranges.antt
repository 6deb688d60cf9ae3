-- What numbers stay below on the way to an answer: past all that the limits allow, and well within the words that hold them.
use Rattle.std.specs.Prelude.{ℕ, ◌^◌}

-- rounds that a search goes through
abbrev pub ROUND_BOUND : ℕ
ROUND_BOUND = 2 ^ 20

-- the index of a firing of an actor, in as many rounds or as many starts as there may be
abbrev pub FIRING_BOUND : ℕ
FIRING_BOUND = 2 ^ 40

-- the firings of an actor on a way through as many rounds as there may be
abbrev pub PART_BOUND : ℕ
PART_BOUND = 2 ^ 50

-- tokens on a channel of a net that runs
abbrev pub TOKEN_BOUND : ℕ
TOKEN_BOUND = 2 ^ 60

-- a moment of a run, up to which as many firings start as may
abbrev pub MOMENT_BOUND : ℕ
MOMENT_BOUND = 2 ^ 62

-- firings, or passes of a loop, up to such a moment
abbrev pub COUNT_BOUND : ℕ
COUNT_BOUND = 2 ^ 62

-- the index of a firing that nothing but its number's word bounds, with what is added to it
abbrev pub WIDE_FIRING_BOUND : ℕ
WIDE_FIRING_BOUND = 2 ^ 96

-- tokens that so many firings move
abbrev pub WIDE_TOKEN_BOUND : ℕ
WIDE_TOKEN_BOUND = 2 ^ 100

-- a moment many passes of a loop after the last that was executed
abbrev pub WIDE_MOMENT_BOUND : ℕ
WIDE_MOMENT_BOUND = 2 ^ 105

-- the start of a firing of a schedule, with the passes before it
abbrev pub WIDE_START_BOUND : ℕ
WIDE_START_BOUND = 2 ^ 101

-- a moment to which a firing's time can still be added within its word
abbrev pub FULL_MOMENT_BOUND : ℕ
FULL_MOMENT_BOUND = 2 ^ 120

-- a moment that can still be doubled within MOMENT_BOUND
abbrev pub HALF_MOMENT_BOUND : ℕ
HALF_MOMENT_BOUND = 2 ^ 61

-- passes of a loop that a walk of as many firings as are marked goes back, as rounds
abbrev pub PASSED_ROUNDS_BOUND : ℕ
PASSED_ROUNDS_BOUND = 32000000000000

-- firings of an actor that a run starts
abbrev pub RUN_START_BOUND : ℕ
RUN_START_BOUND = 2 ^ 32

-- passes of a schedule at which a need is tested
abbrev pub PASS_BOUND : ℕ
PASS_BOUND = 2 ^ 32

-- the firings of an actor on a way, to which those of a part that comes again are added
abbrev pub WAY_FIRING_BOUND : ℕ
WAY_FIRING_BOUND = 2 ^ 63

-- the time along a way
abbrev pub WAY_TIME_BOUND : ℕ
WAY_TIME_BOUND = 2 ^ 126

-- the start of a firing in a round that begins with the greatest stamps, to which its time can still be added
abbrev pub ROUND_START_BOUND : ℕ
ROUND_START_BOUND = 2 ^ 100

-- the elements of a list in memory
abbrev pub LENGTH_BOUND : ℕ
LENGTH_BOUND = 2 ^ 63
