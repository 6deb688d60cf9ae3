-- The line of each refusal.
use Rattle.std.specs.Prelude.{ℕ, List, [], ◌∷◌, ◌++◌, Option, Some, None, codes}
use Rattle.std.specs.Fmt.{decimal}
use Rattle.report.specs.declared.refusal.Refusal.{Refusal}
use Rattle.report.specs.declared.refusal.Class.{Class}
use Rattle.report.specs.declared.refusal.Class.TheVariants as class
use Rattle.report.specs.declared.refusal.Refusal.TheVariants.{UsageWords, UsageMissing, UsageNotFor, UsageBadValue, Text, DocumentType, CdataSection, Instruction, CharReference, Encoding, WrongKind, Missing, Unknown, Twice, BadWord, BadNumber, PhasesDiffer, SharedDiffers, NoSuccessor, UnknownChannel, SelfLoopBuffer, BelowTokens, UnknownActor, TwoProcessors, OrderCount, Above, EdgesAt, Ratio, Inconsistent, Apart, OneWay, NoInput, Deadlock, StatesSpent, DistributionsSpent, CertificateLine, CertificateNumber, Rejected, ShelfGraph, ShelfCertificate, ShelfOutput}

-- the scenario that a refusal speaks of
unfoldable pub scenario_prefix : Option (List ℕ) → List ℕ
scenario_prefix None = []
scenario_prefix (Some name) = codes "scenario " ++ (name ++ codes ": ")

unfoldable pub above_reason : List ℕ → List ℕ → ℕ → List ℕ
above_reason prefix quantity number = prefix ++ (quantity ++ (codes " above " ++ decimal number))

unfoldable pub edges_reason : ℕ → List ℕ → List ℕ
edges_reason number at = codes "edges above " ++ (decimal number ++ (codes " at " ++ at))

unfoldable pub ratio_reason : List ℕ → ℕ → List ℕ → List ℕ
ratio_reason prefix number path = prefix ++ (codes "ratio above " ++ (decimal number ++ (codes " along " ++ path)))

unfoldable pub inconsistent_reason : List ℕ → List ℕ → ℕ → ℕ → List ℕ
inconsistent_reason prefix walk num den = prefix ++ (codes "walk " ++ (walk ++ (codes " ratio " ++ (decimal num ++ (codes "/" ++ decimal den)))))

unfoldable pub apart_reason : List ℕ → List ℕ → List ℕ → List ℕ
apart_reason prefix a b = prefix ++ (a ++ (codes " and " ++ (b ++ codes " are apart")))

-- a fault of the text at a byte
unfoldable pub place_reason : List ℕ → ℕ → List ℕ
place_reason what place = what ++ (codes " at byte " ++ decimal place)

-- a fault of an element or attribute, in what is being read
unfoldable pub within_reason : List ℕ → List ℕ → List ℕ → List ℕ
within_reason fault what of = fault ++ (codes " " ++ (what ++ (codes " in " ++ of)))

unfoldable pub unknown_reason : List ℕ → List ℕ → List ℕ
unknown_reason what name = codes "unknown " ++ (what ++ (codes " " ++ name))

unfoldable pub twice_reason : List ℕ → List ℕ → List ℕ
twice_reason what name = what ++ (codes " " ++ (name ++ codes " twice"))

unfoldable pub phases_reason : List ℕ → List ℕ
phases_reason actor = codes "phases of " ++ (actor ++ codes " differ")

unfoldable pub shared_reason : List ℕ → List ℕ
shared_reason name = codes "shared channel " ++ (name ++ codes " differs")

unfoldable pub successor_reason : List ℕ → List ℕ
successor_reason name = codes "state " ++ (name ++ codes " has no successor")

unfoldable pub self_loop_reason : List ℕ → List ℕ
self_loop_reason name = codes "buffer of self-loop " ++ name

unfoldable pub below_tokens_reason : List ℕ → List ℕ
below_tokens_reason name = codes "buffer of " ++ (name ++ codes " below its tokens")

unfoldable pub processors_reason : List ℕ → List ℕ
processors_reason name = codes "actor " ++ (name ++ codes " on two processors")

unfoldable pub count_reason : List ℕ → ℕ → ℕ → List ℕ
count_reason name found gamma = codes "order of " ++ (name ++ (codes " has " ++ (decimal found ++ (codes " of " ++ decimal gamma))))

unfoldable pub missing_reason : List ℕ → List ℕ
missing_reason option = codes "missing --" ++ option

unfoldable pub not_for_reason : List ℕ → List ℕ → List ℕ
not_for_reason option algo = codes "--" ++ (option ++ (codes " is not for " ++ algo))

unfoldable pub bad_value_reason : List ℕ → List ℕ
bad_value_reason option = codes "bad value of --" ++ option

unfoldable pub one_way_reason : List ℕ → List ℕ → List ℕ
one_way_reason from to = codes "no way from " ++ (from ++ (codes " to " ++ to))

unfoldable pub no_input_reason : List ℕ → List ℕ → List ℕ
no_input_reason prefix actor = prefix ++ (actor ++ codes " has no input")

unfoldable pub deadlock_reason : List ℕ → List ℕ → List ℕ
deadlock_reason prefix list = prefix ++ list

-- the distribution of storage that a refusal speaks of
unfoldable pub at_list : Option (List ℕ) → List ℕ
at_list None = []
at_list (Some list) = codes " at " ++ list

unfoldable pub states_reason : ℕ → List ℕ → List ℕ
states_reason states at = decimal states ++ (codes " states without a repeat" ++ at)

unfoldable pub distributions_reason : ℕ → List ℕ
distributions_reason number = codes "more than " ++ (decimal number ++ codes " distributions")

-- a line of a certificate
unfoldable pub certificate_reason : ℕ → List ℕ
certificate_reason line = codes "certificate line " ++ decimal line

-- what is wrong in a line of a certificate
unfoldable pub rejected_reason : ℕ → List ℕ → List ℕ
rejected_reason line reason = codes "line " ++ (decimal line ++ (codes ": " ++ reason))

-- what the line of a refusal says: its class, by whose word it begins, and the reason
pub record Cause : Type 0 where
  pub class : Class
  pub reason : List ℕ

abbrev pub because : Class → List ℕ → Cause
because class reason = record { class = class; reason = reason }

unfoldable pub cause_of : Refusal → Cause
cause_of UsageWords = because class.Usage (codes "words")
cause_of (UsageMissing option) = because class.Usage (missing_reason option)
cause_of (UsageNotFor option algo) = because class.Usage (not_for_reason option algo)
cause_of (UsageBadValue option) = because class.Usage (bad_value_reason option)
cause_of (Text place) = because class.Form (place_reason (codes "text") place)
cause_of (DocumentType place) = because class.Form (place_reason (codes "document type") place)
cause_of (CdataSection place) = because class.Form (place_reason (codes "CDATA section") place)
cause_of (Instruction place) = because class.Form (place_reason (codes "processing instruction") place)
cause_of (CharReference place) = because class.Form (place_reason (codes "character reference") place)
cause_of (Encoding place) = because class.Form (place_reason (codes "encoding") place)
cause_of WrongKind = because class.Form (codes "wrong kind")
cause_of (Missing what of) = because class.Form (within_reason (codes "missing") what of)
cause_of (Unknown what name) = because class.Form (unknown_reason what name)
cause_of (Twice what name) = because class.Form (twice_reason what name)
cause_of (BadWord what of) = because class.Form (within_reason (codes "bad word") what of)
cause_of (PhasesDiffer actor) = because class.Form (phases_reason actor)
cause_of (BadNumber what of) = because class.Form (within_reason (codes "bad number") what of)
cause_of (SharedDiffers name) = because class.Form (shared_reason name)
cause_of (NoSuccessor name) = because class.Form (successor_reason name)
cause_of (UnknownChannel name) = because class.Form (unknown_reason (codes "channel") name)
cause_of (SelfLoopBuffer name) = because class.Form (self_loop_reason name)
cause_of (BelowTokens name) = because class.Form (below_tokens_reason name)
cause_of (UnknownActor name) = because class.Form (unknown_reason (codes "actor") name)
cause_of (TwoProcessors name) = because class.Form (processors_reason name)
cause_of (OrderCount name found gamma) = because class.Form (count_reason name found gamma)
cause_of (CertificateLine line) = because class.Form (certificate_reason line)
cause_of CertificateNumber = because class.Limit (codes "certificate number too large")
cause_of (Above scenario quantity number) = because class.Limit (above_reason (scenario_prefix scenario) quantity number)
cause_of (EdgesAt number at) = because class.Limit (edges_reason number at)
cause_of (Ratio scenario number path) = because class.Limit (ratio_reason (scenario_prefix scenario) number path)
cause_of (Inconsistent scenario walk num den) = because class.Inconsistent (inconsistent_reason (scenario_prefix scenario) walk num den)
cause_of (Apart scenario a b) = because class.Connection (apart_reason (scenario_prefix scenario) a b)
cause_of (OneWay from to) = because class.Connection (one_way_reason from to)
cause_of (NoInput scenario actor) = because class.Connection (no_input_reason (scenario_prefix scenario) actor)
cause_of (Deadlock scenario list) = because class.Deadlock (deadlock_reason (scenario_prefix scenario) list)
cause_of (StatesSpent states at) = because class.Budget (states_reason states (at_list at))
cause_of (DistributionsSpent number) = because class.Budget (distributions_reason number)
cause_of (Rejected line reason) = because class.Rejected (rejected_reason line reason)
cause_of ShelfGraph = because class.Shelf (codes "graph")
cause_of ShelfCertificate = because class.Shelf (codes "certificate")
cause_of ShelfOutput = because class.Shelf (codes "output")

unfoldable pub class_word : Class → List ℕ
class_word class.Usage = codes "usage"
class_word class.Form = codes "form"
class_word class.Limit = codes "limit"
class_word class.Inconsistent = codes "inconsistent"
class_word class.Connection = codes "connection"
class_word class.Deadlock = codes "deadlock"
class_word class.Budget = codes "budget"
class_word class.Rejected = codes "rejected"
class_word class.Shelf = codes "shelf"

-- the line of a cause
unfoldable pub cause_line : Cause → List ℕ
cause_line cause = codes "sdf3analysis: " ++ (class_word cause.class ++ (codes ": " ++ (cause.reason ++ 10 ∷ [])))

-- the line of a refusal
unfoldable pub line_of : Refusal → List ℕ
line_of refusal = cause_line (cause_of refusal)

-- the line for want of memory
unfoldable pub memory_line : List ℕ
memory_line = codes "sdf3analysis: memory" ++ 10 ∷ []
