-- The words and files decide the steps that commands share.
use Rattle.std.proofs.Common.{◌≡◌, ◌≢◌, ℕ, ◌≤◌, ◌<◌, Bool, true, List, length, sum, subst, Option, Some, None, IsSome, Result, Ok, Err, IsSomeAnd, refl, sym, ap, ◌∙◌, arith}
use Rattle.sd_base.specs.declared.tables.GraphFile.{GraphFile}
use Rattle.sd_base.specs.Tables.{KeepsRules, IsTimed}
use Rattle.sd_base.specs.Net.{IsRepetitionOf}
use Rattle.sd_base.specs.FileNet.{net_of}
use Rattle.sd_base.specs.Lawful.{Lawful}
use Rattle.sd_words.specs.declared.request.Request.{Request}
use Rattle.sd_words.specs.declared.request.UsageCause.{UsageCause}
use Rattle.sd_words.specs.Asked.{request_of}
use Rattle.graph_reader.specs.declared.error.ReadError.{ReadError}
use Rattle.graph_reader.specs.Laws as files
use Rattle.balance.specs.declared.refusal.BalanceError.{BalanceError}
use Rattle.balance.specs.declared.refusal.BalanceError.TheVariants as errors
use Rattle.balance.specs.Repetition.{IsRound, IsRefusal, HasOneAnswer}
use Rattle.report.specs.declared.refusal.Refusal.{Refusal}
use Rattle.report.specs.declared.refusal.Refusal.TheVariants.{UsageWords, UnknownChannel, SelfLoopBuffer, BelowTokens, Above, Ratio, Inconsistent, Apart}
use Rattle.escapes.specs.EscapedNames.{escaped_name}
use Rattle.storage.specs.declared.buffers.BufferError.{BufferError}
use Rattle.storage.specs.declared.buffers.BufferError.TheVariants as faults
use Rattle.storage.specs.declared.distribution.Distribution.{Distribution}
use Rattle.storage.specs.NamedBuffers.{Buffer, first_fault}
use Rattle.storage.specs.Distributions.{CanHold}
use Rattle.storage.specs.BoundedNets.{bound}
use Rattle.storage.proofs.BoundingKeepsLaws.{bound-lawful}
use Rattle.storage.proofs.FileChannels.{file-plain, plain-no_spaces}
use Rattle.storage.proofs.NamedCapacities.{bounded-few, named-held}
use Rattle.std.proofs.lemmas.List.{length-map}
use Rattle.sd_io.specs.Outside.{Files, file_under}
use Rattle.sd_steps.specs.Bufferings.{IsBufferRefusal, unknown, self_loop, below_tokens, GivesCapacities, buffering}
use Rattle.report.specs.WalkTexts.{steps_text}
use Rattle.sd_base.specs.Limits.{greatest_of}
use Rattle.report.specs.QuantityWords.{quantity_text}
use Rattle.sd_base.specs.declared.limits.Quantity.TheVariants as quantities
use Rattle.sd_base.proofs.ByteTestsDecide.{one-some, some-none}
use Rattle.sd_steps.specs.declared.file_kind.FileKind.{FileKind}
use Rattle.sd_steps.specs.declared.file_kind.FileKind.TheVariants as kinds
use Rattle.sd_steps.specs.ActorNames.{actor_shown}
use Rattle.sd_steps.specs.Takings.{IsTaken, IsUntaken, missing, too_long, taking, bytes_of}
use Rattle.sd_steps.specs.Readings.{opening_graph, reading_graph, reading_refusal}
use Rattle.sd_steps.specs.Balancings.{IsBalanceRefusal, apart, ratio, inconsistent, above, balancing}
use Rattle.sd_steps.specs.Askings.{asking, usage_refusal}
use Rattle.sd_command.proofs.command_lemmas.WordsBoundGraphs.{AreSmall}
use Rattle.sd_laws.proofs.CommandsDecide.{Determines, through_determines}
use Rattle.sd_laws.proofs.OneRate.{NetLaws}

-- what is known of files, of balances, and of the nets of files
pub record FileLaws : Type 0 where
  pub one : HasOneAnswer
  pub table : files.HasOneTable
  pub fault : files.HasOneFault
  pub either : files.ReadHasNoFault
  pub keeps : files.ReadKeepsRules
  pub timed : files.ReadIsTimed
  pub lawful : (g : GraphFile) (gamma : List ℕ) (no_overlap : Bool) → KeepsRules g → IsTimed g → IsRepetitionOf g gamma → sum gamma ≤ 100000 → Lawful (net_of g gamma no_overlap)
  pub nets : NetLaws

-- the refusal that tells why a graph has no repetition vector
pub shown : GraphFile → BalanceError → Refusal
shown g (errors.Apart a b) = Apart None (actor_shown g a) (actor_shown g b)
shown g (errors.RatioTooLarge path) = Ratio None (greatest_of quantities.Ratio) (steps_text g path)
shown g (errors.Unbalanced walk num den) = Inconsistent None (steps_text g walk) num den
shown g errors.RoundTooLarge = Above None (quantity_text quantities.Round) (greatest_of quantities.Round)
shown g errors.NoMemory = UsageWords

-- each refusal of a balance tells of one such cause
pub record Told (g : GraphFile) (r : Refusal) : Type 0 where
  pub error : BalanceError
  pub cause : IsRefusal g error
  pub no_lack : error ≢ errors.NoMemory
  pub told : r ≡ shown g error

told_from : (g : GraphFile) (r : Refusal) → IsBalanceRefusal g r → Told g r
unfolding shown
told_from g r (apart x y is e) = record { error = errors.Apart x y; cause = is; no_lack = λ e. (cc); told = e }
told_from g r (ratio path is e) = record { error = errors.RatioTooLarge path; cause = is; no_lack = λ e. (cc); told = e }
told_from g r (inconsistent walk num den is e) = record { error = errors.Unbalanced walk num den; cause = is; no_lack = λ e. (cc); told = e }
told_from g r (above is e) = record { error = errors.RoundTooLarge; cause = is; no_lack = λ e. (cc); told = e }

-- the refusal that tells of a fault of a buffer
told_of : BufferError → Refusal
told_of (faults.Unknown name) = UnknownChannel (escaped_name name)
told_of (faults.SelfLoop name) = SelfLoopBuffer (escaped_name name)
told_of (faults.BelowTokens name) = BelowTokens (escaped_name name)
told_of faults.NoMemory = UsageWords

-- each refusal of buffers tells of one such fault
record Faulty (g : GraphFile) (bs : List Buffer) (r : Refusal) : Type 0 where
  fault : BufferError
  first : first_fault g.channels bs ≡ Some fault
  told : r ≡ told_of fault

faulty : (g : GraphFile) (bs : List Buffer) (r : Refusal) → IsBufferRefusal g bs r → Faulty g bs r
unfolding told_of
faulty g bs r (unknown name is e) = record { fault = faults.Unknown name; first = is; told = e }
faulty g bs r (self_loop name is e) = record { fault = faults.SelfLoop name; first = is; told = e }
faulty g bs r (below_tokens name is e) = record { fault = faults.BelowTokens name; first = is; told = e }

pub buffering_determines : (g : GraphFile) (bs : List Buffer) → Determines (buffering g bs)
buffering_determines g bs = record {
  one = λ d e is also. ap (λ (cs : List (Option ℕ)). record { capacities = cs }) (is.named ∙ sym also.named);
  refusal = λ r s is also.
      let a = faulty g bs r is in
      let b = faulty g bs s also in
      a.told ∙ ap told_of (one-some (first_fault g.channels bs) a.fault b.fault a.first b.first) ∙ sym b.told;
  never = λ r d is gives. let a = faulty g bs r is in some-none (first_fault g.channels bs) a.fault a.first gives.whole;
}

-- what a balance comes to
abbrev Solved : Type 0
Solved = Result (List ℕ) BalanceError

refused_by : BalanceError → Solved
refused_by e = Err e

-- ---- words and files

one_cause : (words : List (List ℕ)) (a b : UsageCause) → request_of words ≡ Err a → request_of words ≡ Err b → a ≡ b
one_cause words a b p s = let e : ◌≡◌ {A = Result Request UsageCause} (Err a) (Err b) = sym p ∙ s in (cc)

pub asking_determines : (words : List (List ℕ)) → Determines (asking words)
asking_determines words = record {
  one = λ q r is also. let e : ◌≡◌ {A = Result Request UsageCause} (Ok q) (Ok r) = sym is ∙ also in (cc);
  refusal = λ r s is also. is.told ∙ ap (λ (c : UsageCause). usage_refusal c) (one_cause words is.cause also.cause is.asked also.asked) ∙ sym also.told;
  never = λ r q is asked. let e : ◌≡◌ {A = Result Request UsageCause} (Err is.cause) (Ok q) = sym is.asked ∙ asked in (cc);
}

long_is_there : (limit : ℕ) (o : Option (List ℕ)) → IsSomeAnd o (λ b. limit < length b) → (b : List ℕ) × (o ≡ Some b) × (limit < length b)
long_is_there limit (Some b) h = (b, refl, h)
long_is_there limit None h = absurd h

module _ (shelf : Files) (tells : IsSome shelf) (kind : FileKind) (name : List ℕ) where
  one_untaken : (r s : Refusal) → IsUntaken shelf kind name r → IsUntaken shelf kind name s → r ≡ s
  one_untaken r s (missing told none p) (missing told' none' q) = p ∙ sym q
  one_untaken r s (too_long long p) (too_long long' q) = p ∙ sym q
  one_untaken r s (missing told none p) (too_long long q) =
      let at = long_is_there (greatest_of (bytes_of kind)) (file_under shelf name) (long tells) in absurd (some-none (file_under shelf name) at.0 at.1 none)
  one_untaken r s (too_long long p) (missing told none q) =
      let at = long_is_there (greatest_of (bytes_of kind)) (file_under shelf name) (long tells) in absurd (some-none (file_under shelf name) at.0 at.1 none)

  not_taken : (r : Refusal) (bytes : List ℕ) → IsUntaken shelf kind name r → IsTaken shelf kind name bytes → ⊥
  not_taken r bytes (missing told none p) taken = some-none (file_under shelf name) bytes (taken.told tells) none
  not_taken r bytes (too_long long p) taken =
      let at = long_is_there (greatest_of (bytes_of kind)) (file_under shelf name) (long tells) in
      let s : at.0 ≡ bytes = one-some (file_under shelf name) at.0 bytes at.1 (taken.told tells) in
      let much : greatest_of (bytes_of kind) < length at.0 = at.2 in
      let fits : length bytes ≤ greatest_of (bytes_of kind) = taken.fits in
      omega (arith, ap (λ (l : List ℕ). length l) s)

  pub taking_determines : Determines (taking shelf kind name)
  taking_determines = record {
    one = λ a b is also. one-some (file_under shelf name) a b (is.told tells) (also.told tells);
    refusal = one_untaken;
    never = not_taken;
  }

module _ (laws : FileLaws) where
  one_error : (g : GraphFile) → KeepsRules g → (r s : Refusal) → Told g r → Told g s → r ≡ s
  unfolding refused_by
  one_error g keeps r s t u =
      let same : refused_by t.error ≡ refused_by u.error =
      laws.one g keeps (refused_by t.error) (refused_by u.error) t.cause u.cause (λ e. t.no_lack (cc)) (λ e. u.no_lack (cc)) in
      let e : t.error ≡ u.error = (cc) in
      t.told ∙ ap (λ (x : BalanceError). shown g x) e ∙ sym u.told

  no_round : (g : GraphFile) → KeepsRules g → (r : Refusal) (v : List ℕ) → Told g r → IsRound g v → ⊥
  unfolding refused_by
  no_round g keeps r v t is =
      let same : refused_by t.error ≡ Ok v = laws.one g keeps (refused_by t.error) (Ok v) t.cause is (λ e. t.no_lack (cc)) (λ e. (cc)) in (cc)

  one_round : (g : GraphFile) → KeepsRules g → (v w : List ℕ) → IsRound g v → IsRound g w → v ≡ w
  one_round g keeps v w is also =
      let same : ◌≡◌ {A = Solved} (Ok v) (Ok w) = laws.one g keeps (Ok v) (Ok w) is also (λ e. (cc)) (λ e. (cc)) in (cc)

  pub lawful_net : (bytes : List ℕ) (g : GraphFile) (gamma : List ℕ) (no_overlap : Bool) → files.Gives bytes true g → IsRound g gamma → Lawful (net_of g gamma no_overlap)
  lawful_net bytes g gamma no_overlap spelled is =
      laws.lawful g gamma no_overlap (laws.keeps bytes true g spelled) (laws.timed bytes g spelled) is.least is.fits

  -- so is the net bounded by the capacities
  pub bounded_net : (bytes : List ℕ) (g : GraphFile) (gamma : List ℕ) (no_overlap : Bool) (bs : List Buffer) (d : Distribution) → files.Gives bytes true g → IsRound g gamma → AreSmall bs
      → GivesCapacities g bs d → Lawful (bound (net_of g gamma no_overlap) d.capacities)
  bounded_net bytes g gamma no_overlap bs d spelled is small gives =
      let net = net_of g gamma no_overlap in
      let many : length d.capacities ≡ length g.channels = ap length gives.named ∙ length-map g.channels _ in
      bound-lawful net (lawful_net bytes g gamma no_overlap spelled is) d.capacities (plain-no_spaces net (file-plain g gamma no_overlap))
      (subst (λ (ds : List (Option ℕ)). CanHold net.channels ds) (sym gives.named) (named-held g gamma no_overlap bs gives.whole small))
      (bounded-few g gamma no_overlap d.capacities (laws.keeps bytes true g spelled) (omega (arith, many)))

  -- ---- the steps

  pub reading_determines : (bytes : List ℕ) (times : Bool) → Determines (reading_graph bytes times)
  reading_determines bytes times = record {
    one = λ g h is also. laws.table bytes times g h is also;
    refusal = λ r s is also. is.told ∙ ap (λ (e : ReadError). reading_refusal e) (laws.fault bytes times is.error also.error is.some also.some is.first also.first) ∙ sym also.told;
    never = λ r g is given. laws.either bytes times g is.error is.some given is.first;
  }

  pub opening_determines : (shelf : Files) → IsSome shelf → (name : List ℕ) (times : Bool) → Determines (opening_graph shelf name times)
  opening_determines shelf tells name times =
      through_determines (taking shelf kinds.Graph name) (λ bytes. reading_graph bytes times) (taking_determines shelf tells kinds.Graph name) (λ bytes taken. reading_determines bytes times)

  pub balancing_determines : (g : GraphFile) → KeepsRules g → Determines (balancing g)
  balancing_determines g keeps = record {
    one = λ v w is also. one_round g keeps v w is also;
    refusal = λ r s is also. one_error g keeps r s (told_from g r is) (told_from g s also);
    never = λ r v is round. no_round g keeps r v (told_from g r is) round;
  }
