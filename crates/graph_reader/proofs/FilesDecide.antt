-- The bytes of a file decide what is read of it or its first fault.
use Rattle.std.proofs.Common.{◌≡◌, ◌≢◌, ◌⊎◌, ℕ, true, List, Result, Ok, ap, refl, sym, ◌∙◌, inl, inr}
use Rattle.file_text.specs.declared.error.TextError.{TextError}
use Rattle.file_text.specs.declared.error.TextError.TheVariants as text
use Rattle.file_text.specs.Node.{Node}
use Rattle.file_text.specs.Grammar.{IsText}
use Rattle.file_text.specs.Fault.{FirstFault}
use Rattle.graph_reader.specs.declared.error.ReadError.{ReadError}
use Rattle.graph_reader.specs.declared.error.ReadError.TheVariants as reading
use Rattle.graph_reader.specs.FirstFaults.{BreaksRuleOf, IsFirstFaultOf}
use Rattle.graph_reader.specs.Sections.{table_of}
use Rattle.graph_reader.specs.Laws.{GivesBy, HasOneTable, HasOneFault, ReadHasNoFault, ReadIsTimed, ReadKeepsRules}
use Rattle.graph_reader.proofs.TablesKeepRules.{keeps_rules, is_timed}

-- what is known of texts: one tree, one fault, and not both
abbrev pub OneTree : Type 0
OneTree = (bytes : List ℕ) (d e : Node) → IsText d bytes → IsText e bytes → d ≡ e

abbrev pub OneTextFault : Type 0
OneTextFault = (bytes : List ℕ) (f g : TextError) → FirstFault bytes f → FirstFault bytes g → f ≡ g

abbrev pub NotBoth : Type 0
NotBoth = (bytes : List ℕ) (e : Node) (f : TextError) → IsText e bytes → FirstFault bytes f → ⊥

-- a fault of the text
pub record OfText (bytes : List ℕ) (x : ReadError) : Type 0 where
  pub fault : TextError
  pub is : x ≡ reading.Text fault
  pub first : FirstFault bytes fault

module _ {T : Type 0} (walk : Node → Result T ReadError) where
  sorted : (bytes : List ℕ) (x : ReadError) → x ≢ reading.NoMemory → IsFirstFaultOf walk bytes x → OfText bytes x ⊎ BreaksRuleOf walk bytes x
  sorted bytes reading.NoMemory some h = absurd (some (cc))
  sorted bytes (reading.Text text.NoMemory) some h = absurd h
  sorted bytes (reading.Text (text.Syntax n)) some h = inl (record { fault = text.Syntax n; is = (cc); first = h })
  sorted bytes (reading.Text (text.Unsupported n what)) some h = inl (record { fault = text.Unsupported n what; is = (cc); first = h })
  sorted bytes (reading.Text (text.TooDeep n)) some h = inl (record { fault = text.TooDeep n; is = (cc); first = h })
  sorted bytes reading.WrongKind some h = inr h
  sorted bytes (reading.Missing what of) some h = inr h
  sorted bytes (reading.Unknown what name) some h = inr h
  sorted bytes (reading.Twice what name) some h = inr h
  sorted bytes (reading.BadWord what of) some h = inr h
  sorted bytes (reading.BadNumber what of) some h = inr h
  sorted bytes (reading.PhaseCount actor) some h = inr h
  sorted bytes (reading.Limit what) some h = inr h
  sorted bytes (reading.SharedDiffer channel) some h = inr h
  sorted bytes (reading.DeadEnd state) some h = inr h

  pub one_read : OneTree → (bytes : List ℕ) (t u : T) → GivesBy walk bytes t → GivesBy walk bytes u → t ≡ u
  one_read tree bytes t u (e, is, p) (f, js, q) =
      let same : e ≡ f = tree bytes e f is js in
      let r : walk e ≡ walk f = ap walk same in
      (cc)

  one_of : OneTree → OneTextFault → NotBoth → (bytes : List ℕ) (x y : ReadError)
      → OfText bytes x ⊎ BreaksRuleOf walk bytes x → OfText bytes y ⊎ BreaksRuleOf walk bytes y → x ≡ y
  one_of tree fault either bytes x y (inl a) (inl b) =
      a.is ∙ ap (λ (f : TextError). reading.Text f) (fault bytes a.fault b.fault a.first b.first) ∙ sym b.is
  one_of tree fault either bytes x y (inl a) (inr (e, is, p)) = absurd (either bytes e a.fault is a.first)
  one_of tree fault either bytes x y (inr (e, is, p)) (inl a) = absurd (either bytes e a.fault is a.first)
  one_of tree fault either bytes x y (inr (e, is, p)) (inr (f, js, q)) =
      let same : e ≡ f = tree bytes e f is js in
      let r : walk e ≡ walk f = ap walk same in
      (cc)

  pub one_refusal : OneTree → OneTextFault → NotBoth → (bytes : List ℕ) (x y : ReadError) → x ≢ reading.NoMemory → y ≢ reading.NoMemory
      → IsFirstFaultOf walk bytes x → IsFirstFaultOf walk bytes y → x ≡ y
  one_refusal tree fault either bytes x y some some' h k = one_of tree fault either bytes x y (sorted bytes x some h) (sorted bytes y some' k)

  none_of : OneTree → NotBoth → (bytes : List ℕ) (t : T) (x : ReadError) → GivesBy walk bytes t → OfText bytes x ⊎ BreaksRuleOf walk bytes x → ⊥
  none_of tree either bytes t x (e, is, p) (inl a) = either bytes e a.fault is a.first
  none_of tree either bytes t x (e, is, p) (inr (f, js, q)) =
      let same : e ≡ f = tree bytes e f is js in
      let r : walk e ≡ walk f = ap walk same in
      (cc)

  pub no_refusal : OneTree → NotBoth → (bytes : List ℕ) (t : T) (x : ReadError) → x ≢ reading.NoMemory → GivesBy walk bytes t → IsFirstFaultOf walk bytes x → ⊥
  no_refusal tree either bytes t x some gives h = none_of tree either bytes t x gives (sorted bytes x some h)

pub one_table : OneTree → HasOneTable
one_table tree bytes need = one_read (table_of need) tree bytes

pub one_fault : OneTree → OneTextFault → NotBoth → HasOneFault
one_fault tree fault either bytes need = one_refusal (table_of need) tree fault either bytes

pub no_fault : OneTree → NotBoth → ReadHasNoFault
no_fault tree either bytes need = no_refusal (table_of need) tree either bytes

pub keeps : ReadKeepsRules
keeps bytes need t (e, is, p) = keeps_rules need e (Ok t) p

pub timed : ReadIsTimed
timed bytes t (e, is, p) = is_timed true e (Ok t) p refl
