-- The marks of members that are children of others.
use Rattle.std.proofs.Common.{◌≡◌, ℕ, ◌+◌, ◌≤◌, ◌<◌, ◌↔◌, ◌⊎◌, Bool, true, false, Option, Some, List, length, inl, inr, ⊎_elim, sym, subst, ap, ◌∙◌, true≢false, arith}
use Rattle.std.proofs.Math.ListN.{replicate}
use Rattle.std.proofs.lemmas.Bool.{cases_lt}
use Rattle.std.proofs.lemmas.List.{length-replicate}
use Rattle.sd_base.specs.Net.{Net}
use Rattle.sd_base.proofs.ElementsKeepPlaces.{replicate-same}
use Rattle.storage.specs.Distributions.{storage_of}
use Rattle.storage.specs.StorageOrder.{stepped}
use Rattle.cert_text.specs.declared.certificates.MemberLine.{MemberLine}
use Rattle.cert_text.specs.declared.certificates.StorageCertificate.{StorageCertificate}
use Rattle.cert_checker.specs.declared.known.Known.{Known}
use Rattle.cert_checker.specs.ShownChannels.{Shows, member_at}
use Rattle.cert_checker.specs.inside.KnownSets.{AreMembers, IsChild, IsChildOfFirst, number_of}
use Rattle.cert_checker.specs.inside.Marks.{mark_at}
use Rattle.cert_checker.proofs.AnswersJudgeLines.{no-child, one-child}
use Rattle.cert_checker.proofs.KnownLists.{number-tells}

abbrev Caps : Type 0
Caps = List (Option ℕ)

-- ---- marks

-- those that were marked stay so, and besides those that are children of a member on some channel below n
abbrev pub AreMarked : Net → StorageCertificate → Known → MemberLine → List Bool → ℕ → List Bool → Type 0
AreMarked net c known m old n new = (length new ≡ length c.members)
    × ((ds : Caps) (i : ℕ) → number_of known ds ≡ Some i → (mark_at new i ≡ true) ↔ ((mark_at old i ≡ true) ⊎ IsChild net c m n ds))

-- just those are marked that are children of the first n members
abbrev pub AreFirst : Net → StorageCertificate → Known → ℕ → List Bool → Type 0
AreFirst net c known n marks = (length marks ≡ length c.members) × ((ds : Caps) (i : ℕ) → number_of known ds ≡ Some i → (mark_at marks i ≡ true) ↔ IsChildOfFirst net c n ds)

module _ (net : Net) (c : StorageCertificate) (known : Known) where
  -- no mark is set yet
  pub first-none : (marks : List Bool) → marks ≡ replicate (length c.members) false → AreFirst net c known 0 marks
  first-none marks is = (
    ap length is ∙ length-replicate (length c.members) false,
    λ ds i number. (
      λ on. absurd (true≢false (sym on ∙ (ap (λ (ms : List Bool). mark_at ms i) is ∙ replicate-same (length c.members) i false))),
      λ at. absurd (omega (arith, at.1)),
    ),
  )

  -- those of one more member
  pub first-more : (n : ℕ) (old new : List Bool) → AreFirst net c known n old → AreMarked net c known (member_at c.members n) old (length net.channels) new → AreFirst net c known (n + 1) new
  first-more n old new before marked = (
    marked.0,
    λ ds i number. (
      λ on. ⊎_elim
          (λ (h : mark_at old i ≡ true). let at = (before.1 ds i number).0 h in (at.0, omega (arith, at.1), at.2))
          (λ (h : IsChild net c (member_at c.members n) (length net.channels) ds). (n, omega arith, h))
          ((marked.1 ds i number).0 on),
      λ at. (marked.1 ds i number).1 (⊎_elim
          (λ (less : at.0 < n). inl ((before.1 ds i number).1 (at.0, less, at.2)))
          (λ (past : n ≤ at.0). let same : at.0 ≡ n = omega (arith, at.1, past) in inr (subst (λ (j : ℕ). IsChild net c (member_at c.members j) (length net.channels) ds) same at.2))
          (cases_lt at.0 n)),
    ),
  )

  -- a member that shows none
  pub first-same : (n : ℕ) (marks : List Bool) → ((ds : Caps) → IsChild net c (member_at c.members n) (length net.channels) ds → ⊥) → AreFirst net c known n marks → AreFirst net c known (n + 1) marks
  first-same n marks none before = first-more n marks marks before (before.0, λ ds i number. (λ on. inl on, λ both. ⊎_elim (λ (on : mark_at marks i ≡ true). on) (λ (h : IsChild net c (member_at c.members n) (length net.channels) ds). absurd (none ds h)) both))

  module _ (m : MemberLine) (old : List Bool) where
    pub marked-none : length old ≡ length c.members → AreMarked net c known m old 0 old
    marked-none size = (size, λ ds i number. (λ on. inl on, λ both. ⊎_elim (λ (on : mark_at old i ≡ true). on) (λ (k : IsChild net c m 0 ds). absurd (omega (arith, k.below))) both))

    -- one more channel, on which there is no child
    pub marked-same : (n : ℕ) (marks : List Bool) → AreMarked net c known m old n marks → (Shows net c.limit c.cycles m n → c.limit < storage_of net.channels (stepped net.channels m.capacities.capacities n))
        → AreMarked net c known m old (n + 1) marks
    marked-same n marks before none = (before.0, λ ds i number. no-child net c m n ds (mark_at old i ≡ true) (mark_at marks i ≡ true) (before.1 ds i number) none)

    -- and one on which there is one
    pub marked-more : (n : ℕ) (marks new : List Bool) (es : Caps) → AreMarked net c known m old n marks → AreMembers c.members known → length new ≡ length marks
        → ((i : ℕ) → (mark_at new i ≡ true) ↔ ((mark_at marks i ≡ true) ⊎ (number_of known es ≡ Some i)))
        → Shows net c.limit c.cycles m n × (es ≡ stepped net.channels m.capacities.capacities n) × (storage_of net.channels (stepped net.channels m.capacities.capacities n) ≤ c.limit) → AreMarked net c known m old (n + 1) new
    marked-more n marks new es before are size added child = (
      size ∙ before.0,
      λ ds i number.
          (let tells = number-tells c.members known es ds i are number in
          let one : (mark_at new i ≡ true) ↔ ((mark_at marks i ≡ true) ⊎ (es ≡ ds)) = (
            λ on. ⊎_elim (λ (h : mark_at marks i ≡ true). inl h) (λ (h : number_of known es ≡ Some i). inr (tells.0 h)) ((added i).0 on),
            λ both. (added i).1 (⊎_elim (λ (h : mark_at marks i ≡ true). inl h) (λ (h : es ≡ ds). inr (tells.1 h)) both),
          ) in
          one-child net c m n ds (mark_at old i ≡ true) (mark_at marks i ≡ true) (before.1 ds i number) (mark_at new i ≡ true) es one child.0 child.1 child.2),
    )
