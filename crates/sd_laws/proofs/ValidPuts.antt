-- What `throughput` puts is a valid certificate.
use Rattle.std.proofs.Common.{◌≡◌, ℕ, ◌+◌, ◌*◌, ◌≤◌, Bool, Option, None, Some, IsSome, length, List, [], ◌∷◌, ◌++◌, All, Ok, refl, sym, ap, subst, ◌∙◌, arith}
use Rattle.std.proofs.Math.Nat.{eq_of_mul-eq-mul_left}
use Rattle.sd_base.specs.declared.limits.TheConstants.{CAPACITY}
use Rattle.sd_base.specs.declared.tables.ChannelRow.{ChannelRow}
use Rattle.sd_base.specs.declared.tables.GraphFile.{GraphFile}
use Rattle.sd_base.specs.Net.{Channel, Net, file_channel, file_channels_from}
use Rattle.sd_base.specs.FileNet.{net_of, own_channels_from}
use Rattle.sd_base.specs.declared.limits.Quantity.TheVariants as quantities
use Rattle.sd_base.specs.Limits.{greatest_of}
use Rattle.sd_words.specs.declared.request.Request.TheVariants.{Throughput}
use Rattle.sd_words.specs.Asked.{request_of}
use Rattle.sd_words.proofs.AskedNumbersFit.{asked_within}
use Rattle.storage.specs.BoundedNets.{bound}
use Rattle.storage.specs.Distributions.{CanHold}
use Rattle.storage.specs.NamedBuffers.{Buffer, capacities_of, capacity_named}
use Rattle.storage.proofs.NamedCapacities.{named-held}
use Rattle.storage.proofs.SmallSpaces.{named-small}
use Rattle.cert_text.specs.declared.certificates.Certificate.{Certificate}
use Rattle.cert_text.specs.Reading.{IsCertText}
use Rattle.cert_maker.specs.ValidCertificates.{AreGiven}
use Rattle.cert_maker.proofs.ValidRates.{rates-valid}
use Rattle.sd_io.specs.Outside.{Files}
use Rattle.sd_steps.specs.declared.answer.Answer.{Answer}
use Rattle.sd_steps.specs.declared.file_kind.FileKind.TheVariants as kinds
use Rattle.sd_steps.specs.Certifyings.{text_of}
use Rattle.sd_steps.specs.Courses.{Answered}
use Rattle.sd_steps.specs.Nets.{testing}
use Rattle.sd_laws.specs.PutCertificates.{PutsValidRate, RatesPutAreValid}
use Rattle.sd_command.specs.commands.Rates.{IsRateAnswer}
use Rattle.sd_command.specs.Requests.{course_of}
use Rattle.sd_command.specs.commands.Throughputs.{rate_on}
use Rattle.sd_command.specs.declared.commands.wanted.WantedRate.{WantedRate}
use Rattle.sd_laws.proofs.BoundedPaths.{lawful_on, on_the_net}
use Rattle.sd_laws.proofs.CommandsDecide.{goes_past}
use Rattle.sd_steps.proofs.PathsConnectNets.{fed-inputs}
use Rattle.sd_laws.proofs.RequestsGoOn.{of_request}
use Rattle.sd_laws.proofs.SharedSteps.{FileLaws}

-- ---- capacities by names

given-named : (n : ℕ) (rows : List ChannelRow) (rest : List Channel) (bs : List Buffer) → All (λ (b : Buffer). b.1 ≤ CAPACITY) bs → CanHold (file_channels_from n rows ++ rest) (capacities_of rows bs) → AreGiven rows (capacities_of rows bs)
given-named n [] rest bs small held = tt
given-named n (r ∷ rows) rest bs small held = go (capacity_named bs r.name) refl (given-named (n + 1) rows rest bs small) held
  where
    go : (o : Option ℕ) → capacity_named bs r.name ≡ o → (CanHold (file_channels_from (n + 1) rows ++ rest) (capacities_of rows bs) → AreGiven rows (capacities_of rows bs))
        → CanHold (file_channel n r ∷ (file_channels_from (n + 1) rows ++ rest)) (o ∷ capacities_of rows bs) → AreGiven (r ∷ rows) (o ∷ capacities_of rows bs)
    go None is later more = later more
    go (Some k) is later more = (more.0, more.1, named-small bs r.name k small is, later more.3)

given-capacities : (g : GraphFile) (gamma : List ℕ) (no_overlap : Bool) (bs : List Buffer) (ds : List (Option ℕ)) → All (λ (b : Buffer). b.1 ≤ CAPACITY) bs → ds ≡ capacities_of g.channels bs
    → CanHold (net_of g gamma no_overlap).channels (capacities_of g.channels bs) → AreGiven g.channels ds
given-capacities g gamma no_overlap bs ds small same held =
    subst (λ (xs : List (Option ℕ)). AreGiven g.channels xs) (sym same) (given-named 0 g.channels (own_channels_from no_overlap g.channels 0 g.actors) bs small held)

-- ---- what shows a rate has one ratio

one-ratio : (den num h w rounds period : ℕ) → 1 ≤ den → rounds * den ≡ num * period → h * den ≡ num * w → h * period ≡ rounds * w
one-ratio den num h w rounds period some reached bounded =
    let a : period * (h * den) ≡ period * (num * w) = ap (λ (x : ℕ). period * x) bounded in
    let b : w * (rounds * den) ≡ w * (num * period) = ap (λ (x : ℕ). w * x) reached in
    eq_of_mul-eq-mul_left den (omega arith) (h * period) (rounds * w) (omega arith)

-- ---- the course of a run

module _ (laws : FileLaws) (words : List (List ℕ)) (files : Files) (tells : IsSome files) (name put : List ℕ) (buffers : List Buffer) (no_overlap : Bool) (states : ℕ)
    (asked : request_of words ≡ Ok (Throughput name buffers no_overlap states (Some put))) (answer : Answer) (n : ℕ) where
  abbrev wanted : WantedRate
  wanted = record { no_overlap = no_overlap; states = states; certificate = Some put }

  pub puts-valid : course_of words files (Answered answer) n → PutsValidRate files name put answer
  puts-valid due =
      let came = of_request words files (Throughput name buffers no_overlap states (Some put)) asked (Answered answer) n tt due in
      let on = on_the_net files name buffers no_overlap (rate_on wanted) (Answered answer) n tt came in
      let gamma : List ℕ = on.gamma in
      let ds : List (Option ℕ) = on.distribution.capacities in
      let net : Net = bound (net_of on.graph gamma no_overlap) ds in
      let live = goes_past (testing on.graph net) _ (Answered answer) n tt on.came in
      let told : IsRateAnswer on.graph net ds wanted answer = live.2.1 in
      let small = (asked_within words (Throughput name buffers no_overlap states (Some put)) asked).0 in
      let made = told.put.1 in
      let is : told.put.0 ≡ _ = made.1 in
      record {
        bytes = on.file.bytes;
        graph = on.graph;
        gamma = gamma;
        certificate = made.0;
        there = on.file.taken.told tells;
        fits = on.file.taken.fits;
        given = on.file.given;
        round = on.file.round;
        file = told.put.2.2 ∙ ap Some (told.put.2.1.1 ∙ ap (λ (c : Certificate). record { kind = kinds.Certificate; name = put; bytes = text_of c }) is);
        short = subst (λ (c : Certificate). length (text_of c) ≤ greatest_of quantities.CertificateBytes) is told.put.2.1.0;
        read = subst (λ (c : Certificate). IsCertText (text_of c) 2 c) is told.put.2.1.2;
        valid = rates-valid on.graph gamma no_overlap ds told.schedule told.cycle made.0
            (lawful_on laws files name buffers no_overlap on.graph gamma on.distribution small on.file)
            (record { strong = live.1.1; inputs = fed-inputs net live.1.2.1 })
            (given-capacities on.graph gamma no_overlap buffers ds small on.file.capacities.named (named-held on.graph gamma no_overlap buffers on.file.capacities.whole small))
            told.shown.of_loop.holds told.shown.holds
            (one-ratio told.shown.den told.shown.num told.cycle.rounds told.cycle.time told.schedule.rounds told.schedule.period told.shown.rate.positive told.shown.reached told.shown.bounded)
            made.2;
      }

pub rates_put_are_valid : FileLaws → RatesPutAreValid
rates_put_are_valid laws words files name put buffers no_overlap states answer n tells asked due = puts-valid laws words files tells name put buffers no_overlap states asked answer n due
