-- What `storage` puts is a valid certificate.
use Rattle.std.proofs.Common.{◌≡◌, ◌≤◌, ℕ, Bool, true, List, [], ◌∷◌, Some, IsSome, length, Ok, ap, subst, ◌∙◌}
use Rattle.std.specs.List.{AllZip}
use Rattle.sd_base.specs.declared.limits.Limits.{Limits}
use Rattle.sd_base.specs.declared.tables.GraphFile.{GraphFile}
use Rattle.sd_base.specs.Net.{Net}
use Rattle.sd_base.specs.FileNet.{net_of}
use Rattle.sd_base.specs.declared.limits.Quantity.TheVariants as quantities
use Rattle.sd_base.specs.Limits.{greatest_of}
use Rattle.sd_words.specs.declared.request.Request.TheVariants.{Storage}
use Rattle.sd_words.specs.Asked.{request_of}
use Rattle.sd_words.proofs.AskedNumbersFit.{asked_within}
use Rattle.periodic.specs.declared.schedule.Periodic.{Periodic}
use Rattle.storage.proofs.FileChannels.{file-plain}
use Rattle.storage.proofs.FileConnections.{file-connected, file-few}
use Rattle.pareto_front.specs.declared.point.Point.{Point}
use Rattle.cert_text.specs.declared.certificates.Certificate.{Certificate}
use Rattle.cert_text.specs.Reading.{IsCertText}
use Rattle.cert_maker.specs.ValidTradeOffs.{IsReachedBy, TradeOffsAreValid}
use Rattle.sd_io.specs.Outside.{Files}
use Rattle.sd_steps.specs.declared.answer.Answer.{Answer}
use Rattle.sd_steps.specs.declared.file_kind.FileKind.TheVariants as kinds
use Rattle.sd_command.specs.declared.commands.wanted.WantedPoints.{WantedPoints}
use Rattle.sd_steps.specs.Balancings.{balancing}
use Rattle.sd_steps.specs.Certifyings.{text_of}
use Rattle.sd_steps.specs.Courses.{Answered}
use Rattle.sd_steps.specs.Nets.{completing, testing_incident}
use Rattle.sd_command.specs.commands.Points.{IsPointSchedule, IsPointsAnswer}
use Rattle.sd_laws.specs.PutCertificates.{PutsValidTradeOff, TradeOffsPutAreValid}
use Rattle.sd_steps.specs.Readings.{opening_graph}
use Rattle.sd_command.specs.Requests.{course_of}
use Rattle.sd_laws.proofs.CommandsDecide.{goes_past}
use Rattle.sd_laws.proofs.RequestsGoOn.{of_request}
use Rattle.sd_laws.proofs.SharedSteps.{FileLaws, lawful_net}

-- the schedules of loops reach their points
all-reached : (net : Net) (ps : List Point) (ss : List Periodic) → AllZip (IsPointSchedule net) ps ss → AllZip (IsReachedBy net) ps ss
all-reached net [] [] all = tt
all-reached net [] (s ∷ ss) all = absurd all
all-reached net (p ∷ ps) [] all = absurd all
all-reached net (p ∷ ps) (s ∷ ss) all = (record { holds = all.0.of_loop.holds; ratio = all.0.reached }, all-reached net ps ss all.1)

module _ (laws : FileLaws) (valid : TradeOffsAreValid) (words : List (List ℕ)) (files : Files) (tells : IsSome files) (name put : List ℕ) (limits : Limits) (no_overlap : Bool)
    (asked : request_of words ≡ Ok (Storage name limits no_overlap (Some put))) (answer : Answer) (n : ℕ) where
  abbrev wanted : WantedPoints
  wanted = record { limits = limits; no_overlap = no_overlap; certificate = Some put }

  pub puts-valid : course_of words files (Answered answer) n → PutsValidTradeOff files name put answer
  puts-valid due =
      let came = of_request words files (Storage name limits no_overlap (Some put)) asked (Answered answer) n tt due in
      let opened = goes_past (opening_graph files name true) _ (Answered answer) n tt came in
      let graph : GraphFile = opened.0 in
      let balance = goes_past (balancing graph) _ (Answered answer) n tt opened.2 in
      let net : Net = net_of graph balance.0 no_overlap in
      let test_incident = goes_past (testing_incident graph net) _ (Answered answer) n tt balance.2 in
      let complete = goes_past (completing graph net) _ (Answered answer) n tt test_incident.2 in
      let told : IsPointsAnswer graph net wanted answer n = complete.2 in
      let made = told.put.1 in
      let is : told.put.0 ≡ _ = made.is in
      record {
        bytes = opened.1.0;
        graph = graph;
        gamma = balance.0;
        certificate = made.listed;
        there = opened.1.1.told tells;
        fits = opened.1.1.fits;
        given = opened.1.2;
        round = balance.1;
        file = told.put.2.2 ∙ ap Some (told.put.2.1.1 ∙ ap (λ (c : Certificate). record { kind = kinds.Certificate; name = put; bytes = text_of c }) is);
        short = subst (λ (c : Certificate). length (text_of c) ≤ greatest_of quantities.CertificateBytes) is told.put.2.1.0;
        read = subst (λ (c : Certificate). IsCertText (text_of c) 2 c) is told.put.2.1.2;
        valid = valid graph balance.0 no_overlap limits made.members told.points told.schedules made.listed
            (record {
              laws = lawful_net laws opened.1.0 graph balance.0 no_overlap opened.1.2 balance.1;
              plain = file-plain graph balance.0 no_overlap;
              connected = file-connected graph balance.0 no_overlap balance.1.balanced.connected;
              few = file-few graph balance.0 no_overlap (laws.keeps opened.1.0 true graph opened.1.2);
            })
            test_incident.1 (asked_within words (Storage name limits no_overlap (Some put)) asked).total made.explored (all-reached net told.points told.schedules told.shown.reached) made.made 2;
      }

pub trade_offs_put_are_valid : FileLaws → TradeOffsAreValid → TradeOffsPutAreValid
trade_offs_put_are_valid laws valid words files name put limits no_overlap answer n tells asked due = puts-valid laws valid words files tells name put limits no_overlap asked answer n due
