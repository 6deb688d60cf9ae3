-- A net and its expansion have the same schedules, by the firings' names.
use Rattle.std.proofs.Common.{◌≡◌, length}
use Rattle.sd_base.specs.declared.tables.GraphFile.{GraphFile}
use Rattle.sd_base.specs.Net.{Net}
use Rattle.sd_base.specs.Lawful.{Lawful}
use Rattle.sd_base.proofs.LawfulIsRegular.{wired, balanced}
use Rattle.single_rate.specs.Namings.{IsSameByNames, expanded, joined, split}
use Rattle.single_rate.proofs.LinksOrderCopies.{Unrolled}
use Rattle.single_rate.proofs.ExpansionsUnroll.{expanded-unrolled}
use Rattle.single_rate.proofs.SplitsStayAdmissible.{split-admissible}
use Rattle.single_rate.proofs.SplitLists.{split-is}
use Rattle.single_rate.proofs.JoinsStayAdmissible.{joined-admissible}
use Rattle.single_rate.proofs.JoinedLists.{joined-is}
use Rattle.single_rate.proofs.EarliestSplits.{earliest-split}
use Rattle.single_rate.proofs.RateSplits.{rates-agree}

pub keeps : (net : Net) (g : GraphFile) → Lawful net → length g.actors ≡ length net.times → IsSameByNames net g
keeps net g laws named =
    let un : Unrolled net (expanded net g) = expanded-unrolled net (wired net laws) (balanced net laws) g named in
    record {
      splits = λ s good. split-admissible net (expanded net g) un (wired net laws) (balanced net laws) s (split net s) good (split-is net (balanced net laws) s good.actors);
      joins = λ u good. joined-admissible net (expanded net g) laws un u good (joined net u) (joined-is net u);
      earliest = λ t s early. earliest-split net (expanded net g) laws un (λ u long. (joined net u, joined-is net u)) t s (split net s) early (split-is net (balanced net laws) s early.admissible.actors);
      rates = λ p q inputs. rates-agree net (expanded net g) laws un (λ u long. (joined net u, joined-is net u)) (λ s long. (split net s, split-is net (balanced net laws) s long)) inputs p q;
    }
