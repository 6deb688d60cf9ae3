-- Rows without starts are due, and rows that are due up to a moment are so up to a later one.
use Rattle.std.proofs.Common.{◌≡◌, ℕ, ◌≤◌, List, [], length, replicate, arith}
use Rattle.std.proofs.lemmas.List.{length-replicate}
use Rattle.sd_base.specs.Net.{Net, channel_at}
use Rattle.sd_base.proofs.EndsDecideCounts.{empty-rows}
use Rattle.need_loops.specs.declared.growth.Growth.{Growth}
use Rattle.need_loops.specs.inside.Needing.{AreDue}
use Rattle.need_loops.specs.inside.Growing.{IsGrowth}

pub none-due : (net : Net) (until : ℕ) (rows : List (List ℕ)) → rows ≡ replicate (length net.times) [] → AreDue net until rows
none-due net until rows none = rw none (record {
  admissible = record {
    actors = length-replicate {A = List ℕ} (length net.times) [];
    rising = λ a k there. absurd (omega (arith, empty-rows (length net.times) a));
    fed = λ i j m place there last. absurd (omega (arith, empty-rows (length net.times) (channel_at net i).target));
  };
  due = λ a k there. absurd (omega (arith, empty-rows (length net.times) a));
  by = λ a k there. absurd (omega (arith, empty-rows (length net.times) a));
})

pub later-due : (net : Net) (t u : ℕ) (rows : List (List ℕ)) → t ≤ u → AreDue net t rows → AreDue net u rows
later-due net t u rows le due = record {
  admissible = due.admissible;
  due = due.due;
  by = λ a k there. omega (arith, due.by a k there);
}

pub later-grown : (net : Net) (t u : ℕ) (g : Growth) → t ≤ u → IsGrowth net t g → IsGrowth net u g
later-grown net t u g le grown = record { due = later-due net t u g.starts.items le grown.due; next = grown.next; flags = grown.flags }
