-- What reaches a storage and a rate has, rounded down, a vector of the lattice of no more storage and of the same rate.
use Rattle.std.proofs.Common.{◌≡◌, ℕ, ◌≤◌, Option, List, sym, ap, ◌∙◌, subst, arith}
use Rattle.sd_base.specs.declared.limits.Limits.{Limits}
use Rattle.sd_base.specs.Net.{Net}
use Rattle.sd_base.specs.Rates.{Rate}
use Rattle.sd_base.specs.Untimed.{IsLive}
use Rattle.storage.specs.BoundedNets.{bound}
use Rattle.storage.specs.Distributions.{storage_of}
use Rattle.storage.specs.ParetoPoints.{Reaches}
use Rattle.storage.specs.Steps.{rounded}
use Rattle.storage.proofs.CornerStaysBelow.{rounded-dist, rounded-most}
use Rattle.storage.proofs.MembersCover.{running-live}
use Rattle.storage.proofs.FrontsFromMembers.{same-storage}
use Rattle.covers.specs.declared.lattice.Lattice.{Lattice}
use Rattle.covers.specs.Lattices.{IsAmong, storage_of as needed}
use Rattle.pareto_search.specs.inside.Grounds.{IsGround}
use Rattle.pareto_search.specs.inside.Vectors.{bounded_by, vector_of}
use Rattle.pareto_search.proofs.WithinLimit.{IsRoundedTo, flat-storage, rounded-to}

pub record HasVector (net : Net) (corner : List (Option ℕ)) (lattice : Lattice) (storage num den : ℕ) (ds : List (Option ℕ)) : Type 0 where
  pub vector : List ℕ
  pub among : IsAmong lattice vector
  pub low : needed lattice.axes vector ≤ storage
  pub flat : vector_of (bounded_by corner vector) ≡ vector
  pub rate : Rate (bound net (bounded_by corner vector)) num den
  pub full : storage ≤ needed lattice.axes vector → bounded_by corner vector ≡ ds

pub reached-vector : (net : Net) (limits : Limits) (corner : List (Option ℕ)) (lattice : Lattice) → IsGround net limits corner lattice → (storage num den : ℕ) (ds : List (Option ℕ)) → Reaches net limits.total storage num den ds → HasVector net corner lattice storage num den ds
reached-vector net limits corner lattice base storage num den ds reaches =
    let live : IsLive (bound net ds) = running-live net base.laws ds num den reaches.rate reaches.runs in
    let r : IsRoundedTo net corner lattice ds (vector_of (rounded net.channels ds)) = rounded-to net limits corner lattice base ds reaches.distribution live (omega (arith, reaches.total, reaches.within)) in
    let level : needed lattice.axes (vector_of (rounded net.channels ds)) ≡ storage_of net.channels (rounded net.channels ds) = flat-storage net limits corner lattice base (vector_of (rounded net.channels ds)) r.among.on r.flat ∙ ap (storage_of net.channels) r.same in
    record {
      vector = vector_of (rounded net.channels ds);
      among = r.among;
      low = omega (arith, r.most, reaches.total);
      flat = r.flat;
      rate = subst (λ (es : List (Option ℕ)). Rate (bound net es) num den) (sym r.same) ((r.rates num den).0 reaches.rate);
      full = λ more. r.same ∙ same-storage net.channels (rounded net.channels ds) ds base.laws.some_size (rounded-dist net.channels ds reaches.distribution) (rounded-most net.channels ds reaches.distribution) (omega (arith, reaches.total, more, level));
    }
