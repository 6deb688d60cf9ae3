use Rattle.std.proofs.Common.{refl, subst, sym, ap}
use Rattle.std.proofs.Common.{ℕ, List, ◌∙◌}
use Rattle.cert_text.specs.Spellable.{Rise}
use Rattle.cert_maker.specs.RateCertificates.{buffers_from}
use Rattle.cert_maker.proofs.BufferChannelsRise.{buffers-rise}
use Rattle.cert_maker.proofs.rates.rate_certificate.Goals as goal

pub returns-clause-is : goal.returns-clause-is
returns-clause-is g c = (
  _,
  refl,
  record {
    overlap = refl;
    buffers = c.from_vec.ensures ∙ (c.in_ok-buffers_of.ensures ∙ ap (buffers_from 0) c.as_slice.ensures);
    rate = record { same = rw (c.num.ensures, c.den.ensures) c.new-rate.ensures.same; lowest = rw (c.num.ensures, c.den.ensures) c.new-rate.result.lowest };
    keeps = refl;
    bounds = c.in_ok-linked.ensures.same;
  },
)

pub returns-clause-spellable : goal.returns-clause-spellable
returns-clause-spellable g c = record {
  buffers = subst (λ (bs : List (ℕ × ℕ)). Rise bs) (sym (c.from_vec.ensures ∙ (c.in_ok-buffers_of.ensures ∙ ap (buffers_from 0) c.as_slice.ensures))) (buffers-rise c.args.distribution.now.capacities);
  schedule = c.requires.starts;
  cycle = c.in_ok-linked.ensures.text;
}
