-- What a bounded net keeps where it gets other capacities: counts that are reached, and its wiring.
use Rattle.std.proofs.Common.{◌≡◌, ℕ, suc, Option, None, Some, List, [], ◌∷◌, ◌++◌, length, map, sym, refl, ap, ◌∙◌, subst}
use Rattle.std.proofs.lemmas.Bool.{true≢false}
use Rattle.std.proofs.lemmas.List.{map-append}
use Rattle.sd_base.specs.Net.{Channel, Net}
use Rattle.sd_base.specs.Connection.{ends_of}
use Rattle.sd_base.specs.Untimed.{none_fired, IsLive}
use Rattle.firing.specs.Wiring.{IsWiring, IsWiringOf}
use Rattle.firing.specs.declared.wiring.Wiring.{Wiring}
use Rattle.liveness.specs.RoundAnswers.{AreReachedCounts}
use Rattle.storage.specs.BoundedNets.{bound, spaces_from}
use Rattle.storage.specs.Distributions.{AtMost, IsDistribution}
use Rattle.storage.specs.inside.Easing.{Eases}
use Rattle.storage.proofs.EasingKeepsSchedules.{eases-fires, eases-live}
use Rattle.storage.proofs.RoundingKeepsNeeds.{bound-eases, more-eases}

pub more-room : (net : Net) (ds es : List (Option ℕ)) → AtMost ds es → Eases (bound net ds) (bound net es)
more-room net ds es most = bound-eases net ds es (more-eases 0 net.channels ds es most)

pub more-reached : (net : Net) (ds es : List (Option ℕ)) (counts : List ℕ) → AtMost ds es → AreReachedCounts (bound net ds) counts → AreReachedCounts (bound net es) counts
more-reached net ds es counts most reached = record {
  actors = reached.actors;
  order = reached.order;
  fires = eases-fires (bound net ds) (bound net es) (more-room net ds es most) reached.order none_fired reached.fires;
  reached = reached.reached;
}

pub more-live : (net : Net) (ds es : List (Option ℕ)) → AtMost ds es → IsLive (bound net ds) → IsLive (bound net es)
more-live net ds es most live = eases-live (bound net ds) (bound net es) (more-room net ds es most) live

abbrev ends : List Channel → List (ℕ × ℕ)
ends cs = map {B = ℕ × ℕ} (λ (c : Channel). (c.source, c.target)) cs

same-ends : (n : ℕ) (cs : List Channel) (ds es : List (Option ℕ)) → IsDistribution cs ds → IsDistribution cs es → ends (spaces_from n cs ds) ≡ ends (spaces_from n cs es)
same-ends n [] [] [] one other = refl
same-ends n [] [] (e ∷ es) one other = absurd other
same-ends n [] (d ∷ ds) es one other = absurd one
same-ends n (c ∷ cs) [] [] one other = refl
same-ends n (c ∷ cs) [] (None ∷ es) one other = absurd (true≢false (sym other.0 ∙ one.0))
same-ends n (c ∷ cs) [] (Some l ∷ es) one other = absurd (true≢false (sym other.0 ∙ one.0))
same-ends n (c ∷ cs) (None ∷ ds) [] one other = absurd (true≢false (sym one.0 ∙ other.0))
same-ends n (c ∷ cs) (Some k ∷ ds) [] one other = absurd (true≢false (sym one.0 ∙ other.0))
same-ends n (c ∷ cs) (None ∷ ds) (None ∷ es) one other = same-ends (suc n) cs ds es one.2 other.2
same-ends n (c ∷ cs) (None ∷ ds) (Some l ∷ es) one other = absurd (other.1 one.1)
same-ends n (c ∷ cs) (Some k ∷ ds) (None ∷ es) one other = absurd (one.1 other.1)
same-ends n (c ∷ cs) (Some k ∷ ds) (Some l ∷ es) one other = ap (λ (xs : List (ℕ × ℕ)). (c.target, c.source) ∷ xs) (same-ends (suc n) cs ds es one.3 other.3)

pub same-wiring : (net : Net) (ds es : List (Option ℕ)) (wiring : Wiring) → IsDistribution net.channels ds → IsDistribution net.channels es → IsWiringOf (bound net ds) wiring → IsWiringOf (bound net es) wiring
same-wiring net ds es wiring one other wired = subst (λ (ends : List (ℕ × ℕ)). IsWiring (length net.times) ends wiring) same wired
  where
    same : ends_of (bound net ds) ≡ ends_of (bound net es)
    same =
        map-append {B = ℕ × ℕ} (λ (c : Channel). (c.source, c.target)) net.channels (spaces_from 0 net.channels ds)
        ∙ (ap (λ (xs : List (ℕ × ℕ)). ends net.channels ++ xs) (same-ends 0 net.channels ds es one other)
        ∙ sym (map-append {B = ℕ × ℕ} (λ (c : Channel). (c.source, c.target)) net.channels (spaces_from 0 net.channels es)))
