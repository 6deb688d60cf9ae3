-- Walks with steps over the channels of a graph, and walks over the ends of its channels.
use Rattle.std.proofs.Common.{◌≡◌, ℕ, zero, suc, Bool, true, false, Some, List, [], ◌∷◌, map, refl, ap, sym, subst, ◌∙◌, inl, inr}
use Rattle.std.specs.Prelude.{slice_get}
use Rattle.std.proofs.lemmas.Option.{same_Some, none-some}
use Rattle.sd_base.specs.declared.tables.GraphFile.{GraphFile}
use Rattle.sd_base.specs.declared.tables.ChannelRow.{ChannelRow}
use Rattle.sd_base.specs.Connection.{IsWalk, Meets, graph_ends}
use Rattle.balance.specs.declared.walk.WalkStep.{WalkStep}
use Rattle.balance.specs.declared.walk.Link.{Link}
use Rattle.balance.specs.Walks as steps
use Rattle.balance.specs.Walks.{links_of, link_of, step_to}

abbrev ends_at : ChannelRow → ℕ × ℕ
ends_at c = (c.source, c.target)

abbrev between : Link → ℕ × ℕ → Type 0
between l e = (l.source ≡ e.0) × (l.target ≡ e.1)

link_at : (cs : List ChannelRow) (k : ℕ) (e : ℕ × ℕ) → slice_get (map ends_at cs) k ≡ Some e → (l : Link) × (slice_get (map link_of cs) k ≡ Some l) × between l e
link_at [] k e is = absurd (none-some e is)
link_at (c ∷ cs) zero e is =
    let same : ends_at c ≡ e = same_Some (ends_at c) e is in
    (link_of c, refl, (ap (λ (p : ℕ × ℕ). p.0) same, ap (λ (p : ℕ × ℕ). p.1) same))
link_at (c ∷ cs) (suc k) e is = link_at cs k e is

pair_at : (cs : List ChannelRow) (k : ℕ) (l : Link) → slice_get (map link_of cs) k ≡ Some l → (e : ℕ × ℕ) × (slice_get (map ends_at cs) k ≡ Some e) × between l e
pair_at [] k l is = absurd (none-some l is)
pair_at (c ∷ cs) zero l is =
    let same : link_of c ≡ l = same_Some (link_of c) l is in
    (ends_at c, refl, (sym (ap (λ (x : Link). x.source) same), sym (ap (λ (x : Link). x.target) same)))
pair_at (c ∷ cs) (suc k) l is = pair_at cs k l is

-- a walk over ends, step by step
pub with_steps : (g : GraphFile) (a : ℕ) (ks : List ℕ) (b : ℕ) → IsWalk (graph_ends g) a ks b → (ss : List WalkStep) × steps.IsLinkWalk (links_of g) a ss b
with_steps g a [] b same = ([], same)
with_steps g a (k ∷ ks) b (e, is, inl (from, rest)) =
    let (l, at, (source, target)) = link_at g.channels k e is in
    let (ss, walk) = with_steps g e.1 ks b rest in
    (record { channel = k; forward = true } ∷ ss, (l, at, from ∙ sym source, subst (λ (x : ℕ). steps.IsLinkWalk (links_of g) x ss b) (sym target) walk))
with_steps g a (k ∷ ks) b (e, is, inr (from, rest)) =
    let (l, at, (source, target)) = link_at g.channels k e is in
    let (ss, walk) = with_steps g e.0 ks b rest in
    (record { channel = k; forward = false } ∷ ss, (l, at, from ∙ sym target, subst (λ (x : ℕ). steps.IsLinkWalk (links_of g) x ss b) (sym source) walk))

-- steps as a walk over ends
pub without_steps : (g : GraphFile) (a b : ℕ) (ss : List WalkStep) → steps.IsLinkWalk (links_of g) a ss b → Meets (graph_ends g) a b
without_steps g a b [] same = ([], same)
without_steps g a b (s ∷ ss) (l, is, from, rest) =
    let (e, at, (source, target)) = pair_at g.channels s.channel l is in
    step s.forward e at source target from (without_steps g (step_to l s.forward) b ss rest)
  where
    step : (f : Bool) (e : ℕ × ℕ) → slice_get (graph_ends g) s.channel ≡ Some e → l.source ≡ e.0 → l.target ≡ e.1 → a ≡ steps.step_from l f → Meets (graph_ends g) (step_to l f) b → Meets (graph_ends g) a b
    step true e at source target from (ks, walk) = (s.channel ∷ ks, (e, at, inl (from ∙ source, subst (λ (x : ℕ). IsWalk (graph_ends g) x ks b) target walk)))
    step false e at source target from (ks, walk) = (s.channel ∷ ks, (e, at, inr (from ∙ target, subst (λ (x : ℕ). IsWalk (graph_ends g) x ks b) source walk)))
