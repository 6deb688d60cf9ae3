-- Connection and equal shapes on small nets.
use Rattle.std.proofs.Common.{◌≡◌, ℕ, zero, suc, List, [], ◌∷◌, inl, inr, refl, subst, sym, ap, arith}
use Rattle.std.proofs.lemmas.Option.{same_Some, none-some}
use Rattle.sd_base.specs.declared.role.Role.TheVariants.{Token}
use Rattle.sd_base.specs.Net.{Channel, Net, total}
use Rattle.sd_base.specs.SelfTimed.{earliest, started_at, first_held_back, more_than_fed, ended_by, shape_at}
use Rattle.sd_base.specs.Connection.{IsWalk, IsConnected, ends_of}

abbrev link : ℕ → ℕ → ℕ → ℕ → Channel
link source target tokens number = record { source = source; target = target; made = 1 ∷ []; taken = 1 ∷ []; tokens = tokens; size = 1; role = Token number }

-- x of time 2 feeds y of time 3, and each has a self-loop with one token
abbrev line : Net
line = record { times = (2 ∷ []) ∷ (3 ∷ []) ∷ []; channels = link 1 0 4 0 ∷ link 0 0 1 1 ∷ link 1 1 1 2 ∷ []; round = 1 ∷ 1 ∷ [] }

line-connected : IsConnected line
line-connected zero below = ([], refl)
line-connected (suc zero) below = (0 ∷ [], ((1, 0), refl, inr (refl, refl)))
line-connected (suc (suc a)) below = absurd (omega arith)

-- two actors of times 1 and 2 that share no channel
abbrev loners : Net
loners = record { times = (1 ∷ []) ∷ (2 ∷ []) ∷ []; channels = link 0 0 1 0 ∷ link 1 1 1 1 ∷ []; round = 1 ∷ 1 ∷ [] }

not-one : (a b : ℕ) → a ≡ b → a ≡ 0 → b ≡ 1 → ⊥
not-one a b same one other = absurd (omega arith)

-- a walk from the first of them stays there
loners-stay : (walk : List ℕ) (b : ℕ) → IsWalk (ends_of loners) 0 walk b → 0 ≡ b
loners-stay [] b same = same
loners-stay (zero ∷ walk) b (e, is, inl (from, rest)) = loners-stay walk b (subst (λ (p : ℕ × ℕ). IsWalk (ends_of loners) p.1 walk b) (sym (same_Some (0, 0) e is)) rest)
loners-stay (zero ∷ walk) b (e, is, inr (from, rest)) = loners-stay walk b (subst (λ (p : ℕ × ℕ). IsWalk (ends_of loners) p.0 walk b) (sym (same_Some (0, 0) e is)) rest)
loners-stay (suc zero ∷ walk) b (e, is, inl (from, rest)) = absurd (not-one 0 e.0 from refl (ap (λ (p : ℕ × ℕ). p.0) (sym (same_Some (1, 1) e is))))
loners-stay (suc zero ∷ walk) b (e, is, inr (from, rest)) = absurd (not-one 0 e.1 from refl (ap (λ (p : ℕ × ℕ). p.1) (sym (same_Some (1, 1) e is))))
loners-stay (suc (suc i) ∷ walk) b (e, is, step) = absurd (none-some e is)

loners-apart : IsConnected loners → ⊥
loners-apart connected = not-one 0 1 (loners-stay (connected 1 (omega arith)).0 1 (connected 1 (omega arith)).1) refl refl

-- their shape of moment 0 comes again at 2, when the first has started two more firings and the second one: no whole rounds
loners-return : shape_at loners 0 ≡ shape_at loners 2
unfolding earliest started_at first_held_back more_than_fed ended_by total
loners-return = refl

loners-starts : earliest loners 3 ≡ (0 ∷ 1 ∷ 2 ∷ []) ∷ (0 ∷ 2 ∷ []) ∷ []
unfolding earliest started_at first_held_back more_than_fed ended_by total
loners-starts = refl
