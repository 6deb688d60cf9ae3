-- The channels of the file stand first in an ordered net, as they do in the net.
use Rattle.std.proofs.Common.{◌≡◌, ℕ, zero, suc, ◌-◌, ◌≤◌, ◌<◌, ◌⊎◌, Bool, true, false, List, [], ◌∷◌, ◌++◌, length, map, inl, inr, ⊎_elim, subst, sym, refl, ap, ◌∙◌, arith}
use Rattle.std.specs.Prelude.{slice_index_or, if◌then◌else◌}
use Rattle.std.proofs.lemmas.Bool.{cases_lt}
use Rattle.std.proofs.lemmas.List.{length-append, get_or_append_left, get_or-append_right, get_or-map, length-map}
use Rattle.sd_base.specs.declared.role.Role.{Role}
use Rattle.sd_base.specs.declared.role.Role.TheVariants.{Token, Own, Space, Order}
use Rattle.sd_base.specs.Net.{Channel, Net, nowhere, channel_at}
use Rattle.sd_base.specs.Lawful.{is_file_channel, is_token_role, is_own_role, Lawful, is_space_role}
use Rattle.ordered.specs.Orders.{AreOrders}
use Rattle.ordered.specs.OrderedNets.{is_named, phases_in, rephased, with_role, order_channels, owns_from, ordered}
use Rattle.ordered.proofs.ChannelsAreKeptOrNew.{Among, at-place, Kept, kept-from, among-either}
use Rattle.ordered.proofs.RolesApart.{new-role, order-role, kept-role}

-- a channel that isn't of the file has none of the file after it
abbrev pub TokensFirst : List Channel → Type 0
TokensFirst cs = (i j : ℕ) → i ≤ j → j < length cs → is_token_role (slice_index_or cs j nowhere).role ≡ true → is_token_role (slice_index_or cs i nowhere).role ≡ true

tokens-tail : (c : Channel) (cs : List Channel) → TokensFirst (c ∷ cs) → TokensFirst cs
tokens-tail c cs first i j le below token = first (suc i) (suc j) (omega arith) (omega arith) token

-- so those of the file are where they were
tokens-at : (f : Channel → Channel) (cs : List Channel) → TokensFirst cs → (i : ℕ) → i < length (with_role is_token_role cs) → slice_index_or (with_role is_token_role cs) i nowhere ≡ slice_index_or cs i nowhere
tokens-at f [] first i below = refl
tokens-at f (c ∷ cs) first i below = at i (is_token_role c.role) refl below (tokens-at f cs (tokens-tail c cs first))
  where
    at : (i : ℕ) (b : Bool) → is_token_role c.role ≡ b → i < length (if b then c ∷ with_role is_token_role cs else with_role is_token_role cs)
        → ((i : ℕ) → i < length (with_role is_token_role cs) → slice_index_or (with_role is_token_role cs) i nowhere ≡ slice_index_or cs i nowhere)
        → slice_index_or (if b then c ∷ with_role is_token_role cs else with_role is_token_role cs) i nowhere ≡ slice_index_or (c ∷ cs) i nowhere
    at zero true is below rest = refl
    at (suc i) true is below rest = rest i (omega arith)
    at i false is below rest = absurd (none (kept-from f is_token_role cs (slice_index_or (map f (with_role is_token_role cs)) i nowhere)
        (at-place (map f (with_role is_token_role cs)) i (omega (arith, below, length-map (with_role is_token_role cs) f)))))
      where
        none : {d : Channel} → Kept f is_token_role cs d → ⊥
        none k =
            let token : is_token_role (slice_index_or cs k.among.place nowhere).role ≡ true = ap (λ (x : Channel). is_token_role x.role) k.among.is ∙ k.role in
            let no : true ≡ false = sym (first 0 (suc k.among.place) (omega arith) (omega (arith, k.among.below)) token) ∙ is in cc

file-token : (i : ℕ) (r : Role) → is_file_channel i r ≡ true → is_token_role r ≡ true
file-token i (Token c) is = refl
file-token i (Own a) is = absurd (cc)
file-token i (Space c) is = absurd (cc)
file-token i (Order x y) is = absurd (cc)

module _ (net : Net) (laws : Lawful net) (orders : List (List ℕ)) (are : AreOrders net orders) where
  first-tokens : TokensFirst net.channels
  first-tokens i j le below token = file-token i (channel_at net i).role (laws.files_first i j le below token)

  -- what stands behind the file's channels isn't of the file
  rest-other : (c : Channel) → Among (owns_from net orders 0 (length net.times) ++ (map (rephased (phases_in net orders)) (with_role is_space_role net.channels) ++ order_channels orders)) c → is_token_role c.role ≡ false
  rest-other c among = ⊎_elim
      (λ (o : Among (owns_from net orders 0 (length net.times)) c). ap is_token_role (new-role net laws orders are 0 (length net.times) c o).2)
      (λ (more : Among (map (rephased (phases_in net orders)) (with_role is_space_role net.channels) ++ order_channels orders) c). ⊎_elim
      (λ (s : Among (map (rephased (phases_in net orders)) (with_role is_space_role net.channels)) c). no-token c.role (kept-role net laws orders are is_space_role c s))
      (λ (s : Among (order_channels orders) c). ap is_token_role (order-role net laws orders are c s).2)
      (among-either (map (rephased (phases_in net orders)) (with_role is_space_role net.channels)) (order_channels orders) c more))
      (among-either (owns_from net orders 0 (length net.times)) (map (rephased (phases_in net orders)) (with_role is_space_role net.channels) ++ order_channels orders) c among)
    where
      no-token : (r : Role) → is_space_role r ≡ true → is_token_role r ≡ false
      no-token (Token x) is = absurd (cc)
      no-token (Own x) is = refl
      no-token (Space x) is = refl
      no-token (Order x y) is = refl

  pub files-first : (i j : ℕ) → i ≤ j → j < length (ordered net orders).channels → is_token_role (channel_at (ordered net orders) j).role ≡ true → is_file_channel i (channel_at (ordered net orders) i).role ≡ true
  files-first i j le below token = at (cases_lt j (length tokens))
    where
      kept : List Channel
      kept = with_role is_token_role net.channels

      tokens : List Channel
      tokens = map (rephased (phases_in net orders)) (with_role is_token_role net.channels)

      rest : List Channel
      rest = owns_from net orders 0 (length net.times) ++ (map (rephased (phases_in net orders)) (with_role is_space_role net.channels) ++ order_channels orders)

      at : (j < length tokens) ⊎ (length tokens ≤ j) → is_file_channel i (channel_at (ordered net orders) i).role ≡ true
      at (inl file) =
          let here : i < length tokens = omega arith in
          let small : i < length kept = omega (arith, here, length-map kept (rephased (phases_in net orders))) in
          let front : slice_index_or (tokens ++ rest) i nowhere ≡ slice_index_or tokens i nowhere = get_or_append_left tokens rest nowhere i here in
          let mapped : slice_index_or tokens i nowhere ≡ rephased (phases_in net orders) (slice_index_or kept i nowhere) = get_or-map (rephased (phases_in net orders)) kept i nowhere nowhere small in
          let same : slice_index_or kept i nowhere ≡ channel_at net i = tokens-at (rephased (phases_in net orders)) net.channels first-tokens i small in
          let k : Kept (rephased (phases_in net orders)) is_token_role net.channels (slice_index_or tokens i nowhere) = kept-from (rephased (phases_in net orders)) is_token_role net.channels (slice_index_or tokens i nowhere) (at-place tokens i here) in
          let role : (channel_at (ordered net orders) i).role ≡ (channel_at net i).role = ap (λ (c : Channel). c.role) (front ∙ mapped) ∙ ap (λ (c : Channel). c.role) same in
          let also : is_token_role (channel_at net i).role ≡ true = ap is_token_role (ap (λ (c : Channel). c.role) (sym same) ∙ ap (λ (c : Channel). c.role) (sym mapped)) ∙ (ap (λ (c : Channel). is_token_role c.role) k.is ∙ k.role) in
          let there : i < length net.channels = within net.channels small in
          ap (is_file_channel i) role ∙ laws.files_first i i (omega arith) there also
        where
          within : (cs : List Channel) {n : ℕ} → n < length (with_role is_token_role cs) → n < length cs
          within cs {n} small = omega (arith, small, kept-few cs)
            where
              kept-few : (cs : List Channel) → length (with_role is_token_role cs) ≤ length cs
              kept-few [] = omega arith
              kept-few (c ∷ cs) = step (is_token_role c.role) (kept-few cs)
                where
                  step : (b : Bool) → length (with_role is_token_role cs) ≤ length cs → length (if b then c ∷ with_role is_token_role cs else with_role is_token_role cs) ≤ suc (length cs)
                  step true le = omega arith
                  step false le = omega arith
      at (inr past) =
          let among : Among rest (slice_index_or rest (j - length tokens) nowhere) = at-place rest (j - length tokens) (omega (arith, below, past, length-append tokens rest)) in
          let back : slice_index_or (tokens ++ rest) j nowhere ≡ slice_index_or rest (j - length tokens) nowhere = get_or-append_right tokens rest (length tokens) j nowhere refl past in
          absurd (let no : true ≡ false = sym token ∙ (ap (λ (c : Channel). is_token_role c.role) back ∙ rest-other (slice_index_or rest (j - length tokens) nowhere) among) in cc)
