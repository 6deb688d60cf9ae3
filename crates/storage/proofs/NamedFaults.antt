-- Buffers are tested from the first to the last.
use Rattle.std.proofs.Common.{◌≡◌, ℕ, ◌+◌, ◌<◌, ◌≤◌, List, ◌∷◌, length, get_or, drop, None, sym, ap, ◌∙◌, add-one}
use Rattle.std.specs.Option.{option_or}
use Rattle.std.proofs.Math.Seq.{drop-cons}
use Rattle.std.proofs.lemmas.List.{at_drop_all}
use Rattle.sd_base.specs.declared.tables.ChannelRow.{ChannelRow}
use Rattle.storage.specs.declared.buffers.BufferError.{BufferError}
use Rattle.storage.specs.declared.buffers.BufferError.TheVariants.{Unknown, SelfLoop, BelowTokens, NoMemory}
use Rattle.storage.specs.NamedBuffers.{Buffer, fault_of, first_fault, Tells}

-- the first fault from a buffer on is that buffer's, or one after it
from-next : (channels : List ChannelRow) (bs : List Buffer) (i : ℕ) (b : Buffer) → i < length bs → b ≡ get_or bs i b
    → first_fault channels (drop i bs) ≡ option_or (fault_of channels b) (first_fault channels (drop (i + 1) bs))
unfolding first_fault
from-next channels bs i b h is =
    let cons : drop i bs ≡ get_or bs i b ∷ drop (i + 1) bs = rw add-one (drop-cons bs i b h) in
    ap (first_fault channels) (cons ∙ ap (λ x. x ∷ drop (i + 1) bs) (sym is))

pub no-fault : (channels : List ChannelRow) (bs : List Buffer) (i : ℕ) (b : Buffer) → i < length bs → b ≡ get_or bs i b → fault_of channels b ≡ None
    → first_fault channels (drop (i + 1) bs) ≡ first_fault channels (drop i bs)
no-fault channels bs i b h is none = sym (from-next channels bs i b h is ∙ ap (λ f. option_or f (first_fault channels (drop (i + 1) bs))) none)

pub end-fault : (channels : List ChannelRow) (bs : List Buffer) (i : ℕ) → length bs ≤ i → first_fault channels (drop i bs) ≡ None
unfolding first_fault
end-fault channels bs i past = at_drop_all (first_fault channels) bs i past

pub one-fault : (channels : List ChannelRow) (bs : List Buffer) (i : ℕ) (b : Buffer) (e : BufferError) → i < length bs → b ≡ get_or bs i b → Tells e (fault_of channels b)
    → Tells e (first_fault channels (drop i bs))
one-fault channels bs i b NoMemory h is tells = tt
one-fault channels bs i b (Unknown n) h is tells = from-next channels bs i b h is ∙ ap (λ f. option_or f (first_fault channels (drop (i + 1) bs))) tells
one-fault channels bs i b (SelfLoop n) h is tells = from-next channels bs i b h is ∙ ap (λ f. option_or f (first_fault channels (drop (i + 1) bs))) tells
one-fault channels bs i b (BelowTokens n) h is tells = from-next channels bs i b h is ∙ ap (λ f. option_or f (first_fault channels (drop (i + 1) bs))) tells
