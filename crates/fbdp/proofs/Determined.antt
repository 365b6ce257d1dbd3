-- For each entry: any two results which meet its contract, at the same arguments, coincide. Assumes nothing.
use mathlib.Core.Path.{◌≡◌}
use mathlib.Core.List.{List}
use Prim.Native.Nat.{ℕ}
use Rattle.bytes_be.proofs.Determined.{coincide}
use Rattle.open.specs.Offer.{Offer}
use Rattle.endpoint.specs.declared.Endpoint.{Endpoint}
use Rattle.sending.specs.Calls.{Call}
use Rattle.fbdp.specs.Entries.{InterfaceAnswer, FrameAnswer, ValueAnswer, LookupAnswer}
use Rattle.fbdp.specs.Blocks.{MakeAnswer, SendOnBlock, ReceiveOnBlock}

pub interface_determined : {number number' : ℕ} → InterfaceAnswer number → InterfaceAnswer number' → number ≡ number'
interface_determined one other = coincide one.numbered other.numbered

pub frame_determined : {bundle : List ℕ} {index number number' : ℕ} {slots slots' : List ℕ} → FrameAnswer bundle index number slots →
    FrameAnswer bundle index number' slots' → (number ≡ number') × (slots ≡ slots')
frame_determined one other = (coincide one.numbered other.numbered, coincide one.told other.told)

pub value_determined : {bytes : List ℕ} {number number' : ℕ} {slots slots' : List ℕ} → ValueAnswer bytes number slots →
    ValueAnswer bytes number' slots' → (number ≡ number') × (slots ≡ slots')
value_determined one other = (coincide one.numbered other.numbered, coincide one.told other.told)

pub lookup_determined : {client defaults key : List ℕ} {number number' : ℕ} {slots slots' : List ℕ} → LookupAnswer client defaults key number slots →
    LookupAnswer client defaults key number' slots' → (number ≡ number') × (slots ≡ slots')
lookup_determined one other = (coincide one.numbered other.numbered, coincide one.told other.told)

pub make_determined : (fresh : Endpoint) {before : List ℕ} {number number' : ℕ} {after after' : List ℕ} →
    MakeAnswer fresh before number after → MakeAnswer fresh before number' after' → (number ≡ number') × (after ≡ after')
make_determined fresh one other = (coincide one.numbered other.numbered, coincide one.kept other.kept)

pub send_determined : {call : Call} {block out : List ℕ} {number number' count count' : ℕ} {block₁ block₂ out₁ out₂ : List ℕ} →
    SendOnBlock call block out number count block₁ out₁ → SendOnBlock call block out number' count' block₂ out₂ →
    (number ≡ number') × (count ≡ count') × (block₁ ≡ block₂) × (out₁ ≡ out₂)
send_determined one other =
    let first = one.finished in
    let second = other.finished in
    (coincide first.numbered second.numbered, coincide first.counted second.counted, coincide first.kept second.kept, coincide one.left other.left)

pub receive_determined : {s : List ℕ} {pipe : Offer} {block out : List ℕ} {number number' : ℕ} {slots slots' block₁ block₂ out₁ out₂ : List ℕ} →
    ReceiveOnBlock s pipe block out number slots block₁ out₁ → ReceiveOnBlock s pipe block out number' slots' block₂ out₂ →
    (number ≡ number') × (slots ≡ slots') × (block₁ ≡ block₂) × (out₁ ≡ out₂)
receive_determined one other =
    (coincide one.numbered other.numbered, coincide one.told other.told, coincide one.kept other.kept, coincide one.left other.left)
