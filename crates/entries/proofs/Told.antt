-- What `fbdp_receive` tells in its slots and writes to its output is what was heard and replied. Assumes nothing.
use mathlib.Core.Path.{◌≡◌, ap, refl}
use Prim.Native.Nat.{ℕ, ◌≤◌}
use mathlib.Core.List.{List, [], ◌∷◌}
use mathlib.Core.Bool.{Bool, true, false, cond, not}
use native.Mathlib.Omega.{arith}
use lib.Dec.{eqb}
use lib.ListN.{length, take}
use Rattle.bytes_be.specs.Part.{part_at}
use Rattle.bytes_be.proofs.Parts.{part_put}
use Rattle.bytes_be.proofs.Tests.{clash}
use Rattle.bundle.proofs.Outputs.{one_long}
use Rattle.control.specs.declared.MessageType.{MessageType}
use Rattle.control.specs.Frame.{bytes_of, type_of}
use Rattle.control.proofs.Round.{length_control}
use Rattle.open.specs.Offer.{Offer}
use Rattle.endpoint.specs.declared.Endpoint.{Endpoint}
use Rattle.receiving.specs.declared.Content.{Content}
use Rattle.receiving.specs.declared.Content.TheVariants.{Nothing as Content-as-Nothing, Opening, Body}
use Rattle.receiving.specs.Numbers.{Answer, Heard as Answer-as-Heard, Stays, Closes}
use Rattle.receiving.specs.Receiving.{received_of, reply_bytes, replied}
use Rattle.fbdp.specs.Slots.{answer_slots, carries_of, heard_slots}
use Rattle.fbdp.specs.Blocks.{reply_length}
use Rattle.sending.specs.Calls.{Missing, Given, is_missing}
use Rattle.machine.specs.Bodies.{body_heard, tells_body}
use Rattle.machine.specs.Programs.{told_of, replies}
use Rattle.machine.proofs.Bodies.{frames_tell_body}
use Rattle.entries.specs.Entries.{told_by, replies_by}
use Rattle.control.specs.declared.Control.{Control}
use Rattle.std.specs.Prelude.{Option, None, Some}
use Rattle.receiving.specs.Refusing.{replying}

-- a body that is told by the number of data frames is the one that was heard
body_told : (s : List ℕ) (tells : Bool) (content : Content) → is_missing (body_heard s content) ≡ not tells
    → cond tells (Given (part_at s (carries_of content).body)) Missing ≡ body_heard s content
body_told s true Content-as-Nothing is = clash cc
body_told s false Content-as-Nothing is = refl
body_told s true (Opening opening) is = clash cc
body_told s false (Opening opening) is = refl
body_told s true (Body place) is = refl
body_told s false (Body place) is = clash cc

-- type, flags, type-data and body
module _ (e : Endpoint) (s : List ℕ) (pipe : Offer) (room reply : ℕ) where
  pub answer_told : (answer : Answer) → (received_of e s pipe room).answer ≡ answer → told_by s (answer_slots answer reply) ≡ told_of s answer
  unfolding heard_slots
  answer_told (Answer-as-Heard heard) is =
      let body = body_told s (tells_body (type_of heard.message) heard.frames) heard.content (frames_tell_body e s pipe room heard is) in
      λ i. record { message = type_of heard.message; flags = heard.flags; type-data = heard.type_data; body = body i }
  answer_told (Stays number) is = refl
  answer_told (Closes number) is = refl

-- a reply has 14 bytes, which a host finds in an output that has room for it

reply_long : (message : MessageType) (flags type-data : ℕ) → reply_length (replying message flags type-data) ≡ 14
reply_long message flags type-data = one_long (bytes_of message flags type-data) (length_control message flags type-data) []

reply_found : (reply : Option Control) (out : List ℕ) → 14 ≤ length out
    → cond (eqb (reply_length reply) 0) [] (take (reply_length reply) (replied reply out) ∷ []) ≡ replies reply
unfolding replied
reply_found None out room = refl
reply_found (Some frame) out room =
    let long = reply_long frame.message frame.flags frame.type_data in
    simp long (ap (λ (l : List ℕ). l ∷ []) (rw long at (part_put out 0 (reply_bytes (Some frame)) (omega (arith, long)))))

pub reply_told : (answer : Answer) (reply : Option Control) (out : List ℕ) → 14 ≤ length out
    → replies_by (answer_slots answer (reply_length reply)) (replied reply out) ≡ replies reply
unfolding heard_slots
reply_told (Answer-as-Heard heard) reply out room = reply_found reply out room
reply_told (Stays number) reply out room = reply_found reply out room
reply_told (Closes number) reply out room = reply_found reply out room
