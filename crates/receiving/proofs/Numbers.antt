-- What a receive answers by number is all that it answers: number and refusal determine one another. Assumes nothing.
use mathlib.Core.Path.{◌≡◌, ◌∙◌, ap, refl, sym}
use Rattle.control.specs.declared.Refusal.TheVariants.{BadSignature, OtherVersion, UnknownType}
use Rattle.message.specs.declared.Reason.TheVariants.{BadBundle, Control, BadFlags, BadFrames}
use Rattle.receiving.specs.declared.Refusal.{Refusal}
use Rattle.receiving.specs.declared.Refusal.TheVariants.{BadState, ShortOutput, Closed, Message, TooLarge, NotAllowed, Unreadable, OutOfRange, UnknownSocket, OtherPipe, OtherFormat, AboveOffer, Unmatched}
use Rattle.receiving.specs.declared.Answer.{Answer}
use Rattle.receiving.specs.declared.Answer.TheVariants.{Heard, Stays, Closes}
use Rattle.receiving.specs.declared.Received.{Received}
use Rattle.receiving.specs.Numbers.{refusal_number, refusal_by, answer_as, answer_by, received_as, received_by, NumbersTellAll}

pub refusal_told : (refusal : Refusal) → refusal_by (refusal_number refusal) ≡ refusal
refusal_told BadState = refl
refusal_told ShortOutput = refl
refusal_told Closed = refl
refusal_told (Message BadBundle) = refl
refusal_told (Message (Control BadSignature)) = refl
refusal_told (Message (Control OtherVersion)) = refl
refusal_told (Message (Control UnknownType)) = refl
refusal_told (Message BadFlags) = refl
refusal_told (Message BadFrames) = refl
refusal_told TooLarge = refl
refusal_told NotAllowed = refl
refusal_told Unreadable = refl
refusal_told OutOfRange = refl
refusal_told UnknownSocket = refl
refusal_told OtherPipe = refl
refusal_told OtherFormat = refl
refusal_told AboveOffer = refl
refusal_told Unmatched = refl

answer_told : (answer : Answer) → answer_by (answer_as answer) ≡ answer
answer_told (Heard heard) = refl
answer_told (Stays refusal) = ap Stays (refusal_told refusal)
answer_told (Closes refusal) = ap Closes (refusal_told refusal)

pub numbers_tell_all : NumbersTellAll
numbers_tell_all received = λ i. record { answer = answer_told received.answer i; next = received.next; reply = received.reply }

-- two answers that are one by number are one
pub answer_once : {one other : Answer} → answer_as one ≡ answer_as other → one ≡ other
answer_once {one} {other} same = sym (answer_told one) ∙ ap answer_by same ∙ answer_told other

pub received_once : {one other : Received} → received_as one ≡ received_as other → one ≡ other
received_once {one} {other} same = sym (numbers_tell_all one) ∙ ap received_by same ∙ numbers_tell_all other
