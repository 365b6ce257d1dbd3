-- What holds of every message that a stage lets pass holds of every message that is read, and every refusal is one of 10 to 15. Assumes nothing.
use Rattle.std.proofs.Common.{◌≡◌, refl, ℕ, ◌-◌, ◌≤◌, List, arith}
use Rattle.std.specs.Prelude.{Bool, true, false, cond, Result, Ok, Err}
use Rattle.bytes_be.specs.Part.{part_at}
use Rattle.numbered.specs.Numbered.{if_passed}
use Rattle.bundle.specs.declared.Contents.{Contents}
use Rattle.bundle.specs.Reading.{contents_of}
use Rattle.control.specs.declared.MessageType.{MessageType}
use Rattle.control.specs.declared.Signed.{Signed}
use Rattle.control.specs.declared.Refusal.TheVariants.{BadSignature, OtherVersion, UnknownType}
use Rattle.control.specs.Frame.{type_in, signed_of, version_of, known_type_of}
use Rattle.message.specs.declared.Message.{Message}
use Rattle.message.specs.declared.Reason.{Reason}
use Rattle.message.specs.declared.Reason.TheVariants.{BadBundle, Control, BadFlags, BadFrames}
use Rattle.message.specs.declared.Refusal.{Refusal}
use Rattle.message.specs.Reading.{bad_flags, bad_frames, body_of, read_as, reading_of, reason_number, refusal_number, refused}

-- the numbers that refuse a message while it is read
abbrev pub WhileReading : ℕ → Type 0
WhileReading number = (10 ≤ number) × (number ≤ 15)

pub reason_numbered : (why : Reason) → WhileReading (reason_number why)
reason_numbered BadBundle = (omega arith, omega arith)
reason_numbered (Control BadSignature) = (omega arith, omega arith)
reason_numbered (Control OtherVersion) = (omega arith, omega arith)
reason_numbered (Control UnknownType) = (omega arith, omega arith)
reason_numbered BadFlags = (omega arith, omega arith)
reason_numbered BadFrames = (omega arith, omega arith)

-- what holds of a message, of a reading; a refusal has one of those numbers
abbrev pub OfMessage : (Message → Type 0) → Result Message (Refusal Reason) → Type 0
OfMessage Holds (Ok m) = Holds m
OfMessage Holds (Err refusal) = WhileReading (refusal_number refusal)

module _ (Holds : Message → Type 0) where
  by_stage : {T E : Type 0} (x : Result T E) (why : Reason) (said : ℕ) → (next : T → Result Message (Refusal Reason)) → ((answer : T) → x ≡ Ok answer → OfMessage Holds (next answer))
      → OfMessage Holds (if_passed x (refused why said) next)
  by_stage (Ok answer) why said next h = h answer refl
  by_stage (Err bad) why said next h = reason_numbered why

  by_test : (fails : Bool) (why : Reason) (said : ℕ) → (next : Result Message (Refusal Reason)) → (fails ≡ false → OfMessage Holds next) → OfMessage Holds (cond fails (refused why said) next)
  by_test true why said next h = reason_numbered why
  by_test false why said next h = h refl

  -- every message that is read has the flags and the type-data of a frame that is signed, as many data frames as its type and flags allow, and
  -- the body that they say
  pub by_stages : (s : List ℕ)
      → ((contents : Contents) (signed : Signed) (message : MessageType) → contents_of s ≡ Ok contents → signed_of (part_at s contents.control) ≡ Ok signed
      → bad_frames message signed.flags (contents.count - 1) ≡ false
      → Holds (record { message = message; flags = signed.flags; type_data = signed.type_data; frames = contents.count - 1; size = contents.size; body = body_of s message signed.flags }))
      → OfMessage Holds (reading_of s)
  unfolding reading_of read_as
  by_stages s holds =
      by_stage (contents_of s) BadBundle 0 _ (λ contents counted.
      by_stage (signed_of (part_at s contents.control)) (Control BadSignature) 0 _ (λ signed is_signed.
      by_stage (version_of signed.control_byte) (Control OtherVersion) (type_in signed.control_byte) _ (λ said versioned.
      by_stage (known_type_of said) (Control UnknownType) said _ (λ message known.
      by_test (bad_flags message signed.flags) BadFlags said _ (λ flagged.
      by_test (bad_frames message signed.flags (contents.count - 1)) BadFrames said _ (λ framed.
      holds contents signed message counted is_signed framed))))))
