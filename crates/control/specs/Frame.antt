-- "Frame 1 is the control frame, exactly 8 bytes: 46 42 44 50; control byte = 8 x type + version; flags; type-data (2 bytes)."
use Rattle.std.specs.Prelude.{ℕ, ◌+◌, ◌*◌, ◌/◌, ◌%◌, List, [], ◌∷◌, ◌++◌, ◌&&◌, cond, length, eqb, Result, Ok, Err}
use Rattle.bytes_be.specs.Number.{from_bytes, number_at, to_bytes}
use Rattle.control.specs.declared.MessageType.{MessageType}
use Rattle.control.specs.declared.MessageType.TheVariants.{Open, Ready, Noop, Data, Close}
use Rattle.control.specs.declared.Signed.{Signed}
use Rattle.control.specs.declared.Control.{Control}
use Rattle.control.specs.declared.Refusal.{Refusal}
use Rattle.control.specs.declared.Refusal.TheVariants.{BadSignature, OtherVersion, UnknownType}
use Rattle.numbered.specs.Numbered.{if_passed, number_of as number_by}

-- "46 42 44 50"
abbrev pub signature : List ℕ
signature = 0x46 ∷ 0x42 ∷ 0x44 ∷ 0x50 ∷ []

-- "Here the version is 1"
abbrev pub version : ℕ
version = 1

-- "Types: OPEN 1, READY 2, NOOP 3, DATA 4, CLOSE 5."
abbrev pub type_of : MessageType → ℕ
type_of Open = 1
type_of Ready = 2
type_of Noop = 3
type_of Data = 4
type_of Close = 5

-- "Flags: ACK-REQUEST 1, ACK-REPLY 2."
abbrev pub ack_request : ℕ
ack_request = 1

abbrev pub ack_reply : ℕ
ack_reply = 2

-- "control byte = 8 x type + version": the byte, and the type and the version that a byte says
abbrev pub control_byte : ℕ → ℕ
control_byte type = 8 * type + version

abbrev pub type_in : ℕ → ℕ
type_in byte = byte / 8

abbrev pub version_in : ℕ → ℕ
version_in byte = byte % 8

-- 11: "control frame not 8 bytes, or wrong signature"
unfoldable pub signed_of : List ℕ → Result Signed Refusal
signed_of s =
    cond (eqb (length s) 8 && eqb (number_at 4 s 0) (from_bytes signature))
    (Ok (record { control_byte = number_at 1 s 4; flags = number_at 1 s 5; type_data = number_at 2 s 6 }))
    (Err BadSignature)

-- 12: "version not 1"
unfoldable pub version_of : ℕ → Result ℕ Refusal
version_of byte = cond (eqb (version_in byte) version) (Ok (type_in byte)) (Err OtherVersion)

-- 13: "type 0 or 6..31"
unfoldable pub known_type_of : ℕ → Result MessageType Refusal
known_type_of type =
    cond (eqb type 1) (Ok Open)
    (cond (eqb type 2) (Ok Ready)
    (cond (eqb type 3) (Ok Noop)
    (cond (eqb type 4) (Ok Data)
    (cond (eqb type 5) (Ok Close)
    (Err UnknownType)))))

-- a control frame as it is read: the first of the three refusals that applies, else its type, flags and type-data
unfoldable pub control_of : List ℕ → Result Control Refusal
control_of s =
    if_passed (signed_of s) (Err BadSignature) (λ signed.
    if_passed (version_of signed.control_byte) (Err OtherVersion) (λ type.
    if_passed (known_type_of type) (Err UnknownType) (λ message.
    Ok (record { message = message; flags = signed.flags; type_data = signed.type_data }))))

-- the numbers 11, 12 and 13
abbrev pub refusal_number : Refusal → ℕ
refusal_number BadSignature = 11
refusal_number OtherVersion = 12
refusal_number UnknownType = 13

-- the number of the answer, and of each stage's
abbrev pub number_of : {T : Type 0} → Result T Refusal → ℕ
number_of = number_by refusal_number

-- a control frame as it is written
unfoldable pub bytes_of : MessageType → ℕ → ℕ → List ℕ
bytes_of message flags type-data = signature ++ (control_byte (type_of message) ∷ flags ∷ []) ++ to_bytes 2 type-data
