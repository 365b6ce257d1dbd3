-- Reading a control frame gives back what was written, and a frame that is read is written again as it was. Assumes nothing.
use mathlib.Core.Path.{◌≡◌, refl, sym, ap, ◌∙◌}
use mathlib.Core.List.{List, [], ◌∷◌, ◌++◌}
use mathlib.Core.Bool.{Bool, true, false, ◌&&◌, cond}
use Prim.Native.Nat.{ℕ, ◌+◌, ◌*◌, ◌/◌, ◌%◌, ◌≤◌, ◌<◌}
use native.Mathlib.Omega.{arith}
use lib.Dec.{eqb}
use lib.ListN.{length}
use lib.Seq.{take_all}
use borrow.Author.Tests.{eqb-true}
use Rattle.bytes_be.specs.Part.{part}
use Rattle.bytes_be.specs.Number.{from_bytes, from_bytes_behind, number_at, to_bytes}
use Rattle.bytes_be.proofs.Tests.{both_true, clash, took_first}
use Rattle.bytes_be.proofs.Parts.{part_then}
use Rattle.bytes_be.proofs.Numbers.{Bytes, bytes_there, number_below}
use Rattle.control.specs.Frame.{signature, version, type_of, control_byte, type_in, version_in, signed_of, version_of, known_type_of, control_of, bytes_of}
use Rattle.control.specs.declared.MessageType.{MessageType}
use Rattle.control.specs.declared.MessageType.TheVariants.{Open, Ready, Noop, Data, Close}
use Rattle.control.specs.declared.Signed.{Signed}
use Rattle.control.specs.declared.Control.{Control}
use Rattle.control.specs.declared.Refusal.{Refusal}
use Rattle.numbered.specs.Numbered.{if_passed}
use Rattle.std.specs.Prelude.{Result, Ok, Err}
use Rattle.std.proofs.lemmas.Result.{IfOk-at_ok}

pub type_few : (message : MessageType) → type_of message ≤ 5
type_few Open = omega arith
type_few Ready = omega arith
type_few Noop = omega arith
type_few Data = omega arith
type_few Close = omega arith

-- each stage passes what was written

pub version_back : (type : ℕ) → version_of (control_byte type) ≡ Ok type
unfolding version_of
version_back type =
    let low : version_in (control_byte type) ≡ version = omega arith in
    let high : type_in (control_byte type) ≡ type = omega arith in
    simp (low, high)

pub known_back : (message : MessageType) → known_type_of (type_of message) ≡ Ok message
unfolding known_type_of
known_back Open = refl
known_back Ready = refl
known_back Noop = refl
known_back Data = refl
known_back Close = refl

pub signed_back : (message : MessageType) (flags type-data : ℕ) → type-data < 65536 → signed_of (bytes_of message flags type-data) ≡ Ok (record { control_byte = control_byte (type_of message); flags = flags; type_data = type-data })
unfolding signed_of bytes_of to_bytes number_at from_bytes from_bytes_behind
signed_back message flags type-data h =
    let control : 0 + control_byte (type_of message) ≡ control_byte (type_of message) = omega arith in
    let flagged : 0 + flags ≡ flags = omega arith in
    let last : (0 + type-data / 256 % 256) * 256 + type-data % 256 ≡ type-data = omega arith in
    λ i. Ok (record { control_byte = control i; flags = flagged i; type_data = last i })

-- a control frame has 8 bytes
pub length_control : (message : MessageType) (flags type-data : ℕ) → length (bytes_of message flags type-data) ≡ 8
unfolding bytes_of to_bytes
length_control message flags type-data = refl

-- what was written is read
pub control_back : (message : MessageType) (flags type-data : ℕ) → type-data < 65536 → control_of (bytes_of message flags type-data) ≡ Ok (record { message = message; flags = flags; type_data = type-data })
unfolding control_of
control_back message flags type-data h = simp (signed_back message flags type-data h, version_back (type_of message), known_back message)

-- what a stage says that was passed

refused_passed : {T : Type 0} {why : Refusal} {answer : T} → ◌≡◌ {A = Result T Refusal} (Err why) (Ok answer) → ⊥
refused_passed e = clash cc

known_here : (n : ℕ) (message here : MessageType) {rest : Result MessageType Refusal} → (rest ≡ Ok message → n ≡ type_of message) →
    cond (eqb n (type_of here)) (Ok here) rest ≡ Ok message → n ≡ type_of message
known_here n message here {rest} next e = go (eqb n (type_of here)) refl e
  where
    go : (t : Bool) → eqb n (type_of here) ≡ t → cond t (Ok here) rest ≡ Ok message → n ≡ type_of message
    go true same found = let it : here ≡ message = cc in eqb-true n (type_of here) same ∙ ap type_of it
    go false other found = next found

known_told : (n : ℕ) (message : MessageType) → known_type_of n ≡ Ok message → n ≡ type_of message
unfolding known_type_of
known_told n message =
    known_here n message Open
    (known_here n message Ready
    (known_here n message Noop
    (known_here n message Data
    (known_here n message Close
    (λ none. absurd (refused_passed none))))))

version_told : (control n : ℕ) → version_of control ≡ Ok n → control ≡ control_byte n
unfolding version_of
version_told control n e =
    let one = took_first (eqb (version_in control) version) refused_passed e in
    let high : type_in control ≡ n = IfOk-at_ok (λ x. type_in control ≡ x) one.1 refl in
    omega (arith, eqb-true (version_in control) version one.0)

-- a stage that is not the one that refuses was passed
passed : {T : Type 0} (stage : Result T Refusal) (why : Refusal) (next : T → Result Control Refusal) {control : Control} → if_passed stage (Err why) next ≡ Ok control →
    (answer : T) × (stage ≡ Ok answer) × (next answer ≡ Ok control)
passed (Ok answer) why next e = (answer, refl, e)
passed (Err why) refused next e = clash cc

-- what is known of a frame that is read
pub record Told (s : List ℕ) (control : Control) : Type 0 where
  pub long : length s ≡ 8
  pub signed : number_at 4 s 0 ≡ from_bytes signature
  pub said : number_at 1 s 4 ≡ control_byte (type_of control.message)
  pub flagged : number_at 1 s 5 ≡ control.flags
  pub ended : number_at 2 s 6 ≡ control.type_data

-- the fields of a frame
abbrev fields_of : List ℕ → Signed
fields_of s = record { control_byte = number_at 1 s 4; flags = number_at 1 s 5; type_data = number_at 2 s 6 }

gathered : (s : List ℕ) {signed : Signed} {n : ℕ} {message : MessageType} → length s ≡ 8 → number_at 4 s 0 ≡ from_bytes signature → fields_of s ≡ signed →
    signed.control_byte ≡ control_byte n → n ≡ type_of message → Told s (record { message = message; flags = signed.flags; type_data = signed.type_data })
gathered s long signed fields one known =
    record {
      long = long;
      signed = signed;
      said = ap (λ (x : Signed). x.control_byte) fields ∙ one ∙ ap control_byte known;
      flagged = ap (λ (x : Signed). x.flags) fields;
      ended = ap (λ (x : Signed). x.type_data) fields;
    }

pub control_told : (s : List ℕ) (control : Control) → control_of s ≡ Ok control → Told s control
unfolding control_of signed_of
control_told s control e =
    let signed = passed (signed_of s) _ _ e in
    let versioned = passed (version_of signed.0.control_byte) _ _ signed.2 in
    let known = passed (known_type_of versioned.0) _ _ versioned.2 in
    let taken = took_first (eqb (length s) 8 && eqb (number_at 4 s 0) (from_bytes signature)) refused_passed signed.1 in
    let tests = both_true (eqb (length s) 8) (eqb (number_at 4 s 0) (from_bytes signature)) taken.0 in
    let fields = IfOk-at_ok (λ x. fields_of s ≡ x) taken.1 refl in
    IfOk-at_ok (Told s) known.2
    (gathered s (eqb-true _ _ tests.0) (eqb-true _ _ tests.1) fields (version_told _ _ versioned.1) (known_told _ _ known.1))

-- a frame of 8 bytes is its four fields
four_fields : (s : List ℕ) → Bytes s → length s ≡ 8 →
    to_bytes 4 (number_at 4 s 0) ++ to_bytes 1 (number_at 1 s 4) ++ to_bytes 1 (number_at 1 s 5) ++ to_bytes 2 (number_at 2 s 6) ≡ s
four_fields s bytes long =
    let there : (width at : ℕ) → at + width ≤ 8 → to_bytes width (number_at width s at) ≡ part s at width =
    λ width at inside. bytes_there width s at bytes (omega arith) in
    simp (
      there 4 0 (omega arith),
      there 1 4 (omega arith),
      there 1 5 (omega arith),
      there 2 6 (omega arith),
      part_then s 0 4 1 4 refl,
      part_then s 0 5 1 5 refl,
      part_then s 0 6 2 6 refl,
    )
    (take_all 8 s (omega arith))

-- what is read, written again, is the same frame
pub bytes_back : (s : List ℕ) (control : Control) → Bytes s → control_of s ≡ Ok control → bytes_of control.message control.flags control.type_data ≡ s
unfolding bytes_of to_bytes from_bytes from_bytes_behind
bytes_back s control bytes e =
    let told = control_told s control e in
    let signed : signature ≡ to_bytes 4 (number_at 4 s 0) = ap (to_bytes 4) (sym told.signed) in
    let said : control_byte (type_of control.message) ≡ number_at 1 s 4 % 256 = omega (arith, told.said, type_few control.message) in
    let flagged : control.flags ≡ number_at 1 s 5 % 256 = omega (arith, told.flagged, number_below 1 s 5 bytes) in
    (λ i. signed i ++ (said i ∷ []) ++ (flagged i ∷ []) ++ to_bytes 2 (sym told.ended i)) ∙ four_fields s bytes told.long
