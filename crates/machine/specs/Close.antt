-- "A CLOSE that passes 10..13 is heard in phases 1 to 4 whatever its flags, frames or size. Phase becomes 5; n, W and entries zero. No reply. In
-- phase 0 it is refused as 17, none of 14..16 being tested."
use Rattle.std.specs.Prelude.{ℕ, ◌-◌, ◌≤◌, ◌≡◌, List, cond, eqb, Ok, None}
use Rattle.bytes_be.specs.declared.Place.{Place}
use Rattle.bytes_be.specs.Part.{part_at}
use Rattle.bundle.specs.Reading.{contents_of}
use Rattle.control.specs.declared.MessageType.TheVariants.{Close}
use Rattle.control.specs.Frame.{type_of, signed_of, version_of}
use Rattle.open.specs.Offer.{Offer}
use Rattle.endpoint.specs.declared.Endpoint.{Endpoint}
use Rattle.endpoint.specs.Record.{fresh, shut, closed}
use Rattle.receiving.specs.declared.Content.TheVariants.{Nothing}
use Rattle.receiving.specs.Numbers.{Answer, Heard as Answer-as-Heard, Closes, Received}
use Rattle.receiving.specs.Hearing.{hear_of}
use Rattle.receiving.specs.Refusing.{unchanged}

-- bytes that pass 10, 11, 12 and 13, and are of type 5; nothing is asked of flags, frames and size
pub record PassesAsClose (s : List ℕ) : Type 0 where
  pub count : ℕ
  pub control : Place
  pub size : ℕ
  pub bundled : contents_of s ≡ Ok (record { count = count; control = control; size = size })
  pub byte : ℕ
  pub flags : ℕ
  pub type-data : ℕ
  pub signed : signed_of (part_at s control) ≡ Ok (record { control_byte = byte; flags = flags; type_data = type-data })
  pub version_one : version_of byte ≡ Ok (type_of Close)

-- "Phase becomes 5; n, W and entries zero. No reply."
abbrev pub closing : Endpoint → Answer → Received
closing e answer = record { answer = answer; next = closed e; reply = None }

-- "Heard with any message are its type, flags and type-data."
abbrev pub heard_close : {s : List ℕ} → PassesAsClose s → Answer
heard_close passes =
    Answer-as-Heard
    (record { message = Close; flags = passes.flags; type_data = passes.type-data; frames = passes.count - 1; content = Nothing })

-- "In phase 0 it is refused as 17", and "nor is one written to a type-5 message refused as 17"; phase 5 is 3; and else it is "heard in phases 1 to 4"
abbrev pub close_of : {s : List ℕ} → Endpoint → PassesAsClose s → Received
close_of e passes =
    cond (eqb e.phase fresh) (closing e (Closes 17))
    (cond (eqb e.phase shut) (unchanged e 3)
    (closing e (heard_close passes)))

-- at every end that is in a phase, whatever it offers
abbrev pub CloseWhole : Type 0
CloseWhole = (e : Endpoint) → e.phase ≤ shut → (s : List ℕ) (passes : PassesAsClose s) (pipe : Offer) → hear_of e s pipe ≡ close_of e passes
