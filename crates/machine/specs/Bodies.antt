-- C-12: "a missing body is heard as such, apart from an empty one": the body of a message that was read, and of one that is heard.
use Rattle.std.specs.Prelude.{ℕ, ◌≡◌, List, Bool, not, ◌&&◌, eqb, Option, Some, None}
use Rattle.bytes_be.specs.Part.{part_at}
use Rattle.control.specs.declared.MessageType.TheVariants.{Data}
use Rattle.control.specs.Frame.{type_of}
use Rattle.bytes_be.specs.declared.Place.{Place}
use Rattle.open.specs.Offer.{Offer}
use Rattle.endpoint.specs.declared.Endpoint.{Endpoint}
use Rattle.receiving.specs.declared.Content.{Content}
use Rattle.receiving.specs.declared.Content.TheVariants.{Nothing, Opening, Body as Content-as-Body}
use Rattle.receiving.specs.declared.Heard.{Heard}
use Rattle.receiving.specs.Numbers.{Heard as Answer-as-Heard}
use Rattle.receiving.specs.Receiving.{received_of}
use Rattle.sending.specs.Calls.{Body, Missing, Given, is_missing}

-- the bytes at a place of the message, or none
abbrev pub body_at : List ℕ → Option Place → Body
body_at s None = Missing
body_at s (Some place) = Given (part_at s place)

-- "Heard too is the place of its body."
abbrev pub place_heard : Content → Option Place
place_heard Nothing = None
place_heard (Opening opening) = None
place_heard (Content-as-Body place) = Some place

abbrev pub body_heard : List ℕ → Content → Body
body_heard s content = body_at s (place_heard content)

-- by type and number of data frames: a DATA that is heard has a body where it has a data frame, and no other message has one
abbrev pub tells_body : ℕ → ℕ → Bool
tells_body message frames = eqb message (type_of Data) && not (eqb frames 0)

abbrev pub FramesTellBody : Type 0
FramesTellBody =
    (e : Endpoint) (s : List ℕ) (pipe : Offer) (room : ℕ) (heard : Heard) → (received_of e s pipe room).answer ≡ Answer-as-Heard heard
    → is_missing (body_heard s heard.content) ≡ not (tells_body (type_of heard.message) heard.frames)
