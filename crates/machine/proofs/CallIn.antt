-- The call is read off the bytes that it wrote. Assumes nothing.
use mathlib.Core.Path.{◌≡◌, ◌∙◌, ap, refl}
use Prim.Native.Nat.{ℕ}
use mathlib.Core.List.{List}
use mathlib.Core.Bool.{true}
use Rattle.bytes_be.specs.Part.{part_at}
use Rattle.open_write.proofs.Round.{read_back}
use Rattle.message.specs.Reading.{body_place}
use Rattle.endpoint.specs.declared.Endpoint.{Endpoint}
use Rattle.endpoint.specs.Record.{good}
use Rattle.endpoint.proofs.Told.{good_told}
use Rattle.sending.specs.Calls.{Body, Missing, Given, as_frames, Call, OPEN, READY, DATA, NOOP, CLOSE, outgoing, own_number, written}
use Rattle.sending.proofs.Decided.{accepted_passed}
use Rattle.machine.specs.Bodies.{body_at}
use Rattle.machine.specs.CallIn.{TheCall, call_of, call_read, open_read, CallsReadBack}
use Rattle.machine.specs.Round.{ReadBack, first_frame, message_sent, place_behind}
use Rattle.machine.proofs.Round.{own_flags, reads_back, well_given}

-- the body of the data frames that a body makes
body_of_sent : (s : List ℕ) (body : Body) → part_at s (body_place (place_behind (as_frames body))) ≡ first_frame (as_frames body) →
    body_at s (place_behind (as_frames body)) ≡ body
body_of_sent s Missing framed = refl
body_of_sent s (Given bytes) framed = ap Given framed

module _ (e : Endpoint) (is-good : good e ≡ true) where
  call_of_sent : (call : Call) → own_number e call ≡ 0 → ReadBack e call → call_of (message_sent e call).message (written e call) (message_sent e call) ≡ TheCall call
  call_of_sent (OPEN asked) own back =
      let read = read_back e.flow asked e.limit (well_given asked own) (good_told e is-good).bounded (written e (OPEN asked)) 18 back.framed in
      ap (open_read (written e (OPEN asked))) read.opened ∙ (λ i. TheCall (OPEN (record { name = read.named i; format = read.formatted i })))
  call_of_sent (READY count) own back = refl
  call_of_sent (DATA datum) own back =
      λ i. TheCall (DATA (record { type-data = datum.type-data; ask = (own_flags (DATA datum)).1 i; body = body_of_sent (written e (DATA datum)) datum.body back.framed i }))
  call_of_sent (NOOP type-data ask) own back = λ i. TheCall (NOOP type-data ((own_flags (NOOP type-data ask)).1 i))
  call_of_sent (CLOSE code) own back = refl

pub calls_read_back : CallsReadBack
calls_read_back e call fits room accepts =
    let passed = accepted_passed e (outgoing e call) room accepts in
    let back = reads_back e call fits room accepts in
    ap (call_read (written e call)) back.read ∙ simp (own_flags call).0 (call_of_sent e passed.is-good call passed.unrefused back)
