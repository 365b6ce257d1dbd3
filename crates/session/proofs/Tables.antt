-- The tables have the laws: an OPEN for what is not offered is refused by 21 or 22, and all else is as in `Packets` and `Taking`. Assumes nothing.
use Rattle.std.specs.Prelude.{Err}
use mathlib.Core.Path.{◌≡◌, ◌∙◌, refl, ap, subst, sym}
use Prim.Native.Nat.{ℕ, ◌<◌, ◌^◌, ◌≤◌}
use mathlib.Core.List.{List}
use mathlib.Core.Bool.{Bool, true, false, not, ◌&&◌, ◌||◌}
use lib.ListN.{length}
use lib.Dec.{eqb, lit<}
use borrow.Author.Tests.{eq-eqb, le-ltb, lt-ltb}
use native.Mathlib.Omega.{arith}
use Rattle.bytes_be.specs.Part.{same}
use Rattle.bytes_be.proofs.Tests.{both_true, clash}
use Rattle.control.specs.declared.MessageType.TheVariants.{Open}
use Rattle.open.specs.declared.Opening.{Opening}
use Rattle.open.specs.declared.Refusal.{Refusal}
use Rattle.open.specs.declared.Refusal.TheVariants.{OtherPipe, OtherFormat}
use Rattle.open.specs.Offer.{Offer}
use Rattle.open.specs.Open.{offered_socket, open_number}
use Rattle.open_write.specs.Frame.{socket_of}
use Rattle.open_write.specs.Round.{answer_to}
use Rattle.open_write.proofs.Round.{read_back}
use Rattle.endpoint.specs.declared.Endpoint.{Endpoint}
use Rattle.endpoint.specs.Record.{entry_at, shut, fresh_of}
use Rattle.endpoint.proofs.Made.{made_accepted}
use Rattle.endpoint.proofs.Told.{good_told}
use Rattle.table.specs.Table.{other}
use Rattle.receiving.specs.Hearing.{carried_by, forbidden, hear_content, hear_message, hear_of, open_at}
use Rattle.receiving.specs.Refusing.{close_code, refused, silent, unchanged}
use Rattle.sending.specs.Calls.{OPEN, outgoing, written, Call}
use Rattle.sending.proofs.Decided.{accepted_passed, passed_accepted}
use Rattle.machine.proofs.Round.{reads_back, well_given}
use Rattle.machine.proofs.Rows.{closed_sound, row_alive}
use Rattle.machine.specs.Programs.{outcome_of, Making, AsClient, AsServer, fresh_by}
use Rattle.bytes_be.proofs.Parts.{length_tabulate}
use Rattle.receiving.specs.Numbers.{Received}
use Rattle.receiving.specs.Receiving.{received_of}
use Rattle.sending.specs.Sending.{Sent, is_full, send_of, send_row}
use Rattle.machine.specs.Good.{Fits, Sound}
use Rattle.machine.proofs.Refusals.{refused_send_stays}
use Rattle.session.specs.World.{Makings, Side}
use Rattle.session.specs.Demand.{MayAnswer, other_pipe, other_format, prompt_ledger, nothing_due, FreshRecords}
use Rattle.session.specs.Laws.{MayRefuse, on_records, OpenRefused, MayCall, HeardOn, TablesLaws}
use Rattle.session.specs.Packets.{bytes_in}
use Rattle.session.proofs.Taking.{call_leads, call_small, packet_taken}
use Rattle.session.proofs.Ends.{fresh_sound}
use Rattle.session.proofs.Packets.{sent_on}

-- ---- what it is answered

either_fails : (a b : Bool) → a && b ≡ false → not a || not b ≡ true
either_fails true b fails = simp fails
either_fails false b fails = refl

both_fail : (a b : Bool) → a || b ≡ false → not a && not b ≡ true
both_fail true b fails = clash cc
both_fail false b fails = simp fails

module _ (flow : ℕ) (asked : Offer) (opening : Opening) (serverFlow : ℕ) (pipe : Offer) where
  -- 21 for another name or socket
  pipe_refused : same asked.name pipe.name && eqb (socket_of flow) (offered_socket serverFlow) ≡ false
      → answer_to flow asked opening serverFlow pipe ≡ Err OtherPipe
  unfolding answer_to
  pipe_refused differs = simp (either_fails (same asked.name pipe.name) (eqb (socket_of flow) (offered_socket serverFlow)) differs)

  -- 22 for another format
  format_refused : same asked.name pipe.name && eqb (socket_of flow) (offered_socket serverFlow) ≡ true
      → eqb (length asked.format) 0 || same asked.format pipe.format ≡ false
      → answer_to flow asked opening serverFlow pipe ≡ Err OtherFormat
  unfolding answer_to
  format_refused agrees differs =
      let named = both_true (same asked.name pipe.name) (eqb (socket_of flow) (offered_socket serverFlow)) agrees in
      simp (named.0, named.1, both_fail (eqb (length asked.format) 0) (same asked.format pipe.format) differs)

-- ---- what a server does

module _ (makings : Makings) (x y : Side Endpoint) (e : Endpoint) (asked pipe : Offer)
    (refusable : MayRefuse on_records.rules makings x y e asked pipe) where
  abbrev r : Endpoint
  r = x.self

  abbrev s : List ℕ
  s = written e (OPEN asked)

  -- what refuses the frame refuses the message
  frame_refused : (refusal : Refusal)
      → ((opening : Opening) → answer_to e.flow asked opening r.flow pipe ≡ Err refusal)
      → hear_of r s pipe ≡ refused r (open_number (Err refusal)) 1
  unfolding hear_of hear_message hear_content forbidden carried_by open_at
  frame_refused refusal answers =
      let call = OPEN asked in
      let made = refusable.accepted in
      let passed = accepted_passed e (outgoing e call) made.accepted.room made.accepted.accepted in
      let back = reads_back e call made.fits made.accepted.room made.accepted.accepted in
      let given = well_given asked passed.unrefused in
      let read = read_back e.flow asked e.limit given (good_told e passed.is-good).bounded s 18 back.framed in
      let heard = read.heard r.flow pipe ∙ answers read.opening in
      let small = call_small r refusable.sound e call passed.unrefused (λ bears. clash cc) in
      let leads = call_leads e call r refusable.phase refusable.n refusable.leads in
      let alive = row_alive (other r.role) (other r.flow) r.phase r.n Open 0 refusable.phase refusable.n refusable.leads in
      simp (alive, back.read, small, leads, heard)

  abbrev pub RefusedBy : Type 0
  RefusedBy = OpenRefused on_records x y s pipe (outcome_of s (hear_of r s pipe))

  -- and then it closes, and says so
  closes_by : (number code : ℕ) → hear_of r s pipe ≡ refused r number 1 → eqb number 0 ≡ false → silent r number 1 ≡ false
      → close_code r number 1 ≡ code → code < 256 ^ 2 → MayAnswer x y s pipe number → RefusedBy
  unfolding refused
  closes_by number code heard differs speaks coded small may =
      record {
        may = simp heard may;
        refused = simp heard differs;
        told = simp heard;
        code = code;
        replied = simp (heard, speaks, coded);
        fine = simp heard (closed_sound r refusable.sound);
        after = simp heard;
        small = small;
      }

  -- the bytes are those of the writer as it is now, which has the flow and the limit that it had
  as_written : s ≡ written y.self (OPEN asked)
  as_written = rw (refusable.same_flow, refusable.same_limit) refl

  pub open_refused : RefusedBy
  unfolding silent close_code
  open_refused = go (same asked.name pipe.name && eqb (socket_of e.flow) (offered_socket r.flow)) refl
    where
      go : (t : Bool) → same asked.name pipe.name && eqb (socket_of e.flow) (offered_socket r.flow) ≡ t → RefusedBy
      go true agrees =
          let format_differs : eqb (length asked.format) 0 || same asked.format pipe.format ≡ false = simp agrees at refusable.differs in
          closes_by 22 103
          (frame_refused OtherFormat (λ opening. format_refused e.flow asked opening r.flow pipe agrees format_differs))
          refl (simp refusable.serves) refl (lit< tt)
          (other_format asked as_written format_differs)
      go false pipe-differs =
          closes_by 21 100
          (frame_refused OtherPipe (λ opening. pipe_refused e.flow asked opening r.flow pipe pipe-differs))
          refl (simp refusable.serves) refl (lit< tt)
          (other_pipe asked as_written (rw refusable.same_flow pipe-differs))

-- a receive of a good record hears the message, or has no room for a reply
module _ (e : Endpoint) (sound : Sound e) (s : List ℕ) (pipe : Offer) (room : ℕ) where
  received_heard : 14 ≤ room → received_of e s pipe room ≡ hear_of e s pipe
  unfolding received_of
  received_heard enough = simp (sound.is-good, le-ltb room 14 enough)

  received_short : room < 14 → received_of e s pipe room ≡ unchanged e 2
  unfolding received_of
  received_short short = simp (sound.is-good, lt-ltb room 14 short)

  -- a closed end changes nothing, and what it answers is 3
  received_late : 14 ≤ room → e.phase ≡ shut → received_of e s pipe room ≡ unchanged e 3
  unfolding hear_of
  received_late enough is-shut = received_heard enough ∙ simp (eq-eqb e.phase shut is-shut)

-- a call that no test refuses is accepted where the output has room
may_sent : (e : Endpoint) (call : Call) → MayCall e call → Fits call → (room : ℕ) → length (written e call) ≤ room
    → (send_of e call room).number ≡ 0
unfolding send_row is_full
may_sent e call may fits room enough =
    passed_accepted e (outgoing e call) room
    (record {
      is-good = may.sound.is-good;
      alive = may.alive;
      allowed = simp may.leads;
      below = simp may.leads;
      awaits = simp may.askless;
      unrefused = may.unrefused;
      fits = enough;
    })

-- a making that is accepted leaves a fresh endpoint, which awaits nothing and owes nothing

pub fresh_due : (making : Making) → prompt_ledger (fresh_by making) ≡ nothing_due
unfolding fresh_of
fresh_due (AsClient flow limit) = refl
fresh_due (AsServer flow) = refl

pub fresh_records : FreshRecords
fresh_records making given = record { given = given; holds = refl; none_due = fresh_due making }

pub tables_laws : TablesLaws
unfolding unchanged
tables_laws =
    record {
      begins = λ e making fresh. subst Sound (sym fresh.holds) (fresh_sound making fresh.given);
      makes = λ e making accepts.
          let made = made_accepted (fresh_by making) accepts in
          record { given = made.0; holds = rw made.1 refl; none_due = rw made.1 (fresh_due making) };
      moves = λ e call room sound fits number. sent_on e call room sound fits number;
      stays = λ e call room sound fits refused. ap (λ (s : Sent). s.next) (refused_send_stays e call room refused);
      hears = λ makings end e m pipe room phase n rest sound enough may.
          subst (λ (received : Received). HeardOn on_records e (prompt_ledger e) m phase n rest (outcome_of (bytes_in m) received))
          (sym (received_heard e may.sound (bytes_in m) pipe room enough))
          (packet_taken makings end e pipe phase n rest m may);
      refuses = λ makings x y e asked pipe room sound enough may.
          let s : List ℕ = written e (OPEN asked) in
          subst (λ (received : Received). OpenRefused on_records x y s pipe (outcome_of s received))
          (sym (received_heard x.self may.sound s pipe room enough))
          (open_refused makings x y e asked pipe may);
      late = λ e m pipe room sound enough is-shut.
          ap (outcome_of m.bytes) (received_late e sound m.bytes pipe room enough is-shut);
      short = λ e m pipe room sound short. ap (outcome_of m.bytes) (received_short e sound m.bytes pipe room short);
      bounded = λ e sound line. omega (arith, (good_told e sound.is-good).waits, length_tabulate (entry_at e.entries) 0 e.w);
      recorded = λ e sound. refl;
      lines = record { none = λ line. refl; reports = λ entries. refl };
      sends = λ e call sound may fits room enough. (may_sent e call may fits room enough, refl);
    }
