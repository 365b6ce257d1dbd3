-- What an end that may hear a message makes of it, and of an OPEN that asks for what is offered. Assumes nothing.
use Rattle.std.specs.Prelude.{Ok}
use mathlib.Core.Path.{◌≡◌, refl}
use Prim.Native.Nat.{ℕ}
use mathlib.Core.List.{List}
use mathlib.Core.Bool.{Bool, ◌&&◌, ◌||◌, false, not, true}
use lib.Dec.{eqb}
use lib.ListN.{length}
use Rattle.bytes_be.specs.Part.{same}
use Rattle.bytes_be.proofs.Tests.{both_true, clash}
use Rattle.open.specs.Offer.{Offer}
use Rattle.open.specs.declared.Opening.{Opening}
use Rattle.open.specs.Open.{offered_socket}
use Rattle.open_write.specs.Frame.{socket_of}
use Rattle.open_write.specs.Round.{answer_to}
use Rattle.message.specs.declared.Message.{Message}
use Rattle.message.specs.Reading.{reading_of}
use Rattle.endpoint.specs.declared.Endpoint.{Endpoint}
use Rattle.endpoint.specs.Record.{shut}
use Rattle.table.specs.Table.{To, other}
use Rattle.receiving.specs.declared.Content.{Content}
use Rattle.receiving.specs.Hearing.{accepted, forbidden, hear_content, hear_message, hear_of, hear_row, too_large, carried_by, unmatched, moves_as}
use Rattle.machine.proofs.Rows.{row_alive}

module _ (r : Endpoint) (m : Message) (phase n : ℕ) (leads : hear_row r m ≡ To phase n) where
  alive : eqb r.phase shut ≡ false
  unfolding hear_row
  alive = row_alive (other r.role) (other r.flow) r.phase r.n (moves_as m.message m.flags) m.type_data phase n leads

  -- a message that none of the tests refuses is accepted
  pub message_heard : (s : List ℕ) (pipe : Offer) (content : Content) → reading_of s ≡ Ok m → too_large r m ≡ false → carried_by r s pipe m ≡ Ok content →
      unmatched r m ≡ false → hear_of r s pipe ≡ accepted r m (To phase n) content
  unfolding hear_of hear_message hear_content forbidden
  message_heard s pipe content read small carried matched = simp (alive, read, small, leads, carried, matched)

-- what is offered is not refused

one_true : (a b : Bool) → a || b ≡ true → not a && not b ≡ false
one_true true b e = refl
one_true false true e = refl
one_true false false e = clash cc

pub offered_heard : (flow : ℕ) (asked : Offer) (opening : Opening) (serverFlow : ℕ) (pipe : Offer) →
    same asked.name pipe.name && eqb (socket_of flow) (offered_socket serverFlow) && (eqb (length asked.format) 0 || same asked.format pipe.format) ≡ true →
    answer_to flow asked opening serverFlow pipe ≡ Ok opening
unfolding answer_to
offered_heard flow asked opening serverFlow pipe offers =
    let all = both_true (same asked.name pipe.name && eqb (socket_of flow) (offered_socket serverFlow)) (eqb (length asked.format) 0 || same asked.format pipe.format) offers in
    let named = both_true (same asked.name pipe.name) (eqb (socket_of flow) (offered_socket serverFlow)) all.0 in
    simp (named.0, named.1, one_true (eqb (length asked.format) 0) (same asked.format pipe.format) all.1)
