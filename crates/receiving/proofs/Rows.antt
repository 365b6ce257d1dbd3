-- What an end may hear by the words of document 01 is what the other end may send. Assumes nothing.
use mathlib.Core.Path.{◌≡◌, refl}
use Prim.Native.Nat.{ℕ, ◌≤◌}
use mathlib.Core.Bool.{Bool, true, false, cond, ◌&&◌}
use native.Mathlib.Omega.{arith}
use lib.Dec.{eqb, leb}
use borrow.Author.Tests.{eqb-false, eqb-true, leb-true}
use Rattle.std.specs.Prelude.{Result}
use Rattle.bytes_be.proofs.Tests.{both_true}
use Rattle.control.specs.declared.MessageType.{MessageType}
use Rattle.control.specs.declared.MessageType.TheVariants.{Open, Ready, Noop, Data, Close}
use Rattle.endpoint.specs.declared.Endpoint.{Endpoint}
use Rattle.endpoint.specs.Record.{client, server, producer, consumer, shut, capacity, good_flow, in_ranges}
use Rattle.table.specs.declared.Refusal.{Refusal}
use Rattle.table.specs.declared.Step.{Step}
use Rattle.table.specs.Table.{open_row, ready_row, data_row, noop_row, close_row, row_of, other}
use Rattle.receiving.specs.Hearing.{confirms, moves_as, hear_row}
use Rattle.receiving.specs.Rows.{open_heard, ready_at_client, ready_at_server, data_heard, noop_heard, close_heard, heard_as, RowsAreMirrored}

-- of two roles or flows, the other is the first where this is the second
other_first : (number : ℕ) → 1 ≤ number → number ≤ 2 → eqb (other number) 1 ≡ eqb number 2
other_first number low high = go (eqb number 1) refl
  where
    go : (t : Bool) → eqb number 1 ≡ t → eqb (cond t 2 1) 1 ≡ eqb number 2
    go true first = rw (eqb-true number 1 first) refl
    go false second =
        let is : number ≡ 2 = omega (arith, eqb-false number 1 second) in
        rw is refl

-- so a choice by the one is the choice by the other, turned around
turned : (number : ℕ) → 1 ≤ number → number ≤ 2 → (one two : Result Step Refusal) → cond (eqb number 2) one two ≡ cond (eqb number 1) two one
turned number low high one two = go (eqb number 1) refl
  where
    go : (t : Bool) → eqb number 1 ≡ t → cond (eqb number 2) one two ≡ cond t two one
    go true first = rw (eqb-true number 1 first) refl
    go false second =
        let is : number ≡ 2 = omega (arith, eqb-false number 1 second) in
        rw is refl

-- a role and a flow
record Ranged (e : Endpoint) : Type 0 where
  roles : (client ≤ e.role) × (e.role ≤ server)
  flows : (producer ≤ e.flow) × (e.flow ≤ consumer)

ranged : (e : Endpoint) → in_ranges e ≡ true → Ranged e
unfolding in_ranges
ranged e ranges =
    let roled = leb client e.role && leb e.role server in
    let phased = (both_true (roled && good_flow e.flow && leb e.phase shut) (leb e.w capacity) ranges).0 in
    let flowed = (both_true (roled && good_flow e.flow) (leb e.phase shut) phased).0 in
    let both = both_true roled (good_flow e.flow) flowed in
    let role = both_true (leb client e.role) (leb e.role server) both.0 in
    let flow = both_true (leb producer e.flow) (leb e.flow consumer) both.1 in
    record {
      roles = (leb-true client e.role role.0, leb-true e.role server role.1);
      flows = (leb-true producer e.flow flow.0, leb-true e.flow consumer flow.1);
    }

-- by the type of the message
mirrored : (e : Endpoint) → Ranged e → (message : MessageType) (type-data : ℕ)
    → row_of (other e.role) (other e.flow) e.phase e.n message type-data ≡ heard_as e message type-data
unfolding open_row ready_row data_row noop_row close_row open_heard ready_at_client ready_at_server data_heard noop_heard close_heard
mirrored e in-ranges Open type-data = simp (other_first e.role in-ranges.roles.0 in-ranges.roles.1)
mirrored e in-ranges Ready type-data =
    simp (other_first e.role in-ranges.roles.0 in-ranges.roles.1) (turned e.role in-ranges.roles.0 in-ranges.roles.1 _ _)
mirrored e in-ranges Noop type-data = refl
mirrored e in-ranges Data type-data = simp (other_first e.flow in-ranges.flows.0 in-ranges.flows.1)
mirrored e in-ranges Close type-data = refl

pub rows_are_mirrored : RowsAreMirrored
unfolding hear_row moves_as noop_row noop_heard
rows_are_mirrored e ranges m = go (confirms m.message m.flags)
  where
    go : (t : Bool)
        → row_of (other e.role) (other e.flow) e.phase e.n (cond t Noop m.message) m.type_data
        ≡ cond t (noop_heard e) (heard_as e m.message m.type_data)
    go true = refl
    go false = mirrored e (ranged e ranges) m.message m.type_data
