-- `open_write::write` meets its contract: its four stores are the frame, or it writes none. Assumes nothing.
use mathlib.Core.Path.{sym, ◌∙◌}
use mathlib.Core.Bool.{true, false}
use native.Mathlib.Omega.{arith}
use borrow.Author.Rules.{rules}
use borrow.Author.Tests.{leb-true}
use Rattle.bytes_be.proofs.Parts.{length_put}
use Rattle.open_write.proofs.Stored.{stored_frame, rooms, bad_given, its_room, wrote, no_room}
use Rattle.open_write.proofs.write.Goals as goal

pub returns-in_default : goal.returns-in_default
returns-in_default c = bad_given _ _ _ _ _ _ (λ size good. c.in_default.not-Ok size (c.given_of.ensures ∙ good))

pub store_bytes-socket-requires : goal.store_bytes-socket-requires
store_bytes-socket-requires c =
    let room = rooms _ _ _ _ _ _ (its_room _ _ _ _ _ c.args.out.now _ (sym c.given_of.ensures ∙ c.in-Ok.is) _ true c.holds-fits.ensures c.if-fits.true) in
    (omega arith, room.named)

pub overflow_add-socket : goal.overflow_add-socket
overflow_add-socket c =
    let room = rooms _ _ _ _ _ _ (its_room _ _ _ _ _ c.args.out.now _ (sym c.given_of.ensures ∙ c.in-Ok.is) _ true c.holds-fits.ensures c.if-fits.true) in
    let asked = room.asked in let behind = c.store_bytes-socket.ensures.behind in search rules

pub store_format-parameters-requires : goal.store_format-parameters-requires
store_format-parameters-requires c =
    let room = rooms _ _ _ _ _ _ (its_room _ _ _ _ _ c.args.out.now _ (sym c.given_of.ensures ∙ c.in-Ok.is) _ true c.holds-fits.ensures c.if-fits.true) in
    rw (c.store_bytes-socket.ensures.behind, c.store_socket.ensures, c.store_bytes-socket.ensures.stored, length_put, length_put)
    room.formatted

pub store_parameters-requires : goal.store_parameters-requires
store_parameters-requires c =
    let room = rooms _ _ _ _ _ _ (its_room _ _ _ _ _ c.args.out.now _ (sym c.given_of.ensures ∙ c.in-Ok.is) _ true c.holds-fits.ensures c.if-fits.true) in
    rw (c.store_format-parameters.ensures.behind, c.store_bytes-socket.ensures.behind, c.store_format-parameters.ensures.stored, c.store_socket.ensures, c.store_bytes-socket.ensures.stored, length_put, length_put, length_put)
    room.all

pub returns-then-fits : goal.returns-then-fits
returns-then-fits c =
    let fits = its_room _ _ _ _ _ c.args.out.now _ (sym c.given_of.ensures ∙ c.in-Ok.is) _ true c.holds-fits.ensures c.if-fits.true in
    let named = c.store_bytes-socket.ensures in
    let formatted = c.store_format-parameters.ensures in
    let stored = stored_frame c.args.out.now _ _ _ _ _ (leb-true _ _ fits) _ _ named.behind formatted.behind in
    rw (c.store_parameters.ensures, formatted.stored, c.store_socket.ensures, named.stored, stored)
    (wrote _ _ _ _ _ _ _ (sym c.given_of.ensures ∙ c.in-Ok.is))

pub returns-else-fits : goal.returns-else-fits
returns-else-fits c =
    let given = sym c.given_of.ensures ∙ c.in-Ok.is in
    no_room _ _ _ _ _ _ _ given (its_room _ _ _ _ _ c.args.out.now _ given _ false c.holds-fits.ensures c.if-fits.false)
