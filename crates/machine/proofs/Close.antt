-- A CLOSE that passes 10 to 13 is heard and closes, before the OPEN it is refused as 17, and behind a close passed over. Assumes nothing.
use Rattle.std.specs.Prelude.{None, Ok}
use mathlib.Core.Path.{◌≡◌, refl}
use Prim.Native.Nat.{ℕ, ◌-◌, ◌≤◌}
use mathlib.Core.List.{List}
use mathlib.Core.Bool.{Bool, true, false, cond, ◌&&◌, ◌||◌}
use native.Mathlib.Omega.{arith}
use lib.Dec.{eqb}
use borrow.Author.Tests.{eq-eqb, eqb-false, eqb-true, le-leb, lt-leb, ne_eqb}
use Rattle.control.specs.declared.MessageType.TheVariants.{Close}
use Rattle.control.specs.Frame.{known_type_of, type_of}
use Rattle.open.specs.Offer.{Offer}
use Rattle.message.specs.Reading.{body_of, read_as, reading_of}
use Rattle.endpoint.specs.declared.Endpoint.{Endpoint}
use Rattle.endpoint.specs.Record.{batch, client, fresh, opening, shut}
use Rattle.table.specs.Table.{at_row, close_row}
use Rattle.receiving.specs.Numbers.{Closes}
use Rattle.receiving.specs.Hearing.{accepted, carried_by, confirmed_by, forbidden, hear_content, hear_message, hear_of, hear_row, moves_as, reply_to, too_large, unmatched}
use Rattle.receiving.specs.Refusing.{refused, silent, unchanged}
use Rattle.machine.specs.Close.{PassesAsClose, closing, heard_close, CloseWhole}

-- it is read, whatever its flags and its frames
close_read : (s : List ℕ) (passes : PassesAsClose s) → reading_of s
    ≡ Ok
    (record {
      message = Close;
      flags = passes.flags;
      type_data = passes.type-data;
      frames = passes.count - 1;
      size = passes.size;
      body = None;
    })
unfolding reading_of read_as body_of known_type_of
close_read s passes = simp (passes.bundled, passes.signed, passes.version_one)

close_heard : (e : Endpoint) (s : List ℕ) (passes : PassesAsClose s) (pipe : Offer) → opening ≤ e.phase → e.phase ≤ batch
    → hear_of e s pipe ≡ closing e (heard_close passes)
unfolding hear_of hear_message hear_content forbidden hear_row moves_as too_large carried_by unmatched accepted confirmed_by reply_to close_row at_row
close_heard e s passes pipe low high =
    simp (ne_eqb e.phase shut (λ same. omega arith), close_read s passes, le-leb opening e.phase low, le-leb e.phase batch high)

-- no reply is written to it
close_silent : (e : Endpoint) → silent e 17 (type_of Close) ≡ true
unfolding silent
close_silent e = go (eqb e.role client && eqb e.phase fresh)
  where
    go : (t : Bool) → t || true ≡ true
    go true = refl
    go false = refl

close_before_open : (e : Endpoint) (s : List ℕ) → PassesAsClose s → (pipe : Offer) → e.phase ≡ fresh → hear_of e s pipe ≡ closing e (Closes 17)
unfolding hear_of hear_message forbidden hear_row moves_as too_large close_row refused
close_before_open e s passes pipe begins =
    let alive = ne_eqb e.phase shut (λ same. omega (arith, begins)) in
    let early = lt-leb opening e.phase (omega (arith, begins)) in
    simp (alive, close_read s passes, early, close_silent e)

close_after_close : (e : Endpoint) (s : List ℕ) (pipe : Offer) → e.phase ≡ shut → hear_of e s pipe ≡ unchanged e 3
unfolding hear_of
close_after_close e s pipe is-shut = simp (eq-eqb e.phase shut is-shut)

pub close_whole : CloseWhole
close_whole e known s passes pipe = go (eqb e.phase fresh) refl (eqb e.phase shut) refl
  where
    go : (begins : Bool) → eqb e.phase fresh ≡ begins → (is-shut : Bool) → eqb e.phase shut ≡ is-shut
        → hear_of e s pipe ≡ cond begins (closing e (Closes 17)) (cond is-shut (unchanged e 3) (closing e (heard_close passes)))
    go true begins is-shut _ = close_before_open e s passes pipe (eqb-true e.phase fresh begins)
    go false later true over = close_after_close e s pipe (eqb-true e.phase shut over)
    go false later false goes =
        close_heard e s passes pipe (omega (arith, eqb-false e.phase fresh later)) (omega (arith, known, eqb-false e.phase shut goes))
