-- "Numbers 10..24 given by a receive set phase 5, clear n, W and the entries, and write the CLOSE reply; (flags 0); but a client in phase
-- 0 writes no reply, as OPEN must be its first message, nor is one written to a type-5 message refused as 17. All others change no byte."
use Rattle.std.specs.Prelude.{ℕ, Bool, cond, ◌&&◌, ◌||◌, eqb, Option, Some, None}
use Rattle.control.specs.declared.Control.{Control}
use Rattle.control.specs.declared.MessageType.{MessageType}
use Rattle.control.specs.declared.MessageType.TheVariants.{Close}
use Rattle.endpoint.specs.declared.Endpoint.{Endpoint}
use Rattle.endpoint.specs.Record.{client, server, fresh, closed}
use Rattle.receiving.specs.Numbers.{Stays, Closes, Received}

-- "A reply is .. a single control frame."
abbrev pub replying : MessageType → ℕ → ℕ → Option Control
replying message flags type-data = Some (record { message = message; flags = flags; type_data = type-data })

-- 12: "101 for type 1 at a server in phase 0, else 1"
unfoldable pub version_code : Endpoint → ℕ → ℕ
version_code e said = cond (eqb said 1 && eqb e.role server && eqb e.phase fresh) 101 1

-- "CLOSE code", a row for each number that closes; `said` is the type that the control byte says. No other number has a code: 0 stands for none.
unfoldable pub close_code : Endpoint → ℕ → ℕ → ℕ
close_code e number said =
    cond (eqb number 10) 1
    (cond (eqb number 11) 1
    (cond (eqb number 12) (version_code e said)
    (cond (eqb number 13) 1
    (cond (eqb number 14) 1
    (cond (eqb number 15) 1
    (cond (eqb number 16) 2
    (cond (eqb number 17) 2
    (cond (eqb number 18) 1
    (cond (eqb number 19) 2
    (cond (eqb number 20) 102
    (cond (eqb number 21) 100
    (cond (eqb number 22) 103
    (cond (eqb number 23) 2
    (cond (eqb number 24) 2
    0))))))))))))))

-- "a client in phase 0 writes no reply", "nor is one written to a type-5 message refused as 17"
unfoldable pub silent : Endpoint → ℕ → ℕ → Bool
silent e number said = (eqb e.role client && eqb e.phase fresh) || (eqb number 17 && eqb said 5)

-- it closes: "set phase 5, clear n, W and the entries, and write the CLOSE reply; (flags 0)"
unfoldable pub refused : Endpoint → ℕ → ℕ → Received
refused e number said =
    record {
      answer = Closes number;
      next = closed e;
      reply = cond (silent e number said) None (replying Close 0 (close_code e number said));
    }

-- it stays: "All others change no byte."
unfoldable pub unchanged : Endpoint → ℕ → Received
unchanged e number = record { answer = Stays number; next = e; reply = None }
