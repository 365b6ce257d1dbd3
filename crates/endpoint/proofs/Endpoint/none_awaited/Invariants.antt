-- `endpoint::Endpoint::none_awaited` meets its contract: the loop keeps whether the bytes so far are zero, and 48 zeros are sixteen entries that
-- await nothing.
use mathlib.Core.Path.{◌≡◌}
use lib.Dec.{eqb}
use lib.ListN.{get_or}
use Rattle.endpoint.specs.Record.{every}
use Rattle.endpoint.proofs.Endpoint.none_awaited.Given as goal

abbrev pub invariant-loop-byte : goal.invariant-loop-byte
invariant-loop-byte l = l.zero ≡ every l.byte-index (λ k. eqb (get_or l.fn.self.entries k 0) 0)
