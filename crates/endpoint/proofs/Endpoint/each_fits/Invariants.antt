-- `endpoint::Endpoint::each_fits` meets its contract: the loop keeps the test of every entry below i, and the sum of their types.
-- Assumes nothing.
use mathlib.Core.Path.{◌≡◌}
use Prim.Native.Nat.{◌*◌, ◌≤◌}
use Rattle.bytes_be.specs.Part.{tabulate}
use Rattle.endpoint.specs.Record.{entry_at, every, fits}
use Rattle.endpoint.proofs.Types.{types_in}
use Rattle.endpoint.proofs.Endpoint.each_fits.Given as goal

abbrev pub invariant-loop-i : goal.invariant-loop-i
invariant-loop-i l = (l.fit ≡ every l.i (λ k. fits l.self.flow l.self.w (entry_at l.entries k) k)) × (l.types ≡ types_in (tabulate 0 l.i (entry_at l.entries))) × (l.types ≤ 255 * l.i)
