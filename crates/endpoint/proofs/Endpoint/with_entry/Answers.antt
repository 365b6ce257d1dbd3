-- `endpoint::Endpoint::with_entry` meets its contract: the three bytes are stored one behind the other.
-- Assumes nothing.
use mathlib.Core.Path.{◌≡◌}
use Prim.Native.Nat.{◌*◌}
use native.Mathlib.Omega.{arith}
use lib.ListN.{length}
use borrow.Author.Rules.{rules}
use Rattle.endpoint.proofs.Entries.{put_bytes}
use Rattle.endpoint.proofs.Endpoint.with_entry.Goals as goal

pub returns : goal.returns
returns c =
    let a = c.args in
    let full : length a.self.entries ≡ 48 = search rules in
    rw c.bytes-bytes.ensures (put_bytes a.self.entries (3 * a.self.w) a.entry (omega arith))
