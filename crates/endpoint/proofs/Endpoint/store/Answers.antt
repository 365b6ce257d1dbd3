-- `endpoint::Endpoint::store` meets its contract: the first 16 bytes and the entries behind them are the whole block.
-- Assumes nothing.
use mathlib.Core.Path.{◌∙◌, ap}
use Prim.Native.Nat.{ℕ}
use mathlib.Core.List.{List}
use Rattle.bytes_be.specs.Part.{put_at}
use Rattle.endpoint.proofs.Stored.{stored_whole}
use Rattle.endpoint.proofs.Endpoint.store.Goals as goal

pub returns : goal.returns
returns c =
    let a = c.args in
    c.store_entries.ensures.stored
    ∙ ap (λ (l : List ℕ). put_at l 16 a.self.entries) c.store_head.ensures
    ∙ stored_whole a.block.now a.self c.store_entries.ensures.counted
