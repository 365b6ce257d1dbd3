-- `endpoint::Endpoint::store_head` meets its contract: each field is stored behind the one before.
-- Assumes nothing.
use mathlib.Core.Path.{◌∙◌, ap, sym}
use Prim.Native.Nat.{ℕ}
use mathlib.Core.List.{List}
use mathlib.Core.Bool.{Bool, cond}
use borrow.Author.Tests.{le-leb, lt-leb}
use Rattle.bytes_be.specs.Part.{put_at}
use Rattle.endpoint.specs.Block.{head_bytes}
use Rattle.endpoint.proofs.Stored.{stored_head, with_counts, with_last, with_limit}
use Rattle.endpoint.proofs.Endpoint.store_head.Goals as goal

pub returns-then-room : goal.returns-then-room
returns-then-room c =
    let room = c.if-room.true in
    let a = c.args in
    let told = c.bytes-n.ensures in
    c.store-then-room.ensures
    ∙ ap with_last c.store.ensures
    ∙ ap (λ (l : List ℕ). with_last (with_limit a.self l)) c.copy_at-then-room.ensures
    ∙ ap (λ (l : List ℕ). with_last (with_limit a.self (with_counts c.bytes-n.result a.self l))) c.copy_at.ensures
    ∙ stored_head a.block.now a.self _ room told
    ∙ sym (ap (λ (t : Bool). cond t (put_at a.block.now 0 (head_bytes a.self)) a.block.now) (le-leb _ _ room))

pub returns-else-room : goal.returns-else-room
returns-else-room c =
    let a = c.args in
    sym (ap (λ (t : Bool). cond t (put_at a.block.now 0 (head_bytes a.self)) a.block.now) (lt-leb _ _ c.if-room.false))
