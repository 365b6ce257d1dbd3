-- `open_write::store_bytes` meets its contract: tag, length and bytes stand behind one another. Assumes nothing.
use native.Mathlib.Omega.{arith}
use borrow.Author.Rules.{rules}
use Rattle.wire.proofs.Written.{length_bytes_field}
use Rattle.open_write.proofs.Stored.{stored_bytes}
use Rattle.open_write.proofs.store_bytes.Goals as goal

pub overflow_add-sized : goal.overflow_add-sized
overflow_add-sized c =
    let w = length_bytes_field _ c.args.bytes.now c.requires.0 in let r = c.requires.1 in
    search rules

pub overflow_add-first : goal.overflow_add-first
overflow_add-first c =
    let w = length_bytes_field _ c.args.bytes.now c.requires.0 in let r = c.requires.1 in let v = c.varint_length.ensures in
    search rules

pub overflow_add-result : goal.overflow_add-result
overflow_add-result c =
    let w = length_bytes_field _ c.args.bytes.now c.requires.0 in let r = c.requires.1 in let v = c.varint_length.ensures in
    search rules

pub returns : goal.returns
returns c =
    let a = c.args in
    let pre = c.requires in
    let v = c.varint_length.ensures in
    let stored = stored_bytes a.out.now a.at a.number a.bytes.now pre.0 pre.1 in
    let w = length_bytes_field a.number a.bytes.now pre.0 in
    record { stored = rw (c.copy_at.ensures, c.store_varint-2.ensures, c.store_varint.ensures, v) stored; behind = rw v (omega arith) }
