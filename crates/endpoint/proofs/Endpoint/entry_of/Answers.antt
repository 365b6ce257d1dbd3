-- `endpoint::Endpoint::entry_of` meets its contract: the entry is read from its three bytes, and behind the sixteenth it is zero.
-- Assumes nothing.
use mathlib.Core.Path.{◌∙◌, ◌≡◌, sym}
use lib.ListN.{length}
use borrow.Author.Rules.{rules}
use Rattle.endpoint.proofs.Entries.{entry_past, entry_read}
use Rattle.endpoint.proofs.Endpoint.entry_of.Goals as goal

pub returns-then-i-lt16 : goal.returns-then-i-lt16
returns-then-i-lt16 c =
    let a = c.args in
    let full : length a.self.entries ≡ 48 = search rules in
    c.of_bytes.ensures ∙ sym (entry_read a.self.entries full a.i)

pub returns : goal.returns
returns c =
    let a = c.args in
    let full : length a.self.entries ≡ 48 = search rules in
    c.of_bytes-2.ensures ∙ sym (entry_past a.self.entries full a.i c.if-i-lt16.false)
