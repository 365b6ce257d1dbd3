-- `line::fill_message` meets its contract: its five texts, one behind the other, are the line, and 96 bytes have room for them.
-- Assumes nothing.
use Rattle.line.specs.Report.{line_of}
use Rattle.line.proofs.Puts.{put_more}
use Rattle.line.proofs.fill_message.Goals as goal

pub returns : goal.returns
unfolding line_of
returns c =
    let named = rw c.name_of.ensures at c.put-named.ensures in
    put_more (put_more (put_more (put_more named c.put_field-flagged.ensures.0) c.put_field-said.ensures.0) c.put_field-counted.ensures.0) c.put.ensures
