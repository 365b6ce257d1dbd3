-- `line::fill_refused` meets its contract: its two texts, one behind the other, are the line.
-- Assumes nothing.
use Rattle.line.proofs.Puts.{put_more}
use Rattle.line.proofs.fill_refused.Goals as goal

pub returns : goal.returns
returns c = put_more c.put_field-refused.ensures.0 c.put.ensures
