-- `probe::probe_contents` meets its contract: number and slots are those of the contents.
-- Assumes nothing.
use Rattle.probe.proofs.probe_contents.Goals as goal

pub returns : goal.returns
returns c =
    let contents = c.contents_of-contents.ensures in
    record { numbered = rw contents at c.number_of.ensures; told = rw contents at c.contents_slots.ensures }
