-- `probe::probe_control` meets its contract: number and slots are those of the control frame.
-- Assumes nothing.
use Rattle.probe.proofs.probe_control.Goals as goal

pub returns : goal.returns
returns c =
    let control = c.read-control.ensures in
    record { numbered = rw control at c.number_of.ensures; told = rw control at c.control_slots.ensures }
