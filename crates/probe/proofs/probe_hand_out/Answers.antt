-- `probe::probe_hand_out` meets its contract: number and slots are those of what is handed out. Assumes nothing.
use Rattle.probe.proofs.probe_hand_out.Goals as goal

pub returns : goal.returns
returns c =
    let handed = c.hand_out-handed.ensures in
    record { numbered = rw handed at c.number_of.ensures; told = rw handed at c.handed_slots.ensures }
