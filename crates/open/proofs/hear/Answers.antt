-- `open::hear` meets its contract: 18 to 20 before 21 before 22. Assumes nothing.
use Rattle.open.proofs.Stages.{refused_before, other_pipe, its_format}
use Rattle.open.proofs.hear.Goals as goal

pub returns-in_default : goal.returns-in_default
returns-in_default c = search refused_before

pub returns-in_default-pipe : goal.returns-in_default-pipe
returns-in_default-pipe c = search other_pipe

pub returns : goal.returns
returns c = search its_format
