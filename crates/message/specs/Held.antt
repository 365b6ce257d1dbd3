-- What `Kind::body` promises: the data frame that is looked at, where it is there.
use Rattle.std.specs.Prelude.{ℕ, cond, not, ◌&&◌, eqb, Option, Some, None}
use Rattle.bytes_be.specs.declared.Place.{Place}
use Rattle.control.specs.declared.MessageType.{MessageType}
use Rattle.message.specs.Reading.{carries}

-- the body of a message of so many data frames, the first of which stands at this place
abbrev pub body_behind : MessageType → ℕ → ℕ → Place → Option Place
body_behind message flags frames place = cond (carries message flags && not (eqb frames 0)) (Some place) None
