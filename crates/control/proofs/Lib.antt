-- `Round` has that reading a control frame and writing it undo each other.
pub mod Round
