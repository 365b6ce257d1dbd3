-- What the sends share: the answer from what was decided, and what an accepted send has passed; that what an answer says determines it; and what
-- the options of a call say.
pub mod Decided
pub mod Opened
pub mod Once
pub mod Options
