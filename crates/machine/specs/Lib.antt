-- The endpoint as a whole: that an answer says what was done, that good stays good, whether a message that is heard has a body, that what is sent is
-- heard as it was sent, what becomes of a CLOSE, and the call that a message is of; what a program is and a run of one end; and what each call
-- makes of the count of unconfirmed reports.
pub mod Refusals
pub mod Good
pub mod Bodies
pub mod Round
pub mod Close
pub mod CallIn
pub mod Programs
pub mod Runs
pub mod Unconfirmed
