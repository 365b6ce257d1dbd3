-- `Computing` names what the tables compute with, `Runs` has a run of one end that goes on. `Rows` has what a row of the table leads to, `Carried`
-- what a message carries, `Stages` what holds of all that a receive makes of bytes, `Good` that every send and every receive leaves a good endpoint
-- good; `Bundled` has that a message is read as it was written, `Hearing` what an end that may hear it makes of it, `Bodies` that the number of
-- data frames tells whether there is a body, `Round` that what is sent is heard as it was sent, `Replies` the same of what is replied, `CallIn`
-- that the call is read off the bytes; `Close` has what becomes of a CLOSE, `Refusals` that an answer says what was done, `Unconfirmed` what becomes
-- of the count of unconfirmed reports, `Determined` that two answers which meet one contract coincide.
pub mod Computing
pub mod Runs
pub mod Rows
pub mod Carried
pub mod Stages
pub mod Good
pub mod Bundled
pub mod Hearing
pub mod Bodies
pub mod Round
pub mod Replies
pub mod CallIn
pub mod Close
pub mod Refusals
pub mod Unconfirmed
pub mod Determined
