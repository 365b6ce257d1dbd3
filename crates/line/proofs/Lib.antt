-- `Digits` has that the digits that are written are the number in decimal, `Puts` what a row of texts leaves in a buffer,
-- `Determined` that the contract of a text in a buffer allows one result.
pub mod Digits
pub mod Puts
pub mod Determined
