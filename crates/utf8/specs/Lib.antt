-- `Text` has what a well-formed text is, `Held` what the code holds of the bytes that a text still owes.
pub mod Text
pub mod Held
