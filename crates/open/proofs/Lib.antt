-- `Skipped` has the fields that a frame skips, `Kept` what a frame holds with the fields that are left and that it lies in the bytes, `Stages`
-- one stage behind another, `Limits` that the limit which is heard is one.
pub mod Skipped
pub mod Kept
pub mod Stages
pub mod Limits
