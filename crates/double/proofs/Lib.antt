-- `Order` has laws of eight bytes read backwards, `Patterns` those of NaN and of bit patterns, `Limits` those of the limit; `Example` has
-- the double of document 01.
pub mod Order
pub mod Patterns
pub mod Limits
pub mod Example
