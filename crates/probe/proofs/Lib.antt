-- `Determined` has for each contract of several equations that any two results which meet it coincide.
pub mod Determined
