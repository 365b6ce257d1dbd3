-- `OneByOne` has what a reader hands out that is asked again and again, `Determined` that two results which meet one contract coincide.
pub mod OneByOne
pub mod Determined
