-- Document 01, "A reader over a lent bundle hands out its frames one by one".
pub mod Frames
pub mod OneByOne
