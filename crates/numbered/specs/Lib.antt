-- Document 01: "Every refusal has a listed number".
pub mod Numbered
