-- Protobuf's varints and fields, as document 01 narrows them.
pub mod Varint
pub mod Fields
pub mod Written
