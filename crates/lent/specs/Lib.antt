-- Document 01, "A Rattle caller lends the endpoint record, which is changed in place".
pub mod Lent
pub mod Making
