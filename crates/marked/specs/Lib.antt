-- Document 01, "Marked cases": K1 to K12 as one table; and C-12 of document 02 on bytes.
pub mod Cases
pub mod Bodies
