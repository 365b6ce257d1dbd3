-- `Lending` has the laws of a record that is lent to a send or to receive, `Determined` that each of their contracts allows one result;
-- `Remaking` has the law of the two makings, `MadeOnce` that their contract allows one result.
pub mod Lending
pub mod Determined
pub mod Remaking
pub mod MadeOnce
