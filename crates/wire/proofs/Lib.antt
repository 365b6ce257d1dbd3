-- `Varints` has the cases of a varint that is read, `Shortest` its writing and that reading undoes it, `Readings` the cases of a field and
-- the fields of a message one after the other, `Moved` that a message read alone has the same fields as where it stands, `Front` that the
-- message up to a field's tag has the fields in front of it, `Written` that a field that was written is read back, `Determined` that two
-- results which meet one contract coincide.
pub mod Varints
pub mod Shortest
pub mod Readings
pub mod Moved
pub mod Front
pub mod Written
pub mod Determined
