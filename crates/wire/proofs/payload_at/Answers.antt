-- `wire::payload_at` meets its contract, by the wire type. Assumes nothing.
use Rattle.wire.proofs.Readings.{payload_varint, payload_eight, payload_bytes, payload_four, payload_other}
use borrow.Author.Rules.{rules}
use Rattle.wire.proofs.payload_at.Goals as goal

pub returns-in-0 : goal.returns-in-0
returns-in-0 c = payload_varint _ _ _ _ _ _ c.in-0.is c.number_field.ensures

pub returns-in-1 : goal.returns-in-1
returns-in-1 c = payload_eight _ _ _ _ _ _ c.in-1.is c.sized_field.ensures

pub returns-in-2 : goal.returns-in-2
returns-in-2 c = payload_bytes _ _ _ _ _ _ c.in-2.is c.bytes_field.ensures

pub returns-in-5 : goal.returns-in-5
returns-in-5 c = payload_four _ _ _ _ _ _ c.in-5.is c.sized_field-in-5.ensures

pub returns-in_default : goal.returns-in_default
returns-in_default c = payload_other _ _ _ _ _ _ (search rules) (search rules) (search rules) (search rules) (search rules)
