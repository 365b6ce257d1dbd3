-- `wire::bytes_field` meets its contract: the payload begins behind the varint, which ends within the message. Assumes nothing.
use Rattle.wire.proofs.Readings.{read_within}
use Rattle.wire.proofs.bytes_field.Goals as goal

pub sized_field-requires : goal.sized_field-requires
sized_field-requires c = (read_within _ _ _ c.varint_at.ensures c.in-Ok.is).1
