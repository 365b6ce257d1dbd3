-- `wire::digits_of` meets its contract: the first of the ten digits are the shortest varint. Assumes nothing.
use Rattle.wire.proofs.Shortest.{digits_shortest}
use Rattle.wire.proofs.digits_of.Goals as goal

pub returns : goal.returns
returns c = rw (
  c.digit_of.ensures,
  c.digit_of-2.ensures,
  c.digit_of-3.ensures,
  c.digit_of-4.ensures,
  c.digit_of-5.ensures,
  c.digit_of-6.ensures,
  c.digit_of-7.ensures,
  c.digit_of-8.ensures,
  c.digit_of-9.ensures,
  c.digit_of-10.ensures,
) (digits_shortest c.args.number)
