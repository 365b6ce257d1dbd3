-- "shortest varints": a field as it is written, its tag, then what its wire type asks for.
use Rattle.std.specs.Prelude.{ℕ, ◌+◌, ◌*◌, List, ◌++◌, length}
use Rattle.wire.specs.Varint.{shortest_of}

-- a tag is eight times the field's number, and its wire type
unfoldable pub tag_of : ℕ → ℕ → List ℕ
tag_of number wire = shortest_of (number * 8 + wire)

-- wire type 0
unfoldable pub varint_field : ℕ → ℕ → List ℕ
varint_field number value = tag_of number 0 ++ shortest_of value

-- wire type 1: eight bytes
unfoldable pub eight_field : ℕ → List ℕ → List ℕ
eight_field number eight = tag_of number 1 ++ eight

-- wire type 2: how many bytes, and these
unfoldable pub bytes_field : ℕ → List ℕ → List ℕ
bytes_field number bytes = tag_of number 2 ++ shortest_of (length bytes) ++ bytes
