-- "0 role ..; 1 flow ..; 2 phase ..; 3 W, confirmations awaited, 0..16; 4-5 n, big-endian; 6-7 zero; 8-11 limit, big-endian; 12-15 zero;
-- 16-63 sixteen entries of 3 bytes (type, type-data), oldest first."; but C-14: "how many of the awaited confirmations belong to DATA. Keep the number
-- in byte 6 of the state block".
use Rattle.std.specs.Prelude.{ℕ, List, [], ◌∷◌, ◌++◌, Bool, cond, ◌&&◌, length, eqb}
use Rattle.bytes_be.specs.Part.{part}
use Rattle.bytes_be.specs.Number.{number_at, to_bytes}
use Rattle.endpoint.specs.declared.Endpoint.{Endpoint}
use Rattle.endpoint.specs.Record.{good, no_endpoint}

-- the first 16 bytes
unfoldable pub head_bytes : Endpoint → List ℕ
head_bytes e =
    (e.role ∷ e.flow ∷ e.phase ∷ e.w ∷ [])
    ++ to_bytes 2 e.n ++ (e.unconfirmed ∷ 0 ∷ [])
    ++ to_bytes 4 e.limit ++ to_bytes 4 0

-- the block of a record
unfoldable pub bytes_of : Endpoint → List ℕ
bytes_of e = head_bytes e ++ e.entries

-- the record of a block
unfoldable pub record_in : List ℕ → Endpoint
record_in block =
    record {
      role = number_at 1 block 0;
      flow = number_at 1 block 1;
      phase = number_at 1 block 2;
      w = number_at 1 block 3;
      n = number_at 2 block 4;
      unconfirmed = number_at 1 block 6;
      limit = number_at 4 block 8;
      entries = part block 16 48;
    }

-- "6-7 zero", but for byte 6, and "12-15 zero"
unfoldable pub spare_is_zero : List ℕ → Bool
spare_is_zero block = eqb (number_at 1 block 7) 0 && eqb (number_at 4 block 12) 0

-- whether a block holds an endpoint, good or not: "64 bytes", and zeros where they must be
abbrev pub holds_endpoint : List ℕ → Bool
holds_endpoint block = eqb (length block) 64 && spare_is_zero block

-- "A block is good if .."
unfoldable pub is_good : List ℕ → Bool
is_good block = holds_endpoint block && good (record_in block)

-- the record that a call on a block works with, or none where the block holds no endpoint
unfoldable pub load_of : List ℕ → Endpoint
load_of block = cond (holds_endpoint block) (record_in block) no_endpoint
