-- "a varint over 10 bytes or above 2^64-1" is refused; "Long-form varints are read"; an OPEN frame that is sent has "shortest varints".
use Rattle.std.specs.Prelude.{ℕ, zero, suc, ◌+◌, ◌*◌, ◌/◌, ◌%◌, ◌^◌, List, [], ◌∷◌, cond, length, get_or, ltb, Result, Ok, Err}
use Rattle.wire.specs.declared.Kind.{Kind}
use Rattle.wire.specs.declared.Kind.TheVariants.{CutShort, BadVarint}
use Rattle.wire.specs.declared.Varint.{Varint}

-- what bytes say as a varint, or why they say none
abbrev pub Said : Type 0
Said = Result Varint Kind

-- a number, and the place behind its bytes
abbrev pub varint_of : ℕ → ℕ → Said
varint_of value next = Ok (record { value = value; next = next })

-- a byte's seven bits below what the bytes behind it say
abbrev pub below : ℕ → Said → Said
below byte (Ok varint) = varint_of (varint.value * 128 + byte % 128) varint.next
below byte (Err kind) = Err kind

-- what the bytes at a place say, seven bits a byte and the lowest first: every byte but the last is 128 or more, and there are at most
-- `left`; the message ends at `end`
unfoldable pub said_at : ℕ → List ℕ → ℕ → ℕ → Said
said_at zero s at end = Err BadVarint
said_at (suc left) s at end =
    cond (ltb at end)
    (cond (ltb (get_or s at 0) 128)
    (varint_of (get_or s at 0) (at + 1))
    (below (get_or s at 0) (said_at left s (at + 1) end)))
    (Err CutShort)

-- "above 2^64-1"
abbrev pub bounded : Said → Said
bounded (Ok varint) = cond (ltb varint.value (2 ^ 64)) (Ok varint) (Err BadVarint)
bounded (Err kind) = Err kind

-- "a varint over 10 bytes or above 2^64-1"
unfoldable pub varint_at : List ℕ → ℕ → ℕ → Said
varint_at s at end = bounded (said_at 10 s at end)

-- "shortest varints": seven bits a byte, the lowest first, none behind the last that is not zero; at most so many bytes
unfoldable pub shortest_within : ℕ → ℕ → List ℕ
shortest_within zero number = []
shortest_within (suc left) number =
    cond (ltb number 128) (number ∷ []) ((number % 128 + 128) ∷ shortest_within left (number / 128))

-- ten bytes are enough for every number below 2^64
unfoldable pub shortest_of : ℕ → List ℕ
shortest_of number = shortest_within 10 number

unfoldable pub varint_length : ℕ → ℕ
varint_length number = length (shortest_of number)
