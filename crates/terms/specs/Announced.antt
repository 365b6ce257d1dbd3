-- "the limit as parameter `max_message_bytes`"; "The limit parameter must be a number that is whole, 1,000,000 to 50,000,000".
use Rattle.std.specs.Prelude.{ℕ, ◌+◌, List, Option, Some, None, Result, Ok, Err}
use Rattle.bytes_be.specs.Ascii.{ascii}
use Rattle.bytes_be.specs.declared.Place.{Place}
use Rattle.wire.specs.declared.Fault.{Fault}
use Rattle.double.specs.Limit.{most_limit, limit_of}
use Rattle.params.specs.Keys.{find_in}
use Rattle.terms.specs.declared.Value.{Value}
use Rattle.terms.specs.declared.Value.TheVariants.{Null, Number, Text, Boolean, Struct, List as Value-as-List}
use Rattle.terms.specs.declared.BadLimit.{BadLimit}
use Rattle.terms.specs.Value.{value_at}

-- the limit that is announced, if one is, or that it is bad
abbrev pub Announced : Type 0
Announced = Result (Option ℕ) BadLimit

abbrev pub bad : Announced
bad = Err record {}

-- "whole, 1,000,000 to 50,000,000"
abbrev pub from_double : Option ℕ → Announced
from_double (Some number) = Ok (Some number)
from_double None = bad

-- "must be a number"
abbrev pub from_value : Value → Announced
from_value (Number double bits) = from_double (limit_of double)
from_value Null = bad
from_value (Text place) = bad
from_value (Boolean truth) = bad
from_value Struct = bad
from_value Value-as-List = bad

abbrev pub from_held : Result Value Fault → Announced
from_held (Ok value) = from_value value
from_held (Err why) = bad

abbrev pub from_found : List ℕ → Option Place → Announced
from_found s (Some place) = from_held (value_at s place.at (place.at + place.length))
from_found s None = Ok None

-- "parameter `max_message_bytes`"
abbrev pub limit_key : List ℕ
limit_key = ascii "max_message_bytes"

-- the limit that the Struct from `from` to `to` announces, or nothing
unfoldable pub limit_in : List ℕ → ℕ → ℕ → Announced
limit_in s from to = from_found s (find_in s from to limit_key)

-- "19 .. bad limit"
abbrev pub bad_number : BadLimit → ℕ
bad_number why = 19

abbrev pub announced_number : Announced → ℕ
announced_number (Ok limit) = 0
announced_number (Err why) = bad_number why

-- "with the limit announced, or 50,000,000 where none is"; 0 beside a refusal
abbrev pub announced_limit : Announced → ℕ
announced_limit (Ok None) = most_limit
announced_limit (Ok (Some limit)) = limit
announced_limit (Err why) = 0
