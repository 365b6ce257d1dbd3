-- "OPEN takes the pipe name (1..255 bytes of UTF-8) and a format (0..255 bytes of UTF-8). Its socket is 1 (INPUT) for a producer, 2 (OUTPUT)
-- for a consumer. Its frame has fields in ascending number, shortest varints, empty format left out, and the limit as parameter
-- `max_message_bytes` (a double made from the whole number) unless the limit is 50,000,000."
use Rattle.std.specs.Prelude.{ℕ, List, [], ◌++◌, Bool, cond, ◌&&◌, length, leb, eqb, Result, Ok, Err}
use Rattle.bytes_be.specs.Part.{put_at}
use Rattle.utf8.specs.Text.{well_formed}
use Rattle.wire.specs.Written.{varint_field, eight_field, bytes_field}
use Rattle.double.specs.Double.{bytes_of}
use Rattle.double.specs.Limit.{most_limit}
use Rattle.terms.specs.Announced.{limit_key}
use Rattle.open.specs.Offer.{Offer}
use Rattle.open_write.specs.declared.BadOffer.{BadOffer}

-- "the pipe name (1..255 bytes of UTF-8)"
unfoldable pub good_name : List ℕ → Bool
good_name name = leb 1 (length name) && leb (length name) 255 && well_formed name

-- "a format (0..255 bytes of UTF-8)"
unfoldable pub good_format : List ℕ → Bool
good_format format = leb (length format) 255 && well_formed format

-- what 34 asks of them
unfoldable pub is_good : Offer → Bool
is_good offer = good_name offer.name && good_format offer.format

-- "Its socket is 1 (INPUT) for a producer, 2 (OUTPUT) for a consumer." A producer's flow is 1, and any other a consumer's.
abbrev pub socket_of : ℕ → ℕ
socket_of flow = cond (eqb flow 1) 1 2

-- 1 data_pipe
abbrev pub name_field : List ℕ → List ℕ
name_field name = bytes_field 1 name

-- 2 pipe_socket
abbrev pub socket_field : ℕ → List ℕ
socket_field flow = varint_field 2 (socket_of flow)

-- 3 data_format: "empty format left out"
unfoldable pub format_field : List ℕ → List ℕ
format_field format = cond (eqb (length format) 0) [] (bytes_field 3 format)

-- a Struct with one entry: the key `max_message_bytes`, and as its Value the double
abbrev pub limit_struct : ℕ → List ℕ
limit_struct limit = bytes_field 1 (bytes_field 1 limit_key ++ bytes_field 2 (eight_field 2 (bytes_of limit)))

-- 4 parameters: "unless the limit is 50,000,000"
unfoldable pub parameters_field : ℕ → List ℕ
parameters_field limit = cond (eqb limit most_limit) [] (bytes_field 4 (limit_struct limit))

-- "fields in ascending number"
unfoldable pub frame_for : ℕ → Offer → ℕ → List ℕ
frame_for flow offer limit = name_field offer.name ++ socket_field flow ++ format_field offer.format ++ parameters_field limit

-- "34 bad name, format, .."
abbrev pub refused : Result ℕ BadOffer
refused = Err record {}

-- how long the frame is, is known before a byte of it is written
unfoldable pub given_of : ℕ → Offer → ℕ → Result ℕ BadOffer
given_of flow offer limit = cond (is_good offer) (Ok (length (frame_for flow offer limit))) refused

abbrev pub bad_number : BadOffer → ℕ
bad_number why = 34

abbrev pub given_number : Result ℕ BadOffer → ℕ
given_number (Ok size) = 0
given_number (Err why) = bad_number why

-- the output with the frame of a good name and format from place `at` on, and nothing else changed; the output itself where it has no room
unfoldable pub written : ℕ → Offer → ℕ → ℕ → List ℕ → List ℕ
written flow offer limit at out = cond (is_good offer) (put_at out at (frame_for flow offer limit)) out
