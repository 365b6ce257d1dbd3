-- What the tables compute with, layer by layer: a fact about bytes that is seen by computing it says `unfolding computing`.
use mathlib.Core.List.{flat_map, flatten}
use lib.Ieee.{in_unsigned, of_bits, of_int, to_bits, to_unsigned, whole}
use Rattle.bytes_be.specs.Number.{from_bytes_behind, from_bytes, to_bytes, number_at}
use Rattle.bytes_be.specs.Part.{same, put_at}
use Rattle.bundle.specs.Reading.{count_of, length_of, lengths_before, start_of, good, size_of, contents_of, frame_of}
use Rattle.bundle.specs.Writing.{bundle_of}
use Rattle.control.specs.Frame.{signed_of, version_of, known_type_of, bytes_of}
use Rattle.utf8.specs.Text.{table, due_behind, rest, well_formed}
use Rattle.wire.specs.Fields.{payload_at, field_at, fields_within, fields_of}
use Rattle.wire.specs.Varint.{said_at, varint_at, shortest_within, shortest_of}
use Rattle.wire.specs.Written.{tag_of, varint_field, eight_field, bytes_field}
use Rattle.double.specs.Double.{bits_at, bytes_of as Double·bytesOf}
use Rattle.double.specs.Limit.{limit_of}
use Rattle.params.specs.Keys.{key_of, value_place, find_in}
use Rattle.params.specs.Message.{walk, first_of, place_in}
use Rattle.params.specs.Rules.{value_wire, value_text, value_allowed, value_rule, value_field, value_check, bytes_rule, key_rule, seen_of, entry_field}
use Rattle.params.specs.Rules.{entry_done, entry_check, item_field, items_check, inside, struct_check}
use Rattle.terms.specs.Announced.{limit_in}
use Rattle.terms.specs.Value.{held_by, value_at}
use Rattle.open.specs.Frame.{oversized, frame_wire, is_there, frame_text, frame_rule, frame_field, place_if, socket_if, keep, kept, frame_check, parts_of}
use Rattle.open.specs.Open.{opening_of, readable, out_of_range, in_range, known_socket, offered_pipe, offered_format, open_of, offered}
use Rattle.open_write.specs.Frame.{good_name, good_format, is_good, format_field, parameters_field, frame_for}
use Rattle.message.specs.Reading.{strange_flags, body_of, read_as, reading_of}
use Rattle.endpoint.specs.Record.{entry_bytes, entry_at, in_ranges, count_fits, wait_fits, awaitable, is_none, entry_fits, entries_fit, unconfirmed_fits, good as Record·good}
use Rattle.endpoint.specs.Record.{given_of, fresh_of, made_of, closed, at_phase, unconfirmed_with, unconfirmed_without, asked, confirmed, limited}
use Rattle.endpoint.specs.Block.{head_bytes, bytes_of as Block·bytesOf, record_in, spare_is_zero, load_of}
use Rattle.table.specs.Table.{begun, open_row, ready_row, data_row, noop_row, close_row, at_row}
use Rattle.receiving.specs.Hearing.{moves_as, hear_row, forbidden, too_large, open_at, carried_by, matches_oldest, unmatched, confirmed_by, reply_to, accepted}
use Rattle.receiving.specs.Hearing.{hear_content, hear_message, hear_of}
use Rattle.receiving.specs.Receiving.{replied, received_of}
use Rattle.receiving.specs.Refusing.{version_code, close_code, silent, refused, unchanged}
use Rattle.sending.specs.Calls.{above_limit, misgiven, good_code, miscoded, number_if, bundle_with}
use Rattle.sending.specs.Sending.{send_row, is_full, number_for, asked_by, sent_by, left_by}

-- numbers, bundles and control frames
unfoldable pub frames : Unit {0}
unfolding flat_map flatten from_bytes_behind from_bytes to_bytes number_at same put_at count_of length_of lengths_before start_of good size_of contents_of frame_of
    bundle_of signed_of version_of known_type_of bytes_of strange_flags body_of read_as reading_of
frames = tt

-- text, varints, fields and doubles
unfoldable pub fields : Unit {0}
unfolding table due_behind rest well_formed payload_at field_at fields_within fields_of said_at varint_at shortest_within shortest_of tag_of varint_field
    eight_field bytes_field in_unsigned of_bits of_int to_bits to_unsigned whole bits_at Double·bytesOf limit_of
fields = tt

-- Structs and Values
unfoldable pub structs : Unit {0}
unfolding key_of value_place find_in walk first_of place_in value_wire value_text value_allowed value_rule value_field value_check bytes_rule key_rule seen_of
    entry_field entry_done entry_check item_field items_check inside struct_check limit_in held_by value_at
structs = tt

-- the OPEN frame, read and written
unfoldable pub opening : Unit {0}
unfolding oversized frame_wire is_there frame_text frame_rule frame_field place_if socket_if keep kept frame_check parts_of opening_of readable out_of_range
    in_range known_socket offered_pipe offered_format open_of offered good_name good_format is_good format_field parameters_field frame_for
opening = tt

-- the endpoint, its block and its rows
unfoldable pub endpoints : Unit {0}
unfolding entry_bytes entry_at in_ranges count_fits wait_fits awaitable is_none entry_fits entries_fit unconfirmed_fits Record·good given_of fresh_of made_of closed
    at_phase unconfirmed_with unconfirmed_without asked confirmed limited head_bytes Block·bytesOf record_in spare_is_zero load_of begun open_row ready_row data_row noop_row close_row at_row
endpoints = tt

unfoldable pub computing : Unit {0}
unfolding frames fields structs opening endpoints moves_as hear_row forbidden too_large open_at carried_by matches_oldest unmatched confirmed_by reply_to accepted
    hear_content hear_message hear_of replied received_of version_code close_code silent refused unchanged above_limit misgiven good_code miscoded
    number_if bundle_with send_row is_full number_for asked_by sent_by left_by
computing = tt
