-- What `send_plain` and `frame_size` promise: a message without data frames, and the size of the frame of an OPEN.
use Rattle.std.specs.Prelude.{ℕ, [], Bool, length, Result, Ok, Err}
use Rattle.control.specs.declared.MessageType.{MessageType}
use Rattle.open_write.specs.declared.BadOffer.{BadOffer}
use Rattle.sending.specs.Calls.{Outgoing, bundle_with}

-- what is to be tested of a message without data frames
abbrev pub plain : MessageType → ℕ → Bool → ℕ → Outgoing
plain message type-data ask own =
    record {
      message = message;
      type_data = type-data;
      ask = ask;
      own = own;
      length = length (bundle_with message ask type-data []);
    }

-- how many bytes the frame of an OPEN has; 0 where 34 refuses it
abbrev pub frame_size : Result ℕ BadOffer → ℕ
frame_size (Ok size) = size
frame_size (Err why) = 0
