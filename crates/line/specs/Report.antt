-- "A program reads one bundle of at most 65,536 bytes from standard input and writes one line for its control frame, or `refused N` for
-- the first of 10, 11, 12, 13. Longer input gives `too long`. For K2 the whole output is `READY v1 flags=0 data=8 frames=0` and a newline."
use Rattle.std.specs.Prelude.{ℕ, ◌+◌, ◌-◌, ◌≤◌, ◌≡◌, List, ◌++◌, cond, length, ltb, Result, Ok, Err}
use Prim.Native.String.{String}
use Rattle.bytes_be.specs.Part.{part_at, put_at}
use Rattle.numbered.specs.Numbered.{if_passed}
use Rattle.bundle.specs.Reading.{contents_of, bad_number}
use Rattle.control.specs.Frame.{control_of, refusal_number}
use Rattle.control.specs.declared.MessageType.{MessageType}
use Rattle.control.specs.declared.MessageType.TheVariants.{Open, Ready, Noop, Data, Close}
use Rattle.control.specs.declared.Control.{Control}
use Rattle.control.specs.declared.Refusal.{Refusal as Refusal-of-control}
use Rattle.bytes_be.specs.Ascii.{ascii}
use Rattle.line.specs.Text.{decimal}
use Rattle.line.specs.declared.Report.{Report}
use Rattle.line.specs.declared.Refusal.{Refusal}
use Rattle.line.specs.declared.Refusal.TheVariants.{TooLong, BadBundle, ControlFrame}

-- a control frame that is read or refused as 11, 12 or 13, in a message of so many data frames
abbrev pub report_of_control : Result Control Refusal-of-control → ℕ → Result Report Refusal
report_of_control (Ok control) frames = Ok (record { control = control; frames = frames })
report_of_control (Err why) frames = Err (ControlFrame why)

-- the answer for an input
unfoldable pub report_of : List ℕ → Result Report Refusal
report_of input =
    cond (ltb 65536 (length input)) (Err TooLong)
    (if_passed (contents_of input) (Err BadBundle) (λ contents.
    report_of_control (control_of (part_at input contents.control)) (contents.count - 1)))

abbrev pub name_of : MessageType → List ℕ
name_of Open = ascii "OPEN"
name_of Ready = ascii "READY"
name_of Noop = ascii "NOOP"
name_of Data = ascii "DATA"
name_of Close = ascii "CLOSE"

-- a number behind its label
abbrev pub field : String → ℕ → List ℕ
field label number = ascii label ++ decimal number

-- `refused N`
abbrev pub refused_line : ℕ → List ℕ
refused_line number = field "refused " number ++ ascii "\n"

-- the answer as a line
unfoldable pub line_of : Result Report Refusal → List ℕ
line_of (Ok report) =
    name_of report.control.message ++ field " v1 flags=" report.control.flags ++ field " data=" report.control.type_data
    ++ field " frames=" report.frames ++ ascii "\n"
line_of (Err TooLong) = ascii "too long\n"
line_of (Err BadBundle) = refused_line (bad_number (record {}))
line_of (Err (ControlFrame why)) = refused_line (refusal_number why)

-- a text is written at a place of a buffer that has room for it: the answer is the place behind it, and all else is left as it was
pub record Put (text before : List ℕ) (at next : ℕ) (after : List ℕ) : Type 0 where
  pub behind : next ≡ at + length text
  pub room : next ≤ length before
  pub left : after ≡ put_at before at text
