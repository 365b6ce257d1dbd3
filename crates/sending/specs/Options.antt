-- The options of a call, as a host gives them: bits of one number, 1 for an ask and 2 for no body. "Sending gets the same choice." Bits that a
-- call has no option for are not looked at.
use Rattle.std.specs.Prelude.{ℕ, ◌+◌, ◌/◌, ◌%◌, ◌≡◌, Bool, false, cond, eqb}
use Rattle.sending.specs.Calls.{is_missing, Call, OPEN, READY, DATA, NOOP, CLOSE, ask_of}

abbrev pub asking : ℕ
asking = 1

abbrev pub without_body : ℕ
without_body = 2

-- whether an option is among those given
abbrev pub is_chosen : ℕ → ℕ → Bool
is_chosen option how = eqb (how / option % 2) 1

-- only DATA chooses between a body and none
abbrev pub omits_body : Call → Bool
omits_body (OPEN asked) = false
omits_body (READY count) = false
omits_body (DATA datum) = is_missing datum.body
omits_body (NOOP type-data ask) = false
omits_body (CLOSE code) = false

-- the options that a call was given
abbrev pub how_of : Call → ℕ
how_of call = cond (ask_of call) asking 0 + cond (omits_body call) without_body 0

-- they say what the call is
abbrev pub OptionsSay : Type 0
OptionsSay = (call : Call) → (is_chosen asking (how_of call) ≡ ask_of call) × (is_chosen without_body (how_of call) ≡ omits_body call)
