-- The options that a call was given say whether it asks and whether it leaves its body out. Assumes nothing.
use mathlib.Core.Path.{◌≡◌, refl}
use Prim.Native.Nat.{◌+◌}
use mathlib.Core.Bool.{Bool, true, false, cond}
use Rattle.sending.specs.Calls.{ask_of}
use Rattle.sending.specs.Options.{asking, without_body, is_chosen, omits_body, OptionsSay}

both_said : (ask omits : Bool)
    → (is_chosen asking (cond ask asking 0 + cond omits without_body 0) ≡ ask)
    × (is_chosen without_body (cond ask asking 0 + cond omits without_body 0) ≡ omits)
both_said true true = (refl, refl)
both_said true false = (refl, refl)
both_said false true = (refl, refl)
both_said false false = (refl, refl)

pub options_say : OptionsSay
options_say call = both_said (ask_of call) (omits_body call)
