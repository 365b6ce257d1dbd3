-- What is announced is in the limits, or 19 refuses it. Assumes nothing.
use Rattle.std.specs.Prelude.{Option, Some, None, Result, Ok, Err}
use mathlib.Core.Path.{◌≡◌, refl}
use Prim.Native.Nat.{◌+◌, ℕ}
use mathlib.Core.List.{List}
use mathlib.Core.Bool.{◌&&◌, true}
use native.Mathlib.Omega.{arith}
use lib.Ieee.{Float}
use Rattle.bytes_be.proofs.Tests.{both_true, clash, took_first}
use Rattle.double.specs.Limit.{in_limits, integer_of, is_whole, limit_of}
use Rattle.wire.specs.declared.Fault.{Fault}
use Rattle.params.specs.Keys.{find_in}
use Rattle.terms.specs.declared.Value.{Value}
use Rattle.terms.specs.declared.Value.TheVariants.{Null, Number, Text, Boolean, Struct, List as Value-as-List}
use Rattle.bytes_be.specs.declared.Place.{Place}
use Rattle.terms.specs.Announced.{Announced, announced_limit, announced_number, from_double, from_held, from_found, from_value, limit_in, limit_key}
use Rattle.terms.specs.Value.{value_at}

bad_whole : {n : ℕ} → None ≡ Some n → ⊥
bad_whole e = clash cc

-- what a double says is in the limits
whole_bounded : (double : Float) (n : ℕ) → limit_of double ≡ Some n → in_limits n ≡ true
unfolding limit_of
whole_bounded double n e =
    let taken = took_first (is_whole double && in_limits (integer_of double)) bad_whole e in
    let whole : Some (integer_of double) ≡ Some n = taken.1 in
    let number : integer_of double ≡ n = cc in
    rw (← number) (both_true (is_whole double) (in_limits (integer_of double)) taken.0).1

-- what is announced is in the limits, or 19 refuses it
abbrev pub Limited : Announced → Type 0
Limited announced = in_limits (announced_limit announced) ≡ true

abbrev pub Bounded : Announced → Type 0
Bounded announced = announced_number announced ≡ 0 → Limited announced

double_bounded : (limit : Option ℕ) → ((n : ℕ) → limit ≡ Some n → in_limits n ≡ true) → Bounded (from_double limit)
double_bounded (Some n) there fine = there n refl
double_bounded None there bad = absurd (omega arith)

value_bounded : (value : Value) → Bounded (from_value value)
value_bounded (Number double bits) fine = double_bounded (limit_of double) (whole_bounded double) fine
value_bounded Null bad = absurd (omega arith)
value_bounded (Text place) bad = absurd (omega arith)
value_bounded (Boolean truth) bad = absurd (omega arith)
value_bounded Struct bad = absurd (omega arith)
value_bounded Value-as-List bad = absurd (omega arith)

held_bounded : (held : Result Value Fault) → Bounded (from_held held)
held_bounded (Ok value) fine = value_bounded value fine
held_bounded (Err why) bad = absurd (omega arith)

found_bounded : (s : List ℕ) (found : Option Place) → Bounded (from_found s found)
found_bounded s (Some place) fine = held_bounded (value_at s place.at (place.at + place.length)) fine
found_bounded s None fine = refl

pub limit_bounded : (s : List ℕ) (from to : ℕ) → Bounded (limit_in s from to)
unfolding limit_in
limit_bounded s from to = found_bounded s (find_in s from to limit_key)
