-- "Bad input is refused by a listed number"; what is answered otherwise has the number 0.
use Rattle.std.specs.Prelude.{ℕ, Result, Ok, Err}

-- the number of an answer, by that of its error
abbrev pub number_of : {T : Type 0} → {E : Type 0} → (E → ℕ) → Result T E → ℕ
number_of number (Ok answer) = 0
number_of number (Err why) = number why

-- what follows an answer, or what is given where it was refused
abbrev pub if_passed : {T : Type 0} → {E : Type 0} → {A : Type 0} → Result T E → A → (T → A) → A
if_passed (Ok answer) refused next = next answer
if_passed (Err why) refused next = refused
