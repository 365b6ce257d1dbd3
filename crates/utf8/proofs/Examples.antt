-- Bytes at the edges of the table, by computation: which are text, and which are not. Assumes nothing.
use mathlib.Core.Path.{◌≡◌, refl}
use mathlib.Core.List.{[], ◌∷◌}
use mathlib.Core.Bool.{true, false}
use Rattle.utf8.specs.Text.{table, due_behind, rest, well_formed}

e_acute : well_formed (0xC3 ∷ 0xA9 ∷ []) ≡ true
unfolding well_formed rest due_behind table
e_acute = refl

-- U+10FFFF
last_code_point : well_formed (0xF4 ∷ 0x8F ∷ 0xBF ∷ 0xBF ∷ []) ≡ true
unfolding well_formed rest due_behind table
last_code_point = refl

-- what would be U+110000
above_the_last : well_formed (0xF4 ∷ 0x90 ∷ 0x80 ∷ 0x80 ∷ []) ≡ false
unfolding well_formed rest due_behind table
above_the_last = refl

-- what would be U+D800
surrogate : well_formed (0xED ∷ 0xA0 ∷ 0x80 ∷ []) ≡ false
unfolding well_formed rest due_behind table
surrogate = refl

-- U+0000 in two bytes
overlong : well_formed (0xC0 ∷ 0x80 ∷ []) ≡ false
unfolding well_formed rest due_behind table
overlong = refl

-- U+20AC without its last byte
cut_short : well_formed (0xE2 ∷ 0x82 ∷ []) ≡ false
unfolding well_formed rest due_behind table
cut_short = refl

-- a byte that none in front made due
not_begun : well_formed (0x41 ∷ 0x80 ∷ []) ≡ false
unfolding well_formed rest due_behind table
not_begun = refl
