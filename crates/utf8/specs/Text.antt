-- "UTF-8 is the Unicode Standard's table of well-formed sequences": its Table 3-7, "Well-Formed UTF-8 Byte Sequences".
use Rattle.std.specs.Prelude.{ℕ, List, [], ◌∷◌, Bool, true, false, ◌&&◌, cond, leb}
use Rattle.std.proofs.Math.Option.{Option, none, some}

-- the bytes from one to another, both among them
pub record Range : Type 0 where
  pub from : ℕ
  pub to : ℕ

infix 70 ◌‥◌
abbrev pub ◌‥◌ : ℕ → ℕ → Range
from ‥ to = record { from = from; to = to }

abbrev pub within : Range → ℕ → Bool
within range b = leb range.from b && leb b range.to

-- where the first byte of a sequence lies, and where those behind it do
pub record Row : Type 0 where
  pub first : Range
  pub behind : List Range

abbrev pub row : Range → List Range → Row
row first behind = record { first = first; behind = behind }

unfoldable pub table : List Row
table =
    row (0x00 ‥ 0x7F) []  -- U+0000..U+007F
    ∷ row (0xC2 ‥ 0xDF) (0x80 ‥ 0xBF ∷ [])  -- U+0080..U+07FF
    ∷ row (0xE0 ‥ 0xE0) (0xA0 ‥ 0xBF ∷ 0x80 ‥ 0xBF ∷ [])  -- U+0800..U+0FFF
    ∷ row (0xE1 ‥ 0xEC) (0x80 ‥ 0xBF ∷ 0x80 ‥ 0xBF ∷ [])  -- U+1000..U+CFFF
    ∷ row (0xED ‥ 0xED) (0x80 ‥ 0x9F ∷ 0x80 ‥ 0xBF ∷ [])  -- U+D000..U+D7FF
    ∷ row (0xEE ‥ 0xEF) (0x80 ‥ 0xBF ∷ 0x80 ‥ 0xBF ∷ [])  -- U+E000..U+FFFF
    ∷ row (0xF0 ‥ 0xF0) (0x90 ‥ 0xBF ∷ 0x80 ‥ 0xBF ∷ 0x80 ‥ 0xBF ∷ [])  -- U+10000..U+3FFFF
    ∷ row (0xF1 ‥ 0xF3) (0x80 ‥ 0xBF ∷ 0x80 ‥ 0xBF ∷ 0x80 ‥ 0xBF ∷ [])  -- U+40000..U+FFFFF
    ∷ row (0xF4 ‥ 0xF4) (0x80 ‥ 0x8F ∷ 0x80 ‥ 0xBF ∷ 0x80 ‥ 0xBF ∷ [])  -- U+100000..U+10FFFF
    ∷ []

-- what is due behind a first byte, as the row that has it says; a byte that no row has begins nothing
unfoldable pub due_behind : List Row → ℕ → Option (List Range)
due_behind [] b = none
due_behind (row ∷ rows) b = cond (within row.first b) (some row.behind) (due_behind rows b)

-- whether there is an answer, and it passes the test
abbrev pub if_some : Option (List Range) → (List Range → Bool) → Bool
if_some none test = false
if_some (some due) test = test due

-- whether a byte of each range that is due comes first, in order, and then sequences of the table to the end
unfoldable pub rest : List Range → List ℕ → Bool
rest [] [] = true
rest [] (b ∷ text) = if_some (due_behind table b) (λ due. rest due text)
rest (range ∷ due) [] = false
rest (range ∷ due) (b ∷ text) = within range b && rest due text

unfoldable pub well_formed : List ℕ → Bool
well_formed text = rest [] text
