-- A pipe name and a format, of any bytes: what an OPEN asks for, which 34 tests, and what a server offers, which is "only compared, never tested".
use Rattle.std.specs.Prelude.{ℕ, List, []}
use Rattle.open.specs.declared.Offer.{Offer as Offer-as-Lent}

pub record Offer : Type 0 where
  pub name : List ℕ
  pub format : List ℕ

-- the offer of a name and a format that stand apart
abbrev pub offer_of : List ℕ → List ℕ → Offer
offer_of name format = record { name = name; format = format }

-- the offer that is lent
abbrev pub offer_in : Offer-as-Lent → Offer
offer_in lent = offer_of lent.name.now lent.format.now

-- of an end to which no OPEN comes
abbrev pub no_offer : Offer
no_offer = offer_of [] []
