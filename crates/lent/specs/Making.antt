-- "A Rattle caller lends the endpoint record, which is changed in place": what making answers and leaves, by the same definition as for what is made
-- by value.
use Rattle.std.specs.Prelude.{ℕ, ◌≡◌}
use Rattle.endpoint.specs.declared.Endpoint.{Endpoint}
use Rattle.endpoint.specs.Record.{given_number, made_of, made_or}

-- what making this endpoint answers, and the record afterwards: the fresh one, or the one that was lent
pub record MakeOnLent (e made : Endpoint) (number : ℕ) (next : Endpoint) : Type 0 where
  pub answered : number ≡ given_number (made_of made)
  pub changed : next ≡ made_or e (made_of made)
