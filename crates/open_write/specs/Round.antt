-- An OPEN frame that was written is read as it was given: what a server of any flow and offer hears of it.
use Rattle.std.specs.Prelude.{ℕ, ◌+◌, ◌≡◌, List, [], Bool, true, cond, not, ◌&&◌, ◌||◌, length, eqb, Result, Ok}
use Rattle.bytes_be.specs.Part.{holds, part, part_at, same}
use Rattle.double.specs.Limit.{most_limit, in_limits}
use Rattle.terms.specs.Announced.{announced_limit}
use Rattle.open.specs.declared.Opening.{Opening}
use Rattle.open.specs.declared.Refusal.TheVariants.{OtherPipe, OtherFormat}
use Rattle.open.specs.declared.Refusal.{Refusal}
use Rattle.open.specs.Offer.{Offer}
use Rattle.open.specs.Open.{refused_if, offered_socket, ◌then◌, open_of, heard_by}
use Rattle.open_write.specs.Frame.{is_good, socket_of, limit_struct, frame_for, written}

-- what 21 asks: "pipe name or socket not the offered one"
abbrev pub same_pipe : ℕ → Offer → ℕ → Offer → Bool
same_pipe flow asked serverFlow offer = same asked.name offer.name && eqb (socket_of flow) (offered_socket serverFlow)

-- and 22: "format not empty and not the offered one"
abbrev pub same_format : Offer → Offer → Bool
same_format asked offer = eqb (length asked.format) 0 || same asked.format offer.format

-- refused only where name, socket or format is not the offered one
unfoldable pub answer_to : ℕ → Offer → Opening → ℕ → Offer → Result Opening Refusal
answer_to flow asked opening serverFlow offer =
    refused_if (not (same asked.name offer.name) || not (eqb (socket_of flow) (offered_socket serverFlow))) OtherPipe opening
    then refused_if (not (eqb (length asked.format) 0) && not (same asked.format offer.format)) OtherFormat

-- the same socket, name, format and limit, of the frame from `from` to `to`
pub record ReadBack (flow : ℕ) (asked : Offer) (limit : ℕ) (s : List ℕ) (from to : ℕ) : Type 0 where
  pub opening : Opening
  -- 18, 19 and 20 do not refuse it
  pub opened : open_of s from to ≡ Ok opening
  pub socket : opening.socket ≡ socket_of flow
  pub named : part_at s opening.name ≡ asked.name
  pub formatted : part_at s opening.format ≡ asked.format
  pub long : opening.format.length ≡ length asked.format
  pub parametrized : part_at s opening.parameters ≡ cond (eqb limit most_limit) [] (limit_struct limit)
  pub limited : announced_limit opening.announced ≡ limit
  pub heard : (serverFlow : ℕ) (offer : Offer) → heard_by s from to serverFlow offer ≡ answer_to flow asked opening serverFlow offer

-- for every flow and every good name, format and limit, wherever the frame stands
abbrev pub ReadsBack : Type 0
ReadsBack =
    (flow : ℕ) (asked : Offer) (limit : ℕ) → is_good asked ≡ true → in_limits limit ≡ true
    → (s : List ℕ) (from : ℕ) → part s from (length (frame_for flow asked limit)) ≡ frame_for flow asked limit
    → ReadBack flow asked limit s from (from + length (frame_for flow asked limit))

-- and so in every output that has room for it
abbrev pub WrittenReadsBack : Type 0
WrittenReadsBack =
    (flow : ℕ) (asked : Offer) (limit : ℕ) → is_good asked ≡ true → in_limits limit ≡ true
    → (out : List ℕ) (at : ℕ) → holds (length out) at (length (frame_for flow asked limit)) ≡ true
    → ReadBack flow asked limit (written flow asked limit at out) at (at + length (frame_for flow asked limit))
