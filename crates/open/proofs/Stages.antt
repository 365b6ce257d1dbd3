-- One stage behind another, what holds behind all of them, and that what is heard lies in the bytes. Assumes nothing.
use Rattle.std.specs.Prelude.{Result, Ok, Err}
use mathlib.Core.Path.{◌≡◌, refl, sym, ◌∙◌, subst}
use Prim.Native.Nat.{ℕ, ◌+◌, ◌≤◌}
use mathlib.Core.List.{List}
use mathlib.Core.Bool.{Bool, true, false, not, ◌&&◌, ◌||◌}
use lib.Dec.{leb, eqb}
use lib.ListN.{length}
use Rattle.bytes_be.proofs.Tests.{clash}
use Rattle.bytes_be.specs.Part.{part_at, same}
use Rattle.wire.specs.declared.Fault.{Fault}
use Rattle.open.specs.declared.Opening.{Opening}
use Rattle.open.specs.declared.Parts.{Parts}
use Rattle.open.specs.declared.Refusal.{Refusal}
use Rattle.open.specs.declared.Refusal.TheVariants.{Unreadable, OutOfRange, UnknownSocket, OtherPipe, OtherFormat}
use Rattle.open.specs.Frame.{frame_check, parts_of}
use Rattle.open.specs.Offer.{Offer}
use Rattle.open.specs.Open.{opening_of, if_good, readable, refused_if, out_of_range, in_range, known_socket, offered_socket, offered_pipe, offered_format, ◌then◌, open_of, offered, heard_by}
use Rattle.open.proofs.Kept.{parts_lie}
use Rattle.params.specs.Message.{Check, good}

-- what the stages before came to, as a call has found it
module _ (r said : Result Opening Refusal) (is : r ≡ said) (stage : Opening → Result Opening Refusal) where
  pub refused : (refusal : Refusal) → r ≡ Err refusal → r ≡ (said then stage)
  refused refusal e =
      let stops : said ≡ Err refusal = sym is ∙ e in
      e ∙ sym (rw stops)

  pub heard : (opening : Opening) → r ≡ Ok opening → {result : (Result Opening Refusal)} → result ≡ stage opening → result ≡ (said then stage)
  heard opening e h =
      let goes : said ≡ Ok opening = sym is ∙ e in
      rw goes h

module _ (s : List ℕ) (from to : ℕ) where
  pub unreadable : (why : Fault) → Err why ≡ frame_check s from to → Err (Unreadable why) ≡ readable s from to
  unfolding readable
  unreadable why e = rw (← e)

  pub read_whole : good ≡ frame_check s from to → (parts : Parts) → parts ≡ parts_of s from to → (opening : Opening) → opening ≡ opening_of s parts → Ok opening ≡ readable s from to
  unfolding readable
  read_whole e parts held opening is = rw (← e, ← held, ← is)

-- what holds of an opening, of what the stages make of a frame: a refusal says nothing
abbrev pub OfOpening : (Opening → Type 0) → Result Opening Refusal → Type 0
OfOpening Holds (Ok opening) = Holds opening
OfOpening Holds (Err refusal) = Unit

pub then_holds : (First Second : Opening → Type 0) (said : Result Opening Refusal) (stage : Opening → Result Opening Refusal) → ((opening : Opening) → First opening → OfOpening Second (stage opening))
    → OfOpening First said → OfOpening Second (said then stage)
then_holds First Second (Ok opening) stage next first = next opening first
then_holds First Second (Err refusal) stage next first = tt

pub stage_holds : (Holds : Opening → Type 0) (t : Bool) (refusal : Refusal) (opening : Opening) → (t ≡ false → Holds opening) → OfOpening Holds (refused_if t refusal opening)
stage_holds Holds true refusal opening there = tt
stage_holds Holds false refusal opening there = there refl

-- ---- what is heard lies in the bytes

module _ (s : List ℕ) where
  abbrev pub Lies : Opening → Type 0
  Lies opening = (opening.name.at + opening.name.length ≤ length s) × (opening.format.at + opening.format.length ≤ length s)

  readable_lies : (from to : ℕ) → OfOpening Lies (readable s from to)
  unfolding readable opening_of
  readable_lies from to = go (frame_check s from to)
    where
      go : (check : Check) → OfOpening Lies (if_good check (opening_of s (parts_of s from to)))
      go (Ok passed) = let lies = parts_lie s from to in (lies.name, lies.format)
      go (Err why) = tt

  open_lies : (from to : ℕ) → OfOpening Lies (open_of s from to)
  unfolding open_of in_range known_socket
  open_lies from to =
      then_holds Lies Lies (readable s from to then in_range) known_socket (λ opening h. stage_holds Lies (leb 3 opening.socket) UnknownSocket opening (λ passed. h))
      (then_holds Lies Lies (readable s from to) in_range (λ opening h. stage_holds Lies (out_of_range opening) OutOfRange opening (λ passed. h)) (readable_lies from to))

  -- the name and the format that are compared
  pub name_lies : (from to : ℕ) (r : Result Opening Refusal) → r ≡ open_of s from to → (opening : Opening) → r ≡ Ok opening → opening.name.at + opening.name.length ≤ length s
  name_lies from to r is opening e = (subst (OfOpening Lies) (sym is ∙ e) (open_lies from to)).0

  pub format_lies : (from to : ℕ) (r : Result Opening Refusal) → r ≡ open_of s from to → (opening : Opening) → r ≡ Ok opening → opening.format.at + opening.format.length ≤ length s
  format_lies from to r is opening e = (subst (OfOpening Lies) (sym is ∙ e) (open_lies from to)).1

  -- of what a server hears, too
  pub heard_lies : (from to flow : ℕ) (offer : Offer) → OfOpening Lies (heard_by s from to flow offer)
  unfolding offered offered_pipe offered_format
  heard_lies from to flow offer =
      then_holds Lies Lies (open_of s from to then offered_pipe s flow offer.name) (offered_format s offer.format)
      (λ opening h. stage_holds Lies (not (eqb opening.format.length 0) && not (same (part_at s opening.format) offer.format)) OtherFormat opening (λ passed. h))
      (then_holds Lies Lies (open_of s from to) (offered_pipe s flow offer.name)
      (λ opening h. stage_holds Lies (not (same (part_at s opening.name) offer.name) || not (eqb opening.socket (offered_socket flow))) OtherPipe opening (λ passed. h))
      (open_lies from to))

-- ---- what 21 and 22 make of it

module _ (s : List ℕ) (from to flow : ℕ) (offer : Offer) (said : Result Opening Refusal) (is : said ≡ open_of s from to) where
  pub refused_before : (refusal : Refusal) → said ≡ Err refusal → said ≡ heard_by s from to flow offer
  unfolding offered
  refused_before refusal e = refused _ _ (refused said _ is (offered_pipe s flow offer.name) refusal e) (offered_format s offer.format) refusal e

  module _ (opening : Opening) (opened : said ≡ Ok opening) (pipe : Result Opening Refusal) (piped : pipe ≡ offered_pipe s flow offer.name opening) where
    pub other_pipe : (refusal : Refusal) → pipe ≡ Err refusal → pipe ≡ heard_by s from to flow offer
    unfolding offered
    other_pipe refusal e = refused _ _ (heard said _ is (offered_pipe s flow offer.name) opening opened piped) (offered_format s offer.format) refusal e

    -- a stage that hears an opening has heard this one
    the_same : (t : Bool) (refusal : Refusal) (other : Opening) → refused_if t refusal opening ≡ Ok other → opening ≡ other
    the_same true refusal other e = clash cc
    the_same false refusal other e = cc

    pub its_format : (other : Opening) → pipe ≡ Ok other → (formatted : Result Opening Refusal) → formatted ≡ offered_format s offer.format opening → formatted ≡ heard_by s from to flow offer
    unfolding offered offered_pipe
    its_format other e formatted h =
        let same = the_same (not (same (part_at s opening.name) offer.name) || not (eqb opening.socket (offered_socket flow))) OtherPipe other (sym piped ∙ e) in
        heard _ _ (heard said _ is (offered_pipe s flow offer.name) opening opened piped) (offered_format s offer.format) other e (rw same at h)
