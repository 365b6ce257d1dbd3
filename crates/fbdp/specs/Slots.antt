-- The numbers that `fbdp_receive` tells, each in its slot: the fields of `struct fbdp_heard`, in their order.
use Rattle.std.specs.Prelude.{ℕ, ◌≡◌, List, [], ◌∷◌, ◌++◌, get_or}
use Rattle.bytes_be.specs.declared.Place.{Place}
use Rattle.control.specs.Frame.{type_of}
use Rattle.params.specs.Message.{nowhere}
use Rattle.receiving.specs.declared.Content.{Content}
use Rattle.receiving.specs.declared.Content.TheVariants.{Nothing, Opening, Body}
use Rattle.receiving.specs.declared.Heard.{Heard}
use Rattle.receiving.specs.Numbers.{Answer, Heard as Answer-as-Heard, Stays, Closes}

-- what a message carries: nine slots
pub record Carries : Type 0 where
  pub socket : ℕ
  pub name : Place
  pub format : Place
  pub parameters : Place
  pub body : Place

-- all of them, but for two that are spare
pub record Slots : Type 0 where
  pub message : ℕ
  pub flags : ℕ
  pub type-data : ℕ
  -- how many bytes the reply has
  pub reply : ℕ
  -- how many data frames
  pub frames : ℕ
  pub carries : Carries

-- a place is two slots
abbrev pub place_slots : Place → List ℕ
place_slots place = place.at ∷ place.length ∷ []

abbrev pub carried_in_order : Carries → List ℕ
carried_in_order carries =
    (carries.socket ∷ [])
    ++ place_slots carries.name ++ place_slots carries.format ++ place_slots carries.parameters ++ place_slots carries.body

abbrev pub in_order : Slots → List ℕ
in_order slots =
    (slots.message ∷ slots.flags ∷ slots.type-data ∷ slots.reply ∷ slots.frames ∷ [])
    ++ carried_in_order slots.carries
    ++ (0 ∷ 0 ∷ [])

-- the other way: what stands in each slot
abbrev pub place_in : List ℕ → ℕ → ℕ → Place
place_in numbers at length_at = record { at = get_or numbers at 0; length = get_or numbers length_at 0 }

abbrev pub slots_in : List ℕ → Slots
slots_in numbers =
    record {
      message = get_or numbers 0 0;
      flags = get_or numbers 1 0;
      type-data = get_or numbers 2 0;
      reply = get_or numbers 3 0;
      frames = get_or numbers 4 0;
      carries =
          record {
            socket = get_or numbers 5 0;
            name = place_in numbers 6 7;
            format = place_in numbers 8 9;
            parameters = place_in numbers 10 11;
            body = place_in numbers 12 13;
          };
    }

abbrev pub SlotsStand : Type 0
SlotsStand = (slots : Slots) → slots_in (in_order slots) ≡ slots

-- ---- what is told of a message

abbrev pub carries_of : Content → Carries
carries_of Nothing = record { socket = 0; name = nowhere; format = nowhere; parameters = nowhere; body = nowhere }
carries_of (Opening opening) =
    record { socket = opening.socket; name = opening.name; format = opening.format; parameters = opening.parameters; body = nowhere }
carries_of (Body place) = record { socket = 0; name = nowhere; format = nowhere; parameters = nowhere; body = place }

-- of one that is heard
unfoldable pub heard_slots : Heard → ℕ → Slots
heard_slots heard reply =
    record {
      message = type_of heard.message;
      flags = heard.flags;
      type-data = heard.type_data;
      reply = reply;
      frames = heard.frames;
      carries = carries_of heard.content;
    }

-- a refusal says nothing but how long its reply is
abbrev pub refused_slots : ℕ → Slots
refused_slots reply =
    record { message = 0; flags = 0; type-data = 0; reply = reply; frames = 0; carries = carries_of Nothing }

abbrev pub answer_slots : Answer → ℕ → Slots
answer_slots (Answer-as-Heard heard) reply = heard_slots heard reply
answer_slots (Stays number) reply = refused_slots reply
answer_slots (Closes number) reply = refused_slots reply
