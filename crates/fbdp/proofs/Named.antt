-- The slots stand where they are named. Assumes nothing.
use mathlib.Core.Path.{refl}
use Rattle.fbdp.specs.Slots.{SlotsStand}

pub slots_stand : SlotsStand
slots_stand slots = refl
