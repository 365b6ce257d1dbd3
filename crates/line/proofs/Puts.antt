-- What a row of texts leaves in a buffer. Assumes nothing.
use mathlib.Core.Path.{◌≡◌, sym, ap, ◌∙◌}
use mathlib.Core.List.{List, ◌++◌}
use Prim.Native.Nat.{ℕ, ◌≤◌}
use native.Mathlib.Omega.{arith}
use lib.ListN.{length, length-append}
use Rattle.bytes_be.specs.Part.{put_at}
use Rattle.bytes_be.proofs.Parts.{put_then, length_put}
use Rattle.control.specs.declared.MessageType.{MessageType}
use Rattle.control.specs.declared.MessageType.TheVariants.{Open, Ready, Noop, Data, Close}
use Rattle.line.specs.Report.{name_of, Put}

-- a text right behind another
pub put_more : {text more before between after : List ℕ} {at next last : ℕ} →
    Put text before at next between → Put more between next last after → Put (text ++ more) before at last after
put_more {text} {more} {before} {between} {at = at} {next = next} one two =
    let kept : length between ≡ length before = ap length one.left ∙ length_put before at text in
    record {
      behind = simp length-append (omega (arith, one.behind, two.behind));
      room = omega (arith, two.room);
      left = two.left ∙ ap (λ (o : List ℕ). put_at o next more) one.left ∙ put_then before at text more next (sym one.behind) (omega (arith, two.behind, two.room));
    }

-- a text that was written lies in the buffer
pub put_held : {text before after : List ℕ} {at next : ℕ} → Put text before at next after → next ≤ length after
put_held {text} {before} {at = at} one = omega (arith, one.room, ap length one.left ∙ length_put before at text)

-- no name is longer than five letters
pub name_short : (message : MessageType) → length (name_of message) ≤ 5
name_short Open = omega arith
name_short Ready = omega arith
name_short Noop = omega arith
name_short Data = omega arith
name_short Close = omega arith
