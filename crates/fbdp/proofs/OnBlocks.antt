-- From what an endpoint's record makes of a call or a message to what the entry answers on its block, and that a bad block is left as it was.
-- Assumes nothing.
use mathlib.Core.Path.{◌∙◌, ◌≡◌, ap}
use Prim.Native.Nat.{ℕ}
use mathlib.Core.List.{List}
use mathlib.Core.Bool.{false}
use Rattle.std.specs.Prelude.{Result}
use Rattle.bytes_be.proofs.Parts.{put_nothing}
use Rattle.open.specs.Offer.{Offer}
use Rattle.endpoint.specs.declared.Endpoint.{Endpoint}
use Rattle.endpoint.specs.Block.{is_good, load_of}
use Rattle.endpoint.specs.Record.{good}
use Rattle.endpoint.proofs.Round.{loaded_good}
use Rattle.receiving.specs.Numbers.{Received}
use Rattle.receiving.specs.Receiving.{ReceiveAnswer as Heard-by-record, answer_number, received_of, replied}
use Rattle.receiving.specs.Refusing.{unchanged}
use Rattle.sending.specs.declared.Refusal.{Refusal}
use Rattle.sending.specs.declared.Sent.{Sent as Accepted}
use Rattle.sending.specs.Calls.{Call, written}
use Rattle.sending.specs.Sending.{SendAnswer as Sent-by-record, Sent, left_by, number_for, send_of, sent_as, sent_by, unsent}
use Rattle.fbdp.specs.Slots.{answer_slots, in_order}
use Rattle.fbdp.specs.Blocks.{SendOnBlock, ReceiveOnBlock, Finished, BadBlockSends, BadBlockReceives, reply_length, kept_after, kept_by}

module _ (block : List ℕ) (e : Endpoint) (loaded : e ≡ load_of block) where
  -- the answer is that of the record that was loaded

  pub send_finished : (call : Call) (out out' : List ℕ) (sent : Result Accepted Refusal) (number count : ℕ) (block' : List ℕ) →
      Sent-by-record e call out sent out' → Finished (sent_as (load_of block) sent) block number count block' → SendOnBlock call block out number count block' out'
  send_finished call out out' sent number count block' by-record finished =
      let by_loaded : Sent-by-record (load_of block) call out sent out' = rw loaded at by-record in
      record { finished = rw by_loaded.answered at finished; left = by_loaded.left }

  pub receive_finished : (s : List ℕ) (pipe : Offer) (out out' : List ℕ) (received : Received) (number : ℕ) (slots block' : List ℕ) →
      Heard-by-record e s pipe out received out' → number ≡ answer_number received.answer →
      slots ≡ in_order (answer_slots received.answer (reply_length received.reply)) → block' ≡ kept_by received block →
      ReceiveOnBlock s pipe block out number slots block' out'
  receive_finished s pipe out out' received number slots block' by-record its-number its-slots its-block =
      let by_loaded : Heard-by-record (load_of block) s pipe out received out' = rw loaded at by-record in
      let on-block = by_loaded.answered in
      record {
        numbered = its-number ∙ ap (λ (r : Received). answer_number r.answer) on-block;
        told = its-slots ∙ ap (λ (r : Received). in_order (answer_slots r.answer (reply_length r.reply))) on-block;
        kept = its-block ∙ ap (λ (r : Received). kept_by r block) on-block;
        left = by_loaded.left;
      }

-- a block that is not good is left as it was

module _ (block : List ℕ) (bad : is_good block ≡ false) where
  not_good : good (load_of block) ≡ false
  not_good = loaded_good block ∙ bad

  refused_send : (call : Call) (room : ℕ) → send_of (load_of block) call room ≡ unsent (load_of block) 1
  unfolding sent_by number_for
  refused_send call room = simp not_good

  refused_receive : (s : List ℕ) (pipe : Offer) (room : ℕ) → received_of (load_of block) s pipe room ≡ unchanged (load_of block) 1
  unfolding received_of
  refused_receive s pipe room = simp not_good

pub bad_block_sends : BadBlockSends
unfolding left_by kept_after
bad_block_sends call block out number count block' out' bad answer =
    let refusal = refused_send block bad call _ in (
      answer.finished.numbered ∙ ap (λ (s : Sent). s.number) refusal,
      answer.finished.counted ∙ ap (λ (s : Sent). s.written) refusal,
      answer.finished.kept ∙ ap (λ (s : Sent). kept_after s block) refusal,
      answer.left ∙ ap (λ (s : Sent). left_by s (written (load_of block) call) out) refusal,
    )

pub bad_block_receives : BadBlockReceives
unfolding unchanged replied kept_by
bad_block_receives s pipe block out number slots block' out' bad answer =
    let refusal = refused_receive block bad s pipe _ in (
      answer.numbered ∙ ap (λ (r : Received). answer_number r.answer) refusal,
      answer.told ∙ ap (λ (r : Received). in_order (answer_slots r.answer (reply_length r.reply))) refusal,
      answer.kept ∙ ap (λ (r : Received). kept_by r block) refusal,
      answer.left ∙ ap (λ (r : Received). replied r.reply out) refusal ∙ put_nothing out 0,
    )
