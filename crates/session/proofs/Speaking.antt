-- What may be sent at rest: in each phase a call that moves on and that no test refuses, and that a program which has the laws sends. Assumes nothing.
use mathlib.Core.Path.{◌≡◌, refl, sym, ◌∙◌}
use Prim.Native.Nat.{ℕ, zero, suc, ◌-◌, ◌≤◌}
use mathlib.Core.Bool.{Bool, true, false, cond}
use native.Mathlib.Omega.{arith}
use lib.Dec.{eqb, lit<}
use borrow.Author.Tests.{eqb-true, le-ltb, ne_eqb}
use Rattle.utf8.specs.Text.{table, due_behind, rest, well_formed}
use Rattle.open_write.specs.Frame.{good_name, good_format, is_good}
use Rattle.endpoint.specs.declared.Endpoint.{Endpoint}
use Rattle.endpoint.specs.Record.{producer, fresh, opening, idle, offer, batch, shut}
use Rattle.sending.specs.Calls.{Call, OPEN, READY, DATA, message_of, type_data_of, ask_of, above_limit, misgiven, number_if, own_number}
use Rattle.machine.specs.Good.{Fits, Sound}
use Rattle.machine.specs.Programs.{Program}
use Rattle.machine.proofs.Rows.{n_small}
use Rattle.session.specs.World.{End, across, Client, Server}
use Rattle.session.specs.Turns.{role_of}
use Rattle.session.specs.Demand.{pipe_a, empty_datum, MaySend, moves_on, producing}
use Rattle.session.specs.Invariant.{Model}
use Rattle.session.specs.Laws.{Laws, MayCall}
use Rattle.session.proofs.Turns.{across_differs}
use Rattle.session.proofs.Taking.{limit_least}
use Rattle.session.proofs.Table.{Begun, nothing, something, Moved, opens, offers, takes, gives, moved_row}

-- a call that moves on and that no test refuses
pub record Speaks (e : Endpoint) (call : Call) : Type 0 where
  pub fits : Fits call
  pub moves-on : moves_on call ≡ true
  pub may : MayCall e call

-- is sent by a program that has the laws
pub speaks_sent : {A O : Type 0} {prog : Program A O} {model : Model A} → Laws prog model → (self : A) (call : Call) → model.Fine self
    → Speaks (model.view.endpoint self) call → MaySend prog model.view self call
speaks_sent laws self call fine speaks =
    record { fits = speaks.fits; moves-on = speaks.moves-on; accepted = laws.sends self call fine speaks.may speaks.fits }

-- where any count begins
begun_any : (phase count : ℕ) → (next : ℕ) × (m : ℕ) × Begun phase count next m
begun_any phase zero = (idle, 0, nothing refl)
begun_any phase (suc k) = (phase, suc k, something (omega arith))

-- who produces as seen from itself is a producer
is_producer : (end : End) (flow : ℕ) → producing end flow ≡ end → flow ≡ producer
is_producer end flow own = eqb-true flow producer (go (eqb flow producer) own)
  where
    go : (t : Bool) → cond t end (across end) ≡ end → t ≡ true
    go true same = refl
    go false same = absurd (across_differs end same)

named_well : is_good pipe_a ≡ true
unfolding is_good good_name good_format well_formed rest due_behind table
named_well = refl

module _ (end : End) (e : Endpoint) (sound : Sound e) (role : e.role ≡ role_of end) where
  -- the row of a call leads on, and no test refuses it
  may_call : eqb e.phase shut ≡ false → (call : Call) {phase n : ℕ}
      → Moved e.role e.flow e.phase e.n (message_of call) (type_data_of call) phase n
      → ask_of call ≡ false → own_number e call ≡ 0 → MayCall e call
  may_call alive call {phase} {n} moves askless unrefused =
      record {
        sound = sound;
        alive = alive;
        phase = phase;
        n = n;
        leads = moved_row moves;
        askless = askless;
        unrefused = unrefused;
      }

  pub opens_first : end ≡ Client → e.phase ≡ fresh → Speaks e (OPEN pipe_a)
  unfolding misgiven number_if
  opens_first mine begins =
      record {
        fits = lit< tt;
        moves-on = refl;
        may = may_call (rw begins refl) (OPEN pipe_a) (opens (role ∙ rw mine refl) begins) refl (simp named_well);
      }

  pub offers_one : end ≡ Server → opening ≤ e.phase → e.phase ≤ idle → Speaks e (READY 1)
  offers_one mine low high =
      record {
        fits = lit< tt;
        moves-on = refl;
        may =
            may_call (ne_eqb e.phase shut (λ same. omega arith)) (READY 1)
            (offers (λ same. not_client mine (sym role ∙ same)) low high (something (omega arith))) refl refl;
      }
    where
      not_client : end ≡ Server → role_of end ≡ 1 → ⊥
      not_client theirs same = omega (arith, rw theirs at same)

  pub takes_all : end ≡ Client → e.phase ≡ offer → Speaks e (READY e.n)
  takes_all mine offered =
      record {
        fits = n_small e sound;
        moves-on = refl;
        may =
            may_call (rw offered refl) (READY e.n) (takes (role ∙ rw mine refl) offered (omega arith) (begun_any batch e.n).2)
            refl refl;
      }

  pub gives_data : producing end e.flow ≡ end → e.phase ≡ batch → Speaks e (DATA empty_datum)
  unfolding above_limit number_if
  gives_data mine batching =
      record {
        fits = lit< tt;
        moves-on = refl;
        may =
            may_call (rw batching refl) (DATA empty_datum) (gives (is_producer end e.flow mine) batching (begun_any batch (e.n - 1)).2)
            refl (simp (le-ltb e.limit 8 (omega (arith, limit_least e sound))));
      }

-- the phases that are neither 0, 3, 4 nor 5 are 1 and 2
pub one_or_two : (phase : ℕ) → phase ≤ batch → (phase ≡ fresh → ⊥) → (phase ≡ offer → ⊥) → (phase ≡ batch → ⊥) → (opening ≤ phase) × (phase ≤ idle)
one_or_two phase low later neither not-batch = (omega (arith, later), omega (arith, low, neither, not-batch))
