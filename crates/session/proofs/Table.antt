-- What a row that leads on says: whose message it is, in which phases, and where it leads; and that both ends read one table. Assumes nothing.
use mathlib.Core.Path.{◌≡◌, refl, sym, ap, subst, ◌∙◌}
use Prim.Native.Nat.{ℕ, ◌-◌, ◌<◌, ◌≤◌}
use mathlib.Core.Bool.{Bool, true, false, cond, ◌&&◌, ◌||◌}
use native.Mathlib.Omega.{arith}
use lib.Dec.{eqb, leb}
use borrow.Author.Tests.{eq-eqb, eqb-false, eqb-true, le-leb, leb-true, ne_eqb}
use Rattle.std.specs.Prelude.{Err, Ok, Result}
use Rattle.bytes_be.proofs.Tests.{both_true, clash}
use Rattle.control.specs.declared.MessageType.{MessageType}
use Rattle.control.specs.declared.MessageType.TheVariants.{Open, Ready, Noop, Data, Close}
use Rattle.endpoint.specs.Record.{client, producer, fresh, opening, idle, offer, batch, shut}
use Rattle.table.specs.declared.Refusal.{Refusal}
use Rattle.table.specs.declared.Step.{Step}
use Rattle.table.specs.Table.{To, allowed, begun, close_row, data_row, noop_row, open_row, other, ready_row, row_of, up_to}
use Rattle.session.specs.World.{End, across, Ending, ended_by, Client, Server, Going}
use Rattle.session.specs.Packets.{Packet, row_message, type_data_in}
use Rattle.session.specs.Turns.{role_of, Kind, kind_of, Stage, Standing, Active, Alive, Leads, Hears, Moves, Stays, Ends, At, ClosedByOther}
use Rattle.session.specs.Turns.{ClosedByItself, moved, rested, closed}
use Rattle.session.specs.Demand.{turn}

-- "k=0: 2; else .., n=k"
pub data Begun (phase count : ℕ) : ℕ → ℕ → Type 0 where
  nothing : count ≡ 0 → Begun phase count idle 0
  something : 0 < count → Begun phase count phase count

-- the rows that lead on
pub data Moved (role flow phase n : ℕ) : MessageType → ℕ → ℕ → ℕ → Type 0 where
  opens : {type-data : ℕ} → role ≡ client → phase ≡ fresh → Moved role flow phase n Open type-data opening 0
  offers : {count next m : ℕ} → (role ≡ client → ⊥) → opening ≤ phase → phase ≤ idle → Begun offer count next m
      → Moved role flow phase n Ready count next m
  takes : {count next m : ℕ} → role ≡ client → phase ≡ offer → count ≤ n → Begun batch count next m → Moved role flow phase n Ready count next m
  gives : {type-data next m : ℕ} → flow ≡ producer → phase ≡ batch → Begun batch (n - 1) next m → Moved role flow phase n Data type-data next m
  rests : {type-data : ℕ} → idle ≤ phase → phase ≤ batch → Moved role flow phase n Noop type-data phase n
  closes : {type-data : ℕ} → opening ≤ phase → phase ≤ batch → Moved role flow phase n Close type-data shut 0

-- what holds of where a row leads, if it leads on
abbrev Where : (ℕ → ℕ → Type 0) → Result Step Refusal → Type 0
Where P (Err refusal) = Unit
Where P (Ok step) = P step.phase step.n

module _ (P : ℕ → ℕ → Type 0) where
  allowed_where : (t : Bool) (row : Result Step Refusal) → (t ≡ true → Where P row) → Where P (allowed t row)
  allowed_where true row there = there refl
  allowed_where false row there = tt

  up_to_where : (t : Bool) (row : Result Step Refusal) → (t ≡ true → Where P row) → Where P (up_to t row)
  up_to_where true row there = there refl
  up_to_where false row there = tt

  begun_where : (phase count : ℕ) → ((next m : ℕ) → Begun phase count next m → P next m) → Where P (begun phase count)
  unfolding begun
  begun_where phase count there = go (eqb count 0) refl
    where
      go : (t : Bool) → eqb count 0 ≡ t → Where P (cond t (To idle 0) (To phase count))
      go true zero-count = there idle 0 (nothing (eqb-true count 0 zero-count))
      go false differs = there phase count (something (omega (arith, eqb-false count 0 differs)))

module _ (phase : ℕ) where
  -- "phase 1 or 2"
  early : eqb phase opening || eqb phase idle ≡ true → (opening ≤ phase) × (phase ≤ idle)
  early = go (eqb phase opening) refl
    where
      go : (t : Bool) → eqb phase opening ≡ t → t || eqb phase idle ≡ true → (opening ≤ phase) × (phase ≤ idle)
      go true is-opening _ = (omega (arith, eqb-true phase opening is-opening), omega (arith, eqb-true phase opening is-opening))
      go false _ is-idle = (omega (arith, eqb-true phase idle is-idle), omega (arith, eqb-true phase idle is-idle))

  between : (low high : ℕ) → leb low phase && leb phase high ≡ true → (low ≤ phase) × (phase ≤ high)
  between low high both =
      let halves = both_true (leb low phase) (leb phase high) both in
      (leb-true low phase halves.0, leb-true phase high halves.1)

module _ (role flow phase n : ℕ) where
  open_where : (type-data : ℕ) → Where (Moved role flow phase n Open type-data) (open_row role phase)
  unfolding open_row
  open_where type-data = allowed_where _ (eqb role client && eqb phase fresh) _ there
    where
      there : eqb role client && eqb phase fresh ≡ true → Moved role flow phase n Open type-data opening 0
      there both =
          let halves = both_true (eqb role client) (eqb phase fresh) both in
          opens (eqb-true role client halves.0) (eqb-true phase fresh halves.1)

  ready_where : (count : ℕ) → Where (Moved role flow phase n Ready count) (ready_row role phase n count)
  unfolding ready_row
  ready_where count = go (eqb role client) refl
    where
      P : ℕ → ℕ → Type 0
      P = Moved role flow phase n Ready count

      go : (t : Bool) → eqb role client ≡ t
          → Where P
          (cond t (allowed (eqb phase offer) (up_to (leb count n) (begun batch count)))
          (allowed (eqb phase opening || eqb phase idle) (begun offer count)))
      go true is_client =
          allowed_where P (eqb phase offer) _
          (λ offered. up_to_where P (leb count n) _
          (λ few. begun_where P batch count (λ next m. takes (eqb-true role client is_client) (eqb-true phase offer offered) (leb-true count n few))))
      go false differs =
          allowed_where P (eqb phase opening || eqb phase idle) _
          (λ there. begun_where P offer count (λ next m. offers (eqb-false role client differs) (early phase there).0 (early phase there).1))

  data_where : (type-data : ℕ) → Where (Moved role flow phase n Data type-data) (data_row flow phase n)
  unfolding data_row
  data_where type-data = allowed_where _ (eqb flow producer && eqb phase batch) _ there
    where
      there : eqb flow producer && eqb phase batch ≡ true → Where (Moved role flow phase n Data type-data) (begun batch (n - 1))
      there both =
          let halves = both_true (eqb flow producer) (eqb phase batch) both in
          begun_where _ batch (n - 1) (λ next m. gives (eqb-true flow producer halves.0) (eqb-true phase batch halves.1))

  row_where : (message : MessageType) (type-data : ℕ) → Where (Moved role flow phase n message type-data) (row_of role flow phase n message type-data)
  unfolding noop_row close_row
  row_where Open type-data = open_where type-data
  row_where Ready type-data = ready_where type-data
  row_where Noop type-data =
      allowed_where _ (leb idle phase && leb phase batch) _ (λ there. rests (between phase idle batch there).0 (between phase idle batch there).1)
  row_where Data type-data = data_where type-data
  row_where Close type-data =
      allowed_where _ (leb opening phase && leb phase batch) _
      (λ there. closes (between phase opening batch there).0 (between phase opening batch there).1)

-- a row that leads on is one of these
pub row_moved : (role flow phase n : ℕ) (message : MessageType) (type-data next count : ℕ) → row_of role flow phase n message type-data ≡ To next count
    → Moved role flow phase n message type-data next count
row_moved role flow phase n message type-data next count leads =
    subst (Where (Moved role flow phase n message type-data)) leads (row_where role flow phase n message type-data)

-- no row leads on from phase 5
pub moved_low : {role flow phase n type-data next count : ℕ} {message : MessageType} → Moved role flow phase n message type-data next count
    → phase ≤ batch
moved_low (opens role begins) = omega arith
moved_low (offers differs low high begins) = omega arith
moved_low (takes role offered few begins) = omega arith
moved_low (gives produces batched begins) = omega arith
moved_low (rests low high) = high
moved_low (closes low high) = high

-- a batch or an offer that begins is no phase 5
begun_low : {begins count next m : ℕ} → begins ≤ batch → Begun begins count next m → next ≤ batch
begun_low low (nothing none) = omega arith
begun_low low (something some) = low

-- where a row leads: to a phase in which neither end has closed by it, or, by a CLOSE, to phase 5 without n
pub data Landed : MessageType → ℕ → ℕ → Type 0 where
  goes_on : {message : MessageType} {next count : ℕ} → ((by-close : Ending) → ended_by by-close message Going ≡ Going) → next ≤ batch → Landed message next count
  closes_both : Landed Close shut 0

pub moved_lands : {role flow phase n type-data next count : ℕ} {message : MessageType} → Moved role flow phase n message type-data next count
    → Landed message next count
moved_lands (opens role begins) = goes_on {next = opening} (λ by-close. refl) (omega arith)
moved_lands (offers differs low high begins) = goes_on (λ by-close. refl) (begun_low {begins = offer} (omega arith) begins)
moved_lands (takes role offered few begins) = goes_on (λ by-close. refl) (begun_low {begins = batch} (omega arith) begins)
moved_lands (gives produces batched begins) = goes_on (λ by-close. refl) (begun_low {begins = batch} (omega arith) begins)
moved_lands (rests low high) = goes_on (λ by-close. refl) high
moved_lands (closes low high) = closes_both

-- and each of these leads on

begun_row : {phase count next m : ℕ} → Begun phase count next m → begun phase count ≡ To next m
unfolding begun
begun_row {count = count} (nothing none) = simp (eq-eqb count 0 none) refl
begun_row {count = count} (something some) = simp (ne_eqb count 0 (λ none. omega arith)) refl

is_early : (phase : ℕ) → opening ≤ phase → phase ≤ idle → eqb phase opening || eqb phase idle ≡ true
is_early phase low high = go (eqb phase opening) refl
  where
    go : (t : Bool) → eqb phase opening ≡ t → t || eqb phase idle ≡ true
    go true _ = refl
    go false later = eq-eqb phase idle (omega (arith, eqb-false phase opening later))

pub moved_row : {role flow phase n type-data next count : ℕ} {message : MessageType} → Moved role flow phase n message type-data next count
    → row_of role flow phase n message type-data ≡ To next count
unfolding open_row ready_row data_row noop_row close_row
moved_row {role = role} {phase = phase} (opens is_client begins) = simp (eq-eqb role client is_client, eq-eqb phase fresh begins) refl
moved_row {role = role} {phase = phase} (offers differs low high begins) =
    simp (ne_eqb role client differs, is_early phase low high) (begun_row begins)
moved_row {role = role} {phase = phase} {n = n} {type-data = count} (takes is_client offered few begins) =
    simp (eq-eqb role client is_client, eq-eqb phase offer offered, le-leb count n few) (begun_row begins)
moved_row {flow = flow} {phase = phase} (gives produces batched begins) =
    simp (eq-eqb flow producer produces, eq-eqb phase batch batched) (begun_row begins)
moved_row {phase = phase} (rests low high) = simp (le-leb idle phase low, le-leb phase batch high) refl
moved_row {phase = phase} (closes low high) = simp (le-leb opening phase low, le-leb phase batch high) refl

-- the flow counts in phase 4 alone
of_flow : {role flow phase n type-data next count : ℕ} {message : MessageType} (seen : ℕ) → (phase ≡ batch → seen ≡ producer)
    → Moved role flow phase n message type-data next count → Moved role seen phase n message type-data next count
of_flow seen there (opens is_client begins) = opens is_client begins
of_flow seen there (offers differs low high begins) = offers differs low high begins
of_flow seen there (takes is_client offered few begins) = takes is_client offered few begins
of_flow seen there (gives produces batched begins) = gives (there batched) batched begins
of_flow seen there (rests low high) = rests low high
of_flow seen there (closes low high) = closes low high

-- where a message that moves leads: from phase 0 to 1, or to 2, 3 or 4
data Onward (phase next : ℕ) : Type 0 where
  first : phase ≡ fresh → next ≡ opening → Onward phase next
  later : idle ≤ next → next ≤ batch → Onward phase next

begun_onward : {phase begins count next m : ℕ} → idle ≤ begins → begins ≤ batch → Begun begins count next m → Onward phase next
begun_onward low high (nothing none) = later (omega arith) (omega arith)
begun_onward low high (something some) = later low high

moves_onward : {role flow phase n type-data next count : ℕ} {message : MessageType} → kind_of message ≡ Moves
    → Moved role flow phase n message type-data next count → Onward phase next
moves_onward moving (opens is_client begins) = first begins refl
moves_onward moving (offers differs low high begins) = begun_onward (omega arith) (omega arith) begins
moves_onward moving (takes is_client offered few begins) = begun_onward (omega arith) (omega arith) begins
moves_onward moving (gives produces batched begins) = begun_onward (omega arith) (omega arith) begins
moves_onward moving (rests low high) = later low high
moves_onward moving (closes low high) = clash cc

onward_alive : {phase next : ℕ} → Onward phase next → (opening ≤ next) × (next ≤ batch)
onward_alive (first begins opened) = (omega arith, omega arith)
onward_alive (later low high) = (omega arith, high)

onward_active : {phase next : ℕ} → Onward phase next → idle ≤ phase → (idle ≤ next) × (next ≤ batch)
onward_active (first begins opened) active = absurd (omega arith)
onward_active (later low high) active = (low, high)

module _ (source : End) (s : Stage) (m : Packet) (t : Stage) (moving : kind_of (row_message m) ≡ Moves) (leads : Leads source s m t) where
  leads_onward : Onward s.phase t.phase
  leads_onward =
      moves_onward moving
      (row_moved (role_of (turn source s.phase)) producer s.phase s.n (row_message m) (type_data_in m) t.phase t.n leads)

  pub leads_alive : Alive t.phase
  leads_alive = onward_alive leads_onward

  pub leads_active : Active s.phase → Active t.phase
  leads_active active = onward_active leads_onward active.0

-- an end sends: what moves the stage only where it is its turn
module _ (source : End) where
  pub data Sends (end : End) : Standing → Packet → Standing → Type 0 where
    moves : {s t : Stage} {m : Packet} → kind_of (row_message m) ≡ Moves → turn source s.phase ≡ end → Leads source s m t → Sends end (At s) m (At t)
    calms : {s : Stage} {m : Packet} → kind_of (row_message m) ≡ Stays → Active s.phase → Sends end (At s) m (At s)
    ends : {s : Stage} {m : Packet} → kind_of (row_message m) ≡ Ends → Alive s.phase → Sends end (At s) m ClosedByItself

-- whose turn it is

is_client : (end : End) → role_of end ≡ client → Client ≡ end
is_client Client _ = refl
is_client Server other_role = absurd (omega arith)

is_server : (end : End) → (role_of end ≡ client → ⊥) → Server ≡ end
is_server Client differs = absurd (differs refl)
is_server Server _ = refl

turn_batch : (source : End) (phase : ℕ) → phase ≡ batch → turn source phase ≡ source
unfolding turn
turn_batch source phase batched = simp batched refl

module _ (source end : End) where
  moves_turn : {flow phase n type-data next count : ℕ} {message : MessageType} → kind_of message ≡ Moves
      → (flow ≡ producer → phase ≡ batch → source ≡ end) → Moved (role_of end) flow phase n message type-data next count → turn source phase ≡ end
  unfolding turn
  moves_turn moving there (opens role begins) = simp begins (is_client end role)
  moves_turn {phase = phase} moving there (offers differs low high begins) =
      simp (ne_eqb phase fresh (λ same. omega arith), ne_eqb phase offer (λ same. omega arith), ne_eqb phase batch (λ same. omega arith))
      (is_server end differs)
  moves_turn moving there (takes role offered few begins) = simp offered (is_client end role)
  moves_turn {phase = phase} moving there (gives produces batched begins) = turn_batch source phase batched ∙ there produces batched
  moves_turn moving there (rests low high) = clash cc
  moves_turn moving there (closes low high) = clash cc

-- where a row leads an end that sends
abbrev pub landing : ℕ → ℕ → Standing
landing next count = cond (eqb next shut) ClosedByItself (At (record { phase = next; n = count }))

pub landing_at : (next count : ℕ) → next ≤ batch → At (record { phase = next; n = count }) ≡ landing next count
landing_at next count high = simp (ne_eqb next shut (λ same. omega arith)) refl

module _ (source end : End) (flow phase n : ℕ) (m : Packet) where
  abbrev From : Standing → Type 0
  From = Sends source end (At (record { phase = phase; n = n })) m

  moving_sends : (next count : ℕ) → (flow ≡ producer → phase ≡ batch → source ≡ end) → kind_of (row_message m) ≡ Moves
      → Moved (role_of end) flow phase n (row_message m) (type_data_in m) next count → From (landing next count)
  moving_sends next count there moving move =
      let own = moves_turn source end moving there move in
      let row = moved_row (of_flow producer (λ batched. refl) move) in
      subst From (landing_at next count (onward_alive (moves_onward moving move)).1)
      (moves moving own (ap (λ turning. row_of (role_of turning) producer phase n (row_message m) (type_data_in m)) own ∙ row))

  staying_sends : {role type-data next count : ℕ} → kind_of (row_message m) ≡ Stays → Moved role flow phase n Noop type-data next count
      → From (landing next count)
  staying_sends quiet (rests low high) = subst From (landing_at phase n high) (calms quiet (low, high))

  ending_sends : {role type-data next count : ℕ} → kind_of (row_message m) ≡ Ends → Moved role flow phase n Close type-data next count
      → From (landing next count)
  ending_sends closing (closes low high) = ends closing (low, high)

  -- an allowed send is a move
  pub row_sends : (next count : ℕ) → row_of (role_of end) flow phase n (row_message m) (type_data_in m) ≡ To next count
      → (flow ≡ producer → phase ≡ batch → source ≡ end)
      → Sends source end (At (record { phase = phase; n = n })) m (landing next count)
  row_sends next count leads there =
      go (row_message m) refl (row_moved (role_of end) flow phase n (row_message m) (type_data_in m) next count leads)
    where
      go : (message : MessageType) → row_message m ≡ message → Moved (role_of end) flow phase n (row_message m) (type_data_in m) next count
          → From (landing next count)
      go Open same move = moving_sends next count there (ap kind_of same) move
      go Ready same move = moving_sends next count there (ap kind_of same) move
      go Noop same move = staying_sends (ap kind_of same) (rw same at move)
      go Data same move = moving_sends next count there (ap kind_of same) move
      go Close same move = ending_sends (ap kind_of same) (rw same at move)

-- the phase and n of where a hearer is led
abbrev pub phase_in : Standing → ℕ
phase_in (At s) = s.phase
phase_in ClosedByOther = shut
phase_in ClosedByItself = shut

abbrev pub n_in : Standing → ℕ
n_in (At s) = s.n
n_in ClosedByOther = 0
n_in ClosedByItself = 0

pub other_role : (end : End) → role_of (across end) ≡ other (role_of end)
other_role Client = refl
other_role Server = refl

-- the message of a kind that has one alone
abbrev sole : Kind → MessageType → MessageType
sole Moves message = message
sole Stays message = Noop
sole Ends message = Close

is_sole : (message : MessageType) → message ≡ sole (kind_of message) message
is_sole Open = refl
is_sole Ready = refl
is_sole Noop = refl
is_sole Data = refl
is_sole Close = refl

sole_row : (kind : Kind) (role flow phase n : ℕ) (message : MessageType) (type-data : ℕ) → kind_of message ≡ kind
    → row_of role flow phase n message type-data ≡ row_of role flow phase n (sole kind message) type-data
sole_row kind role flow phase n message type-data same =
    ap (λ taken. row_of role flow phase n taken type-data) (is_sole message ∙ ap (λ known. sole known message) same)

-- a move is heard
pub row_hears : (source end : End) (flow : ℕ) (s : Stage) (m : Packet) (a : Standing) → Hears source end (At s) m a
    → (source ≡ across end → s.phase ≡ batch → other flow ≡ producer)
    → row_of (other (role_of end)) (other flow) s.phase s.n (row_message m) (type_data_in m) ≡ To (phase_in a) (n_in a)
row_hears source end flow s m (At t) (moved moving theirs leads) there =
    let role = ap role_of theirs ∙ other_role end in
    let move = row_moved (other (role_of end)) producer s.phase s.n (row_message m) (type_data_in m) t.phase t.n (rw role at leads) in
    moved_row (of_flow (other flow) (λ batched. there (sym (turn_batch source s.phase batched) ∙ theirs) batched) move)
row_hears source end flow s m _ (rested quiet active) there =
    sole_row Stays (other (role_of end)) (other flow) s.phase s.n (row_message m) (type_data_in m) quiet
    ∙ moved_row {role = other (role_of end)} {flow = other flow} {type-data = type_data_in m} (rests active.0 active.1)
row_hears source end flow s m _ (closed closing alive) there =
    sole_row Ends (other (role_of end)) (other flow) s.phase s.n (row_message m) (type_data_in m) closing
    ∙ moved_row {role = other (role_of end)} {flow = other flow} {n = s.n} {type-data = type_data_in m} (closes alive.0 alive.1)
