-- Where two ends meet: it stays so when one sends and when one receives or refuses, and with nothing on its way both stand at one stage.
-- Assumes nothing.
use mathlib.Core.Path.{◌≡◌, refl, sym, ◌∙◌}
use mathlib.Core.List.{List, [], ◌∷◌, ◌++◌}
use Rattle.bytes_be.proofs.Tests.{clash}
use Rattle.session.specs.World.{End, across, Client, Server}
use Rattle.session.specs.Packets.{Packet, row_message}
use Rattle.session.specs.Turns.{Kind, kind_of, Stage, Standing, IsOpen, Active, Alive, Still, Leads, Hears, Drains, Converge, Moves, Stays}
use Rattle.session.specs.Turns.{Ends, At, ClosedByOther, ClosedByItself, nothing, quiet, moved, rested, closed, late, empty, head, ahead}
use Rattle.session.specs.Turns.{behind, over, over_across}
use Rattle.session.specs.Demand.{turn}
use Rattle.session.proofs.Table.{Sends, moves, calms, ends, leads_active, leads_alive}

pub across_twice : (end : End) → end ≡ across (across end)
across_twice Client = refl
across_twice Server = refl

pub across_differs : (end : End) → across end ≡ end → ⊥
across_differs Client same = clash cc
across_differs Server same = clash cc

moves_not_stays : {kind : Kind} → kind ≡ Moves → kind ≡ Stays → ⊥
moves_not_stays moving is-quiet = clash cc

moves_not_ends : {kind : Kind} → kind ≡ Moves → kind ≡ Ends → ⊥
moves_not_ends moving closing = clash cc

module _ (source : End) where
  across_drains : (end : End) {a b : Standing} {q : List Packet} → Drains source end a q b → Drains source (across (across end)) a q b
  across_drains Client drains = drains
  across_drains Server drains = drains

  -- it is the same from the other end
  pub across_converge : (end : End) {a b : Standing} {p q : List Packet} → Converge source end a p b q → Converge source (across end) b q a p
  across_converge end (ahead still drains) = behind still drains
  across_converge end (behind still drains) = ahead still (across_drains end drains)
  across_converge end (over ended drains) = over_across ended drains
  across_converge end (over_across ended drains) = over ended (across_drains end drains)

  -- queues and one packet more

  drains_last : {end : End} {a b c : Standing} {m : Packet} {q : List Packet} → Drains source end a q b → Hears source end b m c
      → Drains source end a (q ++ (m ∷ [])) c
  drains_last empty hears = head hears empty
  drains_last (head first drains) hears = head first (drains_last drains hears)

  still_last : {s : Stage} (m : Packet) {q : List Packet} → kind_of (row_message m) ≡ Stays → Active s.phase → Still s q → Still s (q ++ (m ∷ []))
  still_last m is-quiet active nothing = quiet is-quiet active nothing
  still_last m is-quiet active (quiet first-quiet first-active still) = quiet first-quiet first-active (still_last m is-quiet active still)

  -- a queue that moves nothing does so at any active stage, and is received there
  still_elsewhere : {s t : Stage} {q : List Packet} → (Active s.phase → Active t.phase) → Still s q → Still t q
  still_elsewhere stays nothing = nothing
  still_elsewhere stays (quiet is-quiet active still) = quiet is-quiet (stays active) (still_elsewhere stays still)

  still_drains : {end : End} {s : Stage} {q : List Packet} → Still s q → Drains source end (At s) q (At s)
  still_drains nothing = empty
  still_drains (quiet is-quiet active still) = head (rested is-quiet active) (still_drains still)

  -- an end that wrote a CLOSE receives anything, and one that heard a CLOSE nothing

  gone_drains : {end : End} (q : List Packet) → Drains source end ClosedByItself q ClosedByItself
  gone_drains [] = empty
  gone_drains (m ∷ rest) = head late (gone_drains rest)

  pub shut_hears : {end : End} {m : Packet} {b : Standing} → Hears source end ClosedByOther m b → ⊥
  shut_hears = elim [ ]

  shut_drains : {end : End} {t : Stage} {q : List Packet} → Drains source end ClosedByOther q (At t) → ⊥
  shut_drains (head hears drains) = shut_hears hears

  -- an end that is active, or alive, is so after all that does not close it

  active_drains : {end : End} {s t : Stage} {q : List Packet} → Active s.phase → Drains source end (At s) q (At t) → Active t.phase
  active_drains active empty = active
  active_drains active (head (moved {s = s} {t = t} {m = m} moving theirs leads) drains) =
      active_drains (leads_active source s m t moving leads active) drains
  active_drains active (head (rested is-quiet _) drains) = active_drains active drains
  active_drains active (head (closed closing alive) drains) = absurd (shut_drains drains)

  alive_drains : {end : End} {s t : Stage} {q : List Packet} → Alive s.phase → Drains source end (At s) q (At t) → Alive t.phase
  alive_drains alive empty = alive
  alive_drains alive (head (moved {s = s} {t = t} {m = m} moving theirs leads) drains) = alive_drains (leads_alive source s m t moving leads) drains
  alive_drains alive (head (rested is-quiet active) drains) = alive_drains alive drains
  alive_drains alive (head (closed closing _) drains) = absurd (shut_drains drains)

  -- to an end whose turn it is come only packets that move nothing

  not_theirs : (end : End) {A : Type 0} (s : Stage) → turn source s.phase ≡ end → turn source s.phase ≡ across end → A
  not_theirs end s own theirs = absurd (across_differs end (sym theirs ∙ own))

  data Waits (s : Stage) (q : List Packet) : Stage → Type 0 where
    waits : Still s q → Waits s q s

  waits_more : {s t : Stage} {m : Packet} {q : List Packet} → kind_of (row_message m) ≡ Stays → Active s.phase → Waits s q t → Waits s (m ∷ q) t
  waits_more is-quiet active (waits still) = waits (quiet is-quiet active still)

  own_waits : (end : End) {s t : Stage} {q : List Packet} → turn source s.phase ≡ end → Drains source end (At s) q (At t) → Waits s q t
  own_waits end own empty = waits nothing
  own_waits end own (head (moved {s = s} moving theirs leads) drains) = not_theirs end s own theirs
  own_waits end own (head (rested is-quiet active) drains) = waits_more is-quiet active (own_waits end own drains)
  own_waits end own (head (closed closing alive) drains) = absurd (shut_drains drains)

  -- or, if the other end has closed, packets that do as much after its own message
  own_ended : (end : End) {s : Stage} (m : Packet) (t : Stage) {e : Standing} {q : List Packet} → kind_of (row_message m) ≡ Moves
      → turn source s.phase ≡ end → Leads source s m t
      → (IsOpen e → ⊥) → Drains source end (At s) q e → Drains source end (At t) q e
  own_ended end m t moving own leads ended empty = absurd (ended tt)
  own_ended end m t moving own leads ended (head (moved {s = s} _ theirs _) drains) = not_theirs end s own theirs
  own_ended end m t moving own leads ended (head (rested {s = s} is-quiet active) drains) =
      head (rested is-quiet (leads_active source s m t moving leads active)) (own_ended end m t moving own leads ended drains)
  own_ended end m t moving own leads ended (head (closed {s = s} closing alive) drains) =
      head (closed closing (leads_alive source s m t moving leads)) drains

  -- an end sends

  theirs_too : (end : End) {s t : Stage} {m : Packet} → kind_of (row_message m) ≡ Moves → turn source s.phase ≡ end → Leads source s m t
      → Hears source (across end) (At s) m (At t)
  theirs_too end moving own leads = moved moving (own ∙ across_twice end) leads

  waits_converge : (end : End) {s t u : Stage} {p q : List Packet} (m : Packet) → Still u p → Waits s q u → kind_of (row_message m) ≡ Moves
      → turn source s.phase ≡ end → Leads source s m t
      → Converge source end (At t) (p ++ (m ∷ [])) (At u) q
  waits_converge end {s = s} {t = t} m still (waits still-across) moving own leads =
      ahead (still_elsewhere (leads_active source s m t moving leads) still-across)
      (drains_last (still_drains still) (theirs_too end moving own leads))

  pub sends_converge : (end : End) {a b c : Standing} {p q : List Packet} {m : Packet} → Converge source end a p b q → Sends source end a m c
      → Converge source end c (p ++ (m ∷ [])) b q
  sends_converge end (ahead still drains) (moves {s = s} {t = t} {m = m} moving own leads) =
      ahead (still_elsewhere (leads_active source s m t moving leads) still) (drains_last drains (theirs_too end moving own leads))
  sends_converge end (ahead still drains) (calms is-quiet active) = ahead still (drains_last drains (rested is-quiet active))
  sends_converge end (ahead still drains) (ends closing alive) = over (λ is_open. is_open) (drains_last drains (closed closing alive))
  sends_converge end (behind still drains) (moves {m = m} moving own leads) = waits_converge end m still (own_waits end own drains) moving own leads
  sends_converge end (behind still drains) (calms {m = m} is-quiet active) = behind (still_last m is-quiet (active_drains active drains) still) drains
  sends_converge end (behind still drains) (ends closing alive) =
      over (λ is_open. is_open) (drains_last (still_drains still) (closed closing (alive_drains alive drains)))
  sends_converge end (over ended drains) sends = elim sends [ ]
  sends_converge end (over_across ended drains) (moves {t = t} {m = m} moving own leads) =
      over_across ended (own_ended end m t moving own leads ended drains)
  sends_converge end (over_across ended drains) (calms is-quiet active) = over_across ended drains
  sends_converge end (over_across ended drains) (ends closing alive) = over_across (λ is_open. is_open) (gone_drains _)

  -- an end receives the head of the other's queue
  pub hears_converge : (end : End) {a b : Standing} {p q : List Packet} {m : Packet} → Converge source end a p b (m ∷ q)
      → (c : Standing) × Hears source end a m c × Converge source end c p b q
  hears_converge end (ahead (quiet is-quiet active still) drains) = (_, rested is-quiet active, ahead still drains)
  hears_converge end (behind still (head hears drains)) = (_, hears, behind still drains)
  hears_converge end (over ended drains) = (_, late, over ended drains)
  hears_converge end (over_across ended (head hears drains)) = (_, hears, over_across ended drains)

  -- an end refuses a message that moves the stage, and closes
  pub refuses_converge : (end : End) {s : Stage} {b : Standing} {p q : List Packet} {m : Packet} (close : Packet) → kind_of (row_message m) ≡ Moves
      → kind_of (row_message close) ≡ Ends
      → Converge source end (At s) p b (m ∷ q) → Converge source end ClosedByItself (p ++ (close ∷ [])) b q
  refuses_converge end close moving closing (ahead (quiet is-quiet active still) drains) = absurd (moves_not_stays moving is-quiet)
  refuses_converge end close moving closing (behind still (head (moved {s = s} {t = t} {m = m} _ theirs leads) drains)) =
      over (λ is_open. is_open) (drains_last (still_drains still) (closed closing (alive_drains (leads_alive source s m t moving leads) drains)))
  refuses_converge end close moving closing (behind still (head (rested is-quiet active) drains)) = absurd (moves_not_stays moving is-quiet)
  refuses_converge end close moving closing (behind still (head (closed also alive) drains)) = absurd (moves_not_ends moving also)
  refuses_converge end close moving closing (over_across ended drains) = over_across (λ is_open. is_open) (gone_drains _)

  -- with nothing on its way both stand at one stage
  pub rests_converge : (end : End) {s t : Stage} → Converge source end (At s) [] (At t) [] → s ≡ t
  rests_converge end (ahead still empty) = refl
  rests_converge end (behind still empty) = refl

  -- the CLOSE that an end heard was written by the other
  pub shut_across : (end : End) {p q : List Packet} {b : Standing} → Converge source end ClosedByOther p b q → b ≡ ClosedByItself
  shut_across end (behind still drains) = absurd (shut_drains drains)
  shut_across end (over_across ended drains) = refl

  -- and the one that an end wrote closes the other, once nothing is on its way there
  gone_stays : {end : End} {t : Stage} {q : List Packet} → Drains source end ClosedByItself q (At t) → ⊥
  gone_stays (head late drains) = gone_stays drains

  pub close_converge : (end : End) {q : List Packet} {t : Stage} → Converge source end ClosedByItself [] (At t) q → ⊥
  close_converge end (behind still drains) = gone_stays drains
  close_converge end (over ended empty) = ended tt

  -- nothing is on its way to an end that heard a CLOSE
  pub shut_converge : (end : End) {p q : List Packet} {b : Standing} → Converge source end ClosedByOther p b q → q ≡ []
  shut_converge end (behind still drains) = absurd (shut_drains drains)
  shut_converge end (over_across ended empty) = refl
  shut_converge end (over_across ended (head hears drains)) = absurd (shut_hears hears)
