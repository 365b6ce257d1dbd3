-- A world is two runs: each end comes by its own acts to where it is. Assumes nothing.
use mathlib.Core.Path.{◌≡◌, refl, sym, ap, ◌∙◌}
use mathlib.Core.List.{List, [], ◌∷◌, ◌++◌, append_assoc, append-nil}
use mathlib.Core.Bool.{Bool, true, false, cond}
use Rattle.open.specs.Offer.{Offer}
use Rattle.machine.specs.Programs.{Queued, Program}
use Rattle.machine.specs.Runs.{Act, Makes, Sends, Receives, is_kept, done_by, taken_by, left_in, gathered_in, wrote_in, taken_in}
use Rattle.machine.proofs.Runs.{left_append, gathered_append}
use Rattle.session.specs.World.{End, Client, Server, across, making_of, History, noted, noted_in, World, side, joined, with_queue, Event}
use Rattle.session.specs.World.{sends, receives, makes, acted, after_receive, step, run, Runs, TwoRuns}

-- the act of one end, and none of the other
abbrev alone : {O : Type 0} → End → Act O → End → List (Act O)
alone Client act Client = act ∷ []
alone Client act Server = []
alone Server act Client = []
alone Server act Server = act ∷ []

module _ {A O : Type 0} (p : Program A O) where
  -- one end acts, and takes what stood at the head of the other's queue
  one_act : (end : End) (w : World A) (act : Act O) (rest : List Queued) → (side w (across end)).queue ≡ taken_by p (side w end).self act ++ rest
      → Runs p w (joined end (acted p end (side w end) act) (with_queue (side w (across end)) rest))
  one_act Client w act rest is =
      record {
        acts = alone Client act;
        left = elim [ Client ↦ refl | Server ↦ refl ];
        past = elim [ Client ↦ refl | Server ↦ refl ];
        queued = elim [ Client ↦ simp append-nil | Server ↦ simp append-nil is ];
      }
  one_act Server w act rest is =
      record {
        acts = alone Server act;
        left = elim [ Client ↦ refl | Server ↦ refl ];
        past = elim [ Client ↦ refl | Server ↦ refl ];
        queued = elim [ Client ↦ simp append-nil is | Server ↦ simp append-nil ];
      }

  -- a run that goes on

  noted_append : (end : End) (past : History) (self : A) (first more : List (Act O))
      → noted_in p end past self (first ++ more) ≡ noted_in p end (noted_in p end past self first) (left_in p self first) more
  noted_append end past self [] more = refl
  noted_append end past self (act ∷ rest) more = noted_append end (noted end past act (done_by p self act)) (done_by p self act).next rest more

  gathered_then : (each : A → Act O → List Queued) (x y : A) (first more : List (Act O)) → y ≡ left_in p x first
      → gathered_in p each x (first ++ more) ≡ gathered_in p each x first ++ gathered_in p each y more
  gathered_then each x y first more is =
      gathered_append p each x first more ∙ ap (λ (self : A). gathered_in p each x first ++ gathered_in p each self more) (sym is)

  runs_on : (w u v : World A) → Runs p w u → Runs p u v → Runs p w v
  runs_on w u v first more =
      record {
        acts = λ end. first.acts end ++ more.acts end;
        left = λ end.
            more.left end
            ∙ ap (λ (self : A). left_in p self (more.acts end)) (first.left end)
            ∙ sym (left_append p (side w end).self (first.acts end) (more.acts end));
        past = λ end.
            more.past end
            ∙ (λ i. noted_in p end (first.past end i) (first.left end i) (more.acts end))
            ∙ sym (noted_append end (side w end).past (side w end).self (first.acts end) (more.acts end));
        queued = λ end.
            let before : List Queued = (side w end).queue in
            let between : List Queued = (side u end).queue in
            let wrote : List Queued = wrote_in p (side w end).self (first.acts end) in
            let wrote_more : List Queued = wrote_in p (side u end).self (more.acts end) in
            let taken : List Queued = taken_in p (side w (across end)).self (first.acts (across end)) in
            let taken_more : List Queued = taken_in p (side u (across end)).self (more.acts (across end)) in
            ap (λ (l : List Queued). before ++ l)
            (gathered_then _ (side w end).self (side u end).self (first.acts end) (more.acts end) (first.left end))
            ∙ sym (append_assoc before wrote wrote_more)
            ∙ ap (λ (l : List Queued). l ++ wrote_more) (first.queued end)
            ∙ append_assoc taken between wrote_more
            ∙ ap (λ (l : List Queued). taken ++ l) (more.queued end)
            ∙ sym (append_assoc taken taken_more (side v end).queue)
            ∙ ap (λ (l : List Queued). l ++ (side v end).queue)
            (sym
            (gathered_then (taken_by p) (side w (across end)).self (side u (across end)).self (first.acts (across end)) (more.acts (across end))
            (first.left (across end))));
      }

  runs_still : (w : World A) → Runs p w w
  runs_still w =
      record { acts = λ end. []; left = λ end. refl; past = λ end. refl; queued = λ end. append-nil (side w end).queue }

  -- ---- every event

  receive_runs : (end : End) (w : World A) (queue : List Queued) → (side w (across end)).queue ≡ queue → (pipe : Offer) (out : O)
      → Runs p w (after_receive p end (side w end) (side w (across end)) queue pipe out)
  unfolding after_receive
  receive_runs Client w [] is pipe out = runs_still w
  receive_runs Server w [] is pipe out = runs_still w
  receive_runs end w (m ∷ rest) is pipe out =
      one_act end w (Receives m pipe out) _ (is ∙ go (is_kept (p.receive (side w end).self m pipe out).number))
    where
      go : (kept : Bool) → m ∷ rest ≡ cond kept [] (m ∷ []) ++ cond kept (m ∷ rest) rest
      go true = refl
      go false = refl

  step_runs : (w : World A) (event : Event O) → Runs p w (step p w event)
  unfolding step
  step_runs w (sends end call out) = one_act end w (Sends call out) (side w (across end)).queue refl
  step_runs w (receives end pipe out) = receive_runs end w (side w (across end)).queue refl pipe out
  step_runs w (makes makings) =
      let client_made : World A = record { client = acted p Client w.client (Makes (making_of makings Client)); server = w.server } in
      runs_on w client_made _ (one_act Client w (Makes (making_of makings Client)) w.server.queue refl)
      (one_act Server client_made (Makes (making_of makings Server)) client_made.client.queue refl)

pub two_runs : TwoRuns
unfolding run
two_runs A O p w [] = runs_still p w
two_runs A O p w (event ∷ rest) =
    runs_on p w (step p w event) (run p (step p w event) rest) (step_runs p w event) (two_runs A O p (step p w event) rest)
