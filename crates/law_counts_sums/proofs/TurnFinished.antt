-- The delivery of a `finished`: what is heard changes by as much as it weighs.
use Rattle.std.proofs.Common.{◌≡◌, ℕ, ◌+◌, ◌==◌, ◌&&◌, ◌||◌, not, Bool, true, false, if◌then◌else◌, List, [], ◌∷◌, ◌++◌, Option, Some, None, refl, sym, ap, ap₂, subst, ◌∙◌, arith}
use Rattle.std.specs.Prelude.{slice_get, option_map}
use Rattle.std.proofs.lemmas.Bool.{eqb-true}
use Rattle.coherent_memory.specs.Below.fr_base.declared.instruction.Instr.{Instr}
use Rattle.coherent_memory.specs.Below.heap_partition.declared.value.Owned.{Owned}
use Rattle.coherent_memory.specs.Below.join_home.Tasks.{Task, TaskState, going, let_go, kept, in_pair, task_in, state_in, with_state, without_task, over_of, over_in, pair_ended, ended_from}
use Rattle.coherent_memory.specs.Below.join_home.Tasks as tasks
use Rattle.coherent_memory.specs.Below.join_home.declared.answers.EndedAs.{EndedAs}
use Rattle.coherent_memory.specs.Below.join_home.declared.answers.EndedAs.TheVariants as over
use Rattle.coherent_memory.specs.Below.thread_state.View.{ThreadState, is_over}
use Rattle.coherent_memory.specs.Below.thread_state.declared.phase.Phase.{Phase}
use Rattle.coherent_memory.specs.Below.thread_state.declared.phase.Phase.TheVariants as phase
use Rattle.coherent_memory.specs.Below.server_msgs.declared.message.Message.{Message}
use Rattle.coherent_memory.specs.Below.server_msgs.declared.message.Message.TheVariants as message
use Rattle.coherent_memory.specs.Below.server_model.Servers.{Rest, Server}
use Rattle.coherent_memory.specs.Below.server_model.Drop.{give_up}
use Rattle.coherent_memory.specs.Below.server_model.Work.{Work, Hand, Site, receive, sent_from, thread_in, with_tasks, with_phase, then_some}
use Rattle.coherent_memory.specs.Below.server_model.Joining.{got_par, pair_over, end_answer, deliver_finished}
use Rattle.coherent_memory.specs.Below.server_model.Events.{begin_work, received}
use Rattle.coherent_memory.specs.Names.{one, if_so}
use Rattle.coherent_memory.specs.Naming.{rising, numbers_of}
use Rattle.coherent_memory.specs.Things.{Thing, stands, noted, message_things}
use Rattle.coherent_memory.specs.Requests.{waits, halves_to, pair_notes, pair_places, branch_places}
use Rattle.coherent_memory.specs.Sharing.{got_phase, going_notes, has_ended}
use Rattle.coherent_memory.proofs.Names.{and_left, and_right}
use Rattle.law_counts_sums.specs.Laws.{Gives}
use Rattle.law_counts_sums.proofs.Results.{bind_gives}
use Rattle.law_counts_sums.proofs.Bags.{thread_number}
use Rattle.law_counts_sums.proofs.FinishSteps.{task_number}
use Rattle.law_counts_sums.proofs.Finished.{pair_finds, other_stays, same_task, not_over}
use Rattle.law_counts_sums.proofs.Held.{result_of, owed_of, holds_result, same_held}
use Rattle.law_counts_sums.proofs.Fair.{even, Fair, if_none}
use Rattle.law_counts_sums.proofs.FairStarts.{noting, waits_for_two, halves_match}
use Rattle.law_counts_sums.proofs.Changes.{ChangeOf, change_sent, change_state, change_gone, change_then, rest_turns, ThreadTurns}
use Rattle.law_counts_sums.proofs.TurnMessages.{SiteTurns, at, lets_go}
use Rattle.law_counts_sums.proofs.TurnNotes.{none_so, if_one, note_is, fair_noted}

-- the other of a pair is noted as over in the pair of that parent
is_half : (p : ℕ) (z : TaskState) → over_of p z ≡ true → z ≡ in_pair p true
is_half p (in_pair q o) e =
    let same : p ≡ q = eqb-true p q (and_left (p == q) o e) in
    let ended : o ≡ true = and_right (p == q) o e in
    ap₂ in_pair (sym same) ended
is_half p going e = absurd (cc e)
is_half p let_go e = absurd (cc e)
is_half p (kept v) e = absurd (cc e)
is_half p (tasks.asked a b) e = absurd (cc e)

-- where a thread has ended that is noted as in a pair whose other thread is noted as over, these are the two for which the parent waits
abbrev pub PairsMatch : Server → Type 0
PairsMatch s = (u o p a b : ℕ) (x z : Task) (y : ThreadState) → task_in s.rest.tasks u ≡ Some x → task_in (without_task s.rest.tasks u) o ≡ Some z → x.state ≡ in_pair p false → z.state ≡ in_pair p true
    → thread_in s.threads p ≡ Some y → y.phase ≡ phase.WaitPar a b → (w : ℕ) → one (u == w) + one (o == w) ≡ one (a == w) + one (b == w)

-- both branches have ended, and their parent goes on
fair_over : {code : List Instr} (n u o a b : ℕ) (v : Owned) (x z : Task) (y y2 : ThreadState) → x.thread ≡ u → z.thread ≡ o → x.state ≡ in_pair y.number false → z.state ≡ in_pair y.number true → y.phase ≡ phase.WaitPar a b → y2.number ≡ y.number → y2.phase ≡ phase.GotPar a b → ((t : ℕ) → holds_result code t y2 ≡ holds_result code t y)
    → ((w : ℕ) → one (u == w) + one (o == w) ≡ one (a == w) + one (b == w))
    → Fair (even code) (message_things n (message.Finished u v) ++ ((noted n x ∷ noted n z ∷ []) ++ stands n false y ∷ [])) (stands n false y2 ∷ [])
fair_over {code} n u o a b v x z y y2 e d first second waiting same got gift match = record {
  answers = λ t.
      let w : if_so (y.number == t && waits y.phase) 2 ≡ if_so (y.number == t && true) 2 = ap (λ p. if_so (y.number == t && waits p) 2) waiting in
      let g : if_so (y2.number == t && waits y2.phase) 2 ≡ if_so (y2.number == t && false) 2 = ap (λ p. if_so (y2.number == t && waits p) 2) got in
      omega (arith, w, g, waits_for_two (y.number == t), none_needed (y2.number == t), f (halves_to t), h (halves_to t));
  pairs = λ c.
      let w : branch_places c.thread y.phase ≡ one (a == c.thread) + one (b == c.thread) = ap (branch_places c.thread) waiting in
      let g : branch_places c.thread y2.phase ≡ 0 = ap (branch_places c.thread) got in
      let here = ap (if_so (n == c.server && y.number == c.parent)) (w ∙ sym (match c.thread)) in
      let none = ap (if_so (n == c.server && y2.number == c.parent)) g in
      omega (
        arith,
        here,
        none,
        if_nothing (n == c.server && y2.number == c.parent),
        halves_match (n == c.server) (u == c.thread) (o == c.thread) (y.number == c.parent),
        f (pair_notes c),
        h (pair_notes c),
        f (pair_places c),
        h (pair_places c),
      );
  going = λ t.
      let lives = ap₂ (λ i j. one (i == t && (not (i == 0) && not j))) same (ap is_over got ∙ sym (ap is_over waiting)) in
      omega (arith, lives, noting (u == t), none_so (o == t), f (going_notes t), h (going_notes t));
  homes = omega arith;
  ends = λ t.
      let over = ap₂ (λ i j. one (i == t && (not (i == 0) && j))) same (ap is_over got ∙ sym (ap is_over waiting)) in
      let w : got_phase t y.phase ≡ 0 = ap (got_phase t) waiting in
      let g : got_phase t y2.phase ≡ one (a == t) + one (b == t) = ap (got_phase t) got in
      omega (arith, over, w, g, gift t, match t, if_none (u == t) 0 refl, if_one (o == t), f (result_of code t), h (result_of code t), f (has_ended t), h (has_ended t));
  owes = λ t. omega (arith, gift t, none_so (u == t), none_so (o == t), f (owed_of code t), h (owed_of code t));
}
  where
    f : (g : Thing → ℕ) → g (noted n x) ≡ g (noted n (record { thread = u; state = in_pair y.number false }))
    f g = note_is n u x (in_pair y.number false) e first g

    h : (g : Thing → ℕ) → g (noted n z) ≡ g (noted n (record { thread = o; state = in_pair y.number true }))
    h g = note_is n o z (in_pair y.number true) d second g

    none_needed : (b : Bool) → if_so (b && false) 2 ≡ 0
    none_needed true = refl
    none_needed false = refl

    if_nothing : (b : Bool) → if_so b 0 ≡ 0
    if_nothing true = refl
    if_nothing false = refl

module _ (code : List Instr) (s : Server) (i u : ℕ) (v : Owned) (q : slice_get s.rest.inbox i ≡ Some (message.Finished u v)) (rise : rising (numbers_of (λ t. t.thread) s.rest.tasks) ≡ 0) (pairs : PairsMatch s) where
  abbrev n : ℕ
  n = s.rest.number

  abbrev r : Rest
  r = receive s.rest i

  abbrev start : Work
  start = begin_work r

  abbrev m : Message
  m = message.Finished u v

  abbrev Site2 : Site → Type 0
  Site2 = SiteTurns (even code) s i m q

  -- where the result goes, once the notes have changed
  abbrev Ends : List Task × EndedAs → Type 0
  Ends p = Gives Site2 (end_answer u p.1 (record { work = with_tasks p.0 start; threads = s.threads }))

  -- the parent of a pair goes on
  parent_goes : (o p : ℕ) (x z : Task) (ts : List Task) → task_in r.tasks u ≡ Some x → task_in (without_task r.tasks u) o ≡ Some z → x.state ≡ in_pair p false → z.state ≡ in_pair p true → ChangeOf r (noted n x ∷ noted n z ∷ []) [] (record r { tasks = ts })
      → (y : ThreadState) (here : thread_in s.threads p ≡ Some y) (j : Phase) → y.phase ≡ j → Gives (λ (h : Hand). ThreadTurns (even code) s i m q p y here h.work.rest h.thread) (option_map (λ k. with_phase k (record { work = with_tasks ts start; thread = y })) (got_par u j))
  parent_goes o p x z ts e d first second c y here (phase.WaitPar a b) waiting = by ((a == u) || (b == u))
    where
      numbered : y.number ≡ p
      numbered = thread_number s.threads p y here

      by : (k : Bool) → Gives (λ (h : Hand). ThreadTurns (even code) s i m q p y here h.work.rest h.thread) (option_map (λ k. with_phase k (record { work = with_tasks ts start; thread = y })) (if k then Some (phase.GotPar a b) else None))
      by false = tt
      by true = record {
        named = refl;
        gone = noted n x ∷ noted n z ∷ [];
        news = [];
        change = c;
        fair = fair_over n u o a b v x z y (record y { phase = phase.GotPar a b }) (task_number r.tasks u x e) (task_number (without_task r.tasks u) o z d) (first ∙ ap (λ k. in_pair k false) (sym numbered)) (second ∙ ap (λ k. in_pair k true) (sym numbered)) waiting refl refl (λ t. same_held code t (record y { phase = phase.GotPar a b }) y refl refl refl)
            (pairs u o p a b x z y e d first second here waiting);
      }
  parent_goes o p x z ts e d first second c y here _ waiting = tt

  both_over : (x : Task) (p : ℕ) → task_in r.tasks u ≡ Some x → x.state ≡ in_pair p false → (o : ℕ) → over_in r.tasks p ≡ Some o → Ends (without_task (without_task r.tasks u) o, over.Both p)
  both_over x p e h o d =
      let found = pair_finds p r.tasks o rise d in
      let z = found.0 in
      let second : z.state ≡ in_pair p true = is_half p z.state found.2 in
      let differ : (u ≡ o) → ⊥ = λ same.
      let one_task : x ≡ z = same_task (sym e ∙ subst (λ j. task_in r.tasks j ≡ Some z) (sym same) found.1) in
      not_over p p z.state (subst (λ (j : Task). j.state ≡ in_pair p false) one_task h) found.2 in
      let there = other_stays r.tasks u o z differ found.1 in
      let ts = without_task (without_task r.tasks u) o in
      let r1 : Rest = record r { tasks = without_task r.tasks u } in
      let changed : ChangeOf r (noted n x ∷ noted n z ∷ []) [] (record r { tasks = ts }) = change_then r r1 (record r { tasks = ts }) (noted n x ∷ []) [] (noted n z ∷ []) [] (change_gone r u x e) (change_gone r1 o z there) in
      at (even code) s i m q (with_tasks ts start) p (pair_over u) (λ y here. parent_goes o p x z ts e there h second changed y here y.phase refl)

  pair_case : (x : Task) (p : ℕ) → task_in r.tasks u ≡ Some x → x.state ≡ in_pair p false → (o : Option ℕ) → over_in r.tasks p ≡ o → Ends (pair_ended r.tasks u p o)
  pair_case x p e h None d =
      let new = noted n (record { thread = u; state = in_pair p true }) ∷ [] in
      rest_turns (even code) s i m q (record r { tasks = with_state r.tasks u (in_pair p true) }) (record {
        gone = noted n x ∷ [];
        news = new;
        change = change_state r u x (in_pair p true) e;
        fair = fair_noted (message_things n m) n u x (in_pair p false) new (task_number r.tasks u x e) h (record { answers = λ k. omega arith; pairs = λ b. omega arith; going = λ k. omega (arith, noting (u == k), none_so (u == k)); homes = omega arith; ends = λ k. omega (arith, if_none (u == k) 0 refl, if_one (u == k)); owes = λ k. omega arith });
      })
  pair_case x p e h (Some o) d = both_over x p e h o d

  state : (x : Task) → task_in r.tasks u ≡ Some x → (z : TaskState) → x.state ≡ z → Gives Ends (ended_from r.tasks u v (Some z))
  state x e going h =
      let new = noted n (record { thread = u; state = kept v }) ∷ [] in
      rest_turns (even code) s i m q (record r { tasks = with_state r.tasks u (kept v) }) (record {
        gone = noted n x ∷ [];
        news = new;
        change = change_state r u x (kept v) e;
        fair = fair_noted (message_things n m) n u x going new (task_number r.tasks u x e) h
            (record { answers = λ k. omega arith; pairs = λ b. omega (arith, none_so (n == b.server && u == b.thread)); going = λ k. omega (arith, noting (u == k), none_so (u == k)); homes = omega arith; ends = λ k. omega (arith, if_none (u == k) 0 refl, if_one (u == k)); owes = λ k. omega arith });
      })
  state x e let_go h =
      let w = with_tasks (without_task r.tasks u) start in
      rest_turns (even code) s i m q (give_up v w).rest (lets_go (even code) s i m q (noted n x ∷ []) [] v w (change_gone r u x e)
      (fair_noted (message_things n m) n u x let_go [] (task_number r.tasks u x e) h
      (record { answers = λ k. omega arith; pairs = λ b. omega (arith, none_so (n == b.server && u == b.thread)); going = λ k. omega (arith, noting (u == k)); homes = omega arith; ends = λ k. omega (arith, if_none (u == k) 0 refl); owes = λ k. omega (arith, none_so (u == k)) })))
  state x e (tasks.asked a t) h =
      let r1 : Rest = record r { tasks = without_task r.tasks u } in
      let m2 = message.Joined u v t in
      rest_turns (even code) s i m q (sent_from r1 a m2) (record {
        gone = noted n x ∷ [];
        news = message_things a m2;
        change = change_sent r r1 (noted n x ∷ []) [] a m2 (change_gone r u x e);
        fair = fair_noted (message_things n m) n u x (tasks.asked a t) (message_things a m2) (task_number r.tasks u x e) h
            (record { answers = λ k. omega arith; pairs = λ b. omega (arith, none_so (n == b.server && u == b.thread)); going = λ k. omega (arith, noting (u == k)); homes = omega arith; ends = λ k. omega (arith, if_none (u == k) 0 refl); owes = λ k. omega (arith, noting (u == k)) });
      })
  state x e (kept w) h = tt
  state x e (in_pair p true) h = tt
  state x e (in_pair p false) h = pair_case x p e h (over_in r.tasks p) refl

  pub finished_turns : Gives Site2 (deliver_finished u v (received i s))
  finished_turns = by (task_in r.tasks u) refl
    where
      by : (o : Option Task) → task_in r.tasks u ≡ o → Gives Site2 (then_some (ended_from r.tasks u v (state_in o)) (λ p. end_answer u p.1 (record { work = with_tasks p.0 start; threads = s.threads })))
      by None e = tt
      by (Some x) e = bind_gives Ends Site2 (ended_from r.tasks u v (Some x.state)) _ (state x e x.state refl) (λ p g. g)
