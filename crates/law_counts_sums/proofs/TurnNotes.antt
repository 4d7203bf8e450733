-- The delivery of a `join`, of the `release` of a task, and of a thread: what is heard changes by as much as it weighs. A copy goes, and a thread leaves.
use Rattle.std.proofs.Common.{◌≡◌, ℕ, ◌+◌, ◌==◌, ◌&&◌, not, nat_lt, Bool, true, false, if◌then◌else◌, List, [], ◌∷◌, ◌++◌, Option, Some, None, refl, ap, ap₂, ◌∙◌, arith}
use Rattle.std.specs.Prelude.{slice_get, option_map}
use Rattle.coherent_memory.specs.Below.fr_base.declared.instruction.Instr.{Instr}
use Rattle.coherent_memory.specs.Below.heap_partition.declared.value.Owned.{Owned}
use Rattle.coherent_memory.specs.Below.fr_base.declared.release.Released.TheVariants as released
use Rattle.coherent_memory.specs.Below.read_cache.Cache.{Copy}
use Rattle.coherent_memory.specs.Below.join_home.Tasks.{Task, TaskState, going, let_go, kept, in_pair, task_in, state_in, with_state, without_task, asked_from, let_go_from}
use Rattle.coherent_memory.specs.Below.join_home.Tasks as tasks
use Rattle.coherent_memory.specs.Below.thread_state.View.{ThreadState, is_over}
use Rattle.coherent_memory.specs.Below.thread_state.declared.phase.Phase.{Phase}
use Rattle.coherent_memory.specs.Below.thread_state.declared.phase.Phase.TheVariants as phase
use Rattle.coherent_memory.specs.Below.server_msgs.declared.message.Message.{Message}
use Rattle.coherent_memory.specs.Below.server_msgs.declared.message.Message.TheVariants as message
use Rattle.coherent_memory.specs.Below.server_model.Servers.{Rest, Server}
use Rattle.coherent_memory.specs.Below.server_model.Work.{Work, receive, sent_from, with_thread, without_thread, thread_in, with_tasks}
use Rattle.coherent_memory.specs.Below.server_model.Sharing.{give_up_left}
use Rattle.coherent_memory.specs.Below.server_model.Joining.{answer_join, deliver_join, release_task}
use Rattle.coherent_memory.specs.Below.server_model.Events.{is_ready, begin_work}
use Rattle.coherent_memory.specs.Names.{tot, one, if_so}
use Rattle.coherent_memory.specs.Things.{Thing, stands, noted, sent, message_things, thread_things}
use Rattle.coherent_memory.specs.Requests.{waits, branch_places, halves_to, halves_needed, pair_notes, pair_places}
use Rattle.coherent_memory.specs.Sharing.{got_phase, going_notes, goes_on, noted_away, has_ended}
use Rattle.law_counts_sums.specs.Laws.{Gives}
use Rattle.law_counts_sums.proofs.Results.{over_gives}
use Rattle.law_counts_sums.proofs.Trades.{tot-append, tot-front}
use Rattle.law_counts_sums.proofs.Bags.{all_standing, tot-without}
use Rattle.law_counts_sums.proofs.FinishSteps.{task_number}
use Rattle.law_counts_sums.proofs.Unseen.{thread_alone}
use Rattle.law_counts_sums.proofs.Held.{result_of, owed_of, bare_held}
use Rattle.law_counts_sums.proofs.Fair.{Dues, even, lets, Fair, Hears, owed_heard, same_self, results_heard, ended_heard, halves_heard, needed_heard, notes_heard, places_heard, going_heard, goes_heard, homes_heard, if_none, needs_none}
use Rattle.law_counts_sums.proofs.FairStarts.{noting}
use Rattle.law_counts_sums.proofs.Quiet.{server_said}
use Rattle.law_counts_sums.proofs.Turns.{Turns}
use Rattle.law_counts_sums.proofs.Changes.{change_none, change_sent, change_state, change_gone, taken_out, RestTurns}
use Rattle.law_counts_sums.proofs.TurnMessages.{left_over}

pub none_so : (b : Bool) → one (b && false) ≡ 0
none_so true = refl
none_so false = refl

pub if_one : (b : Bool) → if_so b 1 ≡ one b
if_one true = refl
if_one false = refl

-- NOTES

-- a note is its thread and its state
pub note_is : (n t : ℕ) (x : Task) (z : TaskState) → x.thread ≡ t → x.state ≡ z → (f : Thing → ℕ) → f (noted n x) ≡ f (noted n (record { thread = t; state = z }))
note_is n t x z e h f = ap₂ (λ i k. f (noted n (record { thread = i; state = k }))) e h

-- the same change with that note in its place
pub fair_noted : {dues : Dues} (before : List Thing) (n t : ℕ) (x : Task) (z : TaskState) (news : List Thing) → x.thread ≡ t → x.state ≡ z → Fair dues (before ++ noted n (record { thread = t; state = z }) ∷ []) news → Fair dues (before ++ noted n x ∷ []) news
fair_noted {dues} before n t x z news e h p =
    let whole : (f : Thing → ℕ) → tot f (before ++ noted n x ∷ []) ≡ tot f (before ++ noted n (record { thread = t; state = z }) ∷ []) = λ f. omega (arith, note_is n t x z e h f, tot-append f before (noted n x ∷ []), tot-append f before (noted n (record { thread = t; state = z }) ∷ [])) in record {
      answers = λ u. omega (arith, p.answers u, whole (halves_to u), whole (halves_needed u));
      pairs = λ b. omega (arith, p.pairs b, whole (pair_notes b), whole (pair_places b));
      going = λ u. omega (arith, p.going u, whole (going_notes u), whole (goes_on u));
      homes = omega (arith, p.homes, whole noted_away);
      ends = λ u. omega (arith, p.ends u, whole (result_of dues.code u), whole (has_ended u));
      owes = λ u. omega (arith, p.owes u, whole (owed_of dues.code u));
    }

module _ (code : List Instr) (s : Server) (i : ℕ) where
  abbrev n : ℕ
  n = s.rest.number

  abbrev r : Rest
  r = receive s.rest i

  abbrev start : Work
  start = begin_work r

  abbrev Turned : Dues → (m : Message) → slice_get s.rest.inbox i ≡ Some m → Work → Type 0
  Turned dues m q w = RestTurns dues s i m q w.rest

  pub join_turns : (u a t : ℕ) (q : slice_get s.rest.inbox i ≡ Some (message.Join u a t)) → Gives (Turned (even code) (message.Join u a t) q) (deliver_join u a t start)
  join_turns u a t q = by (task_in r.tasks u) refl
    where
      m : Message
      m = message.Join u a t

      Then : List Task × Option Owned → Type 0
      Then p = Turned (even code) m q (answer_join u a t p.1 (with_tasks p.0 start))

      state : (x : Task) → task_in r.tasks u ≡ Some x → (z : TaskState) → x.state ≡ z → Gives Then (asked_from r.tasks u a t (Some z))
      state x e going h = record {
        gone = noted n x ∷ [];
        news = noted n (record { thread = u; state = tasks.asked a t }) ∷ [];
        change = change_state r u x (tasks.asked a t) e;
        fair = fair_noted (message_things n m) n u x going (noted n (record { thread = u; state = tasks.asked a t }) ∷ []) (task_number r.tasks u x e) h (record { answers = λ k. omega arith; pairs = λ b. omega (arith, none_so (n == b.server && u == b.thread)); going = λ k. omega arith; homes = omega arith; ends = λ k. omega (arith, if_none (u == k) 0 refl); owes = λ k. omega arith });
      }
      state x e (kept v) h = record {
        gone = noted n x ∷ [];
        news = message_things a (message.Joined u v t);
        change = change_sent r (record r { tasks = without_task r.tasks u }) (noted n x ∷ []) [] a (message.Joined u v t) (change_gone r u x e);
        fair = fair_noted (message_things n m) n u x (kept v) (message_things a (message.Joined u v t)) (task_number r.tasks u x e) h (record { answers = λ k. omega arith; pairs = λ b. omega (arith, none_so (n == b.server && u == b.thread)); going = λ k. omega (arith, none_so (u == k)); homes = omega arith; ends = λ k. omega (arith, if_one (u == k)); owes = λ k. omega (arith, noting (u == k)) });
      }
      state x e let_go h = tt
      state x e (tasks.asked b c) h = tt
      state x e (in_pair b c) h = tt

      by : (o : Option Task) → task_in r.tasks u ≡ o → Gives (Turned (even code) m q) (option_map (λ p. answer_join u a t p.1 (with_tasks p.0 start)) (asked_from r.tasks u a t (state_in o)))
      by None e = tt
      by (Some x) e = over_gives Then (Turned (even code) m q) (asked_from r.tasks u a t (Some x.state)) _ (state x e x.state refl) (λ p k. k)

  pub let_go_turns : (u : ℕ) (q : slice_get s.rest.inbox i ≡ Some (message.Release (released.Task u))) → Gives (Turned (lets code u) (message.Release (released.Task u)) q) (release_task u start)
  let_go_turns u q = by (task_in r.tasks u) refl
    where
      m : Message
      m = message.Release (released.Task u)

      Then : List Task × Option Owned → Type 0
      Then p = Turned (lets code u) m q (give_up_left p.1 (with_tasks p.0 start))

      state : (x : Task) → task_in r.tasks u ≡ Some x → (z : TaskState) → x.state ≡ z → Gives Then (let_go_from r.tasks u (Some z))
      state x e going h =
          left_over (lets code u) s i m q (noted n x ∷ []) (noted n (record { thread = u; state = let_go }) ∷ []) None (with_tasks (with_state r.tasks u let_go) start) (change_state r u x let_go e)
          (fair_noted (message_things n m) n u x going (noted n (record { thread = u; state = let_go }) ∷ []) (task_number r.tasks u x e) h (record { answers = λ k. omega arith; pairs = λ b. omega arith; going = λ k. omega arith; homes = omega arith; ends = λ k. omega (arith, if_none (u == k) 0 refl); owes = λ k. omega (arith, noting (u == k), none_so (u == k)) }))
      state x e (kept v) h =
          left_over (lets code u) s i m q (noted n x ∷ []) [] (Some v) (with_tasks (without_task r.tasks u) start) (change_gone r u x e)
          (fair_noted (message_things n m) n u x (kept v) [] (task_number r.tasks u x e) h (record { answers = λ k. omega arith; pairs = λ b. omega (arith, none_so (n == b.server && u == b.thread)); going = λ k. omega (arith, none_so (u == k)); homes = omega arith; ends = λ k. omega (arith, if_one (u == k)); owes = λ k. omega (arith, noting (u == k)) }))
      state x e let_go h = tt
      state x e (tasks.asked b c) h = tt
      state x e (in_pair b c) h = tt

      by : (o : Option Task) → task_in r.tasks u ≡ o → Gives (Turned (lets code u) m q) (option_map (λ p. give_up_left p.1 (with_tasks p.0 start)) (let_go_from r.tasks u (state_in o)))
      by None e = tt
      by (Some x) e = over_gives Then (Turned (lets code u) m q) (let_go_from r.tasks u (Some x.state)) _ (state x e x.state refl) (λ p k. k)

  -- THREADS

  -- a thread more stands here
  tot-with : (f : Thing → ℕ) (k : ℕ) (xs : List ThreadState) (t : ThreadState) → tot f (all_standing k (with_thread xs t)) ≡ tot f (thread_things k false t) + tot f (all_standing k xs)
  tot-with f k [] t = tot-front (thread_things k false) f 0 t []
  tot-with f k (x ∷ xs) t = by (nat_lt t.number x.number) (tot-with f k xs t)
    where
      by : (b : Bool) → tot f (all_standing k (with_thread xs t)) ≡ tot f (thread_things k false t) + tot f (all_standing k xs)
          → tot f (all_standing k (if b then t ∷ x ∷ xs else x ∷ with_thread xs t)) ≡ tot f (thread_things k false t) + tot f (all_standing k (x ∷ xs))
      by true g = tot-front (thread_things k false) f 0 t (x ∷ xs)
      by false g = omega (arith, g, tot-front (thread_things k false) f 0 x (with_thread xs t), tot-front (thread_things k false) f 0 x xs)

  -- it was under way in a message of which nothing else is heard
  pub arrives : (m : Message) (t : ThreadState) → slice_get s.rest.inbox i ≡ Some m → ((f : Thing → ℕ) → tot f (message_things n m) ≡ f (sent n m) + tot f (thread_things n true t)) → Fair (even code) (sent n m ∷ []) []
      → Turns (even code) s (record { rest = r; threads = with_thread s.threads t; events = s.events + 1 })
  arrives m t q whole light =
      let s2 : Server = record { rest = r; threads = with_thread s.threads t; events = s.events + 1 } in record {
        olds = sent n m ∷ [];
        news = [];
        change = λ f l. omega (
          arith,
          server_said f l s2,
          server_said f l s,
          taken_out s i m q f,
          whole f,
          tot-with f n s.threads t,
          thread_alone f n (l.unseen n) n true t,
          thread_alone f n (l.unseen n) n false t,
          l.thread n true false t t (same_self t),
        );
        fair = light;
      }

-- A COPY GOES, AND A THREAD LEAVES

pub nothing_turns : (code : List Instr) (s : Server) (cs : List Copy) → Turns (even code) s (record { rest = record s.rest { cache = cs }; threads = s.threads; events = s.events + 1 })
nothing_turns code s cs =
    let s2 : Server = record { rest = record s.rest { cache = cs }; threads = s.threads; events = s.events + 1 } in record {
      olds = [];
      news = [];
      change = λ f l. omega (arith, server_said f l s2, server_said f l s);
      fair = record { answers = λ u. refl; pairs = λ b. refl; going = λ u. refl; homes = omega arith; ends = λ t. omega arith; owes = λ t. refl };
    }

ready_waits : (p : Phase) → is_ready p ≡ true → (waits p ≡ false) × ((t : ℕ) → branch_places t p ≡ 0)
ready_waits phase.Ready e = (refl, λ t. refl)
ready_waits _ e = absurd (cc e)

ready_got : (p : Phase) → is_ready p ≡ true → (t : ℕ) → got_phase t p ≡ 0
ready_got phase.Ready e t = refl
ready_got _ e t = absurd (cc e)

-- a thread that is ready weighs the same here and under way
pub fair_leaves : {code : List Instr} (n a : ℕ) (y p : ThreadState) → p.number ≡ y.number → p.phase ≡ y.phase → y.gift ≡ None → p.gift ≡ None → is_ready y.phase ≡ true → Fair (even code) (stands n false y ∷ []) (message_things a (message.Migrate p))
fair_leaves {code} n a y p e h bare bare2 ready =
    let calm = ready_waits y.phase ready in
    let alone : (f : Thing → ℕ) → Hears f → tot f (thread_things a true p) ≡ f (stands a true p) = λ f l. thread_alone f a (l.unseen a) a true p in record {
      answers = λ t. omega (arith, alone (halves_to t) (halves_heard t), alone (halves_needed t) (needed_heard t), needs_none (y.number == t) (waits y.phase) calm.0, needs_none (p.number == t) (waits p.phase) (ap waits h ∙ calm.0));
      pairs = λ b. omega (
        arith,
        alone (pair_notes b) (notes_heard b),
        alone (pair_places b) (places_heard b),
        if_none (n == b.server && y.number == b.parent) (branch_places b.thread y.phase) (calm.1 b.thread),
        if_none (a == b.server && p.number == b.parent) (branch_places b.thread p.phase) (ap (branch_places b.thread) h ∙ calm.1 b.thread),
      );
      going = λ t.
          let same = ap₂ (λ i j. one (i == t && (not (i == 0) && not (is_over j)))) e h in
          omega (arith, same, alone (going_notes t) (going_heard t), alone (goes_on t) (goes_heard t));
      homes = omega (arith, alone noted_away homes_heard);
      ends = λ t.
          let same = ap₂ (λ i j. one (i == t && (not (i == 0) && is_over j))) e h in
          omega (arith, same, alone (result_of code t) (results_heard code t), alone (has_ended t) (ended_heard t), ap (got_phase t) h ∙ ready_got y.phase ready t, bare_held code t p bare2);
      owes = λ t. omega (arith, alone (owed_of code t) (owed_heard code t), bare_held code t y bare, bare_held code t p bare2);
    }

pub leaving_turns : (code : List Instr) (s : Server) (t a : ℕ) (y p : ThreadState) (cs : List Copy) → thread_in s.threads t ≡ Some y → p.number ≡ y.number → p.phase ≡ y.phase → y.gift ≡ None → p.gift ≡ None → is_ready y.phase ≡ true
    → Turns (even code) s (record { rest = sent_from (record s.rest { cache = cs }) a (message.Migrate p); threads = without_thread s.threads t; events = s.events + 1 })
leaving_turns code s t a y p cs here e h bare bare2 ready =
    let n = s.rest.number in
    let m = message.Migrate p in
    let r2 = sent_from (record s.rest { cache = cs }) a m in
    let c = change_sent s.rest (record s.rest { cache = cs }) [] [] a m (change_none s.rest) in
    let s2 : Server = record { rest = r2; threads = without_thread s.threads t; events = s.events + 1 } in record {
      olds = stands n false y ∷ [];
      news = message_things a m;
      change = λ f l.
          let threads : tot f (all_standing r2.number s2.threads) ≡ tot f (all_standing n s2.threads) = ap (λ j. tot f (all_standing j s2.threads)) c.same in
          omega (arith, server_said f l s2, server_said f l s, c.change f l, threads, tot-without n f s.threads t y here, thread_alone f n (l.unseen n) n false y);
      fair = fair_leaves n a y p e h bare bare2 ready;
    }
