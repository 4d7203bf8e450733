-- The home of a thread is told that it has ended: its result goes to whoever asked, is kept, or is let go, and the second of a pair lets its parent go on.
use Rattle.std.proofs.Common.{◌≡◌, ℕ, ◌+◌, ◌≤◌, ◌==◌, ◌||◌, not, Bool, true, false, if◌then◌else◌, List, [], ◌∷◌, ◌++◌, Option, Some, None, option_map, refl, sym, ap, ap₂, subst, ◌∙◌, arith}
use Rattle.std.specs.Prelude.{slice_get}
use Rattle.law_words_ends.specs.Below.heap_partition.declared.value.Owned.{Owned}
use Rattle.law_words_ends.specs.Below.thread_state.View.{ThreadState, is_over}
use Rattle.law_words_ends.specs.Below.thread_state.declared.phase.Phase.{Phase}
use Rattle.law_words_ends.specs.Below.thread_state.declared.phase.Phase.TheVariants as phase
use Rattle.law_words_ends.specs.Below.join_home.Tasks.{Task, TaskState, going, let_go, kept, asked, in_pair, task_in, state_in, with_state, without_task, over_of, over_in, pair_ended, ended_from}
use Rattle.law_words_ends.specs.Below.join_home.declared.answers.EndedAs.{EndedAs}
use Rattle.law_words_ends.specs.Below.server_msgs.declared.message.Message.{Message}
use Rattle.law_words_ends.specs.Below.server_msgs.declared.message.Message.TheVariants as message
use Rattle.law_words_ends.specs.Below.journal.declared.act.Act.TheVariants as act
use Rattle.law_words_ends.specs.Below.server_model.Servers.{Server, Cluster, server_at}
use Rattle.law_words_ends.specs.Below.server_model.Work.{Work, Site, then_some, note, send, with_tasks, with_phase, thread_in, put_back}
use Rattle.law_words_ends.specs.Below.server_model.Drop.{give_up}
use Rattle.law_words_ends.specs.Below.server_model.Events.{received, deliver_message}
use Rattle.law_words_ends.specs.Below.server_model.Joining.{got_par, pair_over, end_answer}
use Rattle.law_words_ends.specs.Below.law_words_kept.Below.coloured_heap.Heap.{Wish, Running, Coloured, ForResult, same_wish}
use Rattle.law_words_ends.specs.Below.coherent_memory.Names.{tot, one, if_so}
use Rattle.law_words_ends.specs.Below.coherent_memory.Things.{Thing, as_result, holds, sent, stands, noted, message_things, things_of}
use Rattle.law_words_ends.specs.Below.coherent_memory.Sight.{sight}
use Rattle.law_words_ends.specs.Below.coherent_memory.Walking.{sum_threads}
use Rattle.law_words_ends.specs.Below.coherent_memory.Naming.{servers_wrong, pinned_parcel, rising, numbers_of}
use Rattle.law_words_ends.specs.Below.coherent_memory.Sharing.{results, has_ended}
use Rattle.law_words_ends.specs.Below.coherent_memory.Colours.{StandsColoured}
use Rattle.law_words_ends.specs.Below.coherent_memory.Coherent.{IsSound}
use Rattle.law_words_ends.specs.Below.law_counts_sums.Laws.{Gives}
use Rattle.law_words_ends.proofs.Below.law_counts_sums.Results.{bind_gives}
use Rattle.law_words_ends.proofs.Below.law_counts_sums.FinishSteps.{notes_rise, task_number}
use Rattle.law_words_ends.proofs.Below.law_counts_sums.Finished.{pair_finds, other_stays, same_task, not_over}
use Rattle.law_words_ends.proofs.Below.law_heap_still.events.Told.{told}
use Rattle.law_words_ends.proofs.Below.law_heap_still.events.Tests.{numbers}
use Rattle.law_entries_variables.proofs.deliveries.Answers.{answers_of, fits, answering, answer_allowed}
use Rattle.law_entries_variables.proofs.deliveries.Weighed.{WorkTurns, beside, sends, thread_turns}
use Rattle.law_entries_variables.proofs.deliveries.Shown.{if_some, wished_in, noted_wish, same_as, runs}
use Rattle.law_entries_variables.proofs.deliveries.After.{holder_still}
use Rattle.law_entries_variables.proofs.deliveries.Runs.{silent, runs_one, leads_on}
use Rattle.law_entries_variables.proofs.deliveries.Applied.{Legal, server_there}
use Rattle.law_entries_variables.proofs.deliveries.Quiet.{Quietly, quiet_leads}
use Rattle.law_entries_variables.proofs.deliveries.Partly.{Partly, part_agrees, wish_answered, wished_once}
use Rattle.law_entries_variables.proofs.deliveries.Changed.{AreThere, message_there, notes, note_turns, note_goes}
use Rattle.law_entries_variables.proofs.deliveries.Asked.{started_it, task_here, finished}
use Rattle.law_entries_variables.proofs.deliveries.Back.{quiet_legal, result_given}

over_unwished : (b : Wish) (u p : ℕ) (x : TaskState) → over_of p x ≡ true → same_as b (noted_wish u x) ≡ 0
over_unwished b u p (in_pair r d) e = refl
over_unwished b u p going e = absurd (cc e)
over_unwished b u p let_go e = absurd (cc e)
over_unwished b u p (kept v) e = absurd (cc e)
over_unwished b u p (asked r t) e = absurd (cc e)

module _ (k : Cluster) (sound : IsSound k) (number : ℕ) (s : Server) (here : server_at k.servers number ≡ Some s) (c0 : Coloured) (is_coloured : StandsColoured k c0) (i u : ℕ) (v : Owned) (q : slice_get s.rest.inbox i ≡ Some (message.Finished u v)) where
  abbrev n : ℕ
  n = s.rest.number

  abbrev it : Message
  it = message.Finished u v

  abbrev x : Site
  x = received i s

  abbrev P : Site → Type 0
  P z = Legal k s None (message_things n it) (received i s) c0 z

  abbrev Ends : List Task × EndedAs → Type 0
  Ends a = Gives P (end_answer u a.1 (record (received i s) { work = with_tasks a.0 (received i s).work }))

  -- the thread has ended
  ends : 1 ≤ tot (has_ended u) (things_of k)
  ends =
      let mine : one (u == u) ≡ 1 = ap one (numbers.itself u) in
      let most : tot (results (sight k) u) (things_of k) ≤ tot (has_ended u) (things_of k) = sound.mutexes_and_tasks.one_result u in
      let there = message_there k number s here i it q (results (sight k) u) in
      omega (arith, mine, most, there)

  result_there : AreThere k (holds (as_result u) v ∷ [])
  result_there f = omega (arith, message_there k number s here i it q f)

  module _ (y : Task) (at : task_in s.rest.tasks u ≡ Some y) where
    -- a note changes that asks for nothing before and afterwards
    note_changes : (z : TaskState) → ((b : Wish) → same_as b (noted_wish y.thread y.state) ≡ 0) → ((b : Wish) → same_as b (noted_wish u z) ≡ 0) → P (record x { work = with_tasks (with_state s.rest.tasks u z) x.work })
    note_changes z before after =
        quiet_legal k sound number s here c0 is_coloured (message_things n it) (noted n y ∷ []) (noted n (record { thread = u; state = z }) ∷ []) x (with_tasks (with_state s.rest.tasks u z) x.work) (note_turns x.work u y z at) (record {
          objects = λ o g. refl;
          drops = λ o. refl;
          copies = λ r w g. refl;
          served = λ j. refl;
          issued = λ h r w. refl;
          started = λ r w. refl;
          made = λ r w. refl;
          threads = λ t. refl;
          running = λ t g. refl;
          wishes = λ b. omega (arith, before b, after b);
          there = λ o. omega arith;
          holders = λ o g. refl;
        })

    -- nobody wants the result
    result_let_go : y.state ≡ let_go → P (record x { work = give_up v (with_tasks (without_task s.rest.tasks u) x.work) })
    result_let_go e =
        result_given k sound number s here c0 is_coloured (message_things n it) (noted n y ∷ []) [] x (with_tasks (without_task s.rest.tasks u) x.work) u v (note_goes x.work u y at) (record {
          objects = λ o g. refl;
          drops = λ o. refl;
          copies = λ r w g. refl;
          served = λ j. refl;
          issued = λ h r w. refl;
          started = λ r w. refl;
          made = λ r w. refl;
          threads = λ t. refl;
          running = λ t g. refl;
          wishes = λ b. let w : wished_in b (noted n y) ≡ 0 = ap (λ j. same_as b (noted_wish y.thread j)) e in omega (arith, w);
          there = λ o. omega arith;
          holders = λ o g. refl;
        }) result_there

    -- the result goes to the one that asked
    module _ (a t : ℕ) (e : y.state ≡ asked a t) where
      abbrev wish : Wish
      wish = ForResult u t a

      abbrev olds : List Thing
      olds = sent n it ∷ holds (as_result u) v ∷ noted n y ∷ []

      abbrev news : List Thing
      news = sent a (message.Joined u v t) ∷ holds (as_result u) v ∷ []

      abbrev w1 : Work
      w1 = with_tasks (without_task s.rest.tasks u) x.work

      abbrev w2 : Work
      w2 = note (act.Answer u t a) w1

      part : Partly k olds news
      part = record {
        objects = λ o g. refl;
        drops = λ o. refl;
        copies = λ r w g. refl;
        served = λ j. refl;
        issued = λ h r w. refl;
        started = λ r w. refl;
        made = λ r w. refl;
        threads = λ j. refl;
        running = λ j g. refl;
        there = λ o. refl;
      }

      named : y.thread ≡ u
      named = task_number s.rest.tasks u y at

      less : (b : Wish) → tot (wished_in b) olds ≡ tot (wished_in b) news + one (same_wish b wish)
      less b = let w : wished_in b (noted n y) ≡ one (same_wish b wish) = ap₂ (λ j z. same_as b (noted_wish j z)) named e in omega (arith, w)

      result_answered : P (record x { work = send a (message.Joined u v t) w2 })
      result_answered = record {
        olds = noted n y ∷ [];
        news = news;
        acts = act.Answer u t a ∷ [];
        turns = beside x (noted n y ∷ []) news (act.Answer u t a ∷ []) (send a (message.Joined u v t) w2)
            (sends x.work (noted n y ∷ []) [] (act.Answer u t a ∷ []) w2 a (message.Joined u v t) (notes x.work (noted n y ∷ []) [] [] w1 (act.Answer u t a) (note_goes x.work u y at)));
        leads = λ c f keeps.
            let q0 = answers_of (sight k) in
            let h = fits (sight k) c0 is_coloured in
            let e0 = silent n None (act.Answer u t a ∷ []) in
            leads_on k.options n None (act.Answer u t a ∷ []) c0 q0 (answering wish q0) c h (server_there k sound number s here).0 tt
            (runs_one k.options e0 (act.Answer u t a) c0 (answering wish q0)
            (answer_allowed k.options e0 c0 q0 u t a h (task_here k sound number s here c0 is_coloured u y at) (finished k sound number s here c0 is_coloured u ends (started_it k sound number s here c0 is_coloured u y at)) (wished_once k c olds news sound f wish less)))
            (part_agrees k c olds news sound f keeps part _ _ (wish_answered k c olds news sound f wish less) (λ o. holder_still k c olds news sound f keeps o (λ g. refl)));
      }

    -- the parent of a pair goes on
    module _ (p o : ℕ) (other : Task) (both : task_in (without_task s.rest.tasks u) o ≡ Some other) (e : y.state ≡ in_pair p false) (ended : over_of p other.state ≡ true) (a b : ℕ) (parent : ThreadState) (there : thread_in s.threads p ≡ Some parent) (waiting : parent.phase ≡ phase.WaitPar a b) where
      abbrev after : ThreadState
      after = record parent { phase = phase.GotPar a b }

      abbrev w3 : Work
      w3 = with_tasks (without_task (without_task s.rest.tasks u) o) x.work

      abbrev goes : List Thing
      goes = noted n y ∷ noted n other ∷ []

      both_go : WorkTurns x.work goes [] [] w3
      both_go = record {
        number = refl;
        noted = refl;
        labels = refl;
        things = λ f h.
            let one_goes = (note_goes x.work u y at).things f h in
            let other_goes = (note_goes (with_tasks (without_task s.rest.tasks u) x.work) o other both).things f h in
            omega (arith, one_goes, other_goes);
      }

      runs_same : (t : ℕ) (g : Running → ℕ) → runs g t (stands n false parent) ≡ runs g t (stands n false after)
      runs_same t g = ap (λ z. if_so (parent.number == t) (told g (if_some (not (is_over z)) (record { thread = t; server = n; has_ended = false })))) waiting

      quietly : Quietly k (message_things n it ++ stands n false parent ∷ goes) (stands n false after ∷ [])
      quietly = record {
        objects = λ j g. refl;
        drops = λ j. refl;
        copies = λ r w g. refl;
        served = λ j. refl;
        issued = λ h r w. refl;
        started = λ r w. refl;
        made = λ r w. refl;
        threads = λ t. omega arith;
        running = λ t g. omega (arith, runs_same t g);
        wishes = λ d.
            let first : wished_in d (noted n y) ≡ 0 = ap (λ z. same_as d (noted_wish y.thread z)) e in
            let second : wished_in d (noted n other) ≡ 0 = over_unwished d other.thread p other.state ended in
            omega (arith, first, second);
        there = λ j. omega arith;
        holders = λ j g. omega arith;
      }

      parent_goes : P (put_back s.threads (with_phase (phase.GotPar a b) (record { work = w3; thread = parent })))
      parent_goes = record {
        olds = stands n false parent ∷ goes;
        news = stands n false after ∷ [];
        acts = [];
        turns = thread_turns x p parent after goes [] [] w3 there refl refl both_go;
        leads = λ c f keeps. quiet_leads k c number s (message_things n it ++ stands n false parent ∷ goes) (stands n false after ∷ []) c0 sound here is_coloured f keeps quietly;
      }

    over_both : (p o : ℕ) (other : Task) → task_in (without_task s.rest.tasks u) o ≡ Some other → y.state ≡ in_pair p false → over_of p other.state ≡ true → (t : Option ThreadState) → thread_in s.threads p ≡ t
        → Gives P (then_some (option_map (λ z. record { work = with_tasks (without_task (without_task s.rest.tasks u) o) x.work; thread = z }) t) (λ h. option_map (put_back s.threads) (pair_over u h)))
    over_both p o other both e ended None there = tt
    over_both p o other both e ended (Some parent) there = by parent.phase refl
      where
        by : (j : Phase) → parent.phase ≡ j → Gives P (option_map (put_back s.threads) (option_map (λ l. with_phase l (record { work = with_tasks (without_task (without_task s.rest.tasks u) o) x.work; thread = parent })) (got_par u j)))
        by (phase.WaitPar a b) waiting = one_of ((a == u) || (b == u))
          where
            one_of : (c : Bool) → Gives P (option_map (put_back s.threads) (option_map (λ l. with_phase l (record { work = with_tasks (without_task (without_task s.rest.tasks u) o) x.work; thread = parent })) (if c then Some (phase.GotPar a b) else None)))
            one_of true = parent_goes p o other both e ended a b parent there waiting
            one_of false = tt
        by _ waiting = tt

    branch_ends : (p : ℕ) → y.state ≡ in_pair p false → (o : Option ℕ) → over_in s.rest.tasks p ≡ o → Ends (pair_ended s.rest.tasks u p o)
    branch_ends p e None d = note_changes (in_pair p true) (λ b. ap (λ z. same_as b (noted_wish y.thread z)) e) (λ b. refl)
    branch_ends p e (Some o) d =
        let parts : servers_wrong (sight k) 0 k.servers + sum_threads (sight k) pinned_parcel ≡ 0 = sound.parts.parts_are_typed in
        let rise : rising (numbers_of (λ t. t.thread) s.rest.tasks) ≡ 0 = notes_rise (sight k) 0 number k.servers s (omega (arith, parts)) here in
        let found = pair_finds p s.rest.tasks o rise d in
        let z = found.0 in
        let apart : (u ≡ o) → ⊥ = (λ same.
        let one_task : y ≡ z = same_task (sym at ∙ subst (λ j. task_in s.rest.tasks j ≡ Some z) (sym same) found.1) in
        not_over p p z.state (subst (λ (j : Task). j.state ≡ in_pair p false) one_task e) found.2) in
        over_both p o z (other_stays s.rest.tasks u o z apart found.1) e found.2 (thread_in s.threads p) refl

    state : (z : TaskState) → y.state ≡ z → Gives Ends (ended_from s.rest.tasks u v (Some z))
    state going e = note_changes (kept v) (λ b. ap (λ z. same_as b (noted_wish y.thread z)) e) (λ b. refl)
    state let_go e = result_let_go e
    state (kept w) e = tt
    state (asked a t) e = result_answered a t e
    state (in_pair p true) e = tt
    state (in_pair p false) e = branch_ends p e (over_in s.rest.tasks p) refl

  ended_as : (o : Option Task) → task_in s.rest.tasks u ≡ o → Gives Ends (ended_from s.rest.tasks u v (state_in o))
  ended_as None at = tt
  ended_as (Some y) at = state y at y.state refl

  pub thread_ends : Gives P (deliver_message k.code it (received i s))
  thread_ends = bind_gives Ends P (ended_from s.rest.tasks u v (state_in (task_in s.rest.tasks u))) _ (ended_as (task_in s.rest.tasks u) refl) (λ a g. g)
