-- A thread's result comes home: it is kept, goes to whoever asked, or goes where the thread was let go. A branch's goes into its note, and where both have
-- ended their parent has them.
use Rattle.std.proofs.Common.{◌≡◌, ℕ, zero, suc, ◌+◌, ◌≤◌, ◌==◌, ◌&&◌, ◌||◌, not, Bool, true, false, if◌then◌else◌, List, [], ◌∷◌, ◌++◌, Option, Some, None, refl, sym, ap, ap₂, subst, ◌∙◌, arith}
use Rattle.std.specs.Prelude.{slice_get, option_map}
use Rattle.std.proofs.lemmas.Bool.{eqb-true}
use Rattle.law_counts_sums.proofs.Below.fr_typing.PlaceLemmas.{eq_cases}
use Rattle.law_counts_sums.specs.Below.fr_base.declared.label.Plain.TheVariants as plain
use Rattle.law_counts_sums.specs.Below.heap_partition.Plain.{plain_of}
use Rattle.law_counts_sums.specs.Below.heap_partition.declared.value.Owned.{Owned}
use Rattle.law_counts_sums.specs.Below.heap_partition.declared.value.Owned.TheVariants as owned
use Rattle.law_counts_sums.specs.Below.join_home.Tasks.{Task, TaskState, going, let_go, kept, asked, in_pair, task_in, state_in, with_state, without_task, over_of, over_in, pair_ended, ended_from}
use Rattle.law_counts_sums.specs.Below.join_home.declared.answers.EndedAs.{EndedAs}
use Rattle.law_counts_sums.specs.Below.join_home.declared.answers.EndedAs.TheVariants as over
use Rattle.law_counts_sums.specs.Below.thread_state.View.{ThreadState}
use Rattle.law_counts_sums.specs.Below.thread_state.declared.phase.Phase.{Phase}
use Rattle.law_counts_sums.specs.Below.thread_state.declared.phase.Phase.TheVariants as phase
use Rattle.law_counts_sums.specs.Below.server_msgs.declared.message.Message.TheVariants as message
use Rattle.law_counts_sums.specs.Below.journal.declared.act.Act.TheVariants as act
use Rattle.law_counts_sums.specs.Below.server_model.declared.event.What.TheVariants.{Deliver}
use Rattle.law_counts_sums.specs.Below.server_model.Servers.{Server, Cluster, server_at}
use Rattle.law_counts_sums.specs.Below.server_model.Work.{Work, Site, note, with_tasks, with_phase, then_some, thread_in, set_thread, put_back}
use Rattle.law_counts_sums.specs.Below.server_model.Drop.{give_up}
use Rattle.law_counts_sums.specs.Below.server_model.Joining.{answer, got_par, pair_over, end_answer, deliver_finished}
use Rattle.law_counts_sums.specs.Below.server_model.Events.{received, does}
use Rattle.law_counts_sums.specs.Below.coherent_memory.Names.{tot, one, other, some, if_so}
use Rattle.law_counts_sums.specs.Below.coherent_memory.Things.{Thing, as_result, holds, stands, noted, things_at, task_things, message_things, things_of}
use Rattle.law_counts_sums.specs.Below.coherent_memory.Sight.{sight}
use Rattle.law_counts_sums.specs.Below.coherent_memory.Naming.{rising, numbers_of, servers_wrong, pinned_parcel}
use Rattle.law_counts_sums.specs.Below.coherent_memory.Walking.{sum_threads}
use Rattle.law_counts_sums.specs.Below.coherent_memory.Requests.{both_over}
use Rattle.law_counts_sums.specs.Below.coherent_memory.Rooted.{is_unit, other_result}
use Rattle.law_counts_sums.specs.Below.coherent_memory.OneHeap.{pair_note, in_pair_of, is_branch}
use Rattle.law_counts_sums.specs.Below.coherent_memory.Coherent.{IsSound}
use Rattle.law_counts_sums.proofs.Below.coherent_memory.Names.{and_left, and_right}
use Rattle.law_counts_sums.specs.Laws.{Gives}
use Rattle.law_counts_sums.proofs.Trades.{Trade, tot-append}
use Rattle.law_counts_sums.proofs.Results.{bind_gives}
use Rattle.law_counts_sums.proofs.Bags.{all_standing, rest_things, thread_number, tot-without, tot-set}
use Rattle.law_counts_sums.proofs.MutexResults.{has}
use Rattle.law_counts_sums.proofs.TaskMessages.{tot-gone, tot-put}
use Rattle.law_counts_sums.proofs.FinishSteps.{notes_rise, task_number}
use Rattle.law_counts_sums.proofs.Finished.{pair_finds, other_stays, same_task, not_over}
use Rattle.law_counts_sums.proofs.TurnPairs.{pairs_match}
use Rattle.law_counts_sums.proofs.GiftsTaken.{none_here}
use Rattle.law_heap_still.specs.events.Shows.{Sign, nothing, a_value, a_branch, a_thread, sign_of, shown_thread, Counts}
use Rattle.law_heap_still.proofs.events.Told.{at_most}
use Rattle.law_heap_still.proofs.events.Sites.{shown, site_things, sends, Leaves, beside_leaves, Takes, takes_all, site_takes, ServerStill, deliveries_by}
use Rattle.law_heap_still.proofs.events.Arrivals.{thread_parts}
use Rattle.law_heap_still.proofs.events.Requests.{task_moves}
use Rattle.law_heap_still.proofs.events.Unnamed.{notes_as, note_counts, nobody_waits, nobody_has_it}
use Rattle.law_heap_still.proofs.events.Back.{gives_up}

-- THE PARENT

-- a thread's phase changes: the thread goes and comes, and all else is as it was
phase_leaves : (t : ℕ) (x : Site) (y : ThreadState) (p : Phase) → thread_in x.threads t ≡ Some y
    → Leaves (stands x.work.rest.number false (record y { phase = p }) ∷ []) (stands x.work.rest.number false y ∷ []) x (put_back x.threads (with_phase p (record { work = x.work; thread = y })))
phase_leaves t x y p q w z =
    let f : Thing → ℕ = λ u. w (sign_of u) in
    let n = x.work.rest.number in
    let y2 : ThreadState = record y { phase = p } in
    let r = rest_things n 0 x.work.rest in
    let ts = set_thread x.threads y2 in
    omega (
      arith,
      tot-without n f x.threads t y q,
      tot-set n f x.threads t y y2 q (thread_number x.threads t y q),
      thread_parts w z n false y,
      thread_parts w z n false y2,
      tot-append f (all_standing n x.threads) r,
      tot-append f (all_standing n ts) r,
    )

-- two names that match two others, wherever they are counted, have the same weights
two_match : (u o a b : ℕ) (f : ℕ → ℕ) → ((w : ℕ) → one (u == w) + one (o == w) ≡ one (a == w) + one (b == w)) → f u + f o ≡ f a + f b
two_match u o a b f match =
    eq_cases (λ c. one (u == a) ≡ one c → f u + f o ≡ f a + f b) u a
    (λ e k.
    let both : one (u == o) ≡ one (a == o) = ap (λ i. one (i == o)) e in
    let rest : b ≡ o = named b o (omega (arith, match o, self o, both)) in
    let first = ap f e in
    let second = ap f rest in
    omega (arith, first, second))
    (λ ne k.
    let rest : o ≡ a = named o a (omega (arith, match a, self a, k)) in
    let both : one (o == u) ≡ one (a == u) = ap (λ i. one (i == u)) rest in
    let last : b ≡ u = named b u (omega (arith, match u, self u, both)) in
    let first = ap f rest in
    let second = ap f last in
    omega (arith, first, second)) refl
  where
    self : (x : ℕ) → one (x == x) ≡ 1
    self x = eq_cases (λ c. one c ≡ 1) x x (λ e. refl) (λ ne. absurd (ne refl))

    named : (x y : ℕ) → 1 ≤ one (x == y) → x ≡ y
    named x y l = eq_cases (λ c. 1 ≤ one c → x ≡ y) x y (λ e k. e) (λ ne k. absurd (omega (arith, k))) l

-- the other one is noted as over in the pair of that parent
is_over_in : (p : ℕ) (z : TaskState) → over_of p z ≡ true → z ≡ in_pair p true
is_over_in p (in_pair q o) e = ap₂ in_pair (sym (eqb-true p q (and_left (p == q) o e))) (and_right (p == q) o e)
is_over_in p going e = absurd (cc e)
is_over_in p let_go e = absurd (cc e)
is_over_in p (kept v) e = absurd (cc e)
is_over_in p (asked a b) e = absurd (cc e)

unit_is : (v : Owned) → is_unit v ≡ true → plain_of v ≡ plain.Unit
unit_is owned.Unit e = refl
unit_is owned.Nothing e = absurd (cc e)
unit_is (owned.Int i) e = absurd (cc e)
unit_is (owned.Box p) e = absurd (cc e)
unit_is (owned.Mutex m) e = absurd (cc e)
unit_is (owned.Task t) e = absurd (cc e)

module _ (k : Cluster) (sound : IsSound k) (number : ℕ) (s : Server) (here : server_at k.servers number ≡ Some s) (i u : ℕ) (v : Owned) (q : slice_get s.rest.inbox i ≡ Some (message.Finished u v)) where
  abbrev n : ℕ
  n = s.rest.number

  abbrev came : List Thing
  came = message_things s.rest.number (message.Finished u v)

  abbrev it : List Thing
  it = holds (as_result u) v ∷ []

  abbrev x0 : Site
  x0 = received i s

  abbrev w0 : Work
  w0 = (received i s).work

  abbrev Ends : List Task × EndedAs → Type 0
  Ends p = Gives (Takes k came (received i s)) (end_answer u p.1 (record (received i s) { work = with_tasks p.0 (received i s).work }))

  -- a note in a state shows what that state does
  note_shows : (y : Task) (z : TaskState) → task_in s.rest.tasks u ≡ Some y → y.state ≡ z → (w : Sign → ℕ) → shown w (task_things n 0 y) ≡ shown w (task_things n 0 (record { thread = u; state = z }))
  note_shows y z e h w = ap₂ (λ j x. shown w (task_things n 0 (record { thread = j; state = x }))) (task_number s.rest.tasks u y e) h

  abbrev left : List Task
  left = without_task s.rest.tasks u

  note_goes : (y : Task) → task_in s.rest.tasks u ≡ Some y → Trade (things_at (task_things n) 0 s.rest.tasks) (task_things n 0 y) [] (things_at (task_things n) 0 (without_task s.rest.tasks u))
  note_goes y e = record { rest = things_at (task_things n) 0 (without_task s.rest.tasks u); before = λ f. tot-gone f n s.rest.tasks u y e; after = λ f. omega arith }

  note_turns : (y : Task) (z : TaskState) → task_in s.rest.tasks u ≡ Some y
      → Trade (things_at (task_things n) 0 s.rest.tasks) (task_things n 0 y) (task_things n 0 (record { thread = u; state = z })) (things_at (task_things n) 0 (with_state s.rest.tasks u z))
  note_turns y z e = record { rest = things_at (task_things n) 0 (without_task s.rest.tasks u); before = λ f. tot-gone f n s.rest.tasks u y e; after = λ f. tot-put f n s.rest.tasks u y z e }

  -- A BRANCH

  -- its result is unit
  result_unit : (y : Task) (p : ℕ) → task_in s.rest.tasks u ≡ Some y → y.state ≡ in_pair p false → plain_of v ≡ plain.Unit
  result_unit y p e h =
      let f = other_result (sight k) in
      let none : tot f (things_of k) ≡ 0 = sound.rooted.branches_give_unit in
      let counted : 1 ≤ tot (notes_as u pair_note) (things_of k) = note_counts k sound number s here u pair_note y (in_pair p false) e h in
      let branch : is_branch (sight k) u ≡ true = some_true (tot (in_pair_of u) (things_of k)) (omega (arith, counted, at_most (notes_as u pair_note) (in_pair_of u) as_pair (things_of k))) in
      let mine : if_so (is_branch (sight k) u) (other (is_unit v)) ≡ 0 = omega (arith, none, has k sound number s here i (message.Finished u v) q f) in
      unit_is v (unit_where (is_branch (sight k) u) (is_unit v) branch mine)
    where
      as_pair : (x : Thing) → notes_as u pair_note x ≤ in_pair_of u x
      as_pair (noted r x) = omega arith
      as_pair _ = omega arith

      some_true : (c : ℕ) → 1 ≤ c → some c ≡ true
      some_true zero l = absurd (omega (arith, l))
      some_true (suc c) l = refl

      unit_where : (b c : Bool) → b ≡ true → if_so b (other c) ≡ 0 → c ≡ true
      unit_where true true e z = refl
      unit_where true false e z = absurd (cc z)
      unit_where false c e z = absurd (cc e)

  -- what it counts as beside its note
  ended_counts : (y : Task) (p : ℕ) → task_in s.rest.tasks u ≡ Some y → y.state ≡ in_pair p false → (w : Sign → ℕ) → w nothing ≡ 0 → Counts (sight k) w → shown w came + w (a_branch u false) ≡ w (a_branch u true)
  ended_counts y p e h w z c =
      let unit : w (a_value (as_result u) (plain_of v)) ≡ w (a_value (as_result u) plain.Unit) = ap (λ j. w (a_value (as_result u) j)) (result_unit y p e h) in
      omega (arith, z, unit, c.branches u)

  first_over : (y : Task) (p : ℕ) → task_in s.rest.tasks u ≡ Some y → y.state ≡ in_pair p false → Ends (with_state s.rest.tasks u (in_pair p true), over.Kept)
  first_over y p e h =
      let gone : List Thing = noted n (record { thread = u; state = in_pair p true }) ∷ [] in
      let hand : List Thing = noted n (record { thread = u; state = in_pair p false }) ∷ [] in
      site_takes k came (received i s) (with_tasks (with_state s.rest.tasks u (in_pair p true)) w0) (record {
        gone = gone;
        hand = hand;
        moves = task_moves gone hand w0.rest (with_state s.rest.tasks u (in_pair p true)) (task_things n 0 y) (task_things n 0 (record { thread = u; state = in_pair p true })) (note_turns y (in_pair p true) e) (λ w z. omega (arith, note_shows y (in_pair p false) e h w));
        counts = λ w z c. omega (arith, ended_counts y p e h w z c);
      })

  module _ (y : Task) (p o : ℕ) (z : Task) (e : task_in s.rest.tasks u ≡ Some y) (h : y.state ≡ in_pair p false) (there : task_in (without_task s.rest.tasks u) o ≡ Some z) (over_too : z.state ≡ in_pair p true) where
    abbrev fewer : List Task
    fewer = without_task (without_task s.rest.tasks u) o

    abbrev notes : List Thing
    notes = noted n (record { thread = u; state = in_pair p false }) ∷ noted n (record { thread = o; state = in_pair p true }) ∷ []

    abbrev x1 : Site
    x1 = record (received i s) { work = with_tasks fewer w0 }

    notes_gone : Leaves [] notes x0 x1
    notes_gone =
        beside_leaves [] notes (received i s) (with_tasks fewer w0)
        (task_moves [] notes w0.rest fewer (task_things n 0 y ++ task_things n 0 z) [] (record {
          rest = things_at (task_things n) 0 fewer;
          before = λ f. omega (arith, tot-gone f n s.rest.tasks u y e, tot-gone f n (without_task s.rest.tasks u) o z there, tot-append f (task_things n 0 y) (task_things n 0 z));
          after = λ f. omega arith;
        }) (λ w c.
        let f : Thing → ℕ = λ x. w (sign_of x) in
        let second : shown w (task_things n 0 z) ≡ shown w (task_things n 0 (record { thread = o; state = in_pair p true })) = ap₂ (λ j x. shown w (task_things n 0 (record { thread = j; state = x }))) (task_number (without_task s.rest.tasks u) o z there) over_too in
        omega (arith, note_shows y (in_pair p false) e h w, second, tot-append f (task_things n 0 y) (task_things n 0 z))))

    module _ (x : ThreadState) (at : thread_in s.threads p ≡ Some x) (a b : ℕ) (waiting : x.phase ≡ phase.WaitPar a b) where
      differ : (a == b) ≡ false
      differ =
          let wrong : both_over (sight k) (record { server = n; packed = false; thread = x }) x.phase ≡ 0 = none_here k sound number s here p x at (λ j. both_over (sight k) j j.thread.phase) sound.requests.pairs_go_on in
          by (a == b) _ (subst (λ j. both_over (sight k) (record { server = n; packed = false; thread = x }) j ≡ 0) waiting wrong)
        where
          by : (c d : Bool) → other (not c && d) ≡ 0 → c ≡ false
          by true d r = absurd (cc r)
          by false d r = refl

      abbrev x2 : ThreadState
      x2 = record x { phase = phase.GotPar a b }

      -- the parent that has both counts as one that waits beside both
      parent_counts : (w : Sign → ℕ) → w nothing ≡ 0 → Counts (sight k) w → w (sign_of (stands n false x2)) ≡ w (sign_of (stands n false x)) + w (a_branch u true) + w (a_branch o true)
      parent_counts w c counts =
          let before : w (sign_of (stands n false x)) ≡ w (a_thread (shown_thread x2) false) = ap (λ j. w (sign_of (stands n false (record x { phase = j })))) waiting in
          let pair = counts.pairs (shown_thread x2) a b refl differ in
          let match = two_match u o a b (λ j. w (a_branch j true)) (pairs_match k sound number s here u o p a b y z x e there h over_too at waiting) in
          omega (arith, before, pair, match)

      parent_goes : Takes k came x0 (put_back s.threads (with_phase (phase.GotPar a b) (record { work = x1.work; thread = x })))
      parent_goes = record {
        gone = stands n false x2 ∷ [];
        hand = stands n false x ∷ notes;
        leaves = λ w c.
            let f : Thing → ℕ = λ j. w (sign_of j) in
            let after = put_back s.threads (with_phase (phase.GotPar a b) (record { work = x1.work; thread = x })) in
            omega (arith, notes_gone w c, phase_leaves p x1 x (phase.GotPar a b) at w c, tot-append f notes (site_things x1));
        counts = λ w c counts. omega (arith, parent_counts w c counts, ended_counts y p e h w c counts);
      }

    over_both : (o2 : Option ThreadState) → thread_in s.threads p ≡ o2
        → Gives (Takes k came x0) (then_some (option_map (λ x. record { work = x1.work; thread = x }) o2) (λ j. option_map (put_back s.threads) (pair_over u j)))
    over_both None at = tt
    over_both (Some x) at = by x.phase refl
      where
        by : (j : Phase) → x.phase ≡ j → Gives (Takes k came x0) (option_map (put_back s.threads) (option_map (λ l. with_phase l (record { work = x1.work; thread = x })) (got_par u j)))
        by (phase.WaitPar a b) waiting = one_of ((a == u) || (b == u))
          where
            one_of : (c : Bool) → Gives (Takes k came x0) (option_map (put_back s.threads) (option_map (λ l. with_phase l (record { work = x1.work; thread = x })) (if c then Some (phase.GotPar a b) else None)))
            one_of true = parent_goes x at a b waiting
            one_of false = tt
        by _ waiting = tt

  rise : rising (numbers_of (λ t. t.thread) s.rest.tasks) ≡ 0
  rise =
      let parts : servers_wrong (sight k) 0 k.servers + sum_threads (sight k) pinned_parcel ≡ 0 = sound.parts.parts_are_typed in
      notes_rise (sight k) 0 number k.servers s (omega (arith, parts)) here

  second_over : (y : Task) (p : ℕ) → task_in s.rest.tasks u ≡ Some y → y.state ≡ in_pair p false → (o : ℕ) → over_in s.rest.tasks p ≡ Some o → Ends (without_task (without_task s.rest.tasks u) o, over.Both p)
  second_over y p e h o d =
      let found = pair_finds p s.rest.tasks o rise d in
      let z = found.0 in
      let apart : (u ≡ o) → ⊥ = λ same.
      let one_task : y ≡ z = same_task (sym e ∙ subst (λ j. task_in s.rest.tasks j ≡ Some z) (sym same) found.1) in
      not_over p p z.state (subst (λ (j : Task). j.state ≡ in_pair p false) one_task h) found.2 in
      over_both y p o z e h (other_stays s.rest.tasks u o z apart found.1) (is_over_in p z.state found.2) (thread_in s.threads p) refl

  branch_ends : (y : Task) (p : ℕ) → task_in s.rest.tasks u ≡ Some y → y.state ≡ in_pair p false → (o : Option ℕ) → over_in s.rest.tasks p ≡ o → Ends (pair_ended s.rest.tasks u p o)
  branch_ends y p e h None d = first_over y p e h
  branch_ends y p e h (Some o) d = second_over y p e h o d

  -- EACH STATE OF THE NOTE

  state : (y : Task) → task_in s.rest.tasks u ≡ Some y → (z : TaskState) → y.state ≡ z → Gives Ends (ended_from s.rest.tasks u v (Some z))
  state y e going h =
      site_takes k came (received i s) (with_tasks (with_state s.rest.tasks u (kept v)) w0) (takes_all k came w0.rest (record w0.rest { tasks = with_state s.rest.tasks u (kept v) })
      (task_moves came [] w0.rest (with_state s.rest.tasks u (kept v)) (task_things n 0 y) (task_things n 0 (record { thread = u; state = kept v })) (note_turns y (kept v) e) (λ w z. omega (arith, z, note_shows y going e h w))))
  state y e let_go h =
      site_takes k came (received i s) (give_up v (with_tasks (without_task s.rest.tasks u) w0)) (record {
        gone = came;
        hand = it;
        moves = gives_up came it w0.rest v (with_tasks (without_task s.rest.tasks u) w0) (task_moves came it w0.rest (without_task s.rest.tasks u) (task_things n 0 y) [] (note_goes y e) (λ w z. omega (arith, z, note_shows y let_go e h w)));
        counts = λ w z c. (let none : w (a_value (as_result u) (plain_of v)) ≡ 0 = c.results u (plain_of v) (nobody_has_it k sound number s here i u v y q e h) (nobody_waits k sound number s here i u v y q e h) in omega (arith, none));
      })
  state y e (asked a t) h =
      site_takes k came (received i s) (answer u a t v (with_tasks (without_task s.rest.tasks u) w0)) (takes_all k came w0.rest (answer u a t v (with_tasks (without_task s.rest.tasks u) w0)).rest
      (sends came it w0.rest (note (act.Answer u t a) (with_tasks (without_task s.rest.tasks u) w0)) a (message.Joined u v t)
      (task_moves came it w0.rest (without_task s.rest.tasks u) (task_things n 0 y) [] (note_goes y e) (λ w z. omega (arith, z, note_shows y (asked a t) e h w))) (λ w z. omega (arith, z))))
  state y e (kept r) h = tt
  state y e (in_pair p true) h = tt
  state y e (in_pair p false) h = branch_ends y p e h (over_in s.rest.tasks p) refl

  ends : Gives (Takes k came x0) (deliver_finished u v x0)
  ends = by (task_in s.rest.tasks u) refl
    where
      by : (o : Option Task) → task_in s.rest.tasks u ≡ o → Gives (Takes k came x0) (then_some (ended_from s.rest.tasks u v (state_in o)) (λ a. end_answer u a.1 (record x0 { work = with_tasks a.0 x0.work })))
      by None e = tt
      by (Some y) e = bind_gives Ends (Takes k came x0) (ended_from s.rest.tasks u v (Some y.state)) _ (state y e y.state refl) (λ a g. g)

  pub threads_end : Gives (ServerStill k s) (does k.code k.options s (Deliver i))
  threads_end = deliveries_by k s i (message.Finished u v) q ends
