-- In a sound cluster the delivery of a `finished` has a result: its thread is noted as one that goes on, and the parent of a pair waits here.
use Rattle.std.proofs.Common.{◌≡◌, ℕ, ◌+◌, ◌*◌, ◌≤◌, ◌==◌, ◌&&◌, ◌||◌, nat_lt, Bool, true, false, if◌then◌else◌, List, [], ◌∷◌, Option, Some, None, IsSome, refl, sym, ap₂, subst, arith}
use Rattle.std.specs.Prelude.{slice_get, option_map}
use Rattle.std.proofs.lemmas.Bool.{eqb-true}
use Rattle.coherent_memory.proofs.Below.fr_typing.PlaceLemmas.{eq_cases}
use Rattle.coherent_memory.specs.Below.heap_partition.declared.value.Owned.{Owned}
use Rattle.coherent_memory.specs.Below.join_home.Tasks.{Task, TaskState, going, let_go, kept, in_pair, task_in, state_in, over_in, without_task, pair_ended, ended_from}
use Rattle.coherent_memory.specs.Below.join_home.Tasks as tasks
use Rattle.coherent_memory.specs.Below.join_home.declared.answers.EndedAs.{EndedAs}
use Rattle.coherent_memory.specs.Below.thread_state.View.{ThreadState}
use Rattle.coherent_memory.specs.Below.thread_state.declared.phase.Phase.{Phase}
use Rattle.coherent_memory.specs.Below.thread_state.declared.phase.Phase.TheVariants as phase
use Rattle.coherent_memory.specs.Below.server_msgs.declared.message.Message.{Message}
use Rattle.coherent_memory.specs.Below.server_msgs.declared.message.Message.TheVariants as message
use Rattle.coherent_memory.specs.Below.server_model.Servers.{Server, Cluster, server_at}
use Rattle.coherent_memory.specs.Below.server_model.Work.{Hand, Site, thread_in, put_back, at_thread, with_tasks, with_phase, then_some}
use Rattle.coherent_memory.specs.Below.server_model.Joining.{got_par, pair_over, end_answer}
use Rattle.coherent_memory.specs.Below.server_model.Events.{received}
use Rattle.coherent_memory.specs.Names.{tot, one, other, if_so}
use Rattle.coherent_memory.specs.Things.{Thing, sent, stands, noted, message_things, things_of}
use Rattle.coherent_memory.specs.Follow.{Standing, threads_in, thread_at}
use Rattle.coherent_memory.specs.Sight.{sight}
use Rattle.coherent_memory.specs.Weights.{is_thread}
use Rattle.coherent_memory.specs.Walking.{is_ready}
use Rattle.coherent_memory.specs.Requests.{Branch, is_got, in_server, in_phase, misrouted, home_of, pair_notes, pair_places, branch_places}
use Rattle.coherent_memory.specs.Sharing.{going_on, going_notes, goes_on}
use Rattle.coherent_memory.specs.Coherent.{IsSound}
use Rattle.coherent_memory.proofs.Names.{and_left, and_right}
use Rattle.coherent_memory.proofs.Sums.{server_parts}
use Rattle.law_counts_sums.specs.Laws.{FinishesHaveResults}
use Rattle.law_counts_sums.proofs.Trades.{tot-remove}
use Rattle.law_counts_sums.proofs.Events.{tot-server}
use Rattle.law_counts_sums.proofs.Askers.{other_none}
use Rattle.law_counts_sums.proofs.TaskMessages.{tot-gone}
use Rattle.law_counts_sums.proofs.FinishSteps.{task_number}
use Rattle.law_counts_sums.proofs.HaveResults.{some_map, arrives}
use Rattle.law_counts_sums.proofs.StandsHere.{Here, IsWaiting, stands_here}
use Rattle.law_counts_sums.proofs.NotesFound.{note, Noted, note_found}

-- WHO WAITS FOR A BRANCH

abbrev waits_pair : ℕ → Phase → Bool
waits_pair u (phase.WaitPar a b) = (a == u) || (b == u)
waits_pair u p = false

pair_waits : (u : ℕ) → IsWaiting (waits_pair u)
pair_waits u = record { unready = by; ungot = by2 }
  where
    by : (p : Phase) → waits_pair u p ≡ true → is_ready p ≡ false
    by (phase.WaitPar a b) e = refl
    by _ e = absurd (cc e)

    by2 : (p : Phase) → waits_pair u p ≡ true → is_got p ≡ false
    by2 (phase.WaitPar a b) e = refl
    by2 _ e = absurd (cc e)

got_some : (u : ℕ) (p : Phase) → waits_pair u p ≡ true → IsSome (got_par u p)
got_some u (phase.WaitPar a b) e = by ((a == u) || (b == u)) e
  where
    by : (c : Bool) → c ≡ true → IsSome (if c then Some (phase.GotPar a b) else None)
    by true e = refl
    by false e = absurd (cc e)
got_some u _ e = absurd (cc e)

at_some : (x : Site) (t : ℕ) (f : Hand → Option Hand) (y : ThreadState) → thread_in x.threads t ≡ Some y → IsSome (f (record { work = x.work; thread = y })) → IsSome (at_thread t f x)
at_some x t f y e h = subst (λ o. IsSome (then_some (option_map (λ z. record { work = x.work; thread = z }) o) (λ z. option_map (put_back x.threads) (f z)))) (sym e) (some_map (put_back x.threads) (f (record { work = x.work; thread = y })) h)

truly : (b : Bool) → 1 ≤ one b → b ≡ true
truly true l = refl
truly false l = absurd (omega (arith, l))

-- where one thread of that number is, and it stands at that server in such a phase, it is found so
module _ (p n : ℕ) (f : Phase → Bool) where
  abbrev standing : Thing → ℕ
  standing (stands r q t) = one (t.number == p && (r == n && f t.phase))
  standing x = 0

  ones : (c d : Bool) → one (c && d) ≤ one c
  ones true true = omega arith
  ones true false = omega arith
  ones false d = omega arith

  is_one : (x : Thing) → standing x ≤ is_thread p x
  is_one (stands r q t) = ones (t.number == p) (r == n && f t.phase)
  is_one _ = omega arith

  all_one : (b : List Thing) → tot standing b ≤ tot (is_thread p) b
  all_one [] = omega arith
  all_one (x ∷ b) = omega (arith, is_one x, all_one b)

  abbrev Stands : Option Standing → Type 0
  Stands o = (in_server n o ≡ true) × (in_phase f o ≡ true)

  finds : (b : List Thing) → tot (is_thread p) b ≤ 1 → 1 ≤ tot standing b → Stands (thread_at (threads_in b) p)
  finds [] few l = absurd (omega (arith, l))
  finds (stands r q t ∷ b) few l =
      eq_cases (λ c. one (t.number == p) ≡ one c → standing (stands r q t) ≡ one (c && (r == n && f t.phase)) → Stands (if c then Some (record { server = r; packed = q; thread = t }) else thread_at (threads_in b) p)) t.number p
      (λ e g w.
      let both : (r == n && f t.phase) ≡ true = truly (r == n && f t.phase) (omega (arith, few, l, g, w, all_one b)) in
      (and_left (r == n) (f t.phase) both, and_right (r == n) (f t.phase) both)) (λ ne g w. finds b (omega (arith, few, g)) (omega (arith, l, w))) refl refl
  finds (_ ∷ b) few l = finds b (omega (arith, few)) (omega (arith, l))

-- a place of a branch is that of a thread that waits for it
places_two : (u : ℕ) (q : Phase) → branch_places u q ≤ 2 * one (waits_pair u q)
places_two u (phase.WaitPar a b) = by (a == u) (b == u)
  where
    by : (c d : Bool) → one c + one d ≤ 2 * one (c || d)
    by true true = omega arith
    by true false = omega arith
    by false true = omega arith
    by false false = omega arith
places_two u _ = omega arith

place_stands : (n p u : ℕ) (x : Thing) → pair_places (record { server = n; parent = p; thread = u }) x ≤ 2 * standing p n (waits_pair u) x
place_stands n p u (stands r q t) = by (r == n) (t.number == p) (waits_pair u t.phase) (branch_places u t.phase) (places_two u t.phase)
  where
    by : (c d e : Bool) (m : ℕ) → m ≤ 2 * one e → if_so (c && d) m ≤ 2 * one (d && (c && e))
    by true true e m l = l
    by true false e m l = omega arith
    by false true e m l = omega arith
    by false false e m l = omega arith
place_stands n p u _ = omega arith

all_places : (n p u : ℕ) (b : List Thing) → tot (pair_places (record { server = n; parent = p; thread = u })) b ≤ 2 * tot (standing p n (waits_pair u)) b
all_places n p u [] = omega arith
all_places n p u (x ∷ b) = omega (arith, place_stands n p u x, all_places n p u b)

same_notes : (u n : ℕ) (b : List Thing) → tot (going_notes u) b ≡ tot (note u n going_on) b
same_notes u n [] = refl
same_notes u n (x ∷ b) = omega (arith, is_note x, same_notes u n b)
  where
    is_note : (x : Thing) → going_notes u x ≡ note u n going_on x
    is_note (noted r x) = refl
    is_note _ = refl

self : (x : ℕ) → one (x == x) ≡ 1
self x = eq_cases (λ b. one b ≡ 1) x x (λ e. refl) (λ ne. absurd (ne refl))

module _ (k : Cluster) (sound : IsSound k) (number i : ℕ) (s : Server) (here : server_at k.servers number ≡ Some s) (u : ℕ) (v : Owned) (q : slice_get s.rest.inbox i ≡ Some (message.Finished u v)) where
  abbrev n : ℕ
  n = s.rest.number

  abbrev m : Message
  m = message.Finished u v

  has : (g : Thing → ℕ) → g (sent n m) ≤ tot g (things_of k)
  has g = omega (arith, (tot-server g k.servers number s s here).0, server_parts g s, tot-remove (λ x. message_things n x) g 0 s.rest.inbox i m q)

  home : home_of u ≡ n
  home =
      let all : tot (misrouted (sight k)) (things_of k) ≡ 0 = sound.requests.go_right in
      let route : other (nat_lt n k.options.servers && (home_of u == n)) ≡ 0 = omega (arith, has (misrouted (sight k)), all) in
      eqb-true (home_of u) n (and_right (nat_lt n k.options.servers) (home_of u == n) (other_none _ route))

  is_noted : Noted u n going_on s.rest.tasks
  is_noted =
      let weighs : goes_on u (sent n m) ≡ 1 = self u in
      note_found k sound number s here u going_on home (omega (arith, same_notes u n (things_of k), sound.mutexes_and_tasks.noted_go_on u, has (goes_on u), weighs))

  -- the parent of a pair
  parent : (p : ℕ) (x : Task) → task_in s.rest.tasks u ≡ Some x → x.state ≡ in_pair p false → Here n p (waits_pair u) s.threads
  parent p x e h =
      let c : Branch = record { server = n; parent = p; thread = u } in
      let g = pair_notes c in
      let numbered : g (noted n x) ≡ g (noted n (record { thread = u; state = in_pair p false })) = ap₂ (λ a b. g (noted n (record { thread = a; state = b }))) (task_number s.rest.tasks u x e) h in
      let mine : g (noted n (record { thread = u; state = in_pair p false })) ≡ 1 = whole n u p in
      let notes : 1 ≤ tot g (things_of k) = omega (arith, (tot-server g k.servers number s s here).0, server_parts g s, tot-gone g n s.rest.tasks u x e, numbered, mine) in
      let found = finds p n (waits_pair u) (things_of k) (sound.names.numbers_differ p) (omega (arith, notes, sound.requests.pairs_noted c, all_places n p u (things_of k))) in
      stands_here k sound number s here p (waits_pair u) (pair_waits u) found.0 found.1
    where
      whole : (a b c : ℕ) → one ((a == a && b == b) && c == c) ≡ 1
      whole a b c = eq_cases (λ d. one ((d && b == b) && c == c) ≡ 1) a a (λ e. eq_cases (λ d. one ((true && d) && c == c) ≡ 1) b b (λ e. self c) (λ ne. absurd (ne refl))) (λ ne. absurd (ne refl))

  abbrev After : List Task × EndedAs → Option Site
  After a = end_answer u a.1 (record { work = with_tasks a.0 (received i s).work; threads = s.threads })

  in_pairs : (p : ℕ) (x : Task) → task_in s.rest.tasks u ≡ Some x → x.state ≡ in_pair p false → (o : Option ℕ) → IsSome (After (pair_ended s.rest.tasks u p o))
  in_pairs p x e h None = refl
  in_pairs p x e h (Some o) =
      let it = parent p x e h in
      let y = it.0 in
      let w = with_tasks (without_task (without_task s.rest.tasks u) o) (received i s).work in
      let waits : waits_pair u y.phase ≡ true = and_left (waits_pair u y.phase) _ (and_right (n == n) _ it.2) in
      at_some (record { work = w; threads = s.threads }) p (pair_over u) y it.1 (some_map (λ c. with_phase c (record { work = w; thread = y })) (got_par u y.phase) (got_some u y.phase waits))

  ends : (x : Task) → task_in s.rest.tasks u ≡ Some x → (z : TaskState) → x.state ≡ z → going_on z ≡ true → IsSome (then_some (ended_from s.rest.tasks u v (Some z)) After)
  ends x e going h on = refl
  ends x e let_go h on = refl
  ends x e (kept w) h on = absurd (cc on)
  ends x e (tasks.asked a b) h on = refl
  ends x e (in_pair p true) h on = absurd (cc on)
  ends x e (in_pair p false) h on = in_pairs p x e h (over_in s.rest.tasks p)

  delivered : IsSome (then_some (ended_from s.rest.tasks u v (state_in (task_in s.rest.tasks u))) After)
  delivered =
      let it = is_noted in
      subst (λ o. IsSome (then_some (ended_from s.rest.tasks u v (state_in o)) After)) (sym it.1) (ends it.0 it.1 it.0.state refl it.2)

pub finishes_have_results : FinishesHaveResults
finishes_have_results k number i s u v sound here on q = arrives k number i s (message.Finished u v) here on q (delivered k sound number i s here u v q)
