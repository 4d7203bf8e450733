-- A thread that waits for a pair waits for two threads of which not both are over, after each event of a sound cluster.
use Rattle.std.proofs.Common.{◌≡◌, ℕ, zero, suc, ◌+◌, ◌≤◌, ◌==◌, ◌&&◌, not, Bool, true, false, if◌then◌else◌, List, [], ◌∷◌, ◌++◌, Option, Some, None, refl, sym, ap, subst, ◌∙◌, arith}
use Rattle.std.proofs.lemmas.Bool.{eqb-true, eq-eqb}
use Rattle.law_results_reads.proofs.Below.fr_typing.PlaceLemmas.{eq_cases}
use Rattle.law_results_reads.specs.Below.join_home.Tasks.{Task, TaskState, going, let_go, kept, asked, in_pair, over_of}
use Rattle.law_results_reads.specs.Below.mutex_home.Mutexes.{Mutex}
use Rattle.law_results_reads.specs.Below.thread_state.View.{ThreadState}
use Rattle.law_results_reads.specs.Below.thread_state.declared.phase.Phase.{Phase}
use Rattle.law_results_reads.specs.Below.thread_state.declared.phase.Phase.TheVariants as phase
use Rattle.law_results_reads.specs.Below.server_msgs.declared.message.Message.{Message}
use Rattle.law_results_reads.specs.Below.server_msgs.declared.message.Message.TheVariants as message
use Rattle.law_results_reads.specs.Below.journal.View.{EntryView}
use Rattle.law_results_reads.specs.Below.server_model.declared.event.Event.{Event}
use Rattle.law_results_reads.specs.Below.server_model.Servers.{Rest, Server, Cluster, server_at}
use Rattle.law_results_reads.specs.Below.server_model.Events.{enabled}
use Rattle.law_results_reads.specs.Below.server_model.Clusters.{done_at, act_at, apply}
use Rattle.law_results_reads.specs.Below.coherent_memory.Names.{tot, one, other, if_so, some}
use Rattle.law_results_reads.specs.Below.coherent_memory.Things.{Thing, noted, stands, things_at, content_things, queue_things, mutex_things, task_things, standing_things, waiting_things, leaving_things, message_things, server_things, servers_things, things_of}
use Rattle.law_results_reads.specs.Below.coherent_memory.Follow.{Standing, threads_in, thread_at}
use Rattle.law_results_reads.specs.Below.coherent_memory.Sight.{sight}
use Rattle.law_results_reads.specs.Below.coherent_memory.Weights.{is_thread}
use Rattle.law_results_reads.specs.Below.coherent_memory.Naming.{servers_wrong, pinned_parcel}
use Rattle.law_results_reads.specs.Below.coherent_memory.Walking.{sum_threads}
use Rattle.law_results_reads.specs.Below.coherent_memory.Requests.{Branch, half_noted, half_over, pair_notes, pair_places, branch_places, over_at, both_over}
use Rattle.law_results_reads.specs.Below.coherent_memory.Coherent.{IsSound, Holds, pairs_go_on}
use Rattle.law_results_reads.proofs.Below.coherent_memory.Names.{left_none}
use Rattle.law_results_reads.proofs.Below.coherent_memory.Sums.{tot-append, server_parts}
use Rattle.law_results_reads.specs.Below.law_counts_sums.Laws.{Gives, FewEvents, PairsNoted}
use Rattle.law_results_reads.proofs.Below.law_counts_sums.Results.{then_gives, over_gives, test_gives, both_give}
use Rattle.law_results_reads.proofs.Below.law_counts_sums.Unseen.{Unseen, none_at, thread_alone, content_none, result_none, partition_none, copies_none}
use Rattle.law_results_reads.proofs.Below.law_counts_sums.Elsewhere.{here_alone}
use Rattle.law_results_reads.proofs.Below.law_counts_sums.Events.{tot-server}
use Rattle.law_results_reads.proofs.Below.law_counts_sums.Applied.{handed_on}
use Rattle.law_results_reads.proofs.Below.law_counts_sums.Sending.{each_event_sends}
use Rattle.law_results_reads.proofs.Below.law_counts_sums.FinishSteps.{notes_rise}
use Rattle.law_results_reads.proofs.Below.law_counts_sums.StandsHere.{found_none}
use Rattle.law_results_reads.proofs.Below.law_counts_sums.TurnEvents.{asking_applied}
use Rattle.law_counts_things.specs.things.Laws.{EachEventKeeps}
use Rattle.law_counts_things.proofs.things.MutexLists.{given}
use Rattle.law_counts_things.proofs.things.Rests.{Parts, rests}
use Rattle.law_counts_asking.proofs.Notes.{over_notes, names, is_over_for, Orderly, begins, pair_begins, asks, lets_go, ends, rising_once}

-- A SERVER

abbrev Numbered : ℕ → Rest → Type 0
Numbered n r = (r.number ≡ n) × Orderly r.tasks

abbrev Left : {X : Type 0} → List Task × X → Type 0
Left p = Orderly p.0

-- each change of a server leaves its notes in order
orders : (n : ℕ) → Parts (Numbered n)
orders n = record {
  sent = λ t m r a. by (t == r.number) t m r a;
  received = λ i r a. a;
  stores = λ w v r e a. a;
  frees = λ w o c r e a. a;
  makes = λ c r e a. a;
  renews = λ w r e a. a;
  pins = λ w r e a. a;
  unpins = λ w r e a. a;
  unpins_all = λ ws cs r e a. a;
  fills = λ w c r e a. a;
  evicts = λ w r e a. a;
  mutex = λ v r e a. a;
  asked = λ m s t r p e a. a;
  given = λ m v r p e a. a;
  shared = λ m r ms e a. a;
  less_shared = λ m r p e a. a;
  began = λ r e a. (a.0, begins r.tasks _ e a.1);
  pair = λ parent r e a. (a.0, pair_begins r.tasks parent _ _ e a.1);
  counted = λ r a. a;
  joined = λ u s b r p e a. (a.0, given Left (Rattle.law_results_reads.specs.Below.join_home.Tasks.ask r.tasks u s b) p (asks r.tasks u s b a.1) e);
  let_go = λ u r p e a. (a.0, given Left (Rattle.law_results_reads.specs.Below.join_home.Tasks.let_go_of r.tasks u) p (lets_go r.tasks u a.1) e);
  over = λ u v r p e a. (a.0, given Left (Rattle.law_results_reads.specs.Below.join_home.Tasks.ended r.tasks u v) p (ends r.tasks u v a.1) e);
}
  where
    by : (b : Bool) (t : ℕ) (m : Message) (r : Rest) → Numbered n r → Numbered n (if b then record r { inbox = r.inbox ++ m ∷ [] } else record r { outbox = r.outbox ++ record { target = t; message = m } ∷ [] })
    by true t m r a = a
    by false t m r a = a

-- NOTES AMONG THINGS

-- a weight of notes, of those at one server
abbrev pub at_server : (Task → ℕ) → ℕ → Thing → ℕ
at_server f r (noted q x) = if_so (q == r) (f x)
at_server f r x = 0

module _ (f : Task → ℕ) (r : ℕ) where
  abbrev w : Thing → ℕ
  w = at_server f r

  -- slots, temporary values, gifts and copies note no thread
  unseen : (n : ℕ) → Unseen w n
  unseen n = record { held = λ p v. refl; shared = λ l q. refl; borrowed = λ l q. refl; locked = λ l x. refl; live = λ a c. refl; free = λ a x. refl; old = λ a. refl; copy = λ s c. refl; used = λ s x. refl }

  -- messages note none
  message_none : (n : ℕ) (m : Message) → tot w (message_things n m) ≡ 0
  message_none n (message.Start t) = omega (arith, thread_alone w n (unseen n) n true t)
  message_none n (message.Migrate t) = omega (arith, thread_alone w n (unseen n) n true t)
  message_none n _ = refl

  -- nor do mutexes
  mutex_none : (n i : ℕ) (m : Mutex) → tot w (mutex_things n i m) ≡ 0
  mutex_none n i m =
      omega (arith, content_none w n (unseen n) m, none_at w n (unseen n) (queue_things m.number) (λ j x. refl) 0 m.queue, tot-append w (content_things m.number m.content) (things_at (queue_things m.number) 0 m.queue))

  -- a sum counts where both count
  if_more : (b : Bool) (m p : ℕ) → if_so b (m + p) ≡ if_so b m + if_so b p
  if_more true m p = refl
  if_more false m p = refl

  -- nothing, whether it counts or not
  if_zero : (b : Bool) → if_so b 0 ≡ 0
  if_zero true = refl
  if_zero false = refl

  -- the notes of a server, where it is that one
  tasks_seen : (n i : ℕ) (xs : List Task) → tot w (things_at (task_things n) i xs) ≡ if_so (n == r) (over_notes f xs)
  tasks_seen n i [] = sym (if_zero (n == r))
  tasks_seen n i (x ∷ xs) =
      omega (arith, tot-append w (task_things n i x) (things_at (task_things n) (i + 1) xs), result_none w n (unseen n) x.thread x.state, tasks_seen n (i + 1) xs, if_more (n == r) (f x) (over_notes f xs))

  -- of a server it sees its notes
  notes_alone : (s : Server) → tot w (server_things s) ≡ if_so (s.rest.number == r) (over_notes f s.rest.tasks)
  notes_alone s =
      let n = s.rest.number in
      omega (
        arith,
        server_parts w s,
        partition_none w n (unseen n) s.rest.partition,
        copies_none w n (unseen n) n s.rest.cache,
        none_at w n (unseen n) (mutex_things n) (mutex_none n) 0 s.rest.mutexes.there,
        tasks_seen n 0 s.rest.tasks,
        none_at w n (unseen n) (standing_things n) (λ i x. omega (arith, thread_alone w n (unseen n) n false x)) 0 s.threads,
        none_at w n (unseen n) (waiting_things n) (λ i x. message_none n x) 0 s.rest.inbox,
        none_at w n (unseen n) leaving_things (λ i x. message_none x.target x.message) 0 s.rest.outbox,
      )

  -- another server notes none of that one
  pub elsewhere : (s : Server) → (s.rest.number == r) ≡ false → tot w (server_things s) ≡ 0
  elsewhere s e = let none : if_so (s.rest.number == r) (over_notes f s.rest.tasks) ≡ 0 = ap (λ b. if_so b (over_notes f s.rest.tasks)) e in omega (arith, notes_alone s, none)

  -- this server notes what its list does
  pub here : (s : Server) → (s.rest.number == r) ≡ true → tot w (server_things s) ≡ over_notes f s.rest.tasks
  here s e = let all : if_so (s.rest.number == r) (over_notes f s.rest.tasks) ≡ over_notes f s.rest.tasks = ap (λ b. if_so b (over_notes f s.rest.tasks)) e in omega (arith, notes_alone s, all)

  -- where no server has the number there is nothing
  nowhere_none : (ss : List Server) → server_at ss r ≡ None → tot w (servers_things ss) ≡ 0
  nowhere_none [] e = refl
  nowhere_none (s ∷ ss) e = by (s.rest.number == r) refl (nowhere_none ss) e
    where
      by : (b : Bool) → (s.rest.number == r) ≡ b → (server_at ss r ≡ None → tot w (servers_things ss) ≡ 0) → (if b then Some s else server_at ss r) ≡ None → tot w (server_things s ++ servers_things ss) ≡ 0
      by true q go d = absurd (cc d)
      by false q go d = omega (arith, tot-append w (server_things s) (servers_things ss), elsewhere s q, go d)

-- a server that is found has the number
server_number : (ss : List Server) (n : ℕ) (s : Server) → server_at ss n ≡ Some s → s.rest.number ≡ n
server_number [] n s h = absurd (cc h)
server_number (x ∷ ss) n s h =
    eq_cases (λ b. (if b then Some x else server_at ss n) ≡ Some s → s.rest.number ≡ n) x.rest.number n
    (λ e d. let same : x ≡ s = cc in subst (λ (y : Server). y.rest.number ≡ n) same e) (λ ne d. server_number ss n s d) h

-- IN A CLUSTER

pub record Tidy (b : List Thing) : Type 0 where
  -- a server has noted a thread once
  pub once : (r t : ℕ) → tot (at_server (names t) r) b ≤ 1
  -- and of two threads not both as over in one pair
  pub one_over : (r p t u : ℕ) → (t ≡ u → ⊥) → 1 ≤ tot (at_server (is_over_for p t) r) b → 1 ≤ tot (at_server (is_over_for p u) r) b → ⊥

-- an over note in a pair is a note in that pair
over_noted : (r p t : ℕ) (x : Thing) → at_server (is_over_for p t) r x ≤ pair_notes (record { server = r; parent = p; thread = t }) x
over_noted r p t (noted q x) = by (q == r) (x.thread == t) x.state
  where
    same_parent : (a : ℕ) (c : Bool) → one ((p == a) && c) ≤ one (a == p)
    same_parent a c =
        eq_cases (λ b. one (b && c) ≤ one (a == p)) p a (λ e. let mine : one (a == p) ≡ 1 = ap one (eq-eqb a p (sym e)) in at_most c mine) (λ ne. omega arith)
      where
        at_most : (d : Bool) → one (a == p) ≡ 1 → one (true && d) ≤ one (a == p)
        at_most true e = omega (arith, e)
        at_most false e = omega arith

    by : (a b : Bool) (z : TaskState) → if_so a (one (b && over_of p z)) ≤ one ((a && b) && half_noted z p)
    by true true (in_pair q o) = same_parent q o
    by true true going = omega arith
    by true true let_go = omega arith
    by true true (kept v) = omega arith
    by true true (asked s u) = omega arith
    by true false z = omega arith
    by false b z = omega arith
over_noted r p t _ = omega arith

-- and a note as over
over_seen : (r p t : ℕ) (x : Thing) → at_server (is_over_for p t) r x ≤ over_at r t x
over_seen r p t (noted q x) = by (q == r) (x.thread == t) x.state
  where
    second : (a c : Bool) → one (a && c) ≤ one c
    second true c = omega arith
    second false c = omega arith

    by : (a b : Bool) (z : TaskState) → if_so a (one (b && over_of p z)) ≤ one ((a && b) && half_over z)
    by true true (in_pair q o) = second (p == q) o
    by true true going = omega arith
    by true true let_go = omega arith
    by true true (kept v) = omega arith
    by true true (asked s u) = omega arith
    by true false z = omega arith
    by false b z = omega arith
over_seen r p t _ = omega arith

-- a note in a pair is a note
pair_noted : (r p t : ℕ) (x : Thing) → pair_notes (record { server = r; parent = p; thread = t }) x ≤ at_server (names t) r x
pair_noted r p t (noted q x) = by (q == r) (x.thread == t) (half_noted x.state p)
  where
    by : (a b c : Bool) → one ((a && b) && c) ≤ if_so a (one b)
    by true true true = omega arith
    by true true false = omega arith
    by true false c = omega arith
    by false b c = omega arith
pair_noted r p t _ = omega arith

-- a note in a pair, and a note as over, of a thread that is noted once, is one as over in that pair
both_noted : (r p t : ℕ) (x : Thing) → pair_notes (record { server = r; parent = p; thread = t }) x + over_at r t x ≤ at_server (names t) r x + at_server (is_over_for p t) r x
both_noted r p t (noted q x) = by (q == r) (x.thread == t) x.state
  where
    same_parent : (a : ℕ) (c : Bool) → one (a == p) + one c ≤ 1 + one ((p == a) && c)
    same_parent a c = eq_cases (λ b. one b + one c ≤ 1 + one ((p == a) && c)) a p (λ e. let mine : one ((p == a) && c) ≡ one (true && c) = ap (λ b. one (b && c)) (eq-eqb p a (sym e)) in omega (arith, mine)) (λ ne. at_most c)
      where
        at_most : (d : Bool) → 0 + one d ≤ 1 + one ((p == a) && d)
        at_most true = omega arith
        at_most false = omega arith

    by : (a b : Bool) (z : TaskState) → one ((a && b) && half_noted z p) + one ((a && b) && half_over z) ≤ if_so a (one b) + if_so a (one (b && over_of p z))
    by true true (in_pair q o) = same_parent q o
    by true true going = omega arith
    by true true let_go = omega arith
    by true true (kept v) = omega arith
    by true true (asked s u) = omega arith
    by true false z = omega arith
    by false b z = omega arith
both_noted r p t _ = omega arith

-- what weighs no more weighs no more in all
pub total_le : (f g : Thing → ℕ) → ((x : Thing) → f x ≤ g x) → (b : List Thing) → tot f b ≤ tot g b
total_le f g l [] = omega arith
total_le f g l (x ∷ b) = omega (arith, l x, total_le f g l b)

-- the same of two together
total_two : (f g h i : Thing → ℕ) → ((x : Thing) → f x + g x ≤ h x + i x) → (b : List Thing) → tot f b + tot g b ≤ tot h b + tot i b
total_two f g h i l [] = omega arith
total_two f g h i l (x ∷ b) = omega (arith, l x, total_two f g h i l b)

-- WHO WAITS FOR A BRANCH

-- the parent, of which one stands, is the thread that is found
pub record Waits (b : List Thing) (r p t : ℕ) : Type 0 where
  pub parent : Standing
  pub found : thread_at (threads_in b) p ≡ Some parent
  pub here : (parent.server == r) ≡ true
  pub among : 1 ≤ branch_places t parent.thread.phase

module _ (r p t : ℕ) where
  abbrev c : Branch
  c = record { server = r; parent = p; thread = t }

  -- where no thread has the number none waits in a pair
  places_none : (b : List Thing) → tot (is_thread p) b ≡ 0 → tot (pair_places c) b ≡ 0
  places_none [] z = refl
  places_none (stands s q x ∷ b) z = omega (arith, if_not_one (s == r) (x.number == p) (branch_places t x.phase) (omega (arith, z)), places_none b (omega (arith, z)))
    where
      if_not_one : (d e : Bool) (m : ℕ) → one e ≡ 0 → if_so (d && e) m ≡ 0
      if_not_one d true m y = absurd (cc y)
      if_not_one true false m y = refl
      if_not_one false false m y = refl
  places_none (_ ∷ b) z = omega (arith, places_none b (omega (arith, z)))

  -- a place in a pair is that of a thread that waits for it
  pub waits_for : (b : List Thing) → tot (is_thread p) b ≤ 1 → 1 ≤ tot (pair_places c) b → Waits b r p t
  waits_for [] few l = absurd (omega (arith, l))
  waits_for (stands s q x ∷ b) few l = by (waits_for b) (x.number == p) refl (s == r) refl
    where
      me : Standing
      me = record { server = s; packed = q; thread = x }

      at_first : (d : Bool) (m : ℕ) → if_so (d && true) m ≤ if_so d m
      at_first true m = omega arith
      at_first false m = omega arith

      by : (tot (is_thread p) b ≤ 1 → 1 ≤ tot (pair_places c) b → Waits b r p t) → (e : Bool) → (x.number == p) ≡ e → (d : Bool) → (s == r) ≡ d → Waits (stands s q x ∷ b) r p t
      by go true n true h =
          let mine : one (x.number == p) ≡ 1 = ap one n in
          let rest : tot (pair_places c) b ≡ 0 = places_none b (omega (arith, few, mine)) in
          let same : if_so (s == r && x.number == p) (branch_places t x.phase) ≡ branch_places t x.phase = ap (λ a. if_so (a && x.number == p) (branch_places t x.phase)) h ∙ ap (λ a. if_so a (branch_places t x.phase)) n in
          record { parent = me; found = ap (λ a. if a then Some me else thread_at (threads_in b) p) n; here = h; among = omega (arith, l, rest, same) }
      by go true n false h =
          let mine : one (x.number == p) ≡ 1 = ap one n in
          let rest : tot (pair_places c) b ≡ 0 = places_none b (omega (arith, few, mine)) in
          let none : if_so (s == r && x.number == p) (branch_places t x.phase) ≡ 0 = ap (λ a. if_so (a && x.number == p) (branch_places t x.phase)) h in
          absurd (omega (arith, l, rest, none))
      by go false n d h =
          let none : if_so (s == r && x.number == p) (branch_places t x.phase) ≡ if_so (s == r && false) (branch_places t x.phase) = ap (λ a. if_so (s == r && a) (branch_places t x.phase)) n in
          let off : one (x.number == p) ≡ 0 = ap one n in
          let later = go (omega (arith, few, off)) (omega (arith, l, none, at_none (s == r) (branch_places t x.phase))) in
          record { parent = later.parent; found = ap (λ a. if a then Some me else thread_at (threads_in b) p) n ∙ later.found; here = later.here; among = later.among }
        where
          at_none : (a : Bool) (m : ℕ) → if_so (a && false) m ≡ 0
          at_none true m = refl
          at_none false m = refl
  waits_for (_ ∷ b) few l = let later = waits_for b (omega (arith, few)) (omega (arith, l)) in record { parent = later.parent; found = later.found; here = later.here; among = later.among }

-- threads that are the same where both are there
some_same : {a b : Standing} → Some a ≡ Some b → a ≡ b
some_same e = cc

-- what is more than nothing is some
some_true : (m : ℕ) → 1 ≤ m → some m ≡ true
some_true zero l = absurd (omega (arith, l))
some_true (suc m) l = refl

-- numbers that are the same
is_named : (a b : ℕ) → 1 ≤ one (a == b) → a ≡ b
is_named a b l = eq_cases (λ c. 1 ≤ one c → a ≡ b) a b (λ e k. e) (λ ne k. absurd (omega (arith, k))) l

-- BEFORE THE EVENT

module _ (k : Cluster) (sound : IsSound k) where
  abbrev things : List Thing
  things = things_of k

  -- the servers' lists rise
  run : servers_wrong (sight k) 0 k.servers ≡ 0
  run = left_none (servers_wrong (sight k) 0 k.servers) (sum_threads (sight k) pinned_parcel) sound.parts.parts_are_typed

  -- a server notes each thread once
  once_before : (r t : ℕ) → tot (at_server (names t) r) things ≤ 1
  once_before r t = by (server_at k.servers r) refl
    where
      by : (o : Option Server) → server_at k.servers r ≡ o → tot (at_server (names t) r) things ≤ 1
      by None e = let none : tot (at_server (names t) r) things ≡ 0 = nowhere_none (names t) r k.servers e in omega (arith, none)
      by (Some s) e =
          let n = server_number k.servers r s e in
          let named : (s.rest.number == r) ≡ true = eq-eqb s.rest.number r n in
          let alone = here_alone k sound r s e (at_server (names t) r) (λ x q. elsewhere (names t) r x (subst (λ i. (x.rest.number == i) ≡ false) n q)) in
          omega (arith, alone, here (names t) r s named, rising_once t s.rest.tasks (notes_rise (sight k) 0 r k.servers s run e))

  -- two threads for which one parent waits, not both over
  not_both : (x : Standing) (p : Phase) (r t u : ℕ) → (x.server == r) ≡ true → both_over (sight k) x p ≡ 0 → (t ≡ u → ⊥) → 1 ≤ branch_places t p → 1 ≤ branch_places u p
      → 1 ≤ tot (over_at r t) things → 1 ≤ tot (over_at r u) things → ⊥
  not_both x (phase.WaitPar a b) r t u at none ne first second over_t over_u =
      eq_cases (λ c. 1 ≤ one c + one (b == t) → ⊥) a t (λ e l. at_first e) (λ n l. at_second n (is_named b t (omega (arith, l)))) first
    where
      server : x.server ≡ r
      server = eqb-true x.server r at

      -- both are
      gives : (i j : ℕ) → (i ≡ j → ⊥) → i ≡ a → j ≡ b → 1 ≤ tot (over_at r i) things → 1 ≤ tot (over_at r j) things → ⊥
      gives i j n e h l m =
          let one_is : some (tot (over_at x.server a) things) ≡ true = some_true (tot (over_at x.server a) things) (subst (λ v. 1 ≤ tot (over_at v a) things) (sym server) (subst (λ v. 1 ≤ tot (over_at r v) things) e l)) in
          let other_is : some (tot (over_at x.server b) things) ≡ true = some_true (tot (over_at x.server b) things) (subst (λ v. 1 ≤ tot (over_at v b) things) (sym server) (subst (λ v. 1 ≤ tot (over_at r v) things) h m)) in
          let weight : other (not (a == b) && not (some (tot (over_at x.server a) things) && some (tot (over_at x.server b) things))) ≡ other (not (a == b) && not (true && true)) =
          ap (λ c. other (not (a == b) && not (c && some (tot (over_at x.server b) things)))) one_is ∙ ap (λ c. other (not (a == b) && not (true && c))) other_is in
          let broken : other (not (a == b) && false) ≡ 1 = at_false (not (a == b)) in
          omega (arith, none, weight, broken)
        where
          at_false : (c : Bool) → other (c && false) ≡ 1
          at_false true = refl
          at_false false = refl

      at_first : a ≡ t → ⊥
      at_first e =
          eq_cases (λ c. 1 ≤ one c + one (b == u) → ⊥) a u (λ h l. ne (sym e ∙ h)) (λ n l. gives t u ne (sym e) (sym (is_named b u (omega (arith, l)))) over_t over_u) second

      at_second : (a ≡ t → ⊥) → b ≡ t → ⊥
      at_second n e =
          eq_cases (λ c. 1 ≤ one c + one (b == u) → ⊥) a u (λ h l. gives u t (λ q. ne (sym q)) (sym h) (sym e) over_u over_t) (λ m l. ne (sym e ∙ is_named b u (omega (arith, l)))) second
  not_both x _ r t u at none ne first second over_t over_u = absurd (omega (arith, first))

  -- not two of a pair are noted as over
  apart_before : (r p t u : ℕ) → (t ≡ u → ⊥) → 1 ≤ tot (at_server (is_over_for p t) r) things → 1 ≤ tot (at_server (is_over_for p u) r) things → ⊥
  apart_before r p t u ne l m =
      let few = sound.names.numbers_differ p in
      let noted_in = sound.requests.pairs_noted in
      let first = waits_for r p t things few (omega (arith, l, total_le _ _ (over_noted r p t) things, noted_in (record { server = r; parent = p; thread = t }))) in
      let second = waits_for r p u things few (omega (arith, m, total_le _ _ (over_noted r p u) things, noted_in (record { server = r; parent = p; thread = u }))) in
      let same : second.parent ≡ first.parent = some_same (sym second.found ∙ first.found) in
      let among : 1 ≤ branch_places u first.parent.thread.phase = subst (λ (x : Standing). 1 ≤ branch_places u x.thread.phase) same second.among in
      let none = found_none (λ x. both_over (sight k) x x.thread.phase) p (threads_in things) first.parent sound.requests.pairs_go_on first.found in
      not_both first.parent first.parent.thread.phase r t u first.here none ne first.among among (omega (arith, l, total_le _ _ (over_seen r p t) things)) (omega (arith, m, total_le _ _ (over_seen r p u) things))

  -- both, in a sound cluster
  tidy_before : Tidy things
  tidy_before = record { once = once_before; one_over = apart_before }

-- AFTER THE EVENT

abbrev TidyCluster : Cluster → Type 0
TidyCluster c = Tidy (things_of c)

module _ (k : Cluster) (sound : IsSound k) (number : ℕ) (s : Server) (at : server_at k.servers number ≡ Some s) where
  abbrev n : ℕ
  n = s.rest.number

  -- so the notes of its server are in order
  orderly_before : Orderly s.rest.tasks
  orderly_before = record {
    once = λ t. omega (arith, once_before k sound n t, few (names t), here (names t) n s (eq-eqb n n refl));
    one_over = λ p t u ne l m.
        apart_before k sound n p t u ne (omega (arith, l, few (is_over_for p t), here (is_over_for p t) n s (eq-eqb n n refl))) (omega (arith, m, few (is_over_for p u), here (is_over_for p u) n s (eq-eqb n n refl)));
  }
    where
      few : (f : Task → ℕ) → tot (at_server f n) (server_things s) ≤ tot (at_server f n) (things_of k)
      few f = omega (arith, (tot-server (at_server f n) k.servers number s s at).0)

  module _ (new : Server) (numbered : new.rest.number ≡ n) (order : Orderly new.rest.tasks) where
    abbrev after : List Thing
    after = servers_things (Rattle.law_results_reads.specs.Below.server_model.Clusters.with_server k.servers number new)

    -- at the server it is that of its notes, elsewhere what it was
    changes : (f : Task → ℕ) (r : ℕ) (P : ℕ → Type 0) → P (tot (at_server f r) (things_of k)) → P (over_notes f new.rest.tasks) → P (tot (at_server f r) after)
    changes f r P old mine = by (n == r) refl
      where
        w : Thing → ℕ
        w = at_server f r

        by : (b : Bool) → (n == r) ≡ b → P (tot (at_server f r) after)
        by true e =
            let num = eqb-true n r e in
            let alone = here_alone k sound number s at w (λ x q. elsewhere f r x (subst (λ i. (x.rest.number == i) ≡ false) num q)) in
            let mine_is = here f r new (eq-eqb new.rest.number r (numbered ∙ num)) in
            let whole : tot w after ≡ over_notes f new.rest.tasks = omega (arith, alone, (tot-server w k.servers number s new at).0, (tot-server w k.servers number s new at).1, mine_is) in
            subst P (sym whole) mine
        by false e =
            let none = elsewhere f r new (ap (λ i. i == r) numbered ∙ e) in
            let whole : tot w after ≡ tot w (things_of k) = omega (arith, elsewhere f r s e, none, (tot-server w k.servers number s new at).0, (tot-server w k.servers number s new at).1) in
            subst P (sym whole) old

    tidy_after : Tidy after
    tidy_after = record {
      once = λ r t. changes (names t) r (λ m. m ≤ 1) (once_before k sound r t) (order.once t);
      one_over = λ r p t u ne l m. by r p t u ne (n == r) refl l m;
    }
      where
        by : (r p t u : ℕ) → (t ≡ u → ⊥) → (b : Bool) → (n == r) ≡ b → 1 ≤ tot (at_server (is_over_for p t) r) after → 1 ≤ tot (at_server (is_over_for p u) r) after → ⊥
        by r p t u ne true e l m = order.one_over p t u ne (at_here (is_over_for p t) r e l) (at_here (is_over_for p u) r e m)
          where
            at_here : (f : Task → ℕ) (r : ℕ) → (n == r) ≡ true → 1 ≤ tot (at_server f r) after → 1 ≤ over_notes f new.rest.tasks
            at_here f r e l =
                let num = eqb-true n r e in
                let w = at_server f r in
                let alone = here_alone k sound number s at w (λ x q. elsewhere f r x (subst (λ i. (x.rest.number == i) ≡ false) num q)) in
                omega (arith, l, alone, (tot-server w k.servers number s new at).0, (tot-server w k.servers number s new at).1, here f r new (eq-eqb new.rest.number r (numbered ∙ num)))
        by r p t u ne false e l m = apart_before k sound r p t u ne (elsewhere_same (is_over_for p t) r e l) (elsewhere_same (is_over_for p u) r e m)
          where
            elsewhere_same : (f : Task → ℕ) (r : ℕ) → (n == r) ≡ false → 1 ≤ tot (at_server f r) after → 1 ≤ tot (at_server f r) (things_of k)
            elsewhere_same f r e l =
                let w = at_server f r in
                omega (arith, l, elsewhere f r s e, elsewhere f r new (ap (λ i. i == r) numbered ∙ e), (tot-server w k.servers number s new at).0, (tot-server w k.servers number s new at).1)

-- they stay so at the server of the event
tidy_acted : (k : Cluster) (e : Event) → IsSound k → FewEvents k → Gives (λ (d : Cluster × EntryView). TidyCluster d.0) (act_at k e)
tidy_acted k e sound few =
    then_gives (λ (d : Cluster × EntryView). TidyCluster d.0) (server_at k.servers e.server) _ (λ s at.
    let n = s.rest.number in
    over_gives (λ (r : Server × EntryView). Numbered n r.0.rest) (λ (d : Cluster × EntryView). TidyCluster d.0) (done_at k e.what s) _
    (test_gives (λ (r : Server × EntryView). Numbered n r.0.rest) (enabled k.options s e.what) _ (λ on. rests (orders n) k.code k.options s e.what (refl, orderly_before k sound e.server s at)))
    (λ r u. tidy_after k sound e.server s at r.0 u.0 u.1))

-- and once its messages are handed over
pub tidy_kept : (k : Cluster) (e : Event) → IsSound k → FewEvents k → Gives (λ (d : Cluster × EntryView). TidyCluster d.0) (apply k e)
tidy_kept k e sound few = handed_on TidyCluster moved k e (each_event_sends k e sound few) (tidy_acted k e sound few)
  where
    moved : (c : Cluster) (a b : List Server) → ((f : Thing → ℕ) → tot f (servers_things a) ≡ tot f (servers_things b)) → Tidy (servers_things a) → Tidy (servers_things b)
    moved c a b same g = record {
      once = λ r t. omega (arith, same (at_server (names t) r), g.once r t);
      one_over = λ r p t u ne l m. g.one_over r p t u ne (omega (arith, l, same (at_server (is_over_for p t) r))) (omega (arith, m, same (at_server (is_over_for p u) r)));
    }

-- THE SENTENCE

-- a weight of threads that is nothing of each that stands there
pub all_nothing : (f : Standing → ℕ) (whole b : List Thing) → ((g : Thing → ℕ) → tot g b ≤ tot g whole) → ((s : ℕ) (p : Bool) (x : ThreadState) → ((g : Thing → ℕ) → g (stands s p x) ≤ tot g whole) → f (record { server = s; packed = p; thread = x }) ≡ 0) → tot f (threads_in b) ≡ 0
all_nothing f whole [] among go = refl
all_nothing f whole (stands s p x ∷ b) among go = omega (arith, go s p x (λ g. omega (arith, among g)), all_nothing f whole b (λ g. omega (arith, among g)) go)
all_nothing f whole (_ ∷ b) among go = all_nothing f whole b (λ g. omega (arith, among g)) go

module _ (c : Cluster) (tidy : Tidy (things_of c)) (noted_in : PairsNoted c) where
  abbrev b : List Thing
  b = things_of c

  -- a number is the same as itself
  self : (m : ℕ) → (m == m) ≡ true
  self m = eq-eqb m m refl

  -- a thread that waits for a pair
  pair_goes_on : (s : ℕ) (p : Bool) (x : ThreadState) → ((g : Thing → ℕ) → g (stands s p x) ≤ tot g b) → (q : Phase) → x.phase ≡ q → both_over (sight c) (record { server = s; packed = p; thread = x }) q ≡ 0
  pair_goes_on s p x has (phase.WaitPar f g) e = at_pair (f == g) refl (some (tot (over_at s f) b)) refl (some (tot (over_at s g) b)) refl
    where
      waits : (t : ℕ) → one (f == t) + one (g == t) ≤ tot (pair_notes (record { server = s; parent = x.number; thread = t })) b
      waits t =
          let places = pair_places (record { server = s; parent = x.number; thread = t }) in
          let is : places (stands s p x) ≡ one (f == t) + one (g == t) = ap (λ z. if_so (s == s && x.number == x.number) (branch_places t z)) e ∙ ap (λ a. if_so (a && x.number == x.number) (one (f == t) + one (g == t))) (self s) ∙ ap (λ a. if_so a (one (f == t) + one (g == t))) (self x.number) in
          omega (arith, has places, is, noted_in (record { server = s; parent = x.number; thread = t }))

      seen : (m : ℕ) → some m ≡ true → 1 ≤ m
      seen zero q = absurd (cc q)
      seen (suc m) q = omega arith

      over_here : (t : ℕ) → 1 ≤ one (f == t) + one (g == t) → 1 ≤ tot (over_at s t) b → 1 ≤ tot (at_server (is_over_for x.number t) s) b
      over_here t l m = omega (arith, l, m, waits t, total_two _ _ _ _ (both_noted s x.number t) b, tidy.once s t)

      differ : (f == g) ≡ true → ⊥
      differ q =
          let first : one (f == f) ≡ 1 = ap one (self f) in
          let second : one (g == f) ≡ 1 = ap one (eq-eqb g f (sym (eqb-true f g q))) in
          omega (arith, first, second, waits f, total_le _ _ (pair_noted s x.number f) b, tidy.once s f)

      at_pair : (d : Bool) → (f == g) ≡ d → (h : Bool) → some (tot (over_at s f) b) ≡ h → (i : Bool) → some (tot (over_at s g) b) ≡ i → other (not (f == g) && not (some (tot (over_at s f) b) && some (tot (over_at s g) b))) ≡ 0
      at_pair true q h r i z = absurd (differ q)
      at_pair false q true r true z =
          let first : one (f == f) ≡ 1 = ap one (self f) in
          let second : one (g == g) ≡ 1 = ap one (self g) in
          absurd (tidy.one_over s x.number f g (λ same. cc (sym q ∙ eq-eqb f g same)) (over_here f (omega (arith, first)) (seen (tot (over_at s f) b) r)) (over_here g (omega (arith, second)) (seen (tot (over_at s g) b) z)))
      at_pair false q true r false z = ap (λ a. other (not a && not (some (tot (over_at s f) b) && some (tot (over_at s g) b)))) q ∙ ap (λ a. other (true && not (a && some (tot (over_at s g) b)))) r ∙ ap (λ a. other (true && not (true && a))) z
      at_pair false q false r i z = ap (λ a. other (not a && not (some (tot (over_at s f) b) && some (tot (over_at s g) b)))) q ∙ ap (λ a. other (true && not (a && some (tot (over_at s g) b)))) r
  pair_goes_on s p x has q e = refl

  -- each thread
  pairs_hold : Holds c pairs_go_on
  pairs_hold = all_nothing (λ x. both_over (sight c) x x.thread.phase) b b (λ g. omega arith) (λ s p x has. pair_goes_on s p x has x.phase refl)

-- after whatever event
pub pairs_go_on_kept : EachEventKeeps pairs_go_on
pairs_go_on_kept k e sound few =
    both_give (λ (d : Cluster × EntryView). TidyCluster d.0) (λ (d : Cluster × EntryView). PairsNoted d.0) (λ (d : Cluster × EntryView). Holds d.0 pairs_go_on) (apply k e) (tidy_kept k e sound few) (asking_applied PairsNoted (λ c g. g.pairs_noted) k e sound few)
    (λ d a z. pairs_hold d.0 a z)
