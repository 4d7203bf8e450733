-- The number of each object stays below what its thread has made, where that goes on.
use Rattle.std.proofs.Common.{◌≡◌, ℕ, zero, suc, ◌+◌, ◌*◌, ◌^◌, ◌<◌, ◌≤◌, ◌==◌, ◌&&◌, ◌||◌, not, nat_lt, nat_le, Bool, true, false, if◌then◌else◌, List, [], ◌∷◌, Option, Some, None, refl, sym, ap, subst, ◌∙◌, arith}
use Rattle.std.specs.Prelude.{slice_get, option_map}
use Rattle.std.proofs.lemmas.Bool.{eq-eqb}
use Rattle.std.proofs.lemmas.Bool.Decides.{nat_tests}
use Rattle.law_counts_things.proofs.Below.fr_typing.PlaceLemmas.{eq_cases}
use Rattle.law_counts_things.proofs.Below.fr_store.Keys.{object_cases}
use Rattle.law_counts_things.specs.Below.fr_base.declared.name.ObjNo.{ObjNo}
use Rattle.law_counts_things.specs.Below.fr_base.declared.instruction.Instr.{Instr}
use Rattle.law_counts_things.specs.Below.fr_base.declared.instruction.Instr.TheVariants as instr
use Rattle.law_counts_things.specs.Below.fr_base.declared.instruction.Operand.{Operand}
use Rattle.law_counts_things.specs.Below.thread_state.View.{ThreadState, is_over}
use Rattle.law_counts_things.specs.Below.thread_state.declared.phase.Phase.{Phase}
use Rattle.law_counts_things.specs.Below.thread_state.declared.phase.Phase.TheVariants as phase
use Rattle.law_counts_things.specs.Below.thread_state.declared.value.Value.{Value}
use Rattle.law_counts_things.specs.Below.thread_state.declared.value.Value.TheVariants as value
use Rattle.law_counts_things.specs.Below.journal.View.{EntryView}
use Rattle.law_counts_things.specs.Below.server_model.declared.event.Event.{Event}
use Rattle.law_counts_things.specs.Below.server_model.declared.event.What.{What}
use Rattle.law_counts_things.specs.Below.server_model.declared.event.What.TheVariants.{Step, Deliver, Evict, Migrate}
use Rattle.law_counts_things.specs.Below.server_model.Servers.{Server, Cluster, server_at}
use Rattle.law_counts_things.specs.Below.server_model.Work.{thread_in, set_thread, then_some}
use Rattle.law_counts_things.specs.Below.server_model.Events.{has_phase, can_step, enabled, does}
use Rattle.law_counts_things.specs.Below.server_model.Clusters.{with_server, done_at, apply}
use Rattle.law_counts_things.specs.Below.coherent_memory.Names.{tot, one, other, some, if_so, same_object}
use Rattle.law_counts_things.specs.Below.coherent_memory.Things.{Thing, lies, flies, stands, counts, things_at, standing_things, servers_things, things_of}
use Rattle.law_counts_things.specs.Below.coherent_memory.Follow.{Standing, threads_in, thread_at}
use Rattle.law_counts_things.specs.Below.coherent_memory.Sight.{sight}
use Rattle.law_counts_things.specs.Below.coherent_memory.Weights.{cells, is_thread}
use Rattle.law_counts_things.specs.Below.coherent_memory.Requests.{home_of}
use Rattle.law_counts_things.specs.Below.coherent_memory.Naming.{was_made, not_made, threads, named_mutexes, count_of, started_at, uncounted_thread, uncounted_mutex}
use Rattle.law_counts_things.specs.Below.coherent_memory.Coherent.{IsSound, Holds, objects_made}
use Rattle.law_counts_things.proofs.Below.coherent_memory.Names.{if_none}
use Rattle.law_counts_things.specs.Below.law_counts_sums.Sums.{is_server}
use Rattle.law_counts_things.specs.Below.law_counts_sums.Laws.{Gives, FewEvents}
use Rattle.law_counts_things.proofs.Below.law_counts_sums.Results.{weaker, over_gives, both_give}
use Rattle.law_counts_things.proofs.Below.law_counts_sums.Bags.{thread_number}
use Rattle.law_counts_things.proofs.Below.law_counts_sums.Applied.{handed_on, handed_part}
use Rattle.law_counts_things.proofs.Below.law_counts_sums.Sending.{each_event_sends}
use Rattle.law_counts_things.proofs.Below.coherent_memory.Sums.{tot-append, server_parts}
use Rattle.law_counts_things.specs.things.Laws.{EachEventKeeps}
use Rattle.law_counts_things.proofs.Below.law_counts_sums.Askers.{other_none}
use Rattle.law_counts_things.proofs.Below.law_counts_sums.Boxes.{tot_le}
use Rattle.law_counts_things.proofs.Below.law_counts_sums.Each.{names_left}
use Rattle.law_counts_things.proofs.Below.law_counts_sums.Sound.{sound_has_sums}
use Rattle.law_counts_things.proofs.Below.law_counts_sums.Events.{others_of, tot-server}
use Rattle.law_counts_things.proofs.Below.law_counts_sums.KnownSound.{on_standing, sum_standing}
use Rattle.law_counts_things.proofs.things.Handed.{known}
use Rattle.law_counts_things.proofs.names.Fit.{marks, Base}
use Rattle.law_counts_things.proofs.names.Sums.{going_of, cell_object, stray}
use Rattle.law_counts_things.proofs.names.Named.{Also, names, home_is, count_is, started_plain}
use Rattle.law_counts_things.proofs.names.Counts.{Plain, counts_alone}
use Rattle.law_counts_things.proofs.names.Kept.{GoneOn, ends_as, stepped_so, gone_on}
use Rattle.law_counts_things.proofs.names.Askers.{all_give}
use Rattle.law_counts_things.proofs.names.Sentences.{none_else, asking_before, plain_step, nothing, nobody, no_object, no_objects, no_going, no_copies, no_holder, no_mark, no_askers, unmarked_by}

-- OBJECTS AND THEIR THREADS

-- the thread of the object goes on, and has made no more than this
abbrev behind : ObjNo → ℕ → ℕ → ℕ
behind o n m = one (n == o.thread && nat_le m o.count)

same_objects : (p o : ObjNo) → same_object p o ≡ true → p ≡ o
same_objects p o e = object_cases (λ b. b ≡ true → p ≡ o) p o (λ s d. s) (λ ne d. absurd (cc d)) e

-- what holds of each cell's object holds of one that is a cell
of_cells : (f : Thing → ℕ) (P : ObjNo → Type 0) → ((s a : ℕ) (c : Rattle.law_counts_things.specs.Below.heap_partition.declared.value.Cell.Cell) → f (lies s a c) ≡ 0 → P c.object) → ((w : ℕ) (c : Rattle.law_counts_things.specs.Below.heap_partition.declared.value.Cell.Cell) → f (flies w c) ≡ 0 → P c.object)
    → (o : ObjNo) (b : List Thing) → tot f b ≡ 0 → 1 ≤ tot (cells o) b → P o
of_cells f P g h o [] z l = absurd (omega (arith, l))
of_cells f P g h o (lies s a c ∷ b) z l = by (same_object c.object o) refl (of_cells f P g h o b (omega (arith, z)))
  where
    by : (q : Bool) → same_object c.object o ≡ q → (1 ≤ tot (cells o) b → P o) → P o
    by true e go = subst P (same_objects c.object o e) (g s a c (omega (arith, z)))
    by false e go = let none : one (same_object c.object o) ≡ 0 = ap one e in go (omega (arith, l, none))
of_cells f P g h o (flies w c ∷ b) z l = by (same_object c.object o) refl (of_cells f P g h o b (omega (arith, z)))
  where
    by : (q : Bool) → same_object c.object o ≡ q → (1 ≤ tot (cells o) b → P o) → P o
    by true e go = subst P (same_objects c.object o e) (h w c (omega (arith, z)))
    by false e go = let none : one (same_object c.object o) ≡ 0 = ap one e in go (omega (arith, l, none))
of_cells f P g h o (_ ∷ b) z l = of_cells f P g h o b (omega (arith, z)) (omega (arith, l))

going_is_thread : (o : ObjNo) (x : Thing) → going_of (behind o) x ≤ is_thread o.thread x
going_is_thread o (stands s p x) = by (not (is_over x.phase)) (x.number == o.thread) (nat_le x.made o.count)
  where
    by : (a c d : Bool) → if_so a (one (c && d)) ≤ one c
    by true true true = omega arith
    by true true false = omega arith
    by true false d = omega arith
    by false true d = omega arith
    by false false d = omega arith
going_is_thread o x = omega arith

made_more : (over : Bool) (m c : ℕ) → (over || nat_lt c m) ≡ true → if_so (not over) (one (nat_le m c)) ≡ 0
made_more true m c e = refl
made_more false m c e = by (nat_le m c) refl
  where
    by : (q : Bool) → nat_le m c ≡ q → one q ≡ 0
    by false h = refl
    by true h = absurd (grind (arith, nat_tests, e, h))

more_made : (over : Bool) (m c : ℕ) → if_so (not over) (one (nat_le m c)) ≡ 0 → (over || nat_lt c m) ≡ true
more_made true m c z = refl
more_made false m c z = by (nat_le m c) refl z
  where
    by : (q : Bool) → nat_le m c ≡ q → one q ≡ 0 → nat_lt c m ≡ true
    by false h y = grind (arith, nat_tests, h)
    by true h y = absurd (cc y)

-- where the thread that is found has made more, no thread of that number is behind
none_behind : (o : ObjNo) (b : List Thing) → tot (is_thread o.thread) b ≤ 1 → was_made o (thread_at (threads_in b) o.thread) ≡ true → tot (going_of (behind o)) b ≡ 0
none_behind o [] few e = refl
none_behind o (stands s p x ∷ b) few e =
    eq_cases
    (λ q. one q + tot (is_thread o.thread) b ≤ 1 → was_made o (if q then Some (record { server = s; packed = p; thread = x }) else thread_at (threads_in b) o.thread) ≡ true → if_so (not (is_over x.phase)) (one (q && nat_le x.made o.count)) + tot (going_of (behind o)) b ≡ 0)
    x.number o.thread
    (λ same f h. omega (arith, made_more (is_over x.phase) x.made o.count h, f, tot_le (going_of (behind o)) (is_thread o.thread) (going_is_thread o) b))
    (λ ne f h. omega (arith, if_none (not (is_over x.phase)) 0 refl, none_behind o b (omega (arith, f)) h)) few e
none_behind o (_ ∷ b) few e = omega (arith, none_behind o b (omega (arith, few)) e)

-- and where none is behind, the one that is found has made more
found_made : (o : ObjNo) (b : List Thing) → tot (going_of (behind o)) b ≡ 0 → was_made o (thread_at (threads_in b) o.thread) ≡ true
found_made o [] z = refl
found_made o (stands s p x ∷ b) z =
    eq_cases
    (λ q. if_so (not (is_over x.phase)) (one (q && nat_le x.made o.count)) + tot (going_of (behind o)) b ≡ 0 → was_made o (if q then Some (record { server = s; packed = p; thread = x }) else thread_at (threads_in b) o.thread) ≡ true) x.number o.thread
    (λ same h. more_made (is_over x.phase) x.made o.count (omega (arith, h))) (λ ne h. found_made o b (omega (arith, h))) z
found_made o (_ ∷ b) z = found_made o b (omega (arith, z))

-- WEIGHTS

abbrev going_alone : (ℕ → ℕ → ℕ) → Also
going_alone go = record { holder = nothing; mark = 0; asker = nobody; object = no_object; going = go; copy = λ v c. 0; wanted = nothing }

abbrev object_alone : (ObjNo → ℕ) → Also
object_alone f = record { holder = nothing; mark = 0; asker = nobody; object = f; going = nobody; copy = λ v c. 0; wanted = nothing }

awake : (p : Phase) → can_step p ≡ true → is_over p ≡ false
awake phase.Over e = absurd (cc e)
awake p e = refl

server_plain : (n : ℕ) (x : Thing) → Plain x → is_server n x ≡ 0
server_plain n (counts r next old started made events) p = absurd p
server_plain n x p = refl

one_first : (a c : Bool) → one (a && c) ≤ one a
one_first true true = omega arith
one_first true false = omega arith
one_first false c = omega arith

counts_its_server : (n c : ℕ) (x : Thing) → started_at n c x ≤ is_server n x
counts_its_server n c (counts r next old started made events) = one_first (r == n) (nat_le c started)
counts_its_server n c x = omega arith

behind_less : (n m : ℕ) (o : ObjNo) → behind o n m ≡ 0 → behind o n (m + 1) ≡ 0
behind_less n m o z = by (n == o.thread) (nat_le m o.count) (nat_le (m + 1) o.count) refl refl z
  where
    by : (a c d : Bool) → nat_le m o.count ≡ c → nat_le (m + 1) o.count ≡ d → one (a && c) ≡ 0 → one (a && d) ≡ 0
    by false c d e h y = refl
    by true c false e h y = refl
    by true false true e h y = absurd (grind (arith, nat_tests, e, h))
    by true true true e h y = absurd (cc y)

module _ (k : Cluster) (e : Event) (sound : IsSound k) (few : FewEvents k) where
  abbrev b : List Thing
  b = things_of k

  abbrev IsCell : ObjNo → Type 0
  IsCell o = 1 ≤ tot (cells o) b

  made_before : tot (not_made (sight k)) b ≡ 0
  made_before = sound.names.objects_made

  old_made : (o : ObjNo) → IsCell o → was_made o (thread_at (threads_in b) o.thread) ≡ true
  old_made o l = of_cells (not_made (sight k)) (λ p. was_made p (thread_at (threads_in b) p.thread) ≡ true) (λ s a c z. other_none _ z) (λ w c z. other_none _ z) o b made_before l

  old_counted : (o : ObjNo) → IsCell o → uncounted_thread (sight k) o.thread ≡ 0
  old_counted o l =
      let named : tot (threads (uncounted_thread (sight k))) b + tot (named_mutexes (uncounted_mutex (sight k))) b ≡ 0 = sound.names.names_counted in
      of_cells (threads (uncounted_thread (sight k))) (λ p. uncounted_thread (sight k) p.thread ≡ 0) (λ s a c z. omega (arith, z)) (λ w c z. omega (arith, z)) o b (omega (arith, named)) l

  going_before : (o : ObjNo) → IsCell o → tot (going_of (behind o)) b ≡ 0
  going_before o l = let sums = sound_has_sums k sound in none_behind o b (sums.numbers_differ o.thread) (old_made o l)

  module _ (s : Server) (here : server_at k.servers e.server ≡ Some s) where
    -- what this server hasn't started yet is counted nowhere
    not_started : (c : ℕ) → s.rest.started < c → tot (started_at s.rest.number c) b ≡ 0
    not_started c l =
        let n = s.rest.number in
        let sums = sound_has_sums k sound in
        let self : one (n == n) ≡ 1 = ap one (eq-eqb n n refl) in
        let none : one (n == n && nat_le c s.rest.started) ≡ 0 = later (n == n) (nat_le c s.rest.started) refl in
        omega (
          arith,
          (tot-server (started_at n c) k.servers e.server s s here).0,
          counts_alone (started_at n c) (started_plain n c) s,
          none,
          (tot-server (is_server n) k.servers e.server s s here).0,
          counts_alone (is_server n) (server_plain n) s,
          self,
          sums.servers_differ n,
          tot_le (started_at n c) (is_server n) (counts_its_server n c) (servers_things (others_of k.servers e.server)),
        )
      where
        later : (a d : Bool) → nat_le c s.rest.started ≡ d → one (a && d) ≡ 0
        later false d q = refl
        later true false q = refl
        later true true q = absurd (grind (arith, nat_tests, q, l))

    -- so no object's thread is one that starts now
    young_behind : (o : ObjNo) → IsCell o → (c : ℕ) → s.rest.started < c → c ≤ s.rest.started + 2 → behind o (s.rest.number * 2 ^ 32 + c) 0 ≡ 0
    young_behind o l c low high =
        eq_cases (λ q. one (q && nat_le 0 o.count) ≡ 0) (s.rest.number * 2 ^ 32 + c) o.thread
        (λ same.
        let left = names_left k sound.names.few_names few e.server s here in
        let small : c < 2 ^ 32 = omega (arith, left, high) in
        let home : home_of o.thread ≡ s.rest.number = ap home_of (sym same) ∙ home_is s.rest.number c small in
        let count : count_of o.thread ≡ c = ap count_of (sym same) ∙ count_is s.rest.number c small in
        let none : tot (started_at (home_of o.thread) (count_of o.thread)) b ≡ 0 = subst (λ h. tot (started_at h (count_of o.thread)) b ≡ 0) (sym home) (subst (λ m. tot (started_at s.rest.number m) b ≡ 0) (sym count) (not_started c low)) in
        let counted : other (some (tot (started_at (home_of o.thread) (count_of o.thread)) b)) ≡ 0 = old_counted o l in
        let wrong : other (some 0) ≡ 0 = subst (λ m. other (some m) ≡ 0) none counted in
        absurd (cc wrong))
        (λ ne. refl)

    -- the thread that steps is awake, so not behind
    steps_ahead : (o : ObjNo) → IsCell o → (t : ℕ) (y : ThreadState) → e.what ≡ Step t → thread_in s.threads t ≡ Some y → enabled k.options s e.what ≡ true → behind o y.number y.made ≡ 0
    steps_ahead o l t y q there on =
        let f : Standing → ℕ = λ x. if_so (not (is_over x.thread.phase)) (behind o x.thread.number x.thread.made) in
        let all : tot f (threads_in b) ≡ 0 = omega (arith, sum_standing f b, same_sum b, going_before o l) in
        let mine : if_so (not (is_over y.phase)) (behind o y.number y.made) ≡ 0 = known k sound e.server s here t y there f all in
        let goes : has_phase can_step (thread_in s.threads t) ≡ true = subst (λ w. enabled k.options s w ≡ true) q on in
        let up = awake y.phase (subst (λ x. has_phase can_step x ≡ true) there goes) in
        subst (λ c. if_so (not c) (behind o y.number y.made) ≡ 0) up mine
      where
        same_sum : (xs : List Thing) → tot (on_standing (λ (x : Standing). if_so (not (is_over x.thread.phase)) (behind o x.thread.number x.thread.made))) xs ≡ tot (going_of (behind o)) xs
        same_sum [] = refl
        same_sum (stands r p x ∷ xs) = omega (arith, same_sum xs)
        same_sum (_ ∷ xs) = omega (arith, same_sum xs)

  -- no thread gets behind an object that was there
  old_stay : (o : ObjNo) → IsCell o → Gives (λ (x : Cluster × EntryView). tot (going_of (behind o)) (things_of x.0) ≡ 0) (apply k e)
  old_stay o l =
      weaker (λ (x : Cluster × EntryView). GoneOn k (going_alone (behind o)) (ends_as k e (server_at k.servers e.server)) x.0) (λ (x : Cluster × EntryView). tot (going_of (behind o)) (things_of x.0) ≡ 0) (apply k e)
      (gone_on k e (going_alone (behind o)) sound few
      (record { holders = no_holder b; marks_none = no_mark b; askers = no_askers b; objects = no_objects b; lives = going_before o l; copies = no_copies b; served = λ n s h i v o2 r t c q z. refl })
      (λ s here t y i q there at on.
      let ahead = steps_ahead s here o l t y q there on in record {
        stands = refl;
        lives = λ z. ahead;
        boxed = λ p z. (refl, behind_less y.number y.made o ahead);
        young = λ c low high. young_behind s here o l c low high;
        lends = λ p m c z. refl;
        asks = λ f p. refl;
        moves = λ j p c h h2 x v q2 z u. unmarked_by k (going_alone (behind o)) j v refl;
      }))
      (λ x g. let none = g.none in omega (arith, none, tot_le (going_of (behind o)) (stray (names k (going_alone (behind o)) (ends_as k e (server_at k.servers e.server)))) (λ y. goes_so o y) (things_of x.0)))
    where
      goes_so : (o : ObjNo) (y : Thing) → going_of (behind o) y ≤ stray (names k (going_alone (behind o)) (ends_as k e (server_at k.servers e.server))) y
      goes_so o y = omega arith

-- NEW OBJECTS

-- the object that an event makes
abbrev box_object : ThreadState → Option Instr → Option ObjNo
box_object y (Some (instr.Box o)) = Some (record { thread = y.number; count = y.made })
box_object y i = None

abbrev object_step : List Instr → List ThreadState → What → Option ObjNo
object_step code ts (Step t) = then_some (thread_in ts t) (λ y. box_object y (slice_get code y.pc))
object_step code ts e = None

abbrev new_in : Cluster → Event → Option Server → Option ObjNo
new_in k e None = None
new_in k e (Some s) = object_step k.code s.threads e.what

abbrev new_of : Cluster → Event → Option ObjNo
new_of k e = new_in k e (server_at k.servers e.server)

abbrev is_new : Option ObjNo → ObjNo → Bool
is_new None o = false
is_new (Some p) o = same_object p o

-- it was a cell before, or is made now
abbrev unknown : Cluster → Event → ObjNo → ℕ
unknown k e o = other (some (tot (cells o) (things_of k)) || is_new (new_of k e) o)

self_object : (o : ObjNo) → same_object o o ≡ true
self_object o = object_cases (λ b. b ≡ true) o o (λ s. refl) (λ ne. absurd (ne refl))

some_or : (n : ℕ) (a : Bool) → 1 ≤ n → other (some n || a) ≡ 0
some_or zero a l = absurd (omega (arith, l))
some_or (suc n) a l = refl

or_new : (n : ℕ) (a : Bool) → a ≡ true → other (some n || a) ≡ 0
or_new zero a e = ap other e
or_new (suc n) a e = refl

-- a thread of that number that has made more
abbrev ahead : ObjNo → Thing → ℕ
ahead o (stands s p x) = one (x.number == o.thread && nat_lt o.count x.made)
ahead o x = 0

ahead_is_thread : (o : ObjNo) (x : Thing) → ahead o x ≤ is_thread o.thread x
ahead_is_thread o (stands s p x) = one_first (x.number == o.thread) (nat_lt o.count x.made)
ahead_is_thread o x = omega arith

or_true : (a c : Bool) → 1 ≤ one c → (a || c) ≡ true
or_true true c l = refl
or_true false true l = refl
or_true false false l = absurd (omega (arith, l))

found_ahead : (o : ObjNo) (b : List Thing) → tot (is_thread o.thread) b ≤ 1 → 1 ≤ tot (ahead o) b → was_made o (thread_at (threads_in b) o.thread) ≡ true
found_ahead o [] few l = absurd (omega (arith, l))
found_ahead o (stands s p x ∷ b) few l =
    eq_cases
    (λ q. one q + tot (is_thread o.thread) b ≤ 1 → 1 ≤ one (q && nat_lt o.count x.made) + tot (ahead o) b → was_made o (if q then Some (record { server = s; packed = p; thread = x }) else thread_at (threads_in b) o.thread) ≡ true) x.number o.thread
    (λ same f g. or_true (is_over x.phase) (nat_lt o.count x.made) (omega (arith, f, g, tot_le (ahead o) (is_thread o.thread) (ahead_is_thread o) b))) (λ ne f g. found_ahead o b (omega (arith, f)) (omega (arith, g))) few l
found_ahead o (_ ∷ b) few l = found_ahead o b (omega (arith, few)) (omega (arith, l))

-- the thread that stepped stands where it stood
set_found : (ts : List ThreadState) (t : ℕ) (y z : ThreadState) → thread_in ts t ≡ Some y → z.number ≡ t → thread_in (set_thread ts z) t ≡ Some z
set_found [] t y z h e = absurd (cc h)
set_found (x ∷ ts) t y z h e =
    eq_cases (λ q. (if q then Some x else thread_in ts t) ≡ Some y → thread_in (if x.number == z.number then z ∷ ts else x ∷ set_thread ts z) t ≡ Some z) x.number t
    (λ same d.
    let at : (x.number == z.number) ≡ true = eq-eqb x.number z.number (same ∙ sym e) in
    ap (λ q. thread_in (if q then z ∷ ts else x ∷ set_thread ts z) t) at ∙ ap (λ q. if q then Some z else thread_in ts t) (eq-eqb z.number t e))
    (λ ne d.
    let at : (x.number == z.number) ≡ false = eq_cases (λ q. q ≡ false) x.number z.number (λ same. absurd (ne (same ∙ e))) (λ n2. refl) in
    ap (λ q. thread_in (if q then z ∷ ts else x ∷ set_thread ts z) t) at ∙ eq_cases (λ q. (if q then Some x else thread_in (set_thread ts z) t) ≡ Some z) x.number t (λ same. absurd (ne same)) (λ n2. set_found ts t y z d e))
    h

one_of_standing : (f : Thing → ℕ) (n i t : ℕ) (ts : List ThreadState) (z : ThreadState) → thread_in ts t ≡ Some z → f (stands n false z) ≤ tot f (things_at (standing_things n) i ts)
one_of_standing f n i t [] z h = absurd (cc h)
one_of_standing f n i t (x ∷ ts) z h =
    let split = tot-append f (standing_things n i x) (things_at (standing_things n) (i + 1) ts) in
    eq_cases (λ q. (if q then Some x else thread_in ts t) ≡ Some z → f (stands n false z) ≤ tot f (things_at (standing_things n) i (x ∷ ts))) x.number t
    (λ same d. let is : x ≡ z = cc in subst (λ (y : ThreadState). f (stands n false y) ≤ tot f (things_at (standing_things n) i (x ∷ ts))) is (omega (arith, split)))
    (λ ne d. omega (arith, one_of_standing f n (i + 1) t ts z d, split)) h

-- what makes the object
record Boxing (code : List Instr) (ts : List ThreadState) (w : What) (o : ObjNo) : Type 0 where
  number : ℕ
  thread : ThreadState
  operand : Operand
  step : w ≡ Step number
  there : thread_in ts number ≡ Some thread
  at : slice_get code thread.pc ≡ Some (instr.Box operand)
  object : record { thread = thread.number; count = thread.made } ≡ o

boxing : (code : List Instr) (ts : List ThreadState) (w : What) (o : ObjNo) → is_new (object_step code ts w) o ≡ true → Boxing code ts w o
boxing code ts (Deliver i) o e = absurd (cc e)
boxing code ts (Evict v) o e = absurd (cc e)
boxing code ts (Migrate t u) o e = absurd (cc e)
boxing code ts (Step t) o e = by (thread_in ts t) refl e
  where
    of : (y : ThreadState) → thread_in ts t ≡ Some y → (i : Option Instr) → slice_get code y.pc ≡ i → is_new (box_object y i) o ≡ true → Boxing code ts (Step t) o
    of y q (Some (instr.Box p)) r d = record { number = t; thread = y; operand = p; step = refl; there = q; at = r; object = same_objects (record { thread = y.number; count = y.made }) o d }
    of y q i r d = absurd (cc d)

    by : (x : Option ThreadState) → thread_in ts t ≡ x → is_new (then_some x (λ y. box_object y (slice_get code y.pc))) o ≡ true → Boxing code ts (Step t) o
    by None q d = absurd (cc d)
    by (Some y) q d = of y q (slice_get code y.pc) refl d

other_below : (a : Bool) (n : ℕ) → (n ≡ 0 → a ≡ true) → other a ≤ n
other_below true n f = omega arith
other_below false zero f = absurd (cc (f refl))
other_below false (suc n) f = omega arith

known_cases : (n : ℕ) (a : Bool) (P : Type 0) → other (some n || a) ≡ 0 → (1 ≤ n → P) → (a ≡ true → P) → P
known_cases zero true P z f g = g refl
known_cases zero false P z f g = absurd (cc z)
known_cases (suc n) a P z f g = f (omega arith)

module _ (k : Cluster) (e : Event) (sound : IsSound k) (few : FewEvents k) where
  -- every cell before is known
  known_before : (xs : List Thing) → ((f : Thing → ℕ) → tot f xs ≤ tot f (things_of k)) → tot (cell_object (unknown k e)) xs ≡ 0
  known_before [] below = refl
  known_before (lies s a c ∷ xs) below =
      let self : one (same_object c.object c.object) ≡ 1 = ap one (self_object c.object) in
      let here : unknown k e c.object ≡ 0 = some_or (tot (cells c.object) (things_of k)) (is_new (new_of k e) c.object) (omega (arith, self, below (cells c.object))) in
      omega (arith, here, known_before xs (λ f. omega (arith, below f)))
  known_before (flies v c ∷ xs) below =
      let self : one (same_object c.object c.object) ≡ 1 = ap one (self_object c.object) in
      let here : unknown k e c.object ≡ 0 = some_or (tot (cells c.object) (things_of k)) (is_new (new_of k e) c.object) (omega (arith, self, below (cells c.object))) in
      omega (arith, here, known_before xs (λ f. omega (arith, below f)))
  known_before (_ ∷ xs) below = omega (arith, known_before xs (λ f. omega (arith, below f)))

  made_now : (s : Server) → server_at k.servers e.server ≡ Some s → (t : ℕ) (y : ThreadState) (p : Operand) → e.what ≡ Step t → thread_in s.threads t ≡ Some y → slice_get k.code y.pc ≡ Some (instr.Box p) → unknown k e (record { thread = y.number; count = y.made }) ≡ 0
  made_now s here t y p q there at =
      let o : ObjNo = record { thread = y.number; count = y.made } in
      let new : new_of k e ≡ Some o = ap (new_in k e) here ∙ ap (object_step k.code s.threads) q ∙ ap (λ x. then_some x (λ z. box_object z (slice_get k.code z.pc))) there ∙ ap (box_object y) at in
      or_new (tot (cells o) (things_of k)) (is_new (new_of k e) o) (ap (λ x. is_new x o) new ∙ self_object o)

  -- and every cell afterwards
  known_after : Gives (λ (x : Cluster × EntryView). tot (cell_object (unknown k e)) (things_of x.0) ≡ 0) (apply k e)
  known_after =
      let also = object_alone (unknown k e) in
      weaker (λ (x : Cluster × EntryView). GoneOn k also (ends_as k e (server_at k.servers e.server)) x.0) (λ (x : Cluster × EntryView). tot (cell_object (unknown k e)) (things_of x.0) ≡ 0) (apply k e)
      (gone_on k e also sound few
      (record { holders = no_holder (things_of k); marks_none = no_mark (things_of k); askers = no_askers (things_of k); objects = known_before (things_of k) (λ f. omega arith); lives = no_going (things_of k); copies = no_copies (things_of k); served = λ n s h i v o r t c q z. refl })
      (λ s here t y i q there at on. record {
        stands = refl;
        lives = λ z. refl;
        boxed = λ p z. (made_now s here t y p q there (at ∙ ap (λ j. Some j) z), refl);
        young = λ c low high. refl;
        lends = λ p m c z. refl;
        asks = λ f p. refl;
        moves = λ j p c h h2 x v q2 z u. unmarked_by k also j v refl;
      }))
      (λ x g. let none = g.none in omega (arith, none, tot_le (cell_object (unknown k e)) (stray (names k also (ends_as k e (server_at k.servers e.server)))) (λ y. object_so y) (things_of x.0)))
    where
      object_so : (y : Thing) → cell_object (unknown k e) y ≤ stray (names k (object_alone (unknown k e)) (ends_as k e (server_at k.servers e.server))) y
      object_so y = omega arith

  -- the thread of a new object has made more
  abbrev NewAhead : Cluster → Type 0
  NewAhead c = (o : ObjNo) → is_new (new_of k e) o ≡ true → 1 ≤ tot (ahead o) (things_of c)

  ahead_in : (s : Server) → server_at k.servers e.server ≡ Some s → (o : ObjNo) → Boxing k.code s.threads e.what o → (r : Server × EntryView)
      → (z : ThreadState) × (r.0.threads ≡ set_thread s.threads z) × (z.number ≡ o.thread) × (z.made ≡ o.count + 1) → 1 ≤ tot (ahead o) (servers_things (with_server k.servers e.server r.0))
  ahead_in s here o x r g =
      let z = g.0 in
      let number : (x.thread).number ≡ x.number = thread_number s.threads x.number x.thread x.there in
      let owner : (x.thread).number ≡ o.thread = ap (λ (p : ObjNo). p.thread) x.object in
      let same : o.thread ≡ x.number = sym owner ∙ number in
      let found : thread_in (set_thread s.threads z) x.number ≡ Some z = set_found s.threads x.number x.thread z x.there (g.2 ∙ same) in
      let mine : thread_in r.0.threads x.number ≡ Some z = subst (λ ts. thread_in ts x.number ≡ Some z) (sym (g.1)) found in
      let at : (z.number == o.thread) ≡ true = eq-eqb z.number o.thread (g.2) in
      let made : z.made ≡ o.count + 1 = g.3 in
      let more : nat_lt o.count z.made ≡ true = grind (arith, nat_tests, made) in
      let weighs : one (z.number == o.thread && nat_lt o.count z.made) ≡ 1 = ap (λ q. one (q && nat_lt o.count z.made)) at ∙ ap one more in
      omega (arith, one_of_standing (ahead o) (r.0.rest.number) 0 x.number r.0.threads z mine, weighs, server_parts (ahead o) r.0, (tot-server (ahead o) k.servers e.server s r.0 here).1)

  acted : (o : Option Server) → server_at k.servers e.server ≡ o → Gives (λ (x : Cluster × EntryView). NewAhead x.0) (then_some o (λ s. option_map (λ x. (record k { servers = with_server k.servers e.server x.0 }, x.1)) (done_at k e.what s)))
  acted None q = tt
  acted (Some s) q = by (enabled k.options s e.what) refl
    where
      by : (on : Bool) → enabled k.options s e.what ≡ on
          → Gives (λ (x : Cluster × EntryView). NewAhead x.0) (option_map (λ x. (record k { servers = with_server k.servers e.server x.0 }, x.1)) (if on then does k.code k.options s e.what else None))
      by false on = tt
      by true on =
          over_gives (λ (r : Server × EntryView). (o : ObjNo) → is_new (new_of k e) o ≡ true → 1 ≤ tot (ahead o) (servers_things (with_server k.servers e.server r.0))) (λ (x : Cluster × EntryView). NewAhead x.0) (does k.code k.options s e.what) _
          (all_give (λ o. is_new (new_of k e) o ≡ true) (λ o (r : Server × EntryView). 1 ≤ tot (ahead o) (servers_things (with_server k.servers e.server r.0))) (does k.code k.options s e.what) (λ o n.
          let x = boxing k.code s.threads e.what o (subst (λ p. is_new (new_in k e p) o ≡ true) q n) in
          weaker (λ (r : Server × EntryView). (z : ThreadState) × (r.0.threads ≡ set_thread s.threads z) × (z.number ≡ (x.thread).number) × (z.made ≡ (x.thread).made + 1)) (λ (r : Server × EntryView). 1 ≤ tot (ahead o) (servers_things (with_server k.servers e.server r.0))) (does k.code k.options s e.what)
          (subst (λ w. Gives (λ (r : Server × EntryView). (z : ThreadState) × (r.0.threads ≡ set_thread s.threads z) × (z.number ≡ (x.thread).number) × (z.made ≡ (x.thread).made + 1)) (does k.code k.options s w)) (sym x.step)
          (stepped_so k e none_else sound few (asking_before k nobody (no_askers (things_of k))) (λ s2 here2 t2 y2 i2 q2 there2 at2 on2. plain_step k nobody s2 i2 y2 refl) s q on x.number x.thread (instr.Box x.operand) x.step x.there x.at))
          (λ r g. ahead_in s q o x r (g.0, g.1, g.2 ∙ ap (λ (p : ObjNo). p.thread) x.object, g.3 ∙ ap (λ (p : ObjNo). p.count + 1) x.object))))
          (λ r g. g)

  new_ahead : Gives (λ (x : Cluster × EntryView). NewAhead x.0) (apply k e)
  new_ahead = handed_on NewAhead (λ c x y same g o n. omega (arith, same (ahead o), g o n)) k e (each_event_sends k e sound few) (acted (server_at k.servers e.server) refl)

  -- what is known of the cluster afterwards
  record After (c : Cluster) : Type 0 where
    known_cells : tot (cell_object (unknown k e)) (things_of c) ≡ 0
    old_objects : (o : ObjNo) → 1 ≤ tot (cells o) (things_of k) → tot (going_of (behind o)) (things_of c) ≡ 0
    new_objects : NewAhead c
    numbers : (t : ℕ) → tot (is_thread t) (things_of c) ≤ 1

  after_all : Gives (λ (x : Cluster × EntryView). After x.0) (apply k e)
  after_all =
      both_give (λ (x : Cluster × EntryView). tot (cell_object (unknown k e)) (things_of x.0) ≡ 0) (λ (x : Cluster × EntryView). NewAhead x.0 × (((o : ObjNo) → 1 ≤ tot (cells o) (things_of k) → tot (going_of (behind o)) (things_of x.0) ≡ 0) × ((t : ℕ) → tot (is_thread t) (things_of x.0) ≤ 1))) _ (apply k e)
      known_after
      (both_give (λ (x : Cluster × EntryView). NewAhead x.0) (λ (x : Cluster × EntryView). ((o : ObjNo) → 1 ≤ tot (cells o) (things_of k) → tot (going_of (behind o)) (things_of x.0) ≡ 0) × ((t : ℕ) → tot (is_thread t) (things_of x.0) ≤ 1)) _ (apply k e) new_ahead
      (both_give (λ (x : Cluster × EntryView). (o : ObjNo) → 1 ≤ tot (cells o) (things_of k) → tot (going_of (behind o)) (things_of x.0) ≡ 0) (λ (x : Cluster × EntryView). (t : ℕ) → tot (is_thread t) (things_of x.0) ≤ 1) _ (apply k e)
      (all_give (λ o. 1 ≤ tot (cells o) (things_of k)) (λ o (x : Cluster × EntryView). tot (going_of (behind o)) (things_of x.0) ≡ 0) (apply k e) (old_stay k e sound few))
      (handed_part (λ c. (t : ℕ) → tot (is_thread t) (things_of c) ≤ 1) (λ c sums. sums.numbers_differ) k e sound few (each_event_sends k e sound few)) (λ x a c. (a, c))) (λ x a c. (a, c)))
      (λ x a c. let d = c.1 in record { known_cells = a; old_objects = d.0; new_objects = c.0; numbers = d.1 })

  module _ (c : Cluster) (g : After c) where
    object_made : (o : ObjNo) → unknown k e o ≡ 0 → was_made o (thread_at (threads_in (things_of c)) o.thread) ≡ true
    object_made o z =
        known_cases (tot (cells o) (things_of k)) (is_new (new_of k e) o) (was_made o (thread_at (threads_in (things_of c)) o.thread) ≡ true) z
        (λ l. found_made o (things_of c) (g.old_objects o l)) (λ n. found_ahead o (things_of c) (g.numbers o.thread) (g.new_objects o n))

    made_le : (x : Thing) → not_made (sight c) x ≤ cell_object (unknown k e) x
    made_le (lies s a d) = other_below (was_made d.object (thread_at (threads_in (things_of c)) (d.object).thread)) (unknown k e d.object) (object_made d.object)
    made_le (flies v d) = other_below (was_made d.object (thread_at (threads_in (things_of c)) (d.object).thread)) (unknown k e d.object) (object_made d.object)
    made_le x = omega arith

    objects_hold : Holds c objects_made
    objects_hold = omega (arith, tot_le (not_made (sight c)) (cell_object (unknown k e)) made_le (things_of c), g.known_cells)

pub objects_kept : EachEventKeeps objects_made
objects_kept k e sound few = weaker (λ (x : Cluster × EntryView). After k e sound few x.0) (λ (x : Cluster × EntryView). Holds x.0 objects_made) (apply k e) (after_all k e sound few) (λ x g. objects_hold k e sound few x.0 g)
