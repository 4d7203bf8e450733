-- The start of any code is left by the empty journal: beside the main thread there are the counts of servers, which are 0.
use Rattle.std.proofs.Common.{◌≡◌, ℕ, zero, suc, ◌+◌, ◌≤◌, ◌==◌, Bool, true, false, not, ◌&&◌, ◌||◌, List, [], ◌∷◌, length, Option, Some, None, refl, sym, ap, subst, ◌∙◌, arith}
use Rattle.std.proofs.Math.Dec.{leb-suc-zero, eqb-suc-zero, eqb-zero-suc}
use Rattle.std.specs.Prelude.{◌/◌, ◌%◌, ◌^◌, nat_le, is_some, if◌then◌else◌, take, slice_get}
use Rattle.fr_base.specs.declared.name.ObjNo.{ObjNo}
use Rattle.fr_base.specs.declared.name.MutexNo.{MutexNo}
use Rattle.fr_base.specs.declared.instruction.Instr.{Instr}
use Rattle.fr_base.specs.declared.settings.Options.{Options}
use Rattle.fr_plain.specs.Heap.{flat}
use Rattle.fr_plain.specs.PlainState.{SameState, plain_state}
use Rattle.server_model.specs.Servers.{Cluster, empty_servers, with_main, main_thread}
use Rattle.coloured_heap.specs.Heap.{Copied, Running, Wish}
use Rattle.coloured_heap.specs.Heap as coloured
use Rattle.coloured_heap.specs.Rules as rules
use Rattle.coherent_memory.specs.Names.{tot, one, some, same_mutex}
use Rattle.coherent_memory.specs.Things.{Thing, counts, stands, at_home, servers_things}
use Rattle.coherent_memory.specs.Follow.{threads_in}
use Rattle.coherent_memory.specs.Sight.{Sight, sight, Pointer, is_issued}
use Rattle.coherent_memory.specs.Naming.{events_of, started_at, made_at}
use Rattle.coherent_memory.specs.OneHeap.{Node, object_n, mutex_n, Owner, a_thread, inside, outside, owner_of, owner_in, names, named_in, any_named, in_state_by, is_in_state, first_shown, is_given_thread, one_heap}
use Rattle.coherent_memory.specs.Colours.{IsColoured, running_of, has_finished, served_of, wishes_of, is_mutex_there}
use Rattle.coherent_memory.specs.LeftBy.{RunsWith, messages_of}
use Rattle.fr_code.specs.Machine.{code_start}
use Rattle.journal.specs.View.{EntryView}
use Rattle.code_meaning.specs.OneHeap.{plain_run}
use Rattle.code_meaning.specs.LeftByItsCode.{LeftByItsCode}
use Rattle.code_meaning.specs.Laws.{StartsLeft}

-- THE COUNTS OF SERVERS WITHOUT A THREAD

abbrev none_counted : ℕ → Thing
none_counted s = counts s 0 0 0 0 0

abbrev there_in : MutexNo → Thing → ℕ
there_in m (at_home r n) = one (same_mutex n.number m)
there_in m x = 0

module _ (o : Options) where
  abbrev others : ℕ → ℕ → List Thing
  others s n = servers_things (empty_servers o s n)

  sum_nothing : (f : Thing → ℕ) → ((s : ℕ) → f (none_counted s) ≡ 0) → (s n : ℕ) → tot f (others s n) ≡ 0
  sum_nothing f z s zero = refl
  sum_nothing f z s (suc n) = omega (arith, z s, sum_nothing f z (s + 1) n)

  show_nothing : {A : Type 0} (f : Thing → Option A) → ((s : ℕ) (b : List Thing) → first_shown f (none_counted s ∷ b) ≡ first_shown f b) → (s n : ℕ) → first_shown f (others s n) ≡ None
  show_nothing f z s zero = refl
  show_nothing f z s (suc n) = z s (others (s + 1) n) ∙ show_nothing f z (s + 1) n

  name_nothing : (k : Sight) (go : Node → Bool) (x : Node) (s n : ℕ) → any_named k go x (others s n) ≡ false
  name_nothing k go x s zero = refl
  name_nothing k go x s (suc n) = name_nothing k go x (s + 1) n

  stand_nowhere : (s n : ℕ) → threads_in (others s n) ≡ []
  stand_nowhere s zero = refl
  stand_nowhere s (suc n) = stand_nowhere (s + 1) n

  issue_nothing : (colours : ℕ) (ps : List Pointer) (w s n : ℕ) → is_issued colours ps (others s n) w ≡ false
  issue_nothing colours ps w s zero = refl
  issue_nothing colours ps w s (suc n) = issue_nothing colours ps w (s + 1) n

and_false : (b : Bool) → (b && false) ≡ false
and_false true = refl
and_false false = refl

-- no count from 1 on was reached
not_reached : (b : Bool) (m : ℕ) → one (b && nat_le (suc m) 0) ≡ 0
not_reached true m = rw (leb-suc-zero m)
not_reached false m = refl

module _ (code : List Instr) (o : Options) (n : ℕ) where
  abbrev at_start : Cluster
  at_start = record { code = code; options = o; servers = with_main (empty_servers o 0 (suc n)) }

  abbrev seen : Sight
  seen = sight at_start

  main_alone : (f : Thing → ℕ) → ((s : ℕ) → f (none_counted s) ≡ 0) → tot f seen.things ≡ f (stands 0 false main_thread)
  main_alone f z = omega (arith, z 0, sum_nothing o f z 1 n)

  out : (x : Node) → is_in_state seen x ≡ false
  out x = name_nothing o seen (in_state_by (suc (length (others o 1 n))) seen) x 1 n

  -- OBJECTS

  empty_cells : (b : Bool) (i : ℕ) → flat (slice_get (if b then [] else []) i) ≡ None
  empty_cells true i = refl
  empty_cells false i = refl

  no_object : (x : ObjNo) → (one_heap at_start).object x ≡ None
  no_object x = rw (out (object_n x))

  no_mutex : (m : MutexNo) → (one_heap at_start).mutex m ≡ None
  no_mutex m = rw (out (mutex_n m))

  same_objects : (x : ObjNo) → (plain_state code_start).object x ≡ (one_heap at_start).object x
  same_objects x = empty_cells (0 == x.thread) x.count ∙ sym (no_object x)

  -- NAMES

  started_nowhere : (r x : ℕ) → (not (x == 0) && some (tot (started_at r x) seen.things)) ≡ false
  started_nowhere r zero = refl
  started_nowhere r (suc x) = rw (main_alone (started_at r (suc x)) (λ s. not_reached (s == r) x)) (and_false (not (suc x == 0)))

  made_nowhere : (r x : ℕ) → (not (x == 0) && some (tot (made_at r x) seen.things)) ≡ false
  made_nowhere r zero = refl
  made_nowhere r (suc x) = rw (main_alone (made_at r (suc x)) (λ s. not_reached (s == r) x)) (and_false (not (suc x == 0)))

  -- no thread but main was given a name
  not_given : (m : ℕ) → is_given_thread seen (suc m) ≡ false
  not_given m = rw (eqb-suc-zero m) (started_nowhere (suc m / 2 ^ 32) (suc m % 2 ^ 32))

  no_thread : (m : ℕ) → (one_heap at_start).thread (suc m) ≡ None
  no_thread m = rw (not_given m)

  no_plain_thread : (m : ℕ) → (plain_state code_start).thread (suc m) ≡ None
  no_plain_thread m = rw (eqb-zero-suc m)

  same_threads : (t : ℕ) → (plain_state code_start).thread t ≡ (one_heap at_start).thread t
  same_threads zero = refl
  same_threads (suc m) = no_plain_thread m ∙ sym (no_thread m)

  same_made : (t : ℕ) → (plain_state code_start).made t ≡ (one_heap at_start).made t
  same_made zero = refl
  same_made (suc m) = rw (eqb-zero-suc m, stand_nowhere o 1 n)

  same_pairs : (t : ℕ) → (plain_state code_start).pair t ≡ (one_heap at_start).pair t
  same_pairs zero = refl
  same_pairs (suc m) = rw (eqb-zero-suc m, stand_nowhere o 1 n)

  same_start : SameState (plain_state code_start) (one_heap at_start)
  same_start = record { threads = same_threads; made = same_made; pairs = same_pairs; objects = same_objects; mutexes = λ m. sym (no_mutex m); given = λ m. sym (made_nowhere m.home m.count) }

  -- THE COLOURED HEAP

  given_alike : (t : ℕ) → is_some (coloured.thread_at coloured.start t) ≡ is_given_thread seen t
  given_alike zero = refl
  given_alike (suc m) = rw (eqb-zero-suc m) (sym (not_given m))

  runs_nowhere : (m : ℕ) → running_of seen (suc m) ≡ None
  runs_nowhere m = rw (eqb-zero-suc m, stand_nowhere o 1 n)

  servers_alike : (t : ℕ) (r : Running) → running_of seen t ≡ Some r → coloured.thread_at coloured.start t ≡ Some r
  servers_alike zero r e = e
  servers_alike (suc m) r e = let none : None ≡ Some r = sym (runs_nowhere m) ∙ e in absurd cc

  ended_alike : (t : ℕ) → rules.is_over coloured.start t ≡ has_finished seen t
  ended_alike zero = refl
  ended_alike (suc m) = rw (eqb-zero-suc m, not_given m) refl

  mutex_gone : (m : MutexNo) → is_mutex_there seen m ≡ false
  mutex_gone m = ap some (main_alone (there_in m) (λ s. refl))

  none_served : (a : Copied) → served_of seen a ≡ 0
  none_served a = search main_alone

  none_wished : (a : Wish) → wishes_of seen a ≡ 0
  none_wished a = search main_alone

  coloured_start : IsColoured seen coloured.start
  coloured_start = record {
    objects = λ x. sym (show_nothing o _ (λ s b. refl) 1 n);
    copies = λ r w. sym (show_nothing o _ (λ s b. refl) 1 n);
    served = λ a. sym (none_served a);
    issued = λ w. sym (issue_nothing o o.colours seen.pointers w 1 n);
    started = given_alike;
    servers = servers_alike;
    ended = ended_alike;
    wishes = λ a. sym (none_wished a);
    made = λ m. sym (made_nowhere m.home m.count);
    mutexes = λ m e. let no : false ≡ true = sym (mutex_gone m) ∙ e in absurd cc;
  }

  -- EVENTS AND MESSAGES

  none_done : events_of seen ≡ 0
  none_done = search main_alone

  none_sent : messages_of seen ≡ 0
  none_sent = search main_alone

  abbrev no_entries : List EntryView
  no_entries = []

  none_taken : (m : ℕ) → take m no_entries ≡ []
  none_taken zero = refl
  none_taken (suc m) = refl

  left_start : LeftByItsCode at_start []
  left_start = record {
    plain = record { state = plain_state code_start; runs = refl; same = same_start };
    labelled = λ m. subst (RunsWith (plain_run code)) (sym (none_taken m)) (record { state = plain_state code_start; runs = refl });
    reached = refl;
    coloured = record { state = coloured.start; legal = refl; stands = coloured_start };
    events = none_done;
    messages = omega (arith, none_sent);
  }

pub starts_left : StartsLeft
starts_left code o l = by o.servers l
  where
    by : (n : ℕ) → 1 ≤ n → LeftByItsCode (record { code = code; options = o; servers = with_main (empty_servers o 0 n) }) []
    by zero l = absurd (omega arith)
    by (suc n) l = left_start code o n
