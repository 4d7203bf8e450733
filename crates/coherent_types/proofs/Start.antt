-- The start of a code that has a table has types, on however many servers.
use Rattle.std.proofs.Common.{◌≡◌, ℕ, zero, suc, ◌+◌, ◌==◌, ◌≤◌, ◌%◌, ◌/◌, ◌^◌, ◌&&◌, not, Bool, true, false, List, [], Option, Some, None, refl, ap, ◌∙◌, subst, arith, nat_le, reverse}
use Rattle.coherent_memory.specs.Below.fr_base.declared.name.ObjNo.{ObjNo}
use Rattle.coherent_memory.specs.Below.fr_base.declared.name.MutexNo.{MutexNo}
use Rattle.coherent_memory.specs.Below.fr_base.declared.instruction.Instr.{Instr}
use Rattle.coherent_memory.specs.Below.fr_base.declared.settings.Options.{Options}
use Rattle.coherent_memory.specs.Below.fr_plain.declared.value.Value.{Value}
use Rattle.coherent_memory.specs.Below.fr_typing.Kinds.{Owned, unit, int, box, mutex, task, same_owned}
use Rattle.coherent_memory.specs.Below.fr_store.Keys.{Key, slot_k, temp_k, content_k, result_k, hand_k}
use Rattle.coherent_memory.specs.Below.fr_store.Store.{Location, at_key, at_object, Val, box_v, gone_v, mutex_v, task_v, Store, value_at}
use Rattle.coherent_memory.specs.Below.fr_store.Typed.{hole, Exact, owns, KeyTypes, exact_under, Stands, Typed}
use Rattle.coherent_memory.specs.Below.server_model.Servers.{Cluster, start_of, main_thread, with_main, empty_servers}
use Rattle.coherent_memory.specs.Names.{tot, one, some, other, if_so}
use Rattle.coherent_memory.specs.Things.{Thing, counts, servers_things}
use Rattle.coherent_memory.specs.Follow.{Standing, threads_in, thread_at}
use Rattle.coherent_memory.specs.Sight.{Sight, sight}
use Rattle.coherent_memory.specs.Walking.{sum_threads, instr_of}
use Rattle.coherent_memory.specs.Requests.{locked_mutex}
use Rattle.coherent_memory.specs.Paths.{joined_thread}
use Rattle.coherent_memory.specs.Naming.{started_at}
use Rattle.coherent_memory.specs.Below.fr_plain.MachineThreads.{alive}
use Rattle.coherent_memory.specs.Below.fr_code.Steps.{Place as CodePlace}
use Rattle.coherent_memory.specs.Below.fr_code.Machine.{CodeRunning}
use Rattle.coherent_memory.specs.Below.fr_sound.Seen.{Gives}
use Rattle.coherent_memory.specs.Below.fr_sound.States.{Typing, store_of, RunningTyped}
use Rattle.coherent_memory.specs.OneHeap.{one_heap, is_given_thread, Node, object_n, mutex_n, any_named, is_in_state, pair_of}
use Rattle.coherent_memory.specs.Below.thread_state.View.{is_over}
use Rattle.coherent_memory.specs.Below.fr_code.CodeTypes.{Entry, Table, going}
use Rattle.coherent_memory.specs.Below.fr_code.CodeTable.{IsTable}
use Rattle.sample_clusters.specs.Clusters.{options, boxed_code}
use Rattle.coherent_types.specs.Codes.{boxed_table}
use Rattle.coherent_types.specs.Typed.{StartHasTypes}
use Rattle.coherent_types.proofs.Codes.{boxed_is_typed}
use Rattle.coherent_types.specs.Names.{NameTypes, names_of}
use Rattle.coherent_types.specs.ClusterTypes.{misfit, misfits, content_gift, result_gift, gift_misfit, forms_of, locked_of, at_entries, unseen_slots, unseen_temps, gives_other, astray_of, KnownAt, CodeStateTypes, entry_wrong, Types}
use Rattle.coherent_types.proofs.Numbers.{suc_zero, zero_suc, suc_le_zero}
use Rattle.coherent_types.proofs.Alone.{each, none_ended, none_owed, no_pairs, no_parents}

-- SERVERS WITHOUT A THREAD

module _ (o : Options) where
  abbrev tail : ℕ → ℕ → List Thing
  tail s n = servers_things (empty_servers o s n)

  no_threads : (s n : ℕ) → threads_in (tail s n) ≡ []
  no_threads s zero = refl
  no_threads s (suc n) = no_threads (s + 1) n

  none_named : (x : Sight) (go : Node → Bool) (k : Node) (s n : ℕ) → any_named x go k (tail s n) ≡ false
  none_named x go k s zero = refl
  none_named x go k s (suc n) = none_named x go k (s + 1) n

  no_sum : (f : Thing → ℕ) → ((s : ℕ) → f (counts s 0 0 0 0 0) ≡ 0) → (s n : ℕ) → tot f (tail s n) ≡ 0
  no_sum f z s zero = refl
  no_sum f z s (suc n) = omega (arith, z s, no_sum f z (s + 1) n)

not_counted : (b : Bool) (c : ℕ) → one (b && nat_le (suc c) 0) ≡ 0
not_counted true c = ap one (suc_le_zero c)
not_counted false c = refl

and_false : (b : Bool) → (b && false) ≡ false
and_false true = refl
and_false false = refl

-- THE START

module _ (code : List Instr) (table : Table) (is : IsTable code table) (o : Options) (n : ℕ) where
  abbrev start : Cluster
  start = record { code = code; options = o; servers = with_main (empty_servers o 0 (suc n)) }

  abbrev objects : ObjNo → Owned
  objects p = unit

  abbrev gives : Gives
  gives = record { mutex = λ m. unit; result = λ t. is.main }

  abbrev exact : KeyTypes
  exact k = owns hole

  abbrev rank : Key → ℕ
  rank (slot_k t i) = i
  rank k = 0

  abbrev typing : Typing
  typing = record { gives = gives; exact = exact; rank = rank; marks = λ t i. at_key (hand_k 0); order = λ t. 0 }

  abbrev temps : CodePlace → List Value
  temps p = p.temps

  abbrev store : Store
  store = store_of temps typing (one_heap start)

  -- nothing is owned
  not_in : (k : Node) → is_in_state (sight start) k ≡ false
  not_in k = none_named o (sight start) _ k 1 n

  -- nobody but main
  stands_nowhere : (t : ℕ) → thread_at (sight start).ground.threads (suc t) ≡ None
  stands_nowhere t = rw (zero_suc t) (ap (λ x. thread_at x (suc t)) (no_threads o 1 n))

  none_started : (h c : ℕ) → (not (c == 0) && some (tot (started_at h c) (sight start).things)) ≡ false
  none_started h zero = refl
  none_started h (suc c) =
      let first = not_counted (0 == h) c in
      let rest = no_sum o (started_at h (suc c)) (λ s. not_counted (s == h) c) 1 n in
      let total : tot (started_at h (suc c)) (sight start).things ≡ 0 = omega (arith, first, rest) in
      ap (λ k. not (suc c == 0) && some k) total ∙ and_false (not (suc c == 0))

  not_given : (t : ℕ) → is_given_thread (sight start) (suc t) ≡ false
  not_given t = rw (suc_zero t) (none_started (suc t / 2 ^ 32) (suc t % 2 ^ 32))

  others : (t : ℕ) → (one_heap start).thread (suc t) ≡ None
  others t = rw (not_given t) refl

  no_object_there : (p : ObjNo) → (one_heap start).object p ≡ None
  no_object_there p = rw (not_in (object_n p)) refl

  no_mutex : (m : MutexNo) → (one_heap start).mutex m ≡ None
  no_mutex m = rw (not_in (mutex_n m)) refl

  no_pair : (t : ℕ) → (one_heap start).pair t ≡ None
  no_pair zero = refl
  no_pair (suc t) = ap pair_of (stands_nowhere t)

  nothing : (k : Key) → store.at k ≡ gone_v
  nothing (slot_k zero i) = refl
  nothing (slot_k (suc t) i) = rw (others t) refl
  nothing (temp_k zero i) = refl
  nothing (temp_k (suc t) i) = rw (others t) refl
  nothing (content_k h c) = rw (no_mutex (record { home = h; count = c })) refl
  nothing (result_k zero) = refl
  nothing (result_k (suc t)) = rw (others t) refl
  nothing (hand_k t) = refl

  no_object : (p : ObjNo) → store.heap p ≡ None
  no_object p = rw (no_object_there p) refl

  no_box : (l : Location) (p : ObjNo) → value_at store l ≡ Some (box_v p) → ⊥
  no_box (at_key k) p e = let f = nothing k in absurd cc
  no_box (at_object q) p e = let f = no_object q in absurd cc

  each_level : (k : Key) (n : ℕ) (p : Exact) → exact_under n (exact k) ≡ Some p → Stands exact store (at_key k) n p
  each_level k zero p e =
      let f : owns hole ≡ p = cc in
      subst (λ q. Stands exact store (at_key k) 0 q) f (record { spot = at_key k; value = store.at k; leads = refl; there = refl; fits = nothing k })
  each_level k (suc n) p e = absurd cc

  start_typed : Typed rank exact store
  start_typed = record {
    stands = each_level;
    below = λ k m u e. absurd cc;
    once = λ i j m u v e f g. absurd cc;
    owner = λ a b p e f. absurd (no_box a p e);
  }

  -- a value that stands somewhere is gone
  all_gone : (l : Location) (v : Val) → value_at store l ≡ Some v → v ≡ gone_v
  all_gone (at_key k) v e = let f = nothing k in cc
  all_gone (at_object q) v e = let f = no_object q in absurd cc

  abbrev main : CodeRunning
  main = record { place = record { pc = 0; temps = [] }; slots = [] }

  main_runs : (one_heap start).thread 0 ≡ Some (alive main)
  main_runs = refl

  main_typed : RunningTyped (KnownAt table) temps typing store 0 None main
  main_typed = record {
    entry = going [] [] is.main;
    known = is.starts;
    gives = refl;
    keys = record { differ = λ x y e. cc; off = λ i e. absurd cc; ranks = λ i j l. l };
    thread = record {
      typed = start_typed;
      nested = tt;
      slots = tt;
      above = λ i l. refl;
      temp = refl;
      names = tt;
      quiet = λ j m u e. absurd cc;
      over = λ i l. absurd (omega (arith, l));
      alone = λ j m u e f. absurd cc;
    };
    waiting = λ i l. absurd (omega (arith, l));
    all_slots = refl;
    all_temps = refl;
    lower = λ i l e f. absurd cc;
    forks = refl;
    hidden = λ i. refl;
    marked = λ i m e. absurd cc;
  }

  start_state : CodeStateTypes table typing (one_heap start)
  start_state = record {
    typed = start_typed;
    threads = each (one_heap start) main main_runs others (λ t x. RunningTyped (KnownAt table) temps typing store t ((one_heap start).pair t) x) main_typed;
    results = λ t v e. absurd (none_ended (one_heap start) main main_runs others t v e);
    near = λ k m u e. absurd cc;
    pairs = λ p b c e. no_pairs (one_heap start) main main_runs others no_pair typing p b c e;
    parents = λ p b c e. no_parents (one_heap start) main main_runs others no_pair p b c e;
    there = λ l m h. let f = all_gone l (mutex_v m h.0) h.1 in absurd cc;
    mutexes = λ m x e. let f = no_mutex m in absurd cc;
    one_task = λ l m t q r e f. let g = all_gone l (task_v t q) e in absurd cc;
    tasks_owed = λ l t r e. let g = all_gone l (task_v t r) e in absurd cc;
    owed_stand = λ t h. absurd (none_owed (one_heap start) main main_runs others t h);
    objects_there = λ l p e. absurd (no_box l p e);
    objects_owned = λ p v e. let f = no_object_there p in absurd cc;
    objects_made = λ p v x e f. let g = no_object_there p in absurd cc;
  }

  -- SENTENCES THAT ARE COUNTED

  abbrev names : NameTypes
  names = names_of objects gives

  abbrev standing : Standing
  standing = record { server = 0; packed = false; thread = main_thread }

  -- a sum over the threads is main's
  one_thread : (f : Standing → ℕ) → f standing ≡ 0 → sum_threads (sight start) f ≡ 0
  one_thread f z = let rest = ap (tot f) (no_threads o 1 n) in omega (arith, z, rest)

  agrees : misfits names (sight start) ≡ 0
  agrees =
      let things = no_sum o (misfit names) (λ s. refl) 1 n in
      let threads = one_thread (gift_misfit names (sight start)) (no_gift (locked_mutex (sight start) standing (instr_of (sight start) standing)) (joined_thread (instr_of (sight start) standing) main_thread)) in
      omega (arith, things, threads)
    where
      no_gift : (m : Option MutexNo) (t : Option ℕ) → content_gift names m None + result_gift names t None ≡ 0
      no_gift None None = refl
      no_gift None (Some t) = refl
      no_gift (Some m) None = refl
      no_gift (Some m) (Some t) = refl

  -- a sentence of main at its first entry
  at_first : (f : Standing → Entry → ℕ) → f standing (going [] [] is.main) ≡ 0 → at_entries table (sight start) f ≡ 0
  at_first f z = one_thread (λ x. if_so (not (is_over x.thread.phase)) (entry_wrong (f x) (table x.thread.pc))) (ap (entry_wrong (f standing)) is.starts ∙ z)

  same_self : (p : Owned) → same_owned p p ≡ true
  same_self unit = refl
  same_self int = refl
  same_self (box p) = same_self p
  same_self (mutex p) = same_self p
  same_self (task p) = same_self p

  started_has_types : Types start
  started_has_types = record {
    table = table;
    is_table = is;
    object = objects;
    typing = typing;
    state = start_state;
    agree = agrees;
    forms = at_first (λ x. forms_of names x.thread) refl;
    locked = at_first (λ x y. locked_of names y.env (reverse x.thread.slots)) refl;
    lead = one_thread (λ x. astray_of exact (sight start).ground x.thread) refl;
    views = at_first (λ x y. unseen_slots (sight start) x.thread.number y.env (reverse x.thread.slots) + unseen_temps (sight start) x.thread.number y.temps (reverse x.thread.temps)) refl;
    ends = one_thread (λ x. entry_wrong (gives_other names x.thread.number) (table x.thread.pc)) (ap (entry_wrong (gives_other names 0)) is.starts ∙ ap other (same_self is.main));
  }

-- however many servers there are
pub start_has_types_lem : StartHasTypes
start_has_types_lem code table o is some = by o.servers some
  where
    by : (n : ℕ) → 1 ≤ n → Types (record { code = code; options = o; servers = with_main (empty_servers o 0 n) })
    by zero l = absurd (omega (arith, l))
    by (suc n) l = started_has_types code table is o n

-- that of the boxed code
pub start_has_types : Types (start_of boxed_code (options 1))
start_has_types = start_has_types_lem boxed_code boxed_table (options 1) boxed_is_typed (omega arith)
