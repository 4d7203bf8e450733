-- A dup and a lock whose answer came, at the server and on the plain machine.
use Rattle.std.proofs.Common.{◌≡◌, ℕ, ◌+◌, ◌≤◌, Bool, true, false, List, [], ◌∷◌, ◌++◌, map, Option, Some, None, option_map, refl, sym, ap, ap₂, subst, ◌∙◌, arith}
use Rattle.std.specs.List.{AllByRecursion}
use Rattle.law_heap_steps.specs.Below.fr_base.declared.name.MutexNo.{MutexNo}
use Rattle.law_heap_steps.specs.Below.fr_base.declared.place.Lval.{Lval}
use Rattle.law_heap_steps.specs.Below.fr_base.declared.step.Fresh.TheVariants as fresh
use Rattle.law_heap_steps.specs.Below.fr_base.declared.instruction.Instr.{Instr}
use Rattle.law_heap_steps.specs.Below.fr_plain.PlainState.{SameState, plain_state}
use Rattle.law_heap_steps.specs.Below.fr_base.declared.label.Plain.{Plain}
use Rattle.law_heap_steps.specs.Below.fr_plain.declared.value.Value.{Value as PlainValue}
use Rattle.law_heap_steps.specs.Below.fr_plain.MachineThreads.{Shared, going, with_mutex, mutex_there}
use Rattle.law_heap_steps.specs.Below.fr_plain.Machine.{mutex_behind, done_act}
use Rattle.law_heap_steps.specs.Below.fr_code.Steps.{Place, CodeAct, code_moves, over_at, run_instr}
use Rattle.law_heap_steps.specs.Below.fr_code.Machine.{CodeWhole}
use Rattle.law_heap_steps.specs.Below.heap_partition.Same.{same_owned}
use Rattle.law_heap_steps.specs.Below.heap_partition.declared.value.Owned.{Owned}
use Rattle.law_heap_steps.specs.Below.heap_partition.declared.value.Owned.TheVariants as owned
use Rattle.law_heap_steps.specs.Below.migration.Packing.{unpinned}
use Rattle.law_heap_steps.specs.Below.thread_state.View.{ThreadState}
use Rattle.law_heap_steps.specs.Below.thread_state.declared.value.Value.{Value}
use Rattle.law_heap_steps.specs.Below.thread_state.declared.value.Value.TheVariants as value
use Rattle.law_heap_steps.specs.Below.server_model.declared.event.Event.{Event}
use Rattle.law_heap_steps.specs.Below.server_model.Servers.{Server, Cluster}
use Rattle.law_heap_steps.specs.Below.server_model.Work.{Hand, mutex_of, then_some}
use Rattle.law_heap_steps.specs.Below.server_model.Places.{Spot, in_slot, on_top, in_cell, in_copy, nowhere, value_at, load_at}
use Rattle.law_heap_steps.specs.Below.server_model.Prepare.{ReadTo, Prepared, prepare}
use Rattle.law_heap_steps.specs.Below.server_model.Commit.{take_gift, mutex_at}
use Rattle.law_heap_steps.specs.Below.coherent_memory.Names.{tot}
use Rattle.law_heap_steps.specs.Below.coherent_memory.Things.{Location, Thing}
use Rattle.law_heap_steps.specs.Below.coherent_memory.Follow.{Ground, Standing, value_in, value_behind, locate, place_at}
use Rattle.law_heap_steps.specs.Below.coherent_memory.Sight.{Sight, sight}
use Rattle.law_heap_steps.specs.Below.coherent_memory.Requests.{mutex_of as value_mutex, is_par_end}
use Rattle.law_heap_steps.specs.Below.coherent_memory.Naming.{started_at, made_at}
use Rattle.law_heap_steps.specs.Below.coherent_memory.OneHeap.{Node, mutex_n, inside, outside, content_owner, owner_of, named_in, is_in_state, or_else, first_shown, content_value, running_at, plain_value, one_heap, state_of}
use Rattle.law_heap_still.specs.Below.coherent_types.ClusterTypes.{IsCoherent}
use Rattle.law_heap_steps.specs.Below.law_counts_sums.Laws.{Gives}
use Rattle.law_heap_steps.proofs.Below.law_counts_sums.Bags.{counts_of}
use Rattle.law_heap_steps.specs.Below.law_words_kept.reads.Reading.{Reads}
use Rattle.law_heap_steps.proofs.Below.law_heap_still.events.Alike.{Once}
use Rattle.law_heap_steps.proofs.Below.law_heap_still.events.Prepares.{Fine}
use Rattle.law_heap_steps.proofs.Below.law_heap_still.events.Readied.{Readied, readied_slots, readied_temps, same_rest}
use Rattle.law_heap_steps.proofs.Below.law_heap_still.events.Sites.{Moves}
use Rattle.law_heap_steps.proofs.Below.law_heap_still.events.Told.{told, ones}
use Rattle.law_heap_steps.proofs.Below.coherent_memory.Names.{same_mutexes}
use Rattle.law_plain_values.proofs.acts.Mutexes.{given_set}
use Rattle.law_heap_steps.specs.turns.Turns.{StepsTo}
use Rattle.law_heap_steps.proofs.turns.Parts.{Own}
use Rattle.law_heap_steps.proofs.turns.OneTurn.{Going, of_thread, Calm, after}
use Rattle.law_heap_steps.proofs.turns.PlainTurn.{thread_as, state_at}
use Rattle.law_heap_steps.proofs.turns.Instructions.{shown_last}
use Rattle.law_heap_steps.proofs.turns.ReadWalk.{Finds, At, Comes, reads as walk, seen_value, loads_of, passed_loads}
use Rattle.law_heap_steps.proofs.turns.PlainReads.{mutex_shown}
use Rattle.law_heap_steps.proofs.turns.StarLines.{h0, x as standing, goes, finds, shows}
use Rattle.law_heap_steps.proofs.turns.Events.{AtStep, then_same}
use Rattle.law_heap_steps.proofs.mutexes.Beside.{giftless, IsLoose, tot_of}
use Rattle.law_heap_steps.proofs.mutexes.Changed.{lone, given, once_before, state_before}
use Rattle.law_heap_steps.proofs.mutexes.Gifted.{started_here, made_here}
use Rattle.law_heap_steps.proofs.mutexes.ThreadTurns.{G, R, before, then_there, quiet, loose, Soon}
use Rattle.law_heap_steps.proofs.mutexes.OneMutex as one_mutex
use Rattle.law_heap_steps.proofs.mutexes.OneThread.{GoesOn, past, mutex_given}
use Rattle.law_heap_steps.proofs.mutexes.Places.{place_in}
use Rattle.law_heap_steps.proofs.mutexes.PlainMutex.{goes_with, move_as, acts, steps_with, set_shows}
use Rattle.law_heap_steps.proofs.mutexes.Change.{Change, thread_on, made_on, objects_on, mutexes_on, once_on}

-- THE HAND IS READY, AND THE MUTEX IS FOUND

owned_unpinned : (u : Value) (o : Owned) → unpinned u ≡ value.Own o → u ≡ value.Own o
owned_unpinned (value.Own r) o e = e
owned_unpinned value.Gone o e = absurd (cc e)
owned_unpinned (value.SharedSlot i) o e = absurd (cc e)
owned_unpinned (value.MutSlot i) o e = absurd (cc e)
owned_unpinned (value.Shared r) o e = absurd (cc e)
owned_unpinned (value.Mut r) o e = absurd (cc e)
owned_unpinned (value.Held m) o e = absurd (cc e)

mutex_there_of : (v : Value) (m : MutexNo) → mutex_of v ≡ Some m → v ≡ value.Own (owned.Mutex m)
mutex_there_of (value.Own (owned.Mutex n)) m e = let same : n ≡ m = cc in ap (λ z. value.Own (owned.Mutex z)) same
mutex_there_of (value.Own owned.Nothing) m e = absurd (cc e)
mutex_there_of (value.Own owned.Unit) m e = absurd (cc e)
mutex_there_of (value.Own (owned.Int i)) m e = absurd (cc e)
mutex_there_of (value.Own (owned.Box p)) m e = absurd (cc e)
mutex_there_of (value.Own (owned.Task u)) m e = absurd (cc e)
mutex_there_of value.Gone m e = absurd (cc e)
mutex_there_of (value.SharedSlot i) m e = absurd (cc e)
mutex_there_of (value.MutSlot i) m e = absurd (cc e)
mutex_there_of (value.Shared r) m e = absurd (cc e)
mutex_there_of (value.Mut r) m e = absurd (cc e)
mutex_there_of (value.Held n) m e = absurd (cc e)

pub share_is : (v : Owned) (m : MutexNo) → same_owned v (owned.Mutex m) ≡ true → v ≡ owned.Mutex m
share_is (owned.Mutex n) m e = ap (λ z. owned.Mutex z) (same_mutexes n m e)
share_is owned.Nothing m e = absurd (cc e)
share_is owned.Unit m e = absurd (cc e)
share_is (owned.Int i) m e = absurd (cc e)
share_is (owned.Box p) m e = absurd (cc e)
share_is (owned.Task u) m e = absurd (cc e)

-- the place of the thread leads to a mutex, and the hand that is ready has its labels
pub record AtMutex (k : Cluster) (y : ThreadState) (w : Lval) (h : Hand) (sp : Spot) (m : MutexNo) : Type 0 where
  pub location : Location
  pub located : locate (sight k).ground y.number w.slot w.depth ≡ Some location
  pub stands : value_in (sight k).ground location ≡ Some (value.Own (owned.Mutex m))
  pub labels : (load_at sp h).work.labels ≡ passed_loads (sight k).ground y.number w.slot w.depth ++ loads_of (sight k).ground location

module _ (k : Cluster) (co : IsCoherent k) (e : Event) (i : Instr) (w : Lval) (reads : Reads i w w.depth) (s : Server) (t : ℕ) (y : ThreadState) (a : AtStep k e i s t y) where
  abbrev pub found : Finds (sight k).ground y s.rest w w.depth
  found = finds k co e i s t y a w w.depth reads

  -- what the walk comes to
  abbrev pub Found : Prepared → Type 0
  Found p = Comes (sight k).ground y s.rest w w.depth found w.depth p × Fine (h0 k co e i s t y a) p

  pub walks : Found (prepare (Some (ReadTo w)) (h0 k co e i s t y a))
  walks = (walk (sight k).ground y s.rest w w.depth found w.depth (omega arith), shows k co e i s t y a (Some (ReadTo w)))

  at_mutex : (h : Hand) (sp : Spot) (v : Value) (m : MutexNo) → At (sight k).ground y s.rest w w.depth found w.depth h sp → value_at h sp ≡ Some v → mutex_of v ≡ Some m → AtMutex k y w h sp m
  at_mutex h sp v m there q mutex =
      let it = seen_value (value_in (sight k).ground there.location) v (sym (ap (option_map unpinned) q) ∙ there.seen) in
      let same : it.0 ≡ value.Own (owned.Mutex m) = owned_unpinned it.0 (owned.Mutex m) (sym it.2 ∙ ap unpinned (mutex_there_of v m mutex)) in record {
        location = there.location;
        located = there.located;
        stands = it.1 ∙ ap (λ z. Some z) same;
        labels = ap₂ (λ x y. x ++ y) there.labels there.loads;
      }

  -- the step of a hand that is ready, where its answer came
  pub at_hand : (P : Hand → Type 0) (go : Hand → MutexNo → Hand) (h : Hand) (sp : Spot) → ((v : Value) → value_at h sp ≡ Some v → At (sight k).ground y s.rest w w.depth found w.depth h sp) → ((m : MutexNo) → AtMutex k y w h sp m → P (go h m))
      → Gives P (option_map (go h) (mutex_at h sp))
  at_hand P go h sp comes f = by (value_at h sp) refl
    where
      by_mutex : (v : Value) → value_at h sp ≡ Some v → (o : Option MutexNo) → mutex_of v ≡ o → Gives P (option_map (go h) o)
      by_mutex v q None z = tt
      by_mutex v q (Some m) z = f m (at_mutex h sp v m (comes v q) q z)

      by : (o : Option Value) → value_at h sp ≡ o → Gives P (option_map (go h) (then_some o mutex_of))
      by None q = tt
      by (Some v) q = by_mutex v q (mutex_of v) refl

-- SMALL FACTS

pub nothing_under : (r : Sight) (xs : List Thing) → AllByRecursion (λ th. (q : Node) → false ≡ true → owner_of r th ≡ inside q → ⊥) xs
nothing_under r [] = tt
nothing_under r (th ∷ xs) = ((λ q z f. cc z), nothing_under r xs)

pub named_outside : (b : Bool) (f : Node → Bool) → named_in b f outside ≡ false
named_outside true f = refl
named_outside false f = refl

pub labels_taken : (sp : Spot) (h : Hand) → (load_at sp (take_gift h)).work.labels ≡ (load_at sp h).work.labels
labels_taken (in_slot i) h = refl
labels_taken on_top h = refl
labels_taken (in_cell u q) h = refl
labels_taken (in_copy u) h = refl
labels_taken nowhere h = refl

pub owner_is : (o : Option MutexNo) (m : MutexNo) → content_owner o ≡ inside (mutex_n m) → o ≡ Some m
owner_is None m e = absurd (cc e)
owner_is (Some w) m e = let same : w ≡ m = cc in ap (λ z. Some z) same

pub none_first : (f : Thing → Option Plain) (xs : List Thing) → tot (λ v. told ones (f v)) xs ≡ 0 → first_shown f xs ≡ None
none_first f [] z = refl
none_first f (th ∷ xs) z = ap₂ or_else (by (f th) (omega (arith, z))) (none_first f xs (omega (arith, z)))
  where
    by : (o : Option Plain) → told ones o ≡ 0 → o ≡ None
    by None z = refl
    by (Some v) z = absurd (cc z)

pub shown_counts : (f : Thing → Option Plain) (xs : List Thing) (v : Plain) → first_shown f xs ≡ Some v → 1 ≤ tot (λ u. told ones (f u)) xs
shown_counts f [] v e = absurd (cc e)
shown_counts f (th ∷ xs) v e = by (f th) refl e (shown_counts f xs v)
  where
    by : (o : Option Plain) → f th ≡ o → or_else o (first_shown f xs) ≡ Some v → (first_shown f xs ≡ Some v → 1 ≤ tot (λ u. told ones (f u)) xs) → 1 ≤ told ones (f th) + tot (λ u. told ones (f u)) xs
    by None q d go = omega (arith, go d)
    by (Some u) q d go = omega (arith, ap (told ones) q)

-- THE TURN OF A THREAD THAT IS ANSWERED

module _ (k : Cluster) (co : IsCoherent k) (e : Event) (i : Instr) (single : is_par_end (Some i) ≡ false) (w : Lval) (s : Server) (t : ℕ) (y : ThreadState) (a : AtStep k e i s t y) (h : Hand) (sp : Spot) (ready_h : Readied (h0 k co e i s t y a) h) (m : MutexNo)
    (am : AtMutex k y w h sp m) (v : Owned) (gift : y.gift ≡ Some v) (slots temps : List Value) where
  abbrev n : ℕ
  n = s.rest.number

  abbrev pub G1 : List Thing
  G1 = G k co.sound e i single s t y a

  abbrev pub Others : List Thing
  Others = R k co.sound e i single s t y a

  abbrev pub counts_then : Thing
  counts_then = counts_of n 0 s.rest

  abbrev pub G2 : List Thing
  G2 = counts_then ∷ []

  abbrev pub s1 : Sight
  s1 = before k co.sound e i single s t y a

  abbrev pub s2 : Sight
  s2 = then_there k co.sound e i single s t y a (after y (y.pc + 1) slots temps) G2

  abbrev pub it : Standing
  it = record { server = n; packed = false; thread = y }

  abbrev pub g : Ground
  g = (sight k).ground

  abbrev pub calm1 : Calm y.phase
  calm1 = quiet k co.sound e i single s t y a

  abbrev pub loose1 : AllByRecursion IsLoose G1
  loose1 = loose k co.sound e i single s t y a

  pub lone1 : tot (of_thread y.number) Others ≡ 0
  lone1 = lone k co.sound e s a.here t y a.at a.number

  pub slots_plain : map plain_value h.thread.slots ≡ map plain_value y.slots
  slots_plain = readied_slots ready_h

  pub temps_plain : map plain_value h.thread.temps ≡ map plain_value y.temps
  temps_plain = readied_temps ready_h

  pub in_it : is_in_state s1 (mutex_n m) ≡ true
  in_it = place_in k co e i single s t y a m w.slot w.depth am.location am.located am.stands

  pub value_here : value_mutex (value_behind g (place_at g y.number w)) ≡ Some m
  value_here = ap (λ l. value_mutex (value_behind g l)) am.located ∙ ap value_mutex am.stands

  -- how often contents are shown among the others
  pub few : (u : MutexNo) → tot (λ x. told ones (content_value s1 u x)) G1 + tot (λ x. told ones (content_value s1 u x)) Others ≤ 1
  few u =
      let flat : Own (λ x. told ones (content_value s1 u x) ≡ 0) = record { slots = λ p j x. refl; temps = λ p j x. refl; shared = λ l r. refl; lent = λ l r. refl; marks = λ l r. refl; used = λ p r. refl } in
      omega (arith, (once_before k co.sound e s a.here t y a.at a.number).contents u, tot_of n y G1 Others (λ x. told ones (content_value s1 u x)) flat)

  pub started1 : (f c : ℕ) → tot (started_at f c) G1 ≡ tot (started_at f c) G2
  started1 f c = started_here k co.sound e i single s t y a f c ∙ omega arith

  pub made1 : (f c : ℕ) → tot (made_at f c) G1 ≡ tot (made_at f c) G2
  made1 f c = made_here k co.sound e i single s t y a f c ∙ omega arith

  -- a state of the plain machine that shows the one heap
  module _ (c : CodeWhole) (same : SameState (plain_state c) (one_heap k)) where
    same1 : SameState (plain_state c) (state_of s1)
    same1 = then_same (plain_state c) (one_heap k) (state_of s1) same (state_before k co.sound e s a.here t y a.at a.number)

    behind : mutex_behind (state_at c y.number (shown_last y.slots)) w ≡ Some (m, passed_loads g y.number w.slot w.depth ++ loads_of g am.location)
    behind = mutex_shown k co (standing k co e i s t y a) (goes k co e i s t y a) c same w am.location m am.located am.stands

  -- with a change of this mutex, and an act of the plain machine that does the same, the hand is such a turn
  module _ (under : Option Owned) (more_shares : Bool) (change : Change k Others G1 G2 n y (y.pc + 1) slots temps m under None more_shares (λ q. false)) (h2 : Hand) (rest : h2.work.rest ≡ h.work.rest) (thread : h2.thread ≡ giftless (record h.thread { slots = slots; temps = temps }))
      (old new : Shared) (old_is : (state_of s1).mutex m ≡ Some old) (new_is : (state_of s2).mutex m ≡ Some new) (act : CodeAct) (plug : PlainValue → Place) (val : PlainValue) (more : List PlainValue)
      (place : running_at (past y (y.pc + 1) slots temps) ≡ record { place = plug val; slots = more })
      (now : over_at (Some i) (shown_last y.temps) ≡ going) (move : run_instr (Some i) y.pc (shown_last y.temps) ≡ Some (record { act = act; plug = plug }))
      (does : (c : CodeWhole) (f : Going) → mutex_behind (state_at c y.number (shown_last y.slots)) w ≡ Some (m, passed_loads g y.number w.slot w.depth ++ loads_of g am.location) → mutex_there c.mutexes m ≡ Some old
      → done_act (code_moves k.code) c (thread_as f y.number (running_at y)) fresh.None (move_as f act plug) act ≡ Some (goes_with c f y.number (record { place = plug val; slots = more }) (with_mutex c.mutexes m (Some new)) h2.work.labels)) where
    once_here : Once s2
    once_here = once_on change (once_before k co.sound e s a.here t y a.at a.number) (λ u. omega (arith, few u)) (λ r. refl)

    steps_here : (c : CodeWhole) → SameState (plain_state c) (one_heap k) → StepsTo k.code c y.number fresh.None (state_of s2) h2.work.labels
    steps_here c same =
        let shown = same1 c same in
        let goes_to : GoesOn y.number (running_at y) (record { place = plug val; slots = more }) (state_of s1) (state_of s2) =
        subst (λ q. GoesOn y.number (running_at y) q (state_of s1) (state_of s2)) place (thread_on change (given k co.sound e s a.here t y a.at a.number)) in
        let there : mutex_there c.mutexes m ≡ Some old = shown.mutexes m ∙ old_is in
        steps_with k.code c y.number (running_at y) (record { place = plug val; slots = more }) (state_of s1) (state_of s2) goes_to shown fresh.None (with_mutex c.mutexes m (Some new)) h2.work.labels
        (acts k.code (running_at y) act plug (ap (λ j. over_at j (shown_last y.temps)) a.code ∙ now) (ap (λ j. run_instr j y.pc (shown_last y.temps)) a.code ∙ move) goes_to.way c y.number fresh.None ∙ does c goes_to.way (behind c same) there)
        (made_on change) (objects_on change) (set_shows c.mutexes m (Some new) old (λ u. (state_of s2).mutex u) there new_is (λ u ne. shown.mutexes u ∙ mutexes_on change u ne))
        (λ u. given_set c.mutexes m (Some new) u ∙ shown.given u ∙ mutex_given k Others G1 G2 n y (after y (y.pc + 1) slots temps) (one_mutex.beside k Others G1 G2 n y (y.pc + 1) slots temps change.calm change.loose change.loose_then change.lone) (one_mutex.beside2 k Others G1 G2 n y (y.pc + 1) slots temps change.calm change.loose change.loose_then change.lone) change.lone (one_mutex.locks k Others G1 G2 n y (y.pc + 1) slots temps change.calm change.loose change.loose_then change.lone) made1 u)

    pub soon : Soon k co.sound e i single s t y a [] h2
    soon = record {
      ready_hand = h;
      ready = ready_h;
      moves = subst (λ r. Moves [] [] h.work.rest r) (sym rest) (same_rest h.work.rest);
      slots = slots;
      temps = temps;
      thread = thread;
      loose_too = tt;
      unstray = refl;
      once = once_here;
      steps = steps_here;
    }
