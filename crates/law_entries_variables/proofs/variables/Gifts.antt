-- A lock of the mutex in a variable takes its content, and a dup of it a share.
use Rattle.std.proofs.Common.{◌≡◌, ◌⊎◌, inl, inr, ℕ, ◌+◌, ◌==◌, Bool, true, false, List, [], ◌∷◌, ◌++◌, length, Option, Some, None, is_some, refl, sym, ap, subst, ◌∙◌, arith}
use Rattle.std.specs.Prelude.{slice_get, option_map}
use Rattle.law_words_ends.specs.Below.fr_base.declared.name.MutexNo.{MutexNo}
use Rattle.law_words_ends.specs.Below.fr_base.declared.label.Label.TheVariants as label
use Rattle.law_words_ends.specs.Below.fr_base.declared.place.Lval.{Lval}
use Rattle.law_words_ends.specs.Below.fr_base.declared.instruction.Instr.{Instr}
use Rattle.law_words_ends.specs.Below.fr_base.declared.instruction.Instr.TheVariants as instr
use Rattle.law_words_ends.specs.Below.fr_base.declared.step.Fresh.TheVariants as fresh
use Rattle.law_words_ends.specs.Below.heap_partition.declared.value.Owned.{Owned}
use Rattle.law_words_ends.specs.Below.heap_partition.declared.value.Owned.TheVariants as owned
use Rattle.law_words_ends.specs.Below.thread_state.View.{ThreadState, is_over}
use Rattle.law_words_ends.specs.Below.thread_state.declared.phase.Phase.{Phase}
use Rattle.law_words_ends.specs.Below.thread_state.declared.phase.Phase.TheVariants as phase
use Rattle.law_words_ends.specs.Below.thread_state.declared.value.Value.{Value}
use Rattle.law_words_ends.specs.Below.thread_state.declared.value.Value.TheVariants as value
use Rattle.law_words_ends.specs.Below.journal.View.{EntryView}
use Rattle.law_words_ends.specs.Below.server_model.declared.event.What.TheVariants.{Step}
use Rattle.law_words_ends.specs.Below.server_model.Servers.{Server, Cluster, server_at}
use Rattle.law_words_ends.specs.Below.server_model.Clusters.{apply}
use Rattle.law_words_ends.specs.Below.server_model.Work.{Hand, mutex_of, then_some, push_temp, label_all, working, without_thread, thread_in}
use Rattle.law_words_ends.specs.Below.server_model.Places.{in_slot, load_at}
use Rattle.law_words_ends.specs.Below.server_model.Prepare.{read_stars}
use Rattle.law_words_ends.specs.Below.server_model.Commit.{take_gift, mutex_at, push_content, lock, dup}
use Rattle.law_words_ends.specs.Below.server_model.Events.{Stepped, begin_work, prepared, committed, step, stepped}
use Rattle.law_entries_variables.specs.Below.coloured_heap.Heap.{Coloured}
use Rattle.law_entries_variables.proofs.Below.coloured_heap.ShownNames.{mutex_flip}
use Rattle.law_words_ends.specs.Below.coherent_memory.Names.{one, some, if_so, same_mutex}
use Rattle.law_words_ends.specs.Below.coherent_memory.Things.{at_slot, Thing, locks, stands, slot_things, thread_things, servers_things}
use Rattle.law_words_ends.specs.Below.coherent_memory.Follow.{Standing, value_behind, slot_of, locate}
use Rattle.law_words_ends.specs.Below.coherent_memory.Sight.{sight}
use Rattle.law_words_ends.specs.Below.coherent_memory.Requests as requests
use Rattle.law_words_ends.specs.Below.coherent_memory.Requests.{is_mutex, locked_mutex}
use Rattle.law_words_ends.specs.Below.coherent_memory.OneHeap.{or_else}
use Rattle.law_words_ends.specs.Below.coherent_memory.Colours.{StandsColoured}
use Rattle.law_words_ends.specs.Below.coherent_memory.Coherent.{IsSound}
use Rattle.law_words_ends.specs.Below.law_counts_sums.Kinds.{instr_kind}
use Rattle.law_words_ends.specs.Below.law_counts_sums.Laws.{Gives, FewEvents}
use Rattle.law_words_ends.proofs.Below.law_counts_sums.Trades.{tot-push}
use Rattle.law_words_ends.proofs.Below.law_counts_sums.Results.{map_gives}
use Rattle.law_words_ends.proofs.Below.law_counts_sums.Proved.{IsProvedKind}
use Rattle.law_words_ends.proofs.Below.law_counts_sums.RulesKeep.{sums_kept, sums_spend}
use Rattle.law_words_ends.proofs.Below.law_counts_sums.Bags.{all_standing, body_things}
use Rattle.law_words_ends.proofs.Below.law_counts_sums.Events.{others_of}
use Rattle.law_words_ends.proofs.Below.law_counts_sums.Steps.{step_keeps}
use Rattle.law_words_ends.proofs.Below.law_counts_sums.ThreadThere.{thread_there}
use Rattle.law_entries_variables.proofs.Below.law_heap_still.events.Told.{told}
use Rattle.law_words_ends.specs.Below.law_words_paths.words.Unmoved.{pointing, taking_by, LeavesWords}
use Rattle.law_words_ends.proofs.Below.law_words_kept.prepared.Asking.{found_number}
use Rattle.law_words_ends.proofs.Below.law_words_kept.stays.Alike.{itself}
use Rattle.law_words_ends.proofs.Below.law_words_kept.stays.Steps.{TakesNoneHere}
use Rattle.law_words_ends.proofs.Below.law_words_values.carried.Passing.{slot, temp, nowhere}
use Rattle.law_words_ends.proofs.Below.law_words_values.carried.Places.{gift_to_temp}
use Rattle.law_words_ends.proofs.Below.law_words_values.carried.Hands.{words_go, Moved, Ok, h0, first_ok, moved_goes, passed, left_by, step_by}
use Rattle.law_words_ends.proofs.Below.law_words_values.carried.Steps.{Does, goes_over}
use Rattle.law_words_ends.proofs.Below.law_words_values.carried.Locks.{content_taken}
use Rattle.law_entries_variables.proofs.deliveries.Shown.{if_some, holder_by}
use Rattle.law_entries_variables.proofs.still.PlainSteps.{lives}
use Rattle.law_entries_variables.proofs.still.Settled.{none_held}
use Rattle.law_entries_variables.specs.variables.Steps.{StepsLegal, TakesGift, locks_variable, dups_variable}
use Rattle.law_entries_variables.proofs.variables.Slots.{slot_unseen}
use Rattle.law_entries_variables.proofs.variables.Turning.{Turning, begins, rethreaded, reslotted, labelled}
use Rattle.law_entries_variables.proofs.variables.Led.{LedWith, Steps, goes_on_led}
use Rattle.law_entries_variables.proofs.variables.InStep.{by_number, step_legal}
use Rattle.law_entries_variables.proofs.variables.Joins.{unheld}
use Rattle.law_entries_variables.proofs.variables.Quiets.{runs_on, silent_steps, quiet_steps}

-- WORDS

lock_untaken : (t : ℕ) (p : Phase) (w : Lval) → taking_by t p (Some (instr.Lock w)) ≡ None
lock_untaken t (phase.Taken v) w = refl
lock_untaken t _ w = refl

dup_untaken : (t : ℕ) (p : Phase) (w : Lval) → taking_by t p (Some (instr.Dup w)) ≡ None
dup_untaken t (phase.Taken v) w = refl
dup_untaken t _ w = refl

-- a share becomes a temporary value
share_taken : (code : List Instr) (n : ℕ) (h : Hand) → TakesNoneHere code h.thread → (v : Owned) → h.thread.gift ≡ Some v → (i : ℕ) → Does code n h (push_temp (value.Own v) (load_at (in_slot i) (take_gift h)))
share_taken code n h none v given i =
    let x : ThreadState = h.thread in
    let z : ThreadState = record x { gift = None; temps = x.temps ++ value.Own v ∷ [] } in record {
      moved = passed x z refl (itself (thread_things n false x)) (λ o. refl) (gift_to_temp code n x none v given) (λ j q. blind j q) (record { number = refl; named = refl; alike = itself (thread_things n false z ++ body_things n h.work.rest) });
      untaken = none;
    }
  where
    blind : (j : ℕ) → (slot j ≡ nowhere) ⊎ (slot j ≡ temp (length h.thread.temps)) → pointing (slice_get h.thread.slots j) ≡ None
    blind j (inl q) = absurd cc
    blind j (inr q) = absurd cc

module _ (k : Cluster) (sound : IsSound k) (s : Server) (here : server_at k.servers s.rest.number ≡ Some s) (t : ℕ) (y : ThreadState) (at : thread_in s.threads t ≡ Some y) (w : Lval) (flat : w.depth ≡ 0) (v : Owned) (given : y.gift ≡ Some v) where
  abbrev sn : ℕ
  sn = s.rest.number

  abbrev hand : Hand
  hand = h0 k sound s here t y at

  abbrev M : Stepped → Type 0
  M d = Moved k.code sn hand d.hand

  ok_steps : (i : Instr) → IsProvedKind (instr_kind i) → Gives (λ (d : Stepped). Ok k sound s here t y at d.hand) (step k.options.servers i hand)
  ok_steps i p = step_keeps sums_kept sn s.events t (all_standing sn (without_thread s.threads t) ++ servers_things (others_of k.servers sn)) k.options.servers i hand p (λ z. sums_spend) (first_ok k sound s here t y at)

  untaken : (i : Instr) → slice_get k.code y.pc ≡ Some i → taking_by y.number y.phase (Some i) ≡ None → TakesNoneHere k.code y
  untaken i code e = subst (λ j. taking_by y.number y.phase j ≡ None) (sym code) e

  lock_moves : slice_get k.code y.pc ≡ Some (instr.Lock w) → Gives M (step k.options.servers (instr.Lock w) hand)
  lock_moves code =
      subst (λ d. Gives M (prepared k.options.servers (instr.Lock w) (read_stars d hand (in_slot w.slot)))) (sym flat)
      (subst (λ g. Gives M (committed (lock (in_slot w.slot) g hand))) (sym given)
      (goes_over k.code sn hand fresh.None (option_map (push_content v (load_at (in_slot w.slot) (take_gift hand))) (mutex_at hand (in_slot w.slot)))
      (map_gives (Does k.code sn hand) (mutex_at hand (in_slot w.slot)) (push_content v (load_at (in_slot w.slot) (take_gift hand))) (λ c q. content_taken k.code sn hand (untaken (instr.Lock w) code (lock_untaken y.number y.phase w)) c v given (in_slot w.slot)))))

  dup_moves : slice_get k.code y.pc ≡ Some (instr.Dup w) → Gives M (step k.options.servers (instr.Dup w) hand)
  dup_moves code =
      subst (λ d. Gives M (prepared k.options.servers (instr.Dup w) (read_stars d hand (in_slot w.slot)))) (sym flat)
      (subst (λ g. Gives M (committed (dup (in_slot w.slot) g hand))) (sym given)
      (goes_over k.code sn hand fresh.None (option_map (λ m. push_temp (value.Own v) (load_at (in_slot w.slot) (take_gift hand))) (mutex_at hand (in_slot w.slot)))
      (map_gives (Does k.code sn hand) (mutex_at hand (in_slot w.slot)) (λ m. push_temp (value.Own v) (load_at (in_slot w.slot) (take_gift hand))) (λ c q. share_taken k.code sn hand (untaken (instr.Dup w) code (dup_untaken y.number y.phase w)) v given w.slot))))

  module _ (few : FewEvents k) where
    lock_leaves : slice_get k.code y.pc ≡ Some (instr.Lock w) → Gives (λ (d : Cluster × EntryView). LeavesWords k d.0) (apply k (record { server = sn; what = Step t }))
    lock_leaves code =
        left_by words_go k s t sound few here (λ on. step_by LeavesWords k sound s here t y at (instr.Lock w) code (Moved k.code sn hand) (moved_goes k sound s here t y at words_go) (ok_steps (instr.Lock w) tt) (lock_moves code))

    dup_leaves : slice_get k.code y.pc ≡ Some (instr.Dup w) → Gives (λ (d : Cluster × EntryView). LeavesWords k d.0) (apply k (record { server = sn; what = Step t }))
    dup_leaves code =
        left_by words_go k s t sound few here (λ on. step_by LeavesWords k sound s here t y at (instr.Dup w) code (Moved k.code sn hand) (moved_goes k sound s here t y at words_go) (ok_steps (instr.Dup w) tt) (dup_moves code))

-- THE STEP

same_mutex_of : (o : Option Value) → requests.mutex_of o ≡ then_some o mutex_of
same_mutex_of None = refl
same_mutex_of (Some (value.Own (owned.Mutex m))) = refl
same_mutex_of (Some (value.Own owned.Nothing)) = refl
same_mutex_of (Some (value.Own owned.Unit)) = refl
same_mutex_of (Some (value.Own (owned.Int i))) = refl
same_mutex_of (Some (value.Own (owned.Box b))) = refl
same_mutex_of (Some (value.Own (owned.Task u))) = refl
same_mutex_of (Some value.Gone) = refl
same_mutex_of (Some (value.SharedSlot i)) = refl
same_mutex_of (Some (value.MutSlot i)) = refl
same_mutex_of (Some (value.Shared r)) = refl
same_mutex_of (Some (value.Mut r)) = refl
same_mutex_of (Some (value.Held m)) = refl

-- or nothing
pub or_none : (b : Bool) (i : ℕ) (g : ℕ → ℕ) → told g (or_else (if_some b i) None) ≡ told g (if_some b i)
or_none true i g = refl
or_none false i g = refl

some_one : (b : Bool) → some (one b) ≡ b
some_one true = refl
some_one false = refl

module _ (k : Cluster) (sound : IsSound k) (number : ℕ) (s : Server) (here : server_at k.servers number ≡ Some s) (c0 : Coloured) (is_coloured : StandsColoured k c0) (y : ThreadState) (at : thread_in s.threads y.number ≡ Some y) (live : is_over y.phase ≡ false) (w : Lval) (flat : w.depth ≡ 0) (v : Owned) (given : y.gift ≡ Some v) where
  abbrev n : ℕ
  n = s.rest.number

  abbrev t : ℕ
  t = y.number

  abbrev start : Hand
  start = record { work = begin_work s.rest; thread = y }

  abbrev bare : ThreadState
  bare = record y { gift = None }

  abbrev P : Hand → Type 0
  P = Steps (LeavesWords k) k s y c0 fresh.None false

  abbrev Done : Stepped → Type 0
  Done d = LedWith (LeavesWords k) k s c0 (stepped s d)

  abbrev loaded : Hand
  loaded = load_at (in_slot w.slot) (take_gift start)

  taken : Turning s y [] [] [] loaded
  taken = labelled s y [] [] [] (take_gift start) (rethreaded s y [] [] [] start (begins s y) bare refl refl) [] refl

  module _ (m : MutexNo) (q : mutex_at start (in_slot w.slot) ≡ Some m) where
    abbrev me : Standing
    me = record { server = n; packed = false; thread = y }

    -- the mutex at its place
    locked : locked_mutex (sight k) me (Some (instr.Lock w)) ≡ Some m
    locked =
        ap (λ d. requests.mutex_of (value_behind (sight k).ground (locate (sight k).ground t w.slot d))) flat ∙ ap (λ o. requests.mutex_of (slot_of o w.slot)) (thread_there k sound number s here t y at) ∙ same_mutex_of (slice_get y.slots w.slot) ∙ q

    abbrev mark : Thing
    mark = locks (at_slot t (0 + length y.slots)) m

    -- the content was held by the gift, and is by the mark
    held_so : slice_get k.code y.pc ≡ Some (instr.Lock w) → (x : MutexNo) (g : ℕ → ℕ) → told g (holder_by (sight k) x (stands n false y)) ≡ told g (holder_by (sight k) x mark)
    held_so code x g =
        ap (λ o. told g (if_some (some (if_so (is_some o) (one (is_mutex x (locked_mutex (sight k) me (slice_get k.code y.pc)))))) t)) given ∙ ap (λ j. told g (if_some (some (one (is_mutex x (locked_mutex (sight k) me j)))) t)) code
        ∙ ap (λ j. told g (if_some (some (one (is_mutex x j))) t)) locked ∙ ap (λ b. told g (if_some b t)) (some_one (same_mutex x m) ∙ mutex_flip x m) ∙ sym (or_none (same_mutex m x) t g)

    lock_steps : slice_get k.code y.pc ≡ Some (instr.Lock w) → P (push_content v loaded m)
    lock_steps code =
        let h1 : Hand = working (label_all (label.Lock m ∷ [])) loaded in
        let t1 : Turning s y [] [] [] h1 = labelled s y [] [] [] loaded taken (label.Lock m ∷ []) refl in
        let vs : List Value = (y.slots ++ value.Held m ∷ []) ++ value.Own v ∷ [] in
        silent_steps k sound number s here c0 is_coloured y at live (push_content v loaded m) [] (mark ∷ [])
        (reslotted s y [] [] [] h1 t1 vs [] (mark ∷ []) (λ f i.
        omega (arith, tot-push (slot_things 0 t) f (y.slots ++ value.Held m ∷ []) 0 (value.Own v), slot_unseen f i 0 t (0 + length (y.slots ++ value.Held m ∷ [])) (value.Own v) tt, tot-push (slot_things 0 t) f y.slots 0 (value.Held m)))) refl
        (record { objects = λ o g. refl; drops = λ o. refl; copies = λ r i g. refl; served = λ b. refl; issued = λ h r i. refl; wishes = λ b. refl }) (λ u. refl) (λ h u. refl) refl (λ z named on free. record {
          aside = record { objects = λ o g. refl; drops = λ o. refl; copies = λ r i g. refl; served = λ b. refl; issued = λ h r i. refl; wishes = λ b. refl };
          started = λ r i. refl;
          made = λ r i. refl;
          threads = λ u. ap (λ i. one (i == u) + 0) (sym named);
          running = λ u g. let same = runs_on k sound number s here c0 is_coloured y at live z named on u g in omega (arith, same);
          there = λ x. omega arith;
          holders = λ x g. omega (arith, held_so code x g, none_held k sound number s here c0 is_coloured t y at live z free x g);
        })

  locks_led : (servers : ℕ) → slice_get k.code y.pc ≡ Some (instr.Lock w) → Gives Done (step servers (instr.Lock w) start)
  locks_led servers code =
      subst (λ d. Gives Done (prepared servers (instr.Lock w) (read_stars d start (in_slot w.slot)))) (sym flat)
      (subst (λ g. Gives Done (committed (lock (in_slot w.slot) g start))) (sym given)
      (goes_on_led (LeavesWords k) k s y at c0 fresh.None (option_map (push_content v loaded) (mutex_at start (in_slot w.slot))) (map_gives P (mutex_at start (in_slot w.slot)) (push_content v loaded) (λ m q. lock_steps m q code))))

  dups_led : (servers : ℕ) → slice_get k.code y.pc ≡ Some (instr.Dup w) → Gives Done (step servers (instr.Dup w) start)
  dups_led servers code =
      subst (λ d. Gives Done (prepared servers (instr.Dup w) (read_stars d start (in_slot w.slot)))) (sym flat)
      (subst (λ g. Gives Done (committed (dup (in_slot w.slot) g start))) (sym given)
      (goes_on_led (LeavesWords k) k s y at c0 fresh.None (option_map (λ m. push_temp (value.Own v) loaded) (mutex_at start (in_slot w.slot)))
      (map_gives P (mutex_at start (in_slot w.slot)) (λ m. push_temp (value.Own v) loaded) (λ m q.
      quiet_steps k sound number s here c0 is_coloured y at live (push_temp (value.Own v) loaded) (rethreaded s y [] [] [] loaded taken (record bare { temps = y.temps ++ value.Own v ∷ [] }) refl refl) refl (unheld k n y (instr.Dup w) code refl)))))

-- so their entries are legal
pub gifts_legal : StepsLegal TakesGift
gifts_legal k number t s y _ coherent few here at code (locks_variable w v flat given) =
    step_legal (LeavesWords k) k number t s y (instr.Lock w) coherent.sound few here at code
    (subst (λ i. server_at k.servers i ≡ Some s → Gives (λ (d : Cluster × EntryView). LeavesWords k d.0) (apply k (record { server = i; what = Step t }))) (found_number number k.servers s here) (λ h. lock_leaves k coherent.sound s h t y at w flat v given few code) here)
    (λ c0 is_coloured calm. locks_led k coherent.sound number s here c0 is_coloured y (by_number s t y at) (lives y.phase calm) w flat v given k.options.servers code)
gifts_legal k number t s y _ coherent few here at code (dups_variable w v flat given) =
    step_legal (LeavesWords k) k number t s y (instr.Dup w) coherent.sound few here at code
    (subst (λ i. server_at k.servers i ≡ Some s → Gives (λ (d : Cluster × EntryView). LeavesWords k d.0) (apply k (record { server = i; what = Step t }))) (found_number number k.servers s here) (λ h. dup_leaves k coherent.sound s h t y at w flat v given few code) here)
    (λ c0 is_coloured calm. dups_led k coherent.sound number s here c0 is_coloured y (by_number s t y at) (lives y.phase calm) w flat v given k.options.servers code)
