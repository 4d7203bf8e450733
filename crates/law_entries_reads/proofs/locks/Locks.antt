-- Locks through stars that take their content.
use Rattle.std.proofs.Common.{◌≡◌, ℕ, true, false, [], ◌∷◌, ◌++◌, Option, Some, None, is_some, refl, sym, ap, subst, ◌∙◌}
use Rattle.std.specs.Prelude.{slice_get, option_map}
use Rattle.law_entries_reads.specs.Below.law_words_borrows.Below.fr_base.declared.name.MutexNo.{MutexNo}
use Rattle.law_entries_reads.specs.Below.law_words_borrows.Below.fr_base.declared.place.Lval.{Lval}
use Rattle.law_entries_reads.specs.Below.law_words_borrows.Below.fr_base.declared.step.Fresh.TheVariants as fresh
use Rattle.law_entries_reads.specs.Below.law_words_borrows.Below.fr_base.declared.instruction.Instr.{Instr}
use Rattle.law_entries_reads.specs.Below.law_words_borrows.Below.fr_base.declared.instruction.Instr.TheVariants as instr
use Rattle.law_entries_reads.specs.Below.law_words_borrows.Below.fr_base.declared.label.Label.TheVariants as label
use Rattle.law_entries_reads.specs.Below.law_words_borrows.Below.heap_partition.declared.value.Owned.{Owned}
use Rattle.law_entries_reads.specs.Below.law_words_borrows.Below.heap_partition.declared.value.Owned.TheVariants as owned
use Rattle.law_entries_reads.specs.Below.law_entries_variables.Below.migration.Packing.{unpinned}
use Rattle.law_entries_reads.specs.Below.law_words_borrows.Below.thread_state.View.{ThreadState}
use Rattle.law_entries_reads.specs.Below.law_words_borrows.Below.thread_state.declared.value.Value.{Value}
use Rattle.law_entries_reads.specs.Below.law_words_borrows.Below.thread_state.declared.value.Value.TheVariants as value
use Rattle.law_entries_reads.specs.Below.law_words_borrows.Below.server_model.declared.event.Event.{Event}
use Rattle.law_entries_reads.specs.Below.law_words_borrows.Below.server_model.declared.event.What.TheVariants.{Step}
use Rattle.law_entries_reads.specs.Below.law_words_borrows.Below.server_model.Servers.{Server, Cluster, server_at}
use Rattle.law_entries_reads.specs.Below.law_words_borrows.Below.server_model.Work.{Hand, thread_in, without_thread, then_some, mutex_of}
use Rattle.law_entries_reads.specs.Below.law_words_borrows.Below.server_model.Places.{Spot, in_slot, value_at, cell_at, load_of, load_at}
use Rattle.law_entries_reads.specs.Below.law_words_borrows.Below.server_model.Prepare.{ready, read_stars}
use Rattle.law_entries_reads.specs.Below.law_words_borrows.Below.server_model.Commit.{waiting, goes_on, take_gift, mutex_at, ask_lock, push_content, lock}
use Rattle.law_entries_reads.specs.Below.law_words_borrows.Below.server_model.Events.{can_step, begin_work, Stepped, committed, prepared, step, stepped}
use Rattle.law_entries_reads.specs.Below.law_entries_variables.Below.coloured_heap.Heap.{Coloured}
use Rattle.law_entries_reads.specs.Below.law_words_borrows.Below.coherent_memory.Things.{servers_things}
use Rattle.law_entries_reads.specs.Below.law_words_borrows.Below.coherent_memory.Follow.{value_in, value_behind}
use Rattle.law_entries_reads.specs.Below.law_words_borrows.Below.coherent_memory.Sight.{sight}
use Rattle.law_entries_reads.specs.Below.law_words_borrows.Below.coherent_memory.Requests as requests
use Rattle.law_entries_reads.specs.Below.law_words_borrows.Below.coherent_memory.Requests.{locked_mutex}
use Rattle.law_entries_reads.specs.Below.law_words_borrows.Below.coherent_memory.Colours.{StandsColoured}
use Rattle.law_entries_reads.specs.Below.law_words_borrows.Below.coherent_types.ClusterTypes.{IsCoherent}
use Rattle.law_entries_reads.specs.Below.law_words_borrows.Below.law_counts_sums.Laws.{Gives, FewEvents}
use Rattle.law_entries_reads.proofs.Below.law_words_borrows.Below.law_counts_sums.Results.{both_give}
use Rattle.law_entries_reads.proofs.Below.law_words_borrows.Below.law_counts_sums.RulesKeep.{sums_kept, sums_spend}
use Rattle.law_entries_reads.proofs.Below.law_words_borrows.Below.law_counts_sums.Bags.{all_standing}
use Rattle.law_entries_reads.proofs.Below.law_words_borrows.Below.law_counts_sums.Events.{others_of}
use Rattle.law_entries_reads.proofs.Below.law_words_borrows.Below.law_counts_sums.Steps.{step_keeps}
use Rattle.law_entries_reads.specs.Below.law_words_borrows.Below.law_words_paths.words.Reworded.{HasPlaces}
use Rattle.law_entries_reads.proofs.Below.law_words_borrows.Below.law_words_paths.words.Unmoved.{untouched_stays}
use Rattle.law_entries_reads.specs.Below.law_words_borrows.Below.law_words_kept.reads.Reading.{locks as reads_lock}
use Rattle.law_entries_reads.proofs.Below.law_words_borrows.Below.law_words_kept.stays.Seen.{seen_alike}
use Rattle.law_entries_reads.proofs.Below.law_words_borrows.Below.law_words_kept.stays.Steps.{TakesNoneHere, untaken_here}
use Rattle.law_entries_reads.proofs.Below.law_words_borrows.Below.law_words_kept.prepared.Asking.{found_number}
use Rattle.law_entries_reads.proofs.Below.law_words_borrows.Below.law_words_kept.prepared.Untaken.{not_taken}
use Rattle.law_entries_reads.proofs.Below.law_words_borrows.Below.law_heap_steps.turns.Events.{AtStep}
use Rattle.law_entries_reads.proofs.Below.law_words_borrows.Below.law_heap_steps.turns.ReadWalk.{seen_value}
use Rattle.law_entries_reads.proofs.Below.law_words_values.carried.Hands.{words_go, Moved, Ok, put, first_ok, places, moved_goes, leaves_chain}
use Rattle.law_entries_reads.proofs.Below.law_words_values.carried.Steps.{goes_over}
use Rattle.law_entries_reads.proofs.Below.law_entries_variables.still.PlainSteps.{lives}
use Rattle.law_entries_variables.proofs.variables.InStep.{by_number}
use Rattle.law_entries_reads.specs.places.Reads.{DoneLegal, DoneStepsLegal}
use Rattle.law_entries_reads.proofs.places.Standing.{Loads, loads_both}
use Rattle.law_entries_reads.proofs.places.Hops.{and_then_ready}
use Rattle.law_entries_reads.proofs.places.Still.{still_loads, Walked}
use Rattle.law_entries_reads.proofs.places.Done.{Kept, Left, done_from}
use Rattle.law_entries_reads.proofs.places.Steps.{Words, EndsSo, led_legal, at_step}
use Rattle.law_entries_reads.proofs.places.Following.{Follows, follows_to}
use Rattle.law_entries_reads.proofs.places.Dups.{value_there, cell_without}
use Rattle.law_entries_reads.specs.locks.Locks.{LocksPlace, locks}
use Rattle.law_entries_reads.proofs.locks.Contents.{content_unpinned, contented, takes_content}
use Rattle.law_entries_reads.proofs.locks.Marks.{Locked, locked_led}

-- the mutex that a value is, whatever pins it has
same_mutex : (v u : Value) (m : MutexNo) → unpinned v ≡ unpinned u → then_some (Some v) mutex_of ≡ Some m → requests.mutex_of (Some u) ≡ Some m
same_mutex v u m e q = unpins u ∙ ap (λ x. requests.mutex_of (Some x)) (sym e) ∙ sym (unpins v) ∙ alike v ∙ q
  where
    unpins : (x : Value) → requests.mutex_of (Some x) ≡ requests.mutex_of (Some (unpinned x))
    unpins value.Gone = refl
    unpins (value.Own o) = refl
    unpins (value.SharedSlot i) = refl
    unpins (value.MutSlot i) = refl
    unpins (value.Shared r) = refl
    unpins (value.Mut r) = refl
    unpins (value.Held c) = refl

    alike : (x : Value) → requests.mutex_of (Some x) ≡ mutex_of x
    alike (value.Own (owned.Mutex c)) = refl
    alike (value.Own owned.Nothing) = refl
    alike (value.Own owned.Unit) = refl
    alike (value.Own (owned.Int i)) = refl
    alike (value.Own (owned.Box b)) = refl
    alike (value.Own (owned.Task c)) = refl
    alike value.Gone = refl
    alike (value.SharedSlot i) = refl
    alike (value.MutSlot i) = refl
    alike (value.Shared r) = refl
    alike (value.Mut r) = refl
    alike (value.Held c) = refl

module _ (k : Cluster) (co : IsCoherent k) (few : FewEvents k) (w : Lval) (s : Server) (here : server_at k.servers s.rest.number ≡ Some s) (t : ℕ) (y : ThreadState) (at : thread_in s.threads t ≡ Some y) (code : slice_get k.code y.pc ≡ Some (instr.Lock w)) (c0 : Coloured) (is_coloured : StandsColoured k c0)
    (on : can_step y.phase ≡ true) where
  abbrev n : ℕ
  n = s.rest.number

  abbrev i : Instr
  i = instr.Lock w

  abbrev e : Event
  e = record { server = n; what = Step t }

  abbrev h0 : Hand
  h0 = record { work = begin_work s.rest; thread = y }

  abbrev a : AtStep k e i s t y
  a = at_step k co.sound few n t s y i here at code c0 is_coloured on

  abbrev IsLocked : Stepped → Type 0
  IsLocked = Locked k c0 s y w

  -- what is known of a step that is done
  abbrev Known : Stepped → Type 0
  Known d = IsLocked d × Moved k.code n h0 d.hand

  abbrev End : Stepped → Type 0
  End d = is_some d.names ≡ true → Known d

  abbrev Follow : Hand → Spot → Type 0
  Follow = Follows k co e i s t y a c0 is_coloured w w.depth (reads_lock refl)

  none : TakesNoneHere k.code y
  none = untaken_here y.number y.phase (slice_get k.code y.pc) (not_taken k co.sound n s here t y at i code refl)

  -- without its gift it asks
  asks : (h : Hand) (f : Option MutexNo) → Gives End (committed (waiting (option_map (ask_lock h) f)))
  asks h None = tt
  asks h (Some m) = λ q. absurd (cc q)

  -- with its content in a new slot
  kept : (h : Hand) (p : Spot) (v : Owned) (m : MutexNo) → Walked k.options c0 s y h p → Kept k.options c0 s (contented y m v) (push_content v (load_at p (take_gift h)) m)
  kept h p v m q =
      let l = still_loads k.options c0 s y h p q in record {
        rest = l.rest;
        copies = l.copies;
        number = ap (λ (z : ThreadState). z.number) l.thread;
        slots = content_unpinned h.thread.slots y.slots m v l.slots;
        gift = refl;
        acts = l.acts;
        labels = subst (λ f. Loads n c0 ((h.work.labels ++ load_of f) ++ label.Lock m ∷ [])) (sym (cell_without h p)) (loads_both n c0 (h.work.labels ++ load_of (cell_at h p)) (label.Lock m ∷ []) l.labels (refl, λ x own. refl));
      }

  -- the mutex at the place
  its : (h : Hand) (p : Spot) (m : MutexNo) (v : Value) → Follow h p → value_at h p ≡ Some v → mutex_at h p ≡ Some m → locked_mutex (sight k) (record { server = n; packed = false; thread = y }) (Some i) ≡ Some m
  its h p m v f q is =
      let r = (f v q).1 in
      let u = seen_value (value_in (sight k).ground r.location) v (sym (ap (option_map unpinned) q) ∙ r.seen) in
      ap (λ l. requests.mutex_of (value_behind (sight k).ground l)) r.located ∙ ap requests.mutex_of u.1 ∙ same_mutex v u.0 m u.2 (ap (λ x. then_some x mutex_of) (sym q) ∙ is)

  -- the content is taken
  takes : (h : Hand) (p : Spot) (v : Owned) → h.thread.gift ≡ Some v → Follow h p → (f : Option MutexNo) → mutex_at h p ≡ f → Gives End (committed (goes_on (option_map (push_content v (load_at p (take_gift h))) f)))
  takes h p v gift f None q = tt
  takes h p v gift f (Some m) q =
      let u = value_there (value_at h p) m q in
      let g : Walked k.options c0 s y h p = (f u.0 u.1).0 in
      let given : y.gift ≡ Some v = sym (ap (λ (z : ThreadState). z.gift) g.still.thread) ∙ gift in
      let h2 : Hand = push_content v (load_at p (take_gift h)) m in
      both_give (Left k.options c0 s (contented y m v)) (λ (d : Stepped). Moved k.code n h0 d.hand) End (committed (goes_on (Some h2))) (done_from k.options c0 s (contented y m v) (Some h2) (kept h p v m g))
      (goes_over k.code n h0 fresh.None (Some h2) (takes_content k.code k.options c0 s y v given none w h p m g.still))
      (λ d l moved named. (record { mutex = m; content = v; given = given; its = its h p m u.0 f u.1 q; left = l }, moved))

  -- as there is a gift or none
  by_gift : (h : Hand) (p : Spot) → Follow h p → (f : Option Owned) → h.thread.gift ≡ f → Gives End (committed (lock p f h))
  by_gift h p f None q = asks h (mutex_at h p)
  by_gift h p f (Some v) q = takes h p v q f (mutex_at h p) refl

  -- the step
  lock_ends : Gives End (step k.options.servers i h0)
  lock_ends =
      subst (λ x. Gives End (prepared k.options.servers i x)) (and_then_ready (read_stars w.depth h0 (in_slot w.slot)))
      (follows_to k co e i s t y a c0 is_coloured w w.depth (reads_lock refl) Known k.options.servers ready (λ h p f. by_gift h p f h.thread.gift refl))

  -- WORDS

  ok_steps : Gives (λ (d : Stepped). Ok k co.sound s here t y at d.hand) (step k.options.servers i h0)
  ok_steps = step_keeps sums_kept n s.events t (all_standing n (without_thread s.threads t) ++ servers_things (others_of k.servers n)) k.options.servers i h0 tt (λ z. sums_spend) (first_ok k co.sound s here t y at)

  -- the words stay
  words_left : (d : Stepped) → Ok k co.sound s here t y at d.hand → Moved k.code n h0 d.hand → Words k co.sound few n t s y i here at code c0 is_coloured (stepped s d).0
  words_left d ok moved c there same alike =
      let mid : Cluster = put k co.sound s here t y at d.hand in
      let placed : HasPlaces mid = places k co.sound s here t y at d.hand ok in
      leaves_chain (moved_goes k co.sound s here t y at words_go d.hand ok moved) (untouched_stays mid c placed there (seen_alike mid c placed there same alike))

  -- what is left
  pub lock_leaves : Gives (EndsSo k co.sound few n t s y i here at code c0 is_coloured IsLocked) (step k.options.servers i h0)
  lock_leaves =
      both_give End (λ (d : Stepped). Ok k co.sound s here t y at d.hand) (EndsSo k co.sound few n t s y i here at code c0 is_coloured IsLocked) (step k.options.servers i h0) lock_ends ok_steps
      (λ d end ok named. let known = end named in (known.0, words_left d ok known.1))

-- each lock
lock_here : (k : Cluster) (t : ℕ) (s : Server) (y : ThreadState) (w : Lval) → IsCoherent k → FewEvents k → server_at k.servers s.rest.number ≡ Some s → thread_in s.threads t ≡ Some y → slice_get k.code y.pc ≡ Some (instr.Lock w) → DoneLegal k (record { server = s.rest.number; what = Step t })
lock_here k t s y w co few here at code c0 is_coloured =
    led_legal k co.sound few s.rest.number t s y (instr.Lock w) here at code c0 is_coloured (Locked k c0 s y w) (λ on. lock_leaves k co few w s here t y at code c0 is_coloured on)
    (λ d on q. locked_led k co.sound s here c0 is_coloured y (by_number s t y at) (lives y.phase on) w code d q)

-- at whichever server
lock_legal : (k : Cluster) (number t : ℕ) (s : Server) (y : ThreadState) (w : Lval) → IsCoherent k → FewEvents k → server_at k.servers number ≡ Some s → thread_in s.threads t ≡ Some y → slice_get k.code y.pc ≡ Some (instr.Lock w) → DoneLegal k (record { server = number; what = Step t })
lock_legal k number t s y w co few here at code =
    subst (λ i. server_at k.servers i ≡ Some s → DoneLegal k (record { server = i; what = Step t })) (found_number number k.servers s here) (λ h. lock_here k t s y w co few h at code) here

-- so their entries are legal
pub locks_legal : DoneStepsLegal LocksPlace
locks_legal k number t s y _ co few here at code (locks w) = lock_legal k number t s y w co few here at code
