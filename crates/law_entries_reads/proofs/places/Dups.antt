-- Dups through stars that take their share.
use Rattle.std.proofs.Common.{◌≡◌, ℕ, Bool, true, false, [], ◌∷◌, ◌++◌, Option, Some, None, is_some, refl, sym, ap, subst, ◌∙◌}
use Rattle.std.specs.Prelude.{slice_get, option_map}
use Rattle.law_copies_kept.specs.Below.fr_base.declared.name.MutexNo.{MutexNo}
use Rattle.law_copies_kept.specs.Below.fr_base.declared.place.Lval.{Lval}
use Rattle.law_copies_kept.specs.Below.fr_base.declared.instruction.Instr.{Instr}
use Rattle.law_copies_kept.specs.Below.fr_base.declared.instruction.Instr.TheVariants as instr
use Rattle.law_copies_kept.specs.Below.heap_partition.declared.value.Owned.{Owned}
use Rattle.law_copies_kept.specs.Below.heap_partition.declared.value.Owned.TheVariants as owned
use Rattle.law_copies_kept.specs.Below.thread_state.View.{ThreadState}
use Rattle.law_copies_kept.specs.Below.thread_state.declared.value.Value.{Value}
use Rattle.law_copies_kept.specs.Below.thread_state.declared.value.Value.TheVariants as value
use Rattle.law_copies_kept.specs.Below.server_model.declared.event.Event.{Event}
use Rattle.law_copies_kept.specs.Below.server_model.declared.event.What.TheVariants.{Step}
use Rattle.law_copies_kept.specs.Below.server_model.Servers.{Server, Cluster, server_at}
use Rattle.law_copies_kept.specs.Below.server_model.Work.{Hand, thread_in, push_temp, label_all, then_some, mutex_of}
use Rattle.law_copies_kept.specs.Below.server_model.Places.{Spot, in_slot, on_top, in_cell, in_copy, nowhere, cell_at, value_at, load_of, load_at}
use Rattle.law_copies_kept.specs.Below.server_model.Prepare.{ready, read_stars}
use Rattle.law_copies_kept.specs.Below.server_model.Commit.{waiting, goes_on, take_gift, mutex_at, ask_dup, dup}
use Rattle.law_copies_kept.specs.Below.server_model.Events.{begin_work, Stepped, committed, prepared, step}
use Rattle.law_entries_variables.specs.Below.coloured_heap.Heap.{Coloured}
use Rattle.law_copies_kept.specs.Below.coherent_memory.Names.{one, other, some, if_so}
use Rattle.law_copies_kept.specs.Below.coherent_memory.Follow.{Standing}
use Rattle.law_copies_kept.specs.Below.coherent_memory.Sight.{sight}
use Rattle.law_copies_kept.specs.Below.coherent_memory.Requests.{is_mutex, locked_mutex, dupped_mutex, is_value_of, gift_fits, gift_there}
use Rattle.law_copies_kept.specs.Below.coherent_memory.Colours.{StandsColoured}
use Rattle.law_copies_kept.specs.Below.coherent_types.ClusterTypes.{IsCoherent}
use Rattle.law_copies_kept.specs.Below.law_counts_sums.Laws.{Gives, FewEvents}
use Rattle.law_copies_kept.proofs.Below.law_counts_sums.Askers.{other_none}
use Rattle.law_copies_kept.proofs.Below.law_counts_sums.GiftsTaken.{none_here}
use Rattle.law_copies_kept.proofs.Below.law_counts_sums.Results.{map_gives}
use Rattle.law_copies_kept.specs.Below.law_words_kept.reads.Reading.{dups}
use Rattle.law_copies_kept.proofs.Below.law_words_kept.stays.Steps.{TakesNoneHere, untaken_here}
use Rattle.law_copies_kept.proofs.Below.law_words_kept.prepared.Untaken.{not_taken}
use Rattle.law_copies_kept.proofs.Below.law_words_borrows.Below.law_heap_steps.turns.Events.{AtStep}
use Rattle.law_copies_kept.proofs.Below.law_heap_still.events.Told.{told}
use Rattle.law_entries_variables.proofs.deliveries.Shown.{if_some}
use Rattle.law_entries_reads.specs.places.Reads.{DoneLegal}
use Rattle.law_entries_reads.proofs.places.Hops.{and_then_ready}
use Rattle.law_entries_reads.proofs.places.Still.{still_loads, Walked}
use Rattle.law_entries_reads.proofs.places.Done.{Kept, HoldsNone}
use Rattle.law_entries_reads.proofs.places.Words.{then_goes, still_untaken, gift_pushed}
use Rattle.law_entries_reads.proofs.places.Steps.{done_legal, at_step}
use Rattle.law_entries_reads.proofs.places.Following.{kept_as, Ends, ends_event, Goal, goal_by, ends_from, Follows, follows}

-- what is a mutex's value
is_mutex_value : (v : Owned) (o : Option MutexNo) → is_value_of v o ≡ true → (m : MutexNo) × (v ≡ owned.Mutex m)
is_mutex_value (owned.Mutex m) (Some c) e = (m, refl)
is_mutex_value v None e = absurd (cc e)
is_mutex_value owned.Nothing (Some c) e = absurd (cc e)
is_mutex_value owned.Unit (Some c) e = absurd (cc e)
is_mutex_value (owned.Int i) (Some c) e = absurd (cc e)
is_mutex_value (owned.Task i) (Some c) e = absurd (cc e)
is_mutex_value (owned.Box b) (Some c) e = absurd (cc e)

-- what is a mutex is there
pub value_there : (f : Option Value) (m : MutexNo) → then_some f mutex_of ≡ Some m → (v : Value) × (f ≡ Some v)
value_there None m e = absurd (cc e)
value_there (Some v) m e = (v, refl)

-- a gift is no part of what stands at a spot
pub cell_without : (h : Hand) (p : Spot) → cell_at (take_gift h) p ≡ cell_at h p
cell_without h (in_slot j) = refl
cell_without h on_top = refl
cell_without h (in_cell v f) = refl
cell_without h (in_copy v) = refl
cell_without h nowhere = refl

module _ (k : Cluster) (co : IsCoherent k) (e : Event) (w : Lval) (s : Server) (t : ℕ) (y : ThreadState) (a : AtStep k e (instr.Dup w) s t y) (c0 : Coloured) (is_coloured : StandsColoured k c0) where
  abbrev i : Instr
  i = instr.Dup w

  abbrev h0 : Hand
  h0 = record { work = begin_work s.rest; thread = y }

  abbrev End : Stepped → Type 0
  End = Ends k c0 s y

  abbrev IsGoal : Hand → Type 0
  IsGoal = Goal k c0 s y

  -- nothing is taken
  none : TakesNoneHere k.code y
  none = untaken_here y.number y.phase (slice_get k.code y.pc) (not_taken k co.sound e.server s a.here t y a.at i a.code refl)

  -- a gift there is the mutex
  gift_is : (v : Owned) → y.gift ≡ Some v → (m : MutexNo) × (v ≡ owned.Mutex m)
  gift_is v q =
      let x : Standing = record { server = s.rest.number; packed = false; thread = y } in
      let fits : gift_there (sight k) x y.gift ≡ 0 = none_here k co.sound e.server s a.here t y a.at (λ z. gift_there (sight k) z z.thread.gift) co.sound.requests.gifts_fit in
      let there : gift_fits (sight k) x v (slice_get k.code y.pc) ≡ 0 = subst (λ g. gift_there (sight k) x g ≡ 0) q fits in
      let same : other (is_value_of v (dupped_mutex (sight k) x (Some i))) ≡ 0 = subst (λ j. gift_fits (sight k) x v j ≡ 0) a.code there in
      is_mutex_value v (dupped_mutex (sight k) x (Some i)) (other_none (is_value_of v (dupped_mutex (sight k) x (Some i))) same)

  -- without its gift it asks
  asks : (h : Hand) (f : Option MutexNo) → Gives End (committed (waiting (option_map (ask_dup h) f)))
  asks h None = tt
  asks h (Some m) = λ q. absurd (cc q)

  -- the share is on top
  pushed : (h : Hand) (p : Spot) (m : MutexNo) → h.thread.gift ≡ Some (owned.Mutex m) → Walked k.options c0 s y h p
      → IsGoal (push_temp (value.Own (owned.Mutex m)) (load_at p (take_gift h)))
  pushed h p m gift q =
      goal_by k c0 s y (push_temp (value.Own (owned.Mutex m)) (load_at p (take_gift h))) co.sound
      (subst (λ f. Kept k.options c0 s y (record { work = label_all (load_of f) h.work; thread = record h.thread { temps = h.thread.temps ++ value.Own (owned.Mutex m) ∷ []; gift = None } })) (sym (cell_without h p))
      (kept_as k c0 s y (load_at p h) (h.thread.temps ++ value.Own (owned.Mutex m) ∷ []) (still_loads k.options c0 s y h p q)))
      (then_goes k.code k.options c0 s y h (push_temp (value.Own (owned.Mutex m)) (load_at p (take_gift h))) q.still (gift_pushed k.code s.rest.number m p h gift (still_untaken k.code k.options c0 s y h q.still none)))

  -- the gift is taken
  takes : (h : Hand) (p : Spot) (m : MutexNo) → h.thread.gift ≡ Some (owned.Mutex m) → Follows k co e i s t y a c0 is_coloured w w.depth (dups refl) h p → Gives End (committed (dup p (Some (owned.Mutex m)) h))
  takes h p m gift f =
      ends_from k c0 s y (option_map (λ c. push_temp (value.Own (owned.Mutex m)) (load_at p (take_gift h))) (mutex_at h p))
      (map_gives IsGoal (mutex_at h p) (λ c. push_temp (value.Own (owned.Mutex m)) (load_at p (take_gift h))) (λ c q.
      let v = value_there (value_at h p) c q in pushed h p m gift (f v.0 v.1).0))

  -- as the thread's gift is that with which it began
  by_gift : (h : Hand) (p : Spot) → Follows k co e i s t y a c0 is_coloured w w.depth (dups refl) h p → (f : Option Owned) → h.thread.gift ≡ f → ((v : Owned) → f ≡ Some v → (m : MutexNo) × (v ≡ owned.Mutex m)) → Gives End (committed (dup p f h))
  by_gift h p f None q is = asks h (mutex_at h p)
  by_gift h p f (Some v) q is =
      let m = is v refl in
      subst (λ u. Gives End (committed (dup p (Some u) h))) (sym m.1) (takes h p m.0 (q ∙ ap (λ u. Some u) m.1) f)

  -- from the spot on
  ended : (servers : ℕ) (h : Hand) (p : Spot) → Follows k co e i s t y a c0 is_coloured w w.depth (dups refl) h p → Gives End (prepared servers i (ready h p))
  ended servers h p f = by (value_at h p) refl
    where
      nothing_there : (g : Option Owned) → value_at h p ≡ None → Gives End (committed (dup p g h))
      nothing_there None q = subst (λ z. Gives End (committed (waiting (option_map (ask_dup h) (then_some z mutex_of))))) (sym q) tt
      nothing_there (Some v) q = subst (λ z. Gives End (committed (goes_on (option_map (λ c. push_temp (value.Own v) (load_at p (take_gift h))) (then_some z mutex_of))))) (sym q) tt

      by : (z : Option Value) → value_at h p ≡ z → Gives End (committed (dup p h.thread.gift h))
      by None q = nothing_there h.thread.gift q
      by (Some v) q = by_gift h p f h.thread.gift refl (λ u r. gift_is u (sym (ap (λ (z : ThreadState). z.gift) (f v q).0.still.thread) ∙ r))

  -- the step
  pub dup_ends : Gives End (step k.options.servers i h0)
  dup_ends = subst (λ x. Gives End (prepared k.options.servers i x)) (and_then_ready (read_stars w.depth h0 (in_slot w.slot))) (follows k co e i s t y a c0 is_coloured w w.depth (dups refl) k.options.servers ready (ended k.options.servers))

module _ (k : Cluster) (n : ℕ) (y : ThreadState) (w : Lval) (code : slice_get k.code y.pc ≡ Some (instr.Dup w)) where
  -- a share that was asked for is no content
  share_holds_none : HoldsNone k n y
  share_holds_none m g =
      let me : Standing = record { server = n; packed = false; thread = y } in
      ap (λ j. told g (if_some (some (if_so (is_some y.gift) (one (is_mutex m (locked_mutex (sight k) me j))))) y.number)) code ∙ by (is_some y.gift)
    where
      by : (b : Bool) → told g (if_some (some (if_so b 0)) y.number) ≡ 0
      by true = refl
      by false = refl

-- each dup
pub dup_legal : (k : Cluster) (number t : ℕ) (s : Server) (y : ThreadState) (w : Lval) → IsCoherent k → FewEvents k → server_at k.servers number ≡ Some s → thread_in s.threads t ≡ Some y → slice_get k.code y.pc ≡ Some (instr.Dup w) → DoneLegal k (record { server = number; what = Step t })
dup_legal k number t s y w co few here at code c0 is_coloured =
    done_legal k co.sound few number t s y (instr.Dup w) here at code c0 is_coloured
    (λ on. ends_event k co.sound few number t s y (instr.Dup w) here at code c0 is_coloured (step k.options.servers (instr.Dup w) (record { work = begin_work s.rest; thread = y }))
    (dup_ends k co (record { server = number; what = Step t }) w s t y (at_step k co.sound few number t s y (instr.Dup w) here at code c0 is_coloured on) c0 is_coloured)) (λ on. share_holds_none k s.rest.number y w code)
