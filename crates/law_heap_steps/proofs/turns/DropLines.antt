-- Values that are dropped and let nothing go, at the server and on the plain machine: no box, mutex or task.
use Rattle.std.proofs.Common.{◌≡◌, ℕ, zero, suc, ◌+◌, ◌-◌, nat_lt, Bool, true, false, if◌then◌else◌, List, [], ◌∷◌, ◌++◌, length, map, reverse, Option, Some, None, option_map, refl, sym, ap, ap₂, subst, ◌∙◌, arith}
use Rattle.std.specs.Prelude.{slice_get, slice_set}
use Rattle.std.specs.Bool.{⊤}
use Rattle.std.proofs.lemmas.Option.{slice_get-map}
use Rattle.law_words_kept.specs.Below.fr_base.Lists.{last_of}
use Rattle.law_words_kept.specs.Below.fr_base.declared.label.Plain.{Plain}
use Rattle.law_words_kept.specs.Below.fr_base.declared.label.Plain.TheVariants as plain
use Rattle.law_words_kept.specs.Below.fr_base.declared.place.Lval.{Lval}
use Rattle.law_words_kept.specs.Below.fr_base.declared.step.Fresh.{Fresh}
use Rattle.law_words_kept.specs.Below.fr_base.declared.step.Fresh.TheVariants as fresh
use Rattle.law_words_kept.specs.Below.fr_base.declared.instruction.Instr.{Instr}
use Rattle.law_words_kept.specs.Below.fr_base.declared.instruction.Instr.TheVariants as instr
use Rattle.law_words_kept.specs.Below.fr_base.declared.instruction.Operand.{Operand}
use Rattle.law_words_kept.specs.Below.fr_plain.declared.value.Value.{Value as PlainValue}
use Rattle.law_words_kept.specs.Below.fr_plain.declared.value.Value.TheVariants as plain_v
use Rattle.law_words_kept.specs.Below.fr_plain.Heap.{Heap, drop_links, last_link, live}
use Rattle.law_words_kept.specs.Below.fr_plain.State.{State, drops, without, with_slot}
use Rattle.law_words_kept.specs.Below.fr_plain.State as state
use Rattle.law_words_kept.specs.Below.fr_plain.MachineActs.{do_discard, do_drop, do_assign, end_of, drop_did, assign_did}
use Rattle.law_words_kept.specs.Below.fr_plain.MachineActs as acts
use Rattle.law_words_kept.specs.Below.fr_plain.MachineThreads.{going, Move, release_by}
use Rattle.law_words_kept.specs.Below.fr_plain.Machine.{alone_stepped, done_act}
use Rattle.law_words_kept.specs.Below.fr_code.Steps.{Place, over_at, quiet, run_instr, code_moves}
use Rattle.law_words_kept.specs.Below.fr_code.Machine.{CodeLife, CodeThread, CodeWhole}
use Rattle.law_words_kept.specs.Below.owner_box.Partition.{stored}
use Rattle.law_words_kept.specs.Below.heap_partition.declared.value.Owned.TheVariants as owned
use Rattle.law_words_kept.specs.Below.mut_borrow.Refs.{finish_word}
use Rattle.law_words_kept.specs.Below.read_cache.Cache.{can_unpin, unpin}
use Rattle.law_words_kept.specs.Below.thread_state.View.{ThreadState}
use Rattle.law_words_kept.specs.Below.thread_state.declared.value.Value.{Value}
use Rattle.law_words_kept.specs.Below.thread_state.declared.value.Value.TheVariants as value
use Rattle.law_words_kept.specs.Below.server_model.declared.event.Event.{Event}
use Rattle.law_words_kept.specs.Below.server_model.Servers.{Rest, Server, Cluster}
use Rattle.law_words_kept.specs.Below.server_model.Work.{Hand, Popped, with_partition, working, with_slots, with_temps, front_of, leads_here, pop, then_some}
use Rattle.law_words_kept.specs.Below.server_model.Places.{Spot, in_slot, on_top, in_cell, in_copy, nowhere, value_at, put_at, put_slot, note_write, set_pointer, with_word}
use Rattle.law_words_kept.specs.Below.server_model.Drop.{drop_labels, unpin_ref, finished_at, drop_value}
use Rattle.law_words_kept.specs.Below.server_model.Prepare.{Access, ending, Prepared, ready, requested, nothing, and_then, unlabelled, prepare}
use Rattle.law_words_kept.specs.Below.server_model.Commit.{goes_on, label_dropped, replace_slot, assign, discard, drop_slot}
use Rattle.law_words_kept.specs.Below.server_model.Events.{Stepped, begin_work, committed, prepared, step}
use Rattle.law_words_kept.specs.Below.coherent_memory.Names.{one}
use Rattle.law_words_kept.specs.Below.coherent_memory.OneHeap.{Node, one_heap, plain_value, running_at}
use Rattle.law_words_kept.specs.Below.coherent_memory.Coherent.{IsSound}
use Rattle.law_words_kept.specs.Below.law_counts_sums.Laws.{Gives}
use Rattle.law_words_kept.proofs.Below.law_counts_sums.Results.{then_gives, bind_gives, test_gives, both_give, weaker}
use Rattle.law_words_kept.proofs.Below.law_counts_sums.Values.{last_split}
use Rattle.law_heap_still.proofs.events.Addresses.{in_place}
use Rattle.law_heap_still.proofs.events.Leaving.{others, placed_here}
use Rattle.law_heap_still.proofs.events.Prepares.{Fine, prepare_shows}
use Rattle.law_heap_still.proofs.events.Readied.{Readied, readied_slots, readied_temps, same_ready, copies_ready, set_ready}
use Rattle.law_words_kept.proofs.Below.law_words_paths.paths.Shown.{shown_value}
use Rattle.law_heap_steps.specs.turns.Turns.{lets_none_go, none_goes}
use Rattle.law_heap_steps.proofs.turns.Parts.{value_owns, owned_in}
use Rattle.law_heap_steps.proofs.turns.OneTurn.{after}
use Rattle.law_heap_steps.proofs.turns.PlainTurn.{DoesIn, state_at, alone_drops_in}
use Rattle.law_heap_steps.proofs.turns.Instructions.{int_owns, unit_owns, shown_last, shown_push, owned_push, Pops, PopsTo, itself, popped, TurnIn}
use Rattle.law_heap_steps.proofs.turns.SlotReads.{nothing_owns, set_shown}
use Rattle.law_heap_steps.proofs.turns.StarSteps.{alike_owned, GoesOn, settles_on, goes_on_from}
use Rattle.law_heap_steps.proofs.turns.Events.{AtStep}

-- ON THE PLAIN MACHINE

-- a value whose drop takes no object along and lets nothing go
abbrev pub keeps_all : PlainValue → Bool
keeps_all (plain_v.Own (plain.Box o)) = false
keeps_all (plain_v.Own (plain.Mutex m)) = false
keeps_all (plain_v.Own (plain.Task t)) = false
keeps_all v = true

pub lets_shown : (v : Value) → lets_none_go v ≡ keeps_all (plain_value v)
lets_shown (value.Own owned.Nothing) = refl
lets_shown (value.Own owned.Unit) = refl
lets_shown (value.Own (owned.Int n)) = refl
lets_shown (value.Own (owned.Box p)) = refl
lets_shown (value.Own (owned.Mutex m)) = refl
lets_shown (value.Own (owned.Task t)) = refl
lets_shown value.Gone = refl
lets_shown (value.SharedSlot i) = refl
lets_shown (value.MutSlot i) = refl
lets_shown (value.Shared r) = refl
lets_shown (value.Mut r) = refl
lets_shown (value.Held m) = refl

-- values that show the same let the same go
pub lets_same : (v u : Value) → plain_value v ≡ plain_value u → lets_none_go u ≡ true → lets_none_go v ≡ true
lets_same v u e z = lets_shown v ∙ ap keeps_all e ∙ sym (lets_shown u) ∙ z

links_stay : (n : ℕ) (h : Heap) (v : Plain) → keeps_all (plain_v.Own v) ≡ true → drop_links n h v ≡ h
links_stay zero h v e = refl
links_stay (suc n) h plain.Nothing e = refl
links_stay (suc n) h plain.Unit e = refl
links_stay (suc n) h (plain.Int i) e = refl
links_stay (suc n) h (plain.Box o) e = absurd (cc e)
links_stay (suc n) h (plain.Mutex m) e = absurd (cc e)
links_stay (suc n) h (plain.Task t) e = absurd (cc e)

last_stays : (n : ℕ) (h : Heap) (v : Plain) → keeps_all (plain_v.Own v) ≡ true → last_link n h v ≡ v
last_stays zero h v e = refl
last_stays (suc n) h plain.Nothing e = refl
last_stays (suc n) h plain.Unit e = refl
last_stays (suc n) h (plain.Int i) e = refl
last_stays (suc n) h (plain.Box o) e = absurd (cc e)
last_stays (suc n) h (plain.Mutex m) e = absurd (cc e)
last_stays (suc n) h (plain.Task t) e = absurd (cc e)

none_released : (n : ℕ) (c : CodeWhole) (v : Plain) → keeps_all (plain_v.Own v) ≡ true → release_by n c v ≡ c
none_released n c plain.Nothing e = refl
none_released n c plain.Unit e = refl
none_released n c (plain.Int i) e = refl
none_released n c (plain.Box o) e = absurd (cc e)
none_released n c (plain.Mutex m) e = absurd (cc e)
none_released n c (plain.Task t) e = absurd (cc e)

-- the heap stays, no label is given, and nothing goes last
pub heap_stays : (h : Heap) (v : PlainValue) → keeps_all v ≡ true → without h v ≡ h
heap_stays h (plain_v.Own v) e = links_stay (live h) h v e
heap_stays h (plain_v.ToSlot i) e = refl
heap_stays h (plain_v.ToObject o) e = refl
heap_stays h (plain_v.Held m) e = refl

pub no_drops : (v : PlainValue) → keeps_all v ≡ true → drops v ≡ []
no_drops (plain_v.Own plain.Nothing) e = refl
no_drops (plain_v.Own plain.Unit) e = refl
no_drops (plain_v.Own (plain.Int i)) e = refl
no_drops (plain_v.Own (plain.Box o)) e = absurd (cc e)
no_drops (plain_v.Own (plain.Mutex m)) e = absurd (cc e)
no_drops (plain_v.Own (plain.Task t)) e = absurd (cc e)
no_drops (plain_v.ToSlot i) e = refl
no_drops (plain_v.ToObject o) e = refl
no_drops (plain_v.Held m) e = refl

pub none_last : (n : ℕ) (c : CodeWhole) (h : Heap) (v : PlainValue) → keeps_all v ≡ true → release_by n c (end_of h v) ≡ c
none_last n c h (plain_v.Own v) e = ap (release_by n c) (last_stays (live h) h v e) ∙ none_released n c v e
none_last n c h (plain_v.ToSlot i) e = none_released n c plain.Nothing refl
none_last n c h (plain_v.ToObject o) e = none_released n c plain.Nothing refl
none_last n c h (plain_v.Held m) e = none_released n c plain.Nothing refl

-- AT THE SERVER

pub lets_unowned : (q : Node) (v : Value) → lets_none_go v ≡ true → value_owns q v ≡ false
lets_unowned q (value.Own owned.Nothing) e = nothing_owns q
lets_unowned q (value.Own owned.Unit) e = unit_owns q
lets_unowned q (value.Own (owned.Int n)) e = int_owns q n
lets_unowned q (value.Own (owned.Box p)) e = absurd (cc e)
lets_unowned q (value.Own (owned.Mutex m)) e = absurd (cc e)
lets_unowned q (value.Own (owned.Task t)) e = absurd (cc e)
lets_unowned q value.Gone e = refl
lets_unowned q (value.SharedSlot i) e = refl
lets_unowned q (value.MutSlot i) e = refl
lets_unowned q (value.Shared r) e = refl
lets_unowned q (value.Mut r) e = refl
lets_unowned q (value.Held m) e = refl

-- a step of the hand that shows what it showed and labels nothing
abbrev Quietly : Hand → Hand → Type 0
Quietly h h2 = Readied h h2 × (h2.work.labels ≡ h.work.labels)

put_labels : (s : Spot) (v : Value) (h : Hand) → Gives (λ h2. h2.work.labels ≡ h.work.labels) (put_at s v h)
put_labels (in_slot i) v h = test_gives (λ h2. h2.work.labels ≡ h.work.labels) (nat_lt i (length h.thread.slots)) _ (λ on. refl)
put_labels on_top v h = refl
put_labels (in_cell w through) (value.Own o) h = test_gives (λ h2. h2.work.labels ≡ h.work.labels) (leads_here h.work.rest.partition w) _ (λ on. by through)
  where
    by : (t : Option ℕ) → (note_write t (working (with_partition (stored h.work.rest.partition w o)) h)).work.labels ≡ h.work.labels
    by None = refl
    by (Some i) = refl
put_labels (in_cell w through) value.Gone h = tt
put_labels (in_cell w through) (value.SharedSlot i) h = tt
put_labels (in_cell w through) (value.MutSlot i) h = tt
put_labels (in_cell w through) (value.Shared r) h = tt
put_labels (in_cell w through) (value.Mut r) h = tt
put_labels (in_cell w through) (value.Held m) h = tt
put_labels (in_copy w) v h = tt
put_labels nowhere v h = tt

set_labels : (s : Spot) (u : ℕ) (h : Hand) → Gives (λ h2. h2.work.labels ≡ h.work.labels) (set_pointer s u h)
set_labels s u h = then_gives (λ h2. h2.work.labels ≡ h.work.labels) (value_at h s) _ (λ v e. then_gives (λ h2. h2.work.labels ≡ h.work.labels) (with_word u v) _ (λ new f. put_labels s new h))

quiet_here : (h : Hand) → Quietly h h
quiet_here h = (same_ready h, refl)

finished_quietly : (holder : Spot) (o : Option ℕ) (h : Hand) → Gives (Quietly h) (finished_at holder o h)
finished_quietly holder None h = quiet_here h
finished_quietly holder (Some u) h = both_give _ (λ h2. h2.work.labels ≡ h.work.labels) (Quietly h) (set_pointer holder u h) (set_ready holder u h) (set_labels holder u h) (λ h2 r ls. (r.0, ls))

-- such a value is dropped
pub drops_quietly : (holder : Spot) (v : Value) (h : Hand) → lets_none_go v ≡ true → Gives (Quietly h) (drop_value holder v h)
drops_quietly holder (value.Own owned.Nothing) h e = quiet_here h
drops_quietly holder (value.Own owned.Unit) h e = quiet_here h
drops_quietly holder (value.Own (owned.Int n)) h e = quiet_here h
drops_quietly holder (value.Own (owned.Box p)) h e = absurd (cc e)
drops_quietly holder (value.Own (owned.Mutex m)) h e = absurd (cc e)
drops_quietly holder (value.Own (owned.Task t)) h e = absurd (cc e)
drops_quietly holder (value.Shared r) h e = by r.pinned
  where
    by : (b : Bool) → Gives (Quietly h) (unpin_ref r b h)
    by false = quiet_here h
    by true = test_gives (Quietly h) (can_unpin h.work.rest.cache r.word) _ (λ on. ((copies_ready h (unpin h.work.rest.cache r.word) h.thread.walk).0, refl))
drops_quietly holder (value.Mut r) h e = by r.dirty
  where
    by : (b : Bool) → Gives (Quietly h) (if b then None else finished_at holder (finish_word r) h)
    by true = tt
    by false = finished_quietly holder (finish_word r) h
drops_quietly holder value.Gone h e = quiet_here h
drops_quietly holder (value.SharedSlot i) h e = quiet_here h
drops_quietly holder (value.MutSlot i) h e = quiet_here h
drops_quietly holder (value.Held m) h e = quiet_here h

none_labelled : (v : Value) → lets_none_go v ≡ true → drop_labels v ≡ []
none_labelled (value.Own owned.Nothing) e = refl
none_labelled (value.Own owned.Unit) e = refl
none_labelled (value.Own (owned.Int n)) e = refl
none_labelled (value.Own (owned.Box p)) e = absurd (cc e)
none_labelled (value.Own (owned.Mutex m)) e = absurd (cc e)
none_labelled (value.Own (owned.Task t)) e = absurd (cc e)
none_labelled value.Gone e = refl
none_labelled (value.SharedSlot i) e = refl
none_labelled (value.MutSlot i) e = refl
none_labelled (value.Shared r) e = refl
none_labelled (value.Mut r) e = refl
none_labelled (value.Held m) e = refl

-- a mutable reference that ends is made ready without labels
abbrev Unlabelled : Prepared → Type 0
Unlabelled (ready h s) = h.work.labels ≡ []
Unlabelled (requested h) = ⊤
Unlabelled nothing = ⊤

unlabels : (p : Prepared) → Unlabelled (and_then unlabelled p)
unlabels (ready h s) = refl
unlabels (requested h) = tt
unlabels nothing = tt

pub ends_unlabelled : (s : Spot) (v : Option Value) (r : Rest) (x : ThreadState) → Unlabelled (prepare (ending s v) (record { work = begin_work r; thread = x }))
ends_unlabelled s None r x = refl
ends_unlabelled s (Some (value.Mut q)) r x = unlabels _
ends_unlabelled s (Some _) r x = refl

-- LISTS THAT SHOW THE SAME

some_is : {A : Type 0} {a b : A} → Some a ≡ Some b → a ≡ b
some_is e = cc

same_length : (xs ys : List Value) → map plain_value xs ≡ map plain_value ys → length xs ≡ length ys
same_length [] [] e = refl
same_length [] (y ∷ ys) e = absurd (cc e)
same_length (x ∷ xs) [] e = absurd (cc e)
same_length (x ∷ xs) (y ∷ ys) e = ap suc (same_length xs ys (tails e))
  where
    tails : {a b : PlainValue} {us vs : List PlainValue} → a ∷ us ≡ b ∷ vs → us ≡ vs
    tails q = cc

same_at : (xs ys : List Value) (i : ℕ) (v u : Value) → map plain_value xs ≡ map plain_value ys → slice_get xs i ≡ Some v → slice_get ys i ≡ Some u → plain_value v ≡ plain_value u
same_at xs ys i v u e p q = some_is (ap (option_map plain_value) (sym p) ∙ sym (slice_get-map plain_value xs i) ∙ ap (λ l. slice_get l i) e ∙ slice_get-map plain_value ys i ∙ ap (option_map plain_value) q)

same_last : (xs ys : List Value) (v u : Value) → map plain_value xs ≡ map plain_value ys → last_of xs ≡ Some v → last_of ys ≡ Some u → plain_value v ≡ plain_value u
same_last xs ys v u e p q = same_at xs ys (length xs - 1) v u e p (ap (λ n. slice_get ys (n - 1)) (same_length xs ys e) ∙ q)

-- some value is there that lets none go
goes_there : (o : Option Value) → none_goes o ≡ true → (u : Value) × (o ≡ Some u) × (lets_none_go u ≡ true)
goes_there None e = absurd (cc e)
goes_there (Some u) e = (u, refl, e)

last_shown : (vs : List Value) (v : Value) → last_of vs ≡ Some v → shown_last vs ≡ plain_value v ∷ shown_last (front_of vs)
last_shown vs v e = ap shown_last (last_split vs v e) ∙ shown_push (front_of vs) v

last_owned : (q : Node) (vs : List Value) (v : Value) → last_of vs ≡ Some v → owned_in q vs ≡ owned_in q (front_of vs) + one (value_owns q v)
last_owned q vs v e = ap (owned_in q) (last_split vs v e) ∙ owned_push q (front_of vs) v

pub set_owned : (q : Node) (xs : List Value) (i : ℕ) (old new : Value) → slice_get xs i ≡ Some old → owned_in q (slice_set xs i new) + one (value_owns q old) ≡ owned_in q xs + one (value_owns q new)
set_owned q [] i old new e = absurd (cc e)
set_owned q (x ∷ xs) zero old new e = let same : x ≡ old = some_is e in omega (arith, ap (λ w. one (value_owns q w)) same)
set_owned q (x ∷ xs) (suc i) old new e = omega (arith, set_owned q xs i old new e)

-- THE LINES

module _ (k : Cluster) (sound : IsSound k) (e : Event) (i : Instr) (s : Server) (t : ℕ) (y : ThreadState) (a : AtStep k e i s t y) where
  abbrev start : Hand
  start = record { work = begin_work s.rest; thread = y }

  shows : (acc : Option Access) → Fine start (prepare acc start)
  shows acc = prepare_shows start acc (in_place s.rest.number s.events s.rest (others k sound e.server s a.here) (placed_here k sound e.server s a.here))

  abbrev Wanted : Stepped → Type 0
  Wanted d = (names : Fresh) → d.names ≡ Some names → TurnIn (one_heap k) k.code s.rest y d

  abbrev On : Hand → Type 0
  On = GoesOn (one_heap k) k.code s.rest y

  -- a step whose place is ready without labels
  by_ready : (make : Hand → Spot → Option Hand) → ((h : Hand) (sp : Spot) → prepared k.options.servers i (ready h sp) ≡ committed (goes_on (make h sp)))
      → ((h : Hand) (sp : Spot) → Readied start h → h.work.labels ≡ [] → Gives On (make h sp)) → (p : Prepared) → Unlabelled p → Fine start p → Gives Wanted (prepared k.options.servers i p)
  by_ready make commits go nothing n f = tt
  by_ready make commits go (requested h) n f = λ names q. absurd (cc q)
  by_ready make commits go (ready h sp) n f =
      subst (λ o. Gives Wanted o) (sym (commits h sp))
      (weaker (TurnIn (one_heap k) k.code s.rest y) Wanted (committed (goes_on (make h sp))) (settles_on (one_heap k) k.code s.rest y (make h sp) (go h sp f.0 n)) (λ d turn names q. turn))

  module _ (h : Hand) (ready_h : Readied start h) (bare : h.work.labels ≡ []) where
    slots_plain : map plain_value h.thread.slots ≡ map plain_value y.slots
    slots_plain = readied_slots ready_h

    temps_plain : map plain_value h.thread.temps ≡ map plain_value y.temps
    temps_plain = readied_temps ready_h

    -- it is dropped from a hand with other slots and temporary values, and the plain machine does the same
    dropped_from : (mid : Hand) (sp : Spot) (v : Value) → mid.work.rest ≡ h.work.rest → mid.thread ≡ record h.thread { slots = mid.thread.slots; temps = mid.thread.temps } → mid.work.labels ≡ [] → lets_none_go v ≡ true
        → ((q : Node) → owned_in q h.thread.slots + owned_in q h.thread.temps ≡ owned_in q mid.thread.slots + owned_in q mid.thread.temps)
        → DoesIn (one_heap k) k.code y.number (running_at y) (running_at (after y (y.pc + 1) mid.thread.slots mid.thread.temps)) [] → Gives On (drop_value sp v mid)
    dropped_from mid sp v rest thread labels lets even does =
        weaker (Quietly mid) On (drop_value sp v mid) (drops_quietly sp v mid lets) (λ h4 q.
        goes_on_from (one_heap k) k.code s.rest y h mid h4 ready_h rest thread q.0
        (λ n. omega (arith, even n, alike_owned n y.slots h.thread.slots slots_plain, alike_owned n y.temps h.thread.temps temps_plain))
        (subst (λ ls. DoesIn (one_heap k) k.code y.number (running_at y) (running_at (after y (y.pc + 1) mid.thread.slots mid.thread.temps)) ls) (sym (q.1 ∙ labels)) does))

    relabelled : (v : Value) → lets_none_go v ≡ true → h.work.labels ++ drop_labels v ≡ []
    relabelled v e = ap₂ (λ m n. m ++ n) bare (none_labelled v e)

    abbrev Act : Type 0
    Act = acts.Act Place

    abbrev Going : Act → List PlainValue → List PlainValue → Type 0
    Going act ts ss = DoesIn (one_heap k) k.code y.number (running_at y) (record { place = record { pc = y.pc + 1; temps = ts }; slots = ss }) []

    -- an act of which the plain machine keeps the heap
    acts_quietly : (act : Act) (ts ss : List PlainValue) → over_at (Some i) (shown_last y.temps) ≡ going → run_instr (Some i) y.pc (shown_last y.temps) ≡ quiet (y.pc + 1) ts act
        → ((c : CodeWhole) (z : CodeThread) (m : Move Place CodeLife) → done_act (code_moves k.code) c z fresh.None m act ≡ alone_stepped (code_moves k.code) c z m act)
        → ((c : CodeWhole) → acts.act act (state_at c y.number (shown_last y.slots)) ≡ Some (record { value = acts.unit; state = state_at c y.number ss; labels = [] }))
        → ((c : CodeWhole) (n : ℕ) (z : CodeWhole) → release_by n z (acts.drops_last act (state_at c y.number (shown_last y.slots))) ≡ z) → Going act ts ss
    acts_quietly act ts ss now move lone did last =
        alone_drops_in k.code (running_at y) act (λ w. record { pc = y.pc + 1; temps = ts }) acts.unit ss [] (ap (λ j. over_at j (shown_last y.temps)) a.code ∙ now) (ap (λ j. run_instr j y.pc (shown_last y.temps)) a.code ∙ move) lone (one_heap k) y.number
        (λ c same. did c) last

-- A DISCARD

module _ (k : Cluster) (sound : IsSound k) (e : Event) (s : Server) (t : ℕ) (y : ThreadState) (a : AtStep k e instr.Discard s t y) (none : none_goes (last_of y.temps) ≡ true) where
  abbrev h0 : Hand
  h0 = start k sound e instr.Discard s t y a

  discards : (h : Hand) (sp : Spot) → Readied h0 h → h.work.labels ≡ [] → Gives (On k sound e instr.Discard s t y a) (discard sp h)
  discards h sp ready_h bare = by (last_of h.thread.temps) refl
    where
      by : (o : Option Value) → last_of h.thread.temps ≡ o
          → Gives (On k sound e instr.Discard s t y a) (then_some {X = Popped Value} (option_map (λ v. record { item = v; hand = with_temps (front_of h.thread.temps) h }) o) (λ u. drop_value sp u.item (label_dropped u.item u.hand)))
      by None q = tt
      by (Some v) q =
          let old = goes_there (last_of y.temps) none in
          let temps = temps_plain k sound e instr.Discard s t y a h ready_h bare in
          let slots = slots_plain k sound e instr.Discard s t y a h ready_h bare in
          let shown = same_last h.thread.temps y.temps v old.0 temps q old.1 in
          let lets = lets_same v old.0 shown old.2 in
          let keeps : keeps_all (plain_value v) ≡ true = sym (lets_shown v) ∙ lets in
          let front = front_of h.thread.temps in
          let mid : Hand = label_dropped v (with_temps front h) in
          dropped_from k sound e instr.Discard s t y a h ready_h bare mid sp v refl refl (relabelled k sound e instr.Discard s t y a h ready_h bare v lets) lets
          (λ n. omega (arith, last_owned n h.thread.temps v q, ap one (lets_unowned n v lets)))
          (subst (λ ss. Going k sound e instr.Discard s t y a h ready_h bare (do_discard (plain_value v)) (shown_last front) ss) (sym (ap reverse slots))
          (acts_quietly k sound e instr.Discard s t y a h ready_h bare (do_discard (plain_value v)) (shown_last front) (shown_last y.slots) refl
          (ap (λ l. run_instr (Some instr.Discard) y.pc l) (sym (ap reverse temps) ∙ last_shown h.thread.temps v q)) (λ c z m. refl)
          (λ c. ap₂ (λ m n. Some (record { value = acts.unit; state = record (state_at c y.number (shown_last y.slots)) { heap = m }; labels = n })) (heap_stays c.heap (plain_value v) keeps) (no_drops (plain_value v) keeps))
          (λ c n z. none_last n z c.heap (plain_value v) keeps)))

  pub discard_line : Gives (Wanted k sound e instr.Discard s t y a) (step k.options.servers instr.Discard h0)
  discard_line =
      by_ready k sound e instr.Discard s t y a (λ h sp. discard sp h) (λ h sp. refl) discards (prepare (ending on_top (last_of y.temps)) h0) (ends_unlabelled on_top (last_of y.temps) s.rest y) (shows k sound e instr.Discard s t y a (ending on_top (last_of y.temps)))

-- THE END OF A VARIABLE

module _ (k : Cluster) (sound : IsSound k) (e : Event) (s : Server) (t : ℕ) (y : ThreadState) (a : AtStep k e instr.DropSlot s t y) (none : none_goes (last_of y.slots) ≡ true) where
  abbrev h_end : Hand
  h_end = start k sound e instr.DropSlot s t y a

  drops_slot : (h : Hand) (sp : Spot) → Readied h_end h → h.work.labels ≡ [] → Gives (On k sound e instr.DropSlot s t y a) (drop_slot sp h)
  drops_slot h sp ready_h bare = by (last_of h.thread.slots) refl
    where
      by : (o : Option Value) → last_of h.thread.slots ≡ o
          → Gives (On k sound e instr.DropSlot s t y a) (then_some {X = Popped Value} (option_map (λ v. record { item = v; hand = with_slots (front_of h.thread.slots) h }) o) (λ u. drop_value sp u.item (label_dropped u.item u.hand)))
      by None q = tt
      by (Some v) q =
          let old = goes_there (last_of y.slots) none in
          let temps = temps_plain k sound e instr.DropSlot s t y a h ready_h bare in
          let slots = slots_plain k sound e instr.DropSlot s t y a h ready_h bare in
          let shown = same_last h.thread.slots y.slots v old.0 slots q old.1 in
          let lets = lets_same v old.0 shown old.2 in
          let keeps : keeps_all (plain_value v) ≡ true = sym (lets_shown v) ∙ lets in
          let front = front_of h.thread.slots in
          let mid : Hand = label_dropped v (with_slots front h) in
          let there : shown_last y.slots ≡ plain_value v ∷ shown_last front = sym (ap reverse slots) ∙ last_shown h.thread.slots v q in
          dropped_from k sound e instr.DropSlot s t y a h ready_h bare mid sp v refl refl (relabelled k sound e instr.DropSlot s t y a h ready_h bare v lets) lets
          (λ n. omega (arith, last_owned n h.thread.slots v q, ap one (lets_unowned n v lets)))
          (subst (λ ts. Going k sound e instr.DropSlot s t y a h ready_h bare do_drop ts (shown_last front)) (sym (ap reverse temps))
          (acts_quietly k sound e instr.DropSlot s t y a h ready_h bare do_drop (shown_last y.temps) (shown_last front) refl refl (λ c z m. refl)
          (λ c. ap (λ l. acts.act {B = Place} do_drop (state_at c y.number l)) there
          ∙ ap₂ (λ m n. Some (record { value = acts.unit; state = record (state_at c y.number (shown_last front)) { heap = m }; labels = n })) (heap_stays c.heap (plain_value v) keeps) (no_drops (plain_value v) keeps))
          (λ c n z. ap (λ l. release_by n z (acts.drops_last {B = Place} do_drop (state_at c y.number l))) there ∙ none_last n z c.heap (plain_value v) keeps)))

  pub drop_line : Gives (Wanted k sound e instr.DropSlot s t y a) (step k.options.servers instr.DropSlot h_end)
  drop_line =
      let acc = ending (in_slot (length y.slots - 1)) (last_of y.slots) in
      by_ready k sound e instr.DropSlot s t y a (λ h sp. drop_slot sp h) (λ h sp. refl) drops_slot (prepare acc h_end) (ends_unlabelled (in_slot (length y.slots - 1)) (last_of y.slots) s.rest y) (shows k sound e instr.DropSlot s t y a acc)

-- AN ASSIGNMENT TO A VARIABLE

module _ (k : Cluster) (sound : IsSound k) (e : Event) (slot : ℕ) (o : Operand) (s : Server) (t : ℕ) (y : ThreadState) (a : AtStep k e (instr.Assign (record { slot = slot; depth = 0 }) o) s t y) (none : none_goes (slice_get y.slots slot) ≡ true) where
  abbrev w : Lval
  w = record { slot = slot; depth = 0 }

  abbrev i : Instr
  i = instr.Assign w o

  abbrev h_set : Hand
  h_set = start k sound e i s t y a

  module _ (h : Hand) (sp : Spot) (ready_h : Readied h_set h) (bare : h.work.labels ≡ []) (v : Value) (rest : List Value) (u : Pops o h.thread.temps v rest) where
    abbrev h1 : Hand
    h1 = with_temps rest h

    temps : map plain_value h.thread.temps ≡ map plain_value y.temps
    temps = temps_plain k sound e i s t y a h ready_h bare

    slots : map plain_value h.thread.slots ≡ map plain_value y.slots
    slots = slots_plain k sound e i s t y a h ready_h bare

    replaced : (was : Value) → slice_get h.thread.slots slot ≡ Some was → Gives (On k sound e i s t y a) (then_some (put_slot slot v (label_dropped was h1)) (drop_value sp was))
    replaced was q = by (nat_lt slot (length h.thread.slots))
      where
        old : (z : Value) × (slice_get y.slots slot ≡ Some z) × (lets_none_go z ≡ true)
        old = goes_there (slice_get y.slots slot) none

        lets : lets_none_go was ≡ true
        lets = lets_same was old.0 (same_at h.thread.slots y.slots slot was old.0 slots q old.1) old.2

        keeps : keeps_all (plain_value was) ≡ true
        keeps = sym (lets_shown was) ∙ lets

        there : state.slot_at (shown_last y.slots) slot ≡ Some (plain_value was)
        there = ap (λ l. state.slot_at l slot) (sym (ap reverse slots)) ∙ shown_value h.thread.slots slot ∙ ap (option_map plain_value) q

        set : with_slot (shown_last y.slots) slot (plain_value v) ≡ shown_last (slice_set h.thread.slots slot v)
        set = ap (λ l. with_slot l slot (plain_value v)) (sym (ap reverse slots)) ∙ set_shown h.thread.slots slot v

        acted : (c : CodeWhole) → acts.act {B = Place} (do_assign w (plain_value v)) (state_at c y.number (shown_last y.slots)) ≡ Some (record { value = acts.unit; state = state_at c y.number (shown_last (slice_set h.thread.slots slot v)); labels = [] })
        acted c =
            ap (assign_did (state_at c y.number (shown_last y.slots)) (plain_value v) (record { spot = state.in_slot slot; passed = [] })) there
            ∙ ap₂ (λ m n. Some (record { value = acts.unit; state = record (state_at c y.number (with_slot (shown_last y.slots) slot (plain_value v))) { heap = m }; labels = n ++ [] })) (heap_stays c.heap (plain_value was) keeps) (no_drops (plain_value was) keeps)
            ∙ ap (λ l. Some (record { value = acts.unit; state = state_at c y.number l; labels = [] })) set

        released : (c : CodeWhole) (n : ℕ) (z : CodeWhole) → release_by n z (acts.drops_last {B = Place} (do_assign w (plain_value v)) (state_at c y.number (shown_last y.slots))) ≡ z
        released c n z = ap (λ p. release_by n z (acts.end_of_some c.heap p)) there ∙ none_last n z c.heap (plain_value was) keeps

        by : (b : Bool) → Gives (On k sound e i s t y a) (then_some (if b then Some (with_slots (slice_set h.thread.slots slot v) (label_dropped was (with_temps rest h))) else None) (drop_value sp was))
        by false = tt
        by true =
            dropped_from k sound e i s t y a h ready_h bare (with_slots (slice_set h.thread.slots slot v) (label_dropped was (with_temps rest h))) sp was refl refl (relabelled k sound e i s t y a h ready_h bare was lets) lets
            (λ n. omega (arith, u.owned n, set_owned n h.thread.slots slot was v q, ap one (lets_unowned n was lets)))
            (acts_quietly k sound e i s t y a h ready_h bare (do_assign w (plain_value v)) (shown_last rest) (shown_last (slice_set h.thread.slots slot v)) refl
            (ap (λ l. run_instr (Some i) y.pc l) (sym (ap reverse temps)) ∙ u.taken (λ z us. quiet (y.pc + 1) us (do_assign w z))) (λ c z m. refl) acted released)

  assigns : (h : Hand) (sp : Spot) → Readied h_set h → h.work.labels ≡ [] → Gives (On k sound e i s t y a) (assign w 0 o sp h)
  assigns h sp ready_h bare =
      bind_gives (PopsTo o h itself) (On k sound e i s t y a) (pop o h) (λ p. replace_slot slot sp p.item p.hand) (popped o h) (λ p u.
      subst (λ z. Gives (On k sound e i s t y a) (replace_slot slot sp p.item z)) (sym u.hand)
      (then_gives (On k sound e i s t y a) (slice_get h.thread.slots slot) (λ was. then_some (put_slot slot p.item (label_dropped was (with_temps u.rest h))) (drop_value sp was)) (λ was q. replaced h sp ready_h bare p.item u.rest u.pops was q)))

  pub assign_line : Gives (Wanted k sound e i s t y a) (step k.options.servers i h_set)
  assign_line =
      let acc = ending (in_slot slot) (slice_get y.slots slot) in
      by_ready k sound e i s t y a (λ h sp. assign w 0 o sp h) (λ h sp. refl) assigns (prepare acc h_set) (ends_unlabelled (in_slot slot) (slice_get y.slots slot) s.rest y) (shows k sound e i s t y a acc)
