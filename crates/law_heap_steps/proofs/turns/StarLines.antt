-- Copies and borrows through stars, at the server and on the plain machine.
use Rattle.std.proofs.Common.{◌≡◌, ◌<◌, ℕ, zero, suc, ◌+◌, true, false, List, [], ◌∷◌, ◌++◌, map, reverse, Option, Some, option_map, refl, sym, ap, ap₂, subst, ◌∙◌, arith}
use Rattle.law_words_kept.specs.Below.fr_base.declared.label.Label.{Label}
use Rattle.law_words_kept.specs.Below.fr_base.declared.label.Plain.TheVariants as plain
use Rattle.law_words_kept.specs.Below.fr_base.declared.place.Lval.{Lval}
use Rattle.law_words_kept.specs.Below.fr_base.declared.step.Fresh.{Fresh}
use Rattle.law_words_kept.specs.Below.fr_base.declared.step.Fresh.TheVariants as fresh
use Rattle.law_words_kept.specs.Below.fr_base.declared.instruction.Instr.{Instr}
use Rattle.law_words_kept.specs.Below.fr_base.declared.instruction.Instr.TheVariants as instr
use Rattle.law_words_kept.specs.Below.fr_plain.PlainState.{SameState, plain_state}
use Rattle.law_words_kept.specs.Below.fr_plain.MachineActs.{do_read, do_borrow, reference}
use Rattle.law_words_kept.specs.Below.fr_plain.MachineActs as acts
use Rattle.law_words_kept.specs.Below.fr_plain.MachineThreads.{going, Move}
use Rattle.law_words_kept.specs.Below.fr_plain.Machine.{alone_stepped, done_act}
use Rattle.law_words_kept.specs.Below.fr_code.Steps.{Place, over_at, loud, run_instr, code_moves}
use Rattle.law_words_kept.specs.Below.fr_code.Machine.{CodeLife, CodeThread, CodeWhole}
use Rattle.law_words_kept.specs.Below.heap_partition.declared.value.BoxPtr.{BoxPtr}
use Rattle.law_words_kept.specs.Below.migration.Packing.{unpinned}
use Rattle.law_words_kept.specs.Below.thread_state.View.{ThreadState}
use Rattle.law_words_kept.specs.Below.thread_state.declared.phase.Phase.TheVariants as phase
use Rattle.law_words_kept.specs.Below.thread_state.declared.value.Value.{Value}
use Rattle.law_words_kept.specs.Below.thread_state.declared.value.Value.TheVariants as value
use Rattle.law_words_kept.specs.Below.server_model.declared.event.Event.{Event}
use Rattle.law_words_kept.specs.Below.server_model.Servers.{Server, Cluster}
use Rattle.law_words_kept.specs.Below.server_model.Work.{Hand, push_temp, thread_in}
use Rattle.law_words_kept.specs.Below.server_model.Places.{Spot, value_at, load_at, second_of, pointer_of}
use Rattle.law_words_kept.specs.Below.server_model.Prepare.{Access, ReadTo, read_or_taken, Prepared, ready, requested, nothing, prepare}
use Rattle.law_words_kept.specs.Below.server_model.Commit.{goes_on, read, read_as}
use Rattle.law_words_kept.specs.Below.server_model.Events.{Stepped, can_step, begin_work, committed, prepared, step}
use Rattle.law_words_kept.specs.Below.coherent_memory.Names.{one}
use Rattle.law_words_kept.specs.Below.coherent_memory.Things.{Location, things_of}
use Rattle.law_words_kept.specs.Below.coherent_memory.Follow.{Standing, Ground, threads_in, thread_at, cell_of, slot_of, value_in, locate}
use Rattle.law_words_kept.specs.Below.coherent_memory.Sight.{sight}
use Rattle.law_words_kept.specs.Below.coherent_memory.OneHeap.{Node, one_heap, plain_value, running_at}
use Rattle.law_words_kept.specs.Below.coherent_types.ClusterTypes.{IsCoherent}
use Rattle.law_words_kept.specs.Below.law_counts_sums.Laws.{Gives}
use Rattle.law_words_kept.proofs.Below.law_counts_sums.Results.{then_gives, over_gives, weaker}
use Rattle.law_words_kept.proofs.Below.law_counts_sums.ThreadThere.{thread_there}
use Rattle.law_words_kept.specs.Below.law_words_paths.paths.HeapStore.{GoesOn}
use Rattle.law_words_kept.proofs.Below.law_words_paths.paths.Contained.{among_thread}
use Rattle.law_words_kept.specs.reads.Reading.{Reads, copies}
use Rattle.law_words_kept.proofs.reads.Homes.{home}
use Rattle.law_words_kept.proofs.reads.Lookups.{direct, copied_is, uncached}
use Rattle.law_heap_still.proofs.events.Addresses.{in_place}
use Rattle.law_heap_still.proofs.events.Leaving.{others, placed_here}
use Rattle.law_heap_still.proofs.events.Prepares.{Fine, prepare_shows}
use Rattle.law_heap_still.proofs.events.Readied.{Readied, readied_slots, readied_temps}
use Rattle.law_heap_steps.proofs.turns.Parts.{value_owns}
use Rattle.law_heap_steps.proofs.turns.OneTurn.{after}
use Rattle.law_heap_steps.proofs.turns.PlainTurn.{DoesIn, state_at, alone_does_in}
use Rattle.law_heap_steps.proofs.turns.Instructions.{shown_last, shown_push, owned_push, TurnIn}
use Rattle.law_heap_steps.proofs.turns.SlotReads.{Second, second}
use Rattle.law_heap_steps.proofs.turns.ReadWalk.{Finds, At, Comes, reads as walk, seen_value, loads_of, passed_loads}
use Rattle.law_heap_steps.proofs.turns.PlainReads.{read_shown}
use Rattle.law_heap_steps.proofs.turns.StarSteps.{QuickIn, settles_in, alike_owned}
use Rattle.law_heap_steps.proofs.turns.Events.{AtStep, not_over}

plain_unpinned : (v : Value) → plain_value (unpinned v) ≡ plain_value v
plain_unpinned value.Gone = refl
plain_unpinned (value.Own o) = refl
plain_unpinned (value.SharedSlot i) = refl
plain_unpinned (value.MutSlot i) = refl
plain_unpinned (value.Shared r) = refl
plain_unpinned (value.Mut r) = refl
plain_unpinned (value.Held m) = refl

-- values that are the same but for pins show the same
pub same_shown : (v u : Value) → unpinned v ≡ unpinned u → plain_value v ≡ plain_value u
same_shown v u e = sym (plain_unpinned v) ∙ ap plain_value e ∙ plain_unpinned u

to_read : (w : Lval) (d : ℕ) → read_or_taken w d false ≡ ReadTo w
to_read w zero = refl
to_read w (suc d) = refl

-- A THREAD THAT STEPS IN A COHERENT CLUSTER

module _ (k : Cluster) (co : IsCoherent k) (e : Event) (i : Instr) (s : Server) (t : ℕ) (y : ThreadState) (a : AtStep k e i s t y) where
  abbrev pub h0 : Hand
  h0 = record { work = begin_work s.rest; thread = y }

  abbrev pub x : Standing
  x = record { server = s.rest.number; packed = false; thread = y }

  abbrev ground : Ground
  ground = (sight k).ground

  stands : thread_at ground.threads y.number ≡ Some x
  stands = thread_there k co.sound e.server s a.here y.number y (subst (λ u. thread_in s.threads u ≡ Some y) (sym a.number) a.at)

  pub goes : GoesOn k x
  goes = record { among = (among_thread (threads_in (things_of k)) y.number x stands).0; going = not_over y.phase a.on }

  awake : (u : ℕ) → y.phase ≡ phase.WaitCell u → ⊥
  awake u q = let z : false ≡ true = sym (ap can_step q) ∙ a.on in cc z

  -- what it finds on the way of a place that it reads
  pub finds : (w : Lval) (n : ℕ) → Reads i w n → Finds ground y s.rest w n
  finds w n reads = record {
    slots = λ j. ap (λ o. slot_of o j) stands;
    direct = λ d l v p lt there st pointer mine b found.
        home_of d l v p lt there st pointer ∙ ap (λ z. Some z) (sym (direct k co x i w n d goes a.code reads lt awake l v p there st pointer e.server s a.here mine b found));
    copied = λ d l v p lt there st pointer clean b found.
        home_of d l v p lt there st pointer ∙ ap (λ z. Some z) (sym (copied_is k co x i w n d goes a.code reads lt awake l v p there st pointer e.server s a.here clean b found));
    uncached = λ d l v p lt there st pointer. uncached k co x i w n d goes a.code reads lt awake l v p there st pointer e.server s a.here;
  }
    where
      home_of : (d : ℕ) (l : Location) (v : Value) (p : BoxPtr) (lt : d < n) (there : locate ground y.number w.slot d ≡ Some l) (st : value_in ground l ≡ Some v) (pointer : pointer_of v ≡ Some p)
          → cell_of ground.cells p.object ≡ Some (home k co x i w n d goes a.code reads lt awake l v p there st pointer).cell
      home_of d l v p lt there st pointer = (home k co x i w n d goes a.code reads lt awake l v p there st pointer).found

  -- a place that is made ready shows what it showed
  pub shows : (acc : Option Access) → Fine h0 (prepare acc h0)
  shows acc = prepare_shows h0 acc (in_place s.rest.number s.events s.rest (others k co.sound e.server s a.here) (placed_here k co.sound e.server s a.here))

  abbrev pub Wanted : Stepped → Type 0
  Wanted d = (names : Fresh) → d.names ≡ Some names → TurnIn (one_heap k) k.code s.rest y d

  -- A NEW TEMPORARY VALUE

  -- a value that owns nothing, which an act of the thread gives on the plain machine
  pub pushes_in : (act : acts.Act Place) (h h2 : Hand) (u : Value) (ls : List Label) → Readied h0 h → over_at (Some i) (shown_last y.temps) ≡ going → run_instr (Some i) y.pc (shown_last y.temps) ≡ loud (y.pc + 1) (shown_last y.temps) act
      → ((c : CodeWhole) (z : CodeThread) (m : Move Place CodeLife) → done_act (code_moves k.code) c z fresh.None m act ≡ alone_stepped (code_moves k.code) c z m act)
      → ((c : CodeWhole) → SameState (plain_state c) (one_heap k) → acts.act act (state_at c y.number (shown_last y.slots)) ≡ Some (record { value = plain_value u; state = state_at c y.number (shown_last y.slots); labels = ls }))
      → ((c : CodeWhole) → acts.drops_last act (state_at c y.number (shown_last y.slots)) ≡ plain.Nothing) → ((q : Node) → value_owns q u ≡ false)
      → h2.work.rest ≡ h.work.rest → h2.thread ≡ record h.thread { temps = h.thread.temps ++ u ∷ [] } → h2.work.labels ≡ ls → QuickIn (one_heap k) k.code s.rest y h2
  pushes_in act h h2 u ls ready_h now move lone did last bare rest thread labels = record {
    before = h;
    ready = ready_h;
    rest = rest;
    slots = h.thread.slots;
    temps = h.thread.temps ++ u ∷ [];
    thread = thread;
    even = λ q. omega (arith, alike_owned q y.slots h.thread.slots slots_plain, alike_owned q y.temps h.thread.temps temps_plain, owned_push q h.thread.temps u, ap one (bare q));
    does = subst (λ l. DoesIn (one_heap k) k.code y.number (running_at y) (running_at (after y (y.pc + 1) h.thread.slots (h.thread.temps ++ u ∷ []))) l) (sym labels)
        (subst (λ ts. DoesIn (one_heap k) k.code y.number (running_at y) (record { place = record { pc = y.pc + 1; temps = ts }; slots = shown_last h.thread.slots }) ls) (sym (shown_push h.thread.temps u ∙ ap (λ l. plain_value u ∷ reverse l) temps_plain))
        (subst (λ ss. DoesIn (one_heap k) k.code y.number (running_at y) (record { place = record { pc = y.pc + 1; temps = plain_value u ∷ shown_last y.temps }; slots = ss }) ls) (sym (ap reverse slots_plain))
        (alone_does_in k.code (running_at y) act (λ w. record { pc = y.pc + 1; temps = w ∷ shown_last y.temps }) (plain_value u) (shown_last y.slots) ls (ap (λ j. over_at j (shown_last y.temps)) a.code ∙ now)
        (ap (λ j. run_instr j y.pc (shown_last y.temps)) a.code ∙ move) lone (one_heap k) y.number did last)));
  }
    where
      slots_plain : map plain_value h.thread.slots ≡ map plain_value y.slots
      slots_plain = readied_slots ready_h

      temps_plain : map plain_value h.thread.temps ≡ map plain_value y.temps
      temps_plain = readied_temps ready_h

-- COPIES

module _ (k : Cluster) (co : IsCoherent k) (e : Event) (w : Lval) (s : Server) (t : ℕ) (y : ThreadState) (a : AtStep k e (instr.Read w false) s t y) where
  abbrev i : Instr
  i = instr.Read w false

  abbrev g : Ground
  g = (sight k).ground

  abbrev found : Finds g y s.rest w w.depth
  found = finds k co e i s t y a w w.depth (copies refl)

  copied : (h : Hand) (sp : Spot) (v u : Value) → Readied (h0 k co e i s t y a) h → At g y s.rest w w.depth found w.depth h sp → value_at h sp ≡ Some v → Second v u → QuickIn (one_heap k) k.code s.rest y (push_temp u (load_at sp h))
  copied h sp v u ready_h at there two =
      let it = seen_value (value_in g at.location) v (sym (ap (option_map unpinned) there) ∙ at.seen) in
      let shown : plain_value u ≡ plain_value it.0 = two.shown ∙ same_shown v it.0 it.2 in
      pushes_in k co e i s t y a (do_read w false) h (push_temp u (load_at sp h)) u (passed_loads g y.number w.slot w.depth ++ loads_of g at.location) ready_h refl refl (λ c z m. refl)
      (λ c same. read_shown k co (x k co e i s t y a) (goes k co e i s t y a) c same w at.location it.0 at.located it.1 ∙ ap (λ z. Some (record { value = z; state = state_at c y.number (shown_last y.slots); labels = passed_loads g y.number w.slot w.depth ++ loads_of g at.location })) (sym shown))
      (λ c. refl) two.bare refl refl (ap₂ (λ m n. m ++ n) at.labels at.loads)

  by_ready : (p : Prepared) → Comes g y s.rest w w.depth found w.depth p → Fine (h0 k co e i s t y a) p → Gives (Wanted k co e i s t y a) (prepared k.options.servers i p)
  by_ready nothing c f = tt
  by_ready (requested h) c f = λ names q. absurd (cc q)
  by_ready (ready h sp) c f =
      weaker (TurnIn (one_heap k) k.code s.rest y) (Wanted k co e i s t y a) (committed (goes_on (read false sp h)))
      (settles_in (one_heap k) k.code s.rest y (read false sp h)
      (then_gives (QuickIn (one_heap k) k.code s.rest y) (value_at h sp) (λ v. read_as false sp v (load_at sp h)) (λ v q.
      over_gives (Second v) (QuickIn (one_heap k) k.code s.rest y) (second_of v) (λ u. push_temp u (load_at sp h)) (second v) (λ u two. copied h sp v u f.0 (c v q) q two))))
      (λ d turn names q. turn)

  pub copy_line : Gives (Wanted k co e i s t y a) (step k.options.servers i (h0 k co e i s t y a))
  copy_line =
      subst (λ z. Gives (Wanted k co e i s t y a) (prepared k.options.servers i (prepare (Some z) (h0 k co e i s t y a)))) (sym (to_read w w.depth))
      (by_ready (prepare (Some (ReadTo w)) (h0 k co e i s t y a)) (walk g y s.rest w w.depth found w.depth (omega arith)) (shows k co e i s t y a (Some (ReadTo w))))
