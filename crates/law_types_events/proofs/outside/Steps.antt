-- A thread's step that is done: what its server shows weighs nothing where what the instruction puts weighs nothing, and what the thread has then.
use Rattle.std.proofs.Common.{◌≡◌, ℕ, zero, suc, ◌+◌, ◌≤◌, Bool, true, false, if◌then◌else◌, List, [], map, Option, Some, None, refl, sym, ap, subst, ◌∙◌, arith}
use Rattle.std.specs.Prelude.{option_map, ⊤}
use Rattle.law_types_still.specs.Below.fr_base.declared.name.ObjNo.{ObjNo}
use Rattle.law_types_still.specs.Below.fr_base.declared.name.MutexNo.{MutexNo}
use Rattle.law_types_still.specs.Below.fr_base.declared.label.Plain.{Plain}
use Rattle.law_types_still.specs.Below.fr_base.declared.label.Plain.TheVariants as plain
use Rattle.law_types_still.specs.Below.fr_base.declared.place.Lval.{Lval}
use Rattle.law_types_still.specs.Below.fr_base.declared.step.Fresh.{Fresh}
use Rattle.law_types_still.specs.Below.fr_base.declared.step.Fresh.TheVariants as fresh
use Rattle.law_types_still.specs.Below.fr_base.declared.instruction.Instr.{Instr}
use Rattle.law_types_still.specs.Below.fr_base.declared.instruction.Instr.TheVariants as instr
use Rattle.law_types_still.specs.Below.fr_base.declared.instruction.Operand.{Operand}
use Rattle.law_types_still.specs.Below.heap_partition.Plain.{plain_of}
use Rattle.law_types_still.specs.Below.heap_partition.declared.value.Cell.{Cell}
use Rattle.law_types_still.specs.Below.heap_partition.declared.value.Owned.{Owned}
use Rattle.law_types_still.specs.Below.heap_partition.declared.value.Owned.TheVariants as owned
use Rattle.law_types_still.specs.Below.owner_box.Partition.{stored}
use Rattle.law_types_still.specs.Below.read_cache.Cache.{Copy, can_unpin}
use Rattle.law_types_still.specs.Below.mut_borrow.Refs.{finish_word}
use Rattle.law_types_still.specs.Below.mutex_home.Mutexes.{can_make, next_mutex}
use Rattle.law_types_still.specs.Below.migration.Packing.{unpin_all}
use Rattle.law_types_still.specs.Below.thread_state.View.{ThreadState}
use Rattle.law_types_still.specs.Below.thread_state.declared.value.Value.{Value}
use Rattle.law_types_still.specs.Below.thread_state.declared.value.Value.TheVariants as value
use Rattle.law_types_still.specs.Below.journal.declared.act.Act.TheVariants as act
use Rattle.law_types_still.specs.Below.server_model.declared.event.Event.{Event}
use Rattle.law_types_still.specs.Below.server_model.Servers.{Server, Cluster}
use Rattle.law_types_still.specs.Below.server_model.Work.{Hand, Popped, look, leads_here, then_some, with_partition, with_cache, working, label_all, pop_owned, pop_slot, taken_as, owned_of}
use Rattle.law_types_still.specs.Below.server_model.NewWords.{issue_placed}
use Rattle.law_types_still.specs.Below.server_model.Places.{Spot, in_slot, in_cell, nowhere, cell_at, value_at}
use Rattle.law_types_still.specs.Below.server_model.Drop.{unpin_ref, finished_at, drop_value}
use Rattle.law_types_still.specs.Below.server_model.Prepare.{ready, access_of, prepare}
use Rattle.law_types_still.specs.Below.server_model.Commit.{Committed, done, waits, refused, done_where, go_on, goes_on, label_dropped, store_labels, store_at, replace_at, assign, next_object, push_box, box_up, mutex_made, held_of, commit}
use Rattle.law_types_still.specs.Below.server_model.Events.{Stepped, done_step, has_phase, can_step, begin_work, committed, step}
use Rattle.law_types_still.specs.Below.coherent_memory.Names.{tot, one}
use Rattle.law_types_still.specs.Below.coherent_memory.Things.{Location, at_slot, in_cell as in_object, server_things}
use Rattle.law_types_still.specs.Below.coherent_memory.Follow.{cell_of, locate, place_at}
use Rattle.law_types_still.specs.Below.coherent_memory.Sight.{sight}
use Rattle.law_types_still.specs.Below.coherent_memory.OneHeap.{Node, object_n, mutex_n, plain_value}
use Rattle.law_types_events.specs.Below.coherent_types.ClusterTypes.{IsCoherent}
use Rattle.law_types_still.specs.Below.law_counts_sums.Laws.{Gives, FewEvents}
use Rattle.law_types_still.proofs.Below.law_counts_sums.Results.{then_gives, map_gives, test_gives, bind_gives}
use Rattle.law_types_still.proofs.Below.law_heap_still.events.Addresses.{in_place, next_empty}
use Rattle.law_types_still.proofs.Below.law_heap_still.events.Leaving.{others, placed_here}
use Rattle.law_types_still.proofs.Below.law_heap_still.events.Readied.{IsPlaced, readied_slots}
use Rattle.law_types_events.proofs.Below.law_heap_steps.turns.Parts.{value_owns, owned_in}
use Rattle.law_types_events.proofs.Below.law_heap_steps.turns.Instructions.{PopsTo, owned_push}
use Rattle.law_types_events.proofs.Below.law_heap_steps.turns.Events.{AtStep}
use Rattle.law_types_events.proofs.Below.law_heap_steps.mutexes.NewLines.{popped_owned}
use Rattle.law_types_events.proofs.Below.law_results_reads.Known.{Steps}
use Rattle.law_types_events.proofs.Below.law_results_events.writes.Memory.{looks}
use Rattle.law_types_events.proofs.Below.law_results_events.writes.Route.{At, a_slot, a_cell}
use Rattle.law_types_events.specs.Below.law_words_asked.writes.Writing.{WritesThrough, assigns}
use Rattle.law_types_events.proofs.Below.law_heap_writes.writes.CellChange.{itself}
use Rattle.law_types_events.proofs.Below.law_heap_writes.writes.GivenUp.{noted_plain}
use Rattle.law_types_events.proofs.Below.law_heap_writes.writes.Readies.{IsReady, by_ready}
use Rattle.law_types_still.proofs.Below.law_counts_sums.MutexResults.{mutex_self}
use Rattle.law_types_events.proofs.outside.Walk.{Weighs, f, HasPlace, Light, from_server, by_moves, MayGet, Excused, WhereDone, commits, settles, steps_light}

-- the object at the end of a place
abbrev pub end_node : Option Location → Option Node
end_node (Some (in_object o)) = Some (object_n o)
end_node l = None

-- what an instruction puts where types from before needn't say what it is: the object or mutex that it makes, or the object that it writes
abbrev pub special_of : Cluster → Server → ThreadState → Instr → Option Node
special_of k s y (instr.Box o) = Some (object_n (record { thread = y.number; count = y.made }))
special_of k s y (instr.Mutex o) = Some (mutex_n (next_mutex s.rest.mutexes))
special_of k s y (instr.Assign p o) = end_node (place_at (sight k).ground y.number p)
special_of k s y i = None

-- through how many stars an instruction assigns
abbrev assigned_depth : Instr → ℕ
assigned_depth (instr.Assign p o) = p.depth
assigned_depth i = 0

record IsAssign (i : Instr) (d : ℕ) : Type 0 where
  place : Lval
  operand : Operand
  is : i ≡ instr.Assign place operand
  depth : place.depth ≡ suc d

assign_is : (i : Instr) (d : ℕ) → assigned_depth i ≡ suc d → IsAssign i d
assign_is (instr.Assign p o) d e = record { place = p; operand = o; is = refl; depth = e }
assign_is _ d e = absurd cc

ready_hand : {h h2 : Hand} {q q2 : Spot} → ready h q ≡ ready h2 q2 → h ≡ h2
ready_hand e = cc

some_same : {A : Type 0} {a b : A} → Some a ≡ Some b → a ≡ b
some_same e = cc

same_cells : {b u : ℕ} {q r : Option ℕ} → in_cell b q ≡ in_cell u r → b ≡ u
same_cells e = cc

no_slot_cell : {m u : ℕ} {r : Option ℕ} → in_slot m ≡ in_cell u r → ⊥
no_slot_cell e = cc

same_end : {o q : ObjNo} → Some (in_object o) ≡ Some (in_object q) → o ≡ q
same_end e = cc

no_end : {t m : ℕ} {q : ObjNo} → Some (at_slot t m) ≡ Some (in_object q) → ⊥
no_end e = cc

-- what holds of a thread whose step is done
module _ (P : ThreadState → Type 0) (same : (t : ThreadState) → P t → P (record t { passed = 0; walk = []; moved_since_step = false })) where
  abbrev pub ThreadDone : Stepped → Type 0
  ThreadDone d = (names : Fresh) → d.names ≡ Some names → P d.hand.thread

  abbrev Holds : Committed → Type 0
  Holds (done names h) = P h.thread
  Holds c = ⊤

  thread_settles : (c : Committed) → Holds c → Gives ThreadDone (committed c)
  thread_settles (done names h) g = by (unpin_all h.thread.walk h.work.rest.cache)
    where
      by : (o : Option (List Copy)) → Gives ThreadDone (option_map (done_step names) (option_map (λ cs. record { work = with_cache cs h.work; thread = record h.thread { passed = 0; walk = []; moved_since_step = false } }) o))
      by None = tt
      by (Some cs) = λ m e. same h.thread g
  thread_settles (waits h) g = λ m e. absurd (cc e)
  thread_settles refused g = tt

  names_hold : (names : Fresh) (o : Option Hand) → Gives (λ (h : Hand). P (go_on h).thread) o → Holds (done_where names (option_map go_on o))
  names_hold names None g = tt
  names_hold names (Some h) g = g

module _ (k : Cluster) (co : IsCoherent k) (few : FewEvents k) (e : Event) (i : Instr) (s : Server) (t : ℕ) (y : ThreadState) (a : AtStep k e i s t y) where
  abbrev pub steps_here : Steps k e.server t s y i
  steps_here = record { coherent = co; few = few; here = a.here; on = subst (λ o. has_phase can_step o ≡ true) (sym a.at) a.on; at = a.at; code = a.code }

  abbrev pub h0 : Hand
  h0 = record { work = begin_work s.rest; thread = y }

  abbrev pub n : ℕ
  n = s.rest.number

  placed : IsPlaced h0
  placed = in_place n s.events s.rest (others k co.sound e.server s a.here) (placed_here k co.sound e.server s a.here)

  module _ (w : Weighs) where
    -- what the instruction puts weighs nothing
    pub record Allowed : Type 0 where
      pub takes : (p : Lval) → i ≡ instr.Read p true → (o : ObjNo) → w.object o plain.Nothing ≡ 0
      pub assigns_it : (p : Lval) (o : Operand) → i ≡ instr.Assign p o → (q : ObjNo) → place_at (sight k).ground y.number p ≡ Some (in_object q) → (v : Plain) → w.object q v ≡ 0
      pub boxes : (o : Operand) → i ≡ instr.Box o → (v : Plain) → w.object (record { thread = y.number; count = y.made }) v ≡ 0
      pub makes : (o : Operand) → i ≡ instr.Mutex o → (v : Plain) → w.content (next_mutex s.rest.mutexes) v ≡ 0
      pub unlocks : i ≡ instr.Unlock → (p : Popped Owned) (m : Popped MutexNo) → then_some (pop_slot h0) (taken_as owned_of) ≡ Some p → then_some (pop_slot p.hand) (taken_as held_of) ≡ Some m → w.content m.item (plain_of p.item) ≡ 0
      pub ends : (o : Operand) → i ≡ instr.End o → (p : Popped Owned) → pop_owned o h0 ≡ Some p → w.result y.number (plain_of p.item) ≡ 0

    module _ (allowed : Allowed) (light : tot (f w) (server_things s) ≡ 0) where
      abbrev Done_light : Stepped → Type 0
      Done_light d = WhereDone w n d

      -- an instruction that assigns through no star
      plain_excused : assigned_depth i ≡ 0 → (h : Hand) (q : Spot) → prepare (access_of i y) h0 ≡ ready h q → Excused w n i q h
      plain_excused flat h q r = record {
        takes = allowed.takes;
        assigns = λ p o d is depth v. (let no : zero ≡ suc d = sym flat ∙ ap assigned_depth is ∙ depth in absurd cc);
        boxes = λ o is.
            let same : h0 ≡ h = ready_hand (subst (λ j. prepare (access_of j y) h0 ≡ ready h q) is r) in
            (subst (λ (g : Hand). HasPlace g.work.rest.partition) same (λ pair rest free. next_empty n s.rest.partition placed pair rest free), λ v. subst (λ (g : Hand). w.object (next_object g) v ≡ 0) same (allowed.boxes o is v));
        makes = λ o is v.
            (let same : h0 ≡ h = ready_hand (subst (λ j. prepare (access_of j y) h0 ≡ ready h q) is r) in subst (λ (g : Hand). w.content (next_mutex g.work.rest.mutexes) v ≡ 0) same (allowed.makes o is v));
        unlocks = λ is.
            (let same : h0 ≡ h = ready_hand (subst (λ j. prepare (access_of j y) h0 ≡ ready h q) is r) in
            subst (λ (g : Hand). (p : Popped Owned) (m : Popped MutexNo) → then_some (pop_slot g) (taken_as owned_of) ≡ Some p → then_some (pop_slot p.hand) (taken_as held_of) ≡ Some m → w.content m.item (plain_of p.item) ≡ 0) same (allowed.unlocks is));
        ends = λ o is.
            (let same : h0 ≡ h = ready_hand (subst (λ j. prepare (access_of j y) h0 ≡ ready h q) is r) in subst (λ (g : Hand). (p : Popped Owned) → pop_owned o g ≡ Some p → w.result g.thread.number (plain_of p.item) ≡ 0) same (allowed.ends o is));
      }

      module _ (d : ℕ) (it : IsAssign i d) where
        abbrev through : WritesThrough i it.place d
        through = subst (λ j. WritesThrough j it.place d) (sym it.is) (assigns it.operand it.depth)

        abbrev Ready : Hand → Spot → Type 0
        Ready = IsReady k co few e i s t y a it.place d through

        may_get : (h : Hand) (q : Spot) → Ready h q → (v : Plain) → MayGet w n h.work.rest q v
        may_get h q r v u z c is there = by q r.location r.spot is r.ends
          where
            by : (q2 : Spot) (l : Location) → At s.rest y (cell_of (sight k).ground.cells) (locate (sight k).ground y.number it.place.slot) h.work.rest.partition it.place.depth q2 l → q2 ≡ in_cell u z → locate (sight k).ground y.number it.place.slot it.place.depth ≡ Some l → w.object c.object v ≡ 0
            by _ _ (a_slot m) g located = absurd (no_slot_cell g)
            by _ _ (a_cell b z2 o cell leads has object behind) g located =
                let same : cell ≡ c = some_same (sym (looks h.work.rest.partition b cell leads) ∙ ap (look h.work.rest.partition) (same_cells g) ∙ there) in
                allowed.assigns_it it.place it.operand it.is c.object (located ∙ ap (λ m. Some (in_object m)) (sym object ∙ ap (λ (x : Cell). x.object) same)) v

        through_excused : (h : Hand) (q : Spot) → Ready h q → Excused w n i q h
        through_excused h q r = record {
          takes = allowed.takes;
          assigns = λ p o d2 is depth v. may_get h q r v;
          boxes = λ o is. (let no : instr.Assign it.place it.operand ≡ instr.Box o = sym it.is ∙ is in absurd cc);
          makes = λ o is v. (let no : instr.Assign it.place it.operand ≡ instr.Mutex o = sym it.is ∙ is in absurd cc);
          unlocks = λ is p m e1 e2. (let no : instr.Assign it.place it.operand ≡ instr.Unlock = sym it.is ∙ is in absurd cc);
          ends = λ o is p e1. (let no : instr.Assign it.place it.operand ≡ instr.End o = sym it.is ∙ is in absurd cc);
        }

        through_light : Gives Done_light (step k.options.servers i h0)
        through_light =
            by_ready k co few e i s t y a it.place d through (λ x. Light w n x.hand.work.rest) (λ h q r.
            settles w n (commit k.options.servers i q h) (commits w n k.options.servers i q h (through_excused h q r) (by_moves w n s.rest h.work.rest r.readied.moves (from_server w n s refl light))))

      pub step_light : Gives Done_light (step k.options.servers i h0)
      step_light = by (assigned_depth i) refl
        where
          by : (d : ℕ) → assigned_depth i ≡ d → Gives Done_light (step k.options.servers i h0)
          by zero flat = steps_light w n k.options.servers i h0 placed (from_server w n s refl light) (plain_excused flat)
          by (suc d) deep = through_light d (assign_is i d deep)

  -- WHAT THE THREAD HAS THEN

  -- it owns the node in a slot or a temporary value
  abbrev pub Owning : Node → ThreadState → Type 0
  Owning q x = 1 ≤ owned_in q x.slots + owned_in q x.temps

  box_owns : (o : Operand) → Gives (ThreadDone (Owning (object_n (record { thread = y.number; count = y.made }))) (λ x g. g)) (step k.options.servers (instr.Box o) h0)
  box_owns o =
      let q = object_n (record { thread = y.number; count = y.made }) in
      thread_settles (Owning q) (λ x g. g) (goes_on (box_up o h0))
      (names_hold (Owning q) (λ x g. g) fresh.None (box_up o h0)
      (bind_gives (PopsTo o h0 value.Own) (λ (h : Hand). Owning q (go_on h).thread) (pop_owned o h0) _ (popped_owned o h0) (λ p u.
      map_gives (λ (h : Hand). Owning q (go_on h).thread) (issue_placed (act.Make (next_object p.hand)) (record { object = next_object p.hand; value = p.item }) p.hand.work) (λ m. push_box p.item m p.hand) (λ m r.
      let v : Value = value.Own (owned.Box (record { word = m.word; object = next_object p.hand })) in
      let it : value_owns q v ≡ true = subst (λ (h : Hand). value_owns q (value.Own (owned.Box (record { word = m.word; object = next_object h }))) ≡ true) (sym u.hand) (itself (record { thread = y.number; count = y.made })) in
      omega (arith, owned_push q p.hand.thread.temps v, ap one it)))))

  mutex_owns : (o : Operand) → Gives (ThreadDone (Owning (mutex_n (next_mutex s.rest.mutexes))) (λ x g. g)) (step k.options.servers (instr.Mutex o) h0)
  mutex_owns o =
      let q = mutex_n (next_mutex s.rest.mutexes) in
      thread_settles (Owning q) (λ x g. g) (done_where (fresh.Mutex (next_mutex s.rest.mutexes)) (option_map go_on (then_some (pop_owned o h0) (λ p. mutex_made p.item p.hand))))
      (names_hold (Owning q) (λ x g. g) (fresh.Mutex (next_mutex s.rest.mutexes)) (then_some (pop_owned o h0) (λ p. mutex_made p.item p.hand))
      (bind_gives (PopsTo o h0 value.Own) (λ (h : Hand). Owning q (go_on h).thread) (pop_owned o h0) _ (popped_owned o h0) (λ p u.
      test_gives (λ (h : Hand). Owning q (go_on h).thread) (can_make p.hand.work.rest.mutexes) _ (λ on.
      let v : Value = value.Own (owned.Mutex (next_mutex p.hand.work.rest.mutexes)) in
      let it : value_owns q v ≡ true = subst (λ (h : Hand). value_owns q (value.Own (owned.Mutex (next_mutex h.work.rest.mutexes))) ≡ true) (sym u.hand) (mutex_self (next_mutex s.rest.mutexes)) in
      omega (arith, owned_push q p.hand.thread.temps v, ap one it)))))

  -- slots show what they showed
  abbrev pub SlotsShow : ThreadState → Type 0
  SlotsShow x = map plain_value x.slots ≡ map plain_value y.slots

  abbrev Shows : Hand → Type 0
  Shows h = SlotsShow h.thread

  drop_shows : (v : Value) (h : Hand) → Shows h → Gives Shows (drop_value nowhere v h)
  drop_shows (value.Own v) h g = g
  drop_shows (value.Shared r) h g = by r.pinned
    where
      by : (b : Bool) → Gives Shows (unpin_ref r b h)
      by false = g
      by true = test_gives Shows (can_unpin h.work.rest.cache r.word) _ (λ on. g)
  drop_shows (value.Mut r) h g = by r.dirty
    where
      at : (o : Option ℕ) → Gives Shows (finished_at nowhere o h)
      at None = g
      at (Some u) = tt

      by : (b : Bool) → Gives Shows (if b then None else finished_at nowhere (finish_word r) h)
      by true = tt
      by false = at (finish_word r)
  drop_shows value.Gone h g = g
  drop_shows (value.SharedSlot j) h g = g
  drop_shows (value.MutSlot j) h g = g
  drop_shows (value.Held m) h g = g

  cell_shows : (b : ℕ) (q : Option ℕ) (v : Owned) (h : Hand) → Shows h → Gives Shows (replace_at (in_cell b q) v h)
  cell_shows b q v h g =
      then_gives Shows (value_at h (in_cell b q)) _ (λ old r.
      bind_gives Shows Shows (store_at (in_cell b q) v (label_dropped old h)) (drop_value nowhere old)
      (test_gives Shows (leads_here h.work.rest.partition b) _
      (λ on. noted_plain q (working (with_partition (stored h.work.rest.partition b v)) (working (label_all (store_labels (cell_at (label_dropped old h) (in_cell b q)) v)) (label_dropped old h))) ∙ g))
      (λ h2 u. drop_shows old h2 u))

  -- the place of an assignment ends at an object
  module _ (p : Lval) (o : Operand) (is : i ≡ instr.Assign p o) (q : ObjNo) (ends_at : place_at (sight k).ground y.number p ≡ Some (in_object q)) where
    abbrev ShowsDone : Stepped → Type 0
    ShowsDone = ThreadDone SlotsShow (λ x g. g)

    goes_show : (h : Option Hand) → Gives Shows h → Holds SlotsShow (λ x g. g) (goes_on h)
    goes_show None g = tt
    goes_show (Some h) g = g

    flat : p.depth ≡ 0 → ⊥
    flat z = no_end (sym (ap (locate (sight k).ground y.number p.slot) z) ∙ ends_at)

    module _ (d : ℕ) (depth : p.depth ≡ suc d) where
      abbrev its : WritesThrough i p d
      its = subst (λ j. WritesThrough j p d) (sym is) (assigns o depth)

      at_cell : (h : Hand) (b : ℕ) (c : Option ℕ) → IsReady k co few e i s t y a p d its h (in_cell b c) → Gives ShowsDone (committed (commit k.options.servers i (in_cell b c) h))
      at_cell h b c r =
          subst (λ j. Gives ShowsDone (committed (commit k.options.servers j (in_cell b c) h))) (sym is)
          (thread_settles SlotsShow (λ x g. g) (goes_on (assign p p.depth o (in_cell b c) h)) (goes_show (assign p p.depth o (in_cell b c) h) (subst (λ m. Gives Shows (assign p m o (in_cell b c) h)) (sym depth)
          (bind_gives (PopsTo o h value.Own) Shows (pop_owned o h) _ (popped_owned o h) (λ v u. cell_shows b c v.item v.hand (subst Shows (sym u.hand) (readied_slots r.readied)))))))

      by_spot : (h : Hand) (sp : Spot) → IsReady k co few e i s t y a p d its h sp → Gives ShowsDone (committed (commit k.options.servers i sp h))
      by_spot h sp r = by sp r.location r.spot r r.ends
        where
          by : (sp2 : Spot) (l : Location) → At s.rest y (cell_of (sight k).ground.cells) (locate (sight k).ground y.number p.slot) h.work.rest.partition p.depth sp2 l → IsReady k co few e i s t y a p d its h sp2 → locate (sight k).ground y.number p.slot p.depth ≡ Some l → Gives ShowsDone (committed (commit k.options.servers i sp2 h))
          by _ _ (a_slot m) r2 located = absurd (no_end (sym located ∙ ends_at))
          by _ _ (a_cell b c z cell leads has object behind) r2 located = at_cell h b c r2

      through_shows : Gives ShowsDone (step k.options.servers i h0)
      through_shows = by_ready k co few e i s t y a p d its (λ x. SlotsShow x.hand.thread) by_spot

    pub assign_shows : Gives ShowsDone (step k.options.servers i h0)
    assign_shows = by p.depth refl
      where
        by : (d : ℕ) → p.depth ≡ d → Gives ShowsDone (step k.options.servers i h0)
        by zero z = absurd (flat z)
        by (suc d) depth = through_shows d depth

  pub box_has : (o : Operand) → i ≡ instr.Box o → Gives (ThreadDone (Owning (object_n (record { thread = y.number; count = y.made }))) (λ x g. g)) (step k.options.servers i h0)
  box_has o is = subst (λ j. Gives (ThreadDone (Owning (object_n (record { thread = y.number; count = y.made }))) (λ x g. g)) (step k.options.servers j h0)) (sym is) (box_owns o)

  pub mutex_has : (o : Operand) → i ≡ instr.Mutex o → Gives (ThreadDone (Owning (mutex_n (next_mutex s.rest.mutexes))) (λ x g. g)) (step k.options.servers i h0)
  mutex_has o is = subst (λ j. Gives (ThreadDone (Owning (mutex_n (next_mutex s.rest.mutexes))) (λ x g. g)) (step k.options.servers j h0)) (sym is) (mutex_owns o)
