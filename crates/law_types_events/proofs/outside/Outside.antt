-- After a plain step what is outside the one heap agrees with the types of its names: it is as it was, or the one node that the instruction put, which is inside.
use Rattle.std.proofs.Common.{◌≡◌, ℕ, zero, suc, ◌+◌, ◌≤◌, not, Bool, true, false, List, length, take, drop, Option, Some, None, option_map, refl, sym, ap, subst, ◌∙◌, arith}
use Rattle.std.specs.Prelude.{slice_get}
use Rattle.law_types_still.specs.Below.fr_base.declared.name.ObjNo.{ObjNo}
use Rattle.law_types_still.specs.Below.fr_base.declared.place.Lval.{Lval}
use Rattle.law_types_still.specs.Below.fr_base.declared.step.Fresh.{Fresh}
use Rattle.law_types_still.specs.Below.fr_base.declared.instruction.Instr.{Instr}
use Rattle.law_types_still.specs.Below.fr_base.declared.instruction.Instr.TheVariants as instr
use Rattle.law_types_still.specs.Below.fr_base.declared.instruction.Operand.{Operand}
use Rattle.law_types_events.specs.Below.fr_sound.Seen.{Gives as NamesGive}
use Rattle.law_types_still.specs.Below.law_plain_values.acts.Keeps.{KeepsNames}
use Rattle.law_types_still.specs.Below.heap_partition.declared.value.Owned.{Owned}
use Rattle.law_types_still.specs.Below.mutex_home.Mutexes.{next_mutex}
use Rattle.law_types_still.specs.Below.thread_state.View.{ThreadState}
use Rattle.law_types_still.specs.Below.journal.View.{EntryView}
use Rattle.law_types_still.specs.Below.server_model.declared.event.Event.{Event}
use Rattle.law_types_still.specs.Below.server_model.declared.event.What.{What}
use Rattle.law_types_still.specs.Below.server_model.declared.event.What.TheVariants.{Step, Deliver, Evict, Migrate}
use Rattle.law_types_still.specs.Below.server_model.Servers.{Server, Cluster, server_at}
use Rattle.law_types_still.specs.Below.server_model.Work.{Hand, then_some, thread_in, set_thread}
use Rattle.law_types_still.specs.Below.server_model.Events.{Stepped, enabled, begin_work, deliver, left_by, step, step_in, stepped, does}
use Rattle.law_types_still.specs.Below.server_model.Clusters.{hand_over_newer, done_at, apply}
use Rattle.law_types_still.specs.Below.coherent_memory.Names.{tot, if_so, Among, same_object}
use Rattle.law_types_still.specs.Below.coherent_memory.Things.{Spot, in_slot, in_temp, as_gift, as_content, as_result, in_hand, Location, at_slot, at_temp, in_cell, Thing, holds, lies, flies, server_things, things_of}
use Rattle.law_types_still.specs.Below.coherent_memory.Follow.{cell_of, place_at, locate}
use Rattle.law_types_still.specs.Below.coherent_memory.Sight.{Sight, sight}
use Rattle.law_types_still.specs.Below.coherent_memory.Requests.{is_par_end}
use Rattle.law_types_still.specs.Below.coherent_memory.OneHeap.{Node, object_n, mutex_n, same_node, is_in_state, value_is_in, one_heap}
use Rattle.law_types_still.proofs.Below.coherent_memory.Names.{if_none}
use Rattle.law_types_events.specs.Below.coherent_types.Names.{NameTypes, names_of}
use Rattle.law_types_events.specs.Below.coherent_types.ClusterTypes.{IsCoherent, misfit, gift_misfit}
use Rattle.law_types_still.specs.Below.law_counts_sums.Laws.{Gives, FewEvents}
use Rattle.law_types_still.proofs.Below.law_counts_sums.Results.{map_gives, over_gives, test_gives, both_give, weaker}
use Rattle.law_types_still.proofs.Below.law_counts_sums.Bags.{all_standing, rest_things, server_same, tot-set}
use Rattle.law_types_still.proofs.Below.law_counts_sums.Events.{tot-server}
use Rattle.law_types_still.proofs.Below.law_counts_sums.Applied.{go_with}
use Rattle.law_types_still.proofs.Below.law_counts_sums.Handing.{hand_over_newer_law}
use Rattle.law_types_still.proofs.Below.law_counts_sums.MutexResults.{mutex_self}
use Rattle.law_types_still.proofs.Below.law_counts_sums.Trades.{tot-append}
use Rattle.law_types_events.proofs.Below.law_counts_things.things.Goes.{Goes, thread_goes}
use Rattle.law_types_events.specs.Below.law_heap_steps.turns.Turns.{instr_at, instr_of}
use Rattle.law_types_events.proofs.Below.law_heap_steps.turns.Parts.{owned_in}
use Rattle.law_types_events.proofs.Below.law_heap_steps.turns.StarSteps.{alike_owned}
use Rattle.law_types_events.proofs.Below.law_heap_steps.turns.Events.{AtStep, Sends, events_are}
use Rattle.law_types_events.proofs.Below.law_heap_steps.mutexes.ThreadTurns.{quiet}
use Rattle.law_types_events.proofs.Below.law_heap_writes.drops.Under.{node_is}
use Rattle.law_types_events.proofs.Below.law_results_reads.Known as known
use Rattle.law_types_events.specs.Below.law_words_asked.writes.Writing.{WritesThrough, assigns}
use Rattle.law_types_events.proofs.Below.law_heap_writes.writes.CellChange.{itself}
use Rattle.law_types_events.proofs.Below.law_heap_writes.writes.Chains.{Chain, chain_to}
use Rattle.law_types_events.proofs.Below.law_heap_writes.writes.Untouched.{own_end}
use Rattle.law_types_still.proofs.heap.Following.{HasHeap}
use Rattle.law_types_still.specs.fits.Fits.{StandsOnce, gift_is_in, outside_misfits}
use Rattle.law_types_still.proofs.fits.Once.{sound_stand_once}
use Rattle.law_types_still.proofs.fits.Fits.{nothing, typed_heaps_fit}
use Rattle.law_types_still.proofs.fits.Outside.{misfits_follow}
use Rattle.law_types_events.specs.heap.States.{HeapTyped, HeapKept}
use Rattle.law_types_events.proofs.heap.States.{events_keep_names}
use Rattle.law_types_events.proofs.sorts.Steps.{goes_number}
use Rattle.law_types_events.proofs.sorts.Each.{events_keep_sorts}
use Rattle.law_types_still.specs.heap.Counted.{sorts_wrong}
use Rattle.law_types_events.specs.outside.Outside.{StepsFitOutside, StepAgrees, StepsAgree}
use Rattle.law_types_events.proofs.outside.Walk.{Weighs, f, Light, to_server, WhereDone}
use Rattle.law_types_events.proofs.outside.Names.{n2}
use Rattle.law_types_events.proofs.outside.Agreeing.{is_that, agreeing, content_weighs, result_weighs, lying_weighs, flying_weighs, light_before, end_light, unlock_light}
use Rattle.law_types_events.proofs.outside.Steps.{end_node, special_of, ThreadDone, Allowed, step_light, steps_here, Owning, SlotsShow, assign_shows, box_has, mutex_has}
use Rattle.law_types_events.proofs.outside.Inside.{own_names, thread_owns, owned_in_state, chaining, chains_before, end_in}
use Rattle.law_types_events.proofs.outside.Gifts.{in_counts, gift_counts}
use Rattle.law_types_events.proofs.Below.law_results_reads.Flights.{has_weight}

all_give : {A X : Type 0} (P : A → X → Type 0) (o : Option X) → ((a : A) → Gives (P a) o) → Gives (λ x. (a : A) → P a x) o
all_give P None g = tt
all_give P (Some x) g = λ a. g a

always : {X : Type 0} (P : X → Type 0) (o : Option X) → ((x : X) → P x) → Gives P o
always P None h = tt
always P (Some x) h = h x

-- WHAT IS OUTSIDE

-- what agrees but for one node, which is in the one heap, agrees outside it
module _ (k : Cluster) (each_once : StandsOnce k) (heap : HasHeap k) (n : NameTypes) (special : Option Node) (inside_it : (q : Node) → is_that special q ≡ true → is_in_state (sight k) q ≡ true) (light : tot (f (agreeing n special)) (things_of k) ≡ 0) where
  abbrev s : Sight
  s = sight k

  light_at : (x : Thing) → Among x s.things → f (agreeing n special) x ≡ 0
  light_at x a = let l = has_weight (f (agreeing n special)) x s.things a in omega (arith, l, light)

  by_node : (q : Node) (m : ℕ) → if_so (not (is_that special q)) m ≡ 0 → if_so (not (is_in_state s q)) m ≡ 0
  by_node q m z = by (is_that special q) refl
    where
      by : (b : Bool) → is_that special q ≡ b → if_so (not (is_in_state s q)) m ≡ 0
      by true e = in_counts (is_in_state s q) m (inside_it q e)
      by false e = if_none (not (is_in_state s q)) m (sym (ap (λ b. if_so (not b) m) e) ∙ z)

  held_out : (p : Spot) (v : Owned) → Among (holds p v) s.things → if_so (not (value_is_in s (holds p v))) (misfit n (holds p v)) ≡ 0
  held_out (as_content m) v a = by_node (mutex_n m) (misfit n (holds (as_content m) v)) (sym (content_weighs n special m v) ∙ light_at (holds (as_content m) v) a)
  held_out (as_result t) v a = if_none (not (value_is_in s (holds (as_result t) v))) (misfit n (holds (as_result t) v)) (sym (result_weighs n special t v) ∙ light_at (holds (as_result t) v) a)
  held_out (as_gift t) v a = if_none (not (value_is_in s (holds (as_gift t) v))) 0 refl
  held_out (in_slot t i) v a = refl
  held_out (in_temp t i) v a = refl
  held_out in_hand v a = refl

  thing_out : (x : Thing) → Among x s.things → if_so (not (value_is_in s x)) (misfit n x) ≡ 0
  thing_out (holds p v) a = held_out p v a
  thing_out (lies r j c) a = by_node (object_n c.object) (misfit n (lies r j c)) (sym (lying_weighs n special r j c) ∙ light_at (lies r j c) a)
  thing_out (flies u c) a = by_node (object_n c.object) (misfit n (flies u c)) (sym (flying_weighs n special u c) ∙ light_at (flies u c) a)
  thing_out _ a = refl

  fits_outside : outside_misfits n s ≡ 0
  fits_outside =
      let things = nothing (λ x. if_so (not (value_is_in s x)) (misfit n x)) s.things thing_out in
      let gifts = nothing (λ x. if_so (not (gift_is_in s x)) (gift_misfit n s x)) s.ground.threads (λ x a. gift_counts k each_once heap x a n) in
      omega (arith, things, gifts)

-- THE EVENT

module _ (k : Cluster) (co : IsCoherent k) (few : FewEvents k) (e : Event) (i : Instr) (s : Server) (t : ℕ) (y : ThreadState) (a : AtStep k e i s t y) where
  abbrev servers : ℕ
  servers = k.options.servers

  abbrev h0 : Hand
  h0 = record { work = begin_work s.rest; thread = y }

  abbrev handed : Stepped → Cluster × EntryView
  handed d = (record k { servers = hand_over_newer e.server (length s.rest.outbox) (stepped s d).0 k.servers }, (stepped s d).1)

  abbrev Sent_on : Stepped → Type 0
  Sent_on d = Sends k e s (stepped s d)

  abbrev z : known.Steps k e.server t s y i
  z = steps_here k co few e i s t y a

  -- sums over the cluster afterwards
  sum_after : (g : Thing → ℕ) (d : Stepped) → Sent_on d → tot g (things_of (handed d).0) + tot g (server_things s) ≡ tot g (things_of k) + tot g (server_things (stepped s d).0)
  sum_after g d sends =
      let older = length s.rest.outbox in
      let new = (stepped s d).0 in
      let u = tot-server g k.servers e.server s new a.here in
      let goes = go_with k.servers e.server new (take older new.rest.outbox) (drop older new.rest.outbox) sends in
      omega (arith, hand_over_newer_law g e.server older s new k.servers a.here goes, u.0, u.1)

  light_here : (w : Weighs) → tot (f w) (things_of k) ≡ 0 → tot (f w) (server_things s) ≡ 0
  light_here w light = let u = tot-server (f w) k.servers e.server s s a.here in omega (arith, light, u.0)

  light_after : (w : Weighs) (d : Stepped) → Sent_on d → tot (f w) (things_of k) ≡ 0 → Light w s.rest.number d.hand.work.rest → tot (f w) (things_of (handed d).0) ≡ 0
  light_after w d sends light done = let sum = sum_after (f w) d sends in let new = to_server w s.rest.number (stepped s d).0 done in omega (arith, sum, light, new)

  -- what the thread owns
  own_after : (q : Node) (d : Stepped) → Sent_on d → d.hand.thread.number ≡ y.number → 1 ≤ owned_in q d.hand.thread.slots + owned_in q d.hand.thread.temps → is_in_state (sight (handed d).0) q ≡ true
  own_after q d sends number own =
      let g = own_names q in
      let x = d.hand.thread in
      let new = (stepped s d).0 in
      let m = new.rest.number in
      let there = thread_owns q m false x in
      let put = tot-set m g s.threads t y x a.at (number ∙ a.number) in
      let sum = sum_after g d sends in
      let before = tot-server g k.servers e.server s s a.here in
      owned_in_state (sight (handed d).0) q (omega (arith, own, there, put, sum, before.0, server_same new g, tot-append g (all_standing m (set_thread s.threads x)) (rest_things m (s.events + 1) new.rest)))

  -- THE NODE THAT IS PUT

  abbrev Inside_it : Option Node → Stepped → Type 0
  Inside_it special d = (names : Fresh) → d.names ≡ Some names → Sent_on d → StandsOnce (handed d).0 → (q : Node) → is_that special q ≡ true → is_in_state (sight (handed d).0) q ≡ true

  goes_there : Gives (λ (d : Stepped). Goes k.code y d.hand.thread) (step servers i h0)
  goes_there = thread_goes k.code servers i y a.code s.rest h0 refl

  none_inside : Gives (Inside_it None) (step servers i h0)
  none_inside = always (Inside_it None) (step servers i h0) (λ d names is sends each_once q no. absurd cc)

  owned_inside : (p : Node) → Gives (ThreadDone (Owning k co few e i s t y a p) (λ x g. g)) (step servers i h0) → Gives (Inside_it (Some p)) (step servers i h0)
  owned_inside p owns =
      both_give (ThreadDone (Owning k co few e i s t y a p) (λ x g. g)) (λ (d : Stepped). Goes k.code y d.hand.thread) (Inside_it (Some p)) (step servers i h0) owns goes_there
      (λ d own goes names is sends each_once q same. subst (λ r. is_in_state (sight (handed d).0) r ≡ true) (node_is p q same) (own_after p d sends (goes_number goes) (own names is)))

  module _ (p : Lval) (o : Operand) (is : i ≡ instr.Assign p o) (q : ObjNo) (ends : place_at (sight k).ground y.number p ≡ Some (in_cell q)) where
    single : is_par_end (Some i) ≡ false
    single = ap (λ j. is_par_end (Some j)) is

    no_end : {u m : ℕ} → Some (at_slot u m) ≡ Some (in_cell q) → ⊥
    no_end e = cc

    chain : (xs : List ObjNo) × Chain y.slots (cell_of (sight k).ground.cells) q xs
    chain = by p.depth refl
      where
        by : (d : ℕ) → p.depth ≡ d → (xs : List ObjNo) × Chain y.slots (cell_of (sight k).ground.cells) q xs
        by zero flat = absurd (no_end (sym (ap (locate (sight k).ground y.number p.slot) flat) ∙ ends))
        by (suc d) depth =
            let through : WritesThrough i p d = subst (λ j. WritesThrough j p d) (sym is) (assigns o depth) in
            let own = own_end k e.server t s y i z p d through (quiet k co.sound e i single s t y a).alone q ends in
            chain_to k (known.paths k e.server t s y i z) (known.standing k e.server t s y i z) (known.goes k e.server t s y i z) own.0 own.1 q own.2

    allowed : Allowed k co few e i s t y a (chaining k q)
    allowed = record {
      takes = λ r it c. (let no : instr.Assign p o ≡ instr.Read r true = sym is ∙ it in absurd cc);
      assigns_it = λ r o2 it c ends2 v.
          let same_place : p ≡ r = (let both : instr.Assign p o ≡ instr.Assign r o2 = sym is ∙ it in cc) in
          let same : q ≡ c = (let both : Some (in_cell q) ≡ Some (in_cell c) = sym ends ∙ ap (place_at (sight k).ground y.number) same_place ∙ ends2 in cc) in
          let it_is : same_object c q ≡ true = subst (λ u. same_object u q ≡ true) same (itself q) in
          in_counts (same_object c q) _ it_is;
      boxes = λ o2 it v. (let no : instr.Assign p o ≡ instr.Box o2 = sym is ∙ it in absurd cc);
      makes = λ o2 it v. refl;
      unlocks = λ it v m e1 e2. refl;
      ends = λ o2 it v e1. refl;
    }

    written_inside : Gives (Inside_it (Some (object_n q))) (step servers i h0)
    written_inside =
        let light = chains_before k (sound_stand_once k co.sound) q in
        both_give (λ (d : Stepped). WhereDone (chaining k q) s.rest.number d × Goes k.code y d.hand.thread) (ThreadDone (SlotsShow k co few e i s t y a) (λ x g. g)) (Inside_it (Some (object_n q))) (step servers i h0)
        (both_give (λ (d : Stepped). WhereDone (chaining k q) s.rest.number d) (λ (d : Stepped). Goes k.code y d.hand.thread) (λ (d : Stepped). WhereDone (chaining k q) s.rest.number d × Goes k.code y d.hand.thread) (step servers i h0)
        (step_light k co few e i s t y a (chaining k q) allowed (light_here (chaining k q) light)) goes_there (λ d u v. (u, v)))
        (assign_shows k co few e i s t y a p o is q ends)
        (λ d u show names done sends each_once r same.
        let own : (v : Node) → 1 ≤ owned_in v y.slots → is_in_state (sight (handed d).0) v ≡ true =
        λ v l. own_after v d sends (goes_number u.1) (let alike = alike_owned v d.hand.thread.slots y.slots (sym (show names done)) in omega (arith, l, alike)) in
        subst (λ v. is_in_state (sight (handed d).0) v ≡ true) (node_is (object_n q) r same)
        (end_in k (sound_stand_once k co.sound) q y.slots (handed d).0 each_once own (light_after (chaining k q) d sends light (u.0 names done)) chain.0 chain.1))

  -- whatever it is, it is in the one heap afterwards
  special_inside : Gives (Inside_it (special_of k s y i)) (step servers i h0)
  special_inside = by i refl
    where
      at_end : (p : Lval) (o : Operand) → i ≡ instr.Assign p o → (l : Option Location) → place_at (sight k).ground y.number p ≡ l → Gives (Inside_it (end_node l)) (step servers i h0)
      at_end p o is None ends = none_inside
      at_end p o is (Some (at_slot u m)) ends = none_inside
      at_end p o is (Some (at_temp u m)) ends = none_inside
      at_end p o is (Some (in_cell q)) ends = written_inside p o is q ends

      by : (j : Instr) → i ≡ j → Gives (Inside_it (special_of k s y j)) (step servers i h0)
      by (instr.Box o) is = owned_inside (object_n (record { thread = y.number; count = y.made })) (box_has k co few e i s t y a o is)
      by (instr.Mutex o) is = owned_inside (mutex_n (next_mutex s.rest.mutexes)) (mutex_has k co few e i s t y a o is)
      by (instr.Assign p o) is = at_end p o is (place_at (sight k).ground y.number p) refl
      by _ is = none_inside

  -- WHAT AGREES

  module _ (after : NamesGive) (kept : KeepsNames (one_heap k) co.types.typing.gives after) where
    abbrev n : NameTypes
    n = n2 k co after kept

    abbrev special : Option Node
    special = special_of k s y i

    excused : (q : Node) (m : ℕ) → special ≡ Some q → same_node q q ≡ true → if_so (not (is_that special q)) m ≡ 0
    excused q m is it = in_counts (is_that special q) m (ap (λ o. is_that o q) is ∙ it)

    puts_allowed : Allowed k co few e i s t y a (agreeing n special)
    puts_allowed = record {
      takes = λ p is o. if_none (not (is_that special (object_n o))) 0 refl;
      assigns_it = λ p o is q ends v. excused (object_n q) _ (ap (special_of k s y) is ∙ ap end_node ends) (itself q);
      boxes = λ o is v. excused (object_n (record { thread = y.number; count = y.made })) _ (ap (special_of k s y) is) (itself (record { thread = y.number; count = y.made }));
      makes = λ o is v. excused (mutex_n (next_mutex s.rest.mutexes)) _ (ap (special_of k s y) is) (mutex_self (next_mutex s.rest.mutexes));
      unlocks = λ is p m e1 e2. unlock_light k e.server t s y i z after kept special is p m e1 e2;
      ends = λ o is p e1. end_light k e.server t s y i z after kept special o is p e1;
    }

    abbrev Fits_after : Stepped → Type 0
    Fits_after d = (names : Fresh) → d.names ≡ Some names → Sent_on d → StandsOnce (handed d).0 → HeapTyped co.types.table (handed d).0 → outside_misfits n (sight (handed d).0) ≡ 0

    has_heap : (c : Cluster) → StandsOnce c → HeapTyped co.types.table c → HasHeap c
    has_heap c each_once heap = record {
      numbers = each_once.numbers;
      table = co.types.table;
      typing = heap.typing;
      state = heap.state;
    }

    fits_after : Gives Fits_after (step servers i h0)
    fits_after =
        let light = light_before k co after kept special in
        both_give (λ (d : Stepped). WhereDone (agreeing n special) s.rest.number d) (Inside_it special) Fits_after (step servers i h0)
        (step_light k co few e i s t y a (agreeing n special) puts_allowed (light_here (agreeing n special) light)) special_inside
        (λ d done inside names is sends each_once heap.
        fits_outside (handed d).0 each_once (has_heap (handed d).0 each_once heap) n special (inside names is sends each_once) (light_after (agreeing n special) d sends light (done names is)))

-- what each event with a plain step leaves
module _ (k : Cluster) (co : IsCoherent k) where
  abbrev Outside : Cluster × EntryView → Type 0
  Outside d = (names : Fresh) → d.1.done ≡ Some names → StandsOnce d.0 → HeapTyped co.types.table d.0 → (after : NamesGive) → KeepsNames (one_heap k) co.types.typing.gives after → outside_misfits (names_of co.types.object after) (sight d.0) ≡ 0

module _ (k : Cluster) (co : IsCoherent k) (few : FewEvents k) (e : Event) where
  line : (i : Instr) (s : Server) (t : ℕ) (y : ThreadState) (a : AtStep k e i s t y)
      → Gives (λ (d : Stepped). Sends k e s (stepped s d) → Outside k co (handed k co few e i s t y a d)) (step k.options.servers i (record { work = begin_work s.rest; thread = y }))
  line i s t y a =
      weaker (λ (d : Stepped). (after : NamesGive) (kept : KeepsNames (one_heap k) co.types.typing.gives after) → Fits_after k co few e i s t y a after kept d)
      (λ (d : Stepped). Sends k e s (stepped s d) → Outside k co (handed k co few e i s t y a d)) (step k.options.servers i (record { work = begin_work s.rest; thread = y }))
      (all_give (λ (after : NamesGive) (d : Stepped). (kept : KeepsNames (one_heap k) co.types.typing.gives after) → Fits_after k co few e i s t y a after kept d) (step k.options.servers i (record { work = begin_work s.rest; thread = y }))
      (λ after. all_give (λ (kept : KeepsNames (one_heap k) co.types.typing.gives after) (d : Stepped). Fits_after k co few e i s t y a after kept d) (step k.options.servers i (record { work = begin_work s.rest; thread = y }))
      (λ kept. fits_after k co few e i s t y a after kept)))
      (λ d fits sends names is each_once heap after kept. fits after kept names is sends each_once heap)

  -- AN EVENT THAT IS NO STEP

  abbrev Told : Option Instr → EntryView → Type 0
  Told o x = (names : Fresh) → x.done ≡ Some names → (i : Instr) × (o ≡ Some i)

  abbrev At : Option Instr → Server × EntryView → Type 0
  At o x = Told o x.1

  none_told : (o : Option Instr) (x : Server × EntryView) → x.1.done ≡ None → At o x
  none_told o x g names done = let z : None ≡ Some names = sym g ∙ done in absurd (cc z)

  steps_told : (s : Server) (t : ℕ) → Gives (At (instr_at k (Step t) s)) (does k.code k.options s (Step t))
  steps_told s t = of_thread (thread_in s.threads t)
    where
      of_instr : (x : ThreadState) (o : Option Instr) → Gives (At o) (option_map (stepped s) (then_some o (λ i. step k.options.servers i (record { work = begin_work s.rest; thread = x }))))
      of_instr x None = tt
      of_instr x (Some i) = map_gives (At (Some i)) (step k.options.servers i (record { work = begin_work s.rest; thread = x })) (stepped s) (λ d g names done. (i, refl))

      of_thread : (o : Option ThreadState) → Gives (At (then_some o (λ x. slice_get k.code x.pc))) (option_map (stepped s) (then_some (option_map (λ x. record { work = begin_work s.rest; thread = x }) o) (step_in k.code k.options.servers)))
      of_thread None = tt
      of_thread (Some x) = of_instr x (slice_get k.code x.pc)

  does_told : (s : Server) (w : What) → Gives (At (instr_at k w s)) (does k.code k.options s w)
  does_told s (Step t) = steps_told s t
  does_told s (Deliver i) = map_gives (At None) (deliver k.code i s) (left_by s.events None None) (λ x g. none_told None (left_by s.events None None x) refl)
  does_told s (Evict c) = map_gives (At None) _ (left_by s.events None None) (λ x g. none_told None (left_by s.events None None x) refl)
  does_told s (Migrate t target) = map_gives (At None) _ (left_by s.events (Some t) None) (λ x g. none_told None (left_by s.events (Some t) None x) refl)

  abbrev On : Option Instr → Cluster × EntryView → Type 0
  On o d = Told o d.1

  entry_told : Gives (On (instr_of k e)) (apply k e)
  entry_told = by (server_at k.servers e.server)
    where
      of_server : (s : Server) → Gives (On (instr_at k e.what s)) (option_map (λ d. (record k { servers = hand_over_newer e.server (length s.rest.outbox) d.0 k.servers }, d.1)) (done_at k e.what s))
      of_server s = over_gives (At (instr_at k e.what s)) (On (instr_at k e.what s)) (done_at k e.what s) _ (test_gives (At (instr_at k e.what s)) (enabled k.options s e.what) (does k.code k.options s e.what) (λ on. does_told s e.what)) (λ x told. told)

      by : (o : Option Server) → Gives (On (then_some o (instr_at k e.what))) (then_some o (λ s. option_map (λ d. (record k { servers = hand_over_newer e.server (length s.rest.outbox) d.0 k.servers }, d.1)) (done_at k e.what s)))
      by None = tt
      by (Some s) = of_server s

  outside : Gives (Outside k co) (apply k e)
  outside = by (instr_of k e) refl
    where
      by : (o : Option Instr) → instr_of k e ≡ o → Gives (Outside k co) (apply k e)
      by None g = weaker (On (instr_of k e)) (Outside k co) (apply k e) entry_told (λ d told names done each_once heap after kept. (let i = told names done in let no : None ≡ Some i.0 = sym g ∙ i.1 in absurd (cc no)))
      by (Some i) g = events_are (Outside k co) k e i co.sound few (λ s t y a. line i s t y a) g

pub steps_fit_outside : StepsFitOutside
steps_fit_outside k e co few =
    both_give (Outside k co) (HeapKept co.types.table k co.types.typing) (λ (d : Cluster × EntryView). (names : Fresh) → d.1.done ≡ Some names → StandsOnce d.0 → (after : NamesGive) → KeepsNames (one_heap k) co.types.typing.gives after → outside_misfits (names_of co.types.object after) (sight d.0) ≡ 0) (apply k e)
    (outside k co few e) (events_keep_names k e co few) (λ d out kept names is each_once after same. out names is each_once kept.heap after same)

pub steps_agree : StepsAgree
steps_agree k e co few =
    both_give (Outside k co) (λ (d : Cluster × EntryView). HeapKept co.types.table k co.types.typing d × (sorts_wrong co.types.table (sight d.0) ≡ 0)) (λ (d : Cluster × EntryView). (names : Fresh) → d.1.done ≡ Some names → StandsOnce d.0 → StepAgrees co.types.table k co.types.typing d) (apply k e)
    (outside k co few e)
    (both_give (HeapKept co.types.table k co.types.typing) (λ (d : Cluster × EntryView). sorts_wrong co.types.table (sight d.0) ≡ 0) (λ (d : Cluster × EntryView). HeapKept co.types.table k co.types.typing d × (sorts_wrong co.types.table (sight d.0) ≡ 0)) (apply k e)
    (events_keep_names k e co few) (events_keep_sorts k e co few) (λ d u v. (u, v)))
    (λ d out u names is each_once.
    let kept = u.0 in
    let y = kept.heap.typing in
    let fits = typed_heaps_fit d.0 each_once co.types.table y kept.heap.state u.1 in
    record { kept = kept; fits = fits; whole = misfits_follow d.0 each_once co.types.table y fits co.types.object (out names is each_once kept.heap y.gives kept.names) })
