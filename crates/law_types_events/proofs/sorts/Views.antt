-- Each event of a coherent cluster leaves views that a parent sees which waits at its par.
use Rattle.std.proofs.Common.{◌≡◌, ◌≤◌, inl, inr, ℕ, zero, suc, ◌+◌, ◌==◌, ◌||◌, ◌&&◌, not, Bool, true, false, if◌then◌else◌, List, [], ◌∷◌, map, reverse, length, Option, Some, None, is_some, refl, sym, ap, subst, ◌∙◌, arith}
use Rattle.std.specs.Prelude.{slice_get, option_map}
use Rattle.std.proofs.lemmas.List.{length-reverse, length-map}
use Rattle.std.proofs.lemmas.Bool.{eq-eqb}
use Rattle.law_types_still.specs.Below.fr_base.Lists.{last_of}
use Rattle.law_types_still.specs.Below.fr_base.Rooms.{WithRoom}
use Rattle.law_types_still.specs.Below.server_msgs.declared.message.Message.{Message}
use Rattle.law_types_still.specs.Below.fr_base.declared.name.ObjNo.{ObjNo}
use Rattle.law_types_still.specs.Below.fr_base.declared.step.Fresh.{Fresh}
use Rattle.law_types_still.specs.Below.fr_base.declared.instruction.Instr.{Instr}
use Rattle.law_types_still.specs.Below.fr_base.declared.instruction.Instr.TheVariants as instr
use Rattle.law_types_still.specs.Below.fr_typing.Kinds.{Kind, own, shared, mutable, view, Piece, whole, gone, boxed}
use Rattle.law_types_still.specs.Below.fr_typing.Places.{Slot, Env}
use Rattle.law_types_still.specs.Below.fr_typing.Checks.{is_int}
use Rattle.law_types_still.specs.Below.fr_sound.States.{env_at, is_hidden, is_held}
use Rattle.law_types_still.specs.Below.fr_code.CodeTypes.{Entry, wait}
use Rattle.law_types_still.specs.Below.fr_code.CodeTable.{IsTable}
use Rattle.law_types_still.specs.Below.thread_state.View.{ThreadState, is_over, new_thread}
use Rattle.law_types_still.specs.Below.thread_state.declared.phase.Phase.{Phase}
use Rattle.law_types_still.specs.Below.thread_state.declared.phase.Phase.TheVariants as phase
use Rattle.law_types_still.specs.Below.thread_state.declared.value.Value.{Value}
use Rattle.law_types_still.specs.Below.thread_state.declared.value.Value.TheVariants as value
use Rattle.law_types_still.specs.Below.journal.View.{EntryView}
use Rattle.law_types_still.specs.Below.server_model.declared.event.Event.{Event}
use Rattle.law_types_still.specs.Below.server_model.declared.event.What.{What}
use Rattle.law_types_still.specs.Below.server_model.declared.event.What.TheVariants.{Step, Deliver, Evict, Migrate}
use Rattle.law_types_still.specs.Below.server_model.Servers.{Rest, Server, Cluster, server_at}
use Rattle.law_types_still.specs.Below.server_model.Work.{Hand, Site, thread_in, set_thread, then_some, beside_threads}
use Rattle.law_types_still.specs.Below.server_model.Start.{next_thread}
use Rattle.law_types_still.specs.Below.server_model.Moving.{migrate}
use Rattle.law_types_still.specs.Below.server_model.Events.{can_step, Stepped, enabled, begin_work, begin_at, left_by, deliver, evict_copy, step, step_in, stepped, does}
use Rattle.law_types_still.specs.Below.server_model.Clusters.{apply}
use Rattle.law_types_still.specs.Below.coherent_memory.Names.{tot, one, other, if_so, some, Among}
use Rattle.law_types_still.specs.Below.coherent_memory.Things.{things_of}
use Rattle.law_types_still.specs.Below.coherent_memory.Follow.{Standing, threads_in}
use Rattle.law_types_still.specs.Below.coherent_memory.Sight.{Sight, sight}
use Rattle.law_types_still.specs.Below.coherent_memory.OneHeap.{plain_value}
use Rattle.law_types_still.specs.Below.coherent_types.Names.{names_of}
use Rattle.law_types_still.specs.Below.coherent_types.ClusterTypes.{IsCoherent, entry_wrong, refers_to, parent_sees, unseen, unseen_slots, unseen_temps, views_wrong}
use Rattle.law_types_events.specs.Below.law_words_paths.paths.HeapStore.{GoesOn}
use Rattle.law_types_events.proofs.Below.law_words_paths.paths.Shown.{at_behind, behind_is}
use Rattle.law_types_events.proofs.Below.law_words_paths.paths.Sole.{some_is}
use Rattle.law_types_still.specs.Below.law_counts_sums.Laws.{Gives, FewEvents}
use Rattle.law_types_still.proofs.Below.law_counts_sums.Results.{map_gives, over_gives, both_give, weaker}
use Rattle.law_types_still.proofs.Below.law_counts_sums.Bags.{thread_number}
use Rattle.law_types_still.proofs.Below.law_counts_sums.KnownSound.{on_standing, sum_standing}
use Rattle.law_types_still.proofs.Below.law_counts_things.things.Mail.{Mailed, StartsAt, BeginsBy, step_tells}
use Rattle.law_types_still.proofs.Below.law_counts_things.things.Goes.{Goes, thread_goes}
use Rattle.law_types_still.proofs.Below.law_counts_things.things.Threads.{Parcel}
use Rattle.law_types_still.proofs.Below.law_counts_things.things.Handed.{InParcel}
use Rattle.law_types_still.proofs.things.Lifted.{lifted}
use Rattle.law_types_still.specs.threads.Threads.{TypesThreads}
use Rattle.law_types_still.proofs.threads.Undone.{undone_keep}
use Rattle.law_types_events.specs.Below.law_types_still.heap.Counted.{HasNumbers}
use Rattle.law_types_events.proofs.Below.law_types_still.heap.Following.{HasHeap}
use Rattle.law_types_events.proofs.Below.law_types_still.heap.Values.{running, held_shown}
use Rattle.law_types_events.proofs.Below.law_types_still.heap.Leads.{each_none, to_other}
use Rattle.law_types_events.proofs.Below.law_types_still.heap.Forms.{within_env, newest, older}
use Rattle.law_types_events.specs.heap.States.{HeapTyped}
use Rattle.law_types_events.proofs.heap.States.{events_keep}
use Rattle.law_types_events.proofs.Below.law_results_reads.Known.{Steps, able}
use Rattle.law_types_events.specs.sorts.Sorts.{EventsKeepViews}
use Rattle.law_types_events.proofs.sorts.Tables.{LowInts, low_ints}
use Rattle.law_types_events.proofs.sorts.Parts.{look_of, seen_view, suits, suits_named, suits_slot, suits_at}
use Rattle.law_types_events.proofs.sorts.Suited.{Suited, top_suits, Topped, topped_last, none_from, unsuited_of}
use Rattle.law_types_events.proofs.sorts.Starts.{light_weighs, start_typed}
use Rattle.law_types_events.proofs.sorts.Known.{entry_known}
use Rattle.law_types_events.proofs.sorts.Steps.{IsDone, goes_number}
use Rattle.law_types_events.proofs.sorts.Server.{requests, unsuited_by, SendsOf, stepper, at_server}
use Rattle.law_types_events.proofs.sorts.Pairs.{SeenIn, Waits, pair_waits, pair_posts}
use Rattle.law_types_events.proofs.sorts.Waiting.{waits_for, More, LeavesMore, lifted_more, sees_by, stands_by, server_sum, before_most, after_least}
use Rattle.law_types_events.proofs.sorts.Each.{also, numbers_kept, forms_suit}

-- WHAT IS SEEN OF EACH THREAD

-- what the branches see of a pair that starts: what their parent refers to
abbrev instr_news : Rest → ThreadState → Option Instr → ℕ → ObjNo → Bool
instr_news r y (Some (instr.Par cs pc ds other)) t o = waits_for t (phase.WaitPar (next_thread r) (next_thread r + 1)) && some (refers_to o y.slots)
instr_news r y i t o = false

abbrev thread_news : Cluster → Rest → Option ThreadState → ℕ → ObjNo → Bool
thread_news k r None t o = false
thread_news k r (Some y) t o = instr_news r y (slice_get k.code y.pc) t o

abbrev server_news : Cluster → What → Option Server → ℕ → ObjNo → Bool
server_news k (Step u) (Some s) t o = thread_news k s.rest (thread_in s.threads u) t o
server_news k w s t o = false

abbrev seen_before : Cluster → ℕ → ObjNo → Bool
seen_before k t o = some (tot (parent_sees t o) (sight k).ground.threads)

-- what parents see that wait before the event, and those of a pair that starts
abbrev seen_by : Cluster → Event → ℕ → ObjNo → Bool
seen_by k e t o = seen_before k t o || server_news k e.what (server_at k.servers e.server) t o

or_left : (a b : Bool) → a ≡ true → a || b ≡ true
or_left true b e = refl
or_left false b e = absurd cc

or_right : (a b : Bool) → b ≡ true → a || b ≡ true
or_right true b e = refl
or_right false b e = e

and_both : (a b : Bool) → a ≡ true → b ≡ true → a && b ≡ true
and_both true b e f = f
and_both false b e f = absurd cc

-- AT A SERVER

module _ (k : Cluster) (e : Event) (co : IsCoherent k) (few : FewEvents k) (s : Server) (here : server_at k.servers e.server ≡ Some s) (u : ℕ) (is : e.what ≡ Step u) where
  abbrev S : ℕ → ObjNo → Bool
  S = seen_by k e

  abbrev nt : ℕ
  nt = next_thread s.rest

  news_is : (y : ThreadState) (i : Instr) → thread_in s.threads u ≡ Some y → slice_get k.code y.pc ≡ Some i → (t : ℕ) (o : ObjNo) → server_news k e.what (server_at k.servers e.server) t o ≡ instr_news s.rest y (Some i) t o
  news_is y i q f t o =
      ap (λ w. server_news k w (server_at k.servers e.server) t o) is ∙ ap (λ x. server_news k (Step u) x t o) here ∙ ap (λ x. thread_news k s.rest x t o) q ∙ ap (λ j. instr_news s.rest y j t o) f

  abbrev f : Standing → ℕ
  f = unsuited_by co.types.table S

  abbrev M : ℕ → Message → Type 0
  M = Parcel (InParcel f)

  -- a pair sends two threads whose views are seen
  sends_pair : (y : ThreadState) (cs ds : WithRoom (ℕ × Bool)) (pc two : ℕ) → enabled k.options s (Step u) ≡ true → thread_in s.threads u ≡ Some y → slice_get k.code y.pc ≡ Some (instr.Par cs pc ds two) → Mailed M s.rest.number s.rest.outbox s.rest
      → Gives (λ (d : Stepped). Mailed M s.rest.number s.rest.outbox d.hand.work.rest) (step k.options.servers (instr.Par cs pc ds two) (record { work = begin_work s.rest; thread = y }))
  sends_pair y cs ds pc two able q code mail =
      let z = stepper k co few e.server s here S u y (instr.Par cs pc ds two) able q code in
      let known = entry_known k e.server u s y (instr.Par cs pc ds two) z in
      let row = co.types.is_table.rows y.pc known.0 known.1 in
      let same : row.instruction ≡ instr.Par cs pc ds two = some_is (sym row.there ∙ code) in
      let start1 = start_typed co.types.table y.pc known.0 row.instruction row.successors row.leads pc (subst (λ j. StartsAt j pc) (sym same) (inl refl)) in
      let start2 = start_typed co.types.table y.pc known.0 row.instruction row.successors row.leads two (subst (λ j. StartsAt j two) (sym same) (inr refl)) in
      let seen : (t : ℕ) → waits_for t (phase.WaitPar nt (nt + 1)) ≡ true → SeenIn (S t) y.slots = (λ t w o h. or_right (seen_before k t o) (server_news k e.what (server_at k.servers e.server) t o) (news_is y (instr.Par cs pc ds two) q code t o ∙ and_both (waits_for t (phase.WaitPar nt (nt + 1))) (some (refers_to o y.slots)) w h)) in
      pair_posts k.options.servers s.rest y cs ds pc two M s.rest.number s.rest.outbox mail S (seen nt (or_left (nt == nt) (nt + 1 == nt) (eq-eqb nt nt refl))) (seen (nt + 1) (or_right (nt == nt + 1) (nt + 1 == nt + 1) (eq-eqb (nt + 1) (nt + 1) refl)))
      (λ t vs light. (let none = light_weighs (S nt) start1.env vs start1.light light in ap (entry_wrong (unsuited_of (S nt) (new_thread nt pc vs))) start1.at ∙ omega (arith, none)))
      (λ t vs light. (let none = light_weighs (S (nt + 1)) start2.env vs start2.light light in ap (entry_wrong (unsuited_of (S (nt + 1)) (new_thread (nt + 1) two vs))) start2.at ∙ omega (arith, none)))

  -- what another instruction starts has no views
  sends_other : (y : ThreadState) (i : Instr) → ((pc : ℕ) → StartsAt i pc → (cs : WithRoom (ℕ × Bool)) × (body : ℕ) × (i ≡ instr.Spawn cs body)) → enabled k.options s (Step u) ≡ true → thread_in s.threads u ≡ Some y → slice_get k.code y.pc ≡ Some i
      → Mailed M s.rest.number s.rest.outbox s.rest → Gives (λ (d : Stepped). Mailed M s.rest.number s.rest.outbox d.hand.work.rest) (step k.options.servers i (record { work = begin_work s.rest; thread = y }))
  sends_other y i spawns able q code mail =
      let z = stepper k co few e.server s here S u y i able q code in
      let known = entry_known k e.server u s y i z in
      let row = co.types.is_table.rows y.pc known.0 known.1 in
      let same : row.instruction ≡ i = some_is (sym row.there ∙ code) in
      let begins : BeginsBy M k.options.servers s.rest i = λ pc vs r at c d g.
      (let st = start_typed co.types.table y.pc known.0 row.instruction row.successors row.leads pc (subst (λ j. StartsAt j pc) (sym same) at) in
      let w = spawns pc at in
      let none = st.spawned w.0 w.1 (same ∙ w.2) (S (next_thread r)) vs in
      ap (entry_wrong (unsuited_of (S (next_thread r)) (new_thread (next_thread r) pc vs))) st.at ∙ omega (arith, none)) in
      step_tells M k.options.servers i s.rest y (requests (InParcel f) s.rest.number y i) begins (record { work = begin_work s.rest; thread = y }) (record { mail = mail; begun = refl; named = refl; at_home = refl })

  sends : SendsOf k co few e.server s here S u
  sends y (instr.Par cs pc ds two) able q code mail = sends_pair y cs ds pc two able q code mail
  sends y (instr.Spawn cs body) able q code mail = sends_other y (instr.Spawn cs body) (λ pc at. (cs, body, refl)) able q code mail
  sends y (instr.Let o) able q code mail = sends_other y (instr.Let o) (λ pc at. absurd at) able q code mail
  sends y (instr.Assign w o) able q code mail = sends_other y (instr.Assign w o) (λ pc at. absurd at) able q code mail
  sends y (instr.Read w b) able q code mail = sends_other y (instr.Read w b) (λ pc at. absurd at) able q code mail
  sends y (instr.Borrow w) able q code mail = sends_other y (instr.Borrow w) (λ pc at. absurd at) able q code mail
  sends y (instr.BorrowMut w) able q code mail = sends_other y (instr.BorrowMut w) (λ pc at. absurd at) able q code mail
  sends y (instr.Box o) able q code mail = sends_other y (instr.Box o) (λ pc at. absurd at) able q code mail
  sends y (instr.Arith g a b) able q code mail = sends_other y (instr.Arith g a b) (λ pc at. absurd at) able q code mail
  sends y (instr.Print o) able q code mail = sends_other y (instr.Print o) (λ pc at. absurd at) able q code mail
  sends y instr.Discard able q code mail = sends_other y instr.Discard (λ pc at. absurd at) able q code mail
  sends y instr.DropSlot able q code mail = sends_other y instr.DropSlot (λ pc at. absurd at) able q code mail
  sends y (instr.Join o) able q code mail = sends_other y (instr.Join o) (λ pc at. absurd at) able q code mail
  sends y (instr.Mutex o) able q code mail = sends_other y (instr.Mutex o) (λ pc at. absurd at) able q code mail
  sends y (instr.Dup w) able q code mail = sends_other y (instr.Dup w) (λ pc at. absurd at) able q code mail
  sends y (instr.Lock w) able q code mail = sends_other y (instr.Lock w) (λ pc at. absurd at) able q code mail
  sends y instr.Unlock able q code mail = sends_other y instr.Unlock (λ pc at. absurd at) able q code mail
  sends y instr.ParEnd able q code mail = sends_other y instr.ParEnd (λ pc at. absurd at) able q code mail
  sends y (instr.End o) able q code mail = sends_other y (instr.End o) (λ pc at. absurd at) able q code mail

  -- WHO WAITS

  module _ (t : ℕ) (o : ObjNo) where
    b : ThreadState → ℕ
    b = sees_by t o

    news : ℕ
    news = one (server_news k e.what (server_at k.servers e.server) t o)

    set_threads : (xs : List ThreadState) (v : ℕ) (y new : ThreadState) → thread_in xs v ≡ Some y → new.number ≡ v → tot (sees_by t o) (set_thread xs new) + sees_by t o y ≡ tot (sees_by t o) xs + sees_by t o new
    set_threads [] v y new h q = absurd cc
    set_threads (x ∷ xs) v y new h q = by (x.number == v) (ap (λ i. x.number == i) q) h (set_threads xs v y new)
      where
        by : (c : Bool) → (x.number == new.number) ≡ c → (if c then Some x else thread_in xs v) ≡ Some y → (thread_in xs v ≡ Some y → new.number ≡ v → tot (sees_by t o) (set_thread xs new) + sees_by t o y ≡ tot (sees_by t o) xs + sees_by t o new)
            → tot (sees_by t o) (set_thread (x ∷ xs) new) + sees_by t o y ≡ sees_by t o x + tot (sees_by t o) xs + sees_by t o new
        by true g h go = let same : x ≡ y = cc in let weighs : sees_by t o x ≡ sees_by t o y = ap (sees_by t o) same in rw g (omega (arith, weighs))
        by false g h go = rw g (omega (arith, go h q))

    no_wait : (p : Phase) → can_step p ≡ true → waits_for t p ≡ false
    no_wait (phase.WaitPar c d) h = absurd cc
    no_wait p h = refl

    more_seen : (w : Bool) (m n : ℕ) → m ≡ n → one (w && some n) ≤ if_so w m
    more_seen true m zero h = omega arith
    more_seen true m (suc n) h = omega (arith, h)
    more_seen false m n h = omega arith

    abbrev Gains : Stepped → Type 0
    Gains d = IsDone d.names → one (server_news k e.what (server_at k.servers e.server) t o) ≤ sees_by t o d.hand.thread

    none_new : (y : ThreadState) (i : Instr) → instr_news s.rest y (Some i) t o ≡ false → thread_in s.threads u ≡ Some y → slice_get k.code y.pc ≡ Some i → (d : Stepped) → Gains d
    none_new y i none q code d done = let z : one (server_news k e.what (server_at k.servers e.server) t o) ≡ 0 = ap one (news_is y i q code t o ∙ none) in omega (arith, z)

    all_give : {X : Type 0} (P : X → Type 0) (x : Option X) → ((a : X) → P a) → Gives P x
    all_give P None g = tt
    all_give P (Some a) g = g a

    gains : (y : ThreadState) (i : Instr) → thread_in s.threads u ≡ Some y → slice_get k.code y.pc ≡ Some i → Gives Gains (step k.options.servers i (record { work = begin_work s.rest; thread = y }))
    gains y (instr.Par cs pc ds two) q code =
        weaker (λ (d : Stepped). IsDone d.names → Waits k.options.servers s.rest y cs ds pc two d.hand.thread.phase d.hand.thread.slots) Gains (step k.options.servers (instr.Par cs pc ds two) (record { work = begin_work s.rest; thread = y })) (pair_waits k.options.servers s.rest y cs ds pc two)
        (λ d g done.
        let w = g done in
        let new : one (server_news k e.what (server_at k.servers e.server) t o) ≡ one (waits_for t (phase.WaitPar nt (nt + 1)) && some (refers_to o y.slots)) = ap one (news_is y (instr.Par cs pc ds two) q code t o) in
        let is_seen : sees_by t o d.hand.thread ≡ if_so (waits_for t (phase.WaitPar nt (nt + 1))) (refers_to o d.hand.thread.slots) = ap (λ p. if_so (waits_for t p) (refers_to o d.hand.thread.slots)) w.waiting in
        omega (arith, new, is_seen, more_seen (waits_for t (phase.WaitPar nt (nt + 1))) (refers_to o d.hand.thread.slots) (refers_to o y.slots) (w.refers o)))
    gains y (instr.Let a) q code = all_give Gains (step k.options.servers (instr.Let a) (record { work = begin_work s.rest; thread = y })) (none_new y (instr.Let a) refl q code)
    gains y (instr.Assign a c) q code = all_give Gains (step k.options.servers (instr.Assign a c) (record { work = begin_work s.rest; thread = y })) (none_new y (instr.Assign a c) refl q code)
    gains y (instr.Read a c) q code = all_give Gains (step k.options.servers (instr.Read a c) (record { work = begin_work s.rest; thread = y })) (none_new y (instr.Read a c) refl q code)
    gains y (instr.Borrow a) q code = all_give Gains (step k.options.servers (instr.Borrow a) (record { work = begin_work s.rest; thread = y })) (none_new y (instr.Borrow a) refl q code)
    gains y (instr.BorrowMut a) q code = all_give Gains (step k.options.servers (instr.BorrowMut a) (record { work = begin_work s.rest; thread = y })) (none_new y (instr.BorrowMut a) refl q code)
    gains y (instr.Box a) q code = all_give Gains (step k.options.servers (instr.Box a) (record { work = begin_work s.rest; thread = y })) (none_new y (instr.Box a) refl q code)
    gains y (instr.Arith a c g) q code = all_give Gains (step k.options.servers (instr.Arith a c g) (record { work = begin_work s.rest; thread = y })) (none_new y (instr.Arith a c g) refl q code)
    gains y (instr.Print a) q code = all_give Gains (step k.options.servers (instr.Print a) (record { work = begin_work s.rest; thread = y })) (none_new y (instr.Print a) refl q code)
    gains y instr.Discard q code = all_give Gains (step k.options.servers instr.Discard (record { work = begin_work s.rest; thread = y })) (none_new y instr.Discard refl q code)
    gains y instr.DropSlot q code = all_give Gains (step k.options.servers instr.DropSlot (record { work = begin_work s.rest; thread = y })) (none_new y instr.DropSlot refl q code)
    gains y (instr.Spawn a c) q code = all_give Gains (step k.options.servers (instr.Spawn a c) (record { work = begin_work s.rest; thread = y })) (none_new y (instr.Spawn a c) refl q code)
    gains y (instr.Join a) q code = all_give Gains (step k.options.servers (instr.Join a) (record { work = begin_work s.rest; thread = y })) (none_new y (instr.Join a) refl q code)
    gains y (instr.Mutex a) q code = all_give Gains (step k.options.servers (instr.Mutex a) (record { work = begin_work s.rest; thread = y })) (none_new y (instr.Mutex a) refl q code)
    gains y (instr.Dup a) q code = all_give Gains (step k.options.servers (instr.Dup a) (record { work = begin_work s.rest; thread = y })) (none_new y (instr.Dup a) refl q code)
    gains y (instr.Lock a) q code = all_give Gains (step k.options.servers (instr.Lock a) (record { work = begin_work s.rest; thread = y })) (none_new y (instr.Lock a) refl q code)
    gains y instr.Unlock q code = all_give Gains (step k.options.servers instr.Unlock (record { work = begin_work s.rest; thread = y })) (none_new y instr.Unlock refl q code)
    gains y instr.ParEnd q code = all_give Gains (step k.options.servers instr.ParEnd (record { work = begin_work s.rest; thread = y })) (none_new y instr.ParEnd refl q code)
    gains y (instr.End a) q code = all_give Gains (step k.options.servers (instr.End a) (record { work = begin_work s.rest; thread = y })) (none_new y (instr.End a) refl q code)

    abbrev Sort : EntryView → Type 0
    Sort r = IsDone r.done

    -- a step leaves who waits, and its own thread waits that starts a pair
    waits_on : enabled k.options s (Step u) ≡ true → Gives (More (stands_by t o) (one (server_news k e.what (server_at k.servers e.server) t o)) Sort s) (does k.code k.options s (Step u))
    waits_on can = by (thread_in s.threads u) refl
      where
        Then : Server × EntryView → Type 0
        Then = More (stands_by t o) (one (server_news k e.what (server_at k.servers e.server) t o)) Sort s

        at : (y : ThreadState) → thread_in s.threads u ≡ Some y → (i : Option Instr) → slice_get k.code y.pc ≡ i
            → Gives Then (option_map (stepped s) (then_some i (λ x. step k.options.servers x (record { work = begin_work s.rest; thread = y }))))
        at y q None code = tt
        at y q (Some i) code =
            let h : Hand = record { work = begin_work s.rest; thread = y } in
            let z : Steps k e.server u s y i = stepper k co few e.server s here S u y i can q code in
            over_gives (λ (d : Stepped). Gains d × Goes k.code y d.hand.thread) Then (step k.options.servers i h) (stepped s)
            (both_give Gains (λ (d : Stepped). Goes k.code y d.hand.thread) (λ (d : Stepped). Gains d × Goes k.code y d.hand.thread) (step k.options.servers i h) (gains y i q code) (thread_goes k.code k.options.servers i y code s.rest h refl) (λ d a c. (a, c)))
            (λ d a done.
            let none : sees_by t o y ≡ 0 = ap (λ c. if_so c (refers_to o y.slots)) (no_wait y.phase (able_of z)) in
            let number : d.hand.thread.number ≡ u = goes_number a.1 ∙ thread_number s.threads u y q in
            omega (arith, a.0 done, none, set_threads s.threads u y d.hand.thread q number, server_sum t o s, server_sum t o (stepped s d).0))
          where
            able_of : Steps k e.server u s y i → can_step y.phase ≡ true
            able_of z = able k e.server u s y i z

        by : (x : Option ThreadState) → thread_in s.threads u ≡ x → Gives Then (option_map (stepped s) (then_some (option_map (λ y. record { work = begin_work s.rest; thread = y }) x) (step_in k.code k.options.servers)))
        by None q = tt
        by (Some y) q = at y q (slice_get k.code y.pc) refl

-- AFTERWARDS

slots_unseen : (z : Sight) (t : ℕ) (e : Env) (vs : List Value) → length vs ≡ length e → ((i : ℕ) (x : Slot) (v : Value) → env_at e i ≡ Some x → at_behind vs i ≡ Some v → unseen z t x.part v ≡ 0) → unseen_slots z t e vs ≡ 0
slots_unseen z t [] [] long go = refl
slots_unseen z t [] (v ∷ vs) long go = refl
slots_unseen z t (x ∷ e) [] long go = refl
slots_unseen z t (x ∷ e) (v ∷ vs) long go =
    let same : length vs ≡ length e = omega (arith, long) in
    let at_end : at_behind (v ∷ vs) (length e) ≡ Some v = ap (λ i. if length e == i then Some v else at_behind vs (length e)) same ∙ newest (length e) (Some v) (at_behind vs (length e)) in
    let first = go (length e) x v (newest (length e) (Some x) (env_at e (length e))) at_end in
    let later = slots_unseen z t e vs same (λ i y w a b. go i y w (older i (length e) (Some x) (env_at e i) (within_env e i y a) ∙ a) (older i (length vs) (Some v) (at_behind vs i) (omega (arith, within_env e i y a, same)) ∙ b)) in
    omega (arith, first, later)

and_first : (a b : Bool) → a && b ≡ true → a ≡ true
and_first true b e = refl
and_first false b e = absurd cc

and_second : (a b : Bool) → a && b ≡ true → b ≡ true
and_second true b e = e
and_second false b e = absurd cc

int_unseen : (z : Sight) (t : ℕ) (q : Kind) (v : Value) → is_int q ≡ true → unseen z t (whole q) v ≡ 0
int_unseen z t (own o) v e = refl
int_unseen z t (shared us) v e = absurd cc
int_unseen z t (mutable us) v e = absurd cc
int_unseen z t (view o) v e = absurd cc

ints_unseen : (z : Sight) (t : ℕ) (ks : List Kind) (vs : List Value) → wait ks ≡ true → unseen_temps z t ks vs ≡ 0
ints_unseen z t [] vs w = refl
ints_unseen z t (q ∷ ks) [] w = refl
ints_unseen z t (q ∷ ks) (v ∷ vs) w = let rest = ints_unseen z t ks vs (and_second (is_int q) (wait ks) w) in let one = int_unseen z t q v (and_first (is_int q) (wait ks) w) in omega (arith, rest, one)

temps_unseen : (z : Sight) (t : ℕ) (ks : List Kind) (vs : List Value) → length vs ≡ length ks → LowInts ks → ((q : Kind) (rest : List Kind) (v : Value) → ks ≡ q ∷ rest → at_behind vs (length rest) ≡ Some v → unseen z t (whole q) v ≡ 0) → unseen_temps z t ks vs ≡ 0
temps_unseen z t [] vs long low go = refl
temps_unseen z t (q ∷ ks) [] long low go = refl
temps_unseen z t (q ∷ ks) (v ∷ vs) long low go =
    let same : length vs ≡ length ks = omega (arith, long) in
    let here : at_behind (v ∷ vs) (length ks) ≡ Some v = ap (λ i. if length ks == i then Some v else at_behind vs (length ks)) same ∙ newest (length ks) (Some v) (at_behind vs (length ks)) in
    omega (arith, go q ks v refl here, ints_unseen z t ks vs low)

-- a value that suits its part is seen, if that is a view
suits_seen : (z : Sight) (t : ℕ) (sees : ObjNo → Bool) → ((o : ObjNo) → sees o ≡ true → some (tot (parent_sees t o) z.ground.threads) ≡ true) → (p : Piece) (v : Value) → suits p (look_of sees v) ≡ true → unseen z t p v ≡ 0
suits_seen z t sees link (whole (view o)) (value.Shared r) e = to_other (some (tot (parent_sees t r.object) z.ground.threads)) (link r.object (seen_view o (sees r.object) e))
suits_seen z t sees link (whole (view o)) value.Gone e = refl
suits_seen z t sees link (whole (view o)) (value.Own w) e = refl
suits_seen z t sees link (whole (view o)) (value.SharedSlot i) e = refl
suits_seen z t sees link (whole (view o)) (value.MutSlot i) e = refl
suits_seen z t sees link (whole (view o)) (value.Mut r) e = refl
suits_seen z t sees link (whole (view o)) (value.Held m) e = refl
suits_seen z t sees link (whole (own o)) v e = refl
suits_seen z t sees link (whole (shared us)) v e = refl
suits_seen z t sees link (whole (mutable us)) v e = refl
suits_seen z t sees link (gone q) v e = refl
suits_seen z t sees link (boxed p) v e = refl

-- a mark is no view
mark_seen : (z : Sight) (t : ℕ) (p : Piece) (v : Value) → is_held (Some (plain_value v)) ≡ true → unseen z t p v ≡ 0
mark_seen z t (whole (view o)) (value.Held m) e = refl
mark_seen z t (whole (view o)) (value.Shared r) e = absurd cc
mark_seen z t (whole (view o)) value.Gone e = refl
mark_seen z t (whole (view o)) (value.Own w) e = refl
mark_seen z t (whole (view o)) (value.SharedSlot i) e = refl
mark_seen z t (whole (view o)) (value.MutSlot i) e = refl
mark_seen z t (whole (view o)) (value.Mut r) e = refl
mark_seen z t (whole (own o)) v e = refl
mark_seen z t (whole (shared us)) v e = refl
mark_seen z t (whole (mutable us)) v e = refl
mark_seen z t (gone q) v e = refl
mark_seen z t (boxed p) v e = refl

module _ (k : Cluster) (c : HasHeap k) (is : IsTable k.code c.table) (S : ℕ → ObjNo → Bool) (link : (t : ℕ) (o : ObjNo) → S t o ≡ true → some (tot (parent_sees t o) (sight k).ground.threads) ≡ true) where
  module _ (x : Standing) (g : GoesOn k x) where
    abbrev t : ℕ
    t = x.thread.number

    abbrev what : Entry
    what = (running k c x g).entry

    long_slots : length x.thread.slots ≡ length what.env
    long_slots = sym (length-map x.thread.slots plain_value) ∙ sym (length-reverse (map plain_value x.thread.slots)) ∙ (running k c x g).all_slots

    long_temps : length x.thread.temps ≡ length what.temps
    long_temps = sym (length-map x.thread.temps plain_value) ∙ sym (length-reverse (map plain_value x.thread.temps)) ∙ (running k c x g).all_temps

    slot_one : Suited (S t) what.env x.thread.slots → (i : ℕ) (s : Slot) (v : Value) → env_at what.env i ≡ Some s → slice_get x.thread.slots i ≡ Some v → unseen (sight k) t s.part v ≡ 0
    slot_one all i s v e at = by (is_some s.name) tells (subst (λ o. suits_slot o (look_of (S t) v) ≡ true) e (all i v at))
      where
        tells : not (is_some s.name) ≡ is_held (Some (plain_value v))
        tells = sym (ap is_hidden e) ∙ (running k c x g).hidden i ∙ ap is_held (held_shown k c x g i v at)

        by : (b : Bool) → not b ≡ is_held (Some (plain_value v)) → suits_named b s.part (look_of (S t) v) ≡ true → unseen (sight k) t s.part v ≡ 0
        by false h f = mark_seen (sight k) t s.part v (sym h)
        by true h f = suits_seen (sight k) t (S t) (link t) s.part v f

    temp_top : Topped (S t) what.temps x.thread.temps → (q : Kind) (rest : List Kind) (v : Value) → what.temps ≡ q ∷ rest → slice_get x.thread.temps (length rest) ≡ Some v → unseen (sight k) t (whole q) v ≡ 0
    temp_top top q rest v e at =
        let a = long_temps in
        let b : length what.temps ≡ suc (length rest) = ap length e in
        let last : last_of x.thread.temps ≡ Some v = subst (λ n. slice_get x.thread.temps n ≡ Some v) (omega (arith, a, b)) at in
        suits_seen (sight k) t (S t) (link t) (whole q) v (topped_last (S t) q rest x.thread.temps v (subst (λ ts. Topped (S t) ts x.thread.temps) e top) last)

    thread_seen : entry_wrong (unsuited_of (S t) x.thread) (c.table x.thread.pc) ≡ 0
        → entry_wrong (λ y. unseen_slots (sight k) x.thread.number y.env (reverse x.thread.slots) + unseen_temps (sight k) x.thread.number y.temps (reverse x.thread.temps)) (c.table x.thread.pc) ≡ 0
    thread_seen z =
        let known = (running k c x g).known in
        let none : unsuited_of (S t) x.thread what ≡ 0 = sym (ap (entry_wrong (unsuited_of (S t) x.thread)) known) ∙ z in
        let all : Suited (S t) what.env x.thread.slots = λ j v q. (let n : 0 + j ≡ j = omega arith in subst (λ m. suits_at what.env m (look_of (S t) v) ≡ true) n (none_from (S t) what.env 0 x.thread.slots (omega (arith, none)) j v q)) in
        let top : Topped (S t) what.temps x.thread.temps = is_true (top_suits (S t) what.temps (last_of x.thread.temps)) (omega (arith, none)) in
        let slots = slots_unseen (sight k) t what.env (reverse x.thread.slots) (length-reverse x.thread.slots ∙ long_slots) (λ i s v e at. slot_one all i s v e (sym (behind_is x.thread.slots i) ∙ at)) in
        let temps = temps_unseen (sight k) t what.temps (reverse x.thread.temps) (length-reverse x.thread.temps ∙ long_temps) (low_ints k.code c.table is x.thread.pc what known)
        (λ q rest v e at. temp_top top q rest v e (sym (behind_is x.thread.temps (length rest)) ∙ at)) in
        ap (entry_wrong (λ y. unseen_slots (sight k) x.thread.number y.env (reverse x.thread.slots) + unseen_temps (sight k) x.thread.number y.temps (reverse x.thread.temps))) known ∙ omega (arith, slots, temps)
      where
        is_true : (b : Bool) → other b ≡ 0 → b ≡ true
        is_true true e = refl
        is_true false e = absurd cc

  abbrev wrong : Standing → ℕ
  wrong x = entry_wrong (λ y. unseen_slots (sight k) x.thread.number y.env (reverse x.thread.slots) + unseen_temps (sight k) x.thread.number y.temps (reverse x.thread.temps)) (c.table x.thread.pc)

  views_follow : tot (unsuited_by c.table S) (threads_in (things_of k)) ≡ 0 → views_wrong c.table (sight k) ≡ 0
  views_follow z = each_none (unsuited_by c.table S) (λ x. if_so (not (is_over x.thread.phase)) (wrong x)) (threads_in (things_of k)) (λ x a none. by x a none (is_over x.thread.phase) refl) z
    where
      by : (x : Standing) → Among x (sight k).ground.threads → unsuited_by c.table S x ≡ 0 → (q : Bool) → is_over x.thread.phase ≡ q → if_so (not (is_over x.thread.phase)) (wrong x) ≡ 0
      by x a none true e = ap (λ b. if_so (not b) (wrong x)) e
      by x a none false e =
          let w = sym (ap (λ b. if_so (not b) (entry_wrong (unsuited_of (S x.thread.number) x.thread) (c.table x.thread.pc))) e) ∙ none in
          ap (λ b. if_so (not b) (wrong x)) e ∙ thread_seen x (record { among = a; going = e }) w

-- IN ITS CLUSTER

abbrev D : Type 0
D = Cluster × EntryView

all_named : {A X : Type 0} (P : A → X → Type 0) (o : Option X) → ((a : A) → Gives (P a) o) → Gives (λ x. (a : A) → P a x) o
all_named P None g = tt
all_named P (Some x) g = λ a. g a

module _ (k : Cluster) (e : Event) (co : IsCoherent k) (few : FewEvents k) where
  abbrev by_now : ℕ → ObjNo → Bool
  by_now = seen_by k e

  abbrev weight : Standing → ℕ
  weight = unsuited_by co.types.table by_now

  before : tot weight (threads_in (things_of k)) ≡ 0
  before =
      forms_suit by_now k co.types.table (names_of co.types.object co.types.typing.gives) (λ t o f. or_left (seen_before k t o) (server_news k e.what (server_at k.servers e.server) t o) f) co.types.forms co.types.views

  done_suits : Gives (λ (d : D). IsDone d.1.done → tot (on_standing weight) (things_of d.0) ≡ 0) (apply k e)
  done_suits =
      lifted (on_standing weight) (λ r. IsDone r.done) k e co.sound few (sum_standing weight (things_of k) ∙ before)
      (λ s here on none. at_server k co few e.server s here by_now e.what (λ t is. sends k e co few s here t is) on none)

  module _ (t : ℕ) (o : ObjNo) where
    abbrev new : ℕ
    new = one (server_news k e.what (server_at k.servers e.server) t o)

    none_done : (s : Server) (u : Option ℕ) (x : Option Site) → Gives (More (stands_by t o) new (λ r. IsDone r.done) s) (option_map (left_by s.events u None) x)
    none_done s u x = map_gives (More (stands_by t o) new (λ r. IsDone r.done) s) x (left_by s.events u None) (λ y q is. absurd (is refl))

    more_at : (s : Server) → server_at k.servers e.server ≡ Some s → (w : What) → e.what ≡ w → enabled k.options s w ≡ true → Gives (More (stands_by t o) new (λ r. IsDone r.done) s) (does k.code k.options s w)
    more_at s here (Step u) is on = waits_on k e co few s here u is t o on
    more_at s here (Deliver i) is on = none_done s None (deliver k.code i s)
    more_at s here (Evict a) is on = none_done s None (beside_threads (evict_copy a) (begin_at s))
    more_at s here (Migrate a target) is on = none_done s (Some a) (migrate a target (begin_at s))

    more_waits : Gives (LeavesMore (stands_by t o) new (λ r. IsDone r.done) k) (apply k e)
    more_waits = lifted_more (stands_by t o) new (λ r. IsDone r.done) k e co.sound few (λ s here on. more_at s here e.what refl on)

    some_less : (m n : ℕ) → m ≤ n → some m ≡ true → some n ≡ true
    some_less zero n l h = absurd cc
    some_less (suc m) zero l h = absurd (omega (arith, l))
    some_less (suc m) (suc n) l h = refl

    some_sum : (m : ℕ) (b : Bool) → some m || b ≡ true → some (m + one b) ≡ true
    some_sum zero true h = refl
    some_sum zero false h = absurd cc
    some_sum (suc m) b h = some_less 1 (suc m + one b) (omega arith) refl

    still_seen : (d : D) → LeavesMore (stands_by t o) new (λ r. IsDone r.done) k d → IsDone d.1.done → by_now t o ≡ true → some (tot (parent_sees t o) (sight d.0).ground.threads) ≡ true
    still_seen d more done h =
        let m = more done in
        let a = before_most t o k co.sound in
        let b = after_least t o d.0 in
        some_less (tot (parent_sees t o) (sight k).ground.threads + new) (tot (parent_sees t o) (sight d.0).ground.threads) (omega (arith, m, a, b))
        (some_sum (tot (parent_sees t o) (sight k).ground.threads) (server_news k e.what (server_at k.servers e.server) t o) h)

  abbrev AllMore : D → Type 0
  AllMore d = (t : ℕ) (o : ObjNo) → LeavesMore (stands_by t o) (new t o) (λ r. IsDone r.done) k d

  all_more : Gives AllMore (apply k e)
  all_more =
      all_named (λ t (d : D). (o : ObjNo) → LeavesMore (stands_by t o) (new t o) (λ r. IsDone r.done) k d) (apply k e) (λ t.
      all_named (λ o (d : D). LeavesMore (stands_by t o) (new t o) (λ r. IsDone r.done) k d) (apply k e) (λ o. more_waits t o))

  views : (d : D) → (IsDone d.1.done → tot (on_standing weight) (things_of d.0) ≡ 0) × AllMore d → (d.1.done ≡ None → TypesThreads k co.types d.0) → HasNumbers d.0 → HeapTyped co.types.table d.0 → views_wrong co.types.table (sight d.0) ≡ 0
  views d done stays numbers heap = by d.1.done refl
    where
      by : (o : Option Fresh) → d.1.done ≡ o → views_wrong co.types.table (sight d.0) ≡ 0
      by None q = (stays q).views
      by (Some names) q =
          let is : IsDone d.1.done = λ none. (let z : None ≡ Some names = sym none ∙ q in cc) in
          views_follow d.0 (record { numbers = numbers; table = co.types.table; typing = heap.typing; state = heap.state }) heap.is_table by_now (λ t o h. still_seen t o d (done.1 t o) is h)
          (sym (sum_standing weight (things_of d.0)) ∙ done.0 is)

  views_kept : Gives (λ (d : D). views_wrong co.types.table (sight d.0) ≡ 0) (apply k e)
  views_kept =
      both_give (λ (d : D). ((IsDone d.1.done → tot (on_standing weight) (things_of d.0) ≡ 0) × AllMore d) × (d.1.done ≡ None → TypesThreads k co.types d.0)) (λ (d : D). HasNumbers d.0 × HeapTyped co.types.table d.0)
      (λ (d : D). views_wrong co.types.table (sight d.0) ≡ 0) (apply k e)
      (also (λ (d : D). (IsDone d.1.done → tot (on_standing weight) (things_of d.0) ≡ 0) × AllMore d) (λ (d : D). d.1.done ≡ None → TypesThreads k co.types d.0) (apply k e)
      (also (λ (d : D). IsDone d.1.done → tot (on_standing weight) (things_of d.0) ≡ 0) AllMore (apply k e) done_suits all_more) (undone_keep k e co few))
      (also (λ (d : D). HasNumbers d.0) (λ (d : D). HeapTyped co.types.table d.0) (apply k e) (numbers_kept k e co few) (events_keep k e co few)) (λ d a b. views d a.0 a.1 b.0 b.1)

pub events_keep_views : EventsKeepViews
events_keep_views k e co few = views_kept k e co few
