-- Copies are right after each event, kind by kind.
use Rattle.std.proofs.Common.{◌≡◌, ℕ, true, false, Option, Some, None, option_map, refl, sym, ap, subst, ◌∙◌}
use Rattle.std.specs.Prelude.{slice_get, length}
use Rattle.coherent_memory.specs.Below.fr_base.declared.instruction.Instr.{Instr}
use Rattle.coherent_memory.specs.Below.fr_base.declared.instruction.Instr.TheVariants as instr
use Rattle.coherent_memory.specs.Below.journal.View.{EntryView}
use Rattle.coherent_memory.specs.Below.thread_state.View.{ThreadState}
use Rattle.coherent_memory.specs.Below.server_msgs.declared.message.Message.{Message}
use Rattle.coherent_memory.specs.Below.server_msgs.declared.message.Message.TheVariants as message
use Rattle.coherent_memory.specs.Below.server_model.declared.event.What.{What}
use Rattle.coherent_memory.specs.Below.server_model.declared.event.What.TheVariants.{Step, Deliver, Evict, Migrate}
use Rattle.coherent_memory.specs.Below.server_model.Servers.{Server, Cluster, server_at}
use Rattle.coherent_memory.specs.Below.server_model.Work.{then_some, thread_in}
use Rattle.coherent_memory.specs.Below.server_model.Clusters.{hand_over_newer, done_at, apply}
use Rattle.coherent_memory.specs.Below.server_model.Events.{begin_work, left_by, received, deliver_message, stepped, step, step_in}
use Rattle.law_counts_things.specs.Below.coherent_types.ClusterTypes.{IsCoherent}
use Rattle.law_counts_sums.specs.Kinds.{Kind, fetch, fetched, asks_lock, granted, unlocked, asks_dup, dupped, released, starts, asks_join, joined, finished, arrives, step_arith, step_print, step_par_end, evicts, migrates, message_kind, instr_kind, kind_at}
use Rattle.law_counts_sums.specs.Laws.{Gives, FewEvents}
use Rattle.law_counts_sums.proofs.Results.{weaker}
use Rattle.law_walks_own.specs.Below.law_words_values.references.Starts.{a_thread, a_pair}
use Rattle.coherent_memory.specs.Coherent.{Copies}
use Rattle.coherent_memory.specs.Below.server_model.declared.event.Event.{Event}
use Rattle.law_words_kept.specs.Below.law_words_paths.words.Unmoved.{Delivers}
use Rattle.law_words_issued.specs.Below.law_words_values.carried.Steps.{a_let, a_mutex, a_join, an_end}
use Rattle.law_walks_own.specs.Below.law_words_values.references.Starts.{a_thread, a_pair}
use Rattle.law_copies_writes.proofs.Below.law_words_ends.arrivals.Arrivals.{none_done}
use Rattle.law_words_issued.specs.Below.law_copies_kept.copies.Copies.{CopiesAreRight, KeepCopies, puts_back}
use Rattle.law_words_issued.proofs.Below.law_copies_kept.copies.KeptCopies.{keep_copies, carried_copies, dropped_copies}
use Rattle.law_walks_own.specs.Below.law_copies_kept.references.Clean.{a_copy, a_dup, a_lock}
use Rattle.law_walks_own.proofs.Below.law_copies_kept.references.ReadCopies.{reads_keep}
use Rattle.law_walks_own.specs.Below.law_copies_kept.objects.Fresh.{LeavesRight}
use Rattle.law_walks_own.proofs.Below.law_copies_kept.objects.Moves.{moves_keep as object_moves}
use Rattle.law_walks_own.proofs.Below.law_copies_kept.objects.Drops.{drops_keep as object_drops}
use Rattle.law_walks_own.proofs.Below.law_copies_kept.objects.Boxes.{boxes_keep}
use Rattle.law_walks_own.proofs.Below.law_copies_kept.objects.Starts.{starts_keep}
use Rattle.law_walks_own.proofs.Below.law_copies_kept.objects.SharedBorrows.{shared_borrows_keep}
use Rattle.law_walks_own.proofs.Below.law_copies_kept.objects.MutableBorrows.{mutable_borrows_keep}
use Rattle.law_copies_writes.proofs.arrivals.Arrivals.{arrivals_keep}
use Rattle.law_runs_coherent.specs.events.Copies.{EventsKeepCopies}
use Rattle.law_runs_coherent.proofs.events.CopyKinds.{discards_by, drops_by, assigns_by, moves_by}

module _ (k : Cluster) (number : ℕ) (s : Server) (coherent : IsCoherent k) (few : FewEvents k) (here : server_at k.servers number ≡ Some s) where
  abbrev Keeps : What → Type 0
  Keeps w = Gives (λ (d : Cluster × EntryView). CopiesAreRight d.0) (apply k (record { server = number; what = w }))

  -- by its kind
  of_kind : (kind : Kind) (w : What) → kind_at k w s ≡ Some kind → KeepCopies kind → Keeps w
  of_kind kind w is law = law k (record { server = number; what = w }) (ap (λ o. then_some o (kind_at k w)) here ∙ is) coherent.sound few

  -- THE DELIVERY OF A MESSAGE

  module _ (i : ℕ) where
    delivers : (m : Message) → slice_get s.rest.inbox i ≡ Some m → Delivers k (record { server = number; what = Deliver i }) m
    delivers m e = record { place = i; what = refl; server = s; there = here; message = e }

    of_message : (m : Message) → slice_get s.rest.inbox i ≡ Some m → Keeps (Deliver i)
    of_message (message.Fetch w o a t) e = of_kind fetch (Deliver i) (ap (option_map message_kind) e) (keep_copies fetch tt)
    of_message (message.Fetched w v t) e = of_kind fetched (Deliver i) (ap (option_map message_kind) e) (keep_copies fetched tt)
    of_message (message.Move w o a t) e = object_moves k (record { server = number; what = Deliver i }) w o a t (delivers (message.Move w o a t) e) coherent.sound few
    of_message (message.Moved w v t) e = arrivals_keep k (record { server = number; what = Deliver i }) w v t (delivers (message.Moved w v t) e) coherent few
    of_message (message.Drop w o) e = object_drops k (record { server = number; what = Deliver i }) w o (delivers (message.Drop w o) e) coherent few
    of_message (message.Lock m a t) e = of_kind asks_lock (Deliver i) (ap (option_map message_kind) e) (keep_copies asks_lock tt)
    of_message (message.Granted m v t) e = of_kind granted (Deliver i) (ap (option_map message_kind) e) (keep_copies granted tt)
    of_message (message.Unlock m v) e = of_kind unlocked (Deliver i) (ap (option_map message_kind) e) (keep_copies unlocked tt)
    of_message (message.Dup m a t) e = of_kind asks_dup (Deliver i) (ap (option_map message_kind) e) (keep_copies asks_dup tt)
    of_message (message.Dupped m t) e = of_kind dupped (Deliver i) (ap (option_map message_kind) e) (keep_copies dupped tt)
    of_message (message.Release r) e = of_kind released (Deliver i) (ap (option_map message_kind) e) (keep_copies released tt)
    of_message (message.Start t) e = of_kind starts (Deliver i) (ap (option_map message_kind) e) (keep_copies starts tt)
    of_message (message.Join u a t) e = of_kind asks_join (Deliver i) (ap (option_map message_kind) e) (keep_copies asks_join tt)
    of_message (message.Joined u v t) e = of_kind joined (Deliver i) (ap (option_map message_kind) e) (keep_copies joined tt)
    of_message (message.Finished u v) e = of_kind finished (Deliver i) (ap (option_map message_kind) e) (keep_copies finished tt)
    of_message (message.Migrate t) e = of_kind arrives (Deliver i) (ap (option_map message_kind) e) (keep_copies arrives tt)

    of_delivery : (o : Option Message) → slice_get s.rest.inbox i ≡ o → Keeps (Deliver i)
    of_delivery None e =
        none_done k number (Deliver i) s (λ (d : Cluster × EntryView). CopiesAreRight d.0) here
        (subst (λ o. Gives (λ (r : Server × EntryView). ⊥) (option_map (left_by s.events None None) (then_some o (λ m. deliver_message k.code m (received i s))))) (sym e) tt)
    of_delivery (Some m) e = of_message m e

  -- THE STEP OF A THREAD

  module _ (t : ℕ) where
    step_kind : (y : ThreadState) → thread_in s.threads t ≡ Some y → (i : Instr) → slice_get k.code y.pc ≡ Some i → kind_at k (Step t) s ≡ Some (instr_kind i)
    step_kind y at i code = ap (λ o. then_some o (λ (x : ThreadState). option_map instr_kind (slice_get k.code x.pc))) at ∙ ap (option_map instr_kind) code

    of_instruction : (y : ThreadState) → thread_in s.threads t ≡ Some y → (i : Instr) → slice_get k.code y.pc ≡ Some i → Keeps (Step t)
    of_instruction y at (instr.Let o) e = carried_copies k number t s y (instr.Let o) coherent.sound few here at e (a_let o)
    of_instruction y at (instr.Assign w o) e = assigns_by k number t s y coherent few here at w o e w.depth refl
    of_instruction y at (instr.Read w true) e = moves_by k number t s y coherent few here at w e w.depth refl
    of_instruction y at (instr.Read w false) e = reads_keep k number t s y w (instr.Read w false) coherent few here at e a_copy
    of_instruction y at (instr.Borrow w) e = shared_borrows_keep k number t s y w coherent few here at e
    of_instruction y at (instr.BorrowMut w) e = mutable_borrows_keep k number t s y w coherent few here at e
    of_instruction y at (instr.Box o) e = boxes_keep k number t s y o coherent few here at e
    of_instruction y at (instr.Arith f a b) e = of_kind step_arith (Step t) (step_kind y at (instr.Arith f a b) e) (keep_copies step_arith tt)
    of_instruction y at (instr.Print o) e = of_kind step_print (Step t) (step_kind y at (instr.Print o) e) (keep_copies step_print tt)
    of_instruction y at instr.Discard e = discards_by k number t s y coherent few here at e
    of_instruction y at instr.DropSlot e = drops_by k number t s y coherent few here at e
    of_instruction y at (instr.Spawn cs pc) e = starts_keep k number t s y (instr.Spawn cs pc) coherent few here at e (a_thread cs pc)
    of_instruction y at (instr.Join o) e = carried_copies k number t s y (instr.Join o) coherent.sound few here at e (a_join o)
    of_instruction y at (instr.Mutex o) e = carried_copies k number t s y (instr.Mutex o) coherent.sound few here at e (a_mutex o)
    of_instruction y at (instr.Dup w) e = reads_keep k number t s y w (instr.Dup w) coherent few here at e a_dup
    of_instruction y at (instr.Lock w) e = reads_keep k number t s y w (instr.Lock w) coherent few here at e a_lock
    of_instruction y at instr.Unlock e = dropped_copies k number t s y instr.Unlock coherent few here at e puts_back
    of_instruction y at (instr.Par cs pc ds other) e = starts_keep k number t s y (instr.Par cs pc ds other) coherent few here at e (a_pair cs pc ds other)
    of_instruction y at instr.ParEnd e = of_kind step_par_end (Step t) (step_kind y at instr.ParEnd e) (keep_copies step_par_end tt)
    of_instruction y at (instr.End o) e = carried_copies k number t s y (instr.End o) coherent.sound few here at e (an_end o)

    of_step : (o : Option ThreadState) → thread_in s.threads t ≡ o → Keeps (Step t)
    of_step None e =
        none_done k number (Step t) s (λ (d : Cluster × EntryView). CopiesAreRight d.0) here
        (subst (λ o. Gives (λ (r : Server × EntryView). ⊥) (option_map (stepped s) (then_some (option_map (λ x. record { work = begin_work s.rest; thread = x }) o) (step_in k.code k.options.servers)))) (sym e) tt)
    of_step (Some y) e = by (slice_get k.code y.pc) refl
      where
        by : (o : Option Instr) → slice_get k.code y.pc ≡ o → Keeps (Step t)
        by None f =
            none_done k number (Step t) s (λ (d : Cluster × EntryView). CopiesAreRight d.0) here
            (subst (λ o. Gives (λ (r : Server × EntryView). ⊥) (option_map (stepped s) (then_some (option_map (λ x. record { work = begin_work s.rest; thread = x }) o) (step_in k.code k.options.servers)))) (sym e)
            (subst (λ o. Gives (λ (r : Server × EntryView). ⊥) (option_map (stepped s) (then_some o (λ i. step k.options.servers i (record { work = begin_work s.rest; thread = y }))))) (sym f) tt))
        by (Some i) f = of_instruction y e i f

  of_event : (w : What) → Keeps w
  of_event (Step t) = of_step t (thread_in s.threads t) refl
  of_event (Deliver i) = of_delivery i (slice_get s.rest.inbox i) refl
  of_event (Evict w) = of_kind evicts (Evict w) refl (keep_copies evicts tt)
  of_event (Migrate t target) = of_kind migrates (Migrate t target) refl (keep_copies migrates tt)

-- with its messages handed over
events_right : (k : Cluster) (e : Event) → IsCoherent k → FewEvents k → LeavesRight k e
events_right k e coherent few = by (server_at k.servers e.server) refl
  where
    by : (o : Option Server) → server_at k.servers e.server ≡ o → Gives (λ (d : Cluster × EntryView). CopiesAreRight d.0) (apply k e)
    by None none = subst (λ o. Gives (λ (d : Cluster × EntryView). CopiesAreRight d.0) (then_some o (λ s. option_map (λ d. (record k { servers = hand_over_newer e.server (length s.rest.outbox) d.0 k.servers }, d.1)) (done_at k e.what s)))) (sym none) tt
    by (Some s) here = of_event k e.server s coherent few here e.what

pub events_keep_copies : EventsKeepCopies
events_keep_copies k e coherent few =
    weaker (λ (d : Cluster × EntryView). CopiesAreRight d.0) (λ (d : Cluster × EntryView). Copies d.0) (apply k e) (events_right k e coherent few) (λ d c. record { copies_agree = c.agree; served_are_clean = c.clean })
