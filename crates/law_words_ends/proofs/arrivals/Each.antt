-- Each event keeps the words, kind by kind.
use Rattle.std.proofs.Common.{◌≡◌, inl, inr, ℕ, true, false, Option, Some, None, option_map, refl, sym, ap, subst, ◌∙◌}
use Rattle.std.specs.Prelude.{slice_get, length}
use Rattle.law_words_borrows.specs.Below.fr_base.declared.instruction.Instr.{Instr}
use Rattle.law_words_borrows.specs.Below.fr_base.declared.instruction.Instr.TheVariants as instr
use Rattle.law_words_borrows.specs.Below.journal.View.{EntryView}
use Rattle.law_words_borrows.specs.Below.thread_state.View.{ThreadState}
use Rattle.law_words_borrows.specs.Below.server_msgs.declared.message.Message.{Message}
use Rattle.law_words_borrows.specs.Below.server_msgs.declared.message.Message.TheVariants as message
use Rattle.law_words_borrows.specs.Below.server_model.declared.event.What.{What}
use Rattle.law_words_borrows.specs.Below.server_model.declared.event.What.TheVariants.{Step, Deliver, Evict, Migrate}
use Rattle.law_words_borrows.specs.Below.server_model.Servers.{Server, Cluster, server_at}
use Rattle.law_words_borrows.specs.Below.server_model.Work.{then_some, thread_in}
use Rattle.law_words_borrows.specs.Below.server_model.Clusters.{hand_over_newer, done_at, apply}
use Rattle.law_words_borrows.specs.Below.server_model.Events.{begin_work, left_by, received, deliver_message, stepped, step, step_in}
use Rattle.law_words_borrows.specs.Below.coherent_types.ClusterTypes.{IsCoherent}
use Rattle.law_words_borrows.specs.Below.law_counts_sums.Kinds.{Kind, fetch, fetched, asks_lock, granted, unlocked, asks_dup, dupped, released, starts, asks_join, joined, finished, arrives, step_arith, step_print, step_par_end, evicts, migrates, message_kind, instr_kind, kind_at}
use Rattle.law_words_borrows.specs.Below.law_counts_sums.Laws.{Gives, FewEvents}
use Rattle.law_words_borrows.proofs.Below.law_counts_sums.Results.{weaker}
use Rattle.law_words_writes.specs.Below.law_words_paths.words.Unmoved.{Delivers, LeavesWords}
use Rattle.law_words_writes.specs.Below.law_words_kept.stays.Laws.{LeaveWords}
use Rattle.law_words_writes.proofs.Below.law_words_kept.stays.StayKinds.{kind_stays}
use Rattle.law_words_writes.specs.Below.law_words_kept.prepared.Requests.{WordsHold, WordsRise}
use Rattle.law_words_writes.proofs.Below.law_words_kept.prepared.Rising.{rise_itself, rise_changed, holds_so}
use Rattle.law_words_writes.proofs.Below.law_words_kept.prepared.Copying.{copies_keep}
use Rattle.law_words_writes.proofs.Below.law_words_kept.prepared.Dupping.{dups_keep}
use Rattle.law_words_ends.specs.Below.law_words_values.carried.Steps.{a_let, a_mutex, a_join, an_end, puts_back}
use Rattle.law_words_ends.proofs.Below.law_words_values.carried.Events.{steps_carry}
use Rattle.law_words_ends.proofs.Below.law_words_values.carried.Gives.{owned_goes}
use Rattle.law_words_ends.proofs.Below.law_words_values.carried.Leaving.{moves_leave}
use Rattle.law_words_ends.proofs.Below.law_words_values.carried.Locks.{holds_on, locks_keep}
use Rattle.law_words_borrows.specs.Below.law_words_values.made.Boxes.{HasNewWord}
use Rattle.law_words_borrows.proofs.Below.law_words_values.made.Boxes.{boxes_keep}
use Rattle.law_words_ends.proofs.Below.law_words_borrows.Shares.{shared_borrows_keep}
use Rattle.law_words_ends.proofs.Below.law_words_borrows.Takes.{mutable_borrows_keep}
use Rattle.law_words_ends.specs.Below.law_words_values.references.Starts.{a_thread, a_pair}
use Rattle.law_words_ends.proofs.Below.law_words_values.references.StartEvents.{starts_leave_words}
use Rattle.law_words_ends.proofs.stars.Each.{discards_keep_words, drops_keep_words, assignments_keep_words, moves_keep_words}
use Rattle.law_words_borrows.proofs.Below.law_words_values.freed.Drops.{drops_leave}
use Rattle.law_words_ends.specs.arrivals.Events.{EventsKeepWords, WordsRiseAlways}
use Rattle.law_words_ends.proofs.arrivals.Arrivals.{none_done, arrivals_keep}

-- what holds at the start
pub words_now : (k : Cluster) → IsCoherent k → WordsRise k k
words_now k coherent = rise_itself k coherent.sound

module _ (k : Cluster) (number : ℕ) (s : Server) (coherent : IsCoherent k) (few : FewEvents k) (here : server_at k.servers number ≡ Some s) where
  abbrev Keeps : What → Type 0
  Keeps w = Gives (λ (d : Cluster × EntryView). WordsRise k d.0) (apply k (record { server = number; what = w }))

  -- what leaves the words keeps them
  left : (w : What) → Gives (λ (d : Cluster × EntryView). LeavesWords k d.0) (apply k (record { server = number; what = w })) → Keeps w
  left w g = weaker (λ (d : Cluster × EntryView). LeavesWords k d.0) (λ (d : Cluster × EntryView). WordsRise k d.0) (apply k (record { server = number; what = w })) g (λ d l. holds_on l (words_now k coherent))

  -- by its kind
  of_kind : (kind : Kind) (w : What) → kind_at k w s ≡ Some kind → LeaveWords kind → Keeps w
  of_kind kind w is law = left w (law k (record { server = number; what = w }) (ap (λ o. then_some o (kind_at k w)) here ∙ is) coherent.sound few)

  -- THE DELIVERY OF A MESSAGE

  module _ (i : ℕ) where
    delivers : (m : Message) → slice_get s.rest.inbox i ≡ Some m → Delivers k (record { server = number; what = Deliver i }) m
    delivers m e = record { place = i; what = refl; server = s; there = here; message = e }

    of_message : (m : Message) → slice_get s.rest.inbox i ≡ Some m → Keeps (Deliver i)
    of_message (message.Fetch w o a t) e = of_kind fetch (Deliver i) (ap (option_map message_kind) e) (kind_stays fetch tt)
    of_message (message.Fetched w v t) e = of_kind fetched (Deliver i) (ap (option_map message_kind) e) (kind_stays fetched tt)
    of_message (message.Move w o a t) e = left (Deliver i) (moves_leave k (record { server = number; what = Deliver i }) w o a t (delivers (message.Move w o a t) e) coherent.sound few)
    of_message (message.Moved w v t) e = arrivals_keep k (record { server = number; what = Deliver i }) w v t (delivers (message.Moved w v t) e) coherent few
    of_message (message.Drop w o) e = left (Deliver i) (drops_leave k (record { server = number; what = Deliver i }) w o (delivers (message.Drop w o) e) coherent few)
    of_message (message.Lock m a t) e = of_kind asks_lock (Deliver i) (ap (option_map message_kind) e) (kind_stays asks_lock tt)
    of_message (message.Granted m v t) e = of_kind granted (Deliver i) (ap (option_map message_kind) e) (kind_stays granted tt)
    of_message (message.Unlock m v) e = of_kind unlocked (Deliver i) (ap (option_map message_kind) e) (kind_stays unlocked tt)
    of_message (message.Dup m a t) e = of_kind asks_dup (Deliver i) (ap (option_map message_kind) e) (kind_stays asks_dup tt)
    of_message (message.Dupped m t) e = of_kind dupped (Deliver i) (ap (option_map message_kind) e) (kind_stays dupped tt)
    of_message (message.Release r) e = of_kind released (Deliver i) (ap (option_map message_kind) e) (kind_stays released tt)
    of_message (message.Start t) e = of_kind starts (Deliver i) (ap (option_map message_kind) e) (kind_stays starts tt)
    of_message (message.Join u a t) e = of_kind asks_join (Deliver i) (ap (option_map message_kind) e) (kind_stays asks_join tt)
    of_message (message.Joined u v t) e = of_kind joined (Deliver i) (ap (option_map message_kind) e) (kind_stays joined tt)
    of_message (message.Finished u v) e = of_kind finished (Deliver i) (ap (option_map message_kind) e) (kind_stays finished tt)
    of_message (message.Migrate t) e = of_kind arrives (Deliver i) (ap (option_map message_kind) e) (kind_stays arrives tt)

    of_delivery : (o : Option Message) → slice_get s.rest.inbox i ≡ o → Keeps (Deliver i)
    of_delivery None e =
        none_done k number (Deliver i) s (λ (d : Cluster × EntryView). WordsRise k d.0) here
        (subst (λ o. Gives (λ (r : Server × EntryView). ⊥) (option_map (left_by s.events None None) (then_some o (λ m. deliver_message k.code m (received i s))))) (sym e) tt)
    of_delivery (Some m) e = of_message m e

  -- THE STEP OF A THREAD

  module _ (t : ℕ) where
    step_kind : (y : ThreadState) → thread_in s.threads t ≡ Some y → (i : Instr) → slice_get k.code y.pc ≡ Some i → kind_at k (Step t) s ≡ Some (instr_kind i)
    step_kind y at i code = ap (λ o. then_some o (λ (x : ThreadState). option_map instr_kind (slice_get k.code x.pc))) at ∙ ap (option_map instr_kind) code

    of_instruction : (y : ThreadState) → thread_in s.threads t ≡ Some y → (i : Instr) → slice_get k.code y.pc ≡ Some i → Keeps (Step t)
    of_instruction y at (instr.Let o) e = left (Step t) (steps_carry k number t s y (instr.Let o) coherent.sound few here at e (a_let o))
    of_instruction y at (instr.Assign w o) e = assignments_keep_words w o k number t s y coherent few here at e
    of_instruction y at (instr.Read w true) e = moves_keep_words w k number t s y coherent few here at e
    of_instruction y at (instr.Read w false) e = copies_keep k number t s y w coherent few here at e
    of_instruction y at (instr.Borrow w) e = shared_borrows_keep k number t s y w coherent few here at e
    of_instruction y at (instr.BorrowMut w) e = mutable_borrows_keep k number t s y w coherent few here at e
    of_instruction y at (instr.Box o) e =
        let words = coherent.sound.words.have_words in
        weaker (λ (d : Cluster × EntryView). HasNewWord k d.0 (record { thread = y.number; count = y.made }) words) (λ (d : Cluster × EntryView). WordsRise k d.0) (apply k (record { server = number; what = Step t }))
        (boxes_keep k number t s y o words coherent few here at e)
        (λ d n. rise_changed k k d.0 (record { thread = y.number; count = y.made }) n.word (record { has_words = coherent.sound.words.have_words; first_at_holder = coherent.sound.words.first_at_holder; dirty_alone = coherent.sound.words.dirty_alone; past_words = coherent.sound.words.past_words; began = coherent.sound.words.have_words; rises = λ q. inl refl }) n.keeps.words (inr n.new) n.keeps.holders (n.keeps.dirty coherent.sound.words.dirty_alone) (n.keeps.past coherent.sound.words.past_words))
    of_instruction y at (instr.Arith f a b) e = of_kind step_arith (Step t) (step_kind y at (instr.Arith f a b) e) (kind_stays step_arith tt)
    of_instruction y at (instr.Print o) e = of_kind step_print (Step t) (step_kind y at (instr.Print o) e) (kind_stays step_print tt)
    of_instruction y at instr.Discard e = discards_keep_words k number t s y coherent few here at e
    of_instruction y at instr.DropSlot e = drops_keep_words k number t s y coherent few here at e
    of_instruction y at (instr.Spawn cs pc) e = left (Step t) (starts_leave_words k number t s y (instr.Spawn cs pc) coherent few here at e (a_thread cs pc))
    of_instruction y at (instr.Join o) e = left (Step t) (steps_carry k number t s y (instr.Join o) coherent.sound few here at e (a_join o))
    of_instruction y at (instr.Mutex o) e = left (Step t) (steps_carry k number t s y (instr.Mutex o) coherent.sound few here at e (a_mutex o))
    of_instruction y at (instr.Dup w) e = dups_keep k number t s y w coherent few here at e
    of_instruction y at (instr.Lock w) e = locks_keep k number t s y w coherent few here at e
    of_instruction y at instr.Unlock e = left (Step t) (owned_goes k number t s y instr.Unlock coherent few here at e puts_back)
    of_instruction y at (instr.Par cs pc ds other) e = left (Step t) (starts_leave_words k number t s y (instr.Par cs pc ds other) coherent few here at e (a_pair cs pc ds other))
    of_instruction y at instr.ParEnd e = of_kind step_par_end (Step t) (step_kind y at instr.ParEnd e) (kind_stays step_par_end tt)
    of_instruction y at (instr.End o) e = left (Step t) (steps_carry k number t s y (instr.End o) coherent.sound few here at e (an_end o))

    of_step : (o : Option ThreadState) → thread_in s.threads t ≡ o → Keeps (Step t)
    of_step None e =
        none_done k number (Step t) s (λ (d : Cluster × EntryView). WordsRise k d.0) here
        (subst (λ o. Gives (λ (r : Server × EntryView). ⊥) (option_map (stepped s) (then_some (option_map (λ x. record { work = begin_work s.rest; thread = x }) o) (step_in k.code k.options.servers)))) (sym e) tt)
    of_step (Some y) e = by (slice_get k.code y.pc) refl
      where
        by : (o : Option Instr) → slice_get k.code y.pc ≡ o → Keeps (Step t)
        by None f =
            none_done k number (Step t) s (λ (d : Cluster × EntryView). WordsRise k d.0) here
            (subst (λ o. Gives (λ (r : Server × EntryView). ⊥) (option_map (stepped s) (then_some (option_map (λ x. record { work = begin_work s.rest; thread = x }) o) (step_in k.code k.options.servers)))) (sym e)
            (subst (λ o. Gives (λ (r : Server × EntryView). ⊥) (option_map (stepped s) (then_some o (λ i. step k.options.servers i (record { work = begin_work s.rest; thread = y }))))) (sym f) tt))
        by (Some i) f = of_instruction y e i f

  of_event : (w : What) → Keeps w
  of_event (Step t) = of_step t (thread_in s.threads t) refl
  of_event (Deliver i) = of_delivery i (slice_get s.rest.inbox i) refl
  of_event (Evict w) = of_kind evicts (Evict w) refl (kind_stays evicts tt)
  of_event (Migrate t target) = of_kind migrates (Migrate t target) refl (kind_stays migrates tt)

pub words_rise : WordsRiseAlways
words_rise k e coherent few = by (server_at k.servers e.server) refl
  where
    by : (o : Option Server) → server_at k.servers e.server ≡ o → Gives (λ (d : Cluster × EntryView). WordsRise k d.0) (apply k e)
    by None none = subst (λ o. Gives (λ (d : Cluster × EntryView). WordsRise k d.0) (then_some o (λ s. option_map (λ d. (record k { servers = hand_over_newer e.server (length s.rest.outbox) d.0 k.servers }, d.1)) (done_at k e.what s)))) (sym none) tt
    by (Some s) here = of_event k e.server s coherent few here e.what

pub events_keep_words : EventsKeepWords
events_keep_words k e coherent few = weaker (λ (d : Cluster × EntryView). WordsRise k d.0) (λ (d : Cluster × EntryView). WordsHold d.0) (apply k e) (words_rise k e coherent few) (λ d w. holds_so w)
