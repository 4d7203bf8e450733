-- Each kind of event whose entries are proved to be legal.
use Rattle.std.proofs.Common.{◌≡◌, ℕ, ◌==◌, ◌&&◌, not, nat_lt, Bool, true, false, Option, Some, None, option_map, refl, subst}
use Rattle.std.specs.Prelude.{⊤, slice_get}
use Rattle.law_words_ends.specs.Below.fr_base.declared.instruction.Instr.{Instr}
use Rattle.law_words_ends.specs.Below.fr_base.declared.instruction.Instr.TheVariants as instr
use Rattle.law_words_ends.specs.Below.fr_base.declared.release.Released.TheVariants as released_as
use Rattle.law_words_ends.specs.Below.thread_state.View.{ThreadState}
use Rattle.law_words_ends.specs.Below.server_msgs.declared.message.Message.{Message}
use Rattle.law_words_ends.specs.Below.server_msgs.declared.message.Message.TheVariants as message
use Rattle.law_words_ends.specs.Below.server_model.declared.event.What.{What}
use Rattle.law_words_ends.specs.Below.server_model.declared.event.What.TheVariants.{Step, Deliver, Evict, Migrate}
use Rattle.law_words_ends.specs.Below.server_model.Servers.{Server, Cluster, server_at}
use Rattle.law_words_ends.specs.Below.server_model.Work.{thread_in, then_some}
use Rattle.law_words_ends.specs.Below.server_model.Events.{has_phase, is_ready, enabled, does}
use Rattle.law_words_ends.specs.Below.law_words_kept.Below.coloured_heap.Heap.{Coloured}
use Rattle.law_words_ends.specs.Below.coherent_memory.Colours.{StandsColoured}
use Rattle.law_words_ends.specs.Below.coherent_memory.Coherent.{IsSound}
use Rattle.law_words_ends.specs.Below.law_counts_sums.Kinds.{Kind, evicts, migrates, starts, arrives, asks_lock, asks_dup, asks_join, granted, dupped, joined, unlocked, released, finished, message_kind, instr_kind, kind_at}
use Rattle.law_words_ends.proofs.Below.coherent_memory.Names.{and_left, and_right}
use Rattle.law_words_ends.specs.Below.law_counts_sums.Laws.{Gives}
use Rattle.law_words_ends.proofs.Below.law_heap_still.events.StillKinds.{IsStill}
use Rattle.law_words_ends.proofs.Below.law_words_kept.stays.StayKinds.{Stays}
use Rattle.law_entries_variables.specs.deliveries.Entries.{EntriesLegal}
use Rattle.law_entries_variables.proofs.deliveries.Applied.{Led, delivered, entry_legal}
use Rattle.law_entries_variables.proofs.deliveries.Quiet.{thread_starts, thread_arrives, content_comes, share_comes, result_comes}
use Rattle.law_entries_variables.proofs.deliveries.Asked.{share_asked, content_asked, result_asked}
use Rattle.law_entries_variables.proofs.deliveries.Left.{evictions, departures}
use Rattle.law_entries_variables.proofs.deliveries.Ended.{thread_ends}
use Rattle.law_entries_variables.proofs.deliveries.Back.{content_back, share_dropped, task_dropped}

abbrev pub IsLegal : Kind → Type 0
IsLegal evicts = ⊤
IsLegal migrates = ⊤
IsLegal starts = ⊤
IsLegal arrives = ⊤
IsLegal asks_lock = ⊤
IsLegal asks_dup = ⊤
IsLegal asks_join = ⊤
IsLegal granted = ⊤
IsLegal dupped = ⊤
IsLegal joined = ⊤
IsLegal unlocked = ⊤
IsLegal released = ⊤
IsLegal finished = ⊤
IsLegal kind = ⊥

some_same : {a b : Kind} → Some a ≡ Some b → b ≡ a
some_same e = cc

legal_as : (a b : Kind) → Some a ≡ Some b → IsLegal b → IsLegal a
legal_as a b q p = subst IsLegal (some_same q) p

-- no step is one of these
no_step : (i : Instr) → IsLegal (instr_kind i) → ⊥
no_step (instr.Let o) p = p
no_step (instr.Assign w o) p = p
no_step (instr.Read w t) p = p
no_step (instr.Borrow w) p = p
no_step (instr.BorrowMut w) p = p
no_step (instr.Box o) p = p
no_step (instr.Arith f a b) p = p
no_step (instr.Print o) p = p
no_step instr.Discard p = p
no_step instr.DropSlot p = p
no_step (instr.Spawn cs pc) p = p
no_step (instr.Join o) p = p
no_step (instr.Mutex o) p = p
no_step (instr.Dup w) p = p
no_step (instr.Lock w) p = p
no_step instr.Unlock p = p
no_step (instr.Par cs pc ds other) p = p
no_step instr.ParEnd p = p
no_step (instr.End o) p = p

module _ (k : Cluster) (sound : IsSound k) (number : ℕ) (s : Server) (here : server_at k.servers number ≡ Some s) (c0 : Coloured) (is_coloured : StandsColoured k c0) where
  message_legal : (i : ℕ) (m : Message) → slice_get s.rest.inbox i ≡ Some m → IsLegal (message_kind m) → Gives (Led k s c0) (does k.code k.options s (Deliver i))
  message_legal i (message.Start t) q p = delivered k s i (message.Start t) c0 q (thread_starts k sound number s here c0 is_coloured i t)
  message_legal i (message.Migrate t) q p = delivered k s i (message.Migrate t) c0 q (thread_arrives k sound number s here c0 is_coloured i t)
  message_legal i (message.Granted m v t) q p = delivered k s i (message.Granted m v t) c0 q (content_comes k sound number s here c0 is_coloured i m v t)
  message_legal i (message.Dupped m t) q p = delivered k s i (message.Dupped m t) c0 q (share_comes k sound number s here c0 is_coloured i m t)
  message_legal i (message.Joined u v t) q p = delivered k s i (message.Joined u v t) c0 q (result_comes k sound number s here c0 is_coloured i u v t)
  message_legal i (message.Lock m a t) q p = delivered k s i (message.Lock m a t) c0 q (content_asked k sound number s here c0 is_coloured i m a t)
  message_legal i (message.Dup m a t) q p = delivered k s i (message.Dup m a t) c0 q (share_asked k sound number s here c0 is_coloured i m a t)
  message_legal i (message.Join u a t) q p = delivered k s i (message.Join u a t) c0 q (result_asked k sound number s here c0 is_coloured i u a t)
  message_legal i (message.Fetch w o a t) q p = absurd p
  message_legal i (message.Fetched w c t) q p = absurd p
  message_legal i (message.Move w o a t) q p = absurd p
  message_legal i (message.Moved w c t) q p = absurd p
  message_legal i (message.Drop w o) q p = absurd p
  message_legal i (message.Unlock m v) q p = delivered k s i (message.Unlock m v) c0 q (content_back k sound number s here c0 is_coloured i m v q)
  message_legal i (message.Release (released_as.Mutex m)) q p = delivered k s i (message.Release (released_as.Mutex m)) c0 q (share_dropped k sound number s here c0 is_coloured i m)
  message_legal i (message.Release (released_as.Task u)) q p = delivered k s i (message.Release (released_as.Task u)) c0 q (task_dropped k sound number s here c0 is_coloured i u)
  message_legal i (message.Finished u v) q p = delivered k s i (message.Finished u v) c0 q (thread_ends k sound number s here c0 is_coloured i u v q)

  module _ (kind : Kind) (p : IsLegal kind) where
    of_message : (i : ℕ) (o : Option Message) → slice_get s.rest.inbox i ≡ o → option_map message_kind o ≡ Some kind → Gives (Led k s c0) (does k.code k.options s (Deliver i))
    of_message i None h r = absurd (cc r)
    of_message i (Some m) h r = message_legal i m h (legal_as (message_kind m) kind r p)

    of_instr : {X : Type 0} (o : Option Instr) → option_map instr_kind o ≡ Some kind → X
    of_instr None r = absurd (cc r)
    of_instr (Some i) r = absurd (no_step i (legal_as (instr_kind i) kind r p))

    of_thread : {X : Type 0} (o : Option ThreadState) → then_some o (λ x. option_map instr_kind (slice_get k.code x.pc)) ≡ Some kind → X
    of_thread None r = absurd (cc r)
    of_thread (Some x) r = of_instr (slice_get k.code x.pc) r

    server_led : (w : What) → enabled k.options s w ≡ true → kind_at k w s ≡ Some kind → Gives (Led k s c0) (does k.code k.options s w)
    server_led (Step t) on q = of_thread (thread_in s.threads t) q
    server_led (Deliver i) on q = of_message i (slice_get s.rest.inbox i) refl q
    server_led (Evict w) on q = evictions k sound number s here c0 is_coloured w
    server_led (Migrate t target) on q =
        let ready = and_left (has_phase is_ready (thread_in s.threads t)) (nat_lt target k.options.servers && not (target == s.rest.number)) on in
        let rest = and_right (has_phase is_ready (thread_in s.threads t)) (nat_lt target k.options.servers && not (target == s.rest.number)) on in
        departures k sound number s here c0 is_coloured t target (and_left (nat_lt target k.options.servers) (not (target == s.rest.number)) rest) (turned (target == s.rest.number) (and_right (nat_lt target k.options.servers) (not (target == s.rest.number)) rest)) ready
      where
        turned : (b : Bool) → not b ≡ true → b ≡ false
        turned true e = absurd (cc e)
        turned false e = refl

pub kind_legal : (kind : Kind) → IsLegal kind → Stays kind → IsStill kind → EntriesLegal kind
kind_legal kind p stays still =
    entry_legal kind stays still (λ k number s w c0 sound few here on q is_coloured. server_led k sound number s here c0 is_coloured kind p w on q)
