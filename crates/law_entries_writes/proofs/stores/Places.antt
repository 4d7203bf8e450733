-- Where a thread's slots show what they showed, and so do the objects that a place of it passes, the mutex at that place is the one that was there.
use Rattle.std.proofs.Common.{◌≡◌, ℕ, zero, suc, ◌≤◌, Bool, true, List, Option, Some, None, is_some, option_map, refl, sym, ap, subst, ◌∙◌, arith}
use Rattle.std.specs.Prelude.{⊤, slice_get}
use Rattle.law_entries_reads.specs.Below.law_entries_variables.Below.law_words_ends.Below.fr_base.declared.name.MutexNo.{MutexNo}
use Rattle.law_entries_reads.specs.Below.law_entries_variables.Below.law_words_ends.Below.fr_base.declared.name.ObjNo.{ObjNo}
use Rattle.law_entries_reads.specs.Below.law_entries_variables.Below.law_words_ends.Below.fr_base.declared.label.Plain.{Plain}
use Rattle.law_entries_reads.specs.Below.law_entries_variables.Below.law_words_ends.Below.fr_base.declared.instruction.Instr.{Instr}
use Rattle.law_entries_reads.specs.Below.law_entries_variables.Below.law_words_ends.Below.fr_base.declared.instruction.Instr.TheVariants as instr
use Rattle.law_entries_reads.specs.Below.law_entries_variables.Below.law_words_ends.Below.fr_base.declared.place.Lval.{Lval}
use Rattle.law_entries_reads.specs.Below.law_entries_variables.Below.law_words_ends.Below.fr_base.Names.{same_plain}
use Rattle.law_entries_reads.specs.Below.law_entries_variables.Below.law_words_ends.Below.heap_partition.declared.value.Owned.TheVariants as owned
use Rattle.law_entries_reads.specs.Below.law_entries_variables.Below.law_words_ends.Below.thread_state.declared.value.Value.{Value}
use Rattle.law_entries_reads.specs.Below.law_entries_variables.Below.law_words_ends.Below.thread_state.declared.value.Value.TheVariants as value
use Rattle.law_entries_reads.specs.Below.law_entries_variables.Below.law_words_ends.Below.server_model.Servers.{Cluster}
use Rattle.law_entries_reads.specs.Below.law_entries_variables.Below.law_words_ends.Below.coherent_memory.Names.{tot, one, if_so}
use Rattle.law_entries_reads.specs.Below.law_entries_variables.Below.law_words_ends.Below.coherent_memory.Things.{Location, at_slot, at_temp, in_cell, Thing, things_of}
use Rattle.law_entries_reads.specs.Below.law_entries_variables.Below.law_words_ends.Below.coherent_memory.Follow.{Standing, Ground, ground_of, threads_in, thread_at, cells_in, cell_of, value_behind, leads, locate, value_at}
use Rattle.law_entries_reads.specs.Below.law_entries_variables.Below.law_words_ends.Below.coherent_memory.Sight.{sight}
use Rattle.law_entries_reads.specs.Below.law_entries_variables.Below.law_words_ends.Below.coherent_memory.Weights.{is_thread}
use Rattle.law_entries_reads.specs.Below.law_entries_variables.Below.law_words_ends.Below.coherent_memory.Requests.{mutex_of, is_mutex, locked_mutex}
use Rattle.law_entries_reads.specs.Below.law_entries_variables.Below.law_words_ends.Below.coherent_memory.Sharing.{gift_content}
use Rattle.law_entries_reads.specs.Below.law_entries_variables.Below.law_words_ends.Below.coherent_memory.OneHeap.{first_shown, cell_value, plain_value}
use Rattle.law_entries_reads.specs.Below.law_entries_variables.Below.law_words_ends.Below.coherent_memory.Coherent.{IsSound}
use Rattle.law_entries_writes.specs.Below.law_entries_variables.Below.law_heap_still.events.Shows.{ShownThread}
use Rattle.law_entries_writes.proofs.Below.law_entries_variables.Below.law_heap_still.events.Alike.{SeenAt}
use Rattle.law_entries_writes.proofs.Below.law_entries_variables.Below.law_heap_still.events.Tests.{plains, same_part, threads as thread_test}
use Rattle.law_entries_writes.proofs.Below.law_entries_variables.Below.law_heap_still.events.Told.{told, ones, same_told, first_told, at_thread, thread_told}
use Rattle.law_entries_writes.proofs.Below.law_entries_variables.Below.law_heap_still.events.PlainValues.{told_map, plain_leads, plain_mutex, leads_plain, mutex_plain, cell_found, shown_of, slot_from, slot_shown, owned_from, value_shown}
use Rattle.law_entries_writes.proofs.Below.law_entries_variables.Below.law_heap_still.events.Once.{shown_once}
use Rattle.law_entries_writes.proofs.Below.law_entries_variables.still.Kept.{masked_of}

slot_masked : (o : Option Standing) (i : ℕ) → slot_from (option_map shown_of o) i ≡ slot_from (option_map masked_of o) i
slot_masked None i = refl
slot_masked (Some x) i = refl

-- places of a thread lead to its slots and to objects
abbrev IsPlace : ℕ → Option Location → Type 0
IsPlace t (Some (at_temp u i)) = ⊥
IsPlace t (Some (at_slot u i)) = u ≡ t
IsPlace t o = ⊤

leads_place : (t : ℕ) (v : Option Value) → IsPlace t (leads t v)
leads_place t None = tt
leads_place t (Some value.Gone) = tt
leads_place t (Some (value.Own (owned.Box p))) = tt
leads_place t (Some (value.Own owned.Nothing)) = tt
leads_place t (Some (value.Own owned.Unit)) = tt
leads_place t (Some (value.Own (owned.Int i))) = tt
leads_place t (Some (value.Own (owned.Mutex m))) = tt
leads_place t (Some (value.Own (owned.Task u))) = tt
leads_place t (Some (value.SharedSlot i)) = refl
leads_place t (Some (value.MutSlot i)) = refl
leads_place t (Some (value.Shared r)) = tt
leads_place t (Some (value.Mut r)) = tt
leads_place t (Some (value.Held m)) = tt

located : (g : Ground) (t slot n : ℕ) → IsPlace t (locate g t slot n)
located g t slot zero = refl
located g t slot (suc n) = leads_place t (value_behind g (locate g t slot n))

-- what is shown of the slots of a thread, and of objects that are spared
pub record Spares (spared : ObjNo → Bool) (t : ℕ) (a b : List Thing) : Type 0 where
  pub thread : tot (is_thread t) a ≡ tot (is_thread t) b
  pub slots : (h : ShownThread → ℕ) → tot (at_thread (λ y. h (masked_of y)) t) a ≡ tot (at_thread (λ y. h (masked_of y)) t) b
  pub cells : (o : ObjNo) → spared o ≡ true → (g : Plain → ℕ) → tot (λ x. told g (cell_value o x)) a ≡ tot (λ x. told g (cell_value o x)) b

module _ (spared : ObjNo → Bool) (t : ℕ) (a b : List Thing) (threads : tot (is_thread t) a ≤ 1) (cells : (o : ObjNo) → tot (λ x. told ones (cell_value o x)) a ≤ 1) (alike : Spares spared t a b) where
  abbrev ga : Ground
  ga = ground_of a

  abbrev gb : Ground
  gb = ground_of b

  thread_same : option_map masked_of (thread_at (threads_in a) t) ≡ option_map masked_of (thread_at (threads_in b) t)
  thread_same =
      let few2 : tot (is_thread t) b ≤ 1 = omega (arith, threads, alike.thread) in
      let oa = thread_at (threads_in a) t in
      let ob = thread_at (threads_in b) t in
      same_told same_part thread_test (option_map masked_of oa) (option_map masked_of ob) (λ h.
      let g : Standing → ℕ = λ y. h (masked_of y) in
      told_map h masked_of oa ∙ sym (thread_told g t a threads) ∙ alike.slots h ∙ thread_told g t b few2 ∙ sym (told_map h masked_of ob))

  cell_same : (o : ObjNo) → spared o ≡ true → first_shown (cell_value o) a ≡ first_shown (cell_value o) b
  cell_same o s =
      let few2 : tot (λ x. told ones (cell_value o x)) b ≤ 1 = omega (arith, cells o, alike.cells o s ones) in
      same_told same_plain plains (first_shown (cell_value o) a) (first_shown (cell_value o) b) (λ g. sym (first_told (cell_value o) g a (cells o)) ∙ alike.cells o s g ∙ first_told (cell_value o) g b few2)

  slot_same : (i : ℕ) → option_map plain_value (value_behind ga (Some (at_slot t i))) ≡ option_map plain_value (value_behind gb (Some (at_slot t i)))
  slot_same i =
      let oa = thread_at (threads_in a) t in
      let ob = thread_at (threads_in b) t in
      slot_shown oa i ∙ slot_masked oa i ∙ ap (λ o. slot_from o i) thread_same ∙ sym (slot_masked ob i) ∙ sym (slot_shown ob i)

  behind_same : (o : Option Location) → IsPlace t o → SeenAt spared o → option_map plain_value (value_behind ga o) ≡ option_map plain_value (value_behind gb o)
  behind_same None p s = refl
  behind_same (Some (at_temp u i)) p s = absurd p
  behind_same (Some (at_slot u i)) p s = subst (λ v. option_map plain_value (value_behind ga (Some (at_slot v i))) ≡ option_map plain_value (value_behind gb (Some (at_slot v i)))) (sym p) (slot_same i)
  behind_same (Some (in_cell o)) p s = value_shown (cell_of (cells_in a) o) ∙ ap owned_from (cell_found o a ∙ cell_same o s ∙ sym (cell_found o b)) ∙ sym (value_shown (cell_of (cells_in b) o))

  place_same : (slot n : ℕ) → ((m : ℕ) → m ≤ n → SeenAt spared (locate ga t slot m)) → locate ga t slot n ≡ locate gb t slot n
  place_same slot zero s = refl
  place_same slot (suc n) s =
      let at : Option Location = locate ga t slot n in
      leads_plain t (value_behind ga at) ∙ ap (plain_leads t) (behind_same at (located ga t slot n) (s n (omega arith))) ∙ sym (leads_plain t (value_behind gb at))
      ∙ ap (λ o. leads t (value_behind gb o)) (place_same slot n (λ m l. s m (omega (arith, l))))

  -- the mutex at a place is the one that was there
  mutex_kept : (w : Lval) → ((m : ℕ) → m ≤ w.depth → SeenAt spared (locate ga t w.slot m)) → mutex_of (value_at ga t w) ≡ mutex_of (value_at gb t w)
  mutex_kept w s =
      let at : Option Location = locate ga t w.slot w.depth in
      mutex_plain (value_behind ga at) ∙ ap plain_mutex (behind_same at (located ga t w.slot w.depth) (s w.depth (omega arith))) ∙ sym (mutex_plain (value_behind gb at))
      ∙ ap (λ o. mutex_of (value_behind gb o)) (place_same w.slot w.depth s)

-- so a gift of that thread is the content of the mutex that it was, where the place of its lock passes what is spared
pub gift_spared : (spared : ObjNo → Bool) (k c : Cluster) → IsSound k → c.code ≡ k.code → (m : MutexNo) (x : Standing) → Spares spared x.thread.number (things_of k) (things_of c)
    → ((w : Lval) → slice_get k.code x.thread.pc ≡ Some (instr.Lock w) → (n : ℕ) → n ≤ w.depth → SeenAt spared (locate (sight k).ground x.thread.number w.slot n)) → gift_content (sight c) m x ≡ gift_content (sight k) m x
gift_spared spared k c sound code m x alike paths =
    ap (λ cs. if_so (is_some x.thread.gift) (one (is_mutex m (locked_mutex (sight c) x (slice_get cs x.thread.pc))))) code ∙ ap (λ o. if_so (is_some x.thread.gift) (one (is_mutex m o))) (by (slice_get k.code x.thread.pc) refl)
  where
    by : (i : Option Instr) → slice_get k.code x.thread.pc ≡ i → locked_mutex (sight c) x i ≡ locked_mutex (sight k) x i
    by (Some (instr.Lock w)) e = let once = shown_once k sound in sym (mutex_kept spared x.thread.number (things_of k) (things_of c) (once.threads x.thread.number) once.cells alike w (paths w e))
    by _ e = refl
