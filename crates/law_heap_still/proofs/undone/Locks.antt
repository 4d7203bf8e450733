-- In a coherent cluster the place of a lock passes objects of the one heap alone, and each of these is named by something.
use Rattle.std.proofs.Common.{◌≡◌, ℕ, ◌+◌, Bool, true, false, length, Option, Some, None, is_some, refl, sym, ap, ◌∙◌, arith}
use Rattle.law_words_paths.specs.Below.fr_base.declared.name.ObjNo.{ObjNo}
use Rattle.law_words_paths.specs.Below.fr_base.declared.label.Plain.{Plain}
use Rattle.law_words_paths.specs.Below.fr_base.declared.place.Lval.{Lval}
use Rattle.law_words_paths.specs.Below.fr_base.declared.instruction.Instr.TheVariants as instr
use Rattle.law_words_paths.specs.Below.fr_store.Store.{Val}
use Rattle.law_words_paths.specs.Below.fr_sound.Seen.{seen_cell}
use Rattle.law_words_paths.specs.Below.thread_state.View.{is_over}
use Rattle.law_words_paths.specs.Below.server_model.Servers.{Cluster}
use Rattle.law_words_paths.specs.Below.coherent_memory.Names.{other, if_so, one}
use Rattle.law_words_paths.specs.Below.coherent_memory.Things.{Location, at_slot, at_temp, in_cell, things_of}
use Rattle.law_words_paths.specs.Below.coherent_memory.Follow.{Standing, threads_in, locate}
use Rattle.law_words_paths.specs.Below.coherent_memory.Sight.{sight}
use Rattle.law_words_paths.specs.Below.coherent_memory.Walking.{instr_of}
use Rattle.law_words_paths.specs.Below.coherent_memory.Rooted.{dressed, is_end}
use Rattle.law_words_paths.specs.Below.coherent_memory.OneHeap.{object_n, if_in, is_in_state, object_value, first_shown, cell_value}
use Rattle.law_words_paths.specs.paths.HeapStore.{GoesOn, HasPaths}
use Rattle.law_words_paths.proofs.paths.Alike.{leads_in_heap, heap_of_shown}
use Rattle.law_words_paths.proofs.paths.Contained.{among_thread}
use Rattle.law_words_paths.proofs.paths.Forms.{none_of}
use Rattle.law_heap_still.proofs.events.Counting.{unnamed_out}
use Rattle.law_heap_still.proofs.events.Alike.{SeenAt, LocksSee}
use Rattle.law_heap_still.proofs.events.Drops.{named}

seen_less : (f g : ObjNo → Bool) → ((o : ObjNo) → f o ≡ true → g o ≡ true) → (l : Option Location) → SeenAt f l → SeenAt g l
seen_less f g h None p = tt
seen_less f g h (Some (at_slot u i)) p = tt
seen_less f g h (Some (at_temp u i)) p = tt
seen_less f g h (Some (in_cell o)) p = h o p

module _ (k : Cluster) (c : HasPaths k) where
  -- what is in the one heap is named
  in_heap : (o : ObjNo) (p : Option Plain) → object_value (sight k) o ≡ p → is_some p ≡ true → named k o ≡ true
  in_heap o p e there = by (named k o) refl
    where
      nothing : (q : Bool) → q ≡ false → if_in q (first_shown (cell_value o) (sight k).things) ≡ None
      nothing q f = ap (λ b. if_in b (first_shown (cell_value o) (sight k).things)) f

      by : (q : Bool) → named k o ≡ q → q ≡ true
      by true f = refl
      by false f =
          let out : object_value (sight k) o ≡ None = nothing (is_in_state (sight k) (object_n o)) (unnamed_out (sight k) (length (sight k).things) (object_n o) f) in
          absurd (cc (sym there ∙ ap is_some (sym e ∙ out)))

  -- a thread at a lock goes on
  goes_on : (x : Standing) (w : Lval) → instr_of (sight k) x ≡ Some (instr.Lock w) → dressed (sight k) x ≡ 0 → is_over x.thread.phase ≡ false
  goes_on x w at none = by (is_over x.thread.phase) refl
    where
      by : (q : Bool) → is_over x.thread.phase ≡ q → q ≡ false
      by false e = refl
      by true e =
          let all = sym (ap (λ b. if_so b (other (is_end (instr_of (sight k) x)) + length x.thread.slots + length x.thread.temps + one (is_some x.thread.gift))) e) ∙ none in
          let ends : other (is_end (instr_of (sight k) x)) ≡ 1 = ap (λ i. other (is_end i)) at in
          absurd (omega (arith, all, ends))

  -- what a place passes of a thread that goes on is in the one heap
  places_pass : (x : Standing) → GoesOn k x → (slot n : ℕ) → SeenAt (λ o. is_some (object_value (sight k) o)) (locate (sight k).ground x.thread.number slot n)
  places_pass x goes slot n = by (locate (sight k).ground x.thread.number slot n) refl
    where
      by : (l : Option Location) → locate (sight k).ground x.thread.number slot n ≡ l → SeenAt (λ o. is_some (object_value (sight k) o)) l
      by None e = tt
      by (Some (at_slot u i)) e = tt
      by (Some (at_temp u i)) e = tt
      by (Some (in_cell o)) e =
          let shown = leads_in_heap k c x goes slot n (in_cell o) e in
          let value = heap_of_shown k c x goes o shown.1 in
          seen (object_value (sight k) o) refl value.1
        where
          seen : (p : Option Plain) → object_value (sight k) o ≡ p → {v : Val} → seen_cell c.types.typing.gives p ≡ Some v → is_some (object_value (sight k) o) ≡ true
          seen None q r = absurd (cc r)
          seen (Some v) q r = ap is_some q

  in_heap_named : (l : Option Location) → SeenAt (λ o. is_some (object_value (sight k) o)) l → SeenAt (named k) l
  in_heap_named l p = seen_less (λ o. is_some (object_value (sight k) o)) (named k) (λ o h. in_heap o (object_value (sight k) o) refl h) l p

  -- and is named
  pub places_see : (x : Standing) → GoesOn k x → (slot n : ℕ) → SeenAt (named k) (locate (sight k).ground x.thread.number slot n)
  places_see x goes slot n = in_heap_named (locate (sight k).ground x.thread.number slot n) (places_pass x goes slot n)

  -- so is what the place of a lock passes
  pub locks_pass : LocksSee (λ o. is_some (object_value (sight k) o)) k
  locks_pass t x w there at n within =
      let among = (among_thread (threads_in (things_of k)) t x there).0 in
      places_pass x (record { among = among; going = goes_on x w at (none_of (dressed (sight k)) x (sight k).ground.threads c.over_are_bare among) }) w.slot n

  pub locks_see : LocksSee (named k) k
  locks_see t x w there at n within = in_heap_named (locate (sight k).ground x.thread.number w.slot n) (locks_pass t x w there at n within)
