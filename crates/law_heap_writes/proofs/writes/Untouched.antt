-- No place of a lock passes the cell that a thread writes through stars.
use Rattle.std.proofs.Common.{◌≡◌, ℕ, ◌+◌, ◌-◌, ◌≤◌, not, Bool, true, false, length, Option, Some, None, is_some, refl, sym, ap, subst, ◌∙◌, arith}
use Rattle.std.specs.Prelude.{slice_get}
use Rattle.law_heap_writes.proofs.Below.fr_store.Keys.{object_cases}
use Rattle.law_heap_writes.specs.Below.fr_store.Keys.{slot_k}
use Rattle.law_heap_writes.specs.Below.fr_store.Store.{Store, below_key}
use Rattle.law_heap_writes.proofs.Below.fr_store.Sound.{sound}
use Rattle.law_heap_writes.specs.Below.fr_base.declared.name.ObjNo.{ObjNo}
use Rattle.law_heap_writes.specs.Below.fr_base.declared.place.Lval.{Lval}
use Rattle.law_heap_writes.specs.Below.fr_base.declared.instruction.Instr.{Instr}
use Rattle.law_heap_writes.specs.Below.fr_base.declared.instruction.Instr.TheVariants as instr
use Rattle.law_heap_writes.specs.Below.thread_state.View.{ThreadState, is_over}
use Rattle.law_heap_writes.specs.Below.server_model.Servers.{Server, Cluster}
use Rattle.law_heap_writes.specs.Below.coherent_memory.Names.{other, if_so, one, same_object}
use Rattle.law_heap_writes.specs.Below.coherent_memory.Things.{Location, at_slot, at_temp, in_cell, things_of}
use Rattle.law_heap_writes.specs.Below.coherent_memory.Follow.{Standing, threads_in, thread_at, locate}
use Rattle.law_heap_writes.specs.Below.coherent_memory.Sight.{sight}
use Rattle.law_heap_writes.specs.Below.coherent_memory.Walking.{instr_of}
use Rattle.law_heap_writes.specs.Below.coherent_memory.Rooted.{dressed, is_end}
use Rattle.law_heap_writes.specs.Below.coherent_memory.OneHeap.{two_in}
use Rattle.law_heap_writes.specs.Below.law_words_paths.paths.HeapStore.{in_store, heap_store, GoesOn, HasPaths}
use Rattle.law_heap_writes.specs.Below.law_words_paths.paths.Pointing.{MayWrite}
use Rattle.law_heap_writes.proofs.Below.law_words_paths.paths.Alike.{leads_in_heap}
use Rattle.law_heap_writes.proofs.Below.law_words_paths.paths.Circles.{base_in}
use Rattle.law_heap_writes.proofs.Below.law_words_paths.paths.Contained.{among_thread}
use Rattle.law_heap_writes.proofs.Below.law_words_paths.paths.Forms.{none_of}
use Rattle.law_heap_writes.proofs.Below.law_words_paths.paths.FreshPaths.{OwnSlot, own_closed}
use Rattle.law_heap_writes.proofs.Below.law_words_paths.paths.Shown.{stands_there}
use Rattle.law_heap_writes.proofs.Below.law_words_paths.paths.Sole.{some_is}
use Rattle.law_words_writes.specs.Below.law_words_kept.reads.Reading.{locks}
use Rattle.law_words_writes.proofs.Below.law_words_kept.reads.FreshReads.{reading_of, chain_apart}
use Rattle.law_heap_writes.proofs.Below.law_results_reads.Known.{Steps, standing, paths, goes}
use Rattle.law_words_writes.proofs.Below.law_heap_still.events.Alike.{SeenAt, LocksSee}
use Rattle.law_words_writes.specs.Below.law_words_asked.writes.Writing.{WritesThrough, assigns, moves}
use Rattle.law_words_writes.proofs.Below.law_words_asked.writes.Ways.{may, place}

-- its instruction is no lock
no_lock : (i : Instr) (w p : Lval) (d : ℕ) → WritesThrough i w d → i ≡ instr.Lock p → ⊥
no_lock _ w p d (assigns o e) f = cc f
no_lock _ w p d (moves e) f = cc f

-- a thread at a lock goes on
lock_goes : (k : Cluster) (x : Standing) (w : Lval) → instr_of (sight k) x ≡ Some (instr.Lock w) → dressed (sight k) x ≡ 0 → is_over x.thread.phase ≡ false
lock_goes k x w at none = by (is_over x.thread.phase) refl
  where
    by : (q : Bool) → is_over x.thread.phase ≡ q → q ≡ false
    by false e = refl
    by true e =
        let all = sym (ap (λ b. if_so b (other (is_end (instr_of (sight k) x)) + length x.thread.slots + length x.thread.temps + one (is_some x.thread.gift))) e) ∙ none in
        let ends : other (is_end (instr_of (sight k) x)) ≡ 1 = ap (λ i. other (is_end i)) at in
        absurd (omega (arith, all, ends))

module _ (k : Cluster) (n t : ℕ) (s : Server) (y : ThreadState) (i : Instr) (z : Steps k n t s y i) (w : Lval) (d : ℕ) (through : WritesThrough i w d) (alone : two_in y.phase ≡ None) (o : ObjNo) (ends : place k n t s y i z w d through w.depth ≡ Some (in_cell o)) where
  abbrev x : Standing
  x = standing k n t s y i z

  abbrev c : HasPaths k
  c = paths k n t s y i z

  abbrev st : Store
  st = heap_store k c.types

  abbrev m : MayWrite k c.types x w
  m = may k n t s y i z w d through

  -- the object is in a chain of its own slots
  pub own_end : (slot : ℕ) × (boxes : ℕ) × (below_key st (slot_k y.number slot) boxes ≡ Some (in_store (in_cell o)))
  own_end =
      let key = slot_k y.number w.slot in
      let b = base_in (OwnSlot k c y.number) c.types.typing.exact (own_closed k c x (goes k n t s y i z)) key w.depth m.base m.boxes m.type (w.slot, refl) m.resolves in
      let hw = (leads_in_heap k c x (goes k n t s y i z) w.slot w.depth (in_cell o) ends).0 in
      let there = sym (sound c.types.typing.rank c.types.typing.exact st c.types.state.typed true key w.depth m.base m.boxes m.type m.resolves) ∙ hw in
      (b.0, m.boxes, subst (λ v. below_key st v m.boxes ≡ Some (in_store (in_cell o))) b.1 there)

  not_there : (v : Standing) (p : Lval) → GoesOn k v → instr_of (sight k) v ≡ Some (instr.Lock p) → (e : ℕ) → e ≤ p.depth → locate (sight k).ground v.thread.number p.slot e ≡ Some (in_cell o) → ⊥
  not_there v p on code e le there =
      let number = chain_apart k c x (goes k n t s y i z) alone v (in_cell o) (reading_of k c v (instr.Lock p) p p.depth e (in_cell o) on code (locks refl) (p.depth - e) (omega (arith, le)) there) own_end.0 own_end.1 own_end.2 in
      let same : Some v ≡ Some x = sym (stands_there k c v on) ∙ ap (thread_at (sight k).ground.threads) number ∙ stands_there k c x (goes k n t s y i z) in
      let at : Some i ≡ Some (instr.Lock p) = sym z.code ∙ ap (λ (u : Standing). slice_get k.code u.thread.pc) (sym (some_is same)) ∙ code in
      no_lock i w p d through (some_is at)

  pub locks_pass_by : LocksSee (λ q. not (same_object q o)) k
  locks_pass_by u v p found code e le = by (locate (sight k).ground v.thread.number p.slot e) refl
    where
      on : GoesOn k v
      on =
          let among = (among_thread (threads_in (things_of k)) u v found).0 in
          record { among = among; going = lock_goes k v p code (none_of (dressed (sight k)) v (sight k).ground.threads c.over_are_bare among) }

      by : (l : Option Location) → locate (sight k).ground v.thread.number p.slot e ≡ l → SeenAt (λ q. not (same_object q o)) l
      by None f = tt
      by (Some (at_slot a b)) f = tt
      by (Some (at_temp a b)) f = tt
      by (Some (in_cell q)) f = object_cases (λ b. not b ≡ true) q o (λ g. absurd (not_there v p on code e le (f ∙ ap (λ a. Some (in_cell a)) g))) (λ _. refl)
