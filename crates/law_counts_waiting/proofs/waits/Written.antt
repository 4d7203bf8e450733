-- Where a thread writes through stars: in a chain of its own slots, and no other thread reads there.
use Rattle.std.proofs.Common.{◌≡◌, ℕ, suc, ◌+◌, ◌-◌, ◌≤◌, ◌<◌, true, false, Option, Some, None, is_some, refl, sym, ap, subst, ◌∙◌, arith}
use Rattle.law_counts_asking.specs.Below.fr_base.declared.place.Lval.{Lval}
use Rattle.law_counts_asking.specs.Below.fr_base.declared.name.ObjNo.{ObjNo}
use Rattle.law_counts_asking.specs.Below.fr_base.declared.instruction.Instr.{Instr}
use Rattle.law_counts_asking.specs.Below.fr_code.CodeTypes.{Entry, Table, InstrTypes, i_assign, i_move}
use Rattle.law_counts_asking.specs.Below.fr_store.Keys.{Key, slot_k}
use Rattle.law_counts_asking.specs.Below.fr_store.Store.{below_key}
use Rattle.law_counts_asking.specs.Below.fr_store.Typed.{Exact, Resolves}
use Rattle.law_counts_asking.proofs.Below.fr_store.Sound.{ref_at, sound}
use Rattle.law_counts_asking.specs.Below.mut_borrow.declared.mutable.MutRef.{MutRef}
use Rattle.law_counts_asking.specs.Below.thread_state.View.{ThreadState}
use Rattle.law_counts_asking.specs.Below.server_model.Servers.{Server, Cluster}
use Rattle.law_counts_asking.specs.Below.coherent_memory.Things.{Location, in_cell}
use Rattle.law_counts_asking.specs.Below.coherent_memory.Follow.{Standing, locate}
use Rattle.law_counts_asking.specs.Below.coherent_memory.Paths.{ends}
use Rattle.law_counts_asking.specs.Below.coherent_memory.OneHeap.{two_in, pair_of}
use Rattle.law_counts_asking.specs.Below.coherent_memory.Sight.{sight}
use Rattle.law_counts_asking.specs.Below.coherent_memory.Walking.{path}
use Rattle.law_counts_asking.specs.Below.law_words_paths.paths.HeapStore.{in_store, heap_store, GoesOn, HasPaths}
use Rattle.law_counts_asking.specs.Below.law_words_paths.paths.Pointing.{MayWrite}
use Rattle.law_counts_asking.proofs.Below.law_words_paths.paths.Alike.{leads_in_heap}
use Rattle.law_counts_asking.proofs.Below.law_words_paths.paths.Circles.{base_in, shorter}
use Rattle.law_counts_asking.proofs.Below.law_words_paths.paths.Forms.{running_typed}
use Rattle.law_counts_asking.proofs.Below.law_words_paths.paths.FreshPaths.{OwnSlot, own_closed}
use Rattle.law_counts_asking.proofs.Below.law_words_paths.paths.Shown.{stands_there}
use Rattle.law_words_asked.proofs.Below.law_words_kept.reads.FreshReads.{Reading, chain_apart}
use Rattle.law_words_asked.proofs.Below.law_words_kept.ends.Ends.{EndsAt, ends_at as ends_there}
use Rattle.law_words_asked.proofs.Below.law_words_kept.ends.Alone.{holder_stars}
use Rattle.law_counts_asking.proofs.Below.law_results_reads.Known.{Steps, standing, paths, goes, types, entry, typed}
use Rattle.law_counts_asking.proofs.Below.law_results_reads.Readers.{to_entry}
use Rattle.law_words_asked.specs.writes.Writing.{WritesThrough, assigns, moves}
use Rattle.law_words_asked.proofs.writes.Ways.{may, ends_none}

-- an object in a chain of a thread's own slots
pub record InChain (k : Cluster) (c : HasPaths k) (t : ℕ) (l : Location) : Type 0 where
  pub slot : ℕ
  pub boxes : ℕ
  pub leads_there : below_key (heap_store k c.types) (slot_k t slot) boxes ≡ Some (in_store l)

-- from a slot of its own a place leads into one, through boxes and mutable references
pub chain_by : (k : Cluster) (c : HasPaths k) (x : Standing) (g : GoesOn k x) (slot d : ℕ) (b : Key) (m : ℕ) (q : Exact) (l : Location) → Resolves c.types.typing.exact true (slot_k x.thread.number slot) d b m q → locate (sight k).ground x.thread.number slot d ≡ Some l
    → InChain k c x.thread.number l
chain_by k c x g slot d b m q l resolves located =
    let key = slot_k x.thread.number slot in
    let st = heap_store k c.types in
    let own = base_in (OwnSlot k c x.thread.number) c.types.typing.exact (own_closed k c x g) key d b m q (slot, refl) resolves in
    let hw = (leads_in_heap k c x g slot d l located).0 in
    let there = sym (sound c.types.typing.rank c.types.typing.exact st c.types.state.typed true key d b m q resolves) ∙ hw in
    record { slot = own.0; boxes = m; leads_there = subst (λ z. below_key (heap_store k c.types) z m ≡ Some (in_store l)) own.1 there }

-- so does one that may be written
pub chain_of : (k : Cluster) (c : HasPaths k) (x : Standing) (g : GoesOn k x) (w : Lval) (d : ℕ) (l : Location) → MayWrite k c.types x w → d ≤ w.depth → locate (sight k).ground x.thread.number w.slot d ≡ Some l → InChain k c x.thread.number l
chain_of k c x g w d l m le located =
    let q = shorter c.types.typing.exact true (slot_k x.thread.number w.slot) (w.depth - d) w.depth d m.base m.boxes m.type (omega (arith, le)) m.resolves in
    chain_by k c x g w.slot d q.base q.boxes q.type l q.res located

-- and the place of the holder of a reference that ends
pub chain_of_holder : (k : Cluster) (c : HasPaths k) (x : Standing) (g : GoesOn k x) (r : MutRef) → path (sight k) x ≡ ends r → (d : ℕ) (l : Location) → d < r.holder.depth → locate (sight k).ground x.thread.number r.holder.slot (suc d) ≡ Some l → InChain k c x.thread.number l
chain_of_holder k c x g r is d l lt located =
    let e : EndsAt k c x g r = ends_there k c x g r is in
    let m = e.there in
    let key = slot_k x.thread.number m.place.slot in
    let f = ref_at c.types.typing.rank c.types.typing.exact (heap_store k c.types) c.types.state.typed m.key true (record { key = key; depth = m.place.depth }) m.exact in
    let h = holder_stars k c x g r is e in
    let last : m.place.depth ≡ suc r.holder.depth = h.1 ∙ ap suc (sym h.3) in
    let s = shorter c.types.typing.exact true key (m.place.depth - suc d) m.place.depth (suc d) f.base f.boxes f.type (omega (arith, last, lt)) f.res in
    chain_by k c x g m.place.slot (suc d) s.base s.boxes s.type l s.res (subst (λ z. locate (sight k).ground x.thread.number z (suc d) ≡ Some l) h.2 located)

-- a thread that writes through stars waits for no pair
awake : (table : Table) (e e2 : Entry) (i : Instr) (w : Lval) (d : ℕ) → WritesThrough i w d → InstrTypes table e i e2 → e.forked ≡ false
awake table _ _ _ w d (assigns o q) (i_assign takes has opens kept shape below) = refl
awake table _ _ _ w d (moves q) (i_move waits has moved free own_path) = refl

none_paired : (o : Option (ℕ × ℕ)) → is_some o ≡ false → o ≡ None
none_paired None e = refl
none_paired (Some p) e = absurd (cc e)

pairless : (k : Cluster) (n t : ℕ) (s : Server) (y : ThreadState) (i : Instr) (z : Steps k n t s y i) (v : Lval) (d : ℕ) → WritesThrough i v d → two_in y.phase ≡ None
pairless k n t s y i z v d through =
    let c = paths k n t s y i z in
    let x = standing k n t s y i z in
    let g = goes k n t s y i z in
    let at_it = typed k n t s y i z in
    let to = to_entry (types k n t s y i z).table y.pc (entry k n t s y i z) i at_it.0 at_it.1 (ends_none i v d through) in
    let off : (entry k n t s y i z).forked ≡ false = awake (types k n t s y i z).table (entry k n t s y i z) to.0 i v d through to.1 in
    none_paired (two_in y.phase) (sym (ap (λ o. is_some (pair_of o)) (stands_there k c x g)) ∙ sym (running_typed k c x g).forks ∙ off)

-- what a thread writes: nobody else reads it
pub record Written (k : Cluster) (c : HasPaths k) (t : ℕ) (o : ObjNo) : Type 0 where
  pub chain : InChain k c t (in_cell o)
  pub unread : (x : Standing) → Reading k c x (in_cell o) → x.thread.number ≡ t

pub written : (k : Cluster) (n t : ℕ) (s : Server) (y : ThreadState) (i : Instr) (z : Steps k n t s y i) (v : Lval) (d : ℕ) → WritesThrough i v d → (o : ObjNo) → locate (sight k).ground y.number v.slot v.depth ≡ Some (in_cell o) → Written k (paths k n t s y i z) y.number o
written k n t s y i z v d through o located =
    let its = chain_of k (paths k n t s y i z) (standing k n t s y i z) (goes k n t s y i z) v v.depth (in_cell o) (may k n t s y i z v d through) (omega arith) located in
    record {
      chain = its;
      unread = λ x reads. chain_apart k (paths k n t s y i z) (standing k n t s y i z) (goes k n t s y i z) (pairless k n t s y i z v d through) x (in_cell o) reads its.slot its.boxes its.leads_there;
    }
