-- No pointer that a thread's write follows is stale.
use Rattle.std.proofs.Common.{◌≡◌, ℕ, zero, suc, ◌-◌, ◌<◌, true, false, Option, Some, None, refl, sym, ap, subst, ◌∙◌, arith}
use Rattle.std.specs.Prelude.{slice_get}
use Rattle.law_words_kept.specs.Below.fr_base.declared.place.Lval.{Lval}
use Rattle.law_words_kept.specs.Below.fr_base.declared.instruction.Operand.{Operand}
use Rattle.law_words_kept.specs.Below.fr_base.declared.instruction.Instr.{Instr}
use Rattle.law_words_kept.specs.Below.fr_base.declared.instruction.Instr.TheVariants as instr
use Rattle.law_words_kept.specs.Below.fr_store.Keys.{slot_k}
use Rattle.law_words_kept.specs.Below.fr_store.Store.{at_key, Store, Place as StorePlace, walk, below_key}
use Rattle.law_words_kept.specs.Below.fr_store.Typed.{KeyTypes, RefFits}
use Rattle.law_words_kept.proofs.Below.fr_store.Chains.{unique}
use Rattle.law_words_kept.proofs.Below.fr_store.Sound.{ref_at, sound}
use Rattle.law_words_kept.specs.Below.mut_borrow.declared.mutable.MutRef.{MutRef}
use Rattle.law_words_kept.specs.Below.thread_state.declared.value.Value.{Value}
use Rattle.law_words_kept.specs.Below.thread_state.declared.value.Value.TheVariants as value
use Rattle.law_words_kept.specs.Below.server_model.Servers.{Cluster}
use Rattle.law_words_kept.specs.Below.coherent_memory.Names.{Among}
use Rattle.law_words_kept.specs.Below.coherent_memory.Things.{Location, things_of}
use Rattle.law_words_kept.specs.Below.coherent_memory.Follow.{Standing, locate}
use Rattle.law_words_kept.specs.Below.coherent_memory.Paths.{lends, ends, ending, assigning, taking, path_of, written_place}
use Rattle.law_words_kept.specs.Below.coherent_memory.Stale.{Reference, references, is_held_at as is_held_there, changed_above, stale_above, taken_above}
use Rattle.law_words_kept.specs.Below.coherent_memory.Sight.{sight}
use Rattle.law_words_kept.specs.Below.coherent_memory.Walking.{instr_of, path}
use Rattle.law_words_kept.specs.Below.coherent_memory.Words.{IsStale}
use Rattle.law_words_kept.specs.Below.law_words_paths.paths.HeapStore.{in_store, heap_store, GoesOn, HasPaths}
use Rattle.law_words_kept.specs.Below.law_words_paths.paths.Pointing.{WritesTo, assigns, moves}
use Rattle.law_words_kept.proofs.Below.law_words_paths.paths.Sole.{some_is}
use Rattle.law_words_kept.proofs.Below.law_words_paths.paths.Circles.{shorter, base_in}
use Rattle.law_words_kept.proofs.Below.law_words_paths.paths.Alike.{leads_in_heap}
use Rattle.law_words_kept.proofs.Below.law_words_paths.paths.FreshPaths.{MutThere, flat, holds_there, OwnChain, chain_of, OwnSlot, own_closed, followed_of, none_made, threads_same}
use Rattle.law_words_kept.specs.ends.Ending.{WritesAreFresh}
use Rattle.law_words_kept.proofs.ends.Lent.{none_before}
use Rattle.law_words_kept.proofs.ends.Ends.{EndsAt, ends_at}
use Rattle.law_words_kept.proofs.ends.Alone.{not_taken, holder_stars}

some_place : {w v : Lval} → Some w ≡ Some v → w ≡ v
some_place e = cc

-- HOW A THREAD WRITES

-- it assigns or moves through stars, and lends nothing
pub record Through (k : Cluster) (x : Standing) (w : Lval) : Type 0 where
  pub instruction : Instr
  pub at : instr_of (sight k) x ≡ Some instruction
  pub writes_to : WritesTo instruction w
  pub no_lend : (p : Lval) → instruction ≡ instr.BorrowMut p → ⊥

-- or it ends a reference whose holder's place that is
pub data Writing (k : Cluster) (x : Standing) (w : Lval) : Type 0 where
  through_it : Through k x w → Writing k x w
  of_holder : (r : MutRef) → path (sight k) x ≡ ends r → r.holder ≡ w → Writing k x w

ends_no_lend : (p : Lval) (r : MutRef) → lends p ≡ ends r → ⊥
ends_no_lend p r e = absurd cc

module _ (k : Cluster) (x : Standing) (w : Lval) where
  ending_of : (v : Option Value) → path (sight k) x ≡ ending v → written_place (ending v) ≡ Some w → Writing k x w
  ending_of (Some (value.Mut r)) is e = of_holder r is (some_place e)
  ending_of None is e = absurd cc
  ending_of (Some value.Gone) is e = absurd cc
  ending_of (Some (value.Own v)) is e = absurd cc
  ending_of (Some (value.SharedSlot i)) is e = absurd cc
  ending_of (Some (value.MutSlot i)) is e = absurd cc
  ending_of (Some (value.Shared q)) is e = absurd cc
  ending_of (Some (value.Held m)) is e = absurd cc

  assign_of : (v : Lval) (o : Operand) → instr_of (sight k) x ≡ Some (instr.Assign v o) → (d : ℕ) → path (sight k) x ≡ assigning x.thread.slots v d → written_place (assigning x.thread.slots v d) ≡ Some w → Writing k x w
  assign_of v o at zero is e = ending_of (slice_get x.thread.slots v.slot) is e
  assign_of v o at (suc d) is e = through_it (record { instruction = instr.Assign v o; at = at; writes_to = subst (WritesTo (instr.Assign v o)) (some_place e) assigns; no_lend = λ p q. absurd cc })

  take_of : (v : Lval) → instr_of (sight k) x ≡ Some (instr.Read v true) → (d : ℕ) → written_place (taking v d) ≡ Some w → Writing k x w
  take_of v at zero e = absurd cc
  take_of v at (suc d) e = through_it (record { instruction = instr.Read v true; at = at; writes_to = subst (WritesTo (instr.Read v true)) (some_place e) moves; no_lend = λ p q. absurd cc })

  pub writing : written_place (path (sight k) x) ≡ Some w → Writing k x w
  writing e = by (instr_of (sight k) x) refl refl e
    where
      by : (i : Option Instr) → instr_of (sight k) x ≡ i → path (sight k) x ≡ path_of i x.thread → written_place (path_of i x.thread) ≡ Some w → Writing k x w
      by (Some (instr.Assign v o)) at same f = assign_of v o at v.depth same f
      by (Some (instr.Read v true)) at same f = take_of v at v.depth f
      by (Some instr.DropSlot) at same f = ending_of _ same f
      by (Some instr.Discard) at same f = ending_of _ same f
      by None at same f = absurd cc
      by (Some (instr.Read v false)) at same f = absurd cc
      by (Some (instr.Dup v)) at same f = absurd cc
      by (Some (instr.Lock v)) at same f = absurd cc
      by (Some (instr.Borrow v)) at same f = absurd cc
      by (Some (instr.BorrowMut v)) at same f = absurd cc
      by (Some (instr.Let o)) at same f = absurd cc
      by (Some (instr.Box o)) at same f = absurd cc
      by (Some (instr.Arith op a b)) at same f = absurd cc
      by (Some (instr.Print o)) at same f = absurd cc
      by (Some (instr.Spawn cs body)) at same f = absurd cc
      by (Some (instr.Join o)) at same f = absurd cc
      by (Some (instr.Mutex o)) at same f = absurd cc
      by (Some instr.Unlock) at same f = absurd cc
      by (Some (instr.Par cs body ds other)) at same f = absurd cc
      by (Some instr.ParEnd) at same f = absurd cc
      by (Some (instr.End o)) at same f = absurd cc

module _ (k : Cluster) (c : HasPaths k) (x : Standing) (g : GoesOn k x) where
  abbrev st : Store
  st = heap_store k c.types

  abbrev n : ℕ
  n = x.thread.number

  abbrev E : KeyTypes
  E = c.types.typing.exact

  -- a pointer from which none was made, in a chain of the thread's own slots, isn't stale
  not_stale : (l : Location) → ((q : Reference) → Among q (references (sight k).ground (things_of k)) → is_held_there l q.holder ≡ true → ⊥) → (slot boxes : ℕ) → below_key st (slot_k n slot) boxes ≡ Some (in_store l) → ((p : Lval) → instr_of (sight k) x ≡ Some (instr.BorrowMut p) → ⊥) → IsStale (sight k) (Some l) → ⊥
  not_stale l none slot boxes there other (changed_above q among held ch) = none q among held
  not_stale l none slot boxes there other (stale_above q among held s) = none q among held
  not_stale l none slot boxes there other (taken_above t) =
      not_taken k c x g l (λ u i b h. threads_same (unique st c.types.state.typed.owner (slot_k u i) (slot_k n slot) b boxes (in_store l) h there).0) other t

  through_fresh : (w : Lval) (d : ℕ) (l : Location) → Through k x w → d < w.depth → locate (sight k).ground n w.slot d ≡ Some l → IsStale (sight k) (Some l) → ⊥
  through_fresh w d l t lt at =
      let f = followed_of k c x t.instruction w d l g t.at t.writes_to lt at in
      let b = chain_of k c x l f in
      not_stale l (λ q among held. none_made k c x l q f among held) b.slot b.boxes b.leads_there (λ p q. t.no_lend p (some_is (sym t.at ∙ q)))

  module _ (r : MutRef) (is : path (sight k) x ≡ ends r) (e : EndsAt k c x g r) (d : ℕ) (l : Location) (lt : d < r.holder.depth) (at : locate (sight k).ground n r.holder.slot d ≡ Some l) where
    abbrev m : MutThere k c x e.at r
    m = e.there

    abbrev u : StorePlace
    u = record { key = slot_k n m.place.slot; depth = m.place.depth }

    -- the place of its holder, in the store
    last : u.depth ≡ suc r.holder.depth
    last = let h = holder_stars k c x g r is e in h.1 ∙ ap suc (sym h.3)

    hop : walk st d (at_key u.key) ≡ Some (in_store l)
    hop = let h = holder_stars k c x g r is e in subst (λ z. walk st d (at_key (slot_k n z)) ≡ Some (in_store l)) h.2 (leads_in_heap k c x g r.holder.slot d l at).0

    none : (q : Reference) → Among q (references (sight k).ground (things_of k)) → is_held_there l q.holder ≡ true → ⊥
    none q among held =
        let h = holds_there k c q l among held in
        none_before c.types.typing.rank E st c.types.state.typed m.key e.free (flat k c) u m.exact d r.holder.depth (in_store l) h.1.object last lt hop h.2.star h.2.key h.2.made

    f : RefFits E st true u (st.at m.key)
    f = ref_at c.types.typing.rank E st c.types.state.typed m.key true u m.exact

    chain : OwnChain k c n l
    chain =
        let s = shorter E true u.key (u.depth - d) u.depth d f.base f.boxes f.type (omega (arith, last, lt)) f.res in
        let b = base_in (OwnSlot k c n) E (own_closed k c x g) u.key d s.base s.boxes s.type (m.place.slot, refl) s.res in
        let there = sym (sound c.types.typing.rank E st c.types.state.typed true u.key d s.base s.boxes s.type s.res) ∙ hop in
        record { slot = b.0; boxes = s.boxes; leads_there = subst (λ z. below_key st z s.boxes ≡ Some (in_store l)) b.1 there }

    holder_fresh : IsStale (sight k) (Some l) → ⊥
    holder_fresh = not_stale l none chain.slot chain.boxes chain.leads_there (λ p q. ends_no_lend p r (ap (λ i. path_of i x.thread) (sym q) ∙ is))

pub writes_are_fresh : WritesAreFresh
writes_are_fresh k c x w d l g is lt at = by (writing k x w is)
  where
    by : Writing k x w → IsStale (sight k) (Some l) → ⊥
    by (through_it t) = through_fresh k c x g w d l t lt at
    by (of_holder r e same) = holder_fresh k c x g r e (ends_at k c x g r e) d l (subst (λ (z : Lval). d < z.depth) (sym same) lt) (subst (λ (z : Lval). locate (sight k).ground x.thread.number z.slot d ≡ Some l) (sym same) at)
