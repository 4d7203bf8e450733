-- The place of a thread's write, and the hops of it that are passed.
use Rattle.std.proofs.Common.{◌≡◌, inl, ℕ, suc, ◌<◌, ◌≤◌, nat_le, true, Option, Some, None, refl, sym, ap, subst, ◌∙◌, arith}
use Rattle.std.specs.Prelude.{slice_get}
use Rattle.std.proofs.lemmas.Bool.Decides.{nat_tests}
use Rattle.law_results_reads.specs.Below.fr_base.declared.place.Lval.{Lval}
use Rattle.law_results_reads.specs.Below.fr_base.declared.instruction.Instr.{Instr}
use Rattle.law_results_reads.specs.Below.fr_base.declared.instruction.Instr.TheVariants as instr
use Rattle.law_results_reads.specs.Below.fr_code.CodeTypes.{Entry, Table, InstrTypes, i_assign, i_move, i_borrow_mut}
use Rattle.law_results_reads.specs.Below.fr_code.CodeTable.{Leads, Successors, to_next, ends as ends_there}
use Rattle.law_results_reads.specs.Below.fr_store.Keys.{Key, slot_k}
use Rattle.law_results_reads.specs.Below.fr_store.Store.{Place as StorePlace}
use Rattle.law_results_reads.specs.Below.fr_store.Typed.{Exact, KeyTypes, Resolves, RefFits}
use Rattle.law_results_reads.proofs.Below.fr_store.Sound.{ref_at}
use Rattle.law_results_reads.specs.Below.heap_partition.declared.value.BoxPtr.{BoxPtr}
use Rattle.law_results_reads.specs.Below.heap_partition.declared.value.Owned.TheVariants as owned
use Rattle.law_results_reads.specs.Below.mut_borrow.declared.mutable.MutRef.{MutRef}
use Rattle.law_results_reads.specs.Below.thread_state.declared.value.Value.{Value}
use Rattle.law_results_reads.specs.Below.thread_state.declared.value.Value.TheVariants as value
use Rattle.law_results_reads.specs.Below.server_model.Servers.{Cluster}
use Rattle.law_results_reads.specs.Below.server_model.Places.{pointer_of}
use Rattle.law_results_reads.specs.Below.heap_partition.declared.value.Cell.{Cell}
use Rattle.law_results_reads.specs.Below.coherent_memory.Names.{tot, Among}
use Rattle.law_results_reads.specs.Below.coherent_memory.Things.{Location, at_slot, at_temp, in_cell, borrows, things_of}
use Rattle.law_results_reads.specs.Below.coherent_memory.Naming.{most_stars, long_holder}
use Rattle.law_results_reads.specs.Below.coherent_memory.Coherent.{Holds, holders_short}
use Rattle.law_results_reads.proofs.Below.coherent_memory.Words.{none_at}
use Rattle.law_results_reads.proofs.Below.law_counts_sums.Askers.{other_none}
use Rattle.law_results_reads.specs.Below.coherent_memory.Follow.{Standing, cell_of, value_of, value_in, locate}
use Rattle.law_results_reads.specs.Below.coherent_memory.Paths.{ends, written_place}
use Rattle.law_results_reads.specs.Below.coherent_memory.Passing.{MayPass, over_box, over_reference, to_slot, to_lent_slot, LiesAt, HavePassed, IsPassed}
use Rattle.law_results_reads.specs.Below.coherent_memory.Sight.{sight}
use Rattle.law_results_reads.specs.Below.coherent_memory.Walking.{path}
use Rattle.law_results_reads.specs.Below.coherent_memory.Words.{IsStale, HasWords, LeadsTo}
use Rattle.law_results_reads.proofs.Below.coherent_memory.Passing.{paths_law}
use Rattle.law_results_reads.specs.Below.law_words_paths.paths.HeapStore.{heap_store, GoesOn, IsUnmarked, HasPaths}
use Rattle.law_results_reads.specs.Below.law_words_paths.paths.Pointing.{WritesTo, assigns, moves, lends}
use Rattle.law_results_reads.proofs.Below.law_words_paths.paths.Forms.{running_typed}
use Rattle.law_words_kept.proofs.Below.law_words_paths.words.Standing.{slot_among, temp_among}
use Rattle.law_results_reads.proofs.Below.law_words_paths.paths.Alike.{mark_unnamed}
use Rattle.law_results_reads.proofs.Below.law_words_paths.paths.Circles.{shorter}
use Rattle.law_results_reads.proofs.Below.law_words_paths.paths.MayWrites.{may_write_there}
use Rattle.law_results_reads.proofs.Below.law_words_paths.paths.Sole.{some_is}
use Rattle.law_words_kept.specs.reads.Reading.{LiesUnder}
use Rattle.law_words_kept.proofs.reads.Homes.{fresh_word}
use Rattle.law_words_kept.proofs.ends.Alone.{holder_stars}
use Rattle.law_words_kept.proofs.ends.Ends.{EndsAt, ends_at}
use Rattle.law_words_kept.proofs.ends.Fresh.{Writing, through_it, of_holder}

-- over mutable references alone types lead it on
pub record IsFollowed (k : Cluster) (c : HasPaths k) (x : Standing) (w : Lval) : Type 0 where
  pub base : Key
  pub boxes : ℕ
  pub type : Exact
  pub resolves : Resolves c.types.typing.exact true (slot_k x.thread.number w.slot) w.depth base boxes type
  pub unmarked : IsUnmarked x w.slot

module _ (k : Cluster) (c : HasPaths k) (x : Standing) (g : GoesOn k x) (r : MutRef) (is : path (sight k) x ≡ ends r) where
  abbrev it : EndsAt k c x g r
  it = ends_at k c x g r is

  abbrev n : ℕ
  n = x.thread.number

  abbrev E : KeyTypes
  E = c.types.typing.exact

  abbrev u : StorePlace
  u = record { key = slot_k n it.there.place.slot; depth = it.there.place.depth }

  f : RefFits E (heap_store k c.types) true u ((heap_store k c.types).at it.there.key)
  f = ref_at c.types.typing.rank E (heap_store k c.types) c.types.state.typed it.there.key true u it.there.exact

  more : Resolves E true (slot_k n r.holder.slot) (suc r.holder.depth) f.base f.boxes f.type
  more =
      let h = holder_stars k c x g r is it in
      subst (λ q. Resolves E true (slot_k n q) (suc r.holder.depth) f.base f.boxes f.type) (sym h.2) (subst (λ q. Resolves E true u.key q f.base f.boxes f.type) (h.1 ∙ ap suc (sym h.3)) f.res)

  unmarked : IsUnmarked x r.holder.slot
  unmarked b there =
      let h = holder_stars k c x g r is it in
      mark_unnamed k c x g it.there.place.slot b (subst (λ q. slice_get x.thread.slots q ≡ Some (value.Held b)) h.2 there) it.there.key true u it.there.exact refl

  holder_followed : IsFollowed k c x r.holder
  holder_followed =
      let less = shorter E true (slot_k n r.holder.slot) 1 (suc r.holder.depth) r.holder.depth f.base f.boxes f.type (omega arith) more in
      record { base = less.base; boxes = less.boxes; type = less.type; resolves = less.res; unmarked = unmarked }

  its_thing : Among (borrows it.at r) (things_of k)
  its_thing = by it.at it.stands
    where
      cell_value : (o : Option Cell) → value_of o ≡ Some (value.Mut r) → ⊥
      cell_value None e = cc e
      cell_value (Some d) e = cc e

      by : (l : Location) → value_in (sight k).ground l ≡ Some (value.Mut r) → Among (borrows l r) (things_of k)
      by (at_slot a b) e = slot_among k a b (value.Mut r) e (borrows (at_slot a b) r) (λ q. inl refl)
      by (at_temp a b) e = temp_among k a b (value.Mut r) e (borrows (at_temp a b) r) (λ q. inl refl)
      by (in_cell o) e = absurd (cell_value (cell_of (sight k).ground.cells o) e)

  holder_short : Holds k holders_short → r.holder.depth ≤ 8
  holder_short all =
      let none : tot long_holder (things_of k) ≡ 0 = all in
      let test : nat_le r.holder.depth most_stars ≡ true = other_none (nat_le r.holder.depth most_stars) (none_at long_holder (borrows it.at r) (things_of k) none its_thing) in
      grind (arith, nat_tests, test)

pub follows : (k : Cluster) (c : HasPaths k) (x : Standing) (g : GoesOn k x) (w : Lval) → Writing k x w → IsFollowed k c x w
follows k c x g w (through_it t) = let may = may_write_there k c x g t.instruction w t.at t.writes_to in record { base = may.base; boxes = may.boxes; type = may.type; resolves = may.resolves; unmarked = may.unmarked }
follows k c x g w (of_holder r is same) = subst (IsFollowed k c x) same (holder_followed k c x g r is)

-- it has at most eight stars
shorts : (table : Table) (e e2 : Entry) (i : Instr) (w : Lval) → InstrTypes table e i e2 → WritesTo i w → w.depth ≤ 8
shorts table e e2 _ w typed (assigns {o = o}) = by table e e2 typed
  where
    by : (table : Table) (e e2 : Entry) → InstrTypes table e (instr.Assign w o) e2 → w.depth ≤ 8
    by table _ _ (i_assign takes has opens kept shape below) = has.short
shorts table e e2 _ w typed moves = by table e e2 typed
  where
    by : (table : Table) (e e2 : Entry) → InstrTypes table e (instr.Read w true) e2 → w.depth ≤ 8
    by table _ _ (i_move waits has moved free own_path) = has.short
shorts table e e2 _ w typed lends = by table e e2 typed
  where
    by : (table : Table) (e e2 : Entry) → InstrTypes table e (instr.BorrowMut w) e2 → w.depth ≤ 8
    by table _ _ (i_borrow_mut waits has opens) = has.short

shorts_at : (table : Table) (pc : ℕ) (e : Entry) (i : Instr) (ss : Successors) (w : Lval) → Leads table pc e i ss → WritesTo i w → w.depth ≤ 8
shorts_at table pc e i _ w (to_next {y = e2} typed) writes = shorts table e e2 i w typed writes
shorts_at table pc _ _ _ w (ends_there takes) writes = elim writes [ ]

pub short_place : (k : Cluster) (c : HasPaths k) (x : Standing) (g : GoesOn k x) → Holds k holders_short → (w : Lval) → Writing k x w → w.depth ≤ 8
short_place k c x g all w (through_it t) =
    let e = (running_typed k c x g).entry in
    let row = c.types.is_table.rows x.thread.pc e (running_typed k c x g).known in
    let same : row.instruction ≡ t.instruction = some_is (sym row.there ∙ t.at) in
    shorts_at c.types.table x.thread.pc e t.instruction row.successors w (subst (λ z. Leads c.types.table x.thread.pc e z row.successors) same row.leads) t.writes_to
short_place k c x g all w (of_holder r is same) = subst (λ (v : Lval). v.depth ≤ 8) same (holder_short k c x g r is all)

-- HOPS THAT ARE PASSED

pub may_pass : (k : Cluster) (x : Standing) (g : GoesOn k x) → HavePassed (sight k) → (w : Lval) → written_place (path (sight k) x) ≡ Some w → (j : ℕ) → j < x.thread.passed → (l : Location) (v : Value)
    → locate (sight k).ground x.thread.number w.slot j ≡ Some l → value_in (sight k).ground l ≡ Some v → MayPass (sight k) x.server l v
may_pass k x g passed w writes j less l v located stands =
    let p : IsPassed (sight k) x w j = passed x w j g.among writes less in
    let same_location : p.location ≡ l = some_is (sym (paths_law.locates (sight k).ground x.thread.number w.slot j p.location p.hop.path) ∙ located) in
    let same_value : p.value ≡ v = some_is (sym p.hop.stands ∙ ap (value_in (sight k).ground) same_location ∙ stands) in
    subst (MayPass (sight k) x.server l) same_value (subst (λ a. MayPass (sight k) x.server a p.value) same_location p.passes)

-- the pointer's object lies at the thread's server, where its word leads
pub passed_lies : (k : Cluster) (words : HasWords (sight k)) (n : ℕ) (l : Location) (v : Value) (p : BoxPtr) → value_in (sight k).ground l ≡ Some v → pointer_of v ≡ Some p → MayPass (sight k) n l v → LiesUnder k p
passed_lies k words n l v p stands pointer may = by v stands pointer may
  where
    lies : (u : Value) (b : BoxPtr) → value_in (sight k).ground l ≡ Some u → pointer_of u ≡ Some b → LiesAt (things_of k) n b.object → (IsStale (sight k) (Some l) → ⊥) → LiesUnder k b
    lies u b e f h fresh = record {
      server = n;
      address = h.address;
      there = record { cell = h.cell; among = h.among; object = h.object };
      leads = subst (LeadsTo n h.address) (ap words.word h.object ∙ sym (fresh_word k words l u b e f fresh)) (words.home n h.address h.cell h.among);
    }

    same_box : {a b : BoxPtr} → Some a ≡ Some b → a ≡ b
    same_box e = cc

    by : (u : Value) → value_in (sight k).ground l ≡ Some u → pointer_of u ≡ Some p → MayPass (sight k) n l u → LiesUnder k p
    by _ e f (over_box b h none fresh) = subst (LiesUnder k) (same_box f) (lies (value.Own (owned.Box b)) b e refl h fresh)
    by _ e f (over_reference q h fresh) = subst (LiesUnder k) (same_box f) (lies (value.Mut q) (record { word = q.word; object = q.object }) e refl h fresh)
    by _ e f (to_slot j) = absurd (cc f)
    by _ e f (to_lent_slot j) = absurd (cc f)
