-- The object of a pointer that is read lies where the pointer's word leads.
use Rattle.std.proofs.Common.{◌≡◌, ◌⊎◌, inl, ⊎_elim, ℕ, suc, ◌+◌, ◌-◌, ◌<◌, Option, Some, None, refl, sym, ap, subst, ◌∙◌, arith}
use Rattle.law_counts_sums.specs.Below.fr_base.declared.name.ObjNo.{ObjNo}
use Rattle.law_counts_sums.specs.Below.fr_base.declared.place.Lval.{Lval}
use Rattle.law_counts_sums.specs.Below.fr_base.declared.instruction.Instr.{Instr}
use Rattle.law_counts_sums.specs.Below.heap_partition.declared.value.BoxPtr.{BoxPtr}
use Rattle.law_counts_sums.specs.Below.heap_partition.declared.value.Cell.{Cell}
use Rattle.law_counts_sums.specs.Below.heap_partition.declared.value.Owned.TheVariants as owned
use Rattle.law_counts_sums.specs.Below.mut_borrow.declared.shared.SharedRef.{SharedRef}
use Rattle.law_counts_sums.specs.Below.thread_state.View.{is_over}
use Rattle.law_counts_sums.specs.Below.thread_state.declared.phase.Phase.TheVariants as phase
use Rattle.law_counts_sums.specs.Below.thread_state.declared.value.Value.{Value}
use Rattle.law_counts_sums.specs.Below.thread_state.declared.value.Value.TheVariants as value
use Rattle.law_counts_sums.specs.Below.server_model.Servers.{Cluster}
use Rattle.law_counts_sums.specs.Below.server_model.Places.{pointer_of}
use Rattle.law_counts_sums.specs.Below.fr_store.Store.{at_object, below_key}
use Rattle.law_counts_sums.specs.Below.fr_store.Keys.{slot_k}
use Rattle.law_counts_sums.specs.Below.coherent_memory.Names.{Among}
use Rattle.law_counts_sums.specs.Below.coherent_memory.Things.{Location, at_slot, at_temp, in_cell, Thing, shares, flies, lies, things_of}
use Rattle.law_counts_sums.specs.Below.coherent_memory.Follow.{Standing, Ground, thread_at, cell_of, value_of, value_in, value_behind, leads, locate}
use Rattle.law_counts_sums.specs.Below.coherent_memory.Sight.{Pointer, pointers_in, taken_pointers, sight}
use Rattle.law_counts_sums.specs.Below.coherent_memory.Walking.{instr_of, path}
use Rattle.law_counts_sums.specs.Below.coherent_memory.Words.{IsStale, HasWords, LeadsTo}
use Rattle.law_counts_sums.specs.Below.coherent_memory.OneHeap.{two_in}
use Rattle.law_words_paths.specs.Below.coherent_types.ClusterTypes.{IsCoherent}
use Rattle.law_words_paths.specs.paths.HeapStore.{heap_store, GoesOn, HasPaths}
use Rattle.law_words_paths.proofs.paths.Sole.{some_is}
use Rattle.law_words_paths.proofs.paths.Shown.{stands_there}
use Rattle.law_words_paths.proofs.paths.Origins.{among_first}
use Rattle.law_words_paths.proofs.paths.Alike.{leads_in_heap, heap_of_shown, cell_there, coherent_has_paths}
use Rattle.law_words_paths.proofs.words.Standing.{CellOf, lying, flying, cell_among, pointers_among, slot_among, temp_among, told}
use Rattle.law_words_kept.specs.reads.Reading.{Reads, copies, shares as shares_it, lends, dups, locks, ReadLieThere}
use Rattle.law_words_kept.proofs.reads.FreshReads.{reading_of, chain_apart, read_fresh}
use Rattle.law_words_kept.proofs.reads.Flights.{answers_told, who_waits}
use Rattle.law_words_kept.proofs.reads.OwnChains.{comes_own}

pub pointer_leads : (t : ℕ) (v : Value) (p : BoxPtr) → pointer_of v ≡ Some p → leads t (Some v) ≡ Some (in_cell p.object)
pointer_leads t (value.Own (owned.Box b)) p e = ap (λ (x : BoxPtr). Some (in_cell x.object)) (some_is e)
pointer_leads t (value.Shared r) p e = ap (λ (x : BoxPtr). Some (in_cell x.object)) (some_is e)
pointer_leads t (value.Mut r) p e = ap (λ (x : BoxPtr). Some (in_cell x.object)) (some_is e)
pointer_leads t _ p e = absurd (cc e)

-- a place of which so many stars are followed has more than those before
pub follows : (i : Instr) (w : Lval) (n d : ℕ) → Reads i w n → d < n → w.depth ≡ (w.depth - suc d) + suc d
follows _ w n d (copies e) lt = omega (arith, e, lt)
follows _ w n d (shares_it e) lt = omega (arith, e, lt)
follows _ w n d (lends e) lt = omega (arith, e, lt)
follows _ w n d (dups e) lt = omega (arith, e, lt)
follows _ w n d (locks e) lt = omega (arith, e, lt)

module _ (k : Cluster) where
  no_cell_shares : (d : Option Cell) (r : SharedRef) → value_of d ≡ Some (value.Shared r) → ⊥
  no_cell_shares None r e = cc e
  no_cell_shares (Some x) r e = cc e

  pub shared_among : (l : Location) (r : SharedRef) → value_in (sight k).ground l ≡ Some (value.Shared r) → Among (shares l r) (things_of k)
  shared_among (at_slot t i) r e = slot_among k t i (value.Shared r) e (shares (at_slot t i) r) (λ s. inl refl)
  shared_among (at_temp t i) r e = temp_among k t i (value.Shared r) e (shares (at_temp t i) r) (λ s. inl refl)
  shared_among (in_cell o) r e = absurd (no_cell_shares (cell_of (sight k).ground.cells o) r e)

module _ (k : Cluster) (words : HasWords (sight k)) where
  pub of_all : (p : Pointer) → Among p (pointers_in (things_of k)) → IsStale (sight k) p.at ⊎ (p.word ≡ words.word p.object)
  of_all p h = words.same p (among_first p (pointers_in (things_of k)) (taken_pointers (sight k).code (sight k).ground (sight k).ground.threads) h)

  -- a pointer that isn't stale has its object's word
  pub fresh_word : (l : Location) (v : Value) (p : BoxPtr) → value_in (sight k).ground l ≡ Some v → pointer_of v ≡ Some p → (IsStale (sight k) (Some l) → ⊥) → p.word ≡ words.word p.object
  fresh_word l (value.Own (owned.Box b)) p e f fresh =
      let q : Pointer = record { at = Some l; word = b.word; object = b.object } in
      let own : b.word ≡ words.word b.object = ⊎_elim (λ (s : IsStale (sight k) (Some l)). absurd (fresh s)) (λ (w : b.word ≡ words.word b.object). w) (of_all q (told k l (value.Own (owned.Box b)) q e (inl refl))) in
      subst (λ (x : BoxPtr). x.word ≡ words.word x.object) (some_is f) own
  fresh_word l (value.Mut r) p e f fresh =
      let q : Pointer = record { at = Some l; word = r.word; object = r.object } in
      let own : r.word ≡ words.word r.object = ⊎_elim (λ (s : IsStale (sight k) (Some l)). absurd (fresh s)) (λ (w : r.word ≡ words.word r.object). w) (of_all q (told k l (value.Mut r) q e (inl refl))) in
      subst (λ (x : BoxPtr). x.word ≡ words.word x.object) (some_is f) own
  fresh_word l (value.Shared r) p e f fresh =
      let q : Pointer = record { at = None; word = r.word; object = r.object } in
      let own : r.word ≡ words.word r.object = ⊎_elim (λ (s : ⊥). absurd s) (λ (w : r.word ≡ words.word r.object). w) (of_all q (pointers_among q (shares l r) (things_of k) (shared_among k l r e) (inl refl))) in
      subst (λ (x : BoxPtr). x.word ≡ words.word x.object) (some_is f) own
  fresh_word l _ p e f fresh = absurd (cc f)

module _ (k : Cluster) (co : IsCoherent k) where
  abbrev c : HasPaths k
  c = coherent_has_paths k co

  abbrev ground : Ground
  ground = (sight k).ground

  abbrev words : HasWords (sight k)
  words = co.sound.words.have_words

  module _ (x : Standing) (i : Instr) (w : Lval) (n d : ℕ) (g : GoesOn k x) (at : instr_of (sight k) x ≡ Some i) (reads : Reads i w n) (lt : d < n) (awake : (u : ℕ) → x.thread.phase ≡ phase.WaitCell u → ⊥) where
    -- an object to which it leads isn't under way
    unflown : (o : ObjNo) (u : ℕ) (b : Cell) → locate ground x.thread.number w.slot (suc d) ≡ Some (in_cell o) → Among (flies u b) (things_of k) → b.object ≡ o → ⊥
    unflown o u b next h same =
        let a = who_waits k (answers_told k co.sound) u b h in
        let z = a.thread in
        let goes : GoesOn k z = record { among = a.among; going = ap is_over a.waits } in
        let own = comes_own k c z goes u a.awaited (path (sight k) z) refl a.turn a.comes in
        let object = a.object ∙ same in
        let chain = subst (λ q. below_key (heap_store k c.types) (slot_k z.thread.number own.slot) own.boxes ≡ Some (at_object q)) object own.leads_there in
        let one = chain_apart k c z goes (ap two_in a.waits) x (in_cell o) (reading_of k c x i w n (suc d) (in_cell o) g at reads (w.depth - suc d) (follows i w n d reads lt) next) own.slot own.boxes chain in
        let me : Some x ≡ Some z = sym (stands_there k c x g) ∙ ap (thread_at ground.threads) one ∙ stands_there k c z goes in
        awake u (ap (λ (y : Standing). y.thread.phase) (some_is me) ∙ a.waits)

    module _ (l : Location) (v : Value) (p : BoxPtr) (there : locate ground x.thread.number w.slot d ≡ Some l) (stands : value_in ground l ≡ Some v) (pointer : pointer_of v ≡ Some p) where
      pub next : locate ground x.thread.number w.slot (suc d) ≡ Some (in_cell p.object)
      next = ap (λ o. leads x.thread.number (value_behind ground o)) there ∙ ap (leads x.thread.number) stands ∙ pointer_leads x.thread.number v p pointer

      pub its_word : p.word ≡ words.word p.object
      its_word = fresh_word k words l v p stands pointer (read_fresh k c x i w n d l g at reads lt there)

      -- the object's cell, which lies where the word leads
      pub record Home : Type 0 where
        pub cell : Cell
        pub found : cell_of ground.cells p.object ≡ Some cell
        pub object : cell.object ≡ p.object
        pub server : ℕ
        pub address : ℕ
        pub among : Among (lies server address cell) (things_of k)
        pub leads : LeadsTo server address p.word

      of_cell : (b : Cell) → cell_of ground.cells p.object ≡ Some b → (y : Thing) → Among y (things_of k) → b.object ≡ p.object → CellOf b y → Home
      of_cell b found y h same (lying r a) = record {
        cell = b;
        found = found;
        object = same;
        server = r;
        address = a;
        among = h;
        leads = subst (LeadsTo r a) (ap words.word same ∙ sym its_word) (words.home r a b h);
      }
      of_cell b found y h same (flying u) = absurd (unflown p.object u b next h same)

      pub home : Home
      home =
          let shown = (leads_in_heap k c x g w.slot (suc d) (in_cell p.object) next).1 in
          let value = heap_of_shown k c x g p.object shown in
          let cell = cell_there k c x g p.object value.0 value.1 in
          let it = cell_among p.object cell.0 (things_of k) cell.1 in
          of_cell cell.0 cell.1 it.thing it.among it.object it.is

pub read_lie_there : ReadLieThere
read_lie_there k co x i w n d l v p g at reads lt awake there stands pointer =
    let h = home k co x i w n d g at reads lt awake l v p there stands pointer in
    record { server = h.server; address = h.address; there = record { cell = h.cell; among = h.among; object = h.object }; leads = h.leads }
