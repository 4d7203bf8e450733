-- What a thread writes through or ends isn't under way, and lies where its word leads.
use Rattle.std.proofs.Common.{◌≡◌, ℕ, zero, suc, ◌-◌, ◌<◌, true, Some, refl, sym, ap, subst, ◌∙◌, arith}
use Rattle.law_words_kept.specs.Below.fr_base.declared.name.ObjNo.{ObjNo}
use Rattle.law_words_kept.specs.Below.fr_base.declared.place.Lval.{Lval}
use Rattle.law_words_kept.specs.Below.heap_partition.declared.value.BoxPtr.{BoxPtr}
use Rattle.law_words_kept.specs.Below.heap_partition.declared.value.Cell.{Cell}
use Rattle.law_words_kept.specs.Below.fr_store.Keys.{Key, slot_k}
use Rattle.law_words_kept.specs.Below.fr_store.Store.{at_key, at_object, Val, Store, Place as StorePlace, below_key}
use Rattle.law_words_kept.specs.Below.fr_store.Typed.{Exact, KeyTypes, Resolves, RefFits}
use Rattle.law_words_kept.proofs.Below.fr_store.Chains.{unique, from_suc}
use Rattle.law_words_kept.proofs.Below.fr_store.Sound.{ref_at, sound}
use Rattle.law_words_kept.specs.Below.fr_sound.Seen.{owned_val, seen_cell}
use Rattle.law_words_kept.specs.Below.mut_borrow.declared.mutable.MutRef.{MutRef}
use Rattle.law_words_kept.specs.Below.thread_state.View.{is_over}
use Rattle.law_words_kept.specs.Below.thread_state.declared.value.Value.{Value}
use Rattle.law_words_kept.specs.Below.thread_state.declared.value.Value.TheVariants as value
use Rattle.law_words_kept.specs.Below.thread_state.declared.phase.Phase.TheVariants as phase
use Rattle.law_words_kept.specs.Below.server_model.Servers.{Cluster}
use Rattle.law_words_kept.specs.Below.server_model.Places.{pointer_of}
use Rattle.law_words_kept.specs.Below.coherent_memory.Names.{Among}
use Rattle.law_words_kept.specs.Below.coherent_memory.Things.{Location, in_cell, Thing, flies, things_of}
use Rattle.law_words_kept.specs.Below.coherent_memory.Follow.{Standing, Ground, thread_at, cell_of, value_in, value_behind, leads, locate}
use Rattle.law_words_kept.specs.Below.coherent_memory.Paths.{ends, written_place}
use Rattle.law_words_kept.specs.Below.coherent_memory.Sight.{sight}
use Rattle.law_words_kept.specs.Below.coherent_memory.Walking.{path}
use Rattle.law_words_kept.specs.Below.coherent_memory.Words.{HasWords, LeadsTo}
use Rattle.law_words_kept.specs.Below.coherent_memory.OneHeap.{two_in}
use Rattle.law_words_kept.specs.Below.law_words_paths.paths.HeapStore.{heap_store, GoesOn, HasPaths}
use Rattle.law_words_kept.proofs.Below.law_words_paths.paths.Sole.{some_is}
use Rattle.law_words_kept.proofs.Below.law_words_paths.paths.Circles.{shorter, base_in}
use Rattle.law_words_kept.proofs.Below.law_words_paths.paths.Climbs.{ref_is}
use Rattle.law_words_kept.proofs.Below.law_words_paths.paths.Shown.{stands_there}
use Rattle.law_words_kept.proofs.Below.law_words_paths.paths.Alike.{leads_in_heap, heap_of_shown, cell_there, coherent_has_paths}
use Rattle.law_words_kept.proofs.Below.law_words_paths.paths.MayWrites.{may_write_there}
use Rattle.law_words_kept.proofs.Below.law_words_paths.paths.FreshPaths.{MutThere, OwnSlot, own_closed, threads_same}
use Rattle.law_words_kept.proofs.Below.law_words_paths.words.Standing.{CellOf, lying, flying, InCell, cell_among}
use Rattle.law_words_kept.specs.reads.Reading.{LiesUnder}
use Rattle.law_words_kept.specs.reads.Answering.{AnswersTold}
use Rattle.law_words_kept.proofs.reads.Flights.{answers_told, Awaits, who_waits}
use Rattle.law_words_kept.proofs.reads.FreshReads.{Reading, chain_apart}
use Rattle.law_words_kept.proofs.reads.OwnChains.{OwnObject, comes_own}
use Rattle.law_words_kept.proofs.reads.Homes.{pointer_leads, fresh_word}
use Rattle.law_words_kept.specs.ends.Lying.{WrittenLieThere, EndedLiesThere}
use Rattle.law_words_kept.proofs.ends.Ends.{EndsAt, ends_at}
use Rattle.law_words_kept.proofs.ends.Alone.{holder_stars, ended}
use Rattle.law_words_kept.proofs.ends.Fresh.{Through, Writing, through_it, of_holder, writing, writes_are_fresh}

-- where no message brings an object to the thread
module _ (k : Cluster) (c : HasPaths k) (words : HasWords (sight k)) (told : AnswersTold k) (x : Standing) (g : GoesOn k x) (unbrought : (u : ℕ) (o : ObjNo) (a : Awaits k u o) → a.thread ≡ x → ⊥) where
  abbrev st : Store
  st = heap_store k c.types

  abbrev n : ℕ
  n = x.thread.number

  abbrev E : KeyTypes
  E = c.types.typing.exact

  abbrev ground : Ground
  ground = (sight k).ground

  -- what stands in a chain of the thread's slots isn't under way: who waits for it has it in such a chain too
  unflown : (o : ObjNo) → OwnObject k c x g o → (u : ℕ) (b : Cell) → Among (flies u b) (things_of k) → b.object ≡ o → ⊥
  unflown o mine u b h same =
      let a = who_waits k told u b h in
      let z = a.thread in
      let goes : GoesOn k z = record { among = a.among; going = ap is_over a.waits } in
      let own = comes_own k c z goes u a.awaited (path (sight k) z) refl a.turn a.comes in
      let chain : below_key st (slot_k z.thread.number own.slot) own.boxes ≡ Some (at_object o) = subst (λ q. below_key st (slot_k z.thread.number own.slot) own.boxes ≡ Some (at_object q)) (a.object ∙ same) own.leads_there in
      let one = threads_same (unique st c.types.state.typed.owner (slot_k n mine.slot) (slot_k z.thread.number own.slot) mine.boxes own.boxes (at_object o) mine.leads_there chain).0 in
      let me : Some x ≡ Some z = sym (stands_there k c x g) ∙ ap (thread_at ground.threads) one ∙ stands_there k c z goes in
      unbrought u b.object a (sym (some_is me))

  -- nor is what the thread reads
  unflown_read : (o : ObjNo) → Reading k c x (in_cell o) → (u : ℕ) (b : Cell) → Among (flies u b) (things_of k) → b.object ≡ o → ⊥
  unflown_read o reading u b h same =
      let a = who_waits k told u b h in
      let z = a.thread in
      let goes : GoesOn k z = record { among = a.among; going = ap is_over a.waits } in
      let own = comes_own k c z goes u a.awaited (path (sight k) z) refl a.turn a.comes in
      let chain : below_key st (slot_k z.thread.number own.slot) own.boxes ≡ Some (at_object o) = subst (λ q. below_key st (slot_k z.thread.number own.slot) own.boxes ≡ Some (at_object q)) (a.object ∙ same) own.leads_there in
      let one = chain_apart k c z goes (ap two_in a.waits) x (in_cell o) reading own.slot own.boxes chain in
      let me : Some x ≡ Some z = sym (stands_there k c x g) ∙ ap (thread_at ground.threads) one ∙ stands_there k c z goes in
      unbrought u b.object a (sym (some_is me))

  -- its object is in the one heap
  there : (o : ObjNo) → OwnObject k c x g o → (v : Val) × (st.heap o ≡ Some v)
  there o mine = by mine.boxes mine.leads_there
    where
      by : (m : ℕ) → below_key st (slot_k n mine.slot) m ≡ Some (at_object o) → (v : Val) × (st.heap o ≡ Some v)
      by zero e = let q : at_key (slot_k n mine.slot) ≡ at_object o = some_is e in absurd cc
      by (suc m) e =
          let q = from_suc st (at_key (slot_k n mine.slot)) (at_object o) m e in
          let same : at_object o ≡ at_object q.1 = q.4 in
          let one : q.1 ≡ o = cc in
          let v = c.types.state.objects_there q.0 q.1 q.3 in
          (owned_val c.types.typing.gives v.0, subst (λ z. st.heap z ≡ Some (owned_val c.types.typing.gives v.0)) one (ap (seen_cell c.types.typing.gives) v.1))

  lies_where : (p : BoxPtr) → (v : Val) × (st.heap p.object ≡ Some v) → ((u : ℕ) (b : Cell) → Among (flies u b) (things_of k) → b.object ≡ p.object → ⊥) → p.word ≡ words.word p.object → LiesUnder k p
  lies_where p shown still word = by it.thing it.among it.object it.is
    where
      cell : (d : Cell) × (cell_of ground.cells p.object ≡ Some d)
      cell = let d = cell_there k c x g p.object shown.0 shown.1 in (d.0, d.1)

      it : InCell p.object cell.0 (things_of k)
      it = cell_among p.object cell.0 (things_of k) cell.1

      by : (y : Thing) → Among y (things_of k) → cell.0.object ≡ p.object → CellOf cell.0 y → LiesUnder k p
      by y h same (lying r a) = record { server = r; address = a; there = record { cell = cell.0; among = h; object = same }; leads = subst (LeadsTo r a) (ap words.word same ∙ sym word) (words.home r a cell.0 h) }
      by y h same (flying u) = absurd (still u cell.0 h same)

  pub lies_there : (p : BoxPtr) → OwnObject k c x g p.object → p.word ≡ words.word p.object → LiesUnder k p
  lies_there p mine word = lies_where p (there p.object mine) (unflown p.object mine) word

  pub lies_read : (p : BoxPtr) → Reading k c x (in_cell p.object) → p.word ≡ words.word p.object → LiesUnder k p
  lies_read p reading word = lies_where p (heap_of_shown k c x g p.object (leads_in_heap k c x g reading.slot reading.stars (in_cell p.object) reading.located).1) (unflown_read p.object reading) word

  -- ON A WAY OF THE THREAD

  pub way_object : (slot m : ℕ) (b : Key) (nb : ℕ) (p : Exact) (o : ObjNo) → Resolves E true (slot_k n slot) m b nb p → locate ground n slot m ≡ Some (in_cell o) → OwnObject k c x g o
  way_object slot m b nb p o res at =
      let base = base_in (OwnSlot k c n) E (own_closed k c x g) (slot_k n slot) m b nb p (slot, refl) res in
      let hw = (leads_in_heap k c x g slot m (in_cell o) at).0 in
      let chain = sym (sound c.types.typing.rank E st c.types.state.typed true (slot_k n slot) m b nb p res) ∙ hw in
      record { slot = base.0; boxes = nb; leads_there = subst (λ y. below_key st y nb ≡ Some (at_object o)) base.1 chain }

  pub one_more : (w : Lval) (d : ℕ) (l : Location) (v : Value) (p : BoxPtr) → locate ground n w.slot d ≡ Some l → value_in ground l ≡ Some v → pointer_of v ≡ Some p → locate ground n w.slot (suc d) ≡ Some (in_cell p.object)
  one_more w d l v p at stands pointer = ap (λ o. leads n (value_behind ground o)) at ∙ ap (leads n) stands ∙ pointer_leads n v p pointer

  through_own : (w : Lval) (d : ℕ) (o : ObjNo) → Through k x w → d < w.depth → locate ground n w.slot (suc d) ≡ Some (in_cell o) → OwnObject k c x g o
  through_own w d o t lt at =
      let may = may_write_there k c x g t.instruction w t.at t.writes_to in
      let s = shorter E true (slot_k n w.slot) (w.depth - suc d) w.depth (suc d) may.base may.boxes may.type (omega (arith, lt)) may.resolves in
      way_object w.slot (suc d) s.base s.boxes s.type o s.res at

  module _ (r : MutRef) (is : path (sight k) x ≡ ends r) (e : EndsAt k c x g r) where
    abbrev m : MutThere k c x e.at r
    m = e.there

    abbrev u : StorePlace
    u = record { key = slot_k n m.place.slot; depth = m.place.depth }

    f : RefFits E st true u (st.at m.key)
    f = ref_at c.types.typing.rank E st c.types.state.typed m.key true u m.exact

    holder_own : (d : ℕ) (o : ObjNo) → d < r.holder.depth → locate ground n r.holder.slot (suc d) ≡ Some (in_cell o) → OwnObject k c x g o
    holder_own d o lt at =
        let h = holder_stars k c x g r is e in
        let last : u.depth ≡ suc r.holder.depth = h.1 ∙ ap suc (sym h.3) in
        let s = shorter E true u.key (u.depth - suc d) u.depth (suc d) f.base f.boxes f.type (omega (arith, last, lt)) f.res in
        way_object m.place.slot (suc d) s.base s.boxes s.type o s.res (subst (λ z. locate ground n z (suc d) ≡ Some (in_cell o)) h.2 at)

    ended_own : OwnObject k c x g r.object
    ended_own =
        let target = ref_is (sym f.is ∙ m.shown) in
        let base = base_in (OwnSlot k c n) E (own_closed k c x g) u.key u.depth f.base f.boxes f.type (m.place.slot, refl) f.res in
        record { slot = base.0; boxes = f.boxes; leads_there = subst (λ y. below_key st y f.boxes ≡ Some (at_object r.object)) base.1 (f.leads ∙ ap Some target) }

    pub ended_lies : LiesUnder k (record { word = r.word; object = r.object })
    ended_lies = let a = ended k c x g r is e in lies_there (record { word = r.word; object = r.object }) ended_own (fresh_word k words a.at (value.Mut r) (record { word = r.word; object = r.object }) a.stands refl a.fresh)

  pub written_own : (w : Lval) (d : ℕ) (o : ObjNo) → Writing k x w → d < w.depth → locate ground n w.slot (suc d) ≡ Some (in_cell o) → OwnObject k c x g o
  written_own w d o (through_it t) lt at = through_own w d o t lt at
  written_own w d o (of_holder r is same) lt at =
      holder_own r is (ends_at k c x g r is) d o (subst (λ (z : Lval). d < z.depth) (sym same) lt) (subst (λ (z : Lval). locate ground n z.slot (suc d) ≡ Some (in_cell o)) (sym same) at)

  pub written_lies : (w : Lval) (d : ℕ) (l : Location) (v : Value) (p : BoxPtr) → written_place (path (sight k) x) ≡ Some w → d < w.depth → locate ground n w.slot d ≡ Some l → value_in ground l ≡ Some v → pointer_of v ≡ Some p → LiesUnder k p
  written_lies w d l v p is lt at stands pointer =
      lies_there p (written_own w d p.object (writing k x w is) lt (one_more w d l v p at stands pointer)) (fresh_word k words l v p stands pointer (writes_are_fresh k c x w d l g is lt at))

-- a thread that waits for no cell is brought none
awake_unbrought : (k : Cluster) (x : Standing) → ((u : ℕ) → x.thread.phase ≡ phase.WaitCell u → ⊥) → (u : ℕ) (o : ObjNo) (a : Awaits k u o) → a.thread ≡ x → ⊥
awake_unbrought k x awake u o a same = awake u (sym (ap (λ (y : Standing). y.thread.phase) same) ∙ a.waits)

pub written_lie_there : WrittenLieThere
written_lie_there k co x w d l v p g awake is lt at stands pointer =
    written_lies k (coherent_has_paths k co) co.sound.words.have_words (answers_told k co.sound) x g (awake_unbrought k x awake) w d l v p is lt at stands pointer

pub ended_lies_there : EndedLiesThere
ended_lies_there k co x r g awake is =
    let c = coherent_has_paths k co in
    ended_lies k c co.sound.words.have_words (answers_told k co.sound) x g (awake_unbrought k x awake) r is (ends_at k c x g r is)
