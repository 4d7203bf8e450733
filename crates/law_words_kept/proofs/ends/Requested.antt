-- The object of a request or a drop has the message's word and lies where it leads.
use Rattle.std.proofs.Common.{◌≡◌, inl, inr, ⊎_elim, ℕ, zero, suc, ◌-◌, ◌<◌, ◌≤◌, ◌==◌, ◌&&◌, not, true, List, [], ◌∷◌, Option, Some, None, refl, sym, ap, subst, ◌∙◌, arith}
use Rattle.std.specs.Prelude.{slice_get}
use Rattle.std.proofs.lemmas.Bool.{eq-eqb}
use Rattle.law_words_kept.specs.Below.fr_base.declared.name.ObjNo.{ObjNo}
use Rattle.law_words_kept.specs.Below.fr_base.declared.name.MutexNo.{MutexNo}
use Rattle.law_words_kept.specs.Below.fr_base.declared.place.Lval.{Lval}
use Rattle.law_words_kept.specs.Below.fr_base.declared.instruction.Instr.{Instr}
use Rattle.law_words_kept.specs.Below.fr_base.declared.instruction.Instr.TheVariants as instr
use Rattle.law_words_kept.specs.Below.global_addr.Words.{server_of, address_of}
use Rattle.law_words_kept.specs.Below.heap_partition.declared.value.BoxPtr.{BoxPtr}
use Rattle.law_words_kept.specs.Below.heap_partition.declared.value.Cell.{Cell}
use Rattle.law_words_kept.specs.Below.heap_partition.declared.value.Owned.{Owned}
use Rattle.law_words_kept.specs.Below.heap_partition.declared.value.Owned.TheVariants as owned
use Rattle.law_words_kept.specs.Below.heap_partition.Plain.{plain_of}
use Rattle.law_words_kept.specs.Below.fr_store.Keys.{slot_k}
use Rattle.law_words_kept.specs.Below.fr_store.Store.{Location as StoreLocation, at_key, at_object, gone_v, box_v, ref_v, Store, value_at, below_key}
use Rattle.law_words_kept.proofs.Below.fr_store.Chains.{from_suc}
use Rattle.law_words_kept.specs.Below.fr_sound.Seen.{owned_val}
use Rattle.law_words_kept.specs.Below.mut_borrow.declared.mutable.MutRef.{MutRef}
use Rattle.law_words_kept.specs.Below.thread_state.View.{is_over}
use Rattle.law_words_kept.specs.Below.thread_state.declared.value.Value.{Value}
use Rattle.law_words_kept.specs.Below.thread_state.declared.value.Value.TheVariants as value
use Rattle.law_words_kept.specs.Below.thread_state.declared.phase.Phase.TheVariants as phase
use Rattle.law_words_kept.specs.Below.server_msgs.declared.message.Message.{Message}
use Rattle.law_words_kept.specs.Below.server_msgs.declared.message.Message.TheVariants as message
use Rattle.law_words_kept.specs.Below.server_model.Servers.{Cluster}
use Rattle.law_words_kept.specs.Below.server_model.Places.{pointer_of}
use Rattle.law_words_kept.specs.Below.coherent_memory.Names.{tot, other, some, same_object, Among, boxes}
use Rattle.law_words_kept.specs.Below.coherent_memory.Things.{at_slot, in_cell, in_slot, Thing, holds, lies, flies, sent, things_of}
use Rattle.law_words_kept.specs.Below.coherent_memory.Follow.{Standing, Ground, threads_in, thread_at, cell_of, slot_of, value_in, locate}
use Rattle.law_words_kept.specs.Below.coherent_memory.Sight.{Pointer, is_word, word, sight}
use Rattle.law_words_kept.specs.Below.coherent_memory.Weights.{cells, owners, lies_under}
use Rattle.law_words_kept.specs.Below.coherent_memory.Paths.{Path, reads, shares, lends, ends, written_place, Awaited, to_read, to_write, to_clean}
use Rattle.law_words_kept.specs.Below.coherent_memory.Walking.{instr_of, path, asks_for, asked_for}
use Rattle.law_words_kept.specs.Below.coherent_memory.Words.{IsStale, HasWords, Fresh, LeadsTo}
use Rattle.law_words_kept.specs.Below.coherent_memory.Turn.{IsAsked, AwaitsAt, read_at, before_share, at_share, before_lend, at_lend, NextHop, InTurn, by_read, by_share, by_lend, by_write, by_end, by_holder, WaitsFor}
use Rattle.law_words_kept.specs.Below.coherent_memory.Requests.{is_cell, in_phase, carries, not_under, message_leads, not_there}
use Rattle.law_words_kept.proofs.Below.coherent_memory.Names.{and_left, and_right, same_number}
use Rattle.law_words_kept.proofs.Below.coherent_memory.Words.{none_at, none_all, named, itself, words_law}
use Rattle.law_words_kept.proofs.Below.coherent_memory.Passing.{paths_law}
use Rattle.law_words_kept.proofs.Below.law_counts_sums.Askers.{other_none}
use Rattle.law_words_kept.specs.Below.law_words_paths.paths.HeapStore.{heap_store, GoesOn, HasPaths}
use Rattle.law_words_kept.specs.Below.law_words_paths.paths.Pointing.{lends as lends_to}
use Rattle.law_words_kept.proofs.Below.law_words_paths.paths.Sole.{some_is}
use Rattle.law_words_kept.proofs.Below.law_words_paths.paths.Contained.{among_thread}
use Rattle.law_words_kept.proofs.Below.law_words_paths.paths.InState.{only_one}
use Rattle.law_words_kept.proofs.Below.law_words_paths.paths.Shown.{shown_value, stands_there, is_running}
use Rattle.law_words_kept.proofs.Below.law_words_paths.paths.Alike.{cell_there, slot_none, slot_gone, slot_own, slot_shared_slot, slot_mut_slot, slot_shared, slot_mut}
use Rattle.law_words_kept.proofs.Below.law_words_paths.paths.MayWrites.{may_write_there}
use Rattle.law_words_kept.proofs.Below.law_words_paths.paths.FreshPaths.{written_are_fresh}
use Rattle.law_words_kept.proofs.Below.law_words_paths.words.Standing.{CellOf, lying, flying, InCell, cell_among, pointers_among, slot_among}
use Rattle.law_words_kept.specs.reads.Reading.{Reads, shares as shares_it, lends as lends_it, LiesUnder}
use Rattle.law_words_kept.specs.reads.Answering.{AnswersTold}
use Rattle.law_words_kept.proofs.reads.Flights.{found, truly, whole_to, one_answer, asks_whole, same_one, one_message, is_waiting, Awaits, who_waits}
use Rattle.law_words_kept.proofs.reads.FreshReads.{Reading, reading_of, read_fresh, fresh_if}
use Rattle.law_words_kept.proofs.reads.OwnChains.{OwnObject, comes_own, lends_of}
use Rattle.law_words_kept.proofs.reads.Homes.{of_all, fresh_word}
use Rattle.law_words_kept.specs.ends.Objects.{ObjectsFollow}
use Rattle.law_words_kept.proofs.ends.Ends.{ends_at}
use Rattle.law_words_kept.proofs.ends.Alone.{ended}
use Rattle.law_words_kept.proofs.ends.Fresh.{writing, writes_are_fresh}
use Rattle.law_words_kept.proofs.ends.ReadPaths.{read_pointer, write_pointer, clean_pointer, reads_of, shares_of}
use Rattle.law_words_kept.proofs.ends.Lying.{lies_there, lies_read, way_object, one_more, written_own, ended_lies}

-- A MESSAGE'S OBJECT

some_so : (n : ℕ) → 1 ≤ n → some n ≡ true
some_so zero l = absurd (omega (arith, l))
some_so (suc n) l = refl

weighs_one : (f : Thing → ℕ) (y : Thing) (b : List Thing) → Among y b → f y ≤ tot f b
weighs_one f y [] h = absurd h
weighs_one f y (x ∷ b) (inl e) = let s : f x ≡ f y = ap f e in omega (arith, s)
weighs_one f y (x ∷ b) (inr h) = let l = weighs_one f y b h in omega (arith, l)

-- what lies where its word leads is under that word
module _ (k : Cluster) (words : HasWords (sight k)) where
  under : (p : BoxPtr) → LiesUnder k p → p.word ≡ words.word p.object → not_under (sight k) p.word p.object ≡ 0
  under p u same = rw is (rw (some_so (tot (lies_under p.word p.object) (things_of k)) lies_so) refl)
    where
      fresh : Fresh (sight k) p.object
      fresh = subst (Fresh (sight k)) u.there.object (words.live u.server u.address u.there.cell u.there.among)

      is : is_word (word (sight k) p.object) p.word ≡ true
      is = ap (λ o. is_word o p.word) (words_law.first_tells k words p.object fresh) ∙ eq-eqb (words.word p.object) p.word (sym same)

      lies_so : 1 ≤ tot (lies_under p.word p.object) (things_of k)
      lies_so =
          let one_thing : lies_under p.word p.object (lies u.server u.address u.there.cell) ≡ 1 = rw (eq-eqb (server_of p.word) u.server u.leads.server) (rw (eq-eqb (address_of p.word) u.address u.leads.address) (rw (itself u.there.cell.object p.object u.there.object) refl)) in
          let w = weighs_one (lies_under p.word p.object) (lies u.server u.address u.there.cell) (things_of k) u.there.among in
          omega (arith, one_thing, w)

-- WHAT A THREAD WAITS FOR

module _ (k : Cluster) (c : HasPaths k) (words : HasWords (sight k)) (told : AnswersTold k) (x : Standing) (g : GoesOn k x) (w : ℕ) (waits : x.thread.phase ≡ phase.WaitCell w) (unbrought : (u : ℕ) (o : ObjNo) (a : Awaits k u o) → a.thread ≡ x → ⊥) where
  abbrev ground : Ground
  ground = (sight k).ground

  abbrev n : ℕ
  n = x.thread.number

  abbrev colours : ℕ
  colours = (sight k).options.colours

  -- its pointer has the object's word, and the object lies there
  record Found (a : Awaited) : Type 0 where
    word_is : a.word ≡ words.word a.object
    lies_so : LiesUnder k (record { word = a.word; object = a.object })

  by_own : (a : Awaited) → OwnObject k c x g a.object → a.word ≡ words.word a.object → Found a
  by_own a own is = record { word_is = is; lies_so = lies_there k c words told x g unbrought (record { word = a.word; object = a.object }) own is }

  by_reading : (a : Awaited) → Reading k c x (in_cell a.object) → a.word ≡ words.word a.object → Found a
  by_reading a r is = record { word_is = is; lies_so = lies_read k c words told x g unbrought (record { word = a.word; object = a.object }) r is }

  module _ (p : Lval) (i : ℕ) (f : Option Value → List Awaited) (a : Awaited) (asked : IsAsked (sight k) x p i f a) (pointer : (v : Value) → Among a (f (Some v)) → pointer_of v ≡ Some (record { word = a.word; object = a.object })) where
    there : locate ground n p.slot i ≡ Some asked.location
    there = paths_law.locates ground n p.slot i asked.location asked.hop.path

    its : pointer_of asked.value ≡ Some (record { word = a.word; object = a.object })
    its = pointer asked.value asked.asked

    next : locate ground n p.slot (suc i) ≡ Some (in_cell a.object)
    next = one_more k c words told x g unbrought p i asked.location asked.value (record { word = a.word; object = a.object }) there asked.hop.stands its

    word_of : (IsStale (sight k) (Some asked.location) → ⊥) → a.word ≡ words.word a.object
    word_of fresh = fresh_word k words asked.location asked.value (record { word = a.word; object = a.object }) asked.hop.stands its fresh

    -- on a place that is read
    on_read : (j : Instr) (m : ℕ) → instr_of (sight k) x ≡ Some j → Reads j p m → i < m → m ≤ p.depth → Found a
    on_read j m at reading lt le =
        by_reading a (reading_of k c x j p m (suc i) (in_cell a.object) g at reading (p.depth - suc i) (omega (arith, lt, le)) next) (word_of (read_fresh k c x j p m i asked.location g at reading lt there))

    -- at the pointer from which a shared borrow is made
    at_borrow : instr_of (sight k) x ≡ Some (instr.Borrow p) → p.depth ≡ suc i → Found a
    at_borrow at last =
        by_reading a (reading_of k c x (instr.Borrow p) p i (suc i) (in_cell a.object) g at (shares_it last) 0 (omega (arith, last)) next)
        (word_of (fresh_if k c x asked.location (reading_of k c x (instr.Borrow p) p i i asked.location g at (shares_it last) 1 (omega (arith, last)) there) (λ z h same. no_lend (sym at ∙ ap (instr_of (sight k)) (sym same) ∙ h.at))))
      where
        no_lend : {v : Lval} → Some (instr.Borrow p) ≡ Some (instr.BorrowMut v) → ⊥
        no_lend e = cc e

    -- at the pointer from which a mutable borrow is made
    at_lending : instr_of (sight k) x ≡ Some (instr.BorrowMut p) → p.depth ≡ suc i → Found a
    at_lending at last =
        let may = may_write_there k c x g (instr.BorrowMut p) p at lends_to in
        let own = way_object k c words told x g unbrought p.slot p.depth may.base may.boxes may.type a.object may.resolves (subst (λ d. locate ground n p.slot d ≡ Some (in_cell a.object)) (sym last) next) in
        by_own a own (word_of (written_are_fresh k c x (instr.BorrowMut p) p i asked.location g at lends_to (λ v t. not_taken (sym waits ∙ t)) (omega (arith, last)) there))
      where
        not_taken : {u v : ℕ} → phase.WaitCell u ≡ phase.Taken v → ⊥
        not_taken e = cc e

    -- on a place that is written through
    on_write : written_place (path (sight k) x) ≡ Some p → i < p.depth → Found a
    on_write is lt = by_own a (written_own k c words told x g unbrought p i a.object (writing k x p is) lt next) (word_of (writes_are_fresh k c x p i asked.location g is lt there))

  at_read : (q : Path) (i : ℕ) (a : Awaited) → path (sight k) x ≡ q → AwaitsAt (sight k) x q i a → Found a
  at_read _ _ a is (read_at p i _ lt asked) = let j = reads_of (instr_of (sight k) x) x.thread p is in on_read p i (to_read colours) a asked (λ v m. read_pointer colours v a m) j.0 p.depth j.1 j.2 lt (omega arith)
  at_read _ _ a is (before_share p i _ lt asked) =
      let last : p.depth ≡ suc (p.depth - 1) = omega (arith, lt) in
      on_read p i (to_read colours) a asked (λ v m. read_pointer colours v a m) (instr.Borrow p) (p.depth - 1) (shares_of (instr_of (sight k) x) x.thread p is) (shares_it last) (omega (arith, lt)) (omega arith)
  at_read _ _ a is (at_share p i _ last asked) = at_borrow p i (to_clean colours) a asked (λ v m. clean_pointer colours v a m) (shares_of (instr_of (sight k) x) x.thread p is) (sym last)
  at_read _ _ a is (before_lend p i _ lt asked) =
      let last : p.depth ≡ suc (p.depth - 1) = omega (arith, lt) in
      on_read p i (to_read colours) a asked (λ v m. read_pointer colours v a m) (instr.BorrowMut p) (p.depth - 1) (lends_of (instr_of (sight k) x) x.thread p is) (lends_it last) (omega (arith, lt)) (omega arith)
  at_read _ _ a is (at_lend p i _ last asked) = at_lending p i to_write a asked (λ v m. write_pointer v a m) (lends_of (instr_of (sight k) x) x.thread p is) (sym last)

  at_next : (p : Lval) (a : Awaited) → written_place (path (sight k) x) ≡ Some p → NextHop (sight k) x p a → Found a
  at_next p a is next = on_write p x.thread.passed to_write a next.asked (λ v m. write_pointer v a m) is next.within

  at_end : (r : MutRef) (a : Awaited) → path (sight k) x ≡ ends r → Among a (to_write (Some (value.Mut r))) → Found a
  at_end r a is (inl q) =
      let e = ended k c x g r is (ends_at k c x g r is) in
      let one = fresh_word k words e.at (value.Mut r) (record { word = r.word; object = r.object }) e.stands refl e.fresh in
      subst Found q (record { word_is = one; lies_so = ended_lies k c words told x g unbrought r is (ends_at k c x g r is) })
  at_end r a is (inr m) = absurd m

  in_turn_found : (q : Path) (a : Awaited) → path (sight k) x ≡ q → InTurn (sight k) x w a q → Found a
  in_turn_found _ a is (by_read p f) = at_read (reads p) f.number a is f.at
  in_turn_found _ a is (by_share p f) = at_read (shares p) f.number a is f.at
  in_turn_found _ a is (by_lend p f) = at_read (lends p) f.number a is f.at
  in_turn_found _ a is (by_write p next) = at_next p a (ap written_place is) next
  in_turn_found _ a is (by_end r same m) = at_end r a is m
  in_turn_found _ a is (by_holder r ne next) = at_next r.holder a (ap written_place is) next

-- REQUESTS

-- what asks a home for an object or for a copy
data Asks (w : ℕ) (o : ObjNo) (t : ℕ) : Message → Type 0 where
  fetches : (s : ℕ) → Asks w o t (message.Fetch w o s t)
  moves_it : (s : ℕ) → Asks w o t (message.Move w o s t)

asks_word : (w : ℕ) (o : ObjNo) (t n : ℕ) (a : Awaited) (m : Message) → Asks w o t m → asks_for n a m ≡ true → (a.word ≡ w) × (o ≡ a.object)
asks_word w o t n a _ (fetches s) e = let q = and_right (t == n && not a.comes) _ e in (same_number a.word w (and_left (a.word == w) _ q), named o a.object (and_right (a.word == w) _ q))
asks_word w o t n a _ (moves_it s) e = let q = and_right (t == n && a.comes) _ e in (same_number a.word w (and_left (a.word == w) _ q), named o a.object (and_right (a.word == w) _ q))

whole_asks : (w : ℕ) (o : ObjNo) (t r : ℕ) (m : Message) → Asks w o t m → 1 ≤ whole_to t (sent r m)
whole_asks w o t r _ (fetches s) = same_one t t (eq-eqb t t refl)
whole_asks w o t r _ (moves_it s) = same_one t t (eq-eqb t t refl)

no_bringer : (w : ℕ) (o : ObjNo) (t u : ℕ) (d : Cell) (m : Message) → Asks w o t m → message.Moved u d t ≡ m → ⊥
no_bringer w o t u d _ (fetches s) e = cc e
no_bringer w o t u d _ (moves_it s) e = cc e

module _ (k : Cluster) (c : HasPaths k) (words : HasWords (sight k)) (told : AnswersTold k) where
  of_asking : (w : ℕ) (o : ObjNo) (t r : ℕ) (m : Message) → Asks w o t m → carries (sight k) (sent r m) ≡ other (in_phase (is_cell w) (thread_at (sight k).ground.threads t)) → Among (sent r m) (things_of k) → not_under (sight k) w o ≡ 0
  of_asking w o t r m asks carried among = by (thread_at (sight k).ground.threads t) refl (other_none _ (sym carried ∙ none_at (carries (sight k)) (sent r m) (things_of k) told.carry_what_is_asked among))
    where
      of_thread : (x : Standing) → Among x (sight k).ground.threads → x.thread.number ≡ t → x.thread.phase ≡ phase.WaitCell w → not_under (sight k) w o ≡ 0
      of_thread x there number waits =
          let f : WaitsFor (sight k) x w = told.wait_in_turn x w there waits in
          let it = found (asked_for x.thread.number f.awaited) (things_of k) f.asked in
          of_thing x there number waits f it.0 it.1 it.2
        where
          mine : (x : Standing) → x.thread.number ≡ t → 1 ≤ whole_to x.thread.number (sent r m)
          mine x number = subst (λ z. 1 ≤ whole_to z (sent r m)) (sym number) (whole_asks w o t r m asks)

          unbrought : (x : Standing) → x.thread.number ≡ t → (u : ℕ) (q : ObjNo) (a : Awaits k u q) → a.thread ≡ x → ⊥
          unbrought x number u q a same =
              let there : Among (sent a.target (message.Moved u a.cell t)) (things_of k) = subst (λ z. Among (sent a.target (message.Moved u a.cell z)) (things_of k)) (ap (λ (y : Standing). y.thread.number) same ∙ number) a.brought in
              no_bringer w o t u a.cell m asks (one_message a.target r (message.Moved u a.cell t) m (only_one (whole_to t) (sent a.target (message.Moved u a.cell t)) (sent r m) (things_of k) (one_answer k told t) there among (same_one t t (eq-eqb t t refl)) (whole_asks w o t r m asks)))

          of_thing : (x : Standing) → Among x (sight k).ground.threads → x.thread.number ≡ t → x.thread.phase ≡ phase.WaitCell w → (f : WaitsFor (sight k) x w) (y : Thing) → Among y (things_of k) → 1 ≤ asked_for x.thread.number f.awaited y → not_under (sight k) w o ≡ 0
          of_thing x there number waits f (sent s l) h asked =
              let n = x.thread.number in
              let e : asks_for n f.awaited l ≡ true = truly (asks_for n f.awaited l) asked in
              let same : l ≡ m = one_message s r l m (only_one (whole_to n) (sent s l) (sent r m) (things_of k) (one_answer k told n) h among (asks_whole n f.awaited s l e) (mine x number)) in
              let q = asks_word w o t n f.awaited m asks (subst (λ z. asks_for n f.awaited z ≡ true) same e) in
              let goes : GoesOn k x = record { among = there; going = ap is_over waits } in
              let it = in_turn_found k c words told x goes w waits (unbrought x number) (path (sight k) x) f.awaited refl f.turn in
              let zero_so = under k words (record { word = f.awaited.word; object = f.awaited.object }) it.lies_so it.word_is in
              subst (λ z. not_under (sight k) z o ≡ 0) q.0 (subst (λ z. not_under (sight k) f.awaited.word z ≡ 0) (sym q.1) zero_so)
          of_thing x there number waits f _ h asked = absurd (omega (arith, asked))

      by : (z : Option Standing) → thread_at (sight k).ground.threads t ≡ z → in_phase (is_cell w) z ≡ true → not_under (sight k) w o ≡ 0
      by None at e = absurd (cc e)
      by (Some x) at e = let q = among_thread (threads_in (things_of k)) t x at in of_thread x q.0 q.1 (is_waiting x.thread.phase w e)

  -- DROPS

  box_is : (v : Owned) (o : ObjNo) → box_v o ≡ owned_val c.types.typing.gives (plain_of v) → (b : BoxPtr) × (v ≡ owned.Box b) × (b.object ≡ o)
  box_is (owned.Box b) o e = let q : b.object ≡ o = cc in (b, refl, q)
  box_is owned.Nothing o e = absurd (cc e)
  box_is owned.Unit o e = absurd (cc e)
  box_is (owned.Int i) o e = absurd (cc e)
  box_is (owned.Mutex m) o e = absurd (cc e)
  box_is (owned.Task t) o e = absurd (cc e)

  -- no message stands beside it
  record Owning (o : ObjNo) : Type 0 where
    thing : Thing
    among : Among thing (things_of k)
    owns_it : 1 ≤ owners o thing
    no_message : (r : ℕ) (m : Message) → sent r m ≡ thing → ⊥

  one_box : (v : Owned) (o : ObjNo) (b : BoxPtr) → v ≡ owned.Box b → b.object ≡ o → 1 ≤ boxes o v
  one_box v o b e f = rw e (rw (itself b.object o f) (omega arith))

  cell_owning : (x : Standing) (g : GoesOn k x) (q o : ObjNo) → (heap_store k c.types).heap q ≡ Some (box_v o) → Owning o
  cell_owning x g q o e = by it.thing it.among it.is
    where
      d : (d : Cell) × (cell_of (sight k).ground.cells q ≡ Some d) × (box_v o ≡ owned_val c.types.typing.gives (plain_of d.value))
      d = cell_there k c x g q (box_v o) e

      it : InCell q d.0 (things_of k)
      it = cell_among q d.0 (things_of k) d.1

      b : (b : BoxPtr) × (d.0.value ≡ owned.Box b) × (b.object ≡ o)
      b = box_is d.0.value o d.2

      by : (y : Thing) → Among y (things_of k) → CellOf d.0 y → Owning o
      by y h (lying r a) = record { thing = lies r a d.0; among = h; owns_it = one_box d.0.value o b.0 b.1 b.2; no_message = λ s m p. cc p }
      by y h (flying u) = record { thing = flies u d.0; among = h; owns_it = one_box d.0.value o b.0 b.1 b.2; no_message = λ s m p. cc p }

  slot_owning : (x : Standing) (g : GoesOn k x) (i : ℕ) (o : ObjNo) → (heap_store k c.types).at (slot_k x.thread.number i) ≡ box_v o → Owning o
  slot_owning x g i o e = by (slice_get x.thread.slots i) refl
    where
      st : Store
      st = heap_store k c.types

      held : (m : MutexNo) → slice_get x.thread.slots i ≡ Some (value.Held m) → (heap_store k c.types).at (slot_k x.thread.number i) ≡ ref_v (c.types.typing.marks x.thread.number i)
      held m at = rw (is_running k c x g) (rw (shown_value x.thread.slots i) (rw at refl))

      of_own : (v : Owned) → slice_get x.thread.slots i ≡ Some (value.Own v) → Owning o
      of_own v at =
          let b = box_is v o (sym e ∙ slot_own k c x g i v at) in
          let shown : value_in (sight k).ground (at_slot x.thread.number i) ≡ Some (value.Own v) = ap (λ y. slot_of y i) (stands_there k c x g) ∙ at in
          record { thing = holds (in_slot x.thread.number i) v; among = slot_among k x.thread.number i (value.Own v) shown (holds (in_slot x.thread.number i) v) (λ s. inl refl); owns_it = one_box v o b.0 b.1 b.2; no_message = λ s m p. cc p }

      by : (v : Option Value) → slice_get x.thread.slots i ≡ v → Owning o
      by None at = let q : gone_v ≡ box_v o = sym (slot_none k c x g i at) ∙ e in absurd (cc q)
      by (Some value.Gone) at = let q : gone_v ≡ box_v o = sym (slot_gone k c x g i at) ∙ e in absurd (cc q)
      by (Some (value.Own v)) at = of_own v at
      by (Some (value.SharedSlot j)) at = let q : ref_v _ ≡ box_v o = sym (slot_shared_slot k c x g i j at) ∙ e in absurd (cc q)
      by (Some (value.MutSlot j)) at = let q : ref_v _ ≡ box_v o = sym (slot_mut_slot k c x g i j at) ∙ e in absurd (cc q)
      by (Some (value.Shared r)) at = let q : ref_v _ ≡ box_v o = sym (slot_shared k c x g i r at) ∙ e in absurd (cc q)
      by (Some (value.Mut r)) at = let q : ref_v _ ≡ box_v o = sym (slot_mut k c x g i r at) ∙ e in absurd (cc q)
      by (Some (value.Held m)) at = let q : ref_v _ ≡ box_v o = sym (held m at) ∙ e in absurd (cc q)

  -- an object in a chain of a thread's slots has its box there
  chain_owning : (x : Standing) (g : GoesOn k x) (o : ObjNo) (i m : ℕ) → below_key (heap_store k c.types) (slot_k x.thread.number i) m ≡ Some (at_object o) → Owning o
  chain_owning x g o i zero e = let q : at_key (slot_k x.thread.number i) ≡ at_object o = some_is e in absurd (cc q)
  chain_owning x g o i (suc m) e =
      let q = from_suc (heap_store k c.types) (at_key (slot_k x.thread.number i)) (at_object o) m e in
      let one : q.1 ≡ o = (let z : at_object o ≡ at_object q.1 = q.4 in cc) in
      of_box m q.0 q.2 (subst (λ z. value_at (heap_store k c.types) q.0 ≡ Some (box_v z)) one q.3)
    where
      of_box : (m : ℕ) (l : StoreLocation) → below_key (heap_store k c.types) (slot_k x.thread.number i) m ≡ Some l → value_at (heap_store k c.types) l ≡ Some (box_v o) → Owning o
      of_box zero l at v = let same : at_key (slot_k x.thread.number i) ≡ l = some_is at in slot_owning x g i o (some_is (ap (value_at (heap_store k c.types)) same ∙ v))
      of_box (suc m) l at v =
          let q = from_suc (heap_store k c.types) (at_key (slot_k x.thread.number i)) l m at in
          cell_owning x g q.1 o (ap (value_at (heap_store k c.types)) (sym q.4) ∙ v)

  of_drop : (w : ℕ) (o : ObjNo) (r : ℕ) → Among (sent r (message.Drop w o)) (things_of k) → not_under (sight k) w o ≡ 0
  of_drop w o r among = by it.0 it.1 it.2
    where
      mine : 1 ≤ owners o (sent r (message.Drop w o))
      mine = rw (itself o o refl) (omega arith)

      one_owner : tot (owners o) (things_of k) ≤ 1
      one_owner = let a = c.owner_of_each o in let h = c.home_of_each o in omega (arith, a, h)

      some_cell : 1 ≤ tot (cells o) (things_of k)
      some_cell = let a = c.owner_of_each o in let l = weighs_one (owners o) (sent r (message.Drop w o)) (things_of k) among in omega (arith, a, l, mine)

      it : (y : Thing) × Among y (things_of k) × (1 ≤ cells o y)
      it = found (cells o) (things_of k) some_cell

      word_is : w ≡ words.word o
      word_is =
          let p : Pointer = record { at = None; word = w; object = o } in
          ⊎_elim (λ (s : ⊥). absurd s) (λ (q : w ≡ words.word o). q) (of_all k words p (pointers_among p (sent r (message.Drop w o)) (things_of k) among (inl refl)))

      -- it isn't under way: nobody who waits for it has it
      not_flying : (u : ℕ) (d : Cell) → Among (flies u d) (things_of k) → d.object ≡ o → ⊥
      not_flying u d h same =
          let a = who_waits k told u d h in
          let goes : GoesOn k a.thread = record { among = a.among; going = ap is_over a.waits } in
          let own = comes_own k c a.thread goes u a.awaited (path (sight k) a.thread) refl a.turn a.comes in
          let q = chain_owning a.thread goes o own.slot own.boxes (subst (λ z. below_key (heap_store k c.types) (slot_k a.thread.thread.number own.slot) own.boxes ≡ Some (at_object z)) (a.object ∙ same) own.leads_there) in
          q.no_message r (message.Drop w o) (only_one (owners o) (sent r (message.Drop w o)) q.thing (things_of k) one_owner among q.among mine q.owns_it)

      by : (y : Thing) → Among y (things_of k) → 1 ≤ cells o y → not_under (sight k) w o ≡ 0
      by (lies s a d) h l =
          let same = named d.object o (truly (same_object d.object o) l) in
          under k words (record { word = w; object = o }) (record { server = s; address = a; there = record { cell = d; among = h; object = same }; leads = subst (LeadsTo s a) (ap words.word same ∙ sym word_is) (words.home s a d h) }) word_is
      by (flies u d) h l = absurd (not_flying u d h (named d.object o (truly (same_object d.object o) l)))
      by _ h l = absurd (omega (arith, l))

  of_message : (r : ℕ) (m : Message) → Among (sent r m) (things_of k) → message_leads (sight k) m ≡ 0
  of_message r (message.Fetch w o s t) h = of_asking w o t r (message.Fetch w o s t) (fetches s) refl h
  of_message r (message.Move w o s t) h = of_asking w o t r (message.Move w o s t) (moves_it s) refl h
  of_message r (message.Drop w o) h = of_drop w o r h
  of_message r _ h = refl

  of_thing_there : (y : Thing) → Among y (things_of k) → not_there (sight k) y ≡ 0
  of_thing_there (sent r m) h = of_message r m h
  of_thing_there _ h = refl

pub objects_follow : ObjectsFollow
objects_follow k c words told = none_all (not_there (sight k)) (things_of k) (λ y h. of_thing_there k c words told y h)
