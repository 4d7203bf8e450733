-- Who a copy is asked for by: a thread that waits for it reads a pointer under its word. So none is asked for of an object to which no thread that waits for a copy reads a pointer.
use Rattle.std.proofs.Common.{◌≡◌, inl, inr, ◌≤◌, ◌<◌, ℕ, zero, suc, ◌*◌, ◌+◌, ◌-◌, ◌==◌, ◌&&◌, not, Bool, true, false, if◌then◌else◌, List, [], ◌∷◌, Option, Some, None, is_some, refl, sym, ap, ap₂, subst, ◌∙◌, arith}
use Rattle.std.proofs.lemmas.Bool.{eqb-true, eq-eqb}
use Rattle.std.specs.Prelude.{slice_get}
use Rattle.law_copies_kept.specs.Below.fr_base.declared.name.ObjNo.{ObjNo}
use Rattle.law_copies_kept.specs.Below.fr_base.declared.place.Lval.{Lval}
use Rattle.law_copies_kept.specs.Below.fr_base.declared.instruction.Instr.{Instr}
use Rattle.law_copies_kept.specs.Below.fr_base.declared.instruction.Instr.TheVariants as instr
use Rattle.law_copies_kept.specs.Below.fr_store.Keys.{slot_k}
use Rattle.law_copies_kept.specs.Below.fr_store.Store.{at_key, at_object, Store, walk, below_key}
use Rattle.law_copies_kept.specs.Below.fr_store.Typed.{KeyTypes}
use Rattle.law_copies_kept.proofs.Below.fr_store.Sound.{sound as sound_path}
use Rattle.law_copies_kept.specs.Below.global_addr.Words.{server_of, address_of}
use Rattle.law_copies_kept.specs.Below.heap_partition.Same.{same_cell}
use Rattle.law_copies_kept.specs.Below.heap_partition.declared.value.BoxPtr.{BoxPtr}
use Rattle.law_copies_kept.specs.Below.heap_partition.declared.value.Cell.{Cell}
use Rattle.law_copies_kept.specs.Below.heap_partition.declared.value.Owned.TheVariants as owned
use Rattle.law_copies_kept.specs.Below.thread_state.View.{ThreadState, is_over}
use Rattle.law_copies_kept.specs.Below.thread_state.declared.value.Value.{Value}
use Rattle.law_copies_kept.specs.Below.thread_state.declared.value.Value.TheVariants as value
use Rattle.law_copies_kept.specs.Below.thread_state.declared.phase.Phase.{Phase}
use Rattle.law_copies_kept.specs.Below.thread_state.declared.phase.Phase.TheVariants as phase
use Rattle.law_copies_kept.specs.Below.server_msgs.declared.message.Message.{Message}
use Rattle.law_copies_kept.specs.Below.server_msgs.declared.message.Message.TheVariants as message
use Rattle.law_copies_kept.specs.Below.server_model.Servers.{Cluster}
use Rattle.law_copies_kept.specs.Below.server_model.Places.{pointer_of}
use Rattle.law_copies_kept.specs.Below.coherent_memory.Names.{tot, one, some, other, if_so, same_object, Among}
use Rattle.law_copies_kept.specs.Below.coherent_memory.Things.{Location, in_cell, Thing, lies, sent, things_of}
use Rattle.law_copies_kept.specs.Below.coherent_memory.Follow.{Standing, Ground, thread_at, cells_in, value_in, value_behind, leads, locate}
use Rattle.law_copies_kept.specs.Below.coherent_memory.Sight.{is_word, sight, word}
use Rattle.law_copies_kept.specs.Below.coherent_memory.Weights.{lies_under}
use Rattle.law_copies_kept.specs.Below.coherent_memory.Placing.{sum_over, other_cell, clean_cell, other_copy, unclean}
use Rattle.law_copies_kept.specs.Below.coherent_memory.Paths.{Path, reads, shares, lends, path_of, taking, assigning, ending, Awaited, to_read, to_write, to_clean, is_spent}
use Rattle.law_copies_kept.specs.Below.coherent_memory.Walking.{path, instr_of, asked_for, asks_for}
use Rattle.law_copies_kept.specs.Below.coherent_memory.Requests.{halves, halves_to, message_answer, is_cell, in_phase, phase_fits, carries, not_there}
use Rattle.law_copies_kept.specs.Below.coherent_memory.Turn.{IsAsked, AwaitsAt, read_at, before_share, at_share, before_lend, at_lend, InTurn, by_read, by_share, by_lend, by_write, by_end, by_holder}
use Rattle.law_copies_kept.specs.Below.coherent_memory.Coherent.{IsSound}
use Rattle.law_copies_kept.proofs.Below.coherent_memory.Names.{and_left, and_right}
use Rattle.law_copies_kept.proofs.Below.coherent_memory.Words.{named, none_at, none_all}
use Rattle.law_copies_kept.proofs.Below.coherent_memory.Passing.{paths_law}
use Rattle.law_copies_kept.proofs.Below.law_counts_sums.Askers.{other_none}
use Rattle.law_copies_kept.specs.Below.law_words_paths.paths.HeapStore.{heap_store, GoesOn, HasPaths}
use Rattle.law_copies_kept.proofs.Below.law_words_paths.paths.Alike.{leads_in_heap}
use Rattle.law_copies_kept.proofs.Below.law_words_paths.paths.Circles.{shorter}
use Rattle.law_copies_kept.proofs.Below.law_words_paths.paths.Contained.{among_thread}
use Rattle.law_copies_kept.proofs.Below.law_words_paths.paths.Shown.{stands_there}
use Rattle.law_copies_kept.proofs.Below.law_words_paths.paths.Sole.{some_is}
use Rattle.law_words_borrows.proofs.Below.law_words_paths.words.Standing.{lying}
use Rattle.law_words_borrows.proofs.Below.law_counts_things.things.Messages.{on_sent}
use Rattle.law_words_borrows.specs.Below.law_words_kept.reads.Reading.{Reads, copies, dups, locks, shares as shares_it, lends as lends_it, MayRead}
use Rattle.law_words_borrows.proofs.Below.law_words_kept.reads.ReadPlaces.{may_read_so}
use Rattle.law_words_borrows.proofs.Below.law_words_kept.reads.Flights.{truly}
use Rattle.law_words_borrows.proofs.Below.law_words_kept.ends.ReadPaths.{reads_of, shares_of, read_pointer}
use Rattle.law_copies_kept.proofs.Below.law_results_reads.Alone.{needed_less}
use Rattle.law_copies_kept.proofs.Below.law_results_reads.Flights.{weighs}
use Rattle.law_copies_kept.proofs.Below.law_results_reads.Made.{OwnedBy}
use Rattle.law_copies_kept.proofs.Below.law_results_reads.Near.{base_mine, one_reaches}
use Rattle.law_copies_kept.proofs.Below.law_results_reads.Pointing.{same_cells}
use Rattle.law_copies_kept.proofs.copies.Clean.{thing_cell, found_by, told, one_of_word}
use Rattle.law_copies_kept.proofs.references.Asked.{asking}
use Rattle.law_copies_kept.proofs.references.Worded.{clean_told}
use Rattle.law_copies_kept.proofs.objects.Turned.{Unasked}

-- ONE ANSWER

module _ (t : ℕ) (a : Awaited) where
  -- a message that a copy comes by to the thread without being what it asks for
  abbrev strays_in : Message → ℕ
  strays_in (message.Fetch w p r u) = one ((u == t) && not (asks_for t a (message.Fetch w p r u)))
  strays_in (message.Fetched w c u) = one ((u == t) && not (asks_for t a (message.Fetched w c u)))
  strays_in m = 0

  abbrev strays : Thing → ℕ
  strays (sent r m) = strays_in m
  strays x = 0

  asked_less : (p q r : Bool) → 2 * one ((p && q) && r) ≤ if_so p 2
  asked_less true q r = by (q && r)
    where
      by : (b : Bool) → 2 * one b ≤ 2
      by true = omega arith
      by false = omega arith
  asked_less false q r = omega arith

  stray_less : (p q r : Bool) → 2 * one ((p && q) && r) + 2 * one (p && not ((p && q) && r)) ≤ if_so p 2
  stray_less true q r = by (q && r)
    where
      by : (b : Bool) → 2 * one b + 2 * one (not b) ≤ 2
      by true = omega arith
      by false = omega arith
  stray_less false q r = omega arith

  message_counts : (m : Message) → 2 * one (asks_for t a m) + 2 * strays_in m ≤ halves t (message_answer m)
  message_counts (message.Fetch w p s u) = stray_less (u == t) (not a.comes) (a.word == w && same_object p a.object)
  message_counts (message.Fetched w c u) = stray_less (u == t) (not a.comes) (a.word == w && same_object c.object a.object)
  message_counts (message.Move w p s u) = omega (arith, asked_less (u == t) a.comes (a.word == w && same_object p a.object))
  message_counts (message.Moved w c u) = omega (arith, asked_less (u == t) a.comes (a.word == w && same_object c.object a.object))
  message_counts _ = omega arith

  counts_less : (x : Thing) → 2 * asked_for t a x + 2 * strays x ≤ halves_to t x
  counts_less (sent r m) = message_counts m
  counts_less _ = omega arith

  all_less : (b : List Thing) → 2 * tot (asked_for t a) b + 2 * tot strays b ≤ tot (halves_to t) b
  all_less [] = omega arith
  all_less (x ∷ b) = omega (arith, counts_less x, all_less b)

-- what is no stray is what the thread asks for
own_asked : (t : ℕ) (q : Bool) → one ((t == t) && not q) ≡ 0 → q ≡ true
own_asked t q z = by q (subst (λ b. one (b && not q) ≡ 0) (eq-eqb t t refl) z)
  where
    by : (b : Bool) → one (true && not b) ≡ 0 → b ≡ true
    by true e = refl
    by false e = absurd (cc e)

not_true : (b : Bool) → not b ≡ true → b ≡ false
not_true true e = absurd (cc e)
not_true false e = refl

standing_of : (f : Phase → Bool) (o : Option Standing) → in_phase f o ≡ true → (x : Standing) × (o ≡ Some x) × (f x.thread.phase ≡ true)
standing_of f None e = absurd (cc e)
standing_of f (Some x) e = (x, refl, e)

is_waiting : (p : Phase) (w : ℕ) → is_cell w p ≡ true → p ≡ phase.WaitCell w
is_waiting (phase.WaitCell v) w e = ap phase.WaitCell (eqb-true v w e)
is_waiting _ w e = absurd (cc e)

-- WHAT COMES IS NO COPY

write_comes : (v : Value) (a : Awaited) → Among a (to_write (Some v)) → a.comes ≡ true
write_comes (value.Own (owned.Box p)) a (inl e) = sym (ap (λ (x : Awaited). x.comes) e)
write_comes (value.Own (owned.Box p)) a (inr m) = absurd m
write_comes (value.Own v) a m = absurd m
write_comes (value.Mut r) a (inl e) = sym (ap (λ (x : Awaited). x.comes) e)
write_comes (value.Mut r) a (inr m) = absurd m
write_comes _ a m = absurd m

clean_comes : (c : ℕ) (v : Value) (a : Awaited) → Among a (to_clean c (Some v)) → a.comes ≡ true
clean_comes c (value.Mut r) a m = by (is_spent c r) m
  where
    by : (b : Bool) → Among a (if b then record { word = r.word; object = r.object; comes = true; by_copy = false } ∷ [] else []) → a.comes ≡ true
    by true (inl e) = sym (ap (λ (x : Awaited). x.comes) e)
    by true (inr m) = absurd m
    by false m = absurd m
clean_comes c _ a m = absurd m

ending_no_lend : (v : Option Value) (p : Lval) → ending v ≡ lends p → ⊥
ending_no_lend (Some (value.Mut q)) p e = cc e
ending_no_lend _ p e = cc e

one_lend : (w p : Lval) → lends w ≡ lends p → w ≡ p
one_lend w p e = cc

lends_of : (o : Option Instr) (t : ThreadState) (p : Lval) → path_of o t ≡ lends p → o ≡ Some (instr.BorrowMut p)
lends_of (Some (instr.BorrowMut w)) t p e = ap (λ z. Some (instr.BorrowMut z)) (one_lend w p e)
lends_of (Some (instr.Read w false)) t p e = absurd (cc e)
lends_of (Some (instr.Read w true)) t p e = by w.depth e
  where
    by : (d : ℕ) → taking w d ≡ lends p → Some (instr.Read w true) ≡ Some (instr.BorrowMut p)
    by zero q = absurd (cc q)
    by (suc d) q = absurd (cc q)
lends_of (Some (instr.Assign w o)) t p e = by w.depth e
  where
    by : (d : ℕ) → assigning t.slots w d ≡ lends p → Some (instr.Assign w o) ≡ Some (instr.BorrowMut p)
    by zero q = absurd (ending_no_lend (slice_get t.slots w.slot) p q)
    by (suc d) q = absurd (cc q)
lends_of (Some instr.DropSlot) t p e = absurd (ending_no_lend _ p e)
lends_of (Some instr.Discard) t p e = absurd (ending_no_lend _ p e)
lends_of (Some _) t p e = absurd (cc e)
lends_of None t p e = absurd (cc e)

pub reads_within : (i : Instr) (w : Lval) (n : ℕ) → Reads i w n → n ≤ w.depth
reads_within _ w n (copies e) = omega (arith, e)
reads_within _ w n (shares_it e) = omega (arith, e)
reads_within _ w n (lends_it e) = omega (arith, e)
reads_within _ w n (dups e) = omega (arith, e)
reads_within _ w n (locks e) = omega (arith, e)

leads_to : (t : ℕ) (v : Value) (b : BoxPtr) → pointer_of v ≡ Some b → leads t (Some v) ≡ Some (in_cell b.object)
leads_to t (value.Own (owned.Box p)) b e = ap (λ (x : BoxPtr). Some (in_cell x.object)) (some_is e)
leads_to t (value.Own owned.Nothing) b e = absurd (cc e)
leads_to t (value.Own owned.Unit) b e = absurd (cc e)
leads_to t (value.Own (owned.Int n)) b e = absurd (cc e)
leads_to t (value.Own (owned.Mutex n)) b e = absurd (cc e)
leads_to t (value.Own (owned.Task n)) b e = absurd (cc e)
leads_to t (value.Shared r) b e = ap (λ (x : BoxPtr). Some (in_cell x.object)) (some_is e)
leads_to t (value.Mut r) b e = ap (λ (x : BoxPtr). Some (in_cell x.object)) (some_is e)
leads_to t (value.SharedSlot i) b e = absurd (cc e)
leads_to t (value.MutSlot i) b e = absurd (cc e)
leads_to t value.Gone b e = absurd (cc e)
leads_to t (value.Held m) b e = absurd (cc e)

module _ (k : Cluster) (c : HasPaths k) (sound : IsSound k) where
  abbrev ground : Ground
  ground = (sight k).ground

  -- a thread that waits for a copy of an object under a word, and the pointer that it reads
  pub record ReadsUnder (v : ℕ) (o : ObjNo) : Type 0 where
    pub thread : Standing
    pub goes : GoesOn k thread
    pub waits_there : thread.thread.phase ≡ phase.WaitCell v
    pub instruction : Instr
    pub place : Lval
    pub stars : ℕ
    pub at : instr_of (sight k) thread ≡ Some instruction
    pub reads : Reads instruction place stars
    pub hop : ℕ
    pub under : hop < stars
    pub location : Location
    pub located : locate (sight k).ground thread.thread.number place.slot hop ≡ Some location
    pub value : Value
    pub stood : value_in (sight k).ground location ≡ Some value
    pub points : pointer_of value ≡ Some (record { word = v; object = o })

  -- THE THREAD THAT WAITS

  module _ (z : Standing) (g : GoesOn k z) (v : ℕ) (o : ObjNo) (waits_now : z.thread.phase ≡ phase.WaitCell v) (a : Awaited) (stays : a.comes ≡ false) (its_word : a.word ≡ v) (its_object : o ≡ a.object) where
    not_coming : a.comes ≡ true → ⊥
    not_coming e = let no : true ≡ false = sym e ∙ stays in absurd cc

    found : (i : Instr) (w : Lval) (n : ℕ) → instr_of (sight k) z ≡ Some i → Reads i w n → (j : ℕ) → j < n → IsAsked (sight k) z w j (to_read (sight k).options.colours) a → ReadsUnder v o
    found i w n at reading j lt q = record {
      thread = z;
      goes = g;
      waits_there = waits_now;
      instruction = i;
      place = w;
      stars = n;
      at = at;
      reads = reading;
      hop = j;
      under = lt;
      location = q.location;
      located = paths_law.locates ground z.thread.number w.slot j q.location q.hop.path;
      value = q.value;
      stood = q.hop.stands;
      points = read_pointer (sight k).options.colours q.value a q.asked ∙ ap₂ (λ x p. Some (let b : BoxPtr = record { word = x; object = p } in b)) its_word (sym its_object);
    }

    at_hop : (p : Path) → path (sight k) z ≡ p → (n : ℕ) → AwaitsAt (sight k) z p n a → ReadsUnder v o
    at_hop _ e n (read_at w i _ lt q) = let r = reads_of (instr_of (sight k) z) z.thread w e in found r.0 w w.depth r.1 r.2 i lt q
    at_hop _ e n (before_share w i _ lt q) =
        let deep : w.depth ≡ suc (w.depth - 1) = omega (arith, lt) in
        found (instr.Borrow w) w (w.depth - 1) (shares_of (instr_of (sight k) z) z.thread w e) (shares_it deep) i (omega (arith, lt)) q
    at_hop _ e n (at_share w i _ lt q) = absurd (not_coming (clean_comes (sight k).options.colours q.value a q.asked))
    at_hop _ e n (before_lend w i _ lt q) =
        let deep : w.depth ≡ suc (w.depth - 1) = omega (arith, lt) in
        found (instr.BorrowMut w) w (w.depth - 1) (lends_of (instr_of (sight k) z) z.thread w e) (lends_it deep) i (omega (arith, lt)) q
    at_hop _ e n (at_lend w i _ lt q) = absurd (not_coming (write_comes q.value a q.asked))

    by_turn : (p : Path) → path (sight k) z ≡ p → (u : ℕ) → InTurn (sight k) z u a p → ReadsUnder v o
    by_turn _ e u (by_read p f) = at_hop (reads p) e f.number f.at
    by_turn _ e u (by_share p f) = at_hop (shares p) e f.number f.at
    by_turn _ e u (by_lend p f) = at_hop (lends p) e f.number f.at
    by_turn _ e u (by_write p f) = let q = f.asked in absurd (not_coming (write_comes q.value a q.asked))
    by_turn _ e u (by_end r same among) = absurd (not_coming (write_comes (value.Mut r) a among))
    by_turn _ e u (by_holder r ne f) = let q = f.asked in absurd (not_coming (write_comes q.value a q.asked))

  -- the one that a message is for
  reader : (v : ℕ) (o : ObjNo) (n t : ℕ) (m : Message) → Among (sent n m) (things_of k) → carries (sight k) (sent n m) ≡ phase_fits (sight k) t (is_cell v) → ((a : Awaited) → strays t a (sent n m) ≡ one ((t == t) && not (asks_for t a m)))
      → ((a : Awaited) → asks_for t a m ≡ ((t == t && not a.comes) && (a.word == v && same_object o a.object))) → ReadsUnder v o
  reader v o n t m i e1 e2 e3 =
      let carried : other (in_phase (is_cell v) (thread_at ground.threads t)) ≡ 0 = sym e1 ∙ none_at (carries (sight k)) (sent n m) (things_of k) sound.requests.carry_what_is_asked i in
      let z = standing_of (is_cell v) (thread_at ground.threads t) (other_none _ carried) in
      let among = among_thread ground.threads t z.0 z.1 in
      let waits_now = is_waiting z.0.thread.phase v z.2 in
      let goes : GoesOn k z.0 = record { among = among.0; going = ap is_over waits_now } in
      let turn = sound.walks.wait_in_turn z.0 v among.0 waits_now in
      let a = turn.awaited in
      let asked : 1 ≤ tot (asked_for t a) (things_of k) = subst (λ q. 1 ≤ tot (asked_for q a) (things_of k)) among.1 turn.asked in
      let none : tot (strays t a) (things_of k) ≡ 0 = omega (arith, asked, all_less t a (things_of k), sound.requests.one_answer t, needed_less t a o (things_of k), sound.names.numbers_differ t) in
      let its : one ((t == t) && not (asks_for t a m)) ≡ 0 = sym (e2 a) ∙ none_at (strays t a) (sent n m) (things_of k) none i in
      let asks : ((t == t && not a.comes) && (a.word == v && same_object o a.object)) ≡ true = sym (e3 a) ∙ own_asked t (asks_for t a m) its in
      let stays : a.comes ≡ false = not_true a.comes (and_right (t == t) (not a.comes) (and_left (t == t && not a.comes) (a.word == v && same_object o a.object) asks)) in
      let object : o ≡ a.object = named o a.object (and_right (a.word == v) (same_object o a.object) (and_right (t == t && not a.comes) (a.word == v && same_object o a.object) asks)) in
      by_turn z.0 goes v o waits_now a stays turn.word object (path (sight k) z.0) refl v turn.turn

  fetch_reader : (n u : ℕ) (o : ObjNo) (r t : ℕ) → Among (sent n (message.Fetch u o r t)) (things_of k) → ReadsUnder u o
  fetch_reader n u o r t i = reader u o n t (message.Fetch u o r t) i refl (λ a. refl) (λ a. refl)

  fetched_reader : (n u : ℕ) (d : Cell) (t : ℕ) → Among (sent n (message.Fetched u d t)) (things_of k) → ReadsUnder u d.object
  fetched_reader n u d t i = reader u d.object n t (message.Fetched u d t) i refl (λ a. refl) (λ a. refl)

  -- AN OBJECT OF WHICH NONE IS ASKED FOR

  module _ (e : Cell) (m : Among e (cells_in (things_of k))) where
    abbrev its : ℕ
    its = sound.words.have_words.word e.object

    has_it : is_word (word (sight k) e.object) its ≡ true
    has_it = ap (λ x. is_word x its) (told k sound.words.have_words e m) ∙ eq-eqb its its refl

    -- a cell with its word is its
    one_cell : (u : ℕ) (d : Cell) → u ≡ its → Among d (cells_in (things_of k)) → is_word (word (sight k) d.object) u ≡ true → d.object ≡ e.object
    one_cell u d same i h = ap (λ (x : Cell). x.object) (one_of_word k sound its d e i m (subst (λ v. is_word (word (sight k) d.object) v ≡ true) same h) has_it)

    some_less : (n : ℕ) → some n ≡ true → 1 ≤ n
    some_less zero q = absurd (cc q)
    some_less (suc n) q = omega arith

    fetch_object : (n u : ℕ) (o : ObjNo) (r t : ℕ) → Among (sent n (message.Fetch u o r t)) (things_of k) → u ≡ its → o ≡ e.object
    fetch_object n u o r t i same = by x.0 x.1 x.2
      where
        mine : other (is_word (word (sight k) o) u && some (sum_over (sight k) (lies_under u o))) ≡ 0
        mine = none_at (not_there (sight k)) (sent n (message.Fetch u o r t)) (things_of k) sound.requests.objects_there i

        both : (is_word (word (sight k) o) u && some (sum_over (sight k) (lies_under u o))) ≡ true
        both = other_none _ mine

        x : (y : Thing) × Among y (things_of k) × (1 ≤ lies_under u o y)
        x = weighs (lies_under u o) (things_of k) (some_less (tot (lies_under u o) (things_of k)) (and_right (is_word (word (sight k) o) u) (some (sum_over (sight k) (lies_under u o))) both))

        by : (y : Thing) → Among y (things_of k) → 1 ≤ lies_under u o y → o ≡ e.object
        by (lies s a d) h l =
            let is : d.object ≡ o = named d.object o (and_right (server_of u == s && address_of u == a) (same_object d.object o) (truly ((server_of u == s && address_of u == a) && same_object d.object o) l)) in
            let has : is_word (word (sight k) d.object) u ≡ true = ap (λ p. is_word (word (sight k) p) u) is ∙ and_left (is_word (word (sight k) o) u) (some (sum_over (sight k) (lies_under u o))) both in
            sym is ∙ one_cell u d same (thing_cell (things_of k) d (lies s a d) (lying s a) h) has
        by _ h l = absurd (omega (arith, l))

    fetched_object : (n u : ℕ) (d : Cell) (t : ℕ) → Among (sent n (message.Fetched u d t)) (things_of k) → u ≡ its → d.object ≡ e.object
    fetched_object n u d t i same = by (clean_cell (sight k) u) refl
      where
        clean : other (is_some (clean_cell (sight k) u)) ≡ 0
        clean = none_at (unclean (sight k)) (sent n (message.Fetched u d t)) (things_of k) sound.copies.served_are_clean i

        agree : other_cell d (clean_cell (sight k) u) ≡ 0
        agree = none_at (other_copy (sight k)) (sent n (message.Fetched u d t)) (things_of k) sound.copies.copies_agree i

        by : (x : Option Cell) → clean_cell (sight k) u ≡ x → d.object ≡ e.object
        by None q = let no : other (is_some (let n : Option Cell = None in n)) ≡ 0 = subst (λ y. other (is_some y) ≡ 0) q clean in absurd (cc no)
        by (Some b) q =
            let t2 = clean_told (sight k) u b q in
            let f = found_by (sight k).pointers (cells_in (things_of k)) u b t2.0 in
            let is : d ≡ b = same_cells d b (other_none (same_cell d b) (subst (λ y. other_cell d y ≡ 0) q agree)) in
            ap (λ (y : Cell). y.object) is ∙ one_cell u b same f.among f.has

    -- where no thread that waits reads a pointer to it under its word
    pub unasked_by : (ReadsUnder its e.object → ⊥) → Unasked k its
    unasked_by none = none_all (on_sent (asking (λ u. one (u == its)))) (things_of k) each
      where
        tested : (u : ℕ) → (u ≡ its → ⊥) → one (u == its) ≡ 0
        tested u away = by (u == its) refl
          where
            by : (b : Bool) → (u == its) ≡ b → one b ≡ 0
            by true q = absurd (away (eqb-true u its q))
            by false q = refl

        at_word : (u : ℕ) (o : ObjNo) → ReadsUnder u o → u ≡ its → o ≡ e.object → ⊥
        at_word u o r same object = none (subst (λ p. ReadsUnder its p) object (subst (λ v. ReadsUnder v o) same r))

        by : (n : ℕ) (x : Message) → Among (sent n x) (things_of k) → asking (λ u. one (u == its)) n x ≡ 0
        by n (message.Fetch u o r t) i = tested u (λ s. at_word u o (fetch_reader n u o r t i) s (fetch_object n u o r t i s))
        by n (message.Fetched u d t) i = tested u (λ s. at_word u d.object (fetched_reader n u d t i) s (fetched_object n u d t i s))
        by n x i = refl

        each : (x : Thing) → Among x (things_of k) → on_sent (asking (λ u. one (u == its))) x ≡ 0
        each (sent n x) i = by n x i
        each x i = refl

  -- WHO READS IT

  -- its place leads to the object
  pub reads_to : (v : ℕ) (o : ObjNo) (q : ReadsUnder v o) → leads q.thread.thread.number (value_in (sight k).ground q.location) ≡ Some (in_cell o)
  reads_to v o q = ap (leads q.thread.thread.number) q.stood ∙ leads_to q.thread.thread.number q.value (record { word = v; object = o }) q.points

  -- where a thread has the object in boxes of its slots that waits for no pair, it is that thread
  pub reads_as_owner : (v : ℕ) (o : ObjNo) (q : ReadsUnder v o) (z : Standing) → GoesOn k z → ((d f : ℕ) → z.thread.phase ≡ phase.WaitPar d f → ⊥) → ((d f : ℕ) → z.thread.phase ≡ phase.GotPar d f → ⊥) → OwnedBy k c z.thread.number o → q.thread ≡ z
  reads_as_owner v o q z h nw ng own =
      let x = q.thread in
      let t = x.thread.number in
      let w = q.place in
      let i = q.hop in
      let st : Store = heap_store k c.types in
      let E : KeyTypes = c.types.typing.exact in
      let may : MayRead k c.types x w = may_read_so k c x q.instruction w q.stars q.goes q.at q.reads in
      let lt : i < w.depth = omega (arith, q.under, reads_within q.instruction w q.stars q.reads) in
      let next : locate ground t w.slot (suc i) ≡ Some (in_cell o) = ap (λ p. leads t (value_behind ground p)) q.located ∙ reads_to v o q in
      let less = shorter E false (slot_k t w.slot) (w.depth - suc i) w.depth (suc i) may.base may.boxes may.type (omega (arith, lt)) may.resolves in
      let b = base_mine k c t false (slot_k t w.slot) (suc i) less.base less.boxes less.type (t, refl, inl refl) less.res in
      let there : walk st (suc i) (at_key (slot_k t w.slot)) ≡ Some (at_object o) = (leads_in_heap k c x q.goes w.slot (suc i) (in_cell o) next).0 in
      let chain : below_key st less.base less.boxes ≡ Some (at_object o) = sym (sound_path c.types.typing.rank E st c.types.state.typed false (slot_k t w.slot) (suc i) less.base less.boxes less.type less.res) ∙ there in
      let one = one_reaches k c t z h nw ng o less.base less.boxes b chain own in
      some_is (sym (stands_there k c x q.goes) ∙ ap (thread_at ground.threads) (sym one) ∙ stands_there k c z h)
