-- Copies are right after an object comes to a mutable borrow: its thread takes it from the last pointer of the place, or a dirty reference on the way gets its word.
use Rattle.std.proofs.Common.{◌≡◌, ◌⊎◌, inl, inr, ⊎_elim, ◌<◌, ℕ, zero, suc, ◌+◌, ◌-◌, ◌==◌, ◌&&◌, not, Bool, true, false, if◌then◌else◌, List, ◌∷◌, ◌++◌, Option, Some, None, refl, sym, ap, subst, ◌∙◌, arith}
use Rattle.std.specs.Prelude.{slice_get}
use Rattle.std.proofs.lemmas.Bool.{eqb-true, eq-eqb}
use Rattle.law_words_ends.specs.Below.fr_base.declared.instruction.Instr.TheVariants as instr
use Rattle.law_words_ends.specs.Below.fr_base.declared.name.ObjNo.{ObjNo}
use Rattle.law_words_ends.specs.Below.fr_base.declared.place.Lval.{Lval}
use Rattle.law_words_ends.specs.Below.heap_partition.declared.value.BoxPtr.{BoxPtr}
use Rattle.law_words_ends.specs.Below.heap_partition.declared.value.Cell.{Cell}
use Rattle.law_words_ends.specs.Below.heap_partition.declared.value.Owned.TheVariants as owned
use Rattle.law_words_ends.specs.Below.mut_borrow.declared.mutable.MutRef.{MutRef}
use Rattle.law_words_ends.specs.Below.owner_box.Partition.{new_word}
use Rattle.law_words_ends.specs.Below.thread_state.View.{ThreadState}
use Rattle.law_words_ends.specs.Below.thread_state.declared.phase.Phase.TheVariants as phase
use Rattle.law_words_ends.specs.Below.thread_state.declared.value.Value.{Value}
use Rattle.law_words_ends.specs.Below.thread_state.declared.value.Value.TheVariants as value
use Rattle.law_words_ends.specs.Below.server_msgs.declared.message.Message.TheVariants.{Moved}
use Rattle.law_words_ends.specs.Below.server_model.Servers.{Server, Cluster, server_at}
use Rattle.law_words_ends.specs.Below.server_model.Work.{Hand, thread_in, with_phase}
use Rattle.law_words_ends.specs.Below.server_model.NewWords.{can_grow}
use Rattle.law_words_ends.specs.Below.server_model.Places.{in_slot, pointer_of}
use Rattle.law_words_ends.specs.Below.server_model.Objects.{chased, waits_under, arrived_at, arrived_lend, arrived, instr_access}
use Rattle.law_words_ends.specs.Below.coherent_memory.Names.{Among, tot, one, same_object}
use Rattle.law_words_ends.specs.Below.coherent_memory.Things.{Location, at_slot, in_cell, Thing, lies, stands, thread_things, things_of}
use Rattle.law_words_ends.specs.Below.coherent_memory.Follow.{Standing, Ground, threads_in, cell_of, value_in, value_behind, leads, locate}
use Rattle.law_words_ends.specs.Below.coherent_memory.Paths.{Path, lends, path_of, Awaited, to_write}
use Rattle.law_words_ends.specs.Below.coherent_memory.Placing.{is_word_of, same_words, shared_words}
use Rattle.law_words_ends.specs.Below.coherent_memory.Sight.{Pointer, pointers_in, taken_pointers, word, sight}
use Rattle.law_words_ends.specs.Below.coherent_memory.Stale.{one_star_less}
use Rattle.law_words_ends.specs.Below.coherent_memory.Turn.{InTurn, by_lend, AwaitsAt, before_lend, at_lend, IsAsked}
use Rattle.law_words_ends.specs.Below.coherent_memory.Walking.{path}
use Rattle.law_words_ends.specs.Below.coherent_memory.Words.{IsStale, HasWords}
use Rattle.law_words_ends.proofs.Below.coherent_memory.Bags.{among_split}
use Rattle.law_words_ends.proofs.Below.coherent_memory.Passing.{paths_law}
use Rattle.law_words_ends.proofs.Below.coherent_memory.Words.{none_at, named, words_law}
use Rattle.law_words_ends.specs.Below.coherent_types.ClusterTypes.{IsCoherent}
use Rattle.law_words_ends.specs.Below.law_counts_sums.Laws.{Gives, FewEvents}
use Rattle.law_words_ends.specs.Below.law_words_paths.paths.HeapStore.{GoesOn, HasPaths}
use Rattle.law_words_ends.specs.Below.law_words_paths.paths.Pointing.{MayWrite, lends as lends_to}
use Rattle.law_words_ends.proofs.Below.law_words_paths.paths.Alike.{leads_in_heap, heap_of_shown, cell_there}
use Rattle.law_words_ends.proofs.Below.law_words_paths.paths.MayWrites.{may_write_there}
use Rattle.law_words_ends.proofs.Below.law_words_paths.paths.Origins.{among_first, among_second}
use Rattle.law_words_ends.proofs.Below.law_words_paths.paths.Shown.{stands_there}
use Rattle.law_words_ends.proofs.Below.law_words_paths.paths.Sole.{some_is}
use Rattle.law_words_ends.specs.Below.law_words_kept.reads.Reading.{Reads, lends as lends_from}
use Rattle.law_words_ends.proofs.Below.law_results_reads.Mutables.{apart}
use Rattle.law_words_ends.specs.Below.law_words_paths.words.PutBack.{LeadsHome}
use Rattle.law_words_ends.specs.Below.law_words_paths.words.Reworded.{is_loose, HasPlaces}
use Rattle.law_words_ends.specs.Below.law_words_paths.words.Soles.{IsSole}
use Rattle.law_words_ends.specs.Below.law_words_paths.words.Unmoved.{Taking, taking_by, taking_of, takings}
use Rattle.law_words_ends.proofs.Below.law_words_paths.words.Alone.{written_are_sole}
use Rattle.law_words_ends.proofs.Below.law_words_paths.words.Past.{are_no_firsts}
use Rattle.law_words_ends.proofs.Below.law_words_paths.words.Put.{Split, put_split}
use Rattle.law_words_ends.proofs.Below.law_words_paths.words.Standing.{CellOf, lying, flying, cell_among, pointer_at, told}
use Rattle.law_words_ends.specs.Below.law_words_kept.moves.Relaid.{Relaid}
use Rattle.law_words_ends.proofs.Below.law_words_kept.prepared.Rising.{rise_itself}
use Rattle.law_words_ends.proofs.Below.law_words_kept.prepared.Hands.{put, places, stands as stands_here}
use Rattle.law_words_ends.proofs.Below.law_words_asked.writes.Passing.{Fits, same_values}
use Rattle.law_words_ends.specs.Below.law_words_asked.arrivals.Awaited.{Awaits}
use Rattle.law_words_ends.proofs.Below.law_words_asked.arrivals.Arrived.{arrivals_reword}
use Rattle.law_words_ends.specs.Below.law_words_asked.awaited.TakenUp.{TakenUp}
use Rattle.law_words_ends.proofs.Below.law_words_asked.awaited.Landing.{before, landed, paths, on, new, landed_ok, begun_places, arrival, home, slot_stands, untaken, phase_ok}
use Rattle.law_words_ends.proofs.Below.law_words_asked.awaited.Behind.{IsPointer, pointed}
use Rattle.law_words_ends.proofs.Below.law_words_asked.awaited.Chasing.{chased_on}
use Rattle.law_words_ends.proofs.Below.law_words_asked.awaited.ReadArrivals.{read_spent, SpentHop, aw, fresh_at, m as slot_number, there, found_at}
use Rattle.law_words_ends.proofs.Below.law_words_asked.awaited.TakingUp.{taking_keeps}
use Rattle.law_copies_writes.specs.arrivals.Landed.{BorrowArrivalsKeepCopies}
use Rattle.law_copies_kept.proofs.hidden.Reworded.{NotAsked}
use Rattle.law_copies_writes.proofs.arrivals.Beyond.{none_wanted}
use Rattle.law_copies_writes.proofs.arrivals.Owners.{unasked_lent}
use Rattle.law_copies_writes.proofs.arrivals.Delivery.{Kept, its_cell, delivered}
use Rattle.law_copies_writes.proofs.arrivals.ReadArrivals.{gets}
use Rattle.law_copies_writes.proofs.arrivals.Taken.{taken_settles}
use Rattle.law_words_ends.proofs.Below.law_words_asked.awaited.Turns.{same_takings, takes_on, takes_there, takes_back, threads_before, threads_after}

-- WHAT A MUTABLE BORROW WAITS FOR

-- the object of a dirty reference on the way, or that of its last pointer
data Which (k : Cluster) (x : Standing) (w : Lval) (a : Awaited) : Type 0 where
  on_the_way : (h : SpentHop k x w a) → suc h.stars < w.depth → Which k x w a
  at_last : (e : ℕ) → suc e ≡ w.depth → IsAsked (sight k) x w e to_write a → Which k x w a

same_lend : {v w : Lval} → lends v ≡ lends w → v ≡ w
same_lend e = cc

which_at : (k : Cluster) (x : Standing) (a : Awaited) → a.comes ≡ true → (p : Path) (w : Lval) (e : ℕ) → p ≡ lends w → AwaitsAt (sight k) x p e a → Which k x w a
which_at k x a comes _ w e is (before_lend v _ _ lt q) =
    subst (λ z. Which k x z a) (same_lend is)
    (on_the_way
    (record {
      stars = e;
      within = omega (arith, lt);
      location = q.location;
      located = paths_law.locates (sight k).ground x.thread.number v.slot e q.location q.hop.path;
      value = q.value;
      stands = q.hop.stands;
      spent = read_spent (sight k).options.colours q.value a q.asked comes;
    }) lt)
which_at k x a comes _ w e is (at_lend v _ _ last q) = subst (λ z. Which k x z a) (same_lend is) (at_last e last q)
which_at k x a comes _ w e is _ = absurd (cc is)

which : (k : Cluster) (x : Standing) (a : Awaited) → a.comes ≡ true → (old : ℕ) (w : Lval) (p : Path) → p ≡ lends w → InTurn (sight k) x old a p → Which k x w a
which k x a comes old w _ is (by_lend v f) = which_at k x a comes (lends v) w f.number is f.at
which k x a comes old w _ is _ = absurd (cc is)

waits_is : (old : ℕ) (o : Option Value) → waits_under old o ≡ true → (r : MutRef) × (o ≡ Some (value.Mut r)) × (r.word ≡ old)
waits_is old (Some (value.Mut r)) e = (r, refl, eqb-true r.word old e)
waits_is old None e = absurd (cc e)
waits_is old (Some (value.Own u)) e = absurd (cc e)
waits_is old (Some value.Gone) e = absurd (cc e)
waits_is old (Some (value.SharedSlot j)) e = absurd (cc e)
waits_is old (Some (value.MutSlot j)) e = absurd (cc e)
waits_is old (Some (value.Shared r)) e = absurd (cc e)
waits_is old (Some (value.Held m)) e = absurd (cc e)

-- a pointer of a value, at its location
placed_pointer : (l : Location) (v : Value) (a : Awaited) (p : BoxPtr) → Among a (to_write (Some v)) → pointer_of v ≡ Some p → Among (record { at = Some l; word = p.word; object = p.object }) (pointer_at l v)
placed_pointer l (value.Own (owned.Box b)) a p m e = inl (ap (λ (q : BoxPtr). record { at = Some l; word = q.word; object = q.object }) (some_is e))
placed_pointer l (value.Mut r) a p m e = inl (ap (λ (q : BoxPtr). record { at = Some l; word = q.word; object = q.object }) (some_is e))
placed_pointer l (value.Own owned.Nothing) a p m e = absurd m
placed_pointer l (value.Own owned.Unit) a p m e = absurd m
placed_pointer l (value.Own (owned.Int n)) a p m e = absurd m
placed_pointer l (value.Own (owned.Mutex n)) a p m e = absurd m
placed_pointer l (value.Own (owned.Task n)) a p m e = absurd m
placed_pointer l value.Gone a p m e = absurd m
placed_pointer l (value.SharedSlot j) a p m e = absurd m
placed_pointer l (value.MutSlot j) a p m e = absurd m
placed_pointer l (value.Shared r) a p m e = absurd m
placed_pointer l (value.Held n) a p m e = absurd m

-- OBJECTS WITH ONE WORD ARE ONE

module _ (k : Cluster) (coherent : IsCoherent k) where
  -- the object has a cell, and a pointer that isn't stale with that word
  record HasWord (o : ObjNo) (v : ℕ) : Type 0 where
    cell : Cell
    found : cell_of (sight k).ground.cells o ≡ Some cell
    location : Location
    fresh : IsStale (sight k) (Some location) → ⊥
    among : Among (record { at = Some location; word = v; object = o }) (pointers_in (things_of k))

  told_so : (o : ObjNo) (v : ℕ) → HasWord o v → word (sight k) o ≡ Some v
  told_so o v h =
      let words = coherent.sound.words.have_words in
      let p : Pointer = record { at = Some h.location; word = v; object = o } in
      let there = among_first p (pointers_in (things_of k)) (taken_pointers (sight k).code (sight k).ground (sight k).ground.threads) h.among in
      let same : v ≡ words.word o = ⊎_elim (λ (s : IsStale (sight k) (Some h.location)). absurd (h.fresh s)) (λ (e : v ≡ words.word o). e) (words.same p there) in
      words_law.first_tells k words o (record { pointer = p; among = there; object = refl; fresh = h.fresh }) ∙ ap (λ z. Some z) (sym same)

  no_other : (b : Bool) (u v : Option ℕ) (n : ℕ) → u ≡ Some n → v ≡ Some n → one (not b && is_word_of u v) ≡ 0 → b ≡ true
  no_other true u v n p q z = refl
  no_other false u v n p q z =
      let both : is_word_of u v ≡ true = rw p (rw q (eq-eqb n n refl)) in
      let wrong : one (true && is_word_of u v) ≡ 1 = rw both refl in
      absurd (omega (arith, z, wrong))

  one_object : (o p : ObjNo) (v : ℕ) → HasWord o v → HasWord p v → p ≡ o
  one_object o p v h i =
      let x = cell_among o h.cell (things_of k) h.found in
      let y = cell_among p i.cell (things_of k) i.found in
      let all : tot (shared_words (sight k)) (things_of k) ≡ 0 = coherent.sound.words.different_words in
      let mine = shared x.thing x.is (none_at (shared_words (sight k)) x.thing (things_of k) all x.among) in
      let its = none_at (same_words (sight k) (word (sight k) h.cell.object) h.cell.object) y.thing (things_of k) mine y.among in
      sym y.object ∙ named i.cell.object h.cell.object (same y.thing y.is (ap (word (sight k)) x.object ∙ told_so o v h) (ap (word (sight k)) y.object ∙ told_so p v i) its) ∙ x.object
    where
      shared : (z : Thing) → CellOf h.cell z → shared_words (sight k) z ≡ 0 → tot (same_words (sight k) (word (sight k) h.cell.object) h.cell.object) (things_of k) ≡ 0
      shared _ (lying r a) e = e
      shared _ (flying u) e = e

      same : (z : Thing) → CellOf i.cell z → word (sight k) h.cell.object ≡ Some v → word (sight k) i.cell.object ≡ Some v → same_words (sight k) (word (sight k) h.cell.object) h.cell.object z ≡ 0 → same_object i.cell.object h.cell.object ≡ true
      same _ (lying r a) f g e = no_other (same_object i.cell.object h.cell.object) (word (sight k) i.cell.object) (word (sight k) h.cell.object) v g f e
      same _ (flying u) f g e = no_other (same_object i.cell.object h.cell.object) (word (sight k) i.cell.object) (word (sight k) h.cell.object) v g f e

-- THE DELIVERY

module _ (k : Cluster) (coherent : IsCoherent k) (few : FewEvents k) (s : Server) (here : server_at k.servers s.rest.number ≡ Some s) (t : ℕ) (y : ThreadState) (at : thread_in s.threads t ≡ Some y) (i old : ℕ) (c : Cell) (message_there : slice_get s.rest.inbox i ≡ Some (Moved old c t))
    (waiting : y.phase ≡ phase.WaitCell old) (grows : can_grow s.rest.partition ≡ true) (w : Lval) (code : slice_get k.code y.pc ≡ Some (instr.BorrowMut w)) where
  abbrev n : ℕ
  n = s.rest.number

  abbrev me : Standing
  me = record { server = n; packed = false; thread = y }

  abbrev g : Ground
  g = (sight k).ground

  abbrev cp : HasPaths k
  cp = paths k coherent few s here t y at i old c message_there waiting grows

  abbrev goes : GoesOn k me
  goes = on k coherent few s here t y at i old c message_there waiting grows

  abbrev O : Hand → Type 0
  O = Fits k coherent s here t y at

  abbrev P : Hand → Cluster
  P = put k coherent s here t y at

  abbrev K : Hand → Type 0
  K = Kept k coherent few s here t y at i old c message_there

  abbrev words : HasWords (sight k)
  words = coherent.sound.words.have_words

  abbrev fresh_new : ℕ
  fresh_new = new_word s.rest.partition

  abbrev h1 : Hand
  h1 = landed k coherent few s here t y at i old c message_there

  abbrev waits : Awaits k me old c
  waits = aw k coherent few s here t y at i old c message_there waiting grows

  may : MayWrite k cp.types me w
  may = may_write_there k cp me goes (instr.BorrowMut w) w code lends_to

  lends_it : (e : ℕ) → e < w.depth → Reads (instr.BorrowMut w) w (w.depth - 1)
  lends_it e lt = lends_from (omega (arith, lt))

  fresh_there : (e : ℕ) (l : Location) → e < w.depth → locate g y.number w.slot e ≡ Some l → IsStale (sight k) (Some l) → ⊥
  fresh_there e l lt located = fresh_at k coherent few s here t y at i old c message_there waiting grows (instr.BorrowMut w) code w (w.depth - 1) (lends_it e lt) e l lt located

  -- a pointer that the place follows to an object, with its word
  has_word : (e : ℕ) (l : Location) (v : Value) (b : BoxPtr) → e < w.depth → locate g y.number w.slot e ≡ Some l → value_in g l ≡ Some v → leads y.number (Some v) ≡ Some (in_cell b.object) → Among (record { at = Some l; word = b.word; object = b.object }) (pointer_at l v)
      → HasWord k coherent b.object b.word
  has_word e l v b lt located shows to pointer =
      let next : locate g y.number w.slot (suc e) ≡ Some (in_cell b.object) = ap (λ o. leads y.number (value_behind g o)) located ∙ ap (leads y.number) shows ∙ to in
      let shown = leads_in_heap k cp me goes w.slot (suc e) (in_cell b.object) next in
      let there = heap_of_shown k cp me goes b.object shown.1 in
      let d = cell_there k cp me goes b.object there.0 there.1 in
      record { cell = d.0; found = d.1; location = l; fresh = fresh_there e l lt located; among = told k l v (record { at = Some l; word = b.word; object = b.object }) shows pointer }

  -- THE LAST POINTER

  module _ (e : ℕ) (last : suc e ≡ w.depth) (q : IsAsked (sight k) me w e to_write waits.awaited) where
    abbrev l : Location
    l = q.location

    its : IsPointer q.value waits.awaited
    its = pointed q.value waits.awaited q.asked

    located : locate g y.number w.slot e ≡ Some l
    located = paths_law.locates g y.number w.slot e l q.hop.path

    lt : e < w.depth
    lt = omega (arith, last)

    leads_l : leads y.number (value_in g l) ≡ Some (in_cell c.object)
    leads_l = ap (leads y.number) q.hop.stands ∙ its.leads_there y.number ∙ ap (λ o. Some (in_cell o)) waits.object

    at_end : locate g y.number w.slot w.depth ≡ Some (in_cell c.object)
    at_end = subst (λ m. locate g y.number w.slot m ≡ Some (in_cell c.object)) last (ap (λ o. leads y.number (value_behind g o)) located ∙ leads_l)

    fresh_l : IsStale (sight k) (Some l) → ⊥
    fresh_l = fresh_there e l lt located

    sole_l : IsSole k l c.object
    sole_l = written_are_sole k cp me w l c.object goes may (record { stars = e; last = sym last; pointer = located; leads = at_end }) fresh_l

    -- nobody has asked for a copy of the object
    wanted : NotAsked k words c.object
    wanted = none_wanted k words c.object (unasked_lent k coherent cp me goes old waiting w code may c.object c refl (its_cell k coherent few s here t y at i old c message_there) at_end)

    -- no reference on the way has its word
    other_words : (j m : ℕ) (r : MutRef) → suc j < w.depth → locate g y.number w.slot j ≡ Some (at_slot y.number m) → slice_get y.slots m ≡ Some (value.Mut r) → r.word ≡ old → ⊥
    other_words j m r less there_j slot word_is =
        let stands_r = slot_stands k coherent few s here t y at i old c message_there waiting grows m (value.Mut r) slot in
        let b : BoxPtr = record { word = r.word; object = r.object } in
        let lj : j < w.depth = omega (arith, less) in
        let one = has_word j (at_slot y.number m) (value.Mut r) b lj there_j stands_r refl (inl refl) in
        let two = has_word e l q.value its.pointer lt located q.hop.stands (its.leads_there y.number ∙ ap (λ o. Some (in_cell o)) (sym its.object)) (placed_pointer l q.value waits.awaited its.pointer q.asked its.is) in
        let same_word : its.pointer.word ≡ r.word = its.word ∙ waits.word ∙ sym word_is in
        let same : r.object ≡ its.pointer.object = one_object k coherent its.pointer.object r.object r.word (subst (HasWord k coherent its.pointer.object) same_word two) one in
        let first : locate g y.number w.slot (suc j) ≡ Some (in_cell r.object) = ap (λ o. leads y.number (value_behind g o)) there_j ∙ ap (leads y.number) stands_r in
        let second : locate g y.number w.slot w.depth ≡ Some (in_cell r.object) = at_end ∙ ap (λ o. Some (in_cell o)) (sym (same ∙ its.object ∙ waits.object)) in
        apart k cp me goes w.slot w.depth may.base may.boxes may.type may.resolves (suc j) w.depth less (omega arith) (in_cell r.object) first second

    -- THE THREAD TAKES THE OBJECT

    abbrev h2 : Hand
    h2 = with_phase (phase.Taken fresh_new) h1

    abbrev y2 : ThreadState
    y2 = record y { phase = phase.Taken fresh_new }

    abbrev tk : Taking
    tk = record { thread = y.number; place = w; word = fresh_new }

    ok1 : O h1
    ok1 = landed_ok k coherent few s here t y at i old c message_there waiting grows

    ok2 : O h2
    ok2 = phase_ok k coherent few s here t y at i old c message_there waiting grows (phase.Taken fresh_new) h1 ok1

    relaid : Relaid k (P h1) c.object
    relaid = arrivals_reword.relays k s i old t (s.events + 1) c h1 (arrival k coherent few s here t y at i old c message_there waiting grows)

    split : Split (things_of (P h1)) (things_of (P h2)) (thread_things n false y) (thread_things n false y2)
    split = put_split k n s.threads (s.events + 1) h1 h2 (stands_here k coherent s here t y at h1 ok1) refl refl

    -- what isn't the thread itself is there in both
    across : (x : Thing) → Among x (things_of (P h1)) → (stands n false y ≡ x) ⊎ Among x (things_of (P h2))
    across x m =
        ⊎_elim
        (λ (f : Among x (split.left ++ thread_things n false y)).
        ⊎_elim (λ (z : Among x split.left). inr (into (among_first x (split.left ++ thread_things n false y2) split.right (among_first x split.left (thread_things n false y2) z)))) own (among_split x split.left (thread_things n false y) f))
        (λ (f : Among x split.right). inr (into (among_second x (split.left ++ thread_things n false y2) split.right f)))
        (among_split x (split.left ++ thread_things n false y) split.right (subst (λ l. Among x l) split.before m))
      where
        into : Among x (split.left ++ thread_things n false y2 ++ split.right) → Among x (things_of (P h2))
        into h = subst (λ l. Among x l) (sym split.after) h

        own : Among x (thread_things n false y) → (stands n false y ≡ x) ⊎ Among x (things_of (P h2))
        own (inl f) = inl f
        own (inr f) = inr (into (among_first x (split.left ++ thread_things n false y2) split.right (among_second x split.left (thread_things n false y2) (inr f))))

    back : (x : Thing) → Among x (things_of (P h2)) → (stands n false y2 ≡ x) ⊎ Among x (things_of (P h1))
    back x m =
        ⊎_elim
        (λ (f : Among x (split.left ++ thread_things n false y2)).
        ⊎_elim (λ (z : Among x split.left). inr (into (among_first x (split.left ++ thread_things n false y) split.right (among_first x split.left (thread_things n false y) z)))) own (among_split x split.left (thread_things n false y2) f))
        (λ (f : Among x split.right). inr (into (among_second x (split.left ++ thread_things n false y) split.right f)))
        (among_split x (split.left ++ thread_things n false y2) split.right (subst (λ l. Among x l) split.after m))
      where
        into : Among x (split.left ++ thread_things n false y ++ split.right) → Among x (things_of (P h1))
        into h = subst (λ l. Among x l) (sym split.before) h

        own : Among x (thread_things n false y2) → (stands n false y2 ≡ x) ⊎ Among x (things_of (P h1))
        own (inl f) = inl f
        own (inr f) = inr (into (among_first x (split.left ++ thread_things n false y) split.right (among_second x split.left (thread_things n false y) (inr f))))

    lies_back : (r a : ℕ) (d : Cell) → Among (lies r a d) (things_of (P h2)) → Among (lies r a d) (things_of (P h1))
    lies_back r a d m = ⊎_elim (λ (f : stands n false y2 ≡ lies r a d). absurd (cc f)) (λ (f : Among (lies r a d) (things_of (P h1))). f) (back (lies r a d) m)

    lies_on : (r a : ℕ) (d : Cell) → Among (lies r a d) (things_of (P h1)) → Among (lies r a d) (things_of (P h2))
    lies_on r a d m = ⊎_elim (λ (f : stands n false y ≡ lies r a d). absurd (cc f)) (λ (f : Among (lies r a d) (things_of (P h2))). f) (across (lies r a d) m)

    loose_back : (x : Thing) → Among x (things_of (P h2)) → is_loose x ≡ true → Among x (things_of (P h1))
    loose_back x m f = ⊎_elim (λ (e : stands n false y2 ≡ x). let no : false ≡ true = ap is_loose e ∙ f in absurd (cc no)) (λ (z : Among x (things_of (P h1))). z) (back x m)

    loose_on : (x : Thing) → Among x (things_of (P h1)) → is_loose x ≡ true → Among x (things_of (P h2))
    loose_on x m f = ⊎_elim (λ (e : stands n false y ≡ x). let no : false ≡ true = ap is_loose e ∙ f in absurd (cc no)) (λ (z : Among x (things_of (P h2))). z) (across x m)

    -- what threads have taken
    had : takings k.code (sight (P h1)).ground.threads ≡ takings k.code g.threads
    had = same_takings k.code g.threads (sight (P h1)).ground.threads relaid.turns

    none : taking_of k.code me ≡ None
    none = untaken k coherent few s here t y at i old c message_there waiting grows

    takes : taking_of k.code (record { server = n; packed = false; thread = y2 }) ≡ Some tk
    takes = ap (taking_by y.number (phase.Taken fresh_new)) code

    before_split : (sight (P h1)).ground.threads ≡ threads_in split.left ++ (me ∷ threads_in split.right)
    before_split = threads_before n y y2 split

    after_split : (sight (P h2)).ground.threads ≡ threads_in split.left ++ (record { server = n; packed = false; thread = y2 } ∷ threads_in split.right)
    after_split = threads_after n y y2 split

    abbrev ls : List Standing
    ls = threads_in split.left

    abbrev rs : List Standing
    rs = threads_in split.right

    abbrev me2 : Standing
    me2 = record { server = n; packed = false; thread = y2 }

    taken_up : TakenUp k (P h2) l c.object tk
    taken_up = record {
      code = refl;
      stands = λ x. same_values (P h1) (P h2) n y y2 refl refl refl split x ∙ relaid.stands x;
      taken = subst (λ xs. Among tk (takings k.code xs)) (sym after_split) (takes_there k.code me me2 tk none takes ls rs);
      takes = λ u m. ⊎_elim (λ (e : tk ≡ u). inl e) (λ (z : Among u (takings k.code (ls ++ (me ∷ rs)))). inr (subst (λ ts. Among u ts) had (subst (λ xs. Among u (takings k.code xs)) (sym before_split) z)))
          (takes_back k.code me me2 tk none takes ls rs u (subst (λ xs. Among u (takings k.code xs)) after_split m));
      took = λ u m. subst (λ xs. Among u (takings k.code xs)) (sym after_split)
          (takes_on k.code me me2 tk none takes ls rs u (subst (λ xs. Among u (takings k.code xs)) before_split (subst (λ ts. Among u ts) (sym had) m)));
      lent = subst (λ m. one_star_less g y.number w.slot m ≡ Some l) last located;
      place = at_end;
      loose = λ x m f. relaid.loose x (loose_back x m f) f;
      remain = λ x m f z. loose_on x (relaid.remain x m f z) f;
      server = home_there.server;
      address = home_there.address;
      lying = record { cell = home_there.lying.cell; among = lies_on home_there.server home_there.address home_there.lying.cell home_there.lying.among; object = home_there.lying.object };
      leads = λ r a d m f. home_there.leads r a d (lies_back r a d m) f;
      lay = λ r a d m f. relaid.lay r a d (lies_back r a d m) f;
    }
      where
        home_there : LeadsHome (P h1) (record { word = fresh_new; object = c.object })
        home_there = home k coherent few s here t y at i old c message_there waiting grows

    taken_so : K h2
    taken_so =
        let start : HasPlaces k = begun_places k coherent few s here t y at i old c message_there waiting grows in
        let end : HasPlaces (P h2) = places k coherent s here t y at h2 ok2 in
        let new_one = new k coherent few s here t y at i old c message_there waiting grows in
        let holds = taking_keeps k (P h2) l c.object tk start end taken_up sole_l fresh_l (are_no_firsts.unissued k c.object fresh_new coherent.sound.words.are_issued new_one) new_one (rise_itself k coherent.sound) in
        (taken_settles k (P h2) l c.object tk start end taken_up sole_l coherent.sound.words.first_at_holder words holds.has_words new_one wanted, end)

    -- its place has a star, and no reference on the way is waited for
    last_arrives : (d : ℕ) → w.depth ≡ d → Gives K (arrived_lend w.slot d old fresh_new h1)
    last_arrives zero f = absurd (omega (arith, last, f))
    last_arrives (suc zero) f = taken_so
    last_arrives (suc (suc d)) f = by (waits_under old (slice_get y.slots (chased d y.slots w.slot))) refl
      where
        by : (b : Bool) → waits_under old (slice_get y.slots (chased d y.slots w.slot)) ≡ b → Gives K (if b then arrived_at (in_slot (chased d y.slots w.slot)) fresh_new h1 else Some (with_phase (phase.Taken fresh_new) h1))
        by false e2 = taken_so
        by true e2 =
            let r = waits_is old (slice_get y.slots (chased d y.slots w.slot)) e2 in
            let j = chased_on g y.number me (stands_there k cp me goes) d w.slot 0 w.slot refl in
            absurd (other_words j.0 (chased d y.slots w.slot) r.0 (omega (arith, j.1, f)) j.2 r.1 r.2)

  -- A REFERENCE ON THE WAY

  way_arrives : (h : SpentHop k me w waits.awaited) → suc h.stars < w.depth → (d : ℕ) → w.depth ≡ d → Gives K (arrived_lend w.slot d old fresh_new h1)
  way_arrives h less zero f = tt
  way_arrives h less (suc zero) f = absurd (omega (arith, less, f))
  way_arrives h less (suc (suc d)) f =
      subst (λ q. Gives K (if waits_under old (slice_get y.slots q) then arrived_at (in_slot q) fresh_new h1 else Some (with_phase (phase.Taken fresh_new) h1))) (sym found)
      (subst (λ o. Gives K (if waits_under old o then arrived_at (in_slot m) fresh_new h1 else Some (with_phase (phase.Taken fresh_new) h1))) (sym slot_is)
      (subst (λ b. Gives K (if b then arrived_at (in_slot m) fresh_new h1 else Some (with_phase (phase.Taken fresh_new) h1))) (sym test) its_gets))
    where
      reads_it : Reads (instr.BorrowMut w) w (w.depth - 1)
      reads_it = lends_it h.stars h.within

      m : ℕ
      m = slot_number k coherent few s here t y at i old c message_there waiting grows (instr.BorrowMut w) code w (w.depth - 1) reads_it h

      found : chased d y.slots w.slot ≡ m
      found = found_at k coherent few s here t y at i old c message_there waiting grows (instr.BorrowMut w) code w (w.depth - 1) reads_it h d (omega (arith, less, f))

      slot_is : slice_get y.slots m ≡ Some (value.Mut h.spent.reference)
      slot_is = there k coherent few s here t y at i old c message_there waiting grows (instr.BorrowMut w) code w (w.depth - 1) reads_it h

      test : (h.spent.reference.word == old) ≡ true
      test = eq-eqb h.spent.reference.word old (h.spent.word ∙ waits.word)

      its_gets : Gives K (arrived_at (in_slot m) fresh_new h1)
      its_gets = gets k coherent few s here t y at i old c message_there waiting grows (instr.BorrowMut w) code w (w.depth - 1) reads_it h

  lend_arrives : Which k me w waits.awaited → Gives K (arrived_lend w.slot w.depth old fresh_new h1)
  lend_arrives (on_the_way h less) = way_arrives h less w.depth refl
  lend_arrives (at_last e last q) = last_arrives e last q w.depth refl

  pub arrives : Gives K (arrived (instr_access (before k coherent few s here t y at i old c message_there) (slice_get k.code y.pc)) old fresh_new h1)
  arrives =
      subst (λ o. Gives K (arrived (instr_access (before k coherent few s here t y at i old c message_there) o) old fresh_new h1)) (sym code)
      (lend_arrives (which k me waits.awaited waits.comes old w (path (sight k) me) (ap (λ b. path_of b y) code) waits.turn))

pub borrows_keep : BorrowArrivalsKeepCopies
borrows_keep k number i old t s c y w coherent few here message_there at code =
    delivered k number i old t s c y coherent few here message_there at (λ h waiting grows. arrives k coherent few s h t y at i old c message_there waiting grows w code)
