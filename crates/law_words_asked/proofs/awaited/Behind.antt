-- An object that comes to a write: the pointer of the next hop gets its word, in a slot or in a cell, behind hops that are passed and where nothing moves.
use Rattle.std.proofs.Common.{◌≡◌, ◌≤◌, ◌<◌, inl, inr, ℕ, zero, suc, ◌+◌, ◌==◌, nat_lt, Bool, true, false, if◌then◌else◌, List, [], ◌∷◌, ◌++◌, length, Option, Some, None, option_map, refl, sym, ap, subst, ◌∙◌, arith}
use Rattle.std.specs.Prelude.{⊤, slice_get, slice_set}
use Rattle.std.proofs.lemmas.List.{length-set, length-append}
use Rattle.law_words_asked.specs.Below.fr_base.declared.name.ObjNo.{ObjNo}
use Rattle.law_words_asked.specs.Below.fr_base.declared.place.Lval.{Lval}
use Rattle.law_words_asked.specs.Below.colour_retire.Colours.{rest_of}
use Rattle.law_words_asked.specs.Below.heap_partition.declared.value.BoxPtr.{BoxPtr}
use Rattle.law_words_asked.specs.Below.heap_partition.declared.value.Cell.{Cell}
use Rattle.law_words_asked.specs.Below.heap_partition.declared.value.Owned.{Owned}
use Rattle.law_words_asked.specs.Below.heap_partition.declared.value.Owned.TheVariants as owned
use Rattle.law_words_asked.specs.Below.mut_borrow.declared.mutable.MutRef.{MutRef}
use Rattle.law_words_asked.specs.Below.owner_box.View.{PartitionState}
use Rattle.law_words_asked.specs.Below.owner_box.Partition.{made, new_word, next_place, put_cell, stored}
use Rattle.law_words_asked.specs.Below.thread_state.View.{ThreadState}
use Rattle.law_words_asked.specs.Below.thread_state.declared.phase.Phase.TheVariants as phase
use Rattle.law_words_asked.specs.Below.thread_state.declared.value.Value.{Value}
use Rattle.law_words_asked.specs.Below.thread_state.declared.value.Value.TheVariants as value
use Rattle.law_words_asked.specs.Below.server_msgs.declared.message.Message.TheVariants as message
use Rattle.law_words_asked.specs.Below.server_model.Servers.{Rest, Server, Cluster, server_at}
use Rattle.law_words_asked.specs.Below.server_model.Work.{Hand, leads_here, look, receive, thread_in, working, with_partition, with_phase, with_slots, then_some}
use Rattle.law_words_asked.specs.Below.server_model.NewWords.{can_grow}
use Rattle.law_words_asked.specs.Below.server_model.Places.{Spot, in_slot, in_cell, value_in as cell_value, note_write, pointer_of, put_at, put_slot, set_pointer, with_word}
use Rattle.law_words_asked.specs.Below.server_model.Prepare.{Prepared, ready, requested, nothing, passing, write_stars}
use Rattle.law_words_asked.specs.Below.server_model.Objects.{passed_spot, arrived_at, arrived_write}
use Rattle.law_words_asked.specs.Below.coherent_memory.Names.{Among}
use Rattle.law_words_asked.specs.Below.coherent_memory.Things.{Location, at_slot, in_cell as in_object}
use Rattle.law_words_asked.specs.Below.coherent_memory.Follow.{Standing, Ground, cell_of, value_in, value_of, leads, locate}
use Rattle.law_words_asked.specs.Below.coherent_memory.Paths.{Awaited, to_write, written_place}
use Rattle.law_words_asked.specs.Below.coherent_memory.Sight.{sight}
use Rattle.law_words_asked.specs.Below.coherent_memory.Turn.{NextHop}
use Rattle.law_words_asked.specs.Below.coherent_memory.Walking.{path}
use Rattle.law_words_asked.specs.Below.coherent_memory.Words.{IsStale}
use Rattle.law_words_asked.proofs.Below.coherent_memory.Passing.{paths_law}
use Rattle.law_words_asked.specs.Below.coherent_types.ClusterTypes.{IsCoherent}
use Rattle.law_words_asked.specs.Below.law_counts_sums.Laws.{Gives, FewEvents}
use Rattle.law_words_asked.proofs.Below.law_words_paths.paths.Sole.{some_is}
use Rattle.law_words_asked.specs.Below.law_words_kept.reads.Reading.{LiesUnder}
use Rattle.law_words_asked.proofs.Below.law_words_kept.ends.Fresh.{writing, writes_are_fresh}
use Rattle.law_words_asked.proofs.Below.law_words_kept.stays.Steps.{TakesNoneHere}
use Rattle.law_words_asked.specs.Below.law_words_paths.words.Soles.{IsSole}
use Rattle.law_words_asked.proofs.Below.law_words_paths.words.Cells.{CellPut, cell_put, cells_reword}
use Rattle.law_words_asked.proofs.Below.law_words_paths.words.Tints.{SlotPut, word_put}
use Rattle.law_words_asked.proofs.Below.law_results_events.writes.Memory.{Leads, looks, made_leads, made_longer}
use Rattle.law_words_asked.proofs.Below.law_results_events.writes.Route.{Route, Hop, by_slot, by_reference, by_box, by_cell, Writing, begins, At, a_slot, a_cell, Fine, all_hops, rerouted}
use Rattle.law_words_asked.proofs.Below.law_results_events.writes.Routes.{road, roomy_at}
use Rattle.law_words_asked.proofs.Below.law_results_events.writes.Written.{IsFollowed, follows, short_place, may_pass, passed_lies}
use Rattle.law_words_asked.proofs.writes.Onward.{IsWritten}
use Rattle.law_words_asked.proofs.writes.Later.{Later, later_stored}
use Rattle.law_words_asked.proofs.writes.Passing.{Fits, State, passed}
use Rattle.law_words_asked.proofs.writes.Hops.{marked}
use Rattle.law_words_asked.proofs.awaited.Landing.{sane, landed, Kept, paths, on, untaken as none_taken, slot_there, slot_stands, set_ok, in_a_slot, in_a_cell, sole_gets, got}

-- A POINTER THAT A WRITE WAITS AT

-- a box or a mutable reference
pub record IsPointer (v : Value) (a : Awaited) : Type 0 where
  pub pointer : BoxPtr
  pub is : pointer_of v ≡ Some pointer
  pub word : pointer.word ≡ a.word
  pub object : pointer.object ≡ a.object
  pub leads_there : (t : ℕ) → leads t (Some v) ≡ Some (in_object a.object)

pub pointed : (v : Value) (a : Awaited) → Among a (to_write (Some v)) → IsPointer v a
pointed (value.Own (owned.Box p)) a (inl e) = let o : p.object ≡ a.object = ap (λ (q : Awaited). q.object) e in record { pointer = p; is = refl; word = ap (λ (q : Awaited). q.word) e; object = o; leads_there = λ t. ap (λ q. Some (in_object q)) o }
pointed (value.Own (owned.Box p)) a (inr m) = absurd m
pointed (value.Mut r) a (inl e) = let o : r.object ≡ a.object = ap (λ (q : Awaited). q.object) e in record { pointer = record { word = r.word; object = r.object }; is = refl; word = ap (λ (q : Awaited). q.word) e; object = o; leads_there = λ t. ap (λ q. Some (in_object q)) o }
pointed (value.Mut r) a (inr m) = absurd m
pointed (value.Own owned.Nothing) a m = absurd m
pointed (value.Own owned.Unit) a m = absurd m
pointed (value.Own (owned.Int n)) a m = absurd m
pointed (value.Own (owned.Mutex n)) a m = absurd m
pointed (value.Own (owned.Task n)) a m = absurd m
pointed value.Gone a m = absurd m
pointed (value.SharedSlot j) a m = absurd m
pointed (value.MutSlot j) a m = absurd m
pointed (value.Shared r) a m = absurd m
pointed (value.Held n) a m = absurd m

-- what is owned is one where it is a box
boxed_as : (u : Owned) (b : BoxPtr) → pointer_of (value.Own u) ≡ Some b → u ≡ owned.Box b
boxed_as (owned.Box q) b e = ap owned.Box (some_is e)
boxed_as owned.Nothing b e = absurd (cc e)
boxed_as owned.Unit b e = absurd (cc e)
boxed_as (owned.Int n) b e = absurd (cc e)
boxed_as (owned.Mutex n) b e = absurd (cc e)
boxed_as (owned.Task n) b e = absurd (cc e)

-- WHAT IS PASSED ISN'T SEEN where a pointer gets a word

passes_slot : (m nw q : ℕ) (h : Hand) → set_pointer (in_slot m) nw (passing q h) ≡ option_map (passing q) (set_pointer (in_slot m) nw h)
passes_slot m nw q h = by (slice_get h.thread.slots m)
  where
    tested : (b : Bool) (new : Value) → (if b then Some (with_slots (slice_set h.thread.slots m new) (passing q h)) else None) ≡ option_map (passing q) (if b then Some (with_slots (slice_set h.thread.slots m new) h) else None)
    tested true new = refl
    tested false new = refl

    put : (o : Option Value) → then_some o (λ new. put_slot m new (passing q h)) ≡ option_map (passing q) (then_some o (λ new. put_slot m new h))
    put None = refl
    put (Some new) = tested (nat_lt m (length h.thread.slots)) new

    by : (o : Option Value) → then_some o (λ v. then_some (with_word nw v) (λ new. put_slot m new (passing q h))) ≡ option_map (passing q) (then_some o (λ v. then_some (with_word nw v) (λ new. put_slot m new h)))
    by None = refl
    by (Some v) = put (with_word nw v)

passes_cell : (w : ℕ) (through : Option ℕ) (nw q : ℕ) (h : Hand) → set_pointer (in_cell w through) nw (passing q h) ≡ option_map (passing q) (set_pointer (in_cell w through) nw h)
passes_cell w through nw q h = by (cell_value (look h.work.rest.partition w))
  where
    with_it : Owned → Hand → Hand
    with_it u x = working (with_partition (stored h.work.rest.partition w u)) x

    noted : (r : Option ℕ) (u : Owned) → note_write r (with_it u (passing q h)) ≡ passing q (note_write r (with_it u h))
    noted None u = refl
    noted (Some j) u = refl

    tested : (b : Bool) (u : Owned) → (if b then Some (note_write through (with_it u (passing q h))) else None) ≡ option_map (passing q) (if b then Some (note_write through (with_it u h)) else None)
    tested true u = ap (λ x. Some x) (noted through u)
    tested false u = refl

    put : (o : Option Value) → then_some o (λ new. put_at (in_cell w through) new (passing q h)) ≡ option_map (passing q) (then_some o (λ new. put_at (in_cell w through) new h))
    put None = refl
    put (Some (value.Own u)) = tested (leads_here h.work.rest.partition w) u
    put (Some value.Gone) = refl
    put (Some (value.SharedSlot j)) = refl
    put (Some (value.MutSlot j)) = refl
    put (Some (value.Shared r)) = refl
    put (Some (value.Mut r)) = refl
    put (Some (value.Held m)) = refl

    by : (o : Option Value) → then_some o (λ v. then_some (with_word nw v) (λ new. put_at (in_cell w through) new (passing q h))) ≡ option_map (passing q) (then_some o (λ v. then_some (with_word nw v) (λ new. put_at (in_cell w through) new h)))
    by None = refl
    by (Some v) = put (with_word nw v)

-- WHERE AN OBJECT CAME, the partition is a later one

put_longer : (xs : List (Option Cell)) (a : ℕ) (c : Cell) → length xs ≤ length (put_cell xs a c)
put_longer xs a c = by (a == length xs)
  where
    by : (q : Bool) → length xs ≤ length (if q then xs ++ Some c ∷ [] else slice_set xs a (Some c))
    by true = omega (arith, length-append xs (Some c ∷ []))
    by false = omega (arith, length-set xs a (Some c))

rest_dropped : (xs : List (ℕ × ℕ)) → rest_of xs ≡ Rattle.std.specs.Prelude.drop 1 xs
rest_dropped [] = refl
rest_dropped (x ∷ xs) = refl

later_made : (p : PartitionState) (c : Cell) → Later p (made p c)
later_made p c = record { server = refl; limit = refl; longer = put_longer p.cells (next_place p).0 c; taken = 1; free = rest_dropped p.free }

-- a value put where it stands
set_it : {A : Type 0} (xs : List A) (m : ℕ) (a : A) → slice_get xs m ≡ Some a → slice_set xs m a ≡ xs
set_it [] m a e = refl
set_it (x ∷ xs) zero a e = ap (λ z. z ∷ xs) (sym (some_is e))
set_it (x ∷ xs) (suc m) a e = ap (λ l. x ∷ l) (set_it xs m a e)

-- no mark is put on what is no mutable reference
unmarked : (h : Hand) (m : ℕ) (v : Value) → slice_get h.thread.slots m ≡ Some v → Rattle.law_words_asked.specs.Below.server_model.Places.written v ≡ v → note_write (Some m) h ≡ h
unmarked h m v e same =
    ap (λ o. with_slots (Rattle.law_words_asked.specs.Below.server_model.Places.note_slot h.thread.slots m o) h) e
    ∙ ap (λ z. with_slots (slice_set h.thread.slots m z) h) same ∙ ap (λ l. with_slots l h) (set_it h.thread.slots m v e)

-- THE NEXT HOP

module _ (k : Cluster) (coherent : IsCoherent k) (few : FewEvents k) (s : Server) (here : server_at k.servers s.rest.number ≡ Some s) (t : ℕ) (y : ThreadState) (at : thread_in s.threads t ≡ Some y) (i old : ℕ) (c : Cell) (message_there : slice_get s.rest.inbox i ≡ Some (message.Moved old c t))
    (waiting : y.phase ≡ phase.WaitCell old) (grows : can_grow s.rest.partition ≡ true) (w : Lval) (writes : written_place (path (sight k) (record { server = s.rest.number; packed = false; thread = y })) ≡ Some w)
    (a : Awaited) (next : NextHop (sight k) (record { server = s.rest.number; packed = false; thread = y }) w a) (same_object : a.object ≡ c.object)
    (sole_at : (j : ℕ) (l : Location) (o : ObjNo) → j < w.depth → locate (sight k).ground y.number w.slot j ≡ Some l → leads y.number (value_in (sight k).ground l) ≡ Some (in_object o) → (IsStale (sight k) (Some l) → ⊥) → IsSole k l o) where
  abbrev n : ℕ
  n = s.rest.number

  abbrev me : Standing
  me = record { server = n; packed = false; thread = y }

  abbrev g : Ground
  g = (sight k).ground

  abbrev O : Hand → Type 0
  O = Fits k coherent s here t y at

  abbrev St : Hand → Type 0
  St = State k coherent s here t y at

  abbrev K : Hand → Type 0
  K = Kept k coherent few s here t y at i old c message_there

  abbrev P : PartitionState
  P = s.rest.partition

  abbrev new : ℕ
  new = new_word P

  abbrev h1 : Hand
  h1 = landed k coherent few s here t y at i old c message_there

  abbrev r2 : Rest
  r2 = record (receive s.rest i) { partition = made P c }

  abbrev C : ObjNo → Option Cell
  C = cell_of g.cells

  abbrev place : ℕ → Option Location
  place = locate g y.number w.slot

  abbrev path_types : Rattle.law_words_asked.specs.Below.law_words_paths.paths.HeapStore.HasPaths k
  path_types = paths k coherent few s here t y at i old c message_there waiting grows

  abbrev goes : Rattle.law_words_asked.specs.Below.law_words_paths.paths.HeapStore.GoesOn k me
  goes = on k coherent few s here t y at i old c message_there waiting grows

  untaken : TakesNoneHere k.code y
  untaken = none_taken k coherent few s here t y at i old c message_there waiting grows

  -- THE HOPS THAT ARE PASSED

  followed : IsFollowed k path_types me w
  followed = follows k path_types me goes w (writing k me w writes)

  short : w.depth ≤ 8
  short = short_place k path_types me goes coherent.sound.parts.holders_short w (writing k me w writes)

  within : y.passed ≤ w.depth
  within = let l = next.within in omega (arith, l)

  lies_so : (j : ℕ) → j < y.passed → (l : Location) (v : Value) (p : BoxPtr) → place j ≡ Some l → value_in g l ≡ Some v → pointer_of v ≡ Some p → LiesUnder k p
  lies_so j less l v p located stands pointer = passed_lies k coherent.sound.words.have_words n l v p stands pointer (may_pass k me goes coherent.sound.walks.have_passed w writes j less l v located stands)

  its_road : Route s.rest y C place y.passed
  its_road = road k coherent few n s here path_types y goes w writes short followed.base followed.boxes followed.type followed.resolves followed.unmarked y.passed within lies_so

  again : Route r2 y C place y.passed
  again =
      rerouted s.rest y C place y.passed its_road r2 refl y.slots y.temps (λ m j less located. refl) (λ j v d le located l. made_leads P c (sane k coherent few s here t y at i old c message_there) v d l) (λ less. absurd (omega (arith, less)))
      (let b = roomy_at k coherent few n s here in let e = made_longer P c in omega (arith, b, e, within, short))

  fine : Fine r2 y C place ⊥ y.passed (write_stars y.passed 0 h1 (in_slot w.slot))
  fine = all_hops r2 y C place ⊥ y.passed again (λ j less le. absurd (omega (arith, less, le))) y.passed 0 (omega arith) h1 (in_slot w.slot) (at_slot y.number w.slot) refl (a_slot w.slot) (begins r2 y C place h1 refl refl)

  fresh_at : (j : ℕ) (l : Location) → j < w.depth → place j ≡ Some l → IsStale (sight k) (Some l) → ⊥
  fresh_at j l lt located = writes_are_fresh k path_types me w j l goes writes lt located

  -- a mutable reference that is passed is the pointer through which its object is written
  passed_written : (j m : ℕ) (r : MutRef) → j < y.passed → place j ≡ Some (at_slot y.number m) → slice_get y.slots m ≡ Some (value.Mut r) → IsWritten k (at_slot y.number m) r.object
  passed_written j m r less located e =
      let stands = slot_stands k coherent few s here t y at i old c message_there waiting grows m (value.Mut r) e in
      let lt : j < w.depth = omega (arith, less, within) in
      let fresh = fresh_at j (at_slot y.number m) lt located in
      let u = lies_so j less (at_slot y.number m) (value.Mut r) (record { word = r.word; object = r.object }) located stands refl in
      record {
        sole = sole_at j (at_slot y.number m) r.object lt located (ap (leads y.number) stands) fresh;
        fresh = fresh;
        lies = record { server = u.server; address = u.address; there = record { cell = u.there.cell; among = u.there.among; object = u.there.object } };
      }

  -- THE POINTER AT WHICH THE THREAD WAITS

  value_so : (l : Location) → place y.passed ≡ Some l → value_in g l ≡ Some next.asked.value
  value_so l located =
      let same : next.asked.location ≡ l = some_is (sym (paths_law.locates g y.number w.slot y.passed next.asked.location next.asked.hop.path) ∙ located) in
      ap (value_in g) (sym same) ∙ next.asked.hop.stands

  its : IsPointer next.asked.value a
  its = pointed next.asked.value a next.asked.asked

  fresh_so : (l : Location) → place y.passed ≡ Some l → IsStale (sight k) (Some l) → ⊥
  fresh_so l located = fresh_at y.passed l next.within located

  sole_so : (l : Location) → place y.passed ≡ Some l → IsSole k l c.object
  sole_so l located =
      sole_at y.passed l c.object next.within located (ap (leads y.number) (value_so l located) ∙ its.leads_there y.number ∙ ap (λ o. Some (in_object o)) same_object) (fresh_so l located)

  -- the hand goes on from there
  goes_on : (h : Hand) → St h → K (with_phase phase.Got (passing (y.passed + 1) h))
  goes_on h st =
      let q = passed k coherent s here t y at (y.passed + 1) h st in
      got k coherent few s here t y at i old c message_there waiting grows (passing (y.passed + 1) h) q.ok q.untaken q.onward.words

  -- in a slot
  in_slots : (m : ℕ) → place y.passed ≡ Some (at_slot y.number m) → Gives K (arrived_at (in_slot m) new (passing (y.passed + 1) h1))
  in_slots m located = subst (λ o. Gives K (option_map (with_phase phase.Got) o)) (sym (passes_slot m new (y.passed + 1) h1)) (by (set_pointer (in_slot m) new h1) refl)
    where
      there : slice_get y.slots m ≡ Some next.asked.value
      there = slot_there k coherent few s here t y at i old c message_there waiting grows m next.asked.value (value_so (at_slot y.number m) located)

      by : (o : Option Hand) → set_pointer (in_slot m) new h1 ≡ o → Gives K (option_map (with_phase phase.Got) (option_map (passing (y.passed + 1)) o))
      by None e = tt
      by (Some h2) e =
          let ok = set_ok k coherent few s here t y at i old c message_there waiting grows h2 (in_slot m) e in
          let r = in_a_slot k coherent few s here t y at i old c message_there waiting grows m next.asked.value its.pointer h2 there its.is (its.object ∙ same_object) e in
          let q : SlotPut h1 h2 m new next.asked.value = word_put h1 h2 m new next.asked.value there e in
          goes_on h2 (record {
            ok = ok;
            onward = sole_gets k coherent few s here t y at i old c message_there waiting grows h2 (at_slot y.number m) ok (sole_so (at_slot y.number m) located) (fresh_so (at_slot y.number m) located) r;
            untaken = subst (λ x. TakesNoneHere k.code x) (sym q.thread) untaken;
          })

  -- in a cell: the reference that led straight there is marked
  module _ (b : ℕ) (q : Option ℕ) (o : ObjNo) (d : Cell) (leads_it : Leads (made P c) b d) (there : C o ≡ Some d) (object : d.object ≡ o) (located : place y.passed ≡ Some (in_object o)) where
    is : next.asked.value ≡ value.Own d.value
    is = some_is (sym (value_so (in_object o) located) ∙ ap value_of there)

    boxed : d.value ≡ owned.Box its.pointer
    boxed = boxed_as d.value its.pointer (ap pointer_of (sym is) ∙ its.is)

    found : look (made P c) b ≡ Some d
    found = looks (made P c) b d leads_it

    at_it : place y.passed ≡ Some (in_object d.object)
    at_it = located ∙ ap (λ x. Some (in_object x)) (sym object)

    both : set_pointer (in_cell b q) new h1 ≡ option_map (note_write q) (set_pointer (in_cell b None) new h1)
    both = cells_reword.in_two b q (record { word = new; work = h1.work }) h1

    module _ (h2 : Hand) (set : set_pointer (in_cell b None) new h1 ≡ Some h2) where
      put : CellPut h1 h2 b new its.pointer
      put = cell_put h1 h2 b new d its.pointer found boxed set

      ok2 : O h2
      ok2 = set_ok k coherent few s here t y at i old c message_there waiting grows h2 (in_cell b None) set

      st2 : St h2
      st2 = record {
        ok = ok2;
        onward =
            sole_gets k coherent few s here t y at i old c message_there waiting grows h2 (in_object d.object) ok2 (sole_so (in_object d.object) at_it) (fresh_so (in_object d.object) at_it)
            (in_a_cell k coherent few s here t y at i old c message_there waiting grows b d its.pointer h2 found boxed (its.object ∙ same_object) set);
        untaken = subst (λ x. TakesNoneHere k.code x) (sym put.thread) untaken;
      }

      later : Later P h2.work.rest.partition
      later = subst (Later P) (sym (ap (λ (x : Rest). x.partition) put.rest)) (later_stored P (made P c) b (owned.Box (record its.pointer { word = new })) (later_made P c))

      -- what stands in the slot of a hop behind
      slot_marked : (j m : ℕ) → j < y.passed → place j ≡ Some (at_slot y.number m) → O (note_write (Some m) h2) → St (note_write (Some m) h2)
      slot_marked j m less at_hop ok = by (at_slot y.number m) refl to.0 (its_road.hop j less (at_slot y.number m) to.0 at_hop to.1)
        where
          to : (l : Location) × (place (suc j) ≡ Some l)
          to = its_road.leads_there (suc j) (omega (arith, less))

          same_slot : {u v : ℕ} → at_slot y.number u ≡ at_slot y.number v → u ≡ v
          same_slot e = cc

          in_hand : (v : Value) → slice_get y.slots m ≡ Some v → slice_get h2.thread.slots m ≡ Some v
          in_hand v e = ap (λ (x : ThreadState). slice_get x.slots m) put.thread ∙ e

          as_it_was : (v : Value) → slice_get y.slots m ≡ Some v → Rattle.law_words_asked.specs.Below.server_model.Places.written v ≡ v → St (note_write (Some m) h2)
          as_it_was v e same = subst St (sym (unmarked h2 m v (in_hand v e) same)) st2

          by : (x : Location) → at_slot y.number m ≡ x → (z : Location) → Hop s.rest y C place j x z → St (note_write (Some m) h2)
          by _ f _ (by_slot m2 u e) = as_it_was (value.MutSlot u) (ap (slice_get y.slots) (same_slot f) ∙ e) refl
          by _ f _ (by_box m2 u e l) = as_it_was (value.Own (owned.Box u)) (ap (slice_get y.slots) (same_slot f) ∙ e) refl
          by _ f _ (by_reference m2 r e l) =
              let mine : slice_get y.slots m ≡ Some (value.Mut r) = ap (slice_get y.slots) (same_slot f) ∙ e in
              let written : IsWritten k (at_slot h2.thread.number m) r.object = subst (λ x. IsWritten k (at_slot x m) r.object) (sym (ap (λ (x : ThreadState). x.number) put.thread)) (passed_written j m r less at_hop mine) in
              (marked k coherent s here t y at h2 new (Some m) st2 later (r, in_hand (value.Mut r) mine, written) ok).state
          by _ f _ (by_cell u e p2 x z l) = absurd (cc f)

    -- a reference that led there stands in the slot of a hop that is passed
    abbrev Behind : Type 0
    Behind = (m : ℕ) → q ≡ Some m → (j : ℕ) × (j < y.passed) × (place j ≡ Some (at_slot y.number m))

    set_so : (o2 : Option Hand) → set_pointer (in_cell b None) new h1 ≡ o2 → Behind → Gives K (option_map (with_phase phase.Got) (option_map (passing (y.passed + 1)) (option_map (note_write q) o2)))
    set_so None e behind = tt
    set_so (Some h2) e behind = goes_on (note_write q h2) (by q refl)
      where
        ok3 : O (note_write q h2)
        ok3 = set_ok k coherent few s here t y at i old c message_there waiting grows (note_write q h2) (in_cell b q) (both ∙ ap (option_map (note_write q)) e)

        by : (z : Option ℕ) → q ≡ z → St (note_write z h2)
        by None f = st2 h2 e
        by (Some m) f = let u = behind m f in slot_marked h2 e u.0 m u.1 u.2 (subst (λ z. O (note_write z h2)) f ok3)

    in_cells : Behind → Gives K (arrived_at (in_cell b q) new (passing (y.passed + 1) h1))
    in_cells behind =
        subst (λ x. Gives K (option_map (with_phase phase.Got) x)) (sym (passes_cell b q new (y.passed + 1) h1 ∙ ap (option_map (passing (y.passed + 1))) both)) (set_so (set_pointer (in_cell b None) new h1) refl behind)

  -- where the hops end
  put_there : (h2 : Hand) (sp : Spot) (l : Location) → place y.passed ≡ Some l → At r2 y C place h2.work.rest.partition y.passed sp l → Writing r2 y C place y.passed h2 → Gives K (arrived_at sp new (passing (y.passed + 1) h1))
  put_there h2 _ _ located (a_slot m) w2 = in_slots m located
  put_there h2 _ _ located (a_cell b None o d leads_it there object behind) w2 = in_cells b None o d (subst (λ z. Leads z b d) (w2.unmoved (omega arith)) leads_it) there object located (λ m e. absurd (cc e))
  put_there h2 _ _ located (a_cell b (Some u) o d leads_it there object behind) w2 =
      in_cells b (Some u) o d (subst (λ z. Leads z b d) (w2.unmoved (omega arith)) leads_it) there object located (λ m e. subst (λ x. (j : ℕ) × (j < y.passed) × (place j ≡ Some (at_slot y.number x))) (some_is e) behind)

  pub write_arrives : Gives K (arrived_write w new h1)
  write_arrives = by (write_stars y.passed 0 h1 (in_slot w.slot)) fine
    where
      by : (x : Prepared) → Fine r2 y C place ⊥ y.passed x → Gives K (then_some (passed_spot x) (λ z. arrived_at z new (passing (y.passed + 1) h1)))
      by (ready h2 sp) f = put_there h2 sp f.0 f.1 f.2 f.3
      by (requested h2) f = absurd f
      by nothing f = absurd f
