-- An object that comes to a write: the pointer of the next hop gets a word that wasn't issued. Where it stands in a cell, no copy of that was under its word, as the box before it was passed; or the
-- mutable reference before it is marked.
use Rattle.std.proofs.Common.{◌≡◌, ◌≤◌, ◌<◌, ℕ, zero, suc, ◌+◌, ◌==◌, nat_lt, Bool, true, false, if◌then◌else◌, [], ◌++◌, length, Option, Some, None, option_map, refl, sym, ap, subst, ◌∙◌, arith}
use Rattle.std.specs.Prelude.{slice_get, slice_set}
use Rattle.std.proofs.lemmas.Bool.{eq-eqb}
use Rattle.std.proofs.lemmas.Bool.Decides.{nat_tests}
use Rattle.law_words_ends.specs.Below.fr_base.declared.name.ObjNo.{ObjNo}
use Rattle.law_words_ends.specs.Below.fr_base.declared.place.Lval.{Lval}
use Rattle.law_words_ends.specs.Below.global_addr.Words.{server_of}
use Rattle.law_words_ends.specs.Below.heap_partition.declared.value.BoxPtr.{BoxPtr}
use Rattle.law_words_ends.specs.Below.heap_partition.declared.value.Cell.{Cell}
use Rattle.law_words_ends.specs.Below.heap_partition.declared.value.Owned.{Owned}
use Rattle.law_words_ends.specs.Below.heap_partition.declared.value.Owned.TheVariants as owned
use Rattle.law_words_ends.specs.Below.mut_borrow.declared.mutable.MutRef.{MutRef}
use Rattle.law_words_ends.specs.Below.owner_box.View.{PartitionState}
use Rattle.law_words_ends.specs.Below.owner_box.Partition.{made, new_word, stored}
use Rattle.law_words_ends.specs.Below.place_walk.Hops.{write_hop}
use Rattle.law_words_ends.specs.Below.place_walk.declared.hop.Hop.TheVariants as jump
use Rattle.law_words_ends.specs.Below.thread_state.View.{ThreadState}
use Rattle.law_words_ends.specs.Below.thread_state.declared.phase.Phase.TheVariants as phase
use Rattle.law_words_ends.specs.Below.thread_state.declared.value.Value.{Value}
use Rattle.law_words_ends.specs.Below.thread_state.declared.value.Value.TheVariants as value
use Rattle.law_words_ends.specs.Below.server_msgs.declared.message.Message.TheVariants as message
use Rattle.law_words_ends.specs.Below.server_model.Servers.{Rest, Server, Cluster, server_at}
use Rattle.law_words_ends.specs.Below.server_model.Work.{Hand, leads_here, look, receive, thread_in, without_thread, working, with_partition, with_phase, with_slots, then_some}
use Rattle.law_words_ends.specs.Below.server_model.NewWords.{can_grow}
use Rattle.law_words_ends.specs.Below.server_model.Places.{Spot, in_slot, in_cell, value_in as cell_value, value_at, load_at, note_slot, note_write, pointer_of, put_at, put_slot, set_pointer, with_word}
use Rattle.law_words_ends.specs.Below.server_model.Prepare.{Prepared, ready, requested, nothing, box_of, passing, and_then, pass_by, write_by, write_value, write_stars, write_star}
use Rattle.law_words_ends.specs.Below.server_model.Objects.{passed_spot, arrived_at, arrived_write}
use Rattle.law_words_ends.specs.Below.coherent_memory.Names.{Among}
use Rattle.law_words_ends.specs.Below.coherent_memory.Things.{Location, at_slot, in_cell as in_object, servers_things, things_of}
use Rattle.law_words_ends.specs.Below.coherent_memory.Follow.{Standing, Ground, cell_of, cells_in, value_in, value_behind, value_of, leads, locate}
use Rattle.law_words_ends.specs.Below.coherent_memory.Passing.{IsPassed, NotCopied, MayPass, over_box, over_reference, to_slot, to_lent_slot}
use Rattle.law_words_ends.specs.Below.coherent_memory.Paths.{Path, writes as writes_to_it, ends, Awaited, written_place}
use Rattle.law_words_ends.specs.Below.coherent_memory.Sight.{Sight, sight, issued}
use Rattle.law_words_ends.specs.Below.coherent_memory.Turn.{NextHop}
use Rattle.law_words_ends.specs.Below.coherent_memory.Walking.{path}
use Rattle.law_words_ends.specs.Below.coherent_memory.Words.{IsStale, HasWords}
use Rattle.law_words_ends.proofs.Below.coherent_memory.Passing.{paths_law}
use Rattle.law_words_ends.specs.Below.coherent_types.ClusterTypes.{IsCoherent}
use Rattle.law_words_ends.specs.Below.law_counts_sums.Laws.{Gives, FewEvents}
use Rattle.law_words_ends.specs.Below.law_words_paths.paths.HeapStore.{GoesOn, HasPaths}
use Rattle.law_words_ends.proofs.Below.law_words_paths.paths.Sole.{some_is}
use Rattle.law_words_ends.specs.Below.law_words_kept.reads.Reading.{LiesUnder}
use Rattle.law_words_ends.proofs.Below.law_words_kept.reads.Homes.{fresh_word}
use Rattle.law_words_ends.proofs.Below.law_words_kept.reads.OwnChains.{OwnObject, comes_own}
use Rattle.law_words_ends.proofs.Below.law_words_kept.ends.Fresh.{writing, writes_are_fresh}
use Rattle.law_words_ends.proofs.Below.law_results_reads.Made.{OwnedBy}
use Rattle.law_words_ends.proofs.Below.law_results_reads.Mutables.{apart}
use Rattle.law_words_ends.proofs.Below.law_words_kept.stays.Alike.{itself}
use Rattle.law_words_ends.proofs.Below.law_words_kept.stays.Servers.{held_if}
use Rattle.law_words_ends.proofs.Below.law_words_kept.stays.Steps.{TakesNoneHere}
use Rattle.law_words_ends.proofs.Below.law_words_kept.stays.Threads.{slots_of, temps_of, thread_alike}
use Rattle.law_words_ends.proofs.Below.law_counts_sums.Bags.{all_standing, body_things}
use Rattle.law_words_ends.proofs.Below.law_counts_sums.Events.{others_of}
use Rattle.law_words_ends.proofs.Below.law_counts_sums.RulesKeep.{sums_kept}
use Rattle.law_words_ends.proofs.Below.law_counts_sums.ObjectMessages.{passes}
use Rattle.law_words_ends.specs.Below.law_words_paths.words.Reworded.{HasPlaces, Reworded}
use Rattle.law_words_ends.specs.Below.law_words_paths.words.Soles.{IsSole, IsOnly}
use Rattle.law_words_ends.specs.Below.law_words_paths.words.WordsAfter.{Rewrites}
use Rattle.law_words_ends.proofs.Below.law_words_paths.words.Cells.{CellPut, cell_put, cells_reword}
use Rattle.law_words_ends.proofs.Below.law_words_paths.words.Marks.{mark_rewords}
use Rattle.law_words_ends.proofs.Below.law_words_paths.words.Only.{are_only}
use Rattle.law_words_ends.proofs.Below.law_words_paths.words.Outlines.{soles_stay}
use Rattle.law_words_ends.proofs.Below.law_words_paths.words.Slots.{set_same}
use Rattle.law_words_ends.proofs.Below.law_words_paths.words.Tints.{SlotPut, word_put, slot_stands as hand_stands}
use Rattle.law_words_ends.proofs.Below.law_words_paths.words.Words.{words_go_on, fresh_go_on}
use Rattle.law_words_ends.proofs.Below.law_results_events.writes.Memory.{Leads, looks, made_leads, made_longer}
use Rattle.law_words_ends.proofs.Below.law_results_events.writes.Route.{Route, Hop, by_slot, by_reference, by_box, by_cell, LeadsBy, rerouted}
use Rattle.law_words_ends.proofs.Below.law_results_events.writes.Routes.{road, roomy_at}
use Rattle.law_words_ends.proofs.Below.law_results_events.writes.Written.{IsFollowed, follows, short_place, may_pass, passed_lies}
use Rattle.law_words_ends.proofs.Below.law_words_kept.prepared.Hands.{put, places, stands as stands_here}
use Rattle.law_words_ends.proofs.Below.law_words_asked.writes.Onward.{IsWritten}
use Rattle.law_words_ends.proofs.Below.law_words_asked.writes.Passing.{Fits, State}
use Rattle.law_words_ends.proofs.Below.law_words_asked.writes.Hops.{home_now}
use Rattle.law_words_ends.specs.Below.law_words_asked.arrivals.Awaited.{Awaits}
use Rattle.law_copies_kept.proofs.objects.Turned.{Unasked}
use Rattle.law_words_ends.proofs.Below.law_words_asked.awaited.Landing.{sane, landed, paths, on, awaits, new as unissued, untaken as none_taken, slot_there, slot_stands, set_ok, in_a_slot, in_a_cell, sole_gets}
use Rattle.law_words_ends.proofs.Below.law_words_asked.awaited.Behind.{IsPointer, pointed}
use Rattle.law_copies_kept.proofs.hidden.Settled.{Settled}
use Rattle.law_copies_kept.proofs.hidden.Reworded.{NotAsked}
use Rattle.law_copies_writes.proofs.arrivals.Beyond.{none_wanted, cell_standing, lands_in_box, lands_through}
use Rattle.law_copies_writes.proofs.arrivals.Owners.{is_reading, own_object, own_hop, unasked_own}
use Rattle.law_copies_writes.proofs.arrivals.Delivery.{words, Kept, settled_alike, its_cell, got, rewrites_so, settles_apart}

-- what is followed for writing isn't followed for reading
writes_no_read : (p : Path) (w : Lval) → written_place p ≡ Some w → is_reading p ≡ false
writes_no_read (writes_to_it v) w e = refl
writes_no_read (ends r) w e = refl
writes_no_read _ w e = absurd (cc e)

-- what is owned is one where it is a box
boxed_as : (u : Owned) (b : BoxPtr) → pointer_of (value.Own u) ≡ Some b → u ≡ owned.Box b
boxed_as (owned.Box q) b e = ap owned.Box (some_is e)
boxed_as owned.Nothing b e = absurd (cc e)
boxed_as owned.Unit b e = absurd (cc e)
boxed_as (owned.Int n) b e = absurd (cc e)
boxed_as (owned.Mutex n) b e = absurd (cc e)
boxed_as (owned.Task n) b e = absurd (cc e)

-- no copy is under the word of a box that is passed
box_uncopied : (s : Sight) (r : ℕ) (l : Location) (v : Value) (p : BoxPtr) → MayPass s r l v → v ≡ value.Own (owned.Box p) → NotCopied s p.word
box_uncopied s r l _ p (over_box b lies none fresh) e = let same : b ≡ p = cc in subst (λ (q : BoxPtr). NotCopied s q.word) same none
box_uncopied s r l _ p (over_reference q lies fresh) e = absurd (cc e)
box_uncopied s r l _ p (to_slot i) e = absurd (cc e)
box_uncopied s r l _ p (to_lent_slot i) e = absurd (cc e)

no_cell_slot : (o : ObjNo) (t m : ℕ) → in_object o ≡ at_slot t m → ⊥
no_cell_slot o t m e = cc e

-- WHAT IS PASSED ISN'T SEEN where a pointer gets a word

passes_slot : (m nw q : ℕ) (h : Hand) → set_pointer (in_slot m) nw (passing q h) ≡ option_map (passing q) (set_pointer (in_slot m) nw h)
passes_slot m nw q h = by (slice_get h.thread.slots m)
  where
    tested : (b : Bool) (new : Value) → (if b then Some (with_slots (slice_set h.thread.slots m new) (passing q h)) else None) ≡ option_map (passing q) (if b then Some (with_slots (slice_set h.thread.slots m new) h) else None)
    tested true new = refl
    tested false new = refl

    put : (o : Option Value) → then_some o (λ new. put_slot m new (passing q h)) ≡ option_map (passing q) (then_some o (λ new. put_slot m new h))
    put None = refl
    put (Some new) = tested (nat_lt m (length h.thread.slots)) new

    by : (o : Option Value) → then_some o (λ v. then_some (with_word nw v) (λ new. put_slot m new (passing q h))) ≡ option_map (passing q) (then_some o (λ v. then_some (with_word nw v) (λ new. put_slot m new h)))
    by None = refl
    by (Some v) = put (with_word nw v)

passes_cell : (w : ℕ) (through : Option ℕ) (nw q : ℕ) (h : Hand) → set_pointer (in_cell w through) nw (passing q h) ≡ option_map (passing q) (set_pointer (in_cell w through) nw h)
passes_cell w through nw q h = by (cell_value (look h.work.rest.partition w))
  where
    with_it : Owned → Hand → Hand
    with_it u x = working (with_partition (stored h.work.rest.partition w u)) x

    noted : (r : Option ℕ) (u : Owned) → note_write r (with_it u (passing q h)) ≡ passing q (note_write r (with_it u h))
    noted None u = refl
    noted (Some j) u = refl

    tested : (b : Bool) (u : Owned) → (if b then Some (note_write through (with_it u (passing q h))) else None) ≡ option_map (passing q) (if b then Some (note_write through (with_it u h)) else None)
    tested true u = ap (λ x. Some x) (noted through u)
    tested false u = refl

    put : (o : Option Value) → then_some o (λ new. put_at (in_cell w through) new (passing q h)) ≡ option_map (passing q) (then_some o (λ new. put_at (in_cell w through) new h))
    put None = refl
    put (Some (value.Own u)) = tested (leads_here h.work.rest.partition w) u
    put (Some value.Gone) = refl
    put (Some (value.SharedSlot j)) = refl
    put (Some (value.MutSlot j)) = refl
    put (Some (value.Shared r)) = refl
    put (Some (value.Mut r)) = refl
    put (Some (value.Held m)) = refl

    by : (o : Option Value) → then_some o (λ v. then_some (with_word nw v) (λ new. put_at (in_cell w through) new (passing q h))) ≡ option_map (passing q) (then_some o (λ v. then_some (with_word nw v) (λ new. put_at (in_cell w through) new h)))
    by None = refl
    by (Some v) = put (with_word nw v)

-- THE NEXT HOP

module _ (k : Cluster) (coherent : IsCoherent k) (few : FewEvents k) (s : Server) (here : server_at k.servers s.rest.number ≡ Some s) (t : ℕ) (y : ThreadState) (at : thread_in s.threads t ≡ Some y) (i old : ℕ) (c : Cell) (message_there : slice_get s.rest.inbox i ≡ Some (message.Moved old c t))
    (waiting : y.phase ≡ phase.WaitCell old) (grows : can_grow s.rest.partition ≡ true) (w : Lval) (writes : written_place (path (sight k) (record { server = s.rest.number; packed = false; thread = y })) ≡ Some w)
    (a : Awaited) (next : NextHop (sight k) (record { server = s.rest.number; packed = false; thread = y }) w a) (same_object : a.object ≡ c.object)
    (sole_at : (j : ℕ) (l : Location) (o : ObjNo) → j < w.depth → locate (sight k).ground y.number w.slot j ≡ Some l → leads y.number (value_in (sight k).ground l) ≡ Some (in_object o) → (IsStale (sight k) (Some l) → ⊥) → IsSole k l o) where
  abbrev n : ℕ
  n = s.rest.number

  abbrev me : Standing
  me = record { server = n; packed = false; thread = y }

  abbrev g : Ground
  g = (sight k).ground

  abbrev O : Hand → Type 0
  O = Fits k coherent s here t y at

  abbrev Z : Hand → Cluster
  Z = put k coherent s here t y at

  abbrev St : Hand → Type 0
  St = State k coherent s here t y at

  abbrev K : Hand → Type 0
  K = Kept k coherent few s here t y at i old c message_there

  abbrev P : PartitionState
  P = s.rest.partition

  abbrev nw : ℕ
  nw = new_word P

  abbrev h1 : Hand
  h1 = landed k coherent few s here t y at i old c message_there

  abbrev r2 : Rest
  r2 = record (receive s.rest i) { partition = made P c }

  abbrev C : ObjNo → Option Cell
  C = cell_of g.cells

  abbrev place : ℕ → Option Location
  place = locate g y.number w.slot

  abbrev path_types : HasPaths k
  path_types = paths k coherent few s here t y at i old c message_there waiting grows

  abbrev goes : GoesOn k me
  goes = on k coherent few s here t y at i old c message_there waiting grows

  abbrev before_words : HasWords (sight k)
  before_words = words k coherent few s here t y at i old c message_there

  untaken : TakesNoneHere k.code y
  untaken = none_taken k coherent few s here t y at i old c message_there waiting grows

  fresh_nw : issued (sight k) nw ≡ false
  fresh_nw = unissued k coherent few s here t y at i old c message_there waiting grows

  -- THE HOPS THAT ARE PASSED

  followed : IsFollowed k path_types me w
  followed = follows k path_types me goes w (writing k me w writes)

  short : w.depth ≤ 8
  short = short_place k path_types me goes coherent.sound.parts.holders_short w (writing k me w writes)

  within : y.passed ≤ w.depth
  within = let l = next.within in omega (arith, l)

  lies_so : (j : ℕ) → j < y.passed → (l : Location) (v : Value) (p : BoxPtr) → place j ≡ Some l → value_in g l ≡ Some v → pointer_of v ≡ Some p → LiesUnder k p
  lies_so j less l v p located stands pointer = passed_lies k coherent.sound.words.have_words n l v p stands pointer (may_pass k me goes coherent.sound.walks.have_passed w writes j less l v located stands)

  its_road : Route s.rest y C place y.passed
  its_road = road k coherent few n s here path_types y goes w writes short followed.base followed.boxes followed.type followed.resolves followed.unmarked y.passed within lies_so

  again : Route r2 y C place y.passed
  again =
      rerouted s.rest y C place y.passed its_road r2 refl y.slots y.temps (λ m j less located. refl) (λ j v d le located l. made_leads P c (sane k coherent few s here t y at i old c message_there) v d l) (λ less. absurd (omega (arith, less)))
      (let b = roomy_at k coherent few n s here in let e = made_longer P c in omega (arith, b, e, within, short))

  fresh_at : (j : ℕ) (l : Location) → j < w.depth → place j ≡ Some l → IsStale (sight k) (Some l) → ⊥
  fresh_at j l lt located = writes_are_fresh k path_types me w j l goes writes lt located

  value_there : (m : ℕ) (v : Value) → slice_get y.slots m ≡ Some v → value_in g (at_slot y.number m) ≡ Some v
  value_there m v e = slot_stands k coherent few s here t y at i old c message_there waiting grows m v e

  -- where the hops lead: to a slot; to a cell, by the mutable reference in a slot; or by a box
  data Led (j : ℕ) : Spot → Location → Type 0 where
    to_it : (m : ℕ) → Led j (in_slot m) (at_slot y.number m)
    through : (v m e : ℕ) (q : MutRef) (d : Cell) (o : ObjNo) → suc e ≡ j → place e ≡ Some (at_slot y.number m) → slice_get y.slots m ≡ Some (value.Mut q) → q.object ≡ o → Leads (made P c) v d → C o ≡ Some d → d.object ≡ o → Led j (in_cell v (Some m)) (in_object o)
    by_a_box : (v e : ℕ) (l : Location) (p : BoxPtr) (d : Cell) (o : ObjNo) → suc e ≡ j → place e ≡ Some l → value_in g l ≡ Some (value.Own (owned.Box p)) → p.object ≡ o → Leads (made P c) v d → C o ≡ Some d → d.object ≡ o → Led j (in_cell v None) (in_object o)

  -- the hand is as it was
  record IsHere (h : Hand) : Type 0 where
    thread : h.thread ≡ y
    rest : h.work.rest ≡ r2

  abbrev Tells : Prepared → Type 0
  Tells (ready h sp) = (l : Location) × (place y.passed ≡ Some l) × Led y.passed sp l
  Tells x = ⊥

  abbrev Goes : ℕ → Prepared → Location → Type 0
  Goes j (ready h sp) l = IsHere h × Led (suc j) sp l
  Goes j x l = ⊥

  -- one hop more
  module _ (j : ℕ) (less : j < y.passed) (h : Hand) (is_here : IsHere h) where
    number : h.work.rest.number ≡ n
    number = ap (λ (x : Rest). x.number) is_here.rest

    leads_on : (word : ℕ) (o : ObjNo) → LeadsBy r2 y C place j word o → (server_of word == h.work.rest.number) ≡ true
    leads_on word o b = eq-eqb (server_of word) h.work.rest.number (b.passed less ∙ sym number)

    slot_value : (m : ℕ) (v : Value) → slice_get y.slots m ≡ Some v → value_at h (in_slot m) ≡ Some v
    slot_value m v e = ap (λ (x : ThreadState). slice_get x.slots m) is_here.thread ∙ e

    test : nat_lt j h.thread.passed ≡ true
    test = let e : h.thread.passed ≡ y.passed = ap (λ (x : ThreadState). x.passed) is_here.thread in grind (arith, nat_tests, e, less)

    starred : (sp : Spot) (v : Value) (l2 : Location) → value_at h sp ≡ Some v → Goes j (pass_by sp v (write_hop h.work.rest.number v) (load_at sp h)) l2 → Goes j (write_star j h sp) l2
    starred sp v l2 e q =
        subst (λ o. Goes j (write_value j sp o (load_at sp h)) l2) (sym e)
        (subst (λ b. Goes j (if b then pass_by sp v (write_hop h.work.rest.number v) (load_at sp h) else write_by j sp v (write_hop h.work.rest.number v) (load_at sp h)) l2) (sym test) q)

    still : IsHere h
    still = record { thread = is_here.thread; rest = is_here.rest }

    same_slot : {u v : ℕ} → at_slot y.number u ≡ at_slot y.number v → u ≡ v
    same_slot e = cc

    same_cell : {u z : ObjNo} → in_object u ≡ in_object z → u ≡ z
    same_cell e = cc

    -- from a slot
    module _ (m : ℕ) (located : place j ≡ Some (at_slot y.number m)) where
      from_slot : (x l2 : Location) → at_slot y.number m ≡ x → Hop r2 y C place j x l2 → Goes j (write_star j h (in_slot m)) l2
      from_slot _ _ f (by_slot u v e) = starred (in_slot m) (value.MutSlot v) (at_slot y.number v) (slot_value m (value.MutSlot v) (ap (slice_get y.slots) (same_slot f) ∙ e)) (record { thread = is_here.thread; rest = is_here.rest }, to_it v)
      from_slot _ _ f (by_reference u q e b) =
          let mine : slice_get y.slots m ≡ Some (value.Mut q) = ap (slice_get y.slots) (same_slot f) ∙ e in
          starred (in_slot m) (value.Mut q) (in_object q.object) (slot_value m (value.Mut q) mine)
          (subst (λ z. Goes j (pass_by (in_slot m) (value.Mut q) (Some (if z then jump.AtCell q.word else jump.NeedMove q.word)) (load_at (in_slot m) h)) (in_object q.object)) (sym (leads_on q.word q.object b))
          (record { thread = is_here.thread; rest = is_here.rest }, through q.word m j q b.cell q.object refl located mine refl (b.home (b.passed less)) b.there b.object))
      from_slot _ _ f (by_box u p e b) =
          let mine : slice_get y.slots m ≡ Some (value.Own (owned.Box p)) = ap (slice_get y.slots) (same_slot f) ∙ e in
          starred (in_slot m) (value.Own (owned.Box p)) (in_object p.object) (slot_value m (value.Own (owned.Box p)) mine)
          (subst (λ z. Goes j (pass_by (in_slot m) (value.Own (owned.Box p)) (Some (if z then jump.NeedTint p.word else jump.NeedMove p.word)) (load_at (in_slot m) h)) (in_object p.object)) (sym (leads_on p.word p.object b))
          (record { thread = is_here.thread; rest = is_here.rest }, by_a_box p.word j (at_slot y.number m) p b.cell p.object refl located (value_there m (value.Own (owned.Box p)) mine) refl (b.home (b.passed less)) b.there b.object))
      from_slot _ _ f (by_cell o d p there boxed b) = absurd (cc f)

    -- from a cell
    module _ (v : ℕ) (q : Option ℕ) (o : ObjNo) (d : Cell) (leads_it : Leads (made P c) v d) (there : C o ≡ Some d) (located : place j ≡ Some (in_object o)) where
      found_there : value_at h (in_cell v q) ≡ Some (value.Own d.value)
      found_there = ap (λ (x : Rest). cell_value (look x.partition v)) is_here.rest ∙ ap cell_value (looks (made P c) v d leads_it)

      from_cell : (x l2 : Location) → in_object o ≡ x → Hop r2 y C place j x l2 → Goes j (write_star j h (in_cell v q)) l2
      from_cell _ _ f (by_slot u z e) = absurd (cc f)
      from_cell _ _ f (by_reference u z e b) = absurd (cc f)
      from_cell _ _ f (by_box u p e b) = absurd (cc f)
      from_cell _ _ f (by_cell o2 d2 p there2 boxed b) =
          let same : d ≡ d2 = some_is (sym there ∙ ap C (same_cell f) ∙ there2) in
          let holds : d.value ≡ owned.Box p = ap (λ (x : Cell). x.value) same ∙ boxed in
          let stands : value_in g (in_object o) ≡ Some (value.Own (owned.Box p)) = ap value_of there ∙ ap (λ u. Some (value.Own u)) holds in
          starred (in_cell v q) (value.Own (owned.Box p)) (in_object p.object) (found_there ∙ ap (λ u. Some (value.Own u)) holds)
          (subst (λ z. Goes j (pass_by (in_cell v q) (value.Own (owned.Box p)) (Some (if z then jump.NeedTint p.word else jump.NeedMove p.word)) (load_at (in_cell v q) h)) (in_object p.object)) (sym (leads_on p.word p.object b))
          (record { thread = is_here.thread; rest = is_here.rest }, by_a_box p.word j (in_object o) p b.cell p.object refl located stands refl (b.home (b.passed less)) b.there b.object))

    -- by what stands there
    one_hop : (sp : Spot) (l l2 : Location) → place j ≡ Some l → Led j sp l → Hop r2 y C place j l l2 → Goes j (write_star j h sp) l2
    one_hop _ _ l2 located (to_it m) hop = from_slot m located (at_slot y.number m) l2 refl hop
    one_hop _ _ l2 located (through v m e q d o last before_it slot is leads_it there object) hop = from_cell v (Some m) o d leads_it there located (in_object o) l2 refl hop
    one_hop _ _ l2 located (by_a_box v e l p d o last before_it stands is leads_it there object) hop = from_cell v None o d leads_it there located (in_object o) l2 refl hop

  then_tells : (j : ℕ) (x : Prepared) (go : Hand → Spot → Prepared) (l : Location) → Goes j x l → ((h : Hand) (sp : Spot) → IsHere h → Led (suc j) sp l → Tells (go h sp)) → Tells (and_then go x)
  then_tells j (ready h sp) go l q f = f h sp q.0 q.1
  then_tells j (requested h) go l q f = absurd q
  then_tells j nothing go l q f = absurd q

  passes_hops : (more j : ℕ) → j + more ≡ y.passed → (h : Hand) (sp : Spot) (l : Location) → place j ≡ Some l → Led j sp l → IsHere h → Tells (write_stars more j h sp)
  passes_hops zero j e h sp l located led q = let same : j ≡ y.passed = omega (arith, e) in (l, ap place (sym same) ∙ located, subst (λ m. Led m sp l) same led)
  passes_hops (suc more) j e h sp l located led q =
      let less : j < y.passed = omega (arith, e) in
      let m = again.leads_there (suc j) (omega (arith, less)) in
      let one : suc j ≡ j + 1 = omega arith in
      then_tells j (write_star j h sp) (write_stars more (j + 1)) m.0 (one_hop j less h q sp l m.0 located led (again.hop j less l m.0 located m.1))
      (λ h2 sp2 q2 led2. subst (λ x. Tells (write_stars more x h2 sp2)) one (passes_hops more (suc j) (omega (arith, e)) h2 sp2 m.0 m.1 led2 q2))

  -- THE POINTER AT WHICH THE THREAD WAITS

  value_so : (l : Location) → place y.passed ≡ Some l → value_in g l ≡ Some next.asked.value
  value_so l located =
      let same : next.asked.location ≡ l = some_is (sym (paths_law.locates g y.number w.slot y.passed next.asked.location next.asked.hop.path) ∙ located) in
      ap (value_in g) (sym same) ∙ next.asked.hop.stands

  its : IsPointer next.asked.value a
  its = pointed next.asked.value a next.asked.asked

  leads_so : (l : Location) → place y.passed ≡ Some l → leads y.number (value_in g l) ≡ Some (in_object c.object)
  leads_so l located = ap (leads y.number) (value_so l located) ∙ its.leads_there y.number ∙ ap (λ o. Some (in_object o)) same_object

  fresh_so : (l : Location) → place y.passed ≡ Some l → IsStale (sight k) (Some l) → ⊥
  fresh_so l located = fresh_at y.passed l next.within located

  sole_so : (l : Location) → place y.passed ≡ Some l → IsSole k l c.object
  sole_so l located = sole_at y.passed l c.object next.within located (leads_so l located) (fresh_so l located)

  only_so : (l : Location) → place y.passed ≡ Some l → IsOnly k l c.object
  only_so l located = are_only.soles k l c.object (sole_so l located)

  -- NOBODY HAS ASKED FOR COPIES

  aw : Awaits k me old c
  aw = awaits k coherent few s here t y at i old c message_there waiting grows

  unasked : (o : ObjNo) (e : Cell) → e.object ≡ o → Among e (cells_in (things_of k)) → OwnedBy k path_types y.number o → Unasked k (before_words.word o)
  unasked o e same m own = unasked_own k coherent path_types me goes old waiting (path (sight k) me) refl (writes_no_read (path (sight k) me) w writes) o e same m own

  wanted : NotAsked k before_words c.object
  wanted =
      none_wanted k before_words c.object
      (unasked c.object c refl (its_cell k coherent few s here t y at i old c message_there)
      (own_object k coherent path_types me goes old waiting c.object (subst (OwnObject k path_types me goes) aw.object (comes_own k path_types me goes old aw.awaited (path (sight k) me) refl aw.turn aw.comes))))

  -- so of the object in whose cell the pointer stands
  unasked_there : (o : ObjNo) (d : Cell) → C o ≡ Some d → place y.passed ≡ Some (in_object o) → Unasked k (before_words.word o)
  unasked_there o d there located =
      let e = cell_standing k o (value.Own d.value) (ap value_of there) in
      unasked o e.0 e.1 e.2 (own_hop k coherent path_types me goes old waiting w followed.base followed.boxes followed.type y.passed o followed.resolves within located)

  -- it is another one
  another : (o : ObjNo) → place y.passed ≡ Some (in_object o) → o ≡ c.object → ⊥
  another o located same =
      let after : place (suc y.passed) ≡ Some (in_object o) = ap (λ x. leads y.number (value_behind g x)) located ∙ leads_so (in_object o) located ∙ ap (λ x. Some (in_object x)) (sym same) in
      let le = next.within in
      apart k path_types me goes w.slot w.depth followed.base followed.boxes followed.type followed.resolves y.passed (suc y.passed) (omega arith) (omega (arith, le)) (in_object o) located after

  -- THE HAND GOES ON

  goes_on : (h : Hand) → O h → TakesNoneHere k.code h.thread → Settled k (Z h) before_words → K (with_phase phase.Got (passing (y.passed + 1) h))
  goes_on h ok none q =
      let m = y.passed + 1 in
      let ok2 : O (passing m h) = passes sums_kept n s.events t (all_standing n (without_thread s.threads t) ++ servers_things (others_of k.servers n)) m h ok in
      got k coherent few s here t y at i old c message_there waiting grows (passing m h) ok2 none
      (settled_alike k coherent few s here t y at i old c message_there h (passing m h) ok ok2 (record {
        number = refl;
        named = refl;
        thread = thread_alike n n false false h.thread (record h.thread { passed = m }) [] [] (record { number = refl; taking = refl; slots = λ x. refl; temps = λ x. refl }) (itself (slots_of n h.thread)) (itself (temps_of n h.thread)) (itself (held_if h.thread.gift));
        rest = itself (body_things n h.work.rest);
      }) q)

  -- in a slot
  in_slots : (m : ℕ) → place y.passed ≡ Some (at_slot y.number m) → Gives K (arrived_at (in_slot m) nw (passing (y.passed + 1) h1))
  in_slots m located = subst (λ o. Gives K (option_map (with_phase phase.Got) o)) (sym (passes_slot m nw (y.passed + 1) h1)) (by (set_pointer (in_slot m) nw h1) refl)
    where
      l : Location
      l = at_slot y.number m

      there : slice_get y.slots m ≡ Some next.asked.value
      there = slot_there k coherent few s here t y at i old c message_there waiting grows m next.asked.value (value_so l located)

      by : (o : Option Hand) → set_pointer (in_slot m) nw h1 ≡ o → Gives K (option_map (with_phase phase.Got) (option_map (passing (y.passed + 1)) o))
      by None e = tt
      by (Some h2) e =
          let ok = set_ok k coherent few s here t y at i old c message_there waiting grows h2 (in_slot m) e in
          let r = in_a_slot k coherent few s here t y at i old c message_there waiting grows m next.asked.value its.pointer h2 there its.is (its.object ∙ same_object) e in
          let q : SlotPut h1 h2 m nw next.asked.value = word_put h1 h2 m nw next.asked.value there e in
          goes_on h2 ok (subst (λ x. TakesNoneHere k.code x) (sym q.thread) untaken)
          (settles_apart k coherent few s here t y at i old c message_there waiting grows h2 l (λ o. no_cell_slot o y.number m) ok (only_so l located) (fresh_so l located) r wanted)

  -- IN A CELL

  module _ (b : ℕ) (o : ObjNo) (d : Cell) (leads_it : Leads (made P c) b d) (there : C o ≡ Some d) (object : d.object ≡ o) (located : place y.passed ≡ Some (in_object o)) where
    is : next.asked.value ≡ value.Own d.value
    is = some_is (sym (value_so (in_object o) located) ∙ ap value_of there)

    boxed : d.value ≡ owned.Box its.pointer
    boxed = boxed_as d.value its.pointer (ap pointer_of (sym is) ∙ its.is)

    found : look (made P c) b ≡ Some d
    found = looks (made P c) b d leads_it

    at_it : place y.passed ≡ Some (in_object d.object)
    at_it = located ∙ ap (λ x. Some (in_object x)) (sym object)

    its_own : Unasked k (before_words.word d.object)
    its_own = subst (λ x. Unasked k (before_words.word x)) (sym object) (unasked_there o d there located)

    module _ (h2 : Hand) (set : set_pointer (in_cell b None) nw h1 ≡ Some h2) where
      put_so : CellPut h1 h2 b nw its.pointer
      put_so = cell_put h1 h2 b nw d its.pointer found boxed set

      ok2 : O h2
      ok2 = set_ok k coherent few s here t y at i old c message_there waiting grows h2 (in_cell b None) set

      untaken_2 : TakesNoneHere k.code h2.thread
      untaken_2 = subst (λ x. TakesNoneHere k.code x) (sym put_so.thread) untaken

      worded : Reworded k (Z h2) (in_object d.object) c.object nw
      worded = in_a_cell k coherent few s here t y at i old c message_there waiting grows b d its.pointer h2 found boxed (its.object ∙ same_object) set

      first : Rewrites k (Z h2) (in_object d.object) c.object nw
      first = rewrites_so k coherent few s here t y at i old c message_there waiting grows h2 (in_object d.object) ok2 (only_so (in_object d.object) at_it) (fresh_so (in_object d.object) at_it) worded

      -- by a box
      box_settles : (e : ℕ) (l : Location) (p : BoxPtr) → suc e ≡ y.passed → place e ≡ Some l → value_in g l ≡ Some (value.Own (owned.Box p)) → p.object ≡ o → Settled k (Z h2) before_words
      box_settles e l p last before_it stands same =
          lands_in_box k (Z h2) before_words d.object c.object nw first fresh_nw wanted (another d.object at_it) (subst (λ v. NotCopied (sight k) v) word (box_uncopied (sight k) n x.location x.value p x.passes value_is)) its_own
        where
          x : IsPassed (sight k) me w e
          x = coherent.sound.walks.have_passed me w e goes.among writes (omega (arith, last))

          location_is : x.location ≡ l
          location_is = some_is (sym (paths_law.locates g y.number w.slot e x.location x.hop.path) ∙ before_it)

          value_is : x.value ≡ value.Own (owned.Box p)
          value_is = some_is (sym x.hop.stands ∙ ap (value_in g) location_is ∙ stands)

          word : p.word ≡ before_words.word d.object
          word = fresh_word k before_words l (value.Own (owned.Box p)) p stands refl (fresh_at e l (omega (arith, last, within)) before_it) ∙ ap before_words.word (same ∙ sym object)

      -- by a mutable reference in a slot, which is marked
      module _ (m e : ℕ) (r : MutRef) (last : suc e ≡ y.passed) (before_it : place e ≡ Some (at_slot y.number m)) (slot : slice_get y.slots m ≡ Some (value.Mut r)) (same : r.object ≡ o) (ok3 : O (note_write (Some m) h2)) where
        abbrev h3 : Hand
        h3 = note_write (Some m) h2

        abbrev lm : Location
        lm = at_slot h2.thread.number m

        same_number : h2.thread.number ≡ y.number
        same_number = ap (λ (x : ThreadState). x.number) put_so.thread

        less : e < w.depth
        less = omega (arith, last, within)

        stood : value_in g (at_slot y.number m) ≡ Some (value.Mut r)
        stood = value_there m (value.Mut r) slot

        written_there : IsWritten k (at_slot y.number m) r.object
        written_there =
            let u = lies_so e (omega (arith, last)) (at_slot y.number m) (value.Mut r) (box_of r) before_it stood refl in
            let fresh = fresh_at e (at_slot y.number m) less before_it in
            record {
              sole = sole_at e (at_slot y.number m) r.object less before_it (ap (leads y.number) stood) fresh;
              fresh = fresh;
              lies = record { server = u.server; address = u.address; there = record { cell = u.there.cell; among = u.there.among; object = u.there.object } };
            }

        written_now : IsWritten k lm r.object
        written_now = subst (λ x. IsWritten k (at_slot x m) r.object) (sym same_number) written_there

        st2 : St h2
        st2 = record {
          ok = ok2;
          onward = sole_gets k coherent few s here t y at i old c message_there waiting grows h2 (in_object d.object) ok2 (sole_so (in_object d.object) at_it) (fresh_so (in_object d.object) at_it) worded;
          untaken = untaken_2;
        }

        places_2 : HasPlaces (Z h2)
        places_2 = places k coherent s here t y at h2 ok2

        places_3 : HasPlaces (Z h3)
        places_3 = places k coherent s here t y at h3 ok3

        slot_2 : slice_get h2.thread.slots m ≡ Some (value.Mut r)
        slot_2 = ap (λ (x : ThreadState). slice_get x.slots m) put_so.thread ∙ slot

        there_2 : value_in (sight (Z h2)).ground lm ≡ Some (value.Mut r)
        there_2 = hand_stands k n s.threads (s.events + 1) h2 m (value.Mut r) (stands_here k coherent s here t y at h2 ok2) places_2 slot_2

        sole_2 : IsSole (Z h2) lm r.object
        sole_2 = soles_stay.soles k (Z h2) lm r.object first.before places_2 st2.onward.outlines written_now.sole

        fresh_2 : IsStale (sight (Z h2)) (Some lm) → ⊥
        fresh_2 = st2.onward.fresh lm r.object written_now.sole written_now.fresh

        mark : Reworded (Z h2) (Z h3) lm r.object r.word
        mark = mark_rewords k n s.threads (s.events + 1) h2 m r (stands_here k coherent s here t y at h2 ok2) slot_2 places_2 places_3 (home_now k coherent s here t y at h2 st2 lm (value.Mut r) (box_of r) written_now there_2 refl)

        second : Rewrites (Z h2) (Z h3) lm r.object r.word
        second = record { before = places_2; only = are_only.soles (Z h2) lm r.object sole_2; fresh = fresh_2; firsts = st2.onward.words.first_at_holder; places = places_3; reworded = mark }

        abbrev r3 : MutRef
        r3 = record r { dirty = true }

        slot_3 : slice_get h3.thread.slots m ≡ Some (value.Mut r3)
        slot_3 = ap (λ x. slice_get (note_slot h2.thread.slots m x) m) slot_2 ∙ set_same h2.thread.slots m (value.Mut r) (value.Mut r3) slot_2

        there_3 : value_in (sight (Z h3)).ground lm ≡ Some (value.Mut r3)
        there_3 = hand_stands k n s.threads (s.events + 1) h3 m (value.Mut r3) (stands_here k coherent s here t y at h3 ok3) places_3 slot_3

        awake : IsStale (sight (Z h3)) (Some lm) → ⊥
        awake = fresh_go_on (Z h2) (Z h3) lm r.object r.word second lm r.object sole_2 fresh_2

        its_object : r.object ≡ d.object
        its_object = same ∙ sym object

        stays : r.word ≡ (words_go_on k (Z h2) (in_object d.object) c.object nw first before_words).after.word d.object
        stays =
            let f = words_go_on k (Z h2) (in_object d.object) c.object nw first before_words in
            fresh_word (Z h2) f.after lm (value.Mut r) (box_of r) there_2 refl fresh_2 ∙ ap f.after.word its_object

        mark_settles : Settled k (Z h3) before_words
        mark_settles =
            lands_through k (Z h2) (Z h3) before_words d.object c.object nw r.word lm first fresh_nw wanted (another d.object at_it) (subst (λ x. Rewrites (Z h2) (Z h3) lm x r.word) its_object second) (λ x. no_cell_slot x h2.thread.number m) stays r3 there_3 its_object refl awake
            (none_wanted k before_words d.object its_own)

    -- what comes of it
    by_box_gets : (e : ℕ) (l : Location) (p : BoxPtr) → suc e ≡ y.passed → place e ≡ Some l → value_in g l ≡ Some (value.Own (owned.Box p)) → p.object ≡ o → Gives K (arrived_at (in_cell b None) nw (passing (y.passed + 1) h1))
    by_box_gets e l p last before_it stands same = subst (λ x. Gives K (option_map (with_phase phase.Got) x)) (sym (passes_cell b None nw (y.passed + 1) h1)) (by (set_pointer (in_cell b None) nw h1) refl)
      where
        by : (o2 : Option Hand) → set_pointer (in_cell b None) nw h1 ≡ o2 → Gives K (option_map (with_phase phase.Got) (option_map (passing (y.passed + 1)) o2))
        by None f = tt
        by (Some h2) f = goes_on h2 (ok2 h2 f) (untaken_2 h2 f) (box_settles h2 f e l p last before_it stands same)

    by_mark_gets : (m e : ℕ) (r : MutRef) → suc e ≡ y.passed → place e ≡ Some (at_slot y.number m) → slice_get y.slots m ≡ Some (value.Mut r) → r.object ≡ o → Gives K (arrived_at (in_cell b (Some m)) nw (passing (y.passed + 1) h1))
    by_mark_gets m e r last before_it slot same =
        subst (λ x. Gives K (option_map (with_phase phase.Got) x)) (sym (passes_cell b (Some m) nw (y.passed + 1) h1 ∙ ap (option_map (passing (y.passed + 1))) both)) (by (set_pointer (in_cell b None) nw h1) refl)
      where
        both : set_pointer (in_cell b (Some m)) nw h1 ≡ option_map (note_write (Some m)) (set_pointer (in_cell b None) nw h1)
        both = cells_reword.in_two b (Some m) (record { word = nw; work = h1.work }) h1

        by : (o2 : Option Hand) → set_pointer (in_cell b None) nw h1 ≡ o2 → Gives K (option_map (with_phase phase.Got) (option_map (passing (y.passed + 1)) (option_map (note_write (Some m)) o2)))
        by None f = tt
        by (Some h2) f =
            let ok3 : O (note_write (Some m) h2) = set_ok k coherent few s here t y at i old c message_there waiting grows (note_write (Some m) h2) (in_cell b (Some m)) (both ∙ ap (option_map (note_write (Some m))) f) in
            goes_on (note_write (Some m) h2) ok3 (untaken_2 h2 f) (mark_settles h2 f m e r last before_it slot same ok3)

  -- where the hops end
  put_there : (sp : Spot) (l : Location) → place y.passed ≡ Some l → Led y.passed sp l → Gives K (arrived_at sp nw (passing (y.passed + 1) h1))
  put_there _ _ located (to_it m) = in_slots m located
  put_there _ _ located (through v m e q d o last before_it slot is leads_it there object) = by_mark_gets v o d leads_it there object located m e q last before_it slot is
  put_there _ _ located (by_a_box v e l p d o last before_it stands is leads_it there object) = by_box_gets v o d leads_it there object located e l p last before_it stands is

  pub write_arrives : Gives K (arrived_write w nw h1)
  write_arrives = by (write_stars y.passed 0 h1 (in_slot w.slot)) (passes_hops y.passed 0 (omega arith) h1 (in_slot w.slot) (at_slot y.number w.slot) refl (to_it w.slot) (record { thread = refl; rest = refl }))
    where
      by : (x : Prepared) → Tells x → Gives K (then_some (passed_spot x) (λ z. arrived_at z nw (passing (y.passed + 1) h1)))
      by (ready h2 sp) f = put_there sp f.0 f.1 f.2
      by (requested h2) f = absurd f
      by nothing f = absurd f
