-- An object that comes to a write finds its pointer also behind hops that are passed: each of these leads to its object here, so they are a route on which nothing
-- gets another word.
use Rattle.std.proofs.Common.{◌≡◌, ◌≤◌, ℕ, ◌+◌, nat_lt, true, false, if◌then◌else◌, length, Option, Some, None, IsSome, refl, sym, ap, subst, ◌∙◌, arith}
use Rattle.std.specs.Prelude.{slice_get, slice_set}
use Rattle.std.proofs.lemmas.Option.{slice_get_within}
use Rattle.std.proofs.lemmas.Bool.Decides.{nat_tests}
use Rattle.law_results_reads.specs.Below.fr_base.declared.name.ObjNo.{ObjNo}
use Rattle.law_results_reads.specs.Below.fr_base.declared.place.Lval.{Lval}
use Rattle.law_results_reads.specs.Below.heap_partition.declared.value.BoxPtr.{BoxPtr}
use Rattle.law_results_reads.specs.Below.heap_partition.declared.value.Cell.{Cell}
use Rattle.law_results_reads.specs.Below.heap_partition.declared.value.Owned.{Owned}
use Rattle.law_results_reads.specs.Below.heap_partition.declared.value.Owned.TheVariants as owned
use Rattle.law_results_reads.specs.Below.mut_borrow.declared.mutable.MutRef.{MutRef}
use Rattle.law_results_reads.specs.Below.owner_box.View.{PartitionState}
use Rattle.law_results_reads.specs.Below.owner_box.Partition.{made, stored}
use Rattle.law_results_reads.specs.Below.thread_state.View.{ThreadState, is_over}
use Rattle.law_results_reads.specs.Below.thread_state.declared.value.Value.{Value}
use Rattle.law_results_reads.specs.Below.thread_state.declared.value.Value.TheVariants as value
use Rattle.law_results_reads.specs.Below.thread_state.declared.phase.Phase.TheVariants as phase
use Rattle.law_results_reads.specs.Below.server_model.Servers.{Rest, Server, Cluster, server_at}
use Rattle.law_results_reads.specs.Below.server_model.Work.{Work, Hand, thread_in, receive, with_slots, with_partition, with_phase, working, then_some}
use Rattle.law_results_reads.specs.Below.server_model.Places.{Spot, in_slot, in_cell, value_in as cell_value, value_at, note_write, with_word, put_at, set_pointer}
use Rattle.law_results_reads.specs.Below.server_model.Prepare.{Prepared, ready, requested, nothing, passing, write_stars}
use Rattle.law_results_reads.specs.Below.server_model.Objects.{passed_spot, arrived_at, arrived_write}
use Rattle.law_results_reads.specs.Below.coherent_memory.Names.{Among}
use Rattle.law_results_reads.specs.Below.coherent_memory.Things.{Location, at_slot, in_cell as in_object}
use Rattle.law_results_reads.specs.Below.coherent_memory.Follow.{Standing, Ground, cell_of, value_in, value_of, slot_of, locate}
use Rattle.law_results_reads.specs.Below.coherent_memory.Paths.{Awaited, to_write, written_place}
use Rattle.law_results_reads.specs.Below.coherent_memory.Sight.{sight}
use Rattle.law_results_reads.specs.Below.coherent_memory.Turn.{NextHop}
use Rattle.law_results_reads.specs.Below.coherent_memory.Walking.{path}
use Rattle.law_results_reads.proofs.Below.coherent_memory.Passing.{paths_law}
use Rattle.law_results_reads.specs.Below.law_counts_sums.Laws.{FewEvents}
use Rattle.law_results_reads.proofs.Below.law_counts_sums.HaveResults.{some_map}
use Rattle.law_results_reads.proofs.Below.law_counts_sums.ThreadThere.{thread_there}
use Rattle.law_results_reads.specs.Below.coherent_types.ClusterTypes.{IsCoherent}
use Rattle.law_results_reads.specs.Below.law_words_paths.paths.HeapStore.{GoesOn, HasPaths}
use Rattle.law_results_reads.proofs.Below.law_words_paths.paths.Alike.{coherent_has_paths}
use Rattle.law_results_reads.proofs.Below.law_words_paths.paths.Contained.{among_thread}
use Rattle.law_results_reads.proofs.Below.law_words_paths.paths.Shown.{stands_there}
use Rattle.law_results_reads.proofs.Below.law_words_paths.paths.Sole.{some_is}
use Rattle.law_words_kept.proofs.ends.Fresh.{writing}
use Rattle.law_results_events.proofs.writes.Memory.{Leads, leads_on, looks, made_leads, made_longer}
use Rattle.law_results_events.proofs.writes.Route.{Route, Writing, begins, At, a_slot, a_cell, Fine, all_hops, rerouted}
use Rattle.law_results_events.proofs.writes.Routes.{sane_at, roomy_at, road}
use Rattle.law_results_events.proofs.writes.Written.{IsFollowed, follows, short_place, may_pass, passed_lies}

-- a pointer that a write waits at takes a word
pub data Pointer : Value → Type 0 where
  a_box : (p : BoxPtr) → Pointer (value.Own (owned.Box p))
  a_reference : (r : MutRef) → Pointer (value.Mut r)

asked_pointer : (v : Value) (a : Awaited) → Among a (to_write (Some v)) → Pointer v
asked_pointer (value.Own (owned.Box p)) a m = a_box p
asked_pointer (value.Mut r) a m = a_reference r
asked_pointer (value.Own owned.Nothing) a m = absurd m
asked_pointer (value.Own owned.Unit) a m = absurd m
asked_pointer (value.Own (owned.Int n)) a m = absurd m
asked_pointer (value.Own (owned.Mutex n)) a m = absurd m
asked_pointer (value.Own (owned.Task n)) a m = absurd m
asked_pointer value.Gone a m = absurd m
asked_pointer (value.SharedSlot j) a m = absurd m
asked_pointer (value.MutSlot j) a m = absurd m
asked_pointer (value.Shared r) a m = absurd m
asked_pointer (value.Held n) a m = absurd m

-- it does in a slot
pub slot_takes : (h : Hand) (m new : ℕ) (v : Value) → slice_get h.thread.slots m ≡ Some v → Pointer v → IsSome (set_pointer (in_slot m) new h)
slot_takes h m new v there p = subst (λ o. IsSome (then_some o (λ x. then_some (with_word new x) (λ y. put_at (in_slot m) y h)))) (sym there) (by v p)
  where
    test : nat_lt m (length h.thread.slots) ≡ true
    test = let l = slice_get_within h.thread.slots m v there in grind (arith, nat_tests, l)

    by : (v : Value) → Pointer v → IsSome (then_some (with_word new v) (λ y. put_at (in_slot m) y h))
    by _ (a_box q) = subst (λ b. IsSome (if b then Some (with_slots (slice_set h.thread.slots m (value.Own (owned.Box (record q { word = new })))) h) else None)) (sym test) refl
    by _ (a_reference r) = subst (λ b. IsSome (if b then Some (with_slots (slice_set h.thread.slots m (value.Mut (Rattle.law_results_reads.specs.Below.server_model.Places.took r new))) h) else None)) (sym test) refl

-- and in a cell here
cell_takes : (h : Hand) (b : ℕ) (q : Option ℕ) (d : Cell) (new : ℕ) → Leads h.work.rest.partition b d → Pointer (value.Own d.value) → IsSome (set_pointer (in_cell b q) new h)
cell_takes h b q d new leads p =
    subst (λ o. IsSome (then_some o (λ x. then_some (with_word new x) (λ y. put_at (in_cell b q) y h)))) (sym (ap cell_value (looks h.work.rest.partition b d leads))) (by d.value p)
  where
    by : (v : Owned) → Pointer (value.Own v) → IsSome (then_some (with_word new (value.Own v)) (λ y. put_at (in_cell b q) y h))
    by (owned.Box o) p =
        subst (λ e. IsSome (if e then Some (note_write q (working (with_partition (stored h.work.rest.partition b (owned.Box (record o { word = new })))) h)) else None)) (sym (leads_on h.work.rest.partition b d leads)) refl
    by owned.Nothing p = elim p [ ]
    by owned.Unit p = elim p [ ]
    by (owned.Int n) p = elim p [ ]
    by (owned.Mutex n) p = elim p [ ]
    by (owned.Task n) p = elim p [ ]

module _ (k : Cluster) (co : IsCoherent k) (few : FewEvents k) (number i : ℕ) (s : Server) (here : server_at k.servers number ≡ Some s) (old : ℕ) (cell : Cell) (t : ℕ) (y : ThreadState) (at_it : thread_in s.threads t ≡ Some y) (waiting : y.phase ≡ phase.WaitCell old) where
  abbrev pub x : Standing
  x = record { server = s.rest.number; packed = false; thread = y }

  c : HasPaths k
  c = coherent_has_paths k co

  abbrev g : Ground
  g = (sight k).ground

  pub on : GoesOn k x
  on = record { among = (among_thread g.threads t x (thread_there k co.sound number s here t y at_it)).0; going = ap is_over waiting }

  abbrev P : PartitionState
  P = s.rest.partition

  abbrev pub r2 : Rest
  r2 = record (receive s.rest i) { partition = made P cell }

  module _ (w : Lval) (writes : written_place (path (sight k) x) ≡ Some w) (a : Awaited) (next : NextHop (sight k) x w a) where
    abbrev C : ObjNo → Option Cell
    C = cell_of g.cells

    abbrev at : ℕ → Option Location
    at = locate g y.number w.slot

    followed : IsFollowed k c x w
    followed = follows k c x on w (writing k x w writes)

    short : w.depth ≤ 8
    short = short_place k c x on co.sound.parts.holders_short w (writing k x w writes)

    within : y.passed ≤ w.depth
    within = let l = next.within in omega (arith, l)

    its_road : Route s.rest y C at y.passed
    its_road =
        road k co few number s here c y on w writes short followed.base followed.boxes followed.type followed.resolves followed.unmarked y.passed within
        (λ j less l v p located stands pointer. passed_lies k co.sound.words.have_words s.rest.number l v p stands pointer (may_pass k x on co.sound.walks.have_passed w writes j less l v located stands))

    again : Route r2 y C at y.passed
    again =
        rerouted s.rest y C at y.passed its_road r2 refl y.slots y.temps (λ m j less located. refl) (λ j v d le located l. made_leads P cell (sane_at k co few number s here) v d l) (λ less. absurd (omega (arith, less)))
        (let b = roomy_at k co few number s here in let e = made_longer P cell in omega (arith, b, e, within, short))

    -- the value at which the thread waits
    stands_so : (l : Location) → at y.passed ≡ Some l → value_in g l ≡ Some next.asked.value
    stands_so l located =
        let same : next.asked.location ≡ l = some_is (sym (paths_law.locates g y.number w.slot y.passed next.asked.location next.asked.hop.path) ∙ located) in
        ap (value_in g) (sym same) ∙ next.asked.hop.stands

    pointer : Pointer next.asked.value
    pointer = asked_pointer next.asked.value a next.asked.asked

    module _ (new : ℕ) (work : Work) (rest : work.rest ≡ r2) where
      abbrev h : Hand
      h = record { work = work; thread = y }

      fine : Fine r2 y C at ⊥ y.passed (write_stars y.passed 0 h (in_slot w.slot))
      fine = all_hops r2 y C at ⊥ y.passed again (λ j less le. absurd (omega (arith, less, le))) y.passed 0 (omega arith) h (in_slot w.slot) (at_slot y.number w.slot) refl (a_slot w.slot) (begins r2 y C at h rest refl)

      takes : (h2 : Hand) (sp : Spot) (l : Location) → at y.passed ≡ Some l → At r2 y C at h2.work.rest.partition y.passed sp l → Writing r2 y C at y.passed h2 → IsSome (arrived_at sp new (passing (y.passed + 1) h))
      takes h2 _ _ located (a_slot m) a2 =
          let there : slice_get y.slots m ≡ Some next.asked.value = sym (ap (λ o. slot_of o m) (stands_there k c x on)) ∙ stands_so (at_slot y.number m) located in
          some_map (with_phase phase.Got) (set_pointer (in_slot m) new (passing (y.passed + 1) h)) (slot_takes (passing (y.passed + 1) h) m new next.asked.value there pointer)
      takes h2 _ _ located (a_cell b q o d leads there object behind) a2 =
          let is : next.asked.value ≡ value.Own d.value = some_is (sym (stands_so (in_object o) located) ∙ ap value_of there) in
          let moved : h2.work.rest.partition ≡ work.rest.partition = a2.unmoved (omega arith) ∙ ap (λ (z : Rest). z.partition) (sym rest) in
          some_map (with_phase phase.Got) (set_pointer (in_cell b q) new (passing (y.passed + 1) h)) (cell_takes (passing (y.passed + 1) h) b q d new (subst (λ z. Leads z b d) moved leads) (subst Pointer is pointer))

      pub arrives_so : IsSome (arrived_write w new h)
      arrives_so = by (write_stars y.passed 0 h (in_slot w.slot)) fine
        where
          by : (p : Prepared) → Fine r2 y C at ⊥ y.passed p → IsSome (then_some (passed_spot p) (λ z. arrived_at z new (passing (y.passed + 1) h)))
          by (ready h2 sp) f = takes h2 sp f.0 f.1 f.2 f.3
          by (requested h2) f = absurd f
          by nothing f = absurd f
