-- The place that a thread of a coherent cluster writes is a route: each pointer on it is a box or a mutable one, and where its word is of the
-- server it leads to its object.
use Rattle.std.proofs.Common.{◌≡◌, ◌≤◌, ◌<◌, ℕ, suc, ◌+◌, ◌-◌, ◌*◌, ◌^◌, nat_lt, true, false, List, [], ◌∷◌, length, Option, Some, None, refl, sym, ap, subst, ◌∙◌, arith}
use Rattle.std.specs.Prelude.{slice_get}
use Rattle.std.specs.List.{AllByRecursion}
use Rattle.std.proofs.lemmas.Bool.Decides.{nat_tests}
use Rattle.law_results_reads.specs.Below.fr_base.declared.name.ObjNo.{ObjNo}
use Rattle.law_results_reads.specs.Below.fr_base.declared.place.Lval.{Lval}
use Rattle.law_results_reads.specs.Below.fr_store.Keys.{Key, slot_k}
use Rattle.law_results_reads.specs.Below.fr_store.Typed.{Exact, KeyTypes, Resolves}
use Rattle.law_results_reads.specs.Below.global_addr.Words.{server_of}
use Rattle.law_results_reads.specs.Below.heap_partition.declared.value.BoxPtr.{BoxPtr}
use Rattle.law_results_reads.specs.Below.heap_partition.declared.value.Cell.{Cell}
use Rattle.law_results_reads.specs.Below.heap_partition.declared.value.Owned.{Owned}
use Rattle.law_results_reads.specs.Below.heap_partition.declared.value.Owned.TheVariants as owned
use Rattle.law_results_reads.specs.Below.mut_borrow.declared.mutable.MutRef.{MutRef}
use Rattle.law_results_reads.specs.Below.owner_box.View.{PartitionState}
use Rattle.law_results_reads.specs.Below.thread_state.View.{ThreadState}
use Rattle.law_results_reads.specs.Below.thread_state.declared.value.Value.{Value}
use Rattle.law_results_reads.specs.Below.thread_state.declared.value.Value.TheVariants as value
use Rattle.law_results_reads.specs.Below.server_model.Servers.{Server, Cluster, server_at}
use Rattle.law_results_reads.specs.Below.server_model.Places.{pointer_of}
use Rattle.law_results_reads.specs.Below.coherent_memory.Names.{tot, one, other, same_object}
use Rattle.law_results_reads.specs.Below.coherent_memory.Things.{Location, at_slot, in_cell as in_object, lies, things_at, cell_things, free_things, things_of}
use Rattle.law_results_reads.specs.Below.coherent_memory.Follow.{Standing, Ground, cell_of, value_in, value_of, slot_of, leads, locate}
use Rattle.law_results_reads.specs.Below.coherent_memory.Sight.{Pointer, sight}
use Rattle.law_results_reads.specs.Below.coherent_memory.Passing.{MayPass, over_box, over_reference, LiesAt, IsPassed}
use Rattle.law_results_reads.specs.Below.coherent_memory.Paths.{written_place}
use Rattle.law_results_reads.specs.Below.coherent_memory.Placing.{words, next_colours}
use Rattle.law_results_reads.specs.Below.coherent_memory.Naming.{events_of, large_counts}
use Rattle.law_results_reads.specs.Below.coherent_memory.Walking.{path}
use Rattle.law_results_reads.specs.Below.coherent_memory.Weights.{cells}
use Rattle.law_results_reads.specs.Below.coherent_memory.Words.{IsStale}
use Rattle.law_results_reads.specs.Below.coherent_memory.Coherent.{IsSound}
use Rattle.law_results_reads.specs.Below.law_counts_sums.Laws.{FewEvents}
use Rattle.law_results_reads.specs.Below.coherent_types.ClusterTypes.{IsCoherent}
use Rattle.law_results_reads.proofs.Below.coherent_memory.Passing.{paths_law}
use Rattle.law_results_reads.proofs.Below.coherent_memory.Sums.{tot-append, server_parts}
use Rattle.law_results_reads.proofs.Below.coherent_memory.Words.{itself}
use Rattle.law_results_reads.proofs.Below.law_counts_sums.Askers.{other_none}
use Rattle.law_results_reads.proofs.Below.law_counts_sums.Bags.{counts_of}
use Rattle.law_results_reads.proofs.Below.law_counts_sums.Each.{at_most}
use Rattle.law_results_reads.proofs.Below.law_counts_sums.Events.{tot-server}
use Rattle.law_results_reads.proofs.Below.law_counts_sums.KnownSound.{server_known}
use Rattle.law_heap_still.proofs.events.Addresses.{InPlace, in_place}
use Rattle.law_heap_still.proofs.events.Leaving.{others, placed_here}
use Rattle.law_results_reads.specs.Below.law_words_paths.paths.HeapStore.{GoesOn, IsUnmarked, HasPaths}
use Rattle.law_results_reads.proofs.Below.law_words_paths.paths.Alike.{leads_in_heap, IsShown, a_slot, an_object, lead_alike}
use Rattle.law_results_reads.proofs.Below.law_words_paths.paths.Circles.{shorter}
use Rattle.law_results_reads.proofs.Below.law_words_paths.paths.InState.{only_one}
use Rattle.law_results_reads.proofs.Below.law_words_paths.paths.Shown.{stands_there}
use Rattle.law_results_reads.proofs.Below.law_words_paths.paths.Sole.{some_is}
use Rattle.law_words_kept.proofs.Below.law_words_paths.words.Standing.{lying, cell_found}
use Rattle.law_words_kept.specs.reads.Reading.{LiesUnder}
use Rattle.law_words_kept.proofs.ends.Fresh.{writes_are_fresh}
use Rattle.law_results_reads.proofs.Followed.{hop_from}
use Rattle.law_results_reads.proofs.Pointing.{Stands, slot_pointer, cell_pointer, its_partition, leads_home}
use Rattle.law_results_reads.proofs.Mutables.{apart, not_shared, not_shared_slot}
use Rattle.law_results_events.proofs.writes.Memory.{Sane, looked}
use Rattle.law_results_events.proofs.writes.Route.{LeadsBy, Hop, by_slot, by_reference, by_box, by_cell, Route}

-- THE SERVER'S PARTITION

free_colours : (limit n i : ℕ) (xs : List (ℕ × ℕ)) → tot (next_colours limit) (things_at (free_things n) i xs) ≡ 0 → AllByRecursion (λ (x : ℕ × ℕ). x.1 < limit) xs
free_colours limit n i [] z = tt
free_colours limit n i (x ∷ xs) z =
    let test : nat_lt x.1 limit ≡ true = other_none (nat_lt x.1 limit) (omega (arith, z)) in
    (grind (arith, nat_tests, test), free_colours limit n (i + 1) xs (omega (arith, z)))

module _ (k : Cluster) (co : IsCoherent k) (few : FewEvents k) (n : ℕ) (s : Server) (here : server_at k.servers n ≡ Some s) where
  abbrev P : PartitionState
  P = s.rest.partition

  pub sane_at : Sane P
  sane_at =
      let sound : IsSound k = co.sound in
      let fits = its_partition k sound n s here in
      let limit : ℕ = k.options.colours in
      let all : tot (words (λ v. other (nat_lt (Rattle.law_results_reads.specs.Below.global_addr.Words.colour_of v) limit))) (things_of k) + tot (next_colours limit) (things_of k) ≡ 0 = sound.words.below_limit in
      let f = next_colours limit in
      let m = s.rest.number in
      let cells_there = things_at (cell_things m P.free) 0 P.cells in
      let free_there = things_at (free_things m) 0 P.free in
      let none : tot f free_there ≡ 0 = omega (arith, all, (tot-server f k.servers n s s here).0, server_parts f s, tot-append f cells_there free_there) in
      record {
        small = (server_known k sound few n s here).partition.small;
        placed = subst (λ q. InPlace q P) (sym fits.0) (in_place s.rest.number s.events s.rest (others k sound n s here) (placed_here k sound n s here));
        colours = subst (λ q. AllByRecursion (λ (pair : ℕ × ℕ). pair.1 < q) P.free) (sym fits.1) (free_colours limit m 0 P.free none);
      }

  pub roomy_at : length P.cells ≤ 2 ^ 36
  roomy_at =
      let f = large_counts (events_of (sight k)) in
      let none : tot f (things_of k) ≡ 0 = co.sound.names.counts_bounded in
      let mine : f (counts_of s.rest.number s.events s.rest) ≡ 0 = omega (arith, none, (tot-server f k.servers n s s here).0) in
      let next : length P.cells ≤ 16 * events_of (sight k) = at_most (length P.cells) (16 * events_of (sight k)) (omega (arith, mine)) in
      omega (arith, next, few)

  -- THE ROUTE

  module _ (c : HasPaths k) (y : ThreadState) (on : GoesOn k (record { server = s.rest.number; packed = false; thread = y })) (w : Lval) (writes : written_place (path (sight k) (record { server = s.rest.number; packed = false; thread = y })) ≡ Some w) (short : w.depth ≤ 8) (base : Key) (boxes : ℕ) (type : Exact)
      (resolves : Resolves c.types.typing.exact true (slot_k y.number w.slot) w.depth base boxes type) (unmarked : IsUnmarked (record { server = s.rest.number; packed = false; thread = y }) w.slot) (d : ℕ) (most : d ≤ w.depth)
      (under : (j : ℕ) → j < d → (l : Location) (v : Value) (p : BoxPtr) → locate (sight k).ground y.number w.slot j ≡ Some l → value_in (sight k).ground l ≡ Some v → pointer_of v ≡ Some p → LiesUnder k p) where
    abbrev x : Standing
    x = record { server = s.rest.number; packed = false; thread = y }

    abbrev g : Ground
    g = (sight k).ground

    abbrev tn : ℕ
    tn = y.number

    abbrev E : KeyTypes
    E = c.types.typing.exact

    abbrev C : ObjNo → Option Cell
    C = cell_of g.cells

    abbrev at : ℕ → Option Location
    at = locate g tn w.slot

    leads_so : (e : ℕ) → e ≤ d → (l : Location) × (at e ≡ Some l)
    leads_so e le =
        let q = shorter E true (slot_k tn w.slot) (w.depth - e) w.depth e base boxes type (omega (arith, le, most)) resolves in
        lead_alike.in_cluster k c x (record { slot = w.slot; depth = e }) true q.base q.boxes q.type on unmarked q.res

    module _ (j : ℕ) (less : j < d) (l m : Location) (located : at j ≡ Some l) (next : at (suc j) ≡ Some m) where
      lt : j < w.depth
      lt = omega (arith, less, most)

      fresh : IsStale (sight k) (Some l) → ⊥
      fresh = writes_are_fresh k c x w j l on writes lt located

      -- what is passed may be
      passed_value : (v : Value) → value_in g l ≡ Some v → j < y.passed → MayPass (sight k) s.rest.number l v
      passed_value v stands before =
          let p : IsPassed (sight k) x w j = co.sound.walks.have_passed x w j on.among writes before in
          let same_location : p.location ≡ l = some_is (sym (paths_law.locates g tn w.slot j p.location p.hop.path) ∙ located) in
          let same_value : p.value ≡ v = some_is (sym p.hop.stands ∙ ap (value_in g) same_location ∙ stands) in
          subst (MayPass (sight k) s.rest.number l) same_value (subst (λ a. MayPass (sight k) s.rest.number a p.value) same_location p.passes)

      -- an object lies at one server
      one_server : (p : BoxPtr) (u : LiesUnder k p) → LiesAt (things_of k) s.rest.number p.object → u.server ≡ s.rest.number
      one_server p u h =
          let a : lies u.server u.address u.there.cell ≡ lies s.rest.number h.address h.cell =
          only_one (cells p.object) (lies u.server u.address u.there.cell) (lies s.rest.number h.address h.cell) (things_of k) (c.home_of_each p.object) u.there.among h.among (its u.there.cell u.there.object) (its h.cell h.object) in
          servers_same a
        where
          its : (d : Cell) → d.object ≡ p.object → 1 ≤ one (same_object d.object p.object)
          its d e = subst (λ b. 1 ≤ one b) (sym (itself d.object p.object e)) (omega arith)

          servers_same : {q b r a : ℕ} {d e : Cell} → lies q b d ≡ lies r a e → q ≡ r
          servers_same e = cc

      -- a pointer that stands there
      leads_by : (v : Value) (p : BoxPtr) → value_in g l ≡ Some v → pointer_of v ≡ Some p → Stands k (record { at = Some l; word = p.word; object = p.object }) → (j < y.passed → LiesAt (things_of k) s.rest.number p.object) → LeadsBy s.rest y C at j p.word p.object
      leads_by v p stands pointer stands_so passed =
          let u : LiesUnder k p = under j less l v p located stands pointer in
          let cell : Cell = u.there.cell in
          let q : Pointer = record { at = Some l; word = p.word; object = p.object } in
          record {
            cell = cell;
            object = u.there.object;
            there = ap (cell_of g.cells) (sym u.there.object) ∙ cell_found cell (lies u.server u.address cell) (things_of k) (c.home_of_each cell.object) (lying u.server u.address) u.there.among;
            home = λ mine. looked P p.word cell (leads_home k co.sound n s here q stands_so fresh cell u.server u.address u.there.among u.there.object mine);
            passed = λ before. u.leads.server ∙ one_server p u (passed before);
          }

      slot_value : (b : ℕ) (v : Value) → l ≡ at_slot tn b → value_in g l ≡ Some v → slice_get y.slots b ≡ Some v
      slot_value b v e stands = sym (ap (λ o. slot_of o b) (stands_there k c x on)) ∙ ap (value_in g) (sym e) ∙ stands

      box_passed : (p : BoxPtr) → MayPass (sight k) s.rest.number l (value.Own (owned.Box p)) → LiesAt (things_of k) s.rest.number p.object
      box_passed p (over_box _ h none f) = h

      reference_passed : (q : MutRef) → MayPass (sight k) s.rest.number l (value.Mut q) → LiesAt (things_of k) s.rest.number q.object
      reference_passed q (over_reference _ h f) = h

      to_object : (v : Value) (o : ObjNo) → leads tn (Some v) ≡ Some m → leads tn (Some v) ≡ Some (in_object o) → m ≡ in_object o
      to_object v o e f = some_is (sym e ∙ f)

      abbrev It : Location → Location → Type 0
      It a b = Hop s.rest y C at j a b

      slot_hop : (b : ℕ) (v : Value) → l ≡ at_slot tn b → value_in g l ≡ Some v → leads tn (Some v) ≡ Some m → It (at_slot tn b) m
      slot_hop b (value.Own (owned.Box p)) e stands leads_on =
          subst (It (at_slot tn b)) (sym (to_object (value.Own (owned.Box p)) p.object leads_on refl))
          (by_box b p (slot_value b (value.Own (owned.Box p)) e stands)
          (leads_by (value.Own (owned.Box p)) p stands refl (slot_pointer k x b (value.Own (owned.Box p)) _ on.among (slot_value b (value.Own (owned.Box p)) e stands) (ap (λ a. Some (record { at = Some a; word = p.word; object = p.object })) (sym e)))
          (λ before. box_passed p (passed_value (value.Own (owned.Box p)) stands before))))
      slot_hop b (value.Mut q) e stands leads_on =
          let p : BoxPtr = record { word = q.word; object = q.object } in
          subst (It (at_slot tn b)) (sym (to_object (value.Mut q) q.object leads_on refl))
          (by_reference b q (slot_value b (value.Mut q) e stands)
          (leads_by (value.Mut q) p stands refl (slot_pointer k x b (value.Mut q) _ on.among (slot_value b (value.Mut q) e stands) (ap (λ a. Some (record { at = Some a; word = q.word; object = q.object })) (sym e)))
          (λ before. reference_passed q (passed_value (value.Mut q) stands before))))
      slot_hop b (value.MutSlot a) e stands leads_on = subst (It (at_slot tn b)) (some_is leads_on) (by_slot b a (slot_value b (value.MutSlot a) e stands))
      slot_hop b (value.SharedSlot a) e stands leads_on = absurd (not_shared_slot k c x on w.slot w.depth base boxes type resolves j lt b a (located ∙ ap Some e) (ap (value_in g) (sym e) ∙ stands))
      slot_hop b (value.Shared q) e stands leads_on = absurd (not_shared k c x on w.slot w.depth base boxes type resolves j lt b q (located ∙ ap Some e) (ap (value_in g) (sym e) ∙ stands))
      slot_hop b (value.Own owned.Nothing) e stands leads_on = absurd (cc leads_on)
      slot_hop b (value.Own owned.Unit) e stands leads_on = absurd (cc leads_on)
      slot_hop b (value.Own (owned.Int a)) e stands leads_on = absurd (cc leads_on)
      slot_hop b (value.Own (owned.Mutex a)) e stands leads_on = absurd (cc leads_on)
      slot_hop b (value.Own (owned.Task a)) e stands leads_on = absurd (cc leads_on)
      slot_hop b value.Gone e stands leads_on = absurd (cc leads_on)
      slot_hop b (value.Held a) e stands leads_on = absurd (cc leads_on)

      cell_hop : (o : ObjNo) (d : Cell) → l ≡ in_object o → C o ≡ Some d → (v : Owned) → d.value ≡ v → leads tn (Some (value.Own v)) ≡ Some m → It (in_object o) m
      cell_hop o d e has (owned.Box p) is leads_on =
          let stands : value_in g l ≡ Some (value.Own (owned.Box p)) = ap (value_in g) e ∙ ap value_of has ∙ ap (λ v. Some (value.Own v)) is in
          subst (It (in_object o)) (sym (to_object (value.Own (owned.Box p)) p.object leads_on refl))
          (by_cell o d p has is
          (leads_by (value.Own (owned.Box p)) p stands refl
          (subst (λ a. Stands k (record { at = Some a; word = p.word; object = p.object })) (sym e) (cell_pointer k o d _ has (ap (λ v. Rattle.law_results_reads.proofs.Pointing.pointer_at (in_object o) (value.Own v)) is)))
          (λ before. box_passed p (passed_value (value.Own (owned.Box p)) stands before))))
      cell_hop o d e has owned.Nothing is leads_on = absurd (cc leads_on)
      cell_hop o d e has owned.Unit is leads_on = absurd (cc leads_on)
      cell_hop o d e has (owned.Int a) is leads_on = absurd (cc leads_on)
      cell_hop o d e has (owned.Mutex a) is leads_on = absurd (cc leads_on)
      cell_hop o d e has (owned.Task a) is leads_on = absurd (cc leads_on)

      its_hop : It l m
      its_hop =
          let e = hop_from g tn w.slot j l m located next in
          by l refl (leads_in_heap k c x on w.slot j l located).1 e.0 e.1 e.2
        where
          in_cell_there : (o : ObjNo) (q : Option Cell) (v : Value) → C o ≡ q → l ≡ in_object o → value_of q ≡ Some v → leads tn (Some v) ≡ Some m → It (in_object o) m
          in_cell_there o None v has e stands leads_on = absurd (cc stands)
          in_cell_there o (Some d) v has e stands leads_on = cell_hop o d e has d.value refl (ap (leads tn) stands ∙ leads_on)

          by : (a : Location) → l ≡ a → IsShown k c x on a → (v : Value) → value_in g l ≡ Some v → leads tn (Some v) ≡ Some m → It l m
          by _ e (a_slot b) v stands leads_on = subst (λ a. It a m) (sym e) (slot_hop b v e stands leads_on)
          by _ e (an_object o u h) v stands leads_on = subst (λ a. It a m) (sym e) (in_cell_there o (C o) v refl e (sym (ap (value_in g) e) ∙ stands) leads_on)

    pub road : Route s.rest y C at d
    road = record {
      leads_there = leads_so;
      hop = its_hop;
      apart = λ j e less le l first second. apart k c x on w.slot w.depth base boxes type resolves e j less (omega (arith, le, most)) l first second;
      sane = λ less. sane_at;
      room = (let r = roomy_at in omega (arith, r, short, most));
    }
