-- The place of the holder of a reference that ends is followed, where its pointer gets a word: the words hold all the way.
use Rattle.std.proofs.Common.{◌≡◌, ◌⊎◌, inl, inr, ℕ, ◌<◌, ◌≤◌, ◌==◌, Bool, true, false, if◌then◌else◌, length, Option, Some, None, refl, sym, ap, subst, ◌∙◌, arith}
use Rattle.std.specs.Prelude.{⊤, slice_get}
use Rattle.law_words_ends.specs.Below.fr_base.Lists.{last_of}
use Rattle.law_words_ends.specs.Below.fr_base.declared.instruction.Instr.{Instr}
use Rattle.law_words_ends.specs.Below.fr_base.declared.name.ObjNo.{ObjNo}
use Rattle.law_words_ends.specs.Below.fr_base.declared.place.Lval.{Lval}
use Rattle.law_words_ends.specs.Below.heap_partition.declared.value.BoxPtr.{BoxPtr}
use Rattle.law_words_ends.specs.Below.heap_partition.declared.value.Cell.{Cell}
use Rattle.law_words_ends.specs.Below.heap_partition.declared.value.Owned.TheVariants as owned
use Rattle.law_words_ends.specs.Below.mut_borrow.declared.mutable.MutRef.{MutRef}
use Rattle.law_words_ends.specs.Below.owner_box.View.{PartitionState}
use Rattle.law_words_ends.specs.Below.thread_state.View.{ThreadState}
use Rattle.law_words_ends.specs.Below.thread_state.declared.value.Value.{Value}
use Rattle.law_words_ends.specs.Below.thread_state.declared.value.Value.TheVariants as value
use Rattle.law_words_ends.specs.Below.server_model.declared.event.What.TheVariants.{Step}
use Rattle.law_words_ends.specs.Below.server_model.Servers.{Rest, Server, Cluster, server_at}
use Rattle.law_words_ends.specs.Below.server_model.Work.{Hand, thread_in}
use Rattle.law_words_ends.specs.Below.server_model.Places.{Spot, in_slot, on_top, in_cell, nowhere, value_at}
use Rattle.law_words_ends.specs.Below.server_model.Prepare.{Prepared, ready, requested, nothing, and_then, clean_value, follow_holder, follow_ended, write_stars}
use Rattle.law_words_ends.specs.Below.server_model.Events.{enabled, begin_work}
use Rattle.law_words_ends.specs.Below.coherent_memory.Things.{Location, at_slot, in_cell as in_object}
use Rattle.law_words_ends.specs.Below.coherent_types.ClusterTypes.{IsCoherent}
use Rattle.law_words_ends.specs.Below.law_counts_sums.Laws.{FewEvents}
use Rattle.law_words_ends.proofs.Below.law_words_paths.paths.Sole.{some_is}
use Rattle.law_words_writes.proofs.Below.law_results_events.writes.Memory.{Leads}
use Rattle.law_words_writes.proofs.Below.law_results_events.writes.Route.{Route, Writing, begins, At, a_slot, a_cell, Fine, all_hops, rerouted}
use Rattle.law_words_writes.proofs.Below.law_results_events.writes.StepRoutes.{roomy}
use Rattle.law_words_writes.proofs.Below.law_results_events.writes.Holders.{TakesWord, C, at as place_at, short_holder, route, object_away, slot_away, Last, last_slot, last_cell, last_there}
use Rattle.law_words_writes.proofs.Below.law_words_asked.writes.Passing.{State, Asked}
use Rattle.law_words_writes.proofs.Below.law_words_asked.writes.Hops.{Through, Walk, Mine}
use Rattle.law_words_writes.proofs.Below.law_words_asked.writes.Walks.{BoxAt, in_a_slot, in_a_cell, all_mine}
use Rattle.law_words_ends.proofs.stars.HolderSoles.{written_there, words_there}
use Rattle.law_words_ends.proofs.stars.Cleaned.{steps, End, Cleaned, CleanFine, cleans}

module _ (k : Cluster) (coherent : IsCoherent k) (few : FewEvents k) (s : Server) (here_it : server_at k.servers s.rest.number ≡ Some s) (t : ℕ) (y : ThreadState) (at : thread_in s.threads t ≡ Some y) (on : enabled k.options s (Step t) ≡ true) (i : Instr) (code : slice_get k.code y.pc ≡ Some i)
    (r : MutRef) (sp : Spot) (other : MutRef → ThreadState) (e : End k coherent few s here_it t y at on i code r sp other) where
  abbrev n : ℕ
  n = s.rest.number

  abbrev z : Rattle.law_words_ends.proofs.Below.law_results_reads.Known.Steps k n t s y i
  z = steps k coherent few s here_it t y at on i code

  abbrev tn : ℕ
  tn = y.number

  abbrev start : Hand
  start = record { work = begin_work s.rest; thread = y }

  abbrev Clean : Hand → Type 0
  Clean = Cleaned k coherent few s here_it t y at on i code r sp other e

  abbrev depth : ℕ
  depth = r.holder.depth

  -- its holder's place
  abbrev pub leads : ℕ → Option Location
  leads = place_at k n t s y i z r e.is e.it

  abbrev Cells : ObjNo → Option Cell
  Cells = C k n t s y i z r e.is e.it

  abbrev Known : ThreadState → Option ℕ → Type 0
  Known = Through k coherent s here_it t y at

  -- where the holder's pointer stands, at the end of its place
  pub data AtHolder (h : Hand) (end : Spot) : Type 0 where
    holder_slot : (m : ℕ) (v : Value) → end ≡ in_slot m → leads depth ≡ Some (at_slot tn m) → (e.it.at ≡ at_slot tn m → ⊥) → slice_get h.thread.slots m ≡ Some v → TakesWord v → AtHolder h end
    holder_cell : (b : ℕ) (q : Option ℕ) (c : Cell) (p : BoxPtr) → end ≡ in_cell b q → leads depth ≡ Some (in_object c.object) → Leads h.work.rest.partition b c → c.value ≡ owned.Box p → Walk k coherent s here_it t y at h (in_cell b q) → ((m : ℕ) → q ≡ Some m → e.it.at ≡ at_slot tn m → ⊥) → AtHolder h end

  -- the reference is clean, and the place of its holder's pointer is ready where that gets a word
  pub record Ready (h : Hand) (end : Spot) : Type 0 where
    pub reference : MutRef
    pub clean : reference.dirty ≡ false
    pub object : reference.object ≡ r.object
    pub holder : reference.holder ≡ r.holder
    pub state : State k coherent s here_it t y at h
    pub there : value_at h sp ≡ Some (value.Mut reference)
    pub number : h.thread.number ≡ tn
    pub slots_size : length h.thread.slots ≡ length y.slots
    pub temps_size : length h.thread.temps ≡ length y.temps
    pub back : (((reference.word == reference.first) ≡ true) × (end ≡ nowhere)) ⊎ (((reference.word == reference.first) ≡ false) × AtHolder h end)

  abbrev pub EndFine : Prepared → Type 0
  EndFine (ready h q) = Ready h q
  EndFine (requested h) = Asked k coherent s here_it t y at h
  EndFine nothing = ⊤

  -- THE WAY

  module _ (h1 : Hand) (cl : Clean h1) where
    abbrev q : PartitionState
    q = h1.work.rest.partition

    abbrev r1 : Rest
    r1 = record s.rest { partition = q }

    abbrev y1 : ThreadState
    y1 = record y { slots = h1.thread.slots; temps = h1.thread.temps }

    -- a slot on the way isn't the reference's
    on_way : (m j : ℕ) → j ≤ depth → leads j ≡ Some (at_slot tn m) → e.it.at ≡ at_slot tn m → ⊥
    on_way m j le located here = slot_away k n t s y i z r e.is e.it m j here le located

    way : Route r1 y1 Cells leads depth
    way =
        rerouted s.rest y Cells leads depth (route k n t s y i z r e.is e.it) r1 refl h1.thread.slots h1.thread.temps (λ m j lt located. cl.slots m (on_way m j (omega (arith, lt)) located))
        (λ j v c le located lead. cl.cells v c lead (λ f. object_away k n t s y i z r e.is e.it j le (located ∙ ap (λ o. Some (in_object o)) f))) (λ less. cl.sane)
        (let a = cl.long in let b = roomy k n t s y i z in let d = short_holder k n t s y i z r e.is e.it in omega (arith, a, b, d))

    box_was : (j : ℕ) → j < depth → (l : Location) (p : BoxPtr) → leads j ≡ Some l → BoxAt y1 Cells l p → BoxAt y Cells l p
    box_was j lt l p located (in_a_slot m from f) = in_a_slot m from (sym (cl.slots m (on_way m j (omega (arith, lt)) (located ∙ ap Some from))) ∙ f)
    box_was j lt l p located (in_a_cell o c from has boxed) = in_a_cell o c from has boxed

    abbrev OnWay : Hand → Type 0
    OnWay h = Writing r1 y1 Cells leads depth h

    walked_fine : Fine r1 y1 Cells leads ⊤ depth (write_stars depth 0 h1 (in_slot r.holder.slot))
    walked_fine = all_hops r1 y1 Cells leads ⊤ depth way (λ j less le. tt) depth 0 (omega arith) h1 (in_slot r.holder.slot) (at_slot tn r.holder.slot) refl (a_slot r.holder.slot) (begins r1 y1 Cells leads h1 cl.rest cl.thread)

    walked_mine : Mine k coherent s here_it t y at (write_stars depth 0 h1 (in_slot r.holder.slot))
    walked_mine =
        all_mine k coherent s here_it t y at r1 y1 Cells leads depth way (λ j lt l o located next. written_there k n t s y i z r e.ends_it e.is e.it e.untaken j lt l o located next)
        (λ j lt l p located next box. words_there k n t s y i z r e.ends_it e.is e.it e.untaken j lt l p located next (box_was j lt l p located box)) depth 0 (omega arith) h1 (in_slot r.holder.slot) (at_slot tn r.holder.slot) refl (a_slot r.holder.slot)
        (begins r1 y1 Cells leads h1 cl.rest cl.thread) (record { state = cl.state; later = cl.later; through = tt })

    module _ (word : (cl.reference.word == cl.reference.first) ≡ false) (h : Hand) (end : Spot) (a : OnWay h) (walk : Walk k coherent s here_it t y at h end) where
      still : value_at h sp ≡ Some (value.Mut cl.reference)
      still = by e.form
        where
          by : ((j : ℕ) × (sp ≡ in_slot j) × (e.it.at ≡ at_slot tn j)) ⊎ (sp ≡ on_top) → value_at h sp ≡ Some (value.Mut cl.reference)
          by (inl f) =
              subst (λ b. value_at h b ≡ Some (value.Mut cl.reference)) (sym f.1)
              (a.slots f.0 (λ b lt g. on_way f.0 b (omega (arith, lt)) g f.2) ∙ subst (λ b. value_at h1 b ≡ Some (value.Mut cl.reference)) f.1 cl.there)
          by (inr f) =
              subst (λ b. value_at h b ≡ Some (value.Mut cl.reference)) (sym f) (ap (λ (b : ThreadState). last_of b.temps) a.thread ∙ subst (λ b. value_at h1 b ≡ Some (value.Mut cl.reference)) f cl.there)

      -- what stands in a slot at the end
      end_slot : (m : ℕ) → leads depth ≡ Some (at_slot tn m) → slice_get h.thread.slots m ≡ slice_get y.slots m
      end_slot m final = a.slots m (λ b lt g. way.apart depth b lt (omega arith) (at_slot tn m) g final) ∙ cl.slots m (on_way m depth (omega arith) final)

      slot_end : (m : ℕ) → end ≡ in_slot m → leads depth ≡ Some (at_slot tn m) → AtHolder h end
      slot_end m is final = by (at_slot tn m) refl (last_there k n t s y i z r e.is e.it (at_slot tn m) final)
        where
          same_slot : {b d : ℕ} → at_slot tn b ≡ at_slot tn d → b ≡ d
          same_slot f = cc

          by : (b : Location) → b ≡ at_slot tn m → Last k n t s y i z r e.is e.it b → AtHolder h end
          by _ f (last_slot j v there takes) = holder_slot m v is final (on_way m depth (omega arith) final) (end_slot m final ∙ ap (slice_get y.slots) (sym (same_slot f)) ∙ there) takes
          by _ f (last_cell o d p there boxed) = absurd (cc f)

      cell_end : (b : ℕ) (v : Option ℕ) (o : ObjNo) (c : Cell) → end ≡ in_cell b v → leads depth ≡ Some (in_object o) → Leads h.work.rest.partition b c → Cells o ≡ Some c → c.object ≡ o → ((m : ℕ) → v ≡ Some m → e.it.at ≡ at_slot tn m → ⊥) → AtHolder h end
      cell_end b v o c is final lead has object away = by (in_object o) refl (last_there k n t s y i z r e.is e.it (in_object o) final)
        where
          same_object : {p d : ObjNo} → in_object p ≡ in_object d → p ≡ d
          same_object f = cc

          by : (l : Location) → l ≡ in_object o → Last k n t s y i z r e.is e.it l → AtHolder h end
          by _ f (last_slot j u g takes) = absurd (cc f)
          by _ f (last_cell o2 d2 p there2 boxed) =
              let same : c ≡ d2 = some_is (sym has ∙ ap Cells (sym (same_object f)) ∙ there2) in
              holder_cell b v c p is (final ∙ ap (λ u. Some (in_object u)) (sym object)) lead (ap (λ (w2 : Cell). w2.value) same ∙ boxed) (subst (λ u. Walk k coherent s here_it t y at h u) is walk) away

      at_end : (b : Spot) (l : Location) → end ≡ b → leads depth ≡ Some l → At r1 y1 Cells leads h.work.rest.partition depth b l → AtHolder h end
      at_end _ _ is final (a_slot m) = slot_end m is final
      at_end _ _ is final (a_cell b None o c lead has object behind) = cell_end b None o c is final lead has object (λ m f g. absurd (cc f))
      at_end _ _ is final (a_cell b (Some v) o c lead has object behind) = cell_end b (Some v) o c is final lead has object (λ m f g. on_way m behind.0 (let lt = behind.1 in omega (arith, lt)) (behind.2 ∙ ap (λ u. Some (at_slot tn u)) (some_is f)) g)

      arrived : (l : Location) → leads depth ≡ Some l → At r1 y1 Cells leads h.work.rest.partition depth end l → Ready h end
      arrived l final spot = record {
        reference = cl.reference;
        clean = cl.clean;
        object = cl.object;
        holder = cl.holder;
        state = walk.state;
        there = still;
        number = ap (λ (b : ThreadState). b.number) a.thread;
        slots_size = a.size ∙ cl.slots_size;
        temps_size = ap (λ (b : ThreadState). length b.temps) a.thread ∙ cl.temps_size;
        back = inr (word, at_end end l refl final spot);
      }

    walked : (cl.reference.word == cl.reference.first) ≡ false → EndFine (write_stars depth 0 h1 (in_slot r.holder.slot))
    walked word = by (write_stars depth 0 h1 (in_slot r.holder.slot)) walked_fine walked_mine
      where
        by : (p : Prepared) → Fine r1 y1 Cells leads ⊤ depth p → Mine k coherent s here_it t y at p → EndFine p
        by (ready h end) f g = arrived word h end f.3 g f.0 f.1 f.2
        by (requested h) f g = g
        by nothing f g = tt

    -- it is followed, where a word is put back
    follows : EndFine (follow_ended (value_at h1 sp) h1)
    follows = subst (λ o. EndFine (follow_ended o h1)) (sym cl.there) (go (cl.reference.word == cl.reference.first) refl)
      where
        go : (b : Bool) → (cl.reference.word == cl.reference.first) ≡ b → EndFine (follow_holder cl.reference (if b then None else Some cl.reference.word) h1)
        go true f = record {
          reference = cl.reference;
          clean = cl.clean;
          object = cl.object;
          holder = cl.holder;
          state = cl.state;
          there = cl.there;
          number = ap (λ (b : ThreadState). b.number) cl.thread;
          slots_size = cl.slots_size;
          temps_size = cl.temps_size;
          back = inl (f, refl);
        }
        go false f = subst (λ (w : Lval). EndFine (write_stars w.depth 0 h1 (in_slot w.slot))) (sym cl.holder) (walked f)

  -- ALL OF IT

  then_follows : (p : Prepared) → CleanFine k coherent few s here_it t y at on i code r sp other e p → EndFine (and_then (λ h2 s2. follow_ended (value_at h2 s2) h2) p)
  then_follows (ready h1 b) f = subst (λ d. EndFine (follow_ended (value_at h1 d) h1)) (sym f.0) (follows h1 f.1)
  then_follows (requested h) f = f
  then_follows nothing f = tt

  pub prepared_so : EndFine (and_then (λ h2 s2. follow_ended (value_at h2 s2) h2) (clean_value sp (value_at start sp) start))
  prepared_so = then_follows (clean_value sp (value_at start sp) start) (cleans k coherent few s here_it t y at on i code r sp other e)
