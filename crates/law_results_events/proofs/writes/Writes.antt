-- Assignments and moves through stars have results: each hop is ready or its object is asked for, and what stands at the end takes a value.
use Rattle.std.proofs.Common.{◌≡◌, ◌≤◌, ◌<◌, ℕ, suc, nat_lt, true, false, if◌then◌else◌, List, length, Option, Some, None, option_map, IsSome, refl, sym, ap, subst, ◌∙◌, arith}
use Rattle.std.specs.Prelude.{slice_get, slice_set}
use Rattle.std.specs.Bool.{⊤}
use Rattle.std.proofs.lemmas.Option.{slice_get_within}
use Rattle.std.proofs.lemmas.Bool.Decides.{nat_tests}
use Rattle.law_results_reads.specs.Below.fr_base.declared.label.Label.{Label}
use Rattle.law_results_reads.specs.Below.fr_base.declared.name.ObjNo.{ObjNo}
use Rattle.law_results_reads.specs.Below.fr_base.declared.place.Lval.{Lval}
use Rattle.law_results_reads.specs.Below.fr_base.declared.step.Fresh.TheVariants as fresh
use Rattle.law_results_reads.specs.Below.fr_base.declared.instruction.Instr.{Instr}
use Rattle.law_results_reads.specs.Below.fr_typing.Kinds.{Owned as OwnedType, Kind, own, shared, mutable, view, Piece, whole, gone, boxed, map_some}
use Rattle.law_results_reads.specs.Below.fr_typing.Places.{Shape, owned_shape, piece_shape, equal_shapes, first_shape, shared_to, mutable_to}
use Rattle.law_results_reads.specs.Below.fr_typing.Checks.{is_kept_out}
use Rattle.law_results_reads.specs.Below.fr_store.Keys.{Key, slot_k}
use Rattle.law_results_reads.specs.Below.fr_store.Typed.{Tree, Exact, owns, refers, KeyTypes, Resolves}
use Rattle.law_results_reads.specs.Below.fr_store.Below.{TreeOf, RefOf, ExactOf}
use Rattle.law_results_reads.specs.Below.heap_partition.declared.value.Cell.{Cell}
use Rattle.law_results_reads.specs.Below.heap_partition.declared.value.Owned.{Owned}
use Rattle.law_results_reads.specs.Below.heap_partition.declared.value.Owned.TheVariants as owned
use Rattle.law_results_reads.specs.Below.migration.Packing.{unpin_all}
use Rattle.law_results_reads.specs.Below.owner_box.Partition.{stored}
use Rattle.law_results_reads.specs.Below.thread_state.View.{ThreadState}
use Rattle.law_results_reads.specs.Below.thread_state.declared.value.Value.{Value}
use Rattle.law_results_reads.specs.Below.thread_state.declared.value.Value.TheVariants as value
use Rattle.law_results_reads.specs.Below.server_model.Servers.{Rest, Server, Cluster}
use Rattle.law_results_reads.specs.Below.server_model.Work.{Hand, with_slots, with_temps, with_partition, working, push_temp, label_all, then_some}
use Rattle.law_results_reads.specs.Below.server_model.Places.{Spot, in_slot, in_cell, nowhere, value_in as cell_value, value_at, cell_at, load_of, load_at, put_slot, note_write}
use Rattle.law_results_reads.specs.Below.server_model.Prepare.{Prepared, ready, requested, nothing, write_stars}
use Rattle.law_results_reads.specs.Below.server_model.Drop.{give_up, drop_labels, drop_value}
use Rattle.law_results_reads.specs.Below.server_model.Commit.{goes_on, go_on, label_dropped, store_labels, store_at, replace_at, take_out, read, commit}
use Rattle.law_results_reads.specs.Below.server_model.Events.{committed, prepared}
use Rattle.law_results_reads.specs.Below.coherent_memory.Things.{Location, at_slot, in_cell as in_object}
use Rattle.law_results_reads.specs.Below.coherent_memory.Follow.{Standing, Ground, value_in, slot_of}
use Rattle.law_results_reads.specs.Below.coherent_memory.Paths.{written_place}
use Rattle.law_results_reads.specs.Below.coherent_memory.Sight.{sight}
use Rattle.law_results_reads.specs.Below.coherent_memory.Walking.{path}
use Rattle.law_results_reads.specs.Below.coherent_types.Names.{NameTypes}
use Rattle.law_results_reads.specs.Below.coherent_types.ClusterTypes.{has_form}
use Rattle.law_results_reads.specs.Below.law_words_paths.paths.HeapStore.{GoesOn, IsUnmarked, HasPaths}
use Rattle.law_results_reads.proofs.Below.law_words_paths.paths.Shown.{stands_there}
use Rattle.law_results_reads.proofs.Below.law_words_paths.paths.Sole.{some_is}
use Rattle.law_results_reads.proofs.Usable.{walk_goes}
use Rattle.law_results_reads.proofs.Known.{settled, Steps, hand, standing, paths, goes, usable}
use Rattle.law_results_reads.proofs.Lines as line
use Rattle.law_results_reads.proofs.Found.{Stood, stands_so}
use Rattle.law_results_reads.proofs.Mutables.{end_whole}
use Rattle.law_results_events.proofs.writes.Memory.{leads_on, looks}
use Rattle.law_results_events.proofs.writes.Route.{Hop, by_slot, by_reference, by_box, by_cell, Route, Writing, begins, At, a_slot, a_cell, Fine, all_hops}
use Rattle.law_results_events.proofs.writes.StepRoutes.{C, at, its_route}

-- WHAT STANDS AT THE END

-- an owned value, or nothing
pub data Light : Value → Type 0 where
  owned_value : (v : Owned) → Light (value.Own v)
  nothing_left : Light value.Gone

pub light_form : (n : NameTypes) (P : Piece) (t : Tree) (v : Value) → TreeOf P t → has_form n P v ≡ true → Light v
light_form n (whole (own o)) t v x f = by v f
  where
    by : (v : Value) → has_form n (whole (own o)) v ≡ true → Light v
    by (value.Own u) f = owned_value u
    by _ f = absurd (cc f)
light_form n (whole (shared us)) t v x f = absurd x
light_form n (whole (mutable us)) t v x f = absurd x
light_form n (whole (view o)) t v x f = absurd x
light_form n (gone k) t v x f = by v f
  where
    by : (v : Value) → has_form n (gone k) v ≡ true → Light v
    by value.Gone f = nothing_left
    by _ f = absurd (cc f)
light_form n (boxed p) t v x f = by v f
  where
    by : (v : Value) → has_form n (boxed p) v ≡ true → Light v
    by (value.Own u) f = owned_value u
    by _ f = absurd (cc f)

-- a part with the shape of an owned type refers to nothing
pub owned_part : (look : Lval → Option Shape) (key : ℕ → Key) (E : KeyTypes) (p : Piece) (o : OwnedType) (q : Exact) → equal_shapes (piece_shape look p) (Some (owned_shape o)) ≡ true → ExactOf key E p q → (t : Tree) × (q ≡ owns t)
owned_part look key E p o (owns t) s x = (t, refl)
owned_part look key E p o (refers m u) s x = by p s x
  where
    no_shared : (f : Option Shape) → equal_shapes (map_some shared_to f) (Some (owned_shape o)) ≡ true → ⊥
    no_shared None e = cc e
    no_shared (Some a) e = cc e

    no_mutable : (f : Option Shape) → equal_shapes (map_some mutable_to f) (Some (owned_shape o)) ≡ true → ⊥
    no_mutable None e = cc e
    no_mutable (Some a) e = cc e

    by : (p : Piece) → equal_shapes (piece_shape look p) (Some (owned_shape o)) ≡ true → RefOf key E p m u → (t : Tree) × (refers m u ≡ owns t)
    by (whole (own a)) s x = absurd x
    by (whole (shared us)) s x = absurd (no_shared (first_shape look us) s)
    by (whole (mutable us)) s x = absurd (no_mutable (first_shape look us) s)
    by (whole (view a)) s x = absurd (cc s)
    by (gone a) s x = absurd x
    by (boxed a) s x = absurd x

no_star : (d : ℕ) → nat_lt 0 (suc d) ≡ false → ⊥
no_star d e = let l : suc d ≤ 0 = grind (arith, nat_tests, e) in absurd (omega (arith, l))

-- what is assigned through a star is owned
pub kept_owned : (k : Kind) (d : ℕ) → is_kept_out k (suc d) ≡ false → (o : OwnedType) × (k ≡ own o)
kept_owned (own o) d e = (o, refl)
kept_owned (shared us) d e = absurd (no_star d e)
kept_owned (mutable us) d e = absurd (no_star d e)
kept_owned (view o) d e = absurd (no_star d e)

-- PUTTING IT THERE

-- a change of the hand that leaves the walk and the copies
abbrev Left : Hand → Option Hand → Type 0
Left h o = (h2 : Hand) × (o ≡ Some h2) × (h2.thread.walk ≡ h.thread.walk) × (h2.work.rest.cache ≡ h.work.rest.cache)

labelled_value : (ls : List Label) (h : Hand) (sp : Spot) → value_at (working (label_all ls) h) sp ≡ value_at h sp
labelled_value ls h (in_slot m) = refl
labelled_value ls h Rattle.law_results_reads.specs.Below.server_model.Places.on_top = refl
labelled_value ls h (in_cell w q) = refl
labelled_value ls h (Rattle.law_results_reads.specs.Below.server_model.Places.in_copy w) = refl
labelled_value ls h nowhere = refl

module _ (r : Rest) (y : ThreadState) (C0 : ObjNo → Option Cell) (at0 : ℕ → Option Location) where
  abbrev There : Hand → ℕ → Spot → Location → Type 0
  There h n sp l = At r y C0 at0 h.work.rest.partition n sp l

  puts_slot : (h : Hand) (m : ℕ) (old v : Value) → slice_get h.thread.slots m ≡ Some old → Left h (put_slot m v h)
  puts_slot h m old v e =
      let within : m < length h.thread.slots = slice_get_within h.thread.slots m old e in
      let test : nat_lt m (length h.thread.slots) ≡ true = grind (arith, nat_tests, within) in
      let h2 : Hand = with_slots (slice_set h.thread.slots m v) h in
      (h2, ap (λ t. if t then Some h2 else None) test, refl, refl)

  noted_walk : (q : Option ℕ) (h : Hand) → (note_write q h).thread.walk ≡ h.thread.walk
  noted_walk None h = refl
  noted_walk (Some i) h = refl

  noted_cache : (q : Option ℕ) (h : Hand) → (note_write q h).work.rest.cache ≡ h.work.rest.cache
  noted_cache None h = refl
  noted_cache (Some i) h = refl

  stores : (h : Hand) (n : ℕ) (sp : Spot) (l : Location) (old : Value) (v : Owned) → There h n sp l → value_at h sp ≡ Some old → Left h (store_at sp v h)
  stores h n _ _ old v (a_slot m) e =
      let p = puts_slot (working (label_all (store_labels (cell_at h (in_slot m)) v)) h) m old (value.Own v) e in
      (p.0, p.1, p.2, p.3)
  stores h n _ _ old v (a_cell w q o d leads there object behind) e =
      let h1 : Hand = working (label_all (store_labels (cell_at h (in_cell w q)) v)) h in
      let h2 : Hand = working (with_partition (stored h.work.rest.partition w v)) h1 in
      (note_write q h2, ap (λ t. if t then Some (note_write q h2) else None) (leads_on h.work.rest.partition w d leads), noted_walk q h2, noted_cache q h2)

  takes : (h : Hand) (n : ℕ) (sp : Spot) (l : Location) (old : Value) → There h n sp l → value_at h sp ≡ Some old → Left h (take_out sp h)
  takes h n _ _ old (a_slot m) e = puts_slot h m old value.Gone e
  takes h n _ _ old (a_cell w q o d leads there object behind) e = stores h n (in_cell w q) (in_object o) old owned.Nothing (a_cell w q o d leads there object behind) e

  -- the value at the end, whatever is on top
  pub under_temps : (h : Hand) (n : ℕ) (sp : Spot) (l : Location) (vs : List Value) → There h n sp l → value_at (with_temps vs h) sp ≡ value_at h sp
  under_temps h n _ _ vs (a_slot m) = refl
  under_temps h n _ _ vs (a_cell w q o d leads there object behind) = refl

-- THE STEP

module _ (k : Cluster) (n t : ℕ) (s : Server) (y : ThreadState) (i : Instr) (z : Steps k n t s y i) where
  abbrev x : Standing
  x = standing k n t s y i z

  abbrev c : HasPaths k
  c = paths k n t s y i z

  abbrev on : GoesOn k x
  on = goes k n t s y i z

  abbrev g : Ground
  g = (sight k).ground

  abbrev tn : ℕ
  tn = y.number

  abbrev E : KeyTypes
  E = c.types.typing.exact

  abbrev h0 : Hand
  h0 = hand k n t s y i z

  abbrev servers : ℕ
  servers = k.options.servers

  abbrev Goes : Option Hand → Type 0
  Goes o = IsSome (committed (goes_on o))

  -- a hand with the walk and the copies of the start
  pub record IsKept (h : Hand) : Type 0 where
    pub walk : h.thread.walk ≡ y.walk
    pub cache : h.work.rest.cache ≡ s.rest.cache

  settles : (h : Hand) → IsKept h → Goes (Some h)
  settles h a =
      settled fresh.None (go_on h) (subst (λ ws. IsSome (unpin_all ws h.work.rest.cache)) (sym a.walk) (subst (λ cs. IsSome (unpin_all y.walk cs)) (sym a.cache) (walk_goes y s.rest.cache (usable k n t s y i z))))

  module _ (w : Lval) (d : ℕ) (depth : w.depth ≡ suc d) (writes : written_place (path (sight k) x) ≡ Some w) (short : w.depth ≤ 8) (base : Key) (boxes : ℕ) (type : Exact) (resolves : Resolves E true (slot_k tn w.slot) w.depth base boxes type) (unmarked : IsUnmarked x w.slot) where
    abbrev Cells : ObjNo → Option Cell
    Cells = C k n t s y i z w writes short base boxes type resolves unmarked

    abbrev leads : ℕ → Option Location
    leads = at k n t s y i z w writes short base boxes type resolves unmarked

    route : Route s.rest y Cells leads w.depth
    route = its_route k n t s y i z w writes short base boxes type resolves unmarked

    abbrev OnWay : Hand → Type 0
    OnWay h = Writing s.rest y Cells leads w.depth h

    fine : Fine s.rest y Cells leads ⊤ w.depth (write_stars w.depth 0 h0 (in_slot w.slot))
    fine = all_hops s.rest y Cells leads ⊤ w.depth route (λ j less le. tt) w.depth 0 (omega arith) h0 (in_slot w.slot) (at_slot tn w.slot) refl (a_slot w.slot) (begins s.rest y Cells leads h0 refl refl)

    pub kept : (h : Hand) → OnWay h → IsKept h
    kept h a = record { walk = ap (λ (q : ThreadState). q.walk) a.thread; cache = ap (λ (q : Rest). q.cache) a.rest }

    -- a slot at the end is one to which a mutable reference leads, so something stands there
    slot_end : (m : ℕ) → leads w.depth ≡ Some (at_slot tn m) → (v : Value) × (slice_get y.slots m ≡ Some v) × Stood k c x on type (at_slot tn m) v
    slot_end m ends =
        let before = route.leads_there d (omega (arith, depth)) in
        let more : leads (suc d) ≡ Some (at_slot tn m) = ap leads (sym depth) ∙ ends in
        by before.0 (at_slot tn m) before.1 refl (route.hop d (omega (arith, depth)) before.0 (at_slot tn m) before.1 more)
      where
        no_object : (o : ObjNo) → in_object o ≡ at_slot tn m → ⊥
        no_object o e = absurd (cc e)

        filled : (j b : ℕ) → leads d ≡ Some (at_slot tn j) → slice_get y.slots j ≡ Some (value.MutSlot b) → b ≡ m → (v : Value) × (slice_get y.slots m ≡ Some v) × Stood k c x on type (at_slot tn m) v
        filled j b located there same =
            let stands : value_in g (at_slot tn j) ≡ Some (value.MutSlot b) = ap (λ o. slot_of o j) (stands_there k c x on) ∙ there in
            let whole_there = end_whole k c x on w.slot w.depth base boxes type resolves d depth j b located (ends ∙ ap (λ q. Some (at_slot tn q)) (sym same)) stands in
            let r = stands_so k c x on true w base boxes type unmarked resolves whole_there in
            let at_it : r.0 ≡ at_slot tn m = some_is (sym r.2 ∙ ends) in
            (r.1, sym (ap (λ o. slot_of o m) (stands_there k c x on)) ∙ ap (value_in g) (sym at_it) ∙ r.3, subst (λ q. Stood k c x on type q r.1) at_it r.4)

        same_slot : {a b : ℕ} → at_slot tn a ≡ at_slot tn b → a ≡ b
        same_slot e = cc

        by : (a b : Location) → leads d ≡ Some a → b ≡ at_slot tn m → Hop s.rest y Cells leads d a b → (v : Value) × (slice_get y.slots m ≡ Some v) × Stood k c x on type (at_slot tn m) v
        by _ _ located e (by_slot j b there) = filled j b located there (same_slot e)
        by _ _ located e (by_reference j q there b) = absurd (no_object q.object e)
        by _ _ located e (by_box j p there b) = absurd (no_object p.object e)
        by _ _ located e (by_cell o q p there b u) = absurd (no_object p.object e)

    -- what stands at the end, in the hand
    pub record EndIs (h : Hand) (sp : Spot) : Type 0 where
      pub item : Value
      pub there : value_at h sp ≡ Some item
      pub light : ((m : ℕ) (v : Value) → Stood k c x on type (at_slot tn m) v → Light v) → Light item

    pub end_is : (h : Hand) (sp : Spot) (l : Location) → leads w.depth ≡ Some l → At s.rest y Cells leads h.work.rest.partition w.depth sp l → OnWay h → EndIs h sp
    end_is h _ _ ends (a_cell b q o cell leads_it there object behind) a = record { item = value.Own cell.value; there = ap cell_value (looks h.work.rest.partition b cell leads_it); light = λ f. owned_value cell.value }
    end_is h _ _ ends (a_slot m) a =
        let v = slot_end m ends in
        record { item = v.0; there = a.slots m (λ j less e. route.apart w.depth j less (omega arith) (at_slot tn m) e ends) ∙ v.1; light = λ f. f m v.0 v.2 }

    -- AN ASSIGNMENT

    drops : (h : Hand) (old : Value) → Light old → IsKept h → Goes (drop_value nowhere old h)
    drops h _ (owned_value v) a = settles (working (give_up v) h) (record { walk = a.walk; cache = line.given_cache v h.work ∙ a.cache })
    drops h _ nothing_left a = settles h a

    pub replaces : (h : Hand) (sp : Spot) (l : Location) (old : Value) (v : Owned) → At s.rest y Cells leads h.work.rest.partition w.depth sp l → IsKept h → value_at h sp ≡ Some old → Light old → Goes (replace_at sp v h)
    replaces h sp l old v spot a there light =
        let h1 : Hand = label_dropped old h in
        let p = stores s.rest y Cells leads h1 w.depth sp l old v spot (labelled_value (drop_labels old) h sp ∙ there) in
        subst (λ o. Goes (then_some o (λ q. then_some (store_at sp v (label_dropped q h)) (drop_value nowhere q)))) (sym there)
        (subst (λ o. Goes (then_some o (drop_value nowhere old))) (sym p.1) (drops p.0 old light (record { walk = p.2 ∙ a.walk; cache = p.3 ∙ a.cache })))

    -- A MOVE

    pub moves_out : (h : Hand) (sp : Spot) (l : Location) (old : Value) → At s.rest y Cells leads h.work.rest.partition w.depth sp l → IsKept h → value_at h sp ≡ Some old → Goes (read true sp h)
    moves_out h sp l old spot a there =
        let h1 : Hand = load_at sp h in
        let p = takes s.rest y Cells leads h1 w.depth sp l old spot (labelled_value (load_of (cell_at h sp)) h sp ∙ there) in
        subst (λ o. Goes (then_some o (λ v. option_map (push_temp v) (take_out sp (load_at sp h))))) (sym there)
        (subst (λ o. Goes (option_map (push_temp old) o)) (sym p.1) (settles (push_temp old p.0) (record { walk = p.2 ∙ a.walk; cache = p.3 ∙ a.cache })))

    -- where the place is ready, or something is asked for, the step goes on
    pub goes_so : ((h : Hand) (sp : Spot) (l : Location) → leads w.depth ≡ Some l → At s.rest y Cells leads h.work.rest.partition w.depth sp l → OnWay h → IsSome (committed (commit servers i sp h))) → IsSome (prepared servers i (write_stars w.depth 0 h0 (in_slot w.slot)))
    goes_so go = by (write_stars w.depth 0 h0 (in_slot w.slot)) fine
      where
        by : (p : Prepared) → Fine s.rest y Cells leads ⊤ w.depth p → IsSome (prepared servers i p)
        by (ready h sp) f = go h sp f.0 f.1 f.2 f.3
        by (requested h) f = refl
        by nothing f = absurd f
