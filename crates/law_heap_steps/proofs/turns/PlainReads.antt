-- Places in a state of the plain machine that shows a coherent cluster's one heap: they lead where they lead in the cluster, with its loads.
use Rattle.std.proofs.Common.{◌≡◌, ℕ, zero, suc, Bool, false, List, [], ◌∷◌, ◌++◌, Option, Some, None, option_map, refl, sym, ap, ◌∙◌}
use Rattle.law_words_kept.specs.Below.fr_base.declared.label.Label.{Label}
use Rattle.law_words_kept.specs.Below.fr_base.declared.label.Label.TheVariants as label
use Rattle.law_words_kept.specs.Below.fr_base.declared.label.Plain.{Plain}
use Rattle.law_words_kept.specs.Below.fr_base.declared.name.MutexNo.{MutexNo}
use Rattle.law_words_kept.specs.Below.fr_base.declared.name.ObjNo.{ObjNo}
use Rattle.law_words_kept.specs.Below.fr_base.declared.place.Lval.{Lval}
use Rattle.law_words_kept.specs.Below.fr_plain.declared.value.Value.TheVariants as plain_v
use Rattle.law_words_kept.specs.Below.fr_plain.Heap.{cell_at}
use Rattle.law_words_kept.specs.Below.fr_plain.State.{State, Reached, loads, led, stars, then_reached}
use Rattle.law_words_kept.specs.Below.fr_plain.State as state
use Rattle.law_words_kept.specs.Below.fr_plain.PlainState.{SameState, plain_state}
use Rattle.law_words_kept.specs.Below.fr_plain.MachineActs.{Did, do_read, do_borrow, read_did, borrow_did, reference}
use Rattle.law_words_kept.specs.Below.fr_plain.MachineActs as acts
use Rattle.law_words_kept.specs.Below.fr_plain.Machine.{mutex_value, mutex_behind}
use Rattle.law_words_kept.specs.Below.fr_sound.Seen.{seen_cell}
use Rattle.law_words_kept.specs.Below.fr_code.Steps.{Place}
use Rattle.law_words_kept.specs.Below.fr_code.Machine.{CodeWhole}
use Rattle.law_words_kept.specs.Below.heap_partition.Plain.{plain_of}
use Rattle.law_words_kept.specs.Below.heap_partition.declared.value.Cell.{Cell}
use Rattle.law_words_kept.specs.Below.heap_partition.declared.value.Owned.TheVariants as owned
use Rattle.law_words_kept.specs.Below.thread_state.declared.value.Value.{Value}
use Rattle.law_words_kept.specs.Below.thread_state.declared.value.Value.TheVariants as value
use Rattle.law_words_kept.specs.Below.server_model.Servers.{Cluster}
use Rattle.law_words_kept.specs.Below.server_model.Places.{load_of}
use Rattle.law_words_kept.specs.Below.coherent_memory.Things.{Location, at_slot, at_temp, in_cell, things_of}
use Rattle.law_words_kept.specs.Below.coherent_memory.Follow.{Standing, Ground, cell_of, slot_of, value_of, value_in, value_behind, leads, locate}
use Rattle.law_words_kept.specs.Below.coherent_memory.Sight.{sight}
use Rattle.law_words_kept.specs.Below.coherent_memory.OneHeap.{one_heap, object_value, plain_value}
use Rattle.law_words_kept.specs.Below.coherent_types.ClusterTypes.{IsCoherent}
use Rattle.law_words_kept.specs.Below.law_words_paths.paths.HeapStore.{GoesOn, HasPaths}
use Rattle.law_words_kept.proofs.Below.law_words_paths.paths.Shown.{shown_value, object_shown, stands_there}
use Rattle.law_words_kept.proofs.Below.law_words_paths.paths.Alike.{IsShown, a_slot, an_object, leads_in_heap, coherent_has_paths}
use Rattle.law_words_kept.proofs.Below.law_words_paths.words.Standing.{cell_among}
use Rattle.law_heap_steps.proofs.turns.PlainTurn.{state_at}
use Rattle.law_heap_steps.proofs.turns.Instructions.{shown_last}
use Rattle.law_heap_steps.proofs.turns.ReadWalk.{loads_of, loads_behind, passed_loads}

-- a location on the plain machine
abbrev pub plain_spot : Location → state.Spot
plain_spot (at_slot u i) = state.in_slot i
plain_spot (at_temp u i) = state.in_slot i
plain_spot (in_cell o) = state.in_cell o

some_is : {A : Type 0} {a b : A} → Some a ≡ Some b → a ≡ b
some_is e = cc

none_more : (ls : List Label) → ls ++ [] ≡ ls
none_more [] = refl
none_more (l ∷ ls) = ap (λ xs. l ∷ xs) (none_more ls)

-- references are in slots, so reading one is no load
slot_unloaded : (s : state.Spot) (i : ℕ) → loads s (plain_v.ToSlot i) ≡ []
slot_unloaded (state.in_slot j) i = refl
slot_unloaded (state.in_cell o) i = refl

object_unloaded : (s : state.Spot) (p : ObjNo) → loads s (plain_v.ToObject p) ≡ []
object_unloaded (state.in_slot j) p = refl
object_unloaded (state.in_cell o) p = refl

abbrev reached : state.Spot → List Label → Reached
reached s ls = record { spot = s; passed = ls }

module _ (k : Cluster) (co : IsCoherent k) (x : Standing) (g : GoesOn k x) where
  abbrev c : HasPaths k
  c = coherent_has_paths k co

  abbrev ground : Ground
  ground = (sight k).ground

  abbrev t : ℕ
  t = x.thread.number

  abbrev Shown : Location → Type 0
  Shown = IsShown k c x g

  pub shown_there : (slot d : ℕ) (l : Location) → locate ground t slot d ≡ Some l → Shown l
  shown_there slot d l e = (leads_in_heap k c x g slot d l e).1

  module _ (a : CodeWhole) (same : SameState (plain_state a) (one_heap k)) where
    abbrev st : State
    st = state_at a t (shown_last x.thread.slots)

    record ShownCell (o : ObjNo) : Type 0 where
      cell : Cell
      found : cell_of ground.cells o ≡ Some cell
      object : cell.object ≡ o
      there : cell_at a.heap o ≡ Some (plain_of cell.value)

    shown_cell : (o : ObjNo) → Shown (in_cell o) → ShownCell o
    shown_cell o (an_object p v e) = by (object_value (sight k) o) refl e
      where
        by : (q : Option Plain) → object_value (sight k) o ≡ q → seen_cell c.types.typing.gives q ≡ Some v → ShownCell o
        by None q f = absurd (cc f)
        by (Some p) q f =
            let s = object_shown (sight k) o p q in
            record { cell = s.0; found = s.1; object = (cell_among o s.0 (things_of k) s.1).object; there = same.objects o ∙ q ∙ ap (λ z. Some z) (sym s.2) }

    value_shown : (l : Location) → Shown l → (v : Value) → value_in ground l ≡ Some v → state.value_at st (plain_spot l) ≡ Some (plain_value v)
    value_shown _ (a_slot i) v e = shown_value x.thread.slots i ∙ ap (option_map plain_value) (sym (ap (λ o. slot_of o i) (stands_there k c x g)) ∙ e)
    value_shown _ (an_object o u h) v e =
        let s = shown_cell o (an_object o u h) in
        let one : value.Own s.cell.value ≡ v = some_is (sym (ap value_of s.found) ∙ e) in
        ap state.owned s.there ∙ ap (λ z. Some (plain_value z)) one

    loads_shown : (l : Location) → Shown l → (v : Value) → value_in ground l ≡ Some v → loads (plain_spot l) (plain_value v) ≡ loads_of ground l
    loads_shown _ (a_slot i) v e = refl
    loads_shown _ (an_object o u h) v e =
        let s = shown_cell o (an_object o u h) in
        let one : value.Own s.cell.value ≡ v = some_is (sym (ap value_of s.found) ∙ e) in
        ap (λ z. loads (state.in_cell o) (plain_value z)) (sym one) ∙ ap (λ q. label.Load q (plain_of s.cell.value) ∷ []) (sym s.object) ∙ ap load_of (sym s.found)

    unloaded : (l : Location) (ls : List Label) → loads_of ground l ≡ [] → ls ≡ ls ++ loads_of ground l
    unloaded l ls e = sym (none_more ls) ∙ ap (λ z. ls ++ z) (sym e)

    led_shown : (l m : Location) (v : Value) (ls : List Label) → Shown l → value_in ground l ≡ Some v → leads t (Some v) ≡ Some m → led (reached (plain_spot l) ls) (Some (plain_value v)) ≡ Some (reached (plain_spot m) (ls ++ loads_of ground l))
    led_shown l m (value.Own (owned.Box p)) ls h e f = ap (λ z. Some (reached (state.in_cell p.object) (ls ++ z))) (loads_shown l h (value.Own (owned.Box p)) e) ∙ ap (λ z. Some (reached (plain_spot z) (ls ++ loads_of ground l))) (some_is f)
    led_shown l m (value.SharedSlot i) ls h e f =
        ap (λ z. Some (reached (state.in_slot i) z)) (unloaded l ls (sym (loads_shown l h (value.SharedSlot i) e) ∙ slot_unloaded (plain_spot l) i)) ∙ ap (λ z. Some (reached (plain_spot z) (ls ++ loads_of ground l))) (some_is f)
    led_shown l m (value.MutSlot i) ls h e f =
        ap (λ z. Some (reached (state.in_slot i) z)) (unloaded l ls (sym (loads_shown l h (value.MutSlot i) e) ∙ slot_unloaded (plain_spot l) i)) ∙ ap (λ z. Some (reached (plain_spot z) (ls ++ loads_of ground l))) (some_is f)
    led_shown l m (value.Shared r) ls h e f =
        ap (λ z. Some (reached (state.in_cell r.object) z)) (unloaded l ls (sym (loads_shown l h (value.Shared r) e) ∙ object_unloaded (plain_spot l) r.object)) ∙ ap (λ z. Some (reached (plain_spot z) (ls ++ loads_of ground l))) (some_is f)
    led_shown l m (value.Mut r) ls h e f =
        ap (λ z. Some (reached (state.in_cell r.object) z)) (unloaded l ls (sym (loads_shown l h (value.Mut r) e) ∙ object_unloaded (plain_spot l) r.object)) ∙ ap (λ z. Some (reached (plain_spot z) (ls ++ loads_of ground l))) (some_is f)
    led_shown l m (value.Own owned.Nothing) ls h e f = absurd (cc f)
    led_shown l m (value.Own owned.Unit) ls h e f = absurd (cc f)
    led_shown l m (value.Own (owned.Int i)) ls h e f = absurd (cc f)
    led_shown l m (value.Own (owned.Mutex q)) ls h e f = absurd (cc f)
    led_shown l m (value.Own (owned.Task q)) ls h e f = absurd (cc f)
    led_shown l m value.Gone ls h e f = absurd (cc f)
    led_shown l m (value.Held q) ls h e f = absurd (cc f)

    next_shown : (slot d : ℕ) (l : Location) (o : Option Location) → locate ground t slot d ≡ o → leads t (value_behind ground o) ≡ Some l → ((m : Location) → locate ground t slot d ≡ Some m → stars st slot d ≡ Some (reached (plain_spot m) (passed_loads ground t slot d)))
        → stars st slot (suc d) ≡ Some (reached (plain_spot l) (passed_loads ground t slot (suc d)))
    next_shown slot d l None q e go = absurd (cc e)
    next_shown slot d l (Some m) q e go = by (value_in ground m) refl e
      where
        ls : List Label
        ls = passed_loads ground t slot d

        by : (o : Option Value) → value_in ground m ≡ o → leads t o ≡ Some l → stars st slot (suc d) ≡ Some (reached (plain_spot l) (passed_loads ground t slot (suc d)))
        by None p f = absurd (cc f)
        by (Some v) p f =
            ap (λ o. then_reached o (λ r. led r (state.value_at st r.spot))) (go m q) ∙ ap (led (reached (plain_spot m) (passed_loads ground t slot d))) (value_shown m (shown_there slot d m q) v p)
            ∙ led_shown m l v (passed_loads ground t slot d) (shown_there slot d m q) p f ∙ ap (λ o. Some (reached (plain_spot l) (passed_loads ground t slot d ++ loads_behind ground o))) (sym q)

    -- where a place leads, with the loads of the pointers on the way
    pub stars_shown : (slot d : ℕ) (l : Location) → locate ground t slot d ≡ Some l → stars st slot d ≡ Some (reached (plain_spot l) (passed_loads ground t slot d))
    stars_shown slot zero l e = ap (λ z. Some (reached (plain_spot z) [])) (some_is e)
    stars_shown slot (suc d) l e = next_shown slot d l (locate ground t slot d) refl e (λ m q. stars_shown slot d m q)

    -- a copy
    pub read_shown : (w : Lval) (l : Location) (v : Value) → locate ground t w.slot w.depth ≡ Some l → value_in ground l ≡ Some v
        → acts.act {B = Place} (do_read w false) st ≡ Some (record { value = plain_value v; state = st; labels = passed_loads ground t w.slot w.depth ++ loads_of ground l })
    read_shown w l v e f =
        let h = shown_there w.slot w.depth l e in
        ap (λ o. then_reached o (λ r. read_did st false r (state.value_at st r.spot))) (stars_shown w.slot w.depth l e)
        ∙ ap (read_did st false (reached (plain_spot l) (passed_loads ground t w.slot w.depth))) (value_shown l h v f)
        ∙ ap (λ z. Some (record { value = plain_value v; state = st; labels = passed_loads ground t w.slot w.depth ++ z })) (loads_shown l h v f)

    -- a borrow
    pub borrow_shown : (w : Lval) (is_mut : Bool) (l : Location) → locate ground t w.slot w.depth ≡ Some l
        → acts.act {B = Place} (do_borrow w is_mut) st ≡ Some (record { value = reference (plain_spot l); state = st; labels = passed_loads ground t w.slot w.depth })
    borrow_shown w is_mut l e = ap (λ o. then_reached o (borrow_did st)) (stars_shown w.slot w.depth l e)

    -- the mutex to which a place leads
    pub mutex_shown : (w : Lval) (l : Location) (m : MutexNo) → locate ground t w.slot w.depth ≡ Some l → value_in ground l ≡ Some (value.Own (owned.Mutex m)) → mutex_behind st w ≡ Some (m, passed_loads ground t w.slot w.depth ++ loads_of ground l)
    mutex_shown w l m e f =
        let h = shown_there w.slot w.depth l e in
        ap (λ o. then_reached o (λ r. mutex_value r (state.value_at st r.spot))) (stars_shown w.slot w.depth l e)
        ∙ ap (mutex_value (reached (plain_spot l) (passed_loads ground t w.slot w.depth))) (value_shown l h (value.Own (owned.Mutex m)) f)
        ∙ ap (λ z. Some (m, passed_loads ground t w.slot w.depth ++ z)) (loads_shown l h (value.Own (owned.Mutex m)) f)
