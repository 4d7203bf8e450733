-- The slots and temporary values of each thread have the forms of its entry, in each cluster whose one heap is typed.
use Rattle.law_heap_still.specs.Below.fr_sound.Seen.{Gives, seen_cell}
use Rattle.std.proofs.Common.{◌≡◌, ◌≢◌, ◌⊎◌, inl, inr, ℕ, zero, suc, ◌<◌, ◌≤◌, ◌==◌, not, Bool, true, false, if◌then◌else◌, List, [], ◌∷◌, reverse, map, length, Option, Some, None, refl, sym, ap, subst, ◌∙◌, arith}
use Rattle.std.specs.Prelude.{slice_get, is_some}
use Rattle.std.proofs.lemmas.List.{length-reverse, length-map}
use Rattle.std.proofs.lemmas.Bool.Decides.{nat_tests}
use Rattle.law_heap_still.specs.Below.fr_base.declared.name.ObjNo.{ObjNo}
use Rattle.law_heap_still.specs.Below.fr_base.declared.name.MutexNo.{MutexNo}
use Rattle.law_heap_still.specs.Below.fr_base.declared.label.Plain.{Plain}
use Rattle.law_heap_still.specs.Below.thread_state.View.{is_over}
use Rattle.law_heap_still.specs.Below.thread_state.declared.value.Value.{Value}
use Rattle.law_heap_still.specs.Below.thread_state.declared.value.Value.TheVariants as value
use Rattle.law_heap_still.specs.Below.server_model.Servers.{Cluster}
use Rattle.law_heap_still.specs.Below.fr_typing.Kinds.{Owned as OwnedType, unit, int, box, mutex, task, Kind, own, shared, mutable, view, Piece, whole, gone, boxed, map_some}
use Rattle.law_heap_still.specs.Below.fr_typing.Places.{Slot, Env}
use Rattle.law_heap_still.specs.Below.fr_typing.Checks.{is_int}
use Rattle.law_heap_still.specs.Below.fr_store.Keys.{Key, slot_k, temp_k}
use Rattle.law_heap_still.specs.Below.fr_store.Store.{at_key, at_object, Val, gone_v, box_v, ref_v, Store, Place as StorePlace, add, below_key, box_target, value_at}
use Rattle.law_heap_still.specs.Below.fr_store.Typed.{Tree, hole, box_tree, Exact, owns, refers, KeyTypes, tree_under, some_owns, exact_under, Resolves, here, through}
use Rattle.law_heap_still.specs.Below.fr_store.Below.{tree_of, TreeOf, ExactOf, SlotsBelow, Seen}
use Rattle.law_heap_still.specs.Below.fr_store.Thread.{TempIs}
use Rattle.law_heap_still.proofs.Below.fr_store.Sound.{ref_at, res_part}
use Rattle.law_heap_still.proofs.Below.fr_store.Rows.{found_place}
use Rattle.law_heap_still.specs.Below.fr_plain.PlainState.{place_in, place_of}
use Rattle.law_heap_still.specs.Below.fr_sound.States.{env_at, part_of, owned_part, owned_kind, hand_key, hand_kind, operands, IsThread, is_hidden, is_held, slot_val}
use Rattle.law_plain_values.proofs.acts.Envs.{same_tree}
use Rattle.law_heap_still.specs.Below.fr_code.Machine.{CodeRunning}
use Rattle.law_heap_still.specs.Below.fr_code.Steps.{Place}
use Rattle.law_heap_still.specs.Below.fr_code.CodeTypes.{Entry}
use Rattle.law_heap_still.specs.Below.coherent_memory.Names.{tot, other, if_so, Among}
use Rattle.law_heap_still.specs.Below.coherent_memory.Things.{things_of}
use Rattle.law_heap_still.specs.Below.coherent_memory.Follow.{Standing, threads_in, thread_at}
use Rattle.law_heap_still.specs.Below.coherent_memory.Sight.{sight}
use Rattle.law_heap_still.specs.Below.coherent_memory.OneHeap.{one_heap, plain_value, ended_with, life_of, life_at, if_given, is_given_thread}
use Rattle.law_heap_still.specs.Below.coherent_types.Names.{NameTypes, names_of}
use Rattle.law_heap_still.specs.Below.coherent_types.ClusterTypes.{has_form, is_mark, slot_form, slots_wrong, temps_wrong, entry_wrong, forms_of, forms_wrong}
use Rattle.law_heap_still.specs.Below.law_words_paths.paths.HeapStore.{GoesOn}
use Rattle.law_heap_still.proofs.Below.law_words_paths.paths.Sole.{some_is}
use Rattle.law_heap_still.proofs.Below.law_words_paths.paths.Shown.{at_behind, behind_is}
use Rattle.law_heap_still.proofs.Below.law_words_paths.paths.Contained.{among_thread}
use Rattle.law_types_still.specs.heap.Counted.{has_sort, slot_sort, slots_unsorted, temps_unsorted, sorts_of, sorts_wrong, AreTheseTypes}
use Rattle.law_types_still.proofs.heap.Following.{HasHeap, heap_of, stands_there}
use Rattle.law_types_still.proofs.heap.Values.{seen_as, slot_seen, temp_seen, running, held_shown}
use Rattle.law_types_still.proofs.heap.Leads.{each_none, from_other, to_other}
use Rattle.law_types_still.proofs.heap.Objects.{none_below, keys, seek_finds, under_boxes, entry_in, some_part, slot_type, temp_type, some_kind, key_type, seek_some, slot_among, temp_among, object_type, object_is}
use Rattle.law_types_still.proofs.heap.Forms.{Leads, value_form, within_env, newest, older, slots_right, exact_at}

-- TYPES UNDER BOXES

no_hole : (a : OwnedType) → tree_of a ≡ hole → ⊥
no_hole unit e = cc
no_hole int e = cc
no_hole (box a) e = cc
no_hole (mutex a) e = cc
no_hole (task a) e = cc

-- a part with a whole tree is of that type
whole_part : (p : Piece) (a : OwnedType) → TreeOf p (tree_of a) → owned_part p ≡ Some a
whole_part (whole (own o)) a h = ap Some (same_tree o a (sym h))
whole_part (whole (shared us)) a h = absurd h
whole_part (whole (mutable us)) a h = absurd h
whole_part (whole (view o)) a h = absurd h
whole_part (gone q) a h = absurd (no_hole a h)
whole_part (boxed p) unit h = let e = h.1 in absurd cc
whole_part (boxed p) int h = let e = h.1 in absurd cc
whole_part (boxed p) (box a) h = let e : box_tree (tree_of a) ≡ box_tree h.0 = h.1 in let t : h.0 ≡ tree_of a = cc in ap (map_some box) (whole_part p a (subst (TreeOf p) t h.2))
whole_part (boxed p) (mutex a) h = let e = h.1 in absurd cc
whole_part (boxed p) (task a) h = let e = h.1 in absurd cc

owned_under : (n : ℕ) (o a : OwnedType) → tree_under n (tree_of o) ≡ Some (tree_of a) → under_boxes n o ≡ Some a
owned_under zero o a e = ap Some (same_tree o a (some_is e))
owned_under (suc n) unit a e = absurd cc
owned_under (suc n) int a e = absurd cc
owned_under (suc n) (box o) a e = owned_under n o a e
owned_under (suc n) (mutex o) a e = absurd cc
owned_under (suc n) (task o) a e = absurd cc

-- a part has an owned type, which has what stands under its boxes
pub record PartUnder (p : Piece) (n : ℕ) (a : OwnedType) : Type 0 where
  pub type : OwnedType
  pub is : owned_part p ≡ Some type
  pub under : under_boxes n type ≡ Some a

part_under : (p : Piece) (n : ℕ) (t : Tree) (a : OwnedType) → TreeOf p t → tree_under n t ≡ Some (tree_of a) → PartUnder p n a
part_under p zero t a h e = record { type = a; is = whole_part p a (subst (TreeOf p) (some_is e) h); under = refl }
part_under (whole (own o)) (suc n) t a h e = record { type = o; is = refl; under = owned_under (suc n) o a (sym (ap (tree_under (suc n)) h) ∙ e) }
part_under (whole (shared us)) (suc n) t a h e = absurd h
part_under (whole (mutable us)) (suc n) t a h e = absurd h
part_under (whole (view o)) (suc n) t a h e = absurd h
part_under (gone q) (suc n) t a h e = let z : None ≡ Some (tree_of a) = sym (ap (tree_under (suc n)) h) ∙ e in absurd cc
part_under (boxed p) (suc n) t a h e =
    let r = part_under p n h.0 a h.2 (sym (ap (tree_under (suc n)) h.1) ∙ e) in
    record { type = box r.type; is = ap (map_some box) r.is; under = r.under }

-- KEYS

-- where exact types name slots alone, a slot resolves to a slot
slot_base : (E : KeyTypes) → ((k : Key) (m : Bool) (u : StorePlace) → E k ≡ refers m u → (t : ℕ) × (i : ℕ) × (u.key ≡ slot_k t i)) → (only : Bool) (k : Key) (d : ℕ) (b : Key) (n : ℕ) (p : Exact) → Resolves E only k d b n p
    → (t : ℕ) × (i : ℕ) × (k ≡ slot_k t i) → (t : ℕ) × (i : ℕ) × (b ≡ slot_k t i)
slot_base E near only k d b n p (here e) h = h
slot_base E near only k d b n p (through m u e is o de r) h = slot_base E near only u.key (add u.depth e) b n p r (near k m u is)

number_itself : (n : ℕ) → (n == n) ≡ true
number_itself n = grind (arith, nat_tests)

there_env : (e : Env) (i : ℕ) → i < length e → (x : Slot) × (env_at e i ≡ Some x)
there_env [] i l = absurd (omega (arith, l))
there_env (y ∷ e) i l = by (i == length e) refl (λ m. there_env e i m)
  where
    by : (q : Bool) → (i == length e) ≡ q → (i < length e → (x : Slot) × (env_at e i ≡ Some x)) → (x : Slot) × ((if q then Some y else env_at e i) ≡ Some x)
    by true h go = (y, refl)
    by false h go = go (let ne : i ≢ length e = (λ f. (let z : (i == length e) ≡ true = newest_test i (length e) f in (let w : true ≡ false = sym z ∙ h in cc))) in omega (arith, l, ne))
      where
        newest_test : (a b : ℕ) → a ≡ b → (a == b) ≡ true
        newest_test a b f = subst (λ c. (a == c) ≡ true) f (number_itself a)

either_less : (i n : ℕ) → (i < n) ⊎ (n ≤ i)
either_less zero zero = inr (omega arith)
either_less zero (suc n) = inl (omega arith)
either_less (suc i) zero = inr (omega arith)
either_less (suc i) (suc n) = by (either_less i n)
  where
    by : (i < n) ⊎ (n ≤ i) → (suc i < suc n) ⊎ (suc n ≤ suc i)
    by (inl l) = inl (omega (arith, l))
    by (inr l) = inr (omega (arith, l))

-- RUNNING THREADS

no_life : (o : Option Plain) (x : CodeRunning) → place_of (ended_with o) ≡ Some x → ⊥
no_life None x e = cc
no_life (Some v) x e = cc

-- a thread that runs in the one heap stands somewhere and goes on
pub record StandsThere (k : Cluster) (t : ℕ) : Type 0 where
  pub standing : Standing
  pub goes : GoesOn k standing
  pub number : standing.thread.number ≡ t

stands_running : (k : Cluster) (t : ℕ) (x : CodeRunning) → place_in ((one_heap k).thread t) ≡ Some x → StandsThere k t
stands_running k t x e = by_given (is_given_thread (sight k) t) e
  where
    by_over : (y : Standing) → thread_at (sight k).ground.threads t ≡ Some y → (q : Bool) → is_over y.thread.phase ≡ q → place_of (life_of (sight k) y.thread q) ≡ Some x → StandsThere k t
    by_over y at true h f = absurd (no_life _ x f)
    by_over y at false h f = let a = among_thread (sight k).ground.threads t y at in record { standing = y; goes = record { among = a.0; going = h }; number = a.1 }

    by_standing : (o : Option Standing) → thread_at (sight k).ground.threads t ≡ o → place_of (life_at (sight k) t o) ≡ Some x → StandsThere k t
    by_standing None at f = absurd (no_life _ x f)
    by_standing (Some y) at f = by_over y at (is_over y.thread.phase) refl f

    by_given : (q : Bool) → place_in (if_given q (life_at (sight k) t (thread_at (sight k).ground.threads t))) ≡ Some x → StandsThere k t
    by_given true f = by_standing (thread_at (sight k).ground.threads t) refl f
    by_given false f = absurd cc

no_box_gone : (o : ObjNo) → gone_v ≡ box_v o → ⊥
no_box_gone o e = cc

-- an object that stands in the store is in the one heap
heap_there : (g : Gives) (r : Option Plain) (w : Val) → seen_cell g r ≡ Some w → (v : Plain) × (r ≡ Some v)
heap_there g None w e = absurd cc
heap_there g (Some v) w e = (v, refl)

module _ (k : Cluster) (c : HasHeap k) (object : ObjNo → OwnedType) (these : AreTheseTypes k object (object_type k c)) where
  abbrev E : KeyTypes
  E = c.typing.exact

  abbrev st : Store
  st = heap_of k c

  -- OF ONE THREAD
  module _ (x : Standing) (g : GoesOn k x) where
    abbrev n : ℕ
    n = x.thread.number

    abbrev entry : Entry
    entry = (running k c x g).entry

    slots_below : SlotsBelow (slot_k n) E entry.env
    slots_below = by entry.forked (running k c x g).thread
      where
        by : (b : Bool) → IsThread b (slot_k n) c.typing.rank (hand_key n entry.temps) entry.env E st (hand_kind entry.temps) → SlotsBelow (slot_k n) E entry.env
        by true t = t.slots
        by false t = t.slots

    above_none : (i : ℕ) → length entry.env ≤ i → E (slot_k n i) ≡ owns hole
    above_none = by entry.forked (running k c x g).thread
      where
        by : (b : Bool) → IsThread b (slot_k n) c.typing.rank (hand_key n entry.temps) entry.env E st (hand_kind entry.temps) → (i : ℕ) → length entry.env ≤ i → E (slot_k n i) ≡ owns hole
        by true t = t.above
        by false t = t.above

    hand_is : TempIs (slot_k n) E (hand_key n entry.temps) (hand_kind entry.temps)
    hand_is = by entry.forked (running k c x g).thread
      where
        by : (b : Bool) → IsThread b (slot_k n) c.typing.rank (hand_key n entry.temps) entry.env E st (hand_kind entry.temps) → TempIs (slot_k n) E (hand_key n entry.temps) (hand_kind entry.temps)
        by true t = t.temp
        by false t = t.temp

    pub long_slots : length x.thread.slots ≡ length entry.env
    long_slots = sym (length-map x.thread.slots plain_value) ∙ sym (length-reverse (map plain_value x.thread.slots)) ∙ (running k c x g).all_slots

    long_temps : length x.thread.temps ≡ length entry.temps
    long_temps = sym (length-map x.thread.temps plain_value) ∙ sym (length-reverse (map plain_value x.thread.temps)) ∙ (running k c x g).all_temps

    entry_is : entry_in k c (thread_at (sight k).ground.threads n) ≡ Some entry
    entry_is = ap (entry_in k c) (stands_there k c x g) ∙ (running k c x g).known

    slot_type_is : (i : ℕ) (s : Slot) → env_at entry.env i ≡ Some s → key_type k c (slot_k n i) ≡ owned_part s.part
    slot_type_is i s e = ap (λ o. slot_type k c o i) entry_is ∙ ap (λ o. some_part k c (part_of o)) e

    -- what a slot's box leads to has the type that stands under it
    box_type : (h : Key) (o : ObjNo) (a : OwnedType) → st.at h ≡ box_v o → key_type k c h ≡ Some (box a) → Among h (keys k c) → object o ≡ a
    box_type h o a at is among =
        let below : below_key st h 1 ≡ Some (at_object o) = ap (λ v. box_target (Some v)) at in
        let there = c.state.objects_there (at_key h) o (ap Some at) in
        these o there.0 there.1 ∙ object_is k c h o a 0 among below (ap (λ t. seek_some k c t o (at_key h)) is ∙ seek_finds st c.state.typed.owner h 0 (at_key h) o 0 (box a) a refl below refl)

  -- a view leads to an object of its type
  view_type : (t : ℕ) (h : Key) (o : ObjNo) (a : OwnedType) (m : Bool) (u : StorePlace) → E h ≡ refers m u → Seen (slot_k t) E a u → st.at h ≡ ref_v (at_object o) → object o ≡ a
  view_type t h o a m u is seen at =
      let f = ref_at c.typing.rank E st c.state.typed h m u is in
      let q = found_place c.typing.rank E st false u seen.base seen.boxes (owns (tree_of a)) c.state.typed seen.res in
      let r = found_place c.typing.rank E st m u f.base f.boxes f.type c.state.typed f.res in
      let one : q.loc ≡ r.loc = some_is (sym q.at ∙ r.at) in
      let two : f.target ≡ r.loc = some_is (sym f.leads ∙ r.chain) in
      let three : at_object o ≡ f.target = (let z : ref_v (at_object o) ≡ ref_v f.target = sym at ∙ f.is in cc) in
      let chain : below_key st seen.base seen.boxes ≡ Some (at_object o) = q.chain ∙ ap Some (one ∙ sym two ∙ sym three) in
      let near : (j : Key) (b : Bool) (w : StorePlace) → E j ≡ refers b w → (d : ℕ) × (i : ℕ) × (w.key ≡ slot_k d i) = (λ j b w e. (let y = c.state.near j b w e in (y.owner, y.slot, y.is))) in
      let base = slot_base E near false u.key u.depth seen.base seen.boxes (owns (tree_of a)) seen.res (near h m u is) in
      let heap : st.heap o ≡ Some q.value = ap (value_at st) (three ∙ two ∙ sym one) ∙ q.there in
      let there = heap_there c.typing.gives ((one_heap k).object o) q.value heap in
      these o there.0 there.1 ∙ by seen.base base.0 base.1 base.2 seen.boxes chain (res_part E false u.key u.depth seen.base seen.boxes (owns (tree_of a)) seen.res)
    where
      tree_there : (x : Exact) (n : ℕ) → exact_under (suc n) x ≡ Some (owns (tree_of a)) → (q : Tree) × (x ≡ owns q) × (tree_under (suc n) q ≡ Some (tree_of a))
      tree_there (owns q) n e = (q, refl, some_tree (tree_under (suc n) q) e)
        where
          some_tree : (r : Option Tree) → some_owns r ≡ Some (owns (tree_of a)) → r ≡ Some (tree_of a)
          some_tree None f = absurd cc
          some_tree (Some y) f = let z : y ≡ tree_of a = cc in ap Some z
      tree_there (refers b w) n e = absurd cc

      at_thread : (y : Standing) (go : GoesOn k y) (i n : ℕ) (q : Tree) → E (slot_k y.thread.number i) ≡ owns q → tree_under (suc n) q ≡ Some (tree_of a) → below_key st (slot_k y.thread.number i) (suc n) ≡ Some (at_object o) → object_type k c o ≡ a
      at_thread y go i n q is under chain = inside (either_less i (length (entry y go).env))
        where
          inside : (i < length (entry y go).env) ⊎ (length (entry y go).env ≤ i) → object_type k c o ≡ a
          inside (inr l) =
              let z : owns q ≡ owns hole = sym is ∙ above_none y go i l in
              let w : q ≡ hole = cc in
              let v : None ≡ Some (tree_of a) = sym (ap (tree_under (suc n)) w) ∙ under in
              absurd cc
          inside (inl l) =
              let s = there_env (entry y go).env i l in
              let ex : ExactOf (slot_k y.thread.number) E s.0.part (E (slot_k y.thread.number i)) = exact_at (slot_k y.thread.number) E (entry y go).env i s.0 (slots_below y go) s.1 in
              let tree : TreeOf s.0.part q = subst (ExactOf (slot_k y.thread.number) E s.0.part) is ex in
              let p = part_under s.0.part (suc n) q a tree under in
              let type : key_type k c (slot_k y.thread.number i) ≡ Some p.type = slot_type_is y go i s.0 s.1 ∙ p.is in
              let short : i < length y.thread.slots = (let z = long_slots y go in omega (arith, l, z)) in
              object_is k c (slot_k y.thread.number i) o a n (slot_among k c y i go.among short) chain
              (ap (λ t. seek_some k c t o (at_key (slot_k y.thread.number i))) type ∙ seek_finds st c.state.typed.owner (slot_k y.thread.number i) 0 (at_key (slot_k y.thread.number i)) o n p.type a refl chain p.under)

      by_slot : (d i n : ℕ) → below_key st (slot_k d i) (suc n) ≡ Some (at_object o) → exact_under (suc n) (E (slot_k d i)) ≡ Some (owns (tree_of a)) → object_type k c o ≡ a
      by_slot d i n chain under = by_place (place_in ((one_heap k).thread d)) refl
        where
          by_place : (r : Option CodeRunning) → place_in ((one_heap k).thread d) ≡ r → object_type k c o ≡ a
          by_place None e = absurd (no_chain n chain)
            where
              none : st.at (slot_k d i) ≡ gone_v
              none = ap (slot_val (λ (p : Place). p.temps) c.typing d i) e

              no_chain : (n : ℕ) → below_key st (slot_k d i) (suc n) ≡ Some (at_object o) → ⊥
              no_chain n chain = let z : None ≡ Some (at_object o) = sym (none_below st (at_key (slot_k d i)) n (ap (λ v. box_target (Some v)) none)) ∙ chain in cc
          by_place (Some y) e =
              let w = stands_running k d y e in
              let q = tree_there (E (slot_k w.standing.thread.number i)) n (subst (λ j. exact_under (suc n) (E (slot_k j i)) ≡ Some (owns (tree_of a))) (sym w.number) under) in
              at_thread w.standing w.goes i n q.0 q.1 q.2 (subst (λ j. below_key st (slot_k j i) (suc n) ≡ Some (at_object o)) (sym w.number) chain)

      by : (b : Key) (d i : ℕ) → b ≡ slot_k d i → (n : ℕ) → below_key st b n ≡ Some (at_object o) → exact_under n (E b) ≡ Some (owns (tree_of a)) → object_type k c o ≡ a
      by b d i e zero chain under = let z : at_key b ≡ at_object o = some_is chain in absurd cc
      by b d i e (suc n) chain under = by_slot d i n (subst (λ j. below_key st j (suc n) ≡ Some (at_object o)) e chain) (subst (λ j. exact_under (suc n) (E j) ≡ Some (owns (tree_of a))) e under)

  -- SLOTS AND TEMPORARY VALUES
  module _ (x : Standing) (g : GoesOn k x) where
    abbrev t : ℕ
    t = x.thread.number

    abbrev what : Entry
    what = entry x g

    abbrev names : NameTypes
    names = names_of object c.typing.gives

    abbrev LeadsThere : Piece → Value → Type 0
    LeadsThere = Leads c.typing.rank E st c.state.typed (slot_k t) c.typing.gives object t

    -- what a value of a key leads to has its type
    leads_there : (h : Key) (mark : Val) (p : Piece) (v : Value) → ExactOf (slot_k t) E p (E h) → st.at h ≡ seen_as c.typing.gives t mark v → key_type k c h ≡ owned_part p → Among h (keys k c) → LeadsThere p v
    leads_there h mark p v ex seen type among = record {
      boxes = λ b a q o. box_type x g h b.object a (seen ∙ ap (seen_as c.typing.gives t mark) q) (type ∙ o) among;
      views = λ r a q e. by r a (E h) refl (subst (λ z. ExactOf (slot_k t) E z (E h)) e ex) (seen ∙ ap (seen_as c.typing.gives t mark) q);
    }
      where
        by : (r : _) (a : OwnedType) (y : Exact) → E h ≡ y → ExactOf (slot_k t) E (whole (view a)) y → st.at h ≡ seen_as c.typing.gives t mark (value.Shared r) → object r.object ≡ a
        by r a (owns q) is y at = absurd y
        by r a (refers m u) is y at = view_type t h r.object a m u is y.1 at

    marked : (v : Value) → is_held (Some (plain_value v)) ≡ true → is_mark v ≡ true
    marked value.Gone e = absurd cc
    marked (value.Own v) e = absurd cc
    marked (value.SharedSlot i) e = absurd cc
    marked (value.MutSlot i) e = absurd cc
    marked (value.Shared r) e = absurd cc
    marked (value.Mut r) e = absurd cc
    marked (value.Held m) e = refl

    slot_one : (i : ℕ) (s : Slot) (v : Value) → env_at what.env i ≡ Some s → slice_get x.thread.slots i ≡ Some v → slot_sort s (is_some s.name) v ≡ true → slot_form names s (is_some s.name) v ≡ true
    slot_one i s v e at sort = by (is_some s.name) tells sort
      where
        tells : not (is_some s.name) ≡ is_held (Some (plain_value v))
        tells = sym (ap is_hidden e) ∙ (running k c x g).hidden i ∙ ap is_held (held_shown k c x g i v at)

        unmarked : not true ≡ is_held (Some (plain_value v)) → (m : MutexNo) → v ≡ value.Held m → ref_v (c.typing.marks t i) ≡ gone_v
        unmarked h m q = let z : false ≡ true = h ∙ ap (λ w. is_held (Some (plain_value w))) q in absurd cc

        by : (b : Bool) → not b ≡ is_held (Some (plain_value v)) → slot_sort s b v ≡ true → slot_form names s b v ≡ true
        by false h f = marked v (sym h)
        by true h f =
            let ex = exact_at (slot_k t) E what.env i s (slots_below x g) e in
            let seen = slot_seen k c x g i v at in
            let short : i < length x.thread.slots = (let a = within_env what.env i s e in let b = long_slots x g in omega (arith, a, b)) in
            value_form c.typing.rank E st c.state.typed (slot_k t) c.typing.gives object t (slot_k t i) (ref_v (c.typing.marks t i)) s.part v ex f seen (unmarked h)
            (leads_there (slot_k t i) (ref_v (c.typing.marks t i)) s.part v ex seen (slot_type_is x g i s e) (slot_among k c x i g.among short))

    slots_formed : slots_unsorted what.env (reverse x.thread.slots) ≡ 0 → slots_wrong names what.env (reverse x.thread.slots) ≡ 0
    slots_formed z =
        slots_right names what.env (reverse x.thread.slots) (length-reverse x.thread.slots ∙ long_slots x g)
        (λ i s v e at sort. slot_one i s v e (sym (behind_is x.thread.slots i) ∙ at) sort) z

    int_is : (q : Kind) → is_int q ≡ true → q ≡ own int
    int_is (own unit) e = absurd cc
    int_is (own int) e = refl
    int_is (own (box a)) e = absurd cc
    int_is (own (mutex a)) e = absurd cc
    int_is (own (task a)) e = absurd cc
    int_is (shared us) e = absurd cc
    int_is (mutable us) e = absurd cc
    int_is (view a) e = absurd cc

    low_right : (ks : List Kind) (vs : List Value) → length vs ≡ length ks → ((j : ℕ) (v : Value) → j < length ks → at_behind vs j ≡ Some v → has_form names (whole (own int)) v ≡ true) → tot (λ l. other (is_int l)) ks ≡ 0 → temps_wrong names ks vs ≡ 0
    low_right [] [] long go z = refl
    low_right [] (v ∷ vs) long go z = absurd (omega (arith, long))
    low_right (q ∷ ks) [] long go z = absurd (omega (arith, long))
    low_right (q ∷ ks) (v ∷ vs) long go z =
        let same : length vs ≡ length ks = omega (arith, long) in
        let kind = int_is q (from_other (is_int q) (omega (arith, z))) in
        let form = go (length vs) v (omega (arith, same)) (newest (length vs) (Some v) (at_behind vs (length vs))) in
        let first = to_other (has_form names (whole q) v) (subst (λ i. has_form names (whole i) v ≡ true) (sym kind) form) in
        let later = low_right ks vs same (λ j w l at. go j w (omega (arith, l)) (older j (length vs) (Some v) (at_behind vs j) (omega (arith, l, same)) ∙ at)) (omega (arith, z)) in
        omega (arith, first, later)

    temps_right : (ks : List Kind) (vs : List Value) → length vs ≡ length ks → ((q : Kind) (rest : List Kind) (v : Value) → ks ≡ q ∷ rest → at_behind vs (length rest) ≡ Some v → has_sort (whole q) v ≡ true → has_form names (whole q) v ≡ true)
        → ((j : ℕ) (v : Value) → j < operands ks → at_behind vs j ≡ Some v → has_form names (whole (own int)) v ≡ true) → temps_unsorted ks vs ≡ 0 → temps_wrong names ks vs ≡ 0
    temps_right [] [] long top low z = refl
    temps_right [] (v ∷ vs) long top low z = absurd (omega (arith, long))
    temps_right (q ∷ ks) [] long top low z = absurd (omega (arith, long))
    temps_right (q ∷ ks) (v ∷ vs) long top low z =
        let same : length vs ≡ length ks = omega (arith, long) in
        let here_it : at_behind (v ∷ vs) (length ks) ≡ Some v = ap (λ i. if length ks == i then Some v else at_behind vs (length ks)) same ∙ newest (length ks) (Some v) (at_behind vs (length ks)) in
        let first = to_other (has_form names (whole q) v) (top q ks v refl here_it (from_other (has_sort (whole q) v) (omega (arith, z)))) in
        let later = low_right ks vs same (λ j w l at. low j w l (older j (length vs) (Some v) (at_behind vs j) (omega (arith, l, same)) ∙ at)) (omega (arith, z)) in
        omega (arith, first, later)

    temp_top : (q : Kind) (rest : List Kind) (v : Value) → what.temps ≡ q ∷ rest → slice_get x.thread.temps (length rest) ≡ Some v → has_sort (whole q) v ≡ true → has_form names (whole q) v ≡ true
    temp_top q rest v e at sort =
        let i = length rest in
        let ex : ExactOf (slot_k t) E (whole q) (E (temp_k t (length rest))) = subst (λ ts. TempIs (slot_k t) E (hand_key t ts) (hand_kind ts)) e (hand_is x g) in
        let seen = temp_seen k c x g (length rest) v at in
        let type : key_type k c (temp_k t (length rest)) ≡ owned_kind q =
        ap (λ o. temp_type k c o (length rest)) (entry_is x g) ∙ ap (λ ts. some_kind k c (at_behind ts (length rest))) e ∙ ap (some_kind k c) (newest (length rest) (Some q) (at_behind rest (length rest))) in
        let short : length rest < length x.thread.temps = (let a = long_temps x g in let b : length what.temps ≡ suc (length rest) = ap length e in omega (arith, a, b)) in
        value_form c.typing.rank E st c.state.typed (slot_k t) c.typing.gives object t (temp_k t (length rest)) gone_v (whole q) v ex sort seen (λ m h. refl)
        (leads_there (temp_k t (length rest)) gone_v (whole q) v ex seen type (temp_among k c x (length rest) g.among short))

    temp_low : (j : ℕ) (v : Value) → j < operands what.temps → slice_get x.thread.temps j ≡ Some v → has_form names (whole (own int)) v ≡ true
    temp_low j v l at =
        let is = (running k c x g).waiting j l in
        let ex : ExactOf (slot_k t) E (whole (own int)) (E (temp_k t j)) = subst (ExactOf (slot_k t) E (whole (own int))) (sym is) refl in
        value_form c.typing.rank E st c.state.typed (slot_k t) c.typing.gives object t (temp_k t j) gone_v (whole (own int)) v ex refl (temp_seen k c x g j v at) (λ m h. refl)
        (record { boxes = λ b a q o. absurd (let z : Some int ≡ Some (box a) = o in cc); views = λ r a q o. absurd (let z : whole (own int) ≡ whole (view a) = o in cc) })

    temps_formed : temps_unsorted what.temps (reverse x.thread.temps) ≡ 0 → temps_wrong names what.temps (reverse x.thread.temps) ≡ 0
    temps_formed z =
        temps_right what.temps (reverse x.thread.temps) (length-reverse x.thread.temps ∙ long_temps x g)
        (λ q rest v e at sort. temp_top q rest v e (sym (behind_is x.thread.temps (length rest)) ∙ at) sort)
        (λ j v l at. temp_low j v l (sym (behind_is x.thread.temps j) ∙ at)) z

    thread_formed : entry_wrong (sorts_of x.thread) (c.table x.thread.pc) ≡ 0 → entry_wrong (forms_of names x.thread) (c.table x.thread.pc) ≡ 0
    thread_formed z =
        let known = (running k c x g).known in
        let sorts : sorts_of x.thread what ≡ 0 = sym (ap (entry_wrong (sorts_of x.thread)) known) ∙ z in
        let slots = slots_formed (omega (arith, sorts)) in
        let temps = temps_formed (omega (arith, sorts)) in
        ap (entry_wrong (forms_of names x.thread)) known ∙ omega (arith, slots, temps)

  pub forms_follow : sorts_wrong c.table (sight k) ≡ 0 → forms_wrong c.table (names_of object c.typing.gives) (sight k) ≡ 0
  forms_follow z =
      each_none (λ x. if_so (not (is_over x.thread.phase)) (entry_wrong (sorts_of x.thread) (c.table x.thread.pc))) (λ x. if_so (not (is_over x.thread.phase)) (entry_wrong (forms_of (names_of object c.typing.gives) x.thread) (c.table x.thread.pc)))
      (threads_in (things_of k)) (λ x a none. by x a none (is_over x.thread.phase) refl) z
    where
      by : (x : Standing) → Among x (sight k).ground.threads → if_so (not (is_over x.thread.phase)) (entry_wrong (sorts_of x.thread) (c.table x.thread.pc)) ≡ 0 → (q : Bool) → is_over x.thread.phase ≡ q
          → if_so (not (is_over x.thread.phase)) (entry_wrong (forms_of (names_of object c.typing.gives) x.thread) (c.table x.thread.pc)) ≡ 0
      by x a none true e = ap (λ b. if_so (not b) (entry_wrong (forms_of (names_of object c.typing.gives) x.thread) (c.table x.thread.pc))) e
      by x a none false e =
          let z = sym (ap (λ b. if_so (not b) (entry_wrong (sorts_of x.thread) (c.table x.thread.pc))) e) ∙ none in
          ap (λ b. if_so (not b) (entry_wrong (forms_of (names_of object c.typing.gives) x.thread) (c.table x.thread.pc))) e ∙ thread_formed x (record { among = a; going = e }) z
