-- Each object that is in a typed one heap is so many boxes below a key that owns something: a slot, a temporary value, a content or a result.
use Rattle.std.proofs.Common.{◌≡◌, inl, inr, ℕ, zero, suc, ◌<◌, ◌==◌, ◌||◌, not, Bool, true, false, if◌then◌else◌, List, [], ◌∷◌, reverse, map, length, Option, Some, None, is_some, refl, sym, ap, subst, ◌∙◌, arith}
use Rattle.std.specs.Prelude.{slice_get}
use Rattle.std.proofs.lemmas.List.{length-reverse, length-map}
use Rattle.law_heap_still.proofs.Below.fr_typing.PlaceLemmas.{eq_cases}
use Rattle.law_heap_still.specs.Below.fr_base.declared.name.ObjNo.{ObjNo}
use Rattle.law_heap_still.specs.Below.fr_base.declared.name.MutexNo.{MutexNo}
use Rattle.law_heap_still.specs.Below.fr_base.declared.instruction.Instr.{Instr}
use Rattle.law_heap_still.specs.Below.fr_base.declared.instruction.Instr.TheVariants as instr
use Rattle.law_heap_still.specs.Below.fr_plain.declared.value.Value.TheVariants.{Own}
use Rattle.law_heap_still.specs.Below.fr_plain.MachineThreads.{ended}
use Rattle.law_heap_still.specs.Below.heap_partition.Plain.{plain_of}
use Rattle.law_heap_still.specs.Below.heap_partition.declared.value.BoxPtr.{BoxPtr}
use Rattle.law_heap_still.specs.Below.heap_partition.declared.value.Cell.{Cell}
use Rattle.law_heap_still.specs.Below.heap_partition.declared.value.Owned.{Owned}
use Rattle.law_heap_still.specs.Below.heap_partition.declared.value.Owned.TheVariants as owned
use Rattle.law_heap_still.specs.Below.thread_state.View.{is_over}
use Rattle.law_heap_still.specs.Below.thread_state.declared.value.Value.{Value}
use Rattle.law_heap_still.specs.Below.thread_state.declared.value.Value.TheVariants as value
use Rattle.law_heap_still.specs.Below.server_model.Servers.{Cluster}
use Rattle.law_heap_still.specs.Below.fr_typing.Kinds.{Owned as OwnedType, box, Kind, own, shared, mutable, view, Piece, whole, gone, boxed, map_some}
use Rattle.law_heap_still.specs.Below.fr_typing.Places.{Slot, Env}
use Rattle.law_heap_still.specs.Below.fr_store.Keys.{Key, slot_k, temp_k, content_k, result_k}
use Rattle.law_heap_still.specs.Below.fr_store.Store.{Location, at_key, at_object, gone_v, box_v, ref_v, Store, value_at, box_target, below_key}
use Rattle.law_heap_still.specs.Below.fr_store.Typed.{Tree, int_tree, Exact, owns, refers, KeyTypes, TopFits}
use Rattle.law_heap_still.specs.Below.fr_store.Below.{tree_of, TreeOf, ExactOf, SlotsBelow}
use Rattle.law_heap_still.specs.Below.fr_store.Thread.{TempIs}
use Rattle.law_heap_still.proofs.Below.fr_store.Chains.{from_box}
use Rattle.law_heap_still.proofs.Below.fr_store.Sound.{ref_at}
use Rattle.law_heap_still.proofs.Below.fr_store.Rows.{top_fits}
use Rattle.law_types_still.specs.Below.fr_sound.Seen.{Gives, owned_val, seen_cell}
use Rattle.law_types_still.specs.Below.fr_sound.States.{Typing, env_at, part_of, owned_part, owned_kind, hand_key, hand_kind, operands, IsThread, is_hidden, is_held, content_val, result_val}
use Rattle.law_heap_still.specs.Below.fr_code.Steps.{Place}
use Rattle.law_heap_still.specs.Below.fr_code.CodeTypes.{Entry, Table}
use Rattle.law_heap_still.specs.Below.fr_code.TableStates.{CodeStateTypes}
use Rattle.law_heap_still.specs.Below.coherent_memory.Names.{tot, if_so, Among}
use Rattle.law_heap_still.specs.Below.coherent_memory.Things.{Spot, in_slot, in_temp, as_gift, as_content, as_result, in_hand, Thing, holds, lies, flies}
use Rattle.law_heap_still.specs.Below.coherent_memory.Follow.{Standing, thread_at}
use Rattle.law_heap_still.specs.Below.coherent_memory.Sight.{Sight, sight}
use Rattle.law_heap_still.specs.Below.coherent_memory.Walking.{instr_of}
use Rattle.law_heap_still.specs.Below.coherent_memory.Paths.{joined_thread}
use Rattle.law_heap_still.specs.Below.coherent_memory.Requests.{locked_mutex}
use Rattle.law_types_still.specs.fits.Fits.{StandsOnce}
use Rattle.law_heap_still.specs.Below.coherent_memory.OneHeap.{one_heap, plain_value, Node, object_n, mutex_n, task_n, Owner, inside, content_owner, result_owner, gift_owner, gift_owner_of, owner_of, owns as owns_node, names, owner_in, named_in, any_named, in_state_by, is_in_state, if_in, cell_value, first_shown, share_in}
use Rattle.law_heap_still.proofs.Below.coherent_memory.Words.{named, itself}
use Rattle.law_types_still.specs.Below.coherent_types.Names.{names_of, fits}
use Rattle.law_types_still.specs.Below.coherent_types.ClusterTypes.{entry_wrong}
use Rattle.law_types_still.specs.Below.law_words_paths.paths.HeapStore.{GoesOn}
use Rattle.law_types_still.proofs.Below.law_words_paths.paths.Sole.{some_is}
use Rattle.law_types_still.proofs.Below.law_words_paths.paths.Shown.{at_behind, behind_is}
use Rattle.law_types_still.proofs.Below.law_words_paths.paths.Forms.{none_of}
use Rattle.law_heap_still.proofs.events.Rounds.{enough}
use Rattle.law_heap_still.proofs.events.Alike.{Once}
use Rattle.law_types_still.proofs.fits.Once.{stands_once}
use Rattle.law_types_still.specs.heap.Counted.{has_sort, slot_sort, slots_unsorted, sorts_of, sorts_wrong}
use Rattle.law_types_still.proofs.heap.Following.{HasHeap, heap_of, stands_there}
use Rattle.law_types_still.proofs.heap.Values.{slot_seen, temp_seen, running, held_shown}
use Rattle.law_types_still.proofs.heap.Leads.{from_other}
use Rattle.law_types_still.proofs.heap.Objects.{keys, seek_finds, under_boxes, entry_in, some_part, slot_type, temp_type, some_kind, key_type, seek_some, slot_among, temp_among, content_among, result_among, object_type, object_is}
use Rattle.law_types_still.proofs.heap.Forms.{newest, exact_at}
use Rattle.law_types_still.proofs.heap.Formed.{long_slots}
use Rattle.law_types_still.proofs.fits.Depths.{Partly, hole_partly, whole_partly, type_deeper, fit_value, AtDepth, at_depth}
use Rattle.law_types_still.proofs.fits.Hands.{none_in_hand}
use Rattle.law_types_still.proofs.fits.Stood.{only_shown, InSlot, InTemp, slot_stood, temp_stood, content_there, result_there}

-- PARTS

-- a tree of a part is partly one of its owned type
part_partly : (p : Piece) (a : OwnedType) (t : Tree) → owned_part p ≡ Some a → TreeOf p t → Partly a t
part_partly (whole (own o)) a t e h = let same : o ≡ a = some_is e in subst (Partly a) (sym (h ∙ ap tree_of same)) (whole_partly a)
part_partly (whole (shared us)) a t e h = absurd h
part_partly (whole (mutable us)) a t e h = absurd h
part_partly (whole (view o)) a t e h = absurd h
part_partly (gone q) a t e h = hole_partly a t h
part_partly (boxed p) a t e h = by (owned_part p) refl e (λ b f. part_partly p b h.0 f h.2)
  where
    by : (o : Option OwnedType) → owned_part p ≡ o → map_some box o ≡ Some a → ((b : OwnedType) → owned_part p ≡ Some b → Partly b h.0) → Partly a t
    by None f g go = absurd cc
    by (Some b) f g go = subst (λ z. Partly z t) (some_is g) (inr (h.0, h.1, go b f))

-- a part under whose key a box stands has an owned type
pub record OwnedPart (p : Piece) (t : Tree) : Type 0 where
  pub type : OwnedType
  pub is : owned_part p ≡ Some type
  pub partly : Partly type t

box_part : (p : Piece) (t : Tree) (o : ObjNo) → TreeOf p t → TopFits t (box_v o) → ((r : Piece) → p ≡ boxed r → is_some (owned_part r) ≡ true) → OwnedPart p t
box_part (whole (own a)) t o h f w = record { type = a; is = refl; partly = part_partly (whole (own a)) a t refl h }
box_part (whole (shared us)) t o h f w = absurd h
box_part (whole (mutable us)) t o h f w = absurd h
box_part (whole (view a)) t o h f w = absurd h
box_part (gone q) t o h f w = absurd (let e : box_v o ≡ gone_v = subst (λ z. TopFits z (box_v o)) h f in cc)
box_part (boxed r) t o h f w = by (owned_part r) refl (w r refl)
  where
    by : (a : Option OwnedType) → owned_part r ≡ a → is_some a ≡ true → OwnedPart (boxed r) t
    by None e g = absurd cc
    by (Some a) e g = let is : owned_part (boxed r) ≡ Some (box a) = ap (map_some box) e in record { type = box a; is = is; partly = part_partly (boxed r) (box a) t is h }

-- LISTS

short : {A : Type 0} (xs : List A) (i : ℕ) (v : A) → slice_get xs i ≡ Some v → i < length xs
short [] i v e = absurd cc
short (x ∷ xs) zero v e = omega arith
short (x ∷ xs) (suc i) v e = let l = short xs i v e in omega (arith, l)

there_env : (e : Env) (i : ℕ) → i < length e → (x : Slot) × (env_at e i ≡ Some x)
there_env [] i l = absurd (omega (arith, l))
there_env (y ∷ e) i l = eq_cases (λ q. (x : Slot) × ((if q then Some y else env_at e i) ≡ Some x)) i (length e) (λ h. (y, refl)) (λ ne. there_env e i (omega (arith, l, ne)))

-- the sort of one slot
sorted_at : (e : Env) (vs : List Value) → length vs ≡ length e → slots_unsorted e vs ≡ 0 → (i : ℕ) (x : Slot) (v : Value) → env_at e i ≡ Some x → at_behind vs i ≡ Some v → slot_sort x (is_some x.name) v ≡ true
sorted_at [] vs long z i x v a b = absurd cc
sorted_at (y ∷ e) [] long z i x v a b = absurd (omega (arith, long))
sorted_at (y ∷ e) (w ∷ vs) long z i x v a b =
    let same : length vs ≡ length e = omega (arith, long) in
    let mine : (if i == length e then Some w else at_behind vs i) ≡ Some v = subst (λ n. (if i == n then Some w else at_behind vs i) ≡ Some v) same b in
    eq_cases (λ q. (if q then Some y else env_at e i) ≡ Some x → (if q then Some w else at_behind vs i) ≡ Some v → slot_sort x (is_some x.name) v ≡ true) i (length e)
    (λ h c d. subst (λ (u : Slot). slot_sort u (is_some u.name) v ≡ true) (some_is c) (subst (λ u. slot_sort y (is_some y.name) u ≡ true) (some_is d) (from_other (slot_sort y (is_some y.name) w) (omega (arith, z)))))
    (λ ne c d. sorted_at e vs same (omega (arith, z)) i x v c d) a mine

not_true : (b : Bool) → not b ≡ false → b ≡ true
not_true true e = refl
not_true false e = absurd cc

-- who is named by somebody in the state
pub record Namer (s : Sight) (f : Node → Bool) (n : Node) (b : List Thing) : Type 0 where
  pub thing : Thing
  pub among : Among thing b
  pub names_it : names n thing ≡ true
  pub owner_is_in : owner_in f (owner_of s thing) ≡ true

pub named_by : (s : Sight) (f : Node → Bool) (n : Node) (b : List Thing) → any_named s f n b ≡ true → Namer s f n b
named_by s f n [] e = absurd cc
named_by s f n (x ∷ b) e = by (names n x) refl (named_in (names n x) f (owner_of s x)) refl e (named_by s f n b)
  where
    later : Namer s f n b → Namer s f n (x ∷ b)
    later w = record { thing = w.thing; among = inr w.among; names_it = w.names_it; owner_is_in = w.owner_is_in }

    by : (q : Bool) → names n x ≡ q → (r : Bool) → named_in q f (owner_of s x) ≡ r → (named_in q f (owner_of s x) || any_named s f n b) ≡ true → (any_named s f n b ≡ true → Namer s f n b) → Namer s f n (x ∷ b)
    by true q true y z go = record { thing = x; among = inl refl; names_it = q; owner_is_in = y }
    by true q false y z go = later (go (sym (ap (λ r. r || any_named s f n b) y) ∙ z))
    by false q r y z go = later (go z)

-- an owned value that is the box of an object
box_of : (o : ObjNo) (v : Owned) → owns_node (object_n o) v ≡ true → (p : BoxPtr) × (v ≡ owned.Box p) × (p.object ≡ o)
box_of o (owned.Box p) e = (p, refl, named p.object o e)
box_of o owned.Nothing e = absurd cc
box_of o owned.Unit e = absurd cc
box_of o (owned.Int i) e = absurd cc
box_of o (owned.Mutex m) e = absurd cc
box_of o (owned.Task t) e = absurd cc

-- a gift that is in the state is a content or a result
pub data GiftOf (o : Owner) : Type 0 where
  of_mutex : (m : MutexNo) → o ≡ inside (mutex_n m) → GiftOf o
  of_task : (t : ℕ) → o ≡ inside (task_n t) → GiftOf o

locked_gift : (f : Node → Bool) (m : Option MutexNo) → owner_in f (content_owner m) ≡ true → GiftOf (content_owner m)
locked_gift f None e = absurd cc
locked_gift f (Some m) e = of_mutex m refl

joined_gift : (f : Node → Bool) (t : Option ℕ) → owner_in f (result_owner t) ≡ true → GiftOf (result_owner t)
joined_gift f None e = absurd cc
joined_gift f (Some t) e = of_task t refl

pub gift_of : (f : Node → Bool) (s : Sight) (x : Standing) (i : Option Instr) → owner_in f (gift_owner s x i) ≡ true → GiftOf (gift_owner s x i)
gift_of f s x (Some (instr.Lock w)) e = locked_gift f (locked_mutex s x (Some (instr.Lock w))) e
gift_of f s x (Some (instr.Join o)) e = joined_gift f (joined_thread (Some (instr.Join o)) x.thread) e
gift_of f s x _ e = absurd (cc e)

found_gift : (f : Node → Bool) (s : Sight) (o : Option Standing) → owner_in f (gift_owner_of s o) ≡ true → GiftOf (gift_owner_of s o)
found_gift f s None e = absurd cc
found_gift f s (Some x) e = gift_of f s x (instr_of s x) e

-- a thing with a cell
pub data CellThing (c : Cell) : Thing → Type 0 where
  it_lies : (r a : ℕ) → CellThing c (lies r a c)
  it_flies : (w : ℕ) → CellThing c (flies w c)

cell_shows : (c : Cell) (x : Thing) → CellThing c x → cell_value c.object x ≡ Some (plain_of c.value)
cell_shows c _ (it_lies r a) = ap (λ q. if_in q (Some (plain_of c.value))) (itself c.object c.object refl)
cell_shows c _ (it_flies w) = ap (λ q. if_in q (Some (plain_of c.value))) (itself c.object c.object refl)

module _ (k : Cluster) (each_once : StandsOnce k) (table : Table) (y : Typing) (state : CodeStateTypes table y (one_heap k)) (sorted : sorts_wrong table (sight k) ≡ 0) where
  abbrev pub c : HasHeap k
  c = record {
    numbers = each_once.numbers;
    table = table;
    typing = y;
    state = state;
  }

  abbrev pub st : Store
  st = heap_of k c

  abbrev s : Sight
  s = sight k

  abbrev E : KeyTypes
  E = y.exact

  abbrev pub g : Gives
  g = y.gives

  abbrev pub object : ObjNo → OwnedType
  object = object_type k c

  -- KEYS THAT OWN SOMETHING

  pub record OwnsKey (h : Key) : Type 0 where
    pub type : OwnedType
    pub is : key_type k c h ≡ Some type
    pub tree : Tree
    pub exact : E h ≡ owns tree
    pub partly : Partly type tree
    pub among : Among h (keys k c)

  pub deep : (h : Key) (w : OwnsKey h) (n : ℕ) (l : Location) → below_key st h n ≡ Some l → AtDepth st w.type w.tree n l
  deep h w n l e = at_depth y.rank E st state.typed h w.type w.tree w.exact w.partly n l e

  -- what stands below has the type that stands so many boxes down
  pub type_at : (h : Key) (w : OwnsKey h) (n : ℕ) (o : ObjNo) (a : OwnedType) → below_key st h (suc n) ≡ Some (at_object o) → under_boxes (suc n) w.type ≡ Some a → object o ≡ a
  type_at h w n o a below under =
      object_is k c h o a n w.among below (ap (λ t. seek_some k c t o (at_key h)) w.is ∙ seek_finds st state.typed.owner h 0 (at_key h) o n w.type a refl below under)

  pub fits_at : (h : Key) (w : OwnsKey h) (n : ℕ) (l : Location) (e : below_key st h n ≡ Some l) (v : Owned) → value_at st l ≡ Some (owned_val g (plain_of v)) → fits (names_of object g) (deep h w n l e).type v ≡ true
  fits_at h w n l e v at =
      let d = deep h w n l e in
      fit_value g object d.type d.tree v d.partly (subst (TopFits d.tree) (some_is (sym d.there ∙ at)) d.fits_it)
      (λ p b is_box is_type. type_at h w n p.object b (from_box st (at_key h) l n p.object e (at ∙ ap (λ z. Some (owned_val g (plain_of z))) is_box)) (type_deeper n w.type b (d.under ∙ ap Some is_type)))

  -- THREADS

  module _ (x : Standing) (go : GoesOn k x) where
    abbrev n : ℕ
    n = x.thread.number

    abbrev entry : Entry
    entry = (running k c x go).entry

    slots_below : SlotsBelow (slot_k n) E entry.env
    slots_below = by entry.forked (running k c x go).thread
      where
        by : (b : Bool) → IsThread b (slot_k n) y.rank (hand_key n entry.temps) entry.env E st (hand_kind entry.temps) → SlotsBelow (slot_k n) E entry.env
        by true t = t.slots
        by false t = t.slots

    hand_is : TempIs (slot_k n) E (hand_key n entry.temps) (hand_kind entry.temps)
    hand_is = by entry.forked (running k c x go).thread
      where
        by : (b : Bool) → IsThread b (slot_k n) y.rank (hand_key n entry.temps) entry.env E st (hand_kind entry.temps) → TempIs (slot_k n) E (hand_key n entry.temps) (hand_kind entry.temps)
        by true t = t.temp
        by false t = t.temp

    long_temps : length x.thread.temps ≡ length entry.temps
    long_temps = sym (length-map x.thread.temps plain_value) ∙ sym (length-reverse (map plain_value x.thread.temps)) ∙ (running k c x go).all_temps

    entry_is : entry_in k c (thread_at s.ground.threads n) ≡ Some entry
    entry_is = ap (entry_in k c) (stands_there k c x go) ∙ (running k c x go).known

    in_order : slots_unsorted entry.env (reverse x.thread.slots) ≡ 0
    in_order =
        let one = none_of (λ (z : Standing). if_so (not (is_over z.thread.phase)) (entry_wrong (sorts_of z.thread) (table z.thread.pc))) x s.ground.threads sorted go.among in
        let mine : entry_wrong (sorts_of x.thread) (table x.thread.pc) ≡ 0 = sym (ap (λ q. if_so (not q) (entry_wrong (sorts_of x.thread) (table x.thread.pc))) go.going) ∙ one in
        let sorts : sorts_of x.thread entry ≡ 0 = sym (ap (entry_wrong (sorts_of x.thread)) (running k c x go).known) ∙ mine in
        omega (arith, sorts)

    -- a key with a box of a part that says so owns something
    owning : (h : Key) (part : Piece) (o : ObjNo) → ExactOf (slot_k n) E part (E h) → st.at h ≡ box_v o → ((r : Piece) → part ≡ boxed r → is_some (owned_part r) ≡ true) → key_type k c h ≡ owned_part part → Among h (keys k c) → OwnsKey h
    owning h part o ex at sort type among = by (E h) refl ex
      where
        by : (q : Exact) → E h ≡ q → ExactOf (slot_k n) E part q → OwnsKey h
        by (owns t) is f =
            let p = box_part part t o f (subst (TopFits t) at (top_fits y.rank E st state.typed h t is)) sort in
            record { type = p.type; is = type ∙ p.is; tree = t; exact = is; partly = p.partly; among = among }
        by (refers m u) is f = absurd (let r = ref_at y.rank E st state.typed h m u is in let z : box_v o ≡ ref_v r.target = sym at ∙ r.is in cc)

    slot_value : (i : ℕ) (p : BoxPtr) → slice_get x.thread.slots i ≡ Some (value.Own (owned.Box p)) → st.at (slot_k n i) ≡ box_v p.object
    slot_value i p e = slot_seen k c x go i (value.Own (owned.Box p)) e

    temp_value : (i : ℕ) (p : BoxPtr) → slice_get x.thread.temps i ≡ Some (value.Own (owned.Box p)) → st.at (temp_k n i) ≡ box_v p.object
    temp_value i p e = temp_seen k c x go i (value.Own (owned.Box p)) e

    pub slot_owns : (i : ℕ) (p : BoxPtr) → slice_get x.thread.slots i ≡ Some (value.Own (owned.Box p)) → OwnsKey (slot_k n i) × (st.at (slot_k n i) ≡ box_v p.object)
    slot_owns i p e =
        let l = short x.thread.slots i (value.Own (owned.Box p)) e in
        let long = long_slots k c object (λ o v q. refl) x go in
        let sl = there_env entry.env i (omega (arith, l, long)) in
        let slot = sl.0 in
        let tells : not (is_some slot.name) ≡ false = sym (ap is_hidden sl.1) ∙ (running k c x go).hidden i ∙ ap is_held (held_shown k c x go i (value.Own (owned.Box p)) e) in
        let sort = sorted_at entry.env (reverse x.thread.slots) (length-reverse x.thread.slots ∙ long) in_order i slot (value.Own (owned.Box p)) sl.1 (behind_is x.thread.slots i ∙ e) in
        let mine : has_sort slot.part (value.Own (owned.Box p)) ≡ true = sym (ap (λ q. slot_sort slot q (value.Own (owned.Box p))) (not_true (is_some slot.name) tells)) ∙ sort in
        let type : key_type k c (slot_k n i) ≡ owned_part slot.part = ap (λ o. slot_type k c o i) entry_is ∙ ap (λ o. some_part k c (part_of o)) sl.1 in (
          owning (slot_k n i) slot.part p.object (exact_at (slot_k n) E entry.env i slot slots_below sl.1) (slot_value i p e) (λ r q. sym (ap (λ z. has_sort z (value.Own (owned.Box p))) q) ∙ mine) type (slot_among k c x i go.among l),
          slot_value i p e,
        )

    pub temp_owns : (i : ℕ) (p : BoxPtr) → slice_get x.thread.temps i ≡ Some (value.Own (owned.Box p)) → OwnsKey (temp_k n i) × (st.at (temp_k n i) ≡ box_v p.object)
    temp_owns i p e = (by entry.temps refl, temp_value i p e)
      where
        in_it : i < length x.thread.temps
        in_it = short x.thread.temps i (value.Own (owned.Box p)) e

        top : (q : Kind) (rest : List Kind) → entry.temps ≡ q ∷ rest → i ≡ length rest → OwnsKey (temp_k n i)
        top q rest f same =
            let ex : ExactOf (slot_k n) E (whole q) (E (temp_k n (length rest))) = subst (λ ts. TempIs (slot_k n) E (hand_key n ts) (hand_kind ts)) f hand_is in
            let type : key_type k c (temp_k n (length rest)) ≡ owned_kind q =
            ap (λ o. temp_type k c o (length rest)) entry_is ∙ ap (λ ts. some_kind k c (at_behind ts (length rest))) f ∙ ap (some_kind k c) (newest (length rest) (Some q) (at_behind rest (length rest))) in
            subst (λ j. OwnsKey (temp_k n j)) (sym same)
            (owning (temp_k n (length rest)) (whole q) p.object ex (ap (λ j. st.at (temp_k n j)) (sym same) ∙ temp_value i p e) (λ r z. absurd cc) type (temp_among k c x (length rest) go.among (subst (λ j. j < length x.thread.temps) same in_it)))

        low : i < operands entry.temps → OwnsKey (temp_k n i)
        low l =
            let is : E (temp_k n i) ≡ owns int_tree = (running k c x go).waiting i l in
            let f = subst (TopFits int_tree) (temp_value i p e) (top_fits y.rank E st state.typed (temp_k n i) int_tree is) in
            absurd (let z = f.1 in cc)

        by : (ts : List Kind) → entry.temps ≡ ts → OwnsKey (temp_k n i)
        by [] f = let l : length entry.temps ≡ 0 = ap length f in absurd (omega (arith, l, in_it, long_temps))
        by (q ∷ rest) f =
            let l : length entry.temps ≡ suc (length rest) = ap length f in
            eq_cases (λ b. OwnsKey (temp_k n i)) i (length rest) (λ same. top q rest f same) (λ ne. low (let o : operands entry.temps ≡ length rest = ap operands f in omega (arith, l, in_it, long_temps, o, ne)))

  -- CONTENTS AND RESULTS

  abbrev pub content_owns : (m : MutexNo) (v : Owned) → (one_heap k).mutex m ≡ Some (record { content = Some (plain_of v); shares = tot (share_in s m) s.things }) → Among (content_k m.home m.count) (keys k c) → OwnsKey (content_k m.home m.count)
  content_owns m v e among = record {
    type = g.mutex m;
    is = refl;
    tree = tree_of (g.mutex m);
    exact = (state.mutexes m (record { content = Some (plain_of v); shares = tot (share_in s m) s.things }) e).content (plain_of v) refl;
    partly = whole_partly (g.mutex m);
    among = among;
  }

  pub content_at : (m : MutexNo) (v : Owned) → (one_heap k).mutex m ≡ Some (record { content = Some (plain_of v); shares = tot (share_in s m) s.things }) → st.at (content_k m.home m.count) ≡ owned_val g (plain_of v)
  content_at m v e = ap (content_val g) e

  abbrev pub result_owns : (t : ℕ) (v : Owned) → (one_heap k).thread t ≡ Some (ended (Own (plain_of v))) → Among (result_k t) (keys k c) → OwnsKey (result_k t)
  result_owns t v e among = record {
    type = g.result t;
    is = refl;
    tree = tree_of (g.result t);
    exact = state.results t (Own (plain_of v)) e;
    partly = whole_partly (g.result t);
    among = among;
  }

  pub result_at : (t : ℕ) (v : Owned) → (one_heap k).thread t ≡ Some (ended (Own (plain_of v))) → st.at (result_k t) ≡ owned_val g (plain_of v)
  result_at t v e = ap (λ o. result_val (λ (p : Place). p.temps) y t o) e

  -- OBJECTS

  -- the object is so many boxes below a key
  pub record ObjectBelow (o : ObjNo) : Type 0 where
    pub key : Key
    pub owns_it : OwnsKey key
    pub depth : ℕ
    pub leads : below_key st key (suc depth) ≡ Some (at_object o)

  starts : (h : Key) (o : ObjNo) → OwnsKey h → st.at h ≡ box_v o → ObjectBelow o
  starts h o w at = record { key = h; owns_it = w; depth = 0; leads = ap (λ v. box_target (Some v)) at }

  once : Once s
  once = stands_once k each_once

  -- what the cell of an object of the one heap holds stands there
  pub cell_there : (d : Cell) (x : Thing) → CellThing d x → Among x s.things → is_in_state s (object_n d.object) ≡ true → st.heap d.object ≡ Some (owned_val g (plain_of d.value))
  cell_there d x cell a is =
      ap (seen_cell g) (ap (λ q. if_in q (first_shown (cell_value d.object) s.things)) is ∙ only_shown (cell_value d.object) x (plain_of d.value) s.things (once.cells d.object) a (cell_shows d x cell))

  module _ (i : ℕ) (o : ObjNo) (go : (q : ObjNo) → in_state_by i s (object_n q) ≡ true → ObjectBelow q) where
    by_cell : (d : Cell) (x : Thing) → CellThing d x → Among x s.things → owns_node (object_n o) d.value ≡ true → in_state_by i s (object_n d.object) ≡ true → ObjectBelow o
    by_cell d x cell a nm ow =
        let w = go d.object ow in
        let b = box_of o d.value nm in
        let at : st.heap d.object ≡ Some (box_v o) = cell_there d x cell a (enough s i (object_n d.object) ow) ∙ ap (λ z. Some (owned_val g (plain_of z))) b.1 ∙ ap (λ z. Some (box_v z)) b.2 in
        record { key = w.key; owns_it = w.owns_it; depth = suc w.depth; leads = from_box st (at_key w.key) (at_object d.object) (suc w.depth) o w.leads at }

    by_content : (p : Spot) (v : Owned) (m : MutexNo) → Among (holds p v) s.things → owner_of s (holds p v) ≡ inside (mutex_n m) → owns_node (object_n o) v ≡ true → in_state_by i s (mutex_n m) ≡ true → ObjectBelow o
    by_content p v m a e nm ow =
        let b = box_of o v nm in
        let there = content_there k each_once p v m a e (enough s i (mutex_n m) ow) in
        starts (content_k m.home m.count) o (content_owns m v there (content_among k c (holds p v) m a e)) (content_at m v there ∙ ap (λ z. owned_val g (plain_of z)) b.1 ∙ ap box_v b.2)

    by_result : (p : Spot) (v : Owned) (t : ℕ) → Among (holds p v) s.things → owner_of s (holds p v) ≡ inside (task_n t) → owns_node (object_n o) v ≡ true → in_state_by i s (task_n t) ≡ true → ObjectBelow o
    by_result p v t a e nm ow =
        let b = box_of o v nm in
        let there = result_there k each_once p v t a e (enough s i (task_n t) ow) in
        starts (result_k t) o (result_owns t v there (result_among k c (holds p v) t a e)) (result_at t v there ∙ ap (λ z. owned_val g (plain_of z)) b.1 ∙ ap box_v b.2)

    by_slot : (i : ℕ) (v : Owned) → InSlot k each_once i v → owns_node (object_n o) v ≡ true → ObjectBelow o
    by_slot j v q nm =
        let b = box_of o v nm in
        let w = slot_owns q.thread q.goes j b.0 (q.is ∙ ap (λ z. Some (value.Own z)) b.1) in
        starts (slot_k q.thread.thread.number j) o w.0 (w.1 ∙ ap box_v b.2)

    by_temp : (i : ℕ) (v : Owned) → InTemp k each_once i v → owns_node (object_n o) v ≡ true → ObjectBelow o
    by_temp j v q nm =
        let b = box_of o v nm in
        let w = temp_owns q.thread q.goes j b.0 (q.is ∙ ap (λ z. Some (value.Own z)) b.1) in
        starts (temp_k q.thread.thread.number j) o w.0 (w.1 ∙ ap box_v b.2)

    by_spot : (p : Spot) (v : Owned) → Among (holds p v) s.things → owns_node (object_n o) v ≡ true → owner_in (in_state_by i s) (owner_of s (holds p v)) ≡ true → ObjectBelow o
    by_spot (in_slot t j) v a nm ow = by_slot j v (slot_stood k each_once t j v a) nm
    by_spot (in_temp t j) v a nm ow = by_temp j v (temp_stood k each_once t j v a) nm
    by_spot (as_content m) v a nm ow = by_content (as_content m) v m a refl nm ow
    by_spot (as_result t) v a nm ow = by_result (as_result t) v t a refl nm ow
    by_spot in_hand v a nm ow = absurd (none_in_hand k v a)
    by_spot (as_gift t) v a nm ow = by (found_gift (in_state_by i s) s (thread_at s.ground.threads t) ow)
      where
        by : GiftOf (gift_owner_of s (thread_at s.ground.threads t)) → ObjectBelow o
        by (of_mutex m e) = by_content (as_gift t) v m a e nm (sym (ap (owner_in (in_state_by i s)) e) ∙ ow)
        by (of_task u e) = by_result (as_gift t) v u a e nm (sym (ap (owner_in (in_state_by i s)) e) ∙ ow)

    by_thing : (x : Thing) → Among x s.things → names (object_n o) x ≡ true → owner_in (in_state_by i s) (owner_of s x) ≡ true → ObjectBelow o
    by_thing (holds p v) a nm ow = by_spot p v a nm ow
    by_thing (lies r j d) a nm ow = by_cell d (lies r j d) (it_lies r j) a nm ow
    by_thing (flies w d) a nm ow = by_cell d (flies w d) (it_flies w) a nm ow
    by_thing _ a nm ow = absurd (cc nm)

  below_by : (i : ℕ) (o : ObjNo) → in_state_by i s (object_n o) ≡ true → ObjectBelow o
  below_by zero o e = absurd (cc e)
  below_by (suc i) o e = let n = named_by s (in_state_by i s) (object_n o) s.things e in by_thing i o (below_by i) n.thing n.among n.names_it n.owner_is_in

  pub object_below : (o : ObjNo) → is_in_state s (object_n o) ≡ true → ObjectBelow o
  object_below o e = below_by (length s.things) o e
