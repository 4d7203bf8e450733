-- In a cluster whose one heap is typed by a table of its code, slots and temporary values have the sorts of their parts where they suit them.
use Rattle.std.proofs.Common.{◌≡◌, ℕ, suc, ◌+◌, ◌==◌, not, Bool, true, false, ◌&&◌, if◌then◌else◌, List, [], ◌∷◌, reverse, map, length, Some, is_some, refl, sym, ap, subst, ◌∙◌, arith}
use Rattle.std.specs.Prelude.{slice_get}
use Rattle.std.proofs.lemmas.List.{length-reverse, length-map}
use Rattle.law_types_still.specs.Below.fr_base.Lists.{last_of}
use Rattle.law_types_still.specs.Below.fr_base.declared.name.MutexNo.{MutexNo}
use Rattle.law_types_still.specs.Below.fr_typing.Kinds.{Owned as OwnedType, Kind, own, shared, mutable, view, Piece, whole, gone, boxed}
use Rattle.law_types_still.specs.Below.fr_typing.Places.{Slot, Env}
use Rattle.law_types_still.specs.Below.fr_typing.Checks.{is_int}
use Rattle.law_types_still.specs.Below.fr_store.Keys.{Key, slot_k, temp_k}
use Rattle.law_types_still.specs.Below.fr_store.Store.{at_key, Val, gone_v, ref_v, Store, Place as StorePlace}
use Rattle.law_types_still.specs.Below.fr_store.Typed.{hole, Exact, owns, refers, KeyTypes, Typed}
use Rattle.law_types_still.specs.Below.fr_store.Below.{ExactOf, SlotsBelow, Seen}
use Rattle.law_types_still.specs.Below.fr_store.Thread.{TempIs}
use Rattle.law_types_still.proofs.Below.fr_store.Sound.{ref_at}
use Rattle.law_types_still.proofs.Below.fr_store.Rows.{top_fits}
use Rattle.law_types_still.specs.Below.fr_sound.Seen.{Gives, owned_val}
use Rattle.law_types_still.specs.Below.fr_sound.States.{env_at, is_hidden, is_held, hand_key, hand_kind, IsThread}
use Rattle.law_types_still.specs.Below.fr_code.CodeTypes.{Entry, Table, wait}
use Rattle.law_types_still.specs.Below.fr_code.CodeTable.{IsTable}
use Rattle.law_types_still.specs.Below.heap_partition.Plain.{plain_of}
use Rattle.law_types_still.specs.Below.heap_partition.declared.value.Owned.TheVariants as owned
use Rattle.law_types_still.specs.Below.thread_state.View.{is_over}
use Rattle.law_types_still.specs.Below.thread_state.declared.value.Value.{Value}
use Rattle.law_types_still.specs.Below.thread_state.declared.value.Value.TheVariants as value
use Rattle.law_types_still.specs.Below.server_model.Servers.{Cluster}
use Rattle.law_types_still.specs.Below.coherent_memory.Names.{tot, other, if_so, Among}
use Rattle.law_types_still.specs.Below.coherent_memory.Things.{things_of}
use Rattle.law_types_still.specs.Below.coherent_memory.Follow.{Standing, threads_in}
use Rattle.law_types_still.specs.Below.coherent_memory.Sight.{sight}
use Rattle.law_types_still.specs.Below.coherent_memory.OneHeap.{plain_value}
use Rattle.law_types_still.specs.Below.coherent_types.ClusterTypes.{entry_wrong}
use Rattle.law_types_events.specs.Below.law_words_paths.paths.HeapStore.{GoesOn}
use Rattle.law_types_events.proofs.Below.law_words_paths.paths.Shown.{at_behind, behind_is}
use Rattle.law_types_events.specs.Below.law_types_still.heap.Counted.{has_sort, slot_sort, slots_unsorted, temps_unsorted, sorts_of, sorts_wrong}
use Rattle.law_types_events.proofs.Below.law_types_still.heap.Following.{HasHeap, heap_of}
use Rattle.law_types_events.proofs.Below.law_types_still.heap.Values.{seen_as, no_ref, slot_seen, temp_seen, running, held_shown}
use Rattle.law_types_events.proofs.Below.law_types_still.heap.Leads.{each_none, to_other}
use Rattle.law_types_events.proofs.Below.law_types_still.heap.Forms.{within_env, newest, older, exact_at}
use Rattle.law_types_events.proofs.sorts.Viewing.{views_lead}
use Rattle.law_types_events.proofs.sorts.Tables.{LowInts, low_ints}
use Rattle.law_types_events.proofs.sorts.Parts.{anyone, look_of, suits, suits_named, suits_slot, suits_at}
use Rattle.law_types_events.proofs.sorts.Suited.{unsuited_of, Suited, top_suits, Topped, topped_last, none_from}

-- AS A WEIGHT

-- what of a thread that isn't over doesn't suit its entry
abbrev pub unsuited : Table → Standing → ℕ
unsuited table x = if_so (not (is_over x.thread.phase)) (entry_wrong (unsuited_of anyone x.thread) (table x.thread.pc))

-- ONE VALUE

module _ (rank : Key → ℕ) (E : KeyTypes) (s : Store) (typed : Typed rank E s) (g : Gives) (t : ℕ) where
  abbrev key : ℕ → Key
  key = slot_k t

  -- no view at the key leads to a slot of the thread
  abbrev ViewsLead : Key → Type 0
  ViewsLead h = (o : OwnedType) (m : Bool) (u : StorePlace) → E h ≡ refers m u → Seen key E o u → (j : ℕ) → s.at h ≡ ref_v (at_key (key j)) → ⊥

  gone_ref : (l : _) → gone_v ≡ ref_v l → ⊥
  gone_ref l e = cc

  -- a view is a reference
  view_sort : (h : Key) → ViewsLead h → (mark : Val) (o : OwnedType) (v : Value) → ExactOf key E (whole (view o)) (E h) → suits (whole (view o)) (look_of anyone v) ≡ true → s.at h ≡ seen_as g t mark v → ((m : MutexNo) → v ≡ value.Held m → mark ≡ gone_v)
      → has_sort (whole (view o)) v ≡ true
  view_sort h leads mark o v ex fits seen held = by (E h) refl ex
    where
      of : (v : Value) (l : _) (m : Bool) (u : StorePlace) → E h ≡ refers m u → Seen key E o u → s.at h ≡ ref_v l → suits (whole (view o)) (look_of anyone v) ≡ true → s.at h ≡ seen_as g t mark v → ((m : MutexNo) → v ≡ value.Held m → mark ≡ gone_v) → has_sort (whole (view o)) v ≡ true
      of (value.Shared r) l b u is views at fits seen held = refl
      of (value.Mut r) l b u is views at fits seen held = absurd cc
      of (value.MutSlot i) l b u is views at fits seen held = absurd cc
      of (value.SharedSlot i) l b u is views at fits seen held = absurd (leads o b u is views i seen)
      of value.Gone l b u is views at fits seen held = absurd (gone_ref l (sym seen ∙ at))
      of (value.Own w) l b u is views at fits seen held = absurd (no_ref g w l (sym seen ∙ at))
      of (value.Held m) l b u is views at fits seen held = absurd (gone_ref l (sym (held m refl) ∙ sym seen ∙ at))

      by : (x : Exact) → E h ≡ x → ExactOf key E (whole (view o)) x → has_sort (whole (view o)) v ≡ true
      by (owns tr) is ex = absurd ex
      by (refers m u) is ex = let r = ref_at rank E s typed h m u is in of v r.target m u is ex.1 r.is fits seen held

  pub whole_sort : (h : Key) → ViewsLead h → (mark : Val) (k : Kind) (v : Value) → ExactOf key E (whole k) (E h) → suits (whole k) (look_of anyone v) ≡ true → s.at h ≡ seen_as g t mark v → ((m : MutexNo) → v ≡ value.Held m → mark ≡ gone_v)
      → has_sort (whole k) v ≡ true
  whole_sort h leads mark (own o) v ex fits seen held = refl
  whole_sort h leads mark (view o) v ex fits seen held = view_sort h leads mark o v ex fits seen held
  whole_sort h leads mark (shared us) v ex fits seen held = by v fits
    where
      by : (v : Value) → suits (whole (shared us)) (look_of anyone v) ≡ true → has_sort (whole (shared us)) v ≡ true
      by (value.MutSlot i) e = absurd cc
      by (value.Mut r) e = absurd cc
      by value.Gone e = refl
      by (value.Own w) e = refl
      by (value.SharedSlot i) e = refl
      by (value.Shared r) e = refl
      by (value.Held m) e = refl
  whole_sort h leads mark (mutable us) v ex fits seen held = by v fits
    where
      by : (v : Value) → suits (whole (mutable us)) (look_of anyone v) ≡ true → has_sort (whole (mutable us)) v ≡ true
      by (value.SharedSlot i) e = absurd cc
      by (value.Shared r) e = absurd cc
      by value.Gone e = refl
      by (value.Own w) e = refl
      by (value.MutSlot i) e = refl
      by (value.Mut r) e = refl
      by (value.Held m) e = refl

  -- what has moved away is nothing
  gone_sort : (h : Key) (mark : Val) (q : Kind) (v : Value) → ExactOf key E (gone q) (E h) → suits (gone q) (look_of anyone v) ≡ true → s.at h ≡ seen_as g t mark v → ((m : MutexNo) → v ≡ value.Held m → ⊥) → has_sort (gone q) v ≡ true
  gone_sort h mark q v ex fits seen unheld = by (E h) refl ex
    where
      of : (v : Value) → s.at h ≡ gone_v → suits (gone q) (look_of anyone v) ≡ true → s.at h ≡ seen_as g t mark v → ((m : MutexNo) → v ≡ value.Held m → ⊥) → has_sort (gone q) v ≡ true
      of value.Gone at fits seen un = refl
      of (value.Own owned.Nothing) at fits seen un = absurd cc
      of (value.Own owned.Unit) at fits seen un = let z : owned_val g (plain_of owned.Unit) ≡ gone_v = sym seen ∙ at in absurd cc
      of (value.Own (owned.Int i)) at fits seen un = let z : owned_val g (plain_of (owned.Int i)) ≡ gone_v = sym seen ∙ at in absurd cc
      of (value.Own (owned.Box p)) at fits seen un = let z : owned_val g (plain_of (owned.Box p)) ≡ gone_v = sym seen ∙ at in absurd cc
      of (value.Own (owned.Mutex m)) at fits seen un = let z : owned_val g (plain_of (owned.Mutex m)) ≡ gone_v = sym seen ∙ at in absurd cc
      of (value.Own (owned.Task u)) at fits seen un = let z : owned_val g (plain_of (owned.Task u)) ≡ gone_v = sym seen ∙ at in absurd cc
      of (value.SharedSlot i) at fits seen un = absurd (gone_ref _ (sym at ∙ seen))
      of (value.MutSlot i) at fits seen un = absurd (gone_ref _ (sym at ∙ seen))
      of (value.Shared r) at fits seen un = absurd (gone_ref _ (sym at ∙ seen))
      of (value.Mut r) at fits seen un = absurd (gone_ref _ (sym at ∙ seen))
      of (value.Held m) at fits seen un = absurd (un m refl)

      by : (x : Exact) → E h ≡ x → ExactOf key E (gone q) x → has_sort (gone q) v ≡ true
      by (owns tr) is ex = of v (top_fits rank E s typed h hole (is ∙ ap owns ex)) fits seen unheld
      by (refers m u) is ex = absurd ex

  pub part_sort : (h : Key) → ViewsLead h → (mark : Val) (p : Piece) (v : Value) → ExactOf key E p (E h) → suits p (look_of anyone v) ≡ true → s.at h ≡ seen_as g t mark v → ((m : MutexNo) → v ≡ value.Held m → ⊥) → has_sort p v ≡ true
  part_sort h leads mark (whole k) v ex fits seen un = whole_sort h leads mark k v ex fits seen (λ m q. absurd (un m q))
  part_sort h leads mark (gone k) v ex fits seen un = gone_sort h mark k v ex fits seen un
  part_sort h leads mark (boxed p) v ex fits seen un = fits

-- SLOTS AND TEMPORARY VALUES

slots_sorted : (e : Env) (vs : List Value) → length vs ≡ length e → ((i : ℕ) (x : Slot) (v : Value) → env_at e i ≡ Some x → at_behind vs i ≡ Some v → slot_sort x (is_some x.name) v ≡ true) → slots_unsorted e vs ≡ 0
slots_sorted [] [] long go = refl
slots_sorted [] (v ∷ vs) long go = absurd (omega (arith, long))
slots_sorted (x ∷ e) [] long go = absurd (omega (arith, long))
slots_sorted (x ∷ e) (v ∷ vs) long go =
    let same : length vs ≡ length e = omega (arith, long) in
    let at_end : at_behind (v ∷ vs) (length e) ≡ Some v = ap (λ i. if length e == i then Some v else at_behind vs (length e)) same ∙ newest (length e) (Some v) (at_behind vs (length e)) in
    let first = to_other (slot_sort x (is_some x.name) v) (go (length e) x v (newest (length e) (Some x) (env_at e (length e))) at_end) in
    let later = slots_sorted e vs same (λ i y w a b. go i y w (older i (length e) (Some x) (env_at e i) (within_env e i y a) ∙ a) (older i (length vs) (Some v) (at_behind vs i) (omega (arith, within_env e i y a, same)) ∙ b)) in
    omega (arith, first, later)

and_first : (a b : Bool) → a && b ≡ true → a ≡ true
and_first true b e = refl
and_first false b e = absurd cc

and_second : (a b : Bool) → a && b ≡ true → b ≡ true
and_second true b e = e
and_second false b e = absurd cc

all_ints : (ks : List Kind) → wait ks ≡ true → tot (λ l. other (is_int l)) ks ≡ 0
all_ints [] w = refl
all_ints (k ∷ ks) w = let rest = all_ints ks (and_second (is_int k) (wait ks) w) in omega (arith, to_other (is_int k) (and_first (is_int k) (wait ks) w), rest)

temps_sorted : (ks : List Kind) (vs : List Value) → length vs ≡ length ks → LowInts ks → ((q : Kind) (rest : List Kind) (v : Value) → ks ≡ q ∷ rest → at_behind vs (length rest) ≡ Some v → has_sort (whole q) v ≡ true) → temps_unsorted ks vs ≡ 0
temps_sorted [] vs long low go = refl
temps_sorted (q ∷ ks) [] long low go = refl
temps_sorted (q ∷ ks) (v ∷ vs) long low go =
    let same : length vs ≡ length ks = omega (arith, long) in
    let here : at_behind (v ∷ vs) (length ks) ≡ Some v = ap (λ i. if length ks == i then Some v else at_behind vs (length ks)) same ∙ newest (length ks) (Some v) (at_behind vs (length ks)) in
    omega (arith, to_other (has_sort (whole q) v) (go q ks v refl here), all_ints ks low)

-- THREADS

module _ (k : Cluster) (c : HasHeap k) (is : IsTable k.code c.table) (x : Standing) (g : GoesOn k x) where
  abbrev t : ℕ
  t = x.thread.number

  abbrev E : KeyTypes
  E = c.typing.exact

  abbrev st : Store
  st = heap_of k c

  abbrev what : Entry
  what = (running k c x g).entry

  slots_below : SlotsBelow (slot_k t) E what.env
  slots_below = by what.forked (running k c x g).thread
    where
      by : (b : Bool) → IsThread b (slot_k t) c.typing.rank (hand_key t what.temps) what.env E st (hand_kind what.temps) → SlotsBelow (slot_k t) E what.env
      by true r = r.slots
      by false r = r.slots

  hand_is : TempIs (slot_k t) E (hand_key t what.temps) (hand_kind what.temps)
  hand_is = by what.forked (running k c x g).thread
    where
      by : (b : Bool) → IsThread b (slot_k t) c.typing.rank (hand_key t what.temps) what.env E st (hand_kind what.temps) → TempIs (slot_k t) E (hand_key t what.temps) (hand_kind what.temps)
      by true r = r.temp
      by false r = r.temp

  long_slots : length x.thread.slots ≡ length what.env
  long_slots = sym (length-map x.thread.slots plain_value) ∙ sym (length-reverse (map plain_value x.thread.slots)) ∙ (running k c x g).all_slots

  long_temps : length x.thread.temps ≡ length what.temps
  long_temps = sym (length-map x.thread.temps plain_value) ∙ sym (length-reverse (map plain_value x.thread.temps)) ∙ (running k c x g).all_temps

  slot_one : Suited anyone what.env x.thread.slots → (i : ℕ) (s : Slot) (v : Value) → env_at what.env i ≡ Some s → slice_get x.thread.slots i ≡ Some v → slot_sort s (is_some s.name) v ≡ true
  slot_one all i s v e at = by (is_some s.name) tells fits
    where
      tells : not (is_some s.name) ≡ is_held (Some (plain_value v))
      tells = sym (ap is_hidden e) ∙ (running k c x g).hidden i ∙ ap is_held (held_shown k c x g i v at)

      fits : suits_slot (Some s) (look_of anyone v) ≡ true
      fits = subst (λ o. suits_slot o (look_of anyone v) ≡ true) e (all i v at)

      unheld : not true ≡ is_held (Some (plain_value v)) → (m : MutexNo) → v ≡ value.Held m → ⊥
      unheld h m q = let z : false ≡ true = h ∙ ap (λ w. is_held (Some (plain_value w))) q in cc

      by : (b : Bool) → not b ≡ is_held (Some (plain_value v)) → suits_named b s.part (look_of anyone v) ≡ true → slot_sort s b v ≡ true
      by false h f = refl
      by true h f =
          part_sort c.typing.rank E st c.state.typed c.typing.gives t (slot_k t i) (views_lead k c t (slot_k t i) refl) (ref_v (c.typing.marks t i)) s.part v (exact_at (slot_k t) E what.env i s slots_below e) f (slot_seen k c x g i v at) (unheld h)

  last_number : (q : Kind) (rest : List Kind) → what.temps ≡ q ∷ rest → (v : Value) → slice_get x.thread.temps (length rest) ≡ Some v → last_of x.thread.temps ≡ Some v
  last_number q rest e v at =
      let a = long_temps in
      let b : length what.temps ≡ suc (length rest) = ap length e in
      subst (λ n. slice_get x.thread.temps n ≡ Some v) (omega (arith, a, b)) at

  temp_top : Topped anyone what.temps x.thread.temps → (q : Kind) (rest : List Kind) (v : Value) → what.temps ≡ q ∷ rest → slice_get x.thread.temps (length rest) ≡ Some v → has_sort (whole q) v ≡ true
  temp_top top q rest v e at =
      let ex : ExactOf (slot_k t) E (whole q) (E (temp_k t (length rest))) = subst (λ ts. TempIs (slot_k t) E (hand_key t ts) (hand_kind ts)) e hand_is in
      let fits : suits (whole q) (look_of anyone v) ≡ true = topped_last anyone q rest x.thread.temps v (subst (λ ts. Topped anyone ts x.thread.temps) e top) (last_number q rest e v at) in
      whole_sort c.typing.rank E st c.state.typed c.typing.gives t (temp_k t (length rest)) (views_lead k c t (temp_k t (length rest)) refl) gone_v q v ex fits (temp_seen k c x g (length rest) v at) (λ m h. refl)

  thread_sorted : entry_wrong (unsuited_of anyone x.thread) (c.table x.thread.pc) ≡ 0 → entry_wrong (sorts_of x.thread) (c.table x.thread.pc) ≡ 0
  thread_sorted z =
      let known = (running k c x g).known in
      let none : unsuited_of anyone x.thread what ≡ 0 = sym (ap (entry_wrong (unsuited_of anyone x.thread)) known) ∙ z in
      let all : Suited anyone what.env x.thread.slots = λ j v q. (let n : 0 + j ≡ j = omega arith in subst (λ m. suits_at what.env m (look_of anyone v) ≡ true) n (none_from anyone what.env 0 x.thread.slots (omega (arith, none)) j v q)) in
      let top : Topped anyone what.temps x.thread.temps = is_true (top_suits anyone what.temps (last_of x.thread.temps)) (omega (arith, none)) in
      let slots = slots_sorted what.env (reverse x.thread.slots) (length-reverse x.thread.slots ∙ long_slots) (λ i s v e at. slot_one all i s v e (sym (behind_is x.thread.slots i) ∙ at)) in
      let temps = temps_sorted what.temps (reverse x.thread.temps) (length-reverse x.thread.temps ∙ long_temps) (low_ints k.code c.table is x.thread.pc what known)
      (λ q rest v e at. temp_top top q rest v e (sym (behind_is x.thread.temps (length rest)) ∙ at)) in
      ap (entry_wrong (sorts_of x.thread)) known ∙ omega (arith, slots, temps)
    where
      is_true : (b : Bool) → other b ≡ 0 → b ≡ true
      is_true true e = refl
      is_true false e = absurd cc

-- all of them
pub sorts_follow : (k : Cluster) (c : HasHeap k) → IsTable k.code c.table → tot (unsuited c.table) (threads_in (things_of k)) ≡ 0 → sorts_wrong c.table (sight k) ≡ 0
sorts_follow k c is z =
    each_none (unsuited c.table) (λ x. if_so (not (is_over x.thread.phase)) (entry_wrong (sorts_of x.thread) (c.table x.thread.pc))) (threads_in (things_of k)) (λ x a none. by x a none (is_over x.thread.phase) refl) z
  where
    by : (x : Standing) → Among x (sight k).ground.threads → unsuited c.table x ≡ 0 → (q : Bool) → is_over x.thread.phase ≡ q → if_so (not (is_over x.thread.phase)) (entry_wrong (sorts_of x.thread) (c.table x.thread.pc)) ≡ 0
    by x a none true e = ap (λ b. if_so (not b) (entry_wrong (sorts_of x.thread) (c.table x.thread.pc))) e
    by x a none false e =
        let w = sym (ap (λ b. if_so (not b) (entry_wrong (unsuited_of anyone x.thread) (c.table x.thread.pc))) e) ∙ none in
        ap (λ b. if_so (not b) (entry_wrong (sorts_of x.thread) (c.table x.thread.pc))) e ∙ thread_sorted k c is x (record { among = a; going = e }) w
