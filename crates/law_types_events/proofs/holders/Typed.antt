-- What a typed one heap says of the references of a thread that goes on: where they stand, and that a mutable reference to an object has the exact type of a mutable one.
use Rattle.std.proofs.Common.{◌≡◌, ◌⊎◌, inl, inr, ℕ, zero, suc, ◌<◌, ◌≤◌, ◌==◌, not, Bool, true, false, if◌then◌else◌, List, [], ◌∷◌, reverse, map, length, Option, Some, None, is_some, refl, sym, ap, subst, ◌∙◌, arith}
use Rattle.std.specs.Prelude.{slice_get}
use Rattle.std.proofs.lemmas.List.{length-reverse, length-map}
use Rattle.std.proofs.lemmas.Option.{slice_get_within}
use Rattle.law_types_events.specs.Below.fr_base.declared.place.Lval.{Lval}
use Rattle.law_types_events.specs.Below.fr_typing.Kinds.{Kind, own, shared, mutable, view, Piece, whole, gone, boxed}
use Rattle.law_types_events.specs.Below.fr_typing.Places.{Slot, Env}
use Rattle.law_types_events.proofs.Below.fr_typing.PlaceLemmas.{eq_cases}
use Rattle.law_types_events.specs.Below.fr_store.Keys.{Key, slot_k, temp_k}
use Rattle.law_types_events.specs.Below.fr_store.Store.{gone_v, ref_v, Store, Place as StorePlace}
use Rattle.law_types_events.specs.Below.fr_store.Typed.{int_tree, owns, refers, KeyTypes}
use Rattle.law_types_events.specs.Below.fr_store.Below.{RefOf, ExactOf, SlotsBelow}
use Rattle.law_types_events.specs.Below.fr_store.Thread.{TempIs}
use Rattle.law_types_events.proofs.Below.fr_store.Sound.{ref_at}
use Rattle.law_types_events.specs.Below.fr_sound.States.{env_at, is_hidden, is_held, hand_key, hand_kind, operands, IsThread}
use Rattle.law_types_events.specs.Below.fr_code.CodeTypes.{Entry}
use Rattle.law_types_events.specs.Below.thread_state.View.{is_over}
use Rattle.law_types_events.specs.Below.thread_state.declared.value.Value.{Value}
use Rattle.law_types_events.specs.Below.thread_state.declared.value.Value.TheVariants as value
use Rattle.law_types_events.specs.Below.server_model.Servers.{Cluster}
use Rattle.law_types_events.specs.Below.coherent_memory.Names.{if_so}
use Rattle.law_types_events.specs.Below.coherent_memory.Follow.{Standing}
use Rattle.law_types_events.specs.Below.coherent_memory.Sight.{sight}
use Rattle.law_types_events.specs.Below.coherent_memory.OneHeap.{plain_value}
use Rattle.law_types_events.specs.Below.coherent_types.ClusterTypes.{entry_wrong}
use Rattle.law_types_events.specs.Below.law_words_paths.paths.HeapStore.{GoesOn}
use Rattle.law_types_events.proofs.Below.law_words_paths.paths.Alike.{ref_type}
use Rattle.law_types_events.proofs.Below.law_words_paths.paths.Forms.{none_of}
use Rattle.law_types_events.proofs.Below.law_words_paths.paths.Shown.{shown_value, at_behind, behind_is}
use Rattle.law_types_events.specs.Below.law_types_still.heap.Counted.{has_sort, slot_sort, slots_unsorted, temps_unsorted, sorts_of, sorts_wrong}
use Rattle.law_types_events.proofs.Below.law_types_still.heap.Following.{HasHeap, heap_of, is_running, slot_none}
use Rattle.law_types_events.proofs.Below.law_types_still.heap.Values.{seen_as, temp_seen, running, held_shown}
use Rattle.law_types_events.proofs.Below.law_types_still.heap.Leads.{from_other}
use Rattle.law_types_events.proofs.Below.law_types_still.heap.Forms.{within_env, newest, older, exact_at}
use Rattle.law_types_events.proofs.holders.Holding.{holder_of, held, value_held}

-- LISTS

there_env : (e : Env) (i : ℕ) → i < length e → (x : Slot) × (env_at e i ≡ Some x)
there_env [] i l = absurd (omega (arith, l))
there_env (y ∷ e) i l =
    eq_cases (λ b. (x : Slot) × ((if b then Some y else env_at e i) ≡ Some x)) i (length e) (λ q. (y, refl)) (λ ne. there_env e i (omega (arith, l, ne)))

sorted_at : (e : Env) (vs : List Value) → length vs ≡ length e → slots_unsorted e vs ≡ 0 → (i : ℕ) (x : Slot) (v : Value) → env_at e i ≡ Some x → at_behind vs i ≡ Some v → slot_sort x (is_some x.name) v ≡ true
sorted_at [] vs long z i x v a b = absurd cc
sorted_at (y ∷ e) [] long z i x v a b = absurd cc
sorted_at (y ∷ e) (u ∷ vs) long z i x v a b =
    let same : length vs ≡ length e = omega (arith, long) in
    eq_cases (λ t. (if t then Some y else env_at e i) ≡ Some x → (if i == length vs then Some u else at_behind vs i) ≡ Some v → slot_sort x (is_some x.name) v ≡ true) i (length e)
    (λ q f g.
    let slot : y ≡ x = cc in
    let there : Some u ≡ Some v = sym (ap (λ n. if n == length vs then Some u else at_behind vs n) (q ∙ sym same) ∙ newest (length vs) (Some u) (at_behind vs (length vs))) ∙ g in
    let item : u ≡ v = cc in
    subst (λ w. slot_sort x (is_some x.name) w ≡ true) item (subst (λ (w : Slot). slot_sort w (is_some w.name) u ≡ true) slot (from_other (slot_sort y (is_some y.name) u) (omega (arith, z)))))
    (λ ne f g. sorted_at e vs same (omega (arith, z)) i x v f (sym (older i (length vs) (Some u) (at_behind vs i) (let l = within_env e i x f in omega (arith, l, same))) ∙ g)) a b

-- SORTS

-- a value with a holder that is of the sort of a reference's part is a mutable one
mutable_sort : (key : ℕ → Key) (E : KeyTypes) (p : Piece) (m : Bool) (u : StorePlace) (v : Value) (w : Lval) → holder_of v ≡ Some w → RefOf key E p m u → has_sort p v ≡ true → m ≡ true
mutable_sort key E (whole (own o)) m u v w e r s = absurd r
mutable_sort key E (whole (mutable us)) m u v w e r s = r.0
mutable_sort key E (gone k) m u v w e r s = absurd r
mutable_sort key E (boxed p) m u v w e r s = absurd r
mutable_sort key E (whole (shared us)) m u (value.Mut q) w e r s = absurd cc
mutable_sort key E (whole (view o)) m u (value.Mut q) w e r s = absurd cc
mutable_sort key E (whole (shared us)) m u value.Gone w e r s = absurd cc
mutable_sort key E (whole (shared us)) m u (value.Own x) w e r s = absurd cc
mutable_sort key E (whole (shared us)) m u (value.SharedSlot i) w e r s = absurd cc
mutable_sort key E (whole (shared us)) m u (value.MutSlot i) w e r s = absurd cc
mutable_sort key E (whole (shared us)) m u (value.Shared q) w e r s = absurd cc
mutable_sort key E (whole (shared us)) m u (value.Held q) w e r s = absurd cc
mutable_sort key E (whole (view o)) m u value.Gone w e r s = absurd cc
mutable_sort key E (whole (view o)) m u (value.Own x) w e r s = absurd cc
mutable_sort key E (whole (view o)) m u (value.SharedSlot i) w e r s = absurd cc
mutable_sort key E (whole (view o)) m u (value.MutSlot i) w e r s = absurd cc
mutable_sort key E (whole (view o)) m u (value.Shared q) w e r s = absurd cc
mutable_sort key E (whole (view o)) m u (value.Held q) w e r s = absurd cc

no_mark : (v : Value) (w : Lval) → holder_of v ≡ Some w → is_held (Some (plain_value v)) ≡ true → ⊥
no_mark (value.Mut r) w e f = cc
no_mark value.Gone w e f = cc
no_mark (value.Own x) w e f = cc
no_mark (value.SharedSlot i) w e f = cc
no_mark (value.MutSlot i) w e f = cc
no_mark (value.Shared r) w e f = cc
no_mark (value.Held m) w e f = cc

no_reference : (l : _) → gone_v ≡ ref_v l → ⊥
no_reference l e = cc

-- A THREAD

module _ (k : Cluster) (c : HasHeap k) (x : Standing) (g : GoesOn k x) where
  abbrev t : ℕ
  t = x.thread.number

  abbrev pub E : KeyTypes
  E = c.typing.exact

  abbrev st : Store
  st = heap_of k c

  -- what typing knows where it is
  abbrev pub what : Entry
  what = (running k c x g).entry

  slots_below : SlotsBelow (slot_k t) E what.env
  slots_below = by what.forked (running k c x g).thread
    where
      by : (b : Bool) → IsThread b (slot_k t) c.typing.rank (hand_key t what.temps) what.env E st (hand_kind what.temps) → SlotsBelow (slot_k t) E what.env
      by true r = r.slots
      by false r = r.slots

  hand_is : TempIs (slot_k t) E (hand_key t what.temps) (hand_kind what.temps)
  hand_is = by what.forked (running k c x g).thread
    where
      by : (b : Bool) → IsThread b (slot_k t) c.typing.rank (hand_key t what.temps) what.env E st (hand_kind what.temps) → TempIs (slot_k t) E (hand_key t what.temps) (hand_kind what.temps)
      by true r = r.temp
      by false r = r.temp

  long_slots : length x.thread.slots ≡ length what.env
  long_slots = sym (length-map x.thread.slots plain_value) ∙ sym (length-reverse (map plain_value x.thread.slots)) ∙ (running k c x g).all_slots

  long_temps : length x.thread.temps ≡ length what.temps
  long_temps = sym (length-map x.thread.temps plain_value) ∙ sym (length-reverse (map plain_value x.thread.temps)) ∙ (running k c x g).all_temps

  temp_none : (i : ℕ) → slice_get x.thread.temps i ≡ None → st.at (temp_k t i) ≡ gone_v
  temp_none i e = rw (is_running k c x g) (rw (shown_value x.thread.temps i) (rw e refl))

  -- a slot of a reference's exact type is there, and its part is a reference's
  pub slot_within : (j : ℕ) (m : Bool) (u : StorePlace) → E (slot_k t j) ≡ refers m u → j < length x.thread.slots
  slot_within j m u e = by (slice_get x.thread.slots j) refl
    where
      by : (o : Option Value) → slice_get x.thread.slots j ≡ o → j < length x.thread.slots
      by None q = let f = ref_at c.typing.rank E st c.state.typed (slot_k t j) m u e in absurd (no_reference f.target (sym (slot_none k c x g j q) ∙ f.is))
      by (Some v) q = slice_get_within x.thread.slots j v q

  pub slot_part : (j : ℕ) (m : Bool) (u : StorePlace) → E (slot_k t j) ≡ refers m u → (s : Slot) × (env_at what.env j ≡ Some s) × RefOf (slot_k t) E s.part m u
  slot_part j m u e =
      let l = slot_within j m u e in
      let at = there_env what.env j (omega (arith, l, long_slots)) in
      (at.0, at.1, subst (ExactOf (slot_k t) E at.0.part) e (exact_at (slot_k t) E what.env j at.0 slots_below at.1))

  -- a temporary value of such a type is the one on top
  temp_within : (j : ℕ) (m : Bool) (u : StorePlace) → E (temp_k t j) ≡ refers m u → j < length x.thread.temps
  temp_within j m u e = by (slice_get x.thread.temps j) refl
    where
      by : (o : Option Value) → slice_get x.thread.temps j ≡ o → j < length x.thread.temps
      by None q = let f = ref_at c.typing.rank E st c.state.typed (temp_k t j) m u e in absurd (no_reference f.target (sym (temp_none j q) ∙ f.is))
      by (Some v) q = slice_get_within x.thread.temps j v q

  either_less : (i n : ℕ) → (i < n) ⊎ (n ≤ i)
  either_less zero zero = inr (omega arith)
  either_less zero (suc n) = inl (omega arith)
  either_less (suc i) zero = inr (omega arith)
  either_less (suc i) (suc n) = by (either_less i n)
    where
      by : (i < n) ⊎ (n ≤ i) → (suc i < suc n) ⊎ (suc n ≤ suc i)
      by (inl h) = inl (omega (arith, h))
      by (inr h) = inr (omega (arith, h))

  no_integer : (m : Bool) (u : StorePlace) → owns int_tree ≡ refers m u → ⊥
  no_integer m u e = cc

  pub temp_top : (j : ℕ) (m : Bool) (u : StorePlace) → E (temp_k t j) ≡ refers m u → (q : Kind) × (rest : List Kind) × (what.temps ≡ q ∷ rest) × (length rest ≡ j) × RefOf (slot_k t) E (whole q) m u
  temp_top j m u e = by what.temps refl
    where
      by : (ts : List Kind) → what.temps ≡ ts → (q : Kind) × (rest : List Kind) × (what.temps ≡ q ∷ rest) × (length rest ≡ j) × RefOf (slot_k t) E (whole q) m u
      by [] f = let l = temp_within j m u e in let n : length what.temps ≡ 0 = ap (λ (a : List Kind). length a) f in absurd (omega (arith, l, n, long_temps))
      by (q ∷ rest) f = low (either_less j (length rest))
        where
          low : (j < length rest) ⊎ (length rest ≤ j) → (q : Kind) × (rest : List Kind) × (what.temps ≡ q ∷ rest) × (length rest ≡ j) × RefOf (slot_k t) E (whole q) m u
          low (inl h) = absurd (no_integer m u (sym ((running k c x g).waiting j (subst (λ a. j < operands a) (sym f) h)) ∙ e))
          low (inr h) =
              let l = temp_within j m u e in
              let n : length what.temps ≡ suc (length rest) = ap (λ (a : List Kind). length a) f in
              let same : length rest ≡ j = omega (arith, h, l, n, long_temps) in
              let ex : ExactOf (slot_k t) E (whole q) (E (temp_k t (length rest))) = subst (λ ts. TempIs (slot_k t) E (hand_key t ts) (hand_kind ts)) f hand_is in
              (q, rest, f, same, subst (ExactOf (slot_k t) E (whole q)) e (subst (λ a. ExactOf (slot_k t) E (whole q) (E (temp_k t a))) same ex))

  pub temp_last : (j : ℕ) (m : Bool) (u : StorePlace) → E (temp_k t j) ≡ refers m u → suc j ≡ length x.thread.temps
  temp_last j m u e =
      let z = temp_top j m u e in
      let n : length what.temps ≡ suc (length z.1) = ap (λ (a : List Kind). length a) z.2 in
      omega (arith, n, z.3, long_temps)

  -- a temporary value with a holder has the exact type of a reference
  pub temp_refers : (j : ℕ) (w : Lval) → held x.thread.temps j ≡ Some w → (m : Bool) × (u : StorePlace) × (E (temp_k t j) ≡ refers m u)
  temp_refers j w e = let v = value_held x.thread.temps j w e in by v.0 v.2 (temp_seen k c x g j v.0 v.1)
    where
      by : (v : Value) → holder_of v ≡ Some w → st.at (temp_k t j) ≡ seen_as c.typing.gives t gone_v v → (m : Bool) × (u : StorePlace) × (E (temp_k t j) ≡ refers m u)
      by (value.Mut r) f seen = ref_type c.typing.rank E st c.state.typed (temp_k t j) _ seen
      by value.Gone f seen = absurd cc
      by (value.Own y) f seen = absurd cc
      by (value.SharedSlot i) f seen = absurd cc
      by (value.MutSlot i) f seen = absurd cc
      by (value.Shared r) f seen = absurd cc
      by (value.Held y) f seen = absurd cc

  -- WHERE VALUES HAVE THEIR SORTS

  module _ (sorted : sorts_wrong c.table (sight k) ≡ 0) where
    sorts : sorts_of x.thread what ≡ 0
    sorts =
        let all = none_of (λ (w : Standing). if_so (not (is_over w.thread.phase)) (entry_wrong (sorts_of w.thread) (c.table w.thread.pc))) x (sight k).ground.threads sorted g.among in
        let going : entry_wrong (sorts_of x.thread) (c.table x.thread.pc) ≡ 0 = sym (ap (λ b. if_so (not b) (entry_wrong (sorts_of x.thread) (c.table x.thread.pc))) g.going) ∙ all in
        sym (ap (entry_wrong (sorts_of x.thread)) (running k c x g).known) ∙ going

    -- a holder's value has the exact type of a mutable reference, if that of a reference
    pub slot_mutable : (j : ℕ) (w : Lval) (m : Bool) (u : StorePlace) → held x.thread.slots j ≡ Some w → E (slot_k t j) ≡ refers m u → m ≡ true
    slot_mutable j w m u e is =
        let v = value_held x.thread.slots j w e in
        let p = slot_part j m u is in
        let sort = sorted_at what.env (reverse x.thread.slots) (length-reverse x.thread.slots ∙ long_slots) (omega (arith, sorts)) j p.0 v.0 p.1 (behind_is x.thread.slots j ∙ v.1) in
        let tells : not (is_some p.0.name) ≡ is_held (Some (plain_value v.0)) = sym (ap is_hidden p.1) ∙ (running k c x g).hidden j ∙ ap is_held (held_shown k c x g j v.0 v.1) in
        by p.0 v.0 v.2 p.2 (is_some p.0.name) tells sort
      where
        by : (s : Slot) (v : Value) → holder_of v ≡ Some w → RefOf (slot_k t) E s.part m u → (b : Bool) → not b ≡ is_held (Some (plain_value v)) → slot_sort s b v ≡ true → m ≡ true
        by s v f r true h sort = mutable_sort (slot_k t) E s.part m u v w f r sort
        by s v f r false h sort = absurd (no_mark v w f (sym h))

    pub temp_mutable : (j : ℕ) (w : Lval) (m : Bool) (u : StorePlace) → held x.thread.temps j ≡ Some w → E (temp_k t j) ≡ refers m u → m ≡ true
    temp_mutable j w m u e is =
        let v = value_held x.thread.temps j w e in
        let p = temp_top j m u is in
        let long : length (reverse x.thread.temps) ≡ suc (length p.1) = length-reverse x.thread.temps ∙ long_temps ∙ ap (λ (a : List Kind). length a) p.2 in
        let at : at_behind (reverse x.thread.temps) (length p.1) ≡ Some v.0 = behind_is x.thread.temps (length p.1) ∙ ap (slice_get x.thread.temps) p.3 ∙ v.1 in
        let none : temps_unsorted (p.0 ∷ p.1) (reverse x.thread.temps) ≡ 0 = sym (ap (λ ts. temps_unsorted ts (reverse x.thread.temps)) p.2) ∙ omega (arith, sorts) in
        by (reverse x.thread.temps) p.0 p.1 v.0 v.2 p.4 long at none
      where
        by : (vs : List Value) (q : Kind) (rest : List Kind) (v : Value) → holder_of v ≡ Some w → RefOf (slot_k t) E (whole q) m u → length vs ≡ suc (length rest) → at_behind vs (length rest) ≡ Some v → temps_unsorted (q ∷ rest) vs ≡ 0 → m ≡ true
        by [] q rest v f r long at none = absurd (omega (arith, long))
        by (a ∷ vs) q rest v f r long at none =
            let same : length rest ≡ length vs = omega (arith, long) in
            let there : Some a ≡ Some v = sym (ap (λ n. if n == length vs then Some a else at_behind vs n) same ∙ newest (length vs) (Some a) (at_behind vs (length vs))) ∙ at in
            let item : a ≡ v = cc in
            mutable_sort (slot_k t) E (whole q) m u v w f r (subst (λ b. has_sort (whole q) b ≡ true) item (from_other (has_sort (whole q) a) (omega (arith, none))))
