-- Reads that copy keep a state typed.
use Rattle.std.proofs.Common.{◌≡◌, ◌≢◌, ◌⊎◌, inl, inr, ◌∙◌, ap₂, ℕ, ℤ, zero, suc, ◌<◌, ◌≤◌, Bool, true, false, List, ◌∷◌, ◌++◌, length, Option, Some, None, refl, sym, ap, subst, arith}
use Rattle.fr_base.specs.declared.label.Plain.{Plain}
use Rattle.fr_base.specs.declared.label.Plain.TheVariants as plain
use Rattle.fr_base.specs.declared.name.ObjNo.{ObjNo}
use Rattle.fr_base.specs.declared.name.MutexNo.{MutexNo}
use Rattle.fr_base.specs.declared.place.Lval.{Lval}
use Rattle.fr_base.specs.declared.step.Fresh.TheVariants as fresh
use Rattle.fr_typing.specs.Kinds.{Owned, unit, int, box, mutex, task, Kind, own, shared, mutable, view, Piece, whole, copies}
use Rattle.fr_typing.specs.Places.{Env, found, type_at, kind_places, AreBelow, IsNested}
use Rattle.fr_store.specs.Keys.{Key, slot_k}
use Rattle.fr_store.specs.Store.{locate as store_locate}
use Rattle.fr_store.specs.Store.{Location, at_key, Val, gone_v, unit_v, int_v, ref_v, Store, value_at, Place, put_value, add}
use Rattle.fr_store.specs.Typed.{hole, unit_tree, int_tree, mutex_tree, task_tree, box_tree, Exact, owns, refers, KeyTypes, Whole, exact_under, Resolves, here, through, Fits, RefFits, Typed, Unnamed}
use Rattle.fr_store.specs.Changes.{New, new_unit, new_int}
use Rattle.fr_store.specs.Below.{tree_of, Seen, ExactOf, SlotsBelow}
use Rattle.fr_store.specs.Rows.{with_type}
use Rattle.fr_store.specs.Thread.{place_of, temp_places}
use Rattle.fr_store.proofs.Rows.{found_place, copy_ref}
use Rattle.fr_store.proofs.Sound.{res_part}
use Rattle.fr_store.proofs.Below.{Resolved, mut_place, resolved}
use Rattle.fr_store.proofs.PutAt.{places_any}
use Rattle.fr_store.proofs.ThreadKept.{exact_owned, exact_with, ref_base, res_low, whole_exact}
use Rattle.fr_plain.specs.declared.value.Value.{Value}
use Rattle.fr_plain.specs.declared.value.Value.TheVariants.{Own, Held}
use Rattle.fr_plain.specs.Heap.{Heap, cell_at}
use Rattle.fr_plain.specs.MachineActs.{do_read, read_did}
use Rattle.fr_plain.specs.State.{State, Spot, in_slot, in_cell, owned, then_reached, slot_at, loads}
use Rattle.fr_plain.specs.State as machine
use Rattle.fr_plain.specs.MachineThreads.{Now, Move, Life, Thread, Whole as State_, state_of}
use Rattle.fr_plain.specs.Machine.{prints, nameless, then_released, stepped}
use Rattle.fr_plain.specs.PlainState.{Running, PlainState, place_in, plain_state}
use Rattle.fr_sound.specs.Entries.{Entry, going}
use Rattle.fr_sound.specs.Seen.{val_of, seen_cell, location_of}
use Rattle.fr_sound.specs.States.{Typing, is_held, thread_of_key}
use Rattle.fr_code.specs.CodeTypes.{HasType, wait}
use Rattle.law_plain_values.specs.acts.Positions.{Position, moves_by, StartsAs}
use Rattle.law_plain_values.specs.acts.ActRows.{Leaves, loud, left_after, ActRow, r_copy}
use Rattle.law_plain_values.specs.acts.Keeps.{Ready, StepsTyped, Keeps, IsCopy}
use Rattle.law_plain_values.proofs.acts.Lower.{seen_as, slot_is, Names, names_own, names_view, names_of, res_below, decide_less}
use Rattle.law_plain_values.proofs.acts.OneThread.{store, Counted}
use Rattle.law_plain_values.proofs.acts.AtHand.{NewName}
use Rattle.law_plain_values.proofs.acts.Focus.{top_none, hand_at, Focus}
use Rattle.law_plain_values.proofs.acts.Hand.{At, ranked, push, push_none, typed_new}
use Rattle.law_plain_values.proofs.acts.Done.{runs_here, only_here}
use Rattle.law_plain_values.proofs.acts.Operands.{steps_typed}
use Rattle.law_plain_values.proofs.acts.Places.{variable_below, variable_seen, slot_here, cell_here, leads, value_there, seen_val_of}
use Rattle.law_plain_values.proofs.acts.Borrows.{variable_clear}

-- WHERE A REFERENCE STANDS

-- a place whose value is a reference leads to a slot of its own thread
own_base : (t : ℕ) (E : KeyTypes) (e : Env) → SlotsBelow (slot_k t) E e → IsNested e → ((i : ℕ) → length e ≤ i → E (slot_k t i) ≡ owns hole) → (only : Bool) (i : ℕ) (k : Key) (d : ℕ) (b : Key) (n : ℕ) (m : Bool) (u : Place) → k ≡ slot_k t i → Resolves E only k d b n (refers m u) → (j : ℕ) × (b ≡ slot_k t j)
own_base t E e slots nested free only i k d b n m u ke (here f) = (i, ke)
own_base t E e slots nested free only i k d b n m u ke (through m2 u2 more is o de r) =
    let is2 : E (slot_k t i) ≡ refers m2 u2 = ap E (sym ke) ∙ is in
    let there = slot_is (slot_k t) E e i slots nested (below (decide_less i (length e)) is2) in
    by there.slot.part (names_of (slot_k t) E i there.slot.part m2 u2 there.names (subst (ExactOf (slot_k t) E there.slot.part) is2 there.exact)) (λ j ke2. own_base t E e slots nested free only j u2.key (add u2.depth more) b n m u ke2 r)
  where
    below : (i < length e) ⊎ (length e ≤ i) → E (slot_k t i) ≡ refers m2 u2 → i < length e
    below (inl l) is2 = l
    below (inr l) is2 = let f : owns hole ≡ refers m2 u2 = sym (free i l) ∙ is2 in absurd cc

    no_view : (o : Owned) → Seen (slot_k t) E o u2 → ⊥
    no_view o c =
        let f = res_below E false only u2.key c.base b u2.depth c.boxes n more (tree_of o) (refers m u) c.res r in
        let g = ref_base n (E b) m u (res_part E only u2.key (add u2.depth more) b n (refers m u) r) in
        none c.boxes (E c.base) (ap E (sym f.0) ∙ g) (res_part E false u2.key u2.depth c.base c.boxes (owns (tree_of o)) c.res)
      where
        none : (n : ℕ) (q : Exact) → q ≡ refers m u → exact_under n q ≡ Some (owns (tree_of o)) → ⊥
        none n (owns x) f g = cc
        none zero (refers m3 u3) f g = cc
        none (suc n) (refers m3 u3) f g = cc

    by : (q : Piece) → Names (slot_k t) E i q u2 → ((j : ℕ) → u2.key ≡ slot_k t j → (j : ℕ) × (b ≡ slot_k t j)) → (j : ℕ) × (b ≡ slot_k t j)
    by q (names_own j lt ke2) go = go j ke2
    by _ (names_view o c) go = absurd (no_view o c)

-- WHAT STANDS AT A PLACE

-- what is whole isn't gone
pub not_gone : (E : KeyTypes) (s : Store) (q : Exact) → Whole q → Fits E s q gone_v → ⊥
not_gone E s (owns hole) w f = w
not_gone E s (owns unit_tree) w f = cc
not_gone E s (owns int_tree) w f = let g = f.1 in cc
not_gone E s (owns (mutex_tree x)) w f = let g = f.1 in cc
not_gone E s (owns (task_tree x)) w f = let g = f.1 in cc
not_gone E s (owns (box_tree x)) w f = let g = f.1 in cc
not_gone E s (refers m u) w f = let g = f.is in cc

-- what stands at a location of a spot, and isn't gone, stands in the machine
pub value_found : (y : Typing) (a : PlainState Position) (t : ℕ) (x : Running Position) (heap : Heap) (runs : place_in (a.thread t) ≡ Some x) (objects : (o : ObjNo) → a.object o ≡ cell_at heap o) (typed : Typed y.rank y.exact (store y a))
    (unnamed : (i : ℕ) (m : MutexNo) → slot_at x.slots i ≡ Some (Held m) → Unnamed y.exact (slot_k t i)) (p : Spot) (v : Val) → value_at (store y a) (location_of t p) ≡ Some v → (v ≡ gone_v → ⊥) → (z : Value) × (machine.value_at (record { thread = t; slots = x.slots; heap = heap }) p ≡ Some z)
value_found y a t x heap runs objects typed unnamed (in_slot i) v e ne = by (slot_at x.slots i) refl
  where
    by : (o : Option Value) → slot_at x.slots i ≡ o → (z : Value) × (slot_at x.slots i ≡ Some z)
    by None q =
        let f : Some gone_v ≡ Some v = ap Some (sym (slot_here y a t x heap runs objects typed unnamed i ∙ ap (seen_as y.gives t (ref_v (y.marks t i))) q)) ∙ e in
        let g : v ≡ gone_v = cc in
        absurd (ne g)
    by (Some z) q = (z, q)
value_found y a t x heap runs objects typed unnamed (in_cell o) v e ne = by (cell_at heap o) refl
  where
    by : (c : Option Plain) → cell_at heap o ≡ c → (z : Value) × (owned (cell_at heap o) ≡ Some z)
    by None q = let f : None ≡ Some v = sym (cell_here y a t x heap runs objects typed unnamed o ∙ ap (seen_cell y.gives) q) ∙ e in absurd cc
    by (Some w) q = (Own w, ap owned q)

-- A COPY AT HAND

record Copied (y : Typing) (a : PlainState Position) (t : ℕ) (x : Running Position) (e : Env) (us : List Kind) (k : Kind) (v : Val) (p : Exact) : Type 0 where
  typed : Typed y.rank (with_type y.exact (hand_at t us) p) (put_value (store y a) (at_key (hand_at t us)) v)
  exact : ExactOf (slot_k t) (with_type y.exact (hand_at t us) p) (whole k) p
  names : AreBelow (length e) (temp_places (Some k))
  new : (m : Bool) (u : Place) → p ≡ refers m u → NewName y t x m u
  plain : Counted v → ⊥

module _ (y : Typing) (a : PlainState Position) (t : ℕ) (x : Running Position) (e : Env) (us : List Kind) (f : Focus y a t e us None) (w : Lval) (lt : w.slot < length e) (l : Location) (v : Val) (at : store_locate (store y a) (place_of (slot_k t) w) ≡ Some l) (there : value_at (store y a) l ≡ Some v) where
  -- a value of int or unit
  copied_plain : (o : Owned) → (c : Resolved (slot_k t) y.exact false w (whole (own o))) → New y.rank y.exact (store y a) (hand_at t us) (owns (tree_of o)) v → (Counted v → ⊥) → Copied y a t x e us (own o) v c.type
  copied_plain o c n plain = subst (Copied y a t x e us (own o) v) (sym (exact_owned (slot_k t) y.exact o c.type c.exact)) (record {
    typed = typed_new y.rank y.exact (store y a) (hand_at t us) (tree_of o) v f.thread.typed f.thread.quiet n;
    exact = refl;
    names = tt;
    new = λ m u q. absurd cc;
    plain = plain;
  })

  -- a shared reference or a view
  copied_ref : (k : Kind) (u : Place) (b : Key) (n : ℕ) → Resolves y.exact false (slot_k t w.slot) w.depth b n (refers false u) → ExactOf (slot_k t) y.exact (whole k) (refers false u) → AreBelow (length e) (kind_places k) → RefFits y.exact (store y a) false u v → Copied y a t x e us k v (refers false u)
  copied_ref k u b n res exact names fits =
      let low = res_low y.rank y.exact (store y a) f.thread.typed false (slot_k t w.slot) w.depth b n (refers false u) res in
      let up = f.thread.over w.slot lt in
      let is = ref_base n (y.exact b) false u (res_part y.exact false (slot_k t w.slot) w.depth b n (refers false u) res) in
      let own = own_base t y.exact e f.thread.slots f.thread.nested f.thread.above false w.slot (slot_k t w.slot) w.depth b n false u refl res in
      record {
        typed = copy_ref y.rank y.exact (store y a) (hand_at t us) false (place_of (slot_k t) w) b n u l v f.thread.typed f.thread.quiet res (omega (arith, low, up)) at there;
        exact = exact_with (slot_k t) y.exact (hand_at t us) (refers false u) (whole k) (refers false u) f.thread.quiet (λ m q z. let same : u ≡ q = cc in subst (λ (j : Place). j.key ≢ hand_at t us) same (f.thread.quiet b false u is)) exact;
        names = names;
        new = λ m q z. inl (b, ap thread_of_key own.1, is ∙ z);
        plain = λ c. subst Counted fits.is c;
      }

  -- by the kind
  copied : (k : Kind) → type_at e w ≡ found (whole k) → copies k ≡ true → (c : Resolved (slot_k t) y.exact false w (whole k)) → Fits y.exact (store y a) c.type v → Copied y a t x e us k v c.type
  copied (own unit) is h c fits = let q : v ≡ unit_v = subst (λ z. Fits y.exact (store y a) z v) (exact_owned (slot_k t) y.exact unit c.type c.exact) fits in copied_plain unit c (subst (New y.rank y.exact (store y a) (hand_at t us) (owns unit_tree)) (sym q) new_unit) (λ d. subst Counted q d)
  copied (own int) is h c fits = let q : (n : ℤ) × (v ≡ int_v n) = subst (λ z. Fits y.exact (store y a) z v) (exact_owned (slot_k t) y.exact int c.type c.exact) fits in copied_plain int c (subst (New y.rank y.exact (store y a) (hand_at t us) (owns int_tree)) (sym q.1) (new_int q.0)) (λ d. subst Counted q.1 d)
  copied (own (box o)) is h c fits = cc
  copied (own (mutex o)) is h c fits = cc
  copied (own (task o)) is h c fits = cc
  copied (mutable vs) is h c fits = cc
  copied (shared vs) is h c fits = by c.type c.res c.exact fits
    where
      by : (q : Exact) → Resolves y.exact false (slot_k t w.slot) w.depth c.base c.boxes q → ExactOf (slot_k t) y.exact (whole (shared vs)) q → Fits y.exact (store y a) q v → Copied y a t x e us (shared vs) v q
      by (owns z) r x fits = absurd x
      by (refers false u) r x fits = copied_ref (shared vs) u c.base c.boxes r x (places_any e w vs f.thread.nested is lt) fits
      by (refers true u) r x fits = let z = x.0 in cc
  copied (view o) is h c fits = by c.type c.res c.exact fits
    where
      by : (q : Exact) → Resolves y.exact false (slot_k t w.slot) w.depth c.base c.boxes q → ExactOf (slot_k t) y.exact (whole (view o)) q → Fits y.exact (store y a) q v → Copied y a t x e us (view o) v q
      by (owns z) r x fits = absurd x
      by (refers false u) r x fits = copied_ref (view o) u c.base c.boxes r x tt fits
      by (refers true u) r x fits = let z = x.0 in cc

-- THE ACT

record CopyRow (x : Entry) (vs : List Value) (w : Lval) (l : Leaves) (z : Entry) : Type 0 where
  env : Env
  temps : List Kind
  result : Owned
  kind : Kind
  waits : wait temps ≡ true
  is : HasType env w (found (whole kind))
  copied : copies kind ≡ true
  entry : x ≡ going env temps result
  leaves : l ≡ loud vs
  comes : z ≡ going env (kind ∷ temps) result

copy_row : {x z : Entry} {vs : List Value} {w : Lval} {l : Leaves} → ActRow StartsAs x vs (do_read w false) l z → CopyRow x vs w l z
copy_row (r_copy {e = e} {ts = ts} {g = g} {k = k} q h c b) = record { env = e; temps = ts; result = g; kind = k; waits = q; is = h; copied = c; entry = refl; leaves = refl; comes = refl }

module _ (now : Position → Now) (move : Position → Option (Move Position Position)) (y : Typing) (s : State_ Position) (t : Thread Position) (p : Position) (wrap : Position → Life Position) (plug : Value → Position) where
  copy_steps : (w : Lval) → Ready y s t p wrap (do_read w false) plug → StepsTyped y (moves_by now move) s t fresh.None (record { act = do_read w false; plug = λ z. wrap (plug z) })
  copy_steps w r =
      let i = copy_row r.row in
      let x : Running Position = record { place = p; slots = t.slots } in
      let n = t.number in
      let h : At y (plain_state s) n x i.env i.temps i.result = record { state = r.state; runs = runs_here s t p wrap r.goes_on r.found r.at; entry = i.entry } in
      let z = ranked y (plain_state s) n x i.env i.temps i.temps None i.result h top_none i.waits in
      let sto = store z.typing (plain_state s) in
      let lt = variable_below i.env w.slot i.is.named in
      let c = resolved (slot_k n) z.typing.exact (mut_place z.typing.rank z.typing.exact sto z.at.state.typed) i.env z.focus.thread.nested z.focus.thread.slots w (whole i.kind) lt i.is.is in
      let f = found_place z.typing.rank z.typing.exact sto false (place_of (slot_k n) w) c.base c.boxes c.type z.at.state.typed c.res in
      let unnamed = λ (i : ℕ) (mu : MutexNo) (q : slot_at t.slots i ≡ Some (Held mu)). (z.running.marked i mu q).unnamed in
      let l = leads z.typing (plain_state s) n x s.heap h.runs (λ o. refl) z.at.state.typed unnamed w.slot w.depth f.loc (variable_clear z w.slot (variable_seen i.env w.slot i.is.named)) f.at in
      let here : value_at sto (location_of n l.reached.spot) ≡ Some f.value = ap (value_at sto) l.spot ∙ f.there in
      let v = value_found z.typing (plain_state s) n x s.heap h.runs (λ o. refl) z.at.state.typed unnamed l.reached.spot f.value here (λ q. not_gone z.typing.exact sto c.type (whole_exact (slot_k n) z.typing.exact i.kind c.type c.exact) (subst (Fits z.typing.exact sto c.type) q f.fits)) in
      let clear : is_held (Some v.0) ≡ false = sym (ap is_held v.1) ∙ l.clear in
      let same : Some f.value ≡ Some (val_of z.typing.gives n v.0) = sym here ∙ value_there z.typing (plain_state s) n x s.heap h.runs (λ o. refl) z.at.state.typed unnamed l.reached.spot v.0 v.1 l.clear in
      let val : f.value ≡ seen_as z.typing.gives n gone_v (Some v.0) = some_val same ∙ sym (seen_val_of z.typing.gives n gone_v v.0 clear) in
      let d = copied z.typing (plain_state s) n x i.env i.temps z.focus w lt f.loc f.value f.at f.there i.kind i.is.is i.copied c f.fits in
      let d2 = subst (λ u. Copied z.typing (plain_state s) n x i.env i.temps i.kind u c.type) val d in
      let q : Position = record { entry = going i.env (i.kind ∷ i.temps) i.result; temps = v.0 ∷ p.temps } in
      let labels = l.reached.passed ++ loads l.reached.spot v.0 in
      let only = only_here s t p wrap r.goes_on r.found r.at q t.slots s.heap (s.output ++ prints labels) (λ u. omega arith) in
      let b = push z.typing (plain_state s) _ n x i.env i.temps i.result i.kind v.0 c.type z.at z.focus only (λ o. refl) d2.typed d2.exact d2.names d2.new d2.plain in
      steps_typed now move s t wrap (record { act = do_read w false; plug = λ u. wrap (plug u) }) plug v.0 q t.slots s.heap labels y b.typing r.goes_on
      (r.comes v.0 ∙ ap₂ (λ a k. record { entry = a; temps = left_after k v.0 }) i.comes i.leaves)
      (ap (λ o. nameless fresh.None (then_released plain.Nothing (stepped (moves_by now move) s t (record { act = do_read w false; plug = λ u. wrap (plug u) }) (then_reached o (λ k. read_did (state_of s t) false k (machine.value_at (state_of s t) k.spot)))))) l.is
      ∙ ap (λ o. nameless fresh.None (then_released plain.Nothing (stepped (moves_by now move) s t (record { act = do_read w false; plug = λ u. wrap (plug u) }) (read_did (state_of s t) false l.reached o)))) v.1)
      b.at.state
      (b.names ∙ z.names)
      (λ j u e. z.refs j u (push_none b (λ v f. not_lent (slot_k n) (with_type z.typing.exact (hand_at n i.temps) c.type) v i.kind i.copied (subst (ExactOf (slot_k n) (with_type z.typing.exact (hand_at n i.temps) c.type) (whole i.kind)) f d2.exact)) j u e))
    where
      some_val : {a b : Val} → Some a ≡ Some b → a ≡ b
      some_val e = cc

      -- what is copied is no mutable reference
      not_lent : (key : ℕ → Key) (E : KeyTypes) (u : Place) (k : Kind) → copies k ≡ true → ExactOf key E (whole k) (refers true u) → ⊥
      not_lent key E u (own o) q h = h
      not_lent key E u (shared us) q h = let f : true ≡ false = h.0 in cc
      not_lent key E u (mutable us) q h = cc
      not_lent key E u (view o) q h = let f : true ≡ false = h.0 in cc

pub copy_keeps : Keeps IsCopy
copy_keeps now move y s t p wrap act plug h r = subst (λ a. StepsTyped y (moves_by now move) s t fresh.None (record { act = a; plug = λ z. wrap (plug z) })) (sym h.1) (copy_steps now move y s t p wrap plug h.0 (subst (λ a. Ready y s t p wrap a plug) h.1 r))
