-- Reads that move keep a state typed.
use Rattle.std.proofs.Common.{◌≡◌, ◌≢◌, ◌⊎◌, inl, inr, ⊎_elim, ◌∙◌, ap₂, ℕ, suc, ◌<◌, ◌≤◌, true, false, List, ◌∷◌, ◌++◌, length, Option, Some, None, refl, sym, ap, subst, arith}
use Rattle.fr_base.specs.declared.label.Plain.{Plain}
use Rattle.fr_base.specs.declared.label.Plain.TheVariants as plain
use Rattle.fr_base.specs.declared.name.ObjNo.{ObjNo}
use Rattle.fr_base.specs.declared.name.MutexNo.{MutexNo}
use Rattle.fr_base.specs.declared.place.Lval.{Lval}
use Rattle.fr_base.specs.declared.step.Fresh.TheVariants as fresh
use Rattle.fr_typing.specs.Kinds.{Owned, unit, int, box, mutex, task, Kind, own, shared, mutable, view, whole, gone, copies}
use Rattle.fr_typing.specs.Places.{Env, found, type_at, write_blocked, is_own_path, put_at}
use Rattle.fr_typing.proofs.PlaceLemmas.{AreBelow-weaker}
use Rattle.fr_store.specs.Keys.{Key, slot_k}
use Rattle.fr_store.specs.Store.{locate as store_locate, Place}
use Rattle.fr_store.specs.Store.{Alike, Location, at_key, Val, gone_v, ref_v, Store, value_at, put_value, swap}
use Rattle.fr_store.specs.Changes.{SameButTwo, put_tree}
use Rattle.fr_store.specs.Typed.{hole, owns, refers, KeyTypes, exact_under, some_owns, Resolves, here, Fits, Unnamed}
use Rattle.fr_store.specs.Below.{tree_of, ExactOf}
use Rattle.fr_store.specs.Rows.{with_type}
use Rattle.fr_store.specs.Thread.{ThreadTyped, place_of}
use Rattle.fr_store.proofs.Keys.{key_same, key_other, decide_key}
use Rattle.fr_store.proofs.Chains.{decide_location}
use Rattle.fr_store.proofs.Rows.{found_place, swap_own, move_ref, unnamed_with, same_store, top_fits, put_there, put_other}
use Rattle.fr_store.proofs.Below.{Resolved, mut_place, resolved, slot_exact}
use Rattle.fr_store.proofs.OwnPaths.{own_reference}
use Rattle.fr_store.proofs.PutAt.{length_put, nested_put, places_found, slots_gone}
use Rattle.fr_store.proofs.ThreadKept.{exact_owned, known_tree, no_temp, ref_found, slots_with, unnamed_key, whole_exact, still_hole}
use Rattle.fr_plain.specs.declared.value.Value.{Value}
use Rattle.fr_plain.specs.declared.value.Value.TheVariants.{Own, Held}
use Rattle.fr_plain.specs.Heap.{Heap, cell_at}
use Rattle.fr_plain.specs.MachineActs.{do_read, read_did}
use Rattle.fr_plain.specs.State.{State, Spot, in_slot, in_cell, owned, then_reached, slot_at, loads, stores, with_value}
use Rattle.fr_plain.specs.State as machine
use Rattle.fr_plain.specs.MachineThreads.{Now, Move, Life, Thread, Whole as Machine, state_of, with_thread}
use Rattle.fr_plain.specs.Machine.{prints, nameless, then_released, stepped}
use Rattle.fr_plain.specs.PlainState.{Running, PlainState, place_in, plain_state}
use Rattle.fr_sound.specs.Entries.{Entry, going}
use Rattle.fr_sound.specs.Seen.{val_of, seen_cell, location_of}
use Rattle.fr_sound.specs.States.{Typing, owned_part, env_at, part_at, is_hidden, is_held}
use Rattle.fr_code.specs.CodeTypes.{HasType, wait}
use Rattle.law_plain_values.specs.acts.Positions.{Position, moves_by, StartsAs}
use Rattle.law_plain_values.specs.acts.ActRows.{Leaves, loud, left_after, ActRow, r_move}
use Rattle.law_plain_values.specs.acts.Keeps.{Ready, StepsTyped, Keeps}
use Rattle.law_plain_values.proofs.acts.Lower.{seen_as}
use Rattle.law_plain_values.proofs.acts.OneThread.{store, typing_with}
use Rattle.law_plain_values.proofs.acts.Focus.{top_none, top_some, hand_at, Focus}
use Rattle.law_plain_values.proofs.acts.AtHand.{Only, mark_off}
use Rattle.law_plain_values.proofs.acts.Moved.{carried_swap, mark_off_owned}
use Rattle.law_plain_values.proofs.acts.Hand.{At, ranked, pushed_others, pushed_here}
use Rattle.law_plain_values.proofs.acts.Copies.{not_gone, value_found}
use Rattle.law_plain_values.proofs.acts.Done.{runs_here, only_here}
use Rattle.law_plain_values.proofs.acts.Operands.{steps_typed}
use Rattle.law_plain_values.proofs.acts.Places.{variable_below, variable_seen, leads, value_there, seen_val_of}
use Rattle.law_plain_values.proofs.acts.Borrows.{variable_clear}
use Rattle.law_plain_values.specs.slots.SlotActs.{IsMove}
use Rattle.law_plain_values.proofs.acts.Rethread.{Stood, rethread}
use Rattle.law_plain_values.proofs.acts.SlotTurn.{some_none, slot_two, temp_two, same_two, alike_swap, slots_changed}
use Rattle.law_plain_values.proofs.acts.Slots.{owned_in, lock_with}
use Rattle.law_plain_values.proofs.acts.OwnPaths.{own_part, swapped_types, swapped_refs, own_swapped}
use Rattle.law_plain_values.proofs.acts.Envs.{hidden_put, owned_put, part_exact, part_type, owned_under}
use Rattle.law_plain_values.proofs.acts.Written.{Writes, slots_same, objects_same, spot_same, still_there, was_there, slots_many, made_many, held_same, mark_same, mark_was}

-- THE TYPES AFTER A MOVE

-- what moved stands at hand: the types then, whatever the state that shows them, and what stays
record Taken (y : Typing) (a : PlainState Position) (t : ℕ) (e : Env) (us : List Kind) (w : Lval) (k : Kind) (l : Location) : Type 0 where
  types : KeyTypes
  thread : (s2 : Store) → SameButTwo (at_key (hand_at t us)) l (store y a) s2 → value_at s2 l ≡ Some ((store y a).at (hand_at t us)) → Some (s2.at (hand_at t us)) ≡ value_at (store y a) l → ThreadTyped (slot_k t) y.rank (hand_at t us) (put_at e w (gone k)) types s2 (Some k)
  others : (j : Key) → j ≢ hand_at t us → ((i : ℕ) → j ≢ slot_k t i) → types j ≡ y.exact j
  stood : Stood (slot_k t) (hand_at t us) y.exact types
  origin : (j : Key) (u : Place) → types j ≡ refers true u → (y.exact j ≡ refers true u) ⊎ ((j ≡ hand_at t us) × (y.exact (slot_k t w.slot) ≡ refers true u))
  parts : (i : ℕ) → owned_in (part_at (put_at e w (gone k)) i) ≡ owned_in (part_at e i)
  marks : (u i : ℕ) (m : MutexNo) (x : Running Position) → place_in (a.thread u) ≡ Some x → slot_at x.slots i ≡ Some (Held m) → y.marks u i ≢ l

module _ (y : Typing) (a : PlainState Position) (t : ℕ) (x : Running Position) (e : Env) (us : List Kind) (g : Owned) (h : At y a t x e us g) (f : Focus y a t e us None) (w : Lval) (lt : w.slot < length e) (l : Location) (v : Val) (at : store_locate (store y a) (place_of (slot_k t) w) ≡ Some l) (there : value_at (store y a) l ≡ Some v)
    (free : write_blocked e w.slot ≡ false) (mine : is_own_path e w ≡ true) where
  unnamed : Unnamed y.exact (slot_k t w.slot)
  unnamed = unnamed_key (slot_k t) y.rank (hand_at t us) e y.exact (store y a) None f.keys f.thread w.slot free (λ m u q. absurd (no_temp y.exact (hand_at t us) m u f.thread.temp q))

  -- a value that owns
  taken_own : (o : Owned) → Resolved (slot_k t) y.exact false w (whole (own o)) → Taken y a t e us w (own o) l
  taken_own o c =
      let res = subst (Resolves y.exact false (slot_k t w.slot) w.depth c.base c.boxes) (exact_owned (slot_k t) y.exact o c.type c.exact) c.res in
      let p = own_part (slot_k t) y.exact e w false c.base c.boxes (tree_of o) f.thread.slots lt mine res in
      let E2 = swapped_types y.exact (hand_at t us) (slot_k t w.slot) w.depth hole p.0 (tree_of o) in
      let typed = swap_own y.rank y.exact (store y a) (hand_at t us) (slot_k t w.slot) w.depth hole p.0 (tree_of o) l f.thread.typed f.thread.quiet (λ z. f.keys.off w.slot (sym z)) f.thread.temp unnamed p.1 p.2 at in
      let d = found_place y.rank y.exact (store y a) false (place_of (slot_k t) w) (slot_k t w.slot) w.depth (owns (tree_of o)) f.thread.typed (here (ap (exact_under w.depth) p.1 ∙ ap some_owns p.2)) in
      let chain = d.chain ∙ sym d.at ∙ at in
      record {
        types = E2;
        thread = λ s2 same to hand. own_swapped (slot_k t) y.rank (hand_at t us) e y.exact (store y a) s2 w None (Some (own o)) (gone (own o)) hole p.0 (tree_of o) f.keys f.thread f.thread.temp unnamed p.1 p.2 refl tt lt
            (same_store y.rank E2 E2 (swap (store y a) (hand_at t us) l) s2 typed (λ j. refl) (alike_swap (store y a) s2 (hand_at t us) l v away there same to (some_val (hand ∙ there)))) refl refl;
        others = λ j nh ns. key_other j (hand_at t us) (owns (tree_of o)) (with_type y.exact (slot_k t w.slot) (owns (put_tree w.depth hole p.0)) j) nh ∙ key_other j (slot_k t w.slot) (owns (put_tree w.depth hole p.0)) (y.exact j) (ns w.slot);
        stood = λ j m u js. inl (swapped_refs y.exact (hand_at t us) (slot_k t w.slot) w.depth hole p.0 (tree_of o) j m u js);
        origin = λ j u js. inl (swapped_refs y.exact (hand_at t us) (slot_k t w.slot) w.depth hole p.0 (tree_of o) j true u js);
        parts = owned_put e w (gone (own o)) (λ s is. owned_under w.depth (gone (own o)) s.part p.0 o (subst (ExactOf (slot_k t) y.exact s.part) p.1 (part_exact (slot_k t) y.exact e w.slot s f.thread.slots is)) p.2 refl);
        marks = λ u i m z runs mark. mark_off_owned y a u i m z (slot_k t w.slot) p.0 (tree_of o) w.depth l h.state runs mark unnamed p.1 p.2 chain;
      }
    where
      some_val : {q r : Val} → Some q ≡ Some r → q ≡ r
      some_val e = cc

      away : l ≢ at_key (hand_at t us)
      away q = not_gone y.exact (store y a) c.type (whole_exact (slot_k t) y.exact (own o) c.type c.exact) (subst (Fits y.exact (store y a) c.type) gone_there c_fits)
        where
          d : Rattle.fr_store.specs.Rows.PlaceFound y.exact (store y a) (place_of (slot_k t) w) c.base c.boxes c.type
          d = found_place y.rank y.exact (store y a) false (place_of (slot_k t) w) c.base c.boxes c.type f.thread.typed c.res

          c_fits : Fits y.exact (store y a) c.type d.value
          c_fits = d.fits

          gone_there : d.value ≡ gone_v
          gone_there =
              let same : d.loc ≡ l = let k : Some d.loc ≡ Some l = sym d.at ∙ at in cc in
              some_val (sym d.there ∙ ap (value_at (store y a)) (same ∙ q)) ∙ top_fits y.rank y.exact (store y a) f.thread.typed (hand_at t us) hole f.thread.temp

  -- a mutable reference leaves its variable
  taken_ref : (us2 : List Lval) → type_at e w ≡ found (whole (mutable us2)) → Resolved (slot_k t) y.exact false w (whole (mutable us2)) → Taken y a t e us w (mutable us2) l
  taken_ref vs is c =
      let r = ref_found (slot_k t) y.exact vs c.type c.exact in
      let flat = own_reference (slot_k t) y.exact e w false c.base c.boxes true r.0 f.thread.slots lt mine (subst (Resolves y.exact false (slot_k t w.slot) w.depth c.base c.boxes) r.1 c.res) in
      let same : w ≡ record { slot = w.slot; depth = 0 } = ap (λ d. (let q : Lval = record { slot = w.slot; depth = d } in q)) flat in
      subst (λ (q : Lval). Taken y a t e us q (mutable vs) l) (sym same) (flat_taken vs (sym (ap (type_at e) same) ∙ is) (let k : Some (at_key (slot_k t w.slot)) ≡ Some l = ap (λ (q : Lval). store_locate (store y a) (place_of (slot_k t) q)) (sym same) ∙ at in cc))
    where
      flat_taken : (vs : List Lval) → type_at e (record { slot = w.slot; depth = 0 }) ≡ found (whole (mutable vs)) → l ≡ at_key (slot_k t w.slot) → Taken y a t e us (record { slot = w.slot; depth = 0 }) (mutable vs) l
      flat_taken vs is stands =
          let w0 : Lval = record { slot = w.slot; depth = 0 } in
          let b = hand_at t us in
          let x0 = slot_k t w.slot in
          let E1 = with_type y.exact x0 (owns hole) in
          let exact = slot_exact (slot_k t) y.exact (mut_place y.rank y.exact (store y a) f.thread.typed) e w.slot (whole (mutable vs)) f.thread.slots is in
          let r = ref_found (slot_k t) y.exact vs (y.exact x0) exact in
          let p = refers true r.0 in
          let E2 = with_type E1 b p in
          let low = places_found e w.slot vs f.thread.nested is lt in
          let fa = unnamed_with y.exact x0 hole b f.thread.quiet in
          let lower = f.thread.typed.below x0 true r.0 r.1 in
          let up = f.thread.over w.slot lt in
          let typed = move_ref y.rank y.exact (store y a) x0 b true r.0 f.thread.typed unnamed f.thread.quiet (f.keys.off w.slot) r.1 (omega (arith, lower, up)) in
          let came : Stood (slot_k t) b y.exact E2 = λ j m u js. ⊎_elim
          (λ (z : j ≡ b). inr (x0, r.1 ∙ sym (key_same b p (E1 b)) ∙ ap E2 (sym z) ∙ js, inr (w.slot, refl), inl z))
          (λ (z : j ≢ b). inl (known_tree (slot_k t) b y.exact x0 hole j m u (sym (key_other j b p (E1 j) z) ∙ js))) (decide_key j b) in
          record {
            types = E2;
            thread = λ s2 same to hand. rethread f.thread (record {
              typed = same_store y.rank E2 E2 (put_value (put_value (store y a) (at_key x0) gone_v) (at_key b) ((store y a).at x0)) s2 typed (λ j. refl)
                  (moved (store y a) s2 b x0 (f.keys.off w.slot) (top_fits y.rank y.exact (store y a) f.thread.typed b hole f.thread.temp) (subst (λ q. SameButTwo (at_key b) q (store y a) s2) stands same) (sym (ap (value_at s2) stands) ∙ to) (hand ∙ ap (value_at (store y a)) stands));
              nested = nested_put e w0 (gone (mutable vs)) low f.thread.nested;
              slots = slots_with (slot_k t) E1 b p (put_at e w0 (gone (mutable vs))) fa (λ i _. f.keys.off i) (slots_gone (slot_k t) y.exact e w.slot (mutable vs) f.keys.differ f.thread.slots unnamed);
              above = λ i le. key_other (slot_k t i) b p (E1 (slot_k t i)) (f.keys.off i) ∙ still_hole y.exact x0 (slot_k t i) (f.thread.above i (subst (λ n. n ≤ i) (length_put e w0 (gone (mutable vs))) le));
              temp = subst (ExactOf (slot_k t) E2 (whole (mutable vs))) (sym (key_same b p (E1 b))) (subst (ExactOf (slot_k t) E2 (whole (mutable vs))) r.1 exact);
              names = AreBelow-weaker w.slot (length (put_at e w0 (gone (mutable vs)))) vs (subst (λ n. w.slot ≤ n) (sym (length_put e w0 (gone (mutable vs)))) (omega (arith, lt))) low;
              over = λ i il. f.thread.over i (subst (λ n. i < n) (length_put e w0 (gone (mutable vs))) il);
              stood = came;
            });
            others = λ j nh ns. key_other j b p (E1 j) nh ∙ key_other j x0 (owns hole) (y.exact j) (ns w.slot);
            stood = came;
            origin = λ j u js. ⊎_elim (λ (z : j ≡ b). inr (z, r.1 ∙ sym (key_same b p (E1 b)) ∙ ap E2 (sym z) ∙ js))
                (λ (z : j ≢ b). inl (known_tree (slot_k t) b y.exact x0 hole j true u (sym (key_other j b p (E1 j) z) ∙ js))) (decide_key j b);
            parts = owned_put e w0 (gone (mutable vs)) (λ s q. let k : found s.part ≡ found (whole (mutable vs)) = sym (part_type e w.slot s q) ∙ is in let k2 : s.part ≡ whole (mutable vs) = cc in sym (ap owned_part k2));
            marks = λ u i m z runs mark q. mark_off y a u i m z x0 h.state runs mark unnamed (q ∙ stands);
          }
        where
          -- a value that has moved to a free key
          moved : (s s2 : Store) (b x : Key) → x ≢ b → s.at b ≡ gone_v → SameButTwo (at_key b) (at_key x) s s2 → value_at s2 (at_key x) ≡ Some (s.at b) → Some (s2.at b) ≡ value_at s (at_key x) → Alike (put_value (put_value s (at_key x) gone_v) (at_key b) (s.at x)) s2
          moved s s2 b x xb empty same to hand q = by (decide_location q (at_key b)) (decide_location q (at_key x))
            where
              by : (q ≡ at_key b) ⊎ (q ≢ at_key b) → (q ≡ at_key x) ⊎ (q ≢ at_key x) → value_at s2 q ≡ value_at (put_value (put_value s (at_key x) gone_v) (at_key b) (s.at x)) q
              by (inl k) n = ap (value_at s2) k ∙ hand ∙ sym (put_there (put_value s (at_key x) gone_v) (at_key b) (s.at x)) ∙ ap (value_at (put_value (put_value s (at_key x) gone_v) (at_key b) (s.at x))) (sym k)
              by (inr k) (inl n) =
                  ap (value_at s2) n ∙ to ∙ ap Some empty ∙ sym (put_there s (at_key x) gone_v) ∙ ap (value_at (put_value s (at_key x) gone_v)) (sym n) ∙ sym (put_other (put_value s (at_key x) gone_v) (at_key b) (s.at x) q k)
              by (inr k) (inr n) = same q k n ∙ sym (put_other s (at_key x) gone_v q n) ∙ sym (put_other (put_value s (at_key x) gone_v) (at_key b) (s.at x) q k)

  -- by the kind
  taken : (k : Kind) → type_at e w ≡ found (whole k) → copies k ≡ false → Resolved (slot_k t) y.exact false w (whole k) → Taken y a t e us w k l
  taken (own unit) is h c = cc
  taken (own int) is h c = cc
  taken (own (box o)) is h c = taken_own (box o) c
  taken (own (mutex o)) is h c = taken_own (mutex o) c
  taken (own (task o)) is h c = taken_own (task o) c
  taken (mutable vs) is h c = taken_ref vs is c
  taken (shared vs) is h c = cc
  taken (view o) is h c = cc

-- THE ACT

record MoveRow (x : Entry) (vs : List Value) (w : Lval) (l : Leaves) (z : Entry) : Type 0 where
  env : Env
  temps : List Kind
  result : Owned
  kind : Kind
  waits : wait temps ≡ true
  is : HasType env w (found (whole kind))
  moved : copies kind ≡ false
  free : write_blocked env w.slot ≡ false
  mine : is_own_path env w ≡ true
  entry : x ≡ going env temps result
  leaves : l ≡ loud vs
  comes : z ≡ going (put_at env w (gone kind)) (kind ∷ temps) result

move_row : {x z : Entry} {vs : List Value} {w : Lval} {l : Leaves} → ActRow StartsAs x vs (do_read w true) l z → MoveRow x vs w l z
move_row (r_move {e = e} {ts = ts} {g = g} {k = k} q h c b o) = record { env = e; temps = ts; result = g; kind = k; waits = q; is = h; moved = c; free = b; mine = o; entry = refl; leaves = refl; comes = refl }

-- what stands at a spot after the change
pub spot_two : (y : Typing) (a a2 : PlainState Position) (t : ℕ) (x x2 : Running Position) (E2 : KeyTypes) (heap : Heap) → place_in (a.thread t) ≡ Some x → Only a a2 t x2 → ((o : ObjNo) → a2.object o ≡ cell_at heap o) → (p : Spot) (u : Value)
    → machine.value_at (record { thread = t; slots = x2.slots; heap = heap }) p ≡ Some u → is_held (Some u) ≡ false → value_at (store (typing_with y E2 y.marks) a2) (location_of t p) ≡ Some (val_of y.gives t u)
spot_two y a a2 t x x2 E2 heap runs only objects (in_slot i) u is clear = ap Some (slot_two y a a2 t x x2 E2 y.marks runs only i ∙ ap (seen_as y.gives t (ref_v (y.marks t i))) is ∙ seen_val_of y.gives t (ref_v (y.marks t i)) u clear)
spot_two y a a2 t x x2 E2 heap runs only objects (in_cell o) u is clear = ap (seen_cell y.gives) (objects o) ∙ by (cell_at heap o) is
  where
    by : (c : Option Plain) → owned c ≡ Some u → seen_cell y.gives c ≡ Some (val_of y.gives t u)
    by None f = cc
    by (Some w) f = let same : Own w ≡ u = cc in ap (λ q. Some (val_of y.gives t q)) same

module _ (now : Position → Now) (move : Position → Option (Move Position Position)) (y : Typing) (s : Machine Position) (t : Thread Position) (p : Position) (wrap : Position → Life Position) (plug : Value → Position) where
  move_steps : (w : Lval) → Ready y s t p wrap (do_read w true) plug → StepsTyped y (moves_by now move) s t fresh.None (record { act = do_read w true; plug = λ z. wrap (plug z) })
  move_steps w r =
      let i = move_row r.row in
      let x : Running Position = record { place = p; slots = t.slots } in
      let n = t.number in
      let h : At y (plain_state s) n x i.env i.temps i.result = record { state = r.state; runs = runs_here s t p wrap r.goes_on r.found r.at; entry = i.entry } in
      let z = ranked y (plain_state s) n x i.env i.temps i.temps None i.result h top_none i.waits in
      let b = hand_at n i.temps in
      let s1 = store z.typing (plain_state s) in
      let lt = variable_below i.env w.slot i.is.named in
      let c = resolved (slot_k n) z.typing.exact (mut_place z.typing.rank z.typing.exact s1 z.at.state.typed) i.env z.focus.thread.nested z.focus.thread.slots w (whole i.kind) lt i.is.is in
      let f = found_place z.typing.rank z.typing.exact s1 false (place_of (slot_k n) w) c.base c.boxes c.type z.at.state.typed c.res in
      let unnamed = λ (i : ℕ) (mu : MutexNo) (q : slot_at t.slots i ≡ Some (Held mu)). (z.running.marked i mu q).unnamed in
      let l = leads z.typing (plain_state s) n x s.heap h.runs (λ o. refl) z.at.state.typed unnamed w.slot w.depth f.loc (variable_clear z w.slot (variable_seen i.env w.slot i.is.named)) f.at in
      let spot = l.reached.spot in
      let here : value_at s1 (location_of n spot) ≡ Some f.value = ap (value_at s1) l.spot ∙ f.there in
      let v = value_found z.typing (plain_state s) n x s.heap h.runs (λ o. refl) z.at.state.typed unnamed spot f.value here (λ q. not_gone z.typing.exact s1 c.type (whole_exact (slot_k n) z.typing.exact i.kind c.type c.exact) (subst (Fits z.typing.exact s1 c.type) q f.fits)) in
      let clear : is_held (Some v.0) ≡ false = sym (ap is_held v.1) ∙ l.clear in
      let same : Some f.value ≡ Some (val_of z.typing.gives n v.0) = sym here ∙ value_there z.typing (plain_state s) n x s.heap h.runs (λ o. refl) z.at.state.typed unnamed spot v.0 v.1 l.clear in
      let val : f.value ≡ seen_as z.typing.gives n gone_v (Some v.0) = some_val same ∙ sym (seen_val_of z.typing.gives n gone_v v.0 clear) in
      let d = taken z.typing (plain_state s) n x i.env i.temps i.result z.at z.focus w lt (location_of n spot) f.value (f.at ∙ ap Some (sym l.spot)) here i.free i.mine i.kind i.is.is i.moved c in
      let st = state_of s t in
      let st2 = with_value st spot machine.gone in
      let wr : Writes st spot machine.gone v.0 = record { is = v.1; clear = clear; new_clear = refl; cell = λ o q. (plain.Nothing, refl) } in
      let labels = l.reached.passed ++ loads spot v.0 ++ stores spot machine.gone in
      let q : Position = record { entry = going (put_at i.env w (gone i.kind)) (i.kind ∷ i.temps) i.result; temps = v.0 ∷ p.temps } in
      let x2 : Running Position = record { place = q; slots = st2.slots } in
      let a2 = plain_state (record s { threads = with_thread s.threads (record { number = t.number; life = wrap q; slots = st2.slots }); heap = st2.heap; output = s.output ++ prints labels }) in
      let only : Only (plain_state s) a2 n x2 = only_here s t p wrap r.goes_on r.found r.at q st2.slots st2.heap (s.output ++ prints labels) (λ u. let k = made_many st machine.gone v.0 spot u in omega (arith, k)) in
      let s2 = store (typing_with z.typing d.types z.typing.marks) a2 in
      let two : SameButTwo (at_key b) (location_of n spot) s1 s2 = same_two z.typing (plain_state s) a2 n x x2 d.types (length i.temps) (location_of n spot) h.runs only
      (λ j ne. ap (seen_as z.typing.gives n (ref_v (z.typing.marks n j))) (slots_same st machine.gone v.0 spot j ne))
      (λ j ne. ap (seen_as z.typing.gives n gone_v) (pushed_others v.0 p.temps j (length i.temps) (sym z.long) ne))
      (λ o ne. ap (seen_cell z.typing.gives) (objects_same st machine.gone v.0 spot o ne)) in
      let to : value_at s2 (location_of n spot) ≡ Some (s1.at b) = spot_two z.typing (plain_state s) a2 n x x2 d.types st2.heap h.runs only (λ o. refl) spot machine.gone (spot_same st machine.gone v.0 spot wr) refl ∙ ap Some (sym (top_fits z.typing.rank z.typing.exact s1 z.at.state.typed b hole z.focus.thread.temp)) in
      let hand : Some (s2.at b) ≡ value_at s1 (location_of n spot) = ap Some (temp_two z.typing (plain_state s) a2 n x x2 d.types z.typing.marks h.runs only (length i.temps) ∙ ap (seen_as z.typing.gives n gone_v) (pushed_here v.0 p.temps (length i.temps) (sym z.long)) ∙ sym val) ∙ sym here in
      let e_is : z.running.entry ≡ going i.env i.temps i.result = sym z.running.known ∙ i.entry in
      let typed = slots_changed z.at z.focus (record {
        only = only;
        objects = still_there st machine.gone v.0 spot wr;
        before = was_there st machine.gone v.0 spot wr;
        tops = top_some;
        idle = some_none i.kind (wait i.temps);
        entry = refl;
        temps = ap suc z.long;
        slots = slots_many st machine.gone v.0 spot ∙ z.running.all_slots ∙ ap (λ (e : Entry). length e.env) e_is ∙ sym (length_put i.env w (gone i.kind));
        long = let k = length_put i.env w (gone i.kind) in omega (arith, k);
        thread = d.thread s2 two to hand;
        others = d.others;
        stood = d.stood;
        hidden = λ j. hidden_put i.env w (gone i.kind) j ∙ ap (λ (e : Entry). is_hidden (env_at e.env j)) (sym e_is) ∙ z.running.hidden j ∙ sym (held_same st machine.gone v.0 spot wr j);
        marked = mark_was st machine.gone v.0 spot wr;
        still = mark_same st machine.gone v.0 spot wr;
        content = λ u j m k lock. lock_with (d.parts (suc j)) lock;
        held = λ u j m k runs mark. two (z.typing.marks u j) (mark_off z.typing (plain_state s) u j m k b z.at.state runs mark z.focus.thread.quiet) (d.marks u j m k runs mark);
        carried = carried_swap s1 s2 b (location_of n spot) two to hand;
      }) in
      steps_typed now move s t wrap (record { act = do_read w true; plug = λ u. wrap (plug u) }) plug v.0 q st2.slots st2.heap labels y (typing_with z.typing d.types z.typing.marks) r.goes_on
      (r.comes v.0 ∙ ap₂ (λ a k. record { entry = a; temps = left_after k v.0 }) i.comes i.leaves)
      (ap (λ o. nameless fresh.None (then_released plain.Nothing (stepped (moves_by now move) s t (record { act = do_read w true; plug = λ u. wrap (plug u) }) (then_reached o (λ k. read_did (state_of s t) true k (machine.value_at (state_of s t) k.spot)))))) l.is
      ∙ ap (λ o. nameless fresh.None (then_released plain.Nothing (stepped (moves_by now move) s t (record { act = do_read w true; plug = λ u. wrap (plug u) }) (read_did (state_of s t) true l.reached o)))) v.1)
      typed
      z.names
      (λ j u e. ⊎_elim (λ (q : z.typing.exact j ≡ refers true u). inl (z.refs j u q)) (λ (q : (j ≡ hand_at n i.temps) × (z.typing.exact (slot_k n w.slot) ≡ refers true u)). inr (length i.temps, q.0, z.refs (slot_k n w.slot) u q.1)) (d.origin j u e))
    where
      some_val : {a b : Val} → Some a ≡ Some b → a ≡ b
      some_val e = cc

pub move_keeps : Keeps IsMove
move_keeps now move y s t p wrap act plug h r = subst (λ a. StepsTyped y (moves_by now move) s t fresh.None (record { act = a; plug = λ z. wrap (plug z) })) (sym h.1) (move_steps now move y s t p wrap plug h.0 (subst (λ a. Ready y s t p wrap a plug) h.1 r))
