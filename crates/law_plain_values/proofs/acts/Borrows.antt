-- Borrows keep a state typed.
use Rattle.std.proofs.Common.{◌≡◌, ◌≢◌, inl, inr, ⊎_elim, ◌∙◌, ap₂, ℕ, Bool, true, false, List, [], ◌∷◌, ◌++◌, length, Option, Some, None, refl, sym, ap, subst, arith}
use Rattle.fr_base.specs.declared.label.Plain.TheVariants as plain
use Rattle.fr_base.specs.declared.place.Lval.{Lval}
use Rattle.fr_base.specs.declared.step.Fresh.TheVariants as fresh
use Rattle.fr_typing.specs.Kinds.{Owned, Kind, shared, mutable, whole}
use Rattle.fr_typing.specs.Places.{Env, found, read_blocked, kind_places, AreBelow}
use Rattle.fr_typing.specs.Finding.{IsOpen}
use Rattle.fr_store.specs.Keys.{Key, slot_k, temp_k}
use Rattle.fr_store.specs.Store.{at_key, gone_v, ref_v, Place, put_value}
use Rattle.fr_store.specs.Typed.{refers, KeyTypes, Typed}
use Rattle.fr_store.specs.Below.{RefOf}
use Rattle.fr_store.specs.Rows.{with_type, FreeFor}
use Rattle.fr_store.specs.Thread.{place_of}
use Rattle.fr_store.proofs.Keys.{key_same, key_other, decide_key}
use Rattle.fr_store.proofs.Rows.{found_place, borrow}
use Rattle.fr_store.proofs.Below.{Resolved, mut_place, resolved, resolved_writable}
use Rattle.fr_store.proofs.ThreadKept.{no_temp, unlent_key, unnamed_key, whole_exact}
use Rattle.fr_plain.specs.declared.value.Value.{Value}
use Rattle.fr_plain.specs.MachineActs.{do_borrow, reference, borrow_did}
use Rattle.fr_plain.specs.State.{Spot, in_slot, in_cell, then_reached, slot_at}
use Rattle.fr_plain.specs.MachineThreads.{Now, Move, Life, Thread, Whole, state_of}
use Rattle.fr_plain.specs.Machine.{prints, nameless, then_released, stepped}
use Rattle.fr_plain.specs.PlainState.{Running, PlainState, plain_state}
use Rattle.fr_sound.specs.Entries.{Entry, going}
use Rattle.fr_sound.specs.Seen.{Gives, location_of}
use Rattle.fr_sound.specs.States.{Typing, env_at, is_hidden, is_held}
use Rattle.fr_code.specs.CodeTypes.{HasType, wait}
use Rattle.law_plain_values.specs.acts.Positions.{Position, moves_by, StartsAs}
use Rattle.law_plain_values.specs.acts.ActRows.{Leaves, loud, left_after, ActRow, r_borrow, r_borrow_mut}
use Rattle.law_plain_values.specs.acts.Keeps.{Ready, on_references, KeepsReferences, StepsTyped, Keeps, IsBorrow, IsBorrowMut}
use Rattle.law_plain_values.proofs.acts.Lower.{seen_as}
use Rattle.law_plain_values.proofs.acts.OneThread.{store, Counted}
use Rattle.law_plain_values.proofs.acts.Focus.{top_none, hand_at, Focus}
use Rattle.law_plain_values.proofs.acts.Hand.{At, Ranked, ranked, push}
use Rattle.law_plain_values.proofs.acts.Refs.{NoneNew, none_with}
use Rattle.law_plain_values.proofs.acts.Done.{runs_here, only_here}
use Rattle.law_plain_values.proofs.acts.Operands.{steps_typed}
use Rattle.law_plain_values.proofs.acts.Places.{variable_below, variable_seen, leads}

-- a reference to a spot, as the store shows it
seen_reference : (g : Gives) (t : ℕ) (p : Spot) → seen_as g t gone_v (Some (reference p)) ≡ ref_v (location_of t p)
seen_reference g t (in_slot i) = refl
seen_reference g t (in_cell o) = refl

plain_reference : (g : Gives) (t : ℕ) (p : Spot) → Counted (seen_as g t gone_v (Some (reference p))) → ⊥
plain_reference g t (in_slot i) c = c
plain_reference g t (in_cell o) c = c

-- a variable of a typed thread is no mark
pub variable_clear : {y0 : Typing} {a : PlainState Position} {t : ℕ} {x : Running Position} {e : Env} {ts us : List Kind} {o : Option Kind} {g : Owned} (r : Ranked y0 a t x e ts us o g) (n : ℕ) → is_hidden (env_at e n) ≡ false → is_held (slot_at x.slots n) ≡ false
variable_clear r n h = sym (r.running.hidden n) ∙ ap (λ (z : Entry). is_hidden (env_at z.env n)) (sym r.running.known ∙ r.at.entry) ∙ h

-- the hand is the key of a temporary value
pub hand_is : (t : ℕ) (us : List Kind) → (i : ℕ) × (hand_at t us ≡ temp_k t i)
hand_is t us = (length us, refl)

-- a mutable reference is new where the place is lent so
lent : (t slots : ℕ) (w : Lval) (m : Bool) (hand : Key) → (i : ℕ) × (hand ≡ temp_k t i) → (E E1 E2 : KeyTypes) → NoneNew E E1 → E2 ≡ with_type E1 hand (refers m (place_of (slot_k t) w)) → KeepsReferences (on_references {P = Position} (do_borrow w m)) t slots E E2
lent t slots w false hand at E E1 E2 none types k u e = none k u (none_with E1 hand (refers false (place_of (slot_k t) w)) (λ q f. cc) k u (sym (ap (λ (F : KeyTypes). F k) types) ∙ e))
lent t slots w true hand at E E1 E2 none types k u e =
    let p = refers true (place_of (slot_k t) w) in
    let f = sym (ap (λ (F : KeyTypes). F k) types) ∙ e in
    ⊎_elim (λ (z : k ≡ hand). let g : p ≡ refers true u = sym (key_same hand p (E1 hand)) ∙ ap (with_type E1 hand p) (sym z) ∙ f in inr (at.0, z ∙ at.1, sym (let h : place_of (slot_k t) w ≡ u = cc in h)))
    (λ (z : k ≢ hand). inl (none k u (sym (key_other k hand p (E1 k) z) ∙ f))) (decide_key k hand)

module _ (now : Position → Now) (move : Position → Option (Move Position Position)) (y : Typing) (s : Whole Position) (t : Thread Position) (p : Position) (wrap : Position → Life Position) (plug : Value → Position) where
  -- a borrow of either kind
  borrow_steps : (w : Lval) (m : Bool) (k k2 : Kind) (e : Env) (us : List Kind) (g : Owned) (r : Ready y s t p wrap (do_borrow w m) plug) → p.entry ≡ going e us g → r.leaves ≡ loud p.temps → r.after ≡ going e (k2 ∷ us) g → wait us ≡ true → HasType e w (found (whole k))
      → ((z : Typing) → Focus z (plain_state s) t.number e us None → Resolved (slot_k t.number) z.exact m w (whole k) × FreeFor m z.exact (slot_k t.number w.slot))
      → kind_places k2 ≡ w ∷ []
      → ((E2 : KeyTypes) → RefOf (slot_k t.number) E2 (whole k2) m (place_of (slot_k t.number) w))
      → StepsTyped y (moves_by now move) s t fresh.None (record { act = do_borrow w m; plug = λ z. wrap (plug z) })
  borrow_steps w m k k2 e us g r entry leave comes waits is check places exact =
      let x : Running Position = record { place = p; slots = t.slots } in
      let n = t.number in
      let h : At y (plain_state s) n x e us g = record { state = r.state; runs = runs_here s t p wrap r.goes_on r.found r.at; entry = entry } in
      let z = ranked y (plain_state s) n x e us us None g h top_none waits in
      let c = check z.typing z.focus in
      let w2 = place_of (slot_k n) w in
      let sto = store z.typing (plain_state s) in
      let f = found_place z.typing.rank z.typing.exact sto m w2 c.0.base c.0.boxes c.0.type z.at.state.typed c.0.res in
      let lt = variable_below e w.slot is.named in
      let clear = variable_clear z w.slot (variable_seen e w.slot is.named) in
      let l = leads z.typing (plain_state s) n x s.heap h.runs (λ o. refl) z.at.state.typed (λ i mu q. (z.running.marked i mu q).unnamed) w.slot w.depth f.loc clear f.at in
      let v = reference l.reached.spot in
      let val : ref_v f.loc ≡ seen_as z.typing.gives n gone_v (Some v) = ap ref_v (sym l.spot) ∙ sym (seen_reference z.typing.gives n l.reached.spot) in
      let typed = borrow z.typing.rank z.typing.exact sto (hand_at n us) m w2 c.0.base c.0.boxes c.0.type f.loc z.at.state.typed z.focus.thread.quiet c.0.res (whole_exact (slot_k n) z.typing.exact k c.0.type c.0.exact) c.1 (z.focus.keys.off w.slot) (z.focus.thread.over w.slot lt) f.at in
      let q : Position = record { entry = going e (k2 ∷ us) g; temps = v ∷ p.temps } in
      let only = only_here s t p wrap r.goes_on r.found r.at q t.slots s.heap (s.output ++ prints l.reached.passed) (λ u. omega arith) in
      let b = push z.typing (plain_state s) _ n x e us g k2 v (refers m w2) z.at z.focus only (λ o. refl)
      (subst (λ u. Typed z.typing.rank (with_type z.typing.exact (hand_at n us) (refers m w2)) (put_value sto (at_key (hand_at n us)) u)) val typed)
      (exact (with_type z.typing.exact (hand_at n us) (refers m w2)))
      (subst (AreBelow (length e)) (sym places) (lt, tt))
      (λ m2 u eq. inr (w.slot, (let same : w2 ≡ u = cc in ap (λ (j : Place). j.key) (sym same)), clear))
      (plain_reference z.typing.gives n l.reached.spot) in
      steps_typed now move s t wrap (record { act = do_borrow w m; plug = λ u. wrap (plug u) }) plug v q t.slots s.heap l.reached.passed y b.typing r.goes_on
      (r.comes v ∙ ap₂ (λ a d. record { entry = a; temps = left_after d v }) comes leave)
      (ap (λ o. nameless fresh.None (then_released plain.Nothing (stepped (moves_by now move) s t (record { act = do_borrow w m; plug = λ u. wrap (plug u) }) (then_reached o (borrow_did (state_of s t)))))) l.is)
      b.at.state
      (b.names ∙ z.names)
      (lent t.number (length t.slots) w m (hand_at n us) (hand_is n us) y.exact z.typing.exact b.typing.exact z.refs b.types)

record BorrowRow (x : Entry) (vs : List Value) (w : Lval) (l : Leaves) (z : Entry) : Type 0 where
  env : Env
  temps : List Kind
  result : Owned
  kind : Kind
  waits : wait temps ≡ true
  is : HasType env w (found (whole kind))
  free : read_blocked env w.slot ≡ false
  entry : x ≡ going env temps result
  leaves : l ≡ loud vs
  comes : z ≡ going env (shared (w ∷ []) ∷ temps) result

shared_row : {x z : Entry} {vs : List Value} {w : Lval} {l : Leaves} → ActRow StartsAs x vs (do_borrow w false) l z → BorrowRow x vs w l z
shared_row (r_borrow {e = e} {ts = ts} {g = g} {k = k} q h b) = record { env = e; temps = ts; result = g; kind = k; waits = q; is = h; free = b; entry = refl; leaves = refl; comes = refl }

record MutRow (x : Entry) (vs : List Value) (w : Lval) (l : Leaves) (z : Entry) : Type 0 where
  env : Env
  temps : List Kind
  result : Owned
  kind : Kind
  waits : wait temps ≡ true
  is : HasType env w (found (whole kind))
  open_place : IsOpen env w
  entry : x ≡ going env temps result
  leaves : l ≡ loud vs
  comes : z ≡ going env (mutable (w ∷ []) ∷ temps) result

mut_row : {x z : Entry} {vs : List Value} {w : Lval} {l : Leaves} → ActRow StartsAs x vs (do_borrow w true) l z → MutRow x vs w l z
mut_row (r_borrow_mut {e = e} {ts = ts} {g = g} {k = k} q h o) = record { env = e; temps = ts; result = g; kind = k; waits = q; is = h; open_place = o; entry = refl; leaves = refl; comes = refl }

pub borrow_keeps : Keeps IsBorrow
borrow_keeps now move y s t p wrap act plug h r = subst (λ a. StepsTyped y (moves_by now move) s t fresh.None (record { act = a; plug = λ z. wrap (plug z) })) (sym h.1) (by (subst (λ a. Ready y s t p wrap a plug) h.1 r))
  where
    by : Ready y s t p wrap (do_borrow h.0 false) plug → StepsTyped y (moves_by now move) s t fresh.None (record { act = do_borrow h.0 false; plug = λ z. wrap (plug z) })
    by r =
        let i = shared_row r.row in
        borrow_steps now move y s t p wrap plug h.0 false i.kind (shared (h.0 ∷ [])) i.env i.temps i.result r i.entry i.leaves i.comes i.waits i.is
        (λ z f. (
          resolved (slot_k t.number) z.exact (mut_place z.rank z.exact (store z (plain_state s)) f.thread.typed) i.env f.thread.nested f.thread.slots h.0 (whole i.kind) (variable_below i.env h.0.slot i.is.named) i.is.is,
          unlent_key (slot_k t.number) z.rank (hand_at t.number i.temps) i.env z.exact (store z (plain_state s)) None f.keys f.thread h.0.slot i.free (λ u q. absurd (no_temp z.exact (hand_at t.number i.temps) true u f.thread.temp q)),
        ))
        refl
        (λ E2. (refl, record { place = h.0; is = refl; among = inl refl }))

pub borrow_mut_keeps : Keeps IsBorrowMut
borrow_mut_keeps now move y s t p wrap act plug h r = subst (λ a. StepsTyped y (moves_by now move) s t fresh.None (record { act = a; plug = λ z. wrap (plug z) })) (sym h.1) (by (subst (λ a. Ready y s t p wrap a plug) h.1 r))
  where
    by : Ready y s t p wrap (do_borrow h.0 true) plug → StepsTyped y (moves_by now move) s t fresh.None (record { act = do_borrow h.0 true; plug = λ z. wrap (plug z) })
    by r =
        let i = mut_row r.row in
        borrow_steps now move y s t p wrap plug h.0 true i.kind (mutable (h.0 ∷ [])) i.env i.temps i.result r i.entry i.leaves i.comes i.waits i.is
        (λ z f. (
          resolved_writable (slot_k t.number) z.exact (mut_place z.rank z.exact (store z (plain_state s)) f.thread.typed) i.env f.thread.nested f.thread.slots h.0 (whole i.kind) (variable_below i.env h.0.slot i.is.named) i.open_place.path i.is.is,
          unnamed_key (slot_k t.number) z.rank (hand_at t.number i.temps) i.env z.exact (store z (plain_state s)) None f.keys f.thread h.0.slot i.open_place.free (λ m u q. absurd (no_temp z.exact (hand_at t.number i.temps) m u f.thread.temp q)),
        ))
        refl
        (λ E2. (refl, record { place = h.0; is = refl; among = inl refl }))
