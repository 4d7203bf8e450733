-- An assignment keeps a state typed: of a reference to a variable, and of any value.
use Rattle.std.proofs.Common.{◌≡◌, ◌∙◌, ap₂, ℕ, zero, ◌<◌, true, false, List, [], ◌∷◌, ◌++◌, length, Option, Some, refl, sym, ap, subst, arith, ◌⊎◌, ◌≢◌, inl, inr}
use Rattle.std.specs.Prelude.{◌&&◌, nat_lt, not}
use Rattle.fr_base.specs.declared.label.Plain.TheVariants as plain
use Rattle.fr_base.specs.declared.label.Label.{Label}
use Rattle.fr_base.specs.declared.place.Lval.{Lval}
use Rattle.fr_base.specs.declared.step.Fresh.TheVariants as fresh
use Rattle.fr_typing.specs.Kinds.{Owned, Kind, own, shared, mutable, view, whole}
use Rattle.fr_typing.specs.Places.{Env, found, type_at, put_at}
use Rattle.fr_typing.specs.Checks.{is_owned, is_kept_out, set_through}
use Rattle.fr_plain.specs.declared.value.Value.{Value}
use Rattle.fr_plain.specs.declared.value.Value.TheVariants.{Own, ToSlot, ToObject, Held}
use Rattle.fr_plain.specs.State.{drops, in_slot, slot_at, stores, with_slot}
use Rattle.fr_plain.specs.MachineActs.{do_assign, assign_did, end_of_some, unit as unit_value}
use Rattle.fr_plain.specs.MachineThreads.{Now, Move, Life, Thread, Whole as Machine, state_of, with_thread, dropped}
use Rattle.fr_plain.specs.Machine.{prints, nameless, then_released, stepped, alone_stepped, done_act, Stepped}
use Rattle.fr_plain.specs.PlainState.{Running, plain_state}
use Rattle.fr_sound.specs.Entries.{Entry, going}
use Rattle.fr_sound.specs.States.{Typing, RunningTyped, env_at, is_hidden, is_held}
use Rattle.fr_sound.proofs.SeenLemmas.{slot_there}
use Rattle.law_plain_values.specs.acts.Positions.{Position, Knows, temps_of, moves_by, PositionTypes}
use Rattle.law_plain_values.proofs.acts.OneThread.{store}
use Rattle.law_plain_values.proofs.acts.AtHand.{Only}
use Rattle.law_plain_values.proofs.acts.Slots.{owned_value}
use Rattle.law_plain_values.specs.acts.ActRows.{left_after}
use Rattle.law_plain_values.specs.acts.Keeps.{Ready, StepsTyped, Keeps, CameFrom, puts}
use Rattle.law_plain_values.proofs.acts.Focus.{top_some, hand_at}
use Rattle.law_plain_values.proofs.acts.Hand.{At, ranked}
use Rattle.law_plain_values.proofs.acts.Operands.{Loaded, load}
use Rattle.law_plain_values.proofs.acts.Places.{variable_below, variable_seen}
use Rattle.law_plain_values.proofs.acts.Done.{runs_here, only_here, step_by}
use Rattle.law_plain_values.specs.drops.DropActs.{IsAssign}
use Rattle.law_plain_values.proofs.drops.Dropped.{nothing_dropped}
use Rattle.law_plain_values.proofs.drops.SlotDrops.{names_below}
use Rattle.law_plain_values.proofs.drops.Turned.{turned, old_nothing}
use Rattle.std.proofs.lemmas.Bool.{ltb-false}
use Rattle.law_plain_values.proofs.drops.Assigns.{AssignRow, assign_row, assign_steps}
use Rattle.fr_store.specs.Keys.{Key, slot_k}
use Rattle.fr_store.specs.Store.{Place}
use Rattle.fr_store.specs.Typed.{refers}

-- A REFERENCE

abbrev at_depth : ℕ → ℕ → Lval
at_depth slot d = record { slot = slot; depth = d }

-- a reference isn't written under a star
no_star : (k : Kind) (d : ℕ) → is_owned k ≡ false → is_kept_out k d ≡ false → d ≡ zero
no_star k d ref kept = by d (sym (ap (λ b. not b && nat_lt 0 d) ref) ∙ kept)
  where
    by : (d : ℕ) → nat_lt 0 d ≡ false → d ≡ zero
    by d h = let le = ltb-false 0 d h in omega (arith, le)

module _ (now : Position → Now) (move : Position → Option (Move Position Position)) (y : Typing) (s : Machine Position) (t : Thread Position) (p : Position) (wrap : Position → Life Position) (plug : Value → Position) (w : Lval) (v : Value) (r : Ready y s t p wrap (do_assign w v) plug) (i : AssignRow p.entry p.temps w v r.leaves r.after) where
  abbrev x : Running Position
  x = record { place = p; slots = t.slots }

  here : At y (plain_state s) t.number x i.env i.temps i.result
  here = record { state = r.state; runs = runs_here s t p wrap r.goes_on r.found r.at; entry = i.entry }

  loaded : Loaded y (plain_state s) t.number x i.env i.after i.result i.kind v i.left
  loaded = load y (plain_state s) t.number x i.env i.result here refl i.pops

  module _ (ref : is_owned i.kind ≡ false) where
    flat : w.depth ≡ zero
    flat = no_star i.kind w.depth ref i.kept

    w_is : w ≡ at_depth w.slot zero
    w_is = ap (at_depth w.slot) flat

    abbrev e2 : Env
    e2 = put_at i.env (record { slot = w.slot; depth = 0 }) (whole i.kind)

    abbrev q : Position
    q = record { entry = going e2 i.after i.result; temps = i.left }

    lt : w.slot < length i.env
    lt = variable_below i.env w.slot i.is.named

    comes : plug unit_value ≡ q
    comes = r.comes unit_value ∙ ap₂ (λ a b. record { entry = a; temps = left_after b unit_value }) (i.comes ∙ ap (λ d. going (set_through i.env d i.kind) i.after i.result) w_is) i.leaves

    run : RunningTyped Knows temps_of loaded.typing (store loaded.typing loaded.state) t.number (loaded.state.pair t.number) loaded.running
    run = loaded.at.state.threads t.number loaded.running loaded.at.runs

    e_is : run.entry ≡ going i.env (i.kind ∷ i.after) i.result
    e_is = sym run.known ∙ loaded.at.entry

    old : (b : Value) × (slot_at loaded.running.slots w.slot ≡ Some b)
    old = slot_there loaded.running.slots w.slot (subst (λ n. w.slot < n) (sym (run.all_slots ∙ ap (λ (d : Entry). length d.env) e_is)) lt)

    unheld : is_held (Some old.0) ≡ false
    unheld = sym (ap is_held old.1) ∙ sym (run.hidden w.slot) ∙ ap (λ (d : Entry). is_hidden (env_at d.env w.slot)) e_is ∙ variable_seen i.env w.slot i.is.named

    -- the state once the thread went on
    abbrev on : Life Position → List Label → Machine Position
    on life labels = record s { threads = with_thread s.threads (record { number = t.number; life = life; slots = with_slot t.slots w.slot v }); heap = s.heap; output = s.output ++ prints labels }

    abbrev m : Move Position (Life Position)
    m = record { act = do_assign w v; plug = λ z. wrap (plug z) }

    is_typed : type_at i.env (record { slot = w.slot; depth = 0 }) ≡ found i.piece
    is_typed = ap (type_at i.env) (sym w_is) ∙ i.is.is

    typed : (labels : List Label) → (z : Typing) × PositionTypes z (plain_state (on (wrap q) labels)) × (z.gives ≡ y.gives) × ((j : Key) (b : Place) → z.exact j ≡ refers true b → ((y.exact j ≡ refers true b) × (j ≢ slot_k t.number w.slot)) ⊎ ((j ≡ slot_k t.number w.slot) × (y.exact (hand_at t.number i.after) ≡ refers true b)))
    typed labels =
        turned loaded w.slot i.piece ref lt is_typed i.shape i.open_place.free (names_below w.slot i.kind i.names) old.0 old.1 unheld (plain_state (on (wrap q) labels))
        (subst (λ z. Only loaded.state (plain_state (on (wrap q) labels)) t.number (record { place = q; slots = with_slot z w.slot v })) (sym loaded.slots)
        (loaded.only (plain_state (on (wrap q) labels)) (record { place = q; slots = with_slot t.slots w.slot v }) (only_here s t p wrap r.goes_on r.found r.at q (with_slot t.slots w.slot v) s.heap (s.output ++ prints labels) (λ z. omega arith))))
        (λ o. sym (loaded.objects o))

    -- where a mutable reference came from
    came : {j : Key} {b : Place} → ((y.exact j ≡ refers true b) × (j ≢ slot_k t.number w.slot)) ⊎ ((j ≡ slot_k t.number w.slot) × (y.exact (hand_at t.number i.after) ≡ refers true b)) → CameFrom (puts w) t.number (length t.slots) y.exact j b
    came (inl h) = inl (h.0, λ flat. h.1)
    came (inr h) = inr (h.0, (length i.after, h.1))

    abbrev steps : Lval → Option Value → Option (Stepped Position)
    steps d o = nameless fresh.None (then_released (end_of_some s.heap o) (stepped (moves_by now move) s t m (assign_did (state_of s t) v (record { spot = in_slot w.slot; passed = [] }) o)))

    done : (b : Value) → old.0 ≡ b → done_act (moves_by now move) s t fresh.None m (do_assign w v) ≡ steps w (Some b)
    done b f = ap (λ d. nameless fresh.None (alone_stepped (moves_by now move) s t m (do_assign d v))) w_is ∙ ap (steps w) (subst (λ z. slot_at z w.slot ≡ Some b) loaded.slots (old.1 ∙ ap Some f))

    by_old : (b : Value) → old.0 ≡ b → StepsTyped y (moves_by now move) s t fresh.None (record { act = do_assign w v; plug = λ z. wrap (plug z) })
    by_old (Own b) f =
        let none = old_nothing loaded w.slot i.piece ref lt is_typed i.shape i.open_place.free (names_below w.slot i.kind i.names) old.0 old.1 unheld b f in
        let labels = drops (Own plain.Nothing) ++ stores (in_slot w.slot) v in
        let a = typed labels in
        let d = nothing_dropped a.0 (on (wrap q) labels) (a.0, a.1, refl, λ j b h. h) in
        step_by now move s t wrap m plug unit_value q (λ life. dropped (on life labels) plain.Nothing) labels y d.0 r.goes_on comes (done (Own plain.Nothing) (f ∙ ap Own none)) d.1 (d.2 ∙ a.2) (λ j b h. came (a.3 j b (d.3 j b h)))
    by_old (ToSlot j) f = let labels = stores (in_slot w.slot) v in let a = typed labels in step_by now move s t wrap m plug unit_value q (λ life. on life labels) labels y a.0 r.goes_on comes (done (ToSlot j) f) a.1 a.2 (λ j b h. came (a.3 j b h))
    by_old (ToObject o) f = let labels = stores (in_slot w.slot) v in let a = typed labels in step_by now move s t wrap m plug unit_value q (λ life. on life labels) labels y a.0 r.goes_on comes (done (ToObject o) f) a.1 a.2 (λ j b h. came (a.3 j b h))
    by_old (Held n) f = let g : true ≡ false = sym (ap (λ z. is_held (Some z)) f) ∙ unheld in absurd cc

  -- by the kind
  assign_any : StepsTyped y (moves_by now move) s t fresh.None (record { act = do_assign w v; plug = λ z. wrap (plug z) })
  assign_any = by i.kind refl
    where
      owned : (o : Owned) → i.kind ≡ own o → StepsTyped y (moves_by now move) s t fresh.None (record { act = do_assign w v; plug = λ z. wrap (plug z) })
      owned o f =
          let l : Loaded y (plain_state s) t.number x i.env i.after i.result (own o) v i.left = subst (λ k. Loaded y (plain_state s) t.number x i.env i.after i.result k v i.left) f loaded in
          let b = owned_value l (ranked l.typing l.state t.number l.running i.env (own o ∷ i.after) i.after (Some (own o)) i.result l.at top_some l.waits) in
          let ready : Ready y s t p wrap (do_assign w (Own b.0)) plug = subst (λ z. Ready y s t p wrap (do_assign w z) plug) b.1 r in
          subst (λ z. StepsTyped y (moves_by now move) s t fresh.None (record { act = do_assign w z; plug = λ d. wrap (plug d) })) (sym b.1) (assign_steps now move y s t p wrap plug w b.0 ready (assign_row ready.row))

      by : (k : Kind) → i.kind ≡ k → StepsTyped y (moves_by now move) s t fresh.None (record { act = do_assign w v; plug = λ z. wrap (plug z) })
      by (own o) f = owned o f
      by (shared us) f = let ref = ap is_owned f in by_old ref (old ref).0 refl
      by (mutable us) f = let ref = ap is_owned f in by_old ref (old ref).0 refl
      by (view o) f = let ref = ap is_owned f in by_old ref (old ref).0 refl

pub assign_keeps : Keeps IsAssign
assign_keeps now move y s t p wrap act plug h r =
    let k : Ready y s t p wrap (do_assign h.0 h.1) plug = subst (λ a. Ready y s t p wrap a plug) h.2 r in
    subst (λ a. StepsTyped y (moves_by now move) s t fresh.None (record { act = a; plug = λ z. wrap (plug z) })) (sym h.2) (assign_any now move y s t p wrap plug h.0 h.1 k (assign_row k.row))
