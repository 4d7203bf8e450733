-- The drop of a slot keeps a state typed.
use Rattle.std.proofs.Common.{◌≡◌, ◌≢◌, ◌∙◌, ap₂, ℕ, suc, Bool, true, false, List, [], ◌∷◌, ◌++◌, length, Option, Some, None, refl, sym, ap, subst, arith}
use Rattle.std.specs.Prelude.{is_some, not, nat_le, ◌&&◌}
use Rattle.std.specs.List.{list_any}
use Rattle.std.proofs.lemmas.Bool.{leb-false}
use Rattle.fr_store.proofs.Below.{or_false}
use Rattle.fr_base.specs.declared.label.Plain.{Plain}
use Rattle.fr_base.specs.declared.label.Label.{Label}
use Rattle.fr_base.specs.declared.place.Lval.{Lval}
use Rattle.fr_base.specs.declared.step.Fresh.TheVariants as fresh
use Rattle.fr_typing.specs.Kinds.{Owned, Kind, own, shared, mutable, view}
use Rattle.fr_typing.specs.Places.{Slot, Env, AreBelow, kind_places}
use Rattle.fr_typing.specs.Checks.{names_from}
use Rattle.fr_store.specs.Thread.{temp_places}
use Rattle.fr_plain.specs.declared.value.Value.{Value}
use Rattle.fr_plain.specs.declared.value.Value.TheVariants.{Own, ToSlot, ToObject, Held}
use Rattle.fr_plain.specs.State.{slot_at, drops}
use Rattle.fr_plain.specs.MachineActs.{do_drop, drop_did, end_of_some, newest, unit as unit_value}
use Rattle.fr_plain.specs.MachineThreads.{Now, Move, Life, Thread, Whole as Machine, thread_at, with_thread, dropped}
use Rattle.fr_plain.specs.Machine.{prints, nameless, then_released, stepped, Stepped}
use Rattle.fr_plain.specs.PlainState.{Running, running_in, plain_state}
use Rattle.fr_plain.proofs.ByName.{put_in, put_at}
use Rattle.fr_sound.specs.Entries.{Entry, going}
use Rattle.fr_sound.specs.Seen.{Gives}
use Rattle.fr_sound.specs.States.{Typing, env_at, is_hidden, is_held}
use Rattle.fr_code.specs.CodeTypes.{wait, is_locked, outlive}
use Rattle.law_plain_values.specs.acts.Positions.{Position, moves_by, StartsAs}
use Rattle.law_plain_values.specs.acts.ActRows.{Leaves, quiet, left_after, ActRow, r_drop}
use Rattle.law_plain_values.specs.acts.Keeps.{Ready, StepsTyped, Keeps}
use Rattle.fr_store.specs.Store.{Location, ref_v}
use Rattle.law_plain_values.proofs.acts.Lower.{seen_as}
use Rattle.law_plain_values.proofs.acts.OneThread.{Counted}
use Rattle.law_plain_values.proofs.acts.Focus.{Tops, top_none, top_some}
use Rattle.law_plain_values.proofs.acts.AtHand.{Only}
use Rattle.law_plain_values.proofs.acts.Hand.{At, pushed_here}
use Rattle.law_plain_values.proofs.acts.Slots.{here_new}
use Rattle.law_plain_values.proofs.acts.Done.{runs_here, only_here, step_by}
use Rattle.law_plain_values.specs.drops.Drops.{with_carrier}
use Rattle.law_plain_values.specs.drops.DropActs.{IsDrop}
use Rattle.law_plain_values.proofs.drops.Handed.{own_part}
use Rattle.law_plain_values.proofs.drops.Prepared.{name_for, name_free, beside, prepared_at, prepared_focus, prepared_keys, prepared_over}
use Rattle.law_plain_values.proofs.drops.SlotGoes.{slot_tree, slot_goes, slot_light}
use Rattle.law_plain_values.proofs.drops.Dropped.{IsTyped, drop_typed}
use Rattle.law_plain_values.proofs.acts.Refs.{none_owns}
use Rattle.fr_store.specs.Rows.{with_type}
use Rattle.fr_store.specs.Typed.{owns, hole}
use Rattle.fr_store.specs.Keys.{slot_k}

record DropRow (x : Entry) (vs : List Value) (l : Leaves) (z : Entry) : Type 0 where
  env : Env
  slot : Slot
  temps : List Kind
  result : Owned
  named : is_some slot.name ≡ true
  unlocked : is_locked env ≡ false
  outlives : outlive (length env) temps ≡ true
  entry : x ≡ going (slot ∷ env) temps result
  leaves : l ≡ quiet vs
  comes : z ≡ going env temps result

drop_row : {x z : Entry} {vs : List Value} {l : Leaves} → ActRow StartsAs x vs do_drop l z → DropRow x vs l z
drop_row (r_drop {e = e} {ts = ts} {g = g} {s = s} n u o) = record { env = e; slot = s; temps = ts; result = g; named = n; unlocked = u; outlives = o; entry = refl; leaves = refl; comes = refl }

-- WHAT THE TYPE AT HAND NAMES is lower

none_from : (n : ℕ) (us : List Lval) → list_any (λ u. nat_le n u.slot) us ≡ false → AreBelow n us
none_from n [] h = tt
none_from n (u ∷ us) h = let o = or_false (nat_le n u.slot) (list_any (λ v. nat_le n v.slot) us) h in (leb-false n u.slot o.0, none_from n us o.1)

pub names_below : (n : ℕ) (k : Kind) → names_from n k ≡ false → AreBelow n (kind_places k)
names_below n (own x) h = tt
names_below n (shared us) h = none_from n us h
names_below n (mutable us) h = none_from n us h
names_below n (view x) h = tt

-- the hand above what waits
record Above (n : ℕ) (ts : List Kind) : Type 0 where
  below : List Kind
  hand : Option Kind
  tops : Tops below hand ts
  idle : hand ≡ None → wait below ≡ true
  low : AreBelow n (temp_places hand)

above : (n : ℕ) (ts : List Kind) → outlive n ts ≡ true → Above n ts
above n [] h = record { below = []; hand = None; tops = top_none; idle = λ q. refl; low = tt }
above n (k ∷ ts) h = record { below = ts; hand = Some k; tops = top_some; idle = λ q. cc; low = names_below n k (by (names_from n k) (outlive n ts) h) }
  where
    by : (b c : Bool) → (not b && c) ≡ true → b ≡ false
    by false c q = refl
    by true c q = cc

-- a list that isn't empty
taken_apart : (vs : List Value) (n : ℕ) → length vs ≡ suc n → (v : Value) × (ws : List Value) × (vs ≡ v ∷ ws)
taken_apart [] n q = cc
taken_apart (v ∷ ws) n q = (v, ws, refl)

module _ (now : Position → Now) (move : Position → Option (Move Position Position)) (y : Typing) (s : Machine Position) (t : Thread Position) (p : Position) (wrap : Position → Life Position) (plug : Value → Position) (r : Ready y s t p wrap do_drop plug) (i : DropRow p.entry p.temps r.leaves r.after) where
  abbrev x : Running Position
  x = record { place = p; slots = t.slots }

  abbrev q : Position
  q = record { entry = going i.env i.temps i.result; temps = p.temps }

  -- the state once the thread went on
  abbrev on : List Value → Life Position → List Label → Machine Position
  on vs life labels = record s { threads = with_thread s.threads (record { number = t.number; life = life; slots = vs }); heap = s.heap; output = s.output ++ prints labels }

  here : At y (plain_state s) t.number x (i.slot ∷ i.env) i.temps i.result
  here = record { state = r.state; runs = runs_here s t p wrap r.goes_on r.found r.at; entry = i.entry }

  comes : plug unit_value ≡ q
  comes = r.comes unit_value ∙ ap₂ (λ a b. record { entry = a; temps = left_after b unit_value }) i.comes i.leaves

  abbrev m : Move Position (Life Position)
  m = record { act = do_drop; plug = λ z. wrap (plug z) }

  only : (vs : List Value) (labels : List Label) → Only (plain_state s) (plain_state (on vs (wrap q) labels)) t.number (record { place = q; slots = vs })
  only vs labels = only_here s t p wrap r.goes_on r.found r.at q vs s.heap (s.output ++ prints labels) (λ z. omega arith)

  -- the step, where these are the slots
  abbrev steps : List Value → Option (Stepped Position)
  steps vs = nameless fresh.None (then_released (end_of_some s.heap (newest vs)) (stepped (moves_by now move) s t m (drop_did (record { thread = t.number; slots = vs; heap = s.heap }) vs)))

  h : Above (length i.env) i.temps
  h = above (length i.env) i.temps i.outlives

  module _ (v : Value) (vs : List Value) (slots : t.slots ≡ v ∷ vs) where
    -- its value is no mark
    unheld : is_held (Some v) ≡ false
    unheld =
        let run = r.state.threads t.number x here.runs in
        let e_is : run.entry ≡ going (i.slot ∷ i.env) i.temps i.result = sym run.known ∙ i.entry in
        let long : length i.env ≡ length vs = let k = ap length (sym slots) ∙ run.all_slots ∙ ap (λ (z : Entry). length z.env) e_is in omega (arith, k) in
        sym (ap is_held (ap (λ z. slot_at z (length i.env)) slots ∙ pushed_here v vs (length i.env) long)) ∙ sym (run.hidden (length i.env)) ∙ ap (λ (z : Entry). is_hidden (env_at z.env (length i.env))) e_is
        ∙ ap is_hidden (here_new i.slot i.env (length i.env) refl) ∙ ap not i.named

    light : (labels : List Label) → ((b : Gives) (n : ℕ) (l : Location) → Counted (seen_as b n (ref_v l) (Some v)) → ⊥) → IsTyped y (on vs (wrap q) labels)
    light labels plain =
        let u = name_for s in
        let ne : u ≢ t.number = λ z. (let f : None ≡ Some t = sym (name_free s) ∙ ap (thread_at s.threads) z ∙ r.found in cc) in
        let none : (plain_state s).thread u ≡ None = ap running_in (name_free s) in
        (_, slot_light (prepared_at here u none) (prepared_focus here u none h.below h.hand h.tops h.idle) h.tops h.idle i.named i.unlocked h.low v unheld vs slots (plain y.gives t.number (y.marks t.number (length i.env))) (plain_state (on vs (wrap q) labels)) (only vs labels) (λ b. refl), refl, none_owns y.exact (slot_k t.number (length i.env)) hole)

    owned : (w : Plain) → v ≡ Own w → (labels : List Label) → IsTyped y (dropped (on vs (wrap q) labels) w)
    owned w e labels =
        let s2 = on vs (wrap q) labels in
        let u = name_for s2 in
        let free = name_free s2 in
        let new : Thread Position = record { number = t.number; life = wrap q; slots = vs } in
        let found : thread_at s2.threads t.number ≡ Some new = put_at s.threads new t.number refl ∙ ap (put_in new) r.found in
        let ne : u ≢ t.number = λ z. (let f : None ≡ Some new = sym free ∙ ap (thread_at s2.threads) z ∙ found in cc) in
        let away = only vs labels in
        let none : (plain_state s).thread u ≡ None = sym (away.others u ne) ∙ ap running_in free in
        let at = prepared_at here u none in
        let fc = prepared_focus here u none h.below h.hand h.tops h.idle in
        let tree = slot_tree at fc h.tops h.idle i.named i.unlocked h.low v unheld vs slots w e in
        let part = own_part i.slot.part tree.0 tree.2 in
        let d = drop_typed u s2 _ part.0 w (record {
          none = free;
          carries = slot_goes at fc h.tops h.idle i.named i.unlocked h.low v unheld vs slots w e u none (prepared_keys here u none) (prepared_over here u none) (plain_state s2) (plain_state (with_carrier s2 u part.0 (y.gives.result u) w)) away (λ b. refl) part.0 tree.0 tree.1 part.1 part.2 (beside s2 u part.0 (y.gives.result u) w free);
        }) in
        (d.0, d.1, d.2, λ j b f. none_owns y.exact (slot_k t.number (length i.env)) hole j b (none_owns (with_type y.exact (slot_k t.number (length i.env)) (owns hole)) (slot_k u 0) tree.0 j b (d.3 j b f)))

  by_value : (v : Value) (vs : List Value) → t.slots ≡ v ∷ vs → StepsTyped y (moves_by now move) s t fresh.None (record { act = do_drop; plug = λ z. wrap (plug z) })
  by_value (Own w) vs e = let d = owned (Own w) vs e w refl (drops (Own w)) in step_by now move s t wrap m plug unit_value q (λ life. dropped (on vs life (drops (Own w))) w) (drops (Own w)) y d.0 r.goes_on comes (ap steps e) d.1 d.2 d.3
  by_value (ToSlot j) vs e = let d = light (ToSlot j) vs e [] (λ b n l c. c) in step_by now move s t wrap m plug unit_value q (λ life. on vs life []) [] y d.0 r.goes_on comes (ap steps e) d.1 d.2 d.3
  by_value (ToObject o) vs e = let d = light (ToObject o) vs e [] (λ b n l c. c) in step_by now move s t wrap m plug unit_value q (λ life. on vs life []) [] y d.0 r.goes_on comes (ap steps e) d.1 d.2 d.3
  by_value (Held n) vs e = let f : true ≡ false = unheld (Held n) vs e in absurd cc

  drop_steps : StepsTyped y (moves_by now move) s t fresh.None (record { act = do_drop; plug = λ z. wrap (plug z) })
  drop_steps =
      let run = r.state.threads t.number x here.runs in
      let k = taken_apart t.slots (length i.env) (run.all_slots ∙ ap (λ (z : Entry). length z.env) (sym run.known ∙ i.entry)) in
      by_value k.0 k.1 k.2

pub drop_slot_keeps : Keeps IsDrop
drop_slot_keeps now move y s t p wrap act plug h r =
    let k : Ready y s t p wrap do_drop plug = subst (λ a. Ready y s t p wrap a plug) h r in
    subst (λ a. StepsTyped y (moves_by now move) s t fresh.None (record { act = a; plug = λ z. wrap (plug z) })) (sym h) (drop_steps now move y s t p wrap plug k (drop_row k.row))
