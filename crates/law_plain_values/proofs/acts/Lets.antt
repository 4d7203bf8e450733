-- `let` keeps a state typed.
use Rattle.std.proofs.Common.{◌≡◌, ◌≢◌, ⊎_elim, inl, inr, ◌∙◌, ap₂, ℕ, suc, ◌<◌, ◌≤◌, Bool, false, List, [], ◌∷◌, ◌++◌, length, Option, Some, refl, sym, ap, subst, arith}
use Rattle.fr_base.specs.declared.name.ObjNo.{ObjNo}
use Rattle.fr_base.specs.declared.name.MutexNo.{MutexNo}
use Rattle.fr_base.specs.declared.step.Fresh.TheVariants as fresh
use Rattle.fr_terms.specs.Terms.{Text}
use Rattle.fr_typing.specs.Kinds.{Owned, Kind, whole}
use Rattle.fr_typing.specs.Places.{Env, Slot}
use Rattle.fr_store.specs.Keys.{Key, slot_k, temp_k}
use Rattle.fr_store.specs.Store.{Alike, at_key, gone_v, ref_v, Store, value_at, Place, swap}
use Rattle.fr_store.specs.Changes.{SameButTwo}
use Rattle.fr_store.specs.Typed.{hole, owns, refers, KeyTypes, Unnamed}
use Rattle.fr_store.specs.Rows.{with_type}
use Rattle.fr_store.proofs.Keys.{key_same, key_other, decide_key, decide_number}
use Rattle.fr_store.proofs.Rows.{top_fits}
use Rattle.fr_store.proofs.ThreadKept.{last_unnamed}
use Rattle.fr_plain.specs.declared.value.Value.{Value}
use Rattle.fr_plain.specs.declared.value.Value.TheVariants.{Held}
use Rattle.fr_plain.specs.MachineActs.{do_let, unit as unit_value}
use Rattle.fr_plain.specs.State.{slot_at}
use Rattle.fr_plain.specs.MachineThreads.{Now, Move, Life, Thread, Whole as Machine, with_thread}
use Rattle.fr_plain.specs.PlainState.{Running, PlainState, place_in, plain_state}
use Rattle.fr_sound.specs.Entries.{Entry, going}
use Rattle.fr_sound.specs.Seen.{seen_cell}
use Rattle.fr_sound.specs.States.{Typing, env_at, part_of, is_hidden, is_held}
use Rattle.law_plain_values.specs.acts.Positions.{Position, PositionTypes, moves_by, StartsAs}
use Rattle.law_plain_values.specs.acts.ActRows.{Pops, Leaves, quiet, left_after, ActRow, r_let}
use Rattle.law_plain_values.specs.acts.Keeps.{Ready, binds, KeepsReferences, StepsTyped, Keeps}
use Rattle.law_plain_values.proofs.acts.Lower.{seen_as}
use Rattle.law_plain_values.proofs.acts.OneThread.{store, typing_with}
use Rattle.law_plain_values.proofs.acts.Raised.{ranked_by, raised, raised_typing}
use Rattle.law_plain_values.proofs.acts.Focus.{top_none, top_some, hand_at, Focus, temp_none}
use Rattle.law_plain_values.proofs.acts.AtHand.{Only, mark_off}
use Rattle.law_plain_values.proofs.acts.Moved.{carried_swap}
use Rattle.law_plain_values.proofs.acts.Hand.{At, pushed_others, pushed_here}
use Rattle.law_plain_values.proofs.acts.Refs.{NoneNew, none_owns}
use Rattle.law_plain_values.proofs.acts.Borrows.{hand_is}
use Rattle.law_plain_values.proofs.acts.Done.{runs_here, only_here}
use Rattle.law_plain_values.proofs.acts.Operands.{Loaded, load, hand_value, steps_typed}
use Rattle.law_plain_values.specs.acts.Keeps.{IsLet}
use Rattle.law_plain_values.proofs.acts.Bound.{lift, lift_named, lift_high, lifted, bound_types, bound_stood, bound_thread}
use Rattle.law_plain_values.proofs.acts.SlotTurn.{slot_two, temp_two, same_two, alike_swap, slots_changed}
use Rattle.law_plain_values.proofs.acts.Slots.{hand_clear, clear_same, focus_at, below_new, here_new, slot_below, owned_in, lock_with, content_there}

-- THE ACT

record LetRow (x : Entry) (vs : List Value) (v : Value) (l : Leaves) (z : Entry) : Type 0 where
  env : Env
  before : List Kind
  after : List Kind
  left : List Value
  result : Owned
  kind : Kind
  name : Text
  pops : Pops before vs v kind after left
  entry : x ≡ going env before result
  leaves : l ≡ quiet left
  comes : z ≡ going (record { name = Some name; part = whole kind } ∷ env) after result

let_row : {x z : Entry} {vs : List Value} {v : Value} {l : Leaves} → ActRow StartsAs x vs (do_let v) l z → LetRow x vs v l z
let_row (r_let {e = e} {ts = ts} {us = us} {ws = ws} {g = g} {k = k} n pops free) = record { env = e; before = ts; after = us; left = ws; result = g; kind = k; name = n; pops = pops; entry = refl; leaves = refl; comes = refl }

-- with the operand at hand, under ranks that leave room for its slot
module _ {y0 : Typing} {a0 : PlainState Position} {n : ℕ} {x : Running Position} {e : Env} {us : List Kind} {g : Owned} {k : Kind} {v : Value} {ws : List Value} (l : Loaded y0 a0 n x e us g k v ws) (name : Text) where
  free_by : Focus (raised_typing (suc (l.typing.rank (slot_k n (length e)))) l.typing) l.state n e us (Some k) → (i : ℕ) → length e ≤ i → Unnamed l.typing.exact (slot_k n i)
  free_by f i le = last_unnamed (slot_k n) (raised_typing (suc (l.typing.rank (slot_k n (length e)))) l.typing).rank (hand_at n us) e l.typing.exact (store l.typing l.state) (Some k) (length e) i f.keys f.thread f.thread.names le (omega (arith, le))

  -- no type names a slot that the thread doesn't have
  free : (i : ℕ) → length e ≤ i → Unnamed l.typing.exact (slot_k n i)
  free = free_by (focus_at l.typing l.state n l.running e (k ∷ us) us (Some k) g l.at top_some l.waits)

  abbrev lifted_typing : Typing
  lifted_typing = ranked_by (lift (suc (l.typing.rank (hand_at n us))) n (length e) l.typing.rank) l.typing

  abbrev z : Typing
  z = raised_typing (suc (lifted_typing.rank (slot_k n (length e)))) lifted_typing

  at_lifted : At (ranked_by (lift (suc (l.typing.rank (hand_at n us))) n (length e) l.typing.rank) l.typing) l.state n l.running e (k ∷ us) g
  at_lifted = record { state = lifted (suc (l.typing.rank (hand_at n us))) l.typing l.state n l.running e (k ∷ us) g l.at free; runs = l.at.runs; entry = l.at.entry }

  at_two : At z l.state n l.running e (k ∷ us) g
  at_two = record { state = raised (suc (lifted_typing.rank (slot_k n (length e)))) lifted_typing l.state at_lifted.state; runs = l.at.runs; entry = l.at.entry }

  focused : Focus z l.state n e us (Some k)
  focused = focus_at lifted_typing l.state n l.running e (k ∷ us) us (Some k) g at_lifted top_some l.waits

  -- what the operand's type names ranks below the new slot
  rank_ok : (m : Bool) (u : Place) → l.typing.exact (hand_at n us) ≡ refers m u → z.rank u.key < z.rank (slot_k n (length e))
  rank_ok m u is =
      let w = l.at.state.near (hand_at n us) m u is in
      let low = l.at.state.typed.below (hand_at n us) m u is in
      let same : z.rank u.key ≡ l.typing.rank u.key = ap z.rank w.is ∙ ap lifted_typing.rank (sym w.is) ∙ lift_named (suc (l.typing.rank (hand_at n us))) n (length e) l.typing l.state l.at.state free (hand_at n us) m u is in
      let high = lift_high (suc (l.typing.rank (hand_at n us))) n (length e) l.typing.rank (length e) (omega arith) in
      omega (arith, low, same, high)

  module _ (a2 : PlainState Position) where
    abbrev new : Slot
    new = record { name = Some name; part = whole k }

    abbrev x2 : Running Position
    x2 = record { place = record { entry = going (new ∷ e) us g; temps = ws }; slots = v ∷ l.running.slots }

    abbrev E2 : KeyTypes
    E2 = bound_types l.typing.exact (hand_at n us) (slot_k n (length e))

    abbrev s1 : Store
    s1 = store z l.state

    abbrev s2 : Store
    s2 = store (typing_with z E2 z.marks) a2

    module _ (only : Only l.state a2 n x2) (objects : (o : ObjNo) → a2.object o ≡ l.state.object o) where
      as_many_slots : length l.running.slots ≡ length e
      as_many_slots = let r = at_two.state.threads n l.running l.at.runs in r.all_slots ∙ ap (λ (w : Entry). length w.env) (sym r.known ∙ l.at.entry)

      as_many_temps : length ws ≡ length us
      as_many_temps = let r = at_two.state.threads n l.running l.at.runs in let q = r.all_temps ∙ ap (λ (w : Entry). length w.temps) (sym r.known ∙ l.at.entry) in let p = ap length l.temps in omega (arith, q, p)

      at_hand : s1.at (hand_at n us) ≡ seen_as z.gives n gone_v (Some v)
      at_hand = hand_value z l.state n (length us) l.running v ws l.at.runs l.temps (sym as_many_temps)

      clear : is_held (Some v) ≡ false
      clear = hand_clear z.rank z.exact s1 z.gives n (hand_at n us) k v at_two.state.typed focused.thread.temp at_hand

      same : SameButTwo (at_key (hand_at n us)) (at_key (slot_k n (length e))) s1 s2
      same =
          same_two z l.state a2 n l.running x2 E2 (length us) (at_key (slot_k n (length e))) l.at.runs only
          (λ i ne. ap (seen_as z.gives n (ref_v (z.marks n i))) (pushed_others v l.running.slots i (length e) (sym as_many_slots) (λ q. ne (ap (λ j. at_key (slot_k n j)) q))))
          (λ i ne. sym (ap (λ q. seen_as z.gives n gone_v (slot_at q i)) l.temps ∙ ap (seen_as z.gives n gone_v) (pushed_others v ws i (length us) (sym as_many_temps) ne)))
          (λ o ne. ap (seen_cell z.gives) (objects o))

      there : value_at s2 (at_key (slot_k n (length e))) ≡ Some (s1.at (hand_at n us))
      there = ap Some (slot_two z l.state a2 n l.running x2 E2 z.marks l.at.runs only (length e) ∙ ap (seen_as z.gives n (ref_v (z.marks n (length e)))) (pushed_here v l.running.slots (length e) (sym as_many_slots)) ∙ clear_same z.gives n (ref_v (z.marks n (length e))) gone_v v clear ∙ sym at_hand)

      empty_after : s2.at (hand_at n us) ≡ gone_v
      empty_after = temp_two z l.state a2 n l.running x2 E2 z.marks l.at.runs only (length us) ∙ ap (seen_as z.gives n gone_v) (temp_none ws (length us) (omega (arith, as_many_temps)))

      empty_before : s1.at (slot_k n (length e)) ≡ gone_v
      empty_before = top_fits z.rank z.exact s1 at_two.state.typed (slot_k n (length e)) hole (focused.thread.above (length e) (omega arith))

      alike : Alike (swap s1 (hand_at n us) (at_key (slot_k n (length e)))) s2
      alike = alike_swap s1 s2 (hand_at n us) (at_key (slot_k n (length e))) gone_v (λ q. cc) (ap Some empty_before) same there empty_after

      -- a mark is no key that no type names
      mark_same : (u i : ℕ) (m : MutexNo) (w : Running Position) → place_in (l.state.thread u) ≡ Some w → slot_at w.slots i ≡ Some (Held m) → value_at s2 (z.marks u i) ≡ value_at s1 (z.marks u i)
      mark_same u i m w runs mark = same (z.marks u i) (mark_off z l.state u i m w (hand_at n us) at_two.state runs mark focused.thread.quiet) (mark_off z l.state u i m w (slot_k n (length e)) at_two.state runs mark (free (length e) (omega arith)))

      -- the slots with a mark are those that had one
      marked : (i : ℕ) (m : MutexNo) → slot_at (v ∷ l.running.slots) i ≡ Some (Held m) → slot_at l.running.slots i ≡ Some (Held m)
      marked i m q = ⊎_elim
          (λ (f : i ≡ length e). let b = sym clear ∙ ap is_held (sym (pushed_here v l.running.slots i (f ∙ sym as_many_slots)) ∙ q) in cc)
          (λ (f : i ≢ length e). sym (pushed_others v l.running.slots i (length e) (sym as_many_slots) f) ∙ q)
          (decide_number i (length e))

      typed : PositionTypes (typing_with z E2 z.marks) a2
      typed = slots_changed at_two focused (record {
        only = only;
        objects = λ o w f. (w, objects o ∙ f);
        before = λ o w f. (w, sym (objects o) ∙ f);
        tops = top_none;
        idle = λ q. l.waits;
        entry = refl;
        temps = as_many_temps;
        slots = ap suc as_many_slots;
        long = omega arith;
        thread = bound_thread (slot_k n) z.rank (hand_at n us) e z.exact s1 s2 k (Some name) focused.keys focused.thread rank_ok (focused.high (length e) (length us) (omega arith)) alike;
        others = λ j nh ns. key_other j (slot_k n (length e)) (z.exact (hand_at n us)) (with_type z.exact (hand_at n us) (owns hole) j) (ns (length e)) ∙ key_other j (hand_at n us) (owns hole) (z.exact j) nh;
        stood = bound_stood (slot_k n) z.rank (hand_at n us) e z.exact s1 s2 k (Some name) focused.keys focused.thread rank_ok (focused.high (length e) (length us) (omega arith)) alike;
        hidden = hidden;
        marked = marked;
        still = λ i m q. pushed_others v l.running.slots i (length e) (sym as_many_slots) (λ f. let d = slot_below l.running.slots i (Held m) q in omega (arith, d, f, as_many_slots)) ∙ q;
        content = λ s i m q d. let lt = content_there d in lock_with (ap (λ w. owned_in (part_of w)) (below_new new e (suc i) (λ f. omega (arith, lt, f)))) d;
        held = mark_same;
        carried = carried_swap s1 s2 (hand_at n us) (at_key (slot_k n (length e))) same there (ap Some (empty_after ∙ sym empty_before));
      })
        where
          hidden : (i : ℕ) → is_hidden (env_at (new ∷ e) i) ≡ is_held (slot_at (v ∷ l.running.slots) i)
          hidden i = ⊎_elim
              (λ (f : i ≡ length e). ap is_hidden (here_new new e i f) ∙ sym clear ∙ sym (ap is_held (pushed_here v l.running.slots i (f ∙ sym as_many_slots))))
              (λ (f : i ≢ length e). ap is_hidden (below_new new e i f) ∙ old i ∙ sym (ap is_held (pushed_others v l.running.slots i (length e) (sym as_many_slots) f)))
              (decide_number i (length e))
            where
              old : (i : ℕ) → is_hidden (env_at e i) ≡ is_held (slot_at l.running.slots i)
              old i = let r = at_two.state.threads n l.running l.at.runs in ap (λ (w : Entry). is_hidden (env_at w.env i)) (sym l.at.entry ∙ r.known) ∙ r.hidden i

-- what was at hand is in the new slot
bound_refs : (t slots : ℕ) (hand : Key) → (i : ℕ) × (hand ≡ temp_k t i) → (x : Key) → x ≡ slot_k t slots → (E E1 : KeyTypes) → NoneNew E E1 → KeepsReferences binds t slots E (bound_types E1 hand x)
bound_refs t slots hand at x is E E1 none k u e =
    let E2 = with_type E1 hand (owns hole) in
    ⊎_elim (λ (z : k ≡ x). inr (z ∙ is, (at.0, ap E (sym at.1) ∙ none hand u (sym (key_same x (E1 hand) (E2 x)) ∙ ap (with_type E2 x (E1 hand)) (sym z) ∙ e))))
    (λ (z : k ≢ x). inl (none k u (none_owns E1 hand hole k u (sym (key_other k x (E1 hand) (E2 k) z) ∙ e)))) (decide_key k x)

module _ (now : Position → Now) (move : Position → Option (Move Position Position)) (y : Typing) (s : Machine Position) (t : Thread Position) (p : Position) (wrap : Position → Life Position) (plug : Value → Position) where
  let_steps : (v : Value) → Ready y s t p wrap (do_let v) plug → StepsTyped y (moves_by now move) s t fresh.None (record { act = do_let v; plug = λ z. wrap (plug z) })
  let_steps v r =
      let i = let_row r.row in
      let x : Running Position = record { place = p; slots = t.slots } in
      let n = t.number in
      let h : At y (plain_state s) n x i.env i.before i.result = record { state = r.state; runs = runs_here s t p wrap r.goes_on r.found r.at; entry = i.entry } in
      let l = load y (plain_state s) n x i.env i.result h refl i.pops in
      let q : Position = record { entry = going (record { name = Some i.name; part = whole i.kind } ∷ i.env) i.after i.result; temps = i.left } in
      let only = only_here s t p wrap r.goes_on r.found r.at q (v ∷ t.slots) s.heap (s.output ++ []) (λ u. omega arith) in
      let a2 = plain_state (record s { threads = with_thread s.threads (record { number = t.number; life = wrap q; slots = v ∷ t.slots }); heap = s.heap; output = s.output ++ [] }) in
      let only2 = l.only a2 (record { place = q; slots = v ∷ t.slots }) only in
      let only3 = subst (λ w. Only l.state a2 n (record { place = q; slots = v ∷ w })) (sym l.slots) only2 in
      let st = typed l i.name a2 only3 (λ o. sym (l.objects o)) in
      steps_typed now move s t wrap (record { act = do_let v; plug = λ u. wrap (plug u) }) plug unit_value q (v ∷ t.slots) s.heap [] y _ r.goes_on
      (r.comes unit_value ∙ ap₂ (λ a k. record { entry = a; temps = left_after k unit_value }) i.comes i.leaves)
      refl
      st
      l.names
      (bound_refs n (length t.slots) (hand_at n i.after) (hand_is n i.after) (slot_k n (length i.env)) (ap (slot_k n) (sym (as_many_slots l i.name a2 only3 (λ o. sym (l.objects o))) ∙ ap length l.slots)) y.exact l.typing.exact l.refs)

pub let_keeps : Keeps IsLet
let_keeps now move y s t p wrap act plug h r = subst (λ a. StepsTyped y (moves_by now move) s t fresh.None (record { act = a; plug = λ z. wrap (plug z) })) (sym h.1) (let_steps now move y s t p wrap plug h.0 (subst (λ a. Ready y s t p wrap a plug) h.1 r))
