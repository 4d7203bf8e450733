-- A discard keeps a state typed.
use Rattle.std.proofs.Common.{◌≡◌, ◌≢◌, ◌∙◌, ap₂, ℕ, List, [], ◌∷◌, ◌++◌, length, Option, Some, None, refl, sym, ap, subst, arith}
use Rattle.fr_base.specs.declared.label.Plain.{Plain}
use Rattle.fr_base.specs.declared.label.Label.{Label}
use Rattle.fr_base.specs.declared.name.ObjNo.{ObjNo}
use Rattle.fr_base.specs.declared.step.Fresh.TheVariants as fresh
use Rattle.fr_typing.specs.Kinds.{Owned, unit, Kind, own, shared, mutable, view, Piece, whole, gone}
use Rattle.fr_typing.specs.Places.{Env, AreBelow, piece_places}
use Rattle.fr_plain.specs.declared.value.Value.{Value}
use Rattle.fr_plain.specs.declared.value.Value.TheVariants.{Own, ToSlot, ToObject, Held}
use Rattle.fr_plain.specs.State.{drops}
use Rattle.fr_plain.specs.MachineActs.{do_discard, unit as unit_value}
use Rattle.fr_plain.specs.MachineThreads.{Now, Move, Life, Thread, Whole as Machine, thread_at, with_thread, dropped}
use Rattle.fr_plain.specs.Machine.{prints}
use Rattle.fr_plain.specs.PlainState.{Running, PlainState, running_in, plain_state}
use Rattle.fr_plain.proofs.ByName.{put_in, put_at}
use Rattle.fr_sound.specs.Entries.{Entry, going}
use Rattle.fr_sound.specs.Seen.{Gives}
use Rattle.fr_sound.specs.States.{Typing}
use Rattle.fr_store.specs.Store.{gone_v}
use Rattle.fr_store.specs.Typed.{Tree, owns, hole}
use Rattle.fr_store.specs.Below.{TreeOf}
use Rattle.law_plain_values.specs.acts.Positions.{Position, moves_by, StartsAs}
use Rattle.law_plain_values.specs.acts.ActRows.{Leaves, quiet, left_after, Pops, ActRow, r_discard}
use Rattle.law_plain_values.specs.acts.Keeps.{Ready, StepsTyped, Keeps}
use Rattle.law_plain_values.proofs.acts.OneThread.{Counted}
use Rattle.law_plain_values.proofs.acts.Lower.{seen_as}
use Rattle.law_plain_values.proofs.acts.Focus.{top_some, hand_at}
use Rattle.law_plain_values.proofs.acts.AtHand.{Only}
use Rattle.law_plain_values.proofs.acts.Hand.{At, ranked, pop}
use Rattle.law_plain_values.proofs.acts.Operands.{Loaded, load, hand_value}
use Rattle.law_plain_values.proofs.acts.Done.{runs_here, only_here, step_by}
use Rattle.law_plain_values.specs.drops.Drops.{with_carrier}
use Rattle.law_plain_values.specs.drops.DropActs.{IsDiscard}
use Rattle.law_plain_values.proofs.drops.Prepared.{name_for, name_free, beside, prepared_at, prepared_focus, prepared_keys, prepared_over}
use Rattle.law_plain_values.proofs.drops.HandGoes.{hand_tree, hand_goes}
use Rattle.law_plain_values.proofs.drops.Dropped.{IsTyped, Dropping, drop_typed}
use Rattle.law_plain_values.proofs.acts.Refs.{NoneNew, none_owns}
use Rattle.fr_store.specs.Rows.{with_type}
use Rattle.fr_store.specs.Keys.{slot_k}

record DiscardRow (x : Entry) (vs : List Value) (v : Value) (l : Leaves) (z : Entry) : Type 0 where
  env : Env
  before : List Kind
  after : List Kind
  left : List Value
  result : Owned
  kind : Kind
  pops : Pops before vs v kind after left
  entry : x ≡ going env before result
  leaves : l ≡ quiet left
  comes : z ≡ going env after result

discard_row : {x z : Entry} {vs : List Value} {v : Value} {l : Leaves} → ActRow StartsAs x vs (do_discard v) l z → DiscardRow x vs v l z
discard_row (r_discard {e = e} {ts = ts} {us = us} {ws = ws} {g = g} {k = k} pops) = record { env = e; before = ts; after = us; left = ws; result = g; kind = k; pops = pops; entry = refl; leaves = refl; comes = refl }

-- the part of a value of that type at hand that is dropped
abbrev pub owned_piece : Kind → Piece
owned_piece (own o) = whole (own o)
owned_piece k = gone (own unit)

owned_piece_of : (k : Kind) (t : Tree) → TreeOf (whole k) t → TreeOf (owned_piece k) t × AreBelow 0 (piece_places (owned_piece k))
owned_piece_of (own o) t h = (h, tt)
owned_piece_of (shared us) t h = absurd h
owned_piece_of (mutable us) t h = absurd h
owned_piece_of (view o) t h = absurd h

-- an owned value at hand comes to a carrier, where its thread goes on in the state s without it
pub carried : {y0 : Typing} {a0 : PlainState Position} {n : ℕ} {x : Running Position} {e : Env} {us : List Kind} {g : Owned} {k : Kind} {v : Plain} {ws : List Value} (l : Loaded y0 a0 n x e us g k (Own v) ws) (s : Machine Position) → Only a0 (plain_state s) n (record { place = record { entry = going e us g; temps = ws }; slots = x.slots })
    → ((o : ObjNo) → (plain_state s).object o ≡ a0.object o) → (t : Thread Position) → thread_at s.threads n ≡ Some t → (y : Typing) × Dropping (name_for s) s y (owned_piece k) v × (y.gives ≡ y0.gives) × NoneNew y0.exact y.exact
carried {a0 = a0} {n = n} {x = x} {e = e} {us = us} {g = g} {k = k} {v = v} {ws = ws} l s only objects t found =
    let u = name_for s in
    let free = name_free s in
    let ne : u ≢ n = λ z. (let q : None ≡ Some t = sym free ∙ ap (thread_at s.threads) z ∙ found in cc) in
    let sl : Only a0 (plain_state s) n (record { place = record { entry = going e us g; temps = ws }; slots = l.running.slots }) = subst (λ z. Only a0 (plain_state s) n (record { place = record { entry = going e us g; temps = ws }; slots = z })) (sym l.slots) only in
    let here = l.only (plain_state s) (record { place = record { entry = going e us g; temps = ws }; slots = l.running.slots }) sl in
    let none : l.state.thread u ≡ None = sym (here.others u ne) ∙ ap running_in free in
    let at = prepared_at l.at u none in
    let fc = prepared_focus l.at u none us (Some k) top_some (λ q. cc) in
    let tree = hand_tree at fc l.waits v ws l.temps in
    let q = owned_piece_of k tree.0 tree.2 in (
      _,
      record {
        none = free;
        carries = hand_goes at fc l.waits v ws l.temps u none (prepared_keys l.at u none) (prepared_over l.at u none) (plain_state s) (plain_state (with_carrier s u (owned_piece k) (l.typing.gives.result u) v)) here (λ o. objects o ∙ sym (l.objects o)) (owned_piece k) tree.0 tree.1 q.0 q.1 (beside s u (owned_piece k) (l.typing.gives.result u) v free);
      },
      l.names,
      λ j b f. l.refs j b (none_owns l.typing.exact (hand_at n us) hole j b (none_owns (with_type l.typing.exact (hand_at n us) (owns hole)) (slot_k u 0) tree.0 j b f)),
    )

-- and is dropped
pub discarded : {y0 : Typing} {a0 : PlainState Position} {n : ℕ} {x : Running Position} {e : Env} {us : List Kind} {g : Owned} {k : Kind} {v : Plain} {ws : List Value} (l : Loaded y0 a0 n x e us g k (Own v) ws) (s : Machine Position) → Only a0 (plain_state s) n (record { place = record { entry = going e us g; temps = ws }; slots = x.slots })
    → ((o : ObjNo) → (plain_state s).object o ≡ a0.object o) → (t : Thread Position) → thread_at s.threads n ≡ Some t → IsTyped y0 (dropped s v)
discarded {k = k} {v = v} l s only objects t found = let c = carried l s only objects t found in let d = drop_typed (name_for s) s c.0 (owned_piece k) v c.1 in (d.0, d.1, d.2 ∙ c.2, λ j b f. c.3 j b (d.3 j b f))

-- a value at hand that is counted nowhere goes
light_gone : {y0 : Typing} {a0 : PlainState Position} {n : ℕ} {x : Running Position} {e : Env} {us : List Kind} {g : Owned} {k : Kind} {v : Value} {ws : List Value} (l : Loaded y0 a0 n x e us g k v ws) (s : Machine Position) → Only a0 (plain_state s) n (record { place = record { entry = going e us g; temps = ws }; slots = x.slots })
    → ((o : ObjNo) → (plain_state s).object o ≡ a0.object o) → ((b : Gives) (t : ℕ) → Counted (seen_as b t gone_v (Some v)) → ⊥) → IsTyped y0 s
light_gone {a0 = a0} {n = n} {x = x} {e = e} {us = us} {g = g} {k = k} {v = v} {ws = ws} l s only objects light =
    let r = ranked l.typing l.state n l.running e (k ∷ us) us (Some k) g l.at top_some l.waits in
    let long : length us ≡ length ws = let q = r.long in let p = ap length l.temps in omega (arith, q, p) in
    let value = hand_value r.typing l.state n (length us) l.running v ws l.at.runs l.temps long in
    let sl : Only a0 (plain_state s) n (record { place = record { entry = going e us g; temps = ws }; slots = l.running.slots }) = subst (λ z. Only a0 (plain_state s) n (record { place = record { entry = going e us g; temps = ws }; slots = z })) (sym l.slots) only in
    let b = pop r.typing l.state (plain_state s) n l.running e us g k v ws r.at r.focus l.waits l.temps (l.only (plain_state s) (record { place = record { entry = going e us g; temps = ws }; slots = l.running.slots }) sl) (λ o. objects o ∙ sym (l.objects o)) (λ c. light r.typing.gives n (subst Counted value c)) in
    (b.typing, b.at.state, b.names ∙ r.names ∙ l.names, λ j u f. l.refs j u (r.refs j u (b.refs j u f)))

module _ (now : Position → Now) (move : Position → Option (Move Position Position)) (y : Typing) (s : Machine Position) (t : Thread Position) (p : Position) (wrap : Position → Life Position) (plug : Value → Position) where
  -- the state once the thread went on
  abbrev on : Life Position → List Label → Machine Position
  on life labels = record s { threads = with_thread s.threads (record { number = t.number; life = life; slots = t.slots }); heap = s.heap; output = s.output ++ prints labels }

  module _ (u : Value) (r : Ready y s t p wrap (do_discard u) plug) (i : DiscardRow p.entry p.temps u r.leaves r.after) where
    abbrev x : Running Position
    x = record { place = p; slots = t.slots }

    abbrev q : Position
    q = record { entry = going i.env i.after i.result; temps = i.left }

    here : At y (plain_state s) t.number x i.env i.before i.result
    here = record { state = r.state; runs = runs_here s t p wrap r.goes_on r.found r.at; entry = i.entry }

    comes : plug unit_value ≡ q
    comes = r.comes unit_value ∙ ap₂ (λ a b. record { entry = a; temps = left_after b unit_value }) i.comes i.leaves

    only : (labels : List Label) → Only (plain_state s) (plain_state (on (wrap q) labels)) t.number (record { place = q; slots = t.slots })
    only labels = only_here s t p wrap r.goes_on r.found r.at q t.slots s.heap (s.output ++ prints labels) (λ z. omega arith)

    stands : (labels : List Label) → thread_at (on (wrap q) labels).threads t.number ≡ Some (record { number = t.number; life = wrap q; slots = t.slots })
    stands labels = put_at s.threads (record { number = t.number; life = wrap q; slots = t.slots }) t.number refl ∙ ap (put_in (record { number = t.number; life = wrap q; slots = t.slots })) r.found

    discard_by : (v : Value) → u ≡ v → Loaded y (plain_state s) t.number x i.env i.after i.result i.kind v i.left → StepsTyped y (moves_by now move) s t fresh.None (record { act = do_discard v; plug = λ z. wrap (plug z) })
    discard_by (Own w) e l =
        let d = discarded l (on (wrap q) (drops (Own w))) (only (drops (Own w))) (λ o. refl) (record { number = t.number; life = wrap q; slots = t.slots }) (stands (drops (Own w))) in
        step_by now move s t wrap (record { act = do_discard (Own w); plug = λ z. wrap (plug z) }) plug unit_value q (λ life. dropped (on life (drops (Own w))) w) (drops (Own w)) y d.0 r.goes_on comes refl d.1 d.2 d.3
    discard_by (ToSlot j) e l =
        let d = light_gone l (on (wrap q) []) (only []) (λ o. refl) (λ b n c. c) in
        step_by now move s t wrap (record { act = do_discard (ToSlot j); plug = λ z. wrap (plug z) }) plug unit_value q (λ life. on life []) [] y d.0 r.goes_on comes refl d.1 d.2 d.3
    discard_by (ToObject o) e l =
        let d = light_gone l (on (wrap q) []) (only []) (λ b. refl) (λ b n c. c) in
        step_by now move s t wrap (record { act = do_discard (ToObject o); plug = λ z. wrap (plug z) }) plug unit_value q (λ life. on life []) [] y d.0 r.goes_on comes refl d.1 d.2 d.3
    discard_by (Held m) e l =
        let d = light_gone l (on (wrap q) []) (only []) (λ b. refl) (λ b n c. c) in
        step_by now move s t wrap (record { act = do_discard (Held m); plug = λ z. wrap (plug z) }) plug unit_value q (λ life. on life []) [] y d.0 r.goes_on comes refl d.1 d.2 d.3

    discard_steps : StepsTyped y (moves_by now move) s t fresh.None (record { act = do_discard u; plug = λ z. wrap (plug z) })
    discard_steps = discard_by u refl (load y (plain_state s) t.number x i.env i.result here refl i.pops)

pub discard_keeps : Keeps IsDiscard
discard_keeps now move y s t p wrap act plug h r =
    let k : Ready y s t p wrap (do_discard h.0) plug = subst (λ a. Ready y s t p wrap a plug) h.1 r in
    subst (λ a. StepsTyped y (moves_by now move) s t fresh.None (record { act = a; plug = λ z. wrap (plug z) })) (sym h.1) (discard_steps now move y s t p wrap plug h.0 k (discard_row k.row))
