-- Operands come to hand, and values of int and unit end there.
use Rattle.std.proofs.Common.{◌≡◌, ◌∙◌, ℕ, ℤ, true, List, ◌∷◌, ◌++◌, length, Option, Some, None, refl, sym, ap, subst, arith}
use Rattle.fr_base.specs.declared.name.ObjNo.{ObjNo}
use Rattle.fr_base.specs.declared.label.Label.{Label}
use Rattle.fr_base.specs.declared.label.Plain.TheVariants as plain
use Rattle.fr_base.specs.declared.step.Fresh.TheVariants as fresh
use Rattle.std.specs.Prelude.{if◌then◌else◌}
use Rattle.fr_typing.proofs.PlaceLemmas.{eq_cases}
use Rattle.fr_typing.specs.Kinds.{Owned, unit, int, Kind, own}
use Rattle.fr_typing.specs.Places.{Env}
use Rattle.fr_store.specs.Keys.{slot_k, temp_k}
use Rattle.fr_store.specs.Store.{gone_v, int_v}
use Rattle.fr_store.specs.Typed.{int_tree, owns}
use Rattle.fr_store.specs.Changes.{New, new_unit, new_int}
use Rattle.fr_store.specs.Below.{tree_of}
use Rattle.fr_store.proofs.Rows.{top_fits}
use Rattle.fr_store.proofs.ThreadKept.{exact_owned}
use Rattle.fr_plain.specs.declared.value.Value.{Value}
use Rattle.fr_plain.specs.declared.value.Value.TheVariants.{Own, ToSlot, ToObject, Held}
use Rattle.fr_plain.specs.MachineActs.{unit as unit_value}
use Rattle.fr_plain.specs.State.{slot_at}
use Rattle.fr_plain.specs.Heap.{Heap}
use Rattle.fr_plain.specs.MachineThreads.{Now, Move, Life, Thread, Whole, with_thread, settle_life}
use Rattle.fr_plain.specs.Machine.{prints, done_act}
use Rattle.fr_plain.specs.PlainState.{Running, PlainState, place_in, plain_state}
use Rattle.fr_sound.specs.Entries.{going}
use Rattle.fr_sound.specs.Seen.{Gives}
use Rattle.fr_sound.specs.States.{Typing, temp_val}
use Rattle.fr_code.specs.CodeTypes.{wait}
use Rattle.law_plain_values.specs.acts.Positions.{Position, temps_of, PositionTypes, moves_by}
use Rattle.law_plain_values.specs.acts.ActRows.{Pops, pops_unit, pops_int, pops_temp}
use Rattle.law_plain_values.specs.acts.Keeps.{GoesOn, on_references, KeepsReferences, StepsTyped}
use Rattle.law_plain_values.proofs.acts.Lower.{seen_as}
use Rattle.law_plain_values.proofs.acts.OneThread.{store, Counted}
use Rattle.law_plain_values.proofs.acts.Focus.{top_none, top_some, hand_at, Focus, temp_is}
use Rattle.law_plain_values.proofs.acts.AtHand.{Only}
use Rattle.law_plain_values.proofs.acts.Refs.{NoneNew, none_then}
use Rattle.law_plain_values.proofs.acts.Hand.{At, Becomes, ranked, push, push_none, pop, typed_new, put_running, only_put, objects_put, only_after}
use Rattle.law_plain_values.proofs.acts.Done.{names_stay, settles}

-- the operand is at hand, in a state that differs at most there
pub record Loaded (y0 : Typing) (a : PlainState Position) (t : ℕ) (x : Running Position) (e : Env) (us : List Kind) (g : Owned) (k : Kind) (v : Value) (ws : List Value) : Type 0 where
  pub state : PlainState Position
  pub running : Running Position
  pub typing : Typing
  pub names : typing.gives ≡ y0.gives
  pub refs : NoneNew y0.exact typing.exact
  pub at : At typing state t running e (k ∷ us) g
  pub waits : wait us ≡ true
  pub temps : running.place.temps ≡ v ∷ ws
  pub slots : running.slots ≡ x.slots
  pub only : (a2 : PlainState Position) (z : Running Position) → Only a a2 t z → Only state a2 t z
  pub objects : (o : ObjNo) → state.object o ≡ a.object o

-- a constant comes to hand
constant : (y : Typing) (a : PlainState Position) (t : ℕ) (x : Running Position) (e : Env) (us : List Kind) (g o : Owned) (v : Value) → At y a t x e us g → wait us ≡ true
    → ((z : Typing) → Focus z a t e us None → New z.rank z.exact (store z a) (hand_at t us) (owns (tree_of o)) (seen_as z.gives t gone_v (Some v))) → ((z : Typing) → Counted (seen_as z.gives t gone_v (Some v)) → ⊥)
    → Loaded y a t x e us g (own o) v x.place.temps
constant y a t x e us g o v h w new plain =
    let r = ranked y a t x e us us None g h top_none w in
    let z : Running Position = record { place = record { entry = going e (own o ∷ us) g; temps = v ∷ x.place.temps }; slots = x.slots } in
    let b = push r.typing a (put_running a t z) t x e us g (own o) v (owns (tree_of o)) r.at r.focus (only_put a t z) (objects_put a t z)
    (typed_new r.typing.rank r.typing.exact (store r.typing a) (hand_at t us) (tree_of o) (seen_as r.typing.gives t gone_v (Some v)) r.at.state.typed r.focus.thread.quiet (new r.typing r.focus))
    refl tt (λ m u q. absurd cc) (plain r.typing) in
    record {
      state = put_running a t z;
      running = z;
      typing = b.typing;
      names = b.names ∙ r.names;
      refs = none_then y.exact r.typing.exact b.typing.exact r.refs (push_none b (λ u q. absurd cc));
      at = b.at;
      waits = w;
      temps = refl;
      slots = refl;
      only = λ a2 q only. only_after a a2 t z q only;
      objects = objects_put a t z;
    }

-- AN OPERAND COMES TO HAND
pub load : (y : Typing) (a : PlainState Position) (t : ℕ) (x : Running Position) (e : Env) (g : Owned) {ts us : List Kind} {vs ws : List Value} {v : Value} {k : Kind} → At y a t x e ts g → x.place.temps ≡ vs → Pops ts vs v k us ws → Loaded y a t x e us g k v ws
load y a t x e g {us = us} h temps (pops_unit w) = subst (λ ws. Loaded y a t x e us g (own unit) unit_value ws) temps (constant y a t x e us g unit unit_value h w (λ z f. new_unit) (λ z c. c))
load y a t x e g {us = us} h temps (pops_int n w) = subst (λ ws. Loaded y a t x e us g (own int) (Own (plain.Int n)) ws) temps (constant y a t x e us g int (Own (plain.Int n)) h w (λ z f. new_int n) (λ z c. c))
load y a t x e g h temps (pops_temp w) = record { state = a; running = x; typing = y; names = refl; refs = λ k u q. q; at = h; waits = w; temps = temps; slots = refl; only = λ a2 z only. only; objects = λ o. refl }

-- VALUES OF INT

int_value : (g : Gives) (t : ℕ) (v : Value) (n : ℤ) → seen_as g t gone_v (Some v) ≡ int_v n → v ≡ Own (plain.Int n)
int_value g t (Held m) n e = cc
int_value g t (ToSlot i) n e = cc
int_value g t (ToObject o) n e = cc
int_value g t (Own plain.Nothing) n e = cc
int_value g t (Own plain.Unit) n e = cc
int_value g t (Own (plain.Int m)) n e = let f : m ≡ n = cc in ap (λ z. Own (plain.Int z)) f
int_value g t (Own (plain.Box o)) n e = cc
int_value g t (Own (plain.Mutex m)) n e = cc
int_value g t (Own (plain.Task u)) n e = cc

-- what is at hand stands in the store
pub hand_value : (y : Typing) (a : PlainState Position) (t n : ℕ) (x : Running Position) (v : Value) (vs : List Value) → place_in (a.thread t) ≡ Some x → x.place.temps ≡ v ∷ vs → n ≡ length vs → (store y a).at (temp_k t n) ≡ seen_as y.gives t gone_v (Some v)
hand_value y a t n x v vs runs temps l = ap (temp_val temps_of y t n) runs ∙ temp_is y t n x ∙ ap (λ z. seen_as y.gives t gone_v (slot_at z n)) temps ∙ ap (seen_as y.gives t gone_v) (here v vs n l)
  where
    here : (v : Value) (vs : List Value) (n : ℕ) → n ≡ length vs → slot_at (v ∷ vs) n ≡ Some v
    here v vs n l = eq_cases (λ b. (if b then Some v else slot_at vs n) ≡ Some v) n (length vs) (λ q. refl) (λ ne. absurd (ne l))

-- an int at hand ends: what stands there is a number
pub record IntGone (y0 : Typing) (a a2 : PlainState Position) (t : ℕ) (x : Running Position) (e : Env) (us : List Kind) (g : Owned) (v : Value) (ws : List Value) : Type 0 where
  pub number : ℤ
  pub is : v ≡ Own (plain.Int number)
  pub becomes : Becomes y0 a2 t (record { place = record { entry = going e us g; temps = ws }; slots = x.slots }) e us g

pub int_gone : {y0 : Typing} (a a2 : PlainState Position) (t : ℕ) (x : Running Position) (e : Env) (us : List Kind) (g : Owned) (v : Value) (ws : List Value) → Loaded y0 a t x e us g (own int) v ws → Only a a2 t (record { place = record { entry = going e us g; temps = ws }; slots = x.slots }) → ((o : ObjNo) → a2.object o ≡ a.object o) → IntGone y0 a a2 t x e us g v ws
int_gone {y0 = y0} a a2 t x e us g v ws l only objects =
    let r = ranked l.typing l.state t l.running e (own int ∷ us) us (Some (own int)) g l.at top_some l.waits in
    let long : length us ≡ length ws = let q = r.long in let p = ap length l.temps in omega (arith, q, p) in
    let is : r.typing.exact (hand_at t us) ≡ owns int_tree = exact_owned (slot_k t) r.typing.exact int (r.typing.exact (hand_at t us)) r.focus.thread.temp in
    let fits = top_fits r.typing.rank r.typing.exact (store r.typing l.state) r.at.state.typed (hand_at t us) int_tree is in
    let same = r.names ∙ l.names in
    let value = hand_value r.typing l.state t (length us) l.running v ws l.at.runs l.temps long in
    let b = pop r.typing l.state a2 t l.running e us g (own int) v ws r.at r.focus l.waits l.temps (subst (λ sl. Only l.state a2 t (record { place = record { entry = going e us g; temps = ws }; slots = sl })) (sym l.slots) (l.only a2 (record { place = record { entry = going e us g; temps = ws }; slots = x.slots }) only)) (λ o. objects o ∙ sym (l.objects o)) (λ c. subst Counted fits.1 c) in
    record {
      number = fits.0;
      is = int_value r.typing.gives t v fits.0 (sym value ∙ fits.1);
      becomes = subst (λ sl. Becomes y0 a2 t (record { place = record { entry = going e us g; temps = ws }; slots = sl }) e us g) l.slots (record { typing = b.typing; names = b.names ∙ same; refs = none_then y0.exact l.typing.exact b.typing.exact l.refs (none_then l.typing.exact r.typing.exact b.typing.exact r.refs b.refs); at = b.at });
    }

-- A STEP

-- a step that leads to a typed state
pub steps_typed : (now : Position → Now) (move : Position → Option (Move Position Position)) (s : Whole Position) (t : Thread Position) (wrap : Position → Life Position) (m : Move Position (Life Position)) (plug : Value → Position) (value : Value) (q : Position) (slots : List Value) (heap : Heap) (labels : List Label) (before : Typing) (z : Typing)
    → GoesOn wrap
    → plug value ≡ q
    → done_act (moves_by now move) s t fresh.None m m.act
    ≡ Some (record { state = record s { threads = with_thread s.threads (record { number = t.number; life = settle_life (moves_by now move) (wrap (plug value)); slots = slots }); heap = heap; output = s.output ++ prints labels }; labels = labels })
    → PositionTypes z (plain_state (record s { threads = with_thread s.threads (record { number = t.number; life = wrap q; slots = slots }); heap = heap; output = s.output ++ prints labels }))
    → z.gives ≡ before.gives
    → KeepsReferences (on_references m.act) t.number (length t.slots) before.exact z.exact
    → StepsTyped before (moves_by now move) s t fresh.None m
steps_typed now move s t wrap m plug value q slots heap labels before z goes comes done typed kept refs = record {
  next = record { state = record s { threads = with_thread s.threads (record { number = t.number; life = settle_life (moves_by now move) (wrap (plug value)); slots = slots }); heap = heap; output = s.output ++ prints labels }; labels = labels };
  is = done;
  typing = z;
  typed = subst (λ l. PositionTypes z (plain_state (record s { threads = with_thread s.threads (record { number = t.number; life = l; slots = slots }); heap = heap; output = s.output ++ prints labels }))) (sym (settles now move wrap (plug value) goes ∙ ap wrap comes)) typed;
  kept = names_stay kept;
  refs = refs;
}
