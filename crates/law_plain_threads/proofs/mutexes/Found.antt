-- The mutex whose value stands at a place of a typed thread, and a step that changes mutexes.
use Rattle.std.proofs.Common.{◌≡◌, ◌∙◌, ℕ, false, List, ◌++◌, Option, Some, refl, sym, ap, subst}
use Rattle.fr_base.specs.declared.label.Label.{Label}
use Rattle.fr_base.specs.declared.label.Plain.TheVariants as plain
use Rattle.fr_base.specs.declared.name.MutexNo.{MutexNo}
use Rattle.fr_base.specs.declared.place.Lval.{Lval}
use Rattle.fr_typing.specs.Kinds.{Owned, mutex, Kind, own, whole}
use Rattle.fr_typing.specs.Places.{Env, found}
use Rattle.fr_store.specs.Keys.{Key, slot_k}
use Rattle.fr_store.specs.Store.{locate as store_locate}
use Rattle.fr_store.specs.Store.{Location, Val, mutex_v, value_at}
use Rattle.fr_store.specs.Typed.{Tree, owns, Resolves, Fits}
use Rattle.fr_store.specs.Below.{tree_of}
use Rattle.fr_store.specs.Thread.{place_of}
use Rattle.fr_store.proofs.Rows.{found_place}
use Rattle.fr_store.proofs.Below.{mut_place, resolved}
use Rattle.fr_store.proofs.ThreadKept.{exact_owned, whole_exact}
use Rattle.fr_plain.specs.declared.value.Value.{Value}
use Rattle.fr_plain.specs.declared.value.Value.TheVariants.{Own, ToSlot, ToObject, Held}
use Rattle.fr_plain.specs.State.{then_reached, loads, slot_at}
use Rattle.fr_plain.specs.State as machine
use Rattle.fr_plain.specs.MachineThreads.{Thread, Whole as Machine, Shared, state_of}
use Rattle.fr_plain.specs.Machine.{mutex_value, mutex_behind}
use Rattle.fr_plain.specs.PlainState.{Running, plain_state}
use Rattle.fr_sound.specs.Seen.{Gives, val_of, location_of}
use Rattle.fr_sound.specs.States.{Typing}
use Rattle.fr_code.specs.CodeTypes.{HasType}
use Rattle.law_plain_values.specs.acts.Positions.{Position}
use Rattle.law_plain_values.proofs.acts.OneThread.{store}
use Rattle.law_plain_values.proofs.acts.Hand.{Ranked}
use Rattle.law_plain_values.proofs.acts.Copies.{not_gone, value_found}
use Rattle.law_plain_values.proofs.acts.Places.{variable_below, variable_seen, leads, value_there}
use Rattle.law_plain_values.proofs.acts.Borrows.{variable_clear}

-- what is seen as a value of a mutex is one
mutex_here : (g : Gives) (t : ℕ) (v : Value) (m : MutexNo) (c : Tree) → val_of g t v ≡ mutex_v m c → (v ≡ Own (plain.Mutex m)) × (tree_of (g.mutex m) ≡ c)
mutex_here g t (Own plain.Nothing) m c e = cc
mutex_here g t (Own plain.Unit) m c e = cc
mutex_here g t (Own (plain.Int n)) m c e = cc
mutex_here g t (Own (plain.Box o)) m c e = cc
mutex_here g t (Own (plain.Task u)) m c e = cc
mutex_here g t (ToSlot i) m c e = cc
mutex_here g t (ToObject o) m c e = cc
mutex_here g t (Held n) m c e = cc
mutex_here g t (Own (plain.Mutex n)) m c e =
    let same : n ≡ m = cc in
    let tree : tree_of (g.mutex n) ≡ c = cc in
    (ap (λ q. Own (plain.Mutex q)) same, ap (λ q. tree_of (g.mutex q)) (sym same) ∙ tree)

-- a value of a mutex stands at the place, in the machine and in the store, and the mutex is there
pub record FoundMutex (y : Typing) (s : Machine Position) (t : Thread Position) (w : Lval) (x : Owned) : Type 0 where
  pub number : MutexNo
  pub labels : List Label
  pub behind : mutex_behind (state_of s t) w ≡ Some (number, labels)
  pub shared : Shared
  pub there : (plain_state s).mutex number ≡ Some shared
  pub tree : tree_of (y.gives.mutex number) ≡ tree_of x
  pub loc : Location
  pub at : store_locate (store y (plain_state s)) (place_of (slot_k t.number) w) ≡ Some loc
  pub value : value_at (store y (plain_state s)) loc ≡ Some (mutex_v number (tree_of (y.gives.mutex number)))
  pub base : Key
  pub boxes : ℕ
  pub res : Resolves y.exact false (slot_k t.number w.slot) w.depth base boxes (owns (tree_of (mutex x)))

pub found_mutex : {y0 : Typing} (s : Machine Position) (t : Thread Position) (p : Position) (e : Env) (ts us : List Kind) (o : Option Kind) (g x : Owned) (w : Lval) (z : Ranked y0 (plain_state s) t.number (record { place = p; slots = t.slots }) e ts us o g) → HasType e w (found (whole (own (mutex x)))) → FoundMutex z.typing s t w x
found_mutex s t p e ts us o g x w z is =
    let n = t.number in
    let xr : Running Position = record { place = p; slots = t.slots } in
    let s1 = store z.typing (plain_state s) in
    let lt = variable_below e w.slot is.named in
    let c = resolved (slot_k n) z.typing.exact (mut_place z.typing.rank z.typing.exact s1 z.at.state.typed) e z.focus.thread.nested z.focus.thread.slots w (whole (own (mutex x))) lt is.is in
    let type = exact_owned (slot_k n) z.typing.exact (mutex x) c.type c.exact in
    let f = found_place z.typing.rank z.typing.exact s1 false (place_of (slot_k n) w) c.base c.boxes c.type z.at.state.typed c.res in
    let fits : (m : MutexNo) × (f.value ≡ mutex_v m (tree_of x)) = subst (λ q. Fits z.typing.exact s1 q f.value) type f.fits in
    let unnamed = λ (i : ℕ) (mu : MutexNo) (q : slot_at t.slots i ≡ Some (Held mu)). (z.running.marked i mu q).unnamed in
    let l = leads z.typing (plain_state s) n xr s.heap z.at.runs (λ o. refl) z.at.state.typed unnamed w.slot w.depth f.loc (variable_clear z w.slot (variable_seen e w.slot is.named)) f.at in
    let here : value_at s1 (location_of n l.reached.spot) ≡ Some f.value = ap (value_at s1) l.spot ∙ f.there in
    let v = value_found z.typing (plain_state s) n xr s.heap z.at.runs (λ o. refl) z.at.state.typed unnamed l.reached.spot f.value here (λ q. not_gone z.typing.exact s1 c.type (whole_exact (slot_k n) z.typing.exact (own (mutex x)) c.type c.exact) (subst (Fits z.typing.exact s1 c.type) q f.fits)) in
    let same : Some f.value ≡ Some (val_of z.typing.gives n v.0) = sym here ∙ value_there z.typing (plain_state s) n xr s.heap z.at.runs (λ o. refl) z.at.state.typed unnamed l.reached.spot v.0 v.1 l.clear in
    let m = mutex_here z.typing.gives n v.0 fits.0 (tree_of x) (sym (some_val same) ∙ fits.1) in
    let share = z.at.state.there f.loc fits.0 (tree_of x, f.there ∙ ap Some fits.1) in
    record {
      number = fits.0;
      labels = l.reached.passed ++ loads l.reached.spot (Own (plain.Mutex fits.0));
      behind = ap (λ o. then_reached o (λ r. mutex_value r (machine.value_at (state_of s t) r.spot))) l.is ∙ ap (mutex_value l.reached) (v.1 ∙ ap Some m.0);
      shared = share.0;
      there = share.1;
      tree = m.1;
      loc = f.loc;
      at = f.at;
      value = f.there ∙ ap Some fits.1 ∙ ap (λ q. Some (mutex_v fits.0 q)) (sym m.1);
      base = c.base;
      boxes = c.boxes;
      res = subst (Resolves z.typing.exact false (slot_k n w.slot) w.depth c.base c.boxes) type c.res;
    }
  where
    some_val : {a b : Val} → Some a ≡ Some b → a ≡ b
    some_val e = cc
