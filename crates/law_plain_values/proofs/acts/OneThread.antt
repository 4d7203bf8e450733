-- A change of one thread alone: what it leaves of the typing of a state.
use Rattle.std.proofs.Common.{◌≡◌, ◌≢◌, ◌⊎◌, inl, inr, ◌∙◌, ℕ, ◌<◌, ◌≤◌, Bool, true, false, List, length, Option, Some, None, refl, sym, ap, subst}
use Rattle.std.specs.Prelude.{◌==◌, ⊤, is_some, option_map, slice_get, map}
use Rattle.std.proofs.lemmas.Option.{slice_get-map}
use Rattle.std.proofs.lemmas.List.{length-map}
use Rattle.std.proofs.lemmas.Bool.Decides.{eqb_tells}
use Rattle.fr_base.specs.declared.label.Plain.{Plain}
use Rattle.fr_base.specs.declared.name.ObjNo.{ObjNo}
use Rattle.fr_base.specs.declared.name.MutexNo.{MutexNo}
use Rattle.fr_typing.specs.Kinds.{Kind}
use Rattle.fr_typing.specs.Places.{Env, IsNested}
use Rattle.fr_store.specs.Keys.{Key, slot_k, temp_k, content_k, result_k, hand_k}
use Rattle.fr_store.specs.Store.{Location, Val, box_v, mutex_v, task_v, Store, value_at, Place}
use Rattle.fr_store.specs.Typed.{Tree, int_tree, hole, owns, refers, KeyTypes, Typed}
use Rattle.fr_store.specs.Below.{SlotsBelow}
use Rattle.fr_store.specs.Thread.{ThreadKeys, ThreadTyped, Asleep}
use Rattle.fr_plain.specs.declared.value.Value.{Value}
use Rattle.fr_plain.specs.declared.value.Value.TheVariants.{Held}
use Rattle.fr_plain.specs.State.{slot_at}
use Rattle.fr_plain.specs.MachineThreads.{Life, alive, over, owing, loose, ended, Shared}
use Rattle.fr_plain.specs.PlainState.{Running, PlainState, place_in}
use Rattle.fr_sound.specs.Seen.{OneTask}
use Rattle.fr_sound.specs.Entries.{Entry}
use Rattle.fr_sound.specs.States.{Typing, store_of, slot_val, RunningTyped, IsThread, hand_key, hand_kind, operands, env_at, is_hidden, is_held, IsLock, WaitsFor, WaitsAbove, directly, through, IsNear, IsKept, IsBranch, thread_of_key, AreSoMany, IsShare, MutexTyped}
use Rattle.law_plain_values.specs.acts.Positions.{Position, Knows, temps_of}
use Rattle.law_plain_values.proofs.acts.Lower.{lower_slots}

abbrev pub store : Typing → PlainState Position → Store
store y a = store_of temps_of y a

abbrev pub typing_with : Typing → KeyTypes → (ℕ → ℕ → Location) → Typing
typing_with y E2 M2 = record y { exact = E2; marks = M2 }

-- VALUES THAT ARE COUNTED

-- boxes, mutexes and tasks
abbrev pub Counted : Val → Type 0
Counted (box_v o) = ⊤
Counted (mutex_v m c) = ⊤
Counted (task_v t r) = ⊤
Counted _ = ⊥

-- each value of these stands again, at one place
pub record CarriedOf (Is : Val → Type 0) (s s2 : Store) : Type 0 where
  pub to : Location → Location
  pub from : Location → Location
  pub from_to : (l : Location) → from (to l) ≡ l
  pub to_from : (l : Location) → to (from l) ≡ l
  pub there : (l : Location) (v : Val) → Is v → value_at s l ≡ Some v → value_at s2 (to l) ≡ Some v
  pub back : (l : Location) (v : Val) → Is v → value_at s2 l ≡ Some v → value_at s (from l) ≡ Some v

-- each counted value
abbrev pub Carried : Store → Store → Type 0
Carried s s2 = CarriedOf Counted s s2

-- THE THREAD

abbrev pub with_running : Option (Life (Running Position)) → Running Position → Option (Life (Running Position))
with_running None z = None
with_running (Some (alive x)) z = Some (alive z)
with_running (Some over) z = Some over
with_running (Some (owing x)) z = Some (owing z)
with_running (Some (loose x)) z = Some (loose z)
with_running (Some (ended v)) z = Some (ended v)

-- a thread that goes on, typed in all but where its references lead
pub record RunningCore (y : Typing) (s : Store) (t : ℕ) (pair : Option (ℕ × ℕ)) (x : Running Position) : Type 0 where
  pub entry : Entry
  pub known : x.place.entry ≡ entry
  pub gives : entry.gives ≡ y.gives.result t
  pub keys : ThreadKeys (slot_k t) y.rank (hand_key t entry.temps)
  pub thread : IsThread entry.forked (slot_k t) y.rank (hand_key t entry.temps) entry.env y.exact s (hand_kind entry.temps)
  pub waiting : (i : ℕ) → i < operands entry.temps → y.exact (temp_k t i) ≡ owns int_tree
  pub all_slots : length x.slots ≡ length entry.env
  pub all_temps : length x.place.temps ≡ length entry.temps
  pub forks : entry.forked ≡ is_some pair
  pub hidden : (i : ℕ) → is_hidden (env_at entry.env i) ≡ is_held (slot_at x.slots i)
  pub marked : (i : ℕ) (m : MutexNo) → slot_at x.slots i ≡ Some (Held m) → IsLock y s entry.env t i m

-- what a thread and one that waits have alike
pub record Slots (key : ℕ → Key) (e : Env) (E : KeyTypes) : Type 0 where
  pub nested : IsNested e
  pub slots : SlotsBelow key E e
  pub above : (i : ℕ) → length e ≤ i → E (key i) ≡ owns hole

pub slots_of : (b : Bool) (key : ℕ → Key) (rank : Key → ℕ) (hand : Key) (e : Env) (E : KeyTypes) (s : Store) (k : Option Kind) → IsThread b key rank hand e E s k → Slots key e E
slots_of true key rank hand e E s k h = let a : Asleep key rank hand e E k = h in record { nested = a.nested; slots = a.slots; above = a.above }
slots_of false key rank hand e E s k h = let a : ThreadTyped key rank hand e E s k = h in record { nested = a.nested; slots = a.slots; above = a.above }

-- its references lead to lower slots, or to what these reach
pub with_lower : (y : Typing) (a : PlainState Position) (t : ℕ) (x : Running Position) → Typed y.rank y.exact (store y a) → ((k : Key) (m : Bool) (u : Place) → y.exact k ≡ refers m u → IsNear a k u)
    → ((p b c : ℕ) → a.pair p ≡ Some (b, c) → (b ≢ c) × IsBranch y a p b × IsBranch y a p c) → place_in (a.thread t) ≡ Some x → RunningCore y (store y a) t (a.pair t) x → RunningTyped Knows temps_of y (store y a) t (a.pair t) x
with_lower y a t x typed near pairs is c =
    let p = slots_of c.entry.forked (slot_k t) y.rank (hand_key t c.entry.temps) c.entry.env y.exact (store y a) (hand_kind c.entry.temps) c.thread in
    record {
      entry = c.entry;
      known = c.known;
      gives = c.gives;
      keys = c.keys;
      thread = c.thread;
      waiting = c.waiting;
      all_slots = c.all_slots;
      all_temps = c.all_temps;
      lower = lower_slots temps_of y a (store y a) t x c.entry.env typed near pairs (λ i. ap (slot_val temps_of y t i) is) p.nested p.slots p.above (λ i m e. (c.marked i m e).unnamed);
      forks = c.forks;
      hidden = c.hidden;
      marked = c.marked;
    }

-- where nothing branches no pair is waited for
pub no_branches : (p : Option (ℕ × ℕ)) → false ≡ is_some p → p ≡ None
no_branches None f = refl
no_branches (Some q) f = cc

-- KEYS OF A THREAD

pub same_by : (u t : ℕ) → (u == t) ≡ true → u ≡ t
same_by u t h = by (eqb_tells u t)
  where
    by : (((u == t) ≡ true) × (u ≡ t)) ⊎ (((u == t) ≡ false) × (u ≢ t)) → u ≡ t
    by (inl x) = x.1
    by (inr x) = let f : true ≡ false = sym h ∙ x.0 in cc

pub other_by : (u t : ℕ) → (u == t) ≡ false → u ≢ t
other_by u t h = by (eqb_tells u t)
  where
    by : (((u == t) ≡ true) × (u ≡ t)) ⊎ (((u == t) ≡ false) × (u ≢ t)) → u ≢ t
    by (inl x) = let f : true ≡ false = sym x.0 ∙ h in cc
    by (inr x) = x.1

pub differs_by : (u t : ℕ) → u ≢ t → (u == t) ≡ false
differs_by u t h = by (eqb_tells u t)
  where
    by : (((u == t) ≡ true) × (u ≡ t)) ⊎ (((u == t) ≡ false) × (u ≢ t)) → (u == t) ≡ false
    by (inl x) = absurd (h x.1)
    by (inr x) = x.0

pub by_bool : {A : Type 0} (b : Bool) → (b ≡ true → A) → (b ≡ false → A) → A
by_bool true f g = f refl
by_bool false f g = g refl

-- WHAT A CHANGE KEEPS

-- after a change of thread t alone, which goes on and has no branches: what stands elsewhere, and what its references name
pub record Changes (y : Typing) (a a2 : PlainState Position) (t : ℕ) (x x2 : Running Position) (E2 : KeyTypes) (M2 : ℕ → ℕ → Location) : Type 0 where
  pub was : place_in (a.thread t) ≡ Some x
  pub free : a.pair t ≡ None
  pub now : a2.thread t ≡ with_running (a.thread t) x2
  pub others : (u : ℕ) → u ≢ t → a2.thread u ≡ a.thread u
  pub pairs : (u : ℕ) → a2.pair u ≡ a.pair u
  pub mutexes : (m : MutexNo) → a2.mutex m ≡ a.mutex m
  pub given : (m : MutexNo) → a2.is_given m ≡ a.is_given m
  pub made : (u : ℕ) → a.made u ≤ a2.made u
  pub objects : (o : ObjNo) (v : Plain) → a.object o ≡ Some v → (w : Plain) × (a2.object o ≡ Some w)
  pub before : (o : ObjNo) (v : Plain) → a2.object o ≡ Some v → (w : Plain) × (a.object o ≡ Some w)
  pub typed : Typed y.rank E2 (store (typing_with y E2 M2) a2)
  pub mine : RunningCore (typing_with y E2 M2) (store (typing_with y E2 M2) a2) t (a2.pair t) x2
  pub same : (k : Key) → thread_of_key k ≢ Some t → E2 k ≡ y.exact k
  pub names : (k : Key) (m : Bool) (u : Place) → thread_of_key k ≡ Some t → E2 k ≡ refers m u → ((i : ℕ) × (u.key ≡ slot_k t i)) ⊎ ((j : Key) × (thread_of_key j ≡ Some t) × (y.exact j ≡ refers m u))
  pub carried : Carried (store y a) (store (typing_with y E2 M2) a2)
  pub marks : (u i : ℕ) → u ≢ t → M2 u i ≡ y.marks u i
  pub held : (u i : ℕ) (m : MutexNo) (w : Running Position) → u ≢ t → place_in (a.thread u) ≡ Some w → slot_at w.slots i ≡ Some (Held m) → value_at (store (typing_with y E2 M2) a2) (y.marks u i) ≡ value_at (store y a) (y.marks u i)
  pub marked : (i : ℕ) (m : MutexNo) → slot_at x2.slots i ≡ Some (Held m) → slot_at x.slots i ≡ Some (Held m)
  pub still : (i : ℕ) (m : MutexNo) → slot_at x.slots i ≡ Some (Held m) → slot_at x2.slots i ≡ Some (Held m)

-- the keys that such a change may touch: the thread's, and those of contents
abbrev pub touched : ℕ → Key → Bool
touched t (slot_k u i) = u == t
touched t (temp_k u i) = u == t
touched t (content_k h c) = true
touched t (result_k u) = false
touched t (hand_k u) = u == t

-- a change of thread t, which goes on and has no branches, where objects, mutexes and their contents may come and go: what is counted is told sum by sum
pub record Turn (y : Typing) (a a2 : PlainState Position) (t : ℕ) (x x2 : Running Position) (E2 : KeyTypes) (M2 : ℕ → ℕ → Location) : Type 0 where
  pub was : place_in (a.thread t) ≡ Some x
  pub free : a.pair t ≡ None
  pub now : a2.thread t ≡ with_running (a.thread t) x2
  pub others : (u : ℕ) → u ≢ t → a2.thread u ≡ a.thread u
  pub pairs : (u : ℕ) → a2.pair u ≡ a.pair u
  pub typed : Typed y.rank E2 (store (typing_with y E2 M2) a2)
  pub mine : RunningCore (typing_with y E2 M2) (store (typing_with y E2 M2) a2) t (a2.pair t) x2
  pub same : (k : Key) → touched t k ≡ false → E2 k ≡ y.exact k
  pub of : (k : Key) (m : Bool) (u : Place) → touched t k ≡ true → E2 k ≡ refers m u → thread_of_key k ≡ Some t
  pub names : (k : Key) (m : Bool) (u : Place) → thread_of_key k ≡ Some t → E2 k ≡ refers m u → ((i : ℕ) × (u.key ≡ slot_k t i)) ⊎ ((j : Key) × (thread_of_key j ≡ Some t) × (y.exact j ≡ refers m u))
  pub marks : (u i : ℕ) → u ≢ t → M2 u i ≡ y.marks u i
  pub held : (u i : ℕ) (m : MutexNo) (w : Running Position) → u ≢ t → place_in (a.thread u) ≡ Some w → slot_at w.slots i ≡ Some (Held m) → value_at (store (typing_with y E2 M2) a2) (y.marks u i) ≡ value_at (store y a) (y.marks u i)
  pub there : (l : Location) (m : MutexNo) → IsShare (store (typing_with y E2 M2) a2) m l → (z : Shared) × (a2.mutex m ≡ Some z)
  pub mutexes : (m : MutexNo) (z : Shared) → a2.mutex m ≡ Some z → MutexTyped (typing_with y E2 M2) a2 (store (typing_with y E2 M2) a2) m z
  pub one_task : OneTask (store (typing_with y E2 M2) a2)
  pub task_from : (l : Location) (u : ℕ) (r : Tree) → value_at (store (typing_with y E2 M2) a2) l ≡ Some (task_v u r) → (k : Location) × (value_at (store y a) k ≡ Some (task_v u r))
  pub task_to : (l : Location) (u : ℕ) (r : Tree) → value_at (store y a) l ≡ Some (task_v u r) → (k : Location) × (q : Tree) × (value_at (store (typing_with y E2 M2) a2) k ≡ Some (task_v u q))
  pub objects_there : (l : Location) (o : ObjNo) → value_at (store (typing_with y E2 M2) a2) l ≡ Some (box_v o) → (v : Plain) × (a2.object o ≡ Some v)
  pub objects_owned : (o : ObjNo) (v : Plain) → a2.object o ≡ Some v → (l : Location) × (value_at (store (typing_with y E2 M2) a2) l ≡ Some (box_v o))
  pub objects_made : (o : ObjNo) (v : Plain) (w : Running Position) → a2.object o ≡ Some v → place_in (a2.thread o.thread) ≡ Some w → o.count < a2.made o.thread

-- a thread that goes on goes on
pub runs_still : (l : Option (Life (Running Position))) (x x2 : Running Position) → place_in l ≡ Some x → place_in (with_running l x2) ≡ Some x2
runs_still None x x2 e = cc
runs_still (Some (alive z)) x x2 e = refl
runs_still (Some over) x x2 e = cc
runs_still (Some (owing z)) x x2 e = refl
runs_still (Some (loose z)) x x2 e = refl
runs_still (Some (ended v)) x x2 e = cc

pub kept_still : (l : Option (Life (Running Position))) (x2 : Running Position) → IsKept l → IsKept (with_running l x2)
kept_still None x2 h = h
kept_still (Some (alive z)) x2 h = h
kept_still (Some over) x2 h = h
kept_still (Some (owing z)) x2 h = h
kept_still (Some (loose z)) x2 h = h
kept_still (Some (ended v)) x2 h = h

pub kept_before : (l : Option (Life (Running Position))) (x2 : Running Position) → IsKept (with_running l x2) → IsKept l
kept_before None x2 h = h
kept_before (Some (alive z)) x2 h = h
kept_before (Some over) x2 h = h
kept_before (Some (owing z)) x2 h = h
kept_before (Some (loose z)) x2 h = h
kept_before (Some (ended v)) x2 h = h

pub none_ended : (l : Option (Life (Running Position))) (x x2 : Running Position) (v : Value) → place_in l ≡ Some x → with_running l x2 ≡ Some (ended v) → ⊥
none_ended None x x2 v e f = cc
none_ended (Some (alive z)) x x2 v e f = cc
none_ended (Some over) x x2 v e f = cc
none_ended (Some (owing z)) x x2 v e f = cc
none_ended (Some (loose z)) x x2 v e f = cc
none_ended (Some (ended w)) x x2 v e f = cc

-- WHO WAITS FOR WHOM, where the pairs are the same
module _ (a a2 : PlainState Position) (pairs : (u : ℕ) → a2.pair u ≡ a.pair u) where
  pub waits_same : (p t : ℕ) → WaitsFor a p t → WaitsFor a2 p t
  waits_same p t w = record { first = w.first; second = w.second; pair = pairs p ∙ w.pair; one = w.one }

  pub above_same : (p t : ℕ) → WaitsAbove a p t → WaitsAbove a2 p t
  above_same p t (directly w) = directly (waits_same p t w)
  above_same p t (through {q = q} w r) = through (waits_same p q w) (above_same q t r)

  pub near_same : (k : Key) (u : Place) → IsNear a k u → IsNear a2 k u
  near_same k u n = record { thread = n.thread; of = n.of; owner = n.owner; slot = n.slot; is = n.is; near = by n.near }
    where
      by : (n.owner ≡ n.thread) ⊎ WaitsAbove a n.owner n.thread → (n.owner ≡ n.thread) ⊎ WaitsAbove a2 n.owner n.thread
      by (inl e) = inl e
      by (inr w) = inr (above_same n.owner n.thread w)

-- a thread that waits has a pair
pub has_pair : (a : PlainState Position) (p t : ℕ) → WaitsAbove a p t → (b : ℕ × ℕ) × (a.pair p ≡ Some b)
has_pair a p t (directly w) = ((w.first, w.second), w.pair)
has_pair a p t (through w r) = ((w.first, w.second), w.pair)

-- MUTEXES

module _ (Is : Val → Type 0) (s s2 : Store) (c : CarriedOf Is s s2) where
  pub share_there : (m : MutexNo) → ((q : Tree) → Is (mutex_v m q)) → (l : Location) → IsShare s m l → IsShare s2 m (c.to l)
  share_there m is l h = (h.0, c.there l (mutex_v m h.0) (is h.0) h.1)

  pub share_back : (m : MutexNo) → ((q : Tree) → Is (mutex_v m q)) → (l : Location) → IsShare s2 m l → IsShare s m (c.from l)
  share_back m is l h = (h.0, c.back l (mutex_v m h.0) (is h.0) h.1)

  mapped : (ls : List Location) (i : ℕ) (l : Location) → slice_get (map c.to ls) i ≡ Some l → slice_get ls i ≡ Some (c.from l)
  mapped ls i l h = by (slice_get ls i) refl (sym (slice_get-map c.to ls i) ∙ h)
    where
      by : (o : Option Location) → slice_get ls i ≡ o → option_map c.to o ≡ Some l → slice_get ls i ≡ Some (c.from l)
      by None e f = cc
      by (Some q) e f = let g : c.to q ≡ l = cc in e ∙ ap Some (sym (c.from_to q) ∙ ap c.from g)

  -- as many values of a mutex stand
  pub as_many : (m : MutexNo) → ((q : Tree) → Is (mutex_v m q)) → (n : ℕ) → AreSoMany (IsShare s m) n → AreSoMany (IsShare s2 m) n
  as_many m is n h = record {
    places = map c.to h.places;
    each = λ i l e. subst (IsShare s2 m) (c.to_from l) (share_there m is (c.from l) (h.each i (c.from l) (mapped h.places i l e)));
    all = λ l z. let f = h.all (c.from l) (share_back m is l z) in (f.0, slice_get-map c.to h.places f.0 ∙ ap (option_map c.to) f.1 ∙ ap Some (c.to_from l));
    once = λ i j l e f. h.once i j (c.from l) (mapped h.places i l e) (mapped h.places j l f);
    count = length-map h.places c.to ∙ h.count;
  }
