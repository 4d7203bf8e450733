-- Types of results and contents may change where nobody sees them: of a mutex whose name wasn't given, and of a thread that isn't there.
use Rattle.std.proofs.Common.{◌≡◌, ◌≢◌, ◌∙◌, ℕ, Bool, true, false, List, Option, Some, None, refl, sym, ap}
use Rattle.fr_base.specs.declared.label.Plain.{Plain}
use Rattle.fr_base.specs.declared.label.Plain.TheVariants as plain
use Rattle.fr_base.specs.declared.name.ObjNo.{ObjNo}
use Rattle.fr_base.specs.declared.name.MutexNo.{MutexNo}
use Rattle.fr_typing.specs.Kinds.{Kind}
use Rattle.fr_typing.specs.Places.{Env}
use Rattle.fr_store.specs.Keys.{Key, slot_k, temp_k, content_k, result_k, hand_k}
use Rattle.fr_store.specs.Store.{Alike, Location, at_key, at_object, Val, gone_v, mutex_v, task_v, ref_v, Store, value_at}
use Rattle.fr_store.specs.Typed.{owns, Typed}
use Rattle.fr_store.specs.Below.{tree_of}
use Rattle.fr_store.proofs.Rows.{same_store}
use Rattle.fr_store.proofs.OtherThreads.{alike_row}
use Rattle.fr_plain.specs.declared.value.Value.{Value}
use Rattle.fr_plain.specs.declared.value.Value.TheVariants.{Own, ToSlot, ToObject, Held}
use Rattle.fr_plain.specs.State.{slot_at}
use Rattle.fr_plain.specs.MachineThreads.{Life, alive, over, owing, loose, ended, Shared}
use Rattle.fr_plain.specs.PlainState.{Running, PlainState, place_in}
use Rattle.fr_sound.specs.Seen.{Gives, val_of, owned_val, seen_cell}
use Rattle.fr_sound.specs.States.{Typing, slot_val, temp_val, result_val, content_val, RunningTyped, IsThread, hand_key, hand_kind, IsLock, IsBranch, IsKept, IsShare, AreSoMany, MutexTyped}
use Rattle.law_plain_values.specs.acts.Positions.{Position, Knows, temps_of, PositionTypes}
use Rattle.law_plain_values.specs.acts.Keeps.{KeepsNames}
use Rattle.law_plain_values.proofs.acts.Lower.{seen_as, seen_is}
use Rattle.law_plain_values.proofs.acts.OneThread.{store, RunningCore, with_lower}
use Rattle.law_plain_values.proofs.acts.Focus.{temp_is}

abbrev pub giving : Gives → Typing → Typing
giving g2 y = record y { gives = g2 }

module _ (g2 : Gives) (y : Typing) (a : PlainState Position) (st : PositionTypes y a) (c : KeepsNames a y.gives g2) where
  abbrev y2 : Typing
  y2 = record y { gives = g2 }

  abbrev s1 : Store
  s1 = store y a

  abbrev s2 : Store
  s2 = store (record y { gives = g2 }) a

  -- a mutex of which a value stands somewhere has its type
  mutex_same : (l : Location) (m : MutexNo) → IsShare s1 m l → g2.mutex m ≡ y.gives.mutex m
  mutex_same l m h = let d = st.there l m h in c.mutexes m ((st.mutexes m d.0 d.1).given)

  kept_same : (u : ℕ) → IsKept (a.thread u) → g2.result u ≡ y.gives.result u
  kept_same u h = by (a.thread u) refl h
    where
      by : (o : Option (Life (Running Position))) → a.thread u ≡ o → IsKept o → g2.result u ≡ y.gives.result u
      by None e k = absurd k
      by (Some l) e k = c.results u l e

  runs_same : (u : ℕ) (x : Running Position) → place_in (a.thread u) ≡ Some x → g2.result u ≡ y.gives.result u
  runs_same u x h = by (a.thread u) refl h
    where
      by : (o : Option (Life (Running Position))) → a.thread u ≡ o → place_in o ≡ Some x → g2.result u ≡ y.gives.result u
      by None e k = cc
      by (Some l) e k = c.results u l e

  -- WHAT STANDS

  val_same : (l : Location) (v : Plain) → value_at s1 l ≡ Some (owned_val y.gives v) → owned_val g2 v ≡ owned_val y.gives v
  val_same l plain.Nothing e = refl
  val_same l plain.Unit e = refl
  val_same l (plain.Int n) e = refl
  val_same l (plain.Box o) e = refl
  val_same l (plain.Mutex m) e = ap (λ q. mutex_v m (tree_of q)) (mutex_same l m (tree_of (y.gives.mutex m), e))
  val_same l (plain.Task u) e = ap (λ q. task_v u (tree_of q)) (kept_same u ((st.tasks_owed l u (tree_of (y.gives.result u)) e).kept))

  seen_same : (l : Location) (t : ℕ) (mark : Val) (o : Option Value) → value_at s1 l ≡ Some (seen_as y.gives t mark o) → seen_as g2 t mark o ≡ seen_as y.gives t mark o
  seen_same l t mark None e = refl
  seen_same l t mark (Some (Own v)) e = val_same l v e
  seen_same l t mark (Some (ToSlot i)) e = refl
  seen_same l t mark (Some (ToObject o)) e = refl
  seen_same l t mark (Some (Held m)) e = refl

  key_alike : (k : Key) → s2.at k ≡ s1.at k
  key_alike (slot_k t i) = by (place_in (a.thread t)) refl
    where
      by : (w : Option (Running Position)) → place_in (a.thread t) ≡ w → slot_val temps_of y2 t i w ≡ slot_val temps_of y t i w
      by None e = refl
      by (Some x) e = seen_is temps_of y2 t i x ∙ seen_same (at_key (slot_k t i)) t (ref_v (y.marks t i)) (slot_at x.slots i) (ap Some (ap (slot_val temps_of y t i) e ∙ seen_is temps_of y t i x)) ∙ sym (seen_is temps_of y t i x)
  key_alike (temp_k t i) = by (place_in (a.thread t)) refl
    where
      by : (w : Option (Running Position)) → place_in (a.thread t) ≡ w → temp_val temps_of y2 t i w ≡ temp_val temps_of y t i w
      by None e = refl
      by (Some x) e = temp_is y2 t i x ∙ seen_same (at_key (temp_k t i)) t gone_v (slot_at x.place.temps i) (ap Some (ap (temp_val temps_of y t i) e ∙ temp_is y t i x)) ∙ sym (temp_is y t i x)
  key_alike (content_k h n) = by (a.mutex (record { home = h; count = n })) refl
    where
      in_by : (k : ℕ) (o : Option Plain) → value_at s1 (at_key (content_k h n)) ≡ Some (content_val y.gives (Some (record { content = o; shares = k }))) → content_val g2 (Some (record { content = o; shares = k })) ≡ content_val y.gives (Some (record { content = o; shares = k }))
      in_by k None e = refl
      in_by k (Some v) e = val_same (at_key (content_k h n)) v e

      by : (o : Option Shared) → a.mutex (record { home = h; count = n }) ≡ o → content_val g2 o ≡ content_val y.gives o
      by None e = refl
      by (Some x) e = in_by x.shares x.content (ap (λ q. Some (content_val y.gives q)) e)
  key_alike (result_k t) = by (a.thread t) refl
    where
      ended_by : (v : Value) → value_at s1 (at_key (result_k t)) ≡ Some (val_of y.gives t v) → val_of g2 t v ≡ val_of y.gives t v
      ended_by (Own v) e = val_same (at_key (result_k t)) v e
      ended_by (ToSlot i) e = refl
      ended_by (ToObject o) e = refl
      ended_by (Held m) e = refl

      by : (o : Option (Life (Running Position))) → a.thread t ≡ o → result_val temps_of y2 t o ≡ result_val temps_of y t o
      by None e = refl
      by (Some over) e = refl
      by (Some (alive x)) e = refl
      by (Some (owing x)) e = refl
      by (Some (loose x)) e = refl
      by (Some (ended v)) e = ended_by v (ap (λ q. Some (result_val temps_of y t q)) e)
  key_alike (hand_k t) = refl

  cell_alike : (o : ObjNo) (v : Option Plain) → a.object o ≡ v → seen_cell g2 v ≡ seen_cell y.gives v
  cell_alike o None e = refl
  cell_alike o (Some v) e = ap Some (val_same (at_object o) v (ap (seen_cell y.gives) e))

  -- the same stands everywhere
  pub regiven_alike : Alike (store y a) (store (record y { gives = g2 }) a)
  regiven_alike (at_key k) = ap Some (key_alike k)
  regiven_alike (at_object o) = cell_alike o (a.object o) refl

  -- THE STATE

  regiven_store : Typed y.rank y.exact s2
  regiven_store = same_store y.rank y.exact y.exact s1 s2 st.typed (λ k. refl) regiven_alike

  thread_two : (b : Bool) (t : ℕ) (ts : List Kind) (e : Env) (k : Option Kind) → IsThread b (slot_k t) y.rank (hand_key t ts) e y.exact s1 k → IsThread b (slot_k t) y.rank (hand_key t ts) e y.exact s2 k
  thread_two true t ts e k h = h
  thread_two false t ts e k h = (alike_row (slot_k t) y.rank (hand_key t ts) e y.exact s1 s2 k regiven_alike).0 h

  lock_two : (e : Env) (t i : ℕ) (m : MutexNo) → IsLock y s1 e t i m → IsLock y2 s2 e t i m
  lock_two e t i m l =
      let same = mutex_same (y.marks t i) m (tree_of (y.gives.mutex m), l.leads) in
      record { leads = regiven_alike (y.marks t i) ∙ l.leads ∙ ap (λ q. Some (mutex_v m (tree_of q))) (sym same); unnamed = l.unnamed; content = l.content ∙ ap Some (sym same) }

  core_two : (t : ℕ) (x : Running Position) → place_in (a.thread t) ≡ Some x → RunningTyped Knows temps_of y s1 t (a.pair t) x → RunningCore y2 s2 t (a.pair t) x
  core_two t x runs r = record {
    entry = r.entry;
    known = r.known;
    gives = r.gives ∙ sym (runs_same t x runs);
    keys = r.keys;
    thread = thread_two r.entry.forked t r.entry.temps r.entry.env (hand_kind r.entry.temps) r.thread;
    waiting = r.waiting;
    all_slots = r.all_slots;
    all_temps = r.all_temps;
    forks = r.forks;
    hidden = r.hidden;
    marked = λ i m e. lock_two r.entry.env t i m (r.marked i m e);
  }

  branch_two : (p b : ℕ) → IsBranch y a p b → IsBranch y2 a p b
  branch_two p b h = record { kept = h.kept; gives = kept_same b h.kept ∙ h.gives; only = h.only; below = h.below }

  pairs_two : (p b d : ℕ) → a.pair p ≡ Some (b, d) → (b ≢ d) × IsBranch y2 a p b × IsBranch y2 a p d
  pairs_two p b d e = let h = st.pairs p b d e in (h.0, branch_two p b h.1, branch_two p d h.2)

  share_one : (m : MutexNo) (l : Location) → IsShare s2 m l → IsShare s1 m l
  share_one m l w = (w.0, sym (regiven_alike l) ∙ w.1)

  share_two : (m : MutexNo) (l : Location) → IsShare s1 m l → IsShare s2 m l
  share_two m l w = (w.0, regiven_alike l ∙ w.1)

  shares_two : (m : MutexNo) (n : ℕ) → AreSoMany (IsShare s1 m) n → AreSoMany (IsShare s2 m) n
  shares_two m n d = record { places = d.places; each = λ i l e. share_two m l (d.each i l e); all = λ l w. d.all l (share_one m l w); once = d.once; count = d.count }

  mutex_two : (m : MutexNo) (x : Shared) → MutexTyped y a s1 m x → MutexTyped y2 a s2 m x
  mutex_two m x d = record {
    given = d.given;
    shares = shares_two m x.shares d.shares;
    needed = d.needed;
    out = d.out;
    unheld = d.unheld;
    content = λ v e. d.content v e ∙ ap (λ q. owns (tree_of q)) (sym (c.mutexes m d.given));
  }

  -- OTHER TYPES WHERE NOBODY SEES THEM
  pub regiven : PositionTypes (record y { gives = g2 }) a
  regiven = record {
    typed = regiven_store;
    threads = λ t x e. with_lower y2 a t x regiven_store st.near pairs_two e (core_two t x e (st.threads t x e));
    results = λ t v e. st.results t v e ∙ ap (λ q. owns (tree_of q)) (sym (c.results t (ended v) e));
    near = st.near;
    pairs = pairs_two;
    parents = st.parents;
    there = λ l m w. st.there l m (share_one m l w);
    mutexes = λ m x e. mutex_two m x (st.mutexes m x e);
    one_task = λ l m t u v e f. st.one_task l m t u v (sym (regiven_alike l) ∙ e) (sym (regiven_alike m) ∙ f);
    tasks_owed = λ l t r e. st.tasks_owed l t r (sym (regiven_alike l) ∙ e);
    owed_stand = λ t h. let f = st.owed_stand t h in (f.0, f.1, regiven_alike f.0 ∙ f.2);
    objects_there = λ l o e. st.objects_there l o (sym (regiven_alike l) ∙ e);
    objects_owned = λ o v e. let f = st.objects_owned o v e in (f.0, regiven_alike f.0 ∙ f.1);
    objects_made = st.objects_made;
  }
