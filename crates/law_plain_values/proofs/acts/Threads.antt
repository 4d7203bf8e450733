-- What a thread whose life changes leaves of the plain state.
use Rattle.std.proofs.Common.{◌≡◌, ◌≢◌, ⊎_elim, ◌∙◌, ℕ, ◌<◌, Bool, true, false, List, length, Option, Some, None, refl, sym, ap, subst, arith}
use Rattle.std.specs.Prelude.{if◌then◌else◌}
use Rattle.fr_base.specs.declared.label.Plain.{Plain}
use Rattle.fr_base.specs.declared.name.ObjNo.{ObjNo}
use Rattle.fr_store.proofs.Keys.{decide_number}
use Rattle.fr_plain.specs.Heap.{made_by}
use Rattle.fr_plain.specs.MachineThreads.{Life, alive, over, owing, loose, ended, Thread, Whole, thread_at, with_thread, pair_of}
use Rattle.fr_plain.specs.PlainState.{Running, PlainState, place_in, running, running_in, is_over_in, two_of, plain_state}
use Rattle.fr_plain.proofs.ByName.{put_in, put_at, put_off}
use Rattle.fr_plain.proofs.HeapLemmas.{live_made}
use Rattle.fr_sound.specs.Entries.{Entry}
use Rattle.fr_typing.specs.Kinds.{Owned, Kind}
use Rattle.fr_typing.specs.Places.{Env}
use Rattle.fr_sound.specs.States.{Typing}
use Rattle.fr_base.specs.declared.name.MutexNo.{MutexNo}
use Rattle.fr_plain.specs.State.{slot_at}
use Rattle.fr_sound.specs.States.{IsMark}
use Rattle.law_plain_values.specs.acts.Keeps.{GoesOn, is_main, is_owed, is_loose}
use Rattle.law_plain_values.proofs.acts.AtHand.{Only}
use Rattle.law_plain_values.specs.acts.Positions.{Position}
use Rattle.law_plain_values.proofs.acts.OneThread.{with_running, no_branches}
use Rattle.law_plain_values.proofs.acts.Hand.{At}
use Rattle.fr_plain.specs.MachineThreads.{is_over}

-- a thread at an entry where nothing branches waits for no pair
pub no_pair : {y : Typing} {a : PlainState Position} {t : ℕ} {x : Running Position} {e : Env} {ts : List Kind} {g : Owned} → At y a t x e ts g → a.pair t ≡ None
no_pair {a = a} {t = t} {x = x} h = let r = h.state.threads t x h.runs in no_branches (a.pair t) (sym (ap (λ (z : Entry). z.forked) (sym r.known ∙ h.entry)) ∙ r.forks)

-- a thread that goes on isn't over
pub goes_by : (o : Option (Thread Position)) (w : Running Position) → place_in (running_in o) ≡ Some w → is_over_in o ≡ false
goes_by None w e = refl
goes_by (Some x) w e = by x.life e
  where
    by : (l : Life Position) → place_in (Some (running x.slots l)) ≡ Some w → is_over l ≡ false
    by (alive p) f = refl
    by over f = cc
    by (owing p) f = refl
    by (loose p) f = refl
    by (ended v) f = cc

-- each object of a thread that goes on was counted
pub objects_counted : (s : Whole Position) (o : ObjNo) (v : Plain) (w : Running Position) → (plain_state s).object o ≡ Some v → place_in ((plain_state s).thread o.thread) ≡ Some w → o.count < (plain_state s).made o.thread
objects_counted s o v w e runs = subst (λ (b : Bool). o.count < (if b then 0 else length (made_by s.heap o.thread))) (sym (goes_by (thread_at s.threads o.thread) w runs)) (live_made s.heap o v e)

-- A CHANGED THREAD

module _ (ts : List (Thread Position)) (x : Thread Position) (new : Thread Position) (same : new.number ≡ x.number) (found : thread_at ts x.number ≡ Some x) where
  pub put_here : thread_at (with_thread ts new) x.number ≡ Some new
  put_here = put_at ts new x.number same ∙ ap (put_in new) found

  pub put_elsewhere : (u : ℕ) → u ≢ x.number → thread_at (with_thread ts new) u ≡ thread_at ts u
  put_elsewhere u ne = put_off ts new u (λ e. ne (sym e ∙ same))

-- pairs are those that they were, where the same threads are over but for one without a pair
pub pairs_same : (s s2 : Whole Position) (t : ℕ) → s2.pairs ≡ s.pairs → ((u : ℕ) → u ≢ t → thread_at s2.threads u ≡ thread_at s.threads u) → (plain_state s).pair t ≡ None → is_over_in (thread_at s2.threads t) ≡ true → (u : ℕ) → (plain_state s2).pair u ≡ (plain_state s).pair u
pairs_same s s2 t ps others none ends u =
    ⊎_elim
    (λ (e : u ≡ t). subst (λ w. (plain_state s2).pair w ≡ (plain_state s).pair w) (sym e) (ap (λ (b : Bool). if b then None else two_of (pair_of s2.pairs t)) ends ∙ sym none))
    (λ (ne : u ≢ t). ap (λ o. if is_over_in o then None else two_of (pair_of s2.pairs u)) (others u ne) ∙ ap (λ q. if is_over_in (thread_at s.threads u) then None else two_of (pair_of q u)) ps)
    (decide_number u t)

-- of a thread that a change keeps going, whose task somebody has
pub owing_before : (l : Option (Life (Running Position))) (x z : Running Position) → Some (owing x) ≡ with_running l x → place_in l ≡ Some z → l ≡ Some (owing z)
owing_before None x z e f = cc
owing_before (Some (alive q)) x z e f = cc
owing_before (Some over) x z e f = cc
owing_before (Some (owing q)) x z e f = let same : q ≡ z = cc in ap (λ r. Some (owing r)) same
owing_before (Some (loose q)) x z e f = cc
owing_before (Some (ended v)) x z e f = cc

-- pairs are those that they were, where the same threads are over
pub pairs_by : (s s2 : Whole Position) → s2.pairs ≡ s.pairs → ((u : ℕ) → is_over_in (thread_at s2.threads u) ≡ is_over_in (thread_at s.threads u)) → (u : ℕ) → (plain_state s2).pair u ≡ (plain_state s).pair u
pairs_by s s2 ps same u = ap (λ (b : Bool). if b then None else two_of (pair_of s2.pairs u)) (same u) ∙ ap (λ q. if is_over_in (thread_at s.threads u) then None else two_of (pair_of q u)) ps

-- MARKS, where one thread has the slots that it had and the others go on as they did

module _ (a a2 : PlainState Position) (t : ℕ) (x x2 : Running Position) (was : place_in (a.thread t) ≡ Some x) (now : place_in (a2.thread t) ≡ Some x2) (slots : x2.slots ≡ x.slots) (others : (u : ℕ) → u ≢ t → place_in (a2.thread u) ≡ place_in (a.thread u)) where
  pub marks_to_by : (m : MutexNo) (u i : ℕ) → IsMark a m u i → IsMark a2 m u i
  marks_to_by m u i h = ⊎_elim same (λ (ne : u ≢ t). record { thread = h.thread; goes_on = others u ne ∙ h.goes_on; mark = h.mark }) (decide_number u t)
    where
      same : u ≡ t → IsMark a2 m u i
      same e =
          let f : Some x ≡ Some h.thread = sym was ∙ ap (λ z. place_in (a.thread z)) (sym e) ∙ h.goes_on in
          let g : h.thread ≡ x = cc in
          record { thread = x2; goes_on = ap (λ z. place_in (a2.thread z)) e ∙ now; mark = ap (λ z. slot_at z i) (slots ∙ ap (λ (z : Running Position). z.slots) (sym g)) ∙ h.mark }

  pub marks_back_by : (m : MutexNo) (u i : ℕ) → IsMark a2 m u i → IsMark a m u i
  marks_back_by m u i h = ⊎_elim same (λ (ne : u ≢ t). record { thread = h.thread; goes_on = sym (others u ne) ∙ h.goes_on; mark = h.mark }) (decide_number u t)
    where
      same : u ≡ t → IsMark a m u i
      same e =
          let f : Some x2 ≡ Some h.thread = sym now ∙ ap (λ z. place_in (a2.thread z)) (sym e) ∙ h.goes_on in
          let g : h.thread ≡ x2 = cc in
          record { thread = x; goes_on = ap (λ z. place_in (a.thread z)) e ∙ was; mark = ap (λ z. slot_at z i) (sym slots ∙ ap (λ (z : Running Position). z.slots) (sym g)) ∙ h.mark }

-- a thread that goes on as it does
pub still_here : (s : Whole Position) (t : Thread Position) (p : Position) (wrap : Position → Life Position) → GoesOn wrap → thread_at s.threads t.number ≡ Some t → t.life ≡ wrap p → Only (plain_state s) (plain_state s) t.number (record { place = p; slots = t.slots })
still_here s t p wrap goes found at = record {
  now = life ∙ with_by wrap goes ∙ ap (λ l. with_running l (record { place = p; slots = t.slots })) (sym life);
  others = λ u ne. refl;
  pairs = λ u. refl;
  mutexes = λ m. refl;
  given = λ m. refl;
  made = λ u. omega arith;
}
  where
    life : (plain_state s).thread t.number ≡ Some (running t.slots (wrap p))
    life = ap running_in found ∙ ap (λ l. Some (running t.slots l)) at

    with_by : (wrap : Position → Life Position) → GoesOn wrap → Some (running t.slots (wrap p)) ≡ with_running (Some (running t.slots (wrap p))) (record { place = p; slots = t.slots })
    with_by _ is_main = refl
    with_by _ is_owed = refl
    with_by _ is_loose = refl
