-- Some threads that go on change, each counted value stands again, and each of these threads is typed again: so is the state.
use Rattle.std.proofs.Common.{◌≡◌, ◌⊎◌, ◌∙◌, ℕ, ◌<◌, Bool, true, false, Some, refl, sym, ap, subst}
use Rattle.fr_base.specs.declared.name.MutexNo.{MutexNo}
use Rattle.fr_store.specs.Keys.{Key, slot_k, content_k, result_k}
use Rattle.fr_store.specs.Store.{task_v, value_at, Place}
use Rattle.fr_store.specs.Typed.{refers, KeyTypes, Typed}
use Rattle.fr_plain.specs.declared.value.Value.TheVariants.{Held}
use Rattle.fr_plain.specs.State.{slot_at}
use Rattle.fr_plain.specs.PlainState.{Running, PlainState, place_in}
use Rattle.fr_sound.specs.States.{Typing, IsNear, thread_of_key, IsKept, IsBranch, IsOwed}
use Rattle.law_plain_values.specs.acts.Positions.{Position, PositionTypes}
use Rattle.law_plain_values.proofs.acts.OneThread.{store, typing_with, Carried, RunningCore, kept_before, waits_same, by_bool}
use Rattle.law_plain_threads.proofs.threads.Fates.{GoesOn, Fate, goes_on, goes_runs, kept_to, ended_back, runs_to, mark_to, mark_back}
use Rattle.law_plain_values.proofs.acts.Turns.{theirs, turns_typed}
use Rattle.law_plain_values.proofs.acts.Stays.{Stays, there_by, mutexes_by, objects_by, owned_by}
use Rattle.fr_base.specs.declared.name.ObjNo.{ObjNo}
use Rattle.fr_base.specs.declared.label.Plain.{Plain}

-- what a thread that goes on is after a change
pub record GoesOnAs (y : Typing) (a a2 : PlainState Position) (w : ℕ) (E2 : KeyTypes) : Type 0 where
  pub thread : GoesOn a a2 w
  pub core : RunningCore (typing_with y E2 y.marks) (store (typing_with y E2 y.marks) a2) w (a2.pair w) thread.after

-- what they leave of the state
pub record SeveralTurn (y : Typing) (a a2 : PlainState Position) (T : ℕ → Bool) (E2 : KeyTypes) : Type 0 where
  pub each : (w : ℕ) → T w ≡ true → GoesOnAs y a a2 w E2
  pub others : (w : ℕ) → T w ≡ false → a2.thread w ≡ a.thread w
  pub pairs : (w : ℕ) → a2.pair w ≡ a.pair w
  pub typed : Typed y.rank E2 (store (typing_with y E2 y.marks) a2)
  pub same : (k : Key) → theirs T k ≡ false → E2 k ≡ y.exact k
  pub contents : (m : MutexNo) → E2 (content_k m.home m.count) ≡ y.exact (content_k m.home m.count)
  pub results : (w : ℕ) → E2 (result_k w) ≡ y.exact (result_k w)
  pub of : (k : Key) (m : Bool) (u : Place) → theirs T k ≡ true → E2 k ≡ refers m u → (t : ℕ) × (T t ≡ true) × (thread_of_key k ≡ Some t)
  pub near : (k : Key) (m : Bool) (u : Place) → E2 k ≡ refers m u → IsNear a2 k u
  pub named : (k : Key) (m : Bool) (u : Place) → theirs T k ≡ true → E2 k ≡ refers m u → ((t : ℕ) × (i : ℕ) × (T t ≡ true) × (u.key ≡ slot_k t i)) ⊎ ((j : Key) × (y.exact j ≡ refers m u))
  pub nobody : (k : Key) (m : Bool) (u : Place) → theirs T k ≡ false → y.exact k ≡ refers m u → theirs T u.key ≡ false
  pub held : (u i : ℕ) (m : MutexNo) (w : Running Position) → T u ≡ false → place_in (a.thread u) ≡ Some w → slot_at w.slots i ≡ Some (Held m) → value_at (store (typing_with y E2 y.marks) a2) (y.marks u i) ≡ value_at (store y a) (y.marks u i)
  pub carried : Carried (store y a) (store (typing_with y E2 y.marks) a2)
  pub mutexes : (m : MutexNo) → a2.mutex m ≡ a.mutex m
  pub given : (m : MutexNo) → a2.is_given m ≡ a.is_given m
  pub objects : (o : ObjNo) → a2.object o ≡ a.object o
  pub made : (o : ObjNo) (v : Plain) (w : Running Position) → a2.object o ≡ Some v → place_in (a2.thread o.thread) ≡ Some w → o.count < a2.made o.thread

module _ {y : Typing} {a a2 : PlainState Position} {T : ℕ → Bool} {E2 : KeyTypes} (st : PositionTypes y a) (c : SeveralTurn y a a2 T E2) where
  fates : (w : ℕ) → T w ≡ true → Fate a a2 w
  fates w q = goes_on (c.each w q).thread

  kept_still_back : (w : ℕ) → IsKept (a2.thread w) → IsKept (a.thread w)
  kept_still_back w h = by_bool (T w) (λ q. let z = (c.each w q).thread in kept_before (a.thread w) z.after (subst IsKept z.now h)) (λ q. subst IsKept (c.others w q) h)

  branch : (p b : ℕ) → IsBranch y a p b → IsBranch y a2 p b
  branch p b z = record { kept = kept_to fates c.others b z.kept; gives = z.gives; only = λ q r. z.only q (waits_same a2 a (λ w. sym (c.pairs w)) q b r); below = z.below }

  owed_to : (w : ℕ) → IsOwed a w → IsOwed a2 w
  owed_to w z = record { free = λ q r. z.free q (waits_same a2 a (λ v. sym (c.pairs v)) q w r); kept = kept_to fates c.others w z.kept }

  owed_back : (w : ℕ) → IsOwed a2 w → IsOwed a w
  owed_back w z = record { free = λ q r. z.free q (waits_same a a2 c.pairs q w r); kept = kept_still_back w z.kept }

  stays : Stays a a2
  stays = record { mutexes = c.mutexes; given = c.given; objects = c.objects; marks_to = mark_to fates c.others; marks_back = mark_back fates c.others; made = c.made }

  mine : (w : ℕ) (r : Running Position) → T w ≡ true → place_in (a2.thread w) ≡ Some r → RunningCore (typing_with y E2 y.marks) (store (typing_with y E2 y.marks) a2) w (a2.pair w) r
  mine w r q i =
      let z = c.each w q in
      let f : Some z.thread.after ≡ Some r = sym (goes_runs z.thread) ∙ i in
      let same : z.thread.after ≡ r = cc in
      subst (λ n. RunningCore (typing_with y E2 y.marks) (store (typing_with y E2 y.marks) a2) w (a2.pair w) n) same z.core

  -- THE STATE
  pub several_typed : PositionTypes (typing_with y E2 y.marks) a2
  several_typed = turns_typed st (record {
    typed = c.typed;
    mine = mine;
    others = λ w z q i. sym (ap place_in (c.others w q)) ∙ i;
    pairs = λ w q. c.pairs w;
    same = c.same;
    of = c.of;
    near = c.near;
    named = c.named;
    nobody = c.nobody;
    marks = λ w i q. refl;
    held = c.held;
    results = λ w r i. c.results w ∙ st.results w r (ended_back fates c.others w r i);
    branches = λ p b f z. let k = st.pairs p b f (sym (c.pairs p) ∙ z) in (k.0, branch p b k.1, branch p f k.2);
    parents = λ p b f i. let k = st.parents p b f (sym (c.pairs p) ∙ i) in runs_to fates c.others p k.0 k.1;
    there = there_by y a a2 E2 _ st stays c.carried (λ m q. tt);
    mutexes = mutexes_by y a a2 E2 _ st stays c.carried (λ m q. tt) c.contents;
    one_task = λ l m w p q i j. sym (c.carried.to_from l) ∙ ap c.carried.to (st.one_task (c.carried.from l) (c.carried.from m) w p q (c.carried.back l (task_v w p) tt i) (c.carried.back m (task_v w q) tt j)) ∙ c.carried.to_from m;
    tasks_owed = λ l w r z. owed_to w (st.tasks_owed (c.carried.from l) w r (c.carried.back l (task_v w r) tt z));
    owed_stand = λ w z. let f = st.owed_stand w (owed_back w z) in (c.carried.to f.0, f.1, c.carried.there f.0 (task_v w f.1) tt f.2);
    objects_there = objects_by y a a2 E2 _ st stays c.carried (λ q. tt);
    objects_owned = owned_by y a a2 E2 _ st stays c.carried (λ q. tt);
    objects_made = c.made;
  })
