-- A new mutex keeps a state typed: the value at hand goes to where the mutex's content stands, and a value of the mutex comes to hand.
use Rattle.std.proofs.Common.{◌≡◌, ◌≢◌, ◌⊎◌, inl, inr, ⊎_elim, ◌∙◌, ap₂, ℕ, zero, suc, ◌≤◌, Bool, true, false, List, [], ◌∷◌, ◌++◌, length, Option, Some, None, refl, sym, ap, subst, arith}
use Rattle.std.specs.Prelude.{is_some, slice_get, if◌then◌else◌}
use Rattle.fr_base.specs.Names.{same_mutex}
use Rattle.fr_base.specs.declared.label.Plain.{Plain}
use Rattle.fr_base.specs.declared.label.Plain.TheVariants as plain
use Rattle.fr_base.specs.declared.name.ObjNo.{ObjNo}
use Rattle.fr_base.specs.declared.name.MutexNo.{MutexNo}
use Rattle.fr_base.specs.declared.step.Fresh.{Fresh}
use Rattle.fr_base.specs.declared.step.Fresh.TheVariants as fresh
use Rattle.fr_typing.specs.Kinds.{Owned, mutex, Kind, own, whole}
use Rattle.fr_typing.specs.Places.{Env}
use Rattle.fr_store.specs.Keys.{Key, slot_k, temp_k, content_k}
use Rattle.fr_store.specs.Store.{Location, at_key, at_object, Val, gone_v, box_v, mutex_v, task_v, Store, value_at, Place, swap}
use Rattle.fr_store.specs.Changes.{SameBut}
use Rattle.fr_store.specs.Typed.{Tree, hole, mutex_tree, owns, refers, KeyTypes, Typed, Unnamed}
use Rattle.fr_store.specs.Below.{tree_of, ExactOf}
use Rattle.fr_store.specs.Rows.{with_type}
use Rattle.fr_store.specs.Thread.{ThreadTyped}
use Rattle.fr_store.proofs.Keys.{key_same, key_other, decide_number}
use Rattle.fr_store.proofs.Chains.{decide_location}
use Rattle.fr_store.proofs.Rows.{swap_own, swap_other, swap_at, unnamed_with}
use Rattle.fr_store.proofs.ThreadKept.{exact_owned, known_tree, slots_with}
use Rattle.fr_plain.specs.declared.value.Value.{Value}
use Rattle.fr_plain.specs.declared.value.Value.TheVariants.{Own, Held}
use Rattle.fr_plain.specs.MachineActs.{do_mutex}
use Rattle.fr_plain.specs.State.{slot_at}
use Rattle.fr_plain.specs.MachineThreads.{Now, Move, Life, Thread, Whole as Machine, Mutex, Shared, mutex_at, with_thread, settle_life}
use Rattle.fr_plain.specs.Machine.{Stepped, takes_of, refused_names, made, done_act}
use Rattle.fr_plain.specs.PlainState.{Running, PlainState, place_in, plain_state}
use Rattle.fr_sound.specs.Entries.{Entry, going}
use Rattle.fr_sound.specs.Seen.{Gives, owned_val, seen_cell}
use Rattle.fr_sound.specs.States.{Typing, RunningTyped, content_val, env_at, is_hidden, IsLock, thread_of_key, AreSoMany, IsShare, IsMark, MutexTyped}
use Rattle.law_plain_values.specs.acts.Positions.{Position, Knows, temps_of, PositionTypes, moves_by, StartsAs}
use Rattle.law_plain_values.specs.acts.ActRows.{Pops, Leaves, loud, left_after, ActRow, r_mutex}
use Rattle.law_plain_values.specs.acts.Keeps.{Ready, KeepsNames, StepsTyped}
use Rattle.law_plain_values.proofs.acts.Lower.{seen_as}
use Rattle.law_plain_values.proofs.acts.OneThread.{store, typing_with, touched, CarriedOf, share_back, as_many}
use Rattle.law_plain_values.proofs.acts.Raised.{raised, raised_typing}
use Rattle.law_plain_values.proofs.acts.Turned.{untouched_other}
use Rattle.law_plain_values.proofs.acts.Marks.{mark_back, one_mark_to}
use Rattle.law_plain_values.proofs.acts.Moved.{flip, flip_first, flip_second, flip_third, flip_twice}
use Rattle.law_plain_values.proofs.acts.Focus.{top_some, hand_at, Focus, focus, hole_there}
use Rattle.law_plain_values.proofs.acts.AtHand.{Only, mark_off}
use Rattle.law_plain_values.proofs.acts.Hand.{At, ranked, room, pushed_others, pushed_here, only_put, put_running}
use Rattle.law_plain_values.proofs.acts.Refs.{none_owns}
use Rattle.law_plain_values.proofs.acts.Done.{runs_here, only_here}
use Rattle.law_plain_values.proofs.acts.Operands.{load, hand_value}
use Rattle.law_plain_values.proofs.acts.Rethread.{rethread}
use Rattle.law_plain_values.proofs.acts.Slots.{owned_value}
use Rattle.law_plain_values.proofs.acts.Sums.{Lone, temp_after, keys_same, Base, Sums, turned}
use Rattle.law_plain_threads.specs.mutexes.MutexActs.{IsMake}
use Rattle.law_plain_values.specs.acts.Keeps.{KeepsNamed}
use Rattle.law_plain_values.proofs.acts.Mutexes.{decide_mutex, mutex_is, mutex_cases, made_at, made_off}
use Rattle.law_plain_values.proofs.acts.Flat.{flat_typed}
use Rattle.law_plain_values.proofs.acts.Done.{step_named}
use Rattle.law_plain_threads.proofs.mutexes.Dups.{But}
use Rattle.law_plain_values.proofs.acts.Regiven.{giving, regiven}

-- THE STATE

module _ (y : Typing) (a : PlainState Position) (n : ℕ) (x : Running Position) (e : Env) (us : List Kind) (g k : Owned) (v : Plain) (ws : List Value) (m : MutexNo) (at : At y a n x e (own k ∷ us) g) (fc : Focus y a n e us (Some (own k))) (temps : x.place.temps ≡ Own v ∷ ws) (free : a.is_given m ≡ false) (none : a.mutex m ≡ None) (gives : y.gives.mutex m ≡ k) (a2 : PlainState Position) where
  abbrev h : Key
  h = hand_at n us

  abbrev ck : Key
  ck = content_k m.home m.count

  abbrev T : Tree
  T = tree_of k

  abbrev x2 : Running Position
  x2 = record { place = record { entry = going e (own (mutex k) ∷ us) g; temps = Own (plain.Mutex m) ∷ ws }; slots = x.slots }

  -- its content is in, and it has one share
  abbrev new_one : Shared
  new_one = record { content = Some v; shares = 1 }

  abbrev E1 : KeyTypes
  E1 = with_type (with_type y.exact (content_k m.home m.count) (owns (tree_of k))) (hand_at n us) (owns hole)

  abbrev E2 : KeyTypes
  E2 = with_type (with_type (with_type y.exact (content_k m.home m.count) (owns (tree_of k))) (hand_at n us) (owns hole)) (hand_at n us) (owns (mutex_tree (tree_of k)))

  abbrev s1 : Store
  s1 = store y a

  abbrev sm : Store
  sm = swap s1 (hand_at n us) (at_key ck)

  abbrev s2 : Store
  s2 = store (typing_with y E2 y.marks) a2

  run : RunningTyped Knows temps_of y s1 n (a.pair n) x
  run = at.state.threads n x at.runs

  e_is : run.entry ≡ going e (own k ∷ us) g
  e_is = sym run.known ∙ at.entry

  long : length ws ≡ length us
  long = let i = ap length (sym temps) ∙ run.all_temps ∙ ap (λ (z : Entry). length z.temps) e_is in omega (arith, i)

  was_h : s1.at h ≡ owned_val y.gives v
  was_h = hand_value y a n (length us) x (Own v) ws at.runs temps (sym long)

  was_ck : s1.at ck ≡ gone_v
  was_ck = ap (content_val y.gives) none

  full : y.exact h ≡ owns T
  full = exact_owned (slot_k n) y.exact k (y.exact h) fc.thread.temp

  free_ck : Unnamed y.exact ck
  free_ck j q u is z = let i = at.state.near j q u is in let l : slot_k i.owner i.slot ≡ ck = sym i.is ∙ z in cc

  hole_ck : y.exact ck ≡ owns hole
  hole_ck = hole_there y.rank y.exact s1 ck at.state.typed was_ck

  apart : h ≢ ck
  apart q = cc

  -- nobody has a value of it yet
  unshared : (l : Location) → IsShare s1 m l → ⊥
  unshared l w = let d = at.state.there l m w in let f : true ≡ false = sym (at.state.mutexes m d.0 d.1).given ∙ free in cc

  unmarked : (u i : ℕ) → IsMark a m u i → ⊥
  unmarked u i w = unshared (y.marks u i) (tree_of (y.gives.mutex m), ((at.state.threads u w.thread w.goes_on).marked i m w.mark).leads)

  module _ (lone : Lone a a2 n x2) (objects : (o : ObjNo) → a2.object o ≡ a.object o) (grows : (u : ℕ) → a.made u ≤ a2.made u) (now_there : a2.mutex m ≡ Some new_one) (now_given : a2.is_given m ≡ true) (others : (q : MutexNo) → q ≢ m → a2.mutex q ≡ a.mutex q) (given : (q : MutexNo) → q ≢ m → a2.is_given q ≡ a.is_given q) where
    two : (j : Key) → j ≢ h → j ≢ ck → s2.at j ≡ s1.at j
    two j nh nc =
        keys_same y a a2 n x x2 E2 y.marks at.runs lone (λ u i q. refl) (λ i. (i ≢ h) × (i ≢ ck)) (λ i q. refl)
        (λ i q. ap (seen_as y.gives n gone_v) (pushed_others (Own (plain.Mutex m)) ws i (length us) (sym long) (λ r. q.0 (ap (temp_k n) r)) ∙ sym (pushed_others (Own v) ws i (length us) (sym long) (λ r. q.0 (ap (temp_k n) r))) ∙ ap (λ z. slot_at z i) (sym temps)))
        (λ hm c q. ap (content_val y.gives) (others (record { home = hm; count = c }) (λ r. q.1 (ap (λ (z : MutexNo). content_k z.home z.count) r))))
        j (nh, nc)

    everywhere : (q : Location) → q ≢ at_key h → q ≢ at_key ck → value_at s2 q ≡ value_at s1 q
    everywhere (at_object o) nh nc = ap (seen_cell y.gives) (objects o)
    everywhere (at_key j) nh nc = ap Some (two j (λ z. nh (ap at_key z)) (λ z. nc (ap at_key z)))

    at_ck : s2.at ck ≡ owned_val y.gives v
    at_ck = ap (content_val y.gives) now_there

    at_h : s2.at h ≡ mutex_v m T
    at_h = temp_after y a a2 n x x2 E2 y.marks at.runs lone (λ u i q. refl) (length us) ∙ ap (seen_as y.gives n gone_v) (pushed_here (Own (plain.Mutex m)) ws (length us) (sym long)) ∙ ap (λ q. mutex_v m (tree_of q)) gives

    same_but : SameBut (at_key h) sm s2
    same_but q nh =
        ⊎_elim (λ (z : q ≡ at_key ck). ap (value_at s2) z ∙ ap Some (at_ck ∙ sym was_h) ∙ sym (swap_at s1 h (at_key ck) (λ r. cc)) ∙ ap (value_at sm) (sym z)) (λ (z : q ≢ at_key ck). everywhere q nh z ∙ sym (swap_other s1 h (at_key ck) q nh z)) (decide_location q (at_key ck))

    -- TYPES

    is_two : E2 h ≡ owns (mutex_tree T)
    is_two = key_same h (owns (mutex_tree T)) (E1 h)

    off : (j : Key) → j ≢ h → j ≢ ck → E2 j ≡ y.exact j
    off j nh nc = key_other j h (owns (mutex_tree T)) (E1 j) nh ∙ key_other j h (owns hole) (with_type y.exact ck (owns T) j) nh ∙ key_other j ck (owns T) (y.exact j) nc

    at_content : E2 ck ≡ owns T
    at_content = key_other ck h (owns (mutex_tree T)) (E1 ck) (λ q. cc) ∙ key_other ck h (owns hole) (with_type y.exact ck (owns T) ck) (λ q. cc) ∙ key_same ck (owns T) (y.exact ck)

    refs : (j : Key) (q : Bool) (u : Place) → E2 j ≡ refers q u → y.exact j ≡ refers q u
    refs j q u z = known_tree (slot_k n) h y.exact ck T j q u (known_tree (slot_k n) h (with_type y.exact ck (owns T)) h hole j q u (known_tree (slot_k n) h E1 h (mutex_tree T) j q u z))

    free_h : Unnamed (with_type y.exact ck (owns T)) h
    free_h = unnamed_with y.exact ck T h fc.thread.quiet

    free_one : Unnamed E1 h
    free_one = unnamed_with (with_type y.exact ck (owns T)) h hole h free_h

    typed : Typed y.rank E2 s2
    typed = flat_typed y.rank E1 E2 sm s2 h (mutex_tree T) (swap_own y.rank y.exact s1 h ck 0 T hole hole (at_key ck) at.state.typed fc.thread.quiet apart full free_ck hole_ck refl refl)
        free_one (λ j ne. key_other j h (owns (mutex_tree T)) (E1 j) ne) same_but is_two (m, at_h) (λ i. refl) (λ o q. let r : mutex_v m T ≡ box_v o = sym at_h ∙ q in cc)

    thread : ThreadTyped (slot_k n) y.rank h e E2 s2 (Some (own (mutex k)))
    thread = rethread fc.thread (record {
      typed = typed;
      nested = fc.thread.nested;
      slots = slots_with (slot_k n) E1 h (owns (mutex_tree T)) e free_one (λ i il q. cc) (slots_with (slot_k n) (with_type y.exact ck (owns T)) h (owns hole) e free_h (λ i il q. cc) (slots_with (slot_k n) y.exact ck (owns T) e free_ck (λ i il q. cc) fc.thread.slots));
      above = λ i le. off (slot_k n i) (λ q. cc) (λ q. cc) ∙ fc.thread.above i le;
      temp = subst (ExactOf (slot_k n) E2 (whole (own (mutex k)))) (sym is_two) refl;
      names = tt;
      over = fc.thread.over;
      stood = λ j q u z. inl (refs j q u z);
    })

    held : (u i : ℕ) (q : MutexNo) (z : Running Position) → place_in (a.thread u) ≡ Some z → slot_at z.slots i ≡ Some (Held q) → value_at s2 (y.marks u i) ≡ value_at s1 (y.marks u i)
    held u i q z runs r = everywhere (y.marks u i) (mark_off y a u i q z h at.state runs r fc.thread.quiet) (mark_off y a u i q z ck at.state runs r free_ck)

    base : Base y a a2 n x x2 e e us (own (mutex k) ∷ us) (Some (own (mutex k))) g E2 y.marks
    base = record {
      lone = lone;
      tops = top_some;
      idle = λ q. cc;
      entry = refl;
      temps = ap suc long;
      slots = run.all_slots ∙ ap (λ (z : Entry). length z.env) e_is;
      over = λ i lt j. fc.high i j (omega (arith, lt));
      thread = thread;
      same = λ j q. off j (λ r. untouched_other n j q (ap thread_of_key r)) (λ r. let f : true ≡ false = sym (ap (touched n) r) ∙ q in cc);
      waits = λ i lt. off (temp_k n i) (λ r. let q : i ≡ length us = cc in omega (arith, lt, q)) (λ r. cc);
      named = λ j q u z. inr (j, (λ r. r), refs j q u z);
      still = λ j q u ne z. refs j q u z;
      hidden = λ i. ap (λ (z : Entry). is_hidden (env_at z.env i)) (sym e_is) ∙ run.hidden i;
      locks = λ i q z. let lock = subst (λ (r : Entry). IsLock y s1 r.env n i q) e_is (run.marked i q z) in record { leads = held n i q x at.runs z ∙ lock.leads; unnamed = λ j b u r. lock.unnamed j b u (refs j b u r); content = lock.content };
      marks = λ u i q. refl;
      held = λ u i q z ne runs mark. held u i q z runs mark;
    }

    -- COUNTED VALUES

    there : (l : Location) (w : Val) → But m w → value_at s1 l ≡ Some w → value_at s2 (flip (at_key h) (at_key ck) l) ≡ Some w
    there l w b i = by (decide_location l (at_key h)) (decide_location l (at_key ck))
      where
        by : (l ≡ at_key h) ⊎ (l ≢ at_key h) → (l ≡ at_key ck) ⊎ (l ≢ at_key ck) → value_at s2 (flip (at_key h) (at_key ck) l) ≡ Some w
        by (inl z) nc = ap (λ r. value_at s2 (flip (at_key h) (at_key ck) r)) z ∙ ap (value_at s2) (flip_first (at_key h) (at_key ck)) ∙ ap Some (at_ck ∙ sym was_h) ∙ sym (ap (value_at s1) z) ∙ i
        by (inr nh) (inl z) = let r : Some w ≡ Some gone_v = sym i ∙ ap (value_at s1) z ∙ ap Some was_ck in let o : w ≡ gone_v = cc in absurd (subst (But m) o b)
        by (inr nh) (inr nc) = ap (value_at s2) (flip_third (at_key h) (at_key ck) l nh nc) ∙ everywhere l nh nc ∙ i

    back : (l : Location) (w : Val) → But m w → value_at s2 l ≡ Some w → value_at s1 (flip (at_key h) (at_key ck) l) ≡ Some w
    back l w b i = by (decide_location l (at_key h)) (decide_location l (at_key ck))
      where
        by : (l ≡ at_key h) ⊎ (l ≢ at_key h) → (l ≡ at_key ck) ⊎ (l ≢ at_key ck) → value_at s1 (flip (at_key h) (at_key ck) l) ≡ Some w
        by (inl z) nc = let r : Some w ≡ Some (mutex_v m T) = sym i ∙ ap (value_at s2) z ∙ ap Some at_h in let o : w ≡ mutex_v m T = cc in absurd ((subst (But m) o b) refl)
        by (inr nh) (inl z) = ap (λ r. value_at s1 (flip (at_key h) (at_key ck) r)) z ∙ ap (value_at s1) (flip_second (at_key h) (at_key ck)) ∙ ap Some (was_h ∙ sym at_ck) ∙ sym (ap (value_at s2) z) ∙ i
        by (inr nh) (inr nc) = ap (value_at s1) (flip_third (at_key h) (at_key ck) l nh nc) ∙ sym (everywhere l nh nc) ∙ i

    carried : CarriedOf (But m) s1 s2
    carried = record { to = flip (at_key h) (at_key ck); from = flip (at_key h) (at_key ck); from_to = flip_twice (at_key h) (at_key ck); to_from = flip_twice (at_key h) (at_key ck); there = there; back = back }

    -- the one value of the new mutex is the one at hand
    only_share : (l : Location) → IsShare s2 m l → l ≡ at_key h
    only_share l w = by (decide_location l (at_key h)) (decide_location l (at_key ck))
      where
        by : (l ≡ at_key h) ⊎ (l ≢ at_key h) → (l ≡ at_key ck) ⊎ (l ≢ at_key ck) → l ≡ at_key h
        by (inl z) nc = z
        by (inr nh) (inl z) = absurd (unshared (at_key h) (w.0, ap Some (was_h ∙ sym at_ck) ∙ ap (value_at s2) (sym z) ∙ w.1))
        by (inr nh) (inr nc) = absurd (unshared l (w.0, sym (everywhere l nh nc) ∙ w.1))

    one_share : AreSoMany (IsShare s2 m) 1
    one_share = record { places = at_key h ∷ []; each = each; all = λ l w. (zero, ap Some (sym (only_share l w))); once = once; count = refl }
      where
        each : (i : ℕ) (l : Location) → slice_get (at_key h ∷ []) i ≡ Some l → IsShare s2 m l
        each zero l q = let z : at_key h ≡ l = cc in (T, ap (value_at s2) (sym z) ∙ ap Some at_h)
        each (suc i) l q = cc

        once : (i j : ℕ) (l : Location) → slice_get (at_key h ∷ []) i ≡ Some l → slice_get (at_key h ∷ []) j ≡ Some l → i ≡ j
        once zero zero l q r = refl
        once zero (suc j) l q r = cc
        once (suc i) j l q r = cc

    went_on : (u : ℕ) (r : Running Position) → place_in (a2.thread u) ≡ Some r → (z : Running Position) × (place_in (a.thread u) ≡ Some z)
    went_on u r q = ⊎_elim (λ (i : u ≡ n). (x, ap (λ z. place_in (a.thread z)) i ∙ at.runs)) (λ (ne : u ≢ n). (r, sym (ap place_in (lone.others u ne)) ∙ q)) (decide_number u n)

    mutexes : (q : MutexNo) (r : Shared) → a2.mutex q ≡ Some r → MutexTyped (typing_with y E2 y.marks) a2 s2 q r
    mutexes q r z = ⊎_elim same_one other (decide_mutex q m)
      where
        same_one : q ≡ m → MutexTyped (typing_with y E2 y.marks) a2 s2 q r
        same_one i =
            let f : Some new_one ≡ Some r = sym now_there ∙ ap a2.mutex (sym i) ∙ z in
            let is : new_one ≡ r = cc in
            subst (λ l. MutexTyped (typing_with y E2 y.marks) a2 s2 l r) (sym i) (subst (MutexTyped (typing_with y E2 y.marks) a2 s2 m) is (record {
              given = now_given;
              shares = one_share;
              needed = omega arith;
              out = λ u. absurd cc;
              unheld = λ u l j b w. unmarked j b (mark_back a a2 n x x2 at.runs lone.now lone.others m (λ i q. q) (λ i q. q) j b w);
              content = λ u l. at_content ∙ ap (λ b. owns (tree_of b)) (sym gives);
            }))

        other : q ≢ m → MutexTyped (typing_with y E2 y.marks) a2 s2 q r
        other ne =
            let d = at.state.mutexes q r (sym (others q ne) ∙ z) in
            record {
              given = given q ne ∙ d.given;
              shares = as_many (But m) s1 s2 carried q (λ u. ne) r.shares d.shares;
              needed = d.needed;
              out = λ u. one_mark_to a a2 n x x2 at.runs lone.now lone.others q (λ i b. b) (λ i b. b) (d.out u);
              unheld = λ u l j b w. d.unheld u l j b (mark_back a a2 n x x2 at.runs lone.now lone.others q (λ i b. b) (λ i b. b) j b w);
              content = λ u l. off (content_k q.home q.count) (λ b. cc) (λ b. ne (mutex_is q m b)) ∙ d.content u l;
            }

    sums : Sums y a a2 E2 y.marks
    sums = record {
      there = λ l q w. ⊎_elim (λ (i : q ≡ m). (new_one, ap a2.mutex i ∙ now_there)) (λ (ne : q ≢ m). let d = at.state.there (carried.from l) q (share_back (But m) s1 s2 carried q (λ u. ne) l w) in (d.0, others q ne ∙ d.1)) (decide_mutex q m);
      mutexes = mutexes;
      one_task = λ l r u b c d i. sym (carried.to_from l) ∙ ap carried.to (at.state.one_task (carried.from l) (carried.from r) u b c (carried.back l (task_v u b) tt d) (carried.back r (task_v u c) tt i)) ∙ carried.to_from r;
      task_from = λ l u r d. (carried.from l, carried.back l (task_v u r) tt d);
      task_to = λ l u r d. (carried.to l, r, carried.there l (task_v u r) tt d);
      objects_there = λ l o d. let b = at.state.objects_there (carried.from l) o (carried.back l (box_v o) tt d) in (b.0, objects o ∙ b.1);
      objects_owned = λ o w d. let b = at.state.objects_owned o w (sym (objects o) ∙ d) in (carried.to b.0, carried.there b.0 (box_v o) tt b.1);
      objects_made = λ o w r d runs. let b = went_on o.thread r runs in let i = at.state.objects_made o w b.0 (sym (objects o) ∙ d) b.1 in let u = grows o.thread in omega (arith, i, u);
    }

    pub made_typed : PositionTypes (typing_with y E2 y.marks) a2
    made_typed = turned at fc base sums

-- THE ACT

record MakeRow (x : Entry) (vs : List Value) (v : Value) (l : Leaves) (z : Entry) : Type 0 where
  env : Env
  before : List Kind
  after : List Kind
  left : List Value
  result : Owned
  content : Owned
  pops : Pops before vs v (own content) after left
  entry : x ≡ going env before result
  leaves : l ≡ loud left
  comes : z ≡ going env (own (mutex content) ∷ after) result

make_row : {x z : Entry} {vs : List Value} {v : Value} {l : Leaves} → ActRow StartsAs x vs (do_mutex v) l z → MakeRow x vs v l z
make_row (r_mutex {e = e} {ts = ts} {us = us} {ws = ws} {g = g} {x = x} pops) = record { env = e; before = ts; after = us; left = ws; result = g; content = x; pops = pops; entry = refl; leaves = refl; comes = refl }

-- the name is one of a mutex, and it wasn't given
new_name : (s : Machine Position) (names : Fresh) (v : Value) → refused_names s (takes_of {P = Position} (do_mutex v)) names ≡ None → (m : MutexNo) × (names ≡ fresh.Mutex m) × (mutex_at s.mutexes m ≡ None)
new_name s fresh.None v h = cc
new_name s (fresh.Thread u) v h = cc
new_name s (fresh.Threads u w) v h = cc
new_name s (fresh.Mutex m) v h = (m, refl, by (mutex_at s.mutexes m) h)
  where
    by : (o : Option Mutex) → (if is_some o then Some Rattle.fr_plain.specs.Machine.name_used else None) ≡ None → o ≡ None
    by None e = refl
    by (Some x) e = cc

-- contents' types, with that of the new mutex
abbrev gives_with : Gives → MutexNo → Owned → Gives
gives_with g m k = record { result = g.result; mutex = λ q. if same_mutex q m then k else g.mutex q }

regives_with : (a : PlainState Position) (g : Gives) (m : MutexNo) (k : Owned) → a.is_given m ≡ false → KeepsNames a g (gives_with g m k)
regives_with a g m k free = record {
  mutexes = λ q is. mutex_cases (λ b. (if b then k else g.mutex q) ≡ g.mutex q) q m (λ e. let f : true ≡ false = sym is ∙ ap a.is_given e ∙ free in cc) (λ ne. refl);
  results = λ u l e. refl;
}

gives_new : (g : Gives) (m : MutexNo) (k : Owned) → (gives_with g m k).mutex m ≡ k
gives_new g m k = mutex_cases (λ b. (if b then k else g.mutex m) ≡ k) m m (λ e. refl) (λ ne. absurd (ne refl))

abbrev there_of : Option Mutex → Option Shared
there_of None = None
there_of (Some x) = x.there

module _ (now : Position → Now) (move : Position → Option (Move Position Position)) (y : Typing) (s : Machine Position) (t : Thread Position) (p : Position) (wrap : Position → Life Position) (plug : Value → Position) where
  make_steps : (v : Value) (m : MutexNo) → mutex_at s.mutexes m ≡ None → Ready y s t p wrap (do_mutex v) plug → StepsTyped y (moves_by now move) s t (fresh.Mutex m) (record { act = do_mutex v; plug = λ z. wrap (plug z) })
  make_steps v m none r =
      let i = make_row r.row in
      let x : Running Position = record { place = p; slots = t.slots } in
      let n = t.number in
      let at0 : At y (plain_state s) n x i.env i.before i.result = record { state = r.state; runs = runs_here s t p wrap r.goes_on r.found r.at; entry = i.entry } in
      let l = load y (plain_state s) n x i.env i.result at0 refl i.pops in
      let d = owned_value l (ranked l.typing l.state n l.running i.env (own i.content ∷ i.after) i.after (Some (own i.content)) i.result l.at top_some l.waits) in
      let same = l.only (put_running (plain_state s) n x) x (only_put (plain_state s) n x) in
      let first = only_put (plain_state s) n x in
      let free : l.state.is_given m ≡ false = sym (same.given m) ∙ first.given m ∙ ap is_some none in
      let empty : l.state.mutex m ≡ None = sym (same.mutexes m) ∙ first.mutexes m ∙ ap there_of none in
      let g2 = gives_with l.typing.gives m i.content in
      let y1 = giving g2 l.typing in
      let st1 = regiven g2 l.typing l.state l.at.state (regives_with l.state l.typing.gives m i.content free) in
      let run1 = st1.threads n l.running l.at.runs in
      let high = suc (y1.rank (slot_k n (length i.env))) in
      let y2 = raised_typing high y1 in
      let st2 = raised high y1 l.state st1 in
      let at : At y2 l.state n l.running i.env (own i.content ∷ i.after) i.result = record { state = st2; runs = l.at.runs; entry = l.at.entry } in
      let fc = focus y2 l.state n l.running i.env (own i.content ∷ i.after) i.result st2 l.at.runs l.at.entry (room y1 n i.env (record { differ = run1.keys.differ; off = λ i z. absurd cc; ranks = run1.keys.ranks })) i.after (Some (own i.content)) top_some (λ q. cc) in
      let b = Own (plain.Mutex m) in
      let q : Position = record { entry = going i.env (own (mutex i.content) ∷ i.after) i.result; temps = b ∷ i.left } in
      let new : Mutex = record { number = m; there = Some (record { content = Some d.0; shares = 1 }) } in
      let ms = s.mutexes ++ new ∷ [] in
      let a2 = plain_state (record s { threads = with_thread s.threads (record { number = t.number; life = wrap q; slots = t.slots }); mutexes = ms }) in
      let only0 = only_here s t p wrap r.goes_on r.found r.at q t.slots s.heap s.output (λ u. omega arith) in
      let only = subst (λ w. Only l.state (plain_state (record s { threads = with_thread s.threads (record { number = t.number; life = wrap q; slots = t.slots }) })) n (record { place = q; slots = w })) (sym l.slots) (l.only _ (record { place = q; slots = t.slots }) only0) in
      let here = made_at s.mutexes new none in
      let typed = made_typed y2 l.state n l.running i.env i.after i.result i.content d.0 i.left m at fc (l.temps ∙ ap (λ z. z ∷ i.left) d.1) free empty (gives_new l.typing.gives m i.content) a2
      (record { now = only.now; others = only.others; pairs = only.pairs }) (λ o. sym (l.objects o)) only.made (ap there_of here) (ap is_some here)
      (λ k ne. ap there_of (made_off s.mutexes new k ne) ∙ only.mutexes k) (λ k ne. ap is_some (made_off s.mutexes new k ne) ∙ only.given k) in
      step_named now move s t wrap (fresh.Mutex m) (record { act = do_mutex v; plug = λ u. wrap (plug u) }) plug b q (λ k. record s { threads = with_thread s.threads (record { number = t.number; life = k; slots = t.slots }); mutexes = ms }) [] y _ r.goes_on
      (r.comes b ∙ ap₂ (λ a k. record { entry = a; temps = left_after k b }) i.comes i.leaves)
      (ap (made (moves_by now move) s t (record { act = do_mutex v; plug = λ u. wrap (plug u) }) (fresh.Mutex m)) d.1
      ∙ ap (λ o. if is_some o then None else Some (record { state = record s { threads = with_thread s.threads (record { number = t.number; life = settle_life (moves_by now move) (wrap (plug b)); slots = t.slots }); mutexes = ms }; labels = [] })) none)
      typed
      (subst (λ g. KeepsNames (plain_state s) g g2) l.names (regives_with (plain_state s) l.typing.gives m i.content (ap is_some none)))
      (λ j u e.
      let h = hand_at n i.after in
      let E1 = with_type l.typing.exact (content_k m.home m.count) (owns (tree_of i.content)) in
      l.refs j u (none_owns l.typing.exact (content_k m.home m.count) (tree_of i.content) j u (none_owns E1 h hole j u (none_owns (with_type E1 h (owns hole)) h (mutex_tree (tree_of i.content)) j u e))))

pub make_keeps : KeepsNamed IsMake
make_keeps now move y s t p wrap act plug names h refused r =
    let q = new_name s names h.0 (subst (λ a. refused_names s (takes_of a) names ≡ None) h.1 refused) in
    subst (λ a. StepsTyped y (moves_by now move) s t names (record { act = a; plug = λ z. wrap (plug z) })) (sym h.1)
    (subst (λ z. StepsTyped y (moves_by now move) s t z (record { act = do_mutex h.0; plug = λ u. wrap (plug u) })) (sym q.1) (make_steps now move y s t p wrap plug h.0 q.0 q.2 (subst (λ a. Ready y s t p wrap a plug) h.1 r)))
