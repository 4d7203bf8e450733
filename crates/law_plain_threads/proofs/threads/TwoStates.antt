-- A thread and a new one, in a list of threads, and their captures one by one.
use Rattle.std.proofs.Common.{◌≡◌, ◌≢◌, ◌⊎◌, inl, inr, ⊎_elim, ◌∙◌, ℕ, suc, ◌+◌, ◌<◌, ◌≤◌, true, false, List, [], ◌∷◌, ◌++◌, length, Some, None, refl, sym, ap, subst, arith}
use Rattle.fr_base.specs.declared.label.Plain.{Plain}
use Rattle.fr_base.specs.declared.label.Plain.TheVariants as plain
use Rattle.fr_terms.specs.Terms.{Text}
use Rattle.fr_typing.specs.Kinds.{Owned, task, Kind, own, whole, gone, copies}
use Rattle.fr_typing.specs.Places.{Env, found, type_at, write_blocked, put_at}
use Rattle.fr_store.specs.Keys.{slot_k, temp_k}
use Rattle.fr_store.specs.Below.{tree_of}
use Rattle.fr_store.proofs.Keys.{decide_number}
use Rattle.fr_plain.specs.declared.value.Value.{Value}
use Rattle.fr_plain.specs.declared.value.Value.TheVariants.{Own}
use Rattle.fr_plain.specs.State.{slot_at, with_slot}
use Rattle.fr_plain.specs.MachineThreads.{Life, owing, Thread, Whole, thread_at, with_thread, is_over}
use Rattle.fr_plain.specs.PlainState.{Running, PlainState, place_in, running, running_in, is_over_in, plain_state}
use Rattle.fr_plain.proofs.ByName.{or_else}
use Rattle.law_plain_threads.proofs.threads.Added.{thread_first, thread_skip, or_none, more_here, more_off}
use Rattle.fr_sound.specs.Entries.{going}
use Rattle.fr_sound.specs.States.{Typing}
use Rattle.law_plain_values.specs.acts.Positions.{Position, PositionTypes}
use Rattle.law_plain_values.specs.acts.Keeps.{GoesOn, is_main, is_owed, is_loose}
use Rattle.law_plain_values.proofs.acts.OneThread.{with_running}
use Rattle.law_plain_values.proofs.acts.Refs.{NoneNew, none_owns}
use Rattle.law_plain_values.proofs.acts.Raised.{raised, raised_typing}
use Rattle.law_plain_values.proofs.acts.Focus.{top_none, top_some, Focus, focus}
use Rattle.law_plain_values.proofs.acts.Hand.{At}
use Rattle.law_plain_values.proofs.acts.Threads.{objects_counted, pairs_by}
use Rattle.law_plain_threads.proofs.threads.Captured.{awake_giver, awake_free, given_typed}
use Rattle.law_plain_threads.proofs.threads.Given.{Giver, new_many}
use Rattle.law_plain_threads.proofs.threads.GivenCopy.{copy_given}
use Rattle.law_plain_threads.proofs.threads.GivenMove.{move_given, move_refs}
use Rattle.law_plain_threads.proofs.threads.GivenValues.{owned_there, owned_copies}
use Rattle.law_plain_threads.proofs.threads.Passed.{Passes}
use Rattle.law_plain_values.proofs.acts.Hand.{pushed_others}
use Rattle.law_plain_values.proofs.acts.Written.{slot_unwritten}
use Rattle.fr_store.proofs.ThreadKept.{known_tree}

-- STATES

-- a life that goes on at a position
pub goes_place : (wrap : Position → Life Position) → GoesOn wrap → (sl : List Value) (q : Position) → place_in (Some (running sl (wrap q))) ≡ Some (record { place = q; slots = sl })
goes_place _ is_main sl q = refl
goes_place _ is_owed sl q = refl
goes_place _ is_loose sl q = refl

pub goes_with : (wrap : Position → Life Position) → GoesOn wrap → (sl sl2 : List Value) (q q2 : Position) → Some (running sl2 (wrap q2)) ≡ with_running (Some (running sl (wrap q))) (record { place = q2; slots = sl2 })
goes_with _ is_main sl sl2 q q2 = refl
goes_with _ is_owed sl sl2 q q2 = refl
goes_with _ is_loose sl sl2 q q2 = refl

pub not_over : (wrap : Position → Life Position) → GoesOn wrap → (q : Position) → is_over (wrap q) ≡ false
not_over _ is_main q = refl
not_over _ is_owed q = refl
not_over _ is_loose q = refl

module _ (s : Whole Position) (t : Thread Position) (wrap : Position → Life Position) (goes : GoesOn wrap) (stands : thread_at s.threads t.number ≡ Some t) (u : ℕ) (none : thread_at s.threads u ≡ None) (ts : List Kind) (g k : Owned) (temps : List Value) where
  -- the thread with the task at hand, and the new thread
  abbrev pub parent_at : Env → Position
  parent_at e = record { entry = going e (own (task k) ∷ ts) g; temps = Own (plain.Task u) ∷ temps }

  abbrev pub child_at : Env → Position
  child_at n = record { entry = going n [] k; temps = [] }

  abbrev pub two_state : Env → List Value → Env → List Value → Whole Position
  two_state e sl n new = record s { threads = with_thread s.threads (record { number = t.number; life = wrap (parent_at e); slots = sl }) ++ record { number = u; life = owing (child_at n); slots = new } ∷ [] }

  pub apart : u ≢ t.number
  apart q = let f : None ≡ Some t = sym none ∙ ap (thread_at s.threads) q ∙ stands in cc

  module _ (e : Env) (sl : List Value) (n : Env) (new : List Value) where
    abbrev un : Thread Position
    un = record { number = u; life = owing (child_at n); slots = new }

    abbrev tn : Thread Position
    tn = record { number = t.number; life = wrap (parent_at e); slots = sl }

    pub here : thread_at (two_state e sl n new).threads t.number ≡ Some (record { number = t.number; life = wrap (parent_at e); slots = sl })
    here = more_here s.threads (un ∷ []) t.number t tn refl stands

    pub there : thread_at (two_state e sl n new).threads u ≡ Some (record { number = u; life = owing (child_at n); slots = new })
    there = more_off s.threads (un ∷ []) t.number t tn refl stands u apart ∙ ap (λ o. or_else o (thread_at (un ∷ []) u)) none ∙ thread_first un [] u refl

    pub beyond : (w : ℕ) → w ≢ t.number → w ≢ u → thread_at (two_state e sl n new).threads w ≡ thread_at s.threads w
    beyond w nt nu = more_off s.threads (un ∷ []) t.number t tn refl stands w nt ∙ ap (or_else (thread_at s.threads w)) (thread_skip un [] w (λ q. nu (sym q))) ∙ or_none (thread_at s.threads w)

    pub parent_runs : place_in ((plain_state (two_state e sl n new)).thread t.number) ≡ Some (record { place = parent_at e; slots = sl })
    parent_runs = ap (λ o. place_in (running_in o)) here ∙ goes_place wrap goes sl (parent_at e)

    pub child_runs : place_in ((plain_state (two_state e sl n new)).thread u) ≡ Some (record { place = child_at n; slots = new })
    child_runs = ap (λ o. place_in (running_in o)) there

    -- who is over is who was
    pub over_same : is_over t.life ≡ false → (w : ℕ) → is_over_in (thread_at (two_state e sl n new).threads w) ≡ is_over_in (thread_at s.threads w)
    over_same f w =
        ⊎_elim (λ (q : w ≡ t.number). subst (λ b. is_over_in (thread_at (two_state e sl n new).threads b) ≡ is_over_in (thread_at s.threads b)) (sym q) (ap is_over_in here ∙ not_over wrap goes (parent_at e) ∙ sym f ∙ sym (ap is_over_in stands)))
        (λ (nt : w ≢ t.number). ⊎_elim (λ (q : w ≡ u). subst (λ b. is_over_in (thread_at (two_state e sl n new).threads b) ≡ is_over_in (thread_at s.threads b)) (sym q) (ap is_over_in there ∙ sym (ap is_over_in none)))
        (λ (nu : w ≢ u). ap is_over_in (beyond w nt nu)) (decide_number w u)) (decide_number w t.number)

  -- A CAPTURE

  -- from one such state to another
  module _ (still : is_over t.life ≡ false) (e e2 : Env) (sl sl2 : List Value) (n n2 : Env) (new new2 : List Value) where
    pub parent_now : (plain_state (two_state e2 sl2 n2 new2)).thread t.number ≡ with_running ((plain_state (two_state e sl n new)).thread t.number) (record { place = parent_at e2; slots = sl2 })
    parent_now = ap running_in (here e2 sl2 n2 new2) ∙ goes_with wrap goes sl sl2 (parent_at e) (parent_at e2) ∙ ap (λ o. with_running (running_in o) (record { place = parent_at e2; slots = sl2 })) (sym (here e sl n new))

    pub child_now : (plain_state (two_state e2 sl2 n2 new2)).thread u ≡ with_running ((plain_state (two_state e sl n new)).thread u) (record { place = child_at n2; slots = new2 })
    child_now = ap running_in (there e2 sl2 n2 new2) ∙ ap (λ o. with_running (running_in o) (record { place = child_at n2; slots = new2 })) (sym (there e sl n new))

    pub beyond_now : (w : ℕ) → w ≢ t.number → w ≢ u → (plain_state (two_state e2 sl2 n2 new2)).thread w ≡ (plain_state (two_state e sl n new)).thread w
    beyond_now w nt nu = ap running_in (beyond e2 sl2 n2 new2 w nt nu ∙ sym (beyond e sl n new w nt nu))

    pub pairs_now : (w : ℕ) → (plain_state (two_state e2 sl2 n2 new2)).pair w ≡ (plain_state (two_state e sl n new)).pair w
    pairs_now = pairs_by (two_state e sl n new) (two_state e2 sl2 n2 new2) refl (λ w. over_same e2 sl2 n2 new2 still w ∙ sym (over_same e sl n new still w))

  module _ (still : is_over t.life ≡ false) (y : Typing) (e : Env) (sl : List Value) (n : Env) (new : List Value) (st : PositionTypes y (plain_state (two_state e sl n new))) where
    abbrev a : PlainState Position
    a = plain_state (two_state e sl n new)

    abbrev x : Running Position
    x = record { place = parent_at e; slots = sl }

    abbrev xu : Running Position
    xu = record { place = child_at n; slots = new }

    abbrev high : ℕ
    high = suc (y.rank (slot_k t.number (length e)) + y.rank (slot_k u (length n)))

    abbrev y2 : Typing
    y2 = raised_typing high y

    state : PositionTypes y2 a
    state = raised high y a st

    at : At y2 a t.number x e (own (task k) ∷ ts) g
    at = record { state = state; runs = parent_runs e sl n new; entry = refl }

    atu : At y2 a u xu n [] k
    atu = record { state = state; runs = child_runs e sl n new; entry = refl }

    -- slots rank below temporary values
    slots_rise : (z m : ℕ) → ((i j : ℕ) → i < j → y.rank (slot_k z i) < y.rank (slot_k z j)) → (i : ℕ) → i ≤ m → y.rank (slot_k z i) ≤ y.rank (slot_k z m)
    slots_rise z m rises i le = by (decide_number i m)
      where
        by : (i ≡ m) ⊎ (i ≢ m) → y.rank (slot_k z i) ≤ y.rank (slot_k z m)
        by (inl q) = let f = ap (λ b. y.rank (slot_k z b)) q in omega (arith, f)
        by (inr ne) = let f = rises i m (omega (arith, le, ne)) in omega (arith, f)

    low : (i c : ℕ) → i ≤ length e → y2.rank (slot_k t.number i) < y2.rank (temp_k t.number c)
    low i c le = let f = slots_rise t.number (length e) ((st.threads t.number x (parent_runs e sl n new)).keys.ranks) i le in omega (arith, f)

    low_new : (i c : ℕ) → i ≤ length n → y2.rank (slot_k u i) < y2.rank (temp_k u c)
    low_new i c le = let f = slots_rise u (length n) ((st.threads u xu (child_runs e sl n new)).keys.ranks) i le in omega (arith, f)

    fc : Focus y2 a t.number e ts (Some (own (task k)))
    fc = focus y2 a t.number x e (own (task k) ∷ ts) g state (parent_runs e sl n new) refl low ts (Some (own (task k))) top_some (λ q. cc)

    fcu : Focus y2 a u n [] None
    fcu = focus y2 a u xu n [] k state (child_runs e sl n new) refl low_new [] None top_none (λ q. refl)

    giver : Giver y2 a t.number u x xu e n k
    giver = awake_giver at fc atu fcu apart

    passing : (name : Text) (i : ℕ) (o : Owned) (v : Plain) (e2 : Env) (sl2 : List Value) → ((b : ℕ) → b ≢ i → slot_at sl2 b ≡ slot_at sl b)
        → Passes a (plain_state (two_state e2 sl2 (record { name = Some name; part = whole (own o) } ∷ n) (Own v ∷ new))) t.number u x (record { place = parent_at e2; slots = sl2 }) xu (record { place = child_at (record { name = Some name; part = whole (own o) } ∷ n); slots = Own v ∷ new }) i (length n)
    passing name i o v e2 sl2 same =
        let n2 = record { name = Some name; part = whole (own o) } ∷ n in
        let new2 = Own v ∷ new in
        record {
          runs = parent_runs e sl n new;
          runs_new = child_runs e sl n new;
          now = parent_now still e e2 sl sl2 n n2 new new2;
          now_new = child_now still e e2 sl sl2 n n2 new new2;
          others = beyond_now still e e2 sl sl2 n n2 new new2;
          pairs = pairs_now still e e2 sl sl2 n n2 new new2;
          mutexes = λ m. refl;
          given = λ m. refl;
          objects = λ q. refl;
          made = objects_counted (two_state e2 sl2 n2 new2);
          temps = refl;
          temps_new = refl;
          slots = same;
          slots_new = λ b ne. pushed_others (Own v) new b (length n) (sym (new_many giver)) ne;
        }

    -- the value of an owned variable
    pub value_is : (i : ℕ) (o : Owned) → i < length e → type_at e (record { slot = i; depth = 0 }) ≡ found (whole (own o)) → (v : Plain) × (slot_at sl i ≡ Some (Own v))
    value_is i o lt type = owned_there giver i lt o type

    -- it moves
    pub take_typed : (name : Text) (i : ℕ) (o : Owned) (v : Plain) → i < length e → type_at e (record { slot = i; depth = 0 }) ≡ found (whole (own o)) → slot_at sl i ≡ Some (Own v) → write_blocked e i ≡ false
        → (z : Typing) × PositionTypes z (plain_state (two_state (put_at e (record { slot = i; depth = 0 }) (gone (own o))) (with_slot sl i (Own plain.Nothing)) (record { name = Some name; part = whole (own o) } ∷ n) (Own v ∷ new))) × (z.gives ≡ y.gives) × NoneNew y.exact z.exact
    take_typed name i o v lt type is free =
        let step = passing name i o v (put_at e (record { slot = i; depth = 0 }) (gone (own o))) (with_slot sl i (Own plain.Nothing)) (λ b ne. slot_unwritten sl i b (Own plain.Nothing) ne) in
        let open_to = awake_free at fc i free in
        (_, given_typed at fc giver step (move_given giver name i o v type open_to is step refl refl) (move_refs giver name i o v type open_to is step refl refl), refl, λ j b e. move_refs giver name i o v type open_to is step refl refl j true b e)

    -- or it is copied
    pub copy_typed : (name : Text) (i : ℕ) (o : Owned) (v : Plain) → i < length e → type_at e (record { slot = i; depth = 0 }) ≡ found (whole (own o)) → slot_at sl i ≡ Some (Own v) → copies (own o) ≡ true
        → (z : Typing) × PositionTypes z (plain_state (two_state e sl (record { name = Some name; part = whole (own o) } ∷ n) (Own v ∷ new))) × (z.gives ≡ y.gives) × NoneNew y.exact z.exact
    copy_typed name i o v lt type is copied =
        let step = passing name i o v e sl (λ b ne. refl) in
        (_, given_typed at fc giver step (copy_given giver name (owned_copies giver i lt o type copied v is) step refl refl) (λ j b z r. known_tree (slot_k u) (slot_k u 0) y2.exact (slot_k u (length n)) (tree_of o) j b z r), refl, none_owns y.exact (slot_k u (length n)) (tree_of o))
