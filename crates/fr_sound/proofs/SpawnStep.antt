-- The start of a thread keeps a state typed.
use Rattle.std.specs.Prelude.{◌⊎◌, is_some, ◌==◌, if◌then◌else◌}
use Rattle.std.proofs.Common.{◌≡◌, ◌≢◌, inl, inr, ℕ, ◌+◌, Bool, true, false, List, [], ◌∷◌, ◌++◌, length, Option, Some, None, refl, sym, ap, ◌∙◌, subst, arith, add-zero}
use Rattle.fr_plain.specs.Below.fr_base.declared.label.Plain.TheVariants as plain
use Rattle.fr_plain.specs.Below.fr_base.declared.label.Label.TheVariants as label
use Rattle.fr_plain.specs.Below.fr_base.declared.step.Fresh.TheVariants as fresh
use Rattle.fr_plain.specs.Below.fr_typing.Kinds.{Owned, task, Kind, own, gone}
use Rattle.fr_plain.specs.Below.fr_typing.Places.{Env}
use Rattle.fr_plain.proofs.Below.fr_typing.PlaceLemmas.{eq_cases}
use Rattle.fr_store.specs.Keys.{Key, slot_k, temp_k, content_k, result_k, hand_k}
use Rattle.fr_store.specs.Store.{Alike, Val, gone_v, task_v, at_key, at_object, Store, Place, put_value}
use Rattle.fr_store.specs.ListState.{Objects, slot_value, key_value, store_beside}
use Rattle.fr_store.specs.Typed.{Tree, hole, owns, refers, Unnamed}
use Rattle.fr_store.specs.Below.{tree_of}
use Rattle.fr_store.specs.Local.{thread_of}
use Rattle.fr_store.specs.Thread.{ThreadTyped, After}
use Rattle.fr_store.proofs.Keys.{decide_number}
use Rattle.fr_store.proofs.ListPlaces.{gone_is_hole}
use Rattle.fr_store.proofs.ListState.{list_put_hand}
use Rattle.fr_store.proofs.OtherThreads.{alike_row, new_thread_row}
use Rattle.fr_store.proofs.ThreadKept.{no_temp}
use Rattle.fr_store.proofs.ValueRows.{task_row}
use Rattle.fr_plain.specs.declared.value.Value.{Value}
use Rattle.fr_plain.specs.declared.value.Value.TheVariants.{Own}
use Rattle.fr_plain.specs.State.{State}
use Rattle.fr_plain.specs.Acts.{do_spawn}
use Rattle.fr_plain.specs.Run.{Capture, Run, settle, Move, Life, owing, settle_life, life_move}
use Rattle.fr_plain.specs.Threads.{pass, result_of_life}
use Rattle.fr_plain.specs.Whole.{Thread, Whole, thread_at, with_thread, is_given, state_of, started_with, moved, step_of}
use Rattle.fr_store.proofs.PutAt.{length_put}
use Rattle.fr_sound.specs.RunTypes.{threads, variable, RunCaptures, c_none, c_copy, c_move, RunTypes, held}
use Rattle.fr_sound.specs.Seen.{Gives, Beside, lone, val_of, vals, hand_of, heap_of, seen, rank_of, IsKnown, AreKnown, HasNone, IsBeside, Holds}
use Rattle.fr_sound.specs.Together.{slot_in, hand_in, result_val, value_of_key, seen_all, owed_by, owed_in, IsRunning, IsTypedIn, AreTyped, StepsOn}
use Rattle.fr_sound.proofs.Known.{known_new, known_alike}
use Rattle.fr_sound.proofs.DoneTerms.{quiet}
use Rattle.fr_sound.proofs.Settling.{settle_types, settle_holds}
use Rattle.fr_sound.proofs.Hand.{keys_of, beside_after}
use Rattle.fr_sound.proofs.ActsHold.{raised_store, raised_thread}
use Rattle.fr_sound.proofs.Redex.{IntAtHand, Becomes}
use Rattle.fr_sound.proofs.Focus.{with_same, with_other, beside_of, other_thread}
use Rattle.fr_sound.proofs.Unfocus.{Base, after_thread, other_typed, known_owed}
use Rattle.fr_sound.proofs.Release.{unnamed_hand}
use Rattle.fr_sound.proofs.OwnStep.{Wraps, becomes_typed}
use Rattle.fr_sound.proofs.Passing.{pair, Pair, Goes, passes}

-- LISTS OF THREADS

-- a thread that is there is found before a new one
found_before : (ts : List Thread) (c : Thread) (q : ℕ) (x : Thread) → thread_at ts q ≡ Some x → thread_at (ts ++ c ∷ []) q ≡ Some x
found_before [] c q x e = cc
found_before (y ∷ ys) c q x e = eq_cases (λ b. (if b then Some y else thread_at ys q) ≡ Some x → (if b then Some y else thread_at (ys ++ c ∷ []) q) ≡ Some x) y.number q (λ _ f. f) (λ _ f. found_before ys c q x f) e

-- a new one is found where no other has its number
found_new : (ts : List Thread) (c : Thread) → thread_at ts c.number ≡ None → thread_at (ts ++ c ∷ []) c.number ≡ Some c
found_new [] c e = eq_cases (λ b. (if b then Some c else None) ≡ Some c) c.number c.number (λ _. refl) (λ ne. absurd (ne refl))
found_new (y ∷ ys) c e = eq_cases (λ b. (if b then Some y else thread_at ys c.number) ≡ None → (if b then Some y else thread_at (ys ++ c ∷ []) c.number) ≡ Some c) y.number c.number (λ _ f. cc) (λ _ f. found_new ys c f) e

-- a new one changes nothing for other numbers
found_other : (ts : List Thread) (c : Thread) (q : ℕ) → q ≢ c.number → thread_at (ts ++ c ∷ []) q ≡ thread_at ts q
found_other [] c q ne = eq_cases (λ b. (if b then Some c else None) ≡ None) c.number q (λ e. absurd (ne (sym e))) (λ _. refl)
found_other (y ∷ ys) c q ne = ap (λ z. if y.number == q then Some y else z) (found_other ys c q ne)

-- of two replacements the second one counts
with_twice : (ts : List Thread) (x a new c : Thread) → a.number ≡ new.number → thread_at ts new.number ≡ Some x → with_thread (with_thread ts a ++ c ∷ []) new ≡ with_thread ts new ++ c ∷ []
with_twice [] x a new c same e = cc
with_twice (y ∷ ys) x a new c same e =
    subst (λ n. with_thread ((if y.number == n then a ∷ ys else y ∷ with_thread ys a) ++ c ∷ []) new ≡ (if y.number == new.number then new ∷ ys else y ∷ with_thread ys new) ++ c ∷ []) (sym same)
    (eq_cases (λ b. (if b then Some y else thread_at ys new.number) ≡ Some x → with_thread ((if b then a ∷ ys else y ∷ with_thread ys a) ++ c ∷ []) new ≡ (if b then new ∷ ys else y ∷ with_thread ys new) ++ c ∷ []) y.number new.number
    (λ _ f. eq_cases (λ b. (if b then new ∷ (ys ++ c ∷ []) else a ∷ with_thread (ys ++ c ∷ []) new) ≡ new ∷ (ys ++ c ∷ [])) a.number new.number (λ _. refl) (λ ne. absurd (ne same)))
    (λ ne f. eq_cases (λ b. (if b then new ∷ (with_thread ys a ++ c ∷ []) else y ∷ with_thread (with_thread ys a ++ c ∷ []) new) ≡ y ∷ (with_thread ys new ++ c ∷ [])) y.number new.number (λ g. absurd (ne g)) (λ _. ap (λ z. y ∷ z) (with_twice ys x a new c same f))) e)

-- captures add a slot each to the new environment, and none to the old one
lengths : {e n e2 n2 : Env} {cs : List Capture} → RunCaptures e n cs e2 n2 → (length e2 ≡ length e) × (length n2 ≡ length n + length cs)
lengths c_none = (refl, sym (add-zero _))
lengths (c_copy name c r) = let l = lengths r in let a = l.1 in (l.0, omega (arith, a))
lengths (c_move {e = e} {i = i} {x = x} name m r) = let l = lengths r in let a = l.1 in (l.0 ∙ ap length m.after ∙ length_put e (variable i) (gone (own x)), omega (arith, a))

-- THE START

-- thread x starts thread u with these captures and this term, whose result has the type that is given for u
module _ {s : Whole} (y : AreTyped s) (x : Thread) (found : thread_at s.threads x.number ≡ Some x) (none : result_of_life x.life ≡ None) (e e2 n : Env) (o : Owned) (cs : List Capture) (body : Run)
    (z : Holds (beside_of y.gives y.types s.threads) e None None (state_of s x)) (u : ℕ) (new : thread_at s.threads u ≡ None) (gives : y.gives.result u ≡ o) (captures : RunCaptures e [] cs e2 n) (body_types : RunTypes threads n None body (own o) []) where
  abbrev g : Gives
  g = y.gives

  abbrev t : ℕ
  t = x.number

  abbrev rest : Key → Val
  rest = value_of_key y.gives s.threads

  abbrev objects : Objects
  objects = heap_of y.gives s.heap

  apart : x.number ≢ u
  apart f = let q : None ≡ Some x = sym new ∙ ap (thread_at s.threads) (sym f) ∙ found in cc

  abbrev high : ℕ
  high = z.high + (length cs + 1)

  abbrev P : Val → Type 0
  P = IsKnown (owed_in s.threads) s.heap

  abbrev store : List Value → List Value → Store
  store = pair y.gives rest x.number u apart (owed_in s.threads) s.heap objects y.types high

  -- before the captures
  start_alike : Alike (seen (beside_of y.gives y.types s.threads) (state_of s x) None) (store x.slots [])
  start_alike (at_object q) = refl
  start_alike (at_key (slot_k q i)) =
      ap Some (ap (λ v. if q == x.number then slot_value (vals y.gives x.number x.slots) i else v) (eq_cases (λ b. (if b then gone_v else rest (slot_k q i)) ≡ rest (slot_k q i)) q u (λ f. sym (ap (λ v. slot_in y.gives q v i) (ap (thread_at s.threads) f ∙ new))) (λ _. refl)))
  start_alike (at_key (temp_k q i)) = refl
  start_alike (at_key (content_k q i)) = refl
  start_alike (at_key (result_k q)) = refl
  start_alike (at_key (hand_k q)) =
      ap Some (ap (λ v. if q == x.number then gone_v else v) (eq_cases (λ b. (if b then gone_v else rest (hand_k q)) ≡ rest (hand_k q)) q u (λ f. sym (ap (hand_in y.gives q) (ap (thread_at s.threads) f ∙ new))) (λ _. refl)))

  parent0 : ThreadTyped (slot_k x.number) (rank_of high) (hand_k x.number) e z.types (store x.slots []) None
  parent0 = (alike_row (slot_k x.number) (rank_of high) (hand_k x.number) e z.types (seen (beside_of y.gives y.types s.threads) (state_of s x) None) (store x.slots []) None start_alike).0 (raised_thread x.number z.high high (omega arith) z.beside.own z.thread)

  -- keys of thread u are free
  free_slot : (i : ℕ) → z.types (slot_k u i) ≡ owns hole
  free_slot i = z.beside.others (slot_k u i) (λ f. apart (sym (some_number f))) ∙ gone_is_hole (rank_of y.high) y.types (seen_all y.gives s) (slot_k u i) y.typed (ap (λ v. slot_in y.gives u v i) new)
    where
      some_number : {a b : ℕ} → Some a ≡ Some b → a ≡ b
      some_number f = cc

  free_hand : z.types (hand_k u) ≡ owns hole
  free_hand = z.beside.others (hand_k u) (λ f. apart (sym (some_number f))) ∙ gone_is_hole (rank_of y.high) y.types (seen_all y.gives s) (hand_k u) y.typed (ap (hand_in y.gives u) new)
    where
      some_number : {a b : ℕ} → Some a ≡ Some b → a ≡ b
      some_number f = cc

  -- a key of thread u refers to nothing
  refers_not : (k : Key) (m : Bool) (w : Place) → thread_of k ≡ Some u → z.types k ≡ refers m w → ⊥
  refers_not (slot_k q i) m w f is = let same : q ≡ u = cc in no_temp z.types (slot_k q i) m w (ap (λ a. z.types (slot_k a i)) same ∙ free_slot i) is
  refers_not (temp_k q i) m w f is = cc
  refers_not (content_k q i) m w f is = cc
  refers_not (result_k q) m w f is = cc
  refers_not (hand_k q) m w f is = let same : q ≡ u = cc in no_temp z.types (hand_k q) m w (ap (λ a. z.types (hand_k a)) same ∙ free_hand) is

  unnamed_slot : (i : ℕ) → Unnamed z.types (slot_k u i)
  unnamed_slot i k m w is f = let p = z.beside.own k m w is in refers_not k m w (p.of ∙ ap Some (second (sym p.is ∙ f))) is
    where
      second : {a b c d : ℕ} → slot_k a b ≡ slot_k c d → a ≡ c
      second h = cc

  child0 : ThreadTyped (slot_k u) (rank_of high) (hand_k u) [] z.types (store x.slots []) None
  child0 = new_thread_row (slot_k u) (rank_of high) (hand_k u) z.types (store x.slots []) parent0.typed free_slot unnamed_slot free_hand (unnamed_hand u z.beside.own)

  pair0 : Pair y.gives rest x.number u apart (owed_in s.threads) s.heap objects y.types high e [] x.slots []
  pair0 = record {
    types = z.types;
    parent = parent0;
    child = child0;
    local = z.beside.own;
    kept = λ k nt nu. z.beside.others k nt;
    known = known_alike P tt (seen (beside_of y.gives y.types s.threads) (state_of s x) None) (store x.slots []) z.known start_alike;
    long = z.slots;
    long2 = refl;
  }

  -- after them
  over_there : Goes y.gives rest x.number u apart (owed_in s.threads) s.heap objects y.types high e2 n cs x.slots []
  over_there = passes y.gives rest x.number u apart (owed_in s.threads) s.heap objects y.types high captures pair0 (omega arith)

  abbrev left : List Value
  left = over_there.passed.left

  abbrev slots_u : List Value
  slots_u = over_there.passed.new

  abbrev p : Pair y.gives rest x.number u apart (owed_in s.threads) s.heap objects y.types high e2 n over_there.passed.left over_there.passed.new
  p = over_there.typed

  abbrev tree : Tree
  tree = tree_of o

  abbrev rest_t : Key → Val
  rest_t = key_value rest u (vals y.gives u over_there.passed.new) gone_v

  abbrev s2 : Store
  s2 = store_beside rest_t x.number (vals y.gives x.number over_there.passed.left) (task_v u tree) objects

  -- the task comes to hand
  tasked : After (slot_k x.number) (rank_of high) (hand_k x.number) over_there.typed.types e2 (put_value (store over_there.passed.left over_there.passed.new) (at_key (hand_k x.number)) (task_v u tree)) (Some (own (task o)))
  tasked = task_row (slot_k x.number) (rank_of high) (hand_k x.number) e2 over_there.typed.types (store over_there.passed.left over_there.passed.new) o u (keys_of x.number high) over_there.typed.parent

  put_alike : Alike (put_value (store over_there.passed.left over_there.passed.new) (at_key (hand_k x.number)) (task_v u tree)) s2
  put_alike = list_put_hand rest_t x.number (vals y.gives x.number over_there.passed.left) gone_v objects (task_v u tree)

  parent2 : ThreadTyped (slot_k x.number) (rank_of high) (hand_k x.number) e2 tasked.env s2 (Some (own (task o)))
  parent2 = (alike_row (slot_k x.number) (rank_of high) (hand_k x.number) e2 tasked.env (put_value (store over_there.passed.left over_there.passed.new) (at_key (hand_k x.number)) (task_v u tree)) s2 (Some (own (task o))) put_alike).0 tasked.thread

  near : IsBeside (record lone { types = over_there.typed.types }) x.number tasked.env
  near = beside_after x.number (record { others = λ k ne. refl; own = over_there.typed.local }) tasked

  child2 : ThreadTyped (slot_k u) (rank_of high) (hand_k u) n tasked.env s2 None
  child2 = other_thread u high tasked.env s2 over_there.typed.local near.own (λ k f. near.others k (λ h. apart (sym (some_number (sym f ∙ h))))) parent2.typed over_there.typed.child
    where
      some_number : {a b : ℕ} → Some a ≡ Some b → a ≡ b
      some_number f = cc

  abbrev child : Thread
  child = record { number = u; life = owing (settle body); slots = over_there.passed.new }

  abbrev x1 : Thread
  x1 = after_thread x x.life over_there.passed.left

  abbrev ts : List Thread
  ts = with_thread s.threads x1 ++ child ∷ []

  found_x : thread_at ts x.number ≡ Some x1
  found_x = found_before (with_thread s.threads x1) child x.number x1 (with_same s.threads x x1 found)

  new_left : thread_at (with_thread s.threads x1) u ≡ None
  new_left = with_other s.threads x1 u (λ f. apart (sym f)) ∙ new

  found_u : thread_at ts u ≡ Some child
  found_u = found_new (with_thread s.threads x1) child new_left

  found_rest : (q : ℕ) → q ≢ x.number → q ≢ u → thread_at ts q ≡ thread_at s.threads q
  found_rest q nt nu = found_other (with_thread s.threads x1) child q nu ∙ with_other s.threads x1 q nt

  abbrev b1 : Beside
  b1 = beside_of y.gives tasked.env ts

  abbrev st1 : State
  st1 = record { thread = x.number; slots = over_there.passed.left; heap = s.heap }

  quiet_body : held (settle body) ≡ None
  quiet_body = settle_holds body body_types ∙ quiet body body_types

  -- the value of the task
  task_value : val_of y.gives x.number (Own (plain.Task u)) ≡ task_v u tree
  task_value = ap (λ q. task_v u (tree_of q)) gives

  -- what all see
  all_alike : Alike s2 (seen b1 st1 (Some (Own (plain.Task u))))
  all_alike (at_object q) = refl
  all_alike (at_key (slot_k q i)) =
      ap Some (eq_cases (λ b. (if b then slot_value (vals y.gives x.number over_there.passed.left) i else slot_in y.gives q (thread_at ts q) i) ≡ (if b then slot_value (vals y.gives x.number over_there.passed.left) i else rest_t (slot_k q i))) q x.number (λ _. refl)
      (λ nt. eq_cases (λ b. slot_in y.gives q (thread_at ts q) i ≡ (if b then slot_value (vals y.gives u over_there.passed.new) i else rest (slot_k q i))) q u
      (λ f. ap (λ a. slot_in y.gives a (thread_at ts a) i) f ∙ ap (λ v. slot_in y.gives u v i) found_u) (λ nu. ap (λ v. slot_in y.gives q v i) (found_rest q nt nu))))
  all_alike (at_key (temp_k q i)) = refl
  all_alike (at_key (content_k q i)) = refl
  all_alike (at_key (result_k q)) = ap Some (by (decide_number q x.number) (decide_number q u))
    where
      by : (q ≡ x.number) ⊎ (q ≢ x.number) → (q ≡ u) ⊎ (q ≢ u) → result_val y.gives q (thread_at ts q) ≡ result_val y.gives q (thread_at s.threads q)
      by (inl f) h = ap (λ a. result_val y.gives a (thread_at ts a)) f ∙ ap (result_val y.gives x.number) found_x ∙ sym (ap (λ a. result_val y.gives a (thread_at s.threads a)) f ∙ ap (result_val y.gives x.number) found)
      by (inr nt) (inl f) = ap (λ a. result_val y.gives a (thread_at ts a)) f ∙ ap (result_val y.gives u) found_u ∙ sym (ap (λ a. result_val y.gives a (thread_at s.threads a)) f ∙ ap (result_val y.gives u) new)
      by (inr nt) (inr nu) = ap (result_val y.gives q) (found_rest q nt nu)
  all_alike (at_key (hand_k q)) =
      ap Some (eq_cases (λ b. (if b then val_of y.gives x.number (Own (plain.Task u)) else hand_in y.gives q (thread_at ts q)) ≡ (if b then task_v u tree else rest_t (hand_k q))) q x.number (λ _. task_value)
      (λ nt. eq_cases (λ b. hand_in y.gives q (thread_at ts q) ≡ (if b then gone_v else rest (hand_k q))) q u
      (λ f. ap (λ a. hand_in y.gives a (thread_at ts a)) f ∙ ap (hand_in y.gives u) found_u ∙ ap (hand_of y.gives u) quiet_body) (λ nu. ap (hand_in y.gives q) (found_rest q nt nu))))

  -- who is owed
  owed_more : (q : ℕ) → owed_in s.threads q ≡ true → owed_in ts q ≡ true
  owed_more q f = by (decide_number q x.number) (decide_number q u)
    where
      by : (q ≡ x.number) ⊎ (q ≢ x.number) → (q ≡ u) ⊎ (q ≢ u) → owed_in ts q ≡ true
      by (inl h) i = ap (λ a. owed_by (thread_at ts a)) h ∙ ap owed_by found_x ∙ sym (ap owed_by found) ∙ sym (ap (λ a. owed_by (thread_at s.threads a)) h) ∙ f
      by (inr nt) (inl h) = ap (λ a. owed_by (thread_at ts a)) h ∙ ap owed_by found_u
      by (inr nt) (inr nu) = ap owed_by (found_rest q nt nu) ∙ f

  owed_u : owed_in ts u ≡ true
  owed_u = ap owed_by found_u

  known2 : AreKnown (IsKnown (owed_in ts) s.heap) s2
  known2 =
      let before = store over_there.passed.left over_there.passed.new in
      let wider = known_owed (owed_in s.threads) (owed_in ts) s.heap before owed_more over_there.typed.known in
      let nobody : HasNone u before = λ l r f. let k : owed_in s.threads u ≡ true = over_there.typed.known.each l (task_v u r) f in let q : false ≡ true = sym (ap owed_by new) ∙ k in cc in
      known_alike (IsKnown (owed_in ts) s.heap) tt (put_value before (at_key (hand_k x.number)) (task_v u tree)) s2 (known_new (IsKnown (owed_in ts) s.heap) before (at_key (hand_k x.number)) u tree nobody owed_u wider) put_alike

  holds1 : Holds b1 e2 (Some (own (task o))) (Some (Own (plain.Task u))) st1
  holds1 = record {
    high = high;
    low = let l = (lengths captures).0 in let k = z.low in omega (arith, l, k);
    types = tasked.env;
    thread = (alike_row (slot_k x.number) (rank_of high) (hand_k x.number) e2 tasked.env s2 (seen b1 st1 (Some (Own (plain.Task u)))) (Some (own (task o))) all_alike).0 parent2;
    slots = over_there.typed.long;
    known = known_alike (IsKnown (owed_in ts) s.heap) tt s2 (seen b1 st1 (Some (Own (plain.Task u)))) known2 all_alike;
    beside = record { others = λ k ne. refl; own = near.own };
  }

  -- beside the other threads
  each_other : (q : ℕ) (w : Thread) → q ≢ x.number → thread_at ts q ≡ Some w → (q ≡ u) ⊎ (q ≢ u) → IsTypedIn y.gives (y.high + high) tasked.env s2 q w.slots w.life
  each_other q w nt is (inl f) =
      let l = (lengths captures).1 in
      let same : child ≡ w = some_thread (sym found_u ∙ ap (thread_at ts) (sym f) ∙ is) in
      let running : IsRunning y.gives (y.high + high) tasked.env s2 u over_there.passed.new (settle body) (own (y.gives.result u)) = record {
        env = n;
        temp = None;
        types = settle_types body (subst (λ (c : Owned). RunTypes threads n None body (own c) []) (sym gives) body_types);
        thread = raised_thread u high (y.high + high) (omega arith) near.own child2;
        long = over_there.typed.long2;
        low = omega (arith, l);
      } in
      subst (λ (c : Thread). IsTypedIn y.gives (y.high + high) tasked.env s2 q c.slots c.life) same (subst (λ (a : ℕ). IsRunning y.gives (y.high + high) tasked.env s2 a over_there.passed.new (settle body) (own (y.gives.result a))) (sym f) running)
    where
      some_thread : {a b : Thread} → Some a ≡ Some b → a ≡ b
      some_thread h = cc
  each_other q w nt is (inr nu) =
      other_typed y.gives (seen_all y.gives s) w.slots w.life (record {
        higher = omega arith;
        local = y.local;
        local2 = near.own;
        kept = λ k f. near.others k (λ h. nt (some_number (sym f ∙ h))) ∙ over_there.typed.kept k (λ h. nt (some_number (sym f ∙ h))) (λ h. nu (some_number (sym f ∙ h)));
        typed = raised_store high (y.high + high) (omega arith) near.own parent2.typed;
      })
      (near.others (result_k q) (λ h. cc) ∙ over_there.typed.kept (result_k q) (λ h. cc) (λ h. cc)) (y.each q w (sym (found_rest q nt nu) ∙ is))
    where
      some_number : {a b : ℕ} → Some a ≡ Some b → a ≡ b
      some_number h = cc

  abbrev base1 : Base y.gives x.number ts
  base1 = record { high = y.high + high; types = tasked.env; store = s2; local = near.own; each = λ q w nt is. each_other q w nt is (decide_number q u) }

  -- the name is new
  not_given : is_given s u ≡ false
  not_given = ap (λ (q : Option Thread). is_some q) new

  -- the step
  pub spawn_typed : {k : Kind} {r : Run} {wrap : Run → Life} → Wraps y.gives x.number k x.life r wrap → (plug : Value → Run) → (IntAtHand (Some (own (task o))) (Some (Own (plain.Task u))) → Becomes threads e2 (Some (own (task o))) (Some (Own (plain.Task u))) (plug (Own (plain.Task u))) k [])
      → life_move x.life ≡ Some (record { act = do_spawn cs body; plug = λ q. wrap (plug q) }) → StepsOn s x.number (fresh.Thread u)
  spawn_typed {k = k} {r = r} {wrap = wrap} wraps plug becomes moves =
      let m : Move Life = record { act = do_spawn cs body; plug = λ q. wrap (plug q) } in
      let v = Own (plain.Task u) in
      let new_x : Thread = after_thread x (settle_life (wrap (plug v))) over_there.passed.left in
      let typed = becomes_typed y.gives x1 ts base1 found_x k r wrap wraps e2 (Some (own (task o))) (Some v) (plug v) (becomes tt) over_there.passed.left s.heap holds1 s y.neither in
      let same : with_thread ts new_x ≡ with_thread s.threads new_x ++ child ∷ [] = with_twice s.threads x x1 new_x child refl found in
      record {
        next = record { state = record s { threads = with_thread s.threads new_x ++ child ∷ [] }; labels = label.Start u ∷ [] };
        is = ap (step_of s (fresh.Thread u)) found ∙ ap (moved s x (fresh.Thread u)) moves ∙ ap (λ b. if b then None else started_with s x m body u (pass cs x.slots [])) not_given ∙ ap (started_with s x m body u) over_there.is;
        typed = subst (λ (q : List Thread). AreTyped (record s { threads = q })) same typed.together;
      }
