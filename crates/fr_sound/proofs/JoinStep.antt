-- The join of a thread that has ended keeps a state typed.
use Rattle.std.specs.Prelude.{◌⊎◌, ◌==◌, if◌then◌else◌}
use Rattle.std.proofs.Common.{◌≡◌, ◌≢◌, inl, inr, ⊎_elim, ℕ, ◌+◌, Bool, List, [], Some, None, refl, sym, ap, ◌∙◌, subst, arith}
use Rattle.fr_plain.specs.Below.fr_base.declared.label.Plain.TheVariants as plain
use Rattle.fr_plain.specs.Below.fr_base.declared.step.Fresh.TheVariants as fresh
use Rattle.fr_plain.specs.Below.fr_typing.Kinds.{Owned, task, Kind, own, whole}
use Rattle.fr_plain.specs.Below.fr_typing.Places.{Env}
use Rattle.fr_plain.proofs.Below.fr_typing.PlaceLemmas.{eq_cases}
use Rattle.fr_store.specs.Keys.{Key, slot_k, temp_k, content_k, result_k, hand_k}
use Rattle.fr_store.specs.Store.{Alike, Val, gone_v, task_v, at_key, at_object, Store, Place, value_at, put_value, swap}
use Rattle.fr_store.specs.ListState.{slot_value}
use Rattle.fr_store.specs.Typed.{Tree, hole, owns, refers, KeyTypes, Typed}
use Rattle.fr_store.specs.Below.{tree_of, ExactOf}
use Rattle.fr_store.specs.Rows.{with_type}
use Rattle.fr_store.specs.Local.{thread_of, IsLocal}
use Rattle.fr_store.specs.Thread.{ThreadTyped, After}
use Rattle.fr_store.proofs.Keys.{key_same, key_other, decide_number}
use Rattle.fr_store.proofs.Rows.{swap_own, swap_at, swap_hand, swap_other, unnamed_with}
use Rattle.fr_store.proofs.ListState.{at_hand as at_hand_key}
use Rattle.fr_store.proofs.OtherThreads.{alike_row}
use Rattle.fr_store.proofs.ValueRows.{forget_row}
use Rattle.fr_store.proofs.ThreadKept.{known_tree, slots_with}
use Rattle.fr_plain.specs.declared.value.Value.{Value}
use Rattle.fr_plain.specs.declared.value.Value.TheVariants.{Own}
use Rattle.fr_plain.specs.Acts.{do_join}
use Rattle.fr_plain.specs.Run.{Run, Move, Life, over, ended, settle_life, life_move}
use Rattle.fr_plain.specs.Threads.{result_in, result_of_life}
use Rattle.fr_plain.specs.Whole.{Thread, Whole, thread_at, with_thread, with_life, result_at, state_of, joined_with, joined, moved, step_of}
use Rattle.fr_sound.specs.RunTypes.{threads}
use Rattle.fr_sound.specs.Seen.{Gives, Beside, val_of, vals, hand_of, heap_of, seen, rank_of, IsKnown, AreKnown, HasNone, IsBeside, Holds}
use Rattle.fr_sound.specs.Together.{held_life, hand_in, result_val, seen_all, owed_in, IsTypedIn, AreTyped, StepsOn}
use Rattle.fr_sound.proofs.Known.{NoTask, known_put, known_swap, known_alike, put_frees, none_swap}
use Rattle.fr_sound.proofs.Hand.{keys_of, beside_after, fits_owned}
use Rattle.fr_sound.proofs.ActsHold.{raised_store}
use Rattle.fr_sound.proofs.Redex.{IntAtHand, int_at_hand, Becomes}
use Rattle.fr_sound.proofs.Focus.{beside_of}
use Rattle.fr_sound.proofs.Unfocus.{Base, after_thread, other_typed}
use Rattle.fr_sound.proofs.Release.{unnamed_result, found_life, kept_life, slots_life, hands_life, results_life, result_life, result_before, owed_life, known_fewer}
use Rattle.fr_sound.proofs.OwnStep.{Wraps, becomes_typed}
use Rattle.fr_store.proofs.Rows.{top_fits}

-- a thread x whose task of thread w is at hand, and w, which has ended with the value v2
module _ {s : Whole} (y : AreTyped s) (x : Thread) (found : thread_at s.threads x.number ≡ Some x) (none : result_of_life x.life ≡ None) (e : Env) (o : Owned) (v : Value)
    (z : Holds (beside_of y.gives y.types s.threads) e (Some (own (task o))) (Some v) (state_of s x)) (w : Thread) (found_w : thread_at s.threads w.number ≡ Some w) (v2 : Value) (life_w : w.life ≡ ended v2)
    (value : val_of y.gives x.number v ≡ task_v w.number (tree_of o)) (tree_w : tree_of (y.gives.result w.number) ≡ tree_of o) where
  abbrev g : Gives
  g = y.gives

  abbrev t : ℕ
  t = x.number

  abbrev hand : Key
  hand = hand_k x.number

  abbrev res : Key
  res = result_k w.number

  abbrev tree : Tree
  tree = tree_of o

  abbrev b : Beside
  b = beside_of y.gives y.types s.threads

  abbrev s1 : Store
  s1 = seen b (state_of s x) (Some v)

  abbrev s2 : Store
  s2 = put_value s1 (at_key hand) gone_v

  abbrev s3 : Store
  s3 = swap s2 hand (at_key res)

  -- the threads after w's result is taken
  abbrev ts : List Thread
  ts = with_thread s.threads (with_life w over)

  -- w is another thread
  differs : w.number ≢ x.number
  differs same =
      let f : Some w ≡ Some x = sym found_w ∙ ap (thread_at s.threads) same ∙ found in
      let i : w ≡ x = cc in
      let a : Some v2 ≡ None = sym (ap result_of_life life_w) ∙ ap (λ (q : Thread). result_of_life q.life) i ∙ none in
      cc

  -- the task is let go
  first : After (slot_k x.number) (rank_of z.high) hand z.types e s2 None
  first = forget_row (slot_k x.number) (rank_of z.high) hand e z.types s1 (own (task o)) (keys_of x.number z.high) z.thread

  near : IsBeside b x.number first.env
  near = beside_after x.number z.beside first

  result_there : first.env res ≡ owns tree
  result_there = near.others res (λ f. cc) ∙ subst (IsTypedIn y.gives y.high y.types (seen_all y.gives s) w.number w.slots) life_w (y.each w.number w found_w) ∙ ap owns tree_w

  abbrev E2 : KeyTypes
  E2 = with_type first.env res (owns hole)

  abbrev E3 : KeyTypes
  E3 = with_type E2 hand (owns tree)

  typed3 : Typed (rank_of z.high) E3 s3
  typed3 = swap_own (rank_of z.high) first.env s2 hand res 0 hole tree tree (at_key res) first.thread.typed first.thread.quiet (λ f. cc) first.thread.temp (unnamed_result w.number near.own) result_there refl refl

  back : (j : Key) (m : Bool) (u : Place) → E3 j ≡ refers m u → first.env j ≡ refers m u
  back j m u is = known_tree (slot_k x.number) hand first.env res hole j m u (known_tree (slot_k x.number) hand E2 hand tree j m u is)

  local3 : IsLocal E3
  local3 j m u is = near.own j m u (back j m u is)

  thread3 : ThreadTyped (slot_k x.number) (rank_of z.high) hand e E3 s3 (Some (own o))
  thread3 =
      let free = unnamed_with first.env res hole hand first.thread.quiet in
      record {
        typed = typed3;
        nested = first.thread.nested;
        over = first.thread.over;
        slots = slots_with (slot_k x.number) E2 hand (owns tree) e free (λ i lt f. cc) (slots_with (slot_k x.number) first.env res (owns hole) e (unnamed_result w.number near.own) (λ i lt f. cc) first.thread.slots);
        above = λ i le. key_other (slot_k x.number i) hand (owns tree) (E2 (slot_k x.number i)) (λ f. cc) ∙ key_other (slot_k x.number i) res (owns hole) (first.env (slot_k x.number i)) (λ f. cc) ∙ first.thread.above i le;
        temp = subst (ExactOf (slot_k x.number) E3 (whole (own o))) (sym (key_same hand (owns tree) (E2 hand))) refl;
        names = tt;
        quiet = unnamed_with E2 hand tree hand free;
        alone = λ j m u js ne. first.thread.alone j m u (back j m u js) ne;
      }

  -- the result is owned, so that it is the same value in each thread
  result_value : val_of y.gives w.number v2 ≡ val_of y.gives x.number v2
  result_value =
      let fits = top_fits (rank_of y.high) y.types (seen_all y.gives s) y.typed res tree (subst (IsTypedIn y.gives y.high y.types (seen_all y.gives s) w.number w.slots) life_w (y.each w.number w found_w) ∙ ap owns tree_w) in
      let stands : (seen_all y.gives s).at res ≡ val_of y.gives w.number v2 = result_before y.gives s w found_w over ∙ ap (λ l. hand_of y.gives w.number (result_of_life l)) life_w in
      let p = fits_owned y.gives w.number o v2 (subst (Rattle.fr_store.specs.Typed.TopFits tree) stands fits) in
      ap (val_of y.gives w.number) p.1 ∙ sym (ap (val_of y.gives x.number) p.1)

  at_result : s2.at res ≡ val_of y.gives x.number v2
  at_result = key_other res hand gone_v (s1.at res) (λ f. cc) ∙ result_before y.gives s w found_w over ∙ ap (λ l. hand_of y.gives w.number (result_of_life l)) life_w ∙ result_value

  abbrev b2 : Beside
  b2 = beside_of y.gives E3 ts

  -- a key that the join leaves alone
  left_alone : (j : Key) → j ≢ hand → j ≢ res → s3.at j ≡ s1.at j
  left_alone j a c = some_val (swap_other s2 hand (at_key res) (at_key j) (λ f. a cc) (λ f. c cc)) ∙ key_other j hand gone_v (s1.at j) a
    where
      some_val : {p q : Val} → Some p ≡ Some q → p ≡ q
      some_val f = cc

  alike3 : Alike s3 (seen b2 (state_of s x) (Some v2))
  alike3 (at_object q) = refl
  alike3 (at_key (slot_k u n)) =
      ap Some (ap (λ q. if u == x.number then slot_value (vals y.gives x.number x.slots) n else q) (slots_life y.gives s w found_w over u n) ∙ sym (left_alone (slot_k u n) (λ f. cc) (λ f. cc)))
  alike3 (at_key (temp_k u n)) = ap Some (sym (left_alone (temp_k u n) (λ f. cc) (λ f. cc)))
  alike3 (at_key (content_k u n)) = ap Some (sym (left_alone (content_k u n) (λ f. cc) (λ f. cc)))
  alike3 (at_key (result_k u)) = ⊎_elim
      (λ (f : u ≡ w.number). ap (λ q. Some (result_val y.gives q (thread_at ts q))) f ∙ ap Some (result_life y.gives s w found_w over) ∙ ap Some (sym (key_same hand gone_v (s1.at hand)))
      ∙ sym (swap_at s2 hand (at_key res) (λ h. cc)) ∙ ap (λ q. value_at s3 (at_key (result_k q))) (sym f))
      (λ (ne : u ≢ w.number). ap Some (results_life y.gives s w found_w over u ne ∙ sym (left_alone (result_k u) (λ f. cc) (λ f. ne cc)))) (decide_number u w.number)
  alike3 (at_key (hand_k u)) = ⊎_elim
      (λ (f : u ≡ x.number). ap (λ q. value_at (seen b2 (state_of s x) (Some v2)) (at_key (hand_k q))) f ∙ ap Some (at_hand_key b2.at x.number (vals y.gives x.number x.slots) (val_of y.gives x.number v2) (heap_of y.gives s.heap)) ∙ ap Some (sym at_result)
      ∙ sym (swap_hand s2 hand (at_key res) (s2.at res) refl) ∙ ap (λ q. value_at s3 (at_key (hand_k q))) (sym f))
      (λ (ne : u ≢ x.number). ap Some (ap (λ q. if u == x.number then val_of y.gives x.number v2 else q) (hands_life y.gives s w found_w over (ap held_life (sym life_w)) u) ∙ other_value u ne ∙ sym (left_alone (hand_k u) (λ f. ne cc) (λ f. cc)))) (decide_number u x.number)
    where
      other_value : (u : ℕ) → u ≢ x.number → (if u == x.number then val_of y.gives x.number v2 else hand_in y.gives u (thread_at s.threads u)) ≡ s1.at (hand_k u)
      other_value u ne = eq_cases (λ q. (if q then val_of y.gives x.number v2 else hand_in y.gives u (thread_at s.threads u)) ≡ (if q then val_of y.gives x.number v else hand_in y.gives u (thread_at s.threads u))) u x.number (λ f. absurd (ne f)) (λ _. refl)

  plain_gone : NoTask gone_v
  plain_gone n r f = cc

  known3 : AreKnown (IsKnown (owed_in ts) s.heap) s3
  known3 =
      let P = IsKnown (owed_in s.threads) s.heap in
      let there : value_at s1 (at_key hand) ≡ Some (task_v w.number tree) = ap Some (at_hand_key b.at x.number (vals y.gives x.number x.slots) (val_of y.gives x.number v) (heap_of y.gives s.heap) ∙ value) in
      let freed : HasNone w.number s3 = none_swap w.number s2 hand (at_key res) (put_frees w.number tree s1 (at_key hand) gone_v plain_gone z.known.once there) in
      known_fewer (owed_in s.threads) (owed_in ts) s.heap s3 w.number freed (λ u ne f. owed_life y.gives s w found_w over u ne ∙ f) (known_swap P tt s2 hand (at_key res) (known_put P tt s1 (at_key hand) gone_v z.known tt plain_gone))

  -- the result is at hand
  joined_holds : Holds b2 e (Some (own o)) (Some v2) (state_of s x)
  joined_holds = record {
    high = z.high;
    low = z.low;
    types = E3;
    thread = (alike_row (slot_k x.number) (rank_of z.high) hand e E3 s3 (seen b2 (state_of s x) (Some v2)) (Some (own o)) alike3).0 thread3;
    slots = z.slots;
    known = known_alike (IsKnown (owed_in ts) s.heap) tt s3 (seen b2 (state_of s x) (Some v2)) known3 alike3;
    beside = record { others = λ k ne. refl; own = local3 };
  }

  other_key : (k : Key) (n : ℕ) → thread_of k ≡ Some n → n ≢ x.number → E3 k ≡ y.types k
  other_key k n f ne =
      key_other k hand (owns tree) (E2 k) (λ h. ne (some_number (sym f ∙ ap thread_of h))) ∙ key_other k res (owns hole) (first.env k) (λ h. let q : None ≡ Some n = ap thread_of (sym h) ∙ f in cc)
      ∙ near.others k (λ h. ne (some_number (sym f ∙ h)))
    where
      some_number : {a c : ℕ} → Some a ≡ Some c → a ≡ c
      some_number h = cc

  some_thread : (p q : Thread) → Some p ≡ Some q → p ≡ q
  some_thread p q f = cc

  each_other : (u : ℕ) (q : Thread) → u ≢ x.number → thread_at ts u ≡ Some q → (u ≡ w.number) ⊎ (u ≢ w.number) → IsTypedIn y.gives (y.high + z.high) E3 s3 u q.slots q.life
  each_other u q ne is (inl f) =
      subst (λ (p : Thread). IsTypedIn y.gives (y.high + z.high) E3 s3 u p.slots p.life) (some_thread (with_life w over) q (sym (found_life y.gives s w found_w over) ∙ ap (thread_at ts) (sym f) ∙ is)) tt
  each_other u q ne is (inr off) =
      other_typed y.gives (seen_all y.gives s) q.slots q.life (record { higher = omega arith; local = y.local; local2 = local3; kept = λ k f. other_key k u f ne; typed = raised_store z.high (y.high + z.high) (omega arith) local3 typed3 })
      (key_other (result_k u) hand (owns tree) (E2 (result_k u)) (λ h. cc) ∙ key_other (result_k u) res (owns hole) (first.env (result_k u)) (λ h. off cc) ∙ near.others (result_k u) (λ h. cc))
      (y.each u q (sym (kept_life y.gives s w found_w over u off) ∙ is))

  -- beside the other threads
  abbrev joined_base : Base y.gives x.number ts
  joined_base = record { high = y.high + z.high; types = E3; store = s3; local = local3; each = λ u q ne is. each_other u q ne is (decide_number u w.number) }

  joined_found : thread_at ts x.number ≡ Some x
  joined_found = kept_life y.gives s w found_w over x.number (λ f. differs (sym f)) ∙ found

  -- the step
  pub join_typed : {k : Kind} {r : Run} {wrap : Run → Life} → Wraps y.gives x.number k x.life r wrap → (plug : Value → Run) → (IntAtHand (Some (own o)) (Some v2) → Becomes threads e (Some (own o)) (Some v2) (plug v2) k [])
      → v ≡ Own (plain.Task w.number) → life_move x.life ≡ Some (record { act = do_join v; plug = λ q. wrap (plug q) }) → StepsOn s x.number fresh.None
  join_typed {k = k} {r = r} {wrap = wrap} wraps plug becomes task_is moves =
      let m : Move Life = record { act = do_join v; plug = λ q. wrap (plug q) } in
      let typed = becomes_typed y.gives x ts joined_base joined_found k r wrap wraps e (Some (own o)) (Some v2) (plug v2) (becomes (int_at_hand (Some (own o)) (Some v2) joined_holds)) x.slots s.heap joined_holds s y.neither in
      record {
        next = record { state = record s { threads = with_thread ts (after_thread x (settle_life (wrap (plug v2))) x.slots) }; labels = [] };
        is = ap (step_of s fresh.None) found ∙ ap (moved s x fresh.None) moves ∙ ap (joined s x m) task_is ∙ ap (λ q. joined_with s x m q (result_at s.threads w.number)) found_w ∙ ap (joined_with s x m (Some w)) (ap result_in found_w ∙ ap result_of_life life_w);
        typed = typed.together;
      }
