-- Letting a thread go whose task nobody has any more keeps a state typed.
use Rattle.std.proofs.Common.{◌≡◌, ◌≢◌, inl, ⊎_elim, ℕ, zero, suc, Bool, true, List, Option, Some, None, refl, sym, ap, ◌∙◌, subst, arith}
use Rattle.fr_plain.specs.Below.fr_typing.Kinds.{own}
use Rattle.fr_store.specs.Keys.{Key, slot_k, temp_k, content_k, result_k, hand_k}
use Rattle.fr_store.specs.Store.{Alike, Location, Val, gone_v, unit_v, int_v, box_v, mutex_v, task_v, ref_v, at_key, at_object, Store, or_gone, unbox, drop_link, drop_value, value_at}
use Rattle.fr_plain.specs.Below.fr_base.declared.name.ObjNo.{ObjNo}
use Rattle.fr_store.specs.ListState.{without_object, drop_objects, drop_rest}
use Rattle.fr_store.specs.Typed.{hole, owns, KeyTypes, Typed, Unnamed}
use Rattle.fr_store.specs.Below.{tree_of}
use Rattle.fr_store.specs.Rows.{tree_depth, with_type}
use Rattle.fr_store.specs.Local.{thread_of, IsLocal}
use Rattle.fr_store.proofs.Keys.{key_same, key_other, decide_number}
use Rattle.fr_store.proofs.Rows.{same_store, drop_hand, top_fits}
use Rattle.fr_store.proofs.ListDrop.{drop_at}
use Rattle.fr_store.proofs.OtherThreads.{alike_row}
use Rattle.fr_store.proofs.ThreadKept.{known_tree}
use Rattle.fr_plain.specs.declared.value.Value.{Value}
use Rattle.fr_plain.specs.Heap.{Heap}
use Rattle.fr_plain.specs.State.{without}
use Rattle.fr_plain.specs.Acts.{task_in}
use Rattle.fr_plain.specs.Run.{Run, Life, alive, over, owing, loose, ended}
use Rattle.fr_plain.specs.Threads.{released, released_in, result_of_life}
use Rattle.fr_plain.specs.Whole.{Thread, Whole, thread_at, with_thread, with_life, let_threads_go}
use Rattle.fr_sound.specs.Seen.{Gives, val_of, hand_of, heap_of, rank_of, IsKnown, AreKnown, HasNone}
use Rattle.fr_sound.specs.Together.{held_life, slot_in, hand_in, result_val, IsRunning, seen_all, owed_by, owed_in, IsTypedIn, AreTyped}
use Rattle.fr_sound.proofs.Known.{known_alike, known_drop, none_alike, none_drop}
use Rattle.fr_sound.proofs.Hand.{drops_same, known_dropped, drop_freed}
use Rattle.fr_sound.proofs.Focus.{number_of, with_same, with_other}
use Rattle.fr_sound.proofs.Unfocus.{TypedWith, rebuild}

-- keys of threads that share no memory are named where they are slots
pub unnamed_result : {E : KeyTypes} (t : ℕ) → IsLocal E → Unnamed E (result_k t)
unnamed_result t local j m u is e = let p = local j m u is in let f : result_k t ≡ slot_k p.thread p.slot = sym e ∙ p.is in cc

pub unnamed_hand : {E : KeyTypes} (t : ℕ) → IsLocal E → Unnamed E (hand_k t)
unnamed_hand t local j m u is e = let p = local j m u is in let f : hand_k t ≡ slot_k p.thread p.slot = sym e ∙ p.is in cc

-- what is known where fewer threads are owed, and nobody has the task of the others
pub known_fewer : (f g : ℕ → Bool) (h : Heap) (s : Store) (t : ℕ) → HasNone t s → ((u : ℕ) → u ≢ t → f u ≡ true → g u ≡ true) → AreKnown (IsKnown f h) s → AreKnown (IsKnown g h) s
known_fewer f g h s t none more k = record { each = λ l v e. by l v e (k.each l v e); once = k.once }
  where
    by : (l : Location) (v : Val) → value_at s l ≡ Some v → IsKnown f h v → IsKnown g h v
    by l gone_v e p = tt
    by l unit_v e p = tt
    by l (int_v n) e p = tt
    by l (box_v o) e p = p
    by l (mutex_v m r) e p = tt
    by l (task_v u r) e p = more u (λ same. none l r (e ∙ ap (λ z. Some (task_v z r)) same)) p
    by l (ref_v m) e p = tt

-- DROPS AT A KEY

-- a drop at a key leaves other keys alone
pub drop_other : (n : ℕ) (k j : Key) (s : Store) → j ≢ k → (drop_value n k s).at j ≡ s.at j
drop_other zero k j s ne = refl
drop_other (suc n) k j s ne = by (s.at k) (λ o. drop_other n k j (unbox s k o) ne)
  where
    by : (v : Val) → ((o : ObjNo) → (drop_value n k (unbox s k o)).at j ≡ (unbox s k o).at j) → (drop_link (drop_value n k) s k v).at j ≡ s.at j
    by (box_v o) g = g o ∙ key_other j k (or_gone (s.heap o)) (s.at j) ne
    by gone_v g = key_other j k gone_v (s.at j) ne
    by unit_v g = key_other j k gone_v (s.at j) ne
    by (int_v m) g = key_other j k gone_v (s.at j) ne
    by (mutex_v m r) g = key_other j k gone_v (s.at j) ne
    by (task_v m r) g = key_other j k gone_v (s.at j) ne
    by (ref_v m) g = key_other j k gone_v (s.at j) ne

-- what it leaves of the heap
pub drop_heap : (n : ℕ) (k : Key) (s : Store) (q : ObjNo) → (drop_value n k s).heap q ≡ drop_objects n (s.at k) s.heap q
drop_heap zero k s q = refl
drop_heap (suc n) k s q = by (s.at k) (λ o. drop_heap n k (unbox s k o) q)
  where
    by : (v : Val) → ((o : ObjNo) → (drop_value n k (unbox s k o)).heap q ≡ drop_objects n ((unbox s k o).at k) (unbox s k o).heap q) → (drop_link (drop_value n k) s k v).heap q ≡ drop_objects (suc n) v s.heap q
    by (box_v o) g = g o ∙ ap (λ x. drop_objects n x (without_object s.heap o) q) (key_same k (or_gone (s.heap o)) (s.at k))
    by gone_v g = refl
    by unit_v g = refl
    by (int_v m) g = refl
    by (mutex_v m r) g = refl
    by (task_v m r) g = refl
    by (ref_v m) g = refl

-- ANOTHER LIFE

module _ (g : Gives) (s : Whole) (x : Thread) (found : thread_at s.threads x.number ≡ Some x) (l : Life) where
  abbrev pub lives_after : List Thread
  lives_after = with_thread s.threads (with_life x l)

  pub found_life : thread_at lives_after x.number ≡ Some (with_life x l)
  found_life = with_same s.threads x (with_life x l) found

  pub kept_life : (u : ℕ) → u ≢ x.number → thread_at lives_after u ≡ thread_at s.threads u
  kept_life u ne = with_other s.threads (with_life x l) u ne

  -- slots stay
  pub slots_life : (u n : ℕ) → slot_in g u (thread_at lives_after u) n ≡ slot_in g u (thread_at s.threads u) n
  slots_life u n = ⊎_elim
      (λ (e : u ≡ x.number). ap (λ z. slot_in g z (thread_at lives_after z) n) e ∙ ap (λ z. slot_in g x.number z n) found_life ∙ sym (ap (λ z. slot_in g z (thread_at s.threads z) n) e ∙ ap (λ z. slot_in g x.number z n) found))
      (λ (ne : u ≢ x.number). ap (λ z. slot_in g u z n) (kept_life u ne)) (decide_number u x.number)

  -- so do temporary values
  pub hands_life : held_life l ≡ held_life x.life → (u : ℕ) → hand_in g u (thread_at lives_after u) ≡ hand_in g u (thread_at s.threads u)
  hands_life same u = ⊎_elim
      (λ (e : u ≡ x.number). ap (λ z. hand_in g z (thread_at lives_after z)) e ∙ ap (hand_in g x.number) found_life ∙ ap (hand_of g x.number) same ∙ sym (ap (λ z. hand_in g z (thread_at s.threads z)) e ∙ ap (hand_in g x.number) found))
      (λ (ne : u ≢ x.number). ap (hand_in g u) (kept_life u ne)) (decide_number u x.number)

  -- and results of other threads
  pub results_life : (u : ℕ) → u ≢ x.number → result_val g u (thread_at lives_after u) ≡ result_val g u (thread_at s.threads u)
  results_life u ne = ap (result_val g u) (kept_life u ne)

  -- the thread's result
  pub result_life : result_val g x.number (thread_at lives_after x.number) ≡ hand_of g x.number (result_of_life l)
  result_life = ap (result_val g x.number) found_life

  pub result_before : result_val g x.number (thread_at s.threads x.number) ≡ hand_of g x.number (result_of_life x.life)
  result_before = ap (result_val g x.number) found

  -- who is owed
  pub owed_life : (u : ℕ) → u ≢ x.number → owed_in lives_after u ≡ owed_in s.threads u
  owed_life u ne = ap owed_by (kept_life u ne)

  -- the same values stand everywhere
  pub life_alike : held_life l ≡ held_life x.life → result_of_life l ≡ result_of_life x.life → Alike (seen_all g s) (seen_all g (record s { threads = lives_after }))
  life_alike same result (at_object o) = refl
  life_alike same result (at_key (slot_k u n)) = ap Some (slots_life u n)
  life_alike same result (at_key (temp_k u n)) = refl
  life_alike same result (at_key (content_k u n)) = refl
  life_alike same result (at_key (result_k u)) = ap Some (⊎_elim
      (λ (e : u ≡ x.number). ap (λ z. result_val g z (thread_at lives_after z)) e ∙ result_life ∙ ap (hand_of g x.number) result ∙ sym (ap (λ z. result_val g z (thread_at s.threads z)) e ∙ result_before))
      (λ (ne : u ≢ x.number). results_life u ne) (decide_number u x.number))
  life_alike same result (at_key (hand_k u)) = ap Some (hands_life same u)

-- THE LAW

-- a thread that goes on, and whose task nobody has
owing_goes : {s : Whole} (y : AreTyped s) (x : Thread) (r : Run) → thread_at s.threads x.number ≡ Some x → x.life ≡ owing r → HasNone x.number (seen_all y.gives s) → TypedWith y.gives (record s { threads = with_thread s.threads (with_life x (loose r)) })
owing_goes {s = s} y x r found life none =
    let s2 : Whole = record s { threads = with_thread s.threads (with_life x (loose r)) } in
    let alike = life_alike y.gives s x found (loose r) (ap held_life (sym life)) (ap result_of_life (sym life)) in
    let known = known_alike (IsKnown (owed_in s.threads) s.heap) tt (seen_all y.gives s) (seen_all y.gives s2) y.known alike in
    rebuild y s2 x.number (record {
      high = y.high;
      types = y.types;
      neither = y.neither;
      higher = omega arith;
      typed = same_store (rank_of y.high) y.types y.types (seen_all y.gives s) (seen_all y.gives s2) y.typed (λ k. refl) alike;
      local = y.local;
      known = known_fewer (owed_in s.threads) (owed_in s2.threads) s.heap (seen_all y.gives s2) x.number (none_alike x.number (seen_all y.gives s) (seen_all y.gives s2) none alike) (λ u ne f. owed_life y.gives s x found (loose r) u ne ∙ f) known;
      kept = λ k v e ne. refl;
      mine = λ w is. subst (λ (q : Thread). IsTypedIn y.gives y.high y.types (seen_all y.gives s2) x.number q.slots q.life) (some_thread (with_life x (loose r)) w (sym (found_life y.gives s x found (loose r)) ∙ is)) (own (y.gives.result x.number), running);
      others = λ u w ne is. inl (sym (kept_life y.gives s x found (loose r) u ne) ∙ is, refl);
    })
  where
    s3 : Whole
    s3 = record s { threads = with_thread s.threads (with_life x (loose r)) }

    some_thread : (a b : Thread) → Some a ≡ Some b → a ≡ b
    some_thread a b e = cc

    before : IsRunning y.gives y.high y.types (seen_all y.gives s) x.number x.slots r (own (y.gives.result x.number))
    before = subst (IsTypedIn y.gives y.high y.types (seen_all y.gives s) x.number x.slots) life (y.each x.number x found)

    running : IsRunning y.gives y.high y.types (seen_all y.gives s3) x.number x.slots r (own (y.gives.result x.number))
    running = record {
      env = before.env;
      temp = before.temp;
      types = before.types;
      thread = (alike_row (slot_k x.number) (rank_of y.high) (hand_k x.number) before.env y.types (seen_all y.gives s) (seen_all y.gives s3) before.temp (life_alike y.gives s x found (loose r) (ap held_life (sym life)) (ap result_of_life (sym life)))).0 before.thread;
      long = before.long;
      low = before.low;
    }

-- a thread that has ended, and whose task nobody has
pub record EndedGoes {s : Whole} (y : AreTyped s) (x : Thread) (v : Value) : Type 0 where
  pub rebuilt : TypedWith y.gives (record s { threads = with_thread s.threads (with_life x over); heap = without s.heap v })
  pub frees : (u : ℕ) → task_in s.heap v ≡ Some u → HasNone u (seen_all y.gives (record s { threads = with_thread s.threads (with_life x over); heap = without s.heap v }))

ended_goes : {s : Whole} (y : AreTyped s) (x : Thread) (v : Value) → thread_at s.threads x.number ≡ Some x → x.life ≡ ended v → HasNone x.number (seen_all y.gives s) → EndedGoes y x v
ended_goes {s = s} y x v found life none =
    let g = y.gives in
    let s2 : Whole = record s { threads = with_thread s.threads (with_life x over); heap = without s.heap v } in
    let k = result_k x.number in
    let all = seen_all g s in
    let tree = tree_of (g.result x.number) in
    let n = tree_depth tree in
    let hv = val_of g x.number v in
    let at : all.at k ≡ hv = result_before g s x found over ∙ ap (λ l. hand_of g x.number (result_of_life l)) life in
    let ek : y.types k ≡ owns tree = subst (IsTypedIn g y.high y.types all x.number x.slots) life (y.each x.number x found) in
    let E2 = with_type y.types k (owns hole) in
    let typed : Typed (rank_of y.high) E2 (drop_value n k all) = drop_hand (rank_of y.high) y.types all k tree n y.typed (unnamed_result x.number y.local) ek (omega arith) in
    let none_left : (drop_value n k all).at k ≡ gone_v = top_fits (rank_of y.high) E2 (drop_value n k all) typed k hole (key_same k (owns hole) (y.types k)) in
    let ends : drop_rest n hv (heap_of g s.heap) ≡ gone_v = ap (λ z. drop_rest n z (heap_of g s.heap)) (sym at) ∙ sym (drop_at n k all) ∙ none_left in
    let alike : Alike (drop_value n k all) (seen_all g s2) = over_alike n at ends none_left in
    let known1 = known_drop (IsKnown (owed_in s.threads) s.heap) tt n k all y.known in
    let known2 = known_alike (IsKnown (owed_in s.threads) (without s.heap v)) tt (drop_value n k all) (seen_all g s2) (known_dropped (owed_in s.threads) s.heap v (drop_value n k all) known1) alike in
    record {
      rebuilt = rebuild y s2 x.number (record {
        high = y.high;
        types = E2;
        neither = y.neither;
        higher = omega arith;
        typed = same_store (rank_of y.high) E2 E2 (drop_value n k all) (seen_all g s2) typed (λ j. refl) alike;
        local = λ j m u is. y.local j m u (known_tree (slot_k x.number) k y.types k hole j m u is);
        known = known_fewer (owed_in s.threads) (owed_in s2.threads) (without s.heap v) (seen_all g s2) x.number (none_alike x.number (drop_value n k all) (seen_all g s2) (none_drop x.number n k all y.known.once none) alike) (λ u ne f. owed_life g s x found over u ne ∙ f) known2;
        kept = λ j u e ne. key_other j k (owns hole) (y.types j) (λ z. let f : None ≡ Some u = ap thread_of (sym z) ∙ e in cc);
        mine = λ w is. subst (λ (q : Thread). IsTypedIn g y.high E2 (seen_all g s2) x.number q.slots q.life) (some_thread (with_life x over) w (sym (found_life g s x found over) ∙ is)) tt;
        others = λ u w ne is. inl (sym (kept_life g s x found over u ne) ∙ is, key_other (result_k u) k (owns hole) (y.types (result_k u)) (λ z. ne cc));
      });
      frees = λ u f. none_alike u (drop_value n k all) (seen_all g s2) (drop_freed g x.number n k all s.heap v u y.known.once at (λ q. refl) ends f) alike;
    }
  where
    some_thread : (a b : Thread) → Some a ≡ Some b → a ≡ b
    some_thread a b e = cc

    over_alike : (n : ℕ) → (seen_all y.gives s).at (result_k x.number) ≡ val_of y.gives x.number v → drop_rest n (val_of y.gives x.number v) (heap_of y.gives s.heap) ≡ gone_v → (drop_value n (result_k x.number) (seen_all y.gives s)).at (result_k x.number) ≡ gone_v
        → Alike (drop_value n (result_k x.number) (seen_all y.gives s)) (seen_all y.gives (record s { threads = with_thread s.threads (with_life x over); heap = without s.heap v }))
    over_alike n at ends left (at_object q) =
        sym (drop_heap n (result_k x.number) (seen_all y.gives s) q ∙ ap (λ z. drop_objects n z (heap_of y.gives s.heap) q) at ∙ drops_same y.gives x.number n s.heap v ends q)
    over_alike n at ends left (at_key (slot_k u m)) = ap Some (slots_life y.gives s x found over u m ∙ sym (drop_other n (result_k x.number) (slot_k u m) (seen_all y.gives s) (λ f. cc)))
    over_alike n at ends left (at_key (temp_k u m)) = ap Some (sym (drop_other n (result_k x.number) (temp_k u m) (seen_all y.gives s) (λ f. cc)))
    over_alike n at ends left (at_key (content_k u m)) = ap Some (sym (drop_other n (result_k x.number) (content_k u m) (seen_all y.gives s) (λ f. cc)))
    over_alike n at ends left (at_key (result_k u)) = ap Some (⊎_elim
        (λ (e : u ≡ x.number). ap (λ z. result_val y.gives z (thread_at (with_thread s.threads (with_life x over)) z)) e ∙ result_life y.gives s x found over ∙ sym left ∙ ap (λ z. (drop_value n (result_k x.number) (seen_all y.gives s)).at (result_k z)) (sym e))
        (λ (ne : u ≢ x.number). results_life y.gives s x found over u ne ∙ sym (drop_other n (result_k x.number) (result_k u) (seen_all y.gives s) (λ f. ne cc))) (decide_number u x.number))
    over_alike n at ends left (at_key (hand_k u)) = ap Some (hands_life y.gives s x found over (ap held_life (sym life)) u ∙ sym (drop_other n (result_k x.number) (hand_k u) (seen_all y.gives s) (λ f. cc)))

-- a thread whose task nobody has is let go, and so on
pub released_typed : (n : ℕ) {s : Whole} (y : AreTyped s) (o : Option ℕ) → ((u : ℕ) → o ≡ Some u → HasNone u (seen_all y.gives s)) → AreTyped (let_threads_go n s o)
released_typed n y None none = y
released_typed zero y (Some t) none = y
released_typed (suc n) {s = s} y (Some t) none = by (λ s2 y2 o2 h2. released_typed n {s = s2} y2 o2 h2) (thread_at s.threads t) refl
  where
    -- the same for fewer threads
    Go : Type 0
    Go = (s2 : Whole) (y2 : AreTyped s2) (o : Option ℕ) → ((u : ℕ) → o ≡ Some u → HasNone u (seen_all y2.gives s2)) → AreTyped (let_threads_go n s2 o)

    by_life : Go → (x : Thread) → thread_at s.threads x.number ≡ Some x → x.number ≡ t → (l : Life) → x.life ≡ l → AreTyped (released (let_threads_go n) s x l)
    by_life go x found same (owing r) e = (owing_goes y x r found e (subst (λ q. HasNone q (seen_all y.gives s)) (sym same) (none t refl))).together
    by_life go x found same (ended v) e =
        let z = ended_goes y x v found e (subst (λ q. HasNone q (seen_all y.gives s)) (sym same) (none t refl)) in
        let s2 : Whole = record s { threads = with_thread s.threads (with_life x over); heap = without s.heap v } in
        go s2 z.rebuilt.together (task_in s.heap v) (λ u f. subst (λ (g : Gives). HasNone u (seen_all g s2)) (sym z.rebuilt.same) (z.frees u f))
    by_life go x found same (alive r) e = y
    by_life go x found same over e = y
    by_life go x found same (loose r) e = y

    by : Go → (o : Option Thread) → thread_at s.threads t ≡ o → AreTyped (released_in (let_threads_go n) s o)
    by go None e = y
    by go (Some x) e = let same = number_of s.threads t x e in by_life go x (ap (thread_at s.threads) same ∙ e) same x.life refl
