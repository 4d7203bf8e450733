-- Captures: values go from a thread's slots to those of a new one, and both stay typed.
use Rattle.std.specs.Prelude.{◌⊎◌, ◌==◌, if◌then◌else◌}
use Rattle.std.proofs.Common.{◌≡◌, ◌≢◌, inl, inr, ℕ, suc, ◌<◌, ◌+◌, Bool, List, ◌∷◌, length, Option, Some, None, refl, sym, ap, ◌∙◌, subst, arith}
use Rattle.fr_plain.specs.Below.fr_base.declared.label.Plain.TheVariants as plain
use Rattle.fr_plain.specs.Below.fr_terms.Terms.{Text}
use Rattle.fr_plain.specs.Below.fr_typing.Kinds.{Owned, unit, int, box, mutex, task, own, whole, gone}
use Rattle.fr_plain.specs.Below.fr_typing.Places.{Env, put_at}
use Rattle.fr_plain.proofs.Below.fr_typing.PlaceLemmas.{eq_cases}
use Rattle.fr_store.specs.Keys.{Key, slot_k, temp_k, content_k, result_k, hand_k}
use Rattle.fr_store.specs.Store.{Alike, Val, gone_v, unit_v, int_v, task_v, at_key, at_object, Store, Place, value_at, put_value, swap}
use Rattle.fr_store.specs.ListState.{Objects, slot_value, key_value, store_beside}
use Rattle.fr_store.specs.Typed.{Tree, hole, owns, refers, KeyTypes, TopFits}
use Rattle.fr_store.specs.Rows.{with_type}
use Rattle.fr_store.specs.Below.{tree_of}
use Rattle.fr_store.specs.Local.{thread_of, IsLocal}
use Rattle.fr_store.specs.Thread.{ThreadTyped, After}
use Rattle.fr_store.proofs.Keys.{decide_key, key_other}
use Rattle.fr_store.proofs.Rows.{top_fits, swap_at, swap_hand, swap_other}
use Rattle.fr_store.proofs.Below.{slot_exact, mut_place}
use Rattle.fr_store.proofs.PutAt.{length_put}
use Rattle.fr_store.proofs.Capture.{captured_types, capture_typed}
use Rattle.fr_store.proofs.ListState.{Alike-then, slot_above, slot_put, list_put_hand, list_push}
use Rattle.fr_store.proofs.OtherThreads.{alike_row}
use Rattle.fr_store.proofs.SlotRows.{let_row}
use Rattle.fr_store.proofs.ThreadKept.{exact_owned, known_tree}
use Rattle.fr_store.proofs.ValueRows.{int_row, unit_row, read_int_row, read_unit_row}
use Rattle.fr_plain.specs.declared.value.Value.{Value}
use Rattle.fr_plain.specs.declared.value.Value.TheVariants.{Own, ToSlot, ToObject, Held}
use Rattle.fr_plain.specs.Heap.{Heap}
use Rattle.fr_plain.specs.State.{slot_at, with_slot, gone as gone_value}
use Rattle.fr_plain.specs.Run.{Capture}
use Rattle.fr_plain.specs.Threads.{Passed, pass, then_passed}
use Rattle.fr_sound.specs.RunTypes.{variable, Copies, Moves, RunCaptures, c_none, c_copy, c_move}
use Rattle.fr_sound.specs.Seen.{Gives, lone, val_of, vals, rank_of, IsKnown, AreKnown, IsBeside}
use Rattle.fr_sound.proofs.Known.{NoTask, known_put, known_swap, known_alike}
use Rattle.fr_sound.proofs.SeenLemmas.{length_vals, slot_seen, slot_there, vals_with, length_with_slot}
use Rattle.fr_sound.proofs.Hand.{keys_of, beside_after, fits_owned, int_val}
use Rattle.fr_sound.proofs.Focus.{other_thread}

-- a value that is seen as unit is unit
unit_val : (g : Gives) (t : ℕ) (v : Value) → val_of g t v ≡ unit_v → v ≡ Own plain.Unit
unit_val g t (Own plain.Unit) e = refl
unit_val g t (Own plain.Nothing) e = cc
unit_val g t (Own (plain.Int n)) e = cc
unit_val g t (Own (plain.Box o)) e = cc
unit_val g t (Own (plain.Mutex o)) e = cc
unit_val g t (Own (plain.Task o)) e = cc
unit_val g t (ToSlot i) e = cc
unit_val g t (ToObject i) e = cc
unit_val g t (Held i) e = cc

-- threads t and u over what others have, without temporary values
module _ (g : Gives) (rest : Key → Val) (t u : ℕ) (apart : t ≢ u) (owed : ℕ → Bool) (heap : Heap) (objects : Objects) (others : KeyTypes) (high : ℕ) where
  -- as thread t sees it, and as u does
  abbrev pub pair : List Value → List Value → Store
  pair slots new = store_beside (key_value rest u (vals g u new) gone_v) t (vals g t slots) gone_v objects

  abbrev pair_u : List Value → List Val → Val → Store
  pair_u slots new v = store_beside (key_value rest t (vals g t slots) gone_v) u new v objects

  -- the order of two tests doesn't matter where not both hold
  tests : {A : Type 0} (q : ℕ) (a b c : A) → (if q == t then a else (if q == u then b else c)) ≡ (if q == u then b else (if q == t then a else c))
  tests q a b c =
      eq_cases (λ p. (if p then a else (if q == u then b else c)) ≡ (if q == u then b else (if p then a else c))) q t
      (λ e. eq_cases (λ p. a ≡ (if p then b else a)) q u (λ f. absurd (apart (sym e ∙ f))) (λ _. refl)) (λ _. refl)

  -- both see the same
  pub pair_alike : (slots new : List Value) → Alike (pair slots new) (pair_u slots (vals g u new) gone_v)
  pair_alike slots new (at_object o) = refl
  pair_alike slots new (at_key (slot_k q n)) = ap Some (sym (tests q (slot_value (vals g t slots) n) (slot_value (vals g u new) n) (rest (slot_k q n))))
  pair_alike slots new (at_key (temp_k q n)) = refl
  pair_alike slots new (at_key (content_k q n)) = refl
  pair_alike slots new (at_key (result_k q)) = refl
  pair_alike slots new (at_key (hand_k q)) = ap Some (sym (tests q gone_v gone_v (rest (hand_k q))))

  pair_back : (slots new : List Value) → Alike (pair_u slots (vals g u new) gone_v) (pair slots new)
  pair_back slots new l = sym (pair_alike slots new l)

  -- both threads are typed
  pub record Pair (e n : Env) (slots new : List Value) : Type 0 where
    pub types : KeyTypes
    pub parent : ThreadTyped (slot_k t) (rank_of high) (hand_k t) e types (pair slots new) None
    pub child : ThreadTyped (slot_k u) (rank_of high) (hand_k u) n types (pair slots new) None
    pub local : IsLocal types
    pub kept : (k : Key) → thread_of k ≢ Some t → thread_of k ≢ Some u → types k ≡ others k
    pub known : AreKnown (IsKnown owed heap) (pair slots new)
    pub long : length slots ≡ length e
    pub long2 : length new ≡ length n

  -- COPIES

  -- a copied value goes to a new slot of u, where a row brings it to the hand of u
  copied : {e n : Env} {slots new : List Value} (p : Pair e n slots new) (name : Option Text) (x : Owned) (v : Value) → IsKnown owed heap (val_of g u v) → NoTask (val_of g u v) → length n < high
      → After (slot_k u) (rank_of high) (hand_k u) p.types n (put_value (pair_u slots (vals g u new) gone_v) (at_key (hand_k u)) (val_of g u v)) (Some (own x)) → Pair e (record { name = name; part = whole (own x) } ∷ n) slots (v ∷ new)
  copied {e = e} {n = n} {slots = slots} {new = new} p name x v may plain room a =
      let P = IsKnown owed heap in
      let hv = val_of g u v in
      let key = slot_k u (length n) in
      let s0 = pair_u slots (vals g u new) gone_v in
      let s1 = put_value s0 (at_key (hand_k u)) hv in
      let s2 = pair_u slots (vals g u new) hv in
      let alike1 : Alike s1 s2 = list_put_hand (key_value rest t (vals g t slots) gone_v) u (vals g u new) gone_v objects hv in
      let c1 = (alike_row (slot_k u) (rank_of high) (hand_k u) n a.env s1 s2 (Some (own x)) alike1).0 a.thread in
      let owned = exact_owned (slot_k u) a.env x (a.env (hand_k u)) a.thread.temp in
      let b = let_row (slot_k u) (rank_of high) (hand_k u) n a.env s2 (own x) name (keys_of u high) c1 (λ m w f. absurd (not_ref (tree_of x) m w (sym owned ∙ f))) room in
      let length_new : length (vals g u new) ≡ length n = length_vals g u new ∙ p.long2 in
      let s3 = swap s2 (hand_k u) (at_key key) in
      let s4 = pair slots (v ∷ new) in
      let alike3 : Alike s3 s4 =
      Alike-then s3 (pair_u slots (vals g u (v ∷ new)) gone_v) s4
      (subst (λ (i : ℕ). Alike (swap s2 (hand_k u) (at_key (slot_k u i))) (pair_u slots (vals g u (v ∷ new)) gone_v)) length_new (list_push (key_value rest t (vals g t slots) gone_v) u (vals g u new) hv objects)) (pair_back slots (v ∷ new)) in
      let near0 : IsBeside (record lone { types = p.types }) u p.types = record { others = λ k ne. refl; own = p.local } in
      let near = beside_after u (beside_after u near0 a) b in
      let c2 = (alike_row (slot_k u) (rank_of high) (hand_k u) (record { name = name; part = whole (own x) } ∷ n) b.env s3 s4 None alike3).0 b.thread in
      let k1 = known_alike P tt s1 s2 (known_put P tt s0 (at_key (hand_k u)) hv (known_alike P tt (pair slots new) s0 p.known (pair_alike slots new)) may plain) alike1 in
      record {
        types = b.env;
        parent = other_thread t high b.env s4 p.local near.own (λ k f. near.others k (λ h. apart (some_number (sym f ∙ h)))) c2.typed p.parent;
        child = c2;
        local = near.own;
        kept = λ k nt nu. near.others k nu ∙ p.kept k nt nu;
        known = known_alike P tt s3 s4 (known_swap P tt s2 (hand_k u) (at_key key) k1) alike3;
        long = p.long;
        long2 = ap suc p.long2;
      }
    where
      some_number : {a b : ℕ} → Some a ≡ Some b → a ≡ b
      some_number f = cc

      not_ref : (r : Tree) (m : Bool) (w : Place) → owns r ≡ refers m w → ⊥
      not_ref r m w f = cc

  -- what stands in a slot of t
  slot_is : (slots new : List Value) (i : ℕ) (v : Value) → slot_at slots i ≡ Some v → (pair slots new).at (slot_k t i) ≡ val_of g t v
  slot_is slots new i v e =
      eq_cases (λ p. (if p then slot_value (vals g t slots) i else key_value rest u (vals g u new) gone_v (slot_k t i)) ≡ slot_value (vals g t slots) i) t t (λ _. refl) (λ ne. absurd (ne refl)) ∙ slot_seen g t slots i v e

  -- a copied variable
  copies_over : {e n : Env} {slots new : List Value} (p : Pair e n slots new) (name : Option Text) (i : ℕ) (x : Owned) (v : Value) → Copies e (variable i) (own x) → slot_at slots i ≡ Some v → length n < high → Pair e (record { name = name; part = whole (own x) } ∷ n) slots (v ∷ new)
  copies_over {e = e} {n = n} {slots = slots} {new = new} p name i int v c there room =
      let f = read_int_row (slot_k t) (rank_of high) (hand_k t) e p.types (pair slots new) None (variable i) (keys_of t high) p.parent c.there c.is in
      let l : at_key (slot_k t i) ≡ f.0 = let h : Some (at_key (slot_k t i)) ≡ Some f.0 = f.2 in cc in
      let value : val_of g t v ≡ int_v f.1 = sym (slot_is slots new i v there) ∙ some_val (ap (value_at (pair slots new)) l ∙ f.3) in
      let is = int_val g t v f.1 value in
      let there_u : int_v f.1 ≡ val_of g u v = ap (val_of g u) (sym is) in
      let s0 = pair_u slots (vals g u new) gone_v in
      let child = (alike_row (slot_k u) (rank_of high) (hand_k u) n p.types (pair slots new) s0 None (pair_alike slots new)).0 p.child in
      copied p name int v (subst (IsKnown owed heap) there_u tt) (λ a r h. let q : int_v f.1 ≡ task_v a r = there_u ∙ h in cc) room
      (subst (λ (w : Val). After (slot_k u) (rank_of high) (hand_k u) p.types n (put_value s0 (at_key (hand_k u)) w) (Some (own int))) there_u (int_row (slot_k u) (rank_of high) (hand_k u) n p.types s0 f.1 (keys_of u high) child))
    where
      some_val : {a b : Val} → Some a ≡ Some b → a ≡ b
      some_val h = cc
  copies_over {e = e} {n = n} {slots = slots} {new = new} p name i unit v c there room =
      let f = read_unit_row (slot_k t) (rank_of high) (hand_k t) e p.types (pair slots new) None (variable i) (keys_of t high) p.parent c.there c.is in
      let l : at_key (slot_k t i) ≡ f.0 = let h : Some (at_key (slot_k t i)) ≡ Some f.0 = f.1 in cc in
      let value : val_of g t v ≡ unit_v = sym (slot_is slots new i v there) ∙ some_val (ap (value_at (pair slots new)) l ∙ f.2) in
      let is = unit_val g t v value in
      let there_u : unit_v ≡ val_of g u v = ap (val_of g u) (sym is) in
      let s0 = pair_u slots (vals g u new) gone_v in
      let child = (alike_row (slot_k u) (rank_of high) (hand_k u) n p.types (pair slots new) s0 None (pair_alike slots new)).0 p.child in
      copied p name unit v (subst (IsKnown owed heap) there_u tt) (λ a r h. let q : unit_v ≡ task_v a r = there_u ∙ h in cc) room
      (subst (λ (w : Val). After (slot_k u) (rank_of high) (hand_k u) p.types n (put_value s0 (at_key (hand_k u)) w) (Some (own unit))) there_u (unit_row (slot_k u) (rank_of high) (hand_k u) n p.types s0 (keys_of u high) child))
    where
      some_val : {a b : Val} → Some a ≡ Some b → a ≡ b
      some_val h = cc
  copies_over p name i (box x) v c there room = let h = c.copied in cc
  copies_over p name i (mutex x) v c there room = let h = c.copied in cc
  copies_over p name i (task x) v c there room = let h = c.copied in cc

  -- MOVES

  -- what stands where after a move from slot i of t to the next slot of u
  moved_alike : (slots new : List Value) (i : ℕ) (v : Value) → i < length slots → slot_at slots i ≡ Some v → val_of g u v ≡ val_of g t v → Alike (swap (pair slots new) (slot_k u (length new)) (at_key (slot_k t i))) (pair (with_slot slots i gone_value) (v ∷ new))
  moved_alike slots new i v lt there same = by
    where
      s : Store
      s = pair slots new

      from : Key
      from = slot_k t i

      to : Key
      to = slot_k u (length new)

      differ : to ≢ from
      differ f = apart (second f)
        where
          second : {a b c d : ℕ} → slot_k a b ≡ slot_k c d → c ≡ a
          second h = cc

      -- the slots of t, after the move
      slots_t : (j : ℕ) → slot_value (vals g t (with_slot slots i gone_value)) j ≡ (if j == i then gone_v else slot_value (vals g t slots) j)
      slots_t j = ap (λ q. slot_value q j) (vals_with g t slots i gone_value) ∙ slot_put (vals g t slots) i j gone_v (subst (λ q. i < q) (sym (length_vals g t slots)) lt)

      to_empty : s.at to ≡ gone_v
      to_empty =
          eq_cases (λ p. (if p then slot_value (vals g t slots) (length new) else (if u == u then slot_value (vals g u new) (length new) else rest to)) ≡ gone_v) u t (λ e. absurd (apart (sym e)))
          (λ _. eq_cases (λ p. (if p then slot_value (vals g u new) (length new) else rest to) ≡ gone_v) u u (λ _. slot_above (vals g u new) (length new) (let q = length_vals g u new in omega (arith, q))) (λ ne. absurd (ne refl)))

      at_from : Some (s.at to) ≡ Some ((pair (with_slot slots i gone_value) (v ∷ new)).at from)
      at_from = ap Some (to_empty ∙ sym (eq_cases (λ p. (if p then slot_value (vals g t (with_slot slots i gone_value)) i else key_value rest u (vals g u (v ∷ new)) gone_v from) ≡ gone_v) t t
          (λ _. slots_t i ∙ eq_cases (λ p. (if p then gone_v else slot_value (vals g t slots) i) ≡ gone_v) i i (λ _. refl) (λ ne. absurd (ne refl))) (λ ne. absurd (ne refl))))

      at_to : Some (s.at from) ≡ Some ((pair (with_slot slots i gone_value) (v ∷ new)).at to)
      at_to = ap Some (slot_is slots new i v there ∙ sym same ∙ sym (eq_cases (λ p. (if p then slot_value (vals g t (with_slot slots i gone_value)) (length new) else (if u == u then slot_value (vals g u (v ∷ new)) (length new) else rest to)) ≡ val_of g u v) u t (λ e. absurd (apart (sym e)))
          (λ _. eq_cases (λ p. (if p then slot_value (vals g u (v ∷ new)) (length new) else rest to) ≡ val_of g u v) u u
          (λ _. eq_cases (λ p. (if p then val_of g u v else slot_value (vals g u new) (length new)) ≡ val_of g u v) (length new) (length (vals g u new)) (λ _. refl) (λ ne. absurd (ne (sym (length_vals g u new))))) (λ ne. absurd (ne refl)))))

      -- another slot
      other : (q j : ℕ) → slot_k q j ≢ to → slot_k q j ≢ from → (pair (with_slot slots i gone_value) (v ∷ new)).at (slot_k q j) ≡ s.at (slot_k q j)
      other q j a b =
          eq_cases (λ p. (if p then slot_value (vals g t (with_slot slots i gone_value)) j else (if q == u then slot_value (vals g u (v ∷ new)) j else rest (slot_k q j))) ≡ (if p then slot_value (vals g t slots) j else (if q == u then slot_value (vals g u new) j else rest (slot_k q j)))) q t
          (λ e. slots_t j ∙ eq_cases (λ p. (if p then gone_v else slot_value (vals g t slots) j) ≡ slot_value (vals g t slots) j) j i (λ f. absurd (b (ap (λ z. slot_k z j) e ∙ ap (slot_k t) f))) (λ _. refl))
          (λ _. eq_cases (λ p. (if p then slot_value (vals g u (v ∷ new)) j else rest (slot_k q j)) ≡ (if p then slot_value (vals g u new) j else rest (slot_k q j))) q u
          (λ e. eq_cases (λ p. (if p then val_of g u v else slot_value (vals g u new) j) ≡ slot_value (vals g u new) j) j (length (vals g u new)) (λ f. absurd (a (ap (λ z. slot_k z j) e ∙ ap (slot_k u) (f ∙ length_vals g u new)))) (λ _. refl)) (λ _. refl))

      by_key : (k : Key) → (k ≡ to) ⊎ (k ≢ to) → (k ≡ from) ⊎ (k ≢ from) → Some ((pair (with_slot slots i gone_value) (v ∷ new)).at k) ≡ value_at (swap s to (at_key from)) (at_key k)
      by_key k (inl e) f = ap (λ q. Some ((pair (with_slot slots i gone_value) (v ∷ new)).at q)) e ∙ sym at_to ∙ sym (swap_hand s to (at_key from) (s.at from) refl) ∙ ap (λ q. value_at (swap s to (at_key from)) (at_key q)) (sym e)
      by_key k (inr e) (inl f) = ap (λ q. Some ((pair (with_slot slots i gone_value) (v ∷ new)).at q)) f ∙ sym at_from ∙ sym (swap_at s to (at_key from) (λ h. differ cc)) ∙ ap (λ q. value_at (swap s to (at_key from)) (at_key q)) (sym f)
      by_key (slot_k q j) (inr e) (inr f) = ap Some (other q j e f) ∙ sym (swap_other s to (at_key from) (at_key (slot_k q j)) (λ h. e cc) (λ h. f cc))
      by_key (temp_k q j) (inr e) (inr f) = sym (swap_other s to (at_key from) (at_key (temp_k q j)) (λ h. e cc) (λ h. f cc))
      by_key (content_k q j) (inr e) (inr f) = sym (swap_other s to (at_key from) (at_key (content_k q j)) (λ h. e cc) (λ h. f cc))
      by_key (result_k q) (inr e) (inr f) = sym (swap_other s to (at_key from) (at_key (result_k q)) (λ h. e cc) (λ h. f cc))
      by_key (hand_k q) (inr e) (inr f) = sym (swap_other s to (at_key from) (at_key (hand_k q)) (λ h. e cc) (λ h. f cc))

      by : Alike (swap s to (at_key from)) (pair (with_slot slots i gone_value) (v ∷ new))
      by (at_object o) = refl
      by (at_key k) = by_key k (decide_key k to) (decide_key k from)

  -- a moved variable
  moves_over : {e n e1 : Env} {slots new : List Value} (p : Pair e n slots new) (name : Option Text) (i : ℕ) (x : Owned) (v : Value) → Moves e (variable i) (own x) e1 → slot_at slots i ≡ Some v → length n < high → Pair e1 (record { name = name; part = whole (own x) } ∷ n) (with_slot slots i gone_value) (v ∷ new)
  moves_over {e = e} {n = n} {e1 = e1} {slots = slots} {new = new} p name i x v m there room =
      let P = IsKnown owed heap in
      let s = pair slots new in
      let c = capture_typed (slot_k t) (slot_k u) (rank_of high) (hand_k t) (hand_k u) e n p.types s i name x (keys_of t high) (keys_of u high) p.parent p.child (λ a b f. apart (first f)) (λ a f. cc) (λ a f. cc) room m.there m.is m.free in
      let E2 = captured_types (slot_k t) (slot_k u) n p.types i x in
      let typed_there = exact_owned (slot_k t) p.types x (p.types (slot_k t i)) (slot_exact (slot_k t) p.types (mut_place (rank_of high) p.types s p.parent.typed) e i (whole (own x)) p.parent.slots m.is) in
      let fits : TopFits (tree_of x) (val_of g t v) = subst (TopFits (tree_of x)) (slot_is slots new i v there) (top_fits (rank_of high) p.types s p.parent.typed (slot_k t i) (tree_of x) typed_there) in
      let owned = fits_owned g t x v fits in
      let same : val_of g u v ≡ val_of g t v = ap (val_of g u) owned.1 ∙ sym (ap (val_of g t) owned.1) in
      let lt : i < length slots = subst (λ q. i < q) (sym p.long) m.there in
      let s2 = swap s (slot_k u (length n)) (at_key (slot_k t i)) in
      let s3 = pair (with_slot slots i gone_value) (v ∷ new) in
      let alike : Alike s2 s3 = subst (λ (q : ℕ). Alike (swap s (slot_k u q) (at_key (slot_k t i))) s3) p.long2 (moved_alike slots new i v lt there same) in
      let local : IsLocal E2 = λ j q w f. p.local j q w (known_tree (slot_k t) (hand_k t) p.types (slot_k t i) hole j q w (known_tree (slot_k t) (hand_k t) (with_type p.types (slot_k t i) (owns hole)) (slot_k u (length n)) (tree_of x) j q w f)) in
      let after : put_at e (variable i) (gone (own x)) ≡ e1 = sym m.after in
      record {
        types = E2;
        parent = subst (λ (f : Env). ThreadTyped (slot_k t) (rank_of high) (hand_k t) f E2 s3 None) after ((alike_row (slot_k t) (rank_of high) (hand_k t) (put_at e (variable i) (gone (own x))) E2 s2 s3 None alike).0 c.0);
        child = (alike_row (slot_k u) (rank_of high) (hand_k u) (record { name = name; part = whole (own x) } ∷ n) E2 s2 s3 None alike).0 c.1;
        local = local;
        kept = λ k nt nu. key_other k (slot_k u (length n)) (owns (tree_of x)) (with_type p.types (slot_k t i) (owns hole) k) (λ f. nu (ap thread_of f)) ∙ key_other k (slot_k t i) (owns hole) (p.types k) (λ f. nt (ap thread_of f)) ∙ p.kept k nt nu;
        known = known_alike P tt s2 s3 (known_swap P tt s (slot_k u (length n)) (at_key (slot_k t i)) p.known) alike;
        long = length_with_slot slots i gone_value ∙ p.long ∙ sym (length_put e (variable i) (gone (own x))) ∙ ap length after;
        long2 = ap suc p.long2;
      }
    where
      first : {a b c d : ℕ} → slot_k a b ≡ slot_k c d → a ≡ c
      first h = cc

  -- ALL CAPTURES

  -- the captured values go over
  pub record Goes (e n : Env) (cs : List Capture) (slots new : List Value) : Type 0 where
    pub passed : Passed
    pub is : pass cs slots new ≡ Some passed
    pub typed : Pair e n passed.left passed.new

  pub passes : {e n e2 n2 : Env} {cs : List Capture} {slots new : List Value} → RunCaptures e n cs e2 n2 → Pair e n slots new → length n + length cs < high → Goes e2 n2 cs slots new
  passes {slots = slots} {new = new} c_none p room = record { passed = record { left = slots; new = new }; is = refl; typed = p }
  passes {slots = slots} {new = new} (c_copy {i = i} {x = x} {cs = cs} name c rest_of) p room =
      let v = slot_there slots i (subst (λ q. i < q) (sym p.long) c.there) in
      let r = passes rest_of (copies_over p name i x v.0 c v.1 (omega arith)) (omega arith) in
      record { passed = r.passed; is = ap (λ q. then_passed q (λ w. pass cs slots (w ∷ new))) v.1 ∙ r.is; typed = r.typed }
  passes {slots = slots} {new = new} (c_move {i = i} {x = x} {cs = cs} name m rest_of) p room =
      let v = slot_there slots i (subst (λ q. i < q) (sym p.long) m.there) in
      let r = passes rest_of (moves_over p name i x v.0 m v.1 (omega arith)) (omega arith) in
      record { passed = r.passed; is = ap (λ q. then_passed q (λ w. pass cs (with_slot slots i gone_value) (w ∷ new))) v.1 ∙ r.is; typed = r.typed }
