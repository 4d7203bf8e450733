-- The end of a thread keeps a state typed.
use Rattle.std.specs.Prelude.{◌++◌, if◌then◌else◌}
use Rattle.std.proofs.Common.{◌≡◌, ◌≢◌, inl, ⊎_elim, ℕ, ◌+◌, true, false, [], ◌∷◌, length, Option, Some, None, refl, sym, ap, ◌∙◌, subst, arith}
use Rattle.fr_plain.specs.Below.fr_base.declared.label.Label.TheVariants as label
use Rattle.fr_plain.specs.Below.fr_base.declared.step.Fresh.TheVariants as fresh
use Rattle.fr_plain.specs.Below.fr_typing.Kinds.{Kind, own}
use Rattle.fr_plain.proofs.Below.fr_typing.PlaceLemmas.{eq_cases}
use Rattle.fr_store.specs.Keys.{Key, slot_k, temp_k, content_k, result_k, hand_k}
use Rattle.fr_store.specs.Store.{Alike, Val, gone_v, at_key, at_object, Store, value_at, swap}
use Rattle.fr_store.specs.Typed.{hole, owns, KeyTypes, Typed}
use Rattle.fr_store.specs.Below.{tree_of}
use Rattle.fr_store.specs.Rows.{with_type}
use Rattle.fr_store.specs.Local.{thread_of, IsLocal}
use Rattle.fr_store.proofs.Keys.{key_same, key_other, decide_number}
use Rattle.fr_store.proofs.Rows.{same_store, swap_own, swap_at, swap_hand, swap_other}
use Rattle.fr_store.proofs.ListPlaces.{gone_is_hole}
use Rattle.fr_store.proofs.ListState.{at_hand as at_hand_key}
use Rattle.fr_store.proofs.ThreadKept.{known_tree}
use Rattle.fr_plain.specs.declared.value.Value.{Value}
use Rattle.fr_plain.specs.State.{State}
use Rattle.fr_plain.specs.Acts.{Act, do_finish, lets_go, drops_last}
use Rattle.fr_plain.specs.Run.{Run, Move, alone, Life, over, owing, ended, life_move}
use Rattle.fr_plain.specs.Threads.{result_of_life}
use Rattle.fr_plain.proofs.Tasks.{release_tasks}
use Rattle.fr_plain.specs.Whole.{Thread, Whole, Stepped, thread_at, with_thread, with_life, let_go, prints, state_of, stepped, then_released, moved, step_of}
use Rattle.fr_sound.specs.RunTypes.{held_after, Operand, ActTypes}
use Rattle.fr_sound.specs.Seen.{Gives, Beside, val_of, vals, hand_of, heap_of, seen, rank_of, IsKnown, HasNone, Holds}
use Rattle.fr_sound.specs.Together.{hand_in, result_val, seen_all, is_owed, owed_by, owed_in, IsTypedIn, AreTyped, StepsOn}
use Rattle.fr_sound.proofs.Known.{known_swap, known_alike, none_alike}
use Rattle.fr_sound.proofs.Hand.{at_hand, hand_owns, Acted}
use Rattle.fr_sound.proofs.ActsHold.{raised_store, acts_hold}
use Rattle.fr_sound.proofs.Whole.{own_act}
use Rattle.fr_sound.proofs.Focus.{beside_of, focus_alike}
use Rattle.fr_sound.proofs.Unfocus.{TypedWith, base_of, after_thread, unfocus_alike, unfocus, known_owed, rebuild}
use Rattle.fr_sound.proofs.Release.{unnamed_result, unnamed_hand, found_life, kept_life, slots_life, results_life, result_life, result_before, owed_life, released_typed}
use Rattle.fr_sound.proofs.OwnStep.{thread_state}

-- a thread that nobody has the task of ends, and its result is dropped
pub ends_over : {s : Whole} {o : Option Kind} (y : AreTyped s) (x : Thread) (a : Act) (h : Option Value) → thread_at s.threads x.number ≡ Some x → Holds (beside_of y.gives y.types s.threads) [] o h (state_of s x) → ActTypes [] o h a None [] → ((v : Value) → held_after a h v ≡ None)
    → result_of_life x.life ≡ None → is_owed x.life ≡ false → life_move x.life ≡ alone (λ u. over) a → StepsOn s x.number fresh.None
ends_over {s = s} y x a h found z types left none owed moves =
    let g = y.gives in
    let b = beside_of g y.types s.threads in
    let d : Acted b a h (state_of s x) None [] = acts_hold z types in
    let same = thread_state d.did.state x.number d.same in
    let st2 : State = record { thread = x.number; slots = d.did.state.slots; heap = d.did.state.heap } in
    let holds : Holds b [] None None st2 = subst (λ (q : State). Holds b [] None None q) same (subst (λ (v : Option Value). Holds b [] None v d.did.state) (left d.did.value) d.holds) in
    let out = s.output ++ prints d.did.labels in
    let u = lets_go a (state_of s x) in
    let m : Move Life = record { act = a; plug = λ v. over } in
    let next_state : Whole = record s { threads = with_thread s.threads (after_thread x over d.did.state.slots); heap = d.did.state.heap; output = out } in
    let last = drops_last a (state_of s x) in
    let typed : TypedWith g next_state = unfocus g x s.threads (base_of y x.number) found over d.did.state.slots d.did.state.heap (record s { output = out }) y.neither [] None holds refl none (sym owed) tt in
    record {
      next = record { state = let_go next_state u; labels = d.did.labels };
      is = ap (step_of s fresh.None) found ∙ ap (moved s x fresh.None) moves ∙ own_act types s x m ∙ ap (λ q. then_released last (stepped s x m q)) d.is ∙ ap (λ (z : Whole). (let n : Stepped = record { state = z; labels = d.did.labels } in Some n)) (release_tasks next_state y.neither.0 last);
      typed = released_typed (length next_state.threads) typed.together u (λ t f. subst (λ (q : Gives). HasNone t (seen_all q next_state)) (sym typed.same)
          (none_alike t (seen b st2 None) (seen_all g next_state) (subst (λ (q : State). HasNone t (seen b q None)) same (subst (λ (v : Option Value). HasNone t (seen b d.did.state v)) (left d.did.value) (d.frees t f)))
          (unfocus_alike g y.types s.threads x found over d.did.state.slots d.did.state.heap (record s { output = out }) refl none)));
    }

-- a thread whose task somebody has ends, and its result is kept
pub ends_kept : {s : Whole} {o : Option Kind} (y : AreTyped s) (x : Thread) (r : Run) (v : Value) (h : Option Value) → thread_at s.threads x.number ≡ Some x → x.life ≡ owing r → Holds (beside_of y.gives y.types s.threads) [] o h (state_of s x) → Operand o h v (own (y.gives.result x.number))
    → life_move x.life ≡ alone ended (do_finish v) → StepsOn s x.number fresh.None
ends_kept {s = s} {o = o} y x r v h found life z p moves =
    let g = y.gives in
    let t = x.number in
    let b = beside_of g y.types s.threads in
    let st = state_of s x in
    let z1 : Holds b [] (Some (own (g.result t))) (Some v) st = at_hand z p in
    let hand = hand_k t in
    let res = result_k t in
    let tree = tree_of (g.result t) in
    let s1 = seen b st (Some v) in
    let before : (seen_all g s).at res ≡ gone_v = result_before g s x found over ∙ ap (λ l. hand_of g t (result_of_life l)) life in
    let hole_there : z1.types res ≡ owns hole = z1.beside.others res (λ f. cc) ∙ gone_is_hole (rank_of y.high) y.types (seen_all g s) res y.typed before in
    let E2 = with_type z1.types hand (owns hole) in
    let E3 = with_type E2 res (owns tree) in
    let typed1 : Typed (rank_of z1.high) E3 (swap s1 res (at_key hand)) = swap_own (rank_of z1.high) z1.types s1 res hand 0 hole tree tree (at_key hand) z1.thread.typed (unnamed_result t z1.beside.own) (λ f. cc) hole_there (unnamed_hand t z1.beside.own) (hand_owns z1) refl refl in
    let out = s.output ++ prints (label.End t ∷ []) in
    let s2 : Whole = record s { threads = with_thread s.threads (with_life x (ended v)); output = out } in
    let alike : Alike (swap s1 res (at_key hand)) (seen_all g s2) = kept_alike before in
    let high2 = y.high + z1.high in
    let local : IsLocal E3 = λ j m u is. z1.beside.own j m u (known_tree (slot_k t) hand z1.types hand hole j m u (known_tree (slot_k t) hand E2 res tree j m u is)) in
    let known1 = known_alike (IsKnown (owed_in s.threads) s.heap) tt (swap s1 res (at_key hand)) (seen_all g s2) (known_swap (IsKnown (owed_in s.threads) s.heap) tt s1 res (at_key hand) z1.known) alike in
    record {
      next = record { state = s2; labels = label.End t ∷ [] };
      is = ap (step_of s fresh.None) found ∙ ap (moved s x fresh.None) moves;
      typed = (rebuild y s2 t (record {
        high = high2;
        types = E3;
        neither = y.neither;
        higher = omega arith;
        typed = same_store (rank_of high2) E3 E3 (swap s1 res (at_key hand)) (seen_all g s2) (raised_store z1.high high2 (omega arith) local typed1) (λ j. refl) alike;
        local = local;
        known = known_owed (owed_in s.threads) (owed_in s2.threads) s.heap (seen_all g s2) (λ u f. still_owed u f) known1;
        kept = λ k n e ne. kept_type k n e ne z1.types (λ f. z1.beside.others k f);
        mine = λ w is. subst (λ (q : Thread). IsTypedIn g high2 E3 (seen_all g s2) t q.slots q.life) (some_thread (with_life x (ended v)) w (sym (found_life g s x found (ended v)) ∙ is)) (key_same res (owns tree) (E2 res));
        others = λ u w ne is. inl (
          sym (kept_life g s x found (ended v) u ne) ∙ is,
          key_other (result_k u) res (owns tree) (E2 (result_k u)) (λ f. ne cc) ∙ key_other (result_k u) hand (owns hole) (z1.types (result_k u)) (λ f. cc) ∙ z1.beside.others (result_k u) (λ f. cc),
        );
      })).together;
    }
  where
    some_thread : (a b : Thread) → Some a ≡ Some b → a ≡ b
    some_thread a b e = cc

    some_number : (a b : ℕ) → Some a ≡ Some b → a ≡ b
    some_number a b e = cc

    kept_type : (k : Key) (n : ℕ) → thread_of k ≡ Some n → n ≢ x.number → (E : KeyTypes) → (thread_of k ≢ Some x.number → E k ≡ y.types k) → with_type (with_type E (hand_k x.number) (owns hole)) (result_k x.number) (owns (tree_of (y.gives.result x.number))) k ≡ y.types k
    kept_type k n e ne E others =
        key_other k (result_k x.number) (owns (tree_of (y.gives.result x.number))) (with_type E (hand_k x.number) (owns hole) k) (λ f. let z : None ≡ Some n = ap thread_of (sym f) ∙ e in cc)
        ∙ key_other k (hand_k x.number) (owns hole) (E k) (λ f. ne (some_number n x.number (sym e ∙ ap thread_of f))) ∙ others (λ f. ne (some_number n x.number (sym e ∙ f)))

    still_owed : (u : ℕ) → owed_in s.threads u ≡ true → owed_in (with_thread s.threads (with_life x (ended v))) u ≡ true
    still_owed u f = ⊎_elim
        (λ (e : u ≡ x.number). ap (λ q. owed_by (thread_at (with_thread s.threads (with_life x (ended v))) q)) e ∙ ap owed_by (found_life y.gives s x found (ended v)))
        (λ (ne : u ≢ x.number). owed_life y.gives s x found (ended v) u ne ∙ f) (decide_number u x.number)

    b : Beside
    b = beside_of y.gives y.types s.threads

    s1 : Store
    s1 = seen b (state_of s x) (Some v)

    s2 : Whole
    s2 = record s { threads = with_thread s.threads (with_life x (ended v)); output = s.output ++ prints (label.End x.number ∷ []) }

    from_some : (a c : Val) → Some a ≡ Some c → a ≡ c
    from_some a c e = cc

    kept_alike : (seen_all y.gives s).at (result_k x.number) ≡ gone_v → Alike (swap s1 (result_k x.number) (at_key (hand_k x.number))) (seen_all y.gives s2)
    kept_alike before (at_object q) = refl
    kept_alike before (at_key (slot_k u n)) =
        ap Some (slots_life y.gives s x found (ended v) u n) ∙ sym (focus_alike y.gives y.types s x found (at_key (slot_k u n))) ∙ sym (swap_other s1 (result_k x.number) (at_key (hand_k x.number)) (at_key (slot_k u n)) (λ f. cc) (λ f. cc))
    kept_alike before (at_key (temp_k u n)) = sym (swap_other s1 (result_k x.number) (at_key (hand_k x.number)) (at_key (temp_k u n)) (λ f. cc) (λ f. cc))
    kept_alike before (at_key (content_k u n)) = sym (swap_other s1 (result_k x.number) (at_key (hand_k x.number)) (at_key (content_k u n)) (λ f. cc) (λ f. cc))
    kept_alike before (at_key (result_k u)) = ⊎_elim
        (λ (e : u ≡ x.number). ap (λ q. Some (result_val y.gives q (thread_at s2.threads q))) e ∙ ap Some (result_life y.gives s x found (ended v))
        ∙ ap Some (sym (at_hand_key b.at x.number (vals y.gives x.number x.slots) (val_of y.gives x.number v) (heap_of y.gives s.heap)))
        ∙ sym (swap_hand s1 (result_k x.number) (at_key (hand_k x.number)) (s1.at (hand_k x.number)) refl) ∙ ap (λ q. value_at (swap s1 (result_k x.number) (at_key (hand_k x.number))) (at_key (result_k q))) (sym e))
        (λ (ne : u ≢ x.number). ap Some (results_life y.gives s x found (ended v) u ne) ∙ sym (swap_other s1 (result_k x.number) (at_key (hand_k x.number)) (at_key (result_k u)) (λ f. ne cc) (λ f. cc))) (decide_number u x.number)
    kept_alike before (at_key (hand_k u)) = ⊎_elim
        (λ (e : u ≡ x.number). ap (λ q. Some (hand_in y.gives q (thread_at s2.threads q))) e ∙ ap (λ q. Some (hand_in y.gives x.number q)) (found_life y.gives s x found (ended v)) ∙ ap Some (sym before)
        ∙ sym (swap_at s1 (result_k x.number) (at_key (hand_k x.number)) (λ f. cc)) ∙ ap (λ q. value_at (swap s1 (result_k x.number) (at_key (hand_k x.number))) (at_key (hand_k q))) (sym e))
        (λ (ne : u ≢ x.number). ap (λ q. Some (hand_in y.gives u q)) (kept_life y.gives s x found (ended v) u ne)
        ∙ sym (swap_other s1 (result_k x.number) (at_key (hand_k x.number)) (at_key (hand_k u)) (λ f. cc) (λ f. ne cc) ∙ ap Some (other_hand u ne))) (decide_number u x.number)
      where
        other_hand : (u : ℕ) → u ≢ x.number → s1.at (hand_k u) ≡ hand_in y.gives u (thread_at s.threads u)
        other_hand u ne = eq_cases (λ q. (if q then val_of y.gives x.number v else hand_in y.gives u (thread_at s.threads u)) ≡ hand_in y.gives u (thread_at s.threads u)) u x.number (λ e. absurd (ne e)) (λ _. refl)
