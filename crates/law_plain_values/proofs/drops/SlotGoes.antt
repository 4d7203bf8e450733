-- The value of the newest slot, which is owned, comes to a carrier, and the slot goes.
use Rattle.std.proofs.Common.{◌≡◌, ◌≢◌, inl, ⊎_elim, ◌∙◌, ap₂, ℕ, suc, ◌<◌, Bool, true, false, List, [], ◌∷◌, length, Option, Some, None, refl, sym, ap, subst, arith}
use Rattle.std.specs.Prelude.{is_some}
use Rattle.fr_base.specs.declared.label.Plain.{Plain}
use Rattle.fr_base.specs.declared.name.ObjNo.{ObjNo}
use Rattle.fr_base.specs.declared.name.MutexNo.{MutexNo}
use Rattle.fr_typing.specs.Kinds.{Owned, Kind, Piece}
use Rattle.fr_typing.specs.Places.{Slot, Env, AreBelow, piece_places}
use Rattle.fr_store.specs.Keys.{Key, slot_k, temp_k, content_k, result_k, hand_k}
use Rattle.fr_store.specs.Store.{ref_v, Store}
use Rattle.fr_store.specs.Typed.{Tree, hole, owns, KeyTypes, Unnamed}
use Rattle.fr_store.specs.Below.{TreeOf}
use Rattle.fr_store.specs.Rows.{with_type}
use Rattle.fr_store.specs.Thread.{ThreadKeys, ThreadTyped, temp_places}
use Rattle.fr_store.proofs.Keys.{decide_number}
use Rattle.fr_store.proofs.ThreadKept.{slots_with, known_tree, last_unnamed, temp_with}
use Rattle.fr_plain.specs.declared.value.Value.{Value}
use Rattle.fr_plain.specs.declared.value.Value.TheVariants.{Own, Held}
use Rattle.fr_plain.specs.State.{slot_at}
use Rattle.fr_plain.specs.PlainState.{Running, PlainState, place_in}
use Rattle.fr_sound.specs.Entries.{Entry, going}
use Rattle.fr_sound.specs.Seen.{owned_val}
use Rattle.fr_sound.specs.States.{Typing, RunningTyped, slot_val, temp_val, result_val, content_val, env_at, is_hidden, is_held, IsLock, IsMark, IsKept}
use Rattle.fr_code.specs.CodeTypes.{wait, is_locked}
use Rattle.law_plain_values.specs.acts.Positions.{Position, Knows, temps_of}
use Rattle.law_plain_values.proofs.acts.Lower.{seen_as, seen_is}
use Rattle.law_plain_values.proofs.acts.OneThread.{store, typing_with, RunningCore, with_running, runs_still, kept_still, kept_before, none_ended}
use Rattle.law_plain_values.proofs.acts.Focus.{Tops, hand_at, Focus, unfocus, temp_is, temp_none, temp_free}
use Rattle.law_plain_values.proofs.acts.AtHand.{Only, result_same}
use Rattle.law_plain_values.proofs.acts.Hand.{At, pushed_others, pushed_here}
use Rattle.law_plain_values.proofs.acts.Slots.{below_new, here_new, env_none, lock_with}
use Rattle.law_plain_values.proofs.acts.Rethread.{rethread}
use Rattle.law_plain_values.proofs.acts.Fresh.{none_slot, none_temp, none_result, free_slot}
use Rattle.law_plain_values.proofs.acts.Threads.{no_pair}
use Rattle.fr_sound.specs.States.{part_of}
use Rattle.law_plain_values.proofs.drops.Carrier.{Carries}
use Rattle.law_plain_values.proofs.drops.After.{After, after_carries, mine_by}
use Rattle.law_plain_values.proofs.drops.Handed.{Handed, handed, handed_typed, handed_off, handed_gone, handed_refs, handed_held}
use Rattle.law_plain_values.proofs.drops.Prepared.{IsBeside}
use Rattle.law_plain_values.proofs.drops.HandGoes.{owned_tree}
use Rattle.law_plain_values.proofs.acts.Slots.{owned_in}
use Rattle.fr_store.proofs.Keys.{key_same, key_other}
use Rattle.fr_store.specs.Store.{Location, at_key, at_object, value_at, Place}
use Rattle.fr_store.specs.Typed.{refers}
use Rattle.fr_sound.specs.Seen.{seen_cell}
use Rattle.law_plain_values.specs.acts.Positions.{PositionTypes}
use Rattle.law_plain_values.proofs.acts.OneThread.{Counted}
use Rattle.law_plain_values.proofs.acts.AtHand.{mark_off}
use Rattle.law_plain_values.proofs.acts.SlotTurn.{slots_changed}
use Rattle.law_plain_values.proofs.drops.Shapes.{Went, went_typed, light_carried}

-- whether the newest slot is a mark
locked_top : (e : Env) (i : ℕ) → suc i ≡ length e → is_locked e ≡ is_hidden (env_at e i)
locked_top [] i q = absurd (omega (arith, q))
locked_top (s ∷ e) i q = ap is_hidden (sym (here_new s e i (omega (arith, q))))

module _ {y : Typing} {a : PlainState Position} {t : ℕ} {x : Running Position} {s : Slot} {e : Env} {ts us : List Kind} {o : Option Kind} {g : Owned} (at : At y a t x (s ∷ e) ts g) (fc : Focus y a t (s ∷ e) us o) (tops : Tops us o ts) (idle : o ≡ None → wait us ≡ true)
    (named : is_some s.name ≡ true) (unlocked : is_locked e ≡ false) (low : AreBelow (length e) (temp_places o)) (v : Value) (unheld : is_held (Some v) ≡ false) (vs : List Value) (slots : x.slots ≡ v ∷ vs) where
  run : RunningTyped Knows temps_of y (store y a) t (a.pair t) x
  run = at.state.threads t x at.runs

  e_is : run.entry ≡ going (s ∷ e) ts g
  e_is = sym run.known ∙ at.entry

  long : length vs ≡ length e
  long = let i = ap length (sym slots) ∙ run.all_slots ∙ ap (λ (z : Entry). length z.env) e_is in omega (arith, i)

  slot_off : (i : ℕ) → i ≢ length e → slot_at x.slots i ≡ slot_at vs i
  slot_off i ne = ap (λ z. slot_at z i) slots ∙ pushed_others v vs i (length e) (sym long) ne

  slot_here : slot_at x.slots (length e) ≡ Some v
  slot_here = ap (λ z. slot_at z (length e)) slots ∙ pushed_here v vs (length e) (sym long)

  slot_none : slot_at vs (length e) ≡ None
  slot_none = temp_none vs (length e) (omega (arith, long))

  hidden_now : (i : ℕ) → is_hidden (env_at e i) ≡ is_held (slot_at vs i)
  hidden_now i =
      ⊎_elim (λ (q : i ≡ length e). ap (λ z. is_hidden z) (env_none e i (omega (arith, q))) ∙ sym (ap is_held (ap (slot_at vs) q ∙ slot_none)))
      (λ (ne : i ≢ length e). ap is_hidden (sym (below_new s e i ne)) ∙ ap (λ (z : Entry). is_hidden (env_at z.env i)) (sym e_is) ∙ run.hidden i ∙ ap is_held (slot_off i ne)) (decide_number i (length e))

  -- a mark is none of the slot's, and its content's slot isn't either
  mark_below : (i : ℕ) (m : MutexNo) → slot_at x.slots i ≡ Some (Held m) → i ≢ length e
  mark_below i m h q = let f : false ≡ true = sym unheld ∙ ap is_held (sym slot_here ∙ ap (slot_at x.slots) (sym q) ∙ h) in cc

  lock_of : (st : Store) (i : ℕ) (m : MutexNo) → slot_at x.slots i ≡ Some (Held m) → IsLock y st (s ∷ e) t i m → IsLock y st e t i m
  lock_of st i m h l = lock_with (ap (λ z. owned_in (part_of z)) (sym (below_new s e (suc i) off))) l
    where
      off : suc i ≢ length e
      off q =
          let ne = mark_below i m h in
          let f : false ≡ true = sym unlocked ∙ locked_top e i q ∙ ap is_hidden (sym (below_new s e i ne)) ∙ ap (λ (z : Entry). is_hidden (env_at z.env i)) (sym e_is) ∙ run.hidden i ∙ ap is_held h in
          cc

  seen : (store y a).at (slot_k t (length e)) ≡ seen_as y.gives t (ref_v (y.marks t (length e))) (Some v)
  seen = ap (slot_val temps_of y t (length e)) at.runs ∙ seen_is temps_of y t (length e) x ∙ ap (seen_as y.gives t (ref_v (y.marks t (length e)))) slot_here

  was : (w : Plain) → v ≡ Own w → (store y a).at (slot_k t (length e)) ≡ owned_val y.gives w
  was w own = seen ∙ ap (λ z. seen_as y.gives t (ref_v (y.marks t (length e))) (Some z)) own

  pub slot_tree : (w : Plain) → v ≡ Own w → (tr : Tree) × (y.exact (slot_k t (length e)) ≡ owns tr) × TreeOf s.part tr
  slot_tree w own = owned_tree (slot_k t (length e)) s.part (slot_k t) w at.state (was w own) fc.thread.slots.0

  pub slot_free : Unnamed y.exact (slot_k t (length e))
  slot_free = last_unnamed (slot_k t) y.rank (hand_at t us) (s ∷ e) y.exact (store y a) o (length e) (length e) fc.keys fc.thread low (omega arith) (omega arith)

  module _ (w : Plain) (own : v ≡ Own w) (u : ℕ) (none : a.thread u ≡ None) (keys : ThreadKeys (slot_k u) y.rank (temp_k u 0)) (over : y.rank (slot_k u 0) < y.rank (temp_k u 0)) (a3 a2 : PlainState Position) (only : Only a a3 t (record { place = record { entry = going e ts g; temps = x.place.temps }; slots = vs })) (objects : (b : ObjNo) → a3.object b ≡ a.object b)
      (q : Piece) (tr : Tree) (full : y.exact (slot_k t (length e)) ≡ owns tr) (part : TreeOf q tr) (nested : AreBelow 0 (piece_places q)) (b : IsBeside a3 a2 u q (y.gives.result u) w) where
    abbrev x3 : Running Position
    x3 = record { place = record { entry = going e ts g; temps = x.place.temps }; slots = vs }

    abbrev h0 : Key
    h0 = slot_k t (length e)

    abbrev E2 : KeyTypes
    E2 = with_type (with_type y.exact (slot_k t (length e)) (owns hole)) (slot_k u 0) (owns tr)

    abbrev s1 : Store
    s1 = store y a

    abbrev s2 : Store
    s2 = store (typing_with y E2 y.marks) a2

    differ : t ≢ u
    differ z = let f : None ≡ Some x = sym (ap place_in none) ∙ ap (λ n. place_in (a.thread n)) (sym z) ∙ at.runs in cc

    now_t : a2.thread t ≡ with_running (a.thread t) x3
    now_t = b.others t differ ∙ only.now

    runs_two : place_in (a2.thread t) ≡ Some x3
    runs_two = ap place_in now_t ∙ runs_still (a.thread t) x x3 at.runs

    others : (n : ℕ) → n ≢ t → n ≢ u → a2.thread n ≡ a.thread n
    others n nt nu = b.others n nu ∙ only.others n nt

    after : After y a2 u E2 (owned_val y.gives w)
    after = after_carries y a2 u E2 q (y.gives.result u) w b.here

    slot_seen : (i : ℕ) → s2.at (slot_k t i) ≡ seen_as y.gives t (ref_v (y.marks t i)) (slot_at vs i)
    slot_seen i = ap (slot_val temps_of (typing_with y E2 y.marks) t i) runs_two ∙ seen_is temps_of (typing_with y E2 y.marks) t i x3

    slot_two : (i : ℕ) → i ≢ length e → s2.at (slot_k t i) ≡ s1.at (slot_k t i)
    slot_two i ne = slot_seen i ∙ ap (seen_as y.gives t (ref_v (y.marks t i))) (sym (slot_off i ne)) ∙ sym (seen_is temps_of y t i x) ∙ sym (ap (slot_val temps_of y t i) at.runs)

    temp_two : (i : ℕ) → s2.at (temp_k t i) ≡ s1.at (temp_k t i)
    temp_two i = ap (temp_val temps_of (typing_with y E2 y.marks) t i) runs_two ∙ temp_is (typing_with y E2 y.marks) t i x3 ∙ sym (temp_is y t i x) ∙ sym (ap (temp_val temps_of y t i) at.runs)

    same : (j : Key) → j ≢ h0 → j ≢ slot_k u 0 → s2.at j ≡ s1.at j
    same (slot_k n i) n0 nh =
        ⊎_elim (λ (z : n ≡ t). ap (λ d. s2.at (slot_k d i)) z ∙ slot_two i (λ f. n0 (ap₂ slot_k z f)) ∙ ap (λ d. s1.at (slot_k d i)) (sym z))
        (λ (nt : n ≢ t). ⊎_elim (λ (z : n ≡ u). ap (λ d. s2.at (slot_k d i)) z ∙ after.slots i (λ f. nh (ap₂ slot_k z f)) ∙ sym (none_slot y a at.state u none i) ∙ ap (λ d. s1.at (slot_k d i)) (sym z)) (λ (nu : n ≢ u). ap (λ d. slot_val temps_of y n i (place_in d)) (others n nt nu)) (decide_number n u)) (decide_number n t)
    same (temp_k n i) n0 nh =
        ⊎_elim (λ (z : n ≡ t). ap (λ d. s2.at (temp_k d i)) z ∙ temp_two i ∙ ap (λ d. s1.at (temp_k d i)) (sym z))
        (λ (nt : n ≢ t). ⊎_elim (λ (z : n ≡ u). ap (λ d. s2.at (temp_k d i)) z ∙ after.temps i ∙ sym (none_temp y a at.state u none i) ∙ ap (λ d. s1.at (temp_k d i)) (sym z)) (λ (nu : n ≢ u). ap (λ d. temp_val temps_of y n i (place_in d)) (others n nt nu)) (decide_number n u)) (decide_number n t)
    same (content_k m c) n0 nh = ap (content_val y.gives) (b.mutexes (record { home = m; count = c }) ∙ only.mutexes (record { home = m; count = c }))
    same (result_k n) n0 nh =
        ⊎_elim (λ (z : n ≡ t). ap (λ d. s2.at (result_k d)) z ∙ ap (result_val temps_of y t) now_t ∙ result_same y t (a.thread t) x x3 at.runs ∙ ap (λ d. s1.at (result_k d)) (sym z))
        (λ (nt : n ≢ t). ⊎_elim (λ (z : n ≡ u). ap (λ d. s2.at (result_k d)) z ∙ after.result ∙ sym (none_result y a at.state u none) ∙ ap (λ d. s1.at (result_k d)) (sym z)) (λ (nu : n ≢ u). ap (result_val temps_of y n) (others n nt nu)) (decide_number n u)) (decide_number n t)
    same (hand_k n) n0 nh = refl

    -- MARKS

    mark_to : (m : MutexNo) (n i : ℕ) → IsMark a m n i → IsMark a2 m n i
    mark_to m n i d =
        ⊎_elim
        (λ (z : n ≡ t). let f : Some x ≡ Some d.thread = sym at.runs ∙ ap (λ r. place_in (a.thread r)) (sym z) ∙ d.goes_on in let is : d.thread ≡ x = cc in let h = ap (λ (r : Running Position). slot_at r.slots i) (sym is) ∙ d.mark in record { thread = x3; goes_on = ap (λ r. place_in (a2.thread r)) z ∙ runs_two; mark = sym (slot_off i (mark_below i m h)) ∙ h })
        (λ (nt : n ≢ t). ⊎_elim (λ (z : n ≡ u). let f : None ≡ Some d.thread = sym (ap place_in none) ∙ ap (λ r. place_in (a.thread r)) (sym z) ∙ d.goes_on in absurd cc) (λ (nu : n ≢ u). record { thread = d.thread; goes_on = ap place_in (others n nt nu) ∙ d.goes_on; mark = d.mark }) (decide_number n u)) (decide_number n t)

    still_below : (i : ℕ) (m : MutexNo) → slot_at vs i ≡ Some (Held m) → i ≢ length e
    still_below i m h z = let f : None ≡ Some (Held m) = sym slot_none ∙ ap (slot_at vs) (sym z) ∙ h in cc

    mark_back : (m : MutexNo) (n i : ℕ) → IsMark a2 m n i → IsMark a m n i
    mark_back m n i d =
        ⊎_elim
        (λ (z : n ≡ t). let f : Some x3 ≡ Some d.thread = sym runs_two ∙ ap (λ r. place_in (a2.thread r)) (sym z) ∙ d.goes_on in let is : d.thread ≡ x3 = cc in let h = ap (λ (r : Running Position). slot_at r.slots i) (sym is) ∙ d.mark in record { thread = x; goes_on = ap (λ r. place_in (a.thread r)) z ∙ at.runs; mark = slot_off i (still_below i m h) ∙ h })
        (λ (nt : n ≢ t). ⊎_elim (λ (z : n ≡ u). absurd (after.unmarked d.thread i m (ap (λ r. place_in (a2.thread r)) (sym z) ∙ d.goes_on) d.mark)) (λ (nu : n ≢ u). record { thread = d.thread; goes_on = sym (ap place_in (others n nt nu)) ∙ d.goes_on; mark = d.mark }) (decide_number n u)) (decide_number n t)

    goes : Handed y a a2 t u h0 q w tr
    goes = record {
      state = at.state;
      none = none;
      here = b.here;
      alone = no_pair at;
      differ = differ;
      keys = keys;
      over = over;
      of = refl;
      full = full;
      free = slot_free;
      tree = part;
      nested = nested;
      was = was w own;
      now = slot_seen (length e) ∙ ap (seen_as y.gives t (ref_v (y.marks t (length e)))) slot_none;
      came = after.now;
      same = same;
      others = others;
      pairs = λ n. b.pairs n ∙ only.pairs n;
      kept_to = λ z. subst IsKept (sym now_t) (kept_still (a.thread t) x3 z);
      kept_back = λ z. kept_before (a.thread t) x3 (subst IsKept now_t z);
      unended = λ r z. none_ended (a.thread t) x x3 r at.runs (sym now_t ∙ z);
      stays = record { mutexes = λ m. b.mutexes m ∙ only.mutexes m; given = λ m. b.given m ∙ only.given m; objects = λ c. b.objects c ∙ objects c; marks_to = mark_to; marks_back = mark_back; made = b.made };
    }

    off : (j : Key) → j ≢ slot_k u 0 → j ≢ h0 → E2 j ≡ y.exact j
    off = handed_off goes

    free_u : Unnamed (with_type y.exact h0 (owns hole)) (slot_k u 0)
    free_u j m z i = free_slot y a at.state u none 0 j m z (known_tree (slot_k t) h0 y.exact h0 hole j m z i)

    thread : ThreadTyped (slot_k t) y.rank (hand_at t us) e E2 s2 o
    thread = rethread fc.thread (record {
      typed = handed_typed goes;
      nested = fc.thread.nested.1;
      slots = slots_with (slot_k t) (with_type y.exact h0 (owns hole)) (slot_k u 0) (owns tr) e free_u (λ i l z. let f : t ≡ u = cc in differ f) (slots_with (slot_k t) y.exact h0 (owns hole) e slot_free (λ i l z. let f : i ≡ length e = cc in omega (arith, l, f)) fc.thread.slots.1);
      above = λ i le. ⊎_elim (λ (z : i ≡ length e). ap (λ j. E2 (slot_k t j)) z ∙ handed_gone goes) (λ (ne : i ≢ length e). off (slot_k t i) (λ z. let f : t ≡ u = cc in differ f) (λ z. let f : i ≡ length e = cc in ne f) ∙ fc.thread.above i (omega (arith, le, ne))) (decide_number i (length e));
      temp = temp_with (slot_k t) (with_type y.exact h0 (owns hole)) (hand_at t us) (slot_k u 0) (owns tr) o (λ z. cc) free_u (temp_with (slot_k t) y.exact (hand_at t us) h0 (owns hole) o (λ z. cc) slot_free fc.thread.temp);
      names = low;
      over = λ i l. fc.thread.over i (omega (arith, l));
      stood = λ j m z i. inl (handed_refs goes j m z i);
    })

    core : RunningCore (typing_with y E2 y.marks) s2 t (a2.pair t) x3
    core =
        unfocus y a a2 t (s ∷ e) e us ts o o g E2 y.marks x3 fc tops idle thread (λ i il. off (temp_k t i) (λ z. cc) (λ z. cc))
        (λ n j m d z. temp_free y a t n at.state j m d (handed_refs goes j m d z)) (λ i il n. fc.high i n (omega (arith, il))) refl (ap (λ (z : Entry). z.gives) (sym e_is) ∙ run.gives) (b.pairs t ∙ only.pairs t ∙ no_pair at)
        long (run.all_temps ∙ ap (λ (z : Entry). length z.temps) e_is) hidden_now
        (λ i m z.
        let below = still_below i m z in
        let h = slot_off i below ∙ z in
        let lock = lock_of s1 i m h (subst (λ (r : Entry). IsLock y s1 r.env t i m) e_is (run.marked i m h)) in
        record { leads = handed_held goes t i m x at.runs h ∙ lock.leads; unnamed = λ j d c r. lock.unnamed j d c (handed_refs goes j d c r); content = lock.content })

    pub slot_goes : Carries (typing_with y (with_type (with_type y.exact (slot_k t (length e)) (owns hole)) (slot_k u 0) (owns tr)) y.marks) a2 u q w
    slot_goes = handed goes (λ z f. mine_by (typing_with y E2 y.marks) s2 a2 t x3 z runs_two core f)

  -- A REFERENCE, or what is gone, goes with its slot

  module _ (plain : Counted (seen_as y.gives t (ref_v (y.marks t (length e))) (Some v)) → ⊥) (a3 : PlainState Position) (only : Only a a3 t (record { place = record { entry = going e ts g; temps = x.place.temps }; slots = vs })) (objects : (b : ObjNo) → a3.object b ≡ a.object b) where
    abbrev x4 : Running Position
    x4 = record { place = record { entry = going e ts g; temps = x.place.temps }; slots = vs }

    abbrev E4 : KeyTypes
    E4 = with_type y.exact (slot_k t (length e)) (owns hole)

    abbrev s4 : Store
    s4 = store (typing_with y E4 y.marks) a3

    runs_on : place_in (a3.thread t) ≡ Some x4
    runs_on = ap place_in only.now ∙ runs_still (a.thread t) x x4 at.runs

    slot_on : (i : ℕ) → s4.at (slot_k t i) ≡ seen_as y.gives t (ref_v (y.marks t i)) (slot_at vs i)
    slot_on i = ap (slot_val temps_of (typing_with y E4 y.marks) t i) runs_on ∙ seen_is temps_of (typing_with y E4 y.marks) t i x4

    same_on : (j : Key) → j ≢ slot_k t (length e) → s4.at j ≡ (store y a).at j
    same_on (slot_k n i) n0 =
        ⊎_elim (λ (z : n ≡ t). ap (λ d. s4.at (slot_k d i)) z ∙ slot_on i ∙ ap (seen_as y.gives t (ref_v (y.marks t i))) (sym (slot_off i (λ f. n0 (ap₂ slot_k z f)))) ∙ sym (seen_is temps_of y t i x) ∙ sym (ap (slot_val temps_of y t i) at.runs) ∙ ap (λ d. (store y a).at (slot_k d i)) (sym z))
        (λ (nt : n ≢ t). ap (λ d. slot_val temps_of y n i (place_in d)) (only.others n nt)) (decide_number n t)
    same_on (temp_k n i) n0 =
        ⊎_elim (λ (z : n ≡ t). ap (λ d. s4.at (temp_k d i)) z ∙ ap (temp_val temps_of (typing_with y E4 y.marks) t i) runs_on ∙ temp_is (typing_with y E4 y.marks) t i x4 ∙ sym (temp_is y t i x) ∙ sym (ap (temp_val temps_of y t i) at.runs) ∙ ap (λ d. (store y a).at (temp_k d i)) (sym z))
        (λ (nt : n ≢ t). ap (λ d. temp_val temps_of y n i (place_in d)) (only.others n nt)) (decide_number n t)
    same_on (content_k m c) n0 = ap (content_val y.gives) (only.mutexes (record { home = m; count = c }))
    same_on (result_k n) n0 =
        ⊎_elim (λ (z : n ≡ t). ap (λ d. s4.at (result_k d)) z ∙ ap (result_val temps_of y t) only.now ∙ result_same y t (a.thread t) x x4 at.runs ∙ ap (λ d. (store y a).at (result_k d)) (sym z)) (λ (nt : n ≢ t). ap (result_val temps_of y n) (only.others n nt)) (decide_number n t)
    same_on (hand_k n) n0 = refl

    went : Went (store y a) s4 (slot_k t (length e)) (seen_as y.gives t (ref_v (y.marks t (length e))) (Some v))
    went = record { was = seen; now = slot_on (length e) ∙ ap (seen_as y.gives t (ref_v (y.marks t (length e)))) slot_none; same = same }
      where
        same : (l : Location) → l ≢ at_key (slot_k t (length e)) → value_at s4 l ≡ value_at (store y a) l
        same (at_key j) ne = ap Some (same_on j (λ z. ne (ap at_key z)))
        same (at_object b) ne = ap (seen_cell y.gives) (objects b)

    off_on : (j : Key) → j ≢ slot_k t (length e) → E4 j ≡ y.exact j
    off_on j ne = key_other j (slot_k t (length e)) (owns hole) (y.exact j) ne

    refs_on : (j : Key) (m : Bool) (z : Place) → E4 j ≡ refers m z → y.exact j ≡ refers m z
    refs_on j m z i = known_tree (slot_k t) (slot_k t (length e)) y.exact (slot_k t (length e)) hole j m z i

    pub slot_light : PositionTypes (typing_with y (with_type y.exact (slot_k t (length e)) (owns hole)) y.marks) a3
    slot_light = slots_changed at fc (record {
      only = only;
      objects = λ b d f. (d, objects b ∙ f);
      before = λ b d f. (d, sym (objects b) ∙ f);
      tops = tops;
      idle = idle;
      entry = refl;
      temps = run.all_temps ∙ ap (λ (z : Entry). length z.temps) e_is;
      slots = long;
      long = omega arith;
      thread = rethread fc.thread (record {
        typed = went_typed went y.rank y.exact at.state.typed slot_free;
        nested = fc.thread.nested.1;
        slots = slots_with (slot_k t) y.exact (slot_k t (length e)) (owns hole) e slot_free (λ i l z. let f : i ≡ length e = cc in omega (arith, l, f)) fc.thread.slots.1;
        above = λ i le. ⊎_elim (λ (z : i ≡ length e). ap (λ j. E4 (slot_k t j)) z ∙ key_same (slot_k t (length e)) (owns hole) (y.exact (slot_k t (length e)))) (λ (ne : i ≢ length e). off_on (slot_k t i) (λ z. let f : i ≡ length e = cc in ne f) ∙ fc.thread.above i (omega (arith, le, ne))) (decide_number i (length e));
        temp = temp_with (slot_k t) y.exact (hand_at t us) (slot_k t (length e)) (owns hole) o (λ z. cc) slot_free fc.thread.temp;
        names = low;
        over = λ i l. fc.thread.over i (omega (arith, l));
        stood = λ j m z i. inl (refs_on j m z i);
      });
      others = λ j nh ns. off_on j (ns (length e));
      stood = λ j m z i. inl (refs_on j m z i);
      hidden = hidden_now;
      marked = λ i m h. slot_off i (λ z. let f : None ≡ Some (Held m) = sym slot_none ∙ ap (slot_at vs) (sym z) ∙ h in cc) ∙ h;
      still = λ i m h. sym (slot_off i (mark_below i m h)) ∙ h;
      content = λ st i m h l. lock_of st i m h l;
      held = λ n i m z runs mark. went.same (y.marks n i) (mark_off y a n i m z (slot_k t (length e)) at.state runs mark slot_free);
      carried = light_carried went plain;
    })
