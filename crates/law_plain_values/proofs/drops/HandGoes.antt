-- The value at hand, which is owned, comes to a carrier.
use Rattle.std.proofs.Common.{◌≡◌, ◌≢◌, inl, ⊎_elim, ◌∙◌, ap₂, ℕ, ◌<◌, true, List, ◌∷◌, length, Some, None, refl, sym, ap, subst, arith}
use Rattle.fr_base.specs.declared.label.Plain.{Plain}
use Rattle.fr_base.specs.declared.label.Plain.TheVariants as plain
use Rattle.fr_base.specs.declared.name.ObjNo.{ObjNo}
use Rattle.fr_base.specs.declared.name.MutexNo.{MutexNo}
use Rattle.fr_typing.specs.Kinds.{Owned, Kind, Piece, whole}
use Rattle.fr_typing.specs.Places.{Env, AreBelow, piece_places}
use Rattle.fr_store.specs.Keys.{Key, slot_k, temp_k, content_k, result_k, hand_k}
use Rattle.fr_store.specs.Store.{Location, gone_v, ref_v, Store}
use Rattle.fr_store.specs.Typed.{Tree, hole, Exact, owns, refers, KeyTypes}
use Rattle.fr_store.specs.Below.{TreeOf, ExactOf}
use Rattle.fr_store.specs.Rows.{with_type}
use Rattle.fr_store.specs.Thread.{ThreadKeys, ThreadTyped}
use Rattle.fr_store.proofs.Keys.{decide_number}
use Rattle.fr_store.proofs.Sound.{ref_at}
use Rattle.fr_store.proofs.ThreadKept.{slots_with, known_tree}
use Rattle.fr_plain.specs.declared.value.Value.{Value}
use Rattle.fr_plain.specs.declared.value.Value.TheVariants.{Own}
use Rattle.fr_plain.specs.State.{slot_at}
use Rattle.fr_plain.specs.PlainState.{Running, PlainState, place_in}
use Rattle.fr_sound.specs.Entries.{Entry, going}
use Rattle.fr_sound.specs.Seen.{owned_val}
use Rattle.fr_sound.specs.States.{Typing, RunningTyped, slot_val, temp_val, result_val, content_val, env_at, is_hidden, IsLock, IsMark, IsKept}
use Rattle.fr_code.specs.CodeTypes.{wait}
use Rattle.law_plain_values.specs.acts.Positions.{Position, Knows, temps_of, PositionTypes}
use Rattle.law_plain_values.proofs.acts.Lower.{seen_as, seen_is}
use Rattle.law_plain_values.proofs.acts.OneThread.{store, typing_with, RunningCore, with_running, runs_still, kept_still, kept_before, none_ended}
use Rattle.law_plain_values.proofs.acts.Focus.{top_none, hand_at, Focus, unfocus, temp_is, temp_none, temp_free}
use Rattle.law_plain_values.proofs.acts.AtHand.{Only, result_same}
use Rattle.law_plain_values.proofs.acts.Hand.{At, pushed_others}
use Rattle.law_plain_values.proofs.acts.Operands.{hand_value}
use Rattle.law_plain_values.proofs.acts.Rethread.{rethread}
use Rattle.law_plain_values.proofs.acts.Fresh.{none_slot, none_temp, none_result, free_slot}
use Rattle.law_plain_values.proofs.acts.Threads.{no_pair}
use Rattle.law_plain_values.proofs.drops.Carrier.{Carries}
use Rattle.law_plain_values.proofs.drops.After.{After, after_carries, mine_by}
use Rattle.law_plain_values.proofs.drops.Handed.{Handed, handed, handed_typed, handed_off, handed_gone, handed_refs, handed_held}
use Rattle.law_plain_values.proofs.drops.Prepared.{IsBeside}

-- what stands at a key as an owned value owns
pub owned_tree : {y : Typing} {a : PlainState Position} (k : Key) (q : Piece) (key : ℕ → Key) (v : Plain) → PositionTypes y a → (store y a).at k ≡ owned_val y.gives v → ExactOf key y.exact q (y.exact k) → (t : Tree) × (y.exact k ≡ owns t) × TreeOf q t
owned_tree {y = y} {a = a} k q key v st is exact = by (y.exact k) refl
  where
    plain_value : (v : Plain) (l : Location) → owned_val y.gives v ≡ ref_v l → ⊥
    plain_value plain.Nothing l e = cc
    plain_value plain.Unit l e = cc
    plain_value (plain.Int n) l e = cc
    plain_value (plain.Box o) l e = cc
    plain_value (plain.Mutex m) l e = cc
    plain_value (plain.Task t) l e = cc

    by : (p : Exact) → y.exact k ≡ p → (t : Tree) × (y.exact k ≡ owns t) × TreeOf q t
    by (owns t) e = (t, e, subst (ExactOf key y.exact q) e exact)
    by (refers m w) e = let r = ref_at y.rank y.exact (store y a) st.typed k m w e in absurd (plain_value v r.target (sym is ∙ r.is))

module _ {y : Typing} {a : PlainState Position} {t : ℕ} {x : Running Position} {e : Env} {us : List Kind} {g : Owned} {k : Kind} (at : At y a t x e (k ∷ us) g) (fc : Focus y a t e us (Some k)) (waits : wait us ≡ true) (v : Plain) (ws : List Value) (temps : x.place.temps ≡ Own v ∷ ws) where
  run : RunningTyped Knows temps_of y (store y a) t (a.pair t) x
  run = at.state.threads t x at.runs

  e_is : run.entry ≡ going e (k ∷ us) g
  e_is = sym run.known ∙ at.entry

  long : length ws ≡ length us
  long = let i = ap length (sym temps) ∙ run.all_temps ∙ ap (λ (z : Entry). length z.temps) e_is in omega (arith, i)

  was : (store y a).at (hand_at t us) ≡ owned_val y.gives v
  was = hand_value y a t (length us) x (Own v) ws at.runs temps (sym long)

  pub hand_tree : (tr : Tree) × (y.exact (hand_at t us) ≡ owns tr) × TreeOf (whole k) tr
  hand_tree = owned_tree (hand_at t us) (whole k) (slot_k t) v at.state was fc.thread.temp

  module _ (u : ℕ) (none : a.thread u ≡ None) (keys : ThreadKeys (slot_k u) y.rank (temp_k u 0)) (over : y.rank (slot_k u 0) < y.rank (temp_k u 0)) (a3 a2 : PlainState Position) (only : Only a a3 t (record { place = record { entry = going e us g; temps = ws }; slots = x.slots })) (objects : (o : ObjNo) → a3.object o ≡ a.object o) where
    abbrev x3 : Running Position
    x3 = record { place = record { entry = going e us g; temps = ws }; slots = x.slots }

    module _ (q : Piece) (tr : Tree) (full : y.exact (hand_at t us) ≡ owns tr) (part : TreeOf q tr) (nested : AreBelow 0 (piece_places q)) (b : IsBeside a3 a2 u q (y.gives.result u) v) where
      abbrev h0 : Key
      h0 = hand_at t us

      abbrev E2 : KeyTypes
      E2 = with_type (with_type y.exact (hand_at t us) (owns hole)) (slot_k u 0) (owns tr)

      abbrev s1 : Store
      s1 = store y a

      abbrev s2 : Store
      s2 = store (typing_with y E2 y.marks) a2

      differ : t ≢ u
      differ z = let f : None ≡ Some x = sym (ap place_in none) ∙ ap (λ n. place_in (a.thread n)) (sym z) ∙ at.runs in cc

      now_t : a2.thread t ≡ with_running (a.thread t) x3
      now_t = b.others t differ ∙ only.now

      runs_two : place_in (a2.thread t) ≡ Some x3
      runs_two = ap place_in now_t ∙ runs_still (a.thread t) x x3 at.runs

      others : (n : ℕ) → n ≢ t → n ≢ u → a2.thread n ≡ a.thread n
      others n nt nu = b.others n nu ∙ only.others n nt

      after : After y a2 u E2 (owned_val y.gives v)
      after = after_carries y a2 u E2 q (y.gives.result u) v b.here

      slot_two : (i : ℕ) → s2.at (slot_k t i) ≡ s1.at (slot_k t i)
      slot_two i = ap (slot_val temps_of (typing_with y E2 y.marks) t i) runs_two ∙ seen_is temps_of (typing_with y E2 y.marks) t i x3 ∙ sym (seen_is temps_of y t i x) ∙ sym (ap (slot_val temps_of y t i) at.runs)

      temp_seen : (i : ℕ) → s2.at (temp_k t i) ≡ seen_as y.gives t gone_v (slot_at ws i)
      temp_seen i = ap (temp_val temps_of (typing_with y E2 y.marks) t i) runs_two ∙ temp_is (typing_with y E2 y.marks) t i x3

      temp_two : (i : ℕ) → i ≢ length us → s2.at (temp_k t i) ≡ s1.at (temp_k t i)
      temp_two i ne = temp_seen i ∙ sym (ap (seen_as y.gives t gone_v) (pushed_others (Own v) ws i (length us) (sym long) ne)) ∙ sym (ap (λ z. seen_as y.gives t gone_v (slot_at z i)) temps) ∙ sym (temp_is y t i x) ∙ sym (ap (temp_val temps_of y t i) at.runs)

      same : (j : Key) → j ≢ h0 → j ≢ slot_k u 0 → s2.at j ≡ s1.at j
      same (slot_k n i) n0 nh =
          ⊎_elim (λ (z : n ≡ t). ap (λ d. s2.at (slot_k d i)) z ∙ slot_two i ∙ ap (λ d. s1.at (slot_k d i)) (sym z))
          (λ (nt : n ≢ t). ⊎_elim (λ (z : n ≡ u). ap (λ d. s2.at (slot_k d i)) z ∙ after.slots i (λ f. nh (ap₂ slot_k z f)) ∙ sym (none_slot y a at.state u none i) ∙ ap (λ d. s1.at (slot_k d i)) (sym z)) (λ (nu : n ≢ u). ap (λ d. slot_val temps_of y n i (place_in d)) (others n nt nu)) (decide_number n u)) (decide_number n t)
      same (temp_k n i) n0 nh =
          ⊎_elim (λ (z : n ≡ t). ap (λ d. s2.at (temp_k d i)) z ∙ temp_two i (λ f. n0 (ap₂ temp_k z f)) ∙ ap (λ d. s1.at (temp_k d i)) (sym z))
          (λ (nt : n ≢ t). ⊎_elim (λ (z : n ≡ u). ap (λ d. s2.at (temp_k d i)) z ∙ after.temps i ∙ sym (none_temp y a at.state u none i) ∙ ap (λ d. s1.at (temp_k d i)) (sym z)) (λ (nu : n ≢ u). ap (λ d. temp_val temps_of y n i (place_in d)) (others n nt nu)) (decide_number n u)) (decide_number n t)
      same (content_k m c) n0 nh = ap (content_val y.gives) (b.mutexes (record { home = m; count = c }) ∙ only.mutexes (record { home = m; count = c }))
      same (result_k n) n0 nh =
          ⊎_elim (λ (z : n ≡ t). ap (λ d. s2.at (result_k d)) z ∙ ap (result_val temps_of y t) now_t ∙ result_same y t (a.thread t) x x3 at.runs ∙ ap (λ d. s1.at (result_k d)) (sym z))
          (λ (nt : n ≢ t). ⊎_elim (λ (z : n ≡ u). ap (λ d. s2.at (result_k d)) z ∙ after.result ∙ sym (none_result y a at.state u none) ∙ ap (λ d. s1.at (result_k d)) (sym z)) (λ (nu : n ≢ u). ap (result_val temps_of y n) (others n nt nu)) (decide_number n u)) (decide_number n t)
      same (hand_k n) n0 nh = refl

      -- MARKS

      mark_to : (m : MutexNo) (n i : ℕ) → IsMark a m n i → IsMark a2 m n i
      mark_to m n i d =
          ⊎_elim (λ (z : n ≡ t). let f : Some x ≡ Some d.thread = sym at.runs ∙ ap (λ r. place_in (a.thread r)) (sym z) ∙ d.goes_on in let is : d.thread ≡ x = cc in record { thread = x3; goes_on = ap (λ r. place_in (a2.thread r)) z ∙ runs_two; mark = ap (λ (r : Running Position). slot_at r.slots i) (sym is) ∙ d.mark })
          (λ (nt : n ≢ t). ⊎_elim (λ (z : n ≡ u). let f : None ≡ Some d.thread = sym (ap place_in none) ∙ ap (λ r. place_in (a.thread r)) (sym z) ∙ d.goes_on in absurd cc) (λ (nu : n ≢ u). record { thread = d.thread; goes_on = ap place_in (others n nt nu) ∙ d.goes_on; mark = d.mark }) (decide_number n u)) (decide_number n t)

      mark_back : (m : MutexNo) (n i : ℕ) → IsMark a2 m n i → IsMark a m n i
      mark_back m n i d =
          ⊎_elim (λ (z : n ≡ t). let f : Some x3 ≡ Some d.thread = sym runs_two ∙ ap (λ r. place_in (a2.thread r)) (sym z) ∙ d.goes_on in let is : d.thread ≡ x3 = cc in record { thread = x; goes_on = ap (λ r. place_in (a.thread r)) z ∙ at.runs; mark = ap (λ (r : Running Position). slot_at r.slots i) (sym is) ∙ d.mark })
          (λ (nt : n ≢ t). ⊎_elim (λ (z : n ≡ u). absurd (after.unmarked d.thread i m (ap (λ r. place_in (a2.thread r)) (sym z) ∙ d.goes_on) d.mark)) (λ (nu : n ≢ u). record { thread = d.thread; goes_on = sym (ap place_in (others n nt nu)) ∙ d.goes_on; mark = d.mark }) (decide_number n u)) (decide_number n t)

      goes : Handed y a a2 t u h0 q v tr
      goes = record {
        state = at.state;
        none = none;
        here = b.here;
        alone = no_pair at;
        differ = differ;
        keys = keys;
        over = over;
        of = refl;
        full = full;
        free = fc.thread.quiet;
        tree = part;
        nested = nested;
        was = was;
        now = temp_seen (length us) ∙ ap (seen_as y.gives t gone_v) (temp_none ws (length us) (omega (arith, long)));
        came = after.now;
        same = same;
        others = others;
        pairs = λ n. b.pairs n ∙ only.pairs n;
        kept_to = λ z. subst IsKept (sym now_t) (kept_still (a.thread t) x3 z);
        kept_back = λ z. kept_before (a.thread t) x3 (subst IsKept now_t z);
        unended = λ r z. none_ended (a.thread t) x x3 r at.runs (sym now_t ∙ z);
        stays = record { mutexes = λ m. b.mutexes m ∙ only.mutexes m; given = λ m. b.given m ∙ only.given m; objects = λ o. b.objects o ∙ objects o; marks_to = mark_to; marks_back = mark_back; made = b.made };
      }

      off : (j : Key) → j ≢ slot_k u 0 → j ≢ h0 → E2 j ≡ y.exact j
      off = handed_off goes

      thread : ThreadTyped (slot_k t) y.rank h0 e E2 s2 None
      thread = rethread fc.thread (record {
        typed = handed_typed goes;
        nested = fc.thread.nested;
        slots = slots_with (slot_k t) (with_type y.exact h0 (owns hole)) (slot_k u 0) (owns tr) e (λ j m z i. free_slot y a at.state u none 0 j m z (known_tree (slot_k t) h0 y.exact h0 hole j m z i)) (λ i l z. let f : t ≡ u = cc in differ f) (slots_with (slot_k t) y.exact h0 (owns hole) e fc.thread.quiet (λ i l z. cc) fc.thread.slots);
        above = λ i le. off (slot_k t i) (λ z. let f : t ≡ u = cc in differ f) (λ z. cc) ∙ fc.thread.above i le;
        temp = handed_gone goes;
        names = tt;
        over = fc.thread.over;
        stood = λ j m z i. inl (handed_refs goes j m z i);
      })

      core : RunningCore (typing_with y E2 y.marks) s2 t (a2.pair t) x3
      core =
          unfocus y a a2 t e e us us (Some k) None g E2 y.marks x3 fc top_none (λ z. waits) thread (λ i il. off (temp_k t i) (λ z. cc) (λ z. let f : i ≡ length us = cc in omega (arith, il, f)))
          (λ n j m w z. temp_free y a t n at.state j m w (handed_refs goes j m w z)) (λ i il n. fc.high i n (omega (arith, il))) refl (ap (λ (z : Entry). z.gives) (sym e_is) ∙ run.gives) (b.pairs t ∙ only.pairs t ∙ no_pair at)
          (run.all_slots ∙ ap (λ (z : Entry). length z.env) e_is) long
          (λ i. ap (λ (z : Entry). is_hidden (env_at z.env i)) (sym e_is) ∙ run.hidden i)
          (λ i m z. let lock = subst (λ (r : Entry). IsLock y s1 r.env t i m) e_is (run.marked i m z) in record { leads = handed_held goes t i m x at.runs z ∙ lock.leads; unnamed = λ j d w r. lock.unnamed j d w (handed_refs goes j d w r); content = lock.content })

      pub hand_goes : Carries (typing_with y (with_type (with_type y.exact (hand_at t us) (owns hole)) (slot_k u 0) (owns tr)) y.marks) a2 u q v
      hand_goes = handed goes (λ z f. mine_by (typing_with y E2 y.marks) s2 a2 t x3 z runs_two core f)
