-- The result of a thread whose result nobody has comes to a carrier, and the thread is over.
use Rattle.std.proofs.Common.{◌≡◌, ◌≢◌, ⊎_elim, ◌∙◌, ap₂, ℕ, ◌<◌, [], ◌∷◌, length, Option, Some, None, refl, sym, ap, subst, arith}
use Rattle.fr_base.specs.declared.label.Plain.{Plain}
use Rattle.fr_base.specs.declared.name.ObjNo.{ObjNo}
use Rattle.fr_base.specs.declared.name.MutexNo.{MutexNo}
use Rattle.fr_typing.specs.Kinds.{Owned, Piece}
use Rattle.fr_typing.specs.Places.{AreBelow, piece_places}
use Rattle.fr_store.specs.Keys.{Key, slot_k, temp_k, content_k, result_k, hand_k}
use Rattle.fr_store.specs.Store.{gone_v, ref_v, Store}
use Rattle.fr_store.specs.Typed.{Tree, hole, owns, KeyTypes}
use Rattle.fr_store.specs.Below.{TreeOf}
use Rattle.fr_store.specs.Rows.{with_type}
use Rattle.fr_store.specs.Thread.{ThreadKeys}
use Rattle.fr_store.proofs.Keys.{decide_number}
use Rattle.fr_plain.specs.declared.value.Value.TheVariants.{Own, Held}
use Rattle.fr_plain.specs.State.{slot_at}
use Rattle.fr_plain.specs.PlainState.{Running, PlainState, place_in}
use Rattle.fr_sound.specs.Entries.{Entry}
use Rattle.fr_sound.specs.Seen.{owned_val}
use Rattle.fr_sound.specs.States.{Typing, RunningTyped, slot_val, temp_val, result_val, content_val, IsMark, IsKept}
use Rattle.law_plain_values.specs.acts.Positions.{Position, Knows, temps_of}
use Rattle.law_plain_values.proofs.acts.Lower.{seen_as, seen_is}
use Rattle.law_plain_values.proofs.acts.OneThread.{store, typing_with}
use Rattle.law_plain_values.proofs.acts.Focus.{Focus, temp_is, temp_none}
use Rattle.law_plain_values.proofs.acts.Hand.{At, pushed_others}
use Rattle.law_plain_values.proofs.acts.Operands.{hand_value}
use Rattle.law_plain_values.proofs.acts.Fresh.{none_slot, none_temp, none_result}
use Rattle.law_plain_values.proofs.acts.Threads.{no_pair}
use Rattle.law_plain_values.proofs.drops.Carrier.{Carries}
use Rattle.law_plain_values.proofs.drops.After.{After, after_carries}
use Rattle.law_plain_values.proofs.drops.Handed.{Handed, handed}
use Rattle.law_plain_values.proofs.drops.Prepared.{IsBeside}
use Rattle.fr_typing.specs.Kinds.{own}
use Rattle.fr_plain.specs.MachineThreads.{Life, alive, over, owing, loose, ended}

-- a thread that goes on has no result
no_result : (y : Typing) (t : ℕ) (l : Option (Life (Running Position))) (x : Running Position) → place_in l ≡ Some x → result_val temps_of y t l ≡ gone_v
no_result y t None x e = refl
no_result y t (Some (alive z)) x e = refl
no_result y t (Some over) x e = refl
no_result y t (Some (owing z)) x e = refl
no_result y t (Some (loose z)) x e = refl
no_result y t (Some (ended v)) x e = cc

module _ {y : Typing} {a : PlainState Position} {t : ℕ} {x : Running Position} {g : Owned} (at : At y a t x [] (own g ∷ []) g) (fc : Focus y a t [] [] (Some (own g))) (v : Plain) (temps : x.place.temps ≡ Own v ∷ []) (unkept : IsKept (a.thread t) → ⊥) where
  run : RunningTyped Knows temps_of y (store y a) t (a.pair t) x
  run = at.state.threads t x at.runs

  no_slots : length x.slots ≡ 0
  no_slots = run.all_slots ∙ ap (λ (z : Entry). length z.env) (sym run.known ∙ at.entry)

  slot_gone : (i : ℕ) → (store y a).at (slot_k t i) ≡ gone_v
  slot_gone i = ap (slot_val temps_of y t i) at.runs ∙ seen_is temps_of y t i x ∙ ap (seen_as y.gives t (ref_v (y.marks t i))) (temp_none x.slots i (omega (arith, no_slots)))

  temp_gone : (i : ℕ) → i ≢ 0 → (store y a).at (temp_k t i) ≡ gone_v
  temp_gone i ne = ap (temp_val temps_of y t i) at.runs ∙ temp_is y t i x ∙ ap (λ z. seen_as y.gives t gone_v (slot_at z i)) temps ∙ ap (seen_as y.gives t gone_v) (pushed_others (Own v) [] i 0 refl ne)

  module _ (u : ℕ) (none : a.thread u ≡ None) (keys : ThreadKeys (slot_k u) y.rank (temp_k u 0)) (higher : y.rank (slot_k u 0) < y.rank (temp_k u 0)) (a3 a2 : PlainState Position) (ends : a3.thread t ≡ Some over) (away : (n : ℕ) → n ≢ t → a3.thread n ≡ a.thread n) (pairs : (n : ℕ) → a3.pair n ≡ a.pair n)
      (mutexes : (m : MutexNo) → a3.mutex m ≡ a.mutex m) (given : (m : MutexNo) → a3.is_given m ≡ a.is_given m) (objects : (o : ObjNo) → a3.object o ≡ a.object o) (q : Piece) (tr : Tree) (full : y.exact (temp_k t 0) ≡ owns tr) (part : TreeOf q tr) (nested : AreBelow 0 (piece_places q)) (b : IsBeside a3 a2 u q (y.gives.result u) v) where
    abbrev h0 : Key
    h0 = temp_k t 0

    abbrev E2 : KeyTypes
    E2 = with_type (with_type y.exact (temp_k t 0) (owns hole)) (slot_k u 0) (owns tr)

    abbrev s1 : Store
    s1 = store y a

    abbrev s2 : Store
    s2 = store (typing_with y E2 y.marks) a2

    differ : t ≢ u
    differ z = let f : None ≡ Some x = sym (ap place_in none) ∙ ap (λ n. place_in (a.thread n)) (sym z) ∙ at.runs in cc

    now_t : a2.thread t ≡ Some over
    now_t = b.others t differ ∙ ends

    others : (n : ℕ) → n ≢ t → n ≢ u → a2.thread n ≡ a.thread n
    others n nt nu = b.others n nu ∙ away n nt

    after : After y a2 u E2 (owned_val y.gives v)
    after = after_carries y a2 u E2 q (y.gives.result u) v b.here

    same : (j : Key) → j ≢ h0 → j ≢ slot_k u 0 → s2.at j ≡ s1.at j
    same (slot_k n i) n0 nh =
        ⊎_elim (λ (z : n ≡ t). ap (λ d. s2.at (slot_k d i)) z ∙ ap (λ d. slot_val temps_of (typing_with y E2 y.marks) t i (place_in d)) now_t ∙ sym (slot_gone i) ∙ ap (λ d. s1.at (slot_k d i)) (sym z))
        (λ (nt : n ≢ t). ⊎_elim (λ (z : n ≡ u). ap (λ d. s2.at (slot_k d i)) z ∙ after.slots i (λ f. nh (ap₂ slot_k z f)) ∙ sym (none_slot y a at.state u none i) ∙ ap (λ d. s1.at (slot_k d i)) (sym z)) (λ (nu : n ≢ u). ap (λ d. slot_val temps_of y n i (place_in d)) (others n nt nu)) (decide_number n u)) (decide_number n t)
    same (temp_k n i) n0 nh =
        ⊎_elim (λ (z : n ≡ t). ap (λ d. s2.at (temp_k d i)) z ∙ ap (λ d. temp_val temps_of (typing_with y E2 y.marks) t i (place_in d)) now_t ∙ sym (temp_gone i (λ f. n0 (ap₂ temp_k z f))) ∙ ap (λ d. s1.at (temp_k d i)) (sym z))
        (λ (nt : n ≢ t). ⊎_elim (λ (z : n ≡ u). ap (λ d. s2.at (temp_k d i)) z ∙ after.temps i ∙ sym (none_temp y a at.state u none i) ∙ ap (λ d. s1.at (temp_k d i)) (sym z)) (λ (nu : n ≢ u). ap (λ d. temp_val temps_of y n i (place_in d)) (others n nt nu)) (decide_number n u)) (decide_number n t)
    same (content_k m c) n0 nh = ap (content_val y.gives) (b.mutexes (record { home = m; count = c }) ∙ mutexes (record { home = m; count = c }))
    same (result_k n) n0 nh =
        ⊎_elim (λ (z : n ≡ t). ap (λ d. s2.at (result_k d)) z ∙ ap (result_val temps_of y t) now_t ∙ sym (no_result y t (a.thread t) x at.runs) ∙ ap (λ d. s1.at (result_k d)) (sym z))
        (λ (nt : n ≢ t). ⊎_elim (λ (z : n ≡ u). ap (λ d. s2.at (result_k d)) z ∙ after.result ∙ sym (none_result y a at.state u none) ∙ ap (λ d. s1.at (result_k d)) (sym z)) (λ (nu : n ≢ u). ap (result_val temps_of y n) (others n nt nu)) (decide_number n u)) (decide_number n t)
    same (hand_k n) n0 nh = refl

    -- MARKS: it has none

    mark_to : (m : MutexNo) (n i : ℕ) → IsMark a m n i → IsMark a2 m n i
    mark_to m n i d =
        ⊎_elim (λ (z : n ≡ t). let f : Some x ≡ Some d.thread = sym at.runs ∙ ap (λ r. place_in (a.thread r)) (sym z) ∙ d.goes_on in let is : d.thread ≡ x = cc in let k : None ≡ Some (Held m) = sym (temp_none x.slots i (omega (arith, no_slots))) ∙ ap (λ (r : Running Position). slot_at r.slots i) (sym is) ∙ d.mark in absurd cc)
        (λ (nt : n ≢ t). ⊎_elim (λ (z : n ≡ u). let f : None ≡ Some d.thread = sym (ap place_in none) ∙ ap (λ r. place_in (a.thread r)) (sym z) ∙ d.goes_on in absurd cc) (λ (nu : n ≢ u). record { thread = d.thread; goes_on = ap place_in (others n nt nu) ∙ d.goes_on; mark = d.mark }) (decide_number n u)) (decide_number n t)

    mark_back : (m : MutexNo) (n i : ℕ) → IsMark a2 m n i → IsMark a m n i
    mark_back m n i d =
        ⊎_elim (λ (z : n ≡ t). let f : None ≡ Some d.thread = sym (ap place_in now_t) ∙ ap (λ r. place_in (a2.thread r)) (sym z) ∙ d.goes_on in absurd cc)
        (λ (nt : n ≢ t). ⊎_elim (λ (z : n ≡ u). absurd (after.unmarked d.thread i m (ap (λ r. place_in (a2.thread r)) (sym z) ∙ d.goes_on) d.mark)) (λ (nu : n ≢ u). record { thread = d.thread; goes_on = sym (ap place_in (others n nt nu)) ∙ d.goes_on; mark = d.mark }) (decide_number n u)) (decide_number n t)

    goes : Handed y a a2 t u h0 q v tr
    goes = record {
      state = at.state;
      none = none;
      here = b.here;
      alone = no_pair at;
      differ = differ;
      keys = keys;
      over = higher;
      of = refl;
      full = full;
      free = fc.thread.quiet;
      tree = part;
      nested = nested;
      was = hand_value y a t 0 x (Own v) [] at.runs temps refl;
      now = ap (λ d. temp_val temps_of (typing_with y E2 y.marks) t 0 (place_in d)) now_t;
      came = after.now;
      same = same;
      others = others;
      pairs = λ n. b.pairs n ∙ pairs n;
      kept_to = λ z. absurd (unkept z);
      kept_back = λ z. absurd (subst IsKept now_t z);
      unended = λ r z. let f : Some over ≡ Some (ended r) = sym now_t ∙ z in cc;
      stays = record { mutexes = λ m. b.mutexes m ∙ mutexes m; given = λ m. b.given m ∙ given m; objects = λ o. b.objects o ∙ objects o; marks_to = mark_to; marks_back = mark_back; made = b.made };
    }

    pub end_goes : Carries (typing_with y (with_type (with_type y.exact (temp_k t 0) (owns hole)) (slot_k u 0) (owns tr)) y.marks) a2 u q v
    end_goes = handed goes (λ z f. let g : None ≡ Some z = sym (ap place_in now_t) ∙ f in cc)
