-- Two threads were started without slots, and their parent waits for both: the state is typed again.
use Rattle.std.proofs.Common.{◌≡◌, ◌≢◌, ◌⊎◌, inl, inr, ⊎_elim, ◌∙◌, ℕ, ◌<◌, Bool, true, false, List, [], length, Some, None, refl, sym, ap, subst}
use Rattle.std.specs.Prelude.{◌==◌, ◌||◌, is_some}
use Rattle.fr_typing.specs.Kinds.{Owned, unit, Kind}
use Rattle.fr_typing.specs.Places.{Env}
use Rattle.fr_typing.proofs.PlaceLemmas.{eq_cases}
use Rattle.fr_store.specs.Keys.{Key, slot_k, temp_k, content_k, result_k, hand_k}
use Rattle.fr_store.specs.Store.{Alike, at_key, at_object, gone_v, Store, Place}
use Rattle.fr_store.specs.Typed.{int_tree, owns, refers, KeyTypes, Typed}
use Rattle.fr_store.specs.Thread.{ThreadKeys, ThreadTyped, Asleep}
use Rattle.fr_store.proofs.Keys.{decide_number}
use Rattle.fr_store.proofs.Rows.{same_store}
use Rattle.fr_plain.specs.State.{slot_at}
use Rattle.fr_plain.specs.MachineThreads.{owing}
use Rattle.fr_plain.specs.PlainState.{Running, PlainState, place_in}
use Rattle.fr_sound.specs.Entries.{Entry, going, forked_at}
use Rattle.fr_sound.specs.Seen.{seen_cell}
use Rattle.fr_sound.specs.States.{Typing, RunningTyped, slot_val, temp_val, result_val, content_val, hand_key, hand_kind, operands, IsThread, env_at, is_hidden, IsLock, WaitsFor, IsKept, IsBranch, IsOwed}
use Rattle.law_plain_values.specs.acts.Positions.{Position, Knows, temps_of, PositionTypes}
use Rattle.law_plain_values.proofs.acts.Lower.{seen_as, seen_is}
use Rattle.law_plain_values.proofs.acts.OneThread.{store, typing_with, Counted, Carried, RunningCore, with_running, runs_still, kept_before}
use Rattle.law_plain_values.proofs.acts.Turns.{nobody_by, waits_more, turns_typed}
use Rattle.law_plain_values.proofs.acts.Focus.{temp_is, temp_free}
use Rattle.law_plain_values.proofs.acts.AtHand.{result_same}
use Rattle.law_plain_values.proofs.acts.Hand.{At}
use Rattle.law_plain_values.proofs.acts.Stays.{Stays, there_by, mutexes_by, objects_by, owned_by, of_by, near_by, named_by}
use Rattle.law_plain_values.proofs.acts.Threads.{no_pair}
use Rattle.law_plain_values.proofs.acts.Fresh.{none_waits, not_kept, none_for, none_slot, none_temp, none_result, hole_slot, hole_temp, free_slot, new_core}
use Rattle.law_plain_threads.proofs.threads.Fates.{Fate, goes_on, comes, kept_to, ended_back, runs_to, mark_to, mark_back}
use Rattle.fr_base.specs.declared.name.MutexNo.{MutexNo}
use Rattle.fr_base.specs.declared.name.ObjNo.{ObjNo}
use Rattle.fr_base.specs.declared.label.Plain.{Plain}

-- HOW MANY WAIT ABOVE may be told otherwise, of threads that aren't there

pub reordered : (order2 : ℕ → ℕ) (y : Typing) (a : PlainState Position) → PositionTypes y a → ((p w : ℕ) → WaitsFor a p w → y.order p < y.order w → order2 p < order2 w) → PositionTypes (record y { order = order2 }) a
reordered order2 y a st rises = record {
  typed = st.typed;
  threads = λ t x e. let r = st.threads t x e in record { entry = r.entry; known = r.known; gives = r.gives; keys = r.keys; thread = r.thread; waiting = r.waiting; all_slots = r.all_slots; all_temps = r.all_temps; lower = r.lower; forks = r.forks; hidden = r.hidden; marked = λ i m f. let l = r.marked i m f in record { leads = l.leads; unnamed = l.unnamed; content = l.content } };
  results = st.results;
  near = st.near;
  pairs = λ p b c e. let d = st.pairs p b c e in (d.0, branch p b (record { first = b; second = c; pair = e; one = inl refl }) d.1, branch p c (record { first = b; second = c; pair = e; one = inr refl }) d.2);
  parents = st.parents;
  there = st.there;
  mutexes = λ m x e. let q = st.mutexes m x e in record { given = q.given; shares = q.shares; needed = q.needed; out = q.out; unheld = q.unheld; content = q.content };
  one_task = st.one_task;
  tasks_owed = st.tasks_owed;
  owed_stand = st.owed_stand;
  objects_there = st.objects_there;
  objects_owned = st.objects_owned;
  objects_made = st.objects_made;
}
  where
    branch : (p w : ℕ) → WaitsFor a p w → IsBranch y a p w → IsBranch (record y { order = order2 }) a p w
    branch p w h d = record { kept = d.kept; gives = d.gives; only = d.only; below = rises p w h d.below }

-- THREE THREADS

abbrev pub three : ℕ → ℕ → ℕ → ℕ → Bool
three t b c w = w == t || (w == b || w == c)

pub three_is : (t b c w : ℕ) → three t b c w ≡ true → (w ≡ t) ⊎ ((w ≡ b) ⊎ (w ≡ c))
three_is t b c w =
    eq_cases (λ d. (d || (w == b || w == c)) ≡ true → (w ≡ t) ⊎ ((w ≡ b) ⊎ (w ≡ c))) w t (λ e h. inl e)
    (λ nt. eq_cases (λ d. (d || w == c) ≡ true → (w ≡ t) ⊎ ((w ≡ b) ⊎ (w ≡ c))) w b (λ e h. inr (inl e)) (λ nb. eq_cases (λ d. d ≡ true → (w ≡ t) ⊎ ((w ≡ b) ⊎ (w ≡ c))) w c (λ e h. inr (inr e)) (λ nc h. cc)))

pub three_not : (t b c w : ℕ) → three t b c w ≡ false → (w ≢ t) × (w ≢ b) × (w ≢ c)
three_not t b c w =
    eq_cases (λ d. (d || (w == b || w == c)) ≡ false → (w ≢ t) × (w ≢ b) × (w ≢ c)) w t (λ e h. cc)
    (λ nt. eq_cases (λ d. (d || w == c) ≡ false → (w ≢ t) × (w ≢ b) × (w ≢ c)) w b (λ e h. cc) (λ nb. eq_cases (λ d. d ≡ false → (w ≢ t) × (w ≢ b) × (w ≢ c)) w c (λ e h. cc) (λ nc h. (nt, nb, nc))))

-- the three are three
pub three_first : (t b c : ℕ) → three t b c t ≡ true
three_first t b c = eq_cases (λ d. (d || (t == b || t == c)) ≡ true) t t (λ e. refl) (λ ne. absurd (ne refl))

pub three_second : (t b c : ℕ) → three t b c b ≡ true
three_second t b c = eq_cases (λ d. (b == t || (d || b == c)) ≡ true) b b (λ e. or_true (b == t)) (λ ne. absurd (ne refl))
  where
    or_true : (d : Bool) → (d || true) ≡ true
    or_true true = refl
    or_true false = refl

module _ (y : Typing) (a a2 : PlainState Position) (t b c : ℕ) (x : Running Position) (e : Env) (ts : List Kind) (g : Owned) (pb pc : Position) (at : At y a t x e ts g) (none_b : a.thread b ≡ None) (none_c : a.thread c ≡ None) (differ : b ≢ c) (gives_b : y.gives.result b ≡ unit) (gives_c : y.gives.result c ≡ unit)
    (order_b : y.order t < y.order b) (order_c : y.order t < y.order c) (keys_b : ThreadKeys (slot_k b) y.rank (temp_k b 0)) (keys_c : ThreadKeys (slot_k c) y.rank (temp_k c 0)) (entry_b : pb.entry ≡ going [] [] unit) (entry_c : pc.entry ≡ going [] [] unit) (temps_b : pb.temps ≡ []) (temps_c : pc.temps ≡ []) where
  abbrev x2 : Running Position
  x2 = record { place = record { entry = forked_at e ts g; temps = x.place.temps }; slots = x.slots }

  abbrev xb : Running Position
  xb = record { place = pb; slots = [] }

  abbrev xc : Running Position
  xc = record { place = pc; slots = [] }

  abbrev E2 : KeyTypes
  E2 = y.exact

  abbrev s1 : Store
  s1 = store y a

  abbrev s2 : Store
  s2 = store (typing_with y y.exact y.marks) a2

  module _ (now : a2.thread t ≡ with_running (a.thread t) x2) (new_b : a2.thread b ≡ Some (owing xb)) (new_c : a2.thread c ≡ Some (owing xc)) (others : (w : ℕ) → w ≢ t → w ≢ b → w ≢ c → a2.thread w ≡ a.thread w) (pair : a2.pair t ≡ Some (b, c)) (pairs : (w : ℕ) → w ≢ t → a2.pair w ≡ a.pair w) (mutexes : (m : MutexNo) → a2.mutex m ≡ a.mutex m) (given : (m : MutexNo) → a2.is_given m ≡ a.is_given m) (objects : (o : ObjNo) → a2.object o ≡ a.object o)
      (made : (o : ObjNo) (v : Plain) (w : Running Position) → a2.object o ≡ Some v → place_in (a2.thread o.thread) ≡ Some w → o.count < a2.made o.thread) where
    run : RunningTyped Knows temps_of y s1 t (a.pair t) x
    run = at.state.threads t x at.runs

    e_is : run.entry ≡ going e ts g
    e_is = sym run.known ∙ at.entry

    runs_two : place_in (a2.thread t) ≡ Some x2
    runs_two = ap place_in now ∙ runs_still (a.thread t) x x2 at.runs

    -- a new thread
    fresh : (w : ℕ) → (w ≡ b) ⊎ (w ≡ c) → a.thread w ≡ None
    fresh w (inl q) = ap a.thread q ∙ none_b
    fresh w (inr q) = ap a.thread q ∙ none_c

    apart : (w : ℕ) → (w ≡ b) ⊎ (w ≡ c) → w ≢ t
    apart w q f = let z : None ≡ Some x = sym (ap place_in (fresh w q)) ∙ ap (λ v. place_in (a.thread v)) f ∙ at.runs in cc

    by_three : (P : ℕ → Type 0) (w : ℕ) → (w ≡ t → P w) → (w ≡ b → P w) → (w ≡ c → P w) → (w ≢ t → w ≢ b → w ≢ c → P w) → P w
    by_three P w pt pb pc other = ⊎_elim pt (λ (nt : w ≢ t). ⊎_elim pb (λ (nb : w ≢ b). ⊎_elim pc (λ (nc : w ≢ c). other nt nb nc) (decide_number w c)) (decide_number w b)) (decide_number w t)

    -- WHAT STANDS is what stood

    new_slot : (w i : ℕ) (p : Position) → a2.thread w ≡ Some (owing (record { place = p; slots = [] })) → s2.at (slot_k w i) ≡ gone_v
    new_slot w i p q = ap (λ z. slot_val temps_of (typing_with y y.exact y.marks) w i (place_in z)) q

    new_temp : (w i : ℕ) (p : Position) → a2.thread w ≡ Some (owing (record { place = p; slots = [] })) → p.temps ≡ [] → s2.at (temp_k w i) ≡ gone_v
    new_temp w i p q n = ap (λ z. temp_val temps_of (typing_with y y.exact y.marks) w i (place_in z)) q ∙ temp_is (typing_with y y.exact y.marks) w i (record { place = p; slots = [] }) ∙ ap (λ z. seen_as y.gives w gone_v (slot_at z i)) n

    same_key : (k : Key) → s2.at k ≡ s1.at k
    same_key (slot_k w i) =
        by_three (λ v. s2.at (slot_k v i) ≡ s1.at (slot_k v i)) w
        (λ q. subst (λ v. s2.at (slot_k v i) ≡ s1.at (slot_k v i)) (sym q) (ap (slot_val temps_of (typing_with y y.exact y.marks) t i) runs_two ∙ seen_is temps_of (typing_with y y.exact y.marks) t i x2 ∙ sym (seen_is temps_of y t i x) ∙ sym (ap (slot_val temps_of y t i) at.runs)))
        (λ q. subst (λ v. s2.at (slot_k v i) ≡ s1.at (slot_k v i)) (sym q) (new_slot b i pb new_b ∙ sym (none_slot y a at.state b none_b i)))
        (λ q. subst (λ v. s2.at (slot_k v i) ≡ s1.at (slot_k v i)) (sym q) (new_slot c i pc new_c ∙ sym (none_slot y a at.state c none_c i)))
        (λ nt nb nc. ap (λ z. slot_val temps_of y w i (place_in z)) (others w nt nb nc))
    same_key (temp_k w i) =
        by_three (λ v. s2.at (temp_k v i) ≡ s1.at (temp_k v i)) w
        (λ q. subst (λ v. s2.at (temp_k v i) ≡ s1.at (temp_k v i)) (sym q) (ap (temp_val temps_of (typing_with y y.exact y.marks) t i) runs_two ∙ temp_is (typing_with y y.exact y.marks) t i x2 ∙ sym (temp_is y t i x) ∙ sym (ap (temp_val temps_of y t i) at.runs)))
        (λ q. subst (λ v. s2.at (temp_k v i) ≡ s1.at (temp_k v i)) (sym q) (new_temp b i pb new_b temps_b ∙ sym (none_temp y a at.state b none_b i)))
        (λ q. subst (λ v. s2.at (temp_k v i) ≡ s1.at (temp_k v i)) (sym q) (new_temp c i pc new_c temps_c ∙ sym (none_temp y a at.state c none_c i)))
        (λ nt nb nc. ap (λ z. temp_val temps_of y w i (place_in z)) (others w nt nb nc))
    same_key (content_k m n) = ap (content_val y.gives) (mutexes (record { home = m; count = n }))
    same_key (result_k w) =
        by_three (λ v. s2.at (result_k v) ≡ s1.at (result_k v)) w
        (λ q. subst (λ v. s2.at (result_k v) ≡ s1.at (result_k v)) (sym q) (ap (result_val temps_of y t) now ∙ result_same y t (a.thread t) x x2 at.runs))
        (λ q. subst (λ v. s2.at (result_k v) ≡ s1.at (result_k v)) (sym q) (ap (result_val temps_of y b) new_b ∙ sym (none_result y a at.state b none_b)))
        (λ q. subst (λ v. s2.at (result_k v) ≡ s1.at (result_k v)) (sym q) (ap (result_val temps_of y c) new_c ∙ sym (none_result y a at.state c none_c)))
        (λ nt nb nc. ap (result_val temps_of y w) (others w nt nb nc))
    same_key (hand_k w) = refl

    alike : Alike s1 s2
    alike (at_object o) = ap (seen_cell y.gives) (objects o)
    alike (at_key k) = ap Some (same_key k)

    typed : Typed y.rank y.exact s2
    typed = same_store y.rank y.exact y.exact s1 s2 at.state.typed (λ k. refl) alike

    refs : (k : Key) (q : Bool) (u : Place) → y.exact k ≡ refers q u → y.exact k ≡ refers q u
    refs k q u z = z

    carried : Carried s1 s2
    carried = record { to = λ l. l; from = λ l. l; from_to = λ l. refl; to_from = λ l. refl; there = λ l v i z. alike l ∙ z; back = λ l v i z. sym (alike l) ∙ z }

    -- THE THREADS

    awake : ThreadTyped (slot_k t) y.rank (hand_key t ts) e y.exact s1 (hand_kind ts)
    awake = subst (λ (z : Entry). IsThread z.forked (slot_k t) y.rank (hand_key t z.temps) z.env y.exact s1 (hand_kind z.temps)) e_is run.thread

    asleep : Asleep (slot_k t) y.rank (hand_key t ts) e y.exact (hand_kind ts)
    asleep = record { nested = awake.nested; slots = awake.slots; above = awake.above; temp = awake.temp; names = awake.names; quiet = awake.quiet; over = awake.over }

    core : RunningCore (typing_with y y.exact y.marks) s2 t (a2.pair t) x2
    core = record {
      entry = forked_at e ts g;
      known = refl;
      gives = ap (λ (z : Entry). z.gives) (sym e_is) ∙ run.gives;
      keys = subst (λ (z : Entry). ThreadKeys (slot_k t) y.rank (hand_key t z.temps)) e_is run.keys;
      thread = asleep;
      waiting = subst (λ (z : Entry). (i : ℕ) → i < operands z.temps → y.exact (temp_k t i) ≡ owns int_tree) e_is run.waiting;
      all_slots = run.all_slots ∙ ap (λ (z : Entry). length z.env) e_is;
      all_temps = run.all_temps ∙ ap (λ (z : Entry). length z.temps) e_is;
      forks = ap is_some (sym pair);
      hidden = λ i. ap (λ (z : Entry). is_hidden (env_at z.env i)) (sym e_is) ∙ run.hidden i;
      marked = λ i m z. let lock = subst (λ (r : Entry). IsLock y s1 r.env t i m) e_is (run.marked i m z) in record { leads = alike (y.marks t i) ∙ lock.leads; unnamed = lock.unnamed; content = lock.content };
    }

    core_new : (w : ℕ) (p : Position) → (w ≡ b) ⊎ (w ≡ c) → y.gives.result w ≡ unit → ThreadKeys (slot_k w) y.rank (temp_k w 0) → p.entry ≡ going [] [] unit → p.temps ≡ [] → RunningCore (typing_with y y.exact y.marks) s2 w (a2.pair w) (record { place = p; slots = [] })
    core_new w p q gives keys is temps =
        new_core y (typing_with y y.exact y.marks) s2 w p unit (a2.pair w) typed (hole_slot y a at.state w (fresh w q)) (free_slot y a at.state w (fresh w q)) (hole_temp y a at.state w (fresh w q) 0) (temp_free y a w 0 at.state) keys is temps gives
        (pairs w (apart w q) ∙ none_waits y a at.state w (fresh w q))

    mine : (w : ℕ) (z : Running Position) → (w ≡ t) ⊎ ((w ≡ b) ⊎ (w ≡ c)) → place_in (a2.thread w) ≡ Some z → RunningCore (typing_with y y.exact y.marks) s2 w (a2.pair w) z
    mine w z (inl q) i =
        let f : Some x2 ≡ Some z = sym runs_two ∙ ap (λ n. place_in (a2.thread n)) (sym q) ∙ i in
        let is : x2 ≡ z = cc in
        subst (λ n. RunningCore (typing_with y y.exact y.marks) s2 n (a2.pair n) z) (sym q) (subst (λ n. RunningCore (typing_with y y.exact y.marks) s2 t (a2.pair t) n) is core)
    mine w z (inr (inl q)) i =
        let f : Some xb ≡ Some z = sym (ap place_in new_b) ∙ ap (λ n. place_in (a2.thread n)) (sym q) ∙ i in
        let is : xb ≡ z = cc in
        subst (λ n. RunningCore (typing_with y y.exact y.marks) s2 n (a2.pair n) z) (sym q) (subst (λ n. RunningCore (typing_with y y.exact y.marks) s2 b (a2.pair b) n) is (core_new b pb (inl refl) gives_b keys_b entry_b temps_b))
    mine w z (inr (inr q)) i =
        let f : Some xc ≡ Some z = sym (ap place_in new_c) ∙ ap (λ n. place_in (a2.thread n)) (sym q) ∙ i in
        let is : xc ≡ z = cc in
        subst (λ n. RunningCore (typing_with y y.exact y.marks) s2 n (a2.pair n) z) (sym q) (subst (λ n. RunningCore (typing_with y y.exact y.marks) s2 c (a2.pair c) n) is (core_new c pc (inr refl) gives_c keys_c entry_c temps_c))

    -- WHO WAITS FOR WHOM

    alone : a.pair t ≡ None
    alone = no_pair at

    more : (w : ℕ) (q : ℕ × ℕ) → a.pair w ≡ Some q → a2.pair w ≡ Some q
    more w q i = ⊎_elim (λ (f : w ≡ t). let n : None ≡ Some q = sym alone ∙ ap a.pair (sym f) ∙ i in absurd cc) (λ (nt : w ≢ t). pairs w nt ∙ i) (decide_number w t)

    one_of : (w : ℕ) → WaitsFor a2 t w → (w ≡ b) ⊎ (w ≡ c)
    one_of w h =
        let mine : ℕ × ℕ = (b, c) in
        let two : ℕ × ℕ = (h.first, h.second) in
        let f : mine ≡ two = same_pair (sym pair ∙ h.pair) in
        ⊎_elim (λ (q : w ≡ h.first). inl (q ∙ sym (ap (λ (z : ℕ × ℕ). z.0) f))) (λ (q : w ≡ h.second). inr (q ∙ sym (ap (λ (z : ℕ × ℕ). z.1) f))) h.one
      where
        same_pair : {p q : ℕ × ℕ} → Some p ≡ Some q → p ≡ q
        same_pair i = cc

    back : (p w : ℕ) → p ≢ t → WaitsFor a2 p w → WaitsFor a p w
    back p w nt h = record { first = h.first; second = h.second; pair = sym (pairs p nt) ∙ h.pair; one = h.one }

    fates : (w : ℕ) → three t b c w ≡ true → Fate a a2 w
    fates w q = by (three_is t b c w q)
      where
        by : (w ≡ t) ⊎ ((w ≡ b) ⊎ (w ≡ c)) → Fate a a2 w
        by (inl f) = subst (Fate a a2) (sym f) (goes_on (record { before = x; after = x2; runs = at.runs; now = now; marked = λ i m h. h; still = λ i m h. h }))
        by (inr (inl f)) = subst (Fate a a2) (sym f) (comes (record { none = none_b; after = xb; now = new_b; empty = refl }))
        by (inr (inr f)) = subst (Fate a a2) (sym f) (comes (record { none = none_c; after = xc; now = new_c; empty = refl }))

    beyond : (w : ℕ) → three t b c w ≡ false → a2.thread w ≡ a.thread w
    beyond w q = let ne = three_not t b c w q in others w ne.0 ne.1 ne.2

    stays : Stays a a2
    stays = record { mutexes = mutexes; given = given; objects = objects; marks_to = mark_to fates beyond; marks_back = mark_back fates beyond; made = made }

    -- whom somebody waited for is none of the new ones
    not_new : (w : ℕ) → IsKept (a.thread w) → (w ≡ b) ⊎ (w ≡ c) → ⊥
    not_new w z q = not_kept y a at.state w (fresh w q) z

    branch : (p w : ℕ) → IsBranch y a p w → IsBranch y a2 p w
    branch p w d = record { kept = kept_to fates beyond w d.kept; gives = d.gives; only = λ q r. ⊎_elim (λ (f : q ≡ t). absurd (not_new w d.kept (one_of w (subst (λ z. WaitsFor a2 z w) f r)))) (λ (nt : q ≢ t). d.only q (back q w nt r)) (decide_number q t); below = d.below }

    branch_new : (w : ℕ) (p : Position) → (w ≡ b) ⊎ (w ≡ c) → a2.thread w ≡ Some (owing (record { place = p; slots = [] })) → y.gives.result w ≡ unit → y.order t < y.order w → IsBranch y a2 t w
    branch_new w p f is gives below = record { kept = subst IsKept (sym is) tt; gives = gives; only = λ q r. ⊎_elim (λ (i : q ≡ t). i) (λ (nt : q ≢ t). absurd (none_for y a at.state w (fresh w f) q (back q w nt r))) (decide_number q t); below = below }

    branches : (p f d : ℕ) → a2.pair p ≡ Some (f, d) → (f ≢ d) × IsBranch y a2 p f × IsBranch y a2 p d
    branches p f d z = ⊎_elim new old (decide_number p t)
      where
        new : p ≡ t → (f ≢ d) × IsBranch y a2 p f × IsBranch y a2 p d
        new q =
            let mine : ℕ × ℕ = (b, c) in
            let two : ℕ × ℕ = (f, d) in
            let i : mine ≡ two = some_pair (sym pair ∙ ap a2.pair (sym q) ∙ z) in
            let first : b ≡ f = ap (λ (v : ℕ × ℕ). v.0) i in
            let second : c ≡ d = ap (λ (v : ℕ × ℕ). v.1) i in
            subst (λ v. (v ≢ d) × IsBranch y a2 p v × IsBranch y a2 p d) first (subst (λ v. (b ≢ v) × IsBranch y a2 p b × IsBranch y a2 p v) second
            (subst (λ v. (b ≢ c) × IsBranch y a2 v b × IsBranch y a2 v c) (sym q) (differ, branch_new b pb (inl refl) new_b gives_b order_b, branch_new c pc (inr refl) new_c gives_c order_c)))
          where
            some_pair : {v w : ℕ × ℕ} → Some v ≡ Some w → v ≡ w
            some_pair i = cc

        old : p ≢ t → (f ≢ d) × IsBranch y a2 p f × IsBranch y a2 p d
        old nt = let k = at.state.pairs p f d (sym (pairs p nt) ∙ z) in (k.0, branch p f k.1, branch p d k.2)

    parents : (p f d : ℕ) → a2.pair p ≡ Some (f, d) → (w : Running Position) × (place_in (a2.thread p) ≡ Some w)
    parents p f d z = ⊎_elim (λ (q : p ≡ t). (x2, ap (λ n. place_in (a2.thread n)) q ∙ runs_two)) (λ (nt : p ≢ t). let k = at.state.parents p f d (sym (pairs p nt) ∙ z) in runs_to fates beyond p k.0 k.1) (decide_number p t)

    owed_to : (w : ℕ) → IsOwed a w → IsOwed a2 w
    owed_to w d = record { free = λ p r. ⊎_elim (λ (f : p ≡ t). not_new w d.kept (one_of w (subst (λ z. WaitsFor a2 z w) f r))) (λ (nt : p ≢ t). d.free p (back p w nt r)) (decide_number p t); kept = kept_to fates beyond w d.kept }

    owed_back : (w : ℕ) → IsOwed a2 w → IsOwed a w
    owed_back w d = record { free = λ p r. d.free p (waits_more a a2 more p w r); kept = kept d.kept }
      where
        waited : (w ≡ b) ⊎ (w ≡ c) → WaitsFor a2 t w
        waited q = record { first = b; second = c; pair = pair; one = q }

        kept : IsKept (a2.thread w) → IsKept (a.thread w)
        kept z =
            by_three (λ v. IsKept (a.thread v)) w (λ q. subst (λ n. IsKept (a.thread n)) (sym q) (kept_before (a.thread t) x2 (subst IsKept now (subst (λ n. IsKept (a2.thread n)) q z))))
            (λ q. absurd (d.free t (waited (inl q)))) (λ q. absurd (d.free t (waited (inr q)))) (λ nt nb nc. subst IsKept (others w nt nb nc) z)

    no_pairs : (w : ℕ) → (w ≡ t) ⊎ ((w ≡ b) ⊎ (w ≡ c)) → a.pair w ≡ None
    no_pairs w (inl q) = ap a.pair q ∙ alone
    no_pairs w (inr q) = none_waits y a at.state w (fresh w q)

    pub paired_typed : PositionTypes (typing_with y y.exact y.marks) a2
    unfolding carried
    paired_typed = turns_typed at.state (record {
      typed = typed;
      mine = λ w z q i. mine w z (three_is t b c w q) i;
      others = λ w z q i. sym (ap place_in (beyond w q)) ∙ i;
      pairs = λ w q. let ne = three_not t b c w q in pairs w ne.0;
      same = λ k q. refl;
      of = of_by y a a2 (three t b c) y.exact at.state refs;
      near = near_by y a a2 (three t b c) y.exact at.state refs more;
      named = named_by y a a2 (three t b c) y.exact at.state refs;
      nobody = nobody_by y a (three t b c) at.state (λ w q. no_pairs w (three_is t b c w q));
      marks = λ w i q. refl;
      held = λ w i m z q r f. alike (y.marks w i);
      results = λ w r z. at.state.results w r (ended_back fates beyond w r z);
      branches = branches;
      parents = parents;
      there = there_by y a a2 y.exact Counted at.state stays carried (λ m q. tt);
      mutexes = mutexes_by y a a2 y.exact Counted at.state stays carried (λ m q. tt) (λ m. refl);
      one_task = λ l m w p q i j. at.state.one_task l m w p q (sym (alike l) ∙ i) (sym (alike m) ∙ j);
      tasks_owed = λ l w r z. owed_to w (at.state.tasks_owed l w r (sym (alike l) ∙ z));
      owed_stand = λ w d. let f = at.state.owed_stand w (owed_back w d) in (f.0, f.1, alike f.0 ∙ f.2);
      objects_there = objects_by y a a2 y.exact Counted at.state stays carried (λ o. tt);
      objects_owned = owned_by y a a2 y.exact Counted at.state stays carried (λ o. tt);
      objects_made = made;
    })
