-- The end of a thread whose task somebody has keeps a state typed: the value at hand goes to where the thread's result stands.
use Rattle.std.proofs.Common.{◌≡◌, ◌≢◌, ⊎_elim, ◌∙◌, ap₂, ℕ, Bool, true, false, List, [], ◌∷◌, ◌++◌, length, Some, None, refl, sym, ap, subst, arith}
use Rattle.std.specs.Prelude.{◌==◌}
use Rattle.fr_base.specs.declared.label.Label.TheVariants as label
use Rattle.fr_base.specs.declared.label.Plain.{Plain}
use Rattle.fr_base.specs.declared.name.MutexNo.{MutexNo}
use Rattle.fr_typing.specs.Kinds.{Owned, Kind, own}
use Rattle.fr_typing.proofs.PlaceLemmas.{eq_cases}
use Rattle.fr_store.specs.Keys.{Key, slot_k, temp_k, content_k, result_k, hand_k}
use Rattle.fr_store.specs.Store.{Alike, at_key, at_object, gone_v, ref_v, task_v, Store, value_at, Place, swap}
use Rattle.fr_store.specs.Changes.{SameButTwo}
use Rattle.fr_store.specs.Typed.{Tree, hole, owns, refers, KeyTypes, Typed, Unnamed}
use Rattle.fr_store.specs.Below.{tree_of}
use Rattle.fr_store.specs.Rows.{with_type}
use Rattle.fr_store.proofs.Keys.{key_same, key_other, decide_number}
use Rattle.fr_store.proofs.Rows.{swap_own, same_store}
use Rattle.fr_store.proofs.ThreadKept.{exact_owned, known_tree}
use Rattle.fr_plain.specs.declared.value.Value.{Value}
use Rattle.fr_plain.specs.declared.value.Value.TheVariants.{Own, Held}
use Rattle.fr_plain.specs.State.{slot_at}
use Rattle.fr_plain.specs.MachineThreads.{owing, ended}
use Rattle.fr_plain.specs.PlainState.{Running, PlainState, place_in}
use Rattle.fr_sound.specs.Entries.{Entry, going}
use Rattle.fr_sound.specs.Seen.{seen_cell, owned_val}
use Rattle.fr_sound.specs.States.{Typing, RunningTyped, slot_val, temp_val, result_val, content_val, IsKept, IsBranch, IsOwed}
use Rattle.law_plain_values.specs.acts.Positions.{Position, Knows, temps_of, PositionTypes}
use Rattle.law_plain_values.proofs.acts.Lower.{seen_as, seen_is}
use Rattle.law_plain_values.proofs.acts.OneThread.{store, typing_with, Carried, same_by, other_by, waits_same}
use Rattle.law_plain_values.proofs.acts.Turns.{theirs, nobody_by, turns_typed}
use Rattle.law_plain_values.proofs.acts.Focus.{Focus, hole_there, temp_is, temp_none}
use Rattle.law_plain_values.proofs.acts.AtHand.{mark_off}
use Rattle.law_plain_values.proofs.acts.Moved.{carried_swap}
use Rattle.law_plain_values.proofs.acts.Hand.{At, pushed_others}
use Rattle.law_plain_values.proofs.acts.Operands.{hand_value}
use Rattle.law_plain_values.proofs.acts.SlotTurn.{alike_swap}
use Rattle.fr_plain.specs.MachineThreads.{Thread, Whole, with_thread}
use Rattle.fr_plain.specs.PlainState.{running_in, plain_state}
use Rattle.law_plain_values.specs.acts.ActRows.{Pops, EndsAs, ends_as}
use Rattle.law_plain_values.specs.acts.Keeps.{is_owed}
use Rattle.law_plain_values.proofs.acts.Focus.{top_some}
use Rattle.law_plain_values.proofs.acts.Hand.{ranked}
use Rattle.law_plain_values.proofs.acts.Refs.{none_owns}
use Rattle.law_plain_values.proofs.acts.Done.{names_stay, runs_here}
use Rattle.law_plain_values.proofs.acts.Operands.{load}
use Rattle.law_plain_values.proofs.acts.Slots.{owned_value}
use Rattle.law_plain_threads.specs.threads.ThreadActs.{FinishKeeps}
use Rattle.law_plain_values.proofs.acts.Threads.{no_pair, objects_counted, put_here, put_elsewhere, pairs_same, owing_before, still_here}
use Rattle.law_plain_values.proofs.acts.Stays.{Stays, there_by, mutexes_by, objects_by, owned_by, of_by, near_by, named_by}
use Rattle.fr_plain.specs.PlainState.{is_over_in, running}

-- THE STATE

module _ (y : Typing) (a a2 : PlainState Position) (t : ℕ) (x : Running Position) (g : Owned) (v : Plain) (at : At y a t x [] (own g ∷ []) g) (fc : Focus y a t [] [] (Some (own g))) (temps : x.place.temps ≡ Own v ∷ [])
    (was : a.thread t ≡ Some (owing x)) (now : a2.thread t ≡ Some (ended (Own v))) (others : (u : ℕ) → u ≢ t → a2.thread u ≡ a.thread u) (pairs : (u : ℕ) → a2.pair u ≡ a.pair u) (stays : Stays a a2) where
  abbrev h : Key
  h = temp_k t 0

  abbrev rk : Key
  rk = result_k t

  abbrev G : Tree
  G = tree_of g

  abbrev E2 : KeyTypes
  E2 = with_type (with_type y.exact (result_k t) (owns (tree_of g))) (temp_k t 0) (owns hole)

  abbrev s1 : Store
  s1 = store y a

  abbrev s2 : Store
  s2 = store (typing_with y E2 y.marks) a2

  abbrev T : ℕ → Bool
  T u = u == t

  run : RunningTyped Knows temps_of y s1 t (a.pair t) x
  run = at.state.threads t x at.runs

  e_is : run.entry ≡ going [] (own g ∷ []) g
  e_is = sym run.known ∙ at.entry

  alone : a.pair t ≡ None
  alone = no_pair at

  no_slots : length x.slots ≡ 0
  no_slots = run.all_slots ∙ ap (λ (z : Entry). length z.env) e_is

  -- WHAT STANDS

  was_h : s1.at h ≡ owned_val y.gives v
  was_h = hand_value y a t 0 x (Own v) [] at.runs temps refl

  was_rk : s1.at rk ≡ gone_v
  was_rk = ap (result_val temps_of y t) was

  now_h : s2.at h ≡ gone_v
  now_h = ap (λ z. temp_val temps_of (typing_with y E2 y.marks) t 0 (place_in z)) now

  now_rk : s2.at rk ≡ owned_val y.gives v
  now_rk = ap (result_val temps_of (typing_with y E2 y.marks) t) now

  slot_gone : (i : ℕ) → s1.at (slot_k t i) ≡ gone_v
  slot_gone i = ap (slot_val temps_of y t i) at.runs ∙ seen_is temps_of y t i x ∙ ap (seen_as y.gives t (ref_v (y.marks t i))) (temp_none x.slots i (omega (arith, no_slots)))

  temp_gone : (i : ℕ) → i ≢ 0 → s1.at (temp_k t i) ≡ gone_v
  temp_gone i ne = ap (temp_val temps_of y t i) at.runs ∙ temp_is y t i x ∙ ap (λ z. seen_as y.gives t gone_v (slot_at z i)) temps ∙ ap (seen_as y.gives t gone_v) (pushed_others (Own v) [] i 0 refl ne)

  same : SameButTwo (at_key h) (at_key rk) s1 s2
  same (at_object o) nh nr = ap (seen_cell y.gives) (stays.objects o)
  same (at_key k) nh nr = ap Some (by k nh nr)
    where
      by : (k : Key) → at_key k ≢ at_key h → at_key k ≢ at_key rk → s2.at k ≡ s1.at k
      by (slot_k u i) nh nr =
          ⊎_elim (λ (e : u ≡ t). ap (λ w. s2.at (slot_k w i)) e ∙ ap (λ z. slot_val temps_of (typing_with y E2 y.marks) t i (place_in z)) now ∙ sym (slot_gone i) ∙ ap (λ w. s1.at (slot_k w i)) (sym e))
          (λ (q : u ≢ t). ap (λ z. slot_val temps_of y u i (place_in z)) (others u q)) (decide_number u t)
      by (temp_k u i) nh nr =
          ⊎_elim
          (λ (e : u ≡ t). ap (λ w. s2.at (temp_k w i)) e ∙ ap (λ z. temp_val temps_of (typing_with y E2 y.marks) t i (place_in z)) now ∙ sym (temp_gone i (λ q. nh (ap₂ (λ w n. at_key (temp_k w n)) e q))) ∙ ap (λ w. s1.at (temp_k w i)) (sym e))
          (λ (q : u ≢ t). ap (λ z. temp_val temps_of y u i (place_in z)) (others u q)) (decide_number u t)
      by (content_k m c) nh nr = ap (content_val y.gives) (stays.mutexes (record { home = m; count = c }))
      by (result_k u) nh nr = ap (result_val temps_of y u) (others u (λ e. nr (ap (λ w. at_key (result_k w)) e)))
      by (hand_k u) nh nr = refl

  there : value_at s2 (at_key rk) ≡ Some (s1.at h)
  there = ap Some (now_rk ∙ sym was_h)

  alike : Alike (swap s1 h (at_key rk)) s2
  alike = alike_swap s1 s2 h (at_key rk) gone_v (λ q. cc) (ap Some was_rk) same there now_h

  -- TYPES

  full : y.exact h ≡ owns G
  full = exact_owned (slot_k t) y.exact g (y.exact h) fc.thread.temp

  free_rk : Unnamed y.exact rk
  free_rk j q u is z = let i = at.state.near j q u is in let l : slot_k i.owner i.slot ≡ rk = sym i.is ∙ z in cc

  hole_rk : y.exact rk ≡ owns hole
  hole_rk = hole_there y.rank y.exact s1 rk at.state.typed was_rk

  typed : Typed y.rank E2 s2
  typed = same_store y.rank E2 E2 (swap s1 h (at_key rk)) s2 (swap_own y.rank y.exact s1 h rk 0 G hole hole (at_key rk) at.state.typed fc.thread.quiet (λ q. cc) full free_rk hole_rk refl refl) (λ j. refl) alike

  off : (j : Key) → j ≢ h → j ≢ rk → E2 j ≡ y.exact j
  off j nh nr = key_other j h (owns hole) (with_type y.exact rk (owns G) j) nh ∙ key_other j rk (owns G) (y.exact j) nr

  at_result : E2 rk ≡ owns G
  at_result = key_other rk h (owns hole) (with_type y.exact rk (owns G) rk) (λ q. cc) ∙ key_same rk (owns G) (y.exact rk)

  refs : (j : Key) (q : Bool) (u : Place) → E2 j ≡ refers q u → y.exact j ≡ refers q u
  refs j q u z = known_tree (slot_k t) h y.exact rk G j q u (known_tree (slot_k t) h (with_type y.exact rk (owns G)) h hole j q u z)

  self : T t ≡ true
  self = eq_cases (λ b. b ≡ true) t t (λ e. refl) (λ ne. absurd (ne refl))

  -- a key of another thread is none of the two
  other_keys : (k : Key) → theirs T k ≡ false → E2 k ≡ y.exact k
  other_keys k e = off k (λ q. let f : true ≡ false = sym self ∙ sym (ap (theirs T) q) ∙ e in cc) (λ q. let f : true ≡ false = sym (ap (theirs T) q) ∙ e in cc)

  -- WHO IS KEPT

  kept_to : (u : ℕ) → IsKept (a.thread u) → IsKept (a2.thread u)
  kept_to u k = ⊎_elim (λ (e : u ≡ t). subst IsKept (sym (ap a2.thread e ∙ now)) tt) (λ (ne : u ≢ t). subst IsKept (sym (others u ne)) k) (decide_number u t)

  kept_back : (u : ℕ) → IsKept (a2.thread u) → IsKept (a.thread u)
  kept_back u k = ⊎_elim (λ (e : u ≡ t). subst IsKept (sym (ap a.thread e ∙ was)) tt) (λ (ne : u ≢ t). subst IsKept (others u ne) k) (decide_number u t)

  branch : (p b : ℕ) → IsBranch y a p b → IsBranch y a2 p b
  branch p b d = record { kept = kept_to b d.kept; gives = d.gives; only = λ q w. d.only q (waits_same a2 a (λ u. sym (pairs u)) q b w); below = d.below }

  owed_to : (u : ℕ) → IsOwed a u → IsOwed a2 u
  owed_to u d = record { free = λ p w. d.free p (waits_same a2 a (λ z. sym (pairs z)) p u w); kept = kept_to u d.kept }

  owed_back : (u : ℕ) → IsOwed a2 u → IsOwed a u
  owed_back u d = record { free = λ p w. d.free p (waits_same a a2 pairs p u w); kept = kept_back u d.kept }

  carried : Carried s1 s2
  carried = carried_swap s1 s2 h (at_key rk) same there (ap Some (now_h ∙ sym was_rk))

  parents : (p b c : ℕ) → a2.pair p ≡ Some (b, c) → (w : Running Position) × (place_in (a2.thread p) ≡ Some w)
  parents p b c e =
      let d = at.state.parents p b c (sym (pairs p) ∙ e) in
      (d.0, ap place_in (others p (λ q. let two : ℕ × ℕ = (b, c) in let f : None ≡ Some two = sym alone ∙ ap a.pair (sym q) ∙ sym (pairs p) ∙ e in cc)) ∙ d.1)

  results : (u : ℕ) (w : Value) → a2.thread u ≡ Some (ended w) → E2 (result_k u) ≡ owns (tree_of (y.gives.result u))
  results u w e =
      ⊎_elim (λ (q : u ≡ t). ap (λ z. E2 (result_k z)) q ∙ at_result ∙ ap (λ z. owns (tree_of z)) (sym (ap (λ (z : Entry). z.gives) e_is) ∙ run.gives) ∙ ap (λ z. owns (tree_of (y.gives.result z))) (sym q))
      (λ (ne : u ≢ t). off (result_k u) (λ q. cc) (λ q. let f : u ≡ t = cc in ne f) ∙ at.state.results u w (sym (others u ne) ∙ e)) (decide_number u t)

  pub finished_typed : PositionTypes (typing_with y E2 y.marks) a2
  finished_typed = turns_typed at.state (record {
    typed = typed;
    mine = λ u w k e. let f : None ≡ Some w = sym (ap place_in (ap a2.thread (same_by u t k) ∙ now)) ∙ e in cc;
    others = λ u w k e. sym (ap place_in (others u (other_by u t k))) ∙ e;
    pairs = λ u k. pairs u;
    same = other_keys;
    of = of_by y a a2 T E2 at.state refs;
    near = near_by y a a2 T E2 at.state refs (λ u b e. pairs u ∙ e);
    named = named_by y a a2 T E2 at.state refs;
    nobody = nobody_by y a T at.state (λ u k. ap a.pair (same_by u t k) ∙ alone);
    marks = λ u i k. refl;
    held = λ u i m w k runs mark. same (y.marks u i) (mark_off y a u i m w h at.state runs mark fc.thread.quiet) (mark_off y a u i m w rk at.state runs mark free_rk);
    results = results;
    branches = λ p b c e. let d = at.state.pairs p b c (sym (pairs p) ∙ e) in (d.0, branch p b d.1, branch p c d.2);
    parents = parents;
    there = there_by y a a2 E2 _ at.state stays carried (λ m q. tt);
    mutexes = mutexes_by y a a2 E2 _ at.state stays carried (λ m q. tt) (λ m. off (content_k m.home m.count) (λ q. cc) (λ q. cc));
    one_task = λ l m u p q e f. sym (carried.to_from l) ∙ ap carried.to (at.state.one_task (carried.from l) (carried.from m) u p q (carried.back l (task_v u p) tt e) (carried.back m (task_v u q) tt f)) ∙ carried.to_from m;
    tasks_owed = λ l u r e. owed_to u (at.state.tasks_owed (carried.from l) u r (carried.back l (task_v u r) tt e));
    owed_stand = λ u d. let f = at.state.owed_stand u (owed_back u d) in (carried.to f.0, f.1, carried.there f.0 (task_v u f.1) tt f.2);
    objects_there = objects_by y a a2 E2 _ at.state stays carried (λ o. tt);
    objects_owned = owned_by y a a2 E2 _ at.state stays carried (λ o. tt);
    objects_made = stays.made;
  })

-- THE END

record EndRow (x : Entry) (vs : List Value) (v : Value) : Type 0 where
  before : List Kind
  result : Owned
  pops : Pops before vs v (own result) [] []
  entry : x ≡ going [] before result

end_row : {x : Entry} {vs : List Value} {v : Value} → EndsAs x vs v → EndRow x vs v
end_row (ends_as {ts = ts} {g = g} pops) = record { before = ts; result = g; pops = pops; entry = refl }

-- a thread without slots has no mark
no_mark : (vs : List Value) (i : ℕ) (m : MutexNo) → length vs ≡ 0 → slot_at vs i ≡ Some (Held m) → ⊥
no_mark vs i m n e = let f : None ≡ Some (Held m) = sym (temp_none vs i (omega (arith, n))) ∙ e in cc

pub finish_keeps : FinishKeeps
finish_keeps now move y s t p v r =
    let i = end_row r.ends in
    let n = t.number in
    let x : Running Position = record { place = p; slots = t.slots } in
    let at0 : At y (plain_state s) n x [] i.before i.result = record { state = r.state; runs = runs_here s t p owing is_owed r.found r.at; entry = i.entry } in
    let l = load y (plain_state s) n x [] i.result at0 refl i.pops in
    let z = ranked l.typing l.state n l.running [] (own i.result ∷ []) [] (Some (own i.result)) i.result l.at top_some l.waits in
    let d = owned_value l z in
    let new : Thread Position = record { number = n; life = ended v; slots = t.slots } in
    let s2 : Whole Position = record s { threads = with_thread s.threads new; heap = s.heap; output = s.output ++ [] } in
    let life0 : (plain_state s).thread n ≡ Some (owing x) = ap running_in r.found ∙ ap (λ k. Some (running t.slots k)) r.at in
    let same = l.only (plain_state s) x (still_here s t p owing is_owed r.found r.at) in
    let here = put_here s.threads t new refl r.found in
    let off = put_elsewhere s.threads t new refl r.found in
    let was = owing_before (l.state.thread n) x l.running (sym life0 ∙ same.now) z.at.runs in
    let pairs = pairs_same s s2 n refl off (no_pair at0) (ap is_over_in here) in
    let empty : length l.running.slots ≡ 0 = z.running.all_slots ∙ ap (λ (k : Entry). length k.env) (sym z.running.known ∙ z.at.entry) in
    let others = λ (u : ℕ) (ne : u ≢ n). ap running_in (off u ne) ∙ same.others u ne in
    let ended_here : (plain_state s2).thread n ≡ Some (ended (Own d.0)) = ap running_in here ∙ ap (λ k. Some (ended k)) d.1 in
    let typed = finished_typed z.typing l.state (plain_state s2) n l.running i.result d.0 z.at z.focus (l.temps ∙ ap (λ k. k ∷ []) d.1) was ended_here others (λ u. pairs u ∙ same.pairs u) (record {
      mutexes = same.mutexes;
      given = same.given;
      objects = λ o. sym (l.objects o);
      marks_to = λ m u j k. ⊎_elim (λ (e : u ≡ n). absurd (no_mark k.thread.slots j m (mark_slots l.state n l.running empty z.at.runs k.thread (ap (λ w. place_in (l.state.thread w)) (sym e) ∙ k.goes_on)) k.mark)) (λ (ne : u ≢ n). record { thread = k.thread; goes_on = ap place_in (others u ne) ∙ k.goes_on; mark = k.mark }) (decide_number u n);
      marks_back = λ m u j k. ⊎_elim (λ (e : u ≡ n). absurd (gone (plain_state s2) n (Own d.0) ended_here k.thread (ap (λ w. place_in ((plain_state s2).thread w)) (sym e) ∙ k.goes_on))) (λ (ne : u ≢ n). record { thread = k.thread; goes_on = sym (ap place_in (others u ne)) ∙ k.goes_on; mark = k.mark }) (decide_number u n);
      made = objects_counted s2;
    }) in
    record { next = record { state = s2; labels = label.End n ∷ [] }; is = refl; typing = _; typed = typed; kept = names_stay (z.names ∙ l.names); refs = λ j u e. l.refs j u (z.refs j u (none_owns z.typing.exact (result_k n) (tree_of i.result) j u (none_owns (with_type z.typing.exact (result_k n) (owns (tree_of i.result))) (temp_k n 0) hole j u e))) }
  where
    mark_slots : (a : PlainState Position) (n : ℕ) (x : Running Position) → length x.slots ≡ 0 → place_in (a.thread n) ≡ Some x → (w : Running Position) → place_in (a.thread n) ≡ Some w → length w.slots ≡ 0
    mark_slots a n x empty runs w e = let f : Some x ≡ Some w = sym runs ∙ e in let same : x ≡ w = cc in ap (λ (k : Running Position). length k.slots) (sym same) ∙ empty

    gone : (a : PlainState Position) (n : ℕ) (v : Value) → a.thread n ≡ Some (ended v) → (w : Running Position) → place_in (a.thread n) ≡ Some w → ⊥
    gone a n v e w f = let g : None ≡ Some w = sym (ap place_in e) ∙ f in cc
