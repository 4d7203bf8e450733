-- One share more keeps a state typed.
use Rattle.std.proofs.Common.{◌≡◌, ◌≢◌, inr, ⊎_elim, ◌∙◌, ap₂, ℕ, zero, suc, ◌+◌, ◌<◌, ◌≤◌, Bool, true, List, ◌∷◌, length, Option, Some, None, refl, sym, ap, subst, arith}
use Rattle.std.specs.Prelude.{⊤, slice_get}
use Rattle.fr_base.specs.declared.label.Plain.TheVariants as plain
use Rattle.fr_base.specs.declared.name.ObjNo.{ObjNo}
use Rattle.fr_base.specs.declared.name.MutexNo.{MutexNo}
use Rattle.fr_base.specs.declared.place.Lval.{Lval}
use Rattle.fr_base.specs.declared.step.Fresh.TheVariants as fresh
use Rattle.fr_typing.specs.Kinds.{Owned, mutex, Kind, own, whole}
use Rattle.fr_typing.specs.Places.{Env, found}
use Rattle.fr_store.specs.Keys.{Key, slot_k, temp_k, content_k}
use Rattle.fr_store.specs.Store.{Location, at_key, at_object, Val, box_v, mutex_v, task_v, gone_v, Store, value_at, Place}
use Rattle.fr_store.specs.Changes.{SameBut}
use Rattle.fr_store.specs.Typed.{Tree, hole, mutex_tree, owns, refers, KeyTypes, Typed}
use Rattle.fr_store.specs.Below.{tree_of, ExactOf}
use Rattle.fr_store.specs.Rows.{with_type}
use Rattle.fr_store.specs.Thread.{ThreadTyped}
use Rattle.fr_store.proofs.Keys.{key_same, key_other, decide_number}
use Rattle.fr_store.proofs.Chains.{decide_location}
use Rattle.fr_store.proofs.Rows.{top_fits}
use Rattle.fr_store.proofs.ThreadKept.{known_tree}
use Rattle.fr_plain.specs.declared.value.Value.{Value}
use Rattle.fr_plain.specs.declared.value.Value.TheVariants.{Own, Held}
use Rattle.fr_plain.specs.MachineActs.{do_dup}
use Rattle.fr_plain.specs.State.{slot_at}
use Rattle.fr_plain.specs.MachineThreads.{Now, Move, Life, Thread, Whole as Machine, Shared, with_thread, with_mutex}
use Rattle.fr_plain.specs.Machine.{nameless, at_mutex, where_there, shared}
use Rattle.fr_plain.specs.PlainState.{Running, PlainState, place_in, plain_state}
use Rattle.fr_sound.specs.Entries.{Entry, going}
use Rattle.fr_sound.specs.States.{Typing, content_val, env_at, is_hidden, IsLock, thread_of_key, AreSoMany, IsShare, MutexTyped}
use Rattle.fr_code.specs.CodeTypes.{HasType, wait}
use Rattle.law_plain_values.specs.acts.Positions.{Position, PositionTypes, moves_by, StartsAs}
use Rattle.law_plain_values.specs.acts.ActRows.{Leaves, loud, left_after, ActRow, r_dup}
use Rattle.law_plain_values.specs.acts.Keeps.{Ready, StepsTyped, Keeps}
use Rattle.law_plain_values.proofs.acts.Lower.{seen_as}
use Rattle.law_plain_values.proofs.acts.OneThread.{store, typing_with, CarriedOf, share_back, as_many}
use Rattle.law_plain_values.proofs.acts.Turned.{untouched_other}
use Rattle.law_plain_values.proofs.acts.Marks.{mark_back, one_mark_to}
use Rattle.law_plain_values.proofs.acts.Focus.{top_none, top_some, hand_at}
use Rattle.law_plain_values.proofs.acts.AtHand.{mark_off}
use Rattle.law_plain_values.proofs.acts.Refs.{none_owns}
use Rattle.law_plain_values.proofs.acts.Hand.{At, Ranked, ranked, rehung, pushed_others, pushed_here}
use Rattle.law_plain_values.proofs.acts.Done.{runs_here, only_here}
use Rattle.law_plain_values.proofs.acts.Sums.{Lone, temp_after, keys_same, Base, Sums, turned}
use Rattle.law_plain_threads.specs.mutexes.MutexActs.{IsDup}
use Rattle.law_plain_values.proofs.acts.Mutexes.{decide_mutex, there_set, there_off, given_set}
use Rattle.law_plain_values.proofs.acts.Flat.{flat_typed}
use Rattle.law_plain_threads.proofs.mutexes.Found.{FoundMutex, found_mutex}
use Rattle.law_plain_values.proofs.acts.Done.{step_by}

-- counted values, but for those of one mutex
abbrev pub But : MutexNo → Val → Type 0
But m (box_v o) = ⊤
But m (mutex_v k c) = k ≢ m
But m (task_v t r) = ⊤
But m _ = ⊥

-- WHERE VALUES STAND AFTER A NEW VALUE OF THE MUTEX HAS COME TO A FREE KEY

module _ (s s2 : Store) (h : Key) (m : MutexNo) (c : Tree) (same : SameBut (at_key h) s s2) (empty : s.at h ≡ gone_v) (new : s2.at h ≡ mutex_v m c) where
  pub kept : CarriedOf (But m) s s2
  kept = record {
    to = λ l. l;
    from = λ l. l;
    from_to = λ l. refl;
    to_from = λ l. refl;
    there = λ l v b e. ⊎_elim (λ (q : l ≡ at_key h). let f : Some v ≡ Some gone_v = sym e ∙ ap (value_at s) q ∙ ap Some empty in let g : v ≡ gone_v = cc in absurd (subst (But m) g b)) (λ (ne : l ≢ at_key h). same l ne ∙ e) (decide_location l (at_key h));
    back = λ l v b e. ⊎_elim (λ (q : l ≡ at_key h). let f : Some v ≡ Some (mutex_v m c) = sym e ∙ ap (value_at s2) q ∙ ap Some new in let g : v ≡ mutex_v m c = cc in absurd ((subst (But m) g b) refl)) (λ (ne : l ≢ at_key h). sym (same l ne) ∙ e) (decide_location l (at_key h));
  }

  -- one value more of the mutex
  pub one_more : (n : ℕ) → AreSoMany (IsShare s m) n → AreSoMany (IsShare s2 m) (n + 1)
  one_more n d = record {
    places = at_key h ∷ d.places;
    each = each;
    all = λ l w. ⊎_elim (λ (q : l ≡ at_key h). (zero, ap Some (sym q))) (λ (ne : l ≢ at_key h). let f = d.all l (w.0, sym (same l ne) ∙ w.1) in (suc f.0, f.1)) (decide_location l (at_key h));
    once = once;
    count = let f = d.count in omega (arith, f);
  }
    where
      off : (l : Location) → IsShare s m l → l ≢ at_key h
      off l w q = let f : Some (mutex_v m w.0) ≡ Some gone_v = sym w.1 ∙ ap (value_at s) q ∙ ap Some empty in cc

      each : (i : ℕ) (l : Location) → slice_get (at_key h ∷ d.places) i ≡ Some l → IsShare s2 m l
      each zero l e = let q : at_key h ≡ l = cc in (c, ap (value_at s2) (sym q) ∙ ap Some new)
      each (suc i) l e = let w = d.each i l e in (w.0, same l (off l w) ∙ w.1)

      once : (i j : ℕ) (l : Location) → slice_get (at_key h ∷ d.places) i ≡ Some l → slice_get (at_key h ∷ d.places) j ≡ Some l → i ≡ j
      once zero zero l e f = refl
      once zero (suc j) l e f = let q : at_key h ≡ l = cc in absurd (off l (d.each j l f) (sym q))
      once (suc i) zero l e f = let q : at_key h ≡ l = cc in absurd (off l (d.each i l e) (sym q))
      once (suc i) (suc j) l e f = ap suc (d.once i j l e f)

-- THE STATE

module _ {y0 : Typing} (s : Machine Position) (t : Thread Position) (p : Position) (e : Env) (ts : List Kind) (g x : Owned) (w : Lval) (z : Ranked y0 (plain_state s) t.number (record { place = p; slots = t.slots }) e ts ts None g) (f : FoundMutex z.typing s t w x) (a2 : PlainState Position) where
  abbrev h : Key
  h = hand_at t.number ts

  abbrev c : Tree
  c = tree_of x

  abbrev a : PlainState Position
  a = plain_state s

  abbrev x1 : Running Position
  x1 = record { place = p; slots = t.slots }

  abbrev x2 : Running Position
  x2 = record { place = record { entry = going e (own (mutex x) ∷ ts) g; temps = Own (plain.Mutex f.number) ∷ p.temps }; slots = t.slots }

  abbrev E2 : KeyTypes
  E2 = with_type z.typing.exact (hand_at t.number ts) (owns (mutex_tree (tree_of x)))

  abbrev s1 : Store
  s1 = store z.typing (plain_state s)

  abbrev s2 : Store
  s2 = store (typing_with z.typing E2 z.typing.marks) a2

  -- its mutex has a share more
  abbrev more : Shared
  more = record { content = f.shared.content; shares = f.shared.shares + 1 }

  module _ (lone : Lone (plain_state s) a2 t.number x2) (objects : (o : ObjNo) → a2.object o ≡ (plain_state s).object o) (made : (u : ℕ) → (plain_state s).made u ≤ a2.made u) (now_there : a2.mutex f.number ≡ Some more) (others : (k : MutexNo) → k ≢ f.number → a2.mutex k ≡ (plain_state s).mutex k) (given : (k : MutexNo) → a2.is_given k ≡ (plain_state s).is_given k) where
    contents : (k : MutexNo) → content_val z.typing.gives (a2.mutex k) ≡ content_val z.typing.gives ((plain_state s).mutex k)
    contents k = ⊎_elim (λ (q : k ≡ f.number). ap (λ i. content_val z.typing.gives (a2.mutex i)) q ∙ ap (content_val z.typing.gives) now_there ∙ sym (ap (λ i. content_val z.typing.gives ((plain_state s).mutex i)) q ∙ ap (content_val z.typing.gives) f.there)) (λ (ne : k ≢ f.number). ap (content_val z.typing.gives) (others k ne)) (decide_mutex k f.number)

    same : SameBut (at_key (hand_at t.number ts)) s1 s2
    same (at_object o) ne = ap (Rattle.fr_sound.specs.Seen.seen_cell z.typing.gives) (objects o)
    same (at_key j) ne =
        ap Some
        (keys_same z.typing (plain_state s) a2 t.number x1 x2 E2 z.typing.marks z.at.runs lone (λ u i q. refl) (λ i. at_key i ≢ at_key (hand_at t.number ts)) (λ i q. refl)
        (λ i q. ap (seen_as z.typing.gives t.number gone_v) (pushed_others (Own (plain.Mutex f.number)) p.temps i (length ts) (sym z.long) (λ r. q (ap (λ m. at_key (temp_k t.number m)) r))))
        (λ hm n q. contents (record { home = hm; count = n }))
        j ne)

    empty : s1.at (hand_at t.number ts) ≡ gone_v
    empty = top_fits z.typing.rank z.typing.exact s1 z.at.state.typed (hand_at t.number ts) hole z.focus.thread.temp

    new : s2.at (hand_at t.number ts) ≡ mutex_v f.number (tree_of x)
    new = temp_after z.typing (plain_state s) a2 t.number x1 x2 E2 z.typing.marks z.at.runs lone (λ u i q. refl) (length ts) ∙ ap (seen_as z.typing.gives t.number gone_v) (pushed_here (Own (plain.Mutex f.number)) p.temps (length ts) (sym z.long)) ∙ ap (mutex_v f.number) f.tree

    is_two : E2 (hand_at t.number ts) ≡ owns (mutex_tree (tree_of x))
    is_two = key_same (hand_at t.number ts) (owns (mutex_tree (tree_of x))) (z.typing.exact (hand_at t.number ts))

    off : (j : Key) → j ≢ hand_at t.number ts → E2 j ≡ z.typing.exact j
    off j ne = key_other j (hand_at t.number ts) (owns (mutex_tree (tree_of x))) (z.typing.exact j) ne

    refs : (j : Key) (m : Bool) (u : Place) → E2 j ≡ refers m u → z.typing.exact j ≡ refers m u
    refs j m u q = known_tree (slot_k t.number) (hand_at t.number ts) z.typing.exact (hand_at t.number ts) (mutex_tree (tree_of x)) j m u q

    typed : Typed z.typing.rank E2 s2
    typed = flat_typed z.typing.rank z.typing.exact E2 s1 s2 (hand_at t.number ts) (mutex_tree (tree_of x)) z.at.state.typed z.focus.thread.quiet off same is_two (f.number, new) (λ i. refl) (λ o q. let r : mutex_v f.number (tree_of x) ≡ box_v o = sym new ∙ q in cc)

    thread : ThreadTyped (slot_k t.number) z.typing.rank (hand_at t.number ts) e E2 s2 (Some (own (mutex x)))
    thread = rehung (slot_k t.number) z.typing.rank (hand_at t.number ts) e z.typing.exact s1 s2 None (Some (own (mutex x))) (owns (mutex_tree (tree_of x))) z.focus.keys z.focus.thread typed
        (subst (ExactOf (slot_k t.number) E2 (whole (own (mutex x)))) (sym is_two) refl) tt (λ m u q. absurd cc)

    held : (u i : ℕ) (m : MutexNo) (r : Running Position) → place_in ((plain_state s).thread u) ≡ Some r → slot_at r.slots i ≡ Some (Held m) → value_at s2 (z.typing.marks u i) ≡ value_at s1 (z.typing.marks u i)
    held u i m r runs mark = same (z.typing.marks u i) (mark_off z.typing (plain_state s) u i m r (hand_at t.number ts) z.at.state runs mark z.focus.thread.quiet)

    e_is : z.running.entry ≡ going e ts g
    e_is = sym z.running.known ∙ z.at.entry

    base : Base z.typing (plain_state s) a2 t.number x1 x2 e e ts (own (mutex x) ∷ ts) (Some (own (mutex x))) g E2 z.typing.marks
    base = record {
      lone = lone;
      tops = top_some;
      idle = λ q. cc;
      entry = refl;
      temps = ap suc z.long;
      slots = z.running.all_slots ∙ ap (λ (r : Entry). length r.env) e_is;
      over = λ i lt m. z.focus.high i m (omega (arith, lt));
      thread = thread;
      same = λ j q. off j (λ r. untouched_other t.number j q (ap thread_of_key r));
      waits = λ i lt. off (temp_k t.number i) (λ r. let q : i ≡ length ts = cc in omega (arith, lt, q));
      named = λ j m u q. inr (j, (λ r. r), refs j m u q);
      still = λ j m u ne q. refs j m u q;
      hidden = λ i. ap (λ (r : Entry). is_hidden (env_at r.env i)) (sym e_is) ∙ z.running.hidden i;
      locks = λ i m q. let lock = subst (λ (r : Entry). IsLock z.typing s1 r.env t.number i m) e_is (z.running.marked i m q) in record { leads = held t.number i m x1 z.at.runs q ∙ lock.leads; unnamed = λ j b u r. lock.unnamed j b u (refs j b u r); content = lock.content };
      marks = λ u i q. refl;
      held = λ u i m r ne runs mark. held u i m r runs mark;
    }

    carried : CarriedOf (But f.number) s1 s2
    carried = kept s1 s2 (hand_at t.number ts) f.number (tree_of x) same empty new

    went_on : (u : ℕ) (r : Running Position) → place_in (a2.thread u) ≡ Some r → (y : Running Position) × (place_in ((plain_state s).thread u) ≡ Some y)
    went_on u r q = ⊎_elim (λ (i : u ≡ t.number). (x1, ap (λ v. place_in ((plain_state s).thread v)) i ∙ z.at.runs)) (λ (ne : u ≢ t.number). (r, sym (ap place_in (lone.others u ne)) ∙ q)) (decide_number u t.number)

    -- a mutex with its old sum, where the marks and contents are as before
    mutex_with : (k : MutexNo) (old z2 : Shared) → MutexTyped z.typing (plain_state s) s1 k old → old.content ≡ z2.content → AreSoMany (IsShare s2 k) z2.shares → 0 < z2.shares → MutexTyped (typing_with z.typing E2 z.typing.marks) a2 s2 k z2
    mutex_with k old z2 d same_content shares needed = record {
      given = given k ∙ d.given;
      shares = shares;
      needed = needed;
      out = λ r. one_mark_to (plain_state s) a2 t.number x1 x2 z.at.runs lone.now lone.others k (λ i q. q) (λ i q. q) (d.out (same_content ∙ r));
      unheld = λ v r u i mark. d.unheld v (same_content ∙ r) u i (mark_back (plain_state s) a2 t.number x1 x2 z.at.runs lone.now lone.others k (λ i q. q) (λ i q. q) u i mark);
      content = λ v r. off (content_k k.home k.count) (λ q. cc) ∙ d.content v (same_content ∙ r);
    }

    mutexes : (k : MutexNo) (r : Shared) → a2.mutex k ≡ Some r → MutexTyped (typing_with z.typing E2 z.typing.marks) a2 s2 k r
    mutexes k r q = ⊎_elim same_one other (decide_mutex k f.number)
      where
        same_one : k ≡ f.number → MutexTyped (typing_with z.typing E2 z.typing.marks) a2 s2 k r
        same_one i =
            let u : Some more ≡ Some r = sym now_there ∙ ap a2.mutex (sym i) ∙ q in
            let d = z.at.state.mutexes f.number f.shared f.there in
            let n = d.needed in
            let is : more ≡ r = cc in
            subst (λ b. MutexTyped (typing_with z.typing E2 z.typing.marks) a2 s2 b r) (sym i) (subst (MutexTyped (typing_with z.typing E2 z.typing.marks) a2 s2 f.number) is
            (mutex_with f.number f.shared more d refl (one_more s1 s2 (hand_at t.number ts) f.number (tree_of x) same empty new f.shared.shares d.shares) (omega (arith, n))))

        other : k ≢ f.number → MutexTyped (typing_with z.typing E2 z.typing.marks) a2 s2 k r
        other ne = let d = z.at.state.mutexes k r (sym (others k ne) ∙ q) in mutex_with k r r d refl (as_many (But f.number) s1 s2 carried k (λ v. ne) r.shares d.shares) d.needed

    sums : Sums z.typing (plain_state s) a2 E2 z.typing.marks
    sums = record {
      there = λ q k r. ⊎_elim (λ (i : k ≡ f.number). (more, ap a2.mutex i ∙ now_there)) (λ (ne : k ≢ f.number). let d = z.at.state.there (carried.from q) k (share_back (But f.number) s1 s2 carried k (λ v. ne) q r) in (d.0, others k ne ∙ d.1)) (decide_mutex k f.number);
      mutexes = mutexes;
      one_task = λ q r u v b d i. sym (carried.to_from q) ∙ ap carried.to (z.at.state.one_task (carried.from q) (carried.from r) u v b (carried.back q (task_v u v) tt d) (carried.back r (task_v u b) tt i)) ∙ carried.to_from r;
      task_from = λ q u r d. (carried.from q, carried.back q (task_v u r) tt d);
      task_to = λ q u r d. (carried.to q, r, carried.there q (task_v u r) tt d);
      objects_there = λ q o d. let b = z.at.state.objects_there (carried.from q) o (carried.back q (box_v o) tt d) in (b.0, objects o ∙ b.1);
      objects_owned = λ o v d. let b = z.at.state.objects_owned o v (sym (objects o) ∙ d) in (carried.to b.0, carried.there b.0 (box_v o) tt b.1);
      objects_made = λ o v r d runs. let b = went_on o.thread r runs in let i = z.at.state.objects_made o v b.0 (sym (objects o) ∙ d) b.1 in let u = made o.thread in omega (arith, i, u);
    }

    pub dup_typed : PositionTypes (typing_with z.typing E2 z.typing.marks) a2
    dup_typed = turned z.at z.focus base sums

-- THE ACT

record DupRow (x : Entry) (vs : List Value) (w : Lval) (l : Leaves) (z : Entry) : Type 0 where
  env : Env
  temps : List Kind
  result : Owned
  content : Owned
  waits : wait temps ≡ true
  is : HasType env w (found (whole (own (mutex content))))
  entry : x ≡ going env temps result
  leaves : l ≡ loud vs
  comes : z ≡ going env (own (mutex content) ∷ temps) result

dup_row : {x z : Entry} {vs : List Value} {w : Lval} {l : Leaves} → ActRow StartsAs x vs (do_dup w) l z → DupRow x vs w l z
dup_row (r_dup {e = e} {ts = ts} {g = g} {x = x} q h b) = record { env = e; temps = ts; result = g; content = x; waits = q; is = h; entry = refl; leaves = refl; comes = refl }

module _ (now : Position → Now) (move : Position → Option (Move Position Position)) (y : Typing) (s : Machine Position) (t : Thread Position) (p : Position) (wrap : Position → Life Position) (plug : Value → Position) where
  dup_steps : (w : Lval) → Ready y s t p wrap (do_dup w) plug → StepsTyped y (moves_by now move) s t fresh.None (record { act = do_dup w; plug = λ z. wrap (plug z) })
  dup_steps w r =
      let i = dup_row r.row in
      let x : Running Position = record { place = p; slots = t.slots } in
      let n = t.number in
      let h : At y (plain_state s) n x i.env i.temps i.result = record { state = r.state; runs = runs_here s t p wrap r.goes_on r.found r.at; entry = i.entry } in
      let z = ranked y (plain_state s) n x i.env i.temps i.temps None i.result h top_none i.waits in
      let f = found_mutex s t p i.env i.temps i.temps None i.result i.content w z i.is in
      let v = Own (plain.Mutex f.number) in
      let q : Position = record { entry = going i.env (own (mutex i.content) ∷ i.temps) i.result; temps = v ∷ p.temps } in
      let ms = with_mutex s.mutexes f.number (Some (record { content = f.shared.content; shares = f.shared.shares + 1 })) in
      let a2 = plain_state (record s { threads = with_thread s.threads (record { number = t.number; life = wrap q; slots = t.slots }); mutexes = ms }) in
      let only = only_here s t p wrap r.goes_on r.found r.at q t.slots s.heap s.output (λ u. omega arith) in
      let st = dup_typed s t p i.env i.temps i.result i.content w z f a2 (record { now = only.now; others = only.others; pairs = only.pairs }) (λ o. refl) only.made (there_set s.mutexes f.number (Some (record { content = f.shared.content; shares = f.shared.shares + 1 })) f.shared f.there)
      (λ k ne. there_off s.mutexes f.number (Some (record { content = f.shared.content; shares = f.shared.shares + 1 })) k ne) (λ k. given_set s.mutexes f.number (Some (record { content = f.shared.content; shares = f.shared.shares + 1 })) k) in
      step_by now move s t wrap (record { act = do_dup w; plug = λ u. wrap (plug u) }) plug v q (λ l. record s { threads = with_thread s.threads (record { number = t.number; life = l; slots = t.slots }); mutexes = ms }) f.labels y _ r.goes_on
      (r.comes v ∙ ap₂ (λ b k. record { entry = b; temps = left_after k v }) i.comes i.leaves)
      (ap (λ o. nameless fresh.None (at_mutex (moves_by now move) s o (shared (moves_by now move) s t (record { act = do_dup w; plug = λ u. wrap (plug u) })))) f.behind
      ∙ ap (λ o. nameless fresh.None (where_there (moves_by now move) o (shared (moves_by now move) s t (record { act = do_dup w; plug = λ u. wrap (plug u) }) f.number f.labels))) f.there)
      st
      z.names
      (λ j u e. z.refs j u (none_owns z.typing.exact (hand_at n i.temps) (mutex_tree (tree_of i.content)) j u e))

pub dup_keeps : Keeps IsDup
dup_keeps now move y s t p wrap act plug h r = subst (λ a. StepsTyped y (moves_by now move) s t fresh.None (record { act = a; plug = λ z. wrap (plug z) })) (sym h.1) (dup_steps now move y s t p wrap plug h.0 (subst (λ a. Ready y s t p wrap a plug) h.1 r))
