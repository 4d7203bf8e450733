-- A new object keeps a state typed.
use Rattle.std.proofs.Common.{◌≡◌, ◌≢◌, ◌⊎◌, inl, inr, ⊎_elim, ◌∙◌, ap₂, ℕ, suc, ◌<◌, Bool, List, [], ◌∷◌, ◌++◌, length, Option, Some, None, refl, sym, ap, subst, arith}
use Rattle.std.specs.Prelude.{⊤}
use Rattle.fr_base.specs.declared.label.Plain.{Plain}
use Rattle.fr_base.specs.declared.label.Plain.TheVariants as plain
use Rattle.fr_base.specs.declared.label.Label.TheVariants as label
use Rattle.fr_base.specs.declared.name.ObjNo.{ObjNo}
use Rattle.fr_base.specs.declared.name.MutexNo.{MutexNo}
use Rattle.fr_base.specs.declared.step.Fresh.TheVariants as fresh
use Rattle.fr_typing.specs.Kinds.{Owned, box, Kind, own, whole}
use Rattle.fr_typing.specs.Places.{Env}
use Rattle.fr_store.specs.Keys.{Key, slot_k, temp_k, content_k}
use Rattle.fr_store.specs.Store.{Location, at_key, at_object, Val, box_v, mutex_v, task_v, gone_v, Store, value_at, Place}
use Rattle.fr_store.specs.Changes.{SameButTwo}
use Rattle.fr_store.specs.Typed.{box_tree, owns, refers, KeyTypes, Typed}
use Rattle.fr_store.specs.Below.{tree_of, ExactOf}
use Rattle.fr_store.specs.Rows.{with_type}
use Rattle.fr_store.specs.Thread.{ThreadTyped}
use Rattle.fr_store.proofs.Keys.{key_same, key_other, decide_object, decide_number}
use Rattle.fr_store.proofs.Chains.{decide_location}
use Rattle.fr_store.proofs.Changes.{make_object}
use Rattle.fr_store.proofs.ThreadKept.{exact_owned, known_tree}
use Rattle.fr_plain.specs.declared.value.Value.{Value}
use Rattle.fr_plain.specs.declared.value.Value.TheVariants.{Own, Held}
use Rattle.fr_plain.specs.Heap.{Heap, made_by, cell_at, next_object, with_object}
use Rattle.fr_plain.specs.MachineActs.{do_box, box_did}
use Rattle.fr_plain.specs.State.{slot_at}
use Rattle.fr_plain.specs.MachineThreads.{Now, Move, Life, Thread, Whole as Machine, state_of, with_thread}
use Rattle.fr_plain.specs.Machine.{nameless, then_released, stepped}
use Rattle.fr_plain.specs.PlainState.{Running, PlainState, place_in, plain_state}
use Rattle.fr_plain.proofs.HeapLemmas.{next_new, new_same, new_other}
use Rattle.fr_sound.specs.Entries.{Entry, going}
use Rattle.fr_sound.specs.Seen.{seen_cell}
use Rattle.fr_sound.specs.States.{Typing, RunningTyped, env_at, is_hidden, is_held, IsLock, thread_of_key, IsShare, MutexTyped}
use Rattle.fr_sound.proofs.SeenLemmas.{made_grows, made_next}
use Rattle.law_plain_values.specs.acts.Positions.{Position, PositionTypes, moves_by, StartsAs}
use Rattle.law_plain_values.specs.acts.ActRows.{Pops, Leaves, loud, left_after, ActRow, r_box}
use Rattle.law_plain_values.specs.acts.Keeps.{Ready, StepsTyped, Keeps}
use Rattle.law_plain_values.proofs.acts.Lower.{seen_as}
use Rattle.law_plain_values.proofs.acts.OneThread.{store, typing_with, CarriedOf, share_back, as_many}
use Rattle.law_plain_values.proofs.acts.Turned.{untouched_other}
use Rattle.law_plain_values.proofs.acts.Marks.{mark_back, one_mark_to}
use Rattle.law_plain_values.proofs.acts.Moved.{flip, flip_first, flip_second, flip_third, flip_twice}
use Rattle.law_plain_values.proofs.acts.Focus.{top_some, hand_at}
use Rattle.law_plain_values.proofs.acts.AtHand.{Only, mark_off}
use Rattle.law_plain_values.proofs.acts.Refs.{none_owns}
use Rattle.law_plain_values.proofs.acts.Hand.{At, Ranked, ranked, rehung, pushed_others, pushed_here}
use Rattle.law_plain_values.proofs.acts.Done.{runs_here, only_here, made_here}
use Rattle.law_plain_values.proofs.acts.Operands.{Loaded, load, hand_value, steps_typed}
use Rattle.law_plain_values.specs.slots.SlotActs.{IsBox}
use Rattle.law_plain_values.proofs.acts.Slots.{owned_value}
use Rattle.law_plain_values.proofs.acts.Sums.{Lone, temp_after, keys_same, Base, Sums, turned}

-- values that pass into a new object and are no box
abbrev Passed : Val → Type 0
Passed (mutex_v m c) = ⊤
Passed (task_v t r) = ⊤
Passed _ = ⊥

-- WHERE VALUES STAND AFTER A VALUE HAS PASSED INTO A NEW OBJECT

module _ (s s2 : Store) (h : Key) (o : ObjNo) (same : SameButTwo (at_key h) (at_object o) s s2) (none : s.heap o ≡ None) (at_h : s2.at h ≡ box_v o) (at_o : s2.heap o ≡ Some (s.at h)) where
  pub passed_to : (l : Location) (v : Val) → value_at s l ≡ Some v → value_at s2 (flip (at_key h) (at_object o) l) ≡ Some v
  passed_to l v e = by (decide_location l (at_key h)) (decide_location l (at_object o))
    where
      by : (l ≡ at_key h) ⊎ (l ≢ at_key h) → (l ≡ at_object o) ⊎ (l ≢ at_object o) → value_at s2 (flip (at_key h) (at_object o) l) ≡ Some v
      by (inl p) q = ap (λ k. value_at s2 (flip (at_key h) (at_object o) k)) p ∙ ap (value_at s2) (flip_first (at_key h) (at_object o)) ∙ at_o ∙ sym (ap (value_at s) p) ∙ e
      by (inr p) (inl q) = let f : None ≡ Some v = sym none ∙ sym (ap (value_at s) q) ∙ e in absurd cc
      by (inr p) (inr q) = ap (value_at s2) (flip_third (at_key h) (at_object o) l p q) ∙ same l p q ∙ e

  pub passed_back : (l : Location) (v : Val) → (v ≡ box_v o → ⊥) → value_at s2 l ≡ Some v → value_at s (flip (at_key h) (at_object o) l) ≡ Some v
  passed_back l v other e = by (decide_location l (at_key h)) (decide_location l (at_object o))
    where
      by : (l ≡ at_key h) ⊎ (l ≢ at_key h) → (l ≡ at_object o) ⊎ (l ≢ at_object o) → value_at s (flip (at_key h) (at_object o) l) ≡ Some v
      by (inl p) q = let f : Some (box_v o) ≡ Some v = ap Some (sym at_h) ∙ sym (ap (value_at s2) p) ∙ e in absurd (other cc)
      by (inr p) (inl q) = ap (λ k. value_at s (flip (at_key h) (at_object o) k)) q ∙ ap (value_at s) (flip_second (at_key h) (at_object o)) ∙ sym at_o ∙ sym (ap (value_at s2) q) ∙ e
      by (inr p) (inr q) = ap (value_at s) (flip_third (at_key h) (at_object o) l p q) ∙ sym (same l p q) ∙ e

  pub passed : CarriedOf Passed s s2
  passed = record {
    to = flip (at_key h) (at_object o);
    from = flip (at_key h) (at_object o);
    from_to = flip_twice (at_key h) (at_object o);
    to_from = flip_twice (at_key h) (at_object o);
    there = λ l v c e. passed_to l v e;
    back = λ l v c e. passed_back l v (λ q. subst Passed q c) e;
  }

-- THE STATE

module _ {y0 y1 : Typing} {a0 : PlainState Position} {n : ℕ} {x : Running Position} {e : Env} {us : List Kind} {g : Owned} {k : Owned} {v : Value} {ws : List Value} (l : Loaded y0 a0 n x e us g (own k) v ws) (z : Ranked y1 l.state n l.running e (own k ∷ us) us (Some (own k)) g) (heap : Heap) (objects : (o : ObjNo) → l.state.object o ≡ cell_at heap o) where
  abbrev h : Key
  h = hand_at n us

  abbrev o : ObjNo
  o = next_object heap n

  abbrev s1 : Store
  s1 = store z.typing l.state

  abbrev E2 : KeyTypes
  E2 = with_type z.typing.exact (hand_at n us) (owns (box_tree (tree_of k)))

  as_many_temps : length ws ≡ length us
  as_many_temps = let q = z.long in let p = ap length l.temps in omega (arith, q, p)

  at_hand : s1.at (hand_at n us) ≡ seen_as z.typing.gives n gone_v (Some v)
  at_hand = hand_value z.typing l.state n (length us) l.running v ws l.at.runs l.temps (sym as_many_temps)

  tree_there : z.typing.exact (hand_at n us) ≡ owns (tree_of k)
  tree_there = exact_owned (slot_k n) z.typing.exact k (z.typing.exact (hand_at n us)) z.focus.thread.temp

  none : s1.heap (next_object heap n) ≡ None
  none = ap (seen_cell z.typing.gives) (objects (next_object heap n) ∙ next_new heap n)

  module _ (p : Plain) (is : v ≡ Own p) (a2 : PlainState Position) where
    abbrev x2 : Running Position
    x2 = record { place = record { entry = going e (own (box k) ∷ us) g; temps = Own (plain.Box (next_object heap n)) ∷ ws }; slots = l.running.slots }

    abbrev s2 : Store
    s2 = store (typing_with z.typing E2 z.typing.marks) a2

    module _ (only : Only l.state a2 n x2) (objects2 : (q : ObjNo) → a2.object q ≡ cell_at (with_object heap n p) q) (made : length (made_by heap n) < a2.made n) where
      lone : Lone l.state a2 n x2
      lone = record { now = only.now; others = only.others; pairs = only.pairs }

      same : SameButTwo (at_key (hand_at n us)) (at_object (next_object heap n)) s1 s2
      same (at_object q) nh nl = ap (seen_cell z.typing.gives) (objects2 q ∙ new_other heap n q p (λ f. nl (ap at_object f)) ∙ sym (objects q))
      same (at_key j) nh nl =
          ap Some
          (keys_same z.typing l.state a2 n l.running x2 E2 z.typing.marks l.at.runs lone (λ u i q. refl) (λ i. at_key i ≢ at_key (hand_at n us)) (λ i q. refl)
          (λ i q. ap (seen_as z.typing.gives n gone_v) (pushed_others (Own (plain.Box (next_object heap n))) ws i (length us) (sym as_many_temps) (λ f. q (ap (λ m. at_key (temp_k n m)) f)) ∙ sym (pushed_others v ws i (length us) (sym as_many_temps) (λ f. q (ap (λ m. at_key (temp_k n m)) f))) ∙ ap (λ m. slot_at m i) (sym l.temps)))
          (λ hm c q. ap (Rattle.fr_sound.specs.States.content_val z.typing.gives) (only.mutexes (record { home = hm; count = c })))
          j nh)

      at_h : s2.at (hand_at n us) ≡ box_v (next_object heap n)
      at_h = temp_after z.typing l.state a2 n l.running x2 E2 z.typing.marks l.at.runs lone (λ u i q. refl) (length us) ∙ ap (seen_as z.typing.gives n gone_v) (pushed_here (Own (plain.Box (next_object heap n))) ws (length us) (sym as_many_temps))

      at_o : s2.heap (next_object heap n) ≡ Some (s1.at (hand_at n us))
      at_o = ap (seen_cell z.typing.gives) (objects2 (next_object heap n) ∙ new_same heap n p) ∙ ap Some (sym (at_hand ∙ ap (λ w. seen_as z.typing.gives n gone_v (Some w)) is))

      unboxed : (q : Location) → value_at s1 q ≡ Some (box_v (next_object heap n)) → ⊥
      unboxed q f = let w = z.at.state.objects_there q (next_object heap n) f in let c : Some w.0 ≡ None = sym w.1 ∙ objects (next_object heap n) ∙ next_new heap n in cc

      typed : Typed z.typing.rank E2 s2
      typed = make_object z.typing.rank z.typing.exact E2 s1 s2 (hand_at n us) (tree_of k) (next_object heap n) z.at.state.typed z.focus.thread.quiet (λ j ne. key_other j (hand_at n us) (owns (box_tree (tree_of k))) (z.typing.exact j) ne) tree_there
          (key_same (hand_at n us) (owns (box_tree (tree_of k))) (z.typing.exact (hand_at n us))) same none unboxed at_h at_o

      refs : (j : Key) (m : Bool) (u : Place) → E2 j ≡ refers m u → z.typing.exact j ≡ refers m u
      refs j m u q = known_tree (slot_k n) (hand_at n us) z.typing.exact (hand_at n us) (box_tree (tree_of k)) j m u q

      off : (j : Key) → j ≢ hand_at n us → E2 j ≡ z.typing.exact j
      off j ne = key_other j (hand_at n us) (owns (box_tree (tree_of k))) (z.typing.exact j) ne

      thread : ThreadTyped (slot_k n) z.typing.rank (hand_at n us) e E2 s2 (Some (own (box k)))
      thread = rehung (slot_k n) z.typing.rank (hand_at n us) e z.typing.exact s1 s2 (Some (own k)) (Some (own (box k))) (owns (box_tree (tree_of k))) z.focus.keys z.focus.thread typed
          (subst (ExactOf (slot_k n) E2 (whole (own (box k)))) (sym (key_same (hand_at n us) (owns (box_tree (tree_of k))) (z.typing.exact (hand_at n us)))) refl) tt (λ m u q. absurd cc)

      -- marks lead where they led
      held : (u i : ℕ) (m : MutexNo) (w : Running Position) → place_in (l.state.thread u) ≡ Some w → slot_at w.slots i ≡ Some (Held m) → value_at s2 (z.typing.marks u i) ≡ value_at s1 (z.typing.marks u i)
      held u i m w runs mark =
          let led = ((z.at.state.threads u w runs).marked i m mark).leads in
          same (z.typing.marks u i) (mark_off z.typing l.state u i m w (hand_at n us) z.at.state runs mark z.focus.thread.quiet) (λ q. let f = sym none ∙ sym (ap (value_at s1) q) ∙ led in cc)

      e_is : z.running.entry ≡ going e (own k ∷ us) g
      e_is = sym z.running.known ∙ l.at.entry

      base : Base z.typing l.state a2 n l.running x2 e e us (own (box k) ∷ us) (Some (own (box k))) g E2 z.typing.marks
      base = record {
        lone = lone;
        tops = top_some;
        idle = λ q. cc;
        entry = refl;
        temps = ap suc as_many_temps;
        slots = z.running.all_slots ∙ ap (λ (w : Entry). length w.env) e_is;
        over = λ i lt m. z.focus.high i m (omega (arith, lt));
        thread = thread;
        same = λ j q. off j (λ f. untouched_other n j q (ap thread_of_key f));
        waits = λ i lt. off (temp_k n i) (λ f. let q : i ≡ length us = cc in omega (arith, lt, q));
        named = λ j m u q. inr (j, (λ f. f), refs j m u q);
        still = λ j m u ne q. refs j m u q;
        hidden = λ i. ap (λ (w : Entry). is_hidden (env_at w.env i)) (sym e_is) ∙ z.running.hidden i;
        locks = λ i m q. let lock = subst (λ (w : Entry). IsLock z.typing s1 w.env n i m) e_is (z.running.marked i m q) in record { leads = held n i m l.running l.at.runs q ∙ lock.leads; unnamed = λ j b u f. lock.unnamed j b u (refs j b u f); content = lock.content };
        marks = λ u i q. refl;
        held = λ u i m w ne runs mark. held u i m w runs mark;
      }

      carried : CarriedOf Passed s1 s2
      carried = passed s1 s2 (hand_at n us) (next_object heap n) same none at_h at_o

      -- objects that were there are there
      still_object : (q : ObjNo) (w : Plain) → l.state.object q ≡ Some w → a2.object q ≡ Some w
      still_object q w f = objects2 q ∙ new_other heap n q p (λ r. let c : Some w ≡ None = sym f ∙ objects q ∙ ap (cell_at heap) r ∙ next_new heap n in cc) ∙ sym (objects q) ∙ f

      went_on : (u : ℕ) (w : Running Position) → place_in (a2.thread u) ≡ Some w → (y : Running Position) × (place_in (l.state.thread u) ≡ Some y)
      went_on u w f = ⊎_elim (λ (q : u ≡ n). (l.running, ap (λ r. place_in (l.state.thread r)) q ∙ l.at.runs)) (λ (ne : u ≢ n). (w, sym (ap place_in (only.others u ne)) ∙ f)) (decide_number u n)

      sums : Sums z.typing l.state a2 E2 z.typing.marks
      sums = record {
        there = λ q m w. let f = z.at.state.there (carried.from q) m (share_back Passed s1 s2 carried m (λ c. tt) q w) in (f.0, only.mutexes m ∙ f.1);
        mutexes = λ m w f.
            let d = z.at.state.mutexes m w (sym (only.mutexes m) ∙ f) in
            record {
              given = only.given m ∙ d.given;
              shares = as_many Passed s1 s2 carried m (λ c. tt) w.shares d.shares;
              needed = d.needed;
              out = λ r. one_mark_to l.state a2 n l.running x2 l.at.runs only.now only.others m (λ i q. q) (λ i q. q) (d.out r);
              unheld = λ c r u i mark. d.unheld c r u i (mark_back l.state a2 n l.running x2 l.at.runs only.now only.others m (λ i q. q) (λ i q. q) u i mark);
              content = λ c r. off (content_k m.home m.count) (λ q. cc) ∙ d.content c r;
            };
        one_task = λ q r u c d f b. sym (carried.to_from q) ∙ ap carried.to (z.at.state.one_task (carried.from q) (carried.from r) u c d (carried.back q (task_v u c) tt f) (carried.back r (task_v u d) tt b)) ∙ carried.to_from r;
        task_from = λ q u r f. (carried.from q, carried.back q (task_v u r) tt f);
        task_to = λ q u r f. (carried.to q, r, carried.there q (task_v u r) tt f);
        objects_there = λ q b f. ⊎_elim (λ (i : b ≡ next_object heap n). (p, ap a2.object i ∙ objects2 (next_object heap n) ∙ new_same heap n p))
            (λ (ne : b ≢ next_object heap n). let w = z.at.state.objects_there (flip (at_key (hand_at n us)) (at_object (next_object heap n)) q) b (passed_back s1 s2 (hand_at n us) (next_object heap n) same none at_h at_o q (box_v b) (λ r. ne (let c : b ≡ next_object heap n = cc in c)) f) in (w.0, still_object b w.0 w.1))
            (decide_object b (next_object heap n));
        objects_owned = λ b w f. ⊎_elim (λ (i : b ≡ next_object heap n). (at_key (hand_at n us), ap Some at_h ∙ ap (λ c. Some (box_v c)) (sym i)))
            (λ (ne : b ≢ next_object heap n). let q = z.at.state.objects_owned b w (objects b ∙ sym (new_other heap n b p ne) ∙ sym (objects2 b) ∙ f) in (flip (at_key (hand_at n us)) (at_object (next_object heap n)) q.0, passed_to s1 s2 (hand_at n us) (next_object heap n) same none at_h at_o q.0 (box_v b) q.1))
            (decide_object b (next_object heap n));
        objects_made = λ b w y f runs. ⊎_elim (λ (i : b ≡ next_object heap n). subst (λ (c : ObjNo). c.count < a2.made c.thread) (sym i) made)
            (λ (ne : b ≢ next_object heap n). let q = went_on b.thread y runs in let r = z.at.state.objects_made b w q.0 (objects b ∙ sym (new_other heap n b p ne) ∙ sym (objects2 b) ∙ f) q.1 in let m = only.made b.thread in omega (arith, r, m))
            (decide_object b (next_object heap n));
      }

      pub boxed_typed : PositionTypes (typing_with z.typing E2 z.typing.marks) a2
      boxed_typed = turned z.at z.focus base sums

-- THE ACT

record BoxRow (x : Entry) (vs : List Value) (v : Value) (l : Leaves) (z : Entry) : Type 0 where
  env : Env
  before : List Kind
  after : List Kind
  left : List Value
  result : Owned
  content : Owned
  pops : Pops before vs v (own content) after left
  entry : x ≡ going env before result
  leaves : l ≡ loud left
  comes : z ≡ going env (own (box content) ∷ after) result

box_row : {x z : Entry} {vs : List Value} {v : Value} {l : Leaves} → ActRow StartsAs x vs (do_box v) l z → BoxRow x vs v l z
box_row (r_box {e = e} {ts = ts} {us = us} {ws = ws} {g = g} {x = x} pops) = record { env = e; before = ts; after = us; left = ws; result = g; content = x; pops = pops; entry = refl; leaves = refl; comes = refl }

module _ (now : Position → Now) (move : Position → Option (Move Position Position)) (y : Typing) (s : Machine Position) (t : Thread Position) (p : Position) (wrap : Position → Life Position) (plug : Value → Position) where
  box_steps : (v : Value) → Ready y s t p wrap (do_box v) plug → StepsTyped y (moves_by now move) s t fresh.None (record { act = do_box v; plug = λ z. wrap (plug z) })
  box_steps v r =
      let i = box_row r.row in
      let x : Running Position = record { place = p; slots = t.slots } in
      let n = t.number in
      let h : At y (plain_state s) n x i.env i.before i.result = record { state = r.state; runs = runs_here s t p wrap r.goes_on r.found r.at; entry = i.entry } in
      let l = load y (plain_state s) n x i.env i.result h refl i.pops in
      let z = ranked l.typing l.state n l.running i.env (own i.content ∷ i.after) i.after (Some (own i.content)) i.result l.at top_some l.waits in
      let d = owned_value l z in
      let b = Own (plain.Box (next_object s.heap n)) in
      let labels = label.Make (next_object s.heap n) d.0 ∷ [] in
      let heap = with_object s.heap n d.0 in
      let q : Position = record { entry = going i.env (own (box i.content) ∷ i.after) i.result; temps = b ∷ i.left } in
      let a2 = plain_state (record s { threads = with_thread s.threads (record { number = t.number; life = wrap q; slots = t.slots }); heap = heap; output = s.output ++ [] }) in
      let only = only_here s t p wrap r.goes_on r.found r.at q t.slots heap (s.output ++ []) (made_grows s.heap n d.0) in
      let only2 = l.only a2 (record { place = q; slots = t.slots }) only in
      let up = made_here s t p wrap r.goes_on r.found r.at q t.slots heap (s.output ++ []) (made_grows s.heap n d.0) in
      let more = made_next s.heap n d.0 in
      let st = boxed_typed l z s.heap l.objects d.0 d.1 a2 (subst (λ w. Only l.state a2 n (record { place = q; slots = w })) (sym l.slots) only2) (λ o. refl) (omega (arith, up, more)) in
      steps_typed now move s t wrap (record { act = do_box v; plug = λ u. wrap (plug u) }) plug b q t.slots heap labels y _ r.goes_on
      (r.comes b ∙ ap₂ (λ a k. record { entry = a; temps = left_after k b }) i.comes i.leaves)
      (ap (λ w. nameless fresh.None (then_released plain.Nothing (stepped (moves_by now move) s t (record { act = do_box v; plug = λ u. wrap (plug u) }) (box_did (state_of s t) w)))) d.1)
      st
      (z.names ∙ l.names)
      (λ j u e. l.refs j u (z.refs j u (none_owns z.typing.exact (hand_at n i.after) (box_tree (tree_of i.content)) j u e)))

pub box_keeps : Keeps IsBox
box_keeps now move y s t p wrap act plug h r = subst (λ a. StepsTyped y (moves_by now move) s t fresh.None (record { act = a; plug = λ z. wrap (plug z) })) (sym h.1) (box_steps now move y s t p wrap plug h.0 (subst (λ a. Ready y s t p wrap a plug) h.1 r))
