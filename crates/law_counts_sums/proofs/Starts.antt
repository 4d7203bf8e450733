-- Threads that start: what they capture, their `start` messages and the notes of them.
use Rattle.std.proofs.Common.{◌≡◌, ℕ, ◌+◌, ◌*◌, ◌^◌, ◌<◌, ◌==◌, Bool, true, false, if◌then◌else◌, List, [], ◌∷◌, ◌++◌, Some, None, refl, ap, subst, ◌∙◌, arith}
use Rattle.std.specs.Prelude.{slice_get}
use Rattle.std.specs.Bool.{⊤}
use Rattle.coherent_memory.specs.Below.fr_base.Rooms.{WithRoom}
use Rattle.coherent_memory.specs.Below.fr_base.declared.label.Label.TheVariants as label
use Rattle.coherent_memory.specs.Below.fr_base.declared.step.Fresh.TheVariants as fresh
use Rattle.coherent_memory.specs.Below.heap_partition.declared.value.Owned.{Owned}
use Rattle.coherent_memory.specs.Below.heap_partition.declared.value.Owned.TheVariants as owned
use Rattle.coherent_memory.specs.Below.mut_borrow.declared.shared.SharedRef.{SharedRef}
use Rattle.coherent_memory.specs.Below.join_home.Tasks.{Task, TaskState, going, in_pair, can_begin, can_begin_pair}
use Rattle.coherent_memory.specs.Below.join_home.Tasks as tasks
use Rattle.coherent_memory.specs.Below.thread_state.View.{new_thread}
use Rattle.coherent_memory.specs.Below.thread_state.declared.phase.Phase.TheVariants as phase
use Rattle.coherent_memory.specs.Below.thread_state.declared.value.Value.{Value}
use Rattle.coherent_memory.specs.Below.thread_state.declared.value.Value.TheVariants as value
use Rattle.coherent_memory.specs.Below.server_msgs.declared.message.Message.{Message}
use Rattle.coherent_memory.specs.Below.server_msgs.declared.message.Message.TheVariants as message
use Rattle.coherent_memory.specs.Below.journal.declared.act.Act.TheVariants as act
use Rattle.coherent_memory.specs.Below.server_model.Servers.{Rest}
use Rattle.coherent_memory.specs.Below.server_model.Work.{Work, Hand, sent_from, note, label_all, with_tasks, with_slots, working, then_some}
use Rattle.coherent_memory.specs.Below.server_model.Start.{next_thread, server_for, start_thread, captured, left_after, capture_from, capture}
use Rattle.coherent_memory.specs.Below.server_model.Commit.{go_on, begun, spawn_with, spawn, pair_begun, par_with, par}
use Rattle.coherent_memory.specs.Things.{Thing, Location, Spot, in_hand, in_slot, at_slot, at_temp, holds, shares, stands, sent, things_at, value_things, slot_things, task_things, thread_things, message_things}
use Rattle.law_counts_sums.specs.Laws.{Gives}
use Rattle.law_counts_sums.proofs.Trades.{Trade, tot-append, tot-push, trade_left, trade_push}
use Rattle.law_counts_sums.proofs.Rules.{Rule, none, turned, comes, goes, hands_on, sends, notes, counts_on, beside, in_turn, Kept}
use Rattle.law_counts_sums.proofs.Results.{then_gives, over_gives, bind_gives, test_gives}
use Rattle.law_counts_sums.proofs.Bags.{WorkOk, HandOk, body_things, rest_things, of_tasks, counts_of}
use Rattle.law_counts_sums.proofs.Chains.{rest_trades, work_sends, thread_changes, beside_hand, to_hand}
use Rattle.law_counts_sums.proofs.Uses.{turns}
use Rattle.law_counts_sums.proofs.Values.{held, slot_changes, beside_trades, pushes_temp}
use Rattle.law_counts_sums.proofs.Commits.{CommittedOk, done_keeps, second_rule}
use Rattle.law_counts_sums.proofs.NewThreads.{NewNames, names_kept, one_more, thread_appears, task_appears}

-- WHAT MAY STAND ANYWHERE, AT ANY SERVER

abbrev pub Moves : Value → Type 0
Moves v = (s r : ℕ) (p q : Spot) (l m : Location) → Rule (value_things s p l v) (value_things r q m v)

abbrev AllMove : List Value → Type 0
AllMove [] = ⊤
AllMove (v ∷ vs) = Moves v × AllMove vs

one_more_moves : (vs : List Value) (v : Value) → AllMove vs → Moves v → AllMove (vs ++ v ∷ [])
one_more_moves [] v a m = (m, tt)
one_more_moves (x ∷ vs) v a m = (a.0, one_more_moves vs v a.1 m)

some_same : {a b : Value} → Some a ≡ Some b → a ≡ b
some_same e = cc

own_moves : (v : Owned) → Moves (value.Own v)
own_moves v s r p q l m = hands_on p q v

loose_moves : (x : SharedRef) → Moves (value.Shared (record x { pinned = false }))
loose_moves x s r p q l m = in_turn (goes (shares l (record x { pinned = false })) refl) (comes (shares m (record x { pinned = false })) refl)

captured_moves : (branch moves : Bool) (v u : Value) → captured branch moves v ≡ Some u → Moves u
captured_moves branch true (value.Own v) u e = subst Moves (some_same e) (own_moves v)
captured_moves branch false (value.Own v) u e = by (Rattle.coherent_memory.specs.Below.server_model.Places.owns_nothing v) e
  where
    by : (b : Bool) → (if b then Some (value.Own v) else None) ≡ Some u → Moves u
    by true d = subst Moves (some_same d) (own_moves v)
    by false d = absurd (cc d)
captured_moves true false (value.Shared x) u e = subst Moves (some_same e) (loose_moves x)
captured_moves false false (value.Shared x) u e = absurd (cc e)
captured_moves branch true (value.Shared x) u e = absurd (cc e)
captured_moves branch true value.Gone u e = absurd (cc e)
captured_moves branch true (value.SharedSlot i) u e = absurd (cc e)
captured_moves branch true (value.MutSlot i) u e = absurd (cc e)
captured_moves branch true (value.Mut r) u e = absurd (cc e)
captured_moves branch true (value.Held m) u e = absurd (cc e)
captured_moves branch false value.Gone u e = absurd (cc e)
captured_moves branch false (value.SharedSlot i) u e = absurd (cc e)
captured_moves branch false (value.MutSlot i) u e = absurd (cc e)
captured_moves branch false (value.Mut r) u e = absurd (cc e)
captured_moves branch false (value.Held m) u e = absurd (cc e)

-- what isn't moved is a second value, which comes by itself
stays_rule : (n t : ℕ) (branch : Bool) (v u : Value) → captured branch false v ≡ Some u → Rule [] (held n t u)
stays_rule n t branch (value.Own v) u e = second_rule n t (value.Own v) u e
stays_rule n t true (value.Shared x) u e = second_rule n t (value.Shared x) u e
stays_rule n t false (value.Shared x) u e = absurd (cc e)
stays_rule n t branch value.Gone u e = absurd (cc e)
stays_rule n t branch (value.SharedSlot i) u e = absurd (cc e)
stays_rule n t branch (value.MutSlot i) u e = absurd (cc e)
stays_rule n t branch (value.Mut r) u e = absurd (cc e)
stays_rule n t branch (value.Held m) u e = absurd (cc e)

-- what is moved leaves its place empty
moves_rule : (n t : ℕ) (branch : Bool) (v u : Value) (p : Spot) (l : Location) → captured branch true v ≡ Some u → Rule (value_things n p l v ++ []) (value_things n p l value.Gone ++ held n t u)
moves_rule n t branch (value.Own v) u p l e = subst (λ x. Rule (holds p v ∷ []) (held n t x)) (some_same e) (hands_on p in_hand v)
moves_rule n t branch (value.Shared x) u p l e = absurd (cc e)
moves_rule n t branch value.Gone u p l e = absurd (cc e)
moves_rule n t branch (value.SharedSlot i) u p l e = absurd (cc e)
moves_rule n t branch (value.MutSlot i) u p l e = absurd (cc e)
moves_rule n t branch (value.Mut r) u p l e = absurd (cc e)
moves_rule n t branch (value.Held m) u p l e = absurd (cc e)

sent_started : (r : Rest) (target : ℕ) (m : Message) → (sent_from r target m).started ≡ r.started
sent_started r target m = by (target == r.number)
  where
    by : (b : Bool) → (if b then record r { inbox = r.inbox ++ m ∷ [] } else record r { outbox = r.outbox ++ record { target = target; message = m } ∷ [] }).started ≡ r.started
    by true = refl
    by false = refl

-- CAPTURES

-- captured values, in the hand
abbrev carried : ℕ → ℕ → List Value → List Thing
carried n t vs = things_at (λ i v. held n t v) 0 vs

module _ {K : List Thing → Type 0} (k : Kept K) (n e t : ℕ) (others : List Thing) where
  one_comes : (new : List Value) (u : Value) → Trade (carried n t new ++ others) [] (held n t u) (carried n t (new ++ u ∷ []) ++ others)
  one_comes new u = record {
    rest = carried n t new ++ others;
    before = λ f. omega arith;
    after = λ f. omega (arith, tot-push (λ i v. held n t v) f new 0 u, tot-append f (carried n t new) others, tot-append f (carried n t (new ++ u ∷ [])) others);
  }

  takes_one : (branch moves : Bool) (new slots : List Value) (i : ℕ) (v u : Value) (h : Hand) → slice_get slots i ≡ Some v → captured branch moves v ≡ Some u
      → HandOk K n e t (carried n t new ++ others) (with_slots slots h) → HandOk K n e t (carried n t (new ++ u ∷ []) ++ others) (with_slots (left_after moves slots i) h)
  takes_one branch true new slots i v u h q c g =
      slot_changes k n e t (with_slots slots h) i v value.Gone q (one_comes new u) (moves_rule n t branch v u (in_slot h.thread.number i) (at_slot h.thread.number i) c) g
  takes_one branch false new slots i v u h q c g =
      beside_trades k n e t (carried n t new ++ others) (carried n t (new ++ u ∷ []) ++ others) (with_slots slots h) (one_comes new u) (stays_rule n t branch v u c) g

  abbrev Captured : Hand → List Value × List Value → Type 0
  Captured h r = AllMove r.0 × HandOk K n e t (carried n t r.0 ++ others) (with_slots r.1 h)

  captures : (branch : Bool) (cs : List (ℕ × Bool)) (new slots : List Value) (h : Hand) → AllMove new → HandOk K n e t (carried n t new ++ others) (with_slots slots h) → Gives (Captured h) (capture_from branch new cs slots)
  captures branch [] new slots h a g = (a, g)
  captures branch (c ∷ cs) new slots h a g =
      then_gives (Captured h) (slice_get slots c.0) _ (λ v q. then_gives (Captured h) (captured branch c.1 v) _ (λ u z.
      captures branch cs (new ++ u ∷ []) (left_after c.1 slots c.0) h (one_more_moves new u a (captured_moves branch c.1 v u z)) (takes_one branch c.1 new slots c.0 v u h q z g)))

  -- a new note
  notes_thread : (x : ℕ) (z : TaskState) (h : Hand) → Rule [] (task_things n 0 (record { thread = x; state = z })) → HandOk K n e t others h → HandOk K n e t others (working (with_tasks (tasks.noted h.work.rest.tasks x z)) h)
  notes_thread x z h r g =
      let w = h.work in
      let ts = w.rest.tasks in
      let b = thread_things n false h.thread ++ others in
      to_hand k n e t others (with_tasks (tasks.noted ts x z) w) h.thread g.thread
      (rest_trades k n e b w (with_tasks (tasks.noted ts x z) w) refl (of_tasks n e w.rest (tasks.noted ts x z) (trade_push (task_things n) ts 0 (record { thread = x; state = z }))) r (beside_hand k n e t others h g))

-- THREADS

all_moved : (n t r u : ℕ) (vs : List Value) → AllMove vs → (i m : ℕ) → Rule (things_at (λ j v. held n t v) m vs) (things_at (slot_things r u) i vs)
all_moved n t r u [] a i m = none
all_moved n t r u (v ∷ vs) a i m = beside (a.0 n r in_hand (in_slot u i) (at_temp t 0) (at_slot u i)) (all_moved n t r u vs a.1 (i + 1) (m + 1))

-- a new thread and what it captured go into its message
start_rule : (n t r u pc : ℕ) (vs : List Value) → AllMove vs → Rule (stands r true (new_thread u pc vs) ∷ carried n t vs) (message_things r (message.Start (new_thread u pc vs)))
start_rule n t r u pc vs a =
    let x = new_thread u pc vs in
    let slots = things_at (slot_things r u) 0 vs in
    in_turn (beside (sends r (message.Start x) refl) (beside (turned (stands r true x ∷ []) (stands r true x ∷ []) (λ f. refl)) (all_moved n t r u vs a 0 0)))
    (turned (sent r (message.Start x) ∷ stands r true x ∷ slots) (message_things r (message.Start x)) (λ f. omega (arith, tot-append f slots [])))

module _ (w : ℕ → ℕ) (n i j e t : ℕ) where
  abbrev K : List Thing → Type 0
  K = NewNames w n i j

  -- a thread starts
  starts : (others : List Thing) (servers pc : ℕ) (vs : List Value) (z : Work) → AllMove vs → z.rest.started ≡ i → i + 1 < 2 ^ 32 → WorkOk K n e (carried n t vs ++ others) z → WorkOk (NewNames w n (i + 1) j) n e others (start_thread servers pc vs z)
  starts others servers pc vs z a q l g =
      let u = next_thread z.rest in
      let r = server_for servers z.rest in
      let x = new_thread u pc vs in
      let b = carried n t vs ++ others in
      let w1 : Work = label_all (label.Start u ∷ []) (note (act.Start u r) (record z { rest = record z.rest { started = z.rest.started + 1 } })) in
      let alone : Trade (rest_things n e z.rest) (counts_of n e z.rest ∷ []) (counts_of n e w1.rest ∷ []) (rest_things n e w1.rest) = record { rest = body_things n z.rest; before = λ f. omega arith; after = λ f. omega arith } in
      let counted : WorkOk K n e b w1 = rest_trades (names_kept w n i j) n e b z w1 refl alone (counts_on n _ _ _ _ e _ _ _ e) g in
      let number : z.rest.number ≡ n = g.number in
      let named : x.number ≡ n * 2 ^ 32 + (i + 1) = omega (arith, number, q) in
      let comes_here : Trade (rest_things n e w1.rest ++ b) [] (stands r true x ∷ []) (rest_things n e w1.rest ++ (stands r true x ∷ b)) = trade_left (rest_things n e w1.rest) (record { rest = b; before = λ f. omega arith; after = λ f. omega arith }) in
      let stood : WorkOk (NewNames w n (i + 1) j) n e (stands r true x ∷ b) w1 = record { number = counted.number; bag = thread_appears w n i j _ _ r true x named l comes_here counted.bag } in
      work_sends (names_kept w n (i + 1) j) n e (stands r true x ∷ b) w1 r (message.Start x)
      (record { rest = others; before = λ f. omega (arith, tot-append f (carried n t vs) others); after = λ f. omega arith }) (start_rule n t r u pc vs a) stood

  -- its task comes to the hand
  task_comes : (others : List Thing) (u : ℕ) (h : Hand) → u ≡ n * 2 ^ 32 + (j + 1) → j + 1 < 2 ^ 32 → HandOk K n e t others h → HandOk (NewNames (one_more w u) n i (j + 1)) n e t (holds in_hand (owned.Task u) ∷ others) h
  task_comes others u h q l g = record {
    number = g.number;
    thread = g.thread;
    bag = task_appears w n i j _ _ in_hand u q l (trade_left (thread_things n false h.thread) (trade_left (rest_things n e h.work.rest) (record { rest = others; before = λ f. omega arith; after = λ f. omega arith }))) g.bag;
  }

start_counts : (servers pc i : ℕ) (vs : List Value) (w : Work) → w.rest.started ≡ i → (start_thread servers pc vs w).rest.started ≡ i + 1
start_counts servers pc i vs w q =
    let u = next_thread w.rest in
    let r = server_for servers w.rest in
    sent_started (record w.rest { started = w.rest.started + 1 }) r (message.Start (new_thread u pc vs)) ∙ ap (λ m. m + 1) q

-- THE STEPS

module _ (w : ℕ → ℕ) (n i e t : ℕ) (others : List Thing) where
  -- a hand with captured values, as work with the thread beside
  beside_carried : {K : List Thing → Type 0} (k : Kept K) (vs : List Value) (more : List Thing) (h : Hand) → HandOk K n e t (carried n t vs ++ more) h → WorkOk K n e (carried n t vs ++ (thread_things n false h.thread ++ more)) h.work
  beside_carried k vs more h g =
      let a = thread_things n false h.thread in
      let c = carried n t vs in
      turns k n e t (a ++ (c ++ more)) (c ++ (a ++ more)) h.work (λ f. omega (arith, tot-append f a (c ++ more), tot-append f c more, tot-append f c (a ++ more), tot-append f a more)) (beside_hand k n e t (c ++ more) h g)

  abbrev Begun : List Value → List Value → Hand → Type 0
  Begun vs slots h = HandOk (NewNames w n i i) n e t (carried n t vs ++ others) (with_slots slots h) × (h.work.rest.started ≡ i)

  begins : (vs slots : List Value) (h : Hand) → h.work.rest.started ≡ i → HandOk (NewNames w n i i) n e t (carried n t vs ++ others) (with_slots slots h) → Gives (Begun vs slots) (begun h)
  begins vs slots h q g =
      let u = next_thread h.work.rest in
      test_gives (Begun vs slots) (can_begin h.work.rest.tasks u) _ (λ on. (notes_thread (names_kept w n i i) n e t (carried n t vs ++ others) u going (with_slots slots h) (notes n (record { thread = u; state = going })) g, q))

  spawns_with : (servers pc u : ℕ) (h : Hand) (new : List Value × List Value) → AllMove new.0 → u ≡ n * 2 ^ 32 + (i + 1) → h.work.rest.started ≡ i → i + 1 < 2 ^ 32 → HandOk (NewNames w n i i) n e t (carried n t new.0 ++ others) (with_slots new.1 h)
      → Gives (HandOk (NewNames (one_more w u) n (i + 1) (i + 1)) n e t others) (spawn_with servers pc u h new)
  spawns_with servers pc u h new a named q l g =
      over_gives (Begun new.0 new.1) (HandOk (NewNames (one_more w u) n (i + 1) (i + 1)) n e t others) (begun h) _ (begins new.0 new.1 h q g) (λ h2 b.
      let h3 = with_slots new.1 h2 in
      let started : WorkOk (NewNames w n (i + 1) i) n e (thread_things n false h3.thread ++ others) (start_thread servers pc new.0 h2.work) =
      starts w n i i e t (thread_things n false h3.thread ++ others) servers pc new.0 h2.work a b.1 l (beside_carried (names_kept w n i i) new.0 others h3 b.0) in
      let back : HandOk (NewNames w n (i + 1) i) n e t others (working (start_thread servers pc new.0) h3) = to_hand (names_kept w n (i + 1) i) n e t others (start_thread servers pc new.0 h2.work) h3.thread b.0.thread started in
      pushes_temp (names_kept (one_more w u) n (i + 1) (i + 1)) n e t others (value.Own (owned.Task u)) (working (start_thread servers pc new.0) h3) (task_comes w n (i + 1) i e t others u (working (start_thread servers pc new.0) h3) named l back))

  pub spawns : (servers : ℕ) (cs : WithRoom (ℕ × Bool)) (pc : ℕ) (h : Hand) → h.work.rest.started ≡ i → i + 1 < 2 ^ 32 → HandOk (NewNames w n i i) n e t others h → CommittedOk (HandOk (NewNames (one_more w (next_thread h.work.rest)) n (i + 1) (i + 1)) n e t others) (spawn servers cs pc h)
  spawns servers cs pc h q l g =
      let u = next_thread h.work.rest in
      let k2 = names_kept (one_more w u) n (i + 1) (i + 1) in
      let number : h.work.rest.number ≡ n = g.number in
      let named : u ≡ n * 2 ^ 32 + (i + 1) = omega (arith, number, q) in
      done_keeps k2 n e t others (fresh.Thread u) _ (over_gives (HandOk (NewNames (one_more w u) n (i + 1) (i + 1)) n e t others) (HandOk (NewNames (one_more w u) n (i + 1) (i + 1)) n e t others) (then_some (capture false cs.items h.thread.slots) (spawn_with servers pc u h)) go_on
      (bind_gives (Captured (names_kept w n i i) n e t others h) (HandOk (NewNames (one_more w u) n (i + 1) (i + 1)) n e t others) (capture false cs.items h.thread.slots) (spawn_with servers pc u h)
      (captures (names_kept w n i i) n e t others false cs.items [] h.thread.slots h tt g) (λ new c. spawns_with servers pc u h new c.0 named q l c.1))
      (λ h2 x. thread_changes k2 n e t others h2 (record h2.thread { pc = h2.thread.pc + 1; phase = phase.Ready }) refl (λ f. refl) x))

  -- PAIRS

  abbrev BothBegun : List Value → List Value → List Value → Hand → Type 0
  BothBegun vs us slots h = HandOk (NewNames w n i i) n e t (carried n t us ++ (carried n t vs ++ others)) (with_slots slots h) × (h.work.rest.started ≡ i)

  pair_begins : (vs us slots : List Value) (h : Hand) (a b : ℕ) → h.work.rest.started ≡ i → HandOk (NewNames w n i i) n e t (carried n t us ++ (carried n t vs ++ others)) (with_slots slots h) → Gives (BothBegun vs us slots) (pair_begun h a b)
  pair_begins vs us slots h a b q g =
      let k = names_kept w n i i in
      let more = carried n t us ++ (carried n t vs ++ others) in
      let p = h.thread.number in
      let h1 = working (with_tasks (tasks.noted h.work.rest.tasks a (in_pair p false))) h in
      let first = notes_thread k n e t more a (in_pair p false) (with_slots slots h) (notes n (record { thread = a; state = in_pair p false })) g in
      test_gives (BothBegun vs us slots) (can_begin_pair h.work.rest.tasks p a b) _ (λ on. (notes_thread k n e t more b (in_pair p false) (with_slots slots h1) (notes n (record { thread = b; state = in_pair p false })) first, q))

  both_start : (servers pc other a b : ℕ) (h : Hand) (first second : List Value × List Value) → AllMove first.0 → AllMove second.0 → h.work.rest.started ≡ i → i + 2 < 2 ^ 32
      → HandOk (NewNames w n i i) n e t (carried n t second.0 ++ (carried n t first.0 ++ others)) (with_slots second.1 h) → Gives (HandOk (NewNames w n (i + 1 + 1) i) n e t others) (par_with servers pc other a b h first.0 second)
  both_start servers pc other a b h first second x y q l g =
      let k2 = names_kept w n (i + 1 + 1) i in
      over_gives (BothBegun first.0 second.0 second.1) (HandOk (NewNames w n (i + 1 + 1) i) n e t others) (pair_begun h a b) _ (pair_begins first.0 second.0 second.1 h a b q g) (λ h2 z.
      let h3 = with_slots second.1 h2 in
      let th = thread_things n false h3.thread in
      let c1 = carried n t first.0 in
      let c2 = carried n t second.0 in
      let all = beside_carried (names_kept w n i i) second.0 (c1 ++ others) h3 z.0 in
      let turned_so = turns (names_kept w n i i) n e t (c2 ++ (th ++ (c1 ++ others))) (c1 ++ (c2 ++ (th ++ others))) h2.work
      (λ f. omega (arith, tot-append f c2 (th ++ (c1 ++ others)), tot-append f th (c1 ++ others), tot-append f c1 others, tot-append f c1 (c2 ++ (th ++ others)), tot-append f c2 (th ++ others), tot-append f th others)) all in
      let w1 = start_thread servers pc first.0 h2.work in
      let one_started : WorkOk (NewNames w n (i + 1) i) n e (c2 ++ (th ++ others)) w1 = starts w n i i e t (c2 ++ (th ++ others)) servers pc first.0 h2.work x z.1 (omega (arith, l)) turned_so in
      let two_started : WorkOk (NewNames w n (i + 1 + 1) i) n e (th ++ others) (start_thread servers other second.0 w1) = starts w n (i + 1) i e t (th ++ others) servers other second.0 w1 y (start_counts servers pc i first.0 h2.work z.1) (omega (arith, l)) one_started in
      let h4 : Hand = record { work = start_thread servers other second.0 w1; thread = h3.thread } in
      thread_changes k2 n e t others h4 (record h4.thread { pc = h4.thread.pc + 1; phase = phase.WaitPar a b }) refl (λ f. refl) (to_hand k2 n e t others h4.work h3.thread z.0.thread two_started))

  pub pars : (servers : ℕ) (cs : WithRoom (ℕ × Bool)) (pc : ℕ) (ds : WithRoom (ℕ × Bool)) (other : ℕ) (h : Hand) → h.work.rest.started ≡ i → i + 2 < 2 ^ 32 → HandOk (NewNames w n i i) n e t others h
      → CommittedOk (HandOk (NewNames w n (i + 1 + 1) i) n e t others) (par servers cs pc ds other h)
  pars servers cs pc ds other h q l g =
      let k = names_kept w n i i in
      let u = next_thread h.work.rest in
      let Ok : Hand → Type 0 = HandOk (NewNames w n (i + 1 + 1) i) n e t others in
      done_keeps (names_kept w n (i + 1 + 1) i) n e t others (fresh.Threads u (u + 1)) _
      (bind_gives (Captured k n e t others h) Ok (capture true cs.items h.thread.slots) _ (captures k n e t others true cs.items [] h.thread.slots h tt g) (λ first c.
      bind_gives (Captured k n e t (carried n t first.0 ++ others) h) Ok (capture true ds.items first.1) (par_with servers pc other u (u + 1) h first.0) (captures k n e t (carried n t first.0 ++ others) true ds.items [] first.1 h tt c.1) (λ second d.
      both_start servers pc other u (u + 1) h first second c.0 d.0 q l d.1)))
