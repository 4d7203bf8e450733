-- What the plain step of an instruction leaves to a weight that sees threads and cells alone: no less than there was, where no cell that it sees gets another value.
use Rattle.std.proofs.Common.{◌≡◌, ℕ, ℤ, zero, suc, ◌+◌, ◌≤◌, ◌==◌, ◌&&◌, nat_lt, is_some, Bool, true, false, if◌then◌else◌, List, [], ◌∷◌, ◌++◌, Option, Some, None, option_map, refl, sym, ap, subst, ◌∙◌, arith}
use Rattle.std.specs.Prelude.{slice_get, length}
use Rattle.std.specs.Bool.{⊤}
use Rattle.law_counts_asking.specs.Below.fr_base.Rooms.{WithRoom}
use Rattle.law_counts_asking.specs.Below.fr_base.declared.label.Plain.{Plain}
use Rattle.law_counts_asking.specs.Below.fr_base.declared.name.MutexNo.{MutexNo}
use Rattle.law_counts_asking.specs.Below.fr_base.declared.name.ObjNo.{ObjNo}
use Rattle.law_counts_asking.specs.Below.fr_base.declared.place.Lval.{Lval}
use Rattle.law_counts_asking.specs.Below.fr_base.declared.place.Op.{Op}
use Rattle.law_counts_asking.specs.Below.fr_plain.Acts.{result_of}
use Rattle.law_counts_asking.specs.Below.fr_base.declared.step.Fresh.{Fresh}
use Rattle.law_counts_asking.specs.Below.fr_base.declared.step.Fresh.TheVariants as fresh
use Rattle.law_counts_asking.specs.Below.fr_base.declared.release.Released.TheVariants as released
use Rattle.law_counts_asking.specs.Below.fr_base.declared.instruction.Instr.{Instr}
use Rattle.law_counts_asking.specs.Below.fr_base.declared.instruction.Instr.TheVariants as instr
use Rattle.law_counts_asking.specs.Below.fr_base.declared.instruction.Operand.{Operand}
use Rattle.law_counts_asking.specs.Below.fr_base.declared.instruction.Operand.TheVariants as operand
use Rattle.law_counts_asking.specs.Below.global_addr.Words.{colour_of, server_of, address_of}
use Rattle.law_counts_asking.specs.Below.heap_partition.Plain.{plain_of}
use Rattle.law_counts_asking.specs.Below.heap_partition.declared.value.Cell.{Cell}
use Rattle.law_counts_asking.specs.Below.heap_partition.declared.value.Owned.{Owned}
use Rattle.law_counts_asking.specs.Below.heap_partition.declared.value.Owned.TheVariants as owned
use Rattle.law_counts_asking.specs.Below.colour_retire.Colours.{picked}
use Rattle.law_counts_asking.specs.Below.owner_box.View.{PartitionState}
use Rattle.law_counts_asking.specs.Below.owner_box.Partition.{cell_of, stored, made}
use Rattle.law_counts_asking.specs.Below.read_cache.Cache.{Copy, can_unpin}
use Rattle.law_counts_asking.specs.Below.mutex_home.Mutexes.{can_make}
use Rattle.law_counts_asking.specs.Below.join_home.Tasks.{can_begin, can_begin_pair}
use Rattle.law_counts_asking.specs.Below.mut_borrow.Refs.{finish_word}
use Rattle.law_counts_asking.specs.Below.mut_borrow.declared.shared.SharedRef.{SharedRef}
use Rattle.law_counts_asking.specs.Below.mut_borrow.declared.mutable.MutRef.{MutRef}
use Rattle.law_counts_asking.specs.Below.migration.Packing.{unpin_all}
use Rattle.law_counts_asking.specs.Below.thread_state.View.{new_thread}
use Rattle.law_counts_asking.specs.Below.thread_state.declared.phase.Phase.{Phase}
use Rattle.law_counts_asking.specs.Below.thread_state.declared.phase.Phase.TheVariants as phase
use Rattle.law_counts_asking.specs.Below.thread_state.declared.value.Value.{Value}
use Rattle.law_counts_asking.specs.Below.thread_state.declared.value.Value.TheVariants as value
use Rattle.law_counts_asking.specs.Below.server_msgs.declared.message.Message.{Message}
use Rattle.law_counts_asking.specs.Below.server_msgs.declared.message.Message.TheVariants as message
use Rattle.law_counts_asking.specs.Below.journal.declared.act.Act.{Act}
use Rattle.law_counts_asking.specs.Below.journal.declared.act.Act.TheVariants as act
use Rattle.law_counts_asking.specs.Below.server_model.Servers.{Rest}
use Rattle.law_counts_asking.specs.Below.server_model.Work.{Work, Hand, Popped, last_of, front_of, sent_from, leads_here, look, push_slot, push_temp, pop_temp, pop_slot, pop, pop_owned, pop_int, taken_as, owned_of, int_of, task_of, then_some, note, label_all, working, with_partition, with_cache, with_phase}
use Rattle.law_counts_asking.specs.Below.server_model.NewWords.{NewWord, can_grow, issue_placed}
use Rattle.law_counts_asking.specs.Below.server_model.Places.{Spot, in_slot, on_top, in_cell, in_copy, nowhere, cell_at, value_at, load_at, note_slot, note_write, put_cell, put_slot, put_at, set_pointer, second_of}
use Rattle.law_counts_asking.specs.Below.server_model.Drop.{home_of, give_up, unpin_ref, finished_at, finish, drop_value}
use Rattle.law_counts_asking.specs.Below.server_model.Start.{next_thread, server_for, start_thread, capture}
use Rattle.law_counts_asking.specs.Below.server_model.Commit.{Committed, done, waits, refused, done_where, go_on, goes_on, waiting, let_slot, label_dropped, replace_slot, store_labels, store_at, replace_at, assign, take_out, read_as, read, shared_from, borrow_from, borrow, mutable_from, borrow_mut_from, borrow_mut, discard, drop_slot, next_object, push_box, make_box, box_up, arith as calculate, print, begun, spawn_with, spawn, ask_join, take_gift, join, pair_begun, par_with, par, par_end, end_with, end_thread, mutex_made, mutex, mutex_at, ask_dup, dup, ask_lock, push_content, lock, held_of, send_content, unlock, commit, settle}
use Rattle.law_counts_asking.specs.Below.server_model.Events.{Stepped, done_step, wait_step, committed}
use Rattle.law_counts_asking.specs.Below.coherent_memory.Names.{tot}
use Rattle.law_counts_asking.specs.Below.coherent_memory.Things.{Thing, partition_things}
use Rattle.law_counts_asking.proofs.Below.coherent_memory.Names.{and_left, and_right}
use Rattle.law_counts_asking.specs.Below.law_counts_sums.Laws.{Gives}
use Rattle.law_counts_asking.proofs.Below.law_counts_sums.Results.{then_gives, map_gives, test_gives, bind_gives, over_gives, weaker}
use Rattle.law_counts_asking.proofs.Below.law_counts_sums.Bags.{rest_things, of_sending, sent_number}
use Rattle.law_counts_asking.proofs.Below.law_counts_sums.Values.{stores}
use Rattle.law_counts_asking.proofs.Below.law_counts_sums.Objects.{makes}
use Rattle.law_words_asked.specs.Below.law_heap_still.events.Shows.{Sign, nothing, an_object, sign_of}
use Rattle.law_words_asked.proofs.Below.law_heap_still.events.Addresses.{InPlace, stored_places, next_empty, no_vacancy}
use Rattle.law_words_asked.proofs.Below.law_heap_still.events.Sites.{shown, Moves}
use Rattle.law_words_asked.proofs.Below.law_heap_still.events.Readied.{Kept, set_ready}
use Rattle.law_counts_waiting.proofs.waits.Amounts.{SeesStanding, amount, rest_seen}

same_hand : {a b : Hand} → Some a ≡ Some b → a ≡ b
same_hand e = cc

-- the phase of a thread whose step is done
abbrev pub is_calm : Phase → Bool
is_calm phase.Ready = true
is_calm (phase.WaitPar a b) = true
is_calm phase.Over = true
is_calm p = false

-- a message leaves the partition
same_partition : (r : Rest) (target : ℕ) (m : Message) → (sent_from r target m).partition ≡ r.partition
same_partition r target m = by (target == r.number)
  where
    by : (b : Bool) → (if b then record r { inbox = r.inbox ++ m ∷ [] } else record r { outbox = r.outbox ++ record { target = target; message = m } ∷ [] }).partition ≡ r.partition
    by true = refl
    by false = refl

-- what may be put over, where the weight sees nothing of the cell's object
abbrev pub Blind : (Sign → ℕ) → Spot → PartitionState → Type 0
Blind w (in_cell u q) p = (c : Cell) → look p u ≡ Some c → (v : Plain) → w (an_object c.object v) ≡ 0
Blind w s p = ⊤

abbrev pub Deep : ℕ → Type 0 → Type 0
Deep zero A = ⊤
Deep (suc d) A = A

-- where the instruction puts something over what stands at its spot
abbrev pub Covers : (Sign → ℕ) → Instr → Spot → PartitionState → Type 0
Covers w (instr.Assign v o) s p = Deep v.depth (Blind w s p)
Covers w (instr.Read v true) s p = Blind w s p
Covers w i s p = ⊤

module _ (w : Sign → ℕ) (sees : SeesStanding w) (n least : ℕ) where
  abbrev f : Thing → ℕ
  f x = w (sign_of x)

  -- no less is there
  abbrev pub Much : Rest → Type 0
  Much r = (r.number ≡ n) × (least ≤ amount w sees n r.partition r.inbox r.outbox)

  -- the same, and each address has one state
  abbrev pub Least : Rest → Type 0
  Least r = Much r × InPlace n r.partition

  abbrev pub Good : Hand → Type 0
  Good h = Least h.work.rest

  -- WHAT LEAVES IT

  sent_much : (r : Rest) (target : ℕ) (m : Message) → Much r → Much (sent_from r target m)
  sent_much r target m g = (
    sent_number r target m ∙ g.0,
    (let t = of_sending n 0 r g.0 target m in omega (arith, g.1, t.before f, t.after f, rest_seen w sees n 0 r, rest_seen w sees n 0 (sent_from r target m))),
  )

  sends : (r : Rest) (target : ℕ) (m : Message) → Least r → Least (sent_from r target m)
  sends r target m g = (sent_much r target m g.0, subst (InPlace n) (sym (same_partition r target m)) g.1)

  gives : (v : Owned) (x : Work) → Least x.rest → Least (give_up v x).rest
  gives (owned.Box p) x g = sends x.rest (server_of p.word) (message.Drop p.word p.object) g
  gives (owned.Mutex m) x g = sends x.rest m.home (message.Release (released.Mutex m)) g
  gives (owned.Task t) x g = sends x.rest (home_of t) (message.Release (released.Task t)) g
  gives owned.Nothing x g = g
  gives owned.Unit x g = g
  gives (owned.Int i) x g = g

  -- what makes a place ready does
  pub moved : (h h2 : Hand) → Kept h h2 → Good h → Good h2
  moved h h2 k g =
      let r = h.work.rest in
      let r2 = h2.work.rest in
      let same : r2.number ≡ n = k.0.moves.number ∙ g.0.0 in
      let there : shown w ([] ++ rest_things n 0 r) ≡ shown w ([] ++ rest_things n 0 r2) = subst (λ m. shown w ([] ++ rest_things m 0 r) ≡ shown w ([] ++ rest_things m 0 r2)) g.0.0 (k.0.moves.alike w sees.none) in (
        (same, omega (arith, g.0.1, there, rest_seen w sees n 0 r, rest_seen w sees n 0 r2)),
        subst (λ m. InPlace m r2.partition) same (k.1 (subst (λ m. InPlace m r.partition) (sym g.0.0) g.1)),
      )

  sets : (s : Spot) (u : ℕ) (h : Hand) → Good h → Gives Good (set_pointer s u h)
  sets s u h g = weaker (Kept h) Good (set_pointer s u h) (set_ready s u h) (λ h2 k. moved h h2 k g)

  -- VALUES TAKEN OUT AND DROPPED

  abbrev Out : {X : Type 0} → Hand → Popped X → Type 0
  Out h p = Good p.hand × (p.hand.work.rest.partition ≡ h.work.rest.partition)

  pops_temp : (h : Hand) → Good h → Gives (Out h) (pop_temp h)
  pops_temp h g = map_gives (Out h) (last_of h.thread.temps) _ (λ v q. (g, refl))

  pops_slot : (h : Hand) → Good h → Gives (Out h) (pop_slot h)
  pops_slot h g = map_gives (Out h) (last_of h.thread.slots) _ (λ v q. (g, refl))

  pops : (o : Operand) (h : Hand) → Good h → Gives (Out h) (pop o h)
  pops (operand.Const m) h g = (g, refl)
  pops operand.Unit h g = (g, refl)
  pops operand.Pop h g = pops_temp h g

  takes_as : {X : Type 0} (h : Hand) (k : Value → Option X) (o : Option (Popped Value)) → Gives (Out h) o → Gives (Out h) (then_some o (taken_as k))
  takes_as h k o g = bind_gives (Out h) (Out h) o (taken_as k) g (λ p u. map_gives (Out h) (k p.item) (λ x. record { item = x; hand = p.hand }) (λ x q. u))

  pops_owned : (o : Operand) (h : Hand) → Good h → Gives (Out h) (pop_owned o h)
  pops_owned o h g = takes_as h owned_of (pop o h) (pops o h g)

  pops_int : (o : Operand) (h : Hand) → Good h → Gives (Out h) (pop_int o h)
  pops_int o h g = takes_as h int_of (pop o h) (pops o h g)

  unpins : (r : SharedRef) (b : Bool) (h : Hand) → Good h → Gives Good (unpin_ref r b h)
  unpins r false h g = g
  unpins r true h g = test_gives Good (can_unpin h.work.rest.cache r.word) _ (λ on. g)

  finishes_at : (holder : Spot) (o : Option ℕ) (h : Hand) → Good h → Gives Good (finished_at holder o h)
  finishes_at holder None h g = g
  finishes_at holder (Some u) h g = sets holder u h g

  finishes : (holder : Spot) (r : MutRef) (b : Bool) (h : Hand) → Good h → Gives Good (if b then None else finished_at holder (finish_word r) h)
  finishes holder r true h g = tt
  finishes holder r false h g = finishes_at holder (finish_word r) h g

  drops : (holder : Spot) (v : Value) (h : Hand) → Good h → Gives Good (drop_value holder v h)
  drops holder (value.Own v) h g = gives v h.work g
  drops holder (value.Shared r) h g = unpins r r.pinned h g
  drops holder (value.Mut r) h g = finishes holder r r.dirty h g
  drops holder value.Gone h g = g
  drops holder (value.SharedSlot j) h g = g
  drops holder (value.MutSlot j) h g = g
  drops holder (value.Held m) h g = g

  -- SLOTS AND PLACES

  puts_slot : (i : ℕ) (v : Value) (h : Hand) → Good h → Gives Good (put_slot i v h)
  puts_slot i v h g = test_gives Good (nat_lt i (length h.thread.slots)) _ (λ on. g)

  replaces_slot : (i : ℕ) (holder : Spot) (v : Value) (h : Hand) → Good h → Gives Good (replace_slot i holder v h)
  replaces_slot i holder v h g =
      then_gives Good (slice_get h.thread.slots i) _ (λ old q.
      bind_gives Good Good (put_slot i v (label_dropped old h)) (drop_value holder old) (puts_slot i v (label_dropped old h) g) (λ h2 u. drops holder old h2 u))

  -- the mark of a write changes the thread alone
  notes : (q : Option ℕ) (h : Hand) → Good h → Good (note_write q h)
  notes None h g = g
  notes (Some i) h g = g

  covers_cell : (u : ℕ) (q : Option ℕ) (v : Owned) (h : Hand) → Blind w (in_cell u q) h.work.rest.partition → Good h → Gives Good (put_cell u q v h)
  covers_cell u q v h blind g = test_gives Good (leads_here h.work.rest.partition u) _ (λ on. notes q (working (with_partition (stored h.work.rest.partition u v)) h) (by on (cell_of h.work.rest.partition u) refl))
    where
      by : leads_here h.work.rest.partition u ≡ true → (o : Option Cell) → cell_of h.work.rest.partition u ≡ o → Least (record h.work.rest { partition = stored h.work.rest.partition u v })
      by on None e =
          let x = h.work.rest.partition in
          let live : is_some (cell_of x u) ≡ true = and_right (server_of u == x.server) (is_some (cell_of x u)) (and_left ((server_of u == x.server) && is_some (cell_of x u)) (nat_lt (colour_of u) x.limit) on) in
          absurd (cc (sym (ap is_some e) ∙ live))
      by on (Some c) e =
          let x = h.work.rest.partition in
          let here : look x u ≡ Some c = subst (λ b. (if b then cell_of x u else None) ≡ Some c) (sym on) e in
          let t = stores n x u c v here in ((g.0.0, omega (arith, g.0.1, t.before f, t.after f, blind c here (plain_of c.value), blind c here (plain_of v))), stored_places n x u c v here g.1)

  stores_at : (s : Spot) (v : Owned) (h : Hand) → Blind w s h.work.rest.partition → Good h → Gives Good (store_at s v h)
  stores_at (in_slot i) v h blind g = puts_slot i (value.Own v) (working (label_all (store_labels (cell_at h (in_slot i)) v)) h) g
  stores_at on_top v h blind g = g
  stores_at (in_cell u q) v h blind g = covers_cell u q v (working (label_all (store_labels (cell_at h (in_cell u q)) v)) h) blind g
  stores_at (in_copy u) v h blind g = tt
  stores_at nowhere v h blind g = tt

  replaces_at : (s : Spot) (v : Owned) (h : Hand) → Blind w s h.work.rest.partition → Good h → Gives Good (replace_at s v h)
  replaces_at s v h blind g =
      then_gives Good (value_at h s) _ (λ old q. bind_gives Good Good (store_at s v (label_dropped old h)) (drop_value nowhere old) (stores_at s v (label_dropped old h) blind g) (λ h2 u. drops nowhere old h2 u))

  assigns : (v : Lval) (d : ℕ) (o : Operand) (s : Spot) (h : Hand) → Deep d (Blind w s h.work.rest.partition) → Good h → Gives Good (assign v d o s h)
  assigns v zero o s h blind g = bind_gives (Out h) Good (pop o h) _ (pops o h g) (λ p u. replaces_slot v.slot s p.item p.hand u.0)
  assigns v (suc d) o s h blind g = bind_gives (Out h) Good (pop_owned o h) _ (pops_owned o h g) (λ p u. replaces_at s p.item p.hand (subst (Blind w s) (sym u.1) blind) u.0)

  takes_out : (s : Spot) (h : Hand) → Blind w s h.work.rest.partition → Good h → Gives Good (take_out s h)
  takes_out (in_slot i) h blind g = puts_slot i value.Gone h g
  takes_out on_top h blind g = g
  takes_out (in_cell u q) h blind g = stores_at (in_cell u q) owned.Nothing h blind g
  takes_out (in_copy u) h blind g = tt
  takes_out nowhere h blind g = tt

  copies : (s : Spot) (h : Hand) → Good h → Gives Good (read false s h)
  copies s h g = then_gives Good (value_at h s) _ (λ v q. map_gives Good (second_of v) _ (λ u e. g))

  moves : (s : Spot) (h : Hand) → Blind w s h.work.rest.partition → Good h → Gives Good (read true s h)
  moves s h blind g = then_gives Good (value_at h s) _ (λ v q. over_gives Good Good (take_out s (load_at s h)) (push_temp v) (takes_out s (load_at s h) blind g) (λ h2 u. u))

  borrows : (v : Lval) (d : ℕ) (s : Spot) (h : Hand) → Good h → Gives Good (borrow_from v d s h)
  borrows v zero s h g = g
  borrows v (suc d) s h g = then_gives Good (value_at h s) _ (λ x q. map_gives Good (shared_from x) _ (λ u e. g))

  lends : (v : Lval) (d : ℕ) (s : Spot) (h : Hand) → Good h → Gives Good (borrow_mut_from v d s h)
  lends v zero s h g = g
  lends v (suc d) s h g = then_gives Good (value_at h s) _ (λ x q. map_gives Good (mutable_from h.thread.phase (record v { depth = d }) x) _ (λ u e. g))

  -- A STEP THAT IS DONE

  -- no less is there then, and the thread is calm
  abbrev pub Ends : Hand → Type 0
  Ends h = Much h.work.rest × (is_calm h.thread.phase ≡ true)

  abbrev pub EndsBy : Option Fresh → Hand → Type 0
  EndsBy None h = ⊤
  EndsBy (Some names) h = Ends h

  abbrev pub EndsStep : Stepped → Type 0
  EndsStep d = EndsBy d.names d.hand

  settles : (names : Fresh) (o : Option Hand) → Gives Ends o → Gives EndsStep (committed (done_where names o))
  settles names None g = tt
  settles names (Some h) g = map_gives EndsStep (settle h) (done_step names) (λ h2 e. by h2 (unpin_all h.thread.walk h.work.rest.cache) e)
    where
      by : (h2 : Hand) (o : Option (List Copy))
          → option_map (λ cs. record { work = with_cache cs h.work; thread = record h.thread { passed = 0; walk = []; moved_since_step = false } }) o ≡ Some h2 → Ends h2
      by h2 None e = absurd (cc e)
      by h2 (Some cs) e = subst Ends (same_hand e) g

  -- at the next instruction
  goes : (names : Fresh) (o : Option Hand) → Gives Good o → Gives EndsStep (committed (done_where names (option_map go_on o)))
  goes names o g = settles names (option_map go_on o) (over_gives Good Ends o go_on g (λ h u. (u.0, refl)))

  waits_on : (o : Option Hand) → Gives EndsStep (committed (waiting o))
  waits_on None = tt
  waits_on (Some h) = tt

  -- OBJECTS, THREADS AND MUTEXES

  -- an object more lies here
  makes_it : (c : Cell) (h : Hand) → Good h → Much (record h.work.rest { partition = made h.work.rest.partition c })
  makes_it c h g =
      let p = h.work.rest.partition in
      let t = makes n p c p.free (next_empty n p g.1) in
      (g.0.0, omega (arith, g.0.1, t.before f, t.after f, no_vacancy w sees.none n p.free))

  makes_box : (v : Owned) (h : Hand) → Good h → Gives (λ (x : Hand). Much x.work.rest) (make_box v h)
  makes_box v h g =
      over_gives (λ (m : NewWord). Much m.work.rest) (λ (x : Hand). Much x.work.rest) (issue_placed (act.Make (next_object h)) (record { object = next_object h; value = v }) h.work) (λ m. push_box v m h)
      (test_gives (λ (m : NewWord). Much m.work.rest) (can_grow h.work.rest.partition) _ (λ on. makes_it (record { object = next_object h; value = v }) h g)) (λ m u. u)

  boxes_up : (o : Operand) (h : Hand) → Good h → Gives (λ (x : Hand). Much x.work.rest) (box_up o h)
  boxes_up o h g = bind_gives (Out h) (λ (x : Hand). Much x.work.rest) (pop_owned o h) _ (pops_owned o h g) (λ p u. makes_box p.item p.hand u.0)

  calculates : (op : Op) (a b : Operand) (h : Hand) → Good h → Gives Good (calculate op a b h)
  calculates op a b h g = bind_gives (Out h) Good (pop_int b h) _ (pops_int b h g) (λ y u. over_gives (Out y.hand) Good (pop_int a y.hand) (λ x. push_temp (value.Own (owned.Int (result_of op x.item y.item))) x.hand) (pops_int a y.hand u.0) (λ x v. v.0))

  prints : (o : Operand) (h : Hand) → Good h → Gives Good (print o h)
  prints o h g = over_gives (Out h) Good (pop_int o h) _ (pops_int o h g) (λ p u. u.0)

  lets : (o : Operand) (h : Hand) → Good h → Gives Good (let_slot o h)
  lets o h g = over_gives (Out h) Good (pop o h) _ (pops o h g) (λ p u. u.0)

  discards : (s : Spot) (h : Hand) → Good h → Gives Good (discard s h)
  discards s h g = bind_gives (Out h) Good (pop_temp h) _ (pops_temp h g) (λ p u. drops s p.item (label_dropped p.item p.hand) u.0)

  drops_slot : (s : Spot) (h : Hand) → Good h → Gives Good (drop_slot s h)
  drops_slot s h g = bind_gives (Out h) Good (pop_slot h) _ (pops_slot h g) (λ p u. drops s p.item (label_dropped p.item p.hand) u.0)

  makes_mutex : (v : Owned) (h : Hand) → Good h → Gives Good (mutex_made v h)
  makes_mutex v h g = test_gives Good (can_make h.work.rest.mutexes) _ (λ on. g)

  mutexes : (o : Operand) (h : Hand) → Good h → Gives Good (then_some (pop_owned o h) (λ t. mutex_made t.item t.hand))
  mutexes o h g = bind_gives (Out h) Good (pop_owned o h) _ (pops_owned o h g) (λ p u. makes_mutex p.item p.hand u.0)

  starts : (servers pc : ℕ) (slots : List Value) (x : Work) → Least x.rest → Least (start_thread servers pc slots x).rest
  starts servers pc slots x g = sends (record x.rest { started = x.rest.started + 1 }) (server_for servers x.rest) (message.Start (new_thread (next_thread x.rest) pc slots)) g

  begins : (h : Hand) → Good h → Gives Good (begun h)
  begins h g = test_gives Good (can_begin h.work.rest.tasks (next_thread h.work.rest)) _ (λ on. g)

  pair_begins : (h : Hand) (a b : ℕ) → Good h → Gives Good (pair_begun h a b)
  pair_begins h a b g = test_gives Good (can_begin_pair h.work.rest.tasks h.thread.number a b) _ (λ on. g)

  spawns : (servers : ℕ) (cs : WithRoom (ℕ × Bool)) (pc : ℕ) (h : Hand) → Good h → Gives Good (then_some (capture false cs.items h.thread.slots) (spawn_with servers pc (next_thread h.work.rest) h))
  spawns servers cs pc h g = then_gives Good (capture false cs.items h.thread.slots) _ (λ new q. over_gives Good Good (begun h) _ (begins h g) (λ h2 u. starts servers pc new.0 h2.work u))

  pairs : (servers : ℕ) (cs : WithRoom (ℕ × Bool)) (pc : ℕ) (ds : WithRoom (ℕ × Bool)) (other : ℕ) (h : Hand) → Good h
      → Gives Ends (then_some (capture true cs.items h.thread.slots) (λ first. then_some (capture true ds.items first.1) (par_with servers pc other (next_thread h.work.rest) (next_thread h.work.rest + 1) h first.0)))
  pairs servers cs pc ds other h g =
      then_gives Ends (capture true cs.items h.thread.slots) _ (λ first q.
      then_gives Ends (capture true ds.items first.1) _ (λ second e.
      over_gives Good Ends (pair_begun h (next_thread h.work.rest) (next_thread h.work.rest + 1)) _ (pair_begins h (next_thread h.work.rest) (next_thread h.work.rest + 1) g)
      (λ h2 u. ((starts servers other second.0 (start_thread servers pc first.0 h2.work) (starts servers pc first.0 h2.work u)).0, refl))))

  ends : (main : Bool) (v : Owned) (h : Hand) → Good h → Gives Good (end_with main v h)
  ends true v h g = gives v (label_dropped (value.Own v) h).work g
  ends false v h g = sends h.work.rest h.thread.home (message.Finished h.thread.number v) g

  ends_thread : (o : Operand) (h : Hand) → Good h → Gives Good (then_some (pop_owned o h) (λ t. end_with (h.thread.number == 0) t.item t.hand))
  ends_thread o h g = bind_gives (Out h) Good (pop_owned o h) _ (pops_owned o h g) (λ p u. ends (h.thread.number == 0) p.item p.hand u.0)

  unlocks : (h : Hand) → Good h → Gives Good (unlock h)
  unlocks h g =
      bind_gives (Out h) Good (then_some (pop_slot h) (taken_as owned_of)) _ (takes_as h owned_of (pop_slot h) (pops_slot h g)) (λ v u.
      over_gives (Out v.hand) Good (then_some (pop_slot v.hand) (taken_as held_of)) (λ m. send_content m.item v.item m.hand) (takes_as v.hand held_of (pop_slot v.hand) (pops_slot v.hand u.0))
      (λ m x. sends m.hand.work.rest m.item.home (message.Unlock m.item v.item) x.0))

  joins : (o : Operand) (g : Option Owned) (h : Hand) → Good h → Gives EndsStep (committed (join o g h))
  joins o None h g = waits_on (option_map (ask_join h) (then_some (pop o h) (λ t. task_of t.item)))
  joins o (Some v) h g =
      goes fresh.None (option_map (λ (t : Popped ℕ). push_temp (value.Own v) t.hand) (then_some (pop o (take_gift h)) (taken_as task_of)))
      (over_gives (Out (take_gift h)) Good (then_some (pop o (take_gift h)) (taken_as task_of)) _ (takes_as (take_gift h) task_of (pop o (take_gift h)) (pops o (take_gift h) g)) (λ p u. u.0))

  dups : (s : Spot) (g : Option Owned) (h : Hand) → Good h → Gives EndsStep (committed (dup s g h))
  dups s None h g = waits_on (option_map (ask_dup h) (mutex_at h s))
  dups s (Some v) h g =
      goes fresh.None (option_map (λ (m : MutexNo). push_temp (value.Own v) (load_at s (take_gift h))) (mutex_at h s)) (map_gives Good (mutex_at h s) _ (λ m q. g))

  locks : (s : Spot) (g : Option Owned) (h : Hand) → Good h → Gives EndsStep (committed (lock s g h))
  locks s None h g = waits_on (option_map (ask_lock h) (mutex_at h s))
  locks s (Some v) h g =
      goes fresh.None (option_map (push_content v (load_at s (take_gift h))) (mutex_at h s)) (map_gives Good (mutex_at h s) _ (λ m q. g))

  pair_goes : (p : Phase) (h : Hand) → Good h → Gives Good (par_end p h)
  pair_goes (phase.GotPar a b) h g = g
  pair_goes phase.Ready h g = tt
  pair_goes phase.Got h g = tt
  pair_goes (phase.Taken u) h g = tt
  pair_goes (phase.WaitCell u) h g = tt
  pair_goes (phase.WaitLock m) h g = tt
  pair_goes (phase.WaitDup m) h g = tt
  pair_goes (phase.WaitJoin u) h g = tt
  pair_goes (phase.WaitPar a b) h g = tt
  pair_goes phase.Over h g = tt

  -- ALL INSTRUCTIONS

  abbrev no_names : Fresh
  no_names = fresh.None

  pub commits : (servers : ℕ) (i : Instr) (s : Spot) (h : Hand) → Covers w i s h.work.rest.partition → Good h → Gives EndsStep (committed (commit servers i s h))
  commits servers (instr.Let o) s h c g = goes no_names (let_slot o h) (lets o h g)
  commits servers (instr.Assign v o) s h c g = goes no_names (assign v v.depth o s h) (assigns v v.depth o s h c g)
  commits servers (instr.Read v false) s h c g = goes no_names (read false s h) (copies s h g)
  commits servers (instr.Read v true) s h c g = goes no_names (read true s h) (moves s h c g)
  commits servers (instr.Borrow v) s h c g = goes no_names (borrow v s h) (borrows v v.depth s h g)
  commits servers (instr.BorrowMut v) s h c g = goes no_names (borrow_mut v s h) (lends v v.depth s h g)
  commits servers (instr.Box o) s h c g = settles no_names (option_map go_on (box_up o h)) (over_gives (λ (x : Hand). Much x.work.rest) Ends (box_up o h) go_on (boxes_up o h g) (λ x u. (u, refl)))
  commits servers (instr.Arith op a b) s h c g = goes no_names (calculate op a b h) (calculates op a b h g)
  commits servers (instr.Print o) s h c g = goes no_names (print o h) (prints o h g)
  commits servers instr.Discard s h c g = goes no_names (discard s h) (discards s h g)
  commits servers instr.DropSlot s h c g = goes no_names (drop_slot s h) (drops_slot s h g)
  commits servers (instr.Spawn cs pc) s h c g = goes _ (then_some (capture false cs.items h.thread.slots) (spawn_with servers pc (next_thread h.work.rest) h)) (spawns servers cs pc h g)
  commits servers (instr.Join o) s h c g = joins o h.thread.gift h g
  commits servers (instr.Mutex o) s h c g = goes _ (then_some (pop_owned o h) (λ t. mutex_made t.item t.hand)) (mutexes o h g)
  commits servers (instr.Dup v) s h c g = dups s h.thread.gift h g
  commits servers (instr.Lock v) s h c g = locks s h.thread.gift h g
  commits servers instr.Unlock s h c g = goes no_names (unlock h) (unlocks h g)
  commits servers (instr.Par cs pc ds other) s h c g = settles _ _ (pairs servers cs pc ds other h g)
  commits servers instr.ParEnd s h c g = goes no_names (par_end h.thread.phase h) (pair_goes h.thread.phase h g)
  commits servers (instr.End o) s h c g =
      settles no_names (option_map (with_phase phase.Over) (then_some (pop_owned o h) (λ t. end_with (h.thread.number == 0) t.item t.hand)))
      (over_gives Good Ends (then_some (pop_owned o h) (λ t. end_with (h.thread.number == 0) t.item t.hand)) (with_phase phase.Over) (ends_thread o h g) (λ x u. (u.0, refl)))
