-- A step that is done, by what its server shows of contents, results and objects: what weighs nothing before weighs nothing afterwards, where what the instruction itself
-- puts there weighs nothing.
use Rattle.std.proofs.Common.{◌≡◌, ℕ, ℤ, zero, suc, ◌+◌, ◌&&◌, ◌==◌, Bool, true, false, nat_lt, if◌then◌else◌, List, [], ◌∷◌, ◌++◌, length, Option, Some, None, is_some, refl, sym, ap, subst, ◌∙◌, arith}
use Rattle.std.specs.Prelude.{slice_get, option_map, ⊤}
use Rattle.law_types_still.specs.Below.fr_base.Lists.{last_of}
use Rattle.law_types_still.specs.Below.fr_base.declared.name.MutexNo.{MutexNo}
use Rattle.law_types_still.specs.Below.fr_base.declared.name.ObjNo.{ObjNo}
use Rattle.law_types_still.specs.Below.fr_base.declared.label.Plain.{Plain}
use Rattle.law_types_still.specs.Below.fr_base.declared.label.Plain.TheVariants as plain
use Rattle.law_types_still.specs.Below.fr_base.declared.place.Lval.{Lval}
use Rattle.law_types_still.specs.Below.fr_base.declared.step.Fresh.{Fresh}
use Rattle.law_types_still.specs.Below.fr_base.declared.step.Fresh.TheVariants as fresh
use Rattle.law_types_still.specs.Below.fr_base.declared.instruction.Instr.{Instr}
use Rattle.law_types_still.specs.Below.fr_base.declared.instruction.Instr.TheVariants as instr
use Rattle.law_types_still.specs.Below.fr_base.declared.instruction.Operand.{Operand}
use Rattle.law_types_still.specs.Below.fr_base.declared.instruction.Operand.TheVariants as operand
use Rattle.law_types_still.specs.Below.heap_partition.Plain.{plain_of}
use Rattle.law_types_still.specs.Below.heap_partition.declared.value.Cell.{Cell}
use Rattle.law_types_still.specs.Below.heap_partition.declared.value.Owned.{Owned}
use Rattle.law_types_still.specs.Below.heap_partition.declared.value.Owned.TheVariants as owned
use Rattle.law_types_still.specs.Below.owner_box.View.{PartitionState}
use Rattle.law_types_still.specs.Below.owner_box.Partition.{made, stored, cell_of}
use Rattle.law_types_still.specs.Below.global_addr.Words.{server_of, colour_of}
use Rattle.law_types_still.specs.Below.read_cache.Cache.{Copy, can_unpin, unpin}
use Rattle.law_types_still.specs.Below.mut_borrow.Refs.{finish_word}
use Rattle.law_types_still.specs.Below.mut_borrow.declared.shared.SharedRef.{SharedRef}
use Rattle.law_types_still.specs.Below.mutex_home.Mutexes.{Mutex, can_make, make, next_mutex}
use Rattle.law_types_still.specs.Below.join_home.Tasks.{TaskState, going, in_pair, can_begin, can_begin_pair, noted}
use Rattle.law_types_still.specs.Below.migration.Packing.{unpin_all}
use Rattle.law_types_still.specs.Below.thread_state.View.{ThreadState, new_thread}
use Rattle.law_types_still.specs.Below.thread_state.declared.phase.Phase.{Phase}
use Rattle.law_types_still.specs.Below.thread_state.declared.phase.Phase.TheVariants as phase
use Rattle.law_types_still.specs.Below.thread_state.declared.value.Value.{Value}
use Rattle.law_types_still.specs.Below.thread_state.declared.value.Value.TheVariants as value
use Rattle.law_types_still.specs.Below.server_msgs.declared.message.Message.{Message}
use Rattle.law_types_still.specs.Below.server_msgs.declared.message.Message.TheVariants as message
use Rattle.law_types_still.specs.Below.journal.declared.act.Act.TheVariants as act
use Rattle.law_types_still.specs.Below.server_model.Servers.{Rest, Server}
use Rattle.law_types_still.specs.Below.server_model.Work.{Work, Hand, Popped, sent_from, look, leads_here, then_some, working, with_partition, with_cache, with_phase, label_all, push_slot, push_temp, pop, pop_owned, pop_int, pop_temp, pop_slot, taken_as, owned_of, int_of, task_of}
use Rattle.law_types_still.specs.Below.server_model.NewWords.{NewWord, can_grow, issue_placed}
use Rattle.law_types_still.specs.Below.server_model.Places.{Spot, in_slot, on_top, in_cell, in_copy, nowhere, cell_at, value_at, load_at, note_write, put_slot, put_cell, put_at, set_pointer, second_of}
use Rattle.law_types_still.specs.Below.server_model.Drop.{give_up, unpin_ref, finished_at, drop_value}
use Rattle.law_types_still.specs.Below.server_model.Start.{next_thread, server_for, start_thread, capture}
use Rattle.law_types_still.specs.Below.server_model.Prepare.{Prepared, ready, requested, nothing, access_of, prepare}
use Rattle.law_types_still.specs.Below.server_model.Commit.{Committed, done, waits, refused, done_where, go_on, goes_on, waiting, let_slot, label_dropped, replace_slot, store_labels, store_at, replace_at, assign, take_out, read, shared_from, borrow_from, mutable_from, borrow_mut_from, discard, drop_slot, next_object, push_box, make_box, box_up, print, begun, spawn_with, take_gift, join, pair_begun, par_with, par_end, end_with, end_thread, mutex_made, mutex_at, dup, lock, held_of, unlock, commit}
use Rattle.law_types_still.specs.Below.server_model.Events.{Stepped, done_step, committed, prepared, step}
use Rattle.law_types_still.specs.Below.coherent_memory.Names.{tot}
use Rattle.law_types_still.specs.Below.coherent_memory.Things.{Spot as Place, Location, Thing, in_slot as a_slot, in_temp, as_content, as_result, holds, uses, things_at, pin_things, value_things, slot_things, temp_things, gift_things, walk_things, thread_things, standing_things, mutex_things, task_things, message_things, server_things}
use Rattle.law_types_still.specs.Below.law_counts_sums.Laws.{Gives}
use Rattle.law_types_still.proofs.Below.law_counts_sums.Bags.{all_standing, rest_things, of_partition, of_mutexes, of_tasks, of_sending, sent_number, server_same}
use Rattle.law_types_still.proofs.Below.law_counts_sums.Objects.{makes}
use Rattle.law_types_still.proofs.Below.law_counts_sums.Results.{then_gives, map_gives, test_gives, bind_gives, over_gives, weaker, given_by}
use Rattle.law_types_still.proofs.Below.law_counts_sums.Trades.{tot-append, trade_push}
use Rattle.law_types_still.proofs.Below.law_counts_sums.Values.{stores}
use Rattle.law_types_still.specs.Below.law_heap_still.events.Shows.{Sign, a_value, an_object, sign_of}
use Rattle.law_types_still.proofs.Below.law_heap_still.events.Addresses.{no_vacancy}
use Rattle.law_types_still.proofs.Below.law_heap_still.events.Back.{gives_up}
use Rattle.law_types_still.proofs.Below.law_heap_still.events.Prepares.{prepare_shows, Fine as Shows}
use Rattle.law_types_still.proofs.Below.law_heap_still.events.Readied.{IsPlaced, Kept, same_rest, copies_ready, set_ready}
use Rattle.law_types_still.proofs.Below.law_heap_still.events.Sites.{Moves}

-- what contents, results and objects weigh, by what they show
pub record Weighs : Type 0 where
  pub content : MutexNo → Plain → ℕ
  pub result : ℕ → Plain → ℕ
  pub object : ObjNo → Plain → ℕ

abbrev pub weight : Weighs → Sign → ℕ
weight w (a_value (as_content m) v) = w.content m v
weight w (a_value (as_result t) v) = w.result t v
weight w (an_object o v) = w.object o v
weight w x = 0

-- the next free address of a partition is empty
abbrev pub HasPlace : PartitionState → Type 0
HasPlace p = (pair : ℕ × ℕ) (rest : List (ℕ × ℕ)) → p.free ≡ pair ∷ rest → slice_get p.cells pair.0 ≡ Some None

module _ (w : Weighs) where
  abbrev pub f : Thing → ℕ
  f x = weight w (sign_of x)

  -- THREADS WEIGH NOTHING

  nothing_at : {X : Type 0} (g : ℕ → X → List Thing) → ((i : ℕ) (x : X) → tot f (g i x) ≡ 0) → (i : ℕ) (xs : List X) → tot f (things_at g i xs) ≡ 0
  nothing_at g z i [] = refl
  nothing_at g z i (x ∷ xs) = omega (arith, z i x, nothing_at g z (i + 1) xs, tot-append f (g i x) (things_at g (i + 1) xs))

  pin_nothing : (s : ℕ) (r : SharedRef) → tot f (pin_things s r) ≡ 0
  pin_nothing s r = by r.pinned
    where
      by : (b : Bool) → tot f (if b then uses s r.word ∷ [] else []) ≡ 0
      by true = refl
      by false = refl

  value_nothing : (s : ℕ) (p : Place) (l : Location) → ((v : Owned) → f (holds p v) ≡ 0) → (v : Value) → tot f (value_things s p l v) ≡ 0
  value_nothing s p l z (value.Own v) = omega (arith, z v)
  value_nothing s p l z (value.Shared r) = omega (arith, pin_nothing s r)
  value_nothing s p l z value.Gone = refl
  value_nothing s p l z (value.SharedSlot i) = refl
  value_nothing s p l z (value.MutSlot i) = refl
  value_nothing s p l z (value.Mut r) = refl
  value_nothing s p l z (value.Held m) = refl

  gift_nothing : (t : ℕ) (o : Option Owned) → tot f (gift_things t o) ≡ 0
  gift_nothing t None = refl
  gift_nothing t (Some v) = refl

  thread_nothing : (s : ℕ) (p : Bool) (t : ThreadState) → tot f (thread_things s p t) ≡ 0
  thread_nothing s p t =
      let g = gift_things t.number t.gift in
      let u = things_at (walk_things s) 0 t.walk in
      let a = things_at (slot_things s t.number) 0 t.slots in
      let b = things_at (temp_things s t.number) 0 t.temps in
      omega (
        arith,
        gift_nothing t.number t.gift,
        nothing_at (walk_things s) (λ i x. refl) 0 t.walk,
        nothing_at (slot_things s t.number) (λ i x. value_nothing s (a_slot t.number i) _ (λ v. refl) x) 0 t.slots,
        nothing_at (temp_things s t.number) (λ i x. value_nothing s (in_temp t.number i) _ (λ v. refl) x) 0 t.temps,
        tot-append f (g ++ u ++ a) b,
        tot-append f (g ++ u) a,
        tot-append f g u,
      )

  threads_nothing : (n : ℕ) (ts : List ThreadState) → tot f (all_standing n ts) ≡ 0
  threads_nothing n ts = nothing_at (standing_things n) (λ i t. thread_nothing n false t) 0 ts

  module _ (n : ℕ) where
    -- the rest of server n weighs nothing
    abbrev pub Light : Rest → Type 0
    Light r = (r.number ≡ n) × (tot f (rest_things n 0 r) ≡ 0)

    -- A SERVER

    pub from_server : (s : Server) → s.rest.number ≡ n → tot f (server_things s) ≡ 0 → Light s.rest
    from_server s e z =
        let m = s.rest.number in
        let all : tot f (rest_things m 0 s.rest) ≡ 0 = omega (arith, z, server_same s f, tot-append f (all_standing m s.threads) (rest_things m s.events s.rest)) in
        (e, subst (λ j. tot f (rest_things j 0 s.rest) ≡ 0) e all)

    pub to_server : (s : Server) → Light s.rest → tot f (server_things s) ≡ 0
    to_server s g =
        let m = s.rest.number in
        let all : tot f (rest_things m 0 s.rest) ≡ 0 = subst (λ j. tot f (rest_things j 0 s.rest) ≡ 0) (sym g.0) g.1 in
        omega (arith, all, threads_nothing m s.threads, server_same s f, tot-append f (all_standing m s.threads) (rest_things m s.events s.rest))

    -- WHAT CHANGES IT

    pub by_moves : (r r2 : Rest) → Moves [] [] r r2 → Light r → Light r2
    by_moves r r2 m g = (m.number ∙ g.0, sym (subst (λ j. tot f (rest_things j 0 r) ≡ tot f (rest_things j 0 r2)) g.0 (m.alike (weight w) refl)) ∙ g.1)

    sends_light : (t : ℕ) (m : Message) (r : Rest) → tot f (message_things t m) ≡ 0 → Light r → Light (sent_from r t m)
    sends_light t m r z g = let u = of_sending n 0 r g.0 t m in (sent_number r t m ∙ g.0, omega (arith, z, g.1, u.before f, u.after f))

    notes_light : (t : ℕ) (z : TaskState) (r : Rest) → tot f (task_things n 0 (record { thread = t; state = z })) ≡ 0 → Light r → Light (record r { tasks = noted r.tasks t z })
    notes_light t z r q g = let u = of_tasks n 0 r (noted r.tasks t z) (trade_push (task_things n) r.tasks 0 (record { thread = t; state = z })) in (g.0, omega (arith, q, g.1, u.before f, u.after f))

    mutex_light : (v : Owned) (r : Rest) → w.content (next_mutex r.mutexes) (plain_of v) ≡ 0 → Light r → Light (record r { mutexes = make r.mutexes v })
    mutex_light v r z g =
        let new : Mutex = record { number = next_mutex r.mutexes; content = Some v; shares = 1; queue = [] } in
        let u = of_mutexes n 0 r (make r.mutexes v) (trade_push (mutex_things n) r.mutexes.there 0 new) in (g.0, omega (arith, z, g.1, u.before f, u.after f))

    object_light : (c : Cell) (r : Rest) → HasPlace r.partition → w.object c.object (plain_of c.value) ≡ 0 → Light r → Light (record r { partition = made r.partition c })
    object_light c r place z g =
        let q = r.partition in
        let u = of_partition n 0 r (made q c) (makes n q c q.free place) in (g.0, omega (arith, z, g.1, u.before f, u.after f, no_vacancy (weight w) refl n q.free))

    stored_light : (u : ℕ) (c : Cell) (v : Owned) (r : Rest) → look r.partition u ≡ Some c → w.object c.object (plain_of v) ≡ 0 → Light r → Light (record r { partition = stored r.partition u v })
    stored_light u c v r e z g = let t = of_partition n 0 r (stored r.partition u v) (stores n r.partition u c v e) in (g.0, omega (arith, z, g.1, t.before f, t.after f))

    started_light : (r : Rest) (m : ℕ) → Light r → Light (record r { started = m })
    started_light r m g = (g.0, omega (arith, g.1))

    abbrev G : Hand → Type 0
    G h = Light h.work.rest

    -- A VALUE IS DROPPED

    unpins : (r : SharedRef) (b : Bool) (h : Hand) → G h → Gives G (unpin_ref r b h)
    unpins r false h g = g
    unpins r true h g =
        test_gives G (can_unpin h.work.rest.cache r.word) _ (λ on. (let k = copies_ready h (unpin h.work.rest.cache r.word) h.thread.walk in by_moves h.work.rest (record h.work.rest { cache = unpin h.work.rest.cache r.word }) k.0.moves g))

    sets : (s : Spot) (u : ℕ) (h : Hand) → G h → Gives G (set_pointer s u h)
    sets s u h g = weaker (Kept h) G (set_pointer s u h) (set_ready s u h) (λ h2 k. by_moves h.work.rest h2.work.rest k.0.moves g)

    finishes : (holder : Spot) (o : Option ℕ) (h : Hand) → G h → Gives G (finished_at holder o h)
    finishes holder None h g = g
    finishes holder (Some u) h g = sets holder u h g

    drops : (holder : Spot) (v : Value) (h : Hand) → G h → Gives G (drop_value holder v h)
    drops holder (value.Own v) h g = by_moves h.work.rest (give_up v h.work).rest (gives_up [] [] h.work.rest v h.work (same_rest h.work.rest)) g
    drops holder (value.Shared r) h g = unpins r r.pinned h g
    drops holder (value.Mut r) h g = by r.dirty
      where
        by : (b : Bool) → Gives G (if b then None else finished_at holder (finish_word r) h)
        by true = tt
        by false = finishes holder (finish_word r) h g
    drops holder value.Gone h g = g
    drops holder (value.SharedSlot i) h g = g
    drops holder (value.MutSlot i) h g = g
    drops holder (value.Held m) h g = g

    -- A VALUE IS PUT

    -- what a spot's cell may get
    abbrev pub MayGet : Rest → Spot → Plain → Type 0
    MayGet r s v = (u : ℕ) (q : Option ℕ) (c : Cell) → s ≡ in_cell u q → look r.partition u ≡ Some c → w.object c.object v ≡ 0

    no_cell : (p : PartitionState) (u : ℕ) (c : Option Cell) → cell_of p u ≡ c → leads_here p u ≡ true → (if leads_here p u then cell_of p u else None) ≡ None → ⊥
    no_cell p u c e on z = by (cell_of p u) refl
      where
        first : (a b : Bool) → a && b ≡ true → a ≡ true
        first true b q = refl
        first false b q = absurd cc

        second : (a b : Bool) → a && b ≡ true → b ≡ true
        second true b q = q
        second false b q = absurd cc

        by : (o : Option Cell) → cell_of p u ≡ o → ⊥
        by None q =
            let live : is_some (cell_of p u) ≡ true = second (server_of u == p.server) (is_some (cell_of p u)) (first ((server_of u == p.server) && is_some (cell_of p u)) (nat_lt (colour_of u) p.limit) on) in
            let no : false ≡ true = sym (ap is_some q) ∙ live in cc
        by (Some d) q = let it : (if true then cell_of p u else None) ≡ None = subst (λ b. (if b then cell_of p u else None) ≡ None) on z in let no : Some d ≡ None = sym q ∙ it in cc

    -- a write is noted in slots alone
    noted_rest : (q : Option ℕ) (h : Hand) → (note_write q h).work.rest ≡ h.work.rest
    noted_rest None h = refl
    noted_rest (Some i) h = refl

    puts_cell : (u : ℕ) (q : Option ℕ) (v : Owned) (h : Hand) → MayGet h.work.rest (in_cell u q) (plain_of v) → G h → Gives G (put_cell u q v h)
    puts_cell u q v h may g = by (look h.work.rest.partition u) refl
      where
        h1 : Hand
        h1 = working (with_partition (stored h.work.rest.partition u v)) h

        by : (o : Option Cell) → look h.work.rest.partition u ≡ o → Gives G (put_cell u q v h)
        by None e = test_gives G (leads_here h.work.rest.partition u) _ (λ on. absurd (no_cell h.work.rest.partition u (cell_of h.work.rest.partition u) refl on e))
        by (Some c) e =
            test_gives G (leads_here h.work.rest.partition u) _ (λ on. subst Light (sym (noted_rest q h1)) (stored_light u c v h.work.rest e (may u q c refl e) g))

    puts : (s : Spot) (v : Owned) (h : Hand) → MayGet h.work.rest s (plain_of v) → G h → Gives G (put_at s (value.Own v) h)
    puts (in_slot i) v h may g = test_gives G (nat_lt i (length h.thread.slots)) _ (λ on. g)
    puts on_top v h may g = g
    puts (in_cell u q) v h may g = puts_cell u q v h may g
    puts (in_copy u) v h may g = tt
    puts nowhere v h may g = tt

    stores_at : (s : Spot) (v : Owned) (h : Hand) → MayGet h.work.rest s (plain_of v) → G h → Gives G (store_at s v h)
    stores_at s v h may g = puts s v (working (label_all (store_labels (cell_at h s) v)) h) may g

    takes_out : (s : Spot) (h : Hand) → MayGet h.work.rest s plain.Nothing → G h → Gives G (take_out s h)
    takes_out (in_slot i) h may g = test_gives G (nat_lt i (length h.thread.slots)) _ (λ on. g)
    takes_out on_top h may g = g
    takes_out (in_cell u q) h may g = stores_at (in_cell u q) owned.Nothing h may g
    takes_out (in_copy u) h may g = tt
    takes_out nowhere h may g = tt

    replaces_slot : (i : ℕ) (holder : Spot) (v : Value) (h : Hand) → G h → Gives G (replace_slot i holder v h)
    replaces_slot i holder v h g =
        then_gives G (slice_get h.thread.slots i) _ (λ old q. bind_gives G G (put_slot i v (label_dropped old h)) (drop_value holder old) (test_gives G (nat_lt i (length h.thread.slots)) _ (λ on. g)) (λ h2 u. drops holder old h2 u))

    replaces_at : (s : Spot) (v : Owned) (h : Hand) → MayGet h.work.rest s (plain_of v) → G h → Gives G (replace_at s v h)
    replaces_at s v h may g = then_gives G (value_at h s) _ (λ old q. bind_gives G G (store_at s v (label_dropped old h)) (drop_value nowhere old) (stores_at s v (label_dropped old h) may g) (λ h2 u. drops nowhere old h2 u))

    -- OPERANDS

    -- an operand leaves the server and the thread's names
    abbrev Same : Hand → {X : Type 0} → Popped X → Type 0
    Same h p = (p.hand.work.rest ≡ h.work.rest) × (next_object p.hand ≡ next_object h)

    pops : (o : Operand) (h : Hand) → Gives (λ (p : Popped Value). Same h p) (pop o h)
    pops (operand.Const n) h = (refl, refl)
    pops operand.Unit h = (refl, refl)
    pops operand.Pop h = map_gives (λ (p : Popped Value). Same h p) (last_of h.thread.temps) _ (λ v q. (refl, refl))

    as_some : {X : Type 0} (form : Value → Option X) (h : Hand) (o : Option (Popped Value)) → Gives (λ (p : Popped Value). Same h p) o → Gives (λ (p : Popped X). Same h p) (then_some o (taken_as form))
    as_some {X} form h o g = bind_gives (λ (p : Popped Value). Same h p) (λ (p : Popped X). Same h p) o (taken_as form) g (λ p u. map_gives (λ (r : Popped X). Same h r) (form p.item) _ (λ x q. u))

    slot_pops : (h : Hand) → Gives (λ (p : Popped Value). Same h p) (pop_slot h)
    slot_pops h = map_gives (λ (p : Popped Value). Same h p) (last_of h.thread.slots) _ (λ v q. (refl, refl))

    temp_pops : (h : Hand) → Gives (λ (p : Popped Value). Same h p) (pop_temp h)
    temp_pops h = map_gives (λ (p : Popped Value). Same h p) (last_of h.thread.temps) _ (λ v q. (refl, refl))

    carry : (h : Hand) {X : Type 0} (p : Popped X) → Same h p → G h → G p.hand
    carry h p u g = subst Light (sym u.0) g

    -- WHAT AN INSTRUCTION PUTS

    pub record Excused (i : Instr) (s : Spot) (h : Hand) : Type 0 where
      pub takes : (p : Lval) → i ≡ instr.Read p true → (o : ObjNo) → w.object o plain.Nothing ≡ 0
      pub assigns : (p : Lval) (o : Operand) (d : ℕ) → i ≡ instr.Assign p o → p.depth ≡ suc d → (v : Plain) → MayGet h.work.rest s v
      pub boxes : (o : Operand) → i ≡ instr.Box o → HasPlace h.work.rest.partition × ((v : Plain) → w.object (next_object h) v ≡ 0)
      pub makes : (o : Operand) → i ≡ instr.Mutex o → (v : Plain) → w.content (next_mutex h.work.rest.mutexes) v ≡ 0
      pub unlocks : i ≡ instr.Unlock → (v : Popped Owned) (m : Popped MutexNo) → then_some (pop_slot h) (taken_as owned_of) ≡ Some v → then_some (pop_slot v.hand) (taken_as held_of) ≡ Some m → w.content m.item (plain_of v.item) ≡ 0
      pub ends : (o : Operand) → i ≡ instr.End o → (v : Popped Owned) → pop_owned o h ≡ Some v → w.result h.thread.number (plain_of v.item) ≡ 0

    -- where the step is done
    abbrev pub Done : Committed → Type 0
    Done (done names h) = G h
    Done (waits h) = ⊤
    Done refused = ⊤

    done_light : (names : Fresh) (o : Option Hand) → Gives G o → Done (done_where names o)
    done_light names None g = tt
    done_light names (Some h) g = g

    goes_light : (o : Option Hand) → Gives G o → Done (goes_on o)
    goes_light None g = tt
    goes_light (Some h) g = g

    names_light : (names : Fresh) (o : Option Hand) → Gives G o → Done (done_where names (option_map go_on o))
    names_light names None g = tt
    names_light names (Some h) g = g

    waits_light : (o : Option Hand) → Done (waiting o)
    waits_light None = tt
    waits_light (Some h) = tt

    -- THE INSTRUCTIONS

    lets : (o : Operand) (h : Hand) → G h → Gives G (let_slot o h)
    lets o h g = over_gives (λ (p : Popped Value). Same h p) G (pop o h) (λ p. push_slot p.item p.hand) (pops o h) (λ p u. carry h p u g)

    assigns_light : (p : Lval) (d : ℕ) (o : Operand) (s : Spot) (h : Hand) → ((n : ℕ) → d ≡ suc n → (v : Plain) → MayGet h.work.rest s v) → G h → Gives G (assign p d o s h)
    assigns_light p zero o s h may g = bind_gives (λ (q : Popped Value). Same h q) G (pop o h) _ (pops o h) (λ q u. replaces_slot p.slot s q.item q.hand (carry h q u g))
    assigns_light p (suc d) o s h may g =
        bind_gives (λ (q : Popped Owned). Same h q) G (pop_owned o h) _ (as_some owned_of h (pop o h) (pops o h)) (λ q u. replaces_at s q.item q.hand (subst (λ r. MayGet r s (plain_of q.item)) (sym u.0) (may d refl (plain_of q.item))) (carry h q u g))

    copies : (s : Spot) (h : Hand) → G h → Gives G (read false s h)
    copies s h g = then_gives G (value_at h s) _ (λ v q. map_gives G (second_of v) _ (λ u e. g))

    moves : (s : Spot) (h : Hand) → MayGet h.work.rest s plain.Nothing → G h → Gives G (read true s h)
    moves s h may g = then_gives G (value_at h s) _ (λ v q. over_gives G G (take_out s (load_at s h)) (push_temp v) (takes_out s (load_at s h) may g) (λ h2 u. u))

    borrows : (p : Lval) (d : ℕ) (s : Spot) (h : Hand) → G h → Gives G (borrow_from p d s h)
    borrows p zero s h g = g
    borrows p (suc d) s h g = then_gives G (value_at h s) _ (λ v q. map_gives G (shared_from v) _ (λ u c. g))

    lends : (p : Lval) (d : ℕ) (s : Spot) (h : Hand) → G h → Gives G (borrow_mut_from p d s h)
    lends p zero s h g = g
    lends p (suc d) s h g = then_gives G (value_at h s) _ (λ v q. map_gives G (mutable_from h.thread.phase (record p { depth = d }) v) _ (λ u c. g))

    boxes_light : (v : Owned) (h : Hand) → HasPlace h.work.rest.partition → w.object (next_object h) (plain_of v) ≡ 0 → G h → Gives G (make_box v h)
    boxes_light v h place z g =
        over_gives (λ (m : NewWord). Light m.work.rest) G (issue_placed (act.Make (next_object h)) (record { object = next_object h; value = v }) h.work) (λ m. push_box v m h)
        (test_gives (λ (m : NewWord). Light m.work.rest) (can_grow h.work.rest.partition) _ (λ on. object_light (record { object = next_object h; value = v }) h.work.rest place z g)) (λ m u. u)

    boxes_up : (o : Operand) (h : Hand) → HasPlace h.work.rest.partition → ((v : Plain) → w.object (next_object h) v ≡ 0) → G h → Gives G (box_up o h)
    boxes_up o h place z g =
        bind_gives (λ (p : Popped Owned). Same h p) G (pop_owned o h) _ (as_some owned_of h (pop o h) (pops o h)) (λ p u.
        boxes_light p.item p.hand (subst (λ (r : Rest). HasPlace r.partition) (sym u.0) place) (subst (λ q. w.object q (plain_of p.item) ≡ 0) (sym u.1) (z (plain_of p.item))) (carry h p u g))

    calculates : (a b : Operand) (h : Hand) (go : Popped ℤ → Popped ℤ → Value) → G h → Gives G (then_some (pop_int b h) (λ y. option_map (λ x. push_temp (go x y) x.hand) (pop_int a y.hand)))
    calculates a b h go g =
        bind_gives (λ (p : Popped ℤ). Same h p) G (pop_int b h) _ (as_some int_of h (pop b h) (pops b h)) (λ y u.
        over_gives (λ (p : Popped ℤ). Same y.hand p) G (pop_int a y.hand) (λ x. push_temp (go x y) x.hand) (as_some int_of y.hand (pop a y.hand) (pops a y.hand)) (λ x v. carry y.hand x v (carry h y u g)))

    prints : (o : Operand) (h : Hand) → G h → Gives G (print o h)
    prints o h g = over_gives (λ (p : Popped ℤ). Same h p) G (pop_int o h) _ (as_some int_of h (pop o h) (pops o h)) (λ p u. carry h p u g)

    discards : (s : Spot) (h : Hand) → G h → Gives G (discard s h)
    discards s h g = bind_gives (λ (p : Popped Value). Same h p) G (pop_temp h) _ (temp_pops h) (λ p u. drops s p.item (label_dropped p.item p.hand) (carry h p u g))

    drops_slot : (s : Spot) (h : Hand) → G h → Gives G (drop_slot s h)
    drops_slot s h g = bind_gives (λ (p : Popped Value). Same h p) G (pop_slot h) _ (slot_pops h) (λ p u. drops s p.item (label_dropped p.item p.hand) (carry h p u g))

    -- a new thread
    starts_light : (servers pc : ℕ) (slots : List Value) (x : Work) → Light x.rest → Light (start_thread servers pc slots x).rest
    starts_light servers pc slots x g =
        let t = new_thread (next_thread x.rest) pc slots in
        let to = server_for servers x.rest in
        sends_light to (message.Start t) (record x.rest { started = x.rest.started + 1 }) (omega (arith, thread_nothing to true t)) (started_light x.rest (x.rest.started + 1) g)

    spawns : (servers pc u : ℕ) (h : Hand) (o : Option (List Value × List Value)) → G h → Gives G (then_some o (spawn_with servers pc u h))
    spawns servers pc u h None g = tt
    spawns servers pc u h (Some new) g =
        over_gives G G (begun h) _ (test_gives G (can_begin h.work.rest.tasks (next_thread h.work.rest)) _ (λ on. notes_light (next_thread h.work.rest) going h.work.rest refl g)) (λ h2 q. starts_light servers pc new.0 h2.work q)

    pairs : (servers pc other a b : ℕ) (h : Hand) (first : List Value) (second : List Value × List Value) → G h → Gives G (par_with servers pc other a b h first second)
    pairs servers pc other a b h first second g =
        over_gives G G (pair_begun h a b) _
        (test_gives G (can_begin_pair h.work.rest.tasks h.thread.number a b) _
        (λ on. notes_light b (in_pair h.thread.number false) (record h.work.rest { tasks = noted h.work.rest.tasks a (in_pair h.thread.number false) }) refl (notes_light a (in_pair h.thread.number false) h.work.rest refl g)))
        (λ h2 q. starts_light servers other second.0 (start_thread servers pc first h2.work) (starts_light servers pc first h2.work q))

    ends_light : (main : Bool) (v : Owned) (h : Hand) → (main ≡ false → w.result h.thread.number (plain_of v) ≡ 0) → G h → Gives G (end_with main v h)
    ends_light true v h z g = let x = (label_dropped (value.Own v) h).work in by_moves x.rest (give_up v x).rest (gives_up [] [] x.rest v x (same_rest x.rest)) g
    ends_light false v h z g = sends_light h.thread.home (message.Finished h.thread.number v) h.work.rest (omega (arith, z refl)) g

    ends_thread : (o : Operand) (h : Hand) → ((v : Popped Owned) → pop_owned o h ≡ Some v → w.result h.thread.number (plain_of v.item) ≡ 0) → G h → Done (end_thread o h)
    ends_thread o h z g = by _ (then_gives G (pop_owned o h) _ (λ p e. (let u = given_by (λ (q : Popped Owned). Same h q) (pop_owned o h) p (as_some owned_of h (pop o h) (pops o h)) e in ends_light (h.thread.number == 0) p.item p.hand (λ m. subst (λ t. w.result t (plain_of p.item) ≡ 0) (sym (ap (λ (q : ObjNo). q.thread) u.1)) (z p e)) (carry h p u g))))
      where
        by : (x : Option Hand) → Gives G x → Done (done_where fresh.None (option_map (with_phase phase.Over) x))
        by None q = tt
        by (Some h2) q = q

    mutexes : (o : Operand) (h : Hand) → ((v : Plain) → w.content (next_mutex h.work.rest.mutexes) v ≡ 0) → G h → Gives G (then_some (pop_owned o h) (λ p. mutex_made p.item p.hand))
    mutexes o h z g =
        bind_gives (λ (p : Popped Owned). Same h p) G (pop_owned o h) _ (as_some owned_of h (pop o h) (pops o h)) (λ p u.
        test_gives G (can_make p.hand.work.rest.mutexes) _ (λ on. mutex_light p.item p.hand.work.rest (subst (λ (r : Rest). w.content (next_mutex r.mutexes) (plain_of p.item) ≡ 0) (sym u.0) (z (plain_of p.item))) (carry h p u g)))

    joins : (o : Operand) (x : Option Owned) (h : Hand) → G h → Done (join o x h)
    joins o None h g = waits_light _
    joins o (Some v) h g = goes_light _ (over_gives (λ (p : Popped ℕ). Same (take_gift h) p) G (then_some (pop o (take_gift h)) (taken_as task_of)) _ (as_some task_of (take_gift h) (pop o (take_gift h)) (pops o (take_gift h))) (λ p u. carry (take_gift h) p u g))

    dups : (s : Spot) (x : Option Owned) (h : Hand) → G h → Done (dup s x h)
    dups s None h g = waits_light _
    dups s (Some v) h g = goes_light _ (map_gives G (mutex_at h s) _ (λ m q. g))

    locks : (s : Spot) (x : Option Owned) (h : Hand) → G h → Done (lock s x h)
    locks s None h g = waits_light _
    locks s (Some v) h g = goes_light _ (map_gives G (mutex_at h s) _ (λ m q. g))

    unlocks_light : (h : Hand) → ((v : Popped Owned) (m : Popped MutexNo) → then_some (pop_slot h) (taken_as owned_of) ≡ Some v → then_some (pop_slot v.hand) (taken_as held_of) ≡ Some m → w.content m.item (plain_of v.item) ≡ 0) → G h → Gives G (unlock h)
    unlocks_light h z g =
        then_gives G (then_some (pop_slot h) (taken_as owned_of)) _ (λ v e.
        map_gives G (then_some (pop_slot v.hand) (taken_as held_of)) _ (λ m q.
        let a = given_by (λ (p : Popped Owned). Same h p) (then_some (pop_slot h) (taken_as owned_of)) v (as_some owned_of h (pop_slot h) (slot_pops h)) e in
        let b = given_by (λ (p : Popped MutexNo). Same v.hand p) (then_some (pop_slot v.hand) (taken_as held_of)) m (as_some held_of v.hand (pop_slot v.hand) (slot_pops v.hand)) q in
        sends_light m.item.home (message.Unlock m.item v.item) m.hand.work.rest (omega (arith, z v m e q)) (carry v.hand m b (carry h v a g))))

    pair_goes : (p : Phase) (h : Hand) → G h → Gives G (par_end p h)
    pair_goes (phase.GotPar a b) h g = g
    pair_goes _ h g = tt

    pub commits : (servers : ℕ) (i : Instr) (s : Spot) (h : Hand) → Excused i s h → G h → Done (commit servers i s h)
    commits n (instr.Let o) s h x g = goes_light _ (lets o h g)
    commits n (instr.Assign p o) s h x g = goes_light _ (assigns_light p p.depth o s h (λ d e. x.assigns p o d refl e) g)
    commits n (instr.Read p false) s h x g = goes_light _ (copies s h g)
    commits n (instr.Read p true) s h x g = goes_light _ (moves s h (λ u q c e l. x.takes p refl c.object) g)
    commits n (instr.Borrow p) s h x g = goes_light _ (borrows p p.depth s h g)
    commits n (instr.BorrowMut p) s h x g = goes_light _ (lends p p.depth s h g)
    commits n (instr.Box o) s h x g = let b = x.boxes o refl in goes_light _ (boxes_up o h b.0 b.1 g)
    commits n (instr.Arith o a b) s h x g = goes_light _ (calculates a b h _ g)
    commits n (instr.Print o) s h x g = goes_light _ (prints o h g)
    commits n instr.Discard s h x g = goes_light _ (discards s h g)
    commits n instr.DropSlot s h x g = goes_light _ (drops_slot s h g)
    commits n (instr.Spawn cs pc) s h x g = names_light _ _ (spawns n pc (next_thread h.work.rest) h (capture false cs.items h.thread.slots) g)
    commits n (instr.Join o) s h x g = joins o h.thread.gift h g
    commits n (instr.Mutex o) s h x g = names_light _ _ (mutexes o h (x.makes o refl) g)
    commits n (instr.Dup p) s h x g = dups s h.thread.gift h g
    commits n (instr.Lock p) s h x g = locks s h.thread.gift h g
    commits n instr.Unlock s h x g = goes_light _ (unlocks_light h (x.unlocks refl) g)
    commits n (instr.Par cs pc ds other) s h x g =
        done_light _ _ (then_gives G (capture true cs.items h.thread.slots) _ (λ first e. then_gives G (capture true ds.items first.1) _ (λ second q. pairs n pc other (next_thread h.work.rest) (next_thread h.work.rest + 1) h first.0 second g)))
    commits n instr.ParEnd s h x g = goes_light _ (pair_goes h.thread.phase h g)
    commits n (instr.End o) s h x g = ends_thread o h (x.ends o refl) g

    -- THE STEP

    abbrev pub WhereDone : Stepped → Type 0
    WhereDone d = (names : Fresh) → d.names ≡ Some names → Light d.hand.work.rest

    pub settles : (c : Committed) → Done c → Gives WhereDone (committed c)
    settles (done names h) g = by (unpin_all h.thread.walk h.work.rest.cache)
      where
        by : (o : Option (List Copy)) → Gives WhereDone (option_map (done_step names) (option_map (λ cs. record { work = with_cache cs h.work; thread = record h.thread { passed = 0; walk = []; moved_since_step = false } }) o))
        by None = tt
        by (Some cs) = λ m e. (let k = copies_ready h cs h.thread.walk in by_moves h.work.rest (record h.work.rest { cache = cs }) k.0.moves g)
    settles (waits h) g = λ m e. absurd (cc e)
    settles refused g = tt

    -- from a hand whose rest weighs nothing a step that is done leads to such a one
    pub steps_light : (servers : ℕ) (i : Instr) (h : Hand) → IsPlaced h → Light h.work.rest → ((h2 : Hand) (s : Spot) → prepare (access_of i h.thread) h ≡ ready h2 s → Excused i s h2) → Gives WhereDone (step servers i h)
    steps_light servers i h placed g excused = by (prepare (access_of i h.thread) h) refl (prepare_shows h (access_of i h.thread) placed)
      where
        by : (p : Prepared) → prepare (access_of i h.thread) h ≡ p → Shows h p → Gives WhereDone (prepared servers i p)
        by (ready h2 s) e k = settles (commit servers i s h2) (commits servers i s h2 (excused h2 s e) (by_moves h.work.rest h2.work.rest k.0.moves g))
        by (requested h2) e k = λ m q. absurd (cc q)
        by nothing e k = tt
