-- What the plain step of each instruction says, and how its thread is then.
use Rattle.std.proofs.Common.{◌≡◌, ℕ, ℤ, zero, suc, ◌+◌, ◌*◌, ◌^◌, ◌<◌, ◌==◌, Bool, true, false, if◌then◌else◌, List, [], ◌∷◌, ◌++◌, Option, Some, None, refl, sym, ap, ap₂, subst, ◌∙◌, append_assoc, arith}
use Rattle.std.specs.Prelude.{slice_get}
use Rattle.std.specs.Bool.{⊤}
use Rattle.coherent_memory.specs.Below.fr_base.Rooms.{WithRoom}
use Rattle.coherent_memory.specs.Below.fr_base.declared.label.Label.TheVariants as label
use Rattle.coherent_memory.specs.Below.fr_base.declared.name.MutexNo.{MutexNo}
use Rattle.coherent_memory.specs.Below.fr_base.declared.place.Lval.{Lval}
use Rattle.coherent_memory.specs.Below.fr_base.declared.place.Op.{Op}
use Rattle.coherent_memory.specs.Below.fr_base.declared.step.Fresh.{Fresh}
use Rattle.coherent_memory.specs.Below.fr_base.declared.release.Released.TheVariants as released
use Rattle.coherent_memory.specs.Below.fr_base.declared.instruction.Instr.{Instr}
use Rattle.coherent_memory.specs.Below.fr_base.declared.instruction.Instr.TheVariants as instr
use Rattle.coherent_memory.specs.Below.fr_base.declared.instruction.Operand.{Operand}
use Rattle.coherent_memory.specs.Below.fr_base.declared.instruction.Operand.TheVariants as operand
use Rattle.coherent_memory.specs.Below.global_addr.Words.{server_of}
use Rattle.coherent_memory.specs.Below.heap_partition.declared.value.Owned.{Owned}
use Rattle.coherent_memory.specs.Below.heap_partition.declared.value.Owned.TheVariants as owned
use Rattle.coherent_memory.specs.Below.read_cache.Cache.{can_unpin}
use Rattle.coherent_memory.specs.Below.mut_borrow.Refs.{finish_word}
use Rattle.coherent_memory.specs.Below.mut_borrow.declared.shared.SharedRef.{SharedRef}
use Rattle.coherent_memory.specs.Below.mutex_home.Mutexes.{Mutex, can_make, make, next_mutex}
use Rattle.coherent_memory.specs.Below.join_home.Tasks.{Task, going, in_pair, begin, begin_pair, can_begin, can_begin_pair}
use Rattle.coherent_memory.specs.Below.thread_state.View.{ThreadState, new_thread}
use Rattle.coherent_memory.specs.Below.thread_state.declared.phase.Phase.{Phase}
use Rattle.coherent_memory.specs.Below.thread_state.declared.phase.Phase.TheVariants as phase
use Rattle.coherent_memory.specs.Below.thread_state.declared.value.Value.{Value}
use Rattle.coherent_memory.specs.Below.thread_state.declared.value.Value.TheVariants as value
use Rattle.coherent_memory.specs.Below.server_msgs.declared.message.Message.TheVariants as message
use Rattle.coherent_memory.specs.Below.journal.declared.act.Act.TheVariants as act
use Rattle.coherent_memory.specs.Below.server_model.Servers.{Rest, Server}
use Rattle.coherent_memory.specs.Below.server_model.Work.{Hand, Popped, last_of, pop_temp, pop_slot, pop, pop_owned, pop_int, taken_as, owned_of, int_of, task_of, then_some, working, note, label_all, sent_from, push_temp, with_tasks, with_phase, with_slots}
use Rattle.coherent_memory.specs.Below.migration.Packing.{unpin_all}
use Rattle.coherent_memory.specs.Below.server_model.NewWords.{NewWord, can_grow, issue_placed}
use Rattle.coherent_memory.specs.Below.server_model.Places.{Spot, in_slot, on_top, in_cell, in_copy, nowhere, cell_at, value_at, load_at, put_slot, second_of}
use Rattle.coherent_memory.specs.Below.server_model.Drop.{home_of, give_up, unpin_ref, finished_at, drop_value}
use Rattle.coherent_memory.specs.Below.server_model.Start.{next_thread, server_for, start_thread, capture}
use Rattle.coherent_memory.specs.Below.server_model.Commit.{Committed, done, waits, refused, done_where, go_on, goes_on, waiting, label_dropped, replace_slot, store_labels, store_at, replace_at, assign, take_out, read_as, shared_from, borrow_from, mutable_from, borrow_mut_from, discard, drop_slot, next_object, push_box, box_up, arith as calculate, print, begun, spawn_with, spawn, ask_join, take_gift, join, pair_begun, par, par_end, end_with, end_thread, mutex_made, mutex, mutex_at, ask_dup, dup, ask_lock, lock, held_of, unlock, commit, settle}
use Rattle.coherent_memory.specs.Below.server_model.Prepare.{Prepared, ready, requested, nothing, access_of, prepare}
use Rattle.coherent_memory.specs.Below.server_model.Events.{can_step, Stepped, done_step, committed, prepared, step}
use Rattle.coherent_memory.specs.Names.{one}
use Rattle.coherent_memory.specs.Things.{Thing, as_content, stands, task_things, mutex_things, message_things}
use Rattle.law_counts_sums.specs.Laws.{Gives}
use Rattle.law_counts_sums.proofs.Results.{then_gives, map_gives, over_gives, bind_gives, test_gives}
use Rattle.law_counts_sums.proofs.Trades.{tot-append, tot-push}
use Rattle.law_counts_sums.proofs.Bags.{sent_number}
use Rattle.law_counts_sums.proofs.Fair.{Fair, zeros, pays, fair_sum, fair_both, fair_beside, fair_same, fair_thread, fair_calm}
use Rattle.law_counts_sums.proofs.FairStarts.{fair_starts, fair_pair, fair_main_ends, fair_ends}
use Rattle.law_counts_sums.proofs.KnownPlaces.{put_keeps, pointer_keeps}
use Rattle.law_counts_sums.proofs.KnownPrepares.{Ok, Fine, prepare_fine}
use Rattle.law_counts_sums.proofs.Held.{holds_result, bare_held}
use Rattle.law_counts_sums.proofs.Quiet.{sent_started, SaysOf, Quiet, quiet, IsGift, NoGift, NoJoin, quiet_sends, quiet_asks, After, calm_after, asks_after, says_sent}

-- a note more, and a mutex more for which nobody waits
noted_more : (r : Rest) (news : List Thing) (x : Task) (r1 : Rest) → SaysOf r news r1 → SaysOf r (news ++ task_things r.number 0 x) (record r1 { tasks = r1.tasks ++ x ∷ [] })
noted_more r news x r1 a = record {
  same = a.same;
  more = λ f h. omega (arith, a.more f h, tot-push (task_things r.number) f r1.tasks 0 x, tot-append f news (task_things r.number 0 x));
}

made_more : (r : Rest) (news : List Thing) (v : Owned) (r1 : Rest) → SaysOf r news r1 → SaysOf r news (record r1 { mutexes = make r1.mutexes v })
made_more r news v r1 a =
    let x : Mutex = record { number = next_mutex r1.mutexes; content = Some v; shares = 1; queue = [] } in record {
      same = a.same;
      more = λ f h.
          let u = h.unseen r.number in
          omega (arith, a.more f h, tot-push (mutex_things r.number) f r1.mutexes.there 0 x, h.home r.number x, u.held (as_content x.number) v);
    }

-- a gift stands at a lock, a dup or a join alone
abbrev pub GiftFits : Instr → Option Owned → Type 0
GiftFits (instr.Lock w) g = ⊤
GiftFits (instr.Dup w) g = ⊤
GiftFits (instr.Join o) g = ⊤
GiftFits i g = g ≡ None

-- nor is it for a join elsewhere
abbrev pub Unjoined : List Instr → ThreadState → Instr → Type 0
Unjoined code y (instr.Join o) = ⊤
Unjoined code y i = NoJoin code y

-- a spawn makes the result of the thread that it starts owed, and no other step any
abbrev pub made_by : Instr → ℕ → ℕ → ℕ
made_by (instr.Spawn cs pc) u = λ t. one (u == t)
made_by i u = zeros

module _ (code : List Instr) (y : ThreadState) (r : Rest) (calm : can_step y.phase ≡ true) (names : r.started + 2 < 2 ^ 32) where
  -- it has no gift, or that with which it began
  abbrev Q : Hand → Type 0
  Q = Quiet code NoGift y r

  abbrev P : Hand → Type 0
  P = Quiet code (IsGift y) y r

  bare : (h : Hand) → y.gift ≡ None → P h → Q h
  bare h e g = record { still = g.still; named = g.named; given = g.given ∙ e; placed = g.placed; begun = g.begun; news = g.news; says = g.says; light = g.light }

  taken : (h : Hand) → P h → Q (take_gift h)
  taken h g = record { still = g.still; named = g.named; given = refl; placed = g.placed; begun = g.begun; news = g.news; says = g.says; light = g.light }

  -- so much is made; nothing is
  abbrev Makes : (ℕ → ℕ) → Hand → Type 0
  Makes made = After (pays code y made) y r

  abbrev Then : Hand → Type 0
  Then = Makes zeros

  abbrev MakesBy : (ℕ → ℕ) → Committed → Type 0
  MakesBy made (done names h) = Makes made h
  MakesBy made (waits h) = Makes made h
  MakesBy made refused = ⊤

  abbrev ThenBy : Committed → Type 0
  ThenBy = MakesBy zeros

  done_then : (made : ℕ → ℕ) (names : Fresh) (o : Option Hand) → Gives (Makes made) o → MakesBy made (done_where names o)
  done_then made names None g = tt
  done_then made names (Some h) g = g

  waits_then : (o : Option Hand) → Gives Then o → ThenBy (waiting o)
  waits_then None g = tt
  waits_then (Some h) g = g

  on : (h : Hand) → Q h → Then (go_on h)
  on h g = calm_after code NoGift y r h (record h.thread { pc = h.thread.pc + 1; phase = phase.Ready }) calm (record { steps = refl; got = λ t. refl }) refl g.given g

  goes_then : (o : Option Hand) → Gives Q o → ThenBy (goes_on o)
  goes_then None g = tt
  goes_then (Some h) g = on h g

  -- VALUES

  gives : (v : Owned) (h : Hand) → Q h → Q (working (give_up v) h)
  gives (owned.Box p) h g = quiet_sends code NoGift y r (server_of p.word) (message.Drop p.word p.object) (working (note (act.Condemn p.object p.word)) h) (record { answers = λ t. refl; pairs = λ b. refl; going = λ t. refl; homes = omega arith; ends = λ t. omega arith; owes = λ t. refl }) g
  gives (owned.Mutex m) h g = quiet_sends code NoGift y r m.home (message.Release (released.Mutex m)) (working (note (act.LetGo (released.Mutex m))) h) (record { answers = λ t. refl; pairs = λ b. refl; going = λ t. refl; homes = omega arith; ends = λ t. omega arith; owes = λ t. refl }) g
  gives (owned.Task t) h g = quiet_sends code NoGift y r (home_of t) (message.Release (released.Task t)) (working (note (act.LetGo (released.Task t))) h) (record { answers = λ t. refl; pairs = λ b. refl; going = λ t. refl; homes = omega arith; ends = λ t. omega arith; owes = λ t. refl }) g
  gives owned.Nothing h g = g
  gives owned.Unit h g = g
  gives (owned.Int n) h g = g

  abbrev PoppedQ : (X : Type 0) → Popped X → Type 0
  PoppedQ X p = Q p.hand

  pops_temp : (h : Hand) → Q h → Gives (PoppedQ Value) (pop_temp h)
  pops_temp h g = map_gives (PoppedQ Value) (last_of h.thread.temps) _ (λ v q. g)

  pops_slot : (h : Hand) → Q h → Gives (PoppedQ Value) (pop_slot h)
  pops_slot h g = map_gives (PoppedQ Value) (last_of h.thread.slots) _ (λ v q. g)

  pops : (o : Operand) (h : Hand) → Q h → Gives (PoppedQ Value) (pop o h)
  pops (operand.Const n) h g = g
  pops operand.Unit h g = g
  pops operand.Pop h g = pops_temp h g

  takes_as : {X : Type 0} (f : Value → Option X) (o : Option (Popped Value)) → Gives (PoppedQ Value) o → Gives (PoppedQ X) (then_some o (taken_as f))
  takes_as {X} f o g = bind_gives (PoppedQ Value) (PoppedQ X) o (taken_as f) g (λ p u. map_gives (PoppedQ X) (f p.item) _ (λ x e. u))

  pops_owned : (o : Operand) (h : Hand) → Q h → Gives (PoppedQ Owned) (pop_owned o h)
  pops_owned o h g = takes_as owned_of (pop o h) (pops o h g)

  pops_int : (o : Operand) (h : Hand) → Q h → Gives (PoppedQ ℤ) (pop_int o h)
  pops_int o h g = takes_as int_of (pop o h) (pops o h g)

  unpins : (q : SharedRef) (b : Bool) (h : Hand) → Q h → Gives Q (unpin_ref q b h)
  unpins q false h g = g
  unpins q true h g = test_gives Q (can_unpin h.work.rest.cache q.word) _ (λ z. g)

  finishes_at : (holder : Spot) (o : Option ℕ) (h : Hand) → Q h → Gives Q (finished_at holder o h)
  finishes_at holder None h g = g
  finishes_at holder (Some w) h g = pointer_keeps (quiet code NoGift y r) holder w h g

  finishes : (holder : Spot) (o : Option ℕ) (b : Bool) (h : Hand) → Q h → Gives Q (if b then None else finished_at holder o h)
  finishes holder o true h g = tt
  finishes holder o false h g = finishes_at holder o h g

  drops : (holder : Spot) (v : Value) (h : Hand) → Q h → Gives Q (drop_value holder v h)
  drops holder (value.Own v) h g = gives v h g
  drops holder (value.Shared q) h g = unpins q q.pinned h g
  drops holder (value.Mut q) h g = finishes holder (finish_word q) q.dirty h g
  drops holder value.Gone h g = g
  drops holder (value.SharedSlot i) h g = g
  drops holder (value.MutSlot i) h g = g
  drops holder (value.Held m) h g = g

  -- SLOTS AND PLACES

  replaces_slot : (i : ℕ) (holder : Spot) (v : Value) (h : Hand) → Q h → Gives Q (replace_slot i holder v h)
  replaces_slot i holder v h g =
      then_gives Q (slice_get h.thread.slots i) _ (λ old q.
      bind_gives Q Q (put_slot i v (label_dropped old h)) (drop_value holder old) (put_keeps (quiet code NoGift y r) (in_slot i) v (label_dropped old h) g) (λ h2 u. drops holder old h2 u))

  stores : (s : Spot) (v : Owned) (h : Hand) → Q h → Gives Q (store_at s v h)
  stores s v h g = put_keeps (quiet code NoGift y r) s (value.Own v) (working (label_all (store_labels (cell_at h s) v)) h) g

  replaces_at : (s : Spot) (v : Owned) (h : Hand) → Q h → Gives Q (replace_at s v h)
  replaces_at s v h g = then_gives Q (value_at h s) _ (λ old q. bind_gives Q Q (store_at s v (label_dropped old h)) (drop_value nowhere old) (stores s v (label_dropped old h) g) (λ h2 u. drops nowhere old h2 u))

  assigns : (w : Lval) (d : ℕ) (o : Operand) (s : Spot) (h : Hand) → Q h → Gives Q (assign w d o s h)
  assigns w zero o s h g = bind_gives (PoppedQ Value) Q (pop o h) _ (pops o h g) (λ p u. replaces_slot w.slot s p.item p.hand u)
  assigns w (suc d) o s h g = bind_gives (PoppedQ Owned) Q (pop_owned o h) _ (pops_owned o h g) (λ p u. replaces_at s p.item p.hand u)

  takes_out : (s : Spot) (h : Hand) → Q h → Gives Q (take_out s h)
  takes_out (in_slot i) h g = put_keeps (quiet code NoGift y r) (in_slot i) value.Gone h g
  takes_out on_top h g = g
  takes_out (in_cell w through) h g = stores (in_cell w through) owned.Nothing h g
  takes_out (in_copy w) h g = tt
  takes_out nowhere h g = tt

  reads_as : (take : Bool) (s : Spot) (v : Value) (h : Hand) → Q h → Gives Q (read_as take s v h)
  reads_as false s v h g = map_gives Q (second_of v) _ (λ u q. g)
  reads_as true s v h g = over_gives Q Q (take_out s h) _ (takes_out s h g) (λ h2 u. u)

  borrows : (w : Lval) (d : ℕ) (s : Spot) (h : Hand) → Q h → Gives Q (borrow_from w d s h)
  borrows w zero s h g = g
  borrows w (suc d) s h g = then_gives Q (value_at h s) _ (λ v q. map_gives Q (shared_from v) _ (λ u c. g))

  lends : (w : Lval) (d : ℕ) (s : Spot) (h : Hand) → Q h → Gives Q (borrow_mut_from w d s h)
  lends w zero s h g = g
  lends w (suc d) s h g = then_gives Q (value_at h s) _ (λ v q. map_gives Q (mutable_from h.thread.phase (record w { depth = d }) v) _ (λ u c. g))

  discards : (s : Spot) (h : Hand) → Q h → Gives Q (discard s h)
  discards s h g = bind_gives (PoppedQ Value) Q (pop_temp h) _ (pops_temp h g) (λ p u. drops s p.item (label_dropped p.item p.hand) u)

  drops_slot : (s : Spot) (h : Hand) → Q h → Gives Q (drop_slot s h)
  drops_slot s h g = bind_gives (PoppedQ Value) Q (pop_slot h) _ (pops_slot h g) (λ p u. drops s p.item (label_dropped p.item p.hand) u)

  -- OBJECTS, NUMBERS AND MUTEXES

  boxes_up : (o : Operand) (h : Hand) → Q h → Gives Q (box_up o h)
  boxes_up o h g =
      bind_gives (PoppedQ Owned) Q (pop_owned o h) _ (pops_owned o h g) (λ p u.
      over_gives (λ (n : NewWord). Q (record p.hand { work = n.work })) Q (issue_placed (act.Make (next_object p.hand)) (record { object = next_object p.hand; value = p.item }) p.hand.work) (λ n. push_box p.item n p.hand)
      (test_gives (λ (n : NewWord). Q (record p.hand { work = n.work })) (can_grow p.hand.work.rest.partition) _ (λ z. u)) (λ n w. w))

  calculates : (f : Op) (a b : Operand) (h : Hand) → Q h → Gives Q (calculate f a b h)
  calculates f a b h g = bind_gives (PoppedQ ℤ) Q (pop_int b h) _ (pops_int b h g) (λ z u. over_gives (PoppedQ ℤ) Q (pop_int a z.hand) _ (pops_int a z.hand u) (λ x w. w))

  prints : (o : Operand) (h : Hand) → Q h → Gives Q (print o h)
  prints o h g = over_gives (PoppedQ ℤ) Q (pop_int o h) _ (pops_int o h g) (λ p u. u)

  makes_mutex : (o : Operand) (h : Hand) → Q h → ThenBy (mutex o h)
  makes_mutex o h g =
      done_then zeros _ _ (over_gives Q Then (then_some (pop_owned o h) (λ p. mutex_made p.item p.hand)) go_on
      (bind_gives (PoppedQ Owned) Q (pop_owned o h) _ (pops_owned o h g) (λ p u. test_gives Q (can_make p.hand.work.rest.mutexes) _ (λ z. record {
        still = u.still;
        named = u.named;
        given = u.given;
        placed = u.placed;
        begun = u.begun;
        news = u.news;
        says = made_more r u.news p.item p.hand.work.rest u.says;
        light = u.light;
      }))) on)

  dups : (s : Spot) (gift : Option Owned) (h : Hand) → h.thread.gift ≡ gift → P h → ThenBy (dup s gift h)
  dups s None h e g =
      waits_then _ (map_gives Then (mutex_at h s) (ask_dup h) (λ m q.
      asks_after code (IsGift y) y r m.home (message.Dup m h.work.rest.number h.thread.number) (working (note (act.AskDup m)) h) (record h.thread { phase = phase.WaitDup m }) refl calm refl (λ t. bare_held code t (record h.thread { phase = phase.WaitDup m }) e)
      (record { waiting = refl; alone = λ t. refl; lives = refl; answer = refl; goes_on = λ t. refl; no_result = λ t. (refl, refl) }) g))
  dups s (Some v) h e g = goes_then _ (map_gives Q (mutex_at h s) _ (λ m q. taken h g))

  locks : (s : Spot) (gift : Option Owned) (h : Hand) → h.thread.gift ≡ gift → P h → ThenBy (lock s gift h)
  locks s None h e g =
      waits_then _ (map_gives Then (mutex_at h s) (ask_lock h) (λ m q.
      asks_after code (IsGift y) y r m.home (message.Lock m h.work.rest.number h.thread.number) (working (note (act.AskLock m)) h) (record h.thread { phase = phase.WaitLock m }) refl calm refl (λ t. bare_held code t (record h.thread { phase = phase.WaitLock m }) e)
      (record { waiting = refl; alone = λ t. refl; lives = refl; answer = refl; goes_on = λ t. refl; no_result = λ t. (refl, refl) }) g))
  locks s (Some v) h e g = goes_then _ (map_gives Q (mutex_at h s) _ (λ m q. taken h g))

  unlocks : (h : Hand) → Q h → Gives Q (unlock h)
  unlocks h g =
      bind_gives (PoppedQ Owned) Q (then_some (pop_slot h) (taken_as owned_of)) _ (takes_as owned_of (pop_slot h) (pops_slot h g)) (λ v u.
      over_gives (PoppedQ MutexNo) Q (then_some (pop_slot v.hand) (taken_as held_of)) _ (takes_as held_of (pop_slot v.hand) (pops_slot v.hand u)) (λ m w.
      quiet_sends code NoGift y r m.item.home (message.Unlock m.item v.item) (working (λ x. label_all (label.Unlock m.item ∷ []) (note (act.GiveBack m.item) x)) m.hand) (record { answers = λ t. refl; pairs = λ b. refl; going = λ t. refl; homes = omega arith; ends = λ t. omega arith; owes = λ t. refl }) w))

  -- THREADS

  joins : (o : Operand) (gift : Option Owned) (h : Hand) → h.thread.gift ≡ gift → P h → ThenBy (join o gift h)
  joins o None h e g =
      waits_then _ (map_gives Then (then_some (pop o h) (λ p. task_of p.item)) (ask_join h) (λ u q.
      asks_after code (IsGift y) y r (home_of u) (message.Join u h.work.rest.number h.thread.number) (working (note (act.AskJoin u)) h) (record h.thread { phase = phase.WaitJoin u }) refl calm refl (λ t. bare_held code t (record h.thread { phase = phase.WaitJoin u }) e)
      (record { waiting = refl; alone = λ t. refl; lives = refl; answer = refl; goes_on = λ t. refl; no_result = λ t. (refl, refl) }) g))
  joins o (Some result) h e g = goes_then _ (over_gives (PoppedQ ℕ) Q (then_some (pop o (take_gift h)) (taken_as task_of)) _ (takes_as task_of (pop o (take_gift h)) (pops o (take_gift h) (taken h g))) (λ p u. u))

  par_ends : (p : Phase) (h : Hand) → Q h → Gives Q (par_end p h)
  par_ends (phase.GotPar a b) h g = g
  par_ends _ h g = tt

  new_name : (a b : ℕ) → a * 2 ^ 32 + (b + 1) ≡ 0 → ⊥
  new_name a b e = absurd (omega (arith, e))

  home_here : (a b c : ℕ) → a ≡ r.number → b ≡ r.started → c ≡ a * 2 ^ 32 + (b + 1) → home_of c ≡ r.number
  home_here a b c e h q = omega (arith, e, h, q, names)

  spawns : (servers : ℕ) (cs : WithRoom (ℕ × Bool)) (pc : ℕ) (h : Hand) → Q h → MakesBy (λ t. one (next_thread r == t)) (spawn servers cs pc h)
  spawns servers cs pc h g =
      done_then makes _ _ (over_gives (λ z. Makes makes (go_on z)) (Makes makes) (then_some (capture false cs.items h.thread.slots) (spawn_with servers pc u h)) go_on
      (then_gives (λ z. Makes makes (go_on z)) (capture false cs.items h.thread.slots) _ (λ new q.
      over_gives (λ h2. h2 ≡ noted) (λ z. Makes makes (go_on z)) (begun h) _ (test_gives (λ h2. h2 ≡ noted) (can_begin h.work.rest.tasks u) _ (λ z. refl)) (λ h2 same. started new h2 same))) (λ z k. k))
    where
      u : ℕ
      u = next_thread h.work.rest

      makes : ℕ → ℕ
      makes = λ t. one (next_thread r == t)

      noted : Hand
      noted = working (with_tasks (begin h.work.rest.tasks u)) h

      started : (new : List Value × List Value) (h2 : Hand) → h2 ≡ noted → Makes makes (go_on (push_temp (value.Own (owned.Task u)) (working (start_thread servers pc new.0) (with_slots new.1 h2))))
      started new h2 same =
          let x = new_thread u pc new.0 in
          let s = server_for servers h.work.rest in
          let n = task_things r.number 0 (record { thread = u; state = going }) in
          let m = message_things s (message.Start x) in
          let y2 : ThreadState = record h.thread { pc = h.thread.pc + 1; slots = new.1; temps = h.thread.temps ++ value.Own (owned.Task u) ∷ []; phase = phase.Ready } in
          let says = g.says in
          let home = home_here h.work.rest.number h.work.rest.started u says.same g.begun refl in
          let named : next_thread r ≡ u = ap₂ (λ a b. a * 2 ^ 32 + (b + 1)) (sym says.same) (sym g.begun) in
          let makes_one : (t : ℕ) → 0 + one (u == t) ≡ makes t = λ t. let same : one (next_thread r == t) ≡ one (u == t) = ap (λ a. one (a == t)) named in omega (arith, same) in
          let light : Fair (record { code = code; made = makes; spent = zeros }) [] ((g.news ++ n) ++ m) = subst (Fair (record { code = code; made = makes; spent = zeros }) []) (sym (append_assoc g.news n m))
          (fair_sum code makes zeros zeros zeros (λ t. one (u == t)) zeros makes_one (λ t. refl) [] g.news [] (n ++ m) g.light (fair_starts r.number s x refl refl (new_name h.work.rest.number h.work.rest.started) home)) in
          subst (λ z. Makes makes (go_on (push_temp (value.Own (owned.Task u)) (working (start_thread servers pc new.0) (with_slots new.1 z))))) (sym same) (record {
            named = g.named;
            news = (g.news ++ n) ++ m;
            says = says_sent r (record h.work.rest { tasks = h.work.rest.tasks ++ record { thread = u; state = going } ∷ []; started = h.work.rest.started + 1 }) (g.news ++ n) s (message.Start x) (noted_more r g.news (record { thread = u; state = going }) h.work.rest g.says);
            fair = fair_sum code makes (λ t. holds_result code t y) zeros (λ t. holds_result code t y) makes zeros (λ t. omega arith) (λ t. omega arith) (stands r.number false y ∷ []) (stands r.number false y2 ∷ []) [] ((g.news ++ n) ++ m) (fair_calm r.number y y2 g.named g.given calm (record { steps = refl; got = λ t. refl })) light;
          })

  pars : (servers : ℕ) (cs : WithRoom (ℕ × Bool)) (pc : ℕ) (ds : WithRoom (ℕ × Bool)) (other : ℕ) (h : Hand) → Q h → ThenBy (par servers cs pc ds other h)
  pars servers cs pc ds other h g =
      done_then zeros _ _ (then_gives Then (capture true cs.items h.thread.slots) _ (λ first p. then_gives Then (capture true ds.items first.1) _ (λ second q.
      over_gives (λ h2. h2 ≡ both) Then (pair_begun h a (a + 1)) _ (test_gives (λ h2. h2 ≡ both) (can_begin_pair h.work.rest.tasks h.thread.number a (a + 1)) _ (λ z. refl)) (λ h2 same. started first.0 second h2 same))))
    where
      a : ℕ
      a = next_thread h.work.rest

      both : Hand
      both = working (with_tasks (begin_pair h.work.rest.tasks h.thread.number a (a + 1))) h

      started : (first : List Value) (second : List Value × List Value) (h2 : Hand) → h2 ≡ both
          → Then (with_phase (phase.WaitPar a (a + 1)) (go_on (working (λ w. start_thread servers other second.0 (start_thread servers pc first w)) (with_slots second.1 h2))))
      started first second h2 same =
          let state = in_pair h.thread.number false in
          let rest = h.work.rest in
          let noted : Rest = record rest { tasks = (rest.tasks ++ record { thread = a; state = state } ∷ []) ++ record { thread = a + 1; state = state } ∷ [] } in
          let u = new_thread a pc first in
          let s = server_for servers rest in
          let counted : Rest = record noted { started = rest.started + 1 } in
          let r1 : Rest = sent_from counted s (message.Start u) in
          let v = new_thread (next_thread r1) other second.0 in
          let s2 = server_for servers r1 in
          let next : next_thread r1 ≡ a + 1 = omega (arith, sent_number counted s (message.Start u), sent_started counted s (message.Start u)) in
          let y2 : ThreadState = record h.thread { pc = h.thread.pc + 1; slots = second.1; phase = phase.WaitPar a (a + 1) } in
          let n1 = task_things r.number 0 (record { thread = a; state = state }) in
          let n2 = task_things r.number 0 (record { thread = a + 1; state = state }) in
          let m1 = message_things s (message.Start u) in
          let m2 = message_things s2 (message.Start v) in
          let notes = noted_more r (g.news ++ n1) (record { thread = a + 1; state = state }) (record rest { tasks = rest.tasks ++ record { thread = a; state = state } ∷ [] }) (noted_more r g.news (record { thread = a; state = state }) rest g.says) in
          let first_sent = says_sent r counted ((g.news ++ n1) ++ n2) s (message.Start u) notes in
          let says = g.says in
          let home = home_here rest.number rest.started a says.same g.begun refl in
          let home2 : home_of (next_thread r1) ≡ r.number = omega (arith, next, says.same, g.begun, names) in
          let fair = fair_pair r.number s s2 y y2 u v g.named g.given refl refl calm (ap (λ i. phase.WaitPar a i) (sym next)) refl refl (new_name rest.number rest.started) (λ e. absurd (omega (arith, e, next))) home home2 in
          let fair2 : Fair (pays code y zeros) (stands r.number false y ∷ []) (stands r.number false y2 ∷ (n1 ++ n2 ++ m1 ++ m2)) = subst (λ i. Fair (pays code y zeros) (stands r.number false y ∷ []) (stands r.number false y2 ∷ (n1 ++ task_things r.number 0 (record { thread = i; state = state }) ++ m1 ++ m2))) next fair in
          subst (λ z. Then (with_phase (phase.WaitPar a (a + 1)) (go_on (working (λ w. start_thread servers other second.0 (start_thread servers pc first w)) (with_slots second.1 z))))) (sym same) (record {
            named = g.named;
            news = (((g.news ++ n1) ++ n2) ++ m1) ++ m2;
            says = says_sent r (record r1 { started = r1.started + 1 }) (((g.news ++ n1) ++ n2) ++ m1) s2 (message.Start v) first_sent;
            fair = fair_same (stands r.number false y ∷ []) (stands r.number false y2 ∷ (g.news ++ (n1 ++ n2 ++ m1 ++ m2))) (stands r.number false y2 ∷ ((((g.news ++ n1) ++ n2) ++ m1) ++ m2))
                (λ f. omega (
                  arith,
                  tot-append f g.news (n1 ++ n2 ++ m1 ++ m2),
                  tot-append f (n1 ++ n2 ++ m1) m2,
                  tot-append f (n1 ++ n2) m1,
                  tot-append f n1 n2,
                  tot-append f (((g.news ++ n1) ++ n2) ++ m1) m2,
                  tot-append f ((g.news ++ n1) ++ n2) m1,
                  tot-append f (g.news ++ n1) n2,
                  tot-append f g.news n1,
                )) (fair_beside (stands r.number false y ∷ []) (stands r.number false y2 ∷ []) g.news (n1 ++ n2 ++ m1 ++ m2) g.light fair2);
          })

  -- ENDS

  ends_with : (main : Bool) (v : Owned) (h : Hand) → (h.thread.number == 0) ≡ main → Q h → Gives (λ h2. Then (with_phase phase.Over h2)) (end_with main v h)
  ends_with true v h q g =
      let u = gives v (label_dropped (value.Own v) h) g in
      let y2 = record h.thread { phase = phase.Over } in record {
        named = u.named;
        news = u.news;
        says = u.says;
        fair = fair_both (stands r.number false y ∷ []) (stands r.number false y2 ∷ []) [] u.news (fair_main_ends r.number y y2 u.named u.given calm refl (ap (λ i. i == 0) (sym u.named) ∙ q)) u.light;
      }
  ends_with false v h q g =
      let y2 = record h.thread { phase = phase.Over } in
      let m = message.Finished h.thread.number v in record {
        named = g.named;
        news = g.news ++ message_things h.thread.home m;
        says = says_sent r h.work.rest g.news h.thread.home m g.says;
        fair = fair_beside (stands r.number false y ∷ []) (stands r.number false y2 ∷ []) g.news (message_things h.thread.home m) g.light (fair_ends r.number h.thread.home y y2 v g.named g.given calm refl (ap (λ i. i == 0) (sym g.named) ∙ q));
      }

  ends : (o : Operand) (h : Hand) → Q h → ThenBy (end_thread o h)
  ends o h g =
      done_then zeros _ _ (over_gives (λ h2. Then (with_phase phase.Over h2)) Then (then_some (pop_owned o h) (λ p. end_with (h.thread.number == 0) p.item p.hand)) (with_phase phase.Over)
      (bind_gives (λ (p : Popped Owned). (p.hand.thread.number ≡ h.thread.number) × Q p.hand) (λ h2. Then (with_phase phase.Over h2)) (pop_owned o h) _ same_thread
      (λ p u. ends_with (h.thread.number == 0) p.item p.hand (ap (λ i. i == 0) u.0) u.1)) (λ h2 u. u))
    where
      Same : (X : Type 0) → Popped X → Type 0
      Same X p = (p.hand.thread.number ≡ h.thread.number) × Q p.hand

      top : (o : Operand) → Gives (Same Value) (pop o h)
      top (operand.Const n) = (refl, g)
      top operand.Unit = (refl, g)
      top operand.Pop = map_gives (Same Value) (last_of h.thread.temps) _ (λ v q. (refl, g))

      same_thread : Gives (Same Owned) (pop_owned o h)
      same_thread = bind_gives (Same Value) (Same Owned) (pop o h) (taken_as owned_of) (top o) (λ p u. map_gives (Same Owned) (owned_of p.item) _ (λ x e. u))

  -- ALL INSTRUCTIONS

  commits : (servers : ℕ) (i : Instr) (s : Spot) (h : Hand) → GiftFits i y.gift → P h → MakesBy (made_by i (next_thread r)) (commit servers i s h)
  commits n (instr.Let o) s h f g = goes_then _ (over_gives (PoppedQ Value) Q (pop o h) _ (pops o h (bare h f g)) (λ p u. u))
  commits n (instr.Assign w o) s h f g = goes_then _ (assigns w w.depth o s h (bare h f g))
  commits n (instr.Read w take) s h f g = goes_then _ (then_gives Q (value_at h s) _ (λ v q. reads_as take s v (load_at s h) (bare h f g)))
  commits n (instr.Borrow w) s h f g = goes_then _ (borrows w w.depth s h (bare h f g))
  commits n (instr.BorrowMut w) s h f g = goes_then _ (lends w w.depth s h (bare h f g))
  commits n (instr.Box o) s h f g = goes_then _ (boxes_up o h (bare h f g))
  commits n (instr.Arith op a b) s h f g = goes_then _ (calculates op a b h (bare h f g))
  commits n (instr.Print o) s h f g = goes_then _ (prints o h (bare h f g))
  commits n instr.Discard s h f g = goes_then _ (discards s h (bare h f g))
  commits n instr.DropSlot s h f g = goes_then _ (drops_slot s h (bare h f g))
  commits n (instr.Spawn cs pc) s h f g = spawns n cs pc h (bare h f g)
  commits n (instr.Join o) s h f g = joins o h.thread.gift h refl g
  commits n (instr.Mutex o) s h f g = makes_mutex o h (bare h f g)
  commits n (instr.Dup w) s h f g = dups s h.thread.gift h refl g
  commits n (instr.Lock w) s h f g = locks s h.thread.gift h refl g
  commits n instr.Unlock s h f g = goes_then _ (unlocks h (bare h f g))
  commits n (instr.Par cs pc ds other) s h f g = pars n cs pc ds other h (bare h f g)
  commits n instr.ParEnd s h f g = goes_then _ (par_ends h.thread.phase h (bare h f g))
  commits n (instr.End o) s h f g = ends o h (bare h f g)

  -- A WHOLE STEP

  module _ (made : ℕ → ℕ) where
    abbrev ThenStep : Stepped → Type 0
    ThenStep d = Makes made d.hand

    settles : (h : Hand) → Makes made h → Gives (Makes made) (settle h)
    settles h g = map_gives (Makes made) (unpin_all h.thread.walk h.work.rest.cache) _ (λ cs q. record {
      named = g.named;
      news = g.news;
      says = g.says;
      fair = fair_thread (stands r.number false y ∷ []) r.number h.thread (record h.thread { passed = 0; walk = []; moved_since_step = false }) g.news (record { number = refl; phase = refl; gift = refl; pc = refl; temps = refl }) g.fair;
    })

    commit_then : (c : Committed) → MakesBy made c → Gives ThenStep (committed c)
    commit_then (done names h) g = over_gives (Makes made) ThenStep (settle h) (done_step names) (settles h g) (λ h2 u. u)
    commit_then (waits h) g = record { named = g.named; news = g.news; says = g.says; fair = g.fair }
    commit_then refused g = tt

  module _ (ss : List Server) where
    -- the place is ready, or the request leaves what is wanted
    abbrev FineStep : (ℕ → ℕ) → Prepared → Type 0
    FineStep made (ready h s) = P h
    FineStep made (requested h) = Makes made h
    FineStep made nothing = ⊤

    as_fine : (none : NoJoin code y) (p : Prepared) → Fine ss (quiet code (IsGift y) y r) (quiet_asks code y r calm none ss) p → FineStep zeros p
    as_fine none (ready h s) g = g.1
    as_fine none (requested h) g = g
    as_fine none nothing g = tt

    prepared_then : (servers : ℕ) (i : Instr) (p : Prepared) → GiftFits i y.gift → FineStep (made_by i (next_thread r)) p → Gives (ThenStep (made_by i (next_thread r))) (prepared servers i p)
    prepared_then servers i (ready h s) f g = commit_then (made_by i (next_thread r)) (commit servers i s h) (commits servers i s h f g)
    prepared_then servers i (requested h) f g = record { named = g.named; news = g.news; says = g.says; fair = g.fair }
    prepared_then servers i nothing f g = tt

    fine_step : (i : Instr) (h : Hand) → Unjoined code y i → Ok ss (quiet code (IsGift y) y r) h → FineStep (made_by i (next_thread r)) (prepare (access_of i h.thread) h)
    fine_step (instr.Join o) h none g = g.1
    fine_step (instr.Spawn cs pc) h none g = g.1
    fine_step i h none g = as_fine none (prepare (access_of i h.thread) h) (prepare_fine ss (quiet code (IsGift y) y r) (quiet_asks code y r calm none ss) (access_of i h.thread) h g)

    pub step_then : (servers : ℕ) (i : Instr) (h : Hand) → GiftFits i y.gift → Unjoined code y i → Ok ss (quiet code (IsGift y) y r) h → Gives (ThenStep (made_by i (next_thread r))) (step servers i h)
    step_then servers i h f none g = prepared_then servers i (prepare (access_of i h.thread) h) f (fine_step i h none g)
