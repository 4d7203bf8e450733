-- A delivery, an eviction and a migration leave the contents and homes of a server balanced.
use Rattle.std.proofs.Common.{◌≡◌, ℕ, zero, suc, ◌+◌, ◌-◌, ◌==◌, Bool, true, false, nat_lt, if◌then◌else◌, List, [], ◌∷◌, ◌++◌, Option, Some, None, refl, ap, ◌∙◌, arith}
use Rattle.std.specs.Prelude.{slice_get, remove, option_map}
use Rattle.law_counts_waiting.specs.Below.fr_base.Lists.{is_in}
use Rattle.law_counts_waiting.specs.Below.fr_base.declared.name.MutexNo.{MutexNo}
use Rattle.law_counts_waiting.specs.Below.fr_base.declared.place.Lval.{Lval}
use Rattle.law_counts_waiting.specs.Below.fr_base.declared.instruction.Instr.{Instr}
use Rattle.law_counts_waiting.specs.Below.fr_base.declared.settings.Options.{Options}
use Rattle.law_counts_waiting.specs.Below.heap_partition.declared.value.Cell.{Cell}
use Rattle.law_counts_waiting.specs.Below.heap_partition.declared.value.Owned.{Owned}
use Rattle.law_counts_waiting.specs.Below.heap_partition.declared.value.Owned.TheVariants as owned
use Rattle.law_counts_waiting.specs.Below.read_cache.Cache.{Copy, can_pin, can_fill, can_evict}
use Rattle.law_counts_waiting.specs.Below.migration.Packing.{unpin_all, used_words, packed}
use Rattle.law_counts_waiting.specs.Below.join_home.Tasks.{Task, ended}
use Rattle.law_counts_waiting.specs.Below.join_home.declared.answers.EndedAs.{EndedAs}
use Rattle.law_counts_waiting.specs.Below.join_home.declared.answers.EndedAs.TheVariants as over
use Rattle.law_counts_waiting.specs.Below.thread_state.View.{ThreadState}
use Rattle.law_counts_waiting.specs.Below.thread_state.declared.phase.Phase.{Phase}
use Rattle.law_counts_waiting.specs.Below.thread_state.declared.phase.Phase.TheVariants as phase
use Rattle.law_counts_waiting.specs.Below.thread_state.declared.value.Value.{Value}
use Rattle.law_counts_waiting.specs.Below.thread_state.declared.value.Value.TheVariants as value
use Rattle.law_counts_waiting.specs.Below.server_msgs.declared.message.Message.{Message}
use Rattle.law_counts_waiting.specs.Below.server_msgs.declared.message.Message.TheVariants as message
use Rattle.law_counts_waiting.specs.Below.journal.View.{EntryView}
use Rattle.law_counts_waiting.specs.Below.journal.declared.act.Act.TheVariants as act
use Rattle.law_counts_waiting.specs.Below.server_model.declared.event.What.TheVariants.{Deliver, Evict, Migrate}
use Rattle.law_counts_waiting.specs.Below.server_model.Servers.{Rest, Server}
use Rattle.law_counts_waiting.specs.Below.server_model.Work.{Work, Hand, Site, note, working, sent_from, receive, with_phase, with_tasks, then_some, put_back, thread_in, set_thread, without_thread, with_thread, at_thread, beside_threads, used_once}
use Rattle.law_counts_waiting.specs.Below.server_model.NewWords.{NewWord, can_grow, issue_placed}
use Rattle.law_counts_waiting.specs.Below.server_model.Places.{Spot, in_slot, value_at, set_pointer}
use Rattle.law_counts_waiting.specs.Below.server_model.Moving.{migrate, depart}
use Rattle.law_counts_waiting.specs.Below.server_model.Prepare.{Access, ReadTo, ReadPointer, WriteTo, LendTo, EndRef, passing, write_stars}
use Rattle.law_counts_waiting.specs.Below.server_model.Objects.{deliver_fetch, waits_for_cell, filled, deliver_fetched, deliver_move, chased, waits_under, arrived_at, arrived_slot, passed_spot, arrived_write, arrived_lend, arrived_end, arrived, instr_access, deliver_moved, deliver_drop}
use Rattle.law_counts_waiting.specs.Below.server_model.Sharing.{given, deliver_lock, waits_for_lock, deliver_granted, deliver_unlock, deliver_dup, waits_for_dup, deliver_dupped}
use Rattle.law_counts_waiting.specs.Below.server_model.Joining.{arrive, deliver_join, waits_for_join, deliver_joined, got_par, pair_over, end_answer, deliver_finished}
use Rattle.law_counts_waiting.specs.Below.server_model.Events.{begin_work, begin_at, left_by, received, release, deliver_message, evict_copy, does}
use Rattle.law_counts_waiting.specs.Below.coherent_memory.Names.{tot}
use Rattle.law_counts_waiting.specs.Below.law_counts_sums.Laws.{Gives}
use Rattle.law_counts_waiting.proofs.Below.law_counts_sums.Results.{then_gives, map_gives, over_gives, bind_gives, both_give, test_gives, stand_gives, weaker}
use Rattle.law_counts_waiting.proofs.Below.law_counts_sums.Bags.{thread_number}
use Rattle.law_counts_waiting.proofs.Below.law_counts_sums.KnownPlaces.{Told, pointer_keeps}
use Rattle.law_counts_waiting.proofs.Below.law_heap_still.events.Readied.{Readied, Kept, set_ready}
use Rattle.law_counts_waiting.proofs.contents.Weigh.{mark, mail, weight_of, body}
use Rattle.law_counts_waiting.proofs.contents.Mutexes.{homes}
use Rattle.law_counts_waiting.proofs.contents.Rests.{Balance, RestBalance, WorkBalance, says, says_none, gives_up, fetches, moves, drops, locks, unlocks, dups, releases, joins}
use Rattle.law_counts_waiting.proofs.contents.Marks.{unpinned_marks}
use Rattle.law_counts_waiting.proofs.contents.Slots.{ready_held}

-- LISTS OF THREADS

module _ (f : ThreadState → ℕ) where
  -- another state of a thread stands where it stood
  pub set_threads : (xs : List ThreadState) (t : ℕ) (y new : ThreadState) → thread_in xs t ≡ Some y → new.number ≡ t → tot f (set_thread xs new) + f y ≡ tot f xs + f new
  set_threads [] t y new e q = absurd (cc e)
  set_threads (x ∷ xs) t y new e q = by (x.number == t) (ap (λ i. x.number == i) q) e (set_threads xs t y new)
    where
      by : (b : Bool) → (x.number == new.number) ≡ b → (if b then Some x else thread_in xs t) ≡ Some y → (thread_in xs t ≡ Some y → new.number ≡ t → tot f (set_thread xs new) + f y ≡ tot f xs + f new)
          → tot f (set_thread (x ∷ xs) new) + f y ≡ f x + tot f xs + f new
      by true g h go = let same : x ≡ y = cc in let weighs : f x ≡ f y = ap f same in rw g (omega (arith, weighs))
      by false g h go = rw g (omega (arith, go h q))

  -- a thread goes
  without_threads : (xs : List ThreadState) (t : ℕ) (y : ThreadState) → thread_in xs t ≡ Some y → tot f (without_thread xs t) + f y ≡ tot f xs
  without_threads [] t y e = absurd (cc e)
  without_threads (x ∷ xs) t y e = by (x.number == t) e (without_threads xs t y)
    where
      by : (b : Bool) → (if b then Some x else thread_in xs t) ≡ Some y → (thread_in xs t ≡ Some y → tot f (without_thread xs t) + f y ≡ tot f xs) → tot f (if b then xs else x ∷ without_thread xs t) + f y ≡ f x + tot f xs
      by true h go = let same : x ≡ y = cc in let weighs : f x ≡ f y = ap f same in omega (arith, weighs)
      by false h go = omega (arith, go h)

  -- a thread comes
  with_threads : (xs : List ThreadState) (p : ThreadState) → tot f (with_thread xs p) ≡ f p + tot f xs
  with_threads [] p = refl
  with_threads (x ∷ xs) p = by (nat_lt p.number x.number) (with_threads xs p)
    where
      by : (b : Bool) → tot f (with_thread xs p) ≡ f p + tot f xs → tot f (if b then p ∷ x ∷ xs else x ∷ with_thread xs p) ≡ f p + (f x + tot f xs)
      by true rest = omega arith
      by false rest = omega (arith, rest)

-- a message is taken out
removed : (f : Message → ℕ) (xs : List Message) (i : ℕ) (m : Message) → slice_get xs i ≡ Some m → tot f xs ≡ f m + tot f (remove xs i)
removed f [] i m e = absurd (cc e)
removed f (x ∷ xs) zero m e = let same : x ≡ m = cc in let weighs : f x ≡ f m = ap f same in omega (arith, weighs)
removed f (x ∷ xs) (suc i) m e = omega (arith, removed f xs i m e)

-- WHAT GIFTS WEIGH

-- a gift is told by itself, the number of its thread and where that is in the code; a content is granted where it is asked for, and what a dup and a join give weighs nothing
pub record Gifts (c : MutexNo → ℕ) (s : Server) (g : ThreadState → ℕ) : Type 0 where
  pub same : (t t2 : ThreadState) → t2.gift ≡ t.gift → t2.pc ≡ t.pc → t2.number ≡ t.number → g t2 ≡ g t
  pub granted : (t : ℕ) (y : ThreadState) (m : MutexNo) (v : Owned) → thread_in s.threads t ≡ Some y → waits_for_lock y.phase m ≡ true → y.gift ≡ None → g (record y { gift = Some v; phase = phase.Got }) ≡ g y + c m
  pub dupped : (t : ℕ) (y : ThreadState) (m : MutexNo) (v : Owned) → thread_in s.threads t ≡ Some y → waits_for_dup y.phase m ≡ true → y.gift ≡ None → g (record y { gift = Some v; phase = phase.Got }) ≡ g y
  pub joined : (t : ℕ) (y : ThreadState) (u : ℕ) (v : Owned) → thread_in s.threads t ≡ Some y → waits_for_join y.phase u ≡ true → y.gift ≡ None → g (record y { gift = Some v; phase = phase.Got }) ≡ g y

module _ (c : MutexNo → ℕ) (s : Server) (g : ThreadState → ℕ) (gifts : Gifts c s g) where
  abbrev b : ThreadState → ℕ
  b = body c g

  abbrev h0 : ℕ
  h0 = homes c s.rest.mutexes

  -- all that a server weighs, and its homes
  abbrev pub Weighs : ℕ → List ThreadState → Rest → Type 0
  Weighs a ts r = weight_of c b r + tot b ts + h0 ≡ a + homes c r.mutexes

  -- as it did
  abbrev pub Then : Server × EntryView → Type 0
  Then r = Weighs (weight_of c b s.rest + tot b s.threads) r.0.threads r.0.rest

  -- a hand that is ready weighs what it did
  pub ready_body : (h h2 : Hand) → Readied h h2 → b h2.thread ≡ b h.thread
  ready_body h h2 r =
      let gift = gifts.same h.thread h2.thread (ap (λ (t : ThreadState). t.gift) r.thread) (ap (λ (t : ThreadState). t.pc) r.thread) (ap (λ (t : ThreadState). t.number) r.thread) in
      omega (arith, gift, ready_held c h h2 r)

  -- THE THREAD OF AN ANSWER

  module _ (a : ℕ) where
    -- the hand of thread y, which weighs so much more
    abbrev HandThen : ThreadState → ℕ → Hand → Type 0
    HandThen y e h = RestBalance c b a h0 h.work.rest × (b h.thread ≡ b y + e) × (h.thread.number ≡ y.number)

    abbrev told : Told
    told p t x pc n i o ms ts d = Balance c b a h0 i o ms

    module _ (y : ThreadState) where
      abbrev Good : Hand → Type 0
      Good = HandThen y 0

      -- a pointer gets another word
      pointer : (sp : Spot) (w : ℕ) (h : Hand) → Good h → Gives Good (set_pointer sp w h)
      pointer sp w h u =
          both_give (λ (h2 : Hand). RestBalance c b a h0 h2.work.rest) (Kept h) Good (set_pointer sp w h) (pointer_keeps told sp w h u.0) (set_ready sp w h)
          (λ h2 x k. (x, omega (arith, ready_body h h2 k.0, u.1), ap (λ (t : ThreadState). t.number) (thread_of k.0) ∙ u.2))
        where
          thread_of : {h2 : Hand} (r : Readied h h2) → h2.thread ≡ record h.thread { slots = r.slots; temps = r.temps; walk = r.walk; passed = r.passed }
          thread_of r = r.thread

      -- a thread with the same slots and gift, at the same place in the code
      again : (t2 t : ThreadState) → t2.slots ≡ t.slots → t2.gift ≡ t.gift → t2.pc ≡ t.pc → t2.number ≡ t.number → b t2 ≡ b t
      again t2 t slots gift pc number = omega (arith, ap (tot (mark c)) slots, gifts.same t t2 gift pc number)

      -- a copy is used
      uses_it : (v : ℕ) (q : Bool) (h : Hand) → Good h → Gives Good (used_once v q h)
      uses_it v true h u = u
      uses_it v false h u = test_gives Good (can_pin h.work.rest.cache v) _ (λ z. (u.0, omega (arith, again (record h.thread { walk = h.thread.walk ++ v ∷ [] }) h.thread refl refl refl refl, u.1), u.2))

      -- its phase doesn't matter
      phased : (p : Phase) (h : Hand) → Good h → Good (with_phase p h)
      phased p h u = (u.0, omega (arith, again (record h.thread { phase = p }) h.thread refl refl refl refl, u.1), u.2)

      -- a copy comes
      fills : (v : ℕ) (d : Cell) (h : Hand) → Good h → Gives Good (deliver_fetched v d h)
      fills v d h u =
          test_gives Good (waits_for_cell h.thread.phase v) _ (λ z. over_gives Good Good (filled v d h) _
          (test_gives Good (can_fill h.work.rest.cache v d) _ (λ p. uses_it v (is_in v h.thread.walk) _ (u.0, u.1, u.2))) (λ h2 x. phased phase.Got (working (note (act.Fill d.object v)) h2) (x.0, x.1, x.2)))

      -- an object comes for the pointer at a spot
      comes_at : (new : ℕ) (sp : Spot) (h : Hand) → Good h → Gives Good (arrived_at sp new h)
      comes_at new sp h u = over_gives Good Good (set_pointer sp new h) _ (pointer sp new h u) (λ h2 x. phased phase.Got h2 x)

      -- for the one in a slot
      comes_slot : (old new i : ℕ) (h : Hand) → Good h → Gives Good (arrived_slot old new i h)
      comes_slot old new i h u = test_gives Good (waits_under old (slice_get h.thread.slots i)) _ (λ z. comes_at new (in_slot i) h u)

      -- for a hop of a write
      comes_write : (w : Lval) (new : ℕ) (h : Hand) → Good h → Gives Good (arrived_write w new h)
      comes_write w new h u =
          then_gives Good (passed_spot (write_stars h.thread.passed 0 h (in_slot w.slot))) _ (λ sp q.
          comes_at new sp (passing (h.thread.passed + 1) h) (u.0, omega (arith, again (record h.thread { passed = h.thread.passed + 1 }) h.thread refl refl refl refl, u.1), u.2))

      -- for a mutable borrow
      comes_lend : (slot d old new : ℕ) (h : Hand) → Good h → Gives Good (arrived_lend slot d old new h)
      comes_lend slot zero old new h u = tt
      comes_lend slot (suc zero) old new h u = phased (phase.Taken new) h u
      comes_lend slot (suc (suc d)) old new h u = by (waits_under old (slice_get h.thread.slots (chased d h.thread.slots slot)))
        where
          by : (q : Bool) → Gives Good (if q then arrived_at (in_slot (chased d h.thread.slots slot)) new h else Some (with_phase (phase.Taken new) h))
          by true = comes_at new (in_slot (chased d h.thread.slots slot)) h u
          by false = phased (phase.Taken new) h u

      -- for the end of a reference
      comes_end : (sp : Spot) (v : Option Value) (old new : ℕ) (h : Hand) → Good h → Gives Good (arrived_end sp v old new h)
      comes_end sp (Some (value.Mut r)) old new h u = by (r.word == old)
        where
          by : (q : Bool) → Gives Good (if q then arrived_at sp new h else arrived_write r.holder new h)
          by true = comes_at new sp h u
          by false = comes_write r.holder new h u
      comes_end sp _ old new h u = tt

      -- for whatever the instruction follows
      comes_for : (x : Option Access) (old new : ℕ) (h : Hand) → Good h → Gives Good (arrived x old new h)
      comes_for None old new h u = tt
      comes_for (Some (ReadTo w)) old new h u = comes_slot old new (chased (w.depth - 1) h.thread.slots w.slot) h u
      comes_for (Some (ReadPointer w)) old new h u = comes_slot old new (chased (w.depth - 1) h.thread.slots w.slot) h u
      comes_for (Some (WriteTo w)) old new h u = comes_write w new h u
      comes_for (Some (LendTo w)) old new h u = comes_lend w.slot w.depth old new h u
      comes_for (Some (EndRef sp)) old new h u = comes_end sp (value_at h sp) old new h u

      -- an object comes
      comes : (code : List Instr) (old : ℕ) (d : Cell) (h : Hand) → Good h → Gives Good (deliver_moved code old d h)
      comes code old d h u =
          test_gives Good (waits_for_cell h.thread.phase old) _ (λ z. bind_gives (λ (m : NewWord). WorkBalance c b a h0 m.work) Good (issue_placed (act.Take d.object old) d h.work) _
          (test_gives (λ (m : NewWord). WorkBalance c b a h0 m.work) (can_grow h.work.rest.partition) _ (λ p. u.0)) (λ m x. comes_for (instr_access h (slice_get code h.thread.pc)) old m.word (record h { work = m.work }) (x, u.1, u.2)))

      -- a gift comes to a thread without one
      gives_it : (e : ℕ) (v : Owned) (o : Option Owned) (w : Work) → y.gift ≡ o → (y.gift ≡ None → g (record y { gift = Some v; phase = phase.Got }) ≡ g y + e) → WorkBalance c b a h0 w → Gives (HandThen y e) (given v o (record { work = w; thread = y }))
      gives_it e v None w q weighs x = (x, omega (arith, weighs q), refl)
      gives_it e v (Some u) w q weighs x = tt

  -- AT THE SERVER

  -- what a message leaves, that weighed so much more or carried a thread
  abbrev Taken : ℕ → ℕ → Site → Type 0
  Taken a e x = Weighs (a + e + tot b s.threads) x.threads x.work.rest

  -- what touches no thread
  beside_it : (a e : ℕ) (f : Work → Option Work) (x : Site) → x.threads ≡ s.threads → Gives (WorkBalance c b (a + e) h0) (f x.work) → Gives (Taken a e) (beside_threads f x)
  beside_it a e f x same u =
      over_gives (WorkBalance c b (a + e) h0) (Taken a e) (f x.work) (λ w. record x { work = w }) u (λ w z.
      let threads : tot b x.threads ≡ tot b s.threads = ap (tot b) same in omega (arith, z, threads))

  -- what touches one
  at_it : (a e t : ℕ) (f : Hand → Option Hand) (w : Work) → ((y : ThreadState) → thread_in s.threads t ≡ Some y → Gives (HandThen a y e) (f (record { work = w; thread = y }))) → Gives (Taken a e) (at_thread t f (record { work = w; threads = s.threads }))
  at_it a e t f w go = by (thread_in s.threads t) refl
    where
      by : (o : Option ThreadState) → thread_in s.threads t ≡ o → Gives (Taken a e) (then_some (option_map (λ y. record { work = w; thread = y }) o) (λ h. option_map (put_back s.threads) (f h)))
      by None q = tt
      by (Some y) q =
          over_gives (HandThen a y e) (Taken a e) (f (record { work = w; thread = y })) (put_back s.threads) (go y q) (λ h u.
          omega (arith, u.0, u.1, set_threads b s.threads t y h.thread q (u.2 ∙ thread_number s.threads t y q)))

  -- a content's messages weigh it, and a parcel its thread
  module _ (code : List Instr) (i : ℕ) where
    abbrev w0 : Work
    w0 = begin_work (receive s.rest i)

    abbrev a0 : ℕ
    a0 = weight_of c b (receive s.rest i)

    -- nothing is done yet
    start : WorkBalance c b a0 h0 w0
    start = refl

    abbrev Took : ℕ → Site → Type 0
    Took e x = Taken a0 e x

    -- a message that carries neither a content nor a thread
    plain : (f : Work → Option Work) → Gives (WorkBalance c b a0 h0) (f w0) → Gives (Took 0) (beside_threads f (received i s))
    plain f u = beside_it a0 0 f (received i s) refl (weaker (WorkBalance c b a0 h0) (WorkBalance c b (a0 + 0) h0) (f w0) u (λ w z. omega (arith, z)))

    -- a thread comes, with what its message weighed
    arrives : (p : ThreadState) → Gives (Took (b p)) (arrive p (received i s))
    arrives p = stand_gives (Took (b p)) (thread_in s.threads p.number) p (received i s) (omega (arith, with_threads b s.threads p))

    -- a thread has ended
    finishes : (u : ℕ) (v : Owned) → Gives (Took 0) (deliver_finished u v (received i s))
    finishes u v = then_gives (Took 0) (ended w0.rest.tasks u v) _ (λ p q. by p.0 p.1)
      where
        by : (ts : List Task) (e : EndedAs) → Gives (Took 0) (end_answer u e (record { work = with_tasks ts w0; threads = s.threads }))
        by ts (over.Answer t x v2) =
            let said : RestBalance c b a0 h0 (sent_from (record w0.rest { tasks = ts }) t (message.Joined u v2 x)) = says_none c b h0 a0 t (message.Joined u v2 x) (record w0.rest { tasks = ts }) refl start in
            omega (arith, said)
        by ts (over.Both parent) = at_it a0 0 parent (pair_over u) (with_tasks ts w0) (λ y q. map_gives (HandThen a0 y 0) (got_par u y.phase) _ (λ p z. phased a0 y p (record { work = with_tasks ts w0; thread = y }) (start, omega arith, refl)))
        by ts (over.LetGo v2) = let said = gives_up c b h0 a0 v2 (with_tasks ts w0) start in omega (arith, said)
        by ts over.Kept = omega arith

    -- whatever message
    taken : (m : Message) → Gives (Took (mail c b m)) (deliver_message code m (received i s))
    taken (message.Fetch w o r t) = plain (deliver_fetch w o r t) (fetches c b h0 a0 w o r t w0 start)
    taken (message.Fetched w d t) = at_it a0 0 t (deliver_fetched w d) w0 (λ y q. fills a0 y w d (record { work = w0; thread = y }) (start, omega arith, refl))
    taken (message.Move w o r t) = plain (deliver_move w o r t) (moves c b h0 a0 w o r t w0 start)
    taken (message.Moved w d t) = at_it a0 0 t (deliver_moved code w d) w0 (λ y q. comes a0 y code w d (record { work = w0; thread = y }) (start, omega arith, refl))
    taken (message.Drop w o) = plain (deliver_drop w o) (drops c b h0 a0 w o w0 start)
    taken (message.Lock m r t) = plain (deliver_lock m r t) (locks c b h0 a0 m r t w0 start)
    taken (message.Granted m v t) =
        at_it a0 (c m) t (deliver_granted m v) w0 (λ y q. test_gives (HandThen a0 y (c m)) (waits_for_lock y.phase m) _ (λ on. gives_it a0 y (c m) v y.gift w0 refl (λ bare. gifts.granted t y m v q on bare) start))
    taken (message.Unlock m v) = beside_it a0 (c m) (deliver_unlock m v) (received i s) refl (unlocks c b h0 a0 m v w0 start)
    taken (message.Dup m r t) = plain (deliver_dup m r t) (dups c b h0 a0 m r t w0 start)
    taken (message.Dupped m t) =
        at_it a0 0 t (deliver_dupped m) w0 (λ y q. test_gives (HandThen a0 y 0) (waits_for_dup y.phase m) _ (λ on. gives_it a0 y 0 (owned.Mutex m) y.gift w0 refl (λ bare. omega (arith, gifts.dupped t y m (owned.Mutex m) q on bare)) start))
    taken (message.Release r) = plain (release r) (releases c b h0 a0 r w0 start)
    taken (message.Start p) = arrives p
    taken (message.Join u r t) = plain (deliver_join u r t) (joins c b h0 a0 u r t w0 start)
    taken (message.Joined u v t) =
        at_it a0 0 t (deliver_joined u v) w0 (λ y q. test_gives (HandThen a0 y 0) (waits_for_join y.phase u) _ (λ on. gives_it a0 y 0 v y.gift w0 refl (λ bare. omega (arith, gifts.joined t y u v q on bare)) start))
    taken (message.Finished u v) = finishes u v
    taken (message.Migrate p) = arrives p

  -- EVENTS

  -- a delivery
  pub delivers : (code : List Instr) (o : Options) (i : ℕ) → Gives Then (does code o s (Deliver i))
  delivers code o i = by (slice_get s.rest.inbox i) refl
    where
      by : (m : Option Message) → slice_get s.rest.inbox i ≡ m → Gives Then (option_map (left_by s.events None None) (then_some m (λ x. deliver_message code x (received i s))))
      by None q = tt
      by (Some m) q =
          over_gives (Taken (weight_of c b (receive s.rest i)) (mail c b m)) Then (deliver_message code m (received i s)) (left_by s.events None None) (taken code i m) (λ x z. omega (arith, z, removed (mail c b) s.rest.inbox i m q))

  -- a copy goes
  pub evicts : (code : List Instr) (o : Options) (w : ℕ) → Gives Then (does code o s (Evict w))
  evicts code o w =
      over_gives (Taken (weight_of c b s.rest) 0) Then (beside_threads (evict_copy w) (begin_at s)) (left_by s.events None None)
      (beside_it (weight_of c b s.rest) 0 (evict_copy w) (begin_at s) refl (test_gives (WorkBalance c b (weight_of c b s.rest + 0) h0) (can_evict s.rest.cache w) _ (λ q. omega arith))) (λ x z. omega (arith, z))

  -- a thread leaves with what it has
  parcel : (y : ThreadState) → b (packed (record y { moved_since_step = true })) ≡ b y
  parcel y =
      let p = packed (record y { moved_since_step = true }) in
      omega (arith, unpinned_marks c y.slots, gifts.same y p refl refl refl)

  -- a thread leaves
  pub migrates : (code : List Instr) (o : Options) (t target : ℕ) → Gives Then (does code o s (Migrate t target))
  migrates code o t target =
      over_gives (λ (x : Site). Then (left_by s.events (Some t) None x)) Then (migrate t target (begin_at s)) (left_by s.events (Some t) None)
      (then_gives (λ (x : Site). Then (left_by s.events (Some t) None x)) (thread_in s.threads t) _ (λ y q. by y q (unpin_all (used_words y) s.rest.cache))) (λ x u. u)
    where
      by : (y : ThreadState) → thread_in s.threads t ≡ Some y → (l : Option (List Copy))
          → Gives (λ (x : Site). Then (left_by s.events (Some t) None x)) (option_map (λ p. record { work = depart target (begin_work s.rest) p; threads = without_thread s.threads t }) (option_map (λ left. (packed (record y { moved_since_step = true }), left)) l))
      by y q None = tt
      by y q (Some cs) =
          let p = packed (record y { moved_since_step = true }) in
          let said : RestBalance c b (weight_of c b s.rest + b p) h0 (sent_from (record s.rest { cache = cs }) target (message.Migrate p)) = says c b h0 (weight_of c b s.rest + b p) target (message.Migrate p) (record s.rest { cache = cs }) (omega arith) in
          omega (arith, said, parcel y, without_threads b s.threads t y q)
