-- What the delivery of each message but `finished` changes of what is heard, and that what goes and what comes weigh the same.
use Rattle.std.proofs.Common.{◌≡◌, ◌≤◌, ℕ, zero, suc, ◌+◌, ◌-◌, ◌^◌, ◌==◌, ◌&&◌, Bool, true, false, nat_lt, if◌then◌else◌, List, [], ◌∷◌, ◌++◌, Option, Some, None, refl, sym, ap, subst, append-nil, arith}
use Rattle.std.specs.Prelude.{slice_get, option_map, is_some}
use Rattle.coherent_memory.specs.Below.fr_base.Lists.{is_in}
use Rattle.coherent_memory.specs.Below.fr_base.declared.name.MutexNo.{MutexNo}
use Rattle.coherent_memory.specs.Below.fr_base.declared.name.ObjNo.{ObjNo}
use Rattle.coherent_memory.specs.Below.fr_base.declared.place.Lval.{Lval}
use Rattle.coherent_memory.specs.Below.fr_base.declared.instruction.Instr.{Instr}
use Rattle.coherent_memory.specs.Below.fr_base.declared.release.Released.TheVariants as released
use Rattle.coherent_memory.specs.Below.heap_partition.declared.value.Cell.{Cell}
use Rattle.coherent_memory.specs.Below.heap_partition.declared.value.Owned.{Owned}
use Rattle.coherent_memory.specs.Below.owner_box.Partition.{freed}
use Rattle.coherent_memory.specs.Below.read_cache.Cache.{can_fill, can_pin}
use Rattle.coherent_memory.specs.Below.mutex_home.Mutexes.{Mutex, Mutexes, mutex_in, put_mutex, end_mutex, asked_of, asked_in, back_to, back_out, back_in, more_in, more, last_less, less_of, less_in}
use Rattle.coherent_memory.specs.Below.mutex_home.declared.answers.Back.{Back}
use Rattle.coherent_memory.specs.Below.mutex_home.declared.answers.Back.TheVariants as back
use Rattle.coherent_memory.specs.Below.thread_state.View.{ThreadState}
use Rattle.coherent_memory.specs.Below.thread_state.declared.phase.Phase.{Phase}
use Rattle.coherent_memory.specs.Below.thread_state.declared.phase.Phase.TheVariants as phase
use Rattle.coherent_memory.specs.Below.thread_state.declared.value.Value.{Value}
use Rattle.coherent_memory.specs.Below.thread_state.declared.value.Value.TheVariants as value
use Rattle.coherent_memory.specs.Below.server_msgs.declared.message.Message.{Message}
use Rattle.coherent_memory.specs.Below.server_msgs.declared.message.Message.TheVariants as message
use Rattle.coherent_memory.specs.Below.journal.declared.act.Act.TheVariants as act
use Rattle.coherent_memory.specs.Below.server_model.Servers.{Rest, Server}
use Rattle.coherent_memory.specs.Below.server_model.Drop.{give_up}
use Rattle.coherent_memory.specs.Below.server_model.Work.{Work, Hand, Site, receive, sent_from, working, put_back, then_some, thread_in, at_thread, beside_threads, look_object, with_phase, with_mutexes, with_partition, note, used_once}
use Rattle.coherent_memory.specs.Below.server_model.NewWords.{NewWord, can_grow, issue_placed}
use Rattle.coherent_memory.specs.Below.server_model.Places.{Spot, in_slot, value_at, set_pointer}
use Rattle.coherent_memory.specs.Below.server_model.Prepare.{Access, ReadTo, ReadPointer, WriteTo, LendTo, EndRef, passing, write_stars}
use Rattle.coherent_memory.specs.Below.server_model.Objects.{deliver_fetch, waits_for_cell, filled, deliver_fetched, deliver_move, chased, waits_under, arrived_at, arrived_slot, passed_spot, arrived_write, arrived_lend, arrived_end, arrived, instr_access, deliver_moved, deliver_drop}
use Rattle.coherent_memory.specs.Below.server_model.Sharing.{given, answer_lock, deliver_lock, answer_back, deliver_unlock, deliver_dup, give_up_left, release_mutex}
use Rattle.coherent_memory.specs.Below.server_model.Events.{can_step, begin_work, received}
use Rattle.coherent_memory.specs.Names.{tot}
use Rattle.coherent_memory.specs.Sharing.{joined_of, got_phase}
use Rattle.coherent_memory.specs.Things.{Thing, stands, queued, things_at, queue_things, message_things}
use Rattle.law_counts_sums.specs.Laws.{Gives}
use Rattle.law_counts_sums.proofs.Results.{then_gives, map_gives, over_gives, bind_gives, test_gives}
use Rattle.law_counts_sums.proofs.Trades.{tot-push, tot-front}
use Rattle.law_counts_sums.proofs.Bags.{thread_number}
use Rattle.law_counts_sums.proofs.Held.{holds_result, bare_held}
use Rattle.law_counts_sums.proofs.Fair.{Dues, even, Fair, Calmly, fair_both}
use Rattle.law_counts_sums.proofs.FairGets.{Awaits, Answers, awaits_cell, fair_gets}
use Rattle.law_counts_sums.proofs.KnownPlaces.{pointer_keeps}
use Rattle.law_counts_sums.proofs.Quiet.{Quiet, quiet, IsGift, NoGift, quiet_gift, quiet_start}
use Rattle.law_counts_sums.proofs.Turns.{Turns}
use Rattle.law_counts_sums.proofs.Changes.{ChangeOf, change_none, change_said, change_sent, gives_change, change_mutex, change_end, RestTurns, rest_turns, ThreadTurns, thread_turns}

module _ (dues : Dues) (s : Server) (i : ℕ) (m : Message) (q : slice_get s.rest.inbox i ≡ Some m) where
  abbrev n : ℕ
  n = s.rest.number

  abbrev r : Rest
  r = receive s.rest i

  abbrev start : Work
  start = begin_work r

  abbrev pub SiteTurns : Site → Type 0
  SiteTurns x = Turns dues s (record { rest = x.work.rest; threads = x.threads; events = s.events + 1 })

  abbrev Good : Work → Type 0
  Good w = RestTurns dues s i m q w.rest

  pub beside : (f : Work → Option Work) → Gives Good (f start) → Gives SiteTurns (beside_threads f (received i s))
  beside f g = over_gives Good SiteTurns (f start) (λ w. record { work = w; threads = s.threads }) g (λ w u. rest_turns dues s i m q w.rest u)

  pub at : (w : Work) (t : ℕ) (f : Hand → Option Hand)
      → ((y : ThreadState) (here : thread_in s.threads t ≡ Some y) → Gives (λ (h : Hand). ThreadTurns dues s i m q t y here h.work.rest h.thread) (f (record { work = w; thread = y })))
      → Gives SiteTurns (at_thread t f (record { work = w; threads = s.threads }))
  at w t f go = by (thread_in s.threads t) refl
    where
      by : (o : Option ThreadState) → thread_in s.threads t ≡ o → Gives SiteTurns (then_some (option_map (λ y. record { work = w; thread = y }) o) (λ h. option_map (put_back s.threads) (f h)))
      by None e = tt
      by (Some y) e = over_gives (λ (h : Hand). ThreadTurns dues s i m q t y e h.work.rest h.thread) SiteTurns (f (record { work = w; thread = y })) (put_back s.threads) (go y e) (λ h u. thread_turns dues s i m q t y e h.work.rest h.thread u)

  -- an answer for the message
  pub replies : (a : ℕ) (m2 : Message) (r2 : Rest) → ChangeOf r [] [] r2 → Fair dues (message_things n m ++ []) (message_things a m2) → RestTurns dues s i m q (sent_from r2 a m2)
  replies a m2 r2 c fair = record { gone = []; news = message_things a m2; change = change_sent r r2 [] [] a m2 c; fair = fair }

  -- a value is let go
  pub lets_go : (gone news : List Thing) (v : Owned) (w : Work) → ChangeOf r gone news w.rest → Fair dues (message_things n m ++ gone) news → Good (give_up v w)
  lets_go gone news v w c fair =
      let g = gives_change dues.code r gone news v w c in record {
        gone = gone;
        news = news ++ g.more;
        change = g.change;
        fair = subst (λ l. Fair dues l (news ++ g.more)) (append-nil (message_things n m ++ gone)) (fair_both (message_things n m ++ gone) news [] g.more fair g.light);
      }

  pub left_over : (gone news : List Thing) (o : Option Owned) (w : Work) → ChangeOf r gone news w.rest → Fair dues (message_things n m ++ gone) news → Good (give_up_left o w)
  left_over gone news None w c fair = record { gone = gone; news = news; change = c; fair = fair }
  left_over gone news (Some v) w c fair = lets_go gone news v w c fair

  -- GIFTS AND COPIES

  module _ (t : ℕ) (y : ThreadState) (here : thread_in s.threads t ≡ Some y) (answers : Answers n m t) where
    abbrev Q : Hand → Type 0
    Q = Quiet dues.code NoGift y r

    abbrev Then : Hand → Type 0
    Then h = ThreadTurns (even dues.code) s i m q t y here h.work.rest h.thread

    mine : Answers n m y.number
    mine = subst (Answers n m) (sym (thread_number s.threads t y here)) answers

    -- the thread goes on in that phase
    gets_as : (gift : Option Owned → Type 0) (h : Hand) (p : Phase) → can_step p ≡ true → ((k : ℕ) → got_phase k p + holds_result dues.code k (record h.thread { phase = p }) ≤ joined_of k m) → ((k : ℕ) → holds_result dues.code k (record h.thread { phase = p }) ≡ joined_of k m + holds_result dues.code k y) → Awaits y.phase → Quiet dues.code gift y r h → Then (with_phase p h)
    gets_as gift h p c won holds w g =
        let y2 = record h.thread { phase = p } in record {
          named = g.named;
          gone = [];
          news = g.news;
          change = change_said r h.work.rest g.news g.says;
          fair = subst (λ l. Fair (even dues.code) l (stands n false y2 ∷ g.news)) (append-nil (message_things n m ++ stands n false y ∷ [])) (fair_both (message_things n m ++ stands n false y ∷ []) (stands n false y2 ∷ []) [] g.news (fair_gets n m y y2 g.named won holds w c mine) g.light);
        }

    -- it waits without a gift, and the message is no result
    record Idle : Type 0 where
      awaits : Awaits y.phase
      bare : y.gift ≡ None
      silent : (k : ℕ) → joined_of k m ≡ 0

    -- the same without a gift
    gets : (h : Hand) (p : Phase) → Calmly p → Idle → Q h → Then (with_phase p h)
    gets h p c w g =
        gets_as NoGift h p c.steps (λ k. omega (arith, c.got k, bare_held dues.code k (record h.thread { phase = p }) g.given)) (λ k. omega (arith, bare_held dues.code k (record h.thread { phase = p }) g.given, bare_held dues.code k y w.bare, w.silent k)) w.awaits g

    -- what the thread stands at takes just the result that the message is
    abbrev pub Takes : Type 0
    Takes = (k : ℕ) (x : ThreadState) → x.pc ≡ y.pc → x.temps ≡ y.temps → is_some x.gift ≡ true → holds_result dues.code k x ≡ joined_of k m

    pub gift_turns : Takes → y.gift ≡ None → (v : Owned) (o : Option Owned) → Awaits y.phase → Gives Then (given v o (record { work = start; thread = y }))
    gift_turns takes bare v None w =
        let same : y.gift ≡ y.gift = refl in
        let is_given : Some v ≡ Some v = refl in
        gets_as (λ g. g ≡ Some v) (record { work = start; thread = record y { gift = Some v } }) phase.Got refl (λ k. omega (arith, takes k (record y { gift = Some v; phase = phase.Got }) refl refl refl))
        (λ k. omega (arith, takes k (record y { gift = Some v; phase = phase.Got }) refl refl refl, bare_held dues.code k y bare)) w
        (quiet_gift dues.code (IsGift y) (λ g. g ≡ Some v) y r (record { work = start; thread = y }) (Some v) is_given (quiet_start dues.code (IsGift y) y start same))
    gift_turns takes bare v (Some u) w = tt

    on_got : Calmly phase.Got
    on_got = record { steps = refl; got = λ k. refl }

    uses_it : (v : ℕ) (b : Bool) (h : Hand) → Q h → Gives Q (used_once v b h)
    uses_it v true h g = g
    uses_it v false h g = test_gives Q (can_pin h.work.rest.cache v) _ (λ z. g)

    -- one that waits for an object has no gift
    abbrev Bare : ℕ → Type 0
    Bare v = waits_for_cell y.phase v ≡ true → y.gift ≡ None

    pub copy_turns : ((k : ℕ) → joined_of k m ≡ 0) → (v : ℕ) (c : Cell) → Bare v → Gives Then (deliver_fetched v c (record { work = start; thread = y }))
    copy_turns silent v c bare =
        let h : Hand = record { work = start; thread = y } in
        test_gives Then (waits_for_cell y.phase v) _ (λ z. over_gives Q Then (filled v c h) _
        (test_gives Q (can_fill h.work.rest.cache v c) _ (λ p. uses_it v (is_in v y.walk) _ (quiet_start dues.code NoGift y start (bare z)))) (λ h2 u. gets (working (note (act.Fill c.object v)) h2) phase.Got on_got (record { awaits = awaits_cell y.phase v z; bare = bare z; silent = silent }) u))

    -- OBJECTS THAT COME

    comes_at : (new : ℕ) (x : Spot) (h : Hand) → Idle → Q h → Gives Then (arrived_at x new h)
    comes_at new x h w g = over_gives Q Then (set_pointer x new h) _ (pointer_keeps (quiet dues.code NoGift y r) x new h g) (λ h2 u. gets h2 phase.Got on_got w u)

    comes_slot : (old new j : ℕ) (h : Hand) → Idle → Q h → Gives Then (arrived_slot old new j h)
    comes_slot old new j h w g = test_gives Then (waits_under old (slice_get h.thread.slots j)) _ (λ z. comes_at new (in_slot j) h w g)

    comes_write : (x : Lval) (new : ℕ) (h : Hand) → Idle → Q h → Gives Then (arrived_write x new h)
    comes_write x new h w g = then_gives Then (passed_spot (write_stars h.thread.passed 0 h (in_slot x.slot))) _ (λ p z. comes_at new p (passing (h.thread.passed + 1) h) w g)

    comes_lend : (slot d old new : ℕ) (h : Hand) → Idle → Q h → Gives Then (arrived_lend slot d old new h)
    comes_lend slot zero old new h w g = tt
    comes_lend slot (suc zero) old new h w g = gets h (phase.Taken new) (record { steps = refl; got = λ k. refl }) w g
    comes_lend slot (suc (suc d)) old new h w g = by (waits_under old (slice_get h.thread.slots (chased d h.thread.slots slot)))
      where
        by : (b : Bool) → Gives Then (if b then arrived_at (in_slot (chased d h.thread.slots slot)) new h else Some (with_phase (phase.Taken new) h))
        by true = comes_at new (in_slot (chased d h.thread.slots slot)) h w g
        by false = gets h (phase.Taken new) (record { steps = refl; got = λ k. refl }) w g

    comes_end : (x : Spot) (v : Option Value) (old new : ℕ) (h : Hand) → Idle → Q h → Gives Then (arrived_end x v old new h)
    comes_end x (Some (value.Mut p)) old new h w g = by (p.word == old)
      where
        by : (b : Bool) → Gives Then (if b then arrived_at x new h else arrived_write p.holder new h)
        by true = comes_at new x h w g
        by false = comes_write p.holder new h w g
    comes_end x _ old new h w g = tt

    comes_for : (x : Option Access) (old new : ℕ) (h : Hand) → Idle → Q h → Gives Then (arrived x old new h)
    comes_for None old new h w g = tt
    comes_for (Some (ReadTo p)) old new h w g = comes_slot old new (chased (p.depth - 1) h.thread.slots p.slot) h w g
    comes_for (Some (ReadPointer p)) old new h w g = comes_slot old new (chased (p.depth - 1) h.thread.slots p.slot) h w g
    comes_for (Some (WriteTo p)) old new h w g = comes_write p new h w g
    comes_for (Some (LendTo p)) old new h w g = comes_lend p.slot p.depth old new h w g
    comes_for (Some (EndRef p)) old new h w g = comes_end p (value_at h p) old new h w g

    pub object_turns : ((k : ℕ) → joined_of k m ≡ 0) → (old : ℕ) (c : Cell) → Bare old → Gives Then (deliver_moved dues.code old c (record { work = start; thread = y }))
    object_turns silent old c bare =
        let h : Hand = record { work = start; thread = y } in
        test_gives Then (waits_for_cell y.phase old) _ (λ z. bind_gives (λ (x : NewWord). Q (record h { work = x.work })) Then (issue_placed (act.Take c.object old) c h.work) _
        (test_gives (λ (x : NewWord). Q (record h { work = x.work })) (can_grow h.work.rest.partition) _ (λ p. quiet_start dues.code NoGift y start (bare z)))
        (λ x u. comes_for (instr_access h (slice_get dues.code y.pc)) old x.word (record h { work = x.work }) (record { awaits = awaits_cell y.phase old z; bare = bare z; silent = silent }) u))

-- EACH MESSAGE

module _ (code : List Instr) (s : Server) (i : ℕ) where
  abbrev number : ℕ
  number = s.rest.number

  abbrev start_of : Work
  start_of = begin_work (receive s.rest i)

  abbrev Turned : (m : Message) → slice_get s.rest.inbox i ≡ Some m → Work → Type 0
  Turned m q w = RestTurns (even code) s i m q w.rest

  pub fetch_turns : (w : ℕ) (o : ObjNo) (a t : ℕ) (q : slice_get s.rest.inbox i ≡ Some (message.Fetch w o a t)) → Gives (Turned (message.Fetch w o a t) q) (deliver_fetch w o a t start_of)
  fetch_turns w o a t q =
      map_gives (Turned (message.Fetch w o a t) q) (look_object start_of.rest.partition w o) _ (λ c e.
      replies (even code) s i (message.Fetch w o a t) q a (message.Fetched w c t) start_of.rest (change_none start_of.rest) (record { answers = λ u. refl; pairs = λ b. refl; going = λ u. refl; homes = omega arith; ends = λ t. omega arith; owes = λ t. refl }))

  pub move_turns : (w : ℕ) (o : ObjNo) (a t : ℕ) (q : slice_get s.rest.inbox i ≡ Some (message.Move w o a t)) → Gives (Turned (message.Move w o a t) q) (deliver_move w o a t start_of)
  move_turns w o a t q =
      map_gives (Turned (message.Move w o a t) q) (look_object start_of.rest.partition w o) _ (λ c e.
      replies (even code) s i (message.Move w o a t) q a (message.Moved w c t) (record start_of.rest { partition = freed start_of.rest.partition w }) (change_none start_of.rest) (record { answers = λ u. refl; pairs = λ b. refl; going = λ u. refl; homes = omega arith; ends = λ t. omega arith; owes = λ t. refl }))

  pub drop_turns : (w : ℕ) (o : ObjNo) (q : slice_get s.rest.inbox i ≡ Some (message.Drop w o)) → Gives (Turned (message.Drop w o) q) (deliver_drop w o start_of)
  drop_turns w o q =
      map_gives (Turned (message.Drop w o) q) (look_object start_of.rest.partition w o) _ (λ c e.
      lets_go (even code) s i (message.Drop w o) q [] [] c.value (note (act.Free o w) (with_partition (freed start_of.rest.partition w) start_of)) (change_none start_of.rest) (record { answers = λ u. refl; pairs = λ b. refl; going = λ u. refl; homes = omega arith; ends = λ t. omega arith; owes = λ t. refl }))

  -- MUTEXES

  pub lock_turns : (x : MutexNo) (a t : ℕ) (q : slice_get s.rest.inbox i ≡ Some (message.Lock x a t)) → Gives (Turned (message.Lock x a t) q) (deliver_lock x a t start_of)
  lock_turns x a t q = by (mutex_in ms.there x) refl
    where
      m : Message
      m = message.Lock x a t

      ms : Mutexes
      ms = start_of.rest.mutexes

      content : (z : Mutex) → mutex_in ms.there x ≡ Some z → (c : Option Owned) → Turned m q (answer_lock x a t (asked_of ms a t c z).1 (with_mutexes (asked_of ms a t c z).0 start_of))
      content z e None = record {
        gone = [];
        news = queued z.number a t ∷ [];
        change = change_mutex start_of.rest x z (record z { queue = z.queue ++ (a, t) ∷ [] }) [] (queued z.number a t ∷ []) e refl (λ f h. omega (arith, tot-push (queue_things z.number) f z.queue 0 (a, t)));
        fair = record { answers = λ u. refl; pairs = λ b. refl; going = λ u. refl; homes = omega arith; ends = λ t. omega arith; owes = λ t. refl };
      }
      content z e (Some v) =
          replies (even code) s i m q a (message.Granted x v t) (record start_of.rest { mutexes = put_mutex ms (record z { content = None }) }) (change_mutex start_of.rest x z (record z { content = None }) [] [] e refl (λ f h. refl))
          (record { answers = λ u. refl; pairs = λ b. refl; going = λ u. refl; homes = omega arith; ends = λ t. omega arith; owes = λ t. refl })

      by : (o : Option Mutex) → mutex_in ms.there x ≡ o → Gives (Turned m q) (option_map (λ p. answer_lock x a t p.1 (with_mutexes p.0 start_of)) (asked_in ms a t o))
      by None e = tt
      by (Some z) e = content z e z.content

  pub unlock_turns : (x : MutexNo) (v : Owned) (q : slice_get s.rest.inbox i ≡ Some (message.Unlock x v)) → Gives (Turned (message.Unlock x v) q) (deliver_unlock x v start_of)
  unlock_turns x v q = by (mutex_in ms.there x) refl
    where
      m : Message
      m = message.Unlock x v

      ms : Mutexes
      ms = start_of.rest.mutexes

      Then : Mutexes × Back → Type 0
      Then p = Turned m q (answer_back x p.1 (with_mutexes p.0 start_of))

      alone : (z : Mutex) → mutex_in ms.there x ≡ Some z → z.queue ≡ [] → (b : Bool) → Then (if b then (end_mutex ms z.number, back.Ended v) else (put_mutex ms (record z { content = Some v }), back.Kept))
      alone z e empty true = lets_go (even code) s i m q [] [] v (with_mutexes (end_mutex ms z.number) start_of) (change_end start_of.rest x z e empty) (record { answers = λ u. refl; pairs = λ b. refl; going = λ u. refl; homes = omega arith; ends = λ t. omega arith; owes = λ t. refl })
      alone z e empty false = record {
        gone = [];
        news = [];
        change = change_mutex start_of.rest x z (record z { content = Some v }) [] [] e refl (λ f h. refl);
        fair = record { answers = λ u. refl; pairs = λ b. refl; going = λ u. refl; homes = omega arith; ends = λ t. omega arith; owes = λ t. refl };
      }

      queue : (z : Mutex) → mutex_in ms.there x ≡ Some z → (l : List (ℕ × ℕ)) → z.queue ≡ l → Then (back_to ms v z l)
      queue z e [] empty = alone z e empty (z.shares == 0)
      queue z e (first ∷ rest) l =
          let z2 : Mutex = record z { queue = rest } in
          let gone = queued z.number first.0 first.1 ∷ [] in
          let c = change_mutex start_of.rest x z z2 gone [] e refl (λ f h. let whole = ap (λ k. tot f (things_at (queue_things z.number) 0 k)) l in omega (arith, whole, tot-front (λ k. queued z.number k.0 k.1 ∷ []) f 0 first rest)) in record {
            gone = gone;
            news = message_things first.0 (message.Granted x v first.1);
            change = change_sent (receive s.rest i) (record start_of.rest { mutexes = put_mutex ms z2 }) gone [] first.0 (message.Granted x v first.1) c;
            fair = record { answers = λ u. omega arith; pairs = λ b. refl; going = λ u. refl; homes = omega arith; ends = λ t. omega arith; owes = λ t. refl };
          }

      content : (z : Mutex) → mutex_in ms.there x ≡ Some z → (c : Option Owned) → Gives Then (back_out ms v z c)
      content z e None = queue z e z.queue refl
      content z e (Some u) = tt

      by : (o : Option Mutex) → mutex_in ms.there x ≡ o → Gives (Turned m q) (option_map (λ p. answer_back x p.1 (with_mutexes p.0 start_of)) (back_in ms v o))
      by None e = tt
      by (Some z) e = over_gives Then (Turned m q) (back_out ms v z z.content) _ (content z e z.content) (λ p u. u)

  pub dup_turns : (x : MutexNo) (a t : ℕ) (q : slice_get s.rest.inbox i ≡ Some (message.Dup x a t)) → Gives (Turned (message.Dup x a t) q) (deliver_dup x a t start_of)
  dup_turns x a t q = over_gives Then (Turned m q) (more ms x) _ (by (mutex_in ms.there x) refl) (λ k u. replies (even code) s i m q a (message.Dupped x t) (record start_of.rest { mutexes = k }) u (record { answers = λ u. refl; pairs = λ b. refl; going = λ u. refl; homes = omega arith; ends = λ t. omega arith; owes = λ t. refl }))
    where
      m : Message
      m = message.Dup x a t

      ms : Mutexes
      ms = start_of.rest.mutexes

      Then : Mutexes → Type 0
      Then k = ChangeOf (receive s.rest i) [] [] (record start_of.rest { mutexes = k })

      by : (o : Option Mutex) → mutex_in ms.there x ≡ o → Gives Then (more_in ms o)
      by None e = tt
      by (Some z) e = test_gives Then (nat_lt 0 z.shares && nat_lt z.shares (2 ^ 64 - 1)) _ (λ on. change_mutex start_of.rest x z (record z { shares = z.shares + 1 }) [] [] e refl (λ f h. refl))

  -- no thread waits for a mutex whose content is in
  abbrev pub NoneWaits : Mutex → Type 0
  NoneWaits z = is_some z.content ≡ true → z.queue ≡ []

  pub release_turns : (x : MutexNo) → ((z : Mutex) → mutex_in s.rest.mutexes.there x ≡ Some z → NoneWaits z) → (q : slice_get s.rest.inbox i ≡ Some (message.Release (released.Mutex x)))
      → Gives (Turned (message.Release (released.Mutex x)) q) (release_mutex x start_of)
  release_turns x idle q = by (mutex_in ms.there x) refl
    where
      m : Message
      m = message.Release (released.Mutex x)

      ms : Mutexes
      ms = start_of.rest.mutexes

      light : Fair (even code) (message_things number m ++ []) []
      light = record { answers = λ u. refl; pairs = λ b. refl; going = λ u. refl; homes = omega arith; ends = λ t. omega arith; owes = λ t. refl }

      Then : Mutexes × Option Owned → Type 0
      Then p = Turned m q (give_up_left p.1 (with_mutexes p.0 start_of))

      last : (z : Mutex) → mutex_in ms.there x ≡ Some z → (c : Option Owned) → z.content ≡ c → Then (last_less ms z c)
      last z e None d = left_over (even code) s i m q [] [] None (with_mutexes (put_mutex ms (record z { shares = 0 })) start_of) (change_mutex start_of.rest x z (record z { shares = 0 }) [] [] e refl (λ f h. refl)) light
      last z e (Some v) d = left_over (even code) s i m q [] [] (Some v) (with_mutexes (end_mutex ms z.number) start_of) (change_end start_of.rest x z e (idle z e (ap is_some d))) light

      one_less : (z : Mutex) → mutex_in ms.there x ≡ Some z → (b : Bool) → Then (if b then last_less ms z z.content else (put_mutex ms (record z { shares = z.shares - 1 }), None))
      one_less z e true = last z e z.content refl
      one_less z e false = left_over (even code) s i m q [] [] None (with_mutexes (put_mutex ms (record z { shares = z.shares - 1 })) start_of) (change_mutex start_of.rest x z (record z { shares = z.shares - 1 }) [] [] e refl (λ f h. refl)) light

      by : (o : Option Mutex) → mutex_in ms.there x ≡ o → Gives (Turned m q) (option_map (λ p. give_up_left p.1 (with_mutexes p.0 start_of)) (less_in ms o))
      by None e = tt
      by (Some z) e = over_gives Then (Turned m q) (less_in ms (Some z)) _ (test_gives Then (nat_lt 0 z.shares) (Some (less_of ms z)) (λ on. one_less z e (z.shares == 1))) (λ p u. u)
