-- The objects under way: a step sends none away, and the delivery of one that comes sends no other one.
use Rattle.std.proofs.Common.{◌≡◌, ℕ, zero, suc, ◌+◌, ◌-◌, ◌==◌, Bool, true, false, if◌then◌else◌, List, Option, Some, None, refl}
use Rattle.std.specs.Prelude.{slice_get, option_map}
use Rattle.law_walks_own.specs.Below.fr_base.declared.instruction.Instr.{Instr}
use Rattle.law_walks_own.specs.Below.fr_base.declared.place.Lval.{Lval}
use Rattle.law_walks_own.specs.Below.fr_base.declared.release.Released.TheVariants as released
use Rattle.law_walks_own.specs.Below.global_addr.Words.{server_of}
use Rattle.law_walks_own.specs.Below.heap_partition.declared.value.Cell.{Cell}
use Rattle.law_walks_own.specs.Below.heap_partition.declared.value.Owned.{Owned}
use Rattle.law_walks_own.specs.Below.heap_partition.declared.value.Owned.TheVariants as owned
use Rattle.law_walks_own.specs.Below.law_words_ends.Below.mutex_home.Mutexes.{can_make}
use Rattle.law_walks_own.specs.Below.law_words_ends.Below.join_home.Tasks.{can_begin, can_begin_pair}
use Rattle.law_walks_own.specs.Below.thread_state.View.{ThreadState, new_thread}
use Rattle.law_walks_own.specs.Below.thread_state.declared.phase.Phase.TheVariants as phase
use Rattle.law_walks_own.specs.Below.thread_state.declared.value.Value.{Value}
use Rattle.law_walks_own.specs.Below.thread_state.declared.value.Value.TheVariants as value
use Rattle.law_walks_own.specs.Below.server_msgs.declared.message.Message.{Message}
use Rattle.law_walks_own.specs.Below.server_msgs.declared.message.Message.TheVariants as message
use Rattle.law_walks_own.specs.Below.journal.declared.act.Act.TheVariants as act
use Rattle.law_walks_own.specs.Below.server_model.Servers.{Sent, Rest}
use Rattle.law_walks_own.specs.Below.server_model.Work.{Work, Hand, Site, sent_from, with_phase, then_some, put_back, thread_in, at_thread}
use Rattle.law_walks_own.specs.Below.server_model.NewWords.{NewWord, can_grow, issue_placed}
use Rattle.law_walks_own.specs.Below.server_model.Places.{Spot, in_slot, value_at, set_pointer}
use Rattle.law_walks_own.specs.Below.server_model.Prepare.{Access, ReadTo, ReadPointer, WriteTo, LendTo, EndRef, passing, write_stars}
use Rattle.law_walks_own.specs.Below.server_model.Objects.{waits_for_cell, chased, waits_under, arrived_at, arrived_slot, passed_spot, arrived_write, arrived_lend, arrived_end, arrived, instr_access, deliver_moved}
use Rattle.law_walks_own.specs.Below.server_model.Start.{next_thread, server_for, start_thread, capture}
use Rattle.law_walks_own.specs.Below.server_model.Drop.{home_of, give_up}
use Rattle.law_walks_own.specs.Below.server_model.Commit.{go_on, next_object, push_box, begun, pair_begun, spawn_with, end_with, label_dropped}
use Rattle.law_walks_own.specs.Below.server_model.Events.{step}
use Rattle.law_walks_own.specs.Below.law_counts_sums.Laws.{Gives}
use Rattle.law_walks_own.proofs.Below.law_counts_sums.Results.{then_gives, over_gives, bind_gives, test_gives}
use Rattle.law_walks_own.proofs.Below.law_counts_sums.KnownPlaces.{Told, pointer_keeps}
use Rattle.law_walks_own.proofs.Below.law_counts_things.things.Small.{Of, Places, Small, Passes}
use Rattle.law_walks_own.proofs.Below.law_counts_things.things.Plainly.{Settles, moves_by, Acts, steps}
use Rattle.law_walks_own.proofs.Below.law_counts_things.things.Goes.{puts_by, Any, AnyWord}
use Rattle.law_walks_own.proofs.Below.law_counts_things.things.Mail.{Mail, Mailed, mail_sent}
use Rattle.law_walks_own.proofs.Below.law_counts_things.things.Messages.{Light}

-- the word of an object under way weighs so much
abbrev pub flight : (ℕ → ℕ) → ℕ → Message → ℕ
flight f r (message.Moved w c t) = f w
flight f r m = 0

module _ (f : ℕ → ℕ) (n : ℕ) (old : List Sent) where
  abbrev pub Well : Rest → Type 0
  Well = Mailed (Light (flight f)) n old

  abbrev F : Rest → ThreadState → Type 0
  F r t = Well r

  says : (t : ℕ) (m : Message) (r : Rest) → flight f t m ≡ 0 → Well r → Well (sent_from r t m)
  says t m r z g = mail_sent (Light (flight f)) n old r t m z g

  gives_up : (v : Owned) (w : Work) → Well w.rest → Well (give_up v w).rest
  gives_up (owned.Box p) w g = says (server_of p.word) (message.Drop p.word p.object) w.rest refl g
  gives_up (owned.Mutex m) w g = says m.home (message.Release (released.Mutex m)) w.rest refl g
  gives_up (owned.Task t) w g = says (home_of t) (message.Release (released.Task t)) w.rest refl g
  gives_up owned.Nothing w g = g
  gives_up owned.Unit w g = g
  gives_up (owned.Int m) w g = g

  -- A STEP

  module _ (servers : ℕ) (i : Instr) where
    places : Places F Any AnyWord
    places = record {
      spot = λ s v h g e. tt;
      puts = λ s v h z a g. puts_by F (λ vs r t u. u) (λ vs r t u. u) (λ h2 w x u. u) s v h g;
      worded = λ w v new x a e. tt;
      word_of = λ r a. tt;
      points = λ v p a e. tt;
    }

    small : Small F F Any AnyWord
    small = record {
      places = places;
      tints = λ p h a g e. tt;
      renews = λ p h a g e. (tt, g);
      pinned = λ r a. tt;
      pins = λ w h e g. g;
      uses = λ w h e g. g;
      asks_copy = λ p h a e g. says (server_of p.word) (message.Fetch p.word p.object h.work.rest.number h.thread.number) h.work.rest refl g;
      asks_object = λ p h a e g. says (server_of p.word) (message.Move p.word p.object h.work.rest.number h.thread.number) h.work.rest refl g;
    }

    passes : Passes F
    passes m h g = g

    starts : (pc : ℕ) (vs : List Value) (w : Work) → Well w.rest → Well (start_thread servers pc vs w).rest
    starts pc vs w g = says (server_for servers w.rest) (message.Start (new_thread (next_thread w.rest) pc vs)) (record w.rest { started = w.rest.started + 1 }) refl (record { numbered = g.numbered; waiting = g.waiting; leaving = g.leaving; more = g.more; appended = g.appended })

    ends_so : (main : Bool) (v : Owned) (h : Hand) → Of F h → Gives (λ h2. Settles F (with_phase phase.Over h2)) (end_with main v h)
    ends_so true v h g = λ cs z. gives_up v (label_dropped (value.Own v) h).work g
    ends_so false v h g = λ cs z. says h.thread.home (message.Finished h.thread.number v) h.work.rest refl g

    acts : Acts servers F F Any Any AnyWord i
    acts = record {
      places = places;
      number = λ m. tt;
      unit_value = tt;
      nothing_value = tt;
      gone = tt;
      owned_temp = λ v a. tt;
      shared_slot = λ j. tt;
      mutable_slot = λ j. tt;
      second = λ v u a e. tt;
      shared = λ v u a e. tt;
      lent = λ w d e z v u h a g c. tt;
      off_temps = λ h g. g;
      off_slots = λ h g. g;
      on_temps = λ v h a g. g;
      on_slots = λ v h a g. g;
      gives = λ v h a g. gives_up v h.work g;
      unpins = λ w h e g. g;
      gift = λ v h e g. (tt, g);
      boxes = λ o e v h a g.
          over_gives (λ (m : NewWord). Well m.work.rest) (λ h2. Settles F (go_on h2)) (issue_placed (act.Make (next_object h)) (record { object = next_object h; value = v }) h.work) (λ m. push_box v m h)
          (test_gives (λ (m : NewWord). Well m.work.rest) (can_grow h.work.rest.partition) _ (λ z. g)) (λ m w cs z. w);
      mutexes = λ o e v h a g. test_gives (λ h2. Settles F (go_on h2)) (can_make h.work.rest.mutexes) _ (λ z cs z2. g);
      spawns = λ cs pc e h g.
          then_gives (λ h2. Settles F (go_on h2)) (capture false cs.items h.thread.slots) (spawn_with servers pc (next_thread h.work.rest) h) (λ new q.
          over_gives (Of F) (λ h2. Settles F (go_on h2)) (begun h) _ (test_gives (Of F) (can_begin h.work.rest.tasks (next_thread h.work.rest)) _ (λ z. g)) (λ h2 u cs2 z. starts pc new.0 h2.work u));
      unlocks = λ e m v h a b g. says m.home (message.Unlock m v) h.work.rest refl g;
      holds = λ w e m a. tt;
      goes = λ o h g cs z. g;
      pairs = λ cs pc ds other e h g.
          let u = next_thread h.work.rest in
          then_gives (Settles F) (capture true cs.items h.thread.slots) _ (λ first p. then_gives (Settles F) (capture true ds.items first.1) _ (λ second q.
          over_gives (Of F) (Settles F) (pair_begun h u (u + 1)) _ (test_gives (Of F) (can_begin_pair h.work.rest.tasks h.thread.number u (u + 1)) _ (λ z. g))
          (λ h2 b cs2 z. starts other second.0 (start_thread servers pc first.0 h2.work) (starts pc first.0 h2.work b))));
      ends = λ o e main v h a g. ends_so main v h g;
      asks_join = λ o e u h q a g. says (home_of u) (message.Join u h.work.rest.number h.thread.number) h.work.rest refl g;
      asks_dup = λ w e m h q a g. says m.home (message.Dup m h.work.rest.number h.thread.number) h.work.rest refl g;
      asks_lock = λ w e m h q a g. says m.home (message.Lock m h.work.rest.number h.thread.number) h.work.rest refl g;
    }

    pub step_flies : (h : Hand) → Well h.work.rest → Gives (λ d. Well d.hand.work.rest) (step servers i h)
    step_flies h g = steps i h (λ z. small) (λ z. passes) acts (λ h2 s q u. moves_by i s h2 (λ w c v z. tt)) g

  -- AN OBJECT THAT COMES

  abbrev WellHand : Hand → Type 0
  WellHand h = Well h.work.rest

  abbrev pub WellSite : Site → Type 0
  WellSite x = Well x.work.rest

  abbrev told : Told
  told p t g pc m i o ms ts c = Mail (Light (flight f)) n old m i o

  comes_at : (new : ℕ) (s : Spot) (h : Hand) → WellHand h → Gives WellHand (arrived_at s new h)
  comes_at new s h a = over_gives WellHand WellHand (set_pointer s new h) _ (pointer_keeps told s new h a) (λ h2 b. b)

  comes_slot : (was new i : ℕ) (h : Hand) → WellHand h → Gives WellHand (arrived_slot was new i h)
  comes_slot was new i h a = test_gives WellHand (waits_under was (slice_get h.thread.slots i)) _ (λ z. comes_at new (in_slot i) h a)

  comes_write : (w : Lval) (new : ℕ) (h : Hand) → WellHand h → Gives WellHand (arrived_write w new h)
  comes_write w new h a = then_gives WellHand (passed_spot (write_stars h.thread.passed 0 h (in_slot w.slot))) _ (λ s q. comes_at new s (passing (h.thread.passed + 1) h) a)

  comes_lend : (slot d was new : ℕ) (h : Hand) → WellHand h → Gives WellHand (arrived_lend slot d was new h)
  comes_lend slot zero was new h a = tt
  comes_lend slot (suc zero) was new h a = a
  comes_lend slot (suc (suc d)) was new h a = by (waits_under was (slice_get h.thread.slots (chased d h.thread.slots slot)))
    where
      by : (b : Bool) → Gives WellHand (if b then arrived_at (in_slot (chased d h.thread.slots slot)) new h else Some (with_phase (phase.Taken new) h))
      by true = comes_at new (in_slot (chased d h.thread.slots slot)) h a
      by false = a

  comes_end : (s : Spot) (v : Option Value) (was new : ℕ) (h : Hand) → WellHand h → Gives WellHand (arrived_end s v was new h)
  comes_end s (Some (value.Mut q)) was new h a = by (q.word == was)
    where
      by : (b : Bool) → Gives WellHand (if b then arrived_at s new h else arrived_write q.holder new h)
      by true = comes_at new s h a
      by false = comes_write q.holder new h a
  comes_end s _ was new h a = tt

  comes_for : (x : Option Access) (was new : ℕ) (h : Hand) → WellHand h → Gives WellHand (arrived x was new h)
  comes_for None was new h a = tt
  comes_for (Some (ReadTo w)) was new h a = comes_slot was new (chased (w.depth - 1) h.thread.slots w.slot) h a
  comes_for (Some (ReadPointer w)) was new h a = comes_slot was new (chased (w.depth - 1) h.thread.slots w.slot) h a
  comes_for (Some (WriteTo w)) was new h a = comes_write w new h a
  comes_for (Some (LendTo w)) was new h a = comes_lend w.slot w.depth was new h a
  comes_for (Some (EndRef s)) was new h a = comes_end s (value_at h s) was new h a

  comes : (code : List Instr) (was : ℕ) (c : Cell) (h : Hand) → WellHand h → Gives WellHand (deliver_moved code was c h)
  comes code was c h a =
      test_gives WellHand (waits_for_cell h.thread.phase was) _ (λ z. bind_gives (λ (m : NewWord). Well m.work.rest) WellHand (issue_placed (act.Take c.object was) c h.work) _
      (test_gives (λ (m : NewWord). Well m.work.rest) (can_grow h.work.rest.partition) _ (λ p. a)) (λ m b. comes_for (instr_access h (slice_get code h.thread.pc)) was m.word (record h { work = m.work }) b))

  pub landing_flies : (code : List Instr) (was : ℕ) (c : Cell) (t : ℕ) (x : Site) → WellSite x → Gives WellSite (at_thread t (deliver_moved code was c) x)
  landing_flies code was c t x a = by (thread_in x.threads t)
    where
      by : (o : Option ThreadState) → Gives WellSite (then_some (option_map (λ y. record { work = x.work; thread = y }) o) (λ h. option_map (put_back x.threads) (deliver_moved code was c h)))
      by None = tt
      by (Some y) = over_gives WellHand WellSite (deliver_moved code was c (record { work = x.work; thread = y })) (put_back x.threads) (comes code was c (record { work = x.work; thread = y }) a) (λ h b. b)
