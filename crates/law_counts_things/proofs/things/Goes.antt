-- How a thread goes on in an event, whatever its values are.
use Rattle.std.proofs.Common.{◌≡◌, ◌⊎◌, inl, inr, ℕ, zero, suc, ◌+◌, ◌-◌, ◌==◌, Bool, true, false, nat_lt, if◌then◌else◌, List, [], length, Option, Some, None, refl, sym, ap, subst, ◌∙◌}
use Rattle.std.specs.Prelude.{slice_get, slice_set, option_map, ◌||◌}
use Rattle.std.specs.Bool.{⊤}
use Rattle.law_counts_sums.specs.Below.fr_base.Rooms.{WithRoom}
use Rattle.law_counts_sums.specs.Below.fr_base.declared.name.MutexNo.{MutexNo}
use Rattle.law_counts_sums.specs.Below.fr_base.declared.place.Lval.{Lval}
use Rattle.law_counts_sums.specs.Below.fr_base.declared.instruction.Instr.{Instr}
use Rattle.law_counts_sums.specs.Below.fr_base.declared.instruction.Instr.TheVariants as instr
use Rattle.law_counts_sums.specs.Below.fr_base.declared.instruction.Operand.{Operand}
use Rattle.law_counts_sums.specs.Below.fr_base.declared.instruction.Operand.TheVariants as operand
use Rattle.law_counts_sums.specs.Below.fr_base.declared.step.Fresh.TheVariants as fresh
use Rattle.law_counts_sums.specs.Below.migration.Packing.{unpin_all}
use Rattle.law_counts_sums.specs.Below.server_model.Events.{Stepped, done_step, committed, step}
use Rattle.law_counts_sums.specs.Below.heap_partition.declared.value.Cell.{Cell}
use Rattle.law_counts_sums.specs.Below.heap_partition.declared.value.Owned.{Owned}
use Rattle.law_counts_sums.specs.Below.heap_partition.declared.value.Owned.TheVariants as owned
use Rattle.law_counts_sums.proofs.Below.coherent_memory.Names.{same_mutexes}
use Rattle.law_counts_sums.specs.Below.owner_box.Partition.{stored}
use Rattle.law_counts_sums.specs.Below.read_cache.Cache.{Copy, can_pin, can_fill}
use Rattle.law_counts_sums.specs.Below.mutex_home.Mutexes.{can_make}
use Rattle.law_counts_sums.specs.Below.join_home.Tasks.{can_begin, can_begin_pair}
use Rattle.law_counts_sums.specs.Below.thread_state.View.{ThreadState}
use Rattle.law_counts_sums.specs.Below.thread_state.declared.phase.Phase.{Phase}
use Rattle.law_counts_sums.specs.Below.thread_state.declared.phase.Phase.TheVariants as phase
use Rattle.law_counts_sums.specs.Below.thread_state.declared.value.Value.{Value}
use Rattle.law_counts_sums.specs.Below.thread_state.declared.value.Value.TheVariants as value
use Rattle.law_counts_sums.specs.Below.journal.declared.act.Act.TheVariants as act
use Rattle.law_counts_sums.specs.Below.server_model.Servers.{Rest}
use Rattle.law_counts_sums.specs.Below.server_model.Work.{Hand, leads_here, working, with_partition, with_phase, used_once, Popped, pop, pop_owned, owned_of, last_of, front_of, then_some, with_cache}
use Rattle.law_counts_sums.specs.Below.fr_base.Lists.{is_in}
use Rattle.law_counts_sums.specs.Below.server_model.NewWords.{NewWord, can_grow, issue_placed}
use Rattle.law_counts_sums.specs.Below.server_model.Places.{Spot, in_slot, on_top, in_cell, in_copy, nowhere, note_write, value_at, put_at, with_word, set_pointer}
use Rattle.law_counts_sums.specs.Below.server_model.Start.{next_thread, capture}
use Rattle.law_counts_sums.specs.Below.server_model.Commit.{go_on, next_object, push_box, begun, pair_begun, spawn_with, end_with, done_where}
use Rattle.law_counts_sums.specs.Below.server_model.Prepare.{Access, ReadTo, ReadPointer, WriteTo, LendTo, EndRef, access_of, passing, write_stars}
use Rattle.law_counts_sums.specs.Below.server_model.Objects.{waits_for_cell, filled, deliver_fetched, chased, waits_under, arrived_at, arrived_slot, passed_spot, arrived_write, arrived_lend, arrived_end, arrived, instr_access, deliver_moved}
use Rattle.law_counts_sums.specs.Below.server_model.Sharing.{given, waits_for_lock, deliver_granted, waits_for_dup, deliver_dupped}
use Rattle.law_counts_sums.specs.Below.server_model.Joining.{waits_for_join, deliver_joined, got_par, pair_over}
use Rattle.law_counts_sums.specs.Laws.{Gives}
use Rattle.law_counts_sums.proofs.Results.{then_gives, map_gives, over_gives, bind_gives, test_gives, both_give, weaker}
use Rattle.law_counts_things.proofs.things.Small.{Of, Places, Small, Passes, Follows, Writes}
use Rattle.law_counts_things.proofs.things.Plainly.{Settles, Onward, quiet_onward, moves_by, Acts, EndsStep, steps}

-- it has the number and the home that it had
pub record Same (y y2 : ThreadState) : Type 0 where
  pub number : y2.number ≡ y.number
  pub home : y2.home ≡ y.home

-- it has the gift that it had, or none
abbrev pub Left : Option Owned → Option Owned → Type 0
Left g g2 = (g2 ≡ g) ⊎ (g2 ≡ None)

-- a request to a home, and the instruction that sends it
abbrev pub AsksHome : Instr → Phase → Type 0
AsksHome (instr.Join o) (phase.WaitJoin u) = ⊤
AsksHome (instr.Dup w) (phase.WaitDup m) = ⊤
AsksHome (instr.Lock w) (phase.WaitLock m) = ⊤
AsksHome i p = ⊥

abbrev pub Joins : Instr → Type 0
Joins (instr.Join o) = ⊤
Joins i = ⊥

-- an instruction that asks a home
abbrev pub Asks : Instr → Type 0
Asks (instr.Join o) = ⊤
Asks (instr.Dup w) = ⊤
Asks (instr.Lock w) = ⊤
Asks i = ⊥

-- it waits for what a home gives
abbrev pub IsAsking : Phase → Type 0
IsAsking (phase.WaitLock m) = ⊤
IsAsking (phase.WaitDup m) = ⊤
IsAsking (phase.WaitJoin u) = ⊤
IsAsking p = ⊥

-- what it waited for has come
abbrev pub HasCell : Phase → Type 0
HasCell phase.Got = ⊤
HasCell (phase.Taken w) = ⊤
HasCell p = ⊥

-- the temporary values without an operand that was popped
abbrev pub Without : Operand → List Value → List Value → Type 0
Without operand.Pop ts us = us ≡ front_of ts
Without o ts us = us ≡ ts

-- at the end of a thread its slots stay, and its operand goes
abbrev pub EndLeaves : List Instr → ThreadState → ThreadState → Type 0
EndLeaves code y y2 = (o : Operand) → slice_get code y.pc ≡ Some (instr.End o) → (y2.slots ≡ y.slots) × Without o y.temps y2.temps

-- what comes where a dup waits is a share of its mutex
abbrev pub Shares : Phase → Option Owned → Type 0
Shares (phase.WaitDup m) g = g ≡ Some (owned.Mutex m)
Shares p g = ⊤

-- a thread and what an event makes of it
pub data Goes (code : List Instr) (y y2 : ThreadState) : Type 0 where
  -- its step is done, and it is ready at the next instruction; it waits there for a pair; it is over
  on : (i : Instr) → slice_get code y.pc ≡ Some i → Onward i → y2.pc ≡ y.pc + 1 → y2.phase ≡ phase.Ready → y2.passed ≡ 0 → y2.walk ≡ [] → Left y.gift y2.gift → Same y y2 → Goes code y y2
  waits_pair : (cs : WithRoom (ℕ × Bool)) (pc : ℕ) (ds : WithRoom (ℕ × Bool)) (other a b : ℕ) → slice_get code y.pc ≡ Some (instr.Par cs pc ds other) → y2.pc ≡ y.pc + 1 → y2.phase ≡ phase.WaitPar a b → y2.passed ≡ 0 → y2.walk ≡ []
      → Left y.gift y2.gift → Same y y2 → Goes code y y2
  is_over : (o : Operand) → slice_get code y.pc ≡ Some (instr.End o) → y2.pc ≡ y.pc → y2.phase ≡ phase.Over → y2.passed ≡ 0 → y2.walk ≡ [] → y2.slots ≡ y.slots → Without o y.temps y2.temps → Left y.gift y2.gift → Same y y2 → Goes code y y2
  -- it asks for an object or a copy on its place; it asks a home
  asks_cell : (i : Instr) (w : ℕ) → slice_get code y.pc ≡ Some i → Follows (access_of i y) → y2.pc ≡ y.pc → y2.phase ≡ phase.WaitCell w → Left y.gift y2.gift → Same y y2 → Goes code y y2
  asks_home : (i : Instr) (p : Phase) → slice_get code y.pc ≡ Some i → AsksHome i p → y2.pc ≡ y.pc → y2.phase ≡ p → y2.gift ≡ None → y2.passed ≡ y.passed → (Joins i → y2.walk ≡ y.walk) → Same y y2 → Goes code y y2
  -- it gets an object or a copy; it gets what a home gives; both of its pair are over
  gets_cell : (w : ℕ) → y.phase ≡ phase.WaitCell w → HasCell y2.phase → y2.pc ≡ y.pc → y2.gift ≡ y.gift → Same y y2 → Goes code y y2
  gets_gift : IsAsking y.phase → y2.phase ≡ phase.Got → y2.pc ≡ y.pc → y2.passed ≡ y.passed → y2.walk ≡ y.walk → y2.temps ≡ y.temps → Shares y.phase y2.gift → Same y y2 → Goes code y y2
  goes_pair : (a b : ℕ) → y.phase ≡ phase.WaitPar a b → y2.phase ≡ phase.GotPar a b → y2.pc ≡ y.pc → y2.gift ≡ y.gift → y2.passed ≡ y.passed → y2.walk ≡ y.walk → Same y y2 → Goes code y y2

-- it gets what it waited for
abbrev pub IsGotten : {code : List Instr} {y y2 : ThreadState} → Goes code y y2 → Type 0
IsGotten (gets_cell w was p pc g s) = ⊤
IsGotten (gets_gift was p pc passed walk temps shares s) = ⊤
IsGotten (goes_pair a b was p pc g passed walk s) = ⊤
IsGotten g = ⊥

-- WHAT STAYS IN THE MIDDLE OF A STEP

pub record Frame (i : Instr) (y : ThreadState) (number home pc : ℕ) (p : Phase) (gift : Option Owned) (passed : ℕ) (walk : List ℕ) : Type 0 where
  pub named : number ≡ y.number
  pub at_home : home ≡ y.home
  pub placed : pc ≡ y.pc
  pub still : p ≡ y.phase
  pub given : Left y.gift gift
  pub passes : Asks i → passed ≡ y.passed
  pub walks : Joins i → walk ≡ y.walk

abbrev pub Framed : Instr → ThreadState → Rest → ThreadState → Type 0
Framed i y r t = Frame i y t.number t.home t.pc t.phase t.gift t.passed t.walk

framed : (i : Instr) (y : ThreadState) (r : Rest) → Framed i y r y
framed i y r = record { named = refl; at_home = refl; placed = refl; still = refl; given = inl refl; passes = λ a. refl; walks = λ a. refl }

-- of values and words nothing needs to be known
abbrev pub Any : Value → Type 0
Any v = ⊤

abbrev pub AnyWord : ℕ → Type 0
AnyWord w = ⊤

-- what sees no values stays where a value is put
module _ (F : Rest → ThreadState → Type 0) (slots : (vs : List Value) (r : Rest) (t : ThreadState) → F r t → F r (record t { slots = vs })) (temps : (vs : List Value) (r : Rest) (t : ThreadState) → F r t → F r (record t { temps = vs }))
    (cells : (h : Hand) (w : ℕ) (v : Owned) → Of F h → Of F (working (with_partition (stored h.work.rest.partition w v)) h)) where
  pub puts_by : (s : Spot) (v : Value) (h : Hand) → Of F h → Gives (Of F) (put_at s v h)
  puts_by (in_slot j) v h a = test_gives (Of F) (nat_lt j (length h.thread.slots)) _ (λ z. slots (slice_set h.thread.slots j v) h.work.rest h.thread a)
  puts_by on_top v h a = temps _ h.work.rest h.thread a
  puts_by (in_cell w through) (value.Own v) h a = test_gives (Of F) (leads_here h.work.rest.partition w) _ (λ z. noted through)
    where
      noted : (o : Option ℕ) → Of F (note_write o (working (with_partition (stored h.work.rest.partition w v)) h))
      noted None = cells h w v a
      noted (Some j) = slots _ _ h.thread (cells h w v a)
  puts_by (in_cell w through) value.Gone h a = tt
  puts_by (in_cell w through) (value.SharedSlot j) h a = tt
  puts_by (in_cell w through) (value.MutSlot j) h a = tt
  puts_by (in_cell w through) (value.Shared q) h a = tt
  puts_by (in_cell w through) (value.Mut q) h a = tt
  puts_by (in_cell w through) (value.Held m) h a = tt
  puts_by (in_copy w) v h a = tt
  puts_by nowhere v h a = tt

module _ (code : List Instr) (n : ℕ) (i : Instr) (y : ThreadState) (there : slice_get code y.pc ≡ Some i) where
  abbrev F : Rest → ThreadState → Type 0
  F = Framed i y

  abbrev E : Rest → ThreadState → Type 0
  E r t = EndLeaves code y t → Goes code y t

  places : Places F Any AnyWord
  places = record {
    spot = λ s v h g e. tt;
    puts = λ s v h z a g. puts_by F (λ vs r t u. u) (λ vs r t u. u) (λ h2 w x u. u) s v h g;
    worded = λ w v new x a e. tt;
    word_of = λ r a. tt;
    points = λ v p a e. tt;
  }

  same : (t : ThreadState) (r : Rest) → F r t → Same y t
  same t r g = record { number = g.named; home = g.at_home }

  asked : (h : Hand) (w : ℕ) → Follows (access_of i y) → Of F h → E h.work.rest (record h.thread { phase = phase.WaitCell w })
  asked h w f g = λ left. asks_cell i w there f g.placed refl g.given (record { number = g.named; home = g.at_home })

  -- no word is used at a join, and none is passed where a home is asked
  follows_no_join : (j : Instr) → Follows (access_of j y) → Joins j → ⊥
  follows_no_join (instr.Join o) f a = f
  follows_no_join j f a = a

  small : Follows (access_of i y) → Small F E Any AnyWord
  small f = record {
    places = places;
    tints = λ p h a g e. tt;
    renews = λ p h a g e. (tt, g);
    pinned = λ r a. tt;
    pins = λ w h e g. g;
    uses = λ w h e g. record { named = g.named; at_home = g.at_home; placed = g.placed; still = g.still; given = g.given; passes = g.passes; walks = λ a. absurd (follows_no_join i f a) };
    asks_copy = λ p h a e g. asked h p.word f g;
    asks_object = λ p h a e g. asked h p.word f g;
  }

  writes_no_ask : (j : Instr) → Writes (access_of j y) → Asks j → ⊥
  writes_no_ask (instr.Join o) f a = f
  writes_no_ask (instr.Dup w) f a = f
  writes_no_ask (instr.Lock w) f a = f
  writes_no_ask j f a = a

  joins_ask : (j : Instr) → Joins j → Asks j
  joins_ask (instr.Join o) a = a
  joins_ask j a = absurd a

  passes : Writes (access_of i y) → Passes F
  passes f m h g = record { named = g.named; at_home = g.at_home; placed = g.placed; still = g.still; given = g.given; passes = λ a. absurd (writes_no_ask i f a); walks = g.walks }

  acts : Acts n F E Any Any AnyWord i
  acts = record {
    places = places;
    number = λ m. tt;
    unit_value = tt;
    nothing_value = tt;
    gone = tt;
    owned_temp = λ v a. tt;
    shared_slot = λ j. tt;
    mutable_slot = λ j. tt;
    second = λ v u a e. tt;
    shared = λ v u a e. tt;
    lent = λ w d e z v u h a g c. tt;
    off_temps = λ h g. g;
    off_slots = λ h g. g;
    on_temps = λ v h a g. g;
    on_slots = λ v h a g. g;
    gives = λ v h a g. g;
    unpins = λ w h e g. g;
    gift = λ v h e g. (tt, record { named = g.named; at_home = g.at_home; placed = g.placed; still = g.still; given = inr refl; passes = g.passes; walks = g.walks });
    boxes = λ o e v h a g.
        map_gives (λ h2. Settles E (go_on h2)) (issue_placed (act.Make (next_object h)) (record { object = next_object h; value = v }) h.work) (λ m. push_box v m h) (λ m q cs z left. onward (subst Onward (sym e) tt) h.thread g);
    mutexes = λ o e v h a g. test_gives (λ h2. Settles E (go_on h2)) (can_make h.work.rest.mutexes) _ (λ z cs z2 left. onward (subst Onward (sym e) tt) h.thread g);
    spawns = λ cs pc e h g.
        then_gives (λ h2. Settles E (go_on h2)) (capture false cs.items h.thread.slots) (spawn_with n pc (next_thread h.work.rest) h) (λ new q.
        over_gives (Of F) (λ h2. Settles E (go_on h2)) (begun h) _ (test_gives (Of F) (can_begin h.work.rest.tasks (next_thread h.work.rest)) _ (λ z. g))
        (λ h2 u cs2 z left. onward (subst Onward (sym e) tt) h2.thread u));
    unlocks = λ e m v h a b g. g;
    holds = λ w e m a. tt;
    goes = λ o h g cs z left. onward (quiet_onward i o) h.thread g;
    pairs = λ cs pc ds other e h g.
        let u = next_thread h.work.rest in
        then_gives (Settles E) (capture true cs.items h.thread.slots) _ (λ first p. then_gives (Settles E) (capture true ds.items first.1) _ (λ second q.
        over_gives (Of F) (Settles E) (pair_begun h u (u + 1)) _ (test_gives (Of F) (can_begin_pair h.work.rest.tasks h.thread.number u (u + 1)) _ (λ z. g))
        (λ h2 b cs2 z left. waits_pair cs pc ds other u (u + 1) (subst (λ j. slice_get code y.pc ≡ Some j) e there) (ap (λ m. m + 1) b.placed) refl refl refl b.given (record { number = b.named; home = b.at_home }))));
    ends = λ o e main v h a g. ended o e main v h g;
    asks_join = λ o e u h q a g. home (phase.WaitJoin u) h (subst (λ j. AsksHome j (phase.WaitJoin u)) (sym e) tt) q g;
    asks_dup = λ w e m h q a g. home (phase.WaitDup m) h (subst (λ j. AsksHome j (phase.WaitDup m)) (sym e) tt) q g;
    asks_lock = λ w e m h q a g. home (phase.WaitLock m) h (subst (λ j. AsksHome j (phase.WaitLock m)) (sym e) tt) q g;
  }
    where
      onward : Onward i → (t : ThreadState) → Frame i y t.number t.home t.pc t.phase t.gift t.passed t.walk → {vs ts : List Value} {made : ℕ} → Goes code y (record t { slots = vs; temps = ts; made = made; pc = t.pc + 1; phase = phase.Ready; passed = 0; walk = []; moved_since_step = false })
      onward o t g = on i there o (ap (λ m. m + 1) g.placed) refl refl refl g.given (record { number = g.named; home = g.at_home })

      ended : (o : Operand) → i ≡ instr.End o → (main : Bool) (v : Owned) (h : Hand) → Of F h → Gives (λ h2. Settles E (with_phase phase.Over h2)) (end_with main v h)
      ended o e true v h g = λ cs z left. let at = subst (λ j. slice_get code y.pc ≡ Some j) e there in is_over o at g.placed refl refl refl (left o at).0 (left o at).1 g.given (record { number = g.named; home = g.at_home })
      ended o e false v h g = λ cs z left. let at = subst (λ j. slice_get code y.pc ≡ Some j) e there in is_over o at g.placed refl refl refl (left o at).0 (left o at).1 g.given (record { number = g.named; home = g.at_home })

      at_home : (j : Instr) (p : Phase) → AsksHome j p → Asks j
      at_home (instr.Join o) p a = tt
      at_home (instr.Dup w) p a = tt
      at_home (instr.Lock w) p a = tt
      at_home j p a = absurd a

      home : (p : Phase) (h : Hand) → AsksHome i p → h.thread.gift ≡ None → Of F h → E h.work.rest (record h.thread { phase = p })
      home p h a q g = λ left. asks_home i p there a g.placed refl q (g.passes (at_home i p a)) g.walks (record { number = g.named; home = g.at_home })

  -- a step makes its thread go on so
  step_goes : (r : Rest) (h : Hand) → h.thread ≡ y → Gives (EndsStep E) (step n i h)
  step_goes r h e = steps i h (λ f. small (subst (λ t. Follows (access_of i t)) e f)) (λ f. passes (subst (λ t. Writes (access_of i t)) e f)) acts (λ h2 s q u. moves_by i s h2 (λ w c v z. tt)) (subst (λ t. Framed i y h.work.rest t) (sym e) (framed i y h.work.rest))

-- THE END OF A THREAD

module _ (o : Operand) (y : ThreadState) where
  -- as it was, without its operand
  abbrev Bared : Hand → Type 0
  Bared h = (h.thread.slots ≡ y.slots) × Without o y.temps h.thread.temps

  pops_bare : (x : Operand) (h : Hand) → x ≡ o → h.thread ≡ y → Gives (λ (p : Popped Value). Bared p.hand) (pop x h)
  pops_bare (operand.Const m) h e q = (ap (λ (t : ThreadState). t.slots) q, subst (λ z. Without z y.temps h.thread.temps) e (ap (λ (t : ThreadState). t.temps) q))
  pops_bare operand.Unit h e q = (ap (λ (t : ThreadState). t.slots) q, subst (λ z. Without z y.temps h.thread.temps) e (ap (λ (t : ThreadState). t.temps) q))
  pops_bare operand.Pop h e q = map_gives (λ (p : Popped Value). Bared p.hand) (last_of h.thread.temps) _ (λ v z. (ap (λ (t : ThreadState). t.slots) q, subst (λ z. Without z y.temps (front_of h.thread.temps)) e (ap (λ (t : ThreadState). front_of t.temps) q)))

  ends_bare : (main : Bool) (v : Owned) (h : Hand) → Bared h → Gives Bared (end_with main v h)
  ends_bare true v h a = a
  ends_bare false v h a = a

  settles_bare : (h : Hand) (l : Option (List Copy)) → Bared h
      → Gives (EndsStep (λ r t. (t.slots ≡ y.slots) × Without o y.temps t.temps)) (option_map (done_step fresh.None) (option_map (λ cs. record { work = with_cache cs h.work; thread = record h.thread { passed = 0; walk = []; moved_since_step = false } }) l))
  settles_bare h None a = tt
  settles_bare h (Some cs) a = a

  over_bare : (x : Option Hand) → Gives Bared x → Gives (EndsStep (λ r t. (t.slots ≡ y.slots) × Without o y.temps t.temps)) (committed (done_where fresh.None (option_map (with_phase phase.Over) x)))
  over_bare None a = tt
  over_bare (Some h) a = settles_bare (with_phase phase.Over h) (unpin_all h.thread.walk h.work.rest.cache) a

  end_bares : (n : ℕ) (h : Hand) → h.thread ≡ y → Gives (EndsStep (λ r t. (t.slots ≡ y.slots) × Without o y.temps t.temps)) (step n (instr.End o) h)
  end_bares n h q =
      over_bare (then_some (pop_owned o h) (λ p. end_with (h.thread.number == 0) p.item p.hand))
      (bind_gives (λ (p : Popped Owned). Bared p.hand) Bared (pop_owned o h) _
      (bind_gives (λ (p : Popped Value). Bared p.hand) (λ (p : Popped Owned). Bared p.hand) (pop o h) _ (pops_bare o h refl q) (λ p u. map_gives (λ (r : Popped Owned). Bared r.hand) (owned_of p.item) _ (λ v z. u)))
      (λ p u. ends_bare (h.thread.number == 0) p.item p.hand u))

module _ (code : List Instr) (n : ℕ) (i : Instr) (y : ThreadState) (there : slice_get code y.pc ≡ Some i) where
  -- a step at its end leaves its slots, and takes its operand
  leaves_by : (j : Instr) → i ≡ j → (h : Hand) → h.thread ≡ y → Gives (EndsStep (λ r t. EndLeaves code y t)) (step n j h)
  leaves_by j e h q = by (step n j h) (ending j e h q)
    where
      ending : (j : Instr) → i ≡ j → (h : Hand) → h.thread ≡ y → (o : Operand) → slice_get code y.pc ≡ Some (instr.End o) → Gives (EndsStep (λ r t. (t.slots ≡ y.slots) × Without o y.temps t.temps)) (step n j h)
      ending j e h q o at =
          let same : j ≡ instr.End o = sym e ∙ some_same (sym there ∙ at) in
          subst (λ x. Gives (EndsStep (λ r t. (t.slots ≡ y.slots) × Without o y.temps t.temps)) (step n x h)) (sym same) (end_bares o y n h q)
        where
          some_same : {a b : Instr} → Some a ≡ Some b → a ≡ b
          some_same e = cc

      by : (d : Option Stepped) → ((o : Operand) → slice_get code y.pc ≡ Some (instr.End o) → Gives (EndsStep (λ r t. (t.slots ≡ y.slots) × Without o y.temps t.temps)) d) → Gives (EndsStep (λ r t. EndLeaves code y t)) d
      by None f = tt
      by (Some d) f = f

  pub thread_goes : (r : Rest) (h : Hand) → h.thread ≡ y → Gives (EndsStep (λ r t. Goes code y t)) (step n i h)
  thread_goes r h e =
      both_give (EndsStep (λ r t. EndLeaves code y t → Goes code y t)) (EndsStep (λ r t. EndLeaves code y t)) (EndsStep (λ r t. Goes code y t)) (step n i h)
      (step_goes code n i y there r h e) (leaves_by i refl h e) (λ d f x. f x)

-- ANSWERS

-- the phase that waits for that
waits_cell : (p : Phase) (w : ℕ) → waits_for_cell p w ≡ true → (v : ℕ) × (p ≡ phase.WaitCell v)
waits_cell (phase.WaitCell v) w e = (v, refl)
waits_cell p w e = absurd (cc e)

waits_lock : (p : Phase) (m : MutexNo) → waits_for_lock p m ≡ true → IsAsking p
waits_lock (phase.WaitLock n) m e = tt
waits_lock p m e = absurd (cc e)

waits_dup : (p : Phase) (m : MutexNo) → waits_for_dup p m ≡ true → IsAsking p
waits_dup (phase.WaitDup n) m e = tt
waits_dup p m e = absurd (cc e)

no_share_locked : (v : Owned) (p : Phase) (m : MutexNo) → waits_for_lock p m ≡ true → Shares p (Some v)
no_share_locked v (phase.WaitLock n) m e = tt
no_share_locked v p m e = absurd (cc e)

no_share_joined : (v : Owned) (p : Phase) (u : ℕ) → waits_for_join p u ≡ true → Shares p (Some v)
no_share_joined v (phase.WaitJoin x) u e = tt
no_share_joined v p u e = absurd (cc e)

its_share : (p : Phase) (m : MutexNo) → waits_for_dup p m ≡ true → Shares p (Some (owned.Mutex m))
its_share (phase.WaitDup n) m e = ap (λ a. Some (owned.Mutex a)) (sym (same_mutexes n m e))
its_share p m e = absurd (cc e)

waits_join : (p : Phase) (u : ℕ) → waits_for_join p u ≡ true → IsAsking p
waits_join (phase.WaitJoin x) u e = tt
waits_join p u e = absurd (cc e)

-- what a thread keeps while a pointer of it gets a word
pub record Still (y : ThreadState) (number home pc : ℕ) (gift : Option Owned) : Type 0 where
  pub named : number ≡ y.number
  pub at_home : home ≡ y.home
  pub placed : pc ≡ y.pc
  pub given : gift ≡ y.gift

-- a phase that waits for a pair, and the one once both are over
record BothOver (p q : Phase) : Type 0 where
  first : ℕ
  second : ℕ
  was : p ≡ phase.WaitPar first second
  now : q ≡ phase.GotPar first second

module _ (code : List Instr) (y : ThreadState) where
  abbrev S : Rest → ThreadState → Type 0
  S r t = Still y t.number t.home t.pc t.gift

  -- it goes on as one that gets what it waited for
  abbrev Gets : ThreadState → Type 0
  Gets t = (g : Goes code y t) × IsGotten g

  abbrev pub GoesOn : Hand → Type 0
  GoesOn h = Gets h.thread

  abbrev StillHand : Hand → Type 0
  StillHand h = S h.work.rest h.thread

  puts_still : (s : Spot) (v : Value) (h : Hand) → StillHand h → Gives StillHand (put_at s v h)
  puts_still s v h g = puts_by S (λ vs r t u. u) (λ vs r t u. u) (λ h2 w x u. u) s v h g

  pointer_still : (s : Spot) (w : ℕ) (h : Hand) → StillHand h → Gives StillHand (set_pointer s w h)
  pointer_still s w h g = then_gives StillHand (value_at h s) _ (λ v q. then_gives StillHand (with_word w v) _ (λ new e. puts_still s new h g))

  -- it is as it was, and has what it waited for
  abbrev HasIt : Hand → Type 0
  HasIt h = StillHand h × HasCell h.thread.phase

  comes_at : (new : ℕ) (s : Spot) (h : Hand) → StillHand h → Gives HasIt (arrived_at s new h)
  comes_at new s h a = over_gives StillHand HasIt (set_pointer s new h) (with_phase phase.Got) (pointer_still s new h a) (λ h2 b. (b, tt))

  comes_slot : (old new j : ℕ) (h : Hand) → StillHand h → Gives HasIt (arrived_slot old new j h)
  comes_slot old new j h a = test_gives HasIt (waits_under old (slice_get h.thread.slots j)) _ (λ z. comes_at new (in_slot j) h a)

  comes_write : (w : Lval) (new : ℕ) (h : Hand) → StillHand h → Gives HasIt (arrived_write w new h)
  comes_write w new h a = then_gives HasIt (passed_spot (write_stars h.thread.passed 0 h (in_slot w.slot))) _ (λ s q. comes_at new s (passing (h.thread.passed + 1) h) a)

  comes_lend : (slot d old new : ℕ) (h : Hand) → StillHand h → Gives HasIt (arrived_lend slot d old new h)
  comes_lend slot zero old new h a = tt
  comes_lend slot (suc zero) old new h a = (a, tt)
  comes_lend slot (suc (suc d)) old new h a = by (waits_under old (slice_get h.thread.slots (chased d h.thread.slots slot)))
    where
      by : (b : Bool) → Gives HasIt (if b then arrived_at (in_slot (chased d h.thread.slots slot)) new h else Some (with_phase (phase.Taken new) h))
      by true = comes_at new (in_slot (chased d h.thread.slots slot)) h a
      by false = (a, tt)

  comes_end : (s : Spot) (v : Option Value) (old new : ℕ) (h : Hand) → StillHand h → Gives HasIt (arrived_end s v old new h)
  comes_end s (Some (value.Mut q)) old new h a = by (q.word == old)
    where
      by : (b : Bool) → Gives HasIt (if b then arrived_at s new h else arrived_write q.holder new h)
      by true = comes_at new s h a
      by false = comes_write q.holder new h a
  comes_end s _ old new h a = tt

  comes_for : (x : Option Access) (old new : ℕ) (h : Hand) → StillHand h → Gives HasIt (arrived x old new h)
  comes_for None old new h a = tt
  comes_for (Some (ReadTo w)) old new h a = comes_slot old new (chased (w.depth - 1) h.thread.slots w.slot) h a
  comes_for (Some (ReadPointer w)) old new h a = comes_slot old new (chased (w.depth - 1) h.thread.slots w.slot) h a
  comes_for (Some (WriteTo w)) old new h a = comes_write w new h a
  comes_for (Some (LendTo w)) old new h a = comes_lend w.slot w.depth old new h a
  comes_for (Some (EndRef s)) old new h a = comes_end s (value_at h s) old new h a

  gotten : (w : ℕ) → y.phase ≡ phase.WaitCell w → (h : Hand) → HasIt h → GoesOn h
  gotten w e h g = let a = g.0 in (gets_cell w e g.1 a.placed a.given (record { number = a.named; home = a.at_home }), tt)

  -- an object comes
  pub moved_goes : (old : ℕ) (c : Cell) (h : Hand) → h.thread ≡ y → Gives GoesOn (deliver_moved code old c h)
  moved_goes old c h e =
      test_gives GoesOn (waits_for_cell h.thread.phase old) _ (λ z.
      let w = waits_cell h.thread.phase old z in
      over_all w _ (bind_gives (λ (m : NewWord). ⊤) HasIt (issue_placed (act.Take c.object old) c h.work) _
      (test_gives (λ (m : NewWord). ⊤) (can_grow h.work.rest.partition) _ (λ p. tt)) (λ m b. comes_for (instr_access h (slice_get code h.thread.pc)) old m.word (record h { work = m.work }) still)))
    where
      still : S h.work.rest h.thread
      still = subst (λ (t : ThreadState). S h.work.rest t) (sym e) (record { named = refl; at_home = refl; placed = refl; given = refl })

      over_all : (v : ℕ) × (h.thread.phase ≡ phase.WaitCell v) → (o : Option Hand) → Gives HasIt o → Gives GoesOn o
      over_all w o a = weaker HasIt GoesOn o a (λ h2 b. gotten w.0 (subst (λ (t : ThreadState). t.phase ≡ phase.WaitCell w.0) e w.1) h2 b)

  still_uses : (v : ℕ) (b : Bool) (h : Hand) → StillHand h → Gives StillHand (used_once v b h)
  still_uses v true h a = a
  still_uses v false h a = test_gives StillHand (can_pin h.work.rest.cache v) _ (λ z. a)

  -- a copy comes
  pub fetched_goes : (v : ℕ) (c : Cell) (h : Hand) → h.thread ≡ y → Gives GoesOn (deliver_fetched v c h)
  fetched_goes v c h e =
      test_gives GoesOn (waits_for_cell h.thread.phase v) _ (λ z.
      let w = waits_cell h.thread.phase v z in
      over_gives StillHand GoesOn (filled v c h) _ (test_gives StillHand (can_fill h.work.rest.cache v c) _ (λ p. still_uses v (is_in v h.thread.walk) _ still))
      (λ h2 b.
      let waits : y.phase ≡ phase.WaitCell w.0 = subst (λ (t : ThreadState). t.phase ≡ phase.WaitCell w.0) e w.1 in
      (gets_cell w.0 waits tt b.placed b.given (record { number = b.named; home = b.at_home }), tt)))
    where
      still : S h.work.rest h.thread
      still = subst (λ (t : ThreadState). S h.work.rest t) (sym e) (record { named = refl; at_home = refl; placed = refl; given = refl })

  gives_it : (v : Owned) (g : Option Owned) (h : Hand) → h.thread ≡ y → IsAsking y.phase → Shares y.phase (Some v) → Gives GoesOn (given v g h)
  gives_it v (Some u) h e a f = tt
  gives_it v None h e a f = subst (λ (t : ThreadState). Gets (record t { gift = Some v; phase = phase.Got })) (sym e) (gets_gift a refl refl refl refl refl f (record { number = refl; home = refl }), tt)

  asking : (h : Hand) → h.thread ≡ y → IsAsking h.thread.phase → IsAsking y.phase
  asking h e a = subst (λ (t : ThreadState). IsAsking t.phase) e a

  sharing : (v : Owned) (h : Hand) → h.thread ≡ y → Shares h.thread.phase (Some v) → Shares y.phase (Some v)
  sharing v h e a = subst (λ (t : ThreadState). Shares t.phase (Some v)) e a

  -- a content, a share, a result comes
  pub granted_goes : (m : MutexNo) (v : Owned) (h : Hand) → h.thread ≡ y → Gives GoesOn (deliver_granted m v h)
  granted_goes m v h e = test_gives GoesOn (waits_for_lock h.thread.phase m) _ (λ z. gives_it v h.thread.gift h e (asking h e (waits_lock h.thread.phase m z)) (sharing v h e (no_share_locked v h.thread.phase m z)))

  pub dupped_goes : (m : MutexNo) (h : Hand) → h.thread ≡ y → Gives GoesOn (deliver_dupped m h)
  dupped_goes m h e = test_gives GoesOn (waits_for_dup h.thread.phase m) _ (λ z. gives_it (owned.Mutex m) h.thread.gift h e (asking h e (waits_dup h.thread.phase m z)) (sharing (owned.Mutex m) h e (its_share h.thread.phase m z)))

  pub joined_goes : (u : ℕ) (v : Owned) (h : Hand) → h.thread ≡ y → Gives GoesOn (deliver_joined u v h)
  joined_goes u v h e = test_gives GoesOn (waits_for_join h.thread.phase u) _ (λ z. gives_it v h.thread.gift h e (asking h e (waits_join h.thread.phase u z)) (sharing v h e (no_share_joined v h.thread.phase u z)))

  both_over : (u : ℕ) (p : Phase) → Gives (BothOver p) (got_par u p)
  both_over u (phase.WaitPar a b) = test_gives (BothOver (phase.WaitPar a b)) ((a == u) || (b == u)) _ (λ w. record { first = a; second = b; was = refl; now = refl })
  both_over u p = tt

  -- a pair is over
  pub pair_goes : (u : ℕ) (h : Hand) → h.thread ≡ y → Gives GoesOn (pair_over u h)
  pair_goes u h e =
      over_gives (BothOver h.thread.phase) GoesOn (got_par u h.thread.phase) (λ q. with_phase q h) (both_over u h.thread.phase) (λ q w.
      let was : y.phase ≡ phase.WaitPar w.first w.second = subst (λ (t : ThreadState). t.phase ≡ phase.WaitPar w.first w.second) e w.was in
      subst (λ (t : ThreadState). Gets (record t { phase = q })) (sym e) (goes_pair w.first w.second was w.now refl refl refl refl (record { number = refl; home = refl }), tt))
