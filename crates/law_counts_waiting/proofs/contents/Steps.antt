-- A step leaves the contents and homes of its server balanced: a mark comes where a content's gift goes, and goes where the content is sent.
use Rattle.std.proofs.Common.{◌≡◌, ℕ, ◌+◌, Bool, true, false, List, [], ◌∷◌, ◌++◌, map, Option, Some, None, refl, ap, subst, ◌∙◌, arith}
use Rattle.std.specs.Prelude.{slice_get, option_map, is_some}
use Rattle.law_counts_waiting.specs.Below.fr_base.Lists.{last_of}
use Rattle.law_counts_waiting.specs.Below.fr_base.declared.name.MutexNo.{MutexNo}
use Rattle.law_counts_waiting.specs.Below.fr_base.declared.place.Lval.{Lval}
use Rattle.law_counts_waiting.specs.Below.fr_base.declared.instruction.Instr.{Instr}
use Rattle.law_counts_waiting.specs.Below.fr_base.declared.instruction.Instr.TheVariants as instr
use Rattle.law_counts_waiting.specs.Below.fr_base.declared.step.Fresh.TheVariants as fresh
use Rattle.law_counts_waiting.specs.Below.heap_partition.declared.value.Owned.{Owned}
use Rattle.law_counts_waiting.specs.Below.migration.Packing.{unpin_all}
use Rattle.law_counts_waiting.specs.Below.read_cache.Cache.{Copy}
use Rattle.law_counts_waiting.specs.Below.thread_state.View.{ThreadState, new_thread}
use Rattle.law_counts_waiting.specs.Below.thread_state.declared.phase.Phase.{Phase}
use Rattle.law_counts_waiting.specs.Below.thread_state.declared.phase.Phase.TheVariants as phase
use Rattle.law_counts_waiting.specs.Below.thread_state.declared.value.Value.{Value}
use Rattle.law_counts_waiting.specs.Below.thread_state.declared.value.Value.TheVariants as value
use Rattle.law_counts_waiting.specs.Below.server_msgs.declared.message.Message.TheVariants as message
use Rattle.law_counts_waiting.specs.Below.journal.View.{EntryView}
use Rattle.law_counts_waiting.specs.Below.server_model.declared.event.What.TheVariants.{Step}
use Rattle.law_counts_waiting.specs.Below.server_model.Servers.{Rest, Server, Cluster, server_at}
use Rattle.law_counts_waiting.specs.Below.server_model.Work.{Hand, Popped, thread_in, then_some, pop_slot, taken_as, owned_of, with_cache, sent_from}
use Rattle.law_counts_waiting.specs.Below.server_model.Prepare.{Prepared, ready, requested, nothing, access_of, prepare}
use Rattle.law_counts_waiting.specs.Below.server_model.Commit.{Committed, done, waits, refused, goes_on, go_on, held_of, send_content, unlock, commit}
use Rattle.law_counts_waiting.specs.Below.server_model.Events.{can_step, enabled, Stepped, begin_work, done_step, committed, prepared, step, step_in, stepped, does}
use Rattle.law_counts_waiting.specs.Below.coherent_memory.Names.{tot, other, if_so}
use Rattle.law_counts_waiting.specs.Below.coherent_memory.Things.{things_at, gift_things, walk_things, slot_things, temp_things, things_of}
use Rattle.law_counts_waiting.specs.Below.coherent_memory.Sight.{sight}
use Rattle.law_counts_waiting.specs.Below.coherent_memory.Requests.{is_par_end, is_par, same_truth, par_end}
use Rattle.law_counts_waiting.specs.Below.coherent_memory.Sharing.{some_mutex, loose_mark}
use Rattle.law_counts_waiting.specs.Below.coherent_memory.Coherent.{IsSound}
use Rattle.law_counts_waiting.proofs.Below.coherent_memory.Sums.{tot-append}
use Rattle.law_counts_waiting.specs.Below.coherent_types.ClusterTypes.{IsCoherent}
use Rattle.law_counts_waiting.specs.Below.law_counts_sums.Laws.{Gives, FewEvents}
use Rattle.law_counts_waiting.proofs.Below.law_counts_sums.Results.{map_gives, over_gives, bind_gives, both_give, weaker}
use Rattle.law_counts_waiting.proofs.Below.law_counts_sums.Bags.{all_standing, rest_things, server_same, thread_number, tot-without}
use Rattle.law_counts_waiting.proofs.Below.law_counts_sums.Events.{tot-server}
use Rattle.law_counts_waiting.proofs.Below.law_counts_sums.GiftsTaken.{none_here, gift_fits}
use Rattle.law_counts_waiting.proofs.Below.law_counts_sums.QuietSteps.{GiftFits}
use Rattle.law_counts_waiting.specs.Below.law_heap_still.events.Shows.{frame_of}
use Rattle.law_counts_waiting.proofs.Below.law_heap_still.events.Addresses.{in_place}
use Rattle.law_counts_waiting.proofs.Below.law_heap_still.events.Leaving.{others, placed_here}
use Rattle.law_counts_waiting.proofs.Below.law_heap_still.events.Hands.{IsQuiet}
use Rattle.law_counts_waiting.proofs.Below.law_heap_still.events.Readied.{Readied, IsPlaced}
use Rattle.law_counts_waiting.proofs.Below.law_heap_still.events.Prepares.{prepare_shows, Fine as Shows}
use Rattle.law_counts_waiting.proofs.Below.law_heap_still.events.Undone.{step_quiet}
use Rattle.law_counts_waiting.proofs.Below.law_counts_things.things.Small.{Made}
use Rattle.law_counts_waiting.proofs.Below.law_counts_things.things.Plainly.{Ends}
use Rattle.law_counts_waiting.proofs.Below.law_counts_things.things.Goes.{Goes, IsAsking, on, waits_pair, is_over, asks_cell, asks_home, gets_cell, gets_gift, goes_pair, thread_goes}
use Rattle.law_counts_waiting.proofs.Below.law_results_reads.Known.{Steps, able}
use Rattle.law_counts_waiting.specs.Below.law_counts_asking.Standing.{locked}
use Rattle.law_counts_waiting.proofs.Below.law_counts_asking.GiftsGot.{Bare, left_none, steps_bare}
use Rattle.law_counts_waiting.proofs.contents.Weigh.{mark, weight_of, body}
use Rattle.law_counts_waiting.proofs.contents.Mutexes.{homes}
use Rattle.law_counts_waiting.proofs.contents.Rests.{RestBalance}
use Rattle.law_counts_waiting.proofs.contents.Marks.{framed, last_sum}
use Rattle.law_counts_waiting.proofs.contents.Slots.{ready_held, LocksNone, Slots, StepSlots, committing}
use Rattle.law_counts_waiting.proofs.contents.Slots as slots
use Rattle.law_counts_waiting.proofs.contents.Says.{F, L, sent_weight, sent_mutexes, same_weight, prepares, committed_balance}
use Rattle.law_counts_waiting.proofs.contents.Deliveries.{Then, set_threads}
use Rattle.law_counts_waiting.proofs.contents.Asked.{asked_held}
use Rattle.law_counts_waiting.proofs.contents.Unmarked.{clear_for}
use Rattle.law_counts_waiting.proofs.contents.Gifts.{gift_of, bare_gift, unlocked_gift, gifts}
use Rattle.law_counts_waiting.proofs.contents.Locks.{with_gift, without_gift}

-- WHAT A STEP LEAVES OF A GIFT

-- who waits for a home can't step
asking_stops : (p : Phase) → IsAsking p → can_step p ≡ true → ⊥
asking_stops (phase.WaitLock m) a e = cc e
asking_stops (phase.WaitDup m) a e = cc e
asking_stops (phase.WaitJoin u) a e = cc e
asking_stops p a e = absurd a

-- a thread without a gift gets none in its step
stays_bare : (code : List Instr) (y y2 : ThreadState) → y.gift ≡ None → can_step y.phase ≡ true → Goes code y y2 → y2.gift ≡ None
stays_bare code y y2 e calm (on i at o pc q passed walk g same) = left_none y.gift y2.gift e g
stays_bare code y y2 e calm (waits_pair cs pc ds to a b at m q passed walk g same) = left_none y.gift y2.gift e g
stays_bare code y y2 e calm (is_over o at pc q passed walk slots temps g same) = left_none y.gift y2.gift e g
stays_bare code y y2 e calm (asks_cell i w at f pc q g same) = left_none y.gift y2.gift e g
stays_bare code y y2 e calm (asks_home i m at a pc q g passed walk same) = g
stays_bare code y y2 e calm (gets_cell w was q pc g same) = g ∙ e
stays_bare code y y2 e calm (gets_gift was q pc passed walk temps shares same) = absurd (asking_stops y.phase was calm)
stays_bare code y y2 e calm (goes_pair a b was q pc g passed walk same) = g ∙ e

-- a thread keeps its number
goes_number : {code : List Instr} {y y2 : ThreadState} → Goes code y y2 → y2.number ≡ y.number
goes_number (on i at o pc q passed walk g same) = same.number
goes_number (waits_pair cs pc ds to a b at m q passed walk g same) = same.number
goes_number (is_over o at pc q passed walk slots temps g same) = same.number
goes_number (asks_cell i w at f pc q g same) = same.number
goes_number (asks_home i p at a pc q g passed walk same) = same.number
goes_number (gets_cell w was q pc g same) = same.number
goes_number (gets_gift was q pc passed walk temps shares same) = same.number
goes_number (goes_pair a b was q pc g passed walk same) = same.number

-- TEMPORARY VALUES

-- no mark stands among them
temps_bare : (c : MutexNo → ℕ) (n t i : ℕ) (vs : List Value) → tot loose_mark (things_at (temp_things n t) i vs) ≡ 0 → tot (mark c) vs ≡ 0
temps_bare c n t i [] z = refl
temps_bare c n t i (v ∷ vs) z = by v (omega (arith, z, tot-append loose_mark (temp_things n t i v) (things_at (temp_things n t) (i + 1) vs))) (temps_bare c n t (i + 1) vs (omega (arith, z, tot-append loose_mark (temp_things n t i v) (things_at (temp_things n t) (i + 1) vs))))
  where
    by : (v : Value) → tot loose_mark (temp_things n t i v) ≡ 0 → tot (mark c) vs ≡ 0 → mark c v + tot (mark c) vs ≡ 0
    by (value.Held m) e rest = absurd (cc e)
    by value.Gone e rest = omega (arith, rest)
    by (value.Own u) e rest = omega (arith, rest)
    by (value.SharedSlot j) e rest = omega (arith, rest)
    by (value.MutSlot j) e rest = omega (arith, rest)
    by (value.Shared r) e rest = omega (arith, rest)
    by (value.Mut r) e rest = omega (arith, rest)

-- THE STEP

-- the end of a pair
is_end : (j : Instr) → is_par_end (Some j) ≡ true → j ≡ instr.ParEnd
is_end instr.ParEnd e = refl
is_end _ e = absurd (cc e)

-- who has no pair
unpaired : (q : Bool) → other (same_truth false q) ≡ 0 → q ≡ false
unpaired true z = absurd (cc z)
unpaired false z = refl

module _ (k : Cluster) (n t : ℕ) (s : Server) (y : ThreadState) (i : Instr) (z : Steps k n t s y i) (c : MutexNo → ℕ) where
  abbrev sound : IsSound k
  sound = z.coherent.sound

  abbrev h0 : Hand
  h0 = record { work = begin_work s.rest; thread = y }

  abbrev g : ThreadState → ℕ
  g = gift_of c k

  abbrev b : ThreadState → ℕ
  b = body c g

  abbrev a : ℕ
  a = weight_of c b s.rest

  abbrev hs : ℕ
  hs = homes c s.rest.mutexes

  abbrev held : ℕ
  held = tot (mark c) y.slots

  abbrev servers : ℕ
  servers = k.options.servers

  -- it can step
  calm : can_step y.phase ≡ true
  calm = able k n t s y i z

  -- ITS PLACE

  -- each address has one state
  placed : IsPlaced h0
  placed = in_place s.rest.number s.events s.rest (others k sound n s z.here) (placed_here k sound n s z.here)

  -- nothing is said on the way but a request
  silent : Made (F s.rest y) (L s.rest y) (prepare (access_of i y) h0)
  silent = prepares s.rest y (access_of i y) h0 (record { inbox_same = refl; outbox_same = refl; mutexes_same = refl; gift_same = refl })

  -- and the thread shows what it showed
  shows : Shows h0 (prepare (access_of i y) h0)
  shows = prepare_shows h0 (access_of i y) placed

  -- it is at the end of a pair where it has one
  fits : other (same_truth (is_par_end (Some i)) (is_par y.phase)) ≡ 0
  fits = subst (λ j. other (same_truth (is_par_end j) (is_par y.phase)) ≡ 0) z.code (none_here k sound n s z.here t y z.at (par_end (sight k)) sound.requests.par_ends)

  -- who asks for an object or a copy has no pair
  quiet : (h : Hand) → prepare (access_of i y) h0 ≡ requested h → IsQuiet y.phase
  quiet h e = by (is_par_end (Some i)) refl fits
    where
      by : (q : Bool) → is_par_end (Some i) ≡ q → other (same_truth q (is_par y.phase)) ≡ 0 → IsQuiet y.phase
      by true q w = let there : prepare (access_of instr.ParEnd y) h0 ≡ requested h = subst (λ j. prepare (access_of j y) h0 ≡ requested h) (is_end i q) e in absurd (cc there)
      by false q w = step_quiet y.phase calm (unpaired (is_par y.phase) w)

  -- where something is asked for its slots have the marks that they had
  asked : (h : Hand) → prepare (access_of i y) h0 ≡ requested h → tot (mark c) h.thread.slots ≡ held
  asked h e = asked_held c h0 h y (subst (Shows h0) e shows (quiet h e)) (subst (Made (F s.rest y) (L s.rest y)) e silent)

  -- no mark stands among its temporary values
  temps : tot (mark c) y.temps ≡ 0
  temps =
      let f = loose_mark in
      let m = s.rest.number in
      let all : tot f (things_of k) ≡ 0 = sound.mutexes_and_tasks.marks_in_slots in
      let q = gift_things y.number y.gift in
      let w = things_at (walk_things m) 0 y.walk in
      let vs = things_at (slot_things m y.number) 0 y.slots in
      let us = things_at (temp_things m y.number) 0 y.temps in
      temps_bare c m y.number 0 y.temps
      (omega (arith, all, (tot-server f k.servers n s s z.here).0, server_same s f, tot-append f (all_standing m s.threads) (rest_things m s.events s.rest), tot-without m f s.threads t y z.at, tot-append f (q ++ w ++ vs) us))

  -- where its place is ready its slots have the frames that they had
  frames : (h : Hand) → Readied h0 h → map frame_of h.thread.slots ≡ map frame_of y.slots
  frames h r = ap (λ (x : ThreadState). map frame_of x.slots) r.thread ∙ r.slots_framed

  -- and no mark stands among its temporary values then
  temps_then : (h : Hand) → Readied h0 h → tot (mark c) h.thread.temps ≡ 0
  temps_then h r = ap (λ (x : ThreadState). tot (mark c) x.temps) r.thread ∙ framed c r.temps y.temps r.temps_framed ∙ temps

  -- ITS GIFT

  -- it has none afterwards
  gift_gone : Gives (λ (d : Stepped). d.hand.thread.gift ≡ None) (step servers i h0)
  gift_gone = by y.gift refl
    where
      by : (o : Option Owned) → y.gift ≡ o → Gives (λ (d : Stepped). d.hand.thread.gift ≡ None) (step servers i h0)
      by None q = weaker (λ (d : Stepped). Goes k.code y d.hand.thread) (λ (d : Stepped). d.hand.thread.gift ≡ None) (step servers i h0) (thread_goes k.code servers i y z.code s.rest h0 refl) (λ d u. stays_bare k.code y d.hand.thread q calm u)
      by (Some v) q = weaker Bare (λ (d : Stepped). d.hand.thread.gift ≡ None) (step servers i h0) (steps_bare k n t s y i v z q (subst (GiftFits i) q (gift_fits k sound n s z.here t y z.at i z.code).0)) (λ d u. u.0)

  -- it keeps its number
  numbered : Gives (λ (d : Stepped). d.hand.thread.number ≡ y.number) (step servers i h0)
  numbered = weaker (λ (d : Stepped). Goes k.code y d.hand.thread) (λ (d : Stepped). d.hand.thread.number ≡ y.number) (step servers i h0) (thread_goes k.code servers i y z.code s.rest h0 refl) (λ d u. goes_number u)

  -- elsewhere than at a lock it weighs nothing
  no_lock : locked (sight k).ground y.number (Some i) ≡ None → g y ≡ 0
  no_lock e = unlocked_gift c k y (ap (locked (sight k).ground y.number) z.code ∙ e)

  -- MESSAGES AND MUTEXES

  -- a new thread without a mark weighs nothing
  young : (u pc : ℕ) (vs : List Value) → tot (mark c) vs ≡ 0 → b (new_thread u pc vs) ≡ 0
  young u pc vs e = omega (arith, e, bare_gift c k (new_thread u pc vs) refl)

  abbrev Balanced : Stepped → Type 0
  Balanced d = RestBalance c b a hs d.hand.work.rest

  -- the step is done at its end
  rest_committing : (x : Committed) → Ends (λ (r : Rest) (u : ThreadState). RestBalance c b a hs r) x → Gives Balanced (committed x)
  rest_committing (done names h) e = by (unpin_all h.thread.walk h.work.rest.cache) refl
    where
      by : (o : Option (List Copy)) → unpin_all h.thread.walk h.work.rest.cache ≡ o
          → Gives Balanced (option_map (done_step names) (option_map (λ cs. record { work = with_cache cs h.work; thread = record h.thread { passed = 0; walk = []; moved_since_step = false } }) o))
      by None q = tt
      by (Some cs) q = e cs q
  rest_committing (waits h) e = e
  rest_committing refused e = tt

  -- messages and mutexes are balanced afterwards
  rest_after : (i ≡ instr.Unlock → ⊥) → Gives Balanced (step servers i h0)
  rest_after ne = by (prepare (access_of i y) h0) silent
    where
      by : (p : Prepared) → Made (F s.rest y) (L s.rest y) p → Gives Balanced (prepared servers i p)
      by (ready h sp) m = rest_committing (commit servers i sp h) (committed_balance c b young a hs servers i ne sp h (omega (arith, same_weight s.rest y c b h.work.rest h.thread m, ap (homes c) m.mutexes_same)))
      by (requested h) m = omega (arith, m.weighs c b, ap (homes c) m.mutexes_same)
      by nothing m = tt

  -- SLOTS

  -- the marks stay
  plain_slots : LocksNone c i → Gives (StepSlots c held) (step servers i h0)
  plain_slots l = by (prepare (access_of i y) h0) refl shows
    where
      by : (p : Prepared) → prepare (access_of i y) h0 ≡ p → Shows h0 p → Gives (StepSlots c held) (prepared servers i p)
      by (ready h sp) e f = committing c held (commit servers i sp h) (slots.commits c held servers i sp h l (clear_for k n t s y i z c i refl h sp e (frames h f.0)) (temps_then h f.0) (ready_held c h0 h f.0))
      by (requested h) e f = asked h e
      by nothing e f = tt

  -- WHAT IT WEIGHS

  -- messages, mutexes and its thread weigh what they did
  abbrev pub Done : Stepped → Type 0
  Done d = (weight_of c b d.hand.work.rest + b d.hand.thread + hs ≡ a + b y + homes c d.hand.work.rest.mutexes) × (d.hand.thread.number ≡ y.number)

  -- the marks in its slots, once its gift is gone
  abbrev Gains : Stepped → Type 0
  Gains d = d.hand.thread.gift ≡ None → tot (mark c) d.hand.thread.slots ≡ held + g y

  -- all of it
  together : Gives Balanced (step servers i h0) → Gives Gains (step servers i h0) → Gives Done (step servers i h0)
  together r m =
      both_give (λ (d : Stepped). Balanced d × Gains d) (λ (d : Stepped). (d.hand.thread.gift ≡ None) × (d.hand.thread.number ≡ y.number)) Done (step servers i h0)
      (both_give Balanced Gains (λ (d : Stepped). Balanced d × Gains d) (step servers i h0) r m (λ d u v. (u, v)))
      (both_give (λ (d : Stepped). d.hand.thread.gift ≡ None) (λ (d : Stepped). d.hand.thread.number ≡ y.number) (λ (d : Stepped). (d.hand.thread.gift ≡ None) × (d.hand.thread.number ≡ y.number)) (step servers i h0) gift_gone numbered (λ d u v. (u, v)))
      (λ d u v. (omega (arith, u.0, u.1 v.0, bare_gift c k d.hand.thread v.0), v.1))

  -- neither a lock nor an unlock
  plain_done : LocksNone c i → (i ≡ instr.Unlock → ⊥) → locked (sight k).ground y.number (Some i) ≡ None → Gives Done (step servers i h0)
  plain_done l ne e = together (rest_after ne) (weaker (StepSlots c held) Gains (step servers i h0) (plain_slots l) (λ d u bare. omega (arith, u, no_lock e)))

-- a lock
lock_done : (k : Cluster) (n t : ℕ) (s : Server) (y : ThreadState) (w : Lval) (z : Steps k n t s y (instr.Lock w)) (c : MutexNo → ℕ) → Gives (Done k n t s y (instr.Lock w) z c) (step k.options.servers (instr.Lock w) (record { work = begin_work s.rest; thread = y }))
lock_done k n t s y w z c = together k n t s y (instr.Lock w) z c (rest_after k n t s y (instr.Lock w) z c (λ e. cc e)) (by y.gift refl)
  where
    by : (o : Option Owned) → y.gift ≡ o → Gives (Gains k n t s y (instr.Lock w) z c) (step k.options.servers (instr.Lock w) (record { work = begin_work s.rest; thread = y }))
    by None q =
        weaker _ (Gains k n t s y (instr.Lock w) z c) (step k.options.servers (instr.Lock w) (record { work = begin_work s.rest; thread = y }))
        (without_gift k n t s y w z (placed k n t s y (instr.Lock w) z c) c k.options.servers q (λ h e. asked k n t s y (instr.Lock w) z c h e)) (λ d u bare. omega (arith, u, bare_gift c k y q))
    by (Some v) q =
        weaker _ (Gains k n t s y (instr.Lock w) z c) (step k.options.servers (instr.Lock w) (record { work = begin_work s.rest; thread = y }))
        (with_gift k n t s y w z (placed k n t s y (instr.Lock w) z c) c k.options.servers v q) (λ d u bare. omega (arith, u bare, its_gift))
      where
        its_gift : gift_of c k y ≡ some_mutex c (locked (sight k).ground y.number (Some (instr.Lock w)))
        its_gift =
            ap (λ (o : Option Owned). if_so (is_some o) (some_mutex c (locked (sight k).ground y.number (slice_get k.code y.pc)))) q ∙ ap (λ j. some_mutex c (locked (sight k).ground y.number j)) z.code

-- an unlock: the mark goes, and the content is sent
unlock_done : (k : Cluster) (n t : ℕ) (s : Server) (y : ThreadState) (z : Steps k n t s y instr.Unlock) (c : MutexNo → ℕ) → Gives (Done k n t s y instr.Unlock z c) (step k.options.servers instr.Unlock (record { work = begin_work s.rest; thread = y }))
unlock_done k n t s y z c =
    both_give (λ (d : Stepped). U d.hand) (λ (d : Stepped). (d.hand.thread.gift ≡ None) × (d.hand.thread.number ≡ y.number)) (Done k n t s y instr.Unlock z c) (step k.options.servers instr.Unlock h1)
    (settled (unlock h1) unlocks)
    (both_give (λ (d : Stepped). d.hand.thread.gift ≡ None) (λ (d : Stepped). d.hand.thread.number ≡ y.number) (λ (d : Stepped). (d.hand.thread.gift ≡ None) × (d.hand.thread.number ≡ y.number)) (step k.options.servers instr.Unlock h1) (gift_gone k n t s y instr.Unlock z c) (numbered k n t s y instr.Unlock z c) (λ d u v. (u, v)))
    (λ d u v. (omega (arith, u, bare_gift c k d.hand.thread v.0, no_lock k n t s y instr.Unlock z c refl), v.1))
  where
    b1 : ThreadState → ℕ
    b1 = body c (gift_of c k)

    h1 : Hand
    h1 = record { work = begin_work s.rest; thread = y }

    U : Hand → Type 0
    U h = weight_of c (body c (gift_of c k)) h.work.rest + tot (mark c) h.thread.slots + homes c s.rest.mutexes ≡ weight_of c (body c (gift_of c k)) s.rest + tot (mark c) y.slots + homes c h.work.rest.mutexes

    Owns : Popped Owned → Type 0
    Owns p = (p.hand.work.rest ≡ s.rest) × (tot (mark c) p.hand.thread.slots ≡ tot (mark c) y.slots)

    Any : Popped Value → Type 0
    Any p = (p.hand.work.rest ≡ s.rest) × (tot (mark c) p.hand.thread.slots + mark c p.item ≡ tot (mark c) y.slots)

    Marks : Popped MutexNo → Type 0
    Marks p = (p.hand.work.rest ≡ s.rest) × (tot (mark c) p.hand.thread.slots + c p.item ≡ tot (mark c) y.slots)

    own : (v : Value) (h : Hand) → Any (record { item = v; hand = h }) → Gives Owns (option_map (λ x. record { item = x; hand = h }) (owned_of v))
    own (value.Own u) h e = (e.0, omega (arith, e.1))
    own value.Gone h e = tt
    own (value.SharedSlot j) h e = tt
    own (value.MutSlot j) h e = tt
    own (value.Shared r) h e = tt
    own (value.Mut r) h e = tt
    own (value.Held m) h e = tt

    hold : (v : Value) (h : Hand) → Any (record { item = v; hand = h }) → Gives Marks (option_map (λ x. record { item = x; hand = h }) (held_of v))
    hold (value.Held m) h e = e
    hold value.Gone h e = tt
    hold (value.Own u) h e = tt
    hold (value.SharedSlot j) h e = tt
    hold (value.MutSlot j) h e = tt
    hold (value.Shared r) h e = tt
    hold (value.Mut r) h e = tt

    pops : (h : Hand) → h.work.rest ≡ s.rest → tot (mark c) h.thread.slots ≡ tot (mark c) y.slots → Gives Any (pop_slot h)
    pops h e f = map_gives Any (last_of h.thread.slots) _ (λ v q. (e, omega (arith, last_sum c h.thread.slots v q, f)))

    unlocks : Gives U (unlock h1)
    unlocks =
        bind_gives Owns U (then_some (pop_slot h1) (taken_as owned_of)) _ (bind_gives Any Owns (pop_slot h1) (taken_as owned_of) (pops h1 refl refl) (λ p e. own p.item p.hand e)) (λ v e.
        over_gives Marks U (then_some (pop_slot v.hand) (taken_as held_of)) (λ m. send_content m.item v.item m.hand) (bind_gives Any Marks (pop_slot v.hand) (taken_as held_of) (pops v.hand e.0 e.1) (λ p f. hold p.item p.hand f)) (λ m f.
        let r = m.hand.work.rest in
        let sent : weight_of c (body c (gift_of c k)) (sent_from r m.item.home (message.Unlock m.item v.item)) ≡ weight_of c (body c (gift_of c k)) r + c m.item = sent_weight c (body c (gift_of c k)) m.item.home (message.Unlock m.item v.item) r in
        let there : homes c (sent_from r m.item.home (message.Unlock m.item v.item)).mutexes ≡ homes c s.rest.mutexes = ap (homes c) (sent_mutexes m.item.home (message.Unlock m.item v.item) r) ∙ ap (λ (q : Rest). homes c q.mutexes) f.0 in
        let before : weight_of c (body c (gift_of c k)) r ≡ weight_of c (body c (gift_of c k)) s.rest = ap (weight_of c (body c (gift_of c k))) f.0 in
        omega (arith, sent, there, before, f.1)))

    settled : (o : Option Hand) → Gives U o → Gives (λ (d : Stepped). U d.hand) (committed (goes_on o))
    settled None e = tt
    settled (Some h) e = by (unpin_all h.thread.walk h.work.rest.cache)
      where
        by : (o : Option (List Copy)) → Gives (λ (d : Stepped). U d.hand) (option_map (done_step fresh.None) (option_map (λ cs. record { work = with_cache cs (go_on h).work; thread = record (go_on h).thread { passed = 0; walk = []; moved_since_step = false } }) o))
        by None = tt
        by (Some cs) = e

-- whatever instruction
step_done : (k : Cluster) (n t : ℕ) (s : Server) (y : ThreadState) (i : Instr) (z : Steps k n t s y i) (c : MutexNo → ℕ) → Gives (Done k n t s y i z c) (step k.options.servers i (record { work = begin_work s.rest; thread = y }))
step_done k n t s y (instr.Lock w) z c = lock_done k n t s y w z c
step_done k n t s y instr.Unlock z c = unlock_done k n t s y z c
step_done k n t s y i z c = plain_done k n t s y i z c tt (λ e. cc e) refl

-- AT ITS SERVER

module _ (k : Cluster) (coherent : IsCoherent k) (few : FewEvents k) (n : ℕ) (s : Server) (here : server_at k.servers n ≡ Some s) (c : MutexNo → ℕ) where
  abbrev There : Server × EntryView → Type 0
  There = Then c s (gift_of c k) (gifts c k coherent.sound n s here)

  -- a step
  pub steps : (t : ℕ) → enabled k.options s (Step t) ≡ true → Gives There (does k.code k.options s (Step t))
  steps t able_to = by (thread_in s.threads t) refl
    where
      at : (y : ThreadState) → thread_in s.threads t ≡ Some y → (o : Option Instr) → slice_get k.code y.pc ≡ o → Gives There (option_map (stepped s) (then_some o (λ i. step k.options.servers i (record { work = begin_work s.rest; thread = y }))))
      at y q None e = tt
      at y q (Some i) e =
          let z : Steps k n t s y i = record { coherent = coherent; few = few; here = here; on = able_to; at = q; code = e } in
          over_gives (Done k n t s y i z c) There (step k.options.servers i (record { work = begin_work s.rest; thread = y })) (stepped s) (step_done k n t s y i z c) (λ d u.
          omega (arith, u.0, set_threads (body c (gift_of c k)) s.threads t y d.hand.thread q (u.1 ∙ thread_number s.threads t y q)))

      by : (o : Option ThreadState) → thread_in s.threads t ≡ o → Gives There (option_map (stepped s) (then_some (option_map (λ y. record { work = begin_work s.rest; thread = y }) o) (step_in k.code k.options.servers)))
      by None q = tt
      by (Some y) q = at y q (slice_get k.code y.pc) refl
