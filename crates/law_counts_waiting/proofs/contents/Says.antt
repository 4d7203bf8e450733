-- What a step says: making a place ready says nothing but a request for a copy or an object, and the plain step of each instruction but an unlock leaves contents
-- and homes balanced.
use Rattle.std.proofs.Common.{◌≡◌, ℕ, ◌+◌, ◌==◌, Bool, true, false, if◌then◌else◌, List, [], ◌∷◌, ◌++◌, Option, refl, ap, ◌∙◌, arith}
use Rattle.law_counts_waiting.specs.Below.fr_base.declared.name.MutexNo.{MutexNo}
use Rattle.law_counts_waiting.specs.Below.fr_base.declared.instruction.Instr.{Instr}
use Rattle.law_counts_waiting.specs.Below.fr_base.declared.instruction.Instr.TheVariants as instr
use Rattle.law_counts_waiting.specs.Below.global_addr.Words.{server_of}
use Rattle.law_counts_waiting.specs.Below.heap_partition.declared.value.Owned.{Owned}
use Rattle.law_counts_waiting.specs.Below.mutex_home.Mutexes.{Mutexes, can_make}
use Rattle.law_counts_waiting.specs.Below.join_home.Tasks.{can_begin, can_begin_pair}
use Rattle.law_counts_waiting.specs.Below.thread_state.View.{ThreadState, new_thread}
use Rattle.law_counts_waiting.specs.Below.thread_state.declared.phase.Phase.TheVariants as phase
use Rattle.law_counts_waiting.specs.Below.thread_state.declared.value.Value.{Value}
use Rattle.law_counts_waiting.specs.Below.thread_state.declared.value.Value.TheVariants as value
use Rattle.law_counts_waiting.specs.Below.server_msgs.declared.message.Message.{Message}
use Rattle.law_counts_waiting.specs.Below.server_msgs.declared.message.Message.TheVariants as message
use Rattle.law_counts_waiting.specs.Below.journal.declared.act.Act.TheVariants as act
use Rattle.law_counts_waiting.specs.Below.server_model.Servers.{Sent, Rest}
use Rattle.law_counts_waiting.specs.Below.server_model.Work.{Work, Hand, sent_from, with_phase}
use Rattle.law_counts_waiting.specs.Below.server_model.NewWords.{NewWord, can_grow, issue_placed}
use Rattle.law_counts_waiting.specs.Below.server_model.Places.{Spot}
use Rattle.law_counts_waiting.specs.Below.server_model.Start.{next_thread, server_for, start_thread, capture}
use Rattle.law_counts_waiting.specs.Below.server_model.Drop.{home_of}
use Rattle.law_counts_waiting.specs.Below.server_model.Prepare.{Access, prepare}
use Rattle.law_counts_waiting.specs.Below.server_model.Commit.{go_on, next_object, push_box, begun, pair_begun, spawn_with, end_with, label_dropped, commit}
use Rattle.law_counts_waiting.specs.Below.coherent_memory.Names.{tot}
use Rattle.law_counts_waiting.proofs.Below.coherent_memory.Sums.{tot-append}
use Rattle.law_counts_waiting.specs.Below.law_counts_sums.Laws.{Gives}
use Rattle.law_counts_waiting.proofs.Below.law_counts_sums.Results.{bind_gives, over_gives, test_gives}
use Rattle.law_counts_waiting.proofs.Below.law_counts_things.things.Small.{Of, Places, Small, Made, prepare_makes}
use Rattle.law_counts_waiting.proofs.Below.law_counts_things.things.Goes.{Any, AnyWord, puts_by}
use Rattle.law_counts_waiting.proofs.Below.law_counts_things.things.Plainly.{Settles, Acts, Ends, moves_by, commits}
use Rattle.law_counts_waiting.proofs.contents.Weigh.{mark, inside, mail, mail_sent, weight_of}
use Rattle.law_counts_waiting.proofs.contents.Mutexes.{made_even}
use Rattle.law_counts_waiting.proofs.contents.Marks.{Captured, captures_none}
use Rattle.law_counts_waiting.proofs.contents.Rests.{RestBalance, says_none, gives_up}

-- A PLACE IS MADE READY

-- a message more
pub sent_weight : (c : MutexNo → ℕ) (b : ThreadState → ℕ) (t : ℕ) (m : Message) (r : Rest) → weight_of c b (sent_from r t m) ≡ weight_of c b r + mail c b m
sent_weight c b t m r = by (t == r.number)
  where
    by : (q : Bool) → weight_of c b (if q then record r { inbox = r.inbox ++ m ∷ [] } else record r { outbox = r.outbox ++ record { target = t; message = m } ∷ [] }) ≡ weight_of c b r + mail c b m
    by true = omega (arith, tot-append (mail c b) r.inbox (m ∷ []))
    by false = omega (arith, tot-append (mail_sent c b) r.outbox (record { target = t; message = m } ∷ []))

-- it touches no mutex
pub sent_mutexes : (t : ℕ) (m : Message) (r : Rest) → (sent_from r t m).mutexes ≡ r.mutexes
sent_mutexes t m r = by (t == r.number)
  where
    by : (q : Bool) → (if q then record r { inbox = r.inbox ++ m ∷ [] } else record r { outbox = r.outbox ++ record { target = t; message = m } ∷ [] }).mutexes ≡ r.mutexes
    by true = refl
    by false = refl

-- messages and mutexes are as they were, and the thread has the gift that it had
pub record Silent (r0 : Rest) (y : ThreadState) (inbox : List Message) (outbox : List Sent) (mutexes : Mutexes) (gift : Option Owned) : Type 0 where
  pub inbox_same : inbox ≡ r0.inbox
  pub outbox_same : outbox ≡ r0.outbox
  pub mutexes_same : mutexes ≡ r0.mutexes
  pub gift_same : gift ≡ y.gift

-- they weigh what they did
pub record Light (r0 : Rest) (y : ThreadState) (r : Rest) (gift : Option Owned) : Type 0 where
  pub mutexes_same : r.mutexes ≡ r0.mutexes
  pub weighs : (c : MutexNo → ℕ) (b : ThreadState → ℕ) → weight_of c b r ≡ weight_of c b r0
  pub gift_same : gift ≡ y.gift

module _ (r0 : Rest) (y : ThreadState) where
  abbrev pub F : Rest → ThreadState → Type 0
  F r t = Silent r0 y r.inbox r.outbox r.mutexes t.gift

  abbrev pub L : Rest → ThreadState → Type 0
  L r t = Light r0 y r t.gift

  -- what is said weighs what it did
  pub same_weight : (c : MutexNo → ℕ) (b : ThreadState → ℕ) (r : Rest) (t : ThreadState) → F r t → weight_of c b r ≡ weight_of c b r0
  same_weight c b r t g =
      let i = ap (tot (mail c b)) g.inbox_same in
      let o = ap (tot (mail_sent c b)) g.outbox_same in
      let m = ap (λ (ms : Mutexes). tot (inside c) ms.there) g.mutexes_same in
      omega (arith, i, o, m)

  -- a request weighs nothing
  asks : (t : ℕ) (m : Message) (h : Hand) → ((c : MutexNo → ℕ) (b : ThreadState → ℕ) → mail c b m ≡ 0) → Of F h → L (sent_from h.work.rest t m) h.thread
  asks t m h none g = record {
    mutexes_same = sent_mutexes t m h.work.rest ∙ g.mutexes_same;
    weighs = λ c b. omega (arith, sent_weight c b t m h.work.rest, none c b, same_weight c b h.work.rest h.thread g);
    gift_same = g.gift_same;
  }

  -- the small steps of a place
  small : Small F L Any AnyWord
  small = record {
    places = record {
      spot = λ s v h g e. tt;
      puts = λ s v h z u g. puts_by F (λ vs r t x. record { inbox_same = x.inbox_same; outbox_same = x.outbox_same; mutexes_same = x.mutexes_same; gift_same = x.gift_same }) (λ vs r t x. record { inbox_same = x.inbox_same; outbox_same = x.outbox_same; mutexes_same = x.mutexes_same; gift_same = x.gift_same }) (λ h2 w x u. record { inbox_same = u.inbox_same; outbox_same = u.outbox_same; mutexes_same = u.mutexes_same; gift_same = u.gift_same }) s v h g;
      worded = λ w v new x u e. tt;
      word_of = λ r u. tt;
      points = λ v p u e. tt;
    };
    tints = λ p h u g e. tt;
    renews = λ p h u g e. (tt, g);
    pinned = λ r u. tt;
    pins = λ w h e g. g;
    uses = λ w h e g. g;
    asks_copy = λ p h u e g. asks (server_of p.word) (message.Fetch p.word p.object h.work.rest.number h.thread.number) h (λ c b. refl) g;
    asks_object = λ p h u e g. asks (server_of p.word) (message.Move p.word p.object h.work.rest.number h.thread.number) h (λ c b. refl) g;
  }

  -- any place
  pub prepares : (a : Option Access) (h : Hand) → Of F h → Made F L (prepare a h)
  prepares a h g = prepare_makes a h (λ f. small) (λ f n h2 u. u) g

-- THE PLAIN STEP

module _ (c : MutexNo → ℕ) (b : ThreadState → ℕ) (young : (u pc : ℕ) (vs : List Value) → tot (mark c) vs ≡ 0 → b (new_thread u pc vs) ≡ 0) (a h0 n : ℕ) (i : Instr) (unlocks_none : i ≡ instr.Unlock → ⊥) where
  abbrev pub B : Rest → ThreadState → Type 0
  B r t = RestBalance c b a h0 r

  -- values make no difference
  places : Places B Any AnyWord
  places = record {
    spot = λ s v h g e. tt;
    puts = λ s v h z u g. puts_by B (λ vs r t x. x) (λ vs r t x. x) (λ h2 w x u. u) s v h g;
    worded = λ w v new x u e. tt;
    word_of = λ r u. tt;
    points = λ v p u e. tt;
  }

  -- a message without a content
  says : (t : ℕ) (m : Message) (r : Rest) → mail c b m ≡ 0 → RestBalance c b a h0 r → RestBalance c b a h0 (sent_from r t m)
  says t m r z g = says_none c b h0 a t m r z g

  -- a new thread has no mark and no gift
  starts : (pc : ℕ) (vs : List Value) (w : Work) → tot (mark c) vs ≡ 0 → RestBalance c b a h0 w.rest → RestBalance c b a h0 (start_thread n pc vs w).rest
  starts pc vs w z g = says (server_for n w.rest) (message.Start (new_thread (next_thread w.rest) pc vs)) (record w.rest { started = w.rest.started + 1 }) (young (next_thread w.rest) pc vs z) g

  -- the end of a thread
  ended : (main : Bool) (v : Owned) (h : Hand) → Of B h → Gives (λ h2. Settles B (with_phase phase.Over h2)) (end_with main v h)
  ended true v h g = λ cs z. gives_up c b h0 a v (label_dropped (value.Own v) h).work g
  ended false v h g = λ cs z. says h.thread.home (message.Finished h.thread.number v) h.work.rest refl g

  -- what the plain steps do
  acts : Acts n B B Any Any AnyWord i
  acts = record {
    places = places;
    number = λ m. tt;
    unit_value = tt;
    nothing_value = tt;
    gone = tt;
    owned_temp = λ v u. tt;
    shared_slot = λ j. tt;
    mutable_slot = λ j. tt;
    second = λ v u z e. tt;
    shared = λ v u z e. tt;
    lent = λ w d e z v u h x g k. tt;
    off_temps = λ h g. g;
    off_slots = λ h g. g;
    on_temps = λ v h u g. g;
    on_slots = λ v h u g. g;
    gives = λ v h u g. gives_up c b h0 a v h.work g;
    unpins = λ w h e g. g;
    gift = λ v h e g. (tt, g);
    boxes = λ o e v h u g.
        over_gives (λ (m : NewWord). RestBalance c b a h0 m.work.rest) (λ h2. Settles B (go_on h2)) (issue_placed (act.Make (next_object h)) (record { object = next_object h; value = v }) h.work) (λ m. push_box v m h)
        (test_gives (λ (m : NewWord). RestBalance c b a h0 m.work.rest) (can_grow h.work.rest.partition) _ (λ z. g)) (λ m w cs z. w);
    mutexes = λ o e v h u g. test_gives (λ h2. Settles B (go_on h2)) (can_make h.work.rest.mutexes) _ (λ z cs z2. omega (arith, g, made_even c h.work.rest.mutexes v));
    spawns = λ cs pc e h g.
        bind_gives (Captured c 0 (tot (mark c) h.thread.slots)) (λ h2. Settles B (go_on h2)) (capture false cs.items h.thread.slots) (spawn_with n pc (next_thread h.work.rest) h) (captures_none c false cs.items h.thread.slots) (λ two k.
        over_gives (Of B) (λ h2. Settles B (go_on h2)) (begun h) _ (test_gives (Of B) (can_begin h.work.rest.tasks (next_thread h.work.rest)) _ (λ z. g)) (λ h2 u cs2 z. starts pc two.0 h2.work k.0 u));
    unlocks = λ e m v h u x g. absurd (unlocks_none e);
    holds = λ w e m u. tt;
    goes = λ o h g cs z. g;
    pairs = λ cs pc ds to e h g.
        let u = next_thread h.work.rest in
        bind_gives (Captured c 0 (tot (mark c) h.thread.slots)) (Settles B) (capture true cs.items h.thread.slots) _ (captures_none c true cs.items h.thread.slots) (λ one k.
        bind_gives (Captured c 0 (tot (mark c) one.1)) (Settles B) (capture true ds.items one.1) _ (captures_none c true ds.items one.1) (λ two k2.
        over_gives (Of B) (Settles B) (pair_begun h u (u + 1)) _ (test_gives (Of B) (can_begin_pair h.work.rest.tasks h.thread.number u (u + 1)) _ (λ z. g))
        (λ h2 q cs2 z. starts to two.0 (start_thread n pc one.0 h2.work) k2.0 (starts pc one.0 h2.work k.0 q))));
    ends = λ o e main v h u g. ended main v h g;
    asks_join = λ o e u h q x g. says (home_of u) (message.Join u h.work.rest.number h.thread.number) h.work.rest refl g;
    asks_dup = λ w e m h q u g. says m.home (message.Dup m h.work.rest.number h.thread.number) h.work.rest refl g;
    asks_lock = λ w e m h q u g. says m.home (message.Lock m h.work.rest.number h.thread.number) h.work.rest refl g;
  }

  -- whatever instruction but an unlock
  pub committed_balance : (s : Spot) (h : Hand) → Of B h → Ends B (commit n i s h)
  committed_balance s h g = commits i s h acts (moves_by i s h (λ w e v q. tt)) g
