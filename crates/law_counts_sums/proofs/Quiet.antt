-- What a step says: making a place ready says nothing but the request that it may end with, and values that are dropped say nothing that is answered.
use Rattle.std.proofs.Common.{◌≡◌, ℕ, ◌+◌, true, false, if◌then◌else◌, List, [], ◌∷◌, ◌++◌, length, Option, None, refl, sym, subst, ◌∙◌, arith, Bool, ◌==◌}
use Rattle.coherent_memory.proofs.Below.fr_typing.PlaceLemmas.{eq_cases}
use Rattle.coherent_memory.specs.Below.fr_base.declared.instruction.Instr.{Instr}
use Rattle.coherent_memory.specs.Below.global_addr.Words.{server_of}
use Rattle.coherent_memory.specs.Below.heap_partition.declared.value.Owned.{Owned}
use Rattle.coherent_memory.specs.Below.mutex_home.Mutexes.{Mutexes}
use Rattle.coherent_memory.specs.Below.join_home.Tasks.{Task}
use Rattle.coherent_memory.specs.Below.thread_state.View.{ThreadState}
use Rattle.coherent_memory.specs.Below.thread_state.declared.phase.Phase.{Phase}
use Rattle.coherent_memory.specs.Below.thread_state.declared.phase.Phase.TheVariants as phase
use Rattle.coherent_memory.specs.Below.server_msgs.declared.message.Message.{Message}
use Rattle.coherent_memory.specs.Below.server_msgs.declared.message.Message.TheVariants as message
use Rattle.coherent_memory.specs.Below.server_model.Servers.{Sent, Rest, Server}
use Rattle.coherent_memory.specs.Below.server_model.Work.{Work, Hand, sent_from, send, working}
use Rattle.coherent_memory.specs.Below.server_model.Events.{can_step}
use Rattle.coherent_memory.specs.Names.{tot}
use Rattle.coherent_memory.specs.Things.{Thing, stands, sent, things_at, mutex_things, task_things, waiting_things, message_things, server_things}
use Rattle.coherent_memory.proofs.Sums.{server_parts, waiting_pushed, all_sent, all_sent-append}
use Rattle.law_counts_sums.proofs.Trades.{tot-append}
use Rattle.law_counts_sums.proofs.Bags.{all_standing}
use Rattle.law_counts_sums.proofs.Unseen.{partition_none, copies_none}
use Rattle.law_counts_sums.proofs.Held.{holds_result}
use Rattle.law_counts_sums.proofs.Fair.{Dues, zeros, even, pays, Fair, Hears, Asks, Calmly, fair_none, fair_both, fair_calm, fair_asks, fair_beside}
use Rattle.law_counts_sums.proofs.KnownPlaces.{Told, Holds}
use Rattle.law_counts_sums.proofs.KnownPrepares.{Asked}

-- the mutexes, notes and messages of a server
abbrev pub said : (Thing → ℕ) → ℕ → List Message → List Sent → Mutexes → List Task → ℕ
said f n i o ms ts = tot f (things_at (mutex_things n) 0 ms.there) + tot f (things_at (task_things n) 0 ts) + tot f (things_at (waiting_things n) 0 i) + all_sent f o

abbrev pub said_by : (Thing → ℕ) → Rest → ℕ
said_by f r = said f r.number r.inbox r.outbox r.mutexes r.tasks

-- they and the threads are all that is heard of a server
pub server_said : (f : Thing → ℕ) → Hears f → (s : Server) → tot f (server_things s) ≡ said_by f s.rest + tot f (all_standing s.rest.number s.threads)
server_said f h s =
    let n = s.rest.number in
    omega (arith, server_parts f s, h.counted n (length s.rest.partition.cells) s.rest.partition.retired s.rest.started s.rest.mutexes.made s.events, partition_none f n (h.unseen n) s.rest.partition, copies_none f n (h.unseen n) n s.rest.cache)

-- so much was said since that rest
pub record Says (r : Rest) (news : List Thing) (n : ℕ) (i : List Message) (o : List Sent) (ms : Mutexes) (ts : List Task) : Type 0 where
  pub same : n ≡ r.number
  pub more : (f : Thing → ℕ) → Hears f → said f r.number i o ms ts ≡ said_by f r + tot f news

abbrev pub SaysOf : Rest → List Thing → Rest → Type 0
SaysOf r news r2 = Says r news r2.number r2.inbox r2.outbox r2.mutexes r2.tasks

pub says_nothing : (r : Rest) → SaysOf r [] r
says_nothing r = record { same = refl; more = λ f h. omega arith }

pub says_sent : (r r1 : Rest) (news : List Thing) (t : ℕ) (m : Message) → SaysOf r news r1 → SaysOf r (news ++ message_things t m) (sent_from r1 t m)
says_sent r r1 news t m a =
    eq_cases (λ b. SaysOf r (news ++ message_things t m) (if b then record r1 { inbox = r1.inbox ++ m ∷ [] } else record r1 { outbox = r1.outbox ++ record { target = t; message = m } ∷ [] })) t r1.number
    (λ e. record {
      same = a.same;
      more = λ f h.
          let here = subst (λ n. tot f (message_things r.number m) ≡ tot f (message_things n m)) (sym (e ∙ a.same)) refl in
          omega (arith, a.more f h, here, waiting_pushed f r.number 0 r1.inbox m, tot-append f news (message_things t m));
    })
    (λ ne. record {
      same = a.same;
      more = λ f h.
          let sent_now : all_sent f (record { target = t; message = m } ∷ []) ≡ tot f (message_things t m) = omega (arith, tot-append f (message_things t m) []) in
          omega (arith, a.more f h, sent_now, all_sent-append f r1.outbox (record { target = t; message = m } ∷ []), tot-append f news (message_things t m));
    })

pub sent_started : (r : Rest) (t : ℕ) (m : Message) → (sent_from r t m).started ≡ r.started
sent_started r t m = by (t == r.number)
  where
    by : (b : Bool) → (if b then record r { inbox = r.inbox ++ m ∷ [] } else record r { outbox = r.outbox ++ record { target = t; message = m } ∷ [] }).started ≡ r.started
    by true = refl
    by false = refl

-- IN THE MIDDLE OF A STEP

-- the thread is at the place in the code and in the phase in which it began, its gift is as that is told, and nothing that is answered was said
pub record Quietly (code : List Instr) (gift : Option Owned → Type 0) (y : ThreadState) (r : Rest) (p : Phase) (t : ℕ) (g : Option Owned) (pc n : ℕ) (i : List Message) (o : List Sent) (ms : Mutexes) (ts : List Task) (c : ℕ) : Type 0 where
  pub still : p ≡ y.phase
  pub named : t ≡ y.number
  pub given : gift g
  pub placed : pc ≡ y.pc
  pub begun : c ≡ r.started
  pub news : List Thing
  pub says : Says r news n i o ms ts
  pub light : Fair (even code) [] news

abbrev pub quiet : List Instr → (Option Owned → Type 0) → ThreadState → Rest → Told
quiet code gift y r p t g pc n i o ms ts c = Quietly code gift y r p t g pc n i o ms ts c

abbrev pub Quiet : List Instr → (Option Owned → Type 0) → ThreadState → Rest → Hand → Type 0
Quiet code gift y r h = Holds (quiet code gift y r) h

-- it has the gift that it had; it has none
abbrev pub IsGift : ThreadState → Option Owned → Type 0
IsGift y g = g ≡ y.gift

abbrev pub NoGift : Option Owned → Type 0
NoGift g = g ≡ None

pub quiet_start : (code : List Instr) (gift : Option Owned → Type 0) (y : ThreadState) (w : Work) → gift y.gift → Quiet code gift y w.rest (record { work = w; thread = y })
quiet_start code gift y w g = record { still = refl; named = refl; given = g; placed = refl; begun = refl; news = []; says = says_nothing w.rest; light = fair_none }

-- the same once the gift is told in another way
pub quiet_gift : (code : List Instr) (gift gift2 : Option Owned → Type 0) (y : ThreadState) (r : Rest) (h : Hand) (g : Option Owned) → gift2 g → Quiet code gift y r h → Quiet code gift2 y r (record h { thread = record h.thread { gift = g } })
quiet_gift code gift gift2 y r h g t q = record { still = q.still; named = q.named; given = t; placed = q.placed; begun = q.begun; news = q.news; says = q.says; light = q.light }

-- at its end the thread and what was said weigh as the thread did
pub record After (dues : Dues) (y : ThreadState) (r : Rest) (h : Hand) : Type 0 where
  pub named : h.thread.number ≡ y.number
  pub news : List Thing
  pub says : SaysOf r news h.work.rest
  pub fair : Fair dues (stands r.number false y ∷ []) (stands r.number false h.thread ∷ news)

module _ (code : List Instr) (gift : Option Owned → Type 0) (y : ThreadState) (r : Rest) where
  pub quiet_sends : (t : ℕ) (m : Message) (h : Hand) → Fair (even code) [] (message_things t m) → Quiet code gift y r h → Quiet code gift y r (working (send t m) h)
  quiet_sends t m h l g = record {
    still = g.still;
    named = g.named;
    given = g.given;
    placed = g.placed;
    begun = sent_started h.work.rest t m ∙ g.begun;
    news = g.news ++ message_things t m;
    says = says_sent r h.work.rest g.news t m g.says;
    light = fair_both [] g.news [] (message_things t m) g.light l;
  }

  -- it goes on
  pub calm_after : (h : Hand) (y2 : ThreadState) → can_step y.phase ≡ true → Calmly y2.phase → y2.number ≡ h.thread.number → y2.gift ≡ None → Quiet code gift y r h → After (pays code y zeros) y r (record h { thread = y2 })
  calm_after h y2 c d e bare g = record {
    named = e ∙ g.named;
    news = g.news;
    says = g.says;
    fair = fair_both (stands r.number false y ∷ []) (stands r.number false y2 ∷ []) [] g.news (fair_calm r.number y y2 (e ∙ g.named) bare c d) g.light;
  }

  -- it asks
  pub asks_after : (a : ℕ) (m : Message) (h : Hand) (y2 : ThreadState) → message_things a m ≡ sent a m ∷ [] → can_step y.phase ≡ true → y2.number ≡ h.thread.number → ((t : ℕ) → holds_result code t y2 ≡ 0) → Asks y2 m → Quiet code gift y r h
      → After (pays code y zeros) y r (record { work = send a m h.work; thread = y2 })
  asks_after a m h y2 alone c e bare q g = record {
    named = e ∙ g.named;
    news = g.news ++ message_things a m;
    says = says_sent r h.work.rest g.news a m g.says;
    fair = subst (λ l. Fair (pays code y zeros) (stands r.number false y ∷ []) (stands r.number false y2 ∷ (g.news ++ l))) (sym alone)
        (fair_beside (stands r.number false y ∷ []) (stands r.number false y2 ∷ []) g.news (sent a m ∷ []) g.light (fair_asks r.number a y y2 m (e ∙ g.named) bare c q));
  }

-- where its gift, if it has one, isn't for a join
abbrev pub NoJoin : List Instr → ThreadState → Type 0
NoJoin code y = (t : ℕ) (x : ThreadState) → x.gift ≡ y.gift → x.pc ≡ y.pc → holds_result code t x ≡ 0

-- the request for a copy or for an object
pub quiet_asks : (code : List Instr) (y : ThreadState) (r : Rest) → can_step y.phase ≡ true → NoJoin code y → (ss : List Server) → Asked ss (quiet code (IsGift y) y r) (After (pays code y zeros) y r)
quiet_asks code y r c none ss = record {
  for_copy = λ p h k g.
      let m = message.Fetch p.word p.object h.work.rest.number h.thread.number in
      let told = g.1 in
      asks_after code (IsGift y) y r (server_of p.word) m (working (Rattle.coherent_memory.specs.Below.server_model.Work.note (Rattle.coherent_memory.specs.Below.journal.declared.act.Act.TheVariants.Ask p.object p.word)) h) (record h.thread { phase = phase.WaitCell p.word }) refl c refl
      (λ t. none t (record h.thread { phase = phase.WaitCell p.word }) told.given told.placed) (record { waiting = refl; alone = λ t. refl; lives = refl; answer = refl; goes_on = λ t. refl; no_result = λ t. (refl, refl) }) told;
  for_object = λ p h k g.
      let m = message.Move p.word p.object h.work.rest.number h.thread.number in
      let told = g.1 in
      asks_after code (IsGift y) y r (server_of p.word) m (working (Rattle.coherent_memory.specs.Below.server_model.Work.note (Rattle.coherent_memory.specs.Below.journal.declared.act.Act.TheVariants.Pull p.object p.word)) h) (record h.thread { phase = phase.WaitCell p.word }) refl c refl
      (λ t. none t (record h.thread { phase = phase.WaitCell p.word }) told.given told.placed) (record { waiting = refl; alone = λ t. refl; lives = refl; answer = refl; goes_on = λ t. refl; no_result = λ t. (refl, refl) }) told;
}
