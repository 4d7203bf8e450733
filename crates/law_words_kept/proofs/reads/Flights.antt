-- An object under way comes to a thread that waits for it on its path.
use Rattle.std.proofs.Common.{◌≡◌, inl, inr, ◌≤◌, ℕ, suc, zero, ◌+◌, ◌==◌, ◌&&◌, Bool, true, false, List, [], ◌∷◌, Option, Some, None, refl, sym, ap, subst, ◌∙◌, arith}
use Rattle.std.proofs.lemmas.Bool.{eqb-true, eq-eqb}
use Rattle.law_counts_sums.specs.Below.fr_base.declared.name.ObjNo.{ObjNo}
use Rattle.law_counts_sums.specs.Below.heap_partition.declared.value.Cell.{Cell}
use Rattle.law_counts_sums.specs.Below.thread_state.declared.phase.Phase.{Phase}
use Rattle.law_counts_sums.specs.Below.thread_state.declared.phase.Phase.TheVariants as phase
use Rattle.law_counts_sums.specs.Below.server_msgs.declared.message.Message.{Message}
use Rattle.law_counts_sums.specs.Below.server_msgs.declared.message.Message.TheVariants as message
use Rattle.law_counts_sums.specs.Below.server_model.Servers.{Server, Cluster}
use Rattle.law_counts_sums.specs.Below.coherent_memory.Names.{tot, one, if_so, same_object, Among}
use Rattle.law_counts_sums.specs.Below.coherent_memory.Things.{Thing, flies, sent, stands, things_at, message_things, standing_things, waiting_things, leaving_things, server_things, servers_things, things_of}
use Rattle.law_counts_sums.specs.Below.coherent_memory.Follow.{Standing, threads_in, thread_at}
use Rattle.law_counts_sums.specs.Below.coherent_memory.Sight.{sight}
use Rattle.law_counts_sums.specs.Below.coherent_memory.Paths.{Awaited}
use Rattle.law_counts_sums.specs.Below.coherent_memory.Weights.{is_thread}
use Rattle.law_counts_sums.specs.Below.coherent_memory.Walking.{path, asks_for, asked_for}
use Rattle.law_counts_sums.specs.Below.coherent_memory.Requests.{waits, Answer, no_answer, whole_answer, half_answer, answer_of, halves, halves_to, halves_needed, is_cell, in_phase, carries}
use Rattle.law_counts_sums.specs.Below.coherent_memory.Turn.{InTurn}
use Rattle.law_counts_sums.specs.Below.coherent_memory.Coherent.{IsSound}
use Rattle.law_counts_sums.proofs.Below.coherent_memory.Names.{and_left, and_right, same_number}
use Rattle.law_counts_sums.proofs.Below.coherent_memory.Words.{none_at, named, itself}
use Rattle.law_counts_sums.proofs.Trades.{tot-append}
use Rattle.law_counts_sums.proofs.Unseen.{Unseen, Unnoted, thread_alone, none_at as none_in, seen_of}
use Rattle.law_counts_sums.proofs.Askers.{other_none}
use Rattle.law_words_kept.specs.reads.Answering.{AnswersTold}
use Rattle.law_words_paths.proofs.paths.Contained.{among_thread}
use Rattle.law_words_paths.proofs.paths.InState.{only_one}

-- THINGS THAT WEIGH

abbrev pub Found : (Thing → ℕ) → List Thing → Type 0
Found f b = (y : Thing) × Among y b × (1 ≤ f y)

pub found : (f : Thing → ℕ) (b : List Thing) → 1 ≤ tot f b → Found f b
found f [] l = absurd (omega (arith, l))
found f (y ∷ b) l = by (f y) refl (λ z. found f b z)
  where
    by : (n : ℕ) → f y ≡ n → (1 ≤ tot f b → Found f b) → Found f (y ∷ b)
    by zero e go = let later = go (omega (arith, l, e)) in (later.0, inr later.1, later.2)
    by (suc n) e go = (y, inl refl, omega (arith, e))

weighs : (f : Thing → ℕ) (b : List Thing) (y : Thing) → Among y b → f y ≤ tot f b
weighs f [] y h = absurd h
weighs f (x ∷ b) y (inl e) = subst (λ z. f z ≤ tot f (x ∷ b)) e (omega arith)
weighs f (x ∷ b) y (inr h) = omega (arith, weighs f b y h)

pub truly : (b : Bool) → 1 ≤ one b → b ≡ true
truly true l = refl
truly false l = absurd (omega (arith, l))

-- WHAT FLIES IS BROUGHT

module _ (w : ℕ) (o : ObjNo) where
  abbrev flown : Thing → ℕ
  flown (flies x d) = one (x == w && same_object d.object o)
  flown x = 0

  abbrev brings : Message → ℕ
  brings (message.Moved x d t) = one (x == w && same_object d.object o)
  brings m = 0

  abbrev brought : Thing → ℕ
  brought (sent r m) = brings m
  brought x = 0

  flown_alone : (n : ℕ) → Unseen flown n
  flown_alone n = record { held = λ p v. refl; shared = λ l r. refl; borrowed = λ l r. refl; locked = λ l m. refl; live = λ a c. refl; free = λ a m. refl; old = λ a. refl; copy = λ s c. refl; used = λ s w. refl }

  brought_alone : (n : ℕ) → Unseen brought n
  brought_alone n = record { held = λ p v. refl; shared = λ l r. refl; borrowed = λ l r. refl; locked = λ l m. refl; live = λ a c. refl; free = λ a m. refl; old = λ a. refl; copy = λ s c. refl; used = λ s w. refl }

  flown_unnoted : Unnoted flown
  flown_unnoted = record { mutex = λ s m. refl; queue = λ m s t. refl; note = λ s t. refl }

  brought_unnoted : Unnoted brought
  brought_unnoted = record { mutex = λ s m. refl; queue = λ m s t. refl; note = λ s t. refl }

  of_message : (r : ℕ) (m : Message) → tot flown (message_things r m) ≤ tot brought (message_things r m)
  of_message r (message.Moved x d t) = omega arith
  of_message r (message.Start t) = let z = thread_alone flown 0 (flown_alone 0) r true t in omega (arith, z)
  of_message r (message.Migrate t) = let z = thread_alone flown 0 (flown_alone 0) r true t in omega (arith, z)
  of_message r _ = omega arith

  of_all : {X : Type 0} (g : ℕ → X → List Thing) → ((i : ℕ) (x : X) → tot flown (g i x) ≤ tot brought (g i x)) → (i : ℕ) (xs : List X) → tot flown (things_at g i xs) ≤ tot brought (things_at g i xs)
  of_all g f i [] = omega arith
  of_all g f i (x ∷ xs) = omega (arith, f i x, of_all g f (i + 1) xs, tot-append flown (g i x) (things_at g (i + 1) xs), tot-append brought (g i x) (things_at g (i + 1) xs))

  of_server : (s : Server) → tot flown (server_things s) ≤ tot brought (server_things s)
  of_server s =
      let n = s.rest.number in
      omega (
        arith,
        seen_of flown n (flown_alone n) flown_unnoted s refl,
        seen_of brought n (brought_alone n) brought_unnoted s refl,
        none_in flown n (flown_alone n) (standing_things n) (λ i x. thread_alone flown n (flown_alone n) n false x) 0 s.threads,
        of_all (waiting_things n) (λ i m. of_message n m) 0 s.rest.inbox,
        of_all leaving_things (λ i x. of_message x.target x.message) 0 s.rest.outbox,
      )

  of_servers : (ss : List Server) → tot flown (servers_things ss) ≤ tot brought (servers_things ss)
  of_servers [] = omega arith
  of_servers (s ∷ ss) = omega (arith, of_server s, of_servers ss, tot-append flown (server_things s) (servers_things ss), tot-append brought (server_things s) (servers_things ss))

  -- the message that brings it
  record Bringer (k : Cluster) : Type 0 where
    target : ℕ
    cell : Cell
    thread : ℕ
    among : Among (sent target (message.Moved w cell thread)) (things_of k)
    object : cell.object ≡ o

  it_flies : (c : Cell) → c.object ≡ o → 1 ≤ flown (flies w c)
  it_flies c e = let a : (w == w) ≡ true = eq-eqb w w refl in rw a (rw (itself c.object o e) (omega arith))

  bringer : (k : Cluster) (c : Cell) → Among (flies w c) (things_of k) → c.object ≡ o → Bringer k
  bringer k c h e = by it.0 it.1 it.2
    where
      it : Found brought (things_of k)
      it = found brought (things_of k) (omega (arith, it_flies c e, weighs flown (things_of k) (flies w c) h, of_servers k.servers))

      of_moved : (r x : ℕ) (d : Cell) (t : ℕ) → Among (sent r (message.Moved x d t)) (things_of k) → (x == w && same_object d.object o) ≡ true → Bringer k
      of_moved r x d t m q =
          let word : x ≡ w = same_number x w (and_left (x == w) (same_object d.object o) q) in
          record { target = r; cell = d; thread = t; among = subst (λ y. Among (sent r (message.Moved y d t)) (things_of k)) word m; object = named d.object o (and_right (x == w) (same_object d.object o) q) }

      of_sent : (r : ℕ) (m : Message) → Among (sent r m) (things_of k) → 1 ≤ brings m → Bringer k
      of_sent r (message.Moved x d t) m l = of_moved r x d t m (truly (x == w && same_object d.object o) l)
      of_sent r _ m l = absurd (omega (arith, l))

      by : (y : Thing) → Among y (things_of k) → 1 ≤ brought y → Bringer k
      by (sent r m) h l = of_sent r m h l
      by _ h l = absurd (omega (arith, l))

-- ONE ANSWER

abbrev pub whole : ℕ → Answer → ℕ
whole t no_answer = 0
whole t (whole_answer u) = one (u == t)
whole t (half_answer u) = 0

abbrev pub whole_to : ℕ → Thing → ℕ
whole_to t x = whole t (answer_of x)

twice : (b : Bool) → one b + one b ≡ if_so b 2
twice true = refl
twice false = refl

two_halves : (t : ℕ) (a : Answer) → whole t a + whole t a ≤ halves t a
two_halves t no_answer = omega arith
two_halves t (whole_answer u) = omega (arith, twice (u == t))
two_halves t (half_answer u) = omega arith

all_halves : (t : ℕ) (b : List Thing) → tot (whole_to t) b + tot (whole_to t) b ≤ tot (halves_to t) b
all_halves t [] = omega arith
all_halves t (x ∷ b) = omega (arith, two_halves t (answer_of x), all_halves t b)

needed_once : (p q : Bool) → if_so (p && q) 2 ≤ one p + one p
needed_once true true = omega arith
needed_once true false = omega arith
needed_once false q = omega arith

needed_of : (t : ℕ) (x : Thing) → halves_needed t x ≤ is_thread t x + is_thread t x
needed_of t (stands s p x) = needed_once (x.number == t) (waits x.phase)
needed_of t _ = omega arith

all_needed : (t : ℕ) (b : List Thing) → tot (halves_needed t) b ≤ tot (is_thread t) b + tot (is_thread t) b
all_needed t [] = omega arith
all_needed t (x ∷ b) = omega (arith, needed_of t x, all_needed t b)

pub one_answer : (k : Cluster) → AnswersTold k → (t : ℕ) → tot (whole_to t) (things_of k) ≤ 1
one_answer k told t = omega (arith, told.one_answer t, told.numbers_differ t, all_halves t (things_of k), all_needed t (things_of k))

pub same_one : (u n : ℕ) → (u == n) ≡ true → 1 ≤ one (u == n)
same_one u n e = rw e (omega arith)

-- what asks for it answers the thread
pub asks_whole : (n : ℕ) (a : Awaited) (r : ℕ) (m : Message) → asks_for n a m ≡ true → 1 ≤ whole_to n (sent r m)
asks_whole n a r (message.Fetch w o s u) e = same_one u n (and_left (u == n) _ (and_left _ _ e))
asks_whole n a r (message.Fetched w c u) e = same_one u n (and_left (u == n) _ (and_left _ _ e))
asks_whole n a r (message.Move w o s u) e = same_one u n (and_left (u == n) _ (and_left _ _ e))
asks_whole n a r (message.Moved w c u) e = same_one u n (and_left (u == n) _ (and_left _ _ e))
asks_whole n a r _ e = absurd (cc e)

pub one_message : (r s : ℕ) (m l : Message) → sent r m ≡ sent s l → m ≡ l
one_message r s m l e = cc

pub is_waiting : (p : Phase) (w : ℕ) → is_cell w p ≡ true → p ≡ phase.WaitCell w
is_waiting (phase.WaitCell v) w e = ap phase.WaitCell (eqb-true v w e)
is_waiting _ w e = absurd (cc e)

-- WHO WAITS FOR IT

-- the thread waits for the object, which comes in a message to it
pub record Awaits (k : Cluster) (w : ℕ) (o : ObjNo) : Type 0 where
  pub thread : Standing
  pub among : Among thread (sight k).ground.threads
  pub waits : thread.thread.phase ≡ phase.WaitCell w
  pub awaited : Awaited
  pub turn : InTurn (sight k) thread w awaited (path (sight k) thread)
  pub comes : awaited.comes ≡ true
  pub object : awaited.object ≡ o
  pub target : ℕ
  pub cell : Cell
  pub brought : Among (sent target (message.Moved w cell thread.thread.number)) (things_of k)

-- a sound cluster tells it
pub answers_told : (k : Cluster) → IsSound k → AnswersTold k
answers_told k sound = record { numbers_differ = sound.names.numbers_differ; one_answer = sound.requests.one_answer; carry_what_is_asked = sound.requests.carry_what_is_asked; wait_in_turn = sound.walks.wait_in_turn }

module _ (k : Cluster) (told : AnswersTold k) where
  pub who_waits : (w : ℕ) (c : Cell) → Among (flies w c) (things_of k) → Awaits k w c.object
  who_waits w c h = by (thread_at (threads_in (things_of k)) b.thread) refl (other_none _ (none_at (carries (sight k)) (sent b.target (message.Moved w b.cell b.thread)) (things_of k) told.carry_what_is_asked b.among))
    where
      b : Bringer w c.object k
      b = bringer w c.object k c h refl

      of_ask : (x : Standing) → Among x (sight k).ground.threads → x.thread.number ≡ b.thread → x.thread.phase ≡ phase.WaitCell w → (a : Awaited) → InTurn (sight k) x w a (path (sight k) x)
          → (y : Thing) → Among y (things_of k) → 1 ≤ asked_for x.thread.number a y → Awaits k w c.object
      of_ask x among number phase a turn (sent r m) there l =
          let n = x.thread.number in
          let asks : asks_for n a m ≡ true = truly (asks_for n a m) l in
          let moved = message.Moved w b.cell b.thread in
          let mine : 1 ≤ whole_to n (sent b.target moved) = same_one b.thread n (eq-eqb b.thread n (sym number)) in
          let same : m ≡ moved = one_message r b.target m moved (only_one (whole_to n) (sent r m) (sent b.target moved) (things_of k) (one_answer k told n) there b.among (asks_whole n a r m asks) mine) in
          let it : ((b.thread == n && a.comes) && (a.word == w && same_object b.cell.object a.object)) ≡ true = subst (λ z. asks_for n a z ≡ true) same asks in
          record {
            thread = x;
            among = among;
            waits = phase;
            awaited = a;
            turn = turn;
            comes = and_right (b.thread == n) a.comes (and_left (b.thread == n && a.comes) _ it);
            target = b.target;
            cell = b.cell;
            brought = subst (λ y. Among (sent b.target (message.Moved w b.cell y)) (things_of k)) (sym number) b.among;
            object = sym (named b.cell.object a.object (and_right (a.word == w) (same_object b.cell.object a.object) (and_right (b.thread == n && a.comes) _ it))) ∙ b.object;
          }
      of_ask x among number phase a turn _ there l = absurd (omega (arith, l))

      by : (z : Option Standing) → thread_at (threads_in (things_of k)) b.thread ≡ z → in_phase (is_cell w) z ≡ true → Awaits k w c.object
      by None at e = absurd (cc e)
      by (Some x) at e =
          let q = among_thread (threads_in (things_of k)) b.thread x at in
          let phase = is_waiting x.thread.phase w e in
          let f = told.wait_in_turn x w q.0 phase in
          let it = found (asked_for x.thread.number f.awaited) (things_of k) f.asked in
          of_ask x q.0 q.1 phase f.awaited f.turn it.0 it.1 it.2
