-- How what is heard of a server changes: messages that it sends, mutexes and notes that change, threads in its hand.
use Rattle.std.proofs.Common.{◌≡◌, ℕ, ◌+◌, false, List, [], ◌∷◌, ◌++◌, Some, refl, sym, ap, subst, ◌∙◌, arith}
use Rattle.std.specs.Prelude.{slice_get}
use Rattle.coherent_memory.specs.Below.global_addr.Words.{server_of}
use Rattle.coherent_memory.specs.Below.fr_base.declared.instruction.Instr.{Instr}
use Rattle.coherent_memory.specs.Below.fr_base.declared.name.MutexNo.{MutexNo}
use Rattle.coherent_memory.specs.Below.fr_base.declared.release.Released.TheVariants as released
use Rattle.coherent_memory.specs.Below.heap_partition.declared.value.Owned.{Owned}
use Rattle.coherent_memory.specs.Below.heap_partition.declared.value.Owned.TheVariants as owned
use Rattle.coherent_memory.specs.Below.mutex_home.Mutexes.{Mutex, Mutexes, mutex_in, put_mutex, end_mutex}
use Rattle.coherent_memory.specs.Below.join_home.Tasks.{Task, TaskState, task_in, with_state, without_task}
use Rattle.coherent_memory.specs.Below.thread_state.View.{ThreadState}
use Rattle.coherent_memory.specs.Below.server_msgs.declared.message.Message.{Message}
use Rattle.coherent_memory.specs.Below.server_msgs.declared.message.Message.TheVariants as message
use Rattle.coherent_memory.specs.Below.server_model.Servers.{Sent, Rest, Server}
use Rattle.coherent_memory.specs.Below.server_model.Work.{Work, sent_from, receive, set_thread, thread_in}
use Rattle.coherent_memory.specs.Below.server_model.Drop.{home_of, give_up}
use Rattle.coherent_memory.specs.Names.{tot}
use Rattle.coherent_memory.specs.Things.{Thing, stands, noted, things_at, content_things, queue_things, mutex_things, task_things, message_things}
use Rattle.law_counts_sums.proofs.Trades.{tot-append, tot-remove}
use Rattle.law_counts_sums.proofs.Bags.{all_standing, tot-without, tot-set, thread_number}
use Rattle.law_counts_sums.proofs.Unseen.{content_none, result_none, thread_alone}
use Rattle.law_counts_sums.proofs.MutexLists.{mutex_changes, mutex_goes}
use Rattle.law_counts_sums.proofs.TaskMessages.{tot-gone, tot-put}
use Rattle.law_counts_sums.proofs.Fair.{Dues, even, Fair, Hears, fair_none}
use Rattle.law_counts_sums.proofs.Quiet.{said, said_by, server_said, SaysOf, says_nothing, says_sent}
use Rattle.law_counts_sums.proofs.Turns.{Turns}

-- some things go and some come
pub record Change (r : Rest) (gone news : List Thing) (n : ℕ) (i : List Message) (o : List Sent) (ms : Mutexes) (ts : List Task) : Type 0 where
  pub same : n ≡ r.number
  pub change : (f : Thing → ℕ) → Hears f → said f n i o ms ts + tot f gone ≡ said_by f r + tot f news

abbrev pub ChangeOf : Rest → List Thing → List Thing → Rest → Type 0
ChangeOf r gone news r2 = Change r gone news r2.number r2.inbox r2.outbox r2.mutexes r2.tasks

pub change_none : (r : Rest) → ChangeOf r [] [] r
change_none r = record { same = refl; change = λ f h. refl }

pub change_said : (r r2 : Rest) (news : List Thing) → SaysOf r news r2 → ChangeOf r [] news r2
change_said r r2 news a = record {
  same = a.same;
  change = λ f h. subst (λ n. said f n r2.inbox r2.outbox r2.mutexes r2.tasks + 0 ≡ said_by f r + tot f news) (sym a.same) (omega (arith, a.more f h));
}

pub change_sent : (r r2 : Rest) (gone news : List Thing) (t : ℕ) (m : Message) → ChangeOf r gone news r2 → ChangeOf r gone (news ++ message_things t m) (sent_from r2 t m)
change_sent r r2 gone news t m c =
    let r3 = sent_from r2 t m in
    let a = says_sent r2 r2 [] t m (says_nothing r2) in record {
      same = a.same ∙ c.same;
      change = λ f h.
          let now : said f r3.number r3.inbox r3.outbox r3.mutexes r3.tasks ≡ said_by f r2 + tot f (message_things t m) = subst (λ n. said f n r3.inbox r3.outbox r3.mutexes r3.tasks ≡ said_by f r2 + tot f (message_things t m)) (sym a.same) (a.more f h) in
          omega (arith, now, c.change f h, tot-append f news (message_things t m));
    }

pub change_then : (r r1 r2 : Rest) (g1 n1 g2 n2 : List Thing) → ChangeOf r g1 n1 r1 → ChangeOf r1 g2 n2 r2 → ChangeOf r (g1 ++ g2) (n1 ++ n2) r2
change_then r r1 r2 g1 n1 g2 n2 c d = record { same = d.same ∙ c.same; change = λ f h. omega (arith, c.change f h, d.change f h, tot-append f g1 g2, tot-append f n1 n2) }

-- a value that is let go says nothing that is answered
pub record Gave (code : List Instr) (r : Rest) (gone news : List Thing) (r2 : Rest) : Type 0 where
  pub more : List Thing
  pub light : Fair (even code) [] more
  pub change : ChangeOf r gone (news ++ more) r2

pub gives_change : (code : List Instr) (r : Rest) (gone news : List Thing) (v : Owned) (w : Work) → ChangeOf r gone news w.rest → Gave code r gone news (give_up v w).rest
gives_change code r gone news (owned.Box p) w c =
    let m = message.Drop p.word p.object in record { more = message_things (server_of p.word) m; light = record { answers = λ t. refl; pairs = λ b. refl; going = λ t. refl; homes = omega arith; ends = λ t. omega arith; owes = λ t. refl }; change = change_sent r w.rest gone news (server_of p.word) m c }
gives_change code r gone news (owned.Mutex x) w c =
    let m = message.Release (released.Mutex x) in record { more = message_things x.home m; light = record { answers = λ t. refl; pairs = λ b. refl; going = λ t. refl; homes = omega arith; ends = λ t. omega arith; owes = λ t. refl }; change = change_sent r w.rest gone news x.home m c }
gives_change code r gone news (owned.Task x) w c =
    let m = message.Release (released.Task x) in record { more = message_things (home_of x) m; light = record { answers = λ t. refl; pairs = λ b. refl; going = λ t. refl; homes = omega arith; ends = λ t. omega arith; owes = λ t. refl }; change = change_sent r w.rest gone news (home_of x) m c }
gives_change code r gone news owned.Nothing w c = record { more = []; light = fair_none; change = record { same = c.same; change = λ f h. omega (arith, c.change f h, tot-append f news []) } }
gives_change code r gone news owned.Unit w c = record { more = []; light = fair_none; change = record { same = c.same; change = λ f h. omega (arith, c.change f h, tot-append f news []) } }
gives_change code r gone news (owned.Int n) w c = record { more = []; light = fair_none; change = record { same = c.same; change = λ f h. omega (arith, c.change f h, tot-append f news []) } }

-- MUTEXES AND NOTES

pub mutex_heard : (f : Thing → ℕ) → Hears f → (n : ℕ) (m : Mutex) → tot f (mutex_things n 0 m) ≡ tot f (things_at (queue_things m.number) 0 m.queue)
mutex_heard f h n m = omega (arith, h.home n m, content_none f n (h.unseen n) m, tot-append f (content_things m.number m.content) (things_at (queue_things m.number) 0 m.queue))

pub task_heard : (f : Thing → ℕ) → Hears f → (n : ℕ) (x : Task) → tot f (task_things n 0 x) ≡ f (noted n x)
task_heard f h n x = omega (arith, result_none f n (h.unseen n) x.thread x.state)

-- the queue of a mutex changes
pub change_mutex : (r : Rest) (m : MutexNo) (x new : Mutex) (gone news : List Thing) → mutex_in r.mutexes.there m ≡ Some x → new.number ≡ x.number
    → ((f : Thing → ℕ) → Hears f → tot f (things_at (queue_things new.number) 0 new.queue) + tot f gone ≡ tot f (things_at (queue_things x.number) 0 x.queue) + tot f news)
    → ChangeOf r gone news (record r { mutexes = put_mutex r.mutexes new })
change_mutex r m x new gone news q named queue = record {
  same = refl;
  change = λ f h.
      let t = mutex_changes r.number r.mutexes.there m x new q named in
      omega (arith, t.before f, t.after f, mutex_heard f h r.number x, mutex_heard f h r.number new, queue f h);
}

-- a mutex goes for which nobody waits
pub change_end : (r : Rest) (m : MutexNo) (x : Mutex) → mutex_in r.mutexes.there m ≡ Some x → x.queue ≡ [] → ChangeOf r [] [] (record r { mutexes = end_mutex r.mutexes x.number })
change_end r m x q empty = record {
  same = refl;
  change = λ f h.
      let t = mutex_goes r.number r.mutexes.there m x q in
      let none : tot f (things_at (queue_things x.number) 0 x.queue) ≡ 0 = ap (λ l. tot f (things_at (queue_things x.number) 0 l)) empty in
      omega (arith, t.before f, t.after f, mutex_heard f h r.number x, none);
}

-- a note changes, or goes
pub change_state : (r : Rest) (t : ℕ) (x : Task) (z : TaskState) → task_in r.tasks t ≡ Some x → ChangeOf r (noted r.number x ∷ []) (noted r.number (record { thread = t; state = z }) ∷ []) (record r { tasks = with_state r.tasks t z })
change_state r t x z q = record {
  same = refl;
  change = λ f h. omega (arith, tot-gone f r.number r.tasks t x q, tot-put f r.number r.tasks t x z q, task_heard f h r.number x, task_heard f h r.number (record { thread = t; state = z }));
}

pub change_gone : (r : Rest) (t : ℕ) (x : Task) → task_in r.tasks t ≡ Some x → ChangeOf r (noted r.number x ∷ []) [] (record r { tasks = without_task r.tasks t })
change_gone r t x q = record {
  same = refl;
  change = λ f h. omega (arith, tot-gone f r.number r.tasks t x q, task_heard f h r.number x);
}

-- A MESSAGE IS TAKEN OUT

module _ (s : Server) (i : ℕ) (m : Message) (q : slice_get s.rest.inbox i ≡ Some m) where
  abbrev left : Rest
  left = receive s.rest i

  pub taken_out : (f : Thing → ℕ) → said_by f s.rest ≡ said_by f left + tot f (message_things s.rest.number m)
  taken_out f = omega (arith, tot-remove (λ x. message_things s.rest.number x) f 0 s.rest.inbox i m q)

module _ (dues : Dues) (s : Server) (i : ℕ) (m : Message) (q : slice_get s.rest.inbox i ≡ Some m) where
  abbrev there : Rest
  there = receive s.rest i

  -- what its delivery does beside the threads
  pub record RestTurns (r2 : Rest) : Type 0 where
    pub gone : List Thing
    pub news : List Thing
    pub change : ChangeOf there gone news r2
    pub fair : Fair dues (message_things s.rest.number m ++ gone) news

  pub rest_turns : (r2 : Rest) → RestTurns r2 → Turns dues s (record { rest = r2; threads = s.threads; events = s.events + 1 })
  rest_turns r2 g =
      let n = s.rest.number in
      let c = g.change in
      let s2 : Server = record { rest = r2; threads = s.threads; events = s.events + 1 } in record {
        olds = message_things n m ++ g.gone;
        news = g.news;
        change = λ f l.
            let threads : tot f (all_standing r2.number s.threads) ≡ tot f (all_standing n s.threads) = ap (λ j. tot f (all_standing j s.threads)) c.same in
            omega (arith, server_said f l s2, server_said f l s, taken_out s i m q f, c.change f l, threads, tot-append f (message_things n m) g.gone);
        fair = g.fair;
      }

  -- what it does with a thread
  module _ (t : ℕ) (y : ThreadState) (here : thread_in s.threads t ≡ Some y) where
    pub record ThreadTurns (r2 : Rest) (y2 : ThreadState) : Type 0 where
      pub named : y2.number ≡ y.number
      pub gone : List Thing
      pub news : List Thing
      pub change : ChangeOf there gone news r2
      pub fair : Fair dues (message_things s.rest.number m ++ (gone ++ stands s.rest.number false y ∷ [])) (stands s.rest.number false y2 ∷ news)

    pub thread_turns : (r2 : Rest) (y2 : ThreadState) → ThreadTurns r2 y2 → Turns dues s (record { rest = r2; threads = set_thread s.threads y2; events = s.events + 1 })
    thread_turns r2 y2 g =
        let n = s.rest.number in
        let c = g.change in
        let s2 : Server = record { rest = r2; threads = set_thread s.threads y2; events = s.events + 1 } in record {
          olds = message_things n m ++ (g.gone ++ stands n false y ∷ []);
          news = stands n false y2 ∷ g.news;
          change = λ f l.
              let threads : tot f (all_standing r2.number s2.threads) ≡ tot f (all_standing n s2.threads) = ap (λ j. tot f (all_standing j s2.threads)) c.same in
              omega (
                arith,
                server_said f l s2,
                server_said f l s,
                taken_out s i m q f,
                c.change f l,
                threads,
                tot-append f (message_things n m) (g.gone ++ stands n false y ∷ []),
                tot-append f g.gone (stands n false y ∷ []),
                tot-set n f s.threads t y y2 here (g.named ∙ thread_number s.threads t y here),
                tot-without n f s.threads t y here,
                thread_alone f n (l.unseen n) n false y,
                thread_alone f n (l.unseen n) n false y2,
              );
          fair = g.fair;
        }
