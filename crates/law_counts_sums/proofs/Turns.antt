-- What an event changes of what is heard of its server, and the sums on asking in its cluster.
use Rattle.std.proofs.Common.{◌≡◌, ℕ, ◌+◌, ◌^◌, ◌<◌, true, false, List, [], ◌∷◌, Option, Some, None, refl, sym, subst, ◌∙◌, arith}
use Rattle.std.specs.Prelude.{slice_get, option_map}
use Rattle.coherent_memory.specs.Below.fr_base.declared.instruction.Instr.{Instr}
use Rattle.coherent_memory.specs.Below.thread_state.View.{ThreadState}
use Rattle.coherent_memory.specs.Below.journal.View.{EntryView}
use Rattle.coherent_memory.specs.Below.server_model.Servers.{Server, Cluster, server_at}
use Rattle.coherent_memory.specs.Below.server_model.Work.{Hand, set_thread, thread_in}
use Rattle.coherent_memory.specs.Below.server_model.Start.{next_thread}
use Rattle.coherent_memory.specs.Below.server_model.Events.{can_step, begin_work, step, step_in, Stepped, stepped}
use Rattle.coherent_memory.specs.Names.{tot}
use Rattle.coherent_memory.specs.Things.{Thing, stands, server_things, servers_things, things_of}
use Rattle.coherent_memory.specs.Sight.{sight}
use Rattle.coherent_memory.specs.Coherent.{IsSound}
use Rattle.law_counts_sums.specs.Laws.{Gives}
use Rattle.law_counts_sums.proofs.Results.{then_gives, over_gives}
use Rattle.law_counts_sums.proofs.Bags.{all_standing, tot-without, tot-set, thread_number}
use Rattle.law_counts_sums.proofs.Unseen.{thread_alone}
use Rattle.law_counts_sums.proofs.Events.{tot-server}
use Rattle.law_counts_sums.proofs.Fair.{Dues, zeros, pays, Fair, Hears, Asking, asking_kept, owed_kept}
use Rattle.law_counts_sums.proofs.Known.{Known}
use Rattle.law_counts_sums.proofs.Held.{owed_of, all_results}
use Rattle.law_counts_sums.proofs.Quiet.{said, server_said, IsGift, quiet_start, After}
use Rattle.law_counts_sums.proofs.QuietSteps.{GiftFits, Unjoined, made_by, step_then}

-- an event turns a server into another one: what is heard of it changes by what goes and what comes, and these weigh the same
pub record Turns (dues : Dues) (s s2 : Server) : Type 0 where
  pub olds : List Thing
  pub news : List Thing
  pub change : (f : Thing → ℕ) → Hears f → tot f (server_things s2) + tot f olds ≡ tot f (server_things s) + tot f news
  pub fair : Fair dues olds news

-- the sums in its cluster
pub turned : (dues : Dues) (ss : List Server) (n : ℕ) (s s2 : Server) → server_at ss n ≡ Some s → Turns dues s s2 → Asking dues.code (servers_things ss) → Asking dues.code (servers_things (Rattle.coherent_memory.specs.Below.server_model.Clusters.with_server ss n s2))
turned dues ss n s s2 h t k =
    asking_kept dues (servers_things ss) _ t.olds t.news (λ f l. let a = tot-server f ss n s s2 h in omega (arith, a.0, a.1, t.change f l)) t.fair k

-- and what is owed there
pub owed_turned : (dues : Dues) (ss : List Server) (n : ℕ) (s s2 : Server) → server_at ss n ≡ Some s → Turns dues s s2
    → (t : ℕ) → tot (owed_of dues.code t) (servers_things (Rattle.coherent_memory.specs.Below.server_model.Clusters.with_server ss n s2)) + dues.spent t ≡ tot (owed_of dues.code t) (servers_things ss) + dues.made t
owed_turned dues ss n s s2 h t = owed_kept dues (servers_things ss) _ t.olds t.news (λ f l. let a = tot-server f ss n s s2 h in omega (arith, a.0, a.1, t.change f l)) t.fair

-- a sound cluster has the sums
pub sound_asking : (k : Cluster) → IsSound k → Asking k.code (things_of k)
sound_asking k sound = record {
  one_answer = sound.requests.one_answer;
  pairs_noted = sound.requests.pairs_noted;
  noted_go_on = sound.mutexes_and_tasks.noted_go_on;
  noted_at_home = sound.mutexes_and_tasks.noted_at_home;
  one_result = λ t. omega (arith, sound.mutexes_and_tasks.one_result t, all_results (sight k) t (things_of k));
}

-- A STEP

-- what it makes, where there is an instruction
abbrev pub made_at : Option Instr → ℕ → ℕ → ℕ
made_at None u = zeros
made_at (Some i) u = made_by i u

abbrev pub stepping : List Instr → Server → ThreadState → Dues
stepping code s y = pays code y (made_at (slice_get code y.pc) (next_thread s.rest))

module _ (code : List Instr) (s : Server) (t : ℕ) (y : ThreadState) (here : thread_in s.threads t ≡ Some y) where
  stepped_turns : (names : Option Rattle.coherent_memory.specs.Below.fr_base.declared.step.Fresh.Fresh) (h : Hand) (made : ℕ → ℕ) → After (pays code y made) y s.rest h → Turns (pays code y made) s (stepped s (record { hand = h; names = names })).0
  stepped_turns names h made g =
      let n = s.rest.number in
      let says = g.says in
      let s2 : Server = record { rest = h.work.rest; threads = set_thread s.threads h.thread; events = s.events + 1 } in record {
        olds = stands n false y ∷ [];
        news = stands n false h.thread ∷ g.news;
        change = λ f l.
            let heard : tot f (server_things s2) ≡ said f n h.work.rest.inbox h.work.rest.outbox h.work.rest.mutexes h.work.rest.tasks + tot f (all_standing n s2.threads) =
            subst (λ m. tot f (server_things s2) ≡ said f m h.work.rest.inbox h.work.rest.outbox h.work.rest.mutexes h.work.rest.tasks + tot f (all_standing m s2.threads)) says.same (server_said f l s2) in
            omega (
              arith,
              heard,
              server_said f l s,
              says.more f l,
              tot-set n f s.threads t y h.thread here (g.named ∙ thread_number s.threads t y here),
              tot-without n f s.threads t y here,
              thread_alone f n (l.unseen n) n false y,
              thread_alone f n (l.unseen n) n false h.thread,
            );
        fair = g.fair;
      }

  pub step_turns : (ss : List Server) (servers : ℕ) → can_step y.phase ≡ true → s.rest.started + 2 < 2 ^ 32 → ((i : Instr) → slice_get code y.pc ≡ Some i → GiftFits i y.gift × Unjoined code y i)
      → Known ss y.home y.slots y.temps s.rest.partition s.rest.cache → Gives (λ (r : Server × EntryView). Turns (stepping code s y) s r.0) (option_map (stepped s) (step_in code servers (record { work = begin_work s.rest; thread = y })))
  step_turns ss servers calm names fits known =
      let h : Hand = record { work = begin_work s.rest; thread = y } in
      let same : y.gift ≡ y.gift = refl in
      over_gives Then (λ (r : Server × EntryView). Turns (stepping code s y) s r.0) (step_in code servers h) (stepped s)
      (then_gives Then (slice_get code y.pc) (λ i. step servers i h)
      (λ i q.
      let f = fits i q in
      subst (λ o. Gives (λ (d : Stepped). After (pays code y (made_at o (next_thread s.rest))) y s.rest d.hand) (step servers i h)) (sym q) (step_then code y s.rest calm names ss servers i h f.0 f.1 (known, quiet_start code (IsGift y) y (begin_work s.rest) same)))) (λ d u. stepped_turns d.names d.hand (made_at (slice_get code y.pc) (next_thread s.rest)) u)
    where
      Then : Stepped → Type 0
      Then d = After (stepping code s y) y s.rest d.hand
