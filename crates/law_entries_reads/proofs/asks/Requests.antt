-- A step that ends in a request, from what its hand is: its entry leads on.
use Rattle.std.proofs.Common.{◌≡◌, ℕ, ◌+◌, ◌||◌, false, List, [], ◌∷◌, Some, None, refl, sym, ap, ap₂, subst, ◌∙◌, arith}
use Rattle.law_entries_reads.specs.Below.law_copies_kept.Below.fr_base.Lists.{is_in}
use Rattle.law_entries_reads.specs.Below.law_copies_kept.Below.thread_state.View.{ThreadState, is_over}
use Rattle.law_entries_reads.specs.Below.law_copies_kept.Below.server_msgs.declared.message.Message.{Message}
use Rattle.law_entries_reads.specs.Below.law_copies_kept.Below.journal.View.{EntryView}
use Rattle.law_entries_reads.specs.Below.law_copies_kept.Below.journal.declared.act.Act.{Act}
use Rattle.law_entries_reads.specs.Below.law_copies_kept.Below.server_model.Servers.{Rest, Server, Cluster, server_at}
use Rattle.law_entries_reads.specs.Below.law_copies_kept.Below.server_model.Work.{Work, Hand, without_hops, sent_from, thread_in, put_back}
use Rattle.law_entries_reads.specs.Below.law_copies_kept.Below.server_model.Events.{begin_work, begin_at, wait_step, stepped}
use Rattle.law_entries_reads.specs.Below.law_entries_variables.Below.coloured_heap.Heap.{Coloured, Wish}
use Rattle.law_entries_reads.specs.Below.law_copies_kept.Below.coherent_memory.Names.{tot}
use Rattle.law_entries_reads.specs.Below.law_copies_kept.Below.coherent_memory.Things.{Thing, sent, stands, message_things}
use Rattle.law_entries_reads.specs.Below.law_copies_kept.Below.coherent_memory.Sight.{sight, issued}
use Rattle.law_entries_reads.specs.Below.law_copies_kept.Below.coherent_memory.Words.{HasWords}
use Rattle.law_entries_reads.specs.Below.law_copies_kept.Below.coherent_memory.Colours.{StandsColoured}
use Rattle.law_entries_reads.specs.Below.law_copies_kept.Below.coherent_memory.Coherent.{IsSound}
use Rattle.law_entries_reads.proofs.Below.law_copies_kept.Below.law_counts_sums.Bags.{rest_things, of_sending}
use Rattle.law_entries_reads.proofs.Below.law_copies_kept.Below.law_heap_still.events.Tests.{numbers}
use Rattle.law_entries_reads.specs.Below.law_entries_variables.deliveries.Entries.{LeadsOn}
use Rattle.law_entries_reads.proofs.Below.law_entries_variables.deliveries.Answers.{answers_of, fits}
use Rattle.law_entries_reads.proofs.Below.law_entries_variables.deliveries.Weighed.{Seen, WorkTurns, SiteTurns, server_turns}
use Rattle.law_entries_reads.proofs.Below.law_entries_variables.deliveries.After.{Follows}
use Rattle.law_entries_reads.proofs.Below.law_entries_variables.deliveries.Runs.{Runs, silent, leads_on}
use Rattle.law_entries_reads.proofs.Below.law_entries_variables.deliveries.Applied.{Afterwards, server_there}
use Rattle.law_entries_variables.proofs.still.Settled.{runs_here}
use Rattle.law_entries_reads.proofs.asks.Recoloured.{NewWords, given_words, recoloured, wishing}
use Rattle.law_entries_reads.proofs.asks.Frames.{frames_turn}
use Rattle.law_entries_reads.proofs.asks.Agreeing.{Asks, asks_alone, Waits, Rewords, agrees}

-- a hand from which a request was sent
pub record Requested (s : Server) (y : ThreadState) (h : Hand) (target : ℕ) (m : Message) (acts : List Act) : Type 0 where
  pub number : h.work.rest.number ≡ s.rest.number
  pub rest : (f : Thing → ℕ) → Seen f → tot f (rest_things s.rest.number 0 h.work.rest) ≡ tot f (rest_things s.rest.number 0 s.rest) + tot f (message_things target m)
  pub noted : without_hops h.work.acts ≡ acts
  pub waits : Waits y h.thread

-- what is sent from a rest that is seen as it was
pub sends_one : (s : Server) (r : Rest) (target : ℕ) (m : Message) → r.number ≡ s.rest.number → ((f : Thing → ℕ) → Seen f → tot f (rest_things s.rest.number 0 r) ≡ tot f (rest_things s.rest.number 0 s.rest)) → (f : Thing → ℕ) → Seen f
    → tot f (rest_things s.rest.number 0 (sent_from r target m)) ≡ tot f (rest_things s.rest.number 0 s.rest) + tot f (message_things target m)
sends_one s r target m number same f h = let t = of_sending s.rest.number 0 r number target m in omega (arith, t.before f, t.after f, same f h)

module _ (k : Cluster) (sound : IsSound k) (number : ℕ) (s : Server) (here : server_at k.servers number ≡ Some s) (c0 : Coloured) (is_coloured : StandsColoured k c0) (t : ℕ) (y : ThreadState) (at : thread_in s.threads t ≡ Some y) (live : is_over y.phase ≡ false)
    (h : Hand) (target : ℕ) (m : Message) (a : Wish) (asks : Asks m a) (acts : List Act) (l : NewWords) (q : Requested s y h target m acts) where
  abbrev n : ℕ
  n = s.rest.number

  abbrev z : ThreadState
  z = h.thread

  abbrev before : HasWords (sight k)
  before = sound.words.have_words

  -- the entry of the step
  abbrev pub asking_entry : EntryView
  asking_entry = silent n (Some y.number) acts

  abbrev work : Work
  work = record { rest = h.work.rest; acts = without_hops h.work.acts; labels = [] }

  turns_work : WorkTurns (begin_work s.rest) [] (message_things target m) acts work
  turns_work = record { number = q.number; noted = q.noted; labels = refl; things = λ f g. omega (arith, q.rest f g) }

  turns : SiteTurns (begin_at s) (stands n false y ∷ []) (stands n false z ∷ message_things target m) acts (put_back s.threads (wait_step h).hand)
  turns = frames_turn (begin_at s) t y z [] (message_things target m) acts work at q.waits.number q.waits.frames turns_work

  abbrev pub Then : Cluster → Type 0
  Then c = Afterwards k s (stepped s (wait_step h)).0 c

  pub follows : (c : Cluster) → Then c → Follows k c (stands n false y ∷ []) (stands n false z ∷ sent target m ∷ [])
  follows c after = record {
    code = after.0;
    options = after.1;
    things = λ f g.
        let carried : tot f (message_things target m) ≡ tot f (sent target m ∷ []) = ap (tot f) (asks_alone k target m a asks).carries in
        omega (arith, after.2 f, carried, server_turns s (put_back s.threads (wait_step h).hand) (stands n false y ∷ []) (stands n false z ∷ message_things target m) acts s.events (Some z.number) None turns f g);
  }

  entry_is : (stepped s (wait_step h)).1 ≡ asking_entry
  entry_is = ap₂ (λ r i. made r i (without_hops h.work.acts)) q.number q.waits.number ∙ ap (made n y.number) q.noted
    where
      made : ℕ → ℕ → List Act → EntryView
      made r i b = record { server = r; thread = Some i; done = None; acts = b; labels = [] }

  -- where its acts are allowed, and words and issued words are so afterwards
  pub request_led : Runs k.options asking_entry acts c0 (wishing a (recoloured l (answers_of (sight k)))) → (c : Cluster) → Then c → Rewords k c l before → ((v : ℕ) → is_in v (given_words l) || issued (sight k) v ≡ issued (sight c) v) → LeadsOn k.options (stepped s (wait_step h)).1 c0 c
  request_led runs c after words issues =
      subst (λ e. LeadsOn k.options e c0 c) (sym entry_is)
      (leads_on k.options n (Some y.number) acts c0 (answers_of (sight k)) (wishing a (recoloured l (answers_of (sight k)))) c (fits (sight k) c0 is_coloured) (server_there k sound number s here).0
      (record { thread = y.number; server = n; has_ended = false }, runs_here k sound number s here c0 is_coloured t y at live, numbers.itself n) runs
      (agrees k c sound n y z q.waits target m a asks (follows c after) l words issues))
