-- A step that does no plain step leaves contents, results and gifts with what is wanted of them: it asks for something at most.
use Rattle.std.proofs.Common.{◌≡◌, ℕ, List, Option, Some, None, refl}
use Rattle.std.specs.Prelude.{slice_get, option_map}
use Rattle.std.specs.Bool.{⊤}
use Rattle.std.specs.List.{AllByRecursion}
use Rattle.law_counts_things.specs.Below.fr_base.declared.name.MutexNo.{MutexNo}
use Rattle.law_counts_things.specs.Below.fr_base.declared.step.Fresh.{Fresh}
use Rattle.law_counts_things.specs.Below.fr_base.declared.settings.Options.{Options}
use Rattle.law_counts_things.specs.Below.fr_base.declared.instruction.Instr.{Instr}
use Rattle.law_counts_things.specs.Below.fr_base.declared.instruction.Instr.TheVariants as instr
use Rattle.law_counts_things.specs.Below.global_addr.Words.{server_of}
use Rattle.law_counts_things.specs.Below.heap_partition.declared.value.Owned.{Owned}
use Rattle.law_counts_things.specs.Below.thread_state.View.{ThreadState}
use Rattle.law_counts_things.specs.Below.journal.View.{EntryView}
use Rattle.law_counts_things.specs.Below.server_msgs.declared.message.Message.TheVariants as message
use Rattle.law_counts_things.specs.Below.server_model.declared.event.What.TheVariants.{Step}
use Rattle.law_counts_things.specs.Below.server_model.Servers.{Rest, Server}
use Rattle.law_counts_things.specs.Below.server_model.Work.{Hand, then_some, pop, task_of, thread_in}
use Rattle.law_counts_things.specs.Below.server_model.Drop.{home_of}
use Rattle.law_counts_things.specs.Below.server_model.Places.{Spot}
use Rattle.law_counts_things.specs.Below.server_model.Prepare.{Prepared, ready, requested, nothing, access_of, prepare}
use Rattle.law_counts_things.specs.Below.server_model.Commit.{Committed, done, waits, refused, done_where, waiting, ask_join, join, ask_dup, dup, ask_lock, lock, mutex_at, commit, settle}
use Rattle.law_counts_things.specs.Below.server_model.Events.{begin_work, Stepped, done_step, committed, prepared, step, step_in, stepped, does}
use Rattle.law_counts_things.specs.Below.law_counts_sums.Laws.{Gives}
use Rattle.law_counts_things.proofs.Below.law_counts_sums.Results.{then_gives, map_gives, over_gives}
use Rattle.law_counts_things.proofs.things.Small.{Places, Small, Passes, Made, prepare_makes}
use Rattle.law_counts_things.proofs.things.Goes.{puts_by, Any, AnyWord}
use Rattle.law_counts_things.proofs.things.Threads.{set_all, found_all}
use Rattle.law_types_still.proofs.things.Kept.{Wanted, GiftHas, RestHas, sent_has}
use Rattle.law_types_still.proofs.things.Deliveries.{HandHas}

module _ (w : Wanted) where
  abbrev F : Rest → ThreadState → Type 0
  F r t = RestHas w r × GiftHas w t

  -- THE PLACE

  places : Places F Any AnyWord
  places = record {
    spot = λ s v h g e. tt;
    puts = λ s v h z a g. puts_by F (λ vs r t u. u) (λ vs r t u. u) (λ h2 x v u. u) s v h g;
    worded = λ x v new z a e. tt;
    word_of = λ r a. tt;
    points = λ v p a e. tt;
  }

  small : Small F F Any AnyWord
  small = record {
    places = places;
    tints = λ p h a g e. tt;
    renews = λ p h a g e. (tt, g);
    pinned = λ r a. tt;
    pins = λ x h e g. g;
    uses = λ x h e g. g;
    asks_copy = λ p h a e g. (sent_has w (server_of p.word) (message.Fetch p.word p.object h.work.rest.number h.thread.number) h.work.rest tt g.0, g.1);
    asks_object = λ p h a e g. (sent_has w (server_of p.word) (message.Move p.word p.object h.work.rest.number h.thread.number) h.work.rest tt g.0, g.1);
  }

  passes : Passes F
  passes m h g = g

  -- WHAT AN INSTRUCTION ASKS FOR

  -- where the thread waits
  abbrev Waits : Committed → Type 0
  Waits (waits h) = HandHas w h
  Waits c = ⊤

  done_waits : (names : Fresh) (o : Option Hand) → Waits (done_where names o)
  done_waits names None = tt
  done_waits names (Some h) = tt

  asks_join : (h : Hand) (o : Option ℕ) → HandHas w h → Waits (waiting (option_map (ask_join h) o))
  asks_join h None g = tt
  asks_join h (Some u) g = (sent_has w (home_of u) (message.Join u h.work.rest.number h.thread.number) h.work.rest tt g.0, g.1)

  asks_dup : (h : Hand) (o : Option MutexNo) → HandHas w h → Waits (waiting (option_map (ask_dup h) o))
  asks_dup h None g = tt
  asks_dup h (Some m) g = (sent_has w m.home (message.Dup m h.work.rest.number h.thread.number) h.work.rest tt g.0, g.1)

  asks_lock : (h : Hand) (o : Option MutexNo) → HandHas w h → Waits (waiting (option_map (ask_lock h) o))
  asks_lock h None g = tt
  asks_lock h (Some m) g = (sent_has w m.home (message.Lock m h.work.rest.number h.thread.number) h.work.rest tt g.0, g.1)

  by_gift : (f : Option Owned → Committed) → Waits (f None) → ((v : Owned) → Waits (f (Some v))) → (g : Option Owned) → Waits (f g)
  by_gift f a b None = a
  by_gift f a b (Some v) = b v

  commit_waits : (servers : ℕ) (i : Instr) (s : Spot) (h : Hand) → HandHas w h → Waits (commit servers i s h)
  commit_waits n (instr.Join o) s h g = by_gift (λ x. join o x h) (asks_join h (then_some (pop o h) (λ t. task_of t.item)) g) (λ v. done_waits _ _) h.thread.gift
  commit_waits n (instr.Dup p) s h g = by_gift (λ x. dup s x h) (asks_dup h (mutex_at h s) g) (λ v. done_waits _ _) h.thread.gift
  commit_waits n (instr.Lock p) s h g = by_gift (λ x. lock s x h) (asks_lock h (mutex_at h s) g) (λ v. done_waits _ _) h.thread.gift
  commit_waits n (instr.Let o) s h g = done_waits _ _
  commit_waits n (instr.Assign p o) s h g = done_waits _ _
  commit_waits n (instr.Read p take) s h g = done_waits _ _
  commit_waits n (instr.Borrow p) s h g = done_waits _ _
  commit_waits n (instr.BorrowMut p) s h g = done_waits _ _
  commit_waits n (instr.Box o) s h g = done_waits _ _
  commit_waits n (instr.Arith f a b) s h g = done_waits _ _
  commit_waits n (instr.Print o) s h g = done_waits _ _
  commit_waits n instr.Discard s h g = done_waits _ _
  commit_waits n instr.DropSlot s h g = done_waits _ _
  commit_waits n (instr.Spawn cs pc) s h g = done_waits _ _
  commit_waits n (instr.Mutex o) s h g = done_waits _ _
  commit_waits n instr.Unlock s h g = done_waits _ _
  commit_waits n (instr.Par cs pc ds other) s h g = done_waits _ _
  commit_waits n instr.ParEnd s h g = done_waits _ _
  commit_waits n (instr.End o) s h g = done_waits _ _

  -- THE STEP

  -- where no plain step is done, the hand has what is wanted
  abbrev Undone : Stepped → Type 0
  Undone d = d.names ≡ None → HandHas w d.hand

  committed_undone : (c : Committed) → Waits c → Gives Undone (committed c)
  committed_undone (done names h) g = map_gives Undone (settle h) (done_step names) (λ h2 e none. absurd (cc none))
  committed_undone (waits h) g = λ none. g
  committed_undone refused g = tt

  prepared_undone : (servers : ℕ) (i : Instr) (p : Prepared) → Made F F p → Gives Undone (prepared servers i p)
  prepared_undone n i (ready h s) g = committed_undone (commit n i s h) (commit_waits n i s h g)
  prepared_undone n i (requested h) g = λ none. g
  prepared_undone n i nothing g = tt

  step_undone : (servers : ℕ) (i : Instr) (h : Hand) → HandHas w h → Gives Undone (step servers i h)
  step_undone n i h g = prepared_undone n i (prepare (access_of i h.thread) h) (prepare_makes (access_of i h.thread) h (λ f. small) (λ f. passes) g)

  -- AT A SERVER

  abbrev pub ServerHas : Server → Type 0
  ServerHas s = RestHas w s.rest × AllByRecursion (GiftHas w) s.threads

  pub stepping : (code : List Instr) (o : Options) (s : Server) (t : ℕ) → ServerHas s → Gives (λ (r : Server × EntryView). r.1.done ≡ None → ServerHas r.0) (does code o s (Step t))
  stepping code o s t g = by (thread_in s.threads t) refl
    where
      Then : Server × EntryView → Type 0
      Then r = r.1.done ≡ None → ServerHas r.0

      by : (x : Option ThreadState) → thread_in s.threads t ≡ x → Gives Then (option_map (stepped s) (then_some (option_map (λ y. record { work = begin_work s.rest; thread = y }) x) (step_in code o.servers)))
      by None e = tt
      by (Some y) e =
          let h : Hand = record { work = begin_work s.rest; thread = y } in
          over_gives Undone Then (step_in code o.servers h) (stepped s)
          (then_gives Undone (slice_get code y.pc) (λ i. step o.servers i h) (λ i q. step_undone o.servers i h (g.0, found_all (GiftHas w) s.threads t y g.1 e)))
          (λ d u none. let it = u none in (it.0, set_all (GiftHas w) s.threads d.hand.thread g.1 it.1))
