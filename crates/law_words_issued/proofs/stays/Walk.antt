-- A step that makes no object: the addresses of its server go on.
use Rattle.std.proofs.Common.{◌≡◌, ℕ, ◌+◌, ◌==◌, Bool, true, false, if◌then◌else◌, [], ◌∷◌, ◌++◌, List}
use Rattle.law_words_issued.specs.Below.fr_base.declared.instruction.Instr.{Instr}
use Rattle.law_words_issued.specs.Below.fr_base.declared.instruction.Instr.TheVariants as instr
use Rattle.law_words_issued.specs.Below.fr_base.declared.instruction.Operand.{Operand}
use Rattle.law_words_issued.specs.Below.fr_base.declared.release.Released.TheVariants as released
use Rattle.law_words_issued.specs.Below.global_addr.Words.{server_of}
use Rattle.law_words_issued.specs.Below.heap_partition.declared.value.Owned.{Owned}
use Rattle.law_words_issued.specs.Below.heap_partition.declared.value.Owned.TheVariants as owned
use Rattle.law_words_issued.specs.Below.owner_box.View.{PartitionState}
use Rattle.law_words_issued.specs.Below.mutex_home.Mutexes.{can_make}
use Rattle.law_words_issued.specs.Below.join_home.Tasks.{can_begin, can_begin_pair}
use Rattle.law_words_issued.specs.Below.thread_state.View.{ThreadState, new_thread}
use Rattle.law_words_issued.specs.Below.thread_state.declared.phase.Phase.TheVariants as phase
use Rattle.law_words_issued.specs.Below.thread_state.declared.value.Value.{Value}
use Rattle.law_words_issued.specs.Below.thread_state.declared.value.Value.TheVariants as value
use Rattle.law_words_issued.specs.Below.server_msgs.declared.message.Message.{Message}
use Rattle.law_words_issued.specs.Below.server_msgs.declared.message.Message.TheVariants as message
use Rattle.law_words_issued.specs.Below.server_model.Servers.{Rest}
use Rattle.law_words_issued.specs.Below.server_model.Work.{Work, Hand, sent_from, with_phase}
use Rattle.law_words_issued.specs.Below.server_model.Start.{next_thread, server_for, start_thread, capture}
use Rattle.law_words_issued.specs.Below.server_model.Drop.{home_of, give_up}
use Rattle.law_words_issued.specs.Below.server_model.Commit.{go_on, begun, pair_begun, spawn_with, end_with, label_dropped}
use Rattle.law_words_issued.specs.Below.server_model.Events.{step}
use Rattle.law_words_issued.specs.Below.law_counts_sums.Laws.{Gives}
use Rattle.law_words_issued.proofs.Below.law_counts_sums.Results.{then_gives, over_gives, test_gives}
use Rattle.law_words_issued.proofs.Below.law_counts_things.things.Small.{Of, Places, Small, Passes}
use Rattle.law_words_issued.proofs.Below.law_counts_things.things.Plainly.{Settles, moves_by, Acts, steps}
use Rattle.law_words_issued.proofs.Below.law_counts_things.things.Goes.{puts_by, Any, AnyWord}
use Rattle.law_words_issued.specs.stays.Issued.{MakesNoObject}
use Rattle.law_words_issued.proofs.stays.Places.{Onward, onward_stored, onward_renewed}

no_box : (i : Instr) → MakesNoObject i → (o : Operand) → i ≡ instr.Box o → ⊥
no_box (instr.Box o) m p e = m
no_box i m p e = absurd (cc e)

module _ (colours n : ℕ) (start : PartitionState) where
  abbrev pub Well : Rest → Type 0
  Well r = (r.number ≡ n) × Onward colours n start r.partition

  abbrev F : Rest → ThreadState → Type 0
  F r t = Well r

  says : (t : ℕ) (m : Message) (r : Rest) → Well r → Well (sent_from r t m)
  says t m r g = by (t == r.number)
    where
      by : (b : Bool) → Well (if b then record r { inbox = r.inbox ++ m ∷ [] } else record r { outbox = r.outbox ++ record { target = t; message = m } ∷ [] })
      by true = g
      by false = g

  gives_up : (v : Owned) (w : Work) → Well w.rest → Well (give_up v w).rest
  gives_up (owned.Box p) w g = says (server_of p.word) (message.Drop p.word p.object) w.rest g
  gives_up (owned.Mutex m) w g = says m.home (message.Release (released.Mutex m)) w.rest g
  gives_up (owned.Task t) w g = says (home_of t) (message.Release (released.Task t)) w.rest g
  gives_up owned.Nothing w g = g
  gives_up owned.Unit w g = g
  gives_up (owned.Int m) w g = g

  module _ (servers : ℕ) (i : Instr) (no : MakesNoObject i) where
    places : Places F Any AnyWord
    places = record {
      spot = λ s v h g e. tt;
      puts = λ s v h z a g. puts_by F (λ vs r t u. u) (λ vs r t u. u) (λ h2 w x u. (u.0, onward_stored colours n start h2.work.rest.partition w x u.1)) s v h g;
      worded = λ w v new x a e. tt;
      word_of = λ r a. tt;
      points = λ v p a e. tt;
    }

    small : Small F F Any AnyWord
    small = record {
      places = places;
      tints = λ p h a g e. tt;
      renews = λ p h a g e. (tt, (g.0, onward_renewed colours n start h.work.rest p.word e g.1));
      pinned = λ r a. tt;
      pins = λ w h e g. g;
      uses = λ w h e g. g;
      asks_copy = λ p h a e g. says (server_of p.word) (message.Fetch p.word p.object h.work.rest.number h.thread.number) h.work.rest g;
      asks_object = λ p h a e g. says (server_of p.word) (message.Move p.word p.object h.work.rest.number h.thread.number) h.work.rest g;
    }

    passes : Passes F
    passes m h g = g

    starts : (pc : ℕ) (vs : List Value) (w : Work) → Well w.rest → Well (start_thread servers pc vs w).rest
    starts pc vs w g = says (server_for servers w.rest) (message.Start (new_thread (next_thread w.rest) pc vs)) (record w.rest { started = w.rest.started + 1 }) g

    ends_so : (main : Bool) (v : Owned) (h : Hand) → Of F h → Gives (λ h2. Settles F (with_phase phase.Over h2)) (end_with main v h)
    ends_so true v h g = λ cs z. gives_up v (label_dropped (value.Own v) h).work g
    ends_so false v h g = λ cs z. says h.thread.home (message.Finished h.thread.number v) h.work.rest g

    acts : Acts servers F F Any Any AnyWord i
    acts = record {
      places = places;
      number = λ m. tt;
      unit_value = tt;
      nothing_value = tt;
      gone = tt;
      owned_temp = λ v a. tt;
      shared_slot = λ j. tt;
      mutable_slot = λ j. tt;
      second = λ v u a e. tt;
      shared = λ v u a e. tt;
      lent = λ w d e z v u h a g c. tt;
      off_temps = λ h g. g;
      off_slots = λ h g. g;
      on_temps = λ v h a g. g;
      on_slots = λ v h a g. g;
      gives = λ v h a g. gives_up v h.work g;
      unpins = λ w h e g. g;
      gift = λ v h e g. (tt, g);
      boxes = λ o e v h a g. absurd (no_box i no o e);
      mutexes = λ o e v h a g. test_gives (λ h2. Settles F (go_on h2)) (can_make h.work.rest.mutexes) _ (λ z cs z2. g);
      spawns = λ cs pc e h g.
          then_gives (λ h2. Settles F (go_on h2)) (capture false cs.items h.thread.slots) (spawn_with servers pc (next_thread h.work.rest) h) (λ new q.
          over_gives (Of F) (λ h2. Settles F (go_on h2)) (begun h) _ (test_gives (Of F) (can_begin h.work.rest.tasks (next_thread h.work.rest)) _ (λ z. g)) (λ h2 u cs2 z. starts pc new.0 h2.work u));
      unlocks = λ e m v h a b g. says m.home (message.Unlock m v) h.work.rest g;
      holds = λ w e m a. tt;
      goes = λ o h g cs z. g;
      pairs = λ cs pc ds other e h g.
          let u = next_thread h.work.rest in
          then_gives (Settles F) (capture true cs.items h.thread.slots) _ (λ first p. then_gives (Settles F) (capture true ds.items first.1) _ (λ second q.
          over_gives (Of F) (Settles F) (pair_begun h u (u + 1)) _ (test_gives (Of F) (can_begin_pair h.work.rest.tasks h.thread.number u (u + 1)) _ (λ z. g))
          (λ h2 b cs2 z. starts other second.0 (start_thread servers pc first.0 h2.work) (starts pc first.0 h2.work b))));
      ends = λ o e main v h a g. ends_so main v h g;
      asks_join = λ o e u h q a g. says (home_of u) (message.Join u h.work.rest.number h.thread.number) h.work.rest g;
      asks_dup = λ w e m h q a g. says m.home (message.Dup m h.work.rest.number h.thread.number) h.work.rest g;
      asks_lock = λ w e m h q a g. says m.home (message.Lock m h.work.rest.number h.thread.number) h.work.rest g;
    }

    pub step_goes : (h : Hand) → Well h.work.rest → Gives (λ d. Well d.hand.work.rest) (step servers i h)
    step_goes h g = steps i h (λ z. small) (λ z. passes) acts (λ h2 s q u. moves_by i s h2 (λ w c v z. tt)) g
