-- A thread that asks for something on its way waits for a cell, at the instruction at which it was.
use Rattle.std.proofs.Common.{◌≡◌, ℕ, nat_lt, length, Option, Some, None, refl, subst}
use Rattle.std.specs.Bool.{⊤}
use Rattle.law_walks_others.specs.Below.owner_box.Partition.{stored}
use Rattle.law_walks_others.specs.Below.thread_state.View.{ThreadState}
use Rattle.law_walks_others.specs.Below.thread_state.declared.phase.Phase.TheVariants as phase
use Rattle.law_walks_others.specs.Below.thread_state.declared.value.Value.{Value}
use Rattle.law_walks_others.specs.Below.thread_state.declared.value.Value.TheVariants as value
use Rattle.law_walks_others.specs.Below.server_model.Servers.{Rest}
use Rattle.law_walks_others.specs.Below.server_model.Work.{Hand, leads_here, with_partition, working}
use Rattle.law_walks_others.specs.Below.server_model.Places.{Spot, in_slot, on_top, in_cell, in_copy, nowhere, note_write, put_at}
use Rattle.law_walks_others.specs.Below.server_model.Prepare.{Access, requested, prepare}
use Rattle.law_walks_others.specs.Below.law_counts_sums.Laws.{Gives}
use Rattle.law_walks_others.proofs.Below.law_counts_sums.Results.{test_gives}
use Rattle.law_words_ends.proofs.Below.law_counts_things.things.Small.{Of, Small, Made, prepare_makes}

module _ (place : ℕ) where
  abbrev At : Rest → ThreadState → Type 0
  At r t = t.pc ≡ place

  abbrev Waits : Rest → ThreadState → Type 0
  Waits r t = (t.pc ≡ place) × ((w : ℕ) × (t.phase ≡ phase.WaitCell w))

  notes : (q : Option ℕ) (h : Hand) → Of At h → Of At (note_write q h)
  notes None h g = g
  notes (Some i) h g = g

  puts : (s : Spot) (v : Value) (h : Hand) → Of At h → Gives (Of At) (put_at s v h)
  puts (in_slot i) v h g = test_gives (Of At) (nat_lt i (length h.thread.slots)) _ (λ on. g)
  puts on_top v h g = g
  puts (in_cell u q) (value.Own v) h g = test_gives (Of At) (leads_here h.work.rest.partition u) _ (λ on. notes q (working (with_partition (stored h.work.rest.partition u v)) h) g)
  puts (in_cell u q) value.Gone h g = tt
  puts (in_cell u q) (value.SharedSlot i) h g = tt
  puts (in_cell u q) (value.MutSlot i) h g = tt
  puts (in_cell u q) (value.Shared r) h g = tt
  puts (in_cell u q) (value.Mut r) h g = tt
  puts (in_cell u q) (value.Held m) h g = tt
  puts (in_copy u) v h g = tt
  puts nowhere v h g = tt

  stays : Small At Waits (λ (v : Value). ⊤) (λ (w : ℕ). ⊤)
  stays = record {
    places = record { spot = λ s v h g e. tt; puts = λ s v h l a g. puts s v h g; worded = λ w v new x a e. tt; word_of = λ r a. tt; points = λ v p a e. tt };
    tints = λ p h a g e. tt;
    renews = λ p h a g on. (tt, g);
    pinned = λ r a. tt;
    pins = λ w h e g. g;
    uses = λ w h e g. g;
    asks_copy = λ p h a e g. (g, (p.word, refl));
    asks_object = λ p h a e g. (g, (p.word, refl));
  }

pub waits_there : (a : Option Access) (h0 h : Hand) → prepare a h0 ≡ requested h → (h.thread.pc ≡ h0.thread.pc) × ((w : ℕ) × (h.thread.phase ≡ phase.WaitCell w))
waits_there a h0 h e = subst (Made (At h0.thread.pc) (Waits h0.thread.pc)) e (prepare_makes a h0 (λ f. stays h0.thread.pc) (λ w n u g. g) refl)
