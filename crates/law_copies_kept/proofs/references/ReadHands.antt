-- A place that is read is ready: the hand is as it was but for the copies that it uses.
use Rattle.std.proofs.Common.{◌≡◌, ℕ, zero, suc, ◌+◌, false, List, [], ◌∷◌, map, Option, Some, refl, sym, ap, subst, ◌∙◌}
use Rattle.std.specs.Bool.{⊤}
use Rattle.std.specs.Prelude.{slice_get}
use Rattle.law_words_borrows.specs.Below.fr_base.declared.instruction.Instr.{Instr}
use Rattle.law_words_borrows.specs.Below.law_results_reads.Below.mutex_home.Mutexes.{Mutexes}
use Rattle.law_words_borrows.specs.Below.law_results_reads.Below.join_home.Tasks.{Task}
use Rattle.law_words_borrows.specs.Below.law_results_reads.Below.migration.Packing.{unpinned}
use Rattle.law_words_borrows.specs.Below.thread_state.View.{ThreadState}
use Rattle.law_words_borrows.specs.Below.thread_state.declared.value.Value.{Value}
use Rattle.law_words_borrows.specs.Below.thread_state.declared.value.Value.TheVariants as value
use Rattle.law_words_borrows.specs.Below.server_msgs.declared.message.Message.{Message}
use Rattle.law_words_borrows.specs.Below.server_model.Servers.{Sent, Rest}
use Rattle.law_words_borrows.specs.Below.server_model.Work.{Hand}
use Rattle.law_words_borrows.specs.Below.server_model.Prepare.{Access, prepare}
use Rattle.law_words_borrows.specs.Below.coherent_memory.Things.{at_slot, in_slot, slot_things, temp_things, things_at, value_things}
use Rattle.law_copies_kept.specs.Below.law_words_paths.words.Unmoved.{pointing, owning, taking_by}
use Rattle.law_words_borrows.proofs.Below.law_counts_sums.Bags.{body_things}
use Rattle.law_copies_kept.proofs.Below.law_counts_things.things.Small.{Of, Small, Passes, Made, prepare_makes}
use Rattle.law_copies_kept.proofs.Below.law_counts_things.things.Goes.{puts_by, Any, AnyWord}
use Rattle.law_words_borrows.proofs.Below.law_results_reads.Reading.{Reading}
use Rattle.law_copies_kept.proofs.Below.law_words_kept.stays.Alike.{Alike, itself, turned, chain, beside}
use Rattle.law_copies_kept.proofs.Below.law_words_kept.stays.Servers.{held_if, other_copies}
use Rattle.law_copies_kept.proofs.Below.law_words_kept.stays.Threads.{slots_of, temps_of, thread_alike, value_alike}
use Rattle.law_copies_kept.proofs.Below.law_words_kept.stays.Sites.{HandAlike}

-- WHAT NO SMALL STEP TOUCHES

-- mutexes, tasks and messages, and where the thread is
pub record Calm (r0 : Rest) (y : ThreadState) (mutexes : Mutexes) (tasks : List Task) (inbox : List Message) (outbox : List Sent) (pc : ℕ) : Type 0 where
  pub same_mutexes : mutexes ≡ r0.mutexes
  pub same_tasks : tasks ≡ r0.tasks
  pub same_inbox : inbox ≡ r0.inbox
  pub same_outbox : outbox ≡ r0.outbox
  pub same_pc : pc ≡ y.pc

abbrev pub IsCalm : Rest → ThreadState → Rest → ThreadState → Type 0
IsCalm r0 y r t = Calm r0 y r.mutexes r.tasks r.inbox r.outbox t.pc

module _ (r0 : Rest) (y : ThreadState) where
  abbrev F : Rest → ThreadState → Type 0
  F = IsCalm r0 y

  abbrev E : Rest → ThreadState → Type 0
  E r t = ⊤

  small : Small F E Any AnyWord
  small = record {
    places = record {
      spot = λ s v h g e. tt;
      puts = λ s v h z a g. puts_by F (λ vs r t u. u) (λ vs r t u. u) (λ h2 w x u. u) s v h g;
      worded = λ w v new x a e. tt;
      word_of = λ r a. tt;
      points = λ v p a e. tt;
    };
    tints = λ p h a g e. tt;
    renews = λ p h a g e. (tt, g);
    pinned = λ r a. tt;
    pins = λ w h e g. g;
    uses = λ w h e g. g;
    asks_copy = λ p h a e g. tt;
    asks_object = λ p h a e g. tt;
  }

  passes : Passes F
  passes m h g = g

  -- so it is at the start, and where a place is ready
  pub calm_start : F r0 y
  calm_start = record { same_mutexes = refl; same_tasks = refl; same_inbox = refl; same_outbox = refl; same_pc = refl }

  pub calm_ready : (a : Option Access) (h : Hand) → Of F h → Made F E (prepare a h)
  calm_ready a h g = prepare_makes a h (λ z. small) (λ z. passes) g

-- VALUES THAT ARE THE SAME BUT FOR PINS

pointing_unpinned : (v : Value) → pointing (Some (unpinned v)) ≡ pointing (Some v)
pointing_unpinned (value.Shared r) = refl
pointing_unpinned (value.Own v) = refl
pointing_unpinned (value.SharedSlot i) = refl
pointing_unpinned (value.MutSlot i) = refl
pointing_unpinned (value.Mut r) = refl
pointing_unpinned value.Gone = refl
pointing_unpinned (value.Held m) = refl

first_of_two : (u v : Value) (us vs : List Value) → u ∷ us ≡ v ∷ vs → (u ≡ v) × (us ≡ vs)
first_of_two u v us vs e = (cc, cc)

points_same : (xs ys : List Value) → map unpinned xs ≡ map unpinned ys → (i : ℕ) → pointing (slice_get ys i) ≡ pointing (slice_get xs i)
points_same [] [] e i = refl
points_same [] (y ∷ ys) e i = absurd cc
points_same (x ∷ xs) [] e i = absurd cc
points_same (x ∷ xs) (y ∷ ys) e zero = let q = first_of_two (unpinned x) (unpinned y) (map unpinned xs) (map unpinned ys) e in sym (pointing_unpinned y) ∙ ap (λ v. pointing (Some v)) (sym q.0) ∙ pointing_unpinned x
points_same (x ∷ xs) (y ∷ ys) e (suc i) = let q = first_of_two (unpinned x) (unpinned y) (map unpinned xs) (map unpinned ys) e in points_same xs ys q.1 i

things_same : {code : List Instr} (n t i : ℕ) (xs ys : List Value) → map unpinned xs ≡ map unpinned ys → Alike code (things_at (slot_things n t) i xs) (things_at (slot_things n t) i ys)
things_same n t i [] [] e = itself []
things_same n t i [] (y ∷ ys) e = absurd cc
things_same n t i (x ∷ xs) [] e = absurd cc
things_same {code = code} n t i (x ∷ xs) (y ∷ ys) e =
    let q = first_of_two (unpinned x) (unpinned y) (map unpinned xs) (map unpinned ys) e in
    beside (chain (value_alike n n (in_slot t i) (at_slot t i) x) (subst (λ v. Alike code (value_things n (in_slot t i) (at_slot t i) v) (slot_things n t i y)) (sym q.0) (turned (value_alike n n (in_slot t i) (at_slot t i) y)))) (things_same n t (i + 1) xs ys q.1)

-- THE HAND

-- its thread has taken what it had
pub read_takes : (code : List Instr) (b j : ℕ) (h0 h : Hand) → Reading h0.thread h0.work.rest b j h → IsCalm h0.work.rest h0.thread h.work.rest h.thread
    → taking_by h.thread.number h.thread.phase (slice_get code h.thread.pc) ≡ taking_by h0.thread.number h0.thread.phase (slice_get code h0.thread.pc)
read_takes code b j h0 h a c =
    ap (λ q. taking_by q h.thread.phase (slice_get code h.thread.pc)) a.id ∙ ap (λ q. taking_by h0.thread.number q (slice_get code h.thread.pc)) a.phase ∙ ap (λ q. taking_by h0.thread.number h0.thread.phase (slice_get code q)) c.same_pc

-- words see the same of a hand that has read so far
pub read_alike : (code : List Instr) (n b j : ℕ) (h0 h : Hand) → Reading h0.thread h0.work.rest b j h → IsCalm h0.work.rest h0.thread h.work.rest h.thread → HandAlike code n [] h0 h
read_alike code n b j h0 h a c = record {
  number = a.number;
  named = a.id;
  thread = thread_alike n n false false x z [] [] (record { number = a.id; taking = read_takes code b j h0 h a c; slots = points_same x.slots z.slots (sym a.slots); temps = λ i. ap (λ vs. owning (slice_get vs i)) a.temps })
      slots temps gift;
  rest = rest;
}
  where
    x : ThreadState
    x = h0.thread

    z : ThreadState
    z = h.thread

    slots : Alike code (slots_of n x) (slots_of n z)
    slots = subst (λ q. Alike code (slots_of n x) (things_at (slot_things n q) 0 z.slots)) (sym a.id) (things_same n x.number 0 x.slots z.slots (sym a.slots))

    temps : Alike code (temps_of n x) (temps_of n z)
    temps =
        subst (λ q. Alike code (temps_of n x) (things_at (temp_things n q) 0 z.temps)) (sym a.id)
        (subst (λ vs. Alike code (temps_of n x) (things_at (temp_things n x.number) 0 vs)) (sym a.temps) (itself (temps_of n x)))

    gift : Alike code (held_if x.gift) (held_if z.gift)
    gift = subst (λ g. Alike code (held_if x.gift) (held_if g)) (sym a.gift) (itself (held_if x.gift))

    r : Rest
    r = h0.work.rest

    as_was : body_things n h.work.rest ≡ body_things n (record r { cache = h.work.rest.cache })
    as_was =
        ap (λ p. body_things n (record h.work.rest { partition = p })) a.partition
        ∙ ap (λ m. body_things n (record h.work.rest { partition = r.partition; mutexes = m })) c.same_mutexes
        ∙ ap (λ ts. body_things n (record h.work.rest { partition = r.partition; mutexes = r.mutexes; tasks = ts })) c.same_tasks
        ∙ ap (λ b. body_things n (record h.work.rest { partition = r.partition; mutexes = r.mutexes; tasks = r.tasks; inbox = b })) c.same_inbox
        ∙ ap (λ b. body_things n (record h.work.rest { partition = r.partition; mutexes = r.mutexes; tasks = r.tasks; inbox = r.inbox; outbox = b })) c.same_outbox

    rest : Alike code (body_things n r) (body_things n h.work.rest)
    rest = subst (λ l. Alike code (body_things n r) l) (sym as_was) (other_copies n r h.work.rest.cache)
