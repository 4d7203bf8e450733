-- A step that follows a place for reading, at the server and on the plain machine: from the hand in which the place is ready to the turn.
use Rattle.std.proofs.Common.{◌≡◌, ℕ, ◌+◌, ◌==◌, Bool, false, List, [], ◌∷◌, map, reverse, Option, Some, None, option_map, refl, sym, ap, ap₂, subst, ◌∙◌, arith}
use Rattle.law_words_kept.specs.Below.fr_base.Names.{same_object, same_mutex}
use Rattle.law_words_kept.specs.Below.fr_base.declared.label.Plain.{Plain}
use Rattle.law_words_kept.specs.Below.fr_base.declared.label.Plain.TheVariants as plain
use Rattle.law_words_kept.specs.Below.fr_base.declared.step.Fresh.TheVariants as fresh
use Rattle.law_words_kept.specs.Below.fr_base.declared.instruction.Instr.{Instr}
use Rattle.law_words_kept.specs.Below.fr_plain.declared.value.Value.{Value as PlainValue}
use Rattle.law_words_kept.specs.Below.fr_plain.declared.value.Value.TheVariants.{Own}
use Rattle.law_words_kept.specs.Below.fr_code.Machine.{CodeState}
use Rattle.law_words_kept.specs.Below.heap_partition.Plain.{plain_of}
use Rattle.law_words_kept.specs.Below.heap_partition.declared.value.Owned.{Owned}
use Rattle.law_words_kept.specs.Below.heap_partition.declared.value.Owned.TheVariants as owned
use Rattle.law_words_kept.specs.Below.read_cache.Cache.{Copy}
use Rattle.law_words_kept.specs.Below.migration.Packing.{unpin_all}
use Rattle.law_words_kept.specs.Below.thread_state.View.{ThreadState}
use Rattle.law_words_kept.specs.Below.thread_state.declared.value.Value.{Value}
use Rattle.law_words_kept.specs.Below.thread_state.declared.value.Value.TheVariants as value
use Rattle.law_words_kept.specs.Below.server_model.Servers.{Rest}
use Rattle.law_words_kept.specs.Below.server_model.Work.{Hand, with_cache}
use Rattle.law_words_kept.specs.Below.server_model.Commit.{goes_on, go_on}
use Rattle.law_words_kept.specs.Below.server_model.Events.{begin_work, committed}
use Rattle.law_words_kept.specs.Below.coherent_memory.Names.{tot, one}
use Rattle.law_words_kept.specs.Below.coherent_memory.OneHeap.{Node, object_n, mutex_n, task_n, owns, plain_value, running_at}
use Rattle.law_words_kept.specs.Below.law_counts_sums.Laws.{Gives}
use Rattle.law_words_kept.proofs.Below.law_counts_sums.Bags.{rest_things}
use Rattle.law_heap_still.specs.events.Shows.{Sign, nothing, sign_of}
use Rattle.law_heap_still.proofs.events.Sites.{shown, Moves}
use Rattle.law_heap_still.proofs.events.Readied.{Readied, readied_slots, readied_temps, then_ready, copies_ready}
use Rattle.law_heap_steps.proofs.turns.Parts.{value_owns, owned_in}
use Rattle.law_heap_steps.proofs.turns.OneTurn.{after}
use Rattle.law_heap_steps.proofs.turns.PlainTurn.{DoesIn}
use Rattle.law_heap_steps.proofs.turns.Instructions.{TurnIn}

-- WHAT IS OWNED SHOWS

abbrev plain_owns : Node → Plain → Bool
plain_owns (object_n o) (plain.Box p) = same_object p o
plain_owns (mutex_n m) (plain.Mutex n) = same_mutex n m
plain_owns (task_n t) (plain.Task u) = u == t
plain_owns q v = false

abbrev shown_owns : Node → PlainValue → Bool
shown_owns q (Own v) = plain_owns q v
shown_owns q v = false

owns_shown : (q : Node) (v : Owned) → owns q v ≡ plain_owns q (plain_of v)
owns_shown (object_n o) owned.Nothing = refl
owns_shown (object_n o) owned.Unit = refl
owns_shown (object_n o) (owned.Int n) = refl
owns_shown (object_n o) (owned.Box p) = refl
owns_shown (object_n o) (owned.Mutex m) = refl
owns_shown (object_n o) (owned.Task u) = refl
owns_shown (mutex_n m) owned.Nothing = refl
owns_shown (mutex_n m) owned.Unit = refl
owns_shown (mutex_n m) (owned.Int n) = refl
owns_shown (mutex_n m) (owned.Box p) = refl
owns_shown (mutex_n m) (owned.Mutex n) = refl
owns_shown (mutex_n m) (owned.Task u) = refl
owns_shown (task_n t) owned.Nothing = refl
owns_shown (task_n t) owned.Unit = refl
owns_shown (task_n t) (owned.Int n) = refl
owns_shown (task_n t) (owned.Box p) = refl
owns_shown (task_n t) (owned.Mutex m) = refl
owns_shown (task_n t) (owned.Task u) = refl

value_shown : (q : Node) (v : Value) → value_owns q v ≡ shown_owns q (plain_value v)
value_shown q (value.Own v) = owns_shown q v
value_shown (object_n o) value.Gone = refl
value_shown (mutex_n m) value.Gone = refl
value_shown (task_n t) value.Gone = refl
value_shown q (value.SharedSlot i) = refl
value_shown q (value.MutSlot i) = refl
value_shown q (value.Shared r) = refl
value_shown q (value.Mut r) = refl
value_shown q (value.Held m) = refl

all_shown : (q : Node) (vs : List Value) → owned_in q vs ≡ tot (λ v. one (shown_owns q v)) (map plain_value vs)
all_shown q [] = refl
all_shown q (v ∷ vs) = ap₂ (λ a b. one a + b) (value_shown q v) (all_shown q vs)

-- values that show the same own the same
pub alike_owned : (q : Node) (vs us : List Value) → map plain_value us ≡ map plain_value vs → owned_in q vs ≡ owned_in q us
alike_owned q vs us e = all_shown q vs ∙ ap (tot (λ v. one (shown_owns q v))) (sym e) ∙ sym (all_shown q us)

-- THE TURN BEFORE IT IS SETTLED

-- from a hand that is ready, with other slots and temporary values: the thread goes on to the next instruction
pub record QuickIn (a : CodeState) (code : List Instr) (r : Rest) (x : ThreadState) (h : Hand) : Type 0 where
  pub before : Hand
  pub ready : Readied (record { work = begin_work r; thread = x }) before
  pub rest : h.work.rest ≡ before.work.rest
  pub slots : List Value
  pub temps : List Value
  pub thread : h.thread ≡ record before.thread { slots = slots; temps = temps }
  pub even : (q : Node) → owned_in q x.slots + owned_in q x.temps ≡ owned_in q slots + owned_in q temps
  pub does : DoesIn a code x.number (running_at x) (running_at (after x (x.pc + 1) slots temps)) h.work.labels

module _ (a : CodeState) (code : List Instr) (r : Rest) (x : ThreadState) where
  abbrev h0 : Hand
  h0 = record { work = begin_work r; thread = x }

  pub settles_in : (o : Option Hand) → Gives (QuickIn a code r x) o → Gives (TurnIn a code r x) (committed (goes_on o))
  settles_in None g = tt
  settles_in (Some h) g = by (unpin_all h.thread.walk h.work.rest.cache)
    where
      by : (o : Option (List Copy)) → Gives (TurnIn a code r x) (option_map (λ h2. record { hand = h2; names = Some fresh.None })
          (option_map (λ cs. record { work = with_cache cs h.work; thread = record (go_on h).thread { passed = 0; walk = []; moved_since_step = false } }) o))
      by None = tt
      by (Some cs) =
          let left : Hand = record { work = with_cache cs g.before.work; thread = record g.before.thread { walk = [] } } in
          let all = then_ready h0 g.before left g.ready (copies_ready g.before cs []).0 in record {
            pc = x.pc + 1;
            slots = g.slots;
            temps = g.temps;
            thread = ap (λ (y : ThreadState). after y (y.pc + 1) y.slots y.temps) g.thread ∙ ap (λ (y : ThreadState). after y (y.pc + 1) g.slots g.temps) g.ready.thread;
            moves = record { number = ap (λ (q : Rest). q.number) g.rest ∙ all.moves.number; alike = λ w z. all.moves.alike w z ∙ rest_same w z };
            named = refl;
            even = g.even;
            does = g.does;
          }
        where
          rest_same : (w : Sign → ℕ) → w nothing ≡ 0
              → tot (λ y. w (sign_of y)) (rest_things r.number 0 (record g.before.work.rest { cache = cs })) ≡ tot (λ y. w (sign_of y)) (rest_things r.number 0 (record h.work.rest { cache = cs }))
          rest_same w z = ap (λ (q : Rest). tot (λ y. w (sign_of y)) (rest_things r.number 0 (record q { cache = cs }))) (sym g.rest)

  -- THE SAME, WHERE MORE IS DONE AFTER SLOTS AND TEMPORARY VALUES CHANGED

  -- the thread of that hand goes on to the next instruction
  pub record GoesOn (h : Hand) : Type 0 where
    pub moves : Moves [] [] r h.work.rest
    pub thread : after h.thread (h.thread.pc + 1) h.thread.slots h.thread.temps ≡ after x (x.pc + 1) h.thread.slots h.thread.temps
    pub even : (q : Node) → owned_in q x.slots + owned_in q x.temps ≡ owned_in q h.thread.slots + owned_in q h.thread.temps
    pub does : DoesIn a code x.number (running_at x) (running_at (after x (x.pc + 1) h.thread.slots h.thread.temps)) h.work.labels

  pub both_moves : (b c : Rest) → Moves [] [] r b → Moves [] [] b c → Moves [] [] r c
  both_moves b c m n = record { number = n.number ∙ m.number; alike = λ w z. m.alike w z ∙ subst (λ q. shown w (rest_things q 0 b) ≡ shown w (rest_things q 0 c)) m.number (n.alike w z) }

  pub settles_on : (o : Option Hand) → Gives GoesOn o → Gives (TurnIn a code r x) (committed (goes_on o))
  settles_on None g = tt
  settles_on (Some h) g = by (unpin_all h.thread.walk h.work.rest.cache)
    where
      by : (o : Option (List Copy)) → Gives (TurnIn a code r x) (option_map (λ h2. record { hand = h2; names = Some fresh.None })
          (option_map (λ cs. record { work = with_cache cs h.work; thread = record (go_on h).thread { passed = 0; walk = []; moved_since_step = false } }) o))
      by None = tt
      by (Some cs) = record {
        pc = x.pc + 1;
        slots = h.thread.slots;
        temps = h.thread.temps;
        thread = g.thread;
        moves = both_moves h.work.rest (record h.work.rest { cache = cs }) g.moves (copies_ready h cs []).0.moves;
        named = refl;
        even = g.even;
        does = g.does;
      }

  -- a hand that is ready, then other slots and temporary values, then a hand that shows what that one showed
  pub goes_on_from : (h2 mid h : Hand) → Readied h0 h2 → mid.work.rest ≡ h2.work.rest → mid.thread ≡ record h2.thread { slots = mid.thread.slots; temps = mid.thread.temps } → Readied mid h
      → ((q : Node) → owned_in q x.slots + owned_in q x.temps ≡ owned_in q mid.thread.slots + owned_in q mid.thread.temps)
      → DoesIn a code x.number (running_at x) (running_at (after x (x.pc + 1) mid.thread.slots mid.thread.temps)) h.work.labels → GoesOn h
  goes_on_from h2 mid h first rest thread later even does = record {
    moves = both_moves mid.work.rest h.work.rest (subst (λ q. Moves [] [] r q) (sym rest) first.moves) later.moves;
    thread =
        ap (λ (y : ThreadState). after y (y.pc + 1) h.thread.slots h.thread.temps) later.thread ∙ ap (λ (y : ThreadState). after y (y.pc + 1) h.thread.slots h.thread.temps) thread ∙ ap (λ (y : ThreadState). after y (y.pc + 1) h.thread.slots h.thread.temps) first.thread;
    even = λ q. omega (arith, even q, alike_owned q mid.thread.slots h.thread.slots slots_plain, alike_owned q mid.thread.temps h.thread.temps temps_plain);
    does = subst (λ ss. DoesIn a code x.number (running_at x) (record { place = record { pc = x.pc + 1; temps = reverse (map plain_value h.thread.temps) }; slots = ss }) h.work.labels) (sym (ap reverse slots_plain))
        (subst (λ ts. DoesIn a code x.number (running_at x) (record { place = record { pc = x.pc + 1; temps = ts }; slots = reverse (map plain_value mid.thread.slots) }) h.work.labels) (sym (ap reverse temps_plain)) does);
  }
    where
      slots_plain : map plain_value h.thread.slots ≡ map plain_value mid.thread.slots
      slots_plain = readied_slots later

      temps_plain : map plain_value h.thread.temps ≡ map plain_value mid.thread.temps
      temps_plain = readied_temps later
