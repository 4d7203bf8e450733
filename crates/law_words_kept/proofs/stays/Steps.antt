-- Steps that pop and leave what leads nowhere, and a join that asks.
use Rattle.std.proofs.Common.{◌≡◌, ℕ, ℤ, zero, suc, ◌+◌, true, false, List, [], ◌∷◌, ◌++◌, Option, Some, None, option_map, refl, sym, subst, ◌∙◌}
use Rattle.std.specs.Prelude.{slice_get}
use Rattle.law_counts_sums.specs.Below.fr_base.declared.step.Fresh.TheVariants as fresh
use Rattle.law_counts_sums.specs.Below.fr_base.declared.place.Lval.{Lval}
use Rattle.law_counts_sums.specs.Below.fr_base.declared.place.Op.{Op}
use Rattle.law_counts_sums.specs.Below.fr_base.declared.instruction.Operand.{Operand}
use Rattle.law_counts_sums.specs.Below.fr_base.declared.instruction.Operand.TheVariants as operand
use Rattle.law_counts_sums.specs.Below.fr_base.declared.instruction.Instr.{Instr}
use Rattle.law_counts_sums.specs.Below.fr_base.declared.instruction.Instr.TheVariants as instr
use Rattle.law_counts_sums.specs.Below.fr_plain.Acts.{result_of}
use Rattle.law_counts_sums.specs.Below.heap_partition.declared.value.Owned.{Owned}
use Rattle.law_counts_sums.specs.Below.heap_partition.declared.value.Owned.TheVariants as owned
use Rattle.law_counts_sums.specs.Below.read_cache.Cache.{Copy}
use Rattle.law_counts_sums.specs.Below.migration.Packing.{unpin_all}
use Rattle.law_counts_sums.specs.Below.thread_state.View.{ThreadState}
use Rattle.law_counts_sums.specs.Below.thread_state.declared.phase.Phase.{Phase}
use Rattle.law_counts_sums.specs.Below.thread_state.declared.phase.Phase.TheVariants as phase
use Rattle.law_counts_sums.specs.Below.thread_state.declared.value.Value.{Value}
use Rattle.law_counts_sums.specs.Below.thread_state.declared.value.Value.TheVariants as value
use Rattle.law_counts_sums.specs.Below.server_msgs.declared.message.Message.TheVariants as message
use Rattle.law_counts_sums.specs.Below.server_model.Places.{owns_nothing, in_slot}
use Rattle.law_counts_sums.specs.Below.server_model.Prepare.{read_pointer, lend_pointer}
use Rattle.law_counts_sums.specs.Below.server_model.Work.{Hand, Popped, last_of, front_of, with_temps, push_temp, int_of, task_of, taken_as, then_some, pop, pop_int}
use Rattle.law_counts_sums.specs.Below.server_model.Drop.{home_of}
use Rattle.law_counts_sums.specs.Below.server_model.Commit.{goes_on, go_on, waiting, ask_join, take_gift, join, arith, print, par_end, borrow_from, borrow_mut_from, settle}
use Rattle.law_counts_sums.specs.Below.server_model.Events.{Stepped, done_step, wait_step, committed, prepared, step}
use Rattle.law_counts_sums.specs.Below.coherent_memory.Things.{Spot, Location, in_temp, at_temp, Thing, holds, sent, things_at, value_things, temp_things, message_things}
use Rattle.law_words_paths.specs.words.Unmoved.{owning, taking_by}
use Rattle.law_counts_sums.specs.Laws.{Gives}
use Rattle.law_counts_sums.proofs.Results.{map_gives, over_gives, bind_gives}
use Rattle.law_counts_sums.proofs.Values.{last_split}
use Rattle.law_counts_sums.proofs.Bags.{body_things, sent_number}
use Rattle.law_words_kept.proofs.stays.Alike.{Alike, itself, turned, chain, beside, alone, blank, goes}
use Rattle.law_words_kept.proofs.stays.Servers.{held_if, other_copies, sends}
use Rattle.law_words_kept.proofs.stays.Threads.{slots_of, temps_of, thread_alike}
use Rattle.law_words_kept.proofs.stays.Sites.{HandAlike}

-- VALUES THAT LEAD NOWHERE

-- words see nothing of the value, among temporary values
pub record IsUnseen (v : Value) : Type 0 where
  pub points : owning (Some v) ≡ None
  pub things : {code : List Instr} (n : ℕ) (p : Spot) (l : Location) → Alike code (value_things n p l v) []

pub int_unseen : (i : ℤ) → IsUnseen (value.Own (owned.Int i))
int_unseen i = record { points = refl; things = λ n p l. blank (holds p (owned.Int i)) (λ q e h. h) }

-- a reference to a slot
pub shared_slot_unseen : (i : ℕ) → IsUnseen (value.SharedSlot i)
shared_slot_unseen i = record { points = refl; things = λ n p l. itself [] }

pub mut_slot_unseen : (i : ℕ) → IsUnseen (value.MutSlot i)
mut_slot_unseen i = record { points = refl; things = λ n p l. itself [] }

-- what owns nothing
pub owned_unseen : (u : Owned) → owns_nothing u ≡ true → IsUnseen (value.Own u)
owned_unseen owned.Nothing e = record { points = refl; things = λ n p l. blank (holds p owned.Nothing) (λ q x h. h) }
owned_unseen owned.Unit e = record { points = refl; things = λ n p l. blank (holds p owned.Unit) (λ q x h. h) }
owned_unseen (owned.Int i) e = int_unseen i
owned_unseen (owned.Box b) e = absurd cc
owned_unseen (owned.Mutex m) e = absurd cc
owned_unseen (owned.Task t) e = absurd cc

is_int : (v : Value) (i : ℤ) → int_of v ≡ Some i → IsUnseen v
is_int (value.Own (owned.Int j)) i e = int_unseen j
is_int _ i e = absurd cc

-- at the end of a list
pub last_points : (xs : List Value) (v : Value) → owning (Some v) ≡ None → (i : ℕ) → owning (slice_get (xs ++ v ∷ []) i) ≡ owning (slice_get xs i)
last_points [] v e zero = e
last_points [] v e (suc i) = refl
last_points (x ∷ xs) v e zero = refl
last_points (x ∷ xs) v e (suc i) = last_points xs v e i

last_unseen : {code : List Instr} (f : ℕ → Value → List Thing) (i : ℕ) (xs : List Value) (v : Value) → ((j : ℕ) → Alike code (f j v) []) → Alike code (things_at f i (xs ++ v ∷ [])) (things_at f i xs)
last_unseen f i [] v u = chain (alone (f i v)) (u i)
last_unseen f i (x ∷ xs) v u = beside (itself (f i x)) (last_unseen f (i + 1) xs v u)

-- HANDS

-- no object is taken by the thread at its instruction
abbrev pub TakesNoneHere : List Instr → ThreadState → Type 0
TakesNoneHere code x = taking_by x.number x.phase (slice_get code x.pc) ≡ None

-- words see the same of the second hand, whose thread has taken nothing
pub record Goes (code : List Instr) (n : ℕ) (h h2 : Hand) : Type 0 where
  pub alike : HandAlike code n [] h h2
  pub untaken : TakesNoneHere code h2.thread

pub hand_itself : (code : List Instr) (n : ℕ) (h : Hand) → HandAlike code n [] h h
hand_itself code n h = record { number = refl; named = refl; thread = itself _; rest = itself _ }

pub hand_chain : (code : List Instr) (n : ℕ) (h h2 h3 : Hand) → HandAlike code n [] h h2 → HandAlike code n [] h2 h3 → HandAlike code n [] h h3
hand_chain code n h h2 h3 a b = record { number = b.number ∙ a.number; named = b.named ∙ a.named; thread = chain a.thread b.thread; rest = chain a.rest b.rest }

goes_chain : (code : List Instr) (n : ℕ) (h h2 h3 : Hand) → Goes code n h h2 → Goes code n h2 h3 → Goes code n h h3
goes_chain code n h h2 h3 a b = record { alike = hand_chain code n h h2 h3 a.alike b.alike; untaken = b.untaken }

module _ (code : List Instr) (n : ℕ) where
  -- other temporary values
  temps_change : (h : Hand) (vs : List Value) → ((i : ℕ) → owning (slice_get vs i) ≡ owning (slice_get h.thread.temps i)) → Alike code (temps_of n h.thread) (things_at (temp_things n h.thread.number) 0 vs)
      → TakesNoneHere code h.thread → Goes code n h (with_temps vs h)
  temps_change h vs e a none = record {
    alike = record {
      number = refl;
      named = refl;
      thread = thread_alike n n false false h.thread (record h.thread { temps = vs }) [] [] (record { number = refl; taking = refl; slots = λ i. refl; temps = e }) (itself (slots_of n h.thread)) a (itself (held_if h.thread.gift));
      rest = itself (body_things n h.work.rest);
    };
    untaken = none;
  }

  pub pushes : (h : Hand) (v : Value) → IsUnseen v → TakesNoneHere code h.thread → Goes code n h (push_temp v h)
  pushes h v u none =
      temps_change h (h.thread.temps ++ v ∷ []) (last_points h.thread.temps v u.points) (turned (last_unseen (temp_things n h.thread.number) 0 h.thread.temps v (λ j. u.things n (in_temp h.thread.number j) (at_temp h.thread.number j)))) none

  pub pops : (h : Hand) (v : Value) → last_of h.thread.temps ≡ Some v → IsUnseen v → TakesNoneHere code h.thread → Goes code n h (with_temps (front_of h.thread.temps) h)
  pops h v e u none =
      let vs : List Value = front_of h.thread.temps in
      let split : h.thread.temps ≡ vs ++ v ∷ [] = last_split h.thread.temps v e in
      temps_change h vs (λ i. sym (last_points vs v u.points i) ∙ subst (λ ws. owning (slice_get ws i) ≡ owning (slice_get h.thread.temps i)) split refl)
      (subst (λ ws. Alike code (things_at (temp_things n h.thread.number) 0 ws) (things_at (temp_things n h.thread.number) 0 vs)) (sym split)
      (last_unseen (temp_things n h.thread.number) 0 vs v (λ j. u.things n (in_temp h.thread.number j) (at_temp h.thread.number j)))) none

  pub ints : (o : Operand) (h : Hand) → TakesNoneHere code h.thread → Gives (λ (t : Popped ℤ). Goes code n h t.hand) (pop_int o h)
  ints (operand.Const i) h none = record { alike = hand_itself code n h; untaken = none }
  ints operand.Unit h none = tt
  ints operand.Pop h none = by (last_of h.thread.temps) refl
    where
      by : (o : Option Value) → last_of h.thread.temps ≡ o → Gives (λ (t : Popped ℤ). Goes code n h t.hand) (then_some (option_map (λ v. record { item = v; hand = with_temps (front_of h.thread.temps) h }) o) (taken_as int_of))
      by None e = tt
      by (Some v) e = map_gives (λ (t : Popped ℤ). Goes code n h t.hand) (int_of v) (λ x. record { item = x; hand = with_temps (front_of h.thread.temps) h }) (λ i q. pops h v e (is_int v i q) none)

  -- THE STEP IS DONE

  goes_next : (h : Hand) → TakesNoneHere code h.thread → HandAlike code n [] h (go_on h)
  goes_next h none = record {
    number = refl;
    named = refl;
    thread = thread_alike n n false false h.thread (go_on h).thread [] [] (record { number = refl; taking = sym none; slots = λ i. refl; temps = λ i. refl }) (itself (slots_of n h.thread)) (itself (temps_of n h.thread)) (itself (held_if h.thread.gift));
    rest = itself (body_things n h.work.rest);
  }

  pub settles : (h : Hand) → Gives (HandAlike code n [] h) (settle h)
  settles h =
      map_gives (HandAlike code n [] h) (unpin_all h.thread.walk h.work.rest.cache) _
      (λ (cs : List Copy) e. record {
        number = refl;
        named = refl;
        thread = thread_alike n n false false h.thread (record h.thread { passed = 0; walk = []; moved_since_step = false }) [] [] (record { number = refl; taking = refl; slots = λ i. refl; temps = λ i. refl })
            (itself (slots_of n h.thread)) (itself (temps_of n h.thread)) (itself (held_if h.thread.gift));
        rest = other_copies n h.work.rest cs;
      })

  pub goes_over : (h : Hand) (o : Option Hand) → Gives (Goes code n h) o → Gives (λ (d : Stepped). HandAlike code n [] h d.hand) (committed (goes_on o))
  goes_over h None g = tt
  goes_over h (Some h2) g =
      over_gives (HandAlike code n [] (go_on h2)) (λ (d : Stepped). HandAlike code n [] h d.hand) (settle (go_on h2)) (done_step fresh.None) (settles (go_on h2))
      (λ h3 a. hand_chain code n h h2 h3 g.alike (hand_chain code n h2 (go_on h2) h3 (goes_next h2 g.untaken) a))

  -- INSTRUCTIONS

  pub prints : (o : Operand) (h : Hand) → TakesNoneHere code h.thread → Gives (Goes code n h) (print o h)
  prints o h none =
      over_gives (λ (t : Popped ℤ). Goes code n h t.hand) (Goes code n h) (pop_int o h) _ (ints o h none)
      (λ t g. record { alike = record { number = g.alike.number; named = g.alike.named; thread = g.alike.thread; rest = g.alike.rest }; untaken = g.untaken })

  pub computes : (f : Op) (a b : Operand) (h : Hand) → TakesNoneHere code h.thread → Gives (Goes code n h) (arith f a b h)
  computes f a b h none =
      bind_gives (λ (t : Popped ℤ). Goes code n h t.hand) (Goes code n h) (pop_int b h) _ (ints b h none)
      (λ y g. over_gives (λ (t : Popped ℤ). Goes code n y.hand t.hand) (Goes code n h) (pop_int a y.hand) _ (ints a y.hand g.untaken)
      (λ x q.
      let v : Value = value.Own (owned.Int (result_of f x.item y.item)) in
      goes_chain code n h x.hand (push_temp v x.hand) (goes_chain code n h y.hand x.hand g q) (pushes x.hand v (int_unseen (result_of f x.item y.item)) q.untaken)))

  pub pairs_end : (p : Phase) (h : Hand) → TakesNoneHere code h.thread → Gives (Goes code n h) (par_end p h)
  pairs_end (phase.GotPar a b) h none = record { alike = hand_itself code n h; untaken = none }
  pairs_end phase.Ready h none = tt
  pairs_end phase.Got h none = tt
  pairs_end (phase.Taken w) h none = tt
  pairs_end (phase.WaitCell w) h none = tt
  pairs_end (phase.WaitLock m) h none = tt
  pairs_end (phase.WaitDup m) h none = tt
  pairs_end (phase.WaitJoin t) h none = tt
  pairs_end (phase.WaitPar a b) h none = tt
  pairs_end phase.Over h none = tt

  -- A JOIN THAT ASKS

  asks : (h : Hand) (u : ℕ) → h.work.rest.number ≡ n → TakesNoneHere code h.thread → HandAlike code n [] h (wait_step (ask_join h u)).hand
  asks h u number none =
      let m = message.Join u h.work.rest.number h.thread.number in record {
        number = sent_number h.work.rest (home_of u) m;
        named = refl;
        thread = thread_alike n n false false h.thread (record h.thread { phase = phase.WaitJoin u }) [] [] (record { number = refl; taking = sym none; slots = λ i. refl; temps = λ i. refl })
            (itself (slots_of n h.thread)) (itself (temps_of n h.thread)) (itself (held_if h.thread.gift));
        rest = chain (turned (goes {a = message_things (home_of u) m} (blank (sent (home_of u) m) (λ p e i. i)))) (sends n h.work.rest number (home_of u) m);
      }

  pub joins_ask : (o : Operand) (g : Option Owned) (h : Hand) → h.work.rest.number ≡ n → TakesNoneHere code h.thread → Gives (λ (d : Stepped). d.names ≡ None → HandAlike code n [] h d.hand) (committed (join o g h))
  joins_ask o None h number none = by (then_some (pop o h) (λ t. task_of t.item))
    where
      by : (u : Option ℕ) → Gives (λ (d : Stepped). d.names ≡ None → HandAlike code n [] h d.hand) (committed (waiting (option_map (ask_join h) u)))
      by None = tt
      by (Some u) = λ e. asks h u number none
  joins_ask o (Some v) h number none = by (option_map (λ t. push_temp (value.Own v) t.hand) (then_some (pop o (take_gift h)) (taken_as task_of)))
    where
      by : (q : Option Hand) → Gives (λ (d : Stepped). d.names ≡ None → HandAlike code n [] h d.hand) (committed (goes_on q))
      by None = tt
      by (Some h2) = map_gives (λ (d : Stepped). d.names ≡ None → HandAlike code n [] h d.hand) (settle (go_on h2)) (done_step fresh.None) (λ h3 e none_done. absurd (cc none_done))

-- no object is taken where none was
pub untaken_here : (t : ℕ) (p : Phase) (j : Option Instr) → ((v : ℕ) → p ≡ phase.Taken v → ⊥) → taking_by t p j ≡ None
untaken_here t (phase.Taken v) j f = absurd (f v refl)
untaken_here t _ j f = refl

-- WHICH INSTRUCTIONS TAKE NOTHING

pub print_takes : (t : ℕ) (p : Phase) (o : Operand) → taking_by t p (Some (instr.Print o)) ≡ None
print_takes t (phase.Taken w) o = refl
print_takes t _ o = refl

pub arith_takes : (t : ℕ) (p : Phase) (f : Op) (a b : Operand) → taking_by t p (Some (instr.Arith f a b)) ≡ None
arith_takes t (phase.Taken w) f a b = refl
arith_takes t _ f a b = refl

pub pair_takes : (t : ℕ) (p : Phase) → taking_by t p (Some instr.ParEnd) ≡ None
pair_takes t (phase.Taken w) = refl
pair_takes t _ = refl

pub join_takes : (t : ℕ) (p : Phase) (o : Operand) → taking_by t p (Some (instr.Join o)) ≡ None
join_takes t (phase.Taken w) o = refl
join_takes t _ o = refl

-- THE STEP

pub print_steps : (code : List Instr) (n servers : ℕ) (o : Operand) (h : Hand) → slice_get code h.thread.pc ≡ Some (instr.Print o) → Gives (λ (d : Stepped). HandAlike code n [] h d.hand) (step servers (instr.Print o) h)
print_steps code n servers o h i = goes_over code n h (print o h) (prints code n o h (subst (λ j. taking_by h.thread.number h.thread.phase j ≡ None) (sym i) (print_takes h.thread.number h.thread.phase o)))

pub arith_steps : (code : List Instr) (n servers : ℕ) (f : Op) (a b : Operand) (h : Hand) → slice_get code h.thread.pc ≡ Some (instr.Arith f a b) → Gives (λ (d : Stepped). HandAlike code n [] h d.hand) (step servers (instr.Arith f a b) h)
arith_steps code n servers f a b h i =
    goes_over code n h (arith f a b h) (computes code n f a b h (subst (λ j. taking_by h.thread.number h.thread.phase j ≡ None) (sym i) (arith_takes h.thread.number h.thread.phase f a b)))

pub pair_steps : (code : List Instr) (n servers : ℕ) (h : Hand) → slice_get code h.thread.pc ≡ Some instr.ParEnd → Gives (λ (d : Stepped). HandAlike code n [] h d.hand) (step servers instr.ParEnd h)
pair_steps code n servers h i =
    goes_over code n h (par_end h.thread.phase h) (pairs_end code n h.thread.phase h (subst (λ j. taking_by h.thread.number h.thread.phase j ≡ None) (sym i) (pair_takes h.thread.number h.thread.phase)))

pub join_steps : (code : List Instr) (n servers : ℕ) (o : Operand) (h : Hand) → h.work.rest.number ≡ n → slice_get code h.thread.pc ≡ Some (instr.Join o) → Gives (λ (d : Stepped). d.names ≡ None → HandAlike code n [] h d.hand) (step servers (instr.Join o) h)
join_steps code n servers o h number i =
    joins_ask code n o h.thread.gift h number (subst (λ j. taking_by h.thread.number h.thread.phase j ≡ None) (sym i) (join_takes h.thread.number h.thread.phase o))

-- a variable is borrowed
pub borrow_steps : (code : List Instr) (n servers : ℕ) (w : Lval) (h : Hand) → w.depth ≡ 0 → ((v : ℕ) → h.thread.phase ≡ phase.Taken v → ⊥) → Gives (λ (d : Stepped). HandAlike code n [] h d.hand) (step servers (instr.Borrow w) h)
borrow_steps code n servers w h e free =
    subst (λ d. Gives (λ (x : Stepped). HandAlike code n [] h x.hand) (prepared servers (instr.Borrow w) (read_pointer w d h))) (sym e)
    (subst (λ d. Gives (λ (x : Stepped). HandAlike code n [] h x.hand) (committed (goes_on (borrow_from w d (in_slot w.slot) h)))) (sym e)
    (goes_over code n h (Some (push_temp (value.SharedSlot w.slot) h)) (pushes code n h (value.SharedSlot w.slot) (shared_slot_unseen w.slot) (untaken_here h.thread.number h.thread.phase (slice_get code h.thread.pc) free))))

pub borrow_mut_steps : (code : List Instr) (n servers : ℕ) (w : Lval) (h : Hand) → w.depth ≡ 0 → ((v : ℕ) → h.thread.phase ≡ phase.Taken v → ⊥) → Gives (λ (d : Stepped). HandAlike code n [] h d.hand) (step servers (instr.BorrowMut w) h)
borrow_mut_steps code n servers w h e free =
    subst (λ d. Gives (λ (x : Stepped). HandAlike code n [] h x.hand) (prepared servers (instr.BorrowMut w) (lend_pointer w d h))) (sym e)
    (subst (λ d. Gives (λ (x : Stepped). HandAlike code n [] h x.hand) (committed (goes_on (borrow_mut_from w d (in_slot w.slot) h)))) (sym e)
    (goes_over code n h (Some (push_temp (value.MutSlot w.slot) h)) (pushes code n h (value.MutSlot w.slot) (mut_slot_unseen w.slot) (untaken_here h.thread.number h.thread.phase (slice_get code h.thread.pc) free))))
