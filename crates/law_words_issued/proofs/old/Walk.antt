-- A step that borrows nothing mutably, and the delivery of an object, give no reference another first word, and make none.
use Rattle.std.proofs.Common.{◌≡◌, ℕ, zero, suc, ◌+◌, ◌-◌, ◌==◌, Bool, true, false, nat_lt, if◌then◌else◌, List, [], ◌∷◌, ◌++◌, length, Option, Some, None, refl, sym, subst}
use Rattle.std.specs.Prelude.{slice_get}
use Rattle.std.specs.List.{AllByRecursion}
use Rattle.std.specs.Bool.{⊤}
use Rattle.law_walks_own.specs.Below.fr_base.declared.instruction.Instr.{Instr}
use Rattle.law_walks_own.specs.Below.fr_base.declared.instruction.Instr.TheVariants as instr
use Rattle.law_walks_own.specs.Below.fr_base.declared.place.Lval.{Lval}
use Rattle.law_walks_own.specs.Below.heap_partition.declared.value.Cell.{Cell}
use Rattle.law_walks_own.specs.Below.heap_partition.declared.value.Owned.{Owned}
use Rattle.law_walks_own.specs.Below.heap_partition.declared.value.Owned.TheVariants as owned
use Rattle.law_walks_own.specs.Below.law_copies_kept.Below.law_results_reads.Below.mutex_home.Mutexes.{can_make}
use Rattle.law_walks_own.specs.Below.law_copies_kept.Below.law_results_reads.Below.join_home.Tasks.{can_begin, can_begin_pair}
use Rattle.law_walks_own.specs.Below.thread_state.View.{ThreadState}
use Rattle.law_walks_own.specs.Below.thread_state.declared.phase.Phase.TheVariants as phase
use Rattle.law_walks_own.specs.Below.thread_state.declared.value.Value.{Value}
use Rattle.law_walks_own.specs.Below.thread_state.declared.value.Value.TheVariants as value
use Rattle.law_walks_own.specs.Below.journal.declared.act.Act.TheVariants as act
use Rattle.law_walks_own.specs.Below.server_model.Servers.{Rest}
use Rattle.law_walks_own.specs.Below.server_model.Work.{Hand, leads_here, with_slots, with_partition, working, front_of, with_phase}
use Rattle.law_walks_own.specs.Below.server_model.NewWords.{NewWord, can_grow, issue_placed}
use Rattle.law_walks_own.specs.Below.server_model.Places.{Spot, in_slot, on_top, in_cell, in_copy, nowhere, cell_at, value_in, value_at, written, note_slot, note_write, put_at, second_of, owns_nothing, with_word, set_pointer}
use Rattle.law_walks_own.specs.Below.server_model.Prepare.{Access, ReadTo, ReadPointer, WriteTo, LendTo, EndRef, passing, write_stars}
use Rattle.law_walks_own.specs.Below.server_model.Objects.{waits_for_cell, chased, waits_under, arrived_at, arrived_slot, passed_spot, arrived_write, arrived_lend, arrived_end, arrived, instr_access, deliver_moved}
use Rattle.law_walks_own.specs.Below.server_model.Start.{next_thread, captured, left_after, capture_from, capture}
use Rattle.law_walks_own.specs.Below.server_model.Commit.{go_on, next_object, push_box, begun, pair_begun, spawn_with, end_with, shared_from}
use Rattle.law_walks_own.specs.Below.server_model.Events.{step}
use Rattle.law_walks_own.specs.Below.law_copies_kept.Below.owner_box.Partition.{stored}
use Rattle.law_walks_own.specs.Below.law_counts_sums.Laws.{Gives}
use Rattle.law_walks_own.proofs.Below.law_counts_sums.Results.{then_gives, over_gives, bind_gives, test_gives, given_by}
use Rattle.law_walks_own.proofs.Below.law_counts_sums.Known.{all_at, all_set, all_append, all_take}
use Rattle.law_walks_own.proofs.Below.law_counts_things.things.Mail.{AreCaptured}
use Rattle.law_walks_own.proofs.Below.law_counts_things.things.Small.{Of, Places, Small, Passes, pointer_put}
use Rattle.law_walks_own.proofs.Below.law_counts_things.things.Plainly.{Settles, moves_by, Acts, steps}
use Rattle.law_walks_own.proofs.Below.law_counts_things.things.Goes.{AnyWord}
use Rattle.law_words_issued.proofs.old.Values.{Fine, AllFine}

some_same : {X : Type 0} {a b : X} → Some a ≡ Some b → a ≡ b
some_same e = cc

module _ (f : ℕ → ℕ) where
  abbrev pub F : Rest → ThreadState → Type 0
  F r t = AllFine f t

  abbrev V : Value → Type 0
  V = Fine f

  -- VALUES

  in_fine : (c : Option Cell) (v : Value) → value_in c ≡ Some v → V v
  in_fine None v e = absurd (cc e)
  in_fine (Some c) v e = subst V (some_same e) refl

  spot_fine : (s : Spot) (v : Value) (h : Hand) → Of F h → value_at h s ≡ Some v → V v
  spot_fine (in_slot i) v h g e = all_at V h.thread.slots i v g.0 e
  spot_fine on_top v h g e = all_at V h.thread.temps _ v g.1 e
  spot_fine (in_cell w through) v h g e = in_fine (cell_at h (in_cell w through)) v e
  spot_fine (in_copy w) v h g e = in_fine (cell_at h (in_copy w)) v e
  spot_fine nowhere v h g e = absurd (cc e)

  written_fine : (v : Value) → V v → V (written v)
  written_fine (value.Mut r) a = a
  written_fine value.Gone a = a
  written_fine (value.Own v) a = a
  written_fine (value.SharedSlot i) a = a
  written_fine (value.MutSlot i) a = a
  written_fine (value.Shared r) a = a
  written_fine (value.Held m) a = a

  noted : (through : Option ℕ) (h : Hand) → Of F h → Of F (note_write through h)
  noted None h g = g
  noted (Some i) h g = by (slice_get h.thread.slots i) refl
    where
      by : (o : Option Value) → slice_get h.thread.slots i ≡ o → Of F (with_slots (note_slot h.thread.slots i o) h)
      by None q = g
      by (Some v) q = (all_set V h.thread.slots i (written v) g.0 (written_fine v (all_at V h.thread.slots i v g.0 q)), g.1)

  put_fine : (s : Spot) (v : Value) (h : Hand) → V v → Of F h → Gives (Of F) (put_at s v h)
  put_fine (in_slot i) v h a g = test_gives (Of F) (nat_lt i (length h.thread.slots)) _ (λ on. (all_set V h.thread.slots i v g.0 a, g.1))
  put_fine on_top v h a g = (g.0, all_append V (front_of h.thread.temps) (v ∷ []) (all_take V _ h.thread.temps g.1) (a, tt))
  put_fine (in_cell w through) (value.Own v) h a g = test_gives (Of F) (leads_here h.work.rest.partition w) _ (λ on. noted through (working (with_partition (stored h.work.rest.partition w v)) h) g)
  put_fine (in_cell w through) value.Gone h a g = tt
  put_fine (in_cell w through) (value.SharedSlot j) h a g = tt
  put_fine (in_cell w through) (value.MutSlot j) h a g = tt
  put_fine (in_cell w through) (value.Shared q) h a g = tt
  put_fine (in_cell w through) (value.Mut q) h a g = tt
  put_fine (in_cell w through) (value.Held m) h a g = tt
  put_fine (in_copy w) v h a g = tt
  put_fine nowhere v h a g = tt

  worded_fine : (w : ℕ) (v new : Value) → V v → with_word w v ≡ Some new → V new
  worded_fine w (value.Own (owned.Box p)) new a e = subst V (some_same e) refl
  worded_fine w (value.Mut r) new a e = subst V (some_same e) a
  worded_fine w (value.Own owned.Nothing) new a e = absurd (cc e)
  worded_fine w (value.Own owned.Unit) new a e = absurd (cc e)
  worded_fine w (value.Own (owned.Int n)) new a e = absurd (cc e)
  worded_fine w (value.Own (owned.Mutex m)) new a e = absurd (cc e)
  worded_fine w (value.Own (owned.Task t)) new a e = absurd (cc e)
  worded_fine w value.Gone new a e = absurd (cc e)
  worded_fine w (value.SharedSlot i) new a e = absurd (cc e)
  worded_fine w (value.MutSlot i) new a e = absurd (cc e)
  worded_fine w (value.Shared r) new a e = absurd (cc e)
  worded_fine w (value.Held m) new a e = absurd (cc e)

  second_fine : (v u : Value) → second_of v ≡ Some u → V u
  second_fine (value.Own v) u e = by (owns_nothing v) e
    where
      by : (b : Bool) → (if b then Some (value.Own v) else None) ≡ Some u → V u
      by true d = subst V (some_same d) refl
      by false d = absurd (cc d)
  second_fine (value.SharedSlot i) u e = subst V (some_same e) refl
  second_fine (value.Shared r) u e = subst V (some_same e) refl
  second_fine value.Gone u e = absurd (cc e)
  second_fine (value.MutSlot i) u e = absurd (cc e)
  second_fine (value.Mut r) u e = absurd (cc e)
  second_fine (value.Held m) u e = absurd (cc e)

  shared_fine : (v u : Value) → shared_from v ≡ Some u → V u
  shared_fine (value.SharedSlot i) u e = subst V (some_same e) refl
  shared_fine (value.MutSlot i) u e = subst V (some_same e) refl
  shared_fine (value.Own (owned.Box p)) u e = subst V (some_same e) refl
  shared_fine (value.Shared r) u e = subst V (some_same e) refl
  shared_fine (value.Mut r) u e = subst V (some_same e) refl
  shared_fine (value.Own owned.Nothing) u e = absurd (cc e)
  shared_fine (value.Own owned.Unit) u e = absurd (cc e)
  shared_fine (value.Own (owned.Int n)) u e = absurd (cc e)
  shared_fine (value.Own (owned.Mutex m)) u e = absurd (cc e)
  shared_fine (value.Own (owned.Task t)) u e = absurd (cc e)
  shared_fine value.Gone u e = absurd (cc e)
  shared_fine (value.Held m) u e = absurd (cc e)

  -- CAPTURES

  captured_fine : (branch moves : Bool) (v u : Value) → captured branch moves v ≡ Some u → V u
  captured_fine branch true (value.Own v) u e = subst V (some_same e) refl
  captured_fine branch false (value.Own v) u e = second_fine (value.Own v) u e
  captured_fine true false (value.Shared r) u e = second_fine (value.Shared r) u e
  captured_fine false false (value.Shared r) u e = absurd (cc e)
  captured_fine branch true (value.Shared r) u e = absurd (cc e)
  captured_fine branch true value.Gone u e = absurd (cc e)
  captured_fine branch true (value.SharedSlot i) u e = absurd (cc e)
  captured_fine branch true (value.MutSlot i) u e = absurd (cc e)
  captured_fine branch true (value.Mut r) u e = absurd (cc e)
  captured_fine branch true (value.Held m) u e = absurd (cc e)
  captured_fine branch false value.Gone u e = absurd (cc e)
  captured_fine branch false (value.SharedSlot i) u e = absurd (cc e)
  captured_fine branch false (value.MutSlot i) u e = absurd (cc e)
  captured_fine branch false (value.Mut r) u e = absurd (cc e)
  captured_fine branch false (value.Held m) u e = absurd (cc e)

  abbrev pub BothFine : List Value × List Value → Type 0
  BothFine p = AllByRecursion V p.0 × AllByRecursion V p.1

  left_fine : (moves : Bool) (slots : List Value) (i : ℕ) → AllByRecursion V slots → AllByRecursion V (left_after moves slots i)
  left_fine true slots i a = all_set V slots i value.Gone a refl
  left_fine false slots i a = a

  captures_fine : (branch : Bool) (cs : List (ℕ × Bool)) (new slots : List Value) → AllByRecursion V new → AllByRecursion V slots → Gives BothFine (capture_from branch new cs slots)
  captures_fine branch [] new slots a b = (a, b)
  captures_fine branch (c ∷ cs) new slots a b =
      then_gives BothFine (slice_get slots c.0) _ (λ v q. then_gives BothFine (captured branch c.1 v) _ (λ u e.
      captures_fine branch cs (new ++ u ∷ []) (left_after c.1 slots c.0) (all_append V new (u ∷ []) a (captured_fine branch c.1 v u e, tt)) (left_fine c.1 slots c.0 b)))

  pub capture_fine : (branch : Bool) (cs : List (ℕ × Bool)) (slots : List Value) → AllByRecursion V slots → Gives BothFine (capture branch cs slots)
  capture_fine branch cs slots b = captures_fine branch cs [] slots tt b

  -- whatever slots they come from
  news_fine : (branch : Bool) (cs : List (ℕ × Bool)) (new slots : List Value) → AllByRecursion V new → Gives (λ (p : List Value × List Value). AllByRecursion V p.0) (capture_from branch new cs slots)
  news_fine branch [] new slots a = a
  news_fine branch (c ∷ cs) new slots a =
      then_gives (λ (p : List Value × List Value). AllByRecursion V p.0) (slice_get slots c.0) _ (λ v q. then_gives (λ (p : List Value × List Value). AllByRecursion V p.0) (captured branch c.1 v) _ (λ u e.
      news_fine branch cs (new ++ u ∷ []) (left_after c.1 slots c.0) (all_append V new (u ∷ []) a (captured_fine branch c.1 v u e, tt))))

  pub all_captured : (vs : List Value) → AreCaptured vs → AllByRecursion V vs
  all_captured vs (branch, cs, slots, left, e) = given_by (λ (p : List Value × List Value). AllByRecursion V p.0) (capture branch cs slots) (vs, left) (news_fine branch cs [] slots tt) e

  -- THE PLACE IS MADE READY

  places : Places F V AnyWord
  places = record { spot = spot_fine; puts = λ s v h z a g. put_fine s v h a g; worded = λ w v new x a e. worded_fine w v new a e; word_of = λ r a. tt; points = λ v p a e. refl }

  pub small : Small F F V AnyWord
  small = record {
    places = places;
    tints = λ p h a g e. tt;
    renews = λ p h a g e. (tt, g);
    pinned = λ r a. refl;
    pins = λ w h e g. g;
    uses = λ w h e g. g;
    asks_copy = λ p h a e g. g;
    asks_object = λ p h a e g. g;
  }

  pub passes : Passes F
  passes m h g = g

  -- A STEP

  module _ (servers : ℕ) (i : Instr) (none : (w : Lval) → i ≡ instr.BorrowMut w → ⊥) where
    ends_so : (main : Bool) (v : Owned) (h : Hand) → Of F h → Gives (λ h2. Settles F (with_phase phase.Over h2)) (end_with main v h)
    ends_so true v h g = λ cs z. g
    ends_so false v h g = λ cs z. g

    acts : Acts servers F F V V AnyWord i
    acts = record {
      places = places;
      number = λ m. refl;
      unit_value = refl;
      nothing_value = refl;
      gone = refl;
      owned_temp = λ v a. refl;
      shared_slot = λ j. refl;
      mutable_slot = λ j. refl;
      second = λ v u a e. second_fine v u e;
      shared = λ v u a e. shared_fine v u e;
      lent = λ w d e z v u h a g c. absurd (none w e);
      off_temps = λ h g. (g.0, all_take V _ h.thread.temps g.1);
      off_slots = λ h g. (all_take V _ h.thread.slots g.0, g.1);
      on_temps = λ v h a g. (g.0, all_append V h.thread.temps (v ∷ []) g.1 (a, tt));
      on_slots = λ v h a g. (all_append V h.thread.slots (v ∷ []) g.0 (a, tt), g.1);
      gives = λ v h a g. g;
      unpins = λ w h e g. g;
      gift = λ v h e g. (refl, g);
      boxes = λ o e v h a g.
          over_gives (λ (m : NewWord). ⊤) (λ h2. Settles F (go_on h2)) (issue_placed (act.Make (next_object h)) (record { object = next_object h; value = v }) h.work) (λ m. push_box v m h)
          (test_gives (λ (m : NewWord). ⊤) (can_grow h.work.rest.partition) _ (λ z. tt)) (λ m w cs z. (g.0, all_append V h.thread.temps (value.Own (owned.Box (record { word = m.word; object = next_object h })) ∷ []) g.1 (refl, tt)));
      mutexes = λ o e v h a g. test_gives (λ h2. Settles F (go_on h2)) (can_make h.work.rest.mutexes) _ (λ z cs z2. (g.0, all_append V h.thread.temps (_ ∷ []) g.1 (refl, tt)));
      spawns = λ cs pc e h g.
          bind_gives BothFine (λ h2. Settles F (go_on h2)) (capture false cs.items h.thread.slots) (spawn_with servers pc (next_thread h.work.rest) h) (capture_fine false cs.items h.thread.slots g.0) (λ new q.
          over_gives (λ (h2 : Hand). h2.thread ≡ h.thread) (λ h2. Settles F (go_on h2)) (begun h) _ (test_gives (λ (h2 : Hand). h2.thread ≡ h.thread) (can_begin h.work.rest.tasks (next_thread h.work.rest)) _ (λ z. refl))
          (λ h2 u cs2 z. (q.1, all_append V h2.thread.temps (value.Own (owned.Task (next_thread h.work.rest)) ∷ []) (subst (λ (t : ThreadState). AllByRecursion V t.temps) (sym u) g.1) (refl, tt))));
      unlocks = λ e m v h a b g. g;
      holds = λ w e m a. refl;
      goes = λ o h g cs z. g;
      pairs = λ cs pc ds other e h g.
          let u = next_thread h.work.rest in
          bind_gives BothFine (Settles F) (capture true cs.items h.thread.slots) _ (capture_fine true cs.items h.thread.slots g.0) (λ first p.
          bind_gives BothFine (Settles F) (capture true ds.items first.1) _ (capture_fine true ds.items first.1 p.1) (λ second q.
          over_gives (λ (h2 : Hand). h2.thread ≡ h.thread) (Settles F) (pair_begun h u (u + 1)) _ (test_gives (λ (h2 : Hand). h2.thread ≡ h.thread) (can_begin_pair h.work.rest.tasks h.thread.number u (u + 1)) _ (λ z. refl))
          (λ h2 b cs2 z. (q.1, subst (λ (t : ThreadState). AllByRecursion V t.temps) (sym b) g.1))));
      ends = λ o e main v h a g. ends_so main v h g;
      asks_join = λ o e u h q a g. g;
      asks_dup = λ w e m h q a g. g;
      asks_lock = λ w e m h q a g. g;
    }

    pub step_fine : (h : Hand) → Of F h → Gives (λ d. Of F d.hand) (step servers i h)
    step_fine h g = steps i h (λ z. small) (λ z. passes) acts (λ h2 s q u. moves_by i s h2 (λ w c v z. spot_fine s v h2 u z)) g

  -- AN OBJECT COMES

  comes_at : (new : ℕ) (s : Spot) (h : Hand) → Of F h → Gives (Of F) (arrived_at s new h)
  comes_at new s h a = over_gives (Of F) (Of F) (set_pointer s new h) _ (pointer_put places s new h tt a) (λ h2 b. b)

  comes_slot : (old new i : ℕ) (h : Hand) → Of F h → Gives (Of F) (arrived_slot old new i h)
  comes_slot old new i h a = test_gives (Of F) (waits_under old (slice_get h.thread.slots i)) _ (λ z. comes_at new (in_slot i) h a)

  comes_write : (w : Lval) (new : ℕ) (h : Hand) → Of F h → Gives (Of F) (arrived_write w new h)
  comes_write w new h a = then_gives (Of F) (passed_spot (write_stars h.thread.passed 0 h (in_slot w.slot))) _ (λ s q. comes_at new s (passing (h.thread.passed + 1) h) a)

  comes_lend : (slot d old new : ℕ) (h : Hand) → Of F h → Gives (Of F) (arrived_lend slot d old new h)
  comes_lend slot zero old new h a = tt
  comes_lend slot (suc zero) old new h a = a
  comes_lend slot (suc (suc d)) old new h a = by (waits_under old (slice_get h.thread.slots (chased d h.thread.slots slot)))
    where
      by : (b : Bool) → Gives (Of F) (if b then arrived_at (in_slot (chased d h.thread.slots slot)) new h else Some (with_phase (phase.Taken new) h))
      by true = comes_at new (in_slot (chased d h.thread.slots slot)) h a
      by false = a

  comes_end : (s : Spot) (v : Option Value) (old new : ℕ) (h : Hand) → Of F h → Gives (Of F) (arrived_end s v old new h)
  comes_end s (Some (value.Mut q)) old new h a = by (q.word == old)
    where
      by : (b : Bool) → Gives (Of F) (if b then arrived_at s new h else arrived_write q.holder new h)
      by true = comes_at new s h a
      by false = comes_write q.holder new h a
  comes_end s _ old new h a = tt

  comes_for : (x : Option Access) (old new : ℕ) (h : Hand) → Of F h → Gives (Of F) (arrived x old new h)
  comes_for None old new h a = tt
  comes_for (Some (ReadTo w)) old new h a = comes_slot old new (chased (w.depth - 1) h.thread.slots w.slot) h a
  comes_for (Some (ReadPointer w)) old new h a = comes_slot old new (chased (w.depth - 1) h.thread.slots w.slot) h a
  comes_for (Some (WriteTo w)) old new h a = comes_write w new h a
  comes_for (Some (LendTo w)) old new h a = comes_lend w.slot w.depth old new h a
  comes_for (Some (EndRef s)) old new h a = comes_end s (value_at h s) old new h a

  pub comes_fine : (code : List Instr) (old : ℕ) (c : Cell) (h : Hand) → Of F h → Gives (Of F) (deliver_moved code old c h)
  comes_fine code old c h a =
      test_gives (Of F) (waits_for_cell h.thread.phase old) _ (λ z. bind_gives (λ (m : NewWord). ⊤) (Of F) (issue_placed (act.Take c.object old) c h.work) _
      (test_gives (λ (m : NewWord). ⊤) (can_grow h.work.rest.partition) _ (λ p. tt)) (λ m b. comes_for (instr_access h (slice_get code h.thread.pc)) old m.word (record h { work = m.work }) a))
