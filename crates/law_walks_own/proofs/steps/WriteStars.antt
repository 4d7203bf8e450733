-- One star of a write: what it asks for, and of what it is ready.
use Rattle.std.proofs.Common.{◌≡◌, ℕ, ◌+◌, ◌<◌, ◌==◌, nat_lt, Bool, true, false, if◌then◌else◌, [], ◌∷◌, Option, Some, None, refl, sym, ap, ◌∙◌, arith}
use Rattle.std.specs.Prelude.{length}
use Rattle.std.specs.Bool.{⊤}
use Rattle.std.proofs.lemmas.Bool.Decides.{nat_tests}
use Rattle.law_walks_others.specs.Below.global_addr.Words.{server_of}
use Rattle.law_walks_others.specs.Below.heap_partition.declared.value.BoxPtr.{BoxPtr}
use Rattle.law_walks_others.specs.Below.heap_partition.declared.value.Owned.TheVariants as owned
use Rattle.law_walks_others.specs.Below.mut_borrow.declared.mutable.MutRef.{MutRef}
use Rattle.law_walks_others.specs.Below.thread_state.declared.value.Value.{Value}
use Rattle.law_walks_others.specs.Below.thread_state.declared.value.Value.TheVariants as value
use Rattle.law_walks_others.specs.Below.place_walk.declared.hop.Hop.{Hop}
use Rattle.law_walks_others.specs.Below.place_walk.declared.hop.Hop.TheVariants as jump
use Rattle.law_walks_others.specs.Below.place_walk.Hops.{write_hop}
use Rattle.law_walks_others.specs.Below.server_model.Work.{Hand, leads_here, then_some, with_partition, working}
use Rattle.law_walks_others.specs.Below.owner_box.Partition.{stored}
use Rattle.law_walks_others.specs.Below.server_model.NewWords.{NewWord, issue_colour}
use Rattle.law_walks_others.specs.Below.server_model.Places.{Spot, in_slot, on_top, in_cell, in_copy, nowhere, value_at, load_at, note_write, put_at, pointer_of, with_word, put_word}
use Rattle.law_walks_others.specs.Below.server_model.Prepare.{Prepared, ready, requested, nothing, ready_at, ask_object, request_by, box_ready, colour_box, write_by, pass_by, passing, write_value, write_star}
use Rattle.law_walks_others.specs.Below.coherent_memory.Paths.{to_write}
use Rattle.law_walks_others.specs.Below.law_counts_sums.Laws.{Gives}
use Rattle.law_walks_others.proofs.Below.law_counts_sums.Results.{then_gives, test_gives}

-- WHAT IT ASKS FOR

-- the value there is a pointer to an object elsewhere, which is asked for
pub record AsksAt (j : ℕ) (h : Hand) (s : Spot) (h2 : Hand) : Type 0 where
  pub pointed : Value
  pub pointer : BoxPtr
  pub stands : value_at h s ≡ Some pointed
  pub points : pointer_of pointed ≡ Some pointer
  pub awaited : to_write (Some pointed) ≡ record { word = pointer.word; object = pointer.object; comes = true; by_copy = false } ∷ []
  pub elsewhere : (server_of pointer.word == h.work.rest.number) ≡ false
  pub new : nat_lt j h.thread.passed ≡ false
  pub asked : h2 ≡ ask_object pointer (load_at s h)

no_request : (s : Spot) (o : Option Hand) (h2 : Hand) → ready_at s o ≡ requested h2 → ⊥
no_request s None h2 e = absurd (cc e)
no_request s (Some h) h2 e = absurd (cc e)

box_asks_none : (s : Spot) (o : Option NewWord) (h h2 : Hand) → box_ready s o h ≡ requested h2 → ⊥
box_asks_none s None h h2 e = absurd (cc e)
box_asks_none s (Some n) h h2 e = no_request (in_cell n.word None) (put_word s n h) h2 e

pass_asks_none : (s : Spot) (v : Value) (o : Option Hop) (h h2 : Hand) → pass_by s v o h ≡ requested h2 → ⊥
pass_asks_none s v (Some (jump.Slot i)) h h2 e = absurd (cc e)
pass_asks_none s v (Some (jump.NeedTint w)) h h2 e = absurd (cc e)
pass_asks_none s v (Some (jump.AtCell w)) h h2 e = absurd (cc e)
pass_asks_none s v (Some (jump.Direct w)) h h2 e = absurd (cc e)
pass_asks_none s v (Some (jump.Hit w)) h h2 e = absurd (cc e)
pass_asks_none s v (Some (jump.NeedCopy w)) h h2 e = absurd (cc e)
pass_asks_none s v (Some (jump.NeedMove w)) h h2 e = absurd (cc e)
pass_asks_none s v None h h2 e = absurd (cc e)

asked_is : {a b : Hand} → requested a ≡ requested b → b ≡ a
asked_is e = cc

pub write_asks : (j : ℕ) (h : Hand) (s : Spot) (h2 : Hand) → write_star j h s ≡ requested h2 → AsksAt j h s h2
write_asks j h s h2 e = by (value_at h s) refl e
  where
    h1 : Hand
    h1 = load_at s h

    N : ℕ
    N = h.work.rest.number

    at_box : (p : BoxPtr) → value_at h s ≡ Some (value.Own (owned.Box p)) → nat_lt j h.thread.passed ≡ false → (b : Bool) → (server_of p.word == N) ≡ b
        → write_by j s (value.Own (owned.Box p)) (Some (if b then jump.NeedTint p.word else jump.NeedMove p.word)) h1 ≡ requested h2 → AsksAt j h s h2
    at_box p there new true q f = absurd (box_asks_none s (issue_colour p (passing (j + 1) h1).work) (passing (j + 1) h1) h2 f)
    at_box p there new false q f = record { pointed = value.Own (owned.Box p); pointer = p; stands = there; points = refl; awaited = refl; elsewhere = q; new = new; asked = asked_is f }

    at_reference : (r : MutRef) → value_at h s ≡ Some (value.Mut r) → nat_lt j h.thread.passed ≡ false → (b : Bool) → (server_of r.word == N) ≡ b
        → write_by j s (value.Mut r) (Some (if b then jump.AtCell r.word else jump.NeedMove r.word)) h1 ≡ requested h2 → AsksAt j h s h2
    at_reference r there new true q f = absurd (cc f)
    at_reference r there new false q f = record { pointed = value.Mut r; pointer = record { word = r.word; object = r.object }; stands = there; points = refl; awaited = refl; elsewhere = q; new = new; asked = asked_is f }

    by_value : (v : Value) → value_at h s ≡ Some v → nat_lt j h.thread.passed ≡ false → write_by j s v (write_hop N v) h1 ≡ requested h2 → AsksAt j h s h2
    by_value (value.Own (owned.Box p)) there new f = at_box p there new (server_of p.word == N) refl f
    by_value (value.Mut r) there new f = at_reference r there new (server_of r.word == N) refl f
    by_value (value.MutSlot i) there new f = absurd (cc f)
    by_value (value.Own owned.Nothing) there new f = absurd (cc f)
    by_value (value.Own owned.Unit) there new f = absurd (cc f)
    by_value (value.Own (owned.Int m)) there new f = absurd (cc f)
    by_value (value.Own (owned.Mutex m)) there new f = absurd (cc f)
    by_value (value.Own (owned.Task m)) there new f = absurd (cc f)
    by_value value.Gone there new f = absurd (cc f)
    by_value (value.SharedSlot i) there new f = absurd (cc f)
    by_value (value.Shared r) there new f = absurd (cc f)
    by_value (value.Held m) there new f = absurd (cc f)

    by_passed : (v : Value) → value_at h s ≡ Some v → (b : Bool) → nat_lt j h.thread.passed ≡ b → (if b then pass_by s v (write_hop N v) h1 else write_by j s v (write_hop N v) h1) ≡ requested h2 → AsksAt j h s h2
    by_passed v there true q f = absurd (pass_asks_none s v (write_hop N v) h1 h2 f)
    by_passed v there false q f = by_value v there q f

    by : (o : Option Value) → value_at h s ≡ o → write_value j s o h1 ≡ requested h2 → AsksAt j h s h2
    by None q f = absurd (cc f)
    by (Some v) q f = by_passed v q (nat_lt j h.thread.passed) refl f

-- OF WHAT IT IS READY

-- a hop that no event made ready yet leads to an object here, or to a slot
abbrev pub AtHome : ℕ → Value → Type 0
AtHome n (value.Own (owned.Box p)) = server_of p.word ≡ n
AtHome n (value.Mut r) = server_of r.word ≡ n
AtHome n (value.MutSlot i) = ⊤
AtHome n v = ⊥

pub record GoesAt (j : ℕ) (h : Hand) (s : Spot) (h2 : Hand) : Type 0 where
  pub pointed : Value
  pub stands : value_at h s ≡ Some pointed
  pub here : nat_lt j h.thread.passed ≡ false → AtHome h.work.rest.number pointed
  pub passed : j < h2.thread.passed

-- so many hops are passed
abbrev HasPassed : ℕ → Hand → Type 0
HasPassed m h = h.thread.passed ≡ m

noted_passed : (q : Option ℕ) (h : Hand) → (note_write q h).thread.passed ≡ h.thread.passed
noted_passed None h = refl
noted_passed (Some i) h = refl

puts_passed : (s : Spot) (v : Value) (h : Hand) → Gives (HasPassed h.thread.passed) (put_at s v h)
puts_passed (in_slot i) v h = test_gives (HasPassed h.thread.passed) (nat_lt i (length h.thread.slots)) _ (λ on. refl)
puts_passed on_top v h = refl
puts_passed (in_cell w q) (value.Own v) h = test_gives (HasPassed h.thread.passed) (leads_here h.work.rest.partition w) _ (λ on. noted_passed q (working (with_partition (stored h.work.rest.partition w v)) h))
puts_passed (in_cell w q) value.Gone h = tt
puts_passed (in_cell w q) (value.SharedSlot i) h = tt
puts_passed (in_cell w q) (value.MutSlot i) h = tt
puts_passed (in_cell w q) (value.Shared r) h = tt
puts_passed (in_cell w q) (value.Mut r) h = tt
puts_passed (in_cell w q) (value.Held m) h = tt
puts_passed (in_copy w) v h = tt
puts_passed nowhere v h = tt

word_passed : (s : Spot) (n : NewWord) (h : Hand) → Gives (HasPassed h.thread.passed) (put_word s n h)
word_passed s n h =
    let h1 : Hand = record h { work = n.work } in
    then_gives (HasPassed h.thread.passed) (value_at h1 s) _ (λ v e. then_gives (HasPassed h.thread.passed) (with_word n.word v) _ (λ new f. puts_passed s new h1))

ready_is : {a b : Hand} {s u : Spot} → ready a s ≡ ready b u → a ≡ b
ready_is e = cc

-- a box that gets its word here is passed
box_passed : (s : Spot) (o : Option NewWord) (h h2 : Hand) (s2 : Spot) → box_ready s o h ≡ ready h2 s2 → h2.thread.passed ≡ h.thread.passed
box_passed s None h h2 s2 e = absurd (cc e)
box_passed s (Some n) h h2 s2 e = by (put_word s n h) (word_passed s n h) e
  where
    by : (o : Option Hand) → Gives (HasPassed h.thread.passed) o → ready_at (in_cell n.word None) o ≡ ready h2 s2 → h2.thread.passed ≡ h.thread.passed
    by None g f = absurd (cc f)
    by (Some h3) g f = ap (λ (a : Hand). a.thread.passed) (sym (ready_is f)) ∙ g

pub write_goes : (j : ℕ) (h : Hand) (s : Spot) (h2 : Hand) (s2 : Spot) → write_star j h s ≡ ready h2 s2 → GoesAt j h s h2
write_goes j h s h2 s2 e = by (value_at h s) refl e
  where
    h1 : Hand
    h1 = load_at s h

    N : ℕ
    N = h.work.rest.number

    -- over a hop that was ready nothing is passed anew
    as_was : (a : Hand) → a.thread.passed ≡ h.thread.passed → nat_lt j h.thread.passed ≡ true → h2 ≡ a → j < h2.thread.passed
    as_was a same q f = let lt : j < h.thread.passed = grind (arith, nat_tests, q) in let g = ap (λ (b : Hand). b.thread.passed) f in omega (arith, lt, g, same)

    anew : h2.thread.passed ≡ j + 1 → j < h2.thread.passed
    anew f = omega (arith, f)

    both : (v : Value) → value_at h s ≡ Some v → nat_lt j h.thread.passed ≡ true → j < h2.thread.passed → GoesAt j h s h2
    both v there q lt = record { pointed = v; stands = there; here = λ f. absurd (cc (sym q ∙ f)); passed = lt }

    -- passed before
    passes : (v : Value) → value_at h s ≡ Some v → nat_lt j h.thread.passed ≡ true → (o : Option Hop) → pass_by s v o h1 ≡ ready h2 s2 → GoesAt j h s h2
    passes v there q (Some (jump.Slot i)) f = both v there q (as_was h1 refl q (sym (ready_is f)))
    passes v there q (Some (jump.NeedTint w)) f = both v there q (as_was h1 refl q (sym (ready_is f)))
    passes v there q (Some (jump.AtCell w)) f = both v there q (as_was (Rattle.law_walks_others.specs.Below.server_model.Prepare.local v h1) (local_passed v) q (sym (ready_is f)))
      where
        local_passed : (v : Value) → (Rattle.law_walks_others.specs.Below.server_model.Prepare.local v h1).thread.passed ≡ h.thread.passed
        local_passed v = by_pointer (pointer_of v)
          where
            by_pointer : (o : Option BoxPtr) → (Rattle.law_walks_others.specs.Below.server_model.Prepare.hopped (λ p. Rattle.law_walks_others.specs.Below.server_model.Work.note (Rattle.law_walks_others.specs.Below.journal.declared.act.Act.TheVariants.Local p.object p.word)) o h1).thread.passed ≡ h.thread.passed
            by_pointer None = refl
            by_pointer (Some p) = refl
    passes v there q (Some (jump.Direct w)) f = absurd (cc f)
    passes v there q (Some (jump.Hit w)) f = absurd (cc f)
    passes v there q (Some (jump.NeedCopy w)) f = absurd (cc f)
    passes v there q (Some (jump.NeedMove w)) f = absurd (cc f)
    passes v there q None f = absurd (cc f)

    at_box : (p : BoxPtr) → value_at h s ≡ Some (value.Own (owned.Box p)) → (b : Bool) → (server_of p.word == N) ≡ b
        → write_by j s (value.Own (owned.Box p)) (Some (if b then jump.NeedTint p.word else jump.NeedMove p.word)) h1 ≡ ready h2 s2 → GoesAt j h s h2
    at_box p there true q f = record {
      pointed = value.Own (owned.Box p);
      stands = there;
      here = λ new. grind (arith, nat_tests, q);
      passed = anew (box_passed s (issue_colour p (passing (j + 1) h1).work) (passing (j + 1) h1) h2 s2 f);
    }
    at_box p there false q f = absurd (cc f)

    at_reference : (r : MutRef) → value_at h s ≡ Some (value.Mut r) → (b : Bool) → (server_of r.word == N) ≡ b → write_by j s (value.Mut r) (Some (if b then jump.AtCell r.word else jump.NeedMove r.word)) h1 ≡ ready h2 s2 → GoesAt j h s h2
    at_reference r there true q f = record { pointed = value.Mut r; stands = there; here = λ new. grind (arith, nat_tests, q); passed = anew (ap (λ (a : Hand). a.thread.passed) (sym (ready_is f))) }
    at_reference r there false q f = absurd (cc f)

    by_value : (v : Value) → value_at h s ≡ Some v → write_by j s v (write_hop N v) h1 ≡ ready h2 s2 → GoesAt j h s h2
    by_value (value.Own (owned.Box p)) there f = at_box p there (server_of p.word == N) refl f
    by_value (value.Mut r) there f = at_reference r there (server_of r.word == N) refl f
    by_value (value.MutSlot i) there f = record { pointed = value.MutSlot i; stands = there; here = λ new. tt; passed = anew (ap (λ (a : Hand). a.thread.passed) (sym (ready_is f))) }
    by_value (value.Own owned.Nothing) there f = absurd (cc f)
    by_value (value.Own owned.Unit) there f = absurd (cc f)
    by_value (value.Own (owned.Int m)) there f = absurd (cc f)
    by_value (value.Own (owned.Mutex m)) there f = absurd (cc f)
    by_value (value.Own (owned.Task m)) there f = absurd (cc f)
    by_value value.Gone there f = absurd (cc f)
    by_value (value.SharedSlot i) there f = absurd (cc f)
    by_value (value.Shared r) there f = absurd (cc f)
    by_value (value.Held m) there f = absurd (cc f)

    by_passed : (v : Value) → value_at h s ≡ Some v → (b : Bool) → nat_lt j h.thread.passed ≡ b → (if b then pass_by s v (write_hop N v) h1 else write_by j s v (write_hop N v) h1) ≡ ready h2 s2 → GoesAt j h s h2
    by_passed v there true q f = passes v there q (write_hop N v) f
    by_passed v there false q f = by_value v there f

    by : (o : Option Value) → value_at h s ≡ o → write_value j s o h1 ≡ ready h2 s2 → GoesAt j h s h2
    by None q f = absurd (cc f)
    by (Some v) q f = by_passed v q (nat_lt j h.thread.passed) refl f
