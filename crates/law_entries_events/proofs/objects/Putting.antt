-- A pointer gets another word, wherever it stands: what the coloured heap sees of its thread stays, a cell at its server shows the same, and no word but the new one comes.
use Rattle.std.proofs.Common.{◌≡◌, ℕ, zero, suc, ◌+◌, ◌-◌, ◌≤◌, ◌==◌, nat_lt, Bool, true, false, if◌then◌else◌, List, [], ◌∷◌, ◌++◌, length, Option, Some, None, refl, sym, ap, subst, ◌∙◌, arith}
use Rattle.std.specs.Prelude.{slice_get, slice_set}
use Rattle.law_runs_whole.specs.Below.law_words_ends.Below.fr_base.Lists.{last_of}
use Rattle.law_runs_whole.specs.Below.law_words_ends.Below.fr_base.declared.place.Lval.{Lval}
use Rattle.law_runs_whole.specs.Below.law_words_ends.Below.global_addr.Words.{address_of}
use Rattle.law_runs_whole.specs.Below.law_words_ends.Below.heap_partition.Plain.{plain_of}
use Rattle.law_runs_whole.specs.Below.law_words_ends.Below.heap_partition.declared.value.Cell.{Cell}
use Rattle.law_runs_whole.specs.Below.law_words_ends.Below.heap_partition.declared.value.Owned.{Owned}
use Rattle.law_runs_whole.specs.Below.law_words_ends.Below.heap_partition.declared.value.Owned.TheVariants as owned
use Rattle.law_runs_whole.specs.Below.law_words_ends.Below.owner_box.Partition.{stored, with_value, cell_of}
use Rattle.law_runs_whole.specs.Below.law_words_ends.Below.thread_state.View.{ThreadState, is_over}
use Rattle.law_runs_whole.specs.Below.law_words_ends.Below.thread_state.declared.phase.Phase.{Phase}
use Rattle.law_runs_whole.specs.Below.law_words_ends.Below.thread_state.declared.phase.Phase.TheVariants as phase
use Rattle.law_runs_whole.specs.Below.law_words_ends.Below.thread_state.declared.value.Value.{Value}
use Rattle.law_runs_whole.specs.Below.law_words_ends.Below.thread_state.declared.value.Value.TheVariants as value
use Rattle.law_runs_whole.specs.Below.server_model.Servers.{Rest}
use Rattle.law_runs_whole.specs.Below.server_model.Work.{Hand, with_partition, with_phase, working, front_of, look, leads_here}
use Rattle.law_runs_whole.specs.Below.server_model.Places.{Spot, in_slot, on_top, in_cell, in_copy, nowhere, value_in, value_at, written, note_slot, note_write, put_cell, put_at, took, with_word, set_pointer}
use Rattle.law_runs_whole.specs.Below.server_model.Prepare.{Access, ReadTo, ReadPointer, WriteTo, LendTo, EndRef, passing, write_stars}
use Rattle.law_runs_whole.specs.Below.server_model.Objects.{chased, waits_under, arrived_at, arrived_slot, passed_spot, arrived_write, arrived_lend, arrived_end, arrived}
use Rattle.law_runs_whole.specs.Below.coherent_memory.Names.{tot}
use Rattle.law_runs_whole.specs.Below.coherent_memory.Things as things
use Rattle.law_runs_whole.specs.Below.coherent_memory.Things.{Thing, Location, at_slot, at_temp, lies, counts, things_at, value_things, slot_things, temp_things}
use Rattle.law_runs_whole.specs.Below.coherent_memory.Placing.{phase_word, words}
use Rattle.law_runs_whole.specs.Below.law_counts_sums.Laws.{Gives}
use Rattle.law_runs_whole.proofs.Below.law_counts_sums.Trades.{tot-push, trade_at, trade_whole}
use Rattle.law_runs_whole.proofs.Below.law_counts_sums.Results.{then_gives, over_gives, test_gives, weaker}
use Rattle.law_runs_whole.proofs.Below.law_counts_sums.Bags.{rest_things, of_partition}
use Rattle.law_runs_whole.proofs.Below.law_counts_sums.Objects.{length_set}
use Rattle.law_runs_whole.proofs.Below.law_counts_sums.Values.{last_split, stores}
use Rattle.law_entries_writes.proofs.Below.law_entries_variables.deliveries.Weighed.{Seen}

-- WHAT STAYS

-- of a thread: its number, its gift, its place and the marks in its slots; and no word but that one comes to its slots and temporary values
pub record ThreadPuts (w : ℕ) (y z : ThreadState) : Type 0 where
  pub number : z.number ≡ y.number
  pub gift : z.gift ≡ y.gift
  pub pc : z.pc ≡ y.pc
  pub walk : z.walk ≡ y.walk
  pub marks : (f : Thing → ℕ) → Seen f → (t : ℕ) → tot f (things_at (slot_things 0 t) 0 z.slots) ≡ tot f (things_at (slot_things 0 t) 0 y.slots)
  pub fewer : (g : ℕ → ℕ) → g w ≡ 0 → (n t : ℕ) → tot (words g) (things_at (slot_things n t) 0 z.slots) + tot (words g) (things_at (temp_things n t) 0 z.temps) ≤ tot (words g) (things_at (slot_things n t) 0 y.slots) + tot (words g) (things_at (temp_things n t) 0 y.temps)

-- a weight that sees neither words nor what objects hold but by its value without words
abbrev pub Plainly : (Thing → ℕ) → Type 0
Plainly f = (s a : ℕ) (c : Cell) (v : Owned) → plain_of v ≡ plain_of c.value → f (lies s a (record c { value = v })) ≡ f (lies s a c)

-- beside it: some cell shows the same, and no word but that one comes
pub record RestPuts (w : ℕ) (r r2 : Rest) : Type 0 where
  pub number : r2.number ≡ r.number
  pub olds : List Thing
  pub news : List Thing
  pub things : (f : Thing → ℕ) → tot f (rest_things r.number 0 r2) + tot f olds ≡ tot f (rest_things r.number 0 r) + tot f news
  pub alike : (f : Thing → ℕ) → Plainly f → tot f news ≡ tot f olds
  pub cells : (f : Thing → ℕ) → ((s a : ℕ) (c : Cell) → f (lies s a c) ≡ 0) → tot f olds ≡ 0
  pub fewer : (g : ℕ → ℕ) → g w ≡ 0 → tot (words g) news ≤ tot (words g) olds

pub record HandPuts (w : ℕ) (h h2 : Hand) : Type 0 where
  pub acts : h2.work.acts ≡ h.work.acts
  pub labels : h2.work.labels ≡ h.work.labels
  pub rest : RestPuts w h.work.rest h2.work.rest
  pub thread : ThreadPuts w h.thread h2.thread

thread_same : (w : ℕ) (y : ThreadState) → ThreadPuts w y y
thread_same w y = record { number = refl; gift = refl; pc = refl; walk = refl; marks = λ f h t. refl; fewer = λ g z n t. omega arith }

rest_same : (w : ℕ) (r : Rest) → RestPuts w r r
rest_same w r = record { number = refl; olds = []; news = []; things = λ f. refl; alike = λ f p. refl; cells = λ f z. refl; fewer = λ g z. omega arith }

-- VALUES WITH ANOTHER WORD

record Renews (w : ℕ) (v new : Value) : Type 0 where
  marks : (f : Thing → ℕ) → Seen f → (t i : ℕ) → tot f (slot_things 0 t i new) ≡ tot f (slot_things 0 t i v)
  fewer : (g : ℕ → ℕ) → g w ≡ 0 → (n : ℕ) (p : things.Spot) (l : Location) → tot (words g) (value_things n p l new) ≤ tot (words g) (value_things n p l v)
  plain : (x u : Owned) → new ≡ value.Own x → v ≡ value.Own u → plain_of x ≡ plain_of u

some_same : {a b : Value} → Some a ≡ Some b → a ≡ b
some_same e = cc

own_same : {a b : Owned} → value.Own a ≡ value.Own b → a ≡ b
own_same e = cc

worded : (w : ℕ) (v new : Value) → with_word w v ≡ Some new → Renews w v new
worded w (value.Own (owned.Box b)) new e = subst (Renews w (value.Own (owned.Box b))) (some_same e) (record {
  marks = λ f h t i. omega (arith, h.held (things.in_slot t i) (owned.Box b), h.held (things.in_slot t i) (owned.Box (record b { word = w })));
  fewer = λ g z n p l. omega (arith, z);
  plain = λ x u f d. ap plain_of (sym (own_same f)) ∙ ap plain_of (own_same d);
})
worded w (value.Mut r) new e = subst (Renews w (value.Mut r)) (some_same e) (record {
  marks = λ f h t i. omega (arith, h.lent (at_slot t i) r, h.lent (at_slot t i) (took r w));
  fewer = λ g z n p l. omega (arith, z);
  plain = λ x u f d. absurd (cc f);
})
worded w v new e = absurd (cc e)

-- a mark of a write changes no word
marked : (w : ℕ) (v : Value) → Renews w v (written v)
marked w (value.Mut r) = record {
  marks = λ f h t i. omega (arith, h.lent (at_slot t i) r, h.lent (at_slot t i) (record r { dirty = true }));
  fewer = λ g z n p l. omega arith;
  plain = λ x u f d. absurd (cc d);
}
marked w value.Gone = record { marks = λ f h t i. refl; fewer = λ g z n p l. omega arith; plain = λ x u f d. absurd (cc f) }
marked w (value.Own v) = record { marks = λ f h t i. refl; fewer = λ g z n p l. omega arith; plain = λ x u f d. ap plain_of (sym (own_same f)) ∙ ap plain_of (own_same d) }
marked w (value.SharedSlot j) = record { marks = λ f h t i. refl; fewer = λ g z n p l. omega arith; plain = λ x u f d. absurd (cc f) }
marked w (value.MutSlot j) = record { marks = λ f h t i. refl; fewer = λ g z n p l. omega arith; plain = λ x u f d. absurd (cc f) }
marked w (value.Shared q) = record { marks = λ f h t i. refl; fewer = λ g z n p l. omega arith; plain = λ x u f d. absurd (cc f) }
marked w (value.Held m) = record { marks = λ f h t i. refl; fewer = λ g z n p l. omega arith; plain = λ x u f d. absurd (cc f) }

-- WHERE IT STANDS

slot_puts : (w : ℕ) (y : ThreadState) (i : ℕ) (v new : Value) → slice_get y.slots i ≡ Some v → Renews w v new → ThreadPuts w y (record y { slots = slice_set y.slots i new })
slot_puts w y i v new e r = record {
  number = refl;
  gift = refl;
  pc = refl;
  walk = refl;
  marks = λ f h t.
      let g = slot_things 0 t in
      let u = trade_at g y.slots 0 i v new (g (0 + i) v) (g (0 + i) new) e (trade_whole (g (0 + i) v) (g (0 + i) new)) in
      omega (arith, u.before f, u.after f, r.marks f h t (0 + i));
  fewer = λ a z n t.
      let g = slot_things n t in
      let u = trade_at g y.slots 0 i v new (g (0 + i) v) (g (0 + i) new) e (trade_whole (g (0 + i) v) (g (0 + i) new)) in
      omega (arith, u.before (words a), u.after (words a), r.fewer a z n (things.in_slot t (0 + i)) (at_slot t (0 + i)));
}

top_puts : (w : ℕ) (y : ThreadState) (v new : Value) → last_of y.temps ≡ Some v → Renews w v new → ThreadPuts w y (record y { temps = front_of y.temps ++ new ∷ [] })
top_puts w y v new e r =
    let front = front_of y.temps in
    let split = last_split y.temps v e in record {
      number = refl;
      gift = refl;
      pc = refl;
      walk = refl;
      marks = λ f h t. refl;
      fewer = λ a z n t.
          let g = temp_things n t in
          let i = 0 + length front in
          omega (arith, ap (λ l. tot (words a) (things_at g 0 l)) split, tot-push g (words a) front 0 v, tot-push g (words a) front 0 new, r.fewer a z n (things.in_temp t i) (at_temp t i));
    }

cell_puts : (w : ℕ) (r : Rest) (u : ℕ) (c : Cell) (x : Owned) → look r.partition u ≡ Some c → Renews w (value.Own c.value) (value.Own x) → RestPuts w r (record r { partition = stored r.partition u x })
cell_puts w r u c x e p =
    let n = r.number in
    let q = r.partition in
    let a = address_of u in
    record {
      number = refl;
      olds = lies n a c ∷ [];
      news = lies n a (record c { value = x }) ∷ [];
      things = λ f.
          let t = of_partition n 0 r (stored q u x) (stores n q u c x e) in
          let same : f (counts n (length (stored q u x).cells) q.retired r.started r.mutexes.made 0) ≡ f (counts n (length q.cells) q.retired r.started r.mutexes.made 0) = ap (λ m. f (counts n m q.retired r.started r.mutexes.made 0)) (length_set q.cells a (with_value x (cell_of q u))) in
          omega (arith, t.before f, t.after f, same);
      alike = λ f plainly. ap (λ m. m + 0) (plainly n a c x (p.plain x c.value refl refl));
      cells = λ f z. omega (arith, z n a c);
      fewer = λ g z. p.fewer g z n (things.in_hand) (at_temp 0 0);
    }

noted_puts : (w : ℕ) (through : Option ℕ) (h : Hand) → ThreadPuts w h.thread (note_write through h).thread
noted_puts w None h = thread_same w h.thread
noted_puts w (Some i) h = by (slice_get h.thread.slots i) refl
  where
    by : (o : Option Value) → slice_get h.thread.slots i ≡ o → ThreadPuts w h.thread (record h.thread { slots = note_slot h.thread.slots i o })
    by None e = thread_same w h.thread
    by (Some v) e = slot_puts w h.thread i v (written v) e (marked w v)

-- the mark touches the thread alone
noted_work : (through : Option ℕ) (h : Hand) → (note_write through h).work ≡ h.work
noted_work None h = refl
noted_work (Some i) h = refl

put_puts : (w : ℕ) (s : Spot) (v new : Value) (h : Hand) → value_at h s ≡ Some v → Renews w v new → Gives (HandPuts w h) (put_at s new h)
put_puts w (in_slot i) v new h e r =
    test_gives (HandPuts w h) (nat_lt i (length h.thread.slots)) _ (λ on. record { acts = refl; labels = refl; rest = rest_same w h.work.rest; thread = slot_puts w h.thread i v new e r })
put_puts w on_top v new h e r = record { acts = refl; labels = refl; rest = rest_same w h.work.rest; thread = top_puts w h.thread v new e r }
put_puts w (in_cell u through) v (value.Own x) h e r = by (look h.work.rest.partition u) refl e
  where
    by : (o : Option Cell) → look h.work.rest.partition u ≡ o → value_in o ≡ Some v → Gives (HandPuts w h) (put_cell u through x h)
    by None b d = absurd (cc d)
    by (Some c) b d =
        let same : v ≡ value.Own c.value = cc in
        let q = h.work.rest.partition in
        let h1 = working (with_partition (stored q u x)) h in
        test_gives (HandPuts w h) (leads_here q u) _ (λ on. record {
          acts = ap (λ z. z.acts) (noted_work through h1);
          labels = ap (λ z. z.labels) (noted_work through h1);
          rest = subst (λ z. RestPuts w h.work.rest z.rest) (sym (noted_work through h1)) (cell_puts w h.work.rest u c x b (subst (λ z. Renews w z (value.Own x)) same r));
          thread = noted_puts w through h1;
        })
put_puts w (in_cell u through) v value.Gone h e r = tt
put_puts w (in_cell u through) v (value.SharedSlot i) h e r = tt
put_puts w (in_cell u through) v (value.MutSlot i) h e r = tt
put_puts w (in_cell u through) v (value.Shared q) h e r = tt
put_puts w (in_cell u through) v (value.Mut q) h e r = tt
put_puts w (in_cell u through) v (value.Held m) h e r = tt
put_puts w (in_copy u) v new h e r = tt
put_puts w nowhere v new h e r = tt

set_puts : (w : ℕ) (s : Spot) (h : Hand) → Gives (HandPuts w h) (set_pointer s w h)
set_puts w s h = then_gives (HandPuts w h) (value_at h s) _ (λ v e. then_gives (HandPuts w h) (with_word w v) _ (λ new f. put_puts w s v new h e (worded w v new f)))

-- THE THREAD GOES ON

-- the thread waits no longer, and its phase has no word but that one
pub record GoesOn (w : ℕ) (h h2 : Hand) : Type 0 where
  pub puts : HandPuts w h h2
  pub live : is_over h2.thread.phase ≡ false
  pub old : (g : ℕ → ℕ) → g w ≡ 0 → phase_word g h2.thread.phase ≡ 0

phased : (w : ℕ) (h h2 : Hand) (p : Phase) → HandPuts w h h2 → is_over p ≡ false → ((g : ℕ → ℕ) → g w ≡ 0 → phase_word g p ≡ 0) → GoesOn w h (with_phase p h2)
phased w h h2 p q live old = record {
  puts = record {
    acts = q.acts;
    labels = q.labels;
    rest = q.rest;
    thread = record { number = q.thread.number; gift = q.thread.gift; pc = q.thread.pc; walk = q.thread.walk; marks = q.thread.marks; fewer = q.thread.fewer };
  };
  live = live;
  old = old;
}

got_at : (w : ℕ) (s : Spot) (h : Hand) → Gives (GoesOn w h) (arrived_at s w h)
got_at w s h = over_gives (HandPuts w h) (GoesOn w h) (set_pointer s w h) (with_phase phase.Got) (set_puts w s h) (λ h2 q. phased w h h2 phase.Got q refl (λ g z. refl))

taken : (w : ℕ) (h : Hand) → GoesOn w h (with_phase (phase.Taken w) h)
taken w h = phased w h h (phase.Taken w) (record { acts = refl; labels = refl; rest = rest_same w h.work.rest; thread = thread_same w h.thread }) refl (λ g z. z)

got_slot : (w old i : ℕ) (h : Hand) → Gives (GoesOn w h) (arrived_slot old w i h)
got_slot w old i h = test_gives (GoesOn w h) (waits_under old (slice_get h.thread.slots i)) _ (λ on. got_at w (in_slot i) h)

-- whatever was passed
passed_on : (w m : ℕ) (h h2 : Hand) → GoesOn w (passing m h) h2 → GoesOn w h h2
passed_on w m h h2 q = record {
  puts = record {
    acts = q.puts.acts;
    labels = q.puts.labels;
    rest = q.puts.rest;
    thread = record { number = q.puts.thread.number; gift = q.puts.thread.gift; pc = q.puts.thread.pc; walk = q.puts.thread.walk; marks = q.puts.thread.marks; fewer = q.puts.thread.fewer };
  };
  live = q.live;
  old = q.old;
}

got_write : (w : ℕ) (l : Lval) (h : Hand) → Gives (GoesOn w h) (arrived_write l w h)
got_write w l h =
    then_gives (GoesOn w h) (passed_spot (write_stars h.thread.passed 0 h (in_slot l.slot))) _
    (λ s q. let h1 = passing (h.thread.passed + 1) h in weaker (GoesOn w h1) (GoesOn w h) (arrived_at s w h1) (got_at w s h1) (λ h2 g. passed_on w (h.thread.passed + 1) h h2 g))

got_lend : (w slot d old : ℕ) (h : Hand) → Gives (GoesOn w h) (arrived_lend slot d old w h)
got_lend w slot zero old h = tt
got_lend w slot (suc zero) old h = taken w h
got_lend w slot (suc (suc d)) old h = by (waits_under old (slice_get h.thread.slots (chased d h.thread.slots slot)))
  where
    by : (b : Bool) → Gives (GoesOn w h) (if b then arrived_at (in_slot (chased d h.thread.slots slot)) w h else Some (with_phase (phase.Taken w) h))
    by true = got_at w (in_slot (chased d h.thread.slots slot)) h
    by false = taken w h

got_end : (w : ℕ) (s : Spot) (v : Option Value) (old : ℕ) (h : Hand) → Gives (GoesOn w h) (arrived_end s v old w h)
got_end w s (Some (value.Mut r)) old h = by (r.word == old)
  where
    by : (b : Bool) → Gives (GoesOn w h) (if b then arrived_at s w h else arrived_write r.holder w h)
    by true = got_at w s h
    by false = got_write w r.holder h
got_end w s _ old h = tt

-- whatever it waits at
pub got_for : (w : ℕ) (x : Option Access) (old : ℕ) (h : Hand) → Gives (GoesOn w h) (arrived x old w h)
got_for w None old h = tt
got_for w (Some (ReadTo l)) old h = got_slot w old (chased (l.depth - 1) h.thread.slots l.slot) h
got_for w (Some (ReadPointer l)) old h = got_slot w old (chased (l.depth - 1) h.thread.slots l.slot) h
got_for w (Some (WriteTo l)) old h = got_write w l h
got_for w (Some (LendTo l)) old h = got_lend w l.slot l.depth old h
got_for w (Some (EndRef s)) old h = got_end w s (value_at h s) old h
