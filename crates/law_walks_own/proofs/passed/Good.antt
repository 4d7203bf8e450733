-- Boxes whose words are good, in slots and in cells of a hand: what a pointer that gets a good word leaves of them.
use Rattle.std.proofs.Common.{◌≡◌, ℕ, zero, suc, ◌<◌, Bool, true, false, nat_lt, if◌then◌else◌, List, [], ◌∷◌, length, Option, Some, None, refl, sym, ap, subst, ◌∙◌}
use Rattle.std.specs.Prelude.{slice_get, slice_set}
use Rattle.std.specs.Bool.{⊤}
use Rattle.std.proofs.lemmas.List.{get_or-set_same}
use Rattle.std.proofs.lemmas.Option.{slice_get_within}
use Rattle.law_copies_kept.specs.Below.fr_base.declared.name.ObjNo.{ObjNo}
use Rattle.law_copies_kept.specs.Below.global_addr.Words.{address_of}
use Rattle.law_copies_kept.specs.Below.heap_partition.declared.value.BoxPtr.{BoxPtr}
use Rattle.law_copies_kept.specs.Below.heap_partition.declared.value.Cell.{Cell}
use Rattle.law_copies_kept.specs.Below.heap_partition.declared.value.Owned.{Owned}
use Rattle.law_copies_kept.specs.Below.heap_partition.declared.value.Owned.TheVariants as owned
use Rattle.law_copies_kept.specs.Below.owner_box.View.{PartitionState}
use Rattle.law_copies_kept.specs.Below.owner_box.Partition.{cell_of, stored, with_value}
use Rattle.law_copies_kept.specs.Below.thread_state.declared.value.Value.{Value}
use Rattle.law_copies_kept.specs.Below.thread_state.declared.value.Value.TheVariants as value
use Rattle.law_copies_kept.specs.Below.server_model.Work.{Hand, leads_here, look, last_of, with_slots, with_partition, working, then_some}
use Rattle.law_copies_kept.specs.Below.server_model.Places.{Spot, in_slot, on_top, in_cell, in_copy, nowhere, value_in, value_at, written, note_slot, note_write, put_at, with_word, set_pointer}
use Rattle.law_copies_kept.specs.Below.coherent_memory.Things.{Location, at_slot, at_temp, in_cell as in_object}
use Rattle.law_copies_kept.specs.Below.fr_base.Names.{same_object}
use Rattle.law_copies_kept.specs.Below.law_counts_sums.Laws.{Gives}
use Rattle.law_copies_kept.proofs.Below.law_counts_sums.Results.{test_gives, then_gives}
use Rattle.law_copies_kept.proofs.Below.law_heap_still.events.Tests.{objects}
use Rattle.law_copies_kept.proofs.Below.law_counts_sums.Cells.{indexed}
use Rattle.law_copies_kept.proofs.Below.law_words_paths.paths.Sole.{some_is}
use Rattle.law_walks_others.proofs.Below.law_results_events.writes.Memory.{Leads, looks, looked, stored_elsewhere}

-- SLOTS THAT ARE SET

pub set_at : (vs : List Value) (m : ℕ) (u v : Value) → slice_get (slice_set vs m u) m ≡ Some v → v ≡ u
set_at [] m u v e = absurd (cc e)
set_at (x ∷ vs) zero u v e = sym (some_is e)
set_at (x ∷ vs) (suc m) u v e = set_at vs m u v e

-- a slot has what it had, or it is the one that was set
pub data Set (vs : List Value) (m : ℕ) (u : Value) (j : ℕ) (v : Value) : Type 0 where
  as_was : slice_get vs j ≡ Some v → Set vs m u j v
  is_set : j ≡ m → v ≡ u → Set vs m u j v

one_on : {x : Value} {vs : List Value} {m : ℕ} {u : Value} {j : ℕ} {v : Value} → Set vs m u j v → Set (x ∷ vs) (suc m) u (suc j) v
one_on (as_was e) = as_was e
one_on (is_set e f) = is_set (ap suc e) f

pub set_or : (vs : List Value) (m : ℕ) (u : Value) (j : ℕ) (v : Value) → slice_get (slice_set vs m u) j ≡ Some v → Set vs m u j v
set_or [] m u j v e = absurd (cc e)
set_or (x ∷ vs) zero u zero v e = is_set refl (sym (some_is e))
set_or (x ∷ vs) zero u (suc j) v e = as_was e
set_or (x ∷ vs) (suc m) u zero v e = as_was e
set_or (x ∷ vs) (suc m) u (suc j) v e = one_on (set_or vs m u j v e)

-- a cell that gets a value
pub stored_here : (p : PartitionState) (w : ℕ) (c : Cell) (u : Owned) → Leads p w c → Leads (stored p w u) w (record c { value = u })
stored_here p w c u l =
    let less : address_of w < length p.cells = slice_get_within p.cells (address_of w) (Some c) (indexed p.cells (address_of w) c l.there) in record {
      server = l.server;
      there = get_or-set_same p.cells (address_of w) (with_value u (cell_of p w)) None less ∙ ap (with_value u) l.there;
      colour = l.colour;
    }

module _ (Good : ℕ → Type 0) where
  -- a box there has a good word
  abbrev pub GoodValue : Value → Type 0
  GoodValue v = (p : BoxPtr) → v ≡ value.Own (owned.Box p) → Good p.word

  abbrev pub GoodSlot : List Value → ℕ → Type 0
  GoodSlot vs m = (v : Value) → slice_get vs m ≡ Some v → GoodValue v

  pub record GoodCell (p : PartitionState) (o : ObjNo) : Type 0 where
    pub word : ℕ
    pub cell : Cell
    pub leads : Leads p word cell
    pub object : cell.object ≡ o
    pub good : GoodValue (value.Own cell.value)

  -- the pointer at a location of the hand
  abbrev pub GoodAt : PartitionState → List Value → Location → Type 0
  GoodAt p vs (at_slot t m) = GoodSlot vs m
  GoodAt p vs (at_temp t m) = ⊤
  GoodAt p vs (in_object o) = GoodCell p o

  pub worded_good : (w : ℕ) (v new : Value) → with_word w v ≡ Some new → Good w → GoodValue new
  worded_good w (value.Own (owned.Box b)) new e g = λ p f. subst Good (word_is (some_is e ∙ f)) g
    where
      word_is : {a c : BoxPtr} → value.Own (owned.Box a) ≡ value.Own (owned.Box c) → a.word ≡ c.word
      word_is {a} {c} h = let s : a ≡ c = cc in ap (λ (x : BoxPtr). x.word) s
  worded_good w (value.Mut r) new e g = λ p f. (let no = some_is e ∙ f in absurd (cc no))
  worded_good w (value.Own owned.Nothing) new e g = absurd (cc e)
  worded_good w (value.Own owned.Unit) new e g = absurd (cc e)
  worded_good w (value.Own (owned.Int n)) new e g = absurd (cc e)
  worded_good w (value.Own (owned.Mutex n)) new e g = absurd (cc e)
  worded_good w (value.Own (owned.Task t)) new e g = absurd (cc e)
  worded_good w value.Gone new e g = absurd (cc e)
  worded_good w (value.SharedSlot j) new e g = absurd (cc e)
  worded_good w (value.MutSlot j) new e g = absurd (cc e)
  worded_good w (value.Shared r) new e g = absurd (cc e)
  worded_good w (value.Held m) new e g = absurd (cc e)

  written_good : (v : Value) → GoodValue v → GoodValue (written v)
  written_good (value.Mut r) g = λ p f. absurd (cc f)
  written_good (value.Own u) g = g
  written_good value.Gone g = g
  written_good (value.SharedSlot j) g = g
  written_good (value.MutSlot j) g = g
  written_good (value.Shared r) g = g
  written_good (value.Held m) g = g

  -- a mark is no box
  noted_good : (vs : List Value) (i : ℕ) (o : Option Value) → slice_get vs i ≡ o → (j : ℕ) → GoodSlot vs j → GoodSlot (note_slot vs i o) j
  noted_good vs i None e j g = g
  noted_good vs i (Some u) e j g = λ v f. by v (set_or vs i (written u) j v f)
    where
      by : (v : Value) → Set vs i (written u) j v → GoodValue v
      by v (as_was h) = g v h
      by v (is_set h is) = subst GoodValue (sym is) (written_good u (g u (ap (slice_get vs) h ∙ e)))

  pub write_noted : (q : Option ℕ) (h : Hand) (j : ℕ) → GoodSlot h.thread.slots j → GoodSlot (note_write q h).thread.slots j
  write_noted None h j g = g
  write_noted (Some i) h j g = noted_good h.thread.slots i (slice_get h.thread.slots i) refl j g

  -- A POINTER GETS A GOOD WORD

  -- in a slot
  pub record SetsSlot (h h2 : Hand) (m : ℕ) : Type 0 where
    pub partition : h2.work.rest.partition ≡ h.work.rest.partition
    pub slots : (j : ℕ) → GoodSlot h.thread.slots j → GoodSlot h2.thread.slots j
    pub here : GoodSlot h2.thread.slots m

  pub sets_slot : (m w : ℕ) (h h2 : Hand) → Good w → set_pointer (in_slot m) w h ≡ Some h2 → SetsSlot h h2 m
  sets_slot m w h h2 g e = by (slice_get h.thread.slots m) refl e
    where
      vs : List Value
      vs = h.thread.slots

      set : (new : Value) → GoodValue new → h2 ≡ with_slots (slice_set vs m new) h → SetsSlot h h2 m
      set new good is = record {
        partition = ap (λ (x : Hand). x.work.rest.partition) is;
        slots = λ j old v f. each j old v (set_or vs m new j v (sym (ap (λ (x : Hand). slice_get x.thread.slots j) is) ∙ f));
        here = λ v f. subst GoodValue (sym (set_at vs m new v (sym (ap (λ (x : Hand). slice_get x.thread.slots m) is) ∙ f))) good;
      }
        where
          each : (j : ℕ) → GoodSlot vs j → (v : Value) → Set vs m new j v → GoodValue v
          each j old v (as_was f) = old v f
          each j old v (is_set f same) = subst GoodValue (sym same) good

      tested : (new : Value) → GoodValue new → (b : Bool) → (if b then Some (with_slots (slice_set vs m new) h) else None) ≡ Some h2 → SetsSlot h h2 m
      tested new good true f = set new good (sym (some_is f))
      tested new good false f = absurd (cc f)

      worded : (v : Value) (o : Option Value) → with_word w v ≡ o → then_some o (λ new. put_at (in_slot m) new h) ≡ Some h2 → SetsSlot h h2 m
      worded v None f q = absurd (cc q)
      worded v (Some new) f q = tested new (worded_good w v new f g) (nat_lt m (length vs)) q

      by : (o : Option Value) → slice_get vs m ≡ o → then_some o (λ v. then_some (with_word w v) (λ new. put_at (in_slot m) new h)) ≡ Some h2 → SetsSlot h h2 m
      by None f q = absurd (cc q)
      by (Some v) f q = worded v (with_word w v) refl q

  -- or in a cell
  pub record SetsCell (h h2 : Hand) (w : ℕ) (c : Cell) : Type 0 where
    pub value : Owned
    pub partition : h2.work.rest.partition ≡ stored h.work.rest.partition w value
    pub slots : (j : ℕ) → GoodSlot h.thread.slots j → GoodSlot h2.thread.slots j
    pub others : (o : ObjNo) → (o ≡ c.object → ⊥) → GoodCell h.work.rest.partition o → GoodCell h2.work.rest.partition o
    pub here : GoodCell h2.work.rest.partition c.object

  pub sets_cell : (u : ℕ) (q : Option ℕ) (w : ℕ) (c : Cell) (h h2 : Hand) → Leads h.work.rest.partition u c → Good w → set_pointer (in_cell u q) w h ≡ Some h2 → SetsCell h h2 u c
  sets_cell u q w c h h2 l g e =
      by (value.Own c.value) (with_word w (value.Own c.value)) refl
      (sym (ap (λ o. then_some (value_in o) (λ v. then_some (with_word w v) (λ new. put_at (in_cell u q) new h))) (looks h.work.rest.partition u c l)) ∙ e)
    where
      p : PartitionState
      p = h.work.rest.partition

      partition_noted : (q : Option ℕ) (h : Hand) → (note_write q h).work.rest.partition ≡ h.work.rest.partition
      partition_noted None h = refl
      partition_noted (Some i) h = refl

      put : (new : Owned) → GoodValue (value.Own new) → h2 ≡ note_write q (working (with_partition (stored p u new)) h) → SetsCell h h2 u c
      put new good is =
          let same : h2.work.rest.partition ≡ stored p u new = ap (λ (x : Hand). x.work.rest.partition) is ∙ partition_noted q (working (with_partition (stored p u new)) h) in record {
            value = new;
            partition = same;
            slots = λ j old. subst (λ (x : Hand). GoodSlot x.thread.slots j) (sym is) (write_noted q (working (with_partition (stored p u new)) h) j old);
            others = λ o ne a. subst (λ x. GoodCell x o) (sym same) (record { word = a.word; cell = a.cell; leads = stored_elsewhere p u a.word c a.cell new l a.leads (λ f. ne (sym a.object ∙ f)); object = a.object; good = a.good });
            here = subst (λ x. GoodCell x c.object) (sym same) (record { word = u; cell = record c { value = new }; leads = stored_here p u c new l; object = refl; good = good });
          }

      tested : (new : Owned) → GoodValue (value.Own new) → (b : Bool) → (if b then Some (note_write q (working (with_partition (stored p u new)) h)) else None) ≡ Some h2 → SetsCell h h2 u c
      tested new good true f = put new good (sym (some_is f))
      tested new good false f = absurd (cc f)

      placed : (new : Value) → GoodValue new → put_at (in_cell u q) new h ≡ Some h2 → SetsCell h h2 u c
      placed (value.Own new) good f = tested new good (leads_here p u) f
      placed value.Gone good f = absurd (cc f)
      placed (value.SharedSlot j) good f = absurd (cc f)
      placed (value.MutSlot j) good f = absurd (cc f)
      placed (value.Shared r) good f = absurd (cc f)
      placed (value.Mut r) good f = absurd (cc f)
      placed (value.Held m) good f = absurd (cc f)

      by : (v : Value) (o : Option Value) → with_word w v ≡ o → then_some o (λ new. put_at (in_cell u q) new h) ≡ Some h2 → SetsCell h h2 u c
      by v None f r = absurd (cc r)
      by v (Some new) f r = placed new (worded_good w v new f g) r

-- WHATEVER POINTER GETS IT

-- of the thread and the server what a pointer that gets a word leaves
pub record Keeps (h h2 : Hand) : Type 0 where
  pub named : h2.thread.number ≡ h.thread.number
  pub passed : h2.thread.passed ≡ h.thread.passed
  pub server : h2.work.rest.number ≡ h.work.rest.number

noted_keeps : (q : Option ℕ) (h h2 : Hand) → Keeps h h2 → Keeps h (note_write q h2)
noted_keeps None h h2 a = a
noted_keeps (Some i) h h2 a = record { named = a.named; passed = a.passed; server = a.server }

puts_keep : (s : Spot) (v : Value) (h : Hand) → Gives (Keeps h) (put_at s v h)
puts_keep (in_slot i) v h = test_gives (Keeps h) (nat_lt i (length h.thread.slots)) _ (λ on. record { named = refl; passed = refl; server = refl })
puts_keep on_top v h = record { named = refl; passed = refl; server = refl }
puts_keep (in_cell w q) (value.Own v) h =
    test_gives (Keeps h) (leads_here h.work.rest.partition w) _ (λ on. noted_keeps q h (working (with_partition (stored h.work.rest.partition w v)) h) (record { named = refl; passed = refl; server = refl }))
puts_keep (in_cell w q) value.Gone h = tt
puts_keep (in_cell w q) (value.SharedSlot i) h = tt
puts_keep (in_cell w q) (value.MutSlot i) h = tt
puts_keep (in_cell w q) (value.Shared r) h = tt
puts_keep (in_cell w q) (value.Mut r) h = tt
puts_keep (in_cell w q) (value.Held m) h = tt
puts_keep (in_copy w) v h = tt
puts_keep nowhere v h = tt

pub sets_keep : (s : Spot) (w : ℕ) (h : Hand) → Gives (Keeps h) (set_pointer s w h)
sets_keep s w h = then_gives (Keeps h) (value_at h s) _ (λ v e. then_gives (Keeps h) (with_word w v) _ (λ new f. puts_keep s new h))

module _ (Good : ℕ → Type 0) where
  -- every box that had a good word has one
  pub sets_any : (s : Spot) (w : ℕ) (h h2 : Hand) → Good w → set_pointer s w h ≡ Some h2 → (l : Location) → GoodAt Good h.work.rest.partition h.thread.slots l → GoodAt Good h2.work.rest.partition h2.thread.slots l
  sets_any (in_slot m) w h h2 g e l a = by l a
    where
      s : SetsSlot Good h h2 m
      s = sets_slot Good m w h h2 g e

      by : (l : Location) → GoodAt Good h.work.rest.partition h.thread.slots l → GoodAt Good h2.work.rest.partition h2.thread.slots l
      by (at_slot t j) b = s.slots j b
      by (at_temp t j) b = tt
      by (in_object o) b = subst (λ p. GoodCell Good p o) (sym s.partition) b
  sets_any on_top w h h2 g e l a = by (last_of h.thread.temps) e
    where
      worded : (o : Option Value) → then_some o (λ new. put_at on_top new h) ≡ Some h2 → GoodAt Good h2.work.rest.partition h2.thread.slots l
      worded None f = absurd (cc f)
      worded (Some new) f = subst (λ (x : Hand). GoodAt Good x.work.rest.partition x.thread.slots l) (some_is f) a

      by : (o : Option Value) → then_some o (λ v. then_some (with_word w v) (λ new. put_at on_top new h)) ≡ Some h2 → GoodAt Good h2.work.rest.partition h2.thread.slots l
      by None f = absurd (cc f)
      by (Some v) f = worded (with_word w v) f
  sets_any (in_cell u q) w h h2 g e l a = by (look h.work.rest.partition u) refl
    where
      of_cell : (c : Cell) → SetsCell Good h h2 u c → (l : Location) → GoodAt Good h.work.rest.partition h.thread.slots l → GoodAt Good h2.work.rest.partition h2.thread.slots l
      of_cell c s (at_slot t j) b = s.slots j b
      of_cell c s (at_temp t j) b = tt
      of_cell c s (in_object o) b = tested (same_object o c.object) refl
        where
          tested : (t : Bool) → same_object o c.object ≡ t → GoodCell Good h2.work.rest.partition o
          tested true f = subst (GoodCell Good h2.work.rest.partition) (sym (objects.tells o c.object f)) s.here
          tested false f = s.others o (λ is. (let no : true ≡ false = sym (objects.itself o) ∙ ap (same_object o) is ∙ f in absurd (cc no))) b

      by : (o : Option Cell) → look h.work.rest.partition u ≡ o → GoodAt Good h2.work.rest.partition h2.thread.slots l
      by None f = (let no = sym (ap (λ o. then_some (value_in o) (λ v. then_some (with_word w v) (λ new. put_at (in_cell u q) new h))) f) ∙ e in absurd (cc no))
      by (Some c) f = of_cell c (sets_cell Good u q w c h h2 (looked h.work.rest.partition u c f) g e) l a
  sets_any (in_copy u) w h h2 g e l a = by (value_at h (in_copy u)) e
    where
      worded : (o : Option Value) → then_some o (λ new. put_at (in_copy u) new h) ≡ Some h2 → GoodAt Good h2.work.rest.partition h2.thread.slots l
      worded None f = absurd (cc f)
      worded (Some new) f = absurd (cc f)

      by : (o : Option Value) → then_some o (λ v. then_some (with_word w v) (λ new. put_at (in_copy u) new h)) ≡ Some h2 → GoodAt Good h2.work.rest.partition h2.thread.slots l
      by None f = absurd (cc f)
      by (Some v) f = worded (with_word w v) f
  sets_any nowhere w h h2 g e l a = absurd (cc e)
