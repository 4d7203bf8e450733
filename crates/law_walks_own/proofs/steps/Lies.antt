-- Making a place ready takes no object away from its server: what lies there lies there still, if at another address.
use Rattle.std.proofs.Common.{◌≡◌, ℕ, ◌≤◌, ◌==◌, ◌&&◌, is_some, Bool, true, false, nat_lt, if◌then◌else◌, List, [], ◌∷◌, ◌++◌, ◌+◌, length, Option, Some, None, refl, sym, ap, subst, ◌∙◌, arith}
use Rattle.std.specs.Prelude.{slice_get}
use Rattle.std.specs.Bool.{⊤}
use Rattle.law_walks_others.specs.Below.fr_base.declared.name.ObjNo.{ObjNo}
use Rattle.law_walks_others.specs.Below.global_addr.Words.{colour_of, server_of, address_of}
use Rattle.law_walks_others.specs.Below.heap_partition.declared.value.BoxPtr.{BoxPtr}
use Rattle.law_walks_others.specs.Below.heap_partition.declared.value.Cell.{Cell}
use Rattle.law_walks_others.specs.Below.heap_partition.declared.value.Owned.{Owned}
use Rattle.law_walks_others.specs.Below.owner_box.View.{PartitionState}
use Rattle.law_walks_others.specs.Below.owner_box.Partition.{cell_of, stored, freed, made_again, renewed}
use Rattle.law_walks_others.specs.Below.thread_state.View.{ThreadState}
use Rattle.law_walks_others.specs.Below.thread_state.declared.value.Value.{Value}
use Rattle.law_walks_others.specs.Below.thread_state.declared.value.Value.TheVariants as value
use Rattle.law_walks_others.specs.Below.server_msgs.declared.message.Message.{Message}
use Rattle.law_walks_others.specs.Below.server_msgs.declared.message.Message.TheVariants as message
use Rattle.law_walks_others.specs.Below.server_model.Servers.{Rest}
use Rattle.law_walks_others.specs.Below.server_model.Work.{Hand, sent_from, leads_here, look, with_partition, working}
use Rattle.law_walks_others.specs.Below.server_model.NewWords.{can_grow, is_last}
use Rattle.law_walks_others.specs.Below.server_model.Places.{Spot, in_slot, on_top, in_cell, in_copy, nowhere, note_write, put_cell, put_at}
use Rattle.law_walks_others.specs.Below.server_model.Prepare.{Access, Prepared, prepare}
use Rattle.law_walks_others.specs.Below.coherent_memory.Names.{tot, one}
use Rattle.law_walks_others.specs.Below.coherent_memory.Things.{Thing, vacant, retired, partition_things}
use Rattle.law_walks_others.specs.Below.coherent_memory.Weights.{states, lies_at}
use Rattle.law_walks_others.proofs.Below.coherent_memory.Names.{and_left, and_right}
use Rattle.law_walks_others.specs.Below.law_counts_sums.Laws.{Gives}
use Rattle.law_walks_others.proofs.Below.law_counts_sums.Results.{test_gives}
use Rattle.law_walks_others.proofs.Below.law_counts_sums.Bags.{sent_number}
use Rattle.law_walks_others.proofs.Below.law_counts_sums.Cells.{left_by, looked, frees}
use Rattle.law_walks_others.proofs.Below.law_counts_sums.Objects.{length_set, taken_place, makes}
use Rattle.law_walks_others.proofs.Below.law_counts_sums.Values.{stores}
use Rattle.law_walks_others.proofs.Below.law_heap_still.events.Addresses.{InPlace, lies_alone, next_empty, stored_places, renews}
use Rattle.law_words_ends.proofs.Below.law_counts_things.things.Small.{Of, Small, Made, prepare_makes}

-- the cell that a word leads to which leads here
led_here : (p : PartitionState) (w : ℕ) → leads_here p w ≡ true → is_some (cell_of p w) ≡ true
led_here p w on = and_right (server_of w == p.server) (is_some (cell_of p w)) (and_left ((server_of w == p.server) && is_some (cell_of p w)) (nat_lt (colour_of w) p.limit) on)

pub same_partition : (r : Rest) (target : ℕ) (m : Message) → (sent_from r target m).partition ≡ r.partition
same_partition r target m = by (target == r.number)
  where
    by : (b : Bool) → (if b then Rattle.law_walks_others.specs.Below.server_model.Work.add_waiting m r else record r { outbox = r.outbox ++ record { target = target; message = m } ∷ [] }).partition ≡ r.partition
    by true = refl
    by false = refl

left_state : (n limit w a : ℕ) → states (n, a) (left_by n limit w) ≡ one (n == n && address_of w == a)
left_state n limit w a = by (nat_lt (colour_of w + 1) limit)
  where
    by : (b : Bool) → states (n, a) (if b then vacant n (address_of w) (colour_of w + 1) else retired n (address_of w)) ≡ one (n == n && address_of w == a)
    by true = refl
    by false = refl

freed_places : (n : ℕ) (p : PartitionState) (w : ℕ) (c : Cell) → slice_get p.cells (address_of w) ≡ Some (Some c) → InPlace n p → InPlace n (freed p w)
freed_places n p w c e placed a =
    let t = frees n p w c e (lies_alone n p placed (address_of w) c e) in
    let f = states (n, a) in
    let same : one (nat_lt a (length (freed p w).cells)) ≡ one (nat_lt a (length p.cells)) = ap (λ m. one (nat_lt a m)) (length_set p.cells (address_of w) None) in
    omega (arith, placed a, t.before f, t.after f, same, left_state n p.limit w a)

module _ (n : ℕ) (o : ObjNo) where
  abbrev f : Thing → ℕ
  f x = lies_at n o x

  left_unseen : (limit w : ℕ) → f (left_by n limit w) ≡ 0
  left_unseen limit w = by (nat_lt (colour_of w + 1) limit)
    where
      by : (b : Bool) → f (if b then vacant n (address_of w) (colour_of w + 1) else retired n (address_of w)) ≡ 0
      by true = refl
      by false = refl

  place_unseen : (fl : List (ℕ × ℕ)) → tot f (taken_place n fl) ≡ 0
  place_unseen [] = refl
  place_unseen (pair ∷ rest) = refl

  -- an object that gets another address lies there as before
  renewed_lies : (p : PartitionState) (w : ℕ) → leads_here p w ≡ true → InPlace n p → tot f (partition_things n (renewed p w)) ≡ tot f (partition_things n p)
  renewed_lies p w on placed = by (cell_of p w) refl
    where
      by : (q : Option Cell) → cell_of p w ≡ q → tot f (partition_things n (made_again (freed p w) q)) ≡ tot f (partition_things n p)
      by None e = absurd (cc (sym (ap is_some e) ∙ led_here p w on))
      by (Some c) e =
          let q = freed p w in
          let here : look p w ≡ Some c = subst (λ b. (if b then cell_of p w else None) ≡ Some c) (sym on) e in
          let at : slice_get p.cells (address_of w) ≡ Some (Some c) = looked p w c here in
          let t = frees n p w c at (lies_alone n p placed (address_of w) c at) in
          let u = makes n q c q.free (next_empty n q (freed_places n p w c at placed)) in
          omega (arith, t.before f, t.after f, u.before f, u.after f, left_unseen p.limit w, place_unseen q.free)

  -- the object lies at the server
  abbrev pub LiesHere : Rest → ThreadState → Type 0
  LiesHere r t = (r.number ≡ n) × (1 ≤ tot (lies_at n o) (partition_things n r.partition)) × InPlace n r.partition

  abbrev Good : Hand → Type 0
  Good h = Of LiesHere h

  sends : (r : Rest) (t u : ThreadState) (target : ℕ) (m : Message) → LiesHere r t → LiesHere (sent_from r target m) u
  sends r t u target m g = (
    sent_number r target m ∙ g.0,
    subst (λ p. 1 ≤ tot f (partition_things n p)) (sym (same_partition r target m)) g.1,
    subst (InPlace n) (sym (same_partition r target m)) g.2,
  )

  notes : (q : Option ℕ) (h : Hand) → Good h → Good (note_write q h)
  notes None h g = g
  notes (Some i) h g = g

  puts_cell : (u : ℕ) (q : Option ℕ) (v : Owned) (h : Hand) → Good h → Gives Good (put_cell u q v h)
  puts_cell u q v h g = test_gives Good (leads_here h.work.rest.partition u) _ (λ on. notes q (working (with_partition (stored h.work.rest.partition u v)) h) (by on (cell_of h.work.rest.partition u) refl))
    where
      by : leads_here h.work.rest.partition u ≡ true → (w : Option Cell) → cell_of h.work.rest.partition u ≡ w → LiesHere (record h.work.rest { partition = stored h.work.rest.partition u v }) h.thread
      by on None e = absurd (cc (sym (ap is_some e) ∙ led_here h.work.rest.partition u on))
      by on (Some c) e =
          let x = h.work.rest.partition in
          let here : look x u ≡ Some c = subst (λ b. (if b then cell_of x u else None) ≡ Some c) (sym on) e in
          let t = stores n x u c v here in
          let l = g.1 in
          (g.0, omega (arith, l, t.before f, t.after f), stored_places n x u c v here g.2)

  puts : (s : Spot) (v : Value) (h : Hand) → Good h → Gives Good (put_at s v h)
  puts (in_slot i) v h g = test_gives Good (nat_lt i (length h.thread.slots)) _ (λ on. g)
  puts on_top v h g = g
  puts (in_cell u q) (value.Own v) h g = puts_cell u q v h g
  puts (in_cell u q) value.Gone h g = tt
  puts (in_cell u q) (value.SharedSlot i) h g = tt
  puts (in_cell u q) (value.MutSlot i) h g = tt
  puts (in_cell u q) (value.Shared r) h g = tt
  puts (in_cell u q) (value.Mut r) h g = tt
  puts (in_cell u q) (value.Held m) h g = tt
  puts (in_copy u) v h g = tt
  puts nowhere v h g = tt

  renewal : (p : BoxPtr) (h : Hand) → Good h → (leads_here h.work.rest.partition p.word && (is_last h.work.rest.partition p.word && can_grow h.work.rest.partition)) ≡ true → LiesHere (record h.work.rest { partition = renewed h.work.rest.partition p.word }) h.thread
  renewal p h g on =
      let q = h.work.rest.partition in
      let there = and_left (leads_here q p.word) (is_last q p.word && can_grow q) on in
      let placed : InPlace h.work.rest.number q = subst (λ m. InPlace m q) (sym g.0) g.2 in
      let after : InPlace n (renewed q p.word) = subst (λ m. InPlace m (renewed q p.word)) g.0 (renews h.work.rest p.word there placed).1 in
      let same = renewed_lies q p.word there g.2 in
      let l = g.1 in
      (g.0, omega (arith, l, same), after)

  stays : Small LiesHere LiesHere (λ (v : Value). ⊤) (λ (w : ℕ). ⊤)
  stays = record {
    places = record { spot = λ s v h g e. tt; puts = λ s v h l a g. puts s v h g; worded = λ w v new x a e. tt; word_of = λ r a. tt; points = λ v p a e. tt };
    tints = λ p h a g e. tt;
    renews = λ p h a g on. (tt, renewal p h g on);
    pinned = λ r a. tt;
    pins = λ w h e g. g;
    uses = λ w h e g. g;
    asks_copy = λ p h a e g. sends h.work.rest h.thread (Rattle.law_walks_others.specs.Below.server_model.Prepare.ask_copy p h).thread (server_of p.word) (message.Fetch p.word p.object h.work.rest.number h.thread.number) g;
    asks_object = λ p h a e g. sends h.work.rest h.thread (Rattle.law_walks_others.specs.Below.server_model.Prepare.ask_object p h).thread (server_of p.word) (message.Move p.word p.object h.work.rest.number h.thread.number) g;
  }

  -- wherever the access leads
  pub lies_on : (a : Option Access) (h : Hand) → LiesHere h.work.rest h.thread → Made LiesHere LiesHere (prepare a h)
  lies_on a h g = prepare_makes a h (λ f. stays) (λ w m u g. g) g
