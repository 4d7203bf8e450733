-- Each address stays in exactly one state: what a made, a freed and a changed object do to the states and the room.
use Rattle.std.proofs.Common.{arith, ◌≡◌, ◌≢◌, ◌+◌, ◌-◌, ◌^◌, ◌<◌, ◌≤◌, ◌==◌, ◌∙◌, ℕ, Bool, true, false, List, [], ◌∷◌, ◌++◌, All, length, nat_lt, slice_index_or, slice_set, subst, refl}
use Rattle.std.specs.Prelude.{Option, Some, None, IsSome, if◌then◌else◌}
use Rattle.std.proofs.lemmas.Bool.Decides.{nat_tests}
use Rattle.std.proofs.lemmas.List.{length-set, length-append, get_or-set_other, get_or-set_same, get_or_append_left}
use Rattle.std.proofs.lemmas.List.Elements.{All-cons, All-head, All-tail, All-weaker}
use Rattle.heap_partition.specs.declared.value.Cell.{Cell}
use Rattle.global_addr.specs.Words.{colour_of, address_of}
use Rattle.colour_retire.specs.Colours.{picked, rest_of, free_after, retired_after, freed_room, picked_room}
use Rattle.owner_box.specs.Partition.{AreStates, HasRoom, IsFreeIn, live_count, put_cell}
use Rattle.owner_box.proofs.Counts.{live-put, live-take, live-set, live-push, live_below}

-- past the last address that was used there is no cell
pub past_last : (cells : List (Option Cell)) → slice_index_or cells (length cells) None ≡ None
past_last [] = refl
past_last (x ∷ rest) = past_last rest

-- the address that is picked is vacant or the next one
pub picked_vacant : (limit retired : ℕ) (cells : List (Option Cell)) (free : List (ℕ × ℕ)) → AreStates limit cells free retired
    → ((picked free (length cells)).0 ≤ length cells) × (slice_index_or cells (picked free (length cells)).0 None ≡ None)
picked_vacant limit retired cells [] t = (omega arith, past_last cells)
picked_vacant limit retired cells (pair ∷ rest) t =
    let first : IsFreeIn limit cells pair = All-head (IsFreeIn limit cells) pair rest t.free_in in
    (omega (arith, first.used), first.vacant)

-- a cell put at an address that was used
pub put_cell_old : (cells : List (Option Cell)) (a : ℕ) (cell : Cell) → a < length cells → put_cell cells a cell ≡ slice_set cells a (Some cell)
put_cell_old cells a cell l = by (a == length cells) refl
  where
    by : (b : Bool) → (a == length cells) ≡ b → put_cell cells a cell ≡ slice_set cells a (Some cell)
    by true is = absurd (grind (arith, nat_tests, is, l))
    by false is = rw is refl

-- a cell put at the next address
pub put_cell_next : (cells : List (Option Cell)) (cell : Cell) → put_cell cells (length cells) cell ≡ cells ++ Some cell ∷ []
put_cell_next cells cell = by (length cells == length cells) refl
  where
    by : (b : Bool) → (length cells == length cells) ≡ b → put_cell cells (length cells) cell ≡ cells ++ Some cell ∷ []
    by true is = rw is refl
    by false is = absurd (grind (arith, nat_tests, is))

-- a free pair stays one where another address changes
pub free_beside : (limit a : ℕ) (cells : List (Option Cell)) (slot : Option Cell) (pair : ℕ × ℕ) → pair.0 ≢ a → IsFreeIn limit cells pair
    → IsFreeIn limit (slice_set cells a slot) pair
free_beside limit a cells slot pair apart f = record {
  used = omega (arith, length-set cells a slot, f.used);
  vacant = get_or-set_other cells a pair.0 slot None apart ∙ f.vacant;
  colour = f.colour;
}

-- a free pair stays one where a cell comes at the end
pub free_before_push : (limit : ℕ) (cells : List (Option Cell)) (slot : Option Cell) (pair : ℕ × ℕ) → IsFreeIn limit cells pair
    → IsFreeIn limit (cells ++ slot ∷ []) pair
free_before_push limit cells slot pair f = record {
  used = omega (arith, length-append cells (slot ∷ []), f.used);
  vacant = get_or_append_left cells (slot ∷ []) None pair.0 f.used ∙ f.vacant;
  colour = f.colour;
}

-- the states after an object was made
pub states_made : (limit retired : ℕ) (cells : List (Option Cell)) (free : List (ℕ × ℕ)) (cell : Cell) → length cells < 2 ^ 40
    → AreStates limit cells free retired → AreStates limit (put_cell cells (picked free (length cells)).0 cell) (rest_of free) retired
states_made limit retired cells [] cell few t =
    rw (put_cell_next cells cell) (record {
      free_in = λ k d l. absurd (omega (arith, l));
      once = t.once;
      counted = omega (arith, live-push cells cell, length-append cells (Some cell ∷ []), t.counted);
      few = omega (arith, length-append cells (Some cell ∷ []), few);
      limits = t.limits;
    })
states_made limit retired cells (pair ∷ rest) cell few t =
    let first : IsFreeIn limit cells pair = All-head (IsFreeIn limit cells) pair rest t.free_in in
    let others : All (IsFreeIn limit cells) rest = All-tail (IsFreeIn limit cells) pair rest t.free_in in
    rw (put_cell_old cells pair.0 cell first.used) (record {
      free_in = λ k d l. free_beside limit pair.0 cells (Some cell) (slice_index_or rest k d) (t.once.1 k d l) (others k d l);
      once = t.once.2;
      counted = omega (arith, live-put cells pair.0 cell first.used first.vacant, length-set cells pair.0 (Some cell), t.counted);
      few = omega (arith, length-set cells pair.0 (Some cell), t.few);
      limits = t.limits;
    })

-- no free pair has a live address
pub live_not_free : (limit a : ℕ) (cells : List (Option Cell)) (free : List (ℕ × ℕ)) → IsSome (slice_index_or cells a None)
    → All (IsFreeIn limit cells) free → All (λ pair. pair.0 ≢ a) free
live_not_free limit a cells free live all = All-weaker (IsFreeIn limit cells) (λ pair. pair.0 ≢ a) apart free all
  where
    apart : (pair : ℕ × ℕ) → IsFreeIn limit cells pair → pair.0 ≢ a
    apart pair f is =
        let gone : slice_index_or cells a None ≡ None = subst (λ x. slice_index_or cells x None ≡ None) is f.vacant in
        let some : IsSome {T = Cell} None = subst IsSome gone live in
        cc

-- the states after an object's address was freed
pub states_freed : (limit retired word : ℕ) (cells : List (Option Cell)) (free : List (ℕ × ℕ)) → IsSome (slice_index_or cells (address_of word) None)
    → colour_of word < limit → AreStates limit cells free retired
    → AreStates limit (slice_set cells (address_of word) None) (free_after limit word free) (retired_after limit word retired)
states_freed limit retired word cells free live colour t = by (nat_lt (colour_of word + 1) limit) refl
  where
    a : ℕ
    a = address_of word

    apart : All (λ pair. pair.0 ≢ address_of word) free
    apart = live_not_free limit (address_of word) cells free live t.free_in

    beside : All (IsFreeIn limit (slice_set cells (address_of word) None)) free
    beside = λ k d l. free_beside limit (address_of word) cells None (slice_index_or free k d) (apart k d l) (t.free_in k d l)

    by : (b : Bool) → nat_lt (colour_of word + 1) limit ≡ b
        → AreStates limit (slice_set cells (address_of word) None) (if b then (address_of word, colour_of word + 1) ∷ free else free) (if b then retired else retired + 1)
    by true is =
        let below : address_of word < length cells = live_below cells (address_of word) live in
        let new : IsFreeIn limit (slice_set cells (address_of word) None) (address_of word, colour_of word + 1) = record {
          used = omega (arith, length-set cells (address_of word) None, below);
          vacant = get_or-set_same cells (address_of word) None None below;
          colour = (omega arith, grind (arith, nat_tests, is));
        } in
        record {
          free_in = All-cons (IsFreeIn limit (slice_set cells (address_of word) None)) (address_of word, colour_of word + 1) free new beside;
          once = (omega arith, apart, t.once);
          counted = omega (arith, live-take cells (address_of word) live, length-set cells (address_of word) None, t.counted);
          few = omega (arith, length-set cells (address_of word) None, t.few);
          limits = t.limits;
        }
    by false is = record {
      free_in = beside;
      once = t.once;
      counted = omega (arith, live-take cells (address_of word) live, length-set cells (address_of word) None, t.counted);
      few = omega (arith, length-set cells (address_of word) None, t.few);
      limits = t.limits;
    }

-- the states after a live address got another cell
pub states_set : (limit retired a : ℕ) (cells : List (Option Cell)) (free : List (ℕ × ℕ)) (cell : Cell) → IsSome (slice_index_or cells a None)
    → AreStates limit cells free retired → AreStates limit (slice_set cells a (Some cell)) free retired
states_set limit retired a cells free cell live t = record {
  free_in = λ k d l. free_beside limit a cells (Some cell) (slice_index_or free k d) (live_not_free limit a cells free live t.free_in k d l) (t.free_in k d l);
  once = t.once;
  counted = omega (arith, live-set cells a cell live, length-set cells a (Some cell), t.counted);
  few = omega (arith, length-set cells a (Some cell), t.few);
  limits = t.limits;
}

-- how many are live after an object was made
pub live-put_cell : (limit retired : ℕ) (cells : List (Option Cell)) (free : List (ℕ × ℕ)) (cell : Cell) → AreStates limit cells free retired
    → live_count (put_cell cells (picked free (length cells)).0 cell) ≡ live_count cells + 1
live-put_cell limit retired cells [] cell t = rw (put_cell_next cells cell) (live-push cells cell)
live-put_cell limit retired cells (pair ∷ rest) cell t =
    let first : IsFreeIn limit cells pair = All-head (IsFreeIn limit cells) pair rest t.free_in in
    rw (put_cell_old cells pair.0 cell first.used) (live-put cells pair.0 cell first.used first.vacant)

-- a pick takes no room
pub picked_room_more : (free : List (ℕ × ℕ)) (room : ℕ) → room ≤ picked_room free room
picked_room_more [] room = omega arith
picked_room_more (pair ∷ rest) room = omega arith

-- the room after an object was made
pub room_made : (limit retired live room cell_room pair_room left : ℕ) (cells : List (Option Cell)) (free : List (ℕ × ℕ)) (cell : Cell)
    → AreStates limit cells free retired → HasRoom cells live room cell_room pair_room → 0 < room → cell_room ≤ left + 1
    → HasRoom (put_cell cells (picked free (length cells)).0 cell) (live + 1) (room - 1) left (picked_room free pair_room)
room_made limit retired live room cell_room pair_room left cells free cell t r some rest = record {
  count = omega (arith, live-put_cell limit retired cells free cell t, r.count);
  for_cells = omega (arith, r.for_cells, some, rest);
  for_pairs = omega (arith, r.for_pairs, some, picked_room_more free pair_room);
}

-- freeing an address takes one room at most
pub freed_room_less : (limit word room : ℕ) → room ≤ freed_room limit word room + 1
freed_room_less limit word room = by (nat_lt (colour_of word + 1) limit)
  where
    by : (b : Bool) → room ≤ (if b then room - 1 else room) + 1
    by true = omega arith
    by false = omega arith

-- the room after an object's address was freed
pub room_freed : (limit live room cell_room pair_room word : ℕ) (cells : List (Option Cell)) → IsSome (slice_index_or cells (address_of word) None)
    → HasRoom cells live room cell_room pair_room
    → HasRoom (slice_set cells (address_of word) None) (live - 1) room cell_room (freed_room limit word pair_room)
room_freed limit live room cell_room pair_room word cells some r =
    let less = live-take cells (address_of word) some in record {
      count = omega (arith, less, r.count);
      for_cells = r.for_cells;
      for_pairs = omega (arith, less, r.count, r.for_pairs, freed_room_less limit word pair_room);
    }

-- the room after a live address got another cell
pub room_set : (live room cell_room pair_room a : ℕ) (cells : List (Option Cell)) (cell : Cell) → IsSome (slice_index_or cells a None)
    → HasRoom cells live room cell_room pair_room → HasRoom (slice_set cells a (Some cell)) live room cell_room pair_room
room_set live room cell_room pair_room a cells cell some r =
    record { count = omega (arith, live-set cells a cell some, r.count); for_cells = r.for_cells; for_pairs = r.for_pairs }
