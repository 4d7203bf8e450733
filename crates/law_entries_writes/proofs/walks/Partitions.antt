-- A partition where a box in a cell gets a word, and where an object gets another address at its last colour: what is seen of it, and which words are issued then.
use Rattle.std.proofs.Common.{◌≡◌, ◌⊎◌, inl, inr, ℕ, zero, suc, ◌+◌, ◌<◌, ◌≤◌, ◌^◌, ◌==◌, ◌&&◌, nat_lt, nat_le, Bool, true, false, if◌then◌else◌, List, [], ◌∷◌, Option, Some, None, refl, sym, ap, ap₂, subst, ◌∙◌, arith}
use Rattle.std.specs.Prelude.{slice_get, slice_set}
use Rattle.std.proofs.lemmas.Bool.{eq-eqb}
use Rattle.std.proofs.lemmas.Bool.Decides.{nat_tests}
use Rattle.law_heap_writes.specs.Below.fr_base.declared.name.ObjNo.{ObjNo}
use Rattle.law_heap_writes.specs.Below.global_addr.Words.{colour_of, server_of, address_of, word_of}
use Rattle.law_heap_writes.specs.Below.heap_partition.Plain.{plain_of}
use Rattle.law_heap_writes.specs.Below.heap_partition.declared.value.Cell.{Cell}
use Rattle.law_heap_writes.specs.Below.heap_partition.declared.value.Owned.{Owned}
use Rattle.law_heap_writes.specs.Below.owner_box.View.{PartitionState}
use Rattle.law_heap_writes.specs.Below.owner_box.Partition.{cell_of, next_place, new_word, made, made_again, freed, renewed, stored}
use Rattle.law_heap_writes.specs.Below.server_model.Work.{look}
use Rattle.law_heap_writes.specs.Below.coherent_memory.Names.{Among, tot, one, same_object}
use Rattle.law_heap_writes.specs.Below.coherent_memory.Things.{Thing, lies, vacant, retired, partition_things}
use Rattle.law_heap_writes.specs.Below.coherent_memory.Sight.{is_spot}
use Rattle.law_heap_writes.specs.Below.coherent_memory.Weights.{cells}
use Rattle.law_heap_writes.proofs.Below.law_words_asked.Below.coherent_memory.Names.{and_left, and_right, same_number}
use Rattle.law_heap_writes.proofs.Below.law_words_asked.Below.coherent_memory.Words.{itself}
use Rattle.law_heap_writes.proofs.Below.law_counts_sums.Trades.{Trade}
use Rattle.law_heap_writes.proofs.Below.law_counts_sums.Cells.{left_by, indexed, frees}
use Rattle.law_heap_writes.proofs.Below.law_counts_sums.Objects.{taken_place, makes}
use Rattle.law_heap_writes.proofs.Below.law_counts_sums.Values.{stores}
use Rattle.law_heap_writes.proofs.Below.law_heap_still.events.Addresses.{InPlace, lies_alone, next_empty}
use Rattle.law_heap_writes.proofs.Below.law_results_events.writes.Memory.{Sane}
use Rattle.law_entries_reads.proofs.Below.law_entries_variables.deliveries.Live.{issued_by}
use Rattle.law_entries_reads.proofs.served.Gives.{up_to}
use Rattle.law_entries_reads.proofs.asks.NextColour.{same_word}
use Rattle.law_entries_writes.proofs.walks.Weights.{Blind, taken_out}

-- WORDS IN CELLS

-- a value that is the same without words is put in a cell
pub stored_blind : (f : Thing → ℕ) → Blind f → (n : ℕ) (q : PartitionState) (w : ℕ) (c : Cell) (v : Owned) → look q w ≡ Some c → plain_of v ≡ plain_of c.value → tot f (partition_things n (stored q w v)) ≡ tot f (partition_things n q)
stored_blind f h n q w c v e same = let t = stores n q w c v e in omega (arith, t.before f, t.after f, h.lying n (address_of w) (address_of w) (record c { value = v }) c refl same)

-- no word is issued with it
pub stored_issues : (u : ObjNo → ℕ) (colours x n : ℕ) (q : PartitionState) (w : ℕ) (c : Cell) (v : Owned) → look q w ≡ Some c → tot (issued_by u colours x) (partition_things n (stored q w v)) ≡ tot (issued_by u colours x) (partition_things n q)
stored_issues u colours x n q w c v e = let t = stores n q w c v e in omega (arith, t.before (issued_by u colours x), t.after (issued_by u colours x))

-- WORDS OF ONE OBJECT

-- words that are the same but for that object's are issued alike beside its cell
module _ (b : List Thing) (u w : ObjNo → ℕ) (o : ObjNo) (n a : ℕ) (c : Cell) (there : Among (lies n a c) b) (object : c.object ≡ o) (once : tot (cells o) b ≤ 1) (others : (p : ObjNo) → (p ≡ o) ⊎ (w p ≡ u p)) (colours v : ℕ) where
  abbrev was : Thing → ℕ
  was = issued_by u colours v

  abbrev is : Thing → ℕ
  is = issued_by w colours v

  each : (x : Thing) → cells o x ≡ 0 → is x ≡ was x
  each (lies s d e) z = by (others e.object)
    where
      by : (e.object ≡ o) ⊎ (w e.object ≡ u e.object) → is (lies s d e) ≡ was (lies s d e)
      by (inl f) = let one_cell : one (same_object e.object o) ≡ 1 = ap one (itself e.object o f) in absurd (omega (arith, z, one_cell))
      by (inr f) = ap (λ i. one (is_spot s d v && nat_le (colour_of v) (colour_of i))) f
  each _ z = refl

  all_same : (l : List Thing) → tot (cells o) l ≡ 0 → tot is l ≡ tot was l
  all_same [] z = refl
  all_same (x ∷ l) z = omega (arith, each x (omega (arith, z)), all_same l (omega (arith, z)))

  pub but_one : tot is b + was (lies n a c) ≡ tot was b + is (lies n a c)
  but_one =
      let r = taken_out (lies n a c) b there in
      let mine : one (same_object c.object o) ≡ 1 = ap one (itself c.object o object) in
      omega (arith, r.1 is, r.1 was, all_same r.0 (omega (arith, r.1 (cells o), once, mine)))

-- a word has its server, its colour and its address
packed : (c s a : ℕ) → s < 2 ^ 8 → a < 2 ^ 40 → (colour_of (word_of c s a) ≡ c) × (server_of (word_of c s a) ≡ s) × (address_of (word_of c s a) ≡ a)
packed c s a l m = (omega (arith, l, m), omega (arith, l, m), omega (arith, l, m))

none_below : (i : ℕ) (b : Bool) → one (b && nat_lt i 0) ≡ 0
none_below i false = refl
none_below i true = by (nat_lt i 0) refl
  where
    by : (b : Bool) → nat_lt i 0 ≡ b → one b ≡ 0
    by true e = absurd (grind (arith, nat_tests, e))
    by false e = refl

-- the words up to one at an address are those below it, and it
spot_count : (s a m w v : ℕ) → server_of w ≡ s → address_of w ≡ a → colour_of w ≡ m → one (is_spot s a v && nat_le (colour_of v) (colour_of w)) ≡ one (is_spot s a v && nat_lt (colour_of v) m) + one (w == v)
spot_count s a m w v server address colour = by (is_spot s a v) (nat_le (colour_of v) (colour_of w)) (nat_lt (colour_of v) m) (w == v) refl refl refl refl
  where
    same : is_spot s a v ≡ true → colour_of v ≡ colour_of w → (w == v) ≡ true
    same x h =
        eq-eqb w v
        (same_word w v (server ∙ sym (same_number (server_of v) s (and_left (server_of v == s) (address_of v == a) x))) (address ∙ sym (same_number (address_of v) a (and_right (server_of v == s) (address_of v == a) x))) (sym h))

    spot : (w == v) ≡ true → is_spot s a v ≡ true
    spot x = let y : w ≡ v = same_number w v x in ap₂ (λ i j. i && j) (eq-eqb (server_of v) s (ap server_of (sym y) ∙ server)) (eq-eqb (address_of v) a (ap address_of (sym y) ∙ address))

    colours : (w == v) ≡ true → colour_of v ≡ colour_of w
    colours x = ap colour_of (sym (same_number w v x))

    no : {b : Bool} → b ≡ true → b ≡ false → ⊥
    no {b} e f = let x : true ≡ false = sym e ∙ f in cc

    by : (b c d i : Bool) → is_spot s a v ≡ b → nat_le (colour_of v) (colour_of w) ≡ c → nat_lt (colour_of v) m ≡ d → (w == v) ≡ i → one (b && c) ≡ one (b && d) + one i
    by true true true false x y z u = refl
    by true true true true x y z u = absurd (grind (arith, nat_tests, colours u, colour, z))
    by true true false true x y z u = refl
    by true true false false x y z u = absurd (no (same x (grind (arith, nat_tests, y, z, colour))) u)
    by true false true i x y z u = absurd (grind (arith, nat_tests, y, z, colour))
    by true false false true x y z u = absurd (grind (arith, nat_tests, colours u, y))
    by true false false false x y z u = refl
    by false c d true x y z u = absurd (no (spot u) x)
    by false c d false x y z u = refl

-- ANOTHER ADDRESS

-- a vacant place stays vacant where another one is vacated
set_vacant : (xs : List (Option Cell)) (i a : ℕ) → slice_get xs a ≡ Some None → slice_get (slice_set xs i None) a ≡ Some None
set_vacant [] i a e = e
set_vacant (x ∷ xs) zero zero e = refl
set_vacant (x ∷ xs) zero (suc a) e = e
set_vacant (x ∷ xs) (suc i) zero e = e
set_vacant (x ∷ xs) (suc i) (suc a) e = set_vacant xs i a e

module _ (n : ℕ) (q : PartitionState) (w : ℕ) (c : Cell) (there : cell_of q w ≡ Some c) (sane : Sane q) (number : q.server ≡ n) (last : colour_of w + 1 ≡ q.limit) where
  abbrev a : ℕ
  a = address_of w

  -- where it lies then
  abbrev pub next : ℕ
  next = (next_place (freed q w)).0

  placed : InPlace n q
  placed = subst (λ m. InPlace m q) number sane.placed

  at : slice_get q.cells a ≡ Some (Some c)
  at = indexed q.cells a c there

  not_below : nat_lt (colour_of w + 1) q.limit ≡ false
  not_below = grind (arith, nat_tests, last)

  -- the address that is left isn't free again
  free_stays : (freed q w).free ≡ q.free
  free_stays = ap (λ b. if b then (a, colour_of w + 1) ∷ q.free else q.free) not_below

  next_free : (pair : ℕ × ℕ) (rest : List (ℕ × ℕ)) → (freed q w).free ≡ pair ∷ rest → slice_get (freed q w).cells pair.0 ≡ Some None
  next_free pair rest e = set_vacant q.cells a pair.0 (next_empty n q placed pair rest (sym free_stays ∙ e))

  leaves : Trade (partition_things n q) (lies n a c ∷ []) (left_by n q.limit w ∷ []) (partition_things n (freed q w))
  leaves = frees n q w c at (lies_alone n q placed a c at)

  comes : Trade (partition_things n (freed q w)) (taken_place n (freed q w).free) (lies n next c ∷ []) (partition_things n (made (freed q w) c))
  comes = makes n (freed q w) c (freed q w).free next_free

  renewed_is : renewed q w ≡ made (freed q w) c
  renewed_is = ap (made_again (freed q w)) there

  -- what went and what came
  both : (f : Thing → ℕ) → tot f (partition_things n (renewed q w)) + tot f (taken_place n (freed q w).free) + f (lies n a c) ≡ tot f (partition_things n q) + f (retired n a) + f (lies n next c)
  both f =
      let is : tot f (partition_things n (renewed q w)) ≡ tot f (partition_things n (made (freed q w) c)) = ap (λ p. tot f (partition_things n p)) renewed_is in
      let left : f (left_by n q.limit w) ≡ f (retired n a) = ap (λ b. f (if b then vacant n a (colour_of w + 1) else retired n a)) not_below in
      let t = leaves in
      let u = comes in
      omega (arith, is, left, t.before f, t.after f, u.before f, u.after f)

  -- it is seen as it was
  pub renewed_blind : (f : Thing → ℕ) → Blind f → tot f (partition_things n (renewed q w)) ≡ tot f (partition_things n q)
  renewed_blind f h = omega (arith, both f, none (freed q w).free, h.left n a, h.lying n a next c c refl refl)
    where
      none : (fl : List (ℕ × ℕ)) → tot f (taken_place n fl) ≡ 0
      none [] = refl
      none (pair ∷ rest) = omega (arith, h.free n pair.0 pair.1)

  -- THE WORDS THAT ARE ISSUED

  module _ (small : next < 2 ^ 40) where
    -- the word that it gets
    abbrev pub new : ℕ
    new = new_word (freed q w)

    parts : (colour_of new ≡ (next_place (freed q w)).1) × (server_of new ≡ q.server) × (address_of new ≡ next)
    parts = packed (next_place (freed q w)).1 q.server next sane.small small

    module _ (o : ObjNo) (object : c.object ≡ o) (u w2 : ObjNo → ℕ) (colours v : ℕ) (limit : q.limit ≡ colours) (old : u o ≡ w) (newest : w2 o ≡ new) where
      abbrev before : Thing → ℕ
      before = issued_by u colours v

      abbrev after : Thing → ℕ
      after = issued_by w2 colours v

      -- at the address that it leaves all words were issued
      old_spot : before (lies n a c) ≡ after (retired n a)
      old_spot =
          ap (λ i. one (is_spot n a v && nat_le (colour_of v) (colour_of i))) (ap u object ∙ old)
          ∙ ap (λ b. one (is_spot n a v && b)) (up_to (colour_of v) (colour_of w) ∙ ap (nat_lt (colour_of v)) (last ∙ limit))

      -- at the address that it gets those up to the new one
      new_spot : after (lies n next c) ≡ tot after (taken_place n (freed q w).free) + one (new == v)
      new_spot = ap (λ i. one (is_spot n next v && nat_le (colour_of v) (colour_of i))) (ap w2 object ∙ newest) ∙ by (freed q w).free refl
        where
          by : (fl : List (ℕ × ℕ)) → (freed q w).free ≡ fl → one (is_spot n next v && nat_le (colour_of v) (colour_of new)) ≡ tot after (taken_place n fl) + one (new == v)
          by [] e =
              let colour : colour_of new ≡ 0 = parts.0 ∙ ap (λ l. (next_place (record (freed q w) { free = l })).1) e in
              omega (arith, spot_count n next 0 new v (parts.1 ∙ number) parts.2 colour, none_below (colour_of v) (is_spot n next v))
          by (pair ∷ rest) e =
              let place : next_place (freed q w) ≡ pair = ap (λ l. next_place (record (freed q w) { free = l })) e in
              let colour : colour_of new ≡ pair.1 = parts.0 ∙ ap (λ (x : ℕ × ℕ). x.1) place in
              let spot : one (is_spot n pair.0 v && nat_lt (colour_of v) pair.1) ≡ one (is_spot n next v && nat_lt (colour_of v) pair.1) = ap (λ i. one (is_spot n i v && nat_lt (colour_of v) pair.1)) (sym (ap (λ (x : ℕ × ℕ). x.0) place)) in
              omega (arith, spot_count n next pair.1 new v (parts.1 ∙ number) parts.2 colour, spot)

      -- among other things: one word more is issued
      pub renewal_issues : (b b2 : List Thing) → Among (lies n a c) b → tot (cells o) b ≤ 1 → ((p : ObjNo) → (p ≡ o) ⊎ (w2 p ≡ u p)) → tot after b2 + tot after (partition_things n q) ≡ tot after b + tot after (partition_things n (renewed q w))
          → tot after b2 ≡ tot before b + one (new == v)
      renewal_issues b b2 among once others turned = omega (arith, turned, both after, old_spot, new_spot, but_one b u w2 o n a c among object once others colours v)
