-- A partition of one server under a limit of colours: each address has one state at most, the retired ones are counted, and no free one has the colour 0.
use Rattle.std.proofs.Common.{◌≡◌, ◌<◌, ◌≤◌, ℕ, zero, suc, ◌+◌, ◌==◌, ◌&&◌, Bool, true, false, nat_lt, if◌then◌else◌, List, [], ◌∷◌, ◌++◌, length, Option, Some, None, refl, sym, ap, subst, ◌∙◌, arith, length-append}
use Rattle.std.specs.Prelude.{slice_get, slice_set, is_some}
use Rattle.std.specs.List.{AllByRecursion}
use Rattle.std.proofs.lemmas.Bool.{eq-eqb}
use Rattle.std.proofs.lemmas.Bool.Decides.{nat_tests}
use Rattle.law_counts_limits.proofs.Below.fr_typing.PlaceLemmas.{eq_cases}
use Rattle.law_counts_limits.specs.Below.fr_base.declared.name.ObjNo.{ObjNo}
use Rattle.law_counts_limits.specs.Below.fr_base.Names.{same_object}
use Rattle.law_counts_limits.specs.Below.global_addr.Words.{colour_of, address_of, server_of}
use Rattle.law_counts_limits.specs.Below.heap_partition.declared.value.Cell.{Cell}
use Rattle.law_counts_limits.specs.Below.heap_partition.declared.value.Owned.{Owned}
use Rattle.law_counts_limits.specs.Below.colour_retire.Colours.{picked, rest_of}
use Rattle.law_counts_limits.specs.Below.owner_box.View.{PartitionState}
use Rattle.law_counts_limits.specs.Below.owner_box.Partition.{cell_of, with_value, stored, put_cell, made, freed, made_again, renewed}
use Rattle.law_counts_limits.specs.Below.server_model.Work.{leads_here, look, look_object, then_some}
use Rattle.law_counts_limits.specs.Below.server_model.NewWords.{can_grow, is_last}
use Rattle.law_counts_limits.specs.Below.coherent_memory.Names.{tot, one}
use Rattle.law_counts_limits.specs.Below.coherent_memory.Things.{lies, vacant, retired, things_at, cell_things, free_things, partition_things}
use Rattle.law_counts_limits.specs.Below.coherent_memory.Weights.{states}
use Rattle.law_counts_limits.specs.Below.coherent_memory.Naming.{is_retired}
use Rattle.law_counts_limits.proofs.Below.coherent_memory.Sums.{tot-append}
use Rattle.law_counts_limits.proofs.Below.law_counts_sums.Trades.{Trade}
use Rattle.law_counts_limits.proofs.Below.law_counts_sums.Cells.{left_by, looked, vacates, self_state, not_free, frees as cell_frees}
use Rattle.law_counts_limits.proofs.Below.law_counts_sums.Objects.{length_set, taken_place, makes as cell_makes}
use Rattle.law_counts_limits.proofs.Below.law_counts_sums.Values.{stores as cell_stores}

abbrev pub Coloured : ℕ × ℕ → Type 0
Coloured x = (x.1 == 0) ≡ false

pub record Exact (n : ℕ) (p : PartitionState) : Type 0 where
  pub placed : (a : ℕ) → tot (states (n, a)) (partition_things n p) ≤ one (nat_lt a (length p.cells))
  pub counted : tot (is_retired n) (partition_things n p) ≡ p.retired
  pub coloured : AllByRecursion Coloured p.free

-- its server, its limit, and its states
pub record IsPart (n limit : ℕ) (p : PartitionState) : Type 0 where
  pub own : p.server ≡ n
  pub limited : p.limit ≡ limit
  pub exact : Exact n p

one_most : (b : Bool) → one b ≤ 1
one_most true = omega arith
one_most false = omega arith

-- WHAT LEAVES

-- what is left of an address weighs as a state as what lay there
left_state : (n limit w a : ℕ) (c : Cell) → states (n, a) (left_by n limit w) ≡ states (n, a) (lies n (address_of w) c)
left_state n limit w a c = by (nat_lt (colour_of w + 1) limit)
  where
    by : (b : Bool) → states (n, a) (if b then vacant n (address_of w) (colour_of w + 1) else retired n (address_of w)) ≡ states (n, a) (lies n (address_of w) c)
    by true = refl
    by false = refl

self_one : (n : ℕ) → one (n == n) ≡ 1
self_one n = ap one (eq-eqb n n refl)

-- and is retired where the partition counts one more
left_retired : (n limit w r : ℕ) → is_retired n (left_by n limit w) + r ≡ (if nat_lt (colour_of w + 1) limit then r else r + 1)
left_retired n limit w r = by (nat_lt (colour_of w + 1) limit)
  where
    by : (b : Bool) → is_retired n (if b then vacant n (address_of w) (colour_of w + 1) else retired n (address_of w)) + r ≡ (if b then r else r + 1)
    by true = omega arith
    by false = omega (arith, self_one n)

module _ (n : ℕ) (p : PartitionState) (g : Exact n p) where
  -- each address has at most one state
  few : (a : ℕ) → tot (states (n, a)) (partition_things n p) ≤ 1
  few a = omega (arith, g.placed a, one_most (nat_lt a (length p.cells)))

  -- an object leaves
  pub exact_freed : (w : ℕ) (c : Cell) → look p w ≡ Some c → Exact n (freed p w)
  exact_freed w c e =
      let here = looked p w c e in
      let t = cell_frees n p w c here (not_free n p (address_of w) c here (few (address_of w))) in record {
        placed = λ a.
            let f = states (n, a) in
            let longer : one (nat_lt a (length (freed p w).cells)) ≡ one (nat_lt a (length p.cells)) = ap (λ m. one (nat_lt a m)) (length_set p.cells (address_of w) None) in
            omega (arith, t.before f, t.after f, left_state n p.limit w a c, g.placed a, longer);
        counted = let f = is_retired n in omega (arith, t.before f, t.after f, left_retired n p.limit w p.retired, g.counted);
        coloured = by (nat_lt (colour_of w + 1) p.limit);
      }
    where
      by : (b : Bool) → AllByRecursion Coloured (if b then (address_of w, colour_of w + 1) ∷ p.free else p.free)
      by true = (grind (arith, nat_tests), g.coloured)
      by false = g.coloured

  -- WHAT COMES

  -- a free address is below the next one, and nothing lies there
  empty_at : (a : ℕ) → a < length p.cells → ((c : Cell) → slice_get p.cells a ≡ Some (Some c) → ⊥) → slice_get p.cells a ≡ Some None
  empty_at a l none = got p.cells a l none
    where
      got : (cs : List (Option Cell)) (a : ℕ) → a < length cs → ((c : Cell) → slice_get cs a ≡ Some (Some c) → ⊥) → slice_get cs a ≡ Some None
      got [] a l none = absurd (omega (arith, l))
      got (None ∷ cs) zero l none = refl
      got (Some c ∷ cs) zero l none = absurd (none c refl)
      got (x ∷ cs) (suc a) l none = got cs a (omega (arith, l)) none

  -- so the free address that is next is empty
  next_empty : (pair : ℕ × ℕ) (rest : List (ℕ × ℕ)) → p.free ≡ pair ∷ rest → slice_get p.cells pair.0 ≡ Some None
  next_empty pair rest q =
      let a = pair.0 in
      let f = states (n, a) in
      let cs = things_at (cell_things n p.free) 0 p.cells in
      let fs = things_at (free_things n) 0 p.free in
      let front : tot f (things_at (free_things n) 0 (pair ∷ rest)) ≡ f (vacant n a pair.1) + tot f (things_at (free_things n) (0 + 1) rest) = refl in
      let freed : 1 ≤ tot f fs = subst (λ l. 1 ≤ tot f (things_at (free_things n) 0 l)) (sym q) (omega (arith, front, self_state n a)) in
      let both = tot-append f cs fs in
      let low : a < length p.cells = below (nat_lt a (length p.cells)) refl (omega (arith, g.placed a, both, freed)) in
      empty_at a low (λ c e. absurd (omega (arith, few a, both, freed, self_state n a, vacates n 0 a p.free c 0 p.cells a (omega arith) e f)))
    where
      below : (b : Bool) → nat_lt pair.0 (length p.cells) ≡ b → 1 ≤ one b → pair.0 < length p.cells
      below true e l = grind (arith, nat_tests, e)
      below false e l = absurd (omega (arith, l))

  -- a cell that is put leaves no address out
  put_long : (cells : List (Option Cell)) (a : ℕ) (c : Cell) → length cells ≤ length (put_cell cells a c)
  put_long cells a c = by (a == length cells)
    where
      by : (b : Bool) → length cells ≤ length (if b then cells ++ Some c ∷ [] else slice_set cells a (Some c))
      by true = omega (arith, length-append cells (Some c ∷ []))
      by false = omega (arith, length_set cells a (Some c))

  -- at the end there is one more
  put_next : (cells : List (Option Cell)) (c : Cell) → length (put_cell cells (length cells) c) ≡ length cells + 1
  put_next cells c =
      eq_cases (λ b. length (if b then cells ++ Some c ∷ [] else slice_set cells (length cells) (Some c)) ≡ length cells + 1) (length cells) (length cells)
      (λ e. omega (arith, length-append cells (Some c ∷ []))) (λ ne. absurd (ne refl))

  -- what is below stays below more
  less_one : (a m k : ℕ) → m ≤ k → one (nat_lt a m) ≤ one (nat_lt a k)
  less_one a m k l = by (nat_lt a m) refl
    where
      by : (b : Bool) → nat_lt a m ≡ b → one b ≤ one (nat_lt a k)
      by true e = let more : nat_lt a k ≡ true = grind (arith, nat_tests, e, l) in omega (arith, ap one more)
      by false e = omega arith

  -- the new address at the end
  one_next : (a m : ℕ) → one (nat_lt a m) + one (n == n && m == a) ≤ one (nat_lt a (m + 1))
  one_next a m =
      eq_cases (λ b. one (nat_lt a m) + one (n == n && b) ≤ one (nat_lt a (m + 1))) m a
      (λ e.
      let low : nat_lt a m ≡ false = grind (arith, nat_tests, e) in
      let high : nat_lt a (m + 1) ≡ true = grind (arith, nat_tests, e) in
      omega (arith, ap one low, ap one high, second (n == n)))
      (λ ne. let none : one (n == n && false) ≡ 0 = nothing (n == n) in omega (arith, none, less_one a m (m + 1) (omega arith)))
    where
      second : (b : Bool) → one (b && true) ≤ 1
      second true = omega arith
      second false = omega arith

      nothing : (b : Bool) → one (b && false) ≡ 0
      nothing true = refl
      nothing false = refl

  -- an object comes
  pub exact_made : (c : Cell) → Exact n (made p c)
  exact_made c = by p.free refl (cell_makes n p c p.free next_empty) g.coloured
    where
      by : (fl : List (ℕ × ℕ)) → p.free ≡ fl
          → Trade (things_at (cell_things n fl) 0 p.cells ++ things_at (free_things n) 0 fl) (taken_place n fl) (lies n (picked fl (length p.cells)).0 c ∷ [])
          (things_at (cell_things n (rest_of fl)) 0 (put_cell p.cells (picked fl (length p.cells)).0 c) ++ things_at (free_things n) 0 (rest_of fl)) → AllByRecursion Coloured fl
          → Exact n (record p { cells = put_cell p.cells (picked fl (length p.cells)).0 c; free = rest_of fl })
      by [] q t d = record {
        placed = λ a.
            let f = states (n, a) in
            let more : one (nat_lt a (length (put_cell p.cells (length p.cells) c))) ≡ one (nat_lt a (length p.cells + 1)) = ap (λ m. one (nat_lt a m)) (put_next p.cells c) in
            let same : tot f (partition_things n p) ≡ tot f (things_at (cell_things n []) 0 p.cells ++ things_at (free_things n) 0 []) = ap (λ l. tot f (things_at (cell_things n l) 0 p.cells ++ things_at (free_things n) 0 l)) q in
            omega (arith, t.before f, t.after f, same, g.placed a, more, one_next a (length p.cells));
        counted =
            let f = is_retired n in
            let same : tot f (partition_things n p) ≡ tot f (things_at (cell_things n []) 0 p.cells ++ things_at (free_things n) 0 []) = ap (λ l. tot f (things_at (cell_things n l) 0 p.cells ++ things_at (free_things n) 0 l)) q in
            omega (arith, t.before f, t.after f, same, g.counted);
        coloured = tt;
      }
      by (pair ∷ rest) q t d = record {
        placed = λ a.
            let f = states (n, a) in
            let same : tot f (partition_things n p) ≡ tot f (things_at (cell_things n (pair ∷ rest)) 0 p.cells ++ things_at (free_things n) 0 (pair ∷ rest)) = ap (λ l. tot f (things_at (cell_things n l) 0 p.cells ++ things_at (free_things n) 0 l)) q in
            omega (arith, t.before f, t.after f, same, g.placed a, less_one a (length p.cells) (length (put_cell p.cells pair.0 c)) (put_long p.cells pair.0 c));
        counted =
            let f = is_retired n in
            let same : tot f (partition_things n p) ≡ tot f (things_at (cell_things n (pair ∷ rest)) 0 p.cells ++ things_at (free_things n) 0 (pair ∷ rest)) = ap (λ l. tot f (things_at (cell_things n l) 0 p.cells ++ things_at (free_things n) 0 l)) q in
            omega (arith, t.before f, t.after f, same, g.counted);
        coloured = d.1;
      }

  -- a cell gets another value
  pub exact_stored : (w : ℕ) (v : Owned) (c : Cell) → look p w ≡ Some c → Exact n (stored p w v)
  exact_stored w v c e =
      let t = cell_stores n p w c v e in record {
        placed = λ a.
            let f = states (n, a) in
            let longer : one (nat_lt a (length (stored p w v).cells)) ≡ one (nat_lt a (length p.cells)) = ap (λ m. one (nat_lt a m)) (length_set p.cells (address_of w) (with_value v (cell_of p w))) in
            omega (arith, t.before f, t.after f, g.placed a, longer);
        counted = let f = is_retired n in omega (arith, t.before f, t.after f, g.counted);
        coloured = g.coloured;
      }

-- WITH ITS SERVER AND ITS LIMIT

-- where a word leads there is a cell
leads_look : (p : PartitionState) (w : ℕ) → leads_here p w ≡ true → (c : Cell) × (look p w ≡ Some c)
leads_look p w e = by (cell_of p w) refl
  where
    found : (server_of w == p.server && is_some (cell_of p w)) ≡ true
    found = first (server_of w == p.server && is_some (cell_of p w)) (nat_lt (colour_of w) p.limit) e
      where
        first : (a b : Bool) → (a && b) ≡ true → a ≡ true
        first true b h = refl
        first false b h = absurd (cc h)

    by : (o : Option Cell) → cell_of p w ≡ o → (c : Cell) × (look p w ≡ Some c)
    by (Some c) q = (c, ap (λ b. if b then cell_of p w else None) e ∙ q)
    by None q = absurd (none (server_of w == p.server) (ap (λ o. server_of w == p.server && is_some o) (sym q) ∙ found))
      where
        none : (a : Bool) → (a && false) ≡ true → ⊥
        none true h = cc h
        none false h = cc h

-- where an object is looked for there is a cell
object_look : (p : PartitionState) (w : ℕ) (o : ObjNo) (c : Cell) → look_object p w o ≡ Some c → (d : Cell) × (look p w ≡ Some d)
object_look p w o c e = by (look p w) e
  where
    by : (x : Option Cell) → then_some x (λ z. if same_object z.object o then Some z else None) ≡ Some c → (d : Cell) × (x ≡ Some d)
    by None h = absurd (cc h)
    by (Some d) h = (d, refl)

module _ (n limit : ℕ) (p : PartitionState) (g : IsPart n limit p) where
  -- the calls of a partition: a value stored, an object freed, made and renewed
  pub part_stores : (w : ℕ) (v : Owned) → leads_here p w ≡ true → IsPart n limit (stored p w v)
  part_stores w v e = let c = leads_look p w e in record { own = g.own; limited = g.limited; exact = exact_stored n p g.exact w v c.0 c.1 }

  pub part_frees : (w : ℕ) (o : ObjNo) (c : Cell) → look_object p w o ≡ Some c → IsPart n limit (freed p w)
  part_frees w o c e = let d = object_look p w o c e in record { own = g.own; limited = g.limited; exact = exact_freed n p g.exact w d.0 d.1 }

  pub part_makes : (c : Cell) → IsPart n limit (made p c)
  part_makes c = record { own = g.own; limited = g.limited; exact = exact_made n p g.exact c }

  pub part_renews : (w : ℕ) → (leads_here p w && (is_last p w && can_grow p)) ≡ true → IsPart n limit (renewed p w)
  part_renews w e = by (cell_of p w)
    where
      first : (a b : Bool) → (a && b) ≡ true → a ≡ true
      first true b h = refl
      first false b h = absurd (cc h)

      less : Exact n (freed p w)
      less = let c = leads_look p w (first (leads_here p w) (is_last p w && can_grow p) e) in exact_freed n p g.exact w c.0 c.1

      by : (o : Option Cell) → IsPart n limit (made_again (freed p w) o)
      by None = record { own = g.own; limited = g.limited; exact = less }
      by (Some c) = record { own = g.own; limited = g.limited; exact = exact_made n (freed p w) less c }
