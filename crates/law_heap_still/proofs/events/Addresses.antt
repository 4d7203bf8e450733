-- A partition in the middle of an event: each of its addresses has one state, and an object that gets a new address shows what it showed.
use Rattle.std.proofs.Common.{◌≡◌, ℕ, ◌+◌, ◌<◌, ◌≤◌, ◌==◌, ◌&&◌, ◌||◌, Bool, true, false, nat_lt, if◌then◌else◌, List, [], ◌∷◌, ◌++◌, length, Option, Some, None, refl, sym, ap, subst, ◌∙◌, arith}
use Rattle.std.specs.Prelude.{slice_get, slice_set, is_some}
use Rattle.std.proofs.lemmas.Bool.{eq-eqb}
use Rattle.std.proofs.lemmas.Bool.Decides.{nat_tests}
use Rattle.std.proofs.lemmas.List.{length-append}
use Rattle.std.proofs.lemmas.Option.{slice_get-get_or, slice_get_within}
use Rattle.law_counts_sums.proofs.Below.fr_typing.PlaceLemmas.{eq_cases}
use Rattle.law_counts_sums.specs.Below.global_addr.Words.{colour_of, server_of, address_of}
use Rattle.law_counts_sums.specs.Below.heap_partition.declared.value.Cell.{Cell}
use Rattle.law_counts_sums.specs.Below.heap_partition.declared.value.Owned.{Owned}
use Rattle.law_counts_sums.specs.Below.colour_retire.Colours.{picked}
use Rattle.law_counts_sums.specs.Below.owner_box.View.{PartitionState}
use Rattle.law_counts_sums.specs.Below.owner_box.Partition.{put_cell, with_value, cell_of, stored, freed, made, made_again, renewed}
use Rattle.law_counts_sums.specs.Below.server_model.Servers.{Rest}
use Rattle.law_counts_sums.specs.Below.server_model.Work.{look, leads_here}
use Rattle.law_counts_sums.specs.Below.coherent_memory.Names.{tot, one}
use Rattle.law_counts_sums.specs.Below.coherent_memory.Things.{Thing, vacant, retired, counts, is_free, partition_things, cell_things, free_things, things_at}
use Rattle.law_counts_sums.specs.Below.coherent_memory.Weights.{states, below}
use Rattle.law_counts_sums.proofs.Below.coherent_memory.Names.{and_left, and_right}
use Rattle.law_counts_sums.specs.Sums.{is_server}
use Rattle.law_counts_sums.proofs.Trades.{tot-append, trade_whole}
use Rattle.law_counts_sums.proofs.Rules.{Placed}
use Rattle.law_counts_sums.proofs.Bags.{body_things, rest_things, counts_of, of_partition}
use Rattle.law_counts_sums.proofs.Cells.{left_by, looked, frees, free_states, not_free}
use Rattle.law_counts_sums.proofs.Objects.{length_set, taken_place, makes}
use Rattle.law_counts_sums.proofs.Values.{stores}
use Rattle.law_heap_still.specs.events.Shows.{Sign, nothing, sign_of}
use Rattle.law_heap_still.proofs.events.Told.{at_most}
use Rattle.law_heap_still.proofs.events.Sites.{shown, Moves}

-- each address of server n's partition that is below the next one has at most one state, and the others have none
abbrev pub InPlace : ℕ → PartitionState → Type 0
InPlace n p = (a : ℕ) → tot (states (n, a)) (partition_things n p) ≤ one (nat_lt a (length p.cells))

-- WHAT IS FREE

at_most_one : (b : Bool) → one b ≤ 1
at_most_one true = omega arith
at_most_one false = omega arith

less : (a m : ℕ) (b : Bool) → nat_lt a m ≡ b → 1 ≤ one b → a < m
less a m true e l = grind (arith, nat_tests, e)
less a m false e l = absurd (omega (arith, l))

module _ (n : ℕ) (p : PartitionState) (placed : InPlace n p) where
  abbrev cs : List Thing
  cs = things_at (cell_things n p.free) 0 p.cells

  abbrev fs : List Thing
  fs = things_at (free_things n) 0 p.free

  few : (a : ℕ) → tot (states (n, a)) (partition_things n p) ≤ 1
  few a = omega (arith, placed a, at_most_one (nat_lt a (length p.cells)))

  pub lies_alone : (a : ℕ) (c : Cell) → slice_get p.cells a ≡ Some (Some c) → is_free a p.free ≡ false
  lies_alone a c e = not_free n p a c e (few a)

  -- where no object lies at a free address
  empty : (a : ℕ) → is_free a p.free ≡ true → slice_get p.cells a ≡ Some None
  empty a free =
      let within : a < length p.cells = less a (length p.cells) (nat_lt a (length p.cells)) refl (omega (arith, placed a, free_states n a 0 p.free free, tot-append (states (n, a)) cs fs)) in
      by (slice_get p.cells a) refl (slice_get-get_or p.cells a None within)
    where
      by : (o : Option (Option Cell)) → slice_get p.cells a ≡ o → {d : Option Cell} → slice_get p.cells a ≡ Some d → o ≡ Some None
      by None e g = absurd (cc (sym e ∙ g))
      by (Some None) e g = refl
      by (Some (Some c)) e g = absurd (cc (sym free ∙ lies_alone a c e))

  pub next_empty : (pair : ℕ × ℕ) (rest : List (ℕ × ℕ)) → p.free ≡ pair ∷ rest → slice_get p.cells pair.0 ≡ Some None
  next_empty pair rest e = empty pair.0 (subst (λ l. is_free pair.0 l ≡ true) (sym e) (ap (λ b. b || is_free pair.0 rest) (eq-eqb pair.0 pair.0 refl)))

-- WHAT KEEPS IT

-- a cell gets a value
pub stored_places : (n : ℕ) (p : PartitionState) (w : ℕ) (c : Cell) (v : Owned) → look p w ≡ Some c → InPlace n p → InPlace n (stored p w v)
stored_places n p w c v e placed a =
    let t = stores n p w c v e in
    let f = states (n, a) in
    let same : one (nat_lt a (length (stored p w v).cells)) ≡ one (nat_lt a (length p.cells)) = ap (λ m. one (nat_lt a m)) (length_set p.cells (address_of w) (with_value v (cell_of p w))) in
    omega (arith, placed a, t.before f, t.after f, same)

-- the state of an address that is left
left_state : (n limit w a : ℕ) → states (n, a) (left_by n limit w) ≡ one (n == n && address_of w == a)
left_state n limit w a = by (nat_lt (colour_of w + 1) limit)
  where
    by : (b : Bool) → states (n, a) (if b then vacant n (address_of w) (colour_of w + 1) else retired n (address_of w)) ≡ one (n == n && address_of w == a)
    by true = refl
    by false = refl

freed_places : (n : ℕ) (p : PartitionState) (w : ℕ) (c : Cell) → slice_get p.cells (address_of w) ≡ Some (Some c) → InPlace n p → InPlace n (freed p w)
freed_places n p w c e placed a =
    let t = frees n p w c e (lies_alone n p placed (address_of w) c e) in
    let f = states (n, a) in
    let same : one (nat_lt a (length (freed p w).cells)) ≡ one (nat_lt a (length p.cells)) = ap (λ m. one (nat_lt a m)) (length_set p.cells (address_of w) None) in
    omega (arith, placed a, t.before f, t.after f, same, left_state n p.limit w a)

-- the next address is taken
next_taken : (n m a t r : ℕ) → t ≡ r → t ≤ one (nat_lt a m) → one (n == n && m == a) + r ≤ one (nat_lt a (m + 1))
next_taken n m a t r same l = by (nat_lt a m) (nat_lt a (m + 1)) refl refl (n == n) (m == a) refl l
  where
    by : (b d : Bool) → nat_lt a m ≡ b → nat_lt a (m + 1) ≡ d → (q e : Bool) → (m == a) ≡ e → t ≤ one b → one (q && e) + r ≤ one d
    by b true x y true true z k = let off : b ≡ false = grind (arith, nat_tests, x, z) in let none : one b ≡ 0 = ap one off in omega (arith, k, none, same)
    by b true x y true false z k = omega (arith, k, same, at_most_one b)
    by b true x y false e z k = omega (arith, k, same, at_most_one b)
    by true false x y q e z k = absurd (grind (arith, nat_tests, x, y))
    by false false x y true true z k = absurd (grind (arith, nat_tests, y, z))
    by false false x y true false z k = omega (arith, k, same)
    by false false x y false e z k = omega (arith, k, same)

made_places : (n : ℕ) (p : PartitionState) (c : Cell) → InPlace n p → InPlace n (made p c)
made_places n p c placed a =
    let t = makes n p c p.free (next_empty n p placed) in
    by p.free refl (tot f t.rest) (t.before f) (t.after f)
  where
    f : Thing → ℕ
    f = states (n, a)

    cells_with : ℕ → List (Option Cell)
    cells_with i = put_cell p.cells i c

    longer : length (put_cell p.cells (length p.cells) c) ≡ length p.cells + 1
    longer =
        eq_cases (λ b. length (if b then p.cells ++ Some c ∷ [] else slice_set p.cells (length p.cells) (Some c)) ≡ length p.cells + 1) (length p.cells) (length p.cells)
        (λ e. length-append p.cells (Some c ∷ [])) (λ ne. absurd (ne refl))

    as_long : (i : ℕ) → i < length p.cells → length (put_cell p.cells i c) ≡ length p.cells
    as_long i l = eq_cases (λ b. length (if b then p.cells ++ Some c ∷ [] else slice_set p.cells i (Some c)) ≡ length p.cells) i (length p.cells) (λ e. absurd (omega (arith, e, l))) (λ ne. length_set p.cells i (Some c))

    by : (fl : List (ℕ × ℕ)) → p.free ≡ fl → (r : ℕ) → tot (states (n, a)) (partition_things n p) ≡ tot (states (n, a)) (taken_place n fl) + r → tot (states (n, a)) (partition_things n (made p c)) ≡ one (n == n && (picked fl (length p.cells)).0 == a) + 0 + r
        → tot (states (n, a)) (partition_things n (made p c)) ≤ one (nat_lt a (length (put_cell p.cells (picked fl (length p.cells)).0 c)))
    by [] e r x y =
        let more : one (nat_lt a (length (put_cell p.cells (length p.cells) c))) ≡ one (nat_lt a (length p.cells + 1)) = ap (λ m. one (nat_lt a m)) longer in
        omega (arith, x, y, more, next_taken n (length p.cells) a (tot (states (n, a)) (partition_things n p)) r (omega (arith, x)) (placed a))
    by (pair ∷ rest) e r x y =
        let within : pair.0 < length p.cells = slice_get_within p.cells pair.0 None (next_empty n p placed pair rest e) in
        let same : one (nat_lt a (length (put_cell p.cells pair.0 c))) ≡ one (nat_lt a (length p.cells)) = ap (λ m. one (nat_lt a m)) (as_long pair.0 within) in
        omega (arith, x, y, same, placed a)

-- A NEW ADDRESS

-- the address that is left isn't shown, nor is the one that is taken
pub address_unseen : (v : Sign → ℕ) → v nothing ≡ 0 → (n limit w : ℕ) → v (sign_of (left_by n limit w)) ≡ 0
address_unseen v z n limit w = by (nat_lt (colour_of w + 1) limit)
  where
    by : (b : Bool) → v (sign_of (if b then vacant n (address_of w) (colour_of w + 1) else retired n (address_of w))) ≡ 0
    by true = z
    by false = z

pub no_vacancy : (w : Sign → ℕ) → w nothing ≡ 0 → (n : ℕ) (fl : List (ℕ × ℕ)) → shown w (taken_place n fl) ≡ 0
no_vacancy w z n [] = refl
no_vacancy w z n (pair ∷ rest) = omega (arith, z)

-- an object is renewed
pub renews : (r : Rest) (w : ℕ) → leads_here r.partition w ≡ true → InPlace r.number r.partition → Moves [] [] r (record r { partition = renewed r.partition w }) × InPlace r.number (renewed r.partition w)
renews r w on placed = by (cell_of r.partition w) refl
  where
    Then : Option Cell → Type 0
    Then o = Moves [] [] r (record r { partition = made_again (freed r.partition w) o }) × InPlace r.number (made_again (freed r.partition w) o)

    by : (o : Option Cell) → cell_of r.partition w ≡ o → Then o
    by None e =
        let live : is_some (cell_of r.partition w) ≡ true = and_right (server_of w == r.partition.server) (is_some (cell_of r.partition w)) (and_left ((server_of w == r.partition.server) && is_some (cell_of r.partition w)) (nat_lt (colour_of w) r.partition.limit) on) in
        absurd (cc (sym (ap is_some e) ∙ live))
    by (Some c) e =
        let n = r.number in
        let p = r.partition in
        let q = freed p w in
        let here : look p w ≡ Some c = subst (λ b. (if b then cell_of p w else None) ≡ Some c) (sym on) e in
        let at : slice_get p.cells (address_of w) ≡ Some (Some c) = looked p w c here in
        let left = freed_places n p w c at placed in
        let r1 : Rest = record r { partition = q } in
        let t = of_partition n 0 r q (frees n p w c at (lies_alone n p placed (address_of w) c at)) in
        let u = of_partition n 0 r1 (made q c) (makes n q c q.free (next_empty n q left)) in (
          record {
            number = refl;
            alike = λ v z. (let f : Thing → ℕ = λ x. v (sign_of x) in omega (arith, z, t.before f, t.after f, u.before f, u.after f, address_unseen v z n p.limit w, no_vacancy v z n q.free));
          },
          made_places n q c left,
        )

-- AMONG ALL THINGS

below_server : (n a : ℕ) (x : Thing) → below (n, a) x ≤ is_server n x
below_server n a (counts r next old started made events) = by (r == n) (nat_lt a next)
  where
    by : (p q : Bool) → one (p && q) ≤ one p
    by true true = omega arith
    by true false = omega arith
    by false q = omega arith
below_server n a _ = omega arith

-- a server's partition, where each address has one state and each number one server
pub in_place : (n e : ℕ) (r : Rest) (others : List Thing) → Placed (rest_things n e r ++ others) → InPlace n r.partition
in_place n e r others k a =
    let p = partition_things n r.partition in
    let f = states (n, a) in
    let whole = of_partition n e r r.partition (trade_whole p p) in
    let own : is_server n (counts_of n e r) ≡ 1 = ap one (eq-eqb n n refl) in
    let mine : below (n, a) (counts_of n e r) ≡ one (nat_lt a (length r.partition.cells)) = ap (λ b. one (b && nat_lt a (length r.partition.cells))) (eq-eqb n n refl) in
    omega (arith, whole.before f, tot-append f (rest_things n e r) others, k.one_state (n, a), k.servers_differ n, own, mine, at_most (below (n, a)) (is_server n) (below_server n a) (body_things n r ++ others))
