-- Addresses in a step: where an object lay one lies, or the address is retired; a free one goes on from its colour, or an object lies there; a retired one stays retired.
use Rattle.std.proofs.Common.{◌≡◌, ◌≤◌, ℕ, ◌+◌, ◌==◌, ◌&&◌, Bool, true, false, nat_lt, if◌then◌else◌, List, [], ◌∷◌, Option, Some, None, refl, sym, ap, ap₂, subst, ◌∙◌, arith}
use Rattle.std.specs.Prelude.{length, is_some, slice_get}
use Rattle.std.proofs.lemmas.Bool.{eq-eqb}
use Rattle.std.proofs.lemmas.Bool.Decides.{nat_tests}
use Rattle.law_words_issued.specs.Below.fr_base.declared.name.ObjNo.{ObjNo}
use Rattle.law_words_issued.specs.Below.global_addr.Words.{colour_of, server_of, address_of}
use Rattle.law_words_issued.specs.Below.heap_partition.declared.value.Cell.{Cell}
use Rattle.law_words_issued.specs.Below.heap_partition.declared.value.Owned.{Owned}
use Rattle.law_words_issued.specs.Below.colour_retire.Colours.{picked}
use Rattle.law_words_issued.specs.Below.owner_box.View.{PartitionState}
use Rattle.law_words_issued.specs.Below.owner_box.Partition.{with_value, cell_of, stored, made, freed, made_again, renewed}
use Rattle.law_words_issued.specs.Below.server_model.Servers.{Rest}
use Rattle.law_words_issued.specs.Below.server_model.Work.{look, leads_here}
use Rattle.law_words_issued.specs.Below.server_model.NewWords.{can_grow, is_last}
use Rattle.law_words_issued.specs.Below.coherent_memory.Names.{tot, one, same_object}
use Rattle.law_words_issued.specs.Below.coherent_memory.Things.{Thing, lies, vacant, retired, partition_things}
use Rattle.law_words_issued.specs.Below.coherent_memory.Sight.{is_spot}
use Rattle.law_words_issued.specs.Below.coherent_memory.Weights.{states}
use Rattle.law_words_issued.proofs.Below.coherent_memory.Names.{and_left, and_right}
use Rattle.law_words_issued.proofs.Below.coherent_memory.Words.{itself}
use Rattle.law_words_issued.proofs.Below.law_counts_sums.Cells.{left_by, looked, frees}
use Rattle.law_words_issued.proofs.Below.law_counts_sums.Objects.{length_set, taken_place, makes}
use Rattle.law_words_issued.proofs.Below.law_heap_still.events.Addresses.{InPlace, lies_alone, next_empty, renews}
use Rattle.law_words_issued.proofs.stands.Addresses.{same_itself, stores_same}
use Rattle.law_words_issued.proofs.stands.Elsewhere.{NoAddress, SeesAddresses, same_weight}

-- WHERE A WORD MAY HAVE BEEN ISSUED

-- the address has the word's place, and isn't free under a colour up to the word's
abbrev pub spotted : ℕ → ℕ → Thing → ℕ
spotted colours w (lies s a c) = one (is_spot s a w)
spotted colours w (vacant s a n) = one (is_spot s a w && nat_lt (colour_of w) n)
spotted colours w (retired s a) = one (is_spot s a w && nat_lt (colour_of w) colours)
spotted colours w x = 0

pub spotted_sees : (colours w : ℕ) → SeesAddresses (spotted colours w)
spotted_sees colours w = record { nothing = blank; object = λ s a c d e. refl }
  where
    blank : (x : Thing) → NoAddress x → spotted colours w x ≡ 0
    blank (lies s a c) h = absurd h
    blank (vacant s a n) h = absurd h
    blank (retired s a) h = absurd h
    blank x h = refl

states_see : (at : ℕ × ℕ) → SeesAddresses (states at)
states_see at = record { nothing = blank; object = λ s a c d e. refl }
  where
    blank : (x : Thing) → NoAddress x → states at x ≡ 0
    blank (lies s a c) h = absurd h
    blank (vacant s a n) h = absurd h
    blank (retired s a) h = absurd h
    blank x h = refl

-- the object lies there
abbrev pub lying : ObjNo → Thing → ℕ
lying o (lies s a c) = one (same_object c.object o)
lying o x = 0

pub lying_sees : (o : ObjNo) → SeesAddresses (lying o)
lying_sees o = record { nothing = blank; object = λ s a c d e. ap (λ p. one (same_object p o)) e }
  where
    blank : (x : Thing) → NoAddress x → lying o x ≡ 0
    blank (lies s a c) h = absurd h
    blank x h = refl

-- A PARTITION GOES ON

-- a partition after another one: each address has one state, no object comes, and no word below the limit loses its place
pub record Onward (colours n : ℕ) (p q : PartitionState) : Type 0 where
  pub placed : InPlace n q
  pub lay : (o : ObjNo) → tot (lying o) (partition_things n q) ≤ tot (lying o) (partition_things n p)
  pub keeps : (w : ℕ) → nat_lt (colour_of w) colours ≡ true → tot (spotted colours w) (partition_things n p) ≤ tot (spotted colours w) (partition_things n q)

pub onward_itself : (colours n : ℕ) (p : PartitionState) → InPlace n p → Onward colours n p p
onward_itself colours n p placed = record { placed = placed; lay = λ o. omega arith; keeps = λ w low. omega arith }

-- an object gets a value
pub onward_stored : (colours n : ℕ) (p q : PartitionState) (x : ℕ) (v : Owned) → Onward colours n p q → Onward colours n p (stored q x v)
onward_stored colours n p q x v o = record {
  placed = λ a.
      let same : one (nat_lt a (length (stored q x v).cells)) ≡ one (nat_lt a (length q.cells)) = ap (λ m. one (nat_lt a m)) (length_set q.cells (address_of x) (with_value v (cell_of q x))) in
      omega (arith, o.placed a, same, same_weight (states (n, a)) (states_see (n, a)) n q (stored q x v) (stores_same q q x v (same_itself q)));
  lay = λ b. omega (arith, o.lay b, same_weight (lying b) (lying_sees b) n q (stored q x v) (stores_same q q x v (same_itself q)));
  keeps = λ w low. omega (arith, o.keeps w low, same_weight (spotted colours w) (spotted_sees colours w) n q (stored q x v) (stores_same q q x v (same_itself q)));
}

-- A RENEWAL

-- the state of an address that is left
left_state : (n limit w a : ℕ) → states (n, a) (left_by n limit w) ≡ one (n == n && address_of w == a)
left_state n limit w a = by (nat_lt (colour_of w + 1) limit)
  where
    by : (b : Bool) → states (n, a) (if b then vacant n (address_of w) (colour_of w + 1) else retired n (address_of w)) ≡ one (n == n && address_of w == a)
    by true = refl
    by false = refl

freed_places : (n : ℕ) (p : PartitionState) (w : ℕ) (c : Cell) → slice_get p.cells (address_of w) ≡ Some (Some c) → InPlace n p → InPlace n (freed p w)
freed_places n p w c e placed a =
    let t = frees n p w c e (lies_alone n p placed (address_of w) c e) in
    let f = states (n, a) in
    let same : one (nat_lt a (length (freed p w).cells)) ≡ one (nat_lt a (length p.cells)) = ap (λ m. one (nat_lt a m)) (length_set p.cells (address_of w) None) in
    omega (arith, placed a, t.before f, t.after f, same, left_state n p.limit w a)

-- at the last colour the address that is left is retired
retires : (colours w n limit v : ℕ) (c : Cell) → nat_lt (colour_of w) colours ≡ true → (colour_of v + 1 == limit) ≡ true → spotted colours w (lies n (address_of v) c) ≤ spotted colours w (left_by n limit v)
retires colours w n limit v c low last = by (nat_lt (colour_of v + 1) limit) refl
  where
    same : one (is_spot n (address_of v) w && nat_lt (colour_of w) colours) ≡ one (is_spot n (address_of v) w)
    same = ap (λ b. one (is_spot n (address_of v) w && b)) low ∙ whole (is_spot n (address_of v) w)
      where
        whole : (b : Bool) → one (b && true) ≡ one b
        whole true = refl
        whole false = refl

    by : (b : Bool) → nat_lt (colour_of v + 1) limit ≡ b → one (is_spot n (address_of v) w) ≤ spotted colours w (if b then vacant n (address_of v) (colour_of v + 1) else retired n (address_of v))
    by true e = absurd (grind (arith, nat_tests, e, last))
    by false e = omega (arith, same)

-- a place that is taken was free, or none
takes : (colours w n : ℕ) (fl : List (ℕ × ℕ)) (m : ℕ) (c : Cell) → tot (spotted colours w) (taken_place n fl) ≤ spotted colours w (lies n (picked fl m).0 c)
takes colours w n [] m c = omega arith
takes colours w n (pair ∷ rest) m c = by (is_spot n pair.0 w) (nat_lt (colour_of w) pair.1)
  where
    by : (a b : Bool) → one (a && b) + 0 ≤ one a
    by true true = omega arith
    by true false = omega arith
    by false b = omega arith

-- no object lies at what is left, nor at what is taken
left_bare : (o : ObjNo) (n limit v : ℕ) → lying o (left_by n limit v) ≡ 0
left_bare o n limit v = by (nat_lt (colour_of v + 1) limit)
  where
    by : (b : Bool) → lying o (if b then vacant n (address_of v) (colour_of v + 1) else retired n (address_of v)) ≡ 0
    by true = refl
    by false = refl

taken_bare : (o : ObjNo) (n : ℕ) (fl : List (ℕ × ℕ)) → tot (lying o) (taken_place n fl) ≡ 0
taken_bare o n [] = refl
taken_bare o n (pair ∷ rest) = refl

-- an object at its last colour is renewed
pub onward_renewed : (colours n : ℕ) (p : PartitionState) (r : Rest) (v : ℕ) → (leads_here r.partition v && (is_last r.partition v && can_grow r.partition)) ≡ true → Onward colours n p r.partition → Onward colours n p (renewed r.partition v)
onward_renewed colours n p r v on o = record { placed = (renews (record r { number = n }) v leads o.placed).1; lay = λ b. (by (cell_of q v) refl).0 b; keeps = λ w low. (by (cell_of q v) refl).1 w low }
  where
    q : PartitionState
    q = r.partition

    leads : leads_here q v ≡ true
    leads = and_left (leads_here q v) (is_last q v && can_grow q) on

    last : is_last q v ≡ true
    last = and_left (is_last q v) (can_grow q) (and_right (leads_here q v) (is_last q v && can_grow q) on)

    Then : PartitionState → Type 0
    Then z = ((b : ObjNo) → tot (lying b) (partition_things n z) ≤ tot (lying b) (partition_things n p)) × ((w : ℕ) → nat_lt (colour_of w) colours ≡ true → tot (spotted colours w) (partition_things n p) ≤ tot (spotted colours w) (partition_things n z))

    by : (x : Option Cell) → cell_of q v ≡ x → Then (made_again (freed q v) x)
    by None e =
        let live : is_some (cell_of q v) ≡ true = and_right (server_of v == q.server) (is_some (cell_of q v)) (and_left ((server_of v == q.server) && is_some (cell_of q v)) (nat_lt (colour_of v) q.limit) leads) in
        absurd (cc (sym (ap is_some e) ∙ live))
    by (Some c) e =
        let here : look q v ≡ Some c = subst (λ b. (if b then cell_of q v else None) ≡ Some c) (sym leads) e in
        let at : slice_get q.cells (address_of v) ≡ Some (Some c) = looked q v c here in
        let left = freed_places n q v c at o.placed in
        let t = frees n q v c at (lies_alone n q o.placed (address_of v) c at) in
        let u = makes n (freed q v) c (freed q v).free (next_empty n (freed q v) left) in (
          λ b. (let f = lying b in omega (arith, o.lay b, t.before f, t.after f, u.before f, u.after f, left_bare b n q.limit v, taken_bare b n (freed q v).free)),
          λ w low. (let f = spotted colours w in omega (arith, o.keeps w low, t.before f, t.after f, u.before f, u.after f, retires colours w n q.limit v c low last, takes colours w n (freed q v).free (length (freed q v).cells) c)),
        )

-- AN OBJECT COMES

-- the object lies at that address
abbrev pub laid : ℕ → ℕ → ObjNo → Thing → ℕ
laid n a o (lies s b c) = one ((s == n && b == a) && same_object c.object o)
laid n a o x = 0

pub laid_sees : (n a : ℕ) (o : ObjNo) → SeesAddresses (laid n a o)
laid_sees n a o = record { nothing = blank; object = λ s b c d e. ap (λ q. one ((s == n && b == a) && same_object q o)) e }
  where
    blank : (x : Thing) → NoAddress x → laid n a o x ≡ 0
    blank (lies s b c) h = absurd h
    blank x h = refl

-- the next address that a partition has
abbrev pub next_address : PartitionState → ℕ
next_address p = (picked p.free (length p.cells)).0

-- a partition after another one to which the object came, at the next address: no other one comes, and no word below the limit loses its place
pub record Comes (colours n : ℕ) (o : ObjNo) (p q : PartitionState) : Type 0 where
  pub here : 1 ≤ tot (laid n (next_address p) o) (partition_things n q)
  pub lay : (b : ObjNo) → tot (lying b) (partition_things n q) ≤ tot (lying b) (partition_things n p) + one (same_object o b)
  pub keeps : (w : ℕ) → nat_lt (colour_of w) colours ≡ true → tot (spotted colours w) (partition_things n p) ≤ tot (spotted colours w) (partition_things n q)

pub comes_made : (colours n : ℕ) (p : PartitionState) (c : Cell) → InPlace n p → Comes colours n c.object p (made p c)
comes_made colours n p c placed =
    let u = makes n p c p.free (next_empty n p placed) in
    let at : laid n (next_address p) c.object (lies n (next_address p) c) ≡ 1 =
    ap₂ (λ x y. one ((x && y) && same_object c.object c.object)) (eq-eqb n n refl) (eq-eqb (next_address p) (next_address p) refl) ∙ ap one (itself c.object c.object refl) in record {
      here = (let f = laid n (next_address p) c.object in omega (arith, u.after f, at));
      lay = λ b. (let f = lying b in omega (arith, u.before f, u.after f, taken_bare b n p.free));
      keeps = λ w low. (let f = spotted colours w in omega (arith, u.before f, u.after f, takes colours w n p.free (length p.cells) c));
    }

pub comes_stored : (colours n : ℕ) (o : ObjNo) (p q : PartitionState) (x : ℕ) (v : Owned) → Comes colours n o p q → Comes colours n o p (stored q x v)
comes_stored colours n o p q x v k = record {
  here = omega (arith, k.here, same_weight (laid n (next_address p) o) (laid_sees n (next_address p) o) n q (stored q x v) (stores_same q q x v (same_itself q)));
  lay = λ b. omega (arith, k.lay b, same_weight (lying b) (lying_sees b) n q (stored q x v) (stores_same q q x v (same_itself q)));
  keeps = λ w low. omega (arith, k.keeps w low, same_weight (spotted colours w) (spotted_sees colours w) n q (stored q x v) (stores_same q q x v (same_itself q)));
}
