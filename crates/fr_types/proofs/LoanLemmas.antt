-- Counts of loans: one place more, one slot more, another part.
use Rattle.std.proofs.Common.{◌≡◌, ◌≢◌, ℕ, zero, suc, ◌+◌, ◌<◌, ◌≤◌, Bool, true, false, List, [], ◌∷◌, length, take, get_or, set, refl, sym, ap, ◌∙◌, subst, arith}
use Rattle.std.specs.Prelude.{◌==◌, ◌||◌, ◌-◌, not}
use mir.Val.{bool_byte}
use Rattle.std.proofs.lemmas.Bool.Decides.{nat_tests}
use Rattle.std.proofs.lemmas.List.{get_or-set_same, get_or-set_other, get_or_default, length-set}
use Rattle.fr_base.specs.declared.place.Lval.{Lval}
use Rattle.fr_typing.specs.Kinds.{lval_lt, Piece}
use Rattle.fr_typing.specs.Places.{starts_at, blocks_read, blocks_write}
use Rattle.fr_typing.proofs.PlaceLemmas.{eq_cases}
use Rattle.fr_types.specs.Rising.{IsRising}
use Rattle.fr_types.specs.declared.loans.Loans.{Loans}
use Rattle.fr_types.specs.Lent.{bit, loans_at, reference, place_of, is_first, IsLent, HasLoans, HasSpace}

-- A SET'S PLACES BY SLOT

before_le : (u v : Lval) → lval_lt u v ≡ true → u.slot ≤ v.slot
before_le u v h = grind (arith, nat_tests, h)

rising_le : (v : Lval) (us : List Lval) (i : ℕ) (d : Lval) → IsRising (v ∷ us) → i < length us → v.slot ≤ (get_or us i d).slot
rising_le v [] i d h lt = absurd (omega arith)
rising_le v (w ∷ ws) zero d h lt = before_le v w h.0
rising_le v (w ∷ ws) (suc i) d h lt = let first = before_le v w h.0 in let rest = rising_le w ws i d h.1 (omega arith) in omega arith

rising_next : (us : List Lval) (i : ℕ) (d : Lval) → IsRising us → suc i < length us → (get_or us i d).slot ≤ (get_or us (suc i) d).slot
rising_next [] i d h lt = absurd (omega arith)
rising_next (v ∷ []) i d h lt = absurd (omega arith)
rising_next (v ∷ w ∷ ws) zero d h lt = before_le v w h.0
rising_next (v ∷ w ∷ ws) (suc i) d h lt = rising_next (w ∷ ws) i d h.1 (omega arith)

not_first : (a b : ℕ) (rest : Bool) → a ≢ b → rest ≡ false → ((a == b) || rest) ≡ false
not_first a b rest ne h = eq_cases (λ t. (t || rest) ≡ false) a b (λ e. absurd (ne e)) (λ _. h)

-- a place whose slot is not that of the place before it is the first one of its slot
pub first_place : (us : List Lval) (i : ℕ) (d : Lval) → IsRising us → suc i < length us → (get_or us i d).slot ≢ (get_or us (suc i) d).slot → starts_at (get_or us (suc i) d).slot (take (suc i) us) ≡ false
first_place [] i d h lt ne = absurd (omega arith)
first_place (v ∷ []) i d h lt ne = absurd (omega arith)
first_place (v ∷ w ∷ ws) zero d h lt ne = not_first v.slot w.slot false ne refl
first_place (v ∷ w ∷ ws) (suc i) d h lt ne =
    let before : v.slot ≤ (get_or (w ∷ ws) i d).slot = rising_le v (w ∷ ws) i d h (omega arith) in
    let next : (get_or (w ∷ ws) i d).slot ≤ (get_or (w ∷ ws) (suc i) d).slot = rising_next (w ∷ ws) i d h.1 (omega arith) in
    not_first v.slot (get_or (w ∷ ws) (suc i) d).slot (starts_at (get_or (w ∷ ws) (suc i) d).slot (take (suc i) (w ∷ ws)))
    (λ e. let same : (get_or (w ∷ ws) i d).slot ≡ (get_or (w ∷ ws) (suc i) d).slot = omega (arith, e, before, next) in ne same)
    (first_place (w ∷ ws) i d h.1 (omega arith) ne)

-- one place more
any_take : (x : ℕ) (us : List Lval) (i : ℕ) (d : Lval) → i < length us → starts_at x (take (suc i) us) ≡ (starts_at x (take i us) || ((get_or us i d).slot == x))
any_take x [] i d lt = absurd (omega arith)
any_take x (v ∷ us) zero d lt = or_false (v.slot == x)
  where
    or_false : (b : Bool) → (b || false) ≡ b
    or_false true = refl
    or_false false = refl
any_take x (v ∷ us) (suc i) d lt =
    ap (λ t. (v.slot == x) || t) (any_take x us i d (omega arith))
    ∙ sym (or_assoc (v.slot == x) (starts_at x (take i us)) ((get_or us i d).slot == x))
  where
    or_assoc : (a b c : Bool) → ((a || b) || c) ≡ (a || (b || c))
    or_assoc true b c = refl
    or_assoc false b c = refl

-- it changes nothing for other slots
any_other : (x : ℕ) (us : List Lval) (i : ℕ) (d : Lval) → i < length us → x ≢ (get_or us i d).slot → starts_at x (take (suc i) us) ≡ starts_at x (take i us)
any_other x us i d lt ne =
    any_take x us i d lt
    ∙ eq_cases (λ t. (starts_at x (take i us) || t) ≡ starts_at x (take i us)) (get_or us i d).slot x (λ e. absurd (ne (sym e))) (λ _. none (starts_at x (take i us)))
  where
    none : (b : Bool) → (b || false) ≡ b
    none true = refl
    none false = refl

-- and starts at its own
any_own : (us : List Lval) (i : ℕ) (d : Lval) → i < length us → starts_at (get_or us i d).slot (take (suc i) us) ≡ true
any_own us i d lt =
    any_take (get_or us i d).slot us i d lt
    ∙ eq_cases (λ t. (starts_at (get_or us i d).slot (take i us) || t) ≡ true) (get_or us i d).slot (get_or us i d).slot (λ _. met (starts_at (get_or us i d).slot (take i us))) (λ ne. absurd (ne refl))
  where
    met : (b : Bool) → (b || true) ≡ true
    met true = refl
    met false = refl

-- each place's slot is one at which the set starts
pub any_here : (us : List Lval) (i : ℕ) (d : Lval) → i < length us → starts_at (get_or us i d).slot us ≡ true
any_here [] i d lt = absurd (omega arith)
any_here (v ∷ us) zero d lt = eq_cases (λ t. (t || starts_at v.slot us) ≡ true) v.slot v.slot (λ _. refl) (λ ne. absurd (ne refl))
any_here (v ∷ us) (suc i) d lt = later (v.slot == (get_or us i d).slot) (starts_at (get_or us i d).slot us) (any_here us i d (omega arith))
  where
    later : (a b : Bool) → b ≡ true → (a || b) ≡ true
    later true b h = refl
    later false b h = h

abbrev pub none : Lval
none = record { slot = 0; depth = 0 }

not_false : (b : Bool) → b ≡ false → not b ≡ true
not_false b h = ap not h

not_true : (b : Bool) → b ≡ true → not b ≡ false
not_true b h = ap not h

-- whether a later place is the first one of its slot
pub first_later : (us : List Lval) (i : ℕ) → IsRising us → i < length us → i ≢ 0 → not ((place_of us (i - 1)).slot == (place_of us i).slot) ≡ is_first us i
first_later us zero h lt ne = absurd (ne refl)
first_later us (suc i) h lt ne =
    let less : suc i - 1 ≡ i = omega arith in
    subst (λ n. not ((place_of us n).slot == (place_of us (suc i)).slot) ≡ is_first us (suc i)) (sym less)
    (eq_cases (λ b. not b ≡ is_first us (suc i)) (place_of us i).slot (place_of us (suc i)).slot
    (λ same. sym (not_true (starts_at (place_of us (suc i)).slot (take (suc i) us)) (subst (λ x. starts_at x (take (suc i) us) ≡ true) same (any_own us i none (omega arith)))))
    (λ other. sym (not_false (starts_at (place_of us (suc i)).slot (take (suc i) us)) (first_place us i none h lt other))))

-- ONE PLACE MORE IS COUNTED

-- a slot's count rises by what it is newly in, and others stay
count_new : (f : Loans → ℕ) (less more : List Loans) (a b : ℕ → Bool) (slot : ℕ) (l : Loans) → slot < length more → a slot ≡ false → ((x : ℕ) → x ≢ slot → b x ≡ a x) → f l ≡ f (loans_at more slot) + bit (b slot) → ((x : ℕ) → f (loans_at more x) ≡ f (loans_at less x) + bit (a x)) → (x : ℕ) → f (loans_at (set more slot l) x) ≡ f (loans_at less x) + bit (b x)
count_new f less more a b slot l lt before other new so_far x =
    eq_cases (λ _. f (loans_at (set more slot l) x) ≡ f (loans_at less x) + bit (b x)) slot x
    (λ e. subst (λ y. f (loans_at (set more slot l) y) ≡ f (loans_at less y) + bit (b y)) e
    (let here : f (loans_at (set more slot l) slot) ≡ f l = ap f (get_or-set_same more slot l (record { mutable = 0; any = 0 }) lt) in
    let out : bit (a slot) ≡ 0 = ap bit before in omega (arith, here, out, new, so_far slot)))
    (λ ne. ap f (get_or-set_other more slot x l (record { mutable = 0; any = 0 }) (λ e. ne (sym e))) ∙ so_far x ∙ ap (λ t. f (loans_at less x) + bit t) (sym (other x (λ e. ne (sym e)))))

-- the same downwards
count_less : (f : Loans → ℕ) (less more : List Loans) (a b : ℕ → Bool) (slot : ℕ) (l : Loans) → slot < length less → a slot ≡ false → ((x : ℕ) → x ≢ slot → b x ≡ a x) → f l + bit (b slot) ≡ f (loans_at less slot) → ((x : ℕ) → f (loans_at more x) ≡ f (loans_at less x) + bit (a x)) → (x : ℕ) → f (loans_at more x) ≡ f (loans_at (set less slot l) x) + bit (b x)
count_less f less more a b slot l lt before other new so_far x =
    eq_cases (λ _. f (loans_at more x) ≡ f (loans_at (set less slot l) x) + bit (b x)) slot x
    (λ e. subst (λ y. f (loans_at more y) ≡ f (loans_at (set less slot l) y) + bit (b y)) e
    (let here : f (loans_at (set less slot l) slot) ≡ f l = ap f (get_or-set_same less slot l (record { mutable = 0; any = 0 }) lt) in
    let out : bit (a slot) ≡ 0 = ap bit before in omega (arith, here, out, new, so_far slot)))
    (λ ne. so_far x ∙ ap (λ t. f (loans_at less x) + bit t) (sym (other x (λ e. ne (sym e)))) ∙ ap (λ (y : Loans). f y + bit (b x)) (sym (get_or-set_other less slot x l (record { mutable = 0; any = 0 }) (λ e. ne (sym e)))))

-- what a reference blocks
reads_of : (m : Bool) (us vs : List Lval) (x : ℕ) → starts_at x us ≡ starts_at x vs → blocks_read x (reference m us) ≡ blocks_read x (reference m vs)
reads_of true us vs x h = h
reads_of false us vs x h = refl

writes_of : (m : Bool) (us vs : List Lval) (x : ℕ) → starts_at x us ≡ starts_at x vs → blocks_write x (reference m us) ≡ blocks_write x (reference m vs)
writes_of true us vs x h = h
writes_of false us vs x h = h

reads_none : (m : Bool) (us : List Lval) (x : ℕ) → starts_at x us ≡ false → blocks_read x (reference m us) ≡ false
reads_none true us x h = h
reads_none false us x h = refl

writes_by : (m : Bool) (us : List Lval) (x : ℕ) (b : Bool) → starts_at x us ≡ b → blocks_write x (reference m us) ≡ b
writes_by true us x b h = h
writes_by false us x b h = h

reads_own : (m : Bool) (us : List Lval) (x : ℕ) → starts_at x us ≡ true → blocks_read x (reference m us) ≡ m
reads_own true us x h = h
reads_own false us x h = refl

was_false : (b : Bool) → true ≡ not b → b ≡ false
was_false true h = absurd cc
was_false false h = refl

was_true : (b : Bool) → false ≡ not b → b ≡ true
was_true true h = refl
was_true false h = absurd cc

one_more : (P : ℕ → Type 0) (i : ℕ) → P (suc i) → P (i + 1)
one_more P i h = let next : suc i ≡ i + 1 = omega arith in subst P next h

-- the first place of a slot is counted
pub lend_first : (less more : List Loans) (m : Bool) (us : List Lval) (i : ℕ) (l : Loans) → i < length us → (place_of us i).slot < length more → true ≡ is_first us i → l.mutable ≡ (loans_at more (place_of us i).slot).mutable + bit m → l.any ≡ (loans_at more (place_of us i).slot).any + 1 → IsLent less more (reference m (take i us)) → IsLent less (set more (place_of us i).slot l) (reference m (take (i + 1) us))
lend_first less more m us i l lt here first reads writes h =
    let slot = (place_of us i).slot in
    let out = was_false (starts_at slot (take i us)) first in
    let own = any_own us i none lt in
    one_more (λ n. IsLent less (set more slot l) (reference m (take n us))) i record {
      same = length-set more slot l ∙ h.same;
      mutable = count_new (λ (y : Loans). y.mutable) less more (λ x. blocks_read x (reference m (take i us))) (λ x. blocks_read x (reference m (take (suc i) us))) slot l here (reads_none m (take i us) slot out)
          (λ x ne. reads_of m (take (suc i) us) (take i us) x (any_other x us i none lt ne))
          (reads ∙ ap (λ t. (loans_at more slot).mutable + bit t) (sym (reads_own m (take (suc i) us) slot own))) h.mutable;
      any = count_new (λ (y : Loans). y.any) less more (λ x. blocks_write x (reference m (take i us))) (λ x. blocks_write x (reference m (take (suc i) us))) slot l here (writes_by m (take i us) slot false out)
          (λ x ne. writes_of m (take (suc i) us) (take i us) x (any_other x us i none lt ne))
          (writes ∙ ap (λ t. (loans_at more slot).any + bit t) (sym (writes_by m (take (suc i) us) slot true own))) h.any;
    }

pub give_back_first : (less more : List Loans) (m : Bool) (us : List Lval) (i : ℕ) (l : Loans) → i < length us → (place_of us i).slot < length less → true ≡ is_first us i → l.mutable + bit m ≡ (loans_at less (place_of us i).slot).mutable → l.any + 1 ≡ (loans_at less (place_of us i).slot).any → IsLent less more (reference m (take i us)) → IsLent (set less (place_of us i).slot l) more (reference m (take (i + 1) us))
give_back_first less more m us i l lt here first reads writes h =
    let slot = (place_of us i).slot in
    let out = was_false (starts_at slot (take i us)) first in
    let own = any_own us i none lt in
    one_more (λ n. IsLent (set less slot l) more (reference m (take n us))) i record {
      same = h.same ∙ sym (length-set less slot l);
      mutable = count_less (λ (y : Loans). y.mutable) less more (λ x. blocks_read x (reference m (take i us))) (λ x. blocks_read x (reference m (take (suc i) us))) slot l here (reads_none m (take i us) slot out)
          (λ x ne. reads_of m (take (suc i) us) (take i us) x (any_other x us i none lt ne))
          (ap (λ t. l.mutable + bit t) (reads_own m (take (suc i) us) slot own) ∙ reads) h.mutable;
      any = count_less (λ (y : Loans). y.any) less more (λ x. blocks_write x (reference m (take i us))) (λ x. blocks_write x (reference m (take (suc i) us))) slot l here (writes_by m (take i us) slot false out)
          (λ x ne. writes_of m (take (suc i) us) (take i us) x (any_other x us i none lt ne))
          (ap (λ t. l.any + bit t) (writes_by m (take (suc i) us) slot true own) ∙ writes) h.any;
    }

-- a further place of a slot changes nothing
starts_same : (us : List Lval) (i : ℕ) → i < length us → false ≡ is_first us i → (x : ℕ) → starts_at x (take (suc i) us) ≡ starts_at x (take i us)
starts_same us i lt again x =
    let was = was_true (starts_at (place_of us i).slot (take i us)) again in
    any_take x us i none lt
    ∙ eq_cases (λ b. (starts_at x (take i us) || b) ≡ starts_at x (take i us)) (place_of us i).slot x
    (λ e. there (starts_at x (take i us)) (subst (λ y. starts_at y (take i us) ≡ true) e was))
    (λ _. unmoved (starts_at x (take i us)))
  where
    there : (b : Bool) → b ≡ true → (b || true) ≡ b
    there true h = refl
    there false h = sym h

    unmoved : (b : Bool) → (b || false) ≡ b
    unmoved true = refl
    unmoved false = refl

pub lent_again : (less more : List Loans) (m : Bool) (us : List Lval) (i : ℕ) → i < length us → false ≡ is_first us i → IsLent less more (reference m (take i us)) → IsLent less more (reference m (take (i + 1) us))
lent_again less more m us i lt again h =
    one_more (λ n. IsLent less more (reference m (take n us))) i record {
      same = h.same;
      mutable = λ x. h.mutable x ∙ ap (λ t. (loans_at less x).mutable + bit t) (sym (reads_of m (take (suc i) us) (take i us) x (starts_same us i lt again x)));
      any = λ x. h.any x ∙ ap (λ t. (loans_at less x).any + bit t) (sym (writes_of m (take (suc i) us) (take i us) x (starts_same us i lt again x)));
    }

-- what the code adds is a bit
pub bit_seen : (m : Bool) (n : ℕ) → n ≡ bool_byte m → n ≡ bit m
bit_seen true n h = h
bit_seen false n h = h

pub bit_le : (b : Bool) → bit b ≤ 1
bit_le true = omega arith
bit_le false = omega arith

-- there is space for one more
pub space_left : (less more : List Loans) (p : Piece) (x : ℕ) → HasSpace less → IsLent less more p → ((loans_at more x).mutable ≤ 268435457) × ((loans_at more x).any ≤ 268435457)
space_left less more p x s h = (
  omega (arith, s.mutable x, h.mutable x, bit_le (blocks_read x p)),
  omega (arith, s.any x, h.any x, bit_le (blocks_write x p)),
)

-- what is given back is counted
pub still_lent : (less more : List Loans) (m : Bool) (us : List Lval) (i : ℕ) → i < length us → true ≡ is_first us i → HasLoans more (reference m us) → IsLent less more (reference m (take i us)) → (bit m ≤ (loans_at less (place_of us i).slot).mutable) × (1 ≤ (loans_at less (place_of us i).slot).any)
still_lent less more m us i lt first has h =
    let slot = (place_of us i).slot in
    let out = was_false (starts_at slot (take i us)) first in
    let own = any_here us i none lt in
    let reads : bit (blocks_read slot (reference m us)) ≡ bit m = ap bit (reads_own m us slot own) in
    let writes : bit (blocks_write slot (reference m us)) ≡ 1 = ap bit (writes_by m us slot true own) in
    let no_reads : bit (blocks_read slot (reference m (take i us))) ≡ 0 = ap bit (reads_none m (take i us) slot out) in
    let no_writes : bit (blocks_write slot (reference m (take i us))) ≡ 0 = ap bit (writes_by m (take i us) slot false out) in (
      omega (arith, reads, no_reads, has.mutable slot, h.mutable slot),
      omega (arith, writes, no_writes, has.any slot, h.any slot),
    )

-- AS THE CODE SEES IT

pub loans_seen : (loans : List Loans) (i : ℕ) (v : Loans) → i < length loans → v ≡ get_or loans i v → v ≡ loans_at loans i
loans_seen loans i v lt is = is ∙ sym (get_or_default loans i (record { mutable = 0; any = 0 }) v lt)
