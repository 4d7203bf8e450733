-- What words see of a thread: where it stands, what it has taken, its slots and temporary values, and its gift.
use Rattle.std.proofs.Common.{◌≡◌, inl, inr, ℕ, zero, suc, ◌+◌, Bool, true, false, if◌then◌else◌, List, [], ◌∷◌, ◌++◌, map, Option, Some, None, refl, sym, ap, subst, ◌∙◌}
use Rattle.std.specs.Prelude.{slice_get}
use Rattle.law_counts_sums.specs.Below.fr_base.declared.instruction.Instr.{Instr}
use Rattle.law_counts_sums.specs.Below.fr_base.declared.name.MutexNo.{MutexNo}
use Rattle.law_counts_sums.specs.Below.heap_partition.declared.value.Owned.{Owned}
use Rattle.law_counts_sums.specs.Below.mut_borrow.declared.shared.SharedRef.{SharedRef}
use Rattle.law_counts_sums.specs.Below.thread_state.View.{ThreadState}
use Rattle.law_counts_sums.specs.Below.thread_state.declared.phase.Phase.{Phase}
use Rattle.law_counts_sums.specs.Below.thread_state.declared.phase.Phase.TheVariants as phase
use Rattle.law_counts_sums.specs.Below.thread_state.declared.value.Value.{Value}
use Rattle.law_counts_sums.specs.Below.thread_state.declared.value.Value.TheVariants as value
use Rattle.law_counts_sums.specs.Below.migration.Packing.{unpinned}
use Rattle.law_counts_sums.specs.Below.server_model.Work.{thread_in, set_thread, without_thread, with_thread}
use Rattle.law_counts_sums.specs.Below.server_model.Objects.{waits_for_cell}
use Rattle.law_counts_sums.specs.Below.server_model.Sharing.{waits_for_lock, waits_for_dup}
use Rattle.law_counts_sums.specs.Below.server_model.Joining.{waits_for_join}
use Rattle.law_counts_sums.specs.Below.coherent_memory.Names.{Among}
use Rattle.law_counts_sums.specs.Below.coherent_memory.Things.{Location, Spot, in_slot, in_temp, at_slot, at_temp, Thing, shares, uses, stands, things_at, pin_things, value_things, slot_things, temp_things, gift_things, walk_things, thread_things}
use Rattle.law_words_paths.specs.words.Unmoved.{pointing, owning, taking_by}
use Rattle.law_words_paths.proofs.words.Takings.{owning_pointing}
use Rattle.law_counts_sums.proofs.Bags.{all_standing, thread_number}
use Rattle.law_words_kept.proofs.stays.Alike.{ShowsAs, shows_itself, Alike, Seen, itself, turned, chain, beside, exchanged, joined, alone, swapped, blank, blanks}
use Rattle.law_words_kept.proofs.stays.Lists.{thread_taken, thread_set, thread_comes, taken_alike}
use Rattle.law_words_kept.proofs.stays.Servers.{held_if, gift_held}

shows_turned : (code : List Instr) (x y : ThreadState) → ShowsAs code x y → ShowsAs code y x
shows_turned code x y q = record { number = sym q.number; taking = sym q.taking; slots = λ i. sym (q.slots i); temps = λ i. sym (q.temps i) }

pub stands_alike : {code : List Instr} (n m : ℕ) (p q : Bool) (x y : ThreadState) → ShowsAs code x y → Alike code (stands n p x ∷ []) (stands m q y ∷ [])
stands_alike {code = code} n m p q x y s = record { on = over n m p q x y s; back = over m n q p y x (shows_turned code x y s) }
  where
    over : (n m : ℕ) (p q : Bool) (x y : ThreadState) → ShowsAs code x y → (z : Thing) → Among z (stands n p x ∷ []) → Seen code (stands m q y ∷ []) z
    over n m p q x y s z (inl i) = subst (λ w. Seen code (stands m q y ∷ []) w) i (record { server = m; packed = q; thread = y; among = inl refl; shows = s })
    over n m p q x y s z (inr h) = absurd h

gift_shows : {code : List Instr} (t : ℕ) (v : Option Owned) → Alike code (gift_things t v) (held_if v)
gift_shows t None = itself []
gift_shows t (Some v) = gift_held t v

walk_unseen : {code : List Instr} (n i : ℕ) (ws : List ℕ) → Alike code (things_at (walk_things n) i ws) []
walk_unseen n i [] = itself []
walk_unseen n i (w ∷ ws) = blanks (blank (uses n w) (λ p e h. h)) (walk_unseen n (i + 1) ws)

abbrev pub slots_of : ℕ → ThreadState → List Thing
slots_of n x = things_at (slot_things n x.number) 0 x.slots

abbrev pub temps_of : ℕ → ThreadState → List Thing
temps_of n x = things_at (temp_things n x.number) 0 x.temps

-- the gift before the rest
parts : {code : List Instr} (n : ℕ) (p : Bool) (x : ThreadState) → Alike code (thread_things n p x) (held_if x.gift ++ (stands n p x ∷ [] ++ slots_of n x ++ temps_of n x))
parts n p x =
    let st = stands n p x ∷ [] in
    let g = held_if x.gift in
    let s = slots_of n x in
    let t = temps_of n x in
    chain (beside (beside (chain (beside (beside (itself st) (gift_shows x.number x.gift)) (walk_unseen n 0 x.walk)) (chain (alone (st ++ g)) (exchanged st g))) (itself s)) (itself t))
    (chain (beside (turned (joined g st s)) (itself t)) (turned (joined g (st ++ s) t)))

-- a thread that shows the same, with a gift that comes or goes
pub thread_alike : {code : List Instr} (n m : ℕ) (p q : Bool) (x y : ThreadState) (h h2 : List Thing) → ShowsAs code x y → Alike code (slots_of n x) (slots_of m y) → Alike code (temps_of n x) (temps_of m y)
    → Alike code (h ++ held_if x.gift) (h2 ++ held_if y.gift) → Alike code (h ++ thread_things n p x) (h2 ++ thread_things m q y)
thread_alike n m p q x y h h2 s slots temps gift =
    let same = beside (beside (stands_alike n m p q x y s) slots) temps in
    let here = stands n p x ∷ [] ++ slots_of n x ++ temps_of n x in
    let there = stands m q y ∷ [] ++ slots_of m y ++ temps_of m y in
    chain (beside (itself h) (parts n p x)) (chain (joined h (held_if x.gift) here) (chain (beside gift same) (chain (turned (joined h2 (held_if y.gift) there)) (beside (itself h2) (turned (parts m q y))))))

-- the same, where slots and temporary values are alike together
pub values_alike : {code : List Instr} (n : ℕ) (x y : ThreadState) → ShowsAs code x y → Alike code (slots_of n x ++ temps_of n x) (slots_of n y ++ temps_of n y) → y.gift ≡ x.gift → Alike code (thread_things n false x) (thread_things n false y)
values_alike {code = code} n x y s values gift =
    let here = stands n false x ∷ [] in
    let there = stands n false y ∷ [] in
    let same : Alike code (here ++ slots_of n x ++ temps_of n x) (there ++ slots_of n y ++ temps_of n y) =
    chain (turned (joined here (slots_of n x) (temps_of n x))) (chain (beside (stands_alike n n false false x y s) values) (joined there (slots_of n y) (temps_of n y))) in
    chain (parts n false x) (chain (beside (subst (λ g. Alike code (held_if x.gift) (held_if g)) (sym gift) (itself (held_if x.gift))) same) (turned (parts n false y)))

-- PHASES

-- nothing is taken in that phase
abbrev pub TakesNone : Phase → Type 0
TakesNone p = (t : ℕ) (i : Option Instr) → taking_by t p i ≡ None

pub cell_takes : (p : Phase) (v : ℕ) → waits_for_cell p v ≡ true → TakesNone p
cell_takes (phase.WaitCell u) v e = λ t i. refl
cell_takes phase.Ready v e = absurd cc
cell_takes phase.Got v e = absurd cc
cell_takes (phase.Taken u) v e = absurd cc
cell_takes (phase.WaitLock m) v e = absurd cc
cell_takes (phase.WaitDup m) v e = absurd cc
cell_takes (phase.WaitJoin u) v e = absurd cc
cell_takes (phase.WaitPar a b) v e = absurd cc
cell_takes (phase.GotPar a b) v e = absurd cc
cell_takes phase.Over v e = absurd cc

pub lock_takes : (p : Phase) (m : MutexNo) → waits_for_lock p m ≡ true → TakesNone p
lock_takes (phase.WaitLock n) m e = λ t i. refl
lock_takes phase.Ready m e = absurd cc
lock_takes phase.Got m e = absurd cc
lock_takes (phase.Taken u) m e = absurd cc
lock_takes (phase.WaitCell u) m e = absurd cc
lock_takes (phase.WaitDup n) m e = absurd cc
lock_takes (phase.WaitJoin u) m e = absurd cc
lock_takes (phase.WaitPar a b) m e = absurd cc
lock_takes (phase.GotPar a b) m e = absurd cc
lock_takes phase.Over m e = absurd cc

pub dup_takes : (p : Phase) (m : MutexNo) → waits_for_dup p m ≡ true → TakesNone p
dup_takes (phase.WaitDup n) m e = λ t i. refl
dup_takes phase.Ready m e = absurd cc
dup_takes phase.Got m e = absurd cc
dup_takes (phase.Taken u) m e = absurd cc
dup_takes (phase.WaitCell u) m e = absurd cc
dup_takes (phase.WaitLock n) m e = absurd cc
dup_takes (phase.WaitJoin u) m e = absurd cc
dup_takes (phase.WaitPar a b) m e = absurd cc
dup_takes (phase.GotPar a b) m e = absurd cc
dup_takes phase.Over m e = absurd cc

pub join_takes : (p : Phase) (v : ℕ) → waits_for_join p v ≡ true → TakesNone p
join_takes (phase.WaitJoin u) v e = λ t i. refl
join_takes phase.Ready v e = absurd cc
join_takes phase.Got v e = absurd cc
join_takes (phase.Taken u) v e = absurd cc
join_takes (phase.WaitCell u) v e = absurd cc
join_takes (phase.WaitLock m) v e = absurd cc
join_takes (phase.WaitDup m) v e = absurd cc
join_takes (phase.WaitPar a b) v e = absurd cc
join_takes (phase.GotPar a b) v e = absurd cc
join_takes phase.Over v e = absurd cc

pub got_takes : TakesNone phase.Got
got_takes t i = refl

-- another phase, gift and walk
pub phase_shows : (code : List Instr) (x : ThreadState) (p : Phase) (v : Option Owned) (ws : List ℕ) → TakesNone x.phase → TakesNone p → ShowsAs code x (record x { phase = p; gift = v; walk = ws })
phase_shows code x p v ws a b = record { number = refl; taking = b x.number (slice_get code x.pc) ∙ sym (a x.number (slice_get code x.pc)); slots = λ i. refl; temps = λ i. refl }

-- AMONG OTHERS

pub thread_changes : {code : List Instr} (n : ℕ) (ts : List ThreadState) (t : ℕ) (x y : ThreadState) (h h2 : List Thing) → thread_in ts t ≡ Some x → y.number ≡ x.number → Alike code (h ++ thread_things n false x) (h2 ++ thread_things n false y)
    → Alike code (h ++ all_standing n ts) (h2 ++ all_standing n (set_thread ts y))
thread_changes n ts t x y h h2 e q a =
    swapped (all_standing n ts) (all_standing n (set_thread ts y)) (thread_things n false x) (thread_things n false y) (all_standing n (without_thread ts t)) h h2
    (taken_alike (thread_things n false) 0 0 (thread_taken ts t x e)) (taken_alike (thread_things n false) 0 0 (thread_set ts t x y e (q ∙ thread_number ts t x e))) a

pub thread_arrives : {code : List Instr} (n : ℕ) (ts : List ThreadState) (y : ThreadState) → Alike code (thread_things n false y ++ all_standing n ts) (all_standing n (with_thread ts y))
thread_arrives n ts y = turned (taken_alike (thread_things n false) 0 0 (thread_comes ts y))

pub thread_leaves : {code : List Instr} (n : ℕ) (ts : List ThreadState) (t : ℕ) (x : ThreadState) → thread_in ts t ≡ Some x → Alike code (all_standing n ts) (thread_things n false x ++ all_standing n (without_thread ts t))
thread_leaves n ts t x e = taken_alike (thread_things n false) 0 0 (thread_taken ts t x e)

-- AT ANOTHER SERVER

shared_alike : {code : List Instr} (l : Location) (r : SharedRef) (b : Bool) → Alike code (shares l r ∷ []) (shares l (record r { pinned = b }) ∷ [])
shared_alike {code = code} l r b = record { on = on; back = back }
  where
    on : (y : Thing) → Among y (shares l r ∷ []) → Seen code (shares l (record r { pinned = b }) ∷ []) y
    on y (inl i) = subst (λ w. Seen code (shares l (record r { pinned = b }) ∷ []) w) i (λ z n m. m)
    on y (inr h) = absurd h

    back : (y : Thing) → Among y (shares l (record r { pinned = b }) ∷ []) → Seen code (shares l r ∷ []) y
    back y (inl i) = subst (λ w. Seen code (shares l r ∷ []) w) i (λ z n m. m)
    back y (inr h) = absurd h

pin_unseen : {code : List Instr} (n : ℕ) (r : SharedRef) → Alike code (pin_things n r) []
pin_unseen {code = code} n r = by r.pinned
  where
    by : (b : Bool) → Alike code (if b then uses n r.word ∷ [] else []) []
    by true = blank (uses n r.word) (λ p e h. h)
    by false = itself []

pub value_alike : {code : List Instr} (n m : ℕ) (p : Spot) (l : Location) (v : Value) → Alike code (value_things n p l v) (value_things m p l (unpinned v))
value_alike n m p l (value.Shared r) = beside {a = shares l r ∷ []} {b = shares l (record r { pinned = false }) ∷ []} (shared_alike l r false) (pin_unseen n r)
value_alike n m p l value.Gone = itself []
value_alike n m p l (value.Own v) = itself (value_things n p l (value.Own v))
value_alike n m p l (value.SharedSlot i) = itself []
value_alike n m p l (value.MutSlot i) = itself []
value_alike n m p l (value.Mut r) = itself (value_things n p l (value.Mut r))
value_alike n m p l (value.Held k) = itself (value_things n p l (value.Held k))

slots_unpinned : {code : List Instr} (n m t i : ℕ) (vs : List Value) → Alike code (things_at (slot_things n t) i vs) (things_at (slot_things m t) i (map unpinned vs))
slots_unpinned n m t i [] = itself []
slots_unpinned n m t i (v ∷ vs) = beside (value_alike n m (in_slot t i) (at_slot t i) v) (slots_unpinned n m t (i + 1) vs)

temps_unpinned : {code : List Instr} (n m t i : ℕ) (vs : List Value) → Alike code (things_at (temp_things n t) i vs) (things_at (temp_things m t) i (map unpinned vs))
temps_unpinned n m t i [] = itself []
temps_unpinned n m t i (v ∷ vs) = beside (value_alike n m (in_temp t i) (at_temp t i) v) (temps_unpinned n m t (i + 1) vs)

unpinned_points : (v : Value) → pointing (Some (unpinned v)) ≡ pointing (Some v)
unpinned_points (value.Shared r) = refl
unpinned_points value.Gone = refl
unpinned_points (value.Own v) = refl
unpinned_points (value.SharedSlot i) = refl
unpinned_points (value.MutSlot i) = refl
unpinned_points (value.Mut r) = refl
unpinned_points (value.Held k) = refl

all_point : (vs : List Value) (i : ℕ) → pointing (slice_get (map unpinned vs) i) ≡ pointing (slice_get vs i)
all_point [] i = refl
all_point (v ∷ vs) zero = unpinned_points v
all_point (v ∷ vs) (suc i) = all_point vs i

all_own : (vs : List Value) (i : ℕ) → owning (slice_get (map unpinned vs) i) ≡ owning (slice_get vs i)
all_own vs i = sym (owning_pointing (slice_get (map unpinned vs) i)) ∙ ap owning (all_point vs i) ∙ owning_pointing (slice_get vs i)

-- a thread that was packed, at another server
pub packed_alike : {code : List Instr} (n m : ℕ) (p q b : Bool) (x : ThreadState) (ws : List ℕ) → Alike code (thread_things n p x) (thread_things m q (record x { walk = ws; slots = map unpinned x.slots; temps = map unpinned x.temps; moved_since_step = b }))
packed_alike n m p q b x ws =
    thread_alike n m p q x (record x { walk = ws; slots = map unpinned x.slots; temps = map unpinned x.temps; moved_since_step = b }) [] []
    (record { number = refl; taking = refl; slots = all_point x.slots; temps = all_own x.temps }) (slots_unpinned n m x.number 0 x.slots) (temps_unpinned n m x.number 0 x.temps) (itself (held_if x.gift))

-- a thread that came, as it was in its parcel
pub arrived_alike : {code : List Instr} (n : ℕ) (p q : Bool) (x : ThreadState) → Alike code (thread_things n p x) (thread_things n q x)
arrived_alike {code = code} n p q x = thread_alike n n p q x x [] [] (shows_itself code x) (itself (slots_of n x)) (itself (temps_of n x)) (itself (held_if x.gift))
