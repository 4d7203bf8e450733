-- Temporary values and slots have the forms of their types, so an operand gives a value of its kind, and a variable has one of its type.
use Rattle.std.proofs.Common.{◌≡◌, ℕ, ℤ, zero, suc, ◌+◌, ◌-◌, ◌<◌, true, false, if◌then◌else◌, List, [], ◌∷◌, ◌++◌, length, reverse, Some, is_some, refl, sym, ap, subst, ◌∙◌, arith}
use Rattle.std.specs.Prelude.{slice_get}
use Rattle.std.proofs.lemmas.List.{reverse-append}
use Rattle.law_counts_sums.proofs.Below.fr_typing.PlaceLemmas.{eq_cases}
use Rattle.law_counts_sums.specs.Below.fr_base.Lists.{last_of}
use Rattle.law_counts_sums.specs.Below.fr_base.declared.instruction.Operand.{Operand}
use Rattle.law_counts_sums.specs.Below.fr_typing.Kinds.{Owned as OwnedType, unit, int, box, mutex, task, Kind, own, shared, mutable, view, Piece, whole, copies}
use Rattle.law_counts_sums.specs.Below.fr_typing.Places.{Slot, Env, found, type_at, stars, alike}
use Rattle.law_counts_sums.specs.Below.fr_code.CodeTypes.{Takes, takes_const, takes_unit, takes_pop, is_variable}
use Rattle.law_counts_sums.specs.Below.heap_partition.declared.value.Owned.{Owned}
use Rattle.law_counts_sums.specs.Below.heap_partition.declared.value.Owned.TheVariants as owned
use Rattle.law_counts_sums.specs.Below.fr_base.declared.name.MutexNo.{MutexNo}
use Rattle.law_counts_sums.specs.Below.thread_state.declared.value.Value.{Value}
use Rattle.law_counts_sums.specs.Below.thread_state.declared.value.Value.TheVariants as value
use Rattle.law_counts_sums.specs.Below.server_model.Work.{Hand, with_temps, front_of, pop, pop_owned, pop_int, owned_of, int_of, taken_as, then_some}
use Rattle.law_counts_sums.specs.Below.server_model.Places.{second_of}
use Rattle.law_counts_sums.specs.Below.coherent_memory.Names.{other}
use Rattle.law_words_paths.specs.Below.coherent_types.Names.{NameTypes}
use Rattle.law_words_paths.specs.Below.coherent_types.ClusterTypes.{has_form, is_mark, slot_form, slots_wrong, temps_wrong}
use Rattle.law_counts_sums.proofs.Values.{last_split}
use Rattle.law_words_paths.proofs.paths.Shown.{none_else, at_behind, behind_is}

-- LISTS

stands_at : {X : Type 0} (xs : List X) (i : ℕ) → i < length xs → (v : X) × (slice_get xs i ≡ Some v)
stands_at [] i l = absurd (omega (arith, l))
stands_at (x ∷ xs) zero l = (x, refl)
stands_at (x ∷ xs) (suc i) l = stands_at xs i (omega (arith, l))

some_last : {X : Type 0} (x : X) (xs : List X) → (v : X) × (last_of (x ∷ xs) ≡ Some v)
some_last x xs = stands_at (x ∷ xs) (length (x ∷ xs) - 1) (omega arith)

-- FORMS

-- an owned type is had by an owned value
pub owned_form : (n : NameTypes) (o : OwnedType) (v : Value) → has_form n (whole (own o)) v ≡ true → (x : Owned) × (v ≡ value.Own x)
owned_form n o (value.Own x) e = (x, refl)
owned_form n o _ e = absurd (cc e)

pub int_form : (n : NameTypes) (v : Value) → has_form n (whole (own int)) v ≡ true → (i : ℤ) × (v ≡ value.Own (owned.Int i))
int_form n (value.Own (owned.Int i)) e = (i, refl)
int_form n (value.Own owned.Nothing) e = absurd (cc e)
int_form n (value.Own owned.Unit) e = absurd (cc e)
int_form n (value.Own (owned.Box p)) e = absurd (cc e)
int_form n (value.Own (owned.Mutex m)) e = absurd (cc e)
int_form n (value.Own (owned.Task t)) e = absurd (cc e)
int_form n value.Gone e = absurd (cc e)
int_form n (value.SharedSlot i) e = absurd (cc e)
int_form n (value.MutSlot i) e = absurd (cc e)
int_form n (value.Shared r) e = absurd (cc e)
int_form n (value.Mut r) e = absurd (cc e)
int_form n (value.Held m) e = absurd (cc e)

pub task_form : (n : NameTypes) (o : OwnedType) (v : Value) → has_form n (whole (own (task o))) v ≡ true → (t : ℕ) × (v ≡ value.Own (owned.Task t))
task_form n o (value.Own (owned.Task t)) e = (t, refl)
task_form n o (value.Own owned.Nothing) e = absurd (cc e)
task_form n o (value.Own owned.Unit) e = absurd (cc e)
task_form n o (value.Own (owned.Int i)) e = absurd (cc e)
task_form n o (value.Own (owned.Box p)) e = absurd (cc e)
task_form n o (value.Own (owned.Mutex m)) e = absurd (cc e)
task_form n o value.Gone e = absurd (cc e)
task_form n o (value.SharedSlot i) e = absurd (cc e)
task_form n o (value.MutSlot i) e = absurd (cc e)
task_form n o (value.Shared r) e = absurd (cc e)
task_form n o (value.Mut r) e = absurd (cc e)
task_form n o (value.Held m) e = absurd (cc e)

pub mutex_form : (n : NameTypes) (o : OwnedType) (v : Value) → has_form n (whole (own (mutex o))) v ≡ true → (m : MutexNo) × (v ≡ value.Own (owned.Mutex m))
mutex_form n o (value.Own (owned.Mutex m)) e = (m, refl)
mutex_form n o (value.Own owned.Nothing) e = absurd (cc e)
mutex_form n o (value.Own owned.Unit) e = absurd (cc e)
mutex_form n o (value.Own (owned.Int i)) e = absurd (cc e)
mutex_form n o (value.Own (owned.Box p)) e = absurd (cc e)
mutex_form n o (value.Own (owned.Task t)) e = absurd (cc e)
mutex_form n o value.Gone e = absurd (cc e)
mutex_form n o (value.SharedSlot i) e = absurd (cc e)
mutex_form n o (value.MutSlot i) e = absurd (cc e)
mutex_form n o (value.Shared r) e = absurd (cc e)
mutex_form n o (value.Mut r) e = absurd (cc e)
mutex_form n o (value.Held m) e = absurd (cc e)

-- a type that is copied has values of which there may be a second one
pub second_form : (n : NameTypes) (k : Kind) (v : Value) → copies k ≡ true → has_form n (whole k) v ≡ true → (u : Value) × (second_of v ≡ Some u)
second_form n (own unit) (value.Own owned.Unit) c e = (value.Own owned.Unit, refl)
second_form n (own int) (value.Own (owned.Int i)) c e = (value.Own (owned.Int i), refl)
second_form n (shared us) (value.SharedSlot i) c e = (value.SharedSlot i, refl)
second_form n (shared us) (value.Shared r) c e = (value.Shared (record r { pinned = false }), refl)
second_form n (view o) (value.Shared r) c e = (value.Shared (record r { pinned = false }), refl)
second_form n (own unit) (value.Own owned.Nothing) c e = absurd (cc e)
second_form n (own unit) (value.Own (owned.Int i)) c e = absurd (cc e)
second_form n (own unit) (value.Own (owned.Box p)) c e = absurd (cc e)
second_form n (own unit) (value.Own (owned.Mutex m)) c e = absurd (cc e)
second_form n (own unit) (value.Own (owned.Task t)) c e = absurd (cc e)
second_form n (own int) (value.Own owned.Nothing) c e = absurd (cc e)
second_form n (own int) (value.Own owned.Unit) c e = absurd (cc e)
second_form n (own int) (value.Own (owned.Box p)) c e = absurd (cc e)
second_form n (own int) (value.Own (owned.Mutex m)) c e = absurd (cc e)
second_form n (own int) (value.Own (owned.Task t)) c e = absurd (cc e)
second_form n (own (box o)) v c e = absurd (cc c)
second_form n (own (mutex o)) v c e = absurd (cc c)
second_form n (own (task o)) v c e = absurd (cc c)
second_form n (mutable us) v c e = absurd (cc c)
second_form n k _ c e = absurd (cc e)

-- the hidden slot of a lock has its mark
pub mark_form : (v : Value) → is_mark v ≡ true → (m : MutexNo) × (v ≡ value.Held m)
mark_form (value.Held m) e = (m, refl)
mark_form _ e = absurd (cc e)

-- OPERANDS

-- the value on top, of the kind that typing knows there, and those below it
pub record Top (n : NameTypes) (k : Kind) (ks : List Kind) (vs : List Value) : Type 0 where
  pub item : Value
  pub last : last_of vs ≡ Some item
  pub form : has_form n (whole k) item ≡ true
  pub left : temps_wrong n ks (reverse (front_of vs)) ≡ 0

pub top_of : (n : NameTypes) (k : Kind) (ks : List Kind) (vs : List Value) → temps_wrong n (k ∷ ks) (reverse vs) ≡ 0 → Top n k ks vs
top_of n k ks [] z = absurd (cc z)
top_of n k ks (x ∷ xs) z =
    let vs = x ∷ xs in
    let l = some_last x xs in
    let split : vs ≡ front_of vs ++ l.0 ∷ [] = last_split vs l.0 l.1 in
    let turned : reverse vs ≡ l.0 ∷ reverse (front_of vs) = ap reverse split ∙ reverse-append (front_of vs) (l.0 ∷ []) in
    let both : other (has_form n (whole k) l.0) + temps_wrong n ks (reverse (front_of vs)) ≡ 0 = sym (ap (temps_wrong n (k ∷ ks)) turned) ∙ z in
    record { item = l.0; last = l.1; form = none_else (has_form n (whole k) l.0) (omega (arith, both)); left = omega (arith, both) }

-- an operand takes a value of that kind, and leaves these
pub record Got (n : NameTypes) (o : Operand) (h : Hand) (k : Kind) (us : List Kind) : Type 0 where
  pub item : Value
  pub rest : List Value
  pub pops : pop o h ≡ Some (record { item = item; hand = with_temps rest h })
  pub form : has_form n (whole k) item ≡ true
  pub left : temps_wrong n us (reverse rest) ≡ 0

pub gets : (n : NameTypes) (o : Operand) (ts us : List Kind) (k : Kind) (h : Hand) → Takes o ts k us → temps_wrong n ts (reverse h.thread.temps) ≡ 0 → Got n o h k us
gets n _ ts _ _ h (takes_const {n = i} w) z = record { item = value.Own (owned.Int i); rest = h.thread.temps; pops = refl; form = refl; left = z }
gets n _ ts _ _ h (takes_unit w) z = record { item = value.Own owned.Unit; rest = h.thread.temps; pops = refl; form = refl; left = z }
gets n _ _ us k h (takes_pop w) z =
    let t = top_of n k us h.thread.temps z in
    record { item = t.item; rest = front_of h.thread.temps; pops = ap (λ o. Rattle.std.specs.Prelude.option_map (λ v. record { item = v; hand = with_temps (front_of h.thread.temps) h }) o) t.last; form = t.form; left = t.left }

-- the same where what is taken is an owned value, or an integer
pub got_owned : (n : NameTypes) (o : Operand) (h : Hand) (x : OwnedType) (us : List Kind) (g : Got n o h (own x) us) → (v : Owned) × (g.item ≡ value.Own v) × (pop_owned o h ≡ Some (record { item = v; hand = with_temps g.rest h }))
got_owned n o h x us g =
    let f = owned_form n x g.item g.form in
    (f.0, f.1, ap (λ p. then_some p (taken_as owned_of)) g.pops ∙ ap (λ v. taken_as owned_of (record { item = v; hand = with_temps g.rest h })) f.1)

pub got_int : (n : NameTypes) (o : Operand) (h : Hand) (us : List Kind) (g : Got n o h (own int) us) → (i : ℤ) × (pop_int o h ≡ Some (record { item = i; hand = with_temps g.rest h }))
got_int n o h us g =
    let f = int_form n g.item g.form in
    (f.0, ap (λ p. then_some p (taken_as int_of)) g.pops ∙ ap (λ v. taken_as int_of (record { item = v; hand = with_temps g.rest h })) f.1)

-- VARIABLES

same_length : (n : NameTypes) (e : Env) (vs : List Value) → slots_wrong n e vs ≡ 0 → length e ≡ length vs
same_length n [] [] z = refl
same_length n [] (v ∷ vs) z = absurd (cc z)
same_length n (s ∷ e) [] z = absurd (cc z)
same_length n (s ∷ e) (v ∷ vs) z = ap suc (same_length n e vs (omega (arith, z)))

-- what stands in a variable, of the part that typing gives it
pub record Stands (n : NameTypes) (p : Piece) (vs : List Value) (i : ℕ) : Type 0 where
  pub item : Value
  pub there : slice_get vs i ≡ Some item
  pub form : has_form n p item ≡ true

found_same : {p q : Piece} → found p ≡ found q → p ≡ q
found_same e = cc

behind : (n : NameTypes) (e : Env) (ws : List Value) (i : ℕ) (p : Piece) → slots_wrong n e ws ≡ 0 → is_variable e i ≡ true → type_at e (record { slot = i; depth = 0 }) ≡ found p → (v : Value) × (at_behind ws i ≡ Some v) × (has_form n p v ≡ true)
behind n [] ws i p z named is = absurd (cc named)
behind n (s ∷ e) [] i p z named is = absurd (cc z)
behind n (s ∷ e) (w ∷ ws) i p z named is =
    let lengths = same_length n e ws (omega (arith, z)) in
    let form : slot_form n s (is_some s.name) w ≡ true = none_else (slot_form n s (is_some s.name) w) (omega (arith, z)) in
    eq_cases (λ b. (if b then is_some s.name else is_variable e i) ≡ true → (if b then stars (alike e) (type_at e) 0 s.part else type_at e (record { slot = i; depth = 0 })) ≡ found p → (v : Value) × (at_behind (w ∷ ws) i ≡ Some v) × (has_form n p v ≡ true)) i (length e)
    (λ same name part.
    let whole_form : has_form n s.part w ≡ true = subst (λ b. slot_form n s b w ≡ true) name form in
    let first : at_behind (w ∷ ws) i ≡ Some w = eq_cases (λ b. (if b then Some w else at_behind ws i) ≡ Some w) i (length ws) (λ q. refl) (λ ne. absurd (ne (same ∙ lengths))) in
    (w, first, subst (λ q. has_form n q w ≡ true) (found_same part) whole_form))
    (λ ne name part.
    let r = behind n e ws i p (omega (arith, z)) name part in
    let later : at_behind (w ∷ ws) i ≡ Some r.0 = eq_cases (λ b. (if b then Some w else at_behind ws i) ≡ Some r.0) i (length ws) (λ q. absurd (ne (q ∙ sym lengths))) (λ q. r.1) in
    (r.0, later, r.2))
    named is

pub stands : (n : NameTypes) (e : Env) (vs : List Value) (i : ℕ) (p : Piece) → slots_wrong n e (reverse vs) ≡ 0 → is_variable e i ≡ true → type_at e (record { slot = i; depth = 0 }) ≡ found p → Stands n p vs i
stands n e vs i p z named is = let r = behind n e (reverse vs) i p z named is in record { item = r.0; there = sym (behind_is vs i) ∙ r.1; form = r.2 }

-- the newest slot, of which this is the first
pub record Newest (n : NameTypes) (s : Slot) (e : Env) (vs : List Value) : Type 0 where
  pub item : Value
  pub last : last_of vs ≡ Some item
  pub form : slot_form n s (is_some s.name) item ≡ true
  pub left : slots_wrong n e (reverse (front_of vs)) ≡ 0

pub newest_of : (n : NameTypes) (s : Slot) (e : Env) (vs : List Value) → slots_wrong n (s ∷ e) (reverse vs) ≡ 0 → Newest n s e vs
newest_of n s e [] z = absurd (cc z)
newest_of n s e (x ∷ xs) z =
    let vs = x ∷ xs in
    let l = some_last x xs in
    let split : vs ≡ front_of vs ++ l.0 ∷ [] = last_split vs l.0 l.1 in
    let turned : reverse vs ≡ l.0 ∷ reverse (front_of vs) = ap reverse split ∙ reverse-append (front_of vs) (l.0 ∷ []) in
    let both : other (slot_form n s (is_some s.name) l.0) + slots_wrong n e (reverse (front_of vs)) ≡ 0 = sym (ap (slots_wrong n (s ∷ e)) turned) ∙ z in
    record { item = l.0; last = l.1; form = none_else (slot_form n s (is_some s.name) l.0) (omega (arith, both)); left = omega (arith, both) }
