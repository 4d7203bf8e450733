-- The threads that a state of many threads starts: a step has names for those that it starts of these.
use Rattle.std.proofs.Common.{◌≡◌, ◌≢◌, ◌≤◌, ℕ, zero, suc, ◌+◌, Bool, true, false, List, [], ◌∷◌, ◌++◌, Option, Some, None, refl, sym, ap, ◌∙◌, arith}
use Rattle.std.specs.Prelude.{◌==◌, ◌||◌, is_some, if◌then◌else◌}
use Rattle.fr_base.specs.declared.label.Label.{Label}
use Rattle.fr_base.specs.declared.label.Label.TheVariants as label
use Rattle.fr_base.specs.declared.label.Plain.{Plain}
use Rattle.fr_base.specs.declared.label.Plain.TheVariants as plain
use Rattle.fr_base.specs.declared.name.MutexNo.{MutexNo}
use Rattle.fr_base.specs.declared.place.Lval.{Lval}
use Rattle.fr_base.specs.declared.step.Fresh.{Fresh}
use Rattle.fr_base.specs.declared.step.Fresh.TheVariants as fresh
use Rattle.fr_plain.specs.declared.value.Value.{Value}
use Rattle.fr_plain.specs.declared.value.Value.TheVariants.{Own, ToSlot, ToObject, Held}
use Rattle.fr_plain.specs.State.{without}
use Rattle.fr_plain.specs.Acts.{Act, do_let, do_read, do_borrow, do_assign, do_box, do_arith, do_print, do_discard, do_drop, do_end, do_spawn, do_join, do_finish, do_leave, do_mutex, do_dup, do_lock, do_unlock, do_par, do_par_end, Did, act, unit, drops_last, end_of}
use Rattle.fr_plain.specs.Run.{Capture, Run, settle, terms, Move, Life, alive, over, owing, loose, ended, settle_life, life_move}
use Rattle.fr_plain.specs.MachineThreads.{Shared, Pair, mutex_at, mutex_there, with_mutex, pair_of, thread_released, thread_released_in, content_gone, share_gone, share_released, release_by, count_both, release}
use Rattle.fr_plain.specs.Machine as machine
use Rattle.fr_plain.specs.Threads.{result_of_life, result_in}
use Rattle.fr_plain.specs.Whole.{Thread, Whole, Stepped, thread_at, with_thread, with_life, is_given, Passed, pass, result_at, prints, stepped, then_released, alone_stepped, started, started_with, joined, joined_with, is_nameless, done_act, moved, step_of, step, state_of}
use Rattle.fr_sound.proofs.Focus.{number_of, with_same, with_other}
use Rattle.fr_typing.proofs.PlaceLemmas.{eq_cases}
use Rattle.law_length_programs.specs.orders.Orders.{named}
use Rattle.law_length_programs.proofs.orders.Births.{births, life_births, born, settle_fewer, life_falls}

-- the threads that these start, with those that these start
abbrev pub total : List Thread → ℕ
total [] = 0
total (x ∷ xs) = life_births x.life + total xs

-- another thread for the one of its number
total_set : (ts : List Thread) (x y : Thread) → thread_at ts y.number ≡ Some x → total (with_thread ts y) + life_births x.life ≡ total ts + life_births y.life
total_set [] x y h = absurd cc
total_set (z ∷ ts) x y h =
    eq_cases (λ b. (if b then Some z else thread_at ts y.number) ≡ Some x → total (if b then y ∷ ts else z ∷ with_thread ts y) + life_births x.life ≡ life_births z.life + total ts + life_births y.life) z.number y.number
    (λ same g. let e : x ≡ z = cc in omega (arith, ap (λ (u : Thread). life_births u.life) e)) (λ other g. omega (arith, total_set ts x y g)) h

-- a thread more
total_push : (ts : List Thread) (y : Thread) → total (ts ++ y ∷ []) ≡ total ts + life_births y.life
total_push [] y = omega arith
total_push (z ∷ ts) y = omega (arith, total_push ts y)

-- the same thread in another life, under the number where it was found
total_life : (ts : List Thread) (t : ℕ) (x : Thread) (l : Life) → thread_at ts t ≡ Some x → total (with_thread ts (with_life x l)) + life_births x.life ≡ total ts + life_births l
total_life ts t x l h = total_set ts x (with_life x l) (ap (thread_at ts) (number_of ts t x h) ∙ h)

-- letting go leaves them, where letting others go does
abbrev Same : (Whole → Plain → Whole) → Type 0
Same go = (s : Whole) (v : Plain) → total (go s v).threads ≡ total s.threads

released_total : (go : Whole → Plain → Whole) → Same go → (s : Whole) (t : ℕ) (x : Thread) (l : Life) → thread_at s.threads t ≡ Some x → x.life ≡ l → total (thread_released go s x l).threads ≡ total s.threads
released_total go same s t x (owing r) h e = omega (arith, total_life s.threads t x (loose r) h, ap life_births e)
released_total go same s t x (ended v) h e =
    let goes = same (record s { threads = with_thread s.threads (with_life x over); heap = without s.heap v }) (end_of s.heap v) in
    omega (arith, goes, total_life s.threads t x over h, ap life_births e)
released_total go same s t x (alive r) h e = refl
released_total go same s t x (loose r) h e = refl
released_total go same s t x over h e = refl

released_in_total : (go : Whole → Plain → Whole) → Same go → (s : Whole) (t : ℕ) (o : Option Thread) → thread_at s.threads t ≡ o → total (thread_released_in go s o).threads ≡ total s.threads
released_in_total go same s t None h = refl
released_in_total go same s t (Some x) h = released_total go same s t x x.life h refl

content_total : (go : Whole → Plain → Whole) → Same go → (s : Whole) (v : Option Plain) → total (content_gone go s v).threads ≡ total s.threads
content_total go same s None = refl
content_total go same s (Some v) = same (record s { heap = without s.heap (Own v) }) (end_of s.heap (Own v))

share_total : (go : Whole → Plain → Whole) → Same go → (s : Whole) (n : MutexNo) (x : Shared) (k : ℕ) → total (share_gone go s n x k).threads ≡ total s.threads
share_total go same s n x zero = content_total go same (record s { mutexes = with_mutex s.mutexes n None }) x.content
share_total go same s n x (suc zero) = content_total go same (record s { mutexes = with_mutex s.mutexes n None }) x.content
share_total go same s n x (suc (suc k)) = refl

shares_total : (go : Whole → Plain → Whole) → Same go → (s : Whole) (n : MutexNo) (x : Option Shared) → total (share_released go s n x).threads ≡ total s.threads
shares_total go same s n None = refl
shares_total go same s n (Some x) = share_total go same s n x x.shares

goes_total : (n : ℕ) → Same (release_by n)
goes_total n s plain.Nothing = refl
goes_total n s plain.Unit = refl
goes_total n s (plain.Int i) = refl
goes_total n s (plain.Box o) = refl
goes_total zero s (plain.Task t) = refl
goes_total (suc n) s (plain.Task t) = released_in_total (release_by n) (goes_total n) s t (thread_at s.threads t) refl
goes_total zero s (plain.Mutex m) = refl
goes_total (suc n) s (plain.Mutex m) = shares_total (release_by n) (goes_total n) s m (mutex_there s.mutexes m)

-- what a step leaves, with what it names
abbrev Falls : Fresh → Whole → Option Stepped → Type 0
Falls names s o = (x : Stepped) → o ≡ Some x → total x.state.threads + named names ≤ total s.threads

same_stepped : (a b : Stepped) → Some a ≡ Some b → a ≡ b
same_stepped a b h = cc

-- by the state that it leaves
falls_to : (names : Fresh) (s : Whole) (new : Stepped) → total new.state.threads + named names ≤ total s.threads → Falls names s (Some new)
falls_to names s new h x e = let same = ap (λ (y : Stepped). total y.state.threads) (sym (same_stepped new x e)) in omega (arith, same, h)

none_falls : (names : Fresh) (s : Whole) → Falls names s None
none_falls names s x e = absurd cc

-- under names that it takes
if_falls : (names : Fresh) (s : Whole) (o : Option Stepped) → Falls fresh.None s o → Falls names s (if is_nameless names then o else None)
if_falls fresh.None s o h = h
if_falls (fresh.Thread u) s o h = none_falls (fresh.Thread u) s
if_falls (fresh.Threads u w) s o h = none_falls (fresh.Threads u w) s
if_falls (fresh.Mutex m) s o h = none_falls (fresh.Mutex m) s

-- of the thread that was found, whose move it is
record IsMove (s : Whole) (t : Thread) (m : Move Life) : Type 0 where
  found : thread_at s.threads t.number ≡ Some t
  is : life_move t.life ≡ Some m

-- an act that a thread does alone
own_falls : (s : Whole) (t : Thread) (m : Move Life) (a : Act) → IsMove s t m → m.act ≡ a → born a ≡ 0 → Falls fresh.None s (alone_stepped s t m a)
own_falls s t m a i same none = by (act a (state_of s t))
  where
    by : (d : Option Did) → Falls fresh.None s (then_released (drops_last a (state_of s t)) (stepped s t m d))
    by None = none_falls fresh.None s
    by (Some d) =
        let new : Thread = record { number = t.number; life = settle_life (m.plug d.value); slots = d.state.slots } in
        let after : Whole = record s { threads = with_thread s.threads new; heap = d.state.heap; output = s.output ++ prints d.labels } in
        let last = drops_last a (state_of s t) in
        let fall = life_falls t.life m d.value i.is in
        falls_to fresh.None s (record { state = release after last; labels = d.labels })
        (omega (arith, goes_total (count_both after.mutexes after.threads) after last, total_set s.threads t new i.found, fall, ap born same, none))

-- a start gives the new thread those that it starts
start_falls : (s : Whole) (t : Thread) (m : Move Life) (names : Fresh) (r : Run) (pass : List Value → Option Passed) → IsMove s t m → born m.act ≡ births r + 1 → Falls names s (started s t m names r pass)
start_falls s t m fresh.None r pass i e = none_falls fresh.None s
start_falls s t m (fresh.Threads u w) r pass i e = none_falls (fresh.Threads u w) s
start_falls s t m (fresh.Mutex n) r pass i e = none_falls (fresh.Mutex n) s
start_falls s t m (fresh.Thread u) r pass i e = by (is_given s u) (pass t.slots)
  where
    by : (b : Bool) (o : Option Passed) → Falls (fresh.Thread u) s (if b then None else started_with s t m r u o)
    by true o = none_falls (fresh.Thread u) s
    by false None = none_falls (fresh.Thread u) s
    by false (Some p) =
        let new : Thread = record { number = t.number; life = settle_life (m.plug (Own (plain.Task u))); slots = p.left } in
        let child : Thread = record { number = u; life = owing (settle r); slots = p.new } in
        falls_to (fresh.Thread u) s (record { state = record s { threads = with_thread s.threads new ++ child ∷ [] }; labels = label.Start u ∷ [] })
        (omega (arith, total_push (with_thread s.threads new) child, total_set s.threads t new i.found, life_falls t.life m (Own (plain.Task u)) i.is, e, settle_fewer r))

-- a thread whose result is kept makes no move
kept_stops : (l : Life) (v : Value) (m : Move Life) → result_of_life l ≡ Some v → life_move l ≡ Some m → ⊥
kept_stops (alive r) v m h e = cc
kept_stops over v m h e = cc
kept_stops (owing r) v m h e = cc
kept_stops (loose r) v m h e = cc
kept_stops (ended u) v m h e = cc

-- and starts none
kept_left : (l : Life) (v : Value) → result_of_life l ≡ Some v → life_births l ≡ 0
kept_left (alive r) v h = absurd cc
kept_left over v h = refl
kept_left (owing r) v h = absurd cc
kept_left (loose r) v h = absurd cc
kept_left (ended u) v h = refl

thread_same : (a b : Thread) → Some a ≡ Some b → a ≡ b
thread_same a b h = cc

-- a join
join_falls : (s : Whole) (t : Thread) (m : Move Life) (u : ℕ) → IsMove s t m → born m.act ≡ 0 → (o : Option Thread) → thread_at s.threads u ≡ o → (w : Option Value) → result_in o ≡ w → Falls fresh.None s (joined_with s t m o w)
join_falls s t m u i none None h w e = none_falls fresh.None s
join_falls s t m u i none (Some x) h None e = none_falls fresh.None s
join_falls s t m u i none (Some x) h (Some v) e =
    let new : Thread = record { number = t.number; life = settle_life (m.plug v); slots = t.slots } in
    let other = with_life x over in
    let ne : t.number ≢ x.number = λ same. kept_stops x.life v m e (ap (λ (y : Thread). life_move y.life) (thread_same x t (sym h ∙ ap (thread_at s.threads) (sym (number_of s.threads u x h) ∙ sym same) ∙ i.found)) ∙ i.is) in
    let found = with_other s.threads other t.number ne ∙ i.found in
    falls_to fresh.None s (record { state = record s { threads = with_thread (with_thread s.threads other) new }; labels = [] })
    (omega (arith, total_set (with_thread s.threads other) t new found, total_life s.threads u x over h, kept_left x.life v e, life_falls t.life m v i.is, none))

-- by the value that is joined
joined_falls : (s : Whole) (t : Thread) (m : Move Life) (v : Value) → IsMove s t m → born m.act ≡ 0 → Falls fresh.None s (joined s t m v)
joined_falls s t m (Own (plain.Task u)) i e = join_falls s t m u i e (thread_at s.threads u) refl (result_at s.threads u) refl
joined_falls s t m (Own plain.Nothing) i e = none_falls fresh.None s
joined_falls s t m (Own plain.Unit) i e = none_falls fresh.None s
joined_falls s t m (Own (plain.Int n)) i e = none_falls fresh.None s
joined_falls s t m (Own (plain.Box o)) i e = none_falls fresh.None s
joined_falls s t m (Own (plain.Mutex n)) i e = none_falls fresh.None s
joined_falls s t m (ToSlot n) i e = none_falls fresh.None s
joined_falls s t m (ToObject o) i e = none_falls fresh.None s
joined_falls s t m (Held o) i e = none_falls fresh.None s

-- GOING ON WITH OTHER SLOTS

-- the thread's step is one of its own
goes_on_falls : (s : Whole) (t : Thread) (m : Move Life) (v : Value) (slots : List Value) → IsMove s t m → born m.act ≡ 0 → total (machine.goes_on terms s t m v slots).threads ≤ total s.threads
goes_on_falls s t m v slots i none = omega (arith, total_set s.threads t (record { number = t.number; life = settle_life (m.plug v); slots = slots }) i.found, life_falls t.life m v i.is, none)

-- a new mutex
made_falls : (s : Whole) (t : Thread) (m : Move Life) (names : Fresh) (v : Value) → IsMove s t m → born m.act ≡ 0 → Falls names s (machine.made terms s t m names v)
made_falls s t m (fresh.Mutex n) (Own v) i none = by (is_some (mutex_at s.mutexes n))
  where
    by : (b : Bool) → Falls (fresh.Mutex n) s (if b then None else Some (record { state = record (machine.goes_on terms s t m (Own (plain.Mutex n)) t.slots) { mutexes = s.mutexes ++ record { number = n; there = Some (record { content = Some v; shares = 1 }) } ∷ [] }; labels = [] }))
    by true = none_falls (fresh.Mutex n) s
    by false = falls_to (fresh.Mutex n) s _ (let l = goes_on_falls s t m (Own (plain.Mutex n)) t.slots i none in omega (arith, l))
made_falls s t m (fresh.Mutex n) (ToSlot k) i none = none_falls (fresh.Mutex n) s
made_falls s t m (fresh.Mutex n) (ToObject o) i none = none_falls (fresh.Mutex n) s
made_falls s t m (fresh.Mutex n) (Held o) i none = none_falls (fresh.Mutex n) s
made_falls s t m fresh.None v i none = none_falls fresh.None s
made_falls s t m (fresh.Thread u) v i none = none_falls (fresh.Thread u) s
made_falls s t m (fresh.Threads u w) v i none = none_falls (fresh.Threads u w) s

-- what is done at a mutex
at_falls : (s : Whole) (t : Thread) (w : Lval) (go : MutexNo → List Label → Shared → Option Stepped) → ((n : MutexNo) (ls : List Label) (x : Shared) → Falls fresh.None s (go n ls x)) → Falls fresh.None s (machine.at_place terms s t w go)
at_falls s t w go h = by (machine.mutex_behind (state_of s t) w)
  where
    there : (o : Option Shared) (n : MutexNo) (ls : List Label) → Falls fresh.None s (machine.where_there terms o (go n ls))
    there None n ls = none_falls fresh.None s
    there (Some x) n ls = h n ls x

    by : (o : Option (MutexNo × List Label)) → Falls fresh.None s (machine.at_mutex terms s o go)
    by None = none_falls fresh.None s
    by (Some p) = there (mutex_there s.mutexes p.0) p.0 p.1

-- a lock, where the content is in
locked_falls : (s : Whole) (t : Thread) (m : Move Life) (n : MutexNo) (ls : List Label) (x : Shared) → IsMove s t m → born m.act ≡ 0 → (o : Option Plain) → Falls fresh.None s (machine.locked_with terms s t m n ls x o)
locked_falls s t m n ls x i none None = none_falls fresh.None s
locked_falls s t m n ls x i none (Some v) = falls_to fresh.None s _ (let l = goes_on_falls s t m unit (Own v ∷ Held n ∷ t.slots) i none in omega (arith, l))

-- giving back a content leaves them
given_total : (s : Whole) (n : MutexNo) (v : Plain) (x : Option Shared) → total (machine.given_back terms s n v x).threads ≡ total s.threads
given_total s n v (Some x) = refl
given_total s n v None = let after : Whole = record s { heap = without s.heap (Own v) } in goes_total (count_both after.mutexes after.threads) after (end_of s.heap (Own v))

unlocked_falls : (s : Whole) (t : Thread) (m : Move Life) → IsMove s t m → born m.act ≡ 0 → (slots : List Value) → Falls fresh.None s (machine.unlocked terms s t m slots)
unlocked_falls s t m i none (Own v ∷ Held n ∷ rest) =
    falls_to fresh.None s _ (let after = machine.goes_on terms s t m unit rest in omega (arith, given_total after n v (mutex_there s.mutexes n), goes_on_falls s t m unit rest i none))
unlocked_falls s t m i none _ = none_falls fresh.None s

-- PAIRS

-- the start of a pair gives both threads those that they start
two_falls : (s : Whole) (t : Thread) (m : Move Life) (a : ℕ) (p : Run) (first : List Value) (b : ℕ) (q : Run) → IsMove s t m → born m.act ≡ births p + births q + 2 → (o : Option Passed) → Falls (fresh.Threads a b) s (machine.two_with terms s t m a p first b q o)
two_falls s t m a p first b q i e None = none_falls (fresh.Threads a b) s
two_falls s t m a p first b q i e (Some x) =
    let new : Thread = record { number = t.number; life = settle_life (m.plug unit); slots = x.left } in
    let ours : Thread = record { number = a; life = owing (settle p); slots = first } in
    let theirs : Thread = record { number = b; life = owing (settle q); slots = x.new } in
    let ts = with_thread s.threads new in
    falls_to (fresh.Threads a b) s _
    (omega (arith, total_two ts ours theirs, total_set s.threads t new i.found, life_falls t.life m unit i.is, e, settle_fewer p, settle_fewer q))
  where
    total_two : (ts : List Thread) (x y : Thread) → total (ts ++ x ∷ y ∷ []) ≡ total ts + life_births x.life + life_births y.life
    total_two [] x y = omega arith
    total_two (z ∷ ts) x y = omega (arith, total_two ts x y)

pair_falls : (s : Whole) (t : Thread) (m : Move Life) (names : Fresh) (cs : List Capture) (p : Run) (ds : List Capture) (q : Run) → IsMove s t m → born m.act ≡ births p + births q + 2 → Falls names s (machine.two_started terms s t m names cs p ds q)
pair_falls s t m fresh.None cs p ds q i e = none_falls fresh.None s
pair_falls s t m (fresh.Thread u) cs p ds q i e = none_falls (fresh.Thread u) s
pair_falls s t m (fresh.Mutex n) cs p ds q i e = none_falls (fresh.Mutex n) s
pair_falls s t m (fresh.Threads a b) cs p ds q i e = by (a == b || is_given s a || is_given s b) (pass cs t.slots [])
  where
    by : (c : Bool) (o : Option Passed) → Falls (fresh.Threads a b) s (if c then None else machine.second_of terms s t m a p ds b q o)
    by true o = none_falls (fresh.Threads a b) s
    by false None = none_falls (fresh.Threads a b) s
    by false (Some x) = two_falls s t m a p x.new b q i e (pass ds x.left [])

-- a thread that moves is none whose result is kept
not_kept : (s : Whole) (t : Thread) (m : Move Life) (u : ℕ) (v : Value) → IsMove s t m → (o : Option Thread) → thread_at s.threads u ≡ o → result_in o ≡ Some v → (x : Thread) → o ≡ Some x → t.number ≢ x.number
not_kept s t m u v i o h e x is same =
    let found : thread_at s.threads u ≡ Some x = h ∙ is in
    kept_stops x.life v m (sym (ap result_in is) ∙ e) (ap (λ (y : Thread). life_move y.life) (thread_same x t (sym found ∙ ap (thread_at s.threads) (sym (number_of s.threads u x found) ∙ sym same) ∙ i.found)) ∙ i.is)

-- taking one leaves the others
taken_other : (ts : List Thread) (o : Option Thread) (n : ℕ) → ((x : Thread) → o ≡ Some x → n ≢ x.number) → thread_at (machine.taken terms ts o) n ≡ thread_at ts n
taken_other ts None n h = refl
taken_other ts (Some x) n h = with_other ts (with_life x over) n (h x refl)

-- a thread whose result is kept is taken
taken_total : (ts : List Thread) (u : ℕ) (v : Value) → (o : Option Thread) → thread_at ts u ≡ o → result_in o ≡ Some v → total (machine.taken terms ts o) ≡ total ts
taken_total ts u v None h e = refl
taken_total ts u v (Some x) h e = omega (arith, total_life ts u x over h, kept_left x.life v e)

-- and another one after it, or the same again
taken_again : (ts : List Thread) (u w : ℕ) (v : Value) (a o : Option Thread) → thread_at ts u ≡ a → thread_at ts w ≡ o → result_in o ≡ Some v → total (machine.taken terms (machine.taken terms ts a) o) ≡ total (machine.taken terms ts a)
taken_again ts u w v None o f h e = taken_total ts w v o h e
taken_again ts u w v (Some z) None f h e = refl
taken_again ts u w v (Some z) (Some y) f h e =
    let one = with_life z over in
    let rest = with_thread ts one in
    let there : thread_at ts y.number ≡ Some y = ap (thread_at ts) (number_of ts w y h) ∙ h in
    eq_cases (λ b. total (with_thread rest (with_life y over)) ≡ total rest) y.number z.number
    (λ same. omega (arith, total_set rest one (with_life y over) (ap (thread_at rest) same ∙ with_same ts z one (ap (thread_at ts) (number_of ts u z f) ∙ f))))
    (λ ne. omega (arith, total_set rest y (with_life y over) (with_other ts one y.number ne ∙ there), kept_left y.life v e))

-- the end of a pair
two_ended_falls : (s : Whole) (t : Thread) (m : Move Life) (p : Pair) → IsMove s t m → born m.act ≡ 0 → (v w : Option Value) → result_at s.threads p.first ≡ v → result_at s.threads p.second ≡ w → Falls fresh.None s (machine.two_ended terms s t m p v w)
two_ended_falls s t m p i none None w h g = none_falls fresh.None s
two_ended_falls s t m p i none (Some v) None h g = none_falls fresh.None s
two_ended_falls s t m p i none (Some v) (Some w) h g =
    let a = thread_at s.threads p.first in
    let b = thread_at s.threads p.second in
    let new : Thread = record { number = t.number; life = settle_life (m.plug unit); slots = t.slots } in
    let found = taken_other (machine.taken terms s.threads a) b t.number (not_kept s t m p.second w i b refl g) ∙ taken_other s.threads a t.number (not_kept s t m p.first v i a refl h) ∙ i.found in
    falls_to fresh.None s _
    (omega (arith, total_set (machine.pair_over terms s p) t new found, life_falls t.life m unit i.is, none, taken_total s.threads p.first v a refl h, taken_again s.threads p.first p.second w a b refl refl g))

two_joined_falls : (s : Whole) (t : Thread) (m : Move Life) (o : Option Pair) → IsMove s t m → born m.act ≡ 0 → Falls fresh.None s (machine.two_joined terms s t m o)
two_joined_falls s t m None i none = none_falls fresh.None s
two_joined_falls s t m (Some p) i none = two_ended_falls s t m p i none (result_at s.threads p.first) (result_at s.threads p.second) refl refl

-- by the act
act_falls : (s : Whole) (t : Thread) (names : Fresh) (m : Move Life) (a : Act) → IsMove s t m → m.act ≡ a → Falls names s (done_act s t names m a)
act_falls s t names m (do_spawn cs r) i e = start_falls s t m names r (λ slots. pass cs slots []) i (ap born e)
act_falls s t names m (do_join v) i e = if_falls names s (joined s t m v) (joined_falls s t m v i (ap born e))
act_falls s t names m (do_let v) i e = if_falls names s (alone_stepped s t m (do_let v)) (own_falls s t m (do_let v) i e refl)
act_falls s t names m (do_read w take) i e = if_falls names s (alone_stepped s t m (do_read w take)) (own_falls s t m (do_read w take) i e refl)
act_falls s t names m (do_borrow w is_mut) i e = if_falls names s (alone_stepped s t m (do_borrow w is_mut)) (own_falls s t m (do_borrow w is_mut) i e refl)
act_falls s t names m (do_assign w v) i e = if_falls names s (alone_stepped s t m (do_assign w v)) (own_falls s t m (do_assign w v) i e refl)
act_falls s t names m (do_box v) i e = if_falls names s (alone_stepped s t m (do_box v)) (own_falls s t m (do_box v) i e refl)
act_falls s t names m (do_arith f v w) i e = if_falls names s (alone_stepped s t m (do_arith f v w)) (own_falls s t m (do_arith f v w) i e refl)
act_falls s t names m (do_print v) i e = if_falls names s (alone_stepped s t m (do_print v)) (own_falls s t m (do_print v) i e refl)
act_falls s t names m (do_discard v) i e = if_falls names s (alone_stepped s t m (do_discard v)) (own_falls s t m (do_discard v) i e refl)
act_falls s t names m do_drop i e = if_falls names s (alone_stepped s t m do_drop) (own_falls s t m do_drop i e refl)
act_falls s t names m (do_end v) i e = if_falls names s (alone_stepped s t m (do_end v)) (own_falls s t m (do_end v) i e refl)
act_falls s t names m (do_finish v) i e = if_falls names s (alone_stepped s t m (do_finish v)) (own_falls s t m (do_finish v) i e refl)
act_falls s t names m (do_leave v) i e = if_falls names s (alone_stepped s t m (do_leave v)) (own_falls s t m (do_leave v) i e refl)
act_falls s t names m (do_mutex v) i e = made_falls s t m names v i (ap born e)
act_falls s t names m (do_dup w) i e = if_falls names s (machine.at_place terms s t w (machine.shared terms s t m)) (at_falls s t w (machine.shared terms s t m) (λ n ls x. falls_to fresh.None s _ (let l = goes_on_falls s t m (Own (plain.Mutex n)) t.slots i (ap born e) in omega (arith, l))))
act_falls s t names m (do_lock w) i e = if_falls names s (machine.at_place terms s t w (machine.locked terms s t m)) (at_falls s t w (machine.locked terms s t m) (λ n ls x. locked_falls s t m n ls x i (ap born e) x.content))
act_falls s t names m do_unlock i e = if_falls names s (machine.unlocked terms s t m t.slots) (unlocked_falls s t m i (ap born e) t.slots)
act_falls s t names m (do_par cs r ds q) i e = pair_falls s t m names cs r ds q i (ap born e)
act_falls s t names m do_par_end i e = if_falls names s (machine.two_joined terms s t m (pair_of s.pairs t.number)) (two_joined_falls s t m (pair_of s.pairs t.number) i (ap born e))

-- a step has names for threads that were to be started
pub step_total : (s : Whole) (t : ℕ) (names : Fresh) (x : Stepped) → step s t names ≡ Some x → total x.state.threads + named names ≤ total s.threads
step_total s t names x e = by (thread_at s.threads t) refl x e
  where
    by_move : (y : Thread) (o : Option (Move Life)) → thread_at s.threads t ≡ Some y → life_move y.life ≡ o → Falls names s (moved s y names o)
    by_move y None h e = none_falls names s
    by_move y (Some m) h e = act_falls s y names m m.act (record { found = ap (thread_at s.threads) (number_of s.threads t y h) ∙ h; is = e }) refl

    by : (o : Option Thread) → thread_at s.threads t ≡ o → Falls names s (step_of s names o)
    by None h = none_falls names s
    by (Some y) h = by_move y (life_move y.life) h refl
