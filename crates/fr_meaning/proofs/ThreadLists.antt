-- Threads of the code at their places, and the plain threads that they stand for.
use Rattle.std.proofs.Common.{◌≡◌, ◌≢◌, ℕ, ℤ, zero, suc, ◌+◌, ◌<◌, List, [], ◌∷◌, ◌++◌, length, get_or, Option, Some, None, refl, sym, ap, ◌∙◌, subst, arith}
use Rattle.std.specs.Prelude.{◌==◌, ◌≤◌, true, option_map, slice_set, vec_capacity, if◌then◌else◌}
use Rattle.fr_plain.specs.declared.value.Value.{Value}
use Rattle.fr_base.specs.declared.label.Plain.{Plain}
use Rattle.fr_base.specs.declared.label.Plain.TheVariants as plain
use Rattle.fr_plain.specs.Acts.{end_of}
use Rattle.fr_plain.specs.State.{without}
use Rattle.fr_plain.specs.MachineThreads.{Mutex, thread_released, thread_released_in, release_by, count_both}
use Rattle.fr_plain.specs.Threads.{Thread as PlainThread, Whole, thread_at, with_thread}
use Rattle.fr_forms.specs.declared.forms.Form.{Form}
use Rattle.fr_meaning.specs.declared.thread.Stage.{Stage}
use Rattle.fr_meaning.specs.declared.thread.Stage.TheVariants as stage
use Rattle.fr_meaning.specs.declared.thread.Thread.{Thread}
use Rattle.fr_meaning.specs.declared.frame.TheConstants.{FRAMES}
use Rattle.fr_meaning.specs.declared.frame.Frame.{Frame}
use Rattle.fr_meaning.specs.declared.frame.Focus.{Focus}
use Rattle.fr_meaning.specs.Contexts.{IsSettled}
use Rattle.fr_forms.specs.Depths.{depth}
use Rattle.fr_meaning.specs.FrameTerms.{wrapped, focus_run, AreInside, HasMadeWay}
use Rattle.fr_acts.specs.SlotOrder.{newest_first}
use Rattle.fr_shared.specs.Places.{place_of}
use Rattle.fr_acts.specs.MutexActs.{last_of}
use Rattle.fr_meaning.specs.Beside.{Beside}
use Rattle.fr_meaning.specs.Threads.{run_in, HasRoom, IsGoingOn, IsEnded, is_done, after_end, IsWell, life_at, thread_of, threads_of, whole, numbers_of, AreWell, after_release, released_heap, released_last}
use Rattle.fr_forms.proofs.FormLemmas.{eq_cases}
use Rattle.fr_acts.proofs.ReleaseLemmas.{last_same}
use Rattle.fr_shared.proofs.PlaceLemmas.{later_place}

-- as many numbers as threads
pub length_numbers : (xs : List Thread) → length (numbers_of xs) ≡ length xs
length_numbers [] = refl
length_numbers (x ∷ xs) = ap suc (length_numbers xs)

pub length_threads : (fs : List Form) (xs : List Thread) → length (threads_of fs xs) ≡ length xs
length_threads fs [] = refl
length_threads fs (x ∷ xs) = ap suc (length_threads fs xs)

pub length_set : (xs : List Thread) (i : ℕ) (y : Thread) → length (slice_set xs i y) ≡ length xs
length_set [] i y = refl
length_set (x ∷ xs) zero y = refl
length_set (x ∷ xs) (suc i) y = ap suc (length_set xs i y)

-- a thread by its parts
abbrev by_parts : List Form → ℕ → Stage → List Frame → Focus → List Value → PlainThread
by_parts fs n s gs f vs = record { number = n; life = life_at s (wrapped fs gs (focus_run fs f)); slots = newest_first vs }

-- the same thread at another stage
pub thread_same : (fs : List Form) (x y : Thread) (s : Stage) → y.number ≡ x.number → y.stage ≡ s → y.frames ≡ x.frames → y.focus ≡ x.focus → y.slots ≡ x.slots → thread_of fs y ≡ record { number = x.number; life = life_at s (run_in fs x); slots = newest_first x.slots.items }
thread_same fs x y s a b c d e =
    ap (λ n. by_parts fs n y.stage y.frames.items y.focus y.slots.items) a ∙ ap (λ g. by_parts fs x.number g y.frames.items y.focus y.slots.items) b
    ∙ ap (λ gs. by_parts fs x.number s gs.items y.focus y.slots.items) c ∙ ap (λ f. by_parts fs x.number s x.frames.items f y.slots.items) d ∙ ap (λ vs. by_parts fs x.number s x.frames.items x.focus vs.items) e

-- ROOM

-- what room a thread in progress has, and what it needs
pub room_on : (g : Stage) (n : ℕ) → IsGoingOn g → HasRoom g n → FRAMES ≤ n
room_on stage.Alive n on h = h
room_on stage.Owing n on h = h
room_on stage.Loose n on h = h
room_on stage.Over n on h = absurd on
room_on (stage.Ended v) n on h = absurd on

pub on_room : (g : Stage) (n : ℕ) → IsGoingOn g → FRAMES ≤ n → HasRoom g n
on_room stage.Alive n on h = h
on_room stage.Owing n on h = h
on_room stage.Loose n on h = h
on_room stage.Over n on h = absurd on
on_room (stage.Ended v) n on h = absurd on

-- a thread that has ended has none
pub over_room : (g : Stage) (n : ℕ) → is_done g ≡ true → HasRoom g n → n ≡ 0
over_room stage.Alive n is h = absurd cc
over_room stage.Owing n is h = absurd cc
over_room stage.Loose n is h = absurd cc
over_room stage.Over n is h = h
over_room (stage.Ended v) n is h = h

-- nor does one that ends
pub end_room : (g : Stage) (v : Value) (n : ℕ) → n ≡ 0 → HasRoom (after_end g v) n
end_room stage.Alive v n h = h
end_room stage.Owing v n h = h
end_room stage.Loose v n h = h
end_room stage.Over v n h = h
end_room (stage.Ended u) v n h = h

-- and a thread whose task is dropped keeps what it has
pub release_room : (g : Stage) (n : ℕ) → HasRoom g n → HasRoom (after_release g) n
release_room stage.Alive n h = h
release_room stage.Owing n h = h
release_room stage.Loose n h = h
release_room stage.Over n h = h
release_room (stage.Ended v) n h = h

-- is as well as it was
pub well_same : (fs : List Form) (x y : Thread) → y.frames.items ≡ x.frames.items → y.focus ≡ x.focus → HasRoom y.stage (vec_capacity y.frames) → IsWell fs x → IsWell fs y
well_same fs x y gs d room w =
    let run : run_in fs y ≡ run_in fs x = ap (λ ks. wrapped fs ks (focus_run fs y.focus)) gs ∙ ap (λ f. wrapped fs x.frames.items (focus_run fs f)) d in
    record {
      frames = subst (AreInside (length fs)) (sym gs) w.frames;
      way = subst (λ (ks : List Frame). HasMadeWay fs ks y.focus) (sym gs) (subst (λ (f : Focus). HasMadeWay fs x.frames.items f) (sym d) w.way);
      settled = subst IsSettled (sym run) w.settled;
      depth = omega (arith, ap depth run, w.depth);
      room = room;
    }

-- and where it has ended, and nobody will have its result
pub well_over : (fs : List Form) (x y : Thread) → y.frames ≡ x.frames → y.focus ≡ x.focus → y.stage ≡ stage.Over → is_done x.stage ≡ true → IsWell fs x → IsWell fs y
well_over fs x y c d g is w =
    let none = ap (λ vs. vec_capacity vs) c ∙ over_room x.stage (vec_capacity x.frames) is w.room in
    well_same fs x y (ap (λ vs. vs.items) c) d (subst (λ (s : Stage). HasRoom s (vec_capacity y.frames)) (sym g) none) w

-- a thread without a place isn't there
pub none_there : (fs : List Form) (xs : List Thread) (t : ℕ) → place_of (numbers_of xs) t ≡ None → thread_at (threads_of fs xs) t ≡ None
none_there fs [] t h = refl
none_there fs (x ∷ xs) t h =
    eq_cases (λ b. (if b then Some 0 else option_map (λ k. suc k) (place_of (numbers_of xs) t)) ≡ None → (if b then Some (thread_of fs x) else thread_at (threads_of fs xs) t) ≡ None) x.number t
    (λ same g. absurd cc) (λ other g. none_there fs xs t (by (place_of (numbers_of xs) t) g)) h
  where
    by : (o : Option ℕ) → option_map (λ k. suc k) o ≡ None → o ≡ None
    by None g = refl
    by (Some k) g = cc

-- the thread of a number stands at its place
pub there_at : (fs : List Form) (xs : List Thread) (t i : ℕ) (x : Thread) → place_of (numbers_of xs) t ≡ Some i → x ≡ get_or xs i x → (thread_at (threads_of fs xs) t ≡ Some (thread_of fs x)) × (x.number ≡ t)
there_at fs [] t i x h is = absurd cc
there_at fs (y ∷ xs) t i x h is =
    eq_cases (λ b. (if b then Some 0 else option_map (λ k. suc k) (place_of (numbers_of xs) t)) ≡ Some i → ((if b then Some (thread_of fs y) else thread_at (threads_of fs xs) t) ≡ Some (thread_of fs x)) × (x.number ≡ t)) y.number t
    (λ same g.
    let z : i ≡ 0 = cc in
    let e : x ≡ y = is ∙ ap (λ k. get_or (y ∷ xs) k x) z in
    (ap (λ (u : Thread). Some (thread_of fs u)) (sym e), ap (λ (u : Thread). u.number) e ∙ same))
    (λ other g.
    let l = later_place (place_of (numbers_of xs) t) i g in
    there_at fs xs t l.0 x l.1 (is ∙ ap (λ k. get_or (y ∷ xs) k x) l.2)) h

-- another thread of that number at its place
pub set_at : (fs : List Form) (xs : List Thread) (t i : ℕ) (y : Thread) → place_of (numbers_of xs) t ≡ Some i → y.number ≡ t → with_thread (threads_of fs xs) (thread_of fs y) ≡ threads_of fs (slice_set xs i y)
set_at fs [] t i y h n = refl
set_at fs (x ∷ xs) t i y h n =
    subst (λ (k : ℕ). (if x.number == k then thread_of fs y ∷ threads_of fs xs else thread_of fs x ∷ with_thread (threads_of fs xs) (thread_of fs y)) ≡ threads_of fs (slice_set (x ∷ xs) i y)) (sym n)
    (eq_cases (λ b. (if b then Some 0 else option_map (λ k. suc k) (place_of (numbers_of xs) t)) ≡ Some i → (if b then thread_of fs y ∷ threads_of fs xs else thread_of fs x ∷ with_thread (threads_of fs xs) (thread_of fs y)) ≡ threads_of fs (slice_set (x ∷ xs) i y)) x.number t
    (λ same g. let z : 0 ≡ i = cc in ap (λ k. threads_of fs (slice_set (x ∷ xs) k y)) z)
    (λ other g.
    let l = later_place (place_of (numbers_of xs) t) i g in
    ap (λ (ts : List PlainThread). thread_of fs x ∷ ts) (set_at fs xs t l.0 y l.1 n) ∙ ap (λ k. threads_of fs (slice_set (x ∷ xs) k y)) (sym l.2)) h)

-- the numbers stay
pub numbers_set : (xs : List Thread) (i : ℕ) (x y : Thread) → x ≡ get_or xs i x → y.number ≡ x.number → numbers_of (slice_set xs i y) ≡ numbers_of xs
numbers_set [] i x y is n = refl
numbers_set (u ∷ xs) zero x y is n = ap (λ k. k ∷ numbers_of xs) (n ∙ ap (λ (w : Thread). w.number) is)
numbers_set (u ∷ xs) (suc i) x y is n = ap (λ ks. u.number ∷ ks) (numbers_set xs i x y is n)

-- a thread in progress hasn't ended
stages_differ : (g : Stage) → IsGoingOn g → IsEnded g → ⊥
stages_differ stage.Alive on e = e
stages_differ stage.Owing on e = e
stages_differ stage.Loose on e = e
stages_differ stage.Over on e = e
stages_differ (stage.Ended v) on e = on

-- its result is kept, so it has ended
pub ended_done : (g : Stage) → IsEnded g → is_done g ≡ true
ended_done stage.Alive e = absurd e
ended_done stage.Owing e = absurd e
ended_done stage.Loose e = absurd e
ended_done stage.Over e = refl
ended_done (stage.Ended v) e = refl

-- so that it stands elsewhere
pub places_differ : (xs : List Thread) (i k : ℕ) (z : Thread) → ((x : Thread) → x ≡ get_or xs i x → IsGoingOn x.stage) → z ≡ get_or xs k z → IsEnded z.stage → i ≢ k
places_differ xs i k z on is e = λ same. stages_differ z.stage (on z (is ∙ ap (λ n. get_or xs n z) (sym same))) e

-- what stands elsewhere stays
pub other_at : (xs : List Thread) (i k : ℕ) (z x : Thread) → i ≢ k → x ≡ get_or (slice_set xs k z) i x → x ≡ get_or xs i x
other_at [] i k z x ne is = is
other_at (u ∷ xs) zero zero z x ne is = absurd (ne refl)
other_at (u ∷ xs) zero (suc k) z x ne is = is
other_at (u ∷ xs) (suc i) zero z x ne is = is
other_at (u ∷ xs) (suc i) (suc k) z x ne is = other_at xs i k z x (λ e. ne (ap suc e)) is

-- each thread is well
pub well_at : (fs : List Form) (xs : List Thread) (i : ℕ) (x : Thread) → i < length xs → x ≡ get_or xs i x → AreWell fs xs → IsWell fs x
well_at fs [] i x lt is w = absurd (omega arith)
well_at fs (u ∷ xs) zero x lt is w = subst (IsWell fs) (sym is) w.0
well_at fs (u ∷ xs) (suc i) x lt is w = well_at fs xs i x (omega arith) is w.1

pub well_set : (fs : List Form) (xs : List Thread) (i : ℕ) (y : Thread) → IsWell fs y → AreWell fs xs → AreWell fs (slice_set xs i y)
well_set fs [] i y g w = w
well_set fs (u ∷ xs) zero y g w = (g, w.1)
well_set fs (u ∷ xs) (suc i) y g w = (w.0, well_set fs xs i y g w.1)

-- LETTING GO

-- nothing goes any more
pub none_goes : (s : Whole) (v : Plain) → release_by zero s v ≡ s
none_goes s plain.Nothing = refl
none_goes s plain.Unit = refl
none_goes s (plain.Int n) = refl
none_goes s (plain.Box o) = refl
none_goes s (plain.Task t) = refl
none_goes s (plain.Mutex n) = refl

-- as many as there are
pub count_lengths : (ms : List Mutex) (ts : List PlainThread) → count_both ms ts ≡ length ts + length ms
count_lengths [] ts = omega arith
count_lengths (m ∷ ms) ts = omega (arith, count_lengths ms ts)

-- a thread that isn't there
pub unknown_goes : (n : ℕ) (s : Whole) (t : ℕ) → thread_at s.threads t ≡ None → release_by (suc n) s (plain.Task t) ≡ s
unknown_goes n s t h = ap (thread_released_in (release_by n) s) h

-- a thread that stands there already
with_same : (ts : List PlainThread) (x : PlainThread) → thread_at ts x.number ≡ Some x → with_thread ts x ≡ ts
with_same [] x h = refl
with_same (y ∷ ts) x h =
    eq_cases (λ b. (if b then Some y else thread_at ts x.number) ≡ Some x → (if b then x ∷ ts else y ∷ with_thread ts x) ≡ y ∷ ts) y.number x.number
    (λ same g. let e : x ≡ y = cc in ap (λ (u : PlainThread). u ∷ ts) e)
    (λ other g. ap (λ (us : List PlainThread). y ∷ us) (with_same ts x g)) h

-- the thread with another stage
abbrev pub staged : List Form → Thread → Stage → PlainThread
staged fs x s = record (thread_of fs x) { life = life_at s (run_in fs x) }

-- letting a thread go, by its stage
goes_by : (n : ℕ) (fs : List Form) (s : Whole) (x : Thread) (g : Stage) → x.stage ≡ g → thread_at s.threads x.number ≡ Some (thread_of fs x) →
    thread_released (release_by n) s (thread_of fs x) (life_at g (run_in fs x)) ≡ release_by n (record s { threads = with_thread s.threads (staged fs x (after_release g)); heap = released_heap s.heap g }) (last_of (released_last s.heap g))
goes_by n fs s x stage.Owing e h = refl
goes_by n fs s x (stage.Ended v) e h = sym (last_same n (record s { threads = with_thread s.threads (staged fs x stage.Over); heap = without s.heap v }) (end_of s.heap v))
goes_by n fs s x stage.Alive e h = sym (ap (λ ts. record s { threads = ts }) (ap (λ q. with_thread s.threads (staged fs x q)) (sym e) ∙ with_same s.threads (thread_of fs x) h))
goes_by n fs s x stage.Loose e h = sym (ap (λ ts. record s { threads = ts }) (ap (λ q. with_thread s.threads (staged fs x q)) (sym e) ∙ with_same s.threads (thread_of fs x) h))
goes_by n fs s x stage.Over e h = sym (ap (λ ts. record s { threads = ts }) (ap (λ q. with_thread s.threads (staged fs x q)) (sym e) ∙ with_same s.threads (thread_of fs x) h))

-- one thread more goes
pub one_goes : (n : ℕ) (fs : List Form) (xs : List Thread) (beside : Beside) (output : List ℤ) (t i : ℕ) (x y : Thread) → place_of (numbers_of xs) t ≡ Some i → x ≡ get_or xs i x → y.number ≡ x.number → thread_of fs y ≡ record (thread_of fs x) { life = life_at (after_release x.stage) (run_in fs x) } →
    release_by (suc n) (whole fs xs beside output) (plain.Task t) ≡ release_by n (whole fs (slice_set xs i y) (record beside { heap = released_heap beside.heap x.stage }) output) (last_of (released_last beside.heap x.stage))
one_goes n fs xs beside output t i x y h is m e =
    let there = there_at fs xs t i x h is in
    let here = ap (thread_at (threads_of fs xs)) there.1 ∙ there.0 in
    ap (thread_released_in (release_by n) (whole fs xs beside output)) there.0
    ∙ goes_by n fs (whole fs xs beside output) x x.stage refl here
    ∙ ap (λ ts. release_by n (record { threads = ts; heap = released_heap beside.heap x.stage; mutexes = beside.mutexes; pairs = beside.pairs; output = output }) (last_of (released_last beside.heap x.stage))) (ap (with_thread (threads_of fs xs)) (sym e) ∙ set_at fs xs t i y h (m ∙ there.1))

-- ONE MORE

pub threads_push : (fs : List Form) (xs : List Thread) (y : Thread) → threads_of fs (xs ++ y ∷ []) ≡ threads_of fs xs ++ thread_of fs y ∷ []
threads_push fs [] y = refl
threads_push fs (x ∷ xs) y = ap (λ ts. thread_of fs x ∷ ts) (threads_push fs xs y)

pub numbers_push : (xs : List Thread) (y : Thread) → numbers_of (xs ++ y ∷ []) ≡ numbers_of xs ++ y.number ∷ []
numbers_push [] y = refl
numbers_push (x ∷ xs) y = ap (λ ns. x.number ∷ ns) (numbers_push xs y)

pub well_push : (fs : List Form) (xs : List Thread) (y : Thread) → AreWell fs xs → IsWell fs y → AreWell fs (xs ++ y ∷ [])
well_push fs [] y w h = (h, tt)
well_push fs (x ∷ xs) y w h = (w.0, well_push fs xs y w.1 h)
