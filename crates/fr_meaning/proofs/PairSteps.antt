-- The start and the end of a pair of threads are steps of the plain state.
use Rattle.std.proofs.Common.{◌≡◌, ℕ, ℤ, zero, suc, ◌<◌, Bool, true, false, List, [], ◌∷◌, ◌++◌, length, get_or, Option, Some, None, refl, sym, ap, ◌∙◌, arith}
use Rattle.std.specs.Prelude.{◌==◌, ◌||◌, IsSome, is_some, option_map, slice_set, if◌then◌else◌}
use Rattle.fr_base.specs.declared.label.Label.TheVariants as label
use Rattle.fr_base.specs.declared.step.Fresh.{Fresh}
use Rattle.fr_base.specs.declared.step.Fresh.TheVariants as fresh
use Rattle.fr_plain.specs.declared.value.Value.{Value}
use Rattle.fr_plain.specs.Acts.{do_par, do_par_end, unit}
use Rattle.fr_plain.specs.Machine as machine
use Rattle.fr_plain.specs.MachineThreads.{Pair, pair_of, without_pair}
use Rattle.fr_plain.specs.Run as run
use Rattle.fr_plain.specs.Run.{Capture, Run, terms, settle, par, par_end, unit_c, Move, Life, life_move}
use Rattle.fr_plain.specs.Threads.{Thread as PlainThread, Passed, pass, with_thread, with_life, is_given, result_in as result_in_plain}
use Rattle.fr_plain.specs.Whole.{Whole, Stepped, thread_at, moved, step_of, step, result_at}
use Rattle.fr_forms.specs.declared.forms.Form.{Form}
use Rattle.fr_shared.specs.Places.{place_of}
use Rattle.fr_shared.proofs.PlaceLemmas.{later_place}
use Rattle.fr_forms.proofs.FormLemmas.{eq_cases}
use Rattle.fr_acts.specs.SlotOrder.{newest_first}
use Rattle.fr_meaning.specs.declared.frame.Frame.{Frame}
use Rattle.fr_meaning.specs.declared.thread.Stage.{Stage}
use Rattle.fr_meaning.specs.declared.thread.Thread.{Thread}
use Rattle.fr_meaning.specs.Beside.{Beside}
use Rattle.fr_meaning.specs.FrameTerms.{wrapped}
use Rattle.fr_meaning.specs.Threads.{run_in, IsGoingOn, is_done, result_in, life_at, thread_of, threads_of, whole, numbers_of}
use Rattle.fr_meaning.proofs.EntryLemmas.{at_same}
use Rattle.fr_meaning.proofs.NextMoves.{frame_moves}
use Rattle.fr_meaning.proofs.StepFacts.{no_some}
use Rattle.fr_meaning.proofs.ThreadLists.{none_there, there_at, set_at, numbers_set}
use Rattle.fr_meaning.proofs.WholeSteps.{life_settles, kept_result, stepped_to}

-- WHAT THE START ASKS FOR

-- two new names, and captures that pass one behind the other
pub record ParGoes (s : Whole) (slots : List Value) (names : Fresh) (cs ds : List Capture) : Type 0 where
  pub first : ℕ
  pub second : ℕ
  pub named : names ≡ fresh.Threads first second
  pub apart : first == second ≡ false
  pub new_first : is_given s first ≡ false
  pub new_second : is_given s second ≡ false
  pub one : Passed
  pub passes : pass cs slots [] ≡ Some one
  pub two : Passed
  pub then_passes : pass ds one.left [] ≡ Some two

pub par_goes : (s : Whole) (x : PlainThread) (m : Move Life) (names : Fresh) (cs ds : List Capture) (p q : Run) → IsSome (machine.two_started terms s x m names cs p ds q) → ParGoes s x.slots names cs ds
par_goes s x m fresh.None cs ds p q h = absurd (no_some {A = Stepped} None refl h)
par_goes s x m (fresh.Thread u) cs ds p q h = absurd (no_some {A = Stepped} None refl h)
par_goes s x m (fresh.Mutex n) cs ds p q h = absurd (no_some {A = Stepped} None refl h)
par_goes s x m (fresh.Threads u v) cs ds p q h = by (u == v) (is_given s u) (is_given s v) (pass cs x.slots []) refl refl refl refl h
  where
    then_by : (one : Passed) (o : Option Passed) → u == v ≡ false → is_given s u ≡ false → is_given s v ≡ false → pass cs x.slots [] ≡ Some one → pass ds one.left [] ≡ o → IsSome (machine.two_with terms s x m u p one.new v q o) → ParGoes s x.slots (fresh.Threads u v) cs ds
    then_by one None a b c d e k = absurd (no_some {A = Stepped} None refl k)
    then_by one (Some two) a b c d e k = record { first = u; second = v; named = refl; apart = a; new_first = b; new_second = c; one = one; passes = d; two = two; then_passes = e }

    by : (e f g : Bool) (o : Option Passed) → u == v ≡ e → is_given s u ≡ f → is_given s v ≡ g → pass cs x.slots [] ≡ o → IsSome (if e || f || g then None else machine.second_of terms s x m u p ds v q o) → ParGoes s x.slots (fresh.Threads u v) cs ds
    by true f g o a b c d k = absurd (no_some {A = Stepped} None refl k)
    by false true g o a b c d k = absurd (no_some {A = Stepped} None refl k)
    by false false true o a b c d k = absurd (no_some {A = Stepped} None refl k)
    by false false false None a b c d k = absurd (no_some {A = Stepped} None refl k)
    by false false false (Some one) a b c d k = then_by one (pass ds one.left []) a b c d refl k

-- THE START

-- two threads more
two_pushed : (fs : List Form) (xs : List Thread) (n k : Thread) → threads_of fs ((xs ++ n ∷ []) ++ k ∷ []) ≡ threads_of fs xs ++ thread_of fs n ∷ thread_of fs k ∷ []
two_pushed fs [] n k = refl
two_pushed fs (x ∷ xs) n k = ap (λ ts. thread_of fs x ∷ ts) (two_pushed fs xs n k)

pub whole_par : (fs : List Form) (xs : List Thread) (beside : Beside) (output : List ℤ) (t i u v : ℕ) (x y n k : Thread) (gs : List Frame) (cs ds : List Capture) (r q : Run) (one two : Passed) →
    place_of (numbers_of xs) t ≡ Some i → x ≡ get_or xs i x → IsGoingOn x.stage → run_in fs x ≡ wrapped fs gs (par cs r ds q) → u == v ≡ false → place_of (numbers_of xs) u ≡ None → place_of (numbers_of xs) v ≡ None →
    pass cs (newest_first x.slots.items) [] ≡ Some one → pass ds one.left [] ≡ Some two → run_in fs y ≡ settle (wrapped fs gs par_end) → y.number ≡ x.number → y.stage ≡ x.stage → newest_first y.slots.items ≡ two.left →
    thread_of fs n ≡ record { number = u; life = run.owing (settle r); slots = one.new } → thread_of fs k ≡ record { number = v; life = run.owing (settle q); slots = two.new } →
    step (whole fs xs beside output) t (fresh.Threads u v) ≡ stepped_to (whole fs ((slice_set xs i y ++ n ∷ []) ++ k ∷ []) (record beside { pairs = record { parent = t; first = u; second = v } ∷ beside.pairs }) output) (label.Start u ∷ label.Start v ∷ [])
whole_par fs xs beside output t i u v x y n k gs cs ds r q one two h is on top apart none_u none_v passes then_passes goes ny gy sy new_n new_k =
    let s = whole fs xs beside output in
    let there = there_at fs xs t i x h is in
    let X = thread_of fs x in
    let m : Move Run = record { act = do_par cs r ds q; plug = λ w. par_end } in
    let M : Move Life = record { act = do_par cs r ds q; plug = λ w. life_at x.stage (wrapped fs gs par_end) } in
    let ours : PlainThread = record { number = u; life = run.owing (settle r); slots = one.new } in
    let theirs : PlainThread = record { number = v; life = run.owing (settle q); slots = two.new } in
    ap (step_of s (fresh.Threads u v)) there.0 ∙ ap (λ z. moved s X (fresh.Threads u v) (life_move (life_at x.stage z))) top
    ∙ ap (moved s X (fresh.Threads u v)) (frame_moves fs gs x.stage (par cs r ds q) m on refl refl)
    ∙ ap (λ e. started M e (is_given s u) (is_given s v)) apart ∙ ap (λ o. started M false (is_some o) (is_given s v)) (none_there fs xs u none_u) ∙ ap (λ o. started M false false (is_some o)) (none_there fs xs v none_v)
    ∙ ap (machine.second_of terms s X M u r ds v q) passes ∙ ap (machine.two_with terms s X M u r one.new v q) then_passes
    ∙ ap (λ l. after x.number (with_thread s.threads (record { number = x.number; life = l; slots = two.left }) ++ ours ∷ theirs ∷ [])) (life_settles x.stage (wrapped fs gs par_end) on ∙ ap (life_at x.stage) (sym goes))
    ∙ ap (λ z. after x.number (with_thread s.threads z ++ ours ∷ theirs ∷ [])) (again x y ny gy sy)
    ∙ ap (λ ts. after x.number (ts ++ ours ∷ theirs ∷ [])) (set_at fs xs t i y h (ny ∙ there.1))
    ∙ ap (λ z. after x.number (threads_of fs (slice_set xs i y) ++ z ∷ theirs ∷ [])) (sym new_n) ∙ ap (λ z. after x.number (threads_of fs (slice_set xs i y) ++ thread_of fs n ∷ z ∷ [])) (sym new_k)
    ∙ ap (after x.number) (sym (two_pushed fs (slice_set xs i y) n k)) ∙ ap (λ p. after p (threads_of fs ((slice_set xs i y ++ n ∷ []) ++ k ∷ []))) there.1
  where
    started : Move Life → Bool → Bool → Bool → Option Stepped
    started m e f g = if e || f || g then None else machine.second_of terms (whole fs xs beside output) (thread_of fs x) m u r ds v q (pass cs (newest_first x.slots.items) [])

    after : ℕ → List PlainThread → Option Stepped
    after p ts = Some (record { state = record { threads = ts; heap = beside.heap; mutexes = beside.mutexes; pairs = record { parent = p; first = u; second = v } ∷ beside.pairs; output = output }; labels = label.Start u ∷ label.Start v ∷ [] })

    parts : ℕ → Stage → List Value → Thread → PlainThread
    parts j g vs y = record { number = j; life = life_at g (run_in fs y); slots = vs }

    again : (x y : Thread) → y.number ≡ x.number → y.stage ≡ x.stage → newest_first y.slots.items ≡ two.left → parts x.number x.stage two.left y ≡ thread_of fs y
    again x y a b c = ap (λ j. parts j x.stage two.left y) (sym a) ∙ ap (λ g. parts y.number g two.left y) (sym b) ∙ ap (λ vs. parts y.number y.stage vs y) (sym c)

-- THE END

-- a thread of the number that stands at its place
numbers_same : (xs : List Thread) (t k : ℕ) (w : Thread) → w.number ≡ t → place_of (numbers_of xs) t ≡ Some k → numbers_of (slice_set xs k w) ≡ numbers_of xs
numbers_same [] t k w e at = absurd cc
numbers_same (x ∷ xs) t k w e at =
    eq_cases (λ b. (if b then Some 0 else option_map (λ i. suc i) (place_of (numbers_of xs) t)) ≡ Some k → numbers_of (slice_set (x ∷ xs) k w) ≡ numbers_of (x ∷ xs)) x.number t
    (λ same g. let z : 0 ≡ k = cc in ap (λ i. numbers_of (slice_set (x ∷ xs) i w)) (sym z) ∙ ap (λ n. n ∷ numbers_of xs) (e ∙ sym same))
    (λ other g. let l = later_place (place_of (numbers_of xs) t) k g in ap (λ i. numbers_of (slice_set (x ∷ xs) i w)) l.2 ∙ ap (λ ns. x.number ∷ ns) (numbers_same xs t l.0 w e l.1)) at

-- what stands at a place after the thread of one was taken is as before but for its stage
pub record LikeBefore (y x : Thread) : Type 0 where
  pub number : y.number ≡ x.number
  pub slots : y.slots ≡ x.slots
  pub over : is_done x.stage ≡ true → is_done y.stage ≡ true

pub like_before : (xs : List Thread) (i k : ℕ) (x w z y : Thread) → x ≡ get_or xs i x → w.number ≡ x.number → w.slots ≡ x.slots → is_done w.stage ≡ true → y ≡ get_or (slice_set xs i w) k y → z ≡ get_or xs k z → k < length xs → LikeBefore y z
like_before [] i k x w z y is n v g at was lt = absurd (omega arith)
like_before (u ∷ xs) zero zero x w z y is n v g at was lt =
    record { number = ap (λ (q : Thread). q.number) at ∙ n ∙ ap (λ (q : Thread). q.number) (is ∙ sym was); slots = ap (λ (q : Thread). q.slots) at ∙ v ∙ ap (λ (q : Thread). q.slots) (is ∙ sym was); over = λ _. ap (λ (q : Thread). is_done q.stage) at ∙ g }
like_before (u ∷ xs) zero (suc k) x w z y is n v g at was lt =
    let same = at_same xs k y z (omega arith) at was in
    record { number = ap (λ (q : Thread). q.number) same; slots = ap (λ (q : Thread). q.slots) same; over = λ e. ap (λ (q : Thread). is_done q.stage) same ∙ e }
like_before (u ∷ xs) (suc i) zero x w z y is n v g at was lt = record { number = ap (λ (q : Thread). q.number) (at ∙ sym was); slots = ap (λ (q : Thread). q.slots) (at ∙ sym was); over = λ e. ap (λ (q : Thread). is_done q.stage) (at ∙ sym was) ∙ e }
like_before (u ∷ xs) (suc i) (suc k) x w z y is n v g at was lt = like_before xs i k x w z y is n v g at was (omega arith)

pub whole_par_end : (fs : List Form) (xs : List Thread) (beside : Beside) (output : List ℤ) (t i j k : ℕ) (p : Pair) (x y a c z w : Thread) (gs : List Frame) (one two : Value) →
    place_of (numbers_of xs) t ≡ Some i → x ≡ get_or xs i x → IsGoingOn x.stage → run_in fs x ≡ wrapped fs gs par_end → pair_of beside.pairs t ≡ Some p →
    place_of (numbers_of xs) p.first ≡ Some j → a ≡ get_or xs j a → result_in a.stage ≡ Some one → thread_of fs c ≡ with_life (thread_of fs a) run.over → c.number ≡ a.number →
    place_of (numbers_of xs) p.second ≡ Some k → z ≡ get_or xs k z → result_in z.stage ≡ Some two → thread_of fs w ≡ with_life (thread_of fs z) run.over → w.number ≡ z.number →
    run_in fs y ≡ settle (wrapped fs gs unit_c) → y.number ≡ x.number → y.stage ≡ x.stage → y.slots.items ≡ x.slots.items →
    step (whole fs xs beside output) t fresh.None ≡ stepped_to (whole fs (slice_set (slice_set (slice_set xs j c) k w) i y) (record beside { pairs = without_pair beside.pairs t }) output) []
whole_par_end fs xs beside output t i j k p x y a c z w gs one two h is on top pair ha isa kept_a over_c nc hz isz kept_z over_w nw goes ny gy sy =
    let s = whole fs xs beside output in
    let there = there_at fs xs t i x h is in
    let first = there_at fs xs p.first j a ha isa in
    let second = there_at fs xs p.second k z hz isz in
    let X = thread_of fs x in
    let m : Move Run = record { act = do_par_end; plug = λ v. unit_c } in
    let M : Move Life = record { act = do_par_end; plug = λ v. life_at x.stage (wrapped fs gs unit_c) } in
    let numbers = numbers_set xs j a c isa nc in
    let one_less = ap (with_thread (threads_of fs xs)) (sym over_c) ∙ set_at fs xs p.first j c ha (nc ∙ first.1) in
    let two_less = ap (with_thread (threads_of fs (slice_set xs j c))) (sym over_w) ∙ set_at fs (slice_set xs j c) p.second k w (ap (λ ns. place_of ns p.second) numbers ∙ hz) (nw ∙ second.1) in
    let last = numbers_same (slice_set xs j c) p.second k w (nw ∙ second.1) (ap (λ ns. place_of ns p.second) numbers ∙ hz) ∙ numbers in
    ap (step_of s fresh.None) there.0 ∙ ap (λ q. moved s X fresh.None (life_move (life_at x.stage q))) top ∙ ap (moved s X fresh.None) (frame_moves fs gs x.stage par_end m on refl refl)
    ∙ ap (λ n. machine.two_joined terms s X M (pair_of beside.pairs n)) there.1 ∙ ap (machine.two_joined terms s X M) pair
    ∙ ap (λ o. machine.two_ended terms s X M p (result_in_plain o) (result_at s.threads p.second)) first.0 ∙ ap (λ o. machine.two_ended terms s X M p o (result_at s.threads p.second)) (kept_result a.stage (run_in fs a) ∙ kept_a)
    ∙ ap (λ o. machine.two_ended terms s X M p (Some one) (result_in_plain o)) second.0 ∙ ap (machine.two_ended terms s X M p (Some one)) (kept_result z.stage (run_in fs z) ∙ kept_z)
    ∙ ap (λ o. ended M (machine.taken terms (machine.taken terms s.threads o) (thread_at s.threads p.second))) first.0 ∙ ap (λ o. ended M (machine.taken terms (with_thread s.threads (with_life (thread_of fs a) run.over)) o)) second.0
    ∙ ap (λ ts. ended M (with_thread ts (with_life (thread_of fs z) run.over))) one_less ∙ ap (ended M) two_less
    ∙ ap (λ l. after (without_pair beside.pairs x.number) (with_thread (threads_of fs (slice_set (slice_set xs j c) k w)) (record { number = x.number; life = l; slots = X.slots }))) (life_settles x.stage (wrapped fs gs unit_c) on ∙ ap (life_at x.stage) (sym goes))
    ∙ ap (λ (q : PlainThread). after (without_pair beside.pairs x.number) (with_thread (threads_of fs (slice_set (slice_set xs j c) k w)) q)) (again x y ny gy sy)
    ∙ ap (after (without_pair beside.pairs x.number)) (set_at fs (slice_set (slice_set xs j c) k w) t i y (ap (λ ns. place_of ns t) last ∙ h) (ny ∙ there.1))
    ∙ ap (λ n. after (without_pair beside.pairs n) (threads_of fs (slice_set (slice_set (slice_set xs j c) k w) i y))) there.1
  where
    after : List Pair → List PlainThread → Option Stepped
    after ps ts = Some (record { state = record { threads = ts; heap = beside.heap; mutexes = beside.mutexes; pairs = ps; output = output }; labels = [] })

    ended : Move Life → List PlainThread → Option Stepped
    ended m ts = after (without_pair beside.pairs x.number) (with_thread ts (record { number = x.number; life = run.settle_life (m.plug unit); slots = newest_first x.slots.items }))

    parts : ℕ → Stage → List Value → Thread → PlainThread
    parts n g vs y = record { number = n; life = life_at g (run_in fs y); slots = newest_first vs }

    again : (x y : Thread) → y.number ≡ x.number → y.stage ≡ x.stage → y.slots.items ≡ x.slots.items → parts x.number x.stage x.slots.items y ≡ thread_of fs y
    again x y a b c = ap (λ n. parts n x.stage x.slots.items y) (sym a) ∙ ap (λ g. parts y.number g x.slots.items y) (sym b) ∙ ap (λ vs. parts y.number y.stage vs y) (sym c)
