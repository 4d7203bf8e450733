-- Each order of plain steps is among those that were explored.
use Rattle.std.proofs.Common.{◌≡◌, ◌⊎◌, inl, inr, ℕ, zero, suc, ◌+◌, ◌≤◌, ◌<◌, ◌==◌, ◌&&◌, Bool, true, false, List, [], ◌∷◌, ◌++◌, map, length, Option, Some, None, refl, sym, ap, ◌∙◌, arith, length-append}
use Rattle.std.specs.Prelude.{⊤, ℤ, slice_get, nat_lt, if◌then◌else◌}
use Rattle.std.specs.List.{list_all, flat_map}
use Rattle.std.specs.Option.{option_map}
use Rattle.std.specs.Ordering.{int_eq}
use Rattle.std.proofs.lemmas.List.{length-map}
use Rattle.std.proofs.lemmas.List.Folds.{list_all-append}
use Rattle.std.proofs.lemmas.Bool.{ltb-true, eqb-true}
use Rattle.std.proofs.lemmas.Bool.Decides.{Decides-int_eq}
use Rattle.fr_base.specs.Names.{same_mutex}
use Rattle.fr_base.specs.declared.name.MutexNo.{MutexNo}
use Rattle.fr_base.specs.declared.label.Label.{Label}
use Rattle.fr_base.specs.declared.instruction.Instr.{Instr}
use Rattle.fr_base.specs.declared.step.Fresh.{Fresh}
use Rattle.fr_base.specs.declared.step.Fresh.TheVariants as fresh
use Rattle.fr_base.specs.declared.step.Wait.{Wait}
use Rattle.fr_base.specs.declared.step.Wait.TheVariants as wait
use Rattle.fr_base.specs.declared.step.Ending3.{Ending3}
use Rattle.fr_base.specs.declared.step.Ending3.TheVariants.{Finished, Deadlocked, Going}
use Rattle.fr_typing.proofs.PlaceLemmas.{eq_cases}
use Rattle.fr_plain.specs.MachineThreads.{Moves, life_move, Thread, Whole, thread_at, is_over}
use Rattle.fr_plain.specs.Machine.{Stepped, Turn, Takes, no_name, a_thread, two_threads, a_mutex, takes_name, Refusal, has_ended, waits, name_kind, refused_names, refused_wait, refused_of, refused, waits_for, step_of, step, then_labels, go_on, run, ending_of}
use Rattle.fr_plain.specs.SamePlain.{waits_at}
use Rattle.fr_plain.proofs.RefusedSteps.{none_refused}
use Rattle.fr_code.specs.Steps.{Place, code_moves}
use Rattle.fr_code.specs.Machine.{CodeStepped, code_run, code_start}
use Rattle.law_plain_names.specs.Renamed.{Renaming, turn, whole, stepped, place}
use Rattle.law_plain_names.specs.Explored.{threads_of, mutexes_of, threads_named, mutexes_named, up_to, mutex_no, names_for, goes_on, no_stage, Stage, reached, next_of, next, after, End, same_ending, same_prints, is_at_lock, empty_if, ends, code_stage, all_end, WaitsSo, EndsSo}
use Rattle.law_plain_names.proofs.Steps.{run_renamed}
use Rattle.law_plain_names.proofs.Places.{wait_of, waits_at_renamed, ending_renamed, code_moves_renamed}
use Rattle.law_plain_names.proofs.Left.{bare_renamed, bare_is_empty}
use Rattle.law_plain_names.proofs.Numbered.{number_in, number_found, Within, InOrder, numbered, numbered_once, numbered_in_order}

-- LISTS

both_true : (a b : Bool) → (a && b) ≡ true → (a ≡ true) × (b ≡ true)
both_true true true e = (refl, refl)
both_true true false e = absurd cc
both_true false b e = absurd cc

abbrev In : {A : Type 0} → A → List A → Type 0
In x [] = ⊥
In x (y ∷ ys) = (y ≡ x) ⊎ In x ys

in_all : {A : Type 0} (q : A → Bool) (x : A) (xs : List A) → In x xs → list_all q xs ≡ true → q x ≡ true
in_all q x [] i h = absurd i
in_all q x (y ∷ ys) (inl e) h = ap q (sym e) ∙ (both_true (q y) (list_all q ys) h).0
in_all q x (y ∷ ys) (inr i) h = in_all q x ys i (both_true (q y) (list_all q ys) h).1

parted : {A : Type 0} (q : A → Bool) (xs ys : List A) → list_all q (xs ++ ys) ≡ true → (list_all q xs ≡ true) × (list_all q ys ≡ true)
parted q xs ys h = both_true (list_all q xs) (list_all q ys) (sym (list_all-append q xs ys) ∙ h)

in_flat : {A B : Type 0} (q : B → Bool) (f : A → List B) (x : A) (xs : List A) → In x xs → list_all q (flat_map f xs) ≡ true → list_all q (f x) ≡ true
in_flat q f x [] i h = absurd i
in_flat q f x (y ∷ ys) (inl e) h = ap (λ z. list_all q (f z)) (sym e) ∙ (parted q (f y) (flat_map f ys) h).0
in_flat q f x (y ∷ ys) (inr i) h = in_flat q f x ys i (parted q (f y) (flat_map f ys) h).1

in_map : {A B : Type 0} (f : A → B) (x : A) (xs : List A) → In x xs → In (f x) (map f xs)
in_map f x [] i = absurd i
in_map f x (y ∷ ys) (inl e) = inl (ap f e)
in_map f x (y ∷ ys) (inr i) = inr (in_map f x ys i)

in_left : {A : Type 0} (x : A) (xs ys : List A) → In x xs → In x (xs ++ ys)
in_left x [] ys i = absurd i
in_left x (y ∷ xs) ys (inl e) = inl e
in_left x (y ∷ xs) ys (inr i) = inr (in_left x xs ys i)

in_right : {A : Type 0} (x : A) (xs ys : List A) → In x ys → In x (xs ++ ys)
in_right x [] ys i = i
in_right x (y ∷ xs) ys i = inr (in_right x xs ys i)

in_parts : {A B : Type 0} (f : A → List B) (x : A) (y : B) (xs : List A) → In x xs → In y (f x) → In y (flat_map f xs)
in_parts f x y [] i j = absurd i
in_parts f x y (z ∷ zs) (inl e) j = in_left y (f z) (flat_map f zs) (rw e j)
in_parts f x y (z ∷ zs) (inr i) j = in_right y (f z) (flat_map f zs) (in_parts f x y zs i j)

in_up_to : (t k : ℕ) → t ≤ k → In t (up_to k)
in_up_to t zero le = inl (omega (arith, le))
in_up_to t (suc k) le = eq_cases (λ b. In t (up_to (suc k))) (suc k) t (λ e. inl e) (λ ne. inr (in_up_to t k (omega (arith, le, ne))))

-- NAMES

abbrev Matches : Takes → Fresh → Type 0
Matches no_name fresh.None = ⊤
Matches a_thread (fresh.Thread t) = ⊤
Matches two_threads (fresh.Threads t u) = ⊤
Matches a_mutex (fresh.Mutex m) = ⊤
Matches _ _ = ⊥

in_names : (k m : ℕ) (takes : Takes) (names : Fresh) → Within k m names → Matches takes names → In names (names_for takes k m)
in_names k m no_name fresh.None w h = inl refl
in_names k m a_thread (fresh.Thread t) w h = in_map (λ x. fresh.Thread x) t (up_to k) (in_up_to t k w)
in_names k m two_threads (fresh.Threads t u) w h = in_parts (λ x. map (λ y. fresh.Threads x y) (up_to (suc k))) t (fresh.Threads t u) (up_to k) (in_up_to t k w.0) (in_map (λ y. fresh.Threads t y) u (up_to (suc k)) (in_up_to u (suc k) w.1))
in_names k m a_mutex (fresh.Mutex n) w h =
    let i : In (fresh.Mutex (mutex_no n.count)) (map (λ x. fresh.Mutex (mutex_no x)) (up_to m)) = in_map (λ x. fresh.Mutex (mutex_no x)) n.count (up_to m) (in_up_to n.count m w.count) in
    let e : mutex_no n.count ≡ n = ap (λ (x : ℕ). record { home = x; count = n.count }) (sym w.home) in rw e at i
in_names k m no_name (fresh.Thread t) w h = absurd h
in_names k m no_name (fresh.Threads t u) w h = absurd h
in_names k m no_name (fresh.Mutex n) w h = absurd h
in_names k m a_thread fresh.None w h = absurd h
in_names k m a_thread (fresh.Threads t u) w h = absurd h
in_names k m a_thread (fresh.Mutex n) w h = absurd h
in_names k m two_threads fresh.None w h = absurd h
in_names k m two_threads (fresh.Thread t) w h = absurd h
in_names k m two_threads (fresh.Mutex n) w h = absurd h
in_names k m a_mutex fresh.None w h = absurd h
in_names k m a_mutex (fresh.Thread t) w h = absurd h
in_names k m a_mutex (fresh.Threads t u) w h = absurd h

module _ {P : Type 0} (ms : Moves P) where
  kind_fits : (s : Whole P) (takes : Takes) (names : Fresh) → (refused_names s takes names ≡ Some name_kind → ⊥) → Matches takes names
  kind_fits s no_name fresh.None f = tt
  kind_fits s a_thread (fresh.Thread t) f = tt
  kind_fits s two_threads (fresh.Threads t u) f = tt
  kind_fits s a_mutex (fresh.Mutex n) f = tt
  kind_fits s no_name (fresh.Thread t) f = f refl
  kind_fits s no_name (fresh.Threads t u) f = f refl
  kind_fits s no_name (fresh.Mutex n) f = f refl
  kind_fits s a_thread fresh.None f = f refl
  kind_fits s a_thread (fresh.Threads t u) f = f refl
  kind_fits s a_thread (fresh.Mutex n) f = f refl
  kind_fits s two_threads fresh.None f = f refl
  kind_fits s two_threads (fresh.Thread t) f = f refl
  kind_fits s two_threads (fresh.Mutex n) f = f refl
  kind_fits s a_mutex fresh.None f = f refl
  kind_fits s a_mutex (fresh.Thread t) f = f refl
  kind_fits s a_mutex (fresh.Threads t u) f = f refl

  unmatched : (b : Bool) (w : Option Wait) (other : Option Refusal) → other ≡ Some name_kind → ((why : Refusal) → (if b then Some has_ended else refused_wait w other) ≡ Some why → ⊥) → ⊥
  unmatched true w other e f = f has_ended refl
  unmatched false (Some v) other e f = f (waits v) refl
  unmatched false None other e f = f name_kind e

  -- the names of a step are those that it takes
  names_fit : (s : Whole P) (t : ℕ) (names : Fresh) (x : Thread P) (y : Stepped P) → thread_at s.threads t ≡ Some x → step ms s t names ≡ Some y → Matches (takes_name (life_move ms x.life)) names
  names_fit s t names x y there e =
      kind_fits s (takes_name (life_move ms x.life)) names
      (λ f. unmatched (is_over x.life) (waits_for ms s x) (refused_names s (takes_name (life_move ms x.life)) names) f
      (λ why g.
      let h : refused ms s t names ≡ Some why = ap (refused_of ms s names) there ∙ g in
      let none : step ms s t names ≡ None = none_refused ms s t names why h in cc))

  -- ONE STEP

  abbrev led : Stage P → Fresh → Whole P → Stage P
  led x names s = record { threads = x.threads + length (threads_of names); mutexes = x.mutexes + length (mutexes_of names); state = s }

  found_in : (xs : List (Thread P)) (t : ℕ) (z : Thread P) → thread_at xs t ≡ Some z → In z xs × (z.number ≡ t)
  found_in [] t z = λ e. absurd cc
  found_in (x ∷ xs) t z = eq_cases (λ b. (if b then Some x else thread_at xs t) ≡ Some z → In z (x ∷ xs) × (z.number ≡ t)) x.number t (λ f e. let g : x ≡ z = cc in (inl g, ap (λ (y : Thread P). y.number) (sym g) ∙ f)) (λ ne e. let i = found_in xs t z e in (inr i.0, i.1))

  -- what holds of all stages that one step leads to holds after each step
  stepped_on : (q : Stage P → Bool) (x : Stage P) (t : ℕ) (names : Fresh) (y : Stepped P) → Within x.threads x.mutexes names → step ms x.state t names ≡ Some y → list_all q (next ms x) ≡ true → q (led x names y.state) ≡ true
  stepped_on q x t names y w e h = by (thread_at x.state.threads t) refl
    where
      by : (z : Option (Thread P)) → thread_at x.state.threads t ≡ z → q (led x names y.state) ≡ true
      by None f = let g : step ms x.state t names ≡ None = ap (step_of ms x.state names) f in absurd cc
      by (Some z) f =
          let i = found_in x.state.threads t z f in
          let one : list_all q (next_of ms x z) ≡ true = in_flat q (next_of ms x) z x.state.threads i.0 h in
          let two : list_all q (reached x names (step ms x.state z.number names)) ≡ true =
          in_flat q (λ ns. reached x ns (step ms x.state z.number ns)) names (names_for (takes_name (life_move ms z.life)) x.threads x.mutexes)
          (in_names x.threads x.mutexes (takes_name (life_move ms z.life)) names w (names_fit x.state t names z y f e)) one in
          let same : step ms x.state z.number names ≡ Some y = ap (λ u. step ms x.state u names) i.1 ∙ e in
          let three : list_all q (led x names y.state ∷ []) ≡ true = ap (λ r. list_all q (reached x names r)) (sym same) ∙ two in (both_true (q (led x names y.state)) true three).0

  -- RUNS

  abbrev RunsTo : Option (Stepped P) → Whole P → Type 0
  RunsTo None s = ⊥
  RunsTo (Some d) s = d.state ≡ s

  without_labels : (ls : List Label) (r : Option (Stepped P)) (s : Whole P) → RunsTo (then_labels ls r) s → RunsTo r s
  without_labels ls None s h = h
  without_labels ls (Some d) s h = h

  same_stage : (k j m i : ℕ) (s c : Whole P) → k ≡ j → m ≡ i → s ≡ c → ◌≡◌ {A = Stage P} (record { threads = k; mutexes = m; state = s }) (record { threads = j; mutexes = i; state = c })
  same_stage k j m i s c e f g =
      ap (λ (x : ℕ). record { threads = x; mutexes = m; state = s }) e ∙ ap (λ (x : ℕ). record { threads = j; mutexes = x; state = s }) f ∙ ap (λ (x : Whole P). record { threads = j; mutexes = i; state = x }) g

  abbrev stage_after : Stage P → List Turn → Whole P → Stage P
  stage_after x order s = record { threads = x.threads + length (threads_named order); mutexes = x.mutexes + length (mutexes_named order); state = s }

  -- how far a run has come, and where
  abbrev Comes : ℕ → (Stage P → Bool) → Stage P → List Turn → Whole P → Type 0
  Comes k test x order s = (length order ≡ k) × (test (stage_after x order s) ≡ true)

  module _ (test : Stage P → Bool) (last : (z : Stage P) → test z ≡ true → no_stage (next ms z) ≡ true) where
    nothing_next : (xs : List (Stage P)) → no_stage xs ≡ true → list_all (λ z. false) xs ≡ true
    nothing_next [] e = refl
    nothing_next (x ∷ xs) e = absurd cc

    comes : (k : ℕ) (order : List Turn) (x : Stage P) (s : Whole P) → after ms k test x ≡ true → InOrder x.threads x.mutexes order → RunsTo (run ms x.state order) s → goes_on (ending_of ms s) ≡ false → Comes k test x order s
    comes zero [] x s h w r g =
        (refl, ap test (same_stage (x.threads + 0) x.threads (x.mutexes + 0) x.mutexes s x.state (omega arith) (omega arith) (sym r)) ∙ h)
    comes (suc k) [] x s h w r g =
        let on : goes_on (ending_of ms x.state) ≡ true = (both_true (goes_on (ending_of ms x.state)) (list_all (after ms k test) (next ms x)) h).0 in
        let off : goes_on (ending_of ms x.state) ≡ false = ap (λ c. goes_on (ending_of ms c)) r ∙ g in absurd cc
    comes zero (t ∷ ts) x s h w r g = by (step ms x.state t.0 t.1) refl r
      where
        by : (y : Option (Stepped P)) → step ms x.state t.0 t.1 ≡ y → RunsTo (go_on y (λ c. run ms c ts)) s → Comes zero test x (t ∷ ts) s
        by None e r = absurd r
        by (Some y) e r = let no : false ≡ true = stepped_on (λ z. false) x t.0 t.1 y w.0 e (nothing_next (next ms x) (last x h)) in absurd cc
    comes (suc k) (t ∷ ts) x s h w r g = by (step ms x.state t.0 t.1) refl r (λ z. comes k ts z s)
      where
        by : (y : Option (Stepped P)) → step ms x.state t.0 t.1 ≡ y → RunsTo (go_on y (λ c. run ms c ts)) s
            → ((z : Stage P) → after ms k test z ≡ true → InOrder z.threads z.mutexes ts → RunsTo (run ms z.state ts) s → goes_on (ending_of ms s) ≡ false → Comes k test z ts s) → Comes (suc k) test x (t ∷ ts) s
        by None e r go = absurd r
        by (Some y) e r go =
            let z = led x t.1 y.state in
            let all = (both_true (goes_on (ending_of ms x.state)) (list_all (after ms k test) (next ms x)) h).1 in
            let done = go z (stepped_on (after ms k test) x t.0 t.1 y w.0 e all) w.1 (without_labels y.labels (run ms y.state ts) s r) g in (
              ap suc done.0,
              ap test
                  (same_stage (x.threads + length (threads_named (t ∷ ts))) (z.threads + length (threads_named ts)) (x.mutexes + length (mutexes_named (t ∷ ts))) (z.mutexes + length (mutexes_named ts)) s s
                  (omega (arith, length-append (threads_of t.1) (threads_named ts))) (omega (arith, length-append (mutexes_of t.1) (mutexes_named ts))) refl)
                  ∙ done.1,
            )

-- ENDS

same_end : (a b : Ending3) → same_ending a b ≡ true → b ≡ a
same_end Finished Finished e = refl
same_end Deadlocked Deadlocked e = refl
same_end Finished Deadlocked e = absurd cc
same_end Finished Going e = absurd cc
same_end Deadlocked Finished e = absurd cc
same_end Deadlocked Going e = absurd cc
same_end Going b e = absurd cc

same_numbers : (is js : List ℤ) → same_prints is js ≡ true → js ≡ is
same_numbers [] [] e = refl
same_numbers [] (j ∷ js) e = absurd cc
same_numbers (i ∷ is) [] e = absurd cc
same_numbers (i ∷ is) (j ∷ js) e =
    let p = both_true (int_eq i j) (same_prints is js) e in
    let one : i ≡ j = (Decides-int_eq i j).0 p.0 in ap (λ x. x ∷ js) (sym one) ∙ ap (λ xs. i ∷ xs) (same_numbers is js p.1)

named_alike : (n : Renaming) (order : List Turn) → length (mutexes_named (map (turn n) order)) ≡ length (mutexes_named order)
named_alike n [] = refl
named_alike n ((t, fresh.None) ∷ ts) = named_alike n ts
named_alike n ((t, fresh.Thread u) ∷ ts) = named_alike n ts
named_alike n ((t, fresh.Threads u v) ∷ ts) = named_alike n ts
named_alike n ((t, fresh.Mutex m) ∷ ts) = ap suc (named_alike n ts)

same_is : (m n : MutexNo) → same_mutex m n ≡ true → m ≡ n
same_is m n e = let p = both_true (m.home == n.home) (m.count == n.count) e in ap (λ (h : ℕ). record { home = h; count = m.count }) (eqb-true m.home n.home p.0) ∙ ap (λ (c : ℕ). record { home = n.home; count = c }) (eqb-true m.count n.count p.1)

-- the tests of an end
tests : (a b c d e : Bool) → (a && b && c && d && e) ≡ true → (a ≡ true) × (b ≡ true) × (c ≡ true) × (d ≡ true) × (e ≡ true)
tests true true true true true h = (refl, refl, refl, refl, refl)
tests true true true true false h = absurd cc
tests true true true false e h = absurd cc
tests true true false d e h = absurd cc
tests true false c d e h = absurd cc
tests false b c d e h = absurd cc

module _ {P : Type 0} (ms : Moves P) where
  last_of : (e : End) (z : Stage P) → ends ms e z ≡ true → no_stage (next ms z) ≡ true
  last_of e z h = (tests (same_ending e.ending (ending_of ms z.state)) (same_prints e.prints z.state.output) (is_at_lock e.lock z.mutexes (waits_at ms z.state 0)) (empty_if e.ending z.state) (no_stage (next ms z)) h).4

  to_state : (r : Option (Stepped P)) (d : Stepped P) → r ≡ Some d → RunsTo ms r d.state
  to_state None d e = absurd cc
  to_state (Some x) d e = let f : x ≡ d = cc in ap (λ (y : Stepped P). y.state) f

-- what main waits for under the numbered names is what it waits for
waits_so : (order : List Turn) (lock : Option ℕ) (w : Option Wait) → is_at_lock lock (length (mutexes_named order)) (option_map (wait_of (numbered order) (numbered_once order)) w) ≡ true → WaitsSo lock (mutexes_named order) w
waits_so order None None e = refl
waits_so order None (Some w) e = absurd cc
waits_so order (Some k) None e = absurd cc
waits_so order (Some k) (Some (wait.Join t)) e = absurd cc
waits_so order (Some k) (Some (wait.Par t u)) e = absurd cc
waits_so order (Some k) (Some (wait.Lock m)) e =
    let p = both_true (nat_lt k (length (mutexes_named order))) (same_mutex (number_in (mutexes_named order) m) (mutex_no k)) e in
    let lt : k < length (mutexes_named order) = ltb-true k (length (mutexes_named order)) p.0 in
    let there : slice_get (mutexes_named order) k ≡ Some m = number_found (mutexes_named order) m k (same_is (number_in (mutexes_named order) m) (mutex_no k) p.1) lt in rw there refl

-- each run of a code of which all were explored
pub each_ends_so : (code : List Instr) (n : ℕ) (e : End) → all_end code n e ≡ true → (order : List Turn) (d : CodeStepped) → code_run code code_start order ≡ Some d → goes_on (ending_of (code_moves code) d.state) ≡ false → EndsSo (code_moves code) n e order d.state
each_ends_so code n e h order d r g =
    let ms = code_moves code in
    let names = numbered order in
    let once = numbered_once order in
    let q = place names in
    let moves = code_moves_renamed names once code in
    let s : Whole Place = whole names q d.state in
    let led : run ms code_start (map (turn names) order) ≡ Some (stepped names q d) = run_renamed names once q ms moves code_start order ∙ ap (option_map (stepped names q)) r in
    let going : goes_on (ending_of ms s) ≡ false = ap goes_on (ending_renamed names once q ms moves d.state) ∙ g in
    let x : Stage Place = code_stage in
    let c = comes ms (ends ms e) (last_of ms e) n (map (turn names) order) x s h (numbered_in_order order) (to_state ms (run ms code_start (map (turn names) order)) (stepped names q d) led) going in
    let t = tests (same_ending e.ending (ending_of ms s)) (same_prints e.prints s.output) (is_at_lock e.lock (0 + length (mutexes_named (map (turn names) order))) (waits_at ms s 0)) (empty_if e.ending s) _ c.1 in
    let count : 0 + length (mutexes_named (map (turn names) order)) ≡ length (mutexes_named order) = omega (arith, named_alike names order) in
    let at : is_at_lock e.lock (length (mutexes_named order)) (option_map (wait_of names once) (waits_at ms d.state 0)) ≡ true =
    ap (is_at_lock e.lock (length (mutexes_named order))) (sym (waits_at_renamed names once q ms moves d.state 0)) ∙ ap (λ i. is_at_lock e.lock i (waits_at ms s 0)) (sym count) ∙ t.2 in record {
      steps = sym (length-map order (turn names)) ∙ c.0;
      ending = sym (ending_renamed names once q ms moves d.state) ∙ same_end e.ending (ending_of ms s) t.0;
      prints = same_numbers e.prints s.output t.1;
      lock = waits_so order e.lock (waits_at ms d.state 0) at;
      empty = λ f. bare_is_empty d.state (sym (bare_renamed names once q d.state) ∙ (sym (ap (λ z. empty_if z s) f) ∙ t.3));
    }
