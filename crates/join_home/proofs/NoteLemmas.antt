-- What the entries of a home's map stand for, once one of them is found or changed.
use Rattle.std.proofs.Common.{◌≡◌, ℕ, Bool, true, false, true≢false, not, ◌&&◌, ◌||◌, ◌==◌, cond, if◌then◌else◌, List, [], ◌∷◌, ◌++◌, Option, None, Some, is_some, IsSome, filter, refl, sym, ap, subst, ◌∙◌}
use Rattle.std.specs.List.{AllByRecursion, IsDistinct}
use Rattle.std.specs.Map.{keys_of, lookup, set_value}
use Rattle.std.proofs.lemmas.Bool.{eq-eqb, eqb-true, and_parts}
use Rattle.indexmap.specs.IndexMap.{shift_remove_entry, insert_entry}
use Rattle.join_home.specs.declared.note.Note.{Note}
use Rattle.join_home.specs.declared.note.Note.TheVariants.{Going, Dropped, Ended, Asked, Branch}
use Rattle.join_home.specs.Tasks.{Task, TaskState, task_in, state_in, state_of, with_state, without_task, noted, can_begin, can_begin_pair, has_parent, has_pair, over_of, over_in}
use Rattle.join_home.specs.Notes.{state_by, task_before, tasks_in, state_in_note, half_by, half_in_note, note_in, note_at, half_at, KnowsHalves}

abbrev Entries : Type 0
Entries = List (ℕ × Option Note)

-- the two ways to test a number answer alike
flip : (t k : ℕ) → (t == k) ≡ (k == t)
flip t k = by (t == k) refl (k == t) refl
  where
    by : (a : Bool) → (t == k) ≡ a → (b : Bool) → (k == t) ≡ b → a ≡ b
    by true p true q = refl
    by false p false q = refl
    by true p false q = absurd (true≢false (sym (eq-eqb k t (sym (eqb-true t k p))) ∙ q))
    by false p true q = absurd (true≢false (sym (eq-eqb t k (sym (eqb-true k t q))) ∙ p))

pub some_of : (x : Option Note) → IsSome x → (note : Note) × (x ≡ Some note)
some_of None h = absurd (true≢false (sym h))
some_of (Some note) h = (note, refl)

-- a task before others is one of them
abbrev task : ℕ → Note → Task
task t note = record { thread = t; state = state_by note }

more_before : (k : ℕ) (x : Option Note) (xs ys : List Task) (new : Task) → xs ≡ ys ++ new ∷ [] → task_before k x xs ≡ task_before k x ys ++ new ∷ []
more_before k None xs ys new h = h
more_before k (Some note) xs ys new h = ap (λ zs. task k note ∷ zs) h

module _ (t : ℕ) where
  -- a number without an entry has no task
  absent_task : (es : Entries) → AllByRecursion (λ x. (t == x) ≡ false) (keys_of es) → task_in (tasks_in es) t ≡ None
  absent_task [] a = refl
  absent_task ((k, None) ∷ es) a = absent_task es a.1
  absent_task ((k, Some note) ∷ es) a = rw (flip k t, a.0) (absent_task es a.1)

  pub state_found : (es : Entries) → IsDistinct (λ x y. x == y) (keys_of es) → state_in_note (note_at es t) ≡ state_of (tasks_in es) t
  unfolding IsDistinct
  state_found [] d = refl
  state_found ((k, None) ∷ es) d = by (t == k) refl (state_found es d.1)
    where
      by : (b : Bool) → (t == k) ≡ b → state_in_note (note_at es t) ≡ state_of (tasks_in es) t → state_in_note (note_in (cond b (Some None) (lookup (λ x. t == x) es))) ≡ state_of (tasks_in es) t
      by true p ih = sym (ap state_in (absent_task es (subst (λ z. AllByRecursion (λ x. (z == x) ≡ false) (keys_of es)) (sym (eqb-true t k p)) d.0)))
      by false p ih = ih
  state_found ((k, Some note) ∷ es) d = rw (flip t k) (by (k == t) (state_found es d.1))
    where
      by : (b : Bool) → state_in_note (note_at es t) ≡ state_of (tasks_in es) t
          → state_in_note (note_in (cond b (Some (Some note)) (lookup (λ x. t == x) es))) ≡ state_in (cond b (Some (task k note)) (task_in (tasks_in es) t))
      by true ih = refl
      by false ih = ih

  pub state_set : (es : Entries) (old note : Note) → note_at es t ≡ Some old → tasks_in (set_value (λ k. t == k) es (Some note)) ≡ with_state (tasks_in es) t (state_by note)
  state_set [] old note h = absurd cc
  state_set ((k, None) ∷ es) old note h = by (t == k) refl (state_set es old note)
    where
      by : (b : Bool) → (t == k) ≡ b → (note_at es t ≡ Some old → tasks_in (set_value (λ k. t == k) es (Some note)) ≡ with_state (tasks_in es) t (state_by note))
          → tasks_in (cond b ((k, Some note) ∷ es) ((k, None) ∷ set_value (λ k. t == k) es (Some note))) ≡ with_state (tasks_in es) t (state_by note)
      by true p ih = let m : None ≡ Some old = (rw p at h) in absurd cc
      by false p ih = ih (rw p at h)
  state_set ((k, Some was) ∷ es) old note h = rw (flip t k) (by (k == t) refl (state_set es old note))
    where
      by : (b : Bool) → (k == t) ≡ b → (note_at es t ≡ Some old → tasks_in (set_value (λ k. t == k) es (Some note)) ≡ with_state (tasks_in es) t (state_by note))
          → tasks_in (cond b ((k, Some note) ∷ es) ((k, Some was) ∷ set_value (λ k. t == k) es (Some note))) ≡ cond b (task t note ∷ tasks_in es) (task k was ∷ with_state (tasks_in es) t (state_by note))
      by true p ih = rw (eqb-true k t p) refl
      by false p ih = ap (λ xs. task k was ∷ xs) (ih (rw (flip t k, p) at h))

  -- where no entry has the number, no task goes
  absent_goes : (es : Entries) → AllByRecursion (λ x. (t == x) ≡ false) (keys_of es) → tasks_in es ≡ without_task (tasks_in es) t
  absent_goes [] a = refl
  absent_goes ((k, None) ∷ es) a = absent_goes es a.1
  absent_goes ((k, Some note) ∷ es) a = rw (flip k t, a.0) (ap (λ xs. task k note ∷ xs) (absent_goes es a.1))

  pub no_task : (es : Entries) → None ≡ lookup (λ k. t == k) es → tasks_in es ≡ without_task (tasks_in es) t
  no_task [] h = refl
  no_task ((k, x) ∷ es) h = by (t == k) refl (no_task es) x
    where
      by : (b : Bool) → (t == k) ≡ b → (None ≡ lookup (λ k. t == k) es → tasks_in es ≡ without_task (tasks_in es) t) → (x : Option Note) → tasks_in ((k, x) ∷ es) ≡ without_task (tasks_in ((k, x) ∷ es)) t
      by true p ih y = let m : None ≡ Some x = (rw p at h) in absurd cc
      by false p ih None = ih (rw p at h)
      by false p ih (Some note) = rw (flip k t, p) (ap (λ xs. task k note ∷ xs) (ih (rw p at h)))

  pub task_goes : (es : Entries) → IsDistinct (λ x y. x == y) (keys_of es) → tasks_in (set_value (λ k. t == k) es None) ≡ without_task (tasks_in es) t
  unfolding IsDistinct
  task_goes [] d = refl
  task_goes ((k, None) ∷ es) d = by (t == k) refl (task_goes es d.1)
    where
      by : (b : Bool) → (t == k) ≡ b → tasks_in (set_value (λ k. t == k) es None) ≡ without_task (tasks_in es) t
          → tasks_in (cond b ((k, None) ∷ es) ((k, None) ∷ set_value (λ k. t == k) es None)) ≡ without_task (tasks_in es) t
      by true p ih = absent_goes es (subst (λ z. AllByRecursion (λ x. (z == x) ≡ false) (keys_of es)) (sym (eqb-true t k p)) d.0)
      by false p ih = ih
  task_goes ((k, Some was) ∷ es) d = rw (flip t k) (by (k == t) (task_goes es d.1))
    where
      by : (b : Bool) → tasks_in (set_value (λ k. t == k) es None) ≡ without_task (tasks_in es) t
          → tasks_in (cond b ((k, None) ∷ es) ((k, Some was) ∷ set_value (λ k. t == k) es None)) ≡ cond b (tasks_in es) (task k was ∷ without_task (tasks_in es) t)
      by true ih = refl
      by false ih = ap (λ xs. task k was ∷ xs) ih

  -- the entry of a thread that has gone can be taken out
  pub gone_goes : (es : Entries) → can_begin (tasks_in es) t ≡ true → tasks_in (shift_remove_entry (λ k. t == k) es) ≡ tasks_in es
  gone_goes [] h = refl
  gone_goes ((k, None) ∷ es) h = by (t == k) (gone_goes es h)
    where
      by : (b : Bool) → tasks_in (shift_remove_entry (λ k. t == k) es) ≡ tasks_in es → tasks_in (cond b es ((k, None) ∷ shift_remove_entry (λ k. t == k) es)) ≡ tasks_in es
      by true ih = refl
      by false ih = ih
  gone_goes ((k, Some was) ∷ es) h = rw (flip t k) (by (k == t) refl (gone_goes es))
    where
      by : (b : Bool) → (k == t) ≡ b → (can_begin (tasks_in es) t ≡ true → tasks_in (shift_remove_entry (λ k. t == k) es) ≡ tasks_in es)
          → tasks_in (cond b es ((k, Some was) ∷ shift_remove_entry (λ k. t == k) es)) ≡ task k was ∷ tasks_in es
      by true p ih = absurd (true≢false (sym (rw p at h)))
      by false p ih = ap (λ xs. task k was ∷ xs) (ih (rw p at h))

  pub task_added : (es : Entries) (note : Note) → lookup (λ k. t == k) es ≡ None → tasks_in (insert_entry (λ x y. x == y) es t (Some note)) ≡ noted (tasks_in es) t (state_by note)
  task_added [] note h = refl
  task_added ((k, x) ∷ es) note h = by (t == k) refl (task_added es note)
    where
      by : (b : Bool) → (t == k) ≡ b → (lookup (λ k. t == k) es ≡ None → tasks_in (insert_entry (λ x y. x == y) es t (Some note)) ≡ noted (tasks_in es) t (state_by note))
          → tasks_in (insert_entry (λ x y. x == y) ((k, x) ∷ es) t (Some note)) ≡ noted (tasks_in ((k, x) ∷ es)) t (state_by note)
      by true p ih = let m : Some x ≡ None = (rw p at h) in absurd cc
      by false p ih = rw p (more_before k x (tasks_in (insert_entry (λ x y. x == y) es t (Some note))) (tasks_in es) (task t note) (ih (rw p at h)))

-- a key that was taken out has no entry
pub gone : (t : ℕ) (es : Entries) (x : Option (Option Note)) → lookup (λ k. t == k) es ≡ cond (t == t) None x → lookup (λ k. t == k) es ≡ None
gone t es x h = (rw (eq-eqb t t refl) at h)

-- entries of threads that have gone can be cleared
pub kept_tasks : (es : Entries) → tasks_in (filter (λ e. is_some e.1) es) ≡ tasks_in es
kept_tasks [] = refl
kept_tasks ((k, None) ∷ es) = kept_tasks es
kept_tasks ((k, Some note) ∷ es) = ap (λ xs. task k note ∷ xs) (kept_tasks es)

abbrev parent_in : Option (ℕ × ℕ) → ℕ
parent_in None = 0
parent_in (Some x) = x.0

-- no key behind an entry is its own
apart : (t k : ℕ) (es : Entries) (note : Note) → AllByRecursion (λ x. (k == x) ≡ false) (keys_of es) → note_at es t ≡ Some note → (t == k) ≡ false
apart t k [] note d h = absurd cc
apart t k (e ∷ es) note d h = by (t == e.0) refl (apart t k es note d.1)
  where
    by : (b : Bool) → (t == e.0) ≡ b → (note_at es t ≡ Some note → (t == k) ≡ false) → (t == k) ≡ false
    by true p ih = rw (eqb-true t e.0 p) (flip e.0 k ∙ d.0)
    by false p ih = ih (rw p at h)

-- the first branch that has ended stands under its number, where no two keys are equal
module _ (p : ℕ) where
  pub over_found : (es : Entries) (t : ℕ) → IsDistinct (λ x y. x == y) (keys_of es) → over_in (tasks_in es) p ≡ Some t → (note : Note) × (note_at es t ≡ Some note) × (over_of p (state_by note) ≡ true)
  unfolding IsDistinct
  over_found [] t d h = absurd cc
  over_found ((k, None) ∷ es) t d h =
      let f = over_found es t d.1 h in
      (f.0, rw (apart t k es f.0 d.0 f.1) f.1, f.2)
  over_found ((k, Some n) ∷ es) t d h = by (over_of p (state_by n)) refl (over_found es t d.1)
    where
      by : (b : Bool) → over_of p (state_by n) ≡ b → (over_in (tasks_in es) p ≡ Some t → (note : Note) × (note_at es t ≡ Some note) × (over_of p (state_by note) ≡ true))
          → (note : Note) × (note_at ((k, Some n) ∷ es) t ≡ Some note) × (over_of p (state_by note) ≡ true)
      by true o ih = let m : Some k ≡ Some t = (rw o at h) in let q : k ≡ t = cc in (n, rw (← q, eq-eqb k k refl) refl, o)
      by false o ih =
          let f = ih (rw o at h) in
          (f.0, rw (apart t k es f.0 d.0 f.1) f.1, f.2)

  pub over_missing : (es : Entries) (t : ℕ) (note : Note) → over_in (tasks_in es) p ≡ None → note_at es t ≡ Some note → over_of p (state_by note) ≡ false
  over_missing [] t note h n = absurd cc
  over_missing ((j, None) ∷ es) t note h n = by (t == j) refl (over_missing es t note)
    where
      by : (q : Bool) → (t == j) ≡ q → (over_in (tasks_in es) p ≡ None → note_at es t ≡ Some note → over_of p (state_by note) ≡ false) → over_of p (state_by note) ≡ false
      by true k ih = let m : None ≡ Some note = (rw k at n) in absurd cc
      by false k ih = ih h (rw k at n)
  over_missing ((j, Some was) ∷ es) t note h n = by (over_of p (state_by was)) refl (t == j) refl (over_missing es t note)
    where
      by : (b : Bool) → over_of p (state_by was) ≡ b → (q : Bool) → (t == j) ≡ q → (over_in (tasks_in es) p ≡ None → note_at es t ≡ Some note → over_of p (state_by note) ≡ false)
          → over_of p (state_by note) ≡ false
      by true o q k ih = let m : Some j ≡ None = (rw o at h) in absurd cc
      by false o true k ih = let m : Some was ≡ Some note = (rw k at n) in let same : was ≡ note = cc in rw (← same) o
      by false o false k ih = ih (rw o at h) (rw k at n)

  pub over_half : (note : Note) → over_of p (state_by note) ≡ true → (o : ℕ) × (half_by note ≡ Some (p, o))
  over_half Going h = absurd (true≢false (sym h))
  over_half Dropped h = absurd (true≢false (sym h))
  over_half (Ended v) h = absurd (true≢false (sym h))
  over_half (Asked s t) h = absurd (true≢false (sym h))
  over_half (Branch q o v) h = (o, rw (eqb-true p q (and_parts (p == q) v h).0) refl)

  -- no branch of a parent without a pair
  pub no_pair : (es : Entries) (k o : ℕ) → has_pair (tasks_in es) p ≡ false → half_at es k ≡ Some (p, o) → true ≡ false
  no_pair [] k o n h = cc
  no_pair ((j, None) ∷ es) k o n h = by (k == j) refl (no_pair es k o)
    where
      by : (q : Bool) → (k == j) ≡ q → (has_pair (tasks_in es) p ≡ false → half_at es k ≡ Some (p, o) → true ≡ false) → true ≡ false
      by true m ih = let z : ◌≡◌ {A = Option (ℕ × ℕ)} None (Some (p, o)) = (rw m at h) in absurd cc
      by false m ih = ih n (rw m at h)
  no_pair ((j, Some was) ∷ es) k o n h = by (has_parent p (state_by was)) refl (k == j) refl (no_pair es k o)
    where
      parent : (note : Note) → half_by note ≡ Some (p, o) → has_parent p (state_by note) ≡ true
      parent Going q = absurd cc
      parent Dropped q = absurd cc
      parent (Ended v) q = absurd cc
      parent (Asked s t) q = absurd cc
      parent (Branch r u v) q = let m : r ≡ p = ap parent_in q in eq-eqb p r (sym m)

      by : (b : Bool) → has_parent p (state_by was) ≡ b → (q : Bool) → (k == j) ≡ q → (has_pair (tasks_in es) p ≡ false → half_at es k ≡ Some (p, o) → true ≡ false) → true ≡ false
      by true a q m ih = rw a at n
      by false a true m ih = sym (parent was (rw m at h)) ∙ a
      by false a false m ih = ih (rw a at n) (rw m at h)

abbrev pub over_at : ℕ → Option Note → Bool
over_at p None = false
over_at p (Some note) = over_of p (state_by note)

-- the branch of a pair that has ended is the other half of the one that goes on
module _ (es : Entries) (p t o : ℕ) where
  pub other_over : IsDistinct (λ x y. x == y) (keys_of es) → note_at es t ≡ Some (Branch p o false) → KnowsHalves es → (found : Option Note) → note_at es o ≡ found
      → over_in (tasks_in es) p ≡ (if over_at p found then Some o else None)
  other_over d h known found f = by (over_in (tasks_in es) p) refl found f
    where
      no_other : (found : Option Note) → note_at es o ≡ found → over_in (tasks_in es) p ≡ None → None ≡ (if over_at p found then Some o else None)
      no_other None f e = refl
      no_other (Some note) f e = rw (over_missing p es o note e f) refl

      this : (u : ℕ) (note : Note) → note_at es u ≡ Some note → over_of p (state_by note) ≡ true → (b : Bool) → (u == t) ≡ b → ((u == t) || (u == o)) ≡ true → u ≡ o
      this u note n over true q e =
          let same : u ≡ t = eqb-true u t q in
          let m : Some note ≡ Some (Branch p o false) = sym n ∙ (rw (← same) at h) in
          let k : note ≡ Branch p o false = cc in
          absurd (true≢false (sym over ∙ ap (λ x. over_of p (state_by x)) k ∙ rw (eq-eqb p p refl) refl))
      this u note n over false q e = eqb-true u o (rw q at e)

      by : (r : Option ℕ) → over_in (tasks_in es) p ≡ r → (found : Option Note) → note_at es o ≡ found → r ≡ (if over_at p found then Some o else None)
      by None e found f = no_other found f e
      by (Some u) e found f =
          let seen = over_found p es u d e in
          let half = over_half p seen.0 seen.2 in
          let same : u ≡ o = this u seen.0 seen.1 seen.2 (u == t) refl (known p t o u half.0 (ap half_in_note h) (ap half_in_note seen.1 ∙ half.1)) in
          let m : found ≡ Some seen.0 = sym f ∙ subst (λ k. note_at es k ≡ Some seen.0) same seen.1 in
          rw (same, m, seen.2) refl

-- the halves are known still where no branch comes
pub halves_stay : (es fs : Entries) → ((q : ℕ) (x : ℕ × ℕ) → half_at fs q ≡ Some x → half_at es q ≡ Some x) → KnowsHalves es → KnowsHalves fs
halves_stay es fs stay known p k o j u h g = known p k o j u (stay k (p, o) h) (stay j (p, u) g)

pub halves_put : (es fs : Entries) (t : ℕ) (new : Option Note) → (IsSome (half_in_note new) → half_at es t ≡ half_in_note new)
    → ((q : ℕ) → lookup (λ x. q == x) fs ≡ cond (t == q) (Some new) (lookup (λ x. q == x) es)) → KnowsHalves es → KnowsHalves fs
halves_put es fs t new same u = halves_stay es fs (λ q x h. by q x (t == q) refl (sym (ap (λ r. half_in_note (note_in r)) (u q)) ∙ h))
  where
    by : (q : ℕ) (x : ℕ × ℕ) (b : Bool) → (t == q) ≡ b → half_in_note (note_in (cond b (Some new) (lookup (λ y. q == y) es))) ≡ Some x → half_at es q ≡ Some x
    by q x true e h = rw (← (eqb-true t q e)) (same (ap is_some h) ∙ h)
    by q x false e h = h

-- a half that is known once the entries of threads that have gone were cleared was known before
half_kept : (es : Entries) → IsDistinct (λ x y. x == y) (keys_of es) → (q : ℕ) (x : ℕ × ℕ) → half_at (filter (λ e. is_some e.1) es) q ≡ Some x → half_at es q ≡ Some x
unfolding IsDistinct
half_kept [] d q x h = absurd cc
half_kept ((k, Some note) ∷ es) d q x h = by (q == k) (half_kept es d.1 q x) h
  where
    by : (b : Bool) → (half_at (filter (λ e. is_some e.1) es) q ≡ Some x → half_at es q ≡ Some x)
        → half_in_note (note_in (cond b (Some (Some note)) (lookup (λ y. q == y) (filter (λ e. is_some e.1) es)))) ≡ Some x
        → half_in_note (note_in (cond b (Some (Some note)) (lookup (λ y. q == y) es))) ≡ Some x
    by true ih g = g
    by false ih g = ih g
half_kept ((k, None) ∷ es) d q x h = by (half_kept es d.1 q x h) (note_at es q) refl
  where
    by : half_at es q ≡ Some x → (r : Option Note) → note_at es q ≡ r → half_at ((k, None) ∷ es) q ≡ Some x
    by f None e = let m : None ≡ Some x = (rw e at f) in absurd cc
    by f (Some note) e = rw (apart q k es note d.0 e) f

pub halves_kept : (es : Entries) → IsDistinct (λ x y. x == y) (keys_of es) → KnowsHalves es → KnowsHalves (filter (λ e. is_some e.1) es)
halves_kept es d = halves_stay es (filter (λ e. is_some e.1) es) (half_kept es d)

is_not : (q : Bool) → not q ≡ true → q ≡ false
is_not true h = absurd (true≢false (sym h))
is_not false h = refl

or_true : (q : Bool) → (q || true) ≡ true
or_true true = refl
or_true false = refl

-- a branch after a pair began is one of the two, or was there before
data Whose (es : Entries) (p a b q : ℕ) (x : ℕ × ℕ) : Type 0 where
  first : q ≡ a → x ≡ (p, b) → Whose es p a b q x
  second : q ≡ b → x ≡ (p, a) → Whose es p a b q x
  old : half_at es q ≡ Some x → Whose es p a b q x

module _ (es gs fs : Entries) (p a b : ℕ) where
  pub pair_noted : can_begin_pair (tasks_in es) p a b ≡ true → ((q : ℕ) → note_at gs q ≡ (if a == q then Some (Branch p b false) else note_at es q))
      → ((q : ℕ) → note_at fs q ≡ (if b == q then Some (Branch p a false) else note_at gs q)) → KnowsHalves es → KnowsHalves fs
  pair_noted can g f known parent k o j u h i = by (whose k (parent, o) h) (whose j (parent, u) i)
    where
      none : has_pair (tasks_in es) p ≡ false
      none =
          let parts = and_parts (can_begin (tasks_in es) a && can_begin (tasks_in es) b) (not (a == b) && not (has_pair (tasks_in es) p)) can in
          is_not (has_pair (tasks_in es) p) (and_parts (not (a == b)) (not (has_pair (tasks_in es) p)) parts.1).1

      whose : (q : ℕ) (x : ℕ × ℕ) → half_at fs q ≡ Some x → Whose es p a b q x
      whose q x h = of (b == q) refl (a == q) refl (sym (ap half_in_note (f q)) ∙ h)
        where
          of : (r : Bool) → (b == q) ≡ r → (s : Bool) → (a == q) ≡ s → half_in_note (if r then Some (Branch p a false) else note_at gs q) ≡ Some x → Whose es p a b q x
          of true e s c h = let m : x ≡ (p, a) = cc in second (sym (eqb-true b q e)) m
          of false e true c h = let w = sym (ap half_in_note (g q)) ∙ h in let n : Some (p, b) ≡ Some x = (rw c at w) in let m : x ≡ (p, b) = cc in first (sym (eqb-true a q c)) m
          of false e false c h = let w = sym (ap half_in_note (g q)) ∙ h in old (rw c at w)

      by : Whose es p a b k (parent, o) → Whose es p a b j (parent, u) → ((j == k) || (j == o)) ≡ true
      by (old m) (old n) = known parent k o j u m n
      by (old m) (first r s) = absurd (true≢false (no_pair p es k o none (rw (ap (λ x. x.0) s) at m)))
      by (old m) (second r s) = absurd (true≢false (no_pair p es k o none (rw (ap (λ x. x.0) s) at m)))
      by (first m n) (old s) = absurd (true≢false (no_pair p es j u none (rw (ap (λ x. x.0) n) at s)))
      by (second m n) (old s) = absurd (true≢false (no_pair p es j u none (rw (ap (λ x. x.0) n) at s)))
      by (first m n) (first r s) = rw (m, r, eq-eqb a a refl) refl
      by (second m n) (second r s) = rw (m, r, eq-eqb b b refl) refl
      by (first m n) (second r s) = rw (ap (λ x. x.1) n, r, eq-eqb b b refl) (or_true (b == k))
      by (second m n) (first r s) = rw (ap (λ x. x.1) n, r, eq-eqb a a refl) (or_true (a == k))

-- a thread that isn't there isn't there after another one began
pub begin_second : (xs : List Task) (a b : ℕ) (s : TaskState) → can_begin xs b ≡ true → (a == b) ≡ false → can_begin (noted xs a s) b ≡ true
begin_second [] a b s h d = rw d refl
begin_second (x ∷ xs) a b s h d = by (x.thread == b) refl (begin_second xs a b s)
  where
    by : (q : Bool) → (x.thread == b) ≡ q → (can_begin xs b ≡ true → (a == b) ≡ false → can_begin (noted xs a s) b ≡ true) → can_begin (noted (x ∷ xs) a s) b ≡ true
    by true p ih = absurd (true≢false (sym (rw p at h)))
    by false p ih = rw p (ih (rw p at h) d)

pub pair_second : (xs : List Task) (parent a b : ℕ) (s : TaskState) → can_begin_pair xs parent a b ≡ true → can_begin (noted xs a s) b ≡ true
pair_second xs parent a b s h =
    let both = and_parts (can_begin xs a && can_begin xs b) (not (a == b) && not (has_pair xs parent)) h in
    let news = and_parts (can_begin xs a) (can_begin xs b) both.0 in
    let others = and_parts (not (a == b)) (not (has_pair xs parent)) both.1 in
    begin_second xs a b s news.1 (by (a == b) others.0)
  where
    by : (q : Bool) → not q ≡ true → q ≡ false
    by true p = absurd (true≢false (sym p))
    by false p = refl
