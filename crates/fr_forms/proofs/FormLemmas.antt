-- The term that a form stands for.
use Rattle.std.proofs.Common.{◌≡◌, ◌≢◌, ℕ, zero, suc, ◌+◌, ◌<◌, ◌≤◌, Bool, true, false, List, [], ◌∷◌, length, get_or, drop, Option, Some, None, refl, sym, ap, ap₂, ◌∙◌, subst, arith, add-one, drop-cons, ⊎_elim}
use Rattle.std.specs.Prelude.{◌==◌, if◌then◌else◌, Box as Boxed}
use Rattle.std.specs.declared.alloc.Global.{Global}
use Rattle.std.proofs.lemmas.Bool.Decides.{eqb_tells}
use Rattle.fr_base.specs.declared.place.Lval.{Lval}
use Rattle.fr_plain.specs.Run.{Capture, Run, box_r, arith as arith_r, bind, print, assign, block, spawn, join_r, mutex_r, lock, par, last, more}
use Rattle.fr_plain.specs.Resolve.{dropping}
use Rattle.fr_forms.specs.declared.forms.Body.{Body}
use Rattle.fr_forms.specs.declared.forms.Form.{Form}
use Rattle.fr_forms.specs.declared.forms.Form.TheVariants as form
use Rattle.fr_acts.specs.SlotOrder.{onto, newest_first}
use Rattle.fr_forms.specs.FormTerms.{IsSpawn, IsLock, IsPar, body_run, captures_of, parts_from, parts_of, build, run_at, term_of, NamesBelow, AreStacked, AreInOrder, items_in, items_at}
use Rattle.fr_syntax.specs.Meanings.{AllBelow}

-- a choice by whether two numbers are equal
pub eq_cases : (P : Bool → Type 0) (a b : ℕ) → (a ≡ b → P true) → (a ≢ b → P false) → P (a == b)
eq_cases P a b same other =
    ⊎_elim (λ (h : (a == b ≡ true) × (a ≡ b)). subst P (sym h.0) (same h.1)) (λ (h : (a == b ≡ false) × (a ≢ b)). subst P (sym h.0) (other h.1)) (eqb_tells a b)

-- the same terms below n
abbrev Same : ℕ → (ℕ → Run) → (ℕ → Run) → Type 0
Same n a b = (i : ℕ) → i < n → a i ≡ b i

-- an item and those after it have the same terms where the numbers below have
from_same : (n : ℕ) (a b : ℕ → Run) (i : ℕ) (is : List ℕ) → Same n a b → i < n → AllBelow n is → parts_from a i is ≡ parts_from b i is
from_same n a b i [] s lt h = ap last (s i lt)
from_same n a b i (j ∷ is) s lt h = ap (λ r. more r (parts_from a j is)) (s i lt) ∙ ap (more (b i)) (from_same n a b j is s h.0 h.1)

-- items have the same terms where the numbers below have
parts_same : (n : ℕ) (a b : ℕ → Run) (is : List ℕ) → Same n a b → AllBelow n is → parts_of a is ≡ parts_of b is
parts_same n a b [] s h = refl
parts_same n a b (i ∷ is) s h = from_same n a b i is s h.0 h.1

-- a form's term is that of the forms that it names
build_same : (n : ℕ) (a b : ℕ → Run) (m : Form) → Same n a b → NamesBelow n m → build a m ≡ build b m
build_same n a b (form.Number x) s h = refl
build_same n a b form.Unit s h = refl
build_same n a b (form.Read w take) s h = refl
build_same n a b (form.Borrow w is_mut) s h = refl
build_same n a b (form.Box t) s h = ap box_r (s t h)
build_same n a b (form.Let t) s h = ap bind (s t h)
build_same n a b (form.Print t) s h = ap print (s t h)
build_same n a b (form.Join t) s h = ap join_r (s t h)
build_same n a b (form.Assign w t) s h = ap (assign w) (s t h)
build_same n a b (form.Arith f left right) s h = ap₂ (arith_r f) (s left h.0) (s right h.1)
build_same n a b (form.Block items lets) s h = ap (block lets) (parts_same n a b items.items s h)
build_same n a b (form.Spawn cs body drops) s h = ap (λ r. spawn (captures_of cs.items) (block drops (last r))) (s body h)
build_same n a b (form.Mutex t) s h = ap mutex_r (s t h)
build_same n a b (form.Dup w) s h = refl
build_same n a b (form.Lock w body drops) s h = ap (λ r. lock w (dropping drops r)) (s body h)
build_same n a b (form.Par ours theirs) s h =
    ap₂ (λ q r. par (captures_of ours.value.captures.items) (block ours.value.drops (last q)) (captures_of theirs.value.captures.items) (block theirs.value.drops (last r))) (s ours.value.term h.0) (s theirs.value.term h.1)
build_same n a b form.Place s h = refl

-- the form of that number
abbrev form_at : List Form → ℕ → Option Form
form_at [] i = None
form_at (e ∷ below) i = if i == length below then Some e else form_at below i

-- one form stands there
Some-form : (a b : Form) → Some a ≡ Some b → a ≡ b
Some-form a b h = cc

-- a form's number is below the number of forms
form_lt : (es : List Form) (i : ℕ) (e : Form) → form_at es i ≡ Some e → i < length es
form_lt [] i e h = absurd cc
form_lt (t ∷ below) i e h =
    eq_cases (λ b. (if b then Some t else form_at below i) ≡ Some e → i < length (t ∷ below)) i (length below) (λ at _. omega arith) (λ ne g. let lt = form_lt below i e g in omega arith) h

-- a form more changes no term below
pub push_same : (e : Form) (below : List Form) → Same (length below) (run_at below) (run_at (e ∷ below))
push_same e below i lt = eq_cases (λ b. run_at below i ≡ (if b then build (run_at below) e else run_at below i)) i (length below) (λ at. absurd (omega arith)) (λ ne. refl)

-- what is below m is below n
AllBelow-weaker : (m n : ℕ) (is : List ℕ) → m ≤ n → AllBelow m is → AllBelow n is
AllBelow-weaker m n [] le h = h
AllBelow-weaker m n (i ∷ is) le h = let lt : i < m = h.0 in (omega arith, AllBelow-weaker m n is le h.1)

-- a form that names numbers below m names numbers below n
NamesBelow-weaker : (m n : ℕ) (k : Form) → m ≤ n → NamesBelow m k → NamesBelow n k
NamesBelow-weaker m n (form.Number x) le h = h
NamesBelow-weaker m n form.Unit le h = h
NamesBelow-weaker m n (form.Read w take) le h = h
NamesBelow-weaker m n (form.Borrow w is_mut) le h = h
NamesBelow-weaker m n (form.Box t) le h = omega arith
NamesBelow-weaker m n (form.Let t) le h = omega arith
NamesBelow-weaker m n (form.Print t) le h = omega arith
NamesBelow-weaker m n (form.Join t) le h = omega arith
NamesBelow-weaker m n (form.Assign w t) le h = omega arith
NamesBelow-weaker m n (form.Arith f left right) le h = (omega (arith, h.0), omega (arith, h.1))
NamesBelow-weaker m n (form.Block items lets) le h = AllBelow-weaker m n items.items le h
NamesBelow-weaker m n (form.Spawn cs body drops) le h = omega arith
NamesBelow-weaker m n (form.Mutex t) le h = omega arith
NamesBelow-weaker m n (form.Dup w) le h = h
NamesBelow-weaker m n (form.Lock w body drops) le h = omega arith
NamesBelow-weaker m n (form.Par ours theirs) le h = (omega (arith, h.0), omega (arith, h.1))
NamesBelow-weaker m n form.Place le h = h

-- a form names lower forms
form_is_below : (es : List Form) (i : ℕ) (e : Form) → AreStacked es → form_at es i ≡ Some e → NamesBelow i e
form_is_below [] i e a h = absurd cc
form_is_below (t ∷ below) i e a h =
    eq_cases (λ b. (if b then Some t else form_at below i) ≡ Some e → NamesBelow i e) i (length below)
    (λ at g. subst (λ (x : Form). NamesBelow i x) (Some-form t e g) (subst (λ n. NamesBelow n t) (sym at) a.0))
    (λ ne g. form_is_below below i e a.1 g) h

-- a number's term is built from its form
run_at-form : (es : List Form) (i : ℕ) (e : Form) → AreStacked es → form_at es i ≡ Some e → run_at es i ≡ build (run_at es) e
run_at-form [] i e a h = absurd cc
run_at-form (t ∷ below) i e a h =
    eq_cases (λ b. (if b then Some t else form_at below i) ≡ Some e → (if b then build (run_at below) t else run_at below i) ≡ build (run_at (t ∷ below)) e) i (length below)
    (λ at g. build_same (length below) (run_at below) (run_at (t ∷ below)) t (push_same t below) a.0 ∙ ap (λ (x : Form). build (run_at (t ∷ below)) x) (Some-form t e g))
    (λ ne g.
    let lt = form_lt below i e g in
    run_at-form below i e a.1 g ∙ build_same (length below) (run_at below) (run_at (t ∷ below)) e (push_same t below) (NamesBelow-weaker i (length below) e (omega arith) (form_is_below below i e a.1 g)))
    h

-- the last form has the highest number
here : (e : Form) (es : List Form) → form_at (e ∷ es) (length es) ≡ Some e
here e es = eq_cases (λ b. (if b then Some e else form_at es (length es)) ≡ Some e) (length es) (length es) (λ h. refl) (λ ne. absurd (ne refl))

-- forms that come later change none
onto_below : (es ns : List Form) (i : ℕ) (e : Form) → form_at es i ≡ Some e → form_at (onto es ns) i ≡ Some e
onto_below es [] i e h = h
onto_below es (n ∷ ns) i e h =
    let lt = form_lt es i e h in
    onto_below (n ∷ es) ns i e (eq_cases (λ b. (if b then Some n else form_at es i) ≡ Some e) i (length es) (λ at. absurd (omega arith)) (λ ne. h))

-- the forms of a vector by number
onto_form : (es ns : List Form) (i : ℕ) (d : Form) → i < length ns → form_at (onto es ns) (length es + i) ≡ Some (get_or ns i d)
onto_form es [] i d lt = absurd (omega arith)
onto_form es (n ∷ ns) zero d lt = let at : length es ≡ length es + zero = omega arith in subst (λ k. form_at (onto (n ∷ es) ns) k ≡ Some n) at (onto_below (n ∷ es) ns (length es) n (here n es))
onto_form es (n ∷ ns) (suc i) d lt = let at : length (n ∷ es) + i ≡ length es + suc i = omega arith in subst (λ k. form_at (onto (n ∷ es) ns) k ≡ Some (get_or ns i d)) at (onto_form (n ∷ es) ns i d (omega arith))

-- the form of a number is the vector's item
newest_form : (ns : List Form) (i : ℕ) (e : Form) → i < length ns → e ≡ get_or ns i e → form_at (newest_first ns) i ≡ Some e
newest_form ns i e lt is = let at : 0 + i ≡ i = omega arith in subst (λ k. form_at (newest_first ns) k ≡ Some (get_or ns i e)) at (onto_form [] ns i e lt) ∙ ap Some (sym is)

-- the term of a number is made as the form says that stands there
pub form_term : (ns : List Form) (i : ℕ) (e m : Form) → AreInOrder ns → i < length ns → e ≡ get_or ns i e → e ≡ m → term_of ns i ≡ build (term_of ns) m
form_term ns i e m a lt is h = run_at-form (newest_first ns) i e a (newest_form ns i e lt is) ∙ ap (build (term_of ns)) h

-- the form that stands there names lower ones
pub form_below : (ns : List Form) (i : ℕ) (e m : Form) → AreInOrder ns → i < length ns → e ≡ get_or ns i e → e ≡ m → NamesBelow i m
form_below ns i e m a lt is h = subst (NamesBelow i) h (form_is_below (newest_first ns) i e a (newest_form ns i e lt is))

-- inside a list no default is used
pub get_or-any : (ns : List Form) (i : ℕ) (d e : Form) → i < length ns → get_or ns i d ≡ get_or ns i e
get_or-any [] i d e lt = absurd (omega arith)
get_or-any (n ∷ ns) zero d e lt = refl
get_or-any (n ∷ ns) (suc i) d e lt = get_or-any ns i d e (omega arith)

-- the items of the form that stands there
pub items_here : (ns : List Form) (i : ℕ) (e m : Form) → i < length ns → e ≡ get_or ns i e → e ≡ m → items_at ns i ≡ items_in m
items_here ns i e m lt is h = ap items_in (get_or-any ns i form.Unit e lt ∙ sym is ∙ h)

-- what holds of the form that stands there
pub form_here : (P : Form → Type 0) (ns : List Form) (i : ℕ) (e m : Form) → i < length ns → e ≡ get_or ns i e → e ≡ m → P m → P (get_or ns i form.Unit)
form_here P ns i e m lt is h s = subst P (sym (get_or-any ns i form.Unit e lt ∙ sym is ∙ h)) s

-- its term starts one
pub spawn_run : (ns : List Form) (i : ℕ) → AreInOrder ns → i < length ns → IsSpawn (get_or ns i form.Unit) → (cs : List Capture) × (r : Run) × (term_of ns i ≡ spawn cs r)
spawn_run ns i a lt s = by (get_or ns i form.Unit) refl
  where
    by : (m : Form) → get_or ns i form.Unit ≡ m → (cs : List Capture) × (r : Run) × (term_of ns i ≡ spawn cs r)
    by (form.Spawn cs body drops) q =
        (captures_of cs.items, block drops (last (term_of ns body)), form_term ns i (get_or ns i form.Unit) (form.Spawn cs body drops) a lt (get_or-any ns i form.Unit (get_or ns i form.Unit) lt) q)
    by (form.Number x) q = absurd (subst IsSpawn q s)
    by form.Unit q = absurd (subst IsSpawn q s)
    by (form.Read w take) q = absurd (subst IsSpawn q s)
    by (form.Borrow w is_mut) q = absurd (subst IsSpawn q s)
    by (form.Box x) q = absurd (subst IsSpawn q s)
    by (form.Let x) q = absurd (subst IsSpawn q s)
    by (form.Print x) q = absurd (subst IsSpawn q s)
    by (form.Join x) q = absurd (subst IsSpawn q s)
    by (form.Mutex x) q = absurd (subst IsSpawn q s)
    by (form.Dup place) q = absurd (subst IsSpawn q s)
    by (form.Lock place x k2) q = absurd (subst IsSpawn q s)
    by (form.Par ours theirs) q = absurd (subst IsSpawn q s)
    by (form.Assign w x) q = absurd (subst IsSpawn q s)
    by (form.Arith f x y) q = absurd (subst IsSpawn q s)
    by (form.Block items lets) q = absurd (subst IsSpawn q s)
    by form.Place q = absurd (subst IsSpawn q s)

-- the parts of a lock's form, and of a pair's
pub lock_form : (w : Lval) (m : Form) → IsLock w m → (body : ℕ) × (drops : ℕ) × (m ≡ form.Lock w body drops)
lock_form w (form.Lock x body drops) h = (body, drops, ap (λ y. form.Lock y body drops) (sym h))
lock_form w (form.Number x) h = absurd h
lock_form w form.Unit h = absurd h
lock_form w (form.Read x take) h = absurd h
lock_form w (form.Borrow x is_mut) h = absurd h
lock_form w (form.Box x) h = absurd h
lock_form w (form.Let x) h = absurd h
lock_form w (form.Print x) h = absurd h
lock_form w (form.Join x) h = absurd h
lock_form w (form.Assign x y) h = absurd h
lock_form w (form.Arith f x y) h = absurd h
lock_form w (form.Block items lets) h = absurd h
lock_form w (form.Spawn cs body drops) h = absurd h
lock_form w (form.Mutex x) h = absurd h
lock_form w (form.Dup x) h = absurd h
lock_form w (form.Par ours theirs) h = absurd h
lock_form w form.Place h = absurd h

pub par_form : (m : Form) → IsPar m → (ours : Boxed Body Global) × (theirs : Boxed Body Global) × (m ≡ form.Par ours theirs)
par_form (form.Par ours theirs) h = (ours, theirs, refl)
par_form (form.Number x) h = absurd h
par_form form.Unit h = absurd h
par_form (form.Read x take) h = absurd h
par_form (form.Borrow x is_mut) h = absurd h
par_form (form.Box x) h = absurd h
par_form (form.Let x) h = absurd h
par_form (form.Print x) h = absurd h
par_form (form.Join x) h = absurd h
par_form (form.Assign x y) h = absurd h
par_form (form.Arith f x y) h = absurd h
par_form (form.Block items lets) h = absurd h
par_form (form.Spawn cs body drops) h = absurd h
par_form (form.Mutex x) h = absurd h
par_form (form.Dup x) h = absurd h
par_form (form.Lock x body drops) h = absurd h
par_form form.Place h = absurd h

-- a new thread behind a pointer
abbrev pub behind : Boxed Body Global → Body → Boxed Body Global
behind b body = record b { value = body }

-- a pair's form has the new threads that are seen behind its pointers
pub pair_seen : (m : Form) (ours theirs : Boxed Body Global) (b d : Body) → m ≡ form.Par ours theirs → b ≡ ours.value → d ≡ theirs.value → m ≡ form.Par (behind ours b) (behind theirs d)
pair_seen m ours theirs b d is e f = is ∙ ap₂ (λ (x : Body) (y : Body). form.Par (behind ours x) (behind theirs y)) (sym e) (sym f)

-- its term is a lock's
pub lock_run : (ns : List Form) (i : ℕ) (w : Lval) → AreInOrder ns → i < length ns → IsLock w (get_or ns i form.Unit) → (r : Run) × (term_of ns i ≡ lock w r)
lock_run ns i w a lt s =
    let f = lock_form w (get_or ns i form.Unit) s in
    (dropping f.1 (term_of ns f.0), form_term ns i (get_or ns i form.Unit) (form.Lock w f.0 f.1) a lt (get_or-any ns i form.Unit (get_or ns i form.Unit) lt) f.2)

-- or a pair's
pub par_run : (ns : List Form) (i : ℕ) → AreInOrder ns → i < length ns → IsPar (get_or ns i form.Unit) → (cs : List Capture) × (r : Run) × (ds : List Capture) × (q : Run) × (term_of ns i ≡ par cs r ds q)
par_run ns i a lt s =
    let f = par_form (get_or ns i form.Unit) s in (
      captures_of f.0.value.captures.items,
      body_run (term_of ns) f.0.value,
      captures_of f.1.value.captures.items,
      body_run (term_of ns) f.1.value,
      form_term ns i (get_or ns i form.Unit) (form.Par f.0 f.1) a lt (get_or-any ns i form.Unit (get_or ns i form.Unit) lt) f.2,
    )

-- each item is below what all are below
below_at : (n : ℕ) (is : List ℕ) (k d : ℕ) → k < length is → AllBelow n is → get_or is k d < n
below_at n [] k d lt h = absurd (omega arith)
below_at n (i ∷ is) zero d lt h = h.0
below_at n (i ∷ is) (suc k) d lt h = below_at n is k d (omega arith) h.1

-- the items of a block stand before it
pub item_below : (ns : List Form) (at : ℕ) (is : List ℕ) (k : ℕ) → AreInOrder ns → at < length ns → is ≡ items_at ns at → k < length is → get_or is k 0 < at
item_below ns at is k a lt e h = by (get_or ns at form.Unit) refl
  where
    all : (m : Form) → get_or ns at form.Unit ≡ m → AllBelow at (items_in m)
    all (form.Block items lets) q = form_below ns at (get_or ns at form.Unit) (form.Block items lets) a lt (get_or-any ns at form.Unit (get_or ns at form.Unit) lt) q
    all (form.Number x) q = tt
    all form.Unit q = tt
    all (form.Read w take) q = tt
    all (form.Borrow w is_mut) q = tt
    all (form.Box x) q = tt
    all (form.Let x) q = tt
    all (form.Print x) q = tt
    all (form.Join x) q = tt
    all (form.Mutex x) q = tt
    all (form.Dup place) q = tt
    all (form.Lock place x k2) q = tt
    all (form.Par ours theirs) q = tt
    all (form.Assign w x) q = tt
    all (form.Arith f x y) q = tt
    all (form.Spawn cs body drops) q = (form_below ns at (get_or ns at form.Unit) (form.Spawn cs body drops) a lt (get_or-any ns at form.Unit (get_or ns at form.Unit) lt) q, tt)
    all form.Place q = tt

    by : (m : Form) → get_or ns at form.Unit ≡ m → get_or is k 0 < at
    by m q = below_at at is k 0 h (subst (AllBelow at) (sym (e ∙ ap items_in q)) (all m q))

-- what is left of a list from a place on
pub at_drop : (is : List ℕ) (k d : ℕ) → k < length is → drop k is ≡ get_or is k d ∷ drop (k + 1) is
at_drop is k d lt = rw (add-one, drop-cons is k d) refl

-- past the end nothing is left
pub all_dropped : (is : List ℕ) (k : ℕ) → length is ≤ k → drop k is ≡ []
all_dropped [] zero h = refl
all_dropped [] (suc k) h = refl
all_dropped (i ∷ is) zero h = absurd (omega arith)
all_dropped (i ∷ is) (suc k) h = all_dropped is k (omega arith)
