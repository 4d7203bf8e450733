-- Lists of what is awaited: how long they are, and what one more word that is kept makes of them.
use Rattle.std.proofs.Common.{◌≡◌, ◌≤◌, ℕ, zero, suc, ◌+◌, ◌==◌, ◌&&◌, ◌||◌, nat_lt, Bool, true, false, if◌then◌else◌, List, [], ◌∷◌, ◌++◌, length, Option, Some, None, refl, sym, ap, subst, ◌∙◌, arith, length-append}
use Rattle.std.proofs.lemmas.List.{reverse-append}
use Rattle.std.proofs.lemmas.Bool.Decides.{nat_tests}
use Rattle.std.specs.Prelude.{reverse}
use Rattle.law_walks_own.specs.Below.fr_base.Lists.{is_in}
use Rattle.law_walks_own.specs.Below.fr_base.declared.place.Lval.{Lval}
use Rattle.law_walks_own.specs.Below.global_addr.Words.{server_of}
use Rattle.law_walks_own.specs.Below.heap_partition.declared.value.Owned.TheVariants as owned
use Rattle.law_walks_own.specs.Below.migration.Packing.{pinned_words}
use Rattle.law_walks_own.specs.Below.thread_state.declared.value.Value.{Value}
use Rattle.law_walks_own.specs.Below.thread_state.declared.value.Value.TheVariants as value
use Rattle.law_walks_own.specs.Below.coherent_memory.Follow.{Standing, Ground, hop_at, hops_from, hops}
use Rattle.law_walks_own.specs.Below.coherent_memory.Sight.{Sight}
use Rattle.law_walks_own.specs.Below.coherent_memory.Paths.{Path, no_path, reads, shares, lends, writes, ends, Awaited, is_spent, to_read, to_write, to_clean, all_to, borrow_to, awaited, is_readable, first_unreadable}
use Rattle.law_walks_own.specs.Below.coherent_memory.Walking.{path, words_kept, first_of, next_hop, in_turn}
use Rattle.law_length_asks.specs.ahead.Ahead.{ahead_from, ahead_on, path_stars, AheadWithinStars, with_copy}

-- LENGTHS

-- a pointer has at most one that is awaited
abbrev pub Single : (Option Value → List Awaited) → Type 0
Single f = (v : Option Value) → length (f v) ≤ 1

pub read_single : (colours : ℕ) → Single (to_read colours)
read_single colours None = omega arith
read_single colours (Some (value.Own (owned.Box p))) = omega arith
read_single colours (Some (value.Shared r)) = omega arith
read_single colours (Some (value.Mut r)) = omega arith
read_single colours (Some v) = omega arith

write_single : Single to_write
write_single None = omega arith
write_single (Some (value.Own (owned.Box p))) = omega arith
write_single (Some (value.Mut r)) = omega arith
write_single (Some v) = omega arith

clean_single : (colours : ℕ) → Single (to_clean colours)
clean_single colours (Some (value.Mut r)) = by (is_spent colours r)
  where
    by : (b : Bool) → length {A = Awaited} (if b then record { word = r.word; object = r.object; comes = true; by_copy = false } ∷ [] else []) ≤ 1
    by true = omega arith
    by false = omega arith
clean_single colours None = omega arith
clean_single colours (Some v) = omega arith

all_few : (f : Option Value → List Awaited) → Single f → (vs : List (Option Value)) → length (all_to f vs) ≤ length vs
all_few f one [] = omega arith
all_few f one (v ∷ vs) = omega (arith, one v, all_few f one vs, length-append (f v) (all_to f vs))

borrow_few : (colours : ℕ) (f : Option Value → List Awaited) → Single f → (vs : List (Option Value)) → length (borrow_to colours f vs) ≤ length vs
borrow_few colours f one [] = omega arith
borrow_few colours f one (v ∷ []) = one v
borrow_few colours f one (v ∷ w ∷ vs) = omega (arith, read_single colours v, borrow_few colours f one (w ∷ vs), length-append (to_read colours v) (borrow_to colours f (w ∷ vs)))

reverse_length : {X : Type 0} (xs : List X) → length (reverse xs) ≡ length xs
reverse_length [] = refl
reverse_length (x ∷ xs) = let e = ap length (reverse-append (x ∷ []) xs) in omega (arith, e, length-append (reverse xs) (x ∷ []), reverse_length xs)

hops_length : (g : Ground) (t : ℕ) (w : Lval) (n : ℕ) → length (hops g t w n) ≡ n
hops_length g t w n = reverse_length (hops_from g t w n) ∙ by n
  where
    by : (n : ℕ) → length (hops_from g t w n) ≡ n
    by zero = refl
    by (suc n) = ap suc (by n)

-- no more are ahead than are awaited
pub from_few : (kept : List ℕ) (s : ℕ) (bs : List Awaited) → ahead_from kept s bs ≤ length bs
from_few kept s [] = omega arith
from_few kept s (a ∷ bs) = by (is_readable kept s a) (from_few kept s bs)
  where
    by : (b : Bool) → ahead_from kept s bs ≤ length bs → (if b then ahead_from kept s bs else suc (length bs)) ≤ length (a ∷ bs)
    by true g = omega (arith, g)
    by false g = omega arith

on_few : (s : Sight) (x : Standing) (p : Path) → ahead_on s x p ≤ path_stars p
on_few s x no_path = omega arith
on_few s x (writes w) = omega arith
on_few s x (ends r) = omega arith
on_few s x (reads w) =
    let vs = hops s.ground x.thread.number w w.depth in
    omega (arith, from_few (words_kept x.thread) x.server (all_to (to_read s.options.colours) vs), all_few (to_read s.options.colours) (read_single s.options.colours) vs, hops_length s.ground x.thread.number w w.depth)
on_few s x (shares w) =
    let vs = hops s.ground x.thread.number w w.depth in
    let f = to_clean s.options.colours in
    omega (arith, from_few (words_kept x.thread) x.server (borrow_to s.options.colours f vs), borrow_few s.options.colours f (clean_single s.options.colours) vs, hops_length s.ground x.thread.number w w.depth)
on_few s x (lends w) =
    let vs = hops s.ground x.thread.number w w.depth in
    omega (arith, from_few (words_kept x.thread) x.server (borrow_to s.options.colours to_write vs), borrow_few s.options.colours to_write write_single vs, hops_length s.ground x.thread.number w w.depth)

pub within_stars : AheadWithinStars
within_stars s x = on_few s x (path s x)

-- ONE WORD MORE

-- words among which are those, and that one
pub record Longer (kept more : List ℕ) (w : ℕ) : Type 0 where
  pub has : is_in w more ≡ true
  pub keeps : (v : ℕ) → is_in v kept ≡ true → is_in v more ≡ true

in_front : (v : ℕ) (xs ys : List ℕ) → is_in v xs ≡ true → is_in v (xs ++ ys) ≡ true
in_front v [] ys e = absurd (cc e)
in_front v (x ∷ xs) ys e = by (x == v) e (in_front v xs ys)
  where
    by : (b : Bool) → (b || is_in v xs) ≡ true → (is_in v xs ≡ true → is_in v (xs ++ ys) ≡ true) → (b || is_in v (xs ++ ys)) ≡ true
    by true q go = refl
    by false q go = go q

behind : (v : ℕ) (xs ys : List ℕ) → is_in v ys ≡ true → is_in v (xs ++ ys) ≡ true
behind v [] ys e = e
behind v (x ∷ xs) ys e = by (x == v) (behind v xs ys e)
  where
    by : (b : Bool) → is_in v (xs ++ ys) ≡ true → (b || is_in v (xs ++ ys)) ≡ true
    by true g = refl
    by false g = g

in_either : (v : ℕ) (xs ys zs : List ℕ) → is_in v (xs ++ ys) ≡ true → is_in v ((xs ++ zs) ++ ys) ≡ true
in_either v [] ys zs e = behind v zs ys e
in_either v (x ∷ xs) ys zs e = by (x == v) e (in_either v xs ys zs)
  where
    by : (b : Bool) → (b || is_in v (xs ++ ys)) ≡ true → (is_in v (xs ++ ys) ≡ true → is_in v ((xs ++ zs) ++ ys) ≡ true) → (b || is_in v ((xs ++ zs) ++ ys)) ≡ true
    by true q go = refl
    by false q go = go q

in_append : (v : ℕ) (xs ys : List ℕ) → is_in v (xs ++ ys) ≡ (is_in v xs || is_in v ys)
in_append v [] ys = refl
in_append v (x ∷ xs) ys = by (x == v) (in_append v xs ys)
  where
    by : (b : Bool) → is_in v (xs ++ ys) ≡ (is_in v xs || is_in v ys) → (b || is_in v (xs ++ ys)) ≡ ((b || is_in v xs) || is_in v ys)
    by true g = refl
    by false g = g

in_left : (v : ℕ) (xs ys zs : List ℕ) → (is_in v xs ≡ true → is_in v ys ≡ true) → is_in v (xs ++ zs) ≡ true → is_in v (ys ++ zs) ≡ true
in_left v xs ys zs f e = by (is_in v xs) refl (sym (in_append v xs zs) ∙ e)
  where
    by : (b : Bool) → is_in v xs ≡ b → (b || is_in v zs) ≡ true → is_in v (ys ++ zs) ≡ true
    by true q h = in_front v ys zs (f q)
    by false q h = behind v ys zs h

itself : (w : ℕ) → is_in w (w ∷ []) ≡ true
itself w = by (w == w) (grind (arith, nat_tests))
  where
    by : (b : Bool) → b ≡ true → (b || false) ≡ true
    by true e = refl
    by false e = absurd (cc e)

one_longer : (w : ℕ) (x : Standing) → Longer (words_kept x.thread) (words_kept (with_copy w x).thread) w
one_longer w x =
    let walk : List ℕ = x.thread.walk in
    let slots : List ℕ = pinned_words x.thread.slots in
    let temps : List ℕ = pinned_words x.thread.temps in
    record {
      has = in_front w ((walk ++ w ∷ []) ++ slots) temps (in_front w (walk ++ w ∷ []) slots (behind w walk (w ∷ []) (itself w)));
      keeps = λ v e. in_left v (walk ++ slots) ((walk ++ w ∷ []) ++ slots) temps (in_either v walk slots (w ∷ [])) e;
    }

-- what can be read can be read still
still_readable : (kept more : List ℕ) (w s : ℕ) (a : Awaited) → Longer kept more w → is_readable kept s a ≡ true → is_readable more s a ≡ true
still_readable kept more w s a l e = by (server_of a.word == s) a.by_copy e
  where
    by : (b c : Bool) → (b || (c && is_in a.word kept)) ≡ true → (b || (c && is_in a.word more)) ≡ true
    by true c e = refl
    by false true e = l.keeps a.word e
    by false false e = absurd (cc e)

now_readable : (kept more : List ℕ) (s : ℕ) (a : Awaited) → Longer kept more a.word → a.by_copy ≡ true → is_readable more s a ≡ true
now_readable kept more s a l c = by (server_of a.word == s) a.by_copy c
  where
    by : (b c : Bool) → c ≡ true → (b || (c && is_in a.word more)) ≡ true
    by true c e = refl
    by false true e = l.has
    by false false e = absurd (cc e)

-- no more are ahead with more words
from_less : (kept more : List ℕ) (w s : ℕ) (bs : List Awaited) → Longer kept more w → ahead_from more s bs ≤ ahead_from kept s bs
from_less kept more w s [] l = omega arith
from_less kept more w s (a ∷ bs) l = by (is_readable kept s a) refl (is_readable more s a) refl (from_less kept more w s bs l)
  where
    by : (b : Bool) → is_readable kept s a ≡ b → (c : Bool) → is_readable more s a ≡ c → ahead_from more s bs ≤ ahead_from kept s bs → (if c then ahead_from more s bs else suc (length bs)) ≤ (if b then ahead_from kept s bs else suc (length bs))
    by true e true f g = g
    by true e false f g = absurd (cc (sym (still_readable kept more w s a l e) ∙ f))
    by false e true f g = omega (arith, from_few more s bs)
    by false e false f g = omega arith

-- fewer are where the first that couldn't be read can be
pub from_fewer : (kept more : List ℕ) (s : ℕ) (bs : List Awaited) (a : Awaited) → Longer kept more a.word → a.by_copy ≡ true → first_unreadable kept s bs ≡ Some a → ahead_from more s bs + 1 ≤ ahead_from kept s bs
from_fewer kept more s [] a l c e = absurd (cc e)
from_fewer kept more s (b ∷ bs) a l c e = by (is_readable kept s b) refl (is_readable more s b) refl e (from_fewer kept more s bs a l c)
  where
    by : (p : Bool) → is_readable kept s b ≡ p → (q : Bool) → is_readable more s b ≡ q → (if p then first_unreadable kept s bs else Some b) ≡ Some a → (first_unreadable kept s bs ≡ Some a → ahead_from more s bs + 1 ≤ ahead_from kept s bs)
        → (if q then ahead_from more s bs else suc (length bs)) + 1 ≤ (if p then ahead_from kept s bs else suc (length bs))
    by true f true g h go = go h
    by true f false g h go = absurd (cc (sym (still_readable kept more a.word s b l f) ∙ g))
    by false f true g h go = omega (arith, from_few more s bs)
    by false f false g h go = let same : a ≡ b = cc in absurd (cc (sym (subst (λ z. is_readable more s z ≡ true) same (now_readable kept more s a l c)) ∙ g))

-- what is written isn't read by a copy
written_comes : (v : Option Value) (a : Awaited) → first_of (to_write v) ≡ Some a → a.by_copy ≡ true → ⊥
written_comes (Some (value.Own (owned.Box p))) a e c = let same : a ≡ record { word = p.word; object = p.object; comes = true; by_copy = false } = cc in absurd (cc (sym (ap (λ (z : Awaited). z.by_copy) same) ∙ c))
written_comes (Some (value.Mut r)) a e c = let same : a ≡ record { word = r.word; object = r.object; comes = true; by_copy = false } = cc in absurd (cc (sym (ap (λ (z : Awaited). z.by_copy) same) ∙ c))
written_comes None a e c = absurd (cc e)
written_comes (Some value.Gone) a e c = absurd (cc e)
written_comes (Some (value.SharedSlot i)) a e c = absurd (cc e)
written_comes (Some (value.MutSlot i)) a e c = absurd (cc e)
written_comes (Some (value.Shared r)) a e c = absurd (cc e)
written_comes (Some (value.Held m)) a e c = absurd (cc e)
written_comes (Some (value.Own owned.Nothing)) a e c = absurd (cc e)
written_comes (Some (value.Own owned.Unit)) a e c = absurd (cc e)
written_comes (Some (value.Own (owned.Int n))) a e c = absurd (cc e)
written_comes (Some (value.Own (owned.Mutex m))) a e c = absurd (cc e)
written_comes (Some (value.Own (owned.Task t))) a e c = absurd (cc e)

-- so a thread that waits for a copy reads its place, and has less ahead of it with that copy
pub copy_leads : (s : Sight) (x : Standing) (w : ℕ) (a : Awaited) (p : Path) → in_turn s x w p ≡ Some a → a.by_copy ≡ true → ahead_on s (with_copy a.word x) p + 1 ≤ ahead_on s x p
copy_leads s x w a no_path e c = absurd (cc e)
copy_leads s x w a (reads v) e c = from_fewer (words_kept x.thread) (words_kept (with_copy a.word x).thread) x.server (awaited s.options.colours s.ground x.thread.number (reads v)) a (one_longer a.word x) c e
copy_leads s x w a (shares v) e c = from_fewer (words_kept x.thread) (words_kept (with_copy a.word x).thread) x.server (awaited s.options.colours s.ground x.thread.number (shares v)) a (one_longer a.word x) c e
copy_leads s x w a (lends v) e c = from_fewer (words_kept x.thread) (words_kept (with_copy a.word x).thread) x.server (awaited s.options.colours s.ground x.thread.number (lends v)) a (one_longer a.word x) c e
copy_leads s x w a (writes v) e c = absurd (none (nat_lt x.thread.passed v.depth) e)
  where
    none : (b : Bool) → (if b then first_of (to_write (hop_at s.ground x.thread.number v x.thread.passed)) else None) ≡ Some a → ⊥
    none true e = written_comes _ a e c
    none false e = absurd (cc e)
copy_leads s x w a (ends r) e c = absurd (at (r.word == w) e)
  where
    none : (b : Bool) → (if b then first_of (to_write (hop_at s.ground x.thread.number r.holder x.thread.passed)) else None) ≡ Some a → ⊥
    none true e = written_comes _ a e c
    none false e = absurd (cc e)

    at : (b : Bool) → (if b then first_of (to_write (Some (value.Mut r))) else next_hop s x r.holder) ≡ Some a → ⊥
    at true e = written_comes (Some (value.Mut r)) a e c
    at false e = none (nat_lt x.thread.passed r.holder.depth) e
