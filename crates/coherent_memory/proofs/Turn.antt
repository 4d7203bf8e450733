-- A walk waits in turn exactly where nothing is counted.
use Rattle.std.proofs.Common.{◌≡◌, ◌⊎◌, inl, inr, ℕ, zero, suc, ◌<◌, ◌≤◌, Bool, true, false, ◌&&◌, if◌then◌else◌, List, [], ◌∷◌, ◌++◌, Option, Some, None, refl, sym, ap, subst, ◌∙◌, arith}
use Rattle.std.specs.Prelude.{◌==◌, nat_lt}
use Rattle.std.proofs.lemmas.Bool.Decides.{nat_tests}
use Rattle.std.proofs.lemmas.List.{append-nil, append_assoc}
use Rattle.server_model.specs.Below.fr_base.declared.place.Lval.{Lval}
use Rattle.fr_code.proofs.Below.fr_typing.PlaceLemmas.{eq_cases}
use Rattle.server_model.specs.Below.mut_borrow.declared.mutable.MutRef.{MutRef}
use Rattle.server_model.specs.Below.heap_partition.declared.value.Owned.TheVariants as owned
use Rattle.server_model.specs.Below.thread_state.declared.phase.Phase.{Phase}
use Rattle.server_model.specs.Below.thread_state.declared.phase.Phase.TheVariants as phase
use Rattle.server_model.specs.Below.thread_state.declared.value.Value.{Value}
use Rattle.server_model.specs.Below.thread_state.declared.value.Value.TheVariants as value
use Rattle.coherent_memory.specs.Names.{tot, some, other, Among}
use Rattle.coherent_memory.specs.Things.{Location}
use Rattle.coherent_memory.specs.Follow.{Standing, Ground, value_in, value_behind, locate, hop_at, hops}
use Rattle.coherent_memory.specs.Sight.{Sight}
use Rattle.coherent_memory.specs.Paths.{Path, no_path, reads, shares, lends, writes, ends, Awaited, is_spent, to_read, to_write, to_clean, all_to, borrow_to, awaited, is_readable, first_unreadable}
use Rattle.coherent_memory.specs.Walking.{path, words_kept, first_of, next_hop, in_turn, asked_for, not_asked, out_of_turn, turn_wrong}
use Rattle.coherent_memory.specs.Turn.{IsAsked, AwaitsAt, read_at, before_share, at_share, before_lend, at_lend, FirstUnread, NextHop, InTurn, by_read, by_share, by_lend, by_write, by_end, by_holder, WaitsFor, WaitInTurn, TurnLaw}
use Rattle.coherent_memory.proofs.Names.{and_left, and_right, same_number}
use Rattle.coherent_memory.proofs.Words.{none_at, none_all}
use Rattle.coherent_memory.proofs.Passing.{located, one_more, at_hop}

-- WHAT IS WAITED FOR, IN ORDER

-- of so many hops
abbrev collect : ℕ → (ℕ → List Awaited) → List Awaited
collect zero f = []
collect (suc n) f = collect n f ++ f n

all_joined : (f : Option Value → List Awaited) (xs ys : List (Option Value)) → all_to f (xs ++ ys) ≡ all_to f xs ++ all_to f ys
all_joined f [] ys = refl
all_joined f (v ∷ vs) ys = ap (λ bs. f v ++ bs) (all_joined f vs ys) ∙ sym (append_assoc (f v) (all_to f vs) (all_to f ys))

all_last : (f : Option Value → List Awaited) (xs : List (Option Value)) (v : Option Value) → all_to f (xs ++ v ∷ []) ≡ all_to f xs ++ f v
all_last f xs v = all_joined f xs (v ∷ []) ∙ ap (λ bs. all_to f xs ++ bs) (append-nil (f v))

all_collected : (f : Option Value → List Awaited) (g : Ground) (t : ℕ) (w : Lval) (n : ℕ) → all_to f (hops g t w n) ≡ collect n (λ i. f (hop_at g t w i))
all_collected f g t w zero = refl
all_collected f g t w (suc n) =
    ap (all_to f) (one_more g t w n) ∙ all_last f (hops g t w n) (hop_at g t w n) ∙ ap (λ bs. bs ++ f (hop_at g t w n)) (all_collected f g t w n)

borrow_last : (c : ℕ) (f : Option Value → List Awaited) (xs : List (Option Value)) (v : Option Value) → borrow_to c f (xs ++ v ∷ []) ≡ all_to (to_read c) xs ++ f v
borrow_last c f [] v = refl
borrow_last c f (u ∷ []) v = ap (λ bs. bs ++ f v) (sym (append-nil (to_read c u)))
borrow_last c f (u ∷ y ∷ xs) v = ap (λ bs. to_read c u ++ bs) (borrow_last c f (y ∷ xs) v) ∙ sym (append_assoc (to_read c u) (all_to (to_read c) (y ∷ xs)) (f v))

borrow_collected : (c : ℕ) (f : Option Value → List Awaited) (g : Ground) (t : ℕ) (w : Lval) (n : ℕ) → borrow_to c f (hops g t w (suc n)) ≡ collect n (λ i. to_read c (hop_at g t w i)) ++ f (hop_at g t w n)
borrow_collected c f g t w n =
    ap (borrow_to c f) (one_more g t w n) ∙ borrow_last c f (hops g t w n) (hop_at g t w n) ∙ ap (λ bs. bs ++ f (hop_at g t w n)) (all_collected (to_read c) g t w n)

-- THE FIRST THAT CAN'T BE READ

among_left : (a : Awaited) (xs ys : List Awaited) → Among a xs → Among a (xs ++ ys)
among_left a [] ys h = absurd h
among_left a (x ∷ xs) ys (inl e) = inl e
among_left a (x ∷ xs) ys (inr h) = inr (among_left a xs ys h)

among_right : (a : Awaited) (xs ys : List Awaited) → Among a ys → Among a (xs ++ ys)
among_right a [] ys h = h
among_right a (x ∷ xs) ys h = inr (among_right a xs ys h)

module _ (kept : List ℕ) (r : ℕ) where
  abbrev first : List Awaited → Option Awaited
  first bs = first_unreadable kept r bs

  -- all of these can be read
  abbrev AllRead : List Awaited → Type 0
  AllRead bs = (a : Awaited) → Among a bs → is_readable kept r a ≡ true

  skip_by : (x : Awaited) (xs ys : List Awaited) (q : Bool) → is_readable kept r x ≡ q → AllRead (x ∷ xs) → (if q then first (xs ++ ys) else Some x) ≡ first (xs ++ ys)
  skip_by x xs ys true e h = refl
  skip_by x xs ys false e h = let z : true ≡ false = sym (h x (inl refl)) ∙ e in absurd (cc z)

  skips : (xs ys : List Awaited) → AllRead xs → first (xs ++ ys) ≡ first ys
  skips [] ys h = refl
  skips (x ∷ xs) ys h = skip_by x xs ys (is_readable kept r x) refl h ∙ skips xs ys (λ a m. h a (inr m))

  stays_by : (x : Awaited) (xs ys : List Awaited) (a : Awaited) (q : Bool) → (first xs ≡ Some a → first (xs ++ ys) ≡ Some a) → (if q then first xs else Some x) ≡ Some a → (if q then first (xs ++ ys) else Some x) ≡ Some a
  stays_by x xs ys a true go e = go e
  stays_by x xs ys a false go e = e

  stays : (xs ys : List Awaited) (a : Awaited) → first xs ≡ Some a → first (xs ++ ys) ≡ Some a
  stays [] ys a e = absurd (cc e)
  stays (x ∷ xs) ys a e = stays_by x xs ys a (is_readable kept r x) (stays xs ys a) e

  none_read_by : (x : Awaited) (xs : List Awaited) (q : Bool) → is_readable kept r x ≡ q → (first xs ≡ None → AllRead xs) → (if q then first xs else Some x) ≡ None → AllRead (x ∷ xs)
  none_read_by x xs true t go e a (inl s) = subst (λ y. is_readable kept r y ≡ true) s t
  none_read_by x xs true t go e a (inr m) = go e a m
  none_read_by x xs false t go e a m = absurd (cc e)

  none_read : (xs : List Awaited) → first xs ≡ None → AllRead xs
  none_read [] e = λ a m. absurd m
  none_read (x ∷ xs) e = none_read_by x xs (is_readable kept r x) refl (none_read xs) e

  pub record Unread (a : Awaited) (bs : List Awaited) : Type 0 where
    pub among : Among a bs
    pub unread : is_readable kept r a ≡ false

  unread_by : (x a : Awaited) (xs : List Awaited) (q : Bool) → is_readable kept r x ≡ q → (first xs ≡ Some a → Unread a xs) → (if q then first xs else Some x) ≡ Some a → Unread a (x ∷ xs)
  unread_by x a xs true t go e = let u = go e in record { among = inr u.among; unread = u.unread }
  unread_by x a xs false t go e = let s : x ≡ a = cc e in record { among = inl s; unread = subst (λ y. is_readable kept r y ≡ false) s t }

  unread : (xs : List Awaited) (a : Awaited) → first xs ≡ Some a → Unread a xs
  unread [] a e = absurd (cc e)
  unread (x ∷ xs) a e = unread_by x a xs (is_readable kept r x) refl (unread xs a) e

  -- the first of all stands at some hop, and what stands at those before it can be read
  pub record FirstAt (n : ℕ) (f : ℕ → List Awaited) (a : Awaited) : Type 0 where
    pub number : ℕ
    pub within : number < n
    pub among : Among a (f number)
    pub unread : is_readable kept r a ≡ false
    pub before : (j : ℕ) → j < number → AllRead (f j)

  collected : (n : ℕ) (f : ℕ → List Awaited) (j : ℕ) (a : Awaited) (q : Bool) → (j == n) ≡ q → j < suc n → (j < n → Among a (collect n f)) → Among a (f j) → Among a (collect n f ++ f n)
  collected n f j a true e l go m = among_right a (collect n f) (f n) (subst (λ i. Among a (f i)) (same_number j n e) m)
  collected n f j a false e l go m = among_left a (collect n f) (f n) (go (grind (arith, nat_tests, e, l)))

  in_collect : (n : ℕ) (f : ℕ → List Awaited) (j : ℕ) (a : Awaited) → j < n → Among a (f j) → Among a (collect n f)
  in_collect zero f j a l m = absurd (omega (arith, l))
  in_collect (suc n) f j a l m = collected n f j a (j == n) refl l (λ b. in_collect n f j a b m) m

  first_by : (n : ℕ) (f : ℕ → List Awaited) (a : Awaited) (o : Option Awaited) → first (collect n f) ≡ o → (first (collect n f) ≡ Some a → FirstAt n f a) → first (collect n f ++ f n) ≡ Some a → FirstAt (suc n) f a
  first_by n f a (Some b) e go h =
      let s : Some b ≡ Some a = sym (stays (collect n f) (f n) b e) ∙ h in
      let p = go (e ∙ s) in
      record { number = p.number; within = (let l = p.within in omega (arith, l)); among = p.among; unread = p.unread; before = p.before }
  first_by n f a None e go h =
      let all : AllRead (collect n f) = none_read (collect n f) e in
      let u = unread (f n) a (sym (skips (collect n f) (f n) all) ∙ h) in
      record { number = n; within = omega arith; among = u.among; unread = u.unread; before = λ j l b m. all b (in_collect n f j b l m) }

  first_at : (n : ℕ) (f : ℕ → List Awaited) (a : Awaited) → first (collect n f) ≡ Some a → FirstAt n f a
  first_at zero f a e = absurd (cc e)
  first_at (suc n) f a e = first_by n f a (first (collect n f)) refl (first_at n f a) e

  all_by : (n i : ℕ) (f : ℕ → List Awaited) → ((j : ℕ) → j < n → AllRead (f j)) → AllRead (collect n f)
  all_by zero i f h a m = absurd m
  all_by (suc n) i f h a m = split (collect n f) (f n) a m (λ b. all_by n i f (λ j l. h j (omega (arith, l))) a b) (λ b. h n (omega arith) a b)
    where
      split : (xs ys : List Awaited) (b : Awaited) → Among b (xs ++ ys) → (Among b xs → is_readable kept r b ≡ true) → (Among b ys → is_readable kept r b ≡ true) → is_readable kept r b ≡ true
      split [] ys b k u v = v k
      split (x ∷ xs) ys b (inl e) u v = u (inl e)
      split (x ∷ xs) ys b (inr k) u v = split xs ys b k (λ z. u (inr z)) v

  -- no hop has two
  abbrev AtMostOne : List Awaited → Type 0
  AtMostOne bs = (a : Awaited) → Among a bs → bs ≡ a ∷ []

  first_of_one : (bs : List Awaited) (a : Awaited) → bs ≡ a ∷ [] → is_readable kept r a ≡ false → first bs ≡ Some a
  first_of_one bs a e u = rw e (rw u refl)

  at_first : (n : ℕ) (f : ℕ → List Awaited) (a : Awaited) → (p : FirstAt n f a) → AtMostOne (f p.number) → first (collect (suc p.number) f) ≡ Some a
  at_first n f a p o = skips (collect p.number f) (f p.number) (all_by p.number 0 f p.before) ∙ first_of_one (f p.number) a (o a p.among) p.unread

  up_by : (n m : ℕ) (f : ℕ → List Awaited) (a : Awaited) (q : Bool) → (m == n) ≡ q → m < suc (suc n) → first (collect (suc m) f) ≡ Some a → (m < n → first (collect n f) ≡ Some a) → m < suc n → first (collect (suc n) f) ≡ Some a
  up_by n m f a true e l h go b = subst (λ i. first (collect (suc i) f) ≡ Some a) (same_number m n e) h
  up_by n m f a false e l h go b = stays (collect n f) (f n) a (go (grind (arith, nat_tests, e, b)))

  up_to : (n m : ℕ) (f : ℕ → List Awaited) (a : Awaited) → first (collect (suc m) f) ≡ Some a → m < n → first (collect n f) ≡ Some a
  up_to zero m f a h l = absurd (omega (arith, l))
  up_to (suc n) m f a h l = up_by n m f a (m == n) refl (omega (arith, l)) h (up_to n m f a h) l

  pub first_told : (n : ℕ) (f : ℕ → List Awaited) (a : Awaited) → (p : FirstAt n f a) → AtMostOne (f p.number) → first (collect n f) ≡ Some a
  first_told n f a p o = up_to n p.number f a (at_first n f a p o) p.within

-- HOPS

one_of : (x a : Awaited) → Among a (x ∷ []) → x ∷ [] ≡ a ∷ []
one_of x a (inl e) = ap (λ y. y ∷ []) e
one_of x a (inr h) = absurd h

-- what a pointer asks for is one thing at most, and nothing asks for none
pub record Asks (f : Option Value → List Awaited) : Type 0 where
  pub none : f None ≡ []
  pub one : (v : Option Value) (a : Awaited) → Among a (f v) → f v ≡ a ∷ []

read_one : (c : ℕ) (v : Option Value) (a : Awaited) → Among a (to_read c v) → to_read c v ≡ a ∷ []
read_one c (Some (value.Own (owned.Box p))) a m = one_of _ a m
read_one c (Some (value.Shared r)) a m = one_of _ a m
read_one c (Some (value.Mut r)) a m = one_of _ a m
read_one c _ a m = absurd m

write_one : (v : Option Value) (a : Awaited) → Among a (to_write v) → to_write v ≡ a ∷ []
write_one (Some (value.Own (owned.Box p))) a m = one_of _ a m
write_one (Some (value.Mut r)) a m = one_of _ a m
write_one _ a m = absurd m

spent_one : (q : Bool) (x a : Awaited) → Among a (if q then x ∷ [] else []) → (if q then x ∷ [] else []) ≡ a ∷ []
spent_one true x a m = one_of x a m
spent_one false x a m = absurd m

clean_one : (c : ℕ) (v : Option Value) (a : Awaited) → Among a (to_clean c v) → to_clean c v ≡ a ∷ []
clean_one c (Some (value.Mut r)) a m = spent_one (is_spent c r) (record { word = r.word; object = r.object; comes = true; by_copy = false }) a m
clean_one c _ a m = absurd m

reads_ask : (c : ℕ) → Asks (to_read c)
reads_ask c = record { none = refl; one = read_one c }

writes_ask : Asks to_write
writes_ask = record { none = refl; one = write_one }

cleans_ask : (c : ℕ) → Asks (to_clean c)
cleans_ask c = record { none = refl; one = clean_one c }

module _ (s : Sight) (x : Standing) (w : Lval) where
  abbrev at_star : ℕ → Option Value
  at_star i = hop_at s.ground x.thread.number w i

  asked_value : (f : Option Value → List Awaited) → Asks f → (i : ℕ) (a : Awaited) (l : Location) → locate s.ground x.thread.number w.slot i ≡ Some l → (v : Option Value) → value_in s.ground l ≡ v → Among a (f v) → IsAsked s x w i f a
  asked_value f k i a l at None e m = let n : Among a [] = subst (λ bs. Among a bs) k.none m in absurd n
  asked_value f k i a l at (Some v) e m = record { location = l; value = v; hop = record { path = located s.ground x.thread.number w.slot i l at; stands = e }; asked = m }

  asked_by : (f : Option Value → List Awaited) → Asks f → (i : ℕ) (a : Awaited) (o : Option Location) → locate s.ground x.thread.number w.slot i ≡ o → Among a (f (value_behind s.ground o)) → IsAsked s x w i f a
  asked_by f k i a None e m = let n : Among a [] = subst (λ bs. Among a bs) k.none m in absurd n
  asked_by f k i a (Some l) e m = asked_value f k i a l e (value_in s.ground l) refl m

  asked_from : (f : Option Value → List Awaited) → Asks f → (i : ℕ) (a : Awaited) → Among a (f (at_star i)) → IsAsked s x w i f a
  asked_from f k i a m = asked_by f k i a (locate s.ground x.thread.number w.slot i) refl m

  asked_here : (f : Option Value → List Awaited) (i : ℕ) (a : Awaited) → IsAsked s x w i f a → Among a (f (at_star i))
  asked_here f i a q = subst (λ v. Among a (f v)) (sym (at_hop s.ground x.thread.number w.slot i q.location q.value q.hop)) q.asked

-- READS

module _ (s : Sight) (x : Standing) (w : Lval) where
  abbrev read_list : ℕ → List Awaited
  read_list i = to_read s.options.colours (hop_at s.ground x.thread.number w i)

  read_back : (i : ℕ) (a : Awaited) → AwaitsAt s x (reads w) i a → Among a (read_list i)
  read_back _ _ (read_at _ i a l q) = asked_here s x w (to_read s.options.colours) i a q

  read_within : (i : ℕ) (a : Awaited) → AwaitsAt s x (reads w) i a → i < w.depth
  read_within _ _ (read_at _ i a l q) = l

  reads_first : (a : Awaited) → first_unreadable (words_kept x.thread) x.server (awaited s.options.colours s.ground x.thread.number (reads w)) ≡ Some a → FirstUnread s x (reads w) a
  reads_first a e =
      let p = first_at (words_kept x.thread) x.server w.depth read_list a (ap (first_unreadable (words_kept x.thread) x.server) (sym (all_collected (to_read s.options.colours) s.ground x.thread.number w w.depth)) ∙ e) in
      record {
        number = p.number;
        at = read_at w p.number a p.within (asked_from s x w (to_read s.options.colours) (reads_ask s.options.colours) p.number a p.among);
        unread = p.unread;
        before = λ j b l h. p.before j l b (read_back j b h);
      }

  reads_told : (a : Awaited) (u : FirstUnread s x (reads w) a) → first_unreadable (words_kept x.thread) x.server (awaited s.options.colours s.ground x.thread.number (reads w)) ≡ Some a
  reads_told a u =
      ap (first_unreadable (words_kept x.thread) x.server) (all_collected (to_read s.options.colours) s.ground x.thread.number w w.depth)
      ∙ first_told (words_kept x.thread) x.server w.depth read_list a
      (record {
        number = u.number;
        within = read_within u.number a u.at;
        among = read_back u.number a u.at;
        unread = u.unread;
        before = λ j l b m. u.before j b l (read_at w j b (let k = read_within u.number a u.at in omega (arith, k, l)) (asked_from s x w (to_read s.options.colours) (reads_ask s.options.colours) j b m));
      })
      (λ b m. read_one s.options.colours (hop_at s.ground x.thread.number w u.number) b m)

-- BORROWS

abbrev pick : Bool → List Awaited → List Awaited → List Awaited
pick true bs cs = bs
pick false bs cs = cs

same_collected : (n : ℕ) (f g : ℕ → List Awaited) → ((j : ℕ) → j < n → f j ≡ g j) → collect n f ≡ collect n g
same_collected zero f g h = refl
same_collected (suc n) f g h = ap (λ bs. bs ++ f n) (same_collected n f g (λ j l. h j (omega (arith, l)))) ∙ ap (λ bs. collect n g ++ bs) (h n (omega arith))

-- a hop of a borrowed place: before the last star, or at it
abbrev Borrowed : Sight → Standing → Lval → (Option Value → List Awaited) → ℕ → Awaited → Type 0
Borrowed s x w f i a = ((suc i < w.depth) × IsAsked s x w i (to_read s.options.colours) a) ⊎ ((suc i ≡ w.depth) × IsAsked s x w i f a)

module _ (s : Sight) (x : Standing) (w : Lval) (f : Option Value → List Awaited) (k : Asks f) (p : Path) (made : (i : ℕ) (a : Awaited) → Borrowed s x w f i a → AwaitsAt s x p i a) (told : (i : ℕ) (a : Awaited) → AwaitsAt s x p i a → Borrowed s x w f i a) where
  abbrev pointer : ℕ → Option Value
  pointer i = hop_at s.ground x.thread.number w i

  -- what is asked for at each hop, where the last one has that number
  abbrev borrow_list : ℕ → ℕ → List Awaited
  borrow_list n i = pick (i == n) (f (pointer i)) (to_read s.options.colours (pointer i))

  is_last : (n i : ℕ) → i ≡ n → borrow_list n i ≡ f (pointer i)
  is_last n i e = let t : (i == n) ≡ true = grind (arith, nat_tests, e) in rw t refl

  is_before : (n i : ℕ) → i < n → borrow_list n i ≡ to_read s.options.colours (pointer i)
  is_before n i l = let t : (i == n) ≡ false = grind (arith, nat_tests, l) in rw t refl

  joined : (n : ℕ) → borrow_to s.options.colours f (hops s.ground x.thread.number w (suc n)) ≡ collect (suc n) (borrow_list n)
  joined n =
      borrow_collected s.options.colours f s.ground x.thread.number w n
      ∙ ap (λ bs. bs ++ f (pointer n)) (same_collected n (λ i. to_read s.options.colours (pointer i)) (borrow_list n) (λ j l. sym (is_before n j l)))
      ∙ ap (λ bs. collect n (borrow_list n) ++ bs) (sym (is_last n n refl))

  one_by : (q : Bool) (i : ℕ) (a : Awaited) → Among a (pick q (f (pointer i)) (to_read s.options.colours (pointer i))) → pick q (f (pointer i)) (to_read s.options.colours (pointer i)) ≡ a ∷ []
  one_by true i a m = k.one (pointer i) a m
  one_by false i a m = read_one s.options.colours (pointer i) a m

  listed_by : (n i : ℕ) (a : Awaited) → w.depth ≡ suc n → Borrowed s x w f i a → Among a (borrow_list n i)
  listed_by n i a d (inl q) =
      let l = q.0 in
      let low : i < n = omega (arith, l, d) in
      subst (λ bs. Among a bs) (sym (is_before n i low)) (asked_here s x w (to_read s.options.colours) i a q.1)
  listed_by n i a d (inr q) =
      let l = q.0 in
      let same : i ≡ n = omega (arith, l, d) in
      subst (λ bs. Among a bs) (sym (is_last n i same)) (asked_here s x w f i a q.1)

  from_list_by : (n i : ℕ) (a : Awaited) → w.depth ≡ suc n → i < suc n → (q : Bool) → (i == n) ≡ q → Among a (pick q (f (pointer i)) (to_read s.options.colours (pointer i))) → AwaitsAt s x p i a
  from_list_by n i a d l true e m =
      let same : i ≡ n = same_number i n e in
      made i a (inr (omega (arith, same, d), asked_from s x w f k i a m))
  from_list_by n i a d l false e m =
      let low : i < n = grind (arith, nat_tests, e, l) in
      made i a (inl (omega (arith, low, d), asked_from s x w (to_read s.options.colours) (reads_ask s.options.colours) i a m))

  within_by : (n i : ℕ) (a : Awaited) → w.depth ≡ suc n → Borrowed s x w f i a → i < suc n
  within_by n i a d (inl q) = let l = q.0 in omega (arith, l, d)
  within_by n i a d (inr q) = let l = q.0 in omega (arith, l, d)

  no_stars : (i : ℕ) (a : Awaited) → w.depth ≡ 0 → Borrowed s x w f i a → ⊥
  no_stars i a d (inl q) = let l = q.0 in omega (arith, l, d)
  no_stars i a d (inr q) = let l = q.0 in omega (arith, l, d)

  borrow_first_by : (a : Awaited) (m : ℕ) → w.depth ≡ m → first_unreadable (words_kept x.thread) x.server (borrow_to s.options.colours f (hops s.ground x.thread.number w m)) ≡ Some a → FirstUnread s x p a
  borrow_first_by a zero d e = absurd (cc e)
  borrow_first_by a (suc n) d e =
      let y = first_at (words_kept x.thread) x.server (suc n) (borrow_list n) a (ap (first_unreadable (words_kept x.thread) x.server) (sym (joined n)) ∙ e) in
      record {
        number = y.number;
        at = from_list_by n y.number a d y.within (y.number == n) refl y.among;
        unread = y.unread;
        before = λ j b l h. y.before j l b (listed_by n j b d (told j b h));
      }

  borrow_first : (a : Awaited) → first_unreadable (words_kept x.thread) x.server (borrow_to s.options.colours f (hops s.ground x.thread.number w w.depth)) ≡ Some a → FirstUnread s x p a
  borrow_first a e = borrow_first_by a w.depth refl e

  borrow_told_by : (a : Awaited) (u : FirstUnread s x p a) (m : ℕ) → w.depth ≡ m → first_unreadable (words_kept x.thread) x.server (borrow_to s.options.colours f (hops s.ground x.thread.number w m)) ≡ Some a
  borrow_told_by a u zero d = absurd (no_stars u.number a d (told u.number a u.at))
  borrow_told_by a u (suc n) d =
      let within : u.number < suc n = within_by n u.number a d (told u.number a u.at) in
      ap (first_unreadable (words_kept x.thread) x.server) (joined n)
      ∙ first_told (words_kept x.thread) x.server (suc n) (borrow_list n) a
      (record {
        number = u.number;
        within = within;
        among = listed_by n u.number a d (told u.number a u.at);
        unread = u.unread;
        before = λ j l b m. u.before j b l (from_list_by n j b d (omega (arith, l, within)) (j == n) refl m);
      })
      (λ b m. one_by (u.number == n) u.number b m)

  borrow_told : (a : Awaited) (u : FirstUnread s x p a) → first_unreadable (words_kept x.thread) x.server (borrow_to s.options.colours f (hops s.ground x.thread.number w w.depth)) ≡ Some a
  borrow_told a u = borrow_told_by a u w.depth refl

share_made : (s : Sight) (x : Standing) (w : Lval) (i : ℕ) (a : Awaited) → Borrowed s x w (to_clean s.options.colours) i a → AwaitsAt s x (shares w) i a
share_made s x w i a (inl q) = before_share w i a q.0 q.1
share_made s x w i a (inr q) = at_share w i a q.0 q.1

share_back : (s : Sight) (x : Standing) (w : Lval) (i : ℕ) (a : Awaited) → AwaitsAt s x (shares w) i a → Borrowed s x w (to_clean s.options.colours) i a
share_back s x w _ _ (before_share _ i a l q) = inl (l, q)
share_back s x w _ _ (at_share _ i a l q) = inr (l, q)

lend_made : (s : Sight) (x : Standing) (w : Lval) (i : ℕ) (a : Awaited) → Borrowed s x w to_write i a → AwaitsAt s x (lends w) i a
lend_made s x w i a (inl q) = before_lend w i a q.0 q.1
lend_made s x w i a (inr q) = at_lend w i a q.0 q.1

lend_back : (s : Sight) (x : Standing) (w : Lval) (i : ℕ) (a : Awaited) → AwaitsAt s x (lends w) i a → Borrowed s x w to_write i a
lend_back s x w _ _ (before_lend _ i a l q) = inl (l, q)
lend_back s x w _ _ (at_lend _ i a l q) = inr (l, q)

-- WRITES AND ENDS

first_is : (xs : List Awaited) (a : Awaited) → first_of xs ≡ Some a → Among a xs
first_is [] a e = absurd (cc e)
first_is (x ∷ xs) a e = let s : x ≡ a = cc e in inl s

told_first : (xs : List Awaited) (a : Awaited) → xs ≡ a ∷ [] → first_of xs ≡ Some a
told_first xs a e = ap first_of e

module _ (s : Sight) (x : Standing) (w : Lval) (a : Awaited) where
  next_by : (q : Bool) → nat_lt x.thread.passed w.depth ≡ q → (if q then first_of (to_write (hop_at s.ground x.thread.number w x.thread.passed)) else None) ≡ Some a → NextHop s x w a
  next_by true e h =
      record { within = grind (arith, nat_tests, e); asked = asked_from s x w to_write writes_ask x.thread.passed a (first_is (to_write (hop_at s.ground x.thread.number w x.thread.passed)) a h) }
  next_by false e h = absurd (cc h)

  next_from : next_hop s x w ≡ Some a → NextHop s x w a
  next_from e = next_by (nat_lt x.thread.passed w.depth) refl e

  next_told : NextHop s x w a → next_hop s x w ≡ Some a
  next_told n =
      let l = n.within in
      let low : nat_lt x.thread.passed w.depth ≡ true = grind (arith, nat_tests, l) in
      let one : to_write (hop_at s.ground x.thread.number w x.thread.passed) ≡ a ∷ [] = writes_ask.one (hop_at s.ground x.thread.number w x.thread.passed) a (asked_here s x w to_write x.thread.passed a n.asked) in
      rw low (told_first (to_write (hop_at s.ground x.thread.number w x.thread.passed)) a one)

-- ALL PATHS

module _ (s : Sight) (x : Standing) (w : ℕ) (a : Awaited) where
  end_by : (r : MutRef) (q : Bool) → (r.word == w) ≡ q → (if q then first_of (to_write (Some (value.Mut r))) else next_hop s x r.holder) ≡ Some a → InTurn s x w a (ends r)
  end_by r true e h = by_end r (same_number r.word w e) (first_is (to_write (Some (value.Mut r))) a h)
  end_by r false e h = by_holder r (λ same. let t : (r.word == w) ≡ true = grind (arith, nat_tests, same) in let z : true ≡ false = sym t ∙ e in absurd (cc z)) (next_from s x r.holder a h)

  turn_from : (p : Path) → in_turn s x w p ≡ Some a → InTurn s x w a p
  turn_from no_path e = absurd (cc e)
  turn_from (reads p) e = by_read p (reads_first s x p a e)
  turn_from (shares p) e = by_share p (borrow_first s x p (to_clean s.options.colours) (cleans_ask s.options.colours) (shares p) (share_made s x p) (share_back s x p) a e)
  turn_from (lends p) e = by_lend p (borrow_first s x p to_write writes_ask (lends p) (lend_made s x p) (lend_back s x p) a e)
  turn_from (writes p) e = by_write p (next_from s x p a e)
  turn_from (ends r) e = end_by r (r.word == w) refl e

  turn_told : (p : Path) → InTurn s x w a p → in_turn s x w p ≡ Some a
  turn_told _ (by_read p u) = reads_told s x p a u
  turn_told _ (by_share p u) = borrow_told s x p (to_clean s.options.colours) (cleans_ask s.options.colours) (shares p) (share_made s x p) (share_back s x p) a u
  turn_told _ (by_lend p u) = borrow_told s x p to_write writes_ask (lends p) (lend_made s x p) (lend_back s x p) a u
  turn_told _ (by_write p n) = next_told s x p a n
  turn_told _ (by_end r e m) =
      let t : (r.word == w) ≡ true = grind (arith, nat_tests, e) in
      rw t (told_first (to_write (Some (value.Mut r))) a (writes_ask.one (Some (value.Mut r)) a m))
  turn_told _ (by_holder r n h) =
      let t : (r.word == w) ≡ false = eq_cases (λ b. b ≡ false) r.word w (λ e. absurd (n e)) (λ e. refl) in
      rw t (next_told s x r.holder a h)

-- THE SENTENCE

some_one : (n : ℕ) → some n ≡ true → 1 ≤ n
some_one zero e = absurd (cc e)
some_one (suc n) e = omega arith

one_some : (n : ℕ) → 1 ≤ n → some n ≡ true
one_some zero l = absurd (omega (arith, l))
one_some (suc n) l = refl

is_so : (q : Bool) → other q ≡ 0 → q ≡ true
is_so true z = refl
is_so false z = absurd (cc z)

waits_by : (s : Sight) (x : Standing) (w : ℕ) (o : Option Awaited) → in_turn s x w (path s x) ≡ o → not_asked s x w o ≡ 0 → WaitsFor s x w
waits_by s x w None e z = absurd (cc z)
waits_by s x w (Some a) e z =
    let n = tot (asked_for x.thread.number a) s.things in
    let both = is_so (a.word == w && some n) z in
    record {
      awaited = a;
      turn = turn_from s x w a (path s x) e;
      word = same_number a.word w (and_left (a.word == w) (some n) both);
      asked = some_one n (and_right (a.word == w) (some n) both);
    }

from_count : (s : Sight) → turn_wrong s ≡ 0 → WaitInTurn s
from_count s z x w m e =
    let here : out_of_turn s x x.thread.phase ≡ 0 = none_at (λ (y : Standing). out_of_turn s y y.thread.phase) x s.ground.threads z m in
    waits_by s x w (in_turn s x w (path s x)) refl (subst (λ f. out_of_turn s x f ≡ 0) e here)

none_asked : (s : Sight) (x : Standing) (w : ℕ) → WaitsFor s x w → not_asked s x w (in_turn s x w (path s x)) ≡ 0
none_asked s x w h =
    let told : in_turn s x w (path s x) ≡ Some h.awaited = turn_told s x w h.awaited (path s x) h.turn in
    let same = h.word in
    let word : (h.awaited.word == w) ≡ true = grind (arith, nat_tests, same) in
    let asked : some (tot (asked_for x.thread.number h.awaited) s.things) ≡ true = one_some (tot (asked_for x.thread.number h.awaited) s.things) h.asked in
    let so : not_asked s x w (Some h.awaited) ≡ 0 = rw word (rw asked refl) in
    subst (λ o. not_asked s x w o ≡ 0) (sym told) so

phase_none : (s : Sight) (x : Standing) (f : Phase) → ((w : ℕ) → f ≡ phase.WaitCell w → WaitsFor s x w) → out_of_turn s x f ≡ 0
phase_none s x (phase.WaitCell w) h = none_asked s x w (h w refl)
phase_none s x _ h = refl

none_counted : (s : Sight) → WaitInTurn s → turn_wrong s ≡ 0
none_counted s h = none_all (λ (y : Standing). out_of_turn s y y.thread.phase) s.ground.threads (λ x m. phase_none s x x.thread.phase (λ w e. h x w m e))

pub turn_law : TurnLaw
turn_law = record { from_count = from_count; none_counted = none_counted; told = λ s x w a h. turn_told s x w a (path s x) h }
