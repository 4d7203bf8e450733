-- What the chains of those that wait stand for, once one of them is longer or shorter by one.
use Rattle.std.proofs.Common.{◌≡◌, ◌≢◌, ◌⊎◌, inl, inr, ℕ, zero, suc, ◌+◌, ◌-◌, ◌<◌, Bool, true, false, true≢false, ◌==◌, ◌&&◌, List, [], ◌∷◌, ◌++◌, length, map, slice_get, slice_index_or, slice_set, Option, None, Some, is_none, refl, sym, ap, ◌∙◌, arith}
use Rattle.std.proofs.lemmas.Bool.{eq-eqb, eqb-true, and_parts, and_from}
use Rattle.std.proofs.lemmas.List.{get_or-set_other, length-map, length-set}
use Rattle.std.proofs.lemmas.List.Sums.{sum_by-set, sum_by_push}
use Rattle.std.proofs.lemmas.Option.{slice_get_read, slice_get_within, get_or_from_slice_get}
use Rattle.mutex_home.specs.declared.queues.Node.{Node}
use Rattle.mutex_home.specs.declared.queues.Ends.{Ends}
use Rattle.mutex_home.specs.Queues.{linked, chain, is_end, is_link, is_chain, AllChained, all_waiting, queues_of, appended, with_next, first_key, queue_at, with_last, taken_from, first_taken}

-- a node of a chain, and the chain after it
pub record Link (nodes : List (Option Node)) (mutex n : ℕ) (from : Option ℕ) (last : ℕ) : Type 0 where
  pub key : ℕ
  pub node : Node
  pub from_is : from ≡ Some key
  pub there : slice_index_or nodes key None ≡ Some node
  pub mutex_is : node.mutex ≡ mutex
  pub ends : is_end n (Some key) last ≡ true
  pub rest : is_chain nodes mutex n node.next last ≡ true

pub link : (nodes : List (Option Node)) (mutex n : ℕ) (from : Option ℕ) (last : ℕ) → is_chain nodes mutex (suc n) from last ≡ true → Link nodes mutex n from last
link nodes mutex n None last h = absurd (true≢false (sym h))
link nodes mutex n (Some key) last h = by (slice_index_or nodes key None) refl h
  where
    by : (o : Option Node) → slice_index_or nodes key None ≡ o → is_link (λ next. is_chain nodes mutex n next last) mutex (is_end n (Some key) last) o ≡ true → Link nodes mutex n (Some key) last
    by None g i = absurd (true≢false (sym i))
    by (Some x) g i =
        let one = and_parts (x.mutex == mutex) (is_end n (Some key) last && is_chain nodes mutex n x.next last) i in
        let two = and_parts (is_end n (Some key) last) (is_chain nodes mutex n x.next last) one.1 in
        record { key = key; node = x; from_is = refl; there = g; mutex_is = eqb-true x.mutex mutex one.0; ends = two.0; rest = two.1 }

-- a chain of so many that wait
abbrev pub Stands : List (Option Node) → ℕ → ℕ → Option ℕ → ℕ → List (ℕ × ℕ) → Type 0
Stands nodes mutex n from last who = (is_chain nodes mutex n from last ≡ true) × (chain nodes n from ≡ who)

pub read : (nodes : List (Option Node)) (n : ℕ) (from : Option ℕ) (key : ℕ) (x : Node) → from ≡ Some key → slice_index_or nodes key None ≡ Some x → chain nodes (suc n) from ≡ (x.server, x.thread) ∷ chain nodes n x.next
read nodes n from key x f g = ap (chain nodes (suc n)) f ∙ ap (linked (chain nodes n)) g

pub joined : (nodes : List (Option Node)) (mutex n : ℕ) (from : Option ℕ) (last key : ℕ) (x : Node) (who : List (ℕ × ℕ)) → from ≡ Some key → slice_index_or nodes key None ≡ Some x → x.mutex ≡ mutex → is_end n (Some key) last ≡ true
    → Stands nodes mutex n x.next last who → Stands nodes mutex (suc n) from last ((x.server, x.thread) ∷ who)
joined nodes mutex n from last key x who f g m e h = (
  ap (λ o. is_chain nodes mutex (suc n) o last) f
      ∙ ap (is_link (λ next. is_chain nodes mutex n next last) mutex (is_end n (Some key) last)) g
      ∙ and_from (x.mutex == mutex) (is_end n (Some key) last && is_chain nodes mutex n x.next last) (eq-eqb x.mutex mutex m) (and_from (is_end n (Some key) last) (is_chain nodes mutex n x.next last) e h.0),
  read nodes n from key x f g ∙ ap (λ rest. (x.server, x.thread) ∷ rest) h.1,
)

same : {X : Type 0} {a b : X} {o : Option X} → o ≡ Some a → o ≡ Some b → a ≡ b
same f g = cc

no_key : (from : Option ℕ) → is_none from ≡ true → from ≡ None
no_key None h = refl
no_key (Some key) h = absurd (true≢false (sym h))

not_both : {X : Type 0} {a : X} {o : Option X} → o ≡ None → o ≡ Some a → true ≡ false
not_both f g = absurd cc

-- a chain stays where the nodes of its mutex do
pub kept : (s t : List (Option Node)) (mutex n : ℕ) (from : Option ℕ) (last : ℕ) → ((key : ℕ) (x : Node) → x.mutex ≡ mutex → slice_index_or s key None ≡ Some x → slice_index_or t key None ≡ Some x)
    → is_chain s mutex n from last ≡ true → Stands t mutex n from last (chain s n from)
kept s t mutex zero from last there h = (h, refl)
kept s t mutex (suc n) from last there h =
    let l = link s mutex n from last h in
    let rest = kept s t mutex n l.node.next last there l.rest in
    let whole = joined t mutex n from last l.key l.node (chain s n l.node.next) l.from_is (there l.key l.node l.mutex_is l.there) l.mutex_is l.ends rest in
    (whole.0, whole.1 ∙ sym (read s n from l.key l.node l.from_is l.there))

-- a chain leads to its end in one number of steps
pub exact : (s : List (Option Node)) (mutex m n : ℕ) (from : Option ℕ) (last : ℕ) → is_chain s mutex m from last ≡ true → is_chain s mutex n from last ≡ true → m ≡ n
exact s mutex zero zero from last g h = refl
exact s mutex zero (suc n) from last g h = let l = link s mutex n from last h in absurd (true≢false ((not_both (no_key from g) l.from_is)))
exact s mutex (suc m) zero from last g h = let l = link s mutex m from last g in absurd (true≢false ((not_both (no_key from h) l.from_is)))
exact s mutex (suc m) (suc n) from last g h =
    let k = link s mutex m from last g in
    let l = link s mutex n from last h in
    let keys = same k.from_is l.from_is in
    let nodes = same k.there (ap (λ key. slice_index_or s key None) keys ∙ l.there) in
    ap suc (exact s mutex m n l.node.next last (ap (λ x. is_chain s mutex m x.next last) (sym nodes) ∙ k.rest) l.rest)

-- a node isn't in a chain that is shorter than the one from it on
pub shorter : (s t : List (Option Node)) (mutex m key n : ℕ) (from : Option ℕ) (last : ℕ) → ((other : ℕ) → other ≢ key → slice_index_or t other None ≡ slice_index_or s other None)
    → is_chain s mutex m (Some key) last ≡ true → n < m → is_chain s mutex n from last ≡ true → Stands t mutex n from last (chain s n from)
shorter s t mutex m key zero from last others g less h = (h, refl)
shorter s t mutex m key (suc n) from last others g less h =
    let l = link s mutex n from last h in
    let rest = shorter s t mutex m key n l.node.next last others g (omega (arith, less)) l.rest in
    let apart : l.key ≢ key = λ e. let both = exact s mutex (suc n) m from last h (ap (λ o. is_chain s mutex m o last) (l.from_is ∙ ap Some e) ∙ g) in omega (arith, both, less) in
    let whole = joined t mutex n from last l.key l.node (chain s n l.node.next) l.from_is (others l.key apart ∙ l.there) l.mutex_is l.ends rest in
    (whole.0, whole.1 ∙ sym (read s n from l.key l.node l.from_is l.there))

-- the last node of a chain
pub record Last (s : List (Option Node)) (mutex last : ℕ) : Type 0 where
  pub node : Node
  pub there : slice_index_or s last None ≡ Some node
  pub next_is : node.next ≡ None
  pub mutex_is : node.mutex ≡ mutex

pub last_there : (s : List (Option Node)) (mutex n : ℕ) (from : Option ℕ) (last : ℕ) → is_chain s mutex (suc n) from last ≡ true → Last s mutex last
last_there s mutex zero from last h =
    let l = link s mutex zero from last h in
    record { node = l.node; there = ap (λ key. slice_index_or s key None) (sym (eqb-true l.key last l.ends)) ∙ l.there; next_is = no_key l.node.next l.rest; mutex_is = l.mutex_is }
last_there s mutex (suc n) from last h = last_there s mutex n (link s mutex (suc n) from last h).node.next last (link s mutex (suc n) from last h).rest

-- one more comes after the last of a chain
pub one_longer : (s t : List (Option Node)) (mutex n : ℕ) (from : Option ℕ) (last key : ℕ) (y w : Node) → slice_index_or s last None ≡ Some y → y.next ≡ None → slice_index_or t last None ≡ Some (record y { next = Some key })
    → slice_index_or t key None ≡ Some w → w.mutex ≡ mutex → w.next ≡ None → ((other : ℕ) (x : Node) → other ≢ last → slice_index_or s other None ≡ Some x → slice_index_or t other None ≡ Some x)
    → is_chain s mutex (suc n) from last ≡ true → Stands t mutex (suc (suc n)) from key (chain s (suc n) from ++ (w.server, w.thread) ∷ [])
one_longer s t mutex zero from last key y w was ends is new m e others h =
    let l = link s mutex zero from last h in
    let at_last = eqb-true l.key last l.ends in
    let node = same l.there (ap (λ k. slice_index_or s k None) at_last ∙ was) in
    let after = joined t mutex zero (Some key) key key w [] refl new m (eq-eqb key key refl) (ap is_none e, refl) in
    let whole = joined t mutex (suc zero) from key l.key (record y { next = Some key }) ((w.server, w.thread) ∷ []) l.from_is (ap (λ k. slice_index_or t k None) at_last ∙ is) (ap (λ x. x.mutex) (sym node) ∙ l.mutex_is) refl after in
    let alone = read s zero from l.key l.node l.from_is l.there in
    (whole.0, rw (alone, node) whole.1)
one_longer s t mutex (suc n) from last key y w was ends is new m e others h =
    let l = link s mutex (suc n) from last h in
    let next = link s mutex n l.node.next last l.rest in
    let apart : l.key ≢ last = λ i. true≢false ((not_both (ap (λ x. x.next) (same l.there (ap (λ k. slice_index_or s k None) i ∙ was)) ∙ ends) next.from_is)) in
    let rest = one_longer s t mutex n l.node.next last key y w was ends is new m e others l.rest in
    let whole = joined t mutex (suc (suc n)) from key l.key l.node (chain s (suc n) l.node.next ++ (w.server, w.thread) ∷ []) l.from_is (others l.key l.node apart l.there) l.mutex_is refl rest in
    (whole.0, whole.1 ∙ sym (ap (λ who. who ++ (w.server, w.thread) ∷ []) (read s (suc n) from l.key l.node l.from_is l.there)))

-- what is written over an entry is there
pub set_here : {X : Type 0} (xs : List (Option X)) (i : ℕ) (x y : X) → slice_index_or xs i None ≡ Some x → slice_index_or (slice_set xs i (Some y)) i None ≡ Some y
set_here [] i x y h = absurd cc
set_here (z ∷ xs) zero x y h = refl
set_here (z ∷ xs) (suc i) x y h = set_here xs i x y h

-- a node was added under a key that was vacant
pub record Added (s u : List (Option Node)) (key : ℕ) (w : Node) : Type 0 where
  pub vacant : slice_index_or s key None ≡ None
  pub there : slice_index_or u key None ≡ Some w
  pub others : (other : ℕ) → other ≢ key → slice_index_or u other None ≡ slice_index_or s other None

pub added_others : (s u : List (Option Node)) (key : ℕ) (w : Node) → Added s u key w → (other : ℕ) (x : Node) → slice_index_or s other None ≡ Some x → slice_index_or u other None ≡ Some x
added_others s u key w a other x h = a.others other (λ e. true≢false (not_both (ap (λ k. slice_index_or s k None) e ∙ a.vacant) h)) ∙ h

-- what it leads to once it comes after the last of the chain of its mutex
abbrev pub Longer : List (Option Node) → List (Option Node) → ℕ → ℕ → Option ℕ → ℕ → Node → Type 0
Longer s t mutex n from key w =
    Stands t mutex (n + 1) (first_key from key) key (chain s n from ++ (w.server, w.thread) ∷ []) × ((other : ℕ) (x : Node) → x.mutex ≢ mutex → slice_index_or s other None ≡ Some x → slice_index_or t other None ≡ Some x)

pub longer : (s u : List (Option Node)) (mutex n : ℕ) (from : Option ℕ) (last key : ℕ) (w : Node) → Added s u key w → w.mutex ≡ mutex → w.next ≡ None → is_chain s mutex n from last ≡ true
    → Longer s (appended u from last key) mutex n from key w
longer s u mutex zero (Some first) last key w a m e h = absurd (true≢false (sym h))
longer s u mutex (suc n) None last key w a m e h = absurd (true≢false (sym h))
longer s u mutex zero None last key w a m e h = (
  joined u mutex zero (Some key) key key w [] refl a.there m (eq-eqb key key refl) (ap is_none e, refl),
  λ other x d g. added_others s u key w a other x g,
)
longer s u mutex (suc n) (Some first) last key w a m e h =
    let y = last_there s mutex n (Some first) last h in
    let before = added_others s u key w a last y.node y.there in
    let t = slice_set u last (Some (record y.node { next = Some key })) in
    let is : appended u (Some first) last key ≡ t = ap (with_next u last key) before in
    let apart : key ≢ last = λ i. true≢false (not_both (ap (λ k. slice_index_or s k None) (sym i) ∙ a.vacant) y.there) in
    let others : (other : ℕ) (x : Node) → other ≢ last → slice_index_or s other None ≡ Some x → slice_index_or t other None ≡ Some x = λ other x d g. get_or-set_other u last other (Some (record y.node { next = Some key })) None d ∙ added_others s u key w a other x g in
    let whole =
    one_longer s t mutex n (Some first) last key y.node w y.there y.next_is (set_here u last y.node (record y.node { next = Some key }) before) (get_or-set_other u last key (Some (record y.node { next = Some key })) None apart ∙ a.there) m e others h in
    let more : suc n + 1 ≡ suc (suc n) = omega arith in
    rw (is, more) (whole, λ other x d g. others other x (λ i. d (ap (λ z. z.mutex) (same g (ap (λ k. slice_index_or s k None) i ∙ y.there)) ∙ y.mutex_is)) g)

-- the first of a chain goes
pub one_shorter : (s t : List (Option Node)) (mutex n key : ℕ) (last : ℕ) (x : Node) → slice_index_or s key None ≡ Some x → ((other : ℕ) → other ≢ key → slice_index_or t other None ≡ slice_index_or s other None)
    → is_chain s mutex (suc n) (Some key) last ≡ true → Stands t mutex n x.next last (chain s n x.next) × ((other : ℕ) (y : Node) → y.mutex ≢ mutex → slice_index_or s other None ≡ Some y → slice_index_or t other None ≡ Some y)
one_shorter s t mutex n key last x g others h =
    let l = link s mutex n (Some key) last h in
    let keys = same l.from_is refl in
    let node = same l.there (ap (λ k. slice_index_or s k None) keys ∙ g) in (
      shorter s t mutex (suc n) key n x.next last others h (omega arith) (ap (λ z. is_chain s mutex n z.next last) (sym node) ∙ l.rest),
      λ other y d i. others other (λ e. d (ap (λ z. z.mutex) (same i (ap (λ k. slice_index_or s k None) e ∙ g)) ∙ ap (λ z. z.mutex) (sym node) ∙ l.mutex_is)) ∙ i,
    )

-- one element is another one
read_set : (xs : List Ends) (i : ℕ) (y e : Ends) → slice_get (slice_set xs i y) i ≡ Some e → e ≡ y
read_set [] i y e h = absurd cc
read_set (x ∷ xs) zero y e h = cc
read_set (x ∷ xs) (suc i) y e h = read_set xs i y e h

read_other : (xs : List Ends) (i j : ℕ) (y : Ends) → j ≢ i → slice_get (slice_set xs i y) j ≡ slice_get xs j
read_other [] i j y d = refl
read_other (x ∷ xs) zero zero y d = absurd (d refl)
read_other (x ∷ xs) zero (suc j) y d = refl
read_other (x ∷ xs) (suc i) zero y d = refl
read_other (x ∷ xs) (suc i) (suc j) y d = read_other xs i j y (λ e. d (ap suc e))

module _ (f g : Ends → List (ℕ × ℕ)) where
  map_same : (xs : List Ends) → ((j : ℕ) (x : Ends) → slice_get xs j ≡ Some x → g x ≡ f x) → map g xs ≡ map f xs
  map_same [] alike = refl
  map_same (x ∷ xs) alike = rw (alike zero x refl, map_same xs (λ j y h. alike (suc j) y h)) refl

  pub map_set : (xs : List Ends) (i : ℕ) (y : Ends) → ((j : ℕ) (x : Ends) → j ≢ i → slice_get xs j ≡ Some x → g x ≡ f x) → map g (slice_set xs i y) ≡ slice_set (map f xs) i (g y)
  map_set [] i y alike = refl
  map_set (x ∷ xs) zero y alike = ap (λ zs. g y ∷ zs) (map_same xs (λ j z h. alike (suc j) z (λ e. omega (arith, e)) h))
  map_set (x ∷ xs) (suc i) y alike = rw (alike zero x (λ e. omega (arith, e)) refl, map_set xs i y (λ j z d h. alike (suc j) z (λ e. d (omega (arith, e))) h)) refl

-- one mutex has another chain, and the others theirs
pub one_changed : (s t : List (Option Node)) (es : List Ends) (i : ℕ) (new : Ends) (who : List (ℕ × ℕ)) → AllChained s es
    → ((other : ℕ) (x : Node) → x.mutex ≢ i → slice_index_or s other None ≡ Some x → slice_index_or t other None ≡ Some x)
    → Stands t i new.waiting new.first new.last who → AllChained t (slice_set es i new) × (queues_of t (slice_set es i new) ≡ slice_set (queues_of s es) i who)
one_changed s t es i new who all others h = (chained, map_set (λ e. chain s e.waiting e.first) (λ e. chain t e.waiting e.first) es i new alike ∙ ap (slice_set (queues_of s es) i) h.1)
  where
    stays : (j : ℕ) (e : Ends) → j ≢ i → slice_get es j ≡ Some e → Stands t j e.waiting e.first e.last (chain s e.waiting e.first)
    stays j e d g = kept s t j e.waiting e.first e.last (λ other x m. others other x (λ k. d (sym m ∙ k))) (all j e g)

    alike : (j : ℕ) (e : Ends) → j ≢ i → slice_get es j ≡ Some e → chain t e.waiting e.first ≡ chain s e.waiting e.first
    alike j e d g = (stays j e d g).1

    chained : AllChained t (slice_set es i new)
    chained j e g = by (j == i) refl
      where
        by : (q : Bool) → (j == i) ≡ q → is_chain t j e.waiting e.first e.last ≡ true
        by true p =
            let at = eqb-true j i p in
            let is = read_set es i new e (ap (slice_get (slice_set es i new)) (sym at) ∙ g) in
            ap (λ k. is_chain t k e.waiting e.first e.last) at ∙ ap (λ z. is_chain t i z.waiting z.first z.last) is ∙ h.0
        by false p = let d : j ≢ i = λ k. true≢false (sym (eq-eqb j i k) ∙ p) in (stays j e d (sym (read_other es i j new d) ∙ g)).0

pub queue_is : (s : List (Option Node)) (es : List Ends) (i : ℕ) (e : Ends) → slice_get es i ≡ Some e → queue_at (queues_of s es) i ≡ chain s e.waiting e.first
queue_is s [] i e g = absurd cc
queue_is s (x ∷ es) zero e g = let is : x ≡ e = cc in ap (λ z. chain s z.waiting z.first) is
queue_is s (x ∷ es) (suc i) e g = queue_is s es i e g

pub total_set : (es : List Ends) (i : ℕ) (e new : Ends) → slice_get es i ≡ Some e → all_waiting (slice_set es i new) + e.waiting ≡ all_waiting es + new.waiting
total_set es i e new g = ap (λ z. all_waiting (slice_set es i new) + z.waiting) (sym (get_or_from_slice_get es i e e g)) ∙ sum_by-set (λ z. z.waiting) es i new e (slice_get_within es i e g)

-- one more waits for a mutex
pub pushed : (s u : List (Option Node)) (es : List Ends) (i key : ℕ) (e : Ends) (w : Node) → AllChained s es → slice_get es i ≡ Some e → Added s u key w → w.mutex ≡ i → w.next ≡ None
    → AllChained (appended u e.first e.last key) (slice_set es i (record { first = first_key e.first key; last = key; waiting = e.waiting + 1 }))
    × (queues_of (appended u e.first e.last key) (slice_set es i (record { first = first_key e.first key; last = key; waiting = e.waiting + 1 })) ≡ with_last (queues_of s es) i (w.server, w.thread))
pushed s u es i key e w all g a m n =
    let l = longer s u i e.waiting e.first e.last key w a m n (all i e g) in
    let both = one_changed s (appended u e.first e.last key) es i (record { first = first_key e.first key; last = key; waiting = e.waiting + 1 }) (chain s e.waiting e.first ++ (w.server, w.thread) ∷ []) all l.1 l.0 in
    (both.0, both.1 ∙ ap (λ who. slice_set (queues_of s es) i (who ++ (w.server, w.thread) ∷ [])) (sym (queue_is s es i e g)))

nobody : (s : List (Option Node)) (mutex n : ℕ) (from : Option ℕ) (last : ℕ) → from ≡ None → is_chain s mutex n from last ≡ true → chain s n from ≡ []
nobody s mutex zero from last f h = refl
nobody s mutex (suc n) from last f h = let l = link s mutex n from last h in absurd (true≢false ((not_both f l.from_is)))

pub none_taken : (s : List (Option Node)) (es : List Ends) (i : ℕ) (e : Ends) → AllChained s es → slice_get es i ≡ Some e → e.first ≡ None → first_taken (queues_of s es) i ≡ (queues_of s es, None)
none_taken s es i e all g f = ap (taken_from (queues_of s es) i) (queue_is s es i e g ∙ nobody s i e.waiting e.first e.last f (all i e g))

some_wait : (s : List (Option Node)) (mutex n : ℕ) (from : Option ℕ) (last key : ℕ) → from ≡ Some key → is_chain s mutex n from last ≡ true → n ≡ suc (n - 1)
some_wait s mutex zero from last key f h = absurd (true≢false ((not_both (no_key from h) f)))
some_wait s mutex (suc n) from last key f h = omega arith

-- the first that waits for a mutex
pub record First (s : List (Option Node)) (i : ℕ) (e : Ends) (key : ℕ) : Type 0 where
  pub waiting : e.waiting ≡ suc (e.waiting - 1)
  pub whole : is_chain s i (suc (e.waiting - 1)) (Some key) e.last ≡ true
  pub node : Node
  pub there : slice_index_or s key None ≡ Some node

pub first_there : (s : List (Option Node)) (es : List Ends) (i : ℕ) (e : Ends) (key : ℕ) → AllChained s es → slice_get es i ≡ Some e → e.first ≡ Some key → First s i e key
first_there s es i e key all g f =
    let waits = some_wait s i e.waiting e.first e.last key f (all i e g) in
    let whole : is_chain s i (suc (e.waiting - 1)) (Some key) e.last ≡ true = ap (λ o. is_chain s i (suc (e.waiting - 1)) o e.last) (sym f) ∙ ap (λ n. is_chain s i n e.first e.last) (sym waits) ∙ all i e g in
    let l = link s i (e.waiting - 1) (Some key) e.last whole in
    record { waiting = waits; whole = whole; node = l.node; there = ap (λ k. slice_index_or s k None) (same refl l.from_is) ∙ l.there }

-- it waits no longer
pub some_taken : (s t : List (Option Node)) (es : List Ends) (i : ℕ) (e : Ends) (key : ℕ) (x : Node) → AllChained s es → slice_get es i ≡ Some e → e.first ≡ Some key → slice_index_or s key None ≡ Some x
    → ((other : ℕ) → other ≢ key → slice_index_or t other None ≡ slice_index_or s other None)
    → AllChained t (slice_set es i (record { first = x.next; last = e.last; waiting = e.waiting - 1 }))
    × (first_taken (queues_of s es) i ≡ (queues_of t (slice_set es i (record { first = x.next; last = e.last; waiting = e.waiting - 1 })), Some (x.server, x.thread)))
some_taken s t es i e key x all g f there others =
    let first = first_there s es i e key all g f in
    let l = one_shorter s t i (e.waiting - 1) key e.last x there others first.whole in
    let both = one_changed s t es i (record { first = x.next; last = e.last; waiting = e.waiting - 1 }) (chain s (e.waiting - 1) x.next) all l.1 l.0 in (
      both.0,
      ap (taken_from (queues_of s es) i) (queue_is s es i e g ∙ ap (λ n. chain s n e.first) first.waiting ∙ read s (e.waiting - 1) e.first key x f there)
          ∙ ap (λ lists. (lists, Some (x.server, x.thread))) (sym both.1),
    )

read_push : (xs : List Ends) (i : ℕ) (e y : Ends) → slice_get (xs ++ y ∷ []) i ≡ Some e → (slice_get xs i ≡ Some e) ⊎ (e ≡ y)
read_push [] zero e y g = inr cc
read_push [] (suc i) e y g = absurd cc
read_push (x ∷ xs) zero e y g = inl g
read_push (x ∷ xs) (suc i) e y g = read_push xs i e y g

-- none waits for a new mutex
pub one_made : (s : List (Option Node)) (es : List Ends) (new : Ends) → AllChained s es → new.waiting ≡ 0 → new.first ≡ None → AllChained s (es ++ new ∷ [])
one_made s es new all n f i e g = by (read_push es i e new g)
  where
    by : (slice_get es i ≡ Some e) ⊎ (e ≡ new) → is_chain s i e.waiting e.first e.last ≡ true
    by (inl h) = all i e h
    by (inr h) = ap (λ z. is_chain s i z.waiting z.first z.last) h ∙ ap (λ k. is_chain s i k new.first new.last) n ∙ ap is_none f

pub total_made : (es : List Ends) (new : Ends) → new.waiting ≡ 0 → all_waiting (es ++ new ∷ []) ≡ all_waiting es
total_made es new n = let s = sum_by_push (λ z. z.waiting) es new in omega (arith, s, n)

-- where a mutex was made, its ends are read
pub end_there : (s : List (Option Node)) (es : List Ends) (i : ℕ) (e : Ends) {n : ℕ} → length (queues_of s es) ≡ n → i < n → e ≡ slice_index_or es i e → slice_get es i ≡ Some e
end_there s es i e h less g = let n = length-map es (λ z. chain s z.waiting z.first) in slice_get_read es (length es) i e refl (omega (arith, less, h, n)) g

pub same_length : (s t : List (Option Node)) (es : List Ends) (i : ℕ) (new : Ends) → length (queues_of t (slice_set es i new)) ≡ length (queues_of s es)
same_length s t es i new = length-map (slice_set es i new) (λ e. chain t e.waiting e.first) ∙ length-set es i new ∙ sym (length-map es (λ e. chain s e.waiting e.first))
