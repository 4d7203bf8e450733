-- What the mutexes of a home weigh once one is asked for, comes back, or has another share: contents that are in, and homes.
use Rattle.std.proofs.Common.{◌≡◌, ℕ, ◌+◌, ◌-◌, ◌^◌, ◌==◌, ◌&&◌, nat_lt, Bool, true, false, is_some, if◌then◌else◌, List, [], ◌∷◌, ◌++◌, Option, Some, None, refl, sym, ap, subst, ◌∙◌, arith}
use Rattle.law_counts_waiting.specs.Below.fr_base.declared.name.MutexNo.{MutexNo}
use Rattle.law_counts_waiting.specs.Below.fr_base.Names.{same_mutex}
use Rattle.law_counts_waiting.specs.Below.heap_partition.declared.value.Owned.{Owned}
use Rattle.law_counts_waiting.specs.Below.mutex_home.Mutexes.{Mutex, Mutexes, mutex_in, with_mutex, without_mutex, put_mutex, end_mutex, make, next_mutex, asked_of, asked_in, ask, back_to, back_out, back_in, give_back, more_in, more, last_less, less_of, less_in, less}
use Rattle.law_counts_waiting.specs.Below.mutex_home.declared.answers.Asked.{Asked}
use Rattle.law_counts_waiting.specs.Below.mutex_home.declared.answers.Asked.TheVariants as asked
use Rattle.law_counts_waiting.specs.Below.mutex_home.declared.answers.Back.{Back}
use Rattle.law_counts_waiting.specs.Below.mutex_home.declared.answers.Back.TheVariants as back
use Rattle.law_counts_waiting.specs.Below.coherent_memory.Names.{tot, if_so}
use Rattle.law_counts_waiting.proofs.Below.coherent_memory.Sums.{tot-append}
use Rattle.law_counts_waiting.specs.Below.law_counts_sums.Laws.{Gives}
use Rattle.law_counts_waiting.proofs.Below.law_counts_sums.Results.{test_gives}
use Rattle.law_counts_waiting.proofs.Below.law_counts_sums.MutexLists.{found_number}
use Rattle.law_counts_waiting.proofs.contents.Weigh.{inside, home}

-- another state of a mutex stands where it stood
put_sum : (f : Mutex → ℕ) (xs : List Mutex) (x new : Mutex) → mutex_in xs new.number ≡ Some x → tot f (with_mutex xs new) + f x ≡ tot f xs + f new
put_sum f [] x new e = absurd (cc e)
put_sum f (y ∷ xs) x new e = by (same_mutex y.number new.number) e (put_sum f xs x new)
  where
    by : (q : Bool) → (if q then Some y else mutex_in xs new.number) ≡ Some x → (mutex_in xs new.number ≡ Some x → tot f (with_mutex xs new) + f x ≡ tot f xs + f new) → tot f (if q then new ∷ xs else y ∷ with_mutex xs new) + f x ≡ f y + tot f xs + f new
    by true h go = let same : y ≡ x = cc in let weighs : f y ≡ f x = ap f same in omega (arith, weighs)
    by false h go = omega (arith, go h)

-- a mutex goes
end_sum : (f : Mutex → ℕ) (xs : List Mutex) (m : MutexNo) (x : Mutex) → mutex_in xs m ≡ Some x → tot f (without_mutex xs m) + f x ≡ tot f xs
end_sum f [] m x e = absurd (cc e)
end_sum f (y ∷ xs) m x e = by (same_mutex y.number m) e (end_sum f xs m x)
  where
    by : (q : Bool) → (if q then Some y else mutex_in xs m) ≡ Some x → (mutex_in xs m ≡ Some x → tot f (without_mutex xs m) + f x ≡ tot f xs) → tot f (if q then xs else y ∷ without_mutex xs m) + f x ≡ f y + tot f xs
    by true h go = let same : y ≡ x = cc in let weighs : f y ≡ f x = ap f same in omega (arith, weighs)
    by false h go = omega (arith, go h)

module _ (c : MutexNo → ℕ) where
  -- the contents that are in, and the homes
  abbrev pub ins : Mutexes → ℕ
  ins ms = tot (inside c) ms.there

  abbrev pub homes : Mutexes → ℕ
  homes ms = tot (home c) ms.there

  -- both become more, or less, by as much
  abbrev pub Even : Mutexes → Mutexes → Type 0
  Even ms ms2 = ins ms2 + homes ms ≡ ins ms + homes ms2

  -- what a new mutex has is in
  pub made_even : (ms : Mutexes) (v : Owned) → Even ms (make ms v)
  made_even ms v =
      let new : Mutex = record { number = next_mutex ms; content = Some v; shares = 1; queue = [] } in
      omega (arith, tot-append (inside c) ms.there (new ∷ []), tot-append (home c) ms.there (new ∷ []))

  module _ (ms : Mutexes) (m : MutexNo) where
    -- one that is found, with another state under its number
    abbrev Found : Mutex → Type 0
    Found x = mutex_in ms.there m ≡ Some x

    -- it is found by the number of its new state
    here : (x new : Mutex) → Found x → new.number ≡ x.number → mutex_in ms.there new.number ≡ Some x
    here x new e n = subst (λ u. mutex_in ms.there u ≡ Some x) (sym (n ∙ found_number ms.there m x e)) e

    -- it has another state
    puts : (x new : Mutex) → Found x → new.number ≡ x.number → (ins (put_mutex ms new) + inside c x ≡ ins ms + inside c new) × (homes (put_mutex ms new) ≡ homes ms)
    puts x new e n =
        let q = here x new e n in
        let weighs : home c new ≡ home c x = ap c n in
        let sums = put_sum (home c) ms.there x new q in
        (put_sum (inside c) ms.there x new q, omega (arith, sums, weighs))

    -- it goes
    ends : (x : Mutex) → Found x → (ins (end_mutex ms x.number) + inside c x ≡ ins ms) × (homes (end_mutex ms x.number) + c x.number ≡ homes ms)
    ends x e =
        let q = here x x e refl in
        (end_sum (inside c) ms.there x.number x q, end_sum (home c) ms.there x.number x q)

    -- it has that number
    named : (x : Mutex) → Found x → c x.number ≡ c m
    named x e = ap c (found_number ms.there m x e)

    -- its content is out
    out : (x : Mutex) → x.content ≡ None → inside c x ≡ 0
    out x e = ap (λ (o : Option Owned). if_so (is_some o) (c x.number)) e

    -- its content is in
    full : (x : Mutex) (v : Owned) → x.content ≡ Some v → inside c x ≡ c x.number
    full x v e = ap (λ (o : Option Owned). if_so (is_some o) (c x.number)) e

    -- LOCKS

    -- what is granted
    abbrev pub given : Asked → ℕ
    given asked.Queued = 0
    given (asked.Granted v) = c m

    abbrev pub Asks : Mutexes × Asked → Type 0
    Asks p = (ins p.0 + given p.1 ≡ ins ms) × (homes p.0 ≡ homes ms)

    -- a lock is asked for
    pub asks : (s t : ℕ) → Gives Asks (ask ms m s t)
    asks s t = by (mutex_in ms.there m) refl
      where
        of : (x : Mutex) → Found x → (o : Option Owned) → x.content ≡ o → Asks (asked_of ms s t o x)
        of x e None q = let p = puts x (record x { queue = x.queue ++ (s, t) ∷ [] }) e refl in (omega (arith, p.0), p.1)
        of x e (Some v) q = let p = puts x (record x { content = None }) e refl in (omega (arith, p.0, full x v q, named x e), p.1)

        by : (o : Option Mutex) → mutex_in ms.there m ≡ o → Gives Asks (asked_in ms s t o)
        by None q = tt
        by (Some x) q = of x q x.content refl

    -- A CONTENT THAT COMES BACK

    -- what is granted again
    abbrev pub again : Back → ℕ
    again (back.Next s t v) = c m
    again (back.Ended v) = 0
    again back.Kept = 0

    abbrev pub Backs : Mutexes × Back → Type 0
    Backs p = ins p.0 + again p.1 + homes ms ≡ ins ms + c m + homes p.0

    -- a content comes back
    pub backs : (v : Owned) → Gives Backs (give_back ms m v)
    backs v = by (mutex_in ms.there m) refl
      where
        alone : (x : Mutex) → Found x → x.content ≡ None → (q : Bool) → Backs (if q then (end_mutex ms x.number, back.Ended v) else (put_mutex ms (record x { content = Some v }), back.Kept))
        alone x e n true = let p = ends x e in omega (arith, p.0, p.1, out x n, named x e)
        alone x e n false = let p = puts x (record x { content = Some v }) e refl in omega (arith, p.0, p.1, out x n, named x e)

        queue : (x : Mutex) → Found x → x.content ≡ None → (l : List (ℕ × ℕ)) → Backs (back_to ms v x l)
        queue x e n [] = alone x e n (x.shares == 0)
        queue x e n (first ∷ rest) = let p = puts x (record x { queue = rest }) e refl in omega (arith, p.0, p.1)

        content : (x : Mutex) → Found x → (o : Option Owned) → x.content ≡ o → Gives Backs (back_out ms v x o)
        content x e None n = queue x e n x.queue
        content x e (Some u) n = tt

        by : (o : Option Mutex) → mutex_in ms.there m ≡ o → Gives Backs (back_in ms v o)
        by None q = tt
        by (Some x) q = content x q x.content refl

    -- SHARES

    -- it has another count of shares
    shared : (x : Mutex) (n : ℕ) → Found x → Even ms (put_mutex ms (record x { shares = n }))
    shared x n e = let p = puts x (record x { shares = n }) e refl in omega (arith, p.0, p.1)

    -- a share more
    pub mores : Gives (Even ms) (more ms m)
    mores = by (mutex_in ms.there m) refl
      where
        by : (o : Option Mutex) → mutex_in ms.there m ≡ o → Gives (Even ms) (more_in ms o)
        by None q = tt
        by (Some x) q = test_gives (Even ms) (nat_lt 0 x.shares && nat_lt x.shares (2 ^ 64 - 1)) _ (λ z. shared x (x.shares + 1) q)

    abbrev pub Left : Mutexes × Option Owned → Type 0
    Left p = Even ms p.0

    -- a share less
    pub lesses : Gives Left (less ms m)
    lesses = by (mutex_in ms.there m) refl
      where
        last : (x : Mutex) → Found x → (o : Option Owned) → x.content ≡ o → Left (last_less ms x o)
        last x e None n = shared x 0 e
        last x e (Some v) n = let p = ends x e in omega (arith, p.0, p.1, full x v n)

        one_of : (x : Mutex) → Found x → (q : Bool) → Left (if q then last_less ms x x.content else (put_mutex ms (record x { shares = x.shares - 1 }), None))
        one_of x e true = last x e x.content refl
        one_of x e false = shared x (x.shares - 1) e

        by : (o : Option Mutex) → mutex_in ms.there m ≡ o → Gives Left (less_in ms o)
        by None q = tt
        by (Some x) q = test_gives Left (nat_lt 0 x.shares) (Some (less_of ms x)) (λ z. one_of x q (x.shares == 1))
