-- A value in hand, beside one thread and the things of others: who is in the state once it goes, and once what stands under it comes in its place.
use Rattle.std.proofs.Common.{◌≡◌, ◌⊎◌, inl, inr, ℕ, zero, suc, ◌+◌, ◌≤◌, ◌||◌, Bool, true, false, if◌then◌else◌, List, [], ◌∷◌, ◌++◌, Option, Some, None, refl, sym, ap, ap₂, ◌∙◌, subst, arith}
use Rattle.law_words_writes.specs.Below.law_results_reads.Below.heap_partition.declared.value.Owned.{Owned}
use Rattle.law_words_writes.specs.Below.law_results_reads.Below.thread_state.View.{ThreadState}
use Rattle.law_words_writes.specs.Below.law_results_reads.Below.server_model.Servers.{Cluster}
use Rattle.law_words_writes.specs.Below.law_results_reads.Below.coherent_memory.Names.{tot, one, some, if_so}
use Rattle.law_words_writes.specs.Below.law_results_reads.Below.coherent_memory.Things.{in_hand, Thing, holds, stands}
use Rattle.law_words_writes.specs.Below.law_results_reads.Below.coherent_memory.Sight.{Sight, with_things}
use Rattle.law_words_writes.specs.Below.law_results_reads.Below.coherent_memory.OneHeap.{Node, Owner, a_thread, inside, outside, owner_of, owns, names, owner_in, named_in, any_named, is_in_state, or_else, first_shown}
use Rattle.law_heap_steps.proofs.Below.law_heap_still.events.Rounds.{any_more}
use Rattle.law_heap_steps.proofs.mutexes.Reach.{or_cases, or_left, or_right, closes, least}
use Rattle.law_heap_steps.proofs.mutexes.OneNode.{owned_under}
use Rattle.law_heap_writes.proofs.drops.SameGround as grounds
use Rattle.law_heap_writes.proofs.drops.Under.{owned_by, under_names, node_cases, node_is, node_itself}

abbrev pub hand : Option Owned → List Thing
hand None = []
hand (Some v) = holds in_hand v ∷ []

-- WHAT IS NAMED UNDER A NODE

-- it is named by somebody in the state where the node is in it
pub named_there : (s : Sight) (f : Node → Bool) (p q : Node) (xs : List Thing) → 1 ≤ tot (under_names s p q) xs → f p ≡ true → any_named s f q xs ≡ true
named_there s f p q [] l e = absurd (omega (arith, l))
named_there s f p q (th ∷ xs) l e = by (names q th) (owned_by p (owner_of s th)) refl l (λ m. named_there s f p q xs m e)
  where
    owner_there : (o : Owner) → owned_by p o ≡ true → owner_in f o ≡ true
    owner_there a_thread d = absurd (cc d)
    owner_there outside d = absurd (cc d)
    owner_there (inside w) d = ap f (node_is w p d) ∙ e

    by : (b c : Bool) → owned_by p (owner_of s th) ≡ c → 1 ≤ if_so b (one c) + tot (under_names s p q) xs → (1 ≤ tot (under_names s p q) xs → any_named s f q xs ≡ true) → named_in b f (owner_of s th) || any_named s f q xs ≡ true
    by true true d m go = or_left (owner_in f (owner_of s th)) (any_named s f q xs) (owner_there (owner_of s th) d)
    by true false d m go = or_right (owner_in f (owner_of s th)) (any_named s f q xs) (go (omega (arith, m)))
    by false c d m go = go (omega (arith, m))

-- from what such a thing tells and the others tell
abbrev Whence : Sight → (Node → Bool) → (Node → Bool) → Node → List Thing → Bool → Owner → Type 0
Whence s f g q xs b o = (named_in b f o || any_named s f q xs ≡ true) ⊎ ((w : Node) × ((g w ≡ true) × (1 ≤ if_so b (one (owned_by w o)) + tot (under_names s w q) xs)))

-- what is named is named by somebody whom the other test tells too, or under some node
pub named_whence : (s : Sight) (f g : Node → Bool) (q : Node) (xs : List Thing) → any_named s g q xs ≡ true → (any_named s f q xs ≡ true) ⊎ ((w : Node) × ((g w ≡ true) × (1 ≤ tot (under_names s w q) xs)))
named_whence s f g q [] e = absurd (cc e)
named_whence s f g q (th ∷ xs) e = by (names q th) (owner_of s th) e (named_whence s f g q xs)
  where
    rest : (b : Bool) (o : Owner) → (any_named s f q xs ≡ true) ⊎ ((w : Node) × ((g w ≡ true) × (1 ≤ tot (under_names s w q) xs))) → Whence s f g q xs b o
    rest b o (inl d) = inl (or_right (named_in b f o) (any_named s f q xs) d)
    rest b o (inr l) = inr (l.0, (l.1.0, omega (arith, l.1.1)))

    by : (b : Bool) (o : Owner) → named_in b g o || any_named s g q xs ≡ true → (any_named s g q xs ≡ true → (any_named s f q xs ≡ true) ⊎ ((w : Node) × ((g w ≡ true) × (1 ≤ tot (under_names s w q) xs)))) → Whence s f g q xs b o
    by false o d go = rest false o (go d)
    by true a_thread d go = inl refl
    by true outside d go = rest true outside (go d)
    by true (inside w) d go =
        or_cases (g w) (any_named s g q xs) (Whence s f g q xs true (inside w)) (λ u. inr (w, (u, omega (arith, ap one (node_itself w))))) (λ u. rest true (inside w) (go u)) d

-- what is named once, and that under a node that isn't in it, is named by nobody in it
pub named_by_none : (s : Sight) (f : Node → Bool) (p q : Node) (xs : List Thing) → tot (λ th. one (names q th)) xs ≤ 1 → 1 ≤ tot (under_names s p q) xs → f p ≡ false → any_named s f q xs ≡ false
named_by_none s f p q [] l m e = refl
named_by_none s f p q (th ∷ xs) l m e = by (names q th) (owner_of s th) l m (named_by_none s f p q xs)
  where
    none_named : (ys : List Thing) → tot (λ th. one (names q th)) ys ≡ 0 → (any_named s f q ys ≡ false) × (tot (under_names s p q) ys ≡ 0)
    none_named [] z = (refl, refl)
    none_named (y ∷ ys) z = of (names q y) z (none_named ys)
      where
        of : (b : Bool) → one b + tot (λ th. one (names q th)) ys ≡ 0 → (tot (λ th. one (names q th)) ys ≡ 0 → (any_named s f q ys ≡ false) × (tot (under_names s p q) ys ≡ 0))
            → (named_in b f (owner_of s y) || any_named s f q ys ≡ false) × (if_so b (one (owned_by p (owner_of s y))) + tot (under_names s p q) ys ≡ 0)
        of true z go = absurd (omega (arith, z))
        of false z go = let r = go (omega (arith, z)) in (r.0, omega (arith, r.1))

    by : (b : Bool) (o : Owner) → one b + tot (λ th. one (names q th)) xs ≤ 1 → 1 ≤ if_so b (one (owned_by p o)) + tot (under_names s p q) xs
        → (tot (λ th. one (names q th)) xs ≤ 1 → 1 ≤ tot (under_names s p q) xs → f p ≡ false → any_named s f q xs ≡ false) → named_in b f o || any_named s f q xs ≡ false
    by false o a c go = go (omega (arith, a)) (omega (arith, c)) e
    by true o a c go = let none = none_named xs (omega (arith, a)) in it o (omega (arith, c, none.1)) none.0
      where
        it : (o : Owner) → 1 ≤ one (owned_by p o) → any_named s f q xs ≡ false → owner_in f o || any_named s f q xs ≡ false
        it a_thread a d = absurd (omega (arith, a))
        it outside a d = absurd (omega (arith, a))
        it (inside w) a d = node_cases (λ b. 1 ≤ one b → f w || any_named s f q xs ≡ false) w p (λ r _. ap₂ (λ u z. u || z) (ap f r ∙ e) d) (λ _ u. absurd (omega (arith, u))) a

-- ONE THREAD, A VALUE IN HAND, AND THE OTHERS

module _ (k : Cluster) (n : ℕ) (y : ThreadState) (B : List Thing) where
  abbrev pub things_with : Option Owned → List Thing
  things_with c = stands n false y ∷ (hand c ++ B)

  abbrev pub sight_with : Option Owned → Sight
  sight_with c = with_things k (things_with c)

  abbrev pub In : Option Owned → Node → Bool
  In c = is_in_state (sight_with c)

  pub ground_same : (c d : Option Owned) → (sight_with c).ground ≡ (sight_with d).ground
  ground_same None None = refl
  ground_same None (Some w) = refl
  ground_same (Some v) None = refl
  ground_same (Some v) (Some w) = refl

  pub owner_alike : (c d : Option Owned) (th : Thing) → owner_of (sight_with c) th ≡ owner_of (sight_with d) th
  owner_alike c d = grounds.owner_same (sight_with c) (sight_with d) refl (ground_same c d)

  pub any_alike : (c d : Option Owned) (f : Node → Bool) (q : Node) (xs : List Thing) → any_named (sight_with c) f q xs ≡ any_named (sight_with d) f q xs
  any_alike c d = grounds.any_same (sight_with c) (sight_with d) refl (ground_same c d)

  -- what the hand doesn't show
  pub first_with : {A : Type 0} (f : Thing → Option A) → ((v : Owned) → f (holds in_hand v) ≡ None) → (c : Option Owned) → first_shown f (things_with c) ≡ or_else (f (stands n false y)) (first_shown f B)
  first_with f e None = refl
  first_with f e (Some v) = ap (λ o. or_else (f (stands n false y)) (or_else o (first_shown f B))) (e v)

  pub tot_with : (f : Thing → ℕ) → ((v : Owned) → f (holds in_hand v) ≡ 0) → (c : Option Owned) → tot f (things_with c) ≡ f (stands n false y) + tot f B
  tot_with f e None = refl
  tot_with f e (Some v) = omega (arith, e v)

  named_with : (c : Option Owned) (f : Node → Bool) (q : Node) → any_named (sight_with c) f q (things_with c) ≡ some (owned_under q c) || any_named (sight_with None) f q B
  named_with None f q = refl
  named_with (Some v) f q = by (owns q v) ∙ ap (λ b. some (one (owns q v)) || b) (any_alike (Some v) None f q B)
    where
      by : (b : Bool) → named_in b f a_thread || any_named (sight_with (Some v)) f q B ≡ some (one b) || any_named (sight_with (Some v)) f q B
      by true = refl
      by false = refl

  -- whether the others name it in the state with that in hand
  abbrev pub any_in : Option Owned → Node → Bool
  any_in c q = any_named (sight_with None) (In c) q B

  some_from : (i : ℕ) → 1 ≤ i → some i ≡ true
  some_from i l = by i l
    where
      by : (i : ℕ) → 1 ≤ i → some i ≡ true
      by zero l = absurd (omega (arith, l))
      by (suc i) l = refl

  -- what is in hand, or named by somebody in the state, is in it
  pub hand_in : (c : Option Owned) (q : Node) → 1 ≤ owned_under q c → In c q ≡ true
  hand_in c q l = closes (sight_with c) q (named_with c (In c) q ∙ or_left (some (owned_under q c)) (any_named (sight_with None) (In c) q B) (some_from (owned_under q c) l))

  pub rest_in : (c : Option Owned) (q : Node) → any_named (sight_with None) (In c) q B ≡ true → In c q ≡ true
  rest_in c q e = closes (sight_with c) q (named_with c (In c) q ∙ or_right (some (owned_under q c)) (any_named (sight_with None) (In c) q B) e)

  -- and nothing else
  pub least_with : (c : Option Owned) (f : Node → Bool) → ((q : Node) → 1 ≤ owned_under q c → f q ≡ true) → ((q : Node) → any_named (sight_with None) f q B ≡ true → f q ≡ true) → (q : Node) → In c q ≡ true → f q ≡ true
  least_with c f here rest =
      least (sight_with c) f (λ q e. or_cases (some (owned_under q c)) (any_named (sight_with None) f q B) (f q ≡ true) (λ d. here q (some_to (owned_under q c) d)) (rest q) (sym (named_with c f q) ∙ e))
    where
      some_to : (i : ℕ) → some i ≡ true → 1 ≤ i
      some_to zero e = absurd (cc e)
      some_to (suc i) e = omega arith

  one_from : (b : Bool) → b ≡ true → 1 ≤ one b
  one_from b e = omega (arith, ap one e)

  one_to : (b : Bool) → 1 ≤ one b → b ≡ true
  one_to true l = refl
  one_to false l = absurd (omega (arith, l))

  both_ways : (a b : Bool) → (a ≡ true → b ≡ true) → (b ≡ true → a ≡ true) → a ≡ b
  both_ways true b f g = sym (f refl)
  both_ways false true f g = g refl
  both_ways false false f g = refl

  -- what is in the state without it is in it with it
  pub more_in : (c : Option Owned) (q : Node) → In None q ≡ true → In c q ≡ true
  more_in c = least_with None (In c) (λ q l. absurd (omega (arith, l))) (rest_in c)

  -- where what the value owns is in the state without it, nothing changes
  module _ (v : Owned) (already : (q : Node) → owns q v ≡ true → In None q ≡ true) where
    pub stays_in : (q : Node) → In (Some v) q ≡ In None q
    stays_in q =
        both_ways (In (Some v) q) (In None q) (least_with (Some v) (In None) (λ p l. already p (one_to (owns p v) l)) (rest_in None) q)
        (least_with None (In (Some v)) (λ p l. absurd (omega (arith, l))) (rest_in (Some v)) q)

  -- the value owns that node alone, under which this stands, and nobody in the state names it but this value
  module _ (v : Owned) (p : Node) (mine : owns p v ≡ true) (only : (q : Node) → owns q v ≡ true → q ≡ p) (c : Option Owned) (counts : (q : Node) → tot (under_names (sight_with None) p q) B ≡ owned_under q c)
      (alone : any_in (Some v) p ≡ false) where
    pub it_in : In (Some v) p ≡ true
    it_in = hand_in (Some v) p (one_from (owns p v) mine)

    come : (q : Node) → In c q ≡ true → In (Some v) q ≡ true
    come = least_with c (In (Some v)) (λ q l. rest_in (Some v) q (named_there (sight_with None) (In (Some v)) p q B (omega (arith, l, counts q)) it_in)) (rest_in (Some v))

    abbrev more : Node → Bool
    more q = In c q || owns q v

    stay : (q : Node) → In (Some v) q ≡ true → more q ≡ true
    stay = least_with (Some v) more (λ q l. or_right (In c q) (owns q v) (one_to (owns q v) l)) (λ q e. or_left (In c q) (owns q v) (by q (named_whence (sight_with None) (In c) more q B e)))
      where
        by : (q : Node) → (any_named (sight_with None) (In c) q B ≡ true) ⊎ ((w : Node) × ((more w ≡ true) × (1 ≤ tot (under_names (sight_with None) w q) B))) → In c q ≡ true
        by q (inl d) = rest_in c q d
        by q (inr l) =
            or_cases (In c l.0) (owns l.0 v) (In c q ≡ true) (λ d. rest_in c q (named_there (sight_with None) (In c) l.0 q B l.1.1 d))
            (λ d. hand_in c q (let m = subst (λ w. 1 ≤ tot (under_names (sight_with None) w q) B) (only l.0 d) l.1.1 in omega (arith, m, counts q))) l.1.0

    abbrev less : Node → Bool
    less q = if owns q v then false else In c q

    -- it goes
    pub it_goes : In c p ≡ false
    it_goes = by (In c p) refl
      where
        less_in : (q : Node) → less q ≡ true → In c q ≡ true
        less_in q = of (owns q v)
          where
            of : (b : Bool) → (if b then false else In c q) ≡ true → In c q ≡ true
            of true e = absurd (cc e)
            of false e = e

        -- the node isn't named by what is in it
        off : (q : Node) → (owns q v ≡ true → ⊥) → In c q ≡ true → less q ≡ true
        off q never = of (owns q v) refl
          where
            of : (b : Bool) → owns q v ≡ b → In c q ≡ true → (if b then false else In c q) ≡ true
            of true e d = absurd (never e)
            of false e d = d

        not_hand : (q : Node) → 1 ≤ owned_under q c → owns q v ≡ true → ⊥
        not_hand q l e =
            let there = named_there (sight_with None) (In (Some v)) p q B (omega (arith, l, counts q)) it_in in
            cc (sym there ∙ ap (λ w. any_named (sight_with None) (In (Some v)) w B) (only q e) ∙ alone)

        not_rest : (q : Node) → any_named (sight_with None) less q B ≡ true → owns q v ≡ true → ⊥
        not_rest q d e =
            let there = any_more (sight_with None) less (In (Some v)) (λ w u. come w (less_in w u)) q B d in
            cc (sym there ∙ ap (λ w. any_named (sight_with None) (In (Some v)) w B) (only q e) ∙ alone)

        all_less : (q : Node) → In c q ≡ true → less q ≡ true
        all_less = least_with c less (λ q l. off q (not_hand q l) (hand_in c q l)) (λ q d. off q (not_rest q d) (rest_in c q (any_more (sight_with None) less (In c) less_in q B d)))

        by : (b : Bool) → In c p ≡ b → b ≡ false
        by false e = refl
        by true e = absurd (cc (sym (all_less p e) ∙ ap (λ b. if b then false else In c p) mine))

    -- and all else that is in the state stays in it
    pub goes_in : (q : Node) → owns q v ≡ false → In (Some v) q ≡ In c q
    goes_in q off = both_ways (In (Some v) q) (In c q) (λ e. or_cases (In c q) (owns q v) (In c q ≡ true) (λ d. d) (λ d. absurd (cc (sym off ∙ d))) (stay q e)) (come q)
