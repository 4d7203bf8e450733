-- A thread's turn in which a value goes to a node, or comes from it, or the thread has something new or loses it: who is in the state.
use Rattle.std.proofs.Common.{◌≡◌, ℕ, zero, suc, ◌+◌, ◌≤◌, Bool, true, false, List, Option, Some, None, is_some, refl, sym, ◌∙◌, arith}
use Rattle.std.specs.List.{AllByRecursion}
use Rattle.law_heap_steps.specs.Below.heap_partition.declared.value.Owned.{Owned}
use Rattle.law_heap_steps.specs.Below.thread_state.View.{ThreadState}
use Rattle.law_heap_steps.specs.Below.server_model.Servers.{Cluster}
use Rattle.law_heap_steps.specs.Below.coherent_memory.Names.{tot, one, some}
use Rattle.law_heap_steps.specs.Below.coherent_memory.Things.{Thing}
use Rattle.law_heap_steps.specs.Below.coherent_memory.OneHeap.{Node, inside, owns, named_in, any_named, is_in_state}
use Rattle.law_heap_steps.proofs.turns.Parts.{owned_in}
use Rattle.law_heap_steps.proofs.turns.OneTurn.{of_thread}
use Rattle.law_heap_steps.proofs.mutexes.Reach.{or_cases, or_left, or_right, NoneUnder, with_extra, here, stays_in, comes_from}
use Rattle.law_heap_steps.proofs.mutexes.Beside.{IsBeside, mine, any_mine}
use Rattle.law_heap_steps.proofs.mutexes.OneThread.{y, s, s2, LocksStay, same_but, same_owners}

-- what an owned value at a node names
abbrev pub named_under : (Node → Bool) → Node → Node → Option Owned → Bool
named_under f q m None = false
named_under f q m (Some v) = named_in (owns q v) f (inside m)

-- whether it is named there
abbrev pub owned_under : Node → Option Owned → ℕ
owned_under q None = 0
owned_under q (Some v) = one (owns q v)

under_named : (f : Node → Bool) (q : Node) (m : Node) (c : Option Owned) → named_under f q m c ≡ true → 1 ≤ owned_under q c
under_named f q m None e = absurd (cc e)
under_named f q m (Some v) e = by (owns q v) e
  where
    by : (b : Bool) → named_in b f (inside m) ≡ true → 1 ≤ one b
    by true d = omega arith
    by false d = absurd (cc d)

named_too : (f : Node → Bool) (q : Node) (m : Node) (c : Option Owned) → (is_some c ≡ true → f m ≡ true) → 1 ≤ owned_under q c → named_under f q m c ≡ true
named_too f q m None e l = absurd (omega (arith, l))
named_too f q m (Some v) e l = by (owns q v) l
  where
    by : (b : Bool) → 1 ≤ one b → named_in b f (inside m) ≡ true
    by true d = e refl
    by false d = absurd (omega (arith, d))

pub some_there : (i : ℕ) → some i ≡ true → 1 ≤ i
some_there zero e = absurd (cc e)
some_there (suc i) e = omega arith

pub there_some : (i : ℕ) → 1 ≤ i → some i ≡ true
there_some zero l = absurd (omega (arith, l))
there_some (suc i) l = refl

pub one_of_two : (i j : ℕ) (C : Type 0) → (1 ≤ i → C) → (1 ≤ j → C) → 1 ≤ i + j → C
one_of_two zero j C f g l = g (omega (arith, l))
one_of_two (suc i) j C f g l = f (omega arith)

pub is_one : (b : Bool) → 1 ≤ one b → b ≡ true
is_one true l = refl
is_one false l = absurd (omega (arith, l))

module _ (k : Cluster) (R G G2 : List Thing) (n : ℕ) (x became : ThreadState) where
  abbrev y1 : ThreadState
  y1 = y k R G G2 n x became

  abbrev In : Node → Bool
  In = is_in_state (s k R G G2 n x became)

  abbrev In2 : Node → Bool
  In2 = is_in_state (s2 k R G G2 n x became)

  abbrev own : Node → ℕ
  own q = owned_in q x.slots + owned_in q x.temps

  abbrev own2 : Node → ℕ
  own2 q = owned_in q became.slots + owned_in q became.temps

  -- what the thread has is in the state, and so is what stands beside it
  pub has : (q : Node) → 1 ≤ own q → In q ≡ true
  has q l =
      here k (mine n x G) R q
      (any_mine n x G (s k R G G2 n x became) In q ∙ or_right (any_named (s k R G G2 n x became) In q G) (some (own q)) (there_some (own q) l))

  has_beside : (q : Node) → any_named (s k R G G2 n x became) In q G ≡ true → In q ≡ true
  has_beside q e =
      here k (mine n x G) R q
      (any_mine n x G (s k R G G2 n x became) In q ∙ or_left (any_named (s k R G G2 n x became) In q G) (some (own q)) e)

  pub has2 : (q : Node) → 1 ≤ own2 q → In2 q ≡ true
  has2 q l =
      here k (mine n y1 G2) R q
      (any_mine n y1 G2 (s2 k R G G2 n x became) In2 q ∙ or_right (any_named (s2 k R G G2 n x became) In2 q G2) (some (own2 q)) (there_some (own2 q) l))

  has_beside2 : (q : Node) → any_named (s2 k R G G2 n x became) In2 q G2 ≡ true → In2 q ≡ true
  has_beside2 q e =
      here k (mine n y1 G2) R q
      (any_mine n y1 G2 (s2 k R G G2 n x became) In2 q ∙ or_left (any_named (s2 k R G G2 n x became) In2 q G2) (some (own2 q)) e)

  -- of the node this value was beside the thread and that one is so afterwards; what is new to the thread was in the state, or is such a node, and what is lost to it
  -- is in the state afterwards
  module _ (beside : AllByRecursion IsBeside G) (beside2 : AllByRecursion IsBeside G2) (lone : tot (of_thread x.number) R ≡ 0) (locks : LocksStay k R G G2 n x became) (node : Node) (under under2 : Option Owned) (new lost : Node → ℕ)
      (even : (q : Node) → own q + owned_under q under + new q ≡ own2 q + owned_under q under2 + lost q)
      (named : (f : Node → Bool) (q : Node) → any_named (s k R G G2 n x became) f q G ≡ named_under f q node under) (named2 : (f : Node → Bool) (q : Node) → any_named (s2 k R G G2 n x became) f q G2 ≡ named_under f q node under2)
      (inside_it : is_some under ≡ true → In node ≡ true) (inside_then : is_some under2 ≡ true → In2 node ≡ true)
      (extra : Node → Bool) (is_new : (q : Node) → 1 ≤ new q → with_extra In extra q ≡ true) (is_lost : (q : Node) → 1 ≤ lost q → In2 q ≡ true) (extra_in : (q : Node) → extra q ≡ true → In2 q ≡ true) (none : NoneUnder (s k R G G2 n x became) extra R) where
    had_by_then : (q : Node) → 1 ≤ own2 q + owned_under q under2 → In2 q ≡ true
    had_by_then q l =
        one_of_two (own2 q) (owned_under q under2) (In2 q ≡ true) (has2 q) (λ d. has_beside2 q (named2 In2 q ∙ named_too In2 q node under2 inside_then d)) l

    goes_in : (q : Node) → 1 ≤ own q + owned_under q under → In2 q ≡ true
    goes_in q l = one_of_two (own2 q + owned_under q under2) (lost q) (In2 q ≡ true) (had_by_then q) (is_lost q) (omega (arith, l, even q))

    stay : (q : Node) → In q ≡ true → In2 q ≡ true
    stay =
        stays_in k (mine n x G) (mine n y1 G2) R (same_owners k R G G2 n x became beside beside2 lone locks)
        (λ q e. or_cases (any_named (s k R G G2 n x became) In2 q G) (some (own q)) (In2 q ≡ true)
        (λ d. let l = under_named In2 q node under (sym (named In2 q) ∙ d) in goes_in q (omega (arith, l)))
        (λ d. let l = some_there (own q) d in goes_in q (omega (arith, l)))
        (sym (any_mine n x G (s k R G G2 n x became) In2 q) ∙ e))

    abbrev F : Node → Bool
    F = with_extra In extra

    came : (q : Node) → 1 ≤ own2 q + owned_under q under2 → F q ≡ true
    came q l =
        let in_it : 1 ≤ own q + owned_under q under → F q ≡ true = λ d. or_left (In q) (extra q) (one_of_two (own q) (owned_under q under) (In q ≡ true) (has q) (λ u. has_beside q (named In q ∙ named_too In q node under inside_it u)) d) in
        one_of_two (own q + owned_under q under) (new q) (F q ≡ true) in_it (is_new q) (omega (arith, l, even q))

    come : (q : Node) → In2 q ≡ true → F q ≡ true
    come =
        comes_from k (mine n x G) (mine n y1 G2) R (same_owners k R G G2 n x became beside beside2 lone locks) extra none
        (λ q e. or_cases (any_named (s2 k R G G2 n x became) F q G2) (some (own2 q)) (F q ≡ true)
        (λ d. let l = under_named F q node under2 (sym (named2 F q) ∙ d) in came q (omega (arith, l)))
        (λ d. let l = some_there (own2 q) d in came q (omega (arith, l)))
        (sym (any_mine n y1 G2 (s2 k R G G2 n x became) F q) ∙ e))

    -- who is in the state afterwards
    pub in_then : (q : Node) → In2 q ≡ F q
    in_then q = by (In2 q) refl (F q) refl
      where
        by : (c : Bool) → In2 q ≡ c → (d : Bool) → F q ≡ d → In2 q ≡ F q
        by true e true f = e ∙ sym f
        by false e false f = e ∙ sym f
        by true e false f = absurd (cc (sym f ∙ come q e))
        by false e true f = absurd (cc (sym e ∙ or_cases (In q) (extra q) (In2 q ≡ true) (stay q) (extra_in q) f))

    pub in_same : (q : Node) → extra q ≡ false → In q ≡ In2 q
    in_same = same_but In In2 extra in_then
