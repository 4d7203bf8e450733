-- What a new thread captures, at the server and on the plain machine: the same values, in the same order, and what is left owns the rest.
use Rattle.std.proofs.Common.{◌≡◌, ℕ, ◌+◌, Bool, true, false, if◌then◌else◌, List, [], ◌∷◌, ◌++◌, Option, Some, None, option_map, refl, sym, ap, ap₂, ◌∙◌, arith}
use Rattle.std.specs.Prelude.{slice_get}
use Rattle.law_heap_steps.specs.Below.fr_plain.declared.value.Value.{Value as PlainValue}
use Rattle.law_heap_steps.specs.Below.fr_plain.State.{slot_at}
use Rattle.law_heap_steps.specs.Below.fr_plain.MachineThreads.{Passed, pass, then_passed, left_after as left_there}
use Rattle.law_heap_steps.specs.Below.fr_code.Steps.{captured as captures_of}
use Rattle.law_heap_steps.specs.Below.thread_state.declared.value.Value.{Value}
use Rattle.law_heap_steps.specs.Below.thread_state.declared.value.Value.TheVariants as value
use Rattle.law_heap_steps.specs.Below.server_model.Places.{second_of}
use Rattle.law_heap_steps.specs.Below.server_model.Work.{then_some}
use Rattle.law_heap_steps.specs.Below.server_model.Start.{captured, left_after, capture_from}
use Rattle.law_heap_steps.specs.Below.coherent_memory.Names.{one}
use Rattle.law_heap_steps.specs.Below.coherent_memory.OneHeap.{Node, plain_value}
use Rattle.law_heap_steps.specs.Below.law_counts_sums.Laws.{Gives}
use Rattle.law_heap_steps.proofs.Below.law_counts_sums.Results.{then_gives, weaker}
use Rattle.law_heap_steps.proofs.Below.law_words_paths.paths.Shown.{shown_value}
use Rattle.law_heap_steps.proofs.turns.Parts.{value_owns, owned_in}
use Rattle.law_heap_steps.proofs.turns.Instructions.{shown_last, shown_push, owned_push}
use Rattle.law_heap_steps.proofs.turns.SlotReads.{set_shown, taken_owned, Second, second}

-- one captured value: it shows the same, and owns the same where it is moved, else nothing
pub record One (take : Bool) (v u : Value) : Type 0 where
  pub shown : plain_value u ≡ plain_value v
  pub owns : (q : Node) → one (value_owns q u) ≡ (if take then one (value_owns q v) else 0)

as_one : (v u : Value) → Second v u → One false v u
as_one v u d = record { shown = d.shown; owns = λ q. ap one (d.bare q) }

one_is : (branch take : Bool) (v : Value) → Gives (One take v) (captured branch take v)
one_is branch true (value.Own v) = record { shown = refl; owns = λ q. refl }
one_is branch false (value.Own v) = weaker (Second (value.Own v)) (One false (value.Own v)) (second_of (value.Own v)) (second (value.Own v)) (as_one (value.Own v))
one_is true false (value.Shared r) = weaker (Second (value.Shared r)) (One false (value.Shared r)) (second_of (value.Shared r)) (second (value.Shared r)) (as_one (value.Shared r))
one_is false false (value.Shared r) = tt
one_is branch true (value.Shared r) = tt
one_is branch true value.Gone = tt
one_is branch true (value.SharedSlot i) = tt
one_is branch true (value.MutSlot i) = tt
one_is branch true (value.Mut r) = tt
one_is branch true (value.Held m) = tt
one_is branch false value.Gone = tt
one_is branch false (value.SharedSlot i) = tt
one_is branch false (value.MutSlot i) = tt
one_is branch false (value.Mut r) = tt
one_is branch false (value.Held m) = tt

-- what the captures give, behind these, and leave
pub record Passes (cs : List (ℕ × Bool)) (new slots : List Value) (r : List Value × List Value) : Type 0 where
  pub passed : pass (captures_of cs) (shown_last slots) (shown_last new) ≡ Some (record { left = shown_last r.1; new = shown_last r.0 })
  pub owned : (q : Node) → owned_in q slots + owned_in q new ≡ owned_in q r.1 + owned_in q r.0

left_same : (take : Bool) (slots : List Value) (i : ℕ) → left_there take (shown_last slots) i ≡ shown_last (left_after take slots i)
left_same true slots i = set_shown slots i value.Gone
left_same false slots i = refl

left_owned : (take : Bool) (q : Node) (slots : List Value) (i : ℕ) (v : Value) → slice_get slots i ≡ Some v → owned_in q slots ≡ owned_in q (left_after take slots i) + (if take then one (value_owns q v) else 0)
left_owned true q slots i v e = taken_owned q slots i v e
left_owned false q slots i v e = omega arith

pub passes : (branch : Bool) (cs : List (ℕ × Bool)) (new slots : List Value) → Gives (Passes cs new slots) (capture_from branch new cs slots)
passes branch [] new slots = record { passed = refl; owned = λ q. refl }
passes branch (c ∷ cs) new slots =
    then_gives (Passes (c ∷ cs) new slots) (slice_get slots c.0) _ (λ v e. go v e (captured branch c.1 v) (one_is branch c.1 v) (λ u. passes branch cs (new ++ u ∷ []) (left_after c.1 slots c.0)))
  where
    more : (v u : Value) → slice_get slots c.0 ≡ Some v → One c.1 v u → (r : List Value × List Value) → Passes cs (new ++ u ∷ []) (left_after c.1 slots c.0) r → Passes (c ∷ cs) new slots r
    more v u e one_u r g =
        let there : slot_at (shown_last slots) c.0 ≡ Some (plain_value v) = shown_value slots c.0 ∙ ap (option_map plain_value) e in
        let goes : PlainValue → Option Passed = λ w. pass (captures_of cs) (left_there c.1 (shown_last slots) c.0) (w ∷ shown_last new) in
        let newest : plain_value v ∷ shown_last new ≡ shown_last (new ++ u ∷ []) = ap (λ w. w ∷ shown_last new) (sym one_u.shown) ∙ sym (shown_push new u) in
        record {
          passed = ap (λ o. then_passed o goes) there ∙ ap₂ (λ l ns. pass (captures_of cs) l ns) (left_same c.1 slots c.0) newest ∙ g.passed;
          owned = λ q. omega (arith, g.owned q, owned_push q new u, one_u.owns q, left_owned c.1 q slots c.0 v e);
        }

    go : (v : Value) → slice_get slots c.0 ≡ Some v → (o : Option Value) → Gives (One c.1 v) o → ((u : Value) → Gives (Passes cs (new ++ u ∷ []) (left_after c.1 slots c.0)) (capture_from branch (new ++ u ∷ []) cs (left_after c.1 slots c.0)))
        → Gives (Passes (c ∷ cs) new slots) (then_some o (λ u. capture_from branch (new ++ u ∷ []) cs (left_after c.1 slots c.0)))
    go v e None g next = tt
    go v e (Some u) g next = weaker (Passes cs (new ++ u ∷ []) (left_after c.1 slots c.0)) (Passes (c ∷ cs) new slots) (capture_from branch (new ++ u ∷ []) cs (left_after c.1 slots c.0)) (next u) (more v u e g)
