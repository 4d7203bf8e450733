-- The mutex behind a place.
use Rattle.std.proofs.Common.{◌≡◌, ℕ, suc, ◌+◌, ◌≤◌, List, Option, Some, None, refl, sym, ap, ◌∙◌, subst, arith}
use Rattle.std.specs.Prelude.{IsSome}
use Rattle.fr_base.specs.declared.label.Plain.{Plain}
use Rattle.fr_base.specs.declared.label.Plain.TheVariants as plain
use Rattle.fr_base.specs.declared.label.Label.{Label}
use Rattle.fr_base.specs.declared.name.MutexNo.{MutexNo}
use Rattle.fr_base.specs.declared.place.Lval.{Lval}
use Rattle.fr_plain.specs.declared.value.Value.{Value}
use Rattle.fr_plain.specs.declared.value.Value.TheVariants.{Own, ToSlot, ToObject, Held}
use Rattle.fr_plain.specs.State.{State, Spot, Reached, then_reached, led, stars, locate, value_at}
use Rattle.fr_plain.specs.Machine.{mutex_value, mutex_behind}
use Rattle.fr_plain.specs.MachineThreads.{Mutex, Shared, mutex_there}
use Rattle.fr_shared.specs.Shares.{content_in}
use Rattle.fr_acts.specs.Behind.{spot_in, spot_after, mutex_of, named, content_behind}
use Rattle.fr_acts.proofs.ActLemmas.{stars_none}

-- where a star leads from what stands there
abbrev pub after_all : Option Value → Option Spot
after_all None = None
after_all (Some v) = spot_after v

led_after : (r : Reached) (o : Option Value) → spot_in (led r o) ≡ after_all o
led_after r None = refl
led_after r (Some (Own (plain.Box o))) = refl
led_after r (Some (Own plain.Nothing)) = refl
led_after r (Some (Own plain.Unit)) = refl
led_after r (Some (Own (plain.Int n))) = refl
led_after r (Some (Own (plain.Mutex m))) = refl
led_after r (Some (Own (plain.Task t))) = refl
led_after r (Some (ToSlot i)) = refl
led_after r (Some (ToObject o)) = refl
led_after r (Some (Held n)) = refl

-- one star more leads where the value says that stands where the others lead
pub star_after : (s : State) (slot n : ℕ) (p : Spot) (o : Option Value) → Some p ≡ spot_in (stars s slot n) → o ≡ value_at s p → spot_in (stars s slot (suc n)) ≡ after_all o
star_after s slot n p o h v = by (stars s slot n) h
  where
    by : (x : Option Reached) → Some p ≡ spot_in x → spot_in (then_reached x (λ r. led r (value_at s r.spot))) ≡ after_all o
    by None g = cc
    by (Some r) g = let same : r.spot ≡ p = cc in led_after r (value_at s r.spot) ∙ ap (λ q. after_all (value_at s q)) same ∙ ap after_all (sym v)

nowhere : (x : Option Reached) → spot_in x ≡ None → x ≡ None
nowhere None h = refl
nowhere (Some r) h = cc

-- where that is nowhere, the place leads nowhere
pub look_stops : (s : State) (w : Lval) (n : ℕ) (p : Spot) (o : Option Value) → Some p ≡ spot_in (stars s w.slot n) → o ≡ value_at s p → after_all o ≡ None → n + 1 ≤ w.depth → spot_in (locate s w) ≡ None
look_stops s w n p o h v none le = ap spot_in (stars_none s w.slot (suc n) w.depth (nowhere (stars s w.slot (suc n)) (star_after s w.slot n p o h v ∙ none)) (omega (arith, le)))

abbrev pub then_mutex : Option Value → Option MutexNo
then_mutex None = None
then_mutex (Some v) = mutex_of v

named_by : (r : Reached) (o : Option Value) → named (mutex_value r o) ≡ then_mutex o
named_by r None = refl
named_by r (Some (Own (plain.Mutex n))) = refl
named_by r (Some (Own plain.Nothing)) = refl
named_by r (Some (Own plain.Unit)) = refl
named_by r (Some (Own (plain.Int n))) = refl
named_by r (Some (Own (plain.Box o))) = refl
named_by r (Some (Own (plain.Task t))) = refl
named_by r (Some (ToSlot i)) = refl
named_by r (Some (ToObject o)) = refl
named_by r (Some (Held n)) = refl

-- a place that leads nowhere names no mutex
pub named_nowhere : (s : State) (w : Lval) → spot_in (locate s w) ≡ None → named (mutex_behind s w) ≡ None
named_nowhere s w h = ap (λ x. named (then_reached x (λ r. mutex_value r (value_at s r.spot)))) (nowhere (locate s w) h)

-- the mutex is that of the value that stands there
pub named_there : (s : State) (w : Lval) (p : Spot) (o : Option Value) → Some p ≡ spot_in (locate s w) → o ≡ value_at s p → named (mutex_behind s w) ≡ then_mutex o
named_there s w p o h v = by (locate s w) h
  where
    by : (x : Option Reached) → Some p ≡ spot_in x → named (then_reached x (λ r. mutex_value r (value_at s r.spot))) ≡ then_mutex o
    by None g = cc
    by (Some r) g = let same : r.spot ≡ p = cc in named_by r (value_at s r.spot) ∙ ap (λ q. then_mutex (value_at s q)) same ∙ ap then_mutex (sym v)

-- the content of the mutex that is named there is the one behind the place
pub content_found : (ms : List Mutex) (found : Option (MutexNo × List Label)) (n : MutexNo) (x : Shared) (v : Plain) → Some n ≡ named found → Some x ≡ mutex_there ms n → x.content ≡ Some v → IsSome (content_behind ms found)
content_found ms None n x v h g e = cc
content_found ms (Some p) n x v h g e =
    let same : n ≡ p.0 = cc in
    let there : Some x ≡ mutex_there ms p.0 = subst (λ (k : MutexNo). Some x ≡ mutex_there ms k) same g in
    subst (λ (o : Option Shared). IsSome (content_in o)) there (subst (λ (o : Option Plain). IsSome o) (sym e) refl)
