-- What acts do: following a place, and which acts print.
use Rattle.std.proofs.Common.{◌≡◌, ℕ, ℤ, zero, suc, ◌+◌, ◌≤◌, Bool, true, false, List, [], ◌∷◌, ◌++◌, Option, Some, None, refl, sym, ap, ◌∙◌, subst, arith}
use Rattle.std.proofs.lemmas.List.{append-nil}
use Rattle.std.specs.Prelude.{⊤}
use Rattle.fr_base.specs.declared.label.Plain.TheVariants as plain
use Rattle.fr_base.specs.declared.label.Label.{Label}
use Rattle.fr_base.specs.declared.label.Label.TheVariants as label
use Rattle.fr_base.specs.declared.place.Lval.{Lval}
use Rattle.fr_base.specs.declared.place.Op.{Op}
use Rattle.fr_plain.specs.declared.value.Value.{Value}
use Rattle.fr_plain.specs.declared.value.Value.TheVariants.{Own, ToSlot, ToObject, Held}
use Rattle.fr_plain.specs.Heap.{Heap}
use Rattle.fr_plain.specs.State.{State, gone, Spot, in_slot, in_cell, value_at, loads, stores, drops, Reached, then_reached, led, stars, locate}
use Rattle.fr_plain.specs.Acts.{Act, do_let, do_read, do_borrow, do_assign, do_box, do_arith, do_print, do_discard, do_drop, do_end, do_spawn, do_join, do_finish, do_leave, do_mutex, do_dup, do_lock, do_unlock, do_par, do_par_end, Did, read_did, borrow_did, assign_did, box_did, arith_did, drop_did, act}
use Rattle.fr_plain.specs.Whole.{prints}
use Rattle.fr_acts.specs.declared.spot.Where.{Where}
use Rattle.fr_acts.specs.Acting.{IsReached, state, did}
use Rattle.fr_typing.proofs.PlaceLemmas.{eq_cases}

-- more stars than lead nowhere lead nowhere
pub stars_none : (s : State) (slot n k : ℕ) → stars s slot n ≡ None → n ≤ k → stars s slot k ≡ None
stars_none s slot n zero h le = let e : n ≡ zero = omega arith in subst (λ m. stars s slot m ≡ None) e h
stars_none s slot n (suc k) h le =
    eq_cases (λ b. stars s slot (suc k) ≡ None) n (suc k) (λ e. subst (λ m. stars s slot m ≡ None) e h)
    (λ ne. ap (λ o. then_reached o (λ r. led r (value_at s r.spot))) (stars_none s slot n k h (omega arith)))

-- where a star leads nowhere, the place does
pub stops : (s : State) (w : Lval) (n : ℕ) (r : Reached) → stars s w.slot n ≡ Some r → led r (value_at s r.spot) ≡ None → n + 1 ≤ w.depth → locate s w ≡ None
stops s w n r h e le = stars_none s w.slot (suc n) w.depth (ap (λ o. then_reached o (λ r. led r (value_at s r.spot))) h ∙ e) (omega arith)

-- where the code says so, the place leads nowhere
pub reached_none : (o : Option Reached) (ls : List Label) (x : Option Where) → IsReached o ls x → x ≡ None → o ≡ None
reached_none o ls x h e = subst (λ (y : Option Where). IsReached o ls y) e h

-- WHICH ACTS PRINT

-- what labels print, one list after another
prints_append : (ks ls : List Label) → prints (ks ++ ls) ≡ prints ks ++ prints ls
prints_append [] ls = refl
prints_append (label.Print n ∷ ks) ls = ap (λ ns. n ∷ ns) (prints_append ks ls)
prints_append (label.Make o v ∷ ks) ls = prints_append ks ls
prints_append (label.Load o v ∷ ks) ls = prints_append ks ls
prints_append (label.Store o v ∷ ks) ls = prints_append ks ls
prints_append (label.Drop o ∷ ks) ls = prints_append ks ls
prints_append (label.Lock m ∷ ks) ls = prints_append ks ls
prints_append (label.Unlock m ∷ ks) ls = prints_append ks ls
prints_append (label.Start t ∷ ks) ls = prints_append ks ls
prints_append (label.End t ∷ ks) ls = prints_append ks ls

-- labels that print nothing, one list after another
two_silent : (ks ls : List Label) → prints ks ≡ [] → prints ls ≡ [] → prints (ks ++ ls) ≡ []
two_silent ks ls h k = prints_append ks ls ∙ ap (λ ns. ns ++ prints ls) h ∙ k

-- a load prints nothing
loads_silent : (p : Spot) (v : Value) → prints (loads p v) ≡ []
loads_silent (in_cell o) (Own v) = refl
loads_silent (in_cell o) (ToSlot i) = refl
loads_silent (in_cell o) (ToObject q) = refl
loads_silent (in_cell o) (Held q) = refl
loads_silent (in_slot i) v = refl

-- a store prints nothing
stores_silent : (p : Spot) (v : Value) → prints (stores p v) ≡ []
stores_silent (in_cell o) (Own v) = refl
stores_silent (in_cell o) (ToSlot i) = refl
stores_silent (in_cell o) (ToObject q) = refl
stores_silent (in_cell o) (Held q) = refl
stores_silent (in_slot i) v = refl

-- a drop prints nothing
drops_silent : (v : Value) → prints (drops v) ≡ []
drops_silent (Own (plain.Box o)) = refl
drops_silent (Own plain.Nothing) = refl
drops_silent (Own plain.Unit) = refl
drops_silent (Own (plain.Int n)) = refl
drops_silent (Own (plain.Mutex m)) = refl
drops_silent (Own (plain.Task t)) = refl
drops_silent (ToSlot i) = refl
drops_silent (ToObject o) = refl
drops_silent (Held o) = refl

-- the loads on the way print nothing
abbrev SilentWay : Option Reached → Type 0
SilentWay None = ⊤
SilentWay (Some r) = prints r.passed ≡ []

-- a star more prints nothing
led_silent : (r : Reached) (v : Option Value) → prints r.passed ≡ [] → SilentWay (led r v)
led_silent r None h = tt
led_silent r (Some (Own (plain.Box o))) h = two_silent r.passed (loads r.spot (Own (plain.Box o))) h (loads_silent r.spot (Own (plain.Box o)))
led_silent r (Some (Own plain.Nothing)) h = tt
led_silent r (Some (Own plain.Unit)) h = tt
led_silent r (Some (Own (plain.Int n))) h = tt
led_silent r (Some (Own (plain.Mutex m))) h = tt
led_silent r (Some (Own (plain.Task t))) h = tt
led_silent r (Some (ToSlot i)) h = h
led_silent r (Some (ToObject o)) h = h
led_silent r (Some (Held o)) h = tt

-- nor does a way that goes on
then_silent : (o : Option Reached) (go : Reached → Option Reached) → SilentWay o → ((r : Reached) → prints r.passed ≡ [] → SilentWay (go r)) → SilentWay (then_reached o go)
then_silent None go h g = tt
then_silent (Some r) go h g = g r h

-- nor does a place under stars
stars_silent : (s : State) (slot n : ℕ) → SilentWay (stars s slot n)
stars_silent s slot zero = refl
stars_silent s slot (suc n) = then_silent (stars s slot n) (λ r. led r (value_at s r.spot)) (stars_silent s slot n) (λ r h. led_silent r (value_at s r.spot) h)

-- what an act does prints nothing
abbrev Silent : Option Did → Type 0
Silent None = ⊤
Silent (Some d) = prints d.labels ≡ []

-- a read prints nothing
read_silent : (s : State) (take : Bool) (r : Reached) (v : Option Value) → prints r.passed ≡ [] → Silent (read_did s take r v)
read_silent s take r None h = tt
read_silent s false r (Some v) h = two_silent r.passed (loads r.spot v) h (loads_silent r.spot v)
read_silent s true r (Some v) h = two_silent (r.passed ++ loads r.spot v) (stores r.spot gone) (two_silent r.passed (loads r.spot v) h (loads_silent r.spot v)) (stores_silent r.spot gone)

-- an assignment prints nothing
assign_silent : (s : State) (v : Value) (r : Reached) (old : Option Value) → prints r.passed ≡ [] → Silent (assign_did s v r old)
assign_silent s v r None h = tt
assign_silent s v r (Some old) h = two_silent (r.passed ++ drops old) (stores r.spot v) (two_silent r.passed (drops old) h (drops_silent old)) (stores_silent r.spot v)

-- an act at a place prints nothing where it doesn't there
reached_silent : (o : Option Reached) (go : Reached → Option Did) → SilentWay o → ((r : Reached) → prints r.passed ≡ [] → Silent (go r)) → Silent (then_reached o go)
reached_silent None go h g = tt
reached_silent (Some r) go h g = g r h

-- a new object prints nothing
box_silent : (s : State) (v : Value) → Silent (box_did s v)
box_silent s (Own v) = refl
box_silent s (ToSlot i) = tt
box_silent s (ToObject o) = tt
box_silent s (Held o) = tt

-- nor does an operation
arith_silent : (s : State) (f : Op) (a b : Value) → Silent (arith_did s f a b)
arith_silent s f (Own (plain.Int n)) b = by b
  where
    by : (b : Value) → Silent (arith_did s f (Own (plain.Int n)) b)
    by (Own plain.Nothing) = tt
    by (Own plain.Unit) = tt
    by (Own (plain.Int m)) = refl
    by (Own (plain.Box o)) = tt
    by (Own (plain.Mutex m)) = tt
    by (Own (plain.Task t)) = tt
    by (ToSlot i) = tt
    by (ToObject o) = tt
    by (Held o) = tt
arith_silent s f (Own plain.Nothing) b = tt
arith_silent s f (Own plain.Unit) b = tt
arith_silent s f (Own (plain.Box o)) b = tt
arith_silent s f (Own (plain.Mutex m)) b = tt
arith_silent s f (Own (plain.Task t)) b = tt
arith_silent s f (ToSlot i) b = tt
arith_silent s f (ToObject o) b = tt
arith_silent s f (Held o) b = tt

-- a slot that goes prints nothing
drop_silent : (s : State) (vs : List Value) → Silent (drop_did s vs)
drop_silent s [] = tt
drop_silent s (v ∷ vs) = drops_silent v

-- every act but the one that prints
abbrev pub IsSilent : Act → Type 0
IsSilent (do_print v) = ⊥
IsSilent _ = ⊤

-- each act but one is silent
act_silent : (a : Act) (s : State) → IsSilent a → Silent (act a s)
act_silent (do_let v) s h = refl
act_silent (do_read w take) s h = reached_silent (locate s w) (λ r. read_did s take r (value_at s r.spot)) (stars_silent s w.slot w.depth) (λ r g. read_silent s take r (value_at s r.spot) g)
act_silent (do_assign w v) s h = reached_silent (locate s w) (λ r. assign_did s v r (value_at s r.spot)) (stars_silent s w.slot w.depth) (λ r g. assign_silent s v r (value_at s r.spot) g)
act_silent (do_borrow w is_mut) s h = reached_silent (locate s w) (borrow_did s) (stars_silent s w.slot w.depth) (λ r g. g)
act_silent (do_box v) s h = box_silent s v
act_silent (do_arith f a b) s h = arith_silent s f a b
act_silent (do_print v) s h = absurd h
act_silent (do_discard v) s h = drops_silent v
act_silent do_drop s h = drop_silent s s.slots
act_silent (do_end v) s h = two_silent (drops v) (label.End s.thread ∷ []) (drops_silent v) refl
act_silent (do_spawn cs r) s h = tt
act_silent (do_join v) s h = tt
act_silent (do_finish v) s h = refl
act_silent (do_leave v) s h = refl
act_silent (do_mutex v) s h = tt
act_silent (do_dup w) s h = tt
act_silent (do_lock w) s h = tt
act_silent do_unlock s h = tt
act_silent (do_par cs r ds q) s h = tt
act_silent do_par_end s h = tt

-- such an act's labels print nothing
pub silent : (a : Act) (s : State) (d : Did) → IsSilent a → act a s ≡ Some d → prints d.labels ≡ []
silent a s d h e = subst Silent e (act_silent a s h)

-- the output of such an act is as before
pub no_print : (a : Act) (s : State) (v : Value) (t : ℕ) (slots : List Value) (heap : Heap) (labels : List Label) (output : List ℤ) → IsSilent a → act a s ≡ did v t slots heap labels → output ≡ output ++ prints labels
no_print a s v t slots heap labels output h e = sym (ap (λ ns. output ++ ns) (silent a s (record { value = v; state = state t slots heap; labels = labels }) h e) ∙ append-nil output)
