-- What a step leaves of a term, and passing captures.
use Rattle.std.proofs.Common.{◌≡◌, ℕ, ◌≤◌, List, ◌∷◌, Option, Some, None, refl, sym, ap, ◌∙◌, subst, arith}
use Rattle.std.specs.Prelude.{IsSome}
use Rattle.fr_base.specs.declared.label.Label.{Label}
use Rattle.fr_plain.specs.declared.value.Value.{Value}
use Rattle.fr_plain.specs.Heap.{Heap}
use Rattle.fr_plain.specs.State.{State, slot_at}
use Rattle.fr_plain.specs.Acts.{Did, act}
use Rattle.fr_plain.specs.Run.{Capture, Run, Move, move, settle}
use Rattle.fr_plain.specs.Threads.{left_after, then_passed, pass}
use Rattle.fr_meaning.specs.Contexts.{IsSettled}
use Rattle.fr_forms.specs.Depths.{depth}
use Rattle.fr_shared.specs.declared.heap.Released.{Released}
use Rattle.fr_acts.specs.Acting.{state, releases}
use Rattle.fr_meaning.specs.Turning.{Turned, turned_by, turned, turns_to, settled, term_step}
use Rattle.fr_meaning.proofs.SettledLemmas.{settle_settled, depth_settle, Within, move_depth}

-- a settled term, no deeper than before
abbrev IsKept : Run → Run → Type 0
IsKept r q = IsSettled q × (depth q ≤ depth r)

-- a term that settles from one no deeper
pub settle_kept : (r q p : Run) → q ≡ settle p → depth p ≤ depth r → IsSettled q × (depth q ≤ depth r)
settle_kept r q p e d = (subst IsSettled (sym e) (settle_settled p), omega (arith, ap depth e, depth_settle p, d))

same : (a b : Turned) → Some a ≡ Some b → a ≡ b
same a b h = cc

-- by what the act does
kept_by : (r q : Run) (m : Move Run) (u w : Released) (d : Option Did) (t : ℕ) (slots : List Value) (heap : Heap) (labels : List Label) → Within depth (depth r) (Some m) → settled (turned_by m w d) ≡ turns_to q t slots heap labels u → IsKept r q
kept_by r q m u w None t slots heap labels h e = absurd cc
kept_by r q m u w (Some d) t slots heap labels h e =
    let f = same (record { run = settle (m.plug d.value); state = d.state; labels = d.labels; released = w }) (record { run = q; state = state t slots heap; labels = labels; released = u }) e in
    settle_kept r q (m.plug d.value) (sym (ap (λ (x : Turned). x.run) f)) (h d.value)

-- a step of a term leaves a settled one, which is no deeper
pub term_kept : (r q : Run) (s : State) (t : ℕ) (slots : List Value) (heap : Heap) (labels : List Label) (u : Released) → term_step r s ≡ turns_to q t slots heap labels u → IsSettled q × (depth q ≤ depth r)
term_kept r q s t slots heap labels u e = by (move r) (move_depth r) e
  where
    by : (o : Option (Move Run)) → Within depth (depth r) o → settled (turned o s) ≡ turns_to q t slots heap labels u → IsKept r q
    by None w e = absurd cc
    by (Some m) w e = kept_by r q m u (releases m.act s) (act m.act s) t slots heap labels w e

-- the first capture passes its slot's value
pub pass_first : (c : Capture) (cs : List Capture) (slots new left : List Value) (v : Value) → slot_at slots c.slot ≡ Some v → left ≡ left_after c.take slots c.slot → pass (c ∷ cs) slots new ≡ pass cs left (v ∷ new)
pass_first c cs slots new left v h e = ap (λ o. then_passed o (λ w. pass cs (left_after c.take slots c.slot) (w ∷ new))) h ∙ ap (λ vs. pass cs vs (v ∷ new)) (sym e)

-- captures that pass find the first one's slot
pub first_there : (c : Capture) (cs : List Capture) (slots new : List Value) → IsSome (pass (c ∷ cs) slots new) → IsSome (slot_at slots c.slot)
first_there c cs slots new h = by (slot_at slots c.slot) h
  where
    by : (o : Option Value) → IsSome (then_passed o (λ v. pass cs (left_after c.take slots c.slot) (v ∷ new))) → IsSome o
    by None g = g
    by (Some v) g = refl
