-- Following hops that are ready already leads where `passes` says.
use Rattle.std.proofs.Common.{◌≡◌, ℕ, zero, suc, ◌+◌, ◌≤◌, ◌<◌, List, [], ◌∷◌, ◌++◌, if◌then◌else◌, Option, None, Some, refl, ap, ◌∙◌, arith}
use Rattle.std.proofs.lemmas.Bool.{lt-ltb}
use Rattle.fr_base.specs.declared.label.Label.{Label}
use Rattle.heap_partition.specs.declared.value.BoxPtr.{BoxPtr}
use Rattle.journal.specs.declared.act.Act.{Act}
use Rattle.journal.specs.declared.act.Act.TheVariants as act
use Rattle.place_walk.specs.declared.hop.Hop.{Hop}
use Rattle.place_walk.specs.declared.hop.Hop.TheVariants as hop
use Rattle.place_walk.specs.Hops.{write_hop}
use Rattle.thread_state.specs.declared.value.Value.{Value}
use Rattle.server_model.specs.Work.{Hand, note, then_some}
use Rattle.server_model.specs.Places.{Spot, in_slot, on_top, in_cell, in_copy, nowhere, value_at, cell_at, load_of, load_at, pointer_of, slot_in}
use Rattle.server_model.specs.Prepare.{hopped, and_then, pass_by, write_by, write_value, write_stars}
use Rattle.server_model.specs.Objects.{passed_spot}
use Rattle.server_deliveries.specs.Passes.{pass_spot, passes}

-- the same with other acts and labels
abbrev told : Hand → List Act → List Label → Hand
told h a l = record h { work = record h.work { acts = a; labels = l } }

same_value : (h : Hand) (a : List Act) (l : List Label) (s : Spot) → value_at (told h a l) s ≡ value_at h s
same_value h a l (in_slot i) = refl
same_value h a l on_top = refl
same_value h a l (in_cell w through) = refl
same_value h a l (in_copy w) = refl
same_value h a l nowhere = refl

-- what the hops after this one do
abbrev Later : ℕ → ℕ → Hand → Type 0
Later d k h = (b : List Act) (m : List Label) (t : Spot) → passed_spot (write_stars d k (told h b m) t) ≡ passes d h t

by_pointer : (d k : ℕ) (h : Hand) (a : List Act) (l : List Label) (t : Spot) (p : Option BoxPtr) → Later d k h → passed_spot (write_stars d k (hopped (λ q. note (act.Local q.object q.word)) p (told h a l)) t) ≡ passes d h t
by_pointer d k h a l t None later = later a l t
by_pointer d k h a l t (Some p) later = later (a ++ act.Local p.object p.word ∷ []) l t

by_hop : (d k : ℕ) (h : Hand) (a : List Act) (l : List Label) (s : Spot) (v : Value) (o : Option Hop) → Later d k h → passed_spot (and_then (write_stars d k) (pass_by s v o (told h a l))) ≡ then_some (pass_spot s o) (passes d h)
by_hop d k h a l s v None later = refl
by_hop d k h a l s v (Some (hop.Slot i)) later = later a l (in_slot i)
by_hop d k h a l s v (Some (hop.Direct w)) later = refl
by_hop d k h a l s v (Some (hop.Hit w)) later = refl
by_hop d k h a l s v (Some (hop.NeedCopy w)) later = refl
by_hop d k h a l s v (Some (hop.NeedMove w)) later = refl
by_hop d k h a l s v (Some (hop.NeedTint w)) later = later a l (in_cell w None)
by_hop d k h a l s v (Some (hop.AtCell w)) later = by_pointer d k h a l (in_cell w (slot_in s)) (pointer_of v) later

by_value : (d k : ℕ) (h : Hand) (a : List Act) (l : List Label) (s : Spot) (x : Option Value) → k < h.thread.passed → Later d (k + 1) h
    → passed_spot (and_then (write_stars d (k + 1)) (write_value k s x (told h a l))) ≡ then_some (then_some x (λ v. pass_spot s (write_hop h.work.rest.number v))) (passes d h)
by_value d k h a l s None few later = refl
by_value d k h a l s (Some v) few later =
    ap (λ b. passed_spot (and_then (write_stars d (k + 1)) (if b then pass_by s v (write_hop h.work.rest.number v) (told h a l) else write_by k s v (write_hop h.work.rest.number v) (told h a l)))) (lt-ltb k h.thread.passed few)
    ∙ by_hop d (k + 1) h a l s v (write_hop h.work.rest.number v) later

pub pass_all : (d k : ℕ) (h : Hand) (a : List Act) (l : List Label) (s : Spot) → k + d ≤ h.thread.passed → passed_spot (write_stars d k (told h a l) s) ≡ passes d h s
pass_all zero k h a l s few = refl
pass_all (suc d) k h a l s few =
    ap (λ x. passed_spot (and_then (write_stars d (k + 1)) (write_value k s x (load_at s (told h a l))))) (same_value h a l s)
    ∙ by_value d k h a (l ++ load_of (cell_at (told h a l) s)) s (value_at h s) (omega (arith, few)) (λ b m t. pass_all d (k + 1) h b m t (omega (arith, few)))

-- the hops of a write that a thread has passed lead where `passes` says
pub passed_there : (h : Hand) (s : Spot) → passed_spot (write_stars h.thread.passed 0 h s) ≡ passes h.thread.passed h s
passed_there h s = pass_all h.thread.passed 0 h h.work.acts h.work.labels s (omega arith)
