-- Copies are right after steps in which a reference goes, and after borrows of variables.
use Rattle.std.proofs.Common.{◌≡◌, ℕ, ◌-◌, true, false, length, List, [], Some, refl, sym, ap, subst, ◌∙◌}
use Rattle.std.specs.Prelude.{⊤, slice_get}
use Rattle.law_words_borrows.specs.Below.fr_base.declared.instruction.Instr.{Instr}
use Rattle.law_words_borrows.specs.Below.fr_base.declared.instruction.Instr.TheVariants as instr
use Rattle.law_words_borrows.specs.Below.journal.View.{EntryView}
use Rattle.law_words_borrows.specs.Below.thread_state.View.{ThreadState}
use Rattle.law_words_borrows.specs.Below.thread_state.declared.phase.Phase.TheVariants as phase
use Rattle.law_words_borrows.specs.Below.server_model.declared.event.Event.{Event}
use Rattle.law_words_borrows.specs.Below.server_model.declared.event.What.TheVariants.{Step}
use Rattle.law_words_borrows.specs.Below.server_model.Servers.{Server, Cluster, server_at}
use Rattle.law_words_borrows.specs.Below.server_model.Work.{Hand, thread_in}
use Rattle.law_words_borrows.specs.Below.server_model.Places.{Spot, nowhere as no_spot, in_slot as spot_slot, on_top}
use Rattle.law_words_borrows.specs.Below.server_model.Prepare.{ready, ending, assigned, prepare, read_or_taken, read_stars, read_pointer, lend_pointer, access_of}
use Rattle.law_words_borrows.specs.Below.server_model.Events.{begin_work, does, Stepped, step}
use Rattle.law_words_borrows.specs.Below.server_model.Clusters.{apply}
use Rattle.law_words_borrows.specs.Below.coherent_memory.Names.{other}
use Rattle.law_words_borrows.specs.Below.coherent_memory.Things.{at_slot}
use Rattle.law_words_borrows.specs.Below.coherent_memory.Follow.{Standing, locate, place_at}
use Rattle.law_words_borrows.specs.Below.coherent_memory.Sight.{sight}
use Rattle.law_words_borrows.specs.Below.coherent_memory.Requests.{lies_here, lent_place, taken_there, taken_phase}
use Rattle.law_words_borrows.specs.Below.coherent_memory.Coherent.{IsSound}
use Rattle.law_words_borrows.proofs.Below.law_words_paths.paths.Sole.{some_is}
use Rattle.law_copies_kept.specs.Below.law_words_paths.words.Reworded.{HasPlaces}
use Rattle.law_words_borrows.specs.Below.law_counts_sums.Laws.{Gives}
use Rattle.law_words_borrows.proofs.Below.law_counts_sums.Results.{both_give, weaker}
use Rattle.law_words_borrows.proofs.Below.law_counts_sums.GiftsTaken.{none_here}
use Rattle.law_copies_kept.specs.Below.law_words_kept.stays.Laws.{BorrowsVariable, shared, mutable}
use Rattle.law_copies_kept.proofs.Below.law_words_kept.stays.Sites.{ServerAlike, HandAlike, steps}
use Rattle.law_copies_kept.proofs.Below.law_words_kept.stays.Steps.{borrow_steps, borrow_mut_steps}
use Rattle.law_copies_kept.proofs.Below.law_words_kept.stays.StayKinds.{Seen, seen_where}
use Rattle.law_copies_kept.proofs.Below.law_words_kept.prepared.Untaken.{not_taken}
use Rattle.law_words_borrows.specs.Below.law_words_values.references.Gone.{GivesReference, moves, drops, discards, assigns}
use Rattle.law_copies_kept.proofs.copies.Clean.{Leaves, all_goes}
use Rattle.law_copies_kept.specs.references.Clean.{ReferencesKeepCopies, VariableBorrowsKeepCopies}
use Rattle.law_copies_kept.proofs.references.References.{light_calm, references_leave}
use Rattle.law_copies_kept.proofs.references.Kept.{start_of, ready_kept, places_before, places_after}

-- the place of such an instruction is ready at once
ready_at_once : (s : Server) (y : ThreadState) (i : Instr) → GivesReference y i → (sp : Spot) × (prepare (access_of i y) (start_of s y) ≡ ready (start_of s y) sp)
ready_at_once s y _ (moves w v flat e) = (spot_slot w.slot, ap (λ d. prepare (Some (read_or_taken w d true)) (start_of s y)) flat ∙ ap (λ d. read_stars d (start_of s y) (spot_slot w.slot)) flat)
ready_at_once s y _ (drops v e light) = (no_spot, ap (λ o. prepare (ending (spot_slot (length y.slots - 1)) o) (start_of s y)) e ∙ ap (λ a. prepare a (start_of s y)) (light_calm (spot_slot (length y.slots - 1)) v light))
ready_at_once s y _ (discards v e light) = (no_spot, ap (λ o. prepare (ending on_top o) (start_of s y)) e ∙ ap (λ a. prepare a (start_of s y)) (light_calm on_top v light))
ready_at_once s y _ (assigns w o v flat e light) = (
  no_spot,
  ap (λ d. prepare (assigned w d y) (start_of s y)) flat ∙ ap (λ x. prepare (ending (spot_slot w.slot) x) (start_of s y)) e ∙ ap (λ a. prepare a (start_of s y)) (light_calm (spot_slot w.slot) v light),
)

pub references_keep : ReferencesKeepCopies
references_keep k number t s y i coherent few here at code g =
    let once = ready_at_once s y i g in ready_kept k number t s y i coherent.sound few here at code once.0 once.1 (references_leave k number t s y i coherent few here at code g)

-- A BORROW OF A VARIABLE

borrow_seen : (code : List Instr) (n servers : ℕ) (i : Instr) (h : Hand) → BorrowsVariable i → ((v : ℕ) → h.thread.phase ≡ phase.Taken v → ⊥) → Gives (λ (d : Stepped). HandAlike code n [] h d.hand) (step servers i h)
borrow_seen code n servers _ h (shared {w = w} e) free = borrow_steps code n servers w h e free
borrow_seen code n servers _ h (mutable {w = w} e) free = borrow_mut_steps code n servers w h e free

-- its place is ready at once
borrow_at_once : (s : Server) (y : ThreadState) (i : Instr) → BorrowsVariable i → (sp : Spot) × (prepare (access_of i y) (start_of s y) ≡ ready (start_of s y) sp)
borrow_at_once s y _ (shared {w = w} e) = (spot_slot w.slot, ap (λ d. read_pointer w d (start_of s y)) e)
borrow_at_once s y _ (mutable {w = w} e) = (spot_slot w.slot, ap (λ d. lend_pointer w d (start_of s y)) e)

-- a thread that has taken an object borrows from a pointer
none_taken : (k : Cluster) (number t : ℕ) (s : Server) (y : ThreadState) (i : Instr) → IsSound k → server_at k.servers number ≡ Some s → thread_in s.threads t ≡ Some y → slice_get k.code y.pc ≡ Some i → BorrowsVariable i → (v : ℕ) → y.phase ≡ phase.Taken v → ⊥
none_taken k number t s y _ sound here at code (shared {w = w} e) = not_taken k sound number s here t y at (instr.Borrow w) code refl
none_taken k number t s y _ sound here at code (mutable {w = w} e) = λ v p.
    let x : Standing = record { server = s.rest.number; packed = false; thread = y } in
    let stands : taken_phase (sight k) x y.phase ≡ 0 = none_here k sound number s here t y at (λ z. taken_phase (sight k) z z.thread.phase) sound.requests.taken_stands in
    let there : taken_there (sight k) x v (lent_place (slice_get k.code y.pc)) ≡ 0 = subst (λ q. taken_phase (sight k) x q ≡ 0) p stands in
    let at_place : taken_there (sight k) x v (Some w) ≡ 0 = subst (λ j. taken_there (sight k) x v (lent_place j) ≡ 0) code there in
    let flat : place_at (sight k).ground y.number w ≡ Some (at_slot y.number w.slot) = ap (λ d. locate (sight k).ground y.number w.slot d) e in
    let none : other (lies_here (sight k) x.server v (place_at (sight k).ground y.number w)) ≡ 0 = at_place in
    let one : 1 ≡ 0 = subst (λ l. other (lies_here (sight k) x.server v l) ≡ 0) flat none in
    absurd (cc one)

pub variable_borrows_keep : VariableBorrowsKeepCopies
variable_borrows_keep k number t s y i coherent few here at code borrows =
    let e : Event = record { server = number; what = Step t } in
    let once = borrow_at_once s y i borrows in
    ready_kept k number t s y i coherent.sound few here at code once.0 once.1
    (both_give (Seen k e (λ v. ⊤)) (λ (d : Cluster × EntryView). HasPlaces d.0) (λ (d : Cluster × EntryView). Leaves k d.0) (apply k e)
    (seen_where k e (λ v. ⊤) coherent.sound few (λ r h. subst (λ x. Gives (λ (q : Server × EntryView). ⊤ → ServerAlike k.code x q) (does k.code k.options x (Step t))) (some_is (sym here ∙ h)) there)) (places_after k e coherent.sound few)
    (λ d seen places. let same = seen tt in all_goes.seen k d.0 (places_before k coherent.sound) places same.0 same.1))
  where
    free : (v : ℕ) → y.phase ≡ phase.Taken v → ⊥
    free = none_taken k number t s y i coherent.sound here at code borrows

    there : Gives (λ (q : Server × EntryView). ⊤ → ServerAlike k.code s q) (does k.code k.options s (Step t))
    there =
        steps k.code k.options.servers t s (λ f. ⊤)
        (λ z e j f.
        let h : Hand = record { work = begin_work s.rest; thread = z } in
        let same : y ≡ z = some_is (sym at ∙ e) in
        let its : i ≡ j = some_is (sym code ∙ ap (λ (x : ThreadState). slice_get k.code x.pc) same ∙ f) in
        weaker (λ (d : Stepped). HandAlike k.code s.rest.number [] h d.hand) (λ (d : Stepped). ⊤ → HandAlike k.code s.rest.number [] h d.hand) (step k.options.servers j h)
        (borrow_seen k.code s.rest.number k.options.servers j h (subst BorrowsVariable its borrows) (subst (λ (x : ThreadState). (v : ℕ) → x.phase ≡ phase.Taken v → ⊥) same free)) (λ d a q. a))
