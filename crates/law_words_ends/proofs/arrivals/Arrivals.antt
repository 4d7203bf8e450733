-- Each delivery of an object that comes keeps the words: by the instruction of the thread that waits for it.
use Rattle.std.proofs.Common.{◌≡◌, ◌≤◌, ◌⊎◌, inl, inr, ⊎_elim, ℕ, zero, suc, ◌-◌, true, false, length, Option, Some, None, option_map, refl, sym, ap, subst, ◌∙◌, arith}
use Rattle.std.specs.Prelude.{slice_get}
use Rattle.law_words_borrows.specs.Below.fr_base.Lists.{last_of}
use Rattle.law_words_borrows.specs.Below.fr_base.declared.instruction.Instr.{Instr}
use Rattle.law_words_borrows.specs.Below.fr_base.declared.instruction.Instr.TheVariants as instr
use Rattle.law_words_borrows.specs.Below.fr_base.declared.instruction.Operand.{Operand}
use Rattle.law_words_borrows.specs.Below.fr_base.declared.place.Lval.{Lval}
use Rattle.law_words_borrows.specs.Below.heap_partition.declared.value.Cell.{Cell}
use Rattle.law_words_borrows.specs.Below.journal.View.{EntryView}
use Rattle.law_words_borrows.specs.Below.mut_borrow.declared.mutable.MutRef.{MutRef}
use Rattle.law_words_borrows.specs.Below.owner_box.Partition.{new_word}
use Rattle.law_words_borrows.specs.Below.thread_state.View.{ThreadState}
use Rattle.law_words_borrows.specs.Below.thread_state.declared.value.Value.{Value}
use Rattle.law_words_borrows.specs.Below.thread_state.declared.value.Value.TheVariants as value
use Rattle.law_words_borrows.specs.Below.server_msgs.declared.message.Message.TheVariants as message
use Rattle.law_words_borrows.specs.Below.server_model.declared.event.What.{What}
use Rattle.law_words_borrows.specs.Below.server_model.declared.event.What.TheVariants.{Deliver}
use Rattle.law_words_borrows.specs.Below.server_model.Servers.{Server, Cluster, server_at}
use Rattle.law_words_borrows.specs.Below.server_model.Work.{Hand, put_back, thread_in, then_some}
use Rattle.law_words_borrows.specs.Below.server_model.Clusters.{hand_over_newer, done_at, apply}
use Rattle.law_words_borrows.specs.Below.server_model.Places.{Spot, in_slot, on_top}
use Rattle.law_words_borrows.specs.Below.server_model.Prepare.{access_of, assigned, ending}
use Rattle.law_words_borrows.specs.Below.server_model.Objects.{deliver_moved, arrived, instr_access}
use Rattle.law_words_borrows.specs.Below.server_model.Events.{enabled, does, left_by, received, deliver_message}
use Rattle.law_words_borrows.specs.Below.coherent_memory.Follow.{Standing}
use Rattle.law_words_borrows.specs.Below.coherent_memory.Paths.{Path, no_path, shares as shares_place, taking, path_of, Awaited}
use Rattle.law_words_borrows.specs.Below.coherent_memory.Sight.{Sight, sight}
use Rattle.law_words_borrows.specs.Below.coherent_memory.Turn.{AwaitsAt, before_share, at_share, InTurn, by_share}
use Rattle.law_words_borrows.specs.Below.coherent_types.ClusterTypes.{IsCoherent}
use Rattle.law_words_borrows.specs.Below.law_counts_sums.Laws.{Gives, FewEvents}
use Rattle.law_words_borrows.proofs.Below.law_counts_sums.Results.{over_gives, test_gives}
use Rattle.law_words_writes.specs.Below.law_words_kept.reads.Reading.{copies, shares, dups, locks}
use Rattle.law_words_writes.specs.Below.law_words_kept.prepared.Requests.{WordsRise}
use Rattle.law_words_writes.specs.Below.law_words_asked.writes.Writing.{assigns as assigns_through, moves as moves_through}
use Rattle.law_words_writes.specs.Below.law_words_asked.arrivals.Awaited.{Awaits}
use Rattle.law_words_writes.proofs.Below.law_words_asked.awaited.BorrowArrivals.{borrow_arrivals_keep}
use Rattle.law_words_writes.proofs.Below.law_words_asked.awaited.Landing.{before, landed, Kept, awaits, delivered}
use Rattle.law_words_writes.proofs.Below.law_words_asked.awaited.ReadArrivals.{read_arrivals_keep}
use Rattle.law_words_writes.proofs.Below.law_words_asked.awaited.WriteArrivals.{write_arrivals_keep}
use Rattle.law_words_ends.specs.variables.Ends.{drops, discards, assigns}
use Rattle.law_words_ends.specs.arrivals.Regained.{ArrivalsKeep}
use Rattle.law_words_ends.proofs.arrivals.Regained.{ends_regain}

-- WHERE NOTHING COMES OF AN EVENT

pub none_done : (k : Cluster) (number : ℕ) (w : What) (s : Server) (P : Cluster × EntryView → Type 0) → server_at k.servers number ≡ Some s → Gives (λ (r : Server × EntryView). ⊥) (does k.code k.options s w) → Gives P (apply k (record { server = number; what = w }))
none_done k number w s P here none =
    subst (λ o. Gives P (then_some o (λ x. option_map (λ d. (record k { servers = hand_over_newer number (length x.rest.outbox) d.0 k.servers }, d.1)) (done_at k w x)))) (sym here)
    (over_gives (λ (r : Server × EntryView). ⊥) P (done_at k w s) (λ d. (record k { servers = hand_over_newer number (length s.rest.outbox) d.0 k.servers }, d.1)) (test_gives (λ (r : Server × EntryView). ⊥) (enabled k.options s w) (does k.code k.options s w) (λ on. none))
    (λ d f. absurd f))

-- WHO WAITS FOR NO OBJECT

same_share : {v w : Lval} → shares_place v ≡ shares_place w → v ≡ w
same_share e = cc

-- on no path
unwaited : (k : Sight) (x : Standing) (old : ℕ) (a : Awaited) (p : Path) → p ≡ no_path → InTurn k x old a p → ⊥
unwaited k x old a _ e (by_share w u) = cc e
unwaited k x old a _ e _ = cc e

-- a borrow of a variable follows nothing
is_deep : (k : Sight) (x : Standing) (w : Lval) (p : Path) (j : ℕ) (a : Awaited) → p ≡ shares_place w → AwaitsAt k x p j a → 1 ≤ w.depth
is_deep k x w _ _ a e (before_share v j _ lt asked) = let d = ap (λ (z : Lval). z.depth) (same_share e) in omega (arith, lt, d)
is_deep k x w _ _ a e (at_share v j _ last asked) = let d = ap (λ (z : Lval). z.depth) (same_share e) in omega (arith, last, d)
is_deep k x w _ _ a e _ = absurd (cc e)

shares_deep : (k : Sight) (x : Standing) (old : ℕ) (a : Awaited) (w : Lval) (p : Path) → p ≡ shares_place w → InTurn k x old a p → 1 ≤ w.depth
shares_deep k x old a w _ e (by_share v u) = is_deep k x w (shares_place v) u.number a e u.at
shares_deep k x old a w _ e _ = absurd (cc e)

-- a mutable reference stands there, or nothing ends
mutable_or_none : (v : Option Value) → ((r : MutRef) × (v ≡ Some (value.Mut r))) ⊎ ((sp : Spot) → ending sp v ≡ None)
mutable_or_none (Some (value.Mut r)) = inl (r, refl)
mutable_or_none None = inr (λ sp. refl)
mutable_or_none (Some value.Gone) = inr (λ sp. refl)
mutable_or_none (Some (value.Own u)) = inr (λ sp. refl)
mutable_or_none (Some (value.SharedSlot j)) = inr (λ sp. refl)
mutable_or_none (Some (value.MutSlot j)) = inr (λ sp. refl)
mutable_or_none (Some (value.Shared q)) = inr (λ sp. refl)
mutable_or_none (Some (value.Held m)) = inr (λ sp. refl)

module _ (k : Cluster) (coherent : IsCoherent k) (few : FewEvents k) (number : ℕ) (s : Server) (here : server_at k.servers number ≡ Some s) (i old t : ℕ) (c : Cell) (message_there : slice_get s.rest.inbox i ≡ Some (message.Moved old c t)) where
  abbrev Goal : Type 0
  Goal = Gives (λ (x : Cluster × EntryView). WordsRise k x.0) (apply k (record { server = number; what = Deliver i }))

  -- its thread isn't here
  no_thread : thread_in s.threads t ≡ None → Goal
  no_thread none =
      none_done k number (Deliver i) s (λ (x : Cluster × EntryView). WordsRise k x.0) here
      (subst (λ o. Gives (λ (r : Server × EntryView). ⊥) (option_map (left_by s.events None None) (then_some o (λ m. deliver_message k.code m (received i s))))) (sym message_there)
      (subst (λ o. Gives (λ (r : Server × EntryView). ⊥) (option_map (left_by s.events None None) (then_some (option_map (λ v. record { work = (received i s).work; thread = v }) o) (λ h. option_map (put_back s.threads) (deliver_moved k.code old c h))))) (sym none) tt))

  module _ (y : ThreadState) (at : thread_in s.threads t ≡ Some y) where
    -- its instruction asks for no place
    no_access : (o : Option Instr) → slice_get k.code y.pc ≡ o → ((h : Hand) → h.thread ≡ y → instr_access h o ≡ None) → Goal
    no_access o code none =
        delivered k number i old t s c y coherent few here message_there at
        (λ h waiting grows.
        let b = before k coherent few s h t y at i old c message_there in
        subst (λ q. Gives (Kept k coherent few s h t y at i old c message_there) (arrived (instr_access b q) old (new_word s.rest.partition) (landed k coherent few s h t y at i old c message_there))) (sym code)
        (subst (λ q. Gives (Kept k coherent few s h t y at i old c message_there) (arrived q old (new_word s.rest.partition) (landed k coherent few s h t y at i old c message_there))) (sym (none b refl)) tt))

    module _ (j : Instr) (code : slice_get k.code y.pc ≡ Some j) where
      unasked : access_of j y ≡ None → Goal
      unasked none = no_access (Some j) code (λ h mine. ap (access_of j) mine ∙ none)

      -- on its path nothing is waited for
      unawaited : ((a : Awaited) (x : Standing) → InTurn (sight k) x old a (path_of (Some j) y) → ⊥) → Goal
      unawaited none =
          delivered k number i old t s c y coherent few here message_there at
          (λ h waiting grows.
          let me : Standing = record { server = s.rest.number; packed = false; thread = y } in
          let aw : Awaits k me old c = awaits k coherent few s h t y at i old c message_there waiting grows in
          absurd (none aw.awaited me (subst (InTurn (sight k) me old aw.awaited) (ap (λ b. path_of b y) code) aw.turn)))

    -- BY THE INSTRUCTION

    moves : (w : Lval) → slice_get k.code y.pc ≡ Some (instr.Read w true) → (d : ℕ) → w.depth ≡ d → Goal
    moves w code zero flat = unawaited (instr.Read w true) code (λ a x turn. unwaited (sight k) x old a (taking w w.depth) (ap (taking w) flat) turn)
    moves w code (suc d) deep = write_arrivals_keep k number i old t s c y (instr.Read w true) w d coherent few here message_there at code (moves_through deep)

    borrows : (w : Lval) → slice_get k.code y.pc ≡ Some (instr.Borrow w) → (d : ℕ) → w.depth ≡ d → Goal
    borrows w code zero flat = unawaited (instr.Borrow w) code (λ a x turn. let l = shares_deep (sight k) x old a w (shares_place w) refl turn in omega (arith, l, flat))
    borrows w code (suc d) deep = read_arrivals_keep k number i old t s c y (instr.Borrow w) w d coherent few here message_there at code (shares deep) (λ v e. absurd (cc e))

    assigned_over : (w : Lval) (o : Operand) → slice_get k.code y.pc ≡ Some (instr.Assign w o) → (d : ℕ) → w.depth ≡ d → Goal
    assigned_over w o code zero flat =
        ⊎_elim (λ (q : (r : MutRef) × (slice_get y.slots w.slot ≡ Some (value.Mut r))). ends_regain k number i old t s c y (instr.Assign w o) q.0 coherent few here message_there at code (assigns w o flat q.1))
        (λ (none : (sp : Spot) → ending sp (slice_get y.slots w.slot) ≡ None). unasked (instr.Assign w o) code (ap (λ d. assigned w d y) flat ∙ none (in_slot w.slot))) (mutable_or_none (slice_get y.slots w.slot))
    assigned_over w o code (suc d) deep = write_arrivals_keep k number i old t s c y (instr.Assign w o) w d coherent few here message_there at code (assigns_through o deep)

    slot_goes : slice_get k.code y.pc ≡ Some instr.DropSlot → Goal
    slot_goes code =
        ⊎_elim (λ (q : (r : MutRef) × (last_of y.slots ≡ Some (value.Mut r))). ends_regain k number i old t s c y instr.DropSlot q.0 coherent few here message_there at code (drops q.1))
        (λ (none : (sp : Spot) → ending sp (last_of y.slots) ≡ None). unasked instr.DropSlot code (none (in_slot (length y.slots - 1)))) (mutable_or_none (last_of y.slots))

    value_goes : slice_get k.code y.pc ≡ Some instr.Discard → Goal
    value_goes code =
        ⊎_elim (λ (q : (r : MutRef) × (last_of y.temps ≡ Some (value.Mut r))). ends_regain k number i old t s c y instr.Discard q.0 coherent few here message_there at code (discards q.1))
        (λ (none : (sp : Spot) → ending sp (last_of y.temps) ≡ None). unasked instr.Discard code (none on_top)) (mutable_or_none (last_of y.temps))

    by_instruction : (o : Option Instr) → slice_get k.code y.pc ≡ o → Goal
    by_instruction None code = no_access None code (λ h mine. refl)
    by_instruction (Some (instr.Read w true)) code = moves w code w.depth refl
    by_instruction (Some (instr.Read w false)) code = read_arrivals_keep k number i old t s c y (instr.Read w false) w w.depth coherent few here message_there at code (copies refl) (λ v e. absurd (cc e))
    by_instruction (Some (instr.Dup w)) code = read_arrivals_keep k number i old t s c y (instr.Dup w) w w.depth coherent few here message_there at code (dups refl) (λ v e. absurd (cc e))
    by_instruction (Some (instr.Lock w)) code = read_arrivals_keep k number i old t s c y (instr.Lock w) w w.depth coherent few here message_there at code (locks refl) (λ v e. absurd (cc e))
    by_instruction (Some (instr.Borrow w)) code = borrows w code w.depth refl
    by_instruction (Some (instr.BorrowMut w)) code = borrow_arrivals_keep k number i old t s c y w coherent few here message_there at code
    by_instruction (Some (instr.Assign w o)) code = assigned_over w o code w.depth refl
    by_instruction (Some instr.DropSlot) code = slot_goes code
    by_instruction (Some instr.Discard) code = value_goes code
    by_instruction (Some (instr.Let o)) code = unasked (instr.Let o) code refl
    by_instruction (Some (instr.Box o)) code = unasked (instr.Box o) code refl
    by_instruction (Some (instr.Arith f a b)) code = unasked (instr.Arith f a b) code refl
    by_instruction (Some (instr.Print o)) code = unasked (instr.Print o) code refl
    by_instruction (Some (instr.Spawn cs body)) code = unasked (instr.Spawn cs body) code refl
    by_instruction (Some (instr.Join o)) code = unasked (instr.Join o) code refl
    by_instruction (Some (instr.Mutex o)) code = unasked (instr.Mutex o) code refl
    by_instruction (Some instr.Unlock) code = unasked instr.Unlock code refl
    by_instruction (Some (instr.Par cs body ds other)) code = unasked (instr.Par cs body ds other) code refl
    by_instruction (Some instr.ParEnd) code = unasked instr.ParEnd code refl
    by_instruction (Some (instr.End o)) code = unasked (instr.End o) code refl

  pub arrival_keeps : Goal
  arrival_keeps = by (thread_in s.threads t) refl
    where
      by : (o : Option ThreadState) → thread_in s.threads t ≡ o → Goal
      by None none = no_thread none
      by (Some y) at = by_instruction y at (slice_get k.code y.pc) refl

pub arrivals_keep : ArrivalsKeep
arrivals_keep k e old c t d coherent few =
    subst (λ w. Gives (λ (x : Cluster × EntryView). WordsRise k x.0) (apply k (record { server = e.server; what = w }))) (sym d.what) (arrival_keeps k coherent few e.server d.server d.there d.place old t c d.message)
