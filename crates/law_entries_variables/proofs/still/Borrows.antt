-- Borrows of variables: a reference to a slot is pushed, and nothing is noted.
use Rattle.std.proofs.Common.{◌≡◌, ℕ, true, Some, None, refl, sym, subst, ◌∙◌}
use Rattle.std.specs.Prelude.{option_map}
use Rattle.law_entries_variables.specs.Below.fr_base.declared.place.Lval.{Lval}
use Rattle.law_entries_variables.specs.Below.fr_base.declared.instruction.Instr.{Instr}
use Rattle.law_entries_variables.specs.Below.fr_base.declared.instruction.Instr.TheVariants as instr
use Rattle.law_entries_variables.specs.Below.thread_state.View.{ThreadState}
use Rattle.law_entries_variables.specs.Below.thread_state.declared.value.Value.TheVariants as value
use Rattle.law_entries_variables.specs.Below.journal.View.{EntryView}
use Rattle.law_entries_variables.specs.Below.server_model.declared.event.What.TheVariants.{Step}
use Rattle.law_entries_variables.specs.Below.server_model.Servers.{Server, Cluster}
use Rattle.law_entries_variables.specs.Below.server_model.Places.{in_slot}
use Rattle.law_entries_variables.specs.Below.server_model.Work.{Hand, push_temp, then_some}
use Rattle.law_entries_variables.specs.Below.server_model.Prepare.{read_pointer, lend_pointer}
use Rattle.law_entries_variables.specs.Below.server_model.Commit.{goes_on, borrow_from, borrow_mut_from}
use Rattle.law_entries_variables.specs.Below.server_model.Events.{can_step, has_phase, enabled, does, begin_work, committed, prepared, step, step_in, stepped}
use Rattle.law_entries_variables.specs.Below.server_model.Clusters.{apply}
use Rattle.law_entries_variables.specs.Below.law_counts_sums.Laws.{Gives}
use Rattle.law_entries_variables.proofs.Below.law_counts_sums.Results.{over_gives, both_give}
use Rattle.law_entries_variables.proofs.Below.law_counts_sums.GiftsTaken.{gift_fits}
use Rattle.law_entries_variables.proofs.Below.law_counts_sums.QuietSteps.{GiftFits}
use Rattle.law_entries_variables.specs.Below.law_words_kept.stays.Laws.{BorrowsVariable, shared, mutable}
use Rattle.law_entries_variables.proofs.Below.law_words_kept.stays.StayKinds.{borrows_leave}
use Rattle.law_entries_variables.specs.Below.law_words_paths.words.Unmoved.{LeavesWords}
use Rattle.law_entries_variables.specs.deliveries.Entries.{LeadsOn}
use Rattle.law_entries_variables.proofs.deliveries.Applied.{applied_by}
use Rattle.law_entries_variables.specs.still.Borrows.{VariableBorrowsLegal}
use Rattle.law_entries_variables.proofs.still.Settled.{Settles, goes_over, StepLed, settled_led}
use Rattle.law_entries_variables.proofs.still.PlainSteps.{lives}

-- no gift is for a borrow
no_gift : (i : Instr) (y : ThreadState) → BorrowsVariable i → GiftFits i y.gift → y.gift ≡ None
no_gift _ y (shared {w = w} e) f = f
no_gift _ y (mutable {w = w} e) f = f

module _ (s : Server) (y : ThreadState) (bare : y.gift ≡ None) where
  abbrev h : Hand
  h = record { work = begin_work s.rest; thread = y }

  borrow_settles : (servers : ℕ) (w : Lval) → w.depth ≡ 0 → Gives (Settles s y) (step servers (instr.Borrow w) h)
  borrow_settles servers w e =
      subst (λ d. Gives (Settles s y) (prepared servers (instr.Borrow w) (read_pointer w d h))) (sym e)
      (subst (λ d. Gives (Settles s y) (committed (goes_on (borrow_from w d (in_slot w.slot) h)))) (sym e)
      (goes_over s y (Some (push_temp (value.SharedSlot w.slot) h)) (record { rest = refl; acts = refl; labels = (λ c. refl, λ e c. refl); number = refl; slots = refl; gift = bare })))

  borrow_mut_settles : (servers : ℕ) (w : Lval) → w.depth ≡ 0 → Gives (Settles s y) (step servers (instr.BorrowMut w) h)
  borrow_mut_settles servers w e =
      subst (λ d. Gives (Settles s y) (prepared servers (instr.BorrowMut w) (lend_pointer w d h))) (sym e)
      (subst (λ d. Gives (Settles s y) (committed (goes_on (borrow_mut_from w d (in_slot w.slot) h)))) (sym e)
      (goes_over s y (Some (push_temp (value.MutSlot w.slot) h)) (record { rest = refl; acts = refl; labels = (λ c. refl, λ e c. refl); number = refl; slots = refl; gift = bare })))

  settles : (servers : ℕ) (i : Instr) → BorrowsVariable i → Gives (Settles s y) (step servers i h)
  settles servers _ (shared {w = w} e) = borrow_settles servers w e
  settles servers _ (mutable {w = w} e) = borrow_mut_settles servers w e

pub borrows_legal : VariableBorrowsLegal
borrows_legal k number t s y i sound few here at code borrows free c0 is_coloured =
    both_give (λ (d : Cluster × EntryView). LeavesWords k d.0) (λ (d : Cluster × EntryView). LeavesWords k d.0 → LeadsOn k.options d.1 c0 d.0) (λ (d : Cluster × EntryView). LeadsOn k.options d.1 c0 d.0) (apply k (record { server = number; what = Step t }))
    (borrows_leave k number t s y i sound few here at code borrows free)
    (applied_by (λ (d : Cluster × EntryView). LeavesWords k d.0 → LeadsOn k.options d.1 c0 d.0) k (record { server = number; what = Step t }) sound few (λ r e on.
    let same : r ≡ s = (let both : Some r ≡ Some s = sym e ∙ here in cc) in
    subst (λ (x : Server). Gives (StepLed k x c0) (does k.code k.options x (Step t))) (sym same) (there (subst (λ (x : Server). enabled k.options x (Step t) ≡ true) same on))))
    (λ d words l. l words)
  where
    there : enabled k.options s (Step t) ≡ true → Gives (StepLed k s c0) (does k.code k.options s (Step t))
    there on =
        let calm : can_step y.phase ≡ true = subst (λ x. has_phase can_step x ≡ true) at on in
        let bare : y.gift ≡ None = no_gift i y borrows (gift_fits k sound number s here t y at i code).0 in
        subst (λ x. Gives (StepLed k s c0) (option_map (stepped s) (then_some (option_map (λ v. record { work = begin_work s.rest; thread = v }) x) (step_in k.code k.options.servers)))) (sym at)
        (subst (λ x. Gives (StepLed k s c0) (option_map (stepped s) (then_some x (λ j. step k.options.servers j (record { work = begin_work s.rest; thread = y }))))) (sym code)
        (over_gives (Settles s y) (StepLed k s c0) (step k.options.servers i (record { work = begin_work s.rest; thread = y })) (stepped s) (settles s y bare k.options.servers i borrows)
        (λ d u. settled_led k sound number s here c0 is_coloured t y at (lives y.phase calm) d bare u)))
