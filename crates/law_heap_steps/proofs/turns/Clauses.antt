-- Each kind of instruction whose line stands.
use Rattle.std.proofs.Common.{◌≡◌, ℕ, zero, suc, ◌==◌, true, false, Some, refl, sym, ap, ◌∙◌, subst}
use Rattle.std.specs.Prelude.{slice_get}
use Rattle.law_words_kept.proofs.Below.fr_typing.PlaceLemmas.{eq_cases}
use Rattle.law_words_kept.specs.Below.fr_base.Lists.{last_of}
use Rattle.law_words_kept.specs.Below.fr_base.declared.place.Lval.{Lval}
use Rattle.law_words_kept.specs.Below.fr_base.declared.instruction.Operand.{Operand}
use Rattle.law_words_kept.specs.Below.fr_base.declared.instruction.Instr.{Instr}
use Rattle.law_words_kept.specs.Below.fr_base.declared.instruction.Instr.TheVariants as instr
use Rattle.law_words_kept.specs.Below.server_model.declared.event.Event.{Event}
use Rattle.law_words_kept.specs.Below.thread_state.View.{ThreadState}
use Rattle.law_words_kept.specs.Below.server_model.Servers.{Server, Cluster}
use Rattle.law_words_kept.specs.Below.server_model.Work.{then_some}
use Rattle.law_words_kept.specs.Below.server_model.Clusters.{apply}
use Rattle.law_words_kept.specs.Below.coherent_memory.Coherent.{IsSound}
use Rattle.law_words_kept.proofs.Below.coherent_memory.Names.{and_left, and_right}
use Rattle.law_words_kept.specs.Below.law_counts_sums.Laws.{Gives}
use Rattle.law_heap_steps.specs.turns.Turns.{IsPlainStep, instr_of, ArePlainSteps, is_let, is_arith, is_print, reads_slot, borrows_slot, copies_place, borrows_place, lends_place, none_goes, discards_none, drops_none, replaces_none, thread_at, thread_of, ArePlainStepsWhere}
use Rattle.law_heap_steps.proofs.turns.Instructions.{lets as let_line, prints as print_line, sums as arith_line, shared_borrows, mutable_borrows}
use Rattle.law_heap_steps.proofs.turns.SlotReads.{reads as read_line}
use Rattle.law_words_kept.specs.Below.coherent_types.ClusterTypes.{IsCoherent}
use Rattle.law_heap_steps.proofs.turns.StarLines.{copy_line}
use Rattle.law_heap_steps.proofs.turns.BorrowLines.{shared_line, mutable_line}
use Rattle.law_heap_steps.proofs.turns.DropLines.{discard_line, drop_line, assign_line}
use Rattle.law_heap_steps.proofs.turns.Events.{AtStep, Line, own_line, steps_are_plain}

pub lets : ArePlainSteps IsSound is_let
lets k e i q it sound few = by i q it
  where
    by : (i : Instr) → instr_of k e ≡ Some i → is_let i ≡ true → Gives (IsPlainStep k) (apply k e)
    by (instr.Let o) q it = steps_are_plain k e (instr.Let o) sound few refl (λ g f. f) (own_line k e (instr.Let o) (λ r x here. let_line k.code k.options.servers r x o here)) q
    by _ q it = absurd (cc it)

pub sums : ArePlainSteps IsSound is_arith
sums k e i q it sound few = by i q it
  where
    by : (i : Instr) → instr_of k e ≡ Some i → is_arith i ≡ true → Gives (IsPlainStep k) (apply k e)
    by (instr.Arith f a b) q it = steps_are_plain k e (instr.Arith f a b) sound few refl (λ g f. f) (own_line k e (instr.Arith f a b) (λ r x here. arith_line k.code k.options.servers r x f a b here)) q
    by _ q it = absurd (cc it)

pub prints : ArePlainSteps IsSound is_print
prints k e i q it sound few = by i q it
  where
    by : (i : Instr) → instr_of k e ≡ Some i → is_print i ≡ true → Gives (IsPlainStep k) (apply k e)
    by (instr.Print o) q it = steps_are_plain k e (instr.Print o) sound few refl (λ g f. f) (own_line k e (instr.Print o) (λ r x here. print_line k.code k.options.servers r x o here)) q
    by _ q it = absurd (cc it)

-- A VARIABLE WITHOUT A STAR

abbrev of_slot : ℕ → ℕ → Lval
of_slot i d = record { slot = i; depth = d }

is_variable : (w : Lval) → (w.depth == 0) ≡ true → w ≡ of_slot w.slot 0
is_variable w = eq_cases (λ b. b ≡ true → w ≡ of_slot w.slot 0) w.depth 0 (λ e z. ap (of_slot w.slot) e) (λ ne z. absurd (cc z))

-- the line of a variable is that of its place
line_at : (k : Cluster) (e : Event) (f : Lval → Instr) (w : Lval) → (w.depth == 0) ≡ true → Line k e (f (of_slot w.slot 0)) → Line k e (f w)
line_at k e f w z line = subst (λ v. Line k e (f v)) (sym (is_variable w z)) line

pub reads : ArePlainSteps IsSound reads_slot
reads k e i q it sound few = by i q it
  where
    by : (i : Instr) → instr_of k e ≡ Some i → reads_slot i ≡ true → Gives (IsPlainStep k) (apply k e)
    by (instr.Read w take) q it = steps_are_plain k e (instr.Read w take) sound few refl (λ g f. f) (line_at k e (λ v. instr.Read v take) w it (own_line k e (instr.Read (of_slot w.slot 0) take) (λ r x here. read_line k.code k.options.servers r x w.slot take here))) q
    by _ q it = absurd (cc it)

pub borrows : ArePlainSteps IsSound borrows_slot
borrows k e i q it sound few = by i q it
  where
    by : (i : Instr) → instr_of k e ≡ Some i → borrows_slot i ≡ true → Gives (IsPlainStep k) (apply k e)
    by (instr.Borrow w) q it = steps_are_plain k e (instr.Borrow w) sound few refl (λ g f. f) (line_at k e (λ v. instr.Borrow v) w it (own_line k e (instr.Borrow (of_slot w.slot 0)) (λ r x here. shared_borrows k.code k.options.servers r x w.slot here))) q
    by (instr.BorrowMut w) q it = steps_are_plain k e (instr.BorrowMut w) sound few refl (λ g f. f) (line_at k e (λ v. instr.BorrowMut v) w it (own_line k e (instr.BorrowMut (of_slot w.slot 0)) (λ r x here. mutable_borrows k.code k.options.servers r x w.slot here))) q
    by _ q it = absurd (cc it)

-- THROUGH STARS

pub copies : ArePlainSteps IsCoherent copies_place
copies k e i q it co few = by i q it
  where
    by : (i : Instr) → instr_of k e ≡ Some i → copies_place i ≡ true → Gives (IsPlainStep k) (apply k e)
    by (instr.Read w false) q it = steps_are_plain k e (instr.Read w false) co.sound few refl (λ g f. f) (λ s t y a. copy_line k co e w s t y a) q
    by (instr.Read w true) q it = absurd (cc it)
    by _ q it = absurd (cc it)

pub shared : ArePlainSteps IsCoherent borrows_place
shared k e i q it co few = by i q it
  where
    line : (w : Lval) (d : ℕ) → w.depth ≡ d → Line k e (instr.Borrow w)
    line w zero deep = line_at k e (λ v. instr.Borrow v) w (ap (λ z. z == 0) deep) (own_line k e (instr.Borrow (of_slot w.slot 0)) (λ r x here. shared_borrows k.code k.options.servers r x w.slot here))
    line w (suc d) deep = λ s t y a. shared_line k co e w d deep s t y a

    by : (i : Instr) → instr_of k e ≡ Some i → borrows_place i ≡ true → Gives (IsPlainStep k) (apply k e)
    by (instr.Borrow w) q it = steps_are_plain k e (instr.Borrow w) co.sound few refl (λ g f. f) (line w w.depth refl) q
    by _ q it = absurd (cc it)

pub lent : ArePlainSteps IsCoherent lends_place
lent k e i q it co few = by i q it
  where
    line : (w : Lval) (d : ℕ) → w.depth ≡ d → Line k e (instr.BorrowMut w)
    line w zero deep = line_at k e (λ v. instr.BorrowMut v) w (ap (λ z. z == 0) deep) (own_line k e (instr.BorrowMut (of_slot w.slot 0)) (λ r x here. mutable_borrows k.code k.options.servers r x w.slot here))
    line w (suc d) deep = λ s t y a. mutable_line k co e w d deep s t y a

    by : (i : Instr) → instr_of k e ≡ Some i → lends_place i ≡ true → Gives (IsPlainStep k) (apply k e)
    by (instr.BorrowMut w) q it = steps_are_plain k e (instr.BorrowMut w) co.sound few refl (λ g f. f) (line w w.depth refl) q
    by _ q it = absurd (cc it)

-- WHAT LETS NOTHING GO

-- the thread of the event is the one that steps
pub same_thread : (k : Cluster) (e : Event) (i : Instr) (s : Server) (t : ℕ) (x y : ThreadState) → AtStep k e i s t x → thread_of k e ≡ Some y → x ≡ y
same_thread k e i s t x y a q = some_is (sym found ∙ q)
  where
    some_is : Some x ≡ Some y → x ≡ y
    some_is r = cc

    found : thread_of k e ≡ Some x
    found = ap (λ o. then_some o (thread_at e.what)) a.here ∙ ap (λ w. thread_at w s) a.what ∙ a.at

pub discards : ArePlainStepsWhere IsSound discards_none
discards k e i y q th it sound few = by i q it
  where
    by : (i : Instr) → instr_of k e ≡ Some i → discards_none i y ≡ true → Gives (IsPlainStep k) (apply k e)
    by instr.Discard q it =
        steps_are_plain k e instr.Discard sound few refl (λ g f. f) (λ s t x a. discard_line k sound e s t x a (subst (λ (z : ThreadState). none_goes (last_of z.temps) ≡ true) (sym (same_thread k e instr.Discard s t x y a th)) it)) q
    by _ q it = absurd (cc it)

pub drops : ArePlainStepsWhere IsSound drops_none
drops k e i y q th it sound few = by i q it
  where
    by : (i : Instr) → instr_of k e ≡ Some i → drops_none i y ≡ true → Gives (IsPlainStep k) (apply k e)
    by instr.DropSlot q it =
        steps_are_plain k e instr.DropSlot sound few refl (λ g f. f) (λ s t x a. drop_line k sound e s t x a (subst (λ (z : ThreadState). none_goes (last_of z.slots) ≡ true) (sym (same_thread k e instr.DropSlot s t x y a th)) it)) q
    by _ q it = absurd (cc it)

pub replaces : ArePlainStepsWhere IsSound replaces_none
replaces k e i y q th it sound few = by i q it
  where
    of_variable : (w : Lval) (o : Operand) → (w.depth == 0) ≡ true → none_goes (slice_get y.slots w.slot) ≡ true → Line k e (instr.Assign w o)
    of_variable w o z there =
        line_at k e (λ v. instr.Assign v o) w z (λ s t x a.
        assign_line k sound e w.slot o s t x a (subst (λ (v : ThreadState). none_goes (slice_get v.slots w.slot) ≡ true) (sym (same_thread k e (instr.Assign (of_slot w.slot 0) o) s t x y a th)) there))

    by : (i : Instr) → instr_of k e ≡ Some i → replaces_none i y ≡ true → Gives (IsPlainStep k) (apply k e)
    by (instr.Assign w o) q it = steps_are_plain k e (instr.Assign w o) sound few refl (λ g f. f) (of_variable w o (and_left (w.depth == 0) _ it) (and_right (w.depth == 0) _ it)) q
    by _ q it = absurd (cc it)
