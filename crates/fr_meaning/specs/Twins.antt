-- The two threads of a pair, by the form that starts them.
use Rattle.std.specs.Prelude.{◌≡◌, ℕ, List, [], slice_index_or, Some, IsSome}
use Rattle.fr_plain.specs.Threads.{Passed, pass}
use Rattle.fr_forms.specs.FormTerms.{captures_of}
use Rattle.fr_forms.specs.declared.forms.Captured.{Captured}
use Rattle.fr_forms.specs.declared.forms.Form.{Form}
use Rattle.fr_forms.specs.declared.forms.Form.TheVariants as form
use Rattle.fr_acts.specs.SlotOrder.{newest_first}
use Rattle.fr_meaning.specs.declared.frame.Focus.TheVariants as focus
use Rattle.fr_meaning.specs.declared.thread.Thread.{Thread}
use Rattle.fr_meaning.specs.Threads.{IsGoingOn}

-- the captured slots of the first one, and of the second one
abbrev pub ours_in : Form → List Captured
ours_in (form.Par ours theirs) = ours.value.captures.items
ours_in _ = []

abbrev pub theirs_in : Form → List Captured
theirs_in (form.Par ours theirs) = theirs.value.captures.items
theirs_in _ = []

abbrev pub ours_at : List Form → ℕ → List Captured
ours_at fs node = ours_in (slice_index_or fs node form.Unit)

abbrev pub theirs_at : List Form → ℕ → List Captured
theirs_at fs node = theirs_in (slice_index_or fs node form.Unit)

-- the thread starts the pair of that form next
pub record StartsPair (fs : List Form) (x : Thread) (node : ℕ) : Type 0 where
  pub on : IsGoingOn x.stage
  pub at_start : x.focus ≡ focus.Par node
  pub one : Passed
  pub passes : pass (captures_of (ours_at fs node)) (newest_first x.slots.items) [] ≡ Some one
  pub then_passes : IsSome (pass (captures_of (theirs_at fs node)) one.left [])
