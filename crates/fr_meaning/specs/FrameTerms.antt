-- What frames and the focus mean: the terms around the innermost term, and that term.
use Rattle.std.specs.Prelude.{◌≡◌, ℕ, ◌<◌, ⊤, List, [], ◌∷◌, length, drop, slice_index_or, Option, Some, None}
use Rattle.fr_plain.specs.Run.{Run, read, borrow, dup, par_end, going, now}
use Rattle.fr_forms.specs.declared.forms.Form.{Form}
use Rattle.fr_forms.specs.declared.forms.Form.TheVariants as form
use Rattle.fr_meaning.specs.declared.frame.Done.{Done}
use Rattle.fr_meaning.specs.declared.frame.Frame.{Frame}
use Rattle.fr_meaning.specs.declared.frame.Frame.TheVariants as frame
use Rattle.fr_meaning.specs.declared.frame.Focus.{Focus}
use Rattle.fr_meaning.specs.declared.frame.Focus.TheVariants as focus
use Rattle.fr_meaning.specs.declared.frame.Entered.{Entered}
use Rattle.fr_meaning.specs.declared.frame.Entered.TheVariants as entered
use Rattle.fr_meaning.specs.DoneTerms.{over}
use Rattle.fr_meaning.specs.Contexts.{Around, in_box, in_bind, in_print, in_join, in_mutex, in_locked, in_assign, in_left, in_right, in_last, in_more, wrap}
use Rattle.fr_forms.specs.FormTerms.{parts_from, term_of, items_at, IsSpawn, IsLock, IsPar}

-- an item of a block that has still to drop so many slots, before the items after it
abbrev pub around_items : ℕ → (ℕ → Run) → List ℕ → Around
around_items left look [] = in_last left
around_items left look (i ∷ is) = in_more left (parts_from look i is)

abbrev pub around : List Form → Frame → Around
around fs frame.Box = in_box
around fs frame.Let = in_bind
around fs frame.Print = in_print
around fs frame.Join = in_join
around fs frame.Mutex = in_mutex
around fs frame.Locked = in_locked
around fs (frame.Assign w) = in_assign w
around fs (frame.Left f right) = in_left f (term_of fs right)
around fs (frame.Right f left) = in_right f left
around fs (frame.Block left node next) = around_items left (term_of fs) (drop next (items_at fs node))

abbrev pub all_around : List Form → List Frame → List Around
all_around fs [] = []
all_around fs (g ∷ gs) = around fs g ∷ all_around fs gs

-- a term in frames, the outermost frame first
abbrev pub wrapped : List Form → List Frame → Run → Run
wrapped fs gs r = wrap (all_around fs gs) r

-- new threads and a lock are forms
abbrev pub focus_run : List Form → Focus → Run
focus_run fs (focus.Over d) = over d
focus_run fs (focus.Read w take) = read w take
focus_run fs (focus.Borrow w is_mut) = borrow w is_mut
focus_run fs (focus.Spawn node) = term_of fs node
focus_run fs (focus.Dup w) = dup w
focus_run fs (focus.Lock w node) = term_of fs node
focus_run fs (focus.Par node) = term_of fs node
focus_run fs focus.ParEnd = par_end

-- the form that a frame names is there
abbrev pub IsInside : ℕ → Frame → Type 0
IsInside n (frame.Left f right) = right < n
IsInside n (frame.Block left node next) = node < n
IsInside n _ = ⊤

abbrev pub AreInside : ℕ → List Frame → Type 0
AreInside n [] = ⊤
AreInside n (g ∷ gs) = IsInside n g × AreInside n gs

-- the part that the frame waits for is its term's only or last one
abbrev pub HasLastPart : Frame → Type 0
HasLastPart (frame.Left f right) = ⊥
HasLastPart (frame.Block left node next) = ⊥
HasLastPart _ = ⊤

-- the frame doesn't wait for a left operand
abbrev pub IsPastLeft : Frame → Type 0
IsPastLeft (frame.Left f right) = ⊥
IsPastLeft _ = ⊤

-- nor does the top one of these, which is the last
abbrev pub TopIsPastLeft : List Frame → Type 0
TopIsPastLeft [] = ⊤
TopIsPastLeft (g ∷ []) = IsPastLeft g
TopIsPastLeft (g ∷ h ∷ gs) = TopIsPastLeft (h ∷ gs)

-- a left operand that is done has made way for the right one, and new threads and a lock are forms that are there
abbrev pub HasMadeWay : List Form → List Frame → Focus → Type 0
HasMadeWay fs gs (focus.Over d) = TopIsPastLeft gs
HasMadeWay fs gs (focus.Spawn node) = (node < length fs) × IsSpawn (slice_index_or fs node form.Unit)
HasMadeWay fs gs (focus.Lock w node) = (node < length fs) × IsLock w (slice_index_or fs node form.Unit)
HasMadeWay fs gs (focus.Par node) = (node < length fs) × IsPar (slice_index_or fs node form.Unit)
HasMadeWay fs gs _ = ⊤

-- the settled term is done, with the frames as they were, or it is the focus in frames above the old ones
abbrev pub Enters : List Form → List Frame → List Frame → Run → Entered → Type 0
Enters fs old new r (entered.Ended d) = (r ≡ over d) × (new ≡ old)
Enters fs old new r (entered.Waits f) = (now r ≡ going) × (wrapped fs new (focus_run fs f) ≡ wrapped fs old r) × HasMadeWay fs new f

-- the same, or it is what follows
abbrev pub EntersItem : List Form → List Frame → List Frame → Run → Run → Option Entered → Type 0
EntersItem fs old new r following (Some x) = Enters fs old new r x
EntersItem fs old new r following None = (r ≡ following) × (new ≡ old)

abbrev pub waits_of : Entered → Entered
waits_of (entered.Ended d) = entered.Waits (focus.Over d)
waits_of (entered.Waits f) = entered.Waits f

abbrev pub focus_of : Entered → Focus
focus_of (entered.Ended d) = focus.Over d
focus_of (entered.Waits f) = f

-- the done term, where no frame is left
abbrev pub end_of : Focus → List Frame → Option Done
end_of (focus.Over d) [] = Some d
end_of _ _ = None
