-- A body that is entered as the last item of a block whose form has no items, and one under the frame of a lock.
use Rattle.std.proofs.Common.{◌≡◌, ◌≢◌, ℕ, zero, suc, List, [], ◌∷◌, ◌++◌, drop, refl, ap}
use Rattle.fr_base.specs.declared.place.Lval.{Lval}
use Rattle.fr_plain.specs.Resolve.{dropping}
use Rattle.fr_plain.specs.Run.{Run, block, last, lock, locked, settle}
use Rattle.fr_forms.specs.declared.forms.Form.{Form}
use Rattle.fr_forms.specs.declared.forms.Form.TheVariants as form
use Rattle.fr_forms.specs.FormTerms.{IsLock, term_of, items_at}
use Rattle.fr_meaning.specs.declared.frame.Entered.{Entered}
use Rattle.fr_meaning.specs.declared.frame.Entered.TheVariants as entered
use Rattle.fr_meaning.specs.declared.frame.Frame.{Frame}
use Rattle.fr_meaning.specs.declared.frame.Frame.TheVariants as frame
use Rattle.fr_meaning.specs.Contexts.{fill}
use Rattle.fr_meaning.specs.FrameTerms.{around_items, around, wrapped, focus_run, HasMadeWay, Enters, waits_of, focus_of}
use Rattle.fr_meaning.proofs.FrameLemmas.{goes_in, frame_waits, waits_way}

-- the block around it
pub last_fill : (fs : List Form) (node left : ℕ) (r : Run) → items_at fs node ≡ [] → fill (around fs (frame.Block left node 0)) r ≡ block left (last r)
last_fill fs node left r h = ap (λ (is : List ℕ). fill (around_items left (term_of fs) (drop 0 is)) r) h

-- a body that drops no slots has no block around it
pub dropping_none : (k : ℕ) (r : Run) → k ≡ 0 → dropping k r ≡ r
dropping_none k r h = ap (λ n. dropping n r) h

pub dropping_more : (k : ℕ) (r : Run) → k ≢ 0 → dropping k r ≡ block k (last r)
dropping_more zero r h = absurd (h refl)
dropping_more (suc k) r h = refl

waits_focus : (x : Entered) → waits_of x ≡ entered.Waits (focus_of x)
waits_focus (entered.Ended d) = refl
waits_focus (entered.Waits f) = refl

-- a body that was entered under the frame of a lock
pub lock_entered : (fs : List Form) (old pushed new : List Frame) (r : Run) (x : Entered) → Enters fs pushed new (settle r) x → pushed ≡ old ++ frame.Locked ∷ [] → (wrapped fs new (focus_run fs (focus_of x)) ≡ settle (wrapped fs old (locked r))) × HasMadeWay fs new (focus_of x)
lock_entered fs old pushed new r x h p =
    let e = goes_in fs old pushed new frame.Locked (settle (locked r)) (settle r) x (entered.Waits (focus_of x)) tt h p refl refl (waits_focus x) in
    (frame_waits fs old new (locked r) (entered.Waits (focus_of x)) (focus_of x) e refl, waits_way fs old new (settle (locked r)) (entered.Waits (focus_of x)) (focus_of x) e refl)

-- the form is no other one
pub no_lock : (w : Lval) (m : Form) → IsLock w m → ((x : Lval) (body drops : ℕ) → m ≡ form.Lock x body drops → ⊥) → ⊥
no_lock w (form.Lock x body drops) h no_other = no_other x body drops refl
no_lock w (form.Number x) h no_other = h
no_lock w form.Unit h no_other = h
no_lock w (form.Read x take) h no_other = h
no_lock w (form.Borrow x is_mut) h no_other = h
no_lock w (form.Box x) h no_other = h
no_lock w (form.Let x) h no_other = h
no_lock w (form.Print x) h no_other = h
no_lock w (form.Join x) h no_other = h
no_lock w (form.Assign x y) h no_other = h
no_lock w (form.Arith f x y) h no_other = h
no_lock w (form.Block items lets) h no_other = h
no_lock w (form.Spawn cs body drops) h no_other = h
no_lock w (form.Mutex x) h no_other = h
no_lock w (form.Dup x) h no_other = h
no_lock w (form.Par ours theirs) h no_other = h
no_lock w form.Place h no_other = h

-- what stands in a lock
pub same_lock : (w x : Lval) (r : Run) (q : Run) → lock w r ≡ lock x q → r ≡ q
same_lock w x r q h = cc
