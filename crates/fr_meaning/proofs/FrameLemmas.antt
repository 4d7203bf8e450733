-- Terms in frames, and what entering one comes to.
use Rattle.std.proofs.Common.{◌≡◌, ◌≢◌, ℕ, zero, suc, ◌+◌, ◌<◌, ◌≤◌, Bool, true, false, List, [], ◌∷◌, ◌++◌, length, get_or, drop, Option, None, refl, sym, ap, ◌∙◌, subst, arith}
use Rattle.std.specs.Prelude.{◌↔◌, IsTrue}
use Rattle.fr_base.specs.declared.place.Op.{Op}
use Rattle.fr_plain.specs.Run.{Run, arith as arith_r, block, last, more, going, constant, temporary, now, settle, leaves}
use Rattle.fr_forms.specs.declared.forms.Form.{Form}
use Rattle.fr_meaning.specs.declared.frame.Done.{Done}
use Rattle.fr_meaning.specs.declared.frame.Done.TheVariants as done
use Rattle.fr_meaning.specs.declared.frame.Frame.{Frame}
use Rattle.fr_meaning.specs.declared.frame.Frame.TheVariants as frame
use Rattle.fr_meaning.specs.declared.frame.Focus.{Focus}
use Rattle.fr_meaning.specs.declared.frame.Focus.TheVariants as focus
use Rattle.fr_meaning.specs.declared.frame.Entered.{Entered}
use Rattle.fr_meaning.specs.declared.frame.Entered.TheVariants as entered
use Rattle.fr_meaning.specs.Contexts.{fill}
use Rattle.fr_forms.specs.Depths.{depth, depth_in}
use Rattle.fr_forms.specs.FormTerms.{parts_from, parts_of, term_of, items_at}
use Rattle.fr_meaning.specs.DoneTerms.{over, value_of}
use Rattle.fr_meaning.specs.FrameTerms.{around_items, around, all_around, wrapped, focus_run, IsInside, AreInside, HasLastPart, IsPastLeft, TopIsPastLeft, HasMadeWay, Enters, EntersItem, waits_of, focus_of}
use Rattle.fr_forms.proofs.FormLemmas.{at_drop}
use Rattle.fr_meaning.proofs.ContextLemmas.{settle_wrap, settle_same, depth_above, depth_wrap}

-- FRAMES

-- a frame more on top stands nearest to the term
pub wrap_push : (fs : List Form) (gs : List Frame) (g : Frame) (r : Run) → wrapped fs (gs ++ g ∷ []) r ≡ wrapped fs gs (fill (around fs g) r)
wrap_push fs [] g r = refl
wrap_push fs (h ∷ gs) g r = ap (fill (around fs h)) (wrap_push fs gs g r)

-- a frame more that names a form
pub inside_push : (n : ℕ) (gs : List Frame) (g : Frame) → AreInside n gs → IsInside n g → AreInside n (gs ++ g ∷ [])
inside_push n [] g a b = (b, tt)
inside_push n (h ∷ gs) g a b = (a.0, inside_push n gs g a.1 b)

-- all frames but the top one, and the top one
pub inside_front : (n : ℕ) (gs : List Frame) (g : Frame) → AreInside n (gs ++ g ∷ []) → AreInside n gs × IsInside n g
inside_front n [] g a = (tt, a.0)
inside_front n (h ∷ gs) g a = let i = inside_front n gs g a.1 in ((a.0, i.0), i.1)

-- there are no more frames than the term is deep
pub length_depth : (fs : List Form) (gs : List Frame) (r : Run) → length gs + depth r ≤ depth (wrapped fs gs r)
length_depth fs [] r = omega arith
length_depth fs (g ∷ gs) r = omega (arith, length_depth fs gs r, depth_above (around fs g) (wrapped fs gs r))

-- a frame more has room where the whole term has
pub has_place : (fs : List Form) (gs : List Frame) (q : Run) (n : ℕ) → 0 < depth q → depth (wrapped fs gs q) ≤ n → length gs < n
has_place fs gs q n d h = omega (arith, length_depth fs gs q)

-- a term around the innermost one has a place
pub has_place_in : (fs : List Form) (gs : List Frame) (g : Frame) (r : Run) (n : ℕ) → depth (wrapped fs gs (fill (around fs g) r)) ≤ n → length gs < n
has_place_in fs gs g r n h = has_place fs gs (fill (around fs g) r) n (omega (arith, depth_above (around fs g) r)) h

-- the room of a part that was entered under a new frame
pub room_in : (fs : List Form) (gs pushed : List Frame) (g : Frame) (q r : Run) (m n : ℕ) → pushed ≡ gs ++ g ∷ [] → depth (fill (around fs g) r) ≤ depth q → depth (wrapped fs gs q) ≤ m → n ≡ m → depth (wrapped fs pushed r) ≤ n
room_in fs gs pushed g q r m n p d h e =
    subst (λ (ks : List Frame). depth (wrapped fs ks r) ≤ n) (sym p)
    (subst (λ (s : Run). depth s ≤ n) (sym (wrap_push fs gs g r)) (omega (arith, depth_wrap (all_around fs gs) (fill (around fs g) r) q d)))

-- less deep terms have the same room
pub room_less : (fs : List Form) (old gs : List Frame) (q r : Run) (m n : ℕ) → gs ≡ old → depth r ≤ depth q → depth (wrapped fs old q) ≤ m → n ≡ m → depth (wrapped fs gs r) ≤ n
room_less fs old gs q r m n e d h c = subst (λ (ks : List Frame). depth (wrapped fs ks r) ≤ n) (sym e) (omega (arith, depth_wrap (all_around fs old) r q d))

-- DONE TERMS

-- a done term is settled
pub settle_over : (d : Done) → settle (over d) ≡ over d
settle_over done.Unit = refl
settle_over (done.Number n) = refl
settle_over (done.Temp v) = refl

-- a temporary value is one
pub now_temporary : (d : Done) → leaves (over d) ≡ true → now (over d) ≡ temporary (value_of d)
now_temporary done.Unit h = absurd cc
now_temporary (done.Number n) h = absurd cc
now_temporary (done.Temp v) h = refl

-- all others are constants
pub now_constant : (d : Done) → leaves (over d) ≡ false → now (over d) ≡ constant (value_of d)
now_constant done.Unit h = refl
now_constant (done.Number n) h = refl
now_constant (done.Temp v) h = absurd cc

-- a done term has no depth
pub depth_over : (d : Done) → depth (over d) ≡ 0
depth_over done.Unit = refl
depth_over (done.Number n) = refl
depth_over (done.Temp v) = refl

-- ITEMS

-- an item before others is a term in a context
from_fill : (left : ℕ) (look : ℕ → Run) (i : ℕ) (js : List ℕ) → block left (parts_from look i js) ≡ fill (around_items left look js) (look i)
from_fill left look i [] = refl
from_fill left look i (j ∷ js) = refl

-- the items of a block from one of them on: that item, and what stands around it
pub items_fill : (left : ℕ) (look : ℕ → Run) (is : List ℕ) (k d : ℕ) → k < length is → block left (parts_of look (drop k is)) ≡ fill (around_items left look (drop (k + 1) is)) (look (get_or is k d))
items_fill left look is k d lt = ap (λ js. block left (parts_of look js)) (at_drop is k d lt) ∙ from_fill left look (get_or is k d) (drop (k + 1) is)

-- the last item is done: the block is, unless it has slots to drop
pub last_ends : (left : ℕ) (look : ℕ → Run) (js : List ℕ) (r : Run) (d : Done) → js ≡ [] → left ≡ 0 → settle r ≡ over d → settle (fill (around_items left look js) r) ≡ over d
last_ends left look js r d e l h =
    ap (λ ks. settle (fill (around_items left look ks) r)) e ∙ ap (λ k. settle (block k (last r))) l ∙ by d h
  where
    by : (d : Done) → settle r ≡ over d → settle (block 0 (last r)) ≡ over d
    by done.Unit h = rw h refl
    by (done.Number n) h = rw h refl
    by (done.Temp v) h = rw h refl

-- with slots to drop the last item stays in its block
pub last_stays : (left : ℕ) (look : ℕ → Run) (js : List ℕ) (r : Run) → js ≡ [] → left ≢ 0 → settle (fill (around_items left look js) r) ≡ fill (around_items left look js) (settle r)
last_stays left look js r e l = subst (λ (ks : List ℕ). settle (fill (around_items left look ks) r) ≡ fill (around_items left look ks) (settle r)) (sym e) (by left l)
  where
    by : (k : ℕ) → k ≢ 0 → settle (block k (last r)) ≡ block k (last (settle r))
    by zero h = absurd (h refl)
    by (suc k) h = refl

-- with slots to drop a block isn't done
pub last_waits : (left : ℕ) (look : ℕ → Run) (js : List ℕ) (r : Run) → js ≡ [] → left ≢ 0 → now (fill (around_items left look js) r) ≡ going
last_waits left look js r e l = subst (λ (ks : List ℕ). now (fill (around_items left look ks) r) ≡ going) (sym e) (by left l)
  where
    by : (k : ℕ) → k ≢ 0 → now (block k (last r)) ≡ going
    by zero h = absurd (h refl)
    by (suc k) h = refl

-- an item before others is done: its temporary value waits, a constant vanishes
pub more_stays : (left : ℕ) (look : ℕ → Run) (js : List ℕ) (j : ℕ) (ks : List ℕ) (r : Run) (d : Done) → js ≡ j ∷ ks → settle r ≡ over d → leaves (over d) ≡ true → settle (fill (around_items left look js) r) ≡ fill (around_items left look js) (settle r)
more_stays left look js j ks r d e h t =
    subst (λ (ls : List ℕ). settle (fill (around_items left look ls) r) ≡ fill (around_items left look ls) (settle r)) (sym e) (by left (ap now h ∙ now_temporary d t))
  where
    by : (k : ℕ) → now (settle r) ≡ temporary (value_of d) → settle (block k (more r (parts_from look j ks))) ≡ block k (more (settle r) (parts_from look j ks))
    by zero n = rw n refl
    by (suc k) n = rw n refl

-- a temporary value before a `;` waits
pub more_waits : (left : ℕ) (look : ℕ → Run) (js : List ℕ) (j : ℕ) (ks : List ℕ) (d : Done) → js ≡ j ∷ ks → leaves (over d) ≡ true → now (fill (around_items left look js) (over d)) ≡ going
more_waits left look js j ks d e t = subst (λ (ls : List ℕ). now (fill (around_items left look ls) (over d)) ≡ going) (sym e) (by left (now_temporary d t))
  where
    by : (k : ℕ) → now (over d) ≡ temporary (value_of d) → now (block k (more (over d) (parts_from look j ks))) ≡ going
    by zero n = rw n refl
    by (suc k) n = refl

-- a constant before a `;` vanishes
pub more_vanishes : (left : ℕ) (look : ℕ → Run) (js : List ℕ) (j : ℕ) (ks : List ℕ) (r : Run) (d : Done) → js ≡ j ∷ ks → settle r ≡ over d → leaves (over d) ≡ false → settle (fill (around_items left look js) r) ≡ settle (block left (parts_of look js))
more_vanishes left look js j ks r d e h t =
    subst (λ (ls : List ℕ). settle (fill (around_items left look ls) r) ≡ settle (block left (parts_of look ls))) (sym e) (by (ap now h ∙ now_constant d t))
  where
    by : now (settle r) ≡ constant (value_of d) → settle (block left (more r (parts_from look j ks))) ≡ settle (block left (parts_from look j ks))
    by n = rw n refl

-- items after one are less deep
rest_shallow : (look : ℕ → Run) (i : ℕ) (js : List ℕ) → depth_in (parts_of look js) ≤ depth_in (parts_from look i js)
rest_shallow look i [] = omega arith
rest_shallow look i (j ∷ js) = omega arith

-- fewer items are less deep
pub fewer_shallow : (look : ℕ → Run) (is : List ℕ) (k : ℕ) → k < length is → depth_in (parts_of look (drop (k + 1) is)) ≤ depth_in (parts_of look (drop k is))
fewer_shallow look is k lt =
    let e = ap (λ js. depth_in (parts_of look js)) (at_drop is k 0 lt) in
    omega (arith, e, rest_shallow look (get_or is k 0) (drop (k + 1) is))

-- the items after one are less deep than the block around it
pub rest_below : (left : ℕ) (look : ℕ → Run) (js : List ℕ) (r : Run) → depth (block left (parts_of look js)) ≤ depth (fill (around_items left look js) r)
rest_below left look [] r = omega arith
rest_below left look (j ∷ js) r = omega arith

-- ENTERING

-- a term that waits for its last part isn't done
pub last_part_waits : (fs : List Form) (g : Frame) (r : Run) → HasLastPart g → now (fill (around fs g) r) ≡ going
last_part_waits fs frame.Box r h = refl
last_part_waits fs frame.Let r h = refl
last_part_waits fs frame.Print r h = refl
last_part_waits fs frame.Join r h = refl
last_part_waits fs frame.Mutex r h = refl
last_part_waits fs frame.Locked r h = refl
last_part_waits fs (frame.Assign w) r h = refl
last_part_waits fs (frame.Right f d) r h = refl
last_part_waits fs (frame.Left f right) r h = absurd h
last_part_waits fs (frame.Block left node next) r h = absurd h

-- it settles as its part does
pub last_part_settles : (fs : List Form) (g : Frame) (r : Run) → HasLastPart g → settle (fill (around fs g) r) ≡ fill (around fs g) (settle r)
last_part_settles fs frame.Box r h = refl
last_part_settles fs frame.Let r h = refl
last_part_settles fs frame.Print r h = refl
last_part_settles fs frame.Join r h = refl
last_part_settles fs frame.Mutex r h = refl
last_part_settles fs frame.Locked r h = refl
last_part_settles fs (frame.Assign w) r h = refl
last_part_settles fs (frame.Right f done.Unit) r h = refl
last_part_settles fs (frame.Right f (done.Number n)) r h = refl
last_part_settles fs (frame.Right f (done.Temp v)) r h = refl
last_part_settles fs (frame.Left f right) r h = absurd h
last_part_settles fs (frame.Block left node next) r h = absurd h

-- its frame waits for no left operand
pub last_part_past : (g : Frame) → HasLastPart g → IsPastLeft g
last_part_past frame.Box h = tt
last_part_past frame.Let h = tt
last_part_past frame.Print h = tt
last_part_past frame.Join h = tt
last_part_past frame.Mutex h = tt
last_part_past frame.Locked h = tt
last_part_past (frame.Assign w) h = tt
last_part_past (frame.Right f d) h = tt
last_part_past (frame.Left f right) h = absurd h
last_part_past (frame.Block left node next) h = absurd h

-- and names no form
pub last_inside : (n : ℕ) (g : Frame) → HasLastPart g → IsInside n g
last_inside n frame.Box h = tt
last_inside n frame.Let h = tt
last_inside n frame.Print h = tt
last_inside n frame.Join h = tt
last_inside n frame.Mutex h = tt
last_inside n frame.Locked h = tt
last_inside n (frame.Assign w) h = tt
last_inside n (frame.Right f d) h = tt
last_inside n (frame.Left f right) h = absurd h
last_inside n (frame.Block left node next) h = absurd h

-- the top one of frames
past_top : (gs : List Frame) (g : Frame) → IsPastLeft g → TopIsPastLeft (gs ++ g ∷ [])
past_top [] g h = h
past_top (k ∷ []) g h = h
past_top (k ∷ l ∷ gs) g h = past_top (l ∷ gs) g h

-- the frame on top is the top one
pub top_past : (gs : List Frame) (g : Frame) → TopIsPastLeft (gs ++ g ∷ []) → IsPastLeft g
top_past [] g h = h
top_past (k ∷ []) g h = h
top_past (k ∷ l ∷ gs) g h = top_past (l ∷ gs) g h

-- a part was entered: the whole is the focus in more frames
part_waits : (fs : List Form) (old new : List Frame) (g : Frame) (r : Run) (x : Entered) → IsPastLeft g → Enters fs (old ++ g ∷ []) new r x → now (fill (around fs g) r) ≡ going → Enters fs old new (fill (around fs g) r) (waits_of x)
part_waits fs old new g r (entered.Ended d) p h n =
    (n, ap (λ ks. wrapped fs ks (over d)) h.1 ∙ wrap_push fs old g (over d) ∙ ap (λ q. wrapped fs old (fill (around fs g) q)) (sym h.0), subst TopIsPastLeft (sym h.1) (past_top old g p))
part_waits fs old new g r (entered.Waits f) p h n = (n, h.1 ∙ wrap_push fs old g r, h.2)

-- a part was entered under a new frame, and the whole waits
pub goes_in : (fs : List Form) (old pushed new : List Frame) (g : Frame) (q r : Run) (x y : Entered) → IsPastLeft g → Enters fs pushed new r x → pushed ≡ old ++ g ∷ [] → q ≡ fill (around fs g) r → now (fill (around fs g) r) ≡ going → waits_of x ≡ y → Enters fs old new q y
goes_in fs old pushed new g q r x y past h p e n w =
    subst (λ (z : Entered). Enters fs old new q z) w
    (subst (λ (s : Run). Enters fs old new s (waits_of x)) (sym e)
    (part_waits fs old new g r x past (subst (λ (ks : List Frame). Enters fs ks new r x) p h) n))

-- a part was entered under a new frame, and waits
pub goes_on_in : (fs : List Form) (old pushed new : List Frame) (g : Frame) (q r : Run) (x : Entered) (f : Focus) → Enters fs pushed new r x → x ≡ entered.Waits f → pushed ≡ old ++ g ∷ [] → q ≡ fill (around fs g) r → now (fill (around fs g) r) ≡ going → Enters fs old new q (entered.Waits f)
goes_on_in fs old pushed new g q r x f h i p e n =
    let w = subst (λ (y : Entered). Enters fs pushed new r y) i h in
    (ap now e ∙ n, w.1 ∙ ap (λ ks. wrapped fs ks r) p ∙ wrap_push fs old g r ∙ ap (wrapped fs old) (sym e), w.2)

-- what was entered is done
pub entered_over : (fs : List Form) (old new : List Frame) (r : Run) (x : Entered) (d : Done) → Enters fs old new r x → x ≡ entered.Ended d → (r ≡ over d) × (new ≡ old)
entered_over fs old new r x d h i = subst (λ (y : Entered). Enters fs old new r y) i h

-- what was entered goes on
pub entered_waits : (fs : List Form) (old new : List Frame) (r : Run) (x : Entered) (f : Focus) → Enters fs old new r x → x ≡ entered.Waits f → now r ≡ going
entered_waits fs old new r x f h i = (subst (λ (y : Entered). Enters fs old new r y) i h).0

-- where what was entered waits, no left operand that is done is waited for
pub waits_way : (fs : List Form) (old new : List Frame) (r : Run) (x : Entered) (f : Focus) → Enters fs old new r x → x ≡ entered.Waits f → HasMadeWay fs new f
waits_way fs old new r x f h i = (subst (λ (y : Entered). Enters fs old new r y) i h).2

-- the frame stays on top
pub stays : (fs : List Form) (old new : List Frame) (g : Frame) (d : Done) (r : Run) (x : Entered) → IsPastLeft g → new ≡ old ++ g ∷ [] → x ≡ entered.Waits (focus.Over d) → r ≡ fill (around fs g) (over d) → now (fill (around fs g) (over d)) ≡ going → Enters fs old new r x
stays fs old new g d r x past p h i n = goes_in fs old new new g r (over d) (entered.Ended d) x past (refl, refl) p i n (sym h)

-- an item vanished
pub goes_by : (fs : List Form) (old new : List Frame) (r following : Run) (x : Option Entered) → EntersItem fs old new r following x → x ≡ None → (r ≡ following) × (new ≡ old)
goes_by fs old new r following x h i = subst (λ (y : Option Entered). EntersItem fs old new r following y) i h

-- LEAVING

-- the settled frame is done: the same in the frames around it
pub frame_ended : (fs : List Form) (gs : List Frame) (r : Run) (d : Done) → settle r ≡ over d → settle (wrapped fs gs (over d)) ≡ settle (wrapped fs gs r)
frame_ended fs gs r d h = settle_same (all_around fs gs) (over d) r (settle_over d ∙ sym h)

-- what was entered waits: the whole is settled
pub frame_waits : (fs : List Form) (gs new : List Frame) (r : Run) (x : Entered) (f : Focus) → Enters fs gs new (settle r) x → x ≡ entered.Waits f → wrapped fs new (focus_run fs f) ≡ settle (wrapped fs gs r)
frame_waits fs gs new r x f h i =
    let g = subst (λ (y : Entered). Enters fs gs new (settle r) y) i h in
    g.1 ∙ sym (settle_wrap (all_around fs gs) r g.0)

-- no item is left
pub not_below : (b : Bool) (k n : ℕ) → (IsTrue b ↔ (k < n)) → b ≡ false → n ≤ k
not_below b k n h f = grind arith

-- what was entered with no frame around it
pub enters_first : (fs : List Form) (old new : List Frame) (r : Run) (x : Entered) → old ≡ [] → Enters fs old new r x → wrapped fs new (focus_run fs (focus_of x)) ≡ r
enters_first fs old new r (entered.Ended d) o h = ap (λ ks. wrapped fs ks (over d)) (h.1 ∙ o) ∙ sym h.0
enters_first fs old new r (entered.Waits f) o h = h.1 ∙ ap (λ ks. wrapped fs ks r) o

-- nor is then a left operand that is done waited for
pub first_way : (fs : List Form) (old new : List Frame) (r : Run) (x : Entered) → old ≡ [] → Enters fs old new r x → HasMadeWay fs new (focus_of x)
first_way fs old new r (entered.Ended d) o h = subst TopIsPastLeft (sym (h.1 ∙ o)) tt
first_way fs old new r (entered.Waits f) o h = h.2

-- an item of a form's block, and the frame around it
pub item_row : (fs : List Form) (node left k : ℕ) (is : List ℕ) → is ≡ items_at fs node → k < length is → block left (parts_of (term_of fs) (drop k is)) ≡ fill (around fs (frame.Block left node (k + 1))) (term_of fs (get_or is k 0))
item_row fs node left k is e lt = items_fill left (term_of fs) is k 0 lt ∙ ap (λ l. fill (around_items left (term_of fs) (drop (k + 1) l)) (term_of fs (get_or is k 0))) e

-- every frame but a block's and a left operand's waits for a last part
pub last_part : (g : Frame) → ((f : Op) (right : ℕ) → g ≡ frame.Left f right → ⊥) → ((left node next : ℕ) → g ≡ frame.Block left node next → ⊥) → HasLastPart g
last_part frame.Box l h = tt
last_part frame.Let l h = tt
last_part frame.Print l h = tt
last_part frame.Join l h = tt
last_part frame.Mutex l h = tt
last_part frame.Locked l h = tt
last_part (frame.Assign w) l h = tt
last_part (frame.Right f d) l h = tt
last_part (frame.Left f right) l h = l f right refl
last_part (frame.Block left node next) l h = h left node next refl

-- a left operand that is done makes way for the right one
pub left_done : (f : Op) (r b : Run) (d : Done) → settle r ≡ over d → settle (arith_r f r b) ≡ arith_r f (over d) (settle b)
left_done f r b done.Unit h = rw h refl
left_done f r b (done.Number n) h = rw h refl
left_done f r b (done.Temp v) h = rw h refl

-- a right operand with the left one done is no deeper than the operation
pub right_shallow : (f : Op) (a b : Run) (d : Done) → depth (arith_r f (over d) b) ≤ depth (arith_r f a b)
right_shallow f a b d = omega (arith, depth_over d)

-- a list of no length
pub no_items : {A : Type 0} (xs : List A) → length xs ≡ 0 → xs ≡ []
no_items [] h = refl
no_items (x ∷ xs) h = absurd (omega arith)

-- the slots that a block has still to drop don't count in its depth
pub depth_left : (a b : ℕ) (look : ℕ → Run) (js : List ℕ) (r : Run) → depth (fill (around_items a look js) r) ≤ depth (fill (around_items b look js) r)
depth_left a b look [] r = omega arith
depth_left a b look (j ∷ js) r = omega arith
