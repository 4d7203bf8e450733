-- A step of a term in frames.
use Rattle.std.proofs.Common.{◌≡◌, ◌≢◌, ℕ, zero, suc, ◌-◌, ◌<◌, Bool, true, false, length, List, [], ◌∷◌, drop, Option, Some, None, refl, sym, ap, ◌∙◌, subst, arith}
use Rattle.std.specs.Prelude.{IsSome, slice_index_or}
use Rattle.fr_base.specs.declared.label.Label.{Label}
use Rattle.fr_base.specs.declared.place.Lval.{Lval}
use Rattle.fr_plain.specs.declared.value.Value.{Value}
use Rattle.fr_plain.specs.Heap.{Heap}
use Rattle.fr_plain.specs.State.{State}
use Rattle.fr_plain.specs.Acts.{Did, act, do_read, do_borrow, do_discard, do_drop, unit}
use Rattle.fr_plain.specs.Run.{Run, temp, read, borrow, block, spawn, dup, lock, par, par_end, Parts, last, more, going, temporary, now, settle, leaves, Move, next, alone, move}
use Rattle.fr_forms.specs.declared.forms.Form.{Form}
use Rattle.fr_forms.specs.declared.forms.Form.TheVariants as form
use Rattle.fr_meaning.specs.declared.frame.Done.{Done}
use Rattle.fr_meaning.specs.declared.frame.Done.TheVariants as done
use Rattle.fr_meaning.specs.declared.frame.Frame.{Frame}
use Rattle.fr_meaning.specs.declared.frame.Frame.TheVariants as frame
use Rattle.fr_meaning.specs.declared.frame.Focus.{Focus}
use Rattle.fr_meaning.specs.declared.frame.Focus.TheVariants as focus
use Rattle.fr_meaning.specs.Contexts.{Around, fill, wrap, IsOpen, IsHeld, IsSettled}
use Rattle.fr_forms.specs.FormTerms.{parts_from, parts_of, term_of, items_at, AreInOrder, IsSpawn, IsLock, IsPar}
use Rattle.fr_meaning.specs.DoneTerms.{over, value_of}
use Rattle.fr_meaning.specs.FrameTerms.{around_items, around, all_around, wrapped, focus_run, HasMadeWay, end_of}
use Rattle.fr_shared.specs.declared.heap.Released.{Released}
use Rattle.fr_shared.specs.declared.heap.Released.TheVariants as released
use Rattle.fr_acts.specs.Acting.{did, releases}
use Rattle.fr_meaning.specs.Turning.{Turned, turned_by, turned, turns_to, settled, term_step}
use Rattle.fr_forms.proofs.FormLemmas.{spawn_run, lock_run, par_run}
use Rattle.fr_meaning.proofs.ContextLemmas.{now_fill, now_wrap, move_wrap, settled_fill}
use Rattle.fr_meaning.proofs.FrameLemmas.{now_temporary, last_waits, more_waits}

-- THE WHOLE STEP, FROM THAT OF THE INNERMOST TERM

-- the whole term's step, from that of the innermost one
abbrev lifted : List Around → Option Turned → Option Turned
lifted cs None = None
lifted cs (Some x) = Some (record { run = settle (wrap cs x.run); state = x.state; labels = x.labels; released = x.released })

-- by what the act does
by_lifted : (cs : List Around) (m : Move Run) (u : Released) (d : Option Did) → settled (turned_by (record { act = m.act; plug = λ v. wrap cs (m.plug v) }) u d) ≡ lifted cs (turned_by m u d)
by_lifted cs m u None = refl
by_lifted cs m u (Some d) = refl

-- by the term's move
turned_lifted : (cs : List Around) (o : Option (Move Run)) (s : State) → settled (turned (next (wrap cs) o) s) ≡ lifted cs (turned o s)
turned_lifted cs None s = refl
turned_lifted cs (Some m) s = by_lifted cs m (releases m.act s) (act m.act s)

-- a term's step is that of its innermost term, settled
step_wrap : (cs : List Around) (r : Run) (s : State) → now r ≡ going → term_step (wrap cs r) s ≡ lifted cs (turned (move r) s)
step_wrap cs r s h = ap (λ o. settled (turned o s)) (move_wrap cs r h) ∙ turned_lifted cs (move r) s

-- where the innermost term turns to another, the whole goes to the whole with that one, settled
pub step_in : (fs : List Form) (gs : List Frame) (r q whole : Run) (s : State) (t : ℕ) (slots : List Value) (heap : Heap) (labels : List Label) (u : Released) →
    now r ≡ going → turned (move r) s ≡ turns_to q t slots heap labels u → whole ≡ settle (wrapped fs gs q) → term_step (wrapped fs gs r) s ≡ turns_to whole t slots heap labels u
step_in fs gs r q whole s t slots heap labels u h e w = step_wrap (all_around fs gs) r s h ∙ ap (lifted (all_around fs gs)) e ∙ ap (λ x. turns_to x t slots heap labels u) (sym w)

-- where the whole steps, the innermost term does
pub goes_in_frames : (fs : List Form) (gs : List Frame) (r : Run) (s : State) → now r ≡ going → IsSome (term_step (wrapped fs gs r) s) → IsSome (turned (move r) s)
goes_in_frames fs gs r s h g = by (turned (move r) s) (subst (λ (o : Option Turned). IsSome o) (step_wrap (all_around fs gs) r s h) g)
  where
    by : (o : Option Turned) → IsSome (lifted (all_around fs gs) o) → IsSome o
    by None i = i
    by (Some t) i = refl

-- INNERMOST TERMS

-- an act that is done is defined
pub turned_goes : (m : Move Run) (u : Released) (d : Option Did) → IsSome (turned_by m u d) → IsSome d
turned_goes m u None h = h
turned_goes m u (Some d) h = refl

-- a read that is done is defined
pub read_goes : (w : Lval) (take : Bool) (s : State) → IsSome (turned (move (read w take)) s) → IsSome (act (do_read w take) s)
read_goes w take s h = turned_goes (record { act = do_read w take; plug = temp }) released.Nothing (act (do_read w take) s) h

-- a read leaves the value as a temporary one
pub read_turns : (w : Lval) (take : Bool) (s : State) (v : Value) (t : ℕ) (slots : List Value) (heap : Heap) (labels : List Label) (u : Released) → u ≡ released.Nothing → act (do_read w take) s ≡ did v t slots heap labels → turned (move (read w take)) s ≡ turns_to (temp v) t slots heap labels u
read_turns w take s v t slots heap labels u e h = ap (turned_by (record { act = do_read w take; plug = temp }) released.Nothing) h ∙ ap (turns_to (temp v) t slots heap labels) (sym e)

-- a reference that is made is defined
pub borrow_goes : (w : Lval) (is_mut : Bool) (s : State) → IsSome (turned (move (borrow w is_mut)) s) → IsSome (act (do_borrow w is_mut) s)
borrow_goes w is_mut s h = turned_goes (record { act = do_borrow w is_mut; plug = temp }) released.Nothing (act (do_borrow w is_mut) s) h

-- and is a temporary value
pub borrow_turns : (w : Lval) (is_mut : Bool) (s : State) (v : Value) (t : ℕ) (slots : List Value) (heap : Heap) (labels : List Label) (u : Released) → u ≡ released.Nothing → act (do_borrow w is_mut) s ≡ did v t slots heap labels → turned (move (borrow w is_mut)) s ≡ turns_to (temp v) t slots heap labels u
borrow_turns w is_mut s v t slots heap labels u e h = ap (turned_by (record { act = do_borrow w is_mut; plug = temp }) released.Nothing) h ∙ ap (turns_to (temp v) t slots heap labels) (sym e)

-- a settled block whose item is done holds a temporary value before a `;`, and has slots to drop after its last item
pub held : (left : ℕ) (look : ℕ → Run) (js : List ℕ) (j : ℕ) (ks : List ℕ) (d : Done) → js ≡ j ∷ ks → IsSettled (fill (around_items left look js) (over d)) → leaves (over d) ≡ true
held left look js j ks d e h = by d (subst (λ (l : List ℕ). IsSettled (fill (around_items left look l) (over d))) e h).1
  where
    by : (d : Done) → IsHeld (now (over d)) → leaves (over d) ≡ true
    by done.Unit i = absurd i
    by (done.Number n) i = absurd i
    by (done.Temp v) i = refl

-- after its last item a settled block has slots to drop
pub opened : (left : ℕ) (look : ℕ → Run) (js : List ℕ) (d : Done) → js ≡ [] → IsSettled (fill (around_items left look js) (over d)) → left ≢ 0
opened left look js d e h = by left d (subst (λ (l : List ℕ). IsSettled (fill (around_items left look l) (over d))) e h).1
  where
    by : (k : ℕ) (d : Done) → IsOpen k (now (over d)) → k ≢ 0
    by zero done.Unit i = absurd i
    by zero (done.Number n) i = absurd i
    by zero (done.Temp v) i = absurd i
    by (suc k) d i = λ e. absurd (omega arith)

-- a settled term of a frame whose part is done has a step of its own
pub settled_waits : (fs : List Form) (g : Frame) (d : Done) → IsSettled (fill (around fs g) (over d)) → now (fill (around fs g) (over d)) ≡ going
settled_waits fs frame.Box d h = refl
settled_waits fs frame.Let d h = refl
settled_waits fs frame.Print d h = refl
settled_waits fs frame.Join d h = refl
settled_waits fs frame.Mutex d h = refl
settled_waits fs frame.Locked d h = refl
settled_waits fs (frame.Assign w) d h = refl
settled_waits fs (frame.Left f right) d h = refl
settled_waits fs (frame.Right f left) d h = refl
settled_waits fs (frame.Block left node next) d h = by (drop next (items_at fs node)) refl h
  where
    by : (js : List ℕ) → js ≡ js → IsSettled (fill (around_items left (term_of fs) js) (over d)) → now (fill (around_items left (term_of fs) js) (over d)) ≡ going
    by [] e i = last_waits left (term_of fs) [] (over d) refl (opened left (term_of fs) [] d refl i)
    by (j ∷ ks) e i = more_waits left (term_of fs) (j ∷ ks) j ks d refl (held left (term_of fs) (j ∷ ks) j ks d refl i)

-- the move at a temporary value before a `;`
pub discard_move : (k : ℕ) (r : Run) (is : Parts) (v : Value) → now r ≡ temporary v → move (block k (more r is)) ≡ alone (λ x. block k is) (do_discard v)
discard_move k r is v h = rw h refl

-- a temporary value before a `;` is dropped, and the block goes on with the next item
pub discard_turns : (left : ℕ) (look : ℕ → Run) (js : List ℕ) (j : ℕ) (ks : List ℕ) (d : Done) (s : State) (t : ℕ) (slots : List Value) (heap : Heap) (labels : List Label) (u : Released) →
    js ≡ j ∷ ks → leaves (over d) ≡ true → act (do_discard (value_of d)) s ≡ did unit t slots heap labels → u ≡ releases (do_discard (value_of d)) s → turned (move (fill (around_items left look js) (over d))) s ≡ turns_to (block left (parts_of look js)) t slots heap labels u
discard_turns left look js j ks d s t slots heap labels u e l h g =
    subst (λ (is : List ℕ). turned (move (fill (around_items left look is) (over d))) s ≡ turns_to (block left (parts_of look is)) t slots heap labels u) (sym e)
    (ap (λ o. turned o s) (discard_move left (over d) (parts_from look j ks) (value_of d) (now_temporary d l))
    ∙ ap (turned_by (record { act = do_discard (value_of d); plug = λ x. block left (parts_from look j ks) }) (releases (do_discard (value_of d)) s)) h
    ∙ ap (turns_to (block left (parts_from look j ks)) t slots heap labels) (sym g))

-- the move after the last item
drop_move : (k : ℕ) (d : Done) → move (block (suc k) (last (over d))) ≡ alone (λ x. block k (last (over d))) do_drop
drop_move k done.Unit = refl
drop_move k (done.Number n) = refl
drop_move k (done.Temp v) = refl

-- after its last item a block drops a slot
pub drop_goes : (left : ℕ) (look : ℕ → Run) (js : List ℕ) (d : Done) (s : State) → js ≡ [] → left ≢ 0 → IsSome (turned (move (fill (around_items left look js) (over d))) s) → IsSome (act do_drop s)
drop_goes left look js d s e n h = by left n (subst (λ (l : List ℕ). IsSome (turned (move (fill (around_items left look l) (over d))) s)) e h)
  where
    by : (k : ℕ) → k ≢ 0 → IsSome (turned (move (block k (last (over d)))) s) → IsSome (act do_drop s)
    by zero n i = absurd (n refl)
    by (suc k) n i = turned_goes (record { act = do_drop; plug = λ x. block k (last (over d)) }) (releases do_drop s) (act do_drop s) (subst (λ (o : Option (Move Run)). IsSome (turned o s)) (drop_move k d) i)

-- and is then as before with a slot less to drop
pub drop_turns : (left : ℕ) (look : ℕ → Run) (js : List ℕ) (d : Done) (s : State) (t : ℕ) (slots : List Value) (heap : Heap) (labels : List Label) (u : Released) →
    js ≡ [] → left ≢ 0 → act do_drop s ≡ did unit t slots heap labels → u ≡ releases do_drop s → turned (move (fill (around_items left look js) (over d))) s ≡ turns_to (fill (around_items (left - 1) look js) (over d)) t slots heap labels u
drop_turns left look js d s t slots heap labels u e n h g =
    subst (λ (l : List ℕ). turned (move (fill (around_items left look l) (over d))) s ≡ turns_to (fill (around_items (left - 1) look l) (over d)) t slots heap labels u) (sym e) (by left n)
  where
    by : (k : ℕ) → k ≢ 0 → turned (move (block k (last (over d)))) s ≡ turns_to (block (k - 1) (last (over d))) t slots heap labels u
    by zero n = absurd (n refl)
    by (suc k) n =
        let one : suc k - 1 ≡ k = omega arith in
        ap (λ o. turned o s) (drop_move k d) ∙ ap (turned_by (record { act = do_drop; plug = λ x. block k (last (over d)) }) (releases do_drop s)) h
        ∙ ap (λ m. turns_to (block m (last (over d))) t slots heap labels (releases do_drop s)) (sym one) ∙ ap (turns_to (block (suc k - 1) (last (over d))) t slots heap labels) (sym g)

-- WHERE A THREAD GOES ON

-- a term whose part is done has a step of its own
pub over_waits : (fs : List Form) (g : Frame) (gs : List Frame) (d : Done) → IsSettled (wrapped fs (g ∷ gs) (over d)) → now (wrapped fs (g ∷ gs) (over d)) ≡ going
over_waits fs g [] d h = settled_waits fs g d h
over_waits fs g (k ∷ gs) d h = now_fill (around fs g) (wrapped fs (k ∷ gs) (over d)) (over_waits fs k gs d (settled_fill (around fs g) (wrapped fs (k ∷ gs) (over d)) h))

-- a thread that starts another isn't done
pub spawn_now : (fs : List Form) (node : ℕ) → AreInOrder fs → (node < length fs) × IsSpawn (slice_index_or fs node form.Unit) → now (term_of fs node) ≡ going
spawn_now fs node a h = ap now (spawn_run fs node a h.0 h.1).2

-- a settled term goes on, unless it is done with no frame left
pub not_done : (fs : List Form) (gs : List Frame) (f : Focus) → AreInOrder fs → IsSettled (wrapped fs gs (focus_run fs f)) → HasMadeWay fs gs f → end_of f gs ≡ None → now (wrapped fs gs (focus_run fs f)) ≡ going
not_done fs [] (focus.Over d) a h w e = absurd cc
not_done fs (g ∷ gs) (focus.Over d) a h w e = over_waits fs g gs d h
not_done fs gs (focus.Read w take) a h y e = now_wrap (all_around fs gs) (read w take) refl
not_done fs gs (focus.Borrow w is_mut) a h y e = now_wrap (all_around fs gs) (borrow w is_mut) refl
not_done fs gs (focus.Spawn node) a h y e = now_wrap (all_around fs gs) (term_of fs node) (spawn_now fs node a y)
not_done fs gs (focus.Dup w) a h y e = now_wrap (all_around fs gs) (dup w) refl
not_done fs gs (focus.Lock w node) a h y e = now_wrap (all_around fs gs) (term_of fs node) (ap now (lock_run fs node w a y.0 y.1).1)
not_done fs gs (focus.Par node) a h y e = now_wrap (all_around fs gs) (term_of fs node) (ap now (par_run fs node a y.0 y.1).4)
not_done fs gs focus.ParEnd a h y e = now_wrap (all_around fs gs) par_end refl

-- with no frame left the term is the focus
pub run_end : (fs : List Form) (f : Focus) (gs : List Frame) (d : Done) → end_of f gs ≡ Some d → wrapped fs gs (focus_run fs f) ≡ over d
run_end fs (focus.Over x) [] d h = let e : x ≡ d = cc in ap over e
run_end fs (focus.Over x) (g ∷ gs) d h = absurd cc
run_end fs (focus.Read w take) [] d h = absurd cc
run_end fs (focus.Read w take) (g ∷ gs) d h = absurd cc
run_end fs (focus.Borrow w is_mut) [] d h = absurd cc
run_end fs (focus.Borrow w is_mut) (g ∷ gs) d h = absurd cc
run_end fs (focus.Spawn node) [] d h = absurd cc
run_end fs (focus.Spawn node) (g ∷ gs) d h = absurd cc
run_end fs (focus.Dup w) [] d h = absurd cc
run_end fs (focus.Dup w) (g ∷ gs) d h = absurd cc
run_end fs (focus.Lock w node) [] d h = absurd cc
run_end fs (focus.Lock w node) (g ∷ gs) d h = absurd cc
run_end fs (focus.Par node) [] d h = absurd cc
run_end fs (focus.Par node) (g ∷ gs) d h = absurd cc
run_end fs focus.ParEnd [] d h = absurd cc
run_end fs focus.ParEnd (g ∷ gs) d h = absurd cc

-- a term whose next act is none of the thread alone
pub not_alone : (fs : List Form) (gs : List Frame) (r q : Run) (s : State) → r ≡ q → now q ≡ going → turned (move q) s ≡ None → IsSome (term_step (wrapped fs gs r) s) → ⊥
not_alone fs gs r q s e g none goes =
    let n : now r ≡ going = ap now e ∙ g in
    let no : false ≡ true = subst (λ (o : Option Turned). IsSome o) (ap (λ x. turned (move x) s) e ∙ none) (goes_in_frames fs gs r s n goes) in
    cc

-- neither starting threads nor a lock is an act of the thread alone
pub spawn_alone : (fs : List Form) (gs : List Frame) (node : ℕ) (s : State) → AreInOrder fs → (node < length fs) × IsSpawn (slice_index_or fs node form.Unit) → IsSome (term_step (wrapped fs gs (term_of fs node)) s) → ⊥
spawn_alone fs gs node s a h goes = let r = spawn_run fs node a h.0 h.1 in not_alone fs gs (term_of fs node) (spawn r.0 r.1) s r.2 refl refl goes

pub lock_alone : (fs : List Form) (gs : List Frame) (w : Lval) (node : ℕ) (s : State) → AreInOrder fs → (node < length fs) × IsLock w (slice_index_or fs node form.Unit) → IsSome (term_step (wrapped fs gs (term_of fs node)) s) → ⊥
lock_alone fs gs w node s a h goes = let r = lock_run fs node w a h.0 h.1 in not_alone fs gs (term_of fs node) (lock w r.0) s r.1 refl refl goes

pub par_alone : (fs : List Form) (gs : List Frame) (node : ℕ) (s : State) → AreInOrder fs → (node < length fs) × IsPar (slice_index_or fs node form.Unit) → IsSome (term_step (wrapped fs gs (term_of fs node)) s) → ⊥
par_alone fs gs node s a h goes = let r = par_run fs node a h.0 h.1 in not_alone fs gs (term_of fs node) (par r.0 r.1 r.2 r.3) s r.4 refl refl goes
