-- The move of a thread, by what it does next.
use Rattle.std.proofs.Common.{◌≡◌, ℕ, zero, suc, ◌<◌, List, [], ◌∷◌, ◌++◌, length, get_or, drop, Option, Some, refl, sym, ap, ◌∙◌, subst}
use Rattle.fr_plain.specs.declared.value.Value.{Value}
use Rattle.fr_plain.specs.Acts.{Act, do_mutex, do_dup, do_lock, do_unlock, do_par, do_par_end, do_spawn, do_join, do_box, do_let, do_print, do_assign, do_arith, do_discard}
use Rattle.fr_plain.specs.Run as run
use Rattle.std.specs.Prelude.{⊤}
use Rattle.fr_plain.specs.Run.{Capture, Run, going, on_value, now, Move, next, alone, block_end, move, Life, life_move}
use Rattle.fr_plain.specs.Threads.{act_waits, move_waits}
use Rattle.fr_plain.specs.Whole.{Whole, Thread as PlainThread, takes_name, takes_of}
use Rattle.fr_forms.specs.declared.forms.Form.{Form}
use Rattle.fr_forms.specs.declared.forms.Form.TheVariants as form
use Rattle.fr_meaning.specs.declared.frame.Done.{Done}
use Rattle.fr_meaning.specs.declared.frame.Done.TheVariants as done
use Rattle.fr_meaning.specs.declared.frame.Frame.{Frame}
use Rattle.fr_meaning.specs.declared.frame.Frame.TheVariants as frame
use Rattle.fr_meaning.specs.declared.frame.Focus.{Focus}
use Rattle.fr_meaning.specs.declared.frame.Focus.TheVariants as focus
use Rattle.fr_meaning.specs.declared.next.Next.{Next}
use Rattle.fr_meaning.specs.declared.next.Next.TheVariants as next_
use Rattle.fr_meaning.specs.declared.thread.Stage.{Stage}
use Rattle.fr_meaning.specs.declared.thread.Thread.{Thread}
use Rattle.fr_meaning.specs.Contexts.{fill, wrap, IsSettled}
use Rattle.fr_forms.specs.FormTerms.{AreInOrder, term_of, items_at, captures_of, captures_in, captures_at, parts_from, IsSpawn}
use Rattle.fr_meaning.specs.DoneTerms.{over, value_of}
use Rattle.fr_meaning.specs.FrameTerms.{around, around_items, all_around, wrapped, focus_run, IsPastLeft, TopIsPastLeft, HasMadeWay}
use Rattle.fr_meaning.specs.Next.{TopNext, IsNext, OwnNext, next_waits, next_takes}
use Rattle.fr_meaning.specs.Threads.{run_in, IsWell, IsGoingOn, life_at}
use Rattle.fr_meaning.proofs.ContextLemmas.{now_wrap, move_fill, move_wrap, settled_fill}
use Rattle.fr_forms.proofs.FormLemmas.{form_term, get_or-any, lock_run, par_run}
use Rattle.fr_meaning.proofs.FrameLemmas.{wrap_push, now_temporary}
use Rattle.fr_meaning.proofs.OwnActs.{Owns, next_owns, move_free}
use Rattle.fr_meaning.proofs.StepLemmas.{held, discard_move, over_waits, not_done, run_end}
use Rattle.fr_meaning.proofs.WholeSteps.{life_moves, end_moves, own_end, join_moves}

-- AN ACT OF ITS OWN

-- a done term has its value
pub done_value : {A : Type 0} (d : Done) (f : Value → A) (a : A) → on_value (now (over d)) f a ≡ f (value_of d)
done_value done.Unit f a = refl
done_value (done.Number n) f a = refl
done_value (done.Temp v) f a = refl

-- a move that is one of the thread's own
own_move : (o p : Option (Move Run)) → o ≡ p → Owns p → Owns o
own_move o p e h = subst (λ (q : Option (Move Run)). Owns q) (sym e) h

-- dropping a slot
end_owns : (k : ℕ) (d : Done) → Owns (block_end k (run.last (over d)))
end_owns zero d = tt
end_owns (suc k) d = tt

-- a join, a new mutex and an unlock are no acts of the thread's own
abbrev IsOwnFrame : Frame → Type 0
IsOwnFrame frame.Join = ⊥
IsOwnFrame frame.Mutex = ⊥
IsOwnFrame frame.Locked = ⊥
IsOwnFrame _ = ⊤

-- the term of a frame whose part is done
frame_owns : (fs : List Form) (g : Frame) (d : Done) → IsPastLeft g → IsOwnFrame g → IsSettled (fill (around fs g) (over d)) → Owns (move (fill (around fs g) (over d)))
frame_owns fs frame.Box d p j h = own_move (move (run.box_r (over d))) (alone run.temp (do_box (value_of d))) (done_value d (λ v. alone run.temp (do_box v)) (next run.box_r (move (over d)))) tt
frame_owns fs frame.Let d p j h = own_move (move (run.bind (over d))) (alone (λ x. run.unit_c) (do_let (value_of d))) (done_value d (λ v. alone (λ x. run.unit_c) (do_let v)) (next run.bind (move (over d)))) tt
frame_owns fs frame.Print d p j h = own_move (move (run.print (over d))) (alone (λ x. run.unit_c) (do_print (value_of d))) (done_value d (λ v. alone (λ x. run.unit_c) (do_print v)) (next run.print (move (over d)))) tt
frame_owns fs frame.Join d p j h = absurd j
frame_owns fs frame.Mutex d p j h = absurd j
frame_owns fs frame.Locked d p j h = absurd j
frame_owns fs (frame.Assign w) d p j h =
    own_move (move (run.assign w (over d))) (alone (λ x. run.unit_c) (do_assign w (value_of d))) (done_value d (λ v. alone (λ x. run.unit_c) (do_assign w v)) (next (run.assign w) (move (over d)))) tt
frame_owns fs (frame.Left f right) d p j h = absurd p
frame_owns fs (frame.Right f left) d p j h =
    own_move (move (run.arith f (over left) (over d))) (alone run.temp (do_arith f (value_of left) (value_of d)))
    (done_value left (λ v. on_value (now (over d)) (λ w. alone run.temp (do_arith f v w)) (next (run.arith f (over left)) (move (over d)))) (next (λ x. run.arith f x (over d)) (move (over left)))
    ∙ done_value d (λ w. alone run.temp (do_arith f (value_of left) w)) (next (run.arith f (over left)) (move (over d)))) tt
frame_owns fs (frame.Block left node at) d p j h = by (drop at (items_at fs node)) h
  where
    by : (is : List ℕ) → IsSettled (fill (around_items left (term_of fs) is) (over d)) → Owns (move (fill (around_items left (term_of fs) is) (over d)))
    by [] s =
        own_move (move (run.block left (run.last (over d)))) (block_end left (run.last (over d))) (done_value d (λ v. block_end left (run.last (over d))) (next (run.block left) (next run.last (move (over d))))) (end_owns left d)
    by (i ∷ is) s =
        own_move (move (run.block left (run.more (over d) (parts_from (term_of fs) i is)))) (alone (λ x. run.block left (parts_from (term_of fs) i is)) (do_discard (value_of d)))
        (discard_move left (over d) (parts_from (term_of fs) i is) (value_of d) (now_temporary d (held left (term_of fs) (i ∷ is) i is d refl s))) tt

-- a term in frames whose innermost part is done
over_owns : (fs : List Form) (g : Frame) (gs : List Frame) (d : Done) → TopIsPastLeft (g ∷ gs) → ((around : List Frame) (x : Frame) → g ∷ gs ≡ around ++ x ∷ [] → IsOwnFrame x) → IsSettled (wrapped fs (g ∷ gs) (over d)) → Owns (move (wrapped fs (g ∷ gs) (over d)))
over_owns fs g [] d p own h = frame_owns fs g d p (own [] g refl) h
over_owns fs g (k ∷ gs) d p own h =
    let inner = wrapped fs (k ∷ gs) (over d) in
    let settled = settled_fill (around fs g) inner h in
    own_move (move (fill (around fs g) inner)) (next (fill (around fs g)) (move inner)) (move_fill (around fs g) inner (over_waits fs k gs d settled))
    (next_owns (fill (around fs g)) (move inner) (over_owns fs k gs d p (λ a x e. own (g ∷ a) x (ap (λ ks. g ∷ ks) e)) settled))

-- a move inside frames
in_frames : (fs : List Form) (gs : List Frame) (r : Run) → now r ≡ going → Owns (move r) → Owns (move (wrapped fs gs r))
in_frames fs gs r g h = own_move (move (wrapped fs gs r)) (next (wrap (all_around fs gs)) (move r)) (move_wrap (all_around fs gs) r g) (next_owns (wrap (all_around fs gs)) (move r) h)

-- the top frame of a thread that does nothing else
own_frame : (f : Focus) (gs around : List Frame) (x : Frame) (d : Done) → OwnNext f gs → f ≡ focus.Over d → gs ≡ around ++ x ∷ [] → IsOwnFrame x
own_frame f gs around frame.Join d o g e = o.no_join around d e g
own_frame f gs around frame.Mutex d o g e = o.no_mutex around d e g
own_frame f gs around frame.Locked d o g e = o.no_unlock around d e g
own_frame f gs around frame.Box d o g e = tt
own_frame f gs around frame.Let d o g e = tt
own_frame f gs around frame.Print d o g e = tt
own_frame f gs around (frame.Assign w) d o g e = tt
own_frame f gs around (frame.Left op right) d o g e = tt
own_frame f gs around (frame.Right op left) d o g e = tt
own_frame f gs around (frame.Block left node next) d o g e = tt

-- such a thread does an act of its own
pub run_owns : (fs : List Form) (gs : List Frame) (f : Focus) → IsSettled (wrapped fs gs (focus_run fs f)) → HasMadeWay fs gs f → OwnNext f gs → Owns (move (wrapped fs gs (focus_run fs f)))
run_owns fs [] (focus.Over d) h w o = let e = o.goes_on in absurd cc
run_owns fs (g ∷ gs) (focus.Over d) h w o = over_owns fs g gs d w (λ a x e. own_frame (focus.Over d) (g ∷ gs) a x d o refl e) h
run_owns fs gs (focus.Read w take) h y o = in_frames fs gs (run.read w take) refl tt
run_owns fs gs (focus.Borrow w is_mut) h y o = in_frames fs gs (run.borrow w is_mut) refl tt
run_owns fs gs (focus.Spawn node) h w o = absurd (o.no_start node refl)
run_owns fs gs (focus.Dup x) h w o = absurd (o.no_dup x refl)
run_owns fs gs (focus.Lock x node) h w o = absurd (o.no_lock x node refl)
run_owns fs gs (focus.Par node) h w o = absurd (o.no_par node refl)
run_owns fs gs focus.ParEnd h w o = absurd (o.no_par_end refl)

-- MOVES

-- the move of a life, from that of the innermost term
pub frame_moves : (fs : List Form) (gs : List Frame) (g : Stage) (r : Run) (m : Move Run) → IsGoingOn g → now r ≡ going → move r ≡ Some m → life_move (life_at g (wrapped fs gs r)) ≡ Some (record { act = m.act; plug = λ v. life_at g (wrapped fs gs (m.plug v)) })
frame_moves fs gs g r m on go e =
    life_moves g (wrapped fs gs r) on (now_wrap (all_around fs gs) r go) ∙ ap (next (life_at g)) (move_wrap (all_around fs gs) r go ∙ ap (next (wrap (all_around fs gs))) e)

-- the term of a form that starts a thread, with its captures
pub spawn_captures : (fs : List Form) (i : ℕ) → AreInOrder fs → i < length fs → IsSpawn (get_or fs i form.Unit) → (r : Run) × (term_of fs i ≡ run.spawn (captures_of (captures_at fs i)) r)
spawn_captures fs i a lt s = by (get_or fs i form.Unit) refl
  where
    by : (m : Form) → get_or fs i form.Unit ≡ m → (r : Run) × (term_of fs i ≡ run.spawn (captures_of (captures_at fs i)) r)
    by (form.Spawn cs body drops) q = (
      run.block drops (run.last (term_of fs body)),
      form_term fs i (get_or fs i form.Unit) (form.Spawn cs body drops) a lt (get_or-any fs i form.Unit (get_or fs i form.Unit) lt) q
          ∙ ap (λ ds. run.spawn (captures_of ds) (run.block drops (run.last (term_of fs body)))) (sym (ap captures_in q)),
    )
    by (form.Number x) q = absurd (subst IsSpawn q s)
    by form.Unit q = absurd (subst IsSpawn q s)
    by (form.Read w take) q = absurd (subst IsSpawn q s)
    by (form.Borrow w is_mut) q = absurd (subst IsSpawn q s)
    by (form.Box x) q = absurd (subst IsSpawn q s)
    by (form.Let x) q = absurd (subst IsSpawn q s)
    by (form.Print x) q = absurd (subst IsSpawn q s)
    by (form.Join x) q = absurd (subst IsSpawn q s)
    by (form.Mutex x) q = absurd (subst IsSpawn q s)
    by (form.Dup place) q = absurd (subst IsSpawn q s)
    by (form.Lock place x k2) q = absurd (subst IsSpawn q s)
    by (form.Par ours theirs) q = absurd (subst IsSpawn q s)
    by (form.Assign w x) q = absurd (subst IsSpawn q s)
    by (form.Arith f x y) q = absurd (subst IsSpawn q s)
    by (form.Block items lets) q = absurd (subst IsSpawn q s)
    by form.Place q = absurd (subst IsSpawn q s)

-- the move has this act
abbrev pub MovesBy : Act → Option (Move Life) → Type 0
MovesBy a o = (m : Move Life) × (o ≡ Some m) × (m.act ≡ a)

-- the act by what comes next
abbrev pub Moves : List Form → Next → Option (Move Life) → Type 0
Moves fs (next_.End d) o = Owns o
Moves fs (next_.Join v) o = MovesBy (do_join v) o
Moves fs (next_.Start node) o = (m : Move Life) × (r : Run) × (o ≡ Some m) × (m.act ≡ do_spawn (captures_of (captures_at fs node)) r)
Moves fs (next_.Mutex v) o = MovesBy (do_mutex v) o
Moves fs (next_.Dup w) o = MovesBy (do_dup w) o
Moves fs (next_.Lock w node) o = MovesBy (do_lock w) o
Moves fs (next_.Unlock d) o = MovesBy do_unlock o
Moves fs (next_.Par node) o = (cs : List Capture) × (r : Run) × (ds : List Capture) × (q : Run) × MovesBy (do_par cs r ds q) o
Moves fs next_.ParEnd o = MovesBy do_par_end o
Moves fs next_.Own o = Owns o

-- the move of a thread whose top frame's part is done, from that frame's term
top_moves : (fs : List Form) (x : Thread) (g : Frame) (d : Done) → (h : TopNext g x.focus x.frames.items d) → life_move (life_at x.stage (run_in fs x)) ≡ life_move (life_at x.stage (wrapped fs h.around (fill (around fs g) (over d))))
top_moves fs x g d h =
    ap (λ r. life_move (life_at x.stage r)) (ap (λ f. wrapped fs x.frames.items (focus_run fs f)) h.at_end ∙ ap (λ gs. wrapped fs gs (over d)) h.top ∙ wrap_push fs h.around g (over d))

-- the move of a thread, from the term of its focus
focus_moves : (fs : List Form) (x : Thread) (f : Focus) (q : Run) (m : Move Run) → IsGoingOn x.stage → x.focus ≡ f → focus_run fs f ≡ q → now q ≡ going → move q ≡ Some m → MovesBy m.act (life_move (life_at x.stage (run_in fs x)))
focus_moves fs x f q m on h e g is = (
  record { act = m.act; plug = λ u. life_at x.stage (wrapped fs x.frames.items (m.plug u)) },
  ap (λ r. life_move (life_at x.stage r)) (ap (λ y. wrapped fs x.frames.items (focus_run fs y)) h ∙ ap (wrapped fs x.frames.items) e) ∙ frame_moves fs x.frames.items x.stage q m on g is,
  refl,
)

-- a thread in progress makes the move that comes next
pub next_moves : (fs : List Form) (x : Thread) (n : Next) → AreInOrder fs → IsWell fs x → IsGoingOn x.stage → IsNext x.focus x.frames.items n → Moves fs n (life_move (life_at x.stage (run_in fs x)))
next_moves fs x (next_.End d) a w on h =
    let e = ap (λ r. life_move (life_at x.stage r)) (run_end fs x.focus x.frames.items d h) ∙ end_moves x.stage d on in
    subst (λ (o : Option (Move Life)). Owns o) (sym e) (own_end x.stage (value_of d)).0
next_moves fs x (next_.Join v) a w on h =
    let k = top_moves fs x frame.Join h.done h.next in
    let m : Move Run = record { act = do_join (value_of h.done); plug = run.temp } in
    let e = k ∙ frame_moves fs h.next.around x.stage (run.join_r (over h.done)) m on refl (join_moves h.done) in
    (record { act = do_join (value_of h.done); plug = λ u. life_at x.stage (wrapped fs h.next.around (run.temp u)) }, e, ap do_join h.value)
next_moves fs x (next_.Start node) a w on h =
    let way = subst (λ f. HasMadeWay fs x.frames.items f) h w.way in
    let s = spawn_captures fs node a way.0 way.1 in
    let m : Move Run = record { act = do_spawn (captures_of (captures_at fs node)) s.0; plug = run.temp } in
    let e = ap (λ r. life_move (life_at x.stage r)) (ap (λ f. wrapped fs x.frames.items (focus_run fs f)) h ∙ ap (wrapped fs x.frames.items) s.1)
    ∙ frame_moves fs x.frames.items x.stage (run.spawn (captures_of (captures_at fs node)) s.0) m on refl refl in
    (record { act = do_spawn (captures_of (captures_at fs node)) s.0; plug = λ u. life_at x.stage (wrapped fs x.frames.items (run.temp u)) }, s.0, e, refl)
next_moves fs x (next_.Mutex v) a w on h =
    let k = top_moves fs x frame.Mutex h.done h.next in
    let m : Move Run = record { act = do_mutex (value_of h.done); plug = run.temp } in
    let e = k ∙ frame_moves fs h.next.around x.stage (run.mutex_r (over h.done)) m on refl (done_value h.done (λ v. alone run.temp (do_mutex v)) (next run.mutex_r (move (over h.done)))) in
    (record { act = do_mutex (value_of h.done); plug = λ u. life_at x.stage (wrapped fs h.next.around (run.temp u)) }, e, ap do_mutex h.value)
next_moves fs x (next_.Dup y) a w on h = focus_moves fs x (focus.Dup y) (run.dup y) (record { act = do_dup y; plug = run.temp }) on h refl refl refl
next_moves fs x (next_.Lock y node) a w on h =
    let way = subst (λ f. HasMadeWay fs x.frames.items f) h w.way in
    let s = lock_run fs node y a way.0 way.1 in
    focus_moves fs x (focus.Lock y node) (run.lock y s.0) (record { act = do_lock y; plug = λ v. run.locked s.0 }) on h s.1 refl refl
next_moves fs x (next_.Unlock d) a w on h =
    let k = top_moves fs x frame.Locked d h in
    let m : Move Run = record { act = do_unlock; plug = λ v. over d } in
    let e = k ∙ frame_moves fs h.around x.stage (run.locked (over d)) m on refl (done_value d (λ v. alone (λ x. over d) do_unlock) (next run.locked (move (over d)))) in
    (record { act = do_unlock; plug = λ u. life_at x.stage (wrapped fs h.around (over d)) }, e, refl)
next_moves fs x (next_.Par node) a w on h =
    let way = subst (λ f. HasMadeWay fs x.frames.items f) h w.way in
    let s = par_run fs node a way.0 way.1 in
    (s.0, s.1, s.2, s.3, focus_moves fs x (focus.Par node) (run.par s.0 s.1 s.2 s.3) (record { act = do_par s.0 s.1 s.2 s.3; plug = λ v. run.par_end }) on h s.4 refl refl)
next_moves fs x next_.ParEnd a w on h = focus_moves fs x focus.ParEnd run.par_end (record { act = do_par_end; plug = λ v. run.unit_c }) on h refl refl refl
next_moves fs x next_.Own a w on h =
    let e = life_moves x.stage (run_in fs x) on (not_done fs x.frames.items x.focus a w.settled w.way h.goes_on) in
    subst (λ (o : Option (Move Life)). Owns o) (sym e) (next_owns (life_at x.stage) (move (run_in fs x)) (run_owns fs x.frames.items x.focus w.settled w.way h))

-- what it waits for, and which names it takes
pub moves_wait : (fs : List Form) (s : Whole) (x : PlainThread) (n : Next) (o : Option (Move Life)) → Moves fs n o → (move_waits s x o ≡ next_waits s x n) × (takes_name o ≡ next_takes n)
moves_wait fs s x (next_.End d) o h = move_free s x o h
moves_wait fs s x (next_.Join v) o h = (ap (move_waits s x) h.1 ∙ ap (act_waits s x) h.2, ap takes_name h.1 ∙ ap takes_of h.2)
moves_wait fs s x (next_.Start node) o h = (ap (move_waits s x) h.2 ∙ ap (act_waits s x) h.3, ap takes_name h.2 ∙ ap takes_of h.3)
moves_wait fs s x (next_.Mutex v) o h = (ap (move_waits s x) h.1 ∙ ap (act_waits s x) h.2, ap takes_name h.1 ∙ ap takes_of h.2)
moves_wait fs s x (next_.Dup w) o h = (ap (move_waits s x) h.1 ∙ ap (act_waits s x) h.2, ap takes_name h.1 ∙ ap takes_of h.2)
moves_wait fs s x (next_.Lock w node) o h = (ap (move_waits s x) h.1 ∙ ap (act_waits s x) h.2, ap takes_name h.1 ∙ ap takes_of h.2)
moves_wait fs s x (next_.Unlock d) o h = (ap (move_waits s x) h.1 ∙ ap (act_waits s x) h.2, ap takes_name h.1 ∙ ap takes_of h.2)
moves_wait fs s x (next_.Par node) o h = let m = h.4 in (ap (move_waits s x) m.1 ∙ ap (act_waits s x) m.2, ap takes_name m.1 ∙ ap takes_of m.2)
moves_wait fs s x next_.ParEnd o h = (ap (move_waits s x) h.1 ∙ ap (act_waits s x) h.2, ap takes_name h.1 ∙ ap takes_of h.2)
moves_wait fs s x next_.Own o h = move_free s x o h
