-- A step of a machine whose places are known is the step of its positions, which the laws of acts are about.
use Rattle.std.proofs.Common.{◌≡◌, inl, ◌∙◌, ℕ, Bool, true, false, List, [], length, Option, Some, None, refl, sym, ap, subst}
use Rattle.std.specs.Prelude.{if◌then◌else◌}
use Rattle.fr_base.specs.declared.step.Fresh.{Fresh}
use Rattle.fr_base.specs.declared.step.Fresh.TheVariants as fresh
use Rattle.fr_base.specs.declared.step.Wait.{Wait}
use Rattle.fr_typing.specs.Kinds.{unit}
use Rattle.fr_plain.specs.declared.value.Value.{Value}
use Rattle.fr_plain.specs.MachineActs.{Act, carry, do_let, do_read, do_borrow, do_assign, do_box, do_arith, do_print, do_discard, do_drop, do_end, do_spawn, do_join, do_finish, do_leave, do_mutex, do_dup, do_lock, do_unlock, do_par, do_par_end}
use Rattle.fr_plain.specs.MachineThreads.{Now, Move, Moves, on_value, next, Life, alive, over, owing, loose, ended, settle_life, life_move, Thread, Whole, thread_at, is_over}
use Rattle.fr_plain.specs.MachineThreads as machine
use Rattle.fr_plain.specs.Machine.{Stepped, step, step_of, moved, done_act, act_waits, move_waits, takes_of, takes_name, Refusal, refused_names, refused_wait, refused_of, refused}
use Rattle.fr_plain.specs.Machine as plain_machine
use Rattle.fr_plain.specs.PlainState.{Running, running, running_in, place_in, plain_state}
use Rattle.fr_plain.specs.Alike.{value_of, LivesAlike, both_alive, both_owing, both_loose, both_ended, both_over, SteppedAlike, ActsAlike, same_act, same_start, same_starts}
use Rattle.fr_plain.proofs.Alike.{same_done, act_alike, act_takes, names_alike}
use Rattle.fr_plain.proofs.ByName.{found_number}
use Rattle.fr_sound.specs.Entries.{Entry, going}
use Rattle.fr_sound.specs.Seen.{Gives}
use Rattle.fr_sound.specs.States.{Typing}
use Rattle.fr_code.specs.Joins.{alone}
use Rattle.fr_code.specs.Steps.{captured}
use Rattle.law_plain_values.specs.acts.Positions.{Position, moves_by, StartsAs}
use Rattle.law_plain_values.specs.acts.ActRows.{Leaves, left_after, ActRow, r_let, r_assign, r_copy, r_move, r_borrow, r_borrow_mut, r_box, r_arith, r_print, r_discard, r_drop, r_spawn, r_join, r_mutex, r_dup, r_lock, r_unlock, r_par, r_par_end, EndsAs}
use Rattle.law_plain_values.specs.acts.Keeps.{GoesOn, is_main, is_owed, is_loose, KeepsNames, on_references, KeepsReferences, StepsTyped}
use Rattle.law_plain_threads.proofs.threads.Finishes.{finish_keeps}
use Rattle.law_plain_values.specs.drops.DropActs.{main_ends, loose_ends}
use Rattle.law_plain_values.proofs.drops.Ends.{end_keeps}
use Rattle.law_plain_threads.specs.steps.Machines.{MachineTypes, StartsBy, GoesBy, moves_by_row, ends_typed, PlacesGo, StepsOn, KeepsAllTyped}
use Rattle.law_plain_threads.proofs.steps.AllActs.{nameless, all_keep}
use Rattle.law_plain_threads.proofs.steps.Seen.{seen, seen_life, seen_thread, seen_whole, seen_at, entry_or, Sees, sees_seen, thread_alike, whole_alike, seen_types, types_seen}

-- positions that make no move of their own: the laws of acts are told the move
abbrev rests : Moves Position
rests = moves_by (λ q. machine.going) (λ q. None)

-- where a new thread starts
abbrev first_place : Entry → Position
first_place x = record { entry = x; temps = [] }

module _ {P : Type 0} (entry_of : P → Option Entry) (temps : P → List Value) (ms : Moves P) where
  abbrev R : P → Position → Type 0
  R = Sees entry_of temps

  -- ROWS

  -- the act as positions see it, which a row grants
  record SeenAct (act1 : Act P) (x : Entry) (vs : List Value) (leaves : Leaves) (after : Entry) : Type 0 where
    act : Act Position
    row : ActRow StartsAs x vs act leaves after
    same : ActsAlike R ms rests act1 act

  start_sees : (b : P) (x : Entry) → StartsBy entry_of temps ms b x → R (ms.settle b) (first_place x)
  start_sees b x h = record { held = sym h.1; known = inl (x, h.0, alone) }

  row_seen : {act : Act P} {x z : Entry} {vs : List Value} {leaves : Leaves} → ActRow (StartsBy entry_of temps ms) x vs act leaves z → SeenAct act x vs leaves z
  row_seen (r_let {v = v} n o k) = record { act = do_let v; row = r_let n o k; same = same_act (do_let v) }
  row_seen (r_assign {v = v} {w = w} o h g k b n) = record { act = do_assign w v; row = r_assign o h g k b n; same = same_act (do_assign w v) }
  row_seen (r_copy {w = w} q h c b) = record { act = do_read w false; row = r_copy q h c b; same = same_act (do_read w false) }
  row_seen (r_move {w = w} q h c b o) = record { act = do_read w true; row = r_move q h c b o; same = same_act (do_read w true) }
  row_seen (r_borrow {w = w} q h b) = record { act = do_borrow w false; row = r_borrow q h b; same = same_act (do_borrow w false) }
  row_seen (r_borrow_mut {w = w} q h o) = record { act = do_borrow w true; row = r_borrow_mut q h o; same = same_act (do_borrow w true) }
  row_seen (r_box {v = v} o) = record { act = do_box v; row = r_box o; same = same_act (do_box v) }
  row_seen (r_arith {f = f} {a = a} {b = b} o q) = record { act = do_arith f a b; row = r_arith o q; same = same_act (do_arith f a b) }
  row_seen (r_print {v = v} o) = record { act = do_print v; row = r_print o; same = same_act (do_print v) }
  row_seen (r_discard {v = v} o) = record { act = do_discard v; row = r_discard o; same = same_act (do_discard v) }
  row_seen (r_drop n k o) = record { act = do_drop; row = r_drop n k o; same = same_act do_drop }
  row_seen (r_spawn {n = n} {x = x} {body = body} cs q c b) = record { act = do_spawn (captured cs) (first_place (going n [] x)); row = r_spawn cs q c (refl, refl); same = same_start (start_sees body (going n [] x) b) }
  row_seen (r_join {v = v} o) = record { act = do_join v; row = r_join o; same = same_act (do_join v) }
  row_seen (r_mutex {v = v} o) = record { act = do_mutex v; row = r_mutex o; same = same_act (do_mutex v) }
  row_seen (r_dup {w = w} q h b) = record { act = do_dup w; row = r_dup q h b; same = same_act (do_dup w) }
  row_seen (r_lock {w = w} name q h b n) = record { act = do_lock w; row = r_lock name q h b n; same = same_act (do_lock w) }
  row_seen (r_unlock o) = record { act = do_unlock; row = r_unlock o; same = same_act do_unlock }
  row_seen (r_par {n = n} {m = m} {body = body} {other = other} cs ds q c d a b) =
      record { act = do_par (captured cs) (first_place (going n [] unit)) (captured ds) (first_place (going m [] unit)); row = r_par cs ds q c d (refl, refl) (refl, refl); same = same_starts (start_sees body (going n [] unit) a) (start_sees other (going m [] unit) b) }
  row_seen r_par_end = record { act = do_par_end; row = r_par_end; same = same_act do_par_end }

  -- WHAT IS REFUSED

  unwait : (o : Option Wait) (p : Option Refusal) → refused_wait o p ≡ None → (o ≡ None) × (p ≡ None)
  unwait None p h = (refl, h)
  unwait (Some w) p h = absurd cc

  -- a thread that isn't over makes its move, where nothing refuses that
  fine : (s : Whole P) (x : Thread P) (names : Fresh) (m : Move P (Life P)) → refused_of ms s names (Some x) ≡ None → is_over x.life ≡ false → life_move ms x.life ≡ Some m → (act_waits s x m.act ≡ None) × (refused_names s (takes_of m.act) names ≡ None)
  fine s x names m h goes is =
      unwait (act_waits s x m.act) (refused_names s (takes_of m.act) names)
      (subst (λ o. refused_wait (move_waits s x o) (refused_names s (takes_name o) names) ≡ None) is
      (subst (λ (b : Bool). (if b then Some plain_machine.has_ended else refused_wait (move_waits s x (life_move ms x.life)) (refused_names s (takes_name (life_move ms x.life)) names)) ≡ None) goes h))

  -- names that were given are those that were given as positions see it
  names_seen : (s : Whole P) {before after : Gives} → KeepsNames (plain_state (seen_whole entry_of temps s)) before after → KeepsNames (plain_state s) before after
  names_seen s {before = before} {after = after} h = record { mutexes = h.mutexes; results = λ t l e. by t (thread_at s.threads t) refl e }
    where
      by : (t : ℕ) (o : Option (Thread P)) {l : Life (Running P)} → thread_at s.threads t ≡ o → running_in o ≡ Some l → after.result t ≡ before.result t
      by t None e f = cc
      by t (Some x) e f = h.results t (running x.slots (seen_life entry_of temps x.life)) (ap running_in (seen_at entry_of temps s.threads t x e))

  -- an act takes mutable references as the act that is alike does
  carried_on : (a : Act ⊥) → on_references (carry {B = P} a) ≡ on_references (carry {B = Position} a)
  carried_on (do_let v) = refl
  carried_on (do_read w true) = refl
  carried_on (do_read w false) = refl
  carried_on (do_borrow w true) = refl
  carried_on (do_borrow w false) = refl
  carried_on (do_assign w v) = refl
  carried_on (do_box v) = refl
  carried_on (do_arith f v w) = refl
  carried_on (do_print v) = refl
  carried_on (do_discard v) = refl
  carried_on do_drop = refl
  carried_on (do_end v) = refl
  carried_on (do_join v) = refl
  carried_on (do_finish v) = refl
  carried_on (do_leave v) = refl
  carried_on (do_mutex v) = refl
  carried_on (do_dup w) = refl
  carried_on (do_lock w) = refl
  carried_on do_unlock = refl
  carried_on do_par_end = refl
  carried_on (do_spawn cs b) = absurd b
  carried_on (do_par cs b ds d) = absurd b

  same_on : {a : Act P} {b : Act Position} → ActsAlike R ms rests a b → on_references b ≡ on_references a
  same_on (same_act a) = sym (carried_on a)
  same_on (same_start r) = refl
  same_on (same_starts r q) = refl

  -- THE STEP

  module _ (y : Typing) (s : Whole P) (st : MachineTypes entry_of temps y (plain_state s)) (t : ℕ) (names : Fresh) (x : Thread P) (found : thread_at s.threads t ≡ Some x) (allowed : refused_of ms s names (Some x) ≡ None) where
    abbrev c : Whole Position
    c = seen_whole entry_of temps s

    abbrev z : Thread Position
    z = seen_thread entry_of temps x

    -- a step that positions make is made
    acted : (m : Move P (Life P)) (n : Move Position (Life Position)) → life_move ms x.life ≡ Some m → ActsAlike R ms rests m.act n.act → ((v : Value) → LivesAlike R (settle_life ms (m.plug v)) (settle_life rests (n.plug v))) → StepsTyped y rests c z names n → StepsOn entry_of temps ms y s t names
    acted m n is acts fits d = led (done_act ms s x names m m.act) refl (subst (λ o. SteppedAlike R (done_act ms s x names m m.act) o) d.is (same_done R ms rests s c x z m n (whole_alike entry_of temps R (sees_seen entry_of temps) s) (thread_alike entry_of temps R (sees_seen entry_of temps) x) fits names acts))
      where
        led : (o : Option (Stepped P)) → done_act ms s x names m m.act ≡ o → SteppedAlike R o (Some d.next) → StepsOn entry_of temps ms y s t names
        led None e h = absurd h
        led (Some a) e h = record { next = a; is = ap (step_of ms s names) found ∙ ap (moved ms s x names) is ∙ e; typing = d.typing; typed = types_seen entry_of temps d.typing a.state d.next.state h.1 d.typed; kept = names_seen s d.kept; refs = record { thread = x; found = found; move = m; makes = is; refs = subst (λ o. KeepsReferences o t (length x.slots) y.exact d.typing.exact) (same_on acts) (subst (λ b. KeepsReferences (on_references n.act) b (length x.slots) y.exact d.typing.exact) (found_number s.threads t x found) d.refs) } }

    -- as positions see it, it isn't refused either
    fine_there : (m : Move P (Life P)) (n : Move Position (Life Position)) → life_move ms x.life ≡ Some m → is_over x.life ≡ false → ActsAlike R ms rests m.act n.act → (act_waits c z n.act ≡ None) × (refused_names c (takes_of n.act) names ≡ None)
    fine_there m n is goes acts =
        let f = fine s x names m allowed goes is in
        let w = whole_alike entry_of temps R (sees_seen entry_of temps) s in (
          sym (act_alike R ms rests s c w x z (thread_alike entry_of temps R (sees_seen entry_of temps) x) acts) ∙ f.0,
          sym (ap (λ k. refused_names s k names) (act_takes R ms rests s c w acts) ∙ names_alike R ms rests s c w (takes_of n.act) names) ∙ f.1,
        )

    -- THE END OF A THREAD

    on_done : {A : Type 0} (n : Now) (v : Value) (f : Value → A) (a : A) → value_of n ≡ Some v → on_value n f a ≡ f v
    on_done machine.going v f a e = absurd cc
    on_done (machine.constant w) v f a e = let g : w ≡ v = cc in ap f g
    on_done (machine.temporary w) v f a e = let g : w ≡ v = cc in ap f g

    on_going : {A : Type 0} (n : Now) (f : Value → A) (a : A) → n ≡ machine.going → on_value n f a ≡ a
    on_going n f a e = ap (λ k. on_value k f a) e

    -- a thread at a place, in one of the three lives in which it goes on
    record Here (p : P) : Type 0 where
      wrap : P → Life P
      wrap_there : Position → Life Position
      is_here : x.life ≡ wrap p
      is_there : z.life ≡ wrap_there (seen entry_of temps p)
      going_there : GoesOn wrap_there
      not_over : is_over x.life ≡ false
      runs : place_in (Some (running x.slots x.life)) ≡ Some (record { place = p; slots = x.slots })
      fits : (q : P) (r : Position) → R (ms.settle q) r → LivesAlike R (settle_life ms (wrap q)) (settle_life rests (wrap_there r))
      end : Value → Act ⊥
      rest : Value → Life P
      rest_there : Value → Life Position
      fits_end : (v : Value) → LivesAlike R (settle_life ms (rest v)) (settle_life rests (rest_there v))
      moves : life_move ms x.life ≡ on_value (ms.now p) (λ v. machine.alone rest (carry (end v))) (next wrap (ms.move p))
      ends : (v : Value) → EndsAs (seen entry_of temps p).entry (temps p) v → StepsTyped y rests c z fresh.None (record { act = carry (end v); plug = rest_there })
      bare : (v : Value) → refused_names c (takes_of {P = Position} (carry (end v))) names ≡ None → fresh.None ≡ names

    here_found : thread_at c.threads z.number ≡ Some z
    here_found = ap (thread_at c.threads) (found_number s.threads t x found) ∙ seen_at entry_of temps s.threads t x found

    -- what is known there
    module _ (go : PlacesGo entry_of temps ms) (p : P) (h : Here p) where
      by_goes : (e : Entry) → entry_of p ≡ Some e → GoesBy entry_of temps ms p e → StepsOn entry_of temps ms y s t names
      by_goes e known (moves_by_row m leaves after is_going is_move row comes) =
          let d = row_seen row in
          let n : Move Position (Life Position) = record { act = d.act; plug = λ v. h.wrap_there (record { entry = after; temps = left_after leaves v }) } in
          let m2 : Move P (Life P) = record { act = m.act; plug = λ v. h.wrap (m.plug v) } in
          let is : life_move ms x.life ≡ Some m2 = h.moves ∙ on_going (ms.now p) (λ v. machine.alone h.rest (carry (h.end v))) (next h.wrap (ms.move p)) is_going ∙ ap (next h.wrap) is_move in
          let f = fine_there m2 n is h.not_over d.same in
          let fits : (v : Value) → LivesAlike R (settle_life ms (m2.plug v)) (settle_life rests (n.plug v)) = λ v. let k = comes v in h.fits (m.plug v) (record { entry = after; temps = left_after leaves v }) (record { held = sym k.left; known = inl (k.entry, k.known, k.joins) }) in
          acted m2 n is d.same fits
          (all_keep (λ q. machine.going) (λ q. None) y c z (seen entry_of temps p) h.wrap_there (λ v. record { entry = after; temps = left_after leaves v }) names d.act f.1 f.0 (record {
            state = seen_types entry_of temps y s st;
            found = here_found;
            goes_on = h.going_there;
            at = h.is_there;
            leaves = leaves;
            after = after;
            row = subst (λ k. ActRow StartsAs k (temps p) d.act leaves after) (sym (ap entry_or known)) d.row;
            comes = λ v. refl;
          }))
      by_goes e known (ends_typed v is_done f) =
          let n : Move Position (Life Position) = record { act = carry (h.end v); plug = h.rest_there } in
          let m2 : Move P (Life P) = record { act = carry (h.end v); plug = h.rest } in
          let is : life_move ms x.life ≡ Some m2 = h.moves ∙ on_done (ms.now p) v (λ v. machine.alone h.rest (carry (h.end v))) (next h.wrap (ms.move p)) is_done in
          let g = fine_there m2 n is h.not_over (same_act (h.end v)) in
          acted m2 n is (same_act (h.end v)) h.fits_end
          (subst (λ k. StepsTyped y rests c z k n) (h.bare v g.1) (h.ends v (subst (λ k. EndsAs k (temps p) v) (sym (ap entry_or known)) f)))

      at_place : StepsOn entry_of temps ms y s t names
      at_place =
          let r = st.threads t (record { place = p; slots = x.slots }) (ap (λ o. place_in (running_in o)) found ∙ h.runs) in
          by_goes r.entry r.known (go p r.entry r.known r.all_temps)

    -- the three lives in which it goes on
    by_life : PlacesGo entry_of temps ms → (l : Life P) → x.life ≡ l → StepsOn entry_of temps ms y s t names
    by_life go over e = absurd (let f : Some plain_machine.has_ended ≡ None = subst (λ l. (if is_over l then Some plain_machine.has_ended else refused_wait (move_waits s x (life_move ms l)) (refused_names s (takes_name (life_move ms l)) names)) ≡ None) e allowed in cc)
    by_life go (ended v) e = absurd (let f : Some plain_machine.has_ended ≡ None = subst (λ l. (if is_over l then Some plain_machine.has_ended else refused_wait (move_waits s x (life_move ms l)) (refused_names s (takes_name (life_move ms l)) names)) ≡ None) e allowed in cc)
    by_life go (alive p) e = at_place go p (record {
      wrap = alive;
      wrap_there = alive;
      is_here = e;
      is_there = ap (seen_life entry_of temps) e;
      going_there = is_main;
      not_over = ap is_over e;
      runs = ap (λ l. place_in (Some (running x.slots l))) e;
      fits = λ q r k. both_alive k;
      end = do_end;
      rest = λ v. over;
      rest_there = λ v. over;
      fits_end = λ v. both_over;
      moves = ap (life_move ms) e;
      ends = λ v f. end_keeps (λ q. machine.going) (λ q. None) y c z (seen entry_of temps p) alive do_end v (record { state = seen_types entry_of temps y s st; found = here_found; by = main_ends; at = ap (seen_life entry_of temps) e; ends = f });
      bare = λ v k. nameless c names k;
    })
    by_life go (loose p) e = at_place go p (record {
      wrap = loose;
      wrap_there = loose;
      is_here = e;
      is_there = ap (seen_life entry_of temps) e;
      going_there = is_loose;
      not_over = ap is_over e;
      runs = ap (λ l. place_in (Some (running x.slots l))) e;
      fits = λ q r k. both_loose k;
      end = do_leave;
      rest = λ v. over;
      rest_there = λ v. over;
      fits_end = λ v. both_over;
      moves = ap (life_move ms) e;
      ends = λ v f. end_keeps (λ q. machine.going) (λ q. None) y c z (seen entry_of temps p) loose do_leave v (record { state = seen_types entry_of temps y s st; found = here_found; by = loose_ends; at = ap (seen_life entry_of temps) e; ends = f });
      bare = λ v k. nameless c names k;
    })
    by_life go (owing p) e = at_place go p (record {
      wrap = owing;
      wrap_there = owing;
      is_here = e;
      is_there = ap (seen_life entry_of temps) e;
      going_there = is_owed;
      not_over = ap is_over e;
      runs = ap (λ l. place_in (Some (running x.slots l))) e;
      fits = λ q r k. both_owing k;
      end = do_finish;
      rest = ended;
      rest_there = ended;
      fits_end = λ v. both_ended;
      moves = ap (life_move ms) e;
      ends = λ v f. finish_keeps (λ q. machine.going) (λ q. None) y c z (seen entry_of temps p) v (record { state = seen_types entry_of temps y s st; found = here_found; at = ap (seen_life entry_of temps) e; ends = f });
      bare = λ v k. nameless c names k;
    })

  -- each step that isn't refused can be done, and leaves a typed state
  pub keeps_all_typed : KeepsAllTyped entry_of temps ms
  keeps_all_typed go y s st t names h = by (thread_at s.threads t) refl
    where
      by : (o : Option (Thread P)) → thread_at s.threads t ≡ o → StepsOn entry_of temps ms y s t names
      by None e = absurd (let f : Some plain_machine.no_thread ≡ None = subst (λ o. refused_of ms s names o ≡ None) e h in cc)
      by (Some x) e = by_life y s st t names x e (subst (λ o. refused_of ms s names o ≡ None) e h) go x.life refl
