-- The end of main, and of a thread that was let go, keeps a state typed.
use Rattle.std.proofs.Common.{◌≡◌, ◌≢◌, ◌∙◌, ℕ, List, [], ◌∷◌, ◌++◌, Some, None, refl, sym, ap, subst}
use Rattle.fr_base.specs.declared.label.Plain.{Plain}
use Rattle.fr_base.specs.declared.label.Label.{Label}
use Rattle.fr_base.specs.declared.label.Label.TheVariants as label
use Rattle.fr_base.specs.declared.step.Fresh.TheVariants as fresh
use Rattle.fr_typing.specs.Kinds.{Owned, Kind, own, whole}
use Rattle.fr_plain.specs.declared.value.Value.{Value}
use Rattle.fr_plain.specs.declared.value.Value.TheVariants.{Own}
use Rattle.fr_plain.specs.State.{drops}
use Rattle.fr_plain.specs.MachineActs.{Act, do_end, do_leave}
use Rattle.fr_plain.specs.MachineThreads.{Life, over, Thread, Whole as Machine, thread_at, with_thread, dropped}
use Rattle.fr_plain.specs.Machine.{prints, done_act}
use Rattle.fr_plain.specs.PlainState.{Running, running, running_in, is_over_in, plain_state}
use Rattle.fr_sound.specs.Entries.{Entry, going}
use Rattle.fr_sound.specs.States.{Typing, IsKept}
use Rattle.law_plain_values.specs.acts.Positions.{Position, moves_by}
use Rattle.law_plain_values.specs.acts.ActRows.{Pops, EndsAs, ends_as}
use Rattle.law_plain_values.specs.acts.Keeps.{GoesOn, is_main, is_loose, StepsTyped}
use Rattle.law_plain_values.proofs.acts.OneThread.{kept_still}
use Rattle.law_plain_values.proofs.acts.Focus.{top_some}
use Rattle.law_plain_values.proofs.acts.Hand.{At, ranked}
use Rattle.law_plain_values.proofs.acts.Operands.{Loaded, load}
use Rattle.law_plain_values.proofs.acts.Done.{names_stay, runs_here}
use Rattle.law_plain_values.proofs.acts.Slots.{owned_value}
use Rattle.law_plain_values.proofs.acts.Threads.{no_pair, put_here, put_elsewhere, pairs_same, still_here}
use Rattle.law_plain_values.specs.drops.Drops.{with_carrier}
use Rattle.law_plain_values.specs.drops.DropActs.{EndsBy, main_ends, loose_ends, AtLast, EndKeeps}
use Rattle.law_plain_values.proofs.drops.Handed.{own_part}
use Rattle.law_plain_values.proofs.drops.Prepared.{name_for, name_free, beside, prepared_at, prepared_focus, prepared_keys, prepared_over}
use Rattle.law_plain_values.proofs.drops.HandGoes.{hand_tree}
use Rattle.law_plain_values.proofs.drops.EndGoes.{end_goes}
use Rattle.law_plain_values.proofs.drops.Dropped.{IsTyped, drop_typed}
use Rattle.law_plain_values.proofs.acts.Refs.{none_owns}
use Rattle.fr_store.specs.Rows.{with_type}
use Rattle.fr_store.specs.Typed.{owns, hole}
use Rattle.fr_store.specs.Keys.{slot_k, temp_k}

record EndRow (x : Entry) (vs : List Value) (v : Value) : Type 0 where
  before : List Kind
  result : Owned
  pops : Pops before vs v (own result) [] []
  entry : x ≡ going [] before result

end_row : {x : Entry} {vs : List Value} {v : Value} → EndsAs x vs v → EndRow x vs v
end_row (ends_as {ts = ts} {g = g} pops) = record { before = ts; result = g; pops = pops; entry = refl }

goes_by : {wrap : Position → Life Position} {act : Value → Act Position} → EndsBy wrap act → GoesOn wrap
goes_by main_ends = is_main
goes_by loose_ends = is_loose

unkept : {wrap : Position → Life Position} {act : Value → Act Position} → EndsBy wrap act → (p : Position) (slots : List Value) → IsKept (Some (running slots (wrap p))) → ⊥
unkept main_ends p slots h = h
unkept loose_ends p slots h = h

-- the state where the thread is over
abbrev overed : Machine Position → Thread Position → List Label → Machine Position
overed s t labels = record s { threads = with_thread s.threads (record { number = t.number; life = over; slots = t.slots }); heap = s.heap; output = s.output ++ prints labels }

module _ (y : Typing) (s : Machine Position) (t : Thread Position) (p : Position) (wrap : Position → Life Position) (act : Value → Act Position) (v : Value) (r : AtLast y s t p wrap act v) (i : EndRow p.entry p.temps v) where
  abbrev x : Running Position
  x = record { place = p; slots = t.slots }

  here : At y (plain_state s) t.number x [] i.before i.result
  here = record { state = r.state; runs = runs_here s t p wrap (goes_by r.by) r.found r.at; entry = i.entry }

  -- with the operand at hand
  module _ (l : Loaded y (plain_state s) t.number x [] [] i.result (own i.result) v []) where
    value : (w : Plain) × (v ≡ Own w)
    value = owned_value l (ranked l.typing l.state t.number l.running [] (own i.result ∷ []) [] (Some (own i.result)) i.result l.at top_some l.waits)

    gone_on : (w : Plain) → v ≡ Own w → (labels : List Label) → IsTyped y (dropped (overed s t labels) w)
    gone_on w e labels =
        let new : Thread Position = record { number = t.number; life = over; slots = t.slots } in
        let s2 = overed s t labels in
        let u = name_for s2 in
        let free = name_free s2 in
        let found = put_here s.threads t new refl r.found in
        let off = put_elsewhere s.threads t new refl r.found in
        let ne : u ≢ t.number = λ z. (let f : None ≡ Some new = sym free ∙ ap (thread_at s2.threads) z ∙ found in cc) in
        let same = l.only (plain_state s) x (still_here s t p wrap (goes_by r.by) r.found r.at) in
        let away = λ (n : ℕ) (q : n ≢ t.number). ap running_in (off n q) ∙ same.others n q in
        let none : l.state.thread u ≡ None = sym (away u ne) ∙ ap running_in free in
        let life : (plain_state s).thread t.number ≡ Some (running t.slots (wrap p)) = ap running_in r.found ∙ ap (λ k. Some (running t.slots k)) r.at in
        let light : IsKept (l.state.thread t.number) → ⊥ = λ k. unkept r.by p t.slots (subst IsKept (sym same.now ∙ life) (kept_still (l.state.thread t.number) x k)) in
        let pairs = pairs_same s s2 t.number refl off (no_pair here) (ap is_over_in found) in
        let temps = l.temps ∙ ap (λ k. k ∷ []) e in
        let at = prepared_at l.at u none in
        let fc = prepared_focus l.at u none [] (Some (own i.result)) top_some (λ q. cc) in
        let tree = hand_tree at fc l.waits w [] temps in
        let q = own_part (whole (own i.result)) tree.0 tree.2 in
        let d = drop_typed u s2 _ q.0 w (record {
          none = free;
          carries = end_goes at fc w temps light u none (prepared_keys l.at u none) (prepared_over l.at u none) (plain_state s2) (plain_state (with_carrier s2 u q.0 (l.typing.gives.result u) w)) (ap running_in found) away (λ n. pairs n ∙ same.pairs n)
              same.mutexes same.given (λ o. sym (l.objects o)) q.0 tree.0 tree.1 q.1 q.2 (beside s2 u q.0 (l.typing.gives.result u) w free);
        }) in
        (d.0, d.1, d.2 ∙ l.names, λ j b f. l.refs j b (none_owns l.typing.exact (temp_k t.number 0) hole j b (none_owns (with_type l.typing.exact (temp_k t.number 0) (owns hole)) (slot_k u 0) tree.0 j b (d.3 j b f))))

pub end_keeps : EndKeeps
end_keeps now move y s t p wrap act v r =
    let i = end_row r.ends in
    let l = load y (plain_state s) t.number (record { place = p; slots = t.slots }) [] i.result (here y s t p wrap act v r i) refl i.pops in
    let d = value y s t p wrap act v r i l in
    by wrap act r.by d.0 d.1 (gone_on y s t p wrap act v r i l d.0 d.1)
  where
    by : (wrap : Position → Life Position) (act : Value → Act Position) → EndsBy wrap act → (w : Plain) → v ≡ Own w → ((labels : List Label) → IsTyped y (dropped (overed s t labels) w)) → StepsTyped y (moves_by now move) s t fresh.None (record { act = act v; plug = λ z. over })
    by _ _ main_ends w e typed =
        let labels = drops (Own w) ++ label.End t.number ∷ [] in
        let k = typed labels in
        record { next = record { state = dropped (overed s t labels) w; labels = labels }; is = ap (λ a. done_act (moves_by now move) s t fresh.None (record { act = do_end v; plug = λ z. over }) (do_end a)) e; typing = k.0; typed = k.1; kept = names_stay k.2; refs = k.3 }
    by _ _ loose_ends w e typed =
        let labels = label.End t.number ∷ [] in
        let k = typed labels in
        record { next = record { state = dropped (overed s t labels) w; labels = labels }; is = ap (λ a. done_act (moves_by now move) s t fresh.None (record { act = do_leave v; plug = λ z. over }) (do_leave a)) e; typing = k.0; typed = k.1; kept = names_stay k.2; refs = k.3 }
