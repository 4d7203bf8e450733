-- Starting a thread keeps a state typed: first the new thread is there without slots and its task at hand, and then its captures go slot by slot.
use Rattle.std.proofs.Common.{◌≡◌, ◌≢◌, ◌∙◌, ap₂, ℕ, suc, Bool, true, false, List, [], ◌∷◌, ◌++◌, length, Option, Some, None, refl, sym, ap, subst}
use Rattle.std.specs.Prelude.{◌==◌, is_some, if◌then◌else◌}
use Rattle.fr_base.specs.declared.label.Label.TheVariants as label
use Rattle.fr_base.specs.declared.label.Plain.TheVariants as plain
use Rattle.fr_base.specs.declared.step.Fresh.{Fresh}
use Rattle.fr_base.specs.declared.step.Fresh.TheVariants as fresh
use Rattle.fr_terms.specs.Terms.{Captured}
use Rattle.fr_typing.specs.Kinds.{Owned, unit, task, Kind, own, shared, mutable, view, whole, gone, copies}
use Rattle.fr_typing.specs.Places.{Env, found, type_at, read_blocked, write_blocked, put_at}
use Rattle.fr_typing.specs.Captures.{by_spawn, captured_kind, captured_slot, MayPass}
use Rattle.fr_typing.proofs.PlaceLemmas.{eq_cases}
use Rattle.fr_store.specs.Keys.{slot_k, temp_k}
use Rattle.fr_store.specs.Thread.{ThreadKeys}
use Rattle.fr_plain.specs.declared.value.Value.{Value}
use Rattle.fr_plain.specs.declared.value.Value.TheVariants.{Own}
use Rattle.fr_plain.specs.State.{with_slot}
use Rattle.fr_plain.specs.MachineActs.{Capture, do_spawn}
use Rattle.fr_plain.specs.MachineThreads.{Now, Move, Life, owing, Thread, Whole, thread_at, with_thread, is_over, pass}
use Rattle.fr_plain.specs.Machine.{takes_of, refused_names, started_with, started}
use Rattle.fr_plain.specs.PlainState.{Running, PlainState, running, running_in, plain_state}
use Rattle.fr_sound.specs.Entries.{Entry, going}
use Rattle.fr_sound.specs.Seen.{Gives}
use Rattle.fr_sound.specs.States.{Typing}
use Rattle.fr_code.specs.CodeTypes.{wait, SlotsPass}
use Rattle.fr_code.specs.Steps.{captured}
use Rattle.law_plain_values.specs.acts.Positions.{Position, PositionTypes, moves_by, StartsAs}
use Rattle.law_plain_values.specs.acts.ActRows.{Leaves, loud, left_after, ActRow, r_spawn}
use Rattle.law_plain_values.specs.acts.Keeps.{GoesOn, Ready, KeepsNames, StepsTyped, KeepsNamed}
use Rattle.law_plain_values.proofs.acts.OneThread.{with_running}
use Rattle.law_plain_values.proofs.acts.Raised.{ranked_by, raised, raised_typing}
use Rattle.law_plain_values.proofs.acts.Focus.{top_none, Focus, focus, hand_at}
use Rattle.law_plain_values.proofs.acts.Hand.{At, room}
use Rattle.law_plain_values.proofs.acts.Refs.{NoneNew, none_owns}
use Rattle.law_plain_values.proofs.acts.Done.{runs_here, step_named}
use Rattle.law_plain_values.proofs.acts.Regiven.{giving, regiven}
use Rattle.law_plain_threads.specs.threads.ThreadActs.{IsSpawn}
use Rattle.law_plain_values.proofs.acts.Threads.{objects_counted, pairs_by}
use Rattle.law_plain_values.proofs.acts.Fresh.{lifted_slots, lifted_keys, lifted_typed}
use Rattle.law_plain_threads.proofs.threads.AllPass.{named_below, Copied, Moved, Passing, all_pass}
use Rattle.law_plain_threads.proofs.threads.Started.{started_typed}
use Rattle.law_plain_threads.proofs.threads.TwoStates.{goes_with, not_over, child_at, two_state, here, there, beyond, over_same, value_is, take_typed, copy_typed}
use Rattle.fr_plain.specs.Machine.{name_used}
use Rattle.fr_store.specs.Typed.{KeyTypes, task_tree}
use Rattle.fr_store.specs.Below.{tree_of}

-- CAPTURES

-- spawn captures owned variables
spawn_kind : (e : Env) (k l : Kind) → captured_kind by_spawn e k ≡ Some l → (o : Owned) × (k ≡ own o) × (l ≡ own o)
spawn_kind e (own o) l h = let f : own o ≡ l = cc in (o, refl, sym f)
spawn_kind e (shared us) l h = cc
spawn_kind e (mutable us) l h = cc
spawn_kind e (view o) l h = cc

module _ (s : Whole Position) (t : Thread Position) (wrap : Position → Life Position) (goes : GoesOn wrap) (stands : thread_at s.threads t.number ≡ Some t) (u : ℕ) (none : thread_at s.threads u ≡ None) (ts : List Kind) (g k : Owned) (temps : List Value) (still : is_over t.life ≡ false) (gs : Gives) (E0 : KeyTypes) where
  abbrev state : Env → List Value → Env → List Value → Whole Position
  state e sl n new = two_state s t wrap goes stands u none ts g k temps e sl n new

  abbrev IsTyped : Env → List Value → Env → List Value → Type 0
  IsTyped e sl n new = (y : Typing) × PositionTypes y (plain_state (two_state s t wrap goes stands u none ts g k temps e sl n new)) × (y.gives ≡ gs) × NoneNew E0 y.exact

  copy : (e n : Env) (sl new : List Value) (c : Captured) (i : ℕ) (q l : Kind) → IsTyped e sl n new → MayPass by_spawn e c i q l → copies q ≡ true → read_blocked e i ≡ false → Copied by_spawn IsTyped e sl n new c i l
  copy e n sl new c i q l st may copied free =
      let o = spawn_kind e q l may.becomes in
      let type : type_at e (record { slot = i; depth = 0 }) ≡ found (whole (own o.0)) = may.is.is ∙ ap (λ b. found (whole b)) o.1 in
      let lt = named_below e c.name i may.is.named in
      let v = value_is s t wrap goes stands u none ts g k temps still st.0 e sl n new st.1 i o.0 lt type in
      let d = copy_typed s t wrap goes stands u none ts g k temps still st.0 e sl n new st.1 c.name i o.0 v.0 lt type v.1 (ap copies (sym o.1) ∙ copied) in
      record { value = Own v.0; is = v.1; stays = ap copies (o.2 ∙ sym o.1) ∙ copied; kept = subst (λ b. IsTyped e sl (captured_slot c b ∷ n) (Own v.0 ∷ new)) (sym o.2) (d.0, d.1, d.2 ∙ st.2, λ j b e. st.3 j b (d.3 j b e)) }

  move : (e n : Env) (sl new : List Value) (c : Captured) (i : ℕ) (q l : Kind) → IsTyped e sl n new → MayPass by_spawn e c i q l → copies q ≡ false → write_blocked e i ≡ false → Moved by_spawn IsTyped e sl n new c i q l
  move e n sl new c i q l st may moves free =
      let o = spawn_kind e q l may.becomes in
      let type : type_at e (record { slot = i; depth = 0 }) ≡ found (whole (own o.0)) = may.is.is ∙ ap (λ b. found (whole b)) o.1 in
      let lt = named_below e c.name i may.is.named in
      let v = value_is s t wrap goes stands u none ts g k temps still st.0 e sl n new st.1 i o.0 lt type in
      let d = take_typed s t wrap goes stands u none ts g k temps still st.0 e sl n new st.1 c.name i o.0 v.0 lt type v.1 free in
      record {
        value = Own v.0;
        is = v.1;
        goes = ap copies (o.2 ∙ sym o.1) ∙ moves;
        kept = subst (λ b. IsTyped (put_at e (record { slot = i; depth = 0 }) (gone b)) (with_slot sl i (Own plain.Nothing)) (captured_slot c l ∷ n) (Own v.0 ∷ new)) (sym o.1)
            (subst (λ b. IsTyped (put_at e (record { slot = i; depth = 0 }) (gone (own o.0))) (with_slot sl i (Own plain.Nothing)) (captured_slot c b ∷ n) (Own v.0 ∷ new)) (sym o.2) (d.0, d.1, d.2 ∙ st.2, λ j b e. st.3 j b (d.3 j b e)));
      }

  spawn_passing : Passing by_spawn IsTyped
  spawn_passing = record { copy = copy; move = move }

-- THE NEW THREAD

-- its result is of this type
pub with_result : Gives → ℕ → Owned → Gives
with_result g u k = record g { result = λ w. if w == u then k else g.result w }

pub result_new : (g : Gives) (u : ℕ) (k : Owned) → (with_result g u k).result u ≡ k
unfolding with_result
result_new g u k = eq_cases (λ b. (if b then k else g.result u) ≡ k) u u (λ e. refl) (λ ne. absurd (ne refl))

-- a result that is unit stays so
pub unit_still : (g : Gives) (u w : ℕ) → g.result w ≡ unit → (with_result g u unit).result w ≡ unit
unfolding with_result
unit_still g u w h = eq_cases (λ d. (if d then unit else g.result w) ≡ unit) w u (λ q. refl) (λ ne. h)

pub result_regives : (a : PlainState Position) (g : Gives) (u : ℕ) (k : Owned) → a.thread u ≡ None → KeepsNames a g (with_result g u k)
unfolding with_result
result_regives a g u k none = record {
  mutexes = λ m e. refl;
  results = λ w l e. eq_cases (λ b. (if b then k else g.result w) ≡ g.result w) w u (λ q. let f : None ≡ Some l = sym none ∙ ap a.thread (sym q) ∙ e in cc) (λ ne. refl);
}

module _ (s : Whole Position) (t : Thread Position) (p : Position) (wrap : Position → Life Position) (goes : GoesOn wrap) (stands : thread_at s.threads t.number ≡ Some t) (life : t.life ≡ wrap p) (u : ℕ) (none : thread_at s.threads u ≡ None) (e : Env) (ts : List Kind) (g k : Owned) (waits : wait ts ≡ true) (y : Typing) (at : At y (plain_state s) t.number (record { place = p; slots = t.slots }) e ts g) where
  abbrev a : PlainState Position
  a = plain_state s

  abbrev x : Running Position
  x = record { place = p; slots = t.slots }

  abbrev next : Whole Position
  next = two_state s t wrap goes stands u none ts g k p.temps e t.slots [] []

  abbrev x2 : Running Position
  x2 = record { place = record { entry = going e (own (task k) ∷ ts) g; temps = Own (plain.Task u) ∷ p.temps }; slots = t.slots }

  still : is_over t.life ≡ false
  still = ap is_over life ∙ not_over wrap goes p

  none_there : (plain_state s).thread u ≡ None
  none_there = ap running_in none

  abbrev y1 : Typing
  y1 = giving (with_result y.gives u k) y

  given_types : PositionTypes (giving (with_result y.gives u k) y) (plain_state s)
  given_types = regiven (with_result y.gives u k) y (plain_state s) at.state (result_regives (plain_state s) y.gives u k none_there)

  lifted : PositionTypes (ranked_by (lifted_slots 0 u y.rank) (giving (with_result y.gives u k) y)) (plain_state s)
  lifted = lifted_typed 0 (giving (with_result y.gives u k) y) (plain_state s) given_types u none_there

  -- under ranks that suit
  abbrev lifted_typing : Typing
  lifted_typing = ranked_by (lifted_slots 0 u y.rank) (giving (with_result y.gives u k) y)

  abbrev high : ℕ
  high = suc (lifted_typing.rank (slot_k t.number (length e)))

  abbrev y3 : Typing
  y3 = raised_typing high lifted_typing

  at_three : At y3 (plain_state s) t.number x e ts g
  at_three = record { state = raised high lifted_typing (plain_state s) lifted; runs = at.runs; entry = at.entry }

  focused : Focus y3 (plain_state s) t.number e ts None
  focused =
      let r = lifted.threads t.number x at.runs in
      focus y3 (plain_state s) t.number x e ts g at_three.state at.runs at.entry (room lifted_typing t.number e (record { differ = r.keys.differ; off = λ i z. absurd cc; ranks = r.keys.ranks })) ts None top_none (λ q. waits)

  now : (plain_state next).thread t.number ≡ with_running ((plain_state s).thread t.number) x2
  now =
      ap running_in (here s t wrap goes stands u none ts g k p.temps e t.slots [] []) ∙ goes_with wrap goes t.slots t.slots p x2.place
      ∙ ap (λ l. with_running (Some (running t.slots l)) x2) (sym life) ∙ ap (λ o. with_running (running_in o) x2) (sym stands)

  new : (plain_state next).thread u ≡ Some (owing (record { place = child_at s t wrap goes stands u none ts g k p.temps []; slots = [] }))
  new = ap running_in (there s t wrap goes stands u none ts g k p.temps e t.slots [] [])

  others : (w : ℕ) → w ≢ t.number → w ≢ u → (plain_state next).thread w ≡ (plain_state s).thread w
  others w nt nu = ap running_in (beyond s t wrap goes stands u none ts g k p.temps e t.slots [] [] w nt nu)

  keys : ThreadKeys (slot_k u) y3.rank (temp_k u 0)
  keys = record { differ = λ i j f. cc; off = λ i f. absurd cc; ranks = λ i j l. (lifted_keys 0 u 0 y.rank).ranks i j l }

  -- the new thread is there, and its task at hand
  pub spawned : (z : Typing) × PositionTypes z (plain_state next) × (z.gives ≡ with_result y.gives u k) × NoneNew y.exact z.exact
  spawned = (
    _,
    started_typed y3 (plain_state s) (plain_state next) t.number u x e ts g k (child_at s t wrap goes stands u none ts g k p.temps []) at_three focused none_there (result_new y.gives u k) keys refl refl now new others
        (pairs_by s next refl (over_same s t wrap goes stands u none ts g k p.temps e t.slots [] [] still))
        (λ m. refl) (λ m. refl) (λ o. refl) (objects_counted next),
    refl,
    none_owns y.exact (hand_at t.number ts) (task_tree (tree_of k)),
  )

-- THE ACT

record SpawnRow (x : Entry) (vs : List Value) (cs : List Capture) (body : Position) (l : Leaves) (z : Entry) : Type 0 where
  env : Env
  after : Env
  new : Env
  temps : List Kind
  result : Owned
  content : Owned
  names : List (ℕ × Bool)
  waits : wait temps ≡ true
  passing : SlotsPass by_spawn env [] names after new
  starts : StartsAs body (going new [] content)
  entry : x ≡ going env temps result
  is : cs ≡ captured names
  leaves : l ≡ loud vs
  comes : z ≡ going after (own (task content) ∷ temps) result

spawn_row : {x z : Entry} {vs : List Value} {cs : List Capture} {body : Position} {l : Leaves} → ActRow StartsAs x vs (do_spawn cs body) l z → SpawnRow x vs cs body l z
spawn_row (r_spawn {e = e} {e1 = e1} {n = n} {ts = ts} {g = g} {x = x} cs w pass starts) = record { env = e; after = e1; new = n; temps = ts; result = g; content = x; names = cs; waits = w; passing = pass; starts = starts; entry = refl; is = refl; leaves = refl; comes = refl }

module _ (now : Position → Now) (move : Position → Option (Move Position Position)) (y : Typing) (s : Whole Position) (t : Thread Position) (p : Position) (wrap : Position → Life Position) (plug : Value → Position) where
  spawn_steps : (cs : List Capture) (body : Position) (u : ℕ) → thread_at s.threads u ≡ None → Ready y s t p wrap (do_spawn cs body) plug → StepsTyped y (moves_by now move) s t (fresh.Thread u) (record { act = do_spawn cs body; plug = λ z. wrap (plug z) })
  spawn_steps cs body u none r =
      let i = spawn_row r.row in
      let at : At y (plain_state s) t.number (record { place = p; slots = t.slots }) i.env i.temps i.result = record { state = r.state; runs = runs_here s t p wrap r.goes_on r.found r.at; entry = i.entry } in
      let z = spawned s t p wrap r.goes_on r.found r.at u none i.env i.temps i.result i.content i.waits y at in
      let still : is_over t.life ≡ false = ap is_over r.at ∙ not_over wrap r.goes_on p in
      let gs = with_result y.gives u i.content in
      let d = all_pass by_spawn (IsTyped s t wrap r.goes_on r.found u none i.temps i.result i.content p.temps still gs y.exact) (spawn_passing s t wrap r.goes_on r.found u none i.temps i.result i.content p.temps still gs y.exact) i.env [] i.after i.new t.slots [] i.names z i.passing in
      let v : Value = Own (plain.Task u) in
      let q : Position = record { entry = going i.after (own (task i.content) ∷ i.temps) i.result; temps = v ∷ p.temps } in
      let m : Move Position (Life Position) = record { act = do_spawn cs body; plug = λ b. wrap (plug b) } in
      let child : Position = record { entry = going i.new [] i.content; temps = [] } in
      let same : body ≡ child = place_is body (going i.new [] i.content) i.starts in
      step_named now move s t wrap (fresh.Thread u) m plug v q (λ b. record s { threads = with_thread s.threads (record { number = t.number; life = b; slots = d.left }) ++ record { number = u; life = owing body; slots = d.news } ∷ [] }) (label.Start u ∷ []) y d.kept.0 r.goes_on
      (r.comes v ∙ ap₂ (λ a b. record { entry = a; temps = left_after b v }) i.comes i.leaves)
      (ap (λ b. started (moves_by now move) s t m (fresh.Thread u) body (λ slots. pass b slots [])) i.is
      ∙ ap (λ o. if is_some o then None else started_with (moves_by now move) s t m body u (pass (captured i.names) t.slots [])) none
      ∙ ap (started_with (moves_by now move) s t m body u) d.is)
      (subst (λ b. PositionTypes d.kept.0 (plain_state (record s { threads = with_thread s.threads (record { number = t.number; life = wrap q; slots = d.left }) ++ record { number = u; life = owing b; slots = d.news } ∷ [] }))) (sym same) d.kept.1)
      (subst (λ g. KeepsNames (plain_state s) y.gives g) (sym d.kept.2) (result_regives (plain_state s) y.gives u i.content (ap running_in none)))
      d.kept.3
    where
      place_is : (b : Position) (e : Entry) → (b.entry ≡ e) × (b.temps ≡ []) → b ≡ (record { entry = e; temps = [] })
      place_is b e h = ap₂ (λ c d. (let q : Position = record { entry = c; temps = d } in q)) h.0 h.1

-- a name that isn't refused is that of a thread that isn't there
new_name : (s : Whole Position) (names : Fresh) (cs : List Capture) (body : Position) → refused_names s (takes_of (do_spawn cs body)) names ≡ None → (u : ℕ) × (names ≡ fresh.Thread u) × (thread_at s.threads u ≡ None)
new_name s fresh.None cs body h = cc
new_name s (fresh.Threads u v) cs body h = cc
new_name s (fresh.Mutex m) cs body h = cc
new_name s (fresh.Thread u) cs body h = (u, refl, by (thread_at s.threads u) refl h)
  where
    by : (o : Option (Thread Position)) → thread_at s.threads u ≡ o → (if is_some o then Some name_used else None) ≡ None → thread_at s.threads u ≡ None
    by None e f = e
    by (Some x) e f = cc

pub spawn_keeps : KeepsNamed IsSpawn
spawn_keeps now move y s t p wrap act plug names h refused r =
    let q = new_name s names h.0 h.1 (subst (λ a. refused_names s (takes_of a) names ≡ None) h.2 refused) in
    subst (λ a. StepsTyped y (moves_by now move) s t names (record { act = a; plug = λ z. wrap (plug z) })) (sym h.2)
    (subst (λ b. StepsTyped y (moves_by now move) s t b (record { act = do_spawn h.0 h.1; plug = λ z. wrap (plug z) })) (sym q.1) (spawn_steps now move y s t p wrap plug h.0 h.1 q.0 q.2 (subst (λ a. Ready y s t p wrap a plug) h.2 r)))
