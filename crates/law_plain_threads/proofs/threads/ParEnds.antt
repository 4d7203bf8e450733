-- The end of a pair keeps a state typed.
use Rattle.std.proofs.Common.{◌≡◌, ◌≢◌, ⊎_elim, ◌∙◌, ap₂, ℕ, Bool, true, false, List, [], ◌∷◌, Option, Some, None, refl, sym, ap, subst}
use Rattle.std.specs.Prelude.{◌==◌, is_some, if◌then◌else◌}
use Rattle.fr_base.specs.declared.step.Fresh.TheVariants as fresh
use Rattle.fr_base.specs.declared.step.Wait.{Wait}
use Rattle.fr_base.specs.declared.step.Wait.TheVariants as wait_for
use Rattle.fr_typing.specs.Kinds.{Owned, Kind}
use Rattle.fr_typing.specs.Places.{Env}
use Rattle.fr_typing.proofs.PlaceLemmas.{eq_cases}
use Rattle.fr_store.proofs.Keys.{decide_number}
use Rattle.fr_plain.specs.declared.value.Value.{Value}
use Rattle.fr_plain.specs.MachineActs.{do_par_end, unit as unit_value}
use Rattle.fr_plain.specs.MachineThreads.{Now, Move, Life, over, ended, Thread, Pair, Whole, thread_at, with_thread, with_life, result_at, pair_of, without_pair, is_over}
use Rattle.fr_plain.specs.Machine.{unless_some, unless_both, pair_waits, act_waits, taken, goes_on, two_ended, two_joined}
use Rattle.fr_plain.specs.PlainState.{place_in, running, running_in, is_over_in, two_of, plain_state}
use Rattle.fr_plain.proofs.ByName.{put_in, put_at, put_off, found_number}
use Rattle.fr_sound.specs.Entries.{Entry, going, forked_at}
use Rattle.fr_sound.specs.States.{Typing}
use Rattle.law_plain_values.specs.acts.Positions.{Position, PositionTypes, moves_by, StartsAs}
use Rattle.law_plain_values.specs.acts.ActRows.{Leaves, quiet, left_after, ActRow, r_par_end}
use Rattle.law_plain_values.specs.acts.Keeps.{GoesOn, Ready, StepsTyped, KeepsUnlessWaiting}
use Rattle.law_plain_values.proofs.acts.OneThread.{with_running, runs_still}
use Rattle.law_plain_values.proofs.acts.Refs.{NoneNew, none_owns}
use Rattle.law_plain_values.proofs.acts.Done.{runs_here, step_by}
use Rattle.law_plain_threads.specs.threads.ThreadActs.{IsParEnd}
use Rattle.law_plain_values.proofs.acts.Threads.{objects_counted, goes_by, marks_to_by, marks_back_by}
use Rattle.law_plain_threads.proofs.threads.TwoStates.{goes_with}
use Rattle.law_plain_threads.proofs.threads.Joins.{Ended, ended_by}
use Rattle.law_plain_threads.proofs.threads.Woken.{woken_typed}
use Rattle.fr_store.specs.Rows.{with_type}
use Rattle.fr_store.specs.Typed.{owns, hole}
use Rattle.fr_store.specs.Keys.{result_k}

-- PAIRS

-- of other parents there are the pairs that there were
pairs_off : (ps : List Pair) (t u : ℕ) → t ≢ u → pair_of (without_pair ps t) u ≡ pair_of ps u
pairs_off [] t u e = refl
pairs_off (p ∷ ps) t u e =
    eq_cases (λ b. pair_of (if b then without_pair ps t else p ∷ without_pair ps t) u ≡ (if p.parent == u then Some p else pair_of ps u)) p.parent t
    (λ f. eq_cases (λ b. pair_of (without_pair ps t) u ≡ (if b then Some p else pair_of ps u)) p.parent u (λ g. absurd (e (sym f ∙ g))) (λ _. pairs_off ps t u e))
    (λ _. eq_cases (λ b. (if b then Some p else pair_of (without_pair ps t) u) ≡ (if b then Some p else pair_of ps u)) p.parent u (λ _. refl) (λ _. pairs_off ps t u e))

pairs_gone : (ps : List Pair) (t : ℕ) → pair_of (without_pair ps t) t ≡ None
pairs_gone [] t = refl
pairs_gone (p ∷ ps) t =
    eq_cases (λ b. pair_of (if b then without_pair ps t else p ∷ without_pair ps t) t ≡ None) p.parent t (λ _. pairs_gone ps t)
    (λ ne. eq_cases (λ b. (if b then Some p else pair_of (without_pair ps t) t) ≡ None) p.parent t (λ e. absurd (ne e)) (λ _. pairs_gone ps t))

-- THREADS

module _ (ts : List (Thread Position)) (n b c : ℕ) (t zb zc new : Thread Position) (bn : b ≢ n) (cn : c ≢ n) (bc : b ≢ c) (named : new.number ≡ n) (known_b : zb.number ≡ b) (known_c : zc.number ≡ c) (found : thread_at ts n ≡ Some t) (found_b : thread_at ts b ≡ Some zb) (found_c : thread_at ts c ≡ Some zc) where
  abbrev one : List (Thread Position)
  one = with_thread ts (with_life zb over)

  abbrev two : List (Thread Position)
  two = with_thread (with_thread ts (with_life zb over)) (with_life zc over)

  three_here : thread_at (with_thread two new) n ≡ Some new
  three_here = put_at two new n named ∙ ap (put_in new) (put_off one (with_life zc over) n (λ f. cn (sym known_c ∙ f)) ∙ put_off ts (with_life zb over) n (λ f. bn (sym known_b ∙ f)) ∙ found)

  three_first : thread_at (with_thread two new) b ≡ Some (with_life zb over)
  three_first = put_off two new b (λ f. bn (sym f ∙ named)) ∙ put_off one (with_life zc over) b (λ f. bc (sym f ∙ known_c)) ∙ put_at ts (with_life zb over) b known_b ∙ ap (put_in (with_life zb over)) found_b

  three_second : thread_at (with_thread two new) c ≡ Some (with_life zc over)
  three_second = put_off two new c (λ f. cn (sym f ∙ named)) ∙ put_at one (with_life zc over) c known_c ∙ ap (put_in (with_life zc over)) (put_off ts (with_life zb over) c (λ f. bc (sym known_b ∙ f)) ∙ found_c)

  three_off : (w : ℕ) → w ≢ n → w ≢ b → w ≢ c → thread_at (with_thread two new) w ≡ thread_at ts w
  three_off w wn wb wc = put_off two new w (λ f. wn (sym f ∙ named)) ∙ put_off one (with_life zc over) w (λ f. wc (sym f ∙ known_c)) ∙ put_off ts (with_life zb over) w (λ f. wb (sym f ∙ known_b))

-- both have a result
both_of : (o p : Option Value) (w : Wait) → unless_both o p w ≡ None → ((v : Value) × (o ≡ Some v)) × ((v : Value) × (p ≡ Some v))
both_of None None w e = cc
both_of None (Some v) w e = cc
both_of (Some v) None w e = cc
both_of (Some v) (Some u) w e = ((v, refl), (u, refl))

-- the pair for which a thread waits
record PairFound (s : Whole Position) (n : ℕ) : Type 0 where
  pair : Pair
  is : pair_of s.pairs n ≡ Some pair
  shown : (plain_state s).pair n ≡ Some (pair.first, pair.second)

pair_found : (s : Whole Position) (n : ℕ) → is_over_in (thread_at s.threads n) ≡ false → true ≡ is_some ((plain_state s).pair n) → PairFound s n
pair_found s n goes some = by (pair_of s.pairs n) refl
  where
    shows : (plain_state s).pair n ≡ two_of (pair_of s.pairs n)
    shows = ap (λ (b : Bool). if b then None else two_of (pair_of s.pairs n)) goes

    by : (o : Option Pair) → pair_of s.pairs n ≡ o → PairFound s n
    by None e = let f : true ≡ false = some ∙ ap is_some (shows ∙ ap two_of e) in cc
    by (Some p) e = record { pair = p; is = e; shown = shows ∙ ap two_of e }

module _ (s : Whole Position) (t : Thread Position) (p : Position) (wrap : Position → Life Position) (goes : GoesOn wrap) (stands : thread_at s.threads t.number ≡ Some t) (life : t.life ≡ wrap p) (e : Env) (ts : List Kind) (g : Owned) (y : Typing) (st : PositionTypes y (plain_state s)) (runs : place_in ((plain_state s).thread t.number) ≡ Some (record { place = p; slots = t.slots })) (entry : p.entry ≡ forked_at e ts g)
    (f : PairFound s t.number) (db : Ended s.threads f.pair.first) (dc : Ended s.threads f.pair.second) where
  abbrev n : ℕ
  n = t.number

  abbrev b : ℕ
  b = f.pair.first

  abbrev c : ℕ
  c = f.pair.second

  abbrev after : Position
  after = record { entry = going e ts g; temps = p.temps }

  abbrev new : Thread Position
  new = record { number = t.number; life = wrap after; slots = t.slots }

  abbrev next : Whole Position
  next = record s { threads = with_thread (with_thread (with_thread s.threads (with_life db.thread over)) (with_life dc.thread over)) new; pairs = without_pair s.pairs t.number }

  was_b : (plain_state s).thread f.pair.first ≡ Some (ended db.value)
  was_b = ap running_in db.found ∙ ap (λ l. Some (running db.thread.slots l)) db.life

  was_c : (plain_state s).thread f.pair.second ≡ Some (ended dc.value)
  was_c = ap running_in dc.found ∙ ap (λ l. Some (running dc.thread.slots l)) dc.life

  apart : (w : ℕ) (v : Value) → (plain_state s).thread w ≡ Some (ended v) → w ≢ t.number
  apart w v was q = let z : None ≡ Some (record { place = p; slots = t.slots }) = sym (ap place_in was) ∙ ap (λ d. place_in ((plain_state s).thread d)) q ∙ runs in cc

  bn : f.pair.first ≢ t.number
  bn = apart f.pair.first db.value was_b

  cn : f.pair.second ≢ t.number
  cn = apart f.pair.second dc.value was_c

  bc : f.pair.first ≢ f.pair.second
  bc = (st.pairs t.number f.pair.first f.pair.second f.shown).0

  known_b : db.thread.number ≡ f.pair.first
  known_b = found_number s.threads f.pair.first db.thread db.found

  known_c : dc.thread.number ≡ f.pair.second
  known_c = found_number s.threads f.pair.second dc.thread dc.found

  here : thread_at next.threads t.number ≡ Some new
  here = three_here s.threads t.number f.pair.first f.pair.second t db.thread dc.thread new bn cn bc refl known_b known_c stands db.found dc.found

  now_b : thread_at next.threads f.pair.first ≡ Some (with_life db.thread over)
  now_b = three_first s.threads t.number f.pair.first f.pair.second t db.thread dc.thread new bn cn bc refl known_b known_c stands db.found dc.found

  now_c : thread_at next.threads f.pair.second ≡ Some (with_life dc.thread over)
  now_c = three_second s.threads t.number f.pair.first f.pair.second t db.thread dc.thread new bn cn bc refl known_b known_c stands db.found dc.found

  off : (w : ℕ) → w ≢ t.number → w ≢ f.pair.first → w ≢ f.pair.second → thread_at next.threads w ≡ thread_at s.threads w
  off = three_off s.threads t.number f.pair.first f.pair.second t db.thread dc.thread new bn cn bc refl known_b known_c stands db.found dc.found

  now : (plain_state next).thread t.number ≡ with_running ((plain_state s).thread t.number) (record { place = after; slots = t.slots })
  now = ap running_in here ∙ goes_with wrap goes t.slots t.slots p after ∙ ap (λ l. with_running (Some (running t.slots l)) (record { place = after; slots = t.slots })) (sym life) ∙ ap (λ o. with_running (running_in o) (record { place = after; slots = t.slots })) (sym stands)

  runs_two : place_in ((plain_state next).thread t.number) ≡ Some (record { place = after; slots = t.slots })
  runs_two = ap place_in now ∙ runs_still ((plain_state s).thread t.number) (record { place = p; slots = t.slots }) (record { place = after; slots = t.slots }) runs

  -- each other thread goes on as it did, and is over where it was
  by_two : (P : ℕ → Type 0) (w : ℕ) → P f.pair.first → P f.pair.second → (w ≢ f.pair.first → w ≢ f.pair.second → P w) → P w
  by_two P w pb pc rest = ⊎_elim (λ (q : w ≡ f.pair.first). subst P (sym q) pb) (λ (wb : w ≢ f.pair.first). ⊎_elim (λ (q : w ≡ f.pair.second). subst P (sym q) pc) (λ (wc : w ≢ f.pair.second). rest wb wc) (decide_number w f.pair.second)) (decide_number w f.pair.first)

  places : (w : ℕ) → w ≢ t.number → place_in ((plain_state next).thread w) ≡ place_in ((plain_state s).thread w)
  places w wn =
      by_two (λ v. place_in ((plain_state next).thread v) ≡ place_in ((plain_state s).thread v)) w (ap (λ o. place_in (running_in o)) now_b ∙ sym (ap place_in was_b)) (ap (λ o. place_in (running_in o)) now_c ∙ sym (ap place_in was_c))
      (λ wb wc. ap (λ o. place_in (running_in o)) (off w wn wb wc))

  overs : (w : ℕ) → w ≢ t.number → is_over_in (thread_at next.threads w) ≡ is_over_in (thread_at s.threads w)
  overs w wn =
      by_two (λ v. is_over_in (thread_at next.threads v) ≡ is_over_in (thread_at s.threads v)) w (ap is_over_in now_b ∙ sym (ap is_over_in db.found ∙ ap is_over db.life)) (ap is_over_in now_c ∙ sym (ap is_over_in dc.found ∙ ap is_over dc.life))
      (λ wb wc. ap is_over_in (off w wn wb wc))

  pairs : (w : ℕ) → w ≢ t.number → (plain_state next).pair w ≡ (plain_state s).pair w
  pairs w wn = ap (λ (d : Bool). if d then None else two_of (pair_of (without_pair s.pairs t.number) w)) (overs w wn) ∙ ap (λ o. if is_over_in (thread_at s.threads w) then None else two_of o) (pairs_off s.pairs t.number w (λ q. wn (sym q)))

  free : (plain_state next).pair t.number ≡ None
  free = ap (λ (d : Bool). if d then None else two_of (pair_of (without_pair s.pairs t.number) t.number)) (goes_by (thread_at next.threads t.number) (record { place = after; slots = t.slots }) runs_two) ∙ ap two_of (pairs_gone s.pairs t.number)

  end_state : (z : Typing) × PositionTypes z (plain_state next) × (z.gives ≡ y.gives) × NoneNew y.exact z.exact
  end_state = (
    _,
    woken_typed y (plain_state s) (plain_state next) st t.number f.pair.first f.pair.second (record { place = p; slots = t.slots }) e ts g db.value dc.value runs entry f.shown was_b was_c now (ap running_in now_b) (ap running_in now_c) (λ w wn wb wc. ap running_in (off w wn wb wc)) free pairs
        (record {
          mutexes = λ m. refl;
          given = λ m. refl;
          objects = λ o. refl;
          marks_to = marks_to_by (plain_state s) (plain_state next) t.number (record { place = p; slots = t.slots }) (record { place = after; slots = t.slots }) runs runs_two refl places;
          marks_back = marks_back_by (plain_state s) (plain_state next) t.number (record { place = p; slots = t.slots }) (record { place = after; slots = t.slots }) runs runs_two refl places;
          made = objects_counted next;
        }),
    refl,
    λ j b r. none_owns y.exact (result_k f.pair.first) hole j b (none_owns (with_type y.exact (result_k f.pair.first) (owns hole)) (result_k f.pair.second) hole j b r),
  )

-- THE ACT

record ParEndRow (x : Entry) (vs : List Value) (l : Leaves) (z : Entry) : Type 0 where
  env : Env
  temps : List Kind
  result : Owned
  entry : x ≡ forked_at env temps result
  leaves : l ≡ quiet vs
  comes : z ≡ going env temps result

par_end_row : {x z : Entry} {vs : List Value} {l : Leaves} → ActRow StartsAs x vs do_par_end l z → ParEndRow x vs l z
par_end_row (r_par_end {e = e} {ts = ts} {g = g}) = record { env = e; temps = ts; result = g; entry = refl; leaves = refl; comes = refl }

module _ (moving : Position → Now) (move : Position → Option (Move Position Position)) (y : Typing) (s : Whole Position) (t : Thread Position) (p : Position) (wrap : Position → Life Position) (plug : Value → Position) where
  par_end_steps : act_waits s t do_par_end ≡ None → Ready y s t p wrap do_par_end plug → StepsTyped y (moves_by moving move) s t fresh.None (record { act = do_par_end; plug = λ z. wrap (plug z) })
  par_end_steps waits r =
      let i = par_end_row r.row in
      let runs = runs_here s t p wrap r.goes_on r.found r.at in
      let run = r.state.threads t.number (record { place = p; slots = t.slots }) runs in
      let forks = sym (ap (λ (z : Entry). z.forked) (sym run.known ∙ i.entry)) ∙ run.forks in
      let f = pair_found s t.number (goes_by (thread_at s.threads t.number) (record { place = p; slots = t.slots }) runs) forks in
      let w = wait_for.Par f.pair.first f.pair.second in
      let d = both_of (result_at s.threads f.pair.first) (result_at s.threads f.pair.second) w (ap (pair_waits s) (sym f.is) ∙ waits) in
      let db = ended_by s.threads f.pair.first w (ap (λ o. unless_some o w) d.0.1) in
      let dc = ended_by s.threads f.pair.second w (ap (λ o. unless_some o w) d.1.1) in
      let z = end_state s t p wrap r.goes_on r.found r.at i.env i.temps i.result y r.state runs i.entry f db dc in
      let m : Move Position (Life Position) = record { act = do_par_end; plug = λ q. wrap (plug q) } in
      step_by moving move s t wrap m plug unit_value (record { entry = going i.env i.temps i.result; temps = p.temps })
      (λ l. record s { threads = with_thread (with_thread (with_thread s.threads (with_life db.thread over)) (with_life dc.thread over)) (record { number = t.number; life = l; slots = t.slots }); pairs = without_pair s.pairs t.number }) [] y z.0 r.goes_on
      (r.comes unit_value ∙ ap₂ (λ a k. record { entry = a; temps = left_after k unit_value }) i.comes i.leaves)
      (ap (two_joined (moves_by moving move) s t m) f.is ∙ ap₂ (two_ended (moves_by moving move) s t m f.pair) d.0.1 d.1.1
      ∙ ap₂ (λ o q. Some (record { state = record (goes_on (moves_by moving move) (record s { threads = taken (moves_by moving move) (taken (moves_by moving move) s.threads o) q }) t m unit_value t.slots) { pairs = without_pair s.pairs t.number }; labels = [] })) db.found dc.found)
      z.1
      z.2
      z.3

pub par_end_keeps : KeepsUnlessWaiting IsParEnd
par_end_keeps moving move y s t p wrap act plug h waits r = subst (λ a. StepsTyped y (moves_by moving move) s t fresh.None (record { act = a; plug = λ z. wrap (plug z) })) (sym h) (par_end_steps moving move y s t p wrap plug (subst (λ a. act_waits s t a ≡ None) h waits) (subst (λ a. Ready y s t p wrap a plug) h r))
