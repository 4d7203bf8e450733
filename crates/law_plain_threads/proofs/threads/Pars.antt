-- Starting a pair keeps a state typed: first both threads are there without slots and their parent waits, and then the captures go slot by slot.
use Rattle.std.proofs.Common.{◌≡◌, ◌≢◌, ◌⊎◌, inl, inr, ⊎_elim, ◌∙◌, ap₂, ℕ, suc, ◌<◌, Bool, true, false, List, [], ◌∷◌, ◌++◌, length, Option, Some, None, refl, sym, ap, subst, arith}
use Rattle.std.specs.Prelude.{◌==◌, ◌||◌, is_some, if◌then◌else◌}
use Rattle.fr_base.specs.declared.label.Label.TheVariants as label
use Rattle.fr_base.specs.declared.step.Fresh.{Fresh}
use Rattle.fr_base.specs.declared.step.Fresh.TheVariants as fresh
use Rattle.fr_typing.specs.Kinds.{Owned, unit, Kind}
use Rattle.fr_typing.specs.Places.{Env}
use Rattle.fr_typing.specs.Captures.{by_par}
use Rattle.fr_typing.proofs.PlaceLemmas.{eq_cases}
use Rattle.fr_store.specs.Keys.{Key, slot_k, temp_k}
use Rattle.fr_store.specs.Store.{Place}
use Rattle.fr_store.specs.Typed.{hole, owns, refers}
use Rattle.fr_store.specs.Thread.{ThreadKeys, OwnOrForeign}
use Rattle.fr_plain.specs.declared.value.Value.{Value}
use Rattle.fr_plain.specs.MachineActs.{Capture, do_par, unit as unit_value}
use Rattle.fr_plain.specs.MachineThreads.{Now, Move, Life, owing, Thread, Whole, thread_at, with_thread, is_over, is_given, pass}
use Rattle.fr_plain.specs.Machine.{two_threads, takes_of, refused_names, two_with, second_of, name_used}
use Rattle.fr_plain.specs.PlainState.{Running, PlainState, place_in, running, running_in, plain_state}
use Rattle.fr_sound.specs.Entries.{Entry, going, forked_at}
use Rattle.fr_sound.specs.Seen.{Gives}
use Rattle.fr_sound.specs.States.{Typing, WaitsFor, IsKept, IsBranch}
use Rattle.fr_code.specs.CodeTypes.{wait, SlotsPass}
use Rattle.fr_code.specs.Steps.{captured}
use Rattle.law_plain_values.specs.acts.Positions.{Position, PositionTypes, moves_by, StartsAs}
use Rattle.law_plain_values.specs.acts.ActRows.{Leaves, quiet, left_after, ActRow, r_par}
use Rattle.law_plain_values.specs.acts.Keeps.{GoesOn, Ready, KeepsNames, StepsTyped, KeepsNamed}
use Rattle.law_plain_values.proofs.acts.OneThread.{with_running}
use Rattle.law_plain_values.proofs.acts.Raised.{ranked_by, raised_typing}
use Rattle.law_plain_values.proofs.acts.Focus.{top_none, Focus}
use Rattle.law_plain_values.proofs.acts.Slots.{focus_at}
use Rattle.law_plain_values.proofs.acts.Hand.{At}
use Rattle.law_plain_values.proofs.acts.Refs.{NoneNew}
use Rattle.law_plain_values.proofs.acts.Done.{names_then, runs_here, step_named}
use Rattle.law_plain_values.proofs.acts.Regiven.{giving, regiven}
use Rattle.law_plain_values.proofs.acts.Threads.{objects_counted}
use Rattle.law_plain_values.proofs.acts.Fresh.{climb_above, lifted_slots, lifted_here, lifted_other, lifted_keys, lifted_typed, not_kept}
use Rattle.law_plain_threads.specs.threads.ThreadActs.{IsPar}
use Rattle.law_plain_threads.proofs.threads.TwoStates.{goes_with, not_over}
use Rattle.law_plain_threads.proofs.threads.Spawns.{with_result, result_new, unit_still, result_regives}
use Rattle.law_plain_threads.proofs.threads.Paired.{reordered, paired_typed}
use Rattle.law_plain_threads.proofs.threads.ThreeStates.{three_state, not_parent, three_here, three_one, three_two, three_beyond, three_runs, three_pair, three_pairs, first_family, second_family}
use Rattle.law_plain_threads.proofs.threads.Given.{Refers}
use Rattle.law_plain_threads.proofs.threads.Forked.{Forked}
use Rattle.law_plain_threads.proofs.threads.AllPass.{all_pass}
use Rattle.law_plain_threads.proofs.threads.ForkedPasses.{swapped, IsForked, forked_passing}

-- WHAT BOTH RESULTS ARE, and how many wait above the two

pub order_with : (ℕ → ℕ) → ℕ → ℕ → ℕ → ℕ → ℕ
order_with f t b c w = if w == b || w == c then suc (f t) else f w

order_off : (f : ℕ → ℕ) (t b c w : ℕ) → w ≢ b → w ≢ c → order_with f t b c w ≡ f w
unfolding order_with
order_off f t b c w nb nc = eq_cases (λ d. (if d || w == c then suc (f t) else f w) ≡ f w) w b (λ q. absurd (nb q)) (λ z. eq_cases (λ d. (if d then suc (f t) else f w) ≡ f w) w c (λ q. absurd (nc q)) (λ q. refl))

order_first : (f : ℕ → ℕ) (t b c : ℕ) → order_with f t b c b ≡ suc (f t)
unfolding order_with
order_first f t b c = eq_cases (λ d. (if d || b == c then suc (f t) else f b) ≡ suc (f t)) b b (λ q. refl) (λ ne. absurd (ne refl))

order_second : (f : ℕ → ℕ) (t b c : ℕ) → order_with f t b c c ≡ suc (f t)
unfolding order_with
order_second f t b c = eq_cases (λ d. (if c == b || d then suc (f t) else f c) ≡ suc (f t)) c c (λ q. or_true (c == b)) (λ ne. absurd (ne refl))
  where
    or_true : (d : Bool) → (if d || true then suc (f t) else f c) ≡ suc (f t)
    or_true true = refl
    or_true false = refl

module _ (s : Whole Position) (t : Thread Position) (p : Position) (wrap : Position → Life Position) (goes : GoesOn wrap) (stands : thread_at s.threads t.number ≡ Some t) (life : t.life ≡ wrap p) (b c : ℕ) (none_b : thread_at s.threads b ≡ None) (none_c : thread_at s.threads c ≡ None) (differ : b ≢ c)
    (e : Env) (ts : List Kind) (g : Owned) (waits : wait ts ≡ true) (y : Typing) (at : At y (plain_state s) t.number (record { place = p; slots = t.slots }) e ts g) where
  abbrev a : PlainState Position
  a = plain_state s

  abbrev x : Running Position
  x = record { place = p; slots = t.slots }

  pub still : is_over t.life ≡ false
  still = ap is_over life ∙ not_over wrap goes p

  abbrev next : Whole Position
  next = three_state s t wrap goes stands still b c none_b none_c differ ts g p.temps e t.slots [] [] [] []

  abbrev a2 : PlainState Position
  a2 = plain_state (three_state s t wrap goes stands still b c none_b none_c differ ts g p.temps e t.slots [] [] [] [])

  abbrev x2 : Running Position
  x2 = record { place = record { entry = forked_at e ts g; temps = p.temps }; slots = t.slots }

  abbrev branch : Position
  branch = record { entry = going [] [] unit; temps = [] }

  gone_b : (plain_state s).thread b ≡ None
  gone_b = ap running_in none_b

  gone_c : (plain_state s).thread c ≡ None
  gone_c = ap running_in none_c

  -- THE TYPES

  abbrev g1 : Gives
  g1 = with_result y.gives b unit

  abbrev g2 : Gives
  g2 = with_result (with_result y.gives b unit) c unit

  abbrev y1 : Typing
  y1 = giving (with_result y.gives b unit) y

  abbrev y2 : Typing
  y2 = giving (with_result (with_result y.gives b unit) c unit) (giving (with_result y.gives b unit) y)

  abbrev y3 : Typing
  y3 = record y2 { order = order_with y.order t.number b c }

  abbrev base : ℕ
  base = suc (y.rank (slot_k t.number (length e)))

  abbrev y4 : Typing
  y4 = ranked_by (lifted_slots base b y3.rank) y3

  abbrev y5 : Typing
  y5 = ranked_by (lifted_slots base c y4.rank) y4

  st2 : PositionTypes y2 a
  st2 = regiven g2 y1 a (regiven g1 y a at.state (result_regives a y.gives b unit gone_b)) (result_regives a g1 c unit gone_c)

  -- whoever waits, and for whom, was there
  st3 : PositionTypes y3 a
  st3 = reordered (order_with y.order t.number b c) y2 a st2 rises
    where
      old : (w : ℕ) → IsKept ((plain_state s).thread w) → (w ≢ b) × (w ≢ c)
      old w k = (λ q. not_kept y2 a st2 b gone_b (subst (λ z. IsKept ((plain_state s).thread z)) q k), λ q. not_kept y2 a st2 c gone_c (subst (λ z. IsKept ((plain_state s).thread z)) q k))

      runs : (w : ℕ) (z : Running Position) → place_in ((plain_state s).thread w) ≡ Some z → (w ≢ b) × (w ≢ c)
      runs w z h = (
        λ q. let f : None ≡ Some z = sym (ap place_in gone_b) ∙ ap (λ v. place_in ((plain_state s).thread v)) (sym q) ∙ h in cc,
        λ q. let f : None ≡ Some z = sym (ap place_in gone_c) ∙ ap (λ v. place_in ((plain_state s).thread v)) (sym q) ∙ h in cc,
      )

      rises : (q w : ℕ) → WaitsFor a q w → y2.order q < y2.order w → order_with y.order t.number b c q < order_with y.order t.number b c w
      rises q w h l =
          let d = st2.parents q h.first h.second h.pair in
          let o = runs q d.0 d.1 in
          let k = old w (kept (st2.pairs q h.first h.second h.pair) h.one) in
          let i = order_off y.order t.number b c q o.0 o.1 in
          let j = order_off y.order t.number b c w k.0 k.1 in
          omega (arith, l, i, j)
        where
          kept : (h.first ≢ h.second) × IsBranch y2 a q h.first × IsBranch y2 a q h.second → (w ≡ h.first) ⊎ (w ≡ h.second) → IsKept ((plain_state s).thread w)
          kept r (inl f) = subst (λ z. IsKept ((plain_state s).thread z)) (sym f) r.1.kept
          kept r (inr f) = subst (λ z. IsKept ((plain_state s).thread z)) (sym f) r.2.kept

  st5 : PositionTypes y5 a
  st5 = lifted_typed base y4 a (lifted_typed base y3 a st3 b gone_b) c gone_c

  at5 : At y5 a t.number x e ts g
  at5 = record { state = st5; runs = at.runs; entry = at.entry }

  -- RANKS

  rank_parent : (i : ℕ) → y5.rank (slot_k t.number i) ≡ y.rank (slot_k t.number i)
  rank_parent i =
      lifted_other base c y4.rank t.number i (λ q. not_parent s t wrap goes stands still b c none_b none_c differ ts g p.temps c none_c (sym q))
      ∙ lifted_other base b y3.rank t.number i (λ q. not_parent s t wrap goes stands still b c none_b none_c differ ts g p.temps b none_b (sym q))

  rank_first : (i : ℕ) → y5.rank (slot_k b i) ≡ y4.rank (slot_k b i)
  rank_first i = lifted_other base c y4.rank b i differ

  keys_first : ThreadKeys (slot_k b) y5.rank (temp_k b 0)
  keys_first = record { differ = λ i j q. cc; off = λ i q. absurd cc; ranks = λ i j l. let r = (lifted_keys base b 0 y3.rank).ranks i j l in let d = rank_first i in let f = rank_first j in omega (arith, r, d, f) }

  keys_second : ThreadKeys (slot_k c) y5.rank (temp_k c 0)
  keys_second = record { differ = λ i j q. cc; off = λ i q. absurd cc; ranks = λ i j l. (lifted_keys base c 0 y4.rank).ranks i j l }

  parent_low : (i : ℕ) → i < length e → y.rank (slot_k t.number i) < base
  parent_low i l = let r = (at.state.threads t.number x at.runs).keys.ranks i (length e) l in omega (arith, r)

  low_first : (i k : ℕ) → i < length e → y5.rank (slot_k t.number i) < y5.rank (slot_k b k)
  low_first i k l = let r = parent_low i l in let d = rank_parent i in let f = rank_first k ∙ lifted_here base b y3.rank k in let h = climb_above base (λ j. y3.rank (slot_k b j)) k in omega (arith, r, d, f, h)

  low_second : (i k : ℕ) → i < length e → y5.rank (slot_k t.number i) < y5.rank (slot_k c k)
  low_second i k l = let r = parent_low i l in let d = rank_parent i in let f = lifted_here base c y4.rank k in let h = climb_above base (λ j. y4.rank (slot_k c j)) k in omega (arith, r, d, f, h)

  -- WHAT IS THERE THEN

  runs_two : place_in ((plain_state next).thread t.number) ≡ Some x2
  runs_two = three_runs s t wrap goes stands still b c none_b none_c differ ts g p.temps e t.slots [] [] [] []

  now_here : a2.thread t.number ≡ with_running (a.thread t.number) x2
  now_here =
      ap running_in (three_here s t wrap goes stands still b c none_b none_c differ ts g p.temps e t.slots [] [] [] []) ∙ goes_with wrap goes t.slots t.slots p x2.place
      ∙ ap (λ l. with_running (Some (running t.slots l)) x2) (sym life) ∙ ap (λ o. with_running (running_in o) x2) (sym stands)

  now_first : a2.thread b ≡ Some (owing (record { place = branch; slots = [] }))
  now_first = ap running_in (three_one s t wrap goes stands still b c none_b none_c differ ts g p.temps e t.slots [] [] [] [])

  now_second : a2.thread c ≡ Some (owing (record { place = branch; slots = [] }))
  now_second = ap running_in (three_two s t wrap goes stands still b c none_b none_c differ ts g p.temps e t.slots [] [] [] [])

  others : (w : ℕ) → w ≢ t.number → w ≢ b → w ≢ c → a2.thread w ≡ a.thread w
  others w nt nb nc = ap running_in (three_beyond s t wrap goes stands still b c none_b none_c differ ts g p.temps e t.slots [] [] [] [] w nt nb nc)

  pair : a2.pair t.number ≡ Some (b, c)
  pair = three_pair s t wrap goes stands still b c none_b none_c differ ts g p.temps e t.slots [] [] [] []

  typed_two : PositionTypes y5 a2
  typed_two =
      paired_typed y5 a a2 t.number b c x e ts g branch branch at5 gone_b gone_c differ (unit_still g1 c b (result_new y.gives b unit)) (result_new g1 c unit)
      (let f = order_off y.order t.number b c t.number (λ q. not_parent s t wrap goes stands still b c none_b none_c differ ts g p.temps b none_b (sym q)) (λ q. not_parent s t wrap goes stands still b c none_b none_c differ ts g p.temps c none_c (sym q)) in let h = order_first y.order t.number b c in omega (arith, f, h))
      (let f = order_off y.order t.number b c t.number (λ q. not_parent s t wrap goes stands still b c none_b none_c differ ts g p.temps b none_b (sym q)) (λ q. not_parent s t wrap goes stands still b c none_b none_c differ ts g p.temps c none_c (sym q)) in let h = order_second y.order t.number b c in omega (arith, f, h))
      keys_first keys_second refl refl refl refl now_here now_first now_second others pair
      (three_pairs s t wrap goes stands still b c none_b none_c differ ts g p.temps e t.slots [] [] [] []) (λ m. refl) (λ m. refl) (λ o. refl) (objects_counted next)

  -- BOTH ARE THERE, without slots; nobody names the parent's slots but itself
  pub forked : Forked y5 a2 t.number b c x2 (record { place = branch; slots = [] }) (record { place = branch; slots = [] }) e [] [] ts g
  forked = record {
    state = typed_two;
    runs = runs_two;
    entry = refl;
    idle = waits;
    first = record { state = typed_two; runs = ap place_in now_first; entry = refl };
    second = record { state = typed_two; runs = ap place_in now_second; entry = refl };
    differ = not_parent s t wrap goes stands still b c none_b none_c differ ts g p.temps b none_b;
    other = not_parent s t wrap goes stands still b c none_b none_c differ ts g p.temps c none_c;
    apart = λ q. differ (sym q);
    waits = record { first = b; second = c; pair = pair; one = inl refl };
    waits_other = record { first = b; second = c; pair = pair; one = inr refl };
    only = only;
    foreign = foreign;
    low = low_first;
    low_other = low_second;
  }
    where
      only : (v : ℕ) → WaitsFor a2 t.number v → (v ≡ b) ⊎ (v ≡ c)
      only v h =
          let mine : ℕ × ℕ = (b, c) in
          let two : ℕ × ℕ = (h.first, h.second) in
          let f : mine ≡ two = some_pair (sym pair ∙ h.pair) in
          ⊎_elim (λ (q : v ≡ h.first). inl (q ∙ sym (ap (λ (z : ℕ × ℕ). z.0) f))) (λ (q : v ≡ h.second). inr (q ∙ sym (ap (λ (z : ℕ × ℕ). z.1) f))) h.one
        where
          some_pair : {q r : ℕ × ℕ} → Some q ≡ Some r → q ≡ r
          some_pair i = cc

      fc : Focus (raised_typing (suc (y5.rank (slot_k t.number (length e)))) y5) a t.number e ts None
      fc = focus_at y5 a t.number x e ts ts None g at5 top_none waits

      foreign : (j : Key) (q : Bool) (z : Place) → y5.exact j ≡ refers q z → ((i : ℕ) × (i < length e) × (j ≡ slot_k t.number i)) ⊎ ((k : ℕ) → z.key ≡ slot_k t.number k → (q ≡ false) × Refers (y5.exact (slot_k t.number k)))
      foreign j q z is = by (fc.thread.alone j q z is (λ r. let f : owns hole ≡ refers q z = sym fc.thread.temp ∙ ap y5.exact (sym r) ∙ is in cc))
        where
          by : OwnOrForeign (slot_k t.number) e j z → ((i : ℕ) × (i < length e) × (j ≡ slot_k t.number i)) ⊎ ((k : ℕ) → z.key ≡ slot_k t.number k → (q ≡ false) × Refers (y5.exact (slot_k t.number k)))
          by (inl r) = inl r
          by (inr r) = inr (λ k d. absurd (r k d))

  -- BOTH LISTS

  pub record BothPass (cs ds : List (ℕ × Bool)) (e2 n m : Env) : Type 0 where
    pub between : List Value
    pub left : List Value
    pub new : List Value
    pub newer : List Value
    pub first : pass (captured cs) t.slots [] ≡ Some (record { left = between; new = new })
    pub second : pass (captured ds) between [] ≡ Some (record { left = left; new = newer })
    pub typing : Typing
    pub names : typing.gives ≡ with_result (with_result y.gives b unit) c unit
    pub refs : NoneNew y.exact typing.exact
    pub typed : PositionTypes typing (plain_state (three_state s t wrap goes stands still b c none_b none_c differ ts g p.temps e2 left n new m newer))

  pub both_pass : (e1 e2 n m : Env) (cs ds : List (ℕ × Bool)) → SlotsPass by_par e [] cs e1 n → SlotsPass by_par e1 [] ds e2 m → BothPass cs ds e2 n m
  both_pass e1 e2 n m cs ds passed passed2 =
      let gs = with_result (with_result y.gives b unit) c unit in
      let f = first_family s t wrap goes stands still b c none_b none_c differ ts g p.temps [] [] in
      let one = all_pass by_par (IsForked f c (record { place = branch; slots = [] }) [] gs y.exact) (forked_passing f c (record { place = branch; slots = [] }) [] gs y.exact) e [] e1 n t.slots [] cs (y5, forked, refl, λ j q h. h) passed in
      let h = second_family s t wrap goes stands still b c none_b none_c differ ts g p.temps n one.news in
      let had : Running Position = record { place = record { entry = going n [] unit; temps = [] }; slots = one.news } in
      let two = all_pass by_par (IsForked h b had n gs y.exact) (forked_passing h b had n gs y.exact) e1 [] e2 m one.left [] ds (one.kept.0, swapped one.kept.1, one.kept.2, one.kept.3) passed2 in
      record { between = one.left; left = two.left; new = one.news; newer = two.news; first = one.is; second = two.is; typing = two.kept.0; names = two.kept.2; refs = two.kept.3; typed = two.kept.1.state }

-- THE ACT

record ParRow (x : Entry) (vs : List Value) (cs : List Capture) (body : Position) (ds : List Capture) (other : Position) (l : Leaves) (z : Entry) : Type 0 where
  env : Env
  between : Env
  after : Env
  new : Env
  newer : Env
  temps : List Kind
  result : Owned
  names : List (ℕ × Bool)
  others : List (ℕ × Bool)
  waits : wait temps ≡ true
  passing : SlotsPass by_par env [] names between new
  passing_other : SlotsPass by_par between [] others after newer
  starts : StartsAs body (going new [] unit)
  starts_other : StartsAs other (going newer [] unit)
  entry : x ≡ going env temps result
  is : cs ≡ captured names
  is_other : ds ≡ captured others
  leaves : l ≡ quiet vs
  comes : z ≡ forked_at after temps result

par_row : {x z : Entry} {vs : List Value} {cs ds : List Capture} {body other : Position} {l : Leaves} → ActRow StartsAs x vs (do_par cs body ds other) l z → ParRow x vs cs body ds other l z
par_row (r_par {e = e} {e1 = e1} {e2 = e2} {n = n} {m = m} {ts = ts} {g = g} cs ds w one two starts starts2) =
    record { env = e; between = e1; after = e2; new = n; newer = m; temps = ts; result = g; names = cs; others = ds; waits = w; passing = one; passing_other = two; starts = starts; starts_other = starts2; entry = refl; is = refl; is_other = refl; leaves = refl; comes = refl }

-- two new names
record NewNames (s : Whole Position) (names : Fresh) : Type 0 where
  first : ℕ
  second : ℕ
  is : names ≡ fresh.Threads first second
  free : (first == second || is_given s first || is_given s second) ≡ false

new_names : (s : Whole Position) (names : Fresh) → refused_names s two_threads names ≡ None → NewNames s names
new_names s fresh.None h = cc
new_names s (fresh.Thread u) h = cc
new_names s (fresh.Mutex m) h = cc
new_names s (fresh.Threads u v) h = record { first = u; second = v; is = refl; free = by (u == v || is_given s u || is_given s v) h }
  where
    by : (q : Bool) → (if q then Some name_used else None) ≡ None → q ≡ false
    by true f = cc
    by false f = refl

-- they differ, and are those of no thread
names_free : (s : Whole Position) (u v : ℕ) → (u == v || is_given s u || is_given s v) ≡ false → (u ≢ v) × (thread_at s.threads u ≡ None) × (thread_at s.threads v ≡ None)
names_free s u v h = eq_cases (λ q. (q || is_given s u || is_given s v) ≡ false → (u ≢ v) × (thread_at s.threads u ≡ None) × (thread_at s.threads v ≡ None)) u v (λ q f. cc) (λ ne f. let q = by (thread_at s.threads u) (thread_at s.threads v) f in (ne, q.0, q.1)) h
  where
    by : (o p : Option (Thread Position)) → (is_some o || is_some p) ≡ false → (o ≡ None) × (p ≡ None)
    by None None f = (refl, refl)
    by None (Some x) f = cc
    by (Some x) p f = cc

module _ (now : Position → Now) (move : Position → Option (Move Position Position)) (y : Typing) (s : Whole Position) (t : Thread Position) (p : Position) (wrap : Position → Life Position) (plug : Value → Position) where
  par_steps : (cs : List Capture) (body : Position) (ds : List Capture) (other : Position) (b c : ℕ) → (b == c || is_given s b || is_given s c) ≡ false → Ready y s t p wrap (do_par cs body ds other) plug
      → StepsTyped y (moves_by now move) s t (fresh.Threads b c) (record { act = do_par cs body ds other; plug = λ z. wrap (plug z) })
  par_steps cs body ds other b c free r =
      let i = par_row r.row in
      let f = names_free s b c free in
      let at : At y (plain_state s) t.number (record { place = p; slots = t.slots }) i.env i.temps i.result = record { state = r.state; runs = runs_here s t p wrap r.goes_on r.found r.at; entry = i.entry } in
      let d = both_pass s t p wrap r.goes_on r.found r.at b c f.1 f.2 f.0 i.env i.temps i.result i.waits y at i.between i.after i.new i.newer i.names i.others i.passing i.passing_other in
      let q : Position = record { entry = forked_at i.after i.temps i.result; temps = p.temps } in
      let m : Move Position (Life Position) = record { act = do_par cs body ds other; plug = λ z. wrap (plug z) } in
      let same : body ≡ record { entry = going i.new [] unit; temps = [] } = place_is body (going i.new [] unit) i.starts in
      let same2 : other ≡ record { entry = going i.newer [] unit; temps = [] } = place_is other (going i.newer [] unit) i.starts_other in
      step_named now move s t wrap (fresh.Threads b c) m plug unit_value q
      (λ z. record s {
        threads = with_thread s.threads (record { number = t.number; life = z; slots = d.left }) ++ record { number = b; life = owing body; slots = d.new } ∷ record { number = c; life = owing other; slots = d.newer } ∷ [];
        pairs = record { parent = t.number; first = b; second = c } ∷ s.pairs;
      })
      (label.Start b ∷ label.Start c ∷ []) y d.typing r.goes_on
      (r.comes unit_value ∙ ap₂ (λ z l. record { entry = z; temps = left_after l unit_value }) i.comes i.leaves)
      (ap (λ z. if z then None else second_of (moves_by now move) s t m b body ds c other (pass cs t.slots [])) free
      ∙ ap (λ z. second_of (moves_by now move) s t m b body ds c other (pass z t.slots [])) i.is
      ∙ ap (second_of (moves_by now move) s t m b body ds c other) d.first
      ∙ ap (λ z. two_with (moves_by now move) s t m b body d.new c other (pass z d.between [])) i.is_other
      ∙ ap (two_with (moves_by now move) s t m b body d.new c other) d.second)
      (subst (λ z. PositionTypes d.typing (plain_state (record s {
        threads = with_thread s.threads (record { number = t.number; life = wrap q; slots = d.left }) ++ record { number = b; life = owing z; slots = d.new } ∷ record { number = c; life = owing other; slots = d.newer } ∷ [];
        pairs = record { parent = t.number; first = b; second = c } ∷ s.pairs;
      }))) (sym same)
      (subst (λ z. PositionTypes d.typing (plain_state (record s {
        threads = with_thread s.threads (record { number = t.number; life = wrap q; slots = d.left }) ++ record { number = b; life = owing (record { entry = going i.new [] unit; temps = [] }); slots = d.new } ∷ record { number = c; life = owing z; slots = d.newer } ∷ [];
        pairs = record { parent = t.number; first = b; second = c } ∷ s.pairs;
      }))) (sym same2) d.typed))
      (subst (λ g. KeepsNames (plain_state s) y.gives g) (sym d.names) (names_then (result_regives (plain_state s) y.gives b unit (ap running_in f.1)) (result_regives (plain_state s) (with_result y.gives b unit) c unit (ap running_in f.2))))
      d.refs
    where
      place_is : (b : Position) (e : Entry) → (b.entry ≡ e) × (b.temps ≡ []) → b ≡ (record { entry = e; temps = [] })
      place_is b e h = ap₂ (λ c d. (let q : Position = record { entry = c; temps = d } in q)) h.0 h.1

pub par_keeps : KeepsNamed IsPar
par_keeps now move y s t p wrap act plug names h refused r =
    let q = new_names s names (subst (λ a. refused_names s (takes_of a) names ≡ None) h.4 refused) in
    subst (λ a. StepsTyped y (moves_by now move) s t names (record { act = a; plug = λ z. wrap (plug z) })) (sym h.4)
    (subst (λ b. StepsTyped y (moves_by now move) s t b (record { act = do_par h.0 h.1 h.2 h.3; plug = λ z. wrap (plug z) })) (sym q.is)
    (par_steps now move y s t p wrap plug h.0 h.1 h.2 h.3 q.first q.second q.free (subst (λ a. Ready y s t p wrap a plug) h.4 r)))
