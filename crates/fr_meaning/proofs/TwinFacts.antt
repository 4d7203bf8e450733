-- What is known where a thread starts a pair, or ends one.
use Rattle.std.proofs.Common.{Vec, Global, ◌≡◌, ◌≢◌, ℕ, ℤ, zero, suc, ◌<◌, ◌≤◌, true, false, List, [], ◌∷◌, ◌++◌, length, get_or, vec_capacity, Option, Some, None, refl, sym, ap, ◌∙◌, subst, arith}
use Rattle.std.specs.Prelude.{IsSome, is_some, option_map, slice_set, ◌==◌, if◌then◌else◌}
use Rattle.fr_base.specs.declared.step.Fresh.{Fresh}
use Rattle.fr_base.specs.declared.step.Fresh.TheVariants as fresh
use Rattle.fr_plain.specs.declared.value.Value.{Value}
use Rattle.fr_plain.specs.Acts.{do_par, do_par_end}
use Rattle.fr_plain.specs.Machine as machine
use Rattle.fr_plain.specs.MachineThreads.{Pair, pair_of}
use Rattle.fr_plain.specs.Run as run
use Rattle.fr_plain.specs.Run.{Capture, Run, terms, settle, par, Move, Life, life_move}
use Rattle.fr_plain.specs.Threads.{Thread as PlainThread, with_life, result_in as result_in_plain}
use Rattle.fr_plain.specs.Whole.{Whole, Stepped, thread_at, result_at}
use Rattle.fr_forms.specs.Depths.{depth}
use Rattle.fr_forms.specs.FormTerms.{term_of, captures_of, body_run}
use Rattle.fr_forms.specs.declared.forms.Form.{Form}
use Rattle.fr_forms.specs.declared.forms.Form.TheVariants as form
use Rattle.fr_forms.proofs.FormLemmas.{eq_cases, get_or-any, form_term, par_form}
use Rattle.fr_shared.specs.declared.pairs.Two.{Two}
use Rattle.fr_shared.specs.PairInside.{pair_from, two_from}
use Rattle.fr_shared.specs.Places.{place_of}
use Rattle.fr_shared.proofs.PlaceLemmas.{no_more}
use Rattle.fr_acts.specs.SlotOrder.{newest_first}
use Rattle.fr_meaning.specs.declared.frame.Focus.{Focus}
use Rattle.fr_meaning.specs.declared.frame.Focus.TheVariants as focus
use Rattle.fr_meaning.specs.declared.frame.TheConstants.{FRAMES}
use Rattle.fr_meaning.specs.declared.frame.Frame.{Frame}
use Rattle.fr_meaning.specs.declared.next.Next.TheVariants as next_
use Rattle.fr_meaning.specs.declared.thread.Stage.{Stage}
use Rattle.fr_meaning.specs.declared.thread.Stage.TheVariants as stage
use Rattle.fr_meaning.specs.declared.thread.Thread.{Thread}
use Rattle.fr_meaning.specs.Beside.{Beside}
use Rattle.fr_meaning.specs.Contexts.{IsSettled}
use Rattle.fr_meaning.specs.FrameTerms.{all_around, wrapped, focus_run, AreInside, HasMadeWay}
use Rattle.fr_meaning.specs.Threads.{run_in, HasRoom, IsWell, AreWell, result_in, life_at, thread_of, threads_of, whole, numbers_of}
use Rattle.fr_meaning.specs.Twins.{ours_in, theirs_in, ours_at, theirs_at}
use Rattle.fr_meaning.proofs.ContextLemmas.{settle_wrap, depth_wrap}
use Rattle.fr_meaning.proofs.FrameLemmas.{length_depth}
use Rattle.fr_meaning.proofs.SettledLemmas.{settle_settled}
use Rattle.fr_meaning.proofs.NextMoves.{frame_moves}
use Rattle.fr_meaning.proofs.PairSteps.{ParGoes, par_goes}
use Rattle.fr_meaning.proofs.StepFacts.{Steps, no_some, with_act, is_on, is_move, move_goes, given_place}
use Rattle.fr_meaning.proofs.ThreadLists.{none_there, there_at, well_at, numbers_push}
use Rattle.fr_meaning.proofs.WholeSteps.{kept_result}

-- the captures of the form that stands there
pub ours_here : (ns : List Form) (i : ℕ) (e m : Form) → i < length ns → e ≡ get_or ns i e → e ≡ m → ours_at ns i ≡ ours_in m
ours_here ns i e m lt is h = ap ours_in (get_or-any ns i form.Unit e lt ∙ sym is ∙ h)

pub theirs_here : (ns : List Form) (i : ℕ) (e m : Form) → i < length ns → e ≡ get_or ns i e → e ≡ m → theirs_at ns i ≡ theirs_in m
theirs_here ns i e m lt is h = ap theirs_in (get_or-any ns i form.Unit e lt ∙ sym is ∙ h)

-- the thread is well, and its run stands in its frames
pub record PairFacts (fs : List Form) (x : Thread) (node : ℕ) : Type 0 where
  pub well : IsWell fs x
  pub run : run_in fs x ≡ wrapped fs x.frames.items (term_of fs node)
  pub depth : depth (term_of fs node) ≤ FRAMES

pub pair_facts : (fs : List Form) (xs : List Thread) (i : ℕ) (x : Thread) (node : ℕ) → i < length xs → x ≡ get_or xs i x → AreWell fs xs → x.focus ≡ focus.Par node → PairFacts fs x node
pair_facts fs xs i x node lt is all f =
    let well = well_at fs xs i x lt is all in
    let run = ap (λ (g : Focus). wrapped fs x.frames.items (focus_run fs g)) f in
    record { well = well; run = run; depth = omega (arith, length_depth fs x.frames.items (term_of fs node), ap depth run, well.depth) }

-- two new names that differ, and captures that pass
pub par_steps : (fs : List Form) (xs : List Thread) (beside : Beside) (output : List ℤ) (t : ℕ) (names : Fresh) (i : ℕ) (x : Thread) (node : ℕ) → Steps fs xs beside output t names i x (next_.Par node) →
    ParGoes (whole fs xs beside output) (newest_first x.slots.items) names (captures_of (ours_at fs node)) (captures_of (theirs_at fs node))
par_steps fs xs beside output t names i x node h =
    let way = subst (λ (f : Focus). HasMadeWay fs x.frames.items f) h.comes h.well.way in
    let f = par_form (get_or fs node form.Unit) way.1 in
    let term = form_term fs node (get_or fs node form.Unit) (form.Par f.0 f.1) h.order way.0 (get_or-any fs node form.Unit (get_or fs node form.Unit) way.0) f.2 in
    let cs = captures_of (ours_at fs node) in
    let ds = captures_of (theirs_at fs node) in
    let r = body_run (term_of fs) f.0.value in
    let q = body_run (term_of fs) f.1.value in
    let named = term ∙ ap (λ us. par (captures_of us) r (captures_of f.1.value.captures.items) q) (sym (ap ours_in f.2)) ∙ ap (λ us. par cs r (captures_of us) q) (sym (ap theirs_in f.2)) in
    let m : Move Run = record { act = do_par cs r ds q; plug = λ v. run.par_end } in
    let M : Move Life = record { act = do_par cs r ds q; plug = λ v. life_at x.stage (wrapped fs x.frames.items run.par_end) } in
    let run_is = ap (λ (g : Focus). wrapped fs x.frames.items (focus_run fs g)) h.comes ∙ ap (wrapped fs x.frames.items) named in
    let moves = ap (λ z. life_move (life_at x.stage z)) run_is ∙ frame_moves fs x.frames.items x.stage (par cs r ds q) m (is_on h) refl refl in
    par_goes (whole fs xs beside output) (thread_of fs x) M names cs ds r q (with_act (whole fs xs beside output) (thread_of fs x) names (life_move (life_at x.stage (run_in fs x))) M (do_par cs r ds q) moves refl (move_goes h))

-- THE END

-- the pair is there, and the results of both
pub record EndSteps (s : Whole) (t : ℕ) : Type 0 where
  pub pair : Pair
  pub is : pair_of s.pairs t ≡ Some pair
  pub one : Value
  pub kept : result_at s.threads pair.first ≡ Some one
  pub two : Value
  pub then_kept : result_at s.threads pair.second ≡ Some two

end_goes : (s : Whole) (x : PlainThread) (m : Move Life) → IsSome (machine.two_joined terms s x m (pair_of s.pairs x.number)) → EndSteps s x.number
end_goes s x m h = by (pair_of s.pairs x.number) refl h
  where
    by_two : (p : Pair) (v w : Option Value) → pair_of s.pairs x.number ≡ Some p → result_at s.threads p.first ≡ v → result_at s.threads p.second ≡ w → IsSome (machine.two_ended terms s x m p v w) → EndSteps s x.number
    by_two p None w e f g k = absurd (no_some {A = Stepped} None refl k)
    by_two p (Some v) None e f g k = absurd (no_some {A = Stepped} None refl k)
    by_two p (Some v) (Some w) e f g k = record { pair = p; is = e; one = v; kept = f; two = w; then_kept = g }

    by : (o : Option Pair) → pair_of s.pairs x.number ≡ o → IsSome (machine.two_joined terms s x m o) → EndSteps s x.number
    by None e k = absurd (no_some {A = Stepped} None refl k)
    by (Some p) e k = by_two p (result_at s.threads p.first) (result_at s.threads p.second) e refl refl k

pub end_steps : (fs : List Form) (xs : List Thread) (beside : Beside) (output : List ℤ) (t i : ℕ) (x : Thread) → Steps fs xs beside output t fresh.None i x next_.ParEnd → EndSteps (whole fs xs beside output) t
end_steps fs xs beside output t i x h =
    let m = is_move h in
    let k = end_goes (whole fs xs beside output) (thread_of fs x) m.0 (with_act (whole fs xs beside output) (thread_of fs x) fresh.None (life_move (life_at x.stage (run_in fs x))) m.0 do_par_end m.1 m.2 (move_goes h)) in
    subst (λ u. EndSteps (whole fs xs beside output) u) (there_at fs xs t i x h.place h.is).1 k

-- NAMES

none_of : (o : Option ℕ) → is_some o ≡ false → o ≡ None
none_of None h = refl
none_of (Some k) h = cc

pub record NewNames (xs : List Thread) (a b : ℕ) : Type 0 where
  pub new_first : place_of (numbers_of xs) a ≡ None
  pub new_second : place_of (numbers_of xs) b ≡ None
  pub apart : a ≢ b

-- both names are new, and differ
pub new_names : (fs : List Form) (xs : List Thread) (beside : Beside) (output : List ℤ) (slots : List Value) (names : Fresh) (cs ds : List Capture) (a b : ℕ) → ParGoes (whole fs xs beside output) slots names cs ds → names ≡ fresh.Threads a b → NewNames xs a b
new_names fs xs beside output slots names cs ds a b k is =
    let e : fresh.Threads k.first k.second ≡ fresh.Threads a b = sym k.named ∙ is in
    let first : k.first ≡ a = cc in
    let second : k.second ≡ b = cc in
    record {
      new_first = none_of (place_of (numbers_of xs) a) (sym (given_place fs xs a) ∙ ap (λ u. is_some (thread_at (threads_of fs xs) u)) (sym first) ∙ k.new_first);
      new_second = none_of (place_of (numbers_of xs) b) (sym (given_place fs xs b) ∙ ap (λ u. is_some (thread_at (threads_of fs xs) u)) (sym second) ∙ k.new_second);
      apart = λ same. eq_cases (λ x. x ≡ false → ⊥) k.first k.second (λ _ h. absurd (let f : true ≡ false = h in cc)) (λ other _. other (first ∙ same ∙ sym second)) k.apart;
    }

-- the place of a thread whose result is kept, and that it has ended
pub kept_there : (fs : List Form) (xs : List Thread) (u : ℕ) (v : Value) → result_at (threads_of fs xs) u ≡ Some v → place_of (numbers_of xs) u ≡ None → ⊥
kept_there fs xs u v h none = let e : None ≡ Some v = sym (ap result_in_plain (none_there fs xs u none)) ∙ h in cc

pub kept_at : (fs : List Form) (xs : List Thread) (u k : ℕ) (v : Value) (z : Thread) → result_at (threads_of fs xs) u ≡ Some v → place_of (numbers_of xs) u ≡ Some k → z ≡ get_or xs k z → result_in z.stage ≡ Some v
kept_at fs xs u k v z h at is = sym (kept_result z.stage (run_in fs z)) ∙ sym (ap result_in_plain (there_at fs xs u k z at is).0) ∙ h

-- a thread that is over, by what it was
pub over_thread : (fs : List Form) (z w : Thread) → w.number ≡ z.number → w.slots ≡ z.slots → w.stage ≡ stage.Over → thread_of fs w ≡ with_life (thread_of fs z) run.over
over_thread fs z w n v g = ap (λ k. parts k w.stage w.slots.items w) n ∙ ap (λ s. parts z.number s w.slots.items w) g ∙ ap (λ (vs : Vec Value Global). parts z.number stage.Over vs.items w) v
  where
    parts : ℕ → Stage → List Value → Thread → PlainThread
    parts k s vs w = record { number = k; life = life_at s (run_in fs w); slots = newest_first vs }

-- a name that is new is so beside another one
pub none_push : (ns : List ℕ) (a b : ℕ) → place_of ns b ≡ None → a ≢ b → place_of (ns ++ a ∷ []) b ≡ None
none_push [] a b h ne = eq_cases (λ x. (if x then Some 0 else option_map (λ i. suc i) (place_of [] b)) ≡ None) a b (λ e. absurd (ne e)) (λ _. refl)
none_push (n ∷ ns) a b h ne =
    eq_cases (λ x. (if x then Some 0 else option_map (λ i. suc i) (place_of ns b)) ≡ None → (if x then Some 0 else option_map (λ i. suc i) (place_of (ns ++ a ∷ []) b)) ≡ None) n b
    (λ same g. cc) (λ other g. ap (option_map (λ i. suc i)) (none_push ns a b (no_more (place_of ns b) g) ne)) h

-- the parent waits for the end of its pair
pub waits_well : (fs : List Form) (x y : Thread) (node : ℕ) → PairFacts fs x node → y.frames ≡ x.frames → y.focus ≡ focus.ParEnd → y.stage ≡ x.stage → IsWell fs y × (run_in fs y ≡ settle (wrapped fs x.frames.items run.par_end))
waits_well fs x y node k gs f g =
    let items = ap (λ (vs : Vec Frame Global). vs.items) gs in
    let is = ap (λ (ks : List Frame). wrapped fs ks (focus_run fs y.focus)) items ∙ ap (λ (g : Focus). wrapped fs x.frames.items (focus_run fs g)) f in
    let settles = settle_wrap (all_around fs x.frames.items) run.par_end refl in
    let low = depth_wrap (all_around fs x.frames.items) run.par_end (term_of fs node) (omega arith) in (
      record {
        frames = subst (AreInside (length fs)) (sym items) k.well.frames;
        way = subst (λ (g : Focus). HasMadeWay fs y.frames.items g) (sym f) tt;
        settled = subst IsSettled (settles ∙ sym is) (settle_settled (wrapped fs x.frames.items run.par_end));
        depth = omega (arith, ap depth is, low, ap depth k.run, k.well.depth);
        room = subst (λ (s : Stage). HasRoom s (vec_capacity y.frames)) (sym g) (subst (HasRoom x.stage) (sym (ap (λ (vs : Vec Frame Global). vec_capacity vs) gs)) k.well.room);
      },
      is ∙ sym settles,
    )

-- the pair that was found
pub two_same : (t : ℕ) (x : Two) (p : Pair) → two_from t (Some x) ≡ Some p → p ≡ pair_from t x
two_same t x p h = cc

-- what was set stands at its place
pub set_here : (xs : List Thread) (i : ℕ) (y : Thread) → y ≡ get_or (slice_set xs i y) i y
set_here [] i y = refl
set_here (x ∷ xs) zero y = refl
set_here (x ∷ xs) (suc i) y = set_here xs i y

-- the numbers of two threads more
pub two_numbers : (xs : List Thread) (n k : Thread) (u v : ℕ) → n.number ≡ u → k.number ≡ v → numbers_of ((xs ++ n ∷ []) ++ k ∷ []) ≡ (numbers_of xs ++ u ∷ []) ++ v ∷ []
two_numbers xs n k u v e f =
    numbers_push (xs ++ n ∷ []) k ∙ ap (λ ns. ns ++ k.number ∷ []) (numbers_push xs n ∙ ap (λ j. numbers_of xs ++ j ∷ []) e) ∙ ap (λ j. (numbers_of xs ++ u ∷ []) ++ j ∷ []) f

pub differ : (a b : ℕ) → a ≢ b → a == b ≡ false
differ a b ne = eq_cases (λ x. x ≡ false) a b (λ e. absurd (ne e)) (λ _. refl)
