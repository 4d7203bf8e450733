-- An order as it is written: a step that joins the last line, and one that begins a line.
use Rattle.std.proofs.Common.{◌≡◌, ◌≢◌, ℕ, ◌+◌, ◌<◌, ◌≤◌, ◌^◌, nat_lt, Bool, true, false, ◌&&◌, ◌==◌, List, [], ◌∷◌, ◌++◌, length, replicate, refl, sym, ap, subst, ◌∙◌, take, drop, zero, suc, ◌-◌, inl, inr, append_assoc, arith, Option, Some, None}
use Rattle.std.specs.List.{flat_map, AllByRecursion}
use Rattle.std.proofs.lemmas.Bool.{eqb-true, eq-eqb, ltb-true, lt-ltb, cases_order}
use Rattle.std.specs.List.{slice_index_or}
use Rattle.std.proofs.lemmas.List.{append-nil, append_cancel_left, replicate-append-replicate, take_more}
use Rattle.std.proofs.lemmas.List.Concat.{flat_map-append}
use Rattle.fr_base.specs.declared.step.Fresh.{Fresh}
use Rattle.fr_base.specs.declared.step.Fresh.TheVariants as fresh
use Rattle.journal.specs.declared.order.OrderLine.{OrderLine}
use Rattle.journal.specs.declared.writing.LastLine.{LastLine}
use Rattle.journal.specs.View.{EntryView}
use Rattle.journal.specs.Journals.{order, turn_of}
use Rattle.journal.specs.OrderText.{spell, IsLine, AreSteps, ArePlaced, steps_of, steps_of_line}
use Rattle.journal.specs.WrittenOrder.{goes_on, takes_none, AreApart, AreApartAfter, IsOrderText, IsWritten, line_from, last_line, last_text, one_step, joins}
use Rattle.journal.proofs.Tools.{fst_is, snd_is}
use Rattle.journal.proofs.OrderLemmas.{lines_push, places_push, text_push}

-- behind a line that it doesn't join a line may stand
after_push : (l : OrderLine) (ls : List OrderLine) (o m : OrderLine) → AreApartAfter l (ls ++ o ∷ []) → goes_on o m ≡ false → AreApartAfter l (ls ++ o ∷ [] ++ m ∷ [])
after_push l [] o m h e = (h.0, (e, tt))
after_push l (k ∷ ls) o m h e = (h.0, after_push k ls o m h.1 e)

apart_push : (ls : List OrderLine) (o m : OrderLine) → AreApart (ls ++ o ∷ []) → goes_on o m ≡ false → AreApart (ls ++ o ∷ [] ++ m ∷ [])
apart_push [] o m h e = (e, tt)
apart_push (l ∷ ls) o m h e = after_push l ls o m h e

-- a line of the same thread and names stands where the other one does
after_alike : (l : OrderLine) (ls : List OrderLine) (o m : OrderLine) → o.thread ≡ m.thread → o.fresh ≡ m.fresh → AreApartAfter l (ls ++ o ∷ []) → AreApartAfter l (ls ++ m ∷ [])
after_alike l [] o m t f h = (ap (λ (n : ℕ). l.thread == n && takes_none l.fresh && takes_none m.fresh && nat_lt l.steps 1000000000) (sym t) ∙ ap (λ (x : Fresh). l.thread == o.thread && takes_none l.fresh && takes_none x && nat_lt l.steps 1000000000) (sym f) ∙ h.0, tt)
after_alike l (k ∷ ls) o m t f h = (h.0, after_alike k ls o m t f h.1)

apart_alike : (ls : List OrderLine) (o m : OrderLine) → o.thread ≡ m.thread → o.fresh ≡ m.fresh → AreApart (ls ++ o ∷ []) → AreApart (ls ++ m ∷ [])
apart_alike [] o m t f h = tt
apart_alike (l ∷ ls) o m t f h = after_alike l ls o m t f h

-- the steps of one line more
steps_push : (ls : List OrderLine) (m : OrderLine) → steps_of (ls ++ m ∷ []) ≡ steps_of ls ++ steps_of_line m
steps_push ls m = flat_map-append steps_of_line ls (m ∷ []) ∙ ap (λ x. steps_of ls ++ x) (append-nil (steps_of_line m))

-- the lines of an order that is written
pub record AreLines (steps : List (ℕ × Fresh)) (ls : List OrderLine) : Type 0 where
  pub each : AllByRecursion IsLine ls
  pub places : ArePlaced 0 ls
  pub spelled : steps_of ls ≡ steps
  pub apart : AreApart ls

-- one line more
line_more : (steps : List (ℕ × Fresh)) (ls : List OrderLine) (m : OrderLine) → AreLines steps ls → IsLine m → m.place ≡ length (flat_map spell ls) → AreApart (ls ++ m ∷ []) → AreLines (steps ++ steps_of_line m) (ls ++ m ∷ [])
line_more steps ls m h is at apart = record {
  each = lines_push ls m h.each is;
  places = places_push 0 ls m h.places (omega (arith, at));
  spelled = steps_push ls m ∙ ap (λ x. x ++ steps_of_line m) h.spelled;
  apart = apart;
}

-- two tests that hold together hold each
both_true : (a b : Bool) → (a && b) ≡ true → (a ≡ true) × (b ≡ true)
both_true true true e = (refl, refl)
both_true true false e = absurd cc
both_true false b e = absurd cc

both : (a b : Bool) → a ≡ true → b ≡ true → (a && b) ≡ true
both a b e f = ap (λ x. x && b) e ∙ f

false_not_true : false ≡ true → ⊥
false_not_true e = absurd cc

none_after : (b : Bool) → (b && false) ≡ false
none_after true = refl
none_after false = refl

-- another line at the end
each_last : (ls : List OrderLine) (o m : OrderLine) → AllByRecursion IsLine (ls ++ o ∷ []) → (IsLine o → IsLine m) → AllByRecursion IsLine (ls ++ m ∷ [])
each_last [] o m h is = (is h.0, tt)
each_last (l ∷ ls) o m h is = (h.0, each_last ls o m h.1 is)

places_last : (place : ℕ) (ls : List OrderLine) (o m : OrderLine) → ArePlaced place (ls ++ o ∷ []) → m.place ≡ o.place → ArePlaced place (ls ++ m ∷ [])
places_last place [] o m h e = (e ∙ h.0, tt)
places_last place (l ∷ ls) o m h e = (h.0, places_last (place + length (spell l)) ls o m h.1 e)

-- one step more of a thread
longer : (ls : List OrderLine) (place t k : ℕ) → steps_of (ls ++ line_from place (record { thread = t; steps = k + 1 }) ∷ []) ≡ steps_of (ls ++ line_from place (record { thread = t; steps = k }) ∷ []) ++ (t, fresh.None) ∷ []
longer ls place t k =
    let step : ℕ × Fresh = (t, fresh.None) in
    steps_push ls (line_from place (record { thread = t; steps = k + 1 }))
    ∙ ap (λ x. steps_of ls ++ x) (sym (replicate-append-replicate k 1 step))
    ∙ sym (append_assoc (steps_of ls) (replicate k step) (step ∷ []))
    ∙ ap (λ x. x ++ step ∷ []) (sym (steps_push ls (line_from place (record { thread = t; steps = k }))))

-- a step without names joins the last line, which has room
pub joined : (steps : List (ℕ × Fresh)) (bytes : List ℕ) (l : LastLine) → l.steps < 1000000000 → IsWritten steps bytes (Some l) → IsWritten (steps ++ (l.thread, fresh.None) ∷ []) bytes (Some (record { thread = l.thread; steps = l.steps + 1 }))
joined steps bytes l room h =
    let more : LastLine = record { thread = l.thread; steps = l.steps + 1 } in
    let o = line_from (length bytes) l in
    let m = line_from (length bytes) more in
    let apart : AreApart (h.lines ++ m ∷ []) = apart_alike h.lines o m refl refl h.apart in
    record {
      lines = h.lines;
      text = h.text;
      each = each_last h.lines o m h.each (λ is. (is.0, (omega arith, omega (arith, room))));
      places = places_last 0 h.lines o m h.places refl;
      spelled = longer h.lines (length bytes) l.thread l.steps ∙ ap (λ x. x ++ (l.thread, fresh.None) ∷ []) h.spelled;
      apart = apart;
      next = λ n e. apart_push h.lines m n apart e;
    }

-- what a step that joins the last line is
record Joins (l : LastLine) (t : ℕ) (names : Fresh) : Type 0 where
  thread : l.thread ≡ t
  none : names ≡ fresh.None
  room : l.steps < 1000000000

no_names : (names : Fresh) → takes_none names ≡ true → names ≡ fresh.None
no_names fresh.None e = refl
no_names (fresh.Thread t) e = absurd cc
no_names (fresh.Threads t u) e = absurd cc
no_names (fresh.Mutex m) e = absurd cc

joins_as : (l : LastLine) (t : ℕ) (names : Fresh) → joins (Some l) t names ≡ true → Joins l t names
joins_as l t names e =
    let one = both_true ((l.thread == t) && true && takes_none names) (nat_lt l.steps 1000000000) e in
    let two = both_true ((l.thread == t) && true) (takes_none names) one.0 in
    let three = both_true (l.thread == t) true two.0 in
    record { thread = eqb-true l.thread t three.0; none = no_names names two.1; room = ltb-true l.steps 1000000000 one.1 }

-- where there is no line no step joins it
pub apart_none : (last : Option LastLine) (t : ℕ) (names : Fresh) → ((l : LastLine) → last ≢ Some l) → joins last t names ≡ false
apart_none None t names none = refl
apart_none (Some l) t names none = absurd (none l refl)

-- a step that can join the last line
pub joined_by : (steps : List (ℕ × Fresh)) (bytes : List ℕ) (l : LastLine) (t : ℕ) (names : Fresh) → joins (Some l) t names ≡ true → IsWritten steps bytes (Some l) → IsWritten (steps ++ (t, names) ∷ []) bytes (Some (record { thread = t; steps = l.steps + 1 }))
joined_by steps bytes l t names e h =
    let by = joins_as l t names e in
    subst (λ (x : ℕ). IsWritten (steps ++ (x, names) ∷ []) bytes (Some (record { thread = x; steps = l.steps + 1 }))) by.thread
    (subst (λ (x : Fresh). IsWritten (steps ++ (l.thread, x) ∷ []) bytes (Some (record { thread = l.thread; steps = l.steps + 1 }))) (sym by.none) (joined steps bytes l by.room h))

-- with its last line the text is that of all lines
whole_text : (bytes : List ℕ) (ls : List OrderLine) (last : Option LastLine) → bytes ≡ flat_map spell ls → bytes ++ last_text last ≡ flat_map spell (ls ++ last_line (length bytes) last)
whole_text bytes ls None e = append-nil bytes ∙ e ∙ ap (λ x. flat_map spell x) (sym (append-nil ls))
whole_text bytes ls (Some l) e = ap (λ x. x ++ last_text (Some l)) e ∙ sym (text_push ls (line_from (length bytes) l))

-- the lines, the last one among them
all_lines : (steps : List (ℕ × Fresh)) (bytes : List ℕ) (last : Option LastLine) (h : IsWritten steps bytes last) → AreLines steps (h.lines ++ last_line (length bytes) last)
all_lines steps bytes last h = record { each = h.each; places = h.places; spelled = h.spelled; apart = h.apart }

-- the lines with one step that begins a line
begun : (steps : List (ℕ × Fresh)) (bytes : List ℕ) (last : Option LastLine) (t : ℕ) (names : Fresh) (h : IsWritten steps bytes last) → joins last t names ≡ false → IsLine (one_step 0 t names) → AreLines (steps ++ (t, names) ∷ []) (h.lines ++ last_line (length bytes) last ++ one_step (length (bytes ++ last_text last)) t names ∷ [])
begun steps bytes last t names h apart is =
    line_more steps (h.lines ++ last_line (length bytes) last) (one_step (length (bytes ++ last_text last)) t names) (all_lines steps bytes last h) is
    (ap length (whole_text bytes h.lines last h.text)) (h.next (one_step (length (bytes ++ last_text last)) t names) apart)

-- a step without names begins a line that others may join
pub begins : (steps : List (ℕ × Fresh)) (bytes : List ℕ) (last : Option LastLine) (t : ℕ) → joins last t fresh.None ≡ false → t < 2 ^ 40 → IsWritten steps bytes last → IsWritten (steps ++ (t, fresh.None) ∷ []) (bytes ++ last_text last) (Some (record { thread = t; steps = 1 }))
begins steps bytes last t apart few h =
    let is : IsLine (one_step 0 t fresh.None) = (few, (omega arith, omega arith)) in
    let all = begun steps bytes last t fresh.None h apart is in
    let whole = h.lines ++ last_line (length bytes) last in
    record {
      lines = whole;
      text = whole_text bytes h.lines last h.text;
      each = all.each;
      places = all.places;
      spelled = all.spelled;
      apart = all.apart;
      next = λ n e. apart_push whole (one_step (length (bytes ++ last_text last)) t fresh.None) n all.apart e;
    }

-- lines that are all whole
no_last : (steps : List (ℕ × Fresh)) (bytes : List ℕ) (ls : List OrderLine) → bytes ≡ flat_map spell ls → AreLines steps ls → ((m : OrderLine) → AreApart (ls ++ m ∷ [])) → IsWritten steps bytes None
no_last steps bytes ls text all next =
    let same : ls ++ [] ≡ ls = append-nil ls in
    record {
      lines = ls;
      text = text;
      each = subst (λ x. AllByRecursion IsLine x) (sym same) all.each;
      places = subst (λ x. ArePlaced 0 x) (sym same) all.places;
      spelled = ap (λ x. steps_of x) same ∙ all.spelled;
      apart = subst (λ x. AreApart x) (sym same) all.apart;
      next = λ m e. subst (λ x. AreApart (x ++ m ∷ [])) (sym same) (next m);
    }

-- behind a step that takes names any line may stand
apart_behind : (place t : ℕ) (names : Fresh) (m : OrderLine) → takes_none names ≡ false → goes_on (one_step place t names) m ≡ false
apart_behind place t names m e = ap (λ b. (t == m.thread) && b && takes_none m.fresh && nat_lt 1 1000000000) e ∙ ap (λ b. b && takes_none m.fresh && nat_lt 1 1000000000) (none_after (t == m.thread))

pub takes_names : (names : Fresh) → names ≢ fresh.None → takes_none names ≡ false
takes_names fresh.None some = absurd (some refl)
takes_names (fresh.Thread t) some = refl
takes_names (fresh.Threads t u) some = refl
takes_names (fresh.Mutex m) some = refl

-- a step that takes names is a line of its own
pub stands_alone : (steps : List (ℕ × Fresh)) (bytes : List ℕ) (last : Option LastLine) (t : ℕ) (names : Fresh) → takes_none names ≡ false → joins last t names ≡ false → IsLine (one_step 0 t names) → IsWritten steps bytes last
    → IsWritten (steps ++ (t, names) ∷ []) (bytes ++ last_text last ++ spell (one_step 0 t names)) None
stands_alone steps bytes last t names takes apart is h =
    let all = begun steps bytes last t names h apart is in
    let whole = h.lines ++ last_line (length bytes) last in
    let m = one_step (length (bytes ++ last_text last)) t names in
    no_last (steps ++ (t, names) ∷ []) (bytes ++ last_text last ++ spell m) (whole ++ m ∷ [])
    (ap (λ x. x ++ spell m) (whole_text bytes h.lines last h.text) ∙ sym (text_push whole m)) all
    (λ n. apart_push whole m n all.apart (apart_behind (length (bytes ++ last_text last)) t names n takes))

-- the whole text
pub ends : (steps : List (ℕ × Fresh)) (bytes : List ℕ) (last : Option LastLine) → IsWritten steps bytes last → IsOrderText steps (bytes ++ last_text last)
ends steps bytes last h =
    record {
      lines = h.lines ++ last_line (length bytes) last;
      text = record { lines = h.each; places = h.places; text = whole_text bytes h.lines last h.text ∙ sym (append-nil (flat_map spell (h.lines ++ last_line (length bytes) last))) };
      spelled = h.spelled;
      apart = h.apart;
    }

-- nothing is written at first
pub starts : IsWritten [] [] None
starts = record { lines = []; text = refl; each = tt; places = tt; spelled = refl; apart = tt; next = λ m e. tt }

-- THE ENTRIES ONE BY ONE

turn_before : (t : Option ℕ) (names : Option Fresh) (xs ys : List (ℕ × Fresh)) → turn_of t names (xs ++ ys) ≡ turn_of t names xs ++ ys
turn_before None names xs ys = refl
turn_before (Some t) None xs ys = refl
turn_before (Some t) (Some names) xs ys = refl

-- an entry without a plain step adds nothing
pub none_done : (t : Option ℕ) (names : Option Fresh) (xs : List (ℕ × Fresh)) → names ≡ None → turn_of t names xs ≡ xs
none_done None names xs e = refl
none_done (Some t) None xs e = refl
none_done (Some t) (Some names) xs e = absurd cc

order_push : (es : List EntryView) (e : EntryView) → order (es ++ e ∷ []) ≡ order es ++ turn_of e.thread e.done []
order_push [] e = refl
order_push (x ∷ es) e = ap (turn_of x.thread x.done) (order_push es e) ∙ turn_before x.thread x.done (order es) (turn_of e.thread e.done [])

-- the order of one entry more
pub order_more : (es : List EntryView) (i : ℕ) (e : EntryView) → i < length es → e ≡ slice_index_or es i e → order (take (i + 1) es) ≡ order (take i es) ++ turn_of e.thread e.done []
order_more es i e low is = ap order (take_more es i e low ∙ ap (λ x. take i es ++ x ∷ []) (sym is)) ∙ order_push (take i es) e

-- ONE TEXT

same_head : {A : Type 0} (x y : A) (xs ys : List A) → x ∷ xs ≡ y ∷ ys → x ≡ y
same_head x y xs ys e = ap (λ l. slice_index_or l 0 x) e

same_tail : {A : Type 0} (x y : A) (xs ys : List A) → x ∷ xs ≡ y ∷ ys → xs ≡ ys
same_tail x y xs ys e = ap (λ l. drop 1 l) e

-- the first step of a line's steps
first_step : {A : Type 0} (n : ℕ) (x : A) (r : List A) → 1 ≤ n → replicate n x ++ r ≡ x ∷ (replicate (n - 1) x ++ r)
first_step zero x r some = absurd (omega (arith, some))
first_step (suc n) x r some = ap (λ k. x ∷ (replicate k x ++ r)) (omega arith)

-- what is left where one has fewer
left_over : {A : Type 0} (a b : ℕ) (x : A) (r s : List A) → a < b → replicate a x ++ r ≡ replicate b x ++ s → r ≡ replicate (b - a) x ++ s
left_over zero b x r s less e = e ∙ ap (λ k. replicate k x ++ s) (omega arith)
left_over (suc a) zero x r s less e = absurd (omega (arith, less))
left_over (suc a) (suc b) x r s less e = left_over a b x r s (omega (arith, less)) (same_tail x x (replicate a x ++ r) (replicate b x ++ s) e) ∙ ap (λ k. replicate k x ++ s) (omega arith)

-- the step that a line repeats
abbrev step_of : OrderLine → ℕ × Fresh
step_of l = (l.thread, l.fresh)

some_steps : (n : ℕ) (names : Fresh) → AreSteps n names → 1 ≤ n
some_steps n fresh.None h = h.0
some_steps n (fresh.Thread t) h = omega (arith, h.0)
some_steps n (fresh.Threads t u) h = omega (arith, h.0)
some_steps n (fresh.Mutex m) h = omega (arith, h.0)

-- of two lines with the same names one has more steps: then both take none, and the other has room
more_steps : (a b : ℕ) (names : Fresh) → AreSteps a names → AreSteps b names → a < b → (takes_none names ≡ true) × (a < 1000000000)
more_steps a b fresh.None f g less = (refl, omega (arith, g.1, less))
more_steps a b (fresh.Thread t) f g less = absurd (omega (arith, f.0, g.0, less))
more_steps a b (fresh.Threads t u) f g less = absurd (omega (arith, f.0, g.0, less))
more_steps a b (fresh.Mutex m) f g less = absurd (omega (arith, f.0, g.0, less))

goes : (l m : OrderLine) → (step_of m) ≡ (step_of l) → takes_none l.fresh ≡ true → l.steps < 1000000000 → goes_on l m ≡ true
goes l m same none room =
    both (l.thread == m.thread && takes_none l.fresh && takes_none m.fresh) (nat_lt l.steps 1000000000)
    (both (l.thread == m.thread && takes_none l.fresh) (takes_none m.fresh)
    (both (l.thread == m.thread) (takes_none l.fresh) (eq-eqb l.thread m.thread (sym (fst_is (step_of m) (step_of l) same))) none)
    (ap takes_none (snd_is (step_of m) (step_of l) same) ∙ none))
    (lt-ltb l.steps 1000000000 room)

-- steps that could stand in the line before don't begin the next one
full : (l : OrderLine) (ls : List OrderLine) (rest : List (ℕ × Fresh)) → AreApartAfter l ls → AllByRecursion IsLine ls → takes_none l.fresh ≡ true → l.steps < 1000000000 → steps_of ls ≡ step_of l ∷ rest → ⊥
full l [] rest apart each none room e = absurd cc
full l (m ∷ ms) rest apart each none room e =
    let first = first_step m.steps (step_of m) (steps_of ms) (some_steps m.steps m.fresh each.0.1) in
    let same = same_head (step_of m) (step_of l) (replicate (m.steps - 1) (step_of m) ++ steps_of ms) rest (sym first ∙ e) in
    absurd (false_not_true (sym apart.0 ∙ goes l m same none room))

not_more : (l m : OrderLine) (ls ms : List OrderLine) → IsLine l → IsLine m → AllByRecursion IsLine ls → AreApartAfter l ls → (step_of l) ≡ (step_of m) → steps_of (l ∷ ls) ≡ steps_of (m ∷ ms) → l.steps < m.steps → ⊥
not_more l m ls ms il im each apart same e less =
    let alike : replicate m.steps (step_of m) ++ steps_of ms ≡ replicate m.steps (step_of l) ++ steps_of ms = ap (λ x. replicate m.steps x ++ steps_of ms) (sym same) in
    let names : m.fresh ≡ l.fresh = sym (snd_is (step_of l) (step_of m) same) in
    let more = more_steps l.steps m.steps l.fresh il.1 (subst (λ x. AreSteps m.steps x) names im.1) less in
    let left = left_over l.steps m.steps (step_of l) (steps_of ls) (steps_of ms) less (e ∙ alike) in
    full l ls (replicate (m.steps - l.steps - 1) (step_of l) ++ steps_of ms) apart each more.0 more.1
    (left ∙ first_step (m.steps - l.steps) (step_of l) (steps_of ms) (omega (arith, less)))

apart_later : (l : OrderLine) (ls : List OrderLine) → AreApartAfter l ls → AreApart ls
apart_later l [] h = tt
apart_later l (m ∷ ms) h = h.1

no_steps : (l : OrderLine) (ls : List OrderLine) → IsLine l → [] ≡ steps_of (l ∷ ls) → ⊥
no_steps l ls is e = absurd (let first = first_step l.steps (step_of l) (steps_of ls) (some_steps l.steps l.fresh is.1) in cc (e, first))

same_line : (l m : OrderLine) → l.place ≡ m.place → (step_of l) ≡ (step_of m) → l.steps ≡ m.steps → l ≡ m
same_line l m place same steps =
    ap (λ (p : ℕ). record l { place = p }) place ∙ ap (λ (x : ℕ × Fresh). record { place = m.place; thread = x.0; steps = l.steps; fresh = x.1 }) same ∙ ap (λ (n : ℕ). record m { steps = n }) steps

-- the lines that spell some steps are told by these steps
same_lines : (ls ms : List OrderLine) (place : ℕ) → AllByRecursion IsLine ls → AllByRecursion IsLine ms → ArePlaced place ls → ArePlaced place ms → AreApart ls → AreApart ms → steps_of ls ≡ steps_of ms → ls ≡ ms
same_lines [] [] place el em pl pm al am e = refl
same_lines [] (m ∷ ms) place el em pl pm al am e = absurd (no_steps m ms em.0 e)
same_lines (l ∷ ls) [] place el em pl pm al am e = absurd (no_steps l ls el.0 (sym e))
same_lines (l ∷ ls) (m ∷ ms) place el em pl pm al am e =
    let x = first_step l.steps (step_of l) (steps_of ls) (some_steps l.steps l.fresh el.0.1) in
    let y = first_step m.steps (step_of m) (steps_of ms) (some_steps m.steps m.fresh em.0.1) in
    let same = same_head (step_of l) (step_of m) (replicate (l.steps - 1) (step_of l) ++ steps_of ls) (replicate (m.steps - 1) (step_of m) ++ steps_of ms) (sym x ∙ e ∙ y) in
    let steps : l.steps ≡ m.steps = elim (cases_order l.steps m.steps) [
      | inl s ↦ s
      | inr (inl less) ↦ absurd (not_more l m ls ms el.0 em.0 el.1 al same e less)
      | inr (inr less) ↦ absurd (not_more m l ms ls em.0 el.0 em.1 am (sym same) (sym e) less)
    ] in
    let line = same_line l m (pl.0 ∙ sym pm.0) same steps in
    let rest = append_cancel_left (steps_of_line m) (steps_of ls) (steps_of ms) (ap (λ k. steps_of_line k ++ steps_of ls) (sym line) ∙ e) in
    let placed : ArePlaced (place + length (spell m)) ls = subst (λ (k : OrderLine). ArePlaced (place + length (spell k)) ls) line pl.1 in
    ap (λ k. k ∷ ls) line ∙ ap (λ ks. m ∷ ks) (same_lines ls ms (place + length (spell m)) el.1 em.1 placed pm.1 (apart_later l ls al) (apart_later m ms am) rest)

pub one_text : (steps : List (ℕ × Fresh)) (one other : List ℕ) → IsOrderText steps one → IsOrderText steps other → one ≡ other
one_text steps one other a b =
    a.text.text ∙ ap (λ ls. flat_map spell ls ++ []) (same_lines a.lines b.lines 0 a.text.lines b.text.lines a.text.places b.text.places a.apart b.apart (a.spelled ∙ sym b.spelled)) ∙ sym b.text.text
