-- The causes of a replay's answers exclude one another, and each leaves one text.
use Rattle.std.proofs.Common.{◌≡◌, ℕ, ◌+◌, Bool, true, false, List, [], ◌∷◌, ◌++◌, length, Option, Some, None, refl, sym, ap, ap₂, ◌∙◌, subst, ◌⊎◌, inl, inr}
use Rattle.std.specs.Prelude.{◌==◌}
use Rattle.fr_terms.specs.Terms.{Term}
use Rattle.fr_grammar.proofs.Programs.{source_once}
use Rattle.fr_plain.specs.Resolve.{program}
use Rattle.fr_plain.specs.Whole.{Whole, Stepped, then_labels, go_on, run, start, plain, ending_of}
use Rattle.journal.specs.declared.order.OrderLine.{OrderLine}
use Rattle.journal.specs.OrderText.{IsOrder}
use Rattle.journal.proofs.OneReading.{one_lines, one_fault, never_both}
use Rattle.source_front.specs.declared.refused.Refused.{Refused}
use Rattle.source_front.specs.declared.refused.Refused.TheVariants.{Tokens, Grammar, Fault, Order, NoMemory}
use Rattle.replay_answers.specs.Replay.{source_in, source_length, behind_source, order_start, turns, status_of_ending, replay_text, HasLines, HasOrder, Replays, IsNoStep, IsBadOrder, bad_line, bad_step, IsBadAfter, IsBadBehind, HasBadOrder}
use Rattle.source_front.specs.Refusals.{HasCause, status_of, text_of}
use Rattle.replay_answers.specs.Answers.{HasReplayCause, Replayed, followed, unfollowed}
use Rattle.replay_answers.proofs.Following.{run_append, turns_both}
use Rattle.source_front.proofs.Refusals.{one_cause}
use Rattle.source_front.proofs.Refusals.{typed_unrefused}

-- ONE ORDER

one_behind : (a b : List ℕ) → 37 ∷ 10 ∷ a ≡ 37 ∷ 10 ∷ b → a ≡ b
one_behind a b h = cc

-- bytes have one list of lines behind the source
lines_once : (bytes : List ℕ) (ls ms : List OrderLine) → HasLines bytes ls → HasLines bytes ms → ls ≡ ms
lines_once bytes ls ms h g =
    let same = one_behind h.order g.order (sym h.marked ∙ g.marked) in
    one_lines (order_start bytes) g.order ls ms (subst (λ o. IsOrder (order_start bytes) o ls) same h.spelled) g.spelled

Some-same : (a b : Stepped) → Some a ≡ Some b → a ≡ b
Some-same a b h = cc

-- a replay has one status and one text
one_replay : (bytes : List ℕ) (s t : ℕ) (x y : List ℕ) → Replays bytes s x → Replays bytes t y → (s ≡ t) × (x ≡ y)
one_replay bytes s t x y h g =
    let term = source_once (source_in bytes) h.term g.term h.order.typed.source g.order.typed.source in
    let lines = lines_once bytes h.lines g.lines h.order.behind g.order.behind in
    let a = h.replayed in
    let b = g.replayed in
    let last : a.last ≡ b.last = Some-same a.last b.last (sym a.goes ∙ ap₂ (λ p ls. plain (program p) (turns ls)) term lines ∙ b.goes) in (
      a.stands ∙ ap (λ (e : Stepped). status_of_ending (ending_of e.state)) last ∙ sym b.stands,
      a.written ∙ ap₂ (λ ls (e : Stepped). replay_text (ending_of e.state) (length (turns ls)) e.state.output) lines last ∙ sym b.written,
    )

-- ONE PLACE

-- what goes on is there
record GoesFrom (o : Option Stepped) (f : Whole → Option Stepped) (x : Stepped) : Type 0 where
  pub first : Stepped
  pub is : o ≡ Some first
  pub next : Stepped
  pub goes : f first.state ≡ Some next

goes_from : (o : Option Stepped) (f : Whole → Option Stepped) (x : Stepped) → go_on o f ≡ Some x → GoesFrom o f x
goes_from None f x h = absurd cc
goes_from (Some z) f x h = by (f z.state) refl h
  where
    by : (p : Option Stepped) → f z.state ≡ p → then_labels z.labels p ≡ Some x → GoesFrom (Some z) f x
    by None e i = absurd cc
    by (Some y) e i = record { first = z; is = refl; next = y; goes = e }

-- the first of some lines and the others
in_two : (s : Whole) (l : OrderLine) (ls : List OrderLine) → run s (turns (l ∷ ls)) ≡ go_on (run s (turns (l ∷ []))) (λ m. run m (turns ls))
in_two s l ls = ap (run s) (turns_both (l ∷ []) ls) ∙ run_append s (turns (l ∷ [])) (turns ls)

-- a line whose steps are not all plain steps is the end of each run
stuck_there : (s : Whole) (front rest : List OrderLine) (l : OrderLine) (m : Stepped) (x : Stepped) → run s (turns front) ≡ Some m → run m.state (turns (l ∷ [])) ≡ None → run s (turns (front ++ l ∷ rest)) ≡ Some x → ⊥
stuck_there s front rest l m x goes stuck all =
    let cut : run s (turns (front ++ l ∷ rest)) ≡ go_on (Some m) (λ k. run k (turns (l ∷ rest))) = ap (run s) (turns_both front (l ∷ rest)) ∙ run_append s (turns front) (turns (l ∷ rest)) ∙ ap (λ o. go_on o (λ k. run k (turns (l ∷ rest)))) goes in
    let here : run m.state (turns (l ∷ rest)) ≡ None = in_two m.state l rest ∙ ap (λ o. go_on o (λ k. run k (turns rest))) stuck in
    let none : None ≡ Some x = sym (cut ∙ ap (then_labels m.labels) here) ∙ all in
    cc

first_of : (a b : OrderLine) (xs ys : List OrderLine) → a ∷ xs ≡ b ∷ ys → a ≡ b
first_of a b xs ys h = cc

rest_of : (a b : OrderLine) (xs ys : List OrderLine) → a ∷ xs ≡ b ∷ ys → xs ≡ ys
rest_of a b xs ys h = cc

abbrev Leads : Whole → List OrderLine → Type 0
Leads s ls = (m : Stepped) × (run s (turns ls) ≡ Some m)

-- the line at which a run from this state stops
record Stops (s : Whole) (front : List OrderLine) (l : OrderLine) : Type 0 where
  pub reached : Stepped
  pub goes : run s (turns front) ≡ Some reached
  pub stuck : run reached.state (turns (l ∷ [])) ≡ None

-- a line that is passed is no stop
passed : (s : Whole) (l : OrderLine) (ls : List OrderLine) (k : OrderLine) → Stops s [] k → Stops s (k ∷ ls) l → ⊥
passed s l ls k h g =
    let start : record { state = s; labels = [] } ≡ h.reached = Some-same (record { state = s; labels = [] }) h.reached h.goes in
    let first = goes_from (run s (turns (k ∷ []))) (λ m. run m (turns ls)) g.reached (sym (in_two s k ls) ∙ g.goes) in
    let none : None ≡ Some first.first = sym (ap (λ (x : Stepped). run x.state (turns (k ∷ []))) start ∙ h.stuck) ∙ first.is in
    cc

-- behind its first line a run stops where it did
behind : (s : Whole) (k l : OrderLine) (ls : List OrderLine) (m : Stepped) → run s (turns (k ∷ [])) ≡ Some m → Stops s (k ∷ ls) l → Stops m.state ls l
behind s k l ls m first h =
    let cut : go_on (Some m) (λ n. run n (turns ls)) ≡ Some h.reached = sym (in_two s k ls ∙ ap (λ o. go_on o (λ n. run n (turns ls))) first) ∙ h.goes in
    let next = goes_from (Some m) (λ n. run n (turns ls)) h.reached cut in
    by (run m.state (turns ls)) refl cut
  where
    by : (o : Option Stepped) → run m.state (turns ls) ≡ o → then_labels m.labels o ≡ Some h.reached → Stops m.state ls l
    by None e i = absurd cc
    by (Some y) e i =
        let same : y.state ≡ h.reached.state = ap (λ (x : Stepped). x.state) (Some-same (record { state = y.state; labels = m.labels ++ y.labels }) h.reached i) in
        record { reached = y; goes = e; stuck = ap (λ t. run t (turns (l ∷ []))) same ∙ h.stuck }

-- the lines of an order have one stop
one_stop : (s : Whole) (xs ys rest other : List OrderLine) (l k : OrderLine) → xs ++ l ∷ rest ≡ ys ++ k ∷ other → Stops s xs l → Stops s ys k → l ≡ k
one_stop s [] [] rest other l k e h g = first_of l k rest other e
one_stop s [] (b ∷ ys) rest other l k e h g = absurd (passed s k ys b (subst (λ x. Stops s [] x) (first_of l b rest (ys ++ k ∷ other) e) h) g)
one_stop s (a ∷ xs) [] rest other l k e h g = absurd (passed s l xs a (subst (λ x. Stops s [] x) (sym (first_of a k (xs ++ l ∷ rest) other e)) g) h)
one_stop s (a ∷ xs) (b ∷ ys) rest other l k e h g =
    let same = first_of a b (xs ++ l ∷ rest) (ys ++ k ∷ other) e in
    let first = goes_from (run s (turns (a ∷ []))) (λ m. run m (turns xs)) h.reached (sym (in_two s a xs) ∙ h.goes) in
    one_stop first.first.state xs ys rest other l k (rest_of a b (xs ++ l ∷ rest) (ys ++ k ∷ other) e)
    (behind s a l xs first.first first.is h)
    (behind s b k ys first.first (ap (λ x. run s (turns (x ∷ []))) (sym same) ∙ first.is) g)

stops : (s : Whole) (lines : List OrderLine) (p : ℕ) (h : IsNoStep s lines p) → Stops s h.front h.line
stops s lines p h = record { reached = h.reached; goes = h.goes; stuck = h.stuck }

one_no_step : (s : Whole) (ls ms : List OrderLine) (p q : ℕ) → ls ≡ ms → IsNoStep s ls p → IsNoStep s ms q → p ≡ q
one_no_step s ls ms p q same h g =
    h.here ∙ ap (λ (l : OrderLine). l.place) (one_stop s h.front g.front h.rest g.rest h.line g.line (sym h.whole ∙ same ∙ g.whole) (stops s ls p h) (stops s ms q g)) ∙ sym g.here

-- an order is refused at one place
one_bad : (t : Term) (from : ℕ) (order : List ℕ) (p q : ℕ) → IsBadOrder t from order p → IsBadOrder t from order q → p ≡ q
one_bad t from order p q (bad_line h) (bad_line g) = one_fault from order p q h g
one_bad t from order p q (bad_line h) (bad_step ms o g) = absurd (never_both from order ms p o h)
one_bad t from order p q (bad_step ls o h) (bad_line g) = absurd (never_both from order ls q o g)
one_bad t from order p q (bad_step ls o h) (bad_step ms n g) = one_no_step (start (program t)) ls ms p q (one_lines from order ls ms o n) h g

one_bad_behind : (t : Term) (at : ℕ) (rest : List ℕ) (p q : ℕ) → IsBadBehind t at rest p → IsBadBehind t at rest q → p ≡ q
one_bad_behind t at [] p q h g = h ∙ sym g
one_bad_behind t at (mark ∷ []) p q h g = h ∙ sym g
one_bad_behind t at (mark ∷ byte ∷ order) p q h g = by (byte == 10) h g
  where
    by : (b : Bool) → IsBadAfter b t at order p → IsBadAfter b t at order q → p ≡ q
    by true i j = one_bad t (at + 2) order p q i j
    by false i j = i ∙ sym j

one_bad_order : (bytes : List ℕ) (p q : ℕ) → HasBadOrder bytes p → HasBadOrder bytes q → p ≡ q
one_bad_order bytes p q h g =
    let same = source_once (source_in bytes) h.term g.term h.typed.source g.typed.source in
    one_bad_behind g.term (source_length bytes) (behind_source bytes) p q (subst (λ t. IsBadBehind t (source_length bytes) (behind_source bytes) p) same h.bad) g.bad

-- an order whose steps are plain steps is refused nowhere
well_ordered : (t : Term) (from : ℕ) (order : List ℕ) (ls : List OrderLine) (x : Stepped) (p : ℕ) → IsOrder from order ls → plain (program t) (turns ls) ≡ Some x → IsBadOrder t from order p → ⊥
well_ordered t from order ls x p o goes (bad_line h) = never_both from order ls p o h
well_ordered t from order ls x p o goes (bad_step ms n h) =
    let same : ls ≡ h.front ++ h.line ∷ h.rest = one_lines from order ls ms o n ∙ h.whole in
    stuck_there (start (program t)) h.front h.rest h.line h.reached x h.goes h.stuck (sym (ap (λ ks. run (start (program t)) (turns ks)) same) ∙ goes)

followed_unrefused : (bytes : List ℕ) (t : Term) (ls : List OrderLine) (x : Stepped) (p : ℕ) → HasOrder bytes t ls → plain (program t) (turns ls) ≡ Some x → HasBadOrder bytes p → ⊥
followed_unrefused bytes t ls x p h goes b =
    let same = source_once (source_in bytes) b.term t b.typed.source h.typed.source in
    let marked = subst (λ rest. IsBadBehind b.term (source_length bytes) rest p) h.behind.marked b.bad in
    well_ordered t (order_start bytes) h.behind.order ls x p h.behind.spelled goes (subst (λ u. IsBadOrder u (order_start bytes) h.behind.order p) same marked)

-- ONE ANSWER

-- a cause is that of the order, or of the source
of_order : (bytes : List ℕ) (why : Refused) → HasReplayCause bytes why → ((p : ℕ) × (why ≡ Order p) × HasBadOrder bytes p) ⊎ HasCause (source_in bytes) why
of_order bytes (Tokens e) h = inr h
of_order bytes (Grammar e) h = inr h
of_order bytes (Fault p why) h = inr h
of_order bytes (Order p) h = inl (p, refl, h)
of_order bytes NoMemory h = inr h

both_of : (bytes : List ℕ) (a b : Refused) → ((p : ℕ) × (a ≡ Order p) × HasBadOrder bytes p) ⊎ HasCause (source_in bytes) a → ((q : ℕ) × (b ≡ Order q) × HasBadOrder bytes q) ⊎ HasCause (source_in bytes) b → a ≡ b
both_of bytes a b (inl h) (inl g) = h.1 ∙ ap Order (one_bad_order bytes h.0 g.0 h.2 g.2) ∙ sym g.1
both_of bytes a b (inl h) (inr g) = absurd (typed_unrefused (source_in bytes) h.2.term b h.2.typed g)
both_of bytes a b (inr h) (inl g) = absurd (typed_unrefused (source_in bytes) g.2.term a g.2.typed h)
both_of bytes a b (inr h) (inr g) = one_cause (source_in bytes) a b h g

one_replay_cause : (bytes : List ℕ) (a b : Refused) → HasReplayCause bytes a → HasReplayCause bytes b → a ≡ b
one_replay_cause bytes a b h g = both_of bytes a b (of_order bytes a h) (of_order bytes b g)

-- the source of a typed program with an order of plain steps has no refusal
follows_unrefused : (bytes : List ℕ) (t : Term) (ls : List OrderLine) (x : Stepped) (why : Refused) → HasOrder bytes t ls → plain (program t) (turns ls) ≡ Some x → HasReplayCause bytes why → ⊥
follows_unrefused bytes t ls x why h goes cause = by (of_order bytes why cause)
  where
    by : ((p : ℕ) × (why ≡ Order p) × HasBadOrder bytes p) ⊎ HasCause (source_in bytes) why → ⊥
    by (inl c) = followed_unrefused bytes t ls x c.0 h goes c.2
    by (inr c) = typed_unrefused (source_in bytes) t why h.typed c

-- an input has one reply
pub one_replied : (bytes : List ℕ) (s t : ℕ) (x y : List ℕ) → Replayed bytes s x → Replayed bytes t y → (s ≡ t) × (x ≡ y)
one_replied bytes s t x y (followed h) (followed g) = one_replay bytes s t x y h g
one_replied bytes s t x y (followed h) (unfollowed why g) = absurd (follows_unrefused bytes h.term h.lines h.replayed.last why h.order h.replayed.goes g)
one_replied bytes s t x y (unfollowed why h) (followed g) = absurd (follows_unrefused bytes g.term g.lines g.replayed.last why g.order g.replayed.goes h)
one_replied bytes s t x y (unfollowed why h) (unfollowed other g) = let same = one_replay_cause bytes why other h g in (ap status_of same, ap text_of same)

-- a source with an order of plain steps has the reply of its run
pub follows_reply : (bytes : List ℕ) (p : Term) (ls : List OrderLine) (last : Stepped) (s : ℕ) (x : List ℕ) → HasOrder bytes p ls → plain (program p) (turns ls) ≡ Some last → Replayed bytes s x → s ≡ status_of_ending (ending_of last.state)
follows_reply bytes p ls last s x h goes (followed r) =
    (one_replay bytes s (status_of_ending (ending_of last.state)) x (replay_text (ending_of last.state) (length (turns ls)) last.state.output) r
    (record { term = p; lines = ls; order = h; replayed = record { last = last; goes = goes; stands = refl; written = refl } })).0
follows_reply bytes p ls last s x h goes (unfollowed why cause) = absurd (follows_unrefused bytes p ls last why h goes cause)
