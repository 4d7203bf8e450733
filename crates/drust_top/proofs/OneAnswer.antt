-- Words and an input have one answer.
use Rattle.std.proofs.Common.{◌≡◌, ℕ, ◌<◌, ◌≤◌, List, [], length, true, false, Option, Some, None, inl, inr, refl, sym, ap, ◌∙◌, subst, arith}
use Rattle.std.specs.Prelude.{IsSome, is_some}
use Rattle.fr_base.specs.declared.settings.Options.{Options}
use Rattle.fr_base.specs.declared.step.Ending.{Ending}
use Rattle.fr_base.specs.declared.step.Ending.TheVariants as ending
use Rattle.fr_terms.specs.Terms.{Term}
use Rattle.fr_plain.specs.Whole.{Stepped, plain, ending_of}
use Rattle.fr_plain.specs.Resolve.{program}
use Rattle.journal.specs.declared.order.OrderLine.{OrderLine}
use Rattle.fr_typing.specs.Kinds.{own, unit}
use Rattle.gen_load.specs.Programs.{program_text}
use Rattle.law_plain_generated.specs.Laws.{ProgramsAreSources}
use Rattle.drust_cli.specs.declared.asked.Asked.{Asked}
use Rattle.drust_cli.specs.declared.asked.Command.{Command}
use Rattle.drust_cli.specs.declared.asked.Command.TheVariants.{Run, Replay, Gen, Load}
use Rattle.drust_cli.specs.Asked.{asked}
use Rattle.server_answers.specs.Below.drust_run.declared.ran.Ran.{Ran}
use Rattle.source_front.specs.Typed.{IsTyped, limit}
use Rattle.source_front.specs.Refusals.{status_of as status_of_refusal, text_of}
use Rattle.source_front.proofs.Refusals.{one_cause, typed_unrefused}
use Rattle.replay_answers.specs.Replay.{HasOrder, turns, status_of_ending}
use Rattle.drust_top.proofs.Ranges.{asked_size}
use Rattle.replay_answers.proofs.Replaying.{one_replied, follows_reply}
use Rattle.server_answers.specs.Answers.{status_of, ran, refused}
use Rattle.server_answers.specs.Answers as run_answers
use Rattle.server_answers.proofs.Once.{AreAlike, sources_alike, reports_alike, summaries_alike}
use Rattle.drust_top.specs.Headline.{Within, OfLeft, RepliesTo, Makes, reads, replied, made, words_refused, too_long, IsOfRun}
use Rattle.drust_top.specs.OneAnswer.{Agree, OneAnswer, TypedRuns, TypedFollows, LoadsRun}

-- words ask for something, or for nothing
pub not_both : {A : Type 0} (o : Option Asked) (a : Asked) → o ≡ Some a → o ≡ None → A
not_both o a h g = let e : Some a ≡ None = sym h ∙ g in absurd cc

-- words ask for one thing
pub one_asked : (a b : Asked) (o : Option Asked) → o ≡ Some a → o ≡ Some b → a ≡ b
one_asked a b o h g = let e : Some a ≡ Some b = sym h ∙ g in cc

-- a run has a status of one
run_status : (e : Ending) → IsOfRun (status_of e)
run_status ending.Finished = inl refl
run_status ending.Deadlocked = inr (inl refl)
run_status ending.Unfinished = inr (inr refl)

-- what tells of a run is one text for runs that left the same
abbrev IsOneText : (Ran → List ℕ → Type 0) → Type 0
IsOneText Tells = (q r : Ran) (x y : List ℕ) → AreAlike q r → Tells q x → Tells r y → x ≡ y

-- the answers to a source that is to be run
run_agree : (Tells : Ran → List ℕ → Type 0) → IsOneText Tells → (bytes : List ℕ) (o : Options) (q r : Option Ran) (s t : ℕ) (x y : List ℕ) → run_answers.Answers Tells bytes o q s x → run_answers.Answers Tells bytes o r t y → Agree q r s t x y
run_agree Tells one_text bytes o q r s t x y (ran p u h is told) (ran k v g has tells) =
    let alike = sources_alike bytes p k o u v h g is has in
    record { runs = refl; status = ap status_of alike.ends; text = one_text u v x y alike told tells }
run_agree Tells one_text bytes o q r s t x y (ran p u h is told) (refused why g) = absurd (typed_unrefused bytes p why h g)
run_agree Tells one_text bytes o q r s t x y (refused why h) (ran k v g has tells) = absurd (typed_unrefused bytes k why g h)
run_agree Tells one_text bytes o q r s t x y (refused why h) (refused other g) = let same = one_cause bytes why other h g in record { runs = refl; status = ap status_of_refusal same; text = ap text_of same }

no_runs : (q r : Option Ran) (s t : ℕ) (x y : List ℕ) → q ≡ None → r ≡ None → (s ≡ t) × (x ≡ y) → Agree q r s t x y
no_runs q r s t x y h g same = record { runs = ap is_some (h ∙ sym g); status = same.0; text = same.1 }

-- the replies to an input
reply_agree : (c : Command) (o : Options) (bytes : List ℕ) (q r : Option Ran) (s t : ℕ) (x y : List ℕ) → RepliesTo c o bytes q s x → RepliesTo c o bytes r t y → Agree q r s t x y
reply_agree Run o bytes q r s t x y h g = run_agree _ (reports_alike o.trace) bytes o q r s t x y h g
reply_agree Replay o bytes q r s t x y h g = no_runs q r s t x y h.0 g.0 (one_replied bytes s t x y h.1 g.1)
reply_agree Gen o bytes q r s t x y h g = absurd h
reply_agree Load o bytes q r s t x y h g = absurd h

-- and what is made without one
made_agree : (c : Command) (o : Options) (number size : ℕ) (q r : Option Ran) (s t : ℕ) (x y : List ℕ) → Makes c o number size q s x → Makes c o number size r t y → Agree q r s t x y
made_agree Run o number size q r s t x y h g = absurd h
made_agree Replay o number size q r s t x y h g = absurd h
made_agree Gen o number size q r s t x y h g = no_runs q r s t x y h.0 g.0 (h.1 ∙ sym g.1, h.2 ∙ sym g.2)
made_agree Load o number size q r s t x y h g = run_agree _ summaries_alike (program_text number size) o q r s t x y h g

-- a command has an input or none
apart : {A : Type 0} (c : Command) (o p : Options) (bytes : List ℕ) (number size : ℕ) (q r : Option Ran) (s t : ℕ) (x y : List ℕ) → RepliesTo c o bytes q s x → Makes c p number size r t y → A
apart Run o p bytes number size q r s t x y h g = absurd g
apart Replay o p bytes number size q r s t x y h g = absurd g
apart Gen o p bytes number size q r s t x y h g = absurd h
apart Load o p bytes number size q r s t x y h g = absurd h

unread : {A : Type 0} (c : Command) (o : Options) (number size : ℕ) (r : Option Ran) (t : ℕ) (y : List ℕ) → reads c ≡ true → Makes c o number size r t y → A
unread Run o number size r t y e g = absurd g
unread Replay o number size r t y e g = absurd g
unread Gen o number size r t y e g = absurd cc
unread Load o number size r t y e g = absurd cc

within : {A : Type 0} (bytes : List ℕ) → length bytes ≤ limit → limit < length bytes → A
within bytes h g = absurd (omega (arith, h, g))

pub one : OneAnswer
one words bytes q r s t x y (replied a h i) (replied b g j) =
    let same = one_asked a b (asked words) h g in
    reply_agree b.command b.options bytes q r s t x y (subst (λ (c : Asked). RepliesTo c.command c.options bytes q s x) same i.holds) j.holds
one words bytes q r s t x y (replied a h i) (made b g j) =
    let same = one_asked a b (asked words) h g in
    apart b.command a.options b.options bytes b.number b.size q r s t x y (subst (λ (c : Asked). RepliesTo c.command a.options bytes q s x) same i.holds) j
one words bytes q r s t x y (replied a h i) (words_refused g) = not_both (asked words) a h g
one words bytes q r s t x y (replied a h i) (too_long b g on j) = within bytes i.size j
one words bytes q r s t x y (made a h i) (replied b g j) =
    let same = one_asked b a (asked words) g h in
    apart a.command b.options a.options bytes a.number a.size r q t s y x (subst (λ (c : Asked). RepliesTo c.command b.options bytes r t y) same j.holds) i
one words bytes q r s t x y (made a h i) (made b g j) =
    let same = one_asked a b (asked words) h g in
    made_agree b.command b.options b.number b.size q r s t x y (subst (λ (c : Asked). Makes c.command c.options c.number c.size q s x) same i) j
one words bytes q r s t x y (made a h i) (words_refused g) = not_both (asked words) a h g
one words bytes q r s t x y (made a h i) (too_long b g on j) =
    let same = one_asked b a (asked words) g h in
    unread a.command a.options a.number a.size q s x (subst (λ (c : Asked). reads c.command ≡ true) same on) i
one words bytes q r s t x y (words_refused h) (replied b g j) = not_both (asked words) b g h
one words bytes q r s t x y (words_refused h) (made b g j) = not_both (asked words) b g h
one words bytes q r s t x y (words_refused h) (words_refused g) = no_runs None None _ _ _ _ refl refl (refl, refl)
one words bytes q r s t x y (words_refused h) (too_long b g on j) = not_both (asked words) b g h
one words bytes q r s t x y (too_long a h on i) (replied b g j) = within bytes j.size i
one words bytes q r s t x y (too_long a h on i) (made b g j) =
    let same = one_asked a b (asked words) h g in
    unread b.command b.options b.number b.size r t y (subst (λ (c : Asked). reads c.command ≡ true) same on) j
one words bytes q r s t x y (too_long a h on i) (words_refused g) = not_both (asked words) a h g
one words bytes q r s t x y (too_long a h on i) (too_long b g onn j) = no_runs None None _ _ _ _ refl refl (refl, refl)

-- a typed program's source has a run
typed_run : (Tells : Ran → List ℕ → Type 0) (bytes : List ℕ) (o : Options) (p : Term) (r : Option Ran) (s : ℕ) (x : List ℕ) → IsTyped bytes p → run_answers.Answers Tells bytes o r s x → IsSome r × IsOfRun s
typed_run Tells bytes o p r s x known (ran k u h is told) = (refl, run_status u.ending)
typed_run Tells bytes o p r s x known (refused why h) = absurd (typed_unrefused bytes p why known h)

by_run : (c : Command) (o : Options) (bytes : List ℕ) (p : Term) (r : Option Ran) (s : ℕ) (x : List ℕ) → c ≡ Run → IsTyped bytes p → RepliesTo c o bytes r s x → IsSome r × IsOfRun s
by_run c o bytes p r s x e known h = typed_run _ bytes o p r s x known (subst (λ k. RepliesTo k o bytes r s x) e h)

no_make : {A : Type 0} (c d : Command) (o : Options) (number size : ℕ) (r : Option Ran) (s : ℕ) (x : List ℕ) → c ≡ d → reads d ≡ true → Makes c o number size r s x → A
no_make c d o number size r s x e on h = unread c o number size r s x (ap reads e ∙ on) h

pub runs : TypedRuns
runs words a bytes p r s x is run size known (replied b g j) =
    let same = one_asked b a (asked words) g is in
    by_run b.command b.options bytes p r s x (ap (λ (c : Asked). c.command) same ∙ run) known j.holds
runs words a bytes p r s x is run size known (made b g j) =
    let same = one_asked b a (asked words) g is in
    no_make b.command Run b.options b.number b.size r s x (ap (λ (c : Asked). c.command) same ∙ run) refl j
runs words a bytes p r s x is run size known (words_refused g) = not_both (asked words) a is g
runs words a bytes p r s x is run size known (too_long b g on j) = within bytes size j

by_order : (c : Command) (o : Options) (bytes : List ℕ) (p : Term) (lines : List OrderLine) (last : Stepped) (r : Option Ran) (s : ℕ) (x : List ℕ) → c ≡ Replay → HasOrder bytes p lines → plain (program p) (turns lines) ≡ Some last → RepliesTo c o bytes r s x → s ≡ status_of_ending (ending_of last.state)
by_order c o bytes p lines last r s x e known goes h = let g = subst (λ k. RepliesTo k o bytes r s x) e h in follows_reply bytes p lines last s x known goes g.1

pub follows : TypedFollows
follows words a bytes p lines last r s x is replay size known goes (replied b g j) =
    let same = one_asked b a (asked words) g is in
    by_order b.command b.options bytes p lines last r s x (ap (λ (c : Asked). c.command) same ∙ replay) known goes j.holds
follows words a bytes p lines last r s x is replay size known goes (made b g j) =
    let same = one_asked b a (asked words) g is in
    no_make b.command Replay b.options b.number b.size r s x (ap (λ (c : Asked). c.command) same ∙ replay) refl j
follows words a bytes p lines last r s x is replay size known goes (words_refused g) = not_both (asked words) a is g
follows words a bytes p lines last r s x is replay size known goes (too_long b g on j) = within bytes size j

-- A GENERATED PROGRAM HAS A RUN

unmade : {A : Type 0} (c : Command) (o : Options) (bytes : List ℕ) (r : Option Ran) (s : ℕ) (x : List ℕ) → reads c ≡ false → RepliesTo c o bytes r s x → A
unmade Run o bytes r s x e h = absurd cc
unmade Replay o bytes r s x e h = absurd cc
unmade Gen o bytes r s x e h = absurd h
unmade Load o bytes r s x e h = absurd h

not_read : {A : Type 0} (c : Command) (o : Options) (left : Option (List ℕ)) (r : Option Ran) (s : ℕ) (x : List ℕ) → reads c ≡ false → OfLeft left (Within (λ bytes. RepliesTo c o bytes r s x)) → A
not_read c o None r s x e h = unmade c o h.0 r s x e h.1.holds
not_read c o (Some bytes) r s x e h = unmade c o bytes r s x e h.holds

by_load : (c : Command) (o : Options) (number size : ℕ) (r : Option Ran) (s : ℕ) (x : List ℕ) → ProgramsAreSources → 1 ≤ size → size ≤ 4000 → c ≡ Load → Makes c o number size r s x → IsSome r × IsOfRun s
by_load c o number size r s x sources some few e h =
    let p = sources number size some few in
    typed_run _ (program_text number size) o p.term r s x (record { source = p.source; kind = own unit; after = []; types = p.typed }) (subst (λ k. Makes k o number size r s x) e h)

pub loads : ProgramsAreSources → LoadsRun
loads sources words a left r s x is load (replied b g j) =
    let same = one_asked b a (asked words) g is in
    not_read b.command b.options left r s x (ap reads (ap (λ (c : Asked). c.command) same ∙ load)) j
loads sources words a left r s x is load (made b g j) =
    let same = one_asked b a (asked words) g is in
    let size = asked_size words b g in
    by_load b.command b.options b.number b.size r s x sources size.least size.most (ap (λ (c : Asked). c.command) same ∙ load) j
loads sources words a left r s x is load (words_refused g) = not_both (asked words) a is g
loads sources words a left r s x is load (too_long b g on j) =
    let same = one_asked b a (asked words) g is in
    let e : reads Load ≡ true = ap reads (sym (ap (λ (c : Asked). c.command) same ∙ load)) ∙ on in absurd cc
