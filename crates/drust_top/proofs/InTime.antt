-- With turns enough no run of a typed source is unfinished.
use Rattle.std.proofs.Common.{◌≡◌, ◌≢◌, ◌≤◌, ℕ, ◌+◌, ◌*◌, List, Option, Some, inl, inr, refl, ap, ◌∙◌, subst}
use Rattle.std.specs.Prelude.{IfSome}
use Rattle.fr_base.specs.declared.settings.Options.{Options}
use Rattle.fr_base.specs.declared.step.Ending.{Ending}
use Rattle.fr_base.specs.declared.step.Ending.TheVariants as ending
use Rattle.fr_terms.specs.Terms.{Term}
use Rattle.drust_cli.specs.declared.asked.Asked.{Asked}
use Rattle.drust_cli.specs.declared.asked.Command.{Command}
use Rattle.drust_cli.specs.declared.asked.Command.TheVariants.{Run}
use Rattle.drust_cli.specs.Asked.{asked}
use Rattle.server_answers.specs.Below.drust_run.declared.ran.Ran.{Ran}
use Rattle.server_answers.specs.Below.law_length_programs.sizes.Size.{nodes_of}
use Rattle.source_front.specs.Typed.{IsTyped}
use Rattle.source_front.proofs.Refusals.{typed_unrefused}
use Rattle.server_answers.specs.Runs.{IsRight}
use Rattle.server_answers.specs.Answers.{IsReportOf, status_of, ran, refused}
use Rattle.server_answers.specs.Answers as run_answers
use Rattle.server_answers.proofs.Once.{one_program}
use Rattle.drust_top.specs.Headline.{RepliesTo, Makes, Answers, replied, made, words_refused, too_long, IsAnswer, Answered, IsRightOf, IsRightFor, NeverUnfinished}
use Rattle.drust_top.proofs.OneAnswer.{not_both, one_asked}

-- the run with status 2 is the unfinished one
unfinished_by : (e : Ending) → status_of e ≡ 2 → e ≡ ending.Unfinished
unfinished_by ending.Finished two = absurd cc
unfinished_by ending.Deadlocked two = absurd cc
unfinished_by ending.Unfinished two = refl

-- a run that is right has ended where there are turns enough
right_ended : (bytes : List ℕ) (t : Term) (o : Options) (r : Ran) → IsRight bytes o r → IsTyped bytes t → 100 * (2 * nodes_of t + 1) ≤ o.turns → r.ending ≢ ending.Unfinished
right_ended bytes t o r right typed enough = right.enough (subst (λ u. 100 * (2 * nodes_of u + 1) ≤ o.turns) (one_program bytes t right.term typed right.source) enough)

module _ (words : List (List ℕ)) (a : Asked) (bytes : List ℕ) (t : Term) (is : asked words ≡ Some a) (run : a.command ≡ Run) (typed : IsTyped bytes t) (enough : 100 * (2 * nodes_of t + 1) ≤ a.options.turns) where
  -- the run that is handed back is right as that of the input
  right_here : (r : Ran) → IsRightFor words (Some bytes) r → IsRight bytes a.options r
  right_here r right =
      let same = one_asked right.a a (asked words) right.asked is in
      subst (λ c. IsRightOf c (Some bytes) a.number a.size a.options r) run (subst (λ (b : Asked). IsRightOf b.command (Some bytes) b.number b.size b.options r) same right.right)

  run_ended : (Tells : Ran → List ℕ → Type 0) (o : Options) (q : Option Ran) (s : ℕ) (x : List ℕ) → IfSome q (IsRightFor words (Some bytes)) → run_answers.Answers Tells bytes o q s x → s ≢ 2
  run_ended Tells o q s x right (ran u r known here told) = λ two. right_ended bytes t a.options r (right_here r right) typed enough (unfinished_by r.ending two)
  run_ended Tells o q s x right (refused why cause) = λ two. typed_unrefused bytes t why typed cause

  reply_ended : (c : Command) (o : Options) (q : Option Ran) (s : ℕ) (x : List ℕ) → c ≡ Run → IfSome q (IsRightFor words (Some bytes)) → RepliesTo c o bytes q s x → s ≢ 2
  reply_ended c o q s x e right h = run_ended (IsReportOf o.trace) o q s x right (subst (λ k. RepliesTo k o bytes q s x) e h)

  unmade : {A : Type 0} (c : Command) (o : Options) (number size : ℕ) (q : Option Ran) (s : ℕ) (x : List ℕ) → c ≡ Run → Makes c o number size q s x → A
  unmade c o number size q s x e h = absurd (subst (λ k. Makes k o number size q s x) e h)

  ended : (q : Option Ran) (s : ℕ) (x : List ℕ) → IfSome q (IsRightFor words (Some bytes)) → Answers words (Some bytes) q s x → s ≢ 2
  ended q s x right (replied b g j) = reply_ended b.command b.options q s x (ap (λ (c : Asked). c.command) (one_asked b a (asked words) g is) ∙ run) right j.holds
  ended q s x right (made b g j) = unmade b.command b.options b.number b.size q s x (ap (λ (c : Asked). c.command) (one_asked b a (asked words) g is) ∙ run) j
  ended q s x right (words_refused g) = not_both (asked words) a is g
  ended q s x right (too_long b g on j) = λ two. absurd (cc two)

-- of what was written as an answer to what was left
pub never_unfinished : (words : List (List ℕ)) (left : Option (List ℕ)) (q : Option Ran) (status : ℕ) (before after : Option (List ℕ)) → IfSome q (IsRightFor words left) → (IsAnswer status → Answered words left q status before after) → NeverUnfinished words left status
never_unfinished words left q status before after right told a bytes t is run there typed enough = λ two.
    let answered = told (inr (inr (inl two))) in
    ended words a bytes t is run typed enough q status answered.text (subst (λ o. IfSome q (IsRightFor words o)) there right) (subst (λ o. Answers words o q status answered.text) there answered.answers) two
