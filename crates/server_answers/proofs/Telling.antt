-- What an answer tells.
use Rattle.std.proofs.Common.{◌≡◌, ℕ, List, Option, Some, None, sym, subst, string_bytes}
use Rattle.std.specs.Prelude.{Result, Ok, Err, IfOk}
use Rattle.fr_base.specs.declared.settings.Options.{Options}
use Rattle.fr_base.specs.declared.memory.NoMemory.{NoMemory as WantOfMemory}
use Rattle.law_length_programs.specs.Below.law_runs_right.Below.fr_terms.Terms.{Term}
use Rattle.drust_run.specs.declared.ran.Ran.{Ran}
use Rattle.source_front.specs.declared.refused.Refused.{Refused}
use Rattle.source_front.specs.Refusals.{HasCause, IsRefusedBy, status_of as status_of_refusal, text_of}
use Rattle.source_front.proofs.Refusals.{has_cause}
use Rattle.source_front.specs.Typed.{IsTyped}
use Rattle.server_answers.specs.declared.answer.Answer.{Answer}
use Rattle.server_answers.specs.Runs.{IsRunOf}
use Rattle.server_answers.specs.Answers.{Answers, ran, refused, Refuses, status_of}

-- a refusal of the source
refusal_told : (Tells : Ran → List ℕ → Type 0) (bytes : List ℕ) (o : Options) (why : Refused) (r : Option Ran) (status : ℕ) (text : List ℕ) → IsRefusedBy bytes why → Refuses why r status text → Answers Tells bytes o r status text
refusal_told Tells bytes o why r status text h g =
    let told : Answers Tells bytes o None (status_of_refusal why) (text_of why) = refused why (has_cause bytes why g.cause h) in
    subst (λ q. Answers Tells bytes o q status text) (sym g.none)
    (subst (λ s. Answers Tells bytes o None s text) (sym g.stands) (subst (λ x. Answers Tells bytes o None (status_of_refusal why) x) (sym g.says) told))

-- what is made of a refusal
pub all_refused : (Tells : Ran → List ℕ → Type 0) (bytes : List ℕ) (o : Options) (why : Refused) (r : Result Answer WantOfMemory) → IsRefusedBy bytes why → IfOk r (λ a. Refuses why a.ran a.status (string_bytes a.text))
    → IfOk r (λ a. Answers Tells bytes o a.ran a.status (string_bytes a.text))
all_refused Tells bytes o why (Ok a) h g = refusal_told Tells bytes o why a.ran a.status (string_bytes a.text) h g
all_refused Tells bytes o why (Err e) h g = tt

-- a run, told
run_told : (Tells : Ran → List ℕ → Type 0) (bytes : List ℕ) (o : Options) (t : Term) (x : Ran) (r : Option Ran) (status : ℕ) (text : List ℕ) → IsTyped bytes t → IsRunOf t o x → r ≡ Some x → status ≡ status_of x.ending → Tells x text → Answers Tells bytes o r status text
run_told Tells bytes o t x r status text typed is a b c =
    let told : Answers Tells bytes o (Some x) (status_of x.ending) text = ran t x typed is c in
    subst (λ q. Answers Tells bytes o q status text) (sym a) (subst (λ s. Answers Tells bytes o (Some x) s text) (sym b) told)

-- what is made of a run
pub all_told : (Tells : Ran → List ℕ → Type 0) (bytes : List ℕ) (o : Options) (t : Term) (x : Ran) (r : Result Answer WantOfMemory) → IsTyped bytes t → IsRunOf t o x → IfOk r (λ a. a.ran ≡ Some x) → IfOk r (λ a. a.status ≡ status_of x.ending)
    → IfOk r (λ a. Tells x (string_bytes a.text)) → IfOk r (λ a. Answers Tells bytes o a.ran a.status (string_bytes a.text))
all_told Tells bytes o t x (Ok a) typed is p q s = run_told Tells bytes o t x a.ran a.status (string_bytes a.text) typed is p q s
all_told Tells bytes o t x (Err e) typed is p q s = tt
