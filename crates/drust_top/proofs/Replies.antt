-- What was read tells what the answer is.
use Rattle.std.proofs.Common.{◌≡◌, ℕ, ◌+◌, ◌≤◌, List, ◌++◌, length, true, Option, Some, None, IfSome, inl, inr, refl, sym, ap, ◌∙◌, subst, arith}
use Rattle.std.proofs.Common.{codes, length-append}
use Rattle.std.proofs.lemmas.List.{append-nil}
use Rattle.drust_io.specs.Flow.{ComesOff, NothingLeft, SomeComeOff}
use Rattle.fr_base.specs.declared.settings.Options.{Options}
use Rattle.fr_base.specs.declared.step.Ending3.{Ending3}
use Rattle.fr_base.specs.declared.step.Ending3.TheVariants.{Finished, Deadlocked, Going}
use Rattle.fr_plain.specs.Whole.{ending_of}
use Rattle.drust_cli.specs.declared.asked.Asked.{Asked}
use Rattle.drust_cli.specs.declared.asked.Command.{Command}
use Rattle.drust_cli.specs.declared.asked.Command.TheVariants.{Run, Replay, Gen, Load}
use Rattle.drust_cli.specs.Asked.{asked}
use Rattle.server_answers.specs.Below.drust_run.declared.ran.Ran.{Ran}
use Rattle.source_front.specs.Typed.{limit}
use Rattle.source_front.specs.declared.refused.Refused.{Refused}
use Rattle.source_front.specs.declared.refused.Refused.TheVariants.{Tokens, Grammar, Fault, Order, NoMemory}
use Rattle.source_front.specs.Refusals.{status_of}
use Rattle.replay_answers.specs.Replay.{status_of_ending}
use Rattle.replay_answers.specs.Answers.{HasReplayCause, Replayed, followed, unfollowed}
use Rattle.server_answers.specs.Runs.{IsRight}
use Rattle.drust_top.specs.Headline.{Within, OfLeft, reads, RepliesTo, Answers, replied, too_long, IsRightOf, IsRightFor, IsAnswer}
use Rattle.drust_top.specs.Inputs.{IsInput}

of_left : (P : List ℕ → Type 0) (bytes : List ℕ) (left : Option (List ℕ)) → P bytes → IsInput bytes left → OfLeft left P
of_left P bytes None p h = (bytes, p)
of_left P bytes (Some all) p h = subst P (sym h) p

-- an input that is answered so
pub answered : (words : List (List ℕ)) (a : Asked) (bytes : List ℕ) (left : Option (List ℕ)) (r : Option Ran) (status : ℕ) (text : List ℕ) → asked words ≡ Some a → IsInput bytes left → length bytes ≤ limit → RepliesTo a.command a.options bytes r status text → Answers words left r status text
answered words a bytes left r status text is i size told = replied a is (of_left (Within (λ b. RepliesTo a.command a.options b r status text)) bytes left (record { size = size; holds = told }) i)

-- the run of an input is right
right_of : (c : Command) (o : Options) (bytes : List ℕ) (left : Option (List ℕ)) (number size : ℕ) (r : Ran) → IsInput bytes left → IsRightOf c (Some bytes) number size o r → IsRightOf c left number size o r
right_of Run o bytes left number size r i h = of_left (λ b. IsRight b o r) bytes left h i
right_of Replay o bytes left number size r i h = h
right_of Gen o bytes left number size r i h = h
right_of Load o bytes left number size r i h = h

pub right_for : (words : List (List ℕ)) (a : Asked) (bytes : List ℕ) (left : Option (List ℕ)) (r : Option Ran) → asked words ≡ Some a → IsInput bytes left → IfSome r (IsRightOf a.command (Some bytes) a.number a.size a.options) → IfSome r (IsRightFor words left)
right_for words a bytes left None is i h = tt
right_for words a bytes left (Some r) is i h = record { a = a; asked = is; right = right_of a.command a.options bytes left a.number a.size r i h }

pub right_made : (words : List (List ℕ)) (a : Asked) (left : Option (List ℕ)) (r : Option Ran) → asked words ≡ Some a → IfSome r (IsRightOf a.command left a.number a.size a.options) → IfSome r (IsRightFor words left)
right_made words a left None is h = tt
right_made words a left (Some r) is h = record { a = a; asked = is; right = h }

-- all that was left was read
pub all_read : (bytes : List ℕ) (before after : Option (List ℕ)) → ComesOff bytes before after → NothingLeft after → IsInput bytes before
all_read bytes None after c n = tt
all_read bytes (Some all) None c n = let e : None ≡ Some c.0 = c.1 in absurd cc
all_read bytes (Some all) (Some rest) c n =
    let same : rest ≡ c.0 = let e : Some rest ≡ Some c.0 = c.1 in cc in
    c.2 ∙ ap (λ x. bytes ++ x) (sym same ∙ n) ∙ append-nil bytes

-- more than the limit was left
pub size_refused : (words : List (List ℕ)) (a : Asked) (before after : Option (List ℕ)) → asked words ≡ Some a → reads a.command ≡ true → SomeComeOff (limit + 1) before after → Answers words before None 9 (codes "refused size\n")
size_refused words a None after is on c = too_long a is on (c.0, omega (arith, c.1))
size_refused words a (Some all) after is on c = let e = ap length c.2.2 in too_long a is on (omega (arith, e, c.1, length-append c.0 c.2.0))

-- THE STATUS OF A REPLAY

ending_status : (e : Ending3) → IsAnswer (status_of_ending e)
ending_status Finished = inl refl
ending_status Deadlocked = inr (inl refl)
ending_status Going = inr (inr (inl refl))

unfollowed_status : (bytes : List ℕ) (why : Refused) → HasReplayCause bytes why → IsAnswer (status_of why)
unfollowed_status bytes (Tokens e) h = inr (inr (inr (inl refl)))
unfollowed_status bytes (Grammar e) h = inr (inr (inr (inl refl)))
unfollowed_status bytes (Fault place why) h = inr (inr (inr (inr (inl refl))))
unfollowed_status bytes (Order place) h = inr (inr (inr (inr (inr (inr (inr refl))))))
unfollowed_status bytes NoMemory h = absurd h

pub replay_status : (bytes : List ℕ) (status : ℕ) (text : List ℕ) → Replayed bytes status text → IsAnswer status
replay_status bytes status text (followed r) = subst IsAnswer (sym r.replayed.stands) (ending_status (ending_of r.replayed.last.state))
replay_status bytes status text (unfollowed why h) = unfollowed_status bytes why h
