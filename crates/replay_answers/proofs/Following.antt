-- Steps of orders, one after another.
use Rattle.std.proofs.Common.{◌≡◌, ℕ, zero, suc, length, take, drop, ◌+◌, ◌-◌, ◌<◌, replicate, arith, List, [], ◌∷◌, ◌++◌, Option, Some, None, refl, sym, ap, ap₂, ◌∙◌, subst, ℤ}
use Rattle.std.proofs.Common.{length-append}
use Rattle.std.specs.Prelude.{option_map, slice_get, Result, Ok, Err, IfOk}
use Rattle.std.proofs.lemmas.List.{append-nil, append_assoc, replicate-append-replicate, length-replicate, take-append-drop}
use Rattle.std.proofs.lemmas.Grind.{flat_map-append}
use Rattle.fr_base.specs.declared.label.Label.{Label}
use Rattle.fr_base.specs.declared.step.Fresh.{Fresh}
use Rattle.fr_plain.specs.Whole.{Whole, Stepped, Turn, step, then_labels, go_on, run}
use Rattle.journal.specs.declared.order.OrderLine.{OrderLine}
use Rattle.journal.specs.OrderText.{steps_of_line}
use Rattle.fr_plain.specs.Whole.{Refusal, refused}
use Rattle.fr_plain.proofs.RefusedSteps.{no_step}
use Rattle.fr_meaning.specs.declared.error.StepError.{StepError}
use Rattle.fr_meaning.specs.declared.error.StepError.TheVariants as step_error
use Rattle.fr_meaning.specs.PoolView.{error_of, refusal}
use Rattle.fr_base.specs.declared.step.Ending3.{Ending3}
use Rattle.fr_terms.specs.Terms.{Term}
use Rattle.fr_plain.specs.Resolve.{program}
use Rattle.fr_plain.specs.Whole.{start, ending_of}
use Rattle.replay_answers.specs.Replay.{source_in, turns, status_of_ending, replay_text, HasLines, Replays, ReplaysFrom}
use Rattle.source_front.specs.Typed.{IsTyped}
use Rattle.source_front.specs.declared.refused.Refused.{Refused}
use Rattle.source_front.specs.declared.refused.Refused.TheVariants.{Tokens, Grammar, Fault, Order, NoMemory}
use Rattle.replay_answers.specs.Runs.{Follows, IsStop, IsStopped, IsStoppedIn}

-- no labels in front
none_first : (o : Option Stepped) → then_labels [] o ≡ o
none_first None = refl
none_first (Some x) = refl

-- labels in front of labels
labels_twice : (ls ms : List Label) (o : Option Stepped) → then_labels ls (then_labels ms o) ≡ then_labels (ls ++ ms) o
labels_twice ls ms None = refl
labels_twice ls ms (Some x) = ap (λ ns. Some (record { state = x.state; labels = ns })) (sym (append_assoc ls ms x.labels))

go_on_labels : (ls : List Label) (o : Option Stepped) (f : Whole → Option Stepped) → go_on (then_labels ls o) f ≡ then_labels ls (go_on o f)
go_on_labels ls None f = refl
go_on_labels ls (Some x) f = sym (labels_twice ls x.labels (f x.state))

after_first : (o : Option Stepped) (ts us : List Turn) → ((m : Whole) → run m (ts ++ us) ≡ go_on (run m ts) (λ n. run n us)) → go_on o (λ x. run x (ts ++ us)) ≡ go_on (go_on o (λ x. run x ts)) (λ m. run m us)
after_first None ts us h = refl
after_first (Some x) ts us h = ap (then_labels x.labels) (h x.state) ∙ sym (go_on_labels x.labels (run x.state ts) (λ m. run m us))

-- one order behind another goes on from where the first one leads
pub run_append : (s : Whole) (ts us : List Turn) → run s (ts ++ us) ≡ go_on (run s ts) (λ m. run m us)
run_append s [] us = sym (none_first (run s us))
run_append s (t ∷ ts) us = after_first (step s t.0 t.1) ts us (λ m. run_append m ts us)

-- no step leads to where it starts
pub follows_none : (s : Whole) → Follows s [] s
follows_none s = record { labels = []; is = refl }

pub follows_both : (s m e : Whole) (ts us : List Turn) → Follows s ts m → Follows m us e → Follows s (ts ++ us) e
follows_both s m e ts us f g =
    record { labels = f.labels ++ g.labels; is = run_append s ts us ∙ ap (λ o. go_on o (λ n. run n us)) f.is ∙ ap (then_labels f.labels) g.is }

-- a plain step is one of an order
pub follows_one : (m e : Whole) (t : ℕ) (names : Fresh) (ls : List Label) → step m t names ≡ Some (record { state = e; labels = ls }) → Follows m ((t, names) ∷ []) e
follows_one m e t names ls h = record { labels = ls ++ []; is = ap (λ o. go_on o (λ x. run x [])) h }

-- where a step is none, no order that begins with it leads anywhere
pub stuck_now : (m : Whole) (t : ℕ) (names : Fresh) (us : List Turn) → step m t names ≡ None → run m ((t, names) ∷ us) ≡ None
stuck_now m t names us h = ap (λ o. go_on o (λ x. run x us)) h

pub stuck_after : (s m : Whole) (ts us : List Turn) → Follows s ts m → run m us ≡ None → run s (ts ++ us) ≡ None
stuck_after s m ts us f h = run_append s ts us ∙ ap (λ o. go_on o (λ n. run n us)) f.is ∙ ap (then_labels f.labels) h

-- the steps of lines, and of those after them
pub turns_both : (ls ms : List OrderLine) → turns (ls ++ ms) ≡ turns ls ++ turns ms
turns_both ls ms = flat_map-append steps_of_line ls ms

-- those of one line
pub turns_one : (l : OrderLine) → turns (l ∷ []) ≡ replicate l.steps (l.thread, l.fresh)
turns_one l = append-nil (steps_of_line l)

-- one more of the same steps
pub once_more : (n : ℕ) (t : Turn) → replicate n t ++ t ∷ [] ≡ replicate (n + 1) t
once_more n t = replicate-append-replicate n 1 t

-- some of the same steps, and the others
pub some_first : (n k : ℕ) (t : Turn) → n < k → replicate k t ≡ replicate n t ++ t ∷ replicate (k - n - 1) t
some_first n k t h =
    let one : suc (k - n - 1) ≡ 1 + (k - n - 1) = omega arith in
    let others : t ∷ replicate (k - n - 1) t ≡ replicate (1 + (k - n - 1)) t = ap (λ m. replicate m t) one in
    let all : k ≡ n + (1 + (k - n - 1)) = omega (arith, h) in
    ap (λ m. replicate m t) all ∙ sym (replicate-append-replicate n (1 + (k - n - 1)) t) ∙ ap (λ ts. replicate n t ++ ts) (sym others)

-- a step more of a line
pub line_goes : (n : ℕ) (s m e : Whole) (t : ℕ) (names : Fresh) (ls : List Label) → Follows s (replicate n (t, names)) m → step m t names ≡ Some (record { state = e; labels = ls }) → Follows s (replicate (n + 1) (t, names)) e
line_goes n s m e t names ls f h = subst (λ ts. Follows s ts e) (once_more n (t, names)) (follows_both s m e (replicate n (t, names)) ((t, names) ∷ []) f (follows_one m e t names ls h))

-- a line of which a step is none
pub line_stops : (n : ℕ) (l : OrderLine) (s m : Whole) → n < l.steps → Follows s (replicate n (l.thread, l.fresh)) m → step m l.thread l.fresh ≡ None → run s (turns (l ∷ [])) ≡ None
line_stops n l s m h f none =
    ap (run s) (turns_one l ∙ some_first n l.steps (l.thread, l.fresh) h)
    ∙ stuck_after s m (replicate n (l.thread, l.fresh)) ((l.thread, l.fresh) ∷ replicate (l.steps - n - 1) (l.thread, l.fresh)) f (stuck_now m l.thread l.fresh (replicate (l.steps - n - 1) (l.thread, l.fresh)) none)

-- a call that is refused for more than want of memory is no plain step
pub no_step_by : (s : Whole) (t : ℕ) (names : Fresh) (e : StepError) → (e ≡ step_error.NoMemory → ⊥) → (refusal s t names ≡ None → e ≡ step_error.NoMemory) → step s t names ≡ None
no_step_by s t names e other free = by (refused s t names) refl free
  where
    by : (o : Option Refusal) → refused s t names ≡ o → (option_map error_of o ≡ None → e ≡ step_error.NoMemory) → step s t names ≡ None
    by None is f = absurd (other (f refl))
    by (Some why) is f = no_step s t names why is

-- what such a refusal says of the order
pub line_is_stopped : (s : Whole) (l : OrderLine) (e : StepError) (why : Refused) → IsStop e l.place why → ((e ≡ step_error.NoMemory → ⊥) → run s (turns (l ∷ [])) ≡ None) → IsStopped s l why
line_is_stopped s l step_error.NoMemory why is h = subst (IsStopped s l) (sym is) tt
line_is_stopped s l step_error.NoThread why is h = subst (IsStopped s l) (sym is) (refl, h (λ x. cc))
line_is_stopped s l step_error.Ended why is h = subst (IsStopped s l) (sym is) (refl, h (λ x. cc))
line_is_stopped s l (step_error.Waits w) why is h = subst (IsStopped s l) (sym is) (refl, h (λ x. cc))
line_is_stopped s l step_error.NameKind why is h = subst (IsStopped s l) (sym is) (refl, h (λ x. cc))
line_is_stopped s l step_error.NameUsed why is h = subst (IsStopped s l) (sym is) (refl, h (λ x. cc))

-- one line more is taken
line_taken : (ls : List OrderLine) (n : ℕ) (l : OrderLine) → Some l ≡ slice_get ls n → take n ls ++ l ∷ [] ≡ take (n + 1) ls
line_taken [] n l h = absurd cc
line_taken (x ∷ ls) zero l h = let same : x ≡ l = cc in ap (λ k. k ∷ []) (sym same)
line_taken (x ∷ ls) (suc n) l h = let same : suc (n + 1) ≡ suc n + 1 = omega arith in ap (λ ks. x ∷ ks) (line_taken ls n l h) ∙ ap (λ k. take k (x ∷ ls)) same

-- the lines before one, that one, and those after it
line_between : (ls : List OrderLine) (n : ℕ) (l : OrderLine) → Some l ≡ slice_get ls n → ls ≡ take n ls ++ l ∷ drop (n + 1) ls
line_between ls n l h =
    sym (take-append-drop (n + 1) ls) ∙ ap (λ ks. ks ++ drop (n + 1) ls) (sym (line_taken ls n l h)) ∙ append_assoc (take n ls) (l ∷ []) (drop (n + 1) ls)

-- a line more is followed
pub line_more : (s m e : Whole) (ls : List OrderLine) (n : ℕ) (l : OrderLine) → Some l ≡ slice_get ls n → Follows s (turns (take n ls)) m → Follows m (turns (l ∷ [])) e → Follows s (turns (take (n + 1) ls)) e
line_more s m e ls n l h f g =
    subst (λ ts. Follows s ts e) (sym (turns_both (take n ls) (l ∷ [])) ∙ ap turns (line_taken ls n l h)) (follows_both s m e (turns (take n ls)) (turns (l ∷ [])) f g)

-- and its steps are counted
pub steps_more : (ls : List OrderLine) (n : ℕ) (l : OrderLine) → Some l ≡ slice_get ls n → length (turns (take (n + 1) ls)) ≡ length (turns (take n ls)) + l.steps
steps_more ls n l h =
    ap (λ ks. length (turns ks)) (sym (line_taken ls n l h)) ∙ ap length (turns_both (take n ls) (l ∷ []))
    ∙ length-append (turns (take n ls)) (turns (l ∷ [])) ∙ ap (λ k. length (turns (take n ls)) + k) (ap length (turns_one l) ∙ length-replicate l.steps (l.thread, l.fresh))

-- lines that are followed up to one that is none
pub stops_in : (s m : Whole) (ls : List OrderLine) (n : ℕ) (l : OrderLine) (why : Refused) → Some l ≡ slice_get ls n → Follows s (turns (take n ls)) m → IsStopped m l why → IsStoppedIn s ls why
stops_in s m ls n l (Order place) h f g =
    record { front = take n ls; line = l; rest = drop (n + 1) ls; whole = line_between ls n l h; reached = record { state = m; labels = f.labels }; goes = f.is; stuck = g.1; here = g.0 }
stops_in s m ls n l NoMemory h f g = tt
stops_in s m ls n l (Tokens e) h f g = absurd g
stops_in s m ls n l (Grammar e) h f g = absurd g
stops_in s m ls n l (Fault place why) h f g = absurd g

-- a state that follows an order is replayed from there
pub replays_from : (from to : Whole) (lines : List OrderLine) (steps : ℕ) (end : Ending3) (output : List ℤ) (status : ℕ) (text : List ℕ) → Follows from (turns lines) to → steps ≡ length (turns lines) → end ≡ ending_of to → output ≡ to.output → status ≡ status_of_ending end → text ≡ replay_text end steps output → ReplaysFrom from lines status text
replays_from from to lines steps end output status text goes counted ends printed is written =
    record {
      last = record { state = to; labels = goes.labels };
      goes = goes.is;
      stands = is ∙ ap status_of_ending ends;
      written = written ∙ ap₂ (λ e k. replay_text e k output) ends counted ∙ ap (replay_text (ending_of to) (length (turns lines))) printed;
    }

-- what is replayed from a typed program's start is its order
pub all_replayed : {A : Type 0} (bytes : List ℕ) (t : Term) (lines : List OrderLine) (from : Whole) (r : Result A Refused) (status : A → ℕ) (text : A → List ℕ) → IsTyped (source_in bytes) t → HasLines bytes lines → from ≡ start (program t) → IfOk r (λ x. ReplaysFrom from lines (status x) (text x)) → IfOk r (λ x. Replays bytes (status x) (text x))
all_replayed bytes t lines from (Ok x) status text typed h begins is =
    record { term = t; lines = lines; order = record { typed = typed; behind = h }; replayed = subst (λ (s : Whole). ReplaysFrom s lines (status x) (text x)) begins is }
all_replayed bytes t lines from (Err why) status text typed h begins is = tt
