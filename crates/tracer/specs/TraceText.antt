-- The text of a trace: a line for each entry of a journal (this project's format).
use Rattle.std.specs.Prelude.{ℕ, zero, suc, ◌+◌, ◌/◌, ◌%◌, nat_lt, List, [], ◌∷◌, ◌++◌, length, codes, Option, Some, None, if◌then◌else◌}
use Rattle.std.specs.Fmt.{decimal, signed_decimal}
use Rattle.std.specs.List.{flat_map}
use Rattle.fr_base.specs.declared.name.MutexNo.{MutexNo}
use Rattle.fr_base.specs.declared.name.ObjNo.{ObjNo}
use Rattle.fr_base.specs.declared.release.Released.{Released}
use Rattle.fr_base.specs.declared.release.Released.TheVariants as released
use Rattle.fr_base.specs.declared.label.Plain.{Plain}
use Rattle.fr_base.specs.declared.label.Plain.TheVariants as plain
use Rattle.fr_base.specs.declared.label.Label.{Label}
use Rattle.fr_base.specs.declared.label.Label.TheVariants as label
use Rattle.fr_base.specs.declared.step.Fresh.{Fresh}
use Rattle.fr_base.specs.declared.step.Fresh.TheVariants as fresh
use Rattle.journal.specs.declared.act.Act.{Act}
use Rattle.journal.specs.declared.act.Act.TheVariants as act
use Rattle.journal.specs.View.{EntryView}
use Rattle.journal.specs.OrderText.{thread_text, mutex_text}

abbrev pub hex_digit : ℕ → ℕ
hex_digit d = if nat_lt d 10 then 48 + d else 87 + d

-- the last so many hexadecimal digits of a number, in lower case
unfoldable pub hex_digits : ℕ → ℕ → List ℕ
hex_digits zero n = []
hex_digits (suc places) n = hex_digits places (n / 16) ++ hex_digit (n % 16) ∷ []

-- a word has sixteen
abbrev pub word_text : ℕ → List ℕ
word_text w = hex_digits 16 w

abbrev pub object_text : ObjNo → List ℕ
object_text o = thread_text o.thread ++ codes "#" ++ decimal o.count

abbrev pub plain_text : Plain → List ℕ
plain_text plain.Nothing = codes "nothing"
plain_text plain.Unit = codes "unit"
plain_text (plain.Int n) = signed_decimal n
plain_text (plain.Box o) = codes "box=" ++ object_text o
plain_text (plain.Mutex m) = codes "mutex=" ++ mutex_text m
plain_text (plain.Task t) = codes "task=" ++ thread_text t

abbrev pub released_text : Released → List ℕ
released_text (released.Mutex m) = codes "mutex=" ++ mutex_text m
released_text (released.Task t) = codes "task=" ++ thread_text t

-- FIELDS: each behind a colon

abbrev pub object_field : ObjNo → List ℕ
object_field o = codes ":" ++ object_text o

abbrev pub word_field : ℕ → List ℕ
word_field w = codes ":" ++ word_text w

abbrev pub server_field : ℕ → List ℕ
server_field s = codes ":" ++ decimal s

abbrev pub thread_field : ℕ → List ℕ
thread_field t = codes ":" ++ thread_text t

abbrev pub mutex_field : MutexNo → List ℕ
mutex_field m = codes ":" ++ mutex_text m

-- an object and a word
abbrev pub pair_fields : ObjNo → ℕ → List ℕ
pair_fields o w = object_field o ++ word_field w

-- an object and its value
abbrev pub value_fields : ObjNo → Plain → List ℕ
value_fields o v = object_field o ++ (codes ":" ++ plain_text v)

-- ACTS AND LABELS: a name and its fields

abbrev pub act_text : Act → List ℕ
act_text (act.Make o w) = codes "make" ++ pair_fields o w
act_text (act.Local o w) = codes "local" ++ pair_fields o w
act_text (act.Hit o w) = codes "hit" ++ pair_fields o w
act_text (act.Ask o w) = codes "ask" ++ pair_fields o w
act_text (act.Serve o w s) = codes "serve" ++ pair_fields o w ++ server_field s
act_text (act.Fill o w) = codes "fill" ++ pair_fields o w
act_text (act.Pull o w) = codes "pull" ++ pair_fields o w
act_text (act.Give o w s) = codes "give" ++ pair_fields o w ++ server_field s
act_text (act.Take o old new) = codes "take" ++ pair_fields o old ++ word_field new
act_text (act.Tint o old new) = codes "tint" ++ pair_fields o old ++ word_field new
act_text (act.Renew o old new) = codes "renew" ++ pair_fields o old ++ word_field new
act_text (act.Condemn o w) = codes "condemn" ++ pair_fields o w
act_text (act.Free o w) = codes "free" ++ pair_fields o w
act_text (act.Evict w) = codes "evict" ++ word_field w
act_text (act.AskLock m) = codes "asklock" ++ mutex_field m
act_text (act.Grant m t s) = codes "grant" ++ mutex_field m ++ thread_field t ++ server_field s
act_text (act.GiveBack m) = codes "giveback" ++ mutex_field m
act_text (act.AskDup m) = codes "askdup" ++ mutex_field m
act_text (act.Dupped m t s) = codes "dupped" ++ mutex_field m ++ thread_field t ++ server_field s
act_text (act.LetGo x) = codes "letgo:" ++ released_text x
act_text (act.Start t s) = codes "start" ++ thread_field t ++ server_field s
act_text (act.AskJoin t) = codes "askjoin" ++ thread_field t
act_text (act.Answer t by s) = codes "answer" ++ thread_field t ++ thread_field by ++ server_field s
act_text (act.Finish t) = codes "finish" ++ thread_field t
act_text (act.Depart t s) = codes "depart" ++ thread_field t ++ server_field s

abbrev pub label_text : Label → List ℕ
label_text (label.Make o v) = codes "make" ++ value_fields o v
label_text (label.Load o v) = codes "load" ++ value_fields o v
label_text (label.Store o v) = codes "store" ++ value_fields o v
label_text (label.Drop o) = codes "drop" ++ object_field o
label_text (label.Print n) = codes "print:" ++ signed_decimal n
label_text (label.Lock m) = codes "lock" ++ mutex_field m
label_text (label.Unlock m) = codes "unlock" ++ mutex_field m
label_text (label.Start t) = codes "start" ++ thread_field t
label_text (label.End t) = codes "end" ++ thread_field t

-- THE LINES

abbrev pub who_text : Option ℕ → List ℕ
who_text None = codes "-"
who_text (Some t) = thread_text t

-- a plain step with the names that it took
abbrev pub names_text : Fresh → List ℕ
names_text fresh.None = codes "step"
names_text (fresh.Thread t) = codes "thread" ++ thread_field t
names_text (fresh.Threads t u) = codes "threads" ++ thread_field t ++ codes "," ++ thread_text u
names_text (fresh.Mutex m) = codes "mutex" ++ mutex_field m

abbrev pub step_text : Option Fresh → List ℕ
step_text None = codes "-"
step_text (Some names) = names_text names

-- each behind a space
abbrev pub acts_text : List Act → List ℕ
acts_text acts = flat_map (λ a. codes " " ++ act_text a) acts

abbrev pub labels_text : List Label → List ℕ
labels_text labels = flat_map (λ l. codes " " ++ label_text l) labels

-- the server, the thread, the step, the acts and behind a bar the labels
abbrev pub entry_text : EntryView → List ℕ
entry_text e = decimal e.server ++ codes " " ++ who_text e.thread ++ codes " " ++ step_text e.done ++ acts_text e.acts ++ codes " |" ++ labels_text e.labels ++ codes "\n"

-- how many entries there are, and their lines
abbrev pub trace : List EntryView → List ℕ
trace es = codes "trace " ++ decimal (length es) ++ codes "\n" ++ flat_map entry_text es
