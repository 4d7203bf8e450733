-- A copy that is there afterwards was there under its word, or asked for: so under a word of which none was, nor asked for, there is none.
use Rattle.std.proofs.Common.{◌≡◌, ◌⊎◌, ⊎_elim, ℕ, zero, suc, ◌≤◌, ◌+◌, ◌==◌, false, List, [], ◌∷◌, None, refl, ap, ◌∙◌, arith}
use Rattle.std.proofs.lemmas.Bool.{eq-eqb}
use Rattle.law_copies_kept.specs.Below.heap_partition.declared.value.Cell.{Cell}
use Rattle.law_copies_kept.specs.Below.journal.View.{EntryView}
use Rattle.law_copies_kept.specs.Below.server_msgs.declared.message.Message.{Message}
use Rattle.law_copies_kept.specs.Below.server_msgs.declared.message.Message.TheVariants as message
use Rattle.law_copies_kept.specs.Below.server_model.Servers.{Cluster}
use Rattle.law_copies_kept.specs.Below.server_model.Clusters.{apply}
use Rattle.law_copies_kept.specs.Below.coherent_memory.Names.{tot, one, other, some, Among}
use Rattle.law_copies_kept.specs.Below.coherent_memory.Things.{Thing, copied, sent, things_of}
use Rattle.law_copies_kept.specs.Below.coherent_memory.Sight.{sight, issued}
use Rattle.law_copies_kept.specs.Below.coherent_memory.Weights.{copies}
use Rattle.law_copies_kept.specs.Below.coherent_memory.Placing.{words, clean_cell, other_cell, other_copy}
use Rattle.law_copies_kept.specs.Below.coherent_memory.Coherent.{IsSound, Holds, copies_agree}
use Rattle.law_copies_kept.proofs.Below.coherent_memory.Words.{none_at, none_all}
use Rattle.law_copies_kept.proofs.Below.law_counts_sums.Results.{weaker}
use Rattle.law_copies_kept.proofs.Below.law_counts_sums.MutexResults.{has}
use Rattle.law_copies_kept.proofs.Below.law_counts_things.things.Messages.{on_sent}
use Rattle.law_copies_kept.proofs.Below.law_results_reads.Flights.{has_weight}
use Rattle.law_copies_kept.proofs.Below.law_counts_things.names.Sums.{copy_of}
use Rattle.law_copies_kept.proofs.copies.Comes.{ServedWeighNothing, copies_come}
use Rattle.law_copies_kept.proofs.copies.Served.{served_right}
use Rattle.law_copies_kept.proofs.references.Asked.{asking}
use Rattle.law_copies_kept.proofs.objects.Turned.{Unasked}
use Rattle.law_copies_kept.specs.hidden.Hidden.{sent_under, under_word, NoneUnder, CellsGoOnUnder, CopiesComeUnderWords}

-- WHAT IS UNDER A WORD

some_one : (n : ℕ) → 1 ≤ n → other (some n) ≡ 0
some_one zero l = absurd (omega (arith, l))
some_one (suc n) l = refl

-- a copy and a request
message_under : (w n : ℕ) (m : Message) → sent_under w m ≤ copies w (sent n m) + asking (λ u. one (u == w)) n m
message_under w n (message.Fetch v o s t) = omega arith
message_under w n (message.Fetched v c t) = omega arith
message_under w n m = omega arith

thing_under : (w : ℕ) (x : Thing) → under_word w x ≤ copies w x + on_sent (asking (λ u. one (u == w))) x
thing_under w (sent n m) = message_under w n m
thing_under w (copied s c) = omega arith
thing_under w x = omega arith

all_under : (w : ℕ) (b : List Thing) → tot (under_word w) b ≤ tot (copies w) b + tot (on_sent (asking (λ u. one (u == w)))) b
all_under w [] = omega arith
all_under w (x ∷ b) = omega (arith, thing_under w x, all_under w b)

-- where no copy is there, nor asked for, none is under the word
pub none_under : (k : Cluster) (w : ℕ) → tot (copies w) (things_of k) ≡ 0 → Unasked k w → NoneUnder k w
none_under k w none unasked = omega (arith, none, unasked, all_under w (things_of k))

-- WEIGHTS

-- how much a copy under a word differs from the clean cell of that word
abbrev differs : Cluster → ℕ → Cell → ℕ
differs k v c = other_cell c (clean_cell (sight k) v)

abbrev no_word : ℕ → ℕ
no_word v = 0

-- and that the word wasn't issued, or nothing was under it
abbrev is_off : Cluster → ℕ → Cell → ℕ
is_off k v c = differs k v c + (other (issued (sight k) v) + other (some (tot (under_word v) (things_of k))))

is_under : (k : Cluster) (v : ℕ) (x : Thing) → Among x (things_of k) → under_word v x ≡ one (v == v) → other (some (tot (under_word v) (things_of k))) ≡ 0
is_under k v x i e =
    let itself : one (v == v) ≡ 1 = ap one (eq-eqb v v refl) in
    some_one (tot (under_word v) (things_of k)) (omega (arith, has_weight (under_word v) x (things_of k) i, e, itself))

module _ (k : Cluster) (sound : IsSound k) where
  agree : tot (other_copy (sight k)) (things_of k) ≡ 0
  agree = sound.copies.copies_agree

  issued_all : tot (words (λ v. other (issued (sight k) v))) (things_of k) ≡ 0
  issued_all = sound.words.are_issued

  -- before the event no copy is off
  its : (v : ℕ) (c : Cell) (x : Thing) → Among x (things_of k) → other_copy (sight k) x ≡ differs k v c → other (issued (sight k) v) ≤ words (λ u. other (issued (sight k) u)) x → under_word v x ≡ one (v == v) → is_off k v c ≡ 0
  its v c x i e f g =
      let right : other_copy (sight k) x ≡ 0 = none_at (other_copy (sight k)) x (things_of k) agree i in
      let known : words (λ u. other (issued (sight k) u)) x ≡ 0 = none_at (words (λ u. other (issued (sight k) u))) x (things_of k) issued_all i in
      omega (arith, right, known, e, f, is_under k v x i g)

  by : (n : ℕ) (m : Message) → Among (sent n m) (things_of k) → copy_of (is_off k) no_word (sent n m) ≡ 0
  by n (message.Fetched v c t) i = let q = its v c (sent n (message.Fetched v c t)) i refl (omega arith) refl in omega (arith, q)
  by n (message.Fetch v o s t) i = refl
  by n m i = refl

  each : (x : Thing) → Among x (things_of k) → copy_of (is_off k) no_word x ≡ 0
  each (sent n m) i = by n m i
  each (copied r c) i = its c.word c.cell (copied r c) i refl (omega arith) refl
  each x i = refl

  served : ServedWeighNothing k (is_off k)
  served n s here i v o r t c q f =
      let right = served_right k sound n s here i v o r t c q f in
      let asked = has k sound n s here i (message.Fetch v o r t) q (words (λ u. other (issued (sight k) u))) in
      let itself : one (v == v) ≡ 1 = ap one (eq-eqb v v refl) in
      let there = has k sound n s here i (message.Fetch v o r t) q (under_word v) in
      let under : other (some (tot (under_word v) (things_of k))) ≡ 0 = some_one (tot (under_word v) (things_of k)) (omega (arith, there, itself)) in
      omega (arith, right, asked, issued_all, under)

-- and afterwards none that wasn't differs, where cells go on
differs_not : (k z : Cluster) → CellsGoOnUnder k z → (v : ℕ) (c : Cell) → is_off k v c ≡ 0 → other_cell c (clean_cell (sight z) v) ≡ 0
differs_not k z go v c e =
    ⊎_elim (λ (same : clean_cell (sight z) v ≡ clean_cell (sight k) v). ap (other_cell c) same ∙ first e)
    (λ (o : (clean_cell (sight z) v ≡ None) ⊎ ((issued (sight k) v ≡ false) ⊎ NoneUnder k v)).
    ⊎_elim (λ (none : clean_cell (sight z) v ≡ None). ap (other_cell c) none)
    (λ (p : (issued (sight k) v ≡ false) ⊎ NoneUnder k v).
    ⊎_elim (λ (new : issued (sight k) v ≡ false). absurd (omega (arith, e, ap other new))) (λ (none : NoneUnder k v). absurd (omega (arith, e, ap (λ n. other (some n)) none))) p) o) (go v)
  where
    first : is_off k v c ≡ 0 → differs k v c ≡ 0
    first z0 = omega (arith, z0)

thing_right : (k z : Cluster) → CellsGoOnUnder k z → (x : Thing) → copy_of (is_off k) no_word x ≡ 0 → other_copy (sight z) x ≡ 0
thing_right k z go (copied r c) e = differs_not k z go c.word c.cell e
thing_right k z go (sent n (message.Fetched v c t)) e = differs_not k z go v c (omega (arith, e))
thing_right k z go (sent n (message.Fetch v o s t)) e = refl
thing_right k z go (sent n m) e = refl
thing_right k z go x e = refl

pub come_under : CopiesComeUnderWords
come_under k e sound few =
    weaker (λ (d : Cluster × EntryView). tot (copy_of (is_off k) no_word) (things_of d.0) ≡ 0) (λ (d : Cluster × EntryView). CellsGoOnUnder k d.0 → Holds d.0 copies_agree) (apply k e)
    (copies_come k e (is_off k) no_word sound few (none_all (copy_of (is_off k) no_word) (things_of k) (each k sound)) (served k sound) (λ s here t y i q there at f p. refl))
    (λ d none go. none_all (other_copy (sight d.0)) (things_of d.0) (λ x m. thing_right k d.0 go x (none_at (copy_of (is_off k) no_word) x (things_of d.0) none m)))
